-- 01, 'Ticks, plane and sphere': the column of an east alone, as a number for the test that divides.
use Rattle.std.specs.Prelude.{ℕ, cond, ℤ}
use Rattle.angles.specs.Plane.{near, column}

-- 'below 100,000,000 in size: column = (east + 100,000,000) div 5,000,000'; 65,535 for any other
unfoldable pub column_answer : ℤ → ℕ
column_answer mm = cond (near mm) (column mm) 65535
