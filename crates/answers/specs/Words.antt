-- The words of the answers (README, 'A list of calls'), as bytes. Definitions only.
use Rattle.std.specs.Prelude.{ℕ, List, ◌++◌}
use Rattle.fields.specs.Text.{spell}
use Rattle.readers.specs.declared.Name.{Name}
use Rattle.readers.specs.declared.Name.TheVariants as name

-- one text and another after it
infixr 40 ◌then◌
abbrev pub ◌then◌ : List ℕ → List ℕ → List ℕ
s then t = s ++ t

-- the fields, as README names them
abbrev pub name_text : Name → List ℕ
name_text name.A = spell "A"
name_text name.Address = spell "ADDRESS"
name_text name.After = spell "AFTER"
name_text name.Aircraft = spell "AIRCRAFT"
name_text name.Alt = spell "ALT"
name_text name.AtMs = spell "AT_MS"
name_text name.B = spell "B"
name_text name.Before = spell "BEFORE"
name_text name.Word = spell "the call"
name_text name.Cells = spell "N"
name_text name.Distance = spell "DISTANCE"
name_text name.Even = spell "EVEN"
name_text name.Feet = spell "FEET"
name_text name.First = spell "FIRST"
name_text name.Free = spell "FREE"
name_text name.Generation = spell "GEN"
name_text name.Key = spell "KEY"
name_text name.Last = spell "LAST"
name_text name.Lat = spell "LAT"
name_text name.Lat1 = spell "LAT1"
name_text name.Lat2 = spell "LAT2"
name_text name.Lon = spell "LON"
name_text name.Lon1 = spell "LON1"
name_text name.Lon2 = spell "LON2"
name_text name.Moved = spell "MOVED"
name_text name.NowMs = spell "NOW_MS"
name_text name.Number = spell "I"
name_text name.Odd = spell "ODD"
name_text name.Others = spell "OTHERS"
name_text name.Rows = spell "C"
name_text name.Site = spell "SITE"
name_text name.Value = spell "WORD"
name_text name.Verdict = spell "VERDICT"
name_text name.Wrongs = spell "WRONGS"
name_text name.K = spell "K"
name_text name.Next = spell "NEXT"
name_text name.Room = spell "ROOM"
name_text name.Now = spell "NOW"
