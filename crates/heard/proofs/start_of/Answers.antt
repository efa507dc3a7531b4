-- The odd half begins behind the even half's 1,672 cells.
use Rattle.heard.proofs.SiteLaws.{start_odd}
use Rattle.heard.proofs.start_of.Goals as goal

pub returns-else-even : goal.returns-else-even
returns-else-even c = start_odd _ c.if-even.false
