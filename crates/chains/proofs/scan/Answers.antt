-- A step leaves what the whole scan comes to, for the same key and one row fewer, and a scan that stops has come to it.
use Rattle.std.proofs.Common.{rules}
use Rattle.chains.proofs.Laws.{scan_within, scan_goes, scan_key, scan_less, scan_ends}
use Rattle.chains.proofs.scan.Goals as goal

pub look_at-g-requires : goal.look_at-g-requires
look_at-g-requires g c = search (scan_within, rules)

pub loop-g-smaller : goal.loop-g-smaller
loop-g-smaller g c = search (scan_less, rules)

pub loop-g-preserved : goal.loop-g-preserved
loop-g-preserved g c = (search (scan_goes, rules), search (scan_key, rules))

pub returns : goal.returns
returns g c = search (scan_ends, rules)
