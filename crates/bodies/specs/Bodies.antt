-- What a claim does to the part of one row. Definitions only.
use Rattle.std.specs.Prelude.{cond}
use Rattle.receiver.specs.declared.Part.{Part}
use Rattle.heard.specs.declared.Claiming.{Claiming}
use Rattle.verdicts.specs.Verdict.{run_ended}

-- what was heard is the claim's; a move ends the verdict's run
abbrev pub claim_part : Part → Claiming → Part
claim_part p c = record { heard = c.heard; verdict = cond c.moved (run_ended p.verdict) p.verdict; judged_ms = p.judged_ms }
