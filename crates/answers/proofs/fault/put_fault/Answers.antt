-- The longer texts: each fault by its clause of the definition.
use Rattle.answers.proofs.fault.put_fault.Goals as goal

pub returns-in-Extra : goal.returns-in-Extra
returns-in-Extra c = rw (c.in-Extra.is, ← c.of_name-in-Extra.ensures) c.put_two-in-Extra.ensures

pub returns-in-StrayReturn : goal.returns-in-StrayReturn
returns-in-StrayReturn c = rw c.in-StrayReturn.is c.put-in-StrayReturn.ensures.adds

pub returns-in-TooLong : goal.returns-in-TooLong
returns-in-TooLong c = rw c.in-TooLong.is c.put-in-TooLong.ensures.adds

pub returns-in-TooManyRows : goal.returns-in-TooManyRows
returns-in-TooManyRows c = rw c.in-TooManyRows.is c.put-in-TooManyRows.ensures.adds
