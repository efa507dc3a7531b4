-- What is left from a place on are that many words (`numbers_told`).
use Rattle.flat.proofs.Opening.{numbers_told}
use Rattle.std.proofs.Common.{rules}
use Rattle.flat.proofs.numbers_fit.Goals as goal

pub returns-then-fit-2 : goal.returns-then-fit-2
returns-then-fit-2 c = numbers_told c.args.words.now _ (search rules)

pub returns-else-fit-2 : goal.returns-else-fit-2
returns-else-fit-2 c = numbers_told c.args.words.now _ (search rules)
