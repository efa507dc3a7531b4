-- The stores of its parts, one behind the other, are the row's 25 words (`closes`), and its links are in range (`links_in`).
use Rattle.flat.proofs.Closing.{closes, links_in}
use Rattle.std.proofs.Common.{rules}
use Rattle.flat.proofs.close.Goals as goal

pub returns : goal.returns
returns c = search (closes, links_in c.args.row _ c.from.ensures c.put_tail.ensures.1 c.put_tail.ensures.2, rules)
