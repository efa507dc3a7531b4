-- Its stores are one run of its words (`heard_puts`).
use Rattle.flat.proofs.Closing.{heard_puts}
use Rattle.std.proofs.Common.{rules}
use Rattle.flat.proofs.put_heard.Goals as goal

pub returns : goal.returns
returns c = search (heard_puts, rules)
