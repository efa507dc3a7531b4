-- Two words, and the clock's behind them (`tail_puts`).
use Rattle.flat.proofs.Closing.{tail_puts}
use Rattle.std.proofs.Common.{rules}
use Rattle.flat.proofs.put_tail.Goals as goal

pub returns : goal.returns
returns c = search (tail_puts, rules)
