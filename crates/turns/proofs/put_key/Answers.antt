-- `turns::put_key` meets its contract: the 32 bytes from the place on are the key's.
use Rattle.std.proofs.Common.{◌≡◌, length, rules}
use Rattle.turns.proofs.Laws.{key_put}
use Rattle.turns.proofs.put_key.Goals as goal

pub returns : goal.returns
returns c =
    let long : length c.args.key ≡ 32 = search rules in
    key_put c.args.list.now c.args.key c.copy_from_slice.new.self c.args.at long c.requires c.copy_from_slice.ensures.after
