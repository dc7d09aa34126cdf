use Rattle.std.proofs.Common.{take, arith, lit≤, length-take}
use Rattle.stores.proofs.Keeping.{new_sound}
use Rattle.stores.proofs.words.Words.new.Goals as goal

pub invariant_of-result : goal.invariant_of-result
invariant_of-result c =
    let ws = c.args.words.now in
    let n = c.min-count.result in
    record { sound = new_sound 0 (take n ws) (lit≤ tt) (omega (arith, length-take n ws, c.min-count.ensures)) }
