use Rattle.std.proofs.Common.{◌≡◌, ◌^◌, ◌<◌, arith}
use Rattle.stores.specs.Functions.{point}
use Rattle.std.proofs.lemmas.Nat.{one_shl}
use Rattle.stores.proofs.WordBits.{point_below, points_le}
use Rattle.stores.proofs.words.WordsStore.value.Goals as goal
use Rattle.stores.proofs.words.WordsStore.value.Goals.{then-e, else-e}

in_range : (c : goal.After-row_known-1) → c.args.a < 2 ^ c.args.self.now.inputs
in_range c = omega (arith, c.if-self-a.false, one_shl c.args.self.now.inputs 64 (omega (arith, c.args.self.now.sound.few)))

the_point : (c : goal.After-row_known-1) → c.if-e.p ≡ point c.args.self.now.inputs c.args.e c.args.a
the_point c =
    let s = one_shl c.args.self.now.inputs 64 (omega (arith, c.args.self.now.sound.few)) in
    elim c.if-e.branch [
      | then-e w ↦ rw w.if-e.true (omega (arith, w.p-is))
      | else-e w ↦ rw w.if-e.false (omega (arith, w.p-is))
    ]

pub overflow_shr-result : goal.overflow_shr-result
overflow_shr-result c =
    let n = c.args.self.now.inputs in
    omega (arith, the_point c, point_below n c.args.e c.args.a (in_range c), points_le n c.args.self.now.sound.few)
