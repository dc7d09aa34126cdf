use Rattle.std.proofs.Common.{arith, subst}
use Rattle.diagram.specs.Rows.{SoundOf}
use Rattle.diagram.proofs.Building.{less_sound}
use Rattle.diagram.proofs.diagram.Diagram.cut.Goals as goal

pub invariant_of-self : goal.invariant_of-self
invariant_of-self c =
    let s = c.loop-k.self in
    record { sound = less_sound (subst (λ x. SoundOf s.inputs x s.rows.now s.heads) c.loop-k.invariant.0 s.sound) (omega arith) c.chain_of.ensures.0 c.chain_of.ensures.1 }
