use Rattle.std.proofs.Common.{◌≡◌, ap, ◌∙◌, arith}
use Rattle.std.proofs.lemmas.Nat.{one_shl}
use Rattle.stores.specs.Functions.{point}
use Rattle.diagram.specs.Diagrams.{function_of}
use Rattle.diagram.proofs.store.DiagramStore.value.Goals as goal
use Rattle.diagram.proofs.store.DiagramStore.value.Goals.{then-e, else-e}

pub returns : goal.returns
returns c =
    let d = c.args.self.now in
    let n = d.inputs in
    let shifted = one_shl n 64 (omega (arith, d.sound.few)) in
    let at-point : c.if-e.p ≡ point n c.args.e c.args.a = elim c.if-e.branch [
      | then-e w ↦ rw w.if-e.true (omega (arith, w.p-is))
      | else-e w ↦ rw w.if-e.false (omega (arith, w.p-is))
    ] in
    (c.in_ok-admit.ensures.1, omega (arith, c.if-self-a.false), c.bit.ensures ∙ ap (function_of d c.args.f) at-point)
