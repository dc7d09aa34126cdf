use Rattle.std.proofs.Common.{◌^◌, ap, ◌∙◌, arith}
use Rattle.std.proofs.lemmas.Nat.{one_shl}
use Rattle.circuits.proofs.Rules.{design_rules}
use Rattle.circuits.proofs.design.Design.assignments.Goals as goal

pub overflow_shl-result : goal.overflow_shl-result
overflow_shl-result c =
    let r = design_rules _ _ c.self.invariant in
    omega (arith, r.few_inputs, c.inputs.ensures)

pub returns : goal.returns
returns c =
    let r = design_rules _ _ c.self.invariant in
    rw (← c.self.view_is) (one_shl c.inputs.result 64 (omega (arith, r.few_inputs, c.inputs.ensures)) ∙ ap (λ k. 2 ^ k) c.inputs.ensures)
