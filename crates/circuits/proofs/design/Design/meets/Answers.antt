use Rattle.std.proofs.Common.{◌≡◌, ℕ, sym, refl, ap, ◌∙◌, arith, rules, tests}
use Rattle.std.proofs.lemmas.Iterator.{YieldsList-from_range}
use Rattle.std.proofs.lemmas.Iterator.Search.{all_from_yields_List}
use Rattle.circuits.specs.Circuits.{carried, through}
use Rattle.circuits.specs.Specification.{bound, obeys, each_below}
use Rattle.circuits.proofs.Agreeing.{meets_rows}
use Rattle.circuits.proofs.Recursions.{each_below_all}
use Rattle.circuits.proofs.Rules.{design_rules}
use Rattle.circuits.proofs.Binding.{meets_by_pin}
use Rattle.circuits.proofs.design.Design.meets.Goals as goal

pub returns : goal.returns
returns c =
    let d = c.args.self.now in
    let t = λ (a : ℕ). obeys (bound d.rows c.args.output a) (through c.in_ok-pin.pin (carried d.circuit a)) in
    let n = c.assignments.result in
    let each : c.all.result ≡ each_below n t =
    all_from_yields_List t _ _ _ c.all.ensures.ran (YieldsList-from_range 0 n n refl (omega arith)) (λ x b q k. search (rules, tests)) ∙ sym (each_below_all n t)
    in
    let value = meets_by_pin d.circuit d.rows c.args.output c.in_ok-pin.pin _ c.in_ok-pin.ensures.value (each ∙ ap (λ m. each_below m t) c.assignments.ensures) in
    let rules = rw c.self.view_is at (design_rules _ _ c.self.invariant) in
    record { rows = meets_rows d.circuit d.rows c.args.output _ rules value; value = value }
