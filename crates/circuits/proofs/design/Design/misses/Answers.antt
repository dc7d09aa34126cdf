use Rattle.std.proofs.Common.{◌≡◌, length, arith, sym, ◌∙◌, rules, tests}
use Rattle.std.proofs.lemmas.Iterator.{YieldsList-from_range}
use Rattle.std.proofs.lemmas.Iterator.Consumers.{YieldsList-from_filter, count_from_yields_List}
use Rattle.circuits.specs.Specification.{misses}
use Rattle.circuits.proofs.Binding.{missed, misses_counted}
use Rattle.circuits.proofs.Repairing.{misses_repaired}
use Rattle.circuits.proofs.design.Design.misses.Goals as goal

pub returns : goal.returns
returns c =
    let d = c.self.inside.draft in
    let value : c.count.result ≡ misses d.circuit d.rows =
    count_from_yields_List c.filter.result _ c.count.ensures.ran
    (YieldsList-from_filter _ (missed d.circuit d.rows) (YieldsList-from_range 0 _ (length d.circuit.outputs) c.filter.ensures.source (omega (arith, c.outputs.ensures))) c.filter.ensures.closure (λ x r q k. search (rules, tests)))
    ∙ sym (misses_counted d.circuit d.rows)
    in
    rw (← c.self.view_is) (record { repaired = misses_repaired d.circuit d.rows c.count.result c.self.invariant value; value = value })
