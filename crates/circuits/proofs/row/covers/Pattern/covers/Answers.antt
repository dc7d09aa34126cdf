use Rattle.std.proofs.Common.{ℕ, ◌<◌, ◌-◌, ◌≤◌, length, ap, arith, rules, tests}
use Rattle.std.proofs.lemmas.Iterator.{YieldsList-from_slice}
use Rattle.std.proofs.lemmas.Iterator.Adapters.{serves_from_places}
use Rattle.std.proofs.lemmas.Iterator.Consumers.{YieldsList-from_enumerate, YieldsList-at}
use Rattle.std.proofs.lemmas.Iterator.Search.{all_from_yields_List}
use Rattle.circuits.specs.Circuits.{bit}
use Rattle.circuits.specs.declared.literal.Literal.{Literal}
use Rattle.circuits.specs.Specification.{matches}
use Rattle.circuits.proofs.Fronts.{few}
use Rattle.circuits.proofs.Recursions.{covers_all, number_below}
use Rattle.circuits.proofs.row.covers.Pattern.covers.Goals as goal

-- the literals, each with its number
pub all-requires-clause-callable : goal.all-requires-clause-callable
all-requires-clause-callable c =
    serves_from_places
    (YieldsList-from_enumerate (YieldsList-at c.enumerate.ensures.source (YieldsList-from_slice c.as_slice-literals.result.now cc)) (cc)) (λ x q k. search (rules, tests))
    (λ x k h e.
    let below : x.0 < length c.as_slice-literals.result.now = number_below c.as_slice-literals.result.now k (x.0, x.1.now) h e in
    let small : length c.as_slice-literals.result.now ≤ 12 = omega (arith, few c.args.self.now, ap length c.as_slice-literals.ensures) in
    search rules)

pub returns : goal.returns
returns c =
    rw (← c.as_slice-literals.ensures, covers_all)
    (all_from_yields_List (λ (p : ℕ × Literal). matches p.1 (bit c.args.assignment (length c.as_slice-literals.result.now - 1 - p.0))) c.all.new.self _ _ c.all.ensures.ran
    (YieldsList-from_enumerate (YieldsList-at c.enumerate.ensures.source (YieldsList-from_slice c.as_slice-literals.result.now cc)) (cc)) (λ x b q k. search (rules, tests)))
