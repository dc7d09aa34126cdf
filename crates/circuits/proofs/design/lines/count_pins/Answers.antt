use Rattle.std.proofs.Common.{length, rules, tests}
use Rattle.std.proofs.lemmas.Iterator.{YieldsList-from_slice, YieldsList-from_map}
use Rattle.std.proofs.lemmas.Iterator.Consumers.{sum_by_from_yields_List, fits_by_from_yields_list}
use Rattle.circuits.specs.Circuits.{pins_of}
use Rattle.circuits.specs.declared.gate.Gate.{Gate}
use Rattle.circuits.proofs.Recursions.{pin_count_sum}
use Rattle.circuits.proofs.design.lines.count_pins.Goals as goal

pub sum-requires-clause-fits : goal.sum-requires-clause-fits
sum-requires-clause-fits c =
    fits_by_from_yields_list (λ g. length (pins_of g)) c.args.gates.now c.map.result _
    (YieldsList-from_map _ (λ (g : Gate). length (pins_of g)) (YieldsList-from_slice c.args.gates.now cc) c.map.ensures.closure (λ x r q k. search (rules, tests)))
    (rw (← pin_count_sum c.args.gates.now) c.requires)

pub returns : goal.returns
returns c =
    rw pin_count_sum
    (sum_by_from_yields_List (λ g. length (pins_of g)) c.args.gates.now c.map.result _ c.sum.ensures.ran
    (YieldsList-from_map _ (λ (g : Gate). length (pins_of g)) (YieldsList-from_slice c.args.gates.now cc) c.map.ensures.closure (λ x r q k. search (rules, tests))))
