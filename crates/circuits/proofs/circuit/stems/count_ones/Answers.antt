use Rattle.std.proofs.Common.{◌<◌, ◌≤◌, cond, length, rules, tests, ◌∙◌, sym, ap, arith}
use Rattle.std.specs.List.{sum_by}
use Rattle.std.proofs.lemmas.List.{length-map}
use Rattle.std.proofs.lemmas.Iterator.{YieldsList-from_slice, YieldsList-from_map}
use Rattle.std.proofs.lemmas.Iterator.Adapters.{serves_from_places}
use Rattle.std.proofs.lemmas.Iterator.Consumers.{sum_by_from_yields_List, fits_by_from_yields_list}
use Rattle.circuits.specs.Circuits.{nothing, received, through}
use Rattle.circuits.specs.declared.pin.Pin.{Pin}
use Rattle.circuits.proofs.Ones.{ones_le}
use Rattle.circuits.proofs.Working.{pin_reads, received_each, ones_received}
use Rattle.circuits.proofs.circuit.stems.count_ones.Goals as goal

pub sum-requires-clause-can : goal.sum-requires-clause-can
sum-requires-clause-can c =
    let pins = c.args.pins.now in (
      tt,
      serves_from_places (YieldsList-from_slice pins cc) (λ x q k. search (rules, tests))
          (λ x k h e. let reads : x.now.stem < length c.args.stems.now = rw e (pin_reads _ pins k x.now c.requires h) in search rules),
    )

pub sum-requires-clause-fits : goal.sum-requires-clause-fits
sum-requires-clause-fits c =
    let pins = c.args.pins.now in
    let stems = c.args.stems.now in
    let few : sum_by (λ (p : Pin). cond (through p stems) 1 0) pins ≤ length pins =
    omega (arith, ones_received 0 0 stems pins, ones_le (received nothing 0 0 stems pins), ap length (received_each 0 0 stems pins), length-map pins (λ (p : Pin). through p stems))
    in
    fits_by_from_yields_list (λ (p : Pin). cond (through p stems) 1 0) pins c.map.result _
    (YieldsList-from_map _ (λ (p : Pin). cond (through p stems) 1 0) (YieldsList-from_slice pins cc) c.map.ensures.closure (λ x r q k. search (rules, tests)))
    (omega (arith, few, c.iter.ensures.bound))

pub returns : goal.returns
returns c g =
    let pins = c.args.pins.now in
    let stems = c.args.stems.now in
    sum_by_from_yields_List (λ (p : Pin). cond (through p stems) 1 0) pins c.map.result _ c.sum.ensures.ran
    (YieldsList-from_map _ (λ (p : Pin). cond (through p stems) 1 0) (YieldsList-from_slice pins cc) c.map.ensures.closure (λ x r q k. search (rules, tests)))
    ∙ sym (ones_received g 0 stems pins)
