use Rattle.std.proofs.Common.{sym, arith}
use Rattle.circuits.specs.Circuits.{net}
use Rattle.circuits.proofs.Numbering.{first_pins_le, pin_small}
use Rattle.circuits.proofs.Rules.{design_rules}
use Rattle.circuits.proofs.design.Design.pin_line.Goals as goal

pub count_pins-before-requires : goal.count_pins-before-requires
count_pins-before-requires c =
    let r = rw (← c.circuit-circuit.ensures) at (design_rules _ _ c.self.invariant) in
    rw c.deref.ensures.value (omega (arith, first_pins_le (net c.circuit-circuit.result.now).gates c.args.gate, r.few_gates))

pub overflow_add-result : goal.overflow_add-result
overflow_add-result c =
    let r = rw (← c.circuit-circuit.ensures) at (design_rules _ _ c.self.invariant) in
    let before = rw c.deref.ensures.value at c.count_pins-before.ensures in
    omega (arith, first_pins_le (net c.circuit-circuit.result.now).gates c.args.gate, r.few_inputs, r.few_gates, before)

pub overflow_add-result-2 : goal.overflow_add-result-2
overflow_add-result-2 c =
    let n = net c.circuit-circuit.result.now in
    let r = rw (← c.circuit-circuit.ensures) at (design_rules _ _ c.self.invariant) in
    let before = rw c.deref.ensures.value at c.count_pins-before.ensures in
    let at = rw (← c.self.view_is, ← c.circuit-circuit.ensures) at c.in_ok-pin.ensures.value in
    omega (arith, first_pins_le n.gates c.args.gate, r.few_inputs, r.few_gates, before, pin_small n.gates c.args.gate c.args.position c.in_ok-pin.field-0 (sym at))
