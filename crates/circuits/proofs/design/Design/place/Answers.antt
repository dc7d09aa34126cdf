use Rattle.std.proofs.Common.{◌≡◌, List, length, is_some, sym, ap, ◌∙◌, arith}
use Rattle.circuits.specs.Circuits.{Net}
use Rattle.circuits.specs.Drafts.{Parts}
use Rattle.circuits.specs.declared.gate.Gate.{Gate}
use Rattle.circuits.proofs.Numbering.{passed_found, passed_more, passed_all, place_test, place_back}
use Rattle.circuits.proofs.design.Design.place.Goals as goal

-- the gates of the circuit that the draft lends
lent : {gs : List Gate} {n : Net} {d e : Parts} → gs ≡ n.gates → n ≡ d.circuit → d ≡ e → gs ≡ e.circuit.gates
lent p q r = cc

pub returns-then-left-pins : goal.returns-then-left-pins
returns-then-left-pins c =
    let n = c.args.self.now.circuit in
    let e = lent c.deref-gate-items.ensures.value c.circuit-circuit.ensures c.self.view_is in
    let is = rw e at c.gate-item.is in
    let f = passed_found n c.args.line c.loop-number.number c.loop-number.left c.gate-item.result (rw (← e) c.loop-number-test.true) is c.loop-number.invariant (omega (arith, ap length c.as_slice-pins.ensures)) in
    record { value = sym f; exists = ap is_some (sym f) ∙ place_test n c.args.line; back = λ p i. place_back n c.args.line p (f ∙ i) }

pub loop-number-preserved : goal.loop-number-preserved
loop-number-preserved c =
    let n = c.args.self.now.circuit in
    let e = lent c.deref-gate-items.ensures.value c.circuit-circuit.ensures c.self.view_is in
    let is = rw e at c.gate-item.is in
    rw c.as_slice-pins.ensures
    (passed_more n c.args.line c.loop-number.number c.loop-number.left c.gate-item.result (rw (← e) c.loop-number-test.true) is c.loop-number.invariant (omega (arith, ap length c.as_slice-pins.ensures)))

pub returns : goal.returns
returns c =
    let n = c.args.self.now.circuit in
    let e = lent c.deref-gate-items.ensures.value c.circuit-circuit.ensures c.self.view_is in
    let f = passed_all n c.args.line c.loop-number.number c.loop-number.left (rw (← e) c.loop-number-test.false) c.loop-number.invariant in
    record { value = sym f; exists = ap is_some (sym f) ∙ place_test n c.args.line; back = λ p i. place_back n c.args.line p (f ∙ i) }
