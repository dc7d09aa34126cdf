use Rattle.std.proofs.Common.{◌≡◌, None, arith}
use Rattle.circuits.specs.Drafts.{parts, gate_fault}
use Rattle.circuits.proofs.Adding.{gate_added}
use Rattle.circuits.proofs.Faults.{none_there, gate_passes}
use Rattle.circuits.proofs.Rules.{rules, drafted_from}
use Rattle.circuits.proofs.draft.Draft.add_gate.Goals as goal

no_fault : (c : goal.After-push_reserved) → gate_fault (parts c.self.inside.circuit c.self.inside.rows) c.args.gate ≡ None
no_fault c =
    let gates = c.self.inside.circuit.gates.ok.0 in
    gate_passes (parts c.self.inside.circuit c.self.inside.rows) c.args.gate (none_there c.self.inside.circuit.outputs c.if-not-is_empty.ensures)
    (none_there c.self.inside.rows c.if-not-is_empty-2.ensures) (omega arith) (rw (← c.find_stem.ensures) c.if-is_some.ensures)
    (rw (← c.stems.ensures) c.if-not-reads_below.ensures) (rw (← c.as_slice.ensures) c.if-not-takes.ensures)

pub invariant_of-self : goal.invariant_of-self
invariant_of-self c =
    let d = parts c.self.inside.circuit c.self.inside.rows in
    let k = drafted_from _ _ (gate_added d c.args.gate (rules _ _ c.self.invariant.lawful) (no_fault c)) in
    record { lawful = rw c.push_reserved.ensures.items k; room = rw c.push_reserved.ensures.capacity c.self.invariant.room }

pub returns-clause-lawful : goal.returns-clause-lawful
returns-clause-lawful c =
    let d = parts c.self.inside.circuit c.self.inside.rows in
    rw c.push_reserved.ensures.items (drafted_from _ _ (gate_added d c.args.gate (rules _ _ c.self.invariant.lawful) (no_fault c)))
