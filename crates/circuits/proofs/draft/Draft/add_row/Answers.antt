use Rattle.std.proofs.Common.{◌≡◌, None, arith}
use Rattle.circuits.specs.Drafts.{parts, row_fault}
use Rattle.circuits.proofs.Adding.{row_added}
use Rattle.circuits.proofs.Faults.{row_passes}
use Rattle.circuits.proofs.Rules.{rules, drafted_from}
use Rattle.circuits.proofs.draft.Draft.add_row.Goals as goal

no_fault : (c : goal.After-push_reserved) → row_fault (parts c.self.inside.circuit c.self.inside.rows) c.args.row ≡ None
no_fault c =
    let rows = c.self.inside.rows.ok.0 in
    let outputs = c.self.inside.circuit.outputs.ok.0 in
    let inputs = c.self.inside.circuit.inputs.ok.0 in
    row_passes (parts c.self.inside.circuit c.self.inside.rows) c.args.row (omega arith) (omega arith) (rw (← c.as_slice.ensures) (omega arith))
    (rw (← c.as_slice-2.ensures.value) c.if-not-agrees_with.ensures)

pub invariant_of-self : goal.invariant_of-self
invariant_of-self c =
    let d = parts c.self.inside.circuit c.self.inside.rows in
    let k = drafted_from _ _ (row_added d c.args.row (rules _ _ c.self.invariant.lawful) (no_fault c)) in
    record { lawful = rw c.push_reserved.ensures.items k; room = rw c.push_reserved.ensures.capacity c.self.invariant.room }

pub returns-clause-lawful : goal.returns-clause-lawful
returns-clause-lawful c =
    let d = parts c.self.inside.circuit c.self.inside.rows in
    rw c.push_reserved.ensures.items (drafted_from _ _ (row_added d c.args.row (rules _ _ c.self.invariant.lawful) (no_fault c)))
