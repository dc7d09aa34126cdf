use Rattle.std.proofs.Common.{◌≡◌, None, arith}
use Rattle.circuits.specs.Drafts.{parts, input_fault}
use Rattle.circuits.proofs.Adding.{input_added}
use Rattle.circuits.proofs.Faults.{none_there, input_passes}
use Rattle.circuits.proofs.Rules.{rules, drafted_from}
use Rattle.circuits.proofs.draft.Draft.add_input.Goals as goal

no_fault : (c : goal.After-push_reserved) → input_fault (parts c.self.inside.circuit c.self.inside.rows) c.args.name ≡ None
no_fault c =
    let inputs = c.self.inside.circuit.inputs.ok.0 in
    input_passes (parts c.self.inside.circuit c.self.inside.rows) c.args.name (none_there c.self.inside.circuit.gates c.if-not-is_empty.ensures)
    (none_there c.self.inside.circuit.outputs c.if-not-is_empty-2.ensures) (none_there c.self.inside.rows c.if-not-is_empty-3.ensures) (omega arith)
    (rw (← c.find_stem.ensures) c.if-is_some.ensures)

pub invariant_of-self : goal.invariant_of-self
invariant_of-self c =
    let d = parts c.self.inside.circuit c.self.inside.rows in
    let k = drafted_from _ _ (input_added d c.args.name (rules _ _ c.self.invariant.lawful) (no_fault c)) in
    record { lawful = rw c.push_reserved.ensures.items k; room = rw c.push_reserved.ensures.capacity c.self.invariant.room }

pub returns-clause-lawful : goal.returns-clause-lawful
returns-clause-lawful c =
    let d = parts c.self.inside.circuit c.self.inside.rows in
    rw c.push_reserved.ensures.items (drafted_from _ _ (input_added d c.args.name (rules _ _ c.self.invariant.lawful) (no_fault c)))
