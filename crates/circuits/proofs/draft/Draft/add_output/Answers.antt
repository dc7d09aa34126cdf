use Rattle.std.proofs.Common.{◌≡◌, None, arith}
use Rattle.circuits.specs.Drafts.{parts, output_fault}
use Rattle.circuits.proofs.Adding.{output_added}
use Rattle.circuits.proofs.Faults.{none_there, output_passes}
use Rattle.circuits.proofs.Rules.{rules, drafted_from}
use Rattle.circuits.proofs.draft.Draft.add_output.Goals as goal

no_fault : (c : goal.After-push_reserved) → output_fault (parts c.self.inside.circuit c.self.inside.rows) c.args.output ≡ None
no_fault c =
    let outputs = c.self.inside.circuit.outputs.ok.0 in
    output_passes (parts c.self.inside.circuit c.self.inside.rows) c.args.output (none_there c.self.inside.rows c.if-not-is_empty.ensures) (omega arith)
    (rw (← c.find_output.ensures) c.if-is_some.ensures) (rw (← c.stems.ensures) c.if-output-stems.false)

pub invariant_of-self : goal.invariant_of-self
invariant_of-self c =
    let d = parts c.self.inside.circuit c.self.inside.rows in
    let k = drafted_from _ _ (output_added d c.args.output (rules _ _ c.self.invariant.lawful) (no_fault c)) in
    record { lawful = rw c.push_reserved.ensures.items k; room = rw c.push_reserved.ensures.capacity c.self.invariant.room }

pub returns-clause-lawful : goal.returns-clause-lawful
returns-clause-lawful c =
    let d = parts c.self.inside.circuit c.self.inside.rows in
    rw c.push_reserved.ensures.items (drafted_from _ _ (output_added d c.args.output (rules _ _ c.self.invariant.lawful) (no_fault c)))
