use Rattle.std.proofs.Common.{◌≡◌, true}
use Rattle.circuits.specs.Legality.{legal}
use Rattle.circuits.proofs.Faults.{some_there}
use Rattle.circuits.proofs.Rules.{whole, legal_from}
use Rattle.circuits.proofs.draft.Draft.complete.Goals as goal

-- what the draft had is a whole design
handed : (c : goal.After-swap) → legal c.args.self.now.circuit c.args.self.now.rows ≡ true
handed c =
    let k = legal_from _ _ (record {
      some_input = some_there c.self.inside.circuit.inputs c.if-is_empty.ensures;
      some_output = some_there c.self.inside.circuit.outputs c.if-is_empty-2.ensures;
      draft = c.self.invariant.lawful;
    }) in
    rw (← c.self.view_is) k

pub invariant_of-design : goal.invariant_of-design
invariant_of-design c = rw c.swap.ensures.y_after (handed c)

pub returns-then-is_empty-clause-whole : goal.returns-then-is_empty-clause-whole
returns-then-is_empty-clause-whole c = rw (← c.design.view_is) c.design.invariant

pub returns-clause-lawful : goal.returns-clause-lawful
returns-clause-lawful c = rw c.swap.ensures.x_after (whole _ _ c.design.invariant).draft

pub returns-clause-whole : goal.returns-clause-whole
returns-clause-whole c = rw c.swap.ensures.y_after (handed c)
