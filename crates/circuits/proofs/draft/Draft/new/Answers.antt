use Rattle.circuits.proofs.Starts.{nothing_drafted}
use Rattle.circuits.proofs.Rules.{room_from}
use Rattle.circuits.proofs.draft.Draft.new.Goals as goal

pub invariant_of-result : goal.invariant_of-result
invariant_of-result c = record {
  lawful = nothing_drafted _ _ _ _ c.in_ok-inputs.ensures.items c.in_ok-gates.ensures.items c.in_ok-outputs.ensures.items c.in_ok-rows.ensures.items;
  room = room_from _ _ _ _ (record {
    for_inputs = c.in_ok-inputs.ensures.capacity;
    for_gates = c.in_ok-gates.ensures.capacity;
    for_outputs = c.in_ok-outputs.ensures.capacity;
    for_rows = c.in_ok-rows.ensures.capacity;
  });
}
