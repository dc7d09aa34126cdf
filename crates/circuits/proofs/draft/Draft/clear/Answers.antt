use Rattle.circuits.proofs.Starts.{nothing_drafted}
use Rattle.circuits.proofs.draft.Draft.clear.Goals as goal

pub invariant_of-self : goal.invariant_of-self
invariant_of-self c = record {
  lawful = nothing_drafted _ _ _ _ c.clear.ensures.items c.clear-2.ensures.items c.clear-3.ensures.items c.clear-4.ensures.items;
  room = rw (c.clear.ensures.capacity, c.clear-2.ensures.capacity, c.clear-3.ensures.capacity, c.clear-4.ensures.capacity) c.self.invariant.room;
}
