use Rattle.std.proofs.Common.{bytes_eq, vec_items, rules, tests}
use Rattle.std.proofs.lemmas.Iterator.{YieldsList-from_slice}
use Rattle.std.proofs.lemmas.Iterator.Search.{position_from_yields_List}
use Rattle.circuits.specs.Circuits.{name_bytes}
use Rattle.circuits.specs.declared.gate.Output.{Output}
use Rattle.circuits.proofs.Recursions.{position_named}
use Rattle.circuits.proofs.circuit.Circuit.find_output.Goals as goal

pub returns : goal.returns
returns c =
    rw (position_named (λ (x : Output). name_bytes x.name) (name_bytes c.args.name.now) (vec_items c.args.self.now.outputs))
    (position_from_yields_List (λ (x : Output). bytes_eq (name_bytes c.args.name.now) (name_bytes x.name)) _ _ _ c.position.ensures.ran
    (YieldsList-from_slice (vec_items c.args.self.now.outputs) cc) (λ x b q k. search (rules, tests)))
