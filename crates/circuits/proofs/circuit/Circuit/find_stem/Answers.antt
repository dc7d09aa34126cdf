use Rattle.std.proofs.Common.{bytes_eq, vec_items, rules, tests}
use Rattle.std.proofs.lemmas.Iterator.{YieldsList-from_slice, YieldsList-from_map_by}
use Rattle.std.proofs.lemmas.Iterator.Consumers.{YieldsList-from_chain, YieldsList-at}
use Rattle.std.proofs.lemmas.Iterator.Search.{position_from_yields_List}
use Rattle.circuits.specs.Circuits.{name_bytes, net}
use Rattle.circuits.specs.declared.gate.Gate.{Gate}
use Rattle.circuits.specs.declared.name.Name.{Name}
use Rattle.circuits.proofs.Recursions.{position_named, stem_names_joined}
use Rattle.circuits.proofs.circuit.Circuit.find_stem.Goals as goal

pub returns : goal.returns
returns c =
    let self = c.args.self.now in
    rw (stem_names_joined (net self), position_named name_bytes)
    (position_from_yields_List (λ (x : Name). bytes_eq (name_bytes c.args.name.now) (name_bytes x)) c.position.new.self _ _ c.position.ensures.ran
    (YieldsList-from_chain (YieldsList-from_slice (vec_items self.inputs) cc)
    (YieldsList-at c.chain.ensures.second
    (YieldsList-from_map_by _ (λ r. r.now) (λ (g : Gate). g.name) (YieldsList-from_slice (vec_items self.gates) cc) c.map.ensures.closure (λ x r q k. search (rules, tests))))
    (cc) (cc))
    (λ x b q k. search (rules, tests)))
