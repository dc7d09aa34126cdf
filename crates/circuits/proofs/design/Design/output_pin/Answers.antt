use Rattle.std.proofs.Common.{◌≡◌, rules}
use Rattle.std.specs.List.{slice_get}
use Rattle.std.specs.Option.{option_map}
use Rattle.std.proofs.lemmas.Option.{gets}
use Rattle.circuits.specs.Circuits.{net}
use Rattle.circuits.specs.declared.gate.Output.{Output}
use Rattle.circuits.proofs.Rules.{design_rules}
use Rattle.circuits.proofs.Working.{output_reads}
use Rattle.circuits.proofs.design.Design.output_pin.Goals as goal

pub returns-clause-reads : goal.returns-clause-reads
returns-clause-reads c =
    let n = net c.circuit.result.now in
    let r = rw (← c.circuit.ensures) at (design_rules _ _ c.self.invariant) in
    let value : c.map.result ≡ option_map (λ (x : Output). x.pin) (slice_get n.outputs c.args.output) = search (rules, gets) in
    rw (value, ← c.self.view_is, ← c.circuit.ensures) (output_reads _ n.outputs c.args.output r.outputs_good)
