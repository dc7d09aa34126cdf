use Rattle.std.proofs.Common.{◌≡◌, rules}
use Rattle.std.proofs.lemmas.Option.{gets}
use Rattle.circuits.specs.Circuits.{net}
use Rattle.circuits.specs.Lines.{pin_at}
use Rattle.circuits.proofs.Rules.{design_rules}
use Rattle.circuits.proofs.Working.{pin_at_reads}
use Rattle.circuits.proofs.design.Design.pin.Goals as goal

pub returns-clause-reads : goal.returns-clause-reads
returns-clause-reads c =
    let n = net c.circuit.result.now in
    let r = rw (← c.circuit.ensures) at (design_rules _ _ c.self.invariant) in
    let value : c.copied.result ≡ pin_at n.gates c.args.gate c.args.position = search (rules, gets) in
    rw (value, ← c.self.view_is, ← c.circuit.ensures) (pin_at_reads _ n.gates c.args.gate c.args.position r.gates_good)
