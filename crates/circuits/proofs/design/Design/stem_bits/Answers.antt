use Rattle.std.proofs.Common.{length, ap, ◌∙◌}
use Rattle.circuits.specs.Circuits.{net, nothing}
use Rattle.circuits.proofs.Rules.{design_rules}
use Rattle.circuits.proofs.Working.{stems_length}
use Rattle.circuits.proofs.design.Design.stem_bits.Goals as goal

pub stem_bits-requires : goal.stem_bits-requires
stem_bits-requires c =
    let r = rw (← c.circuit.ensures) at (design_rules _ _ c.self.invariant) in
    record { inputs = r.few_inputs; gates = r.few_gates; legal = r.gates_good }

pub returns-clause-one_each : goal.returns-clause-one_each
returns-clause-one_each c =
    rw (← c.self.view_is, ← c.circuit.ensures) (ap length c.stem_bits.ensures ∙ stems_length nothing (net c.circuit.result.now) c.args.assignment)
