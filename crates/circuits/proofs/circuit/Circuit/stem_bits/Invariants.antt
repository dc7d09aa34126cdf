use Rattle.circuits.specs.Circuits.{net}
use Rattle.circuits.specs.Shorts.{entries}
use Rattle.circuits.proofs.Working.{InputsDone, GatesDone}
use Rattle.circuits.proofs.circuit.Circuit.stem_bits.Given as goal

abbrev pub invariant-loop-k : goal.invariant-loop-k
invariant-loop-k l = InputsDone (net l.self).inputs l.assignment (entries l.bits) l.k

abbrev pub invariant-loop-gate : goal.invariant-loop-gate
invariant-loop-gate l = GatesDone (net l.self) l.assignment (entries l.bits) l.gate-index
