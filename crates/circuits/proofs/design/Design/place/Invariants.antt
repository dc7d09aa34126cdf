use Rattle.circuits.proofs.Numbering.{Passed}
use Rattle.circuits.proofs.design.Design.place.Given as goal

abbrev pub invariant-loop-number : goal.invariant-loop-number
invariant-loop-number l = Passed l.self.circuit l.line l.number l.left
