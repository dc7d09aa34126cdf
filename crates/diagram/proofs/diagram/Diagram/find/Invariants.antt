use Rattle.diagram.proofs.Chaining.{Walk, reach}
use Rattle.diagram.proofs.diagram.Diagram.find.Given as goal

abbrev pub invariant-loop-link : goal.invariant-loop-link
invariant-loop-link l = Walk l.self.len l.self.rows.now l.node l.link

abbrev pub decreases-loop-link : goal.decreases-loop-link
decreases-loop-link l = reach l.link
