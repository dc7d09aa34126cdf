use Rattle.std.proofs.Common.{◌+◌, ◌-◌, min}
use Rattle.diagram.specs.Diagrams.{top_of}
use Rattle.diagram.proofs.diagram.Diagram.+join_down.Given as goal

-- the number of variables left
abbrev pub decreases-join_down : goal.decreases-join_down
decreases-join_down l = l.self.now.inputs + 1 - min (top_of l.self.now l.f) (top_of l.self.now l.g)
