use Rattle.std.proofs.Common.{◌≡◌}
use Rattle.diagram.specs.Diagrams.{Held, function_of}
use Rattle.diagram.proofs.diagram.Diagram.bit.Given as goal

abbrev pub invariant-loop-h : goal.invariant-loop-h
invariant-loop-h l = Held l.self l.h × (function_of l.self l.h l.p ≡ function_of l.self l.f l.p)

abbrev pub decreases-loop-h : goal.decreases-loop-h
decreases-loop-h l = l.h
