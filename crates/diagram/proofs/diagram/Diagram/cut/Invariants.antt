use Rattle.std.proofs.Common.{◌≡◌, ◌≤◌}
use Rattle.diagram.proofs.diagram.Diagram.cut.Given as goal

abbrev pub invariant-loop-k : goal.invariant-loop-k
invariant-loop-k l =
    (l.self.len ≡ l.k) × (l.to ≤ l.k) × (l.self.rows.now ≡ l.initial.self.rows.now) × (l.self.inputs ≡ l.initial.self.inputs)
