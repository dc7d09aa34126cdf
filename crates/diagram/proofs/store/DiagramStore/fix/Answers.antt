use Rattle.std.proofs.Common.{true, false}
use Rattle.diagram.proofs.Calls.{answers_fix}
use Rattle.diagram.proofs.store.DiagramStore.fix.Goals as goal

pub returns-then-bit : goal.returns-then-bit
returns-then-bit c =
    let d = c.args.self.now in
    let r = c.parts-low.result in
    record { fixes = rw c.if-bit.true (answers_fix d.sound c.args.f r.0 r.1 true c.in_ok-admit.ensures.0 c.parts-low.ensures) }

pub returns-else-bit : goal.returns-else-bit
returns-else-bit c =
    let d = c.args.self.now in
    let r = c.parts-low.result in
    record { fixes = rw c.if-bit.false (answers_fix d.sound c.args.f r.0 r.1 false c.in_ok-admit.ensures.0 c.parts-low.ensures) }
