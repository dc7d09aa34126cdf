use Rattle.std.proofs.Common.{true, false, ◌∙◌, arith}
use Rattle.std.proofs.lemmas.Bool.{eq-eqb, ne_eqb}
use Rattle.diagram.proofs.Calls.{down, down_constant}
use Rattle.diagram.proofs.diagram.Diagram.bit.Goals as goal

pub loop-h-preserved-then-set : goal.loop-h-preserved-then-set
loop-h-preserved-then-set c =
    let d = c.args.self.now in
    let (held, same) = down d.sound c.loop-h.h c.args.p true c.loop-h.invariant.0 c.loop-h-test.true (eq-eqb _ 1 c.if-set.true) in
    (held, same ∙ c.loop-h.invariant.1)

pub loop-h-preserved : goal.loop-h-preserved
loop-h-preserved c =
    let d = c.args.self.now in
    let (held, same) = down d.sound c.loop-h.h c.args.p false c.loop-h.invariant.0 c.loop-h-test.true (ne_eqb _ 1 c.if-set.false) in
    (held, same ∙ c.loop-h.invariant.1)

pub returns : goal.returns
returns c = let d = c.args.self.now in down_constant d.sound c.loop-h.h c.args.p (omega (arith, c.loop-h-test.false)) ∙ c.loop-h.invariant.1
