use Rattle.std.proofs.Common.{arith}
use Rattle.diagram.proofs.Building.{new_sound}
use Rattle.diagram.proofs.Rows.{functions_none}
use Rattle.diagram.proofs.store.DiagramStore.start.Goals as goal

pub invariant_of-self : goal.invariant_of-self
invariant_of-self c = record { sound = new_sound c.args.inputs c.args.self.now.rows.now c.if-inputs-gt12.false c.args.self.now.sound.linked.bounded }

pub returns : goal.returns
returns c =
    record { starts = (omega (arith, c.if-inputs-eq0.false), c.if-inputs-gt12.false, cc (functions_none c.args.inputs c.args.self.now.rows.now)) }
