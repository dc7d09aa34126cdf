use Rattle.diagram.proofs.Handles.{row_parts}
use Rattle.diagram.proofs.diagram.Diagram.parts.Goals as goal

pub returns-then-node-v : goal.returns-then-node-v
returns-then-node-v c =
    let d = c.args.self.now in
    row_parts d.sound c.args.h c.args.v c.requires.held c.if-h-lt2.false c.requires.known c.if-node-v.true
