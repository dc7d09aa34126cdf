use Rattle.std.proofs.Common.{sym}
use Rattle.diagram.proofs.Building.{lawful}
use Rattle.diagram.proofs.Rows.{functions_length}
use Rattle.diagram.proofs.store.DiagramStore.length.Goals as goal

pub returns : goal.returns
returns c =
    let d = c.args.self.now in
    record { length = sym (functions_length d.inputs d.rows.now d.len); lawful = lawful d.sound }
