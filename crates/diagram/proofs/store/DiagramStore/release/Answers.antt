use Rattle.std.proofs.Common.{◌+◌, ◌≤◌, arith}
use Rattle.diagram.proofs.Calls.{cut_meaning}
use Rattle.diagram.proofs.Rows.{functions_length}
use Rattle.diagram.proofs.store.DiagramStore.release.Goals as goal

pub returns : goal.returns
returns c =
    let d = c.args.self.now in
    let d' = c.cut.new.self in
    let m = c.args.m in
    let two : 2 ≤ m = c.if-m-lt2.false in
    let top : m ≤ d.len + 2 = c.if-self-m.false in
    record { releases = (two, omega (arith, functions_length d.inputs d.rows.now d.len), cut_meaning d.inputs d.len d.rows.now m d'.inputs d'.len d'.rows.now two top c.cut.ensures) }
