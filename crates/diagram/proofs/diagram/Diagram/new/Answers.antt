use Rattle.std.proofs.Common.{◌≡◌, min, length, take, ◌∙◌, arith, lit≤, length-take}
use Rattle.diagram.proofs.Building.{new_sound}
use Rattle.diagram.proofs.Rows.{functions_none}
use Rattle.diagram.proofs.diagram.Diagram.new.Goals as goal

pub invariant_of-result : goal.invariant_of-result
invariant_of-result c =
    let rows = c.args.rows.now in
    let n = c.min-count.result in
    let e : length (take n rows) ≡ min 4096 (length rows) = length-take n rows ∙ omega (arith, c.min-count.ensures) in
    record { sound = new_sound 0 (take n rows) (lit≤ tt) (omega arith) }

pub returns : goal.returns
returns c =
    let rows = c.args.rows.now in
    let n = c.min-count.result in
    let e : length (take n rows) ≡ min 4096 (length rows) = length-take n rows ∙ omega (arith, c.min-count.ensures) in
    cc (functions_none 0 (take n rows))
