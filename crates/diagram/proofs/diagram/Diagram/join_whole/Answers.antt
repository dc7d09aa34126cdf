use Rattle.std.proofs.Common.{min, ◌∙◌, sym}
use Rattle.stores.specs.Functions.{joined}
use Rattle.diagram.specs.Diagrams.{top_of, function_of}
use Rattle.diagram.proofs.Calls.{cut_yields}
use Rattle.diagram.proofs.diagram.Diagram.join_whole.Goals as goal

pub returns-then-is_err : goal.returns-then-is_err
returns-then-is_err c =
    let d = c.args.self.now in
    cut_yields (joined c.args.op (function_of d c.args.f) (function_of d c.args.g)) (min (top_of d c.args.f) (top_of d c.args.g)) c.join_down-answer.result (sym c.is_err.ensures.value ∙ c.if-is_err.true) c.join_down-answer.ensures.extends c.cut.ensures c.join_down-answer.ensures.builds
