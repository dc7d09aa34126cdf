use Rattle.std.proofs.Common.{ℕ, List, sym, subst}
use Rattle.std.proofs.lemmas.Result.{IfOk-weaker}
use Rattle.rectify.specs.Report.{Reported, accepted, refused}
use Rattle.rectify.proofs.report.report.Goals as goal

pub returns-in-Ok : goal.returns-in-Ok
returns-in-Ok c =
    IfOk-weaker c.job_row.result _ _
    (λ s e. subst (λ (bs : List ℕ). Reported c.args.netlist.now c.args.specification.now bs) (sym e) (accepted _ c.in-Ok.ensures.exact)) c.job_row.ensures

pub returns : goal.returns
returns c =
    IfOk-weaker c.stop_row.result _ _
    (λ s e. subst (λ (bs : List ℕ). Reported c.args.netlist.now c.args.specification.now bs) (sym e) (refused _ c.in-Err.ensures.exact.0)) c.stop_row.ensures
