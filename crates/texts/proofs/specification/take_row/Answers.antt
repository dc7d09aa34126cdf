use Rattle.std.proofs.Common.{sym, ap, ◌∙◌}
use Rattle.std.proofs.lemmas.Option.{MatchOption-at_some, MatchOption-at_none}
use Rattle.std.proofs.lemmas.Result.{err_from_is_err_and}
use Rattle.circuits.specs.Circuits.{name_bytes}
use Rattle.texts.specs.declared.fault.Cause.TheVariants.{Shape}
use Rattle.texts.specs.Shapes.{row_fields}
use Rattle.texts.specs.Specification.{shapeless}
use Rattle.texts.proofs.Exits.{lacking}
use Rattle.texts.proofs.RowSteps.{no_row, row_step}
use Rattle.texts.proofs.specification.take_row.Goals as goal

pub returns-in_err-row : goal.returns-in_err-row
returns-in_err-row c =
    let p = err_from_is_err_and c.from_residual.result c.from_residual.ensures.1 in
    let (none, cause) = lacking c.row_shape.result _ Shape c.in_err-row.ensures.value in
    let bare = MatchOption-at_none _ _ none c.row_shape.ensures in
    rw (p.1, p.2, cause) (shapeless (λ x p v h. bare x p v h.parts))

pub returns-in_err-output : goal.returns-in_err-output
returns-in_err-output c =
    let p = err_from_is_err_and c.from_residual-in_err-output.result c.from_residual-in_err-output.ensures.1 in
    let row = c.in_ok-row.row in
    let parts = MatchOption-at_some _ _ row c.in_ok-row.ensures.ok_part c.row_shape.ensures in
    let (none, cause) = lacking c.new.result _ Shape c.in_err-output.ensures.value in
    rw (p.1, p.2, cause) (shapeless (no_row c.args.«record».now row.output.now row.pattern.now row.value.now parts (MatchOption-at_none _ _ none c.new.ensures)))

pub returns : goal.returns
returns c =
    let row = c.in_ok-row.row in
    let parts = MatchOption-at_some _ _ row c.in_ok-row.ensures.ok_part c.row_shape.ensures in
    let named = MatchOption-at_some _ _ c.in_ok-output.output c.in_ok-output.ensures.ok_part c.new.ensures in
    row_step c.args.draft.now _ c.args.«record».now (name_bytes c.in_ok-output.output) row.pattern.now row.value.now c.add_row.result
    (record { good = c.in_ok-output.output.good; parts = parts ∙ ap (λ x. row_fields x row.pattern.now row.value.now) (sym named.1) })
    c.add_row.ensures
