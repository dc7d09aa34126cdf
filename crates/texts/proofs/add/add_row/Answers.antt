use Rattle.std.proofs.Common.{sym, refl, ◌∙◌, arith}
use Rattle.std.proofs.lemmas.Option.{MatchOption-at_some, MatchOption-at_none}
use Rattle.std.proofs.lemmas.Result.{err_from_is_err_and}
use Rattle.circuits.specs.declared.row.SpecRow.{SpecRow}
use Rattle.circuits.specs.Circuits.{name_bytes}
use Rattle.texts.specs.Adding.{limit, unknown, unwritten}
use Rattle.texts.specs.declared.fault.Cause.TheVariants.{Naming, Literals}
use Rattle.texts.proofs.Exits.{lacking}
use Rattle.texts.proofs.Rows.{no_pattern, no_value, row_refused, row_added}
use Rattle.texts.proofs.add.add_row.Goals as goal
use Rattle.texts.proofs.add.add_row.Goals.{In_ok-value}

pub returns-then-rows-ge256 : goal.returns-then-rows-ge256
returns-then-rows-ge256 c = (limit (omega arith), refl)

pub returns-in_err-output : goal.returns-in_err-output
returns-in_err-output c =
    let p = err_from_is_err_and c.from_residual.result c.from_residual.ensures.1 in
    let (none, cause) = lacking c.output.result _ Naming c.in_err-output.ensures.value in
    rw (p.1, p.2, cause) (unknown (omega arith) (sym c.output.ensures ∙ none), refl)

pub returns-in_err-pattern : goal.returns-in_err-pattern
returns-in_err-pattern c =
    let p = err_from_is_err_and c.from_residual-in_err-pattern.result c.from_residual-in_err-pattern.ensures.1 in
    let (none, cause) = lacking c.pattern_of.result _ Literals c.in_err-pattern.ensures.value in
    rw (p.1, p.2, cause) (
      unwritten (omega arith) c.in_ok-output.output (sym c.output.ensures ∙ c.in_ok-output.ensures.ok_part)
          (no_pattern c.args.draft.now (name_bytes c.args.output.now) c.args.pattern.now c.args.value.now (MatchOption-at_none _ _ none c.pattern_of.ensures)),
      refl,
    )

pub returns-in_err-value : goal.returns-in_err-value
returns-in_err-value c =
    let p = err_from_is_err_and c.from_residual-in_err-value.result c.from_residual-in_err-value.ensures.1 in
    let (none, cause) = lacking c.value_of.result _ Literals c.in_err-value.ensures.value in
    rw (p.1, p.2, cause) (
      unwritten (omega arith) c.in_ok-output.output (sym c.output.ensures ∙ c.in_ok-output.ensures.ok_part)
          (no_value c.args.draft.now (name_bytes c.args.output.now) c.args.pattern.now c.args.value.now (MatchOption-at_none _ _ none c.value_of.ensures)),
      refl,
    )

abbrev written : In_ok-value → SpecRow
written c = record { output = c.in_ok-output.output; pattern = c.in_ok-pattern.pattern; value = c.in_ok-value.value }

pub returns-in_err-add_row : goal.returns-in_err-add_row
returns-in_err-add_row c =
    let p = err_from_is_err_and c.from_residual-in_err-add_row.result c.from_residual-in_err-add_row.ensures.1 in
    let told = c.in_err-add_row.ensures.added in
    rw (p.1, p.2) (
      row_refused c.args.draft.now (name_bytes c.args.output.now) c.args.pattern.now c.args.value.now (written (goal.at.returns-in_err-add_row c).In_ok-value)
          (omega arith) (sym c.output.ensures ∙ c.in_ok-output.ensures.ok_part) (MatchOption-at_some _ _ _ c.in_ok-pattern.ensures.ok_part c.pattern_of.ensures) (MatchOption-at_some _ _ _ c.in_ok-value.ensures.ok_part c.value_of.ensures) _ told.0,
      told.1,
    )

pub returns : goal.returns
returns c =
    let told = c.in_ok-add_row.ensures.added in
    row_added c.args.draft.now (name_bytes c.args.output.now) c.args.pattern.now c.args.value.now (written (goal.at.returns c).In_ok-value)
    (omega arith) (sym c.output.ensures ∙ c.in_ok-output.ensures.ok_part) (MatchOption-at_some _ _ _ c.in_ok-pattern.ensures.ok_part c.pattern_of.ensures) (MatchOption-at_some _ _ _ c.in_ok-value.ensures.ok_part c.value_of.ensures) _ told.0 told.1
