use Rattle.std.proofs.Common.{refl, subst, ◌∙◌, rules}
use Rattle.std.proofs.lemmas.Result.{err_from_is_err_and, MatchResult-at_ok, MatchResult-at_err}
use Rattle.texts.specs.declared.fault.Text.TheVariants.{Specification}
use Rattle.texts.specs.Nexts.{spot_fault, NextRecord}
use Rattle.texts.specs.Specification.{RowStep}
use Rattle.texts.proofs.Exits.{mapped_ok, mapped_err}
use Rattle.texts.proofs.Going.{going_none, going_more, going_stopped, going_unended}
use Rattle.texts.proofs.specification.read_specification.Goals as goal

pub loop-spot-init : goal.loop-spot-init
loop-spot-init c = record { same_text = c.new-records.ensures.text; taken = going_none RowStep c.args.specification.now _ _ _ c.new-records.ensures.earlier refl }

pub loop-spot-preserved : goal.loop-spot-preserved
loop-spot-preserved c =
    let now = c.loop-spot.invariant in
    let given = c.in-Some.ensures.steps in
    let ok = mapped_ok _ c.take_row.result c.map_err.result c.map_err.ensures.cases _ c.in_ok-map_err.was in
    record {
      same_text = given.0 ∙ now.same_text;
      taken = going_more RowStep c.args.specification.now _ c.loop-spot.records now.same_text c.next.new.self (c.in-Some.spot, c.in-Some.«record») given _ _ now.taken (MatchResult-at_ok _ _ _ ok c.take_row.ensures);
    }

pub returns-in_err-map_err : goal.returns-in_err-map_err
returns-in_err-map_err c =
    let p = err_from_is_err_and c.from_residual.result c.from_residual.ensures.1 in
    let now = c.loop-spot.invariant in
    let given = c.in-Some.ensures.steps in
    let (cause, err, told) = mapped_err _ c.take_row.result c.map_err.result c.map_err.ensures.cases (spot_fault Specification c.in-Some.spot) _ c.in_err-map_err.was (λ d k. search rules) in
    rw (p.1, p.2) (going_stopped RowStep c.args.specification.now _ c.loop-spot.records now.same_text c.next.new.self (c.in-Some.spot, c.in-Some.«record») given Specification c.loop-spot.draft cause c.in_err-map_err.field-0.0 told now.taken (MatchResult-at_err _ _ cause err c.take_row.ensures))

pub returns-then-rest-ne0 : goal.returns-then-rest-ne0
returns-then-rest-ne0 c =
    let now = c.loop-spot.invariant in
    let rest = c.rest-rest.ensures in
    let gone = subst (λ o. NextRecord c.loop-spot.records o c.next.new.self) c.in_default.is c.next.ensures.steps in
    going_unended RowStep c.args.specification.now _ c.loop-spot.records now.same_text _ _ gone rest.number rest.place rest.length Specification _ _ c.fault.ensures c.if-rest-ne0.true now.taken
