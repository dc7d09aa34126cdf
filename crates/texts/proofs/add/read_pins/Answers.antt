use Rattle.std.proofs.Common.{eqb, sym, ◌∙◌, rules, tests}
use Rattle.std.proofs.lemmas.Iterator.Consumers.{YieldsList-at}
use Rattle.std.proofs.lemmas.Iterator.Splits.{YieldsList-from_slice_split}
use Rattle.std.proofs.lemmas.List.{map_push}
use Rattle.std.proofs.lemmas.Result.{err_from_is_err_and, MatchResult-weaker}
use Rattle.texts.specs.declared.fault.Cause.TheVariants.{Naming}
use Rattle.texts.specs.Records.{comma}
use Rattle.texts.proofs.Exits.{lacking}
use Rattle.texts.proofs.Pinning.{read_none, read_more, read_all, read_unknown}
use Rattle.texts.proofs.add.read_pins.Goals as goal

pub loop-field-init : goal.loop-field-init
loop-field-init c = read_none c.args.draft.now c.none.result c.none.ensures

pub loop-field-preserved : goal.loop-field-preserved
loop-field-preserved c =
    rw map_push (read_more c.args.draft.now _ c.in-Some.field.now c.in_ok-pin.pin c.loop-field.read c.and_then-read.result (sym c.in_ok-pin.ensures.ok_part ∙ c.read_pin.ensures) (MatchResult-weaker c.loop-field.read c.and_then-read.ensures (λ x k. search rules) (λ e k. k)) c.loop-field.invariant)

pub returns-in_err-pin : goal.returns-in_err-pin
returns-in_err-pin c =
    let p = err_from_is_err_and c.from_residual.result c.from_residual.ensures.1 in
    let s = c.split-field-items.ensures in
    let (none, cause) = lacking c.read_pin.result c.in_err-pin.field-0.0 Naming c.in_err-pin.ensures.value in
    let unknown =
    read_unknown c.args.draft.now c.args.pins.now (YieldsList-at c.into_iter-field-iterator.ensures.into_iter_gives (YieldsList-from_slice_split _ (λ b. eqb b comma) c.args.pins.now s.rest s.done s.closure (λ x b q k. search (rules, tests)))) c.loop-field.yielded _ c.loop-field.yielded_by c.next.result _ c.next.ensures.steps c.in-Some.field c.in-Some.is (sym none ∙ c.read_pin.ensures)
    in
    rw (p.1, p.2, unknown) cause

pub returns : goal.returns
returns c =
    let s = c.split-field-items.ensures in
    read_all c.args.draft.now c.args.pins.now (YieldsList-at c.into_iter-field-iterator.ensures.into_iter_gives (YieldsList-from_slice_split _ (λ b. eqb b comma) c.args.pins.now s.rest s.done s.closure (λ x b q k. search (rules, tests)))) c.loop-field.yielded _ c.loop-field.yielded_by c.next.result _ c.next.ensures.steps c.loop-field.read c.in-None.is c.loop-field.invariant
