use Rattle.std.proofs.Common.{subst, ap, ◌∙◌, rules}
use Rattle.std.proofs.lemmas.Result.{err_from_is_err_and, IfOk-at_ok}
use Rattle.texts.specs.declared.fault.Cause.TheVariants.{Limit}
use Rattle.texts.specs.declared.fault.Text.TheVariants.{Netlist}
use Rattle.texts.specs.declared.group.Group.TheVariants.{Inputs}
use Rattle.texts.specs.Netlist.{Taken, NetlistStep, start, NetlistRefused, at_record, at_end}
use Rattle.texts.specs.Nexts.{spot_fault, NextRecord}
use Rattle.texts.proofs.Exits.{mapped_ok, mapped_err}
use Rattle.texts.proofs.Going.{going_none, going_more, going_stopped, going_unended, going_all, going_end}
use Rattle.texts.proofs.Taking.{taken_left}
use Rattle.texts.proofs.netlist.read_netlist.Goals as goal

pub loop-spot-init : goal.loop-spot-init
loop-spot-init c =
    record {
      same_text = c.new-records.ensures.text;
      taken = going_none NetlistStep c.args.netlist.now start _ _ c.new-records.ensures.earlier (ap (λ d. (Inputs, d)) c.requires);
      reached = (ap (λ d. d.circuit.gates) c.requires, ap (λ d. d.circuit.outputs) c.requires, ap (λ d. d.rows) c.requires);
    }

pub loop-spot-preserved : goal.loop-spot-preserved
loop-spot-preserved c =
    let now = c.loop-spot.invariant in
    let given = c.in-Some.ensures.steps in
    let d = c.loop-spot.draft in
    let d' = c.take_record-taken.new.draft in
    let ok = mapped_ok _ c.take_record-taken.result c.map_err.result c.map_err.ensures.cases _ c.in_ok-group.was in
    let taken = subst (λ r. Taken d c.loop-spot.group c.in-Some.«record».now r d') ok c.take_record-taken.ensures.exact in
    record {
      same_text = given.0 ∙ now.same_text;
      taken = going_more NetlistStep c.args.netlist.now start c.loop-spot.records now.same_text c.next.new.self (c.in-Some.spot, c.in-Some.«record») given (c.loop-spot.group, d) (c.in_ok-group.group, d') now.taken taken;
      reached = IfOk-at_ok _ ok c.take_record-taken.ensures.onward;
    }

pub returns-in_err-group : goal.returns-in_err-group
returns-in_err-group c =
    let p = err_from_is_err_and c.from_residual.result c.from_residual.ensures.1 in
    let now = c.loop-spot.invariant in
    let given = c.in-Some.ensures.steps in
    let d = c.loop-spot.draft in
    let d' = c.take_record-taken.new.draft in
    let (cause, err, told) = mapped_err _ c.take_record-taken.result c.map_err.result c.map_err.ensures.cases (spot_fault Netlist c.in-Some.spot) _ c.in_err-group.was (λ e k. search rules) in
    let taken = subst (λ r. Taken d c.loop-spot.group c.in-Some.«record».now r d') err c.take_record-taken.ensures.exact in
    rw (p.1, p.2)
    (at_record _ (going_stopped NetlistStep c.args.netlist.now start c.loop-spot.records now.same_text c.next.new.self (c.in-Some.spot, c.in-Some.«record») given Netlist (c.loop-spot.group, d) cause _ told now.taken (taken_left d c.loop-spot.group c.in-Some.«record».now cause d' taken)))

pub returns-then-rest-ne0 : goal.returns-then-rest-ne0
returns-then-rest-ne0 c =
    let now = c.loop-spot.invariant in
    let rest = c.rest-rest.ensures in
    let gone = subst (λ o. NextRecord c.loop-spot.records o c.next.new.self) c.in_default.is c.next.ensures.steps in
    at_record _ (going_unended NetlistStep c.args.netlist.now start c.loop-spot.records now.same_text _ _ gone rest.number rest.place rest.length Netlist _ _ c.fault.ensures c.if-rest-ne0.true now.taken)

pub returns-then-not-is_whole : goal.returns-then-not-is_whole
returns-then-not-is_whole c =
    let now = c.loop-spot.invariant in
    let rest = c.rest-rest.ensures in
    let gone = subst (λ o. NextRecord c.loop-spot.records o c.next.new.self) c.in_default.is c.next.ensures.steps in
    let all = going_all NetlistStep c.args.netlist.now start c.loop-spot.records now.same_text _ _ gone rest.number rest.place rest.length c.if-rest-ne0.false in
    let end = going_end NetlistStep c.args.netlist.now start c.loop-spot.records now.same_text _ _ gone rest.number rest.place rest.length Netlist Limit _ c.fault-then-not-is_whole.ensures in
    subst (NetlistRefused c.args.netlist.now) end (at_end c.loop-spot.records.earlier c.loop-spot.group c.loop-spot.draft now.taken all c.if-not-is_whole.ensures)
