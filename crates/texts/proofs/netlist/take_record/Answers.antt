use Rattle.std.proofs.Common.{refl, ◌∙◌}
use Rattle.std.proofs.lemmas.Option.{MatchOption-at_some, MatchOption-at_none}
use Rattle.std.proofs.lemmas.Result.{err_from_is_err_and}
use Rattle.circuits.specs.Circuits.{name_bytes}
use Rattle.texts.specs.Netlist.{shapeless}
use Rattle.texts.specs.declared.fault.Cause.TheVariants.{Shape}
use Rattle.texts.proofs.Exits.{lacking}
use Rattle.texts.proofs.Taking.{taken_late, taken_refused, taken_added, onward_taken, gate_declared, output_declared, output_told}
use Rattle.texts.proofs.netlist.take_record.Goals as goal

pub returns-in_err-shaped : goal.returns-in_err-shaped
returns-in_err-shaped c =
    let p = err_from_is_err_and c.from_residual.result c.from_residual.ensures.1 in
    let (none, cause) = lacking c.netlist_shape.result _ Shape c.in_err-shaped.ensures.value in
    let bare = MatchOption-at_none _ _ none c.netlist_shape.ensures in
    rw (p.1, p.2, cause) (record { exact = shapeless (λ s q. bare s q.good q.parts); onward = tt })

pub returns-in_err-next : goal.returns-in_err-next
returns-in_err-next c =
    let p = err_from_is_err_and c.from_residual-in_err-next.result c.from_residual-in_err-next.ensures.1 in
    rw (p.1, p.2) (record {
      exact = taken_late c.args.draft.now c.args.group c.args.«record».now c.in_ok-shaped.shaped c.kind_of_record.result (MatchOption-at_some _ _ _ c.in_ok-shaped.ensures.ok_part c.netlist_shape.ensures) c.kind_of_record.ensures _ c.in_err-next.ensures;
      onward = tt;
    })

pub returns-in_err-add_input-in-Input : goal.returns-in_err-add_input-in-Input
returns-in_err-add_input-in-Input c =
    let p = err_from_is_err_and c.from_residual-in_err-add_input-in-Input.result c.from_residual-in_err-add_input-in-Input.ensures.1 in
    let told = c.in_err-add_input-in-Input.ensures in
    rw (p.1, p.2) (record {
      exact = taken_refused c.args.draft.now c.args.group c.args.«record».now c.in_ok-shaped.shaped c.kind_of_record.result (MatchOption-at_some _ _ _ c.in_ok-shaped.ensures.ok_part c.netlist_shape.ensures) c.kind_of_record.ensures _ c.in_ok-next.next _ _ c.in-Input.is c.in_ok-next.ensures told.0 told.1;
      onward = tt;
    })

pub returns-in_ok-add_input-in-Input : goal.returns-in_ok-add_input-in-Input
returns-in_ok-add_input-in-Input c =
    let told = c.in_ok-add_input-in-Input.ensures in
    let exact =
    taken_added c.args.draft.now c.args.group c.args.«record».now c.in_ok-shaped.shaped c.kind_of_record.result (MatchOption-at_some _ _ _ c.in_ok-shaped.ensures.ok_part c.netlist_shape.ensures) c.kind_of_record.ensures _ c.in_ok-next.next _ c.in-Input.is c.in_ok-next.ensures told.0 ((c.in-Input.name, refl, told.1))
    in
    record { exact = exact; onward = onward_taken c.args.draft.now c.args.group c.args.«record».now c.in_ok-next.next _ c.requires exact }

pub returns-in_err-add_gate-in-Gate : goal.returns-in_err-add_gate-in-Gate
returns-in_err-add_gate-in-Gate c =
    let p = err_from_is_err_and c.from_residual-in_err-add_gate-in-Gate.result c.from_residual-in_err-add_gate-in-Gate.ensures.1 in
    let told = c.in_err-add_gate-in-Gate.ensures in
    rw (p.1, p.2) (record {
      exact = taken_refused c.args.draft.now c.args.group c.args.«record».now c.in_ok-shaped.shaped c.kind_of_record.result (MatchOption-at_some _ _ _ c.in_ok-shaped.ensures.ok_part c.netlist_shape.ensures) c.kind_of_record.ensures _ c.in_ok-next.next _ _ c.in-Gate.is c.in_ok-next.ensures told.0 told.1;
      onward = tt;
    })

pub returns-in_ok-add_gate-in-Gate : goal.returns-in_ok-add_gate-in-Gate
returns-in_ok-add_gate-in-Gate c =
    let told = c.in_ok-add_gate-in-Gate.ensures in
    let exact =
    taken_added c.args.draft.now c.args.group c.args.«record».now c.in_ok-shaped.shaped c.kind_of_record.result (MatchOption-at_some _ _ _ c.in_ok-shaped.ensures.ok_part c.netlist_shape.ensures) c.kind_of_record.ensures _ c.in_ok-next.next _ c.in-Gate.is c.in_ok-next.ensures told.0 (gate_declared c.args.draft.now c.in-Gate.name c.in-Gate.kind _ _ told.1)
    in
    record { exact = exact; onward = onward_taken c.args.draft.now c.args.group c.args.«record».now c.in_ok-next.next _ c.requires exact }

pub returns-in_err-add_output-in-Output : goal.returns-in_err-add_output-in-Output
returns-in_err-add_output-in-Output c =
    let p = err_from_is_err_and c.from_residual-in_err-add_output-in-Output.result c.from_residual-in_err-add_output-in-Output.ensures.1 in
    let told = c.in_err-add_output-in-Output.ensures in
    rw (p.1, p.2) (record {
      exact = taken_refused c.args.draft.now c.args.group c.args.«record».now c.in_ok-shaped.shaped c.kind_of_record.result (MatchOption-at_some _ _ _ c.in_ok-shaped.ensures.ok_part c.netlist_shape.ensures) c.kind_of_record.ensures _ c.in_ok-next.next _ _ c.in-Output.is c.in_ok-next.ensures (output_told c.args.draft.now (name_bytes c.in-Output.name) c.in-Output.mark c.in-Output.stem ∙ told.0) told.1;
      onward = tt;
    })

pub returns-in_ok-add_output-in-Output : goal.returns-in_ok-add_output-in-Output
returns-in_ok-add_output-in-Output c =
    let told = c.in_ok-add_output-in-Output.ensures in
    let exact =
    taken_added c.args.draft.now c.args.group c.args.«record».now c.in_ok-shaped.shaped c.kind_of_record.result (MatchOption-at_some _ _ _ c.in_ok-shaped.ensures.ok_part c.netlist_shape.ensures) c.kind_of_record.ensures _ c.in_ok-next.next _ c.in-Output.is c.in_ok-next.ensures (output_told c.args.draft.now (name_bytes c.in-Output.name) c.in-Output.mark c.in-Output.stem ∙ told.0) (output_declared c.args.draft.now c.in-Output.name c.in-Output.mark c.in-Output.stem _ told.1)
    in
    record { exact = exact; onward = onward_taken c.args.draft.now c.args.group c.args.«record».now c.in_ok-next.next _ c.requires exact }
