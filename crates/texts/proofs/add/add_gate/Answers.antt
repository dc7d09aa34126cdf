use Rattle.std.proofs.Common.{◌≡◌, length, is_some, sym, refl, ap, ◌∙◌, arith}
use Rattle.std.proofs.lemmas.Result.{err_from_is_err_and}
use Rattle.std.proofs.lemmas.Bool.{lt-leb}
use Rattle.std.specs.Option.{option_map}
use Rattle.circuits.specs.declared.gate.Gate.{Gate}
use Rattle.circuits.specs.Circuits.{name_bytes}
use Rattle.circuits.specs.Drafts.{gate_fault}
use Rattle.texts.specs.Adding.{gate_cause}
use Rattle.texts.specs.Records.{fields}
use Rattle.texts.specs.Faults.{cause_of}
use Rattle.texts.proofs.Additions.{gate_same}
use Rattle.texts.proofs.add.add_gate.Goals as goal
use Rattle.texts.proofs.add.add_gate.Goals.{In_ok-pins}

abbrev made : In_ok-pins → Gate
made c = record { name = c.args.name; kind = c.args.kind; pins = c.in_ok-pins.pins }

-- What is left to check is checked by the draft.
same : (c : In_ok-pins) → gate_cause c.args.draft.now (name_bytes c.args.name) c.args.kind (fields c.args.pins.now) ≡ option_map cause_of (gate_fault c.args.draft.now (made c))
same c =
    gate_same c.args.draft.now (made c) (fields c.args.pins.now) c.requires (lt-leb 64 (length c.args.draft.now.circuit.gates) (omega arith))
    (ap is_some (sym c.stem.ensures) ∙ sym c.if-is_some.ensures) c.in_ok-pins.ensures

pub returns-in_err-add_gate : goal.returns-in_err-add_gate
returns-in_err-add_gate c =
    let p = err_from_is_err_and c.from_residual-in_err-add_gate.result c.from_residual-in_err-add_gate.ensures.1 in
    let told = c.in_err-add_gate.ensures.added in
    rw (p.1, p.2) (same (goal.at.returns-in_err-add_gate c).In_ok-pins ∙ ap (option_map cause_of) told.0, told.1)

pub returns : goal.returns
returns c =
    let told = c.in_ok-add_gate.ensures.added in (
      same (goal.at.returns c).In_ok-pins ∙ ap (option_map cause_of) told.0,
      record { gate = made (goal.at.returns c).In_ok-pins; named = refl; of_kind = refl; with_pins = c.in_ok-pins.ensures; added = told.1 },
    )
