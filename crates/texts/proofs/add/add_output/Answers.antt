use Rattle.std.proofs.Common.{◌≡◌, length, sym, refl, ap, ◌∙◌, arith}
use Rattle.std.proofs.lemmas.Result.{err_from_is_err_and}
use Rattle.std.proofs.lemmas.Bool.{lt-leb}
use Rattle.std.specs.Option.{option_map}
use Rattle.circuits.specs.declared.gate.Output.{Output}
use Rattle.circuits.specs.Circuits.{name_bytes}
use Rattle.circuits.specs.Drafts.{output_fault}
use Rattle.texts.specs.Adding.{output_cause}
use Rattle.texts.specs.Faults.{cause_of}
use Rattle.texts.proofs.Additions.{output_same}
use Rattle.texts.proofs.add.add_output.Goals as goal
use Rattle.texts.proofs.add.add_output.Goals.{In_ok-stem}

abbrev made : In_ok-stem → Output
made c = record { name = c.args.name; pin = record { stem = c.in_ok-stem.stem; mark = c.args.mark } }

-- What is left to check is checked by the draft.
same : (c : In_ok-stem) → output_cause c.args.draft.now (name_bytes c.args.name) (name_bytes c.args.stem.now) ≡ option_map cause_of (output_fault c.args.draft.now (made c))
same c =
    output_same c.args.draft.now (made c) (name_bytes c.args.stem.now) c.requires (lt-leb 16 (length c.args.draft.now.circuit.outputs) (omega arith)) (sym c.stem.ensures ∙ c.in_ok-stem.ensures.ok_part)

pub returns-in_err-add_output : goal.returns-in_err-add_output
returns-in_err-add_output c =
    let p = err_from_is_err_and c.from_residual-in_err-add_output.result c.from_residual-in_err-add_output.ensures.1 in
    let told = c.in_err-add_output.ensures.added in
    rw (p.1, p.2) (same (goal.at.returns-in_err-add_output c).In_ok-stem ∙ ap (option_map cause_of) told.0, told.1)

pub returns : goal.returns
returns c =
    let told = c.in_ok-add_output.ensures.added in (
      same (goal.at.returns c).In_ok-stem ∙ ap (option_map cause_of) told.0,
      record { output = made (goal.at.returns c).In_ok-stem; named = refl; marked = refl; reads = sym c.stem.ensures ∙ c.in_ok-stem.ensures.ok_part; added = told.1 },
    )
