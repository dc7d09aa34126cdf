-- A draft with nothing in it, and the smallest design.
use Rattle.std.proofs.Common.{◌≡◌, Bool, true, List, [], None, refl}
use Rattle.circuits.specs.declared.gate.Gate.{Gate}
use Rattle.circuits.specs.declared.gate.Output.{Output}
use Rattle.circuits.specs.declared.name.Name.{Name}
use Rattle.circuits.specs.declared.row.SpecRow.{SpecRow}
use Rattle.circuits.specs.Drafts.{no_parts, with_input, with_output, input_fault}
use Rattle.circuits.specs.Legality.{gates_legal, outputs_legal, position, apart_from, rows_legal, consistent_from, drafted, legal}

pub nothing_drafted :
    (is : List Name) (gs : List Gate) (os : List Output) (rs : List SpecRow) → is ≡ [] → gs ≡ [] → os ≡ [] → rs ≡ [] → drafted (record { inputs = is; gates = gs; outputs = os }) rs ≡ true
unfolding drafted gates_legal outputs_legal apart_from rows_legal consistent_from
nothing_drafted is gs os rs d e f g = rw (d, e, f, g) refl

-- one input, and then one output that reads it
module _ (x : Name) where
  pub input_starts : input_fault no_parts x ≡ None
  unfolding position
  input_starts = refl

  pub smallest_legal : (m : Bool) → legal (with_output (with_input no_parts x) (record { name = x; pin = record { stem = 0; mark = m } })).circuit [] ≡ true
  unfolding legal drafted gates_legal outputs_legal position apart_from rows_legal consistent_from
  smallest_legal m = refl
