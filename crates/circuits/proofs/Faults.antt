-- What the tests of the code say of the faults: parts that nothing speaks against.
use Rattle.std.proofs.Common.{◌≡◌, ◌<◌, ◌≤◌, true, false, eqb, length, None, vec_items, vec_len, Vec, sym, ◌∙◌, arith}
use Rattle.std.proofs.lemmas.Bool.{eqb-true, eqb-false}
use Rattle.std.proofs.lemmas.Bool.Decides.{nat_tests}
use Rattle.std.specs.declared.alloc.Global.{Global}
use Rattle.circuits.specs.declared.gate.Gate.{Gate}
use Rattle.circuits.specs.declared.gate.Output.{Output}
use Rattle.circuits.specs.declared.name.Name.{Name}
use Rattle.circuits.specs.declared.row.SpecRow.{SpecRow}
use Rattle.circuits.specs.Kinds.{fits}
use Rattle.circuits.specs.Circuits.{name_bytes, pins_of}
use Rattle.circuits.specs.Lines.{stem_count}
use Rattle.circuits.specs.Specification.{literals_of}
use Rattle.circuits.specs.Legality.{among, stem_names, output_names, pins_read, agrees}
use Rattle.circuits.specs.Drafts.{Parts, input_fault, gate_fault, output_fault, row_fault}

-- what `is_empty` tells
pub none_there : {X : Type 0} (v : Vec X Global) → true ≡ eqb (vec_len v) 0 → length (vec_items v) ≡ 0
none_there v e = sym v.ok.0 ∙ eqb-true (vec_len v) 0 (sym e)

pub some_there : {X : Type 0} (v : Vec X Global) → false ≡ eqb (vec_len v) 0 → 1 ≤ length (vec_items v)
some_there v e = let some = eqb-false (vec_len v) 0 (sym e) in omega (arith, v.ok.0)

pub input_passes :
    (d : Parts) (x : Name) → length d.circuit.gates ≡ 0 → length d.circuit.outputs ≡ 0 → length d.rows ≡ 0 → length d.circuit.inputs < 12 →
    false ≡ among (name_bytes x) (stem_names d.circuit) → input_fault d x ≡ None
input_passes d x gates outputs rows few fresh = grind (arith, nat_tests)

pub gate_passes :
    (d : Parts) (g : Gate) → length d.circuit.outputs ≡ 0 → length d.rows ≡ 0 → length d.circuit.gates < 64 → false ≡ among (name_bytes g.name) (stem_names d.circuit) →
    true ≡ pins_read (stem_count d.circuit) (pins_of g) → true ≡ fits g.kind (length (pins_of g)) → gate_fault d g ≡ None
gate_passes d g outputs rows few fresh reads fit = grind (arith, nat_tests)

pub output_passes :
    (d : Parts) (x : Output) → length d.rows ≡ 0 → length d.circuit.outputs < 16 → false ≡ among (name_bytes x.name) (output_names d.circuit) →
    x.pin.stem < stem_count d.circuit → output_fault d x ≡ None
output_passes d x rows few fresh reads = grind (arith, nat_tests)

pub row_passes :
    (d : Parts) (r : SpecRow) → length d.rows < 256 → r.output < length d.circuit.outputs → length (literals_of r) ≡ length d.circuit.inputs → true ≡ agrees d.rows r →
    row_fault d r ≡ None
row_passes d r few known long agreed = grind (arith, nat_tests)
