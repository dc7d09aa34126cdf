-- A further part that nothing speaks against breaks no rule.
use Rattle.std.proofs.Common.{◌≡◌, ℕ, Bool, true, false, not, ◌||◌, eqb, ltb, leb, List, [], ◌∷◌, ◌++◌, map, length, None, Option, sym, refl, ap, ◌∙◌, arith}
use Rattle.std.proofs.lemmas.List.{append-nil, append_assoc, length_push, map_push, nil_from_length}
use Rattle.std.proofs.lemmas.Bool.{and_from, or_parts, not-false, eqb-true, leb-false, lt-ltb}
use Rattle.circuits.specs.declared.fault.PartFault.{PartFault}
use Rattle.circuits.specs.declared.fault.PartFault.TheVariants.{Order, Limit, Naming, PinCount, Literals, Contradiction}
use Rattle.circuits.specs.declared.gate.Gate.{Gate}
use Rattle.circuits.specs.declared.gate.Output.{Output}
use Rattle.circuits.specs.declared.name.Name.{Name}
use Rattle.circuits.specs.declared.row.SpecRow.{SpecRow}
use Rattle.circuits.specs.Kinds.{fits}
use Rattle.circuits.specs.Circuits.{name_bytes, pins_of}
use Rattle.circuits.specs.Lines.{stem_count}
use Rattle.circuits.specs.Specification.{literals_of}
use Rattle.circuits.specs.Legality.{among, all_apart, stem_names, output_names, pins_read, gates_legal, outputs_legal, rows_legal, agrees}
use Rattle.circuits.specs.Drafts.{Parts, check, some_yet, with_input, with_gate, with_output, with_row, input_fault, gate_fault, output_fault, row_fault}
use Rattle.circuits.proofs.Rules.{Rules}
use Rattle.circuits.proofs.Pushes.{gates_push, outputs_push, rows_push, apart_push, consistent_push}

abbrev pub Kept : Parts → Type 0
Kept d = Rules d.circuit d.rows

-- nothing is found: the first check finds nothing, nor do the later ones
passed : (b : Bool) (f : PartFault) (later : Option PartFault) → check b f later ≡ None → (b ≡ false) × (later ≡ None)
passed true f later e = let z : ◌≡◌ {A = ℕ} 0 1 = cc in let n : ⊥ = omega arith in absurd n
passed false f later e = (refl, e)

none_yet : {X : Type 0} (xs : List X) → some_yet xs ≡ false → xs ≡ []
none_yet xs e = nil_from_length xs (eqb-true (length xs) 0 (not-false (eqb (length xs) 0) e))

-- names after one part more
names_apart :
    {X : Type 0} (f : X → List ℕ) (before : List (List ℕ)) (xs : List X) (x : X) → all_apart (before ++ map f xs) ≡ true → among (f x) (before ++ map f xs) ≡ false →
    all_apart (before ++ map f (xs ++ x ∷ [])) ≡ true
names_apart f before xs x h k =
    let e : before ++ map f (xs ++ x ∷ []) ≡ (before ++ map f xs) ++ f x ∷ [] = ap (λ l. before ++ l) (map_push f xs x) ∙ sym (append_assoc before (map f xs) (f x ∷ [])) in
    rw e (apart_push [] (before ++ map f xs) (f x) h k)

pub gate_added : (d : Parts) (g : Gate) → Kept d → gate_fault d g ≡ None → Kept (with_gate d g)
unfolding outputs_legal rows_legal
gate_added d g k e =
    let c = d.circuit in
    let order = passed (some_yet c.outputs || some_yet d.rows) Order _ e in
    let limit = passed (leb 64 (length c.gates)) Limit _ order.1 in
    let naming = passed (among (name_bytes g.name) (stem_names c) || not (pins_read (stem_count c) (pins_of g))) Naming _ limit.1 in
    let count = passed (not (fits g.kind (length (pins_of g)))) PinCount None naming.1 in
    let later = or_parts (some_yet c.outputs) (some_yet d.rows) order.0 in
    let names = or_parts (among (name_bytes g.name) (stem_names c)) (not (pins_read (stem_count c) (pins_of g))) naming.0 in
    let l = length_push c.gates g in
    let few = leb-false 64 (length c.gates) limit.0 in
    let good = and_from (fits g.kind (length (pins_of g))) (pins_read (stem_count c) (pins_of g)) (not-false _ count.0) (not-false _ names.1) in
    record {
      few_inputs = k.few_inputs;
      few_gates = omega arith;
      few_outputs = k.few_outputs;
      few_rows = k.few_rows;
      gates_good = gates_push (length c.inputs) (stem_count c) c.gates g refl k.gates_good good;
      outputs_good = rw (none_yet c.outputs later.0) refl;
      stems_apart = names_apart (λ (x : Gate). name_bytes x.name) (map name_bytes c.inputs) c.gates g k.stems_apart names.0;
      outputs_apart = k.outputs_apart;
      rows_good = k.rows_good;
      rows_agree = k.rows_agree;
    }

pub output_added : (d : Parts) (x : Output) → Kept d → output_fault d x ≡ None → Kept (with_output d x)
unfolding rows_legal
output_added d x k e =
    let c = d.circuit in
    let order = passed (some_yet d.rows) Order _ e in
    let limit = passed (leb 16 (length c.outputs)) Limit _ order.1 in
    let naming = passed (among (name_bytes x.name) (output_names c) || leb (stem_count c) x.pin.stem) Naming None limit.1 in
    let names = or_parts (among (name_bytes x.name) (output_names c)) (leb (stem_count c) x.pin.stem) naming.0 in
    let l = length_push c.outputs x in
    let few = leb-false 16 (length c.outputs) limit.0 in
    record {
      few_inputs = k.few_inputs;
      few_gates = k.few_gates;
      few_outputs = omega arith;
      few_rows = k.few_rows;
      gates_good = k.gates_good;
      outputs_good = outputs_push (stem_count c) c.outputs x k.outputs_good (lt-ltb x.pin.stem (stem_count c) (leb-false (stem_count c) x.pin.stem names.1));
      stems_apart = k.stems_apart;
      outputs_apart = names_apart (λ (y : Output). name_bytes y.name) [] c.outputs x k.outputs_apart names.0;
      rows_good = rw (none_yet d.rows order.0) refl;
      rows_agree = k.rows_agree;
    }

pub row_added : (d : Parts) (r : SpecRow) → Kept d → row_fault d r ≡ None → Kept (with_row d r)
row_added d r k e =
    let c = d.circuit in
    let limit = passed (leb 256 (length d.rows)) Limit _ e in
    let naming = passed (leb (length c.outputs) r.output) Naming _ limit.1 in
    let literals = passed (not (eqb (length (literals_of r)) (length c.inputs))) Literals _ naming.1 in
    let agreed = passed (not (agrees d.rows r)) Contradiction None literals.1 in
    let l = length_push d.rows r in
    let few = leb-false 256 (length d.rows) limit.0 in
    let known = lt-ltb r.output (length c.outputs) (leb-false (length c.outputs) r.output naming.0) in
    record {
      few_inputs = k.few_inputs;
      few_gates = k.few_gates;
      few_outputs = k.few_outputs;
      few_rows = omega arith;
      gates_good = k.gates_good;
      outputs_good = k.outputs_good;
      stems_apart = k.stems_apart;
      outputs_apart = k.outputs_apart;
      rows_good = rows_push (length c.outputs) (length c.inputs) d.rows r k.rows_good (and_from (ltb r.output (length c.outputs)) (eqb (length (literals_of r)) (length c.inputs)) known (not-false _ literals.0));
      rows_agree = consistent_push [] d.rows r k.rows_agree (not-false _ agreed.0);
    }

pub input_added : (d : Parts) (x : Name) → Kept d → input_fault d x ≡ None → Kept (with_input d x)
unfolding gates_legal outputs_legal rows_legal
input_added d x k e =
    let c = d.circuit in
    let order = passed (some_yet c.gates || (some_yet c.outputs || some_yet d.rows)) Order _ e in
    let limit = passed (leb 12 (length c.inputs)) Limit _ order.1 in
    let naming = passed (among (name_bytes x) (stem_names c)) Naming None limit.1 in
    let gates = or_parts (some_yet c.gates) (some_yet c.outputs || some_yet d.rows) order.0 in
    let later = or_parts (some_yet c.outputs) (some_yet d.rows) gates.1 in
    let l = length_push c.inputs x in
    let few = leb-false 12 (length c.inputs) limit.0 in
    let none : c.gates ≡ [] = none_yet c.gates gates.0 in
    let bare : (xs : List Name) → map name_bytes xs ++ map (λ (g : Gate). name_bytes g.name) c.gates ≡ map name_bytes xs =
    λ xs. ap (λ gs. map name_bytes xs ++ map (λ (g : Gate). name_bytes g.name) gs) none ∙ append-nil (map name_bytes xs) in
    record {
      few_inputs = omega arith;
      few_gates = k.few_gates;
      few_outputs = k.few_outputs;
      few_rows = k.few_rows;
      gates_good = rw none refl;
      outputs_good = rw (none_yet c.outputs later.0) refl;
      stems_apart = rw (bare (c.inputs ++ x ∷ [])) (names_apart name_bytes [] c.inputs x (rw (bare c.inputs) at k.stems_apart) (rw (bare c.inputs) at naming.0));
      outputs_apart = k.outputs_apart;
      rows_good = rw (none_yet d.rows later.1) refl;
      rows_agree = k.rows_agree;
    }
