-- The rules that a design or a draft keeps, one by one.
use Rattle.std.proofs.Common.{◌≡◌, ℕ, ◌≤◌, true, ◌&&◌, leb, List, length}
use Rattle.std.proofs.lemmas.Bool.{and_parts, and_from, leb-true, le-leb}
use Rattle.circuits.specs.declared.row.SpecRow.{SpecRow}
use Rattle.circuits.specs.Circuits.{Net}
use Rattle.circuits.specs.Lines.{stem_count}
use Rattle.circuits.specs.Legality.{gates_legal, outputs_legal, all_apart, stem_names, output_names, rows_legal, consistent, within_limits, circuit_legal, drafted, legal, roomy}

pub record Rules (c : Net) (rows : List SpecRow) : Type 0 where
  pub few_inputs : length c.inputs ≤ 12
  pub few_gates : length c.gates ≤ 64
  pub few_outputs : length c.outputs ≤ 16
  pub few_rows : length rows ≤ 256
  pub gates_good : gates_legal (length c.inputs) c.gates ≡ true
  pub outputs_good : outputs_legal (stem_count c) c.outputs ≡ true
  pub stems_apart : all_apart (stem_names c) ≡ true
  pub outputs_apart : all_apart (output_names c) ≡ true
  pub rows_good : rows_legal (length c.outputs) (length c.inputs) rows ≡ true
  pub rows_agree : consistent rows ≡ true

unfoldable pub rules : (c : Net) (rows : List SpecRow) → drafted c rows ≡ true → Rules c rows
unfolding drafted
rules c rows h =
    let p = and_parts (within_limits c rows) (circuit_legal c && (rows_legal (length c.outputs) (length c.inputs) rows && consistent rows)) h in
    let q = and_parts (circuit_legal c) (rows_legal (length c.outputs) (length c.inputs) rows && consistent rows) p.1 in
    let r = and_parts (rows_legal (length c.outputs) (length c.inputs) rows) (consistent rows) q.1 in
    let s = and_parts (gates_legal (length c.inputs) c.gates && outputs_legal (stem_count c) c.outputs) (all_apart (stem_names c) && all_apart (output_names c)) q.0 in
    let t = and_parts (gates_legal (length c.inputs) c.gates) (outputs_legal (stem_count c) c.outputs) s.0 in
    let u = and_parts (all_apart (stem_names c)) (all_apart (output_names c)) s.1 in
    let v = and_parts (leb (length c.inputs) 12 && leb (length c.gates) 64) (leb (length c.outputs) 16 && leb (length rows) 256) p.0 in
    let w = and_parts (leb (length c.inputs) 12) (leb (length c.gates) 64) v.0 in
    let x = and_parts (leb (length c.outputs) 16) (leb (length rows) 256) v.1 in
    record {
      few_inputs = leb-true (length c.inputs) 12 w.0;
      few_gates = leb-true (length c.gates) 64 w.1;
      few_outputs = leb-true (length c.outputs) 16 x.0;
      few_rows = leb-true (length rows) 256 x.1;
      gates_good = t.0;
      outputs_good = t.1;
      stems_apart = u.0;
      outputs_apart = u.1;
      rows_good = r.0;
      rows_agree = r.1;
    }

pub drafted_from : (c : Net) (rows : List SpecRow) → Rules c rows → drafted c rows ≡ true
unfolding drafted
drafted_from c rows k =
    and_from (within_limits c rows) (circuit_legal c && (rows_legal (length c.outputs) (length c.inputs) rows && consistent rows))
    (and_from (leb (length c.inputs) 12 && leb (length c.gates) 64) (leb (length c.outputs) 16 && leb (length rows) 256)
    (and_from (leb (length c.inputs) 12) (leb (length c.gates) 64) (le-leb (length c.inputs) 12 k.few_inputs) (le-leb (length c.gates) 64 k.few_gates))
    (and_from (leb (length c.outputs) 16) (leb (length rows) 256) (le-leb (length c.outputs) 16 k.few_outputs) (le-leb (length rows) 256 k.few_rows)))
    (and_from (circuit_legal c) (rows_legal (length c.outputs) (length c.inputs) rows && consistent rows)
    (and_from (gates_legal (length c.inputs) c.gates && outputs_legal (stem_count c) c.outputs) (all_apart (stem_names c) && all_apart (output_names c))
    (and_from (gates_legal (length c.inputs) c.gates) (outputs_legal (stem_count c) c.outputs) k.gates_good k.outputs_good)
    (and_from (all_apart (stem_names c)) (all_apart (output_names c)) k.stems_apart k.outputs_apart))
    (and_from (rows_legal (length c.outputs) (length c.inputs) rows) (consistent rows) k.rows_good k.rows_agree))

-- a whole design
pub record Whole (c : Net) (rows : List SpecRow) : Type 0 where
  pub some_input : 1 ≤ length c.inputs
  pub some_output : 1 ≤ length c.outputs
  pub draft : drafted c rows ≡ true

unfoldable pub whole : (c : Net) (rows : List SpecRow) → legal c rows ≡ true → Whole c rows
unfolding legal
whole c rows h =
    let p = and_parts (leb 1 (length c.inputs) && leb 1 (length c.outputs)) (drafted c rows) h in
    let q = and_parts (leb 1 (length c.inputs)) (leb 1 (length c.outputs)) p.0 in
    record { some_input = leb-true 1 (length c.inputs) q.0; some_output = leb-true 1 (length c.outputs) q.1; draft = p.1 }

pub legal_from : (c : Net) (rows : List SpecRow) → Whole c rows → legal c rows ≡ true
unfolding legal
legal_from c rows k =
    and_from (leb 1 (length c.inputs) && leb 1 (length c.outputs)) (drafted c rows)
    (and_from (leb 1 (length c.inputs)) (leb 1 (length c.outputs)) (le-leb 1 (length c.inputs) k.some_input) (le-leb 1 (length c.outputs) k.some_output)) k.draft

-- the rules of a whole design
unfoldable pub design_rules : (c : Net) (rows : List SpecRow) → legal c rows ≡ true → Rules c rows
design_rules c rows h = rules c rows (whole c rows h).draft

-- room for all that there may be
pub record Room (i g o r : ℕ) : Type 0 where
  pub for_inputs : 12 ≤ i
  pub for_gates : 64 ≤ g
  pub for_outputs : 16 ≤ o
  pub for_rows : 256 ≤ r

pub room_from : (i g o r : ℕ) → Room i g o r → roomy i g o r ≡ true
room_from i g o r k =
    and_from (leb 12 i && leb 64 g) (leb 16 o && leb 256 r) (and_from (leb 12 i) (leb 64 g) (le-leb 12 i k.for_inputs) (le-leb 64 g k.for_gates))
    (and_from (leb 16 o) (leb 256 r) (le-leb 16 o k.for_outputs) (le-leb 256 r k.for_rows))
