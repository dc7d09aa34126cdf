-- Texts that are accepted are the writing of the design that they give.
use Rattle.std.proofs.Common.{◌≡◌, ℕ, ◌+◌, ◌<◌, List, [], ◌∷◌, ◌++◌, map, length, get_or, take, Ok, Err, codes, Result, sym, refl, ap, ◌∙◌, subst, arith, length-append}
use Rattle.std.proofs.lemmas.List.{take_all}
use Rattle.circuits.specs.declared.kind.Kind.{Kind}
use Rattle.circuits.specs.Circuits.{name_bytes, pins_of}
use Rattle.circuits.specs.Drafts.{Parts, no_parts, with_input, with_gate, with_output}
use Rattle.circuits.specs.Legality.{stem_names, output_names}
use Rattle.circuits.specs.Specification.{literals_of}
use Rattle.texts.specs.declared.fault.Cause.{Cause}
use Rattle.texts.specs.declared.group.Group.{Group}
use Rattle.texts.specs.declared.group.Group.TheVariants.{Inputs, Gates, Outputs}
use Rattle.texts.specs.declared.group.RecordKind.TheVariants.{Input, Gate as GateKind, Output as OutputKind}
use Rattle.texts.specs.Adding.{Reached}
use Rattle.texts.specs.Fields.{kind_word, pattern_word, value_word}
use Rattle.texts.specs.Groups.{next}
use Rattle.texts.specs.Netlist.{Declared, added, NetlistStep, start}
use Rattle.texts.specs.Reading.{Accepted}
use Rattle.texts.specs.Records.{feed, record_at, fields}
use Rattle.texts.specs.Shapes.{input, gate, output, shape_fields, row_fields}
use Rattle.texts.specs.Specification.{RowStep, added as row_added}
use Rattle.texts.specs.Walks.{record_place, At, ended, After, none, more}
use Rattle.texts.specs.Writing.{parted, line, lines, pin_word, row_line, netlist_text, rows_text, Writes}
use Rattle.texts.proofs.Going.{place_none, place_more}
use Rattle.texts.proofs.Lines.{parted_fields, record_next, lines_more, lines_none}
use Rattle.texts.proofs.Written.{GatesBelow, pin_found, pins_found, stems_with_gate, gates_below_more, text_with_input, text_with_gate, text_with_output, output_found}

-- what stands before the record after n others is the text t
abbrev Front : List ℕ → ℕ → List ℕ → Type 0
Front bs n t = take (record_place bs n) bs ≡ t

-- one record more
front_more : (bs : List ℕ) (n : ℕ) (t : List ℕ) (fs : List (List ℕ)) → record_place bs n + length (record_at bs (record_place bs n)) < length bs → fields (record_at bs (record_place bs n)) ≡ fs → Front bs n t → Front bs (n + 1) (t ++ line fs)
front_more bs n t fs l e f =
    let r = record_at bs (record_place bs n) in
    ap (λ x. take x bs) (place_more bs n) ∙ (record_next bs (record_place bs n) l ∙ (ap (λ x. x ++ (r ++ feed ∷ [])) f ∙ ap (λ x. t ++ (x ++ feed ∷ [])) (sym (parted_fields r) ∙ ap parted e)))

pub record NetlistFront (bs : List ℕ) (n : ℕ) (s : Group × Parts) : Type 0 where
  pub front : Front bs n (netlist_text s.1.circuit)
  pub group : Reached s.0 s.1
  pub below : GatesBelow (length (stem_names s.1.circuit)) s.1.circuit.gates

ok_is : {X : Type 0} (x y : X) → ◌≡◌ {A = Result X Cause} (Ok x) (Ok y) → x ≡ y
ok_is x y e = cc

not_ok : {X : Type 0} (c : Cause) (x : X) → ◌≡◌ {A = Result X Cause} (Err c) (Ok x) → ⊥
not_ok c x e = let z : ◌≡◌ {A = ℕ} 0 1 = cc in omega arith

no_rows : (g : Group) (d : Parts) → Reached g d → d.rows ≡ []
no_rows Inputs d r = r.2
no_rows Gates d r = r.1
no_rows Outputs d r = r

next_input : (g g' : Group) (d : Parts) → next g Input ≡ Ok g' → Reached g d → (g' ≡ Inputs) × Reached Inputs d
next_input Inputs g' d e r = (sym (ok_is Inputs g' e), r)
next_input Gates g' d e r = absurd (not_ok _ g' e)
next_input Outputs g' d e r = absurd (not_ok _ g' e)

next_gate : (g g' : Group) (d : Parts) → next g GateKind ≡ Ok g' → Reached g d → (g' ≡ Gates) × Reached Gates d
next_gate Inputs g' d e r = (sym (ok_is Gates g' e), (r.1, r.2))
next_gate Gates g' d e r = (sym (ok_is Gates g' e), r)
next_gate Outputs g' d e r = absurd (not_ok _ g' e)

next_output : (g g' : Group) → next g OutputKind ≡ Ok g' → g' ≡ Outputs
next_output Inputs g' e = sym (ok_is Outputs g' e)
next_output Gates g' e = sym (ok_is Outputs g' e)
next_output Outputs g' e = sym (ok_is Outputs g' e)

-- one part more
module _ (bs : List ℕ) (n : ℕ) (g g' : Group) (d d' : Parts) (w : NetlistFront bs n (g, d)) (l : record_place bs n + length (record_at bs (record_place bs n)) < length bs) where
  input_front : (x : List ℕ) → fields (record_at bs (record_place bs n)) ≡ shape_fields (input x) → next g Input ≡ Ok g' → Declared d (input x) d' → NetlistFront bs (n + 1) (g', d')
  input_front x e step (name, named, is) =
      let (i, r) = next_input g g' d step w.group in
      let text : netlist_text (with_input d name).circuit ≡ netlist_text d.circuit ++ line (codes "in" ∷ x ∷ []) = text_with_input d name r.0 r.1 ∙ ap (λ y. netlist_text d.circuit ++ line (codes "in" ∷ y ∷ [])) named in
      subst (λ y. NetlistFront bs (n + 1) (g', y)) (sym is) (subst (λ y. NetlistFront bs (n + 1) (y, with_input d name)) (sym i) (record {
        front = front_more bs n (netlist_text d.circuit) (codes "in" ∷ x ∷ []) l e w.front ∙ sym text;
        group = r;
        below = subst (GatesBelow (length (stem_names (with_input d name).circuit))) (sym r.0) tt;
      }))

  gate_front : (x : List ℕ) (k : Kind) (ps : List (List ℕ)) → fields (record_at bs (record_place bs n)) ≡ shape_fields (gate x k ps) → next g GateKind ≡ Ok g' → Declared d (gate x k ps) d' → NetlistFront bs (n + 1) (g', d')
  gate_front x k ps e step (made, named, kind, pins, is) =
      let (i, r) = next_gate g g' d step w.group in
      let names = stem_names d.circuit in
      let (below, words) = pins_found d ps (pins_of made) pins in
      let text : netlist_text (with_gate d made).circuit ≡ netlist_text d.circuit ++ line (codes "gate" ∷ x ∷ kind_word k ∷ ps) =
      text_with_gate d made r.0 w.below below
      ∙ (ap (λ y. netlist_text d.circuit ++ line (codes "gate" ∷ y ∷ kind_word made.kind ∷ map (pin_word names) (pins_of made))) named
      ∙ (ap (λ y. netlist_text d.circuit ++ line (codes "gate" ∷ x ∷ kind_word y ∷ map (pin_word names) (pins_of made))) kind ∙ ap (λ y. netlist_text d.circuit ++ line (codes "gate" ∷ x ∷ kind_word k ∷ y)) words)) in
      let longer = ap length (stems_with_gate d made) in
      let more = length-append names (name_bytes made.name ∷ []) in
      subst (λ y. NetlistFront bs (n + 1) (g', y)) (sym is) (subst (λ y. NetlistFront bs (n + 1) (y, with_gate d made)) (sym i) (record {
        front = front_more bs n (netlist_text d.circuit) (codes "gate" ∷ x ∷ kind_word k ∷ ps) l e w.front ∙ sym text;
        group = r;
        below = gates_below_more (length names) (length (stem_names (with_gate d made).circuit)) d.circuit.gates made (omega arith) w.below below;
      }))

  output_front : (x p : List ℕ) → fields (record_at bs (record_place bs n)) ≡ shape_fields (output x p) → next g OutputKind ≡ Ok g' → Declared d (output x p) d' → NetlistFront bs (n + 1) (g', d')
  output_front x p e step (made, named, pin, is) =
      let i = next_output g g' step in
      let text : netlist_text (with_output d made).circuit ≡ netlist_text d.circuit ++ line (codes "out" ∷ x ∷ p ∷ []) =
      text_with_output d made
      ∙ (ap (λ y. netlist_text d.circuit ++ line (codes "out" ∷ y ∷ pin_word (stem_names d.circuit) made.pin ∷ [])) named ∙ ap (λ y. netlist_text d.circuit ++ line (codes "out" ∷ x ∷ y ∷ [])) (pin_found d p made.pin pin).1) in
      subst (λ y. NetlistFront bs (n + 1) (g', y)) (sym is) (subst (λ y. NetlistFront bs (n + 1) (y, with_output d made)) (sym i) (record {
        front = front_more bs n (netlist_text d.circuit) (codes "out" ∷ x ∷ p ∷ []) l e w.front ∙ sym text;
        group = no_rows g d w.group;
        below = w.below;
      }))

netlist_step : (bs : List ℕ) (n : ℕ) (s s' : Group × Parts) → At NetlistStep bs (record_place bs n) s (Ok s') → NetlistFront bs n s → NetlistFront bs (n + 1) s'
netlist_step bs n (g, d) (g', d') (ended r l (added (input x) h e spells step free declared)) w = input_front bs n g g' d d' w l x spells.parts step declared
netlist_step bs n (g, d) (g', d') (ended r l (added (gate x k ps) h e spells step free declared)) w = gate_front bs n g g' d d' w l x k ps spells.parts step declared
netlist_step bs n (g, d) (g', d') (ended r l (added (output x p) h e spells step free declared)) w = output_front bs n g g' d d' w l x p spells.parts step declared

empty_text : netlist_text no_parts.circuit ≡ []
unfolding lines
empty_text = refl

netlist_after : (bs : List ℕ) (n : ℕ) (s : Group × Parts) → After NetlistStep bs start n s → NetlistFront bs n s
netlist_after bs n s none = record { front = ap (λ x. take x bs) (place_none bs) ∙ sym (empty_text); group = (refl, refl, refl); below = tt }
netlist_after bs n s (more m t u before l at) = netlist_step bs m t s at (netlist_after bs m t before)

-- The same of the rows: the circuit stays, and what was read is their writing.
pub record RowsFront (bs : List ℕ) (n : ℕ) (d d' : Parts) : Type 0 where
  pub circuit : d'.circuit ≡ d.circuit
  pub front : Front bs n (rows_text d.circuit d'.rows)

row_step : (bs : List ℕ) (n : ℕ) (d s s' : Parts) → At RowStep bs (record_place bs n) s (Ok s') → RowsFront bs n d s → RowsFront bs (n + 1) d s'
row_step bs n d s s' (ended r l (row_added x p v e spells taken)) w =
    let row = taken.row in
    let t = taken.written in
    let names = output_names d.circuit in
    let named : get_or names row.output [] ≡ x = ap (λ c. get_or (output_names c) row.output []) (sym w.circuit) ∙ output_found s x row.output t.names in
    let text : rows_text d.circuit (s.rows ++ row ∷ []) ≡ rows_text d.circuit s.rows ++ line (row_fields x p v) =
    lines_more (row_line names) s.rows row
    ∙ (ap (λ y. rows_text d.circuit s.rows ++ line (codes "spec" ∷ y ∷ pattern_word (literals_of row) ∷ value_word row.value ∷ [])) named
    ∙ (ap (λ y. rows_text d.circuit s.rows ++ line (codes "spec" ∷ x ∷ y ∷ value_word row.value ∷ [])) (sym t.matches) ∙ ap (λ y. rows_text d.circuit s.rows ++ line (codes "spec" ∷ x ∷ p ∷ y ∷ [])) (sym t.holds))) in
    subst (RowsFront bs (n + 1) d) (sym taken.added) (record { circuit = w.circuit; front = front_more bs n (rows_text d.circuit s.rows) (row_fields x p v) l spells.parts w.front ∙ sym text })

rows_after : (bs : List ℕ) (d : Parts) (n : ℕ) (s : Parts) → d.rows ≡ [] → After RowStep bs d n s → RowsFront bs n d s
rows_after bs d n s e none = record { circuit = refl; front = ap (λ x. take x bs) (place_none bs) ∙ sym (ap (rows_text d.circuit) e ∙ lines_none (row_line (output_names d.circuit))) }
rows_after bs d n s e (more m t u before l at) = row_step bs m d t s at (rows_after bs d m t e before)

-- a text of which all records are taken
whole : (bs : List ℕ) (n : ℕ) (t : List ℕ) → record_place bs n ≡ length bs → Front bs n t → bs ≡ t
whole bs n t e f = sym (ap (λ x. take x bs) e ∙ take_all (length bs) bs (omega arith)) ∙ f

pub accepted_writes : (netlist specification : List ℕ) (d : Parts) → Accepted netlist specification d → Writes netlist specification d
accepted_writes netlist specification d a =
    let c = a.circuit in
    let r = a.netlist_read in
    let s = a.specification_read in
    let n = netlist_after netlist r.through.records (r.group, c) r.through.taken in
    let rows = rows_after specification c s.records d (no_rows r.group c n.group) s.taken in
    let same = rows.circuit in
    record {
      circuit = whole netlist r.through.records (netlist_text c.circuit) r.through.all n.front ∙ ap netlist_text (sym same);
      rows = whole specification s.records (rows_text c.circuit d.rows) s.all rows.front ∙ ap (λ x. rows_text x d.rows) (sym same);
    }
