-- An accepted text is the writing of what was read.
use Rattle.std.proofs.Common.{◌≡◌, ℕ, suc, ◌+◌, ◌<◌, ◌≤◌, List, [], ◌∷◌, ◌++◌, map, length, get_or, Some, None, codes, Option, sym, refl, ap, ◌∙◌, subst, inl, inr, append_assoc, append-nil, arith}
use Rattle.std.proofs.lemmas.Slice.Eq.{bytes_eq-Decides}
use Rattle.std.proofs.lemmas.List.{get_or_append_left, map_push}
use Rattle.std.proofs.lemmas.Bool.{cases_Bool}
use Rattle.std.specs.Str.{bytes_eq}
use Rattle.std.specs.Option.{option_map}
use Rattle.circuits.specs.declared.gate.Gate.{Gate}
use Rattle.circuits.specs.declared.gate.Output.{Output}
use Rattle.circuits.specs.declared.name.Name.{Name}
use Rattle.circuits.specs.declared.pin.Pin.{Pin}
use Rattle.circuits.specs.Circuits.{name_bytes, pins_of}
use Rattle.circuits.specs.Drafts.{Parts, with_input, with_gate, with_output}
use Rattle.circuits.specs.Legality.{position, stem_names, output_names}
use Rattle.circuits.specs.Lines.{then}
use Rattle.texts.specs.Adding.{stem_named, output_named, pin_named, pins_named}
use Rattle.texts.specs.Fields.{marked_word, has_mark, past_mark, kind_word}
use Rattle.texts.specs.Writing.{line, lines, pin_word, input_line, gate_line, output_line, netlist_text}
use Rattle.texts.proofs.Lines.{lines_more, lines_none, mark_then_name}

some_is : {X : Type 0} (x y : X) → ◌≡◌ {A = Option X} (Some x) (Some y) → x ≡ y
some_is x y e = cc

some_not : {X : Type 0} (x : X) → ◌≡◌ {A = Option X} None (Some x) → ⊥
some_not x e = let z : ◌≡◌ {A = ℕ} 0 1 = cc in omega arith

-- The word at the place that a search finds is the one that was sought.
position_found : (i k : ℕ) (w : List ℕ) (xs : List (List ℕ)) → position i w xs ≡ Some k → (j : ℕ) × (k ≡ i + j) × (j < length xs) × (get_or xs j [] ≡ w)
unfolding position
position_found i k w [] e = absurd (some_not k e)
position_found i k w (x ∷ xs) e =
    elim (cases_Bool (bytes_eq w x)) [
      | inl t ↦ let e' : Some i ≡ Some k = rw t at e in (0, omega (arith, some_is i k e'), omega arith, sym ((bytes_eq-Decides w x).0 t))
      | inr n ↦ let e' : position (suc i) w xs ≡ Some k = rw n at e in
          let (j, a, b, c) = position_found (suc i) k w xs e' in
          (suc j, omega arith, omega arith, c)
    ]

pub stem_found : (d : Parts) (w : List ℕ) (k : ℕ) → stem_named d w ≡ Some k → (k < length (stem_names d.circuit)) × (get_or (stem_names d.circuit) k [] ≡ w)
stem_found d w k e =
    let (j, a, b, c) = position_found 0 k w (stem_names d.circuit) e in
    let i : k ≡ j = omega arith in
    (omega arith, ap (λ x. get_or (stem_names d.circuit) x []) i ∙ c)

-- A pin that was named is written as its field.
pub pin_found : (d : Parts) (f : List ℕ) (p : Pin) → pin_named d f ≡ Some p → (p.stem < length (stem_names d.circuit)) × (pin_word (stem_names d.circuit) p ≡ f)
pin_found d f p e = go (stem_named d (past_mark f)) refl e
  where
    go : (o : Option ℕ) → stem_named d (past_mark f) ≡ o → option_map (λ k. record { stem = k; mark = has_mark f }) o ≡ Some p → (p.stem < length (stem_names d.circuit)) × (pin_word (stem_names d.circuit) p ≡ f)
    go None i e = absurd (some_not p e)
    go (Some k) i e =
        let (l, w) = stem_found d (past_mark f) k i in
        let q : record { stem = k; mark = has_mark f } ≡ p = some_is _ p e in
        subst (λ x. (x.stem < length (stem_names d.circuit)) × (pin_word (stem_names d.circuit) x ≡ f)) q (l, ap (marked_word (has_mark f)) w ∙ mark_then_name f)

-- each pin reads one of so many stems
abbrev pub ReadBelow : ℕ → List Pin → Type 0
ReadBelow s [] = Unit {0}
ReadBelow s (p ∷ ps) = (p.stem < s) × ReadBelow s ps

pub pins_found : (d : Parts) (fs : List (List ℕ)) (ps : List Pin) → pins_named d fs ≡ Some ps → ReadBelow (length (stem_names d.circuit)) ps × (map (pin_word (stem_names d.circuit)) ps ≡ fs)
unfolding pins_named
pins_found d [] ps e = subst (λ x. ReadBelow (length (stem_names d.circuit)) x × (map (pin_word (stem_names d.circuit)) x ≡ [])) (some_is [] ps e) (tt, refl)
pins_found d (f ∷ fs) ps e = go (pin_named d f) refl (pins_named d fs) refl (λ qs. pins_found d fs qs) e
  where
    go : (o : Option Pin) → pin_named d f ≡ o → (q : Option (List Pin)) → pins_named d fs ≡ q → ((qs : List Pin) → pins_named d fs ≡ Some qs → ReadBelow (length (stem_names d.circuit)) qs × (map (pin_word (stem_names d.circuit)) qs ≡ fs)) → then o (λ p. option_map (λ qs. p ∷ qs) q) ≡ Some ps → ReadBelow (length (stem_names d.circuit)) ps × (map (pin_word (stem_names d.circuit)) ps ≡ f ∷ fs)
    go None i q j rest e = absurd (some_not ps e)
    go (Some p) i None j rest e = absurd (some_not ps e)
    go (Some p) i (Some qs) j rest e =
        let (l, w) = pin_found d f p i in
        let (ls, ws) = rest qs j in
        subst (λ x. ReadBelow (length (stem_names d.circuit)) x × (map (pin_word (stem_names d.circuit)) x ≡ f ∷ fs)) (some_is (p ∷ qs) ps e) ((l, ls), ap (λ x. x ∷ map (pin_word (stem_names d.circuit)) qs) w ∙ ap (λ x. f ∷ x) ws)

-- More stems behind the others change no pin's writing.
pin_word_more : (names more : List (List ℕ)) (p : Pin) → p.stem < length names → pin_word (names ++ more) p ≡ pin_word names p
pin_word_more names more p l = ap (marked_word p.mark) (get_or_append_left names more [] p.stem l)

pins_more : (names more : List (List ℕ)) (ps : List Pin) → ReadBelow (length names) ps → map (pin_word (names ++ more)) ps ≡ map (pin_word names) ps
pins_more names more [] r = refl
pins_more names more (p ∷ ps) r = ap (λ x. x ∷ map (pin_word (names ++ more)) ps) (pin_word_more names more p r.0) ∙ ap (λ x. pin_word names p ∷ x) (pins_more names more ps r.1)

abbrev pub GatesBelow : ℕ → List Gate → Type 0
GatesBelow s [] = Unit {0}
GatesBelow s (g ∷ gs) = ReadBelow s (pins_of g) × GatesBelow s gs

gate_line_more : (names more : List (List ℕ)) (g : Gate) → ReadBelow (length names) (pins_of g) → gate_line (names ++ more) g ≡ gate_line names g
gate_line_more names more g r = ap (λ x. line (codes "gate" ∷ name_bytes g.name ∷ kind_word g.kind ∷ x)) (pins_more names more (pins_of g) r)

gate_lines_more : (names more : List (List ℕ)) (gs : List Gate) → GatesBelow (length names) gs → lines (gate_line (names ++ more)) gs ≡ lines (gate_line names) gs
unfolding lines
gate_lines_more names more [] r = refl
gate_lines_more names more (g ∷ gs) r =
    ap (λ x. x ++ lines (gate_line (names ++ more)) gs) (gate_line_more names more g r.0) ∙ ap (λ x. gate_line names g ++ x) (gate_lines_more names more gs r.1)

below_more : (s t : ℕ) (ps : List Pin) → s ≤ t → ReadBelow s ps → ReadBelow t ps
below_more s t [] l r = tt
below_more s t (p ∷ ps) l r = (let a = r.0 in omega arith, below_more s t ps l r.1)

pub gates_below_more : (s t : ℕ) (gs : List Gate) (g : Gate) → s ≤ t → GatesBelow s gs → ReadBelow s (pins_of g) → GatesBelow t (gs ++ g ∷ [])
gates_below_more s t [] g l r q = (below_more s t (pins_of g) l q, tt)
gates_below_more s t (x ∷ gs) g l r q = (below_more s t (pins_of x) l r.0, gates_below_more s t gs g l r.1 q)

pub stems_with_gate : (d : Parts) (g : Gate) → stem_names (with_gate d g).circuit ≡ stem_names d.circuit ++ name_bytes g.name ∷ []
stems_with_gate d g =
    ap (λ x. map name_bytes d.circuit.inputs ++ x) (map_push (λ (h : Gate). name_bytes h.name) d.circuit.gates g) ∙ sym (append_assoc (map name_bytes d.circuit.inputs) _ (name_bytes g.name ∷ []))

-- the texts of circuits with one part more
pub text_with_input : (d : Parts) (x : Name) → d.circuit.gates ≡ [] → d.circuit.outputs ≡ [] → netlist_text (with_input d x).circuit ≡ netlist_text d.circuit ++ input_line x
text_with_input d x g o =
    let c = d.circuit in
    let bare : (is : List Name) (ns : List (List ℕ)) → lines input_line is ++ (lines (gate_line ns) c.gates ++ lines (output_line ns) c.outputs) ≡ lines input_line is =
    λ is ns. ap (λ y. lines input_line is ++ (lines (gate_line ns) y ++ lines (output_line ns) c.outputs)) g
    ∙ (ap (λ y. lines input_line is ++ (lines (gate_line ns) [] ++ lines (output_line ns) y)) o
    ∙ (ap (λ y. lines input_line is ++ (y ++ lines (output_line ns) [])) (lines_none (gate_line ns)) ∙ (ap (λ y. lines input_line is ++ y) (lines_none (output_line ns)) ∙ append-nil (lines input_line is)))) in
    bare (c.inputs ++ x ∷ []) (stem_names (with_input d x).circuit) ∙ (lines_more input_line c.inputs x ∙ ap (λ y. y ++ input_line x) (sym (bare c.inputs (stem_names c))))

pub text_with_gate : (d : Parts) (g : Gate) → d.circuit.outputs ≡ [] → GatesBelow (length (stem_names d.circuit)) d.circuit.gates → ReadBelow (length (stem_names d.circuit)) (pins_of g) → netlist_text (with_gate d g).circuit ≡ netlist_text d.circuit ++ gate_line (stem_names d.circuit) g
text_with_gate d g o below reads =
    let c = d.circuit in
    let names = stem_names c in
    let A = lines input_line c.inputs in
    let more : stem_names (with_gate d g).circuit ≡ names ++ name_bytes g.name ∷ [] = stems_with_gate d g in
    let none : (ns : List (List ℕ)) → lines (output_line ns) c.outputs ≡ [] = λ ns. ap (lines (output_line ns)) o ∙ lines_none (output_line ns) in
    let G : lines (gate_line (stem_names (with_gate d g).circuit)) (c.gates ++ g ∷ []) ≡ lines (gate_line names) c.gates ++ gate_line names g =
    ap (λ ns. lines (gate_line ns) (c.gates ++ g ∷ [])) more
    ∙ (lines_more (gate_line (names ++ name_bytes g.name ∷ [])) c.gates g
    ∙ (ap (λ y. y ++ gate_line (names ++ name_bytes g.name ∷ []) g) (gate_lines_more names (name_bytes g.name ∷ []) c.gates below) ∙ ap (λ y. lines (gate_line names) c.gates ++ y) (gate_line_more names (name_bytes g.name ∷ []) g reads))) in
    ap (λ y. A ++ (lines (gate_line (stem_names (with_gate d g).circuit)) (c.gates ++ g ∷ []) ++ y)) (none _)
    ∙ (ap (λ y. A ++ y) (append-nil _ ∙ G)
    ∙ (sym (append_assoc A (lines (gate_line names) c.gates) (gate_line names g))
    ∙ ap (λ y. y ++ gate_line names g) (ap (λ y. A ++ y) (sym (append-nil _) ∙ ap (λ y. lines (gate_line names) c.gates ++ y) (sym (none names))))))

pub text_with_output : (d : Parts) (x : Output) → netlist_text (with_output d x).circuit ≡ netlist_text d.circuit ++ output_line (stem_names d.circuit) x
text_with_output d x =
    let c = d.circuit in
    let names = stem_names c in
    let A = lines input_line c.inputs in
    let B = lines (gate_line names) c.gates in
    let C = lines (output_line names) c.outputs in
    ap (λ y. A ++ (B ++ y)) (lines_more (output_line names) c.outputs x)
    ∙ (ap (λ y. A ++ y) (sym (append_assoc B C (output_line names x))) ∙ sym (append_assoc A (B ++ C) (output_line names x)))

-- An output that was named is written by that name.
pub output_found : (d : Parts) (w : List ℕ) (k : ℕ) → output_named d w ≡ Some k → get_or (output_names d.circuit) k [] ≡ w
output_found d w k e =
    let (j, a, b, c) = position_found 0 k w (output_names d.circuit) e in
    let i : k ≡ j = omega arith in
    ap (λ x. get_or (output_names d.circuit) x []) i ∙ c
