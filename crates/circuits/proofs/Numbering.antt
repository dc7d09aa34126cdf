-- The numbers of lines and their places, each from the other.
use Rattle.std.proofs.Common.{◌≡◌, ℕ, zero, suc, ◌+◌, ◌-◌, ◌*◌, ◌<◌, ◌≤◌, Bool, true, false, ltb, List, [], ◌∷◌, length, get_or, take, drop, is_some, Some, None, Option, sym, refl, ap, ◌∙◌, ⊎_elim, zero-add, add-one, arith}
use Rattle.std.specs.Option.{option_map}
use Rattle.std.specs.List.{slice_get}
use Rattle.std.proofs.lemmas.List.{length-take, drop_more, drop_all}
use Rattle.std.proofs.lemmas.Option.{slice_get-get_or, slice_get_past}
use Rattle.std.proofs.lemmas.Bool.{ltb-true, lt-ltb, le-ltb, cases_lt, false≢true}
use Rattle.std.proofs.lemmas.Bool.Decides.{nat_tests}
use Rattle.circuits.specs.declared.gate.Gate.{Gate}
use Rattle.circuits.specs.declared.pin.Pin.{Pin}
use Rattle.circuits.specs.declared.place.Place.{Place}
use Rattle.circuits.specs.declared.place.Place.TheVariants.{Stem, Pin as GatePin}
use Rattle.circuits.specs.Circuits.{Net, pins_of, nothing, assignments, carried}
use Rattle.circuits.specs.Lines.{stem_count, pin_count, line_count, pin_at, line_of, pin_place, place_of, line_bit}
use Rattle.circuits.proofs.Fronts.{few}
use Rattle.circuits.proofs.Working.{stems_length}

pub some_same : {X : Type 0} (x y : X) → Some x ≡ Some y → x ≡ y
some_same x y e = cc

-- there is an element just below the length
pub nth_test : {X : Type 0} (xs : List X) (i : ℕ) → is_some (slice_get xs i) ≡ ltb i (length xs)
nth_test [] i = sym (le-ltb i 0 (omega arith))
nth_test (x ∷ xs) zero = sym (lt-ltb 0 (suc (length xs)) (omega arith))
nth_test (x ∷ xs) (suc i) = nth_test xs i ∙ grind (arith, nat_tests)

-- a place tells a line just below the number of lines
pub pin_place_test : (g : ℕ) (gs : List Gate) (l : ℕ) → is_some (pin_place g gs l) ≡ ltb l (pin_count gs)
unfolding pin_place pin_count
pin_place_test g [] l = sym (le-ltb l 0 (omega arith))
pin_place_test g (x ∷ xs) l =
    let n = length (pins_of x) in
    let rest = pin_place_test (suc g) xs (l - n) in
    ⊎_elim (λ h. rw (lt-ltb l n h) (sym (lt-ltb l (n + pin_count xs) (omega arith)))) (λ h. rw (le-ltb l n h) (rest ∙ grind (arith, nat_tests))) (cases_lt l n)

-- What is known of the place of the l-th pin of these gates, the first of which is gate g.
pub record Found (g : ℕ) (gs : List Gate) (l : ℕ) (p : Place) : Type 0 where
  pub gate : ℕ
  pub position : ℕ
  pub is : p ≡ GatePin (g + gate) position
  pub stands : is_some (pin_at gs gate position) ≡ true
  pub number : pin_count (take gate gs) + position ≡ l

pub found : (g : ℕ) (gs : List Gate) (l : ℕ) (p : Place) → pin_place g gs l ≡ Some p → Found g gs l p
unfolding pin_place pin_count
found g [] l p e = let z : ◌≡◌ {A = ℕ} 0 1 = cc in let y : ⊥ = omega arith in absurd y
found g (x ∷ xs) l p e =
    let n = length (pins_of x) in
    let later = found (suc g) xs (l - n) p in
    ⊎_elim
    (λ h.
    let f : Some (GatePin g l) ≡ Some p = rw (lt-ltb l n h) at e in
    record { gate = 0; position = l; is = sym (some_same (GatePin g l) p f) ∙ ap (λ k. GatePin k l) (omega arith); stands = nth_test (pins_of x) l ∙ lt-ltb l n h; number = omega arith })
    (λ h.
    let r = later (rw (le-ltb l n h) at e) in
    record {
      gate = suc r.gate;
      position = r.position;
      is = r.is ∙ ap (λ k. GatePin k r.position) (omega arith);
      stands = r.stands;
      number = omega (arith, r.number);
    })
    (cases_lt l n)

-- and back: the pin at a position of a gate has that place
pub pin_place_back :
    (g : ℕ) (gs : List Gate) (h i : ℕ) → is_some (pin_at gs h i) ≡ true → pin_place g gs (pin_count (take h gs) + i) ≡ Some (GatePin (g + h) i)
unfolding pin_place pin_count
pin_place_back g [] h i e = let z : ⊥ = false≢true e in absurd z
pin_place_back g (x ∷ xs) zero i e =
    let n = length (pins_of x) in
    let l : i < n = ltb-true i n (sym (nth_test (pins_of x) i) ∙ e) in
    rw (zero-add i, lt-ltb i n l) (ap (λ k. Some (GatePin k i)) (omega arith))
pin_place_back g (x ∷ xs) (suc h) i e =
    let n = length (pins_of x) in
    let m = pin_count (take h xs) in
    let later = pin_place_back (suc g) xs h i e in
    let down : n + m + i - n ≡ m + i = omega arith in
    rw (le-ltb (n + m + i) n (omega arith), down) (later ∙ ap (λ k. Some (GatePin k i)) (omega arith))

pub place_test : (c : Net) (l : ℕ) → is_some (place_of c l) ≡ ltb l (line_count c)
place_test c l =
    let s = stem_count c in
    ⊎_elim (λ h. rw (lt-ltb l s h) (sym (lt-ltb l (line_count c) (omega arith)))) (λ h. rw (le-ltb l s h) (pin_place_test 0 c.gates (l - s) ∙ grind (arith, nat_tests))) (cases_lt l s)

-- a pin that stands has its number
pub pin_number : (c : Net) (g i : ℕ) → is_some (pin_at c.gates g i) ≡ true → line_of c (GatePin g i) ≡ Some (stem_count c + (pin_count (take g c.gates) + i))
pin_number c g i h = some_mapped (pin_at c.gates g i) (stem_count c + (pin_count (take g c.gates) + i)) h
  where
    some_mapped : {X : Type 0} (o : Option X) (n : ℕ) → is_some o ≡ true → option_map (λ _. n) o ≡ Some n
    some_mapped None n e = let z : ⊥ = false≢true e in absurd z
    some_mapped (Some x) n e = refl

-- one that does not has none
pub no_pin_number : (c : Net) (g i : ℕ) → is_some (pin_at c.gates g i) ≡ false → line_of c (GatePin g i) ≡ None
no_pin_number c g i h = none_mapped (pin_at c.gates g i) (stem_count c + (pin_count (take g c.gates) + i)) h
  where
    none_mapped : {X : Type 0} (o : Option X) (n : ℕ) → is_some o ≡ false → option_map (λ _. n) o ≡ None
    none_mapped None n e = refl
    none_mapped (Some x) n e = let z : ⊥ = false≢true (sym e) in absurd z

-- the number of a line's place is the line
pub place_back : (c : Net) (l : ℕ) (p : Place) → place_of c l ≡ Some p → line_of c p ≡ Some l
place_back c l p e =
    let s = stem_count c in
    ⊎_elim
    (λ h. let f : Some (Stem l) ≡ Some p = rw (lt-ltb l s h) at e in rw (← some_same (Stem l) p f, lt-ltb l s h))
    (λ h.
    let f = found 0 c.gates (l - s) p (rw (le-ltb l s h) at e) in
    let at : p ≡ GatePin f.gate f.position = f.is ∙ ap (λ k. GatePin k f.position) (omega arith) in
    rw at (pin_number c f.gate f.position f.stands ∙ ap (λ n. Some n) (omega (arith, f.number))))
    (cases_lt l s)

-- and the place of a place's number is the place
pub line_back : (c : Net) (p : Place) (l : ℕ) → line_of c p ≡ Some l → place_of c l ≡ Some p
line_back c (Stem t) l e =
    let s = stem_count c in
    ⊎_elim
    (λ h. let f : Some t ≡ Some l = rw (lt-ltb t s h) at e in rw (← some_same t l f, lt-ltb t s h))
    (λ h. let f : None ≡ Some l = rw (le-ltb t s h) at e in let z : ◌≡◌ {A = ℕ} 0 1 = cc in let y : ⊥ = omega arith in absurd y)
    (cases_lt t s)
line_back c (GatePin g i) l e = go (is_some (pin_at c.gates g i)) refl
  where
    go : (b : Bool) → is_some (pin_at c.gates g i) ≡ b → place_of c l ≡ Some (GatePin g i)
    go false none = let f : None ≡ Some l = sym (no_pin_number c g i none) ∙ e in let z : ◌≡◌ {A = ℕ} 0 1 = cc in let y : ⊥ = omega arith in absurd y
    go true stands =
        let s = stem_count c in
        let m = pin_count (take g c.gates) + i in
        let f : s + m ≡ l = some_same (s + m) l (sym (pin_number c g i stands) ∙ e) in
        let d : l - s ≡ m = omega arith in
        let z : 0 + g ≡ g = omega arith in
        rw (le-ltb l s (omega arith), d) (pin_place_back 0 c.gates g i stands ∙ ap (λ k. Some (GatePin k i)) z)

-- The search for a line's place has passed k gates, and left is what remains of the number.
pub record Passed (c : Net) (l k left : ℕ) : Type 0 where
  pub past : stem_count c ≤ l
  pub same : pin_place k (drop k c.gates) left ≡ pin_place 0 c.gates (l - stem_count c)

pub passed_found :
    (c : Net) (l k left : ℕ) (g : Gate) → k < length c.gates → g ≡ get_or c.gates k g → Passed c l k left → left < length (pins_of g) → place_of c l ≡ Some (GatePin k left)
unfolding pin_place
passed_found c l k left g h is p small =
    let d : drop k c.gates ≡ g ∷ drop (k + 1) c.gates = drop_more c.gates k g h ∙ ap (λ x. x ∷ drop (k + 1) c.gates) (sym is) in
    let s : pin_place k (drop k c.gates) left ≡ Some (GatePin k left) =
    ap (λ gs. pin_place k gs left) d ∙ rw (lt-ltb left (length (pins_of g)) small)
    in
    rw (le-ltb l (stem_count c) p.past) (sym p.same ∙ s)

pub passed_more :
    (c : Net) (l k left : ℕ) (g : Gate) → k < length c.gates → g ≡ get_or c.gates k g → Passed c l k left → length (pins_of g) ≤ left → Passed c l (k + 1) (left - length (pins_of g))
unfolding pin_place
passed_more c l k left g h is p big =
    let d : drop k c.gates ≡ g ∷ drop (k + 1) c.gates = drop_more c.gates k g h ∙ ap (λ x. x ∷ drop (k + 1) c.gates) (sym is) in
    let s : pin_place k (drop k c.gates) left ≡ pin_place (suc k) (drop (k + 1) c.gates) (left - length (pins_of g)) =
    ap (λ gs. pin_place k gs left) d ∙ rw (le-ltb left (length (pins_of g)) big)
    in
    record { past = p.past; same = ap (λ j. pin_place j (drop (k + 1) c.gates) (left - length (pins_of g))) (add-one k) ∙ (sym s ∙ p.same) }

pub passed_all : (c : Net) (l k left : ℕ) → length c.gates ≤ k → Passed c l k left → place_of c l ≡ None
unfolding pin_place
passed_all c l k left h p =
    let s : pin_place k (drop k c.gates) left ≡ None = ap (λ gs. pin_place k gs left) (drop_all k c.gates h) in
    rw (le-ltb l (stem_count c) p.past) (sym p.same ∙ s)

pub pin_count_le : (gs : List Gate) → pin_count gs ≤ 4 * length gs
unfolding pin_count
pin_count_le [] = omega arith
pin_count_le (g ∷ gs) = omega (arith, few g.pins, pin_count_le gs)

-- of the first gates
pub first_pins_le : (gs : List Gate) (k : ℕ) → pin_count (take k gs) ≤ 4 * length gs
first_pins_le gs k = omega (arith, pin_count_le (take k gs), length-take k gs)

-- past the last gate there is no pin
pub pin_at_past : (gs : List Gate) (k i : ℕ) → length gs ≤ k → is_some (pin_at gs k i) ≡ false
pin_at_past gs k i h = rw (slice_get_past gs k h)

pub no_gate : (gs : List Gate) (k i : ℕ) → length gs ≤ k → pin_at gs k i ≡ None
no_gate gs k i h = rw (slice_get_past gs k h)

-- a gate has at most four pins
pub pin_small : (gs : List Gate) (k i : ℕ) (p : Pin) → pin_at gs k i ≡ Some p → i < 4
pin_small [] k i p e = let z : ◌≡◌ {A = ℕ} 0 1 = cc in absurd (omega arith)
pin_small (g ∷ gs) zero i p e =
    let n = length (pins_of g) in
    let small : i < n = ltb-true i n (sym (nth_test (pins_of g) i) ∙ ap is_some e) in
    omega (arith, few g.pins)
pin_small (g ∷ gs) (suc k) i p e = pin_small gs k i p e

-- a stem's place is one of the stems
pub stem_stands : (c : Net) (l s : ℕ) → place_of c l ≡ Some (Stem s) → s < stem_count c
stem_stands c l s e =
    ⊎_elim (λ h. h)
    (λ h. let f : None ≡ Some l = rw (le-ltb s (stem_count c) h) at (place_back c l (Stem s) e) in let z : ◌≡◌ {A = ℕ} 0 1 = cc in let y : ⊥ = omega arith in absurd y)
    (cases_lt s (stem_count c))

-- what the line of a stem carries
pub stem_line_bit :
    (c : Net) (l a s : ℕ) (stems : List Bool) → a < assignments c → place_of c l ≡ Some (Stem s) → stems ≡ carried c a → Some (get_or stems s false) ≡ line_bit c l a
stem_line_bit c l a s stems h at is =
    let b : s < length stems = let k = stem_stands c l s at in omega (arith, k, ap length is, stems_length nothing c a) in
    rw (lt-ltb a (assignments c) h, at, ← is) (sym (slice_get-get_or stems s false b))
