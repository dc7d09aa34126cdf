-- The recursions over lists, in the library's words.
use Rattle.std.proofs.Common.{◌≡◌, ℕ, zero, take, ◌≤◌, add-one, ◌<◌, get_or, Bool, suc, ◌+◌, ◌-◌, true, false, cond, not, ◌&&◌, ◌⊎◌, ltb, List, [], ◌∷◌, ◌++◌, map, length, Some, None, sym, refl, ap, ◌∙◌, inl, inr, arith}
use Rattle.std.specs.Prelude.{find, zip, position as first_place}
use Rattle.std.specs.List.{sum_by, range_with_len, enumerate_from, list_all, position_or_len}
use Rattle.std.specs.Str.{bytes_eq}
use Rattle.std.proofs.lemmas.Bool.{lt-ltb}
use Rattle.std.proofs.lemmas.Bool.Decides.{nat_tests}
use Rattle.std.proofs.lemmas.List.{take_all, map-append}
use Rattle.std.proofs.lemmas.List.FromFn.{length-range_with_len, get_or-range_with_len, length-enumerate_from, get_or-enumerate_from}
use Rattle.std.proofs.lemmas.List.Folds.{list_all_more}
use Rattle.std.proofs.lemmas.List.Recursion.{is_sum_by}
use Rattle.circuits.specs.Lines.{pin_count}
use Rattle.circuits.specs.Circuits.{pins_of}
use Rattle.circuits.specs.Specification.{each_below}
use Rattle.std.proofs.lemmas.Simd.{map-map}
use Rattle.std.specs.Option.{option_map}
use Rattle.circuits.specs.declared.literal.Literal.{Literal}
use Rattle.circuits.specs.declared.row.SpecRow.{SpecRow}
use Rattle.circuits.specs.declared.gate.Gate.{Gate}
use Rattle.circuits.specs.Circuits.{Net, name_bytes, bit}
use Rattle.circuits.specs.Legality.{position, stem_names}
use Rattle.circuits.specs.Specification.{covers, matches, overlap, meet, binds, bound}

pub meet_all : (ls ms : List Literal) → meet ls ms ≡ list_all (λ (p : Literal × Literal). overlap p.0 p.1) (zip ls ms)
unfolding meet
meet_all [] [] = refl
meet_all [] (m ∷ ms) = refl
meet_all (l ∷ ls) [] = refl
meet_all (l ∷ ls) (m ∷ ms) = ap (λ b. overlap l m && b) (meet_all ls ms)

first_done : (ls ms : List Literal) → length ls ≡ 0 → meet ls ms ≡ true
unfolding meet
first_done [] [] e = refl
first_done [] (m ∷ ms) e = refl
first_done (l ∷ ls) ms e = let z : ⊥ = omega arith in absurd z

second_done : (ls ms : List Literal) → length ms ≡ 0 → meet ls ms ≡ true
unfolding meet
second_done [] [] e = refl
second_done (l ∷ ls) [] e = refl
second_done ls (m ∷ ms) e = let z : ⊥ = omega arith in absurd z

-- Nothing is left to compare once either pattern has no literal left.
pub meet_done :
    {X Y : Type 0} (ls ms : List Literal) (P : X → Type 0) (Q : Y → Type 0) → ((x : X) × ((length ls ≡ 0) × P x)) ⊎ ((y : Y) × ((length ms ≡ 0) × Q y)) → meet ls ms ≡ true
meet_done ls ms P Q (inl w) = first_done ls ms w.1.0
meet_done ls ms P Q (inr w) = second_done ls ms w.1.0

pub bound_find : (rs : List SpecRow) (k a : ℕ) → bound rs k a ≡ option_map (λ (r : SpecRow). r.value) (find (λ r. binds r k a) rs)
unfolding bound
bound_find [] k a = refl
bound_find (r ∷ rs) k a =
    let later = bound_find rs k a in
    elim (binds r k a) as (λ t. cond t (Some r.value) (bound rs k a) ≡ option_map (λ (r : SpecRow). r.value) (cond t (Some r) (find (λ r. binds r k a) rs))) [ true ↦ refl | false ↦ later ]

both_more : (m n : ℕ) → ltb (1 + m) (suc n) ≡ ltb m n
both_more m n = grind (arith, nat_tests)

-- the place of a name, after i others
position_from : {X : Type 0} (f : X → List ℕ) (w : List ℕ) (i : ℕ) (xs : List X) →
    position i w (map f xs) ≡ cond (ltb (position_or_len (λ x. bytes_eq w (f x)) xs) (length xs)) (Some (i + position_or_len (λ x. bytes_eq w (f x)) xs)) None
unfolding position
position_from f w i [] = refl
position_from f w i (x ∷ xs) =
    let m = position_or_len (λ x. bytes_eq w (f x)) xs in
    let later = position_from f w (suc i) xs in
    elim (bytes_eq w (f x)) as (λ b. cond b (Some i) (position (suc i) w (map f xs)) ≡ cond (ltb (cond (not b) (1 + m) 0) (suc (length xs))) (Some (i + cond (not b) (1 + m) 0)) None) [
      | true ↦ rw (lt-ltb 0 (suc (length xs)) (omega arith)) (ap (λ n. Some n) (omega arith))
      | false ↦ rw (both_more m (length xs)) (later ∙ ap (λ n. cond (ltb m (length xs)) (Some n) None) (omega arith))
    ]

pub position_named : {X : Type 0} (f : X → List ℕ) (w : List ℕ) (xs : List X) → position 0 w (map f xs) ≡ first_place (λ x. bytes_eq w (f x)) xs
position_named f w xs = position_from f w 0 xs ∙ ap (λ n. cond (ltb (position_or_len (λ x. bytes_eq w (f x)) xs) (length xs)) (Some n) None) (omega arith)

-- the names of the stems, as one list of names
pub stem_names_joined : (c : Net) → stem_names c ≡ map name_bytes (c.inputs ++ map (λ (g : Gate). g.name) c.gates)
stem_names_joined c =
    sym (map-append name_bytes c.inputs (map (λ (g : Gate). g.name) c.gates) ∙ ap (λ l. map name_bytes c.inputs ++ l) (map-map name_bytes (λ (g : Gate). g.name) c.gates))

-- the literals, each with its number, which is counted from k
covers_from : (ls : List Literal) (a k n : ℕ) → n ≡ k + length ls → covers ls a ≡ list_all (λ (p : ℕ × Literal). matches p.1 (bit a (n - 1 - p.0))) (enumerate_from k ls)
unfolding covers
covers_from [] a k n e = refl
covers_from (l ∷ ls) a k n e =
    let at : n - 1 - k ≡ length ls = omega arith in
    rw (at, covers_from ls a (k + 1) n (omega arith)) refl

-- the literals, each with its bit
pub covers_all : (ls : List Literal) (a : ℕ) → covers ls a ≡ list_all (λ (p : ℕ × Literal). matches p.1 (bit a (length ls - 1 - p.0))) (enumerate_from 0 ls)
covers_all ls a = covers_from ls a 0 (length ls) (omega arith)

-- a literal's number is below how many there are
pub number_below : {X : Type 0} (xs : List X) (k : ℕ) (p : ℕ × X) → k < length (enumerate_from 0 xs) → p ≡ get_or (enumerate_from 0 xs) k p → p.0 < length xs
number_below {X = X} xs k p h e =
    let at = e ∙ get_or-enumerate_from 0 xs k p (omega (arith, length-enumerate_from 0 xs)) in
    omega (arith, length-enumerate_from 0 xs, ap (λ (q : ℕ × X). q.0) at)

pub pin_count_sum : (gs : List Gate) → pin_count gs ≡ sum_by (λ g. length (pins_of g)) gs
unfolding pin_count
pin_count_sum gs = is_sum_by pin_count (λ g. length (pins_of g)) refl (λ _ _. refl) gs

-- a test of the first of the numbers below n, and of each
each_of_first : (n : ℕ) (t : ℕ → Bool) (i : ℕ) → i ≤ n → each_below i t ≡ list_all t (take i (range_with_len 0 n))
unfolding each_below
each_of_first n t zero h = refl
each_of_first n t (suc i) h =
    let at : get_or (range_with_len 0 n) i 0 ≡ i = get_or-range_with_len 0 n i 0 (omega arith) ∙ omega arith in
    let more = list_all_more t (range_with_len 0 n) i 0 (omega (arith, length-range_with_len 0 n)) in
    rw (← add-one i, more, at) (ap (λ b. b && t i) (each_of_first n t i (omega arith)))

pub each_below_all : (n : ℕ) (t : ℕ → Bool) → each_below n t ≡ list_all t (range_with_len 0 n)
each_below_all n t = each_of_first n t n (omega arith) ∙ ap (list_all t) (take_all n (range_with_len 0 n) (omega (arith, length-range_with_len 0 n)))
