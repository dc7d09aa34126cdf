-- Rows that do not contradict each other: every row that covers an assignment has the bound value.
use Rattle.std.proofs.Common.{◌≡◌, ℕ, zero, suc, ◌<◌, Bool, true, false, cond, not, ◌&&◌, eqb, ltb, ◌↔◌, List, [], ◌∷◌, ◌++◌, length, Some, None, Option, sym, refl, ap, ◌∙◌, ⊎_elim, arith}
use Rattle.std.specs.Option.{option_map}
use Rattle.std.specs.List.{slice_get}
use Rattle.std.proofs.lemmas.Bool.{and_parts, and_from, eqb-true, eq-eqb, not-true, cases_Bool, false≢true}
use Rattle.circuits.specs.declared.gate.Output.{Output}
use Rattle.circuits.specs.declared.literal.Literal.{Literal}
use Rattle.circuits.specs.declared.literal.Literal.TheVariants.{Zero, One, Dash}
use Rattle.circuits.specs.declared.row.SpecRow.{SpecRow}
use Rattle.circuits.specs.Kinds.{differ}
use Rattle.circuits.specs.Circuits.{Net, bit, assignments, carried}
use Rattle.circuits.specs.Legality.{agrees, consistent_from, rows_legal}
use Rattle.circuits.specs.Specification.{literals_of, matches, covers, binds, bound, obeys, output_bit, meets, overlap, meet, contradicts, Obeyed}
use Rattle.circuits.proofs.Binding.{each_below_at, each_below_from}
use Rattle.circuits.proofs.Numbering.{some_same}
use Rattle.circuits.proofs.Rules.{Rules}

-- two literals that match one bit
both_match : (l m : Literal) (b : Bool) → matches l b ≡ true → matches m b ≡ true → overlap l m ≡ true
both_match Zero m true h k = let z : ⊥ = false≢true h in absurd z
both_match Zero m false h k = k
both_match One m true h k = k
both_match One m false h k = let z : ⊥ = false≢true h in absurd z
both_match Dash m true h k = refl
both_match Dash m false h k = refl

-- two patterns that cover one assignment
both_cover : (ls ms : List Literal) (a : ℕ) → length ls ≡ length ms → covers ls a ≡ true → covers ms a ≡ true → meet ls ms ≡ true
unfolding covers meet
both_cover [] [] a e h k = refl
both_cover [] (m ∷ ms) a e h k = refl
both_cover (l ∷ ls) [] a e h k = refl
both_cover (l ∷ ls) (m ∷ ms) a e h k =
    let n : length ls ≡ length ms = omega arith in
    let p = and_parts (matches l (bit a (length ls))) (covers ls a) h in
    let q = and_parts (matches m (bit a (length ms))) (covers ms a) k in
    and_from (overlap l m) (meet ls ms) (both_match l m (bit a (length ls)) p.0 (rw n q.0)) (both_cover ls ms a n p.1 q.1)

same_bits : (x y : Bool) → differ x y ≡ false → x ≡ y
same_bits true true h = refl
same_bits true false h = let z : ⊥ = false≢true (sym h) in absurd z
same_bits false true h = let z : ⊥ = false≢true (sym h) in absurd z
same_bits false false h = refl

-- two rows that do not contradict each other have one value where both bind
same_value :
    (r s : SpecRow) (k a : ℕ) → length (literals_of r) ≡ length (literals_of s) → contradicts r s ≡ false → binds r k a ≡ true → binds s k a ≡ true → r.value ≡ s.value
same_value r s k a e clear h h' =
    let p = and_parts (eqb r.output k) (covers (literals_of r) a) h in
    let q = and_parts (eqb s.output k) (covers (literals_of s) a) h' in
    let one : eqb r.output s.output ≡ true =
    eq-eqb r.output s.output (eqb-true r.output k p.0 ∙ sym (eqb-true s.output k q.0))
    in
    let common : meet (literals_of r) (literals_of s) ≡ true = both_cover (literals_of r) (literals_of s) a e p.1 q.1 in
    same_bits r.value s.value (values (eqb r.output s.output) (differ r.value s.value) (meet (literals_of r) (literals_of s)) one common clear)
  where
    values : (x y z : Bool) → x ≡ true → z ≡ true → ((x && y) && z) ≡ false → y ≡ false
    values x true z e f g = let w : ⊥ = false≢true (sym g ∙ and_from (x && true) z (and_from x true e refl) f) in absurd w
    values x false z e f g = refl

-- a later row agrees with those seen before
agrees_front : (xs ys : List SpecRow) (r : SpecRow) → agrees (xs ++ ys) r ≡ true → (agrees xs r ≡ true) × (agrees ys r ≡ true)
unfolding agrees
agrees_front [] ys r h = (refl, h)
agrees_front (x ∷ xs) ys r h =
    let p = and_parts (not (contradicts x r)) (agrees (xs ++ ys) r) h in
    let q = agrees_front xs ys r p.1 in
    (and_from (not (contradicts x r)) (agrees xs r) p.0 q.0, q.1)

agrees_seen : (seen rows : List SpecRow) (i : ℕ) (r : SpecRow) → consistent_from seen rows ≡ true → slice_get rows i ≡ Some r → agrees seen r ≡ true
unfolding consistent_from
agrees_seen seen [] i r h e = let z : ◌≡◌ {A = ℕ} 0 1 = cc in let y : ⊥ = omega arith in absurd y
agrees_seen seen (x ∷ xs) zero r h e =
    let f : x ≡ r = cc in rw (← f) (and_parts (agrees seen x) (consistent_from (seen ++ x ∷ []) xs) h).0
agrees_seen seen (x ∷ xs) (suc i) r h e =
    (agrees_front seen (x ∷ []) r (agrees_seen (seen ++ x ∷ []) xs i r (and_parts (agrees seen x) (consistent_from (seen ++ x ∷ []) xs) h).1 e)).0

clear_of : (seen : List SpecRow) (x : SpecRow) (xs : List SpecRow) (i : ℕ) (r : SpecRow) → consistent_from seen (x ∷ xs) ≡ true → slice_get xs i ≡ Some r → contradicts x r ≡ false
unfolding consistent_from agrees
clear_of seen x xs i r h e =
    let later = agrees_seen (seen ++ x ∷ []) xs i r (and_parts (agrees seen x) (consistent_from (seen ++ x ∷ []) xs) h).1 e in
    not-true (contradicts x r) (and_parts (not (contradicts x r)) true (agrees_front seen (x ∷ []) r later).1).0

-- the number of literals of a row
row_length : (m n : ℕ) (rows : List SpecRow) (i : ℕ) (r : SpecRow) → rows_legal m n rows ≡ true → slice_get rows i ≡ Some r → length (literals_of r) ≡ n
unfolding rows_legal
row_length m n [] i r h e = let z : ◌≡◌ {A = ℕ} 0 1 = cc in let y : ⊥ = omega arith in absurd y
row_length m n (x ∷ xs) zero r h e =
    let f : x ≡ r = cc in
    let p = and_parts (ltb x.output m && eqb (length (literals_of x)) n) (rows_legal m n xs) h in
    let q = and_parts (ltb x.output m) (eqb (length (literals_of x)) n) p.0 in
    rw (← f) (eqb-true (length (literals_of x)) n q.1)
row_length m n (x ∷ xs) (suc i) r h e = row_length m n xs i r (and_parts (ltb x.output m && eqb (length (literals_of x)) n) (rows_legal m n xs) h).1 e

-- every row that covers an assignment has the bound value
pub bound_by_any :
    (m n : ℕ) (seen rows : List SpecRow) (k a i : ℕ) (r : SpecRow) → rows_legal m n rows ≡ true → consistent_from seen rows ≡ true → slice_get rows i ≡ Some r → binds r k a ≡ true →
    bound rows k a ≡ Some r.value
unfolding bound rows_legal consistent_from
bound_by_any m n seen [] k a i r legal h e b = let z : ◌≡◌ {A = ℕ} 0 1 = cc in let y : ⊥ = omega arith in absurd y
bound_by_any m n seen (x ∷ xs) k a zero r legal h e b =
    let f : x ≡ r = cc in rw f (ap (λ t. cond t (Some r.value) (bound xs k a)) b)
bound_by_any m n seen (x ∷ xs) k a (suc i) r legal h e b =
    let clear = clear_of seen x xs i r h e in
    let long : length (literals_of x) ≡ length (literals_of r) = row_length m n (x ∷ xs) 0 x legal refl ∙ sym (row_length m n (x ∷ xs) (suc i) r legal e) in
    let later =
    bound_by_any m n (seen ++ x ∷ []) xs k a i r (and_parts (ltb x.output m && eqb (length (literals_of x)) n) (rows_legal m n xs) legal).1
    (and_parts (agrees seen x) (consistent_from (seen ++ x ∷ []) xs) h).1 e b
    in
    ⊎_elim (λ t. ap (λ y. cond y (Some x.value) (bound xs k a)) t ∙ ap (λ y. Some y) (same_value x r k a long clear t b)) (λ t. ap (λ y. cond y (Some x.value) (bound xs k a)) t ∙ later)
    (cases_Bool (binds x k a))

-- and a bound value is that of such a row
pub bound_by_some : (rows : List SpecRow) (k a : ℕ) (v : Bool) → bound rows k a ≡ Some v → (i : ℕ) × ((r : SpecRow) × (slice_get rows i ≡ Some r) × (binds r k a ≡ true) × (r.value ≡ v))
unfolding bound
bound_by_some [] k a v e = let z : ◌≡◌ {A = ℕ} 0 1 = cc in let y : ⊥ = omega arith in absurd y
bound_by_some (x ∷ xs) k a v e =
    let later = bound_by_some xs k a v in
    ⊎_elim
    (λ t. let f : Some x.value ≡ Some v = sym (ap (λ y. cond y (Some x.value) (bound xs k a)) t) ∙ e in let g : x.value ≡ v = cc in (0, (x, refl, t, g)))
    (λ t.
    let p = later (sym (ap (λ y. cond y (Some x.value) (bound xs k a)) t) ∙ e) in (suc p.0, (p.1.0, p.1.1, p.1.2, p.1.3)))
    (cases_Bool (binds x k a))

-- an output meets its rows just where it has the value of each row that covers
pub obeyed_from_meets :
    (c : Net) (rows : List SpecRow) (k : ℕ) (x : Output) → rows_legal (length c.outputs) (length c.inputs) rows ≡ true → consistent_from [] rows ≡ true → meets c rows k x ≡ true →
    Obeyed c rows k x
obeyed_from_meets c rows k x legal agree met a h i r e b =
    let v = bound_by_any (length c.outputs) (length c.inputs) [] rows k a i r legal agree e b in
    let o = each_below_at (assignments c) a (λ j. obeys (bound rows k j) (output_bit (carried c j) x)) met h in
    sym (same_bits r.value (output_bit (carried c a) x) (not-true (differ r.value (output_bit (carried c a) x)) (rw v at o)))

pub meets_from_obeyed : (c : Net) (rows : List SpecRow) (k : ℕ) (x : Output) → Obeyed c rows k x → meets c rows k x ≡ true
meets_from_obeyed c rows k x all = each_below_from (assignments c) (λ a. obeys (bound rows k a) (output_bit (carried c a) x)) (λ a h. obeyed_at (bound rows k a) (output_bit (carried c a) x) (at a h))
  where
    at : (a : ℕ) → a < assignments c → (v : Bool) → bound rows k a ≡ Some v → output_bit (carried c a) x ≡ v
    at a h v e = let p = bound_by_some rows k a v e in all a h p.0 p.1.0 p.1.1 p.1.2 ∙ p.1.3

    same : (y : Bool) → not (differ y y) ≡ true
    same true = refl
    same false = refl

    obeyed_at : (o : Option Bool) (y : Bool) → ((v : Bool) → o ≡ Some v → y ≡ v) → obeys o y ≡ true
    obeyed_at None y f = refl
    obeyed_at (Some v) y f = rw (f v refl) (same v)

-- what an answer on an output says of its rows
pub meets_rows :
    (c : Net) (rows : List SpecRow) (k : ℕ) (o : Option Bool) → Rules c rows → o ≡ option_map (meets c rows k) (slice_get c.outputs k) → (x : Output) → slice_get c.outputs k ≡ Some x →
    (o ≡ Some true) ↔ Obeyed c rows k x
meets_rows c rows k o rules e x is =
    let f : o ≡ Some (meets c rows k x) = e ∙ ap (option_map (meets c rows k)) is in
    (λ t. let g : meets c rows k x ≡ true = some_same (meets c rows k x) true (sym f ∙ t) in obeyed_from_meets c rows k x rules.rows_good rules.rows_agree g, λ all. f ∙ ap (λ b. Some b) (meets_from_obeyed c rows k x all))
