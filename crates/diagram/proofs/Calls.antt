-- What the calls of a diagram store answer and leave.
use Rattle.std.proofs.Common.{◌≡◌, ℕ, zero, suc, ◌+◌, ◌-◌, ◌*◌, ◌%◌, ◌^◌, ◌<◌, ◌≤◌, Bool, true, false, cond, not, eqb, List, [], ◌∷◌, length, take, Ok, Err, Result, sym, refl, ap, ◌∙◌, subst, zero-add, zero-mul, arith}
use native.Mathlib.Nat.{div-eq_of_lt}
use Rattle.std.specs.Result.{is_err}
use Rattle.std.proofs.lemmas.Bool.{false≢true}
use Rattle.stores.specs.declared.fault.StoreFault.{StoreFault}
use Rattle.stores.specs.declared.fault.StoreFault.TheVariants.{Inputs, Places, Bounds}
use Rattle.stores.specs.declared.operation.Operation.TheVariants.{Xor}
use Rattle.stores.specs.Functions.{Function, never, always, Same, bit, variable, complement, joined, fixed}
use Rattle.stores.specs.Meaning.{Meaning, Yields, Takes, Flips, Fixes, at, cut}
use Rattle.stores.proofs.Sames.{Same_sym}
use Rattle.stores.proofs.Laws.{yields_as}
use Rattle.diagram.specs.declared.link.Link.{Link}
use Rattle.diagram.specs.declared.row.Row.{Row}
use Rattle.diagram.specs.Chains.{row}
use Rattle.diagram.specs.Rows.{node, functions, top, SoundOf}
use Rattle.diagram.specs.Subfunctions.{with_bit, cofactor, subfunctions}
use Rattle.diagram.specs.Diagrams.{meaning_of, LaterOf, ExtendsOf, CutOf, BuildsOf}
use Rattle.diagram.proofs.Nodes.{variable_node, cofactor_same}
use Rattle.diagram.proofs.Subfunctions.{keeps}
use Rattle.diagram.proofs.Rows.{functions_kept, functions_none, functions_length, functions_take, at_fewer, at_row}
use Rattle.diagram.proofs.Canonical.{part_held}
use Rattle.diagram.proofs.Building.{stays}

pub at_never : (n : ℕ) (rows : List Row) (len : ℕ) → at (functions n rows len) 0 ≡ never
at_never n rows len = at_fewer n rows 0 len 0 (omega arith) (omega arith) ∙ ap (λ x. at x 0) (functions_none n rows)

pub at_always : (n : ℕ) (rows : List Row) (len : ℕ) → at (functions n rows len) 1 ≡ always
at_always n rows len = at_fewer n rows 0 len 1 (omega arith) (omega arith) ∙ ap (λ x. at x 1) (functions_none n rows)

-- Without the rows that were put behind the others all is as it was.
restored : {n len : ℕ} {rows : List Row} {n' len' : ℕ} {rows' : List Row} → ExtendsOf n len rows n' len' rows' → meaning_of n' len rows' ≡ meaning_of n len rows
restored {n} {len} {rows} {n'} {len'} {rows'} e =
    subst (λ x. meaning_of x len rows' ≡ meaning_of n len rows) (sym e.inputs_kept) (cc (e.size_kept, functions_kept n rows rows' len e.rows_kept))

-- What was built is yielded, if nothing is left behind where it is refused.
pub built_yields : {n len : ℕ} {rows : List Row} {n' len' : ℕ} {rows' : List Row} (f : Function) (v : ℕ) (r : Result ℕ StoreFault) → ExtendsOf n len rows n' len' rows' → ((e : StoreFault) → r ≡ Err e → len' ≡ len) → BuildsOf n len rows f v r len' rows' → Yields subfunctions (meaning_of n len rows) (Unit {0}) (f ∷ []) f r (meaning_of n' len' rows')
built_yields {n} {len} {rows} {n'} {len'} {rows'} f v (Ok h) e back b =
    subst (λ x. Yields subfunctions (meaning_of n len rows) (Unit {0}) (f ∷ []) f (Ok h) (meaning_of x len' rows')) (sym e.inputs_kept) (tt, b.0, b.1)
built_yields f v (Err Inputs) e back b = b
built_yields f v (Err Bounds) e back b = absurd b
built_yields {n} {len} {rows} {n'} {len'} {rows'} f v (Err Places) e back b =
    (tt, b, ap (λ x. meaning_of n' x rows') (back Places refl) ∙ restored e)

-- The rows of a refused call are cut again.
pub cut_yields : {n len : ℕ} {rows : List Row} {n₁ len₁ : ℕ} {rows₁ : List Row} {n₂ len₂ : ℕ} {rows₂ : List Row} (f : Function) (v : ℕ) (r : Result ℕ StoreFault) → is_err r ≡ true → ExtendsOf n len rows n₁ len₁ rows₁ → CutOf n₁ rows₁ len n₂ len₂ rows₂ → BuildsOf n len rows f v r len₁ rows₁ → Yields subfunctions (meaning_of n len rows) (Unit {0}) (f ∷ []) f r (meaning_of n₂ len₂ rows₂)
cut_yields f v (Ok h) t e c b = absurd (false≢true t)
cut_yields f v (Err Inputs) t e c b = b
cut_yields f v (Err Bounds) t e c b = absurd b
cut_yields {n} {len} {rows} {n₁} {len₁} {rows₁} {n₂} {len₂} {rows₂} f v (Err Places) t e c b =
    (tt, b, ap (λ x. meaning_of x len₂ rows₂) c.inputs_kept ∙ (ap (λ x. meaning_of n₁ x rows₂) c.len_is ∙ (ap (λ x. meaning_of n₁ len x) c.rows_kept ∙ restored e)))

pub cut_meaning : (n len : ℕ) (rows : List Row) (m n' len' : ℕ) (rows' : List Row) → 2 ≤ m → m ≤ len + 2 → CutOf n rows (m - 2) n' len' rows' → meaning_of n' len' rows' ≡ cut (meaning_of n len rows) m
cut_meaning n len rows m n' len' rows' two top c =
    let i : m ≡ m - 2 + 2 = omega arith in
    let e : functions n rows (m - 2) ≡ take m (functions n rows len) = sym (functions_take n rows (m - 2) len (omega arith)) ∙ ap (λ x. take x (functions n rows len)) (sym i) in
    ap (λ x. meaning_of x len' rows') c.inputs_kept ∙ (ap (λ x. meaning_of n x rows') c.len_is ∙ (ap (λ x. meaning_of n (m - 2) x) c.rows_kept ∙ cc e))

module _ {n len : ℕ} {rows : List Row} {heads : List Link} (s : SoundOf n len rows heads) where
  pub held : (h : ℕ) → h < len + 2 → h < length (functions n rows len)
  held h l = omega (arith, functions_length n rows len)

  pub not_held : (h : ℕ) → len + 2 ≤ h → h < length (functions n rows len) → ⊥
  not_held h l m = omega (arith, functions_length n rows len)

  pub answers_variable : (v : ℕ) (r : Result ℕ StoreFault) (m' : Meaning) → v ≤ n → Yields subfunctions (meaning_of n len rows) (Unit {0}) (node n v (at (functions n rows len) 0) (at (functions n rows len) 1) ∷ []) (node n v (at (functions n rows len) 0) (at (functions n rows len) 1)) r m' → Takes subfunctions (meaning_of n len rows) v r m'
  answers_variable v r m' l y =
      let same : Same n (node n v (at (functions n rows len) 0) (at (functions n rows len) 1)) (variable n v) = λ p q. ap (λ x. node n v x (at (functions n rows len) 1) p) (at_never n rows len) ∙ (ap (λ x. node n v never x p) (at_always n rows len) ∙ sym (variable_node n v p q)) in
      yields_as subfunctions (meaning_of n len rows) m' _ (node n v (at (functions n rows len) 0) (at (functions n rows len) 1)) (variable n v) r (keeps n) l same y

  flipped : (x : Bool) → cond x false true ≡ not x
  flipped true = refl
  flipped false = refl

  xor_true : (f : Function) → Same n (joined Xor f (at (functions n rows len) 1)) (complement f)
  unfolding joined complement
  xor_true f p q = ap (λ x. cond (f p) (not (x p)) (x p)) (at_always n rows len) ∙ flipped (f p)

  pub answers_flip : (f : ℕ) (r : Result ℕ StoreFault) (m' : Meaning) → f < len + 2 → Yields subfunctions (meaning_of n len rows) (Unit {0}) (joined Xor (at (functions n rows len) f) (at (functions n rows len) 1) ∷ []) (joined Xor (at (functions n rows len) f) (at (functions n rows len) 1)) r m' → Flips subfunctions (meaning_of n len rows) f r m'
  answers_flip f r m' l y =
      yields_as subfunctions (meaning_of n len rows) m' _ (joined Xor (at (functions n rows len) f) (at (functions n rows len) 1)) (complement (at (functions n rows len) f)) r (keeps n) (held f l) (xor_true (at (functions n rows len) f)) y

  -- one row down, by the bit of the row's variable
  pub down : (h p : ℕ) (b : Bool) → h < len + 2 → 2 ≤ h → bit p (n - (row rows (h - 2)).node.variable) ≡ b → (cond b (row rows (h - 2)).node.high (row rows (h - 2)).node.low < len + 2) × (at (functions n rows len) (cond b (row rows (h - 2)).node.high (row rows (h - 2)).node.low) p ≡ at (functions n rows len) h p)
  unfolding variable
  down h p b l two t =
      let k = h - 2 in
      let i : h ≡ suc (suc k) = omega arith in
      let m : k < len = omega arith in
      let o = s.reduced.ordered k m in
      let x = o.low_earlier in
      let y = o.high_earlier in
      let F = functions n rows len in
      let taken : at F h p ≡ cond b (at F (row rows k).node.high p) (at F (row rows k).node.low p) = ap (λ z. at F z p) i ∙ (ap (λ z. z p) (at_row n rows len k m o) ∙ ap (λ z. cond z (at F (row rows k).node.high p) (at F (row rows k).node.low p)) t) in
      elim b as (λ c. at F h p ≡ cond c (at F (row rows k).node.high p) (at F (row rows k).node.low p) → (cond c (row rows k).node.high (row rows k).node.low < len + 2) × (at F (cond c (row rows k).node.high (row rows k).node.low) p ≡ at F h p)) [
        | true ↦ λ e. (omega arith, sym e)
        | false ↦ λ e. (omega arith, sym e)
      ] taken

  pub down_constant : (h p : ℕ) → h < 2 → eqb h 1 ≡ at (functions n rows len) h p
  down_constant zero p l = sym (ap (λ x. x p) (at_never n rows len))
  down_constant (suc zero) p l = sym (ap (λ x. x p) (at_always n rows len))
  down_constant (suc (suc k)) p l = let z : ⊥ = omega arith in absurd z

  -- e is the highest bit
  fixed_cofactor : (f : Function) (b : Bool) → Same n (fixed n f b) (cofactor n 0 b f)
  unfolding fixed with_bit
  fixed_cofactor f b p q =
      let z : n - 0 ≡ n = omega arith in
      let rest = cond b (2 ^ n) 0 + p % 2 ^ n in
      ap f (sym (ap (λ x. with_bit x b p) z ∙ (ap (λ x. x * 2 ^ (n + 1) + rest) (div-eq_of_lt q) ∙ (ap (λ x. x + rest) (zero-mul (2 ^ (n + 1))) ∙ zero-add rest))))

  pub answers_fix : (f low high : ℕ) (b : Bool) → f < len + 2 → LaterOf n len rows 0 low high × Same n (at (functions n rows len) f) (node n 0 (at (functions n rows len) low) (at (functions n rows len) high)) → Fixes subfunctions (meaning_of n len rows) f b (Ok (cond b high low)) (meaning_of n len rows)
  answers_fix f low high b l (w, whole) =
      let F = functions n rows len in
      let part = at F (cond b high low) in
      let (inside, rises, same) = part_held n rows len s.reduced.ordered 0 low high w.low_held w.high_held w.low_later w.high_later b in
      let fixed_part : Same n (fixed n (at F f) b) part = λ p q. fixed_cofactor (at F f) b p q ∙ (cofactor_same n 0 b (at F f) (node n 0 (at F low) (at F high)) whole p q ∙ same p q) in
      let y = stays s (cond b high low) (fixed n (at F f) b) 0 inside (Same_sym n (fixed n (at F f) b) part fixed_part) (omega arith) in
      (held f l, y.0, y.1)
