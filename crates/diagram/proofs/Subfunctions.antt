-- Laws of the keeping rule: it owes nothing, and a node's parts keep nothing that the node does not keep.
use Rattle.std.proofs.Common.{◌≡◌, ℕ, zero, suc, ◌+◌, ◌-◌, ◌≤◌, Bool, true, false, not, ◌&&◌, List, [], ◌∷◌, map, filter, sym, refl, ◌∙◌, subst, inl, inr, arith}
use mathlib.Core.Bool.{and-false}
use Rattle.std.proofs.lemmas.Bool.{cases_Bool, cases_lt, both_ways, or_cases, or_left, or_right, and_parts, and_from, not_from_false, not-true}
use Rattle.stores.specs.Functions.{Function, Same, same, constant, never, always}
use Rattle.stores.specs.Meaning.{Keeps, has}
use Rattle.stores.proofs.Sames.{same_tells, same_refl, Same_sym, Same_trans, Same_refl, has_same, has_append, constant_same, both_same}
use Rattle.diagram.specs.Subfunctions.{cofactor, settings, settings_upto, subfunctions}
use Rattle.diagram.specs.Rows.{node, Free}
use Rattle.diagram.proofs.Nodes.{cofactor_same, cofactor_free, free_fewer, node_low, node_high, free_node}

-- a function in a list, with a variable set
has_cofactor : (n v : ℕ) (b : Bool) (f : Function) (fs : List Function) → has n f fs ≡ true → has n (cofactor n v b f) (map (cofactor n v b) fs) ≡ true
unfolding has
has_cofactor n v b f [] e = absurd (both_ways false refl e)
has_cofactor n v b f (g ∷ gs) e =
    elim (or_cases (same n f g) (has n f gs) e) [
      | inl s ↦ or_left _ _ ((same_tells n (cofactor n v b f) (cofactor n v b g)).1 (cofactor_same n v b f g ((same_tells n f g).0 s)))
      | inr t ↦ or_right (same n (cofactor n v b f) (cofactor n v b g)) _ (has_cofactor n v b f gs t)
    ]

cofactor_has : (n v : ℕ) (b : Bool) (g : Function) (fs : List Function) → has n g (map (cofactor n v b) fs) ≡ true → (f : Function) × (has n f fs ≡ true) × Same n g (cofactor n v b f)
unfolding has
cofactor_has n v b g [] e = absurd (both_ways false refl e)
cofactor_has n v b g (f ∷ fs) e =
    elim (or_cases (same n g (cofactor n v b f)) (has n g (map (cofactor n v b) fs)) e) [
      | inl s ↦ (f, or_left _ _ (same_refl n f), (same_tells n g (cofactor n v b f)).0 s)
      | inr t ↦ let (h, l, s) = cofactor_has n v b g fs t in (h, or_right (same n h f) _ l, s)
    ]

-- One variable more is set in what was left.
pub setting_more : (n k : ℕ) (b : Bool) (f g h : Function) → has n g (settings n k f) ≡ true → Same n h (cofactor n k b g) → has n h (settings n (suc k) f) ≡ true
unfolding settings
setting_more n k true f g h e s =
    has_same n h (cofactor n k true g) _ s
    ∙ (has_append n (cofactor n k true g) (map (cofactor n k false) (settings n k f)) (map (cofactor n k true) (settings n k f))
    ∙ or_right (has n (cofactor n k true g) (map (cofactor n k false) (settings n k f))) _ (has_cofactor n k true g (settings n k f) e))
setting_more n k false f g h e s =
    has_same n h (cofactor n k false g) _ s
    ∙ (has_append n (cofactor n k false g) (map (cofactor n k false) (settings n k f)) (map (cofactor n k true) (settings n k f))
    ∙ or_left _ _ (has_cofactor n k false g (settings n k f) e))

pub setting_less : (n k : ℕ) (f h : Function) → has n h (settings n (suc k) f) ≡ true → (b : Bool) × ((g : Function) × (has n g (settings n k f) ≡ true) × Same n h (cofactor n k b g))
unfolding settings
setting_less n k f h e =
    elim (or_cases (has n h (map (cofactor n k false) (settings n k f))) (has n h (map (cofactor n k true) (settings n k f))) (sym (has_append n h (map (cofactor n k false) (settings n k f)) (map (cofactor n k true) (settings n k f))) ∙ e)) [
      | inl t ↦ (false, cofactor_has n k false h (settings n k f) t)
      | inr t ↦ (true, cofactor_has n k true h (settings n k f) t)
    ]

pub setting_none : (n : ℕ) (f g : Function) → has n g (settings n zero f) ≡ true → Same n g f
unfolding settings has
setting_none n f g e = elim (or_cases (same n g f) false e) [ inl t ↦ (same_tells n g f).0 t | inr z ↦ absurd (both_ways false refl z) ]

pub setting_start : (n : ℕ) (f g : Function) → Same n g f → has n g (settings n zero f) ≡ true
unfolding settings has
setting_start n f g s = or_left _ _ ((same_tells n g f).1 s)

pub upto_has : (n m k : ℕ) (f g : Function) → k ≤ m → has n g (settings n k f) ≡ true → has n g (settings_upto n m f) ≡ true
unfolding settings_upto
upto_has n zero k f g l e = let z : k ≡ zero = omega arith in subst (λ x. has n g (settings n x f) ≡ true) z e
upto_has n (suc m) k f g l e =
    has_append n g (settings n (suc m) f) (settings_upto n m f)
    ∙ elim (cases_lt m k) [
      | inl past ↦ let z : k ≡ suc m = omega arith in or_left _ _ (subst (λ x. has n g (settings n x f) ≡ true) z e)
      | inr early ↦ or_right (has n g (settings n (suc m) f)) _ (upto_has n m k f g early e)
    ]

pub has_upto : (n m : ℕ) (f g : Function) → has n g (settings_upto n m f) ≡ true → (k : ℕ) × (k ≤ m) × (has n g (settings n k f) ≡ true)
unfolding settings_upto
has_upto n zero f g e = (0, omega arith, e)
has_upto n (suc m) f g e =
    elim (or_cases (has n g (settings n (suc m) f)) (has n g (settings_upto n m f)) (sym (has_append n g (settings n (suc m) f) (settings_upto n m f)) ∙ e)) [
      | inl t ↦ (suc m, omega arith, t)
      | inr t ↦ let (k, l, h) = has_upto n m f g t in (k, omega arith, h)
    ]

-- what a filter by `constant` leaves
has_varying : (n : ℕ) (g : Function) (fs : List Function) → has n g (filter (λ f. not (constant n f)) fs) ≡ (has n g fs && not (constant n g))
unfolding has
has_varying n g [] = refl
has_varying n g (f ∷ fs) =
    let ih = has_varying n g fs in
    elim (cases_Bool (same n g f)) [
      | inl t ↦ let e = constant_same n g f ((same_tells n g f).0 t) in
          elim (cases_Bool (constant n f)) [
            | inl c ↦ rw (c, t, e, c) (ih ∙ rw (e, c) (and-false (has n g fs)))
            | inr c ↦ rw (c, t, e, c) refl
          ]
      | inr t ↦ elim (cases_Bool (constant n f)) [ inl c ↦ rw (c, t) ih | inr c ↦ rw (c, t) ih ]
    ]

-- A function is kept exactly where it is not constant and some setting leaves it.
pub kept_from : (n k : ℕ) (f g : Function) → k ≤ n + 1 → has n g (settings n k f) ≡ true → constant n g ≡ false → has n g (subfunctions n f) ≡ true
unfolding subfunctions
kept_from n k f g l e c = has_varying n g (settings_upto n (n + 1) f) ∙ and_from _ _ (upto_has n (n + 1) k f g l e) (not_from_false _ c)

pub from_kept : (n : ℕ) (f g : Function) → has n g (subfunctions n f) ≡ true → ((k : ℕ) × (k ≤ n + 1) × (has n g (settings n k f) ≡ true)) × (constant n g ≡ false)
unfolding subfunctions
from_kept n f g e =
    let (a, b) = and_parts (has n g (settings_upto n (n + 1) f)) _ (sym (has_varying n g (settings_upto n (n + 1) f)) ∙ e) in
    (has_upto n (n + 1) f g a, not-true _ b)

setting_same : (n k : ℕ) (f g h : Function) → Same n f g → has n h (settings n k f) ≡ true → has n h (settings n k g) ≡ true
setting_same n zero f g h s e = setting_start n g h (Same_trans n h f g (setting_none n f h e) s)
setting_same n (suc k) f g h s e =
    let (b, (x, i, t)) = setting_less n k f h e in
    setting_more n k b g x h (setting_same n k f g x s i) t

-- what is left of a constant function is constant
cofactor_constant : (n v : ℕ) (b : Bool) (f : Function) → constant n f ≡ true → constant n (cofactor n v b f) ≡ true
unfolding constant
cofactor_constant n v b f c =
    elim (or_cases (same n f never) (same n f always) c) [
      | inl t ↦ or_left _ _ ((same_tells n (cofactor n v b f) never).1 (cofactor_same n v b f never ((same_tells n f never).0 t)))
      | inr t ↦ or_right (same n (cofactor n v b f) never) _ ((same_tells n (cofactor n v b f) always).1 (cofactor_same n v b f always ((same_tells n f always).0 t)))
    ]

setting_constant : (n k : ℕ) (f h : Function) → constant n f ≡ true → has n h (settings n k f) ≡ true → constant n h ≡ true
setting_constant n zero f h c e = constant_same n h f (setting_none n f h e) ∙ c
setting_constant n (suc k) f h c e =
    let (b, (x, i, t)) = setting_less n k f h e in
    constant_same n h (cofactor n k b x) t ∙ cofactor_constant n k b x (setting_constant n k f x c i)

-- It is a keeping rule.
pub keeps : (n : ℕ) → Keeps subfunctions n
keeps n = record {
  itself = λ f c. kept_from n 0 f f (omega arith) (setting_start n f f (Same_refl n f)) c;
  nothing = λ f g c. elim (cases_Bool (has n g (subfunctions n f))) [
    | inr o ↦ o
    | inl e ↦ let ((k, l, h), v) = from_kept n f g e in absurd (both_ways _ v (setting_constant n k f g c h))
  ];
  proper = λ f g e. (from_kept n f g e).1;
  by_points = λ f g h s.
      both_same _ _
      (λ e. let ((k, l, i), v) = from_kept n f h e in kept_from n k g h l (setting_same n k f g h s i) v)
      (λ e. let ((k, l, i), v) = from_kept n g h e in kept_from n k f h l (setting_same n k g f h (Same_sym n f g s) i) v);
}

-- Setting variables on which a function does not depend leaves it.
pub setting_idle : (n k : ℕ) (f g : Function) → Free n k f → has n g (settings n k f) ≡ true → Same n g f
setting_idle n zero f g free e = setting_none n f g e
setting_idle n (suc k) f g free e =
    let (b, (x, i, t)) = setting_less n k f g e in
    let s = setting_idle n k f x (free_fewer n (suc k) k f (omega arith) free) i in
    Same_trans n g (cofactor n k b x) f t (Same_trans n (cofactor n k b x) (cofactor n k b f) f (cofactor_same n k b x f s) (cofactor_free n (suc k) k b f free (omega arith)))

pub idle_setting : (n k : ℕ) (f : Function) → Free n k f → has n f (settings n k f) ≡ true
idle_setting n zero f free = setting_start n f f (Same_refl n f)
idle_setting n (suc k) f free =
    setting_more n k false f f f (idle_setting n k f (free_fewer n (suc k) k f (omega arith) free)) (Same_sym n (cofactor n k false f) f (cofactor_free n (suc k) k false f free (omega arith)))

-- What is left of a cofactor f of r is left of r.
module _ (n v : ℕ) (b : Bool) (r f : Function) (known : v ≤ n) (free : Free n v r) (part : Same n (cofactor n v b r) f) (free_part : Free n (suc v) f) where
  part_setting : has n f (settings n (suc v) r) ≡ true
  part_setting = setting_more n v b r r f (idle_setting n v r free) (Same_sym n (cofactor n v b r) f part)

  setting_past : (j : ℕ) (g : Function) → has n g (settings n (suc v + j) f) ≡ true → has n g (settings n (suc v + j) r) ≡ true
  setting_past zero g e =
      let z : suc v + 0 ≡ suc v = omega arith in
      let e' : has n g (settings n (suc v) f) ≡ true = subst (λ x. has n g (settings n x f) ≡ true) z e in
      subst (λ x. has n g (settings n x r) ≡ true) (sym z) (has_same n g f (settings n (suc v) r) (setting_idle n (suc v) f g free_part e') ∙ part_setting)
  setting_past (suc j) g e =
      let z : suc v + suc j ≡ suc (suc v + j) = omega arith in
      let e' : has n g (settings n (suc (suc v + j)) f) ≡ true = subst (λ x. has n g (settings n x f) ≡ true) z e in
      let (c, (x, i, t)) = setting_less n (suc v + j) f g e' in
      subst (λ x. has n g (settings n x r) ≡ true) (sym z) (setting_more n (suc v + j) c r x g (setting_past j x i) t)

  pub part_kept : (g : Function) → has n g (subfunctions n f) ≡ true → has n g (subfunctions n r) ≡ true
  part_kept g e =
      let ((k, l, i), varies) = from_kept n f g e in
      elim (cases_lt k (suc v)) [
        | inl early ↦ let s = setting_idle n k f g (free_fewer n (suc v) k f (omega arith) free_part) i in
            kept_from n (suc v) r g (omega arith) (has_same n g f (settings n (suc v) r) s ∙ part_setting) varies
        | inr late ↦ let z : k ≡ suc v + (k - suc v) = omega arith in
            let i' = setting_past (k - suc v) g (subst (λ x. has n g (settings n x f) ≡ true) z i) in
            kept_from n k r g l (subst (λ x. has n g (settings n x r) ≡ true) (sym z) i') varies
      ]

-- the parts of a node keep nothing that the node does not keep
pub low_kept : (n v : ℕ) (f g h : Function) → v ≤ n → Free n (suc v) f → Free n (suc v) g → has n h (subfunctions n f) ≡ true → has n h (subfunctions n (node n v f g)) ≡ true
low_kept n v f g h l i j e =
    part_kept n v false (node n v f g) f l (free_node n v f g l (free_fewer n (suc v) v f (omega arith) i) (free_fewer n (suc v) v g (omega arith) j)) (node_low n v f g i) i h e

pub high_kept : (n v : ℕ) (f g h : Function) → v ≤ n → Free n (suc v) f → Free n (suc v) g → has n h (subfunctions n g) ≡ true → has n h (subfunctions n (node n v f g)) ≡ true
high_kept n v f g h l i j e =
    part_kept n v true (node n v f g) g l (free_node n v f g l (free_fewer n (suc v) v f (omega arith) i) (free_fewer n (suc v) v g (omega arith) j)) (node_high n v f g j) j h e
