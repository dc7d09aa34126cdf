-- Joining part by part: what the joins of the parts gain is kept for the join of the whole.
use Rattle.std.proofs.Common.{◌≡◌, ℕ, zero, suc, ◌+◌, ◌-◌, ◌<◌, ◌≤◌, min, true, false, ◌||◌, ◌⊎◌, List, [], ◌∷◌, ◌++◌, IsErrAnd, Some, Ok, Err, Result, sym, refl, ap, ◌∙◌, subst, inl, inr, arith}
use Rattle.std.proofs.lemmas.Bool.{both_ways, or_cases, or_left, or_right}
use Rattle.stores.specs.declared.fault.StoreFault.{StoreFault}
use Rattle.stores.specs.declared.fault.StoreFault.TheVariants.{Inputs, Places, Bounds}
use Rattle.stores.specs.declared.operation.Operation.{Operation}
use Rattle.stores.specs.Functions.{Function, Same, joined}
use Rattle.stores.specs.Meaning.{Gained, Stands, at, has, kept}
use Rattle.stores.proofs.Sames.{Same_sym, Same_trans, has_append, both_same}
use Rattle.stores.proofs.Laws.{gained_then, gained_as, gained_same, overfull_then, overfull_as, overfull_same, stands_grown}
use Rattle.diagram.specs.declared.link.Link.{Link}
use Rattle.diagram.specs.declared.row.Row.{Row}
use Rattle.diagram.specs.Rows.{node, Free, functions, top, SoundOf}
use Rattle.diagram.specs.Subfunctions.{subfunctions}
use Rattle.diagram.specs.Diagrams.{meaning_of, LaterOf, ExtendsOf, BuildsOf, Settled}
use Rattle.diagram.proofs.Nodes.{free_fewer, free_joined, joined_nodes, node_same}
use Rattle.diagram.proofs.Subfunctions.{keeps, low_kept, high_kept}
use Rattle.diagram.proofs.Rows.{functions_kept, functions_none, functions_length, at_fewer, top_most, top_kept}
use Rattle.diagram.proofs.Canonical.{free_at}
use Rattle.diagram.proofs.Building.{stays}

-- A handle has its function and its first variable while the rows grow.
pub function_kept : {n len : ℕ} {rows : List Row} {n' len' : ℕ} {rows' : List Row} → ExtendsOf n len rows n' len' rows' → (h : ℕ) → h < len + 2 → at (functions n' rows' len') h ≡ at (functions n rows len) h
function_kept {n} {len} {rows} {n'} {len'} {rows'} e h l =
    ap (λ x. at (functions x rows' len') h) e.inputs_kept ∙ (at_fewer n rows' len len' h e.longer l ∙ ap (λ x. at x h) (functions_kept n rows rows' len e.rows_kept))

pub top_stays : {n len : ℕ} {rows : List Row} {n' len' : ℕ} {rows' : List Row} → ExtendsOf n len rows n' len' rows' → (h : ℕ) → h < len + 2 → top n' rows' h ≡ top n rows h
top_stays {n} {len} {rows} {n'} {len'} {rows'} e h l = ap (λ x. top x rows' h) e.inputs_kept ∙ top_kept n rows rows' len h e.rows_kept l

-- The exit of a `?` returns the fault that came, whatever variable was asked for.
pub builds_exit : (n len : ℕ) (rows : List Row) (f : Function) (v w : ℕ) (r : Result ℕ StoreFault) (len' : ℕ) (rows' : List Row) (e : StoreFault) → IsErrAnd r (λ y. y ≡ e) → BuildsOf n len rows f v (Err e) len' rows' → BuildsOf n len rows f w r len' rows'
builds_exit n len rows f v w (Ok h) len' rows' e b y = absurd b
builds_exit n len rows f v w (Err d) len' rows' e b y = subst (λ x. BuildsOf n len rows f w (Err x) len' rows') (sym b) (told e y)
  where
    told : (e : StoreFault) → BuildsOf n len rows f v (Err e) len' rows' → BuildsOf n len rows f w (Err e) len' rows'
    told Inputs y = y
    told Bounds y = y
    told Places y = y

-- What is kept for all of fs is kept for all of gs: so is what is held then.
absorbed : (n : ℕ) (L fs gs : List Function) → ((h : Function) → has n h (kept subfunctions n fs) ≡ true → has n h (kept subfunctions n gs) ≡ true) → (h : Function) → has n h (L ++ kept subfunctions n fs) ≡ true → has n h (L ++ kept subfunctions n gs) ≡ true
absorbed n L fs gs all h e =
    has_append n h L (kept subfunctions n gs) ∙ elim (or_cases (has n h L) (has n h (kept subfunctions n fs)) (sym (has_append n h L (kept subfunctions n fs)) ∙ e)) [
      | inl t ↦ or_left _ _ t
      | inr t ↦ or_right (has n h L) _ (all h t)
    ]

kept_first : (n : ℕ) (f : Function) (fs : List Function) (h : Function) → has n h (kept subfunctions n (f ∷ fs)) ≡ (has n h (subfunctions n f) || has n h (kept subfunctions n fs))
unfolding kept
kept_first n f fs h = has_append n h (subfunctions n f) (kept subfunctions n fs)

kept_nothing : (n : ℕ) (h : Function) → has n h (kept subfunctions n []) ≡ false
unfolding kept has
kept_nothing n h = refl

module _ (n : ℕ) (r : Function) where
  -- the functions of a list keep nothing that r does not keep
  Within : List Function → Type 0
  Within fs = (h : Function) → has n h (kept subfunctions n fs) ≡ true → has n h (kept subfunctions n (r ∷ [])) ≡ true

  within_none : Within []
  unfolding Within
  within_none h e = absurd (both_ways _ (kept_nothing n h) e)

  within_more : (f : Function) (fs : List Function) → ((h : Function) → has n h (subfunctions n f) ≡ true → has n h (subfunctions n r) ≡ true) → Within fs → Within (f ∷ fs)
  unfolding Within
  within_more f fs all rest h e =
      elim (or_cases (has n h (subfunctions n f)) (has n h (kept subfunctions n fs)) (sym (kept_first n f fs h) ∙ e)) [
        | inl t ↦ kept_first n r [] h ∙ or_left _ _ (all h t)
        | inr t ↦ rest h t
      ]

-- one that needs no row
module _ {n len : ℕ} {rows : List Row} {heads : List Link} (s : SoundOf n len rows heads) (op : Operation) (f g : ℕ) (held_f : f < len + 2) (held_g : g < len + 2) where
  settled_held : (h : ℕ) → (h < 2) ⊎ ((h ≡ f) ⊎ (h ≡ g)) → h < len + 2
  settled_held h c = elim c [ inl l ↦ omega arith | inr d ↦ elim d [ inl e ↦ omega arith | inr e ↦ omega arith ] ]

  settled_top : (h : ℕ) → (h < 2) ⊎ ((h ≡ f) ⊎ (h ≡ g)) → min (top n rows f) (top n rows g) ≤ top n rows h
  settled_top h c =
      elim c [
        | inl l ↦ constant_top h l
        | inr d ↦ elim d [ inl e ↦ subst (λ x. min (top n rows f) (top n rows g) ≤ top n rows x) (sym e) (omega arith) | inr e ↦ subst (λ x. min (top n rows f) (top n rows g) ≤ top n rows x) (sym e) (omega arith) ]
      ]
    where
      constant_top : (h : ℕ) → h < 2 → min (top n rows f) (top n rows g) ≤ top n rows h
      constant_top zero l = let t = top_most n rows len s.reduced.ordered f held_f in omega arith
      constant_top (suc zero) l = let t = top_most n rows len s.reduced.ordered f held_f in omega arith
      constant_top (suc (suc k)) l = let z : ⊥ = omega arith in absurd z

  pub settled_built : (h : ℕ) → Settled op f g (Some h) → BuildsOf n len rows (joined op (at (functions n rows len) f) (at (functions n rows len) g)) (min (top n rows f) (top n rows g)) (Ok h) len rows
  unfolding joined
  settled_built h (c, bits) =
      let F = functions n rows len in
      let zeros : (p : ℕ) → at F 0 p ≡ false = λ p. ap (λ x. x p) (at_fewer n rows 0 len 0 (omega arith) (omega arith) ∙ ap (λ x. at x 0) (functions_none n rows)) in
      let ones : (p : ℕ) → at F 1 p ≡ true = λ p. ap (λ x. x p) (at_fewer n rows 0 len 1 (omega arith) (omega arith) ∙ ap (λ x. at x 1) (functions_none n rows)) in
      stays s h (joined op (at F f) (at F g)) (min (top n rows f) (top n rows g)) (settled_held h c) (λ p q. bits (λ i. at F i p) (zeros p) (ones p)) (settled_top h c)

-- one by parts: f is f₀ and f₁, and g is g₀ and g₁, where variable v is 0 and where it is 1
module _ {n len : ℕ} {rows : List Row} {heads : List Link} (s : SoundOf n len rows heads) (op : Operation) (f g : ℕ) {v f₀ f₁ g₀ g₁ : ℕ} (pf : LaterOf n len rows v f₀ f₁ × Same n (at (functions n rows len) f) (node n v (at (functions n rows len) f₀) (at (functions n rows len) f₁))) (pg : LaterOf n len rows v g₀ g₁ × Same n (at (functions n rows len) g) (node n v (at (functions n rows len) g₀) (at (functions n rows len) g₁))) where
  abbrev whole : Function
  whole = joined op (at (functions n rows len) f) (at (functions n rows len) g)

  abbrev low_part : Function
  low_part = joined op (at (functions n rows len) f₀) (at (functions n rows len) g₀)

  abbrev high_part : Function
  high_part = joined op (at (functions n rows len) f₁) (at (functions n rows len) g₁)

  whole_node : Same n whole (node n v low_part high_part)
  whole_node = joined_nodes n v op _ _ _ _ _ _ pf.1 pg.1

  free_later : (h : ℕ) → h < len + 2 → v < top n rows h → Free n (suc v) (at (functions n rows len) h)
  free_later h l m = free_fewer n (top n rows h) (suc v) _ (omega arith) (free_at n rows len s.reduced.ordered h l)

  free_low : Free n (suc v) low_part
  free_low = free_joined n (suc v) op _ _ (free_later f₀ pf.0.low_held pf.0.low_later) (free_later g₀ pg.0.low_held pg.0.low_later)

  free_high : Free n (suc v) high_part
  free_high = free_joined n (suc v) op _ _ (free_later f₁ pf.0.high_held pf.0.high_later) (free_later g₁ pg.0.high_held pg.0.high_later)

  low_within : (h : Function) → has n h (subfunctions n low_part) ≡ true → has n h (subfunctions n whole) ≡ true
  low_within h e = (keeps n).by_points whole (node n v low_part high_part) h whole_node ∙ low_kept n v low_part high_part h pf.0.known free_low free_high e

  high_within : (h : Function) → has n h (subfunctions n high_part) ≡ true → has n h (subfunctions n whole) ≡ true
  high_within h e = (keeps n).by_points whole (node n v low_part high_part) h whole_node ∙ high_kept n v low_part high_part h pf.0.known free_low free_high e

  whole_within : (h : Function) → has n h (subfunctions n whole) ≡ true → has n h (subfunctions n whole) ≡ true
  whole_within h e = e

  -- the call for the high parts, once rows were put behind the others
  module _ {n₁ len₁ : ℕ} {rows₁ : List Row} (e : ExtendsOf n len rows n₁ len₁ rows₁) where
    high_held : (f₁ < len₁ + 2) × (g₁ < len₁ + 2)
    high_held = let l = e.longer in let a = pf.0.high_held in let b = pg.0.high_held in (omega arith, omega arith)

    high_falls : n₁ + 1 - min (top n₁ rows₁ f₁) (top n₁ rows₁ g₁) < n + 1 - v
    high_falls =
        let a = top_stays e f₁ pf.0.high_held in
        let b = top_stays e g₁ pg.0.high_held in
        let i = e.inputs_kept in
        let x = pf.0.high_later in
        let y = pg.0.high_later in
        let z = pf.0.known in
        omega arith

    high_call : (r : Result ℕ StoreFault) (len₂ : ℕ) (rows₂ : List Row) → BuildsOf n₁ len₁ rows₁ (joined op (at (functions n₁ rows₁ len₁) f₁) (at (functions n₁ rows₁ len₁) g₁)) (min (top n₁ rows₁ f₁) (top n₁ rows₁ g₁)) r len₂ rows₂ → BuildsOf n len₁ rows₁ high_part (min (top n rows f₁) (top n rows g₁)) r len₂ rows₂
    high_call r len₂ rows₂ b =
        let i = e.inputs_kept in
        let x = function_kept e f₁ pf.0.high_held in
        let y = function_kept e g₁ pg.0.high_held in
        let t = top_stays e f₁ pf.0.high_held in
        let u = top_stays e g₁ pg.0.high_held in
        let fs : joined op (at (functions n₁ rows₁ len₁) f₁) (at (functions n₁ rows₁ len₁) g₁) ≡ high_part = ap (λ z. joined op z (at (functions n₁ rows₁ len₁) g₁)) x ∙ ap (λ z. joined op (at (functions n rows len) f₁) z) y in
        let ts : min (top n₁ rows₁ f₁) (top n₁ rows₁ g₁) ≡ min (top n rows f₁) (top n rows g₁) = ap (λ z. min z (top n₁ rows₁ g₁)) t ∙ ap (λ z. min (top n rows f₁) z) u in
        subst (λ z. BuildsOf z len₁ rows₁ high_part (min (top n rows f₁) (top n rows g₁)) r len₂ rows₂) i
        (subst (λ z. BuildsOf n₁ len₁ rows₁ z (min (top n rows f₁) (top n rows g₁)) r len₂ rows₂) fs
        (subst (λ z. BuildsOf n₁ len₁ rows₁ (joined op (at (functions n₁ rows₁ len₁) f₁) (at (functions n₁ rows₁ len₁) g₁)) z r len₂ rows₂) ts b))

    -- the call for the node, once more of them were
    module _ {n₂ len₂ : ℕ} {rows₂ : List Row} (d : ExtendsOf n₁ len₁ rows₁ n₂ len₂ rows₂) (low high : ℕ) (low_stands : Stands (meaning_of n len₁ rows₁) low low_part) (high_stands : Stands (meaning_of n len₂ rows₂) high high_part) where
      node_later : min (top n rows f₀) (top n rows g₀) ≤ top n rows₁ low → min (top n rows f₁) (top n rows g₁) ≤ top n rows₂ high → LaterOf n₂ len₂ rows₂ v low high
      node_later low_rises high_rises =
          let i : n₂ ≡ n = d.inputs_kept ∙ e.inputs_kept in
          let low_in : low < len₁ + 2 = omega (arith, low_stands.within, functions_length n rows₁ len₁) in
          let high_in : high < len₂ + 2 = omega (arith, high_stands.within, functions_length n rows₂ len₂) in
          let l = d.longer in
          let a = pf.0.low_later in
          let b = pg.0.low_later in
          let x = pf.0.high_later in
          let y = pg.0.high_later in
          let t = top_kept n rows₁ rows₂ len₁ low d.rows_kept low_in in
          subst (λ z. LaterOf z len₂ rows₂ v low high) (sym i) (record { known = pf.0.known; low_held = omega arith; high_held = high_in; low_later = omega arith; high_later = omega arith })

      node_call : (r : Result ℕ StoreFault) (len₃ : ℕ) (rows₃ : List Row) → BuildsOf n₂ len₂ rows₂ (node n₂ v (at (functions n₂ rows₂ len₂) low) (at (functions n₂ rows₂ len₂) high)) v r len₃ rows₃ → BuildsOf n len₂ rows₂ (node n v (at (functions n rows₂ len₂) low) (at (functions n rows₂ len₂) high)) v r len₃ rows₃
      node_call r len₃ rows₃ b = subst (λ z. BuildsOf z len₂ rows₂ (node z v (at (functions z rows₂ len₂) low) (at (functions z rows₂ len₂) high)) v r len₃ rows₃) (d.inputs_kept ∙ e.inputs_kept) b

  pub low_refused : (w len' : ℕ) (rows' : List Row) (e : StoreFault) → BuildsOf n len rows low_part w (Err e) len' rows' → BuildsOf n len rows whole v (Err e) len' rows'
  unfolding Within
  low_refused w len' rows' Inputs y = y
  low_refused w len' rows' Bounds y = y
  low_refused w len' rows' Places y =
      overfull_as subfunctions (meaning_of n len rows) (low_part ∷ []) (whole ∷ []) (absorbed n (functions n rows len) (low_part ∷ []) (whole ∷ []) (within_more n whole low_part [] low_within (within_none n whole))) y

  pub low_exit : (u w len' : ℕ) (rows' : List Row) (e : StoreFault) (r : Result ℕ StoreFault) → IsErrAnd r (λ y. y ≡ e) → BuildsOf n len rows low_part u (Err e) len' rows' → BuildsOf n len rows whole w r len' rows'
  low_exit u w len' rows' e r is y = builds_exit n len rows whole v w r len' rows' e is (low_refused u len' rows' e y)

  module _ (len₁ : ℕ) (rows₁ : List Row) (first : Gained subfunctions (meaning_of n len rows) (low_part ∷ []) (meaning_of n len₁ rows₁)) where
    high_refused : (w len' : ℕ) (rows' : List Row) (e : StoreFault) → BuildsOf n len₁ rows₁ high_part w (Err e) len' rows' → BuildsOf n len rows whole v (Err e) len' rows'
    unfolding Within
    high_refused w len' rows' Inputs y = y
    high_refused w len' rows' Bounds y = y
    high_refused w len' rows' Places y =
        overfull_as subfunctions (meaning_of n len rows) (low_part ∷ high_part ∷ []) (whole ∷ []) (absorbed n (functions n rows len) (low_part ∷ high_part ∷ []) (whole ∷ []) (within_more n whole low_part (high_part ∷ []) low_within (within_more n whole high_part [] high_within (within_none n whole))))
        (overfull_then subfunctions (meaning_of n len rows) (meaning_of n len₁ rows₁) (low_part ∷ []) (high_part ∷ []) first y)

    module _ (len₂ : ℕ) (rows₂ : List Row) (second : Gained subfunctions (meaning_of n len₁ rows₁) (high_part ∷ []) (meaning_of n len₂ rows₂)) (low high : ℕ) (low_stands : Stands (meaning_of n len₁ rows₁) low low_part) (high_stands : Stands (meaning_of n len₂ rows₂) high high_part) where
      abbrev joint : Function
      joint = node n v (at (functions n rows₂ len₂) low) (at (functions n rows₂ len₂) high)

      joint_whole : Same n joint whole
      joint_whole =
          let a = stands_grown (meaning_of n len₁ rows₁) (meaning_of n len₂ rows₂) low low_part second.grown low_stands in
          Same_trans n joint (node n v low_part high_part) whole (node_same n v _ _ _ _ a.means high_stands.means) (Same_sym n whole (node n v low_part high_part) whole_node)

      three : (h : Function) → has n h (functions n rows len ++ kept subfunctions n (low_part ∷ high_part ∷ whole ∷ [])) ≡ true → has n h (functions n rows len ++ kept subfunctions n (whole ∷ [])) ≡ true
      unfolding Within
      three = absorbed n (functions n rows len) (low_part ∷ high_part ∷ whole ∷ []) (whole ∷ []) (within_more n whole low_part (high_part ∷ whole ∷ []) low_within (within_more n whole high_part (whole ∷ []) high_within (within_more n whole whole [] whole_within (within_none n whole))))

      one_of_three : (h : Function) → has n h (functions n rows len ++ kept subfunctions n (whole ∷ [])) ≡ true → has n h (functions n rows len ++ kept subfunctions n (low_part ∷ high_part ∷ whole ∷ [])) ≡ true
      one_of_three = absorbed n (functions n rows len) (whole ∷ []) (low_part ∷ high_part ∷ whole ∷ []) (λ h e.
          kept_first n low_part (high_part ∷ whole ∷ []) h ∙ or_right (has n h (subfunctions n low_part)) _ (kept_first n high_part (whole ∷ []) h ∙ or_right (has n h (subfunctions n high_part)) _ e))

      both : Gained subfunctions (meaning_of n len rows) (low_part ∷ high_part ∷ []) (meaning_of n len₂ rows₂)
      both = gained_then subfunctions (meaning_of n len rows) (meaning_of n len₁ rows₁) (meaning_of n len₂ rows₂) (low_part ∷ []) (high_part ∷ []) first second

      joint_built : (r : Result ℕ StoreFault) (len₃ : ℕ) (rows₃ : List Row) → BuildsOf n len₂ rows₂ joint v r len₃ rows₃ → BuildsOf n len rows whole v r len₃ rows₃
      joint_built (Ok h) len₃ rows₃ (gained, stands, rises) = (
        gained_as subfunctions (meaning_of n len rows) (meaning_of n len₃ rows₃) (low_part ∷ high_part ∷ whole ∷ []) (whole ∷ []) (λ h. both_same _ _ (three h) (one_of_three h))
            (gained_then subfunctions (meaning_of n len rows) (meaning_of n len₂ rows₂) (meaning_of n len₃ rows₃) (low_part ∷ high_part ∷ []) (whole ∷ []) both
            (gained_same subfunctions (meaning_of n len₂ rows₂) (meaning_of n len₃ rows₃) (joint ∷ []) (whole ∷ []) (keeps n) (joint_whole, tt) gained)),
        record { within = stands.within; means = Same_trans n (at (functions n rows₃ len₃) h) joint whole stands.means joint_whole },
        rises,
      )
      joint_built (Err Inputs) len₃ rows₃ y = y
      joint_built (Err Bounds) len₃ rows₃ y = y
      joint_built (Err Places) len₃ rows₃ y =
          overfull_as subfunctions (meaning_of n len rows) (low_part ∷ high_part ∷ whole ∷ []) (whole ∷ []) three
          (overfull_then subfunctions (meaning_of n len rows) (meaning_of n len₂ rows₂) (low_part ∷ high_part ∷ []) (whole ∷ []) both
          (overfull_same subfunctions (meaning_of n len₂ rows₂) (joint ∷ []) (whole ∷ []) (keeps n) (joint_whole, tt) y))

  -- the steps of the recursion, each by what the calls before it left
  module _ {n₁ len₁ : ℕ} {rows₁ : List Row} (e : ExtendsOf n len rows n₁ len₁ rows₁) where
    -- what the call for the high parts answered, in a store that has grown
    abbrev High : Result ℕ StoreFault → ℕ → List Row → Type 0
    High r len₂ rows₂ = BuildsOf n₁ len₁ rows₁ (joined op (at (functions n₁ rows₁ len₁) f₁) (at (functions n₁ rows₁ len₁) g₁)) (min (top n₁ rows₁ f₁) (top n₁ rows₁ g₁)) r len₂ rows₂

    pub high_ready : (n₁ + 1 - min (top n₁ rows₁ f₁) (top n₁ rows₁ g₁) < n + 1 - v) × (f₁ < len₁ + 2) × (g₁ < len₁ + 2)
    high_ready = (high_falls e, (high_held e).0, (high_held e).1)

    pub high_exit : Gained subfunctions (meaning_of n len rows) (low_part ∷ []) (meaning_of n len₁ rows₁) → (w len₂ : ℕ) (rows₂ : List Row) (fault : StoreFault) (r : Result ℕ StoreFault) → IsErrAnd r (λ y. y ≡ fault) → High (Err fault) len₂ rows₂ → BuildsOf n len rows whole w r len₂ rows₂
    high_exit first w len₂ rows₂ fault r is b =
        builds_exit n len rows whole v w r len₂ rows₂ fault is (high_refused len₁ rows₁ first (min (top n rows f₁) (top n rows g₁)) len₂ rows₂ fault (high_call e (Err fault) len₂ rows₂ b))

    module _ (low : ℕ) (low_made : BuildsOf n len rows low_part (min (top n rows f₀) (top n rows g₀)) (Ok low) len₁ rows₁) {n₂ len₂ : ℕ} {rows₂ : List Row} (d : ExtendsOf n₁ len₁ rows₁ n₂ len₂ rows₂) (high : ℕ) (high_made : High (Ok high) len₂ rows₂) where
      pub node_ready : LaterOf n₂ len₂ rows₂ v low high
      node_ready =
          let y = high_call e (Ok high) len₂ rows₂ high_made in
          node_later e d low high low_made.1 y.1 low_made.2 y.2

      pub whole_built : (w : ℕ) → v ≡ w → (r : Result ℕ StoreFault) (len₃ : ℕ) (rows₃ : List Row) → BuildsOf n₂ len₂ rows₂ (node n₂ v (at (functions n₂ rows₂ len₂) low) (at (functions n₂ rows₂ len₂) high)) v r len₃ rows₃ → BuildsOf n len rows whole w r len₃ rows₃
      whole_built w is r len₃ rows₃ b =
          let y = high_call e (Ok high) len₂ rows₂ high_made in
          subst (λ x. BuildsOf n len rows whole x r len₃ rows₃) is (joint_built len₁ rows₁ low_made.0 len₂ rows₂ y.0 low high low_made.1 y.1 r len₃ rows₃ (node_call e d low high low_made.1 y.1 r len₃ rows₃ b))
