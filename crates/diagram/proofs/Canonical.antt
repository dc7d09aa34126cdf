-- Canonicity: reduced rows stand for different functions, none of which is constant, and what is kept for a held function is held.
use Rattle.std.proofs.Common.{◌≡◌, ℕ, zero, suc, ◌+◌, ◌<◌, ◌≤◌, Bool, true, false, cond, List, [], ◌∷◌, sym, refl, ap, ◌∙◌, subst, inl, inr, arith, pow_pos}
use Rattle.std.proofs.lemmas.Bool.{cases_Bool, cases_lt, cases_order, true≢false, false≢true}
use Rattle.stores.specs.Functions.{Function, never, always, Same}
use Rattle.stores.specs.Meaning.{at, has, different}
use Rattle.stores.proofs.Sames.{Same_sym, Same_trans, at_has, has_at, different_push, constants_differ}
use Rattle.diagram.specs.declared.row.Row.{Row}
use Rattle.diagram.specs.Chains.{row}
use Rattle.diagram.specs.Subfunctions.{cofactor, settings, subfunctions}
use Rattle.diagram.specs.Rows.{node, Free, functions, top, Ordered, Reduced}
use Rattle.diagram.proofs.Nodes.{free_never, free_always, free_fewer, free_node, node_parts, node_idle, node_low, node_high, cofactor_same, cofactor_free}
use Rattle.diagram.proofs.Subfunctions.{setting_none, setting_less, from_kept}
use Rattle.diagram.proofs.Rows.{row_function, functions_length, functions_more, functions_none, at_fewer, at_last, at_row}

module _ (n : ℕ) (rows : List Row) where
  -- A handle's function depends on no variable before that of its row.
  free_below : (b len : ℕ) → ((k : ℕ) → k < len → Ordered n rows k) → (h : ℕ) → h < b → h < len + 2 → Free n (top n rows h) (at (functions n rows len) h)
  free_below zero len o h l m = let z : ⊥ = omega arith in absurd z
  free_below (suc b) len o zero l m = subst (λ x. Free n (n + 1) x) (sym (at_fewer n rows 0 len 0 (omega arith) (omega arith) ∙ ap (λ x. at x 0) (functions_none n rows))) (free_never n (n + 1))
  free_below (suc b) len o (suc zero) l m = subst (λ x. Free n (n + 1) x) (sym (at_fewer n rows 0 len 1 (omega arith) (omega arith) ∙ ap (λ x. at x 1) (functions_none n rows))) (free_always n (n + 1))
  free_below (suc b) len o (suc (suc k)) l m =
      let w : k < len = omega arith in
      let r = o k w in
      let v = (row rows k).node.variable in
      let f = at (functions n rows len) (row rows k).node.low in
      let g = at (functions n rows len) (row rows k).node.high in
      let x = r.low_earlier in
      let y = r.high_earlier in
      let s = r.low_rises in
      let t = r.high_rises in
      let i = free_fewer n (top n rows (row rows k).node.low) v f (omega arith) (free_below b len o (row rows k).node.low (omega arith) (omega arith)) in
      let j = free_fewer n (top n rows (row rows k).node.high) v g (omega arith) (free_below b len o (row rows k).node.high (omega arith) (omega arith)) in
      subst (λ z. Free n v z) (sym (at_row n rows len k w r)) (free_node n v f g r.known i j)

  pub free_at : (len : ℕ) → ((k : ℕ) → k < len → Ordered n rows k) → (h : ℕ) → h < len + 2 → Free n (top n rows h) (at (functions n rows len) h)
  free_at len o h l = free_below (suc h) len o h (omega arith) l

  -- no two handles stand for one function
  abbrev Apart : ℕ → Type 0
  Apart len = (i j : ℕ) → i < len + 2 → j < len + 2 → Same n (at (functions n rows len) i) (at (functions n rows len) j) → i ≡ j

  -- A new node is no function that is held.
  module _ (len : ℕ) (o : (k : ℕ) → k < len → Ordered n rows k) (apart : Apart len) (v low high : ℕ) (known : v ≤ n) (held_Low : low < len + 2) (held_High : high < len + 2) (differ : low ≡ high → ⊥) (low_rises : v < top n rows low) (high_rises : v < top n rows high) (new : (k : ℕ) → k < len → (row rows k).node ≡ record { variable = v; low = low; high = high } → ⊥) where
    f : Function
    f = at (functions n rows len) low

    g : Function
    g = at (functions n rows len) high

    free_f : Free n (suc v) f
    unfolding f
    free_f = free_fewer n (top n rows low) (suc v) _ (omega arith) (free_at len o low held_Low)

    free_g : Free n (suc v) g
    unfolding g
    free_g = free_fewer n (top n rows high) (suc v) _ (omega arith) (free_at len o high held_High)

    free_new : Free n v (node n v f g)
    free_new = free_node n v f g known (free_fewer n (suc v) v f (omega arith) free_f) (free_fewer n (suc v) v g (omega arith) free_g)

    -- beside a function with a later variable
    not_later : (h : Function) → Free n (suc v) h → Same n (node n v f g) h → ⊥
    unfolding f g
    not_later h free s = differ (apart low high held_Low held_High (node_idle n v f g free_f free_g h free s))

    -- beside a row
    not_row : (k : ℕ) → k < len → Same n (node n v f g) (at (functions n rows len) (suc (suc k))) → ⊥
    unfolding f g
    not_row k l s =
        let r = o k l in
        let u = (row rows k).node.variable in
        let x = (row rows k).node.low in
        let y = (row rows k).node.high in
        let f' = at (functions n rows len) x in
        let g' = at (functions n rows len) y in
        let a = r.low_earlier in
        let b = r.high_earlier in
        let c = r.low_rises in
        let d = r.high_rises in
        let held_x : x < len + 2 = omega arith in
        let held_y : y < len + 2 = omega arith in
        let free_x : Free n (suc u) f' = free_fewer n (top n rows x) (suc u) f' (omega arith) (free_at len o x held_x) in
        let free_y : Free n (suc u) g' = free_fewer n (top n rows y) (suc u) g' (omega arith) (free_at len o y held_y) in
        let s' : Same n (node n v f g) (node n u f' g') = subst (λ z. Same n (node n v f g) z) (at_row n rows len k l r) s in
        elim (cases_order v u) [
          | inl same ↦ let s'' : Same n (node n v f g) (node n v f' g') = subst (λ z. Same n (node n v f g) (node n z f' g')) (sym same) s' in
              let (p, q) = node_parts n v f g free_f free_g f' g' (subst (λ z. Free n (suc z) f') (sym same) free_x) (subst (λ z. Free n (suc z) g') (sym same) free_y) s'' in
              new k l (rw (same, apart low x held_Low held_x p, apart high y held_High held_y q) refl)
          | inr other ↦ elim other [
            | inl later ↦ not_later (at (functions n rows len) (suc (suc k))) (free_fewer n u (suc v) _ (omega arith) (free_at len o (suc (suc k)) (omega arith))) s
            | inr earlier ↦ r.parts_differ (apart x y held_x held_y (node_idle n u f' g' free_x free_y (node n v f g) (free_fewer n v (suc u) (node n v f g) (omega arith) free_new) (Same_sym n (node n v f g) (node n u f' g') s')))
          ]
        ]

    pub not_held : (h : ℕ) → h < len + 2 → Same n (node n v (at (functions n rows len) low) (at (functions n rows len) high)) (at (functions n rows len) h) → ⊥
    unfolding f g
    not_held zero l s = not_later _ (free_fewer n (n + 1) (suc v) _ (omega arith) (free_at len o 0 l)) s
    not_held (suc zero) l s = not_later _ (free_fewer n (n + 1) (suc v) _ (omega arith) (free_at len o 1 l)) s
    not_held (suc (suc k)) l s = not_row k (omega arith) s

    pub new_function : has n (node n v (at (functions n rows len) low) (at (functions n rows len) high)) (functions n rows len) ≡ false
    new_function =
        elim (cases_Bool (has n (node n v (at (functions n rows len) low) (at (functions n rows len) high)) (functions n rows len))) [
          | inr out ↦ out
          | inl inside ↦ let (h, l, s) = at_has n (functions n rows len) (node n v (at (functions n rows len) low) (at (functions n rows len) high)) inside in
              let c = functions_length n rows len in
              absurd (not_held h (omega arith) (Same_sym n (at (functions n rows len) h) (node n v (at (functions n rows len) low) (at (functions n rows len) high)) s))
        ]

  first_two : (i j : ℕ) → i < 2 → j < 2 → Same n (at (never ∷ always ∷ []) i) (at (never ∷ always ∷ []) j) → i ≡ j
  first_two zero zero l m s = refl
  first_two (suc zero) (suc zero) l m s = refl
  first_two zero (suc zero) l m s = absurd (false≢true (s 0 (pow_pos (n + 1))))
  first_two (suc zero) zero l m s = absurd (true≢false (s 0 (pow_pos (n + 1))))
  first_two zero (suc (suc j)) l m s = let z : ⊥ = omega arith in absurd z
  first_two (suc zero) (suc (suc j)) l m s = let z : ⊥ = omega arith in absurd z
  first_two (suc (suc i)) j l m s = let z : ⊥ = omega arith in absurd z

  pub fewer_reduced : (len m : ℕ) → m ≤ len → Reduced n len rows → Reduced n m rows
  fewer_reduced len m l r = record { ordered = λ k q. r.ordered k (omega arith); once = λ j k p q. r.once j k p (omega arith) }

  -- the row at place k among the rows before it
  row_new : (k : ℕ) → Reduced n (suc k) rows → Apart k → (h : ℕ) → h < k + 2 → Same n (row_function n rows k (functions n rows k)) (at (functions n rows k) h) → ⊥
  row_new k r a h l s =
      let o = r.ordered k (omega arith) in
      not_held k (λ j q. r.ordered j (omega arith)) a (row rows k).node.variable (row rows k).node.low (row rows k).node.high o.known o.low_earlier o.high_earlier o.parts_differ o.low_rises o.high_rises
      (λ j q p. r.once j k q (omega arith) p) h l s

  pub canonical : (len : ℕ) → Reduced n len rows → Apart len
  canonical zero r i j l m s =
      first_two i j (omega arith) (omega arith) (subst (λ x. Same n (at x i) (at x j)) (functions_none n rows) s)
  canonical (suc k) r i j l m s =
      let a = canonical k (fewer_reduced (suc k) k (omega arith) r) in
      let last = at_last n rows k in
      elim (cases_lt i (k + 2)) [
        | inl i_before ↦ let e = at_fewer n rows k (suc k) i (omega arith) i_before in
            elim (cases_lt j (k + 2)) [
              | inl j_before ↦ let d = at_fewer n rows k (suc k) j (omega arith) j_before in
                  a i j i_before j_before (λ p q. sym (ap (λ x. x p) e) ∙ (s p q ∙ ap (λ x. x p) d))
              | inr j_last ↦ let z : j ≡ suc (suc k) = omega arith in
                  absurd (row_new k r a i i_before (λ p q. sym (ap (λ x. x p) last) ∙ (ap (λ x. at (functions n rows (suc k)) x p) (sym z) ∙ (sym (s p q) ∙ ap (λ x. x p) e))))
            ]
        | inr i_last ↦ let z : i ≡ suc (suc k) = omega arith in
            elim (cases_lt j (k + 2)) [
              | inl j_before ↦ let d = at_fewer n rows k (suc k) j (omega arith) j_before in
                  absurd (row_new k r a j j_before (λ p q. sym (ap (λ x. x p) last) ∙ (ap (λ x. at (functions n rows (suc k)) x p) (sym z) ∙ (s p q ∙ ap (λ x. x p) d))))
              | inr j_last ↦ omega arith
            ]
      ]

  pub functions_differ : (len : ℕ) → Reduced n len rows → different n (functions n rows len) ≡ true
  functions_differ len r = differ len r
    where
      differ : (len : ℕ) → Reduced n len rows → different n (functions n rows len) ≡ true
      differ zero r = subst (λ x. different n x ≡ true) (sym (functions_none n rows)) (constants_differ n)
      differ (suc k) r =
          let f = row_function n rows k (functions n rows k) in
          let o = r.ordered k (omega arith) in
          let w = fewer_reduced (suc k) k (omega arith) r in
          subst (λ x. different n x ≡ true) (sym (functions_more n rows k))
          (different_push n (functions n rows k) f (differ k w)
          (new_function k (λ j q. r.ordered j (omega arith)) (canonical k w) (row rows k).node.variable (row rows k).node.low (row rows k).node.high o.known o.low_earlier o.high_earlier o.parts_differ o.low_rises o.high_rises (λ j q p. r.once j k q (omega arith) p)))

  -- what is left of a node where its variable is set is the function of one of its two handles
  pub part_held : (len : ℕ) → ((k : ℕ) → k < len → Ordered n rows k) → (v low high : ℕ) → low < len + 2 → high < len + 2 → v < top n rows low → v < top n rows high → (b : Bool) → (cond b high low < len + 2) × (suc v ≤ top n rows (cond b high low)) × Same n (cofactor n v b (node n v (at (functions n rows len) low) (at (functions n rows len) high))) (at (functions n rows len) (cond b high low))
  part_held len o v low high x y s t true = (y, omega arith, node_high n v (at (functions n rows len) low) (at (functions n rows len) high) (free_fewer n (top n rows high) (suc v) _ (omega arith) (free_at len o high y)))
  part_held len o v low high x y s t false = (x, omega arith, node_low n v (at (functions n rows len) low) (at (functions n rows len) high) (free_fewer n (top n rows low) (suc v) _ (omega arith) (free_at len o low x)))

  row_part : (len : ℕ) → ((k : ℕ) → k < len → Ordered n rows k) → (k : ℕ) (b : Bool) (r : ℕ) → r < len → (row rows r).node.variable ≡ k → (j : ℕ) × (j < len + 2) × (suc k ≤ top n rows j) × Same n (cofactor n k b (at (functions n rows len) (suc (suc r)))) (at (functions n rows len) j)
  row_part len o k b r l e =
      let w = o r l in
      let F = functions n rows len in
      let low = (row rows r).node.low in
      let high = (row rows r).node.high in
      let x = w.low_earlier in
      let y = w.high_earlier in
      let (held, rises, same) = part_held len o k low high (omega arith) (omega arith) (rw e at w.low_rises) (rw e at w.high_rises) b in
      (cond b high low, held, rises, subst (λ f. Same n (cofactor n k b f) (at F (cond b high low))) (sym (at_row n rows len r l w ∙ ap (λ v. node n v (at F low) (at F high)) e)) same)

  -- A handle's function with its first variable set is held too.
  cofactor_held : (len : ℕ) → ((k : ℕ) → k < len → Ordered n rows k) → (k : ℕ) → k ≤ n → (b : Bool) (h : ℕ) → h < len + 2 → k ≤ top n rows h → (j : ℕ) × (j < len + 2) × (suc k ≤ top n rows j) × Same n (cofactor n k b (at (functions n rows len) h)) (at (functions n rows len) j)
  cofactor_held len o k m b h l below =
      elim (cases_lt k (top n rows h)) [
        | inl later ↦ (h, l, omega arith, cofactor_free n (top n rows h) k b (at (functions n rows len) h) (free_at len o h l) later)
        | inr here ↦ of_row h l (omega arith)
      ]
    where
      of_row : (h : ℕ) → h < len + 2 → top n rows h ≡ k → (j : ℕ) × (j < len + 2) × (suc k ≤ top n rows j) × Same n (cofactor n k b (at (functions n rows len) h)) (at (functions n rows len) j)
      of_row zero l e = let z : ⊥ = omega arith in absurd z
      of_row (suc zero) l e = let z : ⊥ = omega arith in absurd z
      of_row (suc (suc r)) l e = row_part len o k b r (omega arith) e

  -- A handle's function with the first k variables set is held, at a handle with no variable before k.
  setting_held : (len : ℕ) → ((k : ℕ) → k < len → Ordered n rows k) → (h : ℕ) → h < len + 2 → (k : ℕ) → k ≤ n + 1 → (g : Function) → has n g (settings n k (at (functions n rows len) h)) ≡ true → (i : ℕ) × (i < len + 2) × (k ≤ top n rows i) × Same n g (at (functions n rows len) i)
  setting_held len o h l zero m g e = (h, l, omega arith, setting_none n (at (functions n rows len) h) g e)
  setting_held len o h l (suc k) m g e =
      let (b, (x, s, t)) = setting_less n k (at (functions n rows len) h) g e in
      let (i, c, d, u) = setting_held len o h l k (omega arith) x s in
      let (j, p, q, w) = cofactor_held len o k (omega arith) b i c d in
      (j, p, q, Same_trans n g (cofactor n k b x) (at (functions n rows len) j) t (Same_trans n (cofactor n k b x) (cofactor n k b (at (functions n rows len) i)) (at (functions n rows len) j) (cofactor_same n k b x (at (functions n rows len) i) u) w))

  pub kept_held : (len : ℕ) → ((k : ℕ) → k < len → Ordered n rows k) → (h : ℕ) → h < len + 2 → (g : Function) → has n g (subfunctions n (at (functions n rows len) h)) ≡ true → has n g (functions n rows len) ≡ true
  kept_held len o h l g e =
      let ((k, m, s), v) = from_kept n (at (functions n rows len) h) g e in
      let (i, c, d, u) = setting_held len o h l k m g s in
      has_at n (functions n rows len) i g (omega (arith, functions_length n rows len)) (Same_sym n g (at (functions n rows len) i) u)
