-- How chains are followed, lengthened and shortened.
use Rattle.std.proofs.Common.{◌≡◌, ℕ, zero, suc, ◌+◌, ◌-◌, ◌<◌, ◌≤◌, true, ◌&&◌, eqb, ◌≢◌, ◌⊎◌, List, length, get_or, set, Some, None, Option, sym, refl, ap, ◌∙◌, subst, inl, inr, add-one, arith, length-set, get_or-set_other, get_or-set_same}
use Rattle.std.proofs.lemmas.Bool.{cases_Bool, cases_lt, cases_eq, eqb-true, eqb-false, eq-eqb, ne_eqb}
use Rattle.diagram.specs.declared.link.Link.{Link}
use Rattle.diagram.specs.declared.row.Node.{Node}
use Rattle.diagram.specs.declared.row.Row.{Row}
use Rattle.diagram.specs.Chains.{no_link, handle_of, row, chain, newest, Chained, Placed}

-- Rows that agree have the same newest row.
pub newest_kept : (rows rows' : List Row) (b k : ℕ) → ((j : ℕ) → j < k → row rows' j ≡ row rows j) → newest rows' b k ≡ newest rows b k
unfolding newest
newest_kept rows rows' b zero same = refl
newest_kept rows rows' b (suc k) same = rw (same k (omega arith), newest_kept rows rows' b k (λ j l. same j (omega arith)))

pub newest_is : (rows : List Row) (b k : ℕ) → (newest rows b k ≡ None) ⊎ ((j : ℕ) × (j < k) × (newest rows b k ≡ Some (j + 2)) × (chain (row rows j).node ≡ b))
unfolding newest
newest_is rows b zero = inl refl
newest_is rows b (suc k) =
    elim (cases_Bool (eqb (chain (row rows k).node) b)) [
      | inl t ↦ inr (k, omega arith, rw t refl, eqb-true _ _ t)
      | inr f ↦ rw f (elim (newest_is rows b k) [ inl z ↦ inl z | inr y ↦ let (j, l, e, c) = y in inr (j, omega arith, e, c) ])
    ]

-- the handle of a link, or 0 at a chain's end
abbrev pub reach : Option ℕ → ℕ
reach None = 0
reach (Some h) = h

-- No row behind the newest one is in the chain.
pub newest_none : (rows : List Row) (b k j : ℕ) → j < k → reach (newest rows b k) < j + 2 → chain (row rows j).node ≡ b → ⊥
unfolding newest
newest_none rows b zero j l m e = omega arith
newest_none rows b (suc k) j l m e =
    elim (cases_Bool (eqb (chain (row rows k).node) b)) [
      | inl t ↦ let m' : k + 2 < j + 2 = rw t at m in omega arith
      | inr f ↦ let m' : reach (newest rows b k) < j + 2 = rw f at m in
          elim (cases_lt j k) [
            | inl lower ↦ newest_none rows b k j lower m' e
            | inr upper ↦ let same : j ≡ k = omega arith in eqb-false _ _ f (subst (λ x. chain (row rows x).node ≡ b) same e)
          ]
    ]

pub newest_here : (rows : List Row) (k : ℕ) → newest rows (chain (row rows k).node) (suc k) ≡ Some (k + 2)
unfolding newest
newest_here rows k = rw (eq-eqb (chain (row rows k).node) (chain (row rows k).node) refl) refl

pub newest_there : (rows : List Row) (b k : ℕ) → (chain (row rows k).node ≡ b → ⊥) → newest rows b (suc k) ≡ newest rows b k
unfolding newest
newest_there rows b k ne = rw (ne_eqb (chain (row rows k).node) b ne) refl

-- A node is told to be equal to itself.
pub node_itself : (m : Node) → (eqb m.variable m.variable && (eqb m.low m.low && eqb m.high m.high)) ≡ true
node_itself m = rw (eq-eqb m.variable m.variable refl, eq-eqb m.low m.low refl, eq-eqb m.high m.high refl) refl

-- A walk along the chain of a row with this node: no row from `upto` on has it.
pub record Walk (len : ℕ) (rows : List Row) (m : Node) (link : Option ℕ) : Type 0 where
  pub upto : ℕ
  pub within : upto ≤ len
  pub here : link ≡ newest rows (chain m) upto
  pub passed : (k : ℕ) → upto ≤ k → k < len → (row rows k).node ≡ m → ⊥

module _ {len : ℕ} {rows : List Row} {m : Node} where
  -- where a walk is, unless it has ended
  pub walk_at : {link : Option ℕ} {h : ℕ} (w : Walk len rows m link) → link ≡ Some h → (j : ℕ) × (j < w.upto) × (h ≡ j + 2) × (chain (row rows j).node ≡ chain m)
  walk_at {link} {h} w i =
      elim (newest_is rows (chain m) w.upto) [
        | inl z ↦ let e : Some h ≡ None = sym i ∙ (w.here ∙ z) in absurd (let bad : ⊥ = cc in bad)
        | inr y ↦ let (j, l, e, c) = y in
            let f : Some h ≡ Some (j + 2) = sym i ∙ (w.here ∙ e) in
            (j, l, (cc), c)
      ]

  pub walk_two : {link : Option ℕ} {h : ℕ} → Walk len rows m link → link ≡ Some h → 2 ≤ h
  walk_two w i = let (j, l, e, c) = walk_at w i in omega arith

  pub walk_below : {link : Option ℕ} {h : ℕ} → Walk len rows m link → link ≡ Some h → h - 2 < len
  walk_below w i = let (j, l, e, c) = walk_at w i in let b = w.within in omega arith

  pub walk_found : {link : Option ℕ} {h : ℕ} → Walk len rows m link → link ≡ Some h → (row rows (h - 2)).node ≡ m → Placed len rows m (Some h)
  walk_found {link} {h} w i p =
      let (j, l, e, c) = walk_at w i in
      let b = w.within in
      (h - 2, omega arith, omega arith, p)

  -- one link on
  pub walk_on : {heads : List Link} {link : Option ℕ} {h : ℕ} → Chained len rows heads → Walk len rows m link → link ≡ Some h → ((row rows (h - 2)).node ≡ m → ⊥) → Walk len rows m (handle_of (row rows (h - 2)).next)
  walk_on {heads} {link} {h} ch w g other =
      let (j, l, e, c) = walk_at w g in
      let b = w.within in
      let i : h - 2 ≡ j = omega arith in
      record {
        upto = j;
        within = omega arith;
        here = rw i (ch.links j (omega arith) ∙ ap (λ x. newest rows x j) c);
        passed = λ k a q p. elim (cases_lt k w.upto) [
          | inr late ↦ w.passed k late q p
          | inl early ↦ elim (cases_eq k j) [
            | inl same ↦ other (subst (λ x. (row rows x).node ≡ m) (same ∙ sym i) p)
            | inr apart ↦ newest_none rows (chain m) w.upto k early (let here = ap reach w.here in let at = ap reach g in omega arith) (ap chain p)
          ]
        ];
      }

  pub walk_falls : {heads : List Link} {link : Option ℕ} {h : ℕ} → Chained len rows heads → Walk len rows m link → link ≡ Some h → reach (handle_of (row rows (h - 2)).next) < reach link
  walk_falls {heads} {link} {h} ch w g =
      let (j, l, e, c) = walk_at w g in
      let b = w.within in
      let i : h - 2 ≡ j = omega arith in
      let k = ch.links j (omega arith) in
      let r : reach link ≡ h = ap reach g in
      rw i (elim (newest_is rows (chain (row rows j).node) j) [
        | inl z ↦ let n : reach (handle_of (row rows j).next) ≡ 0 = ap reach (k ∙ z) in omega arith
        | inr y ↦ let (x, l', d, f) = y in
            let n : reach (handle_of (row rows j).next) ≡ x + 2 = ap reach (k ∙ d) in
            omega arith
      ])

  pub walk_ends : {link : Option ℕ} → Walk len rows m link → link ≡ None → Placed len rows m None
  walk_ends w z k l p =
      elim (cases_lt k w.upto) [
        | inr late ↦ w.passed k late l p
        | inl early ↦ newest_none rows (chain m) w.upto k early (let here = ap reach w.here in let end = ap reach z in omega arith) (ap chain p)
      ]

-- a row behind the others, at the head of its chain
module _ {len : ℕ} {rows : List Row} {heads : List Link} (r : Row) (c : Chained len rows heads) (room : len < length rows) (linked : r.next ≡ get_or heads (chain r.node) no_link) (few : chain r.node < 1024) where
  pub set_before : (k : ℕ) → k < len → row (set rows len r) k ≡ row rows k
  set_before k l = let ne : k ≢ len = omega arith in rw get_or-set_other

  pub set_here : row (set rows len r) len ≡ r
  set_here = rw get_or-set_same

  starts_more : (l : Link) → handle_of l ≡ Some (len + 2) → (b : ℕ) → b < 1024 → handle_of (get_or (set heads (chain r.node) l) b no_link) ≡ newest (set rows len r) b (suc len)
  starts_more l leads b below =
      elim (cases_eq b (chain r.node)) [
        | inl same ↦ let m = c.many in
            let fit : chain r.node < length heads = omega arith in
            rw (same, get_or-set_same) (leads ∙ sym (subst (λ x. newest (set rows len r) (chain x.node) (suc len) ≡ Some (len + 2)) set_here (newest_here (set rows len r) len)))
        | inr apart ↦ let ne : b ≢ chain r.node = apart in
            rw get_or-set_other (c.starts b below ∙ (sym (newest_kept rows (set rows len r) b len set_before) ∙ sym (newest_there (set rows len r) b len (λ e. apart (sym e ∙ ap (λ x. chain x.node) set_here)))))
      ]

  links_more : (k : ℕ) → k < suc len → handle_of (row (set rows len r) k).next ≡ newest (set rows len r) (chain (row (set rows len r) k).node) k
  links_more k below =
      elim (cases_lt k len) [
        | inl before ↦ rw (set_before k before, newest_kept rows (set rows len r) (chain (row rows k).node) k (λ j m. set_before j (omega arith))) (c.links k before)
        | inr last ↦ let e : k ≡ len = omega arith in
            rw (e, set_here, newest_kept rows (set rows len r) (chain r.node) len set_before) (ap handle_of linked ∙ c.starts (chain r.node) few)
      ]

  pub chained_more : (l : Link) → handle_of l ≡ Some (len + 2) → Chained (len + 1) (set rows len r) (set heads (chain r.node) l)
  chained_more l leads = rw add-one (record { many = length-set heads (chain r.node) l ∙ c.many; starts = starts_more l leads; links = links_more })

-- the newest row taken off the head of its chain
pub chained_less : {k : ℕ} {rows : List Row} {heads : List Link} → Chained (suc k) rows heads → chain (row rows k).node < 1024 → Chained k rows (set heads (chain (row rows k).node) (row rows k).next)
chained_less {k} {rows} {heads} c few = record {
  many = length-set heads _ _ ∙ c.many;
  links = λ j l. c.links j (omega arith);
  starts = λ b l. elim (cases_eq b (chain (row rows k).node)) [
    | inl same ↦ let m = c.many in
        let fit : chain (row rows k).node < length heads = omega arith in
        rw (same, get_or-set_same) (c.links k (omega arith))
    | inr apart ↦ let ne : b ≢ chain (row rows k).node = apart in
        rw get_or-set_other (c.starts b l ∙ newest_there rows b k (λ e. apart (sym e)))
  ];
}
