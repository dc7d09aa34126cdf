-- What a sound diagram store holds, and how it comes to hold a node.
use Rattle.std.proofs.Common.{◌≡◌, ℕ, zero, suc, ◌+◌, ◌-◌, ◌<◌, ◌≤◌, true, false, List, [], ◌∷◌, ◌++◌, length, replicate, get_or, set, length-set, Some, None, Ok, sym, refl, ap, ◌∙◌, subst, inl, inr, arith}
use lib.ListN.{length-replicate}
use lib.Seq.{get_or_at}
use Rattle.std.proofs.lemmas.List.{get_or-replicate}
use Rattle.std.proofs.lemmas.Bool.{cases_lt}
use Rattle.stores.specs.Functions.{Function, never, Same}
use Rattle.stores.specs.Meaning.{Good, Lawful, Gained, Overfull, at, has}
use Rattle.stores.proofs.Sames.{Same_sym}
use Rattle.stores.proofs.Laws.{held_already, gained_new, overfull_new}
use Rattle.diagram.specs.declared.link.Link.{Link}
use Rattle.diagram.specs.declared.row.Node.{Node}
use Rattle.diagram.specs.declared.row.Row.{Row}
use Rattle.diagram.specs.Chains.{no_link, handle_of, row, chain, newest, Chained, Placed, LinkedOf}
use Rattle.diagram.specs.Rows.{node, functions, top, Ordered, SoundOf}
use Rattle.diagram.specs.Subfunctions.{subfunctions}
use Rattle.diagram.specs.Diagrams.{meaning_of, LaterOf, ExtendsOf, AppendedOf, BuildsOf}
use Rattle.diagram.proofs.Chaining.{chained_more, chained_less, set_before, set_here}
use Rattle.diagram.proofs.Nodes.{node_both}
use Rattle.diagram.proofs.Subfunctions.{keeps}
use Rattle.diagram.proofs.Rows.{row_function, functions_kept, functions_length, functions_more, functions_none, functions_grown, at_row, top_kept}
use Rattle.diagram.proofs.Canonical.{functions_differ, canonical, new_function, kept_held, fewer_reduced}

module _ {n len : ℕ} {rows : List Row} {heads : List Link} (s : SoundOf n len rows heads) where
  unfoldable pub good : Good (meaning_of n len rows)
  good =
      let (rest, e) = functions_grown n rows 0 len (omega arith) in
      let b : functions n rows len ≡ functions n rows zero ++ rest = e in
      let i = s.linked.within in
      record {
        others = rest;
        begins = b ∙ ap (λ x. x ++ rest) (functions_none n rows);
        apart = functions_differ n rows len s.reduced;
        fits = omega (arith, ap length (b ∙ ap (λ x. x ++ rest) (functions_none n rows)), functions_length n rows len);
        few = s.few;
      }

  pub others_length : length good.others ≡ len
  others_length = omega (arith, ap length good.begins, functions_length n rows len)

  pub lawful : Lawful subfunctions (meaning_of n len rows)
  lawful = record { good = good; keeps = keeps }

  -- A function that is held is yielded by doing nothing.
  pub stays : (h : ℕ) (f : Function) (v : ℕ) → h < len + 2 → Same n (at (functions n rows len) h) f → v ≤ top n rows h → BuildsOf n len rows f v (Ok h) len rows
  stays h f v l t r = (
    held_already subfunctions (meaning_of n len rows) f good (λ g e.
        kept_held n rows len s.reduced.ordered h l g (sym ((keeps n).by_points f (at (functions n rows len) h) g (Same_sym n (at (functions n rows len) h) f t)) ∙ e)),
    record { within = omega (arith, functions_length n rows len); means = t },
    r,
  )

  module _ {v low high : ℕ} (w : LaterOf n len rows v low high) where
    abbrev made : Node
    made = record { variable = v; low = low; high = high }

    pub node_equal : low ≡ high → BuildsOf n len rows (node n v (at (functions n rows len) low) (at (functions n rows len) high)) v (Ok low) len rows
    node_equal e =
        let l = w.low_later in
        stays low (node n v (at (functions n rows len) low) (at (functions n rows len) high)) v w.low_held
        (subst (λ x. Same n (at (functions n rows len) low) (node n v (at (functions n rows len) low) (at (functions n rows len) x))) e (node_both n v (at (functions n rows len) low))) (omega arith)

    pub node_found : (h : ℕ) → Placed len rows made (Some h) → BuildsOf n len rows (node n v (at (functions n rows len) low) (at (functions n rows len) high)) v (Ok h) len rows
    node_found h found =
        let (k, l, i, p) = found in
        let j : h ≡ suc (suc k) = omega arith in
        let F = functions n rows len in
        let e : at F (suc (suc k)) ≡ node n v (at F low) (at F high) = at_row n rows len k l (s.reduced.ordered k l) ∙ ap (λ x. node n x.variable (at F x.low) (at F x.high)) p in
        let t : Same n (at F (suc (suc k))) (node n v (at F low) (at F high)) = λ q m. ap (λ x. x q) e in
        let y : v ≤ top n rows (suc (suc k)) = omega (arith, ap (λ x. x.variable) p) in
        subst (λ x. BuildsOf n len rows (node n v (at F low) (at F high)) v (Ok x) len rows) (sym j) (stays (suc (suc k)) (node n v (at F low) (at F high)) v (omega arith) t y)

    module _ (differ : low ≡ high → ⊥) (none : Placed len rows made None) where
      pub node_new : has n (node n v (at (functions n rows len) low) (at (functions n rows len) high)) (functions n rows len) ≡ false
      node_new = new_function n rows len s.reduced.ordered (canonical n rows len s.reduced) v low high w.known w.low_held w.high_held differ w.low_later w.high_later none

      pub node_full : length rows ≤ len → Overfull subfunctions (meaning_of n len rows) (node n v (at (functions n rows len) low) (at (functions n rows len) high) ∷ [])
      node_full l = overfull_new subfunctions (meaning_of n len rows) (node n v (at (functions n rows len) low) (at (functions n rows len) high)) good (keeps n) node_new (omega (arith, others_length))

      module _ {rows' : List Row} (a : AppendedOf n len rows made n (len + 1) rows') where
        tops : (h : ℕ) → h < len + 2 → top n rows' h ≡ top n rows h
        tops h l = top_kept n rows rows' len h a.rows_kept l

        ordered_before : (k : ℕ) → k < len → Ordered n rows' k
        ordered_before k l =
            let o = s.reduced.ordered k l in
            let e = a.rows_kept k l in
            let x = o.low_earlier in
            let y = o.high_earlier in
            record {
              known = rw e o.known;
              low_earlier = rw e o.low_earlier;
              high_earlier = rw e o.high_earlier;
              parts_differ = rw e o.parts_differ;
              low_rises = rw e (rw (tops (row rows k).node.low (omega arith)) o.low_rises);
              high_rises = rw e (rw (tops (row rows k).node.high (omega arith)) o.high_rises);
            }

        ordered_last : Ordered n rows' len
        ordered_last =
            let p = a.row_new in
            record {
              known = rw p w.known;
              low_earlier = rw p w.low_held;
              high_earlier = rw p w.high_held;
              parts_differ = rw p differ;
              low_rises = rw p (rw (tops low w.low_held) w.low_later);
              high_rises = rw p (rw (tops high w.high_held) w.high_later);
            }

        ordered_more : (k : ℕ) → k < len + 1 → Ordered n rows' k
        ordered_more k l = elim (cases_lt k len) [ inl before ↦ ordered_before k before | inr last ↦ let e : k ≡ len = omega arith in subst (Ordered n rows') (sym e) ordered_last ]

        once_more : (j k : ℕ) → j < k → k < len + 1 → (row rows' j).node ≡ (row rows' k).node → ⊥
        once_more j k m l p =
            let d = a.rows_kept j (omega arith) in
            elim (cases_lt k len) [
              | inl before ↦ s.reduced.once j k m before (rw (d, a.rows_kept k before) at p)
              | inr last ↦ let e : k ≡ len = omega arith in
                  let q = a.row_new in
                  let p' : (row rows j).node ≡ (row rows' len).node = rw (d, e) at p in
                  none j (omega arith) (p' ∙ q)
            ]

        pub sound_more : (heads' : List Link) → LinkedOf (len + 1) rows' heads' → SoundOf n (len + 1) rows' heads'
        sound_more heads' linked = record { few = s.few; reduced = record { ordered = ordered_more; once = once_more }; linked = linked }

        pub extends_more : ExtendsOf n len rows n (len + 1) rows'
        extends_more = record { inputs_kept = refl; longer = omega arith; size_kept = a.size_kept; rows_kept = a.rows_kept }

        functions_new : functions n rows' (suc len) ≡ functions n rows len ++ node n v (at (functions n rows len) low) (at (functions n rows len) high) ∷ []
        functions_new =
            let p = a.row_new in
            functions_more n rows' len
            ∙ (ap (λ x. x ++ row_function n rows' len x ∷ []) (functions_kept n rows rows' len a.rows_kept)
            ∙ ap (λ x. functions n rows len ++ x ∷ []) (ap (λ x. node n x.variable (at (functions n rows len) x.low) (at (functions n rows len) x.high)) p))

        functions_one : functions n rows' (len + 1) ≡ functions n rows len ++ node n v (at (functions n rows len) low) (at (functions n rows len) high) ∷ []
        functions_one = let one : len + 1 ≡ suc len = omega arith in ap (functions n rows') one ∙ functions_new

        at_new : at (functions n rows' (len + 1)) (len + 1 + 1) ≡ node n v (at (functions n rows len) low) (at (functions n rows len) high)
        at_new =
            ap (λ x. at x (len + 1 + 1)) functions_one ∙ get_or_at (functions n rows len) (node n v (at (functions n rows len) low) (at (functions n rows len) high)) [] never (len + 1 + 1) (omega (arith, functions_length n rows len))

        meaning_new : meaning_of n (len + 1) rows' ≡ record { inputs = n; most = 12; places = length rows; held = functions n rows len ++ node n v (at (functions n rows len) low) (at (functions n rows len) high) ∷ [] }
        meaning_new = cc (a.size_kept, functions_one)

        kept_new : (g : Function) → has n g (subfunctions n (node n v (at (functions n rows len) low) (at (functions n rows len) high))) ≡ true → has n g (functions n rows len ++ node n v (at (functions n rows len) low) (at (functions n rows len) high) ∷ []) ≡ true
        kept_new g e =
            subst (λ x. has n g x ≡ true) functions_one (kept_held n rows' (len + 1) ordered_more (len + 1 + 1) (omega arith) g (subst (λ x. has n g (subfunctions n x) ≡ true) (sym at_new) e))

        pub built : len < length rows → BuildsOf n len rows (node n v (at (functions n rows len) low) (at (functions n rows len) high)) v (Ok (len + 1 + 1)) (len + 1) rows'
        built room = (
          subst (λ x. Gained subfunctions (meaning_of n len rows) (node n v (at (functions n rows len) low) (at (functions n rows len) high) ∷ []) x) (sym meaning_new)
              (gained_new subfunctions (meaning_of n len rows) (node n v (at (functions n rows len) low) (at (functions n rows len) high)) good (keeps n) node_new (omega (arith, others_length)) kept_new),
          record { within = omega (arith, functions_length n rows' (len + 1)); means = λ p q. ap (λ x. x p) at_new },
          (let i : len + 1 + 1 ≡ suc (suc len) = omega arith in subst (λ x. v ≤ top n rows' x) (sym i) (omega (arith, ap (λ x. x.variable) a.row_new))),
        )

      -- the same for a store whose fields are known by what `append` leaves
      pub node_appended : {n' len' : ℕ} {rows' : List Row} → AppendedOf n len rows made n' len' rows' → len < length rows → ExtendsOf n len rows n' len' rows' × BuildsOf n len rows (node n v (at (functions n rows len) low) (at (functions n rows len) high)) v (Ok (len' + 1)) len' rows'
      node_appended {n'} {len'} {rows'} a room =
          subst (λ y. AppendedOf n len rows made n' y rows' → ExtendsOf n len rows n' y rows' × BuildsOf n len rows (node n v (at (functions n rows len) low) (at (functions n rows len) high)) v (Ok (y + 1)) y rows') (sym a.one_more)
          (λ b. subst (λ x. AppendedOf n len rows made x (len + 1) rows' → ExtendsOf n len rows x (len + 1) rows' × BuildsOf n len rows (node n v (at (functions n rows len) low) (at (functions n rows len) high)) v (Ok (len + 1 + 1)) (len + 1) rows') (sym a.inputs_kept)
          (λ d. (extends_more d, built d room)) b) a

      -- the new row at the head of its chain b
      module _ (room : len < length rows) {b : ℕ} (e : b ≡ chain made) (few : b < 1024) where
        abbrev new_row : Row
        new_row = record { node = made; next = get_or heads b no_link }

        linked : new_row.next ≡ get_or heads (chain made) no_link
        linked = ap (λ x. get_or heads x no_link) e

        in_chain : chain made < 1024
        in_chain = subst (λ x. x < 1024) e few

        pub row_appended : AppendedOf n len rows made n (len + 1) (set rows len new_row)
        row_appended =
            let here = set_here new_row s.linked.chained room linked in_chain in
            record {
              inputs_kept = refl;
              one_more = refl;
              size_kept = length-set rows len new_row;
              rows_kept = set_before new_row s.linked.chained room linked in_chain;
              row_new = ap (λ x. x.node) here;
            }

        pub row_sound : (l : Link) → handle_of l ≡ Some (len + 2) → SoundOf n (len + 1) (set rows len new_row) (set heads b l)
        row_sound l leads =
            let size = length-set rows len new_row in
            sound_more row_appended (set heads b l) (record {
              within = omega arith;
              bounded = omega (arith, s.linked.bounded);
              chained = subst (λ x. Chained (len + 1) (set rows len new_row) (set heads x l)) (sym e) (chained_more new_row s.linked.chained room linked in_chain l leads);
            })

-- a store without its newest row, which was taken off the head of its chain b
pub less_sound : {n len b : ℕ} {rows : List Row} {heads : List Link} → SoundOf n len rows heads → 0 < len → b ≡ chain (row rows (len - 1)).node → b < 1024 → SoundOf n (len - 1) rows (set heads b (row rows (len - 1)).next)
less_sound {n} {len} {b} {rows} {heads} s some e few =
    let k = len - 1 in
    let z : len ≡ suc k = omega arith in
    record {
      few = s.few;
      reduced = fewer_reduced n rows len k (omega arith) s.reduced;
      linked = record {
        within = omega (arith, s.linked.within);
        bounded = s.linked.bounded;
        chained = subst (λ x. Chained k rows (set heads x (row rows k).next)) (sym e) (chained_less (subst (λ x. Chained x rows heads) z s.linked.chained) (subst (λ x. x < 1024) e few));
      };
    }

-- a store before its first start, or after a start
pub new_sound : (n : ℕ) (rows : List Row) → n ≤ 12 → length rows ≤ 4096 → SoundOf n 0 rows (replicate 1024 no_link)
unfolding newest
new_sound n rows few bounded = record {
  few = few;
  reduced = record { ordered = λ k l. let z : ⊥ = omega arith in absurd z; once = λ j k i l. let z : ⊥ = omega arith in absurd z };
  linked = record {
    within = omega arith;
    bounded = bounded;
    chained = record { many = length-replicate {A = Link} 1024 no_link; starts = λ b l. ap handle_of (get_or-replicate 1024 b no_link no_link l); links = λ k l. let z : ⊥ = omega arith in absurd z };
  };
}
