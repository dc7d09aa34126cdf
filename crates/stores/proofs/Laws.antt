-- How yields follow one another: what a client of a store composes.
use Rattle.std.proofs.Common.{◌≡◌, ℕ, suc, ◌-◌, ◌<◌, ◌≤◌, true, false, List, [], ◌∷◌, ◌++◌, length, take, drop, IsErrAnd, Ok, Err, Result, sym, refl, ap, ◌∙◌, subst, inl, inr, append_assoc, append-nil, arith, length-append, take-append-drop, length-take}
use Rattle.std.proofs.lemmas.List.{take-append-le, get_or_append_left, take_all}
use Rattle.stores.specs.declared.fault.StoreFault.{StoreFault}
use Rattle.stores.specs.declared.fault.StoreFault.TheVariants.{Inputs, Places, Bounds}
use Rattle.std.specs.List.{AllZip}
use Rattle.std.proofs.lemmas.Bool.{both_ways, or_cases, or_left, or_right, or_from, or_parts}
use Rattle.stores.specs.Functions.{Function, never, always, Same, same, constant, joined}
use Rattle.stores.specs.declared.operation.Operation.{Operation}
use Rattle.stores.specs.Meaning.{Meaning, Rule, Keeps, Good, Grown, Gained, Overfull, Stands, has, different, count, kept, at, cut, Yields, Makes, Joins, Releases}
use Rattle.stores.proofs.Sames.{same_tells, has_same, has_append, both_same, place_of, different_front, different_push}
use Rattle.stores.proofs.Counts.{count_le, count_same, count_held, count_push, count_new}

kept_append : (rule : Rule) (n : ℕ) (fs gs : List Function) → kept rule n (fs ++ gs) ≡ kept rule n fs ++ kept rule n gs
unfolding kept
kept_append rule n [] gs = refl
kept_append rule n (f ∷ fs) gs = rw (kept_append rule n fs gs) (sym (append_assoc (rule n f) (kept rule n fs) (kept rule n gs)))

-- what is held after fs and then gs is what is held after fs ++ gs
has_after : (rule : Rule) (n : ℕ) (L M fs gs : List Function) (g : Function) → has n g M ≡ has n g (L ++ kept rule n fs) → has n g (M ++ kept rule n gs) ≡ has n g (L ++ kept rule n (fs ++ gs))
has_after rule n L M fs gs g e =
    rw (kept_append rule n fs gs, has_append n g M (kept rule n gs), e, ← has_append n g (L ++ kept rule n fs) (kept rule n gs), append_assoc L (kept rule n fs) (kept rule n gs))

pub grown_none : (m : Meaning) → Grown m m
grown_none m = record { inputs_kept = refl; most_kept = refl; places_kept = refl; added = []; longer = sym (append-nil m.held) }

pub grown_then : (m m' m'' : Meaning) → Grown m m' → Grown m' m'' → Grown m m''
grown_then m m' m'' a b =
    record { inputs_kept = b.inputs_kept ∙ a.inputs_kept; most_kept = b.most_kept ∙ a.most_kept; places_kept = b.places_kept ∙ a.places_kept; added = a.added ++ b.added; longer = b.longer ∙ (ap (λ x. x ++ b.added) a.longer ∙ append_assoc m.held a.added b.added) }

-- Nothing is yielded by no call.
pub gained_none : (rule : Rule) (m : Meaning) → Good m → Gained rule m [] m
unfolding kept
gained_none rule m good =
    let d : different m.inputs (never ∷ always ∷ good.others) ≡ true = rw good.begins at good.apart in
    let c = ap (count m.inputs) good.begins ∙ count_held m.inputs good.others d in
    let f = good.fits in
    record { grown = grown_none m; content = λ g. rw append-nil; apart = good.apart; fits = omega arith }

-- fs yielded, and then gs
pub gained_then : (rule : Rule) (m m' m'' : Meaning) (fs gs : List Function) → Gained rule m fs m' → Gained rule m' gs m'' → Gained rule m (fs ++ gs) m''
gained_then rule m m' m'' fs gs a b =
    let n = a.grown.inputs_kept in
    let content : (g : Function) → has m.inputs g m''.held ≡ has m.inputs g (m'.held ++ kept rule m.inputs gs) = rw n at b.content in
    record { grown = grown_then m m' m'' a.grown b.grown; content = λ g. content g ∙ has_after rule m.inputs m.held m'.held fs gs g (a.content g); apart = rw n at b.apart; fits = rw (n, a.grown.places_kept) at b.fits }

-- a refusal after fs were yielded
pub overfull_then : (rule : Rule) (m m' : Meaning) (fs gs : List Function) → Gained rule m fs m' → Overfull rule m' gs → Overfull rule m (fs ++ gs)
unfolding Overfull
overfull_then rule m m' fs gs a o =
    let o' : m.places < count m.inputs (m'.held ++ kept rule m.inputs gs) = rw (a.grown.inputs_kept, a.grown.places_kept) at o in
    let e = count_same m.inputs (m'.held ++ kept rule m.inputs gs) (m.held ++ kept rule m.inputs (fs ++ gs)) (λ g. has_after rule m.inputs m.held m'.held fs gs g (a.content g)) in
    omega arith

-- What does not fit for fs does not fit for more.
pub overfull_more : (rule : Rule) (m : Meaning) (fs gs : List Function) → Overfull rule m fs → Overfull rule m (fs ++ gs)
unfolding Overfull
overfull_more rule m fs gs o =
    let n = m.inputs in
    let l = count_le n (m.held ++ kept rule n fs) (m.held ++ kept rule n (fs ++ gs)) (λ h e.
    rw (kept_append rule n fs gs, ← append_assoc m.held (kept rule n fs) (kept rule n gs), has_append n h (m.held ++ kept rule n fs) (kept rule n gs)) (or_left _ _ e)) in
    omega arith

-- What was yielded did fit.
pub gained_fits : (rule : Rule) (m m' : Meaning) (fs : List Function) → Gained rule m fs m' → Overfull rule m fs → ⊥
unfolding Overfull
gained_fits rule m m' fs a o =
    let e = count_same m.inputs m'.held (m.held ++ kept rule m.inputs fs) a.content in
    let f = a.fits in
    omega arith

-- What is kept for functions that agree is the same.
has_kept : (rule : Rule) (n : ℕ) (h : Function) (fs gs : List Function) → Keeps rule n → AllZip (Same n) fs gs → has n h (kept rule n fs) ≡ has n h (kept rule n gs)
unfolding kept
has_kept rule n h [] [] k e = refl
has_kept rule n h [] (g ∷ gs) k e = elim e [ ]
has_kept rule n h (f ∷ fs) [] k e = elim e [ ]
has_kept rule n h (f ∷ fs) (g ∷ gs) k e =
    rw (has_append n h (rule n f) (kept rule n fs), has_append n h (rule n g) (kept rule n gs), k.by_points f g h e.0, has_kept rule n h fs gs k e.1)

has_with : (rule : Rule) (n : ℕ) (h : Function) (L fs gs : List Function) → Keeps rule n → AllZip (Same n) fs gs → has n h (L ++ kept rule n fs) ≡ has n h (L ++ kept rule n gs)
has_with rule n h L fs gs k e = rw (has_append n h L (kept rule n fs), has_append n h L (kept rule n gs), has_kept rule n h fs gs k e)

-- To yield functions is to yield others that agree with them.
pub gained_same : (rule : Rule) (m m' : Meaning) (fs gs : List Function) → Keeps rule m.inputs → AllZip (Same m.inputs) fs gs → Gained rule m fs m' → Gained rule m gs m'
gained_same rule m m' fs gs k e a =
    record { grown = a.grown; content = λ h. a.content h ∙ has_with rule m.inputs h m.held fs gs k e; apart = a.apart; fits = a.fits }

pub overfull_same : (rule : Rule) (m : Meaning) (fs gs : List Function) → Keeps rule m.inputs → AllZip (Same m.inputs) fs gs → Overfull rule m fs → Overfull rule m gs
unfolding Overfull
overfull_same rule m fs gs k e o =
    let c = count_same m.inputs (m.held ++ kept rule m.inputs fs) (m.held ++ kept rule m.inputs gs) (λ h. has_with rule m.inputs h m.held fs gs k e) in
    omega arith

-- A handle stands for its function while the list grows.
pub stands_grown : (m m' : Meaning) (h : ℕ) (f : Function) → Grown m m' → Stands m h f → Stands m' h f
stands_grown m m' h f g s =
    let l : h < length m.held = s.within in
    let same : at m'.held h ≡ at m.held h = ap (λ x. at x h) g.longer ∙ get_or_append_left m.held g.added never h l in
    let n = g.inputs_kept in
    record { within = omega (arith, simp length-append at (ap length g.longer)); means = rw (n, same) s.means }

pub stands_held : (m : Meaning) (h : ℕ) → h < length m.held → Stands m h (at m.held h)
stands_held m h l = record { within = l; means = λ p q. refl }

-- A list that has grown and is cut again is as it was.
pub cut_grown : (m m' : Meaning) → Grown m m' → cut m' (length m.held) ≡ m
cut_grown m m' g =
    let L = m.held in
    let t : take (length L) m'.held ≡ L = ap (take (length L)) g.longer ∙ (take-append-le (length L) L g.added (omega arith) ∙ take_all (length L) L (omega arith)) in
    let i = g.inputs_kept in
    let o = g.most_kept in
    let p = g.places_kept in
    rw (i, o, p, t)

pub grown_longer : (m m' : Meaning) → Grown m m' → length m.held ≤ length m'.held
grown_longer m m' g = omega (arith, simp length-append at (ap length g.longer))

pub held_two : (m : Meaning) → Good m → 2 ≤ length m.held
held_two m g = omega (arith, ap length g.begins)

-- whatever a call answers, the list has at most grown
pub yields_grown : (rule : Rule) (m m' : Meaning) (P : Type 0) (fs : List Function) (f : Function) (r : Result ℕ StoreFault) → Yields rule m P fs f r m' → Grown m m'
yields_grown rule m m' P fs f (Ok h) y = y.1.grown
yields_grown rule m m' P fs f (Err Inputs) y = absurd y
yields_grown rule m m' P fs f (Err Places) y = rw y.2 (grown_none m)
yields_grown rule m m' P fs f (Err Bounds) y = rw y.1 (grown_none m)

-- One more call after fs were yielded: it may be held to yield any function g' that agrees with the one that it speaks of.
pub makes_next : (rule : Rule) (m m' m'' : Meaning) (P : Type 0) (fs : List Function) (g g' : Function) (r : Result ℕ StoreFault) → Keeps rule m.inputs → Gained rule m fs m' → P → Same m.inputs g g' → Yields rule m' P (g ∷ []) g r m'' → Makes rule m (fs ++ g' ∷ []) g' r m''
makes_next rule m m' m'' P fs g g' r k a p s y = go r y
  where
    n : m'.inputs ≡ m.inputs
    n = a.grown.inputs_kept

    k' : Keeps rule m'.inputs
    k' = rw n k

    s' : Same m'.inputs g g'
    s' = rw n s

    go : (r : Result ℕ StoreFault) → Yields rule m' P (g ∷ []) g r m'' → Makes rule m (fs ++ g' ∷ []) g' r m''
    go (Ok h) y =
        let b = gained_same rule m' m'' (g ∷ []) (g' ∷ []) k' (s', tt) y.1 in (
          gained_then rule m m' m'' fs (g' ∷ []) a b,
          record { within = y.2.within; means = let i = b.grown.inputs_kept in let z : Same m''.inputs g g' = rw i s' in λ q l. y.2.means q l ∙ z q l },
        )
    go (Err Inputs) y = y
    go (Err Places) y =
        (overfull_then rule m m' fs (g' ∷ []) a (overfull_same rule m' (g ∷ []) (g' ∷ []) k' (s', tt) y.1), rw y.2 a.grown)
    go (Err Bounds) y = absurd (y.0 p)

-- A refusal on the way refuses the whole.
pub makes_refused : (rule : Rule) (m m' : Meaning) (fs gs : List Function) (f g : Function) (e : StoreFault) → Makes rule m fs f (Err e) m' → Makes rule m (fs ++ gs) g (Err e) m'
makes_refused rule m m' fs gs f g Inputs y = y
makes_refused rule m m' fs gs f g Places y = (overfull_more rule m fs gs y.0, y.1)
makes_refused rule m m' fs gs f g Bounds y = y

-- The exit of a `?` returns the fault that came.
pub makes_exit : (rule : Rule) (m m' : Meaning) (fs : List Function) (f : Function) (r : Result ℕ StoreFault) (e : StoreFault) → IsErrAnd r (λ y. y ≡ e) → Makes rule m fs f (Err e) m' → Makes rule m fs f r m'
makes_exit rule m m' fs f (Ok h) e b y = absurd b
makes_exit rule m m' fs f (Err d) e b y = rw b y

pub joined_same : (n : ℕ) (op : Operation) (f f' g g' : Function) → Same n f f' → Same n g g' → Same n (joined op f g) (joined op f' g')
unfolding joined
joined_same n op f f' g g' s t p l = rw (s p l, t p l)

-- a join of handles that stand for f and g, after fs were yielded
pub join_next : (rule : Rule) (m m' m'' : Meaning) (op : Operation) (fs : List Function) (i j : ℕ) (f g : Function) (r : Result ℕ StoreFault) → Keeps rule m.inputs → Gained rule m fs m' → Stands m' i f → Stands m' j g → Joins rule m' op i j r m'' → Makes rule m (fs ++ joined op f g ∷ []) (joined op f g) r m''
join_next rule m m' m'' op fs i j f g r k a s t y =
    let n = a.grown.inputs_kept in
    makes_next rule m m' m'' _ fs (joined op (at m'.held i) (at m'.held j)) (joined op f g) r k a (s.within, t.within)
    (joined_same m.inputs op (at m'.held i) f (at m'.held j) g (rw n at s.means) (rw n at t.means)) y

-- what a client's own run made, after a release that a refusal brings
pub yields_from_made : (rule : Rule) (m m' : Meaning) (P : Type 0) (fs : List Function) (f : Function) (h : ℕ) → P → Makes rule m fs f (Ok h) m' → Yields rule m P fs f (Ok h) m'
yields_from_made rule m m' P fs f h p y = (p, y.0, y.1)

pub yields_from_refused : (rule : Rule) (m m' m'' : Meaning) (P : Type 0) (fs : List Function) (f : Function) (e : StoreFault) (r : Result Unit StoreFault) → P → Good m → Makes rule m fs f (Err e) m' → Releases m' (length m.held) r m'' → Yields rule m P fs f (Err e) m''
yields_from_refused rule m m' m'' P fs f Inputs r p g y z = y
yields_from_refused rule m m' m'' P fs f Bounds r p g y z = absurd y
yields_from_refused rule m m' m'' P fs f Places (Ok _) p g y z = (p, y.0, z.2 ∙ cut_grown m m' y.1)
yields_from_refused rule m m' m'' P fs f Places (Err Inputs) p g y z = absurd z
yields_from_refused rule m m' m'' P fs f Places (Err Places) p g y z = absurd z
yields_from_refused rule m m' m'' P fs f Places (Err Bounds) p g y z = absurd (z.0 (held_two m g, grown_longer m m' y.1))

-- A store stays good, whatever is yielded, released or started.
pub good_gained : (rule : Rule) (m m' : Meaning) (fs : List Function) → Good m → Gained rule m fs m' → Good m'
good_gained rule m m' fs g a =
    let n = a.grown.inputs_kept in
    let b : m'.held ≡ never ∷ always ∷ (g.others ++ a.grown.added) = a.grown.longer ∙ ap (λ x. x ++ a.grown.added) g.begins in
    let d : different m.inputs (never ∷ always ∷ (g.others ++ a.grown.added)) ≡ true = rw b at a.apart in
    let k = ap (count m.inputs) b ∙ count_held m.inputs (g.others ++ a.grown.added) d in
    let w = g.few in
    record { others = g.others ++ a.grown.added; begins = b; apart = rw n a.apart; fits = omega (arith, a.fits, a.grown.places_kept); few = omega (arith, n, a.grown.most_kept) }

pub good_cut : (m : Meaning) (k : ℕ) → Good m → 2 ≤ k → Good (cut m k)
good_cut m k g l =
    let i : k ≡ suc (suc (k - 2)) = omega arith in
    let L = m.held in
    let b : take k L ≡ never ∷ always ∷ take (k - 2) g.others = ap (λ x. take x L) i ∙ ap (take (suc (suc (k - 2)))) g.begins in
    let f = g.fits in
    record {
      others = take (k - 2) g.others;
      begins = b;
      apart = different_front m.inputs (take k L) (drop k L) (subst (λ x. different m.inputs x ≡ true) (sym (take-append-drop k L)) g.apart);
      fits = omega (arith, length-take (k - 2) g.others);
      few = g.few;
    }

-- Two handles of one function are one.
pub stands_once : (m : Meaning) (h i : ℕ) (f : Function) → Good m → Stands m h f → Stands m i f → h ≡ i
stands_once m h i f g s t = place_of m.inputs m.held h i g.apart s.within t.within (λ p l. s.means p l ∙ sym (t.means p l))

-- The first two handles are those of false and true.
pub stands_never : (m : Meaning) → Good m → Stands m 0 never
stands_never m g = let t = held_two m g in record { within = omega arith; means = λ p l. ap (λ x. at x 0 p) g.begins }

pub stands_always : (m : Meaning) → Good m → Stands m 1 always
stands_always m g = let t = held_two m g in record { within = omega arith; means = λ p l. ap (λ x. at x 1 p) g.begins }

-- a list of one
in_one : (n : ℕ) (f g : Function) → has n g (f ∷ []) ≡ true → Same n g f
unfolding has
in_one n f g e = elim (or_cases (same n g f) false e) [ inl t ↦ (same_tells n g f).0 t | inr z ↦ absurd (both_ways false refl z) ]

pub kept_one : (rule : Rule) (n : ℕ) (f g : Function) → has n g (kept rule n (f ∷ [])) ≡ has n g (rule n f)
unfolding kept
kept_one rule n f g = ap (has n g) (append-nil (rule n f))

-- A function is yielded by doing nothing where all that is kept for it is held.
pub held_already : (rule : Rule) (m : Meaning) (f : Function) → Good m → ((g : Function) → has m.inputs g (rule m.inputs f) ≡ true → has m.inputs g m.held ≡ true) → Gained rule m (f ∷ []) m
held_already rule m f good all =
    let z = gained_none rule m good in
    let n = m.inputs in
    record {
      grown = grown_none m;
      apart = z.apart;
      fits = z.fits;
      content = λ g.
          both_same _ _
          (λ t. has_append n g m.held (kept rule n (f ∷ [])) ∙ or_left _ _ t)
          (λ t. elim (or_cases (has n g m.held) (has n g (kept rule n (f ∷ []))) (sym (has_append n g m.held (kept rule n (f ∷ []))) ∙ t)) [
            | inl x ↦ x
            | inr y ↦ all g (sym (kept_one rule n f g) ∙ y)
          ]);
    }

pub at_grown : (m m' : Meaning) (h : ℕ) → Grown m m' → h < length m.held → at m'.held h ≡ at m.held h
at_grown m m' h g l = ap (λ x. at x h) g.longer ∙ get_or_append_left m.held g.added never h l

-- What is gained depends on the functions that are kept alone.
pub gained_as : (rule : Rule) (m m' : Meaning) (fs gs : List Function) → ((g : Function) → has m.inputs g (m.held ++ kept rule m.inputs fs) ≡ has m.inputs g (m.held ++ kept rule m.inputs gs)) → Gained rule m fs m' → Gained rule m gs m'
gained_as rule m m' fs gs e a = record { grown = a.grown; content = λ g. a.content g ∙ e g; apart = a.apart; fits = a.fits }

pub overfull_as : (rule : Rule) (m : Meaning) (fs gs : List Function) → ((g : Function) → has m.inputs g (m.held ++ kept rule m.inputs fs) ≡ true → has m.inputs g (m.held ++ kept rule m.inputs gs) ≡ true) → Overfull rule m fs → Overfull rule m gs
unfolding Overfull
overfull_as rule m fs gs e o =
    let l = count_le m.inputs (m.held ++ kept rule m.inputs fs) (m.held ++ kept rule m.inputs gs) e in
    omega arith

-- what is not held is not constant
pub varies : (n : ℕ) (f : Function) (fs : List Function) → has n f (never ∷ always ∷ fs) ≡ false → constant n f ≡ false
unfolding has constant
varies n f fs e =
    let (a, b) = or_parts (same n f never) (has n f (always ∷ fs)) e in
    let (c, d) = or_parts (same n f always) (has n f fs) b in
    or_from (same n f never) (same n f always) a c

-- A function that is not held, with the one that is to be put behind the others.
module _ (rule : Rule) (m : Meaning) (f : Function) (good : Good m) (keeps : Keeps rule m.inputs) (new : has m.inputs f m.held ≡ false) where
  more : count m.inputs (m.held ++ f ∷ []) ≡ suc (length good.others)
  more =
      let n = m.inputs in
      let c : constant n f ≡ false = varies n f good.others (rw good.begins at new) in
      let d : different n (never ∷ always ∷ good.others) ≡ true = rw good.begins at good.apart in
      let k : count n m.held ≡ length good.others = ap (count n) good.begins ∙ count_held n good.others d in
      count_push n f m.held ∙ (count_new n f m.held c new ∙ ap suc k)

  -- With the function all that is held and f are held.
  with_kept : (g : Function) → has m.inputs g (m.held ++ f ∷ []) ≡ true → has m.inputs g (m.held ++ kept rule m.inputs (f ∷ [])) ≡ true
  with_kept g e =
      let n = m.inputs in
      let c : constant n f ≡ false = varies n f good.others (rw good.begins at new) in
      has_append n g m.held (kept rule n (f ∷ [])) ∙ elim (or_cases (has n g m.held) (has n g (f ∷ [])) (sym (has_append n g m.held (f ∷ [])) ∙ e)) [
        | inl t ↦ or_left _ _ t
        | inr t ↦ or_right (has n g m.held) _ (kept_one rule n f g ∙ (has_same n g f (rule n f) (in_one n f g t) ∙ keeps.itself f c))
      ]

  -- It is put at the end where all that is kept for it is then held.
  pub gained_new : length good.others < m.places → ((g : Function) → has m.inputs g (rule m.inputs f) ≡ true → has m.inputs g (m.held ++ f ∷ []) ≡ true) → Gained rule m (f ∷ []) (record { inputs = m.inputs; most = m.most; places = m.places; held = m.held ++ f ∷ [] })
  gained_new l all =
      let n = m.inputs in
      record {
        grown = record { inputs_kept = refl; most_kept = refl; places_kept = refl; added = f ∷ []; longer = refl };
        content = λ g.
            both_same _ _ (with_kept g)
            (λ t. elim (or_cases (has n g m.held) (has n g (kept rule n (f ∷ []))) (sym (has_append n g m.held (kept rule n (f ∷ []))) ∙ t)) [
              | inl x ↦ has_append n g m.held (f ∷ []) ∙ or_left _ _ x
              | inr y ↦ all g (sym (kept_one rule n f g) ∙ y)
            ]);
        apart = different_push n m.held f good.apart new;
        fits = let w = more in omega arith;
      }

  -- Where there is no place for it, it is refused.
  pub overfull_new : m.places ≤ length good.others → Overfull rule m (f ∷ [])
  unfolding Overfull
  overfull_new l =
      let w = more in
      let k = count_le m.inputs (m.held ++ f ∷ []) (m.held ++ kept rule m.inputs (f ∷ [])) with_kept in
      omega arith

-- A call that yields a function yields every function that agrees with it.
pub yields_as : (rule : Rule) (m m' : Meaning) (P : Type 0) (f g : Function) (r : Result ℕ StoreFault) → Keeps rule m.inputs → P → Same m.inputs f g → Yields rule m (Unit {0}) (f ∷ []) f r m' → Yields rule m P (g ∷ []) g r m'
yields_as rule m m' P f g (Ok h) k p s y =
    let b = gained_same rule m m' (f ∷ []) (g ∷ []) k (s, tt) y.1 in
    let i = b.grown.inputs_kept in
    let s' : Same m'.inputs f g = rw i s in
    (p, b, record { within = y.2.within; means = λ q l. y.2.means q l ∙ s' q l })
yields_as rule m m' P f g (Err Inputs) k p s y = y
yields_as rule m m' P f g (Err Places) k p s y = (p, overfull_same rule m (f ∷ []) (g ∷ []) k (s, tt) y.1, y.2)
yields_as rule m m' P f g (Err Bounds) k p s y = absurd (y.0 tt)
