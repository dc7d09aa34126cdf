-- What keeps an entry right, and what a right entry answers.
use Rattle.std.proofs.Common.{◌≡◌, ℕ, ◌<◌, ◌≤◌, true, false, not, List, [], ◌∷◌, ◌++◌, length, get_or, take, drop, Ok, Err, Result, sym, refl, ap, ◌∙◌, subst, inl, inr, append-nil, arith, take-append-drop, length-take, get_or-take}
use Rattle.std.proofs.lemmas.List.{take-append-le, take-take, take_all}
use Rattle.std.proofs.lemmas.Bool.{both_ways, or_left, or_right, or_cases, or_parts, or_from, and_parts, not-true}
use Rattle.stores.specs.declared.fault.StoreFault.{StoreFault}
use Rattle.stores.specs.declared.fault.StoreFault.TheVariants.{Inputs, Places, Bounds}
use Rattle.stores.specs.Functions.{Function, never, same}
use Rattle.stores.specs.Meaning.{Meaning, Rule, Lawful, Grown, Gained, Stands, at, has, different, kept, cut}
use Rattle.stores.specs.Calls.{asked, Fits, Asks}
use Rattle.stores.proofs.Sames.{has_append, same_sym, same_refl}
use Rattle.stores.proofs.Laws.{held_already, gained_fits, grown_longer, stands_once, kept_one}
use Rattle.stores.specs.declared.call.Call.{Call}
use Rattle.stores.specs.declared.call.Call.TheVariants.{Variable, Join, Flip, Fix}
use Rattle.memo.specs.declared.entry.Entry.{Entry}
use Rattle.memo.specs.Memos.{Right}

-- two meanings that agree on their inputs and their first k functions
module _ (m m' : Meaning) (k : ℕ) (inputs : m'.inputs ≡ m.inputs) (first : take k m'.held ≡ take k m.held) where
  same_at : (h : ℕ) → h < k → at m'.held h ≡ at m.held h
  same_at h l = sym (get_or-take k m'.held h never l) ∙ (ap (λ x. get_or x h never) first ∙ get_or-take k m.held h never l)

  -- ask the same
  pub asked_same : (c : Call) → Fits m k c → asked m' c ≡ asked m c
  asked_same (Join op f g) (l, r) = rw (same_at f l, same_at g r)
  asked_same (Flip f) l = rw (same_at f l)
  asked_same (Fix f b) l = rw (inputs, same_at f l)
  asked_same (Variable v) l = rw inputs

fits_more : (m m' : Meaning) (k k' : ℕ) → m'.inputs ≡ m.inputs → k ≤ k' → (c : Call) → Fits m k c → Fits m' k' c
fits_more m m' k k' i l (Join op f g) (x, y) = (omega arith, omega arith)
fits_more m m' k k' i l (Flip f) x = omega arith
fits_more m m' k k' i l (Fix f b) x = omega arith
fits_more m m' k k' i l (Variable v) x = omega arith

-- An entry stays right while the functions of its time are held.
pub right_moved : (rule : Rule) (m m' : Meaning) (e : Entry) → m'.inputs ≡ m.inputs → take e.length m'.held ≡ take e.length m.held → e.length ≤ length m'.held → Right rule m e → Right rule m' e
right_moved rule m m' e inputs first within r =
    let k = e.length in
    let same : asked m' e.call ≡ asked m e.call = asked_same m m' k inputs first e.call r.fits in
    let here : at m'.held e.answer ≡ at m.held e.answer = same_at m m' k inputs first e.answer r.held in
    record {
      within = within;
      fits = fits_more m m' k k inputs (omega arith) e.call r.fits;
      held = r.held;
      answers = rw (same, inputs, here) r.answers;
      keeps = rw (same, inputs, first) r.keeps;
    }

grown_first : (m m' : Meaning) (k : ℕ) → Grown m m' → k ≤ length m.held → take k m'.held ≡ take k m.held
grown_first m m' k g l = ap (take k) g.longer ∙ take-append-le k m.held g.added l

pub right_grown : (rule : Rule) (m m' : Meaning) (e : Entry) → Grown m m' → Right rule m e → Right rule m' e
right_grown rule m m' e g r =
    let l = grown_longer m m' g in
    let w = r.within in
    right_moved rule m m' e g.inputs_kept (grown_first m m' e.length g w) (omega arith) r

pub right_cut : (rule : Rule) (m : Meaning) (k : ℕ) (e : Entry) → e.length ≤ k → Right rule m e → Right rule (cut m k) e
right_cut rule m k e l r =
    let w = r.within in
    right_moved rule m (cut m k) e refl (take-take e.length k m.held l) (omega (arith, length-take k m.held)) r

has_take : (n k : ℕ) (g : Function) (L : List Function) → has n g (take k L) ≡ true → has n g L ≡ true
has_take n k g L e = subst (λ x. has n g x ≡ true) (take-append-drop k L) (has_append n g (take k L) (drop k L) ∙ or_left _ _ e)

-- A call that was answered makes a right entry.
pub right_new : (rule : Rule) (m m' : Meaning) (call : Call) (h n : ℕ) → n ≡ length m'.held → Asks rule m call (Ok h) m' → Right rule m' (record { call = call; answer = h; length = n })
right_new rule m m' call h n e (fits, gained, stands) =
    let grown = gained.grown in
    let i = grown.inputs_kept in
    let same : asked m' call ≡ asked m call = asked_same m m' (length m.held) i (grown_first m m' (length m.held) grown (omega arith)) call fits in
    let all : take n m'.held ≡ m'.held = take_all n m'.held (omega arith) in
    record {
      within = omega arith;
      fits = fits_more m m' (length m.held) n i (omega (arith, grown_longer m m' grown)) call fits;
      held = omega (arith, stands.within);
      answers = rw same stands.means;
      keeps = λ x w.
          let e' : has m.inputs x (rule m.inputs (asked m call)) ≡ true = rw (same, i) at w in
          let there : has m.inputs x m'.held ≡ true = gained.content x ∙ (has_append m.inputs x m.held (kept rule m.inputs (asked m call ∷ [])) ∙ or_right (has m.inputs x m.held) _ (kept_one rule m.inputs (asked m call) x ∙ e')) in
          rw (all, i) there;
    }

-- A right entry answers as the interface says, and nothing is gained.
pub recalled_asks : (rule : Rule) (m : Meaning) (e : Entry) → Lawful rule m → Right rule m e → Asks rule m e.call (Ok e.answer) m
recalled_asks rule m e w r =
    let l = r.within in
    let k = r.held in (
      fits_more m m e.length (length m.held) refl l e.call r.fits,
      held_already rule m (asked m e.call) w.good (λ g x. has_take m.inputs e.length g m.held (r.keeps g x)),
      record { within = omega arith; means = r.answers },
    )

has_first : (n : ℕ) (f : Function) (fs : List Function) → has n f (f ∷ fs) ≡ true
unfolding has
has_first n f fs = or_left _ _ (same_refl n f)

-- of different functions none stands before itself
different_middle : (n : ℕ) (L : List Function) (f : Function) (R : List Function) → different n (L ++ f ∷ R) ≡ true → has n f L ≡ false
unfolding different has
different_middle n [] f R d = refl
different_middle n (g ∷ L) f R d =
    let (a, b) = and_parts (not (has n g (L ++ f ∷ R))) (different n (L ++ f ∷ R)) d in
    let (x, y) = or_parts (has n g L) (has n g (f ∷ R)) (sym (has_append n g L (f ∷ R)) ∙ not-true _ a) in
    or_from (same n f g) (has n f L) (same_sym n f g ∙ (or_parts (same n g f) (has n g R) y).0) (different_middle n L f R b)

-- Where all that is kept is held, nothing is gained.
nothing_gained : (rule : Rule) (m m' : Meaning) (f : Function) → ((g : Function) → has m.inputs g (rule m.inputs f) ≡ true → has m.inputs g m.held ≡ true) → Gained rule m (f ∷ []) m' → m' ≡ m
nothing_gained rule m m' f all gained = go gained.grown.added gained.grown.longer
  where
    go : (added : List Function) → m'.held ≡ m.held ++ added → m' ≡ m
    go [] e =
        let held : m'.held ≡ m.held = e ∙ append-nil m.held in
        let i = gained.grown.inputs_kept in
        let o = gained.grown.most_kept in
        let p = gained.grown.places_kept in
        rw (i, o, p, held)
    go (a ∷ rest) e =
        let d : different m.inputs (m.held ++ a ∷ rest) ≡ true = subst (λ x. different m.inputs x ≡ true) e gained.apart in
        let in_new : has m.inputs a m'.held ≡ true = subst (λ x. has m.inputs a x ≡ true) (sym e) (has_append m.inputs a m.held (a ∷ rest) ∙ or_right (has m.inputs a m.held) _ (has_first m.inputs a rest)) in
        let inside : has m.inputs a m.held ≡ true = elim (or_cases (has m.inputs a m.held) (has m.inputs a (kept rule m.inputs (f ∷ []))) (sym (has_append m.inputs a m.held (kept rule m.inputs (f ∷ []))) ∙ (sym (gained.content a) ∙ in_new))) [ inl x ↦ x | inr y ↦ all a (sym (kept_one rule m.inputs f a) ∙ y) ] in
        absurd (both_ways _ (different_middle m.inputs m.held a rest d) inside)

-- Whatever a store may answer to a call with a right entry is the entry's answer.
pub only_answer : (rule : Rule) (m : Meaning) (e : Entry) → Lawful rule m → Right rule m e → (s : Result ℕ StoreFault) (n : Meaning) → Asks rule m e.call s n → (s ≡ Ok e.answer) × (n ≡ m)
only_answer rule m e w r (Ok h) n (fits, gained, stands) =
    let f = asked m e.call in
    let same : n ≡ m = nothing_gained rule m n f (λ g x. has_take m.inputs e.length g m.held (r.keeps g x)) gained in
    let here : Stands m h f = subst (λ x. Stands x h f) same stands in
    (ap Ok (stands_once m h e.answer f w.good here (recalled_asks rule m e w r).2), same)
only_answer rule m e w r (Err Inputs) n y = absurd y
only_answer rule m e w r (Err Places) n (fits, over, back) =
    absurd (gained_fits rule m m (asked m e.call ∷ []) (recalled_asks rule m e w r).1 over)
only_answer rule m e w r (Err Bounds) n (out, back) = absurd (out (recalled_asks rule m e w r).0)
