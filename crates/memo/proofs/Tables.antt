-- What keeps the entries of a memo right, and what its calls make of them.
use Rattle.std.proofs.Common.{◌≡◌, ℕ, ◌<◌, ◌≤◌, ltb, List, [], ◌∷◌, length, set, replicate, Some, None, Ok, Option, sym, refl, ap, ◌∙◌, subst, inl, inr, arith, length-set, get_or-set_other}
use lib.ListN.{length-replicate}
use Rattle.std.proofs.lemmas.Grind.{get_or-set_at}
use Rattle.std.proofs.lemmas.List.{get_or-replicate, get_or_past}
use Rattle.std.proofs.lemmas.Bool.{cases_eq, cases_lt, cases_Bool, ltb-false}
use Rattle.stores.specs.Functions.{never, always}
use Rattle.stores.specs.Meaning.{Meaning, Rule, Lawful, cut}
use Rattle.stores.specs.Calls.{Asks}
use Rattle.stores.proofs.Sames.{constants_differ}
use Rattle.stores.proofs.Laws.{good_cut}
use Rattle.stores.specs.declared.call.Call.{Call}
use Rattle.memo.specs.declared.entry.Entry.{Entry}
use Rattle.memo.specs.Calls.{place_of}
use Rattle.memo.specs.Memos.{Right, SoundMemo, Remembered, Recalled, Memoized, Forgets, entry_at, left_of}
use Rattle.memo.proofs.Entries.{right_grown, right_cut, right_new, recalled_asks, only_answer}

-- The entries stay right with a new one in the place of another, once the store below granted a call.
pub sound_new : (rule : Rule) (m m' : Meaning) (es : List (Option Entry)) (call : Call) (h n p : ℕ) → p < 64 → n ≡ length m'.held → Lawful rule m' → Asks rule m call (Ok h) m' → SoundMemo rule m es → SoundMemo rule m' (set es p (Some (record { call = call; answer = h; length = n })))
sound_new rule m m' es call h n p l k w y s =
    let x : Entry = record { call = call; answer = h; length = n } in
    record {
      many = length-set es p (Some x) ∙ s.many;
      lawful = w;
      right = λ i e q. elim (cases_eq i p) [
        | inl same ↦ let here : Some x ≡ Some e = sym (get_or-set_at es p i (Some x) None same (omega (arith, s.many))) ∙ q in
            let eq : x ≡ e = cc in
            subst (Right rule m') eq (right_new rule m m' call h n k y)
        | inr apart ↦ right_grown rule m m' e y.1.grown (s.right i e (sym (get_or-set_other es p i (Some x) None apart) ∙ q))
      ];
    }

entry_none : (i : ℕ) → entry_at (replicate 64 None) i ≡ None
entry_none i =
    elim (cases_lt i 64) [
      | inl l ↦ get_or-replicate 64 i None None l
      | inr l ↦ get_or_past (replicate 64 None) i None (omega (arith, length-replicate {A = Option Entry} 64 None))
    ]

pub sound_none : (rule : Rule) (m : Meaning) → Lawful rule m → SoundMemo rule m (replicate 64 None)
sound_none rule m w = record {
  many = length-replicate {A = Option Entry} 64 None;
  lawful = w;
  right = λ i e h. let n = entry_none i in cc;
}

-- A start that is granted leaves false and true.
pub lawful_started : (rule : Rule) (m m' : Meaning) (n : ℕ) → Lawful rule m → n ≤ m.most → m' ≡ record { inputs = n; most = m.most; places = m.places; held = never ∷ always ∷ [] } → Lawful rule m'
lawful_started rule m m' n w l e =
    subst (Lawful rule) (sym e) (record { good = record { others = []; begins = refl; apart = constants_differ n; fits = omega arith; few = l }; keeps = w.keeps })

-- what is left of an entry stood there, and ended with no longer list
left_some : (k : ℕ) (x : Option Entry) (e : Entry) → left_of k x ≡ Some e → (x ≡ Some e) × (e.length ≤ k)
left_some k None e h = cc
left_some k (Some x) e h =
    elim (cases_Bool (ltb k x.length)) [
      | inl t ↦ let h' : ◌≡◌ {A = Option Entry} None (Some e) = rw t at h in cc
      | inr f ↦ let h' : Some x ≡ Some e = rw f at h in
          let eq : x ≡ e = cc in
          (h', subst (λ y. y.length ≤ k) eq (ltb-false k x.length f))
    ]

pub sound_cut : (rule : Rule) (m m' : Meaning) (es es' : List (Option Entry)) (k : ℕ) → 2 ≤ k → m' ≡ cut m k → Forgets k es es' → SoundMemo rule m es → SoundMemo rule m' es'
sound_cut rule m m' es es' k two e f s =
    subst (λ x. SoundMemo rule x es') (sym e) (record {
      many = f.many ∙ s.many;
      lawful = record { good = good_cut m k s.lawful.good two; keeps = s.lawful.keeps };
      right = λ i x h. let (there, l) = left_some k (entry_at es i) x (sym (f.each i) ∙ h) in right_cut rule m k x l (s.right i x there);
    })

-- a call that is remembered
module _ {B : Type 0} (rule : Rule) (m : Meaning) (call : Call) (b : B) (es : List (Option Entry)) (s : SoundMemo rule m es) (h : ℕ) (x : Recalled es call (Some h)) where
  pub recall_asks : Asks rule m call (Ok h) m
  recall_asks = rw (x.2, ← x.1.1) (recalled_asks rule m x.0 s.lawful (s.right (place_of call) x.0 x.1.0))

  only : (y : Entry) → Remembered es call y → x.0 ≡ y
  only y q =
      let p = q.0 in
      let o = x.1.0 in
      cc

  pub recall_memoized : Memoized rule m call b es (Ok h) m b es
  recall_memoized = record {
    recalled = λ y q. (ap Ok (x.2 ∙ ap (λ z. z.answer) (only y q)), refl, refl);
    as_below = λ y q t n a.
        let o = only_answer rule m x.0 s.lawful (s.right (place_of call) x.0 x.1.0) t n (rw (← x.1.1) at a) in
        (o.0 ∙ ap Ok (sym x.2), o.1);
    newest = λ f. absurd (f x.0 x.1);
    refused = λ f q. cc;
  }
