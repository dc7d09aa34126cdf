-- The five joins of `majority_parts`.
use Rattle.std.proofs.Common.{◌≡◌, ℕ, ◌<◌, List, [], ◌∷◌, ◌++◌, length, IsErrAnd, Ok, Err, Result}
use Rattle.stores.specs.declared.fault.StoreFault.{StoreFault}
use Rattle.stores.specs.declared.operation.Operation.TheVariants.{And, Or}
use Rattle.stores.specs.Functions.{Function, joined}
use Rattle.stores.specs.Meaning.{Meaning, Rule, Lawful, Grown, Stands, at, Makes, Joins}
use Rattle.stores.specs.Majority.{AllHeld, majority_of, majority_steps}
use Rattle.stores.proofs.Laws.{gained_none, grown_then, stands_grown, stands_held, makes_exit, makes_refused, join_next, yields_grown}

module _ (rule : Rule) (m : Meaning) (a b c : ℕ) (lawful : Lawful rule m) (held : AllHeld m a b c) where
  abbrev fa : Function
  fa = at m.held a

  abbrev fb : Function
  fb = at m.held b

  abbrev fc : Function
  fc = at m.held c

  abbrev all : List Function
  all = majority_steps fa fb fc

  old : (m' : Meaning) (h : ℕ) → h < length m.held → Grown m m' → Stands m' h (at m.held h)
  old m' h l g = stands_grown m m' h (at m.held h) g (stands_held m h l)

  -- a refusal on the way, which a `?` hands on
  exit : (m' : Meaning) (fs gs : List Function) (f : Function) (e : StoreFault) (r : Result ℕ StoreFault) → IsErrAnd r (λ y. y ≡ e) → Makes rule m fs f (Err e) m' → Makes rule m (fs ++ gs) (majority_of fa fb fc) r m'
  exit m' fs gs f e r is y = makes_exit rule m m' (fs ++ gs) (majority_of fa fb fc) r e is (makes_refused rule m m' fs gs f (majority_of fa fb fc) e y)

  pub first : (m₁ : Meaning) (r : Result ℕ StoreFault) → Joins rule m And a b r m₁ → Makes rule m (joined And fa fb ∷ []) (joined And fa fb) r m₁
  first m₁ r y = join_next rule m m m₁ And [] a b fa fb r (lawful.keeps m.inputs) (gained_none rule m lawful.good) (stands_held m a held.0) (stands_held m b held.1) y

  pub first_exit : (m₁ : Meaning) (e : StoreFault) (r : Result ℕ StoreFault) → IsErrAnd r (λ y. y ≡ e) → Joins rule m And a b (Err e) m₁ → Makes rule m all (majority_of fa fb fc) r m₁
  first_exit m₁ e r is y = exit m₁ (joined And fa fb ∷ []) _ (joined And fa fb) e r is (first m₁ (Err e) y)

  module _ (m₁ : Meaning) (ab : ℕ) (y₁ : Joins rule m And a b (Ok ab) m₁) where
    x₁ : Makes rule m (joined And fa fb ∷ []) (joined And fa fb) (Ok ab) m₁
    x₁ = first m₁ (Ok ab) y₁

    pub second : (m₂ : Meaning) (r : Result ℕ StoreFault) → Joins rule m₁ And a c r m₂ → Makes rule m (joined And fa fb ∷ joined And fa fc ∷ []) (joined And fa fc) r m₂
    second m₂ r y = join_next rule m m₁ m₂ And (joined And fa fb ∷ []) a c fa fc r (lawful.keeps m.inputs) x₁.0 (old m₁ a held.0 x₁.0.grown) (old m₁ c held.2 x₁.0.grown) y

    pub second_exit : (m₂ : Meaning) (e : StoreFault) (r : Result ℕ StoreFault) → IsErrAnd r (λ y. y ≡ e) → Joins rule m₁ And a c (Err e) m₂ → Makes rule m all (majority_of fa fb fc) r m₂
    second_exit m₂ e r is y = exit m₂ (joined And fa fb ∷ joined And fa fc ∷ []) _ (joined And fa fc) e r is (second m₂ (Err e) y)

    module _ (m₂ : Meaning) (ac : ℕ) (y₂ : Joins rule m₁ And a c (Ok ac) m₂) where
      x₂ : Makes rule m (joined And fa fb ∷ joined And fa fc ∷ []) (joined And fa fc) (Ok ac) m₂
      x₂ = second m₂ (Ok ac) y₂

      pub third : (m₃ : Meaning) (r : Result ℕ StoreFault) → Joins rule m₂ And b c r m₃ → Makes rule m (joined And fa fb ∷ joined And fa fc ∷ joined And fb fc ∷ []) (joined And fb fc) r m₃
      third m₃ r y = join_next rule m m₂ m₃ And (joined And fa fb ∷ joined And fa fc ∷ []) b c fb fc r (lawful.keeps m.inputs) x₂.0 (old m₂ b held.1 x₂.0.grown) (old m₂ c held.2 x₂.0.grown) y

      pub third_exit : (m₃ : Meaning) (e : StoreFault) (r : Result ℕ StoreFault) → IsErrAnd r (λ y. y ≡ e) → Joins rule m₂ And b c (Err e) m₃ → Makes rule m all (majority_of fa fb fc) r m₃
      third_exit m₃ e r is y = exit m₃ (joined And fa fb ∷ joined And fa fc ∷ joined And fb fc ∷ []) _ (joined And fb fc) e r is (third m₃ (Err e) y)

      module _ (m₃ : Meaning) (bc : ℕ) (y₃ : Joins rule m₂ And b c (Ok bc) m₃) where
        x₃ : Makes rule m (joined And fa fb ∷ joined And fa fc ∷ joined And fb fc ∷ []) (joined And fb fc) (Ok bc) m₃
        x₃ = third m₃ (Ok bc) y₃

        g₂₃ : Grown m₂ m₃
        g₂₃ = yields_grown rule m₂ m₃ _ _ _ (Ok bc) y₃

        g₁₃ : Grown m₁ m₃
        g₁₃ = grown_then m₁ m₂ m₃ (yields_grown rule m₁ m₂ _ _ _ (Ok ac) y₂) g₂₃

        pub fourth : (m₄ : Meaning) (r : Result ℕ StoreFault) → Joins rule m₃ Or ab ac r m₄ → Makes rule m (joined And fa fb ∷ joined And fa fc ∷ joined And fb fc ∷ joined Or (joined And fa fb) (joined And fa fc) ∷ []) (joined Or (joined And fa fb) (joined And fa fc)) r m₄
        fourth m₄ r y =
            join_next rule m m₃ m₄ Or (joined And fa fb ∷ joined And fa fc ∷ joined And fb fc ∷ []) ab ac (joined And fa fb) (joined And fa fc) r (lawful.keeps m.inputs) x₃.0
            (stands_grown m₁ m₃ ab (joined And fa fb) g₁₃ x₁.1) (stands_grown m₂ m₃ ac (joined And fa fc) g₂₃ x₂.1) y

        pub fourth_exit : (m₄ : Meaning) (e : StoreFault) (r : Result ℕ StoreFault) → IsErrAnd r (λ y. y ≡ e) → Joins rule m₃ Or ab ac (Err e) m₄ → Makes rule m all (majority_of fa fb fc) r m₄
        fourth_exit m₄ e r is y =
            exit m₄ (joined And fa fb ∷ joined And fa fc ∷ joined And fb fc ∷ joined Or (joined And fa fb) (joined And fa fc) ∷ []) _ (joined Or (joined And fa fb) (joined And fa fc)) e r is (fourth m₄ (Err e) y)

        module _ (m₄ : Meaning) (either : ℕ) (y₄ : Joins rule m₃ Or ab ac (Ok either) m₄) where
          pub fifth : (m₅ : Meaning) (r : Result ℕ StoreFault) → Joins rule m₄ Or either bc r m₅ → Makes rule m all (majority_of fa fb fc) r m₅
          fifth m₅ r y =
              let x₄ = fourth m₄ (Ok either) y₄ in
              join_next rule m m₄ m₅ Or (joined And fa fb ∷ joined And fa fc ∷ joined And fb fc ∷ joined Or (joined And fa fb) (joined And fa fc) ∷ []) either bc (joined Or (joined And fa fb) (joined And fa fc)) (joined And fb fc) r (lawful.keeps m.inputs) x₄.0
              x₄.1 (stands_grown m₃ m₄ bc (joined And fb fc) (yields_grown rule m₃ m₄ _ _ _ (Ok either) y₄) x₃.1) y
