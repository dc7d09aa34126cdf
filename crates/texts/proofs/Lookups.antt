-- Names that are looked up in a draft.
use Rattle.std.proofs.Common.{◌≡◌, ℕ, suc, true, false, List, [], ◌∷◌, ◌++◌, map, Some, None, sym, refl, ap, ◌∙◌, subst, inl, inr, append-nil}
use Rattle.std.proofs.lemmas.Slice.Eq.{bytes_eq-Decides}
use Rattle.std.proofs.lemmas.Bool.{cases_Bool, both_ways, cond-false}
use Rattle.std.specs.Str.{bytes_eq}
use Rattle.std.specs.Option.{option_map}
use Rattle.circuits.specs.declared.gate.Gate.{Gate}
use Rattle.circuits.specs.declared.name.Name.{Name}
use Rattle.circuits.specs.Circuits.{name_bytes}
use Rattle.circuits.specs.Drafts.{Parts}
use Rattle.circuits.specs.Legality.{position}
use Rattle.circuits.specs.Names.{is_name}
use Rattle.texts.specs.Fields.{past_mark}
use Rattle.texts.specs.Adding.{stem_named, pin_named}

-- What is no name is the name of nothing.
unlike : (w : List ℕ) (x : Name) → is_name w ≡ false → bytes_eq w (name_bytes x) ≡ false
unlike w x h =
    elim (cases_Bool (bytes_eq w (name_bytes x))) [
      | inl e ↦ absurd (both_ways (is_name w) h (subst (λ b. is_name b ≡ true) (sym ((bytes_eq-Decides w (name_bytes x)).0 e)) x.good))
      | inr e ↦ e
    ]

named_none : {X : Type 0} (f : X → Name) (i : ℕ) (w : List ℕ) (xs : List X) (ys : List (List ℕ)) → is_name w ≡ false → ((j : ℕ) → position j w ys ≡ None) → position i w (map (λ x. name_bytes (f x)) xs ++ ys) ≡ None
unfolding position
named_none f i w [] ys h rest = rest i
named_none f i w (x ∷ xs) ys h rest = cond-false (bytes_eq w (name_bytes (f x))) (Some i) _ (unlike w (f x) h) ∙ named_none f (suc i) w xs ys h rest

no_position : (i : ℕ) (w : List ℕ) → position i w [] ≡ None
unfolding position
no_position i w = refl

pub no_stem : (d : Parts) (w : List ℕ) → is_name w ≡ false → stem_named d w ≡ None
no_stem d w h =
    let gates : (j : ℕ) → position j w (map (λ (g : Gate). name_bytes g.name) d.circuit.gates) ≡ None =
    λ j. subst (λ l. position j w l ≡ None) (append-nil _) (named_none (λ (g : Gate). g.name) j w d.circuit.gates [] h (λ k. no_position k w))
    in
    named_none (λ (x : Name). x) 0 w d.circuit.inputs _ h gates

pub no_pin : (d : Parts) (f w : List ℕ) → w ≡ past_mark f → is_name w ≡ false → pin_named d f ≡ None
no_pin d f w e h = ap (option_map _) (ap (stem_named d) (sym e) ∙ no_stem d w h)
