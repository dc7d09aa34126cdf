-- How marks and patterns are written.
use Rattle.std.proofs.Common.{◌≡◌, ℕ, ◌-◌, ◌<◌, Bool, true, false, cond, ◌&&◌, eqb, leb, List, [], ◌∷◌, length, get_or, take, drop, sym, refl, ap, ◌∙◌, arith}
use Rattle.std.proofs.lemmas.List.{take_rest, length-map, get_or-map}
use Rattle.std.proofs.lemmas.Bool.{and_parts, eq-eqb, ne_eqb, true≢false}
use Rattle.circuits.specs.declared.literal.Literal.{Literal}
use Rattle.circuits.specs.declared.literal.Literal.TheVariants.{Dash}
use Rattle.circuits.specs.declared.name.Name.{Name}
use Rattle.circuits.specs.Circuits.{name_bytes}
use Rattle.circuits.specs.Names.{letter, letters, is_name}
use Rattle.texts.specs.Fields.{marked_word, has_mark, past_mark, literal_byte, pattern_word}

-- a field that begins with a mark
pub record Marked (bs name : List ℕ) : Type 0 where
  pub mark : true ≡ has_mark bs
  pub rest : name ≡ past_mark bs
  pub written : bs ≡ 33 ∷ name

pub marked_front : (bs : List ℕ) → 0 < length bs → get_or bs 0 0 ≡ 33 → Marked bs (take (length bs - 1) (drop 1 bs))
marked_front [] h e = absurd (omega arith)
marked_front (b ∷ bs) h e =
    let all : take (length (b ∷ bs) - 1) bs ≡ bs = take_rest (b ∷ bs) 1 in
    record {
      mark = sym (eq-eqb b 33 e);
      rest = all ∙ ap (λ t. cond t bs (b ∷ bs)) (sym (eq-eqb b 33 e));
      written = ap (λ x. x ∷ bs) e ∙ ap (λ x. 33 ∷ x) (sym all);
    }

-- A byte that is no literal spoils a pattern.
pub bad_literal : (bs : List ℕ) (i : ℕ) → i < length bs → ((l : Literal) → get_or bs i 0 ≡ literal_byte l → ⊥) → (ls : List Literal) → bs ≡ pattern_word ls → ⊥
bad_literal bs i h bad ls e =
    let n : length bs ≡ length ls = ap length e ∙ length-map ls literal_byte in
    bad (get_or ls i Dash) (ap (λ x. get_or x i 0) e ∙ get_or-map literal_byte ls i Dash 0 (omega arith))

-- A letter is no mark, so that a name carries none.
no_mark : (b : ℕ) → letter b ≡ true → eqb b 33 ≡ false
no_mark b h = ne_eqb b 33 (λ e. true≢false (sym h ∙ ap letter e))

pub unmarked : (bs : List ℕ) → is_name bs ≡ true → (has_mark bs ≡ false) × (past_mark bs ≡ bs)
unfolding is_name letters
unmarked [] h = (refl, refl)
unmarked (b ∷ bs) h =
    let good = (and_parts (letter b) (letters bs) (and_parts (leb 1 (length (b ∷ bs)) && leb (length (b ∷ bs)) 8) (letters (b ∷ bs)) h).1).0 in
    let plain = no_mark b good in
    (plain, ap (λ t. cond t bs (b ∷ bs)) plain)

pub mark_of_word : (m : Bool) (x : Name) → has_mark (marked_word m (name_bytes x)) ≡ m
mark_of_word true x = refl
mark_of_word false x = (unmarked (name_bytes x) x.good).0

pub name_of_word : (m : Bool) (x : Name) → past_mark (marked_word m (name_bytes x)) ≡ name_bytes x
name_of_word true x = refl
name_of_word false x = (unmarked (name_bytes x) x.good).1
