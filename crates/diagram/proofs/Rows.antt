-- The functions of rows.
use Rattle.std.proofs.Common.{◌≡◌, ℕ, zero, suc, ◌+◌, ◌<◌, ◌≤◌, List, [], ◌∷◌, ◌++◌, length, take, sym, refl, ap, ◌∙◌, subst, inl, inr, append_assoc, append-nil, arith, length-append}
use lib.Seq.{get_or_at}
use Rattle.std.proofs.lemmas.List.{take-append-le, get_or_append_left, take_all}
use Rattle.std.proofs.lemmas.Bool.{cases_lt}
use Rattle.stores.specs.Functions.{Function, never, always}
use Rattle.stores.specs.Meaning.{at}
use Rattle.diagram.specs.declared.row.Row.{Row}
use Rattle.diagram.specs.Chains.{row}
use Rattle.diagram.specs.Rows.{node, functions, top, Ordered}

-- the function of the row at place k, among the functions fs
abbrev pub row_function : ℕ → List Row → ℕ → List Function → Function
row_function n rows k fs = node n (row rows k).node.variable (at fs (row rows k).node.low) (at fs (row rows k).node.high)

pub functions_kept : (n : ℕ) (rows rows' : List Row) (len : ℕ) → ((k : ℕ) → k < len → row rows' k ≡ row rows k) → functions n rows' len ≡ functions n rows len
unfolding functions
functions_kept n rows rows' zero same = refl
functions_kept n rows rows' (suc k) same = rw (functions_kept n rows rows' k (λ j l. same j (omega arith)), same k (omega arith))

module _ (n : ℕ) (rows : List Row) where
  pub functions_length : (len : ℕ) → length (functions n rows len) ≡ len + 2
  unfolding functions
  functions_length zero = refl
  functions_length (suc k) = omega (arith, length-append (functions n rows k) (row_function n rows k (functions n rows k) ∷ []), functions_length k)

  pub functions_more : (len : ℕ) → functions n rows (suc len) ≡ functions n rows len ++ row_function n rows len (functions n rows len) ∷ []
  unfolding functions
  functions_more len = refl

  pub functions_none : functions n rows zero ≡ never ∷ always ∷ []
  unfolding functions
  functions_none = refl

  -- more rows have more functions behind the others
  pub functions_grown : (m len : ℕ) → m ≤ len → (rest : List Function) × (functions n rows len ≡ functions n rows m ++ rest)
  functions_grown m zero l = let z : m ≡ zero = omega arith in ([], subst (λ x. functions n rows zero ≡ functions n rows x ++ []) (sym z) (sym (append-nil (functions n rows zero))))
  functions_grown m (suc k) l =
      elim (cases_lt k m) [
        | inl all ↦ let z : m ≡ suc k = omega arith in ([], subst (λ x. functions n rows (suc k) ≡ functions n rows x ++ []) (sym z) (sym (append-nil (functions n rows (suc k)))))
        | inr fewer ↦ let (rest, e) = functions_grown m k fewer in
            let f = row_function n rows k (functions n rows k) in
            (rest ++ f ∷ [], functions_more k ∙ (ap (λ x. x ++ f ∷ []) e ∙ append_assoc (functions n rows m) rest (f ∷ [])))
      ]

  pub functions_take : (m len : ℕ) → m ≤ len → take (m + 2) (functions n rows len) ≡ functions n rows m
  functions_take m len l =
      let (rest, e) = functions_grown m len l in
      let c = functions_length m in
      ap (take (m + 2)) e ∙ (take-append-le (m + 2) (functions n rows m) rest (omega arith) ∙ take_all (m + 2) (functions n rows m) (omega arith))

  pub at_fewer : (m len h : ℕ) → m ≤ len → h < m + 2 → at (functions n rows len) h ≡ at (functions n rows m) h
  at_fewer m len h l below =
      let (rest, e) = functions_grown m len l in
      ap (λ x. at x h) e ∙ get_or_append_left (functions n rows m) rest never h (omega (arith, functions_length m))

  pub at_last : (k : ℕ) → at (functions n rows (suc k)) (suc (suc k)) ≡ row_function n rows k (functions n rows k)
  at_last k =
      ap (λ x. at x (suc (suc k))) (functions_more k) ∙ get_or_at (functions n rows k) (row_function n rows k (functions n rows k)) [] never (suc (suc k)) (omega (arith, functions_length k))

  -- a row's function is made of those of its handles
  pub at_row : (len k : ℕ) → k < len → Ordered n rows k → at (functions n rows len) (suc (suc k)) ≡ row_function n rows k (functions n rows len)
  at_row len k l o =
      let a = at_fewer k len (row rows k).node.low (omega arith) o.low_earlier in
      let b = at_fewer k len (row rows k).node.high (omega arith) o.high_earlier in
      at_fewer (suc k) len (suc (suc k)) (omega arith) (omega arith)
      ∙ (at_last k ∙ (ap (λ x. node n (row rows k).node.variable x (at (functions n rows k) (row rows k).node.high)) (sym a) ∙ ap (λ x. node n (row rows k).node.variable (at (functions n rows len) (row rows k).node.low) x) (sym b)))

pub top_most : (n : ℕ) (rows : List Row) (len : ℕ) → ((k : ℕ) → k < len → Ordered n rows k) → (h : ℕ) → h < len + 2 → top n rows h ≤ n + 1
top_most n rows len o zero l = omega arith
top_most n rows len o (suc zero) l = omega arith
top_most n rows len o (suc (suc k)) l = let w = (o k (omega arith)).known in omega arith

pub top_kept : (n : ℕ) (rows rows' : List Row) (len h : ℕ) → ((k : ℕ) → k < len → row rows' k ≡ row rows k) → h < len + 2 → top n rows' h ≡ top n rows h
top_kept n rows rows' len zero same l = refl
top_kept n rows rows' len (suc zero) same l = refl
top_kept n rows rows' len (suc (suc k)) same l = ap (λ x. x.node.variable) (same k (omega arith))
