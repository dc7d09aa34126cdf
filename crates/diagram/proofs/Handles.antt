-- What is left of a handle's function where a variable is 0 and where it is 1.
use Rattle.std.proofs.Common.{◌≡◌, ℕ, zero, suc, ◌+◌, ◌-◌, ◌<◌, ◌≤◌, List, sym, ap, ◌∙◌, subst, arith}
use Rattle.stores.specs.Functions.{Same}
use Rattle.stores.specs.Meaning.{at}
use Rattle.diagram.specs.declared.link.Link.{Link}
use Rattle.diagram.specs.declared.row.Row.{Row}
use Rattle.diagram.specs.Chains.{row}
use Rattle.diagram.specs.Rows.{node, functions, SoundOf}
use Rattle.diagram.specs.Diagrams.{LaterOf}
use Rattle.diagram.proofs.Rows.{at_row}

module _ {n len : ℕ} {rows : List Row} {heads : List Link} (s : SoundOf n len rows heads) where
  -- a row's handles, where its variable is v
  pub row_parts : (h v : ℕ) → h < len + 2 → 2 ≤ h → v ≤ n → (row rows (h - 2)).node.variable ≡ v → LaterOf n len rows v (row rows (h - 2)).node.low (row rows (h - 2)).node.high × Same n (at (functions n rows len) h) (node n v (at (functions n rows len) (row rows (h - 2)).node.low) (at (functions n rows len) (row rows (h - 2)).node.high))
  row_parts zero v l two known e = let z : ⊥ = omega arith in absurd z
  row_parts (suc zero) v l two known e = let z : ⊥ = omega arith in absurd z
  row_parts (suc (suc k)) v l two known e =
      let i : suc (suc k) - 2 ≡ k = omega arith in
      let m : k < len = omega arith in
      let o = s.reduced.ordered k m in
      let a = o.low_earlier in
      let b = o.high_earlier in
      let e' : (row rows k).node.variable ≡ v = subst (λ x. (row rows x).node.variable ≡ v) i e in
      let F = functions n rows len in
      subst (λ x. LaterOf n len rows v (row rows x).node.low (row rows x).node.high × Same n (at F (suc (suc k))) (node n v (at F (row rows x).node.low) (at F (row rows x).node.high))) (sym i) (
        record { known = known; low_held = omega arith; high_held = omega arith; low_later = rw e' at o.low_rises; high_later = rw e' at o.high_rises },
        (λ p q. ap (λ x. x p) (at_row n rows len k m o ∙ ap (λ x. node n x (at F (row rows k).node.low) (at F (row rows k).node.high)) e')),
      )
