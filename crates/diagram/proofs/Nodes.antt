-- Nodes and cofactors.
use Rattle.std.proofs.Common.{◌≡◌, ℕ, suc, ◌-◌, ◌<◌, ◌≤◌, Bool, true, false, cond, ◌≢◌, sym, refl, ap, ◌∙◌, arith}
use Rattle.stores.specs.declared.operation.Operation.{Operation}
use Rattle.stores.specs.Functions.{Function, never, always, Same, bit, variable, joined, combine}
use Rattle.diagram.specs.Subfunctions.{with_bit, cofactor}
use Rattle.diagram.specs.Rows.{node, Free}
use Rattle.diagram.proofs.Points.{within, bit_with, bit_with_other}

pub cofactor_same : (n v : ℕ) (b : Bool) (f g : Function) → Same n f g → Same n (cofactor n v b f) (cofactor n v b g)
cofactor_same n v b f g s p q = s (with_bit (n - v) b p) (within n (n - v) b p (omega arith) q)

pub cofactor_free : (n v k : ℕ) (b : Bool) (f : Function) → Free n v f → k < v → Same n (cofactor n k b f) f
cofactor_free n v k b f free l p q = free k l b p q

pub free_fewer : (n v w : ℕ) (f : Function) → w ≤ v → Free n v f → Free n w f
free_fewer n v w f l free k m = free k (omega arith)

pub free_same : (n v : ℕ) (f g : Function) → Same n f g → Free n v f → Free n v g
free_same n v f g s free k l b p q = sym (s (with_bit (n - k) b p) (within n (n - k) b p (omega arith) q)) ∙ (free k l b p q ∙ s p q)

pub free_never : (n v : ℕ) → Free n v never
free_never n v k l b p q = refl

pub free_always : (n v : ℕ) → Free n v always
free_always n v k l b p q = refl

pub free_joined : (n v : ℕ) (op : Operation) (f g : Function) → Free n v f → Free n v g → Free n v (joined op f g)
unfolding joined
free_joined n v op f g i j k l b p q = rw (i k l b p q, j k l b p q)

-- a node depends on no variable below its own
pub free_node : (n v : ℕ) (f g : Function) → v ≤ n → Free n v f → Free n v g → Free n v (node n v f g)
unfolding variable
free_node n v f g top i j k l b p q =
    let ne : n - v ≢ n - k = omega arith in
    ap (λ x. cond x (g (with_bit (n - k) b p)) (f (with_bit (n - k) b p))) (bit_with_other (n - k) p b (n - v) ne)
    ∙ (ap (λ x. cond (bit p (n - v)) x (f (with_bit (n - k) b p))) (j k l b p q) ∙ ap (λ x. cond (bit p (n - v)) (g p) x) (i k l b p q))

-- the cofactors of a node are its parts
pub node_low : (n v : ℕ) (f g : Function) → Free n (suc v) f → Same n (cofactor n v false (node n v f g)) f
unfolding variable
node_low n v f g free p q = ap (λ x. cond x (g (with_bit (n - v) false p)) (f (with_bit (n - v) false p))) (bit_with (n - v) p false) ∙ free v (omega arith) false p q

pub node_high : (n v : ℕ) (f g : Function) → Free n (suc v) g → Same n (cofactor n v true (node n v f g)) g
unfolding variable
node_high n v f g free p q = ap (λ x. cond x (g (with_bit (n - v) true p)) (f (with_bit (n - v) true p))) (bit_with (n - v) p true) ∙ free v (omega arith) true p q

module _ (n v : ℕ) (f g : Function) (i : Free n (suc v) f) (j : Free n (suc v) g) where
  -- equal nodes on one variable have equal parts
  pub node_parts : (f' g' : Function) → Free n (suc v) f' → Free n (suc v) g' → Same n (node n v f g) (node n v f' g') → Same n f f' × Same n g g'
  node_parts f' g' i' j' s = (
    (λ p q. sym (node_low n v f g i p q) ∙ (cofactor_same n v false (node n v f g) (node n v f' g') s p q ∙ node_low n v f' g' i' p q)),
    (λ p q. sym (node_high n v f g j p q) ∙ (cofactor_same n v true (node n v f g) (node n v f' g') s p q ∙ node_high n v f' g' j' p q)),
  )

  -- a node that is equal to a function without its variable has two equal parts
  pub node_idle : (h : Function) → Free n (suc v) h → Same n (node n v f g) h → Same n f g
  node_idle h free s p q =
      sym (node_low n v f g i p q) ∙ (cofactor_same n v false (node n v f g) h s p q ∙ (free v (omega arith) false p q ∙ (sym (free v (omega arith) true p q) ∙ (sym (cofactor_same n v true (node n v f g) h s p q) ∙ node_high n v f g j p q))))

pub node_same : (n v : ℕ) (f f' g g' : Function) → Same n f f' → Same n g g' → Same n (node n v f g) (node n v f' g')
node_same n v f f' g g' s t p q = ap (λ x. cond (variable n v p) x (f p)) (t p q) ∙ ap (λ x. cond (variable n v p) (g' p) x) (s p q)

either_way : (t x : Bool) → cond t x x ≡ x
either_way true x = refl
either_way false x = refl

-- a function is a node with itself on both sides
pub node_both : (n v : ℕ) (f : Function) → Same n f (node n v f f)
node_both n v f p q = sym (either_way (variable n v p) (f p))

joins_apart : (op : Operation) (t a b c d : Bool) → combine op (cond t b a) (cond t d c) ≡ cond t (combine op b d) (combine op a c)
joins_apart op true a b c d = refl
joins_apart op false a b c d = refl

-- nodes on one variable are joined part by part
pub joined_nodes : (n v : ℕ) (op : Operation) (f f₀ f₁ g g₀ g₁ : Function) → Same n f (node n v f₀ f₁) → Same n g (node n v g₀ g₁) → Same n (joined op f g) (node n v (joined op f₀ g₀) (joined op f₁ g₁))
unfolding joined
joined_nodes n v op f f₀ f₁ g g₀ g₁ s t p q = rw (s p q, t p q) (joins_apart op (variable n v p) (f₀ p) (f₁ p) (g₀ p) (g₁ p))

variable_node_bit : (t : Bool) → cond t true false ≡ t
variable_node_bit true = refl
variable_node_bit false = refl

pub variable_node : (n v : ℕ) → Same n (variable n v) (node n v never always)
variable_node n v p q = sym (variable_node_bit (variable n v p))
