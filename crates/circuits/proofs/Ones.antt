-- Every, some and an odd number of bits, by how many of them are 1.
use Rattle.std.proofs.Common.{◌≡◌, ◌%◌, ◌≤◌, Bool, true, false, eqb, ltb, List, [], ◌∷◌, length, refl, arith}
use Rattle.std.proofs.lemmas.Bool.Decides.{nat_tests}
use Rattle.circuits.specs.Kinds.{every, some, odd, only, ones}

pub ones_le : (bs : List Bool) → ones bs ≤ length bs
unfolding ones
ones_le [] = omega arith
ones_le (true ∷ bs) = omega (arith, ones_le bs)
ones_le (false ∷ bs) = omega (arith, ones_le bs)

pub every_by_ones : (bs : List Bool) → every bs ≡ eqb (ones bs) (length bs)
unfolding every ones
every_by_ones [] = refl
every_by_ones (true ∷ bs) = let h = every_by_ones bs in grind (arith, nat_tests)
every_by_ones (false ∷ bs) = let h = ones_le bs in grind (arith, nat_tests)

pub some_by_ones : (bs : List Bool) → some bs ≡ ltb 0 (ones bs)
unfolding some ones
some_by_ones [] = refl
some_by_ones (true ∷ bs) = grind (arith, nat_tests)
some_by_ones (false ∷ bs) = let h = some_by_ones bs in grind (arith, nat_tests)

pub odd_by_ones : (bs : List Bool) → odd bs ≡ eqb (ones bs % 2) 1
unfolding odd ones
odd_by_ones [] = refl
odd_by_ones (true ∷ bs) = let h = odd_by_ones bs in grind (arith, nat_tests)
odd_by_ones (false ∷ bs) = let h = odd_by_ones bs in grind (arith, nat_tests)

pub only_by_ones : (bs : List Bool) → length bs ≡ 1 → only bs ≡ ltb 0 (ones bs)
unfolding ones
only_by_ones [] e = let z : ⊥ = omega arith in absurd z
only_by_ones (true ∷ []) e = refl
only_by_ones (false ∷ []) e = refl
only_by_ones (true ∷ b ∷ bs) e = let z : ⊥ = omega arith in absurd z
only_by_ones (false ∷ b ∷ bs) e = let z : ⊥ = omega arith in absurd z
