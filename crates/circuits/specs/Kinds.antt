-- The kinds of gate: how many pins each takes, and the bit that it gives for the bits of its pins.
use Rattle.std.specs.Prelude.{ℕ, ◌+◌, Bool, true, false, cond, not, ◌&&◌, ◌||◌, List, [], ◌∷◌, ◌==◌, nat_le, slice_index_or}
use Rattle.circuits.specs.declared.kind.Kind.{Kind}
use Rattle.circuits.specs.declared.kind.Kind.TheVariants.{And, Nand, Or, Nor, Xor, Xnor, Buf, Not}

-- A buf and a not have one pin, and every other gate has two to four.
abbrev pub fits : Kind → ℕ → Bool
fits And n = nat_le 2 n && nat_le n 4
fits Nand n = nat_le 2 n && nat_le n 4
fits Or n = nat_le 2 n && nat_le n 4
fits Nor n = nat_le 2 n && nat_le n 4
fits Xor n = nat_le 2 n && nat_le n 4
fits Xnor n = nat_le 2 n && nat_le n 4
fits Buf n = n == 1
fits Not n = n == 1

-- whether two bits differ
abbrev pub differ : Bool → Bool → Bool
differ x y = cond x (not y) y

-- whether every bit is 1
unfoldable pub every : List Bool → Bool
every [] = true
every (b ∷ bs) = b && every bs

-- whether some bit is 1
unfoldable pub some : List Bool → Bool
some [] = false
some (b ∷ bs) = b || some bs

-- whether an odd number of bits is 1
unfoldable pub odd : List Bool → Bool
odd [] = false
odd (b ∷ bs) = differ b (odd bs)

-- the only bit of a gate with one pin
abbrev pub only : List Bool → Bool
only bs = slice_index_or bs 0 false

-- the bit of a gate whose pins receive these bits
abbrev pub gate_bit : Kind → List Bool → Bool
gate_bit And bs = every bs
gate_bit Nand bs = not (every bs)
gate_bit Or bs = some bs
gate_bit Nor bs = not (some bs)
gate_bit Xor bs = odd bs
gate_bit Xnor bs = not (odd bs)
gate_bit Buf bs = only bs
gate_bit Not bs = not (only bs)

-- how many bits are 1
unfoldable pub ones : List Bool → ℕ
ones [] = 0
ones (b ∷ bs) = cond b 1 0 + ones bs
