-- How marks, kinds of gate, literals and values are written in fields.
use Rattle.std.specs.Prelude.{ℕ, Bool, true, false, cond, List, [], ◌∷◌, map, codes, ◌==◌}
use Rattle.circuits.specs.declared.kind.Kind.{Kind}
use Rattle.circuits.specs.declared.kind.Kind.TheVariants.{And, Nand, Or, Nor, Xor, Xnor, Buf, Not}
use Rattle.circuits.specs.declared.literal.Literal.{Literal}
use Rattle.circuits.specs.declared.literal.Literal.TheVariants.{Zero, One, Dash}

-- An exclamation mark, byte 33, stands before the name of a stem that is read inverted.
abbrev pub marked_word : Bool → List ℕ → List ℕ
marked_word m name = cond m (33 ∷ name) name

abbrev pub has_mark : List ℕ → Bool
has_mark [] = false
has_mark (b ∷ bs) = b == 33

-- a field without its mark
abbrev pub past_mark : List ℕ → List ℕ
past_mark [] = []
past_mark (b ∷ bs) = cond (b == 33) bs (b ∷ bs)

abbrev pub kind_word : Kind → List ℕ
kind_word And = codes "and"
kind_word Nand = codes "nand"
kind_word Or = codes "or"
kind_word Nor = codes "nor"
kind_word Xor = codes "xor"
kind_word Xnor = codes "xnor"
kind_word Buf = codes "buf"
kind_word Not = codes "not"

-- the bytes 0, 1 and -
abbrev pub literal_byte : Literal → ℕ
literal_byte Zero = 48
literal_byte One = 49
literal_byte Dash = 45

abbrev pub pattern_word : List Literal → List ℕ
pattern_word ls = map literal_byte ls

-- the byte 0 or 1
abbrev pub value_word : Bool → List ℕ
value_word false = 48 ∷ []
value_word true = 49 ∷ []
