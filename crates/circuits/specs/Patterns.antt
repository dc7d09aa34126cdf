-- What stands in the table of a pattern's literals where there is no literal.
use Rattle.std.specs.Prelude.{Bool, true, false}
use Rattle.circuits.specs.declared.literal.Literal.{Literal}
use Rattle.circuits.specs.declared.literal.Literal.TheVariants.{Zero, One, Dash}

-- An entry that is not used is a dash.
abbrev pub is_dash : Literal → Bool
is_dash Zero = false
is_dash One = false
is_dash Dash = true
