-- The list that a short list holds.
use Rattle.std.specs.Prelude.{ℕ, List, take}
use Rattle.circuits.specs.declared.short.Blank.{Ghosts}
use Rattle.circuits.specs.declared.short.Short.{Short}

abbrev pub entries : {X : Type 0} {n : ℕ} {blank : Ghosts X} → Short X n blank → List X
entries s = take s.len s.table
