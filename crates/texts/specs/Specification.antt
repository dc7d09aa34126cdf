-- The specification: what each of its records does to a design that is being read.
use Rattle.std.specs.Prelude.{◌≡◌, ℕ, true, List, Ok, Err, Result}
use Rattle.circuits.specs.Drafts.{Parts}
use Rattle.circuits.specs.Names.{is_name}
use Rattle.texts.specs.declared.fault.Cause.{Cause}
use Rattle.texts.specs.declared.fault.Cause.TheVariants.{Shape}
use Rattle.texts.specs.declared.fault.Text.TheVariants.{Specification}
use Rattle.texts.specs.declared.fault.TextFault.{TextFault}
use Rattle.texts.specs.Adding.{RowAdded, RowRefused}
use Rattle.texts.specs.Records.{fields}
use Rattle.texts.specs.Shapes.{row_fields}
use Rattle.texts.specs.Walks.{Through, Stopped}

-- a record of a row: a name and two fields more
pub record SpellsRow (bs x p v : List ℕ) : Type 0 where
  pub good : is_name x ≡ true
  pub parts : fields bs ≡ row_fields x p v

-- One record: the first check that it fails is told. Otherwise its row is added.
pub data RowStep (d : Parts) (bs : List ℕ) : Result Parts Cause → Type 0 where
  shapeless : ((x p v : List ℕ) → SpellsRow bs x p v → ⊥) → RowStep d bs (Err Shape)
  refused : (x p v : List ℕ) (c : Cause) → SpellsRow bs x p v → RowRefused d x p v c → RowStep d bs (Err c)
  added : (x p v : List ℕ) (d' : Parts) → SpellsRow bs x p v → RowAdded d x p v d' → RowStep d bs (Ok d')

-- All records are taken.
abbrev pub SpecificationRead : List ℕ → Parts → Parts → Type 0
SpecificationRead bs d d' = Through RowStep bs d d'

-- A record is refused.
abbrev pub SpecificationRefused : List ℕ → Parts → TextFault → Type 0
SpecificationRefused bs d f = Stopped RowStep Specification bs d f
