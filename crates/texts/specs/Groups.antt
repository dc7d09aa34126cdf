-- The groups of a netlist's records come in an order.
use Rattle.std.specs.Prelude.{ℕ, cond, Ok, Err, Result, nat_le}
use Rattle.texts.specs.declared.fault.Cause.{Cause}
use Rattle.texts.specs.declared.fault.Cause.TheVariants.{Order}
use Rattle.texts.specs.declared.group.Group.{Group}
use Rattle.texts.specs.declared.group.Group.TheVariants.{Inputs, Gates, Outputs}
use Rattle.texts.specs.declared.group.RecordKind.{RecordKind}
use Rattle.texts.specs.declared.group.RecordKind.TheVariants.{Input, Gate, Output}

-- how many groups come before
abbrev pub rank : Group → ℕ
rank Inputs = 0
rank Gates = 1
rank Outputs = 2

abbrev pub group_of : RecordKind → Group
group_of Input = Inputs
group_of Gate = Gates
group_of Output = Outputs

-- the group after a record of this kind, unless a later one has begun
abbrev pub next : Group → RecordKind → Result Group Cause
next g k = cond (nat_le (rank g) (rank (group_of k))) (Ok (group_of k)) (Err Order)
