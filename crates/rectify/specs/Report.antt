-- The report on two texts.
use Rattle.std.specs.Prelude.{ℕ, List}
use Rattle.circuits.specs.Drafts.{Parts}
use Rattle.texts.specs.Reading.{Accepted, Refused}
use Rattle.texts.specs.declared.fault.ReadFault.{ReadFault}
use Rattle.rectify.specs.Rows.{job_row_bytes, stop_row_bytes}

-- The row of the design that the texts write, or the row of the fault for which they are refused.
pub data Reported (netlist specification : List ℕ) : List ℕ → Type 0 where
  accepted : (d : Parts) → Accepted netlist specification d → Reported netlist specification (job_row_bytes d)
  refused : (f : ReadFault) → Refused netlist specification f → Reported netlist specification (stop_row_bytes f)
