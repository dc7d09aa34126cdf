-- The rows of the report, byte by byte.
use Rattle.std.specs.Prelude.{ℕ, List, ◌++◌, length, codes, decimal}
use Rattle.circuits.specs.Drafts.{Parts}
use Rattle.circuits.specs.Specification.{misses}
use Rattle.texts.specs.Faults.{read_number, text_letter}
use Rattle.texts.specs.declared.fault.ReadFault.{ReadFault}
use Rattle.texts.specs.declared.fault.ReadFault.TheVariants as read

-- job, and four numbers
abbrev pub job_numbers_bytes : ℕ → ℕ → ℕ → ℕ → List ℕ
job_numbers_bytes a b c d = codes "job," ++ (decimal a ++ (codes "," ++ (decimal b ++ (codes "," ++ (decimal c ++ (codes "," ++ (decimal d ++ codes "\n")))))))

-- the row of a design: its inputs, gates and outputs, and the outputs that do not meet their rows
abbrev pub job_row_bytes : Parts → List ℕ
job_row_bytes d = job_numbers_bytes (length d.circuit.inputs) (length d.circuit.gates) (length d.circuit.outputs) (misses d.circuit d.rows)

-- stop, a number, a letter, and three numbers
abbrev pub stop_numbers_bytes : ℕ → List ℕ → ℕ → ℕ → ℕ → List ℕ
stop_numbers_bytes a t b c d =
    codes "stop," ++ (decimal a ++ (codes "," ++ (t ++ (codes "," ++ (decimal b ++ (codes "," ++ (decimal c ++ (codes "," ++ (decimal d ++ codes "\n")))))))))

-- the row of a fault: its number, its text, and the number, place and length of the record
abbrev pub stop_row_bytes : ReadFault → List ℕ
stop_row_bytes (read.Text f) = stop_numbers_bytes (read_number (read.Text f)) (text_letter f.text) f.«record» f.place f.length
