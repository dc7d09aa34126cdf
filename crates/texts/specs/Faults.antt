-- The numbers that refusals have, and which of them the refusal of a part is.
use Rattle.std.specs.Prelude.{ℕ, List, codes}
use Rattle.circuits.specs.declared.fault.PartFault.{PartFault}
use Rattle.circuits.specs.declared.fault.PartFault.TheVariants as part
use Rattle.texts.specs.declared.fault.Cause.{Cause}
use Rattle.texts.specs.declared.fault.Cause.TheVariants.{TooLong, Shape, Order, Naming, Limit, PinCount, Literals, Contradiction}
use Rattle.texts.specs.declared.fault.ReadFault.{ReadFault}
use Rattle.texts.specs.declared.fault.ReadFault.TheVariants as read
use Rattle.texts.specs.declared.fault.Text.{Text}
use Rattle.texts.specs.declared.fault.Text.TheVariants.{Netlist, Specification}
use Rattle.texts.specs.declared.fault.TextFault.{TextFault}

abbrev pub cause_number : Cause → ℕ
cause_number TooLong = 1
cause_number Shape = 2
cause_number Order = 3
cause_number Naming = 4
cause_number Limit = 5
cause_number PinCount = 6
cause_number Literals = 7
cause_number Contradiction = 8

abbrev pub fault_number : TextFault → ℕ
fault_number f = cause_number f.cause

abbrev pub read_number : ReadFault → ℕ
read_number (read.Text f) = fault_number f

-- a text's fault as a reading's
abbrev pub of_text : TextFault → ReadFault
of_text f = read.Text f

-- a part's fault as a record's
abbrev pub cause_of : PartFault → Cause
cause_of part.Order = Order
cause_of part.Limit = Limit
cause_of part.Naming = Naming
cause_of part.PinCount = PinCount
cause_of part.Literals = Literals
cause_of part.Contradiction = Contradiction

-- the letter of a text
abbrev pub text_letter : Text → List ℕ
text_letter Netlist = codes "n"
text_letter Specification = codes "s"
