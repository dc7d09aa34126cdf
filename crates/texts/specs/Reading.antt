-- Reading the two texts of a design.
use Rattle.std.specs.Prelude.{ℕ, ◌+◌, ◌<◌, ◌≤◌, cond, List, [], length, take, drop, nat_le}
use Rattle.circuits.specs.Drafts.{Parts}
use Rattle.texts.specs.declared.fault.Cause.TheVariants.{TooLong}
use Rattle.texts.specs.declared.fault.ReadFault.{ReadFault}
use Rattle.texts.specs.declared.fault.ReadFault.TheVariants as read
use Rattle.texts.specs.declared.fault.Text.{Text}
use Rattle.texts.specs.declared.fault.Text.TheVariants.{Netlist, Specification}
use Rattle.texts.specs.declared.fault.TextFault.{TextFault}
use Rattle.texts.specs.Faults.{of_text, read_number}
use Rattle.texts.specs.Netlist.{NetlistRead, NetlistRefused}
use Rattle.texts.specs.Specification.{SpecificationRead, SpecificationRefused}

-- the most bytes that a text may have
abbrev pub most : ℕ
most = 8192

-- the fault of a text that is too long
abbrev pub too_long : Text → TextFault
too_long t = record { cause = TooLong; text = t; «record» = 0; place = 0; length = 0 }

-- The netlist is read, and then the specification. The design is what both give.
pub record Accepted (netlist specification : List ℕ) (d : Parts) : Type 0 where
  pub short_netlist : length netlist ≤ most
  pub circuit : Parts
  pub netlist_read : NetlistRead netlist circuit
  pub short_specification : length specification ≤ most
  pub specification_read : SpecificationRead specification circuit d

-- What is refused first is told. The specification is not looked at before the netlist is wholly read.
pub data Refused (netlist specification : List ℕ) : ReadFault → Type 0 where
  netlist_long : most < length netlist → Refused netlist specification (of_text (too_long Netlist))
  netlist_refused : (f : TextFault) → length netlist ≤ most → NetlistRefused netlist f → Refused netlist specification (of_text f)
  specification_long : (d : Parts) → length netlist ≤ most → NetlistRead netlist d → most < length specification → Refused netlist specification (of_text (too_long Specification))
  specification_refused : (d : Parts) (f : TextFault) → length netlist ≤ most → NetlistRead netlist d → length specification ≤ most → SpecificationRefused specification d f → Refused netlist specification (of_text f)

-- the text of this name
abbrev pub text_of : List ℕ → List ℕ → Text → List ℕ
text_of netlist specification Netlist = netlist
text_of netlist specification Specification = specification

-- The record of a fault lies inside the text that the fault names.
abbrev pub Inside : List ℕ → List ℕ → ReadFault → Type 0
Inside netlist specification (read.Text f) = f.place + f.length ≤ length (text_of netlist specification f.text)

pub record Told (netlist specification : List ℕ) (f : ReadFault) : Type 0 where
  pub first_number : 1 ≤ read_number f
  pub last_number : read_number f ≤ 8
  pub inside : Inside netlist specification f

-- the bytes of a text from a place on, so many of them, or none where they do not lie inside it
abbrev pub part_at : List ℕ → ℕ → ℕ → List ℕ
part_at bs place n = cond (nat_le (place + n) (length bs)) (take n (drop place bs)) []
