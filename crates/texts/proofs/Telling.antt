-- What a refusal tells, and why a design that was read is whole.
use Rattle.std.proofs.Common.{◌≡◌, ℕ, ◌+◌, ◌<◌, ◌≤◌, List, length, Some, Ok, Result, sym, refl, ap, ◌∙◌, subst, arith}
use Rattle.circuits.specs.declared.fault.PartFault.{PartFault}
use Rattle.circuits.specs.Drafts.{Parts, whole_fault}
use Rattle.texts.specs.declared.fault.Cause.{Cause}
use Rattle.texts.specs.declared.fault.Cause.TheVariants.{TooLong, Shape, Order, Naming, Limit, PinCount, Literals, Contradiction}
use Rattle.texts.specs.declared.fault.ReadFault.{ReadFault}
use Rattle.texts.specs.declared.fault.Text.{Text}
use Rattle.texts.specs.declared.fault.Text.TheVariants.{Netlist, Specification}
use Rattle.texts.specs.declared.fault.TextFault.{TextFault}
use Rattle.texts.specs.Faults.{cause_number, of_text}
use Rattle.texts.specs.Netlist.{NetlistRead, NetlistRefused, at_record, at_end}
use Rattle.texts.specs.Reading.{most, too_long, Refused, netlist_long, netlist_refused, specification_long, specification_refused, Told, text_of}
use Rattle.texts.specs.Specification.{RowStep, added, SpecificationRead}
use Rattle.texts.specs.Walks.{record_place, At, ended, After, none, more, Stopped, stopped}
use Rattle.texts.proofs.Splits.{record_within}

numbers : (c : Cause) → (1 ≤ cause_number c) × (cause_number c ≤ 8)
numbers TooLong = (omega arith, omega arith)
numbers Shape = (omega arith, omega arith)
numbers Order = (omega arith, omega arith)
numbers Naming = (omega arith, omega arith)
numbers Limit = (omega arith, omega arith)
numbers PinCount = (omega arith, omega arith)
numbers Literals = (omega arith, omega arith)
numbers Contradiction = (omega arith, omega arith)

-- a record that is refused lies in its text
stopped_inside : {S : Type 0} (step : S → List ℕ → Result S Cause → Type 0) (t : Text) (bs : List ℕ) (start : S) (f : TextFault) → Stopped step t bs start f → (f.text ≡ t) × (f.place + f.length ≤ length bs)
stopped_inside step t bs start f (stopped n s c a on h) = (refl, record_within bs (record_place bs n) (omega arith))

netlist_inside : (bs : List ℕ) (f : TextFault) → NetlistRefused bs f → (f.text ≡ Netlist) × (f.place + f.length ≤ length bs)
netlist_inside bs f (at_record g h) = stopped_inside _ Netlist bs _ f h
netlist_inside bs f (at_end n g d a end h) = (refl, record_within bs (record_place bs n) (omega arith))

told_of : (n s : List ℕ) (f : TextFault) → f.place + f.length ≤ length (text_of n s f.text) → Told n s (of_text f)
told_of n s f h = record { first_number = (numbers f.cause).0; last_number = (numbers f.cause).1; inside = h }

inside_text : (n s : List ℕ) (f : TextFault) (t : Text) → (f.text ≡ t) × (f.place + f.length ≤ length (text_of n s t)) → Told n s (of_text f)
inside_text n s f t h = told_of n s f (subst (λ x. f.place + f.length ≤ length (text_of n s x)) (sym h.0) h.1)

pub told : (n s : List ℕ) (f : ReadFault) → Refused n s f → Told n s f
told n s f (netlist_long h) = told_of n s (too_long Netlist) (omega arith)
told n s f (netlist_refused g w h) = inside_text n s g Netlist (netlist_inside n g h)
told n s f (specification_long d w h l) = told_of n s (too_long Specification) (omega arith)
told n s f (specification_refused d g w h l k) = inside_text n s g Specification (stopped_inside _ Specification s d g k)

-- Rows leave the circuit.
row_keeps : (s s' : Parts) (bs : List ℕ) (place : ℕ) → At RowStep bs place s (Ok s') → s'.circuit ≡ s.circuit
row_keeps s s' bs place (ended r on (added x p v d h w)) = ap (λ q. q.circuit) w.added

rows_keep : (bs : List ℕ) (d : Parts) (n : ℕ) (d' : Parts) → After RowStep bs d n d' → d'.circuit ≡ d.circuit
rows_keep bs d n d' none = refl
rows_keep bs d n d' (more m s s' a on h) = row_keeps s d' bs (record_place bs m) h ∙ rows_keep bs d m s a

-- so a design that was read has an input and an output
pub read_whole : (n s : List ℕ) (d d' : Parts) (f : PartFault) → NetlistRead n d → SpecificationRead s d d' → whole_fault d' ≡ Some f → ⊥
read_whole n s d d' f h k e =
    let same : whole_fault d' ≡ whole_fault d = ap (λ c. whole_fault (record { circuit = c; rows = d'.rows })) (rows_keep s d k.records d' k.taken) in
    let gone = h.whole in
    let z : ◌≡◌ {A = ℕ} 0 1 = cc in
    omega arith

-- the refusals that come before the specification is read
pub long_netlist : (n s : List ℕ) (f : TextFault) → most < length n → f ≡ too_long Netlist → Refused n s (of_text f)
long_netlist n s f h e = subst (λ x. Refused n s (of_text x)) (sym e) (netlist_long h)

pub refused_netlist : (n s : List ℕ) (f : TextFault) → length n ≤ most → NetlistRefused n f → Refused n s (of_text f)
refused_netlist n s f w h = netlist_refused f w h

pub long_specification : (n s : List ℕ) (d : Parts) (f : TextFault) → length n ≤ most → NetlistRead n d → most < length s → f ≡ too_long Specification → Refused n s (of_text f)
long_specification n s d f w r h e = subst (λ x. Refused n s (of_text x)) (sym e) (specification_long d w r h)
