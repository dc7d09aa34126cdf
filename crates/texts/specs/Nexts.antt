-- The records of a text that an iterator gives.
use Rattle.std.specs.Prelude.{◌≡◌, ℕ, ◌+◌, ◌<◌, List, length, Some, None, Option}
use Rattle.std.specs.Borrow.{Bor}
use Rattle.texts.specs.declared.fault.Cause.{Cause}
use Rattle.texts.specs.declared.fault.Text.{Text}
use Rattle.texts.specs.declared.fault.TextFault.{TextFault}
use Rattle.texts.specs.declared.records.Records.{Records}
use Rattle.texts.specs.declared.records.Spot.{Spot}
use Rattle.texts.specs.Records.{record_at}

-- what is told of the record at a spot
abbrev pub spot_fault : Text → Spot → Cause → TextFault
spot_fault t s c = record { cause = c; text = t; «record» = s.number; place = s.place; length = s.length }

-- the spot of the record that begins at a place, after so many others
abbrev pub spot_at : List ℕ → ℕ → ℕ → Spot
spot_at bs n place = record { number = n + 1; place = place; length = length (record_at bs place) }

-- The next record of a text, where it ends with a line feed: what follows it is left. Where it does not, it is left.
abbrev pub NextRecord : Records → Option (Spot × Bor (List ℕ)) → Records → Type 0
NextRecord s None t = (t ≡ s) × (s.place + length (record_at s.text.now s.place) ≡ length s.text.now)
NextRecord s (Some r) t =
    (t.text.now ≡ s.text.now) × (t.earlier ≡ s.earlier + 1) × (r.0 ≡ spot_at s.text.now s.earlier s.place) × (r.1.now ≡ record_at s.text.now s.place) × (s.place + length (record_at s.text.now s.place) < length s.text.now)
