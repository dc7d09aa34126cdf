-- A text is gone through record by record, until one is refused or the end is reached.
use Rattle.std.specs.Prelude.{◌≡◌, ℕ, zero, suc, ◌+◌, ◌<◌, List, length, Ok, Err, Result}
use Rattle.texts.specs.declared.fault.Cause.{Cause}
use Rattle.texts.specs.declared.fault.Cause.TheVariants.{Shape}
use Rattle.texts.specs.declared.fault.Text.{Text}
use Rattle.texts.specs.declared.fault.TextFault.{TextFault}
use Rattle.texts.specs.Records.{record_at}

-- where a record begins, after so many others
unfoldable pub record_place : List ℕ → ℕ → ℕ
record_place bs zero = 0
record_place bs (suc n) = record_place bs n + length (record_at bs (record_place bs n)) + 1

-- what is told of the record after so many others
abbrev pub fault_at : Text → List ℕ → ℕ → Cause → TextFault
fault_at t bs n c = record { cause = c; text = t; «record» = n + 1; place = record_place bs n; length = length (record_at bs (record_place bs n)) }

-- A record has to end with a line feed, and then it is as the step says.
pub data At {S : Type 0} (step : S → List ℕ → Result S Cause → Type 0) (bs : List ℕ) (place : ℕ) (s : S) : Result S Cause → Type 0 where
  unended : place + length (record_at bs place) ≡ length bs → At step bs place s (Err Shape)
  ended : (r : Result S Cause) → place + length (record_at bs place) < length bs → step s (record_at bs place) r → At step bs place s r

-- the state after so many records, none of which was refused
pub data After {S : Type 0} (step : S → List ℕ → Result S Cause → Type 0) (bs : List ℕ) (start : S) : ℕ → S → Type 0 where
  none : After step bs start 0 start
  more : (n : ℕ) (s s' : S) → After step bs start n s → record_place bs n < length bs → At step bs (record_place bs n) s (Ok s') → After step bs start (n + 1) s'

-- the state after all records
pub record Through {S : Type 0} (step : S → List ℕ → Result S Cause → Type 0) (bs : List ℕ) (start : S) (s : S) : Type 0 where
  pub records : ℕ
  pub taken : After step bs start records s
  pub all : record_place bs records ≡ length bs

-- the fault of the first record that is refused
pub data Stopped {S : Type 0} (step : S → List ℕ → Result S Cause → Type 0) (text : Text) (bs : List ℕ) (start : S) : TextFault → Type 0 where
  stopped : (n : ℕ) (s : S) (c : Cause) → After step bs start n s → record_place bs n < length bs → At step bs (record_place bs n) s (Err c) → Stopped step text bs start (fault_at text bs n c)
