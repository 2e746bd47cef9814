-- What is read of an input and written of a text, and how a run ends.
use Rattle.std.specs.Prelude.{◌≡◌, ◌≢◌, ℕ, List, take, Option, IfSome}
use Rattle.std.specs.Io.KnownBytes.{Appends}
use Rattle.report_io.specs.declared.status.Status.{Status}
use Rattle.report_io.specs.declared.status.Status.TheVariants.{Ended, Refused, Stopped}
use Rattle.report_io.specs.declared.streams.Failure.{Failure}
use Rattle.report_io.specs.declared.streams.Failure.TheVariants as failure

-- a front of the text was written
abbrev pub WritesFront : Option (List ℕ) → Option (List ℕ) → List ℕ → Type 0
WritesFront old new text = (n : ℕ) × Appends old new (take n text)

-- these bytes are what a reader had left, where the reader says what it has
abbrev pub IsInput : Option (List ℕ) → List ℕ → Type 0
IsInput remaining input = IfSome remaining (λ all. input ≡ all)

-- the exit status
abbrev pub status_number : Status → ℕ
status_number Ended = 0
status_number Refused = 1
status_number Stopped = 2

-- a failure of the run itself, neither of reading nor of writing: memory was refused, the device of a log
-- failed, or numbers are used up
abbrev pub IsOfRun : Failure → Type 0
IsOfRun e = (e ≢ failure.Read) × (e ≢ failure.Write)
