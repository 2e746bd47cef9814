-- What a restart writes, and what a store makes of it.
use Rattle.std.specs.Prelude.{◌≡◌, ◌≤◌, ◌⊎◌, ℕ, Bool, true, false, if◌then◌else◌, List, ◌++◌, length, take}
use Rattle.log_text.specs.declared.form.LogForm.{LogForm}
use Rattle.protocol.specs.declared.records.LogRecord.{LogRecord}
use Rattle.log_store.specs.Stores.{MoreFailures}
use Rattle.log_text.specs.Payloads.{records_text}
use Rattle.log_records.specs.Sights.{EndsSound}

-- a text that a restart leaves: what is left without a torn tail, and new records
pub record LeavesText (p : LogForm) (left : List ℕ) (rs : List LogRecord) (text : List ℕ) : Type 0 where
  pub end : ℕ
  pub ends : EndsSound p left end
  pub is : text ≡ take end left ++ records_text p rs

-- what a restart writes: all that is to stand, in place of a torn tail; or the new records, after what is
-- left, which is whole
abbrev pub WritesLeft : LogForm → List ℕ → List LogRecord → Bool → List ℕ → Type 0
WritesLeft p left rs true text = LeavesText p left rs text
WritesLeft p left rs false text = EndsSound p left (length left) × (text ≡ records_text p rs)

-- the text is in place of what stood, or after it, all of it forced
pub record PutsLeft {S : Type 0} (bytes : S → List ℕ) (forced failures : S → ℕ) (old new : S) (anew : Bool)
    (text : List ℕ) : Type 0 where
  pub text_stands : bytes new ≡ (if anew then text else bytes old ++ text)
  pub all : forced new ≡ length (bytes new)
  pub failures_stay : failures new ≡ failures old

-- what stands where the device failed: the old bytes with the old front, or the text, all forced; or a front
-- of the text came after the old bytes, and the forced front did not shrink
abbrev pub StandsLeft : Bool → List ℕ → ℕ → List ℕ → ℕ → List ℕ → Type 0
StandsLeft true old forced new forced' text =
    ((new ≡ old) × (forced' ≡ forced)) ⊎ ((new ≡ text) × (forced' ≡ length text))
StandsLeft false old forced new forced' text =
    (came : ℕ) × (new ≡ old ++ take came text) × (forced ≤ forced')

-- the device failed as the text was put there
pub record BreaksLeft {S : Type 0} (bytes : S → List ℕ) (forced failures : S → ℕ) (old new : S) (anew : Bool)
    (text : List ℕ) : Type 0 where
  pub stands : StandsLeft anew (bytes old) (forced old) (bytes new) (forced new) text
  pub cause : MoreFailures (failures old) (failures new)
