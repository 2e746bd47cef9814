-- What a log holds, as it was found.
use Rattle.std.proofs.Common.{◌≡◌, ℕ, List, [], ◌∷◌, ◌++◌, map, refl, ap, ◌∙◌, append-nil, append_assoc}
use Rattle.protocol.specs.declared.names.ProcessId.{ProcessId}
use Rattle.protocol.specs.declared.records.LogRecord.{LogRecord}
use Rattle.log_text.specs.declared.form.LogForm.{LogForm}
use Rattle.log_rules.specs.order.Logs.{LogReading, Whole, read_log}
use Rattle.log_records.specs.declared.opening.StoreText.{StoreText}
use Rattle.log_records.specs.declared.opening.StoreText.TheVariants.{Empty, Sound}
use Rattle.log_records.specs.Openings.{IsLogFound}
use Rattle.log_script.specs.Places.{Placed, placed_records}
use Rattle.log_script.proofs.PlaceLaws.{places_tell}
use Rattle.log_lines.specs.Held.{heading_text, held_text, records_text, tail_text, torn_text}

nothing_placed : (xs : List Placed) → map (λ x. x.read) xs ≡ [] → xs ≡ []
nothing_placed [] e = refl
nothing_placed (x ∷ xs) e = absurd (cc)

abbrev of_parts : ProcessId → List Placed → LogReading → List ℕ
of_parts q xs r = heading_text q ++ records_text xs ++ tail_text r

no_parts : (q : ProcessId) → of_parts q [] (Whole [] 0) ≡ heading_text q
no_parts q = append-nil (heading_text q ++ []) ∙ append-nil (heading_text q)

-- what a log without a record holds
pub held_none : (p : LogForm) (bytes : List ℕ) → read_log p bytes ≡ Whole [] 0
    → held_text p bytes ≡ heading_text p.process
unfolding held_text
held_none p bytes is =
    ap (λ xs. of_parts p.process xs (read_log p bytes))
    (nothing_placed (placed_records p bytes) (places_tell p bytes [] 0 is))
    ∙ ap (λ r. of_parts p.process [] r) is ∙ no_parts p.process

-- what a log with a torn tail holds
pub held_some : (p : LogForm) (bytes : List ℕ) (ls : List LogRecord) (torn : ℕ)
    → read_log p bytes ≡ Whole ls torn
    → held_text p bytes ≡ heading_text p.process ++ records_text (placed_records p bytes) ++ torn_text torn
unfolding held_text
held_some p bytes ls torn is = ap (λ r. heading_text p.process ++ records_text (placed_records p bytes)
    ++ tail_text r) is

-- What was found of a log that is sound.

pub held_empty : (p : LogForm) (bytes : List ℕ) (found : StoreText) → IsLogFound p bytes found
    → found ≡ Empty → held_text p bytes ≡ heading_text p.process
held_empty p bytes Empty h e = held_none p bytes h.1
held_empty p bytes (Sound torn) h e = absurd (cc)

sound_torn : (a b : ℕ) → Sound a ≡ Sound b → a ≡ b
sound_torn a b e = cc

pub held_sound : (p : LogForm) (bytes : List ℕ) (found : StoreText) (torn : ℕ)
    → IsLogFound p bytes found → found ≡ Sound torn
    → held_text p bytes ≡ heading_text p.process ++ records_text (placed_records p bytes) ++ torn_text torn
held_sound p bytes Empty torn h e = absurd (cc)
held_sound p bytes (Sound found) torn h e =
    held_some p bytes _ found (h.3 ∙ h.2.read)
    ∙ ap (λ n. heading_text p.process ++ records_text (placed_records p bytes) ++ torn_text n)
    (sound_torn found torn e)

pub joined : (old head records tail a b c : List ℕ) → a ≡ old ++ head → b ≡ a ++ records → c ≡ b ++ tail
    → c ≡ old ++ (head ++ records ++ tail)
joined old head records tail a b c e f g = g ∙ ap (λ t. t ++ tail) (f ∙ ap (λ t. t ++ records) e)
    ∙ simp append_assoc
