-- Bytes that read as the same records are the same.
use Rattle.std.proofs.Common.{◌≡◌, ◌<◌, ◌∙◌, ◌++◌, ℕ, false, List, length, drop, refl, sym, ap, subst, inl, inr, take-append-drop, arith}
use Rattle.std.specs.Prelude.{All}
use Rattle.std.proofs.lemmas.Bool.{cases_lt}
use Rattle.std.proofs.lemmas.List.{get_or_past}
use Rattle.protocol.specs.declared.records.LogRecord.{LogRecord}
use Rattle.log_text.specs.declared.form.LogForm.{LogForm}
use Rattle.log_text.specs.Forms.{header}
use Rattle.log_text.specs.Payloads.{records_text}
use Rattle.log_text.proofs.NumberBytes.{bytes_behind}
use Rattle.log_rules.specs.sound.Written.{AreBytes}
use Rattle.proof_log_grammar.proofs.Wholes.{whole_is_text}
use Rattle.log_records.specs.Sights.{ReadsAs}

-- each number of a list is a byte, where each that is there is
pub each_byte : (xs : List ℕ) → All (λ b. b < 256) xs → AreBytes xs
each_byte xs all i =
    elim (cases_lt i (length xs)) [
      | inl here ↦ all i 0 here
      | inr past ↦ subst (λ b. b < 256) (sym (get_or_past xs i 0 past)) (omega arith)
    ]

-- a log that has not failed is the header and the frames of its records
pub log_is : (p : LogForm) (text : List ℕ) (ls : List LogRecord) → All (λ b. b < 256) text
    → ReadsAs p text ls false → text ≡ header p.format ++ records_text p ls
log_is p text ls all reads =
    sym (take-append-drop 5 text) ∙ ap (λ (t : List ℕ). t ++ drop 5 text) reads.begins
    ∙ ap (λ (t : List ℕ). header p.format ++ t)
    (whole_is_text p (drop 5 text) (bytes_behind 5 text (each_byte text all))
    (reads.whole refl) ∙ ap (records_text p) reads.read)
