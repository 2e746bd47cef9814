-- Records that are written are read.
use Rattle.std.proofs.Common.{◌≡◌, ◌≤◌, ◌+◌, ◌-◌, ℕ, true, List, [], ◌∷◌, take, drop, refl, ap, ◌∙◌, arith}
use Rattle.std.proofs.lemmas.List.{drop-take}
use Rattle.log_text.specs.declared.form.LogForm.{LogForm}
use Rattle.protocol.specs.declared.records.LogRecord.{LogRecord}
use Rattle.log_text.specs.Payloads.{records_text}
use Rattle.log_records.specs.Texts.{is_whole, records_in}
use Rattle.log_records.specs.Sights.{AreRecords, body}
use Rattle.log_records.proofs.Frames.{no_records, nothing_whole, own_record, own_whole}

pub written : (p : LogForm) (ls : List LogRecord) → AreRecords p.kind ls
    → records_in p 0 (records_text p ls) ≡ ls
unfolding records_text
written p [] are = no_records p
written p (l ∷ ls) are = own_record p l (records_text p ls) (are.0 p refl)
    ∙ ap (λ t. l ∷ t) (written p ls are.1)

pub whole_text : (p : LogForm) (ls : List LogRecord) → AreRecords p.kind ls
    → is_whole p 0 (records_text p ls) ≡ true
unfolding records_text
whole_text p [] are = nothing_whole p
whole_text p (l ∷ ls) are = own_whole p l (records_text p ls) (are.0 p refl) ∙ whole_text p ls are.1

pub body_taken : (n : ℕ) (text : List ℕ) → 5 ≤ n → body (take n text) ≡ take (n - 5) (body text)
body_taken n text h =
    let e : n ≡ 5 + (n - 5) = omega arith in ap (λ k. drop 5 (take k text)) e ∙ drop-take 5 (n - 5) text
