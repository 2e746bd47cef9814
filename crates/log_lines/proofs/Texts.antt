-- The text of records, one by one.
use Rattle.std.proofs.Common.{◌≡◌, ℕ, List, [], ◌∷◌, ◌++◌, sym, ap, ◌∙◌, append-nil, append_assoc}
use Rattle.protocol.specs.declared.records.LogRecord.{LogRecord}
use Rattle.log_lines.specs.Held.{placed_text, records_text}
use Rattle.log_script.specs.Places.{Placed, placed}

pub text_ends : (out total : List ℕ) (xs : List Placed) → xs ≡ [] → out ++ records_text xs ≡ total
    → out ≡ total
text_ends out total xs e h = sym (append-nil out) ∙ sym (ap (λ ys. out ++ records_text ys) e) ∙ h

pub text_goes_on : (out new total : List ℕ) (place : ℕ) (l : LogRecord) (xs more : List Placed)
    → new ≡ out ++ placed_text place l.entry → xs ≡ placed place l ∷ more
    → out ++ records_text xs ≡ total → new ++ records_text more ≡ total
text_goes_on out new total place l xs more n e h =
    ap (λ t. t ++ records_text more) n ∙ append_assoc out (placed_text place l.entry) (records_text more)
    ∙ sym (ap (λ ys. out ++ records_text ys) e) ∙ h
