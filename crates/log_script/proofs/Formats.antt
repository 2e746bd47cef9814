-- By which format the bytes of a log are read.
use Rattle.std.proofs.Common.{◌≡◌, ◌==◌, ◌∙◌, ℕ, Bool, true, false, List, [], ◌∷◌, length, take, drop, refl, sym, ap, arith, nat_lt, if◌then◌else◌}
use Rattle.std.proofs.lemmas.Bool.Decides.{nat_tests}
use Rattle.protocol.specs.declared.names.Kind.{Kind}
use Rattle.protocol.specs.declared.names.ProcessId.{ProcessId}
use Rattle.protocol.specs.Records.{same_bytes}
use Rattle.log_text.specs.declared.form.LogForm.{LogForm}
use Rattle.log_text.specs.declared.form.LogFormat.{LogFormat}
use Rattle.log_text.specs.declared.form.LogFormat.TheVariants.{First, Second}
use Rattle.log_text.specs.Forms.{form_in, format_in, header, log_form, old_form}
use Rattle.log_rules.specs.order.Logs.{LogReading, Whole, Damaged, read_as, read_frames, read_log}
use Rattle.log_rules.specs.order.Orders.{nothing_seen}
use Rattle.log_rules.proofs.sound.Cuts.{is_number}
use Rattle.log_records.specs.Openings.{is_old}

same_is : (a b : List ℕ) → same_bytes a b ≡ true → a ≡ b
unfolding same_bytes
same_is [] [] h = refl
same_is [] (y ∷ b) h = absurd (cc)
same_is (x ∷ a) [] h = absurd (cc)
same_is (x ∷ a) (y ∷ b) h = grind (arith, same_is a b)

fifth : (a b c d f n : ℕ)
    → a ∷ b ∷ c ∷ d ∷ f ∷ [] ≡ 82 ∷ 76 ∷ 79 ∷ 71 ∷ n ∷ [] → f ≡ n
fifth a b c d f n e = cc

-- what begins as a log of a format is read by it
pub read_by_header : (bytes : List ℕ) (g : LogFormat) → take 5 bytes ≡ header g → format_in bytes ≡ g
read_by_header [] First e = absurd (cc)
read_by_header [] Second e = absurd (cc)
read_by_header (a ∷ []) First e = absurd (cc)
read_by_header (a ∷ []) Second e = absurd (cc)
read_by_header (a ∷ b ∷ []) First e = absurd (cc)
read_by_header (a ∷ b ∷ []) Second e = absurd (cc)
read_by_header (a ∷ b ∷ c ∷ []) First e = absurd (cc)
read_by_header (a ∷ b ∷ c ∷ []) Second e = absurd (cc)
read_by_header (a ∷ b ∷ c ∷ d ∷ []) First e = absurd (cc)
read_by_header (a ∷ b ∷ c ∷ d ∷ []) Second e = absurd (cc)
read_by_header (a ∷ b ∷ c ∷ d ∷ f ∷ rest) First e =
    ap (λ n. if n == 1 then First else Second) (fifth a b c d f 1 e)
read_by_header (a ∷ b ∷ c ∷ d ∷ f ∷ rest) Second e =
    ap (λ n. if n == 1 then First else Second) (fifth a b c d f 2 e)

-- the form of a log that begins as one of the second format
pub second_form : (bytes : List ℕ) (q : ProcessId) (k : Kind) → take 5 bytes ≡ header Second
    → form_in bytes q k ≡ log_form q k
second_form bytes q k begins =
    ap (λ g. record { format = g; process = q; kind = k }) (read_by_header bytes Second begins)

-- What begins as a log of neither format.

by_size : (few begins is : Bool) (r : LogReading) → few ≡ false → is ≡ false
    → (if few then (if begins then Whole [] 0 else Damaged 0) else if is then r else Damaged 0) ≡ Damaged 0
by_size true begins is r h i = absurd (cc)
by_size false begins true r h i = absurd (cc)
by_size false begins false r h i = refl

strange : (p : LogForm) (bytes : List ℕ) → nat_lt (length bytes) 5 ≡ false
    → same_bytes (take 5 bytes) (header p.format) ≡ false → read_log p bytes ≡ Damaged 0
unfolding read_log
strange p bytes h i =
    by_size (nat_lt (length bytes) 5) (same_bytes bytes (take (length bytes) (header p.format)))
    (same_bytes (take 5 bytes) (header p.format)) (read_frames p 5 nothing_seen 0 (drop 5 bytes)) h i

no : (x r : Bool) → r ≡ false → (if x then r else false) ≡ false
no true r h = h
no false r h = refl

not_second : (a b c d f : ℕ) → f ≡ 1 → same_bytes (a ∷ b ∷ c ∷ d ∷ f ∷ []) (header Second) ≡ false
unfolding same_bytes
not_second a b c d f is =
    no (a == 82) _ (no (b == 76) _ (no (c == 79) _
    (no (d == 71) _ (ap (λ n. if n == 2 then true else false) is))))

-- bytes that the fifth says to be of the first format, and that do not begin as one, are damaged by either
neither : (bytes : List ℕ) (q : ProcessId) (k : Kind) → is_old bytes ≡ false → format_in bytes ≡ First
    → read_log (old_form (log_form q k)) bytes ≡ read_log (log_form q k) bytes
neither [] q k new e = absurd (cc)
neither (a ∷ []) q k new e = absurd (cc)
neither (a ∷ b ∷ []) q k new e = absurd (cc)
neither (a ∷ b ∷ c ∷ []) q k new e = absurd (cc)
neither (a ∷ b ∷ c ∷ d ∷ []) q k new e = absurd (cc)
neither (a ∷ b ∷ c ∷ d ∷ f ∷ rest) q k new e =
    let bytes = a ∷ b ∷ c ∷ d ∷ f ∷ rest in
    let long : nat_lt (length bytes) 5 ≡ false = grind (arith, nat_tests) in
    strange (old_form (log_form q k)) bytes long new
    ∙ sym (strange (log_form q k) bytes long (not_second a b c d f (by_one (f == 1) refl e)))
  where
    by_one : (t : Bool) → (f == 1) ≡ t → (if t then First else Second) ≡ First → f ≡ 1
    by_one true is h = is_number f 1 is
    by_one false is h = absurd (cc)

-- what does not begin as a log of the first format is read by the second
pub read_by_second : (bytes : List ℕ) (q : ProcessId) (k : Kind) → is_old bytes ≡ false
    → read_as q k bytes ≡ read_log (log_form q k) bytes
read_by_second bytes q k new = by_format (format_in bytes) refl
  where
    by_format : (g : LogFormat) → format_in bytes ≡ g
        → read_log (record { format = g; process = q; kind = k }) bytes ≡ read_log (log_form q k) bytes
    by_format First is = neither bytes q k new is
    by_format Second is = refl

-- what begins as a log of the first format is read by it
pub read_by_first : (bytes : List ℕ) (q : ProcessId) (k : Kind) → is_old bytes ≡ true
    → read_as q k bytes ≡ read_log (old_form (log_form q k)) bytes
read_by_first bytes q k old =
    ap (λ g. read_log (record { format = g; process = q; kind = k }) bytes)
    (read_by_header bytes First (same_is (take 5 bytes) (header First) old))
