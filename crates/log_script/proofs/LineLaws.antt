-- The line of a log: what is read is spelled so, and what is spelled so is read.
use Rattle.std.proofs.Common.{◌≡◌, ◌<◌, ◌/◌, ◌%◌, ℕ, Bool, true, false, cond, eqb, Option, Some, None, Ok, List, [], ◌∷◌, ◌++◌, length, refl, ap, sym, subst, ◌∙◌, arith, codes, not}
use Rattle.std.specs.List.{All, list_all}
use Rattle.std.proofs.lemmas.List.{append-nil}
use Rattle.std.proofs.lemmas.List.Elements.{All-nil}
use Rattle.std.proofs.lemmas.Bool.{and_parts, eqb-true}
use Rattle.std.proofs.lemmas.Bool.Decides.{nat_tests}
use Rattle.hex.specs.Hex.{encode_lower, decode_sized}
use Rattle.spellings.specs.HexText.{Spells, is_lower_digit}
use Rattle.spellings.specs.Words.{cut_at}
use Rattle.spellings.proofs.HexText.{spells_some, spelled_lower, spelled_even, length-spelled, decodes, encode_nil}
use Rattle.spellings.proofs.Cuts.{cut_takes, cut_again, some_is}
use Rattle.protocol.specs.declared.names.ProcessId.{ProcessId}
use Rattle.tree_script.specs.Names.{process_at}
use Rattle.script_words.specs.Steps.{same}
use Rattle.tree_script.specs.Spellings.{process_text, FitsProcess, ReadIsSpelled, SpelledIsRead}
use Rattle.tree_script.proofs.Misses.{bind_some, misses_without, cut_none, same_tells, blank}
use Rattle.tree_script.proofs.NameLaws.{process_takes, process_again, process_misses}
use Rattle.log_script.specs.declared.line.ProcessLog.{ProcessLog}
use Rattle.log_script.specs.Lines.{FitsLog, are_digits, bytes_at, bytes_part, decoded, log_at, log_line, log_parts, log_words, process_log}

-- a test that let something through
let_through : {A : Type 0} (b : Bool) (x : Option A) (y : A) → cond b x None ≡ Some y
    → (b ≡ true) × (x ≡ Some y)
let_through true x y e = (refl, e)
let_through false x y e = absurd cc

-- a word of digits that spells these bytes, of which there is one
record AreBytes (w bytes : List ℕ) : Type 0 where
  some : 0 < length w
  fit : All (λ b. b < 256) bytes
  spelled : w ≡ encode_lower bytes

bytes_take : (w bytes : List ℕ) → bytes_at w ≡ Some bytes → AreBytes w bytes
unfolding bytes_at
bytes_take w bytes e =
    let passed = let_through (are_digits w) (decoded (decode_sized w (length w / 2))) bytes e in
    let parts = and_parts (not (eqb (length w) 0)) _ passed.0 in
    let more = and_parts (eqb (length w % 2) 0) (list_all is_lower_digit w) parts.1 in
    let even : length w % 2 ≡ 0 = eqb-true _ _ more.0 in
    let some : 0 < length w = let t = parts.0 in grind (arith, nat_tests) in
    let found = spells_some w even more.1 in
    let d : decode_sized w (length w / 2) ≡ Ok found.0 =
    decodes w found.0 (length w / 2) found.1 (omega arith) in
    let is : Some found.0 ≡ Some bytes = rw d at passed.1 in
    subst (λ (bs : List ℕ). AreBytes w bs) (some_is found.0 bytes is)
    (record { some = some; fit = found.1.fits; spelled = found.1.spelled })

bytes_again : (b : ℕ) (bs : List ℕ) → All (λ b. b < 256) (b ∷ bs)
    → bytes_at (encode_lower (b ∷ bs)) ≡ Some (b ∷ bs)
unfolding bytes_at
bytes_again b bs fit =
    let w = encode_lower (b ∷ bs) in
    let h : Spells w (b ∷ bs) = record { fits = fit; spelled = refl } in
    let size = length-spelled w (b ∷ bs) h in
    let some : eqb (length w) 0 ≡ false = grind (arith, nat_tests) in
    let even : eqb (length w % 2) 0 ≡ true = let e = spelled_even w (b ∷ bs, h) in grind (arith, nat_tests) in
    let d : decode_sized w (length w / 2) ≡ Ok (b ∷ bs) =
    decodes w (b ∷ bs) (length w / 2) h (omega (arith, spelled_even w (b ∷ bs, h))) in
    rw (some, even, spelled_lower w (b ∷ bs, h), d) refl

part_of : (w bytes : List ℕ) → AreBytes w bytes → bytes_part bytes ≡ 32 ∷ w
part_of w [] h = absurd (let e = ap length (h.spelled ∙ encode_nil) in let some = h.some in omega (arith, e))
part_of w (b ∷ bytes) h = ap (λ (t : List ℕ). 32 ∷ t) (sym h.spelled)

abbrev IsLine : List ℕ → ProcessLog → Type 0
IsLine w l = (w ≡ log_line l) × FitsLog l

no_bytes : All (λ b. b < 256) []
no_bytes = All-nil (λ b. b < 256)

parts_take : (rest : List ℕ) (o : Option (List ℕ × List ℕ)) → cut_at 32 rest ≡ o → (l : ProcessLog)
    → log_parts rest o ≡ Some l
    → IsLine (codes "log " ++ rest) l
parts_take rest None cut l e =
    let a = bind_some (process_at rest) _ l e in
    let p = process_takes rest a.0 a.1 in
    subst (λ (x : ProcessLog). IsLine (codes "log " ++ rest) x) (some_is (process_log a.0 []) l a.2) (
      ap (λ (t : List ℕ). codes "log " ++ t) (p.0 ∙ sym (append-nil (process_text a.0))),
      record { process_fits = p.1; bytes_fit = no_bytes },
    )
parts_take rest (Some q) cut l e =
    let a = bind_some (process_at q.0) _ l e in
    let b = bind_some (bytes_at q.1) _ l a.2 in
    let p = process_takes q.0 a.0 a.1 in
    let h = bytes_take q.1 b.0 b.1 in
    let text : rest ≡ process_text a.0 ++ bytes_part b.0 =
    cut_takes 32 rest q cut ∙ ap (λ (t : List ℕ). t ++ 32 ∷ q.1) p.0
    ∙ ap (λ (t : List ℕ). process_text a.0 ++ t) (sym (part_of q.1 b.0 h)) in
    subst (λ (x : ProcessLog). IsLine (codes "log " ++ rest) x) (some_is (process_log a.0 b.0) l b.2)
    (ap (λ (t : List ℕ). codes "log " ++ t) text, record { process_fits = p.1; bytes_fit = h.fit })

line_read : (line : List ℕ) (o : Option (List ℕ × List ℕ)) → cut_at 32 line ≡ o → (l : ProcessLog)
    → log_words o ≡ Some l → IsLine line l
line_read line None cut l e = absurd cc
line_read line (Some p) cut l e =
    let passed = let_through (same p.0 (codes "log")) (log_parts p.1 (cut_at 32 p.1)) l e in
    let text : line ≡ codes "log " ++ p.1 = cut_takes 32 line p cut
    ∙ ap (λ (t : List ℕ). t ++ 32 ∷ p.1) (same_tells p.0 (codes "log") passed.0) in
    subst (λ (t : List ℕ). IsLine t l) (sym text) (parts_take p.1 (cut_at 32 p.1) refl l passed.1)

pub line_takes : ReadIsSpelled log_at log_line FitsLog
unfolding log_at
line_takes line l e = line_read line (cut_at 32 line) refl l e

log_cut : (rest : List ℕ) → cut_at 32 (codes "log " ++ rest) ≡ Some (codes "log", rest)
log_cut rest = cut_again 32 (codes "log") rest (misses_without 32 (codes "log") refl)

again : (p : ProcessId) (bytes : List ℕ) → FitsProcess p → All (λ b. b < 256) bytes
    → log_at (log_line (process_log p bytes)) ≡ Some (process_log p bytes)
unfolding log_at
again p [] fits fit =
    ap log_at (ap (λ (t : List ℕ). codes "log " ++ t) (append-nil (process_text p)))
    ∙ rw (
      log_cut (process_text p),
      cut_none 32 (process_text p) (process_misses 32 blank p fits),
      process_again p fits,
    ) refl
again p (b ∷ bs) fits fit =
    let word = encode_lower (b ∷ bs) in
    rw (
      log_cut (process_text p ++ 32 ∷ word),
      cut_again 32 (process_text p) word (misses_without 32 (process_text p)
          (process_misses 32 blank p fits)),
      process_again p fits,
      bytes_again b bs fit,
    ) refl

pub line_again : SpelledIsRead log_at log_line FitsLog
line_again l fits = again l.process l.bytes fits.process_fits fits.bytes_fit
