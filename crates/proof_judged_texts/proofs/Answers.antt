-- The words of an answer's line, and what they say.
use Rattle.std.proofs.Common.{◌≡◌, ℕ, ◌<◌, ◌^◌, Bool, true, false, cond, List, [], ◌∷◌, ◌++◌, length, map, Bor, Option, Some, None, refl, suc, sym, ap, ◌∙◌, subst, codes, zero, arith, replicate, IsAscii, IsUtf8}
use Rattle.std.specs.Prelude.{◌||◌}
use Rattle.std.specs.Cmp.Lexicographic.{bytes_decides}
use Rattle.std.specs.Fmt.{decimal}
use Rattle.std.specs.Global.{Global, Vec}
use Rattle.std.specs.String.{string_vec}
use Rattle.std.specs.Vec.{with_items}
use Rattle.std.specs.Vec.Covariant.{in_vec}
use Rattle.std.proofs.StringFromBytes.{spelled}
use Rattle.std.proofs.lemmas.Str.{IsUtf8-from_ascii}
use Rattle.std.specs.List.{AllByRecursion, flat_map}
use Rattle.std.proofs.lemmas.List.{append-nil, length-replicate, with_items_is}
use Rattle.spellings.specs.Numerals.{number_at}
use Rattle.spellings.proofs.Numerals.{number_again}
use Rattle.script_words.specs.Operations.{is_visible_word}
use Rattle.script_words.specs.Steps.{same}
use Rattle.xa_assoc.specs.Errors.{number_of}
use Rattle.xa_assoc.specs.declared.errors.WorkError.{WorkError}
use Rattle.xa_assoc.specs.declared.errors.WorkError.TheVariants as work_error
use Rattle.xa_codes.specs.Codes.{code_name}
use Rattle.xa_codes.specs.declared.code.Code.{Code as AnyCode}
use Rattle.xa_words.specs.code
use Rattle.xa_xid.specs.Text.{xid_text}
use Rattle.xa_xid.specs.Xids.{IsXid, null_xid}
use Rattle.xa_xid.specs.declared.xid.Xid.{Xid}
use Rattle.judge_script.specs.Answers.{AreNames, IsReadAnswer, IsRestartAnswer, SaysBy, is_refusal, is_told}
use Rattle.judge_script.specs.declared.answers.SaidAnswer.{SaidAnswer}
use Rattle.judge_script.specs.declared.answers.SaidAnswer.TheVariants as said
use Rattle.xa_engine.specs.Answers.{answer_text, branch_text, decide_number, holder_text, restart_number, trim_number}
use Rattle.xa_engine.specs.declared.answer.RequestAnswer.{RequestAnswer}
use Rattle.xa_engine.specs.declared.answer.RequestAnswer.TheVariants.{Code, Given, Found, Done, Refused, Booted, NotBooted, Trimmed, NotTrimmed, NotDecided}
use Rattle.proof_judged_texts.proofs.Requests.{visible_word}
use Rattle.proof_judged_texts.proofs.Words.{AreWords, IsWord, decimal_word, line_of, word_is}
use Rattle.proof_judged_texts.proofs.Flags.{one_name, xid_word}

-- an answer whose line can be read: each branch that it gives is an XID, and they are fewer than 2^63; the
-- value that it gives is one that a script can write
abbrev pub IsReadable : RequestAnswer → Type 0
IsReadable (Given xs) = (length xs < 2 ^ 63) × AllByRecursion IsXid xs
IsReadable (Found (Some v)) = is_visible_word 256 v ≡ true
IsReadable _ = Unit {0}

-- so are all of them
abbrev pub AreReadable : List RequestAnswer → Type 0
AreReadable answers = AllByRecursion IsReadable answers

-- what a line of a transcript says is an answer to a script
abbrev pub Tells : SaidAnswer → RequestAnswer → Type 0
Tells (said.Code c) (Code d) = c ≡ d
Tells (said.Given xs) (Given ys) = xs.items ≡ ys
Tells (said.Found v) (Found None) = v.now ≡ codes "none"
Tells (said.Found v) (Found (Some w)) = v.now ≡ w
Tells said.Done Done = Unit {0}
Tells said.Refused (Refused e) = Unit {0}
Tells said.Refused (NotBooted e) = Unit {0}
Tells said.Refused (NotTrimmed e) = Unit {0}
Tells said.Refused (NotDecided e) = Unit {0}
Tells said.Told (Booted n) = Unit {0}
Tells said.Told (Trimmed n) = Unit {0}
Tells _ _ = ⊥

-- the line of an answer, by its words: they say it and nothing else, and the first is no arrow
pub record IsSpoken (a : RequestAnswer) : Type 0 where
  pub first : List ℕ
  pub rest : List (List ℕ)
  pub text : answer_text a ≡ line_of (first ∷ rest) ++ 10 ∷ []
  pub words : AreWords (first ∷ rest)
  pub no_arrow : first ≡ codes "->" → ⊥
  pub said : SaidAnswer
  pub says : SaysBy first rest said
  pub only : (s : SaidAnswer) → SaysBy first rest s → Tells s a

bor : List ℕ → Bor (List ℕ)
bor w = record { ref_ptr = (0, 0); now = w }

false_true : {A : Type 0} → false ≡ true → A
false_true e = absurd (let no : false ≡ true = e in cc)

-- what words are no numbers

no_number : (w : List ℕ) (n : ℕ) → number_at w ≡ None → number_at w ≡ Some n → ⊥
no_number w n e f = let no : None ≡ Some n = sym e ∙ f in cc

x_none : (c : ℕ) (r : List ℕ) → number_at (88 ∷ r) ≡ None
unfolding number_at
x_none c r = refl

done_none : number_at (codes "done") ≡ None
unfolding number_at
done_none = refl

hung_none : number_at (codes "hung") ≡ None
unfolding number_at
hung_none = refl

found_none : number_at (codes "=") ≡ None
unfolding number_at
found_none = refl

refused_none : number_at (codes "refused") ≡ None
unfolding number_at
refused_none = refl

threw_none : number_at (codes "threw") ≡ None
unfolding number_at
threw_none = refl

xa_none : number_at (codes "XA") ≡ None
unfolding number_at
xa_none = refl

boot_none : number_at (codes "boot") ≡ None
unfolding number_at
boot_none = refl

trim_none : number_at (codes "trim") ≡ None
unfolding number_at
trim_none = refl

arrow_none : number_at (codes "->") ≡ None
unfolding number_at
arrow_none = refl

-- a word that is a number is none of these
not_word : (w v : List ℕ) (n : ℕ) → number_at w ≡ Some n → number_at v ≡ None → same w v ≡ true → ⊥
not_word w v n is none e = no_number v n none (ap number_at (sym ((bytes_decides w v).0 e)) ∙ is)

-- codes

code_begins : (c : AnyCode) → (r : List ℕ) × (code_name c ≡ 88 ∷ 65 ∷ r)
code_begins code.RbRollback = (_, refl)
code_begins code.RbCommFail = (_, refl)
code_begins code.RbDeadlock = (_, refl)
code_begins code.RbIntegrity = (_, refl)
code_begins code.RbOther = (_, refl)
code_begins code.RbProto = (_, refl)
code_begins code.RbTimeout = (_, refl)
code_begins code.RbTransient = (_, refl)
code_begins code.NoMigrate = (_, refl)
code_begins code.HeurHaz = (_, refl)
code_begins code.HeurCom = (_, refl)
code_begins code.HeurRb = (_, refl)
code_begins code.HeurMix = (_, refl)
code_begins code.Retry = (_, refl)
code_begins code.RdOnly = (_, refl)
code_begins code.Ok = (_, refl)
code_begins code.Async = (_, refl)
code_begins code.RmErr = (_, refl)
code_begins code.NotA = (_, refl)
code_begins code.Inval = (_, refl)
code_begins code.Proto = (_, refl)
code_begins code.RmFail = (_, refl)
code_begins code.DupId = (_, refl)
code_begins code.Outside = (_, refl)

code_refuses : (c : AnyCode) → is_refusal (code_name c) ≡ false
code_refuses code.RbRollback = refl
code_refuses code.RbCommFail = refl
code_refuses code.RbDeadlock = refl
code_refuses code.RbIntegrity = refl
code_refuses code.RbOther = refl
code_refuses code.RbProto = refl
code_refuses code.RbTimeout = refl
code_refuses code.RbTransient = refl
code_refuses code.NoMigrate = refl
code_refuses code.HeurHaz = refl
code_refuses code.HeurCom = refl
code_refuses code.HeurRb = refl
code_refuses code.HeurMix = refl
code_refuses code.Retry = refl
code_refuses code.RdOnly = refl
code_refuses code.Ok = refl
code_refuses code.Async = refl
code_refuses code.RmErr = refl
code_refuses code.NotA = refl
code_refuses code.Inval = refl
code_refuses code.Proto = refl
code_refuses code.RmFail = refl
code_refuses code.DupId = refl
code_refuses code.Outside = refl

code_word : (c : AnyCode) → IsWord (code_name c)
code_word code.RbRollback = word_is (code_name code.RbRollback) refl
code_word code.RbCommFail = word_is (code_name code.RbCommFail) refl
code_word code.RbDeadlock = word_is (code_name code.RbDeadlock) refl
code_word code.RbIntegrity = word_is (code_name code.RbIntegrity) refl
code_word code.RbOther = word_is (code_name code.RbOther) refl
code_word code.RbProto = word_is (code_name code.RbProto) refl
code_word code.RbTimeout = word_is (code_name code.RbTimeout) refl
code_word code.RbTransient = word_is (code_name code.RbTransient) refl
code_word code.NoMigrate = word_is (code_name code.NoMigrate) refl
code_word code.HeurHaz = word_is (code_name code.HeurHaz) refl
code_word code.HeurCom = word_is (code_name code.HeurCom) refl
code_word code.HeurRb = word_is (code_name code.HeurRb) refl
code_word code.HeurMix = word_is (code_name code.HeurMix) refl
code_word code.Retry = word_is (code_name code.Retry) refl
code_word code.RdOnly = word_is (code_name code.RdOnly) refl
code_word code.Ok = word_is (code_name code.Ok) refl
code_word code.Async = word_is (code_name code.Async) refl
code_word code.RmErr = word_is (code_name code.RmErr) refl
code_word code.NotA = word_is (code_name code.NotA) refl
code_word code.Inval = word_is (code_name code.Inval) refl
code_word code.Proto = word_is (code_name code.Proto) refl
code_word code.RmFail = word_is (code_name code.RmFail) refl
code_word code.DupId = word_is (code_name code.DupId) refl
code_word code.Outside = word_is (code_name code.Outside) refl

abbrev code_at : List ℕ → Option AnyCode
code_at w =
    cond (same w (code_name code.RbRollback)) (Some code.RbRollback) (
    cond (same w (code_name code.RbCommFail)) (Some code.RbCommFail) (
    cond (same w (code_name code.RbDeadlock)) (Some code.RbDeadlock) (
    cond (same w (code_name code.RbIntegrity)) (Some code.RbIntegrity) (
    cond (same w (code_name code.RbOther)) (Some code.RbOther) (
    cond (same w (code_name code.RbProto)) (Some code.RbProto) (
    cond (same w (code_name code.RbTimeout)) (Some code.RbTimeout) (
    cond (same w (code_name code.RbTransient)) (Some code.RbTransient) (
    cond (same w (code_name code.NoMigrate)) (Some code.NoMigrate) (
    cond (same w (code_name code.HeurHaz)) (Some code.HeurHaz) (
    cond (same w (code_name code.HeurCom)) (Some code.HeurCom) (
    cond (same w (code_name code.HeurRb)) (Some code.HeurRb) (
    cond (same w (code_name code.HeurMix)) (Some code.HeurMix) (
    cond (same w (code_name code.Retry)) (Some code.Retry) (
    cond (same w (code_name code.RdOnly)) (Some code.RdOnly) (
    cond (same w (code_name code.Ok)) (Some code.Ok) (
    cond (same w (code_name code.Async)) (Some code.Async) (
    cond (same w (code_name code.RmErr)) (Some code.RmErr) (
    cond (same w (code_name code.NotA)) (Some code.NotA) (
    cond (same w (code_name code.Inval)) (Some code.Inval) (
    cond (same w (code_name code.Proto)) (Some code.Proto) (
    cond (same w (code_name code.RmFail)) (Some code.RmFail) (
    cond (same w (code_name code.DupId)) (Some code.DupId) (
    cond (same w (code_name code.Outside)) (Some code.Outside) (
    None))))))))))))))))))))))))

code_again : (c : AnyCode) → code_at (code_name c) ≡ Some c
code_again code.RbRollback = refl
code_again code.RbCommFail = refl
code_again code.RbDeadlock = refl
code_again code.RbIntegrity = refl
code_again code.RbOther = refl
code_again code.RbProto = refl
code_again code.RbTimeout = refl
code_again code.RbTransient = refl
code_again code.NoMigrate = refl
code_again code.HeurHaz = refl
code_again code.HeurCom = refl
code_again code.HeurRb = refl
code_again code.HeurMix = refl
code_again code.Retry = refl
code_again code.RdOnly = refl
code_again code.Ok = refl
code_again code.Async = refl
code_again code.RmErr = refl
code_again code.NotA = refl
code_again code.Inval = refl
code_again code.Proto = refl
code_again code.RmFail = refl
code_again code.DupId = refl
code_again code.Outside = refl

code_one : (c d : AnyCode) → same (code_name c) (code_name d) ≡ true → c ≡ d
code_one c d e =
    let both : Some c ≡ Some d = sym (code_again c) ∙ ap code_at
    ((bytes_decides (code_name c) (code_name d)).0 e)
    ∙ code_again d in cc

code_no_number : (c : AnyCode) → number_at (code_name c) ≡ None
code_no_number c = let (r, is) = code_begins c in ap number_at is ∙ x_none 0 (65 ∷ r)

-- a word that begins otherwise is no code
not_code : (w : List ℕ) (d : AnyCode) → ((r : List ℕ) → same w (88 ∷ 65 ∷ r) ≡ false)
    → same w (code_name d) ≡ true → ⊥
not_code w d differs e =
    let (r, is) = code_begins d in false_true (sym (differs r) ∙ ap (same w) (sym is) ∙ e)

code_differs : (c : AnyCode) (v : List ℕ) → ((r : List ℕ) → same (88 ∷ 65 ∷ r) v ≡ false)
    → same (code_name c) v ≡ true → ⊥
code_differs c v differs e =
    let (r, is) = code_begins c in false_true (sym (differs r) ∙ ap (λ (w : List ℕ). same w v) (sym is) ∙ e)

code_only : (c : AnyCode) (s : SaidAnswer) → SaysBy (code_name c) [] s → Tells s (Code c)
code_only c (said.Code d) (e, h) = sym (code_one c d h)
code_only c (said.Given xs) (e, h) = absurd (no_number (code_name c) 0 (code_no_number c) e)
code_only c (said.Found v) h = absurd h
code_only c said.Done (e, h) = absurd (code_differs c (codes "done") (λ r. refl) h)
code_only c said.Refused h = false_true (sym (code_refuses c) ∙ h)
code_only c said.Told h = absurd h
code_only c said.Hung (e, h) = absurd (code_differs c (codes "hung") (λ r. refl) h)

code_no_arrow : (c : AnyCode) → code_name c ≡ codes "->" → ⊥
code_no_arrow c e =
    code_differs c (codes "->") (λ r. refl) ((bytes_decides (code_name c) (codes "->")).1 e)

code_spoken : (c : AnyCode) → IsSpoken (Code c)
code_spoken c = record {
  first = code_name c;
  rest = [];
  text = refl;
  words = (code_word c, tt);
  no_arrow = code_no_arrow c;
  said = said.Code c;
  says = (refl, (bytes_decides (code_name c) (code_name c)).1 refl);
  only = code_only c;
}

-- what shapes say

found_first : (w : List ℕ) (ws : List (List ℕ)) (v : List ℕ) → IsReadAnswer w ws v → same w (codes "=") ≡ true
found_first w [] v h = absurd h
found_first w (x ∷ []) v h = h.0
found_first w (x ∷ y ∷ ws) v h = absurd h

told_first : (w : List ℕ) (ws : List (List ℕ)) → IsRestartAnswer w ws → is_told w ≡ true
told_first w [] h = absurd h
told_first w (x ∷ []) h = h
told_first w (x ∷ y ∷ ws) h = absurd h

-- the branches that a recover gives

number_refuses : (w : List ℕ) (n : ℕ) (b c d : Bool) → number_at w ≡ Some n → b ≡ same w (codes "refused")
    → c ≡ same w (codes "threw") → d ≡ same w (codes "XA") → (b || c || d) ≡ true → ⊥
number_refuses w n true c d is p q s e = not_word w (codes "refused") n is refused_none (sym p)
number_refuses w n false true d is p q s e = not_word w (codes "threw") n is threw_none (sym q)
number_refuses w n false false true is p q s e = not_word w (codes "XA") n is xa_none (sym s)
number_refuses w n false false false is p q s e = false_true e

number_tells : (w : List ℕ) (n : ℕ) (b c : Bool) → number_at w ≡ Some n → b ≡ same w (codes "boot")
    → c ≡ same w (codes "trim") → (b || c) ≡ true → ⊥
number_tells w n true c is p q e = not_word w (codes "boot") n is boot_none (sym p)
number_tells w n false true is p q e = not_word w (codes "trim") n is trim_none (sym q)
number_tells w n false false is p q e = false_true e

same_names : (xs ys : List Xid) → AllByRecursion IsXid xs → AreNames (map xid_text xs) ys → ys ≡ xs
same_names [] [] h k = refl
same_names [] (y ∷ ys) h k = absurd k
same_names (x ∷ xs) [] h k = absurd k
same_names (x ∷ xs) (y ∷ ys) h k =
    let first : y ≡ x = one_name (xid_text x) y x k.0.0 k.0.1 h.0 refl in
    ap (λ (z : Xid). z ∷ ys) first ∙ ap (λ (zs : List Xid). x ∷ zs) (same_names xs ys h.1 k.1)

given_only : (w : List ℕ) (xs : List Xid) (n : ℕ) → number_at w ≡ Some n → AllByRecursion IsXid xs
    → (s : SaidAnswer)
    → SaysBy w (map xid_text xs) s → Tells s (Given xs)
given_only w xs n is h (said.Code d) (e, k) = absurd (not_word w (code_name d) n is (code_no_number d) k)
given_only w xs n is h (said.Given ys) (e, k) = same_names xs ys.items h k
given_only w xs n is h (said.Found v) k =
    absurd (not_word w (codes "=") n is found_none (found_first w (map xid_text xs) v.now k))
given_only w xs n is h said.Done (e, k) = absurd (not_word w (codes "done") n is done_none k)
given_only w xs n is h said.Refused k = absurd
    (number_refuses w n (same w (codes "refused")) (same w (codes "threw")) (same w (codes "XA")) is
    refl refl refl k)
given_only w xs n is h said.Told k = absurd
    (number_tells w n (same w (codes "boot")) (same w (codes "trim")) is refl refl
    (told_first w (map xid_text xs) k))
given_only w xs n is h said.Hung (e, k) = absurd (not_word w (codes "hung") n is hung_none k)

names_of : (xs : List Xid) → AllByRecursion IsXid xs → AreNames (map xid_text xs) xs
names_of [] h = tt
names_of (x ∷ xs) h = ((h.0, refl), names_of xs h.1)

names_words : (xs : List Xid) → AreWords (map xid_text xs)
names_words [] = tt
names_words (x ∷ xs) = (xid_word x, names_words xs)

names_line : (w : List ℕ) (xs : List Xid) → w ++ flat_map branch_text xs ≡ line_of (w ∷ map xid_text xs)
names_line w [] = append-nil w
names_line w (x ∷ xs) = ap (λ (t : List ℕ). w ++ 32 ∷ t) (names_line (xid_text x) xs)

names_many : (xs : List Xid) → length (map xid_text xs) ≡ length xs
names_many [] = refl
names_many (x ∷ xs) = ap (λ n. suc n) (names_many xs)

-- a list as a vector of an allocator
letters_utf8 : (n : ℕ) → IsUtf8 (replicate n 97)
letters_utf8 n = IsUtf8-from_ascii (replicate n 97) (ascii n)
  where
    ascii : (n : ℕ) → IsAscii (replicate n 97)
    ascii zero i = omega arith
    ascii (suc n) zero = omega arith
    ascii (suc n) (suc i) = ascii n i

abbrev letters : ℕ → List ℕ
letters n = replicate n 97

letters_many : (n : ℕ) → length (letters n) ≡ n
letters_many n = length-replicate {A = ℕ} n 97

room : Global → (n : ℕ) → n < 2 ^ 63 → Vec ℕ
room heap n small = string_vec (spelled heap (replicate n 97) ∣ letters_utf8 n ∣₁
    (let long = letters_many n in omega arith))

pub vec_of : {A : Type 0} → Global → A → (xs : List A) → length xs < 2 ^ 63 → Vec A
vec_of heap none xs small = with_items (in_vec (λ _. none) (room heap (length xs) small)) xs

pub vec_items_of : {A : Type 0} (heap : Global) (none : A) (xs : List A) (small : length xs < 2 ^ 63)
    → (vec_of heap none xs small).items ≡ xs
unfolding vec_of room
vec_items_of heap none xs small =
    with_items_is (in_vec (λ _. none) (room heap (length xs) small)) xs (sym (letters_many (length xs)))

given_spoken : (heap : Global) (xs : List Xid) → length xs < 2 ^ 63 → AllByRecursion IsXid xs
    → IsSpoken (Given xs)
given_spoken heap xs small h =
    let is : number_at (decimal (length xs)) ≡ Some (length xs) = number_again (length xs) (omega arith) in
    record {
      first = decimal (length xs);
      rest = map xid_text xs;
      text = ap (λ (t : List ℕ). t ++ 10 ∷ []) (names_line (decimal (length xs)) xs);
      words = (decimal_word (length xs), names_words xs);
      no_arrow = λ e. no_number (codes "->") (length xs) arrow_none (ap number_at (sym e) ∙ is);
      said = said.Given (vec_of heap null_xid xs small);
      says = (
        is ∙ ap (λ (n : ℕ). Some n) (sym (names_many xs)),
        subst (λ (ys : List Xid). AreNames (map xid_text xs) ys) (sym (vec_items_of heap null_xid xs small))
            (names_of xs h),
      );
      only = given_only (decimal (length xs)) xs (length xs) is h;
    }

-- the other answers

refused_only : (rest : List (List ℕ)) (s : SaidAnswer) → SaysBy (codes "refused") rest s → s ≡ said.Refused
refused_only rest (said.Code d) (e, k) = absurd (not_code (codes "refused") d (λ r. refl) k)
refused_only rest (said.Given ys) (e, k) = absurd (no_number (codes "refused") (length rest) refused_none e)
refused_only rest (said.Found v) k = false_true (found_first (codes "refused") rest v.now k)
refused_only rest said.Done (e, k) = false_true k
refused_only rest said.Refused k = refl
refused_only rest said.Told k = false_true (told_first (codes "refused") rest k)
refused_only rest said.Hung (e, k) = false_true k

boot_only : (x : List ℕ) (s : SaidAnswer) → SaysBy (codes "boot") (x ∷ []) s → s ≡ said.Told
boot_only x (said.Code d) (e, k) = absurd (not_code (codes "boot") d (λ r. refl) k)
boot_only x (said.Given ys) (e, k) = absurd (no_number (codes "boot") 1 boot_none e)
boot_only x (said.Found v) k = false_true k.0
boot_only x said.Done (e, k) = false_true k
boot_only x said.Refused k = false_true k
boot_only x said.Told k = refl
boot_only x said.Hung (e, k) = false_true k

trim_only : (x : List ℕ) (s : SaidAnswer) → SaysBy (codes "trim") (x ∷ []) s → s ≡ said.Told
trim_only x (said.Code d) (e, k) = absurd (not_code (codes "trim") d (λ r. refl) k)
trim_only x (said.Given ys) (e, k) = absurd (no_number (codes "trim") 1 trim_none e)
trim_only x (said.Found v) k = false_true k.0
trim_only x said.Done (e, k) = false_true k
trim_only x said.Refused k = false_true k
trim_only x said.Told k = refl
trim_only x said.Hung (e, k) = false_true k

done_only : (s : SaidAnswer) → SaysBy (codes "done") [] s → s ≡ said.Done
done_only (said.Code d) (e, k) = absurd (not_code (codes "done") d (λ r. refl) k)
done_only (said.Given ys) (e, k) = absurd (no_number (codes "done") 0 done_none e)
done_only (said.Found v) k = absurd k
done_only said.Done k = refl
done_only said.Refused k = false_true k
done_only said.Told k = absurd k
done_only said.Hung (e, k) = false_true k

found_only : (x : List ℕ) (o : Option (List ℕ))
    → ((v : Bor (List ℕ)) → x ≡ v.now → Tells (said.Found v) (Found o))
    → (s : SaidAnswer) → SaysBy (codes "=") (x ∷ []) s → Tells s (Found o)
found_only x o f (said.Code d) (e, k) = absurd (not_code (codes "=") d (λ r. refl) k)
found_only x o f (said.Given ys) (e, k) = absurd (no_number (codes "=") 1 found_none e)
found_only x o f (said.Found v) (e, k) = f v k
found_only x o f said.Done (e, k) = false_true k
found_only x o f said.Refused k = false_true k
found_only x o f said.Told k = false_true k
found_only x o f said.Hung (e, k) = false_true k

no_arrow_in : (w : List ℕ) → same w (codes "->") ≡ false → w ≡ codes "->" → ⊥
no_arrow_in w differs e = false_true (sym differs ∙ (bytes_decides w (codes "->")).1 e)

found_spoken : (v : List ℕ) → IsWord v → IsSpoken (Found (Some v))
unfolding bor
found_spoken v h = record {
  first = codes "=";
  rest = v ∷ [];
  text = refl;
  words = (word_is (codes "=") refl, (h, tt));
  no_arrow = no_arrow_in (codes "=") refl;
  said = said.Found (bor v);
  says = (refl, refl);
  only = found_only v (Some v) (λ w e. sym e);
}

none_spoken : IsSpoken (Found None)
unfolding bor
none_spoken = record {
  first = codes "=";
  rest = codes "none" ∷ [];
  text = refl;
  words = (word_is (codes "=") refl, (word_is (codes "none") refl, tt));
  no_arrow = no_arrow_in (codes "=") refl;
  said = said.Found (bor (codes "none"));
  says = (refl, refl);
  only = found_only (codes "none") None (λ w e. sym e);
}

done_spoken : IsSpoken Done
done_spoken = record {
  first = codes "done";
  rest = [];
  text = refl;
  words = (word_is (codes "done") refl, tt);
  no_arrow = no_arrow_in (codes "done") refl;
  said = said.Done;
  says = (refl, refl);
  only = λ s k. subst (λ (q : SaidAnswer). Tells q Done) (sym (done_only s k)) tt;
}

refused_spoken : (a : RequestAnswer) (rest : List (List ℕ)) → Tells said.Refused a
    → answer_text a ≡ line_of (codes "refused" ∷ rest) ++ 10 ∷ [] → AreWords rest → IsSpoken a
refused_spoken a rest tells text words = record {
  first = codes "refused";
  rest = rest;
  text = text;
  words = (word_is (codes "refused") refl, words);
  no_arrow = no_arrow_in (codes "refused") refl;
  said = said.Refused;
  says = refl;
  only = λ s k. subst (λ (q : SaidAnswer). Tells q a) (sym (refused_only rest s k)) tells;
}

work_spoken : (e : WorkError) → holder_text e ≡ [] → IsSpoken (Refused e)
work_spoken e none = refused_spoken (Refused e) (decimal (number_of e) ∷ []) tt
    (ap (λ (h : List ℕ). codes "refused " ++ decimal (number_of e) ++ h ++ 10 ∷ []) none
    ∙ ap (λ (t : List ℕ). t ++ 10 ∷ []) (append-nil (codes "refused " ++ decimal (number_of e))))
    (decimal_word (number_of e), tt)

work_refused : (e : WorkError) → IsSpoken (Refused e)
work_refused work_error.Memory = work_spoken work_error.Memory refl
work_refused work_error.NotAssociated = work_spoken work_error.NotAssociated refl
work_refused (work_error.Locked x) = refused_spoken (Refused (work_error.Locked x))
    (decimal 2 ∷ xid_text x ∷ []) tt refl
    (decimal_word 2, (xid_word x, tt))
work_refused work_error.TooLong = work_spoken work_error.TooLong refl
work_refused work_error.TooManyWrites = work_spoken work_error.TooManyWrites refl
work_refused work_error.RmFail = work_spoken work_error.RmFail refl
work_refused work_error.RollbackOnly = work_spoken work_error.RollbackOnly refl

-- the line of an answer has such words
pub spoken : (heap : Global) (a : RequestAnswer) → IsReadable a → IsSpoken a
spoken heap (Code c) h = code_spoken c
spoken heap (Given xs) h = given_spoken heap xs h.0 h.1
spoken heap (Found None) h = none_spoken
spoken heap (Found (Some v)) h = found_spoken v (visible_word 256 v h)
spoken heap Done h = done_spoken
spoken heap (Refused e) h = work_refused e
spoken heap (Booted n) h = record {
  first = codes "boot";
  rest = decimal n ∷ [];
  text = refl;
  words = (word_is (codes "boot") refl, (decimal_word n, tt));
  no_arrow = no_arrow_in (codes "boot") refl;
  said = said.Told;
  says = refl;
  only = λ s k. subst (λ (q : SaidAnswer). Tells q (Booted n)) (sym (boot_only (decimal n) s k)) tt;
}
spoken heap (NotBooted e) h = refused_spoken (NotBooted e) (decimal (restart_number e) ∷ []) tt refl
    (decimal_word (restart_number e), tt)
spoken heap (Trimmed n) h = record {
  first = codes "trim";
  rest = decimal n ∷ [];
  text = refl;
  words = (word_is (codes "trim") refl, (decimal_word n, tt));
  no_arrow = no_arrow_in (codes "trim") refl;
  said = said.Told;
  says = refl;
  only = λ s k. subst (λ (q : SaidAnswer). Tells q (Trimmed n)) (sym (trim_only (decimal n) s k)) tt;
}
spoken heap (NotTrimmed e) h = refused_spoken (NotTrimmed e) (decimal (trim_number e) ∷ []) tt refl
    (decimal_word (trim_number e), tt)
spoken heap (NotDecided e) h = refused_spoken (NotDecided e) (decimal (decide_number e) ∷ []) tt refl
    (decimal_word (decide_number e), tt)
