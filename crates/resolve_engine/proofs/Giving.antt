-- The answers to names, one after another.
use Rattle.std.proofs.Common.{◌≡◌, ◌<◌, ◌≤◌, ◌+◌, ◌++◌, ◌∷◌, [], ◌∙◌, ℕ, Bool, true, false, ◌||◌, List, Option, length, take, map, filter, get_or, refl, ap, sym, subst, append_assoc}
use Rattle.std.specs.List.{All, flat_map, list_any}
use Rattle.std.proofs.Math.Bool.{or-false}
use Rattle.std.proofs.lemmas.Grind.{flat_map-append}
use Rattle.std.proofs.lemmas.List.{append-nil, map-append, take_all, take_more}
use Rattle.std.proofs.lemmas.List.Elements.{All-append, All-cons, All-nil, filter-append}
use Rattle.std.proofs.lemmas.List.Folds.{list_any-append}
use Rattle.protocol.specs.declared.trees.TreeProcess.{TreeProcess}
use Rattle.log_script.specs.declared.line.ProcessLog.{ProcessLog}
use Rattle.protocol.specs.Audits.{KeptLogs}
use Rattle.resolve_engine.specs.declared.asked.AnswerForm.{AnswerForm}
use Rattle.resolve_engine.specs.declared.asked.Trust.{Trust}
use Rattle.resolve_engine.specs.Reports.{Given, Gives, GivesAll, GivesOne, IsGiven, ending_by, is_name, names_in, waits}

-- no name has an answer yet
pub none_given : (f : AnswerForm) (t : Trust) (n : Option (List ℕ)) (tree : List TreeProcess)
    (logs : List ProcessLog)
    (kept : KeptLogs) → Gives f t n tree logs kept [] false []
none_given f t n tree logs kept = record {
  given = [];
  each = All-nil (IsGiven f t n tree logs kept);
  names_are = refl;
  text_is = refl;
  one_waits = refl;
}

-- one more name has its answer
pub one_more : (f : AnswerForm) (t : Trust) (n : Option (List ℕ)) (tree : List TreeProcess)
    (logs : List ProcessLog)
    (kept : KeptLogs) (names : List (List ℕ)) (line : List ℕ) (w v : Bool) (text after : List ℕ)
    → Gives f t n tree logs kept names w text → GivesOne f t n tree logs kept line v text after
    → Gives f t n tree logs kept (names ++ line ∷ []) (w || v) after
one_more f t n tree logs kept names line w v text after g o = record {
  given = g.given ++ o.given ∷ [];
  each = All-append (IsGiven f t n tree logs kept) g.given (o.given ∷ []) g.each
      (All-cons (IsGiven f t n tree logs kept) o.given [] o.is_given
      (All-nil (IsGiven f t n tree logs kept)));
  names_are = map-append (λ (x : Given). x.name) g.given (o.given ∷ [])
      ∙ ap (λ (l : List (List ℕ)). l ++ o.given.name ∷ []) g.names_are
      ∙ ap (λ (l : List ℕ). names ++ l ∷ []) o.name_is;
  text_is = o.text_is ∙ ap (λ (l : List ℕ). l ++ o.given.text) g.text_is
      ∙ ap (λ (l : List ℕ). flat_map (λ (x : Given). x.text) g.given ++ l) (sym (append-nil o.given.text))
      ∙ sym (flat_map-append (λ (x : Given). x.text) g.given (o.given ∷ []));
  one_waits = list_any-append (λ (x : Given). waits x.answer.word) g.given (o.given ∷ [])
      ∙ ap (λ (b : Bool). b || (waits o.given.answer.word || false)) g.one_waits
      ∙ ap (λ (b : Bool). w || b) (or-false (waits o.given.answer.word) ∙ o.waiting);
}

-- the names among N lines, and one line more
next_line : (ls : List (List ℕ)) (i : ℕ) → i < length ls → filter is_name (take (i + 1) ls)
    ≡ filter is_name (take i ls) ++ filter is_name (get_or ls i [] ∷ [])
next_line ls i lt = ap (λ (l : List (List ℕ)). filter is_name l) (take_more ls i [] lt)
    ∙ filter-append is_name (take i ls) (get_or ls i [] ∷ [])

one_kept : (l : List ℕ) → is_name l ≡ true → filter is_name (l ∷ []) ≡ l ∷ []
one_kept l e = rw e refl

one_skipped : (l : List ℕ) → is_name l ≡ false → filter is_name (l ∷ []) ≡ []
one_skipped l e = rw e refl

-- one more line is a name
pub is_more : (ls : List (List ℕ)) (i : ℕ) → i < length ls → is_name (get_or ls i []) ≡ true
    → filter is_name (take (i + 1) ls) ≡ filter is_name (take i ls) ++ get_or ls i [] ∷ []
is_more ls i lt e = next_line ls i lt
    ∙ ap (λ (l : List (List ℕ)). filter is_name (take i ls) ++ l) (one_kept (get_or ls i []) e)

-- one more line is empty
pub is_none : (ls : List (List ℕ)) (i : ℕ) → i < length ls → is_name (get_or ls i []) ≡ false
    → filter is_name (take (i + 1) ls) ≡ filter is_name (take i ls)
is_none ls i lt e = next_line ls i lt
    ∙ ap (λ (l : List (List ℕ)). filter is_name (take i ls) ++ l) (one_skipped (get_or ls i []) e)
    ∙ append-nil (filter is_name (take i ls))

-- how the run ends
pub ended : (f : AnswerForm) (t : Trust) (n : Option (List ℕ)) (tree : List TreeProcess)
    (logs : List ProcessLog)
    (kept : KeptLogs) (input : List ℕ) (names : List (List ℕ)) (w : Bool) (text : List ℕ)
    → names ≡ names_in input → Gives f t n tree logs kept names w text
    → GivesAll f t n tree logs kept input (ending_by w) text
ended f t n tree logs kept input names true text e g =
    subst (λ (l : List (List ℕ)). Gives f t n tree logs kept l true text) e g
ended f t n tree logs kept input names false text e g =
    subst (λ (l : List (List ℕ)). Gives f t n tree logs kept l false text) e g
