-- The lines ahead of the events, one after another.
use Rattle.std.proofs.Common.{◌≡◌, ◌∙◌, ◌+◌, ◌<◌, ◌≤◌, ℕ, true, false, if◌then◌else◌, get_or, drop, length, List, [], ◌∷◌, ◌++◌, Option, Some, None, Result, Ok, Err, refl, ap, sym, arith}
use Rattle.std.proofs.lemmas.List.{drop_all, at_drop_more}
use Rattle.protocol.specs.declared.trees.TreeProcess.{TreeProcess}
use Rattle.script_words.specs.Lines.{is_skipped}
use Rattle.log_script.specs.declared.line.ProcessLog.{ProcessLog}
use Rattle.log_script.specs.Lines.{log_at}
use Rattle.tree_script.specs.declared.script.ScriptError.{ScriptError}
use Rattle.tree_script.specs.declared.script.ScriptError.TheVariants.{Memory, Fault}
use Rattle.tree_script.specs.declared.script.ScriptFault.TheVariants.{Utf8, TreeText, Tree, TooLong, Line}
use Rattle.reopen_script.specs.Ahead.{IsNumbered, are_of_all, last_said, line_then, logs_in, logs_said, set_line}

-- One more line of logs.

pub at_skipped : (ls : List ProcessLog) (n : ℕ) (line : List ℕ) (lines : List (List ℕ))
    → is_skipped line ≡ true
    → logs_in ls n (line ∷ lines) ≡ logs_in ls (n + 1) lines
unfolding logs_in
at_skipped ls n line lines e = rw e refl

pub at_line : (ls : List ProcessLog) (n : ℕ) (line : List ℕ) (lines : List (List ℕ)) → is_skipped line ≡ false
    → logs_in ls n (line ∷ lines) ≡ line_then ls n (log_at line) (λ more. logs_in more (n + 1) lines)
unfolding logs_in
at_line ls n line lines e = rw e refl

pub at_end : (ls : List ProcessLog) (n : ℕ) → logs_in ls n [] ≡ Ok ls
unfolding logs_in
at_end ls n = refl

at : (ls : List ProcessLog) (n i : ℕ) (lines : List (List ℕ)) → i < length lines
    → logs_in ls n (drop i lines) ≡ logs_in ls n (get_or lines i [] ∷ drop (i + 1) lines)
at ls n i lines lt = at_drop_more (λ xs. logs_in ls n xs) lines i [] lt

pub skips : (ls : List ProcessLog) (lines : List (List ℕ)) (n m i : ℕ) (total : Result (List ProcessLog) ℕ)
    → i < length lines → is_skipped (get_or lines i []) ≡ true → m ≡ n + 1
    → logs_in ls n (drop i lines) ≡ total → logs_in ls m (drop (i + 1) lines) ≡ total
skips ls lines n m i total lt skip next so_far =
    ap (λ (k : ℕ). logs_in ls k (drop (i + 1) lines)) next
    ∙ sym (at ls n i lines lt ∙ at_skipped ls n (get_or lines i []) (drop (i + 1) lines) skip) ∙ so_far

pub goes_on : (ls : List ProcessLog) (lines : List (List ℕ)) (n m i : ℕ) (l : ProcessLog)
    (total : Result (List ProcessLog) ℕ)
    → i < length lines → is_skipped (get_or lines i []) ≡ false → log_at (get_or lines i []) ≡ Some l
    → m ≡ n + 1 → logs_in ls n (drop i lines) ≡ total
    → logs_in (ls ++ l ∷ []) m (drop (i + 1) lines) ≡ total
goes_on ls lines n m i l total lt kept is next so_far =
    ap (λ (k : ℕ). logs_in (ls ++ l ∷ []) k (drop (i + 1) lines)) next
    ∙ ap (λ (o : Option ProcessLog). line_then ls n o (λ more. logs_in more (n + 1) (drop (i + 1) lines)))
    (sym is)
    ∙ sym (at ls n i lines lt ∙ at_line ls n (get_or lines i []) (drop (i + 1) lines) kept)
    ∙ so_far

pub stops : (ls : List ProcessLog) (lines : List (List ℕ)) (n i : ℕ) (total : Result (List ProcessLog) ℕ)
    → i < length lines → is_skipped (get_or lines i []) ≡ false → log_at (get_or lines i []) ≡ None
    → logs_in ls n (drop i lines) ≡ total → total ≡ Err n
stops ls lines n i total lt kept is so_far =
    sym so_far ∙ at ls n i lines lt ∙ at_line ls n (get_or lines i []) (drop (i + 1) lines) kept
    ∙ ap (λ (o : Option ProcessLog). line_then ls n o (λ more. logs_in more (n + 1) (drop (i + 1) lines))) is

pub ends : (ls : List ProcessLog) (lines : List (List ℕ)) (n i : ℕ) (total : Result (List ProcessLog) ℕ)
    → length lines ≤ i → logs_in ls n (drop i lines) ≡ total → total ≡ Ok ls
ends ls lines n i total le so_far =
    sym so_far ∙ ap (λ (x : List (List ℕ)). logs_in ls n x) (drop_all i lines le) ∙ at_end ls n

-- The last line that is not skipped.

pub said_first : (last n : ℕ) (line : List ℕ) (lines : List (List ℕ))
    → last_said last n (line ∷ lines) ≡ last_said (if is_skipped line then last else n + 1) (n + 1) lines
unfolding last_said
said_first last n line lines = refl

pub said_on : (lines : List (List ℕ)) (last more n m i total : ℕ) → i < length lines
    → more ≡ (if is_skipped (get_or lines i []) then last else n + 1) → m ≡ n + 1
    → last_said last n (drop i lines) ≡ total → last_said more m (drop (i + 1) lines) ≡ total
said_on lines last more n m i total lt is next so_far =
    ap (λ (k : ℕ). last_said more k (drop (i + 1) lines)) next
    ∙ ap (λ (k : ℕ). last_said k (n + 1) (drop (i + 1) lines)) is
    ∙ sym (at_drop_more (λ xs. last_said last n xs) lines i [] lt
    ∙ said_first last n (get_or lines i []) (drop (i + 1) lines)) ∙ so_far

pub said_all : (lines : List (List ℕ)) (last n i total : ℕ) → length lines ≤ i
    → last_said last n (drop i lines) ≡ total → last ≡ total
unfolding last_said
said_all lines last n i total le so_far =
    sym (ap (λ (x : List (List ℕ)). last_said last n x) (drop_all i lines le)) ∙ so_far

-- What is read of all lines.

pub wrong_line : (es : List TreeProcess) (before n : ℕ) (ahead behind : List (List ℕ))
    → logs_in [] (before + 1) ahead ≡ Err n → logs_said es before ahead behind ≡ Err n
unfolding logs_said
wrong_line es before n ahead behind e = rw e refl

pub none_said : (es : List TreeProcess) (before : ℕ) (ls : List ProcessLog) (ahead behind : List (List ℕ))
    → logs_in [] (before + 1) ahead ≡ Ok ls → length ls ≡ 0 → logs_said es before ahead behind ≡ Ok None
unfolding logs_said
none_said es before [] ahead behind e none = rw e refl
none_said es before (l ∷ ls) ahead behind e none = absurd (omega (arith, none))

pub all_said : (es : List TreeProcess) (before : ℕ) (ls : List ProcessLog) (ahead behind : List (List ℕ))
    → logs_in [] (before + 1) ahead ≡ Ok ls → (length ls ≡ 0 → ⊥) → are_of_all es ls ≡ true
    → logs_said es before ahead behind ≡ Ok (Some ls)
unfolding logs_said
all_said es before [] ahead behind e some all = absurd (some refl)
all_said es before (l ∷ ls) ahead behind e some all = rw (e, all) refl

pub others_said : (es : List TreeProcess) (before n : ℕ) (ls : List ProcessLog) (ahead behind : List (List ℕ))
    → logs_in [] (before + 1) ahead ≡ Ok ls → (length ls ≡ 0 → ⊥) → are_of_all es ls ≡ false
    → n ≡ set_line before ahead behind
    → logs_said es before ahead behind ≡ Err n
unfolding logs_said
others_said es before n [] ahead behind e some all at = absurd (some refl)
others_said es before n (l ∷ ls) ahead behind e some all at = rw (e, all, at) refl

pub wrong_numbered : (es : List TreeProcess) (before : ℕ) (error : ScriptError) (ahead behind : List (List ℕ))
    → IsNumbered error (logs_in [] (before + 1) ahead) → IsNumbered error (logs_said es before ahead behind)
wrong_numbered es before Memory ahead behind h = h
wrong_numbered es before (Fault (Line n)) ahead behind h = wrong_line es before n ahead behind h
wrong_numbered es before (Fault Utf8) ahead behind h = h
wrong_numbered es before (Fault TreeText) ahead behind h = h
wrong_numbered es before (Fault (Tree cause)) ahead behind h = h
wrong_numbered es before (Fault TooLong) ahead behind h = h
