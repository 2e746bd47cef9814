-- The lines of logs read as these logs.
use Rattle.std.proofs.Common.{drop, get_or, ◌<◌, ◌≤◌, codes, eqb, ◌≡◌, ◌+◌, ℕ, true, false, Some, None, Result, Ok, Err, List, [], ◌∷◌, ◌++◌, length, map, refl, ap, sym, ◌∙◌, arith, append_assoc}
use Rattle.std.proofs.lemmas.List.{append-nil, drop_all, at_drop_more}
use Rattle.protocol.specs.declared.trees.TreeProcess.{TreeProcess}
use Rattle.std.proofs.lemmas.Bool.Decides.{nat_tests}
use Rattle.tree_script.specs.Spellings.{process_text}
use Rattle.script_words.specs.Lines.{is_skipped}
use Rattle.log_script.specs.declared.line.ProcessLog.{ProcessLog}
use Rattle.log_script.specs.Lines.{bytes_part, log_at, log_line}
use Rattle.log_script.specs.Logs.{each_has_log, line_then, logs_behind, logs_of, may_follow}
use Rattle.log_script.specs.Laws.{AreFirst, LinesRead}
use Rattle.log_script.proofs.LineLaws.{line_again}

-- One more line.

pub at_skipped : (es : List TreeProcess) (ls : List ProcessLog) (n : ℕ) (line : List ℕ)
    (lines : List (List ℕ))
    → is_skipped line ≡ true
    → logs_behind es ls n (line ∷ lines) ≡ logs_behind es ls (n + 1) lines
unfolding logs_behind
at_skipped es ls n line lines e = rw e refl

pub at_line : (es : List TreeProcess) (ls : List ProcessLog) (n : ℕ) (line : List ℕ) (lines : List (List ℕ))
    → is_skipped line ≡ false
    → logs_behind es ls n (line ∷ lines) ≡ line_then es ls n (log_at line)
    (λ more. logs_behind es more (n + 1) lines)
unfolding logs_behind
at_line es ls n line lines e = rw e refl

pub at_log : (es : List TreeProcess) (ls : List ProcessLog) (n : ℕ) (line : List ℕ) (lines : List (List ℕ))
    (l : ProcessLog) → is_skipped line ≡ false
    → log_at line ≡ Some l → may_follow es ls l ≡ true
    → logs_behind es ls n (line ∷ lines) ≡ logs_behind es (ls ++ l ∷ []) (n + 1) lines
at_log es ls n line lines l e is may = at_line es ls n line lines e ∙ rw (is, may) refl

pub at_strange : (es : List TreeProcess) (ls : List ProcessLog) (n : ℕ) (line : List ℕ)
    (lines : List (List ℕ))
    → is_skipped line ≡ false
    → log_at line ≡ None → logs_behind es ls n (line ∷ lines) ≡ Err n
at_strange es ls n line lines e is = at_line es ls n line lines e ∙ rw is refl

pub at_second : (es : List TreeProcess) (ls : List ProcessLog) (n : ℕ) (line : List ℕ) (lines : List (List ℕ))
    (l : ProcessLog) → is_skipped line ≡ false
    → log_at line ≡ Some l → may_follow es ls l ≡ false → logs_behind es ls n (line ∷ lines) ≡ Err n
at_second es ls n line lines l e is may = at_line es ls n line lines e ∙ rw (is, may) refl

pub at_end : (es : List TreeProcess) (ls : List ProcessLog) (n : ℕ) → logs_behind es ls n [] ≡ Ok ls
unfolding logs_behind
at_end es ls n = refl

-- The next line of a list.

at : (es : List TreeProcess) (ls : List ProcessLog) (n i : ℕ) (lines : List (List ℕ)) → i < length lines
    → logs_behind es ls n (drop i lines) ≡ logs_behind es ls n (get_or lines i [] ∷ drop (i + 1) lines)
at es ls n i lines lt = at_drop_more (λ xs. logs_behind es ls n xs) lines i [] lt

pub skips : (es : List TreeProcess) (ls : List ProcessLog) (lines : List (List ℕ)) (n m i : ℕ)
    (total : Result (List ProcessLog) ℕ)
    → i < length lines → is_skipped (get_or lines i []) ≡ true → m ≡ n + 1
    → logs_behind es ls n (drop i lines) ≡ total → logs_behind es ls m (drop (i + 1) lines) ≡ total
skips es ls lines n m i total lt skip next so_far =
    ap (λ (k : ℕ). logs_behind es ls k (drop (i + 1) lines)) next
    ∙ sym (at es ls n i lines lt ∙ at_skipped es ls n (get_or lines i []) (drop (i + 1) lines) skip) ∙ so_far

pub goes_on : (es : List TreeProcess) (ls : List ProcessLog) (lines : List (List ℕ)) (n m i : ℕ)
    (l : ProcessLog) (total : Result (List ProcessLog) ℕ)
    → i < length lines → is_skipped (get_or lines i []) ≡ false → log_at (get_or lines i []) ≡ Some l
    → may_follow es ls l ≡ true → m ≡ n + 1
    → logs_behind es ls n (drop i lines) ≡ total
    → logs_behind es (ls ++ l ∷ []) m (drop (i + 1) lines) ≡ total
goes_on es ls lines n m i l total lt kept is may next so_far =
    ap (λ (k : ℕ). logs_behind es (ls ++ l ∷ []) k (drop (i + 1) lines)) next
    ∙ sym (at es ls n i lines lt ∙ at_log es ls n (get_or lines i []) (drop (i + 1) lines) l kept is may)
    ∙ so_far

pub stops_strange : (es : List TreeProcess) (ls : List ProcessLog) (lines : List (List ℕ)) (n i : ℕ)
    (total : Result (List ProcessLog) ℕ)
    → i < length lines → is_skipped (get_or lines i []) ≡ false → log_at (get_or lines i []) ≡ None
    → logs_behind es ls n (drop i lines) ≡ total → total ≡ Err n
stops_strange es ls lines n i total lt kept is so_far =
    sym so_far ∙ at es ls n i lines lt ∙ at_strange es ls n (get_or lines i []) (drop (i + 1) lines) kept is

pub stops_second : (es : List TreeProcess) (ls : List ProcessLog) (lines : List (List ℕ)) (n i : ℕ)
    (l : ProcessLog) (total : Result (List ProcessLog) ℕ)
    → i < length lines → is_skipped (get_or lines i []) ≡ false → log_at (get_or lines i []) ≡ Some l
    → may_follow es ls l ≡ false
    → logs_behind es ls n (drop i lines) ≡ total → total ≡ Err n
stops_second es ls lines n i l total lt kept is may so_far =
    sym so_far ∙ at es ls n i lines lt ∙ at_second es ls n (get_or lines i [])
    (drop (i + 1) lines) l kept is may

pub ends : (es : List TreeProcess) (ls : List ProcessLog) (lines : List (List ℕ)) (n i : ℕ)
    (total : Result (List ProcessLog) ℕ)
    → length lines ≤ i → logs_behind es ls n (drop i lines) ≡ total → total ≡ Ok ls
ends es ls lines n i total le so_far =
    sym so_far ∙ ap (λ (x : List (List ℕ)). logs_behind es ls n x) (drop_all i lines le) ∙ at_end es ls n

-- What is read of all lines.

pub wrong_line : (es : List TreeProcess) (rule n : ℕ) (lines : List (List ℕ))
    → logs_behind es [] (rule + 1) lines ≡ Err n → logs_of es rule lines ≡ Err n
unfolding logs_of
wrong_line es rule n lines e = rw e refl

pub all_read : (es : List TreeProcess) (rule : ℕ) (ls : List ProcessLog) (lines : List (List ℕ))
    → logs_behind es [] (rule + 1) lines ≡ Ok ls
    → each_has_log es ls ≡ true → logs_of es rule lines ≡ Ok ls
unfolding logs_of
all_read es rule ls lines e each = rw (e, each) refl

pub one_missing : (es : List TreeProcess) (rule n : ℕ) (ls : List ProcessLog) (lines : List (List ℕ))
    → logs_behind es [] (rule + 1) lines ≡ Ok ls
    → each_has_log es ls ≡ false → n ≡ rule + length lines → logs_of es rule lines ≡ Err n
unfolding logs_of
one_missing es rule n ls lines e each last = rw (e, each, last) refl

-- The law.

begins_so : (rest : List ℕ) → is_skipped (108 ∷ rest) ≡ false
begins_so rest = let some : eqb (length (108 ∷ rest)) 0 ≡ false = grind (arith, nat_tests) in rw some refl

not_skipped : (l : ProcessLog) → is_skipped (log_line l) ≡ false
not_skipped l = begins_so (codes "og " ++ process_text l.process ++ bytes_part l.bytes)

behind : (es : List TreeProcess) (seen ls : List ProcessLog) (n : ℕ) → AreFirst es seen ls
    → logs_behind es seen n (map log_line ls) ≡ Ok (seen ++ ls)
behind es seen [] n h = at_end es seen n ∙ ap (λ (x : List ProcessLog). Ok x) (sym (append-nil seen))
behind es seen (l ∷ ls) n (fits, may, more) =
    at_log es seen n (log_line l) (map log_line ls) l (not_skipped l) (line_again l fits) may
    ∙ behind es (seen ++ l ∷ []) ls (n + 1) more
    ∙ ap (λ (x : List ProcessLog). Ok x) (append_assoc seen (l ∷ []) ls)

pub lines_again : LinesRead
lines_again es ls rule first each = all_read es rule ls (map log_line ls)
    (behind es [] ls (rule + 1) first) each
