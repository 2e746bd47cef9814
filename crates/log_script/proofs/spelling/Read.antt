-- What is read of an input can be written, and is read in one way.
use Rattle.std.proofs.Common.{◌≡◌, ℕ, ◌+◌, Bool, true, false, cond, List, [], ◌∷◌, ◌++◌, length, codes, Option, Some, None, Result, Ok, Err, refl, sym, ap, subst, ◌∙◌, inl, inr, append_assoc}
use Rattle.std.proofs.lemmas.Bool.{cases_Bool}
use Rattle.std.specs.List.{AllByRecursion}
use Rattle.toml.specs.Data.{Data, Items, no_items, item, Members, no_members, member, get}
use Rattle.protocol.specs.declared.names.ProcessId.{ProcessId}
use Rattle.protocol.specs.declared.trees.TreeProcess.{TreeProcess}
use Rattle.tree_script.specs.Documents.{At, May, IsId, IsInfo, DescribesProcess, AreProcesses, IsTable}
use Rattle.script_words.specs.Lines.{is_skipped}
use Rattle.log_script.specs.declared.line.ProcessLog.{ProcessLog}
use Rattle.log_script.specs.Lines.{FitsLog, log_at}
use Rattle.log_script.specs.Laws.{AreFirst}
use Rattle.log_script.specs.Logs.{complete, each_has_log, line_then, logs_behind, logs_of, may_follow}
use Rattle.log_script.proofs.LineLaws.{line_takes}
use Rattle.log_script.proofs.LogLaws.{at_skipped, at_line, at_end}
use Rattle.log_script.specs.spelling.Fits.{FitsEntry, FitsInfo, FitsLogs, FitsParent, IsNumbered}
use Rattle.log_script.specs.spelling.Laws.{ReadCanBeWritten}

-- The processes of a tree text fit.

id_fits : (o : Option Data) (p : ProcessId) → At IsId o p → IsNumbered p
id_fits None p h = absurd h
id_fits (Some d) p (is, low, high) = (low, high)

parent_fits : (o : Option Data) (parent : Option ProcessId) → May IsId o parent → FitsParent parent
parent_fits o None h = tt
parent_fits None (Some p) h = absurd h
parent_fits (Some d) (Some p) (is, low, high) = (low, high)

info_fits : (o : Option Data) (info : Option (List ℕ)) → May IsInfo o info → FitsInfo info
info_fits o None h = tt
info_fits None (Some info) h = absurd h
info_fits (Some d) (Some info) (is, short, letters) = (short, letters)

process_fits : (d : Data) (e : TreeProcess) → DescribesProcess d e → FitsEntry e
process_fits d e h =
    record {
      id_fits = id_fits (get (codes "id") d) e.id h.id;
      parent_fits = parent_fits (get (codes "parent") d) e.parent h.parent;
      info_fits = info_fits (get (codes "info") d) e.info h.info;
      info_kind = h.info_kind;
    }

processes_fit : (ds : Items) (es : List TreeProcess) → AreProcesses ds es → AllByRecursion FitsEntry es
processes_fit no_items [] h = tt
processes_fit no_items (e ∷ es) h = absurd h
processes_fit (item d ds) [] h = absurd h
processes_fit (item d ds) (e ∷ es) h = (process_fits d e h.0, processes_fit ds es h.1)

-- the processes of a tree text can be written
pub table_fits : (ms : Members) (es : List TreeProcess) → IsTable ms es → AllByRecursion FitsEntry es
table_fits no_members es h = subst (AllByRecursion FitsEntry) (sym h) tt
table_fits (member k d ms) es (ds, is, are) = processes_fit ds es are

-- The logs that are read are each the first of a process.

first_more : (es : List TreeProcess) (seen ls : List ProcessLog) (l : ProcessLog) → AreFirst es seen ls
    → FitsLog l
    → may_follow es (seen ++ ls) l ≡ true → AreFirst es seen (ls ++ l ∷ [])
first_more es seen [] l h fits may = (
  fits,
  subst (λ (x : List ProcessLog). may_follow es x l ≡ true)
      (append_nil seen) may,
  tt,
)
  where
    append_nil : (x : List ProcessLog) → x ++ [] ≡ x
    append_nil [] = refl
    append_nil (y ∷ x) = ap (λ (t : List ProcessLog). y ∷ t) (append_nil x)
first_more es seen (m ∷ ls) l (here, first, more) fits may = (
  here,
  first,
  first_more es (seen ++ m ∷ []) ls l more fits
      (subst (λ (x : List ProcessLog). may_follow es x l ≡ true) (sym (append_assoc seen (m ∷ []) ls)) may),
)

-- what is read of lines, after logs that are each the first of a process
abbrev FirstOf : List TreeProcess → Result (List ProcessLog) ℕ → List ProcessLog → Type 0
FirstOf es read ls = read ≡ Ok ls → AreFirst es [] ls

line_first : (es : List TreeProcess) (seen ls : List ProcessLog) (n : ℕ) (line : List ℕ)
    (o : Option ProcessLog)
    (more : List ProcessLog → Result (List ProcessLog) ℕ) → log_at line ≡ o → AreFirst es [] seen
    → ((now : List ProcessLog) → AreFirst es [] now → FirstOf es (more now) ls)
    → FirstOf es (line_then es seen n o more) ls
line_first es seen ls n line None more is h next e = absurd cc
line_first es seen ls n line (Some l) more is h next e = by_test (may_follow es seen l) refl e
  where
    by_test : (b : Bool) → may_follow es seen l ≡ b → cond b (more (seen ++ l ∷ [])) (Err n) ≡ Ok ls
        → AreFirst es [] ls
    by_test true may f = next (seen ++ l ∷ []) (first_more es [] seen l h (line_takes line l is).1 may) f
    by_test false may f = absurd cc

behind_first : (es : List TreeProcess) (seen ls : List ProcessLog) (n : ℕ) (lines : List (List ℕ))
    → AreFirst es [] seen
    → FirstOf es (logs_behind es seen n lines) ls
behind_first es seen ls n [] h e =
    let is : Ok seen ≡ Ok ls = sym (at_end es seen n) ∙ e in
    let same : seen ≡ ls = cc in
    subst (AreFirst es []) same h
behind_first es seen ls n (line ∷ lines) h e =
    elim (cases_Bool (is_skipped line)) [
      | inl skipped ↦ behind_first es seen ls (n + 1) lines h
          (sym (at_skipped es seen n line lines skipped) ∙ e)
      | inr kept ↦
          line_first es seen ls n line (log_at line) (λ now. logs_behind es now (n + 1) lines) refl h
          (λ now first. behind_first es now ls (n + 1) lines first)
          (sym (at_line es seen n line lines kept) ∙ e)
    ]

abbrev got : List ProcessLog → Result (List ProcessLog) ℕ
got ls = Ok ls

whole : (es : List TreeProcess) (last : ℕ) (read : Result (List ProcessLog) ℕ) (ls : List ProcessLog)
    → complete es last read ≡ Ok ls
    → (read ≡ Ok ls) × (each_has_log es ls ≡ true)
whole es last (Err n) ls e = absurd cc
whole es last (Ok found) ls e = by_test (each_has_log es found) refl e
  where
    by_test : (b : Bool) → each_has_log es found ≡ b → cond b (got found) (Err last) ≡ got ls
        → (got found ≡ got ls) × (each_has_log es ls ≡ true)
    by_test true each f = let same : found ≡ ls = cc in
        (f, subst (λ (x : List ProcessLog). each_has_log es x ≡ true) same each)
    by_test false each f = absurd cc

logs_fit : (es : List TreeProcess) (rule : ℕ) (lines : List (List ℕ)) (ls : List ProcessLog)
    → logs_of es rule lines ≡ Ok ls → FitsLogs es ls
unfolding logs_of
logs_fit es rule lines ls e =
    let (read, each) = whole es (rule + length lines) (logs_behind es [] (rule + 1) lines) ls e in
    record { are_first = behind_first es [] ls (rule + 1) lines tt read; each_has_one = each }

pub read_can_be_written : ReadCanBeWritten
read_can_be_written input es ls (rule, lines, front, read) =
    let (ms, parsed, is) = front.has_text.tree_text in
    (record { entries_fit = table_fits ms es is; is_tree = front.is_tree }, logs_fit es rule lines ls read)
