-- The text of what is explained, piece by piece.
use Rattle.std.proofs.Common.{◌≡◌, ◌∙◌, ℕ, true, false, if◌then◌else◌, List, [], ◌++◌, codes, IfOk, Result, Ok, Err, sym, ap, append-nil, append_assoc}
use Rattle.std.specs.List.{flat_map}
use Rattle.std.specs.Fmt.{decimal}
use Rattle.protocol.specs.declared.names.Case.{Case}
use Rattle.protocol.specs.declared.names.Presumption.{Presumption}
use Rattle.protocol.specs.declared.names.ProcessId.{ProcessId}
use Rattle.protocol.specs.declared.names.Ticket.{Ticket}
use Rattle.protocol.specs.declared.trees.TreeProcess.{TreeProcess}
use Rattle.protocol.specs.Names.{presumed, process_of}
use Rattle.protocol.specs.Texts.{case_text, outcome_word}
use Rattle.protocol.specs.Audits.{KeptLogs}
use Rattle.audit_tree.specs.Reports.{mismatches_in}
use Rattle.audit_tree.specs.Tables.{AreNotes, TreeTables}
use Rattle.audit_tree.specs.declared.report.ReportLine.{ReportLine}
use Rattle.audit_tree.specs.declared.report.Report.{Report}
use Rattle.audit_engine.specs.declared.steps.StepFound.{StepFound}
use Rattle.audit_engine.specs.declared.steps.StepFound.TheVariants.{Nothing}
use Rattle.audit_engine.specs.declared.steps.AuditStep.{AuditStep}
use Rattle.audit_engine.specs.Audits.{detailed_text, explained_text, report_text}
use Rattle.audit_engine.specs.Explanations.{do_text, explained_line, explanation_text, found_text, is_explained, mend_text, reports_text, steps_of, steps_text, told_part, why_text}
use Rattle.audit_engine.specs.Lines.{count_text, line_text, lines_text}
use Rattle.audit_engine.specs.declared.detail.Detail.{Detail}
use Rattle.audit_engine.specs.declared.detail.Detail.TheVariants as detail
use Rattle.audit_engine.proofs.Texts.{five, four, three}

-- Lines of several pieces.

pub mend_pushed : (c : Case) (old a b d e f : List ℕ) → a ≡ old ++ codes "  do: put the data of "
    → b ≡ a ++ decimal (process_of c).0 → d ≡ b ++ codes " right, then forget " → e ≡ d ++ case_text c
    → f ≡ e ++ codes "\n" → f ≡ old ++ mend_text c
mend_pushed c old a b d e f g h i j k =
    five old a b d e f (codes "  do: put the data of ") (decimal (process_of c).0)
    (codes " right, then forget ")
    (case_text c) (codes "\n") g h i j k

pub nothing_pushed : (x : Presumption) (t : Ticket) (p : ProcessId) (found : StepFound) (old a b d e : List ℕ)
    → found ≡ Nothing → a ≡ old ++ codes "at " → b ≡ a ++ decimal p.0
    → d ≡ b ++ codes ": nothing kept, presumed "
    → e ≡ d ++ outcome_word (presumed x) → e ≡ old ++ found_text x t p found
nothing_pushed x t p found old a b d e is f g h i =
    four old a b d e (codes "at ") (decimal p.0) (codes ": nothing kept, presumed ")
    (outcome_word (presumed x)) f g h i
    ∙ ap (λ t. old ++ t) (joined (codes "at ") (decimal p.0) (codes ": nothing kept, presumed ")
    (outcome_word (presumed x)))
    ∙ sym (ap (λ y. old ++ found_text x t p y) is)
  where
    joined : (x y z w : List ℕ) → x ++ (y ++ (z ++ w)) ≡ x ++ y ++ z ++ w
    joined x y z w = simp append_assoc

-- An explanation.

pub explanation_pushed : (tree : List TreeProcess) (logs : KeptLogs) (l : ReportLine)
    (old a b d : List ℕ) (ss : List AuditStep)
    → a ≡ old ++ told_part l.case l.decision → b ≡ a ++ steps_text l.case.txn.presumption ss
    → d ≡ b ++ do_text l.mismatch l.case ss → ss ≡ steps_of tree logs l.case l.decision
    → d ≡ old ++ explanation_text tree logs l
explanation_pushed tree logs l old a b d ss told steps does is =
    three old a b d (told_part l.case l.decision) (steps_text l.case.txn.presumption ss)
    (do_text l.mismatch l.case ss)
    told steps does
    ∙ ap (λ (ts : List AuditStep). old ++ (told_part l.case l.decision
    ++ (steps_text l.case.txn.presumption ts ++ do_text l.mismatch l.case ts))) is
    ∙ ap (λ t. old ++ t) (sym (append_assoc (told_part l.case l.decision)
    (steps_text l.case.txn.presumption (steps_of tree logs l.case l.decision))
    (do_text l.mismatch l.case (steps_of tree logs l.case l.decision))))

-- why a case stands so is told just where it is explained
pub why_pushed : (tree : List TreeProcess) (logs : KeptLogs) (l : ReportLine) (old new : List ℕ)
    → is_explained l ≡ true
    → new ≡ old ++ explanation_text tree logs l → new ≡ old ++ why_text tree logs l
why_pushed tree logs l old new is why =
    why ∙ ap (λ b. old ++ (if b then explanation_text tree logs l else [])) (sym is)

pub none_pushed : (tree : List TreeProcess) (logs : KeptLogs) (l : ReportLine) (old : List ℕ)
    → is_explained l ≡ false
    → old ≡ old ++ why_text tree logs l
none_pushed tree logs l old is =
    sym (append-nil old) ∙ ap (λ b. old ++ (if b then explanation_text tree logs l else [])) (sym is)

pub line_explained : (tree : List TreeProcess) (logs : KeptLogs) (l : ReportLine) (old mid why new : List ℕ)
    → mid ≡ old ++ line_text l → why ≡ mid ++ why_text tree logs l
    → new ≡ why ++ reports_text tree l.case l.reports → new ≡ old ++ explained_line tree logs l
line_explained tree logs l old mid why new line because reported =
    three old mid why new (line_text l) (why_text tree logs l) (reports_text tree l.case l.reports)
    line because reported

pub all_explained : (tree : List TreeProcess) (logs : KeptLogs) (r : Report)
    (none mid new : List ℕ) (ls : List ReportLine)
    → none ≡ [] → ls ≡ r.lines.items → mid ≡ none ++ flat_map (explained_line tree logs) ls
    → new ≡ mid ++ count_text r.mismatches → r.mismatches ≡ mismatches_in r.lines.items
    → new ≡ explained_text tree logs r.lines.items
unfolding explained_text
all_explained tree logs r none mid new ls empty same lines count counted =
    count ∙ ap (λ t. t ++ count_text r.mismatches)
    (lines ∙ ap (λ t. t ++ flat_map (explained_line tree logs) ls) empty
    ∙ ap (λ (xs : List ReportLine). flat_map (explained_line tree logs) xs) same)
    ∙ ap (λ n. flat_map (explained_line tree logs) r.lines.items ++ count_text n) counted

pub lines_told : {V E : Type 0} (items : V → List ℕ) (text : Result V E) (d : Detail)
    (tree : List TreeProcess)
    (ts : TreeTables) (r : Report) → d ≡ detail.Lines → r.mismatches ≡ mismatches_in r.lines.items
    → IfOk text (λ t. items t ≡ lines_text r.lines.items ++ count_text r.mismatches)
    → IfOk text (λ t. (logs : KeptLogs) → AreNotes tree logs ts
    → items t ≡ detailed_text d tree logs r.lines.items)
unfolding report_text
lines_told items (Ok t) d tree ts r is counted told = λ logs notes.
    told ∙ ap (λ n. lines_text r.lines.items ++ count_text n) counted
    ∙ sym (ap (λ x. detailed_text x tree logs r.lines.items) is)
lines_told items (Err e) d tree ts r is counted told = told
