-- Why a case stands as its line says, and what to do, as text.
use Rattle.std.specs.Prelude.{ℕ, zero, suc, Bool, true, false, ◌||◌, if◌then◌else◌, Option, Some, None, List, [], ◌++◌, codes, length}
use Rattle.std.specs.List.{flat_map}
use Rattle.std.specs.Fmt.{decimal}
use Rattle.protocol.specs.declared.names.Case.{Case}
use Rattle.protocol.specs.declared.names.Outcome.{Outcome}
use Rattle.protocol.specs.declared.names.Presumption.{Presumption}
use Rattle.protocol.specs.declared.names.ProcessId.{ProcessId}
use Rattle.protocol.specs.declared.names.Ticket.{Ticket}
use Rattle.protocol.specs.declared.records.Reports.{Reports}
use Rattle.protocol.specs.declared.trees.TreeProcess.{TreeProcess}
use Rattle.protocol.specs.Trees.{parent_of}
use Rattle.protocol.specs.Names.{child_case, presumed, process_of}
use Rattle.protocol.specs.Texts.{case_text, outcome_word, ticket_text}
use Rattle.protocol.specs.Audits.{KeptLogs}
use Rattle.audit_cases.specs.declared.kinds.Own.{Own}
use Rattle.audit_cases.specs.declared.kinds.Own.TheVariants as own
use Rattle.audit_tree.specs.declared.report.ReportLine.{ReportLine}
use Rattle.audit_engine.specs.declared.steps.StepDeed.{StepDeed}
use Rattle.audit_engine.specs.declared.steps.StepDeed.TheVariants.{Ask, Restart}
use Rattle.audit_engine.specs.declared.steps.StepFound.{StepFound}
use Rattle.audit_engine.specs.declared.steps.StepFound.TheVariants.{Kept, Nothing}
use Rattle.audit_engine.specs.declared.steps.Stands.{Stands}
use Rattle.audit_engine.specs.declared.steps.Stands.TheVariants.{Abort, Collecting, Commit, Ended, Prepare}
use Rattle.audit_engine.specs.declared.steps.AuditStep.{AuditStep}
use Rattle.audit_engine.specs.Chains.{chain_of, deed_behind}
use Rattle.audit_engine.specs.Lines.{line_text}

-- What decided it.

-- the word of what stands of a case
abbrev pub stands_word : Stands → List ℕ
stands_word Commit = codes "Commit"
stands_word Abort = codes "Abort"
stands_word Prepare = codes "Prepare"
stands_word Ended = codes "End"
stands_word Collecting = codes "Collecting"

-- the ticket of a case, or at the root its transaction
abbrev pub asker_text : Case → Option Ticket → List ℕ
asker_text c None = case_text c
asker_text c (Some t) = ticket_text t

-- the line of what a case was told, or decided itself
abbrev pub told_text : Case → Outcome → List ℕ
told_text c o =
    codes "  " ++ asker_text c c.ticket ++ codes " was told " ++ outcome_word o ++ codes "\n"

-- a case and the process that keeps it
abbrev pub place_text : Case → ProcessId → List ℕ
place_text c p = case_text c ++ codes " at " ++ decimal p.0

-- what stands of a case, and the ticket that it names
abbrev pub kept_text : Stands → Ticket → List ℕ
kept_text s t = codes ": " ++ stands_word s ++ codes " kept, names " ++ ticket_text t

-- what this ticket found at this process; where it was nothing, what is presumed
abbrev pub found_text : Presumption → Ticket → ProcessId → StepFound → List ℕ
found_text x t p Nothing =
    codes "at " ++ decimal p.0 ++ codes ": nothing kept, presumed " ++ outcome_word (presumed x)
found_text x t p (Kept c s) = place_text c p ++ kept_text s t

-- the line of a step
abbrev pub step_text : Presumption → AuditStep → List ℕ
step_text x s =
    codes "  " ++ ticket_text s.ticket ++ codes " asks " ++ found_text x s.ticket s.process
    s.found ++ codes "\n"

-- the lines of steps
abbrev pub steps_text : Presumption → List AuditStep → List ℕ
steps_text x ss = flat_map (step_text x) ss

-- What to do.

-- the line of what is to be done about a case in doubt
abbrev pub deed_text : StepDeed → List ℕ
deed_text (Ask c) = codes "  do: ask " ++ case_text c ++ codes "\n"
deed_text (Restart p) = codes "  do: restart " ++ decimal p.0 ++ codes "\n"

-- the line of what is to be done about a mismatch
abbrev pub mend_text : Case → List ℕ
mend_text c = codes "  do: put the data of " ++ decimal (process_of c).0 ++ codes " right, then forget "
    ++ case_text c ++ codes "\n"

-- Both.

-- what a case was told, if it was
abbrev pub told_part : Case → Option Outcome → List ℕ
told_part c None = []
told_part c (Some o) = told_text c o

-- the steps from a case upward, unless it was told
abbrev pub steps_of : List TreeProcess → KeptLogs → Case → Option Outcome → List AuditStep
steps_of tree logs c None = chain_of tree logs c
steps_of tree logs c (Some o) = []

-- what to do: about a mismatch, or else about a case in doubt after these steps
abbrev pub do_text : Bool → Case → List AuditStep → List ℕ
do_text true c ss = mend_text c
do_text false c ss = deed_text (deed_behind c ss)

-- why a case stands as its line says, and what to do
abbrev pub explanation_text : List TreeProcess → KeptLogs → ReportLine → List ℕ
explanation_text tree logs l =
    let ss = steps_of tree logs l.case l.decision in
    told_part l.case l.decision ++ steps_text l.case.txn.presumption ss ++ do_text l.mismatch l.case ss

-- the case is in doubt
abbrev pub is_in_doubt : Own → Bool
is_in_doubt own.InDoubt = true
is_in_doubt _ = false

-- a line is explained: it shows a mismatch, or its case is in doubt
abbrev pub is_explained : ReportLine → Bool
is_explained l = l.mismatch || is_in_doubt l.own

-- What the root's End reports.

-- the process told its parent, if it has one, and so on
abbrev pub way_on : (ProcessId → List ℕ) → ProcessId → Option ProcessId → List ℕ
way_on more p None = []
way_on more p (Some q) = codes ", " ++ decimal p.0 ++ codes " told " ++ decimal q.0 ++ more q

-- the way of a report from a process up to the root, of N steps at most
unfoldable pub way_text : ℕ → List TreeProcess → ProcessId → List ℕ
way_text zero tree p = []
way_text (suc n) tree p = way_on (way_text n tree) p (parent_of tree p)

-- who reported a ticket, along which way
abbrev pub reporter_text : List TreeProcess → Ticket → List ℕ → List ℕ
reporter_text tree t what =
    codes "  " ++ ticket_text t ++ what ++ way_text (length tree) tree t.child ++ codes "\n"

-- who reported that an operator decided otherwise, and what to do
abbrev pub mixed_text : List TreeProcess → Case → Ticket → List ℕ
mixed_text tree root t =
    reporter_text tree t (codes " was decided otherwise by an operator") ++ codes "  do: put the data of "
    ++ decimal t.child.0 ++ codes " right, then forget " ++ case_text (child_case root.txn t)
    ++ codes ", then forget " ++ case_text root ++ codes "\n"

-- who cannot say what became of a ticket, and what to do
abbrev pub unreported_text : List TreeProcess → Case → Ticket → List ℕ
unreported_text tree root t =
    reporter_text tree t (codes " was no longer known") ++ codes "  do: look at the data of "
    ++ decimal t.child.0 ++ codes " and of what is below it, then forget " ++ case_text root ++ codes "\n"

-- who reported what the root's End reports, and what to do
abbrev pub reported_text : List TreeProcess → Case → Reports → List ℕ
reported_text tree root r =
    flat_map (mixed_text tree root) r.mixed ++ flat_map (unreported_text tree root) r.unreported

-- who reported what the root's End reports, and what to do; nothing, if it reports nothing
abbrev pub reports_text : List TreeProcess → Case → Option Reports → List ℕ
reports_text tree root None = []
reports_text tree root (Some r) = reported_text tree root r

-- why a case stands as its line says, where that is explained
abbrev pub why_text : List TreeProcess → KeptLogs → ReportLine → List ℕ
why_text tree logs l = if is_explained l then explanation_text tree logs l else []

-- a line, and after it why its case stands so, where it is explained, and who reported what the root's End
-- reports
abbrev pub explained_line : List TreeProcess → KeptLogs → ReportLine → List ℕ
explained_line tree logs l = line_text l ++ (why_text tree logs l ++ reports_text tree l.case l.reports)
