-- The text of the lines of a report.
use Rattle.std.specs.Prelude.{ℕ, Bool, true, false, Option, Some, None, List, [], ◌++◌, codes}
use Rattle.std.specs.List.{flat_map}
use Rattle.std.specs.Fmt.{decimal}
use Rattle.protocol.specs.declared.records.Reports.{Reports}
use Rattle.protocol.specs.Texts.{case_text, outcome_word}
use Rattle.audit_cases.specs.declared.kinds.Own.{Own}
use Rattle.audit_cases.specs.declared.kinds.Own.TheVariants as own
use Rattle.audit_tree.specs.declared.report.ReportLine.{ReportLine}
use Rattle.log_lines.specs.Words.{listed_words}

-- the word of how a case stands by its own records
abbrev pub own_word : Own → List ℕ
own_word own.Commit = codes "commit"
own_word own.Abort = codes "abort"
own_word own.Collecting = codes "collecting"
own_word own.InDoubt = codes "in-doubt"
own_word own.HeurCommit = codes "heur-commit"
own_word own.HeurRollback = codes "heur-rollback"

-- ` mismatch`, if there is one
abbrev pub mismatch_part : Bool → List ℕ
mismatch_part true = codes " mismatch"
mismatch_part false = []

-- what the root's End reports: the mixed tickets, and the unreported ones
abbrev pub reports_part : Option Reports → List ℕ
reports_part None = []
reports_part (Some r) =
    listed_words (codes " reported") r.mixed ++ listed_words (codes " unreported") r.unreported

-- the line of a case: its name, its own word, its outcome, whether they do not agree, and what is reported
abbrev pub line_text : ReportLine → List ℕ
line_text l =
    case_text l.case ++ codes " " ++ own_word l.own ++ codes " " ++ outcome_word l.outcome
    ++ mismatch_part l.mismatch ++ reports_part l.reports ++ codes "\n"

-- the lines of cases
abbrev pub lines_text : List ReportLine → List ℕ
lines_text ls = flat_map line_text ls

-- the line of a number of mismatches
abbrev pub count_text : ℕ → List ℕ
count_text n = codes "mismatches " ++ decimal n ++ codes "\n"
