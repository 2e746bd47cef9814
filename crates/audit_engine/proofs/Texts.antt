-- The text of a report, word by word, and how it ends.
use Rattle.std.proofs.Common.{◌≡◌, ◌∙◌, ℕ, nat_eq, Bool, true, false, None, if◌then◌else◌, List, ◌++◌, codes, OnOk, Result, Ok, Err, refl, sym, ap, subst, append_assoc}
use Rattle.std.specs.Fmt.{decimal}
use Rattle.protocol.specs.declared.trees.TreeProcess.{TreeProcess}
use Rattle.protocol.specs.Texts.{case_text, outcome_word}
use Rattle.log_script.specs.declared.line.ProcessLog.{ProcessLog}
use Rattle.log_script.specs.Faults.{first_damage}
use Rattle.audit_tree.specs.Reports.{kept_lists, mismatches_in}
use Rattle.audit_tree.specs.declared.report.ReportLine.{ReportLine}
use Rattle.audit_tree.specs.declared.report.Report.{Report}
use Rattle.audit_engine.specs.Audits.{IsAudited, Reports, audit_lines, detailed_text, ending_by}
use Rattle.audit_engine.specs.Lines.{count_text, line_text, mismatch_part, own_word, reports_part}
use Rattle.audit_engine.specs.declared.detail.Detail.{Detail}
use Rattle.audit_engine.specs.declared.ending.AuditStatus.{AuditStatus}
use Rattle.audit_engine.specs.declared.ending.AuditStatus.TheVariants as ending

pub on_ok : {A E : Type 0} {P Q : Type 0} (r : Result A E) → (P → Q) → OnOk r P → OnOk r Q
on_ok (Ok a) f h = f h
on_ok (Err e) f h = h

pub three : (old a b c x y z : List ℕ) → a ≡ old ++ x → b ≡ a ++ y → c ≡ b ++ z → c ≡ old ++ (x ++ (y ++ z))
three old a b c x y z e f g = g ∙ ap (λ t. t ++ z) (f ∙ ap (λ t. t ++ y) e) ∙ simp append_assoc

pub four : (old a b c d x y z w : List ℕ) → a ≡ old ++ x → b ≡ a ++ y → c ≡ b ++ z → d ≡ c ++ w
    → d ≡ old ++ (x ++ (y ++ (z ++ w)))
four old a b c d x y z w e f g h = h ∙ ap (λ t. t ++ w) (three old a b c x y z e f g) ∙ simp append_assoc

pub five : (old a b c d e x y z w v : List ℕ) → a ≡ old ++ x → b ≡ a ++ y → c ≡ b ++ z → d ≡ c ++ w
    → e ≡ d ++ v → e ≡ old ++ (x ++ y ++ z ++ w ++ v)
five old a b c d e x y z w v f g h i j =
    j ∙ ap (λ t. t ++ v) (four old a b c d x y z w f g h i) ∙ simp append_assoc

pub six : (old a b c d e f x y z w v u : List ℕ) → a ≡ old ++ x → b ≡ a ++ y → c ≡ b ++ z → d ≡ c ++ w
    → e ≡ d ++ v → f ≡ e ++ u → f ≡ old ++ (x ++ y ++ z ++ w ++ v ++ u)
six old a b c d e f x y z w v u ax by cz dw ev fu =
    fu ∙ ap (λ t. t ++ u) (five old a b c d e x y z w v ax by cz dw ev)
    ∙ append_assoc old (x ++ y ++ z ++ w ++ v) u

pub eight : (old a b c d e f g h x y z w v u s r : List ℕ) → a ≡ old ++ x → b ≡ a ++ y → c ≡ b ++ z
    → d ≡ c ++ w → e ≡ d ++ v → f ≡ e ++ u → g ≡ f ++ s
    → h ≡ g ++ r → h ≡ old ++ (x ++ y ++ z ++ w ++ v ++ u ++ s ++ r)
eight old a b c d e f g h x y z w v u s r ax by cz dw ev fu gs hr =
    let first = six old a b c d e f x y z w v u ax by cz dw ev fu in
    hr ∙ ap (λ t. t ++ r)
    (gs ∙ ap (λ t. t ++ s) first ∙ append_assoc old (x ++ y ++ z ++ w ++ v ++ u) s)
    ∙ append_assoc old (x ++ y ++ z ++ w ++ v ++ u ++ s) r

pub count_pushed : (n : ℕ) (old a b c : List ℕ) → a ≡ old ++ codes "mismatches " → b ≡ a ++ decimal n
    → c ≡ b ++ codes "\n" → c ≡ old ++ count_text n
count_pushed n old a b c e f g = three old a b c (codes "mismatches ") (decimal n) (codes "\n") e f g

-- a line is pushed up to its outcome
pub outcome_pushed : (l : ReportLine) (old a b c d own : List ℕ) → a ≡ old ++ case_text l.case
    → b ≡ a ++ codes " "
    → c ≡ b ++ own → own ≡ own_word l.own → d ≡ c ++ codes " "
    → d ≡ old ++ (case_text l.case ++ (codes " " ++ (own_word l.own ++ codes " ")))
outcome_pushed l old a b c d own e f g own_is h =
    four old a b c d (case_text l.case) (codes " ") (own_word l.own) (codes " ") e f
    (g ∙ ap (λ t. b ++ t) own_is) h

pub line_pushed : (l : ReportLine) (old d e f r g out mis : List ℕ)
    → d ≡ old ++ (case_text l.case ++ (codes " " ++ (own_word l.own ++ codes " "))) → e ≡ d ++ out
    → out ≡ outcome_word l.outcome → f ≡ e ++ mis → mis ≡ mismatch_part l.mismatch
    → r ≡ f ++ reports_part l.reports → g ≡ r ++ codes "\n" → g ≡ old ++ line_text l
line_pushed l old d e f r g out mis up_to o out_is m mis_is reported end =
    end ∙ ap (λ t. t ++ codes "\n")
    (four old d e f r (case_text l.case ++ (codes " " ++ (own_word l.own ++ codes " ")))
    (outcome_word l.outcome) (mismatch_part l.mismatch) (reports_part l.reports) up_to
    (o ∙ ap (λ t. d ++ t) out_is)
    (m ∙ ap (λ t. e ++ t) mis_is) reported)
    ∙ joined old (case_text l.case) (codes " ") (own_word l.own) (codes " ") (outcome_word l.outcome)
    (mismatch_part l.mismatch) (reports_part l.reports) (codes "\n")
  where
    joined : (t x y z w o m r n : List ℕ) → (t ++ ((x ++ (y ++ (z ++ w))) ++ (o ++ (m ++ r)))) ++ n
        ≡ t ++ (x ++ y ++ z ++ w ++ o ++ m ++ r ++ n)
    joined t x y z w o m r n = simp append_assoc

-- how an audit ends with this report
pub report_ends : (detail : Detail) (tree : List TreeProcess) (logs : List ProcessLog)
    (r : Report) (text : List ℕ)
    (e : AuditStatus) → first_damage tree logs ≡ None → r.lines.items ≡ audit_lines tree logs
    → r.mismatches ≡ mismatches_in r.lines.items
    → text ≡ detailed_text detail tree (kept_lists tree logs) r.lines.items → e ≡ ending_by r.mismatches
    → IsAudited detail e tree logs text
report_ends detail tree logs r text e sound lines counted is ends =
    subst (λ x. IsAudited detail x tree logs text) (sym ends) (by_test (nat_eq r.mismatches 0) refl)
  where
    same : r.mismatches ≡ mismatches_in (audit_lines tree logs)
    same = counted ∙ ap mismatches_in lines

    reports : Reports detail tree logs text
    reports = record {
      sound = sound;
      report = is ∙ ap (detailed_text detail tree (kept_lists tree logs)) lines;
    }

    by_test : (b : Bool) → nat_eq r.mismatches 0 ≡ b
        → IsAudited detail (if b then ending.Agrees else ending.Differs) tree logs text
    by_test true zero = (reports, ap (λ n. nat_eq n 0) (sym same) ∙ zero)
    by_test false more = (reports, ap (λ n. nat_eq n 0) (sym same) ∙ more)
