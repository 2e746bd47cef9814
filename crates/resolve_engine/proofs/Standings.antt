-- What stands of a coordinator's case is its own decision.
use Rattle.std.proofs.Common.{◌≡◌, ◌∙◌, ◌||◌, Bool, true, false, if◌then◌else◌, Option, Some, None, List, [], ◌∷◌, refl, sym, arith}
use Rattle.protocol.specs.declared.names.Case.{Case}
use Rattle.protocol.specs.declared.names.Outcome.{Outcome}
use Rattle.protocol.specs.declared.names.Outcome.TheVariants.{Committed, Aborted}
use Rattle.protocol.specs.declared.names.Ticket.{Ticket}
use Rattle.protocol.specs.declared.records.Record.{Record}
use Rattle.protocol.specs.Records.{has, is_committed, is_prepared, is_rolled_back}
use Rattle.protocol.specs.Nodes.{Role, AtRoot, Below, AtLeaf, Node, kept}
use Rattle.protocol.specs.Audits.{is_told_of}
use Rattle.proof_pairs.specs.turns.Written.{is_coordinators}
use Rattle.proof_processes.specs.Lasts.{Lasts, logs_of}
use Rattle.proof_processes.specs.Marks.{is_branch_record}
use Rattle.protocol.specs.Audits.{is_naming}
use Rattle.proof_processes.proofs.ChildOf.{no_branch}
use Rattle.proof_processes.proofs.Tests.{not_both, second_false}
use Rattle.proof_processes.proofs.Worlds.{has_other}
use Rattle.protocol.specs.Audits.{decision_by, own_decision, since_promise}
use Rattle.proof_headline.proofs.auditor.Verdicts.{none_so}
use Rattle.audit_cases.specs.Kinds.{kinds_of}
use Rattle.audit_cases.proofs.KindLaws.{decision_is}
use Rattle.audit_engine.specs.declared.steps.Stands.{Stands}
use Rattle.audit_engine.specs.declared.steps.Stands.TheVariants.{Abort, Collecting, Commit, Ended, Prepare}
use Rattle.audit_engine.specs.Namings.{stands_by, stands_in}

-- the decision of a case of which this stands: one that collects votes will abort
unfoldable pub decides : Stands → Option Outcome
decides Commit = Some Committed
decides Abort = Some Aborted
decides Prepare = None
decides Ended = None
decides Collecting = Some Aborted

-- without a manager's record, what stands of a case decides
by_kinds : (committed commit told_commit rolled_back told_abort abort prepared prepare ended : Bool)
    → committed ≡ false → told_commit ≡ false → rolled_back ≡ false → told_abort ≡ false → prepared ≡ false
    → decision_by ((committed || commit) || told_commit) ((rolled_back || told_abort) || abort)
    ((prepared || prepare) || ended) ≡ decides (stands_by commit abort prepare ended)
unfolding decides
by_kinds committed commit told_commit rolled_back told_abort abort prepared prepare ended a b c d e =
    rw (a, b, c, d, e) (by_tests commit abort prepare ended)
  where
    by_tests : (commit abort prepare ended : Bool)
        → decision_by ((false || commit) || false) abort (prepare || ended)
        ≡ decides (stands_by commit abort prepare ended)
    by_tests true abort prepare ended = refl
    by_tests false true prepare ended = refl
    by_tests false false true ended = refl
    by_tests false false false true = refl
    by_tests false false false false = refl

-- what no record is, none is from the last promise on
none_since : (c : Case) (q : Record → Bool) (rs : List Record) → has q rs ≡ false
    → has q (since_promise c rs) ≡ false
unfolding has
none_since c q [] none = none
none_since c q (r ∷ rs) none =
    by_test (has (is_prepared c) rs) (none_since c q rs (second_false (q r) (has q rs) none))
  where
    by_test : (b : Bool) → has q (since_promise c rs) ≡ false
        → has q (if b then since_promise c rs else r ∷ rs) ≡ false
    by_test true rest = rest
    by_test false rest = none

committed_branch : (c : Case) (r : Record) → is_committed c r ≡ true → is_branch_record c r ≡ true
committed_branch c r e = grind arith

rolled_back_branch : (c : Case) (r : Record) → is_rolled_back c r ≡ true → is_branch_record c r ≡ true
rolled_back_branch c r e = grind arith

prepared_branch : (c : Case) (r : Record) → is_prepared c r ≡ true → is_branch_record c r ≡ true
prepared_branch c r e = grind arith

told_branch : (c : Case) (o : Outcome) (r : Record) → is_told_of c o r ≡ true → is_branch_record c r ≡ true
told_branch c Committed r e = grind arith
told_branch c Aborted r e = grind arith

-- the own decision of a case without a manager's record is what stands of it
pub stands_decides : (c : Case) (rs : List Record) → has (is_branch_record c) rs ≡ false
    → own_decision c rs ≡ decides (stands_in (kinds_of c (since_promise c rs)))
stands_decides c rs none =
    let k = kinds_of c (since_promise c rs) in
    let no = none_since c (is_branch_record c) rs none in
    sym (decision_is c rs)
    ∙ by_kinds k.committed k.commit k.told_commit k.rolled_back k.told_abort k.abort k.prepared
    k.prepare k.ended
    (none_so (is_committed c) (is_branch_record c) (since_promise c rs) (committed_branch c) no)
    (none_so (is_told_of c Committed) (is_branch_record c) (since_promise c rs) (told_branch c Committed) no)
    (none_so (is_rolled_back c) (is_branch_record c) (since_promise c rs) (rolled_back_branch c) no)
    (none_so (is_told_of c Aborted) (is_branch_record c) (since_promise c rs) (told_branch c Aborted) no)
    (none_so (is_prepared c) (is_branch_record c) (since_promise c rs) (prepared_branch c) no)

naming_coordinators : (c : Case) (u : Ticket) (r : Record) → is_naming c u r ≡ true → is_coordinators r ≡ true
naming_coordinators c u r e = grind arith

-- a process that names a ticket is a coordinator, and so keeps no manager's record
pub naming_no_branch : (role : Role) (n : Node) (c : Case) (u : Ticket) → Lasts role (logs_of n)
    → has (is_naming c u) (kept n) ≡ true → has (is_branch_record c) (kept n) ≡ false
naming_no_branch AtRoot n c u l named = (no_branch c n l.nested l.by_role).kept_none
naming_no_branch (Below p) n c u l named = (no_branch c n l.nested l.by_role).kept_none
naming_no_branch (AtLeaf p) n c u l named =
    not_both is_coordinators (has is_coordinators n.life)
    (has_other (is_naming c u) is_coordinators n.life (naming_coordinators c u)
    (l.nested.kept_was_written (is_naming c u) (λ k. refl) named)) l.by_role.no_coordinators_record
