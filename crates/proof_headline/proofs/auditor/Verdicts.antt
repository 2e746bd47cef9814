-- What one case's records say, and what the parent's case says of a ticket.
use Rattle.std.proofs.Common.{◌≡◌, ◌⊎◌, inl, inr, Bool, true, false, Option, Some, List, refl, arith}
use Rattle.protocol.specs.declared.names.Case.{Case}
use Rattle.protocol.specs.declared.names.Outcome.{Outcome}
use Rattle.protocol.specs.declared.names.Outcome.TheVariants.{Committed, Aborted}
use Rattle.protocol.specs.declared.names.Presumption.{Presumption}
use Rattle.protocol.specs.declared.names.Presumption.TheVariants.{PresumeAbort, PresumeCommit}
use Rattle.protocol.specs.declared.names.ProcessId.{ProcessId}
use Rattle.protocol.specs.declared.names.Ticket.{Ticket}
use Rattle.protocol.specs.declared.names.Txn.{Txn}
use Rattle.protocol.specs.declared.records.Record.{Record}
use Rattle.protocol.specs.Names.{presumed}
use Rattle.protocol.specs.Records.{has, is_abort, is_commit, is_forgot, is_prepare}
use Rattle.protocol.specs.Nodes.{Role, AtRoot, Below, AtLeaf, Node, kept}
use Rattle.protocol.specs.Outcomes.{is_commit_outcome, outcome_of}
use Rattle.protocol.specs.World.{World}
use Rattle.proof_pairs.specs.Promises.{AuditedOutcome, Presumes, SaysAbort, SaysCommit, said_by}
use Rattle.proof_pairs.proofs.Audited.{abort_audited, commit_audited}
use Rattle.protocol.specs.Audits.{is_learnt_abort, is_learnt_commit, is_promise}
use Rattle.proof_pairs.specs.turns.Written.{is_coordinators}
use Rattle.proof_processes.specs.Lasts.{Lasts, logs_of}
use Rattle.proof_processes.specs.Marks.{is_branch_record}
use Rattle.proof_processes.specs.Numbers.{IsIssuer}
use Rattle.proof_processes.specs.WorldHolds.{InvariantOf, IsChildRole, IsParentRole, is_record_of}
use Rattle.protocol.specs.Audits.{parent_in}
use Rattle.proof_processes.proofs.ChildOf.{no_branch}
use Rattle.proof_processes.proofs.Tests.{not_both}
use Rattle.proof_processes.proofs.Worlds.{has_other}
use Rattle.proof_headline.proofs.Ends.{has_either}
use Rattle.protocol.specs.Audits.{decided_or, decision_by, is_abort_learnt}

-- What a pair says, by its presumption.

abbrev pub is_presumed_commit : Presumption → Bool
is_presumed_commit PresumeAbort = false
is_presumed_commit PresumeCommit = true

pub pair_audited : (p : Presumption) → AuditedOutcome (InvariantOf p) (is_presumed_commit p)
pair_audited PresumeAbort = abort_audited
pair_audited PresumeCommit = commit_audited

pub says_presumed : (w : World) (x : Txn) (p : Presumption) → is_commit_outcome w x ≡ is_presumed_commit p
    → presumed p ≡ outcome_of w x
says_presumed w x PresumeAbort e = rw e refl
says_presumed w x PresumeCommit e = rw e refl

pub says_commit : (w : World) (x : Txn) → is_commit_outcome w x ≡ true → Committed ≡ outcome_of w x
says_commit w x e = rw e refl

pub says_abort : (w : World) (x : Txn) → is_commit_outcome w x ≡ false → Aborted ≡ outcome_of w x
says_abort w x e = rw e refl

-- Lists of records.

-- what finds no more than another test finds nothing where that one finds nothing
pub none_so : (q r : Record → Bool) (rs : List Record) → ((x : Record) → q x ≡ true → r x ≡ true)
    → has r rs ≡ false
    → has q rs ≡ false
none_so q r rs f e = by_test (has q rs) refl
  where
    by_test : (b : Bool) → has q rs ≡ b → has q rs ≡ false
    by_test false g = g
    by_test true g = not_both r (has r rs) (has_other q r rs f g) e

pub commit_learns : (d : Case) (r : Record) → is_commit d r ≡ true → is_learnt_commit d r ≡ true
commit_learns d r e = grind arith

pub own_abort_learns : (d : Case) (r : Record) → is_abort d r ≡ true → is_abort_learnt d r ≡ true
own_abort_learns d r e = grind arith

pub abort_learns : (d : Case) (r : Record) → is_learnt_abort d r ≡ true → is_abort_learnt d r ≡ true
abort_learns d r e = grind arith

pub abort_either : (d : Case) (r : Record) → is_abort_learnt d r ≡ true
    → (is_learnt_abort d r ≡ true) ⊎ (is_abort d r ≡ true)
abort_either d r e = grind arith

pub promise_either : (d : Case) (r : Record) → is_promise d r ≡ true
    → (is_prepare d r ≡ true) ⊎ (is_branch_record d r ≡ true)
promise_either d r e = grind arith

pub prepare_promises : (d : Case) (r : Record) → is_prepare d r ≡ true → is_promise d r ≡ true
prepare_promises d r e = grind arith

pub promise_record : (d : Case) (r : Record) → is_promise d r ≡ true → is_record_of d r ≡ true
promise_record d r e = grind arith

pub abort_coordinators : (d : Case) (r : Record) → is_abort d r ≡ true → is_coordinators r ≡ true
abort_coordinators d r e = grind arith

pub forgot_of_branch : (d : Case) (r : Record) → is_forgot d r ≡ true → is_branch_record d r ≡ true
forgot_of_branch d r e = grind arith

-- a coordinator's promise is a Prepare
pub promise_prepares : (d : Case) (rs : List Record) → has (is_branch_record d) rs ≡ false
    → has (is_promise d) rs ≡ true
    → has (is_prepare d) rs ≡ true
promise_prepares d rs none e = elim (has_either (is_promise d) (is_prepare d) (is_branch_record d) rs
    (promise_either d) e) [
      | inl f ↦ f
      | inr f ↦ not_both (is_branch_record d) (has (is_branch_record d) rs) f none
    ]

-- an Abort that stands with a promise is a coordinator's, with its Prepare
pub abort_with_promise : (role : Role) (n : Node) (d : Case) → IsIssuer role → Lasts role (logs_of n)
    → has (is_abort d) (kept n) ≡ true → has (is_promise d) (kept n) ≡ true → has (is_prepare d) (kept n)
    ≡ true
abort_with_promise (Below p) n d i l a e = promise_prepares d (kept n)
    (no_branch d n l.nested l.by_role).kept_none e
abort_with_promise (AtLeaf p) n d i l a e =
    not_both is_coordinators (has is_coordinators n.life)
    (has_other (is_abort d) is_coordinators n.life (abort_coordinators d)
    (l.nested.kept_was_written (is_abort d) (λ k. refl) a)) l.by_role.no_coordinators_record
abort_with_promise AtRoot n d i l a e = absurd (i)

-- a coordinator keeps no manager's record
pub coordinators_none : (role : Role) (n : Node) (d : Case) (o : Option Ticket) → IsParentRole role o
    → Lasts role (logs_of n) → has (is_branch_record d) (kept n) ≡ false
coordinators_none AtRoot n d o i l = (no_branch d n l.nested l.by_role).kept_none
coordinators_none (Below p) n d o i l = (no_branch d n l.nested l.by_role).kept_none
coordinators_none (AtLeaf p) n d o i l = absurd (i)

pub parent_at : (role : Role) (q p : ProcessId) → IsChildRole role p → parent_in role q ≡ p
parent_at (Below r) q p h = h
parent_at (AtLeaf r) q p h = h
parent_at AtRoot q p h = absurd (h)

pub issuer_of_child : (role : Role) (p : ProcessId) → IsChildRole role p → IsIssuer role
issuer_of_child (Below r) p h = tt
issuer_of_child (AtLeaf r) p h = tt
issuer_of_child AtRoot p h = absurd (h)

pub issuer_of_parent : (role : Role) (u : Ticket) → IsParentRole role (Some u) → IsIssuer role
issuer_of_parent (Below p) u h = tt
issuer_of_parent AtRoot u h = absurd (h)
issuer_of_parent (AtLeaf p) u h = absurd (h)

-- What the parent's case says.

pub commits_so : (named : Bool) (commit abort promise : Bool) → named ≡ true → commit ≡ true
    → said_by named commit abort promise ≡ SaysCommit
commits_so named commit abort promise e f = rw (e, f) refl

pub aborts_so : (named : Bool) (commit abort promise : Bool) → named ≡ true → commit ≡ false → abort ≡ true
    → said_by named commit abort promise ≡ SaysAbort
aborts_so named commit abort promise e f g = rw (e, f, g) refl

pub undecided_so : (named : Bool) (commit abort promise : Bool) → named ≡ true → commit ≡ false → promise
    ≡ false
    → said_by named commit abort promise ≡ SaysAbort
undecided_so named commit true promise e f g = rw (e, f) refl
undecided_so named commit false promise e f g = rw (e, f, g) refl

pub presumes_so : (named : Bool) (commit abort promise : Bool) → named ≡ false
    → said_by named commit abort promise ≡ Presumes
presumes_so named commit abort promise e = rw e refl

-- a parent that has not promised decided, or will abort
module _ (w : World) (x : Txn) (commit abort promise : Bool)
    (if_commit : commit ≡ true → is_commit_outcome w x ≡ true)
    (if_abort : commit ≡ false → (abort ≡ true) ⊎ (promise ≡ false) → is_commit_outcome w x ≡ false)
  where
    pub by_own : promise ≡ false → (o : Outcome) → decided_or (decision_by commit abort promise) o
        ≡ outcome_of w x
    by_own none o = by_tests commit abort promise refl refl none
      where
        by_tests : (a b p : Bool) → commit ≡ a → abort ≡ b → p ≡ false
            → decided_or (decision_by a b p) o ≡ outcome_of w x
        by_tests true b p e f g = says_commit w x (if_commit e)
        by_tests false true p e f g = says_abort w x (if_abort e (inl f))
        by_tests false false true e f g = absurd (cc)
        by_tests false false false e f g = says_abort w x (if_abort e (inr none))

    pub by_own_or_abort : (commit ≡ false → is_commit_outcome w x ≡ false)
        → decided_or (decision_by commit abort promise) Aborted ≡ outcome_of w x
    by_own_or_abort never = by_tests commit abort promise refl
      where
        by_tests : (a b p : Bool) → commit ≡ a → decided_or (decision_by a b p) Aborted ≡ outcome_of w x
        by_tests true b p e = says_commit w x (if_commit e)
        by_tests false true p e = says_abort w x (never e)
        by_tests false false true e = says_abort w x (never e)
        by_tests false false false e = says_abort w x (never e)
