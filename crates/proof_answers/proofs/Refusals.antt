-- An answer by parts of the logs that says rollback found an abort: a case on the way up has refused, or the
-- root has an Abort.
use Rattle.std.proofs.Common.{◌≡◌, ◌∙◌, ◌&&◌, ◌||◌, ◌⊎◌, inl, inr, ℕ, zero, suc, Bool, true, false, not, Option, Some, None, option_map, List, [], fold, length, if◌then◌else◌, refl, sym, ap, subst, arith}
use Rattle.protocol.specs.declared.names.Case.{Case}
use Rattle.protocol.specs.declared.names.Outcome.{Outcome}
use Rattle.protocol.specs.declared.names.Outcome.TheVariants.{Committed, Aborted}
use Rattle.protocol.specs.declared.names.Presumption.{Presumption}
use Rattle.protocol.specs.declared.names.Presumption.TheVariants.{PresumeAbort, PresumeCommit}
use Rattle.protocol.specs.declared.names.ProcessId.{ProcessId}
use Rattle.protocol.specs.declared.names.Ticket.{Ticket}
use Rattle.protocol.specs.declared.names.Txn.{Txn}
use Rattle.protocol.specs.declared.records.Record.{Record}
use Rattle.protocol.specs.declared.trees.TreeProcess.{TreeProcess}
use Rattle.protocol.specs.Names.{child_case, process_of, root_case}
use Rattle.protocol.specs.Nodes.{Role, AtRoot, Below, AtLeaf, Node, is_listed, kept, place_of, role_of}
use Rattle.protocol.specs.Outcomes.{is_joined_message, sent}
use Rattle.protocol.specs.Records.{cases_in, has, is_abort, is_commit, is_committed, is_end, is_forgot, is_prepare, is_prepared, is_rolled_back}
use Rattle.protocol.specs.Trees.{IsTree, parent_of}
use Rattle.protocol.specs.World.{Made, World}
use Rattle.proof_pairs.specs.Invariant.{Common, PresumedAbort, PresumedCommit}
use Rattle.proof_pairs.specs.Reading.{Reading}
use Rattle.proof_pairs.specs.Standing.{IsInDoubt}
use Rattle.protocol.specs.Audits.{is_learnt_abort, is_learnt_commit, is_promise, is_told_of}
use Rattle.proof_processes.specs.Lasts.{Lasts, logs_of}
use Rattle.proof_processes.specs.Marks.{is_branch_record}
use Rattle.proof_processes.specs.Numbers.{IsIssuer}
use Rattle.proof_processes.specs.WorldHolds.{InvariantOf, IsPair, IsParentRole, PairHolds, WorldHolds, is_record_of, pair_reading}
use Rattle.protocol.specs.Audits.{is_naming}
use Rattle.proof_processes.proofs.ChildOf.{no_branch}
use Rattle.proof_processes.proofs.Levels.{parent_is}
use Rattle.proof_processes.proofs.PairOf.{common_of, given}
use Rattle.proof_processes.proofs.Tests.{both, left, not_both, right}
use Rattle.proof_processes.proofs.Worlds.{has_other}
use Rattle.protocol.specs.Audits.{KeptLogs, decision_by, has_line_in, has_place, is_abort_learnt, is_case_at, logs_of_world, naming_case, own_decision, since_promise}
use Rattle.proof_headline.proofs.Ends.{has_either, issues_in}
use Rattle.proof_headline.proofs.Pairs.{joined_pair}
use Rattle.proof_headline.proofs.Parts.{case_parts}
use Rattle.proof_headline.proofs.auditor.Naming.{named_is, named_none}
use Rattle.proof_headline.proofs.auditor.RootLines.{learnt_abort, learnt_commit}
use Rattle.proof_headline.proofs.auditor.Sinces.{IsTestOf, line_same, own_same, reads_same}
use Rattle.proof_headline.proofs.auditor.Verdicts.{abort_with_promise, coordinators_none, forgot_of_branch, issuer_of_parent, none_so, prepare_promises, promise_record}
use Rattle.proof_headline.proofs.runs.Headline.{the_world_holds}
use Rattle.log_script.specs.declared.line.ProcessLog.{ProcessLog}
use Rattle.log_script.specs.Logs.{has_log}
use Rattle.audit_cases.specs.declared.kinds.Kinds.{Kinds}
use Rattle.audit_cases.specs.Kinds.{kinds_of, no_kinds}
use Rattle.audit_cases.specs.Notes.{CaseNote, note_in, note_of, notes_of}
use Rattle.audit_cases.proofs.NoteLaws.{note_is}
use Rattle.audit_tree.specs.Reports.{kept_lists}
use Rattle.audit_engine.specs.declared.steps.StepFound.{StepFound}
use Rattle.audit_engine.specs.declared.steps.StepFound.TheVariants.{Kept as Finds, Nothing}
use Rattle.audit_engine.specs.declared.steps.AuditStep.{AuditStep}
use Rattle.audit_engine.specs.Chains.{asks_on, chain_of, found_in, steps_by, steps_on, steps_within}
use Rattle.audit_engine.specs.Namings.{finds, found_by, stands_by}
use Rattle.resolve_engine.specs.declared.answer.BranchAnswer.{BranchAnswer}
use Rattle.resolve_engine.specs.declared.answer.AnswerReason.TheVariants as reason
use Rattle.resolve_engine.specs.declared.answer.AnswerWord.{AnswerWord}
use Rattle.resolve_engine.specs.declared.answer.AnswerWord.TheVariants as word
use Rattle.resolve_engine.specs.declared.asked.Trust.TheVariants.{Parts}
use Rattle.resolve_engine.specs.Answers.{above_answer, answer_above, answer_by, answer_of, decided_by, is_unpromised, not_kept, own_answer, own_by, root_answer, step_answer}
use Rattle.resolve_engine.specs.Truths.{AreLogsKept, IsCaseLeft}
use Rattle.resolve_engine.proofs.Namings.{finds_naming, no_log_keeps, none_finds}

-- A pair whose parent's case takes part and has refused.
pub record Refused (tree : List TreeProcess) (w : World) (x : Txn) : Type 0 where
  pub of : Case
  pub ticket : Ticket
  pub same : of.txn ≡ x
  pub joined : sent (is_joined_message of ticket) w.net ≡ true
  pub refused : (pair_reading tree w of ticket).refused ≡ true
  pub part : (pair_reading tree w of ticket).took_part_up ≡ true

-- What a pair says.

abbrev Refuses : Reading → Type 0
Refuses r = (r.refused ≡ true) × (r.took_part_up ≡ true)

asked : (r : Reading) → Common r → r.prepared_kept ≡ true → r.took_part_up ≡ true
asked r k e = (k.asked_takes_part (k.promise_was_asked e)).1

took_part : (r : Reading) → Common r → r.prepared_kept ≡ true → r.took_part ≡ true
took_part r k e = (k.asked_takes_part (k.promise_was_asked e)).0

-- a parent's Abort, where the child is in doubt
refuses_by_abort : (p : Presumption) (r : Reading) → InvariantOf p r → IsInDoubt r → r.abort_kept ≡ true
    → Refuses r
refuses_by_abort PresumeAbort r h d e = (h.abort_is_refused e, asked r h.common d.prepared)
refuses_by_abort PresumeCommit r h d e = elim (h.abort_is_refused e) [
  | inl refused ↦ (refused, asked r h.common d.prepared)
  | inr read ↦
      let first = h.common.read_has_reads read (took_part r h.common d.prepared) in
      let none = (h.common.read_means (h.common.read_was_sent first).0).2 in
      absurd (let y = sym none ∙ d.prepared in cc)
]

-- a parent that ended leaves no child in doubt
abort_not_ended : (r : Reading) → PresumedAbort r → IsInDoubt r → r.end_kept ≡ false
abort_not_ended r h d = grind arith

commit_not_ended : (r : Reading) → PresumedCommit r → IsInDoubt r → r.end_kept ≡ false
commit_not_ended r h d = grind arith

none_ended : (p : Presumption) (r : Reading) → InvariantOf p r → IsInDoubt r → r.end_kept ≡ false
none_ended PresumeAbort r h d = abort_not_ended r h d
none_ended PresumeCommit r h d = commit_not_ended r h d

-- a child's own abort
refuses_by_own : (r : Reading) → Common r → r.learnt_abort_kept ≡ true → Refuses r
refuses_by_own r k e =
    let f = k.learnt_abort_stands_behind e in
    (f.1, asked r k f.0)

-- Tests of records.

abbrev Tests : Type 0
Tests = Record → Bool

of_commit : (d : Case) → IsTestOf d (is_commit d)
of_commit d r e = grind arith

of_abort : (d : Case) → IsTestOf d (is_abort d)
of_abort d r e = grind arith

of_prepare : (d : Case) → IsTestOf d (is_prepare d)
of_prepare d r e = grind arith

of_end : (d : Case) → IsTestOf d (is_end d)
of_end d r e = grind arith

of_committed : (d : Case) → IsTestOf d (is_committed d)
of_committed d r e = grind arith

of_rolled_back : (d : Case) → IsTestOf d (is_rolled_back d)
of_rolled_back d r e = grind arith

of_told : (d : Case) (o : Outcome) → IsTestOf d (is_told_of d o)
of_told d Committed r e = grind arith
of_told d Aborted r e = grind arith

rolled_back_learns : (d : Case) (r : Record) → is_rolled_back d r ≡ true → is_learnt_abort d r ≡ true
rolled_back_learns d r e = grind arith

told_learns : (d : Case) (r : Record) → is_told_of d Aborted r ≡ true → is_learnt_abort d r ≡ true
told_learns d r e = grind arith

prepared_promises : (d : Case) (r : Record) → is_prepared d r ≡ true → is_promise d r ≡ true
prepared_promises d r e = grind arith

commit_either : (d : Case) (r : Record) → is_learnt_commit d r ≡ true
    → (is_committed d r ≡ true) ⊎ ((is_commit d r || is_told_of d Committed r) ≡ true)
commit_either d r e = grind arith

commit_or_told : (d : Case) (r : Record) → (is_commit d r || is_told_of d Committed r) ≡ true
    → (is_commit d r ≡ true) ⊎ (is_told_of d Committed r ≡ true)
commit_or_told d r e = grind arith

abort_either : (d : Case) (r : Record) → is_learnt_abort d r ≡ true
    → (is_rolled_back d r ≡ true) ⊎ (is_told_of d Aborted r ≡ true)
abort_either d r e = grind arith

if_none : (q : Tests) (rs : List Record) → (has q rs ≡ true → has q rs ≡ false) → has q rs ≡ false
if_none q rs f = by_test (has q rs) refl
  where
    by_test : (b : Bool) → has q rs ≡ b → has q rs ≡ false
    by_test true e = f e
    by_test false e = e

-- neither a Committed, nor a Commit, nor Told of a commit
no_commit_learnt : (d : Case) (rs : List Record) → has (is_committed d) rs ≡ false
    → has (is_commit d) rs ≡ false
    → has (is_told_of d Committed) rs ≡ false → has (is_learnt_commit d) rs ≡ false
no_commit_learnt d rs a b c = if_none (is_learnt_commit d) rs (λ e.
    elim (has_either (is_learnt_commit d) (is_committed d) (λ r. is_commit d r || is_told_of d Committed r) rs
    (commit_either d) e) [
      | inl f ↦ not_both (is_committed d) (has (is_committed d) rs) f a
      | inr f ↦ elim (has_either (λ r. is_commit d r || is_told_of d Committed r) (is_commit d)
          (is_told_of d Committed) rs (commit_or_told d) f) [
            | inl g ↦ not_both (is_commit d) (has (is_commit d) rs) g b
            | inr g ↦ not_both (is_told_of d Committed) (has (is_told_of d Committed) rs) g c
          ]
    ])

-- neither a RolledBack nor Told of an abort
no_abort_learnt : (d : Case) (rs : List Record) → has (is_rolled_back d) rs ≡ false
    → has (is_told_of d Aborted) rs ≡ false → has (is_learnt_abort d) rs ≡ false
no_abort_learnt d rs a b = if_none (is_learnt_abort d) rs (λ e.
    elim (has_either (is_learnt_abort d) (is_rolled_back d) (is_told_of d Aborted) rs (abort_either d) e) [
      | inl f ↦ not_both (is_rolled_back d) (has (is_rolled_back d) rs) f a
      | inr f ↦ not_both (is_told_of d Aborted) (has (is_told_of d Aborted) rs) f b
    ])

neither_so : (a b c : Bool) → a ≡ false → b ≡ false → (a || (b && c)) ≡ false
neither_so a b c e f = grind arith

-- Words that are no rollback.

commit_is_none : word.Commit ≡ word.Rollback → ⊥
commit_is_none e = cc

wait_is_none : word.Wait ≡ word.Rollback → ⊥
wait_is_none e = cc

unknown_is_none : (p : ProcessId) → word.Unknown p ≡ word.Rollback → ⊥
unknown_is_none p e = cc

heuristic_commit_is_none : word.HeuristicCommit ≡ word.Rollback → ⊥
heuristic_commit_is_none e = cc

heuristic_rollback_is_none : word.HeuristicRollback ≡ word.Rollback → ⊥
heuristic_rollback_is_none e = cc

-- Roles.

pub root_by_ticket : (role : Role) → has_place role None ≡ true → role ≡ AtRoot
root_by_ticket AtRoot e = refl
root_by_ticket (Below p) e = absurd (cc)
root_by_ticket (AtLeaf p) e = absurd (cc)

pub issuer_by_ticket : (role : Role) (t : Ticket) → has_place role (Some t) ≡ true → IsIssuer role
issuer_by_ticket (Below p) t e = tt
issuer_by_ticket (AtLeaf p) t e = tt
issuer_by_ticket AtRoot t e = absurd (cc)

-- a line below the root is of a case that promised, and that no operator forgot
pub record Promised (d : Case) (rs : List Record) : Type 0 where
  pub promised : has (is_promise d) rs ≡ true
  pub not_forgotten : has (is_forgot d) rs ≡ false

is_not : (b : Bool) → not b ≡ true → b ≡ false
is_not true e = absurd (cc)
is_not false e = refl

pub line_promised : (role : Role) (n : Node) (d : Case) → IsIssuer role → Lasts role (logs_of n)
    → has_line_in role d (since_promise d (kept n)) ≡ true → Promised d (kept n)
line_promised (Below p) n d i l e =
    let f = sym (line_same (Below p) n d l (Below p)) ∙ e in
    record {
      promised = has_other (is_prepare d) (is_promise d) (kept n) (prepare_promises d) f;
      not_forgotten = none_so (is_forgot d) (is_branch_record d) (kept n) (forgot_of_branch d)
          (no_branch d n l.nested l.by_role).kept_none;
    }
line_promised (AtLeaf p) n d i l e =
    let f = both (has (is_prepared d) (kept n)) _ (sym (line_same (AtLeaf p) n d l (AtLeaf p)) ∙ e) in
    record {
      promised = has_other (is_prepared d) (is_promise d) (kept n) (prepared_promises d) f.0;
      not_forgotten = is_not (has (is_forgot d) (kept n)) f.1;
    }
line_promised AtRoot n d i l e = absurd (i)

module _ (tree : List TreeProcess) (t : IsTree tree) (logs : List ProcessLog) (es : List Made) (w : World)
    (is_left : AreLogsKept tree logs es w) (asker : Case) where
  abbrev keeps : KeptLogs
  keeps = kept_lists tree logs

  abbrev there : KeptLogs
  there = logs_of_world w

  holds : WorldHolds tree w
  holds = the_world_holds tree t es w is_left.is_run

  -- the word of the answer after these steps, where this was answered before
  abbrev said : BranchAnswer → List AuditStep → AnswerWord
  said a ss = (fold (λ b s. step_answer Parts logs asker s) a ss).word

  abbrev more : ℕ → Case → List AuditStep
  more k = steps_within k tree (kept_lists tree logs)

  -- where N steps upward of a child in doubt say rollback, a case has refused
  abbrev Says : ℕ → Type 0
  Says k = (c : Case) (u : Ticket) → sent (is_joined_message c u) w.net ≡ true
      → IsInDoubt (pair_reading tree w c u) → (a : BranchAnswer) → (a.word ≡ word.Rollback → ⊥)
      → (fold (λ b s. step_answer Parts logs asker s) a
      (steps_within k tree (kept_lists tree logs) (child_case c.txn u))).word ≡ word.Rollback
      → Refused tree w c.txn

  -- A case that promised has a pair.

  pub record Pair (x : Txn) (u : Ticket) : Type 0 where
    pub of : Case
    pub same : of.txn ≡ x
    pub joined : sent (is_joined_message of u) w.net ≡ true

  pub promised_pair : (x : Txn) (u : Ticket) → is_listed tree u.child ≡ true → IsIssuer (role_of tree u.child)
      → has (is_promise (child_case x u)) (kept (w.at u.child)) ≡ true → Pair x u
  promised_pair x u listed i promised =
      let node = holds.nodes u.child listed in
      let recorded = (issues_in (role_of tree u.child) (place_of tree u.child) w.net (w.at u.child) i
      node.role).recorded_is_given (child_case x u)
      (has_other (is_promise (child_case x u)) (is_record_of (child_case x u)) (w.at u.child).life
      (promise_record (child_case x u))
      (node.lasts.nested.kept_was_written (is_promise (child_case x u)) (λ q. refl) promised)) in
      let g = given w.net x u recorded.1 in
      record { of = g.of; same = g.same; joined = g.joined }

  -- One step.

  module _ (k : ℕ) (says : Says k) (c : Case) (u : Ticket)
      (joined : sent (is_joined_message c u) w.net ≡ true)
      (doubt : IsInDoubt (pair_reading tree w c u)) where
    abbrev n : Node
    n = w.at (process_of c)

    pair : IsPair tree c u
    pair = (joined_pair tree w holds c u joined).0

    pair_holds : PairHolds tree w c u
    pair_holds = (joined_pair tree w holds c u joined).1

    lasts : Lasts (role_of tree (process_of c)) (logs_of (w.at (process_of c)))
    lasts = (holds.nodes (process_of c) pair.parent.listed).lasts

    no_branch_record : has (is_branch_record c) (kept (w.at (process_of c))) ≡ false
    no_branch_record = coordinators_none (role_of tree (process_of c)) n c c.ticket pair.parent.role lasts

    -- what is said where the parent has found this
    abbrev Above : StepFound → Type 0
    Above f = (fold (λ b s. step_answer Parts logs asker s)
        (step_answer Parts logs asker (record { ticket = u; process = process_of c; found = f }))
        (steps_on (steps_within k tree (kept_lists tree logs)) (asks_on f))).word ≡ word.Rollback
        → Refused tree w c.txn

    by_abort : has (is_abort c) (kept (w.at (process_of c))) ≡ true → Refused tree w c.txn
    by_abort e =
        let f = refuses_by_abort c.txn.presumption (pair_reading tree w c u) pair_holds doubt e in
        record { of = c; ticket = u; same = refl; joined = joined; refused = f.0; part = f.1 }

    -- the parent is in doubt itself
    module _ (promised : has (is_prepare c) (kept (w.at (process_of c))) ≡ true)
        (no_commit : has (is_commit c) (kept (w.at (process_of c))) ≡ false)
        (no_abort : has (is_abort c) (kept (w.at (process_of c))) ≡ false)
      where
        none_learnt : has (is_learnt_commit c) (kept (w.at (process_of c))) ≡ false
        none_learnt = if_none (is_learnt_commit c) (kept n) (λ e.
            not_both (is_commit c) (has (is_commit c) (kept n))
            (learnt_commit c (kept n) no_branch_record e) no_commit)

        none_aborted : has (is_learnt_abort c) (kept (w.at (process_of c))) ≡ false
        none_aborted = none_so (is_learnt_abort c) (is_branch_record c) (kept n) (λ r e. grind arith)
            no_branch_record

        none_forgotten : has (is_forgot c) (kept (w.at (process_of c))) ≡ false
        none_forgotten = none_so (is_forgot c) (is_branch_record c) (kept n) (forgot_of_branch c)
            no_branch_record

        at_child : (v : Ticket) → c.ticket ≡ Some v → c ≡ child_case c.txn v
        at_child v f = case_parts c c.txn (Some v) refl f

        abbrev Doubtful : Case → Type 0
        Doubtful b = (has (is_promise b) (kept (w.at (process_of b))) ≡ true)
            × (has (is_learnt_commit b) (kept (w.at (process_of b))) ≡ false)
            × ((has (is_learnt_abort b) (kept (w.at (process_of b)))
            || (has (is_abort b) (kept (w.at (process_of b)))
            && has (is_prepare b) (kept (w.at (process_of b))))) ≡ false)
            × (has (is_forgot b) (kept (w.at (process_of b))) ≡ false)

        doubtful : Doubtful c
        doubtful = (
          has_other (is_prepare c) (is_promise c) (kept n) (prepare_promises c) promised,
          none_learnt,
          neither_so (has (is_learnt_abort c) (kept n)) (has (is_abort c) (kept n))
              (has (is_prepare c) (kept n))
              none_aborted no_abort,
          none_forgotten,
        )

        by_pair : (v : Ticket) (x : Txn) → Pair x v → Doubtful (child_case x v) → (a : BranchAnswer)
            → (a.word ≡ word.Rollback → ⊥)
            → (fold (λ b s. step_answer Parts logs asker s) a
            (steps_within k tree (kept_lists tree logs) (child_case x v))).word ≡ word.Rollback
            → Refused tree w x
        by_pair v x p =
            subst (λ (y : Txn). Doubtful (child_case y v) → (a : BranchAnswer) → (a.word ≡ word.Rollback → ⊥)
            → (fold (λ b s. step_answer Parts logs asker s) a
            (steps_within k tree (kept_lists tree logs) (child_case y v))).word ≡ word.Rollback
            → Refused tree w y) p.same
            (λ d a none e. says p.of v p.joined
            (record { prepared = d.0; no_commit = d.1; no_abort = d.2; not_forgotten = d.3 }) a none e)

        at_top : (j : ℕ) (b : Case) → b.ticket ≡ None → steps_within j tree (kept_lists tree logs) b ≡ []
        at_top zero b f = refl
        at_top (suc j) b f =
            ap (λ o. steps_by (steps_within j tree keeps) (found_in keeps b.txn o) o
            (parent_of tree (process_of b))) f

        asks_above : (o : Option Ticket) → c.ticket ≡ o → (a : BranchAnswer) → (a.word ≡ word.Rollback → ⊥)
            → (fold (λ b s. step_answer Parts logs asker s) a
            (steps_within k tree (kept_lists tree logs) c)).word ≡ word.Rollback
            → Refused tree w c.txn
        asks_above None f a none e = absurd (none (ap (λ ss. said a ss) (sym (at_top k c f)) ∙ e))
        asks_above (Some v) f a none e =
            let same = at_child v f in
            let at : process_of c ≡ v.child = ap process_of same in
            let listed = subst (λ (q : ProcessId). is_listed tree q ≡ true) at pair.parent.listed in
            let i = issuer_of_parent (role_of tree v.child) v (subst (λ (q : ProcessId). IsParentRole
            (role_of tree q) (Some v)) at
            (subst (λ (o : Option Ticket). IsParentRole (role_of tree (process_of c)) o) f pair.parent.role))
            in
            let d = subst Doubtful same doubtful in
            by_pair v c.txn (promised_pair c.txn v listed i d.0) d a none
            (ap (λ b. said a (more k b)) (sym same) ∙ e)

    -- what stands of the parent's case

    same_test : (q : Tests) → IsTestOf c q → (b : Bool)
        → has q (since_promise c (kept (w.at (process_of c)))) ≡ b
        → has q (kept (w.at (process_of c))) ≡ b
    same_test q of b e = sym (reads_same (role_of tree (process_of c)) n c lasts q of) ∙ e

    by_stands : (commit abort prepare ended : Bool)
        → has (is_commit c) (since_promise c (kept (w.at (process_of c)))) ≡ commit
        → has (is_abort c) (since_promise c (kept (w.at (process_of c)))) ≡ abort
        → has (is_prepare c) (since_promise c (kept (w.at (process_of c)))) ≡ prepare
        → has (is_end c) (since_promise c (kept (w.at (process_of c)))) ≡ ended
        → Above (Finds c (stands_by commit abort prepare ended))
    by_stands true abort prepare ended p q r s e = absurd (commit_is_none e)
    by_stands false true prepare ended p q r s e = by_abort (same_test (is_abort c) (of_abort c) true q)
    by_stands false false true ended p q r s e =
        asks_above (same_test (is_prepare c) (of_prepare c) true r)
        (same_test (is_commit c) (of_commit c) false p)
        (same_test (is_abort c) (of_abort c) false q) c.ticket refl _ wait_is_none e
    by_stands false false false true p q r s e =
        let none = none_ended c.txn.presumption (pair_reading tree w c u) pair_holds doubt in
        absurd (let y = sym none ∙ same_test (is_end c) (of_end c) true s in cc)
    by_stands false false false false p q r s e = absurd (wait_is_none e)

    not_kept_waits : has_log logs (process_of c) ≡ true → Above Nothing
    not_kept_waits here e = absurd (by_log (has_log logs (process_of c)) here e)
      where
        by_log : (b : Bool) → b ≡ true
            → (not_kept Parts b (process_of c) asker).word ≡ word.Rollback → ⊥
        by_log true h f = wait_is_none f
        by_log false h f = absurd (cc)

    missing_waits : has_log logs (process_of c) ≡ false → Above Nothing
    missing_waits gone e = absurd (by_log (has_log logs (process_of c)) gone e)
      where
        by_log : (b : Bool) → b ≡ false
            → (not_kept Parts b (process_of c) asker).word ≡ word.Rollback → ⊥
        by_log true h f = absurd (cc)
        by_log false h f = unknown_is_none (process_of c) f

    by_named : has_log logs (process_of c) ≡ true → (b : Bool)
        → has (is_naming c u) (kept (w.at (process_of c))) ≡ b
        → Above (found_by (option_map (λ d. (d, note_of (kept (w.at (process_of c))) d))
        (naming_case tree (process_of c) c.txn u (kept (w.at (process_of c))))))
    by_named here true e =
        subst (λ (o : Option Case). Above (found_by
        (option_map (λ d. (d, note_of (kept (w.at (process_of c))) d)) o)))
        (sym (named_is tree w holds c u joined e))
        (by_stands _ _ _ _ refl refl refl refl)
    by_named here false e =
        subst (λ (o : Option Case). Above (found_by
        (option_map (λ d. (d, note_of (kept (w.at (process_of c))) d)) o)))
        (sym (named_none tree w holds c u joined e))
        (not_kept_waits here)

    by_log : (b : Bool) → has_log logs (process_of c) ≡ b
        → Above (finds (notes_of (kept_lists tree logs (process_of c))) c.txn u)
    by_log true here =
        let p = process_of c in
        let same : keeps p ≡ there p = is_left.kept_there p pair.parent.listed here in
        subst Above
        (sym (ap (λ rs. finds (notes_of rs) c.txn u) same
        ∙ finds_naming tree logs t p pair.parent.listed (there p) same c.txn u))
        (by_named here (has (is_naming c u) (kept n)) refl)
    by_log false gone =
        subst Above
        (sym (ap (λ rs. finds (notes_of rs) c.txn u) (no_log_keeps tree logs (process_of c) gone)
        ∙ none_finds c.txn u))
        (missing_waits gone)

    step_says : (a : BranchAnswer)
        → (fold (λ b s. step_answer Parts logs asker s) a
        (steps_within (suc k) tree (kept_lists tree logs) (child_case c.txn u))).word ≡ word.Rollback
        → Refused tree w c.txn
    step_says a e =
        by_log (has_log logs (process_of c)) refl
        (ap (λ o. said a (steps_by (more k) (found_in keeps c.txn (Some u)) (Some u) o))
        (sym (parent_is tree u.child (process_of c) pair.child)) ∙ e)

  climb : (k : ℕ) → Says k
  climb zero = λ c u joined doubt a none e. absurd (none e)
  climb (suc k) = λ c u joined doubt a none e. step_says k (climb k) c u joined doubt a e

-- The case that is asked.

-- a word of an answer that stands is that of what was found above
promised_is : (logs : List ProcessLog) (c : Case) (k : Kinds) (a : BranchAnswer)
    → (answer_above logs c k a).word ≡ word.Rollback
    → a.word ≡ word.Rollback
promised_is logs c k a = by_test (is_unpromised logs c k a)
  where
    by_test : (b : Bool)
        → (if b then record { word = word.Unknown (process_of c); reason = reason.NoPromise (process_of c) }
        else a).word ≡ word.Rollback → a.word ≡ word.Rollback
    by_test true e = absurd (unknown_is_none (process_of c) e)
    by_test false e = e

-- by what the case's own log says: an abort, or nothing and what was found above
own_says : {A : Type 0} (heur_commit heur_rollback commit abort : Bool) (above : BranchAnswer)
    → (abort ≡ true → A)
    → (commit ≡ false → abort ≡ false → above.word ≡ word.Rollback → A)
    → (answer_by (own_by heur_commit heur_rollback (decided_by commit abort)) above).word ≡ word.Rollback → A
own_says true hr a b above f g e = absurd (heuristic_commit_is_none e)
own_says false true a b above f g e = absurd (heuristic_rollback_is_none e)
own_says false false true b above f g e = absurd (commit_is_none e)
own_says false false false true above f g e = f refl
own_says false false false false above f g e = g refl refl e

three_none : (a b c : Bool) → ((a || b) || c) ≡ false → (a ≡ false) × (b ≡ false) × (c ≡ false)
three_none a b c e = (grind arith, grind arith, grind arith)

three_one : (a b c : Bool) → ((a || b) || c) ≡ true → (a ≡ true) ⊎ ((b ≡ true) ⊎ (c ≡ true))
three_one true b c e = inl refl
three_one false true c e = inr (inl refl)
three_one false false c e = inr (inr e)

decision_none : (a b p : Bool) → decision_by a b p ≡ None → (a ≡ false) × (b ≡ false)
decision_none true b p e = absurd (cc)
decision_none false true p e = absurd (cc)
decision_none false false p e = (refl, refl)

module _ (tree : List TreeProcess) (t : IsTree tree) (logs : List ProcessLog) (es : List Made) (w : World)
    (is_left : AreLogsKept tree logs es w) where
  abbrev keeps_of : KeptLogs
  keeps_of = kept_lists tree logs

  abbrev left_there : KeptLogs
  left_there = logs_of_world w

  all_hold : WorldHolds tree w
  all_hold = the_world_holds tree t es w is_left.is_run

  -- what is noted of a case whose log is here is what its records say
  kinds_here : (d : Case) → is_listed tree (process_of d) ≡ true → has_log logs (process_of d) ≡ true
      → (note_in (notes_of (kept_lists tree logs (process_of d))) d).kinds
      ≡ kinds_of d (since_promise d (kept (w.at (process_of d))))
  kinds_here d listed here =
      ap (λ (n : CaseNote). n.kinds) (note_is (keeps_of (process_of d)) d)
      ∙ ap (λ rs. kinds_of d (since_promise d rs)) (is_left.kept_there (process_of d) listed here)

  -- and of one whose log is not here, nothing
  kinds_missing : (d : Case) → has_log logs (process_of d) ≡ false
      → (note_in (notes_of (kept_lists tree logs (process_of d))) d).kinds ≡ no_kinds
  unfolding cases_in
  kinds_missing d gone = nothing_kept (keeps_of (process_of d)) (no_log_keeps tree logs (process_of d) gone)
    where
      nothing_kept : (rs : List Record) → rs ≡ [] → (note_in (notes_of rs) d).kinds ≡ no_kinds
      nothing_kept rs e = ap (λ ks. (note_in (notes_of ks) d).kinds) e

  abbrev above_of : Case → BranchAnswer
  above_of d = above_answer Parts logs d (chain_of tree (kept_lists tree logs) d)

  -- by these kinds of its own records
  answer_with : (d : Case) (k : Kinds) → (note_in (notes_of (kept_lists tree logs (process_of d))) d).kinds
      ≡ k
      → (answer_of Parts tree logs (kept_lists tree logs) d).word ≡ word.Rollback
      → (answer_by (own_answer k) (answer_above logs d k
      (above_answer Parts logs d (chain_of tree (kept_lists tree logs) d)))).word
      ≡ word.Rollback
  unfolding answer_of
  answer_with d k same e =
      ap (λ z. (answer_by (own_answer z) (answer_above logs d z (above_of d))).word) (sym same) ∙ e

  -- A case below the root.

  module _ (b : Case) (u : Ticket) (joined : sent (is_joined_message b u) w.net ≡ true)
      (listed : is_listed tree u.child ≡ true) (issuer : IsIssuer (role_of tree u.child))
      (line : has_line_in (role_of tree u.child) (child_case b.txn u)
      (since_promise (child_case b.txn u) (kept (w.at u.child))) ≡ true)
    where
      abbrev d : Case
      d = child_case b.txn u

      abbrev own : Node
      own = w.at u.child

      pair_common : Common (pair_reading tree w b u)
      pair_common = common_of b.txn.presumption (pair_reading tree w b u)
          (joined_pair tree w all_hold b u joined).1

      own_lasts : Lasts (role_of tree u.child) (logs_of (w.at u.child))
      own_lasts = (all_hold.nodes u.child listed).lasts

      line_is : Promised (child_case b.txn u) (kept (w.at u.child))
      line_is = line_promised (role_of tree u.child) own d issuer own_lasts line

      in_doubt : has (is_learnt_commit (child_case b.txn u)) (kept (w.at u.child)) ≡ false
          → has (is_learnt_abort (child_case b.txn u)) (kept (w.at u.child)) ≡ false
          → has (is_abort (child_case b.txn u)) (kept (w.at u.child)) ≡ false
          → IsInDoubt (pair_reading tree w b u)
      in_doubt e f g = record {
        prepared = line_is.promised;
        no_commit = e;
        no_abort = neither_so (has (is_learnt_abort d) (kept own)) (has (is_abort d) (kept own))
            (has (is_prepare d) (kept own)) f g;
        not_forgotten = line_is.not_forgotten;
      }

      by_own_abort : (has (is_learnt_abort (child_case b.txn u)) (kept (w.at u.child))
          || (has (is_abort (child_case b.txn u)) (kept (w.at u.child))
          && has (is_prepare (child_case b.txn u)) (kept (w.at u.child)))) ≡ true → Refused tree w b.txn
      by_own_abort e =
          let f = refuses_by_own (pair_reading tree w b u) pair_common e in
          record { of = b; ticket = u; same = refl; joined = joined; refused = f.0; part = f.1 }

      and_so : (a b : Bool) → a ≡ true → b ≡ true → (a && b) ≡ true
      and_so a b e f = grind arith

      own_aborts : (has (is_learnt_abort (child_case b.txn u)) (kept (w.at u.child)) ≡ true)
          ⊎ (has (is_abort (child_case b.txn u)) (kept (w.at u.child)) ≡ true) → Refused tree w b.txn
      own_aborts (inl e) = by_own_abort (left _ _ e)
      own_aborts (inr e) = by_own_abort (right (has (is_learnt_abort d) (kept own)) _ (and_so _ _ e
          (abort_with_promise (role_of tree u.child) own d issuer own_lasts e line_is.promised)))

      from_above : IsInDoubt (pair_reading tree w b u)
          → (above_answer Parts logs (child_case b.txn u)
          (chain_of tree (kept_lists tree logs) (child_case b.txn u))).word
          ≡ word.Rollback → Refused tree w b.txn
      unfolding chain_of
      from_above doubt e = climb tree t logs es w is_left d (length tree) b u joined doubt
          (root_answer Parts d) wait_is_none e

      kept_test : (q : Tests) → IsTestOf (child_case b.txn u) q → (x : Bool)
          → has q (since_promise (child_case b.txn u) (kept (w.at u.child))) ≡ x
          → has q (kept (w.at u.child)) ≡ x
      kept_test q of x e = sym (reads_same (role_of tree u.child) own d own_lasts q of) ∙ e

      abbrev since : List Record
      since = since_promise (child_case b.txn u) (kept (w.at u.child))

      log_here : has_log logs u.child ≡ true
          → (answer_of Parts tree logs (kept_lists tree logs) (child_case b.txn u)).word ≡ word.Rollback
          → Refused tree w b.txn
      log_here here e =
          let k = kinds_of d since in
          own_says k.heur_commit k.heur_rollback _ _ (answer_above logs d k (above_of d))
          (λ f. elim (three_one k.rolled_back k.told_abort k.abort f) [
            | inl g ↦ own_aborts (inl (has_other (is_rolled_back d) (is_learnt_abort d) (kept own)
                (rolled_back_learns d) (kept_test (is_rolled_back d) (of_rolled_back d) true g)))
            | inr g ↦ elim g [
              | inl h ↦ own_aborts (inl (has_other (is_told_of d Aborted) (is_learnt_abort d) (kept own)
                  (told_learns d) (kept_test (is_told_of d Aborted) (of_told d Aborted) true h)))
              | inr h ↦ own_aborts (inr (kept_test (is_abort d) (of_abort d) true h))
            ]
          ])
          (λ f g said.
          let commits = three_none k.committed k.commit k.told_commit f in
          let aborts = three_none k.rolled_back k.told_abort k.abort g in
          from_above (in_doubt
          (no_commit_learnt d (kept own) (kept_test (is_committed d) (of_committed d) false commits.0)
          (kept_test (is_commit d) (of_commit d) false commits.1)
          (kept_test (is_told_of d Committed) (of_told d Committed) false commits.2))
          (no_abort_learnt d (kept own) (kept_test (is_rolled_back d) (of_rolled_back d) false aborts.0)
          (kept_test (is_told_of d Aborted) (of_told d Aborted) false aborts.1))
          (kept_test (is_abort d) (of_abort d) false aborts.2))
          (promised_is logs d k (above_of d) said))
          (answer_with d k (kinds_here d listed here) e)

      abort_either_learnt : (r : Record) → is_learnt_abort (child_case b.txn u) r ≡ true
          → is_abort_learnt (child_case b.txn u) r ≡ true
      abort_either_learnt r e = grind arith

      abort_is_learnt : (r : Record) → is_abort (child_case b.txn u) r ≡ true
          → is_abort_learnt (child_case b.txn u) r ≡ true
      abort_is_learnt r e = grind arith

      log_missing : has_log logs u.child ≡ false → own_decision (child_case b.txn u) (kept (w.at u.child))
          ≡ None
          → (answer_of Parts tree logs (kept_lists tree logs) (child_case b.txn u)).word ≡ word.Rollback
          → Refused tree w b.txn
      log_missing gone doubt e =
          let none = decision_none _ _ _ (sym (own_same (role_of tree u.child) own d own_lasts) ∙ doubt) in
          from_above (in_doubt none.0
          (none_so (is_learnt_abort d) (is_abort_learnt d) (kept own) abort_either_learnt none.1)
          (none_so (is_abort d) (is_abort_learnt d) (kept own) abort_is_learnt none.1))
          (promised_is logs d no_kinds (above_of d) (answer_with d no_kinds (kinds_missing d gone) e))

  -- The root's case.

  module _ (x : Txn) (listed : is_listed tree x.root ≡ true) (top : role_of tree x.root ≡ AtRoot) where
    abbrev r : Case
    r = root_case x

    top_lasts : Lasts (role_of tree x.root) (logs_of (w.at x.root))
    top_lasts = (all_hold.nodes x.root listed).lasts

    no_branch_at : (role : Role) → role ≡ AtRoot → Lasts role (logs_of (w.at x.root))
        → has (is_branch_record (root_case x)) (kept (w.at x.root)) ≡ false
    no_branch_at AtRoot e l = (no_branch r (w.at x.root) l.nested l.by_role).kept_none
    no_branch_at (Below p) e l = absurd (cc)
    no_branch_at (AtLeaf p) e l = absurd (cc)

    none_above : (above_answer Parts logs (root_case x)
        (chain_of tree (kept_lists tree logs) (root_case x))).word
        ≡ word.Rollback → ⊥
    unfolding chain_of
    none_above e = by_size (length tree) e
      where
        by_size : (j : ℕ)
            → (above_answer Parts logs (root_case x)
            (steps_within j tree (kept_lists tree logs) (root_case x))).word
            ≡ word.Rollback → ⊥
        by_size zero f = wait_is_none f
        by_size (suc j) f = wait_is_none f

    top_test : (q : Tests) → IsTestOf (root_case x) q
        → has q (since_promise (root_case x) (kept (w.at x.root))) ≡ true → has q (kept (w.at x.root)) ≡ true
    top_test q of e = sym (reads_same (role_of tree x.root) (w.at x.root) r top_lasts q of) ∙ e

    learnt_by_root : has (is_abort_learnt (root_case x)) (kept (w.at x.root)) ≡ true
        → has (is_abort (root_case x)) (kept (w.at x.root)) ≡ true
    learnt_by_root e = learnt_abort r (kept (w.at x.root))
        (no_branch_at (role_of tree x.root) top top_lasts) e

    rolled_back_is_learnt : (y : Record) → is_rolled_back (root_case x) y ≡ true
        → is_abort_learnt (root_case x) y ≡ true
    rolled_back_is_learnt y e = grind arith

    told_is_learnt : (y : Record) → is_told_of (root_case x) Aborted y ≡ true
        → is_abort_learnt (root_case x) y ≡ true
    told_is_learnt y e = grind arith

    root_here : has_log logs x.root ≡ true
        → (answer_of Parts tree logs (kept_lists tree logs) (root_case x)).word ≡ word.Rollback
        → has (is_abort (root_case x)) (kept (w.at x.root)) ≡ true
    root_here here e =
        let k = kinds_of r (since_promise r (kept (w.at x.root))) in
        own_says k.heur_commit k.heur_rollback _ _ (answer_above logs r k (above_of r))
        (λ f. elim (three_one k.rolled_back k.told_abort k.abort f) [
          | inl g ↦ learnt_by_root (has_other (is_rolled_back r) (is_abort_learnt r) (kept (w.at x.root))
              rolled_back_is_learnt (top_test (is_rolled_back r) (of_rolled_back r) g))
          | inr g ↦ elim g [
            | inl h ↦ learnt_by_root (has_other (is_told_of r Aborted) (is_abort_learnt r)
                (kept (w.at x.root))
                told_is_learnt (top_test (is_told_of r Aborted) (of_told r Aborted) h))
            | inr h ↦ top_test (is_abort r) (of_abort r) h
          ]
        ])
        (λ f g said. absurd (none_above (promised_is logs r k (above_of r) said)))
        (answer_with r k (kinds_here r listed here) e)

    root_missing : has_log logs x.root ≡ false
        → (answer_of Parts tree logs (kept_lists tree logs) (root_case x)).word ≡ word.Rollback → ⊥
    root_missing gone e =
        none_above (promised_is logs r no_kinds (above_of r)
        (answer_with r no_kinds (kinds_missing r gone) e))

  -- Each case.

  -- what an answer by parts that says rollback rests on
  pub data Ground (c : Case) : Type 0 where
    refusal : Refused tree w c.txn → Ground c
    root_aborts : role_of tree c.txn.root ≡ AtRoot
        → has (is_abort (root_case c.txn)) (kept (w.at c.txn.root)) ≡ true → Ground c

  abbrev Asked : Case → Type 0
  Asked c = IsCaseLeft tree logs w c → (answer_of Parts tree logs (kept_lists tree logs) c).word
      ≡ word.Rollback → Ground c

  below_root : (x : Txn) (u : Ticket) → Asked (child_case x u)
  below_root x u is_so e =
      let f = both (is_listed tree u.child) _ is_so.line in
      let g = both (is_case_at tree u.child (child_case x u)) _ f.1 in
      let place = (both _ _ (both _ _ g.0).0).1 in
      let i = issuer_by_ticket (role_of tree u.child) u place in
      let promised = line_promised (role_of tree u.child) (w.at u.child) (child_case x u) i
      (all_hold.nodes u.child f.0).lasts g.1 in
      let p = promised_pair tree t logs es w is_left (child_case x u) x u f.0 i promised.promised in
      refusal (with_pair p f.0 i g.1 (has_log logs u.child) refl is_so.in_doubt e)
    where
      with_pair : Pair tree t logs es w is_left (child_case x u) x u → is_listed tree u.child ≡ true
          → IsIssuer (role_of tree u.child)
          → has_line_in (role_of tree u.child) (child_case x u)
          (since_promise (child_case x u) (kept (w.at u.child))) ≡ true
          → (b : Bool) → has_log logs u.child ≡ b
          → (has_log logs u.child ≡ false → own_decision (child_case x u) (kept (w.at u.child)) ≡ None)
          → (answer_of Parts tree logs (kept_lists tree logs) (child_case x u)).word ≡ word.Rollback
          → Refused tree w x
      with_pair p listed i line b here doubt e =
          subst (λ (y : Txn).
          has_line_in (role_of tree u.child) (child_case y u)
          (since_promise (child_case y u) (kept (w.at u.child))) ≡ true
          → (has_log logs u.child ≡ false → own_decision (child_case y u) (kept (w.at u.child)) ≡ None)
          → (answer_of Parts tree logs (kept_lists tree logs) (child_case y u)).word ≡ word.Rollback
          → Refused tree w y)
          p.same
          (λ line' doubt' e'. by_log p.of p.joined line' doubt' e' b here) line doubt e
        where
          by_log : (a : Case) → sent (is_joined_message a u) w.net ≡ true
              → has_line_in (role_of tree u.child) (child_case a.txn u)
              (since_promise (child_case a.txn u) (kept (w.at u.child))) ≡ true
              → (has_log logs u.child ≡ false → own_decision (child_case a.txn u)
              (kept (w.at u.child)) ≡ None)
              → (answer_of Parts tree logs (kept_lists tree logs) (child_case a.txn u)).word ≡ word.Rollback
              → (b : Bool) → has_log logs u.child ≡ b → Refused tree w a.txn
          by_log a joined line doubt e true here = log_here a u joined listed i line here e
          by_log a joined line doubt e false gone = log_missing a u joined listed i line gone (doubt gone) e

  at_root : (x : Txn) → Asked (root_case x)
  at_root x is_so e =
      let f = both (is_listed tree x.root) _ is_so.line in
      let g = both (is_case_at tree x.root (root_case x)) _ f.1 in
      let place = (both _ _ (both _ _ g.0).0).1 in
      let top = root_by_ticket (role_of tree x.root) place in
      by_log top f.0 (has_log logs x.root) refl e
    where
      by_log : role_of tree x.root ≡ AtRoot → is_listed tree x.root ≡ true → (b : Bool)
          → has_log logs x.root ≡ b
          → (answer_of Parts tree logs (kept_lists tree logs) (root_case x)).word ≡ word.Rollback
          → Ground (root_case x)
      by_log top listed true here e = root_aborts top (root_here x listed top here e)
      by_log top listed false gone e = absurd (root_missing x listed top gone e)

  pub rests_on : (c : Case) → Asked c
  rests_on c = by_ticket c.ticket refl
    where
      by_ticket : (o : Option Ticket) → c.ticket ≡ o → Asked c
      by_ticket None f = subst Asked (sym (case_parts c c.txn None refl f)) (at_root c.txn)
      by_ticket (Some u) f = subst Asked (sym (case_parts c c.txn (Some u) refl f)) (below_root c.txn u)
