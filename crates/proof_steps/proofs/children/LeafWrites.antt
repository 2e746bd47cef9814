-- What an event of a manager does to its half of a reading, by the record that it wrote.
use Rattle.proof_processes.specs.Marks.{is_branch_record}
use Rattle.proof_pairs.specs.turns.Written.{is_coordinators}
use Rattle.protocol.specs.declared.records.Record.TheVariants.{Opened, Collecting, Prepare, Commit, Abort, End, Prepared, Committed, RolledBack, Direct, HeurCommit, HeurRollback, Told, Forgot, Base, Pair, Cleared}
use Rattle.std.proofs.Common.{◌≡◌, Bool, false, ◌||◌, [], refl, arith}
use Rattle.protocol.specs.declared.names.Case.{Case}
use Rattle.protocol_words.specs.Variants.{AbortedOutcome, CommittedOutcome}
use Rattle.protocol.specs.declared.records.Record.{Record}
use Rattle.protocol.specs.declared.standings.Standing.{Standing}
use Rattle.protocol.specs.Records.{is_abort, is_prepare, is_heuristic, is_decided, is_forgot}
use Rattle.protocol.specs.Nodes.{Node, Heard, Effect, after}
use Rattle.protocol.specs.CoordinatorRows.{forced, plain}
use Rattle.proof_pairs.specs.Reading.{is_live}
use Rattle.proof_pairs.specs.readings.ReadingOf.{child_half_at, ChildHalf, phase_by}
use Rattle.protocol.specs.Audits.{is_promise, is_learnt_commit, is_learnt_abort, is_committing}
use Rattle.proof_pairs.proofs.readings.Lists.{has-push, has-push_behind, has-nil, has-nil_behind, has-cons, has-history}

-- the record was written after what stands
abbrev pub wrote : Record → Case → ChildHalf → ChildHalf
wrote r d k = record k {
  obeyed_abort = is_learnt_abort d r || k.obeyed_abort;
  committed = is_committing d r || k.committed;
  prepared_kept = is_promise d r || k.prepared_kept;
  learnt_commit_kept = is_learnt_commit d r || k.learnt_commit_kept;
  learnt_abort_kept = is_learnt_abort d r || k.learnt_abort_kept;
  heuristic_kept = is_heuristic d r || k.heuristic_kept;
  heuristic_commits = is_decided d CommittedOutcome r || k.heuristic_commits;
  forgot_kept = is_forgot d r || k.forgot_kept;
}

-- and all that stands was forced
abbrev pub hardens : ChildHalf → ChildHalf
hardens k = record k {
  prepared_forced = k.prepared_kept;
  prepared_ever = k.prepared_kept || k.prepared_ever;
  learnt_commit_forced = k.learnt_commit_kept;
  learnt_abort_forced = k.learnt_abort_kept;
  heuristic_forced = k.heuristic_kept;
  heuristic_ever = k.heuristic_kept || k.heuristic_ever;
  forgot_forced = k.forgot_kept;
  forgot_ever = k.forgot_kept || k.forgot_ever;
}

abbrev pub stands_so : Bool → ChildHalf → ChildHalf
stands_so o k = record k { is_open = o }

-- a record of a branch, and no coordinator's
pub record IsBranchs (d : Case) (r : Record) : Type 0 where
  pub no_abort : is_abort d r ≡ false
  pub no_prepare : is_prepare d r ≡ false

either_twice : (q a b : Bool) → ((q || a) || (q || (a || b))) ≡ (q || (a || b))
either_twice q a b = grind arith

middle : (q a b : Bool) → ((q || a) || b) ≡ (q || (a || b))
middle q a b = grind arith

pub half_silent : (s s' : Standing) (k : Node) (h : Heard) (e : Effect) (d : Case) → e.written ≡ []
    → child_half_at s' (after k h e) d ≡ stands_so (is_live (phase_by k.failed s')) (child_half_at s k d)
half_silent s s' k h e d none = rw none (simp (has-nil_behind))

pub half_forced : (s s' : Standing) (k : Node) (h : Heard) (e : Effect) (d : Case) (r : Record)
    → e.written ≡ forced r → IsBranchs d r
    → child_half_at s' (after k h e) d
    ≡ stands_so (is_live (phase_by k.failed s')) (hardens (wrote r d (child_half_at s k d)))
half_forced s s' k h e d r one b = rw one
    (simp (has-push, has-nil, has-cons, has-history, b.no_abort, b.no_prepare, either_twice, middle))

pub half_plain : (s s' : Standing) (k : Node) (h : Heard) (e : Effect) (d : Case) (r : Record)
    → e.written ≡ plain r → IsBranchs d r
    → child_half_at s' (after k h e) d
    ≡ stands_so (is_live (phase_by k.failed s')) (wrote r d (child_half_at s k d))
half_plain s s' k h e d r one b = rw one
    (simp (has-push_behind, has-cons, b.no_abort, b.no_prepare, middle))

-- a record of another branch changes nothing of this one
pub unrelated : (d : Case) (r : Record) (k : ChildHalf) → is_branch_record d r ≡ false
    → is_coordinators r ≡ false → wrote r d k ≡ k
unrelated d (Prepared b ws) k e f = rw e refl
unrelated d (Committed b) k e f = rw e refl
unrelated d (RolledBack b) k e f = rw e refl
unrelated d (HeurCommit b) k e f = rw e refl
unrelated d (HeurRollback b) k e f = rw e refl
unrelated d (Told b CommittedOutcome) k e f = rw e refl
unrelated d (Told b AbortedOutcome) k e f = rw e refl
unrelated d (Forgot b) k e f = rw e refl
unrelated d (Direct b ws) k e f = refl
unrelated d (Opened n) k e f = refl
unrelated d (Base n) k e f = refl
unrelated d (Pair x y) k e f = refl
unrelated d (Collecting c ts) k e f = absurd (cc)
unrelated d (Prepare c ts) k e f = absurd (cc)
unrelated d (Commit c ts) k e f = absurd (cc)
unrelated d (Abort c ts) k e f = absurd (cc)
unrelated d (End c rep) k e f = absurd (cc)
unrelated d (Cleared c) k e f = absurd (cc)
