-- A cascaded coordinator's half as a child, by the records of its own case: what an event makes of it.
use Rattle.std.proofs.Common.{◌≡◌, Bool, true, false, ◌||◌, ◌&&◌, List, [], refl, arith, Some, None}
use Rattle.protocol.specs.declared.names.Case.{Case}
use Rattle.protocol.specs.declared.names.Ticket.{Ticket}
use Rattle.protocol.specs.declared.records.Record.{Record}
use Rattle.protocol_words.specs.Variants.{AbortRecord, CommitRecord, EndRecord, PrepareRecord}
use Rattle.protocol.specs.declared.standings.Standing.{Standing}
use Rattle.protocol.specs.NameLaws.{same_case-refl}
use Rattle.protocol.specs.Records.{has, is_commit, is_abort, is_prepare}
use Rattle.protocol.specs.Nodes.{Node, Heard, Effect, kept, after, Version, First, Second}
use Rattle.protocol.specs.CoordinatorRows.{forced, plain, ends_with}
use Rattle.protocol.specs.Memory.{fresh_memory}
use Rattle.protocol.specs.Outcomes.{follows}
use Rattle.proof_pairs.specs.Reading.{is_live}
use Rattle.proof_pairs.specs.readings.ReadingOf.{ChildHalf, child_half_at, phase_by}
use Rattle.proof_pairs.proofs.readings.Lists.{has-push, has-push_behind, has-nil, has-nil_behind, has-cons, has-history}
use Rattle.proof_processes.proofs.ChildOf.{NoBranch, half_as_child}
use Rattle.protocol.specs.declared.messages.Finding.{Finding}
use Rattle.protocol.specs.declared.names.ProcessId.{ProcessId}

-- What the process says of its own case: whether it is open, whether it aborted after its promise or
-- committed, and
-- which of its records are in the log, in its forced front, or ever stood there.
pub record OwnHalf : Type 0 where
  pub failed : Bool
  pub is_open : Bool
  pub obeyed_abort : Bool
  pub committed : Bool
  pub prepare_kept : Bool
  pub prepare_forced : Bool
  pub prepare_ever : Bool
  pub commit_kept : Bool
  pub commit_forced : Bool
  pub abort_kept : Bool
  pub abort_forced : Bool

-- by whether it is open
abbrev pub own_half_at : Bool → Node → Case → OwnHalf
own_half_at o n d = record {
  failed = n.failed;
  is_open = o;
  obeyed_abort = follows (is_abort d) (is_prepare d) n.life;
  committed = has (is_commit d) n.life;
  prepare_kept = has (is_prepare d) (kept n);
  prepare_forced = has (is_prepare d) n.forced;
  prepare_ever = has (is_prepare d) n.durable;
  commit_kept = has (is_commit d) (kept n);
  commit_forced = has (is_commit d) n.forced;
  abort_kept = has (is_abort d) (kept n);
  abort_forced = has (is_abort d) n.forced;
}

-- so it stands as a child: no operator decides there
abbrev pub as_child : OwnHalf → ChildHalf
as_child q = record {
  failed = q.failed;
  is_open = q.is_open;
  obeyed_abort = q.obeyed_abort;
  committed = q.committed;
  prepared_kept = q.prepare_kept;
  prepared_forced = q.prepare_forced;
  prepared_ever = q.prepare_ever;
  learnt_commit_kept = q.commit_kept;
  learnt_commit_forced = q.commit_forced;
  learnt_abort_kept = q.abort_kept && q.prepare_kept;
  learnt_abort_forced = q.abort_forced && q.prepare_forced;
  heuristic_kept = false;
  heuristic_forced = false;
  heuristic_ever = false;
  heuristic_commits = false;
  forgot_kept = false;
  forgot_forced = false;
  forgot_ever = false;
}

any_ticket : Case → Ticket
any_ticket d = record { child = d.txn.root; boot = 0; number = 0 }

pub half_above : (s : Standing) (n : Node) (d : Case) → NoBranch d n
    → child_half_at s n d ≡ as_child (own_half_at (is_live (phase_by n.failed s)) n d)
half_above s n d b = half_as_child s fresh_memory n d (any_ticket d) b

abbrev pub stands_so : Bool → OwnHalf → OwnHalf
stands_so o q = record q { is_open = o }

-- the record was written after what stands; a promise was ever written, or not
abbrev pub wrote : Record → Bool → Case → OwnHalf → OwnHalf
wrote r promised d q = record q {
  obeyed_abort = (is_abort d r && promised) || q.obeyed_abort;
  committed = is_commit d r || q.committed;
  prepare_kept = is_prepare d r || q.prepare_kept;
  commit_kept = is_commit d r || q.commit_kept;
  abort_kept = is_abort d r || q.abort_kept;
}

-- and all that stands was forced
abbrev pub hardens : OwnHalf → OwnHalf
hardens q = record q {
  prepare_forced = q.prepare_kept;
  prepare_ever = q.prepare_kept || q.prepare_ever;
  commit_forced = q.commit_kept;
  abort_forced = q.abort_kept;
}

middle : (q a b : Bool) → ((q || a) || b) ≡ (q || (a || b))
middle q a b = grind arith

pub own_silent : (o o' : Bool) (n : Node) (h : Heard) (e : Effect) (d : Case) → e.written ≡ []
    → own_half_at o' (after n h e) d ≡ stands_so o' (own_half_at o n d)
own_silent o o' n h e d none = rw none (simp (has-nil_behind))

pub own_forced : (o o' : Bool) (n : Node) (h : Heard) (e : Effect) (d : Case) (r : Record) → e.written
    ≡ forced r
    → own_half_at o' (after n h e) d
    ≡ stands_so o' (hardens (wrote r (has (is_prepare d) n.life) d (own_half_at o n d)))
own_forced o o' n h e d r one = rw one (simp (has-push, has-nil, has-cons, has-history, middle))

pub own_plain : (o o' : Bool) (n : Node) (h : Heard) (e : Effect) (d : Case) (r : Record) → e.written
    ≡ plain r
    → own_half_at o' (after n h e) d ≡ stands_so o'
    (wrote r (has (is_prepare d) n.life) d (own_half_at o n d))
own_plain o o' n h e d r one = rw one (simp (has-push_behind, has-cons))

-- a record that promises, commits and aborts nothing of the case
pub record IsAside (d : Case) (r : Record) : Type 0 where
  pub no_prepare : is_prepare d r ≡ false
  pub no_commit : is_commit d r ≡ false
  pub no_abort : is_abort d r ≡ false

pub aside : (d : Case) (r : Record) (promised : Bool) (q : OwnHalf) → IsAside d r → wrote r promised d q ≡ q
aside d r promised q a = rw (a.no_prepare, a.no_commit, a.no_abort) refl

-- below the root an End has nothing of what was found, and is unforced
pub plain_end : (me p : ProcessId) (x : Case) (ver : Version) (fs : List Finding)
    → ends_with ver (record { me = me; parent = Some p; own = x }) fs ≡ plain (EndRecord x None)
plain_end me p x First fs = refl
plain_end me p x Second fs = refl

-- The records of the case itself.

abbrev pub promises : OwnHalf → OwnHalf
promises q = record q { prepare_kept = true }

abbrev pub commits : OwnHalf → OwnHalf
commits q = record q { committed = true; commit_kept = true }

-- after a promise that was ever written, or not
abbrev pub aborts : Bool → OwnHalf → OwnHalf
aborts promised q = record q { obeyed_abort = promised || q.obeyed_abort; abort_kept = true }

pub promises_record : (d : Case) (ts : List Ticket) (b : Bool) (q : OwnHalf)
    → wrote (PrepareRecord d ts) b d q ≡ promises q
promises_record d ts b q = rw (same_case-refl d) refl

pub commits_record : (d : Case) (ts : List Ticket) (b : Bool) (q : OwnHalf)
    → wrote (CommitRecord d ts) b d q ≡ commits q
commits_record d ts b q = rw (same_case-refl d) refl

pub aborts_record : (d : Case) (ts : List Ticket) (b : Bool) (q : OwnHalf)
    → wrote (AbortRecord d ts) b d q ≡ aborts b q
aborts_record d ts b q = rw (same_case-refl d) refl
