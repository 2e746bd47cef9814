-- A key store with a log does what a resource manager does.
use Rattle.std.proofs.Common.{◌≡◌, ◌-◌, ◌^◌, ℕ, Bool, true, false, not, if◌then◌else◌, List, [], ◌∷◌, Option, Some, None, refl, sym, ap, subst, ◌∙◌}
use Rattle.std.proofs.lemmas.List.{append-nil}
use Rattle.std.specs.Prelude.{◌||◌, Contains, is_none, nat_lt}
use Rattle.xa_codes.specs.declared.code.Code.{Code}
use Rattle.xa_words.specs.code
use Rattle.xa_tables.specs.Tables.{branch_rows, is_spoiled}
use Rattle.xa_tables.specs.declared.call.Call.{Call}
use Rattle.xa_words.specs.call
use Rattle.xa_tables.specs.declared.call.Verb.{Verb}
use Rattle.xa_tables.specs.declared.states.BranchState.{BranchState}
use Rattle.xa_tables.specs.declared.states.BranchState.TheVariants.{S0, S1, S2, S3, S4, S5}
use Rattle.xa_xid.specs.declared.xid.Xid.{Xid}
use Rattle.xa_branch.specs.Names.{same}
use Rattle.xa_branch.specs.Branches.{off_row}
use Rattle.xa_assoc.specs.Associations.{AssocList, active_of}
use Rattle.xa_assoc.specs.declared.states.States.{States}
use Rattle.xa_assoc.specs.Answers.{BeginsIdle, SameStates, TakesTableRow, state_at}
use Rattle.xa_assoc.specs.Ready.{has_rows, is_work, is_work_verb}
use Rattle.xa_assoc.proofs.Finishing.{passed, works_as}
use Rattle.xa_assoc.proofs.Reactions.{stays}
use Rattle.xa_branch.specs.declared.decision.Decision.{Decision}
use Rattle.xa_branch.specs.Decisions.{first_told, told_behind}
use Rattle.xa_branch.specs.Cases.{decision_in, decision_or}
use Rattle.protocol.specs.declared.names.Outcome.{Outcome}
use Rattle.protocol_words.specs.Variants.{AbortedOutcome, CaseBranch, CommittedOutcome}
use Rattle.protocol.specs.declared.records.BranchName.{BranchName}
use Rattle.protocol.specs.declared.records.BranchName.TheVariants.{Foreign}
use Rattle.protocol.specs.declared.records.Write.{Write}
use Rattle.protocol.specs.declared.messages.Op.{Op}
use Rattle.protocol.specs.declared.messages.Op.TheVariants.{Put, Get, Delete}
use Rattle.protocol.specs.Nodes.{Written}
use Rattle.protocol.specs.Plays.{op_writes}
use Rattle.log_text.specs.Parts.{name_in}
use Rattle.log_records.specs.Sights.{Breaks, LogSight}
use Rattle.process_state.specs.States.{wrote}
use Rattle.xa_assoc.specs.declared.errors.WorkError.{WorkError}
use Rattle.xa_assoc.specs.declared.errors.WorkError.TheVariants.{Locked, Memory, NotAssociated, RmFail, RollbackOnly, TooLong, TooManyWrites}
use Rattle.resource_manager.specs.Sights.{ManagerCalls, SameManager, obstacle}
use Rattle.resource_manager.specs.Data
use Rattle.resource_manager.specs.Data.{Locks, held_with, is_begun}
use Rattle.resource_manager.specs.Idle.{BranchComes, HasBegun, IsIdle, IsQuiet, WorksIdle}
use Rattle.resource_manager.proofs.Idle.{has_begun, stays_known}
use Rattle.resource_manager.specs.Works.{WorkRefused, ThreadWorks, work_refusal}
use Rattle.resource_manager.specs.Works
use Rattle.resource_manager.specs.Ends.{Broke, BranchFails, Failed, ManagerFinishes, Limited, Made, BranchMakes, Refused, Unlisted, decided_behind, left_with, logged_under, outcome_row, row_for, row_of, state_of as state_of_log, tells, written_by, written_for}
use Rattle.key_lists.specs.declared.holders.Mode.{Mode}
use Rattle.key_lists.specs.declared.holders.Mode.TheVariants.{Exclusive, Shared}
use Rattle.key_lists.specs.Holders.{blocked_by}
use Rattle.kv_locks.specs.Locks.{holders_of}
use Rattle.kv_store.specs.writes.Writes.{SameWrites, writes_of}
use Rattle.kv_calls.specs.declared.entries.BranchRecord.{BranchRecord}
use Rattle.kv_calls.specs.declared.turns.CallRow.{CallRow}
use Rattle.kv_calls.specs.Turns.{entry_of, tell_turn, turn_of}
use Rattle.kv_state.specs.Stores.{KeySight, MovesTables, SameKeyStore, has_numbers, state_of}
use Rattle.kv_state.specs.Ends.{IsRowListed, LetsBranchGo, Refused as OffRefused, Unlisted as OffUnlisted, known_behind, known_of, turn_for, wrote_some}
use Rattle.kv_state.specs.Works as core
use Rattle.kv_state.specs.Works.{IsRefusedWork, ReadsKey, WritesKey, at_work, is_too_long, limit_refusal, refusal_by, unless_locked, worker_of, working}
use Rattle.kv_manager.specs.Sights.{KvSight, SameKv}
use Rattle.kv_manager.specs.Turns
use Rattle.kv_manager.specs.Turns.{KvCalls, KvFinishes, KvMakes, KvFails, KvTakes, LogsTurn, RefusesWork}
use Rattle.kv_manager.specs.Resources.{sight_of}

-- Nothing changes.

pub same_sight : (old new : KvSight) → SameKv old new → SameManager (sight_of old) (sight_of new)
same_sight old new same =
    record {
      tables = same.tables;
      log = same.log;
      boot = same.boot;
      spent = ap (λ n. not (nat_lt n (2 ^ 63 - 1))) same.versions.count;
      rest = record {
        writes = same.writes;
        holders = λ k. ap (λ t. holders_of t k) same.locks;
        decided = λ x. ap decision_or (same.decisions x);
      };
    }

-- Calls on the tables alone.

moved_rest : (old new : KeySight) (Moves : States → States → Type 0) → MovesTables old new Moves
    → (not (has_numbers new) ≡ not (has_numbers old)) × SameWrites old.writes new.writes
    × ((x : Xid) → known_of new x ≡ known_of old x)
moved_rest old new Moves made = (
  ap (λ v. not (nat_lt v.count (2 ^ 63 - 1))) made.versions,
  λ x. ap (λ w. writes_of w x) made.writes,
  λ x. ap (λ t. decision_or (decision_in t x)) made.decisions,
)

pub called : (old new : KvSight) (refuses : Type 0) (Moves : States → States → Type 0)
    → KvCalls old new refuses (λ before behind. MovesTables before behind Moves)
    → ManagerCalls (sight_of old) (sight_of new) refuses Moves
called old new refuses Moves made = by_failed old.log.sight.failed refl
  where
    by_failed : (b : Bool) → old.log.sight.failed ≡ b
        → ManagerCalls (sight_of old) (sight_of new) refuses Moves
    by_failed true failed =
        let same = same_sight old new (made.failed failed).1 in
        record {
          failed = λ is. ((made.failed is).0, same_sight old new (made.failed is).1);
          works = λ is. (made.works is).tables;
          log = made.log;
          boot = made.boot;
          spent = same.spent;
          rest = same.rest;
        }
    by_failed false works =
        let rest = moved_rest old.store new.store Moves (made.works works) in
        record {
          failed = λ is. ((made.failed is).0, same_sight old new (made.failed is).1);
          works = λ is. (made.works is).tables;
          log = made.log;
          boot = made.boot;
          spent = rest.0;
          rest = record {
            writes = rest.1;
            holders = λ k. ap (λ t. holders_of t k) (made.works works).locks;
            decided = rest.2;
          };
        }

-- Work.

-- why the data are in the way of a branch that works at a key: the first reason that applies
abbrev data_refusal : KeySight → List ℕ → Option (List ℕ) → Mode → Xid → Option WorkError
data_refusal s k v m x =
    if is_too_long k v then Some TooLong
    else unless_locked (blocked_by (holders_of s.locks k) x m) (limit_refusal s x k m)

-- the same of an operation
abbrev obstacle_of : KeySight → Xid → Op → Option WorkError
obstacle_of s x (Put k v) = data_refusal s k (Some v) Exclusive x
obstacle_of s x (Get k) = data_refusal s k None Shared x
obstacle_of s x (Delete k) = data_refusal s k None Exclusive x

one_lock : (o : Option Xid) (other : Option WorkError) → Data.unless_locked o other ≡ unless_locked o other
one_lock (Some y) other = refl
one_lock None other = refl

obstacle_is : (s : KvSight) (x : Xid) (op : Op) → obstacle (sight_of s) x op ≡ obstacle_of s.store x op
obstacle_is s x (Put k v) = ap (λ o. if is_too_long k (Some v) then Some TooLong else o)
    (one_lock (blocked_by (holders_of s.store.locks k) x Exclusive) (limit_refusal s.store x k Exclusive))
obstacle_is s x (Get k) = ap (λ o. if is_too_long k None then Some TooLong else o)
    (one_lock (blocked_by (holders_of s.store.locks k) x Shared) (limit_refusal s.store x k Shared))
obstacle_is s x (Delete k) = ap (λ o. if is_too_long k None then Some TooLong else o)
    (one_lock (blocked_by (holders_of s.store.locks k) x Exclusive) (limit_refusal s.store x k Exclusive))

refused_as : (s : KeySight) (k : List ℕ) (v : Option (List ℕ)) (m : Mode) (x : Xid)
    (st : BranchState) → state_of s x ≡ st
    → Works.state_refusal st (data_refusal s k v m x) ≡ refusal_by s k v m (working st x)
refused_as s k v m x S0 is = refl
refused_as s k v m x S1 is =
    sym (ap (λ t. if is_spoiled t then Some RollbackOnly else data_refusal s k v m x) is)
refused_as s k v m x S2 is = refl
refused_as s k v m x S3 is = refl
refused_as s k v m x S4 is =
    sym (ap (λ t. if is_spoiled t then Some RollbackOnly else data_refusal s k v m x) is)
refused_as s k v m x S5 is = refl

-- why an operation is refused, by its key, its value and its lock
abbrev pub op_refusal : KeySight → ℕ → Op → Option WorkError
op_refusal s t (Put k v) = core.work_refusal s t k (Some v) Exclusive
op_refusal s t (Get k) = core.work_refusal s t k None Shared
op_refusal s t (Delete k) = core.work_refusal s t k None Exclusive

by_thread : (s : KvSight) (t : ℕ) (op : Op) (o : Option Xid) → active_of s.store.tables.associations t ≡ o
    → Works.refusal_by (sight_of s) op o ≡ op_refusal s.store t op
by_thread s t (Put k v) None is = ap (λ a. refusal_by s.store k (Some v) Exclusive
    (worker_of s.store a)) (sym is)
by_thread s t (Get k) None is = ap (λ a. refusal_by s.store k None Shared (worker_of s.store a)) (sym is)
by_thread s t (Delete k) None is = ap (λ a. refusal_by s.store k None Exclusive
    (worker_of s.store a)) (sym is)
by_thread s t (Put k v) (Some x) is =
    ap (Works.state_refusal (state_of s.store x)) (obstacle_is s x (Put k v))
    ∙ refused_as s.store k (Some v) Exclusive x (state_of s.store x) refl
    ∙ ap (λ a. refusal_by s.store k (Some v) Exclusive (worker_of s.store a)) (sym is)
by_thread s t (Get k) (Some x) is =
    ap (Works.state_refusal (state_of s.store x)) (obstacle_is s x (Get k))
    ∙ refused_as s.store k None Shared x (state_of s.store x) refl
    ∙ ap (λ a. refusal_by s.store k None Shared (worker_of s.store a)) (sym is)
by_thread s t (Delete k) (Some x) is =
    ap (Works.state_refusal (state_of s.store x)) (obstacle_is s x (Delete k))
    ∙ refused_as s.store k None Exclusive x (state_of s.store x) refl
    ∙ ap (λ a. refusal_by s.store k None Exclusive (worker_of s.store a)) (sym is)

refusal_as : (s : KvSight) (t : ℕ) (op : Op) → s.log.sight.failed ≡ false
    → work_refusal (sight_of s) t op ≡ op_refusal s.store t op
refusal_as s t op works =
    ap (λ b. if b then Some RmFail else Works.refusal_by (sight_of s) op
    (active_of s.store.tables.associations t)) works
    ∙ by_thread s t op (active_of s.store.tables.associations t) refl

refusal_failed : (s : KvSight) (t : ℕ) (op : Op) → s.log.sight.failed ≡ true
    → work_refusal (sight_of s) t op ≡ Some RmFail
refusal_failed s t op failed =
    ap (λ b. if b then Some RmFail else Works.refusal_by (sight_of s) op
    (active_of s.store.tables.associations t)) failed

stayed : (old new : KvSight) → SameKeyStore old.store new.store
    → new.log.sight ≡ old.log.sight → new.boot ≡ old.boot
    → SameManager (sight_of old) (sight_of new)
stayed old new same log boot =
    record {
      tables = same.tables;
      log = log;
      boot = boot;
      spent = ap (λ v. not (nat_lt v.count (2 ^ 63 - 1))) same.versions;
      rest = record {
        writes = same.writes;
        holders = λ k. ap (λ t. holders_of t k) same.locks;
        decided = λ x. ap decision_or (same.decisions x);
      };
    }

pub work_refused : (old new : KvSight) (t : ℕ) (op : Op) (e : WorkError)
    → RefusesWork old new (op_refusal old.store t op) e
    → WorkRefused (sight_of old) (sight_of new) t op e
work_refused old new t op e made = by_failed old.log.sight.failed refl e made
  where
    failed_so : (e : WorkError) → work_refusal (sight_of old) t op ≡ Some RmFail → e ≡ RmFail
        → SameManager (sight_of old) (sight_of new)
        → WorkRefused (sight_of old) (sight_of new) t op e
    failed_so e is one same = subst (WorkRefused (sight_of old) (sight_of new) t op) (sym one) (is, same)

    refused_so : (e : WorkError) → work_refusal (sight_of old) t op ≡ op_refusal old.store t op
        → IsRefusedWork old.store new.store (op_refusal old.store t op) e
        → new.log.sight ≡ old.log.sight → new.boot ≡ old.boot
        → WorkRefused (sight_of old) (sight_of new) t op e
    refused_so Memory as' why log boot = (as' ∙ why.0, stayed old new why.1 log boot)
    refused_so NotAssociated as' why log boot = (as' ∙ why.0, stayed old new why.1 log boot)
    refused_so (Locked x) as' why log boot = (as' ∙ why.0, stayed old new why.1 log boot)
    refused_so TooLong as' why log boot = (as' ∙ why.0, stayed old new why.1 log boot)
    refused_so TooManyWrites as' why log boot = (as' ∙ why.0, stayed old new why.1 log boot)
    refused_so RmFail as' why log boot = (as' ∙ why.0, stayed old new why.1 log boot)
    refused_so RollbackOnly as' why log boot = (as' ∙ why.0, stayed old new why.1 log boot)

    by_failed : (b : Bool) → old.log.sight.failed ≡ b → (e : WorkError)
        → RefusesWork old new (op_refusal old.store t op) e
        → WorkRefused (sight_of old) (sight_of new) t op e
    by_failed true is e made = failed_so e (refusal_failed old t op is) (made.failed is).0
        (same_sight old new (made.failed is).1)
    by_failed false is e made = refused_so e (refusal_as old t op is) (made.works is) made.log made.boot

worker_is : (st : BranchState) (x y : Xid) → working st x ≡ Some y → x ≡ y
worker_is S0 x y h = absurd (cc)
worker_is S1 x y h = cc
worker_is S2 x y h = absurd (cc)
worker_is S3 x y h = absurd (cc)
worker_is S4 x y h = cc
worker_is S5 x y h = absurd (cc)

active_is : (s : KeySight) (o : Option Xid) (x : Xid) → worker_of s o ≡ Some x → o ≡ Some x
active_is s None x h = absurd (cc)
active_is s (Some y) x h = ap Some (worker_is (state_of s y) y x h)

pub same_tables : (a b : States) → b ≡ a → SameStates a b
same_tables a b is = subst (SameStates a) (sym is)
    (record { init = refl; branches = stays a.branches a.branches refl; associations = refl })

-- an operation was done by the branch that the thread is active in
worked : (old new : KvSight) (t : ℕ) (op : Op) (x : Xid) → old.log.sight.failed ≡ false
    → at_work old.store t ≡ Some x
    → op_refusal old.store t op ≡ None → writes_of new.store.writes x
    ≡ op_writes (writes_of old.store.writes x) op
    → ((y : Xid) → same x y ≡ false → writes_of new.store.writes y ≡ writes_of old.store.writes y)
    → Locks (sight_of old).holders (sight_of new).holders x op
    → new.store.tables ≡ old.store.tables → new.store.decisions ≡ old.store.decisions
    → new.log.sight ≡ old.log.sight → new.boot ≡ old.boot
    → ThreadWorks (sight_of old) (sight_of new) t op
worked old new t op x works at allowed own others locks tables decisions log boot =
    record {
      allowed = refusal_as old t op works ∙ allowed;
      branch = x;
      active = active_is old.store (active_of old.store.tables.associations t) x at;
      own = own;
      others = others;
      locks = locks;
      tables = same_tables old.store.tables new.store.tables tables;
      log = log;
      boot = boot;
      decided = λ y. ap (λ d. decision_or (decision_in d y)) decisions;
    }

pub did_read : (old new : KvSight) (t : ℕ) (k : List ℕ) (found : Option (List ℕ))
    → KvCalls old new ⊥ (λ before behind. ReadsKey before behind t k found)
    → ThreadWorks (sight_of old) (sight_of new) t (Get k)
did_read old new t k found made = by_failed old.log.sight.failed refl
  where
    by_failed : (b : Bool) → old.log.sight.failed ≡ b → ThreadWorks (sight_of old) (sight_of new) t (Get k)
    by_failed true is = absurd (made.failed is).0
    by_failed false is =
        let reads = made.works is in
        worked old new t (Get k) reads.branch is reads.works
        (ap (refusal_by old.store k None Shared) reads.works ∙ reads.allowed)
        (ap (λ w. writes_of w reads.branch) reads.writes) (λ y apart. ap (λ w. writes_of w y) reads.writes)
        (record { own = reads.locks.own; others = reads.locks.others })
        reads.tables reads.decisions made.log made.boot

pub did_put : (old new : KvSight) (t : ℕ) (k v : List ℕ)
    → KvCalls old new ⊥ (λ before behind. WritesKey before behind t k (Some v))
    → ThreadWorks (sight_of old) (sight_of new) t (Put k v)
did_put old new t k v made = by_failed old.log.sight.failed refl
  where
    by_failed : (b : Bool) → old.log.sight.failed ≡ b → ThreadWorks (sight_of old) (sight_of new) t (Put k v)
    by_failed true is = absurd (made.failed is).0
    by_failed false is =
        let wrote = made.works is in
        worked old new t (Put k v) wrote.branch is wrote.works
        (ap (refusal_by old.store k (Some v) Exclusive) wrote.works ∙ wrote.allowed)
        wrote.writes.own wrote.writes.others
        (record { own = wrote.locks.own; others = wrote.locks.others }) wrote.tables wrote.decisions
        made.log made.boot

pub did_delete : (old new : KvSight) (t : ℕ) (k : List ℕ)
    → KvCalls old new ⊥ (λ before behind. WritesKey before behind t k None)
    → ThreadWorks (sight_of old) (sight_of new) t (Delete k)
did_delete old new t k made = by_failed old.log.sight.failed refl
  where
    by_failed : (b : Bool) → old.log.sight.failed ≡ b → ThreadWorks (sight_of old) (sight_of new) t (Delete k)
    by_failed true is = absurd (made.failed is).0
    by_failed false is =
        let wrote = made.works is in
        worked old new t (Delete k) wrote.branch is wrote.works
        (ap (refusal_by old.store k None Exclusive) wrote.works ∙ wrote.allowed)
        wrote.writes.own wrote.writes.others
        (record { own = wrote.locks.own; others = wrote.locks.others }) wrote.tables wrote.decisions
        made.log made.boot

-- Work of a branch that no thread is in.

pub begun_idle : (old new : KvSight) (x : Xid) (begun : Bool) → IsIdle (sight_of old)
    → old.log.sight.failed ≡ false
    → KvCalls old new ⊥ (λ before behind. MovesTables before behind (λ t u. BeginsIdle t u x begun))
    → HasBegun (sight_of old) (sight_of new) x begun
begun_idle old new x begun idle up made =
    let calls = called old new ⊥ (λ t u. BeginsIdle t u x begun) made in
    has_begun (sight_of old) (sight_of new) x begun idle (calls.works up) calls.log calls.boot calls.spent
    calls.rest

op_free : (s : KeySight) (x : Xid) (op : Op) → state_of s x ≡ S2 → core.op_refusal s x op ≡ obstacle_of s x op
op_free s x (Put k v) at =
    ap (λ t. if is_spoiled t then Some RollbackOnly else data_refusal s k (Some v) Exclusive x) at
op_free s x (Get k) at = ap (λ t. if is_spoiled t then Some RollbackOnly else data_refusal s k None Shared x)
    at
op_free s x (Delete k) at =
    ap (λ t. if is_spoiled t then Some RollbackOnly else data_refusal s k None Exclusive x) at

-- the data alone are in the way of an idle branch
in_way : (s : KvSight) (x : Xid) (op : Op) → state_of s.store x ≡ S2
    → obstacle (sight_of s) x op ≡ core.op_refusal s.store x op
in_way s x op at = obstacle_is s x op ∙ sym (op_free s.store x op at)

did_idle : (old new : KvSight) (x : Xid) (op : Op) → IsIdle (sight_of old) → state_of old.store x ≡ S2
    → core.op_refusal old.store x op ≡ None
    → writes_of new.store.writes x ≡ op_writes (writes_of old.store.writes x) op
    → ((y : Xid) → same x y ≡ false → writes_of new.store.writes y ≡ writes_of old.store.writes y)
    → Locks (sight_of old).holders (sight_of new).holders x op
    → new.store.tables ≡ old.store.tables → new.store.decisions ≡ old.store.decisions
    → new.log.sight ≡ old.log.sight → new.boot ≡ old.boot
    → WorksIdle (sight_of old) (sight_of new) x op true
did_idle old new x op idle at allowed own others locks tables decisions log boot = record {
  allowed = ap is_none (in_way old x op at ∙ allowed);
  comes = record {
    own = ap (λ (m : States). state_at m x) tables ∙ at;
    others = λ y apart. ap (λ (m : States). state_at m y) tables;
    others_decided = λ y apart. ap (λ d. decision_or (decision_in d y)) decisions;
    idle = record {
      opened = ap (λ (m : States). m.init) tables ∙ idle.opened;
      quiet = subst (λ (m : States). IsQuiet m.associations) (sym tables) idle.quiet;
    };
    boot = boot;
    form = ap (λ (l : LogSight). l.form) log;
  };
  log = log;
  operates = record {
    wrote = record { own = own; others = others };
    locks = locks;
    known = λ y. ap (λ (m : States). is_begun (state_at m y)) tables;
  };
}

done_idle : (old new : KvSight) (x : Xid) (op : Op) → IsIdle (sight_of old) → state_of old.store x ≡ S2
    → core.DoesOperation old.store new.store x op → new.log.sight ≡ old.log.sight → new.boot ≡ old.boot
    → WorksIdle (sight_of old) (sight_of new) x op true
done_idle old new x (Put k v) idle at did log boot =
    did_idle old new x (Put k v) idle at did.allowed did.writes.own did.writes.others
    (record { own = did.locks.own; others = did.locks.others }) did.tables did.decisions log boot
done_idle old new x (Get k) idle at did log boot =
    did_idle old new x (Get k) idle at did.1.allowed (ap (λ w. writes_of w x) did.1.writes)
    (λ y apart. ap (λ w. writes_of w y) did.1.writes)
    (record { own = did.1.locks.own; others = did.1.locks.others }) did.1.tables did.1.decisions log boot
done_idle old new x (Delete k) idle at did log boot =
    did_idle old new x (Delete k) idle at did.allowed did.writes.own did.writes.others
    (record { own = did.locks.own; others = did.locks.others }) did.tables did.decisions log boot

some_is : (o : Option WorkError) → (o ≡ None → ⊥) → is_none o ≡ false
some_is None n = absurd (n refl)
some_is (Some e) n = refl

spoiled_idle : (old new : KvSight) (x : Xid) (op : Op) → IsIdle (sight_of old) → state_of old.store x ≡ S2
    → core.Spoils old.store new.store x op → new.log.sight ≡ old.log.sight → new.boot ≡ old.boot
    → WorksIdle (sight_of old) (sight_of new) x op false
spoiled_idle old new x op idle at spoils log boot = record {
  allowed = some_is (obstacle (sight_of old) x op) (λ e. spoils.refused (sym (in_way old x op at) ∙ e));
  comes = comes;
  log = log;
  operates = record {
    keeps = record { writes = spoils.writes; holders = λ k. ap (λ t. holders_of t k) spoils.locks };
    known = stays_known (sight_of old) (sight_of new) x S4 comes (ap is_begun at);
  };
}
  where
    comes : BranchComes (sight_of old) (sight_of new) x S4
    comes = record {
      own = spoils.tables.branch.own;
      others = spoils.tables.branch.others;
      others_decided = λ y apart. ap decision_or (spoils.decisions y);
      idle = record {
        opened = spoils.tables.init ∙ idle.opened;
        quiet = subst (λ (a : AssocList). IsQuiet a) (sym spoils.tables.associations) idle.quiet;
      };
      boot = boot;
      form = ap (λ (l : LogSight). l.form) log;
    }

works_by : (old new : KvSight) (x : Xid) (op : Op) (done : Bool) → IsIdle (sight_of old)
    → state_of old.store x ≡ S2 → core.KeyStoreWorksIdle old.store new.store x op done
    → new.log.sight ≡ old.log.sight → new.boot ≡ old.boot → WorksIdle (sight_of old) (sight_of new) x op done
works_by old new x op true = done_idle old new x op
works_by old new x op false = spoiled_idle old new x op

pub works_idle : (old new : KvSight) (x : Xid) (op : Op) (done : Bool) → IsIdle (sight_of old)
    → old.log.sight.failed ≡ false → state_of old.store x ≡ S2
    → KvCalls old new ⊥ (λ before behind. core.KeyStoreWorksIdle before behind x op done)
    → WorksIdle (sight_of old) (sight_of new) x op done
works_idle old new x op done idle up at made =
    works_by old new x op done idle at (made.works up) made.log made.boot

-- The calls that finish a branch: a turn is its row, and its record the row's.

told_row : (b : BranchName) (o : Outcome) (d : Decision) (told : Option Outcome)
    → ((tell_turn b o d told).code, (tell_turn b o d told).to) ≡ outcome_row S5 d
told_row b o d None = refl
told_row b o d (Some t) = refl

row_as : (s : BranchState) (c : Call) (ws : List Write) (b : BranchName) (d : Decision)
    → ((turn_of s c (wrote_some ws) b d).code, (turn_of s c (wrote_some ws) b d).to) ≡ row_of c s ws d
row_as s call.Prepare [] b d = refl
row_as s call.Prepare (w ∷ ws) b d = refl
row_as S0 call.Commit ws b d = refl
row_as S1 call.Commit ws b d = refl
row_as S2 call.Commit ws b d = refl
row_as S3 call.Commit ws b d = refl
row_as S4 call.Commit ws b d = refl
row_as S5 call.Commit ws b d = told_row b CommittedOutcome d d.told
row_as s call.CommitOnePhase [] b d = refl
row_as s call.CommitOnePhase (w ∷ ws) b d = refl
row_as S0 call.Rollback ws b d = refl
row_as S1 call.Rollback ws b d = refl
row_as S2 call.Rollback ws b d = refl
row_as S3 call.Rollback ws b d = refl
row_as S4 call.Rollback ws b d = refl
row_as S5 call.Rollback ws b d = told_row b AbortedOutcome d d.told
row_as s _ ws b d = refl

-- the record of a turn
abbrev recorded : Option BranchRecord → Bool → BranchName → List Write → List Written
recorded None is_forced b ws = []
recorded (Some e) is_forced b ws = record { entry = entry_of e b ws; is_forced = is_forced } ∷ []

told_written : (b : BranchName) (o : Outcome) (d : Decision) (told : Option Outcome) (ws : List Write)
    → tells b o told ≡ recorded (tell_turn b o d told).entry (tell_turn b o d told).is_forced b ws
told_written (CaseBranch c) o d None ws = refl
told_written (Foreign x) o d None ws = refl
told_written b o d (Some t) ws = refl

written_as : (s : BranchState) (c : Call) (ws : List Write) (b : BranchName) (d : Decision)
    → is_work c ≡ false
    → has_rows (branch_rows s c) ≡ true
    → written_by c s b ws d ≡ recorded (turn_of s c (wrote_some ws) b d).entry
    (turn_of s c (wrote_some ws) b d).is_forced b ws
written_as S0 call.Start ws b d w h = absurd (cc)
written_as S0 _ ws b d w h = absurd (cc)
written_as S1 call.Start ws b d w h = absurd (cc)
written_as S1 _ ws b d w h = absurd (cc)
written_as S2 call.Prepare [] b d w h = refl
written_as S2 call.Prepare (x ∷ ws) b d w h = refl
written_as S2 call.CommitOnePhase [] b d w h = refl
written_as S2 call.CommitOnePhase (x ∷ ws) b d w h = refl
written_as S2 call.Rollback ws b d w h = refl
written_as S2 _ ws b d w h = absurd (cc)
written_as S3 call.Commit ws (CaseBranch c) d w h = refl
written_as S3 call.Commit ws (Foreign x) d w h = refl
written_as S3 call.Rollback ws (CaseBranch c) d w h = refl
written_as S3 call.Rollback ws (Foreign x) d w h = refl
written_as S3 _ ws b d w h = absurd (cc)
written_as S4 call.Rollback ws b d w h = refl
written_as S4 _ ws b d w h = absurd (cc)
written_as S5 call.Commit ws b d w h = told_written b CommittedOutcome d d.told ws
written_as S5 call.Rollback ws b d w h = told_written b AbortedOutcome d d.told ws
written_as S5 call.Forget ws b d w h = refl
written_as S5 _ ws b d w h = absurd (cc)

-- the first outcome that a branch was told stays
first_stays : (o : Outcome) (told : Option Outcome) (t : Outcome) → told ≡ Some t → first_told o told ≡ told
first_stays o None t is = absurd (cc)
first_stays o (Some u) t is = refl

told_known : (b : BranchName) (o : Outcome) (known : Option Decision) (told : Option Outcome)
    → (decision_or known).told ≡ told
    → decision_or (known_behind (tell_turn b o (decision_or known) told).entry known)
    ≡ told_behind o (decision_or known)
told_known b o known None is = refl
told_known b o known (Some t) is =
    sym (ap (λ u. record { outcome = (decision_or known).outcome; told = u })
    (first_stays o (decision_or known).told t is))

-- what is known of a branch after a turn that leaves it in S5
known_as : (s : BranchState) (c : Call) (wrote : Bool) (b : BranchName)
    (known : Option Decision) → is_work c ≡ false
    → has_rows (branch_rows s c) ≡ true → (turn_of s c wrote b (decision_or known)).to ≡ S5
    → decision_or (known_behind (turn_of s c wrote b (decision_or known)).entry known)
    ≡ decided_behind c (decision_or known)
known_as S0 call.Start wrote b known w h to = absurd (cc)
known_as S0 _ wrote b known w h to = absurd (cc)
known_as S1 call.Start wrote b known w h to = absurd (cc)
known_as S1 _ wrote b known w h to = absurd (cc)
known_as S2 call.Prepare true b known w h to = absurd (cc)
known_as S2 call.Prepare false b known w h to = absurd (cc)
known_as S2 call.CommitOnePhase true b known w h to = absurd (cc)
known_as S2 call.CommitOnePhase false b known w h to = absurd (cc)
known_as S2 call.Rollback wrote b known w h to = absurd (cc)
known_as S2 _ wrote b known w h to = absurd (cc)
known_as S3 call.Commit wrote b known w h to = absurd (cc)
known_as S3 call.Rollback wrote b known w h to = absurd (cc)
known_as S3 _ wrote b known w h to = absurd (cc)
known_as S4 call.Rollback wrote b known w h to = absurd (cc)
known_as S4 _ wrote b known w h to = absurd (cc)
known_as S5 call.Commit wrote b known w h to =
    told_known b CommittedOutcome known (decision_or known).told refl
known_as S5 call.Rollback wrote b known w h to =
    told_known b AbortedOutcome known (decision_or known).told refl
known_as S5 call.Forget wrote b known w h to = absurd (cc)
known_as S5 _ wrote b known w h to = absurd (cc)

log_as : (old new : KvSight) (x : Xid) (is_forced : Bool) (o : Option BranchRecord)
    → LogsTurn old new x is_forced o
    → let ws = recorded o is_forced (name_in x).1 (writes_of old.store.writes x) in
    new.log.sight ≡ wrote old.log.sight ws (logged_under x ws)
log_as old new x is_forced None is =
    is ∙ sym (ap (λ us. record old.log.sight {
      kept = record {
        forced = old.log.sight.kept.forced;
        unforced = us;
      };
    }) (append-nil old.log.sight.kept.unforced))
log_as old new x is_forced (Some e) is = is

left_own : (old new : KeySight) (x : Xid) (to : BranchState) → LetsBranchGo old new x to
    → writes_of new.writes x ≡ left_with to (writes_of old.writes x)
left_own old new x S0 goes = goes.0.own
left_own old new x S1 goes = ap (λ w. writes_of w x) goes.0
left_own old new x S2 goes = ap (λ w. writes_of w x) goes.0
left_own old new x S3 goes = ap (λ w. writes_of w x) goes.0
left_own old new x S4 goes = ap (λ w. writes_of w x) goes.0
left_own old new x S5 goes = goes.0.own

left_others : (old new : KeySight) (x : Xid) (to : BranchState) → LetsBranchGo old new x to
    → (y : Xid) → same x y ≡ false
    → writes_of new.writes y ≡ writes_of old.writes y
left_others old new x S0 goes y apart = goes.0.others y apart
left_others old new x S1 goes y apart = ap (λ w. writes_of w y) goes.0
left_others old new x S2 goes y apart = ap (λ w. writes_of w y) goes.0
left_others old new x S3 goes y apart = ap (λ w. writes_of w y) goes.0
left_others old new x S4 goes y apart = ap (λ w. writes_of w y) goes.0
left_others old new x S5 goes y apart = goes.0.others y apart

left_held : (old new : KeySight) (x : Xid) (to : BranchState) → LetsBranchGo old new x to
    → (k : List ℕ) → holders_of new.locks k ≡ held_with to x (holders_of old.locks k)
left_held old new x S0 goes k = goes.1.each k
left_held old new x S1 goes k = ap (λ t. holders_of t k) goes.1
left_held old new x S2 goes k = ap (λ t. holders_of t k) goes.1
left_held old new x S3 goes k = ap (λ t. holders_of t k) goes.1
left_held old new x S4 goes k = ap (λ t. holders_of t k) goes.1
left_held old new x S5 goes k = goes.1.each k

module _ (old new : KvSight) (x : Xid) (c : Call) (w : is_work c ≡ false)
    (h : has_rows (branch_rows (state_of old.store x) c) ≡ true)
    (due : IsRowListed old.store x c (turn_for old.store x c)) where
  abbrev ws : List Write
  ws = writes_of old.store.writes x

  abbrev b : BranchName
  b = (name_in x).1

  abbrev turn : CallRow
  turn = turn_for old.store x c

  abbrev row : Code × BranchState
  row = row_for (sight_of old) x c

  is_row : (turn.code, turn.to) ≡ row
  is_row = row_as (state_of old.store x) c ws b (known_of old.store x)

  listed : Contains (branch_rows (state_of old.store x) c) row
  listed = subst (Contains (branch_rows (state_of old.store x) c)) is_row due

  is_written : written_for (sight_of old) x c ≡ recorded turn.entry turn.is_forced b ws
  is_written = written_as (state_of old.store x) c ws b (known_of old.store x) w h

  made_row : KvMakes old new x turn → BranchMakes (sight_of old) (sight_of new) x c row
  made_row made =
      record {
        listed = listed;
        tables = subst (λ (r : Code × BranchState). TakesTableRow old.store.tables
            new.store.tables x r.1) is_row made.tables;
        log = log_as old new x turn.is_forced turn.entry made.log
            ∙ ap (λ rs. wrote old.log.sight rs (logged_under x rs)) (sym is_written);
        own = left_own old.store new.store x turn.to made.keeps
            ∙ ap (λ (r : Code × BranchState). left_with r.1 ws) is_row;
        others = left_others old.store new.store x turn.to made.keeps;
        held = λ k. left_held old.store new.store x turn.to made.keeps k
            ∙ ap (λ (r : Code × BranchState). held_with r.1 x (holders_of old.store.locks k)) is_row;
        decided = λ to. ap decision_or made.decisions.own
            ∙ known_as (state_of old.store x) c (wrote_some ws) b (decision_in old.store.decisions x) w h
            (ap (λ (r : Code × BranchState). r.1) is_row ∙ to);
        others_decided = λ y apart. ap decision_or (made.decisions.others y apart);
        boot = made.boot;
      }

  broke_under : KvFails old new x turn → BranchFails (sight_of old) (sight_of new) x c
  broke_under failed =
      let entered : written_for (sight_of old) x c ≡ recorded (Some failed.entry) turn.is_forced b ws =
      is_written ∙ ap (λ o. recorded o turn.is_forced b ws) failed.writes_it in
      record {
        log = subst (λ rs. Breaks (state_of_log old.log.sight) (state_of_log new.log.sight)
            (logged_under x rs)) (sym entered) (record {
              form = failed.log.form;
              appended = failed.log.appended;
              stand = failed.log.stand;
              no_less = failed.log.no_less;
              more = failed.log.more;
              leaves = failed.log.leaves;
              failed = failed.log.failed;
              cause = failed.log.cause;
            });
        tables = same_tables old.store.tables new.store.tables failed.tables;
        writes = λ y. ap (λ u. writes_of u y) failed.writes;
        decided = λ y. ap (λ t. decision_or (decision_in t y)) failed.decisions;
        boot = failed.boot;
      }

spent_so : (b : Bool) → b ≡ false → not b ≡ true
spent_so b is = ap not is

pub finished : (old new : KvSight) (v : Verb) (x : Xid) (flags : ℕ) (answer : Code) → is_work_verb v ≡ false
    → KvFinishes old new v x flags answer → ManagerFinishes (sight_of old) (sight_of new) v x flags answer
finished old new v x flags answer n (Turns.Failed failed is same) = Failed failed is (same_sight old new same)
finished old new v x flags answer n (Turns.Refused works (OffRefused checked) same) =
    Refused works checked (same_sight old new same)
finished old new v x flags answer n (Turns.Refused works (OffUnlisted c ready_is none off) same) =
    Unlisted works c ready_is
    (λ listed. none (subst (Contains (branch_rows (state_of old.store x) c))
    (sym (row_as (state_of old.store x) c (writes_of old.store.writes x) _ _)) listed))
    (off ∙ off_is c (works_as v flags c (passed old.store.tables v x flags c ready_is).by_flags ∙ n))
    (same_sight old new same)
  where
    off_is : (c : Call) → is_work c ≡ false → off_row c ≡ code.Proto
    off_is call.Start h = absurd (cc)
    off_is _ h = refl
finished old new v x flags answer n (Turns.Taken works due is_due taken) =
    let checked = passed old.store.tables v x flags due.0 is_due.checked in
    let w : is_work due.0 ≡ false = works_as v flags due.0 checked.by_flags ∙ n in
    let h : has_rows (branch_rows (state_of old.store x) due.0) ≡ true = free_rows _ _ checked.passes.free in
    let listed : IsRowListed old.store x due.0 (turn_for old.store x due.0) =
    subst (IsRowListed old.store x due.0) is_due.turn is_due.listed in
    by_taken w h listed (subst (λ t. KvTakes old new x t answer) is_due.turn taken)
  where
    free_rows : (held has : Bool) → (held || not has) ≡ false → has ≡ true
    free_rows held true h = refl
    free_rows true false h = absurd cc
    free_rows false false h = absurd cc

    by_taken : is_work due.0 ≡ false → has_rows (branch_rows (state_of old.store x) due.0) ≡ true
        → IsRowListed old.store x due.0 (turn_for old.store x due.0)
        → KvTakes old new x (turn_for old.store x due.0) answer
        → ManagerFinishes (sight_of old) (sight_of new) v x flags answer
    by_taken w h listed (Turns.Made is made) =
        Made works due.0 is_due.checked (is ∙ ap (λ (r : Code × BranchState). r.0)
        (row_as (state_of old.store x) due.0 (writes_of old.store.writes x) _ _))
        (made_row old new x due.0 w h listed made)
    by_taken w h listed (Turns.Broke is failed) =
        Broke works due.0 is_due.checked is (broke_under old new x due.0 w h listed failed)
    by_taken w h listed (Turns.Spent is commits few same) =
        Limited works (spent_so (has_numbers old.store) few) is (same_sight old new same)
