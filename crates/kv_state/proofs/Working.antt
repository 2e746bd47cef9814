-- What is known of a branch that may do its work.
use Rattle.std.proofs.Common.{◌≡◌, ℕ, Bool, false, cond, Option, Some, None, Result, Ok, Err, List, refl, sym, ap, subst, ◌∙◌}
use Rattle.std.specs.Prelude.{IfOk, IfErr}
use Rattle.xa_tables.specs.declared.states.BranchState.{BranchState}
use Rattle.xa_tables.specs.declared.states.BranchState.TheVariants.{S0, S1, S2, S3, S4, S5}
use Rattle.xa_xid.specs.declared.xid.Xid.{Xid}
use Rattle.xa_branch.specs.Branches.{placed, state_in}
use Rattle.xa_assoc.specs.declared.states.States.{States}
use Rattle.xa_assoc.specs.Answers.{SameStates, TakesTableRow}
use Rattle.xa_assoc.specs.Associations.{active_of}
use Rattle.xa_assoc.specs.declared.errors.WorkError.{WorkError}
use Rattle.xa_assoc.specs.declared.errors.WorkError.TheVariants.{Locked, Memory, NotAssociated, RmFail, RollbackOnly, TooLong, TooManyWrites}
use Rattle.key_lists.specs.declared.holders.Mode.{Mode}
use Rattle.key_lists.specs.Holders.{blocked_by}
use Rattle.kv_locks.specs.Locks.{holders_of}
use Rattle.xa_branch.specs.Cases.{decision_in}
use Rattle.protocol.specs.declared.messages.Op.{Op}
use Rattle.kv_store.specs.writes.Writes.{writes_of}
use Rattle.kv_state.specs.Stores.{KeySight, MovesTables, SameKeyStore, state_of}
use Rattle.kv_state.specs.Works.{IsRefusedWork, IsRefusedIfFree, ReadsKey, ReadsFor, Spoils, WritesKey, WritesFor, at_work, branch_refusal, is_too_long, limit_refusal, op_refusal, refusal_by, unless_locked, work_refusal, worker_of, working}
use Rattle.xa_tables.specs.Tables.{is_spoiled}

-- the state of a branch that a thread works for does not pass a test that no state at work passes
pub works_apart : (q : BranchState → Bool) (s : KeySight) (t : ℕ) (x : Xid) → q S1 ≡ false
    → q S4 ≡ false → at_work s t ≡ Some x
    → q (state_of s x) ≡ false
works_apart q s t x one four works = by_active (active_of s.tables.associations t) works
  where
    by_state : (y : Xid) (b : BranchState) → state_of s y ≡ b
        → working b y ≡ Some x → q (state_of s x) ≡ false
    by_state y S1 e h = let same : y ≡ x = cc in ap (λ z. q (state_of s z)) (sym same) ∙ ap q e ∙ one
    by_state y S4 e h = let same : y ≡ x = cc in ap (λ z. q (state_of s z)) (sym same) ∙ ap q e ∙ four
    by_state y S0 e h = absurd (cc)
    by_state y S2 e h = absurd (cc)
    by_state y S3 e h = absurd (cc)
    by_state y S5 e h = absurd (cc)

    by_active : (o : Option Xid) → worker_of s o ≡ Some x → q (state_of s x) ≡ false
    by_active None h = absurd (cc)
    by_active (Some y) h = by_state y (state_of s y) refl h

-- a refusal that comes where no other branch's lock is in the way, or Locked if one is
pub refused_at : (old new : KeySight) (x : Xid) (k : List ℕ) (v : Option (List ℕ)) (m : Mode)
    (e f : WorkError) → is_spoiled (state_of old x) ≡ false
    → is_too_long k v ≡ false → IsRefusedIfFree old new x k m e
    → Some f ≡ unless_locked (blocked_by (holders_of new.locks k) x m) (Some e)
    → IsRefusedWork old new (branch_refusal old k v m x) f
refused_at old new x k v m e f sound short why is =
    by_blocker (blocked_by (holders_of old.locks k) x m) refl
    (is ∙ ap (λ l. unless_locked (blocked_by (holders_of l k) x m) (Some e)) why.1.locks) checked
  where
    checked : branch_refusal old k v m x
        ≡ unless_locked (blocked_by (holders_of old.locks k) x m) (limit_refusal old x k m)
    checked = ap (λ b. cond b (Some RollbackOnly) (cond (is_too_long k v) (Some TooLong)
        (unless_locked (blocked_by (holders_of old.locks k) x m) (limit_refusal old x k m)))) sound
        ∙ ap (λ b. cond b (Some TooLong)
        (unless_locked (blocked_by (holders_of old.locks k) x m) (limit_refusal old x k m))) short

    by_blocker : (o : Option Xid) → blocked_by (holders_of old.locks k) x m ≡ o
        → Some f ≡ unless_locked o (Some e)
        → branch_refusal old k v m x ≡ unless_locked o (limit_refusal old x k m)
        → IsRefusedWork old new (branch_refusal old k v m x) f
    by_blocker None free one is_limit =
        let same : f ≡ e = cc in
        subst (λ g. IsRefusedWork old new (branch_refusal old k v m x) g) (sym same)
        (subst (λ r. IsRefusedWork old new r e) (sym is_limit) (why.0 free))
    by_blocker (Some y) held one is_held =
        let same : f ≡ Locked y = cc in
        subst (λ g. IsRefusedWork old new (branch_refusal old k v m x) g) (sym same) (is_held, why.1)

-- what refuses a branch refuses the thread that works for it
pub refused_by : (old new : KeySight) (t : ℕ) (x : Xid) (k : List ℕ) (v : Option (List ℕ)) (m : Mode)
    (e : WorkError) → at_work old t ≡ Some x → IsRefusedWork old new (branch_refusal old k v m x) e
    → IsRefusedWork old new (work_refusal old t k v m) e
refused_by old new t x k v m e works why =
    subst (λ r. IsRefusedWork old new r e) (sym (ap (refusal_by old k v m) works)) why

-- a thread did what its branch did
pub reads_by : (old new : KeySight) (t : ℕ) (x : Xid) (k : List ℕ) (found : Option (List ℕ))
    → at_work old t ≡ Some x → ReadsFor old new x k found → ReadsKey old new t k found
reads_by old new t x k found works reads = record {
  branch = x;
  works = works;
  allowed = reads.allowed;
  value = reads.value;
  locks = reads.locks;
  tables = reads.tables;
  writes = reads.writes;
  versions = reads.versions;
  decisions = reads.decisions;
}

pub writes_by : (old new : KeySight) (t : ℕ) (x : Xid) (k : List ℕ) (v : Option (List ℕ))
    → at_work old t ≡ Some x → WritesFor old new x k v → WritesKey old new t k v
writes_by old new t x k v works wrote = record {
  branch = x;
  works = works;
  allowed = wrote.allowed;
  locks = wrote.locks;
  writes = wrote.writes;
  tables = wrote.tables;
  versions = wrote.versions;
  decisions = wrote.decisions;
}

-- a result, one way

pub each_ok : {A E : Type 0} (P Q : A → Type 0) (r : Result A E) → IfOk r P → ((a : A) → P a → Q a) → IfOk r Q
each_ok P Q (Ok a) ok each = each a ok
each_ok P Q (Err e) ok each = tt

pub each_err : {A E : Type 0} (P Q : E → Type 0) (r : Result A E) → IfErr r P → ((e : E) → P e → Q e)
    → IfErr r Q
each_err P Q (Ok a) err each = tt
each_err P Q (Err e) err each = each e err

-- An idle branch.

-- a refusal but for want of memory has its reason, and nothing changed
pub why_refused : (old new : KeySight) (refusal : Option WorkError) (e : WorkError) → (e ≡ Memory → ⊥)
    → IsRefusedWork old new refusal e → (refusal ≡ Some e) × SameKeyStore old new
why_refused old new refusal Memory other h = absurd (other refl)
why_refused old new refusal NotAssociated other h = h
why_refused old new refusal (Locked y) other h = h
why_refused old new refusal TooLong other h = h
why_refused old new refusal TooManyWrites other h = h
why_refused old new refusal RmFail other h = h
why_refused old new refusal RollbackOnly other h = h

-- a move after one that changed nothing but room
pub same_takes : (old mid new : States) (x : Xid) (to : BranchState) → SameStates old mid
    → TakesTableRow mid new x to
    → TakesTableRow old new x to
same_takes old mid new x to stays takes = record {
  branch = record {
    order = takes.branch.order ∙ ap (λ bs. placed bs x to) stays.branches.branches;
    own = takes.branch.own;
    others = λ y apart. takes.branch.others y apart ∙ ap (λ bs. state_in bs y) stays.branches.branches;
    scans = takes.branch.scans ∙ stays.branches.scans;
  };
  associations = takes.associations ∙ stays.associations;
  init = takes.init ∙ stays.init;
}

-- an idle branch was refused an operation, and can only be rolled back
pub spoils : (old mid new : KeySight) (x : Xid) (op : Op) (e : WorkError) → (e ≡ Memory → ⊥)
    → IsRefusedWork old mid (op_refusal old x op) e → MovesTables mid new (λ t u. TakesTableRow t u x S4)
    → Spoils old new x op
spoils old mid new x op e other refused moves =
    let why = why_refused old mid (op_refusal old x op) e other refused in
    record {
      refused = λ none. let never : None ≡ Some e = sym none ∙ why.0 in absurd cc;
      tables = same_takes old.tables mid.tables new.tables x S4 why.1.tables moves.tables;
      writes = λ y. ap (λ w. writes_of w y) moves.writes ∙ why.1.writes y;
      locks = moves.locks ∙ why.1.locks;
      versions = moves.versions ∙ why.1.versions;
      decisions = λ y. ap (λ d. decision_in d y) moves.decisions ∙ why.1.decisions y;
    }
