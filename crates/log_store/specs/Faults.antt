-- A store whose device fails once.
use Rattle.std.specs.Prelude.{◌≡◌, ◌+◌, ◌-◌, ◌==◌, ◌&&◌, not, ℕ, Bool, true, false, List, ◌++◌, if◌then◌else◌, length, min, take}
use Rattle.log_store.specs.declared.fault.StoreCall.{StoreCall}
use Rattle.log_store.specs.declared.fault.StoreCall.TheVariants.{Append, Force, Replace}
use Rattle.log_store.specs.declared.fault.FaultStore.{FaultStore}

-- the bytes that are in it
abbrev pub fault_bytes : FaultStore → List ℕ
fault_bytes s = s.store.bytes.items

-- the length of their forced front
abbrev pub fault_forced : FaultStore → ℕ
fault_forced s = s.store.forced

-- how often its device has failed
abbrev pub fault_failures : FaultStore → ℕ
fault_failures s = if s.failed then 1 else 0

-- its device has not failed
abbrev pub no_failures : FaultStore → Bool
no_failures s = not s.failed

-- At which call the device fails: the kind, how many calls of it there are up to the one that fails, and how
-- many bytes of that one are done.
pub record FaultPlan : Type 0 where
  pub call : StoreCall
  pub left : ℕ
  pub keep : ℕ

-- this call, this many calls on, and these bytes of it
abbrev pub plans : StoreCall → ℕ → ℕ → FaultPlan
plans call nth keep = record { call = call; left = nth; keep = keep }

-- what is left of the plan
abbrev pub fault_plan : FaultStore → FaultPlan
fault_plan s = plans s.call s.left s.keep

-- two calls are of one kind
abbrev pub same_call : StoreCall → StoreCall → Bool
same_call Append Append = true
same_call Force Force = true
same_call Replace Replace = true
same_call _ _ = false

-- the next call of this kind fails
abbrev pub is_next : FaultStore → StoreCall → Bool
is_next s call = (s.left == 1) && same_call s.call call

-- a call of this kind did not fail: it is counted, and nothing else moves
pub record Passes (call : StoreCall) (old new : FaultStore) : Type 0 where
  pub store : new.store ≡ old.store
  pub plan : fault_plan new ≡ plans old.call
      (if same_call old.call call then old.left - 1 else old.left) old.keep
  pub failed : new.failed ≡ old.failed

-- the device failed, and none is to fail any more
pub record Fails (old new : FaultStore) : Type 0 where
  pub store : new.store ≡ old.store
  pub plan : fault_plan new ≡ plans old.call 0 old.keep
  pub failed : new.failed ≡ true

-- a call of this kind was made and did not fail: none was to fail at it, and it is counted
pub record IsPassed (call : StoreCall) (old new : FaultStore) : Type 0 where
  pub due : is_next old call ≡ false
  pub plan : fault_plan new ≡ plans old.call
      (if same_call old.call call then old.left - 1 else old.left) old.keep
  pub failed : new.failed ≡ old.failed

-- memory was refused: the call is not counted
pub record IsUncounted (old new : FaultStore) : Type 0 where
  pub plan : fault_plan new ≡ fault_plan old
  pub failed : new.failed ≡ old.failed

-- The device failed at a call of this kind, as was planned: these bytes stand, N of them forced, and none is
-- to fail any more.
pub record IsBroken (call : StoreCall) (old new : FaultStore) (bytes : List ℕ) (forced : ℕ) : Type 0 where
  pub due : is_next old call ≡ true
  pub text : fault_bytes new ≡ bytes
  pub front : fault_forced new ≡ forced
  pub plan : fault_plan new ≡ plans old.call 0 old.keep
  pub failed : new.failed ≡ true

-- what an append that fails leaves: the first bytes of what it was given, none of them forced
abbrev pub AppendIsBroken : FaultStore → FaultStore → List ℕ → Type 0
AppendIsBroken old new more =
    IsBroken Append old new (fault_bytes old ++ take old.keep more) (fault_forced old)

-- what a force that fails leaves: the forced front moved on by N bytes, at most to the end
abbrev pub ForceIsBroken : FaultStore → FaultStore → Type 0
ForceIsBroken old new =
    IsBroken Force old new (fault_bytes old) (min (fault_forced old + old.keep) (length (fault_bytes old)))

-- what a replace that fails leaves: the old bytes with their front, or else the new ones, all of them forced
abbrev pub ReplaceIsBroken : FaultStore → FaultStore → List ℕ → Type 0
ReplaceIsBroken old new text = IsBroken Replace old new
    (if old.keep == 0 then fault_bytes old else text)
    (if old.keep == 0 then fault_forced old else length text)
