-- The associations of threads with branches (C193, chapter 6).
use Rattle.std.specs.Prelude.{◌≡◌, ◌≢◌, ◌+◌, ◌<◌, ℕ, Bool, true, false, ◌||◌, List, [], ◌∷◌, Option, Some, None, Result, Ok, Err, MatchResult, IfOk, Contains, is_some, ◌&&◌, not, length, nat_lt, ◌==◌, ◌-◌, ◌^◌, unwrap_or, nat_eq, if◌then◌else◌}
use Rattle.std.specs.List.{AllByRecursion, list_any}
use Rattle.std.specs.Option.{option_map_or}
use Rattle.std.specs.Map.{lookup}
use Rattle.xa_codes.specs.declared.code.Code.{Code}
use Rattle.xa_words.specs.code
use Rattle.xa_tables.specs.Tables.{assoc_rows}
use Rattle.xa_tables.specs.declared.call.Call.{Call}
use Rattle.xa_tables.specs.declared.states.AssocState.{AssocState}
use Rattle.xa_tables.specs.declared.states.AssocState.TheVariants.{T0, T1, T2, M}
use Rattle.xa_xid.specs.declared.xid.Xid.{Xid}
use Rattle.xa_assoc.specs.declared.held.Suspended.{Suspended}
use Rattle.xa_assoc.specs.Names.{same, same_seat}

-- the threads that hold associations, each with the branch that it is active in; which branches they have
-- suspended; how often a branch is suspended for migration; and whether the manager migrates
pub record AssocList : Type 0 where
  pub holders : List (ℕ × Option Xid)
  pub seats : List Suspended
  pub moved : List (Xid × ℕ)
  pub migrates : Bool

-- the branch that a thread is active in
abbrev pub active_of : AssocList → ℕ → Option Xid
active_of a t = unwrap_or (lookup (nat_eq t) a.holders) None

-- a thread is active in a branch
abbrev pub is_active : AssocList → ℕ → Xid → Bool
is_active a t x = option_map_or (λ y. same y x) (active_of a t) false

-- a thread has suspended a branch
abbrev pub has_seat : AssocList → ℕ → Xid → Bool
has_seat a t x = list_any (same_seat (record { thread = t; xid = x })) a.seats

-- a thread has suspended some branch
abbrev pub has_some : List Suspended → ℕ → Bool
has_some seats t = list_any (λ s. nat_eq s.thread t) seats

-- the state of a thread's own association with a branch
abbrev pub own_state : AssocList → ℕ → Xid → AssocState
own_state a t x = if is_active a t x then T1 else if has_seat a t x then T2 else T0

-- how often a branch is suspended for migration
abbrev pub moved_of : AssocList → Xid → ℕ
moved_of a x = unwrap_or (lookup (same x) a.moved) 0

-- a thread is listed as one that holds associations
abbrev pub is_holder : AssocList → ℕ → Bool
is_holder a t = is_some (lookup (nat_eq t) a.holders)

-- a thread holds an association
abbrev pub holds_any : AssocList → ℕ → Bool
holds_any a t = is_some (active_of a t) || has_some a.seats t

-- each thread that holds associations is listed once, as the keys of a map are
abbrev pub AreThreadsListedOnce : List (ℕ × Option Xid) → Type 0
AreThreadsListedOnce [] = Unit {0}
AreThreadsListedOnce (e ∷ es) = AllByRecursion (λ f. nat_eq f.0 e.0 ≡ false) es × AreThreadsListedOnce es

-- nothing is listed that is counted no times
abbrev pub ArePositiveCounts : {K : Type 0} → List (K × ℕ) → Type 0
ArePositiveCounts es = AllByRecursion (λ e. 0 < e.1) es

-- each thread is listed once among those that hold associations, and a branch as suspended for migration only
-- if it is
pub record IsAssocList (a : AssocList) : Type 0 where
  pub once : AreThreadsListedOnce a.holders
  pub counted : ArePositiveCounts a.moved

-- no thread has suspended the branch that it is active in, and one that has suspended a branch is listed; a
-- branch is listed as suspended for migration only if it is
pub record IsSound (a : AssocList) : Type 0 where
  pub apart : (t : ℕ) (x : Xid) → is_active a t x ≡ true → has_seat a t x ≡ false
  pub kept : (t : ℕ) (x : Xid) → has_seat a t x ≡ true → is_holder a t ≡ true
  pub counted : ArePositiveCounts a.moved

-- a thread is active in a branch, whichever it is
abbrev pub has_active : AssocList → Xid → Bool
has_active a x = list_any (λ e. option_map_or (λ y. same y x) e.1 false) a.holders

-- a thread has suspended a branch, whichever it is
abbrev pub has_suspended : AssocList → Xid → Bool
has_suspended a x = list_any (λ s. same s.xid x) a.seats

-- there are no associations
pub record IsBare (a : AssocList) : Type 0 where
  pub holders : length a.holders ≡ 0
  pub moved : length a.moved ≡ 0

-- an association is suspended for migration
abbrev pub counts : AssocState → ℕ
counts M = 1
counts _ = 0

-- what a thread has of it: nothing, where it is suspended for migration
abbrev pub own_part : AssocState → AssocState
own_part M = T0
own_part s = s

-- what a thread is active in once one of its associations has moved
abbrev pub active_after : Option Xid → Xid → AssocState → AssocState → Option Xid
active_after was x from T1 = Some x
active_after was x T1 to = None
active_after was x from to = was

-- one association turns from a state to another, and no other association does
pub record Turns (old new : AssocList) (t : ℕ) (x : Xid) (from to : AssocState) : Type 0 where
  pub own : own_state new t x ≡ own_part to
  pub others : (u : ℕ) (y : Xid)
      → same_seat (record { thread = u; xid = y }) (record { thread = t; xid = x }) ≡ false
      → own_state new u y ≡ own_state old u y
  pub moved : moved_of new x + counts from ≡ moved_of old x + counts to
  pub moved_others : (y : Xid) → same x y ≡ false → moved_of new y ≡ moved_of old y
  pub active : active_of new t ≡ active_after (active_of old t) x from to
  pub active_others : (u : ℕ) → u ≢ t → active_of new u ≡ active_of old u
  pub holders : (u : ℕ) → u ≢ t → is_holder new u ≡ is_holder old u
  pub migrates : new.migrates ≡ old.migrates

-- whether a thread is listed once one of its associations has turned: where it holds one. What belongs to
-- nobody and goes changes no thread
abbrev pub listed_after : AssocList → AssocList → ℕ → AssocState → AssocState → Bool
listed_after old new t M T0 = is_holder old t
listed_after old new t from to = holds_any new t

-- one association turns, and its thread is listed from now on exactly where it holds one
pub record AssocMoves (old new : AssocList) (t : ℕ) (x : Xid) (from to : AssocState) : Type 0 where
  pub turns : Turns old new t x from to
  pub holder : is_holder new t ≡ listed_after old new t from to

-- a thread is listed where it holds an association, and nothing else changes
pub record Settles (old new : AssocList) (t : ℕ) : Type 0 where
  pub active : (u : ℕ) → active_of new u ≡ active_of old u
  pub holder : is_holder new t ≡ holds_any old t
  pub holders : (u : ℕ) → u ≢ t → is_holder new u ≡ is_holder old u
  pub seats : new.seats ≡ old.seats
  pub moved : new.moved ≡ old.moved
  pub migrates : new.migrates ≡ old.migrates

-- how often a branch is suspended for migration becomes this, and nothing else changes
pub record Recounts (old new : AssocList) (x : Xid) (n : ℕ) : Type 0 where
  pub own : moved_of new x ≡ n
  pub others : (y : Xid) → same x y ≡ false → moved_of new y ≡ moved_of old y
  pub holders : new.holders ≡ old.holders
  pub seats : new.seats ≡ old.seats
  pub migrates : new.migrates ≡ old.migrates

-- a row of the table of associations: where it comes from, what it answers and where it leads
abbrev pub AssocRow : Type 0
AssocRow = AssocState × Code × AssocState

-- a row of the table of associations: the state, the answer, and the state after it
abbrev pub row : AssocState → Code → AssocState → Result AssocRow Code
row from answer to = Ok (from, answer, to)

-- a thread may hold one association more: it holds some already, or fewer than 256 threads do
abbrev pub has_room : AssocList → ℕ → Bool
has_room a t = is_holder a t || nat_lt (length a.holders) 256

-- a start, with TMJOIN or not: which row applies, or the first refusal
abbrev pub start_plan : AssocList → ℕ → Xid → Result AssocRow Code
start_plan a t x =
    if is_some (active_of a t) || has_seat a t x then Err code.Proto
    else if has_room a t then row T0 code.Ok T1
    else Err code.RmErr

-- what a resume finds of a branch that it has not suspended itself: the oldest migrated one, which belongs to
-- nobody
abbrev pub moved_plan : AssocList → ℕ → Xid → Bool → Result AssocRow Code
moved_plan a t x lost =
    if moved_of a x == 0 then Err code.Proto
    else if lost then row M code.RbRollback T0
    else if has_room a t then row M code.Ok T1
    else Err code.RmErr

-- a start TMRESUME of a branch that is lost (in S4) or not
abbrev pub resume_plan : AssocList → ℕ → Xid → Bool → Result AssocRow Code
resume_plan a t x lost =
    if is_some (active_of a t) then Err code.Proto
    else if has_seat a t x then (if lost then row T2 code.RbRollback T0 else row T2 code.Ok T1)
    else moved_plan a t x lost

-- an end TMSUSPEND, with TMMIGRATE or not
abbrev pub suspend_plan : AssocList → ℕ → Xid → Bool → Bool → Result AssocRow Code
suspend_plan a t x lost migrate =
    if not (is_active a t x) then Err code.Proto
    else if lost then row T1 code.RbRollback T0
    else if not migrate then row T1 code.Ok T2
    else if not a.migrates then row T1 code.NoMigrate T2
    else if nat_lt (moved_of a x) (2 ^ 64 - 1) then row T1 code.Ok M
    else Err code.RmErr

-- an end TMSUCCESS or TMFAIL
abbrev pub end_plan : AssocList → ℕ → Xid → Bool → Bool → Result AssocRow Code
end_plan a t x lost succeeds =
    let answer = if succeeds && not lost then code.Ok else code.RbRollback in
    if is_active a t x then row T1 answer T0
    else if has_seat a t x then row T2 answer T0
    else Err code.Proto

-- a call made the row that applies and answered by it, or was refused and changed nothing
abbrev pub AssocSteps : AssocList → AssocList → ℕ → Xid → Result AssocRow Code → Code → Type 0
AssocSteps old new t x plan answer = MatchResult plan
    (λ r. (answer ≡ r.1) × AssocMoves old new t x r.0 r.2)
    (λ refusal. (answer ≡ refusal) × (new ≡ old))

-- what a plan makes is in the table
abbrev pub IsRowOf : Call → Result AssocRow Code → Type 0
IsRowOf call plan = IfOk plan (λ r. Contains (assoc_rows r.0 call) (r.1, r.2))
