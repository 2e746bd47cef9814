-- The checks of a call in their order, and the answer of the first that applies (after C193, chapters 3 and
-- 5).
use Rattle.std.specs.Prelude.{◌≡◌, ℕ, ◌-◌, ◌^◌, Bool, true, false, not, ◌||◌, ◌&&◌, ◌==◌, List, [], ◌∷◌, length, Option, Some, None, IsSomeAnd, is_some, Result, Ok, Err, nat_le, nat_lt, if◌then◌else◌}
use Rattle.std.specs.Option.{option_map_or}
use Rattle.xa_codes.specs.declared.code.Code.{Code}
use Rattle.xa_words.specs.code
use Rattle.xa_tables.specs.Calls.{legal}
use Rattle.xa_tables.specs.Tables.{assoc_rows, branch_rows, is_spoiled}
use Rattle.xa_tables.specs.declared.call.Call.{Call}
use Rattle.xa_words.specs.call
use Rattle.xa_words.specs.verb
use Rattle.xa_tables.specs.declared.states.AssocState.TheVariants.{M}
use Rattle.xa_xid.specs.declared.xid.Xid.{Xid}
use Rattle.xa_xid.specs.Xids.{null_xid}
use Rattle.xa_assoc.specs.Associations.{AssocList, active_of, has_room, has_seat, moved_of, own_state}
use Rattle.xa_branch.specs.Branches.{is_known, starts_scan}
use Rattle.xa_branch.specs.Names.{same}
use Rattle.xa_branch.specs.Scans.{has_scan}
use Rattle.xa_assoc.specs.declared.states.States.{States}
use Rattle.xa_assoc.specs.Answers.{SameStates, is_held, state_at}
use Rattle.xa_assoc.specs.Ready.{has_rows, is_closed, is_start, is_work}
use Rattle.proof_xa.specs.Moves.{XaMove, Open, Close, Branch, Recover}
use Rattle.xa_codes.specs.Codes.{is_own}

-- the answer of the first of some checks that applies
abbrev pub first_of : List (Bool × Code) → Option Code
first_of [] = None
first_of (check ∷ checks) = if check.0 then Some check.1 else first_of checks

-- a new branch must not be known, and every other must be
abbrev pub naming_check : Call → Bool → Bool × Code
naming_check call.Start known = (known, code.DupId)
naming_check _ known = (not known, code.NotA)

-- the table of associations has a row for a call, from the thread's own association or from one that is
-- suspended for migration
abbrev pub has_own_row : AssocList → Call → ℕ → Xid → Bool
has_own_row a c t x =
    has_rows (assoc_rows (own_state a t x) c) || (has_rows (assoc_rows M c) && not (moved_of a x == 0))

-- a thread may not work on a branch: the association has no row, or it is active in a branch already and
-- starts
abbrev pub is_unfit : AssocList → Call → ℕ → Xid → Bool
is_unfit a c t x = (is_start c && is_some (active_of a t)) || not (has_own_row a c t x)

-- no row applies: the branch has none, the thread may not work on it, or it is held and to be prepared or
-- ended
abbrev pub is_out_of_state : States → Call → ℕ → Xid → Bool
is_out_of_state m c t x =
    not (has_rows (branch_rows (state_at m x) c))
    || (if is_work c then is_unfit m.associations c t x else is_held m.associations x)

-- a limit is met: 1,024 branches, 256 threads with associations, or 2^64 - 1 migrations of one branch
abbrev pub is_at_limit : States → Call → ℕ → Xid → Bool
is_at_limit m call.Start t x = nat_le 1024 (length m.branches.branches) || not (has_room m.associations t)
is_at_limit m call.StartJoin t x = not (has_room m.associations t)
is_at_limit m call.StartResume t x =
    not (is_spoiled (state_at m x)) && not (has_seat m.associations t x) && not (has_room m.associations t)
is_at_limit m call.EndMigrate t x =
    not (is_spoiled (state_at m x)) && m.associations.migrates
    && not (nat_lt (moved_of m.associations x) (2 ^ 64 - 1))
is_at_limit m _ t x = false

-- what is asked of a call on a branch once its flags are legal and its name is one
abbrev pub state_checks : States → Call → ℕ → Xid → List (Bool × Code)
state_checks m c t x =
    naming_check c (is_known m.branches.branches x) ∷ (is_out_of_state m c t x, code.Proto)
    ∷ (is_at_limit m c t x, code.RmErr) ∷ []

-- what is asked of a call on a branch once its flags are legal
abbrev pub branch_checks : States → Call → ℕ → Xid → List (Bool × Code)
branch_checks m c t x = (is_closed m.init, code.Proto) ∷ (same x null_xid, code.Inval) ∷ state_checks m c t x

-- what is asked of a recover once its flags are legal
abbrev pub scan_checks : States → Call → ℕ → List (Bool × Code)
scan_checks m c t =
    (is_closed m.init, code.Proto) ∷ (not (has_scan m.branches.scans t) && not (starts_scan c), code.Inval)
    ∷ (not (has_scan m.branches.scans t) && nat_le 256 (length m.branches.scans), code.RmErr) ∷ []

-- there is an association
abbrev pub has_associations : AssocList → Bool
has_associations a = not (length a.holders == 0) || not (length a.moved == 0)

-- flags that are illegal, or TMASYNC beside legal ones, come first
abbrev pub behind_flags : (Call → List (Bool × Code)) → Result Call Code → Option Code
behind_flags checks (Ok c) = first_of (checks c)
behind_flags checks (Err refusal) = Some refusal

-- the first check that refuses a call
abbrev pub first_refusal : States → XaMove → Option Code
first_refusal m (Open flags migrates answer) = behind_flags (λ c. []) (legal verb.Open flags)
first_refusal m (Close flags answer) =
    behind_flags (λ c. (has_associations m.associations, code.Proto) ∷ []) (legal verb.Close flags)
first_refusal m (Branch v t x flags answer) = behind_flags (λ c. branch_checks m c t x) (legal v flags)
first_refusal m (Recover t count flags answer) =
    behind_flags (λ c. scan_checks m c t) (legal verb.Recover flags)
first_refusal m _ = None

-- an answer that no row has
abbrev pub is_refusal : Code → Bool
is_refusal code.Async = true
is_refusal code.RmErr = true
is_refusal code.NotA = true
is_refusal code.Inval = true
is_refusal code.Proto = true
is_refusal code.RmFail = true
is_refusal code.DupId = true
is_refusal code.Outside = true
is_refusal _ = false

-- the code of a recover's answer, if it is one
abbrev pub refusal_in : Result (List Xid) Code → Option Code
refusal_in (Ok given) = None
refusal_in (Err c) = Some c

-- the code that a call is answered by; a scan may give branches in its place, and the other moves are
-- answered by none
abbrev pub code_of : XaMove → Option Code
code_of (Open flags migrates answer) = Some answer
code_of (Close flags answer) = Some answer
code_of (Branch v t x flags answer) = Some answer
code_of (Recover t count flags answer) = refusal_in answer
code_of _ = None

-- a call is refused
abbrev pub is_refused : XaMove → Bool
is_refused m = option_map_or is_refusal (code_of m) false

-- a call is refused by an answer of the manager's own, or by the first check that applies, and then changes
-- nothing; and where none applies it is not refused
pub data AnswersFirst (old : States) (m : XaMove) (new : States) : Type 0 where
  Declined : IsSomeAnd (code_of m) (λ c. is_own c ≡ true) → SameStates old new → AnswersFirst old m new
  Refused : (c : Code) → first_refusal old m ≡ Some c → code_of m ≡ Some c → SameStates old new
      → AnswersFirst old m new
  Made : first_refusal old m ≡ None → is_refused m ≡ false → AnswersFirst old m new
