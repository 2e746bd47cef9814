-- The live branches of a subordinate, and the tickets that it gave for cases of its parent and that are
-- active.
use Rattle.std.specs.Prelude.{◌≡◌, ℕ, Bool, true, false, if◌then◌else◌, Option, Some, None, is_some, List, filter, map}
use Rattle.xa_xid.specs.declared.xid.Xid.{Xid}
use Rattle.protocol.specs.declared.names.Case.{Case}
use Rattle.protocol.specs.declared.names.Ticket.{Ticket}
use Rattle.protocol.specs.declared.standings.Standing.TheVariants.{Prepared as PreparedStanding}
use Rattle.protocol_words.specs.Variants.{ActiveStanding, HeuristicStanding}
use Rattle.protocol.specs.Names.{child_case, same_case}
use Rattle.protocol.specs.Records.{has_case}
use Rattle.protocol.specs.Standings.{ManagerView, standing_branch, unknown_branch}
use Rattle.case_table.specs.Tables.{AreApart, MovesValue, entry_at, live_value}
use Rattle.sub_branches.specs.declared.branch.LiveBranch.{LiveBranch}
use Rattle.sub_branches.specs.declared.branch.BranchStage.{BranchStage}
use Rattle.sub_branches.specs.declared.branch.BranchStage.TheVariants.{Active, Heuristic, Prepared}

-- what a contract sees: the live branches by case, and by the parent's case the active ticket that was given
-- for it
pub record BranchTable : Type 0 where
  pub tickets : List (Option (Case × Ticket))
  pub branches : List (Option (Case × LiveBranch))

-- the active ticket that was given for the parent's case
abbrev pub ticket_in : BranchTable → Case → Option Ticket
ticket_in t d = live_value t.tickets d

-- what is kept of a case, where it is live
abbrev pub branch_in : BranchTable → Case → Option LiveBranch
branch_in t c = live_value t.branches c

-- how a branch stands by its stage
abbrev pub stage_view : BranchStage → ManagerView
stage_view (Active d done spoiled) =
    record { standing = ActiveStanding; done = done; spoiled = spoiled; told = None }
stage_view Prepared = standing_branch PreparedStanding None
stage_view (Heuristic told) = standing_branch HeuristicStanding told

-- how a case stands by what is kept of it; if nothing is, it is Unknown
abbrev pub kept_view : Option LiveBranch → ManagerView
kept_view None = unknown_branch
kept_view (Some b) = stage_view b.stage

-- how a case stands
abbrev pub view_in : BranchTable → Case → ManagerView
view_in t c = kept_view (branch_in t c)

-- the branch is Active, by a ticket that was given for the parent's case
abbrev pub IsGivenFor : Case → BranchStage → Type 0
IsGivenFor d (Active e done spoiled) = d ≡ e
IsGivenFor d _ = ⊥

-- whether the branch is Active, by a ticket that was given for the parent's case
abbrev pub is_for : Case → BranchStage → Bool
is_for d (Active e done spoiled) = same_case e d
is_for d _ = false

-- a ticket is active while its branch is, under the parent's case for which it was given
abbrev pub ticket_by : BranchStage → Option Ticket → Option (Case × Ticket)
ticket_by (Active d done spoiled) None = None
ticket_by (Active d done spoiled) (Some t) = Some (d, t)
ticket_by Prepared o = None
ticket_by (Heuristic told) o = None

-- the active ticket of a branch that is kept
abbrev pub given_ticket : Option (Case × LiveBranch) → Option (Case × Ticket)
given_ticket None = None
given_ticket (Some p) = ticket_by p.1.stage p.0.ticket

-- the active tickets of these branches
unfoldable pub tickets_of : List (Option (Case × LiveBranch)) → List (Option (Case × Ticket))
tickets_of slots = filter is_some (map given_ticket slots)

-- the ticket of the case of an entry
abbrev pub entry_ticket : Option (Case × LiveBranch) → Option Ticket
entry_ticket None = None
entry_ticket (Some p) = p.0.ticket

-- an Active case has the active ticket that was given for the parent's case
abbrev pub HasTicket : List (Option (Case × Ticket)) → Case → BranchStage → Type 0
HasTicket tickets c (Active d done spoiled) = (t : Ticket) × (live_value tickets d ≡ Some t)
    × (child_case d.txn t ≡ c)
HasTicket tickets c _ = Unit {0}

-- the branch promised: it awaits the outcome, or an operator decided it since
abbrev pub has_promised : BranchStage → Bool
has_promised (Active d done spoiled) = false
has_promised _ = true

-- what the table keeps: each case has one key at most, the case of each active ticket is live and Active, and
-- each Active case has an active ticket
pub record IsBranchTable (t : BranchTable) : Type 0 where
  pub apart : AreApart t.branches
  pub given : (d : Case) (k : Ticket) → ticket_in t d ≡ Some k
      → (b : LiveBranch) × (branch_in t (child_case d.txn k) ≡ Some b) × IsGivenFor d b.stage
  pub active : (c : Case) (b : LiveBranch) → branch_in t c ≡ Some b → HasTicket t.tickets c b.stage

-- What changes.

-- the ticket of a case of the parent, where the time of the ticket of this case ends
abbrev pub retired_at : Case → Case → Option Ticket → Option Ticket
retired_at c d None = None
retired_at c d (Some t) = if same_case (child_case d.txn t) c then None else Some t

-- nothing is otherwise, but where what is kept stands
pub record SameTable (old new : BranchTable) : Type 0 where
  pub branches : (c : Case) → branch_in new c ≡ branch_in old c
  pub tickets : (d : Case) → ticket_in new d ≡ ticket_in old d

-- what is kept of a branch that just began, by a ticket for the parent's case
abbrev pub opened : Xid → Case → LiveBranch
opened x d = record { xid = x; stage = Active d 0 false }

-- the case of a fresh ticket is live and Active, and the ticket is active for the parent's case
pub record OpensBranch (old new : BranchTable) (d : Case) (t : Ticket) (x : Xid) : Type 0 where
  pub branches : MovesValue old.branches new.branches (child_case d.txn t) (Some (opened x d))
  pub tickets : MovesValue old.tickets new.tickets d (Some t)

-- a case that is not live is live now, with what is kept of it; no ticket moves
pub record Restores (old new : BranchTable) (c : Case) (b : LiveBranch) : Type 0 where
  pub branches : MovesValue old.branches new.branches c (Some b)
  pub tickets : new.tickets ≡ old.tickets

-- the case of a key has this in place of what it had, and no ticket moves
pub record NotesStage (old new : BranchTable) (key : ℕ) (stage : BranchStage) : Type 0 where
  pub owner : Case
  pub branch : LiveBranch
  pub was : entry_at old.branches key ≡ Some (owner, branch)
  pub branches : MovesValue old.branches new.branches owner
      (Some (record { xid = branch.xid; stage = stage }))
  pub tickets : new.tickets ≡ old.tickets

-- the case of a key stands otherwise from now on, or is live no longer, and its ticket's time ends
pub record Retires (old new : BranchTable) (key : ℕ) (behind : LiveBranch → Option LiveBranch) : Type 0 where
  pub owner : Case
  pub branch : LiveBranch
  pub was : entry_at old.branches key ≡ Some (owner, branch)
  pub branches : MovesValue old.branches new.branches owner (behind branch)
  pub tickets : (d : Case) → ticket_in new d ≡ retired_at owner d (ticket_in old d)

-- what is kept of a branch that promised
abbrev pub promised : LiveBranch → Option LiveBranch
promised b = Some (record { xid = b.xid; stage = Prepared })

-- nothing is kept of a branch
abbrev pub nothing : LiveBranch → Option LiveBranch
nothing b = None

-- each live branch promised
abbrev pub HavePromised : BranchTable → Type 0
HavePromised t = (c : Case) (b : LiveBranch) → branch_in t c ≡ Some b → has_promised b.stage ≡ true

-- each live case is one of these
abbrev pub AreLiveOf : BranchTable → List Case → Type 0
AreLiveOf t cs = (c : Case) (b : LiveBranch) → branch_in t c ≡ Some b → has_case cs c ≡ true
