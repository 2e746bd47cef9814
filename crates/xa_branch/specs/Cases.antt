-- The branches that operators decided.
use Rattle.std.specs.Prelude.{◌≡◌, ℕ, Bool, false, Option, List, map, unwrap_or}
use Rattle.std.specs.Map.{lookup}
use Rattle.xa_xid.specs.declared.xid.Xid.{Xid}
use Rattle.xa_xid.specs.contracts.xid.XidPartialEq.TheImpl as names
use Rattle.protocol.specs.declared.names.Outcome.TheVariants.{Aborted}
use Rattle.xa_branch.specs.declared.decision.Decision.{Decision}
use Rattle.xa_branch.specs.Decisions.{decided_as}

-- two names of branches are one
abbrev pub same : Xid → Xid → Bool
same = names.ghosts.eq

-- the decided branches in order of their decisions, each with what it was told since, and how many more fit
-- without a growth
pub record DecisionTable : Type 0 where
  pub decisions : List (Xid × Decision)
  pub room : ℕ

-- the decided branches
abbrev pub open_cases : DecisionTable → List Xid
open_cases t = map (λ e. e.0) t.decisions

-- what an operator decided of a branch: None if none did
abbrev pub decision_in : DecisionTable → Xid → Option Decision
decision_in t x = lookup (same x) t.decisions

-- the decision of a branch; if no operator decided it, this says nothing
abbrev pub decision_or : Option Decision → Decision
decision_or o = unwrap_or o (decided_as Aborted)

-- this is known of one branch, and of the others what was known
pub record NotesDecision (old new : DecisionTable) (x : Xid) (known : Option Decision) : Type 0 where
  pub own : decision_in new x ≡ known
  pub others : (y : Xid) → same x y ≡ false → decision_in new y ≡ decision_in old y

-- of each branch the same is known
abbrev pub SameDecisions : DecisionTable → DecisionTable → Type 0
SameDecisions old new = (x : Xid) → decision_in new x ≡ decision_in old x
