-- What keeps the live branches tied with the manager's.
use Rattle.std.proofs.Common.{◌≡◌, ◌≤◌, ◌∙◌, List, Bool, true, false, Option, Some, None, refl, sym, ap, subst}
use Rattle.xa_tables.specs.declared.states.BranchState.{BranchState}
use Rattle.xa_xid.specs.declared.xid.Xid.{Xid}
use Rattle.xa_branch.specs.Names.{same}
use Rattle.xa_branch.specs.Branches.{state_in}
use Rattle.xa_branch.proofs.Names.{same_is}
use Rattle.xa_assoc.specs.Answers.{state_at}
use Rattle.xa_branch.specs.declared.decision.Decision.{Decision}
use Rattle.protocol.specs.declared.names.Case.{Case}
use Rattle.protocol.specs.declared.names.Outcome.{Outcome}
use Rattle.protocol.specs.declared.events.Input.{Input}
use Rattle.protocol.specs.declared.standings.Standing.TheVariants.{Heuristic}
use Rattle.process_state.specs.Makes.{decided_by}
use Rattle.protocol.specs.declared.names.ProcessId.{ProcessId}
use Rattle.protocol_words.specs.Variants.{CaseBranch}
use Rattle.protocol.specs.Names.{same_case}
use Rattle.protocol.proofs.NameTests.{case_tells}
use Rattle.log_text.specs.Parts.{Name}
use Rattle.case_table.specs.Tables.{MovesValue}
use Rattle.case_table.proofs.Writes.{same_case-itself}
use Rattle.log_records.specs.Sights.{LogSight}
use Rattle.resource_manager.specs.Sights.{ManagerSight, SameManager}
use Rattle.resource_manager.specs.Ends.{OthersStayDecided}
use Rattle.sub_work.specs.Deeds.{BranchComes, IsIdle}
use Rattle.sub_work.proofs.Quiet.{same_idle}
use Rattle.sub_branches.specs.declared.branch.LiveBranch.{LiveBranch}
use Rattle.sub_branches.specs.Tables.{BranchTable, branch_in, kept_view, view_in}
use Rattle.sub_process.specs.Fronts.{IsHeader}
use Rattle.sub_process.specs.declared.subordinate.Front.{Front}
use Rattle.sub_process.specs.Subordinates.{AgreesWith, HasReached, IsGiven, IsNamed, IsTied, SubState, decided_at, place_of, stage_state}
use Rattle.sub_process.proofs.Reached.{header_front, same_reached}

-- a subordinate with another table and another manager
abbrev pub behind : SubState → BranchTable → ManagerSight → SubState
behind s t m = record s { table = t; manager = m }

pub one : (c d : Case) → same_case c d ≡ true → c ≡ d
one c d e = (case_tells c d).0 e

some_same : {A : Type 0} (a b : A) → Some a ≡ Some b → a ≡ b
some_same a b e = cc

case_is : (c d : Case) → CaseBranch c ≡ CaseBranch d → c ≡ d
case_is c d e = cc

-- two cases of one XID are one
one_case : (p : ProcessId) (c d : Case) (x : Xid) → IsNamed p c x → IsNamed p d x → c ≡ d
one_case p c d x a b = case_is c d (ap (λ (n : Name). n.1) (sym a.reads ∙ b.reads))

-- the XIDs of two cases are two
pub apart_xids : (p : ProcessId) (c d : Case) (x y : Xid) → IsNamed p c x → IsNamed p d y
    → same_case c d ≡ false → (b : Bool) → same x y ≡ b → b ≡ false
apart_xids p c d x y a b apart false e = refl
apart_xids p c d x y a b apart true e =
    let is = one_case p c d x a (subst (λ (z : Xid). IsNamed p d z) (sym (same_is x y e)) b) in
    absurd (let f : same_case c d ≡ true = ap (same_case c) (sym is)
    ∙ same_case-itself c in let g : true ≡ false = sym f ∙ apart in cc)

-- what is kept of a branch after a move fits its state at the manager, and what an operator decided of it
abbrev pub Fits : Option LiveBranch → LiveBranch → BranchState → Decision → Type 0
Fits None b st d = Unit {0}
Fits (Some w) b st d = (w.xid ≡ b.xid) × (stage_state w.stage ≡ st) × AgreesWith w.stage d

-- what an operator decided of a case that he decided stays, or is what he decided now
abbrev pub KeepsDecided : SubState → BranchTable → ManagerSight → Input → Type 0
KeepsDecided s t m i = (d : Case) → (view_in t d).standing ≡ Heuristic
    → decided_at m (branch_in t d) ≡ decided_by i d (decided_at s.manager (branch_in s.table d))

-- one branch moved, and of the others what operators decided stays
module _ {f : Front} (s : SubState) (t : BranchTable) (m : ManagerSight) (owner : Case) (b : LiveBranch)
    (v : Option LiveBranch)
    (tied : IsTied f s) (at : branch_in s.table owner ≡ Some b)
    (moves : MovesValue s.table.branches t.branches owner v)
    (others : OthersStayDecided s.manager m b.xid) where
  others_decide : (c : Case) → same_case owner c ≡ false
      → decided_at m (branch_in t c) ≡ decided_at s.manager (branch_in s.table c)
  others_decide c e = ap (decided_at m) (moves.others c e) ∙ by_branch (branch_in s.table c) refl
    where
      by_branch : (o : Option LiveBranch) → branch_in s.table c ≡ o → decided_at m o ≡ decided_at s.manager o
      by_branch None stood = refl
      by_branch (Some w) stood =
          ap (λ (d : Decision). Some d.outcome) (others w.xid
          (apart_xids s.parent owner c b.xid w.xid (tied.named owner b at) (tied.named c w stood) e
          (same b.xid w.xid) refl))

  pub keeps_decided : (i : Input)
      → ((d : Case) (o : Option Outcome) → same_case owner d ≡ false → decided_by i d o ≡ o)
      → ((kept_view v).standing ≡ Heuristic
      → decided_at m v ≡ decided_by i owner (decided_at s.manager (Some b)))
      → KeepsDecided s t m i
  keeps_decided i quiet own d is = by_case d (same_case owner d) refl is
    where
      here : (view_in t owner).standing ≡ Heuristic
          → decided_at m (branch_in t owner)
          ≡ decided_by i owner (decided_at s.manager (branch_in s.table owner))
      here h = ap (decided_at m) moves.own
          ∙ own (ap (λ (o : Option LiveBranch). (kept_view o).standing) (sym moves.own) ∙ h)
          ∙ ap (λ (o : Option LiveBranch). decided_by i owner (decided_at s.manager o)) (sym at)

      by_case : (c : Case) (r : Bool) → same_case owner c ≡ r → (view_in t c).standing ≡ Heuristic
          → decided_at m (branch_in t c) ≡ decided_by i c (decided_at s.manager (branch_in s.table c))
      by_case c false e h =
          others_decide c e ∙ sym (quiet c (decided_at s.manager (branch_in s.table c)) e)
      by_case c true e h =
          subst (λ (k : Case). (view_in t k).standing ≡ Heuristic
          → decided_at m (branch_in t k) ≡ decided_by i k (decided_at s.manager (branch_in s.table k)))
          (one owner c e) here h

-- a case was given its ticket, where the manager's boot stays
given_still : (s : SubState) (t : BranchTable) (m : ManagerSight) (c : Case) → m.boot ≡ s.manager.boot
    → IsGiven s c
    → IsGiven (behind s t m) c
given_still s t m c boot g = record {
  ticket = g.ticket;
  has = g.has;
  within = subst (λ n. g.ticket.boot ≤ n) (sym boot) g.within;
  before = λ e. g.before (e ∙ boot);
}

-- one branch moved, here and at the manager
module _ {f : Front} (s : SubState) (t : BranchTable) (m : ManagerSight) (owner : Case) (b : LiveBranch)
    (v : Option LiveBranch)
    (st : BranchState) (tied : IsTied f s)
    (at : branch_in s.table owner ≡ Some b) (moves : MovesValue s.table.branches t.branches owner v)
    (fits : Fits v b st (m.decided b.xid)) (comes : BranchComes s.manager m b.xid st) where
  owner_named : IsNamed s.parent owner b.xid
  owner_named = tied.named owner b at

  named_at : (o : Option LiveBranch) → v ≡ o → (c : Case) (w : LiveBranch) (r : Bool) → same_case owner c ≡ r
      → branch_in t c ≡ Some w → IsNamed s.parent c w.xid
  named_at None is c w true e h = absurd (let f = sym is ∙ sym moves.own
      ∙ ap (branch_in t) (one owner c e) ∙ h in cc)
  named_at (Some q) is c w true e h =
      let entry : q ≡ w = some_same q w (sym is ∙ sym moves.own ∙ ap (branch_in t) (one owner c e) ∙ h) in
      let fit : Fits (Some q) b st (m.decided b.xid) =
      subst (λ (o : Option LiveBranch). Fits o b st (m.decided b.xid)) is fits in
      subst (λ (d : Case). IsNamed s.parent d w.xid) (one owner c e)
      (subst (λ (x : Xid). IsNamed s.parent owner x)
      (sym fit.0 ∙ ap (λ (z : LiveBranch). z.xid) entry) owner_named)
  named_at o is c w false e h = tied.named c w (sym (moves.others c e) ∙ h)

  stands_at : (o : Option LiveBranch) → v ≡ o → (c : Case) (w : LiveBranch) (r : Bool)
      → same_case owner c ≡ r → branch_in t c ≡ Some w
      → state_at m.tables w.xid ≡ stage_state w.stage
  stands_at None is c w true e h = absurd (let f = sym is ∙ sym moves.own
      ∙ ap (branch_in t) (one owner c e) ∙ h in cc)
  stands_at (Some q) is c w true e h =
      let entry : q ≡ w = some_same q w (sym is ∙ sym moves.own ∙ ap (branch_in t) (one owner c e) ∙ h) in
      let fit : Fits (Some q) b st (m.decided b.xid) =
      subst (λ (o : Option LiveBranch). Fits o b st (m.decided b.xid)) is fits in
      ap (λ (x : Xid). state_at m.tables x) (ap (λ (z : LiveBranch). z.xid) (sym entry)
      ∙ fit.0) ∙ comes.own ∙ sym fit.1
      ∙ ap (λ (z : LiveBranch). stage_state z.stage) entry
  stands_at o is c w false e h =
      let stood = sym (moves.others c e) ∙ h in
      let apart = apart_xids s.parent owner c b.xid w.xid owner_named (tied.named c w stood)
      e (same b.xid w.xid) refl in
      comes.others w.xid apart ∙ tied.stands c w stood

  told_at : (o : Option LiveBranch) → v ≡ o → (c : Case) (w : LiveBranch) (r : Bool)
      → same_case owner c ≡ r → branch_in t c ≡ Some w
      → AgreesWith w.stage (m.decided w.xid)
  told_at None is c w true e h = absurd (let f = sym is ∙ sym moves.own
      ∙ ap (branch_in t) (one owner c e) ∙ h in cc)
  told_at (Some q) is c w true e h =
      let entry : q ≡ w = some_same q w (sym is ∙ sym moves.own ∙ ap (branch_in t) (one owner c e) ∙ h) in
      let fit : Fits (Some q) b st (m.decided b.xid) =
      subst (λ (o : Option LiveBranch). Fits o b st (m.decided b.xid)) is fits in
      subst (λ (z : LiveBranch). AgreesWith z.stage (m.decided z.xid)) entry
      (subst (λ (x : Xid). AgreesWith q.stage (m.decided x)) (sym fit.0) fit.2)
  told_at o is c w false e h =
      let stood = sym (moves.others c e) ∙ h in
      let apart = apart_xids s.parent owner c b.xid w.xid owner_named (tied.named c w stood)
      e (same b.xid w.xid) refl in
      subst (λ (d : Decision). AgreesWith w.stage d)
      (sym (comes.others_decided w.xid apart)) (tied.told c w stood)

  given_at : (o : Option LiveBranch) → v ≡ o → (c : Case) (w : LiveBranch) (r : Bool) → same_case owner c ≡ r
      → branch_in t c ≡ Some w → IsGiven s c
  given_at o is c w true e h = subst (λ (d : Case). IsGiven s d) (one owner c e)
      (tied.given_before owner b at)
  given_at o is c w false e h = tied.given_before c w (sym (moves.others c e) ∙ h)

  same_given : (c : Case) → IsGiven s c → IsGiven (behind s t m) c
  same_given c g = given_still s t m c comes.boot g

  pub moved_tied : HasReached f (place_of s) m → IsTied f (behind s t m)
  moved_tied reached = record {
    own = comes.form ∙ tied.own;
    idle = comes.idle;
    named = λ c w h. named_at v refl c w (same_case owner c) refl h;
    stands = λ c w h. stands_at v refl c w (same_case owner c) refl h;
    told = λ c w h. told_at v refl c w (same_case owner c) refl h;
    given_before = λ c w h. same_given c (given_at v refl c w (same_case owner c) refl h);
    reached = reached;
  }

-- no branch moved
pub still_tied : {f : Front} (s : SubState) (m : ManagerSight) → IsTied f s → IsIdle m
    → ((y : Xid) → state_at m.tables y ≡ state_at s.manager.tables y)
    → ((y : Xid) → m.decided y ≡ s.manager.decided y) → m.boot ≡ s.manager.boot
    → m.log.form ≡ s.manager.log.form → HasReached f (place_of s) m → IsTied f (behind s s.table m)
still_tied s m tied idle states decided boot form reached = record {
  own = form ∙ tied.own;
  idle = idle;
  named = λ c w h. tied.named c w h;
  stands = λ c w h. states w.xid ∙ tied.stands c w h;
  told = λ c w h. subst (λ (d : Decision). AgreesWith w.stage d) (sym (decided w.xid)) (tied.told c w h);
  given_before = λ c w h. given_still s s.table m c boot (tied.given_before c w h);
  reached = reached;
}

pub same_tied : {f : Front} (s : SubState) (m : ManagerSight) → IsTied f s → SameManager s.manager m
    → IsTied f (behind s s.table m)
same_tied s m tied stays =
    still_tied s m tied (same_idle s.manager m stays.tables tied.idle)
    (λ y. ap (λ (bs : List (Xid × BranchState)). state_in bs y) stays.tables.branches.branches)
    stays.rest.decided stays.boot (ap (λ (l : LogSight). l.form) stays.log)
    (same_reached (place_of s) s.manager m tied.reached stays.boot stays.log)

-- the header alone is remembered from now on
pub header_tied : {f : Front} (h : Front) (s : SubState) → IsHeader h → IsTied f s → IsTied h s
header_tied h s header tied = record {
  own = tied.own;
  idle = tied.idle;
  named = tied.named;
  stands = tied.stands;
  told = tied.told;
  given_before = tied.given_before;
  reached = record {
    boot = tied.reached.boot;
    promises = tied.reached.promises;
    front = header_front (place_of s) s.manager.log h header;
  };
}
