-- Two cases of one process that have one XID are one.
use Rattle.std.proofs.Common.{◌≡◌, ◌∙◌, ◌&&◌, Bool, true, false, Option, Some, None, refl, sym, ap, subst}
use Rattle.xa_xid.specs.Xids.{XidParts}
use Rattle.protocol.specs.declared.names.Case.{Case}
use Rattle.protocol.specs.declared.names.ProcessId.{ProcessId}
use Rattle.protocol.specs.declared.names.Ticket.{Ticket}
use Rattle.protocol.specs.declared.names.Txn.{Txn}
use Rattle.protocol.specs.declared.records.BranchName.{BranchName}
use Rattle.protocol_words.specs.Variants.{CaseBranch}
use Rattle.protocol.specs.Branches.{FitsBelow, FitsTxn, branch_parts}
use Rattle.protocol.specs.LogNames.{below_of, is_own, is_ticketed, name_xid, parent_of, ticket_parent}
use Rattle.protocol.specs.Names.{process_of, same_process}
use Rattle.protocol.specs.Trees.{root_of}
use Rattle.protocol.specs.Nodes.{AtLeaf, AtRoot, Below, IsCoordinator, Place, Role}
use Rattle.proof_processes.proofs.Tests.{both}
use Rattle.log_text.specs.Parts.{Name, case_name}
use Rattle.log_text.proofs.NameReading.{case_of}
use Rattle.proof_log_order.specs.Orders.{NameFits}

-- the XID of a case in the log of a process below this parent
abbrev pub xid_of : Option ProcessId → Case → XidParts
xid_of p c = name_xid (ticket_parent p c.ticket) (CaseBranch c)

xid_is : (p : Option ProcessId) (c : Case) → xid_of p c ≡ branch_parts c.txn (below_of c.ticket p)
xid_is p c = ap (branch_parts c.txn) (by_ticket c.ticket)
  where
    by_ticket : (t : Option Ticket) → below_of t (ticket_parent p t) ≡ below_of t p
    by_ticket None = refl
    by_ticket (Some t) = refl

names_are_one : (x y : Txn) (b d : Option (ProcessId × Ticket)) → FitsTxn x → FitsBelow b → FitsTxn y
    → FitsBelow d
    → branch_parts x b ≡ branch_parts y d → case_name x b ≡ case_name y d
names_are_one x y b d hx hb hy hd e =
    sym (case_of x b (branch_parts x b) hx hb refl) ∙ case_of y d (branch_parts x b) hy hd (sym e)

same_case_in : (c d : Case) → ◌≡◌ {A = BranchName} (CaseBranch c) (CaseBranch d) → c ≡ d
same_case_in c d e = cc

-- at the root no case has a ticket, and below it each has one
one_name : (r : Role) → IsCoordinator r → (x y : Txn) (t u : Option Ticket) → is_ticketed r t ≡ true
    → is_ticketed r u ≡ true → case_name x (below_of t (parent_of r)) ≡ case_name y (below_of u (parent_of r))
    → ◌≡◌ {A = Case} (record { txn = x; ticket = t }) (record { txn = y; ticket = u })
one_name AtRoot i x y None None f g e =
    same_case_in (record { txn = x; ticket = None }) (record { txn = y; ticket = None })
    (ap (λ (n : Name). n.1) e)
one_name AtRoot i x y (Some t) u f g e = absurd (cc)
one_name AtRoot i x y None (Some u) f g e = absurd (cc)
one_name (Below p) i x y (Some t) (Some u) f g e =
    same_case_in (record { txn = x; ticket = Some t }) (record { txn = y; ticket = Some u })
    (ap (λ (n : Name). n.1) e)
one_name (Below p) i x y None u f g e = absurd (cc)
one_name (Below p) i x y (Some t) None f g e = absurd (cc)
one_name (AtLeaf p) i x y t u f g e = absurd i

ticketed_of : (place : Place) (c : Case) → is_own place (parent_of place.role) c ≡ true
    → is_ticketed place.role c.ticket ≡ true
ticketed_of place c e = (both _ _ (both _ _ (both _ _ e).1).1).0

pub own_is_one : (place : Place) → IsCoordinator place.role → (c d : Case)
    → is_own place (parent_of place.role) c ≡ true → is_own place (parent_of place.role) d ≡ true
    → NameFits (parent_of place.role) (Some c) → NameFits (parent_of place.role) (Some d)
    → xid_of (parent_of place.role) c ≡ xid_of (parent_of place.role) d → c ≡ d
own_is_one place i c d own_c own_d fc fd e =
    let p = parent_of place.role in
    one_name place.role i c.txn d.txn c.ticket d.ticket (ticketed_of place c own_c)
    (ticketed_of place d own_d)
    (names_are_one c.txn d.txn (below_of c.ticket p) (below_of d.ticket p) fc.0 fc.1 fd.0 fd.1
    (sym (xid_is p c) ∙ (e ∙ xid_is p d)))
