-- A case that was opened and taken out again leaves the table as it was.
use Rattle.std.proofs.Common.{◌≡◌, ◌∙◌, ℕ, Bool, true, false, Option, Some, None, refl, sym, ap, subst, if◌then◌else◌}
use Rattle.xa_xid.specs.declared.xid.Xid.{Xid}
use Rattle.protocol.specs.declared.names.Case.{Case}
use Rattle.protocol.specs.declared.names.Ticket.{Ticket}
use Rattle.protocol.specs.Names.{child_case, same_case}
use Rattle.protocol.proofs.NameTests.{case_tells}
use Rattle.case_table.specs.Tables.{MovesValue, entry_at}
use Rattle.case_table.proofs.Writes.{same_case-itself}
use Rattle.sub_branches.specs.declared.branch.LiveBranch.{LiveBranch}
use Rattle.sub_branches.specs.Tables.{BranchTable, IsBranchTable, OpensBranch, Retires, SameTable, branch_in, nothing, opened, retired_at, ticket_in}

one : (c d : Case) → same_case c d ≡ true → c ≡ d
one c d e = (case_tells c d).0 e

some_same : {A : Type 0} (a b : A) → Some a ≡ Some b → a ≡ b
some_same a b e = cc

-- no ticket is the one of a case that is not live
pub none_retires : (t : BranchTable) (c : Case) → IsBranchTable t → branch_in t c ≡ None → (d : Case)
    → retired_at c d (ticket_in t d) ≡ ticket_in t d
none_retires t c kept none d = by_ticket (ticket_in t d) refl
  where
    by_ticket : (o : Option Ticket) → ticket_in t d ≡ o → retired_at c d o ≡ o
    by_ticket None e = refl
    by_ticket (Some k) e = by_case (same_case (child_case d.txn k) c) refl
      where
        by_case : (r : Bool) → same_case (child_case d.txn k) c ≡ r → (if r then None else Some k) ≡ Some k
        by_case false apart = refl
        by_case true is =
            let h = kept.given d k e in
            absurd (let f = sym none ∙ ap (branch_in t) (sym (one _ c is)) ∙ h.1 in cc)

module _ (old mid new : BranchTable) (key : ℕ) (d0 : Case) (t : Ticket) (x : Xid) (kept : IsBranchTable old)
    (fresh : branch_in old (child_case d0.txn t) ≡ None)
    (ungiven : ticket_in old d0 ≡ None) (opens : OpensBranch old mid d0 t x)
    (at : entry_at mid.branches key ≡ Some (child_case d0.txn t, opened x d0))
    (gone : Retires mid new key nothing) where
  abbrev child : Case
  child = child_case d0.txn t

  owner_is : gone.owner ≡ child
  owner_is = ap (λ (p : Case × LiveBranch). p.0) (some_same (gone.owner, gone.branch)
      (child, opened x d0) (sym gone.was ∙ at))

  leaves : MovesValue mid.branches new.branches child None
  leaves = subst (λ (c : Case). MovesValue mid.branches new.branches c None) owner_is gone.branches

  branch_back : (c : Case) (b : Bool) → same_case child c ≡ b → branch_in new c ≡ branch_in old c
  branch_back c true is =
      ap (branch_in new) (sym (one child c is)) ∙ leaves.own ∙ sym fresh ∙ ap (branch_in old) (one child c is)
  branch_back c false apart = leaves.others c apart ∙ opens.branches.others c apart

  ticket_goes : retired_at child d0 (Some t) ≡ None
  ticket_goes = ap (λ b. if b then None else Some t) (same_case-itself child)

  ticket_back : (d : Case) (b : Bool) → same_case d0 d ≡ b
      → retired_at child d (ticket_in mid d) ≡ ticket_in old d
  ticket_back d true is =
      ap (λ (e : Case). retired_at child e (ticket_in mid e)) (sym (one d0 d is))
      ∙ ap (retired_at child d0) opens.tickets.own ∙ ticket_goes
      ∙ sym ungiven ∙ ap (ticket_in old) (one d0 d is)
  ticket_back d false apart = ap (retired_at child d) (opens.tickets.others d apart)
      ∙ none_retires old child kept fresh d

  pub undone : SameTable old new
  undone = record {
    branches = λ c. branch_back c (same_case child c) refl;
    tickets = λ d. gone.tickets d ∙ ap (λ (c : Case). retired_at c d (ticket_in mid d)) owner_is
        ∙ ticket_back d (same_case d0 d) refl;
  }
