-- Who is a child in a tree, who is listed, and that a case which is Prepared has its promise.
use Rattle.std.proofs.Common.{◌≡◌, ◌∙◌, inl, inr, ◌||◌, Bool, true, false, Option, Some, None, List, [], ◌∷◌, find, if◌then◌else◌, refl, ap}
use Rattle.std.specs.List.{list_any}
use Rattle.protocol.specs.declared.names.Kind.{Kind}
use Rattle.protocol.specs.declared.names.Kind.TheVariants.{Coordinator, Manager}
use Rattle.protocol.specs.declared.names.Presumption.{Presumption}
use Rattle.protocol.specs.declared.names.Presumption.TheVariants.{PresumeAbort, PresumeCommit}
use Rattle.protocol.specs.declared.names.ProcessId.{ProcessId}
use Rattle.protocol.specs.declared.names.Ticket.{Ticket}
use Rattle.protocol.specs.declared.standings.Standing.TheVariants.{Prepared}
use Rattle.protocol.specs.declared.trees.TreeProcess.{TreeProcess}
use Rattle.protocol.specs.Names.{same_process, same_ticket}
use Rattle.protocol.specs.NameLaws.{same_process_tells, same_ticket-refl}
use Rattle.protocol.specs.Records.{in_list}
use Rattle.protocol.specs.Nodes.{is_child, is_parent, role_by, role_of}
use Rattle.protocol.specs.Memory.{Phase, Idle, Open, Asked, Over, ticket_of_child}
use Rattle.protocol.specs.Standings.{phase_standing, standing_by}
use Rattle.proof_processes.specs.WorldHolds.{IsChildRole}
use Rattle.proof_processes.proofs.Tests.{left, right}

pub found_listed : (f : Ticket → Bool) (ts : List Ticket) (t : Ticket) → find f ts ≡ Some t
    → in_list ts t ≡ true
unfolding in_list
found_listed f [] t e = absurd (cc)
found_listed f (u ∷ us) t e = by_test (f u) e (found_listed f us t)
  where
    by_test : (b : Bool) → (if b then Some u else find f us) ≡ Some t
        → (find f us ≡ Some t → list_any (λ x. same_ticket x t) us ≡ true)
        → (same_ticket u t || list_any (λ x. same_ticket x t) us) ≡ true
    by_test true g k =
        let same : u ≡ t = cc in
        left _ _ (ap (λ x. same_ticket x t) same ∙ same_ticket-refl t)
    by_test false g k = right _ _ (k g)

-- a child of a process has that role in the tree
pub role_parent : (k : Kind) (o : Option ProcessId) (p : ProcessId) → is_parent p o ≡ true
    → IsChildRole (role_by k o) p
role_parent Coordinator None p e = absurd (cc)
role_parent Coordinator (Some q) p e = process_is q p e
  where
    process_is : (a b : ProcessId) → same_process a b ≡ true → a ≡ b
    process_is a b f = elim (same_process_tells a b) [ inl t ↦ t.1 | inr g ↦ absurd (let h = g.0 in cc) ]
role_parent Manager None p e = absurd (cc)
role_parent Manager (Some q) p e = process_is q p e
  where
    process_is : (a b : ProcessId) → same_process a b ≡ true → a ≡ b
    process_is a b f = elim (same_process_tells a b) [ inl t ↦ t.1 | inr g ↦ absurd (let h = g.0 in cc) ]

pub is_child_role : (tree : List TreeProcess) (q p : ProcessId) → is_child tree q p ≡ true
    → IsChildRole (role_of tree q) p
unfolding is_child role_of
is_child_role [] q p e = absurd (cc)
is_child_role (x ∷ xs) q p e = by_test (same_process x.id q) e (is_child_role xs q p)
  where
    by_test : (b : Bool) → (if b then is_parent p x.parent else is_child xs q p) ≡ true
        → (is_child xs q p ≡ true → IsChildRole (role_of xs q) p)
        → IsChildRole (if b then role_by x.kind x.parent else role_of xs q) p
    by_test true f k = role_parent x.kind x.parent p f
    by_test false f k = k f

pub nobody_listed : {A : Type 0} → (t : Ticket) → in_list [] t ≡ true → A
unfolding in_list
nobody_listed t e = absurd (cc)

pub found_child : (ts : List Ticket) (q : ProcessId) (t : Ticket) → ticket_of_child ts q ≡ Some t
    → in_list ts t ≡ true
unfolding ticket_of_child
found_child ts q t e = found_listed (λ u. same_process u.child q) ts t e

-- a case that is Prepared has its promise
pub promised_kept : (q : Presumption) (ph : Phase) (e m a r k none : Bool)
    → standing_by e m a r k none (phase_standing q ph) ≡ Prepared → r ≡ true
promised_kept q ph e m a true k none f = refl
promised_kept q ph true m a false k none f = absurd (cc)
promised_kept q ph false true a false k true f = absurd (cc)
promised_kept q ph false true a false k false f = absurd (cc)
promised_kept q ph false false true false k true f = absurd (cc)
promised_kept q ph false false true false k false f = absurd (cc)
promised_kept q ph false false false false true none f = absurd (cc)
promised_kept q Open false false false false false none f = absurd (cc)
promised_kept q Idle false false false false false none f = absurd (idle_not q f)
  where
    idle_not : (x : Presumption) → phase_standing x Idle ≡ Prepared → ⊥
    idle_not PresumeAbort g = cc
    idle_not PresumeCommit g = cc
promised_kept q Over false false false false false none f = absurd (over_not q f)
  where
    over_not : (x : Presumption) → phase_standing x Over ≡ Prepared → ⊥
    over_not PresumeAbort g = cc
    over_not PresumeCommit g = cc
promised_kept q Asked false false false false false none f = absurd (asked_not q f)
  where
    asked_not : (x : Presumption) → phase_standing x Asked ≡ Prepared → ⊥
    asked_not PresumeAbort g = cc
    asked_not PresumeCommit g = cc
