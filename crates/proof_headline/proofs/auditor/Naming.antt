-- Which kept case of the parent names a ticket: the one that JOINED gave it to, or none.
use Rattle.std.proofs.Common.{◌≡◌, ◌∙◌, ◌||◌, ◌&&◌, inl, inr, Bool, true, false, Option, Some, None, List, [], ◌∷◌, find, refl, sym, ap, subst, arith, if◌then◌else◌}
use Rattle.protocol.specs.declared.names.Case.{Case}
use Rattle.protocol.specs.declared.names.ProcessId.{ProcessId}
use Rattle.protocol.specs.declared.names.Ticket.{Ticket}
use Rattle.protocol.specs.declared.messages.Envelope.{Envelope}
use Rattle.protocol.specs.declared.records.Record.{Record}
use Rattle.protocol.specs.declared.trees.TreeProcess.{TreeProcess}
use Rattle.protocol.specs.Names.{same_case, same_process, same_txn, process_of}
use Rattle.protocol.specs.NameLaws.{same_process_tells, same_txn-refl}
use Rattle.protocol.specs.Records.{cases_in, has, has_case}
use Rattle.protocol.specs.Nodes.{Role, AtRoot, Below, AtLeaf, Place, Node, kept, place_of, role_of}
use Rattle.protocol.specs.Outcomes.{has_accepted, is_joined_message, sent}
use Rattle.protocol.specs.World.{World}
use Rattle.protocol.specs.Audits.{is_collecting_naming, is_decision_naming, is_prepare_naming}
use Rattle.proof_processes.specs.WorldHolds.{Coordinates, IsPair, IsParentRole, RoleHolds, WorldHolds, is_record_of}
use Rattle.protocol.specs.Audits.{is_naming}
use Rattle.proof_processes.proofs.RootLogs.{recorded_case}
use Rattle.proof_processes.proofs.Tests.{and, both, case_is, either, not_both}
use Rattle.proof_processes.proofs.Worlds.{has_other}
use Rattle.proof_headline.proofs.Pairs.{joined_pair}
use Rattle.proof_headline.proofs.Parts.{accepts, standing_world}
use Rattle.protocol.specs.Audits.{has_place, is_case_at, is_root_role, naming_case}

-- Looking for a case.

-- the only case that passes is found, if it is in the list
find_only : (q : Case → Bool) (c : Case) (xs : List Case) → ((d : Case) → q d ≡ true → d ≡ c) → q c ≡ true
    → has_case xs c ≡ true → find q xs ≡ Some c
unfolding has_case
find_only q c [] only e f = absurd (cc)
find_only q c (x ∷ xs) only e f = by_test (q x) refl (find_only q c xs only e)
  where
    by_test : (b : Bool) → q x ≡ b → (has_case xs c ≡ true → find q xs ≡ Some c)
        → (if b then Some x else find q xs) ≡ Some c
    by_test true g rest = ap Some (only x g)
    by_test false g rest = elim (either (same_case x c) (has_case xs c) f) [
      | inl now ↦ absurd (let y = sym g ∙ (ap q (case_is x c now) ∙ e) in cc)
      | inr later ↦ rest later
    ]

-- where none passes, none is found
find_none : (q : Case → Bool) (xs : List Case) → ((d : Case) → q d ≡ true → ⊥) → find q xs ≡ None
find_none q [] none = refl
find_none q (x ∷ xs) none = by_test (q x) refl (find_none q xs none)
  where
    by_test : (b : Bool) → q x ≡ b → find q xs ≡ None → (if b then Some x else find q xs) ≡ None
    by_test true g rest = absurd (none x g)
    by_test false g rest = rest

-- Records that name the ticket.

three : (a b c x y z : Bool) → ((a || b || c) || (x || y || z)) ≡ ((a || x) || (b || y) || (c || z))
three a b c x y z = grind arith

-- a record names the ticket, if a Collecting does, or a Prepare, or a decision
pub naming_tells : (c : Case) (t : Ticket) (rs : List Record)
    → has (is_naming c t) rs ≡ (has (is_collecting_naming c t) rs || has (is_prepare_naming c t) rs || has
    (is_decision_naming c t) rs)
unfolding has
naming_tells c t [] = refl
naming_tells c t (r ∷ rs) =
    ap (λ b. is_naming c t r || b) (naming_tells c t rs)
    ∙ three (is_collecting_naming c t r) (is_prepare_naming c t r) (is_decision_naming c t r) _ _ _

naming_records : (c : Case) (t : Ticket) (r : Record) → is_naming c t r ≡ true → is_record_of c r ≡ true
naming_records c t r e = grind arith

-- By role.

coordinates_in : (role : Role) (place : Place) (net : List Envelope) (n : Node) (c : Case)
    → IsParentRole role c.ticket → RoleHolds role place net n → Coordinates place net n
coordinates_in AtRoot place net n c i h = h.0
coordinates_in (Below p) place net n c i h = h.0
coordinates_in (AtLeaf p) place net n c i h = absurd (i)

fits : (role : Role) (c : Case) → IsParentRole role c.ticket → has_place role c.ticket ≡ true
fits role c i = by_ticket role c.ticket i
  where
    by_ticket : (role : Role) (o : Option Ticket) → IsParentRole role o → has_place role o ≡ true
    by_ticket AtRoot None i = refl
    by_ticket (Below p) (Some u) i = refl
    by_ticket AtRoot (Some u) i = absurd (i)
    by_ticket (Below p) None i = absurd (i)
    by_ticket (AtLeaf p) o i = absurd (i)

same_process_itself : (q : ProcessId) → same_process q q ≡ true
same_process_itself q = elim (same_process_tells q q) [ inl t ↦ t.0 | inr f ↦ absurd (f.1 refl) ]

module _ (tree : List TreeProcess) (w : World) (h : WorldHolds tree w) (c : Case) (t : Ticket)
    (joined : sent (is_joined_message c t) w.net ≡ true)
  where
    abbrev n : Node
    n = w.at (process_of c)

    pair : IsPair tree c t
    pair = (joined_pair tree w h c t joined).0

    abbrev passes : Case → Bool
    passes d = (same_txn d.txn c.txn && has (is_naming d t) (kept (w.at (process_of c))))
        && is_case_at tree (process_of c) d

    -- who is named by a kept record, JOINED gave to its case
    only : (d : Case) → has (is_naming d t) (kept (w.at (process_of c))) ≡ true → d ≡ c
    only d e =
        let holds = h.nodes (process_of c) pair.parent.listed in
        let now : has_accepted n d t ≡ true =
        (coordinates_in (role_of tree (process_of c)) (place_of tree
        (process_of c)) w.net n c pair.parent.role
        holds.role).named_accepted d t (holds.lasts.nested.kept_was_written (is_naming d t)
        (λ k. refl) e) in
        let also = (accepts tree w (standing_world tree w h) (process_of c) d t now).1 in
        case_is d c (h.joined_once d c t also joined)

    itself : has (is_naming c t) (kept (w.at (process_of c))) ≡ true → passes c ≡ true
    itself e = and _ _ (and _ _ (same_txn-refl c.txn) e) (and _ _
        (and _ _ (same_process_itself (process_of c)) (fits (role_of tree
        (process_of c)) c pair.parent.role))
        (and _ _ pair.parent.top_listed (ap is_root_role pair.parent.top)))

    pub named_is : has (is_naming c t) (kept (w.at (process_of c))) ≡ true
        → naming_case tree (process_of c) c.txn t (kept (w.at (process_of c))) ≡ Some c
    named_is e =
        find_only passes c (cases_in (kept n)) (λ d f. only d (both _ _ (both _ _ f).0).1) (itself e)
        (recorded_case c (kept n) (has_other (is_naming c t) (is_record_of c) (kept n)
        (naming_records c t) e))

    pub named_none : has (is_naming c t) (kept (w.at (process_of c))) ≡ false
        → naming_case tree (process_of c) c.txn t (kept (w.at (process_of c))) ≡ None
    named_none e =
        find_none passes (cases_in (kept n)) (λ d f.
        let g = (both _ _ (both _ _ f).0).1 in
        let k = subst (λ (x : Case). has (is_naming x t) (kept (w.at (process_of c)))
        ≡ true) (only d g) g in
        not_both (is_naming c t) (has (is_naming c t) (kept n)) k e)
