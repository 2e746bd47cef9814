-- Who takes part, as a test and as the headline has it.
use Rattle.std.proofs.Common.{◌≡◌, ◌∙◌, inl, inr, ◌&&◌, ℕ, zero, suc, Bool, true, false, Option, Some, None, is_none, List, [], ◌∷◌, length, refl, sym, ap, subst}
use Rattle.std.specs.List.{list_any}
use Rattle.protocol.specs.declared.names.Case.{Case}
use Rattle.protocol.specs.declared.names.ProcessId.{ProcessId}
use Rattle.protocol.specs.declared.names.Ticket.{Ticket}
use Rattle.protocol.specs.declared.names.Txn.{Txn}
use Rattle.protocol.specs.declared.messages.Envelope.{Envelope}
use Rattle.protocol.specs.declared.trees.TreeProcess.{TreeProcess}
use Rattle.protocol.specs.Names.{same_txn, same_case, same_ticket, root_case, child_case, process_of}
use Rattle.protocol.specs.NameLaws.{same_case_tells, same_txn-refl, same_case-refl, same_txn_tells}
use Rattle.protocol.specs.Nodes.{Role, AtRoot, Below, AtLeaf, Place, place_of, role_of, is_listed, Node, opened_node}
use Rattle.protocol.specs.Outcomes.{sent, is_joined_message, has_accepted, TakesPart, at_root, below}
use Rattle.protocol.specs.Trees.{IsTree, level_within}
use Rattle.protocol.specs.World.{World}
use Rattle.proof_processes.specs.WorldHolds.{AllGo, IsPair, IsChildRole, JoinedOnce, NodeHolds, RoleHolds, TellsPart, WorldHolds, accepted_by, part_within, takes_part}
use Rattle.protocol.specs.Audits.{parent_in}
use Rattle.proof_processes.proofs.PairOf.{is_pair}
use Rattle.proof_processes.proofs.Tests.{and, both, either, left, right}
use Rattle.proof_processes.proofs.Levels.{climbs, parent_climbs}

-- What a world keeps, the pairs aside.
pub record Standing (tree : List TreeProcess) (w : World) : Type 0 where
  pub nodes : (q : ProcessId) → is_listed tree q ≡ true → NodeHolds (place_of tree q) w.net (w.at q)
  pub unlisted : (q : ProcessId) → is_listed tree q ≡ false → w.at q ≡ opened_node
  pub net : AllGo tree w.net
  pub joined_once : JoinedOnce w.net

pub standing_world : (tree : List TreeProcess) (w : World) → WorldHolds tree w → Standing tree w
standing_world tree w h =
    record { nodes = h.nodes; unlisted = h.unlisted; net = h.net; joined_once = h.joined_once }

-- Who accepts.

accepts_at : (role : Role) (place : Place) (net : List Envelope) (n : Node) → RoleHolds role place net n
    → (c : Case) (t : Ticket) → has_accepted n c t ≡ true
    → (process_of c ≡ place.me) × (sent (is_joined_message c t) net ≡ true)
accepts_at AtRoot place net n h c t e = h.0.accepted_was_joined c t e
accepts_at (Below p) place net n h c t e = h.0.accepted_was_joined c t e
accepts_at (AtLeaf p) place net n h c t e = absurd (nobody n.accepted h.0.accepts_none e)
  where
    nobody : (xs : List (Case × Ticket)) → xs ≡ []
        → list_any (λ a. same_case a.0 c && same_ticket a.1 t) xs ≡ true → ⊥
    nobody [] f e = absurd (cc)
    nobody (x ∷ xs) f e = absurd (cc)

opened_accepts_none : {A : Type 0} (n : Node) → n ≡ opened_node → (c : Case) (t : Ticket)
    → has_accepted n c t ≡ true → A
opened_accepts_none n same c t e =
    absurd (let x = subst (λ (k : Node). has_accepted k c t ≡ true) same e in cc)

-- who accepts a ticket is at this process, and JOINED gave it the ticket
pub accepts : (tree : List TreeProcess) (w : World) → Standing tree w
    → (q : ProcessId) (c : Case) (t : Ticket)
    → has_accepted (w.at q) c t ≡ true → (process_of c ≡ q) × (sent (is_joined_message c t) w.net ≡ true)
accepts tree w h q c t e = by_listed (is_listed tree q) refl
  where
    by_listed : (b : Bool) → is_listed tree q ≡ b
        → (process_of c ≡ q) × (sent (is_joined_message c t) w.net ≡ true)
    by_listed true f = accepts_at (role_of tree q) (place_of tree q) w.net (w.at q) (h.nodes q f).role c t e
    by_listed false f = opened_accepts_none (w.at q) (h.unlisted q f) c t e

-- The lists of accepted tickets.

pub record Accepted (up : Case → Bool) (n : Node) (x : Txn) (t : Ticket) : Type 0 where
  pub of : Case
  pub same : of.txn ≡ x
  pub accepted : has_accepted n of t ≡ true
  pub passes : up of ≡ true

txn_is : (a b : Txn) → same_txn a b ≡ true → a ≡ b
txn_is a b e = elim (same_txn_tells a b) [ inl t ↦ t.1 | inr g ↦ absurd (let k = g.0 in cc) ]

pub accepted_one : (up : Case → Bool) (n : Node) (x : Txn) (t : Ticket) → accepted_by up n x t ≡ true
    → Accepted up n x t
accepted_one up n x t e =
    let f = one n.accepted e in
    record { of = f.0; same = f.1.0; accepted = f.1.1.0; passes = f.1.1.1 }
  where
    one : (xs : List (Case × Ticket))
        → list_any (λ a. (same_txn a.0.txn x && same_ticket a.1 t) && up a.0) xs ≡ true
        → (c : Case) × ((c.txn ≡ x) × ((list_any (λ a. same_case a.0 c && same_ticket a.1 t) xs
        ≡ true) × (up c ≡ true)))
    one [] e = absurd (cc)
    one (a ∷ xs) e = elim (either _
        (list_any (λ a. (same_txn a.0.txn x && same_ticket a.1 t) && up a.0) xs) e) [
          | inl now ↦
              let f = both (same_txn a.0.txn x && same_ticket a.1 t) (up a.0) now in
              let g = both (same_txn a.0.txn x) (same_ticket a.1 t) f.0 in
              (a.0, (txn_is a.0.txn x g.0, (left _ _ (and _ _ (same_case-refl a.0) g.1), f.1)))
          | inr rest ↦
              let f = one xs rest in
              (f.0, (f.1.0, (right _ _ f.1.1.0, f.1.1.1)))
        ]

pub one_accepted : (up : Case → Bool) (n : Node) (c : Case) (t : Ticket) → has_accepted n c t ≡ true
    → up c ≡ true
    → accepted_by up n c.txn t ≡ true
one_accepted up n c t e f = one n.accepted e
  where
    now_so : (d : Case) (u : Ticket) → (same_case d c && same_ticket u t) ≡ true
        → ((same_txn d.txn c.txn && same_ticket u t) && up d) ≡ true
    now_so d u e =
        let g = both (same_case d c) (same_ticket u t) e in
        let same : d ≡ c = elim (same_case_tells d c) [ inl t ↦ t.1 | inr g ↦ absurd (let k = g.0 in cc) ] in
        and _ _ (and _ _ (subst (λ (y : Case). same_txn y.txn c.txn ≡ true) (sym same)
        (same_txn-refl c.txn)) g.1)
        (ap up same ∙ f)

    one : (xs : List (Case × Ticket)) → list_any (λ a. same_case a.0 c && same_ticket a.1 t) xs ≡ true
        → list_any (λ a. (same_txn a.0.txn c.txn && same_ticket a.1 t) && up a.0) xs ≡ true
    one [] e = absurd (cc)
    one (a ∷ xs) e = elim (either _ (list_any (λ a. same_case a.0 c && same_ticket a.1 t) xs) e) [
      | inl now ↦ left _ _ (now_so a.0 a.1 now)
      | inr rest ↦ right _ _ (one xs rest)
    ]

-- The parent of a ticket.

parent_at : (role : Role) (q p : ProcessId) → IsChildRole role p → parent_in role q ≡ p
parent_at (Below r) q p h = h
parent_at (AtLeaf r) q p h = h
parent_at AtRoot q p h = absurd (h)

-- At the root the case takes part, however short the climb.
root_part : (tree : List TreeProcess) (w : World) (k : ℕ) (x : Txn)
    → part_within k tree w (root_case x) ≡ true
root_part tree w zero x = refl
root_part tree w (suc k) x = refl

pub case_parts : (c : Case) (x : Txn) (o : Option Ticket) → c.txn ≡ x → c.ticket ≡ o
    → c ≡ record { txn = x; ticket = o }
case_parts c x o e f =
    ap (λ (y : Txn). record { txn = y; ticket = c.ticket }) e
    ∙ ap (λ (y : Option Ticket). record { txn = x; ticket = y }) f

module _ (tree : List TreeProcess) (w : World) (h : Standing tree w) where
  pair_joined : (c : Case) (t : Ticket) → sent (is_joined_message c t) w.net ≡ true → IsPair tree c t
  pair_joined c t e = is_pair tree w.net c t h.net e

  by_owner : (o : Option Ticket) (c : Case) (x : Txn) (t : Ticket) → c.txn ≡ x → c.ticket ≡ o
      → has_accepted (w.at (process_of c)) c t ≡ true
      → ((u : Ticket) → c ≡ child_case x u → TakesPart w x u) → TakesPart w x t
  by_owner None c x t f g e up =
      at_root t (subst (λ (d : Case). has_accepted (w.at (process_of d)) d t ≡ true)
      (case_parts c x None f g) e)
  by_owner (Some u) c x t f g e up =
      let same = case_parts c x (Some u) f g in
      below u t (up u same) (subst (λ (d : Case). has_accepted (w.at (process_of d)) d t ≡ true) same e)

  -- a case that passes the climb takes part
  pub told_within : (k : ℕ) (x : Txn) (t : Ticket) → part_within k tree w (child_case x t) ≡ true
      → TakesPart w x t
  told_within zero x t e = absurd (cc)
  told_within (suc k) x t e =
      let p = parent_in (role_of tree t.child) t.child in
      let a = accepted_one (part_within k tree w) (w.at p) x t e in
      let at = (accepts tree w h p a.of t a.accepted).0 in
      by_owner a.of.ticket a.of x t a.same refl
      (subst (λ (q : ProcessId). has_accepted (w.at q) a.of t ≡ true) (sym at) a.accepted)
      (λ u same. told_within k x u (subst (λ (d : Case). part_within k tree w d ≡ true) same a.passes))

  -- and the other way, where the climb is long enough
  pub tells_within : (x : Txn) (t : Ticket) → TakesPart w x t → (k : ℕ)
      → is_none (level_within k tree t.child) ≡ false
      → part_within k tree w (child_case x t) ≡ true
  tells_within x t part zero e = absurd (cc)
  tells_within x _ (at_root t a) (suc k) e =
      let f = accepts tree w h x.root (root_case x) t a in
      let pair = pair_joined (root_case x) t f.1 in
      let at = parent_at (role_of tree t.child) t.child x.root pair.child in
      subst (λ (q : ProcessId). accepted_by (part_within k tree w) (w.at q) x t ≡ true) (sym at)
      (one_accepted (part_within k tree w) (w.at x.root) (root_case x) t a (root_part tree w k x))
  tells_within x _ (below u t up a) (suc k) e =
      let f = accepts tree w h u.child (child_case x u) t a in
      let pair = pair_joined (child_case x u) t f.1 in
      let at = parent_at (role_of tree t.child) t.child u.child pair.child in
      subst (λ (q : ProcessId). accepted_by (part_within k tree w) (w.at q) x t ≡ true) (sym at)
      (one_accepted (part_within k tree w) (w.at u.child) (child_case x u) t a
      (tells_within x u up k (parent_climbs tree k t.child u.child pair.child e)))

  pub part_joined : (x : Txn) (t : Ticket) → TakesPart w x t → (c : Case) × ((c.txn
      ≡ x) × (sent (is_joined_message c t) w.net ≡ true))
  part_joined x _ (at_root t a) = (root_case x, (refl, (accepts tree w h x.root (root_case x) t a).1))
  part_joined x _ (below u t up a) =
      (child_case x u, (refl, (accepts tree w h u.child (child_case x u) t a).1))

  module _ (is_tree : IsTree tree) where
    pub tells : (x : Txn) (t : Ticket) → TakesPart w x t → takes_part tree w (child_case x t) ≡ true
    unfolding takes_part
    tells x t part =
        let j = part_joined x t part in
        tells_within x t part (length tree) (climbs tree is_tree t.child (pair_joined j.0 t j.1.1).listed)

    pub told : (x : Txn) (t : Ticket) → takes_part tree w (child_case x t) ≡ true → TakesPart w x t
    unfolding takes_part
    told x t e = told_within (length tree) x t e

    pub at_top : (x : Txn) → takes_part tree w (root_case x) ≡ true
    unfolding takes_part
    at_top x = root_part tree w (length tree) x

    -- a case with a ticket takes part if a case that takes part accepted the ticket
    accepted_in : (c : Case) (t : Ticket) → has_accepted (w.at (process_of c)) c t ≡ true
        → takes_part tree w c ≡ true
        → TakesPart w c.txn t
    accepted_in c t a up = by_ticket c.ticket c refl a up
      where
        by_ticket : (o : Option Ticket) (c : Case) → c.ticket ≡ o → has_accepted (w.at (process_of c)) c t
            ≡ true
            → takes_part tree w c ≡ true → TakesPart w c.txn t
        by_ticket None c f a up =
            at_root t (subst (λ (d : Case). has_accepted (w.at (process_of d)) d t
            ≡ true) (case_parts c c.txn None refl f) a)
        by_ticket (Some u) c f a up =
            let same = case_parts c c.txn (Some u) refl f in
            below u t (told c.txn u (subst (λ (d : Case). takes_part tree w d ≡ true) same up))
            (subst (λ (d : Case). has_accepted (w.at (process_of d)) d t ≡ true) same a)

    given_by_one : (c d : Case) (t : Ticket) → sent (is_joined_message c t) w.net ≡ true
        → sent (is_joined_message d t) w.net ≡ true → d ≡ c
    given_by_one c d t e f =
        elim (same_case_tells d c) [
          | inl t ↦ t.1
          | inr g ↦ absurd
              (let k = sym g.0 ∙ h.joined_once d c t f e in cc)
        ]

    accepted_by_it : (c : Case) (t : Ticket) → sent (is_joined_message c t) w.net ≡ true → TakesPart w c.txn t
        → (has_accepted (w.at (process_of c)) c t && takes_part tree w c) ≡ true
    accepted_by_it c t e part = by_part c.txn t part e refl
      where
        by_part : (x : Txn) (t : Ticket) → TakesPart w x t → sent (is_joined_message c t) w.net ≡ true
            → c.txn ≡ x
            → (has_accepted (w.at (process_of c)) c t && takes_part tree w c) ≡ true
        by_part x _ (at_root t a) e f =
            let same = given_by_one c (root_case x) t e (accepts tree w h x.root (root_case x) t a).1 in
            subst (λ (d : Case). (has_accepted (w.at (process_of d)) d t && takes_part tree w d) ≡ true) same
            (and _ _ a (at_top x))
        by_part x _ (below u t up a) e f =
            let same = given_by_one c (child_case x u) t e
            (accepts tree w h u.child (child_case x u) t a).1 in
            subst (λ (d : Case). (has_accepted (w.at (process_of d)) d t && takes_part tree w d) ≡ true) same
            (and _ _ a (tells x u up))

    pub part_of : (c : Case) (t : Ticket) → sent (is_joined_message c t) w.net ≡ true
        → takes_part tree w (child_case c.txn t)
        ≡ (has_accepted (w.at (process_of c)) c t && takes_part tree w c)
    part_of c t e = same_test _ _ (λ f. accepted_by_it c t e (told c.txn t f))
        (λ f. let g = both _ _ f in tells c.txn t (accepted_in c t g.0 g.1))
      where
        same_test : (a b : Bool) → (a ≡ true → b ≡ true) → (b ≡ true → a ≡ true) → a ≡ b
        same_test true b f g = sym (f refl)
        same_test false true f g = g refl
        same_test false false f g = refl

-- the two say the same
pub parts : (tree : List TreeProcess) (w : World) → IsTree tree → WorldHolds tree w → (x : Txn) (t : Ticket)
    → TellsPart tree w x t
parts tree w is_tree h x t =
    let s = standing_world tree w h in record
    { told = told tree w s is_tree x t; tells = tells tree w s is_tree x t }
