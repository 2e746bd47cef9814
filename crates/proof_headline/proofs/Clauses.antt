-- Agreement and the commit rule, where the world's invariant holds.
use Rattle.std.proofs.Common.{◌≡◌, ◌∙◌, inl, inr, Bool, true, false, List, refl, sym, ap, subst, arith}
use Rattle.protocol.specs.declared.names.Case.{Case}
use Rattle.protocol.specs.declared.names.Outcome.{Outcome}
use Rattle.protocol_words.specs.Variants.{AbortedOutcome, CommittedOutcome}
use Rattle.protocol.specs.declared.names.Ticket.{Ticket}
use Rattle.protocol.specs.declared.names.Txn.{Txn}
use Rattle.protocol.specs.declared.messages.Envelope.{Envelope}
use Rattle.protocol.specs.declared.records.Record.{Record}
use Rattle.protocol.specs.declared.trees.TreeProcess.{TreeProcess}
use Rattle.protocol.specs.Names.{child_case, process_of}
use Rattle.protocol.specs.Records.{has, is_prepare, is_prepared}
use Rattle.protocol.specs.Nodes.{Role, AtRoot, Below, AtLeaf, Place, Node, is_listed, opened_node, place_of, role_of}
use Rattle.protocol.specs.Outcomes.{Agreement, CommitRule, EndsIn, IsAcceptor, by_root, by_ticket, TakesPart, consents, first_vote, has_accepted, is_commit_outcome, is_joined_message, root_ends, sent}
use Rattle.protocol.specs.Trees.{IsTree}
use Rattle.protocol.specs.World.{IsRun, Made, World}
use Rattle.proof_pairs.specs.Invariant.{Common}
use Rattle.proof_pairs.specs.Reading.{Reading}
use Rattle.proof_pairs.specs.Standing.{VotedFor}
use Rattle.proof_pairs.proofs.Promises.{voted}
use Rattle.proof_pairs.specs.readings.ReadingOf.{gives_case}
use Rattle.proof_processes.specs.Numbers.{IsIssuer}
use Rattle.proof_processes.specs.WorldHolds.{RootHolds, NeverCommits, RoleHolds, WorldHolds, is_record_of, pair_reading}
use Rattle.proof_processes.proofs.PairOf.{given}
use Rattle.proof_processes.proofs.Tests.{either}
use Rattle.proof_processes.proofs.Worlds.{has_other}
use Rattle.proof_processes.proofs.Yesses.{yes_is_forced}
use Rattle.proof_headline.proofs.Ends.{Tells, common, ends, follows_second, issues_in, part, says_abort, says_commit}
use Rattle.proof_headline.proofs.FirstVotes.{first_consents}
use Rattle.proof_headline.proofs.Parts.{accepts, part_joined, standing_world}

-- The records after an end.

prepare_record : (d : Case) (r : Record) → is_prepare d r ≡ true → is_record_of d r ≡ true
prepare_record d r e = grind arith

prepared_record : (d : Case) (r : Record) → is_prepared d r ≡ true → is_record_of d r ≡ true
prepared_record d r e = grind arith

begins_in : (role : Role) (place : Place) (net : List Envelope) (n : Node) → role ≡ AtRoot
    → RoleHolds role place net n → RootHolds place n
begins_in AtRoot place net n f h = h.1
begins_in (Below p) place net n f h = absurd (cc)
begins_in (AtLeaf p) place net n f h = absurd (cc)

module _ (tree : List TreeProcess) (is_tree : IsTree tree) (w : World) (h : WorldHolds tree w) where
  -- Agreement of the root.

  never : (x : Txn) → RootHolds (place_of tree x.root) (w.at x.root)
      → root_ends (w.at x.root) x AbortedOutcome ≡ true
      → NeverCommits (place_of tree x.root) (w.at x.root) x
  never x b e = elim (either _ _ e) [
    | inl now ↦ elim (either _ _ now) [
      | inl aborted ↦ b.aborted_never_commits x aborted
      | inr told ↦ b.told_never_commits x told
    ]
    | inr found ↦ b.found_undecided_never_commits x found
  ]

  root_agrees : (x : Txn) (o : Outcome) → role_of tree x.root ≡ AtRoot → root_ends (w.at x.root) x o ≡ true
      → Tells w x o
  unfolding is_commit_outcome has
  root_agrees x CommittedOutcome f e = says_commit w x e
  root_agrees x AbortedOutcome f e = by_listed (is_listed tree x.root) refl
    where
      opened_ends : {A : Type 0} (n : Node) → n ≡ opened_node → root_ends n x AbortedOutcome ≡ true → A
      opened_ends n same e = absurd
          (let y = subst (λ (k : Node). root_ends k x AbortedOutcome ≡ true) same e in cc)

      by_listed : (b : Bool) → is_listed tree x.root ≡ b → Tells w x AbortedOutcome
      by_listed true l = says_abort w x
          (never x (begins_in (role_of tree x.root) (place_of tree x.root) w.net (w.at x.root) f (h.nodes
          x.root l).role) e).none_ever
      by_listed false l = opened_ends (w.at x.root) (h.unlisted x.root l) e

  -- Agreement of the others.

  given_by_record : (x : Txn) (t : Ticket) → is_listed tree t.child ≡ true → IsIssuer (role_of tree t.child)
      → has (is_record_of (child_case x t)) (w.at t.child).life ≡ true
      → sent (gives_case (child_case x t)) w.net ≡ true
  given_by_record x t l i e = ((issues_in (role_of tree t.child) (place_of tree t.child) w.net
      (w.at t.child) i
      (h.nodes t.child l).role).recorded_is_given (child_case x t) e).1

  -- who ends a transaction was given a case of it
  record Joined (x : Txn) (t : Ticket) : Type 0 where
    of : Case
    same : of.txn ≡ x
    joined : sent (is_joined_message of t) w.net ≡ true

  joined_by_part : (x : Txn) (t : Ticket) → TakesPart w x t → Joined x t
  joined_by_part x t e =
      let j = part_joined tree w (standing_world tree w h) x t e in record
      { of = j.0; same = j.1.0; joined = j.1.1 }

  joined_by_record : (q : Record → Bool) (x : Txn) (t : Ticket) → IsIssuer (role_of tree t.child)
      → ((r : Record) → q r ≡ true → is_record_of (child_case x t) r ≡ true) → has q opened_node.life ≡ false
      → has q (w.at t.child).life ≡ true → Joined x t
  joined_by_record q x t i f none e = by_listed (is_listed tree t.child) refl
    where
      by_listed : (b : Bool) → is_listed tree t.child ≡ b → Joined x t
      by_listed true l =
          let g = given w.net x t
          (given_by_record x t l i (has_other q (is_record_of (child_case x t)) (w.at t.child).life f e)) in
          record { of = g.of; same = g.same; joined = g.joined }
      by_listed false l =
          absurd (let y = sym none ∙ subst (λ (k : Node). has q k.life ≡ true) (h.unlisted t.child l) e in cc)

  ends_joined : (x : Txn) (t : Ticket) (role : Role) → role_of tree t.child ≡ role → (o : Outcome)
      → EndsIn role tree w x t o → Joined x t
  unfolding has
  ends_joined x t AtRoot f o e = absurd (e)
  ends_joined x t (Below p) f CommittedOutcome e =
      joined_by_record (is_prepare (child_case x t)) x t (subst IsIssuer (sym f) tt) (prepare_record
      (child_case x t)) refl
      (follows_second _ _ (w.at t.child).life e)
  ends_joined x t (Below p) f AbortedOutcome e =
      joined_by_record (is_prepare (child_case x t)) x t (subst IsIssuer (sym f) tt) (prepare_record
      (child_case x t)) refl
      (follows_second _ _ (w.at t.child).life e)
  ends_joined x t (AtLeaf p) f CommittedOutcome (inl e) =
      joined_by_record (is_prepared (child_case x t)) x t (subst IsIssuer (sym f) tt) (prepared_record
      (child_case x t)) refl
      (follows_second _ _ (w.at t.child).life e)
  ends_joined x t (AtLeaf p) f AbortedOutcome (inl e) =
      joined_by_record (is_prepared (child_case x t)) x t (subst IsIssuer (sym f) tt) (prepared_record
      (child_case x t)) refl
      (follows_second _ _ (w.at t.child).life e)
  ends_joined x t (AtLeaf p) f o (inr e) = joined_by_part x t e.1.takes_part

  others_agree : (x : Txn) (t : Ticket) (o : Outcome) → EndsIn (role_of tree t.child) tree w x t o
      → Tells w x o
  others_agree x t o e =
      let j = ends_joined x t (role_of tree t.child) refl o e in
      subst (λ (z : Txn). EndsIn (role_of tree t.child) tree w z t o → Tells w z o) j.same
      (ends tree is_tree w h j.of t j.joined (role_of tree t.child) refl o) e

  pub agreement : Agreement tree w
  agreement = record { root_agrees = root_agrees; others_agree = others_agree }

  -- The commit rule.

  acceptor_joined : (x : Txn) (t : Ticket) (c : Case) → IsAcceptor w x t c
      → (c.txn ≡ x) × (has_accepted (w.at (process_of c)) c t ≡ true)
  acceptor_joined x t _ (by_root e) = (refl, e)
  acceptor_joined x t _ (by_ticket u e) = (refl, e)

  no_first_no : (r : Reading) → Common r → VotedFor r → r.first_no ≡ false
  no_first_no r k v = grind arith

  all_consented : (x : Txn) (t : Ticket) (c : Case) → is_commit_outcome w x ≡ true → TakesPart w x t
      → IsAcceptor w x t c
      → consents (first_vote (w.at (process_of c)).voted c t) ≡ true
  all_consented x t c committed p a =
      let f = acceptor_joined x t c a in
      let joined = (accepts tree w (standing_world tree w h) (process_of c) c t f.1).1 in
      let r = pair_reading tree w c t in
      let k = common tree is_tree w h c t joined in
      let up = part tree is_tree w h c t joined (subst (λ (y : Txn). TakesPart w y t) (sym f.0) p) in
      let v = voted r k (ap (is_commit_outcome w) f.0 ∙ committed) up.1 up.0 in
      first_consents c t (w.at (process_of c)).voted v (no_first_no r k v)

pub commit_rule : (tree : List TreeProcess) (es : List Made) (w : World) → IsTree tree → IsRun tree es w
    → WorldHolds tree w
    → CommitRule tree es w
commit_rule tree es w is_tree run h =
    record { all_consented = all_consented tree is_tree w h; yes_is_forced = yes_is_forced tree es w run }
