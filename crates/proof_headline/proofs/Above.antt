-- What the pair above a cascaded case says of it.
use Rattle.std.proofs.Common.{◌≡◌, ◌∙◌, Bool, true, false, Option, Some, None, List, refl, sym, subst, arith}
use Rattle.protocol.specs.declared.names.Case.{Case}
use Rattle.protocol.specs.declared.names.Presumption.{Presumption}
use Rattle.protocol.specs.declared.names.Presumption.TheVariants.{PresumeAbort, PresumeCommit}
use Rattle.protocol.specs.declared.names.Ticket.{Ticket}
use Rattle.protocol.specs.declared.names.Txn.{Txn}
use Rattle.protocol_words.specs.Variants.{AbortedOutcome, CommittedOutcome}
use Rattle.protocol.specs.declared.messages.Message.{Message}
use Rattle.protocol.specs.declared.standings.Standing.{Standing}
use Rattle.protocol.specs.declared.standings.Standing.TheVariants.{Unknown, Active, Collecting, Prepared, Committing, Aborting, Heuristic}
use Rattle.protocol.specs.declared.trees.TreeProcess.{TreeProcess}
use Rattle.protocol.specs.Names.{child_case, process_of}
use Rattle.protocol.specs.Records.{has, is_abort, is_collecting, is_commit, is_end, is_prepare, none_of, owing_by}
use Rattle.protocol.specs.Nodes.{Role, AtRoot, Below, AtLeaf, Node, Place, kept, place_of, role_of}
use Rattle.protocol.specs.Memory.{Phase, Idle, Open, Asked, Over, memory_of}
use Rattle.protocol.specs.Standings.{CoordinatorView, coordinator_standing, coordinator_view, known_view, phase_standing, standing_by}
use Rattle.protocol.specs.Outcomes.{is_commit_outcome, is_joined_message, is_outcome_message, sent}
use Rattle.protocol.specs.Trees.{IsTree}
use Rattle.protocol.specs.World.{World}
use Rattle.proof_pairs.proofs.Chain.{asked, waits}
use Rattle.proof_pairs.proofs.Promises.{abort_refuses, refused_parent, true_commit}
use Rattle.proof_pairs.specs.readings.ReadingOf.{gives_case, is_prepare_message}
use Rattle.proof_processes.specs.ProcessSteps.{Above, FromAbove}
use Rattle.proof_processes.specs.WorldHolds.{IsPair, IsParentRole, WorldHolds, is_about, pair_reading, takes_part}
use Rattle.proof_processes.proofs.GivenCases.{sent_other}
use Rattle.proof_processes.proofs.PairOf.{given}
use Rattle.proof_headline.proofs.Ends.{common}
use Rattle.proof_headline.proofs.Pairs.{below, joined_pair}
use Rattle.proof_headline.proofs.Parts.{case_parts}

-- A Prepared case keeps its promise and no decision.

standing_known : (s : Standing) (v : CoordinatorView) → v.standing ≡ s → (known_view s v).standing ≡ s
standing_known Unknown v e = refl
standing_known Active v e = e
standing_known Collecting v e = e
standing_known Prepared v e = e
standing_known Committing v e = e
standing_known Aborting v e = e
standing_known Heuristic v e = e

pub record IsPrepared (n : Node) (c : Case) : Type 0 where
  pub promised : has (is_prepare c) (kept n) ≡ true
  pub no_commit : has (is_commit c) (kept n) ≡ false
  pub no_abort : has (is_abort c) (kept n) ≡ false

not_prepared : {A : Type 0} (p : Presumption) (f : Phase) → phase_standing p f ≡ Prepared → A
not_prepared PresumeAbort Idle e = absurd (cc)
not_prepared PresumeAbort Open e = absurd (cc)
not_prepared PresumeAbort Asked e = absurd (cc)
not_prepared PresumeAbort Over e = absurd (cc)
not_prepared PresumeCommit Idle e = absurd (cc)
not_prepared PresumeCommit Open e = absurd (cc)
not_prepared PresumeCommit Asked e = absurd (cc)
not_prepared PresumeCommit Over e = absurd (cc)

prepared_by : (e c a p k none : Bool) (heard : Standing) → (heard ≡ Prepared → ⊥)
    → standing_by e c a p k none heard ≡ Prepared → (p ≡ true) × ((c ≡ false) × (a ≡ false))
prepared_by true c a p k none h f e = absurd (cc)
prepared_by false true a p k true h f e = absurd (cc)
prepared_by false true a p k false h f e = absurd (cc)
prepared_by false false true p k true h f e = absurd (cc)
prepared_by false false true p k false h f e = absurd (cc)
prepared_by false false false true k none h f e = (refl, (refl, refl))
prepared_by false false false false true none h f e = absurd (cc)
prepared_by false false false false false none h f e = absurd (f e)

pub is_prepared_so : (place : Place) (n : Node) (c : Case) → (coordinator_view place n c).standing ≡ Prepared
    → IsPrepared n c
unfolding coordinator_view
is_prepared_so place n c e =
    let s = coordinator_standing (kept n) c (memory_of place n c) in
    let f : s ≡ Prepared = sym (standing_known s _ refl) ∙ e in
    let g = prepared_by (has (is_end c) (kept n)) (has (is_commit c) (kept n)) (has (is_abort c) (kept n))
    (has (is_prepare c) (kept n)) (has (is_collecting c) (kept n)) (none_of (owing_by c (kept n)))
    (phase_standing c.txn.presumption (memory_of place n c).phase)
    (not_prepared c.txn.presumption (memory_of place n c).phase) f in
    record { promised = g.0; no_commit = g.1.0; no_abort = g.1.1 }

-- The messages from above.

prepare_about : (d : Case) (m : Message) → is_prepare_message d m ≡ true → is_about d m ≡ true
prepare_about d m e = grind arith

commit_about : (d : Case) (m : Message) → is_outcome_message CommittedOutcome d m ≡ true → is_about d m ≡ true
commit_about d m e = grind arith

abort_about : (d : Case) (m : Message) → is_outcome_message AbortedOutcome d m ≡ true → is_about d m ≡ true
abort_about d m e = grind arith

module _ (tree : List TreeProcess) (is_tree : IsTree tree) (w : World) (h : WorldHolds tree w) where
  abbrev Said : Case → Type 0
  Said c = FromAbove w.net c (coordinator_view (place_of tree (process_of c)) (w.at (process_of c))
      c).standing
      (is_commit_outcome w c.txn) (takes_part tree w c)

  -- of a case whose ticket JOINED gave to this one
  joined_says : (c : Case) (u t : Ticket) → sent (is_joined_message c u) w.net ≡ true
      → IsPair tree (child_case c.txn u) t
      → Said (child_case c.txn u)
  joined_says c u t joined next =
      let d = child_case c.txn u in
      let up = pair_reading tree w c u in
      let down = pair_reading tree w d t in
      let both = below tree w is_tree h c u t (joined_pair tree w h c u joined).0 joined next in
      let k = common tree is_tree w h c u joined in
      let prepared = is_prepared_so (place_of tree u.child) (w.at u.child) d in
      record {
        asked_takes_part = λ e. asked up down k both e;
        commit_is_true = λ e s. let p = prepared s in
            true_commit up k e (waits up down k both p.promised p.no_commit p.no_abort);
        abort_is_true = λ e s. let p = prepared s in
            let r = abort_refuses up k e (waits up down k both p.promised p.no_commit p.no_abort) in
            refused_parent up k r.0 r.1;
      }

  given_says : (x : Txn) (u t : Ticket) → IsPair tree (child_case x u) t
      → sent (gives_case (child_case x u)) w.net ≡ true
      → Said (child_case x u)
  given_says x u t next e =
      let g = given w.net x u e in
      subst (λ (y : Txn). IsPair tree (child_case y u) t → Said (child_case y u)) g.same
      (joined_says g.of u t g.joined) next

  case_says : (x : Txn) (u t : Ticket) → IsPair tree (child_case x u) t → Said (child_case x u)
  case_says x u t next =
      let d = child_case x u in
      let by = λ (q : Message → Bool) (f : (m : Message) → q m ≡ true → is_about d m
      ≡ true) (e : sent q w.net ≡ true).
      given_says x u t next (h.about_given d (sent_other q (is_about d) w.net f e)) in
      record {
        asked_takes_part = λ e. (by (is_prepare_message d) (prepare_about d) e).asked_takes_part e;
        commit_is_true = λ e s. (by (is_outcome_message CommittedOutcome d) (commit_about d)
            e).commit_is_true e s;
        abort_is_true = λ e s. (by (is_outcome_message AbortedOutcome d) (abort_about d) e).abort_is_true e s;
      }

  pub above : (c : Case) (t : Ticket) → IsPair tree c t
      → Above (role_of tree (process_of c)) w.net c
      (coordinator_view (place_of tree (process_of c)) (w.at (process_of c)) c).standing
      (is_commit_outcome w c.txn) (takes_part tree w c)
  above c t pair = by_role (role_of tree (process_of c)) c.ticket refl pair.parent.role
    where
      by_role : (role : Role) (o : Option Ticket) → c.ticket ≡ o → IsParentRole role c.ticket
          → Above role w.net c (coordinator_view (place_of tree (process_of c)) (w.at (process_of c))
          c).standing
          (is_commit_outcome w c.txn) (takes_part tree w c)
      by_role AtRoot o f r = tt
      by_role (AtLeaf p) o f r = tt
      by_role (Below p) None f r = absurd (subst (λ (x : Option Ticket). IsParentRole (Below p) x) f r)
      by_role (Below p) (Some u) f r =
          let same = case_parts c c.txn (Some u) refl f in
          subst Said (sym same) (case_says c.txn u t (subst (λ (d : Case). IsPair tree d t) same pair))
