-- Votes for going on at the pair's own case, on the pair.
use Rattle.std.proofs.Common.{◌≡◌, ◌∙◌, inl, inr, Bool, true, false, ◌||◌, ◌&&◌, Some, None, List, [], ◌∷◌, ◌++◌, refl, sym, ap, subst, arith, if◌then◌else◌}
use Rattle.protocol.specs.declared.names.ProcessId.{ProcessId}
use Rattle.protocol.specs.declared.names.Ticket.{Ticket}
use Rattle.protocol.specs.declared.names.Presumption.{Presumption}
use Rattle.protocol.specs.declared.names.Presumption.TheVariants.{PresumeAbort, PresumeCommit}
use Rattle.protocol.specs.declared.messages.Message.TheVariants.{Read, Commit}
use Rattle.protocol_words.specs.Variants.{CommitRecord, EndRecord, PrepareRecord, VoteYes}
use Rattle.protocol.specs.declared.standings.Vote.{Vote}
use Rattle.protocol.specs.Names.{same_ticket, same_txn}
use Rattle.protocol.specs.NameLaws.{same_txn-refl}
use Rattle.protocol.specs.Records.{has, in_list, none_of, is_prepare, is_commit}
use Rattle.protocol.specs.Memory.{Memory, Asked, Over, all_voted, yes_of, phase_after}
use Rattle.protocol.specs.CoordinatorRows.{Row, quiet, each, posted_up, collecting_read_only, read_only_end, root_commits, cascaded_prepares}
use Rattle.protocol.specs.Outcomes.{sent}
use Rattle.protocol.specs.Reactions.{row_effect, seat_of}
use Rattle.protocol.specs.Standings.{CoordinatorView}
use Rattle.proof_pairs.specs.Reading.{Reading}
use Rattle.proof_pairs.specs.ParentMoves
use Rattle.proof_pairs.specs.RootMoves
use Rattle.proof_pairs.specs.CascadedMoves
use Rattle.proof_pairs.specs.readings.ReadingOf.{ParentHalf, Wire, wire, is_prepare_message}
use Rattle.proof_pairs.proofs.readings.Named.{in_list-yes}
use Rattle.proof_pairs.specs.turns.CoordinatorTurns.{CountsVote, CountsLast, Consents, voted, counting}
use Rattle.proof_pairs.specs.turns.CoordinatorTurns
use Rattle.proof_processes.specs.WorldHolds.{InvariantOf, RoleHolds}
use Rattle.proof_steps.proofs.children.Moves.{common_of}
use Rattle.proof_steps.proofs.parents.Known.{clash}
use Rattle.proof_steps.proofs.parents.Memories.{below_is}
use Rattle.proof_steps.proofs.parents.Moves
use Rattle.proof_steps.proofs.parents.Own
use Rattle.proof_steps.proofs.parents.Own.{Goes, told_so}
use Rattle.proof_steps.proofs.parents.OwnMoves.{own_silent, own_forced, own_plain, and_then, read_as, up_part, from_above_says}
use Rattle.proof_steps.proofs.parents.OwnQuiet.{After, not_childs}
use Rattle.proof_steps.proofs.parents.Readings
use Rattle.proof_steps.proofs.parents.Readings.{Live}
use Rattle.proof_steps.proofs.parents.Tables.{none_in}
use Rattle.proof_steps.proofs.parents.Turns.{Turn, Fine, Fits_in, seen, remembered, half, net_part, told_outcome, at_root}
use Rattle.proof_steps.proofs.parents.Votes
use Rattle.proof_steps.proofs.parents.Wires
use Rattle.proof_steps.proofs.parents.Writes.{did, stands_so, hardens, wrote}

pub goes_on : (w : Vote) → Consents w → (b : Bool) → phase_after w b ≡ (if b then Over else Asked)
goes_on _ CoordinatorTurns.votes_yes b = refl
goes_on _ CoordinatorTurns.votes_read b = refl

and-true : (a : Bool) → (a && true) ≡ a
and-true a = grind arith

and-false : (a : Bool) → (a && false) ≡ false
and-false a = grind arith

module _ (turn : Turn) where
  open turn use {place, parent, seat, n, h, net, c, t, manager, above, k, up, inv, by_role}

  abbrev v0 : Wire
  v0 = net_part turn

  abbrev o0 : Bool
  o0 = told_outcome turn

  abbrev root : Bool
  root = at_root turn

  abbrev v : CoordinatorView
  v = Own.v turn

  abbrev m : Memory
  m = remembered turn

  abbrev F : Reading → Type 0
  F r = Fits_in turn r

  -- a reading of the root's case, or of a cascaded one
  at_literal : (b : Bool) → root ≡ b → (P : Bool → Type 0) → P b → P root
  at_literal b e P x = subst P (sym e) x

  pub asked_takes_part : m.phase ≡ Asked → (p : ProcessId) → parent ≡ Some p → above ≡ true
  asked_takes_part a p s =
      (from_above_says turn p s).asked_takes_part
      (below_is place.role parent seat
      (λ r. RoleHolds r place net n → sent (is_prepare_message c) net ≡ true) p s
      (λ x. x.1.0.asked_was_prepared up c a) by_role)

  module _ (u : Ticket) (w : Vote) where
    abbrev its : Bool
    its = same_ticket u t

    abbrev p1 : ParentHalf
    p1 = Own.heard w its (half turn)

    abbrev r1 : Reading
    r1 = seen turn o0 p1 v0

    pub counts_vote : (i : CountsVote place n h c u w) → Consents w
        → all_voted v.accepted (voted v u w).votes ≡ false
        → After turn (counting u w (quiet (voted v u w)))
        → Fine turn (row_effect c (counting u w (quiet (voted v u w))))
    counts_vote i consents not_all later =
        own_silent turn (counting u w (quiet (voted v u w))) later Asked
        (Votes.vote_says turn u w i Asked
        (goes_on w consents _ ∙ rw (Votes.all_seen turn u w i false not_all) refl)) v0
        (Wires.wire-nothing c t net) p1
        (Own.did_vote turn (row_effect c (counting u w (quiet (voted v u w)))) u w false false (half turn)
        refl refl refl refl) refl
        (read_as turn _ _ (Readings.reading-waits manager above k c t root o0 p1 v0
        (Votes.phase turn u w i) (Votes.alive turn u w i).begun)
        (Votes.hears turn u w i consents))

    module _ (ys : List Ticket) (l : CountsLast place n h c u w ys) where
      pub i : CountsVote place n h c u w
      i = l.vote

      pub all : all_voted m.accepted (Votes.votes turn u w i) ≡ true
      all = Votes.all_seen turn u w i true l.all

      pub ends_votes : Goes turn Over
      ends_votes = Votes.vote_says turn u w i Over (goes_on w l.consents _ ∙ rw all refl)

      pub alive : Live root o0 p1 v0
      alive = Votes.alive turn u w i

      pub heard_it : F r1
      heard_it = Votes.hears turn u w i l.consents

      -- whom YES names
      pub yes_names : in_list ys t ≡ (p1.accepted && p1.first_yes)
      yes_names =
          ap (λ ts. in_list ts t) (sym l.yes)
          ∙ (ap (λ ts. in_list (yes_of ts (voted v u w).votes) t) (Own.collecting_accepted turn i.stands)
          ∙ (ap (λ vs. in_list (yes_of m.accepted (vs ++ (u, w) ∷ [])) t) (Own.collecting_votes turn i.stands)
          ∙ (in_list-yes m.accepted (Votes.votes turn u w i) t
          ∙ ap (λ b. in_list m.accepted t && b) (sym (Votes.heard_now turn u w i VoteYes)))))

      pub all_read : none_of ys ≡ true → p1.accepted ≡ true → p1.first_read ≡ true
      all_read none accepted = elim (Votes.has_vote turn u w i l.consents all accepted) [
        | inl yes_said ↦ clash (in_list ys t) (yes_names ∙ rw (accepted, yes_said) refl) (none_in ys t none)
        | inr read_said ↦ read_said
      ]

      -- All read only.

      abbrev pub read_row : Presumption → Row
      read_row p = counting u w (record (collecting_read_only (seat_of place parent c)) {
        written = read_only_end (seat_of place parent c) p;
      })

      told_read : (p : Presumption) → did (row_effect c (read_row p)) c t (half turn) ≡ p1
      told_read p = Own.did_vote turn (row_effect c (read_row p)) u w false false (half turn) refl refl
          (Own.read_no_commit turn) (Own.read_no_abort turn)

      said_up : (p : ProcessId) → parent ≡ Some p
          → wire c t (net ++ posted_up place.me parent (Read c)) ≡ record v0 { read_up = true }
      said_up p s = ap (λ o. wire c t (net ++ posted_up place.me o (Read c))) s
          ∙ Wires.wire-read_up c t net place.me p (not_childs turn)

      said_nothing : parent ≡ None → wire c t (net ++ posted_up place.me parent (Read c)) ≡ v0
      said_nothing s = ap (λ o. wire c t (net ++ posted_up place.me o (Read c))) s
          ∙ Wires.wire-nothing c t net

      may_read : (p : ProcessId) → parent ≡ Some p → root ≡ false → none_of ys ≡ true
          → CascadedMoves.MayReadUp r1
      may_read p s is_below none = record {
        cascaded = is_below;
        waiting = Votes.phase turn u w i;
        takes_part = up_part turn is_below (asked_takes_part (Votes.asked turn u w i) p s);
        all_read = all_read none;
      }

      may_end : root ≡ true → none_of ys ≡ true → RootMoves.MayEndReadOnly r1
      may_end is_root none = record
          { root = is_root; waiting = Votes.phase turn u w i; all_read = all_read none }

      abbrev X : Bool → ParentHalf → Wire → Reading
      X b q x = Readings.R manager above k c t b o0 q x

      pub reads_only : (p : Presumption) → none_of ys ≡ true → c.txn.presumption ≡ p → After turn (read_row p)
          → Fine turn (row_effect c (read_row p))
      reads_only PresumeAbort none q later =
          Own.seat_is turn
          (λ s is_root. own_silent turn (read_row PresumeAbort) later Over ends_votes v0 (said_nothing s)
          p1 (told_read PresumeAbort) refl
          (read_as turn _ _
          (at_literal true is_root (λ b. Live b o0 p1 v0
          → X b (stands_so false Over p1.accepted p1.acked true p1) v0
          ≡ RootMoves.ends_read_only (X b p1 v0))
          (λ x. Readings.reading-ends manager above k c t o0 p1 v0 x) alive)
          (and_then turn r1 _ heard_it (Moves.ends_read_only c.txn.presumption q r1 heard_it.invariant
          (may_end is_root none)))))
          (λ p s is_below. own_silent turn (read_row PresumeAbort) later Over ends_votes
          (record v0 { read_up = true }) (said_up p s) p1 (told_read PresumeAbort) refl
          (read_as turn _ _
          (at_literal false is_below (λ b. Live b o0 p1 v0
          → X b (stands_so false Over p1.accepted p1.acked true p1) (record v0 { read_up = true })
          ≡ CascadedMoves.reads_up (X b p1 v0))
          (λ x. Readings.reading-reads manager above k c t o0 p1 v0 x) alive)
          (and_then turn r1 _ heard_it (Moves.reads_up c.txn.presumption q r1 heard_it.invariant
          (may_read p s is_below none)))))
      reads_only PresumeCommit none q later =
          let x = has (is_prepare c) n.life in
          Own.seat_is turn
          (λ s is_root. own_plain turn (read_row PresumeCommit) later Over ends_votes v0 (said_nothing s)
          p1 (told_read PresumeCommit) (EndRecord c None) (λ j. refl) refl
          (read_as turn _ _
          (at_literal true is_root (λ b. Live b o0 p1 v0
          → X b (stands_so false Over p1.accepted p1.acked true (wrote (EndRecord c None) c t x p1)) v0
          ≡ RootMoves.ends_read_only_collected (X b p1 v0))
          (λ y. Readings.reading-ends_collected manager above k c t o0 x p1 v0 y) alive)
          (and_then turn r1 _ heard_it (Moves.ends_read_only_collected c.txn.presumption q r1
          heard_it.invariant (may_end is_root none)))))
          (λ p s is_below. own_plain turn (read_row PresumeCommit) later Over ends_votes
          (record v0 { read_up = true }) (said_up p s) p1 (told_read PresumeCommit) (EndRecord c None)
          (λ j. refl) refl
          (read_as turn _ _
          (at_literal false is_below (λ b. Live b o0 p1 v0
          → X b (stands_so false Over p1.accepted p1.acked true (wrote (EndRecord c None) c t x p1))
          (record v0 { read_up = true }) ≡ CascadedMoves.reads_up_collected (X b p1 v0))
          (λ y. Readings.reading-reads_collected manager above k c t o0 x p1 v0 y) alive)
          (and_then turn r1 _ heard_it (Moves.reads_up_collected c.txn.presumption q r1 heard_it.invariant
          (may_read p s is_below none)))))

      -- The root commits.

      forced_first : F (ParentMoves.hardens_parent r1)
      forced_first = and_then turn r1 _ heard_it (Moves.hardens c.txn.presumption r1 heard_it.invariant up)

      pub no_owed : c.txn.presumption ≡ PresumeAbort → p1.owed ≡ false
      no_owed q = by_test p1.owed refl
        where
          stands_for : (pr : Presumption) → pr ≡ PresumeAbort → InvariantOf pr r1 → p1.owed ≡ true
              → p1.commit_kept ≡ true
          stands_for PresumeAbort e j x = j.owed_stands x
          stands_for PresumeCommit e j x = absurd (cc)

          by_test : (b : Bool) → p1.owed ≡ b → p1.owed ≡ false
          by_test false x = x
          by_test true x = clash p1.commit_kept (stands_for c.txn.presumption q heard_it.invariant x)
              alive.no_commit

      pub no_names : p1.names ≡ false
      no_names = by_test p1.names refl
        where
          by_test : (b : Bool) → p1.names ≡ b → p1.names ≡ false
          by_test false x = x
          by_test true x = clash p1.own_prepare_kept
              ((common_of c.txn.presumption r1 heard_it.invariant).names_has_yes x).1 alive.no_prepare

      abbrev pub commit_row : Presumption → Row
      commit_row p = counting u w (root_commits (seat_of place parent c) (voted v u w) ys p)

      told_commit : (p : Presumption) → did (row_effect c (commit_row p)) c t (half turn)
          ≡ told_so true false p1
      told_commit PresumeAbort = Own.did_vote turn (row_effect c (commit_row PresumeAbort)) u w true false
          (half turn) refl refl
          (rw (same_txn-refl c.txn) refl) (and-false (same_txn c.txn c.txn))
      told_commit PresumeCommit = Own.did_vote turn (row_effect c (commit_row PresumeCommit)) u w true
          false (half turn) refl refl
          (rw (same_txn-refl c.txn) refl) (and-false (same_txn c.txn c.txn))

      commits_to : wire c t (net ++ each (seat_of place parent c) Commit ys)
          ≡ record v0 { commit = (p1.accepted && p1.first_yes) || v0.commit }
      commits_to = Wires.wire-commits c t net (seat_of place parent c) ys (p1.accepted && p1.first_yes)
          (rw (same_txn-refl c.txn) yes_names)

      may_decide : root ≡ true → RootMoves.MayDecide (ParentMoves.hardens_parent r1)
      may_decide is_root = record {
        root = is_root;
        waiting = Votes.phase turn u w i;
        all_voted = Votes.has_vote turn u w i l.consents all;
      }

      pub commits : (p : Presumption) → parent ≡ None → c.txn.presumption ≡ p → After turn (commit_row p)
          → Fine turn (row_effect c (commit_row p))
      commits PresumeAbort s q later =
          let x = has (is_prepare c) n.life in
          Own.seat_is turn
          (λ s' is_root. own_forced turn (commit_row PresumeAbort) later Over ends_votes
          (record v0 { commit = (p1.accepted && p1.first_yes) || v0.commit }) commits_to
          (told_so true false p1) (told_commit PresumeAbort)
          (CommitRecord c ys) (λ j. refl) refl
          (read_as turn _ _
          (at_literal true is_root (λ b. Live b o0 p1 v0
          → Readings.R manager above k c t b
          ((b && (is_commit c (CommitRecord c ys) || p1.commit_kept)) || o0)
          (stands_so false Over p1.accepted p1.acked true
          (hardens (wrote (CommitRecord c ys) c t x (told_so true false p1))))
          (record v0 { commit = (p1.accepted && p1.first_yes) || v0.commit })
          ≡ RootMoves.decides_naming (ParentMoves.hardens_parent (X b p1 v0)))
          (λ y. Readings.reading-decides_naming manager above k c t o0 x ys p1 v0 y yes_names (no_owed q))
          alive)
          (and_then turn (ParentMoves.hardens_parent r1) _ forced_first
          (Moves.decides_naming c.txn.presumption q (ParentMoves.hardens_parent r1) forced_first.invariant
          (may_decide is_root)))))
          (λ p s' is_below. absurd (let z = sym s ∙ s' in cc))
      commits PresumeCommit s q later =
          let x = has (is_prepare c) n.life in
          Own.seat_is turn
          (λ s' is_root. own_forced turn (commit_row PresumeCommit) later Over ends_votes
          (record v0 { commit = (p1.accepted && p1.first_yes) || v0.commit }) commits_to
          (told_so true false p1) (told_commit PresumeCommit)
          (CommitRecord c []) (λ j. refl) refl
          (read_as turn _ _
          (at_literal true is_root (λ b. Live b o0 p1 v0
          → Readings.R manager above k c t b
          ((b && (is_commit c (CommitRecord c []) || p1.commit_kept)) || o0)
          (stands_so false Over p1.accepted p1.acked true
          (hardens (wrote (CommitRecord c []) c t x (told_so true false p1))))
          (record v0 { commit = (p1.accepted && p1.first_yes) || v0.commit })
          ≡ RootMoves.decides (ParentMoves.hardens_parent (X b p1 v0)))
          (λ y. Readings.reading-decides manager above k c t o0 x p1 v0 y) alive)
          (and_then turn (ParentMoves.hardens_parent r1) _ forced_first
          (Moves.decides c.txn.presumption q (ParentMoves.hardens_parent r1) forced_first.invariant
          (may_decide is_root)))))
          (λ p s' is_below. absurd (let z = sym s ∙ s' in cc))

      -- A cascaded coordinator promises.

      abbrev pub promise_row : Row
      promise_row = counting u w (cascaded_prepares (seat_of place parent c) (voted v u w) ys)

      pub promises : (p : ProcessId) → parent ≡ Some p → After turn promise_row
          → Fine turn (row_effect c promise_row)
      promises p s later =
          let x = has (is_prepare c) n.life in
          Own.seat_is turn
          (λ s' is_root. absurd (let z = sym s ∙ s' in cc))
          (λ p' s' is_below. own_forced turn promise_row later Over ends_votes v0
          (Wires.wire-silent c t net _ (Wires.silent-yes c t net place.me parent c (not_childs turn))) p1
          (Own.did_vote turn (row_effect c promise_row) u w false false (half turn) refl refl refl refl)
          (PrepareRecord c ys) (λ j. refl) refl
          (read_as turn _ _
          (at_literal false is_below (λ b. Live b o0 p1 v0
          → Readings.R manager above k c t b
          ((b && (is_commit c (PrepareRecord c ys) || p1.commit_kept)) || o0)
          (stands_so false Over p1.accepted p1.acked true (hardens (wrote (PrepareRecord c ys) c t x p1))) v0
          ≡ CascadedMoves.promises (ParentMoves.hardens_parent (X b p1 v0)))
          (λ y. Readings.reading-promises manager above k c t o0 x ys p1 v0 y yes_names no_names) alive)
          (and_then turn (ParentMoves.hardens_parent r1) _ forced_first
          (Moves.promises c.txn.presumption (ParentMoves.hardens_parent r1) forced_first.invariant
          (record {
            cascaded = is_below;
            waiting = Votes.phase turn u w i;
            takes_part = up_part turn is_below (asked_takes_part (Votes.asked turn u w i) p s);
            all_voted = Votes.has_vote turn u w i l.consents all;
          })))))
