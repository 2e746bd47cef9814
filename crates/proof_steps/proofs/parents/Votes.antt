-- A vote that counts at the pair's case, on the pair.
use Rattle.std.proofs.Common.{◌≡◌, ◌∙◌, ◌⊎◌, inl, inr, Bool, true, false, ◌||◌, ◌&&◌, not, List, [], ◌∷◌, ◌++◌, refl, sym, ap, subst, arith}
use Rattle.std.specs.List.{list_any, list_all}
use Rattle.std.proofs.lemmas.List.Folds.{list_any-append}
use Rattle.protocol.specs.declared.names.Ticket.{Ticket}
use Rattle.protocol.specs.declared.messages.Message.{Message}
use Rattle.protocol.specs.declared.standings.Vote.{Vote}
use Rattle.protocol_words.specs.Variants.{VoteNo, VoteRead, VoteYes}
use Rattle.protocol.specs.Names.{same_case, same_ticket, child_case}
use Rattle.protocol.specs.NameLaws.{same_ticket_tells}
use Rattle.protocol.specs.Records.{in_list}
use Rattle.protocol.specs.Memory.{Memory, Phase, Idle, Open, Asked, Over, takes_vote, with_vote, is_counted, all_voted, has_voted, voted_so, phase_after, same_vote}
use Rattle.protocol.specs.Outcomes.{sent, has_heard_vote, is_yes_message, is_read_message}
use Rattle.protocol.specs.Standings.{CoordinatorView}
use Rattle.protocol.specs.Views.{vote_message}
use Rattle.proof_pairs.specs.Reading as pair
use Rattle.proof_pairs.specs.Reading.{Reading}
use Rattle.proof_pairs.specs.Standing.{HasVote}
use Rattle.proof_pairs.specs.readings.ReadingOf.{ParentHalf, is_no_message}
use Rattle.proof_pairs.specs.turns.CoordinatorTurns.{CountsVote, HearsChild, Consents, voted}
use Rattle.proof_pairs.specs.turns.CoordinatorTurns
use Rattle.proof_processes.proofs.Deliveries.{was_sent}
use Rattle.proof_processes.proofs.Tests.{both, either}
use Rattle.proof_steps.proofs.children.Moves.{unmoved, common_of}
use Rattle.proof_steps.proofs.parents.Halves.{acked_of}
use Rattle.proof_steps.proofs.parents.Known.{clash}
use Rattle.proof_steps.proofs.parents.Memories
use Rattle.proof_steps.proofs.parents.Moves
use Rattle.proof_steps.proofs.parents.Own
use Rattle.proof_steps.proofs.parents.Own.{Goes, heard}
use Rattle.proof_steps.proofs.parents.Readings.{Live}
use Rattle.proof_steps.proofs.parents.Turns.{Turn, Fits_in, seen, remembered, then_remembered, half, net_part, told_outcome, reading, at_root}
use Rattle.proof_steps.proofs.parents.Wires.{same_children}

-- Votes in a list.

voted_so-push : (x w : Vote) (vs : List (Ticket × Vote)) (u t : Ticket)
    → voted_so x (vs ++ (u, w) ∷ []) t ≡ (voted_so x vs t || (same_vote x w && same_ticket u t))
unfolding voted_so
voted_so-push x w vs u t = grind (arith, list_any-append)

unvoted : (x : Vote) (vs : List (Ticket × Vote)) (t : Ticket) → has_voted vs t ≡ false → voted_so x vs t
    ≡ false
unfolding voted_so has_voted
unvoted x [] t e = refl
unvoted x (v ∷ vs) t e =
    none_of_both (same_vote x v.1) (same_ticket v.0 t)
    (list_any (λ (y : Ticket × Vote). same_ticket y.0 t) vs) _ e
    (unvoted x vs t)
  where
    none_of_both : (a b d y : Bool) → (b || d) ≡ false → (d ≡ false → y ≡ false) → ((a && b) || y) ≡ false
    none_of_both true true d y g f = absurd (cc)
    none_of_both true false d y g f = f g
    none_of_both false true d y g f = absurd (cc)
    none_of_both false false d y g f = f g

-- who has voted has voted so, or so
voted_some : (vs : List (Ticket × Vote)) (t : Ticket) → has_voted vs t ≡ true
    → (voted_so VoteYes vs t ≡ true) ⊎ ((voted_so VoteNo vs t ≡ true) ⊎ (voted_so VoteRead vs t ≡ true))
unfolding voted_so has_voted
voted_some [] t e = absurd (cc)
voted_some (v ∷ vs) t e = by_vote v.1 (either _ _ e) (voted_some vs t)
  where
    left : (a b : Bool) → a ≡ true → (a || b) ≡ true
    left a b x = rw x refl

    right : (a b : Bool) → b ≡ true → (a || b) ≡ true
    right true b x = refl
    right false b x = x

    rest : (w : Vote) → (voted_so VoteYes vs t ≡ true)
        ⊎ ((voted_so VoteNo vs t ≡ true) ⊎ (voted_so VoteRead vs t ≡ true))
        → (((same_vote VoteYes w && same_ticket v.0 t) || voted_so VoteYes vs t) ≡ true)
        ⊎ ((((same_vote VoteNo w && same_ticket v.0 t) || voted_so VoteNo vs t) ≡ true)
        ⊎ (((same_vote VoteRead w && same_ticket v.0 t) || voted_so VoteRead vs t) ≡ true))
    rest w (inl x) = inl (right _ _ x)
    rest w (inr (inl x)) = inr (inl (right _ _ x))
    rest w (inr (inr x)) = inr (inr (right _ _ x))

    by_vote : (w : Vote) → (same_ticket v.0 t ≡ true)
        ⊎ (list_any (λ (y : Ticket × Vote). same_ticket y.0 t) vs ≡ true)
        → (has_voted vs t ≡ true → (voted_so VoteYes vs t ≡ true)
        ⊎ ((voted_so VoteNo vs t ≡ true) ⊎ (voted_so VoteRead vs t ≡ true)))
        → (((same_vote VoteYes w && same_ticket v.0 t) || voted_so VoteYes vs t) ≡ true)
        ⊎ ((((same_vote VoteNo w && same_ticket v.0 t) || voted_so VoteNo vs t) ≡ true)
        ⊎ (((same_vote VoteRead w && same_ticket v.0 t) || voted_so VoteRead vs t) ≡ true))
    by_vote w (inr y) k = rest w (k y)
    by_vote VoteYes (inl x) k = inl (left _ _ x)
    by_vote VoteNo (inl x) k = inr (inl (left _ _ x))
    by_vote VoteRead (inl x) k = inr (inr (left _ _ x))

-- all have voted
each_voted : (ts : List Ticket) (vs : List (Ticket × Vote)) (t : Ticket) → all_voted ts vs ≡ true
    → in_list ts t ≡ true → has_voted vs t ≡ true
unfolding all_voted in_list
each_voted [] vs t e i = absurd (cc)
each_voted (u ∷ us) vs t e i =
    let f = both (has_voted vs u) (list_all (has_voted vs) us) e in
    elim (either _ _ i) [
      | inl now ↦ same u t now f.0
      | inr rest ↦ each_voted us vs t f.1 rest
    ]
  where
    same : (a b : Ticket) → same_ticket a b ≡ true → has_voted vs a ≡ true → has_voted vs b ≡ true
    same a b x y = elim (same_ticket_tells a b) [
      | inl z ↦ subst (λ (q : Ticket). has_voted vs q ≡ true) z.1 y
      | inr z ↦ clash (same_ticket a b) x z.0
    ]

consents_so : (w : Vote) → Consents w → (w ≡ VoteYes) ⊎ (w ≡ VoteRead)
consents_so _ CoordinatorTurns.votes_yes = inl refl
consents_so _ CoordinatorTurns.votes_read = inr refl

module _ (turn : Turn) where
  open turn use {place, parent, n, h, net, c, t, up, inv, holds, stands}

  abbrev m : Memory
  m = remembered turn

  abbrev m' : Memory
  m' = then_remembered turn

  abbrev p0 : ParentHalf
  p0 = half turn

  abbrev v : CoordinatorView
  v = Own.v turn

  module _ (u : Ticket) (w : Vote) (i : CountsVote place n h c u w) where
    abbrev pub its : Bool
    its = same_ticket u t

    -- the half as the vote is heard
    abbrev pub p1 : ParentHalf
    p1 = heard w its p0

    abbrev pub votes : List (Ticket × Vote)
    votes = m.votes ++ (u, w) ∷ []

    pub asked : m.phase ≡ Asked
    asked = Own.collecting_asked turn i.stands

    pub phase : p0.phase ≡ pair.Collecting
    phase = Own.phase_is turn Asked pair.Collecting asked refl

    pub alive : Live (at_root turn) (told_outcome turn) p1 (net_part turn)
    alive =
        let l = Own.live turn (inr asked) in
        record {
          begun = l.begun;
          live = l.live;
          given = l.given;
          no_commit = l.no_commit;
          undecided = l.undecided;
          no_prepare = l.no_prepare;
          never_promised = l.never_promised;
          no_read = l.no_read;
        }

    pub counted : is_counted m.accepted m.votes u ≡ true
    counted =
        ap (λ ts. is_counted ts m.votes u) (sym (Own.collecting_accepted turn i.stands))
        ∙ (ap (λ vs. is_counted v.accepted vs u) (sym (Own.collecting_votes turn i.stands)) ∙ i.counts)

    -- What is remembered.

    counts_memory : (ph : Phase) → ph ≡ Asked → takes_vote m u w ph ≡ with_vote m u w
    counts_memory Asked e = rw counted refl
    counts_memory Idle e = absurd (cc)
    counts_memory Open e = absurd (cc)
    counts_memory Over e = absurd (cc)

    now : m' ≡ with_vote m u w
    now =
        Memories.vote_comes turn w i.hears.txn u i.hears.hears.0 i.hears.hears.1
        ∙ (rw (Own.of_txn turn i.hears.txn u i.hears.belongs) refl ∙ counts_memory m.phase asked)

    pub vote_says : (ph : Phase) → phase_after w (all_voted m.accepted votes) ≡ ph → Goes turn ph
    vote_says ph e = record {
      phase = ap (λ (y : Memory). y.phase) now ∙ e;
      accepted_so = ap (λ (y : Memory). in_list y.accepted t) now;
      acked_so = ap (λ (y : Memory). acked_of y c t) now;
    }

    pub all_seen : (b : Bool) → all_voted v.accepted (voted v u w).votes ≡ b → all_voted m.accepted votes ≡ b
    all_seen b e =
        ap (λ ts. all_voted ts votes) (sym (Own.collecting_accepted turn i.stands))
        ∙ (ap (λ vs. all_voted v.accepted (vs ++ (u, w) ∷ [])) (sym (Own.collecting_votes turn i.stands)) ∙ e)

    -- The pair's ticket.

    its_is : its ≡ true → u ≡ t
    its_is e = elim (same_ticket_tells u t) [ inl s ↦ s.1 | inr f ↦ clash its e f.0 ]

    its_counted : its ≡ true → is_counted m.accepted m.votes t ≡ true
    its_counted e = subst (λ (x : Ticket). is_counted m.accepted m.votes x ≡ true) (its_is e) counted

    pub its_accepted : its ≡ true → p0.accepted ≡ true
    its_accepted e = (both (in_list m.accepted t) (not (has_voted m.votes t)) (its_counted e)).0

    its_unvoted : its ≡ true → has_voted m.votes t ≡ false
    its_unvoted e = flip (has_voted m.votes t)
        ((both (in_list m.accepted t) (not (has_voted m.votes t)) (its_counted e)).1)
      where
        flip : (b : Bool) → not b ≡ true → b ≡ false
        flip false x = refl
        flip true x = absurd (cc)

    pub votes_now : (x : Vote) → has_heard_vote n c t (same_vote x) ≡ voted_so x m.votes t
    votes_now x = holds.votes up c t x (inr asked)

    pub its_first : its ≡ true → (x : Vote) → has_heard_vote n c t (same_vote x) ≡ false
    its_first e x = votes_now x ∙ unvoted x m.votes t (its_unvoted e)

    its_said : (q : Message → Bool) → its ≡ true
        → q (vote_message w (child_case i.hears.txn u))
        ≡ same_case (child_case i.hears.txn u) (child_case c.txn t)
        → sent q net ≡ true
    its_said q e f =
        was_sent q net place.me h.input i.hears.hears.0 (vote_message w (child_case i.hears.txn u)) stands
        i.hears.hears.1
        (f ∙ (same_children i.hears.txn c.txn u t
        ∙ rw (Own.of_txn turn i.hears.txn u i.hears.belongs, e) refl))

    -- what was heard then
    pub heard_now : (x : Vote) → ((its && same_vote x w) || has_heard_vote n c t (same_vote x))
        ≡ voted_so x votes t
    heard_now x =
        ap (λ b. (its && same_vote x w) || b) (votes_now x)
        ∙ (turned its (same_vote x w) (voted_so x m.votes t)
        ∙ sym (voted_so-push x w m.votes u t))
      where
        turned : (a b d : Bool) → ((a && b) || d) ≡ (d || (b && a))
        turned a b d = grind arith

    -- The move of hearing it.

    pub no_said : w ≡ VoteNo → its ≡ true → (net_part turn).no ≡ true
    no_said f e = its_said (is_no_message (child_case c.txn t)) e
        (ap (λ (x : Vote). is_no_message (child_case c.txn t) (vote_message x (child_case i.hears.txn u))) f)

    hears_by : Consents w → (b : Bool) → its ≡ b
        → Fits_in turn (seen turn (told_outcome turn) (heard w b p0) (net_part turn))
    hears_by k false e = unmoved c.txn.presumption (reading turn) inv
    hears_by k true e = elim (consents_so w k) [
      | inl f ↦ subst (λ (x : Vote). Fits_in turn
          (seen turn (told_outcome turn) (heard x true p0) (net_part turn))) (sym f)
          (Moves.hears_yes c.txn.presumption (reading turn) inv
          (record {
            waiting = phase;
            accepted = its_accepted e;
            said = its_said (is_yes_message (child_case c.txn t)) e
                (ap (λ (x : Vote). is_yes_message (child_case c.txn t)
                (vote_message x (child_case i.hears.txn u))) f);
            first = its_first e VoteRead;
          }))
      | inr f ↦ subst (λ (x : Vote). Fits_in turn
          (seen turn (told_outcome turn) (heard x true p0) (net_part turn))) (sym f)
          (Moves.hears_read c.txn.presumption (reading turn) inv
          (record {
            waiting = phase;
            accepted = its_accepted e;
            said = its_said (is_read_message (child_case c.txn t)) e
                (ap (λ (x : Vote). is_read_message (child_case c.txn t)
                (vote_message x (child_case i.hears.txn u))) f);
            first = its_first e VoteYes;
          }))
    ]

    pub hears : Consents w → Fits_in turn (seen turn (told_outcome turn) p1 (net_part turn))
    hears k = hears_by k its refl

    abbrev pub r1 : Reading
    r1 = seen turn (told_outcome turn) p1 (net_part turn)

    pub no_no : Consents w → p1.first_no ≡ false
    no_no k = ((common_of c.txn.presumption r1 (hears k).invariant).undecided
        (ap pair.is_live phase)).no_first_no

    -- all have voted for it
    pub has_vote : Consents w → all_voted m.accepted votes ≡ true → HasVote r1
    has_vote k all accepted = elim (voted_some votes t (each_voted m.accepted votes t all accepted)) [
      | inl yes_said ↦ inl (heard_now VoteYes ∙ yes_said)
      | inr more ↦ elim more [
        | inl no_said_so ↦ clash p1.first_no (heard_now VoteNo ∙ no_said_so) (no_no k)
        | inr read_said ↦ inr (heard_now VoteRead ∙ read_said)
      ]
    ]
