-- Of each ticket a coordinator's history has the vote that the case heard first while it collected votes, and
-- no other.
use Rattle.std.proofs.Common.{◌≡◌, ◌∙◌, ◌&&◌, ◌||◌, ◌⊎◌, inl, inr, ℕ, zero, suc, Bool, true, false, not, Option, Some, None, List, [], ◌∷◌, ◌++◌, refl, sym, ap, subst, arith, if◌then◌else◌}
use Rattle.std.proofs.lemmas.List.Folds.{list_any-append}
use Rattle.std.specs.List.{list_any}
use Rattle.protocol.specs.declared.names.Case.{Case}
use Rattle.protocol.specs.declared.names.ProcessId.{ProcessId}
use Rattle.protocol.specs.declared.names.Ticket.{Ticket}
use Rattle.protocol.specs.declared.names.Txn.{Txn}
use Rattle.protocol.specs.declared.standings.Standing.{Standing}
use Rattle.protocol.specs.declared.standings.Standing.TheVariants.{Collecting}
use Rattle.protocol.specs.declared.standings.Vote.{Vote}
use Rattle.protocol_words.specs.Variants.{Handles, MessageInput, VoteNo, VoteRead, VoteYes}
use Rattle.protocol.specs.declared.events.Input.{Input}
use Rattle.protocol.specs.declared.events.StepError.TheVariants.{NoSuch}
use Rattle.protocol.specs.declared.trees.TreeProcess.{TreeProcess}
use Rattle.protocol.specs.Names.{child_case, same_case, same_ticket}
use Rattle.protocol.specs.NameLaws.{same_case-refl, same_ticket-refl, same_ticket_tells}
use Rattle.protocol.specs.Records.{in_list}
use Rattle.protocol.specs.Nodes.{Role, AtRoot, Below, AtLeaf, IsCoordinator, Place, Node, Heard, Effect, kept, place_of, role_of}
use Rattle.protocol.specs.Memory.{has_voted, is_counted, memory_of, same_vote, voted_so}
use Rattle.protocol.specs.Outcomes.{first_vote, vote_in}
use Rattle.protocol.specs.Standings.{CoordinatorView, case_of_child, coordinator_view, view_at}
use Rattle.protocol.specs.CoordinatorRows.{on_vote}
use Rattle.protocol.specs.Reactions.{Does, Refused, act_is_listed, handles, is_passed_over, reacts, row_effect, seat_of, vote_for}
use Rattle.protocol.specs.Restarts.{trim_fails}
use Rattle.protocol.specs.Views.{vote_message}
use Rattle.protocol.specs.World.{IsRun, Made, Move, World, made_by, node_by}
use Rattle.proof_pairs.specs.turns.CoordinatorTurns.{CountsVote, HearsChild}
use Rattle.proof_pairs.specs.turns.Steps.{StepOf, heard_in, handled, failed_in, passed, failed_passing, reopened, failed_reopening, trims_log, failed_trimming}
use Rattle.proof_pairs.proofs.turns.Steps.{turn_of}
use Rattle.proof_processes.proofs.Cases.{viewed}
use Rattle.proof_processes.proofs.CoordinatorAccepts.{turn_here}
use Rattle.proof_processes.proofs.CoordinatorKept.{Coordinated, IsLive}
use Rattle.proof_processes.proofs.CoordinatorsHold.{all_coordinated}
use Rattle.proof_processes.proofs.Remembering.{coordinator_place, role_below}
use Rattle.proof_processes.proofs.RowCounts.{HeardSo, effect_counts}
use Rattle.proof_processes.proofs.Tests.{both, case_is, either, left, right}
use Rattle.proof_worked.specs.Histories.{HeardFirst, HeardVote, HearsVote}
use Rattle.proof_worked.proofs.OverRuns.{over_run}

-- Lists of votes.

ticket_is : (a b : Ticket) → same_ticket a b ≡ true → a ≡ b
ticket_is a b f = elim (same_ticket_tells a b) [ inl x ↦ x.1 | inr y ↦ absurd (let z = y.0 in cc) ]

vote_is : (a b : Vote) → same_vote a b ≡ true → a ≡ b
vote_is VoteYes VoteYes e = refl
vote_is VoteNo VoteNo e = refl
vote_is VoteRead VoteRead e = refl
vote_is a b e = absurd (cc)

vote_same : (a : Vote) → same_vote a a ≡ true
vote_same VoteYes = refl
vote_same VoteNo = refl
vote_same VoteRead = refl

or_nothing : (x : Bool) → (x || false) ≡ true → x ≡ true
or_nothing x y = grind arith

-- the first vote, else the second
abbrev or_later : Option Vote → Option Vote → Option Vote
or_later (Some v) o = Some v
or_later None o = o

module _ (c : Case) (t : Ticket) where
  -- votes that come later are in front
  first-append : (xs ys : List (Case × (Ticket × Vote)))
      → first_vote (xs ++ ys) c t ≡ or_later (first_vote ys c t) (first_vote xs c t)
  unfolding first_vote
  first-append [] ys = by_first (first_vote ys c t)
    where
      by_first : (o : Option Vote) → o ≡ or_later o None
      by_first (Some v) = refl
      by_first None = refl
  first-append (x ∷ xs) ys = ap (vote_in x c t) (first-append xs ys) ∙ by_first (first_vote ys c t)
    where
      by_first : (o : Option Vote)
          → vote_in x c t (or_later o (first_vote xs c t)) ≡ or_later o (vote_in x c t (first_vote xs c t))
      by_first (Some v) = refl
      by_first None = refl

  first_stays : (xs ys : List (Case × (Ticket × Vote))) (v : Vote) → first_vote ys c t ≡ Some v
      → first_vote (xs ++ ys) c t ≡ Some v
  first_stays xs ys v e = first-append xs ys ∙ ap (λ o. or_later o (first_vote xs c t)) e

  first_later : (xs ys : List (Case × (Ticket × Vote))) → first_vote ys c t ≡ None
      → first_vote (xs ++ ys) c t ≡ first_vote xs c t
  first_later xs ys e = first-append xs ys ∙ ap (λ o. or_later o (first_vote xs c t)) e

  in_front : (a b : Bool) (w v : Vote) → (if a && b then Some w else None) ≡ Some v
      → (a && (b && same_vote v w)) ≡ true
  in_front true true w v e = subst (λ (x : Vote). same_vote v x ≡ true) (sym (some_is w v e)) (vote_same v)
    where
      some_is : (x y : Vote) → Some x ≡ Some y → x ≡ y
      some_is x y f = cc
  in_front true false w v e = absurd (cc)
  in_front false b w v e = absurd (cc)

  -- the first vote was heard
  pub first_is_heard : (xs : List (Case × (Ticket × Vote))) (v : Vote) → first_vote xs c t ≡ Some v
      → HeardSo c t (same_vote v) xs
  unfolding first_vote
  first_is_heard [] v e = absurd (cc)
  first_is_heard (x ∷ xs) v e = by_rest (first_is_heard xs v) (first_vote xs c t) refl e
    where
      by_rest : (first_vote xs c t ≡ Some v → HeardSo c t (same_vote v) xs) → (o : Option Vote)
          → first_vote xs c t ≡ o → vote_in x c t o ≡ Some v → HeardSo c t (same_vote v) (x ∷ xs)
      by_rest more (Some u) f g = right _ _ (more (f ∙ g))
      by_rest more None f g = left _ _ (in_front (same_case x.0 c) (same_ticket x.1.0 t) x.1.1 v g)

  none_in_front : (a b d : Bool) (w : Vote) → (if a && b then Some w else None) ≡ None
      → (a && (b && d)) ≡ true → ⊥
  none_in_front true true d w e f = cc
  none_in_front true false d w e f = cc
  none_in_front false b d w e f = cc

  -- if there is no first vote none was heard
  none_is_heard : (q : Vote → Bool) (xs : List (Case × (Ticket × Vote))) → first_vote xs c t ≡ None
      → HeardSo c t q xs → ⊥
  unfolding first_vote
  none_is_heard q [] e f = cc
  none_is_heard q (x ∷ xs) e f = by_rest (none_is_heard q xs) (first_vote xs c t) refl e (either _ _ f)
    where
      by_rest : (first_vote xs c t ≡ None → HeardSo c t q xs → ⊥) → (o : Option Vote) → first_vote xs c t ≡ o
          → vote_in x c t o ≡ None
          → ((same_case x.0 c && (same_ticket x.1.0 t && q x.1.1)) ≡ true) ⊎ HeardSo c t q xs → ⊥
      by_rest more (Some u) g h k = cc
      by_rest more None g h (inl now) = none_in_front (same_case x.0 c) (same_ticket x.1.0 t)
          (q x.1.1) x.1.1 h now
      by_rest more None g h (inr rest) = more g rest

-- a ticket that has voted has voted so
voted_as : (t : Ticket) (vs : List (Ticket × Vote)) → has_voted vs t ≡ true → (u : Vote)
    × (voted_so u vs t ≡ true)
unfolding has_voted voted_so
voted_as t [] e = absurd (cc)
voted_as t (v ∷ vs) e = by_either (voted_as t vs) (either (same_ticket v.0 t) (has_voted vs t) e)
  where
    same_too : (a b : Bool) → a ≡ true → b ≡ true → (a && b) ≡ true
    same_too a b f g = grind arith

    by_either : (has_voted vs t ≡ true → (u : Vote) × (voted_so u vs t ≡ true))
        → (same_ticket v.0 t ≡ true) ⊎ (has_voted vs t ≡ true) → (u : Vote) × (voted_so u (v ∷ vs) t ≡ true)
    by_either more (inl now) = (
      v.1,
      left (same_vote v.1 v.1 && same_ticket v.0 t) (voted_so v.1 vs t)
          (same_too (same_vote v.1 v.1) (same_ticket v.0 t) (vote_same v.1) now),
    )
    by_either more (inr rest) =
        let r = more rest in
        (r.0, right (same_vote r.0 v.1 && same_ticket v.0 t) (voted_so r.0 vs t) r.1)

voted_at_all : (t : Ticket) (u : Vote) (vs : List (Ticket × Vote)) → voted_so u vs t ≡ true
    → has_voted vs t ≡ true
unfolding has_voted voted_so
voted_at_all t u [] e = absurd (cc)
voted_at_all t u (v ∷ vs) e =
    by_either (voted_at_all t u vs) (either (same_vote u v.1 && same_ticket v.0 t) (voted_so u vs t) e)
  where
    by_either : (voted_so u vs t ≡ true → has_voted vs t ≡ true)
        → ((same_vote u v.1 && same_ticket v.0 t) ≡ true) ⊎ (voted_so u vs t ≡ true)
        → has_voted (v ∷ vs) t ≡ true
    by_either more (inl now) =
        left (same_ticket v.0 t) (has_voted vs t) (both (same_vote u v.1) (same_ticket v.0 t) now).1
    by_either more (inr rest) = right (same_ticket v.0 t) (has_voted vs t) (more rest)

-- One input.

-- a vote is answered by its row
reacts_vote : (me : ProcessId) (parent : Option ProcessId) (tree : List TreeProcess) (n : Node) (h : Heard)
    → n.failed ≡ false → (k : ℕ) (y : Txn) (u : Ticket) (w : Vote)
    → h.input ≡ MessageInput k (vote_message w (child_case y u))
    → let place = coordinator_place me parent tree in
    reacts place n h ≡ Does (vote_for place parent n u w (case_of_child place n y u))
unfolding reacts
reacts_vote me parent tree n h up k y u w i =
    let place = coordinator_place me parent tree in
    subst (λ (x : Input). (if act_is_listed tree x then handles place n h x else Refused NoSuch)
    ≡ Does (vote_for place parent n u w (case_of_child place n y u))) (sym i) (by_vote parent w)
  where
    by_vote : (o : Option ProcessId) (z : Vote)
        → (if act_is_listed tree (MessageInput k (vote_message z (child_case y u)))
        then handles (coordinator_place me o tree) n h (MessageInput k (vote_message z (child_case y u)))
        else Refused NoSuch)
        ≡ Does (vote_for (coordinator_place me o tree) o n u z
        (case_of_child (coordinator_place me o tree) n y u))
    by_vote None VoteYes = rw up refl
    by_vote None VoteNo = rw up refl
    by_vote None VoteRead = rw up refl
    by_vote (Some p) VoteYes = rw up refl
    by_vote (Some p) VoteNo = rw up refl
    by_vote (Some p) VoteRead = rw up refl

row_counts : (me : ProcessId) (parent : Option ProcessId) (tree : List TreeProcess) (c : Case)
    (u : Ticket) (w : Vote)
    (v : CoordinatorView) (s : Standing) → s ≡ Collecting → is_counted v.accepted v.votes u ≡ true
    → (row_effect c (on_vote (seat_of (coordinator_place me parent tree) parent c) u w v s)).counts
    ≡ (c, (u, w)) ∷ []
row_counts me parent tree c u w v Collecting f g = rw g refl
row_counts me parent tree c u w v s f g = absurd (cc)

module _ (me : ProcessId) (parent : Option ProcessId) (tree : List TreeProcess) (n : Node)
    (old : Coordinated (coordinator_place me parent tree) n) (m : Move) (c : Case) (t : Ticket)
  where
    abbrev place : Place
    place = coordinator_place me parent tree

    abbrev v0 : CoordinatorView
    v0 = coordinator_view (coordinator_place me parent tree) n c

    -- what a move does to the first vote
    record Steps (k : Node) : Type 0 where
      stays : (v : Vote) → first_vote n.voted c t ≡ Some v → first_vote k.voted c t ≡ Some v
      now : (v : Vote) → first_vote n.voted c t ≡ None → first_vote k.voted c t ≡ Some v
          → HearsVote (coordinator_place me parent tree) n m c t v
      heard : (v : Vote) → HearsVote (coordinator_place me parent tree) n m c t v
          → first_vote n.voted c t ≡ None
          → first_vote k.voted c t ≡ Some v
      once : (v : Vote) → HeardSo c t (same_vote v) k.voted
          → HeardSo c t (same_vote v) n.voted ⊎ (first_vote k.voted c t ≡ Some v)

    not_both : (v : Vote) → first_vote n.voted c t ≡ None → first_vote n.voted c t ≡ Some v → ⊥
    not_both v f g = cc

    quiet : (k : Node) → k.voted ≡ n.voted
        → ((v : Vote) → HearsVote (coordinator_place me parent tree) n m c t v → ⊥) → Steps k
    quiet k e f = record {
      stays = λ v g. ap (λ vs. first_vote vs c t) e ∙ g;
      now = λ v g h. absurd (not_both v g (ap (λ vs. first_vote vs c t) (sym e) ∙ h));
      heard = λ v h g. absurd (f v h);
      once = λ v h. inl (subst (HeardSo c t (same_vote v)) e h);
    }

    collecting_votes_here : (coordinator_view (coordinator_place me parent tree) n c).standing ≡ Collecting
        → (coordinator_view (coordinator_place me parent tree) n c).votes
        ≡ (memory_of (coordinator_place me parent tree) n c).votes
    unfolding coordinator_view
    collecting_votes_here f =
        ap (λ q. (view_at q (kept n) c (memory_of place n c)).votes) (sym (viewed place n c) ∙ f)

    -- what the case has heard is what it remembers
    remembered : n.failed ≡ false → (coordinator_view (coordinator_place me parent tree) n c).standing
        ≡ Collecting
        → (u : Vote) → list_any (λ a. same_case a.0 c && (same_ticket a.1.0 t && same_vote u a.1.1)) n.voted
        ≡ voted_so u (coordinator_view (coordinator_place me parent tree) n c).votes t
    remembered up s u =
        old.votes up c
        (subst IsLive (sym ((old.together up c).collecting_is_asked (sym (viewed place n c) ∙ s))) tt) t u
        ∙ ap (λ vs. voted_so u vs t) (sym (collecting_votes_here s))

    -- a vote that the case hears counts if none was heard
    counts_if_none : n.failed ≡ false
        → (coordinator_view (coordinator_place me parent tree) n c).standing ≡ Collecting
        → in_list (coordinator_view (coordinator_place me parent tree) n c).accepted t ≡ true
        → first_vote n.voted c t ≡ None
        → is_counted (coordinator_view (coordinator_place me parent tree) n c).accepted
        (coordinator_view (coordinator_place me parent tree) n c).votes t ≡ true
    counts_if_none up s a none = by_test (has_voted v0.votes t) refl
      where
        by_test : (b : Bool) → has_voted (coordinator_view (coordinator_place me parent tree) n c).votes t ≡ b
            → (in_list (coordinator_view (coordinator_place me parent tree) n c).accepted t
            && not (has_voted (coordinator_view (coordinator_place me parent tree) n c).votes t)) ≡ true
        by_test true f =
            let r = voted_as t v0.votes f in
            absurd (none_is_heard c t (same_vote r.0) n.voted none (remembered up s r.0 ∙ r.1))
        by_test false f = rw (a, f) refl

    -- and where it counts none was heard
    none_if_counts : n.failed ≡ false
        → (coordinator_view (coordinator_place me parent tree) n c).standing ≡ Collecting
        → is_counted (coordinator_view (coordinator_place me parent tree) n c).accepted
        (coordinator_view (coordinator_place me parent tree) n c).votes t ≡ true
        → first_vote n.voted c t ≡ None
    none_if_counts up s f = by_first (first_vote n.voted c t) refl
      where
        not_true : (b : Bool) → b ≡ true → not b ≡ true → ⊥
        not_true b g h = cc

        by_first : (o : Option Vote) → first_vote n.voted c t ≡ o → first_vote n.voted c t ≡ None
        by_first None g = g
        by_first (Some u) g = absurd (not_true (has_voted v0.votes t)
            (voted_at_all t u v0.votes (sym (remembered up s u) ∙ first_is_heard c t n.voted u g))
            (both (in_list v0.accepted t) (not (has_voted v0.votes t)) f).1)

    does_so : (g e : Effect) → Does g ≡ Does e → g ≡ e
    does_so g e q = cc

    input_is : (i j : Input) → Handles i ≡ Handles j → i ≡ j
    input_is i j q = cc

    counts_now : (h : Heard) (e : Effect) → n.failed ≡ false
        → reacts (coordinator_place me parent tree) n h ≡ Does e
        → (v : Vote) → CountsVote (coordinator_place me parent tree) n h c t v → e.counts ≡ (c, (t, v)) ∷ []
    counts_now h e up r v x =
        let y = x.hears.txn in
        let same : vote_for place parent n t v (Some c) ≡ e =
        does_so (vote_for place parent n t v (Some c)) e
        (sym (reacts_vote me parent tree n h up x.hears.hears.0 y t v x.hears.hears.1
        ∙ ap (λ (o : Option Case). Does (vote_for place parent n t v o)) x.hears.belongs) ∙ r) in
        ap (λ (g : Effect). g.counts) (sym same)
        ∙ row_counts me parent tree c t v v0 v0.standing x.stands x.counts

    one_first : (v : Vote) → first_vote ((c, (t, v)) ∷ []) c t ≡ Some v
    unfolding first_vote
    one_first v = rw (same_case-refl c, same_ticket-refl t) refl

    counted_so : (h : Heard) (e : Effect) → reacts (coordinator_place me parent tree) n h ≡ Does e
        → (v : Vote)
        → HeardSo c t (same_vote v) e.counts → CountsVote (coordinator_place me parent tree) n h c t v
    counted_so h e r v f =
        effect_counts place parent n h c t (same_vote v)
        (CountsVote (coordinator_place me parent tree) n h c t v)
        one e (turn_here me parent tree n h e r) f
      where
        one : (d : Case) (u : Ticket) (w : Vote) → CountsVote (coordinator_place me parent tree) n h d u w
            → HeardSo c t (same_vote v) ((d, (u, w)) ∷ []) → CountsVote (coordinator_place me parent tree) n h
            c t v
        one d u w i g =
            let a = both (same_case d c) (same_ticket u t && same_vote v w) (or_nothing _ g) in
            let b = both (same_ticket u t) (same_vote v w) a.1 in
            subst (λ (x : Case). CountsVote (coordinator_place me parent tree) n h x t v) (case_is d c a.0)
            (subst (λ (x : Ticket). CountsVote (coordinator_place me parent tree) n h d x v)
            (ticket_is u t b.0)
            (subst (λ (x : Vote). CountsVote (coordinator_place me parent tree) n h d u x)
            (sym (vote_is v w b.1)) i))

    heard_of : (i : Input) → m.step.happening ≡ Handles i → n.failed ≡ false → (v : Vote)
        → CountsVote (coordinator_place me parent tree) n (heard_in m i) c t v
        → HearsVote (coordinator_place me parent tree) n m c t v
    heard_of i hp up v x = record {
      up = up;
      input = i;
      handles = hp;
      comes = x.hears;
      collects = x.stands;
      accepted = (both (in_list v0.accepted t) (not (has_voted v0.votes t)) x.counts).0;
    }

    counts_of : (i : Input) → m.step.happening ≡ Handles i → (v : Vote)
        → HearsVote (coordinator_place me parent tree) n m c t v → first_vote n.voted c t ≡ None
        → CountsVote (coordinator_place me parent tree) n (heard_in m i) c t v
    counts_of i hp v x none = record {
      hears = subst (λ (y : Input). HearsChild (coordinator_place me parent tree) n (heard_in m y) c t
          (vote_message v))
          (input_is x.input i (sym x.handles ∙ hp)) x.comes;
      stands = x.collects;
      counts = counts_if_none x.up x.collects x.accepted none;
    }

    handles_so : (k : Node) (i : Input) (g : Effect) → m.step.happening ≡ Handles i
        → reacts (coordinator_place me parent tree) n (heard_in m i) ≡ Does g
        → k.voted ≡ g.counts ++ n.voted → Steps k
    handles_so k i g hp r e =
        let up = (turn_of place n (heard_in m i) g r).up in
        record {
          stays = λ v f. ap (λ vs. first_vote vs c t) e ∙ first_stays c t g.counts n.voted v f;
          now = λ v none f. heard_of i hp up v
              (counted_so (heard_in m i) g r v (first_is_heard c t g.counts v
              (sym (first_later c t g.counts n.voted none) ∙ (ap (λ vs. first_vote vs c t) (sym e) ∙ f))));
          heard = λ v x none. first_now up v none (counts_of i hp v x none);
          once = λ v f. elim (either _ _
              (sym (list_any-append _ g.counts n.voted) ∙ subst (HeardSo c t (same_vote v)) e f)) [
                | inl fresh ↦
                    let x = counted_so (heard_in m i) g r v fresh in
                    inr (first_now up v (none_if_counts up x.stands x.counts) x)
                | inr before ↦ inl before
              ];
        }
      where
        first_now : n.failed ≡ false → (v : Vote) → first_vote n.voted c t ≡ None
            → CountsVote (coordinator_place me parent tree) n (heard_in m i) c t v
            → first_vote k.voted c t ≡ Some v
        first_now up v none x =
            ap (λ vs. first_vote vs c t) e
            ∙ (first_later c t g.counts n.voted none
            ∙ (ap (λ vs. first_vote vs c t) (counts_now (heard_in m i) g up r v x) ∙ one_first v))

    -- a vote is never passed over
    not_passed : (i : Input) → m.step.happening ≡ Handles i
        → is_passed_over (coordinator_place me parent tree) n i ≡ true
        → (v : Vote) → HearsVote (coordinator_place me parent tree) n m c t v → ⊥
    not_passed i hp r v x =
        let same : i ≡ MessageInput x.comes.hears.0 (vote_message v (child_case x.comes.txn t)) =
        sym (input_is x.input i (sym x.handles ∙ hp)) ∙ x.comes.hears.1 in
        by_vote parent v (ap (is_passed_over (coordinator_place me parent tree) n) (sym same) ∙ r)
      where
        by_vote : (o : Option ProcessId) (w : Vote)
            → is_passed_over (coordinator_place me o tree) n
            (MessageInput x.comes.hears.0 (vote_message w (child_case x.comes.txn t))) ≡ true → ⊥
        by_vote None w f = cc
        by_vote (Some p) VoteYes f = cc
        by_vote (Some p) VoteNo f = cc
        by_vote (Some p) VoteRead f = cc

    steps : (e : Effect) (k : Node) → StepOf (coordinator_place me parent tree) n m e k → Steps k
    steps _ _ (handled i g hp np r) = handles_so _ i g hp r refl
    steps _ _ (failed_in i f g fl hp np r) = handles_so _ i g hp r refl
    steps _ _ (passed i hp r) = quiet _ refl (not_passed i hp r)
    steps _ _ (failed_passing i f fl hp r) = quiet _ refl (not_passed i hp r)
    steps _ _ (reopened j hp) = quiet _ refl (λ v a. absurd (let h = sym hp ∙ a.handles in cc))
    steps _ _ (failed_reopening j f fl hp) = quiet _ refl (λ v a. absurd (let h = sym hp ∙ a.handles in cc))
    steps _ _ (trims_log hp up) = quiet _ refl (λ v a. absurd (let h = sym hp ∙ a.handles in cc))
    steps _ _ (failed_trimming f fl hp up) =
        quiet (trim_fails place n f.appended) (by_front f.appended)
        (λ v a. absurd (let h = sym hp ∙ a.handles in cc))
      where
        by_front : (a : ℕ) → (trim_fails place n a).voted ≡ n.voted
        by_front zero = refl
        by_front (suc a) = refl

-- Over the moves of a process.

was_heard : (place : Place) (c : Case) (t : Ticket) (v : Vote) (es : List Made) → HeardFirst place c t v es
    → HeardVote place c t v es
was_heard at c t v [] f = f
was_heard at c t v (e ∷ es) (inl f) = inl (was_heard at c t v es f)
was_heard at c t v (e ∷ es) (inr f) = inr f.0

-- the history has the first vote of the ticket in the case
pub record Tells (place : Place) (c : Case) (t : Ticket) (n : Node) (es : List Made) : Type 0 where
  pub first : (v : Vote) → first_vote n.voted c t ≡ Some v → HeardFirst place c t v es
  pub back : (v : Vote) → HeardFirst place c t v es → first_vote n.voted c t ≡ Some v
  pub heard : (v : Vote) → HeardVote place c t v es → first_vote n.voted c t ≡ None → ⊥
  pub once : (v : Vote) → HeardSo c t (same_vote v) n.voted → first_vote n.voted c t ≡ Some v

module _ (me : ProcessId) (parent : Option ProcessId) (tree : List TreeProcess) (n : Node)
    (coordinated : Coordinated (coordinator_place me parent tree) n) (m : Move) (e : Effect)
    (k : Node) (c : Case)
    (t : Ticket) (es : List Made) (same : n ≡ node_by (coordinator_place me parent tree) es)
    (s : StepOf (coordinator_place me parent tree) n m e k)
    (old : Tells (coordinator_place me parent tree) c t n es)
  where
    step : Steps me parent tree n coordinated m c t k
    step = steps me parent tree n coordinated m c t e k s

    some_is : (u v : Vote) → Some u ≡ Some v → u ≡ v
    some_is u v f = cc

    not_none : (v : Vote) → Some v ≡ None → ⊥
    not_none v f = cc

    tells_then : Tells (coordinator_place me parent tree) c t k (record { move = m; effect = e } ∷ es)
    tells_then = record {
      first = λ v f. first_of v f (first_vote n.voted c t) refl;
      back = λ v f. back_of v f (first_vote n.voted c t) refl;
      heard = λ v f g. heard_of_it v f g (first_vote n.voted c t) refl;
      once = λ v f. elim (step.once v f) [ inl b ↦ step.stays v (old.once v b) | inr b ↦ b ];
    }
      where
        first_of : (v : Vote) → first_vote k.voted c t ≡ Some v → (o : Option Vote)
            → first_vote n.voted c t ≡ o
            → HeardFirst (coordinator_place me parent tree) c t v (record { move = m; effect = e } ∷ es)
        first_of v f (Some u) g =
            inl (old.first v (g ∙ ap (λ (x : Vote). Some x) (some_is u v (sym (step.stays u g) ∙ f))))
        first_of v f None g = inr (
          subst (λ (x : Node). HearsVote (coordinator_place me parent tree) x m c t v) same (step.now v g f),
          λ u x. old.heard u x g,
        )

        back_of : (v : Vote) → HeardFirst (coordinator_place me parent tree) c t v
            (record { move = m; effect = e } ∷ es)
            → (o : Option Vote) → first_vote n.voted c t ≡ o → first_vote k.voted c t ≡ Some v
        back_of v (inl f) o g = step.stays v (old.back v f)
        back_of v (inr f) (Some u) g =
            absurd (f.1 u (was_heard (coordinator_place me parent tree) c t u es (old.first u g)))
        back_of v (inr f) None g =
            step.heard v
            (subst (λ (x : Node). HearsVote (coordinator_place me parent tree) x m c t v) (sym same) f.0) g

        heard_of_it : (v : Vote)
            → HeardVote (coordinator_place me parent tree) c t v (record { move = m; effect = e } ∷ es)
            → first_vote k.voted c t ≡ None → (o : Option Vote) → first_vote n.voted c t ≡ o → ⊥
        heard_of_it v f g (Some u) h = not_none u (sym (step.stays u h) ∙ g)
        heard_of_it v (inl f) g None h = old.heard v f h
        heard_of_it v (inr f) g None h =
            not_none v (sym (step.heard v
            (subst (λ (x : Node). HearsVote (coordinator_place me parent tree) x m c t v) (sym same) f) h)
            ∙ g)

-- Over a run.

by_parent : {A : Type 0} (r : Role) → IsCoordinator r
    → ((parent : Option ProcessId) → r ≡ role_below parent → A) → A
by_parent AtRoot i f = f None refl
by_parent (Below p) i f = f (Some p) refl
by_parent (AtLeaf p) i f = absurd i

nothing : (place : Place) (c : Case) (t : Ticket) (n : Node) → n.voted ≡ [] → Tells place c t n []
unfolding first_vote
nothing place c t n e = record {
  first = λ v f. absurd (let g : None ≡ Some v = sym (ap (λ vs. first_vote vs c t) e) ∙ f in cc);
  back = λ v f. absurd f;
  heard = λ v f g. f;
  once = λ v f. absurd (let g : HeardSo c t (same_vote v) [] = subst (HeardSo c t (same_vote v)) e f in cc);
}

pub tells_so : (tree : List TreeProcess) (c : Case) (t : Ticket) (es : List Made) (w : World)
    → IsRun tree es w
    → (p : ProcessId) → IsCoordinator (role_of tree p) → Tells (place_of tree p) c t (w.at p) (made_by p es)
tells_so tree c t es w run p =
    over_run tree (λ q n ms. IsCoordinator (role_of tree q) → Tells (place_of tree q) c t n ms)
    (λ q i. nothing (place_of tree q) c t _ refl)
    (λ gs v r q m e k same s old i. by_parent (role_of tree q) i
    (λ parent role.
    let P : Role → Place = λ x. record { me = q; role = x; tree = tree } in
    subst (λ (x : Role). Tells (P x) c t k (record { move = m; effect = e } ∷ made_by q gs)) (sym role)
    (tells_then q parent tree (v.at q) (all_coordinated tree gs v r q parent role) m e k c t (made_by q gs)
    (subst (λ (x : Role). v.at q ≡ node_by (P x) (made_by q gs)) role same)
    (subst (λ (x : Role). StepOf (P x) (v.at q) m e k) role s)
    (subst (λ (x : Role). Tells (P x) c t (v.at q) (made_by q gs)) role (old i)))))
    es w run p
