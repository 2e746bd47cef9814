-- After each promise of a coordinator's case stands a YES that it counted: over every run. So a case that
-- said READ never
-- promised.
use Rattle.std.proofs.Common.{◌≡◌, ◌∙◌, ◌||◌, ◌&&◌, inl, inr, ℕ, zero, suc, Bool, true, false, Option, Some, None, List, [], ◌∷◌, ◌++◌, take, refl, sym, ap, subst, arith}
use Rattle.std.specs.Prelude.{reverse}
use Rattle.std.specs.List.{list_any}
use Rattle.std.proofs.lemmas.List.Folds.{list_any-append}
use Rattle.protocol.specs.declared.names.Case.{Case}
use Rattle.protocol.specs.declared.names.ProcessId.{ProcessId}
use Rattle.protocol.specs.declared.names.Ticket.{Ticket}
use Rattle.protocol.specs.declared.names.Presumption.TheVariants.{PresumeAbort, PresumeCommit}
use Rattle.protocol.specs.declared.records.Record.{Record}
use Rattle.protocol.specs.declared.standings.Standing.{Standing}
use Rattle.protocol.specs.declared.standings.Standing.TheVariants.{Collecting}
use Rattle.protocol.specs.declared.standings.Vote.{Vote}
use Rattle.protocol_words.specs.Variants.{VoteRead, VoteYes}
use Rattle.protocol.specs.declared.trees.TreeProcess.{TreeProcess}
use Rattle.protocol.specs.Names.{same_case, same_ticket}
use Rattle.protocol.specs.NameLaws.{same_case-refl, same_ticket-refl}
use Rattle.protocol.specs.Records.{has, in_list, is_prepare, none_of}
use Rattle.protocol.specs.Nodes.{AtLeaf, AtRoot, Below, Effect, Heard, Node, Place, Role, after, entries_written, fails_in, kept, place_of, role_of, IsCoordinator}
use Rattle.protocol.specs.Memory.{memory_of, voted_so, yes_of, same_vote}
use Rattle.protocol.specs.Standings.{coordinator_view, view_at}
use Rattle.protocol.specs.CoordinatorRows.{Row}
use Rattle.protocol.specs.Reactions.{Does, reacts, row_effect}
use Rattle.protocol.specs.Restarts.{reopens, restart_fails, restarted, trim_fails, trims}
use Rattle.protocol.specs.World.{IsRun, Made, Move, World, makes, opens}
use Rattle.protocol.proofs.RunLaws.{makes_at}
use Rattle.proof_pairs.proofs.readings.Named.{in_list-yes}
use Rattle.proof_pairs.specs.turns.CoordinatorTurns.{Consents, votes_yes, votes_read, CountsLast, CaseTurn, rests, invites, accepts, sends_work, finds_nobody, asks_for_votes, gives_up, counts_vote, reads_only, commits, promises, hears_no, aborts, passes_commit, passes_abort, repeats_yes, asks, refuses, acknowledges, waits_for_acks, ends, clears, answers, CoordinatorTurn, does_nothing, of_case, begins, gives_again, gives_fresh, presumes}
use Rattle.proof_pairs.specs.turns.Steps.{StepOf, heard_in, handled, failed_in, passed, failed_passing, reopened, failed_reopening, trims_log, failed_trimming}
use Rattle.proof_pairs.proofs.turns.CoordinatorReactions.{CoordinatorTurnAt, coordinator_turn_of}
use Rattle.proof_pairs.proofs.turns.Operators.{reopens_none}
use Rattle.proof_pairs.proofs.turns.Steps.{step_of, turn_of}
use Rattle.proof_processes.specs.WorldHolds.{Coordinates}
use Rattle.proof_processes.proofs.Cases.{viewed}
use Rattle.proof_processes.proofs.CoordinatorsHold.{coordinators_hold}
use Rattle.proof_processes.proofs.RootHistories.{after_life}
use Rattle.proof_processes.proofs.Tests.{case_is, front_none, has-nil, has-reverse, in_either, in_front, left, not_both, right}
use Rattle.proof_processes.proofs.Worlds.{put}
use Rattle.proof_steps.proofs.crashes.Trimmed.{no_data}

-- a YES of a ticket was counted in the case
pub record VotedYes (c : Case) (votes : List (Case × (Ticket × Vote))) : Type 0 where
  pub ticket : Ticket
  pub heard : list_any (λ a. same_case a.0 c && (same_ticket a.1.0 ticket && same_vote VoteYes a.1.1)) votes
      ≡ true

more_votes : (c : Case) (us vs : List (Case × (Ticket × Vote))) → VotedYes c vs → VotedYes c (us ++ vs)
more_votes c us vs v = record { ticket = v.ticket; heard = list_any-append _ us vs ∙ right _ _ v.heard }

first_votes : (c : Case) (us vs : List (Case × (Ticket × Vote))) → VotedYes c us → VotedYes c (us ++ vs)
first_votes c us vs v = record { ticket = v.ticket; heard = list_any-append _ us vs ∙ left _ _ v.heard }

abbrev PromisedVoted : Node → Type 0
PromisedVoted n = (c : Case) → has (is_prepare c) n.life ≡ true → VotedYes c n.voted

or_nothing : (x : Bool) → (x || false) ≡ true → x ≡ true
or_nothing x y = grind arith

second_of : (a b : Bool) → (a && b) ≡ true → b ≡ true
second_of a b e = grind arith

-- the first of a list that is not empty
some_one : (ts : List Ticket) → none_of ts ≡ false → (u : Ticket) × (in_list ts u ≡ true)
unfolding none_of in_list
some_one [] e = absurd (cc)
some_one (u ∷ us) e = (u, rw (same_ticket-refl u) refl)

drop_last : (a : Bool) → (a || false) ≡ true → a ≡ true
drop_last a e = grind arith

-- one more READ is no YES
no_more : (vs : List (Ticket × Vote)) (t u : Ticket) → voted_so VoteYes (vs ++ (t, VoteRead) ∷ []) u ≡ true
    → voted_so VoteYes vs u ≡ true
unfolding voted_so
no_more vs t u e = drop_last _ (sym (list_any-append _ vs ((t, VoteRead) ∷ [])) ∙ e)

module _ (place : Place) (net : _) (n : Node) (coordinates : Coordinates place net n) (up : n.failed ≡ false)
    (parent : Option ProcessId) (h : Heard)
  where
    collecting_votes : (c : Case) → (coordinator_view place n c).standing ≡ Collecting
        → (coordinator_view place n c).votes ≡ (memory_of place n c).votes
    unfolding coordinator_view
    collecting_votes c e =
        ap (λ (s : Standing). (view_at s (kept n) c (memory_of place n c)).votes) (sym (viewed place n c) ∙ e)

    last_vote : (c : Case) (t : Ticket) (w : Vote) (ys : List Ticket) → Consents w
        → CountsLast place n h c t w ys
        → none_of ys ≡ false
        → VotedYes c ((c, (t, w)) ∷ n.voted)
    last_vote c t _ ys votes_yes i e =
        record { ticket = t; heard = rw (same_case-refl c, same_ticket-refl t) refl }
    last_vote c t _ ys votes_read i e =
        let u = some_one ys e in
        let v = coordinator_view place n c in
        let yes_in : in_list (yes_of v.accepted (v.votes ++ (t, VoteRead) ∷ [])) u.0 ≡ true =
        ap (λ ts. in_list ts u.0) i.yes ∙ u.1 in
        let voted = no_more v.votes t u.0
        (second_of _ _ (sym (in_list-yes v.accepted (v.votes ++ (t, VoteRead) ∷ []) u.0) ∙ yes_in)) in
        more_votes c ((c, (t, VoteRead)) ∷ []) n.voted
        (record {
          ticket = u.0;
          heard = coordinates.votes up c u.0 VoteYes
              (inr ((coordinates.alike up c).collecting_is_asked i.vote.stands))
              ∙ (ap (λ vs. voted_so VoteYes vs u.0) (sym (collecting_votes c i.vote.stands)) ∙ voted);
        })

    row_voted : (d c : Case) (row : Row) → CaseTurn place parent n h d row
        → has (is_prepare c) (entries_written row.written) ≡ true
        → VotedYes c ((row_effect d row).counts ++ n.voted)
    unfolding has
    row_voted d c _ (promises t w ys p i e f) g =
        subst (λ (x : Case). VotedYes x ((d, (t, w)) ∷ n.voted)) (case_is d c (or_nothing _ g))
        (last_vote d t w ys i.consents i e)
    row_voted d c _ (rests r) g = absurd (cc)
    row_voted d c _ (invites q i e f a) g = absurd (cc)
    row_voted d c _ (accepts t i e f) g = absurd (cc)
    row_voted d c _ (sends_work q t op i e f a) g = absurd (cc)
    row_voted d c _ (finds_nobody i e f) g = absurd (cc)
    row_voted d c _ (asks_for_votes PresumeAbort i e f a) g = absurd (cc)
    row_voted d c _ (asks_for_votes PresumeCommit i e f a) g = absurd (cc)
    row_voted d c _ (gives_up why p i e f) g = absurd (cc)
    row_voted d c _ (counts_vote t w i f e) g = absurd (cc)
    row_voted d c _ (reads_only t w ys PresumeAbort i e f) g = absurd (cc)
    row_voted d c _ (reads_only t w ys PresumeCommit i e f) g = absurd (cc)
    row_voted d c _ (commits t w ys PresumeAbort i e f a) g = absurd (cc)
    row_voted d c _ (commits t w ys PresumeCommit i e f a) g = absurd (cc)
    row_voted d c _ (hears_no t us PresumeAbort i e f) g = absurd (cc)
    row_voted d c _ (hears_no t us PresumeCommit i e f) g = absurd (cc)
    row_voted d c _ (aborts why us PresumeAbort i e f a) g = absurd (cc)
    row_voted d c _ (aborts why us PresumeCommit i e f a) g = absurd (cc)
    row_voted d c _ (passes_commit PresumeAbort i e f) g = absurd (cc)
    row_voted d c _ (passes_commit PresumeCommit i e f) g = absurd (cc)
    row_voted d c _ (passes_abort PresumeAbort i e f) g = absurd (cc)
    row_voted d c _ (passes_abort PresumeCommit i e f) g = absurd (cc)
    row_voted d c _ (repeats_yes j i e) g = absurd (cc)
    row_voted d c _ (asks i e) g = absurd (cc)
    row_voted d c _ (refuses j i e) g = absurd (cc)
    row_voted d c _ (acknowledges o fs i e) g = absurd (cc)
    row_voted d c _ (waits_for_acks t o fs i e f a) g = absurd (cc)
    row_voted d c _ (ends t o fs i e f a) g = absurd (cc)
    row_voted d c _ (clears i e f a) g = absurd (cc)
    row_voted d c _ (answers t o i e) g = absurd (cc)

    effect_voted : (c : Case) (e : Effect) → CoordinatorTurn place parent n h e
        → has (is_prepare c) (entries_written e.written) ≡ true → VotedYes c (e.counts ++ n.voted)
    unfolding has
    effect_voted c _ (of_case d row r) g = row_voted d c row r g
    effect_voted c _ (does_nothing i) g = absurd (cc)
    effect_voted c _ (begins p e i) g = absurd (cc)
    effect_voted c _ (gives_again p y u e i a) g = absurd (cc)
    effect_voted c _ (gives_fresh p y e i a) g = absurd (cc)
    effect_voted c _ (presumes y u i e) g = absurd (cc)

-- Steps.

voted_at : (role : Role) → IsCoordinator role → (place : Place) (net : _) (n : Node) → Coordinates place net n
    → n.failed ≡ false → (h : Heard) (e : Effect) → CoordinatorTurnAt role place n h e → (c : Case)
    → has (is_prepare c) (entries_written e.written) ≡ true → VotedYes c (e.counts ++ n.voted)
voted_at AtRoot i place net n co up h e t c g = effect_voted place net n co up None h c e t g
voted_at (Below p) i place net n co up h e t c g = effect_voted place net n co up (Some p) h c e t g
voted_at (AtLeaf p) i place net n co up h e t c g = absurd i

module _ (place : Place) (n : Node) (i : IsCoordinator place.role) (old : PromisedVoted n)
    (turns : (h : Heard) (e : Effect) → reacts place n h ≡ Does e → n.failed ≡ false → (c : Case)
    → has (is_prepare c) (entries_written e.written) ≡ true → VotedYes c (e.counts ++ n.voted))
  where
    -- what was appended, or stood in the life list before
    by_life : (k : Node) (new : List Record) (counts : List (Case × (Ticket × Vote))) → k.life
        ≡ reverse new ++ n.life
        → k.voted ≡ counts ++ n.voted
        → ((c : Case) → has (is_prepare c) new ≡ true → VotedYes c (counts ++ n.voted)) → PromisedVoted k
    by_life k new counts life voted now c e =
        subst (λ vs. VotedYes c vs) (sym voted)
        (elim (in_either (is_prepare c) (reverse new) n.life (ap (has (is_prepare c)) (sym life) ∙ e)) [
          | inl there ↦ now c (sym (has-reverse (is_prepare c) new) ∙ there)
          | inr before ↦ more_votes c counts n.voted (old c before)
        ])

    none_reopened : (rs : List Record) (c : Case) → has (is_prepare c) (reopens place.role rs) ≡ false
    none_reopened rs c = reopens_none (is_prepare c) (λ d ts. refl) (λ b. refl) place.role rs

    none : (new : List Record) (c : Case) → has (is_prepare c) new ≡ false → has (is_prepare c) new ≡ true
        → VotedYes c ([] ++ n.voted)
    none new c e f = not_both (is_prepare c) (has (is_prepare c) new) f e

    voted_last : (m : Move) (e : Effect) (k : Node) → StepOf place n m e k → PromisedVoted k
    voted_last m _ _ (handled j g hp np r) =
        by_life (after n (heard_in m j) g) (entries_written g.written) g.counts
        (after_life n (heard_in m j) g) refl
        (turns (heard_in m j) g r (turn_of place n (heard_in m j) g r).up)
    voted_last m _ _ (failed_in j f g fl hp np r) =
        by_life (fails_in n (heard_in m j) g f.appended f.forced)
        (take f.appended (entries_written g.written)) g.counts
        refl refl
        (λ c e. turns (heard_in m j) g r (turn_of place n (heard_in m j) g r).up c
        (in_front (is_prepare c) f.appended (entries_written g.written) e))
    voted_last m _ _ (passed j hp r) = old
    voted_last m _ _ (failed_passing j f fl hp r) = old
    voted_last m _ _ (reopened j hp) =
        by_life (restarted place n j) (reopens place.role (n.forced ++ take j n.unforced)) [] refl refl
        (λ c. none (reopens place.role (n.forced ++ take j n.unforced)) c
        (none_reopened (n.forced ++ take j n.unforced) c))
    voted_last m _ _ (failed_reopening j f fl hp) =
        let rs = n.forced ++ take j n.unforced in
        by_life (restart_fails place n j f.appended f.forced) (take f.appended (reopens place.role rs)) []
        refl refl
        (λ c. none (take f.appended (reopens place.role rs)) c
        (front_none (is_prepare c) f.appended (reopens place.role rs) (none_reopened rs c)))
    voted_last m _ _ (trims_log hp up) =
        by_life (trims place n) [] [] (ap (λ l. reverse l ++ n.life) (no_data place.role i (kept n))) refl
        (λ c. none [] c (has-nil (is_prepare c)))
    voted_last m _ _ (failed_trimming f fl hp up) = by_part f.appended
      where
        by_part : (a : ℕ) → PromisedVoted (trim_fails place n a)
        by_part zero = old
        by_part (suc a) =
            by_life (trim_fails place n (suc a)) [] []
            (ap (λ l. reverse l ++ n.life) (no_data place.role i (kept n)))
            refl (λ c. none [] c (has-nil (is_prepare c)))

-- Runs.

pub promises_voted : (tree : List TreeProcess) (es : List Made) (w : World) → IsRun tree es w
    → (q : ProcessId)
    → IsCoordinator (role_of tree q) → PromisedVoted (w.at q)
unfolding has
promises_voted tree _ _ opens q i = λ c e. not_both (is_prepare c) false e refl
promises_voted tree _ _ (makes es w m e w' run stands step) q i =
    let at = makes_at tree w m e w' step in
    let p = m.step.process in
    let s = step_of (place_of tree p) (w.at p) m e at.node at.made in
    let P : ProcessId → Node → Type 0 = λ x k. IsCoordinator (role_of tree x) → PromisedVoted k in
    subst (λ (x : World). P q (x.at q)) (sym at.world)
    (put P p q at.node w.at
    (λ j. voted_last (place_of tree p) (w.at p) j (promises_voted tree es w run p j)
    (λ h g r up. voted_at (role_of tree p) j (place_of tree p) w.net (w.at p)
    (coordinators_hold tree es w run p j) up h g
    (coordinator_turn_of (place_of tree p) (w.at p) h g r))
    m e at.node s)
    (promises_voted tree es w run q)) i
