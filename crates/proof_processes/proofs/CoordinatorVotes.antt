-- The votes that a coordinator remembers of a live case after an input are those that it has heard in it.
use Rattle.std.proofs.Common.{◌≡◌, ◌≢◌, ◌∙◌, ◌&&◌, ◌||◌, inl, inr, ℕ, Bool, true, false, not, Option, Some, None, List, [], ◌∷◌, ◌++◌, refl, sym, ap, subst, arith, if◌then◌else◌}
use Rattle.std.proofs.lemmas.List.Folds.{list_any-append}
use Rattle.protocol.specs.declared.names.Case.{Case}
use Rattle.protocol.specs.declared.names.ProcessId.{ProcessId}
use Rattle.protocol.specs.declared.names.Ticket.{Ticket}
use Rattle.protocol.specs.declared.names.Txn.{Txn}
use Rattle.protocol.specs.declared.standings.Standing.{Standing}
use Rattle.protocol.specs.declared.standings.Standing.TheVariants.{Collecting}
use Rattle.protocol.specs.declared.standings.Vote.{Vote}
use Rattle.protocol_words.specs.Variants.{MessageInput, VoteNo, VoteRead, VoteYes}
use Rattle.protocol.specs.declared.events.Input.{Input}
use Rattle.protocol.specs.declared.events.StepError.TheVariants.{NoSuch}
use Rattle.protocol.specs.declared.trees.TreeProcess.{TreeProcess}
use Rattle.protocol.specs.Names.{same_case, same_ticket, same_txn, child_case}
use Rattle.protocol.specs.NameLaws.{same_case-refl, same_txn-refl, same_txn_tells}
use Rattle.protocol.specs.Records.{has, has_case, in_list, boot_of}
use Rattle.protocol.specs.Nodes.{Place, Node, kept, Heard, Effect}
use Rattle.protocol.specs.Memory.{Memory, Idle, Asked, memory_of, has_voted, is_counted, same_vote, voted_so}
use Rattle.protocol.specs.Standings.{CoordinatorView, coordinator_view, case_of_child, own_cases}
use Rattle.protocol.specs.CoordinatorRows.{on_vote}
use Rattle.protocol.specs.Outcomes.{has_accepted}
use Rattle.protocol.specs.Reactions.{Refused, Does, reacts, handles, act_is_listed, row_effect, seat_of, vote_for}
use Rattle.protocol.specs.Views.{vote_message}
use Rattle.proof_pairs.specs.turns.CoordinatorTurns.{CountsVote}
use Rattle.proof_processes.specs.WorldHolds.{is_record_of}
use Rattle.proof_processes.proofs.Cases.{viewed}
use Rattle.proof_processes.proofs.CaseEffects.{Alone, Listed}
use Rattle.proof_processes.proofs.CaseSteps.{heard_so}
use Rattle.proof_processes.proofs.CoordinatorAccepts.{turn_here}
use Rattle.proof_processes.proofs.CoordinatorKept.{Coordinated, IsLive}
use Rattle.proof_processes.proofs.CoordinatorPhases.{collecting_accepted, collecting_votes}
use Rattle.proof_processes.proofs.OwnCases.{child_txn, child_belongs, child_nowhere}
use Rattle.proof_processes.proofs.Remembering.{role_below, coordinator_place, remembers_at, OpensMemory, by_begin, by_join, Asks, by_commit, by_prepare, CountedVote, MovesMemory, keeps, asks, closes, takes, counts, opens, moves, none_counts}
use Rattle.proof_processes.proofs.VoteInputs.{is_vote_input}
use Rattle.proof_processes.proofs.RowCounts.{HeardSo, effect_counts}
use Rattle.proof_processes.proofs.Tests.{both, case_is}

-- no record of the case was ever appended, and no ticket accepted into it
pub record IsNew (n : Node) (c : Case) : Type 0 where
  pub unrecorded : has (is_record_of c) n.life ≡ false
  pub unaccepted : (t : Ticket) → has_accepted n c t ≡ false

-- A vote is answered by its row, at any coordinator.

abbrev VoteReacts : ProcessId → Option ProcessId → List TreeProcess → Node → Heard → Txn → Ticket → Vote
    → Type 0
VoteReacts me parent tree n h y u w =
    let place = coordinator_place me parent tree in
    reacts place n h ≡ Does (vote_for place parent n u w (case_of_child place n y u))

reacts_vote : (me : ProcessId) (parent : Option ProcessId) (tree : List TreeProcess) (n : Node) (h : Heard)
    → n.failed ≡ false → (k : ℕ) (y : Txn) (u : Ticket) (w : Vote)
    → h.input ≡ MessageInput k (vote_message w (child_case y u)) → VoteReacts me parent tree n h y u w
unfolding reacts
reacts_vote me None tree n h up k y u VoteYes i =
    let place = coordinator_place me None tree in
    subst (λ (x : Input). (if act_is_listed tree x then handles place n h x else Refused NoSuch)
    ≡ Does (vote_for place None n u VoteYes (case_of_child place n y u))) (sym i) (rw up refl)
reacts_vote me None tree n h up k y u VoteNo i =
    let place = coordinator_place me None tree in
    subst (λ (x : Input). (if act_is_listed tree x then handles place n h x else Refused NoSuch)
    ≡ Does (vote_for place None n u VoteNo (case_of_child place n y u))) (sym i) (rw up refl)
reacts_vote me None tree n h up k y u VoteRead i =
    let place = coordinator_place me None tree in
    subst (λ (x : Input). (if act_is_listed tree x then handles place n h x else Refused NoSuch)
    ≡ Does (vote_for place None n u VoteRead (case_of_child place n y u))) (sym i) (rw up refl)
reacts_vote me (Some p) tree n h up k y u VoteYes i =
    let place = coordinator_place me (Some p) tree in
    subst (λ (x : Input). (if act_is_listed tree x then handles place n h x else Refused NoSuch)
    ≡ Does (vote_for place (Some p) n u VoteYes (case_of_child place n y u))) (sym i) (rw up refl)
reacts_vote me (Some p) tree n h up k y u VoteNo i =
    let place = coordinator_place me (Some p) tree in
    subst (λ (x : Input). (if act_is_listed tree x then handles place n h x else Refused NoSuch)
    ≡ Does (vote_for place (Some p) n u VoteNo (case_of_child place n y u))) (sym i) (rw up refl)
reacts_vote me (Some p) tree n h up k y u VoteRead i =
    let place = coordinator_place me (Some p) tree in
    subst (λ (x : Input). (if act_is_listed tree x then handles place n h x else Refused NoSuch)
    ≡ Does (vote_for place (Some p) n u VoteRead (case_of_child place n y u))) (sym i) (rw up refl)

module _ (me : ProcessId) (parent : Option ProcessId) (tree : List TreeProcess) (n : Node)
    (old : Coordinated (coordinator_place me parent tree) n) (alone : Alone me parent tree n)
    (listed : Listed me parent tree n)
    (new : (c : Case) (i : Input)
    → OpensMemory parent me (boot_of (kept n)) c (memory_of (coordinator_place me parent tree) n c) i
    → IsNew n c)
    (h : Heard) (e : Effect) (up : n.failed ≡ false)
    (r : reacts (coordinator_place me parent tree) n h ≡ Does e)
    (c : Case)
  where
    abbrev place : Place
    place = coordinator_place me parent tree

    abbrev m : Memory
    m = memory_of (coordinator_place me parent tree) n c

    abbrev m' : Memory
    m' = remembers_at parent me (boot_of (kept n)) c
        (memory_of (coordinator_place me parent tree) n c) h.input

    -- a vote that the row counts, memory counts

    counted_of : (u : Ticket) (w : Vote) → CountsVote (coordinator_place me parent tree) n h c u w
        → CountedVote c m h.input u w
    counted_of u w i =
        let y = i.hears.txn in
        let v = coordinator_view place n c in
        record {
          number = i.hears.hears.0;
          txn = y;
          hears = i.hears.hears.1;
          same = subst (λ (x : Txn). same_txn y x ≡ true)
              (sym (child_txn me parent tree n y u c i.hears.belongs)) (same_txn-refl y);
          asked = (old.together up c).collecting_is_asked (sym (viewed place n c) ∙ i.stands);
          counts = ap (λ ts. is_counted ts m.votes u)
              (sym (collecting_accepted me parent tree n h c i.stands))
              ∙ (ap (λ vs. is_counted v.accepted vs u) (sym
              (collecting_votes me parent tree n h c i.stands)) ∙ i.counts);
        }

    counts_nothing : ((u : Ticket) (w : Vote) → CountedVote c m h.input u w → ⊥) → (t : Ticket) (v : Vote)
        → heard_so c t v e.counts ≡ false
    counts_nothing f t v = by_test (heard_so c t v e.counts) refl
      where
        one : (d : Case) (u : Ticket) (w : Vote) → CountsVote (coordinator_place me parent tree) n h d u w
            → HeardSo c t (same_vote v) ((d, (u, w)) ∷ []) → ⊥
        one d u w i g =
            f u w (counted_of u w
            (subst (λ (x : Case). CountsVote (coordinator_place me parent tree) n h x u w)
            (case_is d c (both (same_case d c) (same_ticket u t && same_vote v w) (or_nothing _ g)).0) i))
          where
            or_nothing : (x : Bool) → (x || false) ≡ true → x ≡ true
            or_nothing x y = grind arith

        by_test : (b : Bool) → heard_so c t v e.counts ≡ b → heard_so c t v e.counts ≡ false
        by_test true g = absurd
            (effect_counts place parent n h c t (same_vote v) ⊥ one e (turn_here me parent tree n h e r) g)
        by_test false g = g

    -- and the other way round

    row_counts : (u : Ticket) (w : Vote) (v : CoordinatorView) (s : Standing) → s ≡ Collecting
        → is_counted v.accepted v.votes u ≡ true
        → (row_effect c (on_vote (seat_of (coordinator_place me parent tree) parent c) u w v s)).counts
        ≡ (c, (u, w)) ∷ []
    row_counts u w v Collecting f g = rw g refl
    row_counts u w v s f g = absurd (cc)

    module _ (u : Ticket) (w : Vote) (x : CountedVote c m h.input u w) where
      txn_is : (y z : Txn) → same_txn y z ≡ true → y ≡ z
      txn_is y z f = elim (same_txn_tells y z) [ inl t ↦ t.1 | inr g ↦ absurd (let k = g.0 in cc) ]

      in_accepted : in_list m.accepted u ≡ true
      in_accepted = (both (in_list m.accepted u) (not (has_voted m.votes u)) x.counts).0

      not_idle : m.phase ≢ Idle
      not_idle f = absurd (let g : Asked ≡ Idle = sym x.asked ∙ f in cc)

      first_false : (a b : Bool) → (a || b) ≡ false → a ≡ false
      first_false a b f = grind arith

      found_here : case_of_child place n x.txn u ≡ Some c
      found_here = by_found (case_of_child place n x.txn u) refl
        where
          by_found : (o : Option Case) → case_of_child place n x.txn u ≡ o → case_of_child place n x.txn u
              ≡ Some c
          by_found (Some d) f =
              f ∙ ap (λ (z : Case). Some z)
              (case_is d c (alone c d u in_accepted (child_belongs me parent tree n x.txn u d f)))
          by_found None f = absurd (both_ways in_accepted
              (first_false _ _ (child_nowhere me parent tree n x.txn u c f
              (subst (λ (q : Txn). has_case (own_cases (role_below parent) place n q) c ≡ true)
              (sym (txn_is x.txn c.txn x.same)) (listed c not_idle)))))
            where
              both_ways : in_list m.accepted u ≡ true → in_list m.accepted u ≡ false → ⊥
              both_ways y z = cc

      counted_now : e.counts ≡ (c, (u, w)) ∷ []
      counted_now =
          let v = coordinator_view place n c in
          let stands : v.standing ≡ Collecting = viewed place n c
          ∙ (old.together up c).asked_is_collecting x.asked in
          let same : vote_for place parent n u w (Some c) ≡ e =
          does_so (vote_for place parent n u w (Some c))
          (sym (reacts_vote me parent tree n h up x.number x.txn u w x.hears
          ∙ ap (λ (o : Option Case). Does (vote_for place parent n u w o)) found_here) ∙ r) in
          ap (λ (g : Effect). g.counts) (sym same)
          ∙ row_counts u w v v.standing stands
          (ap (λ ts. is_counted ts v.votes u) (collecting_accepted me parent tree n h c stands)
          ∙ (ap (λ vs. is_counted m.accepted vs u) (collecting_votes me parent tree n h c stands) ∙ x.counts))
        where
          does_so : (g : Effect) → Does g ≡ Does e → g ≡ e
          does_so g q = cc

    -- so both are the same again

    abbrev Same : Memory → Type 0
    Same k = (t : Ticket) (v : Vote) → heard_so c t v (e.counts ++ n.voted) ≡ voted_so v k.votes t

    both_parts : (t : Ticket) (v : Vote)
        → heard_so c t v (e.counts ++ n.voted) ≡ (heard_so c t v e.counts || heard_so c t v n.voted)
    both_parts t v = list_any-append _ e.counts n.voted

    -- a case that begins has heard no vote
    begun_now : (k : Memory) (i : Input) → h.input ≡ i → OpensMemory parent me (boot_of (kept n)) c m i
        → k.votes ≡ []
        → Same k
    unfolding voted_so
    begun_now k i at o none t v =
        both_parts t v
        ∙ (ap (λ b. b || heard_so c t v n.voted) (counts_nothing no_vote t v)
        ∙ (never_heard (heard_so c t v n.voted) refl ∙ ap (λ vs. voted_so v vs t) (sym none)))
      where
        quiet : (j : Input) → OpensMemory parent me (boot_of (kept n)) c m j → is_vote_input j ≡ false
        quiet _ (by_begin p top f) = refl
        quiet _ (by_join p j d below a f) = refl

        no_vote : (u : Ticket) (w : Vote) → CountedVote c m h.input u w → ⊥
        no_vote u w x = none_counts c m h.input (ap is_vote_input at ∙ quiet i o) u w x

        never_heard : (b : Bool) → heard_so c t v n.voted ≡ b → (false || heard_so c t v n.voted) ≡ false
        never_heard false f = f
        never_heard true f = absurd (both_ways (old.voted_accepted c t v f) ((new c i o).unaccepted t))
          where
            both_ways : has_accepted n c t ≡ true → has_accepted n c t ≡ false → ⊥
            both_ways y z = cc

    kept_now : (k : Memory) → IsLive m.phase → ((u : Ticket) (w : Vote) → CountedVote c m h.input u w → ⊥)
        → k.votes ≡ m.votes → Same k
    kept_now k live f g t v =
        both_parts t v
        ∙ (ap (λ b. b || heard_so c t v n.voted) (counts_nothing f t v)
        ∙ (old.votes up c live t v ∙ ap (λ vs. voted_so v vs t) (sym g)))

    added_now : (k : Memory) (u : Ticket) (w : Vote) → CountedVote c m h.input u w → k.votes
        ≡ m.votes ++ (u, w) ∷ []
        → Same k
    unfolding voted_so
    added_now k u w x g t v =
        let live : IsLive m.phase = subst IsLive (sym x.asked) tt in
        both_parts t v
        ∙ (ap (λ vs. heard_so c t v vs || heard_so c t v n.voted) (counted_now u w x)
        ∙ (rw (same_case-refl c) (turned (same_ticket u t) (same_vote v w)
        (heard_so c t v n.voted))
        ∙ (ap (λ b. b || ((same_vote v w && same_ticket u t) || false)) (old.votes up c live t v)
        ∙ (sym (list_any-append _ m.votes ((u, w) ∷ [])) ∙ ap (λ vs. voted_so v vs t) (sym g)))))
      where
        turned : (a b k : Bool) → (((true && (a && b)) || false) || k) ≡ (k || ((b && a) || false))
        turned true true true = refl
        turned true true false = refl
        turned true false true = refl
        turned true false false = refl
        turned false true true = refl
        turned false true false = refl
        turned false false true = refl
        turned false false false = refl

    asks_quietly : (i : Input) → Asks parent c i → is_vote_input i ≡ false
    asks_quietly _ (by_commit x top f) = refl
    asks_quietly _ (by_prepare p j k below) = refl

    by_move : (k : Memory) → MovesMemory parent me (boot_of (kept n)) c m h.input k → IsLive k.phase → Same k
    by_move k (keeps f p l) live = kept_now k (subst IsLive p live) f l.votes
    by_move k (asks a o p l) live =
        kept_now k (subst IsLive (sym o) tt) (none_counts c m h.input (asks_quietly h.input a)) l.votes
    by_move k (closes a o p l) live = absurd (subst IsLive p live)
    by_move k (takes j u i o b p a v) live =
        kept_now k (subst IsLive (sym o) tt) (none_counts c m h.input (ap is_vote_input i)) v
    by_move k (counts u w x p a v) live = added_now k u w x v
    by_move k (opens o p a v) live = begun_now k h.input refl o v

    pub votes_then : IsLive (remembers_at parent me (boot_of (kept n)) c
        (memory_of (coordinator_place me parent tree) n c) h.input).phase → (t : Ticket) (v : Vote)
        → heard_so c t v (e.counts ++ n.voted)
        ≡ voted_so v (remembers_at parent me (boot_of (kept n)) c
        (memory_of (coordinator_place me parent tree) n c) h.input).votes t
    votes_then live = by_move m' (moves parent me (boot_of (kept n)) c m h.input) live
