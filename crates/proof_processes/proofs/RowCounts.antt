-- A vote that an input counts at a coordinator is one that counts.
use Rattle.std.proofs.Common.{◌≡◌, ◌&&◌, Bool, true, Option, List, [], ◌∷◌}
use Rattle.std.specs.List.{list_any}
use Rattle.protocol.specs.declared.names.Case.{Case}
use Rattle.protocol.specs.declared.names.ProcessId.{ProcessId}
use Rattle.protocol.specs.declared.names.Ticket.{Ticket}
use Rattle.protocol.specs.declared.names.Presumption.TheVariants.{PresumeAbort, PresumeCommit}
use Rattle.protocol.specs.declared.standings.Vote.{Vote}
use Rattle.protocol_words.specs.Variants.{VoteNo}
use Rattle.protocol.specs.Names.{same_case, same_ticket}
use Rattle.protocol.specs.Nodes.{Place, Node, Heard, Effect}
use Rattle.protocol.specs.CoordinatorRows.{Row}
use Rattle.protocol.specs.Reactions.{row_effect}
use Rattle.proof_pairs.specs.turns.CoordinatorTurns.{CountsVote, CaseTurn, rests, invites, accepts, sends_work, finds_nobody, asks_for_votes, gives_up, counts_vote, reads_only, commits, promises, hears_no, aborts, passes_commit, passes_abort, repeats_yes, asks, refuses, acknowledges, waits_for_acks, ends, clears, answers, CoordinatorTurn, does_nothing, of_case, begins, gives_again, gives_fresh, presumes}

-- such a vote of the ticket in the case was heard
abbrev pub HeardSo : Case → Ticket → (Vote → Bool) → List (Case × (Ticket × Vote)) → Type 0
HeardSo c t q vs = list_any (λ a. same_case a.0 c && (same_ticket a.1.0 t && q a.1.1)) vs ≡ true

module _ (place : Place) (parent : Option ProcessId) (n : Node) (h : Heard) (c : Case) (t : Ticket)
    (q : Vote → Bool) (A : Type 0)
    (one : (d : Case) (u : Ticket) (w : Vote) → CountsVote place n h d u w
    → HeardSo c t q ((d, (u, w)) ∷ []) → A)
  where
    row_counts : (d : Case) (row : Row) → CaseTurn place parent n h d row
        → HeardSo c t q (row_effect d row).counts → A
    row_counts d _ (counts_vote u w i k a) f = one d u w i f
    row_counts d _ (reads_only u w ys p i k a) f = one d u w i.vote f
    row_counts d _ (commits u w ys p i k a b) f = one d u w i.vote f
    row_counts d _ (promises u w ys p i k a) f = one d u w i.vote f
    row_counts d _ (hears_no u us p i k a) f = one d u VoteNo i f
    row_counts d _ (rests r) f = absurd (cc)
    row_counts d _ (invites p i k a b) f = absurd (cc)
    row_counts d _ (accepts u i k a) f = absurd (cc)
    row_counts d _ (sends_work p u op i k a b) f = absurd (cc)
    row_counts d _ (finds_nobody i k a) f = absurd (cc)
    row_counts d _ (asks_for_votes PresumeAbort i k a b) f = absurd (cc)
    row_counts d _ (asks_for_votes PresumeCommit i k a b) f = absurd (cc)
    row_counts d _ (gives_up why p i k a) f = absurd (cc)
    row_counts d _ (aborts why us PresumeAbort i k a b) f = absurd (cc)
    row_counts d _ (aborts why us PresumeCommit i k a b) f = absurd (cc)
    row_counts d _ (passes_commit PresumeAbort i k a) f = absurd (cc)
    row_counts d _ (passes_commit PresumeCommit i k a) f = absurd (cc)
    row_counts d _ (passes_abort PresumeAbort i k a) f = absurd (cc)
    row_counts d _ (passes_abort PresumeCommit i k a) f = absurd (cc)
    row_counts d _ (repeats_yes j i k) f = absurd (cc)
    row_counts d _ (asks i k) f = absurd (cc)
    row_counts d _ (refuses j i k) f = absurd (cc)
    row_counts d _ (acknowledges o fs i k) f = absurd (cc)
    row_counts d _ (waits_for_acks u o fs i k a b) f = absurd (cc)
    row_counts d _ (ends u o fs i k a b) f = absurd (cc)
    row_counts d _ (clears i e a b) f = absurd (cc)
    row_counts d _ (answers u o i k) f = absurd (cc)

    pub effect_counts : (e : Effect) → CoordinatorTurn place parent n h e → HeardSo c t q e.counts
        → A
    effect_counts _ (does_nothing i) f = absurd (cc)
    effect_counts _ (of_case d row k) f = row_counts d row k f
    effect_counts _ (begins p k i) f = absurd (cc)
    effect_counts _ (gives_again p d u k i a) f = absurd (cc)
    effect_counts _ (gives_fresh p d k i a) f = absurd (cc)
    effect_counts _ (presumes x u i k) f = absurd (cc)
