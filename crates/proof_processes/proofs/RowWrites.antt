-- What a coordinator's row writes is of its case, which is known, or whose report stands.
use Rattle.std.proofs.Common.{◌≡◌, ◌≢◌, ◌∙◌, ◌||◌, Bool, true, false, Option, None, refl, sym, subst, arith}
use Rattle.protocol.specs.declared.names.Case.{Case}
use Rattle.protocol.specs.declared.names.ProcessId.{ProcessId}
use Rattle.protocol.specs.declared.names.Outcome.{Outcome}
use Rattle.protocol.specs.declared.names.Presumption.TheVariants.{PresumeAbort, PresumeCommit}
use Rattle.protocol.specs.declared.standings.Standing.{Standing}
use Rattle.protocol.specs.declared.standings.Standing.TheVariants.{Unknown, Active, Collecting, Prepared}
use Rattle.protocol.specs.Names.{same_case}
use Rattle.protocol.specs.Records.{has, is_reported}
use Rattle.protocol.specs.Nodes.{Place, Node, kept, Heard, Effect, entries_written}
use Rattle.protocol.specs.Standings.{coordinator_view}
use Rattle.protocol.specs.CoordinatorRows.{Row}
use Rattle.proof_pairs.specs.turns.CoordinatorTurns.{HasDecided, by_commit, by_abort, CaseTurn, rests, invites, accepts, sends_work, finds_nobody, asks_for_votes, gives_up, counts_vote, reads_only, commits, promises, hears_no, aborts, passes_commit, passes_abort, repeats_yes, asks, refuses, acknowledges, waits_for_acks, ends, clears, answers, CoordinatorTurn, does_nothing, of_case, begins, gives_again, gives_fresh, presumes}
use Rattle.proof_processes.specs.WorldHolds.{is_record_of}
use Rattle.proof_processes.proofs.Tests.{case_is}

module _ (place : Place) (parent : Option ProcessId) (n : Node) (h : Heard) (A : Case → Type 0)
    (own : (c : Case) → (coordinator_view place n c).standing ≢ Unknown → A c)
    (reported : (c : Case) → parent ≡ None → is_reported (kept n) c ≡ true → A c)
  where
    or_nothing : (x : Bool) → (x || false) ≡ true → x ≡ true
    or_nothing x y = grind arith

    of_it : (c d : Case) → (same_case c d || false) ≡ true → (st : Standing)
        → (coordinator_view place n c).standing ≡ st → (st ≡ Unknown → ⊥) → A d
    of_it c d g st e f = subst A (case_is c d (or_nothing _ g)) (own c (λ x. f (sym e ∙ x)))

    decided_known : (o : Outcome) (st : Standing) → HasDecided o st → st ≡ Unknown → ⊥
    decided_known _ _ by_commit e = cc
    decided_known _ _ by_abort e = cc

    row_writes : (c d : Case) (row : Row) → CaseTurn place parent n h c row
        → has (is_record_of d) (entries_written row.written) ≡ true → A d
    unfolding has
    row_writes c d _ (asks_for_votes PresumeCommit i e f a) g = of_it c d g Active e (λ x. cc)
    row_writes c d _ (reads_only t w ys PresumeCommit i e f) g =
        of_it c d g Collecting i.vote.stands (λ x. cc)
    row_writes c d _ (commits t w ys PresumeAbort i e f a) g = of_it c d g Collecting i.vote.stands (λ x. cc)
    row_writes c d _ (commits t w ys PresumeCommit i e f a) g = of_it c d g Collecting i.vote.stands (λ x. cc)
    row_writes c d _ (hears_no t us PresumeAbort i e f) g = of_it c d g Collecting i.stands (λ x. cc)
    row_writes c d _ (hears_no t us PresumeCommit i e f) g = of_it c d g Collecting i.stands (λ x. cc)
    row_writes c d _ (aborts why us PresumeAbort i e f a) g = of_it c d g Collecting e (λ x. cc)
    row_writes c d _ (aborts why us PresumeCommit i e f a) g = of_it c d g Collecting e (λ x. cc)
    row_writes c d _ (ends t o fs i e f a) g = of_it c d g _ refl (decided_known o _ e)
    row_writes c d _ (rests r) g = absurd (cc)
    row_writes c d _ (invites q i e f a) g = absurd (cc)
    row_writes c d _ (accepts t i e f) g = absurd (cc)
    row_writes c d _ (sends_work q t op i e f a) g = absurd (cc)
    row_writes c d _ (finds_nobody i e f) g = absurd (cc)
    row_writes c d _ (asks_for_votes PresumeAbort i e f a) g = absurd (cc)
    row_writes c d _ (gives_up why p i e f) g = absurd (cc)
    row_writes c d _ (counts_vote t w i f e) g = absurd (cc)
    row_writes c d _ (reads_only t w ys PresumeAbort i e f) g = absurd (cc)
    row_writes c d _ (promises t w ys p i e f) g = of_it c d g Collecting i.vote.stands (λ x. cc)
    row_writes c d _ (passes_commit PresumeAbort i e f) g = of_it c d g Prepared e (λ x. cc)
    row_writes c d _ (passes_commit PresumeCommit i e f) g = of_it c d g Prepared e (λ x. cc)
    row_writes c d _ (passes_abort PresumeAbort i e f) g = of_it c d g Prepared e (λ x. cc)
    row_writes c d _ (passes_abort PresumeCommit i e f) g = of_it c d g Prepared e (λ x. cc)
    row_writes c d _ (repeats_yes j i e) g = absurd (cc)
    row_writes c d _ (asks i e) g = absurd (cc)
    row_writes c d _ (refuses j i e) g = absurd (cc)
    row_writes c d _ (acknowledges o fs i e) g = absurd (cc)
    row_writes c d _ (waits_for_acks t o fs i e f a) g = absurd (cc)
    row_writes c d _ (clears i e f a) g = subst A (case_is c d (or_nothing _ g)) (reported c f a)
    row_writes c d _ (answers t o i e) g = absurd (cc)

    pub effect_writes : (e : Effect) → CoordinatorTurn place parent n h e → (d : Case)
        → has (is_record_of d) (entries_written e.written) ≡ true → A d
    unfolding has
    effect_writes _ (of_case c row r) d g = row_writes c d row r g
    effect_writes _ (does_nothing i) d g = absurd (cc)
    effect_writes _ (begins p e i) d g = absurd (cc)
    effect_writes _ (gives_again p y u e i a) d g = absurd (cc)
    effect_writes _ (gives_fresh p y e i a) d g = absurd (cc)
    effect_writes _ (presumes y u i e) d g = absurd (cc)
