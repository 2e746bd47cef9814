-- Presumed Abort collects votes after no record, at any coordinator.
use Rattle.std.proofs.Common.{◌≡◌, ◌∙◌, inl, inr, Bool, true, false, Option, List, refl, ap}
use Rattle.protocol.specs.declared.names.Case.{Case}
use Rattle.protocol.specs.declared.names.ProcessId.{ProcessId}
use Rattle.protocol.specs.declared.names.Presumption.TheVariants.{PresumeAbort, PresumeCommit}
use Rattle.protocol.specs.declared.records.Record.{Record}
use Rattle.protocol_words.specs.Variants.{CollectingRecord}
use Rattle.protocol.specs.Names.{same_presumption}
use Rattle.protocol.specs.NameLaws.{same_case_tells}
use Rattle.protocol.specs.Records.{has, is_collecting}
use Rattle.protocol.specs.Nodes.{Place, Node, Heard, Effect, entries_written}
use Rattle.protocol.specs.CoordinatorRows.{Row}
use Rattle.proof_pairs.specs.turns.CoordinatorTurns.{CaseTurn, rests, invites, accepts, sends_work, finds_nobody, asks_for_votes, gives_up, counts_vote, reads_only, commits, promises, hears_no, aborts, passes_commit, passes_abort, repeats_yes, asks, refuses, acknowledges, waits_for_acks, ends, clears, answers, CoordinatorTurn, does_nothing, of_case, begins, gives_again, gives_fresh, presumes}
use Rattle.proof_processes.proofs.Tests.{not_both, has-nil}
use Rattle.proof_processes.proofs.Worlds.{has_other}

-- A Collecting record is of Presumed Commit.

abbrev pub is_needless : Record → Bool
is_needless (CollectingRecord c ts) = same_presumption c.txn.presumption PresumeAbort
is_needless _ = false

needless_if : (c : Case) → c.txn.presumption ≡ PresumeAbort → (r : Record) → is_collecting c r ≡ true
    → is_needless r ≡ true
unfolding same_presumption
needless_if c p (CollectingRecord d ts) e = elim (same_case_tells d c) [
  | inl t ↦ rw (ap (λ (x : Case). x.txn.presumption) t.1 ∙ p) refl
  | inr f ↦ absurd (let g = f.0 in cc)
]
needless_if c p r e = absurd (cc)

pub none_needless : (rs : List Record) (c : Case) → has is_needless rs ≡ false → c.txn.presumption
    ≡ PresumeAbort
    → has (is_collecting c) rs ≡ false
none_needless rs c none p = by_test (has (is_collecting c) rs) refl
  where
    by_test : (b : Bool) → has (is_collecting c) rs ≡ b → has (is_collecting c) rs ≡ false
    by_test true e =
        not_both is_needless (has is_needless rs)
        (has_other (is_collecting c) is_needless rs (needless_if c p) e)
        none
    by_test false e = e

module _ (place : Place) (parent : Option ProcessId) (n : Node) (h : Heard) (c : Case) where
  abbrev NeedsNone : Row → Type 0
  NeedsNone row = has is_needless (entries_written row.written) ≡ false

  turn_needs : (row : Row) → CaseTurn place parent n h c row → NeedsNone row
  unfolding has same_presumption
  turn_needs _ (rests r) = refl
  turn_needs _ (invites q i e f g) = refl
  turn_needs _ (accepts t i e f) = refl
  turn_needs _ (sends_work q t op i e f g) = refl
  turn_needs _ (finds_nobody i e f) = refl
  turn_needs _ (asks_for_votes PresumeAbort i e f g) = refl
  turn_needs _ (asks_for_votes PresumeCommit i e f g) = rw g refl
  turn_needs _ (gives_up why p i e f) = refl
  turn_needs _ (counts_vote t w i f e) = refl
  turn_needs _ (reads_only t w ys PresumeAbort i e f) = refl
  turn_needs _ (reads_only t w ys PresumeCommit i e f) = refl
  turn_needs _ (commits t w ys PresumeAbort i e f g) = refl
  turn_needs _ (commits t w ys PresumeCommit i e f g) = refl
  turn_needs _ (promises t w ys p i e f) = refl
  turn_needs _ (hears_no t us PresumeAbort i e f) = refl
  turn_needs _ (hears_no t us PresumeCommit i e f) = refl
  turn_needs _ (aborts why us PresumeAbort i e f g) = refl
  turn_needs _ (aborts why us PresumeCommit i e f g) = refl
  turn_needs _ (passes_commit PresumeAbort i e f) = refl
  turn_needs _ (passes_commit PresumeCommit i e f) = refl
  turn_needs _ (passes_abort PresumeAbort i e f) = refl
  turn_needs _ (passes_abort PresumeCommit i e f) = refl
  turn_needs _ (repeats_yes j i e) = refl
  turn_needs _ (asks i e) = refl
  turn_needs _ (refuses j i e) = refl
  turn_needs _ (acknowledges o fs i e) = refl
  turn_needs _ (waits_for_acks t o fs i e f g) = refl
  turn_needs _ (ends t o fs i e f g) = refl
  turn_needs _ (clears i e f a) = refl
  turn_needs _ (answers t o i e) = refl

pub effect_needs : (place : Place) (parent : Option ProcessId) (n : Node) (h : Heard) (e : Effect)
    → CoordinatorTurn place parent n h e
    → has is_needless (entries_written e.written) ≡ false
effect_needs place parent n h _ (does_nothing i) = has-nil is_needless
effect_needs place parent n h _ (of_case c row t) = turn_needs place parent n h c row t
effect_needs place parent n h _ (begins p e i) = has-nil is_needless
effect_needs place parent n h _ (gives_again p d t e i a) = has-nil is_needless
effect_needs place parent n h _ (gives_fresh p d e i a) = has-nil is_needless
effect_needs place parent n h _ (presumes x t i e) = has-nil is_needless
