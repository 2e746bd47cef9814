-- When a coordinator's row writes that votes are collected, or promises, and whom it accepts.
use Rattle.std.proofs.Common.{◌≡◌, ◌||◌, Bool, true, false, Option, [], ◌∷◌, subst, arith}
use Rattle.protocol.specs.declared.names.Case.{Case}
use Rattle.protocol.specs.declared.names.ProcessId.{ProcessId}
use Rattle.protocol.specs.declared.names.Ticket.{Ticket}
use Rattle.protocol.specs.declared.names.Presumption.TheVariants.{PresumeAbort, PresumeCommit}
use Rattle.protocol.specs.declared.messages.Message.TheVariants.{Joined}
use Rattle.protocol.specs.declared.standings.Standing.TheVariants.{Active, Collecting}
use Rattle.protocol.specs.Records.{has, is_collecting}
use Rattle.protocol.specs.Nodes.{Place, Node, Heard, Effect, entries_written}
use Rattle.protocol.specs.Memory.{has_child}
use Rattle.protocol.specs.Standings.{coordinator_view}
use Rattle.protocol.specs.CoordinatorRows.{Row}
use Rattle.protocol.specs.Reactions.{row_effect}
use Rattle.protocol.specs.Audits.{is_promise}
use Rattle.proof_pairs.specs.turns.LeafTurns.{Hears}
use Rattle.proof_pairs.specs.turns.CoordinatorTurns.{IsToCommit, CaseTurn, rests, invites, accepts, sends_work, finds_nobody, asks_for_votes, gives_up, counts_vote, reads_only, commits, promises, hears_no, aborts, passes_commit, passes_abort, repeats_yes, asks, refuses, acknowledges, waits_for_acks, ends, clears, answers, CoordinatorTurn, does_nothing, of_case, begins, gives_again, gives_fresh, presumes}
use Rattle.proof_processes.proofs.RootHistories.{took}
use Rattle.proof_processes.proofs.Tests.{case_is}

or_nothing : (x : Bool) → (x || false) ≡ true → x ≡ true
or_nothing x y = grind arith

module _ (place : Place) (parent : Option ProcessId) (n : Node) (h : Heard) where
  -- a case that writes that it collects is to commit
  pub record Collects (d : Case) : Type 0 where
    pub to_commit : IsToCommit parent h d
    pub active : (coordinator_view place n d).standing ≡ Active

  row_collects : (c d : Case) (row : Row) → CaseTurn place parent n h c row
      → has (is_collecting d) (entries_written row.written) ≡ true → Collects d
  unfolding has
  row_collects c d _ (asks_for_votes PresumeCommit i e f a) g =
      subst (λ (x : Case). Collects x) (case_is c d (or_nothing _ g)) (record { to_commit = i; active = e })
  row_collects c d _ (rests r) g = absurd (cc)
  row_collects c d _ (invites q i e f a) g = absurd (cc)
  row_collects c d _ (accepts t i e f) g = absurd (cc)
  row_collects c d _ (sends_work q t op i e f a) g = absurd (cc)
  row_collects c d _ (finds_nobody i e f) g = absurd (cc)
  row_collects c d _ (asks_for_votes PresumeAbort i e f a) g = absurd (cc)
  row_collects c d _ (gives_up why p i e f) g = absurd (cc)
  row_collects c d _ (counts_vote t w i f e) g = absurd (cc)
  row_collects c d _ (reads_only t w ys PresumeAbort i e f) g = absurd (cc)
  row_collects c d _ (reads_only t w ys PresumeCommit i e f) g = absurd (cc)
  row_collects c d _ (commits t w ys PresumeAbort i e f a) g = absurd (cc)
  row_collects c d _ (commits t w ys PresumeCommit i e f a) g = absurd (cc)
  row_collects c d _ (promises t w ys p i e f) g = absurd (cc)
  row_collects c d _ (hears_no t us PresumeAbort i e f) g = absurd (cc)
  row_collects c d _ (hears_no t us PresumeCommit i e f) g = absurd (cc)
  row_collects c d _ (aborts why us PresumeAbort i e f a) g = absurd (cc)
  row_collects c d _ (aborts why us PresumeCommit i e f a) g = absurd (cc)
  row_collects c d _ (passes_commit PresumeAbort i e f) g = absurd (cc)
  row_collects c d _ (passes_commit PresumeCommit i e f) g = absurd (cc)
  row_collects c d _ (passes_abort PresumeAbort i e f) g = absurd (cc)
  row_collects c d _ (passes_abort PresumeCommit i e f) g = absurd (cc)
  row_collects c d _ (repeats_yes j i e) g = absurd (cc)
  row_collects c d _ (asks i e) g = absurd (cc)
  row_collects c d _ (refuses j i e) g = absurd (cc)
  row_collects c d _ (acknowledges o fs i e) g = absurd (cc)
  row_collects c d _ (waits_for_acks t o fs i e f a) g = absurd (cc)
  row_collects c d _ (ends t o fs i e f a) g = absurd (cc)
  row_collects c d _ (clears i e f a) g = absurd (cc)
  row_collects c d _ (answers t o i e) g = absurd (cc)

  pub effect_collects : (e : Effect) → CoordinatorTurn place parent n h e → (d : Case)
      → has (is_collecting d) (entries_written e.written) ≡ true → Collects d
  unfolding has
  effect_collects _ (of_case c row r) d g = row_collects c d row r g
  effect_collects _ (does_nothing i) d g = absurd (cc)
  effect_collects _ (begins p e i) d g = absurd (cc)
  effect_collects _ (gives_again p y u e i a) d g = absurd (cc)
  effect_collects _ (gives_fresh p y e i a) d g = absurd (cc)
  effect_collects _ (presumes y u i e) d g = absurd (cc)

  -- a case that promises has collected
  abbrev pub Promises : Case → Type 0
  Promises d = (coordinator_view place n d).standing ≡ Collecting

  row_promises : (c d : Case) (row : Row) → CaseTurn place parent n h c row
      → has (is_promise d) (entries_written row.written) ≡ true → Promises d
  unfolding has
  row_promises c d _ (promises t w ys p i e f) g =
      subst (λ (x : Case). Promises x) (case_is c d (or_nothing _ g)) i.vote.stands
  row_promises c d _ (rests r) g = absurd (cc)
  row_promises c d _ (invites q i e f a) g = absurd (cc)
  row_promises c d _ (accepts t i e f) g = absurd (cc)
  row_promises c d _ (sends_work q t op i e f a) g = absurd (cc)
  row_promises c d _ (finds_nobody i e f) g = absurd (cc)
  row_promises c d _ (asks_for_votes PresumeAbort i e f a) g = absurd (cc)
  row_promises c d _ (asks_for_votes PresumeCommit i e f a) g = absurd (cc)
  row_promises c d _ (gives_up why p i e f) g = absurd (cc)
  row_promises c d _ (counts_vote t w i f e) g = absurd (cc)
  row_promises c d _ (reads_only t w ys PresumeAbort i e f) g = absurd (cc)
  row_promises c d _ (reads_only t w ys PresumeCommit i e f) g = absurd (cc)
  row_promises c d _ (commits t w ys PresumeAbort i e f a) g = absurd (cc)
  row_promises c d _ (commits t w ys PresumeCommit i e f a) g = absurd (cc)
  row_promises c d _ (hears_no t us PresumeAbort i e f) g = absurd (cc)
  row_promises c d _ (hears_no t us PresumeCommit i e f) g = absurd (cc)
  row_promises c d _ (aborts why us PresumeAbort i e f a) g = absurd (cc)
  row_promises c d _ (aborts why us PresumeCommit i e f a) g = absurd (cc)
  row_promises c d _ (passes_commit PresumeAbort i e f) g = absurd (cc)
  row_promises c d _ (passes_commit PresumeCommit i e f) g = absurd (cc)
  row_promises c d _ (passes_abort PresumeAbort i e f) g = absurd (cc)
  row_promises c d _ (passes_abort PresumeCommit i e f) g = absurd (cc)
  row_promises c d _ (repeats_yes j i e) g = absurd (cc)
  row_promises c d _ (asks i e) g = absurd (cc)
  row_promises c d _ (refuses j i e) g = absurd (cc)
  row_promises c d _ (acknowledges o fs i e) g = absurd (cc)
  row_promises c d _ (waits_for_acks t o fs i e f a) g = absurd (cc)
  row_promises c d _ (ends t o fs i e f a) g = absurd (cc)
  row_promises c d _ (clears i e f a) g = absurd (cc)
  row_promises c d _ (answers t o i e) g = absurd (cc)

  pub effect_promises : (e : Effect) → CoordinatorTurn place parent n h e → (d : Case)
      → has (is_promise d) (entries_written e.written) ≡ true → Promises d
  unfolding has
  effect_promises _ (of_case c row r) d g = row_promises c d row r g
  effect_promises _ (does_nothing i) d g = absurd (cc)
  effect_promises _ (begins p e i) d g = absurd (cc)
  effect_promises _ (gives_again p y u e i a) d g = absurd (cc)
  effect_promises _ (gives_fresh p y e i a) d g = absurd (cc)
  effect_promises _ (presumes y u i e) d g = absurd (cc)

  -- a case that accepts a ticket is Active
  module _ (c : Case) (t : Ticket) (A : Type 0)
      (one : (d : Case) (u : Ticket) → Hears h (Joined d u) → (coordinator_view place n d).standing ≡ Active
      → has_child (coordinator_view place n d).accepted u.child ≡ false → took c t ((d, u) ∷ []) ≡ true → A)
    where
      row_takes : (d : Case) (row : Row) → CaseTurn place parent n h d row
          → took c t (row_effect d row).accepts ≡ true → A
      row_takes d _ (accepts u i e f) g = one d u i e f g
      row_takes d _ (rests r) g = absurd (cc)
      row_takes d _ (invites q i e f a) g = absurd (cc)
      row_takes d _ (sends_work q u op i e f a) g = absurd (cc)
      row_takes d _ (finds_nobody i e f) g = absurd (cc)
      row_takes d _ (asks_for_votes PresumeAbort i e f a) g = absurd (cc)
      row_takes d _ (asks_for_votes PresumeCommit i e f a) g = absurd (cc)
      row_takes d _ (gives_up why p i e f) g = absurd (cc)
      row_takes d _ (counts_vote u w i f e) g = absurd (cc)
      row_takes d _ (reads_only u w ys PresumeAbort i e f) g = absurd (cc)
      row_takes d _ (reads_only u w ys PresumeCommit i e f) g = absurd (cc)
      row_takes d _ (commits u w ys PresumeAbort i e f a) g = absurd (cc)
      row_takes d _ (commits u w ys PresumeCommit i e f a) g = absurd (cc)
      row_takes d _ (promises u w ys p i e f) g = absurd (cc)
      row_takes d _ (hears_no u us PresumeAbort i e f) g = absurd (cc)
      row_takes d _ (hears_no u us PresumeCommit i e f) g = absurd (cc)
      row_takes d _ (aborts why us PresumeAbort i e f a) g = absurd (cc)
      row_takes d _ (aborts why us PresumeCommit i e f a) g = absurd (cc)
      row_takes d _ (passes_commit PresumeAbort i e f) g = absurd (cc)
      row_takes d _ (passes_commit PresumeCommit i e f) g = absurd (cc)
      row_takes d _ (passes_abort PresumeAbort i e f) g = absurd (cc)
      row_takes d _ (passes_abort PresumeCommit i e f) g = absurd (cc)
      row_takes d _ (repeats_yes j i e) g = absurd (cc)
      row_takes d _ (asks i e) g = absurd (cc)
      row_takes d _ (refuses j i e) g = absurd (cc)
      row_takes d _ (acknowledges o fs i e) g = absurd (cc)
      row_takes d _ (waits_for_acks u o fs i e f a) g = absurd (cc)
      row_takes d _ (ends u o fs i e f a) g = absurd (cc)
      row_takes d _ (clears i e f a) g = absurd (cc)
      row_takes d _ (answers u o i e) g = absurd (cc)

      pub effect_takes : (e : Effect) → CoordinatorTurn place parent n h e → took c t e.accepts ≡ true → A
      effect_takes _ (of_case d row r) g = row_takes d row r g
      effect_takes _ (does_nothing i) g = absurd (cc)
      effect_takes _ (begins p e i) g = absurd (cc)
      effect_takes _ (gives_again p y u e i a) g = absurd (cc)
      effect_takes _ (gives_fresh p y e i a) g = absurd (cc)
      effect_takes _ (presumes y u i e) g = absurd (cc)
