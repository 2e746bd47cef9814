-- The root's commits are forced, while it is up.
use Rattle.std.proofs.Common.{◌≡◌, inl, inr, ℕ, zero, suc, Bool, true, false, None, List, [], ◌∷◌, refl}
use Rattle.protocol.specs.declared.names.Case.{Case}
use Rattle.protocol.specs.declared.names.ProcessId.{ProcessId}
use Rattle.protocol.specs.declared.names.Presumption.TheVariants.{PresumeAbort, PresumeCommit}
use Rattle.protocol.specs.declared.records.Record.{Record}
use Rattle.protocol.specs.declared.trees.TreeProcess.{TreeProcess}
use Rattle.protocol.specs.Records.{has, is_commit}
use Rattle.protocol.specs.Nodes.{Effect, Heard, Node, Place, Written, appends, entries_written, is_any_forced, kept}
use Rattle.protocol.specs.CoordinatorRows.{Row}
use Rattle.protocol.specs.Restarts.{trim_fails}
use Rattle.protocol.specs.World.{Move}
use Rattle.proof_pairs.specs.turns.CoordinatorTurns.{CaseTurn, CoordinatorTurn, aborts, accepts, acknowledges, clears, answers, asks, asks_for_votes, begins, commits, counts_vote, does_nothing, ends, finds_nobody, gives_again, gives_fresh, gives_up, hears_no, invites, of_case, passes_abort, passes_commit, presumes, promises, reads_only, refuses, repeats_yes, rests, sends_work, waits_for_acks}
use Rattle.proof_pairs.specs.turns.Steps.{StepOf, heard_in, handled, failed_in, passed, failed_passing, reopened, failed_reopening, trims_log, failed_trimming}
use Rattle.proof_pairs.proofs.turns.CoordinatorReactions.{coordinator_turn_of}
use Rattle.proof_pairs.proofs.turns.Steps.{turn_of}
use Rattle.proof_processes.specs.Lasts.{Nested, logs_of}
use Rattle.proof_processes.proofs.Remembering.{coordinator_place}
use Rattle.proof_processes.proofs.Tests.{has-nil, in_either, in_none}

-- no commit is unforced
abbrev pub NoCommitUnforced : Node → Type 0
NoCommitUnforced n = (c : Case) → has (is_commit c) n.unforced ≡ false

-- while the process is up
abbrev pub CommitsForced : Node → Type 0
CommitsForced n = n.failed ≡ false → NoCommitUnforced n

-- what an input that forces nothing appends is no commit
abbrev Uncommitted : List Written → Type 0
Uncommitted ws = is_any_forced ws ≡ false → (c : Case) → has (is_commit c) (entries_written ws) ≡ false

appended : (n : Node) (ws : List Written) → NoCommitUnforced n → Uncommitted ws
    → NoCommitUnforced (appends n ws)
appended n ws old none c = by_force (is_any_forced ws) refl
  where
    by_force : (b : Bool) → is_any_forced ws ≡ b → has (is_commit c) (appends n ws).unforced ≡ false
    by_force true f = rw f (has-nil (is_commit c))
    by_force false f = rw f (in_none (is_commit c) n.unforced (entries_written ws) (old c) (none f c))

none_written : Uncommitted []
none_written e c = has-nil (is_commit c)

one_other : (q : Record → Bool) (r : Record) → q r ≡ false → has q (r ∷ []) ≡ false
unfolding has
one_other q r e = rw e refl

one_written : (r : Record) (b : Bool) → ((c : Case) → is_commit c r ≡ false)
    → Uncommitted (record { entry = r; is_forced = b } ∷ [])
one_written r b none e c = one_other (is_commit c) r (none c)

forced_written : (r : Record) → Uncommitted (record { entry = r; is_forced = true } ∷ [])
forced_written r e c = absurd (cc)

module _ (me : ProcessId) (tree : List TreeProcess) (n : Node) (h : Heard) where
  abbrev place : Place
  place = coordinator_place me None tree

  case_uncommitted : (c : Case) (row : Row) → CaseTurn place None n h c row → Uncommitted row.written
  case_uncommitted c _ (rests r) = none_written
  case_uncommitted c _ (invites q i e f a) = none_written
  case_uncommitted c _ (accepts t i e f) = none_written
  case_uncommitted c _ (sends_work q t op i e f a) = none_written
  case_uncommitted c _ (finds_nobody i e f) = none_written
  case_uncommitted c _ (asks_for_votes PresumeAbort i e f a) = none_written
  case_uncommitted c _ (asks_for_votes PresumeCommit i e f a) = forced_written _
  case_uncommitted c _ (gives_up why p i e f) = none_written
  case_uncommitted c _ (counts_vote t w i f e) = none_written
  case_uncommitted c _ (reads_only t w ys PresumeAbort i e f) = none_written
  case_uncommitted c _ (reads_only t w ys PresumeCommit i e f) = one_written _ false (λ d. refl)
  case_uncommitted c _ (commits t w ys PresumeAbort i e f a) = forced_written _
  case_uncommitted c _ (commits t w ys PresumeCommit i e f a) = forced_written _
  case_uncommitted c _ (promises t w ys p i e f) = absurd (cc)
  case_uncommitted c _ (hears_no t us PresumeAbort i e f) = one_written _ false (λ d. refl)
  case_uncommitted c _ (hears_no t us PresumeCommit i e f) = forced_written _
  case_uncommitted c _ (aborts why us PresumeAbort i e f a) = one_written _ false (λ d. refl)
  case_uncommitted c _ (aborts why us PresumeCommit i e f a) = forced_written _
  case_uncommitted c _ (passes_commit p i e f) = absurd (let x = i.is_parent in cc)
  case_uncommitted c _ (passes_abort p i e f) = absurd (let x = i.is_parent in cc)
  case_uncommitted c _ (repeats_yes j i e) = none_written
  case_uncommitted c _ (asks i e) = none_written
  case_uncommitted c _ (refuses j i e) = none_written
  case_uncommitted c _ (acknowledges o fs i e) = none_written
  case_uncommitted c _ (waits_for_acks t o fs i e f a) = none_written
  case_uncommitted c _ (ends t o fs i e f a) = one_written _ _ (λ d. refl)
  case_uncommitted c _ (clears i e f a) = forced_written _
  case_uncommitted c _ (answers t o i e) = none_written

  turn_uncommitted : (e : Effect) → CoordinatorTurn place None n h e → Uncommitted e.written
  turn_uncommitted _ (does_nothing i) = none_written
  turn_uncommitted _ (of_case c row t) = case_uncommitted c row t
  turn_uncommitted _ (begins p a i) = none_written
  turn_uncommitted _ (gives_again p d t a i e) = none_written
  turn_uncommitted _ (gives_fresh p d a i e) = none_written
  turn_uncommitted _ (presumes x t i e) = none_written

module _ (me : ProcessId) (tree : List TreeProcess) (m : Move) where
  abbrev here : Place
  here = coordinator_place me None tree

  pub commits_forced : (n : Node) (e : Effect) (k : Node) → StepOf here n m e k → CommitsForced n
      → CommitsForced k
  commits_forced n _ _ (handled i g hp np r) old up =
      appended n g.written (old (turn_of here n (heard_in m i) g r).up)
      (turn_uncommitted me tree n (heard_in m i) g (coordinator_turn_of here n (heard_in m i) g r))
  commits_forced n _ _ (failed_in i f g fl hp np r) old up = absurd (cc)
  commits_forced n _ _ (passed i hp r) old up = old up
  commits_forced n _ _ (failed_passing i f fl hp r) old up = absurd (cc)
  commits_forced n _ _ (reopened j hp) old up = λ c. has-nil (is_commit c)
  commits_forced n _ _ (failed_reopening j f fl hp) old up = absurd (cc)
  commits_forced n _ _ (trims_log hp ok) old up = λ c. has-nil (is_commit c)
  commits_forced n _ _ (failed_trimming f fl hp ok) old up = by_front f.appended up
    where
      by_front : (j : ℕ) → (trim_fails here n j).failed ≡ false → NoCommitUnforced (trim_fails here n j)
      by_front zero e = absurd (cc)
      by_front (suc j) e = absurd (cc)

-- a commit that stands was once in the forced front
pub commit_is_old : (n : Node) → NoCommitUnforced n → Nested (logs_of n) → (c : Case)
    → has (is_commit c) (kept n) ≡ true → has (is_commit c) n.durable ≡ true
commit_is_old n none nested c e = elim (in_either (is_commit c) n.forced n.unforced e) [
  | inl front ↦ nested.forced_is_old (is_commit c) front
  | inr behind ↦ absurd (let f = none c in cc)
]
