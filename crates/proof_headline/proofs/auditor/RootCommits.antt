-- While a root is up, each Commit that it keeps is in its forced front, over every run.
use Rattle.std.proofs.Common.{◌≡◌, ℕ, zero, suc, false, None, List, [], refl, sym, subst}
use Rattle.protocol.specs.declared.names.Case.{Case}
use Rattle.protocol.specs.declared.names.ProcessId.{ProcessId}
use Rattle.protocol.specs.declared.names.Presumption.TheVariants.{PresumeAbort, PresumeCommit}
use Rattle.protocol.specs.declared.trees.TreeProcess.{TreeProcess}
use Rattle.protocol.specs.Records.{has, is_commit}
use Rattle.protocol.specs.Nodes.{Role, AtRoot, Place, Node, Heard, Effect, place_of, role_of, entries_written, is_any_forced, after}
use Rattle.protocol.specs.CoordinatorRows.{Row}
use Rattle.protocol.specs.Reactions.{Does, reacts, row_effect}
use Rattle.protocol.specs.Restarts.{trim_fails}
use Rattle.protocol.specs.World.{World, Move, Made, IsRun, opens, makes}
use Rattle.protocol.proofs.RunLaws.{makes_at}
use Rattle.proof_pairs.specs.turns.CoordinatorTurns.{CaseTurn, rests, invites, accepts, sends_work, finds_nobody, asks_for_votes, gives_up, counts_vote, reads_only, commits, promises, hears_no, aborts, passes_commit, passes_abort, repeats_yes, asks, refuses, acknowledges, waits_for_acks, ends, clears, answers, CoordinatorTurn, does_nothing, of_case, begins, gives_again, gives_fresh, presumes}
use Rattle.proof_pairs.specs.turns.Steps.{StepOf, heard_in, handled, failed_in, passed, failed_passing, reopened, failed_reopening, trims_log, failed_trimming}
use Rattle.proof_pairs.proofs.turns.Steps.{step_of}
use Rattle.proof_processes.specs.Lasts.{Logs, logs_of}
use Rattle.proof_processes.proofs.Appends.{either_logs}
use Rattle.proof_processes.proofs.CoordinatorAccepts.{turn_here}
use Rattle.proof_processes.proofs.Remembering.{coordinator_place}
use Rattle.proof_processes.proofs.RootDecisions.{commits_now}
use Rattle.proof_processes.proofs.Tests.{in_none}
use Rattle.proof_processes.proofs.Worlds.{put}

-- A Commit is written forced.

module _ (place : Place) (n : Node) (h : Heard) (d : Case) where
  row_forces : (c : Case) (row : Row) → CaseTurn place None n h c row
      → is_any_forced (row_effect c row).written ≡ false → commits_now d (row_effect c row) ≡ false
  unfolding has
  row_forces c _ (commits t w ys PresumeAbort i e f a) g = absurd (cc)
  row_forces c _ (commits t w ys PresumeCommit i e f a) g = absurd (cc)
  row_forces c _ (passes_commit p i e f) g = absurd (let x = i.is_parent in cc)
  row_forces c _ (passes_abort p i e f) g = absurd (let x = i.is_parent in cc)
  row_forces c _ (promises t w ys p i e f) g = absurd (cc)
  row_forces c _ (rests r) g = refl
  row_forces c _ (invites q i e f a) g = refl
  row_forces c _ (accepts t i e f) g = refl
  row_forces c _ (sends_work q t op i e f a) g = refl
  row_forces c _ (finds_nobody i e f) g = refl
  row_forces c _ (asks_for_votes PresumeAbort i e f a) g = refl
  row_forces c _ (asks_for_votes PresumeCommit i e f a) g = refl
  row_forces c _ (gives_up why p i e f) g = refl
  row_forces c _ (counts_vote t w i f e) g = refl
  row_forces c _ (reads_only t w ys PresumeAbort i e f) g = refl
  row_forces c _ (reads_only t w ys PresumeCommit i e f) g = refl
  row_forces c _ (hears_no t us PresumeAbort i e f) g = refl
  row_forces c _ (hears_no t us PresumeCommit i e f) g = refl
  row_forces c _ (aborts why us PresumeAbort i e f a) g = refl
  row_forces c _ (aborts why us PresumeCommit i e f a) g = refl
  row_forces c _ (repeats_yes j i e) g = absurd (let x = i.is_parent in cc)
  row_forces c _ (asks i e) g = refl
  row_forces c _ (refuses j i e) g = absurd (let x = i.is_parent in cc)
  row_forces c _ (acknowledges o fs i e) g = absurd (let x = i.is_parent in cc)
  row_forces c _ (waits_for_acks t o fs i e f a) g = refl
  row_forces c _ (ends t o fs i e f a) g = refl
  row_forces c _ (clears i e f a) g = refl
  row_forces c _ (answers t o i e) g = refl

  turn_forces : (e : Effect) → CoordinatorTurn place None n h e → is_any_forced e.written ≡ false
      → commits_now d e ≡ false
  unfolding has
  turn_forces _ (of_case c row t) g = row_forces c row t g
  turn_forces _ (does_nothing i) g = refl
  turn_forces _ (begins p e i) g = refl
  turn_forces _ (gives_again p y u e i a) g = refl
  turn_forces _ (gives_fresh p y e i a) g = refl
  turn_forces _ (presumes y u i e) g = refl

-- Steps.

-- after the forced front there is no Commit
abbrev pub CommitsForced : Logs → Type 0
CommitsForced l = l.failed ≡ false → (c : Case) → has (is_commit c) l.unforced ≡ false

none_left : (c : Case) → has (is_commit c) [] ≡ false
unfolding has
none_left c = refl

module _ (me : ProcessId) (tree : List TreeProcess) (n : Node) (old : CommitsForced (logs_of n)) where
  abbrev place : Place
  place = coordinator_place me None tree

  handled_so : (h : Heard) (e : Effect) → reacts (coordinator_place me None tree) n h ≡ Does e
      → CommitsForced (logs_of (after n h e))
  handled_so h e r =
      let new = entries_written e.written in
      either_logs n new (is_any_forced e.written) CommitsForced (λ b up c. none_left c)
      (λ b up c. in_none (is_commit c) n.unforced new (old up c)
      (turn_forces place n h c e (turn_here me None tree n h e r) b))

  trim_failed : (a : ℕ) → CommitsForced (logs_of (trim_fails (coordinator_place me None tree) n a))
  trim_failed zero up c = absurd (cc)
  trim_failed (suc a) up c = absurd (cc)

  forced_last : (m : Move) (e : Effect) (k : Node) → StepOf (coordinator_place me None tree) n m e k
      → CommitsForced (logs_of k)
  forced_last m _ _ (handled i g hp np r) = handled_so (heard_in m i) g r
  forced_last m _ _ (failed_in i f g fl hp np r) = λ up c. absurd (cc)
  forced_last m _ _ (passed i hp r) = old
  forced_last m _ _ (failed_passing i f fl hp r) = λ up c. absurd (cc)
  forced_last m _ _ (reopened j hp) = λ up c. none_left c
  forced_last m _ _ (failed_reopening j f fl hp) = λ up c. absurd (cc)
  forced_last m _ _ (trims_log hp up) = λ u c. none_left c
  forced_last m _ _ (failed_trimming f fl hp up) = trim_failed f.appended

-- Runs.

abbrev at : ProcessId → List TreeProcess → Role → Place
at q tree r = record { me = q; role = r; tree = tree }

pub commits_forced : (tree : List TreeProcess) (es : List Made) (w : World) → IsRun tree es w
    → (q : ProcessId)
    → role_of tree q ≡ AtRoot → CommitsForced (logs_of (w.at q))
commits_forced tree _ _ opens q role = λ up c. none_left c
commits_forced tree _ _ (makes es w m e w' run stands step) q role =
    let now = makes_at tree w m e w' step in
    let x = m.step.process in
    let s = step_of (place_of tree x) (w.at x) m e now.node now.made in
    let P : ProcessId → Node → Type 0 = λ y k. role_of tree y ≡ AtRoot → CommitsForced (logs_of k) in
    subst (λ (y : World). P q (y.at q)) (sym now.world)
    (put P x q now.node w.at
    (λ r. forced_last x tree (w.at x) (commits_forced tree es w run x r) m e now.node
    (subst (λ (o : Role). StepOf (at x tree o) (w.at x) m e now.node) r s))
    (commits_forced tree es w run q)) role
