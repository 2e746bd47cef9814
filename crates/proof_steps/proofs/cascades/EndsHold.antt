-- In every run a case of a cascaded coordinator that promised and ended was decided.
use Rattle.std.proofs.Common.{◌≡◌, ◌∙◌, ◌&&◌, inl, inr, ℕ, zero, suc, true, false, Some, List, [], ◌++◌, take, drop, append_assoc, refl, sym, ap, subst}
use Rattle.std.proofs.lemmas.List.{append-nil, take-append-drop}
use Rattle.protocol.specs.declared.names.Case.{Case}
use Rattle.protocol.specs.declared.names.ProcessId.{ProcessId}
use Rattle.protocol.specs.declared.records.Record.{Record}
use Rattle.protocol.specs.declared.standings.Standing.TheVariants.{Unknown}
use Rattle.protocol.specs.declared.trees.TreeProcess.{TreeProcess}
use Rattle.protocol.specs.Records.{has, is_abort, is_commit, is_end, is_prepare}
use Rattle.protocol.specs.Memory.{Idle}
use Rattle.protocol.specs.Nodes.{Below, Effect, Heard, Node, Place, Role, after, entries_written, is_any_forced, kept, opened_node, place_of, role_of, IsCoordinator}
use Rattle.protocol.specs.Restarts.{coordinator_reopens, case_stays, left_of, trim_fails, trimmed}
use Rattle.protocol.specs.World.{IsRun, Made, Move, World, makes, opens}
use Rattle.protocol.proofs.RunLaws.{makes_at}
use Rattle.proof_pairs.specs.turns.CoordinatorTurns.{CoordinatorTurn}
use Rattle.proof_pairs.specs.turns.Steps.{StepOf, failed_in, failed_passing, failed_reopening, failed_trimming, handled, heard_in, passed, reopened, trims_log}
use Rattle.proof_pairs.proofs.turns.CoordinatorReactions.{coordinator_turn_of}
use Rattle.proof_pairs.proofs.turns.Steps.{step_of}
use Rattle.proof_processes.specs.Lasts.{Logs, logs_of, standing}
use Rattle.proof_processes.proofs.Appends.{breaks_keeps, either_logs, loses}
use Rattle.proof_processes.proofs.CaseOrders.{AllFit}
use Rattle.proof_processes.proofs.CoordinatorLogs.{all_fit, fits_effect}
use Rattle.proof_processes.proofs.Phases.{standing_at}
use Rattle.proof_processes.proofs.RootLogs.{recorded_stands}
use Rattle.proof_processes.proofs.Tests.{both}
use Rattle.proof_processes.proofs.Worlds.{put}
use Rattle.proof_steps.proofs.cascades.Ends.{EndsDecided, ends_all, ends_front, ends_more, ends_written, none_reopens, none_taken, turn_ends}
use Rattle.proof_steps.proofs.cascades.Trimmed.{of_abort, of_commit, of_end, of_prepare, trimmed_has}

-- a trim leaves all records of a case, or none
ends_trimmed : (p : ProcessId) (rs : List Record) → EndsDecided rs → EndsDecided (trimmed (Below p) rs)
ends_trimmed p rs old c e f =
    let b = both (case_stays rs (Some c)) (has (is_end c) rs)
    (sym (trimmed_has p c (is_end c) (of_end c) rs (λ k. refl)) ∙ e) in
    let g = both (case_stays rs (Some c)) (has (is_prepare c) rs)
    (sym (trimmed_has p c (is_prepare c) (of_prepare c) rs (λ k. refl)) ∙ f) in
    elim (old c b.1 g.1) [
      | inl x ↦ inl (trimmed_has p c (is_commit c) (of_commit c) rs (λ k. refl)
          ∙ ap (λ y. y && has (is_commit c) rs) b.0 ∙ x)
      | inr x ↦ inr (trimmed_has p c (is_abort c) (of_abort c) rs (λ k. refl)
          ∙ ap (λ y. y && has (is_abort c) rs) b.0 ∙ x)
    ]

module _ (p : ProcessId) (me : ProcessId) (tree : List TreeProcess) (n : Node) (fit : AllFit [] (kept n))
    (old : EndsDecided (kept n)) where
  abbrev place : Place
  place = record { me = me; role = Below p; tree = tree }

  abbrev Ends : Node → Type 0
  Ends k = EndsDecided (kept k)

  appended : (h : Heard) (e : Effect) → CoordinatorTurn place (Some p) n h e → Ends (after n h e)
  appended h e t =
      let new = entries_written e.written in
      let all = ends_all (kept n) new old (fits_effect place (Some p) n h e t fit)
      (turn_ends place (Some p) n h e t) in
      either_logs n new (is_any_forced e.written) (λ (l : Logs). EndsDecided (standing l))
      (λ b. subst EndsDecided (sym (append-nil (kept n ++ new))) all)
      (λ b. subst EndsDecided (append_assoc n.forced n.unforced new) all)

  left_whole : (k : ℕ) → (left_of n k ++ drop k n.unforced) ≡ kept n
  left_whole k = append_assoc n.forced (take k n.unforced) (drop k n.unforced)
      ∙ ap (λ l. n.forced ++ l) (take-append-drop k n.unforced)

  pub ends_left : (k : ℕ) → EndsDecided (left_of n k)
  ends_left k =
      ends_front (left_of n k) (drop k n.unforced) (subst (AllFit []) (sym (left_whole k)) fit)
      (subst EndsDecided (sym (left_whole k)) old)

  trim_failed : (a : ℕ) → Ends (trim_fails place n a)
  trim_failed zero = old
  trim_failed (suc a) = subst EndsDecided (sym (append-nil (trimmed (Below p) (kept n))))
      (ends_trimmed p (kept n) old)

  pub ends_step : (m : Move) (e : Effect) (k : Node) → StepOf place n m e k → Ends k
  ends_step m _ _ (handled i g hp np r) =
      appended (heard_in m i) g (coordinator_turn_of place n (heard_in m i) g r)
  ends_step m _ _ (failed_in i f g fl hp np r) =
      let t = coordinator_turn_of place n (heard_in m i) g r in
      let new = entries_written g.written in
      subst EndsDecided (sym (breaks_keeps (logs_of n) new f.appended f.forced))
      (ends_written (kept n) new f.appended old (fits_effect place (Some p) n (heard_in m i) g t fit)
      (turn_ends place (Some p) n (heard_in m i) g t))
  ends_step m _ _ (passed i hp r) = old
  ends_step m _ _ (failed_passing i f fl hp r) = old
  ends_step m _ _ (reopened k hp) =
      let rs = left_of n k in
      subst EndsDecided (sym (append-nil (rs ++ coordinator_reopens rs)))
      (ends_more rs (coordinator_reopens rs) (λ c. none_reopens (is_end c) (λ j. refl) (λ d ts. refl) rs)
      (λ c. none_reopens (is_prepare c) (λ j. refl) (λ d ts. refl) rs) (ends_left k))
  ends_step m _ _ (failed_reopening k f fl hp) =
      let rs = left_of n k in
      let new = coordinator_reopens rs in
      subst EndsDecided (sym (breaks_keeps (loses (logs_of n) k) new f.appended f.forced))
      (ends_more rs (take f.appended new) (λ c. none_taken (is_end c) (λ j. refl)
      (λ d ts. refl) f.appended rs)
      (λ c. none_taken (is_prepare c) (λ j. refl) (λ d ts. refl) f.appended rs) (ends_left k))
  ends_step m _ _ (trims_log hp up) =
      subst EndsDecided (sym (append-nil (trimmed (Below p) (kept n)))) (ends_trimmed p (kept n) old)
  ends_step m _ _ (failed_trimming f fl hp up) = trim_failed f.appended

-- a log that is empty
none_ends : EndsDecided (kept opened_node)
unfolding has
none_ends c e f = absurd (cc)

pub all_end : (tree : List TreeProcess) (es : List Made) (w : World) → IsRun tree es w → (q p : ProcessId)
    → role_of tree q ≡ Below p → EndsDecided (kept (w.at q))
all_end tree _ _ opens q p below = none_ends
all_end tree _ _ (makes es w m e w' run stands step) q p below =
    let at = makes_at tree w m e w' step in
    let x = m.step.process in
    let P : ProcessId → Node → Type 0 = λ y k. (p : ProcessId) → role_of tree y ≡ Below p
    → EndsDecided (kept k) in
    subst (λ (z : World). P q (z.at q)) (sym at.world)
    (put P x q at.node w.at
    (λ r i. ends_step r x tree (w.at x)
    (all_fit tree es w run x (subst IsCoordinator (sym i) tt))
    (all_end tree es w run x r i) m e at.node
    (subst (λ (z : Role). StepOf (record { me = x; role = z; tree = tree }) (w.at x) m e at.node) i
    (step_of (place_of tree x) (w.at x) m e at.node at.made)))
    (all_end tree es w run q)) p below
