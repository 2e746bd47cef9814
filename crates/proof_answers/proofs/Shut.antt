-- A transaction that its root has begun, and whose case is closed there without a Commit, never commits:
-- through each step.
use Rattle.std.proofs.Common.{◌≡◌, ◌∙◌, inl, inr, ℕ, zero, suc, Bool, true, false, Option, Some, None, List, [], ◌++◌, take, refl, sym, ap, subst}
use Rattle.std.proofs.lemmas.List.{append-nil}
use Rattle.protocol.specs.declared.events.Input.{Input}
use Rattle.protocol.specs.declared.names.Case.{Case}
use Rattle.protocol.specs.declared.names.ProcessId.{ProcessId}
use Rattle.protocol.specs.declared.names.Txn.{Txn}
use Rattle.protocol.specs.declared.records.Record.{Record}
use Rattle.protocol.specs.declared.standings.Standing.TheVariants.{Collecting}
use Rattle.protocol.specs.declared.trees.TreeProcess.{TreeProcess}
use Rattle.protocol.specs.Memory.{Memory, Phase, Open, Asked, memory_of, next_txn}
use Rattle.protocol.specs.Names.{root_case, same_txn}
use Rattle.protocol.specs.Nodes.{AtRoot, Effect, Heard, Node, Place, after, begun_first, entries_written, fails_in, is_any_forced, kept}
use Rattle.protocol.specs.Reactions.{Does, reacts}
use Rattle.protocol.specs.Records.{boot_of, has, is_commit}
use Rattle.protocol.specs.Restarts.{reopens, restart_fails, restarted, trim_fails, trimmed, trims}
use Rattle.protocol.specs.Standings.{coordinator_view}
use Rattle.protocol.specs.World.{Move}
use Rattle.protocol.proofs.ListLaws.{kept-after}
use Rattle.proof_pairs.specs.turns.CoordinatorTurns.{CoordinatorTurn}
use Rattle.proof_pairs.specs.turns.Steps.{StepOf, TurnOf, failed_in, failed_passing, failed_reopening, failed_trimming, handled, heard_in, passed, reopened, trims_log}
use Rattle.proof_pairs.proofs.turns.Operators.{reopens_none}
use Rattle.proof_pairs.proofs.turns.Steps.{turn_of}
use Rattle.proof_processes.specs.Lasts.{Logs, logs_of}
use Rattle.proof_processes.proofs.Appends.{breaks_keeps, either_logs, loses}
use Rattle.proof_processes.proofs.Boots.{boot_written, trims_memory, turn_none}
use Rattle.proof_processes.proofs.CoordinatorAccepts.{turn_here}
use Rattle.proof_processes.proofs.CoordinatorKept.{Coordinated, IsLive, memory_behind, memory_empty}
use Rattle.proof_processes.proofs.CoordinatorPhases.{stands}
use Rattle.proof_processes.proofs.Ended.{Dead}
use Rattle.proof_processes.proofs.Remembering.{MovesMemory, OpensMemory, asks, by_begin, by_join, closes, coordinator_place, counts, keeps, moves, opens, remembers_at, takes}
use Rattle.proof_processes.proofs.RootCases.{InHistory, RootCases, begun}
use Rattle.proof_processes.proofs.RootDecisions.{commits_collecting, commits_now}
use Rattle.proof_processes.proofs.RootHistories.{among}
use Rattle.proof_processes.proofs.RootKnown.{fresh_ever}
use Rattle.proof_processes.proofs.Tests.{front_none, has-nil, in_either, in_first, in_front, in_none, in_second, not_both, right}
use Rattle.proof_processes.proofs.Trims.{trim_left}

-- the root has begun the transaction, and its case is closed with no Commit
pub record Shut (place : Place) (n : Node) (x : Txn) : Type 0 where
  pub known : among x n.begun ≡ true
  pub dead : Dead place n (root_case x)

begun_more : (x : Txn) (o : Option Txn) (ys : List Txn) → among x ys ≡ true
    → among x (begun_first o ys) ≡ true
begun_more x None ys e = e
begun_more x (Some y) ys e = right (same_txn y x) (among x ys) e

-- what is not in a list is in no end of it
last_none : (q : Record → Bool) (xs ys : List Record) → has q (xs ++ ys) ≡ false → has q ys ≡ false
last_none q xs ys y = by_test (has q ys) refl
  where
    by_test : (b : Bool) → has q ys ≡ b → has q ys ≡ false
    by_test true z = not_both q (has q (xs ++ ys)) (in_second q xs ys z) y
    by_test false z = z

module _ (me : ProcessId) (tree : List TreeProcess) (n : Node) (x : Txn) where
  abbrev place : Place
  place = coordinator_place me None tree

  abbrev c : Case
  c = root_case x

  -- A restart, whatever the case was.

  module _ (known : among x n.begun ≡ true) (none_kept : has (is_commit (root_case x)) (kept n) ≡ false)
      (none_ever : has (is_commit (root_case x)) n.durable ≡ false)
    where
      abbrev left : ℕ → List Record
      left j = n.forced ++ take j n.unforced

      none_left : (j : ℕ) → has (is_commit (root_case x)) (n.forced ++ take j n.unforced) ≡ false
      none_left j = by_test (has (is_commit c) (left j)) refl
        where
          was_kept : has (is_commit c) (left j) ≡ true → has (is_commit c) (kept n) ≡ true
          was_kept e = elim (in_either (is_commit c) n.forced (take j n.unforced) e) [
            | inl front ↦ in_first (is_commit c) n.forced n.unforced front
            | inr rest ↦ in_second (is_commit c) n.forced n.unforced
                (in_front (is_commit c) j n.unforced rest)
          ]

          by_test : (b : Bool) → has (is_commit c) (left j) ≡ b → has (is_commit c) (left j) ≡ false
          by_test true f = not_both (is_commit c) (has (is_commit c) (kept n)) (was_kept f) none_kept
          by_test false f = f

      none_reopened : (j : ℕ)
          → has (is_commit (root_case x)) (reopens AtRoot (n.forced ++ take j n.unforced)) ≡ false
      none_reopened j = reopens_none (is_commit c) (λ d ts. refl) (λ k. refl) AtRoot (left j)

      asleep : (k : Node) → k.heard ≡ []
          → IsLive (memory_of (coordinator_place me None tree) k (root_case x)).phase → ⊥
      asleep k e live = subst (λ (y : Memory). IsLive y.phase) (memory_empty place k c e) live

      pub reopened_shut : (j : ℕ)
          → Shut (coordinator_place me None tree) (restarted (coordinator_place me None tree) n j) x
      reopened_shut j =
          let rs = left j in
          let new = reopens AtRoot rs in
          record {
            known = known;
            dead = record {
              closed = λ up live. asleep (restarted place n j) refl live;
              none_kept = ap (has (is_commit c)) (append-nil (rs ++ new))
                  ∙ in_none (is_commit c) rs new (none_left j) (none_reopened j);
              none_ever = in_none (is_commit c) new (rs ++ n.durable) (none_reopened j)
                  (in_none (is_commit c) rs n.durable (none_left j) none_ever);
            };
          }

      pub reopening_shut : (j a f : ℕ)
          → Shut (coordinator_place me None tree) (restart_fails (coordinator_place me None tree) n j a f) x
      reopening_shut j a f =
          let rs = left j in
          let new = reopens AtRoot rs in
          record {
            known = known;
            dead = record {
              closed = λ up. absurd (cc);
              none_kept = ap (has (is_commit c)) (breaks_keeps (loses (logs_of n) j) new a f)
                  ∙ in_none (is_commit c) rs (take a new) (none_left j)
                  (front_none (is_commit c) a new (none_reopened j));
              none_ever = in_none (is_commit c) (take f (take j n.unforced ++ take a new)) n.durable
                  (front_none (is_commit c) f (take j n.unforced ++ take a new)
                  (in_none (is_commit c) (take j n.unforced) (take a new)
                  (last_none (is_commit c) n.forced (take j n.unforced) (none_left j))
                  (front_none (is_commit c) a new (none_reopened j)))) none_ever;
            };
          }

  -- Each step.

  module _ (cases : RootCases (coordinator_place me None tree) n)
      (kept_so : Coordinated (coordinator_place me None tree) n)
      (old : Shut (coordinator_place me None tree) n x)
    where
      abbrev m : Memory
      m = memory_of (coordinator_place me None tree) n (root_case x)

      in_history : InHistory n (root_case x)
      in_history = begun x refl old.known

      module _ (h : Heard) (e : Effect) (t : TurnOf (coordinator_place me None tree) n h e)
          (r : reacts (coordinator_place me None tree) n h ≡ Does e)
        where
          abbrev new : List Record
          new = entries_written e.written

          turn : CoordinatorTurn (coordinator_place me None tree) None n h e
          turn = turn_here me None tree n h e r

          asked_if_collecting : (coordinator_view (coordinator_place me None tree) n (root_case x)).standing
              ≡ Collecting
              → (memory_of (coordinator_place me None tree) n (root_case x)).phase ≡ Asked
          asked_if_collecting s = (kept_so.together t.up c).collecting_is_asked
              (stands me None tree n h c Collecting s)

          none_new : commits_now (root_case x) e ≡ false
          none_new = by_test (commits_now c e) refl
            where
              by_test : (b : Bool) → commits_now c e ≡ b → commits_now c e ≡ false
              by_test true f = absurd (old.dead.closed t.up
                  (subst IsLive (sym (asked_if_collecting (commits_collecting place n h e turn c f))) tt))
              by_test false f = f

          abbrev now : Phase
          now = (remembers_at None me (boot_of (kept n)) (root_case x)
              (memory_of (coordinator_place me None tree) n (root_case x)) h.input).phase

          stays_closed : IsLive now → ⊥
          stays_closed = by_move (moves None me (boot_of (kept n)) c m h.input)
            where
              shut : (ph : Phase) → m.phase ≡ ph → IsLive ph → ⊥
              shut ph f live = old.dead.closed t.up (subst IsLive (sym f) live)

              begins_not : (i : Input) → OpensMemory None me (boot_of (kept n)) c m i → ⊥
              begins_not _ (by_join q j y below none g) = cc
              begins_not _ (by_begin p top g) =
                  fresh_ever me tree n t.up cases (next_txn me (boot_of (kept n)) m p) p
                  (ap (λ (y : Case). next_txn me (boot_of (kept n)) (memory_of place n y) p) g)
                  (subst (InHistory n) (sym g) in_history)

              by_move : {k : Memory} → MovesMemory None me (boot_of (kept n)) c m h.input k → IsLive k.phase
                  → ⊥
              by_move (keeps f p l) live = old.dead.closed t.up (subst IsLive p live)
              by_move (asks a o p l) live = shut Open o tt
              by_move (closes a o p l) live = subst IsLive p live
              by_move (takes j u i o b p a v) live = shut Open o tt
              by_move (counts u w y p a v) live = shut Asked y.asked tt
              by_move (opens o p a v) live = begins_not h.input o

          ever_after : has (is_commit (root_case x)) (after n h e).durable ≡ false
          ever_after =
              either_logs n new (is_any_forced e.written) (λ (l : Logs). has (is_commit c) l.durable ≡ false)
              (λ b. in_none (is_commit c) new (kept n ++ n.durable) none_new
              (in_none (is_commit c) (kept n) n.durable old.dead.none_kept old.dead.none_ever))
              (λ b. old.dead.none_ever)

          after_shut : Shut (coordinator_place me None tree) (after n h e) x
          after_shut = record {
            known = begun_more x e.begun n.begun old.known;
            dead = record {
              closed = λ up live. stays_closed (subst (λ (y : Memory). IsLive y.phase)
                  (memory_behind me None tree n h (after n h e) c refl
                  (boot_written n h e (turn_none place.role place n h e t.turn))) live);
              none_kept = ap (has (is_commit c)) (kept-after n h e)
                  ∙ in_none (is_commit c) (kept n) new old.dead.none_kept none_new;
              none_ever = ever_after;
            };
          }

          failing_shut : (a f : ℕ) → Shut (coordinator_place me None tree) (fails_in n h e a f) x
          failing_shut a f = record {
            known = begun_more x e.begun n.begun old.known;
            dead = record {
              closed = λ up. absurd (cc);
              none_kept = ap (has (is_commit c)) (breaks_keeps (logs_of n) new a f)
                  ∙ in_none (is_commit c) (kept n) (take a new) old.dead.none_kept
                  (front_none (is_commit c) a new none_new);
              none_ever = in_none (is_commit c) (take f (n.unforced ++ take a new)) n.durable
                  (front_none (is_commit c) f (n.unforced ++ take a new)
                  (in_none (is_commit c) n.unforced (take a new)
                  (last_none (is_commit c) n.forced n.unforced old.dead.none_kept)
                  (front_none (is_commit c) a new none_new))) old.dead.none_ever;
            };
          }

      -- a trim leaves no Commit that was not there
      none_short : has (is_commit (root_case x)) (trimmed AtRoot (kept n)) ≡ false
      none_short = by_test (has (is_commit c) (trimmed AtRoot (kept n))) refl
        where
          by_test : (b : Bool) → has (is_commit c) (trimmed AtRoot (kept n)) ≡ b
              → has (is_commit c) (trimmed AtRoot (kept n)) ≡ false
          by_test true f = elim (trim_left (is_commit c) (λ j. refl) AtRoot (kept n) f) [
            | inl before ↦ not_both (is_commit c) (has (is_commit c) (kept n)) before old.dead.none_kept
            | inr none ↦ not_both (is_commit c) (has (is_commit c) []) none (has-nil (is_commit c))
          ]
          by_test false f = f

      trimmed_dead : (k : Node) → kept k ≡ trimmed AtRoot (kept n) ++ []
          → k.durable ≡ trimmed AtRoot (kept n) ++ n.durable
          → (k.failed ≡ false → IsLive (memory_of (coordinator_place me None tree) k (root_case x)).phase → ⊥)
          → Dead (coordinator_place me None tree) k (root_case x)
      trimmed_dead k l d closed = record {
        closed = closed;
        none_kept = ap (has (is_commit c)) (l ∙ append-nil (trimmed AtRoot (kept n))) ∙ none_short;
        none_ever = ap (has (is_commit c)) d
            ∙ in_none (is_commit c) (trimmed AtRoot (kept n)) n.durable none_short old.dead.none_ever;
      }

      -- its device failed, and nothing else
      falls : Shut (coordinator_place me None tree) (record n { failed = true }) x
      falls = record {
        known = old.known;
        dead = record {
          closed = λ up. absurd (cc);
          none_kept = old.dead.none_kept;
          none_ever = old.dead.none_ever;
        };
      }

      trim_failed : (a : ℕ) → Shut (coordinator_place me None tree)
          (trim_fails (coordinator_place me None tree) n a) x
      trim_failed zero = falls
      trim_failed (suc a) = record { known = old.known; dead = trimmed_dead _ refl refl (λ up. absurd (cc)) }

      pub shut_last : (m : Move) (e : Effect) (k : Node) → StepOf (coordinator_place me None tree) n m e k
          → Shut (coordinator_place me None tree) k x
      shut_last m _ _ (handled i g hp np r) =
          let h = heard_in m i in
          after_shut h g (turn_of place n h g r) r
      shut_last m _ _ (failed_in i f g fl hp np r) =
          let h = heard_in m i in
          failing_shut h g (turn_of place n h g r) r f.appended f.forced
      shut_last m _ _ (passed i hp r) = old
      shut_last m _ _ (failed_passing i f fl hp r) = falls
      shut_last m _ _ (reopened j hp) = reopened_shut old.known old.dead.none_kept old.dead.none_ever j
      shut_last m _ _ (failed_reopening j f fl hp) =
          reopening_shut old.known old.dead.none_kept old.dead.none_ever j f.appended f.forced
      shut_last m _ _ (trims_log hp up) = record {
        known = old.known;
        dead = trimmed_dead (trims place n) refl refl
            (λ u live. old.dead.closed up (subst (λ (y : Memory). IsLive y.phase)
            (trims_memory place n c) live));
      }
      shut_last m _ _ (failed_trimming f fl hp up) = trim_failed f.appended
