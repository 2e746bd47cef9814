-- A transaction that the root ended by an abort never commits: through each input.
use Rattle.std.proofs.Common.{◌≡◌, ◌∙◌, ◌||◌, ◌⊎◌, inl, inr, ℕ, Bool, true, false, Option, Some, None, List, [], ◌++◌, take, refl, sym, ap, subst, arith, append_assoc}
use Rattle.std.specs.Prelude.{reverse}
use Rattle.std.specs.List.{list_any}
use Rattle.std.proofs.lemmas.List.{append-nil}
use Rattle.protocol.specs.declared.names.Case.{Case}
use Rattle.protocol.specs.declared.names.ProcessId.{ProcessId}
use Rattle.protocol.specs.declared.names.Ticket.{Ticket}
use Rattle.protocol.specs.declared.names.Txn.{Txn}
use Rattle.protocol.specs.declared.records.Record.{Record}
use Rattle.protocol.specs.declared.standings.Standing.TheVariants.{Unknown, Active, Collecting}
use Rattle.protocol.specs.declared.events.Input.{Input}
use Rattle.protocol.specs.declared.events.Told.{Told}
use Rattle.protocol.specs.declared.trees.TreeProcess.{TreeProcess}
use Rattle.protocol.specs.Names.{root_case}
use Rattle.protocol.specs.Records.{has, none_of, is_end, is_commit, is_abort, is_prepare, is_collecting, owing_by, boot_of}
use Rattle.protocol.specs.Nodes.{Place, Node, kept, Heard, Effect, entries_written, is_any_forced, told_first, after, fails_in}
use Rattle.protocol.specs.Memory.{Memory, Phase, Idle, Open, Asked, Over, memory_of, next_txn}
use Rattle.protocol.specs.Standings.{coordinator_view, phase_standing}
use Rattle.protocol.specs.Outcomes.{is_told_aborted}
use Rattle.protocol.specs.Reactions.{Does, reacts}
use Rattle.protocol.proofs.ListLaws.{kept-after}
use Rattle.proof_model.proofs.StandingLaws.{active_facts, phase_active}
use Rattle.proof_pairs.specs.turns.CoordinatorTurns.{CoordinatorTurn}
use Rattle.proof_pairs.specs.turns.Steps.{TurnOf}
use Rattle.proof_processes.specs.Lasts.{Logs, logs_of, Nested}
use Rattle.proof_processes.proofs.Appends.{forces, writes, either_logs, breaks_keeps}
use Rattle.proof_processes.proofs.Boots.{turn_none, boot_written}
use Rattle.proof_processes.proofs.CoordinatorAccepts.{turn_here}
use Rattle.proof_processes.proofs.CoordinatorKept.{Coordinated, IsLive, memory_behind}
use Rattle.proof_processes.proofs.CoordinatorPhases.{stands, abort_phase}
use Rattle.proof_processes.proofs.Phases.{Together, active_unrecorded, collecting_undecided}
use Rattle.proof_processes.proofs.Remembering.{coordinator_place, remembers_at, OpensMemory, by_begin, by_join, MovesMemory, keeps, asks, closes, takes, counts, opens, moves}
use Rattle.proof_processes.proofs.Ended.{IsEnded, by_telling, by_abort, by_finding, CommitStands, Never, ended_history}
use Rattle.proof_processes.proofs.RootCases.{InHistory, RootCases}
use Rattle.proof_processes.proofs.RootDecisions.{commits_now, aborts_now, tells_now, commits_collecting, AbortsCollecting, aborts_collecting_case, TellsAborted, with_abort, dropping, tells_aborted}
use Rattle.proof_processes.proofs.RootHistories.{among, after_life, after_found}
use Rattle.proof_processes.proofs.RootKnown.{fresh_ever, known_roots}
use Rattle.proof_processes.proofs.RowPromises.{effect_collects, Collects}
use Rattle.proof_processes.proofs.Tests.{either, in_either, in_first, in_second, in_front, in_none, front_none, has-reverse, not_both}

-- a live case is no other
live_not : {A : Type 0} (ph : Phase) → IsLive ph → ph ≡ Over → A
live_not ph live e = absurd (subst IsLive e live)

module _ (me : ProcessId) (tree : List TreeProcess) (n : Node) (nested : Nested (logs_of n))
    (cases : RootCases (coordinator_place me None tree) n)
    (kept_so : Coordinated (coordinator_place me None tree) n)
    (old : Never (coordinator_place me None tree) n)
  where
    abbrev place : Place
    place = coordinator_place me None tree

    abbrev m : Case → Memory
    m c = memory_of (coordinator_place me None tree) n c

    -- a case that takes children or votes is live, and has no Commit

    open_if_active : (h : Heard) (c : Case)
        → (coordinator_view (coordinator_place me None tree) n c).standing ≡ Active
        → (m c).phase ≡ Open
    open_if_active h c e =
        phase_active c.txn.presumption (m c).phase
        (active_facts (has (is_end c) (kept n)) (has (is_commit c) (kept n)) (has (is_abort c) (kept n))
        (has (is_prepare c) (kept n)) (has (is_collecting c) (kept n)) (none_of (owing_by c (kept n)))
        (phase_standing c.txn.presumption (m c).phase) (stands me None tree n h c Active e)).heard

    asked_if_collecting : (h : Heard) → n.failed ≡ false → (c : Case)
        → (coordinator_view (coordinator_place me None tree) n c).standing ≡ Collecting → (m c).phase ≡ Asked
    asked_if_collecting h up c e =
        (kept_so.together up c).collecting_is_asked (stands me None tree n h c Collecting e)

    record NoCommit (c : Case) : Type 0 where
      kept : has (is_commit c) (n.forced ++ n.unforced) ≡ false
      ever : has (is_commit c) n.durable ≡ false

    none_by : (c : Case) → has (is_commit c) n.life ≡ false → NoCommit c
    none_by c e = record {
      kept = in_log (has (is_commit c) (kept n)) refl;
      ever = in_front_ever (has (is_commit c) n.durable) refl;
    }
      where
        in_log : (b : Bool) → has (is_commit c) (kept n) ≡ b → has (is_commit c) (kept n) ≡ false
        in_log true f =
            not_both (is_commit c) (has (is_commit c) n.life)
            (nested.kept_was_written (is_commit c) (λ k. refl) f) e
        in_log false f = f

        in_front_ever : (b : Bool) → has (is_commit c) n.durable ≡ b → has (is_commit c) n.durable ≡ false
        in_front_ever true f =
            not_both (is_commit c) (has (is_commit c) n.life)
            (nested.old_was_written (is_commit c) (λ k. refl) f) e
        in_front_ever false f = f

    live_none : n.failed ≡ false → (c : Case) (ph : Phase) → (m c).phase ≡ ph → IsLive ph → NoCommit c
    live_none up c ph e live = none_by c (kept_so.uncommitted up c (subst IsLive (sym e) live))

    -- An input.

    module _ (h : Heard) (e : Effect) (t : TurnOf (coordinator_place me None tree) n h e)
        (r : reacts (coordinator_place me None tree) n h ≡ Does e)
      where
        abbrev new : List Record
        new = entries_written e.written

        turn : CoordinatorTurn (coordinator_place me None tree) None n h e
        turn = turn_here me None tree n h e r

        -- what it finds of a case that it ends, or that was ended

        record Ends (c : Case) : Type 0 where
          before : NoCommit c
          none_new : commits_now c e ≡ false

        ended_before : (c : Case) → IsEnded n c → Ends c
        ended_before c d = record {
          before = record { kept = (old.dead c d).none_kept; ever = (old.dead c d).none_ever };
          none_new = by_test (commits_now c e) refl;
        }
          where
            by_test : (b : Bool) → commits_now c e ≡ b → commits_now c e ≡ false
            by_test true f =
                absurd ((old.dead c d).closed t.up
                (subst IsLive (sym (asked_if_collecting h t.up c
                (commits_collecting place n h e turn c f))) tt))
            by_test false f = f

        aborted_now : (c : Case) → aborts_now c e ≡ true → Ends c
        aborted_now c f =
            let a : AbortsCollecting place n h c e = aborts_collecting_case place n h e turn c f in
            record {
              before = live_none t.up c Asked (asked_if_collecting h t.up c a.stands) tt;
              none_new = a.alone;
            }

        -- the root's own case of a transaction

        own_case_is : (c : Case) (x : Txn) → c.txn ≡ x
            → ((coordinator_view (coordinator_place me None tree) n c).standing ≡ Unknown → ⊥)
            → c ≡ root_case x
        own_case_is c x e known =
            let k = known_roots me tree n t.up nested cases c (λ u. absurd (known u)) in
            ap (λ (o : Option Ticket). record { txn = c.txn; ticket = o }) k.no_ticket ∙ ap root_case e

        abbrev now : Case → Phase
        now c = (remembers_at None me (boot_of (kept n)) c
            (memory_of (coordinator_place me None tree) n c) h.input).phase

        -- a case that was ended is not live after it

        stays_closed : (c : Case) → IsEnded n c → IsLive (now c) → ⊥
        stays_closed c d = by_move (moves None me (boot_of (kept n)) c (m c) h.input)
          where
            shut : (ph : Phase) → (m c).phase ≡ ph → IsLive ph → ⊥
            shut ph f live = (old.dead c d).closed t.up (subst IsLive (sym f) live)

            begins_not : (i : Input) → OpensMemory None me (boot_of (kept n)) c (m c) i → ⊥
            begins_not _ (by_join q j y below none g) = cc
            begins_not _ (by_begin p top g) =
                fresh_ever me tree n t.up cases (next_txn me (boot_of (kept n)) (m c) p) p
                (ap (λ (y : Case). next_txn me (boot_of (kept n)) (m y) p) g)
                (subst (InHistory n) (sym g) (ended_history n c d))

            by_move : {k : Memory} → MovesMemory None me (boot_of (kept n)) c (m c) h.input k → IsLive k.phase
                → ⊥
            by_move (keeps f p l) live = (old.dead c d).closed t.up (subst IsLive p live)
            by_move (asks a o p l) live = shut Open o tt
            by_move (closes a o p l) live = subst IsLive p live
            by_move (takes j u i o b p a v) live = shut Open o tt
            by_move (counts u w x p a v) live = shut Asked x.asked tt
            by_move (opens o p a v) live = begins_not h.input o

        -- what is told now, or was told

        told_now : (x : Txn) (o : Option Told) (ts : List Told)
            → list_any (is_told_aborted x) (told_first o ts) ≡ true
            → (list_any (is_told_aborted x) (told_first o []) ≡ true)
            ⊎ (list_any (is_told_aborted x) ts ≡ true)
        told_now x None ts f = inr f
        told_now x (Some a) ts f = elim (either (is_told_aborted x a) (list_any (is_told_aborted x) ts) f) [
          | inl y ↦ inl (now_first (is_told_aborted x a) y)
          | inr y ↦ inr y
        ]
          where
            now_first : (b : Bool) → b ≡ true → (b || false) ≡ true
            now_first b g = grind arith

        -- Each way of ending, before or now.
        data Ending (c : Case) : Type 0 where
          already : IsEnded n c → Ending c
          aborting : aborts_now c e ≡ true → Ending c
          dropped : now c ≡ Over → Ends c → Ending c

        telling : (c : Case) (x : Txn) → c ≡ root_case x → tells_now x e ≡ true → Ending c
        telling c x f g = by_kind (tells_aborted place n h e turn x g)
          where
            by_kind : TellsAborted place n h x e → Ending c
            by_kind (with_abort d s a) =
                let w : AbortsCollecting place n h d e = aborts_collecting_case place n h e turn d a in
                let same = own_case_is d x s (λ u. absurd
                (let y : Collecting ≡ Unknown = sym w.stands ∙ u in cc)) in
                aborting (subst (λ (y : Case). aborts_now y e ≡ true) (same ∙ sym f) a)
            by_kind (dropping d why s i act none) =
                let same = own_case_is d x s (λ u. absurd (let y : Active ≡ Unknown = sym act ∙ u in cc)) in
                let was = open_if_active h d act in
                subst Ending (same ∙ sym f)
                (dropped
                (abort_phase me None tree n h d (λ y z. refl) why i
                (λ idle. absurd (let y : Open ≡ Idle = sym was ∙ idle in cc)))
                (record { before = live_none t.up d Open was tt; none_new = none d }))

        ends_so : (c : Case) → Ending c → Ends c
        ends_so c (already d) = ended_before c d
        ends_so c (aborting f) = aborted_now c f
        ends_so c (dropped o d) = d

        -- It is handled.

        after_ending : (c : Case) → IsEnded (after n h e) c → Ending c
        after_ending c (by_telling x s f) = elim (told_now x e.told n.told f) [
          | inl y ↦ telling c x s y
          | inr y ↦ already (by_telling x s y)
        ]
        after_ending c (by_abort f) =
            elim (in_either (is_abort c) (reverse new) n.life
            (ap (has (is_abort c)) (sym (after_life n h e)) ∙ f)) [
              | inl y ↦ aborting (sym (has-reverse (is_abort c) new) ∙ y)
              | inr y ↦ already (by_abort y)
            ]
        after_ending c (by_finding x s f) =
            already (by_finding x s (ap (among x) (sym (after_found n h e)) ∙ f))

        ever_after : (c : Case) → Ends c → has (is_commit c) (after n h e).durable ≡ false
        ever_after c d =
            either_logs n new (is_any_forced e.written) (λ (l : Logs). has (is_commit c) l.durable ≡ false)
            (λ b. in_none (is_commit c) new (kept n ++ n.durable) d.none_new
            (in_none (is_commit c) (kept n) n.durable d.before.kept d.before.ever))
            (λ b. d.before.ever)

        module _ (next_so : Coordinated (coordinator_place me None tree) (after n h e)) where
          closed_after : (c : Case) → Ending c → (after n h e).failed ≡ false
              → IsLive (memory_of (coordinator_place me None tree) (after n h e) c).phase → ⊥
          closed_after c d up live = by_kind d
            where
              same : memory_of place (after n h e) c ≡ remembers_at None me (boot_of (kept n)) c (m c) h.input
              same = memory_behind me None tree n h (after n h e) c refl
                  (boot_written n h e (turn_none place.role place n h e t.turn))

              no_abort : (ph : Phase) → Together (kept (after n h e)) c ph → IsLive ph
                  → has (is_abort c) (kept (after n h e)) ≡ false
              no_abort Open g l = (active_unrecorded _ c Open (g.open_is_active refl)).no_abort
              no_abort Asked g l = (collecting_undecided _ c Asked (g.asked_is_collecting refl)).no_abort
              no_abort Idle g l = absurd l
              no_abort Over g l = absurd l

              by_kind : Ending c → ⊥
              by_kind (already k) = stays_closed c k (subst (λ (x : Memory). IsLive x.phase) same live)
              by_kind (dropped o k) = live_not _ (subst (λ (x : Memory). IsLive x.phase) same live) o
              by_kind (aborting f) =
                  not_both (is_abort c) (has (is_abort c) (kept (after n h e)))
                  (ap (has (is_abort c)) (kept-after n h e) ∙ in_second (is_abort c) (kept n) new f)
                  (no_abort _ (next_so.together up c) live)

          -- a Commit that was in the forced front

          collects_none : (c : Case) → has (is_commit c) n.durable ≡ true → has (is_collecting c) new ≡ false
          collects_none c f = by_test (has (is_collecting c) new) refl
            where
              by_test : (b : Bool) → has (is_collecting c) new ≡ b → has (is_collecting c) new ≡ false
              by_test true g =
                  let k : Collects place None n h c = effect_collects place None n h e turn c g in
                  not_both (is_commit c) (has (is_commit c) n.durable) f
                  (live_none t.up c Open (open_if_active h c k.active) tt).ever
              by_test false g = g

          after_stand : CommitStands (logs_of (after n h e))
          after_stand =
              either_logs n new (is_any_forced e.written) CommitStands (λ b c f. forced_so c f)
              (λ b c f. plain_so c f)
            where
              more_none : (c : Case) → has (is_commit c) n.durable ≡ true → has (is_collecting c) (kept n)
                  ≡ false
                  → has (is_collecting c) (kept n ++ new) ≡ false
              more_none c f g = in_none (is_collecting c) (kept n) new g (collects_none c f)

              by_old : (c : Case) → has (is_commit c) n.durable ≡ true
                  → (has (is_commit c) (kept n ++ new) ≡ true)
                  ⊎ (has (is_collecting c) ((kept n ++ new) ++ []) ≡ false)
              by_old c f = elim (old.stand c f) [
                | inl g ↦ inl (in_first (is_commit c) (kept n) new
                    (in_first (is_commit c) n.forced n.unforced g))
                | inr g ↦ inr (ap (has (is_collecting c)) (append-nil (kept n ++ new)) ∙ more_none c f g)
              ]

              forced_so : CommitStands (forces (logs_of n) new)
              forced_so c f = elim (in_either (is_commit c) new (kept n ++ n.durable) f) [
                | inl g ↦ inl (in_second (is_commit c) (kept n) new g)
                | inr g ↦ elim (in_either (is_commit c) (kept n) n.durable g) [
                  | inl k ↦ inl (in_first (is_commit c) (kept n) new k)
                  | inr k ↦ by_old c k
                ]
              ]

              plain_so : CommitStands (writes (logs_of n) new)
              plain_so c f = elim (old.stand c f) [
                | inl g ↦ inl g
                | inr g ↦ inr (ap (has (is_collecting c)) (sym (append_assoc n.forced n.unforced new))
                    ∙ more_none c f g)
              ]

          pub after_never : Never (coordinator_place me None tree) (after n h e)
          after_never = record {
            stand = after_stand;
            dead = λ c d. let k = after_ending c d in let s = ends_so c k in record {
              closed = λ up live. closed_after c k up live;
              none_kept = ap (has (is_commit c)) (kept-after n h e)
                  ∙ in_none (is_commit c) (kept n) new s.before.kept s.none_new;
              none_ever = ever_after c s;
            };
          }

        -- Its device fails in it.

        failing_ending : (a f : ℕ) (c : Case) → IsEnded (fails_in n h e a f) c → Ending c
        failing_ending a f c (by_telling x s g) = already (by_telling x s g)
        failing_ending a f c (by_abort g) = elim (in_either (is_abort c) (reverse (take a new)) n.life g) [
          | inl y ↦ aborting (in_front (is_abort c) a new (sym (has-reverse (is_abort c) (take a new)) ∙ y))
          | inr y ↦ already (by_abort y)
        ]
        failing_ending a f c (by_finding x s g) = already (by_finding x s g)

        -- nothing came into the forced front that was not in the log, or new
        behind_none : (q : Record → Bool) (a f : ℕ) → has q (kept n) ≡ false → has q new ≡ false
            → has q (take f (n.unforced ++ take a new)) ≡ false
        behind_none q a f g k =
            front_none q f (n.unforced ++ take a new)
            (in_none q n.unforced (take a new) (last_none q n.forced n.unforced g) (front_none q a new k))
          where
            last_none : (q : Record → Bool) (xs ys : List Record) → has q (xs ++ ys) ≡ false
                → has q ys ≡ false
            last_none q xs ys y = by_test (has q ys) refl
              where
                by_test : (b : Bool) → has q ys ≡ b → has q ys ≡ false
                by_test true z = not_both q (has q (xs ++ ys)) (in_second q xs ys z) y
                by_test false z = z

        pub failing_never : (a f : ℕ) → Never (coordinator_place me None tree) (fails_in n h e a f)
        failing_never a f = record {
          stand = λ c g. elim (in_either (is_commit c) (take f (n.unforced ++ take a new)) n.durable g) [
            | inl y ↦ inl (in_second (is_commit c) n.forced (take f (n.unforced ++ take a new)) y)
            | inr y ↦ elim (old.stand c y) [
              | inl z ↦ inl (in_first (is_commit c) n.forced (take f (n.unforced ++ take a new)) z)
              | inr z ↦ inr (ap (has (is_collecting c)) (breaks_keeps (logs_of n) new a f)
                  ∙ in_none (is_collecting c) (kept n) (take a new) z
                  (front_none (is_collecting c) a new (none_collects c y)))
            ]
          ];
          dead = λ c d. let s = ends_so c (failing_ending a f c d) in record {
            closed = λ up. absurd (cc);
            none_kept = ap (has (is_commit c)) (breaks_keeps (logs_of n) new a f)
                ∙ in_none (is_commit c) (kept n) (take a new) s.before.kept
                (front_none (is_commit c) a new s.none_new);
            none_ever = in_none (is_commit c) (take f (n.unforced ++ take a new)) n.durable
                (behind_none (is_commit c) a f s.before.kept s.none_new) s.before.ever;
          };
        }
          where
            none_collects : (c : Case) → has (is_commit c) n.durable ≡ true
                → has (is_collecting c) new ≡ false
            none_collects c g = by_test (has (is_collecting c) new) refl
              where
                by_test : (b : Bool) → has (is_collecting c) new ≡ b → has (is_collecting c) new ≡ false
                by_test true k =
                    let w : Collects place None n h c = effect_collects place None n h e turn c k in
                    not_both (is_commit c) (has (is_commit c) n.durable) g
                    (live_none t.up c Open (open_if_active h c w.active) tt).ever
                by_test false k = k
