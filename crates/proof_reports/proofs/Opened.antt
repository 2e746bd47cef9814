-- A case of a coordinator that is open, or collects votes, never had a decision.
use Rattle.std.proofs.Common.{◌≡◌, ◌∙◌, ◌⊎◌, inl, inr, ℕ, zero, suc, false, Option, List, [], ◌++◌, refl, sym, ap, subst}
use Rattle.std.specs.Prelude.{reverse}
use Rattle.protocol.specs.declared.names.Case.{Case}
use Rattle.protocol.specs.declared.names.ProcessId.{ProcessId}
use Rattle.protocol.specs.declared.standings.Standing.TheVariants.{Active, Collecting}
use Rattle.protocol.specs.declared.trees.TreeProcess.{TreeProcess}
use Rattle.protocol.specs.Records.{boot_of, has, is_abort, is_collecting, is_commit, is_end, is_prepare, none_of, owing_by}
use Rattle.protocol.specs.Nodes.{Effect, Heard, Node, Place, after, entries_written, kept}
use Rattle.protocol.specs.Memory.{Asked, Idle, Memory, Open, Over, Phase, memory_of}
use Rattle.protocol.specs.Reactions.{Does, reacts}
use Rattle.protocol.specs.Restarts.{restarted, trim_fails, trims}
use Rattle.protocol.specs.Standings.{coordinator_view, phase_standing}
use Rattle.protocol.specs.World.{Move}
use Rattle.protocol.proofs.ListLaws.{kept-after}
use Rattle.proof_model.proofs.StandingLaws.{active_facts, phase_active}
use Rattle.proof_pairs.specs.turns.Steps.{StepOf, TurnOf, heard_in, handled, failed_in, passed, failed_passing, reopened, failed_reopening, trims_log, failed_trimming}
use Rattle.proof_pairs.proofs.turns.Steps.{turn_of}
use Rattle.proof_processes.proofs.Boots.{boot_written, trims_memory, turn_none}
use Rattle.proof_processes.proofs.Cases.{viewed}
use Rattle.proof_processes.proofs.CoordinatorKept.{Coordinated, IsLive, memory_behind, memory_empty}
use Rattle.proof_processes.proofs.CoordinatorSteps.{Premises, handled_so}
use Rattle.proof_processes.proofs.Phases.{Together, active_unrecorded, collecting_undecided}
use Rattle.proof_processes.proofs.Remembering.{MovesMemory, asks, closes, coordinator_place, counts, keeps, moves, opens, remembers_at, takes}
use Rattle.proof_processes.proofs.RootKnown.{no_abort}
use Rattle.proof_processes.proofs.Tests.{has-reverse, in_none, in_second}
use Rattle.proof_reports.specs.SinceOpened.{is_decision}
use Rattle.proof_reports.proofs.Became.{data_same, life_after}
use Rattle.proof_reports.proofs.Naming.{never, no_decisions, none_if}

-- a live case has no Abort in its life list, while its process is up
abbrev pub Unaborted : Place → Node → Type 0
Unaborted place n = n.failed ≡ false → (c : Case) → IsLive (memory_of place n c).phase
    → has (is_abort c) n.life ≡ false

module _ (me : ProcessId) (parent : Option ProcessId) (tree : List TreeProcess) (n : Node)
    (given : Premises me parent tree n) (old : Coordinated (coordinator_place me parent tree) n)
    (unaborted : Unaborted (coordinator_place me parent tree) n)
  where
    abbrev place : Place
    place = coordinator_place me parent tree

    module _ (h : Heard) (e : Effect) (t : TurnOf (coordinator_place me parent tree) n h e)
        (r : reacts (coordinator_place me parent tree) n h ≡ Does e)
      where
        abbrev k : Node
        k = after n h e

        remembered : (c : Case) → memory_of place k c
            ≡ remembers_at parent me (boot_of (kept n)) c
            (memory_of (coordinator_place me parent tree) n c) h.input
        remembered c = memory_behind me parent tree n h (after n h e) c refl
            (boot_written n h e (turn_none place.role place n h e t.turn))

        none_kept : (c : Case) (ph : Phase) → Together (kept (after n h e)) c ph → IsLive ph
            → has (is_abort c) (kept (after n h e)) ≡ false
        none_kept c Open g live = (active_unrecorded _ c Open (g.open_is_active refl)).no_abort
        none_kept c Asked g live = (collecting_undecided _ c Asked (g.asked_is_collecting refl)).no_abort
        none_kept c Idle g live = absurd live
        none_kept c Over g live = absurd live

        none_written : (after n h e).failed ≡ false → (c : Case)
            → IsLive (memory_of place (after n h e) c).phase
            → has (is_abort c) (entries_written e.written) ≡ false
        none_written up c live = none_if (is_abort c) (entries_written e.written) (λ f.
            never (has (is_abort c) (kept (after n h e)))
            (ap (has (is_abort c)) (kept-after n h e)
            ∙ in_second (is_abort c) (kept n) (entries_written e.written) f)
            (none_kept c (memory_of place (after n h e) c).phase
            ((handled_so me parent tree n given old h e t r).together up c) live))

        none_before : (c : Case) → IsLive (memory_of place (after n h e) c).phase
            → has (is_abort c) n.life ≡ false
        none_before c live =
            by_move (moves parent me (boot_of (kept n)) c (memory_of place n c) h.input)
            (subst (λ (x : Memory). IsLive x.phase) (remembered c) live)
          where
            was : (ph : Phase) → (memory_of place n c).phase ≡ ph → IsLive ph
                → has (is_abort c) n.life ≡ false
            was ph f l = unaborted t.up c (subst IsLive (sym f) l)

            by_move : {x : Memory} → MovesMemory parent me (boot_of (kept n)) c
                (memory_of place n c) h.input x
                → IsLive x.phase → has (is_abort c) n.life ≡ false
            by_move (keeps f p l) g = unaborted t.up c (subst IsLive p g)
            by_move (asks a o p l) g = was Open o tt
            by_move (closes a o p l) g = absurd (subst IsLive p g)
            by_move (takes j u i o b p a v) g = was Open o tt
            by_move (counts u w x p a v) g = was Asked x.asked tt
            by_move (opens o p a v) g = no_abort c n.life (given.new t.up c h.input o).unrecorded

        handled_unaborted : Unaborted (coordinator_place me parent tree) (after n h e)
        handled_unaborted up c live =
            ap (has (is_abort c)) (life_after n e.written)
            ∙ in_none (is_abort c) (reverse (entries_written e.written)) n.life
            (has-reverse (is_abort c) (entries_written e.written) ∙ none_written up c live)
            (none_before c live)

    trims_unaborted : Unaborted (coordinator_place me parent tree)
        (trims (coordinator_place me parent tree) n)
    trims_unaborted up c live =
        ap (λ rs. has (is_abort c) (reverse rs ++ n.life)) (data_same parent (kept n))
        ∙ unaborted up c (subst (λ (x : Memory). IsLive x.phase) (trims_memory place n c) live)

    pub still_unaborted : (m : Move) (e : Effect) (k : Node)
        → StepOf (coordinator_place me parent tree) n m e k
        → Unaborted (coordinator_place me parent tree) k
    still_unaborted m _ _ (handled i g hp np r) =
        handled_unaborted (heard_in m i) g (turn_of place n (heard_in m i) g r) r
    still_unaborted m _ _ (failed_in i f g fl hp np r) = λ up. absurd (cc)
    still_unaborted m _ _ (passed i hp r) = unaborted
    still_unaborted m _ _ (failed_passing i f fl hp r) = λ up. absurd (cc)
    still_unaborted m _ _ (reopened j hp) = λ up c live.
        absurd (subst (λ (x : Memory). IsLive x.phase) (memory_empty place (restarted place n j) c refl) live)
    still_unaborted m _ _ (failed_reopening j f fl hp) = λ up. absurd (cc)
    still_unaborted m _ _ (trims_log hp ok) = trims_unaborted
    still_unaborted m _ _ (failed_trimming f fl hp ok) = by_front f.appended
      where
        by_front : (j : ℕ) → Unaborted (coordinator_place me parent tree) (trim_fails place n j)
        by_front zero = λ up. absurd (cc)
        by_front (suc j) = λ up. absurd (cc)

    -- so it has no decision at all

    phase_live : (c : Case) (ph : Phase) → (ph ≡ Open) ⊎ (ph ≡ Asked) → IsLive ph
    phase_live c ph (inl e) = subst IsLive (sym e) tt
    phase_live c ph (inr e) = subst IsLive (sym e) tt

    was_open : (c : Case) → (coordinator_view place n c).standing ≡ Active
        → (memory_of place n c).phase ≡ Open
    was_open c e =
        let rs = kept n in
        phase_active c.txn.presumption (memory_of place n c).phase
        (active_facts (has (is_end c) rs) (has (is_commit c) rs) (has (is_abort c) rs) (has (is_prepare c) rs)
        (has (is_collecting c) rs) (none_of (owing_by c rs))
        (phase_standing c.txn.presumption (memory_of place n c).phase) (sym (viewed place n c) ∙ e)).heard

    pub live_undecided : n.failed ≡ false → (c : Case)
        → ((coordinator_view (coordinator_place me parent tree) n c).standing ≡ Active)
        ⊎ ((coordinator_view (coordinator_place me parent tree) n c).standing ≡ Collecting)
        → has (is_decision c) n.life ≡ false
    live_undecided up c s = none (live s)
      where
        live : (((coordinator_view place n c).standing ≡ Active)
            ⊎ ((coordinator_view place n c).standing ≡ Collecting))
            → IsLive (memory_of place n c).phase
        live (inl e) = phase_live c (memory_of place n c).phase (inl (was_open c e))
        live (inr e) = phase_live c (memory_of place n c).phase
            (inr ((old.together up c).collecting_is_asked (sym (viewed place n c) ∙ e)))

        none : IsLive (memory_of place n c).phase → has (is_decision c) n.life ≡ false
        none l = no_decisions c n.life (old.uncommitted up c l) (unaborted up c l)
