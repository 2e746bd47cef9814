-- What lasts of a coordinator's cases lasts through each input.
use Rattle.std.proofs.Common.{◌≡◌, ◌∙◌, inl, inr, ℕ, Bool, true, false, Option, None, List, [], ◌∷◌, ◌++◌, take, refl, sym, ap, subst}
use Rattle.std.specs.Prelude.{reverse, length}
use Rattle.protocol.specs.declared.names.Case.{Case}
use Rattle.protocol.specs.declared.names.ProcessId.{ProcessId}
use Rattle.protocol.specs.declared.names.Ticket.{Ticket}
use Rattle.protocol.specs.declared.names.Txn.{Txn}
use Rattle.protocol.specs.declared.records.Record.{Record}
use Rattle.protocol.specs.declared.standings.Standing.{Standing}
use Rattle.protocol.specs.declared.standings.Standing.TheVariants.{Unknown}
use Rattle.protocol.specs.declared.standings.Vote.{Vote}
use Rattle.protocol.specs.declared.events.Input.{Input}
use Rattle.protocol.specs.declared.trees.TreeProcess.{TreeProcess}
use Rattle.protocol.specs.Names.{root_case}
use Rattle.protocol.specs.Records.{has, in_list, is_commit, is_opened, boot_of}
use Rattle.protocol.specs.Nodes.{Place, Node, kept, Heard, Effect, entries_written, is_any_forced, after, fails_in}
use Rattle.protocol.specs.Memory.{Memory, Phase, Idle, Open, Asked, Over, memory_of, voted_so, same_vote}
use Rattle.protocol.specs.Standings.{coordinator_view}
use Rattle.protocol.specs.Reactions.{Does, reacts}
use Rattle.protocol.specs.Outcomes.{has_accepted, has_heard_vote}
use Rattle.protocol.proofs.ListLaws.{kept-after}
use Rattle.proof_pairs.specs.turns.Steps.{TurnOf}
use Rattle.proof_processes.specs.Lasts.{Logs, logs_of, Nested}
use Rattle.proof_processes.specs.WorldHolds.{is_record_of}
use Rattle.protocol.specs.Audits.{is_naming}
use Rattle.proof_processes.proofs.Appends.{either_logs, breaks_keeps}
use Rattle.proof_processes.proofs.Boots.{others_boot, boot_append, turn_none, boot_written}
use Rattle.proof_processes.proofs.CaseEffects.{CaseStep, own, other, begun, case_step, Alone, Listed}
use Rattle.proof_processes.proofs.CaseSteps.{heard_so}
use Rattle.proof_processes.proofs.CoordinatorAccepts.{turn_here, took_before, remembered_then, voted_then}
use Rattle.proof_processes.proofs.CoordinatorKept.{Coordinated, IsLive, memory_behind, stands_as_before, begins_together}
use Rattle.proof_processes.proofs.CoordinatorTogether.{own_together}
use Rattle.proof_processes.proofs.CoordinatorVotes.{IsNew, votes_then}
use Rattle.proof_processes.proofs.Naming.{effect_names}
use Rattle.proof_processes.proofs.Phases.{GoTogether, Together, active_unrecorded, collecting_undecided}
use Rattle.proof_processes.proofs.Remembering.{coordinator_place, remembers_at, OpensMemory, MovesMemory, keeps, asks, closes, takes, counts, opens, moves}
use Rattle.proof_processes.proofs.RootHistories.{took}
use Rattle.proof_processes.proofs.RootKnown.{no_commit}
use Rattle.proof_processes.proofs.RowNeeds.{is_needless, none_needless, effect_needs}
use Rattle.proof_processes.proofs.Tests.{in_none, in_second, in_either, in_front, front_none, has-reverse, not_both}

-- What a step takes of its coordinator: a ticket belongs to one case, a case that is not Idle is the
-- coordinator's, a case that begins is new, and acts are for the root's cases alone.
pub record Premises (me : ProcessId) (parent : Option ProcessId) (tree : List TreeProcess)
    (n : Node) : Type 0 where
  pub nested : Nested (logs_of n)
  pub alone : Alone me parent tree n
  pub listed : Listed me parent tree n
  pub new : n.failed ≡ false → (c : Case) (i : Input)
      → OpensMemory parent me (boot_of (kept n)) c (memory_of (coordinator_place me parent tree) n c) i
      → IsNew n c
  pub top : n.failed ≡ false → (c : Case)
      → ((coordinator_view (coordinator_place me parent tree) n c).standing ≡ Unknown → ⊥)
      → (x : Txn) → c ≡ root_case x → parent ≡ None

module _ (me : ProcessId) (parent : Option ProcessId) (tree : List TreeProcess) (n : Node)
    (given : Premises me parent tree n) (old : Coordinated (coordinator_place me parent tree) n)
  where
    abbrev place : Place
    place = coordinator_place me parent tree

    -- a case without a record in its life list has none in the log
    unrecorded_now : (c : Case) → has (is_record_of c) n.life ≡ false → has (is_record_of c) (kept n) ≡ false
    unrecorded_now c e = by_test (has (is_record_of c) (kept n)) refl
      where
        by_test : (b : Bool) → has (is_record_of c) (kept n) ≡ b → has (is_record_of c) (kept n) ≡ false
        by_test true f =
            not_both (is_record_of c) (has (is_record_of c) n.life)
            (given.nested.kept_was_written (is_record_of c) (λ k. refl) f) e
        by_test false f = f

    module _ (h : Heard) (e : Effect) (t : TurnOf (coordinator_place me parent tree) n h e)
        (r : reacts (coordinator_place me parent tree) n h ≡ Does e)
      where
        abbrev new : List Record
        new = entries_written e.written

        abbrev m : Case → Memory
        m c = memory_of (coordinator_place me parent tree) n c

        abbrev m' : Case → Memory
        m' c = remembers_at parent me (boot_of (kept n)) c
            (memory_of (coordinator_place me parent tree) n c) h.input

        step_of_case : (c : Case) → CaseStep me parent tree n h c e
        step_of_case c = case_step me parent tree n h given.alone given.listed e
            (turn_here me parent tree n h e r) c

        -- the phase and the standing

        together_then : (c : Case) → Together (kept n ++ entries_written e.written) c (m' c).phase
        together_then c = by_step (step_of_case c)
          where
            by_step : CaseStep me parent tree n h c e
                → Together (kept n ++ entries_written e.written) c (m' c).phase
            by_step (own row turn same) =
                subst (λ (x : Effect). Together (kept n ++ entries_written x.written) c (m' c).phase)
                (sym same)
                (own_together me parent tree n h c (old.together t.up c)
                (none_needless (kept n) c old.needless)
                (given.top t.up c) row turn)
            by_step (other p l s) =
                subst (λ (ph : Phase). Together (kept n ++ new) c ph) (sym p)
                (subst (λ (st : Standing). GoTogether (m c).phase st)
                (sym (stands_as_before c (kept n) new (m c).phase s.unwritten)) (old.together t.up c))
            by_step (begun o p a v s) =
                subst (λ (ph : Phase). Together (kept n ++ new) c ph) (sym p)
                (begins_together c (kept n ++ new)
                (in_none (is_record_of c) (kept n) new
                (unrecorded_now c (given.new t.up c h.input o).unrecorded) s.unwritten))

        -- a live case has no Commit

        live_uncommitted : (c : Case) (ph : Phase) → Together (kept n ++ entries_written e.written) c ph
            → IsLive ph
            → has (is_commit c) (kept n ++ entries_written e.written) ≡ false
        live_uncommitted c Open g live = (active_unrecorded _ c Open (g.open_is_active refl)).no_commit
        live_uncommitted c Asked g live =
            (collecting_undecided _ c Asked (g.asked_is_collecting refl)).no_commit
        live_uncommitted c Idle g live = absurd live
        live_uncommitted c Over g live = absurd live

        none_written : (c : Case) → IsLive (m' c).phase
            → has (is_commit c) (entries_written e.written) ≡ false
        none_written c live = by_test (has (is_commit c) new) refl
          where
            by_test : (b : Bool) → has (is_commit c) new ≡ b → has (is_commit c) new ≡ false
            by_test true f =
                not_both (is_commit c) (has (is_commit c) (kept n ++ new))
                (in_second (is_commit c) (kept n) new f)
                (live_uncommitted c (m' c).phase (together_then c) live)
            by_test false f = f

        none_before : (c : Case) → IsLive (m' c).phase → has (is_commit c) n.life ≡ false
        none_before c live = by_move (moves parent me (boot_of (kept n)) c (m c) h.input) live
          where
            was : (ph : Phase) → (m c).phase ≡ ph → IsLive ph → has (is_commit c) n.life ≡ false
            was ph f l = old.uncommitted t.up c (subst IsLive (sym f) l)

            by_move : {k : Memory} → MovesMemory parent me (boot_of (kept n)) c (m c) h.input k
                → IsLive k.phase
                → has (is_commit c) n.life ≡ false
            by_move (keeps f p l) g = old.uncommitted t.up c (subst IsLive p g)
            by_move (asks a o p l) g = was Open o tt
            by_move (closes a o p l) g = absurd (subst IsLive p g)
            by_move (takes j u i o b p a v) g = was Open o tt
            by_move (counts u w x p a v) g = was Asked x.asked tt
            by_move (opens o p a v) g = no_commit c n.life (given.new t.up c h.input o).unrecorded

        uncommitted_then : (c : Case) → IsLive (m' c).phase
            → has (is_commit c) (reverse (entries_written e.written) ++ n.life) ≡ false
        uncommitted_then c live =
            in_none (is_commit c) (reverse new) n.life (has-reverse (is_commit c) new ∙ none_written c live)
            (none_before c live)

        -- names

        written_names : (c : Case) (u : Ticket) → has (is_naming c u) new ≡ true → has_accepted n c u ≡ true
        written_names c u f =
            effect_names me parent tree n h c u old.remembered_accepted
            (λ d x g. old.named_accepted d x (given.nested.kept_was_written (is_naming d x) (λ k. refl) g)) e
            (turn_here me parent tree n h e r) f

        named_then : (a : ℕ) (c : Case) (u : Ticket)
            → has (is_naming c u) (reverse (take a (entries_written e.written)) ++ n.life) ≡ true
            → took c u (e.accepts ++ n.accepted) ≡ true
        named_then a c u f =
            took_before c u e.accepts n.accepted
            (elim (in_either (is_naming c u) (reverse (take a new)) n.life f) [
              | inl now ↦ written_names c u
                  (in_front (is_naming c u) a new (sym (has-reverse (is_naming c u) (take a new)) ∙ now))
              | inr before ↦ old.named_accepted c u before
            ])

        needs : has is_needless (entries_written e.written) ≡ false
        needs = effect_needs place parent n h e (turn_here me parent tree n h e r)

        -- the boot stays

        leaves_boot : boot_of (kept (after n h e)) ≡ boot_of (kept n)
        leaves_boot = boot_written n h e (turn_none place.role place n h e t.turn)

        breaks_boot : (a f : ℕ) → boot_of (kept (fails_in n h e a f)) ≡ boot_of (kept n)
        breaks_boot a f =
            ap boot_of (breaks_keeps (logs_of n) new a f)
            ∙ (boot_append (kept n) (take a new) ∙ others_boot (boot_of (kept n)) (take a new)
            (front_none is_opened a new (turn_none place.role place n h e t.turn)))

        whole_list : (rs : List Record) → take (length rs) rs ≡ rs
        whole_list [] = refl
        whole_list (x ∷ rs) = ap (λ y. x ∷ y) (whole_list rs)

        life_then : (after n h e).life ≡ reverse (entries_written e.written) ++ n.life
        life_then =
            either_logs n new (is_any_forced e.written) (λ (l : Logs). l.life ≡ reverse new ++ n.life)
            (λ b. refl)
            (λ b. refl)

        remembered_of : (k : Node) → k.heard ≡ n.heard ++ h ∷ [] → boot_of (kept k) ≡ boot_of (kept n)
            → k.accepted ≡ e.accepts ++ n.accepted → (c : Case) (u : Ticket)
            → in_list (memory_of (coordinator_place me parent tree) k c).accepted u ≡ true
            → has_accepted k c u ≡ true
        remembered_of k i b a c u f =
            ap (took c u) a
            ∙ remembered_then me parent tree n old h e t.up r c u
            (ap (λ (x : Memory). in_list x.accepted u) (sym (memory_behind me parent tree n h k c i b)) ∙ f)

        voted_of : (k : Node) → k.accepted ≡ e.accepts ++ n.accepted → k.voted ≡ e.counts ++ n.voted
            → (c : Case) (u : Ticket) (v : Vote) → has_heard_vote k c u (same_vote v) ≡ true
            → has_accepted k c u ≡ true
        voted_of k a w c u v f =
            ap (took c u) a ∙ voted_then me parent tree n old h e t.up r c u v
            (ap (heard_so c u v) (sym w) ∙ f)

        pub handled_so : Coordinated (coordinator_place me parent tree) (after n h e)
        handled_so = record {
          together = λ up c.
              subst (λ (rs : List Record). Together rs c (memory_of place (after n h e) c).phase)
              (sym (kept-after n h e))
              (subst (λ (x : Memory). Together (kept n ++ new) c x.phase)
              (sym (memory_behind me parent tree n h (after n h e) c refl leaves_boot)) (together_then c));
          needless = ap (has is_needless) (kept-after n h e)
              ∙ in_none is_needless (kept n) new old.needless needs;
          remembered_accepted = remembered_of (after n h e) refl leaves_boot refl;
          voted_accepted = voted_of (after n h e) refl refl;
          named_accepted = λ c u f. named_then (length new) c u
              (ap (λ rs. has (is_naming c u) (reverse rs ++ n.life)) (whole_list new)
              ∙ (sym (ap (has (is_naming c u)) life_then) ∙ f));
          votes = λ up c live u v.
              let same = memory_behind me parent tree n h (after n h e) c refl leaves_boot in
              votes_then me parent tree n old given.alone given.listed (given.new t.up) h e t.up r c
              (subst (λ (x : Memory). IsLive x.phase) same live) u v
              ∙ ap (λ (x : Memory). voted_so v x.votes u) (sym same);
          uncommitted = λ up c live.
              ap (has (is_commit c)) life_then
              ∙ uncommitted_then c
              (subst (λ (x : Memory). IsLive x.phase)
              (memory_behind me parent tree n h (after n h e) c refl leaves_boot) live);
        }

        -- its device fails in it
        pub failed_so : (a f : ℕ) → Coordinated (coordinator_place me parent tree) (fails_in n h e a f)
        failed_so a f = record {
          together = λ up. absurd (cc);
          needless = ap (has is_needless) (breaks_keeps (logs_of n) new a f)
              ∙ in_none is_needless (kept n) (take a new) old.needless (front_none is_needless a new needs);
          remembered_accepted = remembered_of (fails_in n h e a f) refl (breaks_boot a f) refl;
          voted_accepted = voted_of (fails_in n h e a f) refl refl;
          named_accepted = λ c u g. named_then a c u g;
          votes = λ up. absurd (cc);
          uncommitted = λ up. absurd (cc);
        }
