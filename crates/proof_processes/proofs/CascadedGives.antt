-- What a cascaded coordinator records, remembers and accepts into is of cases that it gave, and it collects
-- votes and promises only where it was asked: through each of its steps.
use Rattle.std.proofs.Common.{◌≡◌, ◌≢◌, ◌∙◌, ◌+◌, ◌||◌, inl, inr, ℕ, zero, suc, Bool, true, false, Some, List, [], ◌∷◌, ◌++◌, take, refl, sym, ap, subst, arith, ◌&&◌}
use Rattle.std.specs.Prelude.{reverse, length}
use Rattle.std.proofs.lemmas.List.Folds.{list_any-append}
use Rattle.protocol.specs.declared.names.Case.{Case}
use Rattle.protocol.specs.declared.names.ProcessId.{ProcessId}
use Rattle.protocol.specs.declared.names.Ticket.{Ticket}
use Rattle.protocol.specs.declared.messages.Message.TheVariants.{Joined, Prepare}
use Rattle.protocol.specs.declared.messages.Envelope.{Envelope}
use Rattle.protocol.specs.declared.records.Record.{Record}
use Rattle.protocol.specs.declared.events.Happening.{Happening}
use Rattle.protocol.specs.declared.events.Input.{Input}
use Rattle.protocol.specs.declared.standings.Standing.TheVariants.{Unknown, Active, Collecting}
use Rattle.protocol.specs.declared.trees.TreeProcess.{TreeProcess}
use Rattle.protocol.specs.Names.{child_case}
use Rattle.protocol.specs.NameLaws.{same_case-refl}
use Rattle.protocol.specs.Records.{has, boot_of, is_collecting}
use Rattle.protocol.specs.Nodes.{Place, Below, Node, Heard, Effect, kept, entries_written, is_any_forced, after, fails_in}
use Rattle.protocol.specs.Memory.{Memory, Phase, Idle, Open, Asked, Over, memory_of, cascaded_remembers, next_ticket, active_ticket, has_child}
use Rattle.protocol.specs.Standings.{coordinator_view}
use Rattle.protocol.specs.Reactions.{reacts, Does}
use Rattle.protocol.specs.Restarts.{left_of, reopens, restarted, restart_fails, trims, trim_fails}
use Rattle.protocol.specs.Outcomes.{sent, is_joined_message}
use Rattle.protocol.specs.World.{Move, MayHappen, InputStands}
use Rattle.proof_model.proofs.RootRowLaws.{phase_collecting}
use Rattle.proof_pairs.specs.readings.ReadingOf.{gives_case, is_prepare_message}
use Rattle.protocol.specs.Audits.{is_promise}
use Rattle.proof_pairs.proofs.readings.Lists.{sent-append}
use Rattle.proof_pairs.proofs.readings.Memories.{memory_of-heard}
use Rattle.proof_pairs.specs.turns.LeafTurns.{Hears}
use Rattle.proof_pairs.specs.turns.CoordinatorTurns.{CoordinatorTurn, IsToCommit, commit_act, prepare_comes}
use Rattle.proof_pairs.specs.turns.Steps.{StepOf, heard_in, handled, failed_in, passed, failed_passing, reopened, failed_reopening, trims_log, failed_trimming, TurnOf}
use Rattle.proof_pairs.proofs.turns.Operators.{reopens_none}
use Rattle.proof_pairs.proofs.turns.Steps.{turn_of}
use Rattle.proof_pairs.proofs.turns.CoordinatorReactions.{coordinator_turn_of}
use Rattle.proof_processes.specs.Lasts.{Logs, logs_of, Nested}
use Rattle.proof_processes.specs.WorldHolds.{is_record_of}
use Rattle.proof_processes.proofs.Tests.{either, left, in_either, in_first, in_second, in_front, has-reverse, not_both, case_is}
use Rattle.proof_processes.proofs.Appends.{either_logs}
use Rattle.proof_processes.proofs.Boots.{turn_none, trims_memory, boot_written}
use Rattle.proof_processes.proofs.Cases.{viewed}
use Rattle.proof_processes.proofs.Deliveries.{was_sent}
use Rattle.proof_processes.proofs.GivenCases.{IsGiven, given_still, sent_other, joined_gives}
use Rattle.proof_processes.proofs.Giving.{Gives, prepared_still, never_given}
use Rattle.proof_processes.proofs.Phases.{unrecorded_stands, collecting_undecided}
use Rattle.proof_processes.proofs.Remembering.{OpensMemory, by_begin, by_join, Asks, by_commit, by_prepare, MovesMemory, keeps, asks, closes, takes, counts, opens, moves}
use Rattle.proof_processes.proofs.RootHistories.{took}
use Rattle.proof_processes.proofs.RootKnown.{known_by}
use Rattle.proof_processes.proofs.RootLogs.{reopened_record}
use Rattle.proof_processes.proofs.RowPromises.{effect_collects, effect_promises, effect_takes, Collects}
use Rattle.proof_processes.proofs.RowWrites.{effect_writes}
use Rattle.proof_processes.proofs.Selves.{Self, self_same}
use Rattle.proof_processes.proofs.Tickets.{join_said}

not_idle : (x y : Phase) → x ≡ y → (y ≡ Idle → ⊥) → x ≢ Idle
not_idle x y e f g = absurd (f (sym e ∙ g))

-- A step of its own.
module _ (me p : ProcessId) (tree : List TreeProcess) (net : List Envelope) (n : Node)
    (nested : Nested (logs_of n))
    (known : Gives (record { me = me; role = Below p; tree = tree }) net n) where
  abbrev place : Place
  place = record { me = me; role = Below p; tree = tree }

  -- a case that is known was given
  pub known_given : n.failed ≡ false → (c : Case) → (coordinator_view place n c).standing ≢ Unknown
      → IsGiven me net c
  known_given up c k = elim (known_by place n c k) [
    | inl awake ↦ known.remembered_is_given up c awake
    | inr stands ↦ known.recorded_is_given c (nested.kept_was_written (is_record_of c) (λ k. refl) stands)
  ]

  -- a case that collects was prepared
  collecting_prepared : n.failed ≡ false → (c : Case) → (coordinator_view place n c).standing ≡ Collecting
      → sent (is_prepare_message c) net ≡ true
  collecting_prepared up c s = by_test (has (is_collecting c) (kept n)) refl
    where
      by_test : (b : Bool) → has (is_collecting c) (kept n) ≡ b → sent (is_prepare_message c) net ≡ true
      by_test true e =
          known.collected_was_prepared c (nested.kept_was_written (is_collecting c) (λ k. refl) e)
      by_test false e =
          let ph = (memory_of place n c).phase in
          let at = sym (viewed place n c) ∙ s in
          let u = collecting_undecided (kept n) c ph at in
          known.asked_was_prepared up c
          (phase_collecting c.txn.presumption ph
          (sym (unrecorded_stands (kept n) c ph (record {
            no_end = u.no_end;
            no_commit = u.no_commit;
            no_abort = u.no_abort;
            no_prepare = u.no_prepare;
            no_collecting = e;
          })) ∙ at))

  whole_list : (rs : List Record) → take (length rs) rs ≡ rs
  whole_list [] = refl
  whole_list (x ∷ rs) = ap (λ y. x ∷ y) (whole_list rs)

  -- what was written goes into the life list
  life_by : (q : Record → Bool) (A : Type 0) (rs : List Record) (a : ℕ) → (has q rs ≡ true → A)
      → (has q n.life ≡ true → A) → has q (reverse (take a rs) ++ n.life) ≡ true → A
  life_by q A rs a f g e = elim (in_either q (reverse (take a rs)) n.life e) [
    | inl now ↦ f (in_front q a rs (sym (has-reverse q (take a rs)) ∙ now))
    | inr old ↦ g old
  ]

  module _ (h : Heard) (up : n.failed ≡ false) (stands : InputStands net me h.input) (e : Effect)
      (r : reacts (record { me = me; role = Below p; tree = tree }) n h ≡ Does e) where
    abbrev new : List Record
    new = entries_written e.written

    turn : CoordinatorTurn place (Some p) n h e
    turn = coordinator_turn_of place n h e r

    written_given : (d : Case) → has (is_record_of d) new ≡ true → IsGiven me net d
    written_given d f =
        effect_writes place (Some p) n h (λ c. IsGiven me net c) (known_given up)
        (λ c f g. absurd (cc)) e turn d f

    asked_by : (d : Case) → IsToCommit (Some p) h d → IsGiven me net d
        → sent (is_prepare_message d) net ≡ true
    asked_by d (prepare_comes q k below i) g =
        was_sent (is_prepare_message d) net me h.input i.0 (Prepare d k) stands i.1 (same_case-refl d)
    asked_by d (commit_act x is i) g =
        absurd (never_given x net (subst (λ (c : Case). sent (gives_case c) net ≡ true) is g.1))

    written_collects : (d : Case) → has (is_collecting d) new ≡ true → sent (is_prepare_message d) net ≡ true
    written_collects d f =
        let c : Collects place (Some p) n h d = effect_collects place (Some p) n h e turn d f in
        asked_by d c.to_commit (known_given up d (λ u. absurd
        (let g : Active ≡ Unknown = sym c.active ∙ u in cc)))

    written_promises : (d : Case) → has (is_promise d) new ≡ true → sent (is_prepare_message d) net ≡ true
    written_promises d f = collecting_prepared up d (effect_promises place (Some p) n h e turn d f)

    taken_given : (c : Case) (t : Ticket) → took c t e.accepts ≡ true → IsGiven me net c
    taken_given c t f = effect_takes place (Some p) n h c t (IsGiven me net c) one e turn f
      where
        one : (d : Case) (u : Ticket) → Hears h (Joined d u) → (coordinator_view place n d).standing ≡ Active
            → has_child (coordinator_view place n d).accepted u.child ≡ false → took c t ((d, u) ∷ []) ≡ true
            → IsGiven me net c
        one d u i s k g =
            subst (λ (x : Case). IsGiven me net x) (case_is d c (first _ _ (alone _ g)))
            (known_given up d (λ x. absurd (let y : Active ≡ Unknown = sym s ∙ x in cc)))
          where
            alone : (x : Bool) → (x || false) ≡ true → x ≡ true
            alone x y = grind arith

            first : (x y : Bool) → (x && y) ≡ true → x ≡ true
            first x y z = grind arith

    accepted_then : (c : Case) (t : Ticket) → took c t (e.accepts ++ n.accepted) ≡ true → IsGiven me net c
    accepted_then c t f = elim (either _ _ (sym (list_any-append _ e.accepts n.accepted) ∙ f)) [
      | inl now ↦ taken_given c t now
      | inr old ↦ known.accepted_is_given c t old
    ]

    -- An input that is handled.

    module _ (t : TurnOf (record { me = me; role = Below p; tree = tree }) n h e) where
      abbrev k : Node
      k = after n h e

      abbrev m : Case → Memory
      m d = memory_of (record { me = me; role = Below p; tree = tree }) n d

      memory_then : (d : Case) → memory_of place k d
          ≡ cascaded_remembers me (boot_of (kept n)) d (m d) h.input
      memory_then d = memory_of-heard place n h e d
          (boot_written n h e (turn_none (Below p) place n h e t.turn))

      -- JOIN gave it
      opened_given : (d : Case) (i : Input) → h.input ≡ i
          → OpensMemory (Some p) me (boot_of (kept n)) d (m d) i
          → IsGiven me (net ++ e.messages) d
      opened_given d _ i (by_begin x top g) = absurd (cc)
      opened_given d _ i (by_join q j x below none g) =
          let u = next_ticket me (boot_of (kept n)) (m d) in
          subst (λ (z : Case). IsGiven me (net ++ e.messages) z) g (
            refl,
            sent-append (gives_case (child_case x.txn u)) net e.messages
                ∙ left _ _ (sent_other (is_joined_message x u) (gives_case (child_case x.txn u)) e.messages
                (joined_gives x u) said),
          )
        where
          next_same : next_ticket me (boot_of (kept n)) (m x) ≡ next_ticket me (boot_of (kept n)) (m d)
          next_same = ap (λ (s : Self). record { child = me; boot = boot_of (kept n); number = s.given + 1 })
              (self_same place n x d)

          said : sent (is_joined_message x (next_ticket me (boot_of (kept n)) (m d))) e.messages ≡ true
          said =
              subst (λ (u : Ticket). sent (is_joined_message x u) e.messages ≡ true) next_same
              (join_said place n h e x j tt i up r
              (ap (λ (s : Self). active_ticket s.active x) (self_same place n x d) ∙ none) refl)

      remembered_then : (d : Case) → (memory_of place k d).phase ≢ Idle → IsGiven me (net ++ e.messages) d
      remembered_then d f = by_move (moves (Some p) me (boot_of (kept n)) d (m d) h.input)
          (λ g. f (ap (λ (x : Memory). x.phase) (memory_then d) ∙ g))
        where
          was : (m d).phase ≢ Idle → IsGiven me (net ++ e.messages) d
          was g = given_still me net e.messages d (known.remembered_is_given up d g)

          by_move : {x : Memory} → MovesMemory (Some p) me (boot_of (kept n)) d (m d) h.input x
              → x.phase ≢ Idle
              → IsGiven me (net ++ e.messages) d
          by_move (keeps v s l) g = was (λ idle. g (s ∙ idle))
          by_move (asks a o s l) g = was (not_idle _ Open o (λ y. cc))
          by_move (closes a o s l) g = was (λ y. absurd (o y))
          by_move (takes j u i o b s a v) g = was (not_idle _ Open o (λ y. cc))
          by_move (counts u w c s a v) g = was (not_idle _ Asked c.asked (λ y. cc))
          by_move (opens o s a v) g = opened_given d h.input refl o

      asked_then : (d : Case) → (memory_of place k d).phase ≡ Asked → sent (is_prepare_message d) net ≡ true
      asked_then d f = by_move (moves (Some p) me (boot_of (kept n)) d (m d) h.input)
          (sym (ap (λ (x : Memory). x.phase) (memory_then d)) ∙ f)
        where
          asked_for : (i : Input) → h.input ≡ i → Asks (Some p) d i → sent (is_prepare_message d) net ≡ true
          asked_for _ i (by_prepare q j l below) =
              was_sent (is_prepare_message d) net me h.input j (Prepare d l) stands i (same_case-refl d)
          asked_for _ i (by_commit x top g) = absurd (cc)

          by_move : {x : Memory} → MovesMemory (Some p) me (boot_of (kept n)) d (m d) h.input x
              → x.phase ≡ Asked
              → sent (is_prepare_message d) net ≡ true
          by_move (keeps v s l) g = known.asked_was_prepared up d (sym s ∙ g)
          by_move (asks a o s l) g = asked_for h.input refl a
          by_move (closes a o s l) g = absurd (let y : Over ≡ Asked = sym s ∙ g in cc)
          by_move (takes j u i o b s a v) g = absurd (let y : Open ≡ Asked = sym s ∙ g in cc)
          by_move (counts u w c s a v) g = known.asked_was_prepared up d c.asked
          by_move (opens o s a v) g = absurd (let y : Open ≡ Asked = sym s ∙ g in cc)

      life_then : k.life ≡ reverse (take (length new) new) ++ n.life
      life_then =
          either_logs n new (is_any_forced e.written) (λ (l : Logs). l.life ≡ reverse new ++ n.life)
          (λ b. refl) (λ b. refl)
          ∙ ap (λ y. reverse y ++ n.life) (sym (whole_list new))

      handles_so : Gives place (net ++ e.messages) k
      handles_so = record {
        recorded_is_given = λ d f. given_still me net e.messages d
            (life_by (is_record_of d) (IsGiven me net d) new (length new) (written_given d)
            (known.recorded_is_given d)
            (sym (ap (has (is_record_of d)) life_then) ∙ f));
        remembered_is_given = λ still d f. remembered_then d f;
        accepted_is_given = λ d u f. given_still me net e.messages d (accepted_then d u f);
        asked_was_prepared = λ still d f. prepared_still net e.messages d (asked_then d f);
        collected_was_prepared = λ d f. prepared_still net e.messages d
            (life_by (is_collecting d) (sent (is_prepare_message d) net ≡ true) new (length new)
            (written_collects d)
            (known.collected_was_prepared d) (sym (ap (has (is_collecting d)) life_then) ∙ f));
        promised_was_asked = λ d f. prepared_still net e.messages d
            (life_by (is_promise d) (sent (is_prepare_message d) net ≡ true) new (length new)
            (written_promises d)
            (known.promised_was_asked d) (sym (ap (has (is_promise d)) life_then) ∙ f));
      }

    -- Its device fails in it.
    fails_so : (a f : ℕ) → Gives place (net ++ []) (fails_in n h e a f)
    fails_so a f = record {
      recorded_is_given = λ d g. given_still me net [] d
          (life_by (is_record_of d) (IsGiven me net d) new a (written_given d) (known.recorded_is_given d) g);
      remembered_is_given = λ still. absurd (cc);
      accepted_is_given = λ d u g. given_still me net [] d (accepted_then d u g);
      asked_was_prepared = λ still. absurd (cc);
      collected_was_prepared = λ d g. prepared_still net [] d
          (life_by (is_collecting d) (sent (is_prepare_message d) net ≡ true) new a (written_collects d)
          (known.collected_was_prepared d) g);
      promised_was_asked = λ d g. prepared_still net [] d
          (life_by (is_promise d) (sent (is_prepare_message d) net ≡ true) new a (written_promises d)
          (known.promised_was_asked d) g);
    }

  -- A restart aborts cases that it has recorded.

  kept_given : (j : ℕ) (d : Case) → has (is_record_of d) (left_of n j) ≡ true → IsGiven me net d
  kept_given j d e =
      known.recorded_is_given d (nested.kept_was_written (is_record_of d) (λ k. refl)
      (in_left (is_record_of d) e))
    where
      in_left : (q : Record → Bool) → has q (n.forced ++ take j n.unforced) ≡ true
          → has q (n.forced ++ n.unforced) ≡ true
      in_left q f = elim (in_either q n.forced (take j n.unforced) f) [
        | inl a ↦ in_first q n.forced n.unforced a
        | inr b ↦ in_second q n.forced n.unforced (in_front q j n.unforced b)
      ]

  fresh_phase : (x : Node) (d : Case) → x.heard ≡ [] → (memory_of place x d).phase ≡ Idle
  unfolding memory_of
  fresh_phase x d e = rw e refl

  reopened_given : (j : ℕ) (d : Case) → has (is_record_of d) (reopens (Below p) (left_of n j)) ≡ true
      → IsGiven me net d
  reopened_given j d e = kept_given j d (reopened_record d (left_of n j) e)

  none_reopened : {A : Type 0} (q : Record → Bool) (j : ℕ) → has q (reopens (Below p) (left_of n j)) ≡ false
      → has q (reopens (Below p) (left_of n j)) ≡ true → A
  none_reopened q j e f = not_both q (has q (reopens (Below p) (left_of n j))) f e

  -- what a restart leaves of its histories, where it appended N
  reopens_so : (ls : List Envelope) (j a : ℕ) (x : Node)
      → x.life ≡ reverse (take a (reopens (Below p) (left_of n j))) ++ n.life → x.heard ≡ [] → x.accepted
      ≡ n.accepted
      → Gives place (net ++ ls) x
  reopens_so ls j a x life heard same = record {
    recorded_is_given = λ d e. given_still me net ls d
        (life_by (is_record_of d) (IsGiven me net d) (reopens (Below p) (left_of n j)) a (reopened_given j d)
        (known.recorded_is_given d) (sym (ap (has (is_record_of d)) life) ∙ e));
    remembered_is_given = λ up d f. absurd (f (fresh_phase x d heard));
    accepted_is_given = λ d u e. given_still me net ls d
        (known.accepted_is_given d u (sym (ap (took d u) same) ∙ e));
    asked_was_prepared = λ up d f. absurd (let y : Idle ≡ Asked = sym (fresh_phase x d heard) ∙ f in cc);
    collected_was_prepared = λ d e. prepared_still net ls d
        (life_by (is_collecting d) (sent (is_prepare_message d) net ≡ true)
        (reopens (Below p) (left_of n j)) a
        (none_reopened (is_collecting d) j (reopens_none (is_collecting d) (λ c ts. refl) (λ k. refl)
        (Below p) (left_of n j)))
        (known.collected_was_prepared d) (sym (ap (has (is_collecting d)) life) ∙ e));
    promised_was_asked = λ d e. prepared_still net ls d
        (life_by (is_promise d) (sent (is_prepare_message d) net ≡ true) (reopens (Below p) (left_of n j)) a
        (none_reopened (is_promise d) j (reopens_none (is_promise d) (λ c ts. refl) (λ k. refl) (Below p)
        (left_of n j)))
        (known.promised_was_asked d) (sym (ap (has (is_promise d)) life) ∙ e));
  }

  -- what appends nothing, and hears nothing
  rests_so : (x : Node) → x.life ≡ n.life → x.accepted ≡ n.accepted
      → (x.failed ≡ false → n.failed ≡ false)
      → ((d : Case) → x.failed ≡ false → memory_of place x d ≡ memory_of place n d)
      → Gives place (net ++ []) x
  rests_so x life same up memory = record {
    recorded_is_given = λ d e. given_still me net [] d
        (known.recorded_is_given d (sym (ap (has (is_record_of d)) life) ∙ e));
    remembered_is_given = λ u d f. given_still me net [] d
        (known.remembered_is_given (up u) d (λ idle. f (ap (λ (m : Memory). m.phase) (memory d u) ∙ idle)));
    accepted_is_given = λ d t e. given_still me net [] d
        (known.accepted_is_given d t (sym (ap (took d t) same) ∙ e));
    asked_was_prepared = λ u d f. prepared_still net [] d
        (known.asked_was_prepared (up u) d (sym (ap (λ (m : Memory). m.phase) (memory d u)) ∙ f));
    collected_was_prepared = λ d e. prepared_still net [] d
        (known.collected_was_prepared d (sym (ap (has (is_collecting d)) life) ∙ e));
    promised_was_asked = λ d e. prepared_still net [] d
        (known.promised_was_asked d (sym (ap (has (is_promise d)) life) ∙ e));
  }

  trim_fails_so : (a : ℕ) → Gives place (net ++ []) (trim_fails place n a)
  trim_fails_so zero = rests_so _ refl refl (λ up. absurd (cc)) (λ d up. absurd (cc))
  trim_fails_so (suc a) = rests_so _ refl refl (λ up. absurd (cc)) (λ d up. absurd (cc))

  pub still_gives : (m : Move) → MayHappen net me m.step.happening → (e : Effect) (k : Node)
      → StepOf (record { me = me; role = Below p; tree = tree }) n m e k
      → Gives (record { me = me; role = Below p; tree = tree }) (net ++ e.messages) k
  still_gives m stands _ _ (handled i g hp np r) =
      let t = turn_of place n (heard_in m i) g r in
      handles_so (heard_in m i) t.up (subst (λ (x : Happening). MayHappen net me x) hp stands) g r t
  still_gives m stands _ _ (failed_in i f g fl hp np r) =
      let t = turn_of place n (heard_in m i) g r in
      fails_so (heard_in m i) t.up (subst (λ (x : Happening). MayHappen net me x) hp stands) g r f.appended
      f.forced
  still_gives m stands _ _ (passed i hp r) = rests_so n refl refl (λ up. up) (λ d up. refl)
  still_gives m stands _ _ (failed_passing i f fl hp r) =
      rests_so _ refl refl (λ up. absurd (cc)) (λ d up. absurd (cc))
  still_gives m stands _ _ (reopened j hp) =
      reopens_so _ j (length (reopens (Below p) (left_of n j))) (restarted place n j)
      (ap (λ y. reverse y ++ n.life) (sym (whole_list (reopens (Below p) (left_of n j))))) refl refl
  still_gives m stands _ _ (failed_reopening j f fl hp) =
      reopens_so _ j f.appended (restart_fails place n j f.appended f.forced) refl refl refl
  still_gives m stands _ _ (trims_log hp up) =
      rests_so (trims place n) refl refl (λ u. u) (λ d u. trims_memory place n d)
  still_gives m stands _ _ (failed_trimming f fl hp up) = trim_fails_so f.appended
