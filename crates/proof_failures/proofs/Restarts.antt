-- Where a device fails in a restart or a trim, the run goes on by a fault in it, and the numbers of its entry
-- are the model's.
use Rattle.std.proofs.Common.{◌≡◌, ◌∙◌, ◌+◌, ap, sym, subst, refl, ℕ, zero, suc, true, false, Option, Some, List, [], ◌∷◌, ◌++◌, map, take}
use Rattle.std.specs.Prelude.{length}
use Rattle.protocol.specs.declared.names.ProcessId.{ProcessId}
use Rattle.protocol.specs.declared.events.JournalEntry.{JournalEntry}
use Rattle.protocol.specs.declared.events.Fault.{Fault}
use Rattle.protocol_words.specs.Variants.{Restarting, Trimming}
use Rattle.protocol.specs.declared.records.LogRecord.{LogRecord}
use Rattle.protocol.specs.declared.records.Record.{Record}
use Rattle.protocol.specs.LogNames.{in_log}
use Rattle.protocol.specs.Nodes.{Effect, Node, Place, kept}
use Rattle.protocol.specs.Restarts.{crashed, reopens, restart_effect, restart_fails, trim_effect, trim_fails, trimmed}
use Rattle.protocol.specs.Trees.{IsTree}
use Rattle.protocol.specs.World.{Made, World, fault_effect, node_makes}
use Rattle.protocol.specs.World.{Makes}
use Rattle.log_records.specs.Sights.{Kept, left_by, records_of, whole_within}
use Rattle.process_state.specs.Restarting.{trimmed_log}
use Rattle.process_state.specs.States.{CoreState, logged, parent}
use Rattle.process_state.specs.Turns.{no_answer}
use Rattle.tree_state.specs.Fits.{KeepsOwn}
use Rattle.tree_state.specs.Steps.{BreaksAs, quiet_move, records_kept}
use Rattle.tree_state.specs.StandsFor.{StandsFor}
use Rattle.proof_runs.specs.worlds.Follows.{Follows, StandsAt}
use Rattle.tree_state.specs.Worlds.{WorldState}
use Rattle.proof_runs.proofs.Faults.{map_take}
use Rattle.proof_runs.proofs.Records.{map_append}
use Rattle.proof_runs.proofs.Restarting.{restart_faults_so}
use Rattle.proof_runs.proofs.TrimmedLogs.{trimmed_is}
use Rattle.proof_runs.proofs.Trimming.{trim_done}
use Rattle.proof_runs.proofs.worlds.Kept.{all_opened, keeps_own}
use Rattle.proof_runs.proofs.worlds.Steps.{listed_at, move_with}
use Rattle.proof_failures.specs.Fails.{RestartBreaksOff, TrimBreaksOff}
use Rattle.tree_state.specs.Faults.{TrimLeaves, fault_entry, restart_fault, trim_fault}
use Rattle.proof_failures.specs.Traces.{TraceGoesOn, with_trace}
use Rattle.proof_failures.proofs.Entered.{fault_on}
use Rattle.proof_failures.proofs.Fronts.{length_append, length_map, within_is_front}
use Rattle.proof_failures.proofs.Left.{counted, counted_left, counts}

same_node : (a b : Effect) (m n : Node) → Makes a m ≡ Makes b n → m ≡ n
same_node a b m n h = cc

-- what a fault in a restart leaves of the model's process
restart_left : (place : Place) (n : Node) (old new : CoreState) (k : ℕ)
    (b : BreaksAs n old new (Restarting k))
    → old.place ≡ place
    → b.left ≡ restart_fails old.place n k b.fault.appended b.fault.forced
unfolding node_makes
restart_left place n old new k b is =
    sym (same_node (fault_effect (restart_effect old.place n k) b.fault.appended) b.effect
    (restart_fails old.place n k b.fault.appended b.fault.forced) b.left b.makes)

-- a restart in which the device fails so is a move of the model's process
restart_made : (place : Place) (n : Node) (q : ProcessId) (k : ℕ) (fault : Fault)
    → node_makes place n (move_with q (Restarting k) (Some fault) no_answer)
    ≡ Makes (fault_effect (restart_effect place n k) fault.appended)
    (restart_fails place n k fault.appended fault.forced)
unfolding node_makes
restart_made place n q k fault = refl

module _ (es : List Made) (w : World) (s t : WorldState) (q : ProcessId) (trace : List JournalEntry)
    (f : Follows es w (with_trace s trace)) (is_tree : IsTree s.tree) (x : JournalEntry) where
  abbrev n : Node
  n = w.at q

  at : (c : CoreState) → s.node_at q ≡ Some c → StandsAt w (with_trace s trace) q c
  at c stood = f.nodes q c stood

  own : (c : CoreState) → s.node_at q ≡ Some c → KeepsOwn c.place n
  own c stood =
      subst (λ (p : Place). KeepsOwn p n) (sym (at c stood).place)
      (keeps_own s.tree es w is_tree f.is_run q (listed_at es w (with_trace s trace) q c f stood))

  module _ (bytes : Option ℕ) (h : RestartBreaksOff s t q bytes x) where
    abbrev old : CoreState
    old = h.fails.before

    abbrev new : CoreState
    new = h.fails.behind

    abbrev k : ℕ
    k = records_kept old h.fails.keep

    abbrev c : Node
    c = crashed old.place n k

    abbrev rs : List Record
    rs = reopens old.place.role (kept c)

    stands : StandsFor n old
    stands = (at old h.fails.moves.stood).stands

    -- as many of the unforced records are kept as the entry says
    front : List LogRecord
    front = whole_within (old.log.behind + h.fails.keep) old.log.kept.unforced

    all_kept : k ≡ length (take k n.unforced)
    all_kept =
        ap length (within_is_front (old.log.behind + h.fails.keep) old.log.kept.unforced)
        ∙ ap (λ ls. length (take k ls)) stands.unforced
        ∙ ap length (sym (map_take (in_log (parent old)) k n.unforced))
        ∙ length_map (in_log (parent old)) (take k n.unforced)

    pub restart_on : TraceGoesOn es w s trace t (x ∷ [])
    restart_on =
        let b = restart_faults_so n old new h.fails.keep stands (own old h.fails.moves.stood) h.fails.broken
        in
        let left : StandsFor (restart_fails old.place n k b.fault.appended b.fault.forced) new =
        subst (λ m. StandsFor m new) (restart_left old.place n old new k b refl) b.stands in
        let fault : Fault = counted c rs b.fault.appended b.fault.forced in
        let forced_of : length old.log.kept.forced ≡ length n.forced =
        ap length stands.forced ∙ length_map (in_log (parent old)) n.forced in
        let is : restart_fault old h.fails.keep new ≡ fault =
        counts c rs b.fault.appended b.fault.forced old new (length (left_by old.log h.fails.keep)) forced_of
        (length_append old.log.kept.forced
        (whole_within (old.log.behind + h.fails.keep) old.log.kept.unforced)
        ∙ (λ j. forced_of j + all_kept j)) left.forced left.unforced in
        subst (λ y. TraceGoesOn es w s trace t (y ∷ []))
        (sym (h.entry ∙ ap (fault_entry q (Restarting k)) is))
        (fault_on es w s t q trace f (Restarting k) no_answer old new tt h.fails.moves
        h.fails.net h.fails.entries
        h.fails.broken.1 fault (fault_effect (restart_effect old.place n k) fault.appended)
        (restart_fails old.place n k fault.appended fault.forced)
        (subst (λ (p : Place). node_makes p n (move_with q (Restarting k) (Some fault) no_answer)
        ≡ Makes (fault_effect (restart_effect old.place n k) fault.appended)
        (restart_fails old.place n k fault.appended fault.forced)) (at old h.fails.moves.stood).place
        (restart_made old.place n q k fault))
        (subst (λ m. StandsFor m new) (sym (counted_left c rs b.fault.appended b.fault.forced)) left))

  module _ (h : TrimBreaksOff s t q x) where
    abbrev before : CoreState
    before = h.fails.before

    abbrev behind : CoreState
    behind = h.fails.behind

    abbrev place : Place
    place = before.place

    sits : StandsAt w (with_trace s trace) q before
    sits = at before h.fails.moves.stood

    up : n.failed ≡ false
    up = sym sits.stands.failed ∙ h.fails.works

    log_is : records_of before.log.kept ≡ map (in_log (parent before)) (kept n)
    log_is = (λ j. sits.stands.forced j ++ sits.stands.unforced j)
        ∙ sym (map_append (in_log (parent before)) n.forced n.unforced)

    left_is : trimmed_log before ≡ logged before (trimmed place.role (kept n))
    left_is = trimmed_is place (kept n) (records_of before.log.kept) log_is (own before h.fails.moves.stood)
        (all_opened s.tree es w f.is_run q) h.fails.sound

    stands_left : (k : ℕ) → behind.log.kept.forced ≡ logged before (trim_fails place n k).forced
        → behind.log.kept.unforced ≡ logged before (trim_fails place n k).unforced
        → (trim_fails place n k).failed ≡ true → StandsFor (trim_fails place n k) behind
    stands_left k forced unforced fails =
        subst (λ p. StandsFor (trim_fails place n k) (record behind { place = p })) (sym h.fails.broken.place)
        (record {
          forced = forced;
          unforced = unforced;
          failed = h.fails.broken.failed ∙ sym fails;
          up = λ runs. absurd (let clash : true ≡ false = sym fails ∙ runs in cc);
        })

    left_on : (k : ℕ) → StandsFor (trim_fails place n k) behind → x ≡ fault_entry q Trimming (trim_fault k)
        → TraceGoesOn es w s trace t (x ∷ [])
    left_on k left is =
        subst (λ y. TraceGoesOn es w s trace t (y ∷ [])) (sym is)
        (fault_on es w s t q trace f Trimming no_answer before behind tt h.fails.moves
        h.fails.net h.fails.entries
        h.fails.broken.place (trim_fault k) (fault_effect (trim_effect place n) 0) (trim_fails place n k)
        (subst (λ (p : Place). node_makes p n (quiet_move p.me Trimming (Some (trim_fault k)))
        ≡ Makes (fault_effect (trim_effect place n) 0) (trim_fails place n k)) sits.place
        (trim_done place n (Some (trim_fault k)) false up)) left)

    by_left : (k : ℕ) → TrimLeaves before behind k → x ≡ fault_entry q Trimming (trim_fault k)
        → TraceGoesOn es w s trace t (x ∷ [])
    by_left zero same is =
        left_on 0 (stands_left 0 (ap (λ (m : Kept). m.forced) same ∙ sits.stands.forced)
        (ap (λ (m : Kept). m.unforced) same ∙ sits.stands.unforced) refl) is
    by_left (suc zero) other is =
        left_on 1 (stands_left 1 (ap (λ (m : Kept). m.forced) other.0 ∙ left_is)
        (ap (λ (m : Kept). m.unforced) other.0) refl) is
    by_left (suc (suc k)) none is = absurd none

    pub trim_on : TraceGoesOn es w s trace t (x ∷ [])
    trim_on = by_left h.left h.leaves h.entry
