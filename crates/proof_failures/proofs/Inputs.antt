-- Where a device fails in an input, the run goes on by a fault in it, and the numbers of its entry are the
-- model's.
use Rattle.std.proofs.Common.{◌≡◌, ◌≢◌, ◌∙◌, ap, sym, subst, refl, ◌+◌, ℕ, Bool, true, false, Option, Some, List, [], ◌∷◌, ◌++◌, if◌then◌else◌}
use Rattle.std.specs.Prelude.{length}
use Rattle.protocol.specs.declared.names.ProcessId.{ProcessId}
use Rattle.protocol.specs.declared.events.JournalEntry.{JournalEntry}
use Rattle.protocol.specs.declared.events.Fault.{Fault}
use Rattle.protocol_words.specs.Variants.{Handles}
use Rattle.protocol.specs.declared.events.Input.{Input}
use Rattle.protocol.specs.declared.records.Record.{Record}
use Rattle.protocol.specs.LogNames.{in_log}
use Rattle.protocol.specs.Nodes.{AtLeaf, AtRoot, Below, DataAnswer, Effect, Heard, Node, Place, Role, begun_first, entries_written, fails_in}
use Rattle.protocol.specs.Reactions.{Does, Reacts, is_passed_over, passes_at, reacts}
use Rattle.protocol.specs.World.{InputStands, Made, World, fault_effect, input_makes, node_makes, passes_over}
use Rattle.protocol.specs.World.{Makes}
use Rattle.log_records.specs.Sights.{records_of}
use Rattle.process_state.specs.States.{CoreState, parent}
use Rattle.process_state.specs.Turns.{heard_now}
use Rattle.tree_state.specs.Fits.{NodeFits}
use Rattle.proof_runs.specs.Laws.{BrokenAs}
use Rattle.tree_state.specs.Steps.{input_move}
use Rattle.tree_state.specs.StandsFor.{ChildrenFit, StandsFor}
use Rattle.proof_runs.specs.worlds.Follows.{Follows, StandsAt}
use Rattle.tree_state.specs.Worlds.{WorldState}
use Rattle.proof_runs.proofs.CascadeSteps.{is_cascaded_place}
use Rattle.proof_runs.proofs.Faults.{breaks_so}
use Rattle.proof_runs.proofs.Turns.{meets_as}
use Rattle.proof_runs.proofs.worlds.Faults.{input_quiet}
use Rattle.proof_runs.proofs.worlds.Fitting.{runs_fit}
use Rattle.proof_runs.proofs.worlds.Steps.{move_with}
use Rattle.proof_failures.specs.Fails.{InputFails}
use Rattle.tree_state.specs.Faults.{WritesBelow, fault_entry, input_fault}
use Rattle.proof_failures.specs.Traces.{TraceGoesOn, with_trace}
use Rattle.proof_failures.proofs.Entered.{fault_on}
use Rattle.proof_failures.proofs.Fronts.{length_append, length_map}
use Rattle.proof_failures.proofs.Left.{counted, counted_left, counts}

-- an input that is not passed over is handled
handled : (place : Place) (n : Node) (q : ProcessId) (i : Input) (fault : Option Fault)
    (a : DataAnswer) (r : Reacts)
    → is_passed_over place n i ≡ false → reacts place n (heard_now a i) ≡ r
    → node_makes place n (input_move q i fault a) ≡ input_makes n (heard_now a i) fault r
unfolding node_makes
handled place n q i fault a r late does =
    ap (λ b. if b then passes_over n fault else input_makes n (heard_now a i) fault
    (reacts place n (heard_now a i)))
    late
    ∙ ap (input_makes n (heard_now a i) fault) does

-- where a fault leaves so much of a process's records, it leaves so much of the process
left_in : (n : Node) (h : Heard) (e : Effect) (appended forced : ℕ)
    → fails_in n h e (counted n (entries_written e.written) appended forced).appended
    (counted n (entries_written e.written) appended forced).forced
    ≡ fails_in n h e appended forced
left_in n h e appended forced =
    ap (λ (failed : Node). record failed {
      heard = n.heard ++ h ∷ [];
      begun = begun_first e.begun n.begun;
      accepted = e.accepts ++ n.accepted;
      voted = e.counts ++ n.voted;
    })
    (counted_left n (entries_written e.written) appended forced)

children_of : (role : Role) (place : Place) (n : Node) → NodeFits role place n → ChildrenFit place n
children_of AtRoot place n f = f.children
children_of (Below p) place n f = f.children
children_of (AtLeaf p) place n f = f.children

module _ (es : List Made) (w : World) (s t : WorldState) (q : ProcessId) (trace : List JournalEntry)
    (f : Follows es w (with_trace s trace)) (i : Input) (happens : InputStands w.net q i) (x : JournalEntry)
    (h : InputFails s t q i x) where
  abbrev n : Node
  n = w.at q

  abbrev before : CoreState
  before = h.fails.before

  abbrev behind : CoreState
  behind = h.fails.behind

  abbrev a : DataAnswer
  a = h.fails.answer

  abbrev place : Place
  place = before.place

  here : StandsAt w (with_trace s trace) q before
  here = f.nodes q before h.fails.moves.stood

  children : n.failed ≡ false → ChildrenFit place n
  children runs =
      let fits : NodeFits place.role place n =
      subst (λ (p : Place). NodeFits p.role p n) (sym here.place) (runs_fit s.tree es w f.is_run q runs) in
      children_of place.role place n fits

  so : BrokenAs n (heard_now a i) before behind
  so = breaks_so n before behind a i here.stands h.fails.broken children

  -- one that is not passed over
  late_on : is_passed_over place n i ≡ false → TraceGoesOn es w s trace t (x ∷ [])
  late_on late =
      let ws : List Record = entries_written so.effect.written in
      let fault : Fault = counted n ws so.appended so.forced in
      let is : input_fault before behind ≡ fault =
      counts n ws so.appended so.forced before behind (length (records_of before.log.kept))
      (ap length here.stands.forced ∙ length_map (in_log (parent before)) n.forced)
      (length_append before.log.kept.forced before.log.kept.unforced ∙ all_of)
      so.stands.forced so.stands.unforced in
      subst (λ y. TraceGoesOn es w s trace t (y ∷ []))
      (sym (h.entry ∙ ap (fault_entry q (Handles i)) is))
      (fault_on es w s t q trace f (Handles i) a before behind happens h.fails.moves
      h.fails.net h.fails.entries
      h.fails.broken.breaks.2.place fault (fault_effect so.effect fault.appended)
      (fails_in n (heard_now a i) so.effect fault.appended fault.forced)
      (subst (λ (p : Place). node_makes p n (move_with q (Handles i) (Some fault) a)
      ≡ Makes (fault_effect so.effect fault.appended)
      (fails_in n (heard_now a i) so.effect fault.appended fault.forced)) here.place
      (handled place n q i (Some fault) a (Does so.effect) late so.does))
      (subst (λ m. StandsFor m behind) (sym (left_in n (heard_now a i) so.effect so.appended so.forced))
      so.stands))
    where
      all_of : length before.log.kept.forced + length before.log.kept.unforced
          ≡ length n.forced + length n.unforced
      all_of = (λ j. (ap length here.stands.forced ∙ length_map (in_log (parent before)) n.forced) j
          + (ap length here.stands.unforced ∙ length_map (in_log (parent before)) n.unforced) j)

  -- one that is passed over has nothing to write
  not_passed : is_passed_over place n i ≡ true → ⊥
  not_passed over = by_role place.role refl
    where
      passed_at : (r : Role) → place.role ≡ r → passes_at r place n i ≡ true
      passed_at r is = ap (λ x. passes_at x place n i) (sym is) ∙ over

      by_role : (r : Role) → place.role ≡ r → ⊥
      by_role AtRoot is = absurd (let never : passes_at AtRoot place n i ≡ true = passed_at AtRoot is in cc)
      by_role (AtLeaf p) is =
          absurd (let never : passes_at (AtLeaf p) place n i ≡ true = passed_at (AtLeaf p) is in cc)
      by_role (Below p) is =
          let cascaded = is_cascaded_place place p is in
          let e = h.fails.broken.breaks.0 in
          let does : reacts place n (heard_now a i) ≡ Does e =
          meets_as n before a h.fails.broken.found i children h.fails.broken.finds here.stands
          ∙ h.fails.broken.breaks.1 in
          let quiet = input_quiet place.me p place.tree n a i
          (subst (λ y. is_passed_over y n i ≡ true) cascaded over) e
          (subst (λ y. reacts y n (heard_now a i) ≡ Does e) cascaded does) in
          let writes : e.written ≢ [] = subst (λ r. WritesBelow r e.written) is h.writes in
          writes quiet.1.unwritten

  pub input_on : TraceGoesOn es w s trace t (x ∷ [])
  input_on = by_over (is_passed_over place n i) refl
    where
      by_over : (b : Bool) → is_passed_over place n i ≡ b → TraceGoesOn es w s trace t (x ∷ [])
      by_over false late = late_on late
      by_over true over = absurd (not_passed over)
