-- What a process does with an input is a move of the model's process, whatever its role.
use Rattle.std.proofs.Common.{◌≡◌, ℕ, Bool, true, false, ◌&&◌, not, if◌then◌else◌, Option, Some, None, refl, sym, ap, subst, ◌∙◌}
use Rattle.protocol.specs.declared.names.Case.{Case}
use Rattle.protocol.specs.declared.names.ProcessId.{ProcessId}
use Rattle.protocol.specs.declared.messages.Message.{Message}
use Rattle.protocol.specs.declared.events.Fault.{Fault}
use Rattle.protocol.specs.declared.events.Input.{Input}
use Rattle.protocol_words.specs.Variants.{ActInput, MessageInput}
use Rattle.protocol.specs.declared.events.Reaction.{Reaction}
use Rattle.protocol.specs.declared.events.StepError.{StepError}
use Rattle.protocol.specs.declared.events.StepError.TheVariants.{Failed}
use Rattle.protocol.specs.Nodes.{AtLeaf, AtRoot, Below, DataAnswer, Node, Place, Role, after, fails_in, no_effect, reaction_of}
use Rattle.protocol.specs.Reactions.{Does, Reacts, Refused, hears, is_passed_over, passes_at, reacts}
use Rattle.protocol.specs.World.{Refuses, fault_effect, input_makes, node_makes, passes_over}
use Rattle.log_records.specs.Sights.{Kept}
use Rattle.process_state.specs.States.{CoreState}
use Rattle.process_state.specs.Makes.{IsBroken, IsRefusedInput, ProcessMakes, ProcessMoves}
use Rattle.process_state.specs.Turns.{FindsChildCase, asked_by, turn_of, heard_now, this_version}
use Rattle.tree_state.specs.Fits.{LeafFits, NodeFits}
use Rattle.proof_runs.specs.Laws.{MadeAs}
use Rattle.tree_state.specs.Steps.{FaultsAs, StepsAs, input_move}
use Rattle.tree_state.specs.StandsFor.{ChildrenFit, StandsFor}
use Rattle.proof_runs.proofs.CascadeQuiet.{cascaded_place}
use Rattle.proof_runs.proofs.CascadeSteps.{cascade_makes, is_cascaded_place}
use Rattle.proof_runs.proofs.Faults.{breaks_so, refuses_so, kept_stands}
use Rattle.proof_runs.proofs.ManagerSteps.{managers_make, place_stays}
use Rattle.proof_runs.proofs.PassedOver.{IsNothing, passed_is_nothing}
use Rattle.proof_runs.proofs.RootSteps.{failed_makes, root_makes}

-- an input that is not passed over is handled
handled_so : (place : Place) (n : Node) (i : Input) (fault : Option Fault) (a : DataAnswer) (r : Reacts)
    → is_passed_over place n i ≡ false
    → reacts place n (heard_now a i) ≡ r
    → node_makes place n (input_move place.me i fault a)
    ≡ input_makes n (heard_now a i) fault r
unfolding node_makes
handled_so place n i fault a r late does =
    ap (λ b. if b then passes_over n fault else input_makes n (heard_now a i) fault
    (reacts place n (heard_now a i))) late
    ∙ ap (input_makes n (heard_now a i) fault) does

-- one that is passed over leaves the process as it was, but for its device
passed_by : (place : Place) (n : Node) (i : Input) (fault : Option Fault) (a : DataAnswer)
    → is_passed_over place n i ≡ true
    → node_makes place n (input_move place.me i fault a) ≡ passes_over n fault
unfolding node_makes
passed_by place n i fault a over =
    ap (λ b. if b then passes_over n fault else input_makes n (heard_now a i) fault
    (reacts place n (heard_now a i))) over

-- a process that is up refuses no message
message_done : (place : Place) (n : Node) (k : ℕ) (m : Message) (a : DataAnswer) → n.failed ≡ false
    → reacts place n (heard_now a (MessageInput k m))
    ≡ Does (hears place.role this_version place n a m)
unfolding reacts
message_done place n k m a runs = ap (λ b. if b then Refused Failed else Does
    (hears place.role this_version place n a m)) runs

module _ (n : Node) (old new : CoreState) (a : DataAnswer) (i : Input) (stands : StandsFor n old)
    (fits : n.failed ≡ false → NodeFits old.place.role old.place n) where
  fits_as : (role : Role) → old.place.role ≡ role → n.failed ≡ false → NodeFits role old.place n
  fits_as role is runs = subst (λ r. NodeFits r old.place n) is (fits runs)

  children_of : (role : Role) → NodeFits role old.place n → ChildrenFit old.place n
  children_of AtRoot f = f.children
  children_of (Below p) f = f.children
  children_of (AtLeaf p) f = f.children

  children : n.failed ≡ false → ChildrenFit old.place n
  children runs = children_of old.place.role (fits runs)

  -- a root and a manager pass nothing over
  passes_as : (role : Role) → old.place.role ≡ role
      → is_passed_over old.place n i ≡ passes_at role old.place n i
  passes_as role is = ap (λ r. passes_at r old.place n i) is

  -- an input that is passed over does nothing at a coordinator below the root
  module _ (p : ProcessId) (role : old.place.role ≡ Below p) (found : Option Case)
      (finds : FindsChildCase old (asked_by i) found) (over : is_passed_over old.place n i ≡ true)
      (runs : n.failed ≡ false) where
    abbrev at_place : Place → Place → Type 0
    at_place q r = ChildrenFit q n → StandsFor n (record old { place = q }) → is_passed_over q n i ≡ true
        → FindsChildCase (record old { place = q }) (asked_by i) found
        → IsNothing (record old { place = q }) (record new { place = r }) i
        (turn_of (record old { place = q }) a found i)

    placed : (q r : Place) → q ≡ cascaded_place old.place.me p old.place.tree → r ≡ q → at_place q r
    placed q r is_q is_r =
        subst (at_place q) (sym is_r)
        (subst (λ q. at_place q q) (sym is_q)
        (λ fit s o f. passed_is_nothing n old new old.place.me p old.place.tree a found runs fit s i o f))

    nothing : ProcessMoves old new i (turn_of old a found i) → IsNothing old new i (turn_of old a found i)
    nothing moves = placed old.place new.place (is_cascaded_place old.place p role)
        (place_stays old new i (turn_of old a found i) moves) (children runs) stands over finds

  module _ (reaction : Reaction) (made : ProcessMakes old new a i reaction) where
    made_step : is_passed_over old.place n i ≡ false
        → MadeAs n (heard_now a i) old new reaction
        → StepsAs n old new (input_move old.place.me i None a) reaction
    made_step late as' =
        record {
          effect = as'.effect;
          left = after n (heard_now a i) as'.effect;
          makes = handled_so old.place n i None a (Does as'.effect) late as'.does;
          shown = as'.shown;
          stands = as'.stands;
        }

    passed_step : (p : ProcessId) → old.place.role ≡ Below p → n.failed ≡ false
        → is_passed_over old.place n i ≡ true
        → StepsAs n old new (input_move old.place.me i None a) reaction
    passed_step p role runs over =
        let same = nothing p role made.found made.finds over runs made.moves
        made.effect made.does made.moves in
        record {
          effect = no_effect;
          left = n;
          makes = passed_by old.place n i None a over;
          shown = made.shown ∙ ap reaction_of same.0;
          stands = kept_stands n old new same.1 stands;
        }

    by_role : n.failed ≡ false → (role : Role) → old.place.role ≡ role
        → StepsAs n old new (input_move old.place.me i None a) reaction
    by_role runs AtRoot role =
        made_step (passes_as AtRoot role) (root_makes n old new a i reaction role
        stands made (fits_as AtRoot role))
    by_role runs (AtLeaf p) role =
        let f : LeafFits old.place n = fits_as (AtLeaf p) role runs in
        made_step (passes_as (AtLeaf p) role)
        (managers_make n old new p a i reaction role stands f.children f.fresh made)
    by_role runs (Below p) role = by_over (is_passed_over old.place n i) refl
      where
        by_over : (b : Bool) → is_passed_over old.place n i ≡ b
            → StepsAs n old new (input_move old.place.me i None a) reaction
        by_over false late =
            made_step late (cascade_makes n old new p a i reaction role stands made
            (fits_as (Below p) role) late)
        by_over true over = passed_step p role runs over

    pub steps_so : StepsAs n old new (input_move old.place.me i None a) reaction
    steps_so = by_failed n.failed refl
      where
        by_failed : (f : Bool) → n.failed ≡ f → StepsAs n old new (input_move old.place.me i None a) reaction
        by_failed false runs = by_role runs old.place.role refl
        by_failed true failed = failed_makes old new a made.found i (stands.failed ∙ failed) made.moves

  -- What is refused is not passed over: it is no message, or the device has failed.

  second : (a b : Bool) → (a && not b) ≡ true → b ≡ false
  second true false e = refl
  second true true e = absurd (cc)
  second false b e = absurd (cc)

  not_refused : {A : Type 0} (r : Role) (j : Input) (e : StepError) → passes_at r old.place n j ≡ true
      → reacts old.place n (heard_now a j) ≡ Refused e → A
  not_refused AtRoot j e over refused = absurd (cc)
  not_refused (AtLeaf p) j e over refused = absurd (cc)
  not_refused (Below p) (ActInput x) e over refused = absurd (cc)
  not_refused (Below p) (MessageInput k m) e over refused =
      absurd (let clash : Does (hears old.place.role this_version old.place n a m)
      ≡ Refused e = sym (message_done old.place n k m a (second _ n.failed over)) ∙ refused in cc)

  pub refusals_so : (e : StepError) → IsRefusedInput old new a i e
      → (node_makes old.place n (input_move old.place.me i None a) ≡ Refuses e) × StandsFor n new
  refusals_so e refused = by_over (is_passed_over old.place n i) refl
    where
      so : (reacts old.place n (heard_now a i) ≡ Refused e) × StandsFor n new
      so = refuses_so n old new a i e stands children refused

      by_over : (b : Bool) → is_passed_over old.place n i ≡ b
          → (node_makes old.place n (input_move old.place.me i None a) ≡ Refuses e) × StandsFor n new
      by_over false late = (handled_so old.place n i None a (Refused e) late so.0, so.1)
      by_over true over = not_refused old.place.role i e over so.0

  -- A fault.

  handled_fault : is_passed_over old.place n i ≡ false → IsBroken old new a i
      → FaultsAs n old new old.place.me i a
  handled_fault late broken =
      let so = breaks_so n old new a i stands broken children in
      record {
        fault = record { appended = so.appended; forced = so.forced };
        effect = fault_effect so.effect so.appended;
        left = fails_in n (heard_now a i) so.effect so.appended so.forced;
        makes = handled_so old.place n i (Some (record { appended = so.appended; forced = so.forced })) a
            (Does so.effect) late so.does;
        stands = so.stands;
      }

  -- the records of a process that passed an input over are as they were
  passed_left : new.log.kept ≡ old.log.kept → IsBroken old new a i
      → StandsFor (record n { failed = true }) (record new { place = old.place })
  passed_left same broken =
      record {
        forced = ap (λ (k : Kept). k.forced) same ∙ stands.forced;
        unforced = ap (λ (k : Kept). k.unforced) same ∙ stands.unforced;
        failed = broken.breaks.2.log.failed;
        up = λ runs. absurd (cc);
      }

  passed_fault : is_passed_over old.place n i ≡ true → new.log.kept ≡ old.log.kept → IsBroken old new a i
      → FaultsAs n old new old.place.me i a
  passed_fault over same broken =
      record {
        fault = record { appended = 0; forced = 0 };
        effect = no_effect;
        left = record n { failed = true };
        makes = passed_by old.place n i (Some (record { appended = 0; forced = 0 })) a over;
        stands = subst (λ (p : Place). StandsFor (record n { failed = true }) (record new { place = p }))
            (sym broken.breaks.2.place) (passed_left same broken);
      }

  pub faults_so : (is_passed_over old.place n i ≡ true → new.log.kept ≡ old.log.kept) → IsBroken old new a i
      → FaultsAs n old new old.place.me i a
  faults_so same broken = by_over (is_passed_over old.place n i) refl
    where
      by_over : (b : Bool) → is_passed_over old.place n i ≡ b → FaultsAs n old new old.place.me i a
      by_over false late = handled_fault late broken
      by_over true over = passed_fault over (same over) broken
