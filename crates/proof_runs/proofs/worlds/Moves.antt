-- What a process does with an input after a run is a move of the model's world.
use Rattle.std.proofs.Common.{◌≡◌, ◌∙◌, Bool, true, false, if◌then◌else◌, Option, None, Some, List, refl, sym, subst}
use Rattle.protocol.specs.declared.names.ProcessId.{ProcessId}
use Rattle.protocol.specs.declared.events.Fault.{Fault}
use Rattle.protocol.specs.declared.events.Input.{Input}
use Rattle.protocol.specs.declared.events.Reaction.{Reaction}
use Rattle.protocol.specs.declared.events.StepError.{StepError}
use Rattle.protocol.specs.declared.trees.TreeProcess.{TreeProcess}
use Rattle.protocol.specs.Nodes.{DataAnswer, Place, is_listed, place_of}
use Rattle.protocol.specs.Reactions.{is_passed_over}
use Rattle.protocol.specs.World.{IsRun, Made, Makes, Refuses, Stepped, World, node_makes, world_makes, world_stepped}
use Rattle.process_state.specs.States.{CoreState}
use Rattle.process_state.specs.Makes.{IsBroken, IsRefusedInput, ProcessMakes}
use Rattle.tree_state.specs.Fits.{NodeFits}
use Rattle.tree_state.specs.Steps.{FaultsAs, StepsAs, input_move}
use Rattle.tree_state.specs.StandsFor.{StandsFor}
use Rattle.proof_runs.proofs.Steps.{faults_so, refusals_so, steps_so}
use Rattle.proof_runs.specs.worlds.Laws.{BreaksWorld, MovesWorld}
use Rattle.proof_runs.proofs.worlds.Fitting.{runs_fit}

module _ (tree : List TreeProcess) (es : List Made) (w : World) (run : IsRun tree es w) (q : ProcessId)
    (old new : CoreState) (a : DataAnswer) (i : Input)
    (at : old.place ≡ place_of tree q) (stands : StandsFor (w.at q) old) where
  fits : (w.at q).failed ≡ false → NodeFits old.place.role old.place (w.at q)
  fits runs = subst (λ (p : Place). NodeFits p.role p (w.at q)) (sym at) (runs_fit tree es w run q runs)

  -- a move at the process's place is one at its place in the tree
  placed : (f : Option Fault) (s : Stepped) → node_makes old.place (w.at q)
      (input_move old.place.me i f a) ≡ s
      → node_makes (place_of tree q) (w.at q) (input_move q i f a) ≡ s
  placed f s = subst (λ (p : Place). node_makes p (w.at q) (input_move p.me i f a) ≡ s) at

  -- and so one of the world, where the process is listed
  in_world : (b : Bool) → is_listed tree q ≡ b → (f : Option Fault) (s : Stepped)
      → node_makes (place_of tree q) (w.at q) (input_move q i f a) ≡ s
      → world_makes tree w (input_move q i f a) ≡ (if b then world_stepped w q s else None)
  unfolding world_makes
  in_world b listed f s e = (λ j. if listed j then world_stepped w q (e j) else None)

  pub inputs_move : is_listed tree q ≡ true → (reaction : Reaction) → ProcessMakes old new a i reaction
      → MovesWorld tree w q new (input_move q i None a) reaction
  inputs_move listed reaction made =
      let step : StepsAs (w.at q) old new (input_move old.place.me i None a) reaction =
      steps_so (w.at q) old new a i stands fits reaction made in
      record {
        effect = step.effect;
        left = step.left;
        makes = in_world true listed None (Makes step.effect step.left)
            (placed None (Makes step.effect step.left) step.makes);
        shown = step.shown;
        stands = step.stands;
      }

  pub refusals_move : (e : StepError) → IsRefusedInput old new a i e
      → (world_makes tree w (input_move q i None a) ≡ None) × StandsFor (w.at q) new
  refusals_move e refused =
      let so = refusals_so (w.at q) old new a i stands fits e refused in (
        in_world (is_listed tree q) refl None (Refuses e) (placed None (Refuses e) so.0)
            ∙ either (is_listed tree q),
        so.1,
      )
    where
      either : (b : Bool) → (if b then world_stepped w q (Refuses e) else None) ≡ None
      either true = refl
      either false = refl

  pub faults_move : is_listed tree q ≡ true → (is_passed_over old.place (w.at q) i ≡ true
      → new.log.kept ≡ old.log.kept)
      → IsBroken old new a i → BreaksWorld tree w q new i a
  faults_move listed same broken =
      let step : FaultsAs (w.at q) old new old.place.me i a =
      faults_so (w.at q) old new a i stands fits same broken in
      record {
        fault = step.fault;
        effect = step.effect;
        left = step.left;
        makes = in_world true listed (Some step.fault) (Makes step.effect step.left)
            (placed (Some step.fault) (Makes step.effect step.left) step.makes);
        stands = step.stands;
      }
