-- A restart and a trim of a process after a run are moves of the model's world.
use Rattle.std.proofs.Common.{◌≡◌, ◌∙◌, ℕ, Bool, true, false, if◌then◌else◌, Option, None, Some, List, refl, sym, subst}
use Rattle.protocol.specs.declared.names.ProcessId.{ProcessId}
use Rattle.protocol.specs.declared.events.Fault.{Fault}
use Rattle.protocol.specs.declared.events.Happening.{Happening}
use Rattle.protocol.specs.declared.events.Happening.TheVariants.{Trim}
use Rattle.protocol.specs.declared.events.Reaction.{Reaction}
use Rattle.protocol.specs.declared.events.StepError.TheVariants.{Device, Failed}
use Rattle.protocol.specs.declared.trees.TreeProcess.{TreeProcess}
use Rattle.protocol.specs.Nodes.{Place, is_listed, place_of}
use Rattle.protocol.specs.World.{Makes, Refuses, Stepped, World, node_makes, world_makes, world_stepped}
use Rattle.process_state.specs.Restarting.{ProcessNotRestarted, ProcessNotTrimmed, ProcessRestarts, ProcessTrims}
use Rattle.process_state.specs.States.{CoreState}
use Rattle.tree_state.specs.Fits.{HasOpened, KeepsOwn, OpenFits}
use Rattle.tree_state.specs.Steps.{BreaksAs, KeepsSoundLog, StepsAs, quiet_move, restart_of, trim_reaction}
use Rattle.tree_state.specs.StandsFor.{StandsFor}
use Rattle.proof_runs.proofs.Restarting.{restart_faults_so, restarts_so}
use Rattle.proof_runs.proofs.Trimming.{trim_faults_so, trim_refused, trims_so}
use Rattle.proof_runs.specs.worlds.Laws.{BreaksOffWorld, MovesWorld}

module _ (tree : List TreeProcess) (w : World) (q : ProcessId) (old new : CoreState)
    (at : old.place ≡ place_of tree q) (stands : StandsFor (w.at q) old) where
  -- a move at the process's place is one at its place in the tree
  placed : (h : Happening) (f : Option Fault) (s : Stepped)
      → node_makes old.place (w.at q) (quiet_move old.place.me h f) ≡ s
      → node_makes (place_of tree q) (w.at q) (quiet_move q h f) ≡ s
  placed h f s = subst (λ (p : Place). node_makes p (w.at q) (quiet_move p.me h f) ≡ s) at

  -- and so one of the world, where the process is listed
  in_world : (b : Bool) → is_listed tree q ≡ b → (h : Happening) (f : Option Fault) (s : Stepped)
      → node_makes (place_of tree q) (w.at q) (quiet_move q h f) ≡ s
      → world_makes tree w (quiet_move q h f) ≡ (if b then world_stepped w q s else None)
  unfolding world_makes
  in_world b listed h f s e = (λ j. if listed j then world_stepped w q (e j) else None)

  pub trim_refusals_move : ProcessNotTrimmed old new Failed
      → (world_makes tree w (quiet_move q Trim None) ≡ None) × StandsFor (w.at q) new
  trim_refusals_move refused =
      let so = trim_refused (w.at q) old new stands refused in (
        in_world (is_listed tree q) refl Trim None (Refuses Failed)
            (placed Trim None (Refuses Failed) so.0)
            ∙ either (is_listed tree q),
        so.1,
      )
    where
      either : (b : Bool) → (if b then world_stepped w q (Refuses Failed) else None) ≡ None
      either true = refl
      either false = refl

  module _ (listed : is_listed tree q ≡ true) where
    moves : (h : Happening) (reaction : Reaction)
        → StepsAs (w.at q) old new (quiet_move old.place.me h None) reaction
        → MovesWorld tree w q new (quiet_move q h None) reaction
    moves h reaction step =
        record {
          effect = step.effect;
          left = step.left;
          makes = in_world true listed h None (Makes step.effect step.left)
              (placed h None (Makes step.effect step.left) step.makes);
          shown = step.shown;
          stands = step.stands;
        }

    breaks : (h : Happening) → BreaksAs (w.at q) old new h → BreaksOffWorld tree w q new h
    breaks h step =
        record {
          fault = step.fault;
          effect = step.effect;
          left = step.left;
          makes = in_world true listed h (Some step.fault) (Makes step.effect step.left)
              (placed h (Some step.fault) (Makes step.effect step.left) step.makes);
          stands = step.stands;
        }

    module _ (own : KeepsOwn (place_of tree q) (w.at q)) where
      own_here : KeepsOwn old.place (w.at q)
      own_here = subst (λ (p : Place). KeepsOwn p (w.at q)) (sym at) own

      pub restarts_move : (keep : ℕ) (reaction : Reaction) → ProcessRestarts old keep new reaction
          → MovesWorld tree w q new (quiet_move q (restart_of old keep) None) reaction
      restarts_move keep reaction made =
          moves (restart_of old keep) reaction
          (restarts_so (w.at q) old new keep stands own_here reaction made)

      pub restart_faults_move : (keep : ℕ) → ProcessNotRestarted old keep new Device
          → BreaksOffWorld tree w q new (restart_of old keep)
      restart_faults_move keep broken =
          breaks (restart_of old keep) (restart_faults_so (w.at q) old new keep stands own_here broken)

      module _ (up : (w.at q).failed ≡ false) (opened : HasOpened (w.at q)) (sound : KeepsSoundLog old) where
        pub trims_move : OpenFits (place_of tree q).role (place_of tree q) (w.at q) → (remain : ℕ)
            → ProcessTrims old new remain → MovesWorld tree w q new (quiet_move q Trim None)
            (trim_reaction remain)
        trims_move fits remain made =
            moves Trim (trim_reaction remain)
            (trims_so (w.at q) old new stands up own_here opened sound
            (subst (λ (p : Place). OpenFits p.role p (w.at q)) (sym at) fits) remain made)

        pub trim_faults_move : ProcessNotTrimmed old new Device → BreaksOffWorld tree w q new Trim
        trim_faults_move broken =
            breaks Trim (trim_faults_so (w.at q) old new stands up own_here opened sound broken)
