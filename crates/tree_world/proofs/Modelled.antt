-- A tree that stands for a run after faults stands for one that goes on, however a call on it ends.
use Rattle.std.proofs.Common.{◌≡◌, refl, sym, subst, ℕ, Bool, true, false, List, [], ◌++◌, Result, Ok, Err, OnOk, IfErr}
use Rattle.protocol.specs.declared.events.Event.{Event}
use Rattle.protocol.specs.declared.events.StepError.{StepError}
use Rattle.protocol.specs.declared.trees.TreeProcess.{TreeProcess}
use Rattle.protocol.specs.Trees.{IsTree}
use Rattle.protocol.specs.World.{Made, World, opened_world}
use Rattle.tree_state.specs.Worlds.{Applies, Stops, WorldState}
use Rattle.tree_state.specs.Runs.{IsOpenedTree, EventsLead, LeadsUntil}
use Rattle.proof_runs.specs.worlds.Follows.{FollowsBehindFaults, entered_of}
use Rattle.proof_runs.specs.worlds.Modelled.{IsModelledTree, KeepsHeadline}
use Rattle.proof_runs.proofs.worlds.Events.{GoesOnIn, applied_on, leads_on, leads_until_on, stopped_on}
use Rattle.proof_runs.proofs.worlds.Journals.{entered_hides, entered_shows, opened_behind_faults}
use Rattle.proof_runs.proofs.worlds.Processes.{as_the_model}
use Rattle.proof_runs.proofs.worlds.Whole.{keeps_headline as keeps_headline_so}
use Rattle.proof_reopened.specs.Earlier.{Earlier}
use Rattle.proof_reopened.specs.Since.{FollowsSince, GoesOnKeeping}
use Rattle.proof_reopened.proofs.Events.{GoesIn, applied_on as applied_on_since, leads_on as leads_on_since, leads_until_on as leads_until_on_since, stopped_on as stopped_on_since}
use Rattle.proof_reopened.proofs.Reports.{both_parts}
use Rattle.proof_reopened.proofs.TreeStays.{applied_stays, led_stays, led_until_stays, stopped_stays}
use Rattle.tree_world.specs.Worlds.{KeepsRun}

-- from every run for which the first state stands, the second stands for one that goes on, of the same tree
abbrev pub GoesOnFrom : WorldState → WorldState → Type 0
GoesOnFrom s t = (es : List Made) (w : World) → FollowsBehindFaults es w s → GoesOnIn entered_of s.tree es w t

pub applied_from : (s t : WorldState) (event : Event) (made : Result (Unit {0}) StepError) → IsTree s.tree
    → OnOk made (Applies s event t) → IfErr made (λ e. Stops s event e t) → GoesOnFrom s t
applied_from s t event (Ok done) m ok err es w f =
    applied_on entered_of entered_shows as_the_model s.tree m s t event es w refl f ok
applied_from s t event (Err e) m ok err es w f =
    stopped_on entered_of entered_shows as_the_model s.tree m s t event e es w
    (λ failed. entered_hides) refl f err

pub ran_from : (s t : WorldState) (events : List Event)
    (made : Result (Unit {0}) (ℕ × StepError)) → IsTree s.tree
    → OnOk made (EventsLead s events t) → IfErr made
    (λ refusal. LeadsUntil s events refusal.0 refusal.1 t) → GoesOnFrom s t
ran_from s t events (Ok done) m ok err es w f =
    leads_on entered_of entered_shows as_the_model s.tree m s t events es w refl f ok
ran_from s t events (Err refusal) m ok err es w f =
    leads_until_on entered_of entered_shows as_the_model s.tree m s t events refusal.0 refusal.1 es w
    (λ failed. entered_hides) refl f err

-- a tree that has opened empty logs stands for the run with no moves
pub opened_modelled : (tree : List TreeProcess) (s : WorldState) → IsTree tree
    → IsOpenedTree s tree → IsModelledTree s
opened_modelled tree s is_tree opened = record {
  is_tree = subst IsTree (sym opened.tree_is) is_tree;
  run = record { moves = []; world = opened_world; follows = opened_behind_faults tree s opened };
}

pub stays_modelled : (s t : WorldState) → IsModelledTree s → GoesOnFrom s t → IsModelledTree t
stays_modelled s t m goes =
    let g = goes m.run.moves m.run.world m.run.follows in
    record {
      is_tree = subst IsTree (sym g.tree_stays) m.is_tree;
      run = record {
        moves = g.goes_on_so.later ++ m.run.moves;
        world = g.goes_on_so.world;
        follows = g.goes_on_so.follows;
      };
    }

-- of the run that it stands for the headline holds
pub keeps_headline : (s : WorldState) → IsModelledTree s → KeepsHeadline s
keeps_headline s m = keeps_headline_so s m

-- Trees that were opened over empty logs, or over those that an earlier run left.

pub is_tree_of : (b : Bool) (s : WorldState) → KeepsRun b s → IsTree s.tree
is_tree_of false s m = m.is_tree
is_tree_of true s m = m

pub stays_kept : (b : Bool) (s t : WorldState) → KeepsRun b s → t.tree ≡ s.tree → GoesOnFrom s t
    → KeepsRun b t
stays_kept false s t m same goes = stays_modelled s t m goes
stays_kept true s t m same goes = subst IsTree (sym same) m

pub kept_headline : (b : Bool) (s : WorldState) → KeepsRun b s → b ≡ false → KeepsHeadline s
kept_headline false s m is = keeps_headline s m
kept_headline true s m is = absurd (cc)

pub applied_tree : (s t : WorldState) (event : Event) (made : Result (Unit {0}) StepError)
    → OnOk made (Applies s event t) → IfErr made (λ e. Stops s event e t) → t.tree ≡ s.tree
applied_tree s t event (Ok done) ok err = applied_stays s t event ok
applied_tree s t event (Err e) ok err = stopped_stays s t event e err

pub ran_tree : (s t : WorldState) (events : List Event) (made : Result (Unit {0}) (ℕ × StepError))
    → OnOk made (EventsLead s events t) → IfErr made (λ refusal. LeadsUntil s events refusal.0 refusal.1 t)
    → t.tree ≡ s.tree
ran_tree s t events (Ok done) ok err = led_stays s t events ok
ran_tree s t events (Err refusal) ok err = led_until_stays s t events refusal.0 refusal.1 err

-- from every run since the tree was opened for which the first state stands, the second stands for one that
-- goes on
abbrev pub KeepsOnFrom : WorldState → WorldState → Type 0
KeepsOnFrom s t = (past : Earlier) (es : List Made) (w : World) → FollowsSince past es w s
    → GoesOnKeeping past es w t

keeping : (past : Earlier) (es : List Made) (w : World) (s t : WorldState) → IsTree s.tree
    → GoesIn past s.tree es w t → GoesOnKeeping past es w t
keeping past es w s t is_tree g =
    let on = g.goes_on_so in
    record {
      goes_on = on;
      keeps = both_parts past t (on.later ++ es) on.world
          (subst IsTree (sym g.tree_stays) is_tree) on.follows;
    }

pub applied_since : (s t : WorldState) (event : Event) (made : Result (Unit {0}) StepError) → IsTree s.tree
    → OnOk made (Applies s event t) → IfErr made (λ e. Stops s event e t) → KeepsOnFrom s t
applied_since s t event (Ok done) is_tree ok err past es w f =
    keeping past es w s t is_tree (applied_on_since past s.tree is_tree s t event es w refl f ok)
applied_since s t event (Err e) is_tree ok err past es w f =
    keeping past es w s t is_tree (stopped_on_since past s.tree is_tree s t event e es w refl f err)

pub ran_since : (s t : WorldState) (events : List Event) (made : Result (Unit {0}) (ℕ × StepError))
    → IsTree s.tree
    → OnOk made (EventsLead s events t) → IfErr made (λ refusal. LeadsUntil s events refusal.0 refusal.1 t)
    → KeepsOnFrom s t
ran_since s t events (Ok done) is_tree ok err past es w f =
    keeping past es w s t is_tree (leads_on_since past s.tree is_tree s t events es w refl f ok)
ran_since s t events (Err refusal) is_tree ok err past es w f =
    keeping past es w s t is_tree
    (leads_until_on_since past s.tree is_tree s t events refusal.0 refusal.1 es w refl f err)
