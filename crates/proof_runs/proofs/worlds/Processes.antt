-- In every run each process makes of an input what the model's process makes of it, and refuses what that
-- refuses.
use Rattle.std.proofs.Common.{◌≡◌, ◌∙◌, ap, sym, subst, refl, Bool, true, false, List, Option, Some, None, is_some}
use Rattle.std.specs.Prelude.{if◌then◌else◌}
use Rattle.protocol.specs.declared.names.ProcessId.{ProcessId}
use Rattle.protocol.specs.declared.events.Input.{Input}
use Rattle.protocol_words.specs.Variants.{ActInput, MessageInput}
use Rattle.protocol.specs.declared.events.StepError.{StepError}
use Rattle.protocol.specs.declared.events.StepError.TheVariants.{Failed}
use Rattle.protocol.specs.declared.trees.TreeProcess.{TreeProcess}
use Rattle.protocol.specs.Nodes.{DataAnswer, Effect, Node, Place, is_listed, place_of}
use Rattle.protocol.specs.Trees.{IsTree}
use Rattle.protocol.specs.Reactions.{Does, Reacts, Refused, hears, is_passed_over, reacts}
use Rattle.protocol.specs.World.{IsRun, Made, World, input_makes, node_makes, passes_over}
use Rattle.protocol.specs.World.{Makes, Refuses}
use Rattle.process_state.specs.States.{CoreState, SameCore}
use Rattle.process_state.specs.Turns.{turn_of, heard_now, this_version}
use Rattle.process_state.proofs.Alike.{same_view}
use Rattle.tree_state.specs.Fits.{NodeFits}
use Rattle.proof_runs.proofs.ManagerSteps.{place_stays}
use Rattle.proof_runs.proofs.Steps.{refusals_so, steps_so}
use Rattle.proof_runs.proofs.worlds.Fitting.{runs_fit}
use Rattle.tree_state.specs.Worlds.{RefusesAt, WorldState}
use Rattle.proof_runs.specs.worlds.Follows.{Follows}
use Rattle.proof_runs.specs.worlds.Refusals.{RefusesSo, refusal_in}
use Rattle.proof_runs.proofs.worlds.Steps.{InputsAsTheModel}
use Rattle.tree_state.specs.Steps.{input_move}

fits_at : (tree : List TreeProcess) (es : List Made) (w : World) (q : ProcessId) (place : Place)
    → IsRun tree es w → place ≡ place_of tree q
    → (w.at q).failed ≡ false → NodeFits place.role place (w.at q)
fits_at tree es w q place run is works = subst (λ p. NodeFits p.role p (w.at q)) (sym is)
    (runs_fit tree es w run q works)

pub as_the_model : (tree : List TreeProcess) → IsTree tree → InputsAsTheModel tree
as_the_model tree is_tree es w q old new a i reaction run listed stands place kept made =
    let step = steps_so (w.at q) old new a i kept (fits_at tree es w q old.place run place) reaction made in
    record {
      effect = step.effect;
      node = step.left;
      makes = subst (λ p. node_makes p (w.at q) (input_move p.me i None a)
          ≡ Makes step.effect step.left) place step.makes;
      shown = step.shown;
      place = place_stays old new i (turn_of old a made.found i) made.moves ∙ place;
      stands = step.stands;
    }

-- Refusals.

-- a process refuses an input whatever its manager's data answer
refuses_any : (place : Place) (n : Node) (q : ProcessId) (i : Input) (a d : DataAnswer) (e : StepError)
    → node_makes place n (input_move q i None a) ≡ Refuses e
    → node_makes place n (input_move q i None d) ≡ Refuses e
unfolding node_makes reacts
refuses_any place n q (ActInput x) a d e h = by_test (is_passed_over place n (ActInput x))
    (reacts place n (heard_now a (ActInput x))) h
  where
    by_test : (b : Bool) (r : Reacts)
        → (if b then passes_over n None else input_makes n
        (heard_now a (ActInput x)) None r) ≡ Refuses e
        → (if b then passes_over n None else input_makes n
        (heard_now d (ActInput x)) None r) ≡ Refuses e
    by_test true r h = h
    by_test false (Refused f) h = h
    by_test false (Does f) h = absurd (cc)
refuses_any place n q (MessageInput k m) a d e h = by_test (is_passed_over place n (MessageInput k m))
    n.failed (hears place.role this_version place n a m) (hears place.role this_version place n d m) h
  where
    by_test : (b f : Bool) (x y : Effect)
        → (if b then passes_over n None
        else input_makes n (heard_now a (MessageInput k m)) None
        (if f then Refused Failed else Does x)) ≡ Refuses e
        → (if b then passes_over n None
        else input_makes n (heard_now d (MessageInput k m)) None
        (if f then Refused Failed else Does y)) ≡ Refuses e
    by_test true f x y h = h
    by_test false true x y h = h
    by_test false false x y h = absurd (cc)

same_core : (s : CoreState) → SameCore s s
same_core s = record {
  log = refl;
  rest = record {
    place = refl;
    boot = refl;
    begun = refl;
    given = refl;
    tickets = λ d. refl;
    views = λ c. same_view (s.view_of c);
    branches = λ c. refl;
    decided = λ c. refl;
    spent = refl;
  };
}

refused_by : (es : List Made) (w : World) (s : WorldState) (q : ProcessId) (o : Option CoreState) (i : Input)
    (e : StepError) → Follows es w s
    → s.node_at q ≡ o → RefusesAt o i e → RefusesSo s.tree w q i e
refused_by es w s q None i e f there why d =
    let unlisted : is_listed s.tree q ≡ false = sym (f.listed q)
    ∙ ap is_some there in rw unlisted (ap Some (sym why))
refused_by es w s q (Some c) i e f there why d =
    let here = f.nodes q c there in
    let listed : is_listed s.tree q ≡ true = sym (f.listed q) ∙ ap is_some there in
    let is = refusals_so (w.at q) c c why.0 i here.stands
    (fits_at s.tree es w q c.place f.is_run here.place) e
    (record { same = same_core c; found = why.1; finds = why.2; refuses = why.3 }) in
    let made : node_makes (place_of s.tree q) (w.at q) (input_move q i None why.0) ≡ Refuses e =
    subst (λ p. node_makes p (w.at q) (input_move p.me i None why.0) ≡ Refuses e) here.place is.0 in
    rw listed (ap refusal_in (refuses_any (place_of s.tree q) (w.at q) q i why.0 d e made))

-- what a process of a tree that runs refuses, the model refuses so
pub refused_so : (es : List Made) (w : World) (s : WorldState) (q : ProcessId) (i : Input) (e : StepError)
    → Follows es w s → RefusesAt (s.node_at q) i e
    → RefusesSo s.tree w q i e
refused_so es w s q i e f why = refused_by es w s q (s.node_at q) i e f refl why
