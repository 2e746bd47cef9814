-- What a tree comes to by an input, a restart or a trim stands for a run that goes on.
use Rattle.std.proofs.Common.{◌≡◌, ◌∙◌, ap, sym, subst, refl, ℕ, Bool, false, Option, Some, None, is_some, List, [], ◌++◌}
use Rattle.protocol.specs.declared.names.ProcessId.{ProcessId}
use Rattle.protocol_words.specs.Variants.{Handles, Trimming}
use Rattle.protocol.specs.declared.events.Input.{Input}
use Rattle.protocol.specs.Nodes.{is_listed, place_of}
use Rattle.protocol.specs.Trees.{IsTree}
use Rattle.protocol.specs.World.{InputStands, Made, World, stays}
use Rattle.process_state.specs.States.{CoreState, SameCore}
use Rattle.process_state.specs.Turns.{no_answer}
use Rattle.tree_state.specs.Steps.{input_move, restart_of, trim_reaction}
use Rattle.proof_runs.proofs.Faults.{same_stands}
use Rattle.proof_runs.proofs.worlds.Kept.{all_opened, keeps_own, open_fits}
use Rattle.proof_runs.proofs.worlds.Processes.{as_the_model}
use Rattle.proof_runs.proofs.worlds.RunRestarts.{restarts_move, trims_move}
use Rattle.proof_runs.proofs.worlds.Steps.{made_at}
use Rattle.tree_state.specs.Worlds.{RestartsAt, SameTree, SameNode, TreeSteps, TrimsAt, WorldState}
use Rattle.proof_reopened.specs.Earlier.{Earlier, IsEarlier, IsSince}
use Rattle.proof_reopened.specs.Since.{FollowsSince, GoesOnSince}
use Rattle.proof_reopened.proofs.Faults.{moves_one}
use Rattle.proof_reopened.proofs.Moves.{entered_since, listed_since, run_of}
use Rattle.proof_reopened.proofs.Whole.{happens_in}

-- Nothing is otherwise.

pub both_are : (o p : Option CoreState) → SameNode o p → is_some p ≡ is_some o
both_are None None same = refl
both_are (Some s) (Some t) same = refl
both_are None (Some t) same = absurd same
both_are (Some s) None same = absurd same

pub before_it : (o p : Option CoreState) (t : CoreState) → SameNode o p → p ≡ Some t
    → (s : CoreState) × (o ≡ Some s) × SameCore s t
before_it (Some s) (Some r) t same is = (
  s,
  refl,
  subst (λ x. SameCore s x)
      (let is_it : r ≡ t = cc in is_it) same,
)
before_it None None t same is = absurd (cc)
before_it None (Some r) t same is = absurd same
before_it (Some s) None t same is = absurd same

module _ (o : Earlier) (es : List Made) (w : World) (s t : WorldState) (f : FollowsSince o es w s) where
  pub same_since : SameTree s t → FollowsSince o es w t
  same_since same = record {
    earlier = subst (λ z. IsEarlier z o) (sym same.tree) f.earlier;
    since = subst (λ z. IsSince z o es t.net w) (sym same.tree)
        (subst (λ net. IsSince s.tree o es net w) (sym same.net) f.since);
    shown = f.shown ∙ sym same.entries;
    nodes = λ q c there.
        let b = before_it (s.node_at q) (t.node_at q) c (same.nodes q) there in
        let here = f.nodes q b.0 b.1 in
        record {
          place = b.2.rest.place ∙ (here.place ∙ ap (λ z. place_of z q) (sym same.tree));
          stands = same_stands (w.at q) b.0 c b.2 here.stands;
        };
    listed = λ q. both_are (s.node_at q) (t.node_at q) (same.nodes q)
        ∙ (f.listed q ∙ ap (λ z. is_listed z q) (sym same.tree));
  }

pub waits_since : (o : Earlier) (es : List Made) (w : World) (s : WorldState) → FollowsSince o es w s
    → GoesOnSince o es w s
waits_since o es w s f = record { later = []; world = w; leads = stays; follows = f }

-- Steps.

module _ (o : Earlier) (es : List Made) (w : World) (s t : WorldState) (is_tree : IsTree s.tree)
    (f : FollowsSince o es w s) (q : ProcessId) where
  pub input_since : (i : Input) (marked : List Bool) → InputStands s.net q i → TreeSteps s t q i marked
      → GoesOnSince o es w t
  input_since i marked stands h =
      let here = f.nodes q h.before h.moves.stood in
      let listed = listed_since o es w s q h.before f h.moves.stood in
      let made = as_the_model s.tree is_tree (es ++ o.moves) w q h.before h.behind
      h.handles.answer i h.reaction
      (run_of o es w s f) listed (happens_in s.tree o es s.net w f.since q (Handles i) stands)
      here.place here.stands h.handles.makes in
      entered_since o es w s t f q (Handles i) h.handles.answer h.before h.behind stands
      (moves_one s t q h.before h.behind h.moves) h.reaction marked h.enters made.effect made.node
      (made_at s.tree w (input_move q i None h.handles.answer) made.effect made.node listed made.makes)
      made.shown made.place made.stands

  pub restart_since : (bytes : Option ℕ) → RestartsAt s t q bytes → GoesOnSince o es w t
  restart_since bytes h =
      let here = f.nodes q h.before h.moves.stood in
      let listed = listed_since o es w s q h.before f h.moves.stood in
      let made = restarts_move s.tree w q h.before h.behind here.place here.stands listed
      (keeps_own s.tree (es ++ o.moves) w is_tree (run_of o es w s f) q listed) h.keep h.reaction h.restarts
      in
      entered_since o es w s t f q (restart_of h.before h.keep) no_answer h.before h.behind tt
      (moves_one s t q h.before h.behind h.moves) h.reaction s.delivered h.enters made.effect
      made.left made.makes
      made.shown (h.restarts.place ∙ here.place) made.stands

  pub trim_since : TrimsAt s t q → GoesOnSince o es w t
  trim_since h =
      let here = f.nodes q h.before h.moves.stood in
      let listed = listed_since o es w s q h.before f h.moves.stood in
      let up : (w.at q).failed ≡ false = sym here.stands.failed ∙ h.works in
      let made = trims_move s.tree w q h.before h.behind here.place here.stands listed
      (keeps_own s.tree (es ++ o.moves) w is_tree (run_of o es w s f) q listed) up
      (all_opened s.tree (es ++ o.moves) w (run_of o es w s f) q) h.sound
      (open_fits s.tree (es ++ o.moves) w (run_of o es w s f) q up) h.remain h.trims in
      entered_since o es w s t f q Trimming no_answer h.before h.behind tt
      (moves_one s t q h.before h.behind h.moves) (trim_reaction h.remain) s.delivered h.enters
      made.effect made.left
      made.makes made.shown (h.trims.rest.place ∙ here.place) made.stands
