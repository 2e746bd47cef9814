-- What a tree that runs comes to by a restart or a trim stands for a run that goes on, and what it refuses
-- the model refuses.
use Rattle.std.proofs.Common.{◌≡◌, ◌∙◌, ap, sym, refl, ℕ, true, false, None, Option, Some, is_some, List}
use Rattle.protocol.specs.declared.names.ProcessId.{ProcessId}
use Rattle.protocol.specs.declared.events.JournalEntry.{JournalEntry}
use Rattle.protocol_words.specs.Variants.{Restarting, Trimming}
use Rattle.protocol.specs.declared.events.StepError.TheVariants.{Failed, NoSuch}
use Rattle.protocol.specs.Nodes.{is_listed, place_of}
use Rattle.protocol.specs.Trees.{IsTree}
use Rattle.protocol.specs.World.{Made, Move, World}
use Rattle.process_state.specs.States.{CoreState}
use Rattle.tree_state.specs.Steps.{quiet_move, restart_of, trim_reaction}
use Rattle.process_state.specs.Turns.{no_answer}
use Rattle.proof_runs.proofs.Trimming.{trim_done}
use Rattle.proof_runs.proofs.worlds.Kept.{all_opened, keeps_own, open_fits}
use Rattle.proof_runs.proofs.worlds.RunRestarts.{restarts_move, trims_move}
use Rattle.tree_state.specs.Worlds.{HasFailed, RestartsAt, TrimsAt, WorldState}
use Rattle.proof_runs.specs.worlds.Follows.{Follows, FollowsBy, GoesOnBy}
use Rattle.proof_runs.specs.worlds.Refusals.{model_refusal, refusal_in}
use Rattle.proof_runs.proofs.worlds.Steps.{EntersBy, ShowsMoves, entered_follows, in_full, listed_at, moved_goes_on}

module _ (journal : List Made → List JournalEntry) (shows : ShowsMoves journal) (es : List Made)
    (w : World) (s s' : WorldState)
    (f : FollowsBy journal es w s) (q : ProcessId) (is_tree : IsTree s.tree) where
  pub restart_follows : (bytes : Option ℕ) (h : RestartsAt s s' q bytes)
      → EntersBy journal es w s s' (quiet_move q (restart_of h.before h.keep) None) h.reaction
  restart_follows bytes h =
      let here = f.follows.nodes q h.before h.moves.stood in
      let listed = listed_at es w (in_full s es) q h.before f.follows h.moves.stood in
      let made = restarts_move s.tree w q h.before h.behind here.place here.stands listed
      (keeps_own s.tree es w is_tree f.follows.is_run q listed) h.keep h.reaction h.restarts in
      entered_follows journal es w s s' f q (restart_of h.before h.keep) no_answer
      h.before h.behind tt h.moves
      shows h.reaction s.delivered h.enters made.effect made.left made.makes made.shown
      (h.restarts.place ∙ here.place) made.stands

  pub restart_goes_on : (bytes : Option ℕ) → RestartsAt s s' q bytes → GoesOnBy journal es w s'
  restart_goes_on bytes h = moved_goes_on journal es w s s' (quiet_move q (restart_of h.before h.keep) None)
      (restart_follows bytes h).moved

  pub trim_follows : (h : TrimsAt s s' q)
      → EntersBy journal es w s s' (quiet_move q Trimming None) (trim_reaction h.remain)
  trim_follows h =
      let here = f.follows.nodes q h.before h.moves.stood in
      let listed = listed_at es w (in_full s es) q h.before f.follows h.moves.stood in
      let up : (w.at q).failed ≡ false = sym here.stands.failed ∙ h.works in
      let made = trims_move s.tree w q h.before h.behind here.place here.stands listed
      (keeps_own s.tree es w is_tree f.follows.is_run q listed) up
      (all_opened s.tree es w f.follows.is_run q) h.sound
      (open_fits s.tree es w f.follows.is_run q up) h.remain h.trims in
      entered_follows journal es w s s' f q Trimming no_answer h.before h.behind tt h.moves
      shows (trim_reaction h.remain) s.delivered h.enters made.effect made.left made.makes made.shown
      (h.trims.rest.place ∙ here.place) made.stands

  pub trim_goes_on : TrimsAt s s' q → GoesOnBy journal es w s'
  trim_goes_on h = moved_goes_on journal es w s s' (quiet_move q Trimming None) (trim_follows h).moved

-- Refusals.

module _ (es : List Made) (w : World) (s : WorldState) (f : Follows es w s) where
  -- no move is made at a process that is not there
  nobody : (m : Move) → s.node_at m.step.process ≡ None → model_refusal s.tree w m ≡ Some NoSuch
  nobody m none =
      let unlisted : is_listed s.tree m.step.process ≡ false =
      sym (f.listed m.step.process) ∙ ap is_some none in
      rw unlisted refl

  pub restart_refused : (q : ProcessId) → s.node_at q ≡ None → (k : ℕ)
      → model_refusal s.tree w (quiet_move q (Restarting k) None) ≡ Some NoSuch
  restart_refused q none k = nobody (quiet_move q (Restarting k) None) none

  pub trim_unknown : (q : ProcessId) → s.node_at q ≡ None
      → model_refusal s.tree w (quiet_move q Trimming None) ≡ Some NoSuch
  trim_unknown q none = nobody (quiet_move q Trimming None) none

  failed_at : (q : ProcessId) (c : CoreState) → s.node_at q ≡ Some c → c.log.failed ≡ true
      → model_refusal s.tree w (quiet_move q Trimming None) ≡ Some Failed
  failed_at q c stood failed =
      let here = f.nodes q c stood in
      let listed = listed_at es w s q c f stood in
      rw listed
      (ap refusal_in (trim_done (place_of s.tree q) (w.at q) None true (sym here.stands.failed ∙ failed)))

  pub trim_failed : (q : ProcessId) → HasFailed (s.node_at q)
      → model_refusal s.tree w (quiet_move q Trimming None) ≡ Some Failed
  trim_failed q failed = by_node (s.node_at q) refl failed
    where
      by_node : (o : Option CoreState) → s.node_at q ≡ o → HasFailed o
          → model_refusal s.tree w (quiet_move q Trimming None) ≡ Some Failed
      by_node None is h = absurd h
      by_node (Some c) is h = failed_at q c is h
