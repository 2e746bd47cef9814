-- What an event made in one of two trees that show the same, and its like in the other.
use Rattle.std.proofs.Common.{◌≡◌, ◌≢◌, ◌⊎◌, ◌∙◌, ◌+◌, ap, refl, sym, subst, inl, inr, ℕ, Bool, true, false, if◌then◌else◌, Option, Some, None, List, [], ◌∷◌, ◌++◌, length, map, arith}
use Rattle.protocol.specs.declared.names.ProcessId.{ProcessId}
use Rattle.protocol.specs.declared.messages.Envelope.{Envelope}
use Rattle.protocol.specs.declared.events.Act.{Act}
use Rattle.protocol.specs.declared.events.Event.{Event}
use Rattle.protocol.specs.declared.events.Event.TheVariants.{Deliver, Settle, Restart, Trim}
use Rattle.protocol_words.specs.Variants.{ActInput, ActOf, Handles, MessageInput, Restarting, Trimming}
use Rattle.protocol.specs.declared.events.Happening.{Happening}
use Rattle.protocol.specs.declared.events.Input.{Input}
use Rattle.protocol.specs.declared.events.Reaction.{Reaction}
use Rattle.protocol.specs.declared.events.StepError.{StepError}
use Rattle.protocol_words.specs.step_error
use Rattle.protocol.specs.declared.records.LogRecord.{LogRecord}
use Rattle.protocol.specs.declared.trees.TreeProcess.{TreeProcess}
use Rattle.protocol.specs.NameLaws.{same_process_tells}
use Rattle.protocol.specs.Nodes.{AtLeaf, AtRoot, Below, Effect, Role, is_listed, place_of}
use Rattle.protocol.specs.Plays.{process_of_act, sent_as}
use Rattle.protocol.specs.Trees.{IsTree, root_of}
use Rattle.protocol.specs.World.{InputStands, Made, Makes, Move, Refuses, Stepped, World, journal_of, node_makes, world_makes, world_stepped}
use Rattle.log_records.specs.Sights.{LogSight, left_by, whole_within}
use Rattle.process_state.specs.States.{CoreState}
use Rattle.resource_manager.specs.Data.{ManagerData}
use Rattle.tree_state.specs.Steps.{input_move, quiet_move, records_kept, restart_of}
use Rattle.proof_runs.specs.worlds.Refusals.{model_refusal, refusal_in}
use Rattle.proof_runs.specs.worlds.Follows.{Follows}
use Rattle.tree_state.specs.Worlds.{Applies, Delivers, Enters, HoldsPromises, MovesNode, NotDelivered, RefusesAt, RefusesMessage, RestartsAt, RestartsData, TreeSteps, Stops, WorldState}
use Rattle.proof_runs.proofs.worlds.AlikeData.{promises_alike}
use Rattle.proof_runs.proofs.worlds.AlikeSteps.{behind_by, logs_alike, step_behind}
use Rattle.proof_runs.proofs.worlds.AlikeTrees.{AlikeAt, AlikeTrees, delivery_alike, event_alike, move_alike, one_place, place_is, place_there}
use Rattle.proof_runs.proofs.worlds.Journals.{whole_follows, whole_shows}
use Rattle.proof_runs.proofs.worlds.Processes.{as_the_model, refused_so}
use Rattle.proof_runs.proofs.worlds.Restarts.{restart_follows, restart_refused, trim_follows}
use Rattle.proof_runs.proofs.worlds.Steps.{EntersBy, sent_stands, step_follows}
use Rattle.proof_runs.proofs.worlds.Whole.{ForItself, not_acted, not_delivered, not_restarted, not_trimmed}
use Rattle.proof_cuts.specs.Alone.{AsksFor}
use Rattle.proof_one_thread.specs.Again.{AsksAgain, IsExcused, bytes_of_first, unforced_in}
use Rattle.proof_one_thread.proofs.Bytes.{whole_again}

some_core : (a b : CoreState) → Some a ≡ Some b → a ≡ b
some_core a b h = cc

-- The model makes a move or refuses it.

made_or_refused : (b : Bool) (w : World) (q : ProcessId) (x : Stepped) (p : Effect × World) (e : StepError)
    → (if b then world_stepped w q x else None) ≡ Some p
    → (if b then refusal_in x else Some step_error.NoSuch) ≡ Some e → ⊥
made_or_refused true w q (Refuses f) p e h k = absurd (cc)
made_or_refused true w q (Makes f n) p e h k = absurd (cc)
made_or_refused false w q x p e h k = absurd (cc)

not_both : (tree : List TreeProcess) (w : World) (m : Move) (p : Effect × World) (e : StepError)
    → world_makes tree w m ≡ Some p → model_refusal tree w m ≡ Some e → ⊥
unfolding world_makes
not_both tree w m p e h k = made_or_refused (is_listed tree m.step.process) w m.step.process
    (node_makes (place_of tree m.step.process) (w.at m.step.process) m) p e h k

-- why an event is refused: it is excused, or for itself
pub excused_or : (e : StepError) → IsExcused e ⊎ ForItself e
excused_or step_error.Memory = inl (inl refl)
excused_or step_error.Device = inl (inr (inl refl))
excused_or step_error.Exhausted = inl (inr (inr refl))
excused_or step_error.UnknownTxn =
    inr (record { memory = λ d. absurd (cc); device = λ d. absurd (cc); numbers = λ d. absurd (cc) })
excused_or step_error.NotAChild =
    inr (record { memory = λ d. absurd (cc); device = λ d. absurd (cc); numbers = λ d. absurd (cc) })
excused_or step_error.Closed =
    inr (record { memory = λ d. absurd (cc); device = λ d. absurd (cc); numbers = λ d. absurd (cc) })
excused_or step_error.Failed =
    inr (record { memory = λ d. absurd (cc); device = λ d. absurd (cc); numbers = λ d. absurd (cc) })
excused_or step_error.NotInDoubt =
    inr (record { memory = λ d. absurd (cc); device = λ d. absurd (cc); numbers = λ d. absurd (cc) })
excused_or step_error.NothingToForget =
    inr (record { memory = λ d. absurd (cc); device = λ d. absurd (cc); numbers = λ d. absurd (cc) })
excused_or step_error.NoSuch =
    inr (record { memory = λ d. absurd (cc); device = λ d. absurd (cc); numbers = λ d. absurd (cc) })

-- What one tree made the other does not refuse for itself.

module _ (s t : WorldState) (alike : AlikeTrees s t) where
  abbrev w : World
  w = alike.world

  follows_there : Follows alike.moves alike.world t
  follows_there = whole_follows alike.moves alike.world t alike.there

  one_net : t.net ≡ s.net
  one_net = alike.there.follows.net ∙ sym alike.here.follows.net

  in_tree : (m : Move) (o : Option StepError) → model_refusal t.tree w m ≡ o → model_refusal s.tree w m ≡ o
  in_tree m o = subst (λ (z : List TreeProcess). model_refusal z alike.world m ≡ o) alike.tree

  input_made : (s' : WorldState) (q : ProcessId) (i : Input) (marked : List Bool) (e : StepError)
      → InputStands w.net q i → TreeSteps s s' q i marked → RefusesAt (t.node_at q) i e → ⊥
  input_made s' q i marked e stands h why =
      let step = step_follows journal_of whole_shows as_the_model alike.moves alike.world s s' q i marked
      alike.is_tree alike.here stands h in
      not_both s.tree alike.world (input_move q i None h.handles.answer)
      (step.moved.effect, step.moved.world) e
      step.moved.makes
      (in_tree (input_move q i None h.handles.answer) (Some e)
      (refused_so alike.moves alike.world t q i e follows_there why h.handles.answer))

  -- the act, the message, the restart or the trim of one is not refused in the other
  pub act_made : (s' t' : WorldState) (a : Act) (e : StepError) → ForItself e → Applies s (ActOf a) s'
      → Stops t (ActOf a) e t' → ⊥
  act_made s' t' a e itself h k =
      let why = not_acted t t' (process_of_act (root_of t.tree) a) a e itself k in
      input_made s' (process_of_act (root_of s.tree) a) (ActInput a) s.delivered e tt h
      (subst (λ (z : List TreeProcess). RefusesAt (t.node_at (process_of_act (root_of z) a)) (ActInput a) e)
      alike.tree
      why.1)

  pub delivery_made : (s' t' : WorldState) (k : ℕ) (e : StepError) → ForItself e → Delivers s s' k
      → NotDelivered t t' k e → ⊥
  delivery_made s' t' k e itself h refused =
      let why = not_delivered t t' k e itself refused in
      input_made s' h.envelope.to (MessageInput k h.envelope.message) _ e
      (sent_stands alike.world.net k h.envelope
      (ap (λ (ls : List Envelope). sent_as ls k) (sym alike.here.follows.net) ∙ h.sent)) h.steps
      (subst (λ (o : Option Envelope). RefusesMessage t k o e)
      (ap (λ (ls : List Envelope). sent_as ls k) one_net ∙ h.sent) why.1)

  pub restart_made : (s' t' : WorldState) (q : ProcessId) (bytes other : Option ℕ) (e : StepError)
      → ForItself e
      → RestartsAt s s' q bytes → Stops t (Restart q other) e t' → ⊥
  restart_made s' t' q bytes other e itself h k =
      let why = not_restarted t t' q other e itself k in
      let step = restart_follows journal_of whole_shows alike.moves alike.world s s'
      alike.here q alike.is_tree
      bytes h in
      let kept = records_kept h.before h.keep in
      not_both s.tree alike.world (quiet_move q (Restarting kept) None) (step.moved.effect, step.moved.world)
      step_error.NoSuch step.moved.makes
      (in_tree (quiet_move q (Restarting kept) None) (Some step_error.NoSuch)
      (restart_refused alike.moves alike.world t follows_there q why.1 kept))

  pub trim_made : (s' t' : WorldState) (q : ProcessId) (e : StepError) → ForItself e → Applies s (Trim q) s'
      → Stops t (Trim q) e t' → ⊥
  trim_made s' t' q e itself h k =
      let why = not_trimmed alike.moves alike.world t t' q e follows_there itself k in
      let step = trim_follows journal_of whole_shows alike.moves alike.world s s' alike.here q alike.is_tree h
      in
      not_both s.tree alike.world (quiet_move q Trimming None) (step.moved.effect, step.moved.world) e
      step.moved.makes (in_tree (quiet_move q Trimming None) (Some e) why.1)

-- Restarts that keep as many records.

-- no bytes are after the records that are forced
abbrev pub IsLevel : WorldState → Type 0
IsLevel s = (q : ProcessId) (c : CoreState) → s.node_at q ≡ Some c → c.log.behind ≡ 0

restarted_at : (r : Role) (ls ks : List LogRecord) (d e : ManagerData) → ks ≡ ls → RestartsData r ls d
    → RestartsData r ks e → AlikeAt r d e
restarted_at (AtLeaf p) ls ks d e is h k =
    promises_alike ls d e h (subst (λ (xs : List LogRecord). HoldsPromises xs e) is k)
restarted_at AtRoot ls ks d e is h k = tt
restarted_at (Below p) ls ks d e is h k = tt

module _ (s s' t t' : WorldState) (q : ProcessId) (bytes : Option ℕ) (level : IsLevel s)
    (alike : AlikeTrees s t)
    (h : RestartsAt s s' q bytes)
    (k : RestartsAt t t' q (Some (bytes_of_first (records_kept h.before h.keep)
    (unforced_in (t.node_at q))))) where
  abbrev n : ℕ
  n = records_kept h.before h.keep

  both : (k.before.log.kept.forced ≡ h.before.log.kept.forced)
      × (k.before.log.kept.unforced ≡ h.before.log.kept.unforced)
  both = logs_alike (alike.world.at q) h.before k.before
      (one_place s t alike q h.before k.before h.moves.stood k.moves.stood)
      (alike.here.follows.nodes q h.before h.moves.stood).stands
      (alike.there.follows.nodes q k.before k.moves.stood).stands

  zero_here : h.before.log.behind ≡ 0
  zero_here = level q h.before h.moves.stood

  zero_there : k.before.log.behind ≡ 0
  zero_there = alike.behind q h.before k.before h.moves.stood k.moves.stood ∙ zero_here

  keep_is : k.before.log.behind + k.keep ≡ bytes_of_first n h.before.log.kept.unforced
  keep_is =
      let here = zero_there in
      let zeroed : k.before.log.behind + k.keep ≡ k.keep = omega (arith, here) in
      zeroed ∙ k.keeps ∙ ap (λ (o : Option CoreState). bytes_of_first n (unforced_in o)) k.moves.stood
      ∙ ap (bytes_of_first n) both.1

  whole_same : whole_within (k.before.log.behind + k.keep) k.before.log.kept.unforced
      ≡ whole_within (h.before.log.behind + h.keep) h.before.log.kept.unforced
  whole_same = ap (λ m. whole_within m k.before.log.kept.unforced) keep_is
      ∙ ap (whole_within (bytes_of_first n h.before.log.kept.unforced)) both.1
      ∙ whole_again (h.before.log.behind + h.keep) h.before.log.kept.unforced

  kept : (records_kept k.before k.keep ≡ n) × (left_by k.before.log k.keep ≡ left_by h.before.log h.keep)
  kept = (
    ap (λ (ls : List LogRecord). length ls) whole_same,
    ap (λ (ls : List LogRecord). ls ++ whole_within (k.before.log.behind + k.keep) k.before.log.kept.unforced)
        both.0
        ∙ ap (λ (ls : List LogRecord). h.before.log.kept.forced ++ ls) whole_same,
  )

  pub restart_again : AlikeTrees s' t'
  restart_again =
      let one : restart_of k.before k.keep ≡ restart_of h.before h.keep = ap Restarting kept.0 in
      let here = restart_follows journal_of whole_shows alike.moves alike.world s s'
      alike.here q alike.is_tree
      bytes h in
      let there = subst (λ (x : Happening). EntersBy journal_of alike.moves alike.world t t'
      (quiet_move q x None)
      k.reaction) one
      (restart_follows journal_of whole_shows alike.moves alike.world t t' alike.there q
      (subst IsTree (sym alike.tree) alike.is_tree) _ k) in
      move_alike s s' t t' alike q (quiet_move q (restart_of h.before h.keep) None) h.reaction
      k.reaction here there
      (restart_of h.before h.keep) h.before h.behind k.before k.behind s.delivered t.delivered h.moves k.moves
      h.enters (subst (λ (x : Happening). Enters t t' q x k.reaction t.delivered) one k.enters)
      alike.delivered
      (restarted_at (place_of s.tree q).role (left_by h.before.log h.keep) (left_by k.before.log k.keep)
      (s'.data_at q) (t'.data_at q) kept.1
      (subst (λ p. RestartsData p.role (left_by h.before.log h.keep) (s'.data_at q))
      (place_is s t alike q h.before k.before h.moves.stood k.moves.stood) h.holdings)
      (subst (λ p. RestartsData p.role (left_by k.before.log k.keep) (t'.data_at q))
      (place_there s t alike q h.before k.before h.moves.stood k.moves.stood) k.holdings))
      (ap (λ (l : LogSight). l.behind) k.restarts.log ∙ sym (ap (λ (l : LogSight). l.behind) h.restarts.log))

-- It stays level.

one_level : (s s' : WorldState) (q : ProcessId) (c d : CoreState) → IsLevel s → MovesNode s s' q c d
    → d.log.behind ≡ 0 → IsLevel s'
one_level s s' q c d level moves zeroed p e at = elim (same_process_tells q p) [
  | inl x ↦
      let one = some_core d e (sym moves.stands ∙ ap s'.node_at x.1 ∙ at) in
      ap (λ (y : CoreState). y.log.behind) (sym one) ∙ zeroed
  | inr x ↦ level p e (sym (moves.others p x.0) ∙ at)
]

still_zero : (n : ℕ) (r : Reaction) → n ≡ 0 → behind_by n r ≡ 0
still_zero n r zeroed = by_test _ n zeroed
  where
    by_test : (b : Bool) (n : ℕ) → n ≡ 0 → (if b then 0 else n) ≡ 0
    by_test true n is = refl
    by_test false n is = is

input_level : (s s' : WorldState) (q : ProcessId) (i : Input) (marked : List Bool) → IsLevel s
    → TreeSteps s s' q i marked → IsLevel s'
input_level s s' q i marked level h =
    one_level s s' q h.before h.behind level h.moves
    (step_behind h.before h.behind h.handles.answer i h.reaction h.handles.makes
    ∙ still_zero h.before.log.behind h.reaction (level q h.before h.moves.stood))

pub event_level : (s s' : WorldState) (e : Event) (h : Happening) → AsksFor e h → IsLevel s → Applies s e s'
    → IsLevel s'
event_level s s' (ActOf a) h asks level made =
    input_level s s' (process_of_act (root_of s.tree) a) (ActInput a) s.delivered level made
event_level s s' (Deliver k) h asks level made =
    input_level s s' made.envelope.to (MessageInput k made.envelope.message) _ level made.steps
event_level s s' Settle h asks level made = absurd asks
event_level s s' (Restart q bytes) h asks level made =
    one_level s s' q made.before made.behind level made.moves
    (ap (λ (l : LogSight). l.behind) made.restarts.log)
event_level s s' (Trim q) h asks level made =
    one_level s s' q made.before made.behind level made.moves (ap (λ (l : LogSight). l.behind) made.trims.log)
