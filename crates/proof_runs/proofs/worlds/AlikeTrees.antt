-- Two trees that show the same go on alike by the same events.
use Rattle.std.proofs.Common.{◌≡◌, ◌∙◌, ◌+◌, ℕ, zero, suc, Bool, false, List, [], ◌∷◌, ◌++◌, Option, Some, None, inl, inr, refl, sym, ap, subst, arith, length, length-append}
use Rattle.std.specs.Prelude.{⊤}
use Rattle.protocol.specs.declared.names.ProcessId.{ProcessId}
use Rattle.protocol.specs.declared.messages.Envelope.{Envelope}
use Rattle.protocol.specs.declared.events.Event.{Event}
use Rattle.protocol.specs.declared.events.Event.TheVariants.{Deliver, Settle, Restart, Trim}
use Rattle.protocol_words.specs.Variants.{ActInput, ActOf, Handles, MessageInput, Restarting, Trimming}
use Rattle.protocol.specs.declared.events.Happening.{Happening}
use Rattle.protocol.specs.declared.events.Input.{Input}
use Rattle.protocol.specs.declared.events.Reaction.{Reaction}
use Rattle.protocol.specs.declared.records.LogRecord.{LogRecord}
use Rattle.protocol.specs.declared.trees.TreeProcess.{TreeProcess}
use Rattle.protocol.specs.NameLaws.{same_process_tells}
use Rattle.protocol.specs.Nodes.{AtLeaf, AtRoot, Below, DataAnswer, Effect, Role, place_of, reaction_of}
use Rattle.protocol.specs.Plays.{process_of_act, sent_as}
use Rattle.protocol.specs.Trees.{IsTree, root_of}
use Rattle.protocol.specs.World.{InputStands, Made, Move, World, journal_of, opened_world, world_makes}
use Rattle.log_records.specs.Sights.{LogSight, left_by, records_of, whole_within}
use Rattle.process_state.specs.States.{CoreState}
use Rattle.resource_manager.specs.Data.{ManagerData, DataRests, no_data}
use Rattle.resource_manager.specs.Turns.{MovesData, Rests, case_xid, data_turn}
use Rattle.tree_state.specs.Steps.{input_move, quiet_move, records_kept, restart_of, trim_reaction}
use Rattle.tree_state.specs.Worlds.{Applies, Delivers, Enters, HandlesData, HoldsPromises, KeepsBytes, MovesNode, RestartsAt, RestartsData, Settles, TreeSteps, TrimsAt, TrimsData, WorldState, least_open, marks, settles_by, undelivered}
use Rattle.tree_state.specs.Runs.{IsOpenedTree, EventsLead}
use Rattle.proof_runs.specs.worlds.Follows.{FollowsBy}
use Rattle.proof_runs.proofs.worlds.AlikeData.{answers_alike, moves_alike, promises_alike}
use Rattle.proof_runs.proofs.worlds.AlikeSteps.{Alike, behind_by, logs_alike, made_up, stand_alike, step_behind, turns_alike}
use Rattle.proof_runs.proofs.worlds.Journals.{by_whole, whole_shows}
use Rattle.proof_runs.proofs.worlds.Openings.{opened_follows}
use Rattle.proof_runs.proofs.worlds.Processes.{as_the_model}
use Rattle.proof_runs.proofs.worlds.Restarts.{restart_follows, trim_follows}
use Rattle.proof_runs.proofs.worlds.Steps.{EntersBy, sent_stands, step_follows}

-- data of a process of this role that are alike; a coordinator has none
abbrev pub AlikeAt : Role → ManagerData → ManagerData → Type 0
AlikeAt (AtLeaf p) d e = DataRests d e
AlikeAt _ d e = ⊤

-- two states of a tree stand for the same run, the same messages were delivered, the data of each manager are
-- alike, and as many bytes of each log are forced
pub record AlikeTrees (s t : WorldState) : Type 0 where
  pub is_tree : IsTree s.tree
  pub tree : t.tree ≡ s.tree
  pub moves : List Made
  pub world : World
  pub here : FollowsBy journal_of moves world s
  pub there : FollowsBy journal_of moves world t
  pub delivered : t.delivered ≡ s.delivered
  pub holdings : (q : ProcessId) → AlikeAt (place_of s.tree q).role (s.data_at q) (t.data_at q)
  pub behind : (q : ProcessId) (c d : CoreState) → s.node_at q ≡ Some c → t.node_at q ≡ Some d
      → d.log.behind ≡ c.log.behind

some_pair : (a b : Effect × World) → Some a ≡ Some b → a ≡ b
some_pair a b h = cc

some_core : (a b : CoreState) → Some a ≡ Some b → a ≡ b
some_core a b h = cc

some_envelope : (a b : Envelope) → Some a ≡ Some b → a ≡ b
some_envelope a b h = cc

itself : (d : ManagerData) → DataRests d d
itself d = record { keeps = record { writes = λ y. refl; holders = λ k. refl }; known = λ y. refl }

-- One move.

module _ (s s' t t' : WorldState) (alike : AlikeTrees s t) (q : ProcessId) (m : Move) (r k : Reaction)
    (here : EntersBy journal_of alike.moves alike.world s s' m r)
    (there : EntersBy journal_of alike.moves alike.world t t' m k) where
  one_move : ◌≡◌ {A = Effect × World} (here.moved.effect, here.moved.world)
      (there.moved.effect, there.moved.world)
  one_move = some_pair (here.moved.effect, here.moved.world) (there.moved.effect, there.moved.world)
      (sym here.moved.makes ∙ ap (λ (z : List TreeProcess). world_makes z alike.world m) (sym alike.tree)
      ∙ there.moved.makes)

  -- it shows the same
  pub one_reaction : k ≡ r
  one_reaction = there.shown ∙ ap (λ (p : Effect × World). reaction_of p.0) (sym one_move) ∙ sym here.shown

  module _ (h : Happening) (c c' d d' : CoreState) (marked marks_there : List Bool)
      (moves : MovesNode s s' q c c') (moves_there : MovesNode t t' q d d')
      (enters : Enters s s' q h r marked) (enters_there : Enters t t' q h k marks_there)
      (marks_are : marks_there ≡ marked)
      (held : AlikeAt (place_of s.tree q).role (s'.data_at q) (t'.data_at q))
      (forced : d'.log.behind ≡ c'.log.behind) where
    held_at : (p : ProcessId) → AlikeAt (place_of s.tree p).role (s'.data_at p) (t'.data_at p)
    held_at p = elim (same_process_tells q p) [
      | inl x ↦ subst (λ (z : ProcessId). AlikeAt (place_of s.tree z).role (s'.data_at z) (t'.data_at z)) x.1
          held
      | inr x ↦ subst (λ (e : ManagerData). AlikeAt (place_of s.tree p).role e (t'.data_at p))
          (sym (moves.others_data p x.0))
          (subst (λ (e : ManagerData). AlikeAt (place_of s.tree p).role (s.data_at p) e)
          (sym (moves_there.others_data p x.0)) (alike.holdings p))
    ]

    forced_at : (p : ProcessId) (e f : CoreState) → s'.node_at p ≡ Some e → t'.node_at p ≡ Some f
        → f.log.behind ≡ e.log.behind
    forced_at p e f at at_there = elim (same_process_tells q p) [
      | inl x ↦
          let one = some_core c' e (sym moves.stands ∙ ap s'.node_at x.1 ∙ at) in
          let two = some_core d' f (sym moves_there.stands ∙ ap t'.node_at x.1 ∙ at_there) in
          ap (λ (z : CoreState). z.log.behind) (sym two) ∙ forced ∙ ap (λ (z : CoreState). z.log.behind) one
      | inr x ↦ alike.behind p e f (sym (moves.others p x.0) ∙ at) (sym (moves_there.others p x.0) ∙ at_there)
    ]

    pub move_alike : AlikeTrees s' t'
    move_alike = record {
      is_tree = subst IsTree (sym moves.tree) alike.is_tree;
      tree = moves_there.tree ∙ alike.tree ∙ sym moves.tree;
      moves = record { move = m; effect = here.moved.effect } ∷ alike.moves;
      world = here.moved.world;
      here = here.moved.follows;
      there = subst (λ (p : Effect × World). FollowsBy journal_of
          (record { move = m; effect = p.0 } ∷ alike.moves) p.1 t') (sym one_move) there.moved.follows;
      delivered = enters_there.delivered
          ∙ ap (λ (y : Reaction). marks_there ++ undelivered y.messages) one_reaction
          ∙ ap (λ (bs : List Bool). bs ++ undelivered r.messages) marks_are ∙ sym enters.delivered;
      holdings = λ p. subst (λ (z : List TreeProcess). AlikeAt (place_of z p).role
          (s'.data_at p) (t'.data_at p))
          (sym moves.tree) (held_at p);
      behind = forced_at;
    }

-- Where processes of two such trees stand.

module _ (s t : WorldState) (alike : AlikeTrees s t) (q : ProcessId) (c d : CoreState)
    (at : s.node_at q ≡ Some c)
    (at_there : t.node_at q ≡ Some d) where
  pub place_is : c.place ≡ place_of s.tree q
  place_is = (alike.here.follows.nodes q c at).place

  pub place_there : d.place ≡ place_of s.tree q
  place_there = (alike.there.follows.nodes q d at_there).place
      ∙ ap (λ (z : List TreeProcess). place_of z q) alike.tree

  pub one_place : d.place ≡ c.place
  one_place = place_there ∙ sym place_is

  pub cores_alike : c.log.failed ≡ false → Alike c d
  cores_alike works = stand_alike (alike.world.at q) c d one_place
      (sym (alike.here.follows.nodes q c at).stands.failed ∙ works)
      (alike.here.follows.nodes q c at).stands (alike.there.follows.nodes q d at_there).stands

  forced_alike : d.log.kept.forced ≡ c.log.kept.forced
  forced_alike = (logs_alike (alike.world.at q) c d one_place (alike.here.follows.nodes q c at).stands
      (alike.there.follows.nodes q d at_there).stands).0

  unforced_alike : d.log.kept.unforced ≡ c.log.kept.unforced
  unforced_alike = (logs_alike (alike.world.at q) c d one_place (alike.here.follows.nodes q c at).stands
      (alike.there.follows.nodes q d at_there).stands).1

  pub records_alike : records_of d.log.kept ≡ records_of c.log.kept
  records_alike = ap (λ (ls : List LogRecord). ls ++ d.log.kept.unforced) forced_alike
      ∙ ap (λ (ls : List LogRecord). c.log.kept.forced ++ ls) unforced_alike

  -- the same bytes are kept
  whole_alike : (n : ℕ) → whole_within (d.log.behind + n) d.log.kept.unforced
      ≡ whole_within (c.log.behind + n) c.log.kept.unforced
  whole_alike n = ap (λ (b : ℕ). whole_within (b + n) d.log.kept.unforced) (alike.behind q c d at at_there)
      ∙ ap (whole_within (c.log.behind + n)) unforced_alike

  left_alike : (n : ℕ) → left_by d.log n ≡ left_by c.log n
  left_alike n = ap (λ (ls : List LogRecord). ls ++ whole_within (d.log.behind + n) d.log.kept.unforced)
      forced_alike
      ∙ ap (λ (ls : List LogRecord). c.log.kept.forced ++ ls) (whole_alike n)

  -- where all records are left, N were kept as were not forced
  all_kept : (e : CoreState) (n : ℕ) → left_by e.log n ≡ records_of e.log.kept
      → records_kept e n ≡ length e.log.kept.unforced
  all_kept e n all =
      let whole = whole_within (e.log.behind + n) e.log.kept.unforced in
      let sizes = sym (length-append e.log.kept.forced whole)
      ∙ ap (λ (ls : List LogRecord). length ls) all ∙ length-append e.log.kept.forced e.log.kept.unforced in
      omega (arith, sizes)

  pub kept_alike : (bytes : Option ℕ) (n m : ℕ) → KeepsBytes c bytes n → KeepsBytes d bytes m
      → (records_kept d m ≡ records_kept c n) × (left_by d.log m ≡ left_by c.log n)
  kept_alike (Some bytes) n m keeps keeps_there =
      let is = keeps_there ∙ sym keeps in (
        ap (λ (k : ℕ). records_kept d k) is ∙ ap (λ (ls : List LogRecord). length ls) (whole_alike n),
        ap (λ (k : ℕ). left_by d.log k) is ∙ left_alike n,
      )
  kept_alike None n m keeps keeps_there = (
    all_kept d m keeps_there ∙ ap (λ (ls : List LogRecord). length ls) unforced_alike
        ∙ sym (all_kept c n keeps),
    keeps_there ∙ records_alike ∙ sym keeps,
  )

-- Inputs.

answer_at : (r : Role) (d d' e e' : ManagerData) (s t : CoreState) (a b : DataAnswer) (i : Input) → Alike s t
    → AlikeAt r d e → HandlesData r d d' s a i → HandlesData r e e' t b i → b ≡ a
answer_at (AtLeaf p) d d' e e' s t a b i same alike h k =
    answers_alike d e alike s t (case_xid p) i a b same.2 h.0 k.0
answer_at AtRoot d d' e e' s t a b i same alike h k = k ∙ sym h
answer_at (Below p) d d' e e' s t a b i same alike h k = k ∙ sym h

held_by : (r : Role) (d d' e e' : ManagerData) (s t : CoreState) (a b : DataAnswer) (i : Input) → Alike s t
    → AlikeAt r d e → b ≡ a → HandlesData r d d' s a i → HandlesData r e e' t b i → AlikeAt r d' e'
held_by (AtLeaf p) d d' e e' s t a b i same alike is h k =
    moves_alike d d' e e' alike (case_xid p) (data_turn s a i) h.1
    (subst (MovesData e e' (case_xid p)) (ap (λ (x : DataAnswer). data_turn t x i) is
    ∙ turns_alike s t same a i) k.1)
held_by AtRoot d d' e e' s t a b i same alike is h k = tt
held_by (Below p) d d' e e' s t a b i same alike is h k = tt

module _ (s s' t t' : WorldState) (alike : AlikeTrees s t) (q : ProcessId) (i : Input)
    (marked marks_there : List Bool)
    (is : marks_there ≡ marked) (stands : InputStands alike.world.net q i) (h : TreeSteps s s' q i marked)
    (k : TreeSteps t t' q i marks_there) where
  abbrev role : Role
  role = (place_of s.tree q).role

  same : Alike h.before k.before
  same = cores_alike s t alike q h.before k.before h.moves.stood k.moves.stood
      (made_up h.before h.behind h.handles.answer i h.reaction h.handles.makes)

  data_here : HandlesData role (s.data_at q) (s'.data_at q) h.before h.handles.answer i
  data_here = subst (λ p. HandlesData p.role (s.data_at q) (s'.data_at q) h.before h.handles.answer i)
      (place_is s t alike q h.before k.before h.moves.stood k.moves.stood) h.handles.holdings

  data_there : HandlesData role (t.data_at q) (t'.data_at q) k.before k.handles.answer i
  data_there = subst (λ p. HandlesData p.role (t.data_at q) (t'.data_at q) k.before k.handles.answer i)
      (place_there s t alike q h.before k.before h.moves.stood k.moves.stood) k.handles.holdings

  one_answer : k.handles.answer ≡ h.handles.answer
  one_answer = answer_at role (s.data_at q) (s'.data_at q) (t.data_at q) (t'.data_at q) h.before k.before
      h.handles.answer k.handles.answer i same (alike.holdings q) data_here data_there

  follows_here : EntersBy journal_of alike.moves alike.world s s'
      (input_move q i None h.handles.answer) h.reaction
  follows_here = step_follows journal_of whole_shows as_the_model alike.moves alike.world s s' q i marked
      alike.is_tree alike.here stands h

  follows_there : EntersBy journal_of alike.moves alike.world t t'
      (input_move q i None h.handles.answer) k.reaction
  follows_there = subst (λ (a : DataAnswer). EntersBy journal_of alike.moves alike.world t t'
      (input_move q i None a) k.reaction) one_answer
      (step_follows journal_of whole_shows as_the_model alike.moves alike.world t t' q i marks_there
      (subst IsTree (sym alike.tree) alike.is_tree) alike.there stands k)

  -- the same input leaves them alike
  pub input_alike : AlikeTrees s' t'
  input_alike =
      let shown = one_reaction s s' t t' alike q (input_move q i None h.handles.answer) h.reaction k.reaction
      follows_here follows_there in
      move_alike s s' t t' alike q (input_move q i None h.handles.answer) h.reaction k.reaction follows_here
      follows_there (Handles i) h.before h.behind k.before k.behind marked marks_there h.moves
      k.moves h.enters
      k.enters is
      (held_by role (s.data_at q) (s'.data_at q) (t.data_at q) (t'.data_at q) h.before k.before
      h.handles.answer k.handles.answer i same (alike.holdings q) one_answer data_here data_there)
      (step_behind k.before k.behind k.handles.answer i k.reaction k.handles.makes
      ∙ ap (behind_by k.before.log.behind) shown
      ∙ ap (λ (n : ℕ). behind_by n h.reaction) (alike.behind q h.before k.before h.moves.stood k.moves.stood)
      ∙ sym (step_behind h.before h.behind h.handles.answer i h.reaction h.handles.makes))

pub delivery_alike : (s s' t t' : WorldState) (k : ℕ) → AlikeTrees s t → Delivers s s' k → Delivers t t' k
    → AlikeTrees s' t'
delivery_alike s s' t t' k alike h g =
    let net : t.net ≡ s.net = alike.there.follows.net ∙ sym alike.here.follows.net in
    let one : g.envelope ≡ h.envelope = some_envelope g.envelope h.envelope
    (sym g.sent ∙ ap (λ (ls : List Envelope). sent_as ls k) net ∙ h.sent) in
    input_alike s s' t t' alike h.envelope.to (MessageInput k h.envelope.message) (marks s.delivered k)
    (marks t.delivered k) (ap (λ (bs : List Bool). marks bs k) alike.delivered)
    (sent_stands alike.world.net k h.envelope
    (ap (λ (ls : List Envelope). sent_as ls k) (sym alike.here.follows.net) ∙ h.sent))
    h.steps
    (subst (λ (l : Envelope). TreeSteps t t' l.to (MessageInput k l.message) (marks t.delivered k)) one
    g.steps)

settled_by : (n : ℕ) (s s' t t' : WorldState) (o : Option ℕ) → AlikeTrees s t
    → ((r k : WorldState) → AlikeTrees r k → Settles n r s' → Settles n k t' → AlikeTrees s' t')
    → settles_by s s' (λ mid. Settles n mid s') o → settles_by t t' (λ mid. Settles n mid t') o
    → AlikeTrees s' t'
settled_by n s s' t t' None alike again h k =
    subst (λ (x : WorldState). AlikeTrees x t') (sym h)
    (subst (λ (x : WorldState). AlikeTrees s x) (sym k) alike)
settled_by n s s' t t' (Some i) alike again h k =
    again h.0 k.0 (delivery_alike s h.0 t k.0 i alike h.1 k.1) h.2 k.2

pub settles_alike : (n : ℕ) (s s' t t' : WorldState) → AlikeTrees s t → Settles n s s' → Settles n t t'
    → AlikeTrees s' t'
settles_alike zero s s' t t' alike h k =
    subst (λ (x : WorldState). AlikeTrees x t') (sym h)
    (subst (λ (x : WorldState). AlikeTrees s x) (sym k) alike)
settles_alike (suc n) s s' t t' alike h k =
    settled_by n s s' t t' (least_open 1 s.delivered) alike
    (λ x y a p r. settles_alike n x s' y t' a p r) h
    (subst (λ (bs : List Bool). settles_by t t' (λ mid. Settles n mid t') (least_open 1 bs))
    alike.delivered k)

-- Restarts and trims.

restarted_at : (r : Role) (ls ks : List LogRecord) (d e : ManagerData) → ks ≡ ls → RestartsData r ls d
    → RestartsData r ks e → AlikeAt r d e
restarted_at (AtLeaf p) ls ks d e is h k =
    promises_alike ls d e h (subst (λ (xs : List LogRecord). HoldsPromises xs e) is k)
restarted_at AtRoot ls ks d e is h k = tt
restarted_at (Below p) ls ks d e is h k = tt

trimmed_at : (r : Role) (d d' e e' : ManagerData) → AlikeAt r d e → TrimsData r d d' → TrimsData r e e'
    → AlikeAt r d' e'
trimmed_at (AtLeaf p) d d' e e' alike h k = moves_alike d d' e e' alike (case_xid p) Rests h k
trimmed_at AtRoot d d' e e' alike h k = tt
trimmed_at (Below p) d d' e e' alike h k = tt

restart_alike : (s s' t t' : WorldState) (q : ProcessId) (bytes : Option ℕ) → AlikeTrees s t
    → RestartsAt s s' q bytes → RestartsAt t t' q bytes → AlikeTrees s' t'
restart_alike s s' t t' q bytes alike h k =
    let kept = kept_alike s t alike q h.before k.before h.moves.stood k.moves.stood bytes
    h.keep k.keep h.keeps
    k.keeps in
    let one : restart_of k.before k.keep ≡ restart_of h.before h.keep = ap Restarting kept.0 in
    let here = restart_follows journal_of whole_shows alike.moves alike.world s s' alike.here q alike.is_tree
    bytes h in
    let there = subst (λ (x : Happening). EntersBy journal_of alike.moves alike.world t t'
    (quiet_move q x None)
    k.reaction) one
    (restart_follows journal_of whole_shows alike.moves alike.world t t' alike.there q
    (subst IsTree (sym alike.tree) alike.is_tree) bytes k) in
    move_alike s s' t t' alike q (quiet_move q (restart_of h.before h.keep) None) h.reaction
    k.reaction here there
    (restart_of h.before h.keep) h.before h.behind k.before k.behind s.delivered t.delivered h.moves k.moves
    h.enters (subst (λ (x : Happening). Enters t t' q x k.reaction t.delivered) one k.enters) alike.delivered
    (restarted_at (place_of s.tree q).role (left_by h.before.log h.keep) (left_by k.before.log k.keep)
    (s'.data_at q) (t'.data_at q) kept.1
    (subst (λ p. RestartsData p.role (left_by h.before.log h.keep) (s'.data_at q))
    (place_is s t alike q h.before k.before h.moves.stood k.moves.stood) h.holdings)
    (subst (λ p. RestartsData p.role (left_by k.before.log k.keep) (t'.data_at q))
    (place_there s t alike q h.before k.before h.moves.stood k.moves.stood) k.holdings))
    (ap (λ (l : LogSight). l.behind) k.restarts.log ∙ sym (ap (λ (l : LogSight). l.behind) h.restarts.log))

trim_alike : (s s' t t' : WorldState) (q : ProcessId) → AlikeTrees s t → TrimsAt s s' q → TrimsAt t t' q
    → AlikeTrees s' t'
trim_alike s s' t t' q alike h k =
    let here = trim_follows journal_of whole_shows alike.moves alike.world s s' alike.here q alike.is_tree h
    in
    let there = trim_follows journal_of whole_shows alike.moves alike.world t t' alike.there q
    (subst IsTree (sym alike.tree) alike.is_tree) k in
    move_alike s s' t t' alike q (quiet_move q Trimming None) (trim_reaction h.remain)
    (trim_reaction k.remain)
    here there Trimming h.before h.behind k.before k.behind s.delivered t.delivered h.moves k.moves h.enters
    k.enters alike.delivered
    (trimmed_at (place_of s.tree q).role (s.data_at q) (s'.data_at q) (t.data_at q) (t'.data_at q)
    (alike.holdings q)
    (subst (λ p. TrimsData p.role (s.data_at q) (s'.data_at q))
    (place_is s t alike q h.before k.before h.moves.stood k.moves.stood) h.holdings)
    (subst (λ p. TrimsData p.role (t.data_at q) (t'.data_at q))
    (place_there s t alike q h.before k.before h.moves.stood k.moves.stood) k.holdings))
    (ap (λ (l : LogSight). l.behind) k.trims.log ∙ sym (ap (λ (l : LogSight). l.behind) h.trims.log))

-- Events.

pub event_alike : (s s' t t' : WorldState) (e : Event) → AlikeTrees s t → Applies s e s' → Applies t e t'
    → AlikeTrees s' t'
event_alike s s' t t' (ActOf a) alike h k =
    input_alike s s' t t' alike (process_of_act (root_of s.tree) a) (ActInput a) s.delivered t.delivered
    alike.delivered tt h
    (subst (λ (z : List TreeProcess). TreeSteps t t' (process_of_act (root_of z) a) (ActInput a) t.delivered)
    alike.tree k)
event_alike s s' t t' (Deliver n) alike h k = delivery_alike s s' t t' n alike h k
event_alike s s' t t' Settle alike h k = settles_alike 10000 s s' t t' alike h k
event_alike s s' t t' (Restart q bytes) alike h k = restart_alike s s' t t' q bytes alike h k
event_alike s s' t t' (Trim q) alike h k = trim_alike s s' t t' q alike h k

pub leads_alike : (s s' t t' : WorldState) (es : List Event) → AlikeTrees s t → EventsLead s es s'
    → EventsLead t es t'
    → AlikeTrees s' t'
leads_alike s s' t t' [] alike h k =
    subst (λ (x : WorldState). AlikeTrees x t') (sym h)
    (subst (λ (x : WorldState). AlikeTrees s x) (sym k) alike)
leads_alike s s' t t' (e ∷ es) alike h k =
    leads_alike h.0 s' k.0 t' es (event_alike s h.0 t k.0 e alike h.1 k.1) h.2 k.2

opened_at : (r : Role) (n d e : ManagerData) → DataRests n d → DataRests n e → AlikeAt r d e
opened_at (AtLeaf p) n d e h k = moves_alike n d n e (itself n) (case_xid p) Rests h k
opened_at AtRoot n d e h k = tt
opened_at (Below p) n d e h k = tt

pub opened_alike : (tree : List TreeProcess) (s t : WorldState) → IsTree tree → IsOpenedTree s tree
    → IsOpenedTree t tree
    → AlikeTrees s t
opened_alike tree s t is_tree h k = record {
  is_tree = subst IsTree (sym h.tree_is) is_tree;
  tree = k.tree_is ∙ sym h.tree_is;
  moves = [];
  world = opened_world;
  here = by_whole [] opened_world s (opened_follows tree s h);
  there = by_whole [] opened_world t (opened_follows tree t k);
  delivered = k.delivered ∙ sym h.delivered;
  holdings = λ q. opened_at (place_of s.tree q).role no_data (s.data_at q) (t.data_at q) (h.holdings q)
      (k.holdings q);
  behind = λ q c d at at_there.
      ap (λ (l : LogSight). l.behind) (k.nodes q d at_there).opened.log
      ∙ sym (ap (λ (l : LogSight). l.behind) (h.nodes q c at).opened.log);
}
