-- A state that stands for a run since its tree was opened goes on by a move of the model's world.
use Rattle.std.proofs.Common.{◌≡◌, ◌∙◌, ap, sym, subst, refl, Bool, true, false, inl, inr, Option, Some, None, is_some, List, [], ◌∷◌, ◌++◌}
use Rattle.protocol.specs.declared.names.ProcessId.{ProcessId}
use Rattle.protocol.specs.declared.messages.Envelope.{Envelope}
use Rattle.protocol.specs.declared.events.Fault.{Fault}
use Rattle.protocol.specs.declared.events.Happening.{Happening}
use Rattle.protocol.specs.declared.events.Reaction.{Reaction}
use Rattle.protocol.specs.Names.{same_process}
use Rattle.protocol.specs.NameLaws.{same_process_tells}
use Rattle.protocol.specs.Nodes.{DataAnswer, Effect, Node, is_listed, place_of, reaction_of}
use Rattle.protocol.specs.World.{Continues, IsRun, Made, World, goes_on, put_at, stays, world_makes}
use Rattle.protocol.specs.World.{MayHappen}
use Rattle.process_state.specs.States.{CoreState}
use Rattle.tree_state.specs.StandsFor.{StandsFor}
use Rattle.tree_state.specs.Worlds.{Enters, WorldState, step_entry}
use Rattle.proof_runs.specs.worlds.Follows.{StandsAt, entered_of}
use Rattle.proof_runs.proofs.worlds.Journals.{entered_shows}
use Rattle.proof_runs.proofs.worlds.Steps.{made_with, move_with, world_after}
use Rattle.proof_reopened.specs.Earlier.{Earlier, IsEarlier, IsSince, then_makes}
use Rattle.proof_reopened.specs.Since.{FollowsSince, GoesOnSince}
use Rattle.proof_reopened.proofs.Whole.{happens_in, whole_run}

-- Both parts are one run.

pub run_of : (o : Earlier) (es : List Made) (w : World) (s : WorldState) → FollowsSince o es w s
    → IsRun s.tree (es ++ o.moves) w
run_of o es w s f = whole_run s.tree o f.earlier.is_run es s.net w f.since

pub listed_since : (o : Earlier) (es : List Made) (w : World) (s : WorldState) (q : ProcessId) (c : CoreState)
    → FollowsSince o es w s → s.node_at q ≡ Some c → is_listed s.tree q ≡ true
listed_since o es w s q c f stood = sym (f.listed q) ∙ ap is_some stood

-- Of the processes one alone moves.

pub record MovesOne (s t : WorldState) (q : ProcessId) (before behind : CoreState) : Type 0 where
  pub tree : t.tree ≡ s.tree
  pub stood : s.node_at q ≡ Some before
  pub stands : t.node_at q ≡ Some behind
  pub others : (p : ProcessId) → same_process q p ≡ false → t.node_at p ≡ s.node_at p

same_self : (q : ProcessId) → same_process q q ≡ true
same_self q = elim (same_process_tells q q) [ inl t ↦ t.0 | inr z ↦ absurd (z.1 refl) ]

pub put_here : (q : ProcessId) (n : Node) (at : ProcessId → Node) → put_at q n at q ≡ n
put_here q n at = rw (same_self q) refl

pub put_there : (q p : ProcessId) (n : Node) (at : ProcessId → Node) → same_process q p ≡ false
    → put_at q n at p ≡ at p
put_there q p n at h = rw h refl

some_one : (a b : CoreState) → Some a ≡ Some b → a ≡ b
some_one a b h = cc

module _ (w : World) (s s' : WorldState) (q : ProcessId) (n : Node) (e : Effect)
    (tree : s'.tree ≡ s.tree) where
  stays_at : (p : ProcessId) (c : CoreState) → same_process q p ≡ false → StandsAt w s p c
      → StandsAt (world_after w q n e) s' p c
  stays_at p c away h = record {
    place = h.place ∙ ap (λ t. place_of t p) (sym tree);
    stands = subst (λ m. StandsFor m c) (sym (put_there q p n w.at away)) h.stands;
  }

  moved_at : (p : ProcessId) (b c : CoreState) → q ≡ p → b.place ≡ place_of s.tree q → StandsFor n b → b ≡ c
      → StandsAt (world_after w q n e) s' p c
  moved_at p b c here place stands is =
      subst (λ r. StandsAt (world_after w q n e) s' r c) here
      (subst (λ k. StandsAt (world_after w q n e) s' q k) is
      (record {
        place = place ∙ ap (λ t. place_of t q) (sym tree);
        stands = subst (λ m. StandsFor m b) (sym (put_here q n w.at)) stands;
      }))

  nodes_after : (before behind : CoreState) → s'.node_at q ≡ Some behind
      → ((p : ProcessId) → same_process q p ≡ false → s'.node_at p ≡ s.node_at p)
      → ((p : ProcessId) (c : CoreState) → s.node_at p ≡ Some c → StandsAt w s p c)
      → behind.place ≡ place_of s.tree q → StandsFor n behind
      → (p : ProcessId) (c : CoreState) → s'.node_at p ≡ Some c → StandsAt (world_after w q n e) s' p c
  nodes_after before behind left others nodes place stands p c there = elim (same_process_tells q p) [
    | inl t ↦ moved_at p behind c t.1 place stands
        (some_one behind c (sym left ∙ (ap s'.node_at t.1 ∙ there)))
    | inr z ↦ stays_at p c z.0 (nodes p c (sym (others p z.0) ∙ there))
  ]

listed_after : (s s' : WorldState) (q : ProcessId) (before behind : CoreState) → s'.tree ≡ s.tree
    → s.node_at q ≡ Some before → s'.node_at q ≡ Some behind
    → ((p : ProcessId) → same_process q p ≡ false → s'.node_at p ≡ s.node_at p)
    → ((p : ProcessId) → is_some (s.node_at p) ≡ is_listed s.tree p)
    → (p : ProcessId) → is_some (s'.node_at p) ≡ is_listed s'.tree p
listed_after s s' q before behind tree stood left others listed p = elim (same_process_tells q p) [
  | inl t ↦ ap (λ r. is_some (s'.node_at r)) (sym t.1) ∙ (ap is_some left ∙ (ap is_some (sym stood)
      ∙ (listed q ∙ (ap (λ r. is_listed s.tree r) t.1 ∙ ap (λ z. is_listed z p) (sym tree)))))
  | inr z ↦ ap is_some (others p z.0) ∙ (listed p ∙ ap (λ t. is_listed t p) (sym tree))
]

-- A move of the world.

module _ (o : Earlier) (es : List Made) (w : World) (s s' : WorldState)
    (f : FollowsSince o es w s) (q : ProcessId)
    (h : Happening) (a : DataAnswer) (before behind : CoreState) (happens : MayHappen s.net q h)
    (moves : MovesOne s s' q before behind) where
  pub move_since : (fault : Option Fault) (e : Effect) (n : Node)
      → world_makes s.tree w (move_with q h fault a) ≡ Some (e, world_after w q n e)
      → s'.net ≡ s.net ++ e.messages → entered_of (made_with q h fault a e ∷ es) ≡ s'.entries
      → behind.place ≡ place_of s.tree q → StandsFor n behind → GoesOnSince o es w s'
  move_since fault e n step net shown place stands =
      let m = made_with q h fault a e in
      let w' = world_after w q n e in
      record {
        later = m ∷ [];
        world = w';
        leads = subst (λ t. Continues t w (m ∷ []) w') (sym moves.tree)
            (goes_on [] w m.move e w' stays (happens_in s.tree o es s.net w f.since q h happens) step);
        follows = record {
          earlier = subst (λ t. IsEarlier t o) (sym moves.tree) f.earlier;
          since = subst (λ t. IsSince t o (m ∷ es) s'.net w') (sym moves.tree)
              (subst (λ (net : List Envelope). IsSince s.tree o (m ∷ es) net w') (sym net)
              (then_makes es s.net w m.move e w' f.since refl happens step));
          shown = shown;
          nodes = nodes_after w s s' q n e moves.tree before behind moves.stands moves.others
              f.nodes place stands;
          listed = listed_after s s' q before behind moves.tree moves.stood moves.stands
              moves.others f.listed;
        };
      }

  -- one in which no device failed, and which is entered
  pub entered_since : (reaction : Reaction) (marked : List Bool) → Enters s s' q h reaction marked
      → (e : Effect) (n : Node) → world_makes s.tree w (move_with q h None a) ≡ Some (e, world_after w q n e)
      → reaction ≡ reaction_of e → behind.place ≡ place_of s.tree q → StandsFor n behind
      → GoesOnSince o es w s'
  entered_since reaction marked enters e n step shown place stands =
      move_since None e n step
      (enters.net ∙ ap (λ (y : Reaction). s.net ++ y.messages) shown)
      (entered_shows es q h a e ∙ (ap (λ xs. xs ++ step_entry q h (reaction_of e) ∷ []) f.shown
      ∙ (ap (λ y. s.entries ++ step_entry q h y ∷ []) (sym shown) ∙ sym enters.entries))) place stands
