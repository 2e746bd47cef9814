-- What a step of one of the programs of a tree comes to stands for a run that goes on since the tree was
-- opened.
use Rattle.std.proofs.Common.{◌≡◌, ◌≢◌, ◌∙◌, ◌⊎◌, subst, refl, inl, inr, ℕ, Bool, true, false, if◌then◌else◌, Option, Some, None, option_map, is_some, List}
use Rattle.protocol.specs.declared.names.Case.{Case}
use Rattle.protocol.specs.declared.names.Outcome.{Outcome}
use Rattle.protocol.specs.declared.names.ProcessId.{ProcessId}
use Rattle.protocol.specs.declared.standings.Standing.TheVariants.{Heuristic}
use Rattle.protocol.specs.Names.{same_process}
use Rattle.protocol.specs.Nodes.{Node}
use Rattle.protocol.specs.World.{Made, World}
use Rattle.process_state.specs.States.{CoreState}
use Rattle.tree_state.specs.StandsFor.{StandsFor}
use Rattle.tree_state.specs.Worlds.{WorldState}
use Rattle.proof_runs.specs.worlds.Follows.{StandsAt}
use Rattle.proof_lives.specs.Lives.{anew_at, begin_breaks, begins, begins_anew, breaks, counted, counted_at, makes, rests, saying, trim_breaks, trims}
use Rattle.proof_lives.proofs.Lives.{stands_counted}
use Rattle.proof_reopened.specs.Earlier.{Earlier}
use Rattle.proof_reopened.specs.Since.{FollowsSince}
use Rattle.proof_reopened.specs.Laws.{LifeStepsGoOn}
use Rattle.proof_reopened.proofs.Faults.{input_fails_since, restart_fails_since, trim_fails_since}
use Rattle.proof_reopened.proofs.Steps.{input_since, restart_since, same_since, trim_since, waits_since}

stands_saying : (m : Node) (c : CoreState) (said : Case → Option Outcome) (spent : Bool)
    → ((d : Case) → (c.branch_of d).standing ≢ Heuristic) → StandsFor m c → StandsFor m (saying c said spent)
stands_saying m c said spent undecided h = record {
  forced = h.forced;
  unforced = h.unforced;
  failed = h.failed;
  up = λ runs.
      let u = h.up runs in
      record {
        boot = u.boot;
        begun = u.begun;
        given = u.given;
        tickets = u.tickets;
        views = u.views;
        branches = u.branches;
        decided = λ d is. absurd (undecided d is);
      };
}

-- the tree with another process there, if there is one
abbrev changed : ProcessId → (CoreState → CoreState) → WorldState → WorldState
changed q g s = record s {
  node_at = λ p. if same_process q p then option_map g (s.node_at p) else s.node_at p;
}

changed_is : (b : Bool) (o : Option CoreState) (g : CoreState → CoreState) (c : CoreState)
    → (if b then option_map g o else o) ≡ Some c
    → (d : CoreState) × (o ≡ Some d) × (((b ≡ true) × (g d ≡ c)) ⊎ (d ≡ c))
changed_is true None g c h = absurd (cc)
changed_is true (Some d) g c h = (d, refl, inl (refl, (let is : g d ≡ c = cc in is)))
changed_is false o g c h = (c, h, inr refl)

changed_is_some : (b : Bool) (o : Option CoreState) (g : CoreState → CoreState)
    → is_some (if b then option_map g o else o) ≡ is_some o
changed_is_some true None g = refl
changed_is_some true (Some d) g = refl
changed_is_some false o g = refl

module _ (past : Earlier) (q : ProcessId) (g : CoreState → CoreState) (es : List Made) (w : World)
    (s : WorldState)
    (fits : (p : ProcessId) (c : CoreState) → same_process q p ≡ true → s.node_at p ≡ Some c
    → StandsAt w s p c → StandsAt w (changed q g s) p (g c)) where
  changed_stands : (p : ProcessId) (d c : CoreState) → s.node_at p ≡ Some d → StandsAt w s p d
      → ((same_process q p ≡ true) × (g d ≡ c)) ⊎ (d ≡ c) → StandsAt w (changed q g s) p c
  changed_stands p d c there h (inl is) =
      subst (λ x. StandsAt w (changed q g s) p x) is.1 (fits p d is.0 there h)
  changed_stands p d c there h (inr is) = subst (λ x. StandsAt w (changed q g s) p x) is
      (record { place = h.place; stands = h.stands })

  changes_alike : FollowsSince past es w s → FollowsSince past es w (changed q g s)
  changes_alike f = record {
    earlier = f.earlier;
    since = f.since;
    shown = f.shown;
    nodes = λ p c there.
        let d = changed_is (same_process q p) (s.node_at p) g c there in
        changed_stands p d.0 c d.1 (f.nodes p d.0 d.1) d.2;
    listed = λ p. changed_is_some (same_process q p) (s.node_at p) g ∙ f.listed p;
  }

-- the state of a tree with one process over a device of which N failures were counted
pub counts_since : (past : Earlier) (q : ProcessId) (n : ℕ) (es : List Made) (w : World) (s : WorldState)
    → FollowsSince past es w s → FollowsSince past es w (counted_at q n s)
counts_since past q n es w s f = changes_alike past q (λ c. counted c n) es w s
    (λ p c is there h. record { place = h.place; stands = stands_counted (w.at p) c n h.stands }) f

anew_since : (past : Earlier) (q : ProcessId) (n : ℕ) (said : Case → Option Outcome) (spent : Bool)
    (es : List Made)
    (w : World) (s : WorldState)
    → ((p : ProcessId) (c : CoreState) → same_process q p ≡ true → s.node_at p ≡ Some c
    → (d : Case) → (c.branch_of d).standing ≢ Heuristic)
    → FollowsSince past es w s → FollowsSince past es w (anew_at q n said spent s)
anew_since past q n said spent es w s undecided f =
    changes_alike past q (λ c. saying (counted c n) said spent) es w s
    (λ p c is there h. record {
      place = h.place;
      stands = stands_saying (w.at p) (counted c n) said spent (undecided p c is there)
          (stands_counted (w.at p) c n h.stands);
    }) f

pub life_steps : LifeStepsGoOn
life_steps past s t es w is_tree f (rests same) = waits_since past es w t (same_since past es w s t f same)
life_steps past s t es w is_tree f (makes q i marked sent h) =
    input_since past es w s t is_tree f q i marked sent h
life_steps past s t es w is_tree f (breaks q i sent h) = input_fails_since past es w s t f q i sent h
life_steps past s t es w is_tree f (trims q h) = trim_since past es w s t is_tree f q h
life_steps past s t es w is_tree f (trim_breaks q h) = trim_fails_since past es w s t f q is_tree h
life_steps past s t es w is_tree f (begins q n keep h) =
    restart_since past es w (counted_at q n s) t is_tree (counts_since past q n es w s f) q (Some keep) h
life_steps past s t es w is_tree f (begin_breaks q n keep h) =
    restart_fails_since past es w (counted_at q n s) t (counts_since past q n es w s f) q
    is_tree (Some keep) h
life_steps past s t es w is_tree f (begins_anew q n h) =
    let u : WorldState = record t { data_at = s.data_at } in
    let there = same_since past es w (anew_at q n h.said h.spent s) u
    (anew_since past q n h.said h.spent es w s h.undecided f)
    (record {
      tree = h.tree;
      nodes = h.nodes;
      holdings = λ p. record {
        keeps = record { writes = λ x. refl; holders = λ k. refl };
        known = λ x. refl;
      };
      net = h.net;
      delivered = h.delivered;
      entries = h.entries;
    }) in
    waits_since past es w t (record {
      earlier = there.earlier;
      since = there.since;
      shown = there.shown;
      nodes = λ p c is. let x = there.nodes p c is in record { place = x.place; stands = x.stands };
      listed = there.listed;
    })
