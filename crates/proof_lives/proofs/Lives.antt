-- What the programs of a tree come to stands for a run.
use Rattle.std.proofs.Common.{◌≡◌, ◌≢◌, ◌∙◌, ◌⊎◌, sym, subst, refl, inl, inr, ℕ, Bool, true, false, if◌then◌else◌, Option, Some, None, option_map, is_some, List, [], ◌++◌}
use Rattle.protocol.specs.declared.names.Case.{Case}
use Rattle.protocol.specs.declared.names.Outcome.{Outcome}
use Rattle.protocol.specs.declared.names.ProcessId.{ProcessId}
use Rattle.protocol.specs.declared.standings.Standing.TheVariants.{Heuristic}
use Rattle.protocol.specs.declared.trees.TreeProcess.{TreeProcess}
use Rattle.protocol.specs.Names.{same_process}
use Rattle.protocol.specs.Nodes.{Node}
use Rattle.protocol.specs.Trees.{IsTree}
use Rattle.protocol.specs.World.{InputStands, Made, World, opened_world}
use Rattle.process_state.specs.States.{CoreState}
use Rattle.resource_manager.specs.Data.{ManagerData}
use Rattle.tree_state.specs.StandsFor.{StandsFor}
use Rattle.tree_state.specs.Worlds.{WorldState}
use Rattle.proof_runs.specs.worlds.Follows.{FollowsBehindFaults, StandsAt, entered_of}
use Rattle.proof_runs.proofs.worlds.Events.{GoesOnIn, then_on, waits}
use Rattle.proof_runs.proofs.worlds.Faults.{input_fails_on, restart_fails_on, trim_fails_on}
use Rattle.proof_runs.proofs.worlds.Journals.{entered_hides, entered_shows, opened_behind_faults}
use Rattle.proof_runs.proofs.worlds.Processes.{as_the_model}
use Rattle.proof_runs.proofs.worlds.Restarts.{restart_goes_on, trim_goes_on}
use Rattle.proof_runs.proofs.worlds.Steps.{step_goes_on}
use Rattle.proof_runs.proofs.worlds.Unchanged.{same_by}
use Rattle.proof_runs.proofs.worlds.Whole.{keeps_headline}
use Rattle.proof_lives.specs.Lives.{BeginsAnew, LifeStep, Lives, LivesAreRuns, StepsGoOn, anew_at, begin_breaks, begins, begins_anew, breaks, counted, counted_at, makes, more, none, rests, saying, trim_breaks, trims}

-- How many failures were counted makes no difference to what a process stands for.

pub stands_counted : (m : Node) (c : CoreState) (n : ℕ) → StandsFor m c → StandsFor m (counted c n)
stands_counted m c n h = record {
  forced = h.forced;
  unforced = h.unforced;
  failed = h.failed;
  up = λ runs.
      let u = h.up runs in
      record {
        boot = u.boot;
        begun = u.begun;
        given = u.given;
        tickets = u.tickets;
        views = u.views;
        branches = u.branches;
        decided = u.decided;
      };
}

-- Nor does what it says of branches that no operator decided.

stands_saying : (m : Node) (c : CoreState) (said : Case → Option Outcome) (spent : Bool)
    → ((d : Case) → (c.branch_of d).standing ≢ Heuristic) → StandsFor m c → StandsFor m (saying c said spent)
stands_saying m c said spent undecided h = record {
  forced = h.forced;
  unforced = h.unforced;
  failed = h.failed;
  up = λ runs.
      let u = h.up runs in
      record {
        boot = u.boot;
        begun = u.begun;
        given = u.given;
        tickets = u.tickets;
        views = u.views;
        branches = u.branches;
        decided = λ d is. absurd (undecided d is);
      };
}

-- the tree with another process there, if there is one
abbrev changed : ProcessId → (CoreState → CoreState) → WorldState → WorldState
changed q g s = record s {
  node_at = λ p. if same_process q p then option_map g (s.node_at p) else s.node_at p;
}

-- the process that another was, or that it is
changed_is : (b : Bool) (o : Option CoreState) (g : CoreState → CoreState) (c : CoreState)
    → (if b then option_map g o else o) ≡ Some c
    → (d : CoreState) × (o ≡ Some d) × (((b ≡ true) × (g d ≡ c)) ⊎ (d ≡ c))
changed_is true None g c h = absurd (cc)
changed_is true (Some d) g c h = (d, refl, inl (refl, (let is : g d ≡ c = cc in is)))
changed_is false o g c h = (c, h, inr refl)

changed_is_some : (b : Bool) (o : Option CoreState) (g : CoreState → CoreState)
    → is_some (if b then option_map g o else o) ≡ is_some o
changed_is_some true None g = refl
changed_is_some true (Some d) g = refl
changed_is_some false o g = refl

-- what a tree stands for, where the other process stands for it too
module _ (q : ProcessId) (g : CoreState → CoreState) (es : List Made) (w : World) (s : WorldState)
    (fits : (p : ProcessId) (c : CoreState) → same_process q p ≡ true → s.node_at p ≡ Some c
    → StandsAt w s p c → StandsAt w (changed q g s) p (g c)) where
  changed_stands : (p : ProcessId) (d c : CoreState) → s.node_at p ≡ Some d → StandsAt w s p d
      → ((same_process q p ≡ true) × (g d ≡ c)) ⊎ (d ≡ c) → StandsAt w (changed q g s) p c
  changed_stands p d c there h (inl is) =
      subst (λ x. StandsAt w (changed q g s) p x) is.1 (fits p d is.0 there h)
  changed_stands p d c there h (inr is) = subst (λ x. StandsAt w (changed q g s) p x) is
      (record { place = h.place; stands = h.stands })

  changes_alike : FollowsBehindFaults es w s → FollowsBehindFaults es w (changed q g s)
  changes_alike f = record {
    follows = record {
      is_run = f.follows.is_run;
      by_this = f.follows.by_this;
      shown = f.follows.shown;
      net = f.follows.net;
      nodes = λ p c there.
          let d = changed_is (same_process q p) (s.node_at p) g c there in
          let h = f.follows.nodes p d.0 d.1 in
          let here = changed_stands p d.0 c d.1 (record { place = h.place; stands = h.stands }) d.2 in
          record { place = here.place; stands = here.stands };
      listed = λ p. changed_is_some (same_process q p) (s.node_at p) g ∙ f.follows.listed p;
    };
    shown = f.shown;
  }

pub counts_alike : (q : ProcessId) (n : ℕ) (es : List Made) (w : World) (s : WorldState)
    → FollowsBehindFaults es w s → FollowsBehindFaults es w (counted_at q n s)
counts_alike q n es w s f = changes_alike q (λ c. counted c n) es w s
    (λ p c is there h. record { place = h.place; stands = stands_counted (w.at p) c n h.stands }) f

anew_alike : (q : ProcessId) (n : ℕ) (said : Case → Option Outcome) (spent : Bool)
    (es : List Made) (w : World)
    (s : WorldState)
    → ((p : ProcessId) (c : CoreState) → same_process q p ≡ true → s.node_at p ≡ Some c
    → (d : Case) → (c.branch_of d).standing ≢ Heuristic)
    → FollowsBehindFaults es w s → FollowsBehindFaults es w (anew_at q n said spent s)
anew_alike q n said spent es w s undecided f = changes_alike q (λ c. saying (counted c n) said spent) es w s
    (λ p c is there h. record {
      place = h.place;
      stands = stands_saying (w.at p) (counted c n) said spent (undecided p c is there)
          (stands_counted (w.at p) c n h.stands);
    }) f

-- A manager's data make no difference to it.

held_so : (es : List Made) (w : World) (t : WorldState) (d : ProcessId → ManagerData)
    → FollowsBehindFaults es w (record t { data_at = d }) → FollowsBehindFaults es w t
held_so es w t d f = record {
  follows = record {
    is_run = f.follows.is_run;
    by_this = f.follows.by_this;
    shown = f.follows.shown;
    net = f.follows.net;
    nodes = λ p c there.
        let h = f.follows.nodes p c there in
        record { place = h.place; stands = h.stands };
    listed = f.follows.listed;
  };
  shown = f.shown;
}

pub anew : (q : ProcessId) (n : ℕ) (es : List Made) (w : World) (s t : WorldState)
    → FollowsBehindFaults es w s
    → BeginsAnew s t q n → FollowsBehindFaults es w t
anew q n es w s t f h =
    held_so es w t s.data_at
    (same_by entered_of es w (anew_at q n h.said h.spent s) (record t { data_at = s.data_at })
    (anew_alike q n h.said h.spent es w s h.undecided f)
    (record {
      tree = h.tree;
      nodes = h.nodes;
      holdings = λ p. record {
        keeps = record { writes = λ x. refl; holders = λ k. refl };
        known = λ x. refl;
      };
      net = h.net;
      delivered = h.delivered;
      entries = h.entries;
    }))

-- Steps.

module _ (tree : List TreeProcess) (is_tree : IsTree tree) where
  abbrev On : List Made → World → WorldState → Type 0
  On = GoesOnIn entered_of tree

  pub step_on : (s t : WorldState) (es : List Made) (w : World) → s.tree ≡ tree → FollowsBehindFaults es w s
      → LifeStep s t → On es w t
  step_on s t es w is f (rests same) =
      waits entered_of tree es w t (same_by entered_of es w s t f same) (same.tree ∙ is)
  step_on s t es w is f (makes q i marked sent h) = record {
    goes_on_so = step_goes_on entered_of entered_shows as_the_model es w s t q i marked
        (subst IsTree (sym is) is_tree) f (subst (λ net. InputStands net q i) f.follows.net sent) h;
    tree_stays = h.moves.tree ∙ is;
  }
  step_on s t es w is f (breaks q i sent h) = record {
    goes_on_so = input_fails_on entered_of entered_hides es w s t f q i
        (subst (λ net. InputStands net q i) f.follows.net sent) h;
    tree_stays = h.moves.tree ∙ is;
  }
  step_on s t es w is f (trims q h) = record {
    goes_on_so = trim_goes_on entered_of entered_shows es w s t f q (subst IsTree (sym is) is_tree) h;
    tree_stays = h.moves.tree ∙ is;
  }
  step_on s t es w is f (trim_breaks q h) = record {
    goes_on_so = trim_fails_on entered_of entered_hides es w s t f q (subst IsTree (sym is) is_tree) h;
    tree_stays = h.moves.tree ∙ is;
  }
  step_on s t es w is f (begins q n keep h) = record {
    goes_on_so = restart_goes_on entered_of entered_shows es w (counted_at q n s) t
        (counts_alike q n es w s f) q (subst IsTree (sym is) is_tree) (Some keep) h;
    tree_stays = h.moves.tree ∙ is;
  }
  step_on s t es w is f (begin_breaks q n keep h) = record {
    goes_on_so = restart_fails_on entered_of entered_hides es w (counted_at q n s) t
        (counts_alike q n es w s f) q (subst IsTree (sym is) is_tree) (Some keep) h;
    tree_stays = h.moves.tree ∙ is;
  }
  step_on s t es w is f (begins_anew q n h) =
      waits entered_of tree es w t (anew q n es w s t f h) (h.tree ∙ is)

  lives_on : (s : WorldState) (es : List Made) (w : World) → s.tree ≡ tree → FollowsBehindFaults es w s
      → (t : WorldState) → Lives s t → On es w t
  lives_on s es w is f _ none = waits entered_of tree es w s f is
  lives_on s es w is f _ (more r t before step) =
      let first = lives_on s es w is f r before in
      then_on entered_of tree es w r t first
      (λ es' w' g. step_on r t es' w' first.tree_stays g step)

pub steps_so : StepsGoOn
steps_so s t es w is_tree f step = (step_on s.tree is_tree s t es w refl f step).goes_on_so

pub lives_so : LivesAreRuns
lives_so tree s t is_tree opened lives =
    let start = opened_behind_faults tree s opened in
    let end = lives_on tree is_tree s [] opened_world opened.tree_is start t lives in
    let on = end.goes_on_so in
    keeps_headline t (record {
      is_tree = subst IsTree (sym end.tree_stays) is_tree;
      run = record { moves = on.later ++ []; world = on.world; follows = on.follows };
    })
