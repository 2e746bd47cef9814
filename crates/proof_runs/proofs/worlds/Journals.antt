-- What journals show of a run's moves: each of them, or those in which no device failed.
use Rattle.std.proofs.Common.{◌≡◌, ◌∙◌, ap, refl, is_none, List, [], ◌++◌}
use Rattle.std.proofs.lemmas.List.Elements.{filter-append}
use Rattle.std.proofs.lemmas.List.{append-nil}
use Rattle.protocol.specs.declared.names.ProcessId.{ProcessId}
use Rattle.protocol.specs.declared.events.JournalEntry.{JournalEntry}
use Rattle.protocol.specs.declared.trees.TreeProcess.{TreeProcess}
use Rattle.protocol.specs.World.{Made, World, journal_of, opened_world}
use Rattle.process_state.specs.States.{CoreState}
use Rattle.tree_state.specs.Worlds.{WorldState}
use Rattle.tree_state.specs.Runs.{IsOpenedTree}
use Rattle.proof_runs.specs.worlds.Follows.{Follows, FollowsBehindFaults, FollowsBy, GoesOn, GoesOnBy, StandsAt, entered_of, unfailed}
use Rattle.proof_runs.proofs.worlds.Openings.{opened_follows}
use Rattle.proof_runs.proofs.worlds.Steps.{HidesFaults, ShowsMoves, in_full}

pub whole_shows : ShowsMoves journal_of
unfolding journal_of
whole_shows es q h a e = refl

pub entered_shows : ShowsMoves entered_of
unfolding journal_of
entered_shows es q h a e = filter-append (λ (x : JournalEntry). is_none x.step.fault) (journal_of es) _

pub entered_hides : HidesFaults entered_of
unfolding journal_of
entered_hides es q h f a e =
    filter-append (λ (x : JournalEntry). is_none x.step.fault) (journal_of es) _ ∙ append-nil (entered_of es)

-- A journal that shows each of them.

-- where a process stands the journal is not looked at
at_full : (es : List Made) (w : World) (s : WorldState) (q : ProcessId) (c : CoreState)
    → StandsAt w (in_full s es) q c → StandsAt w s q c
at_full es w s q c h = record { place = h.place; stands = h.stands }

in_full_at : (es : List Made) (w : World) (s : WorldState) (q : ProcessId) (c : CoreState) → StandsAt w s q c
    → StandsAt w (in_full s es) q c
in_full_at es w s q c h = record { place = h.place; stands = h.stands }

-- a state that stands for a run stands for it with every step in its journal
full : (es : List Made) (w : World) (s : WorldState) → Follows es w s → Follows es w (in_full s es)
full es w s f = record {
  is_run = f.is_run;
  by_this = f.by_this;
  shown = refl;
  net = f.net;
  nodes = λ q c there. in_full_at es w s q c (f.nodes q c there);
  listed = f.listed;
}

pub by_whole : (es : List Made) (w : World) (s : WorldState) → Follows es w s → FollowsBy journal_of es w s
by_whole es w s f = record { follows = full es w s f; shown = f.shown }

pub whole_follows : (es : List Made) (w : World) (s : WorldState)
    → FollowsBy journal_of es w s → Follows es w s
whole_follows es w s f = record {
  is_run = f.follows.is_run;
  by_this = f.follows.by_this;
  shown = f.shown;
  net = f.follows.net;
  nodes = λ q c there. at_full es w s q c (f.follows.nodes q c there);
  listed = f.follows.listed;
}

pub whole_goes_on : (es : List Made) (w : World) (s : WorldState) → GoesOnBy journal_of es w s → GoesOn es w s
whole_goes_on es w s g = record {
  later = g.later;
  world = g.world;
  leads = g.leads;
  follows = whole_follows (g.later ++ es) g.world s g.follows;
}

-- a state that stands for a run, and has entered no failed step, stands for one in which devices may have
-- failed
pub entered_follows : (s : WorldState) (es : List Made) (w : World) → Follows es w s
    → unfailed s.entries ≡ s.entries → FollowsBehindFaults es w s
entered_follows s es w f none = record { follows = full es w s f; shown = ap unfailed f.shown ∙ none }

pub opened_behind_faults : (tree : List TreeProcess) (s : WorldState) → IsOpenedTree s tree
    → FollowsBehindFaults [] opened_world s
unfolding journal_of
opened_behind_faults tree s opened =
    let f = opened_follows tree s opened in
    record { follows = full [] opened_world s f; shown = f.shown }
