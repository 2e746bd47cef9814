-- A tree in which nothing is otherwise stands for the same run.
use Rattle.std.proofs.Common.{◌≡◌, ◌∙◌, ap, sym, subst, refl, is_some, Option, Some, None, List}
use Rattle.protocol.specs.declared.events.JournalEntry.{JournalEntry}
use Rattle.protocol.specs.Nodes.{is_listed, place_of}
use Rattle.protocol.specs.World.{IsRun, Made, World, journal_of}
use Rattle.process_state.specs.States.{CoreState, SameCore}
use Rattle.proof_runs.proofs.Faults.{same_stands}
use Rattle.tree_state.specs.Worlds.{SameTree, SameNode, WorldState}
use Rattle.proof_runs.specs.worlds.Follows.{Follows, FollowsBy}

both_are : (o p : Option CoreState) → SameNode o p → is_some p ≡ is_some o
both_are None None same = refl
both_are (Some s) (Some t) same = refl
both_are None (Some t) same = absurd same
both_are (Some s) None same = absurd same

before_it : (o p : Option CoreState) (t : CoreState) → SameNode o p → p ≡ Some t → (s : CoreState)
    × (o ≡ Some s) × SameCore s t
before_it (Some s) (Some r) t same is = (
  s,
  refl,
  subst (λ x. SameCore s x)
      (let is_it : r ≡ t = cc in is_it) same,
)
before_it None None t same is = absurd (cc)
before_it None (Some r) t same is = absurd same
before_it (Some s) None t same is = absurd same

-- a tree in which nothing is otherwise stands for the same run
pub same_follows : (es : List Made) (w : World) (s t : WorldState)
    → Follows es w s → SameTree s t → Follows es w t
same_follows es w s t f same =
    record {
      is_run = subst (λ z. IsRun z es w) (sym same.tree) f.is_run;
      by_this = f.by_this;
      shown = f.shown ∙ sym same.entries;
      net = same.net ∙ f.net;
      nodes = λ q c there.
          let b = before_it (s.node_at q) (t.node_at q) c (same.nodes q) there in
          let here = f.nodes q b.0 b.1 in
          record {
            place = b.2.rest.place ∙ (here.place ∙ ap (λ z. place_of z q) (sym same.tree));
            stands = same_stands (w.at q) b.0 c b.2 here.stands;
          };
      listed = λ q. both_are (s.node_at q) (t.node_at q) (same.nodes q)
          ∙ (f.listed q ∙ ap (λ z. is_listed z q) (sym same.tree));
    }

-- and for the same run of which its journal shows so much
pub same_by : (journal : List Made → List JournalEntry) (es : List Made) (w : World)
    (s t : WorldState) → FollowsBy journal es w s
    → SameTree s t → FollowsBy journal es w t
same_by journal es w s t f same =
    record {
      follows = same_follows es w (record s { entries = journal_of es })
          (record t { entries = journal_of es }) f.follows
          (record {
            tree = same.tree;
            nodes = same.nodes;
            net = same.net;
            delivered = same.delivered;
            holdings = same.holdings;
            entries = refl;
          });
      shown = f.shown ∙ sym same.entries;
    }
