-- What stays of a world's state, and an error that is passed on.
use Rattle.std.proofs.Common.{◌≡◌, sym, subst, refl, List, Result, Ok, Err, IfErr, IsErrAnd, OnOk}
use Rattle.protocol.specs.declared.events.StepError.{StepError}
use Rattle.protocol.specs.declared.trees.TreeProcess.{TreeProcess}
use Rattle.tree_world.specs.Nodes.{NodesSight}
use Rattle.tree_state.specs.Worlds.{SameTree, WorldState}
use Rattle.tree_journal.specs.Journals.{JournalState, SameJournal}
use Rattle.tree_process.proofs.Same.{rests}
use Rattle.tree_world.proofs.Steps.{same_as_it_is}

-- a state of these parts
abbrev pub world : List TreeProcess → NodesSight → JournalState → WorldState
world tree nodes j = record {
  tree = tree;
  node_at = nodes.node_at;
  data_at = nodes.data_at;
  net = j.net;
  delivered = j.delivered;
  entries = j.entries;
}

-- a state stays where its journal keeps all
pub stays : (tree : List TreeProcess) (nodes : NodesSight) (j k : JournalState) → SameJournal j k
    → world tree nodes k ≡ world tree nodes j
stays tree nodes j k keeps = rw (keeps.net, keeps.delivered, keeps.entries) refl

-- where a state is as it was, nothing is otherwise
pub same_as_before : (old new : WorldState) → new ≡ old → SameTree old new
same_as_before old new is =
    subst (λ w. SameTree old w) (sym is)
    (record {
      tree = refl;
      nodes = λ q. same_as_it_is (old.node_at q);
      holdings = λ q. rests (old.data_at q);
      net = refl;
      delivered = refl;
      entries = refl;
    })

-- an error that is passed on
pub passed_on : {T E : Type 0} (r : Result T E) (e : E) (P : E → Type 0)
    → IsErrAnd r (λ y. y ≡ e) → P e → IfErr r P
passed_on (Ok x) e P is p = tt
passed_on (Err y) e P is p = subst P (sym is) p

-- where there is an error, nothing is owed of what a success leaves
pub no_success : (r : Result (Unit {0}) StepError) (P : StepError → Type 0)
    (Q : Type 0) → IsErrAnd r P → OnOk r Q
no_success (Ok x) P Q is = absurd is
no_success (Err e) P Q is = tt
