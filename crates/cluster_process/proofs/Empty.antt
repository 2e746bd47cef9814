-- A journal without entries is cut.
use Rattle.std.proofs.Common.{◌≡◌, refl, List, []}
use Rattle.protocol.specs.declared.names.ProcessId.{ProcessId}
use Rattle.protocol.specs.declared.trees.TreeProcess.{TreeProcess}
use Rattle.protocol.specs.Nodes.{opened_node}
use Rattle.protocol.specs.World.{entries_of, journal_of}
use Rattle.tree_state.specs.Cuts.{begins, none_given}
use Rattle.cluster_process.specs.Locked.{HasCut}

nothing_shown : (q : ProcessId) → journal_of [] ≡ entries_of q []
unfolding entries_of journal_of
nothing_shown q = refl

pub empty_cut : (tree : List TreeProcess) → HasCut tree []
empty_cut tree = record {
  left = λ q. opened_node;
  cut = record {
    moves = λ q. [];
    made = λ q. begins;
    shown = nothing_shown;
    by_this = λ q. tt;
    given = none_given;
  };
}
