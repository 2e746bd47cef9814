use Rattle.std.proofs.Common.{subst, sym}
use Rattle.proof_cuts.specs.Alone.{IsMine}
use Rattle.tree_state.specs.Cuts.{net_of}
use Rattle.protocol.specs.Trees.{root_of}
use Rattle.tree_process.specs.Nodes.{core_of}
use Rattle.cluster_ties.specs.Views.{entries_in}
use Rattle.cluster_process.proofs.Asked.{mine_it}
use Rattle.cluster_process.proofs.marking.mark.Goals as goal

pub returns-clause-mine : goal.returns-clause-mine
returns-clause-mine g c =
    subst (λ h. IsMine (root_of g.N.Seats.tree) c.args.me h) (sym c.in_ok-marked.ensures.1)
    (mine_it (root_of g.N.Seats.tree) c.args.me (net_of (entries_in c.place.new.self.entries))
    (core_of c.args.node.now)
    c.args.event c.in_ok-happening.happening c.in_ok-happening.keep c.requires.acts
    c.in_ok-happening.ensures.ok)
