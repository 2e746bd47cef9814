use Rattle.std.proofs.Common.{◌≡◌, [], subst, true}
use Rattle.protocol.specs.Nodes.{is_listed}
use Rattle.protocol.specs.Trees.{IsTree}
use Rattle.proof_cuts.specs.Alone.{RunsAlone}
use Rattle.proof_cuts.specs.Owns.{OwnRun}
use Rattle.tree_process.specs.Nodes.{core_of, data_of}
use Rattle.tree_process.specs.Openings.{OpenedAs}
use Rattle.cluster_tree.proofs.Seating.{has_name, keeps_journal, opened_by_itself, opened_own, seat_at, sits_at}
use Rattle.cluster_tree.proofs.Apart.{listed_at}
use Rattle.cluster_tree.proofs.opening.open_seated.Goals as goal

pub seat-requires-clause-here : goal.seat-requires-clause-here
seat-requires-clause-here g c =
    sits_at _ _ _ _ _ _ c.requires.table.here c.requires.journal c.requires.table.words

pub seat-requires-clause-journal : goal.seat-requires-clause-journal
seat-requires-clause-journal g c = keeps_journal _ _ _ _ _ c.requires.journal

pub seat-requires-clause-place : goal.seat-requires-clause-place
seat-requires-clause-place g c = has_name _ _ _ _ _ _ _ c.requires.table c.requires.journal c.requires.entry.0

pub new-requires-clause-seat : goal.new-requires-clause-seat
new-requires-clause-seat g c =
    seat_at g.N.Seats.table c.args.tree.now c.args.place _ c.args.journal.now c.seat.result c.args.entry.now
    c.requires.journal c.requires.entry.0 c.requires.entry.1 c.seat.ensures.seat.1

pub new-requires-clause-tree : goal.new-requires-clause-tree
new-requires-clause-tree g c =
    let listed = listed_at c.args.tree.now c.args.place c.args.entry.now c.requires.entry.0 c.requires.entry.1
    in (
      subst IsTree c.requires.tree.1 c.requires.tree.0,
      subst (λ t. is_listed t c.args.entry.now.id ≡ true) c.requires.tree.1 listed,
    )

pub new-requires-clause-own : goal.new-requires-clause-own
new-requires-clause-own g c =
    let e = c.args.entry.now in
    let core = core_of c.in_ok-node.node in
    let held = data_of c.in_ok-node.node in
    let opened = subst (λ t. OpenedAs t e core) c.in_ok-copy.ensures c.in_ok-node.ensures.ok in (
      subst (λ t. OwnRun t e.id [] core) c.requires.tree.1
          (opened_own c.args.tree.now c.args.place e core c.requires.tree.0 c.requires.entry.0
          c.requires.entry.1
          opened),
      subst (λ t. RunsAlone t e.id [] core held) c.requires.tree.1
          (opened_by_itself c.args.tree.now c.args.place e core held c.requires.tree.0 c.requires.entry.0
          c.requires.entry.1 opened c.in_ok-node.ensures.holdings),
    )
