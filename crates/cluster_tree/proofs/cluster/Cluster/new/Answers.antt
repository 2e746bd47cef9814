use Rattle.std.proofs.Common.{◌∙◌, subst, sym}
use Rattle.protocol.specs.Trees.{IsTree}
use Rattle.cluster_tree.specs.Opening.{IsTableOf, KeepsSeats}
use Rattle.cluster_tree.proofs.Seating.{given_is, regiven, seats_opened, table_opened}
use Rattle.cluster_tree.proofs.cluster.Cluster.new.Goals as goal

pub give_passes-requires-clause-table : goal.give_passes-requires-clause-table
give_passes-requires-clause-table g c =
    let o = c.args.opened in
    subst (λ t. IsTableOf g.N.Seats.table t o.ties.shared.table_id o.ties.shared.key.items)
    (sym c.entries.ensures)
    (table_opened _ _ _ _ _ c.requires.seats o.words)

pub give_passes-requires-clause-words : goal.give_passes-requires-clause-words
give_passes-requires-clause-words g c =
    let is = table_opened _ _ _ _ _ c.requires.seats c.args.opened.words in is.words

pub give_passes-requires-clause-journal : goal.give_passes-requires-clause-journal
give_passes-requires-clause-journal g c =
    let o = c.args.opened in
    subst (λ t. KeepsSeats g.N.Seats.table t 0 0 o.journal) (sym c.entries.ensures)
    (seats_opened _ _ _ _ _ o.journal c.requires.seats o.sits o.keeps)

pub open_all-requires-clause-tree : goal.open_all-requires-clause-tree
open_all-requires-clause-tree g c = (
  subst IsTree (sym c.entries-2.ensures) c.requires.seats.is_tree,
  c.entries-2.ensures
      ∙ c.requires.seats.tree_is,
)

pub open_all-requires-clause-table : goal.open_all-requires-clause-table
open_all-requires-clause-table g c =
    let o = c.args.opened in
    subst (λ t. IsTableOf g.N.Seats.table t o.ties.shared.table_id o.ties.shared.key.items)
    (sym c.entries-2.ensures)
    (table_opened _ _ _ _ _ c.requires.seats o.words)

pub open_all-requires-clause-journal : goal.open_all-requires-clause-journal
open_all-requires-clause-journal g c =
    let j = c.give_passes.new.journal in
    subst (λ t. KeepsSeats g.N.Seats.table t 0 j.me.0.journal.given j)
    (c.entries.ensures ∙ sym c.entries-2.ensures)
    (regiven _ _ _ _ j c.in_ok-passes.ensures.journal)

pub new-requires-clause-callers : goal.new-requires-clause-callers
new-requires-clause-callers g c =
    given_is _ _ _ _ _ c.in_ok-processes.ensures.seats ∙ given_is _ _ _ _ _ c.in_ok-passes.ensures.journal
    ∙ c.requires.callers.2
