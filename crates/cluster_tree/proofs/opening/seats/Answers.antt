use Rattle.std.proofs.Common.{◌∙◌, ap, subst, sym}
use Rattle.cluster_ties.specs.Rule.{AreApartProcesses}
use Rattle.cluster_tree.specs.Opening.{names_of}
use Rattle.cluster_tree.proofs.Apart.{names_apart, tree_apart}
use Rattle.cluster_tree.proofs.opening.seats.Goals as goal

pub open-requires : goal.open-requires
open-requires c =
    subst AreApartProcesses (sym (c.in_ok-names.ensures ∙ ap names_of c.entries.ensures))
    (names_apart c.args.tree.now (tree_apart c.args.tree.now c.requires))
