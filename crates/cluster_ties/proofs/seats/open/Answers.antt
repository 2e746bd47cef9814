use Rattle.std.proofs.Common.{◌∙◌, ap, arith, length, subst, sym}
use Rattle.cluster_ties.proofs.Moves
use Rattle.cluster_ties.proofs.seats.open.Goals as goal

pub of_words-requires : goal.of_words-requires
of_words-requires c = Moves.begins c.args.names.now.items c.requires
