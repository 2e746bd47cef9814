use Rattle.std.proofs.Common.{◌∙◌}
use Rattle.std.specs.Int.{w8}
use Rattle.std.proofs.Math.Facts.{Fits-lt-pow}
use Rattle.log_text.proofs.xids.BranchLaws.{ticket_again, number_first, number_behind, ticket_is, ticket_spells}
use Rattle.log_text.proofs.xids.branches.ticket_read.Goals as goal

pub returns-clause-all : goal.returns-clause-all
returns-clause-all c = λ b fits e.
    let read = ticket_again b fits in
    ticket_is _ _ _ _ b
    (c.read_u32-2.ensures ∙ number_first 4 _ _ _ e read.parent)
    (c.read_u32.ensures ∙ number_behind 4 4 _ _ _ e read.child)
    (c.read_u64.ensures ∙ number_behind 8 8 _ _ _ e read.boot)
    (c.read_u64-2.ensures ∙ number_behind 8 16 _ _ _ e read.number)

pub returns-clause-spelled : goal.returns-clause-spelled
returns-clause-spelled c =
    ticket_spells c.args.name.now _ _ _ _ (λ k. Fits-lt-pow {w = w8} (c.type_inv.name k)) c.requires
    c.read_u32-2.ensures c.read_u32.ensures c.read_u64.ensures c.read_u64-2.ensures
