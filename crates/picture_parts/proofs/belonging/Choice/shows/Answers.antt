use Rattle.picture_parts.proofs.Marking.{shown_so}
use Rattle.picture_parts.proofs.belonging.Choice.shows.Goals as goal

pub returns-in-OfTxn : goal.returns-in-OfTxn
returns-in-OfTxn c =
    shown_so c.args.self.now c.in-OfTxn.txn c.args.before.now c.args.parts.now c.args.entry.now
    c.shows_txn.result
    c.in-OfTxn.is c.requires c.shows_txn.ensures
