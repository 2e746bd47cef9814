use Rattle.std.proofs.Common.{rules, ◌≡◌, Some, None, ap, ◌∙◌, sym}
use Rattle.std.specs.Map.{lookup}
use Rattle.protocol.specs.contracts.names.TxnPartialEq.TheImpl as txns
use Rattle.case_table.specs.Tables.{entry_at, is_key, is_of_txn, listed, place_in}
use Rattle.case_table.proofs.Places.{list_at, unlisted}
use Rattle.case_table.proofs.table.LiveTable.keys.Goals as goal

pub returns-in-None : goal.returns-in-None
unfolding is_key
returns-in-None g c = λ k.
    let at : place_in c.self.inside.keys.entries c.args.txn.now ≡ None = search rules in
    sym (ap (λ found. listed found k) (unlisted c.self.inside.keys.entries c.args.txn.now at))
    ∙ c.self.invariant.agrees c.args.txn.now k
    ∙ ap (λ slots. is_of_txn c.args.txn.now (entry_at slots k)) c.self.view_is

pub returns-in-Some : goal.returns-in-Some
returns-in-Some g c = λ k.
    let at : place_in c.self.inside.keys.entries c.args.txn.now ≡ Some c.in-Some.place = search rules in
    let had : lookup (txns.ghosts.eq c.args.txn.now) c.self.inside.keys.entries ≡ Some c.index.result.now =
    list_at c.self.inside.keys.entries c.args.txn.now c.in-Some.place c.index.result.now at (search rules) in
    ap (λ ks. is_key ks k) c.as_slice.ensures ∙ sym (ap (λ found. listed found k) had)
    ∙ c.self.invariant.agrees c.args.txn.now k
    ∙ ap (λ slots. is_of_txn c.args.txn.now (entry_at slots k)) c.self.view_is
