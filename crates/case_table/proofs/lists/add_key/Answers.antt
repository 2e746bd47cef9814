use Rattle.std.proofs.Common.{rules, Result, Ok, Err, OnErr, ◌≡◌, ◌==◌, ◌||◌, Some, None, ap, ◌∙◌, sym}
use Rattle.std.specs.Map.{lookup}
use Rattle.protocol.specs.contracts.names.TxnPartialEq.TheImpl as txns
use Rattle.case_table.specs.Tables.{is_key, listed, place_in}
use Rattle.case_table.proofs.Keys.{is_key-push, listed-added}
use Rattle.case_table.proofs.Places.{adds_here, same_here, unlisted}
use Rattle.case_table.proofs.lists.add_key.Goals as goal

pub returns-in_ok-push-in-Some-clause-ok : goal.returns-in_ok-push-in-Some-clause-ok
returns-in_ok-push-in-Some-clause-ok c =
    let at : place_in c.args.keys.now.entries c.args.txn ≡ Some c.in-Some.place = search rules in
    adds_here c.args.keys.now c.args.txn c.in-Some.place c.index_mut.result.now c.push.new.self
    c.args.key c.place_of.ensures.once at c.index_mut.ensures.value c.in_ok-push-in-Some.ensures.ok

pub returns-in_ok-insert-in-None-clause-ok : goal.returns-in_ok-insert-in-None-clause-ok
unfolding is_key
returns-in_ok-insert-in-None-clause-ok c =
    let at : place_in c.args.keys.now.entries c.args.txn ≡ None = search rules in
    let none : lookup (txns.ghosts.eq c.args.txn) c.args.keys.now.entries ≡ None =
    unlisted c.args.keys.now.entries c.args.txn at in
    listed-added c.args.txn _ _ c.push-in-None.new.self c.args.key (search rules) (λ k.
    ap (λ ks. is_key ks k) c.in_ok-push-in-None.ensures.ok ∙ is_key-push _ _ k
    ∙ ap (λ ks. is_key ks k || (c.args.key == k)) c.new-list.ensures.items
    ∙ sym (ap (λ found. listed found k || (c.args.key == k)) none))

on_err : {A B : Type 0} (P : Type 0) (r : Result A B) → P → OnErr r P
on_err P (Ok a) p = tt
on_err P (Err e) p = p

pub returns-in_err-push-in-Some-clause-err : goal.returns-in_err-push-in-Some-clause-err
returns-in_err-push-in-Some-clause-err c =
    let at : place_in c.args.keys.now.entries c.args.txn ≡ Some c.in-Some.place = search rules in
    on_err _ c.from_residual.result
    (same_here c.args.keys.now c.args.txn c.in-Some.place c.index_mut.result.now c.push.new.self
    c.args.key c.place_of.ensures.once at c.index_mut.ensures.value c.in_err-push-in-Some.ensures.err)
