use Rattle.std.proofs.Common.{rules, ◌≡◌, Some, None, [], ◌∷◌, ◌++◌, ap, sym, ◌∙◌}
use Rattle.key_lists.specs.Tables.{Becomes, list_at, table_of}
use Rattle.key_lists.proofs.Tables.{becomes, found, items_in, list_at_key}
use Rattle.kv_store.proofs.Stages.{same_lists}
use Rattle.kv_store.proofs.versions.push.Goals as goal

pub returns-in_err-push-in-Some-clause-err : goal.returns-in_err-push-in-Some-clause-err
returns-in_err-push-in-Some-clause-err c =
    let had : found c.args.keys.now.entries c.args.key.now ≡ Some c.in-Some.list.now = search rules in
    let stays : c.push.new.self.items ≡ c.in-Some.list.now.items = search rules in
    let one : Becomes (table_of c.args.keys.now.entries) (table_of (c.get_mut.follows.lender
    c.push.new.self).entries) c.args.key.now (list_at (table_of c.args.keys.now.entries) c.args.key.now) =
    becomes _ _ c.args.key.now (Some c.push.new.self) _ (search rules) (search rules)
    (stays ∙ sym (list_at_key c.args.keys.now.entries c.args.key.now ∙ ap items_in had)) in
    let same = same_lists _ _ c.args.key.now one in
    search rules

pub returns-in_ok-push-in-Some-clause-ok : goal.returns-in_ok-push-in-Some-clause-ok
returns-in_ok-push-in-Some-clause-ok c =
    let had : found c.args.keys.now.entries c.args.key.now ≡ Some c.in-Some.list.now = search rules in
    let pushed : c.push.new.self.items ≡ c.in-Some.list.now.items ++ c.args.version ∷ [] = search rules in
    becomes _ _ c.args.key.now (Some c.push.new.self) _ (search rules) (search rules)
    (pushed ∙ ap (λ vs. vs ++ c.args.version ∷ [])
    (sym (list_at_key c.args.keys.now.entries c.args.key.now ∙ ap items_in had)))

pub returns-in_ok-insert-in-None-clause-ok : goal.returns-in_ok-insert-in-None-clause-ok
returns-in_ok-insert-in-None-clause-ok c =
    let none : found c.args.keys.now.entries c.args.key.now ≡ None = search rules in
    let nothing : list_at (table_of c.args.keys.now.entries) c.args.key.now ≡ [] =
    list_at_key c.args.keys.now.entries c.args.key.now ∙ ap items_in none in
    let pushed : c.push-in-None.new.self.items ≡ c.args.version ∷ [] = search rules in
    becomes _ _ c.args.key.now (Some c.push-in-None.new.self) _ (search rules) (search rules)
    (pushed ∙ ap (λ vs. vs ++ c.args.version ∷ []) (sym nothing))
