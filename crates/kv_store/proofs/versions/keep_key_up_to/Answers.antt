use Rattle.std.proofs.Common.{rules, ◌≡◌, Some, ap, sym, refl, ◌∙◌}
use Rattle.key_lists.proofs.Tables.{becomes, becomes_idle, found, items_in, list_at_key}
use Rattle.kv_store.specs.Versions.{up_to}
use Rattle.kv_store.proofs.versions.keep_key_up_to.Goals as goal

pub returns-in-Some : goal.returns-in-Some
returns-in-Some c =
    let had : found c.args.keys.now.entries c.args.key.now ≡ Some c.in-Some.list.now = search rules in
    becomes _ _ c.args.key.now (Some c.keep_up_to.new.versions) _ (search rules) (search rules)
    (c.keep_up_to.ensures ∙ ap (up_to c.args.count)
    (sym (list_at_key c.args.keys.now.entries c.args.key.now ∙ ap items_in had)))

pub returns-in-None : goal.returns-in-None
returns-in-None c = becomes_idle _ _ c.args.key.now (up_to c.args.count) (search rules) (search rules) refl
