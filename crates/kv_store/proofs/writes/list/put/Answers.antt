use Rattle.std.proofs.Common.{rules, ◌≡◌, ◌∙◌, ◌++◌, ◌∷◌, []}
use Rattle.kv_store.proofs.writes.Lists.{put_at, put_behind}
use Rattle.kv_store.proofs.writes.list.put.Goals as goal

pub returns-in-Some : goal.returns-in-Some
returns-in-Some c = put_at c.args.list.now.items c.args.write.key c.args.write.value
    c.in-Some.place (search rules)

pub returns-in-None : goal.returns-in-None
returns-in-None c =
    let pushed : c.push.new.self.items ≡ c.args.list.now.items ++ c.args.write ∷ [] = search rules in
    pushed ∙ put_behind c.args.list.now.items c.args.write.key c.args.write.value (search rules)
