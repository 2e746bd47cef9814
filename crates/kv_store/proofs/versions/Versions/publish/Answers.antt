use Rattle.std.proofs.Common.{rules, ◌≡◌, true, subst}
use Rattle.key_lists.specs.Tables.{table_of}
use Rattle.kv_store.specs.Versions.{IsVersions}
use Rattle.kv_store.proofs.Tables.{kept_published}
use Rattle.kv_store.proofs.versions.Versions.publish.Goals as goal

pub invariant_of-self : goal.invariant_of-self
invariant_of-self c =
    let staged : c.self.inside.is_staged ≡ true = search rules in
    kept_published c.self.inside.base c.self.inside.count (table_of c.self.inside.keys.entries)
    (subst (λ b. IsVersions c.self.inside.base c.self.inside.count b
    (table_of c.self.inside.keys.entries)) staged c.self.invariant)
