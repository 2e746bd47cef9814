use Rattle.std.proofs.Common.{rules, ◌≡◌, false, refl, subst, sym}
use Rattle.key_lists.specs.Tables.{table_of}
use Rattle.kv_store.specs.Versions.{IsVersions, Rebases, VersionTable}
use Rattle.kv_store.proofs.Rebasing.{kept_rebased, values_stay}
use Rattle.kv_store.proofs.versions.Versions.rebase.Goals as goal

pub invariant_of-self : goal.invariant_of-self
invariant_of-self c =
    let unstaged : c.self.inside.is_staged ≡ false = search rules in
    let kept : IsVersions c.self.inside.base c.self.inside.count false (table_of c.self.inside.keys.entries) =
    subst (λ b. IsVersions c.self.inside.base c.self.inside.count b (table_of c.self.inside.keys.entries))
    unstaged c.self.invariant in
    subst (λ b. IsVersions c.self.inside.count c.self.inside.count b
    (table_of c.keep_last_of_each.new.keys.entries)) (sym unstaged)
    (kept_rebased c.self.inside.keys.entries (table_of c.keep_last_of_each.new.keys.entries)
    c.self.inside.count
    c.keep_last_of_each.ensures.once c.keep_last_of_each.ensures.kept c.self.inside.base kept)

pub returns-clause-rebases : goal.returns-clause-rebases
returns-clause-rebases c =
    let unstaged : c.self.inside.is_staged ≡ false = search rules in
    let kept : IsVersions c.self.inside.base c.self.inside.count false (table_of c.self.inside.keys.entries) =
    subst (λ b. IsVersions c.self.inside.base c.self.inside.count b (table_of c.self.inside.keys.entries))
    unstaged c.self.invariant in
    let after : VersionTable = record {
      base = c.self.inside.count;
      count = c.self.inside.count;
      is_staged = c.self.inside.is_staged;
      versions = table_of c.keep_last_of_each.new.keys.entries;
    } in
    subst (λ s. Rebases s after) c.self.view_is (record {
      base = refl;
      count = refl;
      is_staged = unstaged;
      values = values_stay c.self.inside.keys.entries (table_of c.keep_last_of_each.new.keys.entries)
          c.self.inside.count c.keep_last_of_each.ensures.once c.keep_last_of_each.ensures.kept
          c.self.inside.base
          kept;
    })
