use Rattle.std.proofs.Common.{rules, ◌≡◌, ◌∷◌, [], false, subst, sym}
use Rattle.key_lists.specs.Tables.{SameLists, table_of}
use Rattle.kv_store.specs.Versions.{Adds, AddsVersion, IsVersions, SameData, VersionTable}
use Rattle.kv_store.proofs.Stages.{adds_one, kept_same, kept_set, same_data, sets}
use Rattle.kv_store.proofs.versions.Versions.set.Goals as goal

pub invariant_of-self : goal.invariant_of-self
invariant_of-self c =
    let unstaged : c.self.inside.is_staged ≡ false = search rules in
    let kept : IsVersions c.self.inside.base c.self.inside.count false (table_of c.self.inside.keys.entries) =
    subst (λ b. IsVersions c.self.inside.base c.self.inside.count b (table_of c.self.inside.keys.entries))
    unstaged c.self.invariant in
    let stays : SameLists (table_of c.self.inside.keys.entries)
    (table_of c.push_write.new.keys.entries) = search rules in
    subst (λ b. IsVersions c.self.inside.base c.self.inside.count b
    (table_of c.push_write.new.keys.entries)) (sym unstaged)
    (kept_same _ _ _ _ kept stays)

pub invariant_of-self-2 : goal.invariant_of-self-2
invariant_of-self-2 c =
    let unstaged : c.self.inside.is_staged ≡ false = search rules in
    let kept : IsVersions c.self.inside.base c.self.inside.count false (table_of c.self.inside.keys.entries) =
    subst (λ b. IsVersions c.self.inside.base c.self.inside.count b (table_of c.self.inside.keys.entries))
    unstaged c.self.invariant in
    let one : AddsVersion (table_of c.self.inside.keys.entries)
    (table_of c.push_write.new.keys.entries) c.args.write.now.key
    (record { count = c.self.inside.count; value = c.args.write.now.value }) = search rules in
    subst (λ b. IsVersions c.self.inside.base c.self.inside.count b
    (table_of c.push_write.new.keys.entries)) (sym unstaged)
    (kept_set _ _ _ _ (c.args.write.now ∷ []) kept (adds_one _ _ _ c.args.write.now one))

pub returns-clause-ok : goal.returns-clause-ok
returns-clause-ok c =
    let unstaged : c.self.inside.is_staged ≡ false = search rules in
    let one : AddsVersion (table_of c.self.inside.keys.entries)
    (table_of c.push_write.new.keys.entries) c.args.write.now.key
    (record { count = c.self.inside.count; value = c.args.write.now.value }) = search rules in
    sets c.args.self.now _ c.args.write.now
    (subst (λ s. IsVersions s.base s.count false s.versions) c.self.view_is
    (subst (λ b. IsVersions c.self.inside.base c.self.inside.count b
    (table_of c.self.inside.keys.entries)) unstaged c.self.invariant))
    (search rules) (search rules) (search rules)
    (subst (λ s. Adds s.versions (table_of c.push_write.new.keys.entries) s.count (c.args.write.now ∷ []))
    c.self.view_is (adds_one _ _ _ c.args.write.now one))

pub returns-in_err-push_write-clause-err : goal.returns-in_err-push_write-clause-err
returns-in_err-push_write-clause-err c =
    let after : VersionTable = record {
      base = c.self.inside.base;
      count = c.self.inside.count;
      is_staged = c.self.inside.is_staged;
      versions = table_of c.push_write.new.keys.entries;
    } in
    let stays : SameLists (table_of c.self.inside.keys.entries)
    (table_of c.push_write.new.keys.entries) = search rules in
    let same : SameData c.args.self.now after =
    same_data c.args.self.now after (search rules) (search rules) (search rules)
    (subst (λ s. SameLists s.versions (table_of c.push_write.new.keys.entries)) c.self.view_is stays) in
    search rules
