use Rattle.std.proofs.Common.{rules, ◌≡◌, ◌+◌, false, subst, sym, refl}
use Rattle.key_lists.specs.Tables.{SameLists, table_of}
use Rattle.kv_store.specs.Versions.{Adds, AddsFront, IsVersions}
use Rattle.kv_store.proofs.Stages.{kept_same, kept_staged, same_data, stages, taken_back}
use Rattle.kv_store.proofs.versions.Versions.stage.Goals as goal

pub invariant_of-self : goal.invariant_of-self
invariant_of-self c =
    let unstaged : c.self.inside.is_staged ≡ false = search rules in
    let adds : Adds (table_of c.self.inside.keys.entries) (table_of c.push_each.new.keys.entries)
    (c.self.inside.count + 1) c.args.writes.now = search rules in
    kept_staged _ _ _ _ c.args.writes.now
    (subst (λ b. IsVersions c.self.inside.base c.self.inside.count b (table_of c.self.inside.keys.entries))
    unstaged c.self.invariant) adds

pub invariant_of-self-in-Err : goal.invariant_of-self-in-Err
invariant_of-self-in-Err c =
    let unstaged : c.self.inside.is_staged ≡ false = search rules in
    let kept : IsVersions c.self.inside.base c.self.inside.count false (table_of c.self.inside.keys.entries) =
    subst (λ b. IsVersions c.self.inside.base c.self.inside.count b (table_of c.self.inside.keys.entries))
    unstaged c.self.invariant in
    let some : AddsFront (table_of c.self.inside.keys.entries) (table_of c.push_each.new.keys.entries)
    (c.self.inside.count + 1) c.args.writes.now = search rules in
    subst (λ b. IsVersions c.self.inside.base c.self.inside.count b
    (table_of c.take_back.new.keys.entries)) (sym unstaged)
    (kept_same _ _ _ _ kept (taken_back _ _ _ c.self.inside.count c.args.writes.now
    (kept.settled refl) some c.take_back.ensures))

pub returns-in-Ok-clause-ok : goal.returns-in-Ok-clause-ok
returns-in-Ok-clause-ok c =
    let unstaged : c.self.inside.is_staged ≡ false = search rules in
    let adds : Adds (table_of c.self.inside.keys.entries) (table_of c.push_each.new.keys.entries)
    (c.self.inside.count + 1) c.args.writes.now = search rules in
    stages c.args.self.now _ c.args.writes.now
    (subst (λ s. IsVersions s.base s.count false s.versions) c.self.view_is
    (subst (λ b. IsVersions c.self.inside.base c.self.inside.count b
    (table_of c.self.inside.keys.entries)) unstaged c.self.invariant))
    (search rules) (search rules) refl
    (subst (λ s. Adds s.versions (table_of c.push_each.new.keys.entries) (s.count + 1)
    c.args.writes.now) c.self.view_is adds)

pub returns-in-Err-clause-err : goal.returns-in-Err-clause-err
returns-in-Err-clause-err c =
    let unstaged : c.self.inside.is_staged ≡ false = search rules in
    let kept : IsVersions c.self.inside.base c.self.inside.count false (table_of c.self.inside.keys.entries) =
    subst (λ b. IsVersions c.self.inside.base c.self.inside.count b (table_of c.self.inside.keys.entries))
    unstaged c.self.invariant in
    let some : AddsFront (table_of c.self.inside.keys.entries) (table_of c.push_each.new.keys.entries)
    (c.self.inside.count + 1) c.args.writes.now = search rules in
    same_data c.args.self.now _ (search rules) (search rules) (search rules)
    (subst (λ s. SameLists s.versions (table_of c.take_back.new.keys.entries)) c.self.view_is
    (taken_back _ _ _ c.self.inside.count c.args.writes.now (kept.settled refl) some c.take_back.ensures))
