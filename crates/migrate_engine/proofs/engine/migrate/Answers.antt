use Rattle.std.proofs.Common.{◌≡◌, ◌∙◌, ℕ, List, refl, subst, sym}
use Rattle.log_rules.specs.sound.Written.{AreBytes}
use Rattle.log_rules.proofs.sound.Cuts.{bytes_behind}
use Rattle.log_script.specs.Lines.{process_log}
use Rattle.log_records.specs.Openings.{is_old}
use Rattle.migrate_engine.specs.Migrations.{MigratesTo, NotMigrated}
use Rattle.migrate_engine.proofs.Migrated.{migrates, not_migrated}
use Rattle.migrate_engine.proofs.engine.migrate.Goals as goal

pub returns-in_ok-copy_of-in-Ok-clause-ok : goal.returns-in_ok-copy_of-in-Ok-clause-ok
returns-in_ok-copy_of-in-Ok-clause-ok c =
    let e = c.args.entry.now in
    let old : List ℕ = c.from_bytes-store.result.bytes.items in
    let new : List ℕ = c.in-Ok.store.bytes.items in
    let stood : old ≡ c.args.bytes.now = c.from_bytes-store.ensures.text ∙ c.in_ok-copy_of.ensures.ok in
    let copied : c.from_vec.result ≡ new =
    c.from_vec.ensures ∙ c.in_ok-copy_of-in-Ok.ensures.ok ∙ c.bytes.ensures in
    let are : AreBytes new = subst AreBytes c.bytes.ensures c.copy_of-in-Ok.ensures.bytes in
    subst (λ bs. MigratesTo e bs (process_log e.id c.from_vec.result)) stood
    (subst (λ bs. MigratesTo e old (process_log e.id bs)) (sym copied)
    (migrates e old new (is_old old) _ _ _ _ (bytes_behind 5 new are) refl c.in-Ok.ensures.ok))

pub returns-in-Err-clause-err : goal.returns-in-Err-clause-err
returns-in-Err-clause-err c =
    subst (λ bs. NotMigrated c.args.entry.now bs c.in-Err.error)
    (c.from_bytes-store.ensures.text ∙ c.in_ok-copy_of.ensures.ok)
    (not_migrated _ _ c.args.entry.now c.from_bytes-store.result c.in-Err._store c.in-Err.error
    c.in-Err.ensures.err)
