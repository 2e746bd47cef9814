use Rattle.std.proofs.Common.{◌≡◌, ◌++◌, drop}
use Rattle.log_script.specs.Faults.{first_damage}
use Rattle.migrate_engine.specs.Migrations.{migrated_logs}
use Rattle.migrate_engine.proofs.engine.migrated.Given as goal

abbrev pub invariant-loop-entry : goal.invariant-loop-entry
invariant-loop-entry l =
    (l.new.items ++ migrated_logs (drop l.entry-index l.entries) l.logs ≡ migrated_logs l.entries l.logs)
    × (first_damage (drop l.entry-index l.entries) l.logs ≡ first_damage l.entries l.logs)
