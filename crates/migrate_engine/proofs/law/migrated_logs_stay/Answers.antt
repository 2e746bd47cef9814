use Rattle.migrate_engine.proofs.Again.{migrated_stays, same_records}
use Rattle.migrate_engine.proofs.law.migrated_logs_stay.Goals as goal

pub returns-clause-same_records : goal.returns-clause-same_records
returns-clause-same_records c = same_records

pub returns-clause-stays : goal.returns-clause-stays
returns-clause-stays c = migrated_stays
