-- What a process writes into its log.
use Rattle.std.proofs.Common.{◌≡◌, ◌++◌, [], if◌then◌else◌, Bool, true, false, List, refl}
use Rattle.protocol.specs.declared.records.LogRecord.{LogRecord}
use Rattle.protocol.specs.Nodes.{Written, is_any_forced}
use Rattle.log_records.specs.Sights.{LogSight, records_of}
use Rattle.process_state.specs.States.{wrote}

-- the log is that of the same process
pub wrote_form : (l : LogSight) (ws : List Written) (ls : List LogRecord) → (wrote l ws ls).form ≡ l.form
wrote_form l ws ls = by_force (is_any_forced ws)
  where
    by_force : (b : Bool)
        → (if b then record l {
          kept = record { forced = records_of l.kept ++ ls; unforced = [] };
          behind = 0;
        }
        else record l { kept = record { forced = l.kept.forced; unforced = l.kept.unforced ++ ls } }).form
        ≡ l.form
    by_force true = refl
    by_force false = refl
