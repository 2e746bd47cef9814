-- The records that a key store writes can be in a manager's log.
use Rattle.xa_xid.specs.Xids.{XidParts}
use Rattle.protocol.specs.declared.names.Kind.TheVariants.{Manager}
use Rattle.protocol.specs.declared.records.Write.{Write}
use Rattle.std.specs.Prelude.{List}
use Rattle.log_text.specs.Parts.{name_in}
use Rattle.log_rules.specs.sound.Sound.{AreSoundWrites, IsSound, IsSoundName}
use Rattle.kv_calls.specs.declared.entries.BranchRecord.{BranchRecord}
use Rattle.kv_calls.specs.declared.entries.BranchRecord.TheVariants.{Prepared, Committed, RolledBack, Direct, HeurCommit, HeurRollback, Told, Forgot}
use Rattle.kv_calls.specs.Turns.{AreSome, IsEntry, entry_record}

sound_writes : (ws : List Write) → AreSome ws → AreSoundWrites ws
sound_writes ws some = record { some = some.1; few = some.0.few; each = some.0.each }

pub sound_entry : (e : BranchRecord) (x : XidParts) (ws : List Write)
    → IsSoundName (name_in x).0 (name_in x).1 → IsEntry e ws
    → IsSound Manager (entry_record e x ws)
sound_entry Prepared x ws name some = (name, sound_writes ws some)
sound_entry Committed x ws name some = name
sound_entry RolledBack x ws name some = name
sound_entry Direct x ws name some = (name, sound_writes ws some)
sound_entry HeurCommit x ws name some = name
sound_entry HeurRollback x ws name some = name
sound_entry (Told o) x ws name some = name
sound_entry Forgot x ws name some = name
