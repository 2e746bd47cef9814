-- The records that a trim keeps, under their whole names: the last Opened, and all records of the cases and
-- branches that are not forgotten.
use Rattle.std.specs.Prelude.{◌≡◌, ◌&&◌, not, Bool, false, if◌then◌else◌, List, [], ◌∷◌, ◌++◌, fold, Option, Some, None, map}
use Rattle.std.specs.List.{list_any}
use Rattle.xa_xid.specs.declared.xid.Xid.{Xid}
use Rattle.protocol.specs.declared.records.LogRecord.{LogRecord}
use Rattle.protocol.specs.Records.{is_opened}
use Rattle.protocol.specs.LogNames.{unnamed}
use Rattle.protocol.specs.Store.{base_records, data_of}
use Rattle.log_rules.specs.declared.trim.lives.Said.{Said}
use Rattle.log_rules.specs.declared.trim.lives.Said.TheVariants.{Nothing}
use Rattle.log_rules.specs.trim.Tables.{is_live, is_prepared, lives_of, log_name, picked, said_after, same}

-- the name is this
abbrev pub is_name : Xid → Option Xid → Bool
is_name x None = false
is_name x (Some y) = same x y

-- the record is of this name
abbrev pub is_of : Xid → LogRecord → Bool
is_of x l = is_name x (log_name l)

-- what is said of a name after one more record of the log
abbrev pub said_behind : Xid → Said → LogRecord → Said
said_behind x s l = if is_of x l then said_after s l.entry else s

-- what the records of a log say of a name
unfoldable pub said_of : Xid → List LogRecord → Said
said_of x ls = fold (said_behind x) Nothing ls

-- the record is a promise of the branch of this name
abbrev pub prepares : Xid → LogRecord → Bool
prepares x l = is_of x l && is_prepared l.entry

-- a record of this name stays, where it has a name: it is live, and none of the records after promises
-- again for it
abbrev pub stays_by : List LogRecord → List LogRecord → Option Xid → Bool
stays_by ls behind None = false
stays_by ls behind (Some x) = is_live (said_of x ls) && not (list_any (prepares x) behind)

-- a record of a log stays, with these after it: its name is live, and was not prepared again after it
abbrev pub stays : List LogRecord → List LogRecord → LogRecord → Bool
stays ls behind l = stays_by ls behind (log_name l)

-- the records of a log, or of an end of it, that stay
unfoldable pub staying : List LogRecord → List LogRecord → List LogRecord
staying ls [] = []
staying ls (l ∷ behind) = if stays ls behind l then l ∷ staying ls behind else staying ls behind

-- the last Opened after one more record
abbrev pub opened_after : List LogRecord → LogRecord → List LogRecord
opened_after o l = if is_opened l.entry then l ∷ [] else o

-- the last Opened, if there is one
unfoldable pub last_opened : List LogRecord → List LogRecord
last_opened ls = fold opened_after [] ls

-- what a trim keeps of a log's records
unfoldable pub front_of_trim : List LogRecord → List LogRecord
front_of_trim ls = last_opened ls ++ staying ls ls

-- the log that a trim leaves of a manager's: what stays of its records, and its data after them as a base and
-- its pairs, keys rising
abbrev pub trim_of : List LogRecord → List LogRecord
trim_of ls = front_of_trim ls ++ map unnamed (base_records (data_of ls))

-- what the table of a log picks is what stays
abbrev pub PicksWhatStays : Type 0
PicksWhatStays = (ls : List LogRecord) → picked (lives_of ls) 0 ls ≡ staying ls ls
