-- The lines of counts.
use Rattle.std.specs.Prelude.{ℕ, nat_eq, if◌then◌else◌, List, [], ◌++◌, codes}
use Rattle.std.specs.List.{flat_map}
use Rattle.std.specs.Fmt.{decimal}
use Rattle.tree_engine.specs.declared.counts.Counts.{Counts}
use Rattle.tree_engine.specs.declared.counts.Sent.{Sent}
use Rattle.tree_engine.specs.declared.rows.ProcessCounts.{ProcessCounts}

-- a word and a number
unfoldable pub count_text : List ℕ → ℕ → List ℕ
count_text word n = word ++ decimal n

-- likewise, where the number is above 0
unfoldable pub kind_text : List ℕ → ℕ → List ℕ
kind_text word n = if nat_eq n 0 then [] else count_text word n

-- the messages that begin a case and give it work
unfoldable pub tasks_text : Sent → List ℕ
tasks_text s =
    kind_text (codes " JOIN ") s.join ++ kind_text (codes " JOINED ") s.joined
    ++ kind_text (codes " WORK ") s.work

-- the messages that ask for votes, and votes
unfoldable pub votes_text : Sent → List ℕ
votes_text s =
    kind_text (codes " PREPARE ") s.prepare ++ kind_text (codes " YES ") s.yes
    ++ kind_text (codes " NO ") s.no ++ kind_text (codes " READ ") s.read

-- the messages that tell an outcome, acknowledge it and ask for it
unfoldable pub outcomes_text : Sent → List ℕ
outcomes_text s =
    kind_text (codes " COMMIT ") s.commit ++ kind_text (codes " ABORT ") s.abort
    ++ kind_text (codes " ACK ") s.ack ++ kind_text (codes " INQUIRE ") s.inquire

-- the messages of each kind that was sent
unfoldable pub sent_text : Sent → List ℕ
sent_text s = tasks_text s ++ votes_text s ++ outcomes_text s

-- the records, the forced ones among them, and the messages
unfoldable pub totals_text : Counts → List ℕ
totals_text c =
    count_text (codes " records ") c.records ++ count_text (codes " forced ") c.forced
    ++ count_text (codes " messages ") c.messages

-- the line of a process
unfoldable pub row_text : ProcessCounts → List ℕ
row_text r =
    count_text (codes "counts ") r.process.0 ++ totals_text r.counts ++ sent_text r.counts.sent
    ++ codes "\n"

-- the lines of processes
unfoldable pub rows_text : List ProcessCounts → List ℕ
rows_text rows = flat_map row_text rows

-- the line of all processes together
unfoldable pub total_text : Counts → List ℕ
total_text c = codes "counts all" ++ totals_text c ++ sent_text c.sent ++ codes "\n"
