-- A journal made again: the events of its entries, one after another, on one thread.
use Rattle.std.specs.Prelude.{◌≡◌, ◌⊎◌, ◌+◌, ℕ, zero, suc, Option, Some, None, List, [], ◌∷◌, ◌++◌}
use Rattle.protocol.specs.declared.names.ProcessId.{ProcessId}
use Rattle.protocol.specs.declared.events.JournalEntry.{JournalEntry}
use Rattle.protocol.specs.declared.events.Event.{Event}
use Rattle.protocol_words.specs.event
use Rattle.protocol.specs.declared.events.Happening.{Happening}
use Rattle.protocol.specs.declared.events.Happening.TheVariants.{Restart, Trim}
use Rattle.protocol_words.specs.Variants.{ActInput, Handles, MessageInput}
use Rattle.protocol.specs.declared.events.StepError.{StepError}
use Rattle.protocol.specs.declared.events.StepError.TheVariants.{Memory, Device, Exhausted}
use Rattle.protocol.specs.declared.records.LogRecord.{LogRecord}
use Rattle.protocol.specs.declared.trees.TreeProcess.{TreeProcess}
use Rattle.protocol.specs.Trees.{IsTree}
use Rattle.log_records.specs.Sights.{record_size, records_of}
use Rattle.process_state.specs.States.{CoreState}
use Rattle.tree_state.specs.Runs.{IsOpenedTree}
use Rattle.tree_state.specs.Worlds.{Applies, Stops, WorldState}
use Rattle.proof_cuts.specs.Alone.{AskForAll, EventsLeadOn}

-- how many bytes the first N of these records take
abbrev pub bytes_of_first : ℕ → List LogRecord → ℕ
bytes_of_first zero ls = 0
bytes_of_first (suc n) [] = 0
bytes_of_first (suc n) (l ∷ ls) = record_size l + bytes_of_first n ls

-- the records of a process's log that are not forced; none, if there is no such process
abbrev pub unforced_in : Option CoreState → List LogRecord
unforced_in None = []
unforced_in (Some s) = s.log.kept.unforced

-- the event that makes what happened at a process again, in a tree that stands so: a restart keeps the bytes
-- of as many records as it kept
abbrev pub AsksAgain : WorldState → ProcessId → Happening → Event → Type 0
AsksAgain w q (Handles (ActInput a)) e = e ≡ event.Act a
AsksAgain w q (Handles (MessageInput k m)) e = e ≡ event.Deliver k
AsksAgain w q (Restart n) e = e ≡ event.Restart q (Some (bytes_of_first n (unforced_in (w.node_at q))))
AsksAgain w q Trim e = e ≡ event.Trim q

-- the events of these entries were made again, from the first state to the second
pub data Again (start : WorldState) : List JournalEntry → WorldState → Type 0 where
  none_again : Again start [] start
  one_again : (xs : List JournalEntry) (x : JournalEntry) (e : Event) (mid new : WorldState)
      → Again start xs mid
      → AsksAgain mid x.step.process x.step.happening e → Applies mid e new → Again start (xs ++ x ∷ []) new

-- why an event is refused that was made before: memory, a failed device, or numbers that are used up
abbrev pub IsExcused : StepError → Type 0
IsExcused e = (e ≡ Memory) ⊎ ((e ≡ Device) ⊎ (e ≡ Exhausted))

-- the logs of a process have the same records; or there is no such process
abbrev pub HaveSame : Option CoreState → Option CoreState → Type 0
HaveSame None None = Unit {0}
HaveSame (Some c) (Some d) = records_of d.log.kept ≡ records_of c.log.kept
HaveSame _ _ = ⊥

-- Of a tree that made what was before these entries: the first of them is refused for nothing else; where
-- there are none, each process's log has the records that it has at the end.
abbrev pub ComesTo : List JournalEntry → WorldState → WorldState → Type 0
ComesTo [] end w = (q : ProcessId) → HaveSame (end.node_at q) (w.node_at q)
ComesTo (x ∷ xs) end w = (e : Event) (why : StepError) (left : WorldState)
    → AsksAgain w x.step.process x.step.happening e → Stops w e why left → IsExcused why

-- A tree opened, and made the events of these entries, which are its journal, if nothing was otherwise in
-- between. Another that has opened makes the first of them again.
abbrev pub JournalsAreMadeAgain : Type 0
JournalsAreMadeAgain = (tree : List TreeProcess) (front rest : List JournalEntry)
    (start end again w : WorldState)
    (events : List Event) → IsTree tree → IsOpenedTree start tree → AskForAll (front ++ rest) events
    → EventsLeadOn start events end → end.entries ≡ front ++ rest → IsOpenedTree again tree
    → Again again front w
    → ComesTo rest end w
