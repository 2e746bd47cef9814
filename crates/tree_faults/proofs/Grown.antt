-- However an event ends, the journal has what it had, and what was entered after that.
use Rattle.std.proofs.Common.{◌≡◌, ◌∙◌, sym, ap, ℕ, Option, Some, None, List, [], ◌++◌, append-nil, append_assoc}
use Rattle.protocol.specs.declared.names.ProcessId.{ProcessId}
use Rattle.protocol.specs.declared.messages.Envelope.{Envelope}
use Rattle.protocol.specs.declared.events.Act.{Act}
use Rattle.protocol.specs.declared.events.JournalEntry.{JournalEntry}
use Rattle.protocol.specs.declared.events.Event.{Event}
use Rattle.protocol.specs.declared.events.Event.TheVariants.{Deliver, Settle, Restart, Trim}
use Rattle.protocol_words.specs.Variants.{ActOf}
use Rattle.protocol.specs.declared.events.StepError.{StepError}
use Rattle.protocol.specs.declared.events.StepError.TheVariants.{Memory, Device, UnknownTxn, NotAChild, Closed, Failed, NotInDoubt, NothingToForget, NoSuch, Exhausted}
use Rattle.protocol.specs.Plays.{process_of_act, sent_as}
use Rattle.protocol.specs.Trees.{root_of}
use Rattle.tree_state.specs.Worlds.{Applies, DeviceFailsUnder, NoneDelivered, NotActed, NotDelivered, NotRestartedAt, NotTrimmedAt, Stops, WorldState, least_open}
use Rattle.proof_failures.proofs.Again.{applies_again, settles_again}

-- the second has these entries more
pub record Grows (s t : WorldState) : Type 0 where
  pub entered : List JournalEntry
  pub grown : t.entries ≡ s.entries ++ entered

pub grows_not : (s t : WorldState) → t.entries ≡ s.entries → Grows s t
grows_not s t same = record { entered = []; grown = same ∙ sym (append-nil s.entries) }

pub grows_then : (s t u : WorldState) → Grows s t → Grows t u → Grows s u
grows_then s t u one two = record {
  entered = one.entered ++ two.entered;
  grown = two.grown ∙ ap (λ xs. xs ++ two.entered) one.grown ∙ append_assoc s.entries one.entered two.entered;
}

pub applied_grows : (s t : WorldState) (event : Event) → Applies s event t → Grows s t
applied_grows s t event made =
    let a = applies_again s t [] event made in record { entered = a.entered; grown = a.grown }

acted : (s t : WorldState) (q : ProcessId) (a : Act) (e : StepError) → NotActed s t q a e
    → t.entries ≡ s.entries
acted s t q a Memory h = h.entries
acted s t q a Device h = h.entries
acted s t q a UnknownTxn h = h.0.entries
acted s t q a NotAChild h = h.0.entries
acted s t q a Closed h = h.0.entries
acted s t q a NotInDoubt h = h.0.entries
acted s t q a NothingToForget h = h.0.entries
acted s t q a Failed h = h.0.entries
acted s t q a NoSuch h = h.0.entries
acted s t q a Exhausted h = h.0.entries

under : (s t : WorldState) (k : ℕ) (o : Option Envelope) → DeviceFailsUnder s t k o → t.entries ≡ s.entries
under s t k None h = absurd h
under s t k (Some l) h = h.entries

delivered : (s t : WorldState) (k : ℕ) (e : StepError) → NotDelivered s t k e → t.entries ≡ s.entries
delivered s t k Memory h = h.entries
delivered s t k Device h = under s t k (sent_as s.net k) h
delivered s t k UnknownTxn h = h.0.entries
delivered s t k NotAChild h = h.0.entries
delivered s t k Closed h = h.0.entries
delivered s t k NotInDoubt h = h.0.entries
delivered s t k NothingToForget h = h.0.entries
delivered s t k Failed h = h.0.entries
delivered s t k NoSuch h = h.0.entries
delivered s t k Exhausted h = h.0.entries

restarted : (s t : WorldState) (q : ProcessId) (bytes : Option ℕ) (e : StepError)
    → NotRestartedAt s t q bytes e
    → t.entries ≡ s.entries
restarted s t q bytes Memory h = h.entries
restarted s t q bytes Device h = h.entries
restarted s t q bytes UnknownTxn h = absurd h
restarted s t q bytes NotAChild h = absurd h
restarted s t q bytes Closed h = absurd h
restarted s t q bytes NotInDoubt h = absurd h
restarted s t q bytes NothingToForget h = absurd h
restarted s t q bytes Failed h = absurd h
restarted s t q bytes NoSuch h = h.0.entries
restarted s t q bytes Exhausted h = h.0.entries

trimmed : (s t : WorldState) (q : ProcessId) (e : StepError) → NotTrimmedAt s t q e → t.entries ≡ s.entries
trimmed s t q Memory h = h.entries
trimmed s t q Device h = h.entries
trimmed s t q UnknownTxn h = absurd h
trimmed s t q NotAChild h = absurd h
trimmed s t q Closed h = absurd h
trimmed s t q NotInDoubt h = absurd h
trimmed s t q NothingToForget h = absurd h
trimmed s t q Failed h = h.0.entries
trimmed s t q NoSuch h = h.0.entries
trimmed s t q Exhausted h = absurd h

none_delivered : (s t : WorldState) (e : StepError) (o : Option ℕ) → NoneDelivered s t e o
    → t.entries ≡ s.entries
none_delivered s t e None h = h.1.entries
none_delivered s t e (Some k) h = delivered s t k e h

pub stopped_grows : (s t : WorldState) (event : Event) (e : StepError) → Stops s event e t → Grows s t
stopped_grows s t (ActOf a) e h = grows_not s t (acted s t (process_of_act (root_of s.tree) a) a e h)
stopped_grows s t (Deliver k) e h = grows_not s t (delivered s t k e h)
stopped_grows s t Settle e h =
    let a = settles_again h.count s h.before [] h.settles in
    grows_then s h.before t (record { entered = a.entered; grown = a.grown })
    (grows_not h.before t (none_delivered h.before t e (least_open 1 h.before.delivered) h.stops))
stopped_grows s t (Restart q bytes) e h = grows_not s t (restarted s t q bytes e h)
stopped_grows s t (Trim q) e h = grows_not s t (trimmed s t q e h)
