-- The turns of a manager: each thing that an input can lead to, with what it finds.
use Rattle.std.specs.Prelude.{◌≡◌, ℕ, true, Some, None, List, [], ◌∷◌}
use Rattle.protocol.specs.declared.names.Case.{Case}
use Rattle.protocol.specs.declared.names.ProcessId.{ProcessId}
use Rattle.protocol.specs.declared.names.Ticket.{Ticket}
use Rattle.protocol.specs.declared.names.Outcome.{Outcome}
use Rattle.protocol_words.specs.Variants.{AbortedOutcome, ActInput, CaseBranch, MessageInput, PreparedRecord, ToldRecord}
use Rattle.protocol.specs.declared.messages.Message.{Message}
use Rattle.protocol.specs.declared.messages.Message.TheVariants.{Join, Joined, Prepare, Yes, No, Read, Abort, Inquire}
use Rattle.protocol.specs.declared.messages.Envelope.{Envelope}
use Rattle.protocol.specs.declared.records.Record.TheVariants.{Forgot as ForgotRecord}
use Rattle.protocol.specs.declared.records.Write.{Write}
use Rattle.protocol.specs.declared.standings.Standing.TheVariants.{Unknown}
use Rattle.protocol.specs.declared.events.Act.TheVariants.{Ask, Decide, Forget}
use Rattle.protocol.specs.Records.{boot_of}
use Rattle.protocol.specs.Nodes.{Place, Node, kept, Heard, Effect, Written, no_effect}
use Rattle.protocol.specs.Memory.{memory_of, active_ticket, next_ticket, Open}
use Rattle.protocol.specs.Standings.{Mark, Unmarked, Promised, Decided, ToldOf, mark_of, manager_view, unknown_findings, decided_findings}
use Rattle.protocol.specs.CoordinatorRows.{forced, post, tells_outcome}
use Rattle.protocol.specs.ManagerRows.{acknowledgement, written_as, ends_record, decides_record}
use Rattle.protocol.specs.Reactions.{leaf_of}

-- what the last record of the branch says
abbrev pub mark_at : Node → Case → Mark
mark_at n d = mark_of (CaseBranch d) (kept n)

-- an effect that only writes and sends
abbrev pub writes_and_sends : List Written → List Envelope → Effect
writes_and_sends ws ls = record
    { begun = None; written = ws; told = None; messages = ls; accepts = []; counts = []; remains = None }

-- the branch has promised, and knows of no outcome
pub data Waits : Mark → Type 0 where
  promised : Waits Promised
  decided : Waits Decided

-- an operator decided the branch
pub data IsDecided : Mark → Type 0 where
  untold : IsDecided Decided
  told : (o : Outcome) → IsDecided (ToldOf o)

-- the branch has promised, and its records are not to be forgotten
pub data IsOpenBranch : Mark → Type 0 where
  waits : IsOpenBranch Promised
  by_operator : (k : Mark) → IsDecided k → IsOpenBranch k

-- nothing is known of the branch
abbrev pub IsUnknown : Place → Node → Case → Type 0
IsUnknown place n d = (manager_view place n d).standing ≡ Unknown

-- the branch is Active
pub record IsActive (place : Place) (n : Node) (d : Case) : Type 0 where
  pub unmarked : mark_at n d ≡ Unmarked
  pub is_open : (memory_of place n d).phase ≡ Open

-- the input is this message
abbrev pub Hears : Heard → Message → Type 0
Hears h m = (k : ℕ) × (h.input ≡ MessageInput k m)

-- What an input leads to at a manager.
pub data LeafTurn (place : Place) (p : ProcessId) (n : Node) (h : Heard) : Effect → Type 0 where
  does_nothing : LeafTurn place p n h no_effect
  -- JOIN is answered by the active ticket, else by a fresh one
  gives_again : (d : Case) (t : Ticket) → Hears h (Join d)
      → active_ticket (memory_of place n d).active d ≡ Some t
      → LeafTurn place p n h (writes_and_sends [] (post place.me p (Joined d t) ∷ []))
  gives_fresh : (d : Case) → Hears h (Join d) → active_ticket (memory_of place n d).active d ≡ None
      → h.data_answer.starts ≡ true
      → LeafTurn place p n h
      (writes_and_sends [] (post place.me p
      (Joined d (next_ticket place.me (boot_of (kept n)) (memory_of place n d))) ∷ []))
  -- PREPARE finds the branch Active
  votes_yes : (d : Case) (k : ℕ) (ws : List Write) → Hears h (Prepare d k) → IsActive place n d
      → LeafTurn place p n h
      (writes_and_sends (forced (PreparedRecord (CaseBranch d) ws)) (post place.me p (Yes d) ∷ []))
  votes_read : (d : Case) (k : ℕ) → Hears h (Prepare d k) → IsActive place n d
      → LeafTurn place p n h (writes_and_sends [] (post place.me p (Read d) ∷ []))
  votes_no : (d : Case) (k : ℕ) → Hears h (Prepare d k) → IsActive place n d
      → LeafTurn place p n h (writes_and_sends [] (post place.me p (No d) ∷ []))
  -- PREPARE comes again, or finds nothing
  repeats_yes : (d : Case) (k : ℕ) → Hears h (Prepare d k) → IsOpenBranch (mark_at n d)
      → LeafTurn place p n h (writes_and_sends [] (post place.me p (Yes d) ∷ []))
  refuses : (d : Case) (k : ℕ) → Hears h (Prepare d k) → IsUnknown place n d
      → LeafTurn place p n h (writes_and_sends [] (post place.me p (No d) ∷ []))
  -- an outcome finds the promise
  obeys : (d : Case) (o : Outcome) → Hears h (tells_outcome o d) → mark_at n d ≡ Promised
      → LeafTurn place p n h
      (writes_and_sends (written_as (leaf_of place p d) o (ends_record (leaf_of place p d) o))
      (acknowledgement (leaf_of place p d) o []))
  -- it finds an operator's decision, for the first time
  notes : (d : Case) (o : Outcome) → Hears h (tells_outcome o d) → mark_at n d ≡ Decided
      → LeafTurn place p n h
      (writes_and_sends (written_as (leaf_of place p d) o (ToldRecord (CaseBranch d) o))
      (acknowledgement (leaf_of place p d) o (decided_findings h.version (kept n) d o)))
  -- or again
  acknowledges_told : (d : Case) (o : Outcome) → Hears h (tells_outcome o d) → mark_at n d ≡ ToldOf o
      → LeafTurn place p n h
      (writes_and_sends [] (acknowledgement (leaf_of place p d) o (decided_findings h.version (kept n) d o)))
  -- it finds nothing
  acknowledges : (d : Case) (o : Outcome) → Hears h (tells_outcome o d) → IsUnknown place n d
      → LeafTurn place p n h
      (writes_and_sends [] (acknowledgement (leaf_of place p d) o (unknown_findings h.version d)))
  -- ABORT finds the branch Active
  drops : (d : Case) → Hears h (Abort d) → IsActive place n d
      → LeafTurn place p n h (writes_and_sends [] (acknowledgement (leaf_of place p d) AbortedOutcome []))
  -- operators
  asks : (d : Case) → h.input ≡ ActInput (Ask d) → Waits (mark_at n d)
      → LeafTurn place p n h (writes_and_sends [] (post place.me p (Inquire d) ∷ []))
  decides : (d : Case) (o : Outcome) → h.input ≡ ActInput (Decide d o) → mark_at n d ≡ Promised
      → LeafTurn place p n h (writes_and_sends (forced (decides_record (leaf_of place p d) o)) [])
  forgets : (d : Case) → h.input ≡ ActInput (Forget d) → IsDecided (mark_at n d)
      → LeafTurn place p n h (writes_and_sends (forced (ForgotRecord (CaseBranch d))) [])
