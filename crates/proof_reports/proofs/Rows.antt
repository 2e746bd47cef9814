-- What a coordinator's input writes: at most one record, and where its case stood then.
use Rattle.std.proofs.Common.{◌≡◌, ◌∙◌, ◌⊎◌, inl, inr, Bool, true, false, Option, None, List, [], ◌∷◌, refl, ap}
use Rattle.protocol.specs.declared.names.Case.{Case}
use Rattle.protocol.specs.declared.names.Outcome.{Outcome}
use Rattle.protocol_words.specs.Variants.{AbortRecord, AbortedOutcome, ClearedRecord, CollectingRecord, CommitRecord, CommittedOutcome, EndRecord, PrepareRecord}
use Rattle.protocol.specs.declared.names.ProcessId.{ProcessId}
use Rattle.protocol.specs.declared.names.Presumption.TheVariants.{PresumeAbort, PresumeCommit}
use Rattle.protocol.specs.declared.names.Ticket.{Ticket}
use Rattle.protocol.specs.declared.records.Record.{Record}
use Rattle.protocol.specs.declared.records.Reports.{Reports}
use Rattle.protocol.specs.declared.standings.Standing.TheVariants.{Active, Collecting, Prepared}
use Rattle.protocol.specs.Nodes.{Effect, Heard, Node, Place, Written}
use Rattle.protocol.specs.CoordinatorRows.{Row}
use Rattle.protocol.specs.Standings.{coordinator_view}
use Rattle.proof_pairs.specs.readings.ReadingOf.{acknowledged}
use Rattle.proof_pairs.specs.turns.CoordinatorTurns.{CaseTurn, CoordinatorTurn, aborts, accepts, acknowledges, clears, answers, asks, asks_for_votes, begins, commits, counts_vote, does_nothing, ends, finds_nobody, gives_again, gives_fresh, gives_up, hears_no, invites, of_case, passes_abort, passes_commit, presumes, promises, reads_only, refuses, repeats_yes, rests, sends_work, waits_for_acks}

-- a Commit of the case, or an Abort
abbrev pub decision : Outcome → Case → List Ticket → Record
decision CommittedOutcome c ts = CommitRecord c ts
decision AbortedOutcome c ts = AbortRecord c ts

-- where a case stands as it decides: it collects votes, or it has promised, and names whom it promised for,
-- or nobody
pub data DecidesFrom (place : Place) (n : Node) (c : Case) : List Ticket → Type 0 where
  from_votes : (ts : List Ticket) → (coordinator_view place n c).standing ≡ Collecting
      → DecidesFrom place n c ts
  from_promise : (coordinator_view place n c).standing ≡ Prepared
      → DecidesFrom place n c (coordinator_view place n c).promised
  for_nobody : (coordinator_view place n c).standing ≡ Prepared → DecidesFrom place n c []

-- what is written of a case
pub data Writes (place : Place) (n : Node) (c : Case) : List Written → Type 0 where
  nothing : Writes place n c []
  ended : (r : Option Reports) (b : Bool)
      → Writes place n c (record { entry = EndRecord c r; is_forced = b } ∷ [])
  cleared : (b : Bool) → Writes place n c (record { entry = ClearedRecord c; is_forced = b } ∷ [])
  collected : (b : Bool) → (coordinator_view place n c).standing ≡ Active
      → Writes place n c
      (record { entry = CollectingRecord c (coordinator_view place n c).accepted; is_forced = b } ∷ [])
  promised : (ys : List Ticket) (b : Bool) → (coordinator_view place n c).standing ≡ Collecting
      → Writes place n c (record { entry = PrepareRecord c ys; is_forced = b } ∷ [])
  decided : (o : Outcome) (ts : List Ticket) (b : Bool) → DecidesFrom place n c ts
      → (o ≡ acknowledged c.txn.presumption → b ≡ true)
      → Writes place n c (record { entry = decision o c ts; is_forced = b } ∷ [])

module _ (place : Place) (parent : Option ProcessId) (n : Node) (h : Heard) where
  -- the decision that is not acknowledged need not be forced
  abort_plain : (c : Case) → c.txn.presumption ≡ PresumeAbort
      → AbortedOutcome ≡ acknowledged c.txn.presumption → false ≡ true
  abort_plain c f e = absurd (let g = e ∙ ap acknowledged f in cc)

  commit_plain : (c : Case) → c.txn.presumption ≡ PresumeCommit
      → CommittedOutcome ≡ acknowledged c.txn.presumption → false ≡ true
  commit_plain c f e = absurd (let g = e ∙ ap acknowledged f in cc)

  case_writes : (c : Case) (row : Row) → CaseTurn place parent n h c row → Writes place n c row.written
  case_writes c _ (rests r) = nothing
  case_writes c _ (invites q i e f a) = nothing
  case_writes c _ (accepts t i e f) = nothing
  case_writes c _ (sends_work q t op i e f a) = nothing
  case_writes c _ (finds_nobody i e f) = nothing
  case_writes c _ (asks_for_votes PresumeAbort i e f a) = nothing
  case_writes c _ (asks_for_votes PresumeCommit i e f a) = collected true e
  case_writes c _ (gives_up why p i e f) = nothing
  case_writes c _ (counts_vote t w i f e) = nothing
  case_writes c _ (reads_only t w ys PresumeAbort i e f) = nothing
  case_writes c _ (reads_only t w ys PresumeCommit i e f) = ended None false
  case_writes c _ (commits t w ys PresumeAbort i e f a) =
      decided CommittedOutcome ys true (from_votes ys i.vote.stands) (λ g. refl)
  case_writes c _ (commits t w ys PresumeCommit i e f a) =
      decided CommittedOutcome [] true (from_votes [] i.vote.stands) (λ g. refl)
  case_writes c _ (promises t w ys p i e f) = promised ys true i.vote.stands
  case_writes c _ (hears_no t us PresumeAbort i e f) =
      decided AbortedOutcome [] false (from_votes [] i.stands) (abort_plain c f)
  case_writes c _ (hears_no t us PresumeCommit i e f) =
      decided AbortedOutcome us true (from_votes us i.stands) (λ g. refl)
  case_writes c _ (aborts why us PresumeAbort i e f a) =
      decided AbortedOutcome [] false (from_votes [] e) (abort_plain c a)
  case_writes c _ (aborts why us PresumeCommit i e f a) =
      decided AbortedOutcome us true (from_votes us e) (λ g. refl)
  case_writes c _ (passes_commit PresumeAbort i e f) =
      decided CommittedOutcome (coordinator_view place n c).promised true (from_promise e) (λ g. refl)
  case_writes c _ (passes_commit PresumeCommit i e f) =
      decided CommittedOutcome [] false (for_nobody e) (commit_plain c f)
  case_writes c _ (passes_abort PresumeAbort i e f) =
      decided AbortedOutcome [] false (for_nobody e) (abort_plain c f)
  case_writes c _ (passes_abort PresumeCommit i e f) =
      decided AbortedOutcome (coordinator_view place n c).promised true (from_promise e) (λ g. refl)
  case_writes c _ (repeats_yes j i e) = nothing
  case_writes c _ (asks i e) = nothing
  case_writes c _ (refuses j i e) = nothing
  case_writes c _ (acknowledges o fs i e) = nothing
  case_writes c _ (waits_for_acks t o fs i e f a) = nothing
  case_writes c _ (ends t o fs i e f a) = ended _ _
  case_writes c _ (clears i e f a) = cleared true
  case_writes c _ (answers t o i e) = nothing

-- what is written is of one case
pub record OneCase (place : Place) (n : Node) (ws : List Written) : Type 0 where
  pub of : Case
  pub writes : Writes place n of ws

pub turn_writes : (place : Place) (parent : Option ProcessId) (n : Node) (h : Heard) (e : Effect)
    → CoordinatorTurn place parent n h e → (e.written ≡ []) ⊎ OneCase place n e.written
turn_writes place parent n h _ (of_case c row t) =
    inr (record { of = c; writes = case_writes place parent n h c row t })
turn_writes place parent n h _ (does_nothing i) = inl refl
turn_writes place parent n h _ (begins p a i) = inl refl
turn_writes place parent n h _ (gives_again p d t a i e) = inl refl
turn_writes place parent n h _ (gives_fresh p d a i e) = inl refl
turn_writes place parent n h _ (presumes x t i e) = inl refl
