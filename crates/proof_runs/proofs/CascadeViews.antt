-- The rows of a coordinator below the root, over records and what is remembered: the view that a row gives
-- is what the extended lists read as.
use Rattle.std.proofs.Common.{◌≡◌, ◌∙◌, Bool, true, false, not, ◌||◌, if◌then◌else◌, Some, List, [], ◌∷◌, ◌++◌, refl, sym, ap}
use Rattle.protocol.specs.declared.names.Case.{Case}
use Rattle.protocol.specs.declared.names.Outcome.{Outcome}
use Rattle.protocol_words.specs.Variants.{AbortedOutcome, CommittedOutcome}
use Rattle.protocol.specs.declared.names.Presumption.{Presumption}
use Rattle.protocol.specs.declared.names.Presumption.TheVariants.{PresumeAbort, PresumeCommit}
use Rattle.protocol.specs.declared.names.ProcessId.{ProcessId}
use Rattle.protocol.specs.declared.names.Ticket.{Ticket}
use Rattle.protocol.specs.declared.records.Record.{Record}
use Rattle.protocol.specs.declared.standings.Standing.{Standing}
use Rattle.protocol.specs.declared.standings.Standing.TheVariants.{Active, Collecting, Prepared}
use Rattle.protocol.specs.declared.standings.Vote.{Vote}
use Rattle.protocol.specs.declared.standings.Vote.TheVariants.{Yes, No, Read}
use Rattle.protocol.specs.Names.{same_ticket}
use Rattle.protocol.specs.NameLaws.{same_ticket-refl}
use Rattle.protocol.specs.Records.{has, in_list, is_abort, is_collecting, is_commit, is_end, is_prepare, none_of, owing_by, promised_by}
use Rattle.protocol.specs.Nodes.{Version, entries_written}
use Rattle.protocol.specs.Memory.{Asked, Memory, Over, all_voted, found_of, has_acked, is_counted, undecided_of, with_vote, yes_of}
use Rattle.protocol.specs.Standings.{CoordinatorView, standing_by, still_owed, view_at}
use Rattle.protocol.specs.CoordinatorRows.{ByVote, Reason, Seat, cascaded_prepares, collecting_abort_by, collecting_after, collecting_full, collecting_read_only, collecting_vote, decides, prepared_abort_by, prepared_commit_by, quiet}
use Rattle.proof_model.proofs.AckLaws.{found_nobody}
use Rattle.proof_model.proofs.RootRowLaws.{CollectingFacts, collecting_abort_pure, commit_pure, commit_row, read_only_pure, same_pure}
use Rattle.proof_model.proofs.StandingLaws.{ActiveFacts, standing_with}
use Rattle.proof_model.proofs.TicketLaws.{pushed}

-- a coordinator in this case, below this parent
abbrev pub seat_below : ProcessId → ProcessId → Case → Seat
seat_below me p c = record { me = me; parent = Some p; own = c }

-- Prepared.

pub record PreparedFacts (E C A P : Bool) : Type 0 where
  pub no_end : E ≡ false
  pub no_commit : C ≡ false
  pub no_abort : A ≡ false
  pub prepared : P ≡ true

pub prepared_facts : (E C A P K N : Bool) (hs : Standing) → (hs ≡ Prepared → ⊥)
    → standing_by E C A P K N hs ≡ Prepared
    → PreparedFacts E C A P
prepared_facts true C A P K N hs d e = absurd (cc)
prepared_facts false true A P K true hs d e = absurd (cc)
prepared_facts false true A P K false hs d e = absurd (cc)
prepared_facts false false true P K true hs d e = absurd (cc)
prepared_facts false false true P K false hs d e = absurd (cc)
prepared_facts false false false true K N hs d e =
    record { no_end = refl; no_commit = refl; no_abort = refl; prepared = refl }
prepared_facts false false false false true N hs d e = absurd (cc)
prepared_facts false false false false false N hs d e = absurd (d e)

in_first : (t : Ticket) (ts : List Ticket) → in_list (t ∷ ts) t ≡ true
unfolding in_list
in_first t ts = rw (same_ticket-refl t) refl

in_later : (u t : Ticket) (ts : List Ticket) → in_list ts t ≡ true → in_list (u ∷ ts) t ≡ true
unfolding in_list
in_later u t ts e = either (same_ticket u t) e
  where
    either : {b : Bool} (a : Bool) → b ≡ true → (a || b) ≡ true
    either true e = refl
    either false e = e

-- whom nobody has acknowledged all owe
pub all_still : (acks : List (Ticket × Outcome)) (o : Outcome) (ts : List Ticket)
    → ((t : Ticket) → in_list ts t ≡ true → has_acked acks o t ≡ false)
    → still_owed acks o ts ≡ ts
unfolding still_owed
all_still acks o [] none = refl
all_still acks o (t ∷ ts) none =
    ap (λ b. if not b then t ∷ still_owed acks o ts else still_owed acks o ts) (none t (in_first t ts))
    ∙ ap (λ us. t ∷ us) (all_still acks o ts (λ u e. none u (in_later t u ts e)))

module _ (me p : ProcessId) (c : Case) (rs : List Record) where
  abbrev seat : Seat
  seat = seat_below me p c

  -- what a case that collects votes is known by
  abbrev pub Collects : Type 0
  Collects = CollectingFacts (has (is_end c) rs) (has (is_commit c) rs)
      (has (is_abort c) rs) (has (is_prepare c) rs)

  abbrev pub Promised : Type 0
  Promised = PreparedFacts (has (is_end c) rs) (has (is_commit c) rs)
      (has (is_abort c) rs) (has (is_prepare c) rs)

  -- the view of the case with this presumption
  abbrev reads : Presumption → List Record → Memory → CoordinatorView
  reads q xs m = view_at (standing_with q xs c m) xs c m

  -- PREPARE at an Active case

  pub asks_reads : (q : Presumption) (b : Bool) (m : Memory)
      → ActiveFacts (has (is_end c) rs) (has (is_commit c) rs) (has (is_abort c) rs) (has (is_prepare c) rs)
      (has (is_collecting c) rs) Active
      → let row = commit_row seat (view_at Active rs c m) q b in
      let m' : Memory =
      record m { phase = if b then Over else Asked } in reads q
      (rs ++ entries_written row.written) m' ≡ row.view
  asks_reads PresumeAbort true m f = commit_pure me c PresumeAbort true rs m f
  asks_reads PresumeCommit true m f = commit_pure me c PresumeCommit true rs m f
  asks_reads PresumeAbort false m f = commit_pure me c PresumeAbort false rs m f
  asks_reads PresumeCommit false m f = commit_pure me c PresumeCommit false rs m f

  -- an abort of a case that collects votes

  pub aborts_reads : (q : Presumption) (why : Reason) (us : List Ticket) (m : Memory)
      → Collects → owing_by c rs ≡ []
      → m.acks ≡ [] → m.found ≡ []
      → let row = collecting_abort_by seat why (view_at Collecting rs c m) us q in
      let m' : Memory = record m { phase = Over } in reads q (rs ++ entries_written row.written) m' ≡ row.view
  aborts_reads PresumeAbort why us m f owes acks found =
      collecting_abort_pure me c PresumeAbort why (none_of us) us rs m f owes acks found refl
  aborts_reads PresumeCommit why us m f owes acks found =
      collecting_abort_pure me c PresumeCommit why (none_of us) us rs m f owes acks found refl

  -- votes

  promises_reads : (q : Presumption) (ys : List Ticket) (m : Memory) → Collects
      → let row = cascaded_prepares seat (view_at Collecting rs c m) ys in
      let m' : Memory = record m { phase = Over } in reads q (rs ++ entries_written row.written) m' ≡ row.view
  promises_reads q ys m f = simp (pushed, f.no_end, f.no_commit, f.no_abort) refl

  full_reads : (b : Bool) (m : Memory) → none_of (yes_of m.accepted m.votes) ≡ b → Collects
      → (c.txn.presumption ≡ PresumeAbort → has (is_collecting c) rs ≡ false)
      → let v = view_at Collecting rs c m in let ys = yes_of m.accepted m.votes in
      let row = if b then collecting_read_only seat else decides seat v ys (Some p) in
      reads c.txn.presumption (rs ++ entries_written row.written) (record m { phase = Over }) ≡ row.view
  full_reads true m e f no_record = read_only_pure me c c.txn.presumption rs m f no_record
  full_reads false m e f no_record = promises_reads c.txn.presumption (yes_of m.accepted m.votes) m f

  module _ (m : Memory) (stands : standing_with c.txn.presumption rs c m
      ≡ Collecting) (asked : m.phase ≡ Asked)
      (f : Collects)
      (no_record : c.txn.presumption ≡ PresumeAbort
      → has (is_collecting c) rs ≡ false) (owes : owing_by c rs ≡ [])
      (acks : m.acks ≡ []) (found : m.found ≡ []) where
    abbrev with_one : Ticket → Vote → Memory
    with_one t w = record m { votes = m.votes ++ (t, w) ∷ [] }

    consent_reads : (t : Ticket) (w : Vote) (all : Bool)
        → let v = view_at Collecting rs c (with_one t w) in let row =
        if all then collecting_full seat v else quiet v in
        reads c.txn.presumption (rs ++ entries_written row.written)
        (record (with_one t w) { phase = if all then Over else Asked }) ≡ row.view
    consent_reads t w true =
        full_reads (none_of (yes_of m.accepted (m.votes ++ (t, w) ∷ []))) (with_one t w) refl f no_record
    consent_reads t w false =
        same_pure c c.txn.presumption Collecting rs m
        (record (with_one t w) { phase = Asked }) stands (sym asked)

    after_reads : (t : Ticket) (w : Vote) → let row =
        collecting_after seat (view_at Collecting rs c (with_one t w)) w in
        reads c.txn.presumption (rs ++ entries_written row.written) (with_vote m t w) ≡ row.view
    after_reads t No =
        aborts_reads c.txn.presumption ByVote
        (undecided_of m.accepted (m.votes ++ (t, No) ∷ [])) (with_one t No) f owes
        acks found
    after_reads t Yes = consent_reads t Yes (all_voted m.accepted (m.votes ++ (t, Yes) ∷ []))
    after_reads t Read = consent_reads t Read (all_voted m.accepted (m.votes ++ (t, Read) ∷ []))

    counted_reads : (t : Ticket) (w : Vote) (b : Bool)
        → let row = if b then record
        (collecting_after seat (view_at Collecting rs c (with_one t w)) w) { counts = (t, w) ∷ [] } else quiet
        (view_at Collecting rs c m) in
        reads c.txn.presumption (rs ++ entries_written row.written)
        (if b then with_vote m t w else m) ≡ row.view
    counted_reads t w true = after_reads t w
    counted_reads t w false = same_pure c c.txn.presumption Collecting rs m m stands refl

    -- a vote at a case that collects them
    pub vote_reads : (t : Ticket) (w : Vote) → let row =
        collecting_vote seat t w (view_at Collecting rs c m) in
        reads c.txn.presumption (rs ++ entries_written row.written)
        (if is_counted m.accepted m.votes t then with_vote m t w else m) ≡ row.view
    vote_reads t w = counted_reads t w (is_counted m.accepted m.votes t)

  -- the parent's decision of a Prepared case

  module _ (m k : Memory) (f : Promised) (owes : owing_by c rs ≡ []) (accepted : k.accepted ≡ m.accepted)
      (votes : k.votes ≡ m.votes)
      (works : k.works ≡ m.works) (acks : k.acks ≡ m.acks) (found : k.found ≡ m.found) where
    pub commits_reads : (ver : Version) (q : Presumption) (none : Bool) → none_of (promised_by c rs) ≡ none
        → still_owed m.acks CommittedOutcome (promised_by c rs) ≡ promised_by c rs
        → found_of m.found CommittedOutcome (promised_by c rs) ≡ []
        → let row =
        prepared_commit_by ver seat (view_at Prepared rs c m) q in reads q
        (rs ++ entries_written row.written) k ≡ row.view
    commits_reads ver PresumeAbort true u still nothing =
        simp (pushed, f.no_end, f.no_commit, f.no_abort, f.prepared, owes, u) refl
    commits_reads ver PresumeAbort false u still nothing =
        simp (
          pushed,
          f.no_end,
          f.no_commit,
          f.no_abort,
          f.prepared,
          owes,
          u,
          accepted,
          votes,
          works,
          acks,
          still,
          found,
          nothing,
          found_nobody,
        ) refl
    commits_reads ver PresumeCommit none u still nothing =
        simp (pushed, f.no_end, f.no_commit, f.no_abort, f.prepared, owes) refl

    pub aborted_reads : (ver : Version) (q : Presumption) (none : Bool) → none_of (promised_by c rs) ≡ none
        → still_owed m.acks AbortedOutcome (promised_by c rs) ≡ promised_by c rs
        → found_of m.found AbortedOutcome (promised_by c rs) ≡ []
        → let row =
        prepared_abort_by ver seat (view_at Prepared rs c m) q in reads q
        (rs ++ entries_written row.written) k ≡ row.view
    aborted_reads ver PresumeAbort none u still nothing =
        simp (pushed, f.no_end, f.no_commit, f.no_abort, f.prepared, owes) refl
    aborted_reads ver PresumeCommit true u still nothing =
        simp (pushed, f.no_end, f.no_commit, f.no_abort, f.prepared, owes, u) refl
    aborted_reads ver PresumeCommit false u still nothing =
        simp (
          pushed,
          f.no_end,
          f.no_commit,
          f.no_abort,
          f.prepared,
          owes,
          u,
          accepted,
          votes,
          works,
          acks,
          still,
          found,
          nothing,
          found_nobody,
        ) refl
