-- The rows of the root, over records and what is remembered.
use Rattle.std.proofs.Common.{◌≡◌, ap, Bool, true, false, None, List, [], ◌∷◌, ◌++◌, refl, if◌then◌else◌}
use Rattle.std.proofs.lemmas.List.{append-nil}
use Rattle.protocol.specs.declared.names.Case.{Case}
use Rattle.protocol.specs.declared.names.ProcessId.{ProcessId}
use Rattle.protocol.specs.declared.names.Ticket.{Ticket}
use Rattle.protocol.specs.declared.names.Outcome.{Outcome}
use Rattle.protocol.specs.declared.names.Presumption.{Presumption}
use Rattle.protocol.specs.declared.names.Presumption.TheVariants.{PresumeAbort, PresumeCommit}
use Rattle.protocol.specs.declared.records.Record.{Record}
use Rattle.protocol.specs.declared.standings.Standing.{Standing}
use Rattle.protocol.specs.declared.standings.Standing.TheVariants.{Active, Collecting}
use Rattle.protocol.specs.Records.{has, none_of, is_end, is_commit, is_abort, is_prepare, is_collecting, owing_by}
use Rattle.protocol.specs.Nodes.{entries_written}
use Rattle.protocol.specs.Memory.{Memory, Phase, Idle, Open, Asked, Over, has_acked, found_of}
use Rattle.protocol.specs.Standings.{CoordinatorView, unknown_view, standing_by, phase_standing, view_at, still_owed}
use Rattle.protocol.specs.CoordinatorRows.{Seat, Row, active_commit_alone, active_commit_with, Reason, collecting_abort_by, read_only_end, root_commits}
use Rattle.proof_model.proofs.TicketLaws.{pushed}
use Rattle.proof_model.proofs.StandingLaws.{ActiveFacts, standing_with}

-- The commit act at an Active case.

abbrev pub commit_row : Seat → CoordinatorView → Presumption → Bool → Row
commit_row s v p b = if b then active_commit_alone s else active_commit_with s v p

pub commit_pure : (me : ProcessId) (c : Case) (p : Presumption) (b : Bool) (rs : List Record) (m : Memory)
    → ActiveFacts (has (is_end c) rs) (has (is_commit c) rs) (has (is_abort c) rs) (has (is_prepare c) rs)
    (has (is_collecting c) rs) Active
    → let s : Seat = record { me = me; parent = None; own = c } in
    let row = commit_row s (view_at Active rs c m) p b in
    let rs' = rs ++ entries_written row.written in
    let m' : Memory = record m { phase = if b then Over else Asked } in
    view_at (standing_with p rs' c m') rs' c m' ≡ row.view
commit_pure me c PresumeAbort true rs m f = simp
    (pushed, f.no_end, f.no_commit, f.no_abort, f.no_prepare, f.no_collecting) refl
commit_pure me c PresumeCommit true rs m f = simp
    (pushed, f.no_end, f.no_commit, f.no_abort, f.no_prepare, f.no_collecting) refl
commit_pure me c PresumeAbort false rs m f = simp
    (pushed, f.no_end, f.no_commit, f.no_abort, f.no_prepare, f.no_collecting) refl
commit_pure me c PresumeCommit false rs m f =
    simp (pushed, f.no_end, f.no_commit, f.no_abort, f.no_prepare, f.no_collecting) refl

-- An abort at an Active case.

pub abort_pure : (me : ProcessId) (c : Case) (p : Presumption) (rs : List Record) (m : Memory)
    → ActiveFacts (has (is_end c) rs) (has (is_commit c) rs) (has (is_abort c) rs) (has (is_prepare c) rs)
    (has (is_collecting c) rs) Active
    → let rs' = rs ++ [] in
    let m' : Memory = record m { phase = Over } in
    view_at (standing_with p rs' c m') rs' c m' ≡ unknown_view
abort_pure me c PresumeAbort rs m f = simp (
  pushed,
  f.no_end,
  f.no_commit,
  f.no_abort,
  f.no_prepare,
  f.no_collecting,
) refl
abort_pure me c PresumeCommit rs m f = simp (
  pushed,
  f.no_end,
  f.no_commit,
  f.no_abort,
  f.no_prepare,
  f.no_collecting,
) refl

-- with no finding remembered nothing is found
pub found_empty : (o : Outcome) (ts : List Ticket) → found_of [] o ts ≡ []
unfolding found_of
found_empty o ts = refl

-- Aborts of a case that collects votes.

pub record CollectingFacts (E C A P : Bool) : Type 0 where
  pub no_end : E ≡ false
  pub no_commit : C ≡ false
  pub no_abort : A ≡ false
  pub no_prepare : P ≡ false

pub phase_collecting : (p : Presumption) (ph : Phase) → phase_standing p ph ≡ Collecting → ph ≡ Asked
phase_collecting PresumeAbort Asked e = refl
phase_collecting PresumeCommit Asked e = absurd (cc)
phase_collecting PresumeAbort Open e = absurd (cc)
phase_collecting PresumeCommit Open e = absurd (cc)
phase_collecting PresumeAbort Idle e = absurd (cc)
phase_collecting PresumeCommit Idle e = absurd (cc)
phase_collecting PresumeAbort Over e = absurd (cc)
phase_collecting PresumeCommit Over e = absurd (cc)

pub collecting_facts : (E C A P K N : Bool) (hs : Standing) → standing_by E C A P K N hs ≡ Collecting
    → CollectingFacts E C A P
collecting_facts true C A P K N hs e = absurd (cc)
collecting_facts false true A P K true hs e = absurd (cc)
collecting_facts false true A P K false hs e = absurd (cc)
collecting_facts false false true P K true hs e = absurd (cc)
collecting_facts false false true P K false hs e = absurd (cc)
collecting_facts false false false true K N hs e = absurd (cc)
collecting_facts false false false false K N hs
    e = record { no_end = refl; no_commit = refl; no_abort = refl; no_prepare = refl }

-- with no acknowledgement heard, all that are named owe one
pub owed_by_all : (o : Outcome) (ts : List Ticket) → still_owed [] o ts ≡ ts
unfolding still_owed has_acked
owed_by_all o [] = refl
owed_by_all o (t ∷ ts) = ap (λ l. t ∷ l) (owed_by_all o ts)

pub collecting_abort_pure : (me : ProcessId) (c : Case) (p : Presumption) (why : Reason) (none : Bool)
    (us : List Ticket) (rs : List Record) (m : Memory)
    → CollectingFacts (has (is_end c) rs) (has (is_commit c) rs) (has (is_abort c) rs) (has (is_prepare c) rs)
    → owing_by c rs ≡ [] → m.acks ≡ [] → m.found ≡ [] → none_of us ≡ none
    → let s : Seat = record { me = me; parent = None; own = c } in
    let row = collecting_abort_by s why (view_at Collecting rs c m) us p in
    let rs' = rs ++ entries_written row.written in
    let m' : Memory = record m { phase = Over } in
    view_at (standing_with p rs' c m') rs' c m' ≡ row.view
collecting_abort_pure me c PresumeAbort why none us rs m f owes acks found u =
    simp (pushed, f.no_end, f.no_commit, f.no_abort, f.no_prepare, owes) refl
collecting_abort_pure me c PresumeCommit why true us rs m f owes acks found u =
    simp (pushed, f.no_end, f.no_commit, f.no_abort, f.no_prepare, owes, u) refl
collecting_abort_pure me c PresumeCommit why false us rs m f owes acks found u =
    simp (
      pushed,
      f.no_end,
      f.no_commit,
      f.no_abort,
      f.no_prepare,
      owes,
      u,
      acks,
      owed_by_all,
      found,
      found_empty,
    ) refl

-- A vote of a case that collects votes.

-- the view if no record was written and the phase stays
pub same_pure : (c : Case) (p : Presumption) (s : Standing) (rs : List Record) (m m' : Memory)
    → standing_with p rs c m ≡ s → m'.phase ≡ m.phase
    → view_at (standing_with p (rs ++ []) c m') (rs ++ []) c m' ≡ view_at s rs c m'
same_pure c p s rs m m' h k = simp (append-nil, k, h) refl

pub read_only_pure : (me : ProcessId) (c : Case) (p : Presumption) (rs : List Record) (m : Memory)
    → CollectingFacts (has (is_end c) rs) (has (is_commit c) rs) (has (is_abort c) rs) (has (is_prepare c) rs)
    → (p ≡ PresumeAbort → has (is_collecting c) rs ≡ false)
    → let s : Seat = record { me = me; parent = None; own = c } in
    let rs' = rs ++ entries_written (read_only_end s p) in
    let m' : Memory = record m { phase = Over } in
    view_at (standing_with p rs' c m') rs' c m' ≡ unknown_view
read_only_pure me c PresumeAbort rs m f no_record =
    let none : has (is_collecting c) rs ≡ false = no_record refl in
    simp (pushed, f.no_end, f.no_commit, f.no_abort, f.no_prepare, none) refl
read_only_pure me c PresumeCommit rs m f no_record = simp (pushed) refl

pub root_commits_pure : (me : ProcessId) (c : Case) (p : Presumption) (ys : List Ticket) (rs : List Record)
    (m : Memory)
    → CollectingFacts (has (is_end c) rs) (has (is_commit c) rs) (has (is_abort c) rs) (has (is_prepare c) rs)
    → owing_by c rs ≡ [] → m.acks ≡ [] → m.found ≡ [] → none_of ys ≡ false
    → let s : Seat = record { me = me; parent = None; own = c } in
    let row = root_commits s (view_at Collecting rs c m) ys p in
    let rs' = rs ++ entries_written row.written in
    let m' : Memory = record m { phase = Over } in
    view_at (standing_with p rs' c m') rs' c m' ≡ row.view
root_commits_pure me c PresumeAbort ys rs m f owes acks found some =
    simp (
      pushed,
      f.no_end,
      f.no_commit,
      f.no_abort,
      f.no_prepare,
      owes,
      some,
      acks,
      owed_by_all,
      found,
      found_empty,
    ) refl
root_commits_pure me c PresumeCommit ys rs m f owes acks found some =
    simp (pushed, f.no_end, f.no_commit, f.no_abort, f.no_prepare, owes) refl
