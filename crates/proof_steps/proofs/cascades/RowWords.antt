-- Which inputs of a cascaded coordinator say READ of a case, promise it, or collect its votes: it was open,
-- and READ and
-- the promise close it.
use Rattle.std.proofs.Common.{◌≡◌, ◌∙◌, inl, inr, Bool, true, false, Some, None, List, [], ◌∷◌, ◌++◌, map, refl, sym, ap, subst, if◌then◌else◌}
use Rattle.protocol.specs.declared.names.Case.{Case}
use Rattle.protocol.specs.declared.names.Outcome.{Outcome}
use Rattle.protocol_words.specs.Variants.{AbortedOutcome, CommittedOutcome, PrepareRecord}
use Rattle.protocol.specs.declared.names.Presumption.{Presumption}
use Rattle.protocol.specs.declared.names.Presumption.TheVariants.{PresumeAbort, PresumeCommit}
use Rattle.protocol.specs.declared.names.ProcessId.{ProcessId}
use Rattle.protocol.specs.declared.names.Ticket.{Ticket}
use Rattle.protocol.specs.declared.names.Txn.{Txn}
use Rattle.protocol.specs.declared.messages.Envelope.{Envelope}
use Rattle.protocol.specs.declared.messages.Message.{Message}
use Rattle.protocol.specs.declared.messages.Message.TheVariants.{Ack, Commit, Abort, Joined, No, Prepare}
use Rattle.protocol.specs.declared.standings.Standing.TheVariants.{Active}
use Rattle.protocol.specs.declared.standings.Vote.{Vote}
use Rattle.protocol.specs.declared.trees.TreeProcess.{TreeProcess}
use Rattle.protocol.specs.Names.{child_case, presumed, root_case, same_case}
use Rattle.protocol.specs.NameLaws.{same_case_tells}
use Rattle.protocol.specs.Records.{boot_of, has, is_collecting, is_prepare, none_of}
use Rattle.protocol.specs.CoordinatorRows.{abort_answered, ByAbort, ByAct, ByVote, Reason, Row, Seat, abort_heard_above, acknowledges_abort, acknowledges_at_last, acknowledges_at_once, active_commit_alone, active_commit_with, cascaded_prepares, collecting_read_only, each, forced, post, read_only_end, tells_outcome}
use Rattle.protocol.specs.Memory.{Idle, cascaded_remembers, memory_of, works_of}
use Rattle.protocol.specs.Nodes.{Version, First, Second, Below, Effect, Heard, Node, Place, entries_written, kept}
use Rattle.protocol.specs.Outcomes.{is_read_message, sent}
use Rattle.protocol.specs.Reactions.{row_effect, seat_of}
use Rattle.protocol.specs.Standings.{CoordinatorView, coordinator_view, found_below}
use Rattle.protocol.specs.Views.{IsOpenAlike}
use Rattle.proof_pairs.specs.readings.ReadingOf.{gives_case}
use Rattle.proof_pairs.specs.turns.CoordinatorTurns.{CaseTurn, CoordinatorTurn, CountsLast, IsToCommit, counting, voted, accepts, acknowledges, clears, answers, asks, asks_for_votes, aborts, begins, commit_act, commits, counts_vote, does_nothing, ends, finds_nobody, gives_again, gives_fresh, gives_up, hears_no, invites, of_case, passes_abort, passes_commit, prepare_comes, presumes, promises, reads_only, refuses, repeats_yes, rests, sends_work, waits_for_acks}
use Rattle.proof_processes.proofs.GivenCases.{same_of}
use Rattle.proof_processes.proofs.Tests.{either}
use Rattle.proof_steps.proofs.cascades.Closings
use Rattle.proof_steps.proofs.cascades.Opens.{live}
use Rattle.protocol.specs.declared.messages.Finding.{Finding}

module _ (c : Case) (e : Effect) where
  -- it does none of these
  pub record IsPlain : Type 0 where
    pub no_read : sent (is_read_message c) e.messages ≡ false
    pub no_promise : has (is_prepare c) (entries_written e.written) ≡ false
    pub no_collecting : has (is_collecting c) (entries_written e.written) ≡ false

  -- what it does, of a case that was open or not, and is so after it
  pub data Words (was is : Bool) : Type 0 where
    plainly : IsPlain → Words was is
    reads_now : was ≡ true → is ≡ false → has (is_prepare c) (entries_written e.written) ≡ false
        → has (is_collecting c) (entries_written e.written) ≡ false → Words was is
    promises_now : (ts : List Ticket) → was ≡ true → is ≡ false → sent (is_read_message c) e.messages ≡ false
        → e.written ≡ forced (PrepareRecord c ts) → Words was is
    collects_now : was ≡ true → sent (is_read_message c) e.messages ≡ false
        → has (is_prepare c) (entries_written e.written) ≡ false → Words was is

-- a case without a ticket was given by nobody
root_given : {A : Type 0} (y : Txn) (net : List Envelope) → sent (gives_case (root_case y)) net ≡ true → A
unfolding sent
root_given y [] e = absurd (cc)
root_given y (l ∷ ls) e = elim (either (gives_case (root_case y) l.message) _ e) [
  | inl now ↦ no_message l.message now
  | inr rest ↦ root_given y ls rest
]
  where
    no_message : {A : Type 0} (m : Message) → gives_case (root_case y) m ≡ true → A
    no_message (Joined d u) f =
        absurd (let g : Some u ≡ None = ap (λ (x : Case). x.ticket)
        (same_of (child_case d.txn u) (root_case y) f) in cc)
    no_message m f = absurd (cc)

module _ (c : Case) where
  -- messages down
  pub each_unread : (s : Seat) (o : Outcome) (ts : List Ticket)
      → sent (is_read_message c) (each s (tells_outcome o) ts) ≡ false
  unfolding sent
  each_unread s o [] = refl
  each_unread s CommittedOutcome (t ∷ ts) = each_unread s CommittedOutcome ts
  each_unread s AbortedOutcome (t ∷ ts) = each_unread s AbortedOutcome ts

  prepares_unread : (s : Seat) (v : CoordinatorView) (ts : List Ticket)
      → sent (is_read_message c)
      (map (λ u. post s.me u.child (Prepare (child_case s.own.txn u) (works_of v.works u))) ts) ≡ false
  unfolding sent
  prepares_unread s v [] = refl
  prepares_unread s v (t ∷ ts) = prepares_unread s v ts

  message_unread : (me q : ProcessId) (o : Outcome) (e : Case)
      → sent (is_read_message c) (post me q (tells_outcome o e) ∷ []) ≡ false
  unfolding sent
  message_unread me q CommittedOutcome e = refl
  message_unread me q AbortedOutcome e = refl

  ack_unread : (me q : ProcessId) (x : Case) (o : Outcome) (fs : List Finding) (ls : List Envelope)
      → sent (is_read_message c) ls ≡ false
      → sent (is_read_message c) (post me q (Ack x o fs) ∷ ls) ≡ false
  unfolding sent
  ack_unread me q x o fs ls e = e

  no_unread : (me q : ProcessId) (x : Case) (ls : List Envelope) → sent (is_read_message c) ls ≡ false
      → sent (is_read_message c) (post me q (No x) ∷ ls) ≡ false
  unfolding sent
  no_unread me q x ls e = e

  acknowledged : (me p : ProcessId) (x : Case) (q : Presumption) (us : List Ticket)
      → (let s : Seat = record { me = me; parent = Some p; own = x } in
      sent (is_read_message c) (acknowledges_abort s q ++ each s Abort us) ≡ false)
  acknowledged me p x PresumeAbort us = each_unread
      (record { me = me; parent = Some p; own = x }) AbortedOutcome us
  acknowledged me p x PresumeCommit us =
      ack_unread me p x AbortedOutcome [] _ (each_unread
      (record { me = me; parent = Some p; own = x }) AbortedOutcome us)

  heard_above : (me p : ProcessId) (x : Case) (why : Reason) (us : List Ticket)
      → (let s : Seat = record { me = me; parent = Some p; own = x } in
      sent (is_read_message c) (abort_heard_above s why us ++ each s Abort us) ≡ false)
  heard_above me p x ByVote us =
      no_unread me p x _ (each_unread (record { me = me; parent = Some p; own = x }) AbortedOutcome us)
  heard_above me p x ByAct us = each_unread (record { me = me; parent = Some p; own = x }) AbortedOutcome us
  heard_above me p x (ByAbort First) us = acknowledged me p x x.txn.presumption us
  heard_above me p x (ByAbort Second) us = by_test (none_of us)
    where
      by_test : (b : Bool)
          → (let s : Seat = record { me = me; parent = Some p; own = x } in
          sent (is_read_message c) ((if b then acknowledges_abort s x.txn.presumption else [])
          ++ each s Abort us)
          ≡ false)
      by_test true = acknowledged me p x x.txn.presumption us
      by_test false = each_unread (record { me = me; parent = Some p; own = x }) AbortedOutcome us

  at_once : (me p : ProcessId) (x : Case) (ver : Version) (o : Outcome) (rest : List Envelope)
      → sent (is_read_message c) rest ≡ false
      → sent (is_read_message c)
      (acknowledges_at_once ver (record { me = me; parent = Some p; own = x }) o ++ rest) ≡ false
  at_once me p x First o rest f = ack_unread me p x o [] rest f
  at_once me p x Second o rest f = f

  at_last : (me p : ProcessId) (x : Case) (ver : Version) (o : Outcome) (fs : List Finding)
      → sent (is_read_message c) (acknowledges_at_last ver
      (record { me = me; parent = Some p; own = x }) o fs)
      ≡ false
  unfolding sent has
  at_last me p x First o fs = refl
  at_last me p x Second o fs = refl

module _ (me p : ProcessId) (tree : List TreeProcess) (n : Node) (h : Heard) (net : List Envelope)
    (alike : (c : Case) → IsOpenAlike (record { me = me; role = Below p; tree = tree }) n c)
    (given : (c : Case) → ((memory_of (record { me = me; role = Below p; tree = tree }) n c).phase ≡ Idle → ⊥)
    → sent (gives_case c) net ≡ true) (c : Case) where
  abbrev place : Place
  place = record { me = me; role = Below p; tree = tree }

  abbrev was : Bool
  was = live (memory_of place n c).phase

  abbrev is : Bool
  is = live (cascaded_remembers me (boot_of (kept n)) c (memory_of place n c) h.input).phase

  abbrev Says : Effect → Type 0
  Says e = Words c e was is

  abbrev seat : Case → Seat
  seat x = seat_of place (Some p) x

  abbrev view : Case → CoordinatorView
  view x = coordinator_view place n x

  -- not one of them, and it writes no such record
  unread : (e : Effect) → sent (is_read_message c) e.messages ≡ false
      → has (is_prepare c) (entries_written e.written) ≡ false
      → has (is_collecting c) (entries_written e.written) ≡ false → Says e
  unread e a b d = plainly (record { no_read = a; no_promise = b; no_collecting = d })

  -- READ where nobody takes part

  abbrev Alone : Case → Effect
  Alone x = row_effect x (active_commit_alone (seat x))

  own_nobody : IsToCommit (Some p) h c → (view c).standing ≡ Active → none_of (view c).accepted ≡ true
      → Says (Alone c)
  unfolding has
  own_nobody (commit_act y z i) f g =
      root_given y net (subst (λ (w : Case). sent (gives_case w) net ≡ true) z
      (given c (λ k. let o = sym k ∙ Closings.phase_open me p tree n h c (alike c) f in cc)))
  own_nobody (prepare_comes q j k i) f g =
      reads_now (ap live (Closings.phase_open me p tree n h c (alike c) f))
      (Closings.nobody_closes me p tree n h c (alike c) i.0 j i.1 f g) refl refl

  other_nobody : (x : Case) → same_case x c ≡ false → Says (Alone x)
  unfolding has sent
  other_nobody x e = unread (Alone x) (rw e refl) refl refl

  nobody : (x : Case) → IsToCommit (Some p) h x → (view x).standing ≡ Active → none_of (view x).accepted
      ≡ true
      → Says (Alone x)
  nobody x i f g = elim (same_case_tells x c) [
    | inl s ↦ subst (λ (z : Case). IsToCommit (Some p) h z → (view z).standing ≡ Active
        → none_of (view z).accepted ≡ true → Says (Alone z)) (sym s.1) own_nobody i f g
    | inr o ↦ other_nobody x o.0
  ]

  -- READ where all read only

  abbrev ReadOnly : Case → Ticket → Vote → Presumption → Effect
  ReadOnly x u w q = row_effect x
      (counting u w (record (collecting_read_only (seat x)) { written = read_only_end (seat x) q }))

  own_read : (u : Ticket) (w : Vote) (ys : List Ticket) (q : Presumption) → CountsLast place n h c u w ys
      → Says (ReadOnly c u w q)
  unfolding has
  own_read u w ys PresumeAbort i =
      reads_now (ap live (Closings.phase_asked me p tree n h c (alike c) i.vote.stands))
      (Closings.last_closes me p tree n h c (alike c) w u ys i) refl refl
  own_read u w ys PresumeCommit i =
      reads_now (ap live (Closings.phase_asked me p tree n h c (alike c) i.vote.stands))
      (Closings.last_closes me p tree n h c (alike c) w u ys i) refl refl

  other_read : (x : Case) (u : Ticket) (w : Vote) (q : Presumption) → same_case x c ≡ false
      → Says (ReadOnly x u w q)
  unfolding has sent
  other_read x u w PresumeAbort e = unread (ReadOnly x u w PresumeAbort) (rw e refl) refl refl
  other_read x u w PresumeCommit e = unread (ReadOnly x u w PresumeCommit) (rw e refl) refl refl

  reads : (x : Case) (u : Ticket) (w : Vote) (ys : List Ticket) (q : Presumption)
      → CountsLast place n h x u w ys
      → Says (ReadOnly x u w q)
  reads x u w ys q i = elim (same_case_tells x c) [
    | inl s ↦ subst (λ (z : Case). CountsLast place n h z u w ys → Says (ReadOnly z u w q)) (sym s.1)
        (own_read u w ys q) i
    | inr o ↦ other_read x u w q o.0
  ]

  -- The promise.

  abbrev Promises : Case → Ticket → Vote → List Ticket → Effect
  Promises x u w ys = row_effect x (counting u w (cascaded_prepares (seat x) (voted (view x) u w) ys))

  own_promise : (u : Ticket) (w : Vote) (ys : List Ticket) → CountsLast place n h c u w ys
      → Says (Promises c u w ys)
  unfolding sent
  own_promise u w ys i =
      promises_now ys (ap live (Closings.phase_asked me p tree n h c (alike c) i.vote.stands))
      (Closings.last_closes me p tree n h c (alike c) w u ys i) refl refl

  other_promise : (x : Case) (u : Ticket) (w : Vote) (ys : List Ticket) → same_case x c ≡ false
      → Says (Promises x u w ys)
  unfolding has sent
  other_promise x u w ys e = unread (Promises x u w ys) refl (rw e refl) refl

  promise : (x : Case) (u : Ticket) (w : Vote) (ys : List Ticket) → CountsLast place n h x u w ys
      → Says (Promises x u w ys)
  promise x u w ys i = elim (same_case_tells x c) [
    | inl s ↦ subst (λ (z : Case). CountsLast place n h z u w ys → Says (Promises z u w ys)) (sym s.1)
        (own_promise u w ys) i
    | inr o ↦ other_promise x u w ys o.0
  ]

  -- The collecting of votes after a record.

  abbrev Collects : Case → Effect
  Collects x = row_effect x (active_commit_with (seat x) (view x) PresumeCommit)

  own_collect : (view c).standing ≡ Active → Says (Collects c)
  unfolding has
  own_collect e =
      collects_now (ap live (Closings.phase_open me p tree n h c (alike c) e))
      (prepares_unread c (seat c) (view c) (view c).accepted) refl

  other_collect : (x : Case) → same_case x c ≡ false → Says (Collects x)
  unfolding has
  other_collect x e =
      unread (Collects x) (prepares_unread c (seat x) (view x) (view x).accepted) refl (rw e refl)

  collect : (x : Case) → (view x).standing ≡ Active → Says (Collects x)
  collect x e = elim (same_case_tells x c) [
    | inl s ↦ subst (λ (z : Case). (view z).standing ≡ Active → Says (Collects z)) (sym s.1) own_collect e
    | inr o ↦ other_collect x o.0
  ]

  row_words : (x : Case) (r : Row) → CaseTurn place (Some p) n h x r → Says (row_effect x r)
  unfolding has sent
  row_words x r (finds_nobody i f g) = nobody x i f g
  row_words x r (reads_only u w ys q i e f) = reads x u w ys q i
  row_words x r (promises u w ys q i e f) = promise x u w ys i
  row_words x r (asks_for_votes PresumeCommit i e f g) = collect x e
  row_words x r (asks_for_votes PresumeAbort i e f g) =
      unread (row_effect x r) (prepares_unread c (seat x) (view x) (view x).accepted) refl refl
  row_words x r (rests i) = unread (row_effect x r) refl refl refl
  row_words x r (invites q i e f g) = unread (row_effect x r) refl refl refl
  row_words x r (accepts u i e f) = unread (row_effect x r) refl refl refl
  row_words x r (sends_work q u op i e f g) = unread (row_effect x r) refl refl refl
  row_words x r (gives_up why q i f g) = unread (row_effect x r)
      (acknowledged c me p x q (view x).accepted) refl refl
  row_words x r (counts_vote u w i e f) = unread (row_effect x r) refl refl refl
  row_words x r (commits u w ys q i e f g) = absurd (cc)
  row_words x r (hears_no u us PresumeAbort i e f) =
      unread (row_effect x r) (heard_above c me p x ByVote us) refl refl
  row_words x r (hears_no u us PresumeCommit i e f) =
      unread (row_effect x r) (heard_above c me p x ByVote us) refl refl
  row_words x r (aborts why us PresumeAbort i f g l) = unread (row_effect x r)
      (heard_above c me p x why us) refl refl
  row_words x r (aborts why us PresumeCommit i f g l) = unread (row_effect x r)
      (heard_above c me p x why us) refl refl
  row_words x r (passes_commit PresumeAbort i e f) =
      unread (row_effect x r)
      (at_once c me p x h.version CommittedOutcome (each (seat x) Commit (view x).promised)
      (each_unread c (seat x) CommittedOutcome (view x).promised)) refl refl
  row_words x r (passes_commit PresumeCommit i e f) =
      unread (row_effect x r) (each_unread c (seat x) CommittedOutcome (view x).promised) refl refl
  row_words x r (passes_abort PresumeAbort i e f) =
      unread (row_effect x r) (each_unread c (seat x) AbortedOutcome (view x).promised) refl refl
  row_words x r (passes_abort PresumeCommit i e f) =
      unread (row_effect x r)
      (at_once c me p x h.version AbortedOutcome (each (seat x) Abort (view x).promised)
      (each_unread c (seat x) AbortedOutcome (view x).promised)) refl refl
  row_words x r (repeats_yes j i e) = unread (row_effect x r) refl refl refl
  row_words x r (asks i e) = unread (row_effect x r) refl refl refl
  row_words x r (refuses j i e) = unread (row_effect x r) refl refl refl
  row_words x r (acknowledges o fs i e) = unread (row_effect x r) refl refl refl
  row_words x r (waits_for_acks u o fs i e f g) = unread (row_effect x r) refl refl refl
  row_words x r (ends u o fs i e f g) = unread (row_effect x r)
      (at_last c me p x h.version o (found_below place n x o fs)) refl refl
  row_words x r (clears i e f g) = absurd (cc)
  row_words x r (answers u o i e) = unread (row_effect x r) (message_unread c me u.child o _) refl refl

  pub turn_words : (e : Effect) → CoordinatorTurn place (Some p) n h e → Says e
  unfolding has sent
  turn_words e (does_nothing i) = unread e refl refl refl
  turn_words e (of_case x r i) = row_words x r i
  turn_words e (begins q f i) = absurd (cc)
  turn_words e (gives_again q x u f i g) = unread e refl refl refl
  turn_words e (gives_fresh q x f i g) = unread e refl refl refl
  turn_words e (presumes x u i f) = unread e
      (message_unread c me u.child (presumed x.presumption) _) refl refl
