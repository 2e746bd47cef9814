-- Each turn of another case of the process keeps the pair.
use Rattle.std.proofs.Common.{◌≡◌, ◌≢◌, ◌∙◌, inl, inr, ℕ, Bool, true, false, ◌&&◌, Option, Some, None, List, [], ◌∷◌, ◌++◌, refl, sym, ap, subst, if◌then◌else◌, is_some}
use Rattle.std.specs.Prelude.{find}
use Rattle.protocol.specs.declared.names.Case.{Case}
use Rattle.protocol.specs.declared.names.ProcessId.{ProcessId}
use Rattle.protocol.specs.declared.names.Ticket.{Ticket}
use Rattle.protocol.specs.declared.names.Txn.{Txn}
use Rattle.protocol.specs.declared.names.Outcome.{Outcome}
use Rattle.protocol_words.specs.Variants.{AbortRecord, AbortedOutcome, ClearedRecord, CollectingRecord, CommitRecord, CommittedOutcome, EndRecord, MessageInput, PrepareRecord, VoteNo}
use Rattle.protocol.specs.declared.names.Presumption.{Presumption}
use Rattle.protocol.specs.declared.names.Presumption.TheVariants.{PresumeAbort, PresumeCommit}
use Rattle.protocol.specs.declared.messages.Envelope.{Envelope}
use Rattle.protocol.specs.declared.messages.Message.{Message}
use Rattle.protocol.specs.declared.messages.Message.TheVariants.{Prepare, Yes, No, Read, Commit, Abort, Ack, Inquire}
use Rattle.protocol.specs.declared.records.Record.{Record}
use Rattle.protocol.specs.declared.standings.Standing.{Standing}
use Rattle.protocol.specs.declared.standings.Standing.TheVariants.{Active, Collecting, Prepared}
use Rattle.protocol.specs.declared.standings.Vote.{Vote}
use Rattle.protocol.specs.declared.events.Conclusion.{Conclusion}
use Rattle.protocol.specs.Names.{same_case, same_ticket, same_txn, child_case, root_case, process_of}
use Rattle.protocol.specs.NameLaws.{same_ticket_tells}
use Rattle.protocol.specs.Records.{has, in_list, is_prepare, none_of, in_order}
use Rattle.protocol.specs.Nodes.{Version, First, Second, kept, after}
use Rattle.protocol.specs.Memory.{Phase, Idle, Open, Asked, Over, memory_of, undecided_of}
use Rattle.protocol.specs.CoordinatorRows.{acknowledges_at_once, acknowledges_at_last, Row, active_commit_with, collecting_abort_by, read_only_end, root_commits, prepared_commit_by, prepared_abort_by, posted_up, each, to_child, prepares, told_by, tells_outcome, acknowledges_abort, abort_heard_above, Reason, ByVote, ByAct, ByAbort, end_reports}
use Rattle.protocol.specs.Reactions.{row_effect, seat_of}
use Rattle.protocol.specs.Standings.{CoordinatorView, coordinator_view, case_of_child, own_cases, belongs, standing_by, phase_standing, found_below}
use Rattle.protocol.specs.Outcomes.{has_accepted}
use Rattle.protocol.specs.Views.{IsOpenAlike, vote_message}
use Rattle.proof_pairs.specs.readings.ReadingOf.{wire}
use Rattle.proof_pairs.specs.turns.CoordinatorTurns.{CaseTurn, RestsBy, IsToCommit, IsToAbort, HearsChild, HearsParent, CountsVote, CountsLast}
use Rattle.proof_pairs.specs.turns.CoordinatorTurns
use Rattle.proof_processes.specs.Owns.{is_own_case, GoesToOwner}
use Rattle.proof_processes.specs.WorldHolds.{Issues, RoleHolds, is_record_of}
use Rattle.proof_processes.proofs.Cases.{viewed}
use Rattle.proof_processes.proofs.Owning.{delivered}
use Rattle.proof_processes.proofs.Worlds.{has_other}
use Rattle.proof_processes.proofs.Yesses.{own_process}
use Rattle.proof_steps.proofs.parents.Elsewhere
use Rattle.proof_steps.proofs.parents.Elsewhere.{ToldElsewhere, WroteElsewhere, none_written, one_plain, one_forced}
use Rattle.proof_steps.proofs.parents.Halves.{active_is_open}
use Rattle.proof_steps.proofs.parents.Known.{clash, found_accepted, pairs_case}
use Rattle.proof_steps.proofs.parents.Memories
use Rattle.proof_steps.proofs.parents.Memories.{below_is, top_is}
use Rattle.proof_steps.proofs.parents.Quiet.{Rests, cleared_unrelated}
use Rattle.proof_steps.proofs.parents.Rested
use Rattle.proof_steps.proofs.parents.Turns.{Turn, Fine}
use Rattle.proof_steps.proofs.parents.Wires
use Rattle.proof_steps.proofs.parents.Wires.{Silent, same_children, silent_before}
use Rattle.protocol.specs.declared.messages.Finding.{Finding}
use Rattle.protocol.specs.declared.records.Reports.{Reports}

-- a case that is at Prepared has a promise
prepared_by : (E C A P K N : Bool) (s : Standing) → s ≢ Prepared
    → standing_by E C A P K N s ≡ Prepared → P ≡ true
prepared_by true C A P K N s x e = absurd (cc)
prepared_by false true A P K true s x e = absurd (cc)
prepared_by false true A P K false s x e = absurd (cc)
prepared_by false false true P K true s x e = absurd (cc)
prepared_by false false true P K false s x e = absurd (cc)
prepared_by false false false true K N s x e = refl
prepared_by false false false false true N s x e = absurd (cc)
prepared_by false false false false false N s x e = absurd (x e)

module _ (turn : Turn) (d : Case) where
  open turn use {place, parent, seat, n, h, net, c, t, stands, holds, nested, by_role, goes, up}

  -- The case is the process's own.

  issues : (p : ProcessId) → parent ≡ Some p → Issues place net n
  issues p s =
      below_is place.role parent seat (λ r. RoleHolds r place net n → Issues place net n) p s (λ x. x.1.1)
      by_role

  own_remembered : (ph : Phase) → (memory_of place n d).phase ≡ ph → (ph ≡ Idle → ⊥)
      → (p : ProcessId) → parent ≡ Some p → process_of d ≡ place.me
  own_remembered ph e f p s = ((issues p s).remembered_is_given up d (λ g. f (sym e ∙ g))).0

  pub own_active : (coordinator_view place n d).standing ≡ Active → (p : ProcessId) → parent ≡ Some p
      → process_of d ≡ place.me
  own_active e = own_remembered Open (active_is_open place n d e) (λ x. cc)

  pub own_collecting : (coordinator_view place n d).standing ≡ Collecting → (p : ProcessId) → parent ≡ Some p
      → process_of d ≡ place.me
  own_collecting e = own_remembered Asked ((holds.alike up d).collecting_is_asked e) (λ x. cc)

  promise_kept : (coordinator_view place n d).standing ≡ Prepared → has (is_prepare d) (kept n) ≡ true
  promise_kept e =
      prepared_by _ _ _ _ _ _ _ (λ f. never d.txn.presumption (memory_of place n d).phase f)
      (sym (viewed place n d) ∙ e)
    where
      never : (q : Presumption) (ph : Phase) → phase_standing q ph ≡ Prepared → ⊥
      never PresumeAbort Idle f = cc
      never PresumeAbort Open f = cc
      never PresumeAbort Asked f = cc
      never PresumeAbort Over f = cc
      never PresumeCommit Idle f = cc
      never PresumeCommit Open f = cc
      never PresumeCommit Asked f = cc
      never PresumeCommit Over f = cc

  pub own_prepared : (coordinator_view place n d).standing ≡ Prepared → (p : ProcessId) → parent ≡ Some p
      → process_of d ≡ place.me
  own_prepared e p s =
      ((issues p s).recorded_is_given d
      (nested.kept_was_written (is_record_of d) (λ k. refl)
      (has_other (is_prepare d) (is_record_of d) (kept n) is_record (promise_kept e)))).0
    where
      is_record : (r : Record) → is_prepare d r ≡ true → is_record_of d r ≡ true
      is_record (PrepareRecord x ts) f = f
      is_record r f = absurd (cc)

  own_given : is_own_case place.me d ≡ true → process_of d ≡ place.me
  own_given e = own_process place.me d.txn d.ticket e

  pub own_told : (m : Message) (j : ℕ) → h.input ≡ MessageInput j m
      → (GoesToOwner place.me m → is_own_case place.me d ≡ true)
      → process_of d ≡ place.me
  own_told m j i f = own_given (f (delivered net place.me h.input j m goes stands i))

  pub own_child : (x : Txn) (u : Ticket) → case_of_child place n x u ≡ Some d → process_of d ≡ place.me
  own_child x u e = (holds.accepted_was_joined d u (found_accepted turn x u d e)).0

  -- At the root its case has no ticket.

  root_found : (x : Txn) (u : Ticket) → parent ≡ None → case_of_child place n x u ≡ Some d → d.ticket ≡ None
  root_found x u s e =
      top_is place.role parent seat
      (λ r. find (λ y. belongs (memory_of place n y) (kept n) y u) (own_cases r place n x) ≡ Some d
      → d.ticket ≡ None)
      s (λ f. by_test (belongs (memory_of place n (root_case x)) (kept n) (root_case x) u) f) e
    where
      by_test : (b : Bool) → (if b then Some (root_case x) else None) ≡ Some d → d.ticket ≡ None
      by_test true f = let g : root_case x ≡ d = cc in ap (λ (y : Case). y.ticket) (sym g)
      by_test false f = absurd (cc)

  to_commit_root : IsToCommit parent h d → parent ≡ None → d.ticket ≡ None
  to_commit_root (CoordinatorTurns.commit_act x e i) s = ap (λ (y : Case). y.ticket) e
  to_commit_root (CoordinatorTurns.prepare_comes p k e i) s = absurd (cc)

  to_abort_root : (why : Reason) → IsToAbort parent h d why → parent ≡ None → d.ticket ≡ None
  to_abort_root _ (CoordinatorTurns.abort_act x e i) s = ap (λ (y : Case). y.ticket) e
  to_abort_root _ (CoordinatorTurns.abort_comes p e i) s = absurd (cc)

  module _ (other : same_case d c ≡ false) where
    abbrev Told : Option Conclusion → Type 0
    Told o = ToldElsewhere turn d other o

    abbrev Quiet : List Envelope → Type 0
    Quiet ls = Silent c t net ls

    told_elsewhere : (a : Conclusion) → (parent ≡ None → d.ticket ≡ None) → Told (told_by parent a)
    told_elsewhere a f = by_parent parent refl
      where
        by_parent : (o : Option ProcessId) → parent ≡ o → Told (told_by o a)
        by_parent None e = inr (Elsewhere.unticketed_apart turn d other e (f e))
        by_parent (Some p) e = inl refl

    -- Messages up.

    nothing_sent : Quiet []
    nothing_sent = simp (Wires.sent-none)

    up_silent : (m : Message)
        → ((p : ProcessId) → same_case d (child_case c.txn t) ≡ false → Quiet (posted_up place.me (Some p) m))
        → ((p : ProcessId) → parent ≡ Some p → process_of d ≡ place.me) → Quiet (posted_up place.me parent m)
    up_silent m f own = by_parent parent refl
      where
        by_parent : (o : Option ProcessId) → parent ≡ o → Quiet (posted_up place.me o m)
        by_parent None e = nothing_sent
        by_parent (Some p) e = f p (Elsewhere.not_childs turn d other (own p e))

    abbrev Own : Type 0
    Own = (p : ProcessId) → parent ≡ Some p → process_of d ≡ place.me

    up_yes : Own → Quiet (posted_up place.me parent (Yes d))
    up_yes own = up_silent (Yes d) (λ p e. Wires.silent-yes c t net place.me (Some p) d e) own

    up_no : Own → Quiet (posted_up place.me parent (No d))
    up_no own = up_silent (No d) (λ p e. Wires.silent-no c t net place.me (Some p) d e) own

    up_read : Own → Quiet (posted_up place.me parent (Read d))
    up_read own = up_silent (Read d) (λ p e. Wires.silent-read c t net place.me (Some p) d e other) own

    up_ack : (o : Outcome) (fs : List Finding) → Own → Quiet (posted_up place.me parent (Ack d o fs))
    up_ack o fs own = up_silent (Ack d o fs) (λ p e. Wires.silent-ack c t net place.me (Some p) d e o fs) own

    up_inquire : Own → Quiet (posted_up place.me parent (Inquire d))
    up_inquire own = up_silent (Inquire d) (λ p e. Wires.silent-inquire c t net place.me (Some p) d e) own

    up_acknowledges : (p : Presumption) → Own → Quiet (acknowledges_abort (seat_of place parent d) p)
    up_acknowledges PresumeAbort own = nothing_sent
    up_acknowledges PresumeCommit own = up_ack AbortedOutcome [] own

    none_or : (b : Bool) (ls : List Envelope) → Quiet ls → Quiet (if b then ls else [])
    none_or true ls f = f
    none_or false ls f = nothing_sent

    up_heard : (why : Reason) (us : List Ticket) → Own
        → Quiet (abort_heard_above (seat_of place parent d) why us)
    up_heard ByVote us own = up_no own
    up_heard ByAct us own = nothing_sent
    up_heard (ByAbort First) us own = up_acknowledges d.txn.presumption own
    up_heard (ByAbort Second) us own = none_or (none_of us) _ (up_acknowledges d.txn.presumption own)

    at_once : (ver : Version) (o : Outcome) → Own
        → Quiet (acknowledges_at_once ver (seat_of place parent d) o)
    at_once First o own = up_ack o [] own
    at_once Second o own = nothing_sent

    at_last : (ver : Version) (o : Outcome) (fs : List Finding) → Own
        → Quiet (acknowledges_at_last ver (seat_of place parent d) o fs)
    at_last First o fs own = nothing_sent
    at_last Second o fs own = up_ack o (in_order fs) own

    -- Messages down.

    none_of_them : (ts : List Ticket) → in_list ts t ≡ false → (same_txn d.txn c.txn && in_list ts t) ≡ false
    none_of_them ts e = rw e (Elsewhere.and-false (same_txn d.txn c.txn))

    each_commit : (ts : List Ticket) → in_list ts t ≡ false → Quiet (each (seat_of place parent d) Commit ts)
    each_commit ts e =
        Wires.wire-commits c t [] (seat_of place parent d) ts false (none_of_them ts e) ∙ nothing_sent

    each_abort : (ts : List Ticket) → in_list ts t ≡ false → Quiet (each (seat_of place parent d) Abort ts)
    each_abort ts e =
        Wires.wire-aborts c t [] (seat_of place parent d) ts false (none_of_them ts e) ∙ nothing_sent

    each_prepare : in_list (coordinator_view place n d).accepted t ≡ false
        → Quiet (prepares (seat_of place parent d) (coordinator_view place n d))
    each_prepare e =
        let v = coordinator_view place n d in
        Wires.wire-prepares c t [] (seat_of place parent d) v v.accepted false (none_of_them v.accepted e)
        ∙ nothing_sent

    one_behind : (xs ys : List Envelope) → Quiet xs → Quiet ys → Quiet (xs ++ ys)
    one_behind xs ys e f = silent_before c t [] xs ys e ∙ f

    -- a child that belongs to the other case is not the pair's
    other_child : (x : Txn) (u : Ticket) → case_of_child place n x u ≡ Some d → same_ticket u t ≡ false
    other_child x u found = elim (same_ticket_tells u t) [
      | inl same ↦ clash (same_case d c)
          (pairs_case turn d
          (subst (λ (y : Ticket). has_accepted n d y ≡ true) same.1 (found_accepted turn x u d found))) other
      | inr f ↦ f.0
    ]

    answer : (o : Outcome) (x : Txn) (u : Ticket) → case_of_child place n x u ≡ Some d
        → Quiet (to_child (seat_of place parent d) (tells_outcome o) u ∷ [])
    answer CommittedOutcome x u found =
        Wires.wire-commit c t [] place.me u.child d.txn u false
        (same_children d.txn c.txn u t
        ∙ rw (other_child x u found) (Elsewhere.and-false (same_txn d.txn c.txn)))
        ∙ nothing_sent
    answer AbortedOutcome x u found =
        Wires.wire-abort c t [] place.me u.child d.txn u false
        (same_children d.txn c.txn u t
        ∙ rw (other_child x u found) (Elsewhere.and-false (same_txn d.txn c.txn)))
        ∙ nothing_sent

    -- Memory.

    rest_to_commit : IsToCommit parent h d → Rests turn
    rest_to_commit (CoordinatorTurns.commit_act x e i) =
        Rested.rest_commit_act turn x i (subst (λ (y : Case). same_case y c ≡ false) e other)
    rest_to_commit (CoordinatorTurns.prepare_comes p k e i) =
        Rested.rest_prepare turn d i.0 k p e i.1 (λ f g. clash (same_case d c) f other)

    rest_to_abort : (why : Reason) → IsToAbort parent h d why → Rests turn
    rest_to_abort _ (CoordinatorTurns.abort_act x e i) =
        Rested.rest_abort_act turn x i (subst (λ (y : Case). same_case y c ≡ false) e other)
    rest_to_abort _ (CoordinatorTurns.abort_comes p e i) =
        Rested.rest_abort turn d i.0 p e i.1 (λ f g. clash (same_case d c) f other)
        (λ f g. clash (same_case d c) f other)

    rest_vote : (u : Ticket) (w : Vote) → HearsChild place n h d u (vote_message w) → Rests turn
    rest_vote u w i =
        Rested.rest_vote turn w i.txn u i.hears.0 i.hears.1
        (λ e f. rw (Rested.others_ticket turn i.txn u d i.belongs other) refl)

    rest_ack : (u : Ticket) (o : Outcome) (fs : List Finding) → HearsChild place n h d u (λ e. Ack e o fs)
        → Rests turn
    rest_ack u o fs i = Rested.rest_ack turn o fs i.txn u i.hears.0 i.hears.1

    rest_inquiry : (u : Ticket) → HearsChild place n h d u Inquire → Rests turn
    rest_inquiry u i = Rested.rest_same turn (Memories.inquires turn (child_case i.txn u) i.hears.0 i.hears.1)

    rest_prepare : (k : ℕ) → HearsParent parent h (Prepare d k) → Rests turn
    rest_prepare k i =
        Rested.rest_prepare turn d i.hears.0 k i.from i.is_parent i.hears.1
        (λ f g. clash (same_case d c) f other)

    rest_commit : HearsParent parent h (Commit d) → Rests turn
    rest_commit i = Rested.rest_same turn (Memories.commit_comes turn d i.hears.0 i.hears.1)

    rest_abort : HearsParent parent h (Abort d) → Rests turn
    rest_abort i =
        Rested.rest_abort turn d i.hears.0 i.from i.is_parent i.hears.1 (λ f g. clash (same_case d c) f other)
        (λ f g. clash (same_case d c) f other)

    rest_nothing : RestsBy place parent n h d → Rests turn
    rest_nothing (CoordinatorTurns.invited_already q i) = Rested.rest_same turn (Memories.join_act turn d q i)
    rest_nothing (CoordinatorTurns.takes_nobody u i f) =
        Rested.rest_joined turn d u i.0 i.1 (λ g k. clash (same_case d c) g other)
    rest_nothing (CoordinatorTurns.counts_nothing u w i f) = rest_vote u w i
    rest_nothing (CoordinatorTurns.owes_nothing u o fs i f) = rest_ack u o fs i
    rest_nothing (CoordinatorTurns.knows_nothing u i) = rest_inquiry u i
    rest_nothing (CoordinatorTurns.prepares_nothing k i f) = rest_prepare k i
    rest_nothing (CoordinatorTurns.commits_nothing i) = rest_commit i
    rest_nothing (CoordinatorTurns.aborts_nothing i f g) = rest_abort i

    own_prepare : (k : ℕ) → HearsParent parent h (Prepare d k) → Own
    own_prepare k i p s = own_told (Prepare d k) i.hears.0 i.hears.1 (λ x. x)

    own_commit : HearsParent parent h (Commit d) → Own
    own_commit i p s = own_told (Commit d) i.hears.0 i.hears.1 (λ x. x)

    own_abort : HearsParent parent h (Abort d) → Own
    own_abort i p s = own_told (Abort d) i.hears.0 i.hears.1 (λ x. x)

    own_of : (u : Ticket) (says : Case → Message) → HearsChild place n h d u says → Own
    own_of u says i p s = own_child i.txn u i.belongs

    -- The rows.

    -- what the pair's case has on its lists after the row
    pub record After (row : Row) : Type 0 where
      pub alike : IsOpenAlike place (after n h (row_effect d row)) c

    aborts_by : (why : Reason) (v : CoordinatorView) (us : List Ticket) (p : Presumption)
        → (row : Row) → row ≡ collecting_abort_by (seat_of place parent d) why v us p → After row
        → Rests turn → Own
        → (parent ≡ None → d.ticket ≡ None) → in_list us t ≡ false → Fine turn (row_effect d row)
    aborts_by why v us PresumeAbort row e later rests own top f =
        Elsewhere.row_fine turn d other row later.alike rests
        (ap (λ (x : Row). wire c t x.messages) e ∙ one_behind _ _ (up_heard why us own) (each_abort us f))
        (subst (λ (x : Row). Told x.told) (sym e) (told_elsewhere _ top))
        (one_plain (AbortRecord d []) (ap (λ (x : Row). x.written) e) (Elsewhere.other_abort turn d other []))
    aborts_by why v us PresumeCommit row e later rests own top f =
        Elsewhere.row_fine turn d other row later.alike rests
        (ap (λ (x : Row). wire c t x.messages) e ∙ one_behind _ _ (up_heard why us own) (each_abort us f))
        (subst (λ (x : Row). Told x.told) (sym e) (told_elsewhere _ top))
        (one_forced (AbortRecord d us) (ap (λ (x : Row). x.written) e)
        (Elsewhere.other_abort turn d other us))

    root_of : (u : Ticket) (says : Case → Message) → HearsChild place n h d u says → parent ≡ None
        → d.ticket ≡ None
    root_of u says i s = root_found i.txn u s i.belongs

    row_fine : (row : Row) → After row → Rests turn → Quiet row.messages → Told row.told
        → WroteElsewhere turn d other row.written
        → Fine turn (row_effect d row)
    row_fine row later rests q told w = Elsewhere.row_fine turn d other row later.alike rests q told w

    asks_by : (v : CoordinatorView) (p : Presumption) → v ≡ coordinator_view place n d
        → After (active_commit_with (seat_of place parent d) v p)
        → Rests turn → in_list (coordinator_view place n d).accepted t ≡ false
        → Fine turn (row_effect d (active_commit_with (seat_of place parent d) v p))
    asks_by v PresumeAbort e later rests f =
        row_fine (active_commit_with (seat_of place parent d) v PresumeAbort) later rests
        (ap (λ (x : CoordinatorView). wire c t (prepares (seat_of place parent d) x)) e ∙ each_prepare f)
        (inl refl)
        (none_written refl)
    asks_by v PresumeCommit e later rests f =
        row_fine (active_commit_with (seat_of place parent d) v PresumeCommit) later rests
        (ap (λ (x : CoordinatorView). wire c t (prepares (seat_of place parent d) x)) e ∙ each_prepare f)
        (inl refl)
        (one_forced (CollectingRecord d v.accepted) refl (Elsewhere.other_collecting turn d other v.accepted))

    reads_by : (p : Presumption) → WroteElsewhere turn d other (read_only_end (seat_of place parent d) p)
    reads_by PresumeAbort = none_written refl
    reads_by PresumeCommit = one_plain (EndRecord d None) refl (Elsewhere.other_end turn d other None)

    commits_by : (w : (Ticket × Vote)) (v : CoordinatorView) (ys : List Ticket) (p : Presumption)
        → After (record (root_commits (seat_of place parent d) v ys p) { counts = w ∷ [] })
        → Rests turn → in_list ys t ≡ false → same_txn d.txn c.txn ≡ false
        → Fine turn (row_effect d (record (root_commits (seat_of place parent d) v ys p) { counts = w ∷ [] }))
    commits_by w v ys PresumeAbort later rests f x =
        row_fine (record (root_commits (seat_of place parent d) v ys PresumeAbort) { counts = w ∷ [] })
        later rests
        (each_commit ys f) (inr x)
        (one_forced (CommitRecord d ys) refl (Elsewhere.other_commit turn d other ys))
    commits_by w v ys PresumeCommit later rests f x =
        row_fine (record (root_commits (seat_of place parent d) v ys PresumeCommit) { counts = w ∷ [] })
        later rests
        (each_commit ys f) (inr x)
        (one_forced (CommitRecord d []) refl (Elsewhere.other_commit turn d other []))

    passes_commit : (p : Presumption)
        → After (prepared_commit_by h.version (seat_of place parent d) (coordinator_view place n d) p)
        → Rests turn → Own → in_list (coordinator_view place n d).promised t ≡ false
        → Fine turn (row_effect d (prepared_commit_by h.version (seat_of place parent d)
        (coordinator_view place n d) p))
    passes_commit PresumeAbort later rests own f =
        row_fine _ later rests (one_behind _ _ (at_once h.version CommittedOutcome own) (each_commit _ f))
        (inl refl)
        (one_forced _ refl (Elsewhere.other_commit turn d other _))
    passes_commit PresumeCommit later rests own f =
        row_fine _ later rests (each_commit _ f) (inl refl)
        (one_plain _ refl (Elsewhere.other_commit turn d other []))

    passes_abort : (p : Presumption)
        → After (prepared_abort_by h.version (seat_of place parent d) (coordinator_view place n d) p)
        → Rests turn → Own → in_list (coordinator_view place n d).promised t ≡ false
        → Fine turn (row_effect d (prepared_abort_by h.version (seat_of place parent d)
        (coordinator_view place n d) p))
    passes_abort PresumeAbort later rests own f =
        row_fine _ later rests (each_abort _ f) (inl refl)
        (one_plain _ refl (Elsewhere.other_abort turn d other []))
    passes_abort PresumeCommit later rests own f =
        row_fine _ later rests (one_behind _ _ (at_once h.version AbortedOutcome own) (each_abort _ f))
        (inl refl)
        (one_forced _ refl (Elsewhere.other_abort turn d other _))

    own_outcome : (o : Outcome) → HearsParent parent h (tells_outcome o d) → Own
    own_outcome CommittedOutcome i = own_commit i
    own_outcome AbortedOutcome i = own_abort i

    rest_outcome : (o : Outcome) → HearsParent parent h (tells_outcome o d) → Rests turn
    rest_outcome CommittedOutcome i = rest_commit i
    rest_outcome AbortedOutcome i = rest_abort i

    pub turn_elsewhere : (row : Row) → CaseTurn place parent n h d row → After row
        → Fine turn (row_effect d row)
    turn_elsewhere _ (CoordinatorTurns.rests r) later =
        row_fine _ later (rest_nothing r) nothing_sent (inl refl) (none_written refl)
    turn_elsewhere _ (CoordinatorTurns.invites q i e f g) later =
        row_fine _ later (Rested.rest_same turn (Memories.join_act turn d q i))
        (Wires.silent-join c t net place.me q d) (inl refl)
        (none_written refl)
    turn_elsewhere _ (CoordinatorTurns.accepts u i e f) later =
        row_fine _ later (Rested.rest_joined turn d u i.0 i.1 (λ g k. clash (same_case d c) g other))
        nothing_sent (inl refl)
        (none_written refl)
    turn_elsewhere _ (CoordinatorTurns.sends_work q u op i e f g) later =
        row_fine _ later (Rested.rest_work turn d q op i)
        (Wires.silent-work c t net place.me u.child (child_case d.txn u) _ op) (inl refl)
        (none_written refl)
    turn_elsewhere _ (CoordinatorTurns.finds_nobody i e f) later =
        row_fine _ later (rest_to_commit i) (up_read (own_active e)) (told_elsewhere _ (to_commit_root i))
        (none_written refl)
    turn_elsewhere _ (CoordinatorTurns.asks_for_votes p i e f q) later =
        asks_by (coordinator_view place n d) p refl later (rest_to_commit i)
        (Elsewhere.active_apart turn d other e)
    turn_elsewhere _ (CoordinatorTurns.gives_up why p i e q) later =
        row_fine _ later (rest_to_abort why i)
        (one_behind _ _ (up_acknowledges p (own_active e))
        (each_abort _ (Elsewhere.active_apart turn d other e)))
        (told_elsewhere _ (to_abort_root why i)) (none_written refl)
    turn_elsewhere _ (CoordinatorTurns.counts_vote u w i k e) later =
        row_fine _ later (rest_vote u w i.hears) nothing_sent (inl refl) (none_written refl)
    turn_elsewhere _ (CoordinatorTurns.reads_only u w ys p i e q) later =
        row_fine _ later (rest_vote u w i.vote.hears) (up_read (own_collecting i.vote.stands))
        (told_elsewhere _ (root_of u _ i.vote.hears)) (reads_by p)
    turn_elsewhere _ (CoordinatorTurns.commits u w ys p i e s q) later =
        commits_by (u, w) (CoordinatorTurns.voted (coordinator_view place n d) u w) ys p later
        (rest_vote u w i.vote.hears)
        (ap (λ ts. in_list ts t) (sym i.yes)
        ∙ Elsewhere.in_yes _ _ t (Elsewhere.collecting_apart turn d other i.vote.stands))
        (Elsewhere.unticketed_apart turn d other s (root_of u _ i.vote.hears s))
    turn_elsewhere _ (CoordinatorTurns.promises u w ys p i e s) later =
        row_fine _ later (rest_vote u w i.vote.hears) (up_yes (own_collecting i.vote.stands)) (inl refl)
        (one_forced (PrepareRecord d ys) refl (Elsewhere.other_prepare turn d other ys))
    turn_elsewhere _ (CoordinatorTurns.hears_no u us p i f q) later =
        let v = coordinator_view place n d in
        aborts_no u us p i f later
      where
        aborts_no : (u : Ticket) (us : List Ticket) (p : Presumption) → CountsVote place n h d u VoteNo
            → undecided_of (coordinator_view place n d).accepted
            (CoordinatorTurns.voted (coordinator_view place n d) u VoteNo).votes ≡ us
            → After (CoordinatorTurns.counting u VoteNo
            (collecting_abort_by (seat_of place parent d) ByVote
            (CoordinatorTurns.voted (coordinator_view place n d) u VoteNo) us p))
            → Fine turn (row_effect d (CoordinatorTurns.counting u VoteNo
            (collecting_abort_by (seat_of place parent d) ByVote
            (CoordinatorTurns.voted (coordinator_view place n d) u VoteNo) us p)))
        aborts_no u us PresumeAbort i f later =
            row_fine _ later (rest_vote u VoteNo i.hears)
            (one_behind _ _ (up_heard ByVote us (own_collecting i.stands))
            (each_abort us (ap (λ ts. in_list ts t) (sym f)
            ∙ Elsewhere.in_undecided _ _ t (Elsewhere.collecting_apart turn d other i.stands))))
            (told_elsewhere _ (root_of u _ i.hears))
            (one_plain _ refl (Elsewhere.other_abort turn d other []))
        aborts_no u us PresumeCommit i f later =
            row_fine _ later (rest_vote u VoteNo i.hears)
            (one_behind _ _ (up_heard ByVote us (own_collecting i.stands))
            (each_abort us (ap (λ ts. in_list ts t) (sym f)
            ∙ Elsewhere.in_undecided _ _ t (Elsewhere.collecting_apart turn d other i.stands))))
            (told_elsewhere _ (root_of u _ i.hears))
            (one_forced _ refl (Elsewhere.other_abort turn d other us))
    turn_elsewhere _ (CoordinatorTurns.aborts why us p i e f q) later =
        aborts_by why (coordinator_view place n d) us p _ refl later (rest_to_abort why i)
        (own_collecting e) (to_abort_root why i)
        (ap (λ ts. in_list ts t) (sym f)
        ∙ Elsewhere.in_undecided _ _ t (Elsewhere.collecting_apart turn d other e))
    turn_elsewhere _ (CoordinatorTurns.passes_commit p i e q) later =
        passes_commit p later (rest_commit i) (own_commit i) (Elsewhere.prepared_apart turn d other e)
    turn_elsewhere _ (CoordinatorTurns.passes_abort p i e q) later =
        passes_abort p later (rest_abort i) (own_abort i) (Elsewhere.prepared_apart turn d other e)
    turn_elsewhere _ (CoordinatorTurns.repeats_yes k i e) later =
        row_fine _ later (rest_prepare k i) (up_yes (own_prepare k i)) (inl refl) (none_written refl)
    turn_elsewhere _ (CoordinatorTurns.asks i e) later =
        row_fine _ later (Rested.rest_same turn (Memories.ask_act turn d i)) (up_inquire (own_prepared e))
        (inl refl)
        (none_written refl)
    turn_elsewhere _ (CoordinatorTurns.refuses k i e) later =
        row_fine _ later (rest_prepare k i) (up_no (own_prepare k i)) (inl refl) (none_written refl)
    turn_elsewhere _ (CoordinatorTurns.acknowledges o fs i e) later =
        row_fine _ later (rest_outcome o i) (up_ack o fs (own_outcome o i)) (inl refl) (none_written refl)
    turn_elsewhere _ (CoordinatorTurns.waits_for_acks u o fs i e f g) later =
        row_fine _ later (rest_ack u o fs i) nothing_sent (inl refl) (none_written refl)
    turn_elsewhere _ (CoordinatorTurns.ends u o fs i e f g) later =
        row_fine _ later (rest_ack u o fs i)
        (at_last h.version o (found_below place n d o fs) (own_of u (λ e. Ack e o fs) i)) (inl refl)
        (Elsewhere.ended_by turn d other (end_reports h.version parent (found_below place n d o fs)))
    turn_elsewhere _ (CoordinatorTurns.clears i e f g) later =
        row_fine _ later (Rested.rest_same turn (Memories.forget_act turn d i)) nothing_sent (inl refl)
        (one_forced (ClearedRecord d) refl (cleared_unrelated turn d))
    turn_elsewhere _ (CoordinatorTurns.answers u o i e) later =
        row_fine _ later (rest_inquiry u i) (answer o i.txn u i.belongs) (inl refl) (none_written refl)

    -- what the pair's case remembers after the turn
    pub rests_elsewhere : (row : Row) → CaseTurn place parent n h d row → Rests turn
    rests_elsewhere _ (CoordinatorTurns.rests r) = rest_nothing r
    rests_elsewhere _ (CoordinatorTurns.invites q i e f g) =
        Rested.rest_same turn (Memories.join_act turn d q i)
    rests_elsewhere _ (CoordinatorTurns.accepts u i e f) =
        Rested.rest_joined turn d u i.0 i.1 (λ g k. clash (same_case d c) g other)
    rests_elsewhere _ (CoordinatorTurns.sends_work q u op i e f g) = Rested.rest_work turn d q op i
    rests_elsewhere _ (CoordinatorTurns.finds_nobody i e f) = rest_to_commit i
    rests_elsewhere _ (CoordinatorTurns.asks_for_votes p i e f q) = rest_to_commit i
    rests_elsewhere _ (CoordinatorTurns.gives_up why p i e q) = rest_to_abort why i
    rests_elsewhere _ (CoordinatorTurns.counts_vote u w i k e) = rest_vote u w i.hears
    rests_elsewhere _ (CoordinatorTurns.reads_only u w ys p i e q) = rest_vote u w i.vote.hears
    rests_elsewhere _ (CoordinatorTurns.commits u w ys p i e s q) = rest_vote u w i.vote.hears
    rests_elsewhere _ (CoordinatorTurns.promises u w ys p i e s) = rest_vote u w i.vote.hears
    rests_elsewhere _ (CoordinatorTurns.hears_no u us p i f q) = rest_vote u VoteNo i.hears
    rests_elsewhere _ (CoordinatorTurns.aborts why us p i e f q) = rest_to_abort why i
    rests_elsewhere _ (CoordinatorTurns.passes_commit p i e q) = rest_commit i
    rests_elsewhere _ (CoordinatorTurns.passes_abort p i e q) = rest_abort i
    rests_elsewhere _ (CoordinatorTurns.repeats_yes k i e) = rest_prepare k i
    rests_elsewhere _ (CoordinatorTurns.asks i e) = Rested.rest_same turn (Memories.ask_act turn d i)
    rests_elsewhere _ (CoordinatorTurns.refuses k i e) = rest_prepare k i
    rests_elsewhere _ (CoordinatorTurns.acknowledges o fs i e) = rest_outcome o i
    rests_elsewhere _ (CoordinatorTurns.waits_for_acks u o fs i e f g) = rest_ack u o fs i
    rests_elsewhere _ (CoordinatorTurns.ends u o fs i e f g) = rest_ack u o fs i
    rests_elsewhere _ (CoordinatorTurns.clears i e f g) = Rested.rest_same turn (Memories.forget_act turn d i)
    rests_elsewhere _ (CoordinatorTurns.answers u o i e) = rest_inquiry u i
