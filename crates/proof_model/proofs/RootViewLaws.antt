-- The root's new view is what the extended lists read as.
use Rattle.std.proofs.Common.{◌≡◌, subst, ◌∙◌, ap, sym, ℕ, Bool, true, false, Some, None, List, [], ◌∷◌, ◌++◌, refl, if◌then◌else◌, Option}
use Rattle.std.specs.Prelude.{fold, is_some}
use Rattle.std.proofs.lemmas.List.{append-nil}
use Rattle.protocol.specs.declared.names.Case.{Case}
use Rattle.protocol.specs.declared.names.ProcessId.{ProcessId}
use Rattle.protocol.specs.declared.names.Ticket.{Ticket}
use Rattle.protocol.specs.declared.names.Txn.{Txn}
use Rattle.protocol.specs.declared.names.Outcome.{Outcome}
use Rattle.protocol_words.specs.Variants.{AbortAct, AbortRecord, AbortedOutcome, CollectingRecord, CommitAct, CommitRecord, CommittedOutcome, EndRecord, JoinAct, MessageInput, VoteNo, VoteRead, VoteYes, WorkAct}
use Rattle.protocol.specs.declared.names.Presumption.{Presumption}
use Rattle.protocol.specs.declared.names.Presumption.TheVariants.{PresumeAbort, PresumeCommit}
use Rattle.protocol.specs.declared.messages.Op.{Op}
use Rattle.protocol.specs.declared.messages.Finding.{Finding}
use Rattle.protocol.specs.declared.messages.Message.TheVariants.{Join, Joined, Ack, Inquire}
use Rattle.protocol.specs.declared.standings.Vote.{Vote}
use Rattle.protocol.specs.declared.trees.TreeProcess.{TreeProcess}
use Rattle.protocol.specs.declared.records.Record.{Record}
use Rattle.protocol.specs.declared.standings.Standing.{Standing}
use Rattle.protocol.specs.declared.standings.Standing.TheVariants.{Unknown, Active, Collecting, Prepared, Committing, Aborting, Heuristic}
use Rattle.protocol.specs.Names.{same_txn, same_case, root_case, child_case}
use Rattle.protocol.specs.NameLaws.{same_case-refl, same_txn-refl}
use Rattle.protocol.specs.Records.{has, in_list, none_of, boot_of, boot_after, is_end, is_commit, is_abort, is_prepare, is_collecting, owing_by}
use Rattle.protocol.specs.Nodes.{Version, Place, Node, kept, Heard, entries_written, DataAnswer}
use Rattle.protocol.specs.Memory.{Memory, Phase, Idle, Open, Asked, Over, memory_of, root_remembers, asks_votes, closes, with_vote, takes_vote, takes_ack, is_counted, all_voted, yes_of, undecided_of, sends_work, accepts_ticket, has_child, ticket_of_child}
use Rattle.protocol.specs.Standings.{CoordinatorView, unknown_view, coordinator_view, coordinator_standing, view_at}
use Rattle.protocol.specs.CoordinatorRows.{Seat, Row, active_commit, active_abort, Reason, ByVote, ByAct, collecting_abort, collecting_abort_by, collecting_after, collecting_vote, collecting_full, collecting_read_only, read_only_end, decides, root_commits, decided_ack, other_tickets, on_ack, on_vote, on_joined, on_inquiry, quiet, sends, post, ends_with, end_reports, acknowledges_at_last, active_joined, active_join, active_work}
use Rattle.protocol.specs.Reactions.{row_effect}
use Rattle.protocol.specs.Views.{root_place, root_seat, hears_act, hears_message, vote_message, MovesTxn, RootViews, IsOpenAlike}
use Rattle.proof_model.proofs.TicketLaws.{pushed, undecided_owes}
use Rattle.proof_model.proofs.StandingLaws.{ActiveFacts, active_facts, phase_active, view_standing, view-after, standing_with, not_accepted, not_taken, phase_standing_known, never_heuristic, prepared_facts, phase_unprepared}
use Rattle.proof_model.proofs.AckLaws.{acked, acked_commit, acked_abort, refused_commit, refused_abort, unawaited, promised_ack}
use Rattle.proof_model.proofs.FoundLaws.{nothing_noted, root_noted_all}
use Rattle.proof_model.proofs.RootRowLaws.{commit_row, commit_pure, abort_pure, CollectingFacts, collecting_facts, collecting_abort_pure, same_pure, read_only_pure, root_commits_pure}
use Rattle.proof_model.proofs.PhaseLaws.{memory_quiet, asked_quiet}
use Rattle.protocol.specs.declared.records.Reports.{Reports}

-- What a message or an act of another transaction leaves: nothing moves.

pub apart_case : (x y : Txn) → same_txn x y ≡ false → same_case (root_case x) (root_case y) ≡ false
unfolding same_case
apart_case x y o = rw o refl

pub record IsRowOfCase (c : Case) (row : Row) : Type 0 where
  pub boot : (b : ℕ) → fold boot_after b (entries_written row.written) ≡ b
  pub others : (d : Case) (rs : List Record) (m : Memory) → same_case c d ≡ false
      → view_at (coordinator_standing (rs ++ entries_written row.written) d m)
      (rs ++ entries_written row.written) d m ≡ view_at (coordinator_standing rs d m) rs d m

pub quiet_of : (c : Case) (row : Row) → row.written ≡ [] → IsRowOfCase c row
quiet_of c row h = record { boot = λ b. rw h refl; others = λ d rs m o. rw h (simp append-nil refl) }

pub end_of : (c : Case) (rep : Option Reports) (row : Row) (b : Bool)
    → row.written ≡ record { entry = EndRecord c rep; is_forced = b } ∷ [] → IsRowOfCase c row
end_of c rep row b h = record { boot = λ b. rw h refl; others = λ d rs m o. rw h (simp (pushed, o) refl) }

pub commit_of : (c : Case) (ts : List Ticket) (row : Row) (b : Bool)
    → row.written ≡ record { entry = CommitRecord c ts; is_forced = b } ∷ [] → IsRowOfCase c row
commit_of c ts row b h = record { boot = λ b. rw h refl; others = λ d rs m o. rw h (simp (pushed, o) refl) }

pub abort_of : (c : Case) (ts : List Ticket) (row : Row) (b : Bool)
    → row.written ≡ record { entry = AbortRecord c ts; is_forced = b } ∷ [] → IsRowOfCase c row
abort_of c ts row b h = record { boot = λ b. rw h refl; others = λ d rs m o. rw h (simp (pushed, o) refl) }

pub collecting_of : (c : Case) (ts : List Ticket) (row : Row) (b : Bool)
    → row.written ≡ record { entry = CollectingRecord c ts; is_forced = b } ∷ [] → IsRowOfCase c row
collecting_of c ts row b h = record {
  boot = λ b. rw h refl;
  others = λ d rs m o. rw h (simp (pushed, o) refl);
}

-- Whole rows.

-- the view that lists and a memory give
abbrev pub read_view : List Record → Case → Memory → CoordinatorView
read_view rs c m = view_at (standing_with c.txn.presumption rs c m) rs c m

pub here : (c : Case) (m r : Memory) → (if same_case c c then r else m) ≡ r
here c m r = rw (same_case-refl c) refl

module _ (ver : Version) (me : ProcessId) (tree : List TreeProcess) (n : Node) (x : Txn) where
  abbrev place : Place
  place = root_place me tree

  abbrev c : Case
  c = root_case x

  abbrev seat : Seat
  seat = root_seat me c

  abbrev m : Memory
  m = memory_of place n c

  abbrev boot : ℕ
  boot = boot_of (kept n)

  abbrev rs : List Record
  rs = kept n

  assembled : (h : Heard) (row : Row) → IsRowOfCase c row
      → read_view (rs ++ entries_written row.written) c (root_remembers me boot c m h.input) ≡ row.view
      → ((y : Txn) → same_txn x y ≡ false → root_remembers me boot (root_case y)
      (memory_of place n (root_case y)) h.input ≡ memory_of place n (root_case y))
      → MovesTxn place n h x row
  unfolding coordinator_view
  assembled h row own moved others =
      record {
        moved = view-after place n h (row_effect c row) c own.boot ∙ moved;
        others = λ y o.
            view-after place n h (row_effect c row) (root_case y) own.boot
            ∙ rw (others y o) (own.others (root_case y) rs (memory_of place n (root_case y))
            (apart_case x y o));
      }

  -- from the view's standing to the lists
  pub stands_as : (s : Standing) → (coordinator_view place n c).standing ≡ s
      → standing_with x.presumption rs c m ≡ s
  unfolding coordinator_view
  stands_as s h = sym (view_standing (coordinator_standing rs c m) rs c m) ∙ h

  pub seen_as : (s : Standing) → standing_with x.presumption rs c m ≡ s
      → coordinator_view place n c ≡ view_at s rs c m
  unfolding coordinator_view
  seen_as s h = ap (λ q. view_at q rs c m) h

  pub elsewhere : (y : Txn) (r w : Memory) → same_txn x y ≡ false
      → (if same_case c (root_case y) then r else w) ≡ w
  elsewhere y r w o = rw (apart_case x y o) refl

  -- the commit act

  commit_is_of : (v : CoordinatorView) (p : Presumption) (b : Bool) → IsRowOfCase c (commit_row seat v p b)
  commit_is_of v p true = quiet_of c _ refl
  commit_is_of v PresumeAbort false = quiet_of c _ refl
  commit_is_of v PresumeCommit false = collecting_of c v.accepted _ true refl

  commit_at : (a : DataAnswer) → standing_with x.presumption rs c m ≡ Active
      → MovesTxn place n (hears_act ver (CommitAct x) a) x (active_commit seat (view_at Active rs c m))
  commit_at a h =
      let f = active_facts _ _ _ _ _ _ _ h in
      let opened : m.phase ≡ Open = phase_active x.presumption m.phase f.heard in
      let g : ActiveFacts (has (is_end c) rs) (has (is_commit c) rs) (has (is_abort c) rs)
      (has (is_prepare c) rs) (has (is_collecting c) rs) Active =
      record {
        no_end = f.no_end;
        no_commit = f.no_commit;
        no_abort = f.no_abort;
        no_prepare = f.no_prepare;
        no_collecting = f.no_collecting;
        heard = refl;
      } in
      let row = active_commit seat (view_at Active rs c m) in
      assembled (hears_act ver (CommitAct x) a) row
      (commit_is_of (view_at Active rs c m) x.presumption (none_of m.accepted))
      (ap (λ w. read_view (rs ++ entries_written row.written) c w)
      (here c m (asks_votes m m.phase) ∙ ap (λ ph. asks_votes m ph) opened)
      ∙ commit_pure me c x.presumption (none_of m.accepted) rs m g)
      (λ y o. elsewhere y _ _ o)

  pub commit_views : (a : DataAnswer) → let v = coordinator_view place n c in
      v.standing ≡ Active → MovesTxn place n (hears_act ver (CommitAct x) a) x (active_commit seat v)
  commit_views a h =
      let s = stands_as Active h in
      let P : CoordinatorView → Type 0 = λ v. MovesTxn place n (hears_act ver (CommitAct x) a) x
      (active_commit seat v) in
      subst P (sym (seen_as Active s)) (commit_at a s)

  -- the abort act

  abort_at : (a : DataAnswer) → standing_with x.presumption rs c m ≡ Active
      → MovesTxn place n (hears_act ver (AbortAct x) a) x (active_abort seat (view_at Active rs c m))
  abort_at a h =
      let f = active_facts _ _ _ _ _ _ _ h in
      let opened : m.phase ≡ Open = phase_active x.presumption m.phase f.heard in
      let g : ActiveFacts (has (is_end c) rs) (has (is_commit c) rs) (has (is_abort c) rs)
      (has (is_prepare c) rs) (has (is_collecting c) rs) Active =
      record {
        no_end = f.no_end;
        no_commit = f.no_commit;
        no_abort = f.no_abort;
        no_prepare = f.no_prepare;
        no_collecting = f.no_collecting;
        heard = refl;
      } in
      assembled (hears_act ver (AbortAct x) a) (active_abort seat (view_at Active rs c m)) (quiet_of c _ refl)
      (ap (λ w. read_view (rs ++ []) c w) (here c m (closes m m.phase) ∙ ap (λ ph. closes m ph) opened)
      ∙ abort_pure me c x.presumption rs m g)
      (λ y o. elsewhere y _ _ o)

  pub abort_active_views : (a : DataAnswer) → let v = coordinator_view place n c in
      v.standing ≡ Active → MovesTxn place n (hears_act ver (AbortAct x) a) x (active_abort seat v)
  abort_active_views a h =
      let s = stands_as Active h in
      let P : CoordinatorView → Type 0 = λ v. MovesTxn place n (hears_act ver (AbortAct x) a) x
      (active_abort seat v) in
      subst P (sym (seen_as Active s)) (abort_at a s)

  -- the abort act at a case that collects votes

  collecting_of_abort : (why : Reason) (v : CoordinatorView) (us : List Ticket) (p : Presumption)
      → IsRowOfCase c (collecting_abort_by seat why v us p)
  collecting_of_abort why v us PresumeAbort = abort_of c [] _ false refl
  collecting_of_abort why v us PresumeCommit = abort_of c us _ true refl

  acks_of : IsOpenAlike place n c → standing_with x.presumption rs c m ≡ Collecting → m.acks ≡ []
  unfolding coordinator_view
  acks_of alike h =
      asked_quiet m (memory_quiet me tree n c)
      (alike.collecting_is_asked (view_standing (coordinator_standing rs c m) rs c m ∙ h))

  found_of_none : IsOpenAlike place n c → standing_with x.presumption rs c m ≡ Collecting → m.found ≡ []
  found_of_none alike h = nothing_noted m.acks m.found (root_noted_all me tree n c) (acks_of alike h)

  asked_of : IsOpenAlike place n c → standing_with x.presumption rs c m ≡ Collecting → m.phase ≡ Asked
  unfolding coordinator_view
  asked_of alike h = alike.collecting_is_asked (view_standing (coordinator_standing rs c m) rs c m ∙ h)

  collecting_at : (a : DataAnswer) → IsOpenAlike place n c → standing_with x.presumption rs c m ≡ Collecting
      → MovesTxn place n (hears_act ver (AbortAct x) a) x
      (collecting_abort seat ByAct (view_at Collecting rs c m))
  collecting_at a alike h =
      let f = collecting_facts _ _ _ _ _ _ _ h in
      let us = undecided_of m.accepted m.votes in
      let row = collecting_abort seat ByAct (view_at Collecting rs c m) in
      assembled (hears_act ver (AbortAct x) a) row
      (collecting_of_abort ByAct (view_at Collecting rs c m) us x.presumption)
      (ap (λ w. read_view (rs ++ entries_written row.written) c w)
      (here c m (closes m m.phase) ∙ ap (λ ph. closes m ph) (asked_of alike h))
      ∙ collecting_abort_pure me c x.presumption ByAct (none_of us) us rs m f
      (undecided_owes c rs f.no_commit f.no_abort) (acks_of alike h) (found_of_none alike h) refl)
      (λ y o. elsewhere y _ _ o)

  pub abort_collecting_views : (a : DataAnswer) → let v = coordinator_view place n c in
      IsOpenAlike place n c → v.standing ≡ Collecting
      → MovesTxn place n (hears_act ver (AbortAct x) a) x (collecting_abort seat ByAct v)
  abort_collecting_views a alike h =
      let s = stands_as Collecting h in
      let P : CoordinatorView → Type 0 = λ v. MovesTxn place n (hears_act ver (AbortAct x) a) x
      (collecting_abort seat ByAct v) in
      subst P (sym (seen_as Collecting s)) (collecting_at a alike s)

  -- rows that write nothing and leave the view

  quiet_views : (h : Heard) (row : Row) → row.written ≡ [] → row.view ≡ coordinator_view place n c
      → root_remembers me boot c m h.input ≡ m
      → ((y : Txn) → same_txn x y ≡ false → root_remembers me boot (root_case y)
      (memory_of place n (root_case y)) h.input ≡ memory_of place n (root_case y))
      → MovesTxn place n h x row
  unfolding coordinator_view
  quiet_views h row quiet view same others =
      assembled h row (quiet_of c row quiet)
      (rw (quiet, same) (simp append-nil (sym view)))
      others

  join_row : (q : ProcessId) (v : CoordinatorView) (b : Bool) → let row = if b then quiet v
      else sends (post me q (Join c) ∷ []) v in (row.written ≡ []) × (row.view ≡ v)
  join_row q v true = (refl, refl)
  join_row q v false = (refl, refl)

  pub join_views : (a : DataAnswer) (q : ProcessId) → let v = coordinator_view place n c in
      MovesTxn place n (hears_act ver (JoinAct c q) a) x (active_join seat q v)
  join_views a q =
      let v = coordinator_view place n c in
      let r = join_row q v (has_child v.accepted q) in
      quiet_views (hears_act ver (JoinAct c q) a) (active_join seat q v) r.0 r.1 refl (λ y o. refl)

  inquiry_row : (t : Ticket) (v : CoordinatorView) (s : Standing)
      → ((on_inquiry seat t v s).written ≡ []) × ((on_inquiry seat t v s).view ≡ v)
  inquiry_row t v Unknown = (refl, refl)
  inquiry_row t v Active = (refl, refl)
  inquiry_row t v Collecting = (refl, refl)
  inquiry_row t v Prepared = (refl, refl)
  inquiry_row t v Committing = (refl, refl)
  inquiry_row t v Aborting = (refl, refl)
  inquiry_row t v Heuristic = (refl, refl)

  pub inquiry_views : (k : ℕ) (a : DataAnswer) (t : Ticket) → let v = coordinator_view place n c in
      MovesTxn place n (hears_message ver k (Inquire (child_case x t)) a) x (on_inquiry seat t v v.standing)
  inquiry_views k a t =
      let v = coordinator_view place n c in
      let r = inquiry_row t v v.standing in
      quiet_views (hears_message ver k (Inquire (child_case x t)) a)
      (on_inquiry seat t v v.standing) r.0 r.1 refl
      (λ y o. refl)

  -- work

  work_at : (a : DataAnswer) (q : ProcessId) (t : Ticket) (op : Op)
      → standing_with x.presumption rs c m ≡ Active → ticket_of_child m.accepted q ≡ Some t
      → MovesTxn place n (hears_act ver (WorkAct c q op) a) x (active_work seat t op (view_at Active rs c m))
  work_at a q t op h found =
      let f = active_facts _ _ _ _ _ _ _ h in
      let opened : m.phase ≡ Open = phase_active x.presumption m.phase f.heard in
      let m' : Memory = record m { works = m.works ++ t ∷ [] } in
      assembled (hears_act ver (WorkAct c q op) a) (active_work seat t op (view_at Active rs c m))
      (quiet_of c _ refl)
      (ap (λ w. read_view (rs ++ []) c w)
      (here c m (sends_work m (ticket_of_child m.accepted q) m.phase) ∙ ap (λ u. sends_work m u m.phase) found
      ∙ ap (λ ph. sends_work m (Some t) ph) opened)
      ∙ same_pure c x.presumption Active rs m m' h refl)
      (λ y o. elsewhere y _ _ o)

  pub work_views : (a : DataAnswer) (q : ProcessId) (t : Ticket) (op : Op) → let v =
      coordinator_view place n c in
      v.standing ≡ Active → ticket_of_child v.accepted q ≡ Some t
      → MovesTxn place n (hears_act ver (WorkAct c q op) a) x (active_work seat t op v)
  work_views a q t op h found =
      let s = stands_as Active h in
      let P : CoordinatorView → Type 0 = λ v. MovesTxn place n (hears_act ver (WorkAct c q op) a) x
      (active_work seat t op v) in
      let here_found : ticket_of_child m.accepted q ≡ Some t =
      ap (λ (v : CoordinatorView). ticket_of_child v.accepted q) (sym (seen_as Active s)) ∙ found in
      subst P (sym (seen_as Active s)) (work_at a q t op s here_found)

  -- JOINED

  not_open : IsOpenAlike place n c → (s : Standing) → standing_with x.presumption rs c m ≡ s
      → (s ≡ Active → ⊥) → m.phase ≡ Open → ⊥
  unfolding coordinator_view
  not_open alike s h d e = d (sym h ∙ (sym (view_standing (coordinator_standing rs c m) rs c m)
      ∙ alike.open_is_active e))

  not_asked : IsOpenAlike place n c → (s : Standing) → standing_with x.presumption rs c m ≡ s
      → (s ≡ Collecting → ⊥) → m.phase ≡ Asked → ⊥
  unfolding coordinator_view
  not_asked alike s h d e = d (sym h ∙ (sym (view_standing (coordinator_standing rs c m) rs c m)
      ∙ alike.asked_is_collecting e))

  accepted_at : (t : Ticket) (b : Bool) → standing_with x.presumption rs c m ≡ Active
      → let v = view_at Active rs c m in
      let row = if b then quiet v else record {
        written = [];
        told = None;
        messages = [];
        accepts = t ∷ [];
        counts = [];
        view = record v { accepted = v.accepted ++ t ∷ [] };
      } in
      (row.written ≡ []) × (read_view (rs ++ []) c
      (if b then m else record m { accepted = m.accepted ++ t ∷ [] }) ≡ row.view)
  accepted_at t true h = (refl, same_pure c x.presumption Active rs m m h refl)
  accepted_at t false h = (
    refl,
    same_pure c x.presumption Active rs m
        (record m { accepted = m.accepted ++ t ∷ [] }) h refl,
  )

  joined_active : (k : ℕ) (a : DataAnswer) (t : Ticket) → standing_with x.presumption rs c m ≡ Active
      → MovesTxn place n (hears_message ver k (Joined c t) a) x (active_joined t (view_at Active rs c m))
  joined_active k a t h =
      let f = active_facts _ _ _ _ _ _ _ h in
      let opened : m.phase ≡ Open = phase_active x.presumption m.phase f.heard in
      let r = accepted_at t (has_child m.accepted t.child) h in
      let row = active_joined t (view_at Active rs c m) in
      assembled (hears_message ver k (Joined c t) a) row (quiet_of c row r.0)
      (ap (λ w. read_view (rs ++ entries_written row.written) c w)
      (here c m (accepts_ticket m t m.phase) ∙ ap (λ ph. accepts_ticket m t ph) opened)
      ∙ rw r.0 r.1)
      (λ y o. elsewhere y _ _ o)

  joined_other : (k : ℕ) (a : DataAnswer) (t : Ticket) → IsOpenAlike place n c → (s : Standing)
      → standing_with x.presumption rs c m ≡ s → (s ≡ Active → ⊥)
      → MovesTxn place n (hears_message ver k (Joined c t) a) x (quiet (coordinator_view place n c))
  joined_other k a t alike s h d =
      quiet_views (hears_message ver k (Joined c t) a) (quiet (coordinator_view place n c)) refl refl
      (here c m (accepts_ticket m t m.phase) ∙ not_accepted m t m.phase (not_open alike s h d))
      (λ y o. elsewhere y _ _ o)

  joined_at : (k : ℕ) (a : DataAnswer) (t : Ticket) → IsOpenAlike place n c → (s : Standing)
      → standing_with x.presumption rs c m ≡ s
      → MovesTxn place n (hears_message ver k (Joined c t) a) x (on_joined t (coordinator_view place n c) s)
  joined_at k a t alike Active h =
      let P : CoordinatorView → Type 0 = λ v. MovesTxn place n (hears_message ver k (Joined c t) a) x
      (active_joined t v) in
      subst P (sym (seen_as Active h)) (joined_active k a t h)
  joined_at k a t alike Unknown h = joined_other k a t alike Unknown h (λ e. cc)
  joined_at k a t alike Collecting h = joined_other k a t alike Collecting h (λ e. cc)
  joined_at k a t alike Prepared h = joined_other k a t alike Prepared h (λ e. cc)
  joined_at k a t alike Committing h = joined_other k a t alike Committing h (λ e. cc)
  joined_at k a t alike Aborting h = joined_other k a t alike Aborting h (λ e. cc)
  joined_at k a t alike Heuristic h = joined_other k a t alike Heuristic h (λ e. cc)

  pub joined_views : (k : ℕ) (a : DataAnswer) (t : Ticket) → let v = coordinator_view place n c in
      IsOpenAlike place n c → MovesTxn place n (hears_message ver k (Joined c t) a) x
      (on_joined t v v.standing)
  joined_views k a t alike = joined_at k a t alike (coordinator_view place n c).standing
      (stands_as (coordinator_view place n c).standing refl)

  -- votes

  pub vote_memory : (k : ℕ) (t : Ticket) (w : Vote)
      → root_remembers me boot c m (MessageInput k (vote_message w (child_case x t)))
      ≡ takes_vote m t w m.phase
  vote_memory k t VoteYes = rw (same_txn-refl x) refl
  vote_memory k t VoteNo = rw (same_txn-refl x) refl
  vote_memory k t VoteRead = rw (same_txn-refl x) refl

  pub vote_elsewhere : (k : ℕ) (t : Ticket) (w : Vote) (y : Txn) → same_txn x y ≡ false
      → root_remembers me boot (root_case y) (memory_of place n (root_case y))
      (MessageInput k (vote_message w (child_case x t))) ≡ memory_of place n (root_case y)
  vote_elsewhere k t VoteYes y o = rw o refl
  vote_elsewhere k t VoteNo y o = rw o refl
  vote_elsewhere k t VoteRead y o = rw o refl

  -- the last vote came, and none was NO
  full_at : (b : Bool) (w : Memory) → none_of (yes_of w.accepted w.votes) ≡ b
      → CollectingFacts (has (is_end c) rs) (has (is_commit c) rs) (has (is_abort c) rs)
      (has (is_prepare c) rs)
      → (x.presumption ≡ PresumeAbort → has (is_collecting c) rs ≡ false) → owing_by c rs ≡ [] → w.acks ≡ []
      → w.found ≡ []
      → let v = view_at Collecting rs c w in
      let ys = yes_of w.accepted w.votes in
      let row = if b then collecting_read_only seat else decides seat v ys None in
      read_view (rs ++ entries_written row.written) c (record w { phase = Over }) ≡ row.view
  full_at true w e f no_record owes acks none_found = read_only_pure me c x.presumption rs w f no_record
  full_at false w e f no_record owes acks none_found = root_commits_pure me c x.presumption
      (yes_of w.accepted w.votes) rs w f owes acks none_found e

  read_only_of : (p : Presumption) (row : Row) → row.written ≡ read_only_end seat p → IsRowOfCase c row
  read_only_of PresumeAbort row h = quiet_of c row h
  read_only_of PresumeCommit row h = end_of c None row false h

  commits_of : (v : CoordinatorView) (ys : List Ticket) (p : Presumption)
      → IsRowOfCase c (root_commits seat v ys p)
  commits_of v ys PresumeAbort = commit_of c ys _ true refl
  commits_of v ys PresumeCommit = commit_of c [] _ true refl

  full_of : (b : Bool) (v : CoordinatorView) (ys : List Ticket)
      → IsRowOfCase c (if b then collecting_read_only seat else decides seat v ys None)
  full_of true v ys = read_only_of x.presumption _ refl
  full_of false v ys = commits_of v ys x.presumption

  -- what a case that collects votes is known by
  abbrev Collects : Type 0
  Collects = CollectingFacts (has (is_end c) rs) (has (is_commit c) rs) (has (is_abort c) rs)
      (has (is_prepare c) rs)

  abbrev with_one : Ticket → Vote → Memory
  with_one t w = record m { votes = m.votes ++ (t, w) ∷ [] }

  counted_consent : (t : Ticket) (w : Vote) (all : Bool) → standing_with x.presumption rs c m ≡ Collecting
      → m.phase ≡ Asked → Collects
      → (x.presumption ≡ PresumeAbort → has (is_collecting c) rs ≡ false) → owing_by c rs ≡ [] → m.acks ≡ []
      → m.found ≡ []
      → let v = view_at Collecting rs c (with_one t w) in
      let row = if all then collecting_full seat v else quiet v in
      (IsRowOfCase c row) × (read_view (rs ++ entries_written row.written) c
      (record (with_one t w) { phase = if all then Over else Asked }) ≡ row.view)
  counted_consent t w true h asked f no_record owes acks none_found =
      let ys = yes_of m.accepted (m.votes ++ (t, w) ∷ []) in (
        full_of (none_of ys) (view_at Collecting rs c (with_one t w)) ys,
        full_at (none_of ys) (with_one t w) refl f no_record owes acks none_found,
      )
  counted_consent t w false h asked f no_record owes acks none_found = (
    quiet_of c _ refl,
    same_pure c x.presumption Collecting rs m
        (record (with_one t w) { phase = Asked }) h (sym asked),
  )

  counted_vote : (t : Ticket) (w : Vote) → standing_with x.presumption rs c m ≡ Collecting → m.phase ≡ Asked
      → Collects
      → (x.presumption ≡ PresumeAbort → has (is_collecting c) rs ≡ false) → owing_by c rs ≡ [] → m.acks ≡ []
      → m.found ≡ []
      → let row = collecting_after seat (view_at Collecting rs c (with_one t w)) w in
      (IsRowOfCase c row) × (read_view (rs ++ entries_written row.written) c (with_vote m t w) ≡ row.view)
  counted_vote t VoteNo h asked f no_record owes acks none_found =
      let us = undecided_of m.accepted (m.votes ++ (t, VoteNo) ∷ []) in (
        collecting_of_abort ByVote (view_at Collecting rs c (with_one t VoteNo)) us x.presumption,
        collecting_abort_pure me c x.presumption ByVote (none_of us) us rs
            (with_one t VoteNo) f owes acks none_found refl,
      )
  counted_vote t VoteYes h asked f no_record owes acks none_found =
      counted_consent t VoteYes (all_voted m.accepted (m.votes ++ (t, VoteYes) ∷ [])) h asked f no_record owes
      acks none_found
  counted_vote t VoteRead h asked f no_record owes acks none_found =
      counted_consent t VoteRead (all_voted m.accepted (m.votes ++ (t, VoteRead) ∷ [])) h asked f no_record
      owes acks none_found

  taken_vote : (t : Ticket) (w : Vote) (b : Bool) → standing_with x.presumption rs c m ≡ Collecting
      → m.phase ≡ Asked → Collects
      → (x.presumption ≡ PresumeAbort → has (is_collecting c) rs ≡ false) → owing_by c rs ≡ [] → m.acks ≡ []
      → m.found ≡ []
      → let row = if b then record (collecting_after seat (view_at Collecting rs c (with_one t w)) w)
      { counts = (t, w) ∷ [] } else quiet (view_at Collecting rs c m) in
      (IsRowOfCase c row) × (read_view (rs ++ entries_written row.written) c
      (if b then with_vote m t w else m)
      ≡ row.view)
  taken_vote t w true h asked f no_record owes acks none_found =
      let r = counted_vote t w h asked f no_record owes acks none_found in
      (record { boot = r.0.boot; others = r.0.others }, r.1)
  taken_vote t w false h asked f no_record owes acks none_found =
      (quiet_of c _ refl, same_pure c x.presumption Collecting rs m m h refl)

  vote_collecting : (k : ℕ) (a : DataAnswer) (t : Ticket) (w : Vote) → IsOpenAlike place n c
      → standing_with x.presumption rs c m ≡ Collecting
      → MovesTxn place n (hears_message ver k (vote_message w (child_case x t)) a) x
      (collecting_vote seat t w (view_at Collecting rs c m))
  vote_collecting k a t w alike h =
      let f = collecting_facts _ _ _ _ _ _ _ h in
      let asked = asked_of alike h in
      let r = taken_vote t w (is_counted m.accepted m.votes t) h asked f alike.no_record_collects
      (undecided_owes c rs f.no_commit f.no_abort) (acks_of alike h) (found_of_none alike h) in
      let row = collecting_vote seat t w (view_at Collecting rs c m) in
      assembled (hears_message ver k (vote_message w (child_case x t)) a) row r.0
      (ap (λ u. read_view (rs ++ entries_written row.written) c u)
      (vote_memory k t w ∙ ap (λ ph. takes_vote m t w ph) asked) ∙ r.1)
      (λ y o. vote_elsewhere k t w y o)

  vote_other : (k : ℕ) (a : DataAnswer) (t : Ticket) (w : Vote) → IsOpenAlike place n c → (s : Standing)
      → standing_with x.presumption rs c m ≡ s → (s ≡ Collecting → ⊥)
      → MovesTxn place n (hears_message ver k (vote_message w (child_case x t)) a) x
      (quiet (coordinator_view place n c))
  vote_other k a t w alike s h d =
      quiet_views (hears_message ver k (vote_message w (child_case x t)) a)
      (quiet (coordinator_view place n c)) refl refl
      (vote_memory k t w ∙ not_taken m t w m.phase (not_asked alike s h d))
      (λ y o. vote_elsewhere k t w y o)

  vote_at : (k : ℕ) (a : DataAnswer) (t : Ticket) (w : Vote) → IsOpenAlike place n c → (s : Standing)
      → standing_with x.presumption rs c m ≡ s
      → MovesTxn place n (hears_message ver k (vote_message w (child_case x t)) a) x
      (on_vote seat t w (coordinator_view place n c) s)
  vote_at k a t w alike Collecting h =
      let P : CoordinatorView → Type 0 = λ v. MovesTxn place n
      (hears_message ver k (vote_message w (child_case x t)) a) x (collecting_vote seat t w v) in
      subst P (sym (seen_as Collecting h)) (vote_collecting k a t w alike h)
  vote_at k a t w alike Unknown h = vote_other k a t w alike Unknown h (λ e. cc)
  vote_at k a t w alike Active h = vote_other k a t w alike Active h (λ e. cc)
  vote_at k a t w alike Prepared h = vote_other k a t w alike Prepared h (λ e. cc)
  vote_at k a t w alike Committing h = vote_other k a t w alike Committing h (λ e. cc)
  vote_at k a t w alike Aborting h = vote_other k a t w alike Aborting h (λ e. cc)
  vote_at k a t w alike Heuristic h = vote_other k a t w alike Heuristic h (λ e. cc)

  pub vote_views : (k : ℕ) (a : DataAnswer) (t : Ticket) (w : Vote) → let v = coordinator_view place n c in
      IsOpenAlike place n c → MovesTxn place n (hears_message ver k (vote_message w (child_case x t)) a) x
      (on_vote seat t w v v.standing)
  vote_views k a t w alike = vote_at k a t w alike (coordinator_view place n c).standing
      (stands_as (coordinator_view place n c).standing refl)

  -- acknowledgements

  pub ack_memory : (k : ℕ) (t : Ticket) (o : Outcome) (fs : List Finding)
      → root_remembers me boot c m (MessageInput k (Ack (child_case x t) o fs)) ≡ takes_ack m t o fs m.phase
  ack_memory k t o fs = rw (same_txn-refl x) refl

  pub ack_elsewhere : (k : ℕ) (t : Ticket) (o : Outcome) (fs : List Finding) (y : Txn) → same_txn x y ≡ false
      → root_remembers me boot (root_case y) (memory_of place n (root_case y))
      (MessageInput k (Ack (child_case x t) o fs)) ≡ memory_of place n (root_case y)
  ack_elsewhere k t o fs y q = rw q refl

  -- a row of an acknowledgement that comes if no votes are taken
  ack_noted : (k : ℕ) (a : DataAnswer) (t : Ticket) (o : Outcome) (fs : List Finding) (row : Row)
      → takes_ack m t o fs m.phase ≡ acked m t o fs → IsRowOfCase c row
      → read_view (rs ++ entries_written row.written) c (acked m t o fs) ≡ row.view
      → MovesTxn place n (hears_message ver k (Ack (child_case x t) o fs) a) x row
  ack_noted k a t o fs row noted own moved =
      assembled (hears_message ver k (Ack (child_case x t) o fs) a) row own
      (ap (λ u. read_view (rs ++ entries_written row.written) c u) (ack_memory k t o fs ∙ noted) ∙ moved)
      (λ y q. ack_elsewhere k t o fs y q)

  last_of : (o : Outcome) (t : Ticket) (gs : List Finding) (v : CoordinatorView) (b none : Bool)
      → IsRowOfCase c (if b then (if none then record {
        written = ends_with ver seat gs;
        told = None;
        messages = acknowledges_at_last ver seat o gs;
        accepts = [];
        counts = [];
        view = unknown_view;
      }
      else quiet (record v { owed = other_tickets t v.owed; found = gs })) else quiet v)
  last_of o t gs v true true = end_of c (end_reports ver None gs) _ (is_some (end_reports ver None gs)) refl
  last_of o t gs v true false = quiet_of c _ refl
  last_of o t gs v false none = quiet_of c _ refl

  ack_by : (k : ℕ) (a : DataAnswer) (t : Ticket) (o : Outcome) (fs : List Finding) (s : Standing)
      → standing_with x.presumption rs c m ≡ s
      → (s ≡ Active → ⊥) → (s ≡ Collecting → ⊥) → takes_ack m t o fs m.phase ≡ acked m t o fs
      → MovesTxn place n (hears_message ver k (Ack (child_case x t) o fs) a) x
      (on_ack ver seat t o ((view_at s rs c m).found ++ fs) (view_at s rs c m) s)
  ack_by k a t CommittedOutcome fs Committing h na nc noted =
      let v = view_at Committing rs c m in
      ack_noted k a t CommittedOutcome fs (decided_ack ver seat CommittedOutcome t (v.found ++ fs) v) noted
      (last_of CommittedOutcome t (v.found ++ fs) v (in_list v.owed t) (none_of (other_tickets t v.owed)))
      (acked_commit ver seat x.presumption t rs m fs (in_list v.owed t)
      (none_of (other_tickets t v.owed)) h refl refl)
  ack_by k a t AbortedOutcome fs Committing h na nc noted =
      ack_noted k a t AbortedOutcome fs (quiet (view_at Committing rs c m)) noted (quiet_of c _ refl)
      (refused_commit c x.presumption t rs m fs h)
  ack_by k a t AbortedOutcome fs Aborting h na nc noted =
      let v = view_at Aborting rs c m in
      ack_noted k a t AbortedOutcome fs (decided_ack ver seat AbortedOutcome t (v.found ++ fs) v) noted
      (last_of AbortedOutcome t (v.found ++ fs) v (in_list v.owed t) (none_of (other_tickets t v.owed)))
      (acked_abort ver seat x.presumption t rs m fs (in_list v.owed t)
      (none_of (other_tickets t v.owed)) h refl refl)
  ack_by k a t CommittedOutcome fs Aborting h na nc noted =
      ack_noted k a t CommittedOutcome fs (quiet (view_at Aborting rs c m)) noted (quiet_of c _ refl)
      (refused_abort c x.presumption t rs m fs h)
  ack_by k a t CommittedOutcome fs Unknown h na nc noted =
      ack_noted k a t CommittedOutcome fs (quiet unknown_view) noted (quiet_of c _ refl)
      (unawaited c x.presumption t CommittedOutcome rs m fs h)
  ack_by k a t AbortedOutcome fs Unknown h na nc noted =
      ack_noted k a t AbortedOutcome fs (quiet unknown_view) noted (quiet_of c _ refl)
      (unawaited c x.presumption t AbortedOutcome rs m fs h)
  ack_by k a t CommittedOutcome fs Prepared h na nc noted =
      let f = prepared_facts _ _ _ _ _ _ _ (phase_unprepared x.presumption m.phase) h in
      ack_noted k a t CommittedOutcome fs (quiet (view_at Prepared rs c m)) noted (quiet_of c _ refl)
      (promised_ack c x.presumption t CommittedOutcome rs m fs h (undecided_owes c rs f.0 f.1))
  ack_by k a t AbortedOutcome fs Prepared h na nc noted =
      let f = prepared_facts _ _ _ _ _ _ _ (phase_unprepared x.presumption m.phase) h in
      ack_noted k a t AbortedOutcome fs (quiet (view_at Prepared rs c m)) noted (quiet_of c _ refl)
      (promised_ack c x.presumption t AbortedOutcome rs m fs h (undecided_owes c rs f.0 f.1))
  ack_by k a t o fs Active h na nc noted = absurd (na refl)
  ack_by k a t o fs Collecting h na nc noted = absurd (nc refl)
  ack_by k a t o fs Heuristic h na nc noted = absurd
      (never_heuristic _ _ _ _ _ _ _ (phase_standing_known x.presumption m.phase) h)

  -- while children or votes can come, it does nothing
  ack_unheard : (k : ℕ) (a : DataAnswer) (t : Ticket) (o : Outcome) (fs : List Finding) (row : Row)
      → takes_ack m t o fs m.phase ≡ m
      → row ≡ quiet (coordinator_view place n c)
      → MovesTxn place n (hears_message ver k (Ack (child_case x t) o fs) a) x row
  ack_unheard k a t o fs row unheard e =
      quiet_views (hears_message ver k (Ack (child_case x t) o fs) a) row (ap (λ (r : Row). r.written) e)
      (ap (λ (r : Row). r.view) e)
      (ack_memory k t o fs ∙ unheard)
      (λ y q. ack_elsewhere k t o fs y q)

  on_ack_open : (t : Ticket) (o : Outcome) (gs : List Finding) (v : CoordinatorView)
      → on_ack ver seat t o gs v Active ≡ quiet v
  on_ack_open t CommittedOutcome gs v = refl
  on_ack_open t AbortedOutcome gs v = refl

  on_ack_asked : (t : Ticket) (o : Outcome) (gs : List Finding) (v : CoordinatorView)
      → on_ack ver seat t o gs v Collecting ≡ quiet v
  on_ack_asked t CommittedOutcome gs v = refl
  on_ack_asked t AbortedOutcome gs v = refl

  ack_closed : (k : ℕ) (a : DataAnswer) (t : Ticket) (o : Outcome) (fs : List Finding) → IsOpenAlike place n c
      → (s : Standing)
      → standing_with x.presumption rs c m ≡ s
      → (m.phase ≡ Open → ⊥) → (m.phase ≡ Asked → ⊥) → takes_ack m t o fs m.phase ≡ acked m t o fs
      → MovesTxn place n (hears_message ver k (Ack (child_case x t) o fs) a) x
      (on_ack ver seat t o ((coordinator_view place n c).found ++ fs) (coordinator_view place n c) s)
  ack_closed k a t o fs alike s h closed decided noted =
      let not_active : s ≡ Active → ⊥ = λ e. closed
      (phase_active x.presumption m.phase (active_facts _ _ _ _ _ _ _ (h ∙ e)).heard) in
      let not_collecting : s ≡ Collecting → ⊥ = λ e. decided (asked_of alike (h ∙ e)) in
      let P : CoordinatorView → Type 0 = λ v. MovesTxn place n
      (hears_message ver k (Ack (child_case x t) o fs) a) x (on_ack ver seat t o (v.found ++ fs) v s) in
      subst P (sym (seen_as s h)) (ack_by k a t o fs s h not_active not_collecting noted)

  now_active : IsOpenAlike place n c → (s : Standing) → standing_with x.presumption rs c m ≡ s
      → m.phase ≡ Open → s ≡ Active
  unfolding coordinator_view
  now_active alike s h e = sym h ∙ (sym (view_standing (coordinator_standing rs c m) rs c m)
      ∙ alike.open_is_active e)

  now_collecting : IsOpenAlike place n c → (s : Standing) → standing_with x.presumption rs c m ≡ s
      → m.phase ≡ Asked → s ≡ Collecting
  unfolding coordinator_view
  now_collecting alike s h e = sym h ∙ (sym (view_standing (coordinator_standing rs c m) rs c m)
      ∙ alike.asked_is_collecting e)

  ack_phase : (k : ℕ) (a : DataAnswer) (t : Ticket) (o : Outcome) (fs : List Finding) → IsOpenAlike place n c
      → (ph : Phase)
      → m.phase ≡ ph → (s : Standing) → standing_with x.presumption rs c m ≡ s
      → MovesTxn place n (hears_message ver k (Ack (child_case x t) o fs) a) x
      (on_ack ver seat t o ((coordinator_view place n c).found ++ fs) (coordinator_view place n c) s)
  ack_phase k a t o fs alike Open e s h =
      let v = coordinator_view place n c in
      ack_unheard k a t o fs _ (ap (λ ph. takes_ack m t o fs ph) e)
      (ap (λ q. on_ack ver seat t o (v.found ++ fs) v q) (now_active alike s h e)
      ∙ on_ack_open t o (v.found ++ fs) v)
  ack_phase k a t o fs alike Asked e s h =
      let v = coordinator_view place n c in
      ack_unheard k a t o fs _ (ap (λ ph. takes_ack m t o fs ph) e)
      (ap (λ q. on_ack ver seat t o (v.found ++ fs) v q) (now_collecting alike s h e)
      ∙ on_ack_asked t o (v.found ++ fs) v)
  ack_phase k a t o fs alike Idle e s h = ack_closed k a t o fs alike s h (λ q. not_idle (sym e ∙ q))
      (λ q. not_idle_asked (sym e ∙ q)) (ap (λ ph. takes_ack m t o fs ph) e)
    where
      not_idle : Idle ≡ Open → ⊥
      not_idle q = cc

      not_idle_asked : Idle ≡ Asked → ⊥
      not_idle_asked q = cc
  ack_phase k a t o fs alike Over e s h = ack_closed k a t o fs alike s h (λ q. not_over (sym e ∙ q))
      (λ q. not_over_asked (sym e ∙ q)) (ap (λ ph. takes_ack m t o fs ph) e)
    where
      not_over : Over ≡ Open → ⊥
      not_over q = cc

      not_over_asked : Over ≡ Asked → ⊥
      not_over_asked q = cc

  pub ack_views : (k : ℕ) (a : DataAnswer) (t : Ticket) (o : Outcome) (fs : List Finding)
      → let v = coordinator_view place n c in
      IsOpenAlike place n c → MovesTxn place n (hears_message ver k (Ack (child_case x t) o fs) a) x
      (on_ack ver seat t o (v.found ++ fs) v v.standing)
  ack_views k a t o fs alike = ack_phase k a t o fs alike m.phase refl (coordinator_view place n c).standing
      (stands_as (coordinator_view place n c).standing refl)

  pub root_views : RootViews ver me tree n x
  root_views =
      record {
        commit = commit_views;
        abort_active = abort_active_views;
        abort_collecting = abort_collecting_views;
        join = join_views;
        work = work_views;
        joined = joined_views;
        vote = vote_views;
        acknowledgement = ack_views;
        inquiry = inquiry_views;
      }
