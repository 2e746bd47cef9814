-- A row leaves a live case something that is known, or nothing at all.
use Rattle.std.proofs.Common.{◌≡◌, ◌⊎◌, ◌∙◌, ◌+◌, ◌||◌, ◌&&◌, inl, inr, ℕ, if◌then◌else◌, cond, Bool, true, false, List, [], ◌∷◌, ◌++◌, Option, Some, None, refl, sym, ap, arith}
use Rattle.std.proofs.lemmas.List.Sums.{sum_by-cons}
use Rattle.protocol.specs.declared.messages.Finding.{Finding}
use Rattle.protocol.specs.declared.names.Outcome.{Outcome}
use Rattle.protocol_words.specs.Variants.{AbortedOutcome, CommittedOutcome}
use Rattle.protocol.specs.declared.names.Presumption.{Presumption}
use Rattle.protocol.specs.declared.names.Presumption.TheVariants.{PresumeAbort, PresumeCommit}
use Rattle.protocol.specs.declared.names.ProcessId.{ProcessId}
use Rattle.protocol.specs.declared.names.Ticket.{Ticket}
use Rattle.protocol.specs.declared.standings.Standing.{Standing}
use Rattle.protocol.specs.declared.standings.Standing.TheVariants.{Unknown, Active, Collecting, Prepared, Committing, Aborting, Heuristic}
use Rattle.protocol.specs.declared.standings.Vote.{Vote}
use Rattle.protocol.specs.declared.standings.Vote.TheVariants.{Yes, No, Read}
use Rattle.protocol.specs.Memory.{all_voted, has_child, is_counted, same_vote, undecided_of, voted_so, works_of, yes_of}
use Rattle.protocol.specs.Names.{same_ticket}
use Rattle.protocol.specs.Records.{in_list, none_of}
use Rattle.protocol.specs.Restarts.{is_known}
use Rattle.protocol.specs.SameViews.{SameView}
use Rattle.protocol.specs.Standings.{CoordinatorView, unknown_view}
use Rattle.protocol.specs.CoordinatorRows.{Reason, ByAbort, ByAct, ByVote, Row, Seat, active_commit, active_commit_alone, active_commit_with, awaits, collecting_abort, collecting_abort_by, collecting_after, collecting_full, collecting_read_only, collecting_vote, decided_ack, decided_ack_by, decides, on_abort, on_ack, on_commit, on_inquiry, on_joined, on_prepare, on_vote, other_tickets, prepared_abort_by, prepared_commit_by, quiet, root_commits, unknown_abort_by, unknown_commit_by}
use Rattle.protocol.proofs.NameTests.{ticket_tells}
use Rattle.process_state.specs.Turns.{this_version}
use Rattle.coord_rows.specs.declared.asked.CaseInput.{CaseInput}
use Rattle.coord_rows.specs.declared.asked.CaseInput.TheVariants.{Join, Work, Commit, AbortActive, AbortCollecting, Ask, Joined, Vote as VoteAsked, Ack, Inquire, Prepare, Commits, Aborts}
use Rattle.coord_rows.specs.Asks.{asked_row}

-- A view that says what nothing known says.

no_tickets : (ts : List Ticket) → ((t : Ticket) → in_list ts t ≡ in_list [] t) → ts ≡ []
unfolding in_list
no_tickets [] none = refl
no_tickets (t ∷ ts) none =
    let clash : true ≡ false = ap (λ b. b || in_list ts t) (sym ((ticket_tells t t).1 refl)) ∙ none t in
    absurd (cc)

vote_itself : (w : Vote) → same_vote w w ≡ true
vote_itself Yes = refl
vote_itself No = refl
vote_itself Read = refl

no_votes : (vs : List (Ticket × Vote)) → ((w : Vote) (t : Ticket) → voted_so w vs t ≡ voted_so w [] t)
    → vs ≡ []
unfolding voted_so
no_votes [] none = refl
no_votes (v ∷ vs) none =
    let clash : true ≡ false =
    ap (λ b. (b && true) || voted_so v.1 vs v.0) (sym (vote_itself v.1))
    ∙ ap (λ b. (same_vote v.1 v.1 && b) || voted_so v.1 vs v.0) (sym ((ticket_tells v.0 v.0).1 refl))
    ∙ none v.1 v.0 in
    absurd (cc)

-- 1 for what passes a test, as it is counted
abbrev one_if : Bool → ℕ
one_if b = cond b 1 0

no_works : (ws : List Ticket) → ((t : Ticket) → works_of ws t ≡ works_of [] t) → ws ≡ []
unfolding works_of
no_works [] none = refl
no_works (w ∷ ws) none =
    let here : one_if (same_ticket w w) ≡ 1 = ap one_if ((ticket_tells w w).1 refl) in
    absurd (omega (arith, sum_by-cons (λ u. one_if (same_ticket u w)) w ws, here, none w))

-- it is that of which nothing is known
pub nothing_known : (v : CoordinatorView) → SameView v unknown_view → v ≡ unknown_view
nothing_known v same = λ i. record {
  standing = same.standing i;
  accepted = same.accepted i;
  votes = no_votes v.votes same.voted i;
  works = no_works v.works same.worked i;
  promised = same.promised i;
  named = no_tickets v.named same.named i;
  owed = no_tickets v.owed same.owed i;
  found = same.found i;
}

-- What a row leaves.

-- something is known, or nothing is left
abbrev pub IsKnownOrGone : CoordinatorView → Type 0
IsKnownOrGone v = (is_known v.standing ≡ true) ⊎ (v ≡ unknown_view)

either : (b : Bool) (r q : Row) → IsKnownOrGone r.view → IsKnownOrGone q.view
    → IsKnownOrGone (if b then r else q).view
either true r q this that = this
either false r q this that = that

awaited : (st : Standing) (us : List Ticket) (v : CoordinatorView) → is_known st ≡ true
    → IsKnownOrGone (awaits st us v)
awaited st us v known = by_test (none_of us)
  where
    by_test : (b : Bool)
        → IsKnownOrGone (if b then unknown_view
        else record v { standing = st; named = v.named ++ us; owed = us })
    by_test true = inr refl
    by_test false = inl known

committing_with : (s : Seat) (v : CoordinatorView) (p : Presumption)
    → IsKnownOrGone (active_commit_with s v p).view
committing_with s v PresumeAbort = inl refl
committing_with s v PresumeCommit = inl refl

committed : (s : Seat) (v : CoordinatorView) → IsKnownOrGone (active_commit s v).view
committed s v = either (none_of v.accepted) (active_commit_alone s) _ (inr refl)
    (committing_with s v s.own.txn.presumption)

aborted_by : (s : Seat) (why : Reason) (v : CoordinatorView) (us : List Ticket) (p : Presumption)
    → IsKnownOrGone (collecting_abort_by s why v us p).view
aborted_by s why v us PresumeAbort = inr refl
aborted_by s why v us PresumeCommit = awaited Aborting us v refl

aborted : (s : Seat) (why : Reason) (v : CoordinatorView) → IsKnownOrGone (collecting_abort s why v).view
aborted s why v = aborted_by s why v (undecided_of v.accepted v.votes) s.own.txn.presumption

root_committed : (s : Seat) (v : CoordinatorView) (ys : List Ticket) (p : Presumption)
    → IsKnownOrGone (root_commits s v ys p).view
root_committed s v ys PresumeAbort = awaited Committing ys v refl
root_committed s v ys PresumeCommit = inr refl

decided : (s : Seat) (v : CoordinatorView) (ys : List Ticket) (p : Option ProcessId)
    → IsKnownOrGone (decides s v ys p).view
decided s v ys None = root_committed s v ys s.own.txn.presumption
decided s v ys (Some p) = inl refl

full : (s : Seat) (v : CoordinatorView) → IsKnownOrGone (collecting_full s v).view
full s v = either (none_of (yes_of v.accepted v.votes)) (collecting_read_only s) _ (inr refl)
    (decided s v (yes_of v.accepted v.votes) s.parent)

module _ (s : Seat) where
  voted_after : (v : CoordinatorView) (w : Vote) → is_known v.standing ≡ true
      → IsKnownOrGone (collecting_after s v w).view
  voted_after v No known = aborted s ByVote v
  voted_after v Yes known = either (all_voted v.accepted v.votes) (collecting_full s v) _
      (full s v) (inl known)
  voted_after v Read known = either (all_voted v.accepted v.votes) (collecting_full s v) _
      (full s v) (inl known)

  voted : (t : Ticket) (w : Vote) (v : CoordinatorView) → is_known v.standing ≡ true
      → IsKnownOrGone (collecting_vote s t w v).view
  voted t w v known = either (is_counted v.accepted v.votes t)
      (record (collecting_after s (record v { votes = v.votes ++ (t, w) ∷ [] }) w) { counts = (t, w) ∷ [] })
      (quiet v)
      (voted_after (record v { votes = v.votes ++ (t, w) ∷ [] }) w known) (inl known)

  acked_by : (o : Outcome) (left : List Ticket) (fs : List Finding) (v : CoordinatorView)
      → is_known v.standing ≡ true → IsKnownOrGone (decided_ack_by this_version s o left fs v).view
  acked_by o left fs v known = either (none_of left) _ (quiet (record v { owed = left; found = fs }))
      (inr refl) (inl known)

  acked : (o : Outcome) (t : Ticket) (fs : List Finding) (v : CoordinatorView) → is_known v.standing ≡ true
      → IsKnownOrGone (decided_ack this_version s o t fs v).view
  acked o t fs v known = either (in_list v.owed t)
      (decided_ack_by this_version s o (other_tickets t v.owed) fs v) (quiet v)
      (acked_by o (other_tickets t v.owed) fs v known) (inl known)

  commits_by : (v : CoordinatorView) (p : Presumption)
      → IsKnownOrGone (prepared_commit_by this_version s v p).view
  commits_by v PresumeAbort = awaited Committing v.promised v refl
  commits_by v PresumeCommit = inr refl

  aborts_by : (v : CoordinatorView) (p : Presumption)
      → IsKnownOrGone (prepared_abort_by this_version s v p).view
  aborts_by v PresumeAbort = inr refl
  aborts_by v PresumeCommit = awaited Aborting v.promised v refl

  -- The table by messages.

  by_vote : (t : Ticket) (w : Vote) (v : CoordinatorView) (at : Standing) → is_known v.standing ≡ true
      → IsKnownOrGone (on_vote s t w v at).view
  by_vote t w v Collecting known = voted t w v known
  by_vote t w v Unknown known = inl known
  by_vote t w v Active known = inl known
  by_vote t w v Prepared known = inl known
  by_vote t w v Committing known = inl known
  by_vote t w v Aborting known = inl known
  by_vote t w v Heuristic known = inl known

  by_ack : (t : Ticket) (o : Outcome) (fs : List Finding) (v : CoordinatorView) (at : Standing)
      → is_known v.standing ≡ true → IsKnownOrGone (on_ack this_version s t o fs v at).view
  by_ack t CommittedOutcome fs v Committing known = acked CommittedOutcome t fs v known
  by_ack t CommittedOutcome fs v Unknown known = inl known
  by_ack t CommittedOutcome fs v Active known = inl known
  by_ack t CommittedOutcome fs v Collecting known = inl known
  by_ack t CommittedOutcome fs v Prepared known = inl known
  by_ack t CommittedOutcome fs v Aborting known = inl known
  by_ack t CommittedOutcome fs v Heuristic known = inl known
  by_ack t AbortedOutcome fs v Aborting known = acked AbortedOutcome t fs v known
  by_ack t AbortedOutcome fs v Unknown known = inl known
  by_ack t AbortedOutcome fs v Active known = inl known
  by_ack t AbortedOutcome fs v Collecting known = inl known
  by_ack t AbortedOutcome fs v Prepared known = inl known
  by_ack t AbortedOutcome fs v Committing known = inl known
  by_ack t AbortedOutcome fs v Heuristic known = inl known

  by_inquiry : (t : Ticket) (v : CoordinatorView) (at : Standing) → is_known v.standing ≡ true
      → IsKnownOrGone (on_inquiry s t v at).view
  by_inquiry t v Committing known = inl known
  by_inquiry t v Aborting known = inl known
  by_inquiry t v Unknown known = inl known
  by_inquiry t v Active known = inl known
  by_inquiry t v Collecting known = inl known
  by_inquiry t v Prepared known = inl known
  by_inquiry t v Heuristic known = inl known

  by_joined : (t : Ticket) (v : CoordinatorView) (at : Standing) → is_known v.standing ≡ true
      → IsKnownOrGone (on_joined t v at).view
  by_joined t v Active known = either (has_child v.accepted t.child) (quiet v) _ (inl known) (inl known)
  by_joined t v Unknown known = inl known
  by_joined t v Collecting known = inl known
  by_joined t v Prepared known = inl known
  by_joined t v Committing known = inl known
  by_joined t v Aborting known = inl known
  by_joined t v Heuristic known = inl known

  by_prepare : (v : CoordinatorView) (at : Standing) → is_known v.standing ≡ true
      → IsKnownOrGone (on_prepare s v at).view
  by_prepare v Active known = committed s v
  by_prepare v Unknown known = inl known
  by_prepare v Collecting known = inl known
  by_prepare v Prepared known = inl known
  by_prepare v Committing known = inl known
  by_prepare v Aborting known = inl known
  by_prepare v Heuristic known = inl known

  unknown_commits : (v : CoordinatorView) (p : Presumption) → is_known v.standing ≡ true
      → IsKnownOrGone (unknown_commit_by this_version s v p).view
  unknown_commits v PresumeAbort known = inl known
  unknown_commits v PresumeCommit known = inl known

  unknown_aborts : (v : CoordinatorView) (p : Presumption) → is_known v.standing ≡ true
      → IsKnownOrGone (unknown_abort_by this_version s v p).view
  unknown_aborts v PresumeAbort known = inl known
  unknown_aborts v PresumeCommit known = inl known

  by_commit : (v : CoordinatorView) (at : Standing) → is_known v.standing ≡ true
      → IsKnownOrGone (on_commit this_version s v at).view
  by_commit v Prepared known = commits_by v s.own.txn.presumption
  by_commit v Unknown known = unknown_commits v s.own.txn.presumption known
  by_commit v Active known = inl known
  by_commit v Collecting known = inl known
  by_commit v Committing known = inl known
  by_commit v Aborting known = inl known
  by_commit v Heuristic known = inl known

  by_abort : (v : CoordinatorView) (at : Standing) → is_known v.standing ≡ true
      → IsKnownOrGone (on_abort this_version s v at).view
  by_abort v Active known = inr refl
  by_abort v Collecting known = aborted s (ByAbort this_version) v
  by_abort v Prepared known = aborts_by v s.own.txn.presumption
  by_abort v Unknown known = unknown_aborts v s.own.txn.presumption known
  by_abort v Committing known = inl known
  by_abort v Aborting known = inl known
  by_abort v Heuristic known = inl known

  -- a row of a case of which something is known leaves something that is known, or nothing at all
  pub known_or_gone : (asked : CaseInput) (v : CoordinatorView) → is_known v.standing ≡ true
      → IsKnownOrGone (asked_row s asked v).view
  known_or_gone (Join q) v known = either (has_child v.accepted q) (quiet v) _ (inl known) (inl known)
  known_or_gone (Work t op) v known = inl known
  known_or_gone Commit v known = committed s v
  known_or_gone AbortActive v known = inr refl
  known_or_gone AbortCollecting v known = aborted s ByAct v
  known_or_gone Ask v known = inl known
  known_or_gone (Joined t) v known = by_joined t v v.standing known
  known_or_gone (VoteAsked t w) v known = by_vote t w v v.standing known
  known_or_gone (Ack t o fs) v known = by_ack t o (v.found ++ fs.now) v v.standing known
  known_or_gone (Inquire t) v known = by_inquiry t v v.standing known
  known_or_gone Prepare v known = by_prepare v v.standing known
  known_or_gone Commits v known = by_commit v v.standing known
  known_or_gone Aborts v known = by_abort v v.standing known
