-- Rows see of a view no more than what views that say the same share.
use Rattle.std.proofs.Common.{◌≡◌, ◌+◌, Bool, true, false, not, ◌&&◌, ◌||◌, if◌then◌else◌, Option, None, Some, List, [], ◌∷◌, ◌++◌, filter, map, refl, subst, sym, ap, ◌∙◌, arith}
use Rattle.std.specs.List.{list_all}
use Rattle.std.proofs.lemmas.Grind.{common_steps}
use Rattle.std.proofs.lemmas.List.Folds.{list_any-append}
use Rattle.protocol.specs.declared.names.Case.{Case}
use Rattle.protocol.specs.declared.names.ProcessId.{ProcessId}
use Rattle.protocol.specs.declared.names.Ticket.{Ticket}
use Rattle.protocol.specs.declared.names.Outcome.{Outcome}
use Rattle.protocol.specs.declared.names.Outcome.TheVariants.{Committed, Aborted}
use Rattle.protocol.specs.declared.names.Presumption.{Presumption}
use Rattle.protocol.specs.declared.names.Presumption.TheVariants.{PresumeAbort, PresumeCommit}
use Rattle.protocol.specs.declared.messages.Message.TheVariants.{Prepare, Work}
use Rattle.protocol.specs.declared.messages.Envelope.{Envelope}
use Rattle.protocol.specs.declared.messages.Op.{Op}
use Rattle.protocol.specs.declared.standings.Standing.{Standing}
use Rattle.protocol.specs.declared.standings.Standing.TheVariants.{Unknown, Active, Collecting, Prepared, Committing, Aborting, Heuristic}
use Rattle.protocol.specs.declared.standings.Vote.{Vote}
use Rattle.protocol.specs.declared.standings.Vote.TheVariants.{Yes, No, Read}
use Rattle.protocol.specs.Names.{child_case, same_ticket}
use Rattle.protocol.specs.Records.{in_list, none_of}
use Rattle.protocol.specs.Nodes.{Version, First, Second}
use Rattle.protocol.specs.Memory.{all_voted, has_child, has_voted, is_counted, same_vote, undecided_of, voted_so, works_of, yes_of}
use Rattle.protocol.specs.Standings.{CoordinatorView, unknown_view}
use Rattle.protocol.specs.CoordinatorRows.{Reason, Row, Seat, ByVote, ByAbort, aborting_abort, active_abort, active_commit, active_commit_alone, active_commit_with, active_join, active_joined, active_work, awaits, collecting_abort, collecting_abort_by, collecting_after, collecting_full, collecting_read_only, collecting_vote, committing_commit, decided_ack, decided_ack_by, decides, on_abort, on_ack, on_commit, on_inquiry, on_joined, on_prepare, on_vote, other_tickets, post, prepared_abort_by, prepared_commit_by, prepares, quiet, root_commits, sends, unknown_commit_by, unknown_abort_by}
use Rattle.protocol.specs.Reactions.{row_effect}
use Rattle.protocol.specs.SameViews.{SameRow, SameView}
use Rattle.protocol.proofs.NameTests.{ticket_tells}
use Rattle.protocol.specs.declared.messages.Finding.{Finding}

pub same_view : (v : CoordinatorView) → SameView v v
same_view v = record {
  standing = refl;
  accepted = refl;
  voted = λ o t. refl;
  worked = λ t. refl;
  promised = refl;
  named = λ t. refl;
  owed = λ t. refl;
  found = refl;
}

pub same_row : (r : Row) → SameRow r r
same_row r = record {
  written = refl;
  told = refl;
  messages = refl;
  accepts = refl;
  counts = refl;
  view = same_view r.view;
}

-- a ticket that has voted has voted so, or so, or so
one_of : (w : Vote) (b y n r : Bool) → (b || (y || (n || r)))
    ≡ (((same_vote Yes w && b) || y) || (((same_vote No w && b) || n) || ((same_vote Read w && b) || r)))
one_of Yes true y n r = refl
one_of No true true n r = refl
one_of No true false n r = refl
one_of Read true true n r = refl
one_of Read true false true r = refl
one_of Read true false false r = refl
one_of Yes false y n r = refl
one_of No false y n r = refl
one_of Read false y n r = refl

pub has_voted-so : (vs : List (Ticket × Vote)) (t : Ticket)
    → has_voted vs t ≡ (voted_so Yes vs t || (voted_so No vs t || voted_so Read vs t))
unfolding has_voted voted_so
has_voted-so [] t = refl
has_voted-so (v ∷ vs) t = ap (λ b. same_ticket v.0 t || b) (has_voted-so vs t)
    ∙ one_of v.1 (same_ticket v.0 t) (voted_so Yes vs t) (voted_so No vs t) (voted_so Read vs t)

in_list-append : (ts us : List Ticket) (t : Ticket) → in_list (ts ++ us) t ≡ (in_list ts t || in_list us t)
unfolding in_list
in_list-append ts us t = list_any-append (λ u. same_ticket u t) ts us

works_of-append : (ws us : List Ticket) (t : Ticket) → works_of (ws ++ us) t ≡ works_of ws t + works_of us t
unfolding works_of
works_of-append ws us t = grind (arith, common_steps)

-- in a list of the others is each that was in the list and is another
in_list-others : (t u : Ticket) (ts : List Ticket)
    → in_list (other_tickets t ts) u ≡ (in_list ts u && not (same_ticket t u))
unfolding in_list other_tickets
in_list-others t u [] = refl
in_list-others t u (x ∷ ts) = by_test (same_ticket t x) refl (in_list-others t u ts)
  where
    one_more : (a b c : Bool) → (a ≡ true → c ≡ true) → (b && not c) ≡ ((a || b) && not c)
    one_more true b c h = rw (h refl) (both_false b)
      where
        both_false : (b : Bool) → (b && false) ≡ false
        both_false true = refl
        both_false false = refl
    one_more false b c h = refl

    others_first : (a b c : Bool) → (a ≡ true → c ≡ false) → (a || (b && not c)) ≡ ((a || b) && not c)
    others_first true b c h = rw (h refl) refl
    others_first false b c h = refl

    by_test : (b : Bool) → same_ticket t x ≡ b
        → in_list (other_tickets t ts) u ≡ (in_list ts u && not (same_ticket t u))
        → in_list (if not b then x ∷ other_tickets t ts else other_tickets t ts) u
        ≡ ((same_ticket x u || in_list ts u) && not (same_ticket t u))
    by_test true is rest = rest ∙ one_more (same_ticket x u) (in_list ts u) (same_ticket t u)
        (λ e. ap (λ y. same_ticket y u) ((ticket_tells t x).0 is) ∙ e)
    by_test false is rest =
        ap (λ b. same_ticket x u || b) rest ∙ others_first (same_ticket x u) (in_list ts u) (same_ticket t u)
        (λ e. sym (ap (λ y. same_ticket t y) ((ticket_tells x u).0 e)) ∙ is)

in_list-first : (t : Ticket) (ts : List Ticket) → in_list (t ∷ ts) t ≡ true
unfolding in_list
in_list-first t ts = rw ((ticket_tells t t).1 refl) refl

none_of-lists : (ts us : List Ticket) → ((t : Ticket) → in_list ts t ≡ in_list us t) → none_of ts ≡ none_of us
unfolding none_of in_list
none_of-lists [] [] h = refl
none_of-lists [] (u ∷ us) h = let there : in_list (u ∷ us) u ≡ true =
    in_list-first u us in let no : false ≡ true = h u ∙ there in absurd (cc)
none_of-lists (t ∷ ts) [] h = let there : in_list (t ∷ ts) t ≡ true =
    in_list-first t ts in let no : true ≡ false = sym there ∙ h t in absurd (cc)
none_of-lists (t ∷ ts) (u ∷ us) h = refl

module _ (v w : CoordinatorView) (same : SameView v w) where
  has_voted-same : (t : Ticket) → has_voted v.votes t ≡ has_voted w.votes t
  has_voted-same t =
      has_voted-so v.votes t ∙ rw (same.voted Yes t, same.voted No t, same.voted Read t)
      (sym (has_voted-so w.votes t))

  all_voted-same : all_voted v.accepted v.votes ≡ all_voted w.accepted w.votes
  unfolding all_voted
  all_voted-same = (λ i. list_all (λ t. has_voted-same t i) (same.accepted i))

  yes_of-same : yes_of v.accepted v.votes ≡ yes_of w.accepted w.votes
  unfolding yes_of
  yes_of-same = (λ i. filter (λ t. same.voted Yes t i) (same.accepted i))

  undecided_of-same : undecided_of v.accepted v.votes ≡ undecided_of w.accepted w.votes
  unfolding undecided_of
  undecided_of-same =
      (λ i. filter (λ t. not (same.voted No t i) && not (same.voted Read t i)) (same.accepted i))

  is_counted-same : (t : Ticket) → is_counted v.accepted v.votes t ≡ is_counted w.accepted w.votes t
  is_counted-same t = (λ i. in_list (same.accepted i) t && not (has_voted-same t i))

  awaits-same : (s : Standing) (ts : List Ticket) → SameView (awaits s ts v) (awaits s ts w)
  awaits-same s ts = by_none (none_of ts)
    where
      by_none : (b : Bool)
          → SameView (if b then unknown_view else record v { standing = s; named = v.named ++ ts; owed = ts })
          (if b then unknown_view else record w { standing = s; named = w.named ++ ts; owed = ts })
      by_none true = same_view _
      by_none false =
          record {
            standing = refl;
            accepted = same.accepted;
            voted = same.voted;
            worked = same.worked;
            promised = same.promised;
            named = λ t. in_list-append v.named ts t ∙ ap (λ b. b || in_list ts t) (same.named t)
                ∙ sym (in_list-append w.named ts t);
            owed = λ t. refl;
            found = same.found;
          }

  root_commits-same : (s : Seat) (ys : List Ticket) (p : Presumption)
      → SameRow (root_commits s v ys p) (root_commits s w ys p)
  root_commits-same s ys PresumeAbort =
      record {
        written = refl;
        told = refl;
        messages = refl;
        accepts = refl;
        counts = refl;
        view = awaits-same Committing ys;
      }
  root_commits-same s ys PresumeCommit = same_row _

  decides-same : (s : Seat) (ys : List Ticket) (p : Option ProcessId)
      → SameRow (decides s v ys p) (decides s w ys p)
  decides-same s ys None = root_commits-same s ys s.own.txn.presumption
  decides-same s ys (Some p) =
      record {
        written = refl;
        told = refl;
        messages = refl;
        accepts = refl;
        counts = refl;
        view = record {
          standing = refl;
          accepted = same.accepted;
          voted = same.voted;
          worked = same.worked;
          promised = ap (λ ts. ts ++ ys) same.promised;
          named = λ t. in_list-append v.named ys t ∙ ap (λ b. b || in_list ys t) (same.named t)
              ∙ sym (in_list-append w.named ys t);
          owed = same.owed;
          found = same.found;
        };
      }

  pub collecting_full-same : (s : Seat) → SameRow (collecting_full s v) (collecting_full s w)
  collecting_full-same s = rw yes_of-same (by_none (none_of (yes_of w.accepted w.votes)))
    where
      by_none : (b : Bool)
          → SameRow (if b then collecting_read_only s else decides s v (yes_of w.accepted w.votes) s.parent)
          (if b then collecting_read_only s else decides s w (yes_of w.accepted w.votes) s.parent)
      by_none true = same_row _
      by_none false = decides-same s (yes_of w.accepted w.votes) s.parent

  abort_by-same : (s : Seat) (why : Reason) (us : List Ticket) (p : Presumption)
      → SameRow (collecting_abort_by s why v us p) (collecting_abort_by s why w us p)
  abort_by-same s why us PresumeAbort = same_row _
  abort_by-same s why us PresumeCommit =
      record {
        written = refl;
        told = refl;
        messages = refl;
        accepts = refl;
        counts = refl;
        view = awaits-same Aborting us;
      }

  pub collecting_abort-same : (s : Seat) (why : Reason)
      → SameRow (collecting_abort s why v) (collecting_abort s why w)
  collecting_abort-same s why = rw undecided_of-same
      (abort_by-same s why (undecided_of w.accepted w.votes) s.own.txn.presumption)

  quiet-same : SameRow (quiet v) (quiet w)
  quiet-same = record {
    written = refl;
    told = refl;
    messages = refl;
    accepts = refl;
    counts = refl;
    view = same;
  }

  full-same : (s : Seat) (b : Bool) → SameRow (if b then collecting_full s v else quiet v)
      (if b then collecting_full s w else quiet w)
  full-same s true = collecting_full-same s
  full-same s false = quiet-same

  pub collecting_after-same : (s : Seat) (o : Vote)
      → SameRow (collecting_after s v o) (collecting_after s w o)
  collecting_after-same s No = collecting_abort-same s ByVote
  collecting_after-same s Yes = rw all_voted-same (full-same s (all_voted w.accepted w.votes))
  collecting_after-same s Read = rw all_voted-same (full-same s (all_voted w.accepted w.votes))

voted_so-append : (o : Vote) (vs us : List (Ticket × Vote)) (t : Ticket)
    → voted_so o (vs ++ us) t ≡ (voted_so o vs t || voted_so o us t)
unfolding voted_so
voted_so-append o vs us t = list_any-append (λ v. same_vote o v.1 && same_ticket v.0 t) vs us

same_by : (b : Bool) (r q r' q' : Row) → SameRow r q → SameRow r' q'
    → SameRow (if b then r else r') (if b then q else q')
same_by true r q r' q' here there = here
same_by false r q r' q' here there = there

pub sends-same : (ls : List Envelope) (v w : CoordinatorView) → SameView v w
    → SameRow (sends ls v) (sends ls w)
sends-same ls v w same = record {
  written = refl;
  told = refl;
  messages = refl;
  accepts = refl;
  counts = refl;
  view = same;
}

-- the row of each message and act, at each standing
module _ (v w : CoordinatorView) (same : SameView v w) where
  counted : (t : Ticket) (o : Vote) → SameView (record v { votes = v.votes ++ (t, o) ∷ [] })
      (record w { votes = w.votes ++ (t, o) ∷ [] })
  counted t o =
      record {
        standing = same.standing;
        accepted = same.accepted;
        voted = λ p u.
            voted_so-append p v.votes ((t, o) ∷ []) u
            ∙ ap (λ b. b || voted_so p ((t, o) ∷ []) u) (same.voted p u)
            ∙ sym (voted_so-append p w.votes ((t, o) ∷ []) u);
        worked = same.worked;
        promised = same.promised;
        named = same.named;
        owed = same.owed;
        found = same.found;
      }

  vote-same : (s : Seat) (t : Ticket) (o : Vote) → SameRow (collecting_vote s t o v) (collecting_vote s t o w)
  vote-same s t o = rw (is_counted-same v w same t) (by_test (is_counted w.accepted w.votes t))
    where
      by_test : (b : Bool)
          → SameRow (if b then record (collecting_after s (record v { votes = v.votes ++ (t, o) ∷ [] })
          o) { counts = (t, o) ∷ [] } else quiet v)
          (if b then record (collecting_after s (record w { votes = w.votes ++ (t, o) ∷ [] })
          o) { counts = (t, o) ∷ [] } else quiet w)
      by_test false = quiet-same v w same
      by_test true =
          let after = collecting_after-same (record v { votes = v.votes ++ (t, o) ∷ [] })
          (record w { votes = w.votes ++ (t, o) ∷ [] }) (counted t o) s o in
          record {
            written = after.written;
            told = after.told;
            messages = after.messages;
            accepts = after.accepts;
            counts = refl;
            view = after.view;
          }

  owing-same : (fs : List Finding) (us vs : List Ticket) → ((u : Ticket) → in_list us u ≡ in_list vs u)
      → SameView (record v { owed = us; found = fs }) (record w { owed = vs; found = fs })
  owing-same fs us vs alike =
      record {
        standing = same.standing;
        accepted = same.accepted;
        voted = same.voted;
        worked = same.worked;
        promised = same.promised;
        named = same.named;
        owed = alike;
        found = refl;
      }

  left-same : (t u : Ticket) → in_list (other_tickets t v.owed) u ≡ in_list (other_tickets t w.owed) u
  left-same t u = in_list-others t u v.owed ∙ ap (λ b. b && not (same_ticket t u)) (same.owed u)
      ∙ sym (in_list-others t u w.owed)

  ended-same : (ver : Version) (s : Seat) (o : Outcome) (fs : List Finding) (us vs : List Ticket)
      → ((u : Ticket) → in_list us u ≡ in_list vs u)
      → SameRow (decided_ack_by ver s o us fs v) (decided_ack_by ver s o vs fs w)
  ended-same ver s o fs us vs alike = rw (none_of-lists us vs alike)
      (same_by (none_of vs) _ _ _ _ (same_row _) (quiet-same _ _ (owing-same fs us vs alike)))

  ack-same : (ver : Version) (s : Seat) (o : Outcome) (t : Ticket) (fs : List Finding)
      → SameRow (decided_ack ver s o t fs v) (decided_ack ver s o t fs w)
  ack-same ver s o t fs = rw (same.owed t) (same_by (in_list w.owed t) _ _ _ _
      (ended-same ver s o fs (other_tickets t v.owed) (other_tickets t w.owed) (left-same t))
      (quiet-same v w same))

  pub on_vote-same : (s : Seat) (t : Ticket) (o : Vote) (st : Standing)
      → SameRow (on_vote s t o v st) (on_vote s t o w st)
  on_vote-same s t o Collecting = vote-same s t o
  on_vote-same s t o Unknown = quiet-same v w same
  on_vote-same s t o Active = quiet-same v w same
  on_vote-same s t o Prepared = quiet-same v w same
  on_vote-same s t o Committing = quiet-same v w same
  on_vote-same s t o Aborting = quiet-same v w same
  on_vote-same s t o Heuristic = quiet-same v w same

  pub on_ack-same : (ver : Version) (s : Seat) (t : Ticket) (o : Outcome) (fs : List Finding) (st : Standing)
      → SameRow (on_ack ver s t o fs v st) (on_ack ver s t o fs w st)
  on_ack-same ver s t Committed fs Committing = ack-same ver s Committed t fs
  on_ack-same ver s t Committed fs Aborting = quiet-same v w same
  on_ack-same ver s t Committed fs Unknown = quiet-same v w same
  on_ack-same ver s t Committed fs Active = quiet-same v w same
  on_ack-same ver s t Committed fs Collecting = quiet-same v w same
  on_ack-same ver s t Committed fs Prepared = quiet-same v w same
  on_ack-same ver s t Committed fs Heuristic = quiet-same v w same
  on_ack-same ver s t Aborted fs Aborting = ack-same ver s Aborted t fs
  on_ack-same ver s t Aborted fs Committing = quiet-same v w same
  on_ack-same ver s t Aborted fs Unknown = quiet-same v w same
  on_ack-same ver s t Aborted fs Active = quiet-same v w same
  on_ack-same ver s t Aborted fs Collecting = quiet-same v w same
  on_ack-same ver s t Aborted fs Prepared = quiet-same v w same
  on_ack-same ver s t Aborted fs Heuristic = quiet-same v w same

  pub on_inquiry-same : (s : Seat) (t : Ticket) (st : Standing)
      → SameRow (on_inquiry s t v st) (on_inquiry s t w st)
  on_inquiry-same s t Committing = sends-same _ v w same
  on_inquiry-same s t Aborting = sends-same _ v w same
  on_inquiry-same s t Unknown = sends-same _ v w same
  on_inquiry-same s t Active = quiet-same v w same
  on_inquiry-same s t Collecting = quiet-same v w same
  on_inquiry-same s t Prepared = quiet-same v w same
  on_inquiry-same s t Heuristic = quiet-same v w same

  accepting : (t : Ticket) → SameView (record v { accepted = v.accepted ++ t ∷ [] })
      (record w { accepted = w.accepted ++ t ∷ [] })
  accepting t =
      record {
        standing = same.standing;
        accepted = ap (λ ts. ts ++ t ∷ []) same.accepted;
        voted = same.voted;
        worked = same.worked;
        promised = same.promised;
        named = same.named;
        owed = same.owed;
        found = same.found;
      }

  pub active_joined-same : (t : Ticket) → SameRow (active_joined t v) (active_joined t w)
  active_joined-same t =
      subst (λ b. SameRow (active_joined t v)
      (if b then quiet w else record {
        written = [];
        told = None;
        messages = [];
        accepts = t
            ∷ [];
        counts = [];
        view = record w { accepted = w.accepted ++ t ∷ [] };
      }))
      (ap (λ ts. has_child ts t.child) same.accepted)
      (same_by (has_child v.accepted t.child) _ _ _ _ (quiet-same v w same)
      (record {
        written = refl;
        told = refl;
        messages = refl;
        accepts = refl;
        counts = refl;
        view = accepting t;
      }))

  pub on_joined-same : (t : Ticket) (st : Standing) → SameRow (on_joined t v st) (on_joined t w st)
  on_joined-same t Active = active_joined-same t
  on_joined-same t Unknown = quiet-same v w same
  on_joined-same t Collecting = quiet-same v w same
  on_joined-same t Prepared = quiet-same v w same
  on_joined-same t Committing = quiet-same v w same
  on_joined-same t Aborting = quiet-same v w same
  on_joined-same t Heuristic = quiet-same v w same

  prepares-same : (s : Seat) → prepares s v ≡ prepares s w
  prepares-same s = (λ i. map (λ t. post s.me t.child
      (Prepare (child_case s.own.txn t) (same.worked t i))) (same.accepted i))

  naming : (st : Standing) (ts : List Ticket)
      → SameView (record v { standing = st; named = v.named ++ ts })
      (record w { standing = st; named = w.named ++ ts })
  naming st ts =
      record {
        standing = refl;
        accepted = same.accepted;
        voted = same.voted;
        worked = same.worked;
        promised = same.promised;
        named = λ t. in_list-append v.named ts t ∙ ap (λ b. b || in_list ts t) (same.named t)
            ∙ sym (in_list-append w.named ts t);
        owed = same.owed;
        found = same.found;
      }

  collecting : SameView (record v { standing = Collecting }) (record w { standing = Collecting })
  collecting =
      record {
        standing = refl;
        accepted = same.accepted;
        voted = same.voted;
        worked = same.worked;
        promised = same.promised;
        named = same.named;
        owed = same.owed;
        found = same.found;
      }

  commit_with-same : (s : Seat) (p : Presumption)
      → SameRow (active_commit_with s v p) (active_commit_with s w p)
  commit_with-same s PresumeAbort = record {
    written = refl;
    told = refl;
    messages = prepares-same s;
    accepts = refl;
    counts = refl;
    view = collecting;
  }
  commit_with-same s PresumeCommit =
      record {
        written =
            (λ i. (active_commit_with s (record v { accepted = same.accepted i }) PresumeCommit).written);
        told = refl;
        messages = prepares-same s;
        accepts = refl;
        counts = refl;
        view = subst (λ ts. SameView (record v { standing = Collecting; named = v.named ++ v.accepted })
            (record w { standing = Collecting; named = w.named ++ ts })) same.accepted
            (naming Collecting v.accepted);
      }

  pub active_commit-same : (s : Seat) → SameRow (active_commit s v) (active_commit s w)
  active_commit-same s =
      subst (λ b. SameRow (active_commit s v) (if b then active_commit_alone s else active_commit_with s w
      s.own.txn.presumption)) (ap none_of same.accepted)
      (same_by (none_of v.accepted) _ _ _ _ (same_row _) (commit_with-same s s.own.txn.presumption))

  pub active_abort-same : (s : Seat) → SameRow (active_abort s v) (active_abort s w)
  active_abort-same s =
      record {
        written = refl;
        told = refl;
        messages = (λ i. (active_abort s (record v { accepted = same.accepted i })).messages);
        accepts = refl;
        counts = refl;
        view = same_view unknown_view;
      }

  pub active_join-same : (s : Seat) (q : ProcessId) → SameRow (active_join s q v) (active_join s q w)
  active_join-same s q = rw (has_child-same q)
      (same_by (has_child w.accepted q) _ _ _ _ (quiet-same v w same) (sends-same _ v w same))
    where
      has_child-same : (q : ProcessId) → has_child v.accepted q ≡ has_child w.accepted q
      has_child-same q = ap (λ ts. has_child ts q) same.accepted

  pub active_work-same : (s : Seat) (t : Ticket) (op : Op)
      → SameRow (active_work s t op v) (active_work s t op w)
  active_work-same s t op =
      record {
        written = refl;
        told = refl;
        messages = (λ i. post s.me t.child (Work (child_case s.own.txn t) (same.worked t i + 1) op) ∷ []);
        accepts = refl;
        counts = refl;
        view = record {
          standing = same.standing;
          accepted = same.accepted;
          voted = same.voted;
          worked = λ u. works_of-append v.works (t ∷ []) u ∙ ap (λ n. n + works_of (t ∷ []) u) (same.worked u)
              ∙ sym (works_of-append w.works (t ∷ []) u);
          promised = same.promised;
          named = same.named;
          owed = same.owed;
          found = same.found;
        };
      }

  commit_by-same : (ver : Version) (s : Seat) (p : Presumption)
      → SameRow (prepared_commit_by ver s v p) (prepared_commit_by ver s w p)
  commit_by-same ver s PresumeAbort =
      record {
        written =
            (λ i. (prepared_commit_by ver s (record v { promised = same.promised i }) PresumeAbort).written);
        told = refl;
        messages =
            (λ i. (prepared_commit_by ver s (record v { promised = same.promised i }) PresumeAbort).messages);
        accepts = refl;
        counts = refl;
        view = subst (λ ts. SameView (awaits Committing v.promised v) (awaits Committing ts w)) same.promised
            (awaits-same v w same Committing v.promised);
      }
  commit_by-same ver s PresumeCommit =
      record {
        written = refl;
        told = refl;
        messages =
            (λ i. (prepared_commit_by ver s (record v { promised = same.promised i })
            PresumeCommit).messages);
        accepts = refl;
        counts = refl;
        view = same_view unknown_view;
      }

  abort_by-promised : (ver : Version) (s : Seat) (p : Presumption)
      → SameRow (prepared_abort_by ver s v p) (prepared_abort_by ver s w p)
  abort_by-promised ver s PresumeAbort =
      record {
        written = refl;
        told = refl;
        messages =
            (λ i. (prepared_abort_by ver s (record v { promised = same.promised i }) PresumeAbort).messages);
        accepts = refl;
        counts = refl;
        view = same_view unknown_view;
      }
  abort_by-promised ver s PresumeCommit =
      record {
        written =
            (λ i. (prepared_abort_by ver s (record v { promised = same.promised i }) PresumeCommit).written);
        told = refl;
        messages =
            (λ i. (prepared_abort_by ver s (record v { promised = same.promised i }) PresumeCommit).messages);
        accepts = refl;
        counts = refl;
        view = subst (λ ts. SameView (awaits Aborting v.promised v) (awaits Aborting ts w)) same.promised
            (awaits-same v w same Aborting v.promised);
      }

  pub on_prepare-same : (s : Seat) (st : Standing) → SameRow (on_prepare s v st) (on_prepare s w st)
  on_prepare-same s Active = active_commit-same s
  on_prepare-same s Prepared = sends-same _ v w same
  on_prepare-same s Aborting = sends-same _ v w same
  on_prepare-same s Unknown = sends-same _ v w same
  on_prepare-same s Collecting = quiet-same v w same
  on_prepare-same s Committing = quiet-same v w same
  on_prepare-same s Heuristic = quiet-same v w same

  unknown_commit-same : (ver : Version) (s : Seat) (p : Presumption)
      → SameRow (unknown_commit_by ver s v p) (unknown_commit_by ver s w p)
  unknown_commit-same ver s PresumeAbort = sends-same _ v w same
  unknown_commit-same ver s PresumeCommit = quiet-same v w same

  unknown_abort-same : (ver : Version) (s : Seat) (p : Presumption)
      → SameRow (unknown_abort_by ver s v p) (unknown_abort_by ver s w p)
  unknown_abort-same ver s PresumeAbort = quiet-same v w same
  unknown_abort-same ver s PresumeCommit = sends-same _ v w same

  commit_again-same : (ver : Version) (s : Seat)
      → SameRow (committing_commit ver s v) (committing_commit ver s w)
  commit_again-same First s = sends-same _ v w same
  commit_again-same Second s = quiet-same v w same

  abort_again-same : (ver : Version) (s : Seat)
      → SameRow (aborting_abort ver s v) (aborting_abort ver s w)
  abort_again-same First s = sends-same _ v w same
  abort_again-same Second s = quiet-same v w same

  pub on_commit-same : (ver : Version) (s : Seat) (st : Standing)
      → SameRow (on_commit ver s v st) (on_commit ver s w st)
  on_commit-same ver s Prepared = commit_by-same ver s s.own.txn.presumption
  on_commit-same ver s Committing = commit_again-same ver s
  on_commit-same ver s Unknown = unknown_commit-same ver s s.own.txn.presumption
  on_commit-same ver s Active = quiet-same v w same
  on_commit-same ver s Collecting = quiet-same v w same
  on_commit-same ver s Aborting = quiet-same v w same
  on_commit-same ver s Heuristic = quiet-same v w same

  pub on_abort-same : (ver : Version) (s : Seat) (st : Standing)
      → SameRow (on_abort ver s v st) (on_abort ver s w st)
  on_abort-same ver s Active = active_abort-same s
  on_abort-same ver s Collecting = collecting_abort-same v w same s (ByAbort ver)
  on_abort-same ver s Prepared = abort_by-promised ver s s.own.txn.presumption
  on_abort-same ver s Aborting = abort_again-same ver s
  on_abort-same ver s Unknown = unknown_abort-same ver s s.own.txn.presumption
  on_abort-same ver s Committing = quiet-same v w same
  on_abort-same ver s Heuristic = quiet-same v w same

-- what views are not asked for does not count
pub row_effect-same : (c : Case) (r q : Row) → SameRow r q → row_effect c r ≡ row_effect c q
row_effect-same c r q same =
    (λ i. row_effect c (record {
      written = same.written i;
      told = same.told i;
      messages = same.messages i;
      accepts = same.accepts i;
      counts = same.counts i;
      view = r.view;
    }))
