-- Every row of a coordinator's case is one of its turns.
use Rattle.std.proofs.Common.{◌≡◌, ◌≢◌, ℕ, Bool, true, false, Option, Some, None, List, [], ◌∷◌, refl, sym, subst, if◌then◌else◌, ◌++◌, ◌∙◌}
use Rattle.protocol.specs.declared.names.Case.{Case}
use Rattle.protocol.specs.declared.names.ProcessId.{ProcessId}
use Rattle.protocol.specs.declared.names.Ticket.{Ticket}
use Rattle.protocol.specs.declared.names.Outcome.{Outcome}
use Rattle.protocol_words.specs.Variants.{AbortedOutcome, CommittedOutcome, VoteNo, VoteRead, VoteYes}
use Rattle.protocol.specs.declared.names.Presumption.{Presumption}
use Rattle.protocol.specs.declared.names.Presumption.TheVariants.{PresumeAbort, PresumeCommit}
use Rattle.protocol.specs.declared.messages.Message.TheVariants.{Joined, Prepare, Commit, Abort, Ack, Inquire}
use Rattle.protocol.specs.declared.standings.Standing.{Standing}
use Rattle.protocol.specs.declared.standings.Standing.TheVariants.{Unknown, Active, Collecting, Prepared, Committing, Aborting, Heuristic}
use Rattle.protocol.specs.declared.standings.Vote.{Vote}
use Rattle.protocol.specs.Names.{presumed}
use Rattle.protocol.specs.Records.{in_list, none_of}
use Rattle.protocol.specs.Nodes.{Version, First, Second, Place, Node, Heard}
use Rattle.protocol.specs.Memory.{has_child, is_counted, all_voted, yes_of}
use Rattle.protocol.specs.Standings.{CoordinatorView, unknown_view, coordinator_view, unknown_findings, found_below}
use Rattle.protocol.specs.CoordinatorRows.{Seat, Row, quiet, sends, tells_outcome, up, Reason, ByAbort, active_commit, active_commit_alone, active_commit_with, active_abort, collecting_abort, collecting_read_only, decides, collecting_full, collecting_after, unknown_commit_by, decided_ack_by, acknowledges_at_last, committing_commit, aborting_abort, other_tickets, on_vote, on_ack, on_inquiry, on_joined, on_prepare, on_commit, on_abort, ends_with, unknown_abort_by}
use Rattle.protocol.specs.Reactions.{seat_of}
use Rattle.protocol.specs.Views.{vote_message}
use Rattle.proof_pairs.specs.turns.LeafTurns.{Hears}
use Rattle.proof_pairs.specs.turns.CoordinatorTurns.{IsToCommit, prepare_comes, IsToAbort, abort_comes, HearsChild, HearsParent, Acknowledges, commit_presumed_abort, commit_again, abort_presumed_commit, abort_again, PromisesNoMore, unknown_refuses, aborting_refuses, HasDecided, by_commit, by_abort, AnswersInquiry, by_decision, by_presumption, voted, counting, Consents, votes_yes, votes_read, CountsVote, CountsLast, takes_nobody, counts_nothing, owes_nothing, knows_nothing, prepares_nothing, commits_nothing, aborts_nothing, CaseTurn, rests, accepts, finds_nobody, asks_for_votes, gives_up, counts_vote, reads_only, commits, promises, hears_no, aborts, passes_commit, passes_abort, repeats_yes, refuses, acknowledges, waits_for_acks, ends, answers}
use Rattle.protocol.specs.declared.messages.Finding.{Finding}

module _ (place : Place) (parent : Option ProcessId) (n : Node) (h : Heard) (c : Case) where
  abbrev s : Seat
  s = seat_of place parent c

  abbrev v : CoordinatorView
  v = coordinator_view place n c

  abbrev pub T : Row → Type 0
  T r = CaseTurn place parent n h c r

  -- Active.

  joins_if : (t : Ticket) → Hears h (Joined c t) → v.standing ≡ Active → (b : Bool)
      → has_child v.accepted t.child ≡ b
      → T (if b then quiet v
      else record (quiet (record v { accepted = v.accepted ++ t ∷ [] })) { accepts = t ∷ [] })
  joins_if t i e true f = rests (takes_nobody t i (λ g. f))
  joins_if t i e false f = accepts t i e f

  commits_if : IsToCommit parent h c → v.standing ≡ Active → (b : Bool) → none_of v.accepted ≡ b
      → T (if b then active_commit_alone s else active_commit_with s v c.txn.presumption)
  commits_if i e true f = finds_nobody i e f
  commits_if i e false f = asks_for_votes c.txn.presumption i e f refl

  pub commits_active : IsToCommit parent h c → v.standing ≡ Active → T (active_commit s v)
  commits_active i e = commits_if i e (none_of v.accepted) refl

  pub aborts_active : (why : Reason) → IsToAbort parent h c why → v.standing ≡ Active → T (active_abort s v)
  aborts_active why i e = gives_up why c.txn.presumption i e refl

  -- Collecting.

  pub aborts_collecting : (why : Reason) → IsToAbort parent h c why → v.standing ≡ Collecting
      → T (collecting_abort s why v)
  aborts_collecting why i e = aborts why _ c.txn.presumption i e refl refl

  module _ (t : Ticket) (w : Vote) (i : CountsVote place n h c t w) where
    abbrev ys : List Ticket
    ys = yes_of v.accepted (voted v t w).votes

    decided_at : CountsLast place n h c t w ys → none_of ys ≡ false → (p : Option ProcessId) → parent ≡ p
        → T (counting t w (decides s (voted v t w) ys p))
    decided_at l f None e = commits t w ys c.txn.presumption l f e refl
    decided_at l f (Some p) e = promises t w ys p l f e

    full_if : CountsLast place n h c t w ys → (b : Bool) → none_of ys ≡ b
        → T (counting t w (if b then collecting_read_only s else decides s (voted v t w) ys parent))
    full_if l true f = reads_only t w ys c.txn.presumption l f refl
    full_if l false f = decided_at l f parent refl

    voted_if : Consents w → (b : Bool) → all_voted v.accepted (voted v t w).votes ≡ b
        → T (counting t w (if b then collecting_full s (voted v t w) else quiet (voted v t w)))
    voted_if k true e =
        full_if (record { vote = i; consents = k; all = e; yes = refl }) (none_of ys) refl
    voted_if k false e = counts_vote t w i k e

  after_vote : (t : Ticket) (w : Vote) → CountsVote place n h c t w
      → T (counting t w (collecting_after s (voted v t w) w))
  after_vote t VoteYes i = voted_if t VoteYes i votes_yes _ refl
  after_vote t VoteRead i = voted_if t VoteRead i votes_read _ refl
  after_vote t VoteNo i = hears_no t _ c.txn.presumption i refl refl

  vote_if : (t : Ticket) (w : Vote) → HearsChild place n h c t (vote_message w) → v.standing ≡ Collecting
      → (b : Bool) → is_counted v.accepted v.votes t ≡ b
      → T (if b then counting t w (collecting_after s (voted v t w) w) else quiet v)
  vote_if t w i e true f = after_vote t w (record { hears = i; stands = e; counts = f })
  vote_if t w i e false f = rests (counts_nothing t w i (λ g. f))

  uncounted : (t : Ticket) (w : Vote) → HearsChild place n h c t (vote_message w) → (st : Standing)
      → v.standing ≡ st → (st ≡ Collecting → ⊥) → T (quiet v)
  uncounted t w i st e f = rests (counts_nothing t w i (λ g. absurd (f (sym e ∙ g))))

  pub vote_turn : (t : Ticket) (w : Vote) → HearsChild place n h c t (vote_message w)
      → (st : Standing) → v.standing ≡ st → T (on_vote s t w v st)
  vote_turn t w i Collecting e = vote_if t w i e (is_counted v.accepted v.votes t) refl
  vote_turn t w i Unknown e = uncounted t w i Unknown e (λ f. cc)
  vote_turn t w i Active e = uncounted t w i Active e (λ f. cc)
  vote_turn t w i Prepared e = uncounted t w i Prepared e (λ f. cc)
  vote_turn t w i Committing e = uncounted t w i Committing e (λ f. cc)
  vote_turn t w i Aborting e = uncounted t w i Aborting e (λ f. cc)
  vote_turn t w i Heuristic e = uncounted t w i Heuristic e (λ f. cc)

  -- Acknowledgements.

  ends_if : (t : Ticket) (o : Outcome) (fs : List Finding) → HearsChild place n h c t (λ d. Ack d o fs)
      → HasDecided o v.standing
      → in_list v.owed t ≡ true → (b : Bool) → none_of (other_tickets t v.owed) ≡ b
      → T (if b then record (quiet unknown_view) {
        written = ends_with h.version s (found_below place n c o fs);
        messages = acknowledges_at_last h.version s o (found_below place n c o fs);
      }
      else quiet (record v { owed = other_tickets t v.owed; found = found_below place n c o fs }))
  ends_if t o fs i d e true f = ends t o fs i d e f
  ends_if t o fs i d e false f = waits_for_acks t o fs i d e f

  owed_if : (t : Ticket) (o : Outcome) (fs : List Finding) → HearsChild place n h c t (λ d. Ack d o fs)
      → HasDecided o v.standing → (b : Bool) → in_list v.owed t ≡ b
      → T (if b then decided_ack_by h.version s o (other_tickets t v.owed) (found_below place n c o fs) v
      else quiet v)
  owed_if t o fs i d true e = ends_if t o fs i d e (none_of (other_tickets t v.owed)) refl
  owed_if t o fs i d false e = rests (owes_nothing t o fs i (λ g. e))

  not_committing : (st : Standing) → (st ≡ Committing → ⊥) → HasDecided CommittedOutcome st → ⊥
  not_committing _ f by_commit = f refl

  not_aborting : (st : Standing) → (st ≡ Aborting → ⊥) → HasDecided AbortedOutcome st → ⊥
  not_aborting _ f by_abort = f refl

  unowed : (t : Ticket) (o : Outcome) (fs : List Finding) → HearsChild place n h c t (λ d. Ack d o fs)
      → (st : Standing)
      → v.standing ≡ st → (HasDecided o st → ⊥) → T (quiet v)
  unowed t o fs i st e f = rests (owes_nothing t o fs i (λ g. absurd (f (subst (λ x. HasDecided o x) e g))))

  pub ack_turn : (t : Ticket) (o : Outcome) (fs : List Finding) → HearsChild place n h c t (λ d. Ack d o fs)
      → (st : Standing) → v.standing ≡ st → T (on_ack h.version s t o (found_below place n c o fs) v st)
  ack_turn t CommittedOutcome fs i Committing e =
      owed_if t CommittedOutcome fs i (subst (λ x. HasDecided CommittedOutcome x) (sym e) by_commit) _ refl
  ack_turn t AbortedOutcome fs i Aborting e =
      owed_if t AbortedOutcome fs i (subst (λ x. HasDecided AbortedOutcome x) (sym e) by_abort) _ refl
  ack_turn t CommittedOutcome fs i Unknown e =
      unowed t CommittedOutcome fs i Unknown e (not_committing Unknown (λ f. cc))
  ack_turn t CommittedOutcome fs i Active e =
      unowed t CommittedOutcome fs i Active e (not_committing Active (λ f. cc))
  ack_turn t CommittedOutcome fs i Collecting e =
      unowed t CommittedOutcome fs i Collecting e (not_committing Collecting (λ f. cc))
  ack_turn t CommittedOutcome fs i Prepared e =
      unowed t CommittedOutcome fs i Prepared e (not_committing Prepared (λ f. cc))
  ack_turn t CommittedOutcome fs i Aborting e =
      unowed t CommittedOutcome fs i Aborting e (not_committing Aborting (λ f. cc))
  ack_turn t CommittedOutcome fs i Heuristic e =
      unowed t CommittedOutcome fs i Heuristic e (not_committing Heuristic (λ f. cc))
  ack_turn t AbortedOutcome fs i Unknown e = unowed t AbortedOutcome fs i Unknown e
      (not_aborting Unknown (λ f. cc))
  ack_turn t AbortedOutcome fs i Active e = unowed t AbortedOutcome fs i Active e
      (not_aborting Active (λ f. cc))
  ack_turn t AbortedOutcome fs i Collecting e =
      unowed t AbortedOutcome fs i Collecting e (not_aborting Collecting (λ f. cc))
  ack_turn t AbortedOutcome fs i Prepared e =
      unowed t AbortedOutcome fs i Prepared e (not_aborting Prepared (λ f. cc))
  ack_turn t AbortedOutcome fs i Committing e =
      unowed t AbortedOutcome fs i Committing e (not_aborting Committing (λ f. cc))
  ack_turn t AbortedOutcome fs i Heuristic e =
      unowed t AbortedOutcome fs i Heuristic e (not_aborting Heuristic (λ f. cc))

  -- Inquiries.

  answers_as : (t : Ticket) (o : Outcome) → HearsChild place n h c t Inquire → (st : Standing)
      → v.standing ≡ st
      → AnswersInquiry c.txn.presumption st o
      → AnswersInquiry c.txn.presumption v.standing o
  answers_as t o i st e a = subst (λ x. AnswersInquiry c.txn.presumption x o) (sym e) a

  pub inquiry_turn : (t : Ticket) → HearsChild place n h c t Inquire → (st : Standing) → v.standing ≡ st
      → T (on_inquiry s t v st)
  inquiry_turn t i Committing e = answers t CommittedOutcome i
      (answers_as t _ i Committing e (by_decision _ Committing CommittedOutcome by_commit))
  inquiry_turn t i Aborting e = answers t AbortedOutcome i
      (answers_as t _ i Aborting e (by_decision _ Aborting AbortedOutcome by_abort))
  inquiry_turn t i Unknown e = answers t (presumed c.txn.presumption) i
      (answers_as t _ i Unknown e (by_presumption _))
  inquiry_turn t i Active e = rests (knows_nothing t i)
  inquiry_turn t i Collecting e = rests (knows_nothing t i)
  inquiry_turn t i Prepared e = rests (knows_nothing t i)
  inquiry_turn t i Heuristic e = rests (knows_nothing t i)

  -- JOINED.

  untaken : (t : Ticket) → Hears h (Joined c t) → (st : Standing) → v.standing ≡ st → (st ≡ Active → ⊥)
      → T (quiet v)
  untaken t i st e f = rests (takes_nobody t i (λ g. absurd (f (sym e ∙ g))))

  pub joined_turn : (t : Ticket) → Hears h (Joined c t) → (st : Standing) → v.standing ≡ st
      → T (on_joined t v st)
  joined_turn t i Active e = joins_if t i e (has_child v.accepted t.child) refl
  joined_turn t i Unknown e = untaken t i Unknown e (λ f. cc)
  joined_turn t i Collecting e = untaken t i Collecting e (λ f. cc)
  joined_turn t i Prepared e = untaken t i Prepared e (λ f. cc)
  joined_turn t i Committing e = untaken t i Committing e (λ f. cc)
  joined_turn t i Aborting e = untaken t i Aborting e (λ f. cc)
  joined_turn t i Heuristic e = untaken t i Heuristic e (λ f. cc)

  -- Messages of the parent.

  is_not : (st o : Standing) → v.standing ≡ st → (st ≡ o → ⊥) → v.standing ≢ o
  is_not st o e f g = f (sym e ∙ g)

  pub prepare_turn : (k : ℕ) → HearsParent parent h (Prepare c k) → (st : Standing) → v.standing ≡ st
      → T (on_prepare s v st)
  prepare_turn k i Active e = commits_active (prepare_comes i.from k i.is_parent i.hears) e
  prepare_turn k i Prepared e = repeats_yes k i e
  prepare_turn k i Aborting e = refuses k i (subst PromisesNoMore (sym e) aborting_refuses)
  prepare_turn k i Unknown e = refuses k i (subst PromisesNoMore (sym e) unknown_refuses)
  prepare_turn k i Collecting e = rests (prepares_nothing k i (is_not Collecting Active e (λ f. cc)))
  prepare_turn k i Committing e = rests (prepares_nothing k i (is_not Committing Active e (λ f. cc)))
  prepare_turn k i Heuristic e = rests (prepares_nothing k i (is_not Heuristic Active e (λ f. cc)))

  acknowledged : (o : Outcome) → HearsParent parent h (tells_outcome o c) → (st : Standing) → v.standing ≡ st
      → (fs : List Finding) → Acknowledges h.version c o c.txn.presumption st fs
      → T (sends (up s (Ack c o fs)) v)
  acknowledged o i st e fs a =
      acknowledges o fs i (subst (λ x. Acknowledges h.version c o c.txn.presumption x fs) (sym e) a)

  unknown_commits : HearsParent parent h (Commit c) → v.standing ≡ Unknown → (p : Presumption)
      → c.txn.presumption ≡ p → T (unknown_commit_by h.version s v p)
  unknown_commits i e PresumeAbort f = acknowledged CommittedOutcome i Unknown e
      (unknown_findings h.version c)
      (subst (λ x. Acknowledges h.version c CommittedOutcome x Unknown (unknown_findings h.version c)) (sym f)
      (commit_presumed_abort h.version c))
  unknown_commits i e PresumeCommit f = rests (commits_nothing i)

  unknown_aborts : HearsParent parent h (Abort c) → v.standing ≡ Unknown → (p : Presumption)
      → c.txn.presumption ≡ p → T (unknown_abort_by h.version s v p)
  unknown_aborts i e PresumeCommit f = acknowledged AbortedOutcome i Unknown e (unknown_findings h.version c)
      (subst (λ x. Acknowledges h.version c AbortedOutcome x Unknown (unknown_findings h.version c)) (sym f)
      (abort_presumed_commit h.version c))
  unknown_aborts i e PresumeAbort f =
      rests (aborts_nothing i (is_not Unknown Active e (λ g. cc)) (is_not Unknown Collecting e (λ g. cc)))

  committing_turn : HearsParent parent h (Commit c) → v.standing ≡ Committing → (x : Version) → h.version ≡ x
      → T (committing_commit x s v)
  committing_turn i e First f = acknowledged CommittedOutcome i Committing e []
      (subst (λ y. Acknowledges y c CommittedOutcome c.txn.presumption Committing []) (sym f)
      (commit_again c _))
  committing_turn i e Second f = rests (commits_nothing i)

  aborting_turn : HearsParent parent h (Abort c) → v.standing ≡ Aborting → (x : Version) → h.version ≡ x
      → T (aborting_abort x s v)
  aborting_turn i e First f = acknowledged AbortedOutcome i Aborting e []
      (subst (λ y. Acknowledges y c AbortedOutcome c.txn.presumption Aborting []) (sym f) (abort_again c _))
  aborting_turn i e Second f =
      rests (aborts_nothing i (is_not Aborting Active e (λ g. cc)) (is_not Aborting Collecting e (λ g. cc)))

  pub commit_turn : HearsParent parent h (Commit c) → (st : Standing) → v.standing ≡ st
      → T (on_commit h.version s v st)
  commit_turn i Prepared e = passes_commit c.txn.presumption i e refl
  commit_turn i Committing e = committing_turn i e h.version refl
  commit_turn i Unknown e = unknown_commits i e c.txn.presumption refl
  commit_turn i Active e = rests (commits_nothing i)
  commit_turn i Collecting e = rests (commits_nothing i)
  commit_turn i Aborting e = rests (commits_nothing i)
  commit_turn i Heuristic e = rests (commits_nothing i)

  pub abort_turn : HearsParent parent h (Abort c) → (st : Standing) → v.standing ≡ st
      → T (on_abort h.version s v st)
  abort_turn i Active e = aborts_active (ByAbort h.version) (abort_comes i.from i.is_parent i.hears) e
  abort_turn i Collecting e = aborts_collecting (ByAbort h.version) (abort_comes i.from i.is_parent i.hears) e
  abort_turn i Prepared e = passes_abort c.txn.presumption i e refl
  abort_turn i Aborting e = aborting_turn i e h.version refl
  abort_turn i Unknown e = unknown_aborts i e c.txn.presumption refl
  abort_turn i Committing e =
      rests (aborts_nothing i (is_not Committing Active e (λ g. cc))
      (is_not Committing Collecting e (λ g. cc)))
  abort_turn i Heuristic e =
      rests (aborts_nothing i (is_not Heuristic Active e (λ g. cc)) (is_not Heuristic Collecting e (λ g. cc)))
