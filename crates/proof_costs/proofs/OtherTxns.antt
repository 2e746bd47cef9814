-- What a root does with an input of another transaction leaves what it sees of this one.
use Rattle.std.proofs.Common.{◌≡◌, ◌∙◌, ℕ, Bool, true, false, Option, Some, None, List, [], ◌∷◌, ◌++◌, refl, sym, ap, subst}
use Rattle.std.specs.Prelude.{fold}
use Rattle.std.proofs.lemmas.List.{append-nil}
use Rattle.protocol.specs.declared.names.Case.{Case}
use Rattle.protocol.specs.declared.names.ProcessId.{ProcessId}
use Rattle.protocol.specs.declared.names.Ticket.{Ticket}
use Rattle.protocol.specs.declared.names.Txn.{Txn}
use Rattle.protocol.specs.declared.names.Presumption.{Presumption}
use Rattle.protocol.specs.declared.names.Presumption.TheVariants.{PresumeAbort, PresumeCommit}
use Rattle.protocol.specs.declared.messages.Message.{Message}
use Rattle.protocol.specs.declared.messages.Message.TheVariants.{Join, Joined, Work, Prepare, Yes, No, Read, Commit, Abort, Ack, Inquire}
use Rattle.protocol.specs.declared.records.Record.{Record}
use Rattle.protocol_words.specs.Variants.{AbortAct, ActInput, ClearedRecord, CommitAct, Handles, JoinAct, MessageInput, PrepareRecord, VoteNo, VoteRead, VoteYes, WorkAct}
use Rattle.protocol.specs.declared.events.Act.TheVariants.{Begin, Ask, Decide, Forget}
use Rattle.protocol.specs.declared.events.Input.{Input}
use Rattle.protocol.specs.declared.trees.TreeProcess.{TreeProcess}
use Rattle.protocol.specs.Names.{child_case, root_case, same_case, same_txn}
use Rattle.protocol.specs.Records.{boot_after, boot_of}
use Rattle.protocol.specs.Nodes.{Effect, Heard, Node, Place, after, entries_written, kept, no_effect}
use Rattle.protocol.specs.Memory.{Memory, memory_of, root_remembers}
use Rattle.protocol.specs.Standings.{coordinator_standing, coordinator_view, view_at}
use Rattle.protocol.specs.CoordinatorRows.{Row}
use Rattle.protocol.specs.Reactions.{Does, reacts, row_effect}
use Rattle.protocol.specs.Views.{begin_effect, next_begun, root_place}
use Rattle.proof_model.proofs.BeginLaws.{root_begins}
use Rattle.proof_model.proofs.RootViewLaws.{IsRowOfCase, abort_of, collecting_of, commit_of, end_of, quiet_of}
use Rattle.proof_model.proofs.StandingLaws.{view-after}
use Rattle.proof_model.proofs.TicketLaws.{pushed}
use Rattle.proof_pairs.specs.turns.CoordinatorTurns.{CaseTurn, ChildSays, CoordinatorTurn, IsOfNoCase, accepts, acknowledged, acknowledges, aborts, answers, asks, asks_for_votes, begins, belongs_nowhere, clears, commits, counts_vote, does_nothing, ends, finds_nobody, gives_again, gives_fresh, gives_up, hears_no, inquires, invites, not_taken, of_case, passes_abort, passes_commit, presumes, promises, reads_only, refuses, repeats_yes, rests, sends_work, unticketed, votes, waits_for_acks}
use Rattle.proof_processes.proofs.CaseSteps.{Concerns, by_child, by_name, named_case, turn_concerns}
use Rattle.proof_processes.proofs.CoordinatorAccepts.{turn_here}
use Rattle.proof_processes.proofs.OwnCases.{child_txn}
use Rattle.proof_costs.specs.Journals.{begun_is_of, happening_is_of, of_txn}
use Rattle.proof_costs.proofs.Entries.{either_none}

-- Rows: what a row of a case writes, no other case reads.

cleared_of : (c : Case) (row : Row) (b : Bool) → row.written
    ≡ record { entry = ClearedRecord c; is_forced = b } ∷ []
    → IsRowOfCase c row
cleared_of c row b h = record { boot = λ b. rw h refl; others = λ d rs m o. rw h (simp pushed refl) }

prepare_of : (c : Case) (ts : List Ticket) (row : Row) (b : Bool)
    → row.written ≡ record { entry = PrepareRecord c ts; is_forced = b } ∷ [] → IsRowOfCase c row
prepare_of c ts row b h = record { boot = λ b. rw h refl; others = λ d rs m o. rw h (simp (pushed, o) refl) }

module _ (place : Place) (parent : Option ProcessId) (n : Node) (h : Heard) (c : Case) where
  turn_is_of : (row : Row) → CaseTurn place parent n h c row → IsRowOfCase c row
  turn_is_of row (rests r) = quiet_of c row refl
  turn_is_of row (invites q i s a b) = quiet_of c row refl
  turn_is_of row (accepts t i s a) = quiet_of c row refl
  turn_is_of row (sends_work q t op i s a b) = quiet_of c row refl
  turn_is_of row (finds_nobody i s a) = quiet_of c row refl
  turn_is_of row (asks_for_votes PresumeAbort i s a e) = quiet_of c row refl
  turn_is_of row (asks_for_votes PresumeCommit i s a e) = collecting_of c _ row true refl
  turn_is_of row (gives_up why p i s e) = quiet_of c row refl
  turn_is_of row (counts_vote t w v k a) = quiet_of c row refl
  turn_is_of row (reads_only t w ys PresumeAbort v a e) = quiet_of c row refl
  turn_is_of row (reads_only t w ys PresumeCommit v a e) = end_of c None row false refl
  turn_is_of row (commits t w ys PresumeAbort v a b e) = commit_of c ys row true refl
  turn_is_of row (commits t w ys PresumeCommit v a b e) = commit_of c [] row true refl
  turn_is_of row (promises t w ys p v a e) = prepare_of c ys row true refl
  turn_is_of row (hears_no t us PresumeAbort v a e) = abort_of c [] row false refl
  turn_is_of row (hears_no t us PresumeCommit v a e) = abort_of c us row true refl
  turn_is_of row (aborts why us PresumeAbort i s a e) = abort_of c [] row false refl
  turn_is_of row (aborts why us PresumeCommit i s a e) = abort_of c us row true refl
  turn_is_of row (passes_commit PresumeAbort i s e) = commit_of c _ row true refl
  turn_is_of row (passes_commit PresumeCommit i s e) = commit_of c [] row false refl
  turn_is_of row (passes_abort PresumeAbort i s e) = abort_of c [] row false refl
  turn_is_of row (passes_abort PresumeCommit i s e) = abort_of c _ row true refl
  turn_is_of row (repeats_yes k i s) = quiet_of c row refl
  turn_is_of row (asks i s) = quiet_of c row refl
  turn_is_of row (refuses k i s) = quiet_of c row refl
  turn_is_of row (acknowledges o fs i a) = quiet_of c row refl
  turn_is_of row (waits_for_acks t o fs i a b k) = quiet_of c row refl
  turn_is_of row (ends t o fs i a b k) = end_of c _ row _ refl
  turn_is_of row (clears i s a b) = cleared_of c row true refl
  turn_is_of row (answers t o i a) = quiet_of c row refl

module _ (me : ProcessId) (tree : List TreeProcess) (n : Node) (x : Txn) where
  abbrev place : Place
  place = root_place me tree

  abbrev c : Case
  c = root_case x

  abbrev m : Memory
  m = memory_of place n c

  abbrev rs : List Record
  rs = kept n

  apart_of : (d : Case) → same_txn d.txn x ≡ false → same_case d (root_case x) ≡ false
  unfolding same_case
  apart_of d f = rw f refl

  -- Memory.

  -- the input begins no transaction
  abbrev Begins : Input → Type 0
  Begins i = (p : Presumption) × (i ≡ ActInput (Begin p))

  remembers_same : (i : Input) → happening_is_of (of_txn x) (Handles i) ≡ false → (Begins i → ⊥) → (boot : ℕ)
      → root_remembers me boot c m i ≡ m
  remembers_same (ActInput (Begin p)) f g boot = absurd (g (p, refl))
  remembers_same (ActInput (JoinAct d q)) f g boot = refl
  remembers_same (ActInput (WorkAct d q op)) f g boot = rw (apart_of d f) refl
  remembers_same (ActInput (CommitAct y)) f g boot = rw (apart_of (root_case y) f) refl
  remembers_same (ActInput (AbortAct y)) f g boot = rw (apart_of (root_case y) f) refl
  remembers_same (ActInput (Ask d)) f g boot = refl
  remembers_same (ActInput (Decide d o)) f g boot = refl
  remembers_same (ActInput (Forget d)) f g boot = refl
  remembers_same (MessageInput k (Joined d t)) f g boot = rw (apart_of d (either_none _ _ f).0) refl
  remembers_same (MessageInput k (Yes d)) f g boot = rw f refl
  remembers_same (MessageInput k (No d)) f g boot = rw f refl
  remembers_same (MessageInput k (Read d)) f g boot = rw f refl
  remembers_same (MessageInput k (Ack d o fs)) f g boot = rw f refl
  remembers_same (MessageInput k (Join d)) f g boot = refl
  remembers_same (MessageInput k (Work d i op)) f g boot = refl
  remembers_same (MessageInput k (Prepare d i)) f g boot = refl
  remembers_same (MessageInput k (Commit d)) f g boot = refl
  remembers_same (MessageInput k (Abort d)) f g boot = refl
  remembers_same (MessageInput k (Inquire d)) f g boot = refl

  named_so : (b d : Case) → same_txn b.txn x ≡ false → Some b ≡ Some d → same_txn d.txn x ≡ false
  named_so b d g e = subst (λ (y : Case). same_txn y.txn x ≡ false) (let z : b ≡ d = cc in z) g

  module _ (h : Heard) (f : happening_is_of (of_txn x) (Handles h.input) ≡ false) where
    abbrev Stays : Effect → Type 0
    Stays e = coordinator_view place (after n h e) c ≡ coordinator_view place n c

    kept_view : (e : Effect) → (Begins h.input → ⊥)
        → ((b : ℕ) → fold boot_after b (entries_written e.written) ≡ b)
        → (let qs = kept n ++ entries_written e.written in
        view_at (coordinator_standing qs c m) qs c m ≡ view_at (coordinator_standing rs c m) rs c m)
        → Stays e
    unfolding coordinator_view
    kept_view e g boot others =
        view-after place n h e c boot
        ∙ (ap (λ (k : Memory). let qs = kept n ++ entries_written e.written in
        view_at (coordinator_standing qs c k) qs c k) (remembers_same h.input f g (boot_of (kept n)))
        ∙ others)

    quiet_view : (e : Effect) → (Begins h.input → ⊥) → e.written ≡ [] → Stays e
    quiet_view e g none = kept_view e g (λ b. rw none refl) (rw none (simp append-nil refl))

    -- what is said of another case
    no_message : (k : ℕ) (l : Message) → h.input ≡ MessageInput k l → Begins h.input → ⊥
    no_message k l i b = let z : MessageInput k l ≡ ActInput (Begin b.0) = sym i ∙ b.1 in cc

    no_name : (d : Case) → named_case h.input ≡ Some d → Begins h.input → ⊥
    no_name d i b = let z : None ≡ Some d = ap named_case (sym b.1) ∙ i in cc

    begins_none : (d : Case) → Concerns place n h.input d → Begins h.input → ⊥
    begins_none d (by_name i) = no_name d i
    begins_none d (by_child says kind y t j i found) = no_message j (says (child_case y t)) i

    named_is : (i : Input) (d : Case) → happening_is_of (of_txn x) (Handles i) ≡ false → named_case i ≡ Some d
        → same_txn d.txn x ≡ false
    named_is (ActInput (CommitAct y)) d g e = named_so (root_case y) d g e
    named_is (ActInput (AbortAct y)) d g e = named_so (root_case y) d g e
    named_is (ActInput (JoinAct b q)) d g e = named_so b d g e
    named_is (ActInput (WorkAct b q op)) d g e = named_so b d g e
    named_is (ActInput (Ask b)) d g e = named_so b d g e
    named_is (ActInput (Forget b)) d g e = named_so b d g e
    named_is (MessageInput k (Joined b t)) d g e = named_so b d (either_none _ _ g).0 e
    named_is (MessageInput k (Prepare b i)) d g e = named_so b d g e
    named_is (MessageInput k (Commit b)) d g e = named_so b d g e
    named_is (MessageInput k (Abort b)) d g e = named_so b d g e
    named_is i d g e = absurd (cc)

    said_is : (says : Case → Message) → ChildSays says → (k : ℕ) (d : Case)
        → happening_is_of (of_txn x) (Handles (MessageInput k (says d))) ≡ false → same_txn d.txn x ≡ false
    said_is _ (votes VoteYes) k d g = g
    said_is _ (votes VoteNo) k d g = g
    said_is _ (votes VoteRead) k d g = g
    said_is _ (acknowledged o fs) k d g = g
    said_is _ inquires k d g = g

    concerned_is : (d : Case) → Concerns place n h.input d → same_txn d.txn x ≡ false
    concerned_is d (by_name e) = named_is h.input d f e
    concerned_is d (by_child says kind y t j i found) =
        subst (λ (z : Txn). same_txn z x ≡ false) (sym (child_txn me None tree n y t d found))
        (said_is says kind j (child_case y t)
        (subst (λ (z : Input). happening_is_of (of_txn x) (Handles z) ≡ false) i f))

    case_leaves : (d : Case) (row : Row) → CaseTurn place None n h d row → Stays (row_effect d row)
    case_leaves d row t =
        let is = turn_concerns place None n h d row t in
        let own = turn_is_of place None n h d row t in
        kept_view (row_effect d row) (begins_none d is) own.boot
        (own.others c rs m (apart_of d (concerned_is d is)))

    none_leaves : IsOfNoCase place None n h → Stays no_effect
    none_leaves (unticketed says y kind i) = quiet_view no_effect (no_message i.0 _ i.1) refl
    none_leaves (belongs_nowhere says y t kind i none) = quiet_view no_effect (no_message i.0 _ i.1) refl
    none_leaves (not_taken l i untaken) = quiet_view no_effect (no_message i.0 l i.1) refl

    begun_leaves : (p : Presumption) → h.input ≡ ActInput (Begin p)
        → begun_is_of (of_txn x) (Some (next_begun place n p)) ≡ false
        → Stays (begin_effect (next_begun place n p))
    begun_leaves p i b =
        subst (λ (g : Heard). coordinator_view place (after n g (begin_effect (next_begun place n p))) c
        ≡ coordinator_view place n c)
        (sym (ap (λ (z : Input). record { input = z; data_answer = h.data_answer; version = h.version }) i))
        ((root_begins h.version me tree n p h.data_answer).others x b)

    no_parent : {A : Type 0} (p : ProcessId) → None ≡ Some p → A
    no_parent p e = absurd (cc)

    turn_leaves : (e : Effect) → CoordinatorTurn place None n h e → begun_is_of (of_txn x) e.begun ≡ false
        → Stays e
    turn_leaves e (does_nothing i) b = none_leaves i
    turn_leaves e (of_case d row t) b = case_leaves d row t
    turn_leaves e (begins p top i) b = begun_leaves p i b
    turn_leaves e (gives_again p d t below i a) b = no_parent p below
    turn_leaves e (gives_fresh p d below i a) b = no_parent p below
    turn_leaves e (presumes y t i none) b = quiet_view e (no_message i.0 _ i.1) refl

    pub other_leaves : (e : Effect) → reacts place n h ≡ Does e → begun_is_of (of_txn x) e.begun ≡ false
        → Stays e
    other_leaves e r b = turn_leaves e (turn_here me None tree n h e r) b
