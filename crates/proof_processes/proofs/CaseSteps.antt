-- What an input makes of a coordinator's case: it is the row's own, or nothing moves, or it begins.
use Rattle.std.proofs.Common.{◌≡◌, ◌∙◌, ◌||◌, ◌&&◌, ℕ, Bool, true, false, Option, Some, None, List, [], ◌∷◌, refl, sym, ap, subst, arith}
use Rattle.std.specs.Prelude.{map}
use Rattle.std.specs.List.{list_any}
use Rattle.protocol.specs.declared.names.Case.{Case}
use Rattle.protocol.specs.declared.names.ProcessId.{ProcessId}
use Rattle.protocol.specs.declared.names.Ticket.{Ticket}
use Rattle.protocol.specs.declared.names.Txn.{Txn}
use Rattle.protocol.specs.declared.names.Outcome.{Outcome}
use Rattle.protocol_words.specs.Variants.{AbortAct, AbortedOutcome, ActInput, CommitAct, CommittedOutcome, JoinAct, MessageInput, VoteNo, VoteRead, VoteYes, WorkAct}
use Rattle.protocol.specs.declared.names.Presumption.TheVariants.{PresumeAbort, PresumeCommit}
use Rattle.protocol.specs.declared.messages.Message.{Message}
use Rattle.protocol.specs.declared.messages.Message.TheVariants.{Joined, Prepare, Commit, Abort}
use Rattle.protocol.specs.declared.standings.Vote.{Vote}
use Rattle.protocol.specs.declared.events.Act.{Act}
use Rattle.protocol.specs.declared.events.Act.TheVariants.{Ask, Forget}
use Rattle.protocol.specs.declared.events.Input.{Input}
use Rattle.protocol.specs.Names.{same_case, same_ticket, root_case, child_case}
use Rattle.protocol.specs.NameLaws.{same_case-refl}
use Rattle.protocol.specs.Records.{has}
use Rattle.protocol.specs.Nodes.{Place, Node, Heard, Effect, entries_written}
use Rattle.protocol.specs.Memory.{Memory, Open, same_vote}
use Rattle.protocol.specs.Standings.{case_of_child}
use Rattle.protocol.specs.CoordinatorRows.{Row, tells_outcome}
use Rattle.protocol.specs.Reactions.{row_effect}
use Rattle.protocol.specs.Views.{vote_message}
use Rattle.proof_pairs.specs.turns.CoordinatorTurns.{IsToCommit, commit_act, prepare_comes, IsToAbort, abort_act, abort_comes, HearsChild, HearsParent, RestsBy, invited_already, takes_nobody, counts_nothing, owes_nothing, knows_nothing, prepares_nothing, commits_nothing, aborts_nothing, CaseTurn, rests, invites, accepts, sends_work, finds_nobody, asks_for_votes, gives_up, counts_vote, reads_only, commits, promises, hears_no, aborts, passes_commit, passes_abort, repeats_yes, asks as asks_parent, refuses, acknowledges, waits_for_acks, ends, clears, answers, ChildSays, votes, acknowledged, inquires}
use Rattle.proof_processes.specs.WorldHolds.{is_record_of}
use Rattle.proof_processes.proofs.Remembering.{OpensMemory, Asks, by_commit, by_prepare, Ends, by_act, by_abort, CountedVote, SameLists, MovesMemory, keeps, asks, closes, takes, counts, opens}
use Rattle.proof_processes.proofs.RootHistories.{took}

-- Which case an input names.

abbrev pub act_case : Act → Option Case
act_case (CommitAct x) = Some (root_case x)
act_case (AbortAct x) = Some (root_case x)
act_case (JoinAct c q) = Some c
act_case (WorkAct c q op) = Some c
act_case (Ask c) = Some c
act_case (Forget c) = Some c
act_case _ = None

abbrev pub message_case : Message → Option Case
message_case (Joined d t) = Some d
message_case (Prepare d k) = Some d
message_case (Commit d) = Some d
message_case (Abort d) = Some d
message_case _ = None

abbrev pub named_case : Input → Option Case
named_case (ActInput a) = act_case a
named_case (MessageInput j m) = message_case m

-- the input is of the case: it names it, or a child speaks whose ticket belongs to it
pub data Concerns (place : Place) (n : Node) (i : Input) (d : Case) : Type 0 where
  by_name : named_case i ≡ Some d → Concerns place n i d
  by_child : (says : Case → Message) → ChildSays says → (y : Txn) (t : Ticket) (j : ℕ)
      → i ≡ MessageInput j (says (child_case y t)) → case_of_child place n y t ≡ Some d → Concerns place n i d

module _ (place : Place) (parent : Option ProcessId) (n : Node) (h : Heard) (d : Case) where
  abbrev C : Type 0
  C = Concerns place n h.input d

  told_case : (o : Outcome) (j : ℕ) → named_case (MessageInput j (tells_outcome o d)) ≡ Some d
  told_case CommittedOutcome j = refl
  told_case AbortedOutcome j = refl

  of_parent : (m : Message) → HearsParent parent h m → ((j : ℕ) → named_case (MessageInput j m) ≡ Some d) → C
  of_parent m i e = by_name (ap named_case i.hears.1 ∙ e i.hears.0)

  of_child : (says : Case → Message) → ChildSays says → (t : Ticket) → HearsChild place n h d t says → C
  of_child says k t i = by_child says k i.txn t i.hears.0 i.hears.1 i.belongs

  to_commit : IsToCommit parent h d → C
  to_commit (commit_act x e i) = by_name (ap named_case i ∙ ap (λ c. Some c) (sym e))
  to_commit (prepare_comes p k e i) = by_name (ap named_case i.1)

  to_abort : (why : _) → IsToAbort parent h d why → C
  to_abort _ (abort_act x e i) = by_name (ap named_case i ∙ ap (λ c. Some c) (sym e))
  to_abort _ (abort_comes p e i) = by_name (ap named_case i.1)

  rests_concern : RestsBy place parent n h d → C
  rests_concern (invited_already q i) = by_name (ap named_case i)
  rests_concern (takes_nobody t i f) = by_name (ap named_case i.1)
  rests_concern (counts_nothing t w i f) = of_child _ (votes w) t i
  rests_concern (owes_nothing t o fs i f) = of_child _ (acknowledged o fs) t i
  rests_concern (knows_nothing t i) = of_child _ inquires t i
  rests_concern (prepares_nothing k i f) = of_parent _ i (λ j. refl)
  rests_concern (commits_nothing i) = of_parent _ i (λ j. refl)
  rests_concern (aborts_nothing i f g) = of_parent _ i (λ j. refl)

  -- a row's input is of its case
  pub turn_concerns : (row : Row) → CaseTurn place parent n h d row → C
  turn_concerns _ (rests r) = rests_concern r
  turn_concerns _ (invites q i e f a) = by_name (ap named_case i)
  turn_concerns _ (accepts t i e f) = by_name (ap named_case i.1)
  turn_concerns _ (sends_work q t op i e f a) = by_name (ap named_case i)
  turn_concerns _ (finds_nobody i e f) = to_commit i
  turn_concerns _ (asks_for_votes p i e f a) = to_commit i
  turn_concerns _ (gives_up why p i e f) = to_abort why i
  turn_concerns _ (counts_vote t w i f e) = of_child _ (votes w) t i.hears
  turn_concerns _ (reads_only t w ys p i e f) = of_child _ (votes w) t i.vote.hears
  turn_concerns _ (commits t w ys p i e f a) = of_child _ (votes w) t i.vote.hears
  turn_concerns _ (promises t w ys p i e f) = of_child _ (votes w) t i.vote.hears
  turn_concerns _ (hears_no t us p i e f) = of_child _ (votes VoteNo) t i.hears
  turn_concerns _ (aborts why us p i e f a) = to_abort why i
  turn_concerns _ (passes_commit p i e f) = of_parent _ i (λ j. refl)
  turn_concerns _ (passes_abort p i e f) = of_parent _ i (λ j. refl)
  turn_concerns _ (repeats_yes k i e) = of_parent _ i (λ j. refl)
  turn_concerns _ (asks_parent i e) = by_name (ap named_case i)
  turn_concerns _ (refuses k i e) = of_parent _ i (λ j. refl)
  turn_concerns _ (acknowledges o fs i e) = of_parent _ i (told_case o)
  turn_concerns _ (waits_for_acks t o fs i e f a) = of_child _ (acknowledged o fs) t i
  turn_concerns _ (ends t o fs i e f a) = of_child _ (acknowledged o fs) t i
  turn_concerns _ (clears i e f a) = by_name (ap named_case i)
  turn_concerns _ (answers t o i e) = of_child _ inquires t i

  -- and it writes of its case alone
  or_nothing : (x : Bool) → (x || false) ≡ true → x ≡ true
  or_nothing x y = grind arith

  row_record : (c : Case) (row : Row) → CaseTurn place parent n h d row
      → has (is_record_of c) (entries_written row.written) ≡ true → same_case d c ≡ true
  unfolding has
  row_record c _ (rests r) g = absurd (cc)
  row_record c _ (invites q i e f a) g = absurd (cc)
  row_record c _ (accepts t i e f) g = absurd (cc)
  row_record c _ (sends_work q t op i e f a) g = absurd (cc)
  row_record c _ (finds_nobody i e f) g = absurd (cc)
  row_record c _ (asks_for_votes PresumeAbort i e f a) g = absurd (cc)
  row_record c _ (asks_for_votes PresumeCommit i e f a) g = or_nothing _ g
  row_record c _ (gives_up why p i e f) g = absurd (cc)
  row_record c _ (counts_vote t w i f e) g = absurd (cc)
  row_record c _ (reads_only t w ys PresumeAbort i e f) g = absurd (cc)
  row_record c _ (reads_only t w ys PresumeCommit i e f) g = or_nothing _ g
  row_record c _ (commits t w ys PresumeAbort i e f a) g = or_nothing _ g
  row_record c _ (commits t w ys PresumeCommit i e f a) g = or_nothing _ g
  row_record c _ (promises t w ys p i e f) g = or_nothing _ g
  row_record c _ (hears_no t us PresumeAbort i e f) g = or_nothing _ g
  row_record c _ (hears_no t us PresumeCommit i e f) g = or_nothing _ g
  row_record c _ (aborts why us PresumeAbort i e f a) g = or_nothing _ g
  row_record c _ (aborts why us PresumeCommit i e f a) g = or_nothing _ g
  row_record c _ (passes_commit PresumeAbort i e f) g = or_nothing _ g
  row_record c _ (passes_commit PresumeCommit i e f) g = or_nothing _ g
  row_record c _ (passes_abort PresumeAbort i e f) g = or_nothing _ g
  row_record c _ (passes_abort PresumeCommit i e f) g = or_nothing _ g
  row_record c _ (repeats_yes j i e) g = absurd (cc)
  row_record c _ (asks_parent i e) g = absurd (cc)
  row_record c _ (refuses j i e) g = absurd (cc)
  row_record c _ (acknowledges o fs i e) g = absurd (cc)
  row_record c _ (waits_for_acks t o fs i e f a) g = absurd (cc)
  row_record c _ (ends t o fs i e f a) g = or_nothing _ g
  row_record c _ (clears i e f a) g = or_nothing _ g
  row_record c _ (answers t o i e) g = absurd (cc)

-- Silence.

abbrev pub heard_so : Case → Ticket → Vote → List (Case × (Ticket × Vote)) → Bool
heard_so c t v vs = list_any (λ a. same_case a.0 c && (same_ticket a.1.0 t && same_vote v a.1.1)) vs

-- the effect is none of the case's
pub record Silent (c : Case) (e : Effect) : Type 0 where
  pub unwritten : has (is_record_of c) (entries_written e.written) ≡ false
  pub untaken : (t : Ticket) → took c t e.accepts ≡ false
  pub uncounted : (t : Ticket) (v : Vote) → heard_so c t v e.counts ≡ false

none_taken : (c d : Case) (t : Ticket) (us : List Ticket) → same_case d c ≡ false
    → took c t (map (λ u. (d, u)) us) ≡ false
none_taken c d t [] e = refl
none_taken c d t (u ∷ us) e = rw (e, none_taken c d t us e) refl

none_heard : (c d : Case) (t : Ticket) (v : Vote) (us : List (Ticket × Vote)) → same_case d c ≡ false
    → heard_so c t v (map (λ u. (d, u)) us) ≡ false
none_heard c d t v [] e = refl
none_heard c d t v (u ∷ us) e = rw (e, none_heard c d t v us e) refl

pub other_silent : (place : Place) (parent : Option ProcessId) (n : Node) (h : Heard) (c d : Case) (row : Row)
    → CaseTurn place parent n h d row → same_case d c ≡ false → Silent c (row_effect d row)
other_silent place parent n h c d row turn e = record {
  unwritten = by_test (has (is_record_of c) (entries_written row.written)) refl;
  untaken = λ t. none_taken c d t row.accepts e;
  uncounted = λ t v. none_heard c d t v row.counts e;
}
  where
    by_test : (b : Bool) → has (is_record_of c) (entries_written row.written) ≡ b
        → has (is_record_of c) (entries_written row.written) ≡ false
    by_test true g = absurd (let k = sym e ∙ row_record place parent n h d c row turn g in cc)
    by_test false g = g

-- Another case.

-- nothing moves, or the case begins
pub data Apart (parent : Option ProcessId) (me : ProcessId) (boot : ℕ) (c : Case) (m : Memory) (i : Input)
    (k : Memory) : Type 0 where
  stays : k.phase ≡ m.phase → SameLists m k → Apart parent me boot c m i k
  begins : OpensMemory parent me boot c m i → k.phase ≡ Open → k.accepted ≡ [] → k.votes ≡ []
      → Apart parent me boot c m i k

asks_named : (parent : Option ProcessId) (c : Case) (i : Input) → Asks parent c i → named_case i ≡ Some c
asks_named parent c _ (by_commit x top e) = ap (λ d. Some d) e
asks_named parent c _ (by_prepare p j k below) = refl

ends_named : (parent : Option ProcessId) (c : Case) (i : Input) → Ends parent c i → named_case i ≡ Some c
ends_named parent c _ (by_act x top e) = ap (λ d. Some d) e
ends_named parent c _ (by_abort p j below) = refl

pub says_unnamed : (says : Case → Message) → ChildSays says → (j : ℕ) (d : Case)
    → named_case (MessageInput j (says d)) ≡ None
says_unnamed _ (votes VoteYes) j d = refl
says_unnamed _ (votes VoteNo) j d = refl
says_unnamed _ (votes VoteRead) j d = refl
says_unnamed _ (acknowledged o fs) j d = refl
says_unnamed _ inquires j d = refl

-- an input that names no case, and is no vote that counts, leaves the case or begins it
pub unnamed_apart : (parent : Option ProcessId) (me : ProcessId) (boot : ℕ) (c : Case) (m : Memory)
    (i : Input)
    (k : Memory) → named_case i ≡ None → ((t : Ticket) (w : Vote) → CountedVote c m i t w → ⊥)
    → MovesMemory parent me boot c m i k → Apart parent me boot c m i k
unnamed_apart parent me boot c m i k e f (keeps v p l) = stays p l
unnamed_apart parent me boot c m i k e f (asks a o p l) =
    absurd (let g = sym e ∙ asks_named parent c i a in cc)
unnamed_apart parent me boot c m i k e f (closes a o p l) =
    absurd (let g = sym e ∙ ends_named parent c i a in cc)
unnamed_apart parent me boot c m i k e f (takes j u x o b p a v) =
    absurd (let g = sym e ∙ ap named_case x in cc)
unnamed_apart parent me boot c m i k e f (counts t w x p a v) = absurd (f t w x)
unnamed_apart parent me boot c m i k e f (opens o p a v) = begins o p a v

not_other : {A : Type 0} (c d : Case) → same_case d c ≡ false → Some d ≡ Some c → A
not_other c d f e =
    let g : d ≡ c = cc in
    absurd (let x = sym f ∙ subst (λ (y : Case). same_case d y ≡ true) g (same_case-refl d) in cc)

-- an input that names another leaves it
pub named_apart : (parent : Option ProcessId) (me : ProcessId) (boot : ℕ) (c d : Case) (m : Memory)
    (i : Input)
    (k : Memory) → named_case i ≡ Some d → same_case d c ≡ false
    → MovesMemory parent me boot c m i k → Apart parent me boot c m i k
named_apart parent me boot c d m i k e f (keeps v p l) = stays p l
named_apart parent me boot c d m i k e f (asks a o p l) = not_other c d f (sym e ∙ asks_named parent c i a)
named_apart parent me boot c d m i k e f (closes a o p l) = not_other c d f (sym e ∙ ends_named parent c i a)
named_apart parent me boot c d m i k e f (takes j u x o b p a v) = not_other c d f (sym e ∙ ap named_case x)
named_apart parent me boot c d m i k e f (counts t w x p a v) = no_vote w (sym e ∙ ap named_case x.hears)
  where
    no_vote : {A : Type 0} (z : Vote) → Some d
        ≡ named_case (MessageInput x.number (vote_message z (child_case x.txn t))) → A
    no_vote VoteYes g = absurd (cc)
    no_vote VoteNo g = absurd (cc)
    no_vote VoteRead g = absurd (cc)
named_apart parent me boot c d m i k e f (opens o p a v) = begins o p a v
