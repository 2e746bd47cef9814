-- Every input of a manager is one of its turns.
use Rattle.std.proofs.Common.{◌≡◌, ◌==◌, ◌&&◌, ◌+◌, not, ℕ, Bool, true, false, Option, Some, None, [], refl, sym, subst, ap, ◌∙◌, if◌then◌else◌, arith}
use Rattle.protocol.specs.declared.names.Case.{Case}
use Rattle.protocol.specs.declared.names.ProcessId.{ProcessId}
use Rattle.protocol.specs.declared.names.Ticket.{Ticket}
use Rattle.protocol.specs.declared.names.Outcome.{Outcome}
use Rattle.protocol_words.specs.Variants.{AbortAct, AbortedOutcome, ActInput, CaseBranch, CommitAct, CommittedOutcome, JoinAct, MessageInput, WorkAct}
use Rattle.protocol.specs.declared.messages.Message.{Message}
use Rattle.protocol.specs.declared.messages.Message.TheVariants.{Join, Joined, Work, Prepare, Yes, No, Read, Commit, Abort, Ack, Inquire}
use Rattle.protocol.specs.declared.standings.Standing.{Standing}
use Rattle.protocol.specs.declared.standings.Standing.TheVariants.{Unknown, Active, Collecting, Prepared, Committing, Aborting, Heuristic}
use Rattle.protocol.specs.declared.events.Act.{Act}
use Rattle.protocol.specs.declared.events.Act.TheVariants.{Begin, Ask, Decide, Forget}
use Rattle.protocol.specs.Names.{same_outcome}
use Rattle.protocol.specs.NameLaws.{same_outcome_tells}
use Rattle.protocol.specs.Nodes.{Place, Node, kept, Heard, Effect, Holding, ReadsOnly, Holds}
use Rattle.protocol.specs.Memory.{Memory, memory_of, active_ticket, Phase, Idle, Open, Asked, Over}
use Rattle.protocol.specs.Standings.{ManagerView, unknown_branch, manager_view, marked_branch, heard_branch, Mark, Unmarked, Promised, Decided, ToldOf, Finished, mark_of, decided_findings}
use Rattle.protocol.specs.CoordinatorRows.{tells_outcome}
use Rattle.protocol.specs.ManagerRows.{Leaf, LeafRow, on_work, on_prepare, on_commit, on_abort, active_prepare_holding, replies, acknowledgement}
use Rattle.protocol.specs.ManagerRows
use Rattle.protocol.specs.Reactions.{Reacts, Refused, Does, leaf_effect, leaf_of, manager_acts, manager_hears, leaf_joins, childless_by, leaf_ask_by, decide_by, forget_by}
use Rattle.proof_pairs.specs.turns.LeafTurns.{LeafTurn, IsActive, IsUnknown, IsOpenBranch, waits, by_operator, IsDecided, untold, told, Waits, promised, decided, Hears, mark_at, does_nothing, gives_again, gives_fresh, votes_yes, votes_read, votes_no, repeats_yes, refuses, obeys, notes, acknowledges_told, acknowledges, drops, asks, decides, forgets}

-- the view is read off the records and what is remembered
pub viewed : (place : Place) (n : Node) (d : Case)
    → manager_view place n d ≡ marked_branch (memory_of place n d) (mark_of (CaseBranch d) (kept n))
unfolding manager_view
viewed place n d = refl

-- what an input leads to is a turn, unless it is refused
abbrev pub TurnsBy : Place → ProcessId → Node → Heard → Reacts → Type 0
TurnsBy place p n h (Refused x) = Unit {0}
TurnsBy place p n h (Does e) = LeafTurn place p n h e

module _ (place : Place) (p : ProcessId) (n : Node) (h : Heard) where
  abbrev T : Effect → Type 0
  T e = LeafTurn place p n h e

  module _ (d : Case) where
    abbrev here : Leaf
    here = leaf_of place p d

    abbrev m : Memory
    m = memory_of place n d

    -- the branch as a mark and a phase show it
    record Seen (k : Mark) : Type 0 where
      mark : mark_at n d ≡ k
      view : manager_view place n d ≡ marked_branch m k

    seen : (k : Mark) → mark_at n d ≡ k → Seen k
    seen k e = record { mark = e; view = viewed place n d ∙ ap (marked_branch m) e }

    unknown : (k : Mark) → Seen k → (marked_branch m k).standing ≡ Unknown → IsUnknown place n d
    unknown k s e = ap (λ (v : ManagerView). v.standing) s.view ∙ e

    unheard : (ph : Phase) → Seen Unmarked → m.phase ≡ ph → (heard_branch m ph).standing ≡ Unknown
        → IsUnknown place n d
    unheard ph s e f = unknown Unmarked s (ap (λ (x : Phase). (heard_branch m x).standing) e ∙ f)

    -- PREPARE.

    held : (k : ℕ) → Hears h (Prepare d k) → IsActive place n d → (x : Holding)
        → T (leaf_effect (active_prepare_holding here x))
    held k i a ReadsOnly = votes_read d k i a
    held k i a (Holds ws) = votes_yes d k ws i a

    prepares_by : (k : ℕ) → Hears h (Prepare d k) → IsActive place n d → (x : Holding) (b : Bool)
        → T (leaf_effect (if b then active_prepare_holding here x else replies here (No d) unknown_branch))
    prepares_by k i a x true = held k i a x
    prepares_by k i a x false = votes_no d k i a

    prepared_heard : (k : ℕ) (x : Holding) → Hears h (Prepare d k) → Seen Unmarked → (ph : Phase)
        → m.phase ≡ ph
        → T (leaf_effect (on_prepare here k x (heard_branch m ph) (heard_branch m ph).standing))
    prepared_heard k x i s Open e =
        prepares_by k i (record { unmarked = s.mark; is_open = e }) x ((m.done == k) && not m.spoiled)
    prepared_heard k x i s Idle e = refuses d k i (unheard Idle s e refl)
    prepared_heard k x i s Asked e = refuses d k i (unheard Asked s e refl)
    prepared_heard k x i s Over e = refuses d k i (unheard Over s e refl)

    prepared_seen : (j : ℕ) (x : Holding) → Hears h (Prepare d j) → (k : Mark) → Seen k
        → T (leaf_effect (on_prepare here j x (marked_branch m k) (marked_branch m k).standing))
    prepared_seen j x i Unmarked s = prepared_heard j x i s m.phase refl
    prepared_seen j x i Promised s = repeats_yes d j i (subst IsOpenBranch (sym s.mark) waits)
    prepared_seen j x i Decided s = repeats_yes d j i
        (subst IsOpenBranch (sym s.mark) (by_operator Decided untold))
    prepared_seen j x i (ToldOf o) s =
        repeats_yes d j i (subst IsOpenBranch (sym s.mark) (by_operator (ToldOf o) (told o)))
    prepared_seen j x i Finished s = refuses d j i (unknown Finished s refl)

    -- An outcome.

    heard_again : (o u : Outcome) → Hears h (tells_outcome o d) → mark_at n d ≡ ToldOf u → (b : Bool)
        → same_outcome u o ≡ b
        → T (leaf_effect (if b
        then record {
          written = [];
          messages = acknowledgement here o (decided_findings h.version (kept n) d o);
          view = marked_branch m (ToldOf u);
        }
        else ManagerRows.unmoved (marked_branch m (ToldOf u))))
    heard_again o u i s true e =
        acknowledges_told d o i
        (s ∙ ap (λ x. ToldOf x) (let t = same_outcome_tells u o in grind (arith, t, e)))
    heard_again o u i s false e = does_nothing

    committed_heard : Hears h (Commit d) → Seen Unmarked → (ph : Phase) → m.phase ≡ ph
        → T (leaf_effect (on_commit h.version here (kept n) (heard_branch m ph) (heard_branch m ph).standing))
    committed_heard i s Open e = does_nothing
    committed_heard i s Idle e = acknowledges d CommittedOutcome i (unheard Idle s e refl)
    committed_heard i s Asked e = acknowledges d CommittedOutcome i (unheard Asked s e refl)
    committed_heard i s Over e = acknowledges d CommittedOutcome i (unheard Over s e refl)

    committed_seen : Hears h (Commit d) → (k : Mark) → Seen k
        → T (leaf_effect (on_commit h.version here (kept n) (marked_branch m k) (marked_branch m k).standing))
    committed_seen i Unmarked s = committed_heard i s m.phase refl
    committed_seen i Promised s = obeys d CommittedOutcome i s.mark
    committed_seen i Decided s = notes d CommittedOutcome i s.mark
    committed_seen i (ToldOf u) s = heard_again CommittedOutcome u i s.mark
        (same_outcome u CommittedOutcome) refl
    committed_seen i Finished s = acknowledges d CommittedOutcome i (unknown Finished s refl)

    aborted_heard : Hears h (Abort d) → Seen Unmarked → (ph : Phase) → m.phase ≡ ph
        → T (leaf_effect (on_abort h.version here (kept n) (heard_branch m ph) (heard_branch m ph).standing))
    aborted_heard i s Open e = drops d i (record { unmarked = s.mark; is_open = e })
    aborted_heard i s Idle e = acknowledges d AbortedOutcome i (unheard Idle s e refl)
    aborted_heard i s Asked e = acknowledges d AbortedOutcome i (unheard Asked s e refl)
    aborted_heard i s Over e = acknowledges d AbortedOutcome i (unheard Over s e refl)

    aborted_seen : Hears h (Abort d) → (k : Mark) → Seen k
        → T (leaf_effect (on_abort h.version here (kept n) (marked_branch m k) (marked_branch m k).standing))
    aborted_seen i Unmarked s = aborted_heard i s m.phase refl
    aborted_seen i Promised s = obeys d AbortedOutcome i s.mark
    aborted_seen i Decided s = notes d AbortedOutcome i s.mark
    aborted_seen i (ToldOf u) s = heard_again AbortedOutcome u i s.mark (same_outcome u AbortedOutcome) refl
    aborted_seen i Finished s = acknowledges d AbortedOutcome i (unknown Finished s refl)

    -- WORK says nothing.

    works_by : (b c : Bool) (v w x : ManagerView)
        → T (leaf_effect (if b then ManagerRows.unmoved (if c then v else w) else ManagerRows.unmoved x))
    works_by true c v w x = does_nothing
    works_by false c v w x = does_nothing

    worked : (i : ℕ) (does : Bool) (v : ManagerView) (st : Standing) → T (leaf_effect (on_work i does v st))
    worked i does v Active = works_by ((i == v.done + 1) && not v.spoiled) does _ _ v
    worked i does v Unknown = does_nothing
    worked i does v Collecting = does_nothing
    worked i does v Prepared = does_nothing
    worked i does v Committing = does_nothing
    worked i does v Aborting = does_nothing
    worked i does v Heuristic = does_nothing

    -- JOIN.

    joined : Hears h (Join d) → (b : Bool) → h.data_answer.starts ≡ b → (o : Option Ticket)
        → active_ticket m.active d ≡ o
        → T (leaf_joins place p n d m b o)
    joined i true b (Some t) a = gives_again d t i a
    joined i false b (Some t) a = gives_again d t i a
    joined i true b None a = gives_fresh d i a b
    joined i false b None a = does_nothing

    -- Operators' acts.

    asked_heard : h.input ≡ ActInput (Ask d) → (ph : Phase)
        → TurnsBy place p n h (leaf_ask_by here (heard_branch m ph) (heard_branch m ph).standing)
    asked_heard i Idle = tt
    asked_heard i Open = tt
    asked_heard i Asked = tt
    asked_heard i Over = tt

    asked_seen : h.input ≡ ActInput (Ask d) → (k : Mark) → Seen k
        → TurnsBy place p n h (leaf_ask_by here (marked_branch m k) (marked_branch m k).standing)
    asked_seen i Unmarked s = asked_heard i m.phase
    asked_seen i Promised s = asks d i (subst Waits (sym s.mark) promised)
    asked_seen i Decided s = asks d i (subst Waits (sym s.mark) decided)
    asked_seen i (ToldOf o) s = tt
    asked_seen i Finished s = tt

    decided_heard : (o : Outcome) (ph : Phase)
        → TurnsBy place p n h (decide_by here o (heard_branch m ph).standing)
    decided_heard o Idle = tt
    decided_heard o Open = tt
    decided_heard o Asked = tt
    decided_heard o Over = tt

    decided_seen : (o : Outcome) → h.input ≡ ActInput (Decide d o) → (k : Mark) → Seen k
        → TurnsBy place p n h (decide_by here o (marked_branch m k).standing)
    decided_seen o i Unmarked s = decided_heard o m.phase
    decided_seen o i Promised s = decides d o i s.mark
    decided_seen o i Decided s = tt
    decided_seen o i (ToldOf u) s = tt
    decided_seen o i Finished s = tt

    forgot_heard : (ph : Phase) → TurnsBy place p n h (forget_by here (heard_branch m ph).standing)
    forgot_heard Idle = tt
    forgot_heard Open = tt
    forgot_heard Asked = tt
    forgot_heard Over = tt

    forgot_seen : h.input ≡ ActInput (Forget d) → (k : Mark) → Seen k
        → TurnsBy place p n h (forget_by here (marked_branch m k).standing)
    forgot_seen i Unmarked s = forgot_heard m.phase
    forgot_seen i Promised s = tt
    forgot_seen i Decided s = forgets d i (subst IsDecided (sym s.mark) untold)
    forgot_seen i (ToldOf o) s = forgets d i (subst IsDecided (sym s.mark) (told o))
    forgot_seen i Finished s = tt

  childless : (st : Standing) → TurnsBy place p n h (childless_by st)
  childless Unknown = tt
  childless Active = tt
  childless Collecting = tt
  childless Prepared = tt
  childless Committing = tt
  childless Aborting = tt
  childless Heuristic = tt

  pub act_turn : (a : Act) → h.input ≡ ActInput a → TurnsBy place p n h (manager_acts place p n a)
  act_turn (Begin q) i = tt
  act_turn (JoinAct c q) i = childless (manager_view place n c).standing
  act_turn (WorkAct c q op) i = childless (manager_view place n c).standing
  act_turn (CommitAct x) i = tt
  act_turn (AbortAct x) i = tt
  act_turn (Ask d) i =
      subst (λ (v : ManagerView). TurnsBy place p n h (leaf_ask_by (leaf_of place p d) v v.standing))
      (sym (viewed place n d)) (asked_seen d i (mark_at n d) (seen d (mark_at n d) refl))
  act_turn (Decide d o) i =
      subst (λ (v : ManagerView). TurnsBy place p n h (decide_by (leaf_of place p d) o v.standing))
      (sym (viewed place n d)) (decided_seen d o i (mark_at n d) (seen d (mark_at n d) refl))
  act_turn (Forget d) i =
      subst (λ (v : ManagerView). TurnsBy place p n h (forget_by (leaf_of place p d) v.standing))
      (sym (viewed place n d)) (forgot_seen d i (mark_at n d) (seen d (mark_at n d) refl))

  pub message_turn : (j : ℕ) (x : Message) → h.input ≡ MessageInput j x
      → T (manager_hears h.version place p n h.data_answer x)
  message_turn j (Join d) i =
      joined d (j, i) h.data_answer.starts refl (active_ticket (memory_of place n d).active d) refl
  message_turn j (Work d k op) i =
      let v = manager_view place n d in worked d k h.data_answer.does v v.standing
  message_turn j (Prepare d k) i =
      subst (λ (v : ManagerView). T
      (leaf_effect (on_prepare (leaf_of place p d) k h.data_answer.holding v v.standing)))
      (sym (viewed place n d))
      (prepared_seen d k h.data_answer.holding (j, i) (mark_at n d) (seen d (mark_at n d) refl))
  message_turn j (Commit d) i =
      subst (λ (v : ManagerView). T (leaf_effect
      (on_commit h.version (leaf_of place p d) (kept n) v v.standing)))
      (sym (viewed place n d)) (committed_seen d (j, i) (mark_at n d) (seen d (mark_at n d) refl))
  message_turn j (Abort d) i =
      subst (λ (v : ManagerView). T (leaf_effect
      (on_abort h.version (leaf_of place p d) (kept n) v v.standing)))
      (sym (viewed place n d)) (aborted_seen d (j, i) (mark_at n d) (seen d (mark_at n d) refl))
  message_turn j (Joined d t) i = does_nothing
  message_turn j (Yes d) i = does_nothing
  message_turn j (No d) i = does_nothing
  message_turn j (Read d) i = does_nothing
  message_turn j (Ack d o fs) i = does_nothing
  message_turn j (Inquire d) i = does_nothing
