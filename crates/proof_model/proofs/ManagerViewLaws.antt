-- A manager's new view is what the extended lists read as.
use Rattle.std.proofs.Common.{◌≡◌, ◌∙◌, ap, sym, ◌+◌, ◌==◌, ◌&&◌, not, ℕ, Bool, true, false, Option, Some, None, List, [], ◌∷◌, ◌++◌, refl, if◌then◌else◌}
use Rattle.std.specs.Prelude.{fold}
use Rattle.std.proofs.lemmas.List.{append-nil}
use Rattle.std.proofs.lemmas.Grind.{fold-append}
use Rattle.protocol.specs.declared.names.Case.{Case}
use Rattle.protocol.specs.declared.names.ProcessId.{ProcessId}
use Rattle.protocol.specs.declared.names.Ticket.{Ticket}
use Rattle.protocol.specs.declared.names.Outcome.{Outcome}
use Rattle.protocol_words.specs.Variants.{AbortedOutcome, ActInput, CaseBranch, CommittedOutcome, MessageInput}
use Rattle.protocol.specs.declared.messages.Op.{Op}
use Rattle.protocol.specs.declared.messages.Message.{Message}
use Rattle.protocol.specs.declared.messages.Finding.{Finding}
use Rattle.protocol.specs.declared.messages.Message.TheVariants.{Join, Joined, Work, Prepare, Yes, No, Read, Commit, Abort, Ack, Inquire}
use Rattle.protocol.specs.declared.events.Act.TheVariants.{Ask, Decide, Forget}
use Rattle.protocol.specs.declared.events.Input.{Input}
use Rattle.protocol.specs.declared.trees.TreeProcess.{TreeProcess}
use Rattle.protocol.specs.declared.records.BranchName.{BranchName}
use Rattle.protocol.specs.declared.records.Record.{Record}
use Rattle.protocol.specs.declared.standings.Standing.{Standing}
use Rattle.protocol.specs.declared.standings.Standing.TheVariants.{Unknown, Active, Collecting, Prepared, Committing, Aborting, Heuristic}
use Rattle.protocol.specs.Names.{same_case, same_outcome, child_case}
use Rattle.protocol.specs.NameLaws.{same_case-refl}
use Rattle.protocol.specs.Records.{boot_of, boot_after, same_branch}
use Rattle.protocol.specs.Nodes.{Version, Place, AtLeaf, Node, kept, Heard, Effect, entries_written, after, Holding, ReadsOnly, Holds, DataAnswer}
use Rattle.protocol.specs.Memory.{Memory, Phase, Idle, Open, Asked, Over, fresh_memory, memory_of, remembers, manager_remembers, manager_hears, joins, gives, opens_case, next_ticket, active_ticket, without_ticket, works, closes, retires}
use Rattle.protocol.specs.Standings.{ManagerView, unknown_branch, decided_findings, manager_view, marked_branch, heard_branch, active_branch, Mark, Unmarked, Promised, Decided, ToldOf, Finished, mark_of, mark_after}
use Rattle.protocol.specs.ManagerRows.{Leaf, LeafRow, untold_ask, prepared_decide, heuristic_forget}
use Rattle.protocol.specs.ManagerRows
use Rattle.protocol.specs.Reactions.{leaf_effect, leaf_of, leaf_joins}
use Rattle.protocol.specs.Views.{MovesBranch, JoinsBranch, ManagerViews, leaf_place, hears_message, hears_act, fresh_case}
use Rattle.protocol.proofs.ListLaws.{memory_of-after, kept-after}

-- the mark after the records that a row wrote
abbrev pub marks : BranchName → Mark → List Record → Mark
marks b m rs = fold (mark_after b) m rs

pub mark_of-append : (b : BranchName) (xs ys : List Record) → mark_of b (xs ++ ys) ≡ marks b (mark_of b xs) ys
unfolding mark_of
mark_of-append b xs ys = fold-append _ _ xs ys

pub boot_of-append : (xs ys : List Record) → boot_of (xs ++ ys) ≡ fold boot_after (boot_of xs) ys
unfolding boot_of
boot_of-append xs ys = fold-append _ _ xs ys

-- the view of a case after a row
pub view-after : (place : Place) (n : Node) (h : Heard) (row : LeafRow) (c : Case)
    → ((b : ℕ) → fold boot_after b (entries_written row.written) ≡ b)
    → manager_view place (after n h (leaf_effect row)) c
    ≡ marked_branch (remembers place.me place.role (boot_of (kept n)) c (memory_of place n c) h)
    (marks (CaseBranch c) (mark_of (CaseBranch c) (kept n)) (entries_written row.written))
unfolding manager_view
view-after place n h row c boot =
    let same : boot_of (kept n ++ entries_written row.written) ≡ boot_of (kept n) =
    boot_of-append (kept n) (entries_written row.written) ∙ boot (boot_of (kept n)) in
    rw (memory_of-after place n h (leaf_effect row) c same, kept-after n h (leaf_effect row), mark_of-append)
    refl

-- Facts of rows, over a memory and a mark.

same_branch-refl : (d : Case) → same_branch (CaseBranch d) (CaseBranch d) ≡ true
unfolding same_branch
same_branch-refl d = same_case-refl d

other_branch : (d c : Case) → same_case d c ≡ false → same_branch (CaseBranch d) (CaseBranch c) ≡ false
unfolding same_branch
other_branch d c o = o

-- giving up a ticket changes no view
heard_retires : (m : Memory) (d : Case) (phase : Phase)
    → heard_branch (retires m d) phase ≡ heard_branch m phase
heard_retires m d Idle = refl
heard_retires m d Open = refl
heard_retires m d Asked = refl
heard_retires m d Over = refl

view_retires : (m : Memory) (d : Case) (mark : Mark) → marked_branch (retires m d) mark ≡ marked_branch m mark
view_retires m d Unmarked = heard_retires m d m.phase
view_retires m d Promised = refl
view_retires m d Decided = refl
view_retires m d (ToldOf o) = refl
view_retires m d Finished = refl

-- a case that is closed is not Active
heard_closes : (m : Memory) (phase : Phase) → m.phase ≡ phase
    → heard_branch (closes m m.phase) (closes m m.phase).phase ≡ unknown_branch
heard_closes m Idle e = rw e refl
heard_closes m Open e = rw e refl
heard_closes m Asked e = rw e refl
heard_closes m Over e = rw e refl

-- WORK

active_works : (m : Memory) (i : ℕ) (does b : Bool) → m.phase ≡ Open
    → marked_branch (if b then (if does then record m { done = i } else record m { spoiled = true }) else m)
    Unmarked
    ≡ (if b then ManagerRows.unmoved (if does then record (active_branch m) { done = i }
    else record (active_branch m) { spoiled = true }) else ManagerRows.unmoved (active_branch m)).view
active_works m i true true e = rw e refl
active_works m i false true e = rw e refl
active_works m i does false e = rw e refl

work_heard : (m : Memory) (i : ℕ) (does : Bool) (phase : Phase) → m.phase ≡ phase
    → let v = heard_branch m phase in marked_branch (works m i does phase) Unmarked
    ≡ (ManagerRows.on_work i does v v.standing).view
work_heard m i does Idle e = rw e refl
work_heard m i does Open e = active_works m i does ((i == m.done + 1) && not m.spoiled) e
work_heard m i does Asked e = rw e refl
work_heard m i does Over e = rw e refl

work_moves : (m : Memory) (i : ℕ) (does : Bool) (mark : Mark)
    → let v = marked_branch m mark in marked_branch (works m i does m.phase) mark
    ≡ (ManagerRows.on_work i does v v.standing).view
work_moves m i does Unmarked = work_heard m i does m.phase refl
work_moves m i does Promised = refl
work_moves m i does Decided = refl
work_moves m i does (ToldOf o) = refl
work_moves m i does Finished = refl

active_writes : (b : Bool) (r q : LeafRow) → entries_written r.written ≡ [] → entries_written q.written ≡ []
    → entries_written (if b then r else q).written ≡ []
active_writes true r q h k = h
active_writes false r q h k = k

pub work_writes : (i : ℕ) (does : Bool) (v : ManagerView) (s : Standing)
    → entries_written (ManagerRows.on_work i does v s).written ≡ []
work_writes i does v Active = active_writes ((i == v.done + 1) && not v.spoiled)
    (ManagerRows.unmoved (if does then record v { done = i } else record v { spoiled = true }))
    (ManagerRows.unmoved v) refl refl
work_writes i does v Unknown = refl
work_writes i does v Collecting = refl
work_writes i does v Prepared = refl
work_writes i does v Committing = refl
work_writes i does v Aborting = refl
work_writes i does v Heuristic = refl

-- PREPARE, COMMIT and ABORT: what a row wrote, and the view that the mark and the memory then give

-- the mark after one record of the branch itself
abbrev pub marks_of : Leaf → Mark → LeafRow → Mark
marks_of l mark row = marks (CaseBranch l.own) mark (entries_written row.written)

-- a row's records are of the branch: they move no other branch's mark and no boot
pub record IsOwn (l : Leaf) (row : LeafRow) : Type 0 where
  pub boot : (b : ℕ) → fold boot_after b (entries_written row.written) ≡ b
  pub others : (c : Case) (mark : Mark) → same_case l.own c ≡ false
      → marks (CaseBranch c) mark (entries_written row.written) ≡ mark

prepare_choice : (l : Leaf) (m : Memory) (holding : Holding) (b : Bool)
    → let row = if b then ManagerRows.active_prepare_holding l holding
    else ManagerRows.replies l (No l.own) unknown_branch in
    marked_branch (record (retires m l.own) { phase = Over }) (marks_of l Unmarked row) ≡ row.view
prepare_choice l m ReadsOnly true = refl
prepare_choice l m (Holds ws) true = rw (same_branch-refl l.own) refl
prepare_choice l m holding false = refl

prepare_heard : (l : Leaf) (m : Memory) (i : ℕ) (holding : Holding) (phase : Phase) → m.phase ≡ phase
    → let v = heard_branch m phase in
    let row = ManagerRows.on_prepare l i holding v v.standing in
    marked_branch (closes (retires m l.own) phase) (marks_of l Unmarked row) ≡ row.view
prepare_heard l m i holding Idle e = rw e refl
prepare_heard l m i holding Open e = prepare_choice l m holding ((m.done == i) && not m.spoiled)
prepare_heard l m i holding Asked e = refl
prepare_heard l m i holding Over e = refl

prepare_moves : (l : Leaf) (m : Memory) (i : ℕ) (holding : Holding) (mark : Mark)
    → let v = marked_branch m mark in
    let row = ManagerRows.on_prepare l i holding v v.standing in
    marked_branch (closes (retires m l.own) m.phase) (marks_of l mark row) ≡ row.view
prepare_moves l m i holding Unmarked = prepare_heard l m i holding m.phase refl
prepare_moves l m i holding Promised = refl
prepare_moves l m i holding Decided = refl
prepare_moves l m i holding (ToldOf o) = refl
prepare_moves l m i holding Finished = refl

choice_own : (l : Leaf) (r q : LeafRow) (b : Bool) → IsOwn l r → IsOwn l q → IsOwn l (if b then r else q)
choice_own l r q true h k = h
choice_own l r q false h k = k

prepares_own : (l : Leaf) (holding : Holding) → IsOwn l (ManagerRows.active_prepare_holding l holding)
prepares_own l ReadsOnly = record { boot = λ b. refl; others = λ c mark o. refl }
prepares_own l (Holds ws) = record { boot = λ b. refl; others = λ c mark o. rw (other_branch l.own c o) refl }

quiet_own : (l : Leaf) (row : LeafRow) → row.written ≡ [] → IsOwn l row
quiet_own l row h = record { boot = λ b. rw h refl; others = λ c mark o. rw h refl }

pub prepare_own : (l : Leaf) (i : ℕ) (holding : Holding) (v : ManagerView) (s : Standing)
    → IsOwn l (ManagerRows.on_prepare l i holding v s)
prepare_own l i holding v Active = choice_own l _ _ ((v.done == i) && not v.spoiled) (prepares_own l holding)
    (quiet_own l _ refl)
prepare_own l i holding v Unknown = quiet_own l _ refl
prepare_own l i holding v Collecting = quiet_own l _ refl
prepare_own l i holding v Prepared = quiet_own l _ refl
prepare_own l i holding v Committing = quiet_own l _ refl
prepare_own l i holding v Aborting = quiet_own l _ refl
prepare_own l i holding v Heuristic = quiet_own l _ refl

-- an outcome at a branch that an operator decided
told_again : (l : Leaf) (m : Memory) (o told : Outcome) (fs : List Finding) (b : Bool)
    → let v = marked_branch m (ToldOf told) in
    let row = if b then record { written = []; messages = ManagerRows.acknowledgement l o fs; view = v }
    else ManagerRows.unmoved v in
    marked_branch m (marks_of l (ToldOf told) row) ≡ row.view
told_again l m o told fs true = refl
told_again l m o told fs false = refl

commit_heard : (ver : Version) (rs : List Record) (l : Leaf) (m : Memory) (phase : Phase) → m.phase ≡ phase
    → let v = heard_branch m phase in
    let row = ManagerRows.on_commit ver l rs v v.standing in
    heard_branch m phase ≡ row.view
commit_heard ver rs l m Idle e = refl
commit_heard ver rs l m Open e = refl
commit_heard ver rs l m Asked e = refl
commit_heard ver rs l m Over e = refl

commit_writes : (ver : Version) (rs : List Record) (l : Leaf) (m : Memory) (phase : Phase)
    → let v = heard_branch m phase in
    (ManagerRows.on_commit ver l rs v v.standing).written ≡ []
commit_writes ver rs l m Idle = refl
commit_writes ver rs l m Open = refl
commit_writes ver rs l m Asked = refl
commit_writes ver rs l m Over = refl

commit_moves : (ver : Version) (rs : List Record) (l : Leaf) (m : Memory) (mark : Mark)
    → let v = marked_branch m mark in
    let row = ManagerRows.on_commit ver l rs v v.standing in
    marked_branch m (marks_of l mark row) ≡ row.view
commit_moves ver rs l m Unmarked = rw (commit_writes ver rs l m m.phase)
    (commit_heard ver rs l m m.phase refl)
commit_moves ver rs l m Promised = rw (same_branch-refl l.own) refl
commit_moves ver rs l m Decided = rw (same_branch-refl l.own) refl
commit_moves ver rs l m (ToldOf told) = told_again l m CommittedOutcome told
    (decided_findings ver rs l.own CommittedOutcome) (same_outcome told CommittedOutcome)
commit_moves ver rs l m Finished = refl

outcome_own : (l : Leaf) (o : Outcome) → IsOwn l (ManagerRows.prepared_outcome l o)
outcome_own l CommittedOutcome = record {
  boot = λ b. refl;
  others = λ c mark q. rw (other_branch l.own c q) refl;
}
outcome_own l AbortedOutcome = record {
  boot = λ b. refl;
  others = λ c mark q. rw (other_branch l.own c q) refl;
}

heuristic_own : (l : Leaf) (o : Outcome) (fs : List Finding) (v : ManagerView) (told : Option Outcome)
    → IsOwn l (ManagerRows.heuristic_outcome l o fs v told)
heuristic_own l o fs v None = record {
  boot = λ b. refl;
  others = λ c mark q. rw (other_branch l.own c q) refl;
}
heuristic_own l o fs v (Some told) = choice_own l _ _ (same_outcome told o) (quiet_own l _ refl)
    (quiet_own l _ refl)

pub commit_own : (ver : Version) (rs : List Record) (l : Leaf) (v : ManagerView) (s : Standing)
    → IsOwn l (ManagerRows.on_commit ver l rs v s)
commit_own ver rs l v Prepared = outcome_own l CommittedOutcome
commit_own ver rs l v Heuristic = heuristic_own l CommittedOutcome
    (decided_findings ver rs l.own CommittedOutcome) v v.told
commit_own ver rs l v Unknown = quiet_own l _ refl
commit_own ver rs l v Active = quiet_own l _ refl
commit_own ver rs l v Collecting = quiet_own l _ refl
commit_own ver rs l v Committing = quiet_own l _ refl
commit_own ver rs l v Aborting = quiet_own l _ refl

abort_heard : (ver : Version) (rs : List Record) (l : Leaf) (m : Memory) (phase : Phase) → m.phase ≡ phase
    → let v = heard_branch m phase in
    let row = ManagerRows.on_abort ver l rs v v.standing in
    marked_branch (closes (retires m l.own) phase) (marks_of l Unmarked row) ≡ row.view
abort_heard ver rs l m Idle e = rw e refl
abort_heard ver rs l m Open e = refl
abort_heard ver rs l m Asked e = refl
abort_heard ver rs l m Over e = refl

abort_moves : (ver : Version) (rs : List Record) (l : Leaf) (m : Memory) (mark : Mark)
    → let v = marked_branch m mark in
    let row = ManagerRows.on_abort ver l rs v v.standing in
    marked_branch (closes (retires m l.own) m.phase) (marks_of l mark row) ≡ row.view
abort_moves ver rs l m Unmarked = abort_heard ver rs l m m.phase refl
abort_moves ver rs l m Promised = rw (same_branch-refl l.own) refl
abort_moves ver rs l m Decided = rw (same_branch-refl l.own) refl
abort_moves ver rs l m (ToldOf told) = told_again l (closes (retires m l.own) m.phase) AbortedOutcome told
    (decided_findings ver rs l.own AbortedOutcome) (same_outcome told AbortedOutcome)
abort_moves ver rs l m Finished = refl

pub abort_own : (ver : Version) (rs : List Record) (l : Leaf) (v : ManagerView) (s : Standing)
    → IsOwn l (ManagerRows.on_abort ver l rs v s)
abort_own ver rs l v Prepared = outcome_own l AbortedOutcome
abort_own ver rs l v Heuristic = heuristic_own l AbortedOutcome
    (decided_findings ver rs l.own AbortedOutcome) v v.told
abort_own ver rs l v Unknown = quiet_own l _ refl
abort_own ver rs l v Active = quiet_own l _ refl
abort_own ver rs l v Collecting = quiet_own l _ refl
abort_own ver rs l v Committing = quiet_own l _ refl
abort_own ver rs l v Aborting = quiet_own l _ refl

-- The whole of a row.

assembled : (place : Place) (n : Node) (h : Heard) (l : Leaf) (row : LeafRow) → IsOwn l row
    → marked_branch (remembers place.me place.role (boot_of (kept n)) l.own (memory_of place n l.own) h)
    (marks_of l (mark_of (CaseBranch l.own) (kept n)) row) ≡ row.view
    → ((c : Case) (mark : Mark) → same_case l.own c ≡ false
    → marked_branch (remembers place.me place.role (boot_of (kept n)) c (memory_of place n c) h) mark
    ≡ marked_branch (memory_of place n c) mark)
    → MovesBranch place n h l.own row
unfolding manager_view
assembled place n h l row own moved others =
    record {
      moved = view-after place n h row l.own own.boot ∙ moved;
      others = λ c o.
          view-after place n h row c own.boot
          ∙ rw (own.others c (mark_of (CaseBranch c) (kept n)) o)
          (others c (mark_of (CaseBranch c) (kept n)) o);
    }

-- What a manager remembers of itself is the same in each case.

abbrev pub Givens : Type 0
Givens = ℕ × List (Case × Ticket)

abbrev pub givens_of : Memory → Givens
givens_of m = (m.given, m.active)

abbrev pub gives_fresh : ProcessId → ℕ → Case → Givens → Option Ticket → Givens
gives_fresh me boot d g (Some t) = g
gives_fresh me boot d g None = (
  g.0 + 1,
  g.1 ++ (d, record { child = me; boot = boot; number = g.0 + 1 })
      ∷ [],
)

abbrev pub gives_next : ProcessId → ℕ → Givens → DataAnswer → Message → Givens
gives_next me boot g a (Join d) = if a.starts then gives_fresh me boot d g (active_ticket g.1 d) else g
gives_next me boot g a (Prepare d n) = (g.0, without_ticket g.1 d)
gives_next me boot g a (Abort d) = (g.0, without_ticket g.1 d)
gives_next me boot g a _ = g

abbrev pub gives_heard : ProcessId → ℕ → Givens → DataAnswer → Input → Givens
gives_heard me boot g a (ActInput x) = g
gives_heard me boot g a (MessageInput k m) = gives_next me boot g a m

opened_gives : (m : Memory) (b : Bool) → givens_of (if b then opens_case m else m) ≡ givens_of m
opened_gives m true = refl
opened_gives m false = refl

joined_gives : (me : ProcessId) (boot : ℕ) (c d : Case) (m : Memory) (t : Option Ticket)
    → givens_of (joins me boot c d m t) ≡ gives_fresh me boot d (givens_of m) t
joined_gives me boot c d m (Some t) = refl
joined_gives me boot c d m None = opened_gives (gives m d (next_ticket me boot m))
    (same_case c (child_case d.txn (next_ticket me boot m)))

started_gives : (m r : Memory) (g : Givens) (b : Bool) → givens_of r ≡ g
    → givens_of (if b then r else m) ≡ (if b then g else givens_of m)
started_gives m r g true h = h
started_gives m r g false h = refl

same_gives : (m r : Memory) (b : Bool) → givens_of r ≡ givens_of m
    → givens_of (if b then r else m) ≡ givens_of m
same_gives m r true h = h
same_gives m r false h = refl

pub works_gives : (m : Memory) (i : ℕ) (does : Bool) (phase : Phase)
    → givens_of (works m i does phase) ≡ givens_of m
works_gives m i does Idle = refl
works_gives m i true Open = same_gives m (record m { done = i }) ((i == m.done + 1) && not m.spoiled) refl
works_gives m i false Open = same_gives m (record m { spoiled = true })
    ((i == m.done + 1) && not m.spoiled) refl
works_gives m i does Asked = refl
works_gives m i does Over = refl

pub closes_gives : (m : Memory) (phase : Phase) → givens_of (closes m phase) ≡ givens_of m
closes_gives m Idle = refl
closes_gives m Open = refl
closes_gives m Asked = refl
closes_gives m Over = refl

pub hears_gives : (me : ProcessId) (boot : ℕ) (c : Case) (m : Memory) (a : DataAnswer) (message : Message)
    → givens_of (manager_hears me boot c m a message) ≡ gives_next me boot (givens_of m) a message
hears_gives me boot c m a (Join d) = started_gives m _ _ a.starts
    (joined_gives me boot c d m (active_ticket m.active d))
hears_gives me boot c m a (Work d i op) = same_gives m _ (same_case d c) (works_gives m i a.does m.phase)
hears_gives me boot c m a (Prepare d n) = same_gives (retires m d) _ (same_case d c)
    (closes_gives (retires m d) m.phase)
hears_gives me boot c m a (Abort d) = same_gives (retires m d) _ (same_case d c)
    (closes_gives (retires m d) m.phase)
hears_gives me boot c m a (Joined d t) = refl
hears_gives me boot c m a (Yes d) = refl
hears_gives me boot c m a (No d) = refl
hears_gives me boot c m a (Read d) = refl
hears_gives me boot c m a (Commit d) = refl
hears_gives me boot c m a (Ack d o fs) = refl
hears_gives me boot c m a (Inquire d) = refl

pub remembers_gives : (me p : ProcessId) (boot : ℕ) (c : Case) (m : Memory) (a : DataAnswer) (i : Input)
    → givens_of (manager_remembers me boot c m a i) ≡ gives_heard me boot (givens_of m) a i
remembers_gives me p boot c m a (ActInput x) = refl
remembers_gives me p boot c m a (MessageInput k message) = hears_gives me boot c m a message

fold_gives : (me p : ProcessId) (boot : ℕ) (c : Case) (m : Memory) (hs : List Heard)
    → givens_of (fold (remembers me (AtLeaf p) boot c) m hs)
    ≡ fold (λ g h. gives_heard me boot g h.data_answer h.input) (givens_of m) hs
fold_gives me p boot c m [] = refl
fold_gives me p boot c m (h ∷ hs) =
    fold_gives me p boot c (remembers me (AtLeaf p) boot c m h) hs
    ∙ ap (λ g. fold (λ g' h'. gives_heard me boot g' h'.data_answer h'.input) g hs)
    (remembers_gives me p boot c m h.data_answer h.input)

pub same_givens : (me p : ProcessId) (tree : List TreeProcess) (n : Node) (c d : Case)
    → givens_of (memory_of (leaf_place me p tree) n c) ≡ givens_of (memory_of (leaf_place me p tree) n d)
unfolding memory_of
same_givens me p tree n c d =
    fold_gives me p (boot_of (kept n)) c fresh_memory n.heard
    ∙ sym (fold_gives me p (boot_of (kept n)) d fresh_memory n.heard)

-- JOIN

-- the view of a case after an effect that writes nothing
pub quiet-after : (place : Place) (n : Node) (h : Heard) (e : Effect) (c : Case) → e.written ≡ []
    → manager_view place (after n h e) c
    ≡ marked_branch (remembers place.me place.role (boot_of (kept n)) c (memory_of place n c) h)
    (mark_of (CaseBranch c) (kept n))
unfolding manager_view
quiet-after place n h e c quiet =
    let same : kept n ++ entries_written e.written ≡ kept n = rw quiet (append-nil (kept n)) in
    rw (memory_of-after place n h e c (ap boot_of same), kept-after n h e, same) refl

again : (me : ProcessId) (boot : ℕ) (c d : Case) (m : Memory) (t : Ticket) (starts : Bool)
    → active_ticket m.active d ≡ Some t
    → (if starts then joins me boot c d m (active_ticket m.active d) else m) ≡ m
again me boot c d m t true h = rw h refl
again me boot c d m t false h = refl

-- a fresh ticket changes only its own case
abbrev pub issue : ProcessId → ℕ → Case → Memory → Memory
issue me boot d m = gives m d (next_ticket me boot m)

heard_gives : (m : Memory) (d : Case) (t : Ticket) (phase : Phase)
    → heard_branch (gives m d t) phase ≡ heard_branch m phase
heard_gives m d t Idle = refl
heard_gives m d t Open = refl
heard_gives m d t Asked = refl
heard_gives m d t Over = refl

view_gives : (m : Memory) (d : Case) (t : Ticket) (mark : Mark)
    → marked_branch (gives m d t) mark ≡ marked_branch m mark
view_gives m d t Unmarked = heard_gives m d t m.phase
view_gives m d t Promised = refl
view_gives m d t Decided = refl
view_gives m d t (ToldOf o) = refl
view_gives m d t Finished = refl

given_elsewhere : (me : ProcessId) (boot : ℕ) (c d : Case) (m : Memory) (mark : Mark)
    → same_case c (child_case d.txn (next_ticket me boot m)) ≡ false
    → marked_branch (joins me boot c d m None) mark ≡ marked_branch m mark
given_elsewhere me boot c d m mark h = rw h (view_gives m d (next_ticket me boot m) mark)

given_here : (me : ProcessId) (boot : ℕ) (c d : Case) (m : Memory)
    → same_case c (child_case d.txn (next_ticket me boot m)) ≡ true
    → marked_branch (joins me boot c d m None) Unmarked
    ≡ record { standing = Active; done = 0; spoiled = false; told = None }
given_here me boot c d m h = rw h refl

module _ (ver : Version) (me p : ProcessId) (tree : List TreeProcess) (n : Node) (d : Case) where
  abbrev place : Place
  place = leaf_place me p tree

  abbrev own : Leaf
  own = leaf_of place p d

  pub work_views : (k i : ℕ) (op : Op) (a : DataAnswer) → let v = manager_view place n d in
      MovesBranch place n (hears_message ver k (Work d i op) a) d (ManagerRows.on_work i a.does v v.standing)
  unfolding manager_view
  work_views k i op a =
      let m = memory_of place n d in
      let mark = mark_of (CaseBranch d) (kept n) in
      let v = marked_branch m mark in
      let nothing : entries_written (ManagerRows.on_work i a.does v v.standing).written ≡ [] =
      work_writes i a.does v v.standing in
      let none : IsOwn own (ManagerRows.on_work i a.does v v.standing) =
      record { boot = λ b. rw nothing refl; others = λ c w o. rw nothing refl } in
      assembled place n _ own _ none
      (rw (nothing, same_case-refl d) (work_moves m i a.does mark))
      (λ c w o. rw o refl)

  pub prepare_views : (k i : ℕ) (a : DataAnswer) → let v = manager_view place n d in
      MovesBranch place n (hears_message ver k (Prepare d i) a) d
      (ManagerRows.on_prepare own i a.holding v v.standing)
  unfolding manager_view
  prepare_views k i a =
      let m = memory_of place n d in
      let mark = mark_of (CaseBranch d) (kept n) in
      let v = marked_branch m mark in
      assembled place n _ own _ (prepare_own own i a.holding v v.standing)
      (rw (same_case-refl d) (prepare_moves own m i a.holding mark))
      (λ c w o. rw o (view_retires (memory_of place n c) d w))

  pub commit_views : (k : ℕ) (a : DataAnswer) (rs : List Record) → let v = manager_view place n d in
      MovesBranch place n (hears_message ver k (Commit d) a) d (ManagerRows.on_commit ver own rs v v.standing)
  unfolding manager_view
  commit_views k a rs =
      let m = memory_of place n d in
      let mark = mark_of (CaseBranch d) (kept n) in
      let v = marked_branch m mark in
      assembled place n _ own _ (commit_own ver rs own v v.standing)
      (commit_moves ver rs own m mark) (λ c w o. refl)

  pub abort_views : (k : ℕ) (a : DataAnswer) (rs : List Record) → let v = manager_view place n d in
      MovesBranch place n (hears_message ver k (Abort d) a) d (ManagerRows.on_abort ver own rs v v.standing)
  unfolding manager_view
  abort_views k a rs =
      let m = memory_of place n d in
      let mark = mark_of (CaseBranch d) (kept n) in
      let v = marked_branch m mark in
      assembled place n _ own _ (abort_own ver rs own v v.standing)
      (rw (same_case-refl d) (abort_moves ver rs own m mark))
      (λ c w o. rw o (view_retires (memory_of place n c) d w))

  pub ask_views : (a : DataAnswer) → MovesBranch place n (hears_act ver (Ask d) a) d
      (untold_ask own (manager_view place n d))
  unfolding manager_view
  ask_views a = assembled place n _ own _ (quiet_own own _ refl) refl (λ c w o. refl)

  pub decide_views : (o : Outcome) (a : DataAnswer)
      → MovesBranch place n (hears_act ver (Decide d o) a) d (prepared_decide own o)
  decide_views CommittedOutcome a =
      assembled place n _ own _ (record { boot = λ b. refl; others = λ c w q. rw (other_branch d c q) refl })
      (rw (same_branch-refl d) refl) (λ c w q. refl)
  decide_views AbortedOutcome a =
      assembled place n _ own _ (record { boot = λ b. refl; others = λ c w q. rw (other_branch d c q) refl })
      (rw (same_branch-refl d) refl) (λ c w q. refl)

  pub forget_views : (a : DataAnswer) → MovesBranch place n (hears_act ver (Forget d) a) d
      (heuristic_forget own)
  forget_views a =
      assembled place n _ own _ (record { boot = λ b. refl; others = λ c w q. rw (other_branch d c q) refl })
      (rw (same_branch-refl d) refl) (λ c w q. refl)

  -- the active tickets, and the next one, are the same in each case
  same_active : (c : Case) → active_ticket (memory_of place n c).active d
      ≡ active_ticket (memory_of place n d).active d
  same_active c = ap (λ (g : Givens). active_ticket g.1 d) (same_givens me p tree n c d)

  same_next : (c : Case) → next_ticket me (boot_of (kept n)) (memory_of place n c)
      ≡ next_ticket me (boot_of (kept n)) (memory_of place n d)
  same_next c = ap (λ (g : Givens). record { child = me; boot = boot_of (kept n); number = g.0 + 1 })
      (same_givens me p tree n c d)

  joins_quiet : (starts : Bool) → (leaf_joins place p n d (memory_of place n d) starts None).written ≡ []
  joins_quiet true = refl
  joins_quiet false = refl

  pub join_views : (k : ℕ) (a : DataAnswer) → JoinsBranch place p n (hears_message ver k (Join d) a) d
      a.starts
  unfolding manager_view
  join_views k a =
      record {
        given_again = λ t h c.
            quiet-after place n (hears_message ver k (Join d) a)
            (leaf_joins place p n d (memory_of place n d) a.starts (Some t)) c refl
            ∙ ap (λ (m : Memory). marked_branch m (mark_of (CaseBranch c) (kept n)))
            (again me (boot_of (kept n)) c d (memory_of place n c) t a.starts (same_active c ∙ h));
        not_started = λ h s c. quiet-after place n (hears_message ver k (Join d) a)
            (leaf_joins place p n d (memory_of place n d) a.starts None) c (joins_quiet a.starts) ∙ rw s refl;
        fresh = λ h s unmarked.
            let c = fresh_case place n d in
            let alike : same_case c (child_case d.txn
            (next_ticket me (boot_of (kept n)) (memory_of place n c))) ≡ true =
            rw (same_next c) (same_case-refl c) in
            quiet-after place n (hears_message ver k (Join d) a)
            (leaf_joins place p n d (memory_of place n d) a.starts None) c (joins_quiet a.starts)
            ∙ rw (s, same_active c, h, unmarked)
            (given_here me (boot_of (kept n)) c d (memory_of place n c) alike);
        others = λ h s c o.
            let apart : same_case c (child_case d.txn
            (next_ticket me (boot_of (kept n)) (memory_of place n c))) ≡ false = rw (same_next c) o in
            quiet-after place n (hears_message ver k (Join d) a)
            (leaf_joins place p n d (memory_of place n d) a.starts None) c (joins_quiet a.starts)
            ∙ rw (s, same_active c, h) (given_elsewhere me (boot_of (kept n)) c d (memory_of place n c)
            (mark_of (CaseBranch c) (kept n)) apart);
      }

  pub manager_views : ManagerViews ver me p tree n d
  manager_views =
      record {
        work = work_views;
        prepare = prepare_views;
        commit = commit_views;
        abort = abort_views;
        join = join_views;
        ask = ask_views;
        decide = decide_views;
        forget = forget_views;
      }
