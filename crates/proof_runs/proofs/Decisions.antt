-- What an operator decided of a branch, after a row of a manager.
use Rattle.std.proofs.Common.{◌≡◌, ◌+◌, ◌==◌, ◌&&◌, ℕ, not, Bool, true, false, if◌then◌else◌, Option, Some, None, List, [], ◌∷◌, ◌++◌, fold, refl, sym, ap, ◌∙◌}
use Rattle.protocol.specs.declared.names.Case.{Case}
use Rattle.protocol.specs.declared.names.Outcome.{Outcome}
use Rattle.protocol.specs.declared.names.Outcome.TheVariants.{Committed, Aborted}
use Rattle.protocol.specs.declared.messages.Finding.{Finding}
use Rattle.protocol.specs.declared.names.ProcessId.{ProcessId}
use Rattle.protocol_words.specs.Variants.{AbortRecord, CaseBranch, CollectingRecord, CommitRecord, PrepareRecord}
use Rattle.protocol.specs.declared.records.Record.{Record}
use Rattle.protocol.specs.declared.records.Record.TheVariants.{Opened, End, Cleared, Prepared, Committed as CommittedRecord, RolledBack, Direct, HeurCommit, HeurRollback, Told, Forgot, Base, Pair}
use Rattle.protocol.specs.declared.standings.Standing.{Standing}
use Rattle.protocol_words.specs.standing
use Rattle.protocol.specs.declared.standings.Standing.TheVariants.{Heuristic}
use Rattle.protocol.specs.Names.{same_case, same_outcome}
use Rattle.protocol.specs.Records.{decision_after, decision_of, prepares_branch}
use Rattle.protocol.specs.Restarts.{is_open, trimmed}
use Rattle.protocol.specs.Nodes.{AtLeaf, Effect, Heard, Holding, Holds, Node, ReadsOnly, Version, after, entries_written, kept}
use Rattle.protocol.specs.Standings.{ManagerView, decided_findings, mark_of}
use Rattle.protocol.specs.ManagerRows.{Leaf, LeafRow, active_prepare_holding, heuristic_forget, heuristic_outcome, on_abort, on_commit, on_prepare, on_work, prepared_outcome, unmoved, untold_ask}
use Rattle.protocol.proofs.ListLaws.{kept-after}
use Rattle.proof_processes.specs.Marks.{is_branch_record}
use Rattle.proof_processes.proofs.Orders.{same_is}
use Rattle.proof_runs.proofs.TrimmedFolds.{trims_alike}

-- the records of a whole list decide after those of its front
decision-append : (c : Case) (k : Option Outcome) (rs new : List Record)
    → fold (decision_after c) k (rs ++ new) ≡ fold (decision_after c) (fold (decision_after c) k rs) new
decision-append c k [] new = refl
decision-append c k (r ∷ rs) new = decision-append c (decision_after c k r) rs new

-- what an operator decided after an input
pub decision-after : (n : Node) (h : Heard) (e : Effect) (c : Case)
    → decision_of (kept (after n h e)) c
    ≡ fold (decision_after c) (decision_of (kept n) c) (entries_written e.written)
unfolding decision_of
decision-after n h e c =
    ap (fold (decision_after c) None) (kept-after n h e)
    ∙ decision-append c None (kept n) (entries_written e.written)

-- A row decides nothing: its records leave what was decided of each other case, and of its own where the
-- branch stays decided; and that it was before.
pub record DecidesNothing (c : Case) (st : Standing) (row : LeafRow) : Type 0 where
  pub others : (d : Case) (k : Option Outcome) → same_case c d ≡ false
      → fold (decision_after d) k (entries_written row.written) ≡ k
  pub own : (k : Option Outcome) → row.view.standing ≡ Heuristic
      → fold (decision_after c) k (entries_written row.written) ≡ k
  pub stays : row.view.standing ≡ Heuristic → st ≡ Heuristic

-- one that writes nothing and leaves a branch that stands so
quiet : (c : Case) (st : Standing) (row : LeafRow) → row.written ≡ [] → row.view.standing ≡ st
    → DecidesNothing c st row
quiet c st row none left = record {
  others = λ d k apart. ap (λ ws. fold (decision_after d) k (entries_written ws)) none;
  own = λ k is. ap (λ ws. fold (decision_after c) k (entries_written ws)) none;
  stays = λ is. sym left ∙ is;
}

-- one that writes nothing, and leaves no decided branch
gone : (c : Case) (st : Standing) (row : LeafRow) → row.written ≡ [] → (row.view.standing ≡ Heuristic → ⊥)
    → DecidesNothing c st row
gone c st row none left = record {
  others = λ d k apart. ap (λ ws. fold (decision_after d) k (entries_written ws)) none;
  own = λ k is. absurd (left is);
  stays = λ is. absurd (left is);
}

-- WORK

work_by : (c : Case) (v : ManagerView) (i : ℕ) (does : Bool) (b : Bool)
    → DecidesNothing c v.standing
    (if b then unmoved (if does then record v { done = i } else record v { spoiled = true }) else unmoved v)
work_by c v i true true = quiet c v.standing (unmoved (record v { done = i })) refl refl
work_by c v i false true = quiet c v.standing (unmoved (record v { spoiled = true })) refl refl
work_by c v i does false = quiet c v.standing (unmoved v) refl refl

pub work_decides : (c : Case) (i : ℕ) (does : Bool) (v : ManagerView) (st : Standing) → v.standing ≡ st
    → DecidesNothing c v.standing (on_work i does v st)
work_decides c i does v standing.Active is = work_by c v i does ((i == v.done + 1) && not v.spoiled)
work_decides c i does v standing.Unknown is = quiet c v.standing _ refl refl
work_decides c i does v standing.Collecting is = quiet c v.standing _ refl refl
work_decides c i does v standing.Prepared is = quiet c v.standing _ refl refl
work_decides c i does v standing.Committing is = quiet c v.standing _ refl refl
work_decides c i does v standing.Aborting is = quiet c v.standing _ refl refl
work_decides c i does v standing.Heuristic is = quiet c v.standing _ refl refl

-- PREPARE

prepare_holding : (l : Leaf) (st : Standing) (holding : Holding)
    → DecidesNothing l.own st (active_prepare_holding l holding)
prepare_holding l st ReadsOnly = gone l.own st _ refl (λ is. absurd (cc))
prepare_holding l st (Holds ws) = record {
  others = λ d k apart. ap (λ b. if b then None else k) apart;
  own = λ k is. absurd (cc);
  stays = λ is. absurd (cc);
}

prepare_by : (l : Leaf) (st : Standing) (holding : Holding) (b : Bool) (row : LeafRow)
    → DecidesNothing l.own st row
    → DecidesNothing l.own st (if b then active_prepare_holding l holding else row)
prepare_by l st holding true row h = prepare_holding l st holding
prepare_by l st holding false row h = h

pub prepare_decides : (l : Leaf) (n : ℕ) (holding : Holding) (v : ManagerView) (st : Standing)
    → v.standing ≡ st → DecidesNothing l.own v.standing (on_prepare l n holding v st)
prepare_decides l n holding v standing.Active is =
    prepare_by l v.standing holding ((v.done == n) && not v.spoiled) _
    (gone l.own v.standing _ refl (λ left. absurd (cc)))
prepare_decides l n holding v standing.Prepared is = quiet l.own v.standing _ refl refl
prepare_decides l n holding v standing.Heuristic is = quiet l.own v.standing _ refl refl
prepare_decides l n holding v standing.Unknown is = quiet l.own v.standing _ refl refl
prepare_decides l n holding v standing.Collecting is = quiet l.own v.standing _ refl refl
prepare_decides l n holding v standing.Committing is = quiet l.own v.standing _ refl refl
prepare_decides l n holding v standing.Aborting is = quiet l.own v.standing _ refl refl

-- COMMIT and ABORT

outcome_decides : (l : Leaf) (st : Standing) (o : Outcome) → DecidesNothing l.own st (prepared_outcome l o)
outcome_decides l st Committed = record {
  others = λ d k apart. refl;
  own = λ k is. absurd (cc);
  stays = λ is. absurd (cc);
}
outcome_decides l st Aborted = record {
  others = λ d k apart. refl;
  own = λ k is. absurd (cc);
  stays = λ is. absurd (cc);
}

again_by : (l : Leaf) (o : Outcome) (fs : List Finding) (v : ManagerView) (b : Bool) (row : LeafRow)
    → DecidesNothing l.own v.standing row
    → DecidesNothing l.own v.standing (if b then row else unmoved v)
again_by l o fs v true row h = h
again_by l o fs v false row h = quiet l.own v.standing (unmoved v) refl refl

heuristic_decides : (l : Leaf) (o : Outcome) (fs : List Finding) (v : ManagerView) (told : Option Outcome)
    → v.standing ≡ Heuristic → DecidesNothing l.own v.standing (heuristic_outcome l o fs v told)
heuristic_decides l o fs v None is = record {
  others = λ d k apart. refl;
  own = λ k left. refl;
  stays = λ left. is;
}
heuristic_decides l o fs v (Some told) is =
    again_by l o fs v (same_outcome told o) _ (quiet l.own v.standing _ refl refl)

pub commit_decides : (ver : Version) (l : Leaf) (rs : List Record) (v : ManagerView) (st : Standing)
    → v.standing ≡ st → DecidesNothing l.own v.standing (on_commit ver l rs v st)
commit_decides ver l rs v standing.Prepared is = outcome_decides l v.standing Committed
commit_decides ver l rs v standing.Heuristic is =
    heuristic_decides l Committed (decided_findings ver rs l.own Committed) v v.told is
commit_decides ver l rs v standing.Unknown is = quiet l.own v.standing _ refl refl
commit_decides ver l rs v standing.Active is = quiet l.own v.standing _ refl refl
commit_decides ver l rs v standing.Collecting is = quiet l.own v.standing _ refl refl
commit_decides ver l rs v standing.Committing is = quiet l.own v.standing _ refl refl
commit_decides ver l rs v standing.Aborting is = quiet l.own v.standing _ refl refl

pub abort_decides : (ver : Version) (l : Leaf) (rs : List Record) (v : ManagerView) (st : Standing)
    → v.standing ≡ st → DecidesNothing l.own v.standing (on_abort ver l rs v st)
abort_decides ver l rs v standing.Active is = gone l.own v.standing _ refl (λ left. absurd (cc))
abort_decides ver l rs v standing.Prepared is = outcome_decides l v.standing Aborted
abort_decides ver l rs v standing.Heuristic is =
    heuristic_decides l Aborted (decided_findings ver rs l.own Aborted) v v.told is
abort_decides ver l rs v standing.Unknown is = quiet l.own v.standing _ refl refl
abort_decides ver l rs v standing.Collecting is = quiet l.own v.standing _ refl refl
abort_decides ver l rs v standing.Committing is = quiet l.own v.standing _ refl refl
abort_decides ver l rs v standing.Aborting is = quiet l.own v.standing _ refl refl

-- acts

pub ask_decides : (l : Leaf) (v : ManagerView) → DecidesNothing l.own v.standing (untold_ask l v)
ask_decides l v = quiet l.own v.standing (untold_ask l v) refl refl

pub forget_decides : (l : Leaf) (st : Standing) → DecidesNothing l.own st (heuristic_forget l)
forget_decides l st = record {
  others = λ d k apart. refl;
  own = λ k is. absurd (cc);
  stays = λ is. absurd (cc);
}

-- After a trim.

promised_anew : (d : Case) (r : Record) → prepares_branch (CaseBranch d) r ≡ true → (k : Option Outcome)
    → decision_after d k r ≡ None
promised_anew d (Prepared b ws) e k = ap (λ t. if t then None else k) (sym (same_is d b) ∙ e)
promised_anew d r e k = absurd (cc)

others_decide : (d : Case) (r : Record) → is_branch_record d r ≡ false → (k : Option Outcome)
    → decision_after d k r ≡ k
others_decide d (Prepared b ws) e k = ap (λ t. if t then None else k) e
others_decide d (HeurCommit b) e k = ap (λ t. if t then Some Committed else k) e
others_decide d (HeurRollback b) e k = ap (λ t. if t then Some Aborted else k) e
others_decide d (Opened j) e k = refl
others_decide d (CollectingRecord c ts) e k = refl
others_decide d (PrepareRecord c ts) e k = refl
others_decide d (CommitRecord c ts) e k = refl
others_decide d (AbortRecord c ts) e k = refl
others_decide d (End c rep) e k = refl
others_decide d (Cleared c) e k = refl
others_decide d (CommittedRecord b) e k = refl
others_decide d (RolledBack b) e k = refl
others_decide d (Direct b ws) e k = refl
others_decide d (Told b o) e k = refl
others_decide d (Forgot b) e k = refl
others_decide d (Base j) e k = refl
others_decide d (Pair j v) e k = refl

-- a trim leaves what was decided of an open branch
pub trims_decided : (p : ProcessId) (rs : List Record) (d : Case) → is_open (mark_of (CaseBranch d) rs) ≡ true
    → decision_of (trimmed (AtLeaf p) rs) d ≡ decision_of rs d
unfolding decision_of
trims_decided p rs d is_there =
    trims_alike p rs d is_there (decision_after d) None (promised_anew d) (others_decide d) None
