-- Why a call must be refused, and by which codes it may be. The order of checks is the manager's own: where a
-- call has several defects, the code of any of them is admitted.
use Rattle.std.specs.Prelude.{ℕ, Bool, true, false, ◌&&◌, ◌||◌, not, ◌==◌, Option, Some, None, is_some}
use Rattle.xa_tables.specs.Calls.{async, one_phase, resume, suspend, start_scan, join, migrate}
use Rattle.judge_state.specs.declared.parts.JudgedBranch.{JudgedBranch}
use Rattle.judge_state.specs.declared.parts.Stand.{Stand}
use Rattle.judge_state.specs.declared.parts.Stand.TheVariants.{Active, Prepared, RollbackOnly, Heuristic}
use Rattle.judge_state.specs.Parts.{is_at_work, is_in_doubt}
use Rattle.judge_state.specs.Sights.{Sight}
use Rattle.judge_state.specs.Questions.{branch_at, has_active, has_suspended, is_active, is_associated, is_bare, is_busy, is_busy_elsewhere, is_migrated, is_outside, is_scanning}
use Rattle.judge_rules.specs.declared.calls.BranchVerb.{BranchVerb}
use Rattle.judge_rules.specs.declared.calls.BranchVerb.TheVariants as verb
use Rattle.judge_rules.specs.declared.calls.On.{On}
use Rattle.judge_rules.specs.declared.calls.XidSort.{XidSort}
use Rattle.judge_rules.specs.declared.calls.XidSort.TheVariants as sort
use Rattle.judge_rules.specs.declared.defects.Refusals.{Refusals}
use Rattle.judge_rules.specs.declared.words.Rules.{Rules}
use Rattle.judge_rules.specs.Flags.{are_wrong, has, wrong_at_recover, wrong_elsewhere}

-- no refusal
abbrev pub no_refusals : Refusals
no_refusals = record {
  inval = false;
  asynchronous = false;
  proto = false;
  dup_id = false;
  not_a = false;
  outside = false;
  rm_err = false;
  rolled_back = false;
}

-- an XID that no branch of this manager may have
abbrev pub is_bad_name : Rules → XidSort → Bool
is_bad_name r sort.Null = true
is_bad_name r sort.Bare = r.lacks.empty_bqual
is_bad_name r sort.Full = false

-- the manager is not open
abbrev pub is_closed : Rules → Sight → Bool
is_closed r s = not s.opened && not r.lacks.opening

-- a start that neither joins nor resumes
abbrev pub is_plain : ℕ → Bool
is_plain f = not (has f join) && not (has f resume)

-- a branch that stands so can only be rolled back
abbrev pub stands_spoiled : Stand → Bool
stands_spoiled Active = false
stands_spoiled RollbackOnly = true
stands_spoiled Prepared = false
stands_spoiled (Heuristic d) = false

-- a branch can only be rolled back
abbrev pub is_spoiled : JudgedBranch → Bool
is_spoiled b = stands_spoiled b.stand

-- the branch of a call, where it is known, can only be rolled back
abbrev pub is_spoiled_at : Option JudgedBranch → Bool
is_spoiled_at None = false
is_spoiled_at (Some b) = is_spoiled b

-- no row lets this start join or resume: the branch is prepared or decided; the join is by the thread that
-- has suspended it, or the branch can only be rolled back; nothing is suspended that the resume could take up
abbrev pub has_no_start : Option JudgedBranch → ℕ → Bool → Bool → Bool
has_no_start None f two migrated = has f resume
has_no_start (Some b) f two migrated =
    is_in_doubt b || (has f join && (two || is_spoiled b)) || (has f resume && not (two || migrated))

-- what must refuse a start: wrong flags or a wrong name; TMASYNC; a manager that is not open, a thread that
-- is active already, no row; a known XID; to join or resume, one that is unknown
abbrev pub start_defects : Rules → Sight → On → Refusals
start_defects r s o =
    let f = o.flags.0 in
    let b = branch_at o.xid.number s in
    record no_refusals {
      inval = are_wrong verb.Start f || is_bad_name r o.xid.sort;
      asynchronous = has f async;
      proto = is_closed r s || is_active o.thread s || (not (is_plain f)
          && has_no_start b f (has_suspended o.thread o.xid.number s) (is_migrated o.xid.number s));
      dup_id = is_plain f && is_some b;
      not_a = not (is_plain f) && not (is_some b);
    }

-- a start of what is lacking
abbrev pub lacks_start : Rules → ℕ → Bool
lacks_start r f = (has f join && r.lacks.join) || (has f resume && r.lacks.suspend)

-- a plain start by a thread that has a branch at work, where it may have one alone
abbrev pub is_second : Rules → Sight → On → Bool
is_second r s o = is_plain o.flags.0 && r.lacks.threads && is_busy o.thread s

-- what may refuse a start besides: what is lacking; work outside of any branch; a join of a branch that can
-- only be rolled back may be told so
abbrev pub start_excuses : Rules → Sight → On → Refusals
start_excuses r s o =
    let f = o.flags.0 in
    record no_refusals {
      inval = lacks_start r f;
      proto = lacks_start r f || is_second r s o;
      outside = is_plain f && is_outside o.thread s;
      rm_err = lacks_start r f || is_second r s o;
      rolled_back = has f join && is_spoiled_at (branch_at o.xid.number s) && not r.never.rollback;
    }

-- no row lets this thread end its association with a branch
abbrev pub has_no_end : Bool → Bool → Bool → Bool → Bool
has_no_end known one two suspends = not known || not (one || two) || (two && suspends)

-- what must refuse an end: wrong flags or a wrong name; TMASYNC; a manager that is not open, no row; an
-- unknown XID
abbrev pub end_defects : Rules → Sight → On → Refusals
end_defects r s o =
    let f = o.flags.0 in
    let known = is_some (branch_at o.xid.number s) in
    record no_refusals {
      inval = are_wrong verb.End f || is_bad_name r o.xid.sort;
      asynchronous = has f async;
      proto = is_closed r s || has_no_end known (has_active o.thread o.xid.number s)
          (has_suspended o.thread o.xid.number s) (has f suspend);
      not_a = not known;
    }

-- an end of what is lacking
abbrev pub lacks_end : Rules → ℕ → Bool
lacks_end r f = (has f suspend && r.lacks.suspend) || (has f migrate && r.lacks.migrate)

-- what may refuse an end besides: what is lacking
abbrev pub end_excuses : Rules → On → Refusals
end_excuses r o =
    let lacks = lacks_end r o.flags.0 in
    record no_refusals { inval = lacks; proto = lacks; rm_err = lacks }

-- a branch that stands so has a row for a call that ends it: prepare if at work, commit with TMONEPHASE too,
-- else if in doubt, forget if decided, rollback always
abbrev pub has_row : BranchVerb → ℕ → Stand → Bool
has_row verb.Prepare f Active = true
has_row verb.Commit f Active = has f one_phase
has_row verb.Commit f Prepared = not (has f one_phase)
has_row verb.Commit f (Heuristic d) = not (has f one_phase)
has_row verb.Rollback f stand = true
has_row verb.Forget f (Heuristic d) = true
has_row _ _ _ = false

-- a function is forget
abbrev pub is_forget : BranchVerb → Bool
is_forget verb.Forget = true
is_forget _ = false

-- a function is commit or rollback
abbrev pub decides : BranchVerb → Bool
decides verb.Commit = true
decides verb.Rollback = true
decides _ = false

-- a known branch has no row for such a call
abbrev pub is_off_row : BranchVerb → ℕ → Option JudgedBranch → Bool
is_off_row v f None = false
is_off_row v f (Some b) = not (has_row v f b.stand)

-- what must refuse a prepare, commit, rollback or forget: wrong flags or a wrong name; TMASYNC; a manager
-- that is not open, an association that is left, no row; an unknown XID, and for forget one that is not
-- decided
abbrev pub finish_defects : Rules → BranchVerb → Sight → On → Refusals
finish_defects r v s o =
    let f = o.flags.0 in
    let b = branch_at o.xid.number s in
    record no_refusals {
      inval = are_wrong v f || is_bad_name r o.xid.sort;
      asynchronous = has f async;
      proto = is_closed r s || (is_some b && is_associated o.xid.number s && not (is_forget v))
          || is_off_row v f b;
      not_a = not (is_some b) || (is_forget v && is_off_row v f b);
    }

-- a thread may not end a branch: another began it, and it is at work; or it is at work in another
abbrev pub is_strange : BranchVerb → ℕ → ℕ → Sight → Option JudgedBranch → Bool
is_strange v t x s None = false
is_strange v t x s (Some b) = (is_at_work b && not (b.owner == t)) || (decides v && is_busy_elsewhere t x s)

-- what may refuse such a call besides: another thread's branch, where a branch is bound to its thread
abbrev pub finish_excuses : Rules → BranchVerb → Sight → On → Refusals
finish_excuses r v s o =
    let strange = r.lacks.threads && is_strange v o.thread o.xid.number s (branch_at o.xid.number s) in
    record no_refusals { proto = strange; not_a = strange; rm_err = strange }

-- what must refuse a call on a branch
abbrev pub branch_defects : Rules → BranchVerb → Sight → On → Refusals
branch_defects r verb.Start s o = start_defects r s o
branch_defects r verb.End s o = end_defects r s o
branch_defects r v s o = finish_defects r v s o

-- what may refuse it besides
abbrev pub branch_excuses : Rules → BranchVerb → Sight → On → Refusals
branch_excuses r verb.Start s o = start_excuses r s o
branch_excuses r verb.End s o = end_excuses r o
branch_excuses r v s o = finish_excuses r v s o

-- what must refuse an open
abbrev pub open_defects : ℕ → Refusals
open_defects f = record no_refusals { inval = wrong_elsewhere f; asynchronous = has f async }

-- what must refuse a close: an association of any thread, too
abbrev pub close_defects : Sight → ℕ → Refusals
close_defects s f = record (open_defects f) { proto = not (is_bare s) }

-- a recover by a thread without a scan, which starts none
abbrev pub is_unscanned : Sight → ℕ → ℕ → Bool
is_unscanned s t f = not (has f start_scan) && not (is_scanning t s)

-- what must refuse a recover: wrong flags, no scan; a manager that is not open
abbrev pub recover_defects : Rules → Sight → ℕ → ℕ → Refusals
recover_defects r s t f = record no_refusals {
  inval = wrong_at_recover f || (is_unscanned s t f && not r.lacks.scan);
  proto = is_closed r s;
}

-- what may refuse it besides: no scan, where the manager has none
abbrev pub recover_excuses : Rules → Sight → ℕ → ℕ → Refusals
recover_excuses r s t f = record no_refusals { inval = is_unscanned s t f && r.lacks.scan }
