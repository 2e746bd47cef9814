-- What comes of a call that finishes a branch.
use Rattle.std.proofs.Common.{◌≡◌, ◌≢◌, ◌∙◌, ℕ, true, false, List, [], ◌∷◌, Ok, Err, Result, refl, sym, ap, subst, arith}
use Rattle.std.specs.Prelude.{Contains}
use Rattle.xa_codes.specs.declared.code.Code.{Code}
use Rattle.xa_words.specs.code
use Rattle.xa_tables.specs.Tables.{branch_rows, is_in_doubt}
use Rattle.xa_tables.specs.declared.call.Call.{Call}
use Rattle.xa_words.specs.call
use Rattle.xa_tables.specs.declared.call.Verb.{Verb}
use Rattle.xa_tables.specs.declared.states.BranchState.{BranchState}
use Rattle.xa_tables.specs.declared.states.BranchState.TheVariants.{S0, S1, S2, S3, S4, S5}
use Rattle.xa_tables.specs.Calls.{legal}
use Rattle.xa_xid.specs.Xids.{null_xid}
use Rattle.xa_xid.specs.declared.xid.Xid.{Xid}
use Rattle.xa_assoc.specs.Associations.{AssocList}
use Rattle.xa_branch.specs.Branches.{state_in}
use Rattle.xa_assoc.specs.Answers.{state_at}
use Rattle.xa_assoc.specs.Ready.{has_rows, ready}
use Rattle.protocol.specs.declared.standings.Vote.TheVariants.{Yes, Read}
use Rattle.protocol.specs.declared.records.Write.{Write}
use Rattle.log_records.specs.Sights.{LogSight}
use Rattle.resource_manager.specs.Sights.{ManagerSight, SameManager}
use Rattle.xa_branch.specs.declared.decision.Decision.{Decision}
use Rattle.xa_branch.specs.Decisions.{heur_code}
use Rattle.protocol.specs.declared.names.Outcome.{Outcome}
use Rattle.protocol.specs.declared.names.Outcome.TheVariants.{Committed, Aborted}
use Rattle.resource_manager.specs.Ends.{Broke, Failed, BranchFails, ManagerFinishes, Limited, Made, BranchMakes, Refused, Unlisted, logged_under, outcome_row, prepare_row as prepare_answer, row_for, row_of, written_for}
use Rattle.process_state.proofs.Wrote.{wrote_form}
use Rattle.sub_work.specs.Deeds.{BreaksUnder, FinishesWork, IsIdle, IsQuiet, can_roll_back, vote_of}
use Rattle.sub_work.proofs.Quiet.{not_null, ready_is, same_idle}

-- a row is not answered by these
heur_other : (o : Outcome) → (heur_code o ≢ code.RmFail) × (heur_code o ≢ code.RmErr)
heur_other Committed = (λ e. absurd cc, λ e. absurd cc)
heur_other Aborted = (λ e. absurd cc, λ e. absurd cc)

outcome_code : (s : BranchState) (d : Decision) → ((outcome_row s d).0 ≢ code.RmFail)
    × ((outcome_row s d).0 ≢ code.RmErr)
outcome_code S5 d = heur_other d.outcome
outcome_code _ d = (λ e. absurd cc, λ e. absurd cc)

prepare_code : (ws : List Write) → ((prepare_answer ws).0 ≢ code.RmFail)
    × ((prepare_answer ws).0 ≢ code.RmErr)
prepare_code [] = (λ e. absurd cc, λ e. absurd cc)
prepare_code (w ∷ ws) = (λ e. absurd cc, λ e. absurd cc)

row_code : (c : Call) (s : BranchState) (ws : List Write) (d : Decision) → ((row_of c s ws d).0 ≢ code.RmFail)
    × ((row_of c s ws d).0 ≢ code.RmErr)
row_code call.Prepare s ws d = prepare_code ws
row_code call.Commit s ws d = outcome_code s d
row_code call.Rollback s ws d = outcome_code s d
row_code _ s ws d = (λ e. absurd cc, λ e. absurd cc)

code_of : (m : ManagerSight) (x : Xid) (c : Call) → ((row_for m x c).0 ≢ code.RmFail)
    × ((row_for m x c).0 ≢ code.RmErr)
code_of m x c = row_code c (state_at m.tables x) (m.writes x) (m.decided x)

ok_is : (c d : Call) (r : Result Call Code) → r ≡ Ok c → r ≡ Ok d → c ≡ d
ok_is c d r e f = let g : Ok c ≡ Ok d = sym e ∙ f in cc

ok_err : (c : Call) (e : Code) (r : Result Call Code) → r ≡ Ok c → r ≡ Err e → ⊥
ok_err c e r f g = let h : Ok c ≡ Err e = sym f ∙ g in absurd cc

up_down : (m : ManagerSight) → m.log.failed ≡ false → m.log.failed ≡ true → ⊥
up_down m e f = let g : false ≡ true = sym e ∙ f in absurd cc

-- what was made
made_deed : (old new : ManagerSight) (x : Xid) (c : Call) → IsIdle old
    → BranchMakes old new x c (row_for old x c) → FinishesWork old new x c
made_deed old new x c idle makes = record {
  comes = record {
    own = makes.tables.branch.own;
    others = makes.tables.branch.others;
    others_decided = makes.others_decided;
    idle = record {
      opened = makes.tables.init ∙ idle.opened;
      quiet = subst (λ (a : AssocList). IsQuiet a) (sym makes.tables.associations) idle.quiet;
    };
    boot = makes.boot;
    form = ap (λ (l : LogSight). l.form) makes.log
        ∙ wrote_form old.log (written_for old x c) (logged_under x (written_for old x c));
  };
  log = makes.log;
  own = makes.own;
  others = makes.others;
  held = makes.held;
  decided = makes.decided;
}

-- what failed
failed_deed : (old new : ManagerSight) (x : Xid) (c : Call) → IsIdle old → BranchFails old new x c
    → BreaksUnder old new (logged_under x (written_for old x c))
failed_deed old new x c idle fails = record {
  log = fails.log;
  states = λ y. ap (λ (bs : List (Xid × BranchState)). state_in bs y) fails.tables.branches.branches;
  decided = fails.decided;
  idle = same_idle old new fails.tables idle;
  boot = fails.boot;
}

module _ (old new : ManagerSight) (v : Verb) (x : Xid) (flags : ℕ) (c : Call)
    (up : old.log.failed ≡ false) (idle : IsIdle old)
    (is : ready old.tables v x flags ≡ Ok c) (listed : Contains
    (branch_rows (state_at old.tables x) c) (row_for old x c)) where
  -- any other answer than these two is the row's
  pub finished : (answer : Code) → answer ≢ code.RmFail → answer ≢ code.RmErr
      → ManagerFinishes old new v x flags answer
      → (answer ≡ (row_for old x c).0) × FinishesWork old new x c
  finished answer works spare (Failed e a s) = absurd (up_down old up e)
  finished answer works spare (Refused u e s) = absurd (ok_err c answer _ is e)
  finished answer works spare (Limited u p a s) = absurd (spare a)
  finished answer works spare (Unlisted u d e none a s) =
      absurd (none (subst (λ (k : Call). Contains (branch_rows (state_at old.tables x) k)
      (row_for old x k)) (ok_is c d _ is e) listed))
  finished answer works spare (Made u d e a makes) =
      let one = ok_is d c _ e is in (
        subst (λ (k : Call). answer ≡ (row_for old x k).0) one a,
        made_deed old new x c idle (subst (λ (k : Call). BranchMakes old new x k (row_for old x k)) one
            makes),
      )
  finished answer works spare (Broke u d e a fails) = absurd (works a)

  -- the device failed
  pub broken : (answer : Code) → answer ≡ code.RmFail → ManagerFinishes old new v x flags answer
      → BreaksUnder old new (logged_under x (written_for old x c))
  broken answer fail (Failed e a s) = absurd (up_down old up e)
  broken answer fail (Refused u e s) = absurd (ok_err c answer _ is e)
  broken answer fail (Limited u p a s) = absurd (let f : code.RmErr ≡ code.RmFail = sym a ∙ fail in cc)
  broken answer fail (Unlisted u d e none a s) =
      absurd (let f : code.Proto ≡ code.RmFail = sym a ∙ fail in cc)
  broken answer fail (Made u d e a makes) = absurd ((code_of old x d).0 (sym a ∙ fail))
  broken answer fail (Broke u d e a fails) =
      failed_deed old new x c idle (subst (λ (k : Call). BranchFails old new x k) (ok_is d c _ e is) fails)

  -- a limit was met
  pub limited : (answer : Code) → answer ≡ code.RmErr → ManagerFinishes old new v x flags answer
      → SameManager old new × (old.spent ≡ true)
  limited answer fail (Failed e a s) = absurd (up_down old up e)
  limited answer fail (Refused u e s) = absurd (ok_err c answer _ is e)
  limited answer fail (Limited u p a s) = (s, p)
  limited answer fail (Unlisted u d e none a s) =
      absurd (let f : code.Proto ≡ code.RmErr = sym a ∙ fail in cc)
  limited answer fail (Made u d e a makes) = absurd ((code_of old x d).1 (sym a ∙ fail))
  limited answer fail (Broke u d e a fails) = absurd (let f : code.RmFail ≡ code.RmErr = sym a ∙ fail in cc)

-- What each of the calls comes to, by the state of its branch.

-- a call's row is in the table, in this state
pub record HasRow (m : ManagerSight) (x : Xid) (c : Call) (s : BranchState) : Type 0 where
  pub at : state_at m.tables x ≡ s
  pub here : s ≢ S0
  pub rows : has_rows (branch_rows s c) ≡ true
  pub listed : Contains (branch_rows s c) (row_of c s (m.writes x) (m.decided x))

pub prepare_row : (m : ManagerSight) (x : Xid) → state_at m.tables x ≡ S2 → HasRow m x call.Prepare S2
prepare_row m x at = record { at = at; here = λ e. absurd cc; rows = refl; listed = by_writes (m.writes x) }
  where
    by_writes : (ws : List Write) → Contains (branch_rows S2 call.Prepare) (prepare_answer ws)
    by_writes [] = (1, omega arith, refl)
    by_writes (w ∷ ws) = (0, omega arith, refl)

heur_commits : (o : Outcome) → Contains (branch_rows S5 call.Commit) (heur_code o, S5)
heur_commits Committed = (1, omega arith, refl)
heur_commits Aborted = (2, omega arith, refl)

commit_by : (m : ManagerSight) (x : Xid) (s : BranchState) → state_at m.tables x ≡ s
    → is_in_doubt s ≡ true → HasRow m x call.Commit s
commit_by m x S3 at can = record {
  at = at;
  here = λ e. absurd cc;
  rows = refl;
  listed = (0, omega arith, refl);
}
commit_by m x S5 at can = record {
  at = at;
  here = λ e. absurd cc;
  rows = refl;
  listed = heur_commits (m.decided x).outcome;
}
commit_by m x S0 at can = absurd cc
commit_by m x S1 at can = absurd cc
commit_by m x S2 at can = absurd cc
commit_by m x S4 at can = absurd cc

pub commit_row : (m : ManagerSight) (x : Xid) → is_in_doubt (state_at m.tables x) ≡ true
    → HasRow m x call.Commit (state_at m.tables x)
commit_row m x can = commit_by m x (state_at m.tables x) refl can

heur_rolls : (o : Outcome) → Contains (branch_rows S5 call.Rollback) (heur_code o, S5)
heur_rolls Committed = (1, omega arith, refl)
heur_rolls Aborted = (2, omega arith, refl)

rollback_by : (m : ManagerSight) (x : Xid) (s : BranchState) → state_at m.tables x ≡ s
    → can_roll_back s ≡ true → HasRow m x call.Rollback s
rollback_by m x S2 at can = record {
  at = at;
  here = λ e. absurd cc;
  rows = refl;
  listed = (0, omega arith, refl);
}
rollback_by m x S3 at can = record {
  at = at;
  here = λ e. absurd cc;
  rows = refl;
  listed = (0, omega arith, refl);
}
rollback_by m x S4 at can = record {
  at = at;
  here = λ e. absurd cc;
  rows = refl;
  listed = (0, omega arith, refl);
}
rollback_by m x S0 at can = absurd cc
rollback_by m x S1 at can = absurd cc
rollback_by m x S5 at can = record {
  at = at;
  here = λ e. absurd cc;
  rows = refl;
  listed = heur_rolls (m.decided x).outcome;
}

pub rollback_row : (m : ManagerSight) (x : Xid) → can_roll_back (state_at m.tables x) ≡ true
    → HasRow m x call.Rollback (state_at m.tables x)
rollback_row m x can = rollback_by m x (state_at m.tables x) refl can

pub forget_row : (m : ManagerSight) (x : Xid) → state_at m.tables x ≡ S5 → HasRow m x call.Forget S5
forget_row m x at = record { at = at; here = λ e. absurd cc; rows = refl; listed = (0, omega arith, refl) }

module _ (old new : ManagerSight) (v : Verb) (x : Xid) (c : Call) (s : BranchState)
    (up : old.log.failed ≡ false) (idle : IsIdle old)
    (named : x ≢ null_xid) (is : legal v 0 ≡ Ok c) (row : HasRow old x c s) where
  is_ready : ready old.tables v x 0 ≡ Ok c
  is_ready = ready_is old v x 0 c s idle (not_null x named) is row.at row.here row.rows

  is_listed : Contains (branch_rows (state_at old.tables x) c) (row_for old x c)
  is_listed = subst (λ (q : BranchState). Contains (branch_rows q c)
      (row_of c q (old.writes x) (old.decided x))) (sym row.at) row.listed

  pub finishes : (answer : Code) → answer ≢ code.RmFail → answer ≢ code.RmErr
      → ManagerFinishes old new v x 0 answer
      → (answer ≡ (row_for old x c).0) × FinishesWork old new x c
  finishes answer works spare a = finished old new v x 0 c up idle is_ready is_listed answer works spare a

  pub breaks : (answer : Code) → answer ≡ code.RmFail → ManagerFinishes old new v x 0 answer
      → BreaksUnder old new (logged_under x (written_for old x c))
  breaks answer fail a = broken old new v x 0 c up idle is_ready is_listed answer fail a

  pub stays : (answer : Code) → answer ≡ code.RmErr → ManagerFinishes old new v x 0 answer
      → SameManager old new × (old.spent ≡ true)
  stays answer fail a = limited old new v x 0 c up idle is_ready is_listed answer fail a

-- the vote of a prepare's answer
pub vote_by : (ws : List Write) (answer : Code) → answer ≡ (prepare_answer ws).0
    → answer ≢ code.RdOnly → Yes ≡ vote_of ws
vote_by [] answer e n = absurd (n e)
vote_by (w ∷ ws) answer e n = refl

pub read_by : (ws : List Write) (answer : Code) → answer ≡ (prepare_answer ws).0
    → answer ≡ code.RdOnly → Read ≡ vote_of ws
read_by [] answer e n = refl
read_by (w ∷ ws) answer e n = absurd (let f : code.Ok ≡ code.RdOnly = sym e ∙ n in cc)
