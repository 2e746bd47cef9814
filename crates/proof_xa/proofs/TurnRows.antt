-- The turns of a key store are rows of the table of branches.
use Rattle.std.proofs.Common.{◌≡◌, ◌∙◌, ℕ, Bool, true, false, not, Option, Some, None, Err, refl, arith}
use Rattle.std.specs.Prelude.{◌||◌, Contains}
use Rattle.xa_codes.specs.declared.code.Code.{Code}
use Rattle.xa_tables.specs.Tables.{branch_rows, heuristic}
use Rattle.xa_tables.specs.declared.call.Call.{Call}
use Rattle.xa_words.specs.call
use Rattle.xa_tables.specs.declared.call.Verb.{Verb}
use Rattle.xa_tables.specs.declared.states.BranchState.{BranchState}
use Rattle.xa_tables.specs.declared.states.BranchState.TheVariants.{S0, S1, S2, S3, S4, S5}
use Rattle.xa_xid.specs.declared.xid.Xid.{Xid}
use Rattle.xa_assoc.specs.Ready.{has_rows, is_work, is_work_verb, ready}
use Rattle.xa_assoc.proofs.Finishing.{passed, works_as}
use Rattle.xa_branch.specs.declared.decision.Decision.{Decision}
use Rattle.xa_branch.specs.Decisions.{heur_code}
use Rattle.protocol.specs.declared.names.Outcome.{Outcome}
use Rattle.protocol.specs.declared.names.Outcome.TheVariants.{Aborted, Committed}
use Rattle.protocol.specs.declared.records.BranchName.{BranchName}
use Rattle.log_text.specs.Parts.{name_in}
use Rattle.kv_calls.specs.Turns.{tell_turn}
use Rattle.kv_store.specs.writes.Writes.{writes_of}
use Rattle.kv_state.specs.Stores.{KeySight, state_of}
use Rattle.kv_state.specs.Ends.{IsOff, Refused, Unlisted, known_of, wrote_some}
use Rattle.proof_xa.specs.Rows.{row_of, rows_of}

-- a branch that an operator decided answers by that
code_fits : (o : Outcome) → Contains heuristic (heur_code o, S5)
code_fits Committed = (1, omega arith, refl)
code_fits Aborted = (2, omega arith, refl)

told_fits : (b : BranchName) (o : Outcome) (d : Decision) (told : Option Outcome)
    → Contains heuristic (row_of (tell_turn b o d told))
told_fits b o d None = code_fits d.outcome
told_fits b o d (Some t) = code_fits d.outcome

pub fits : (s : BranchState) (wrote : Bool) (b : BranchName) (d : Decision) (c : Call) → is_work c ≡ false
    → has_rows (branch_rows s c) ≡ true → Contains (branch_rows s c) (rows_of s wrote b d c)
fits S0 wrote b d call.Start w h = absurd cc
fits S0 wrote b d _ w h = absurd cc
fits S1 wrote b d call.Start w h = absurd cc
fits S1 wrote b d _ w h = absurd cc
fits S2 false b d call.Prepare w h = (1, omega arith, refl)
fits S2 true b d call.Prepare w h = (0, omega arith, refl)
fits S2 false b d call.CommitOnePhase w h = (0, omega arith, refl)
fits S2 true b d call.CommitOnePhase w h = (0, omega arith, refl)
fits S2 wrote b d call.Rollback w h = (0, omega arith, refl)
fits S2 wrote b d _ w h = absurd cc
fits S3 wrote b d call.Commit w h = (0, omega arith, refl)
fits S3 wrote b d call.Rollback w h = (0, omega arith, refl)
fits S3 wrote b d _ w h = absurd cc
fits S4 wrote b d call.Rollback w h = (0, omega arith, refl)
fits S4 wrote b d _ w h = absurd cc
fits S5 wrote b d call.Commit w h = told_fits b Committed d d.told
fits S5 wrote b d call.Rollback w h = told_fits b Aborted d d.told
fits S5 wrote b d call.Forget w h = (0, omega arith, refl)
fits S5 wrote b d _ w h = absurd cc

free_rows : (held has : Bool) → (held || not has) ≡ false → has ≡ true
free_rows held true h = refl
free_rows true false h = absurd cc
free_rows false false h = absurd cc

pub checks_alone : (s : KeySight) (v : Verb) (x : Xid) (flags : ℕ) (answer : Code) → is_work_verb v ≡ false
    → IsOff s v x flags answer → ready s.tables v x flags ≡ Err answer
checks_alone s v x flags answer w (Refused is) = is
checks_alone s v x flags answer w (Unlisted c is none off) =
    let p = passed s.tables v x flags c is in
    absurd (none (fits (state_of s x) (wrote_some (writes_of s.writes x)) (name_in x).1 (known_of s x) c
    (works_as v flags c p.by_flags ∙ w) (free_rows _ _ p.passes.free)))
