-- The turn that a call takes.
use Rattle.std.proofs.Common.{◌≡◌, ◌≤◌, ℕ, Bool, true, false, not, Option, Some, None, Ok, sym, subst, ◌∙◌, refl, arith}
use Rattle.std.specs.Prelude.{◌||◌, Contains, is_some}
use Rattle.xa_tables.specs.Tables.{branch_rows, heuristic}
use Rattle.xa_tables.specs.declared.call.Verb.{Verb}
use Rattle.xa_tables.specs.declared.call.Call.{Call}
use Rattle.xa_words.specs.call
use Rattle.xa_tables.specs.declared.states.BranchState.{BranchState}
use Rattle.xa_tables.specs.declared.states.BranchState.TheVariants.{S0, S1, S2, S3, S4, S5}
use Rattle.xa_xid.specs.declared.xid.Xid.{Xid}
use Rattle.xa_assoc.specs.Ready.{has_rows, is_work, is_work_verb, ready}
use Rattle.xa_assoc.proofs.Finishing.{passed, works_as}
use Rattle.xa_branch.specs.declared.decision.Decision.{Decision}
use Rattle.xa_branch.specs.Decisions.{heur_code}
use Rattle.xa_branch.specs.Cases.{DecisionTable, decision_in}
use Rattle.protocol.specs.declared.names.Outcome.{Outcome}
use Rattle.protocol.specs.declared.names.Outcome.TheVariants.{Aborted, Committed}
use Rattle.protocol.specs.declared.records.BranchName.{BranchName}
use Rattle.log_text.specs.Parts.{name_in}
use Rattle.kv_store.specs.writes.Writes.{writes_of}
use Rattle.kv_calls.specs.declared.turns.CallRow.{CallRow}
use Rattle.kv_calls.specs.Turns.{decide_turn, tell_turn, turn_of}
use Rattle.kv_state.specs.Stores.{IsTidy, KeySight, is_decided, state_of}
use Rattle.kv_state.specs.Ends.{CanNote, IsDue, IsRowListed, IsTurn, OfCall, OfOperator, known_behind, known_of, turn_for, wrote_some}

-- The turn of a call is a row of the table.

-- a branch that an operator decided answers by that
code_fits : (o : Outcome) → Contains heuristic (heur_code o, S5)
code_fits Committed = (1, omega arith, refl)
code_fits Aborted = (2, omega arith, refl)

told_fits : (b : BranchName) (o : Outcome) (d : Decision) (told : Option Outcome)
    → Contains heuristic ((tell_turn b o d told).code, (tell_turn b o d told).to)
told_fits b o d None = code_fits d.outcome
told_fits b o d (Some t) = code_fits d.outcome

-- the table has the row of a turn, wherever it has any
fits : (s : BranchState) (wrote : Bool) (b : BranchName) (d : Decision) (c : Call) → is_work c ≡ false
    → has_rows (branch_rows s c) ≡ true
    → Contains (branch_rows s c) ((turn_of s c wrote b d).code, (turn_of s c wrote b d).to)
fits S0 wrote b d call.Start w h = absurd cc
fits S0 wrote b d _ w h = absurd cc
fits S1 wrote b d call.Start w h = absurd cc
fits S1 wrote b d _ w h = absurd cc
fits S2 false b d call.Prepare w h = (1, omega arith, refl)
fits S2 true b d call.Prepare w h = (0, omega arith, refl)
fits S2 false b d call.CommitOnePhase w h = (0, omega arith, refl)
fits S2 true b d call.CommitOnePhase w h = (0, omega arith, refl)
fits S2 wrote b d call.Rollback w h = (0, omega arith, refl)
fits S2 wrote b d _ w h = absurd cc
fits S3 wrote b d call.Commit w h = (0, omega arith, refl)
fits S3 wrote b d call.Rollback w h = (0, omega arith, refl)
fits S3 wrote b d _ w h = absurd cc
fits S4 wrote b d call.Rollback w h = (0, omega arith, refl)
fits S4 wrote b d _ w h = absurd cc
fits S5 wrote b d call.Commit w h = told_fits b Committed d d.told
fits S5 wrote b d call.Rollback w h = told_fits b Aborted d d.told
fits S5 wrote b d call.Forget w h = (0, omega arith, refl)
fits S5 wrote b d _ w h = absurd cc

free_rows : (held has : Bool) → (held || not has) ≡ false → has ≡ true
free_rows held true h = refl
free_rows true false h = absurd cc
free_rows false false h = absurd cc

-- a call that no check refuses is due, with its turn
pub is_due : (s : KeySight) (v : Verb) (x : Xid) (flags : ℕ) (c : Call) (turn : CallRow)
    → is_work_verb v ≡ false
    → ready s.tables v x flags ≡ Ok c → turn ≡ turn_for s x c → IsDue s v x flags (c, turn)
is_due s v x flags c turn w is turn_is =
    let p = passed s.tables v x flags c is in
    record {
      checked = is;
      turn = turn_is;
      listed = subst (λ (t : CallRow). IsRowListed s x c t) (sym turn_is)
          (fits (state_of s x) (wrote_some (writes_of s.writes x)) (name_in x).1 (known_of s x) c
          (works_as v flags c p.by_flags ∙ w) (free_rows _ _ p.passes.free));
    }

-- What a turn notes of an operator's decision.

-- this can be noted of a branch, and if the turn leads to S5 it is known after it how an operator decided
abbrev pub IsNoted : CallRow → DecisionTable → Xid → Type 0
IsNoted turn t x = CanNote turn.entry t x
    × (is_decided turn.to ≡ true → is_some (known_behind turn.entry (decision_in t x)) ≡ true)

tells : (b : BranchName) (o : Outcome) (d : Decision) (told : Option Outcome) (t : DecisionTable) (x : Xid)
    → is_some (decision_in t x) ≡ true
    → IsNoted (tell_turn b o d told) t x
tells b o d None t x known = (known, λ is. refl)
tells b o d (Some told) t x known = (tt, λ is. known)

notes_call : (s : BranchState) (c : Call) (wrote : Bool) (b : BranchName) (d : Decision)
    (t : DecisionTable) (x : Xid)
    → (is_decided s ≡ true → is_some (decision_in t x) ≡ true) → IsNoted (turn_of s c wrote b d) t x
notes_call s call.Prepare true b d t x known = (tt, λ is. absurd (cc))
notes_call s call.Prepare false b d t x known = (tt, λ is. absurd (cc))
notes_call S0 call.Commit wrote b d t x known = (tt, λ is. absurd (cc))
notes_call S1 call.Commit wrote b d t x known = (tt, λ is. absurd (cc))
notes_call S2 call.Commit wrote b d t x known = (tt, λ is. absurd (cc))
notes_call S3 call.Commit wrote b d t x known = (tt, λ is. absurd (cc))
notes_call S4 call.Commit wrote b d t x known = (tt, λ is. absurd (cc))
notes_call S5 call.Commit wrote b d t x known = tells b Committed d d.told t x (known refl)
notes_call s call.CommitOnePhase true b d t x known = (tt, λ is. absurd (cc))
notes_call s call.CommitOnePhase false b d t x known = (tt, λ is. absurd (cc))
notes_call S0 call.Rollback wrote b d t x known = (tt, λ is. absurd (cc))
notes_call S1 call.Rollback wrote b d t x known = (tt, λ is. absurd (cc))
notes_call S2 call.Rollback wrote b d t x known = (tt, λ is. absurd (cc))
notes_call S3 call.Rollback wrote b d t x known = (tt, λ is. absurd (cc))
notes_call S4 call.Rollback wrote b d t x known = (tt, λ is. absurd (cc))
notes_call S5 call.Rollback wrote b d t x known = tells b Aborted d d.told t x (known refl)
notes_call s _ wrote b d t x known = (tt, λ is. absurd (cc))

notes_decision : (o : Outcome) (t : DecisionTable) (x : Xid) → 1 ≤ t.room → IsNoted (decide_turn o) t x
notes_decision Committed t x room = (room, λ is. refl)
notes_decision Aborted t x room = (room, λ is. refl)

pub notes : (s : KeySight) (x : Xid) (c : Call) (turn : CallRow) → IsTidy s → IsTurn s x c turn
    → IsNoted turn s.decisions x
notes s x c turn tidy (OfCall is) =
    subst (λ (t : CallRow). IsNoted t s.decisions x) (sym is)
    (notes_call (state_of s x) c _ _ _ s.decisions x (tidy.decided x))
notes s x c turn tidy (OfOperator o here room is) =
    subst (λ (t : CallRow). IsNoted t s.decisions x) (sym is) (notes_decision o s.decisions x room)
