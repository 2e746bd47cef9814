-- What a state of the judge knows of data, and what an answer makes of it.
use Rattle.std.proofs.Common.{◌≡◌, ℕ, true, false, List, [], ◌++◌, fold, ◌&&◌, refl}
use Rattle.std.specs.Prelude.{◌==◌, is_some}
use Rattle.std.specs.List.{list_any, AllByRecursion}
use Rattle.xa_xid.specs.declared.xid.Xid.{Xid}
use Rattle.xa_tables.specs.Tables.{is_in_doubt as is_doubt}
use Rattle.xa_tables.specs.declared.states.BranchState.{BranchState}
use Rattle.xa_tables.specs.declared.states.BranchState.TheVariants.{S3}
use Rattle.judge_state.specs.declared.parts.JudgedBranch.{JudgedBranch}
use Rattle.judge_state.specs.declared.parts.Work.{Work}
use Rattle.judge_state.specs.declared.parts.JudgedWrite.{JudgedWrite}
use Rattle.judge_state.specs.Moves.{committed, decided, doubted, gone, restarted, rolled, works_of}
use Rattle.judge_state.specs.Parts.{is_in_doubt, is_named}
use Rattle.judge_state.specs.Sights.{Sight}
use Rattle.judge_state.specs.Questions.{active_of, branch_at}
use Rattle.judge_rules.specs.declared.calls.JudgedAnswer.{JudgedAnswer}
use Rattle.judge_words.specs.answer
use Rattle.judge_rules.specs.declared.calls.BranchVerb.{BranchVerb}
use Rattle.judge_words.specs.verb
use Rattle.judge_rules.specs.declared.calls.JudgedCall.{JudgedCall}
use Rattle.judge_words.specs.call
use Rattle.judge_words.specs.function
use Rattle.judge_rules.specs.declared.defects.Refusals.{Refusals}
use Rattle.judge_rules.specs.declared.replies.Reply.{Reply}
use Rattle.judge_words.specs.reply
use Rattle.judge_rules.specs.Replies.{reply_of}
use Rattle.judge_rules.specs.Scans.{write_row}
use Rattle.judge_rules.specs.Steps.{outcome}
use Rattle.proof_judged_deeds.specs.Names.{NameNumbers}
use Rattle.proof_judged_deeds.proofs.Rows.{IsDefect, Inval, Async, Proto, DupId, NotA}

-- what branches have written, what was committed, and which branches left S3, with what they had written
pub record Ledger : Type 0 where
  pub works : List Work
  pub values : List JudgedWrite
  pub lost : List JudgedBranch
  pub lost_works : List Work

abbrev pub ledger : Sight → Ledger
ledger s = record { works = s.works; values = s.values; lost = s.lost; lost_works = s.lost_works }

-- what XA_OK makes of a branch
abbrev pub done : BranchVerb → ℕ → Sight → Sight
done verb.Commit x s = committed x s
done verb.Rollback x s = rolled x s
done verb.Forget x s = gone x s
done _ x s = s

-- what XA_RDONLY does
abbrev pub read_only : BranchVerb → ℕ → Sight → Sight
read_only verb.Prepare x s = committed x s
read_only _ x s = s

-- what the answer of a call on a branch makes of data
abbrev pub effect : Reply → BranchVerb → ℕ → Sight → Sight
effect reply.Ok v x s = done v x s
effect reply.RdOnly v x s = read_only v x s
effect _ v x s = s

-- a refusal by a defect makes nothing of them
pub defect_keeps : (d : Refusals) (a : Reply) (v : BranchVerb) (x : ℕ) (s : Sight) → IsDefect d a
    → effect a v x s ≡ s
defect_keeps d a v x s (Inval h) = refl
defect_keeps d a v x s (Async h) = refl
defect_keeps d a v x s (Proto h) = refl
defect_keeps d a v x s (DupId h) = refl
defect_keeps d a v x s (NotA h) = refl

-- what any call but a restart, with its answer, makes of data
abbrev pub outcome_of : JudgedCall → JudgedAnswer → Sight → Sight
outcome_of (call.Function (function.Branch v o)) (answer.Code c) s = effect (reply_of c) v o.xid.number s
outcome_of (call.Put t k v) answer.Done s = write_row (active_of t s) t k v s
outcome_of (call.Decide x commits) answer.Done s = decided x (outcome commits) s
outcome_of _ _ s = s

-- Restarts.

-- a branch is back in S3, whose name was free
pub record IsBack (n : NameNumbers) (s : Sight) (to : Xid → BranchState) (b : JudgedBranch) : Type 0 where
  pub xid : Xid
  pub is : b.name ≡ n.xid xid
  pub three : to xid ≡ S3
  pub free : is_some (branch_at b.name (restarted s)) ≡ false

-- what a restart leaves of data, where some branches are back in S3
pub record IsReturned (n : NameNumbers) (s u : Sight) (from to : Xid → BranchState) : Type 0 where
  pub back : List JudgedBranch
  pub works : u.works ≡ fold (λ (js : List Work) (b : JudgedBranch). js ++ works_of b.name s.lost_works)
      (restarted s).works back
  pub values : u.values ≡ fold (λ (vs : List JudgedWrite) (b : JudgedBranch). doubted b.name vs) s.values back
  pub lost_works : u.lost_works ≡ []
  pub each : AllByRecursion (IsBack n s to) back
  pub here : (x : Xid) → is_doubt (from x) ≡ false → to x ≡ S3 → list_any (is_named (n.xid x)) back ≡ true
  pub kept : (x : Xid) → list_any (λ b. is_in_doubt b && b.name == n.xid x) s.branches ≡ is_doubt (from x)

-- what any call, with its answer, makes of data
abbrev pub Carries : NameNumbers → Sight → Sight → (Xid → BranchState) → (Xid → BranchState) → JudgedCall
    → JudgedAnswer → Type 0
Carries n s u from to (call.Restart cut) a = IsReturned n s u from to
Carries n s u from to c a = ledger u ≡ ledger (outcome_of c a s)
