-- What happens at a key store, as its tables show it and as an event of the judge.
use Rattle.std.specs.Prelude.{◌≡◌, ◌⊎◌, ◌&&◌, ℕ, Bool, true, false, List, [], ◌∷◌, Option, Result, Ok, Err, map}
use Rattle.xa_codes.specs.declared.code.Code.{Code}
use Rattle.xa_words.specs.code
use Rattle.xa_codes.specs.declared.flags.Flags.{Flags}
use Rattle.xa_tables.specs.declared.call.Verb.{Verb}
use Rattle.xa_tables.specs.declared.call.Verb.TheVariants as table_verb
use Rattle.xa_tables.specs.declared.states.BranchState.{BranchState}
use Rattle.xa_tables.specs.declared.states.BranchState.TheVariants.{S0, S1, S2, S3, S4, S5}
use Rattle.xa_xid.specs.declared.xid.Xid.{Xid}
use Rattle.xa_branch.specs.Names.{same}
use Rattle.xa_branch.specs.Branches.{state_in}
use Rattle.xa_assoc.specs.Associations.{ArePositiveCounts, AreThreadsListedOnce}
use Rattle.xa_assoc.specs.declared.states.States.{States}
use Rattle.xa_assoc.specs.Answers.{AnswersCall, Closes, OpensManager, Recovers, SameStates, TakesTableRow, Wanted}
use Rattle.xa_assoc.specs.Restored.{Restored, has_twice}
use Rattle.xa_branch.specs.declared.decision.Decision.{Decision as Known}
use Rattle.protocol.specs.declared.names.Outcome.{Outcome}
use Rattle.protocol.specs.declared.names.Outcome.TheVariants.{Committed, Aborted}
use Rattle.protocol.specs.declared.records.Write.{Write}
use Rattle.resource_manager.specs.Ends.{row_of}
use Rattle.judge_state.specs.declared.parts.JudgedDecision.{JudgedDecision}
use Rattle.judge_words.specs.decision
use Rattle.judge_rules.specs.declared.calls.JudgedAnswer.{JudgedAnswer}
use Rattle.judge_words.specs.answer
use Rattle.judge_rules.specs.declared.calls.BranchVerb.{BranchVerb}
use Rattle.judge_words.specs.verb
use Rattle.judge_rules.specs.declared.calls.JudgedCall.{JudgedCall}
use Rattle.judge_words.specs.call
use Rattle.judge_rules.specs.declared.calls.HistoryEvent.{HistoryEvent}
use Rattle.judge_words.specs.function
use Rattle.judge_rules.specs.declared.calls.On.{On}
use Rattle.proof_judged_deeds.specs.Names.{NameNumbers, sort_of, value_number}

-- who calls on which branch, with which flags
abbrev pub on : NameNumbers → ℕ → Xid → Flags → On
on n t x flags = record { thread = t; xid = record { number = n.xid x; sort = sort_of x }; flags = flags }

-- what an operator decided, to the judge
abbrev pub decision_of : Outcome → JudgedDecision
decision_of Committed = decision.Commit
decision_of Aborted = decision.Rollback

-- an operator commits
abbrev pub is_commit : Outcome → Bool
is_commit Committed = true
is_commit Aborted = false

-- an event is this call with this answer
pub record Is (e : HistoryEvent) (c : JudgedCall) (a : JudgedAnswer) : Type 0 where
  pub calls : e.call ≡ c
  pub says : e.answer ≡ a

-- the rows that a key store takes of a branch: by what the branch wrote, and by what an operator decided of
-- it
abbrev pub rows_for : States → Xid → List Write → Known → Wanted
rows_for m x ws k c = row_of c (state_in m.branches.branches x) ws k

-- a prepare, commit, rollback or forget, as the function of XA that it is
abbrev pub ends_branch : BranchVerb → Verb → Type 0
ends_branch verb.Prepare v = v ≡ table_verb.Prepare
ends_branch verb.Commit v = v ≡ table_verb.Commit
ends_branch verb.Rollback v = v ≡ table_verb.Rollback
ends_branch verb.Forget v = v ≡ table_verb.Forget
ends_branch _ v = ⊥

-- an answer gives these branches
abbrev pub GivesBranches : List ℕ → JudgedAnswer → Type 0
GivesBranches ks (answer.Given given) = given.items ≡ ks
GivesBranches ks _ = ⊥

-- what a recover gives, or the code by which it is answered, as an answer of a transcript
abbrev pub IsScan : NameNumbers → Result (List Xid) Code → JudgedAnswer → Type 0
IsScan n (Ok xs) a = GivesBranches (map n.xid xs) a
IsScan n (Err c) a = a ≡ answer.Code c

-- of each branch that an operator decided the same is known
abbrev pub StillKnown : States → (Xid → JudgedDecision) → (Xid → JudgedDecision) → Type 0
StillKnown m d f = (y : Xid) → state_in m.branches.branches y ≡ S5 → f y ≡ d y

-- Restarts.

-- the state in which a restart finds a branch: as it was, if it was in doubt; else it is known no longer, or,
-- if a crash may bring it back, prepared again
abbrev pub Returns : BranchState → BranchState → Bool → Type 0
Returns S3 to lost = to ≡ S3
Returns S5 to lost = to ≡ S5
Returns S0 to lost = (to ≡ S0) ⊎ ((to ≡ S3) × (lost ≡ true))
Returns S1 to lost = (to ≡ S0) ⊎ ((to ≡ S3) × (lost ≡ true))
Returns S2 to lost = (to ≡ S0) ⊎ ((to ≡ S3) × (lost ≡ true))
Returns S4 to lost = (to ≡ S0) ⊎ ((to ≡ S3) × (lost ≡ true))

-- a restart: the manager is not open, and has no associations and scans; each branch returns, those that a
-- crash may bring back only where some bytes are cut off; and from now on a crash may bring back none
pub record DeedRestarts (old new : States) (d d' : Xid → JudgedDecision) (l l' : Xid → Bool)
    (cut : Bool) : Type 0 where
  pub left : List (Xid × Bool)
  pub tables : Restored left new
  pub once : has_twice left ≡ false
  pub states : (x : Xid) → Returns (state_in old.branches.branches x)
      (state_in new.branches.branches x) (cut && l x)
  pub known : (x : Xid) → state_in old.branches.branches x ≡ S5 → d' x ≡ d x
  pub forgets : (x : Xid) → l' x ≡ true → ⊥

-- a crash may bring back no branch but these
abbrev pub NoMore : (Xid → Bool) → (Xid → Bool) → Type 0
NoMore l l' = (y : Xid) → l' y ≡ true → l y ≡ true

-- a crash may bring back no branch but these, and this one, if it was prepared and is known no longer
abbrev pub Loses : States → States → Xid → (Xid → Bool) → (Xid → Bool) → Type 0
Loses old new x l l' = (y : Xid) → l' y ≡ true
    → (l y ≡ true) ⊎ ((same x y ≡ true) × (state_in old.branches.branches x ≡ S3)
    × (state_in new.branches.branches x ≡ S0))

-- what happens at a key store whose device works: it takes the tables from a state to another, what is known
-- of operators' decisions, and which branches that left S3 a crash may bring back; and the event is what the
-- judge hears of it
pub data Deed (n : NameNumbers) (old new : States) (d d' : Xid → JudgedDecision) (l l' : Xid → Bool)
    (e : HistoryEvent) : Type 0 where
  -- an open
  Opened : (flags : Flags) (migrates : Bool) (c : Code) → OpensManager old new flags.0 migrates c
      → StillKnown new d d' → NoMore l l'
      → Is e (call.Function (function.Open flags)) (answer.Code c) → Deed n old new d d' l l' e
  -- a close, of a manager that lists no migration that is none
  Closed : (flags : Flags) (c : Code) → ArePositiveCounts old.associations.moved → Closes old new flags.0 c
      → StillKnown new d d' → NoMore l l'
      → Is e (call.Function (function.Close flags)) (answer.Code c) → Deed n old new d d' l l' e
  -- a start or an end
  Started : (wanted : Wanted) (t : ℕ) (x : Xid) (flags : Flags) (c : Code)
      → AnswersCall wanted old new table_verb.Start t x flags.0 c
      → StillKnown new d d' → NoMore l l'
      → Is e (call.Function (function.Branch verb.Start (on n t x flags))) (answer.Code c)
      → Deed n old new d d' l l' e
  Ended : (wanted : Wanted) (t : ℕ) (x : Xid) (flags : Flags) (c : Code)
      → AnswersCall wanted old new table_verb.End t x flags.0 c
      → StillKnown new d d' → NoMore l l'
      → Is e (call.Function (function.Branch verb.End (on n t x flags))) (answer.Code c)
      → Deed n old new d d' l l' e
  -- a call that finishes a branch, by the key store's rows; what an operator decided is known
  Finished : (v : BranchVerb) (w : Verb) (ws : List Write) (k : Known) (t : ℕ) (x : Xid)
      (flags : Flags) (c : Code)
      → ends_branch v w → d x ≡ decision_of k.outcome → AnswersCall (rows_for old x ws k) old new w t x
      flags.0 c
      → StillKnown new d d' → Loses old new x l l'
      → Is e (call.Function (function.Branch v (on n t x flags))) (answer.Code c) → Deed n old new d d' l l' e
  -- any call on a branch, where a limit of the store's own is met
  Limited : (v : BranchVerb) (t : ℕ) (x : Xid) (flags : Flags) → SameStates old new → StillKnown new d d'
      → NoMore l l'
      → Is e (call.Function (function.Branch v (on n t x flags))) (answer.Code code.RmErr)
      → Deed n old new d d' l l' e
  -- a recover
  Recovered : (t count : ℕ) (flags : Flags) (r : Result (List Xid) Code) (a : JudgedAnswer)
      → Recovers old new t count flags.0 r → IsScan n r a → StillKnown new d d' → NoMore l l'
      → Is e (call.Function (function.Recover t count flags)) a → Deed n old new d d' l l' e
  -- an operator decides a prepared branch
  Decided : (x : Xid) (o : Outcome) → state_in old.branches.branches x ≡ S3 → TakesTableRow old new x S5
      → d' x ≡ decision_of o → ((y : Xid) → same x y ≡ false → d' y ≡ d y) → NoMore l l'
      → Is e (call.Decide (n.xid x) (is_commit o)) answer.Done → Deed n old new d d' l l' e
  -- a decision is refused
  Undecided : (x : Xid) (o : Outcome) → SameStates old new → StillKnown new d d' → NoMore l l'
      → Is e (call.Decide (n.xid x) (is_commit o)) answer.Refused → Deed n old new d d' l l' e
  -- a thread writes a value, or a key is deleted; or it is refused
  Wrote : (t : ℕ) (k : List ℕ) (v : Option (List ℕ)) → SameStates old new → StillKnown new d d' → NoMore l l'
      → Is e (call.Put t (n.word k) (value_number n v)) answer.Done → Deed n old new d d' l l' e
  Unwritten : (t : ℕ) (k : List ℕ) (v : Option (List ℕ)) → SameStates old new → StillKnown new d d'
      → NoMore l l'
      → Is e (call.Put t (n.word k) (value_number n v)) answer.Refused → Deed n old new d d' l l' e
  -- a thread's read is refused
  Unread : (t : ℕ) (k : List ℕ) → SameStates old new → StillKnown new d d' → NoMore l l'
      → Is e (call.Get t (n.word k)) answer.Refused → Deed n old new d d' l l' e
  -- a trim
  Trimmed : SameStates old new → StillKnown new d d' → NoMore l l' → Is e call.Trim answer.Told
      → Deed n old new d d' l l' e
  -- a restart, after which some bytes are cut off or not
  Restarted : (cut : Bool) → DeedRestarts old new d d' l l' cut
      → Is e (call.Restart cut) answer.Told → Deed n old new d d' l l' e

-- events are what the judge hears of such deeds, one after another
abbrev pub DeedsLead : NameNumbers → States → (Xid → JudgedDecision) → (Xid → Bool) → List HistoryEvent
    → Type 0
DeedsLead n m d l [] = Unit {0}
DeedsLead n m d l (e ∷ es) = (k : States) × (f : Xid → JudgedDecision) × (j : Xid → Bool)
    × AreThreadsListedOnce k.associations.holders
    × Deed n m k d f l j e × DeedsLead n k f j es

-- a crash may bring back no branch
abbrev pub none_lost : Xid → Bool
none_lost x = false
