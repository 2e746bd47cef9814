-- What a request of a script, with its answer, is to the judge; and which of them the law covers.
use Rattle.std.specs.Prelude.{◌≡◌, ◌<◌, ◌-◌, ◌^◌, ℕ, List, [], ◌∷◌, is_some, length, map}
use Rattle.protocol.specs.declared.messages.Op.{Op}
use Rattle.protocol.specs.declared.messages.Op.TheVariants.{Put, Get, Delete}
use Rattle.judge_rules.specs.declared.calls.JudgedAnswer.{JudgedAnswer}
use Rattle.judge_rules.specs.declared.calls.JudgedAnswer.TheVariants as judged
use Rattle.judge_rules.specs.declared.calls.BranchVerb.{BranchVerb}
use Rattle.judge_words.specs.verb
use Rattle.judge_rules.specs.declared.calls.JudgedCall.{JudgedCall}
use Rattle.judge_words.specs.call
use Rattle.judge_rules.specs.declared.calls.HistoryEvent.{HistoryEvent}
use Rattle.judge_words.specs.function
use Rattle.judge_rules.specs.Histories.{IsLegal}
use Rattle.xa_engine.specs.declared.script.request.BranchCall.{BranchCall}
use Rattle.xa_engine.specs.declared.script.request.BranchCall.TheVariants.{Start, End, Prepare, Commit, Rollback, Forget}
use Rattle.xa_engine.specs.declared.script.request.Request.{Request}
use Rattle.xa_engine.specs.declared.script.request.Request.TheVariants.{Open, Close, Branch, Recover, Work, Restart, Trim, Decide}
use Rattle.xa_engine.specs.declared.answer.RequestAnswer.{RequestAnswer}
use Rattle.xa_engine.specs.declared.answer.RequestAnswer.TheVariants as answer
use Rattle.xa_engine.specs.Runs.{report_text}
use Rattle.xa_engine.specs.script.Scripts.{IsXaScript}
use Rattle.proof_judged_deeds.specs.Deeds.{GivesBranches, is_commit, on}
use Rattle.proof_judged_deeds.specs.Names.{NameNumbers, lacks_forced, value_number}

-- the function of XA that a call on a branch is to the judge
abbrev pub verb_of : BranchCall → BranchVerb
verb_of Start = verb.Start
verb_of End = verb.End
verb_of Prepare = verb.Prepare
verb_of Commit = verb.Commit
verb_of Rollback = verb.Rollback
verb_of Forget = verb.Forget

-- an operation on data, as a call of a transcript; a deletion writes the value 0, which is none
abbrev pub op_call : NameNumbers → ℕ → Op → JudgedCall
op_call n t (Get k) = call.Get t (n.word k)
op_call n t (Put k v) = call.Put t (n.word k) (n.word v)
op_call n t (Delete k) = call.Put t (n.word k) 0

-- a request, as a call of a transcript
abbrev pub call_of : NameNumbers → Request → JudgedCall
call_of n (Open flags migrates) = call.Function (function.Open flags)
call_of n (Close flags) = call.Function (function.Close flags)
call_of n (Branch f t x flags) = call.Function (function.Branch (verb_of f) (on n t x flags))
call_of n (Recover t count flags) = call.Function (function.Recover t count flags)
call_of n (Work t op) = op_call n t op
call_of n (Restart keep) = call.Restart (is_some keep)
call_of n Trim = call.Trim
call_of n (Decide x o) = call.Decide (n.xid x) (is_commit o)

-- an answer, as one of a transcript; a refusal that names no code is one word to the judge
abbrev pub SaysNumbered : NameNumbers → RequestAnswer → JudgedAnswer → Type 0
SaysNumbered n (answer.Code c) j = j ≡ judged.Code c
SaysNumbered n (answer.Given xs) j = GivesBranches (map n.xid xs) j
SaysNumbered n (answer.Found v) j = j ≡ judged.Found (value_number n v)
SaysNumbered n answer.Done j = j ≡ judged.Done
SaysNumbered n (answer.Refused e) j = j ≡ judged.Refused
SaysNumbered n (answer.Booted b) j = j ≡ judged.Told
SaysNumbered n (answer.NotBooted e) j = j ≡ judged.Refused
SaysNumbered n (answer.Trimmed r) j = j ≡ judged.Told
SaysNumbered n (answer.NotTrimmed e) j = j ≡ judged.Refused
SaysNumbered n (answer.NotDecided e) j = j ≡ judged.Refused

-- an event is a request with its answer
pub record IsRequestEvent (n : NameNumbers) (r : Request) (a : RequestAnswer)
    (e : HistoryEvent) : Type 0 where
  pub calls : e.call ≡ call_of n r
  pub says : SaysNumbered n a e.answer

-- events are requests with their answers, one for one
abbrev pub AreRequests : NameNumbers → List Request → List RequestAnswer → List HistoryEvent → Type 0
AreRequests n [] [] [] = Unit {0}
AreRequests n (r ∷ rs) (a ∷ given) (e ∷ es) = IsRequestEvent n r a e × AreRequests n rs given es
AreRequests n _ _ _ = ⊥

-- what is written of a script conforms: the input spells requests, the text has their answers, and they are,
-- their names numbered, events of a legal history, if they are fewer than 2^63 - 1
pub record Conforms (input text : List ℕ) : Type 0 where
  pub requests : List Request
  pub answers : List RequestAnswer
  pub script : IsXaScript input requests
  pub report : text ≡ report_text answers
  pub legal : (n : NameNumbers) (es : List HistoryEvent) → length requests < 2 ^ 63 - 1
      → AreRequests n requests answers es
      → IsLegal lacks_forced es
