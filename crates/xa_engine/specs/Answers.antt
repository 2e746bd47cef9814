-- The lines of answers.
use Rattle.std.specs.Prelude.{ℕ, List, [], ◌∷◌, ◌++◌, Some, None, length, codes}
use Rattle.std.specs.List.{flat_map}
use Rattle.std.specs.Fmt.{decimal}
use Rattle.xa_codes.specs.Codes.{code_name}
use Rattle.xa_xid.specs.declared.xid.Xid.{Xid}
use Rattle.xa_xid.specs.Text.{xid_text}
use Rattle.xa_assoc.specs.Errors.{number_of}
use Rattle.xa_assoc.specs.declared.errors.WorkError.{WorkError}
use Rattle.xa_assoc.specs.declared.errors.WorkError.TheVariants.{Locked}
use Rattle.resource_manager.specs.declared.errors.RestartError.{RestartError}
use Rattle.resource_manager.specs.declared.errors.RestartError.TheVariants.{Memory, Device, Exhausted}
use Rattle.resource_manager.specs.declared.errors.DecideError.{DecideError}
use Rattle.resource_manager.specs.declared.errors.DecideError.TheVariants as decide_error
use Rattle.resource_manager.specs.declared.errors.TrimError.{TrimError}
use Rattle.resource_manager.specs.declared.errors.TrimError.TheVariants as trim_error
use Rattle.xa_engine.specs.declared.answer.RequestAnswer.{RequestAnswer}
use Rattle.xa_engine.specs.declared.answer.RequestAnswer.TheVariants.{Code, Given, Found, Done, Refused, Booted, NotBooted, Trimmed, NotTrimmed, NotDecided}

-- a branch after a space
abbrev pub branch_text : Xid → List ℕ
branch_text x = 32 ∷ xid_text x

-- the line of a recover: how many branches there are, and their names
abbrev pub given_text : List Xid → List ℕ
given_text given = decimal (length given) ++ flat_map branch_text given ++ 10 ∷ []

-- the branch that a refusal names: the one that holds a lock
abbrev pub holder_text : WorkError → List ℕ
holder_text (Locked x) = branch_text x
holder_text _ = []

-- the line of refused work: its number, and the holder
abbrev pub refusal_text : WorkError → List ℕ
refusal_text e = codes "refused " ++ decimal (number_of e) ++ holder_text e ++ 10 ∷ []

-- the number of why a manager did not restart; want of memory has none, since no output names it
abbrev pub restart_number : RestartError → ℕ
restart_number Memory = 0
restart_number Device = 2
restart_number Exhausted = 4

-- the number of why a log was not trimmed; want of memory has none, since no output names it
abbrev pub trim_number : TrimError → ℕ
trim_number trim_error.Memory = 0
trim_number trim_error.Device = 2
trim_number trim_error.Failed = 5

-- the number of why a branch was not decided; want of memory has none, since no output names it
abbrev pub decide_number : DecideError → ℕ
decide_number decide_error.Memory = 0
decide_number decide_error.Exhausted = 4
decide_number decide_error.Device = 5
decide_number decide_error.Failed = 5
decide_number decide_error.NotInDoubt = 7

-- the line of an answer
abbrev pub answer_text : RequestAnswer → List ℕ
answer_text (Code c) = code_name c ++ 10 ∷ []
answer_text (Given xs) = given_text xs
answer_text (Found None) = codes "= none" ++ 10 ∷ []
answer_text (Found (Some v)) = codes "= " ++ v ++ 10 ∷ []
answer_text Done = codes "done" ++ 10 ∷ []
answer_text (Refused e) = refusal_text e
answer_text (Booted n) = codes "boot " ++ decimal n ++ 10 ∷ []
answer_text (NotBooted e) = codes "refused " ++ decimal (restart_number e) ++ 10 ∷ []
answer_text (Trimmed n) = codes "trim " ++ decimal n ++ 10 ∷ []
answer_text (NotTrimmed e) = codes "refused " ++ decimal (trim_number e) ++ 10 ∷ []
answer_text (NotDecided e) = codes "refused " ++ decimal (decide_number e) ++ 10 ∷ []
