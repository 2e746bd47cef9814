-- What the requests of a script do to the tables of XA.
use Rattle.std.specs.Prelude.{◌≡◌, Bool, List, [], ◌∷◌, Ok, Err}
use Rattle.xa_tables.specs.declared.call.Verb.{Verb}
use Rattle.xa_words.specs.verb
use Rattle.xa_xid.specs.declared.xid.Xid.{Xid}
use Rattle.proof_xa.specs.Moves.{XaMove, Open as OpenMove, Close as CloseMove, Branch as BranchMove, Recover as RecoverMove, Work as WorkMove, Decide as DecideMove, Restart as RestartMove}
use Rattle.proof_xa.specs.Histories.{IsLegalHistory}
use Rattle.kv_manager.specs.Sights.{KvSight}
use Rattle.xa_engine.specs.declared.script.request.BranchCall.{BranchCall}
use Rattle.xa_engine.specs.declared.script.request.BranchCall.TheVariants.{Start, End, Prepare, Commit, Rollback, Forget}
use Rattle.xa_engine.specs.declared.script.request.Request.{Request}
use Rattle.xa_engine.specs.declared.script.request.Request.TheVariants.{Open, Close, Branch, Recover, Work, Restart, Trim, Decide}
use Rattle.xa_engine.specs.declared.answer.RequestAnswer.{RequestAnswer}
use Rattle.xa_engine.specs.declared.answer.RequestAnswer.TheVariants.{Code, Given, Done, Booted, NotBooted, Trimmed, NotTrimmed, NotDecided}

-- the function of XA that a call on a branch is
abbrev pub verb_of : BranchCall → Verb
verb_of Start = verb.Start
verb_of End = verb.End
verb_of Prepare = verb.Prepare
verb_of Commit = verb.Commit
verb_of Rollback = verb.Rollback
verb_of Forget = verb.Forget

-- a request with its answer is this move of the tables: a call with its answer, an operator's decision, or a
-- restart with the branches that it leaves in doubt; an operation on data, a trim, and a decision or a
-- restart that is refused leave them alone
abbrev pub Shows : Request → RequestAnswer → XaMove → Type 0
Shows (Open flags migrates) (Code c) move = move ≡ OpenMove flags.0 migrates c
Shows (Close flags) (Code c) move = move ≡ CloseMove flags.0 c
Shows (Branch f thread xid flags) (Code c) move = move ≡ BranchMove (verb_of f) thread xid flags.0 c
Shows (Recover thread count flags) (Code c) move = move ≡ RecoverMove thread count flags.0 (Err c)
Shows (Recover thread count flags) (Given xs) move = move ≡ RecoverMove thread count flags.0 (Ok xs)
Shows (Work thread op) answer move = move ≡ WorkMove
Shows (Restart keep) (Booted n) move = (left : List (Xid × Bool)) × (move ≡ RestartMove left)
Shows (Restart keep) (NotBooted e) move = move ≡ WorkMove
Shows Trim (Trimmed n) move = move ≡ WorkMove
Shows Trim (NotTrimmed e) move = move ≡ WorkMove
Shows (Decide xid o) Done move = move ≡ DecideMove xid
Shows (Decide xid o) (NotDecided e) move = move ≡ WorkMove
Shows _ _ move = ⊥

-- requests with their answers are these moves, one for one
abbrev pub ShowEach : List Request → List RequestAnswer → List XaMove → Type 0
ShowEach [] [] [] = Unit {0}
ShowEach (r ∷ rs) (a ∷ rest) (move ∷ moves) = Shows r a move × ShowEach rs rest moves
ShowEach _ _ _ = ⊥

-- requests with their answers do to the tables of states what a legal history does
pub record IsHistory (m : KvSight) (requests : List Request) (answers : List RequestAnswer)
    (n : KvSight) : Type 0 where
  pub moves : List XaMove
  pub shown : ShowEach requests answers moves
  pub legal : IsLegalHistory m.store.tables moves n.store.tables
