-- A run of a script's requests on a key store with a log, and the text of its answers.
use Rattle.std.specs.Prelude.{◌≡◌, ◌<◌, ◌^◌, ℕ, true, List, [], ◌∷◌, ◌++◌, codes}
use Rattle.std.specs.List.{AllByRecursion, flat_map}
use Rattle.std.specs.Fmt.{decimal}
use Rattle.report_io.specs.declared.status.Status.{Status}
use Rattle.report_io.specs.declared.status.Status.TheVariants.{Ended, Refused, Stopped}
use Rattle.xa_assoc.specs.Associations.{IsAssocList}
use Rattle.protocol.specs.declared.names.Kind.TheVariants.{Manager}
use Rattle.log_rules.specs.sound.Sound.{IsSound}
use Rattle.log_records.specs.Sights.{left_by, records_of}
use Rattle.kv_manager.specs.Sights.{KvSight, are_ordered}
use Rattle.kv_manager.specs.Restarts.{RestoredFrom}
use Rattle.xa_engine.specs.declared.script.request.Request.{Request}
use Rattle.xa_engine.specs.declared.script.reading.XaScriptError.{XaScriptError}
use Rattle.xa_engine.specs.declared.script.reading.XaScriptError.TheVariants.{Line, Utf8, TooLong}
use Rattle.xa_engine.specs.script.Scripts.{IsXaScript, IsScriptFault}
use Rattle.xa_engine.specs.declared.answer.RequestAnswer.{RequestAnswer}
use Rattle.xa_engine.specs.Answers.{answer_text}
use Rattle.xa_engine.specs.Makes.{RequestMakes}

-- the manager of process 1 that was restored from a store without bytes, whose device never failed
abbrev pub IsFreshManager : KvSight → Type 0
IsFreshManager m = RestoredFrom (record { 0 = 1 }) [] 0 0 m

-- what is true of the log of a manager: its records can be in a manager's log and may follow one another; and
-- for some N below 2^64 a crash that keeps N of the unforced bytes leaves all of them
pub record HasSoundLog (m : KvSight) : Type 0 where
  pub sound : AllByRecursion (IsSound Manager) (records_of m.log.sight.kept)
  pub ordered : are_ordered (records_of m.log.sight.kept) ≡ true
  pub size : ℕ
  pub fits : size < 2 ^ 64
  pub whole : left_by m.log.sight size ≡ records_of m.log.sight.kept

-- what is true of each manager of a script: its log is sound; its device, which is memory, never failed; each
-- thread that holds associations is listed once, and a branch as suspended for migration only if it is
pub record IsSoundManager (m : KvSight) : Type 0 where
  pub log : HasSoundLog m
  pub device : m.log.sight.failures ≡ 0
  pub listed : IsAssocList m.store.tables.associations

-- requests take a manager from one state to another, each with its answer, and each manager on the way is
-- sound
abbrev pub RequestsLead : KvSight → List Request → List RequestAnswer → KvSight → Type 0
RequestsLead m [] [] n = (m ≡ n) × IsSoundManager m
RequestsLead m (r ∷ rs) (a ∷ rest) n = (k : KvSight) × IsSoundManager m × RequestMakes m k r a
    × RequestsLead k rs rest n
RequestsLead m _ _ n = ⊥

-- a request takes a manager from one state to another, which is sound, and the line of its answer is written
pub record RequestSteps (old new : KvSight) (request : Request) (before behind : List ℕ) : Type 0 where
  pub answer : RequestAnswer
  pub makes : RequestMakes old new request answer
  pub sound : IsSoundManager new
  pub line : behind ≡ before ++ answer_text answer

-- the answers, one a line, and the last line
abbrev pub report_text : List RequestAnswer → List ℕ
report_text answers = flat_map answer_text answers ++ codes "end" ++ 10 ∷ []

-- requests take a manager from one state to another, and a text has their answers
pub record Runs (old new : KvSight) (requests : List Request) (text : List ℕ) : Type 0 where
  pub answers : List RequestAnswer
  pub leads : RequestsLead old requests answers new
  pub lines : text ≡ report_text answers

-- a text reports a run of these requests from a new manager on
pub record Reports (requests : List Request) (text : List ℕ) : Type 0 where
  pub old : KvSight
  pub new : KvSight
  pub fresh : IsFreshManager old
  pub runs : Runs old new requests text

-- the line of a refused script
abbrev pub fault_text : XaScriptError → List ℕ
fault_text Utf8 = codes "error 4" ++ 10 ∷ []
fault_text TooLong = codes "error 5" ++ 10 ∷ []
fault_text (Line n) = codes "error 3 " ++ decimal n ++ 10 ∷ []

-- what a run writes of an input, by how it ends: the answers of the requests that the input spells, or the
-- line of the fault that is there
abbrev pub IsXaReport : Status → List ℕ → List ℕ → Type 0
IsXaReport Ended input text = (requests : List Request) × IsXaScript input requests × Reports requests text
IsXaReport Refused input text = (error : XaScriptError) × IsScriptFault input error
    × (text ≡ fault_text error)
IsXaReport Stopped input text = ⊥
