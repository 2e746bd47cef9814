-- What the judge writes of a transcript.
use Rattle.std.specs.Prelude.{◌≡◌, ℕ, ◌-◌, List, [], ◌∷◌, ◌++◌, length, codes, slice_index_or, Option, Some, None}
use Rattle.std.specs.Fmt.{decimal}
use Rattle.std.specs.Str.{IsUtf8}
use Rattle.std.specs.Str.Lines.{lines}
use Rattle.judge_script.specs.declared.reading.Transcript.{Transcript}
use Rattle.judge_script.specs.Transcripts.{IsBadLine, IsTranscript}
use Rattle.judge_state.specs.Sights.{first_sight}
use Rattle.judge_rules.specs.Histories.{IsLegal}
use Rattle.judge_set.specs.Sets.{IsFirstIllegal, IsTooMuch}
use Rattle.judge_engine.specs.declared.judging.Extent.{Extent}
use Rattle.judge_engine.specs.declared.judging.Extent.TheVariants.{First, All}
use Rattle.judge_engine.specs.declared.judging.JudgeFault.{JudgeFault}
use Rattle.judge_engine.specs.declared.run.JudgeStatus.{JudgeStatus}
use Rattle.judge_engine.specs.declared.run.JudgeStatus.TheVariants.{Conforms, Refused, Faulty}
use Rattle.judge_engine.specs.declared.run.Refusal.{Refusal}
use Rattle.judge_engine.specs.declared.run.Refusal.TheVariants as refusal
use Rattle.judge_engine.specs.Faults.{AreTold, IsOverFor, indices}

-- the index of the first of these faults
abbrev pub first_index : List JudgeFault → Option ℕ
first_index [] = None
first_index (f ∷ fs) = Some f.index

-- the exit status
abbrev pub ending_number : JudgeStatus → ℕ
ending_number Conforms = 0
ending_number Refused = 1
ending_number Faulty = 3

-- the line of a refused transcript
abbrev pub refusal_text : Refusal → List ℕ
refusal_text refusal.Utf8 = codes "error 4" ++ 10 ∷ []
refusal_text refusal.TooMany = codes "error 5" ++ 10 ∷ []
refusal_text (refusal.Line n) = codes "error 3 " ++ decimal n ++ 10 ∷ []

-- why an input is refused: it is no text; the line of this number is the first that asks for nothing; or more
-- states are possible than are gone through
abbrev pub IsRefusal : Extent → List ℕ → Refusal → Type 0
IsRefusal x input refusal.Utf8 = IsUtf8 input → ⊥
IsRefusal x input (refusal.Line n) = IsUtf8 input × IsBadLine input n
IsRefusal x input refusal.TooMany =
    IsUtf8 input × ((t : Transcript) × IsTranscript input t × IsOverFor x t.rules t.events.items)

-- the report of a transcript that conforms: how many calls it has
abbrev pub conforms_text : Transcript → List ℕ
conforms_text t = codes "conforms " ++ decimal (length t.events.items) ++ codes " calls" ++ 10 ∷ []

-- how the report of a fault begins: with the number of its line, and the line
abbrev pub fault_text : List (List ℕ) → ℕ → List ℕ
fault_text ls n = codes "fault " ++ decimal n ++ codes ": " ++ slice_index_or ls (n - 1) [] ++ 10 ∷ []

-- the number of the line of an event
abbrev pub line_of : Transcript → ℕ → ℕ
line_of t i = slice_index_or t.lines.items i 0

-- the lines that tell how thread and branch are at a fault, what is admitted, and this rule
abbrev pub reasons_text : JudgeFault → List ℕ → List ℕ
reasons_text f rule = codes "  state: " ++ f.standing.items ++ 10 ∷ codes "  admitted: " ++ f.admitted.items
    ++ 10 ∷ codes "  rule: " ++ rule ++ 10 ∷ []

-- the lines of a fault
abbrev pub fault_lines : List (List ℕ) → Transcript → JudgeFault → List ℕ → List ℕ
fault_lines ls t f rule = fault_text ls (line_of t f.index) ++ reasons_text f rule

-- a text has the lines of these faults, in order
abbrev pub TellsFaults : List (List ℕ) → Transcript → List JudgeFault → List ℕ → Type 0
TellsFaults ls t [] text = text ≡ []
TellsFaults ls t (f ∷ fs) text = (rule : List ℕ) × (rest : List ℕ)
    × (text ≡ fault_lines ls t f rule ++ rest) × TellsFaults ls t fs rest

-- the last line of the report of faults: how many of how many calls
abbrev pub count_text : ℕ → ℕ → List ℕ
count_text n m = codes "faults " ++ decimal n ++ codes " of " ++ decimal m ++ codes " calls" ++ 10 ∷ []

-- what is told between the faults and their number: nothing of a first fault; of all, how many of each sort
abbrev pub IsBetween : Extent → List ℕ → Type 0
IsBetween First text = text ≡ []
IsBetween All text = Unit {0}

-- a text reports these faults of a transcript with these lines
pub record IsFaultsText (x : Extent) (ls : List (List ℕ)) (t : Transcript) (fs : List JudgeFault)
    (text : List ℕ) : Type 0 where
  pub told : List ℕ
  pub between : List ℕ
  pub tells : TellsFaults ls t fs told
  pub sorts : IsBetween x between
  pub whole : text ≡ told ++ between ++ count_text (length fs) (length t.events.items)

-- a text reports the faults of a transcript, of which these are the first, or all
pub record ReportsFaults (x : Extent) (input : List ℕ) (t : Transcript) (text : List ℕ) : Type 0 where
  pub faults : List JudgeFault
  pub index : ℕ
  pub first : first_index faults ≡ Some index
  pub fault : IsFirstIllegal t.rules t.events.items index
  pub told : AreTold x t.rules t.events.items (indices faults)
  pub few : IsTooMuch t.rules (first_sight ∷ []) t.events.items → ⊥
  pub report : IsFaultsText x (lines input) t faults text

-- a text reports that the history of a transcript is legal
pub record ReportsNone (t : Transcript) (text : List ℕ) : Type 0 where
  pub legal : IsLegal t.rules t.events.items
  pub few : IsTooMuch t.rules (first_sight ∷ []) t.events.items → ⊥
  pub report : text ≡ conforms_text t

-- what is written of an input, by how the run ends: of a transcript, that its history is legal, or its
-- faults; or the line of the fault for which the input is refused
abbrev pub IsReport : Extent → JudgeStatus → List ℕ → List ℕ → Type 0
IsReport x Conforms input text = IsUtf8 input × ((t : Transcript) × IsTranscript input t × ReportsNone t text)
IsReport x Faulty input text =
    IsUtf8 input × ((t : Transcript) × IsTranscript input t × ReportsFaults x input t text)
IsReport x Refused input text = (r : Refusal) × IsRefusal x input r × (text ≡ refusal_text r)
