-- Which texts are transcripts.
use Rattle.std.specs.Prelude.{◌≡◌, ℕ, ◌+◌, ◌<◌, false, not, List, [], ◌∷◌, ◌++◌, length, filter, take, codes, slice_index_or, Option, Some, None, if◌then◌else◌}
use Rattle.std.specs.Str.Lines.{lines}
use Rattle.script_words.specs.Steps.{◌>>=◌}
use Rattle.judge_rules.specs.declared.calls.HistoryEvent.{HistoryEvent}
use Rattle.judge_rules.specs.declared.words.Rules.{Rules}
use Rattle.judge_script.specs.declared.reading.Transcript.{Transcript}
use Rattle.judge_script.specs.Words.{is_blank, words_in}
use Rattle.judge_script.specs.Headers.{no_rules, ruled}
use Rattle.judge_script.specs.Numbers.{AreApartNames, IsLineEvent, IsPlace, NameTable, SpellsNoEvent, table_of}

-- the lines that are not passed over
abbrev pub kept_lines : List (List ℕ) → List (List ℕ)
kept_lines ls = filter (λ line. not (is_blank line)) ls

-- the numbers of the lines that are not passed over, where the first has this number
abbrev pub kept_numbers : ℕ → List (List ℕ) → List ℕ
kept_numbers i [] = []
kept_numbers i (l ∷ ls) = if is_blank l then kept_numbers (i + 1) ls else i ∷ kept_numbers (i + 1) ls

-- by what a manager is judged after these lines
abbrev pub ruled_by : Rules → List (List ℕ) → Option Rules
ruled_by r [] = Some r
ruled_by r (l ∷ ls) = ruled r (words_in l) >>= λ q. ruled_by q ls

-- lines spell events, each one
abbrev pub AreEvents : NameTable → List (List ℕ) → List HistoryEvent → Type 0
AreEvents n [] [] = Unit {0}
AreEvents n (l ∷ ls) (e ∷ es) = IsLineEvent n (words_in l) e × AreEvents n ls es
AreEvents n _ _ = ⊥

-- lines are a transcript: some first ones that say by what the manager is judged, and the others spell its
-- events; no number two names, and the number 0 is that of no value
pub record AreTranscript (ls : List (List ℕ)) (t : Transcript) : Type 0 where
  pub first : List (List ℕ)
  pub others : List (List ℕ)
  pub numbers : List ℕ
  pub parts : kept_lines ls ≡ first ++ others
  pub places : kept_numbers 1 ls ≡ numbers ++ t.lines.items
  pub long : length numbers ≡ length first
  pub each : length t.lines.items ≡ length t.events.items
  pub rules : ruled_by no_rules first ≡ Some t.rules
  pub events : AreEvents (table_of t.names) others t.events.items
  pub apart_xids : AreApartNames (table_of t.names).xids
  pub apart_words : AreApartNames (table_of t.names).words
  pub no_value : IsPlace (table_of t.names).words 0 (codes "none")

-- a text is a transcript
abbrev pub IsTranscript : List ℕ → Transcript → Type 0
IsTranscript text t = AreTranscript (lines text) t

-- a line asks for nothing after a transcript: if no event came yet, it says nothing of the manager; and it
-- spells no event
pub record IsNoLine (t : Transcript) (line : List ℕ) : Type 0 where
  pub header : length t.events.items ≡ 0 → ruled t.rules (words_in line) ≡ None
  pub event : SpellsNoEvent (words_in line)

-- the line of this number, counted from 1, is the first that asks for nothing: those before it are a
-- transcript, and it is not passed over
pub record IsFirstBadLine (ls : List (List ℕ)) (number : ℕ) : Type 0 where
  pub index : ℕ
  pub counted : number ≡ index + 1
  pub within : index < length ls
  pub kept : is_blank (slice_index_or ls index []) ≡ false
  pub front : Transcript
  pub before : AreTranscript (take index ls) front
  pub bad : IsNoLine front (slice_index_or ls index [])

-- the line of this number in a text, counted from 1, is the first that asks for nothing
abbrev pub IsBadLine : List ℕ → ℕ → Type 0
IsBadLine text number = IsFirstBadLine (lines text) number
