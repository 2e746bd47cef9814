-- Which inputs are an XA script, and what is wrong with others.
use Rattle.std.specs.Prelude.{◌≡◌, ℕ, ◌+◌, ◌<◌, ◌≤◌, false, not, List, [], ◌∷◌, length, take, filter, slice_index_or}
use Rattle.std.specs.Str.{IsUtf8}
use Rattle.std.specs.Str.Lines.{lines}
use Rattle.script_words.specs.Lines.{asked_in, is_skipped}
use Rattle.xa_engine.specs.declared.script.request.Request.{Request}
use Rattle.xa_engine.specs.declared.script.reading.XaScriptError.{XaScriptError}
use Rattle.xa_engine.specs.declared.script.reading.XaScriptError.TheVariants.{Line, Utf8, TooLong}
use Rattle.xa_engine.specs.script.Requests.{SpellsRequest}

-- the lines that are not skipped
abbrev pub call_lines : List (List ℕ) → List (List ℕ)
call_lines ls = filter (λ line. not (is_skipped line)) ls

-- lines spell requests, each one of them
abbrev pub SpellEach : List (List ℕ) → List Request → Type 0
SpellEach [] [] = Unit {0}
SpellEach (line ∷ ls) (request ∷ requests) = SpellsRequest line request × SpellEach ls requests
SpellEach _ _ = ⊥

-- an input is text of these lines, of which at most 100,000 are not skipped
pub record HasLines (input : List ℕ) (ls : List (List ℕ)) : Type 0 where
  pub text : IsUtf8 input
  pub short : asked_in (lines input) ≤ 100000
  pub whole : ls ≡ lines input

-- an input is a script of these requests: text, of which at most 100,000 lines are not skipped, and these
-- spell them
pub record IsXaScript (input : List ℕ) (requests : List Request) : Type 0 where
  pub text : IsUtf8 input
  pub short : asked_in (lines input) ≤ 100000
  pub calls : SpellEach (call_lines (lines input)) requests

-- the line of this number, counted from 1, is the first that is neither skipped nor spells a request
pub record IsFirstBadLine (ls : List (List ℕ)) (number : ℕ) : Type 0 where
  pub index : ℕ
  pub counted : number ≡ index + 1
  pub within : index < length ls
  pub front : List Request
  pub before : SpellEach (call_lines (take index ls)) front
  pub kept : is_skipped (slice_index_or ls index []) ≡ false
  pub bad : (request : Request) → SpellsRequest (slice_index_or ls index []) request → ⊥

-- what is wrong with an input, each fault where none of those above it is there
abbrev pub IsScriptFault : List ℕ → XaScriptError → Type 0
IsScriptFault input Utf8 = IsUtf8 input → ⊥
IsScriptFault input TooLong = IsUtf8 input × (100000 < asked_in (lines input))
IsScriptFault input (Line number) =
    IsUtf8 input × (asked_in (lines input) ≤ 100000) × IsFirstBadLine (lines input) number
