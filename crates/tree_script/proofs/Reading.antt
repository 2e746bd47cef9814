-- How far the lines of a script are read.
use Rattle.std.proofs.Common.{◌≡◌, ◌∙◌, ap, sym, subst, refl, ℕ, ◌+◌, ◌<◌, ◌≤◌, List, [], ◌∷◌, ◌++◌, drop, length, get_or, Option, None, Some, Result, Ok, Err, arith}
use Rattle.std.specs.Prelude.{slice_get}
use Rattle.std.proofs.lemmas.List.{get_or_default}
use Rattle.std.proofs.lemmas.Option.{slice_get_read}
use Rattle.protocol.specs.declared.events.Event.{Event}
use Rattle.protocol.specs.declared.trees.TreeProcess.{TreeProcess}
use Rattle.tree_script.specs.declared.script.ScriptError.{ScriptError}
use Rattle.tree_script.specs.declared.script.ScriptError.TheVariants.{Memory, Fault}
use Rattle.tree_script.specs.declared.script.ScriptFault.TheVariants.{Utf8, TreeText, Tree, TooLong, Line}
use Rattle.tree_script.specs.Events.{event_at}
use Rattle.tree_script.specs.Inputs.{Asks, IsLineError, IsOpenScript, IsScript, LinesState, asked_by}
use Rattle.tree_script.specs.Script.{events_at, with_front}
use Rattle.tree_script.proofs.Asked.{ends, goes_on, skips, stops}

-- these events, and then those of the lines from this place on, are all that is asked for
abbrev pub HasRead : LinesState → ℕ → List Event → Type 0
HasRead s i es = with_front es (events_at (event_at s.root) (s.before + i + 1) (drop i s.lines)) ≡ asked_by s

-- the line at a place within
line_at : (ls : List (List ℕ)) (i : ℕ) → i < length ls → slice_get ls i ≡ Some (get_or ls i [])
line_at ls i within =
    slice_get_read ls (length ls) i (get_or ls i []) refl within
    (get_or_default ls i [] (get_or ls i []) within)

pub asked_here : (s : LinesState) (i : ℕ) (r : Result (Option Event) ScriptError) → i < length s.lines
    → Asks s.root (s.before + i + 1) (slice_get s.lines i) r
    → Asks s.root (s.before + i + 1) (Some (get_or s.lines i [])) r
asked_here s i r within asks = rw (← line_at s.lines i within) asks

pub reads_nothing : (s : LinesState) (i : ℕ) (o : Option Event) (es : List Event) → i < length s.lines
    → Asks s.root (s.before + i + 1) (slice_get s.lines i) (Ok o) → o ≡ None
    → HasRead s i es → HasRead s (i + 1) es
reads_nothing s i (Some e) es within asks is so_far = absurd (cc)
reads_nothing s i None es within asks is so_far =
    skips (event_at s.root) es s.lines (s.before + i + 1) (s.before + (i + 1) + 1) i (asked_by s) within
    (asked_here s i (Ok None) within asks) (omega arith) so_far

pub reads_event : (s : LinesState) (i : ℕ) (o : Option Event) (e : Event) (es : List Event)
    → i < length s.lines
    → Asks s.root (s.before + i + 1) (slice_get s.lines i) (Ok o) → o ≡ Some e
    → HasRead s i es → HasRead s (i + 1) (es ++ e ∷ [])
reads_event s i o e es within asks is so_far =
    let here = asked_here s i (Ok (Some e)) within
    (subst (λ (x : Option Event). Asks s.root (s.before + i + 1) (slice_get s.lines i) (Ok x)) is asks) in
    goes_on (event_at s.root) es s.lines (s.before + i + 1) (s.before + (i + 1) + 1) i e (asked_by s) within
    here.0 here.1 (omega arith) so_far

pub reads_fault : (s : LinesState) (i : ℕ) (error : ScriptError) (es : List Event) → i < length s.lines
    → Asks s.root (s.before + i + 1) (slice_get s.lines i) (Err error)
    → HasRead s i es → IsLineError error (asked_by s)
reads_fault s i Memory es within asks so_far = tt
reads_fault s i (Fault (Line k)) es within asks so_far =
    let here = asked_here s i (Err (Fault (Line k))) within asks in
    stops (event_at s.root) es s.lines (s.before + i + 1) i (asked_by s) within here.0 here.1 so_far
    ∙ ap (λ (n : ℕ). Err n) (sym here.2)
reads_fault s i (Fault Utf8) es within asks so_far = asked_here s i (Err (Fault Utf8)) within asks
reads_fault s i (Fault TreeText) es within asks so_far = asked_here s i (Err (Fault TreeText)) within asks
reads_fault s i (Fault (Tree t)) es within asks so_far = asked_here s i (Err (Fault (Tree t))) within asks
reads_fault s i (Fault TooLong) es within asks so_far = asked_here s i (Err (Fault TooLong)) within asks

pub reads_all : (s : LinesState) (i : ℕ) (es : List Event) → length s.lines ≤ i
    → HasRead s i es → asked_by s ≡ Ok es
reads_all s i es past so_far =
    ends (event_at s.root) es s.lines (s.before + i + 1) i (asked_by s) past so_far

-- the lines of an opened script were read
pub script_of : (bytes : List ℕ) (tree : List TreeProcess) (s : LinesState) (es : List Event)
    → IsOpenScript bytes tree s → asked_by s ≡ Ok es → IsScript bytes tree es
script_of bytes tree s es o read = (o.0, o.1, o.2, o.3, o.4, sym o.5 ∙ read)
