-- The lines of crashes.
use Rattle.std.specs.Prelude.{ℕ, ◌+◌, ◌==◌, ◌&&◌, nat_eq, not, Bool, false, if◌then◌else◌, None, Some, List, [], ◌++◌, codes, count_by, length}
use Rattle.std.specs.List.{flat_map, list_all}
use Rattle.protocol.specs.declared.names.Case.{Case}
use Rattle.protocol.specs.Errors.{step_error_number}
use Rattle.proof_runs.specs.worlds.Refusals.{Refusal}
use Rattle.tree_engine.specs.Trees.{refused_text}
use Rattle.crash_engine.specs.declared.auditing.Leftover.{Leftover}
use Rattle.crash_engine.specs.declared.points.CrashPlace.{CrashPlace}
use Rattle.crash_engine.specs.declared.points.Point.{Point}
use Rattle.crash_engine.specs.declared.trial.CrashEnd.{CrashEnd}
use Rattle.crash_engine.specs.declared.trial.CrashEnd.TheVariants.{Damaged, Ended, Refused}
use Rattle.crash_engine.specs.declared.trials.Trial.{Trial}
use Rattle.crash_engine.specs.declared.ending.CrashStatus.{CrashStatus}
use Rattle.crash_engine.specs.declared.ending.CrashStatus.TheVariants as ending
use Rattle.trace_lines.specs.Trace.{case_word, number_word}

-- What is found.

-- there is no case
abbrev pub is_none : List Case → Bool
is_none cs = nat_eq (length cs) 0

-- nothing is left
abbrev pub is_clean : CrashEnd → Bool
is_clean (Ended l) = is_none l.in_doubt.items && is_none l.mismatches.items
is_clean _ = false

-- a case is left in doubt
abbrev pub has_doubt : CrashEnd → Bool
has_doubt (Ended l) = not (is_none l.in_doubt.items)
has_doubt _ = false

-- a mismatch is left
abbrev pub has_mismatch : CrashEnd → Bool
has_mismatch (Ended l) = not (is_none l.mismatches.items)
has_mismatch _ = false

-- nothing is left of any crash
abbrev pub are_clean : List Trial → Bool
are_clean ts = list_all (λ t. is_clean t.found) ts

-- how many crashes leave a case in doubt
unfoldable pub doubt_count : List Trial → ℕ
doubt_count ts = count_by (λ t. has_doubt t.found) ts

-- how many leave a mismatch
unfoldable pub mismatch_count : List Trial → ℕ
mismatch_count ts = count_by (λ t. has_mismatch t.found) ts

-- Lines.

-- a word and cases after it, if there are any
unfoldable pub cases_text : List ℕ → List Case → List ℕ
cases_text word cs = if is_none cs then [] else word ++ flat_map case_word cs

-- the cases in doubt, and those with a mismatch
unfoldable pub left_text : Leftover → List ℕ
left_text l = cases_text (codes " in-doubt") l.in_doubt.items
    ++ cases_text (codes " mismatch") l.mismatches.items

-- what a crash ends with
unfoldable pub found_text : CrashEnd → List ℕ
found_text (Ended l) = left_text l
found_text (Refused event e) = codes " refused" ++ number_word event ++ number_word (step_error_number e)
found_text (Damaged process place) = codes " damaged" ++ number_word process.0 ++ number_word place

-- after how many deliveries, if it is within a settle
abbrev pub delivery_text : ℕ → List ℕ
delivery_text n = if n == 0 then [] else codes " delivery" ++ number_word n

-- after the event with this number, or within it
unfoldable pub place_text : CrashPlace → List ℕ
place_text at = (codes "event" ++ number_word at.event) ++ delivery_text at.delivery

-- the crash: there this process restarts, and keeps this many bytes
unfoldable pub point_text : CrashPlace → Point → List ℕ
point_text at p = place_text at ++ (codes " restart" ++ number_word p.process.0 ++ number_word p.keep)
    ++ codes ":"

-- the line of a crash, where something is left
unfoldable pub trial_text : Trial → List ℕ
trial_text t =
    if is_clean t.found then [] else point_text t.place t.point ++ found_text t.found ++ codes "\n"

-- the line of what is left without any crash, where something is
unfoldable pub alone_text : CrashEnd → List ℕ
alone_text f = if is_clean f then [] else codes "no crash:" ++ found_text f ++ codes "\n"

-- the line of the numbers: of crashes, of those with a case in doubt, and of those with a mismatch
unfoldable pub totals_text : List Trial → List ℕ
totals_text ts =
    codes "points" ++ number_word (length ts) ++ codes " in-doubt" ++ number_word (doubt_count ts)
    ++ codes " mismatches" ++ number_word (mismatch_count ts) ++ codes "\n"

-- the line of the refused event, if one was refused
abbrev pub refusal_text : Refusal → List ℕ
refusal_text None = []
refusal_text (Some refused) = refused_text (refused.0 + 1) (step_error_number refused.1)

-- what is written of crashes, and of the script without any
abbrev pub crashes_text : CrashEnd → List Trial → Refusal → List ℕ
crashes_text alone ts refusal =
    ((alone_text alone ++ flat_map trial_text ts) ++ totals_text ts) ++ refusal_text refusal

-- how it ends
abbrev pub ending_by : CrashEnd → List Trial → Refusal → CrashStatus
ending_by alone ts None = if is_clean alone && are_clean ts then ending.Clean else ending.Finds
ending_by alone ts (Some refused) = ending.Stopped

-- the exit status
abbrev pub ending_number : CrashStatus → ℕ
ending_number ending.Clean = 0
ending_number ending.Refused = 1
ending_number ending.Stopped = 2
ending_number ending.Finds = 3
