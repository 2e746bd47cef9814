-- What is written of a tree script.
use Rattle.std.proofs.Common.{◌≡◌, ◌∙◌, ◌⊎◌, ◌+◌, ◌<◌, ◌≤◌, ◌^◌, ap, sym, subst, inl, inr, refl, ℕ, Bool, is_some, Option, Some, None, List, [], ◌++◌, length, Result, Ok, Err, IfOk, arith}
use Rattle.protocol.specs.Trees.{IsTree}
use Rattle.picture_run.specs.Lines.{refused_in}
use Rattle.picture_run.specs.Pictures.{IsPicture}
use Rattle.protocol.specs.declared.trees.TreeProcess.{TreeProcess}
use Rattle.protocol.specs.declared.events.JournalEntry.{JournalEntry}
use Rattle.protocol.specs.declared.events.Event.{Event}
use Rattle.proof_runs.specs.worlds.Refusals.{Refusal}
use Rattle.tree_state.specs.Worlds.{WorldState}
use Rattle.tree_script.specs.declared.script.ScriptError.{ScriptError}
use Rattle.tree_script.specs.declared.script.ScriptError.TheVariants.{Fault}
use Rattle.tree_script.specs.declared.script.ScriptFault.{ScriptFault}
use Rattle.tree_script.specs.declared.script.ScriptFault.TheVariants.{Utf8, TreeText, Tree, TooLong, Line}
use Rattle.tree_script.specs.Inputs.{AsksFirst, IsLineError, IsScript, LinesState, asked_by}
use Rattle.log_script.specs.declared.line.ProcessLog.{ProcessLog}
use Rattle.log_script.specs.Faults.{damage_text}
use Rattle.protocol.specs.declared.names.ProcessId.{ProcessId}
use Rattle.picture_layout.specs.Long.{IsLong}
use Rattle.tree_script.specs.Events.{event_at}
use Rattle.tree_script.specs.Script.{events_at, with_front}
use Rattle.tree_script.proofs.Reading.{HasRead}
use Rattle.reopen_script.specs.Inputs.{IsOpenReopen, IsReopenError, IsReopenFault, IsReopenScript}
use Rattle.reopen_script.proofs.Alike.{script_there}
use Rattle.reopen_script.proofs.Reading.{asks_all, script_of}
use Rattle.tree_world.specs.Worlds.{state}
use Rattle.report_io.specs.declared.streams.Failure.{Failure}
use Rattle.report_io.specs.declared.streams.Failure.TheVariants as failure
use Rattle.report_io.specs.declared.status.Status.{Status}
use Rattle.report_io.specs.declared.status.Status.TheVariants.{Refused}
use Rattle.tree_engine.specs.declared.tree.InputFault.{InputFault}
use Rattle.tree_engine.specs.declared.tree.InputFault.TheVariants as inputs
use Rattle.tree_engine.specs.declared.tree.TreeOutput.{TreeOutput}
use Rattle.tree_engine.specs.declared.tree.TreeOutput.TheVariants.{Picture}
use Rattle.tree_engine.specs.declared.run.Run.{Run}
use Rattle.tree_engine.specs.Failures.{BreaksOff, CannotMake, CannotReport, DrawsTooLong, IsBeyond, ScriptBreaksOff}
use Rattle.tree_engine.specs.Reopened.{PlaysBy, StartsBy}
use Rattle.tree_engine.specs.Reports.{IsDamaged, IsFirstFault, IsInputFault, IsTreeReport, ReopensScript}
use Rattle.tree_engine.specs.Runs.{BeginsBy, ComesTo, Draws, HasCome, HasPlayed, IsDamageBy, PlaysScript}
use Rattle.tree_engine.specs.Trees.{RunsOver, RunsScript, Tells, ending, fault_text}
use Rattle.tree_engine.proofs.Going.{breaks_off, ran}
use Rattle.tree_engine.proofs.Replaying.{replayed}

-- A run that has just begun.

pub begun_by : (tree : List TreeProcess) (logs : Option (List ProcessLog)) (first : Run)
    → BeginsBy tree logs first
    → HasCome (state first.world) [] first
begun_by tree None first b = b.begins
begun_by tree (Some logs) first b = b.begins

pub starts_by : (tree : List TreeProcess) (logs : Option (List ProcessLog)) (first : Run)
    → BeginsBy tree logs first
    → StartsBy tree logs (state first.world)
starts_by tree None first b = b.opened
starts_by tree (Some logs) first b = b.reopened

over_by : (tree : List TreeProcess) (logs : Option (List ProcessLog)) (first : Run) → BeginsBy tree logs first
    → first.world.reopened ≡ is_some logs
over_by tree None first b = b.first
over_by tree (Some logs) first b = b.over

unfoldable pub ran_by : (tree : List TreeProcess) (logs : Option (List ProcessLog)) (first : Run)
    (now : WorldState)
    (events : List Event) (refusal : Refusal) (n : ℕ) → BeginsBy tree logs first
    → ComesTo (state first.world) events refusal n now → PlaysBy tree logs events refusal now
ran_by tree None first now events refusal n b h =
    ran tree (state first.world) now events refusal n b.is_tree b.opened h
ran_by tree (Some logs) first now events refusal n b h =
    replayed tree logs b.is_tree (state first.world) now b.reopened events refusal n h

-- what the lines of a script lead an opened tree to is a run of the script
pub plays_script : (input : List ℕ) (tree : List TreeProcess) (logs : Option (List ProcessLog))
    (lines : LinesState)
    (first run : Run) → IsOpenReopen input tree logs lines → BeginsBy tree logs first
    → HasPlayed first run lines
    → PlaysScript input run
plays_script input tree logs lines first run opened begins made = record {
  tree = tree;
  logs = logs;
  events = made.events;
  script = script_of input tree logs lines made.events opened made.asked;
  plays = ran_by tree logs first (state run.world) made.events run.refusal run.made begins made.come;
  numbered = made.come.numbered;
  over = made.over ∙ over_by tree logs first begins;
}

-- a log that a run does not open over is damaged in the script
pub damage_there : (input : List ℕ) (tree : List TreeProcess) (logs : Option (List ProcessLog))
    (events : List Event)
    (process : ProcessId) (place : ℕ) → IsReopenScript input tree logs events
    → IsDamageBy tree logs process place → IsDamaged input process place
damage_there input tree None events process place script damage = absurd damage
damage_there input tree (Some logs) events process place script damage =
    record { tree = tree; logs = logs; events = events; script = script; damage = damage }

-- Faults.

-- what reading an input answers is what is wrong with it
pub fault_there : (input : List ℕ) (error : ScriptError) (fault : ScriptFault) → error ≡ Fault fault
    → IsReopenError input error → IsReopenFault input fault
fault_there input error fault is there = subst (IsReopenError input) is there

-- the first line that is not an event is what is wrong with a script as far as its lines
pub line_fault : (input : List ℕ) (tree : List TreeProcess) (logs : Option (List ProcessLog))
    (lines : LinesState)
    (fault : ScriptFault) → IsOpenReopen input tree logs lines → IsLineError (Fault fault) (asked_by lines)
    → IsReopenFault input fault
line_fault input tree logs lines (Line n) opened wrong = record {
  tree = tree;
  rule = opened.rule;
  lines = opened.lines;
  has = opened.has;
  wrong = inr (logs, opened.logs_are, ap asked_by (sym opened.behind) ∙ wrong);
}
line_fault input tree logs lines Utf8 opened wrong = absurd wrong
line_fault input tree logs lines TreeText opened wrong = absurd wrong
line_fault input tree logs lines (Tree cause) opened wrong = absurd wrong
line_fault input tree logs lines TooLong opened wrong = absurd wrong

-- what is first wrong with a script one of whose logs is damaged is what is wrong with it
pub first_there : (input : List ℕ) (tree : List TreeProcess) (logs : Option (List ProcessLog))
    (lines : LinesState)
    (process : ProcessId) (place : ℕ) (fault : InputFault) → IsOpenReopen input tree logs lines
    → IsDamageBy tree logs process place → IsFirstFault process place (asked_by lines) fault
    → IsInputFault input fault
first_there input tree logs lines process place (inputs.Script fault) opened damage first =
    line_fault input tree logs lines fault opened first
first_there input tree logs lines process place (inputs.Damaged p at) opened damage first =
    asked_so (asked_by lines) refl first
  where
    asked_so : (asked : Result (List Event) ℕ) → asked_by lines ≡ asked
        → IsFirstFault process place asked (inputs.Damaged p at) → IsDamaged input p at
    asked_so (Err n) is h = absurd h
    asked_so (Ok events) is (same, there) =
        subst (λ (q : ProcessId). IsDamaged input q at) (sym same)
        (subst (λ (k : ℕ). IsDamaged input process k) (sym there)
        (damage_there input tree logs events process place
        (script_of input tree logs lines events opened is) damage))

-- the lines of an opened script all ask for events, so that its damaged log is what is first wrong
pub log_first : (process : ProcessId) (place : ℕ) (asked : Result (List Event) ℕ) (events : List Event)
    → asked ≡ Ok events → IsFirstFault process place asked (inputs.Damaged process place)
log_first process place asked events is =
    subst (λ (r : Result (List Event) ℕ). IsFirstFault process place r (inputs.Damaged process place))
    (sym is)
    (refl, refl)

-- Reports.

-- the line of a fault is the report of an input with which that is wrong
pub fault_reported : (output : TreeOutput) (input text : List ℕ) (fault : ScriptFault)
    → IsReopenFault input fault
    → text ≡ fault_text fault → IsTreeReport output Refused input text
fault_reported output input text fault there line = inl (record { fault = fault; there = there; line = line })

-- the line of a damaged log is the report of an input that begins its events with it
pub damage_reported : (output : TreeOutput) (input text : List ℕ) (process : ProcessId) (place : ℕ)
    → IsDamaged input process place → text ≡ damage_text process place
    → IsTreeReport output Refused input text
damage_reported output input text process place there line =
    inr (record { process = process; place = place; there = there; line = line })

ends_so : (output : TreeOutput) (refusal : Refusal) (status : Status) (input text : List ℕ)
    → status ≡ ending refusal
    → RunsScript output status input text ⊎ ReopensScript output status input text
    → IsTreeReport output status input text
ends_so output None status input text is runs = rw is (rw is at runs)
ends_so output (Some refused) status input text is runs = rw is (rw is at runs)

-- what is told of a script's run is the report of the script
pub run_reported : {A : Type 0} (text_of : A × Status → List ℕ) (output : TreeOutput)
    (input : List ℕ) (tree : List TreeProcess) (logs : Option (List ProcessLog))
    (events : List Event) (refusal : Refusal) (end : WorldState) (over : Bool) (r : A × Status)
    → IsReopenScript input tree logs events → PlaysBy tree logs events refusal end → over ≡ is_some logs
    → Tells over output events end refusal (text_of r) → r.1 ≡ ending refusal
    → IsTreeReport output r.1 input (text_of r)
run_reported text_of output input tree None events refusal end over r script plays is text status =
    let runs : RunsOver output tree events r.1 (text_of r) = record {
      refusal = refusal;
      start = plays.start;
      end = end;
      opens = plays.opens;
      leads = plays.leads;
      itself = plays.itself;
      moves = plays.run.moves;
      world = plays.run.world;
      tree_is = plays.run.tree_is;
      follows = plays.run.follows;
      headline = plays.run.headline;
      mismatches_are_reported = plays.run.mismatches_are_reported;
      refuses = plays.run.refuses;
      status_is = status;
      tells = rw is at text;
    } in
    ends_so output refusal r.1 input (text_of r) status
    (inl (record {
      tree = tree;
      events = events;
      script = script_there input tree events script;
      runs = runs;
    }))
run_reported text_of output input tree (Some logs) events refusal end over r script plays is text status =
    ends_so output refusal r.1 input (text_of r) status
    (inr (record {
      tree = tree;
      logs = logs;
      events = events;
      script = script;
      runs = record {
        refusal = refusal;
        end = end;
        plays = plays;
        status_is = status;
        tells = rw is at text;
      };
    }))

-- likewise, where it was told at all
pub reported : {A E : Type 0} (text_of : A × Status → List ℕ) (output : TreeOutput)
    (input : List ℕ) (tree : List TreeProcess) (logs : Option (List ProcessLog))
    (events : List Event) (refusal : Refusal) (end : WorldState) (over : Bool) (made : Result (A × Status) E)
    → IsReopenScript input tree logs events → PlaysBy tree logs events refusal end → over ≡ is_some logs
    → IfOk made (λ r. (given : List Event) → Tells over output given end refusal (text_of r))
    → IfOk made (λ r. r.1 ≡ ending refusal)
    → IfOk made (λ r. IsTreeReport output r.1 input (text_of r))
reported text_of output input tree logs events refusal end over (Err e) script plays is text status = text
reported text_of output input tree logs events refusal end over (Ok r) script plays is text status =
    run_reported text_of output input tree logs events refusal end over r script plays is (text events) status

-- the picture of a script's run is the report of the script
pub drawn_reported : {E : Type 0} {A : Type 0} (text_of : A × Status → List ℕ) (input : List ℕ)
    (tree : List TreeProcess) (logs : Option (List ProcessLog)) (events : List Event) (first : Run)
    (made : Result (A × Status) E)
    → IsReopenScript input tree logs events → BeginsBy tree logs first
    → IfOk made (λ r. Draws (state first.world) events r.1 (text_of r))
    → IfOk made (λ r. IsTreeReport Picture r.1 input (text_of r))
drawn_reported text_of input tree logs events first (Err e) script begins draws = draws
drawn_reported text_of input tree logs events first (Ok r) script begins draws =
    run_reported text_of Picture input tree logs events draws.refusal draws.end (is_some logs) r script
    (ran_by tree logs first draws.end events draws.refusal draws.count begins draws.come) refl draws.picture
    draws.status_is

-- the tree of a script passed its check
pub script_tree : (input : List ℕ) (tree : List TreeProcess) (events : List Event)
    → IsScript input tree events
    → IsTree tree
script_tree input tree events (fronts, behind, text, is, few, asks) = is

-- a run of a tree that has just opened, which was given these events
pub draws_run : {A E : Type 0} (text_of : A × Status → List ℕ) (events : List Event)
    (first run : Run) (made : Result (A × Status) E)
    → HasCome (state first.world) events run
    → IfOk made (λ r. r.1 ≡ ending run.refusal)
    → IfOk made (λ r. IsPicture (state run.world).tree (length events) (state run.world).entries
    (refused_in events run.refusal) (text_of r))
    → IfOk made (λ r. Draws (state first.world) events r.1 (text_of r))
draws_run text_of events first run (Err e) come is drawn = is
draws_run text_of events first run (Ok r) come is drawn = record {
  refusal = run.refusal;
  count = run.made;
  end = state run.world;
  come = come;
  status_is = is;
  picture = drawn;
}

-- no line was read yet
with_none : (r : Result (List Event) ℕ) → with_front [] r ≡ r
with_none (Ok more) = refl
with_none (Err n) = refl

pub reads_start : (s : LinesState) → HasRead s 0 []
reads_start s =
    let first : s.before + 0 + 1 ≡ s.before + 1 = omega arith in
    rw first (with_none (events_at (event_at s.root) (s.before + 1) s.lines))

-- Why nothing is written.

-- a script's first lines lead the tree, opened, to an event that is not made
pub script_breaks_off : (input : List ℕ) (tree : List TreeProcess) (logs : Option (List ProcessLog))
    (lines : LinesState) (first : Run) (why : Failure)
    → IsOpenReopen input tree logs lines → BeginsBy tree logs first
    → ((count : ℕ) × (events : List Event) × AsksFirst lines count events
    × BreaksOff (state first.world) events why)
    → ScriptBreaksOff input why
script_breaks_off input tree logs lines first why script begins (count, events, asks, breaks) = record {
  tree = tree;
  logs = logs;
  lines = lines;
  script = script;
  count = count;
  events = events;
  asks = asks;
  start = state first.world;
  opens = starts_by tree logs first begins;
  breaks = breaks;
}

-- likewise, where memory may be refused
pub lines_break : (input : List ℕ) (tree : List TreeProcess) (logs : Option (List ProcessLog))
    (lines : LinesState)
    (first : Run) (why : Failure) → IsOpenReopen input tree logs lines → BeginsBy tree logs first
    → (why ≡ failure.Memory) ⊎ ((count : ℕ) × (events : List Event) × AsksFirst lines count events
    × BreaksOff (state first.world) events why)
    → (why ≡ failure.Memory) ⊎ ScriptBreaksOff input why
lines_break input tree logs lines first why script begins (inl memory) = inl memory
lines_break input tree logs lines first why script begins (inr breaks) =
    inr (script_breaks_off input tree logs lines first why script begins breaks)

-- why a script's run is not drawn is why there is no report of it
pub not_drawn : (input : List ℕ) (tree : List TreeProcess) (logs : Option (List ProcessLog))
    (events : List Event)
    (first : Run) (why : Failure) → IsReopenScript input tree logs events → BeginsBy tree logs first
    → (why ≡ failure.Memory) ⊎ (BreaksOff (state first.world) events why
    ⊎ ((why ≡ failure.Exhausted) × DrawsTooLong (state first.world) events))
    → (why ≡ failure.Memory) ⊎ CannotReport Picture input why
not_drawn input tree logs events first why script begins (inl memory) = inl memory
not_drawn input tree logs events first why script begins (inr (inl breaks)) =
    let all = asks_all input tree logs events script in
    inr (inl (script_breaks_off input tree logs all.lines first why all.opened begins
    (length all.lines.lines, events, all.asks, breaks)))
not_drawn input tree logs events first why script begins (inr (inr (exhausted, long))) =
    inr (inr (
      exhausted,
      record {
        tree = tree;
        logs = logs;
        events = events;
        script = script;
        beyond = record {
          refusal = long.refusal;
          end = long.end;
          plays = ran_by tree logs first long.end events long.refusal long.count begins long.come;
          beyond = long.long;
        };
      },
    ))

-- why a script's run is not told is why there is no report of it
pub not_told : (output : TreeOutput) (input : List ℕ) (tree : List TreeProcess)
    (logs : Option (List ProcessLog))
    (events : List Event) (refusal : Refusal) (end : WorldState) (why : Failure)
    → IsReopenScript input tree logs events → PlaysBy tree logs events refusal end
    → (why ≡ failure.Memory) ⊎ ((why ≡ failure.Exhausted)
    × ((given : List Event) → IsBeyond output given end))
    → (why ≡ failure.Memory) ⊎ CannotReport output input why
not_told output input tree logs events refusal end why script plays (inl memory) = inl memory
not_told output input tree logs events refusal end why script plays (inr (exhausted, beyond)) =
    inr (inr (
      exhausted,
      record {
        tree = tree;
        logs = logs;
        events = events;
        script = script;
        beyond = record { refusal = refusal; end = end; plays = plays; beyond = beyond events };
      },
    ))

-- a run that is not drawn, for one of its events is not made, or for its picture would be too long
pub run_not_made : (events : List Event) (first : Run) (why : Failure)
    → HasCome (state first.world) [] first → length events < 2 ^ 64
    → (why ≡ failure.Memory) ⊎ ((start : WorldState) (given : List Event) → HasCome start given first
    → CannotMake start (given ++ events) why)
    → (why ≡ failure.Memory) ⊎ (BreaksOff (state first.world) events why
    ⊎ ((why ≡ failure.Exhausted) × DrawsTooLong (state first.world) events))
run_not_made events first why begins few (inl memory) = inl memory
run_not_made events first why begins few (inr cannot) =
    inr (inl (breaks_off (state first.world) events why few (cannot (state first.world) [] begins)))

long_on : (tree : List TreeProcess) (few more : ℕ) (es : List JournalEntry) → few ≤ more → IsLong tree few es
    → IsLong tree more es
long_on tree few more es fewer (inl many) = inl many
long_on tree few more es fewer (inr many) = inr (omega (arith, fewer, many))

pub run_not_drawn : (events : List Event) (first run : Run) (turns : ℕ) (why : Failure)
    → HasCome (state first.world) events run → turns ≤ length events
    → (why ≡ failure.Memory)
    ⊎ ((why ≡ failure.Exhausted) × IsLong (state run.world).tree turns (state run.world).entries)
    → (why ≡ failure.Memory) ⊎ (BreaksOff (state first.world) events why
    ⊎ ((why ≡ failure.Exhausted) × DrawsTooLong (state first.world) events))
run_not_drawn events first run turns why come few (inl memory) = inl memory
run_not_drawn events first run turns why come few (inr (exhausted, long)) =
    inr (inr (
      exhausted,
      record {
        refusal = run.refusal;
        count = run.made;
        end = state run.world;
        come = come;
        long = long_on (state run.world).tree turns (length events) (state run.world).entries few long;
      },
    ))
