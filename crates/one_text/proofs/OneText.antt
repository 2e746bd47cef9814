-- One script, one text of logs.
use Rattle.std.proofs.Common.{◌≡◌, ◌∙◌, ◌⊎◌, inl, inr, false, ℕ, Some, None, List, ◌++◌, refl, sym, ap, subst}
use Rattle.protocol.specs.declared.events.Event.{Event}
use Rattle.protocol.specs.declared.trees.TreeProcess.{TreeProcess}
use Rattle.protocol.specs.Trees.{IsTree}
use Rattle.log_script.specs.declared.line.ProcessLog.{ProcessLog}
use Rattle.log_script.specs.Trees.{logs_text}
use Rattle.proof_runs.specs.worlds.Refusals.{LeadsTo, Refusal}
use Rattle.tree_state.specs.Runs.{IsOpenedTree, EventsLead}
use Rattle.tree_state.specs.Worlds.{WorldState}
use Rattle.proof_runs.proofs.worlds.AlikeTrees.{leads_alike, opened_alike}
use Rattle.proof_left_logs.proofs.Entries.{none_failed}
use Rattle.proof_left_logs.proofs.Unfailed.{all_up}
use Rattle.reopen_script.specs.Laws.{BeginsWithNone}
use Rattle.reopen_script.proofs.Alike.{none_begin}
use Rattle.report_io.specs.declared.status.Status.{Status}
use Rattle.report_io.specs.declared.status.Status.TheVariants.{Ended, Refused, Stopped}
use Rattle.tree_world.specs.LogsLeft.{AreLogs}
use Rattle.tree_engine.specs.declared.tree.TreeOutput.TheVariants.{Logs, Trace}
use Rattle.tree_engine.specs.Logs.{LeavesLogs}
use Rattle.tree_engine.specs.Reports.{IsTreeReport, ReopensScript}
use Rattle.tree_engine.specs.Trees.{RunsScript, Tells, ending, last_line, trace_by}
use Rattle.tree_engine.proofs.OneScript.{one_script}
use Rattle.tree_engine.proofs.OneText
use Rattle.tree_engine.proofs.TreeReports.{script_tree}
use Rattle.one_text.specs.OneText.{LogsHaveOneText}
use Rattle.one_text.proofs.Processes.{same_logs}

-- Runs to their end.

-- the logs that the same events leave are the same text
one_logs : (tree : List TreeProcess) (s t v w : WorldState) (events : List Event) (text second : List ℕ)
    → IsTree tree
    → IsOpenedTree s tree → IsOpenedTree t tree → EventsLead s events v → EventsLead t events w
    → LeavesLogs v text → LeavesLogs w second
    → second ≡ text
one_logs tree s t v w events text second is_tree a b h k one two =
    let alike = leads_alike s v t w events (opened_alike tree s t is_tree a b) h k in
    let none = none_failed tree s v events alike.moves a h alike.here.shown in
    let up = all_up v.tree alike.moves alike.world alike.here.follows.is_run none in
    let are : AreLogs w v.tree two.logs = subst (λ (es : List TreeProcess). AreLogs w es two.logs)
    alike.tree two.are in
    let logs = same_logs v w alike up v.tree one.logs two.logs one.bytes two.bytes one.are are in
    two.is ∙ ap (λ (es : List TreeProcess). logs_text es two.logs) alike.tree
    ∙ ap (λ (ls : List ProcessLog). logs_text v.tree ls) logs ∙ sym one.is

to_the_end : (r : Refusal) → Ended ≡ ending r → r ≡ None
to_the_end None e = refl
to_the_end (Some refused) e = absurd (cc)

ended : (input text second : List ℕ) → RunsScript Logs Ended input text → RunsScript Logs Ended input second
    → second ≡ text
ended input text second h k =
    let one = one_script input h.tree k.tree h.events k.events h.script k.script in
    let here = to_the_end h.runs.refusal h.runs.status_is in
    let there = to_the_end k.runs.refusal k.runs.status_is in
    let leads : EventsLead h.runs.start h.events h.runs.end =
    subst (λ (r : Refusal). LeadsTo h.runs.start h.events r h.runs.end) here h.runs.leads in
    let leads' : EventsLead k.runs.start h.events k.runs.end =
    subst (λ (es : List Event). LeadsTo k.runs.start es None k.runs.end) one.1
    (subst (λ (r : Refusal). LeadsTo k.runs.start k.events r k.runs.end) there k.runs.leads) in
    let opens : IsOpenedTree k.runs.start h.tree =
    subst (λ (es : List TreeProcess). IsOpenedTree k.runs.start es) one.0 k.runs.opens in
    one_logs h.tree h.runs.start k.runs.start h.runs.end k.runs.end h.events text second
    (script_tree input h.tree h.events h.script) h.runs.opens opens leads leads'
    (subst (λ (r : Refusal). Tells false Logs h.events h.runs.end r text) here h.runs.tells)
    (subst (λ (r : Refusal). Tells false Logs k.events k.runs.end r second) there k.runs.tells)

-- Other runs, by their traces.

-- the same run, told by its trace
as_trace : (status : Status) (input text : List ℕ) (h : RunsScript Logs status input text)
    → RunsScript Trace status input (trace_by false h.runs.end ++ last_line h.runs.refusal)
as_trace status input text h = record {
  tree = h.tree;
  events = h.events;
  script = h.script;
  runs = record {
    refusal = h.runs.refusal;
    start = h.runs.start;
    end = h.runs.end;
    opens = h.runs.opens;
    leads = h.runs.leads;
    itself = h.runs.itself;
    moves = h.runs.moves;
    world = h.runs.world;
    tree_is = h.runs.tree_is;
    follows = h.runs.follows;
    headline = h.runs.headline;
    mismatches_are_reported = h.runs.mismatches_are_reported;
    refuses = h.runs.refuses;
    status_is = h.runs.status_is;
    tells = refl;
  };
}

-- a run that was refused an event tells its trace
told : (es : List Event) (w : WorldState) (r : Refusal) (text : List ℕ) → Stopped ≡ ending r
    → Tells false Logs es w r text
    → text ≡ trace_by false w ++ last_line r
told es w None text stops h = absurd (cc)
told es w (Some refused) text stops h = h

stopped : (input text second : List ℕ) → BeginsWithNone input → RunsScript Logs Stopped input text
    → RunsScript Logs Stopped input second → second ≡ text
stopped input text second none h k =
    told k.events k.runs.end k.runs.refusal second k.runs.status_is k.runs.tells
    ∙ (OneText.one_input Trace Stopped Stopped input _ _ tt none (inl (as_trace Stopped input text h))
    (inl (as_trace Stopped input second k))).1
    ∙ sym (told h.events h.runs.end h.runs.refusal text h.runs.status_is h.runs.tells)

-- Inputs.

module _ (input : List ℕ) (none : BeginsWithNone input) where
  -- an input without logs runs as one
  runs : (status : Status) (text : List ℕ) → RunsScript Logs status input text
      ⊎ ReopensScript Logs status input text
      → RunsScript Logs status input text
  runs status text (inl h) = h
  runs status text (inr r) = absurd (none_begin input r.tree r.logs r.events none r.script)

  -- what is written in place of the logs, if the trace is asked for
  abbrev trace_text : (status : Status) (text : List ℕ) → IsTreeReport Logs status input text → List ℕ
  trace_text Ended text h =
      trace_by false (runs Ended text h).runs.end ++ last_line (runs Ended text h).runs.refusal
  trace_text Stopped text h =
      trace_by false (runs Stopped text h).runs.end ++ last_line (runs Stopped text h).runs.refusal
  trace_text Refused text h = text

  trace_report : (status : Status) (text : List ℕ) (h : IsTreeReport Logs status input text)
      → IsTreeReport Trace status input (trace_text status text h)
  trace_report Ended text h = inl (as_trace Ended input text (runs Ended text h))
  trace_report Stopped text h = inl (as_trace Stopped input text (runs Stopped text h))
  trace_report Refused text h = h

  -- the status is one
  one_status : (status other : Status) (text second : List ℕ) → IsTreeReport Logs status input text
      → IsTreeReport Logs other input second → other ≡ status
  one_status status other text second h k =
      (OneText.one_input Trace status other input _ _ tt none (trace_report status text h)
      (trace_report other second k)).0

  -- reports of one status are one text
  one_of : (status : Status) (text second : List ℕ) → IsTreeReport Logs status input text
      → IsTreeReport Logs status input second → second ≡ text
  one_of Ended text second h k = ended input text second (runs Ended text h) (runs Ended second k)
  one_of Stopped text second h k = stopped input text second none (runs Stopped text h)
      (runs Stopped second k)
  one_of Refused text second h k = (OneText.one_input Trace Refused Refused input text second tt none h k).1

  one : (status other : Status) (text second : List ℕ) → IsTreeReport Logs status input text
      → IsTreeReport Logs other input second → (other ≡ status) × (second ≡ text)
  one status other text second h k =
      let same = one_status status other text second h k in
      (same, one_of status text second h (subst (λ (s : Status). IsTreeReport Logs s input second) same k))

pub one_input : LogsHaveOneText
one_input status other input text second none h k = one input none status other text second h k
