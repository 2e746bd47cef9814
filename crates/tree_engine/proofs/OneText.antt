-- One input, one text.
use Rattle.std.proofs.Common.{◌≡◌, ◌∙◌, ◌⊎◌, inl, inr, false, ℕ, List, ◌++◌, refl, sym, ap, subst}
use Rattle.protocol.specs.declared.events.JournalEntry.{JournalEntry}
use Rattle.protocol.specs.declared.events.Event.{Event}
use Rattle.protocol.specs.declared.trees.TreeProcess.{TreeProcess}
use Rattle.trace_lines.specs.Trace.{entries_text}
use Rattle.proof_runs.specs.worlds.Refusals.{LeadsTo, Refusal}
use Rattle.tree_state.specs.Runs.{IsOpenedTree}
use Rattle.tree_state.specs.Worlds.{WorldState}
use Rattle.proof_runs.proofs.worlds.OneText.{one_text}
use Rattle.reopen_script.specs.Laws.{BeginsWithNone}
use Rattle.reopen_script.proofs.Alike.{faults_alike, none_begin}
use Rattle.report_io.specs.declared.status.Status.{Status}
use Rattle.report_io.specs.declared.status.Status.TheVariants.{Ended, Refused, Stopped}
use Rattle.tree_engine.specs.declared.tree.TreeOutput.{TreeOutput}
use Rattle.tree_engine.specs.declared.tree.TreeOutput.TheVariants.{Counts, Logs, Picture, Trace}
use Rattle.tree_engine.specs.OneText.{IsTrace, InputsHaveOneText}
use Rattle.tree_engine.specs.Reports.{IsTreeReport, ReopensScript}
use Rattle.tree_engine.specs.Trees.{RefusesScript, RunsScript, Tells, counts_text, ending, fault_text, last_line, opened_text, trace_of}
use Rattle.tree_engine.proofs.OneScript.{no_fault, one_fault, one_script}
use Rattle.tree_engine.proofs.TreeReports.{script_tree}

-- a trace is that of its tree and its steps
one_trace : (v w : WorldState) → w.tree ≡ v.tree → w.entries ≡ v.entries → trace_of w ≡ trace_of v
one_trace v w tree entries =
    ap (λ (es : List TreeProcess). opened_text es ++ entries_text 0 w.entries) tree
    ∙ ap (λ (es : List JournalEntry). opened_text v.tree ++ entries_text 0 es) entries

one_count : (v w : WorldState) → w.tree ≡ v.tree → w.entries ≡ v.entries → counts_text w ≡ counts_text v
one_count v w tree entries =
    ap (λ (es : List TreeProcess). counts_text (record w { tree = es })) tree
    ∙ ap (λ (es : List JournalEntry). counts_text (record w { tree = v.tree; entries = es })) entries

-- what is told of two states that show the same is the same
told : (output : TreeOutput) (es fs : List Event) (v w : WorldState) (r s : Refusal) (text second : List ℕ)
    → IsTrace output
    → w.tree ≡ v.tree → w.entries ≡ v.entries → s ≡ r → Tells false output es v r text
    → Tells false output fs w s second
    → second ≡ text
told Trace es fs v w r s text second is tree entries same h k =
    k ∙ ap (λ (t : List ℕ). t ++ last_line s) (one_trace v w tree entries)
    ∙ ap (λ (x : Refusal). trace_of v ++ last_line x) same ∙ sym h
told Counts es fs v w r s text second is tree entries same h k =
    k ∙ ap (λ (t : List ℕ). (t ++ last_line s) ++ counts_text w) (one_trace v w tree entries)
    ∙ ap (λ (x : Refusal). (trace_of v ++ last_line x) ++ counts_text w) same
    ∙ ap (λ (t : List ℕ). (trace_of v ++ last_line r) ++ t) (one_count v w tree entries) ∙ sym h
told Logs es fs v w r s text second is tree entries same h k = absurd is
told Picture es fs v w r s text second is tree entries same h k = absurd is

runs_alike : (output : TreeOutput) (status other : Status) (input text second : List ℕ) → IsTrace output
    → RunsScript output status input text → RunsScript output other input second
    → (other ≡ status) × (second ≡ text)
runs_alike output status other input text second is h k =
    let one = one_script input h.tree k.tree h.events k.events h.script k.script in
    let leads : LeadsTo k.runs.start h.events k.runs.refusal k.runs.end =
    subst (λ (es : List Event). LeadsTo k.runs.start es k.runs.refusal k.runs.end) one.1 k.runs.leads in
    let opens : IsOpenedTree k.runs.start h.tree =
    subst (λ (es : List TreeProcess). IsOpenedTree k.runs.start es) one.0 k.runs.opens in
    let same = one_text h.tree h.runs.start k.runs.start h.runs.end k.runs.end h.events h.runs.refusal
    k.runs.refusal (script_tree input h.tree h.events h.script) h.runs.opens opens h.runs.leads
    leads h.runs.itself
    k.runs.itself in (
      k.runs.status_is ∙ ap ending same.0 ∙ sym h.runs.status_is,
      told output h.events k.events h.runs.end k.runs.end h.runs.refusal k.runs.refusal text second is
          (k.runs.tree_is ∙ one.0 ∙ sym h.runs.tree_is) same.1.entries same.0 h.runs.tells k.runs.tells,
    )

refused_alike : (input text second : List ℕ) → RefusesScript input text → RefusesScript input second
    → second ≡ text
refused_alike input text second h k =
    k.line ∙ ap fault_text (one_fault input h.fault k.fault h.there k.there) ∙ sym h.line

not_both : (output : TreeOutput) (status : Status) (input text second : List ℕ)
    → RunsScript output status input text
    → RefusesScript input second → ⊥
not_both output status input text second h k = no_fault input h.tree h.events k.fault h.script k.there

-- what is written of an input without logs
abbrev IsPlain : TreeOutput → Status → List ℕ → List ℕ → Type 0
IsPlain output Ended input text = RunsScript output Ended input text
IsPlain output Stopped input text = RunsScript output Stopped input text
IsPlain output Refused input text = RefusesScript input text

module _ (output : TreeOutput) (input text : List ℕ) (none : BeginsWithNone input) where
  runs_plain : (status : Status) → RunsScript output status input text
      ⊎ ReopensScript output status input text
      → RunsScript output status input text
  runs_plain status (inl runs) = runs
  runs_plain status (inr r) = absurd (none_begin input r.tree r.logs r.events none r.script)

  plain : (status : Status) → IsTreeReport output status input text → IsPlain output status input text
  plain Ended r = runs_plain Ended r
  plain Stopped r = runs_plain Stopped r
  plain Refused (inl r) =
      record { fault = r.fault; there = faults_alike.there input r.fault none r.there; line = r.line }
  plain Refused (inr d) = absurd (none_begin input d.there.tree d.there.logs d.there.events
      none d.there.script)

one_plain : (output : TreeOutput) (status other : Status) (input text second : List ℕ) → IsTrace output
    → IsPlain output status input text → IsPlain output other input second → (other ≡ status)
    × (second ≡ text)
one_plain output Ended Ended input text second is h k = runs_alike output Ended Ended input text second is h k
one_plain output Ended Stopped input text second is h k =
    runs_alike output Ended Stopped input text second is h k
one_plain output Stopped Ended input text second is h k =
    runs_alike output Stopped Ended input text second is h k
one_plain output Stopped Stopped input text second is h k =
    runs_alike output Stopped Stopped input text second is h k
one_plain output Refused Refused input text second is h k = (refl, refused_alike input text second h k)
one_plain output Ended Refused input text second is h k = absurd (not_both output Ended input text second h k)
one_plain output Stopped Refused input text second is h k =
    absurd (not_both output Stopped input text second h k)
one_plain output Refused Ended input text second is h k = absurd (not_both output Ended input second text k h)
one_plain output Refused Stopped input text second is h k =
    absurd (not_both output Stopped input second text k h)

pub one_input : InputsHaveOneText
one_input output status other input text second is none h k =
    one_plain output status other input text second is (plain output input text none status h)
    (plain output input second none other k)
