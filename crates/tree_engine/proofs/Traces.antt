-- The rest of a run's steps, from one on.
use Rattle.std.proofs.Common.{◌≡◌, ◌∙◌, ap, sym, ℕ, zero, suc, ◌+◌, ◌≤◌, Option, Some, None, List, [], ◌∷◌, ◌++◌, drop, take, length, option_map, refl, arith}
use Rattle.std.proofs.lemmas.List.{append-nil, append_assoc}
use Rattle.std.specs.Prelude.{slice_get}
use Rattle.protocol.specs.declared.events.JournalEntry.{JournalEntry}
use Rattle.trace_lines.specs.Trace.{entries_text, entry_text}
use Rattle.protocol.specs.declared.events.Reaction.{Reaction}
use Rattle.protocol.specs.declared.names.ProcessId.{ProcessId}
use Rattle.tree_journal.specs.Shown.{entry_part, shown_part}
use Rattle.tree_journal.specs.declared.shown.ShownStep.{ShownStep}
use Rattle.tree_engine.specs.Trees.{AddsStep, part_text}

-- the step at a place and those after it
pub dropped_at : (es : List JournalEntry) (k : ℕ) (e : JournalEntry) → slice_get es k ≡ Some e
    → drop k es ≡ e ∷ drop (k + 1) es
dropped_at [] k e is = absurd (cc)
dropped_at (f ∷ es) zero e is = let same : f ≡ e = cc in rw same refl
dropped_at (f ∷ es) (suc k) e is =
    let at : suc k + 1 ≡ suc (k + 1) = omega arith in
    rw at (dropped_at es k e is)

-- none is after the last
pub dropped_past : (es : List JournalEntry) (k : ℕ) → slice_get es k ≡ None → drop k es ≡ []
dropped_past [] zero is = refl
dropped_past [] (suc k) is = refl
dropped_past (f ∷ es) zero is = absurd (cc)
dropped_past (f ∷ es) (suc k) is = dropped_past es k is

pub dropped_all : (es : List JournalEntry) (k : ℕ) → length es ≤ k → drop k es ≡ []
dropped_all [] zero h = refl
dropped_all [] (suc k) h = refl
dropped_all (f ∷ es) zero h = absurd (omega arith)
dropped_all (f ∷ es) (suc k) h = dropped_all es k (omega arith)

-- the steps up to a place and the one there
pub taken_at : (es : List JournalEntry) (k : ℕ) (e : JournalEntry) → slice_get es k ≡ Some e
    → take (k + 1) es ≡ take k es ++ e ∷ []
taken_at [] k e is = absurd (cc)
taken_at (f ∷ es) zero e is = let same : f ≡ e = cc in rw same refl
taken_at (f ∷ es) (suc k) e is =
    let at : suc k + 1 ≡ suc (k + 1) = omega arith in
    rw at (ap (λ xs. f ∷ xs) (taken_at es k e is))

-- these are all if none is there
pub taken_past : (es : List JournalEntry) (k : ℕ) → slice_get es k ≡ None → take k es ≡ es
taken_past [] zero is = refl
taken_past [] (suc k) is = refl
taken_past (f ∷ es) zero is = absurd (cc)
taken_past (f ∷ es) (suc k) is = ap (λ xs. f ∷ xs) (taken_past es k is)

-- the text after one step more
pub step_added : (es : List JournalEntry) (k sent next : ℕ) (old new all : List ℕ)
    (o : Option JournalEntry) → slice_get es k ≡ o
    → AddsStep o old new sent (Some next) → old ++ entries_text sent (drop k es) ≡ all
    → new ++ entries_text next (drop (k + 1) es) ≡ all
step_added es k sent next old new all None is adds so = absurd adds
step_added es k sent next old new all (Some e) is adds so =
    ap (λ (xs : List ℕ). xs ++ entries_text next (drop (k + 1) es)) adds.1
    ∙ append_assoc old (entry_text sent e) (entries_text next (drop (k + 1) es))
    ∙ ap (λ n. old ++ (entry_text sent e ++ entries_text n (drop (k + 1) es))) adds.0
    ∙ ap (λ xs. old ++ entries_text sent xs) (sym (dropped_at es k e is)) ∙ so

-- the text if there is no step more
pub none_added : (es : List JournalEntry) (k sent : ℕ) (old new all : List ℕ) (o : Option JournalEntry)
    → slice_get es k ≡ o
    → AddsStep o old new sent None → old ++ entries_text sent (drop k es) ≡ all → new ≡ all
none_added es k sent old new all (Some e) is adds so = absurd adds
none_added es k sent old new all None is adds so =
    adds ∙ sym (append-nil old) ∙ ap (λ xs. old ++ entries_text sent xs) (sym (dropped_past es k is)) ∙ so

-- the text after the last step
pub all_added : (es : List JournalEntry) (k sent : ℕ) (old all : List ℕ) → length es ≤ k
    → old ++ entries_text sent (drop k es) ≡ all
    → old ≡ all
all_added es k sent old all past so =
    sym (append-nil old) ∙ ap (λ xs. old ++ entries_text sent xs) (sym (dropped_all es k past)) ∙ so

-- The step at a place, as the journal shows it.

pub adds_shown : (o : Option JournalEntry) (shown : Option ShownStep) (step : ShownStep)
    (old new : List ℕ) (sent next : ℕ)
    → shown ≡ Some step → option_map shown_part shown ≡ option_map entry_part o
    → next ≡ sent + length step.messages.now → new ≡ old ++ part_text sent (shown_part step)
    → AddsStep o old new sent (Some next)
unfolding entry_text
adds_shown None shown step old new sent next some is size text = absurd (cc)
adds_shown (Some e) shown step old new sent next some is size text =
    let same : shown_part step ≡ entry_part e = cc in (
      size ∙ ap (λ (p : ProcessId × Reaction). sent + length p.1.messages) same,
      text ∙ ap (λ (p : ProcessId × Reaction). old ++ part_text sent p) same,
    )
