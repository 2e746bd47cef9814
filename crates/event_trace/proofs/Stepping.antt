-- The messages that are sent after steps, one after another.
use Rattle.std.proofs.Common.{◌≡◌, ◌∙◌, ap, sym, ℕ, ◌+◌, ◌≤◌, Option, Some, None, List, drop, length}
use Rattle.std.specs.Prelude.{slice_get}
use Rattle.protocol.specs.declared.events.JournalEntry.{JournalEntry}
use Rattle.tree_engine.specs.Trees.{AddsStep}
use Rattle.tree_engine.proofs.Traces.{dropped_all, dropped_at, dropped_past}
use Rattle.event_trace.specs.Numbered.{sent_after}

-- one step more
pub step_sent : (es : List JournalEntry) (k sent next : ℕ) (old new : List ℕ) (o : Option JournalEntry)
    → slice_get es k ≡ o
    → AddsStep o old new sent (Some next) → sent_after next (drop (k + 1) es) ≡ sent_after sent (drop k es)
unfolding sent_after
step_sent es k sent next old new None is adds = absurd adds
step_sent es k sent next old new (Some e) is adds =
    ap (λ n. sent_after n (drop (k + 1) es)) adds.0 ∙ ap (sent_after sent) (sym (dropped_at es k e is))

-- no step is there
pub none_sent : (es : List JournalEntry) (k sent : ℕ) (old new : List ℕ) (o : Option JournalEntry)
    → slice_get es k ≡ o
    → AddsStep o old new sent None → sent ≡ sent_after sent (drop k es)
unfolding sent_after
none_sent es k sent old new (Some e) is adds = absurd adds
none_sent es k sent old new None is adds = ap (sent_after sent) (sym (dropped_past es k is))

-- no step is left
pub all_sent : (es : List JournalEntry) (k sent : ℕ) → length es ≤ k → sent ≡ sent_after sent (drop k es)
unfolding sent_after
all_sent es k sent past = ap (sent_after sent) (sym (dropped_all es k past))
