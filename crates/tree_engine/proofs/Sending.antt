-- How many messages a run's steps send.
use Rattle.std.proofs.Common.{◌≡◌, ◌∙◌, ap, ℕ, zero, suc, ◌+◌, ◌≤◌, ◌^◌, ◌⊎◌, inl, inr, Option, Some, None, List, [], ◌∷◌, ◌++◌, take, length, option_map, subst, refl, arith, length-append}
use Rattle.std.specs.Prelude.{slice_get}
use Rattle.std.specs.List.{flat_map}
use Rattle.std.proofs.lemmas.List.Concat.{flat_map-append}
use Rattle.protocol.specs.declared.events.JournalEntry.{JournalEntry}
use Rattle.protocol.specs.declared.events.Reaction.{Reaction}
use Rattle.protocol.specs.declared.names.ProcessId.{ProcessId}
use Rattle.tree_journal.specs.Shown.{entry_part, shown_part}
use Rattle.tree_journal.specs.declared.shown.ShownStep.{ShownStep}
use Rattle.report_io.specs.declared.streams.Failure.{Failure}
use Rattle.report_io.specs.declared.streams.Failure.TheVariants.{Exhausted, Memory}
use Rattle.tree_engine.specs.Failures.{PassesLast, message_count}
use Rattle.tree_engine.specs.Trees.{AddsStep}
use Rattle.tree_engine.proofs.Traces.{taken_at}

-- those of one step more
pub one_more : (es : List JournalEntry) (k : ℕ) (e : JournalEntry) → slice_get es k ≡ Some e
    → message_count (take (k + 1) es) ≡ message_count (take k es) + length e.reaction.messages
one_more es k e at =
    ap message_count (taken_at es k e at)
    ∙ ap length (flat_map-append (λ (e : JournalEntry). e.reaction.messages) (take k es) (e ∷ []))
    ∙ length-append (flat_map (λ (e : JournalEntry). e.reaction.messages) (take k es))
    (e.reaction.messages ++ [])
    ∙ ap (λ n. message_count (take k es) + n) (length-append e.reaction.messages [] ∙ omega arith)

-- the first steps send no more than all
pub within_all : (es : List JournalEntry) (k : ℕ) → message_count (take k es) ≤ message_count es
within_all [] zero = omega arith
within_all [] (suc k) = omega arith
within_all (e ∷ es) zero = omega arith
within_all (e ∷ es) (suc k) =
    let some = length-append e.reaction.messages
    (flat_map (λ (e : JournalEntry). e.reaction.messages) (take k es)) in
    let all = length-append e.reaction.messages (flat_map (λ (e : JournalEntry). e.reaction.messages) es) in
    let rest = within_all es k in
    omega (arith, some, all, rest)

-- how many were sent after one step more
pub sent_behind : (es : List JournalEntry) (k before next : ℕ) (old new : List ℕ) (o : Option JournalEntry)
    → slice_get es k ≡ o → AddsStep o old new before (Some next) → before ≡ message_count (take k es)
    → next ≡ message_count (take (k + 1) es)
sent_behind es k before next old new None at adds so = absurd adds
sent_behind es k before next old new (Some e) at adds so =
    let more = one_more es k e at in
    let (count, text) = adds in
    omega (arith, so, more, count)

-- where the messages of the next step come to 2^64 those of all do
pub all_past : (es : List JournalEntry) (k before : ℕ) (o : Option JournalEntry) → slice_get es k ≡ o
    → PassesLast before o
    → before ≡ message_count (take k es) → 2 ^ 64 ≤ message_count es
all_past es k before None at past so = absurd past
all_past es k before (Some e) at past so =
    let more = one_more es k e at in
    let within = within_all es (k + 1) in
    omega (arith, so, more, within, past)

-- the step at a place, as the journal shows it, has as many
pub passes_shown : (o : Option JournalEntry) (shown : Option ShownStep) (step : ShownStep) (before : ℕ)
    → shown ≡ Some step → option_map shown_part shown ≡ option_map entry_part o
    → 2 ^ 64 ≤ before + length step.messages.now → PassesLast before o
passes_shown None shown step before some is past = absurd (cc)
passes_shown (Some e) shown step before some is past =
    let same : shown_part step ≡ entry_part e = cc in
    subst (λ (p : ProcessId × Reaction). 2 ^ 64 ≤ before + length p.1.messages) same past

-- why the steps from a place on are not written is why all are not
pub entries_past : (es : List JournalEntry) (k before : ℕ) (why : Failure)
    → (why ≡ Memory) ⊎ ((why ≡ Exhausted) × PassesLast before (slice_get es k))
    → before ≡ message_count (take k es)
    → (why ≡ Memory) ⊎ ((why ≡ Exhausted) × (2 ^ 64 ≤ message_count es))
entries_past es k before why (inl memory) so = inl memory
entries_past es k before why (inr (exhausted, past)) so =
    inr (exhausted, all_past es k before (slice_get es k) refl past so)
