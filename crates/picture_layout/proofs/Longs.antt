-- The rows that the steps to come may have.
use Rattle.std.proofs.Common.{◌≡◌, ℕ, ◌+◌, ◌<◌, List, ◌∷◌, length, drop, get_or}
use Rattle.std.proofs.Common.{drop-cons, length-append, add-one, ap, ◌∙◌, arith}
use Rattle.protocol.specs.declared.events.JournalEntry.{JournalEntry}
use Rattle.picture_layout.specs.Whole.{records_in, sent_in}
use Rattle.picture_layout.specs.Long.{most_step_rows}

-- the most rows of a step and of those after it
most_cons : (e : JournalEntry) (es : List JournalEntry)
    → most_step_rows (e ∷ es) ≡ 4 + length e.reaction.written + length e.reaction.messages + most_step_rows es
unfolding records_in sent_in
most_cons e es =
    omega (
      arith,
      length-append e.reaction.written (records_in es),
      length-append e.reaction.messages (sent_in es),
    )

-- the most rows of the steps from one on
pub most_from : (es : List JournalEntry) (k : ℕ) (e : JournalEntry) → k < length es → e ≡ get_or es k e
    → most_step_rows (drop k es)
    ≡ 4 + length e.reaction.written + length e.reaction.messages + most_step_rows (drop (k + 1) es)
most_from es k e lt here =
    let cut : drop k es ≡ e ∷ drop (k + 1) es = rw add-one (rw (← here) at (drop-cons es k e lt)) in
    ap most_step_rows cut ∙ most_cons e (drop (k + 1) es)
