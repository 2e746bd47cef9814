-- The crashes of a run, one after another.
use Rattle.std.proofs.Common.{◌≡◌, ◌∙◌, ap, sym, ℕ, ◌+◌, ◌<◌, true, false, List, get_or, length, take}
use Rattle.std.proofs.lemmas.List.Sums.{count_by_more_no, count_by_more_yes}
use Rattle.protocol.specs.declared.events.JournalEntry.{JournalEntry}
use Rattle.picture_run.specs.Sums.{crashes_in, is_restart}

-- one step more, which is a crash
pub one_crash : (es : List JournalEntry) (k n m : ℕ) (d : JournalEntry) → k < length es
    → is_restart (get_or es k d).step.happening ≡ true
    → n ≡ crashes_in (take k es) → m ≡ n + 1 → m ≡ crashes_in (take (k + 1) es)
one_crash es k n m d there is counted more =
    more ∙ ap (λ i. i + 1) counted ∙ sym (count_by_more_yes
    (λ (e : JournalEntry). is_restart e.step.happening) es k d there is)

-- one that is none
pub no_crash : (es : List JournalEntry) (k n : ℕ) (d : JournalEntry) → k < length es
    → is_restart (get_or es k d).step.happening ≡ false
    → n ≡ crashes_in (take k es) → n ≡ crashes_in (take (k + 1) es)
no_crash es k n d there is counted =
    counted ∙ sym (count_by_more_no (λ (e : JournalEntry). is_restart e.step.happening) es k d there is)
