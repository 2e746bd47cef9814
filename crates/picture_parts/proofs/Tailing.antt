-- The records that a crash may take, step by step.
use Rattle.std.proofs.Common.{◌≡◌, ◌≢◌, ◌⊎◌, ◌∙◌, inl, inr, ap, sym, subst, refl, ℕ, ◌+◌, Bool, true, false, if◌then◌else◌, Option, true≢false, List, [], ◌∷◌, ◌++◌, take}
use Rattle.std.specs.Prelude.{fold}
use Rattle.std.proofs.lemmas.List.Sums.{fold-append}
use Rattle.protocol.specs.declared.events.JournalEntry.{JournalEntry}
use Rattle.protocol.specs.declared.names.ProcessId.{ProcessId}
use Rattle.protocol.specs.declared.names.Txn.{Txn}
use Rattle.protocol.specs.Names.{same_process}
use Rattle.protocol.specs.NameLaws.{same_process_tells}
use Rattle.picture_parts.specs.declared.belonging.Belonging.{Belonging}
use Rattle.picture_parts.specs.declared.counting.Tail.{Tail}
use Rattle.picture_parts.specs.Cut.{Drawn, TailState, drawn_after, drawn_by, drawn_entry, no_tail, tail_at, with_drawn, with_step, with_step_at}
use Rattle.picture_parts.specs.Tails.{AddsStep, AreTails, KeepsTails, seen, tail_in}

-- a step of a process whose records are taken out, and kept again
pub step_added : (only : Option Txn) (m : Belonging) (old mid new : List (ProcessId × Tail)) (t u : Tail)
    → seen t ≡ tail_in old m.entry.step.process → KeepsTails m.entry.step.process old mid
    → seen u ≡ with_step only (seen t) m → tail_in new m.entry.step.process ≡ seen u
    → KeepsTails m.entry.step.process mid new → AddsStep only m old new
unfolding with_step_at
step_added only m old mid new t u was kept makes is keeps p =
    by (same_process m.entry.step.process p) refl (same_process_tells m.entry.step.process p)
  where
    by : (b : Bool) → same_process m.entry.step.process p ≡ b
        → ((same_process m.entry.step.process p ≡ true) × (m.entry.step.process ≡ p))
        ⊎ ((same_process m.entry.step.process p ≡ false) × (m.entry.step.process ≢ p))
        → tail_in new p ≡ (if b then with_step only (tail_in old p) m else tail_in old p)
    by true e (inl one) =
        subst (λ q. tail_in new q ≡ with_step only (tail_in old q) m) one.1
        (is ∙ makes ∙ ap (λ s. with_step only s m) was)
    by true e (inr other) = absurd (true≢false (sym e ∙ other.0))
    by false e tells = keeps p e ∙ kept p e

-- one more step
pub tails_more : (only : Option Txn) (ms : List Belonging) (k : ℕ) (m : Belonging)
    (old new : List (ProcessId × Tail))
    → take (k + 1) ms ≡ take k ms ++ m ∷ [] → AreTails only (take k ms) old → AddsStep only m old new
    → AreTails only (take (k + 1) ms) new
unfolding tail_at
tails_more only ms k m old new is were adds p =
    adds p ∙ ap (λ s. with_step_at only p s m) (were p)
    ∙ sym (fold-append (with_step_at only p) no_tail (take k ms) (m ∷ []))
    ∙ ap (λ (xs : List Belonging). fold (with_step_at only p) no_tail xs) (sym is)

-- before all steps there are none
pub no_tails : (only : Option Txn) (ts : List (ProcessId × Tail)) → ts ≡ [] → AreTails only [] ts
unfolding tail_at
no_tails only ts is p = ap (λ xs. tail_in xs p) is

-- one more step is drawn, or not
pub drawn_more : (only : Option Txn) (numbers ns : List ℕ) (ms : List Belonging) (k : ℕ) (m : Belonging)
    (old new : List JournalEntry) (ts : List (ProcessId × Tail)) → take (k + 1) ms ≡ take k ms ++ m ∷ []
    → ns ≡ numbers
    → (drawn_by only numbers (take k ms)).before ≡ take k ms
    → (drawn_by only numbers (take k ms)).entries ≡ old
    → AreTails only (take k ms) ts
    → new ≡ (if m.shown then old ++ drawn_entry only ns (tail_in ts m.entry.step.process) m.entry ∷ []
    else old)
    → ((drawn_by only numbers (take (k + 1) ms)).before ≡ take (k + 1) ms)
    × ((drawn_by only numbers (take (k + 1) ms)).entries ≡ new)
drawn_more only numbers ns ms k m old new ts all same before entries tails is =
    let start : Drawn = record { before = []; entries = [] } in
    let stepped : drawn_by only numbers (take (k + 1) ms)
    ≡ with_drawn only numbers (drawn_by only numbers (take k ms)) m =
    ap (λ (xs : List Belonging). drawn_by only numbers xs) all
    ∙ fold-append (with_drawn only numbers) start (take k ms) (m ∷ []) in (
      ap (λ (d : Drawn). d.before) stepped ∙ ap (λ (xs : List Belonging). xs ++ m ∷ []) before ∙ sym all,
      ap (λ (d : Drawn). d.entries) stepped
          ∙ ap (λ (xs : List Belonging). if m.shown
          then (drawn_by only numbers (take k ms)).entries ++ drawn_after only numbers xs m.entry ∷ []
          else (drawn_by only numbers (take k ms)).entries) before
          ∙ ap (λ (es : List JournalEntry). if m.shown then es ++ drawn_after only numbers (take k ms) m.entry
          ∷ [] else es)
          entries
          ∙ ap (λ (t : TailState). if m.shown then old ++ drawn_entry only numbers t m.entry ∷ [] else old)
          (sym (tails m.entry.step.process))
          ∙ ap (λ (xs : List ℕ). if m.shown
          then old ++ drawn_entry only xs (tail_in ts m.entry.step.process) m.entry ∷ [] else old) (sym same)
          ∙ sym is,
    )
