-- What is counted of all fits where the sums do.
use Rattle.std.proofs.lemmas.List.{take-append-drop}
use Rattle.std.proofs.lemmas.List.Concat.{flat_map-append}
use Rattle.std.proofs.Common.{Some, ◌≡◌, ◌∙◌, ap, sym, subst, ℕ, zero, suc, ◌+◌, ◌<◌, List, [], ◌∷◌, ◌++◌, length, map, take, drop, get_or, refl, Result, Ok, Err, IfErr, arith}
use Rattle.std.specs.Prelude.{slice_get, if◌then◌else◌}
use Rattle.std.specs.List.{fold}
use Rattle.protocol.specs.declared.events.JournalEntry.{JournalEntry}
use Rattle.protocol.specs.declared.trees.TreeProcess.{TreeProcess}
use Rattle.protocol.specs.declared.records.ShownRecord.{ShownRecord}
use Rattle.protocol.specs.Names.{same_process}
use Rattle.report_io.specs.declared.streams.Failure.{Failure}
use Rattle.report_io.specs.declared.streams.Failure.TheVariants.{Exhausted}
use Rattle.tree_engine.specs.declared.counts.Counts.{Counts}
use Rattle.tree_engine.specs.declared.counts.Sent.{Sent}
use Rattle.tree_engine.specs.declared.rows.ProcessCounts.{ProcessCounts}
use Rattle.tree_engine.specs.Counts.{AllFit, Fit, FitSent, counts_of, row_behind, row_of, rows_of, sent_by, sent_together, together, total_of, written_by}
use Rattle.tree_engine.proofs.Sums.{counts_of_both, step_more}
use Rattle.tree_engine.proofs.Traces.{taken_at}

sent_first : (a b : Sent) → FitSent (sent_together a b) → FitSent a
sent_first a b h = record {
  join = let fit = h.join in omega arith;
  joined = let fit = h.joined in omega arith;
  work = let fit = h.work in omega arith;
  prepare = let fit = h.prepare in omega arith;
  yes = let fit = h.yes in omega arith;
  no = let fit = h.no in omega arith;
  read = let fit = h.read in omega arith;
  commit = let fit = h.commit in omega arith;
  abort = let fit = h.abort in omega arith;
  ack = let fit = h.ack in omega arith;
  inquire = let fit = h.inquire in omega arith;
}

sent_second : (a b : Sent) → FitSent (sent_together a b) → FitSent b
sent_second a b h = record {
  join = let fit = h.join in omega arith;
  joined = let fit = h.joined in omega arith;
  work = let fit = h.work in omega arith;
  prepare = let fit = h.prepare in omega arith;
  yes = let fit = h.yes in omega arith;
  no = let fit = h.no in omega arith;
  read = let fit = h.read in omega arith;
  commit = let fit = h.commit in omega arith;
  abort = let fit = h.abort in omega arith;
  ack = let fit = h.ack in omega arith;
  inquire = let fit = h.inquire in omega arith;
}

-- of two that fit together each does
pub first_fits : (a b : Counts) → Fit (together a b) → Fit a
first_fits a b h = record {
  records = let fit = h.records in omega arith;
  forced = let fit = h.forced in omega arith;
  messages = let fit = h.messages in omega arith;
  sent = sent_first a.sent b.sent h.sent;
}

pub second_fits : (a b : Counts) → Fit (together a b) → Fit b
second_fits a b h = record {
  records = let fit = h.records in omega arith;
  forced = let fit = h.forced in omega arith;
  messages = let fit = h.messages in omega arith;
  sent = sent_second a.sent b.sent h.sent;
}

abbrev summed : Counts → List ProcessCounts → Counts
summed from rows = fold (λ sum r. together sum r.counts) from rows

start_fits : (from : Counts) (rows : List ProcessCounts) → Fit (summed from rows) → Fit from
start_fits from [] h = h
start_fits from (r ∷ rs) h = first_fits from r.counts (start_fits (together from r.counts) rs h)

rows_fit : (from : Counts) (rows : List ProcessCounts) → Fit (summed from rows) → AllFit rows
rows_fit from [] h = tt
rows_fit from (r ∷ rs) h = (
  second_fits from r.counts (start_fits (together from r.counts) rs h),
  rows_fit (together from r.counts) rs h,
)

until_fits : (from : Counts) (rows : List ProcessCounts) (k : ℕ) (d : ProcessCounts) → k < length rows
    → Fit (summed from rows) → Fit (together (summed from (take k rows)) (get_or rows k d).counts)
until_fits from [] k d within h = absurd (omega arith)
until_fits from (r ∷ rs) zero d within h = start_fits (together from r.counts) rs h
until_fits from (r ∷ rs) (suc k) d within h = until_fits (together from r.counts) rs k d (omega arith) h

-- the row of no process
abbrev pub no_row : ProcessCounts
no_row = record { process = record { 0 = 0 }; counts = counts_of [] [] }

-- the sum of these rows and the next one fits, where that of all does
pub next_fits : (rows : List ProcessCounts) (k : ℕ) (d : ProcessCounts) → k < length rows
    → Fit (total_of rows) → Fit (together (summed (counts_of [] []) (take k rows)) (get_or rows k d).counts)
unfolding total_of
next_fits rows k d within h = until_fits (counts_of [] []) rows k d within h

-- and each row does
pub all_fit : (rows : List ProcessCounts) → Fit (total_of rows) → AllFit rows
unfolding total_of
all_fit rows h = rows_fit (counts_of [] []) rows h

-- a row that is next, where those before it are written
next_row : (f : ProcessCounts → ProcessCounts) (rows : List ProcessCounts) (i : ℕ) (d : ProcessCounts)
    → i < length rows → get_or (map f (take i rows) ++ drop i rows) i d ≡ get_or rows i d
next_row f [] i d within = absurd (omega arith)
next_row f (r ∷ rs) zero d within = refl
next_row f (r ∷ rs) (suc i) d within = next_row f rs i d (omega arith)

fits_at : (f : ProcessCounts → ProcessCounts) (rows : List ProcessCounts) (i : ℕ) (d : ProcessCounts)
    → i < length rows → AllFit (map f rows) → Fit (f (get_or rows i d)).counts
fits_at f [] i d within h = absurd (omega arith)
fits_at f (r ∷ rs) zero d within h = h.0
fits_at f (r ∷ rs) (suc i) d within h = fits_at f rs i d (omega arith) h.1

-- it fits, where all do
pub row_fits : (f : ProcessCounts → ProcessCounts) (rows now : List ProcessCounts) (i : ℕ) (d : ProcessCounts)
    → i < length rows → now ≡ map f (take i rows) ++ drop i rows → AllFit (map f rows)
    → Fit (f (get_or now i d)).counts
row_fits f rows now i d within is h =
    rw is (subst (λ (r : ProcessCounts). Fit (f r).counts) (sym (next_row f rows i d within))
    (fits_at f rows i d within h))

-- the counts after a step more do not fit
pub not_counted : (made : Result (Unit {0}) Failure) (view items old : List ProcessCounts) (e : JournalEntry)
    → items ≡ view → old ≡ items
    → IfErr made (λ why. (why ≡ Exhausted) × (AllFit (map (row_behind e) old) → ⊥))
    → IfErr made (λ why. (why ≡ Exhausted) × ((tree : List TreeProcess) (es : List JournalEntry)
    → view ≡ rows_of tree es → AllFit (rows_of tree (es ++ e ∷ [])) → ⊥))
not_counted (Ok x) view items old e shown value none = none
not_counted (Err why) view items old e shown value none = (
  none.0,
  λ tree es so fit.
      none.1 (subst (λ (rows : List ProcessCounts). AllFit (map (row_behind e) rows))
      (sym (value ∙ shown ∙ so))
      (subst AllFit (sym (step_more tree es e)) fit)),
)

-- what the first steps count fits, where what all count does
row_front : (es : List JournalEntry) (k : ℕ) (p : TreeProcess) → Fit (row_of es p).counts
    → Fit (row_of (take k es) p).counts
row_front es k p fit =
    let first = take k es in
    let rest = drop k es in
    let written = flat_map-append (λ (e : JournalEntry). if same_process e.step.process p.id
    then e.reaction.written else [])
    first rest in
    let sent = flat_map-append (λ (e : JournalEntry). if same_process e.step.process p.id
    then e.reaction.messages else [])
    first rest in
    first_fits (row_of first p).counts (row_of rest p).counts
    (subst Fit (ap (λ (xs : List JournalEntry). counts_of (written_by p.id xs) (sent_by p.id xs))
    (sym (take-append-drop k es)) ∙ ap (λ (ws : List ShownRecord).
    counts_of ws (sent_by p.id (first ++ rest))) written
    ∙ ap (counts_of (written_by p.id first ++ written_by p.id rest)) sent
    ∙ counts_of_both (written_by p.id first) (written_by p.id rest) (sent_by p.id first) (sent_by p.id rest))
    fit)

rows_front : (tree : List TreeProcess) (es : List JournalEntry) (k : ℕ) → AllFit (map (row_of es) tree)
    → AllFit (map (row_of (take k es)) tree)
rows_front [] es k fit = tt
rows_front (p ∷ ps) es k fit = (row_front es k p fit.0, rows_front ps es k fit.1)

-- the counts of all steps do not fit, where those of the first ones and the next do not
pub not_all_counted : (tree : List TreeProcess) (es : List JournalEntry) (k : ℕ) (e : JournalEntry)
    → slice_get es k ≡ Some e
    → (AllFit (rows_of tree (take k es ++ e ∷ [])) → ⊥) → Fit (total_of (rows_of tree es)) → ⊥
unfolding rows_of
not_all_counted tree es k e at none fit =
    none (subst (λ (xs : List JournalEntry). AllFit (map (row_of xs) tree)) (taken_at es k e at)
    (rows_front tree es (k + 1) (all_fit (map (row_of es) tree) fit)))
