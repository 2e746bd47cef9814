-- A trace goes on as its journal does, and as faults are counted.
use Rattle.std.proofs.Common.{◌≡◌, ◌∙◌, ◌≤◌, ◌+◌, ◌-◌, ℕ, List, [], ◌∷◌, ◌++◌, Option, Some, None, length, take, drop, refl, sym, ap, subst, arith, append-nil, append_assoc, drop-drop, length-drop, zero, suc, rules, ◌<◌, get_or}
use Rattle.std.proofs.lemmas.Option.{slice_get_read}
use Rattle.std.specs.Prelude.{slice_get}
use Rattle.std.proofs.lemmas.List.{drop-append-le, take-append-le}
use Rattle.std.proofs.Math.Seq.{drop-append_seam, take-append_seam}
use Rattle.protocol.specs.declared.events.JournalEntry.{JournalEntry}
use Rattle.protocol.specs.declared.events.Step.{Step}
use Rattle.tree_faults.specs.declared.faults.FailedStep.{FailedStep}
use Rattle.tree_faults.specs.Faults.{AreInOrder, failed_entries, failed_entry, placed_in, woven}

-- Places.

pub reaches : (k : ℕ) (fs : List FailedStep) (n : ℕ) → AreInOrder k fs n → k ≤ n
reaches k [] n order = order
reaches k (f ∷ fs) n order = omega (arith, order.0, reaches f.made fs n order.1)

-- where more steps were made they are still in order
pub order_on : (k : ℕ) (fs : List FailedStep) (n m : ℕ) → n ≤ m → AreInOrder k fs n → AreInOrder k fs m
order_on k [] n m more order = omega (arith, more, order)
order_on k (f ∷ fs) n m more order = (order.0, order_on f.made fs n m more order.1)

-- one more is the last
pub order_more : (k : ℕ) (fs : List FailedStep) (n : ℕ) (step : Option Step) → AreInOrder k fs n
    → AreInOrder k (fs ++ placed_in n step) n
order_more k fs n None order = subst (λ gs. AreInOrder k gs n) (sym (append-nil fs)) order
order_more k [] n (Some step) order = (order, omega arith)
order_more k (f ∷ fs) n (Some step) order = (order.0, order_more f.made fs n (Some step) order.1)

-- The steps before a fault.

module _ (k : ℕ) (es : List JournalEntry) (f : FailedStep) (fs : List FailedStep)
    (order : AreInOrder k (f ∷ fs) (k + length es)) where
  abbrev cut : ℕ
  cut = f.made - k

  pub within : cut ≤ length es
  within = omega (arith, order.0, reaches f.made fs (k + length es) order.1)

  pub rest_order : AreInOrder f.made fs (f.made + length (drop cut es))
  rest_order = subst (AreInOrder f.made fs)
      (omega (arith, length-drop cut es, order.0, reaches f.made fs (k + length es) order.1)) order.1

-- A trace with more steps.
pub woven_on : (k : ℕ) (es more : List JournalEntry) (fs : List FailedStep) → AreInOrder k fs (k + length es)
    → woven k (es ++ more) fs ≡ woven k es fs ++ more
unfolding woven
woven_on k es more [] order = refl
woven_on k es more (f ∷ fs) order =
    let cut = f.made - k in
    let front : take cut (es ++ more) ≡ take cut es = take-append-le cut es more (within k es f fs order) in
    let back : drop cut (es ++ more) ≡ drop cut es ++ more =
    drop-append-le cut es more (within k es f fs order) in
    (λ i. front i ++ failed_entry f.step ∷ woven f.made (back i) fs)
    ∙ ap (λ t. take cut es ++ failed_entry f.step ∷ t)
    (woven_on f.made (drop cut es) more fs (rest_order k es f fs order))
    ∙ sym (append_assoc (take cut es) (failed_entry f.step ∷ woven f.made (drop cut es) fs) more)

-- A trace with one fault more, after all steps.
pub woven_more : (k : ℕ) (es : List JournalEntry) (fs : List FailedStep) (step : Option Step)
    → AreInOrder k fs (k + length es)
    → woven k es (fs ++ placed_in (k + length es) step) ≡ woven k es fs ++ failed_entries step
unfolding woven
woven_more k es fs None order = ap (woven k es) (append-nil fs) ∙ sym (append-nil (woven k es fs))
woven_more k es [] (Some step) order =
    let all : (k + length es) - k ≡ length es = omega arith in
    (λ i. take (all i) es ++ failed_entry step ∷ drop (all i) es) ∙ ends
  where
    ends : take (length es) es ++ failed_entry step ∷ drop (length es) es ≡ es ++ failed_entry step ∷ []
    ends = ap (λ (xs : List JournalEntry). take (length es) xs ++ failed_entry step ∷ drop (length es) xs)
        (sym (append-nil es))
        ∙ (λ i. take-append_seam es [] i ++ failed_entry step ∷ drop-append_seam es [] i)
woven_more k es (f ∷ fs) (Some step) order =
    let cut = f.made - k in
    let end : k + length es ≡ f.made + length (drop cut es) =
    omega (arith, length-drop cut es, order.0, reaches f.made fs (k + length es) order.1) in
    ap (λ n. take cut es ++ failed_entry f.step ∷ woven f.made (drop cut es) (fs ++ placed_in n (Some step)))
    end
    ∙ ap (λ t. take cut es ++ failed_entry f.step ∷ t)
    (woven_more f.made (drop cut es) fs (Some step) (rest_order k es f fs order))
    ∙ sym (append_assoc (take cut es) (failed_entry f.step ∷ woven f.made (drop cut es) fs)
    (failed_entry step ∷ []))

-- How far a trace is told.

-- the steps before a fault, and it, are told
pub told_to : (k : ℕ) (es : List JournalEntry) (f : FailedStep) (fs : List FailedStep)
    (told whole : List JournalEntry)
    → k ≤ f.made → told ++ woven k (drop k es) (f ∷ fs) ≡ whole
    → ((told ++ take (f.made - k) (drop k es)) ++ failed_entry f.step ∷ [])
    ++ woven f.made (drop f.made es) fs ≡ whole
unfolding woven
told_to k es f fs told whole le is =
    append_assoc (told ++ take (f.made - k) (drop k es)) (failed_entry f.step ∷ [])
    (woven f.made (drop f.made es) fs)
    ∙ append_assoc told (take (f.made - k) (drop k es))
    (failed_entry f.step ∷ woven f.made (drop f.made es) fs)
    ∙ ap (λ xs. told ++ (take (f.made - k) (drop k es) ++ failed_entry f.step ∷ woven f.made xs fs))
    (sym behind)
    ∙ is
  where
    behind : drop (f.made - k) (drop k es) ≡ drop f.made es
    behind = drop-drop (f.made - k) k es ∙ ap (λ n. drop n es) (omega (arith, le))

-- if no fault is left, the other steps are told
pub told_all : (k : ℕ) (es told whole : List JournalEntry) → told ++ woven k (drop k es) [] ≡ whole
    → told ++ take (length es - k) (drop k es) ≡ whole
unfolding woven
told_all k es told whole is =
    ap (λ xs. told ++ xs) (ap (λ n. take n (drop k es)) (sym (length-drop k es)) ∙ all (drop k es)) ∙ is
  where
    all : (xs : List JournalEntry) → take (length xs) xs ≡ xs
    all xs = ap (take (length xs)) (sym (append-nil xs)) ∙ take-append_seam xs []

-- one step more is told

taken : (es : List JournalEntry) (n : ℕ) (e : JournalEntry) → slice_get es n ≡ Some e
    → take (suc n) es ≡ take n es ++ e ∷ []
taken [] n e is = absurd (cc)
taken (x ∷ es) zero e is = let same : x ≡ e = search rules in ap (λ y. y ∷ []) same
taken (x ∷ es) (suc n) e is = ap (λ t. x ∷ t) (taken es n e is)

dropped : (es : List JournalEntry) (start n : ℕ) → slice_get (drop start es) n ≡ slice_get es (start + n)
dropped es zero n = let same : n ≡ 0 + n = omega arith in ap (slice_get es) same
dropped [] (suc start) n = refl
dropped (x ∷ es) (suc start) n =
    dropped es start n ∙ ap (slice_get (x ∷ es)) (let e : suc (start + n) ≡ suc start + n = omega arith in e)

pub told_more : (es : List JournalEntry) (start place : ℕ) (e : JournalEntry) → start ≤ place
    → slice_get es place ≡ Some e
    → take (place - start) (drop start es) ++ e ∷ [] ≡ take ((place + 1) - start) (drop start es)
told_more es start place e le is =
    let at : start + (place - start) ≡ place = omega (arith, le) in
    let next : suc (place - start) ≡ (place + 1) - start = omega (arith, le) in
    sym (taken (drop start es) (place - start) e
    (dropped es start (place - start) ∙ ap (slice_get es) at ∙ is))
    ∙ ap (λ n. take n (drop start es)) next

-- the next fault

cut_at : (fs : List FailedStep) (i : ℕ) (f : FailedStep) → slice_get fs i ≡ Some f
    → drop i fs ≡ f ∷ drop (suc i) fs
cut_at [] i f is = absurd (cc)
cut_at (g ∷ fs) zero f is = let same : g ≡ f = search rules in ap (λ y. y ∷ fs) same
cut_at (g ∷ fs) (suc i) f is = cut_at fs i f is

pub next_of : (fs : List FailedStep) (i : ℕ) (f : FailedStep) → i < length fs → f ≡ get_or fs i f
    → drop i fs ≡ f ∷ drop (i + 1) fs
next_of fs i f within is =
    let next : suc i ≡ i + 1 = omega arith in
    cut_at fs i f (slice_get_read fs (length fs) i f refl within is) ∙ ap (λ n. f ∷ drop n fs) next

-- a step that was made is there
pub is_there : (es : List JournalEntry) (n : ℕ) → n < length es → slice_get es n ≡ None → ⊥
is_there [] n within none = absurd (omega (arith, within))
is_there (x ∷ es) zero within none = absurd (cc)
is_there (x ∷ es) (suc n) within none = is_there es n (omega (arith, within)) none
