-- Steps that are marked, one after another.
use Rattle.std.proofs.Common.{◌≡◌, ◌∙◌, ap, sym, subst, refl, arith, ℕ, ◌+◌, Bool, true, false, not, ◌==◌, ◌&&◌, ◌||◌, Some, List, [], ◌∷◌, ◌++◌, take}
use Rattle.std.specs.List.{sum_by}
use Rattle.std.specs.Prelude.{cond, count_by, fold, slice_get}
use Rattle.std.proofs.lemmas.List.Sums.{fold-append, sum_by-append}
use Rattle.protocol.specs.declared.events.JournalEntry.{JournalEntry}
use Rattle.protocol.specs.declared.names.ProcessId.{ProcessId}
use Rattle.protocol.specs.declared.names.Txn.{Txn}
use Rattle.protocol.specs.Names.{same_process}
use Rattle.protocol.specs.NameLaws.{same_process_tells}
use Rattle.picture_parts.specs.declared.belonging.Choice.{Choice}
use Rattle.picture_parts.specs.declared.belonging.Choice.TheVariants.{Between, OfTxn}
use Rattle.picture_parts.specs.declared.belonging.Belonging.{Belonging}
use Rattle.picture_parts.specs.Belonging.{AddsPart, AddsParts, TookPart, is_among, is_of, is_of_at, is_restart, is_shown, marks_of, with_mark}
use Rattle.tree_engine.proofs.Traces.{taken_at}

-- before all steps
pub none_marked : (choice : Choice) (ms : List Belonging) → ms ≡ [] → ms ≡ marks_of choice []
unfolding marks_of
none_marked choice ms is = is

-- one more step
pub marked_more : (choice : Choice) (es : List JournalEntry) (k : ℕ) (e : JournalEntry)
    (old new : List Belonging)
    → slice_get es k ≡ Some e → old ≡ marks_of choice (take k es) → new ≡ with_mark choice old e
    → new ≡ marks_of choice (take (k + 1) es)
unfolding marks_of
marked_more choice es k e old new at so is =
    is ∙ ap (λ (ms : List Belonging). with_mark choice ms e) so
    ∙ sym (fold-append (with_mark choice) [] (take k es) (e ∷ []))
    ∙ ap (λ (xs : List JournalEntry). fold (with_mark choice) [] xs) (sym (taken_at es k e at))

-- Who took part.

one_more : (b : Bool) (n m : ℕ) → m ≡ n + cond b 1 0 → not (m == 0) ≡ (not (n == 0) || b)
one_more true n m is = grind (arith, is)
one_more false n m is = grind (arith, is)

any_more : {X : Type 0} (test : X → Bool) (xs : List X) (x : X)
    → not (count_by test (xs ++ x ∷ []) == 0) ≡ (not (count_by test xs == 0) || test x)
any_more test xs x =
    let last : sum_by (λ y. cond (test y) 1 0) (x ∷ []) ≡ cond (test x) 1 0 = grind arith in
    let counted : count_by test (xs ++ x ∷ []) ≡ count_by test xs + cond (test x) 1 0 =
    sum_by-append (λ y. cond (test y) 1 0) xs (x ∷ []) ∙ ap (λ n. count_by test xs + n) last in
    one_more (test x) (count_by test xs) (count_by test (xs ++ x ∷ [])) counted

none_took : (choice : Choice) → TookPart choice [] []
none_took (OfTxn t) = λ p. refl
none_took (Between from to) = tt

-- before all steps nobody took part
pub nobody_took : (choice : Choice) (ms : List Belonging) (ps : List ProcessId) → ms ≡ [] → ps ≡ []
    → TookPart choice ms ps
nobody_took choice ms ps no_steps no_parts =
    subst (λ (xs : List Belonging). TookPart choice xs ps) (sym no_steps)
    (subst (λ (qs : List ProcessId). TookPart choice [] qs) (sym no_parts) (none_took choice))

-- a process that is added
pub part_added : (q : ProcessId) (ps new : List ProcessId) → new ≡ ps ++ q ∷ [] → AddsPart q ps new
part_added q ps new is p = ap (λ qs. is_among p qs) is ∙ any_more (λ r. same_process r p) ps q

alike : (q p : ProcessId) (ps : List ProcessId) → is_among q ps ≡ true → same_process q p ≡ true
    → is_among p ps ≡ true
alike q p ps there one = grind (arith, same_process_tells q p)

-- one that is there already
pub part_there : (q : ProcessId) (ps : List ProcessId) → is_among q ps ≡ true → AddsPart q ps ps
part_there q ps there p = by (same_process q p) refl
  where
    by : (b : Bool) → same_process q p ≡ b → is_among p ps ≡ (is_among p ps || b)
    by true is = let here = alike q p ps there is in grind (arith, here)
    by false is = grind arith

-- a step is drawn, if the processes that took part are known
pub shown_so : (choice : Choice) (t : Txn) (before : List Belonging) (ps : List ProcessId)
    (e : JournalEntry) (b : Bool)
    → choice ≡ OfTxn t → TookPart choice before ps
    → b ≡ (is_of t e || (is_restart e.step.happening && is_among e.step.process ps))
    → b ≡ is_shown choice before e
unfolding is_shown
shown_so choice t before ps e b is took made =
    let took_part_in : TookPart (OfTxn t) before ps = subst (λ c. TookPart c before ps) is took in
    let shown : b ≡ is_shown (OfTxn t) before e =
    made ∙ ap (λ v. is_of t e || (is_restart e.step.happening && v)) (took_part_in e.step.process) in
    shown ∙ ap (λ c. is_shown c before e) (sym is)

-- of one more step
pub parts_more : (choice : Choice) (before : List Belonging) (old new : List ProcessId)
    (e : JournalEntry) (shown : Bool)
    → TookPart choice before old → AddsParts choice e old new
    → TookPart choice (before ++ record { entry = e; shown = shown } ∷ []) new
parts_more (OfTxn t) before old new e shown took adds = λ p.
    adds p ∙ ap (λ b. b || is_of_at t p e) (took p)
    ∙ sym (any_more (λ m. is_of_at t p m.entry) before (record { entry = e; shown = shown }))
parts_more (Between from to) before old new e shown took adds = tt
