-- Messages that are drawn where they were sent, one after another.
use Rattle.std.proofs.Common.{◌≡◌, ◌∙◌, ap, sym, refl, arith, ℕ, ◌+◌, ◌<◌, ◌≤◌, true, false, if◌then◌else◌, List, [], ◌∷◌, ◌++◌, length, get_or, map, take}
use Rattle.std.proofs.lemmas.List.{append-nil, append_assoc, length-take-le, map-append, take_more}
use Rattle.protocol.specs.declared.events.JournalEntry.{JournalEntry}
use Rattle.picture_layout.specs.declared.drawn.Stub.{Stub}
use Rattle.picture_layout.specs.declared.fates.Fate.{Fate}
use Rattle.picture_layout.specs.declared.rows.StepRows.{StepRows}
use Rattle.picture_layout.specs.declared.seats.Column.{Column}
use Rattle.picture_layout.specs.Fates.{Leaving, is_late, leaving_in, leaving_of, leavings, leavings_from}

-- what a message leaves, if it is drawn apart
one_leaving : List Column → List StepRows → List JournalEntry → ℕ → Fate → List Leaving
one_leaving seats rows es n f = if is_late f.sent f.heard then leaving_of seats rows es n f ∷ [] else []

leavings-append : (seats : List Column) (rows : List StepRows) (es : List JournalEntry) (n : ℕ)
    (fs : List Fate) (f : Fate)
    → leavings_from seats rows es n (fs ++ f ∷ []) ≡ leavings_from seats rows es n fs
    ++ one_leaving seats rows es (n + length fs) f
unfolding leavings_from one_leaving
leavings-append seats rows es n [] f =
    let at : n ≡ n + 0 = omega arith in
    append-nil (one_leaving seats rows es n f) ∙ ap (λ m. one_leaving seats rows es m f) at
leavings-append seats rows es n (g ∷ fs) f =
    let at : n + 1 + length fs ≡ n + length (g ∷ fs) = omega arith in
    ap (λ xs. one_leaving seats rows es n g ++ xs) (leavings-append seats rows es (n + 1) fs f)
    ∙ ap (λ m. one_leaving seats rows es n g
    ++ (leavings_from seats rows es (n + 1) fs ++ one_leaving seats rows es m f)) at
    ∙ sym (append_assoc (one_leaving seats rows es n g) (leavings_from seats rows es (n + 1) fs)
    (one_leaving seats rows es (n + length (g ∷ fs)) f))

leavings_more : (seats : List Column) (rows : List StepRows) (es : List JournalEntry) (fates : List Fate)
    (k : ℕ) (f : Fate)
    → k < length fates → f ≡ get_or fates k f
    → leavings seats rows es (take (k + 1) fates) ≡ leavings seats rows es (take k fates)
    ++ one_leaving seats rows es (k + 1) f
leavings_more seats rows es fates k f there at =
    let within : k ≤ length fates = omega (arith, there) in
    let taken = length-take-le k fates within in
    let number : 1 + length (take k fates) ≡ k + 1 = omega (arith, taken) in
    ap (λ fs. leavings seats rows es fs) (take_more fates k f there
    ∙ ap (λ x. take k fates ++ x ∷ []) (sym at))
    ∙ leavings-append seats rows es 1 (take k fates) f
    ∙ ap (λ n. leavings seats rows es (take k fates) ++ one_leaving seats rows es n f) number

-- before the first message none is drawn
pub none_left : (seats : List Column) (rows : List StepRows) (es : List JournalEntry)
    → [] ≡ leavings seats rows es []
unfolding leavings_from
none_left seats rows es = refl

-- a message that is not drawn apart
pub passed : (seats : List Column) (rows : List StepRows) (es : List JournalEntry) (fates : List Fate) (k : ℕ)
    (f : Fate) (stubs : List Stub)
    → k < length fates → f ≡ get_or fates k f → is_late f.sent f.heard ≡ false
    → map leaving_in stubs ≡ leavings seats rows es (take k fates)
    → map leaving_in stubs ≡ leavings seats rows es (take (k + 1) fates)
unfolding one_leaving
passed seats rows es fates k f stubs there at late was =
    was ∙ sym (leavings_more seats rows es fates k f there at
    ∙ ap (λ b. leavings seats rows es (take k fates)
    ++ (if b then leaving_of seats rows es (k + 1) f ∷ [] else [])) late
    ∙ append-nil (leavings seats rows es (take k fates)))

-- one that is
pub left_more : (seats : List Column) (rows : List StepRows) (es : List JournalEntry) (fates : List Fate)
    (k : ℕ) (f : Fate)
    (old new : List Stub) (s : Stub) → k < length fates → f ≡ get_or fates k f → is_late f.sent f.heard ≡ true
    → new ≡ old ++ s ∷ [] → leaving_in s ≡ leaving_of seats rows es (k + 1) f
    → map leaving_in old ≡ leavings seats rows es (take k fates)
    → map leaving_in new ≡ leavings seats rows es (take (k + 1) fates)
unfolding one_leaving
left_more seats rows es fates k f old new s there at late is one was =
    ap (λ xs. map leaving_in xs) is ∙ map-append leaving_in old (s ∷ [])
    ∙ ap (λ xs. xs ++ leaving_in s ∷ []) was
    ∙ ap (λ x. leavings seats rows es (take k fates) ++ x ∷ []) one
    ∙ sym (leavings_more seats rows es fates k f there at
    ∙ ap (λ b. leavings seats rows es (take k fates)
    ++ (if b then leaving_of seats rows es (k + 1) f ∷ [] else [])) late)
