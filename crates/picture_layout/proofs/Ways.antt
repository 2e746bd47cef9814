-- Ways and spots, one step after another.
use Rattle.std.proofs.Common.{◌≡◌, ◌∙◌, ap, sym, refl, arith, ℕ, ◌+◌, ◌-◌, ◌<◌, ◌≤◌, ◌^◌, Option, List, [], ◌∷◌, ◌++◌, drop, get_or, length, map, min, option_map, option_to_list, replicate, take}
use Rattle.std.specs.List.{flat_map}
use Rattle.std.specs.Prelude.{suc}
use Rattle.std.proofs.Math.Seq.{drop-cons}
use Rattle.std.proofs.lemmas.Grind.{flat_map-append}
use Rattle.std.proofs.lemmas.List.{append-nil, append_assoc, drop_all, length-append, length-map, length-replicate, length-take-le, map-append, take_more}
use Rattle.protocol.specs.declared.records.ShownRecord.{ShownRecord}
use Rattle.protocol.specs.declared.events.JournalEntry.{JournalEntry}
use Rattle.picture_layout.specs.declared.seats.Column.{Column}
use Rattle.picture_layout.specs.declared.rows.StepRows.{StepRows}
use Rattle.picture_layout.specs.declared.fates.Fate.{Fate}
use Rattle.picture_layout.specs.declared.drawn.Arrow.{Arrow}
use Rattle.picture_layout.specs.declared.drawn.RecordMark.{RecordMark}
use Rattle.picture_layout.specs.Whole.{deliveries, delivery, records_in, sent_in}
use Rattle.picture_layout.specs.Ways.{SitFrom, Spot, by_step, first_record, place_in, rows_in, senders, spot_of, spots_from, spots_in, way_to, ways_of}

-- a step after the others
by_step-append : {A : Type 0} (adds : ℕ → JournalEntry → List A) (k : ℕ) (es : List JournalEntry)
    (e : JournalEntry)
    → by_step adds k (es ++ e ∷ []) ≡ by_step adds k es ++ adds (k + length es) e
unfolding by_step
by_step-append adds k [] e =
    let at : k + 0 ≡ k = omega arith in
    append-nil (adds k e) ∙ ap (λ n. adds n e) (sym at)
by_step-append adds k (x ∷ es) e =
    let at : k + 1 + length es ≡ k + length (x ∷ es) = omega arith in
    ap (λ xs. adds k x ++ xs) (by_step-append adds (k + 1) es e)
    ∙ ap (λ n. adds k x ++ (by_step adds (k + 1) es ++ adds n e)) at
    ∙ sym (append_assoc (adds k x) (by_step adds (k + 1) es) (adds (k + length (x ∷ es)) e))

-- one more of the first steps
pub by_step_more : {A : Type 0} (adds : ℕ → JournalEntry → List A) (es : List JournalEntry) (k : ℕ)
    (e : JournalEntry) → k < length es
    → e ≡ get_or es k e → by_step adds 0 (take (k + 1) es) ≡ by_step adds 0 (take k es) ++ adds k e
by_step_more adds es k e there at =
    let within : k ≤ length es = omega (arith, there) in
    let taken = length-take-le k es within in
    let before : 0 + length (take k es) ≡ k = omega (arith, taken) in
    ap (λ xs. by_step adds 0 xs) (take_more es k e there ∙ ap (λ x. take k es ++ x ∷ []) (sym at))
    ∙ by_step-append adds 0 (take k es) e ∙ ap (λ n. by_step adds 0 (take k es) ++ adds n e) before

-- the senders of the messages of one more step
pub senders_more : (es : List JournalEntry) (k : ℕ) (e : JournalEntry) → k < length es → e ≡ get_or es k e
    → senders (take (k + 1) es) ≡ senders (take k es) ++ replicate (length e.reaction.messages) k
senders_more es k e there at = by_step_more (λ n x. replicate (length x.reaction.messages) n) es k e there at

-- before the first step nothing is sent
pub no_senders : [] ≡ senders []
unfolding by_step
no_senders = refl

-- the fates of the messages of one more step
pub fates_more : (es : List JournalEntry) (k : ℕ) (e : JournalEntry) (old heard new : List Fate)
    → k < length es → e ≡ get_or es k e
    → map (λ (f : Fate). f.sent) old ≡ senders (take k es)
    → map (λ (f : Fate). f.sent) heard ≡ map (λ (f : Fate). f.sent) old
    → map (λ (f : Fate). f.sent) new ≡ map (λ (f : Fate). f.sent) heard
    ++ replicate (length e.reaction.messages) k
    → map (λ (f : Fate). f.sent) new ≡ senders (take (k + 1) es)
fates_more es k e old heard new there at was same is =
    is ∙ ap (λ xs. xs ++ replicate (length e.reaction.messages) k) (same ∙ was)
    ∙ sym (senders_more es k e there at)

-- each message has one sender
senders-length : (k : ℕ) (es : List JournalEntry)
    → length (by_step (λ n x. replicate (length x.reaction.messages) n) k es) ≡ length (sent_in es)
unfolding by_step sent_in
senders-length k [] = refl
senders-length k (e ∷ es) =
    length-append (replicate (length e.reaction.messages) k) _
    ∙ ap (λ n. n + length (by_step (λ n x. replicate (length x.reaction.messages) n) (k + 1) es))
    (length-replicate (length e.reaction.messages) k)
    ∙ ap (λ n. length e.reaction.messages + n) (senders-length (k + 1) es)
    ∙ sym (length-append e.reaction.messages (sent_in es))

-- there are as many fates as messages
pub all_fates : (es : List JournalEntry) (fates : List Fate) → map (λ (f : Fate). f.sent) fates ≡ senders es
    → length fates ≡ length (sent_in es)
all_fates es fates is = sym (length-map fates (λ (f : Fate). f.sent)) ∙ ap (λ xs. length xs) is
    ∙ senders-length 0 es

-- a seat after the others
pub sit_more : (place : ℕ) (ss : List Column) (s : Column) → s.place ≡ place + length ss → SitFrom place ss
    → SitFrom place (ss ++ s ∷ [])
sit_more place [] s at sit = let is : s.place ≡ place = omega (arith, at) in (is, tt)
sit_more place (x ∷ ss) s at sit =
    let next : s.place ≡ place + 1 + length ss = omega (arith, at)
    in (sit.0, sit_more (place + 1) ss s next sit.1)

-- the ways of one more step's deliveries
pub ways_more : (seats : List Column) (rows : List StepRows) (sent : List ℕ) (es : List JournalEntry) (k : ℕ)
    (e : JournalEntry) → k < length es
    → e ≡ get_or es k e
    → ways_of seats rows sent es (take (k + 1) es)
    ≡ ways_of seats rows sent es (take k es)
    ++ option_to_list (option_map (way_to seats rows sent es k e) (delivery (length sent) e))
ways_more seats rows sent es k e there at =
    by_step_more (λ n x. option_to_list (option_map (way_to seats rows sent es n x)
    (delivery (length sent) x))) es k e there at

-- before the first step there is no way
pub no_ways : (seats : List Column) (rows : List StepRows) (sent : List ℕ) (es : List JournalEntry)
    → [] ≡ ways_of seats rows sent es []
unfolding by_step
no_ways seats rows sent es = refl

-- nor a spot
pub no_spots : (seats : List Column) (rows : List StepRows) → [] ≡ spots_in seats rows []
unfolding by_step
no_spots seats rows = refl

-- the spots of one more step's records
pub spots_more : (seats : List Column) (rows : List StepRows) (es : List JournalEntry) (k : ℕ)
    (e : JournalEntry) → k < length es
    → e ≡ get_or es k e
    → spots_in seats rows (take (k + 1) es) ≡ spots_in seats rows (take k es)
    ++ spots_from (place_in seats e.step.process) (first_record e.step.happening (rows_in rows k).first)
    e.reaction.written
spots_more seats rows es k e there at = by_step_more (λ n x. spots_from (place_in seats x.step.process)
    (first_record x.step.happening (rows_in rows n).first) x.reaction.written) es k e there at

-- the numbers of one more step's deliveries
pub deliveries_more : (count : ℕ) (es : List JournalEntry) (k : ℕ) (e : JournalEntry) → k < length es
    → e ≡ get_or es k e
    → deliveries count (take (k + 1) es) ≡ deliveries count (take k es) ++ option_to_list (delivery count e)
unfolding deliveries
deliveries_more count es k e there at =
    ap (λ xs. flat_map (λ x. option_to_list (delivery count x)) xs)
    (take_more es k e there ∙ ap (λ x. take k es ++ x ∷ []) (sym at))
    ∙ flat_map-append (λ x. option_to_list (delivery count x)) (take k es) (e ∷ [])
    ∙ ap (λ xs. flat_map (λ x. option_to_list (delivery count x)) (take k es) ++ xs)
    (append-nil (option_to_list (delivery count e)))

-- the records of one more step
pub records_more : (es : List JournalEntry) (k : ℕ) (e : JournalEntry) → k < length es → e ≡ get_or es k e
    → records_in (take (k + 1) es) ≡ records_in (take k es) ++ e.reaction.written
unfolding records_in
records_more es k e there at =
    ap (λ xs. flat_map (λ (x : JournalEntry). x.reaction.written) xs)
    (take_more es k e there ∙ ap (λ x. take k es ++ x ∷ []) (sym at))
    ∙ flat_map-append (λ (x : JournalEntry). x.reaction.written) (take k es) (e ∷ [])
    ∙ ap (λ xs. flat_map (λ (x : JournalEntry). x.reaction.written) (take k es) ++ xs)
    (append-nil e.reaction.written)

-- the arrow of one more step, if it has one
pub arrows_more : (seats : List Column) (rows : List StepRows) (sent : List ℕ) (es : List JournalEntry)
    (k : ℕ) (e : JournalEntry)
    (old new : List Arrow) (found : Option Arrow) → k < length es → e ≡ get_or es k e
    → map (λ (a : Arrow). a.way) old ≡ ways_of seats rows sent es (take k es)
    → map (λ (a : Arrow). a.way) new ≡ map (λ (a : Arrow). a.way) old
    ++ option_to_list (option_map (λ (a : Arrow). a.way) found)
    → option_map (λ (a : Arrow). a.way) found ≡ option_map (way_to seats rows sent es k e)
    (delivery (length sent) e)
    → map (λ (a : Arrow). a.way) new ≡ ways_of seats rows sent es (take (k + 1) es)
arrows_more seats rows sent es k e old new found there at was is ways =
    is ∙ ap (λ xs. xs ++ option_to_list (option_map (λ (a : Arrow). a.way) found)) was
    ∙ ap (λ o. ways_of seats rows sent es (take k es) ++ option_to_list o) ways
    ∙ sym (ways_more seats rows sent es k e there at)

-- the record of a mark more
pub logged_more : (ws first : List ShownRecord) (i : ℕ) (w : ShownRecord) (old new : List RecordMark)
    (m : RecordMark) → i < length ws
    → w ≡ get_or ws i w → map (λ (n : RecordMark). n.logged) old ≡ first ++ take i ws → new ≡ old ++ m ∷ []
    → m.logged ≡ w
    → map (λ (n : RecordMark). n.logged) new ≡ first ++ take (i + 1) ws
logged_more ws first i w old new m there at was is logged =
    ap (λ ms. map (λ (n : RecordMark). n.logged) ms) is
    ∙ map-append (λ (n : RecordMark). n.logged) old (m ∷ [])
    ∙ ap (λ xs. xs ++ m.logged ∷ []) was ∙ append_assoc first (take i ws) (m.logged ∷ [])
    ∙ ap (λ x. first ++ (take i ws ++ x ∷ [])) (logged ∙ at)
    ∙ ap (λ xs. first ++ xs) (sym (take_more ws i w there))

-- a mark more
pub marks_more : (place row : ℕ) (ws : List ShownRecord) (i : ℕ) (w : ShownRecord) (old new : List RecordMark)
    (m : RecordMark) → i < length ws
    → w ≡ get_or ws i w → new ≡ old ++ m ∷ [] → spot_of m ≡ record { place = place; row = row; logged = w }
    → map spot_of new ++ spots_from place (min (row + 1) (2 ^ 32 - 1)) (drop (i + 1) ws)
    ≡ map spot_of old ++ spots_from place row (drop i ws)
unfolding spots_from
marks_more place row ws i w old new m there at is spot =
    let rest = spots_from place (min (row + 1) (2 ^ 32 - 1)) (drop (i + 1) ws) in
    let one : suc i ≡ i + 1 = omega arith in
    let next : drop i ws ≡ w ∷ drop (i + 1) ws =
    drop-cons ws i w there ∙ ap (λ n. get_or ws i w ∷ drop n ws) one ∙ ap (λ x. x ∷ drop (i + 1) ws) (sym at)
    in
    ap (λ ms. map spot_of ms ++ rest) is ∙ ap (λ xs. xs ++ rest) (map-append spot_of old (m ∷ []))
    ∙ append_assoc (map spot_of old) (spot_of m ∷ []) rest ∙ ap (λ s. map spot_of old ++ s ∷ rest) spot
    ∙ sym (ap (λ xs. map spot_of old ++ spots_from place row xs) next)

-- no record is left
pub marks_end : (place row : ℕ) (ws : List ShownRecord) (i : ℕ) (xs ys : List Spot) → length ws ≤ i
    → xs ++ spots_from place row (drop i ws) ≡ ys → xs ≡ ys
unfolding spots_from
marks_end place row ws i xs ys past is =
    sym (append-nil xs) ∙ ap (λ zs. xs ++ spots_from place row zs) (sym (drop_all i ws past)) ∙ is
