-- The rest of a journal's entries, from one on.
use Rattle.std.proofs.Common.{◌≡◌, ◌∙◌, ◌+◌, ◌<◌, ap, sym, ℕ, List, [], ◌∷◌, ◌++◌, drop, get_or, length, append-nil, append_assoc, length-append, ◌^◌, arith}
use Rattle.std.proofs.Common.{◌≤◌, zero, suc, add-one, refl}
use Rattle.std.proofs.Math.Seq.{drop-cons}
use Rattle.std.specs.List.{flat_map}
use Rattle.protocol.specs.declared.events.JournalEntry.{JournalEntry}
use Rattle.tree_engine.specs.Failures.{message_count}
use Rattle.trace_lines.specs.Trace.{entries_text, entry_text}
use Rattle.cluster_ties.specs.Views.{entries_in}
use Rattle.std.specs.Global.{Vec}
use Rattle.cluster_turns.specs.Turns.{all_of}

-- the entry at a place and those after it
dropped_at : (xs : List (ℕ × JournalEntry)) (i : ℕ) (d : ℕ × JournalEntry) → i < length xs
    → drop i xs ≡ get_or xs i d ∷ drop (i + 1) xs
dropped_at xs i d within = rw add-one (drop-cons xs i d within)

-- the text after one entry more
pub entry_added : (xs : List (ℕ × JournalEntry)) (i : ℕ) (d : ℕ × JournalEntry) (sent next : ℕ)
    (old new all : List ℕ)
    → i < length xs → next ≡ sent + length (get_or xs i d).1.reaction.messages
    → new ≡ old ++ entry_text sent (get_or xs i d).1
    → old ++ entries_text sent (entries_in (drop i xs)) ≡ all
    → new ++ entries_text next (entries_in (drop (i + 1) xs)) ≡ all
entry_added xs i d sent next old new all lt then pushed so =
    let x = get_or xs i d in
    let rest : entries_in (drop i xs) ≡ x.1 ∷ entries_in (drop (i + 1) xs) =
    ap entries_in (dropped_at xs i d lt) in
    ap (λ (l : List ℕ). l ++ entries_text next (entries_in (drop (i + 1) xs))) pushed
    ∙ append_assoc old (entry_text sent x.1) (entries_text next (entries_in (drop (i + 1) xs)))
    ∙ ap (λ n. old ++ (entry_text sent x.1 ++ entries_text n (entries_in (drop (i + 1) xs)))) then
    ∙ ap (λ es. old ++ entries_text sent es) (sym rest) ∙ so

-- how many messages the entries from this one on send
rest_sent : (xs : List (ℕ × JournalEntry)) (i : ℕ) (d : ℕ × JournalEntry) → i < length xs
    → message_count (entries_in (drop i xs))
    ≡ length (get_or xs i d).1.reaction.messages + message_count (entries_in (drop (i + 1) xs))
rest_sent xs i d within =
    let rest = entries_in (drop (i + 1) xs) in
    ap (λ (ys : List (ℕ × JournalEntry)). message_count (entries_in ys)) (dropped_at xs i d within)
    ∙ length-append (get_or xs i d).1.reaction.messages
    (flat_map (λ (e : JournalEntry). e.reaction.messages) rest)

-- N are sent after one entry more
pub sent_more : (xs : List (ℕ × JournalEntry)) (i : ℕ) (d : ℕ × JournalEntry) (sent next total : ℕ)
    → i < length xs
    → next ≡ sent + length (get_or xs i d).1.reaction.messages
    → sent + message_count (entries_in (drop i xs)) ≡ total
    → next + message_count (entries_in (drop (i + 1) xs)) ≡ total
sent_more xs i d sent next total within more so =
    let rest = rest_sent xs i d within in omega (arith, rest, more, so)

-- where those of the next entry come to 2^64 all do
pub sent_past : (xs : List (ℕ × JournalEntry)) (i : ℕ) (d : ℕ × JournalEntry) (sent total : ℕ) → i < length xs
    → 2 ^ 64 ≤ sent + length (get_or xs i d).1.reaction.messages
    → sent + message_count (entries_in (drop i xs)) ≡ total
    → 2 ^ 64 ≤ total
sent_past xs i d sent total within past so =
    let rest = rest_sent xs i d within in omega (arith, rest, past, so)

none_past : {A : Type 0} (ys : List A) (k : ℕ) → length ys ≤ k → drop k ys ≡ []
none_past [] zero h = refl
none_past [] (suc k) h = refl
none_past (y ∷ ys) zero h = absurd (omega (arith, h))
none_past (y ∷ ys) (suc k) h = none_past ys k (omega (arith, h))

-- none is left after the last
pub all_added : (xs : List (ℕ × JournalEntry)) (i sent : ℕ) (old all : List ℕ) → length xs ≤ i
    → old ++ entries_text sent (entries_in (drop i xs)) ≡ all → old ≡ all
all_added xs i sent old all past so =
    sym (append-nil old)
    ∙ ap (λ (ys : List (ℕ × JournalEntry)). old ++ entries_text sent (entries_in ys))
    (sym (none_past xs i past)) ∙ so

pub all_sent : (xs : List (ℕ × JournalEntry)) (i sent total : ℕ) → length xs ≤ i
    → sent + message_count (entries_in (drop i xs)) ≡ total → sent ≡ total
all_sent xs i sent total past so =
    let none : message_count (entries_in (drop i xs)) ≡ 0 =
    ap (λ (ys : List (ℕ × JournalEntry)). message_count (entries_in ys)) (none_past xs i past) in
    omega (arith, none, so)

-- Turn by turn.

texts_both : (sent : ℕ) (xs ys : List JournalEntry)
    → entries_text sent (xs ++ ys) ≡ entries_text sent xs ++ entries_text (sent + message_count xs) ys
texts_both sent [] ys = ap (λ n. entries_text n ys) (let z : sent ≡ sent + 0 = omega arith in z)
texts_both sent (x ∷ xs) ys =
    let n = length x.reaction.messages in
    let long = length-append x.reaction.messages (flat_map (λ (e : JournalEntry). e.reaction.messages) xs) in
    let count : (sent + n) + message_count xs ≡ sent + message_count (x ∷ xs) = omega (arith, long) in
    ap (λ l. entry_text sent x ++ l)
    (texts_both (sent + n) xs ys ∙ ap (λ k. entries_text (sent + n) xs ++ entries_text k ys) count)
    ∙ sym (append_assoc (entry_text sent x) (entries_text (sent + n) xs)
    (entries_text (sent + message_count (x ∷ xs)) ys))

counts_both : (xs ys : List JournalEntry) → message_count (xs ++ ys) ≡ message_count xs + message_count ys
counts_both [] ys = zero_plus (message_count ys)
  where
    zero_plus : (n : ℕ) → n ≡ 0 + n
    zero_plus n = omega arith
counts_both (x ∷ xs) ys =
    let both = counts_both xs ys in
    let one = length-append x.reaction.messages
    (flat_map (λ (e : JournalEntry). e.reaction.messages) (xs ++ ys)) in
    let two = length-append x.reaction.messages (flat_map (λ (e : JournalEntry). e.reaction.messages) xs) in
    omega (arith, both, one, two)

in_both : (xs ys : List (ℕ × JournalEntry)) → entries_in (xs ++ ys) ≡ entries_in xs ++ entries_in ys
in_both [] ys = refl
in_both (x ∷ xs) ys = ap (λ l. x.1 ∷ l) (in_both xs ys)

-- the entries of a turn and of those after it
rest_entries : (es : List (Vec (ℕ × JournalEntry))) (i : ℕ) (d : Vec (ℕ × JournalEntry)) → i < length es
    → entries_in (all_of (drop i es)) ≡ entries_in (get_or es i d).items
    ++ entries_in (all_of (drop (i + 1) es))
rest_entries es i d within =
    let rest : drop i es ≡ get_or es i d ∷ drop (i + 1) es = rw add-one (drop-cons es i d within) in
    ap (λ l. entries_in (all_of l)) rest ∙ in_both (get_or es i d).items (all_of (drop (i + 1) es))

-- the text after one turn more
pub turn_added : (es : List (Vec (ℕ × JournalEntry))) (i : ℕ) (d : Vec (ℕ × JournalEntry)) (sent next : ℕ)
    (old new all : List ℕ)
    → i < length es → next ≡ sent + message_count (entries_in (get_or es i d).items)
    → new ≡ old ++ entries_text sent (entries_in (get_or es i d).items)
    → old ++ entries_text sent (entries_in (all_of (drop i es))) ≡ all
    → new ++ entries_text next (entries_in (all_of (drop (i + 1) es))) ≡ all
turn_added es i d sent next old new all lt then pushed so =
    let xs = entries_in (get_or es i d).items in
    let ys = entries_in (all_of (drop (i + 1) es)) in
    ap (λ (l : List ℕ). l ++ entries_text next ys) pushed
    ∙ append_assoc old (entries_text sent xs) (entries_text next ys)
    ∙ ap (λ n. old ++ (entries_text sent xs ++ entries_text n ys)) then
    ∙ ap (λ l. old ++ l) (sym (texts_both sent xs ys))
    ∙ ap (λ l. old ++ entries_text sent l) (sym (rest_entries es i d lt)) ∙ so

turns_sent : (es : List (Vec (ℕ × JournalEntry))) (i : ℕ) (d : Vec (ℕ × JournalEntry)) → i < length es
    → message_count (entries_in (all_of (drop i es)))
    ≡ message_count (entries_in (get_or es i d).items) + message_count (entries_in (all_of (drop (i + 1) es)))
turns_sent es i d within =
    ap message_count (rest_entries es i d within)
    ∙ counts_both (entries_in (get_or es i d).items) (entries_in (all_of (drop (i + 1) es)))

-- N are sent after one turn more
pub turn_more : (es : List (Vec (ℕ × JournalEntry))) (i : ℕ) (d : Vec (ℕ × JournalEntry))
    (sent next total : ℕ) → i < length es
    → next ≡ sent + message_count (entries_in (get_or es i d).items)
    → sent + message_count (entries_in (all_of (drop i es))) ≡ total
    → next + message_count (entries_in (all_of (drop (i + 1) es))) ≡ total
turn_more es i d sent next total within more so =
    let rest = turns_sent es i d within in omega (arith, rest, more, so)

-- where those of the next turn come to 2^64 all do
pub turn_past : (es : List (Vec (ℕ × JournalEntry))) (i : ℕ) (d : Vec (ℕ × JournalEntry)) (sent total : ℕ)
    → i < length es
    → 2 ^ 64 ≤ sent + message_count (entries_in (get_or es i d).items)
    → sent + message_count (entries_in (all_of (drop i es))) ≡ total
    → 2 ^ 64 ≤ total
turn_past es i d sent total within past so =
    let rest = turns_sent es i d within in omega (arith, rest, past, so)

-- none is left after the last
pub turns_added : (es : List (Vec (ℕ × JournalEntry))) (i sent : ℕ) (old all : List ℕ) → length es ≤ i
    → old ++ entries_text sent (entries_in (all_of (drop i es))) ≡ all → old ≡ all
turns_added es i sent old all past so =
    sym (append-nil old)
    ∙ ap (λ (ys : List (Vec (ℕ × JournalEntry))). old ++ entries_text sent (entries_in (all_of ys)))
    (sym (none_past es i past))
    ∙ so
