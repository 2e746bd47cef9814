-- How many commits the fronts of records count.
use Rattle.std.proofs.Common.{◌<◌, ◌^◌, ℕ, arith, List, [], ◌∷◌, ◌++◌, append_assoc, map, fold, take, drop, sym, ap, subst, ◌∙◌}
use Rattle.std.proofs.lemmas.List.{take-append-drop}
use Rattle.protocol.specs.declared.records.LogRecord.{LogRecord}
use Rattle.protocol.specs.declared.records.Record.{Record}
use Rattle.protocol.specs.LogNames.{by_xid}
use Rattle.protocol.specs.Store.{Data, no_data, stored, stored_after, data_of}
use Rattle.kv_state.specs.Replays.{AreCountedCommits, CountTooFar, CountsFrom}

here : (d : Data) (rs : List Record) → CountsFrom d rs → d.count < 2 ^ 63
here d [] h = h
here d (r ∷ rs) h = h.0

front : (d : Data) (ls ks : List LogRecord) → CountsFrom d (map by_xid (ls ++ ks))
    → CountsFrom d (map by_xid ls)
front d [] ks h = here d (map by_xid ks) h
front d (l ∷ ls) ks h = (h.0, front (stored_after d (by_xid l)) ls ks h.1)

whole : (d : Data) (ls : List LogRecord) → CountsFrom d (map by_xid ls)
    → (fold stored_after d (map by_xid ls)).count < 2 ^ 63
whole d [] h = h
whole d (l ∷ ls) h = whole (stored_after d (by_xid l)) ls h.1

more : (d : Data) (ls ks : List LogRecord) → CountsFrom d (map by_xid ls)
    → CountsFrom (fold stored_after d (map by_xid ls)) (map by_xid ks) → CountsFrom d (map by_xid (ls ++ ks))
more d [] ks h behind = behind
more d (l ∷ ls) ks h behind = (h.0, more (stored_after d (by_xid l)) ls ks h.1 behind)

next : (d : Data) (ls : List LogRecord) (l : LogRecord) → CountsFrom d (map by_xid ls)
    → (fold stored_after d (map by_xid (ls ++ l ∷ []))).count < 2 ^ 63
    → CountsFrom d (map by_xid (ls ++ l ∷ []))
next d [] l h fits = (h, fits)
next d (k ∷ ls) l h fits = (h.0, next (stored_after d (by_xid k)) ls l h.1 fits)

-- a front
pub counted_front : (ls ks : List LogRecord) → AreCountedCommits (ls ++ ks) → AreCountedCommits ls
counted_front ls ks h = front no_data ls ks h

-- a front of what is after them
pub counted_taken : (ls ks : List LogRecord) (n : ℕ) → AreCountedCommits (ls ++ ks)
    → AreCountedCommits (ls ++ take n ks)
counted_taken ls ks n h = counted_front (ls ++ take n ks) (drop n ks)
    (subst AreCountedCommits (sym (append_assoc ls (take n ks) (drop n ks)
    ∙ ap (λ rs. ls ++ rs) (take-append-drop n ks))) h)

-- all of them
pub counted_whole : (ls : List LogRecord) → AreCountedCommits ls → (data_of ls).count < 2 ^ 63
unfolding stored
counted_whole ls h = whole no_data ls h

-- with others after
pub counted_more : (ls ks : List LogRecord) → AreCountedCommits ls → CountsFrom (data_of ls) (map by_xid ks)
    → AreCountedCommits (ls ++ ks)
unfolding stored
counted_more ls ks h behind = more no_data ls ks h behind

-- with one more
pub counted_next : (ls : List LogRecord) (l : LogRecord) → AreCountedCommits ls
    → (data_of (ls ++ l ∷ [])).count < 2 ^ 63 → AreCountedCommits (ls ++ l ∷ [])
unfolding stored
counted_next ls l h fits = next no_data ls l h fits

-- none counts too far
pub never_far : (ls : List LogRecord) → AreCountedCommits ls → CountTooFar ls → ⊥
never_far ls h far =
    let counted = counted_whole far.front (counted_front far.front far.behind
    (subst AreCountedCommits far.parts h)) in
    let much = far.far in
    omega (arith, counted, much)
