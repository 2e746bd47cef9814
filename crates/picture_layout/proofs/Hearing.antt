-- Which step delivers a message first, one step after another.
use Rattle.std.proofs.Common.{◌≡◌, ◌∙◌, ap, sym, subst, refl, arith, ℕ, zero, suc, ◌+◌, ◌-◌, ◌<◌, ◌≤◌, Bool, true, false, if◌then◌else◌, Option, None, Some, List, [], ◌∷◌, ◌++◌, drop, length, get_or, map, replicate, take}
use Rattle.std.specs.Prelude.{nat_eq, nat_lt, ◌&&◌, set}
use Rattle.std.proofs.Math.Seq.{take-append_seam}
use Rattle.std.specs.Option.{option_or}
use Rattle.std.proofs.lemmas.List.{length-append, take_more, length-take-le}
use Rattle.protocol.specs.declared.events.JournalEntry.{JournalEntry}
use Rattle.picture_layout.specs.declared.fates.Fate.{Fate}
use Rattle.picture_layout.specs.Fates.{HeardFrom, first_heard, heard_at, is_named, no_fate, unheard}
use Rattle.picture_layout.specs.Whole.{heard_in, is_known}

split_first : (b : Bool) (k : ℕ) (all rest last : Option ℕ) → all ≡ option_or rest last
    → (if b then Some k else all) ≡ option_or (if b then Some k else rest) last
split_first true k all rest last is = refl
split_first false k all rest last is = is

-- the step after the others is the first only if none of them is
first_heard-append : (n s k : ℕ) (es : List JournalEntry) (e : JournalEntry)
    → first_heard n s k (es ++ e ∷ []) ≡ option_or (first_heard n s k es)
    (first_heard n s (k + length es) (e ∷ []))
unfolding first_heard
first_heard-append n s k [] e =
    let at : k ≡ k + 0 = omega arith in
    ap (λ j. first_heard n s j (e ∷ [])) at
first_heard-append n s k (x ∷ es) e =
    let at : k + 1 + length es ≡ k + length (x ∷ es) = omega arith in
    split_first (nat_lt s k && is_named n (heard_in x.step.happening)) k
    (first_heard n s (k + 1) (es ++ e ∷ [])) (first_heard n s (k + 1) es)
    (first_heard n s (k + length (x ∷ es)) (e ∷ []))
    (first_heard-append n s (k + 1) es e
    ∙ ap (λ j. option_or (first_heard n s (k + 1) es) (first_heard n s j (e ∷ []))) at)

none_at : (s k : ℕ) (b : Bool) (rest : Option ℕ) → k ≤ s → rest ≡ None
    → (if nat_lt s k && b then Some k else rest) ≡ None
none_at s k b rest past is =
    let not_yet : nat_lt s k ≡ false = grind (arith, past) in
    ap (λ c. if c && b then Some k else rest) not_yet ∙ is

-- no step before its sender's, nor that one, delivers a message
none_yet : (n s k : ℕ) (es : List JournalEntry) → k + length es ≤ s + 1 → first_heard n s k es ≡ None
unfolding first_heard
none_yet n s k [] past = refl
none_yet n s k (e ∷ es) past =
    let here : k ≤ s = omega (arith, past) in
    let rest : k + 1 + length es ≤ s + 1 = omega (arith, past) in
    none_at s k (is_named n (heard_in e.step.happening)) (first_heard n s (k + 1) es) here
    (none_yet n s (k + 1) es rest)

-- fates by which this message is named: it is delivered at this step, if by none before
unfoldable pub hear_all : ℕ → ℕ → Option ℕ → List Fate → List Fate
hear_all n k named [] = []
hear_all n k named (f ∷ fs) = (if is_named n named then heard_at k f else f) ∷ hear_all (n + 1) k named fs

hear_none : (n k : ℕ) (fs : List Fate) → hear_all n k None fs ≡ fs
unfolding hear_all
hear_none n k [] = refl
hear_none n k (f ∷ fs) = ap (λ gs. f ∷ gs) (hear_none (n + 1) k fs)

one_named : (n m k : ℕ) (f : Fate) → nat_eq m n ≡ false
    → (if is_named n (Some m) then heard_at k f else f) ≡ f
one_named n m k f other = ap (λ b. if b then heard_at k f else f) other

-- a number beyond the list names none of it
hear_below : (n m k : ℕ) (fs : List Fate) → m < n → hear_all n k (Some m) fs ≡ fs
unfolding hear_all
hear_below n m k [] below = refl
hear_below n m k (f ∷ fs) below =
    let other : nat_eq m n ≡ false = grind (arith, below) in
    let next : m < n + 1 = omega (arith, below) in
    ap (λ g. g ∷ hear_all (n + 1) k (Some m) fs) (one_named n m k f other)
    ∙ ap (λ gs. f ∷ gs) (hear_below (n + 1) m k fs next)

hear_above : (n m k : ℕ) (fs : List Fate) → n + length fs ≤ m → hear_all n k (Some m) fs ≡ fs
unfolding hear_all
hear_above n m k [] above = refl
hear_above n m k (f ∷ fs) above =
    let other : nat_eq m n ≡ false = grind (arith, above) in
    let next : n + 1 + length fs ≤ m = omega (arith, above) in
    ap (λ g. g ∷ hear_all (n + 1) k (Some m) fs) (one_named n m k f other)
    ∙ ap (λ gs. f ∷ gs) (hear_above (n + 1) m k fs next)

-- a number of the list names one of it
hear_at : (n i k : ℕ) (fs : List Fate) (d : Fate) → i < length fs
    → hear_all n k (Some (n + i)) fs ≡ set fs i (heard_at k (get_or fs i d))
unfolding hear_all
hear_at n i k [] d there = absurd (omega (arith, there))
hear_at n zero k (f ∷ fs) d there =
    let same : nat_eq (n + 0) n ≡ true = grind arith in
    let below : n + 0 < n + 1 = omega arith in
    ap (λ b. (if b then heard_at k f else f) ∷ hear_all (n + 1) k (Some (n + 0)) fs) same
    ∙ ap (λ gs. heard_at k f ∷ gs) (hear_below (n + 1) (n + 0) k fs below)
hear_at n (suc i) k (f ∷ fs) d there =
    let other : nat_eq (n + suc i) n ≡ false = grind arith in
    let at : n + suc i ≡ n + 1 + i = omega arith in
    let within : i < length fs = omega (arith, there) in
    ap (λ g. g ∷ hear_all (n + 1) k (Some (n + suc i)) fs) (one_named n (n + suc i) k f other)
    ∙ ap (λ m. f ∷ hear_all (n + 1) k (Some m) fs) at
    ∙ ap (λ gs. f ∷ gs) (hear_at (n + 1) i k fs d within)

or_none : (o : Option ℕ) → option_or o None ≡ o
or_none None = refl
or_none (Some x) = refl

heard_by_one : (b : Bool) (k : ℕ) (f : Fate)
    → (if b then heard_at k f else f).heard ≡ option_or f.heard (if b then Some k else None)
heard_by_one true k f = refl
heard_by_one false k f = sym (or_none f.heard)

one_heard : (n : ℕ) (es : List JournalEntry) (e : JournalEntry) (f : Fate) → f.sent < length es
    → f.heard ≡ first_heard n f.sent 0 es
    → (if is_named n (heard_in e.step.happening) then heard_at (length es) f else f).heard
    ≡ first_heard n f.sent 0 (es ++ e ∷ [])
unfolding first_heard
one_heard n es e f before is =
    let late : nat_lt f.sent (0 + length es) ≡ true = grind (arith, before) in
    let at : 0 + length es ≡ length es = omega arith in
    heard_by_one (is_named n (heard_in e.step.happening)) (length es) f
    ∙ ap (λ h. option_or h (if is_named n (heard_in e.step.happening) then Some (length es) else None)) is
    ∙ ap (λ b. option_or (first_heard n f.sent 0 es)
    (if b && is_named n (heard_in e.step.happening) then Some (length es) else None)) (sym late)
    ∙ ap (λ j. option_or (first_heard n f.sent 0 es)
    (if nat_lt f.sent (0 + length es) && is_named n (heard_in e.step.happening) then Some j else None))
    (sym at)
    ∙ sym (first_heard-append n f.sent 0 es e)

sent_same : (b : Bool) (k : ℕ) (f : Fate) → (if b then heard_at k f else f).sent ≡ f.sent
sent_same true k f = refl
sent_same false k f = refl

-- a step more, and the message that it delivers
pub heard_more : (n : ℕ) (es : List JournalEntry) (e : JournalEntry) (fs : List Fate) → HeardFrom n es fs
    → HeardFrom n (es ++ e ∷ []) (hear_all n (length es) (heard_in e.step.happening) fs)
unfolding HeardFrom hear_all
heard_more n es e [] all = tt
heard_more n es e (f ∷ fs) all =
    let named = is_named n (heard_in e.step.happening) in
    let sent = sent_same named (length es) f in
    let more : length (es ++ e ∷ []) ≡ length es + 1 = length-append es (e ∷ []) in
    let within : (if named then heard_at (length es) f else f).sent < length (es ++ e ∷ []) =
    omega (arith, sent, more, all.0) in (
      within,
      one_heard n es e f all.0 all.1 ∙ ap (λ s. first_heard n s 0 (es ++ e ∷ [])) (sym sent),
      heard_more (n + 1) es e fs all.2,
    )

-- the messages of two lists, one after the other
heard-append : (n : ℕ) (es : List JournalEntry) (fs gs : List Fate) → HeardFrom n es fs
    → HeardFrom (n + length fs) es gs
    → HeardFrom n es (fs ++ gs)
unfolding HeardFrom
heard-append n es [] gs first rest =
    let at : n + 0 ≡ n = omega arith in subst (λ m. HeardFrom m es gs) at rest
heard-append n es (f ∷ fs) gs first rest =
    let at : n + length (f ∷ fs) ≡ n + 1 + length fs = omega arith in
    (first.0, first.1, heard-append (n + 1) es fs gs first.2 (subst (λ m. HeardFrom m es gs) at rest))

-- messages that the last step sent
just_sent : (n count : ℕ) (es : List JournalEntry) (e : JournalEntry)
    → HeardFrom n (es ++ e ∷ []) (replicate count (unheard (length es)))
unfolding HeardFrom
just_sent n zero es e = tt
just_sent n (suc count) es e =
    let more : length (es ++ e ∷ []) ≡ length es + 1 = length-append es (e ∷ []) in
    let within : length es < length (es ++ e ∷ []) = omega (arith, more) in
    let past : 0 + length (es ++ e ∷ []) ≤ length es + 1 = omega (arith, more) in
    (within, sym (none_yet n (length es) 0 (es ++ e ∷ []) past), just_sent (n + 1) count es e)

-- one more of the first steps: what it delivers, and what it sends
pub each_more : (es : List JournalEntry) (k count : ℕ) (e : JournalEntry) (heard new : List Fate)
    → k < length es → e ≡ get_or es k e
    → HeardFrom 1 (take k es ++ e ∷ []) heard → new ≡ heard ++ replicate count (unheard k)
    → HeardFrom 1 (take (k + 1) es) new
each_more es k count e heard new there at all is =
    let within : k ≤ length es = omega (arith, there) in
    let taken = length-take-le k es within in
    let next : take (k + 1) es ≡ take k es ++ e ∷ [] =
    take_more es k e there ∙ ap (λ x. take k es ++ x ∷ []) (sym at) in
    let last : HeardFrom (1 + length heard) (take k es ++ e ∷ []) (replicate count (unheard k)) =
    subst (λ j. HeardFrom (1 + length heard) (take k es ++ e ∷ []) (replicate count (unheard j))) taken
    (just_sent (1 + length heard) count (take k es) e) in
    subst (λ xs. HeardFrom 1 xs new) (sym next)
    (subst (λ fs. HeardFrom 1 (take k es ++ e ∷ []) fs) (sym is)
    (heard-append 1 (take k es ++ e ∷ []) heard (replicate count (unheard k)) all last))

-- a step that delivers no message
pub hears_none : (es : List JournalEntry) (e : JournalEntry) (fs : List Fate)
    → heard_in e.step.happening ≡ None → HeardFrom 1 es fs
    → HeardFrom 1 (es ++ e ∷ []) fs
hears_none es e fs is all =
    subst (λ gs. HeardFrom 1 (es ++ e ∷ []) gs)
    (ap (λ o. hear_all 1 (length es) o fs) is ∙ hear_none 1 (length es) fs)
    (heard_more 1 es e fs all)

hears_known : (b : Bool) (m k : ℕ) (fs new : List Fate) → is_known (length fs) m ≡ b
    → (is_known (length fs) m ≡ true → new ≡ set fs (m - 1) (heard_at k (get_or fs (m - 1) no_fate)))
    → (is_known (length fs) m ≡ false → new ≡ fs) → new ≡ hear_all 1 k (Some m) fs
hears_known true m k fs new is known other =
    let low : 1 ≤ m = grind (arith, is) in
    let high : m ≤ length fs = grind (arith, is) in
    let within : m - 1 < length fs = omega (arith, low, high) in
    let at : 1 + (m - 1) ≡ m = omega (arith, low) in
    known is ∙ sym (hear_at 1 (m - 1) k fs no_fate within) ∙ ap (λ j. hear_all 1 k (Some j) fs) at
hears_known false zero k fs new is known other =
    let below : 0 < 1 = omega arith in other is ∙ sym (hear_below 1 0 k fs below)
hears_known false (suc m) k fs new is known other =
    let above : 1 + length fs ≤ suc m = grind (arith, is) in other is ∙ sym (hear_above 1 (suc m) k fs above)

-- a step that delivers the message with this number, if there is one
pub hears_one : (es : List JournalEntry) (e : JournalEntry) (m : ℕ) (fs new : List Fate)
    → heard_in e.step.happening ≡ Some m
    → (is_known (length fs) m ≡ true → new ≡ set fs (m - 1)
    (heard_at (length es) (get_or fs (m - 1) no_fate)))
    → (is_known (length fs) m ≡ false → new ≡ fs) → HeardFrom 1 es fs → HeardFrom 1 (es ++ e ∷ []) new
hears_one es e m fs new is known other all =
    subst (λ gs. HeardFrom 1 (es ++ e ∷ []) gs)
    (ap (λ o. hear_all 1 (length es) o fs) is
    ∙ sym (hears_known (is_known (length fs) m) m (length es) fs new refl known other))
    (heard_more 1 es e fs all)

-- messages that a step sent, by their sender
pub sent_all : (count step : ℕ) → map (λ (f : Fate). f.sent) (replicate count (unheard step))
    ≡ replicate count step
sent_all zero step = refl
sent_all (suc count) step = ap (λ ns. step ∷ ns) (sent_all count step)

-- as many as there were are written over them all
pub written_back : (new old : List Fate) (len : ℕ) → length new ≡ len
    → take len (new ++ drop (length new) old) ≡ new
written_back new old len is =
    ap (λ n. take n (new ++ drop (length new) old)) (sym is) ∙ take-append_seam new (drop (length new) old)

-- before the first step nothing is heard
pub none_heard : HeardFrom 1 [] []
unfolding HeardFrom
none_heard = tt
