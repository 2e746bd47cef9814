-- What has been seen of a front of records, and after one record more.
use Rattle.std.proofs.Common.{◌≡◌, ℕ, true, List, [], ◌∷◌, ◌++◌, append_assoc, Option, Some, None, refl, sym, ap, ◌∙◌, is_some, take, drop}
use Rattle.std.proofs.lemmas.List.{take-append-drop}
use Rattle.protocol.specs.declared.records.LogRecord.{LogRecord}
use Rattle.log_rules.specs.order.Orders.{SeenLog, after, nothing_seen}
use Rattle.kv_state.specs.Replays.{seen_after, seen_of}
use Rattle.kv_manager.specs.Sights.{are_ordered, has_records}

pub seen_never : (ls : List LogRecord) → seen_after None ls ≡ None
unfolding seen_after
seen_never [] = refl
seen_never (l ∷ ls) = refl

pub seen_more : (o : Option SeenLog) (ls ks : List LogRecord)
    → seen_after o (ls ++ ks) ≡ seen_after (seen_after o ls) ks
unfolding seen_after
seen_more o [] ks = refl
seen_more None (l ∷ ls) ks = sym (seen_never ks)
seen_more (Some s) (l ∷ ls) ks = seen_more (after s l) ls ks

-- what is some where a part of it is
some_front : (o : Option SeenLog) (ks : List LogRecord) → is_some (seen_after o ks) ≡ true
    → is_some o ≡ true
some_front None ks h = ap is_some (sym (seen_never ks)) ∙ h
some_front (Some s) ks h = refl

-- a front of records that may follow one another
pub ordered_front : (ls ks : List LogRecord) → are_ordered (ls ++ ks) ≡ true → are_ordered ls ≡ true
ordered_front ls ks h = some_front (seen_of ls) ks
    (ap is_some (sym (seen_more (Some nothing_seen) ls ks)) ∙ h)

-- and with a front of what is after them
pub ordered_taken : (ls ks : List LogRecord) (n : ℕ) → are_ordered (ls ++ ks) ≡ true
    → are_ordered (ls ++ take n ks) ≡ true
ordered_taken ls ks n h =
    some_front (seen_of (ls ++ take n ks)) (drop n ks)
    (ap is_some (sym (seen_more (Some nothing_seen) (ls ++ take n ks) (drop n ks)))
    ∙ ap (λ rs. is_some (seen_of rs)) (append_assoc ls (take n ks) (drop n ks))
    ∙ ap (λ rs. is_some (seen_of (ls ++ rs))) (take-append-drop n ks) ∙ h)

-- what was seen of records that may follow one another
pub seen_where : (ls : List LogRecord) → are_ordered ls ≡ true → (s : SeenLog) × (seen_of ls ≡ Some s)
seen_where ls h = by_option (seen_of ls) refl h
  where
    by_option : (o : Option SeenLog) → seen_of ls ≡ o → is_some o ≡ true → (s : SeenLog)
        × (seen_of ls ≡ Some s)
    by_option None e h = absurd (cc)
    by_option (Some s) e h = (s, e)

-- one record more
pub seen_one : (ls : List LogRecord) (s : SeenLog) (l : LogRecord) → seen_of ls ≡ Some s
    → seen_of (ls ++ l ∷ []) ≡ after s l
unfolding seen_after
seen_one ls s l h = seen_more (Some nothing_seen) ls (l ∷ []) ∙ ap (λ o. seen_after o (l ∷ [])) h
    ∙ by_after (after s l)
  where
    by_after : (o : Option SeenLog) → seen_after o [] ≡ o
    by_after o = refl

pub has_more : (ls : List LogRecord) (l : LogRecord) → has_records (ls ++ l ∷ []) ≡ true
has_more [] l = refl
has_more (k ∷ ls) l = refl
