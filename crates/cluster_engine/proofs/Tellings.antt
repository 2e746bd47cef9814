-- What a journal tells, entry by entry and turn by turn.
use Rattle.std.proofs.Common.{◌≡◌, ◌∙◌, ◌+◌, ◌<◌, ap, sym, refl, ℕ, suc, List, [], ◌∷◌, ◌++◌, length, get_or, take, append-nil, append_assoc, arith}
use Rattle.std.proofs.lemmas.List.{length-take-le, take_more}
use Rattle.std.specs.Global.{Vec}
use Rattle.std.specs.Option.{option_to_list}
use Rattle.protocol.specs.declared.events.JournalEntry.{JournalEntry}
use Rattle.protocol.specs.declared.events.Told.{Told}
use Rattle.cluster_turns.specs.Turns.{all_of}
use Rattle.cluster_turns.proofs.Gathered.{all_more}
use Rattle.cluster_engine.specs.declared.told.ToldPlace.{ToldPlace}
use Rattle.cluster_engine.specs.Told.{told_in, told_places}

told_both : (xs ys : List (ℕ × JournalEntry)) → told_in (xs ++ ys) ≡ told_in xs ++ told_in ys
told_both [] ys = refl
told_both (x ∷ xs) ys =
    let one = option_to_list x.1.reaction.told in
    ap (λ l. one ++ l) (told_both xs ys) ∙ sym (append_assoc one (told_in xs) (told_in ys))

-- what is told up to the next entry
pub told_next : (first : List Told) (xs : List (ℕ × JournalEntry)) (i : ℕ) (d : ℕ × JournalEntry)
    (old new : List Told)
    → i < length xs → new ≡ old ++ option_to_list (get_or xs i d).1.reaction.told
    → old ≡ first ++ told_in (take i xs) → new ≡ first ++ told_in (take (i + 1) xs)
told_next first xs i d old new lt pushed so =
    let x = get_or xs i d in
    let one = option_to_list x.1.reaction.told in
    let more : told_in (take (i + 1) xs) ≡ told_in (take i xs) ++ one =
    ap told_in (take_more xs i d lt) ∙ told_both (take i xs) (x ∷ [])
    ∙ ap (λ l. told_in (take i xs) ++ l) (append-nil one) in
    pushed ∙ ap (λ l. l ++ one) so ∙ append_assoc first (told_in (take i xs)) one
    ∙ ap (λ l. first ++ l) (sym more)

-- what is told up to the next turn
pub told_turn : (es : List (Vec (ℕ × JournalEntry))) (i : ℕ) (d : Vec (ℕ × JournalEntry))
    (old new : List Told) → i < length es
    → new ≡ old ++ told_in (get_or es i d).items → old ≡ told_in (all_of (take i es))
    → new ≡ told_in (all_of (take (i + 1) es))
told_turn es i d old new lt pushed so =
    let e = get_or es i d in
    pushed ∙ ap (λ l. l ++ told_in e.items) so ∙ sym (told_both (all_of (take i es)) e.items)
    ∙ ap told_in (sym (all_more (take i es) e)) ∙ ap (λ l. told_in (all_of l)) (sym (take_more es i d lt))

-- a place more
places_more : (n : ℕ) (ts : List Told) (t : Told)
    → told_places n (ts ++ t ∷ []) ≡ told_places n ts
    ++ record { boot = t.txn.boot; sequence = t.txn.sequence; place = n + length ts } ∷ []
places_more n [] t =
    let here : n ≡ n + 0 = omega arith in
    ap (λ k. record { boot = t.txn.boot; sequence = t.txn.sequence; place = k } ∷ []) here
places_more n (u ∷ ts) t =
    let here : suc n + length ts ≡ n + suc (length ts) = omega arith in
    ap (λ l. record { boot = u.txn.boot; sequence = u.txn.sequence; place = n } ∷ l)
    (places_more (suc n) ts t
    ∙ ap (λ k. told_places (suc n) ts ++ record { boot = t.txn.boot; sequence = t.txn.sequence; place = k }
    ∷ []) here)

pub place_next : (ts : List Told) (i : ℕ) (d : Told) (old new : List ToldPlace) → i < length ts
    → new ≡ old ++ record {
      boot = (get_or ts i d).txn.boot;
      sequence = (get_or ts i d).txn.sequence;
      place = i;
    } ∷ []
    → old ≡ told_places 0 (take i ts) → new ≡ told_places 0 (take (i + 1) ts)
place_next ts i d old new lt pushed so =
    let t = get_or ts i d in
    let here : i ≡ 0 + length (take i ts) = sym (length-take-le i ts (omega arith))
    ∙ zero_plus (length (take i ts)) in
    pushed
    ∙ ap (λ l. l ++ record { boot = t.txn.boot; sequence = t.txn.sequence; place = i } ∷ []) so
    ∙ ap (λ k. told_places 0 (take i ts) ++ record { boot = t.txn.boot; sequence = t.txn.sequence; place = k }
    ∷ []) here
    ∙ sym (places_more 0 (take i ts) t) ∙ ap (told_places 0) (sym (take_more ts i d lt))
  where
    zero_plus : (n : ℕ) → n ≡ 0 + n
    zero_plus n = omega arith
