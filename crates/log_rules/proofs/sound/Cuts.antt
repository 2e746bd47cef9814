-- Bytes that were cut into parts: numbers, tickets, keys, values and writes.
use Rattle.std.proofs.Common.{◌≡◌, ◌≤◌, ◌+◌, ◌*◌, ℕ, zero, suc, Bool, true, false, ◌&&◌, cond, nat_le, List, [], ◌∷◌, ◌++◌, length, take, drop, Option, Some, None, option_map, refl, sym, ap, subst, ◌∙◌, arith, append_assoc, append-nil, flat_map}
use Rattle.std.specs.Prelude.{unwrap_or, ◌==◌}
use Rattle.std.proofs.lemmas.Bool.Decides.{nat_tests}
use Rattle.std.proofs.lemmas.Grind.{common_steps}
use Rattle.std.proofs.lemmas.List.{take-append-drop}
use Rattle.byteorder.specs.Endian.{big_bytes, big_number}
use Rattle.protocol.specs.declared.names.Ticket.{Ticket}
use Rattle.protocol.specs.declared.records.Reports.{Reports}
use Rattle.protocol.specs.declared.records.Write.{Write}
use Rattle.log_text.specs.Parts.{Front, all_of, alone, and_more, fits_ticket, front_of, key_at, left_at, piece_at, put_of, reports_by, reports_of, ticket_at, ticket_in, tickets_at, tickets_of, value_at, with_first, write_at, write_by, writes_of}
use Rattle.log_text.specs.Payloads.{key_text, left_text, reports_text, ticket_text, tickets_text, value_text, write_text, writes_text}
use Rattle.log_rules.specs.sound.Written.{AreBytes}
pub use Rattle.log_text.proofs.NumberBytes.{bytes_behind, first_bytes, number_again, number_bytes, tail_bytes}

-- What is after a test that passed.

pub both : (a b : Bool) → (a && b) ≡ true → (a ≡ true) × (b ≡ true)
both true true h = (refl, refl)
both true false h = absurd (cc)
both false b h = absurd (cc)

pub some_is : {A : Type 0} (a b : A) → Some a ≡ Some b → a ≡ b
some_is {A} a b h = ap (λ o. unwrap_or o a) h

pub none_some : {A : Type 0} (a : A) → ◌≡◌ {A = Option A} None (Some a) → ⊥
none_some a h = absurd (cc)

-- what is given where a test passes
pub passed : {A : Type 0} (b : Bool) (x y : A) → cond b (Some x) None ≡ Some y → (b ≡ true) × (x ≡ y)
passed true x y h = (refl, some_is x y h)
passed false x y h = absurd (none_some y h)

pub at_most : (n m : ℕ) → nat_le n m ≡ true → n ≤ m
at_most n m h = grind (arith, nat_tests)

pub is_number : (n m : ℕ) → (n == m) ≡ true → n ≡ m
is_number n m h = grind (arith, nat_tests)

pub empty : (xs : List ℕ) → (length xs == 0) ≡ true → xs ≡ []
empty [] h = refl
empty (x ∷ xs) h = absurd (let e = is_number (length (x ∷ xs)) 0 h in omega (arith, e))

-- Tickets.

plus_none : (m : ℕ) → m ≡ 0 + m
plus_none m = omega arith

drop_none : (m : ℕ) → ◌≡◌ {A = List ℕ} (drop m []) []
drop_none zero = refl
drop_none (suc m) = refl

cut_twice : (n m : ℕ) (xs : List ℕ) → drop m (drop n xs) ≡ drop (n + m) xs
cut_twice zero m xs = ap (λ k. drop k xs) (plus_none m)
cut_twice (suc n) m [] = drop_none m ∙ sym (drop_none (suc n + m))
cut_twice (suc n) m (x ∷ xs) = cut_twice n m xs ∙ ap (λ k. drop k (x ∷ xs)) (more n m)
  where
    more : (n m : ℕ) → suc (n + m) ≡ suc n + m
    more n m = omega arith

left_over : (n : ℕ) (xs : List ℕ) (k : ℕ) → n + k ≤ length xs → k ≤ length (drop n xs)
left_over zero xs k h = omega (arith, h)
left_over (suc n) [] k h = absurd (omega (arith, h))
left_over (suc n) (x ∷ xs) k h = left_over n xs k (omega (arith, h))

ticket_as_read : (xs : List ℕ) → AreBytes xs → 20 ≤ length xs → ticket_text (ticket_in xs) ++ drop 20 xs ≡ xs
unfolding ticket_text
ticket_as_read xs h le =
    let child : big_bytes 4 (big_number 4 xs) ≡ take 4 xs = number_again 4 xs h (omega (arith, le)) in
    let boot : big_bytes 8 (big_number 8 (drop 4 xs)) ≡ take 8 (drop 4 xs) =
    number_again 8 (drop 4 xs) (bytes_behind 4 xs h) (left_over 4 xs 8 (omega (arith, le))) in
    let number : big_bytes 8 (big_number 8 (drop 12 xs)) ≡ take 8 (drop 12 xs) =
    number_again 8 (drop 12 xs) (bytes_behind 12 xs h) (left_over 12 xs 8 (omega (arith, le))) in
    let c = big_bytes 4 (big_number 4 xs) in
    let b = big_bytes 8 (big_number 8 (drop 4 xs)) in
    let n = big_bytes 8 (big_number 8 (drop 12 xs)) in
    append_assoc c (b ++ n) (drop 20 xs) ∙ ap (λ z. c ++ z) (append_assoc b n (drop 20 xs))
    ∙ ap (λ z. c ++ (b ++ z)) (ap (λ y. y ++ drop 20 xs) number
    ∙ ap (λ y. take 8 (drop 12 xs) ++ y) (sym (cut_twice 12 8 xs)) ∙ take-append-drop 8 (drop 12 xs))
    ∙ ap (λ z. c ++ z) (ap (λ y. y ++ drop 12 xs) boot
    ∙ ap (λ y. take 8 (drop 4 xs) ++ y) (sym (cut_twice 4 8 xs)) ∙ take-append-drop 8 (drop 4 xs))
    ∙ ap (λ y. y ++ drop 4 xs) child ∙ take-append-drop 4 xs

-- what was read at the front was written there, and bytes are left
pub record IsCut {A : Type 0} (text : A → List ℕ) (xs : List ℕ) (p : A × List ℕ) : Type 0 where
  pub written : xs ≡ text p.0 ++ p.1
  pub bytes : AreBytes p.1

pub ticket_cut : (xs : List ℕ) (p : Ticket × List ℕ) → AreBytes xs → ticket_at xs ≡ Some p
    → IsCut ticket_text xs p
unfolding ticket_at
ticket_cut xs p h e =
    let got = passed (nat_le 20 (length xs) && fits_ticket (ticket_in xs)) (ticket_in xs, drop 20 xs) p e in
    let long : 20 ≤ length xs = at_most 20 (length xs)
    (both (nat_le 20 (length xs)) (fits_ticket (ticket_in xs)) got.0).0 in
    subst (λ q. IsCut ticket_text xs q) got.1
    (record { written = sym (ticket_as_read xs h long); bytes = bytes_behind 20 xs h })

-- Lists.

-- N parts were written at the front, and bytes are left
pub record AreCut {A : Type 0} (text : A → List ℕ) (n : ℕ) (xs : List ℕ) (p : List A × List ℕ) : Type 0 where
  pub written : xs ≡ flat_map text p.0 ++ p.1
  pub counted : n ≡ length p.0
  pub bytes : AreBytes p.1

-- the first was cut, and what is read after it
rest_cut : {A : Type 0} (text : A → List ℕ) (xs : List ℕ) (a : A × List ℕ) (n : ℕ) (p : List A × List ℕ)
    (o : Front (List A))
    → IsCut text xs a → with_first a.0 o ≡ Some p
    → ((q : List A × List ℕ) → o ≡ Some q → AreCut text n a.1 q)
    → AreCut text (suc n) xs p
rest_cut text xs a n p None cut e more = absurd (none_some p e)
rest_cut {A} text xs a n p (Some q) cut e more =
    let behind = more q refl in
    subst (λ (r : List A × List ℕ). AreCut text (suc n) xs r) (some_is _ p e) (record {
      written = cut.written ∙ ap (λ t. text a.0 ++ t) behind.written
          ∙ sym (append_assoc (text a.0) (flat_map text q.0) q.1);
      counted = ap suc behind.counted;
      bytes = behind.bytes;
    })

first_cut : {A : Type 0} (at : List ℕ → Front A) (text : A → List ℕ)
    → ((xs : List ℕ) (p : A × List ℕ) → AreBytes xs → at xs ≡ Some p → IsCut text xs p)
    → (n : ℕ) (xs : List ℕ) (p : List A × List ℕ) → AreBytes xs → (o : Front A) → at xs ≡ o
    → and_more o (front_of at n) ≡ Some p
    → ((us : List ℕ) (q : List A × List ℕ) → AreBytes us → front_of at n us ≡ Some q → AreCut text n us q)
    → AreCut text (suc n) xs p
first_cut at text cuts n xs p h None is e more = absurd (none_some p e)
first_cut at text cuts n xs p h (Some a) is e more =
    let cut = cuts xs a h is in
    rest_cut text xs a n p (front_of at n a.1) cut e (λ q g. more a.1 q cut.bytes g)

pub front_cut : {A : Type 0} (at : List ℕ → Front A) (text : A → List ℕ)
    → ((xs : List ℕ) (p : A × List ℕ) → AreBytes xs → at xs ≡ Some p → IsCut text xs p)
    → (n : ℕ) (xs : List ℕ) (p : List A × List ℕ) → AreBytes xs → front_of at n xs ≡ Some p
    → AreCut text n xs p
unfolding front_of
front_cut {A} at text cuts zero xs p h e =
    subst (λ (r : List A × List ℕ). AreCut text zero xs r) (some_is _ p e)
    (record { written = refl; counted = refl; bytes = h })
front_cut at text cuts (suc n) xs p h e = first_cut at text cuts n xs p h (at xs) refl e
    (λ us q k g. front_cut at text cuts n us q k g)

-- what stands alone is all that was left
pub alone_is : {A : Type 0} (o : Front A) (x : A) → alone o ≡ Some x → o ≡ Some (x, [])
alone_is None x e = absurd (none_some x e)
alone_is (Some p) x e =
    let got = passed (length p.1 == 0) p.0 x e in
    let none : p.1 ≡ [] = empty p.1 got.0 in
    let one : p.0 ≡ x = got.1 in
    (λ i. Some (one i, none i))

pub all_cut : {A : Type 0} (at : List ℕ → Front A) (text : A → List ℕ)
    → ((xs : List ℕ) (p : A × List ℕ) → AreBytes xs → at xs ≡ Some p → IsCut text xs p)
    → (n : ℕ) (xs : List ℕ) (ys : List A) → AreBytes xs → all_of at n xs ≡ Some ys
    → (xs ≡ flat_map text ys) × (n ≡ length ys)
all_cut at text cuts n xs ys h e =
    let cut = front_cut at text cuts n xs (ys, []) h (alone_is (front_of at n xs) ys e) in
    (cut.written ∙ append-nil (flat_map text ys), cut.counted)

pub tickets_cut : (xs : List ℕ) (ts : List Ticket) → AreBytes xs → tickets_of xs ≡ Some ts
    → tickets_text ts ≡ xs
tickets_cut [] ts h e = absurd (none_some ts e)
tickets_cut (count ∷ rest) ts h e =
    let all = all_cut ticket_at ticket_text ticket_cut count rest ts (tail_bytes count rest h) e in
    ap (λ n. n ∷ flat_map ticket_text ts) (sym all.1) ∙ ap (λ t. count ∷ t) (sym all.0)

pub front_tickets_cut : (xs : List ℕ) (p : List Ticket × List ℕ) → AreBytes xs → tickets_at xs ≡ Some p
    → (tickets_text p.0 ++ p.1 ≡ xs) × AreBytes p.1
front_tickets_cut [] p h e = absurd (none_some p e)
front_tickets_cut (count ∷ rest) p h e =
    let cut = front_cut ticket_at ticket_text ticket_cut count rest p (tail_bytes count rest h) e in (
      ap (λ n. n ∷ (flat_map ticket_text p.0 ++ p.1)) (sym cut.counted)
          ∙ ap (λ t. count ∷ t) (sym cut.written),
      cut.bytes,
    )

-- Reports.

rest_reports : (xs : List ℕ) (p : List Ticket × List ℕ) (r : Reports) (o : Option (List Ticket))
    → AreBytes p.1 → tickets_text p.0 ++ p.1 ≡ xs → tickets_of p.1 ≡ o
    → option_map (λ ts. record { mixed = p.0; unreported = ts }) o ≡ Some r → reports_text r ≡ xs
rest_reports xs p r None h w is e = absurd (none_some r e)
rest_reports xs p r (Some ts) h w is e =
    subst (λ (q : Reports). reports_text q ≡ xs) (some_is _ r e)
    (ap (λ t. tickets_text p.0 ++ t) (tickets_cut p.1 ts h is) ∙ w)

reports_by_cut : (xs : List ℕ) (r : Reports) (o : Front (List Ticket)) → AreBytes xs → tickets_at xs ≡ o
    → reports_by o ≡ Some r → reports_text r ≡ xs
reports_by_cut xs r None h is e = absurd (none_some r e)
reports_by_cut xs r (Some p) h is e =
    let cut = front_tickets_cut xs p h is in
    rest_reports xs p r (tickets_of p.1) cut.1 cut.0 refl e

pub reports_cut : (xs : List ℕ) (r : Reports) → AreBytes xs → reports_of xs ≡ Some r → reports_text r ≡ xs
reports_cut xs r h e = reports_by_cut xs r (tickets_at xs) h refl e

-- Keys, values and writes.

pub piece_cut : (least most size : ℕ) (rest : List ℕ) (p : List ℕ × List ℕ)
    → piece_at least most size rest ≡ Some p
    → (rest ≡ p.0 ++ p.1) × ((length p.0 ≡ size) × (p.1 ≡ drop size rest))
piece_cut least most size rest p e =
    let got = passed (nat_le least size && nat_le size most && nat_le size (length rest))
    (take size rest, drop size rest) p e in
    let long : size ≤ length rest = at_most size (length rest) (grind (arith, common_steps)) in
    subst (λ (q : List ℕ × List ℕ). (rest ≡ q.0 ++ q.1) × ((length q.0 ≡ size) × (q.1 ≡ drop size rest)))
    got.1
    (sym (take-append-drop size rest), (taken size rest long, refl))
  where
    taken : (n : ℕ) (xs : List ℕ) → n ≤ length xs → length (take n xs) ≡ n
    taken zero xs h = refl
    taken (suc n) [] h = absurd (omega (arith, h))
    taken (suc n) (x ∷ xs) h = let e = taken n xs (omega (arith, h)) in omega (arith, e)

pub key_cut : (xs : List ℕ) (p : List ℕ × List ℕ) → AreBytes xs → key_at xs ≡ Some p → IsCut key_text xs p
key_cut [] p h e = absurd (none_some p e)
key_cut (size ∷ rest) p h e =
    let cut = piece_cut 1 64 size rest p e in
    record {
      written = ap (λ t. size ∷ t) cut.0 ∙ ap (λ n. n ∷ (p.0 ++ p.1)) (sym cut.1.0);
      bytes = subst AreBytes (sym cut.1.1) (bytes_behind size rest (tail_bytes size rest h));
    }

pub value_cut : (xs : List ℕ) (p : List ℕ × List ℕ) → AreBytes xs → value_at xs ≡ Some p
    → IsCut value_text xs p
unfolding value_text
value_cut [] p h e = absurd (none_some p e)
value_cut (high ∷ []) p h e = absurd (none_some p e)
value_cut (high ∷ low ∷ rest) p h e =
    let size = high * 256 + low in
    let cut = piece_cut 0 256 size rest p e in
    let after = tail_bytes low rest (tail_bytes high (low ∷ rest) h) in
    let number : big_number 2 (high ∷ low ∷ rest) ≡ size = omega arith in
    let bytes : big_bytes 2 size ≡ high ∷ low ∷ [] =
    ap (big_bytes 2) (sym number) ∙ number_again 2 (high ∷ low ∷ rest) h (omega arith) in
    record {
      written = ap (λ t. high ∷ low ∷ t) cut.0
          ∙ ap (λ t. t ++ (p.0 ++ p.1)) (sym (ap (big_bytes 2) cut.1.0 ∙ bytes))
          ∙ sym (append_assoc (big_bytes 2 (length p.0)) p.0 p.1);
      bytes = subst AreBytes (sym cut.1.1) (bytes_behind size rest after);
    }

-- a value that is put is cut after its byte 1
put_cut : (key rest : List ℕ) (o : Front (List ℕ)) (p : Write × List ℕ) → value_at rest ≡ o → AreBytes rest
    → put_of key o ≡ Some p
    → (1 ∷ rest ≡ left_text p.0.value ++ p.1) × ((p.0.key ≡ key) × AreBytes p.1)
put_cut key rest None p is h e = absurd (none_some p e)
put_cut key rest (Some v) p is h e =
    let cut = value_cut rest v h is in
    subst (λ (q : Write × List ℕ). (1 ∷ rest ≡ left_text q.0.value ++ q.1) × ((q.0.key ≡ key) × AreBytes q.1))
    (some_is _ p e)
    (ap (λ t. 1 ∷ t) cut.written, (refl, cut.bytes))

left_cut : (key xs : List ℕ) (p : Write × List ℕ) → AreBytes xs → left_at key xs ≡ Some p
    → (xs ≡ left_text p.0.value ++ p.1) × ((p.0.key ≡ key) × AreBytes p.1)
left_cut key [] p h e = absurd (none_some p e)
left_cut key (how ∷ rest) p h e = by_how (how == 0) (how == 1) refl refl e
  where
    by_how : (a b : Bool) → (how == 0) ≡ a → (how == 1) ≡ b
        → cond a (Some (record { key = key; value = None }, rest)) (cond b (put_of key (value_at rest)) None)
        ≡ Some p
        → (how ∷ rest ≡ left_text p.0.value ++ p.1) × ((p.0.key ≡ key) × AreBytes p.1)
    by_how true b is other f =
        let none : how ≡ 0 = grind (arith, nat_tests) in
        subst (λ (q : Write × List ℕ). (how ∷ rest ≡ left_text q.0.value ++ q.1)
        × ((q.0.key ≡ key) × AreBytes q.1)) (some_is _ p f)
        (ap (λ n. n ∷ rest) none, (refl, tail_bytes how rest h))
    by_how false true is other f =
        let one : how ≡ 1 = grind (arith, nat_tests) in
        let cut = put_cut key rest (value_at rest) p refl (tail_bytes how rest h) f in
        (ap (λ n. n ∷ rest) one ∙ cut.0, cut.1)
    by_how false false is other f = absurd (none_some p f)

write_of_key : (xs : List ℕ) (o : Front (List ℕ)) (p : Write × List ℕ) → AreBytes xs → key_at xs ≡ o
    → write_by o ≡ Some p → IsCut write_text xs p
unfolding write_text
write_of_key xs None p h is e = absurd (none_some p e)
write_of_key xs (Some k) p h is e =
    let key = key_cut xs k h is in
    let left = left_cut k.0 k.1 p key.bytes e in
    record {
      written = key.written ∙ ap (λ t. key_text k.0 ++ t) left.0
          ∙ sym (append_assoc (key_text k.0) (left_text p.0.value) p.1)
          ∙ ap (λ j. (key_text j ++ left_text p.0.value) ++ p.1) (sym left.1.0);
      bytes = left.1.1;
    }

pub write_cut : (xs : List ℕ) (p : Write × List ℕ) → AreBytes xs → write_at xs ≡ Some p
    → IsCut write_text xs p
unfolding write_at
write_cut xs p h e = write_of_key xs (key_at xs) p h refl e

pub writes_cut : (xs : List ℕ) (ws : List Write) → AreBytes xs → writes_of xs ≡ Some ws → writes_text ws ≡ xs
writes_cut [] ws h e = absurd (none_some ws e)
writes_cut (count ∷ rest) ws h e = by_count (nat_le 1 count && nat_le count 64) e
  where
    by_count : (b : Bool) → cond b (all_of write_at count rest) None ≡ Some ws → writes_text ws ≡ count ∷ rest
    by_count true f =
        let all = all_cut write_at write_text write_cut count rest ws (tail_bytes count rest h) f in
        ap (λ n. n ∷ flat_map write_text ws) (sym all.1) ∙ ap (λ t. count ∷ t) (sym all.0)
    by_count false f = absurd (none_some ws f)
