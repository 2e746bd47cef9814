-- The parts of a payload read as they were written.
use Rattle.std.proofs.Common.{◌≡◌, ◌≤◌, ◌<◌, ◌+◌, ◌*◌, ◌^◌, ℕ, true, ◌&&◌, nat_le, nat_lt, if◌then◌else◌, List, [], ◌∷◌, ◌++◌, length, take, drop, Option, Some, None, option_map, refl, sym, ap, ◌∙◌, arith, append_assoc, append-nil, length-append, slice_index, flat_map}
use Rattle.std.proofs.Math.Seq.{drop-append_seam, drop-append-add, take-append_seam}
use Rattle.std.proofs.lemmas.Bool.Decides.{nat_tests}
use Rattle.std.specs.List.{AllByRecursion}
use Rattle.byteorder.specs.Endian.{big_bytes, big_number}
use Rattle.byteorder.specs.Numbers.{big_number-reads_back, length-bytes_high_first}
use Rattle.protocol.specs.declared.names.Ticket.{Ticket}
use Rattle.protocol.specs.declared.records.Reports.{Reports}
use Rattle.protocol.specs.declared.records.Write.{Write}
use Rattle.log_text.specs.Parts.{Front, all_of, alone, and_more, fits_ticket, front_of, key_at, left_at, piece_at, put_of, reports_by, reports_of, ticket_at, ticket_in, tickets_at, tickets_of, value_at, with_first, write_at, write_by, writes_of}
use Rattle.log_text.specs.Payloads.{key_text, left_text, reports_text, ticket_text, tickets_text, value_text, write_text, writes_text}
use Rattle.log_rules.specs.sound.Sound.{AreSoundReports, AreSoundTickets, AreSoundWrites, IsSoundKey, IsSoundLeft, IsSoundTicket, IsSoundWrite}

-- Lists.

front_back : {A : Type 0} (Sound : A → Type 0) (at : List ℕ → Front A) (text : A → List ℕ)
    → ((x : A) (rest : List ℕ) → Sound x → at (text x ++ rest) ≡ Some (x, rest))
    → (xs : List A) (rest : List ℕ) → AllByRecursion Sound xs
    → front_of at (length xs) (flat_map text xs ++ rest) ≡ Some (xs, rest)
unfolding front_of
front_back Sound at text back [] rest h = refl
front_back Sound at text back (x ∷ xs) rest h =
    ap (λ t. and_more (at t) (front_of at (length xs))) (append_assoc (text x) (flat_map text xs) rest)
    ∙ ap (λ f. and_more f (front_of at (length xs))) (back x (flat_map text xs ++ rest) h.0)
    ∙ ap (with_first x) (front_back Sound at text back xs rest h.1)

all_back : {A : Type 0} (Sound : A → Type 0) (at : List ℕ → Front A) (text : A → List ℕ)
    → ((x : A) (rest : List ℕ) → Sound x → at (text x ++ rest) ≡ Some (x, rest))
    → (xs : List A) → AllByRecursion Sound xs → all_of at (length xs) (flat_map text xs) ≡ Some xs
all_back Sound at text back xs h =
    ap (λ t. alone (front_of at (length xs) t)) (sym (append-nil (flat_map text xs)))
    ∙ ap alone (front_back Sound at text back xs [] h)

-- Tickets.

behind : (n k : ℕ) (a b : List ℕ) → length a ≡ n → drop (n + k) (a ++ b) ≡ drop k b
behind n k a b h = ap (λ m. drop (m + k) (a ++ b)) (sym h) ∙ drop-append-add a b k

ticket_is : (t : Ticket) (child boot number : ℕ) → child ≡ t.child.0 → boot ≡ t.boot → number ≡ t.number
    → record { child = record { 0 = child }; boot = boot; number = number } ≡ t
ticket_is t child boot number c b n = rw (c, b, n) refl

ticket_again : (t : Ticket) (rest : List ℕ) → IsSoundTicket t → ticket_in (ticket_text t ++ rest) ≡ t
unfolding ticket_text
ticket_again t rest h =
    let c = big_bytes 4 t.child.0 in
    let b = big_bytes 8 t.boot in
    let n = big_bytes 8 t.number in
    let joined : (c ++ (b ++ n)) ++ rest ≡ c ++ (b ++ (n ++ rest)) = append_assoc c (b ++ n) rest
    ∙ ap (λ z. c ++ z) (append_assoc b n rest) in
    let at4 : drop 4 ((c ++ (b ++ n)) ++ rest) ≡ b ++ (n ++ rest) = ap (drop 4) joined
    ∙ behind 4 0 c (b ++ (n ++ rest)) (length-bytes_high_first 4 t.child.0) in
    let at12 : drop 12 ((c ++ (b ++ n)) ++ rest) ≡ n ++ rest =
    ap (drop 12) joined ∙ behind 4 8 c (b ++ (n ++ rest)) (length-bytes_high_first 4 t.child.0)
    ∙ behind 8 0 b (n ++ rest) (length-bytes_high_first 8 t.boot) in
    ticket_is t _ _ _
    (ap (big_number 4) joined ∙ big_number-reads_back 4 t.child.0 (b ++ (n ++ rest)) h.child)
    (ap (big_number 8) at4 ∙ big_number-reads_back 8 t.boot (n ++ rest) (omega (arith, h.boot)))
    (ap (big_number 8) at12 ∙ big_number-reads_back 8 t.number rest (omega (arith, h.number)))

length-ticket_text : (t : Ticket) → length (ticket_text t) ≡ 20
unfolding ticket_text
length-ticket_text t = refl

below_limit : (n : ℕ) → n < 2 ^ 63 → nat_lt n (2 ^ 63) ≡ true
below_limit n h = grind (arith, nat_tests)

fits : (t : Ticket) → IsSoundTicket t → fits_ticket t ≡ true
fits t h = ap (λ b. b && nat_lt t.number (2 ^ 63)) (below_limit t.boot h.boot) ∙ below_limit t.number h.number

enough : (n m : ℕ) → n ≤ m → nat_le n m ≡ true
enough n m h = grind (arith, nat_tests)

ticket_back : (t : Ticket) (rest : List ℕ) → IsSoundTicket t
    → ticket_at (ticket_text t ++ rest) ≡ Some (t, rest)
unfolding ticket_at
ticket_back t rest h =
    let again = ticket_again t rest h in
    let long : nat_le 20 (length (ticket_text t ++ rest)) ≡ true =
    enough 20 _ (omega (arith, length-append (ticket_text t) rest, length-ticket_text t)) in
    let left : drop 20 (ticket_text t ++ rest) ≡ rest =
    ap (λ k. drop k (ticket_text t ++ rest)) (sym (length-ticket_text t))
    ∙ drop-append_seam (ticket_text t) rest in
    ap (λ u. if nat_le 20 (length (ticket_text t ++ rest)) && fits_ticket u
    then Some (u, drop 20 (ticket_text t ++ rest)) else None) again
    ∙ ap (λ b. if b && fits_ticket t then Some (t, drop 20 (ticket_text t ++ rest)) else None) long
    ∙ ap (λ b. if b then Some (t, drop 20 (ticket_text t ++ rest)) else None) (fits t h)
    ∙ ap (λ r. Some (t, r)) left

pub tickets_back : (ts : List Ticket) → AreSoundTickets ts → tickets_of (tickets_text ts) ≡ Some ts
tickets_back ts h = all_back IsSoundTicket ticket_at ticket_text ticket_back ts h.each

front_tickets : (ts : List Ticket) (rest : List ℕ) → AreSoundTickets ts
    → tickets_at (tickets_text ts ++ rest) ≡ Some (ts, rest)
front_tickets ts rest h = front_back IsSoundTicket ticket_at ticket_text ticket_back ts rest h.each

pub reports_back : (r : Reports) → AreSoundReports r → reports_of (reports_text r) ≡ Some r
reports_back r h =
    ap reports_by (front_tickets r.mixed (tickets_text r.unreported) h.mixed)
    ∙ ap (option_map (λ ts. record { mixed = r.mixed; unreported = ts }))
    (tickets_back r.unreported h.unreported)

-- Keys, values and writes.

piece_back : (least most : ℕ) (piece rest : List ℕ) → least ≤ length piece → length piece ≤ most
    → piece_at least most (length piece) (piece ++ rest) ≡ Some (piece, rest)
piece_back least most piece rest h k =
    ap (λ b. if b && nat_le (length piece) most && nat_le (length piece) (length (piece ++ rest))
    then Some (take (length piece) (piece ++ rest), drop (length piece) (piece ++ rest)) else None)
    (enough _ _ h)
    ∙ ap (λ b. if b && nat_le (length piece) (length (piece ++ rest))
    then Some (take (length piece) (piece ++ rest), drop (length piece) (piece ++ rest)) else None)
    (enough _ _ k)
    ∙ ap (λ b. if b then Some (take (length piece) (piece ++ rest), drop (length piece) (piece ++ rest))
    else None)
    (enough (length piece) (length (piece ++ rest)) (omega (arith, length-append piece rest)))
    ∙ ap (λ t. Some (t, drop (length piece) (piece ++ rest))) (take-append_seam piece rest)
    ∙ ap (λ t. Some (piece, t)) (drop-append_seam piece rest)

pub key_back : (k rest : List ℕ) → IsSoundKey k → key_at (key_text k ++ rest) ≡ Some (k, rest)
key_back k rest h = piece_back 1 64 k rest h.some h.short

two_bytes : (n : ℕ) (ys : List ℕ) → n < 65536
    → slice_index (big_bytes 2 n) 0 * 256 + slice_index (big_bytes 2 n) 1 ≡ n
two_bytes n ys h = let e = big_number-reads_back 2 n ys (omega arith) in omega (arith, e)

pub value_back : (v rest : List ℕ) → length v ≤ 256 → value_at (value_text v ++ rest) ≡ Some (v, rest)
unfolding value_text
value_back v rest h =
    ap (λ n. piece_at 0 256 n (v ++ rest)) (two_bytes (length v) rest (omega (arith, h)))
    ∙ piece_back 0 256 v rest (omega arith) h

left_back : (k : List ℕ) (o : Option (List ℕ)) (rest : List ℕ) → IsSoundLeft o
    → left_at k (left_text o ++ rest) ≡ Some (record { key = k; value = o }, rest)
left_back k None rest h = refl
left_back k (Some v) rest h = ap (put_of k) (value_back v rest h)

write_back : (w : Write) (rest : List ℕ) → IsSoundWrite w → write_at (write_text w ++ rest) ≡ Some (w, rest)
unfolding write_at write_text
write_back w rest h =
    ap (λ t. write_by (key_at t)) (append_assoc (key_text w.key) (left_text w.value) rest)
    ∙ ap write_by (key_back w.key (left_text w.value ++ rest) h.key) ∙ left_back w.key w.value rest h.left

pub writes_back : (ws : List Write) → AreSoundWrites ws → writes_of (writes_text ws) ≡ Some ws
writes_back ws h =
    ap (λ b. if b && nat_le (length ws) 64 then all_of write_at (length ws) (flat_map write_text ws)
    else None) (enough 1 _ h.some)
    ∙ ap (λ b. if b then all_of write_at (length ws) (flat_map write_text ws) else None) (enough _ 64 h.few)
    ∙ all_back IsSoundWrite write_at write_text write_back ws h.each

pub number_back : (n : ℕ) → n < 2 ^ 63 → big_number 8 (big_bytes 8 n) ≡ n
number_back n h = ap (big_number 8) (sym (append-nil (big_bytes 8 n)))
    ∙ big_number-reads_back 8 n [] (omega (arith, h))
