-- What is read of a payload can be in a log.
use Rattle.std.proofs.Common.{◌≡◌, ◌≤◌, ◌<◌, ◌+◌, ◌*◌, ◌^◌, ℕ, zero, suc, Bool, true, false, ◌&&◌, ◌||◌, cond, nat_le, nat_lt, List, [], ◌∷◌, length, take, drop, Option, Some, None, option_map, refl, ap, subst, ◌∙◌, arith}
use Rattle.std.specs.Prelude.{◌==◌, is_some, All, bytes_eq, if◌then◌else◌}
use Rattle.std.specs.Int.{w32, from_be_bytes}
use Rattle.std.specs.List.{AllByRecursion}
use Rattle.std.specs.Option.{option_or}
use Rattle.std.proofs.Math.Facts.{Fits-of_lt, sfits_to_z}
use Rattle.std.proofs.lemmas.Bool.Decides.{nat_tests}
use Rattle.std.proofs.lemmas.List.Elements.{All-cons, All-nil}
use Rattle.byteorder.specs.Endian.{big_number}
use Rattle.byteorder.specs.Numbers.{big_from-lt}
use Rattle.xa_xid.specs.declared.error.XidError.{XidError}
use Rattle.xa_xid.specs.declared.error.XidError.TheVariants.{Truncated}
use Rattle.xa_xid.specs.Bytes.{format_of, front_fault, front_parts, xid_bytes}
use Rattle.xa_xid.specs.Xids.{IsXid, XidParts, xid_fault}
use Rattle.protocol.specs.declared.names.Case.{Case}
use Rattle.protocol.specs.declared.names.Kind.{Kind}
use Rattle.protocol.specs.declared.names.Kind.TheVariants.{Coordinator, Manager}
use Rattle.protocol_words.specs.Variants.{AbortedOutcome, CaseBranch, CommittedOutcome}
use Rattle.protocol.specs.declared.names.ProcessId.{ProcessId}
use Rattle.protocol.specs.declared.names.Ticket.{Ticket}
use Rattle.protocol.specs.declared.records.BranchName.{BranchName}
use Rattle.protocol.specs.declared.records.BranchName.TheVariants.{Foreign}
use Rattle.protocol.specs.declared.records.LogRecord.{LogRecord}
use Rattle.protocol.specs.declared.records.Record.{Record}
use Rattle.protocol.specs.declared.records.Record.TheVariants.{Opened, Collecting, Prepare, Commit, Abort, End, Prepared, Committed, RolledBack, Direct, HeurCommit, HeurRollback, Told, Forgot, Base, Pair, Cleared}
use Rattle.protocol.specs.declared.records.Reports.{Reports}
use Rattle.protocol.specs.declared.records.Write.{Write}
use Rattle.log_text.specs.Parts.{Front, Name, all_of, and_more, fits_ticket, front_of, key_at, left_at, name_at, name_in, piece_at, put_of, reports_by, reports_of, ticket_at, ticket_in, tickets_at, tickets_of, value_at, with_first, write_at, write_by, writes_of, xid_at}
use Rattle.log_text.specs.declared.form.LogForm.{LogForm}
use Rattle.log_text.specs.declared.form.LogFormat.{LogFormat}
use Rattle.log_text.specs.declared.form.LogFormat.TheVariants.{First, Second}
use Rattle.log_text.specs.Payloads.{owner_text}
use Rattle.log_text.specs.Reading.{alone_record, bare, below, boot_by, branch_record, case_record, coordinator_record, kind_record, listing, manager_record, named, of_branch, of_case, of_name, opened_boot, pair_by, pair_of, read_record, told, writing}
use Rattle.protocol.specs.LogNames.{unnamed}
use Rattle.log_rules.specs.sound.Sound.{AreSoundReports, AreSoundTickets, AreSoundWrites, IsSound, IsSoundEntry, IsSoundKey, IsSoundName, IsSoundTicket, IsSoundWrite}
use Rattle.log_rules.specs.sound.Written.{AreBytes, ReadIsSound}
use Rattle.log_rules.proofs.sound.Cuts.{alone_is, at_most, both, bytes_behind, first_bytes, front_tickets_cut, none_some, passed, piece_cut, some_is, tail_bytes, ticket_cut, write_cut}
use Rattle.log_rules.proofs.sound.CutNames.{enough, four_below, name_cut, no_fault}
use Rattle.log_rules.proofs.sound.OwnNames.{names_are_sound}

less : (n m : ℕ) → nat_lt n m ≡ true → n < m
less n m h = grind (arith, nat_tests)

-- Names.

bytes_all : (xs : List ℕ) → AreBytes xs → All (λ b. b < 256) xs
bytes_all [] h = All-nil (λ b. b < 256)
bytes_all (x ∷ xs) h = All-cons (λ b. b < 256) x xs (h 0) (bytes_all xs (tail_bytes x xs h))

taken : (n : ℕ) (xs : List ℕ) → n ≤ length xs → length (take n xs) ≡ n
taken zero xs h = refl
taken (suc n) [] h = absurd (omega (arith, h))
taken (suc n) (x ∷ xs) h = let e = taken n xs (omega (arith, h)) in omega (arith, e)

behind : (n : ℕ) (xs : List ℕ) (k : ℕ) → n + k ≤ length xs → k ≤ length (drop n xs)
behind zero xs k h = omega (arith, h)
behind (suc n) [] k h = absurd (omega (arith, h))
behind (suc n) (x ∷ xs) k h = behind n xs k (omega (arith, h))

fault_is : (o : Option XidError) (b : Bool) → is_some
    (option_or o (cond b (Some Truncated) None)) ≡ false → o ≡ None
fault_is None b h = refl
fault_is (Some e) b h = absurd (cc)

front_is_xid : (xs : List ℕ) → AreBytes xs → is_some (front_fault xs) ≡ false → IsXid (front_parts xs)
front_is_xid (a ∷ b ∷ c ∷ d ∷ g ∷ q ∷ rest) h sound =
    let format = format_of (a ∷ b ∷ c ∷ d ∷ []) in
    let long : g + q ≤ length rest = enough (length rest) (g + q)
    (no_fault (xid_fault format g q) (nat_lt (length rest) (g + q)) sound) in
    let none : xid_fault format g q ≡ None = fault_is (xid_fault format g q)
    (nat_lt (length rest) (g + q)) sound in
    let bytes : AreBytes rest = tail_bytes q rest (tail_bytes g (q ∷ rest) (tail_bytes d (g ∷ q ∷ rest)
    (tail_bytes c (d ∷ g ∷ q ∷ rest) (tail_bytes b (c ∷ d ∷ g ∷ q ∷ rest)
    (tail_bytes a (b ∷ c ∷ d ∷ g ∷ q ∷ rest) h))))) in
    let first : length (take g rest) ≡ g = taken g rest (omega (arith, long)) in
    let second : length (take q (drop g rest)) ≡ q = taken q (drop g rest) (behind g rest q long) in
    record {
      fits = record {
        format = sfits_to_z {w = w32} {n = from_be_bytes w32 (a ∷ b ∷ c ∷ d ∷ [])}
            (Fits-of_lt {w = w32} {n = from_be_bytes w32 (a ∷ b ∷ c ∷ d ∷ [])}
            (four_below a b c d (h 0) (h 1) (h 2) (h 3)));
        gtrid = bytes_all (take g rest) (first_bytes g rest bytes);
        bqual = bytes_all (take q (drop g rest)) (first_bytes q (drop g rest) (bytes_behind g rest bytes));
      };
      sound = ap (λ n. xid_fault format n (length (take q (drop g rest)))) first
          ∙ ap (xid_fault format g) second ∙ none;
    }
front_is_xid [] h sound = absurd (cc)
front_is_xid (a ∷ []) h sound = absurd (cc)
front_is_xid (a ∷ b ∷ []) h sound = absurd (cc)
front_is_xid (a ∷ b ∷ c ∷ []) h sound = absurd (cc)
front_is_xid (a ∷ b ∷ c ∷ d ∷ []) h sound = absurd (cc)
front_is_xid (a ∷ b ∷ c ∷ d ∷ g ∷ []) h sound = absurd (cc)

xid_sound : (xs : List ℕ) (p : XidParts × List ℕ) → AreBytes xs → xid_at xs ≡ Some p → IsXid p.0
unfolding xid_at
xid_sound xs p h e = by_fault (is_some (front_fault xs)) refl e
  where
    by_fault : (b : Bool) → is_some (front_fault xs) ≡ b
        → cond b None (Some (front_parts xs, drop (length (xid_bytes (front_parts xs))) xs)) ≡ Some p
        → IsXid p.0
    by_fault true is f = absurd (none_some p f)
    by_fault false is f = subst (λ (q : XidParts × List ℕ). IsXid q.0) (some_is _ p f) (front_is_xid xs h is)

name_sound : (xs : List ℕ) (n : Name × List ℕ) → AreBytes xs → name_at xs ≡ Some n → IsSoundName n.0.0 n.0.1
unfolding name_at
name_sound xs n h e = by_front (xid_at xs) refl e
  where
    by_front : (o : Front XidParts) → xid_at xs ≡ o → option_map (λ q. (name_in q.0, q.1)) o ≡ Some n
        → IsSoundName n.0.0 n.0.1
    by_front None is f = absurd (none_some n f)
    by_front (Some q) is f = subst (λ (m : Name × List ℕ). IsSoundName m.0.0 m.0.1) (some_is _ n f)
        (names_are_sound q.0 (xid_sound xs q h is))

-- Tickets.

ticket_sound : (xs : List ℕ) (p : Ticket × List ℕ) → AreBytes xs → ticket_at xs ≡ Some p → IsSoundTicket p.0
unfolding ticket_at
ticket_sound xs p h e =
    let got = passed (nat_le 20 (length xs) && fits_ticket (ticket_in xs)) (ticket_in xs, drop 20 xs) p e in
    let fits = (both (nat_le 20 (length xs)) (fits_ticket (ticket_in xs)) got.0).1 in
    let numbers = both (nat_lt (ticket_in xs).boot (2 ^ 63)) (nat_lt (ticket_in xs).number (2 ^ 63)) fits in
    subst (λ (q : Ticket × List ℕ). IsSoundTicket q.0) got.1
    (record {
      child = big_from-lt 0 4 xs h;
      boot = less (ticket_in xs).boot (2 ^ 63) numbers.0;
      number = less (ticket_in xs).number (2 ^ 63) numbers.1;
    })

-- Lists.

-- the first is sound, and what is read after it
rest_sound : {A : Type 0} (Good : A → Type 0) (a : A × List ℕ) (n : ℕ) (p : List A × List ℕ)
    (o : Front (List A)) → Good a.0
    → ((q : List A × List ℕ) → o ≡ Some q → (length q.0 ≡ n) × AllByRecursion Good q.0)
    → with_first a.0 o ≡ Some p
    → (length p.0 ≡ suc n) × AllByRecursion Good p.0
rest_sound Good a n p None is more f = absurd (none_some p f)
rest_sound {A} Good a n p (Some q) is more f =
    subst (λ (r : List A × List ℕ). (length r.0 ≡ suc n) × AllByRecursion Good r.0)
    (some_is _ p f)
    (ap suc (more q refl).0, (is, (more q refl).1))

first_sound : {A : Type 0} (at : List ℕ → Front A) (Good : A → Type 0) (n : ℕ) (p : List A × List ℕ)
    (o : Front A)
    → ((a : A × List ℕ) → o ≡ Some a → Good a.0)
    → ((a : A × List ℕ) (q : List A × List ℕ) → o ≡ Some a → front_of at n a.1 ≡ Some q
    → (length q.0 ≡ n) × AllByRecursion Good q.0)
    → and_more o (front_of at n) ≡ Some p → (length p.0 ≡ suc n) × AllByRecursion Good p.0
first_sound at Good n p None good more f = absurd (none_some p f)
first_sound at Good n p (Some a) good more f =
    rest_sound Good a n p (front_of at n a.1) (good a refl) (λ q g. more a q refl g) f

-- what is read is sound, and so is all that is read one after the other
front_sound : {A : Type 0} (at : List ℕ → Front A) (Good : A → Type 0)
    → ((xs : List ℕ) (p : A × List ℕ) → AreBytes xs → at xs ≡ Some p → Good p.0)
    → ((xs : List ℕ) (p : A × List ℕ) → AreBytes xs → at xs ≡ Some p → AreBytes p.1)
    → (n : ℕ) (xs : List ℕ) (p : List A × List ℕ) → AreBytes xs → front_of at n xs ≡ Some p
    → (length p.0 ≡ n) × AllByRecursion Good p.0
unfolding front_of
front_sound {A} at Good good rest zero xs p h e =
    subst (λ (r : List A × List ℕ). (length r.0 ≡ zero) × AllByRecursion Good r.0) (some_is _ p e)
    (refl, tt)
front_sound at Good good rest (suc n) xs p h e = first_sound at Good n p (at xs) (λ a is. good xs a h is)
    (λ a q is g. front_sound at Good good rest n a.1 q (rest xs a h is) g) e

all_sound : {A : Type 0} (at : List ℕ → Front A) (Good : A → Type 0)
    → ((xs : List ℕ) (p : A × List ℕ) → AreBytes xs → at xs ≡ Some p → Good p.0)
    → ((xs : List ℕ) (p : A × List ℕ) → AreBytes xs → at xs ≡ Some p → AreBytes p.1)
    → (n : ℕ) (xs : List ℕ) (ys : List A) → AreBytes xs → all_of at n xs ≡ Some ys
    → (length ys ≡ n) × AllByRecursion Good ys
all_sound at Good good rest n xs ys h e =
    front_sound at Good good rest n xs (ys, []) h (alone_is (front_of at n xs) ys e)

front_tickets_sound : (xs : List ℕ) (p : List Ticket × List ℕ) → AreBytes xs → tickets_at xs ≡ Some p
    → AreSoundTickets p.0
front_tickets_sound [] p h e = absurd (none_some p e)
front_tickets_sound (count ∷ rest) p h e =
    let all = front_sound ticket_at IsSoundTicket ticket_sound
    (λ xs q k is. (ticket_cut xs q k is).bytes) count rest p
    (tail_bytes count rest h) e in
    let small : count < 256 = h 0 in
    record { count = omega (arith, all.0, small); each = all.1 }

tickets_sound : (xs : List ℕ) (ts : List Ticket) → AreBytes xs → tickets_of xs ≡ Some ts → AreSoundTickets ts
tickets_sound xs ts h e = front_tickets_sound xs (ts, []) h (alone_is (tickets_at xs) ts e)

-- Reports.

rest_reports : (p : List Ticket × List ℕ) (r : Reports) (o : Option (List Ticket)) → AreSoundTickets p.0
    → ((ts : List Ticket) → o ≡ Some ts → AreSoundTickets ts)
    → option_map (λ ts. record { mixed = p.0; unreported = ts }) o ≡ Some r → AreSoundReports r
rest_reports p r None first is e = absurd (none_some r e)
rest_reports p r (Some ts) first is e =
    subst AreSoundReports (some_is _ r e) (record { mixed = first; unreported = is ts refl })

reports_by_sound : (xs : List ℕ) (r : Reports) (o : Front (List Ticket)) → AreBytes xs → tickets_at xs ≡ o
    → reports_by o ≡ Some r → AreSoundReports r
reports_by_sound xs r None h is e = absurd (none_some r e)
reports_by_sound xs r (Some p) h is e =
    let cut = front_tickets_cut xs p h is in
    rest_reports p r (tickets_of p.1) (front_tickets_sound xs p h is)
    (λ ts got. tickets_sound p.1 ts cut.1 got) e

reports_sound : (xs : List ℕ) (r : Reports) → AreBytes xs → reports_of xs ≡ Some r → AreSoundReports r
reports_sound xs r h e = reports_by_sound xs r (tickets_at xs) h refl e

-- Keys, values and writes.

piece_sound : (least most size : ℕ) (rest : List ℕ) (p : List ℕ × List ℕ)
    → piece_at least most size rest ≡ Some p
    → (least ≤ length p.0) × (length p.0 ≤ most)
piece_sound least most size rest p e =
    let got = passed (nat_le least size && nat_le size most && nat_le size (length rest))
    (take size rest, drop size rest) p e in
    let cut = piece_cut least most size rest p e in
    let outer = both (nat_le least size && nat_le size most) (nat_le size (length rest)) got.0 in
    let inner = both (nat_le least size) (nat_le size most) outer.0 in
    let low : least ≤ size = at_most least size inner.0 in
    let high : size ≤ most = at_most size most inner.1 in
    (omega (arith, low, cut.1.0), omega (arith, high, cut.1.0))

key_sound : (xs : List ℕ) (p : List ℕ × List ℕ) → key_at xs ≡ Some p → IsSoundKey p.0
key_sound [] p e = absurd (none_some p e)
key_sound (size ∷ rest) p e =
    let is = piece_sound 1 64 size rest p e in record { some = is.0; short = is.1 }

value_sound : (xs : List ℕ) (p : List ℕ × List ℕ) → value_at xs ≡ Some p → length p.0 ≤ 256
value_sound [] p e = absurd (none_some p e)
value_sound (high ∷ []) p e = absurd (none_some p e)
value_sound (high ∷ low ∷ rest) p e = (piece_sound 0 256 (high * 256 + low) rest p e).1

put_sound : (key : List ℕ) (o : Front (List ℕ)) (p : Write × List ℕ) → IsSoundKey key
    → ((v : List ℕ × List ℕ) → o ≡ Some v → length v.0 ≤ 256) → put_of key o ≡ Some p → IsSoundWrite p.0
put_sound key None p k v e = absurd (none_some p e)
put_sound key (Some w) p k v e = subst (λ (q : Write × List ℕ). IsSoundWrite q.0) (some_is _ p e)
    (record { key = k; left = v w refl })

left_sound : (key xs : List ℕ) (p : Write × List ℕ) → IsSoundKey key
    → left_at key xs ≡ Some p → IsSoundWrite p.0
left_sound key [] p k e = absurd (none_some p e)
left_sound key (how ∷ rest) p k e = by_how (how == 0) (how == 1) e
  where
    by_how : (a b : Bool)
        → cond a (Some (record { key = key; value = None }, rest))
        (cond b (put_of key (value_at rest)) None) ≡ Some p
        → IsSoundWrite p.0
    by_how true b f = subst (λ (q : Write × List ℕ). IsSoundWrite q.0) (some_is _ p f)
        (record { key = k; left = tt })
    by_how false true f = put_sound key (value_at rest) p k (λ v is. value_sound rest v is) f
    by_how false false f = absurd (none_some p f)

write_sound : (xs : List ℕ) (p : Write × List ℕ) → AreBytes xs → write_at xs ≡ Some p → IsSoundWrite p.0
unfolding write_at
write_sound xs p h e = by_key (key_at xs) refl e
  where
    by_key : (o : Front (List ℕ)) → key_at xs ≡ o → write_by o ≡ Some p → IsSoundWrite p.0
    by_key None is f = absurd (none_some p f)
    by_key (Some k) is f = left_sound k.0 k.1 p (key_sound xs k is) f

writes_sound : (xs : List ℕ) (ws : List Write) → AreBytes xs → writes_of xs ≡ Some ws → AreSoundWrites ws
writes_sound [] ws h e = absurd (none_some ws e)
writes_sound (count ∷ rest) ws h e = by_count (nat_le 1 count && nat_le count 64) refl e
  where
    by_count : (b : Bool) → (nat_le 1 count && nat_le count 64) ≡ b
        → cond b (all_of write_at count rest) None ≡ Some ws
        → AreSoundWrites ws
    by_count true is f =
        let all = all_sound write_at IsSoundWrite write_sound
        (λ xs p k w. (write_cut xs p k w).bytes) count rest ws
        (tail_bytes count rest h) f in
        let range = both (nat_le 1 count) (nat_le count 64) is in
        let low : 1 ≤ count = at_most 1 count range.0 in
        let high : count ≤ 64 = at_most count 64 range.1 in
        record { some = omega (arith, all.0, low); few = omega (arith, all.0, high); each = all.1 }
    by_count false is f = absurd (none_some ws f)

-- Numbers alone.

number_sound : (xs : List ℕ) (n : ℕ) → below xs ≡ Some n → n < 2 ^ 63
number_sound xs n e =
    let got = passed ((length xs == 8) && nat_lt (big_number 8 xs) (2 ^ 63)) (big_number 8 xs) n e in
    let fits : big_number 8 xs < 2 ^ 63 = less (big_number 8 xs) (2 ^ 63)
    (both (length xs == 8) (nat_lt (big_number 8 xs) (2 ^ 63)) got.0).1 in
    subst (λ m. m < 2 ^ 63) got.1 fits

unnamed_by : (k : Kind) (make : ℕ → Record) (l : LogRecord) (o : Option ℕ)
    → ((n : ℕ) → n < 2 ^ 63 → IsSound k (unnamed (make n))) → ((n : ℕ) → o ≡ Some n → n < 2 ^ 63)
    → option_map (λ n. unnamed (make n)) o ≡ Some l → IsSound k l
unnamed_by k make l None good fits e = absurd (none_some l e)
unnamed_by k make l (Some n) good fits e = subst (IsSound k) (some_is _ l e) (good n (fits n refl))

-- Records of coordinators.

listing_sound : (p : Option ProcessId) (kind : ℕ) (c : Case) (ts : List Ticket) → IsSoundName p (CaseBranch c)
    → AreSoundTickets ts → IsSoundEntry Coordinator p (listing kind c ts)
listing_sound p kind c ts n is = by_tests (kind == 2) (kind == 3) (kind == 4)
  where
    by_tests : (a b d : Bool) → IsSoundEntry Coordinator p
        (cond a (Collecting c ts) (cond b (Prepare c ts) (cond d (Commit c ts) (Abort c ts))))
    by_tests true b d = (n, is)
    by_tests false true d = (n, is)
    by_tests false false true = (n, is)
    by_tests false false false = (n, is)

listed_sound : (kind : ℕ) (p : Option ProcessId) (c : Case) (l : LogRecord) (o : Option (List Ticket))
    → IsSoundName p (CaseBranch c) → ((ts : List Ticket) → o ≡ Some ts → AreSoundTickets ts)
    → option_map (λ ts. named p (listing kind c ts)) o ≡ Some l → IsSound Coordinator l
listed_sound kind p c l None n is e = absurd (none_some l e)
listed_sound kind p c l (Some ts) n is e =
    subst (IsSound Coordinator) (some_is _ l e) (listing_sound p kind c ts n (is ts refl))

-- a record that says nothing but its case
alone_sound : (p : Option ProcessId) (r : Record) (l : LogRecord) (none : Bool) → IsSoundEntry Coordinator p r
    → cond none (Some (named p r)) None ≡ Some l → IsSound Coordinator l
alone_sound p r l true n e = subst (IsSound Coordinator) (some_is _ l e) n
alone_sound p r l false n e = absurd (none_some l e)

-- an End that reports
reported_sound : (p : Option ProcessId) (c : Case) (l : LogRecord) (o : Option Reports)
    → IsSoundName p (CaseBranch c) → ((r : Reports) → o ≡ Some r → AreSoundReports r)
    → option_map (λ r. named p (End c (Some r))) o ≡ Some l → IsSound Coordinator l
reported_sound p c l None n is e = absurd (none_some l e)
reported_sound p c l (Some r) n is e = subst (IsSound Coordinator) (some_is _ l e) (n, is r refl)

case_sound : (kind : ℕ) (p : Option ProcessId) (c : Case) (rest : List ℕ) (l : LogRecord) → AreBytes rest
    → IsSoundName p (CaseBranch c) → case_record kind p c rest ≡ Some l → IsSound Coordinator l
case_sound kind p c rest l h n e =
    by_kind (kind == 6) (kind == 7) (kind == 8) (nat_le 2 kind && nat_le kind 5) e
  where
    by_kind : (a b d f : Bool)
        → cond a (alone_record p (End c None) rest)
        (cond b (option_map (λ r. named p (End c (Some r))) (reports_of rest))
        (cond d (alone_record p (Cleared c) rest)
        (cond f (option_map (λ ts. named p (listing kind c ts)) (tickets_of rest)) None))) ≡ Some l
        → IsSound Coordinator l
    by_kind true b d f g = alone_sound p (End c None) l (length rest == 0) n g
    by_kind false true d f g = reported_sound p c l (reports_of rest) n (λ r is. reports_sound rest r h is) g
    by_kind false false true f g = alone_sound p (Cleared c) l (length rest == 0) n g
    by_kind false false false true g = listed_sound kind p c l (tickets_of rest) n
        (λ ts is. tickets_sound rest ts h is) g
    by_kind false false false false g = absurd (none_some l g)

of_case_sound : (kind : ℕ) (p : Option ProcessId) (b : BranchName) (rest : List ℕ) (l : LogRecord)
    → AreBytes rest
    → IsSoundName p b → of_case kind p b rest ≡ Some l → IsSound Coordinator l
of_case_sound kind p (CaseBranch c) rest l h n e = case_sound kind p c rest l h n e
of_case_sound kind p (Foreign x) rest l h n e = absurd (none_some l e)

of_name_sound : (kind : ℕ) (xs : List ℕ) (l : LogRecord) (o : Front Name) → AreBytes xs → name_at xs ≡ o
    → of_name kind o ≡ Some l → IsSound Coordinator l
of_name_sound kind xs l None h is e = absurd (none_some l e)
of_name_sound kind xs l (Some n) h is e =
    of_case_sound kind n.0.0 n.0.1 n.1 l (name_cut xs n h is).bytes (name_sound xs n h is) e

coordinator_sound : (kind : ℕ) (xs : List ℕ) (l : LogRecord) → AreBytes xs
    → coordinator_record kind xs ≡ Some l
    → IsSound Coordinator l
unfolding coordinator_record
coordinator_sound kind xs l h e = of_name_sound kind xs l (name_at xs) h refl e

-- Records of managers.

bare_sound : (p : Option ProcessId) (b : BranchName) (kind : ℕ) (r : Record)
    → IsSoundName p b → bare kind b ≡ Some r
    → IsSoundEntry Manager p r
bare_sound p b kind r n e = by_tests (kind == 18) (kind == 19) (kind == 21) (kind == 22) (kind == 24) e
  where
    alone : (s : Record) → IsSoundEntry Manager p s → Some s ≡ Some r → IsSoundEntry Manager p r
    alone s is f = subst (IsSoundEntry Manager p) (some_is s r f) is

    by_tests : (a c d f g : Bool)
        → cond a (Some (Committed b)) (cond c (Some (RolledBack b))
        (cond d (Some (HeurCommit b)) (cond f (Some (HeurRollback b)) (cond g (Some (Forgot b)) None))))
        ≡ Some r
        → IsSoundEntry Manager p r
    by_tests true c d f g q = alone (Committed b) n q
    by_tests false true d f g q = alone (RolledBack b) n q
    by_tests false false true f g q = alone (HeurCommit b) n q
    by_tests false false false true g q = alone (HeurRollback b) n q
    by_tests false false false false true q = alone (Forgot b) n q
    by_tests false false false false false q = absurd (none_some r q)

told_sound : (p : Option ProcessId) (b : BranchName) (rest : List ℕ) (r : Record)
    → IsSoundName p b → told b rest ≡ Some r
    → IsSoundEntry Manager p r
told_sound p b [] r n e = absurd (none_some r e)
told_sound p b (o ∷ q ∷ rest) r n e = absurd (none_some r e)
told_sound p b (o ∷ []) r n e = by_tests (o == 1) (o == 0) e
  where
    by_tests : (a c : Bool)
        → cond a (Some (Told b CommittedOutcome)) (cond c (Some (Told b AbortedOutcome)) None) ≡ Some r
        → IsSoundEntry Manager p r
    by_tests true c f = subst (IsSoundEntry Manager p) (some_is _ r f) n
    by_tests false true f = subst (IsSoundEntry Manager p) (some_is _ r f) n
    by_tests false false f = absurd (none_some r f)

writing_sound : (p : Option ProcessId) (b : BranchName) (kind : ℕ) (r : Record)
    (o : Option (List Write)) → IsSoundName p b
    → ((ws : List Write) → o ≡ Some ws → AreSoundWrites ws) → option_map (writing kind b) o ≡ Some r
    → IsSoundEntry Manager p r
writing_sound p b kind r None n is e = absurd (none_some r e)
writing_sound p b kind r (Some ws) n is e = subst (IsSoundEntry Manager p)
    (some_is _ r e) (by_kind (kind == 17))
  where
    by_kind : (a : Bool) → IsSoundEntry Manager p (cond a (Prepared b ws) (Direct b ws))
    by_kind true = (n, is ws refl)
    by_kind false = (n, is ws refl)

branch_sound : (p : Option ProcessId) (b : BranchName) (kind : ℕ) (rest : List ℕ) (r : Record) → AreBytes rest
    → IsSoundName p b → branch_record kind b rest ≡ Some r → IsSoundEntry Manager p r
branch_sound p b kind rest r h n e = by_tests ((kind == 17) || (kind == 20)) (kind == 23) (length rest == 0) e
  where
    by_tests : (a c d : Bool)
        → cond a (option_map (writing kind b) (writes_of rest))
        (cond c (told b rest) (cond d (bare kind b) None)) ≡ Some r → IsSoundEntry Manager p r
    by_tests true c d f = writing_sound p b kind r (writes_of rest) n (λ ws is. writes_sound rest ws h is) f
    by_tests false true d f = told_sound p b rest r n f
    by_tests false false true f = bare_sound p b kind r n f
    by_tests false false false f = absurd (none_some r f)

named_sound : (p : Option ProcessId) (l : LogRecord) (o : Option Record)
    → ((r : Record) → o ≡ Some r → IsSoundEntry Manager p r)
    → option_map (named p) o ≡ Some l → IsSound Manager l
named_sound p l None is e = absurd (none_some l e)
named_sound p l (Some r) is e = subst (IsSound Manager) (some_is _ l e) (is r refl)

of_branch_sound : (kind : ℕ) (xs : List ℕ) (l : LogRecord) (o : Front Name) → AreBytes xs → name_at xs ≡ o
    → of_branch kind o ≡ Some l → IsSound Manager l
of_branch_sound kind xs l None h is e = absurd (none_some l e)
of_branch_sound kind xs l (Some n) h is e = named_sound n.0.0 l (branch_record kind n.0.1 n.1)
    (λ r f. branch_sound n.0.0 n.0.1 kind n.1 r (name_cut xs n h is).bytes (name_sound xs n h is) f) e

pair_sound : (l : LogRecord) (o : Front (List ℕ)) → ((k : List ℕ × List ℕ) → o ≡ Some k → IsSoundKey k.0)
    → pair_by o ≡ Some l → IsSound Manager l
pair_sound l None is e = absurd (none_some l e)
pair_sound l (Some k) is e = by_value (value_at k.1) (λ v f. value_sound k.1 v f) e
  where
    by_value : (o : Front (List ℕ)) → ((v : List ℕ × List ℕ) → o ≡ Some v → length v.0 ≤ 256)
        → pair_of k.0 o ≡ Some l → IsSound Manager l
    by_value None short f = absurd (none_some l f)
    by_value (Some v) short f = by_rest (length v.1 == 0) f
      where
        by_rest : (a : Bool) → cond a (Some (unnamed (Pair k.0 v.0))) None ≡ Some l → IsSound Manager l
        by_rest true g = subst (IsSound Manager) (some_is _ l g) (refl, (is k refl, short v refl))
        by_rest false g = absurd (none_some l g)

manager_sound : (kind : ℕ) (xs : List ℕ) (l : LogRecord) → AreBytes xs → manager_record kind xs ≡ Some l
    → IsSound Manager l
unfolding manager_record
manager_sound kind xs l h e = by_kind (kind == 25) (kind == 26) e
  where
    by_kind : (a b : Bool)
        → cond a (option_map (λ n. unnamed (Base n)) (below xs))
        (cond b (pair_by (key_at xs)) (of_branch kind (name_at xs))) ≡ Some l → IsSound Manager l
    by_kind true b f = unnamed_by Manager Base l (below xs) (λ n is. (refl, is))
        (λ n is. number_sound xs n is) f
    by_kind false true f = pair_sound l (key_at xs) (λ k is. key_sound xs k is) f
    by_kind false false f = of_branch_sound kind xs l (name_at xs) h refl f

-- Both.

boot_sound : (f : LogFormat) (form : LogForm) (xs : List ℕ) (n : ℕ) → boot_by f form xs ≡ Some n → n < 2 ^ 63
boot_sound First form xs n e = number_sound xs n e
boot_sound Second form xs n e = by_owner (bytes_eq (drop 8 xs) (owner_text form)) e
  where
    by_owner : (b : Bool) → (if b then below (take 8 xs) else None) ≡ Some n → n < 2 ^ 63
    by_owner true q = number_sound (take 8 xs) n q
    by_owner false q = absurd (none_some n q)

opened_sound : (k : Kind) (n : ℕ) → n < 2 ^ 63 → IsSound k (unnamed (Opened n))
opened_sound Coordinator n h = (refl, h)
opened_sound Manager n h = (refl, h)

kind_sound : (k : Kind) (kind : ℕ) (xs : List ℕ) (l : LogRecord) → AreBytes xs
    → kind_record k kind xs ≡ Some l
    → IsSound k l
kind_sound Coordinator kind xs l h e = coordinator_sound kind xs l h e
kind_sound Manager kind xs l h e = manager_sound kind xs l h e

pub read_is_sound : ReadIsSound
unfolding read_record
read_is_sound form kind xs l h e = by_kind (kind == 1) e
  where
    by_kind : (a : Bool) → cond a (option_map (λ n. unnamed (Opened n)) (opened_boot form xs))
        (kind_record form.kind kind xs) ≡ Some l
        → IsSound form.kind l
    by_kind true f = unnamed_by form.kind Opened l (opened_boot form xs) (opened_sound form.kind)
        (λ n is. boot_sound form.format form xs n is) f
    by_kind false f = kind_sound form.kind kind xs l h f
