-- What is read of a payload is as long as what is written of it.
use Rattle.std.proofs.Common.{◌≡◌, ◌≤◌, ◌+◌, ◌*◌, ◌&&◌, ◌==◌, ℕ, zero, suc, Bool, true, false, List, [], ◌∷◌, ◌++◌, length, take, drop, Option, Some, None, refl, ap, ◌∙◌, arith, nat_lt, nat_le, if◌then◌else◌, option_map, is_some, take-append-drop, length-append, length-take, length-drop}
use Rattle.std.specs.List.{flat_map}
use Rattle.std.specs.Option.{option_or}
use Rattle.std.proofs.lemmas.Bool.{and_parts}
use Rattle.std.proofs.lemmas.Bool.Decides.{nat_tests}
use Rattle.xa_xid.specs.declared.error.XidError.{XidError}
use Rattle.xa_xid.specs.declared.error.XidError.TheVariants.{Truncated}
use Rattle.xa_xid.specs.Xids.{XidParts, xid_fault}
use Rattle.xa_xid.specs.Bytes.{format_of, front_fault, front_parts, xid_bytes}
use Rattle.xa_xid.proofs.Reading.{length-xid_bytes}
use Rattle.protocol.specs.declared.names.ProcessId.{ProcessId}
use Rattle.protocol.specs.declared.names.Ticket.{Ticket}
use Rattle.protocol.specs.declared.names.Txn.{Txn}
use Rattle.protocol.specs.declared.records.BranchName.TheVariants.{Foreign}
use Rattle.protocol.specs.declared.records.Reports.{Reports}
use Rattle.protocol.specs.declared.records.Write.{Write}
use Rattle.protocol.specs.Branches.{branch_parts}
use Rattle.protocol.specs.Records.{same_bytes, same_xid}
use Rattle.log_text.specs.Parts.{Front, Name, all_of, alone, and_more, below_in, case_name, fits_ticket, front_of, key_at, left_at, name_at, name_in, presumption_in, put_of, reports_by, reports_of, ticket_at, ticket_in, tickets_at, tickets_of, txn_in, value_at, with_first, write_at, write_by, writes_of, xid_at}
use Rattle.log_text.specs.Payloads.{key_text, left_text, name_text, reports_text, ticket_text, tickets_text, value_text, write_text, writes_text}

some_is : {A : Type 0} (x y : A) → Some x ≡ Some y → x ≡ y
some_is x y e = cc

-- Names.

same_bytes_is : (xs ys : List ℕ) → same_bytes xs ys ≡ true → xs ≡ ys
unfolding same_bytes
same_bytes_is [] [] h = refl
same_bytes_is [] (y ∷ ys) h = cc
same_bytes_is (x ∷ xs) [] h = cc
same_bytes_is (x ∷ xs) (y ∷ ys) h = grind (arith, same_bytes_is xs ys)

-- XIDs that the test takes for one are as long
same_long : (x y : XidParts) → same_xid x y ≡ true → length (xid_bytes x) ≡ length (xid_bytes y)
unfolding same_xid
same_long x y h =
    let q : (same_bytes x.gtrid y.gtrid ≡ true) × (same_bytes x.bqual y.bqual ≡ true) =
    and_parts _ _ (and_parts _ _ h).0 in
    omega (
      arith,
      length-xid_bytes x,
      length-xid_bytes y,
      ap length (same_bytes_is _ _ q.0),
      ap length (same_bytes_is _ _ q.1),
    )

abbrev name_size : Name → ℕ
name_size n = length (name_text n.0 n.1)

case_long : (t : Txn) (b : Option (ProcessId × Ticket))
    → name_size (case_name t b) ≡ length (xid_bytes (branch_parts t b))
case_long t None = refl
case_long t (Some b) = refl

name_by_long : (x : XidParts) (t : Txn) (b : Option (ProcessId × Ticket)) (s : Bool)
    → same_xid (branch_parts t b) x ≡ s
    → name_size (if s then case_name t b else (None, Foreign x)) ≡ length (xid_bytes x)
name_by_long x t b true e = case_long t b ∙ same_long (branch_parts t b) x e
name_by_long x t b false e = refl

name_in_long : (x : XidParts) → name_size (name_in x) ≡ length (xid_bytes x)
unfolding name_in
name_in_long x = let t = txn_in (presumption_in x.format) x.gtrid in let b = below_in x.bqual in
    name_by_long x t b (same_xid (branch_parts t b) x) refl

no_fault : (o : Option XidError) (b : Bool) → option_or o (if b then Some Truncated else None) ≡ None
    → b ≡ false
no_fault (Some x) b e = absurd (cc)
no_fault None true e = absurd (cc)
no_fault None false e = refl

taken : (size : ℕ) (rest : List ℕ) → size ≤ length rest → length (take size rest) ≡ size
taken size rest h = omega (arith, length-take size rest)

fits_front : (bytes : List ℕ) → front_fault bytes ≡ None
    → length (xid_bytes (front_parts bytes)) ≤ length bytes
fits_front [] f = absurd (cc)
fits_front (a ∷ []) f = absurd (cc)
fits_front (a ∷ b ∷ []) f = absurd (cc)
fits_front (a ∷ b ∷ c ∷ []) f = absurd (cc)
fits_front (a ∷ b ∷ c ∷ d ∷ []) f = absurd (cc)
fits_front (a ∷ b ∷ c ∷ d ∷ g ∷ []) f = absurd (cc)
fits_front (a ∷ b ∷ c ∷ d ∷ g ∷ q ∷ rest) f =
    let t = no_fault (xid_fault (format_of (a ∷ b ∷ c ∷ d ∷ [])) g q) (nat_lt (length rest) (g + q)) f in
    let le : g + q ≤ length rest = grind (arith, nat_tests) in
    omega (
      arith,
      length-xid_bytes (front_parts (a ∷ b ∷ c ∷ d ∷ g ∷ q ∷ rest)),
      taken g rest (omega arith),
      length-drop g rest,
      taken q (drop g rest) (omega (arith, length-drop g rest)),
    )

xid_long : (bytes : List ℕ) (o : Option XidError) (x : XidParts) (rest : List ℕ) → front_fault bytes ≡ o
    → ◌≡◌ {A = Front XidParts} (if is_some o then None
    else Some (front_parts bytes, drop (length (xid_bytes (front_parts bytes))) bytes)) (Some (x, rest))
    → length bytes ≡ length (xid_bytes x) + length rest
xid_long bytes (Some z) x rest f e = absurd (cc)
xid_long bytes None x rest f e =
    let first : front_parts bytes ≡ x = ap (λ z. z.0) (some_is _ _ e) in
    let more : drop (length (xid_bytes (front_parts bytes))) bytes ≡ rest = ap (λ z. z.1) (some_is _ _ e) in
    omega (
      arith,
      fits_front bytes f,
      length-drop (length (xid_bytes (front_parts bytes))) bytes,
      ap (λ z. length (xid_bytes z)) first,
      ap length more,
    )

xid_at_long : (bytes : List ℕ) (x : XidParts) (rest : List ℕ) → xid_at bytes ≡ Some (x, rest)
    → length bytes ≡ length (xid_bytes x) + length rest
unfolding xid_at
xid_at_long bytes x rest e = xid_long bytes (front_fault bytes) x rest refl e

name_long_by : (bytes : List ℕ) (o : Front XidParts) (n : Name) (rest : List ℕ) → xid_at bytes ≡ o
    → ◌≡◌ {A = Front Name} (option_map (λ p. (name_in p.0, p.1)) o) (Some (n, rest))
    → length bytes ≡ name_size n + length rest
name_long_by bytes None n rest f e = absurd (cc)
name_long_by bytes (Some p) n rest f e =
    let first : name_in p.0 ≡ n = ap (λ z. z.0) (some_is _ _ e) in
    let more : p.1 ≡ rest = ap (λ z. z.1) (some_is _ _ e) in
    omega (arith, xid_at_long bytes p.0 p.1 f, name_in_long p.0, ap name_size first, ap length more)

pub name_long : (bytes : List ℕ) (n : Name) (rest : List ℕ) → name_at bytes ≡ Some (n, rest)
    → length bytes ≡ name_size n + length rest
unfolding name_at
name_long bytes n rest e = name_long_by bytes (xid_at bytes) n rest refl e

-- Lists.

abbrev AsLong : {A : Type 0} → (List ℕ → Front A) → (A → List ℕ) → Type 0
AsLong {A = A} at text = (bytes : List ℕ) (x : A) (rest : List ℕ) → at bytes ≡ Some (x, rest)
    → length bytes ≡ length (text x) + length rest

-- N, and what is left
abbrev AreAsLong : {A : Type 0} → (A → List ℕ) → List ℕ → List A × List ℕ → Type 0
AreAsLong text bytes p = length bytes ≡ length (flat_map text p.0) + length p.1

more_long_by : {A : Type 0} (text : A → List ℕ) (bytes : List ℕ) (x : A) (rest : List ℕ)
    (o : Front (List A)) (p : List A × List ℕ) → length bytes ≡ length (text x) + length rest
    → ((q : List A × List ℕ) → o ≡ Some q → AreAsLong text rest q)
    → with_first x o ≡ Some p → AreAsLong text bytes p
more_long_by text bytes x rest None p s f e = absurd (cc)
more_long_by {A = A} text bytes x rest (Some q) p s f e =
    let is : ◌≡◌ {A = List A × List ℕ} (x ∷ q.0, q.1) p = some_is _ _ e in
    omega (
      arith,
      s,
      f q refl,
      length-append (text x) (flat_map text q.0),
      ap (λ (r : List A × List ℕ). length (flat_map text r.0)) is,
      ap (λ (r : List A × List ℕ). length r.1) is,
    )

more_long : {A : Type 0} (at : List ℕ → Front A) (text : A → List ℕ) (n : ℕ) (bytes : List ℕ) (o : Front A)
    (p : List A × List ℕ) → at bytes ≡ o → AsLong at text
    → ((rest : List ℕ) (q : List A × List ℕ) → front_of at n rest ≡ Some q → AreAsLong text rest q)
    → and_more o (front_of at n) ≡ Some p → AreAsLong text bytes p
more_long at text n bytes None p a long f e = absurd (cc)
more_long at text n bytes (Some x) p a long f e =
    more_long_by text bytes x.0 x.1 (front_of at n x.1) p (long bytes x.0 x.1 a) (λ q. f x.1 q) e

front_long : {A : Type 0} (at : List ℕ → Front A) (text : A → List ℕ) → AsLong at text
    → (n : ℕ) (bytes : List ℕ) (p : List A × List ℕ) → front_of at n bytes ≡ Some p
    → AreAsLong text bytes p
unfolding front_of
front_long {A = A} at text long zero bytes p e =
    let is : ◌≡◌ {A = List A × List ℕ} ([], bytes) p = some_is _ _ e in
    omega (
      arith,
      ap (λ (r : List A × List ℕ). length (flat_map text r.0)) is,
      ap (λ (r : List A × List ℕ). length r.1) is,
    )
front_long at text long (suc n) bytes p e = more_long at text n bytes (at bytes) p refl long
    (λ rest q. front_long at text long n rest q) e

-- what stands alone is all that was left
alone_long : {A : Type 0} (p : A × List ℕ) (x : A) (none : Bool) → (length p.1 == 0) ≡ none
    → (if none then Some p.0 else None) ≡ Some x → (p.0 ≡ x) × (length p.1 ≡ 0)
alone_long p x false n e = absurd (cc)
alone_long p x true n e = (some_is _ _ e, grind (arith, nat_tests))

all_long_by : {A : Type 0} (text : A → List ℕ) (bytes : List ℕ) (xs : List A) (o : Front (List A))
    → ((q : List A × List ℕ) → o ≡ Some q → AreAsLong text bytes q)
    → alone o ≡ Some xs → length bytes ≡ length (flat_map text xs)
all_long_by text bytes xs None f e = absurd (cc)
all_long_by {A = A} text bytes xs (Some p) f e =
    let is = alone_long p xs (length p.1 == 0) refl e in
    omega (arith, f p refl, ap (λ (ys : List A). length (flat_map text ys)) is.0, is.1)

all_long : {A : Type 0} (at : List ℕ → Front A) (text : A → List ℕ) → AsLong at text
    → (n : ℕ) (bytes : List ℕ) (xs : List A) → all_of at n bytes ≡ Some xs
    → length bytes ≡ length (flat_map text xs)
all_long at text long n bytes xs e =
    all_long_by text bytes xs (front_of at n bytes) (λ q. front_long at text long n bytes q) e

-- Tickets.

ticket_long_by : (bytes : List ℕ) (enough : Bool) (t : Ticket) (rest : List ℕ)
    → (nat_le 20 (length bytes) && fits_ticket (ticket_in bytes)) ≡ enough
    → ◌≡◌ {A = Front Ticket} (if enough then Some (ticket_in bytes, drop 20 bytes) else None) (Some (t, rest))
    → length bytes ≡ length (ticket_text t) + length rest
unfolding ticket_text
ticket_long_by bytes false t rest b e = absurd (cc)
ticket_long_by bytes true t rest b e =
    let a : nat_le 20 (length bytes) ≡ true =
    (and_parts (nat_le 20 (length bytes)) (fits_ticket (ticket_in bytes)) b).0 in
    let le : 20 ≤ length bytes = grind (arith, nat_tests) in
    let more : drop 20 bytes ≡ rest = ap (λ z. z.1) (some_is _ _ e) in
    omega (arith, length-drop 20 bytes, ap length more, le)

ticket_long : AsLong ticket_at ticket_text
unfolding ticket_at
ticket_long bytes t rest e = ticket_long_by bytes
    (nat_le 20 (length bytes) && fits_ticket (ticket_in bytes)) t rest refl e

pub tickets_long : (bytes : List ℕ) (ts : List Ticket) → tickets_of bytes ≡ Some ts
    → length bytes ≡ length (tickets_text ts)
tickets_long [] ts e = absurd (cc)
tickets_long (count ∷ rest) ts e = ap suc (all_long ticket_at ticket_text ticket_long count rest ts e)

front_tickets_long : (bytes : List ℕ) (p : List Ticket × List ℕ) → tickets_at bytes ≡ Some p
    → length bytes ≡ length (tickets_text p.0) + length p.1
front_tickets_long [] p e = absurd (cc)
front_tickets_long (count ∷ rest) p e =
    omega (arith, front_long ticket_at ticket_text ticket_long count rest p e)

rest_reports_long : (bytes : List ℕ) (p : List Ticket × List ℕ) (r : Reports) (o : Option (List Ticket))
    → length bytes ≡ length (tickets_text p.0) + length p.1 → tickets_of p.1 ≡ o
    → option_map (λ ts. record { mixed = p.0; unreported = ts }) o ≡ Some r
    → length bytes ≡ length (reports_text r)
rest_reports_long bytes p r None l f e = absurd (cc)
rest_reports_long bytes p r (Some ts) l f e =
    let is : record { mixed = p.0; unreported = ts } ≡ r = some_is _ _ e in
    omega (
      arith,
      l,
      tickets_long p.1 ts f,
      length-append (tickets_text p.0) (tickets_text ts),
      ap (λ q. length (reports_text q)) is,
    )

reports_long_by : (bytes : List ℕ) (r : Reports) (o : Front (List Ticket)) → tickets_at bytes ≡ o
    → reports_by o ≡ Some r → length bytes ≡ length (reports_text r)
reports_long_by bytes r None f e = absurd (cc)
reports_long_by bytes r (Some p) f e =
    rest_reports_long bytes p r (tickets_of p.1) (front_tickets_long bytes p f) refl e

pub reports_long : (bytes : List ℕ) (r : Reports) → reports_of bytes ≡ Some r
    → length bytes ≡ length (reports_text r)
reports_long bytes r e = reports_long_by bytes r (tickets_at bytes) refl e

-- Keys, values, writes.

piece_long_by : (ok : Bool) (size : ℕ) (bytes piece rest : List ℕ)
    → ◌≡◌ {A = Front (List ℕ)} (if ok then Some (take size bytes, drop size bytes) else None)
    (Some (piece, rest)) → length bytes ≡ length piece + length rest
piece_long_by false size bytes piece rest e = absurd (cc)
piece_long_by true size bytes piece rest e =
    let first : take size bytes ≡ piece = ap (λ z. z.0) (some_is _ _ e) in
    let more : drop size bytes ≡ rest = ap (λ z. z.1) (some_is _ _ e) in
    omega (
      arith,
      ap length (take-append-drop size bytes),
      length-append (take size bytes) (drop size bytes),
      ap length first,
      ap length more,
    )

pub key_long : AsLong key_at key_text
key_long [] k rest e = absurd (cc)
key_long (size ∷ bytes) k rest e = omega (
  arith,
  piece_long_by (nat_le 1 size && nat_le size 64 && nat_le size (length bytes)) size bytes k rest e,
)

pub value_long : AsLong value_at value_text
unfolding value_text
value_long [] v rest e = absurd (cc)
value_long (high ∷ []) v rest e = absurd (cc)
value_long (high ∷ low ∷ bytes) v rest e =
    let size = high * 256 + low in omega (
      arith,
      piece_long_by (nat_le 0 size && nat_le size 256 && nat_le size (length bytes)) size bytes v rest e,
    )

put_long : (key bytes : List ℕ) (o : Front (List ℕ)) (w : Write) (rest : List ℕ) → value_at bytes ≡ o
    → put_of key o ≡ Some (w, rest)
    → length (key_text key) + suc (length bytes) ≡ length (write_text w) + length rest
unfolding write_text
put_long key bytes None w rest f e = absurd (cc)
put_long key bytes (Some p) w rest f e =
    let first : record { key = key; value = Some p.0 } ≡ w = ap (λ z. z.0) (some_is _ _ e) in
    let more : p.1 ≡ rest = ap (λ z. z.1) (some_is _ _ e) in
    omega (
      arith,
      value_long bytes p.0 p.1 f,
      length-append (key_text key) (left_text (Some p.0)),
      ap (λ z. length (key_text z.key ++ left_text z.value)) first,
      ap length more,
    )

left_long_by : (key bytes : List ℕ) (none put : Bool) (w : Write) (rest : List ℕ)
    → (if none then Some (record { key = key; value = None }, bytes)
    else if put then put_of key (value_at bytes) else None) ≡ Some (w, rest)
    → length (key_text key) + suc (length bytes) ≡ length (write_text w) + length rest
unfolding write_text
left_long_by key bytes true put w rest e =
    let first : record { key = key; value = None } ≡ w = ap (λ z. z.0) (some_is _ _ e) in
    let more : bytes ≡ rest = ap (λ z. z.1) (some_is _ _ e) in
    omega (
      arith,
      length-append (key_text key) (left_text None),
      ap (λ z. length (key_text z.key ++ left_text z.value)) first,
      ap length more,
    )
left_long_by key bytes false true w rest e = put_long key bytes (value_at bytes) w rest refl e
left_long_by key bytes false false w rest e = absurd (cc)

left_long : (key bytes : List ℕ) (w : Write) (rest : List ℕ) → left_at key bytes ≡ Some (w, rest)
    → length (key_text key) + length bytes ≡ length (write_text w) + length rest
left_long key [] w rest e = absurd (cc)
left_long key (how ∷ bytes) w rest e = left_long_by key bytes (how == 0) (how == 1) w rest e

write_long_by : (bytes : List ℕ) (o : Front (List ℕ)) (w : Write) (rest : List ℕ) → key_at bytes ≡ o
    → write_by o ≡ Some (w, rest)
    → length bytes ≡ length (write_text w) + length rest
write_long_by bytes None w rest f e = absurd (cc)
write_long_by bytes (Some p) w rest f e = omega (arith, key_long bytes p.0 p.1 f, left_long p.0 p.1 w rest e)

write_long : AsLong write_at write_text
unfolding write_at
write_long bytes w rest e = write_long_by bytes (key_at bytes) w rest refl e

writes_long_by : (ok : Bool) (count : ℕ) (rest : List ℕ) (ws : List Write)
    → (if ok then all_of write_at count rest else None) ≡ Some ws
    → suc (length rest) ≡ length (writes_text ws)
writes_long_by false count rest ws e = absurd (cc)
writes_long_by true count rest ws e = ap suc (all_long write_at write_text write_long count rest ws e)

pub writes_long : (bytes : List ℕ) (ws : List Write) → writes_of bytes ≡ Some ws
    → length bytes ≡ length (writes_text ws)
writes_long [] ws e = absurd (cc)
writes_long (count ∷ rest) ws e = writes_long_by (nat_le 1 count && nat_le count 64) count rest ws e
