-- The name that an XID is.
use Rattle.std.proofs.Common.{◌≡◌, ◌≢◌, ◌+◌, ◌<◌, ◌^◌, ℕ, Bool, true, false, List, [], ◌∷◌, ◌++◌, length, drop, Option, Some, None, refl, sym, ap, ◌∙◌, arith, if◌then◌else◌, get_or, is_some, cond}
use Rattle.std.proofs.lemmas.Bool.Decides.{nat_tests}
use Rattle.std.proofs.lemmas.Grind.{common_steps}
use Rattle.xa_xid.specs.declared.error.XidError.{XidError}
use Rattle.std.specs.List.{All}
use Rattle.std.proofs.lemmas.Bool.{and_parts}
use Rattle.byteorder.specs.Endian.{big_number}
use Rattle.byteorder.specs.Numbers.{big_from-lt}
use Rattle.xa_xid.specs.Xids.{XidParts, FitsParts, IsXid}
use Rattle.xa_xid.specs.Bytes.{xid_bytes, front_fault, front_parts}
use Rattle.xa_xid.proofs.Reading.{begins}
use Rattle.protocol.specs.declared.names.ProcessId.{ProcessId}
use Rattle.protocol.specs.declared.names.Presumption.{Presumption}
use Rattle.protocol.specs.declared.names.Presumption.TheVariants.{PresumeAbort, PresumeCommit}
use Rattle.protocol.specs.declared.names.Ticket.{Ticket}
use Rattle.protocol.specs.declared.names.Txn.{Txn}
use Rattle.protocol.specs.declared.records.BranchName.TheVariants.{Foreign}
use Rattle.protocol.specs.Branches.{branch_format, branch_parts, below_bytes, txn_bytes, ticket_bytes, FitsTxn, FitsBelow}
use Rattle.protocol.specs.LogNames.{name_xid}
use Rattle.protocol.specs.Records.{same_bytes, same_xid}
use Rattle.log_text.proofs.xids.BranchLaws.{txn_again, ticket_again, txn_is, ticket_is, length-ticket_bytes}
use Rattle.log_text.specs.Parts.{Front, Name, below_in, case_name, name_by, name_at, name_in, presumption_in, txn_in, xid_at}

-- Bytes are numbers below 256, also after a front.

byte_at : (xs : List ℕ) → All (λ b. b < 256) xs → (k : ℕ) → get_or xs k 0 < 256
byte_at xs h k = grind (arith, nat_tests, common_steps, h k 0)

byte_behind : (n : ℕ) (xs : List ℕ) → All (λ b. b < 256) xs → All (λ b. b < 256) (drop n xs)
byte_behind n xs h = λ k d lt. grind (arith, nat_tests, common_steps, h (n + k) d)

number_fits : (n k : ℕ) (xs : List ℕ) → All (λ b. b < 256) xs → big_number n (drop k xs) < 256 ^ n
number_fits n k xs h = big_from-lt 0 n (drop k xs) (byte_at (drop k xs) (byte_behind k xs h))

-- Equality of XIDs as a test.

pub same_bytes_refl : (xs : List ℕ) → same_bytes xs xs ≡ true
unfolding same_bytes
same_bytes_refl [] = refl
same_bytes_refl (x ∷ xs) = grind (arith, same_bytes_refl xs)

same_bytes_is : (xs ys : List ℕ) → same_bytes xs ys ≡ true → xs ≡ ys
unfolding same_bytes
same_bytes_is [] [] h = refl
same_bytes_is [] (y ∷ ys) h = cc
same_bytes_is (x ∷ xs) [] h = cc
same_bytes_is (x ∷ xs) (y ∷ ys) h = grind (arith, same_bytes_is xs ys)

pub same_xid_refl : (x : XidParts) → same_xid x x ≡ true
unfolding same_xid
same_xid_refl x = rw (same_bytes_refl x.gtrid, same_bytes_refl x.bqual) (grind arith)

parts_are : (x y : XidParts) → x.format ≡ y.format → x.gtrid ≡ y.gtrid → x.bqual ≡ y.bqual → x ≡ y
parts_are x y f g b =
    let e : record { format = x.format; gtrid = x.gtrid; bqual = x.bqual }
    ≡ record { format = y.format; gtrid = y.gtrid; bqual = y.bqual } = rw (f, g, b) refl in e

pub same_xid_is : (x y : XidParts) → same_xid x y ≡ true → x ≡ y
unfolding same_xid
same_xid_is x y h =
    let p = and_parts _ _ h in
    let q = and_parts _ _ p.0 in
    parts_are x y (grind arith) (same_bytes_is _ _ q.0) (same_bytes_is _ _ q.1)

-- A case's XID is that case.

presumption_again : (p : Presumption) → presumption_in (branch_format p) ≡ p
presumption_again PresumeAbort = refl
presumption_again PresumeCommit = refl

txn_back : (x : Txn) → FitsTxn x → txn_in (presumption_in (branch_format x.presumption)) (txn_bytes x) ≡ x
txn_back x h =
    let r = txn_again x h in
    txn_is _ _ _ _ x r.root r.boot r.sequence (sym (presumption_again x.presumption))

some_below : (name : List ℕ) → length name ≡ 24 → below_in name
    ≡ Some (
      record { 0 = big_number 4 name },
      record {
        child = record { 0 = big_number 4 (drop 4 name) };
        boot = big_number 8 (drop 8 name);
        number = big_number 8 (drop 16 name);
      },
    )
some_below [] h = absurd (omega arith)
some_below (b ∷ bs) h = refl

below_back : (b : Option (ProcessId × Ticket)) → FitsBelow b → below_in (below_bytes b) ≡ b
below_back None h = refl
below_back (Some b) h =
    let r = ticket_again b h in
    some_below (ticket_bytes b) (length-ticket_bytes b)
    ∙ ap Some (ticket_is _ _ _ _ b r.parent r.child r.boot r.number)

by_name : (xid : XidParts) (x y : Txn) (b d : Option (ProcessId × Ticket)) → y ≡ x → d ≡ b
    → branch_parts x b ≡ xid → name_by xid y d ≡ case_name x b
by_name xid x y b d e f g = rw (e, f, g, same_xid_refl xid) refl

pub case_of : (x : Txn) (b : Option (ProcessId × Ticket)) (xid : XidParts) → FitsTxn x → FitsBelow b
    → branch_parts x b ≡ xid → name_in xid ≡ case_name x b
unfolding name_in
case_of x b xid hx hb e =
    by_name xid x _ b _ (ap (λ z. txn_in (presumption_in z.format) z.gtrid) (sym e) ∙ txn_back x hx)
    (ap (λ z. below_in z.bqual) (sym e) ∙ below_back b hb) e

-- An XID that is no case's is foreign.

pub fits_txn_in : (p : Presumption) (name : List ℕ) → All (λ b. b < 256) name → FitsTxn (txn_in p name)
fits_txn_in p name h = record {
  root = number_fits 4 0 name h;
  boot = number_fits 8 4 name h;
  sequence = number_fits 8 12 name h;
}

pub fits_below_in : (name : List ℕ) → All (λ b. b < 256) name → FitsBelow (below_in name)
fits_below_in [] h = tt
fits_below_in (b ∷ bs) h = record {
  parent = number_fits 4 0 (b ∷ bs) h;
  child = number_fits 4 4 (b ∷ bs) h;
  boot = number_fits 8 8 (b ∷ bs) h;
  number = number_fits 8 16 (b ∷ bs) h;
}

no_case : (same : Bool) (xid : XidParts) (n : Name) → (same ≡ true → ⊥)
    → (if same then n else (None, Foreign xid)) ≡ (None, Foreign xid)
no_case true xid n h = absurd (h refl)
no_case false xid n h = refl

pub foreign_of : (xid : XidParts) → FitsParts xid
    → ((x : Txn) (b : Option (ProcessId × Ticket)) → FitsTxn x → FitsBelow b → branch_parts x b ≢ xid)
    → name_in xid ≡ (None, Foreign xid)
unfolding name_in
foreign_of xid fits none =
    no_case _ xid _ (λ h. none _ _ (fits_txn_in (presumption_in xid.format) xid.gtrid fits.gtrid)
    (fits_below_in xid.bqual fits.bqual) (same_xid_is _ _ h))

-- The XID at the front, and the name.

found_front : (fault : Option XidError) (p x : XidParts) (bytes : List ℕ) → fault ≡ None → p ≡ x
    → ◌≡◌ {A = Front XidParts} (if is_some fault then None else Some (p, drop (length (xid_bytes p)) bytes))
    (Some (x, drop (length (xid_bytes x)) bytes))
found_front fault p x bytes f e = ap (λ z. if is_some z then None
    else Some (p, drop (length (xid_bytes p)) bytes)) f
    ∙ ap (λ q. Some (q, drop (length (xid_bytes q)) bytes)) e

pub xid_front : (x : XidParts) (bytes : List ℕ) → IsXid x
    → bytes ≡ xid_bytes x ++ drop (length (xid_bytes x)) bytes
    → xid_at bytes ≡ Some (x, drop (length (xid_bytes x)) bytes)
unfolding xid_at
xid_front x bytes is e =
    let b = begins x (drop (length (xid_bytes x)) bytes) bytes is e in
    found_front (front_fault bytes) (front_parts bytes) x bytes b.0 b.1

pub name_of_front : (n : Name) (x : XidParts) (size : ℕ) (rest bytes : List ℕ) → IsXid x
    → size ≡ length (xid_bytes x) → bytes ≡ xid_bytes x ++ drop size bytes
    → n ≡ name_in x → rest ≡ drop size bytes → ◌≡◌ {A = Front Name} (Some (n, rest)) (name_at bytes)
unfolding name_at
name_of_front n x size rest bytes is s e f r =
    let e' : bytes ≡ xid_bytes x ++ drop (length (xid_bytes x)) bytes = e
    ∙ ap (λ k. xid_bytes x ++ drop k bytes) s in
    let at = xid_front x bytes is e' in
    rw (f, r, s, at) refl

pub no_name : (bytes : List ℕ) (fault : XidError) → front_fault bytes ≡ Some fault
    → ◌≡◌ {A = Front Name} None (name_at bytes)
unfolding name_at xid_at
no_name bytes fault e = rw e refl

-- An XID is that of its name.

xid_of_case : (x : Txn) (b : Option (ProcessId × Ticket))
    → name_xid (case_name x b).0 (case_name x b).1 ≡ branch_parts x b
xid_of_case x None = refl
xid_of_case x (Some b) = refl

-- the XID of the name that an XID is read as is this XID
pub name_again : (xid : XidParts) → name_xid (name_in xid).0 (name_in xid).1 ≡ xid
unfolding name_in
name_again xid = by_test (same_xid (branch_parts (txn_in (presumption_in xid.format) xid.gtrid)
    (below_in xid.bqual)) xid) refl
  where
    by_test : (b : Bool)
        → same_xid (branch_parts (txn_in (presumption_in xid.format) xid.gtrid) (below_in xid.bqual)) xid ≡ b
        → name_xid (cond b (case_name (txn_in (presumption_in xid.format) xid.gtrid) (below_in xid.bqual))
        (None, Foreign xid)).0
        (cond b (case_name (txn_in (presumption_in xid.format) xid.gtrid) (below_in xid.bqual))
        (None, Foreign xid)).1 ≡ xid
    by_test true e = xid_of_case _ (below_in xid.bqual) ∙ same_xid_is _ xid e
    by_test false e = refl
