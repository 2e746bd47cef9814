-- The XID of a whole name reads as this name.
use Rattle.std.proofs.Common.{◌≡◌, ◌<◌, ℕ, zero, suc, List, ◌++◌, length, drop, Option, Some, None, option_map, is_some, refl, sym, ap, ◌∙◌, arith, rules}
use Rattle.std.specs.Int.{w32, byte_at}
use Rattle.std.specs.Int.RustNames.{FitsSigned}
use Rattle.std.proofs.Math.Seq.{drop-append_seam}
use Rattle.std.specs.List.{All, AllByRecursion}
use Rattle.std.proofs.lemmas.List.Elements.{All-append, All-from_recursion}
use Rattle.byteorder.specs.Endian.{big_bytes}
use Rattle.xa_xid.specs.Xids.{FitsParts, IsXid, xid_fault}
use Rattle.protocol.specs.declared.names.Presumption.{Presumption}
use Rattle.protocol.specs.declared.names.Presumption.TheVariants.{PresumeAbort, PresumeCommit}
use Rattle.protocol.specs.declared.names.ProcessId.{ProcessId}
use Rattle.protocol.specs.declared.names.Ticket.{Ticket}
use Rattle.protocol.specs.declared.names.Txn.{Txn}
use Rattle.protocol.specs.declared.records.BranchName.{BranchName}
use Rattle.protocol.specs.declared.records.BranchName.TheVariants.{Foreign}
use Rattle.protocol_words.specs.Variants.{CaseBranch}
use Rattle.protocol.specs.Branches.{below_bytes, branch_format, branch_parts, ticket_bytes, txn_bytes}
use Rattle.protocol.specs.LogNames.{below_of, name_xid}
use Rattle.log_text.proofs.xids.BranchLaws.{length-ticket_bytes, length-txn_bytes}
use Rattle.log_text.specs.Parts.{case_name, name_at, name_in}
use Rattle.log_text.specs.Payloads.{name_text}
use Rattle.log_text.proofs.NameReading.{case_of, foreign_of, xid_front}
use Rattle.log_rules.specs.sound.Sound.{IsSoundName, NamesReadBack}

-- Bytes of numbers.

abbrev Bytes : List ℕ → Type 0
Bytes xs = All (λ b. b < 256) xs

bytes_of : (n x : ℕ) → Bytes (big_bytes n x)
bytes_of n x = All-from_recursion (λ b. b < 256) (big_bytes n x) (each n x)
  where
    small : (n x : ℕ) → byte_at n x < 256
    small zero x = omega arith
    small (suc n) x = omega arith

    each : (n x : ℕ) → AllByRecursion (λ b. b < 256) (big_bytes n x)
    each zero x = tt
    each (suc n) x = (small n x, each n x)

both : (xs ys : List ℕ) → Bytes xs → Bytes ys → Bytes (xs ++ ys)
both xs ys h k = All-append (λ b. b < 256) xs ys h k

txn_is_bytes : (x : Txn) → Bytes (txn_bytes x)
unfolding txn_bytes
txn_is_bytes x =
    both (big_bytes 4 x.root.0) (big_bytes 8 x.boot ++ big_bytes 8 x.sequence) (bytes_of 4 x.root.0)
    (both (big_bytes 8 x.boot) (big_bytes 8 x.sequence) (bytes_of 8 x.boot) (bytes_of 8 x.sequence))

below_is_bytes : (b : Option (ProcessId × Ticket)) → Bytes (below_bytes b)
unfolding ticket_bytes
below_is_bytes None = λ k d h. absurd (omega (arith, h))
below_is_bytes (Some b) =
    both (big_bytes 4 b.0.0) (big_bytes 4 b.1.child.0 ++ (big_bytes 8 b.1.boot ++ big_bytes 8 b.1.number))
    (bytes_of 4 b.0.0)
    (both (big_bytes 4 b.1.child.0) (big_bytes 8 b.1.boot ++ big_bytes 8 b.1.number) (bytes_of 4 b.1.child.0)
    (both (big_bytes 8 b.1.boot) (big_bytes 8 b.1.number) (bytes_of 8 b.1.boot) (bytes_of 8 b.1.number)))

-- The XID of a case.

case_fault : (p : Presumption) (b : Option (ProcessId × Ticket)) (n : ℕ) → n ≡ 20
    → xid_fault (branch_format p) n (length (below_bytes b)) ≡ None
case_fault p b n e = ap (λ k. xid_fault (branch_format p) k (length (below_bytes b))) e ∙ by_size p b
  where
    by_size : (p : Presumption) (b : Option (ProcessId × Ticket))
        → xid_fault (branch_format p) 20 (length (below_bytes b)) ≡ None
    by_size PresumeAbort None = refl
    by_size PresumeCommit None = refl
    by_size PresumeAbort (Some b) = ap (xid_fault (branch_format PresumeAbort) 20) (length-ticket_bytes b)
    by_size PresumeCommit (Some b) = ap (xid_fault (branch_format PresumeCommit) 20) (length-ticket_bytes b)

case_parts : (x : Txn) (b : Option (ProcessId × Ticket)) → FitsParts (branch_parts x b)
case_parts x b = record {
  format = format_fits x.presumption;
  gtrid = txn_is_bytes x;
  bqual = below_is_bytes b;
}
  where
    format_fits : (p : Presumption) → FitsSigned w32 (branch_format p)
    format_fits PresumeAbort = search rules
    format_fits PresumeCommit = search rules

pub case_is_xid : (x : Txn) (b : Option (ProcessId × Ticket)) → IsXid (branch_parts x b)
case_is_xid x b = record {
  fits = case_parts x b;
  sound = case_fault x.presumption b (length (txn_bytes x)) (length-txn_bytes x);
}

pub name_is_xid : (p : Option ProcessId) (b : BranchName) → IsSoundName p b → IsXid (name_xid p b)
name_is_xid p (CaseBranch c) s = case_is_xid c.txn (below_of c.ticket p)
name_is_xid p (Foreign x) s = s.fits

-- A name is read back.

case_again : (p : Option ProcessId) (x : Txn) (t : Option Ticket) → is_some p ≡ is_some t
    → case_name x (below_of t p) ≡ (p, CaseBranch (record { txn = x; ticket = t }))
case_again None x None h = refl
case_again (Some p) x (Some t) h = refl
case_again None x (Some t) h = absurd (cc)
case_again (Some p) x None h = absurd (cc)

pub names_read_back : NamesReadBack
names_read_back p (CaseBranch c) s = case_of c.txn (below_of c.ticket p) _ s.fits.0 s.fits.1 refl
    ∙ case_again p c.txn c.ticket s.whole
names_read_back p (Foreign x) s = foreign_of x s.fits.fits s.whole.1
    ∙ ap (λ q. (q, Foreign x)) (sym s.whole.0)

pub name_back : (p : Option ProcessId) (b : BranchName) (rest : List ℕ) → IsSoundName p b
    → name_at (name_text p b ++ rest) ≡ Some ((p, b), rest)
unfolding name_at
name_back p b rest s =
    let behind : drop (length (name_text p b)) (name_text p b ++ rest) ≡ rest =
    drop-append_seam (name_text p b) rest in
    let front = xid_front (name_xid p b) (name_text p b ++ rest) (name_is_xid p b s)
    (ap (λ t. name_text p b ++ t) (sym behind)) in
    ap (option_map (λ q. (name_in q.0, q.1))) front
    ∙ ap (λ n. Some (n, drop (length (name_text p b)) (name_text p b ++ rest))) (names_read_back p b s)
    ∙ ap (λ t. Some ((p, b), t)) behind
