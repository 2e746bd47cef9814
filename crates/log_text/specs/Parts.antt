-- The parts of a payload, as they are read from its front: each with the bytes after it.
use Rattle.std.specs.Prelude.{ℕ, zero, suc, ℤ, pos, ◌+◌, ◌*◌, ◌^◌, ◌&&◌, nat_le, nat_lt, ◌==◌, Bool, if◌then◌else◌, is_some, List, [], ◌∷◌, Option, Some, None, length, take, drop, option_map}
use Rattle.std.specs.Ordering.{int_eq}
use Rattle.byteorder.specs.Endian.{big_number}
use Rattle.xa_xid.specs.Xids.{XidParts}
use Rattle.xa_xid.specs.Bytes.{xid_bytes, front_fault, front_parts}
use Rattle.protocol.specs.declared.names.ProcessId.{ProcessId}
use Rattle.protocol.specs.declared.names.Presumption.{Presumption}
use Rattle.protocol.specs.declared.names.Presumption.TheVariants.{PresumeAbort, PresumeCommit}
use Rattle.protocol.specs.declared.names.Ticket.{Ticket}
use Rattle.protocol.specs.declared.names.Txn.{Txn}
use Rattle.protocol.specs.declared.records.BranchName.{BranchName}
use Rattle.protocol.specs.declared.records.BranchName.TheVariants.{Foreign}
use Rattle.protocol_words.specs.Variants.{CaseBranch}
use Rattle.protocol.specs.declared.records.Reports.{Reports}
use Rattle.protocol.specs.declared.records.Write.{Write}
use Rattle.protocol.specs.Branches.{branch_parts}
use Rattle.protocol.specs.Records.{same_xid}

-- what is read of a payload's front, and the bytes after it
abbrev pub Front : Type 0 → Type 0
Front A = Option (A × List ℕ)

-- Names.

-- the XID at the front
unfoldable pub xid_at : List ℕ → Front XidParts
xid_at bytes =
    if is_some (front_fault bytes) then None
    else Some (front_parts bytes, drop (length (xid_bytes (front_parts bytes))) bytes)

-- the transaction that a gtrid of 20 bytes names
abbrev pub txn_in : Presumption → List ℕ → Txn
txn_in p name =
    record {
      root = record { 0 = big_number 4 name };
      boot = big_number 8 (drop 4 name);
      sequence = big_number 8 (drop 12 name);
      presumption = p;
    }

-- the parent and the ticket that a bqual of 24 bytes names; none that is empty
abbrev pub below_in : List ℕ → Option (ProcessId × Ticket)
below_in [] = None
below_in (b ∷ bs) =
    Some (
      record { 0 = big_number 4 (b ∷ bs) },
      record {
        child = record { 0 = big_number 4 (drop 4 (b ∷ bs)) };
        boot = big_number 8 (drop 8 (b ∷ bs));
        number = big_number 8 (drop 16 (b ∷ bs));
      },
    )

-- the presumption that an XID's format tells: 4002 is Presumed Commit's
abbrev pub presumption_in : ℤ → Presumption
presumption_in format = if int_eq format (pos 4002) then PresumeCommit else PresumeAbort

-- a name: the branch, and the parent of a case below the root
abbrev pub Name : Type 0
Name = Option ProcessId × BranchName

-- the name of a case: alone at the root, else with its parent and its ticket
abbrev pub case_name : Txn → Option (ProcessId × Ticket) → Name
case_name x None = (None, CaseBranch (record { txn = x; ticket = None }))
case_name x (Some b) = (Some b.0, CaseBranch (record { txn = x; ticket = Some b.1 }))

-- the case where it has this XID itself, else the XID as a foreign name
abbrev pub name_by : XidParts → Txn → Option (ProcessId × Ticket) → Name
name_by xid x b = if same_xid (branch_parts x b) xid then case_name x b else (None, Foreign xid)

-- the name that an XID is: the case that has this XID, or else the XID itself
unfoldable pub name_in : XidParts → Name
name_in xid = name_by xid (txn_in (presumption_in xid.format) xid.gtrid) (below_in xid.bqual)

-- the name at the front of a payload: the XID there, read as a name
unfoldable pub name_at : List ℕ → Front Name
name_at bytes = option_map (λ p. (name_in p.0, p.1)) (xid_at bytes)

-- Tickets.

-- the ticket in 20 bytes
abbrev pub ticket_in : List ℕ → Ticket
ticket_in bytes = record {
  child = record { 0 = big_number 4 bytes };
  boot = big_number 8 (drop 4 bytes);
  number = big_number 8 (drop 12 bytes);
}

-- a ticket's numbers are below 2^63
abbrev pub fits_ticket : Ticket → Bool
fits_ticket t = nat_lt t.boot (2 ^ 63) && nat_lt t.number (2 ^ 63)

-- the ticket at the front: its numbers are below 2^63
unfoldable pub ticket_at : List ℕ → Front Ticket
ticket_at bytes = if nat_le 20 (length bytes) && fits_ticket (ticket_in bytes)
    then Some (ticket_in bytes, drop 20 bytes) else None

-- Keys, values and writes.

-- the first N bytes, where there are as many and their number is within these bounds
abbrev pub piece_at : ℕ → ℕ → ℕ → List ℕ → Front (List ℕ)
piece_at least most size rest =
    if nat_le least size && nat_le size most && nat_le size (length rest)
    then Some (take size rest, drop size rest) else None

-- the key at the front, after its length: 1 to 64 bytes
abbrev pub key_at : List ℕ → Front (List ℕ)
key_at [] = None
key_at (size ∷ rest) = piece_at 1 64 size rest

-- the value at the front, after its length: at most 256 bytes
abbrev pub value_at : List ℕ → Front (List ℕ)
value_at (high ∷ low ∷ rest) = piece_at 0 256 (high * 256 + low) rest
value_at _ = None

-- the write that puts a value, where a value was read
abbrev pub put_of : List ℕ → Front (List ℕ) → Front Write
put_of key None = None
put_of key (Some p) = Some (record { key = key; value = Some p.0 }, p.1)

-- what a write leaves: 0 where nothing, else 1 and the value
abbrev pub left_at : List ℕ → List ℕ → Front Write
left_at key [] = None
left_at key (how ∷ rest) =
    if how == 0 then Some (record { key = key; value = None }, rest)
    else if how == 1 then put_of key (value_at rest) else None

-- the write of a key, where a key was read, by what it leaves there
abbrev pub write_by : Front (List ℕ) → Front Write
write_by None = None
write_by (Some p) = left_at p.0 p.1

-- the write at the front
unfoldable pub write_at : List ℕ → Front Write
write_at bytes = write_by (key_at bytes)

-- Lists.

-- a part in front of those that were read after it
abbrev pub with_first : {A : Type 0} → A → Front (List A) → Front (List A)
with_first x o = option_map (λ p. (x ∷ p.0, p.1)) o

-- N of a kind, one after the other, and the bytes after them
abbrev pub and_more : {A : Type 0} → Front A → (List ℕ → Front (List A)) → Front (List A)
and_more None more = None
and_more (Some p) more = with_first p.0 (more p.1)

-- N parts, each read at the front of what the last one left, and the bytes after the last
unfoldable pub front_of : {A : Type 0} → (List ℕ → Front A) → ℕ → List ℕ → Front (List A)
front_of at zero bytes = Some ([], bytes)
front_of at (suc n) bytes = and_more (at bytes) (front_of at n)

-- what was read, if nothing is after it
abbrev pub alone : {A : Type 0} → Front A → Option A
alone None = None
alone (Some p) = if length p.1 == 0 then Some p.0 else None

-- N parts, and nothing after the last
abbrev pub all_of : {A : Type 0} → (List ℕ → Front A) → ℕ → List ℕ → Option (List A)
all_of at n bytes = alone (front_of at n bytes)

-- tickets after their number, and the bytes after them
abbrev pub tickets_at : List ℕ → Front (List Ticket)
tickets_at [] = None
tickets_at (count ∷ rest) = front_of ticket_at count rest

-- tickets after their number, and nothing after them
abbrev pub tickets_of : List ℕ → Option (List Ticket)
tickets_of bytes = alone (tickets_at bytes)

-- what an End reports, where the mixed tickets were read: after them the unreported ones, and nothing more
abbrev pub reports_by : Front (List Ticket) → Option Reports
reports_by None = None
reports_by (Some p) = option_map (λ ts. record { mixed = p.0; unreported = ts }) (tickets_of p.1)

-- what an End reports: the mixed tickets, and the unreported ones
abbrev pub reports_of : List ℕ → Option Reports
reports_of bytes = reports_by (tickets_at bytes)

-- writes after their number: 1 to 64
abbrev pub writes_of : List ℕ → Option (List Write)
writes_of [] = None
writes_of (count ∷ rest) = if nat_le 1 count && nat_le count 64 then all_of write_at count rest else None
