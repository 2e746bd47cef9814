-- A sound record fits a frame.
use Rattle.std.proofs.Common.{◌≡◌, ◌≤◌, ◌<◌, ◌+◌, ◌*◌, ℕ, List, [], ◌∷◌, ◌++◌, length, Option, Some, None, refl, arith, length-append, flat_map}
use Rattle.std.proofs.lemmas.Bool.Decides.{nat_tests}
use Rattle.std.proofs.lemmas.Grind.{common_steps}
use Rattle.std.proofs.lemmas.List.Elements.{All-from_recursion}
use Rattle.std.specs.List.{All, AllByRecursion}
use Rattle.byteorder.specs.Endian.{big_bytes}
use Rattle.xa_xid.specs.Xids.{XidParts, xid_fault}
use Rattle.xa_xid.specs.Bytes.{xid_bytes}
use Rattle.protocol.specs.declared.names.Kind.{Kind}
use Rattle.protocol.specs.declared.names.Kind.TheVariants.{Coordinator, Manager}
use Rattle.protocol.specs.declared.names.ProcessId.{ProcessId}
use Rattle.protocol.specs.declared.names.Ticket.{Ticket}
use Rattle.protocol.specs.declared.records.BranchName.{BranchName}
use Rattle.protocol_words.specs.Variants.{CaseBranch}
use Rattle.protocol.specs.declared.records.LogRecord.{LogRecord}
use Rattle.protocol.specs.declared.records.Record.{Record}
use Rattle.protocol.specs.declared.records.Record.TheVariants.{Opened, Collecting, Prepare, Commit, Abort, End, Prepared, Committed, RolledBack, Direct, HeurCommit, HeurRollback, Told, Forgot, Base, Pair, Cleared}
use Rattle.protocol.specs.declared.records.Reports.{Reports}
use Rattle.protocol.specs.declared.records.Write.{Write}
use Rattle.protocol.specs.LogNames.{name_xid}
use Rattle.log_text.specs.declared.form.LogForm.{LogForm}
use Rattle.log_text.specs.declared.form.LogFormat.{LogFormat}
use Rattle.log_text.specs.declared.form.LogFormat.TheVariants.{First, Second}
use Rattle.log_text.specs.Forms.{size_limit, unowned}
use Rattle.log_text.specs.Payloads.{FitsFrame, IsSized, SizedValue, SizedWrite, key_text, left_text, name_text, opened_by, outcome_byte, payload_text, reports_text, ticket_text, tickets_text, value_text, write_text, writes_text}
use Rattle.log_rules.specs.sound.Sound.{AreSoundReports, AreSoundTickets, AreSoundWrites, IsSoundEntry, IsSoundLeft, IsSoundName, IsSoundWrite, RecordsFitFrames}
use Rattle.log_rules.proofs.sound.Names.{name_is_xid}

-- A name takes at most 134 bytes.

record ShortParts (x : XidParts) : Type 0 where
  pub gtrid : length x.gtrid ≤ 64
  pub bqual : length x.bqual ≤ 64

short_parts : (x : XidParts) → xid_fault x.format (length x.gtrid) (length x.bqual) ≡ None → ShortParts x
short_parts x e = record {
  gtrid = grind (arith, nat_tests, common_steps, e);
  bqual = grind (arith, nat_tests, common_steps, e);
}

size_of_xid : (x : XidParts) → length (xid_bytes x) ≡ 6 + length x.gtrid + length x.bqual
size_of_xid x = omega (arith, length-append x.gtrid x.bqual)

short_name : (p : Option ProcessId) (b : BranchName) → IsSoundName p b → length (name_text p b) ≤ 134
short_name p b s =
    let is = name_is_xid p b s in
    let short = short_parts (name_xid p b) is.sound in
    omega (arith, size_of_xid (name_xid p b), short.gtrid, short.bqual)

-- Tickets and writes.

size_of_tickets : (ts : List Ticket) → length (flat_map ticket_text ts) ≡ 20 * length ts
unfolding ticket_text
size_of_tickets [] = refl
size_of_tickets (t ∷ ts) = omega (
  arith,
  length-append (ticket_text t) (flat_map ticket_text ts),
  size_of_tickets ts,
  one t,
)
  where
    one : (t : Ticket) → length (ticket_text t) ≡ 20
    one t = refl

size_of_value : (v : List ℕ) → length (value_text v) ≡ 2 + length v
unfolding value_text
size_of_value v = omega (arith, length-append (big_bytes 2 (length v)) v, two (length v))
  where
    two : (n : ℕ) → length (big_bytes 2 n) ≡ 2
    two n = refl

short_left : (o : Option (List ℕ)) → IsSoundLeft o → length (left_text o) ≤ 259
short_left None h = omega arith
short_left (Some v) h = omega (arith, size_of_value v, h)

short_write : (w : Write) → IsSoundWrite w → length (write_text w) ≤ 324
unfolding write_text
short_write w h = omega (
  arith,
  length-append (key_text w.key) (left_text w.value),
  h.key.short,
  short_left w.value h.left,
)

size_of_writes : (ws : List Write) → AllByRecursion IsSoundWrite ws
    → length (flat_map write_text ws) ≤ 324 * length ws
size_of_writes [] h = omega arith
size_of_writes (w ∷ ws) h = omega (
  arith,
  length-append (write_text w) (flat_map write_text ws),
  size_of_writes ws h.1,
  short_write w h.0,
)

sized_value : (o : Option (List ℕ)) → IsSoundLeft o → SizedValue o
sized_value None h = tt
sized_value (Some v) h = omega (arith, h)

sized_writes : (ws : List Write) → AllByRecursion IsSoundWrite ws → All SizedWrite ws
sized_writes ws h = All-from_recursion SizedWrite ws (each ws h)
  where
    each : (ws : List Write) → AllByRecursion IsSoundWrite ws → AllByRecursion SizedWrite ws
    each [] h = tt
    each (w ∷ ws) h = ((omega (arith, h.0.key.short), sized_value w.value h.0.left), each ws h.1)

-- Records.

sized : (k : Kind) (p : Option ProcessId) (r : Record) → IsSoundEntry k p r → IsSized r
sized Coordinator p (Collecting c ts) h = h.1.count
sized Coordinator p (Prepare c ts) h = h.1.count
sized Coordinator p (Commit c ts) h = h.1.count
sized Coordinator p (Abort c ts) h = h.1.count
sized Manager p (Prepared b ws) h = (omega (arith, h.1.few), sized_writes ws h.1.each)
sized Manager p (Direct b ws) h = (omega (arith, h.1.few), sized_writes ws h.1.each)
sized Manager p (Pair k v) h = (omega (arith, h.1.0.short), omega (arith, h.1.1))
sized k p (Opened n) h = tt
sized k p (End c None) h = tt
sized Coordinator p (End c (Some r)) h = (h.1.mixed.count, h.1.unreported.count)
sized Manager p (End c (Some r)) h = absurd h.1
sized k p (Cleared c) h = tt
sized k p (Committed b) h = tt
sized k p (RolledBack b) h = tt
sized k p (HeurCommit b) h = tt
sized k p (HeurRollback b) h = tt
sized k p (Told b o) h = tt
sized k p (Forgot b) h = tt
sized k p (Base n) h = tt
sized Manager p (Collecting c ts) h = absurd h.1
sized Manager p (Prepare c ts) h = absurd h.1
sized Manager p (Commit c ts) h = absurd h.1
sized Manager p (Abort c ts) h = absurd h.1
sized Coordinator p (Prepared b ws) h = absurd h.1
sized Coordinator p (Direct b ws) h = absurd h.1
sized Coordinator p (Pair k v) h = absurd h.1

with_tickets : (n : List ℕ) (ts : List Ticket) → length n ≤ 134 → AreSoundTickets ts
    → length (n ++ tickets_text ts) < 65536
with_tickets n ts h s = omega (arith, length-append n (tickets_text ts), h, size_of_tickets ts, s.count)

with_reports : (n : List ℕ) (r : Reports) → length n ≤ 134 → AreSoundReports r
    → length (n ++ reports_text r) < 65536
with_reports n r h s = omega (
  arith,
  length-append n (reports_text r),
  length-append (tickets_text r.mixed) (tickets_text r.unreported),
  h,
  size_of_tickets r.mixed,
  size_of_tickets r.unreported,
  s.mixed.count,
  s.unreported.count,
)

with_writes : (n : List ℕ) (ws : List Write) → length n ≤ 134 → AreSoundWrites ws
    → length (n ++ writes_text ws) < 65536
with_writes n ws h s = omega (arith, length-append n (writes_text ws), h, size_of_writes ws s.each, s.few)

short_boot : (f : LogFormat) (form : LogForm) (n : ℕ) → length (opened_by f form n) < 65536
short_boot First form n = omega arith
short_boot Second form n = omega arith

within_limit : (f : LogFormat) (n : ℕ) → n < 65536 → n < size_limit f
within_limit First n h = h
within_limit Second n h = omega (arith, h)

short : (form : LogForm) (k : Kind) (p : Option ProcessId) (r : Record) → IsSoundEntry k p r
    → length (payload_text form p r) < 65536
short form Coordinator p (Opened n) h = short_boot form.format form n
short form Manager p (Opened n) h = short_boot form.format form n
short form Coordinator p (Collecting c ts) h = with_tickets (name_text p (CaseBranch c)) ts
    (short_name p (CaseBranch c) h.0) h.1
short form Coordinator p (Prepare c ts) h = with_tickets (name_text p (CaseBranch c)) ts
    (short_name p (CaseBranch c) h.0) h.1
short form Coordinator p (Commit c ts) h = with_tickets (name_text p (CaseBranch c)) ts
    (short_name p (CaseBranch c) h.0) h.1
short form Coordinator p (Abort c ts) h = with_tickets (name_text p (CaseBranch c)) ts
    (short_name p (CaseBranch c) h.0) h.1
short form Coordinator p (End c None) h = omega (arith, short_name p (CaseBranch c) h)
short form Coordinator p (End c (Some r)) h = with_reports (name_text p (CaseBranch c)) r
    (short_name p (CaseBranch c) h.0) h.1
short form Coordinator p (Cleared c) h = omega (arith, short_name p (CaseBranch c) h)
short form Manager p (Prepared b ws) h = with_writes (name_text p b) ws (short_name p b h.0) h.1
short form Manager p (Direct b ws) h = with_writes (name_text p b) ws (short_name p b h.0) h.1
short form Manager p (Committed b) h = omega (arith, short_name p b h)
short form Manager p (RolledBack b) h = omega (arith, short_name p b h)
short form Manager p (HeurCommit b) h = omega (arith, short_name p b h)
short form Manager p (HeurRollback b) h = omega (arith, short_name p b h)
short form Manager p (Told b o) h = omega (
  arith,
  length-append (name_text p b) (outcome_byte o ∷ []),
  short_name p b h,
)
short form Manager p (Forgot b) h = omega (arith, short_name p b h)
short form Manager p (Base n) h = omega arith
short form Manager p (Pair k v) h = omega (
  arith,
  length-append (key_text k) (value_text v),
  size_of_value v,
  h.1.0.short,
  h.1.1,
)
short form Coordinator p (Prepared b ws) h = absurd h.1
short form Coordinator p (Committed b) h = absurd h.1
short form Coordinator p (RolledBack b) h = absurd h.1
short form Coordinator p (Direct b ws) h = absurd h.1
short form Coordinator p (HeurCommit b) h = absurd h.1
short form Coordinator p (HeurRollback b) h = absurd h.1
short form Coordinator p (Told b o) h = absurd h.1
short form Coordinator p (Forgot b) h = absurd h.1
short form Coordinator p (Base n) h = absurd h.1
short form Coordinator p (Pair k v) h = absurd h.1
short form Manager p (Collecting c ts) h = absurd h.1
short form Manager p (Prepare c ts) h = absurd h.1
short form Manager p (Commit c ts) h = absurd h.1
short form Manager p (Abort c ts) h = absurd h.1
short form Manager p (End c rep) h = absurd h.1
short form Manager p (Cleared c) h = absurd h.1

pub records_fit_frames : RecordsFitFrames
records_fit_frames f l h = record {
  sized = sized f.kind l.parent l.entry h;
  short = within_limit f.format _ (short f f.kind l.parent l.entry h);
}

-- a sound record of whatever sort of process fits a frame of the log of a process
pub sound_fits : (k : Kind) (l : LogRecord) → IsSoundEntry k l.parent l.entry → FitsFrame l
sound_fits k l h = record {
  sized = sized k l.parent l.entry h;
  short = within_limit Second _ (short unowned k l.parent l.entry h);
}
