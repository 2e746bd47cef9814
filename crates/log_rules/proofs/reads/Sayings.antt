-- What the records of a coordinator's case say of it, in any order of the tests.
use Rattle.std.proofs.Common.{◌≡◌, Bool, true, false, not, ◌||◌, cond, if◌then◌else◌, refl, Some, None, is_some}
use Rattle.protocol.specs.declared.records.Record.{Record}
use Rattle.protocol.specs.declared.records.Record.TheVariants.{Opened, Collecting, Prepare, Commit, Abort, End, Prepared, Committed, RolledBack, Direct, HeurCommit, HeurRollback, Told, Forgot, Base, Pair, Cleared}
use Rattle.protocol.specs.declared.standings.Standing.TheVariants.{Unknown}
use Rattle.protocol.specs.Records.{none_of}
use Rattle.protocol.specs.Restarts.{is_known}
use Rattle.protocol.specs.Standings.{standing_by}
use Rattle.log_rules.specs.declared.trim.lives.Said.{Said}
use Rattle.log_rules.specs.declared.trim.lives.Said.TheVariants.{Nothing, Waits, Settled, Owes, Over, Reported}
use Rattle.log_rules.specs.trim.Tables.{is_live, said_after}

-- the case is over, and what was found of it is reported or not
abbrev pub over : Bool → Said
over true = Reported
over false = Over

-- what is said of a case: what was found of it is reported
abbrev pub is_reporting : Said → Bool
is_reporting Reported = true
is_reporting _ = false

-- what is said after records of which one ended the case, the last to tell reports it, one names somebody who
-- owes, one decided it, one began it
abbrev pub behind : Said → Bool → Bool → Bool → Bool → Bool → Said
behind Over e q o d b = over q
behind Reported e q o d b = over q
behind Owes e q o d b = if e then over q else Owes
behind Settled e q o d b = if e then over q else if o then Owes else Settled
behind Waits e q o d b = if e then over q else if o then Owes else if d then Settled else Waits
behind Nothing e q o d b =
    if e then over q else if o then Owes else if d then Settled else if b then Waits else Nothing

-- the tests of one record, whatever its case
abbrev pub ends : Record → Bool
ends (End c rep) = true
ends _ = false

abbrev pub owes : Record → Bool
owes (Commit c ts) = not (none_of ts)
owes (Abort c ts) = not (none_of ts)
owes _ = false

abbrev pub decides : Record → Bool
decides (Commit c ts) = true
decides (Abort c ts) = true
decides _ = false

abbrev pub starts : Record → Bool
starts (Collecting c ts) = true
starts (Prepare c ts) = true
starts _ = false

-- the report is after a record of the case
abbrev pub reports_next : Bool → Record → Bool
reports_next b (End c rep) = is_some rep
reports_next b (Cleared c) = false
reports_next b _ = b

-- a record that a coordinator's case can have
abbrev pub IsOfCase : Record → Type 0
IsOfCase (Collecting c ts) = Unit {0}
IsOfCase (Prepare c ts) = Unit {0}
IsOfCase (Commit c ts) = Unit {0}
IsOfCase (Abort c ts) = Unit {0}
IsOfCase (End c rep) = Unit {0}
IsOfCase (Cleared c) = Unit {0}
IsOfCase _ = ⊥

decided_one : (n e q o d b : Bool)
    → behind (cond n Settled Owes) e q o d b ≡ behind Settled e q (not n || o) true b
decided_one true e q o d b = refl
decided_one false true q o d b = refl
decided_one false false q o d b = refl

decided_waits : (n e q o d b : Bool)
    → behind (cond n Settled Owes) e q o d b ≡ behind Waits e q (not n || o) true b
decided_waits true true q o d b = refl
decided_waits true false q o d b = refl
decided_waits false true q o d b = refl
decided_waits false false q o d b = refl

decided_nothing : (n e q o d b : Bool)
    → behind (cond n Settled Owes) e q o d b ≡ behind Nothing e q (not n || o) true b
decided_nothing true true q o d b = refl
decided_nothing true false q o d b = refl
decided_nothing false true q o d b = refl
decided_nothing false false q o d b = refl

-- one record of the case more
pub said_one : (s : Said) (r : Record) (e q o d b : Bool) → IsOfCase r
    → behind (said_after s r) e q o d b
    ≡ behind s (ends r || e) q (owes r || o) (decides r || d) (starts r || b)
said_one Over (Collecting c ts) e q o d b h = refl
said_one Reported (Collecting c ts) e q o d b h = refl
said_one Owes (Collecting c ts) e q o d b h = refl
said_one Settled (Collecting c ts) e q o d b h = refl
said_one Waits (Collecting c ts) e q o d b h = refl
said_one Nothing (Collecting c ts) e q o d b h = refl
said_one Over (Prepare c ts) e q o d b h = refl
said_one Reported (Prepare c ts) e q o d b h = refl
said_one Owes (Prepare c ts) e q o d b h = refl
said_one Settled (Prepare c ts) e q o d b h = refl
said_one Waits (Prepare c ts) e q o d b h = refl
said_one Nothing (Prepare c ts) e q o d b h = refl
said_one Over (Commit c ts) e q o d b h = refl
said_one Reported (Commit c ts) e q o d b h = refl
said_one Owes (Commit c ts) e q o d b h = refl
said_one Settled (Commit c ts) e q o d b h = decided_one (none_of ts) e q o d b
said_one Waits (Commit c ts) e q o d b h = decided_waits (none_of ts) e q o d b
said_one Nothing (Commit c ts) e q o d b h = decided_nothing (none_of ts) e q o d b
said_one Over (Abort c ts) e q o d b h = refl
said_one Reported (Abort c ts) e q o d b h = refl
said_one Owes (Abort c ts) e q o d b h = refl
said_one Settled (Abort c ts) e q o d b h = decided_one (none_of ts) e q o d b
said_one Waits (Abort c ts) e q o d b h = decided_waits (none_of ts) e q o d b
said_one Nothing (Abort c ts) e q o d b h = decided_nothing (none_of ts) e q o d b
said_one Over (End c None) e q o d b h = refl
said_one Over (End c (Some r)) e q o d b h = refl
said_one Reported (End c None) e q o d b h = refl
said_one Reported (End c (Some r)) e q o d b h = refl
said_one Owes (End c None) e q o d b h = refl
said_one Owes (End c (Some r)) e q o d b h = refl
said_one Settled (End c None) e q o d b h = refl
said_one Settled (End c (Some r)) e q o d b h = refl
said_one Waits (End c None) e q o d b h = refl
said_one Waits (End c (Some r)) e q o d b h = refl
said_one Nothing (End c None) e q o d b h = refl
said_one Nothing (End c (Some r)) e q o d b h = refl
said_one Over (Cleared c) e q o d b h = refl
said_one Reported (Cleared c) e q o d b h = refl
said_one Owes (Cleared c) e q o d b h = refl
said_one Settled (Cleared c) e q o d b h = refl
said_one Waits (Cleared c) e q o d b h = refl
said_one Nothing (Cleared c) e q o d b h = refl
said_one s (Opened n) e q o d b h = absurd h
said_one s (Prepared c ts) e q o d b h = absurd h
said_one s (Committed c) e q o d b h = absurd h
said_one s (RolledBack c) e q o d b h = absurd h
said_one s (Direct c ws) e q o d b h = absurd h
said_one s (HeurCommit c) e q o d b h = absurd h
said_one s (HeurRollback c) e q o d b h = absurd h
said_one s (Told c x) e q o d b h = absurd h
said_one s (Forgot c) e q o d b h = absurd h
said_one s (Base n) e q o d b h = absurd h
said_one s (Pair k v) e q o d b h = absurd h

-- and what it reports
pub reporting_one : (s : Said) (r : Record) (b : Bool) → IsOfCase r
    → is_reporting (if b then said_after s r else s)
    ≡ (if b then reports_next (is_reporting s) r else is_reporting s)
reporting_one s r false h = refl
reporting_one s r true h = one s r h
  where
    settled : (n : Bool) → is_reporting (cond n Settled Owes) ≡ false
    settled true = refl
    settled false = refl

    one : (s : Said) (r : Record) → IsOfCase r → is_reporting (said_after s r)
        ≡ reports_next (is_reporting s) r
    one Over (Collecting c ts) h = refl
    one Reported (Collecting c ts) h = refl
    one Owes (Collecting c ts) h = refl
    one Settled (Collecting c ts) h = refl
    one Waits (Collecting c ts) h = refl
    one Nothing (Collecting c ts) h = refl
    one Over (Prepare c ts) h = refl
    one Reported (Prepare c ts) h = refl
    one Owes (Prepare c ts) h = refl
    one Settled (Prepare c ts) h = refl
    one Waits (Prepare c ts) h = refl
    one Nothing (Prepare c ts) h = refl
    one Over (Commit c ts) h = refl
    one Reported (Commit c ts) h = refl
    one Owes (Commit c ts) h = refl
    one Settled (Commit c ts) h = settled (none_of ts)
    one Waits (Commit c ts) h = settled (none_of ts)
    one Nothing (Commit c ts) h = settled (none_of ts)
    one Over (Abort c ts) h = refl
    one Reported (Abort c ts) h = refl
    one Owes (Abort c ts) h = refl
    one Settled (Abort c ts) h = settled (none_of ts)
    one Waits (Abort c ts) h = settled (none_of ts)
    one Nothing (Abort c ts) h = settled (none_of ts)
    one s (End c None) h = refl
    one s (End c (Some r)) h = refl
    one Over (Cleared c) h = refl
    one Reported (Cleared c) h = refl
    one Owes (Cleared c) h = refl
    one Settled (Cleared c) h = refl
    one Waits (Cleared c) h = refl
    one Nothing (Cleared c) h = refl
    one s (Opened n) h = absurd h
    one s (Prepared c ts) h = absurd h
    one s (Committed c) h = absurd h
    one s (RolledBack c) h = absurd h
    one s (Direct c ws) h = absurd h
    one s (HeurCommit c) h = absurd h
    one s (HeurRollback c) h = absurd h
    one s (Told c x) h = absurd h
    one s (Forgot c) h = absurd h
    one s (Base n) h = absurd h
    one s (Pair k v) h = absurd h

-- a case whose records say so is live exactly where it is not Unknown, or what was found of it is reported
pub live_is_known : (e q o cm ab pr co : Bool) → (o ≡ true → (cm || ab) ≡ true) → (q ≡ true → e ≡ true)
    → is_live (behind Nothing e q o (cm || ab) (pr || co))
    ≡ (is_known (standing_by e cm ab pr co (not o) Unknown) || q)
live_is_known true true o cm ab pr co h g = refl
live_is_known true false o cm ab pr co h g = refl
live_is_known false true o cm ab pr co h g = absurd (let no : false ≡ true = g refl in cc)
live_is_known false false true true ab pr co h g = refl
live_is_known false false true false true pr co h g = refl
live_is_known false false true false false pr co h g = absurd (let no : false ≡ true = h refl in cc)
live_is_known false false false true ab pr co h g = refl
live_is_known false false false false true pr co h g = refl
live_is_known false false false false false true co h g = refl
live_is_known false false false false false false true h g = refl
live_is_known false false false false false false false h g = refl
