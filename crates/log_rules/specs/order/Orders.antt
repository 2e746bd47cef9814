-- Which record may follow which in a log.
use Rattle.std.specs.Prelude.{⊤, ℕ, ◌&&◌, ◌||◌, not, nat_le, nat_lt, Bool, true, false, if◌then◌else◌, is_some, unwrap_or, map, List, [], ◌∷◌, Option, Some, None, length}
use Rattle.std.specs.Map.{lookup, remove_entry}
use Rattle.indexmap.specs.IndexMap.{insert_entry}
use Rattle.xa_xid.specs.declared.xid.Xid.{Xid}
use Rattle.xa_xid.specs.contracts.xid.XidPartialEq.TheImpl as names
use Rattle.protocol.specs.declared.names.ProcessId.{ProcessId}
use Rattle.protocol_words.specs.Variants.{BaseRecord, CaseBranch, PairRecord, ToldRecord}
use Rattle.protocol.specs.declared.records.LogRecord.{LogRecord}
use Rattle.protocol.specs.declared.records.Record.{Record}
use Rattle.protocol.specs.declared.records.Record.TheVariants.{Opened, Collecting, Prepare, Commit, Abort, End, Prepared, Committed, RolledBack, Direct, HeurCommit, HeurRollback, Forgot, Cleared}
use Rattle.protocol.specs.declared.records.Write.{Write}
use Rattle.protocol.specs.LogNames.{name_xid}
use Rattle.protocol.specs.Records.{same_bytes, is_opened}
use Rattle.protocol.specs.Store.{key_below}
use Rattle.log_rules.specs.declared.order.seen.DoubtMark.{DoubtMark}
use Rattle.log_rules.specs.declared.order.seen.DoubtMark.TheVariants.{Open, Decided, Told}
use Rattle.log_rules.specs.declared.order.seen.Promise.{Promise}
use Rattle.log_rules.specs.declared.order.seen.Data.{Data}
use Rattle.log_rules.specs.declared.order.seen.Data.TheVariants.{Other, Base, Pair}

-- what the records so far have said
pub record SeenLog : Type 0 where
  pub boot : Option ℕ
  pub before : Data
  pub ranks : List (Xid × ℕ)
  pub live : List (Xid × Promise)

-- what the records of an empty log have said
abbrev pub nothing_seen : SeenLog
nothing_seen = record { boot = None; before = Other; ranks = []; live = [] }

-- two names of a log are one: they have one XID
abbrev pub same : Xid → Xid → Bool
same = names.ghosts.eq

-- Coordinators. The records of a case come in the order Collecting, Prepare, Commit or Abort, End, each at
-- most once: their ranks rise. After an End that reports what was found, and after nothing else, comes
-- Cleared, once.

-- how far a case has come: the rank of its last record, 0 if it has none
abbrev pub rank_in : List (Xid × ℕ) → Xid → ℕ
rank_in ranks x = unwrap_or (lookup (same x) ranks) 0

-- the rank of a case's last record is within these bounds
abbrev pub is_within : SeenLog → Xid → ℕ → ℕ → Bool
is_within s x least most = nat_le least (rank_in s.ranks x) && nat_le (rank_in s.ranks x) most

-- a case's record of this rank, where the rank of its last one is within these bounds
abbrev pub ranked : SeenLog → Xid → ℕ → ℕ → ℕ → Option SeenLog
ranked s x least most rank =
    if is_within s x least most then Some
    (record { boot = s.boot; before = Other; ranks = insert_entry same s.ranks x rank; live = s.live })
    else None

-- a branch is open: it promised, and nothing was decided
abbrev pub opens : DoubtMark → Bool
opens Open = true
opens _ = false

-- a branch was decided by an operator and was not told the outcome
abbrev pub waits : DoubtMark → Bool
waits Decided = true
waits _ = false

-- Managers. A branch is open after its Prepared; decided after an operator's record, and told after Told.

-- there is a branch, and it is open
abbrev pub is_open : Option Promise → Bool
is_open None = false
is_open (Some p) = opens p.mark

-- there is a branch that an operator decided, and it was not told
abbrev pub is_untold : Option Promise → Bool
is_untold None = false
is_untold (Some p) = waits p.mark

-- there is a branch that an operator decided, told or not
abbrev pub is_heuristic : Option Promise → Bool
is_heuristic None = false
is_heuristic (Some p) = not (opens p.mark)

-- what is known of the branch of this name
abbrev pub found : SeenLog → Xid → Option Promise
found s x = lookup (same x) s.live

-- the writes that a branch promised, where it is open still
abbrev pub promised_by : Option Promise → List Write
promised_by None = []
promised_by (Some p) = if opens p.mark then p.writes else []

-- the writes that a branch promised that is open still
abbrev pub promised : SeenLog → Xid → List Write
promised s x = promised_by (found s x)

-- the branches that are open or heuristic, in the order of their promises, and whether an operator decided
-- them
abbrev pub in_doubt_by : SeenLog → List (Xid × Bool)
in_doubt_by s = map (λ e. (e.0, not (opens e.1.mark))) s.live

-- a write of this key is in the list
unfoldable pub names_key : List Write → List ℕ → Bool
names_key [] k = false
names_key (w ∷ ws) k = same_bytes w.key k || names_key ws k

-- no key is named twice
unfoldable pub keys_once : List Write → Bool
keys_once [] = true
keys_once (w ∷ ws) = not (names_key ws w.key) && keys_once ws

-- a branch is open, and the key is of a write that it promised
abbrev pub holds : Promise → List ℕ → Bool
holds p k = opens p.mark && names_key p.writes k

-- the key is of a write that an open branch promised
unfoldable pub key_open : List Promise → List ℕ → Bool
key_open [] k = false
key_open (p ∷ ps) k = holds p k || key_open ps k

-- no write is of a key of an open branch
unfoldable pub keys_free : List Promise → List Write → Bool
keys_free ps [] = true
keys_free ps (w ∷ ws) = not (key_open ps w.key) && keys_free ps ws

-- what is known of all branches that are open or heuristic
abbrev pub promises : SeenLog → List Promise
promises s = map (λ e. e.1) s.live

-- this is now known of a branch
abbrev pub with_promise : SeenLog → Xid → Promise → SeenLog
with_promise s x p = record {
  boot = s.boot;
  before = Other;
  ranks = s.ranks;
  live = insert_entry same s.live x p;
}

-- nothing is known of a branch any more
abbrev pub without_promise : SeenLog → Xid → SeenLog
without_promise s x = record {
  boot = s.boot;
  before = Other;
  ranks = s.ranks;
  live = remove_entry (same x) s.live;
}

-- the last record was of this sort of data
abbrev pub with_data : SeenLog → Data → SeenLog
with_data s d = record { boot = s.boot; before = d; ranks = s.ranks; live = s.live }

-- a branch promises that is neither open nor heuristic: no key twice, none of another open branch, at most
-- 1,024 branches
abbrev pub prepared : SeenLog → Xid → List Write → Option SeenLog
prepared s x ws =
    if not (is_some (found s x)) && nat_lt (length s.live) 1024 && keys_once ws && keys_free (promises s) ws
    then Some (with_promise s x (record { mark = Open; writes = ws })) else None

-- a branch commits in one phase that is neither open nor heuristic
abbrev pub direct : SeenLog → Xid → Option SeenLog
direct s x = if is_some (found s x) then None else Some (with_data s Other)

-- an open branch commits or rolls back
abbrev pub settled : SeenLog → Xid → Option SeenLog
settled s x = if is_open (found s x) then Some (without_promise s x) else None

-- an operator decides an open branch, which is then heuristic
abbrev pub decided : SeenLog → Xid → Option SeenLog
decided s x =
    if is_open (found s x) then Some (with_promise s x (record { mark = Decided; writes = [] })) else None

-- a decided branch is told the outcome, once
abbrev pub told : SeenLog → Xid → Option SeenLog
told s x =
    if is_untold (found s x) then Some (with_promise s x (record { mark = Told; writes = [] })) else None

-- a decided branch may be forgotten
abbrev pub forgot : SeenLog → Xid → Option SeenLog
forgot s x = if is_heuristic (found s x) then Some (without_promise s x) else None

-- a pair is after its Base or a pair of a lower key
abbrev pub rises : Data → List ℕ → Bool
rises Other k = false
rises Base k = true
rises (Pair j) k = key_below j k

-- a Pair of this key, where it is after its Base or a Pair of a lower key
abbrev pub paired : SeenLog → List ℕ → Option SeenLog
paired s k = if rises s.before k then Some (with_data s (Pair k)) else None

-- Both. The first record is Opened, and boots rise.

-- a boot is higher than the last one, if there was one
abbrev pub boot_rises : Option ℕ → ℕ → Bool
boot_rises None n = true
boot_rises (Some b) n = nat_lt b n

-- an Opened of this boot, which must be higher than the last one
abbrev pub opened : SeenLog → ℕ → Option SeenLog
opened s n =
    if boot_rises s.boot n then Some (record {
      boot = Some n;
      before = Other;
      ranks = s.ranks;
      live = s.live;
    })
    else None

-- what has been seen after a record, by its kind; none where it may not follow
abbrev pub followed : SeenLog → Option ProcessId → Record → Option SeenLog
followed s p (Opened n) = opened s n
followed s p (Collecting c ts) = ranked s (name_xid p (CaseBranch c)) 0 0 1
followed s p (Prepare c ts) = ranked s (name_xid p (CaseBranch c)) 0 1 2
followed s p (Commit c ts) = ranked s (name_xid p (CaseBranch c)) 0 2 3
followed s p (Abort c ts) = ranked s (name_xid p (CaseBranch c)) 0 2 3
followed s p (End c None) = ranked s (name_xid p (CaseBranch c)) 0 3 4
followed s p (End c (Some r)) = ranked s (name_xid p (CaseBranch c)) 0 3 5
followed s p (Cleared c) = ranked s (name_xid p (CaseBranch c)) 5 5 6
followed s p (Prepared b ws) = prepared s (name_xid p b) ws
followed s p (Committed b) = settled s (name_xid p b)
followed s p (RolledBack b) = settled s (name_xid p b)
followed s p (Direct b ws) = direct s (name_xid p b)
followed s p (HeurCommit b) = decided s (name_xid p b)
followed s p (HeurRollback b) = decided s (name_xid p b)
followed s p (ToldRecord b o) = told s (name_xid p b)
followed s p (Forgot b) = forgot s (name_xid p b)
followed s p (BaseRecord n) = Some (with_data s Base)
followed s p (PairRecord k v) = paired s k

-- a record that leaves none of its bytes in what has been seen
abbrev pub IsPlain : Record → Type 0
IsPlain (Prepared b ws) = ⊥
IsPlain (PairRecord k v) = ⊥
IsPlain _ = ⊤

-- what has been seen after one record more: none where it may not follow, and at first none but after an
-- Opened
unfoldable pub after : SeenLog → LogRecord → Option SeenLog
after s l = if is_some s.boot || is_opened l.entry then followed s l.parent l.entry else None
