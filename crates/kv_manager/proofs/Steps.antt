-- What one record more makes of the branches.
use Rattle.std.proofs.Common.{◌≡◌, Bool, true, false, not, ◌&&◌, ◌||◌, cond, List, [], ◌∷◌, Option, Some, None, refl, sym, ap, subst, ◌∙◌, is_some, nat_lt, length}
use Rattle.std.specs.List.{AllByRecursion}
use Rattle.std.specs.Map.{remove_entry}
use Rattle.indexmap.specs.IndexMap.{insert_entry}
use Rattle.xa_xid.specs.declared.xid.Xid.{Xid}
use Rattle.protocol.specs.declared.names.ProcessId.{ProcessId}
use Rattle.protocol.specs.declared.records.BranchName.{BranchName}
use Rattle.protocol_words.specs.Variants.{BaseRecord, CaseBranch, PairRecord, ToldRecord}
use Rattle.protocol.specs.declared.records.LogRecord.{LogRecord}
use Rattle.protocol.specs.declared.records.Record.{Record}
use Rattle.protocol.specs.declared.records.Record.TheVariants.{Opened, Collecting, Prepare, Commit, Abort, End, Prepared, Committed, RolledBack, Direct, HeurCommit, HeurRollback, Forgot, Cleared}
use Rattle.protocol.specs.declared.records.Write.{Write}
use Rattle.protocol.specs.LogNames.{name_xid}
use Rattle.protocol.specs.Records.{is_opened}
use Rattle.log_rules.specs.declared.order.seen.DoubtMark.{DoubtMark}
use Rattle.log_rules.specs.declared.order.seen.DoubtMark.TheVariants.{Open, Decided, Told}
use Rattle.log_rules.specs.declared.order.seen.Promise.{Promise}
use Rattle.log_rules.specs.order.Orders.{SeenLog, after, boot_rises, followed, found, is_heuristic, is_open, is_untold, is_within, keys_free, keys_once, nothing_seen, opens, promises, rises, same}
use Rattle.kv_state.specs.Replays.{seen_after, seen_of}
use Rattle.kv_state.proofs.Lawful.{never_seen}
use Rattle.kv_manager.specs.Sights.{has_records}

pub taken : {A : Type 0} (b : Bool) (u t : A) → cond b (Some u) None ≡ Some t → (b ≡ true) × (u ≡ t)
taken true u t h = (refl, cc)
taken false u t h = absurd (cc)

pub refused : {A : Type 0} (b : Bool) (u t : A) → cond b None (Some u) ≡ Some t → (b ≡ false) × (u ≡ t)
refused false u t h = (refl, cc)
refused true u t h = absurd (cc)

pub some_is : {A : Type 0} (a b : A) → Some a ≡ Some b → a ≡ b
some_is a b h = cc

-- the branches stay; or one promises that was not known, one that was known is open no longer, or one is gone
pub data Steps (s t : SeenLog) (q : Option ProcessId) (r : Record) : Type 0 where
  Stays : t.live ≡ s.live → Steps s t q r
  Puts : (b : BranchName) (ws : List Write) → r ≡ Prepared b ws → is_some (found s (name_xid q b)) ≡ false
      → nat_lt (length s.live) 1024 ≡ true
      → t.live ≡ insert_entry same s.live (name_xid q b) (record { mark = Open; writes = ws })
      → Steps s t q r
  Marks : (x : Xid) (m : DoubtMark) → is_some (found s x) ≡ true → opens m ≡ false
      → t.live ≡ insert_entry same s.live x (record { mark = m; writes = [] })
      → Steps s t q r
  Leaves : (x : Xid) → t.live ≡ remove_entry (same x) s.live → Steps s t q r

open_some : (o : Option Promise) → is_open o ≡ true → is_some o ≡ true
open_some None h = absurd (cc)
open_some (Some p) h = refl

untold_some : (o : Option Promise) → is_untold o ≡ true → is_some o ≡ true
untold_some None h = absurd (cc)
untold_some (Some p) h = refl

two : (a b c e : Bool) → (not a && b && c && e) ≡ true → (a ≡ false) × (b ≡ true)
two false true c e h = (refl, refl)
two false false c e h = absurd (cc)
two true b c e h = absurd (cc)

live_of : (u t : SeenLog) → u ≡ t → t.live ≡ u.live
live_of u t h = ap (λ (v : SeenLog). v.live) (sym h)

pub steps_followed : (s t : SeenLog) (q : Option ProcessId) (r : Record) → followed s q r ≡ Some t
    → Steps s t q r
steps_followed s t q (Opened n) h = Stays (live_of _ t (taken (boot_rises s.boot n) _ t h).1)
steps_followed s t q (Collecting c ts) h =
    Stays (live_of _ t (taken (is_within s (name_xid q (CaseBranch c)) 0 0) _ t h).1)
steps_followed s t q (Prepare c ts) h =
    Stays (live_of _ t (taken (is_within s (name_xid q (CaseBranch c)) 0 1) _ t h).1)
steps_followed s t q (Commit c ts) h =
    Stays (live_of _ t (taken (is_within s (name_xid q (CaseBranch c)) 0 2) _ t h).1)
steps_followed s t q (Abort c ts) h =
    Stays (live_of _ t (taken (is_within s (name_xid q (CaseBranch c)) 0 2) _ t h).1)
steps_followed s t q (End c None) h =
    Stays (live_of _ t (taken (is_within s (name_xid q (CaseBranch c)) 0 3) _ t h).1)
steps_followed s t q (End c (Some r)) h =
    Stays (live_of _ t (taken (is_within s (name_xid q (CaseBranch c)) 0 3) _ t h).1)
steps_followed s t q (Cleared c) h =
    Stays (live_of _ t (taken (is_within s (name_xid q (CaseBranch c)) 5 5) _ t h).1)
steps_followed s t q (Prepared b ws) h =
    let made = taken (not (is_some (found s (name_xid q b))) && nat_lt (length s.live) 1024 && keys_once ws
    && keys_free (promises s) ws) _ t h in
    let parts = two (is_some (found s (name_xid q b))) (nat_lt (length s.live) 1024) (keys_once ws)
    (keys_free (promises s) ws) made.0 in
    Puts b ws refl parts.0 parts.1 (live_of _ t made.1)
steps_followed s t q (Committed b) h = Leaves (name_xid q b)
    (live_of _ t (taken (is_open (found s (name_xid q b))) _ t h).1)
steps_followed s t q (RolledBack b) h = Leaves (name_xid q b)
    (live_of _ t (taken (is_open (found s (name_xid q b))) _ t h).1)
steps_followed s t q (Direct b ws) h = Stays
    (live_of _ t (refused (is_some (found s (name_xid q b))) _ t h).1)
steps_followed s t q (HeurCommit b) h =
    let made = taken (is_open (found s (name_xid q b))) _ t h in
    Marks (name_xid q b) Decided (open_some (found s (name_xid q b)) made.0) refl (live_of _ t made.1)
steps_followed s t q (HeurRollback b) h =
    let made = taken (is_open (found s (name_xid q b))) _ t h in
    Marks (name_xid q b) Decided (open_some (found s (name_xid q b)) made.0) refl (live_of _ t made.1)
steps_followed s t q (ToldRecord b o) h =
    let made = taken (is_untold (found s (name_xid q b))) _ t h in
    Marks (name_xid q b) Told (untold_some (found s (name_xid q b)) made.0) refl (live_of _ t made.1)
steps_followed s t q (Forgot b) h = Leaves (name_xid q b)
    (live_of _ t (taken (is_heuristic (found s (name_xid q b))) _ t h).1)
steps_followed s t q (BaseRecord c) h = Stays (live_of _ t (some_is _ t h))
steps_followed s t q (PairRecord k v) h = Stays (live_of _ t (taken (rises s.before k) _ t h).1)

-- a record that may follow is the first Opened, or follows by its kind
pub followed_by : (s t : SeenLog) (l : LogRecord) → after s l ≡ Some t
    → ((is_some s.boot || is_opened l.entry) ≡ true) × (followed s l.parent l.entry ≡ Some t)
unfolding after
followed_by s t l h = by_test (is_some s.boot || is_opened l.entry) h
  where
    by_test : (b : Bool) → cond b (followed s l.parent l.entry) None ≡ Some t
        → (b ≡ true) × (followed s l.parent l.entry ≡ Some t)
    by_test true h = (refl, h)
    by_test false h = absurd (cc)

pub steps_after : (s t : SeenLog) (l : LogRecord) → after s l ≡ Some t → Steps s t l.parent l.entry
steps_after s t l h = steps_followed s t l.parent l.entry (followed_by s t l h).1

-- what a step keeps holds after all records
pub each_step : (P : SeenLog → Type 0) (Q : LogRecord → Type 0)
    → ((s t : SeenLog) (l : LogRecord) → Q l → P s → after s l ≡ Some t → P t)
    → (ls : List LogRecord) → AllByRecursion Q ls → (s t : SeenLog) → P s → seen_after (Some s) ls ≡ Some t
    → P t
unfolding seen_after
each_step P Q step [] all s t p h = subst P (some_is s t h) p
each_step P Q step (l ∷ ls) all s t p h = by_after (after s l) refl h
    (λ u e. each_step P Q step ls all.1 u t (step s u l all.0 p e))
  where
    by_after : (o : Option SeenLog) → after s l ≡ o → seen_after o ls ≡ Some t
        → ((u : SeenLog) → after s l ≡ Some u → seen_after (Some u) ls ≡ Some t → P t) → P t
    by_after None e g more = absurd (never_seen ls t g)
    by_after (Some u) e g more = more u e g

-- A boot was seen after the first record.

or_false : (b : Bool) → (b || false) ≡ true → b ≡ true
or_false true h = refl
or_false false h = absurd (cc)

booted : (s u t : SeenLog) → u ≡ t → u.boot ≡ s.boot → (is_some s.boot || false) ≡ true
    → is_some t.boot ≡ true
booted s u t is stays h =
    ap (λ (v : SeenLog). is_some v.boot) (sym is) ∙ ap is_some stays ∙ or_false (is_some s.boot) h

boots_followed : (s t : SeenLog) (q : Option ProcessId) (r : Record) → followed s q r ≡ Some t
    → (is_some s.boot || is_opened r) ≡ true → is_some t.boot ≡ true
boots_followed s t q (Opened n) h b =
    ap (λ (v : SeenLog). is_some v.boot) (sym (taken (boot_rises s.boot n) _ t h).1)
boots_followed s t q (Collecting c ts) h b =
    booted s _ t (taken (is_within s (name_xid q (CaseBranch c)) 0 0) _ t h).1 refl b
boots_followed s t q (Prepare c ts) h b =
    booted s _ t (taken (is_within s (name_xid q (CaseBranch c)) 0 1) _ t h).1 refl b
boots_followed s t q (Commit c ts) h b =
    booted s _ t (taken (is_within s (name_xid q (CaseBranch c)) 0 2) _ t h).1 refl b
boots_followed s t q (Abort c ts) h b =
    booted s _ t (taken (is_within s (name_xid q (CaseBranch c)) 0 2) _ t h).1 refl b
boots_followed s t q (End c None) h b =
    booted s _ t (taken (is_within s (name_xid q (CaseBranch c)) 0 3) _ t h).1 refl b
boots_followed s t q (End c (Some r)) h b =
    booted s _ t (taken (is_within s (name_xid q (CaseBranch c)) 0 3) _ t h).1 refl b
boots_followed s t q (Cleared c) h b =
    booted s _ t (taken (is_within s (name_xid q (CaseBranch c)) 5 5) _ t h).1 refl b
boots_followed s t q (Prepared x ws) h b =
    booted s _ t (taken (not (is_some (found s (name_xid q x))) && nat_lt (length s.live) 1024 && keys_once ws
    && keys_free (promises s) ws) _ t h).1 refl b
boots_followed s t q (Committed x) h b = booted s _ t
    (taken (is_open (found s (name_xid q x))) _ t h).1 refl b
boots_followed s t q (RolledBack x) h b = booted s _ t
    (taken (is_open (found s (name_xid q x))) _ t h).1 refl b
boots_followed s t q (HeurCommit x) h b = booted s _ t
    (taken (is_open (found s (name_xid q x))) _ t h).1 refl b
boots_followed s t q (HeurRollback x) h b = booted s _ t
    (taken (is_open (found s (name_xid q x))) _ t h).1 refl b
boots_followed s t q (ToldRecord x o) h b = booted s _ t
    (taken (is_untold (found s (name_xid q x))) _ t h).1 refl b
boots_followed s t q (Forgot x) h b = booted s _ t
    (taken (is_heuristic (found s (name_xid q x))) _ t h).1 refl b
boots_followed s t q (Direct x ws) h b = booted s _ t
    (refused (is_some (found s (name_xid q x))) _ t h).1 refl b
boots_followed s t q (BaseRecord c) h b = booted s _ t (some_is _ t h) refl b
boots_followed s t q (PairRecord k v) h b = booted s _ t (taken (rises s.before k) _ t h).1 refl b

boots_after : (s t : SeenLog) (l : LogRecord) → after s l ≡ Some t → is_some t.boot ≡ true
boots_after s t l h =
    let by = followed_by s t l h in
    boots_followed s t l.parent l.entry by.1 by.0

no_claims : (ls : List LogRecord) → AllByRecursion (λ l. Unit {0}) ls
no_claims [] = tt
no_claims (l ∷ ls) = (tt, no_claims ls)

pub boots_of : (ls : List LogRecord) (t : SeenLog) → has_records ls ≡ true → seen_of ls ≡ Some t
    → is_some t.boot ≡ true
unfolding seen_after
boots_of [] t some h = absurd (cc)
boots_of (l ∷ ls) t some h = by_after (after nothing_seen l) refl h
  where
    by_after : (o : Option SeenLog) → after nothing_seen l ≡ o → seen_after o ls ≡ Some t
        → is_some t.boot ≡ true
    by_after None e g = absurd (never_seen ls t g)
    by_after (Some u) e g = each_step (λ v. is_some v.boot ≡ true) (λ k. Unit {0})
        (λ v w k q p f. boots_after v w k f) ls (no_claims ls) u t (boots_after nothing_seen u l e) g
