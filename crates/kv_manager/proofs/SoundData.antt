-- The pairs of the data that sound records make can be in a log.
use Rattle.std.proofs.Common.{ℕ, Bool, true, false, cond, List, [], ◌∷◌, Option, Some, None, map, fold, refl}
use Rattle.std.specs.List.{AllByRecursion}
use Rattle.protocol.specs.declared.names.Kind.TheVariants.{Manager}
use Rattle.protocol.specs.declared.names.ProcessId.{ProcessId}
use Rattle.protocol.specs.declared.records.BranchName.{BranchName}
use Rattle.protocol.specs.declared.records.LogRecord.{LogRecord}
use Rattle.protocol.specs.declared.records.Record.{Record}
use Rattle.protocol.specs.declared.records.Record.TheVariants.{Opened, Collecting, Prepare, Commit, Abort, End, Prepared, Committed, RolledBack, Direct, HeurCommit, HeurRollback, Told, Forgot, Base, Pair, Cleared}
use Rattle.protocol.specs.declared.records.Write.{Write}
use Rattle.protocol.specs.LogNames.{by_xid, unnamed}
use Rattle.protocol.specs.Records.{same_branch, same_bytes}
use Rattle.protocol.specs.Store.{Data, applied, data_of, key_below, no_data, pair_record, set_key, stored, stored_after, with_pair, without_key, writes_of}
use Rattle.log_rules.specs.sound.Sound.{IsSound, IsSoundEntry, IsSoundKey, IsSoundLeft, IsSoundWrite}

abbrev Pairs : Type 0
Pairs = List (List ℕ × List ℕ)

-- a pair can be in a log
abbrev pub IsSoundPair : List ℕ × List ℕ → Type 0
IsSoundPair p = IsSound Manager (unnamed (pair_record p))

abbrev pub AreSoundPairs : List (List ℕ × List ℕ) → Type 0
AreSoundPairs ps = AllByRecursion IsSoundPair ps

with_sound : (k v : List ℕ) (ps : Pairs) → IsSoundPair (k, v) → AreSoundPairs ps
    → AreSoundPairs (with_pair k v ps)
unfolding with_pair
with_sound k v [] own all = (own, tt)
with_sound k v (p ∷ ps) own all = by_tests (same_bytes k p.0) (key_below k p.0) (with_sound k v ps own all.1)
  where
    by_tests : (a b : Bool) → AreSoundPairs (with_pair k v ps)
        → AreSoundPairs (cond a ((k, v) ∷ ps) (cond b ((k, v) ∷ (p ∷ ps)) (p ∷ with_pair k v ps)))
    by_tests true b rest = (own, all.1)
    by_tests false true rest = (own, all)
    by_tests false false rest = (all.0, rest)

without_sound : (k : List ℕ) (ps : Pairs) → AreSoundPairs ps → AreSoundPairs (without_key k ps)
unfolding without_key
without_sound k [] all = tt
without_sound k (p ∷ ps) all = by_test (same_bytes k p.0) (without_sound k ps all.1)
  where
    by_test : (b : Bool) → AreSoundPairs (without_key k ps) → AreSoundPairs (cond b ps (p ∷ without_key k ps))
    by_test true rest = all.1
    by_test false rest = (all.0, rest)

set_sound : (k : List ℕ) (v : Option (List ℕ)) (ps : Pairs) → IsSoundKey k → IsSoundLeft v → AreSoundPairs ps
    → AreSoundPairs (set_key k v ps)
set_sound k (Some v) ps key left all = with_sound k v ps (refl, (key, left)) all
set_sound k None ps key left all = without_sound k ps all

applied_sound : (ws : List Write) (ps : Pairs) → AllByRecursion IsSoundWrite ws → AreSoundPairs ps
    → AreSoundPairs (applied ws ps)
unfolding applied
applied_sound [] ps sound all = all
applied_sound (w ∷ ws) ps sound all =
    applied_sound ws (set_key w.key w.value ps) sound.1
    (set_sound w.key w.value ps sound.0.key sound.0.left all)

abbrev Promises : Type 0
Promises = List (BranchName × List Write)

writes_sound : (b : BranchName) (ps : Promises) → AllByRecursion (λ p. AllByRecursion IsSoundWrite p.1) ps
    → AllByRecursion IsSoundWrite (writes_of b ps)
unfolding writes_of
writes_sound b [] all = tt
writes_sound b (p ∷ ps) all = by_test (same_branch p.0 b) (writes_sound b ps all.1)
  where
    by_test : (t : Bool) → AllByRecursion IsSoundWrite (writes_of b ps)
        → AllByRecursion IsSoundWrite (cond t p.1 (writes_of b ps))
    by_test true rest = all.0
    by_test false rest = rest

record IsSoundData (d : Data) : Type 0 where
  pairs : AreSoundPairs d.pairs
  promised : AllByRecursion (λ p. AllByRecursion IsSoundWrite p.1) d.promised

commits_sound : (ws : List Write) (d : Data) (n : ℕ) → AllByRecursion IsSoundWrite ws → IsSoundData d
    → IsSoundData (record d { count = n; pairs = applied ws d.pairs })
commits_sound ws d n sound h = record {
  pairs = applied_sound ws d.pairs sound h.pairs;
  promised = h.promised;
}

after_sound : (q : Option ProcessId) (r : Record) (d : Data) → IsSoundEntry Manager q r → IsSoundData d
    → IsSoundData (stored_after d (by_xid (record { entry = r; parent = q })))
after_sound q (Prepared b ws) d sound h = record { pairs = h.pairs; promised = (sound.1.each, h.promised) }
after_sound q (Committed b) d sound h = commits_sound _ d _ (writes_sound _ d.promised h.promised) h
after_sound q (HeurCommit b) d sound h = commits_sound _ d _ (writes_sound _ d.promised h.promised) h
after_sound q (Direct b ws) d sound h = commits_sound ws d _ sound.1.each h
after_sound q (Base n) d sound h = record { pairs = tt; promised = h.promised }
after_sound q (Pair k v) d sound h = record {
  pairs = with_sound k v d.pairs (refl, sound.1) h.pairs;
  promised = h.promised;
}
after_sound q (Opened n) d sound h = h
after_sound q (Collecting c ts) d sound h = h
after_sound q (Prepare c ts) d sound h = h
after_sound q (Commit c ts) d sound h = h
after_sound q (Abort c ts) d sound h = h
after_sound q (End c rep) d sound h = h
after_sound q (Cleared c) d sound h = h
after_sound q (RolledBack b) d sound h = h
after_sound q (HeurRollback b) d sound h = h
after_sound q (Told b o) d sound h = h
after_sound q (Forgot b) d sound h = h

fold_sound : (ls : List LogRecord) (d : Data) → AllByRecursion (IsSound Manager) ls → IsSoundData d
    → IsSoundData (fold stored_after d (map by_xid ls))
fold_sound [] d sound h = h
fold_sound (l ∷ ls) d sound h = fold_sound ls (stored_after d (by_xid l)) sound.1
    (after_sound l.parent l.entry d sound.0 h)

-- what sound records make
pub pairs_sound : (ls : List LogRecord) → AllByRecursion (IsSound Manager) ls
    → AreSoundPairs (data_of ls).pairs
unfolding stored
pairs_sound ls sound = (fold_sound ls no_data sound (record { pairs = tt; promised = tt })).pairs
