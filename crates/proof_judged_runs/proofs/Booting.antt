-- How often a manager opened, by the records of its log.
use Rattle.std.proofs.Common.{◌≡◌, ◌≤◌, ◌<◌, ◌+◌, ◌-◌, ◌^◌, ℕ, Bool, true, false, not, cond, List, [], ◌∷◌, ◌++◌, map, fold, refl, ap, sym, subst, ◌∙◌, inl, inr, nat_le, arith}
use Rattle.std.specs.Prelude.{◌⊎◌}
use Rattle.std.specs.List.{AllByRecursion}
use Rattle.xa_xid.specs.declared.xid.Xid.{Xid}
use Rattle.protocol.specs.declared.records.BranchName.{BranchName}
use Rattle.protocol.specs.declared.records.LogRecord.{LogRecord}
use Rattle.protocol.specs.declared.records.Record.{Record}
use Rattle.protocol_words.specs.record_of
use Rattle.protocol.specs.declared.records.Write.{Write}
use Rattle.protocol.specs.LogNames.{unnamed}
use Rattle.protocol.specs.Records.{boot_after, boot_of, is_opened}
use Rattle.protocol.specs.Store.{Data, base_records, data_of, pair_record}
use Rattle.log_text.specs.Parts.{name_in}
use Rattle.log_rules.specs.trim.Trims.{front_of_trim, last_opened, opened_after, staying, stays, trim_of}
use Rattle.log_records.specs.Sights.{LogSight, left_by, record_size, records_of, whole_within}
use Rattle.kv_calls.specs.declared.entries.BranchRecord.{BranchRecord}
use Rattle.kv_calls.specs.declared.entries.BranchRecord.TheVariants.{Prepared, Committed, RolledBack, Direct, HeurCommit, HeurRollback, Told, Forgot}
use Rattle.kv_calls.specs.Turns.{entry_of, entry_record}
use Rattle.resource_manager.specs.Restarting.{boot_record, next_boot}
use Rattle.proof_judged_deeds.proofs.Lists.{all_append, all_weaker}

-- the boot that a record tells of, or 0
abbrev pub boot_in : Record → ℕ
boot_in (record_of.Opened n) = n
boot_in _ = 0

-- no record tells of a later boot
abbrev pub AreBoots : ℕ → List LogRecord → Type 0
AreBoots b ls = AllByRecursion (λ l. boot_in l.entry ≤ b) ls

pub more_boots : (a b : ℕ) → a ≤ b → (ls : List LogRecord) → AreBoots a ls → AreBoots b ls
more_boots a b le ls are = all_weaker (λ l. boot_in l.entry ≤ a) (λ l. boot_in l.entry ≤ b)
    (λ l h. omega (arith, le, h)) ls are

-- the last boot is none of a later one

after_le : (a b : ℕ) (r : Record) → a ≤ b → boot_in r ≤ b → boot_after a r ≤ b
after_le a b (record_of.Opened n) h k = k
after_le a b (record_of.Collecting c ts) h k = h
after_le a b (record_of.Prepare c ts) h k = h
after_le a b (record_of.Commit c ts) h k = h
after_le a b (record_of.Abort c ts) h k = h
after_le a b (record_of.End c rep) h k = h
after_le a b (record_of.Cleared c) h k = h
after_le a b (record_of.Prepared x ws) h k = h
after_le a b (record_of.Committed x) h k = h
after_le a b (record_of.RolledBack x) h k = h
after_le a b (record_of.Direct x ws) h k = h
after_le a b (record_of.HeurCommit x) h k = h
after_le a b (record_of.HeurRollback x) h k = h
after_le a b (record_of.Told x o) h k = h
after_le a b (record_of.Forgot x) h k = h
after_le a b (record_of.Base n) h k = h
after_le a b (record_of.Pair j v) h k = h

fold_le : (a b : ℕ) (ls : List LogRecord) → a ≤ b → AreBoots b ls
    → fold boot_after a (map (λ l. l.entry) ls) ≤ b
fold_le a b [] h are = h
fold_le a b (l ∷ ls) h are = fold_le (boot_after a l.entry) b ls (after_le a b l.entry h are.0) are.1

pub next_le : (b : ℕ) (ls : List LogRecord) → AreBoots b ls → next_boot ls ≤ b + 1
unfolding boot_of
next_le b ls are = let h = fold_le 0 b ls (omega arith) are in omega (arith, h)

-- What a crash leaves.

within_boots : (b k : ℕ) (us : List LogRecord) → AreBoots b us → AreBoots b (whole_within k us)
unfolding whole_within
within_boots b k [] are = tt
within_boots b k (u ∷ us) are = by (nat_le (record_size u) k)
    (within_boots b (k - record_size u) us are.1) where
      by : (c : Bool) → AreBoots b (whole_within (k - record_size u) us)
          → AreBoots b (cond c (u ∷ whole_within (k - record_size u) us) [])
      by true rest = (are.0, rest)
      by false rest = tt

parts_boots : (b : ℕ) (ls ks : List LogRecord) → AreBoots b (ls ++ ks) → AreBoots b ls × AreBoots b ks
parts_boots b [] ks are = (tt, are)
parts_boots b (l ∷ ls) ks are = let rest = parts_boots b ls ks are.1 in ((are.0, rest.0), rest.1)

pub left_boots : (b : ℕ) (s : LogSight) (keep : ℕ) → AreBoots b (records_of s.kept)
    → AreBoots b (left_by s keep)
left_boots b s keep are =
    let parts = parts_boots b s.kept.forced s.kept.unforced are in
    all_append (λ l. boot_in l.entry ≤ b) s.kept.forced
    (whole_within (s.behind + keep) s.kept.unforced) parts.0
    (within_boots b (s.behind + keep) s.kept.unforced parts.1)

-- One record more.

entry_boots : (b : ℕ) (e : BranchRecord) (x : BranchName) (ws : List Write) → boot_in (entry_of e x ws) ≤ b
entry_boots b Prepared x ws = omega arith
entry_boots b Committed x ws = omega arith
entry_boots b RolledBack x ws = omega arith
entry_boots b Direct x ws = omega arith
entry_boots b HeurCommit x ws = omega arith
entry_boots b HeurRollback x ws = omega arith
entry_boots b (Told o) x ws = omega arith
entry_boots b Forgot x ws = omega arith

pub more_entry : (b : ℕ) (ls : List LogRecord) (e : BranchRecord) (x : Xid) (ws : List Write) → AreBoots b ls
    → AreBoots b (ls ++ entry_record e x ws ∷ [])
more_entry b ls e x ws are = all_append (λ l. boot_in l.entry ≤ b) ls (entry_record e x ws ∷ []) are
    (entry_boots b e (name_in x).1 ws, tt)

pub more_boot : (b n : ℕ) (ls : List LogRecord) → AreBoots b ls → n ≤ b + 1
    → AreBoots (b + 1) (ls ++ boot_record n ∷ [])
more_boot b n ls are le = all_append (λ l. boot_in l.entry ≤ b + 1) ls (boot_record n ∷ [])
    (more_boots b (b + 1) (omega arith) ls are) (le, tt)

-- A trim.

opened_boots : (b : ℕ) (ls os : List LogRecord) → AreBoots b ls → AreBoots b os
    → AreBoots b (fold opened_after os ls)
opened_boots b [] os are had = had
opened_boots b (l ∷ ls) os are had = opened_boots b ls (opened_after os l) are.1
    (by (is_opened l.entry)) where
      by : (c : Bool) → AreBoots b (cond c (l ∷ []) os)
      by true = (are.0, tt)
      by false = had

staying_boots : (b : ℕ) (all ls : List LogRecord) → AreBoots b ls → AreBoots b (staying all ls)
unfolding staying
staying_boots b all [] are = tt
staying_boots b all (l ∷ ls) are = by (stays all ls l) (staying_boots b all ls are.1) where
  by : (c : Bool) → AreBoots b (staying all ls) → AreBoots b (cond c (l ∷ staying all ls) (staying all ls))
  by true rest = (are.0, rest)
  by false rest = rest

pairs_boots : (b : ℕ) (ps : List (List ℕ × List ℕ)) → AreBoots b (map unnamed (map pair_record ps))
pairs_boots b [] = tt
pairs_boots b (p ∷ ps) = (omega arith, pairs_boots b ps)

pub trim_boots : (b : ℕ) (ls : List LogRecord) → AreBoots b ls → AreBoots b (trim_of ls)
unfolding front_of_trim last_opened
trim_boots b ls are = all_append (λ l. boot_in l.entry ≤ b) (front_of_trim ls)
    (map unnamed (base_records (data_of ls)))
    (all_append (λ l. boot_in l.entry ≤ b) (fold opened_after [] ls) (staying ls ls)
    (opened_boots b ls [] are tt)
    (staying_boots b ls ls are))
    (omega arith, pairs_boots b (data_of ls).pairs)
