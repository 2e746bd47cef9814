-- What a key store with a log has of data is what its records make.
use Rattle.std.proofs.Common.{◌≡◌, ◌+◌, ℕ, Bool, true, false, not, cond, Option, Some, None, List, [], ◌∷◌, ◌++◌, append_assoc, Result, Ok, Err, ◌||◌, ◌&&◌, refl, ap, sym, subst, ◌∙◌, inl, inr}
use Rattle.std.specs.Prelude.{◌⊎◌, MatchBool}
use Rattle.std.proofs.lemmas.Bool.{and_from, and_parts, false≢true, false_from_ne_true, not-true, not_from_false}
use Rattle.log_text.proofs.NameReading.{same_bytes_refl}
use Rattle.proof_judged_deeds.proofs.Holding.{bytes_are}
use Rattle.xa_tables.specs.Tables.{is_in_doubt}
use Rattle.xa_tables.specs.declared.states.BranchState.{BranchState}
use Rattle.xa_tables.specs.declared.states.BranchState.TheVariants.{S0, S1, S2, S3, S4, S5}
use Rattle.xa_xid.specs.declared.xid.Xid.{Xid}
use Rattle.xa_branch.specs.Names.{same}
use Rattle.xa_branch.proofs.Names.{same_is}
use Rattle.protocol.specs.declared.records.BranchName.TheVariants.{Foreign}
use Rattle.protocol.specs.declared.records.LogRecord.{LogRecord}
use Rattle.protocol.specs.declared.records.Write.{Write}
use Rattle.protocol.specs.Plays.{with_write}
use Rattle.protocol.specs.Records.{same_bytes}
use Rattle.protocol.specs.Standings.{mark_at}
use Rattle.protocol.specs.Store.{Data, commits as commits_of, data_of, stored_after, writes_of as promised_of}
use Rattle.protocol.specs.LogNames.{by_xid}
use Rattle.log_rules.specs.order.Orders.{keys_once, names_key}
use Rattle.log_records.specs.Sights.{LogSight, left_by, records_of, whole_within}
use Rattle.kv_store.specs.Pairs.{found_in, keys_rise}
use Rattle.kv_store.specs.Versions.{AppliesCommit, SameData, VersionTable, value_at}
use Rattle.kv_store.specs.writes.Writes.{LeavesWrites, WriteTable, writes_of}
use Rattle.kv_store.proofs.Pairs.{writes_pairs}
use Rattle.kv_store.proofs.writes.Lists.{with_write_names}
use Rattle.kv_locks.specs.Locks.{ReleasesLocks}
use Rattle.kv_calls.specs.declared.entries.BranchRecord.{BranchRecord}
use Rattle.kv_calls.specs.declared.entries.BranchRecord.TheVariants.{Prepared, Committed, RolledBack, Direct, HeurCommit, HeurRollback, Told, Forgot}
use Rattle.kv_calls.specs.Turns.{applies, entry_record}
use Rattle.kv_state.specs.Ends.{LetsBranchGo}
use Rattle.kv_state.specs.Folds.{AreData}
use Rattle.kv_state.specs.Stores.{KeySight, is_let_go, state_of}
use Rattle.kv_manager.specs.Sights.{KvSight, doubt_of, logged}
use Rattle.kv_manager.specs.Turns.{commits, with_record}
use Rattle.kv_manager.proofs.Keeping.{data_stay, one_data}
use Rattle.kv_manager.proofs.Staying.{SameDoubts}
use Rattle.kv_manager.proofs.Turns.{after_entry, applies_data, committed_data, data_behind, entry_by_xid, leads, noted_count, noted_pairs, promised_other, promised_own, same_data, settles}
use Rattle.resource_manager.specs.Restarting.{marked_state}
use Rattle.proof_judged_runs.proofs.Recorded.{forced_all, forced_left, within_more}

-- the value of a key, and what a branch has written
abbrev pub value_of : KvSight → List ℕ → Option (List ℕ)
value_of m k = value_at m.store.versions m.store.versions.count k

abbrev pub written_by : KvSight → Xid → List Write
written_by m x = writes_of m.store.writes x

-- the data are those that the records make; each prepared branch has written what it promised, one that was
-- decided nothing; and no branch has written a key twice
pub record IsStored (m : KvSight) : Type 0 where
  pub are : AreData m.store.versions (logged m)
  pub rise : keys_rise (logged m).pairs ≡ true
  pub prepared : (x : Xid) → state_of m.store x ≡ S3
      → written_by m x ≡ promised_of (Foreign x) (logged m).promised
  pub decided : (x : Xid) → state_of m.store x ≡ S5 → written_by m x ≡ []
  pub once : (x : Xid) → keys_once (written_by m x) ≡ true

-- States in doubt.

pub three_doubt : (s : BranchState) → doubt_of s ≡ S3 → s ≡ S3
three_doubt S3 h = refl
three_doubt S0 h = absurd cc
three_doubt S1 h = absurd cc
three_doubt S2 h = absurd cc
three_doubt S4 h = absurd cc
three_doubt S5 h = absurd cc

pub five_doubt : (s : BranchState) → doubt_of s ≡ S5 → s ≡ S5
five_doubt S5 h = refl
five_doubt S0 h = absurd cc
five_doubt S1 h = absurd cc
five_doubt S2 h = absurd cc
five_doubt S3 h = absurd cc
five_doubt S4 h = absurd cc

pub doubts_alike : (s t : BranchState) → doubt_of s ≡ doubt_of t → is_in_doubt s ≡ is_in_doubt t
doubts_alike s t h = sym (by s) ∙ ap is_in_doubt h ∙ by t where
  by : (r : BranchState) → is_in_doubt (doubt_of r) ≡ is_in_doubt r
  by S0 = refl
  by S1 = refl
  by S2 = refl
  by S3 = refl
  by S4 = refl
  by S5 = refl

-- A call that writes no record, and leaves the data.

pub value_stays : (old new : KvSight) → SameData old.store.versions new.store.versions → (k : List ℕ)
    → value_of new k ≡ value_of old k
value_stays old new same k = ap (λ c. value_at new.store.versions c k) same.count
    ∙ same.values old.store.versions.count k

pub quiet_stored : (old new : KvSight) → new.log.sight ≡ old.log.sight
    → SameDoubts old.store.tables new.store.tables → SameData old.store.versions new.store.versions
    → ((x : Xid) → state_of old.store x ≡ S3 → written_by new x ≡ written_by old x)
    → ((x : Xid) → state_of old.store x ≡ S5 → written_by new x ≡ written_by old x)
    → ((x : Xid) → keys_once (written_by new x) ≡ true) → IsStored old → IsStored new
quiet_stored old new log doubts same three five once j =
    let is : logged new ≡ logged old = ap (λ (k : LogSight). data_of (records_of k.kept)) log in
    record {
      are = subst (AreData new.store.versions) (sym is)
          (data_stay old.store.versions new.store.versions (logged old) same j.are);
      rise = ap (λ (d : Data). keys_rise d.pairs) is ∙ j.rise;
      prepared = λ x e.
          let was = three_doubt (state_of old.store x) (sym (doubts x) ∙ ap doubt_of e) in
          three x was ∙ j.prepared x was ∙ sym (ap (λ (d : Data). promised_of (Foreign x) d.promised) is);
      decided = λ x e.
          let was = five_doubt (state_of old.store x) (sym (doubts x) ∙ ap doubt_of e) in
          five x was ∙ j.decided x was;
      once = once;
    }

-- Writes.

other_bytes : (k l : List ℕ) → same_bytes k l ≡ false → same_bytes l k ≡ false
other_bytes k l off = false_from_ne_true (same_bytes l k) (λ e. false≢true (sym off
    ∙ subst (λ (j : List ℕ). same_bytes k j ≡ true) (sym (bytes_are l k e)) (same_bytes_refl k)))

-- a branch that writes a key has still written none twice
pub write_once : (ws : List Write) (k : List ℕ) (v : Option (List ℕ)) → keys_once ws ≡ true
    → keys_once (with_write ws k v) ≡ true
unfolding keys_once names_key
write_once [] k v once = refl
write_once (w ∷ ws) k v once =
    let parts = and_parts (not (names_key ws w.key)) (keys_once ws) once in
    by (same_bytes w.key k) refl (write_once ws k v parts.1) (not-true (names_key ws w.key) parts.0)
  where
    by : (b : Bool) → same_bytes w.key k ≡ b → keys_once (with_write ws k v) ≡ true
        → names_key ws w.key ≡ false
        → keys_once (cond b (record { key = k; value = v } ∷ ws) (w ∷ with_write ws k v)) ≡ true
    by true q rest off = subst (λ (j : List ℕ). (not (names_key ws j) && keys_once ws) ≡ true)
        (bytes_are w.key k q) once
    by false q rest off = and_from (not (names_key (with_write ws k v) w.key)) (keys_once (with_write ws k v))
        (not_from_false (names_key (with_write ws k v) w.key)
        (with_write_names ws k w.key v off (other_bytes w.key k q))) rest

-- What a turn does to what branches have written.

pub other_written : (old new : KeySight) (x y : Xid) (to : BranchState) → LetsBranchGo old new x to
    → same x y ≡ false
    → writes_of new.writes y ≡ writes_of old.writes y
other_written old new x y to goes apart = by (is_let_go to) goes where
  by : (b : Bool) → MatchBool b (LeavesWrites old.writes new.writes x []
      × ReleasesLocks old.locks new.locks x)
      ((new.writes ≡ old.writes) × (new.locks ≡ old.locks)) → writes_of new.writes y ≡ writes_of old.writes y
  by true h = h.0.others y apart
  by false h = ap (λ (w : WriteTable). writes_of w y) h.0

pub kept_written : (old new : KeySight) (x : Xid) (to : BranchState) → LetsBranchGo old new x to
    → is_let_go to ≡ false
    → (y : Xid) → writes_of new.writes y ≡ writes_of old.writes y
kept_written old new x to goes keeps y = ap (λ (w : WriteTable). writes_of w y)
    (subst (λ (b : Bool). MatchBool b (LeavesWrites old.writes new.writes x []
    × ReleasesLocks old.locks new.locks x)
    ((new.writes ≡ old.writes) × (new.locks ≡ old.locks))) keeps goes).0

pub none_written : (old new : KeySight) (x : Xid) (to : BranchState) → LetsBranchGo old new x to
    → is_let_go to ≡ true
    → writes_of new.writes x ≡ []
none_written old new x to goes lets = (subst (λ (b : Bool). MatchBool b
    (LeavesWrites old.writes new.writes x [] × ReleasesLocks old.locks new.locks x)
    ((new.writes ≡ old.writes) × (new.locks ≡ old.locks))) lets goes).0.own

none_once : (ws : List Write) → ws ≡ [] → keys_once ws ≡ true
unfolding keys_once
none_once ws h = ap keys_once h

pub turn_once : (old new : KeySight) (x : Xid) (to : BranchState) → LetsBranchGo old new x to
    → ((y : Xid) → keys_once (writes_of old.writes y) ≡ true) → (y : Xid)
    → keys_once (writes_of new.writes y) ≡ true
turn_once old new x to goes once y = by (same x y) (is_let_go to) refl refl where
  by : (b c : Bool) → same x y ≡ b → is_let_go to ≡ c → keys_once (writes_of new.writes y) ≡ true
  by b false p q = ap keys_once (kept_written old new x to goes q y) ∙ once y
  by false true p q = ap keys_once (other_written old new x y to goes p) ∙ once y
  by true true p q = subst (λ (z : Xid). keys_once (writes_of new.writes z) ≡ true) (same_is x y p)
      (none_once (writes_of new.writes x) (none_written old new x to goes q))

-- One record more.

prepares : (e : BranchRecord) → leads e ≡ S3 → e ≡ Prepared
prepares Prepared h = refl
prepares Committed h = absurd cc
prepares RolledBack h = absurd cc
prepares Direct h = absurd cc
prepares HeurCommit h = absurd cc
prepares HeurRollback h = absurd cc
prepares (Told o) h = absurd cc
prepares Forgot h = absurd cc

module _ (old new : KvSight) (x : Xid) (e : BranchRecord) (is_forced : Bool)
    (log : new.log.sight ≡ with_record old.log.sight (entry_record e x (written_by old x)) is_forced) where
  abbrev before : List LogRecord
  before = records_of old.log.sight.kept

  abbrev last : LogRecord
  last = entry_record e x (written_by old x)

  at_force : (b : Bool) → is_forced ≡ b → new.log.sight ≡ with_record old.log.sight last b
  at_force b q = log ∙ ap (λ c. with_record old.log.sight last c) q

  -- all records
  pub records_more : records_of new.log.sight.kept ≡ before ++ last ∷ []
  records_more = by is_forced refl where
    by : (b : Bool) → is_forced ≡ b → records_of new.log.sight.kept ≡ before ++ last ∷ []
    by true q =
        let one = at_force true q in
        forced_all new.log.sight (before ++ last ∷ []) (ap (λ (k : LogSight). k.kept.forced) one)
        (ap (λ (k : LogSight). k.kept.unforced) one)
    by false q = ap (λ (k : LogSight). records_of k.kept) (at_force false q)
        ∙ sym (append_assoc old.log.sight.kept.forced old.log.sight.kept.unforced (last ∷ []))

  -- those that a crash leaves: all, or, if the record is not forced, as before
  pub fronts_more : (keep : ℕ) → (left_by new.log.sight keep ≡ records_of new.log.sight.kept)
      ⊎ ((is_forced ≡ false) × (left_by new.log.sight keep ≡ left_by old.log.sight keep))
  fronts_more keep = by is_forced refl where
    by : (b : Bool) → is_forced ≡ b → (left_by new.log.sight keep ≡ records_of new.log.sight.kept)
        ⊎ ((is_forced ≡ false) × (left_by new.log.sight keep ≡ left_by old.log.sight keep))
    by true q =
        let one = at_force true q in
        inl (forced_left new.log.sight (before ++ last ∷ []) keep (ap (λ (k : LogSight). k.kept.forced) one)
        (ap (λ (k : LogSight). k.kept.unforced) one) ∙ sym records_more)
    by false q =
        let one = at_force false q in
        elim (within_more (old.log.sight.behind + keep) old.log.sight.kept.unforced last) [
          | inl front ↦ inr (
            q,
            ap (λ (k : LogSight). left_by k keep) one ∙ ap (λ ks. old.log.sight.kept.forced ++ ks) front,
          )
          | inr whole ↦ inl (ap (λ (k : LogSight). left_by k keep) one
              ∙ ap (λ ks. old.log.sight.kept.forced ++ ks) whole
              ∙ sym (append_assoc old.log.sight.kept.forced old.log.sight.kept.unforced (last ∷ []))
              ∙ sym records_more)
        ]

  -- the data that they make
  pub logged_more : logged new ≡ after_entry (logged old) e x (written_by old x)
  logged_more = ap data_of records_more ∙ data_behind before last
      ∙ ap (stored_after (logged old)) (entry_by_xid e x (written_by old x))

  module _ (j : IsStored old) (to : BranchState) (leads_to : to ≡ leads e) (own : state_of new.store x ≡ to)
      (others : (y : Xid) → same x y ≡ false → state_of new.store y ≡ state_of old.store y)
      (goes : LetsBranchGo old.store new.store x to) (was : settles e ≡ true → state_of old.store x ≡ S3)
      (versions : MatchBool (applies e) (AppliesCommit old.store.versions new.store.versions
      (written_by old x))
      (new.store.versions ≡ old.store.versions)) where
    applied : applies e ≡ true → logged new ≡ commits_of (written_by old x) (logged old)
    applied q = logged_more ∙ committed_data (logged old) e x (written_by old x) q
        (λ s. sym (j.prepared x (was s)))

    are_now : AreData new.store.versions (logged new)
    are_now = by (applies e) refl versions where
      by : (b : Bool) → applies e ≡ b → MatchBool b
          (AppliesCommit old.store.versions new.store.versions (written_by old x))
          (new.store.versions ≡ old.store.versions) → AreData new.store.versions (logged new)
      by true q h = subst (AreData new.store.versions) (sym (applied q))
          (applies_data old.store.versions new.store.versions (logged old) (written_by old x) j.rise j.are h)
      by false q h = subst (AreData new.store.versions) (sym logged_more)
          (same_data new.store.versions (logged old) (after_entry (logged old) e x (written_by old x))
          (noted_count (logged old) e x (written_by old x) q)
          (noted_pairs (logged old) e x (written_by old x) q)
          (subst (λ (v : VersionTable). AreData v (logged old)) (sym h) j.are))

    rise_now : keys_rise (logged new).pairs ≡ true
    rise_now = by (applies e) refl where
      by : (b : Bool) → applies e ≡ b → keys_rise (logged new).pairs ≡ true
      by true q = ap (λ (d : Data). keys_rise d.pairs) (applied q)
          ∙ (writes_pairs (logged old).pairs (written_by old x) j.rise).rise
      by false q = ap (λ (d : Data). keys_rise d.pairs) logged_more
          ∙ ap keys_rise (noted_pairs (logged old) e x (written_by old x) q) ∙ j.rise

    own_prepared : state_of new.store x ≡ S3 → written_by new x
        ≡ promised_of (Foreign x) (logged new).promised
    own_prepared three =
        let is : e ≡ Prepared = prepares e (sym leads_to ∙ sym own ∙ three) in
        kept_written old.store new.store x to goes (ap is_let_go (sym own ∙ three)) x
        ∙ sym (promised_own (logged old) x (written_by old x))
        ∙ ap (λ f. promised_of (Foreign x) (after_entry (logged old) f x (written_by old x)).promised)
        (sym is)
        ∙ ap (λ (d : Data). promised_of (Foreign x) d.promised) (sym logged_more)

    pub turned_stored : IsStored new
    turned_stored = record {
      are = are_now;
      rise = rise_now;
      prepared = λ y. by_three y (same x y) refl;
      decided = λ y. by_five y (same x y) refl;
      once = turn_once old.store new.store x to goes j.once;
    } where
      by_three : (y : Xid) (b : Bool) → same x y ≡ b → state_of new.store y ≡ S3
          → written_by new y ≡ promised_of (Foreign y) (logged new).promised
      by_three y true p three = subst (λ (z : Xid). state_of new.store z ≡ S3
          → written_by new z ≡ promised_of (Foreign z) (logged new).promised) (same_is x y p)
          own_prepared three
      by_three y false p three = other_written old.store new.store x y to goes p
          ∙ j.prepared y (sym (others y p) ∙ three)
          ∙ sym (promised_other (logged old) e x y (written_by old x) p)
          ∙ ap (λ (d : Data). promised_of (Foreign y) d.promised) (sym logged_more)

      by_five : (y : Xid) (b : Bool) → same x y ≡ b → state_of new.store y ≡ S5 → written_by new y ≡ []
      by_five y true p five = subst (λ (z : Xid). written_by new z ≡ []) (same_is x y p)
          (none_written old.store new.store x to goes (ap is_let_go (sym own
          ∙ subst (λ (z : Xid). state_of new.store z ≡ S5) (sym (same_is x y p)) five)))
      by_five y false p five = other_written old.store new.store x y to goes p
          ∙ j.decided y (sym (others y p) ∙ five)
