-- What the records say of each branch that a crash may leave.
use Rattle.std.proofs.Common.{◌≡◌, ◌≤◌, ◌+◌, ◌-◌, ◌^◌, ℕ, Bool, true, false, cond, Option, Some, None, List, [], ◌∷◌, ◌++◌, append_assoc, map, ◌||◌, ◌&&◌, refl, ap, sym, subst, ◌∙◌, inl, inr, nat_le, is_some, arith}
use Rattle.std.specs.Prelude.{◌⊎◌}
use Rattle.std.specs.List.{AllByRecursion}
use Rattle.std.proofs.lemmas.Bool.{and_from, and_parts, false≢true, or_cases, or_left, or_right}
use Rattle.std.proofs.lemmas.Bool.Decides.{nat_tests}
use Rattle.std.proofs.lemmas.List.{append-nil, append_cancel_left}
use Rattle.xa_tables.specs.declared.call.Call.{Call}
use Rattle.xa_words.specs.call
use Rattle.xa_tables.specs.declared.states.BranchState.{BranchState}
use Rattle.xa_tables.specs.declared.states.BranchState.TheVariants.{S0, S1, S2, S3, S4, S5}
use Rattle.xa_xid.specs.declared.xid.Xid.{Xid}
use Rattle.xa_branch.specs.Names.{same}
use Rattle.xa_branch.proofs.Names.{same_is}
use Rattle.xa_branch.specs.declared.decision.Decision.{Decision as Known}
use Rattle.xa_branch.specs.Cases.{decision_in, decision_or}
use Rattle.xa_branch.specs.Decisions.{decided_as, decided_in, decision_after}
use Rattle.protocol.specs.declared.names.Kind.TheVariants.{Manager}
use Rattle.protocol.specs.declared.names.Outcome.{Outcome}
use Rattle.protocol.specs.declared.names.Outcome.TheVariants as outcome
use Rattle.protocol.specs.declared.names.ProcessId.{ProcessId}
use Rattle.protocol.specs.declared.records.BranchName.{BranchName}
use Rattle.protocol.specs.declared.records.BranchName.TheVariants.{Foreign}
use Rattle.protocol.specs.declared.records.LogRecord.{LogRecord}
use Rattle.protocol.specs.declared.records.Record.{Record}
use Rattle.protocol_words.specs.record_of
use Rattle.protocol.specs.declared.records.Write.{Write}
use Rattle.protocol.specs.LogNames.{unnamed}
use Rattle.protocol.specs.Records.{same_branch}
use Rattle.protocol.specs.Restarts.{is_open}
use Rattle.protocol.specs.Standings.{Mark, Unmarked, Promised, Decided, ToldOf, Finished, mark_after, mark_at}
use Rattle.protocol.specs.Store.{base_records, data_of}
use Rattle.log_text.proofs.NameReading.{same_xid_refl}
use Rattle.log_rules.specs.order.Orders.{SeenLog, found}
use Rattle.log_rules.specs.declared.order.seen.Promise.{Promise}
use Rattle.log_rules.specs.sound.Sound.{IsSound, IsSoundEntry}
use Rattle.log_rules.specs.trim.Trims.{front_of_trim, trim_of}
use Rattle.log_records.specs.Sights.{LogSight, left_by, record_size, records_of, whole_within}
use Rattle.process_state.specs.States.{forced_sight}
use Rattle.kv_calls.specs.declared.entries.BranchRecord.{BranchRecord}
use Rattle.kv_calls.specs.declared.entries.BranchRecord.TheVariants.{Prepared, Committed, RolledBack, Direct, HeurCommit, HeurRollback, Told, Forgot}
use Rattle.kv_calls.specs.declared.turns.CallRow.{CallRow}
use Rattle.kv_calls.specs.Turns.{decide_turn, entry_of, entry_record, tell_turn, turn_of}
use Rattle.kv_state.specs.Ends.{IsTurn, OfCall, OfOperator, known_behind, known_of}
use Rattle.kv_state.specs.Keeping.{KeepsData, is_managers}
use Rattle.kv_state.specs.Replays.{seen_of}
use Rattle.kv_state.specs.Stores.{state_of}
use Rattle.kv_state.proofs.Lawful.{lawful_of}
use Rattle.kv_state.proofs.Trims.{trims_keep_data}
use Rattle.kv_store.specs.writes.Writes.{writes_of}
use Rattle.resource_manager.specs.Restarting.{boot_record, marked_state}
use Rattle.kv_manager.specs.Sights.{KvSight, are_ordered, doubt_of, has_records}
use Rattle.kv_manager.specs.Turns.{IsDueTurn, LogsTurn, KvMakes, with_record}
use Rattle.kv_manager.proofs.Follows.{off_by}
use Rattle.kv_manager.proofs.From.{comes_from, due_from, silent_doubt}
use Rattle.kv_manager.proofs.Fronts.{has_more, seen_where}
use Rattle.kv_manager.proofs.Marks.{agrees_of, branch_same, state_by}
use Rattle.kv_manager.proofs.Staying.{SameDoubts, moves_doubts}
use Rattle.kv_manager.proofs.TrimOrder.{TrimFollows, trim_follows}
use Rattle.kv_manager.proofs.Turns.{decided_behind, due_leads, entry_by_xid, leads, mark_behind}
use Rattle.proof_judged_deeds.specs.Deeds.{none_lost}
use Rattle.xa_engine.specs.Runs.{HasSoundLog}

-- What is kept.

-- what records say of a branch that is in doubt so, and was decided so: the same; or of one that is not in
-- doubt nothing, or that it is prepared, if a crash may bring it back
abbrev pub IsSaid : BranchState → Known → BranchState → Known → Bool → Type 0
IsSaid S3 k t j lost = t ≡ S3
IsSaid S5 k t j lost = (t ≡ S5) × (j.outcome ≡ k.outcome)
IsSaid S0 k t j lost = (t ≡ S0) ⊎ ((t ≡ S3) × (lost ≡ true))
IsSaid S1 k t j lost = (t ≡ S0) ⊎ ((t ≡ S3) × (lost ≡ true))
IsSaid S2 k t j lost = (t ≡ S0) ⊎ ((t ≡ S3) × (lost ≡ true))
IsSaid S4 k t j lost = (t ≡ S0) ⊎ ((t ≡ S3) × (lost ≡ true))

-- what these records say of a branch of a manager
abbrev pub SaysOf : KvSight → (Xid → Bool) → List LogRecord → Xid → Type 0
SaysOf m l ls x =
    IsSaid (doubt_of (state_of m.store x)) (known_of m.store x) (marked_state (mark_at ls x))
    (decided_in ls x) (l x)

-- the device has not failed; all records say of each branch what the tables do, and those that a crash may
-- leave say it too, but for branches that it may bring back
pub record IsRecorded (m : KvSight) (l : Xid → Bool) : Type 0 where
  pub works : m.log.sight.failed ≡ false
  pub begun : has_records (records_of m.log.sight.kept) ≡ true
  pub now : (x : Xid) → marked_state (mark_at (records_of m.log.sight.kept) x) ≡ doubt_of (state_of m.store x)
  pub decided : (x : Xid) → state_of m.store x ≡ S5
      → (decided_in (records_of m.log.sight.kept) x).outcome ≡ (known_of m.store x).outcome
  pub left : (keep : ℕ) (x : Xid) → SaysOf m l (left_by m.log.sight keep) x

five_is : (s : BranchState) → doubt_of s ≡ S5 → s ≡ S5
five_is S5 h = refl
five_is S0 h = absurd cc
five_is S1 h = absurd cc
five_is S2 h = absurd cc
five_is S3 h = absurd cc
five_is S4 h = absurd cc

more_said : (s : BranchState) (k j : Known) (t : BranchState) (a b : Bool) → (a ≡ true → b ≡ true)
    → IsSaid s k t j a
    → IsSaid s k t j b
more_said S0 k j t a b f h = elim h [ inl gone ↦ inl gone | inr back ↦ inr (back.0, f back.1) ]
more_said S1 k j t a b f h = elim h [ inl gone ↦ inl gone | inr back ↦ inr (back.0, f back.1) ]
more_said S2 k j t a b f h = elim h [ inl gone ↦ inl gone | inr back ↦ inr (back.0, f back.1) ]
more_said S3 k j t a b f h = h
more_said S4 k j t a b f h = elim h [ inl gone ↦ inl gone | inr back ↦ inr (back.0, f back.1) ]
more_said S5 k j t a b f h = h

-- what all records say
whole_said : (s : BranchState) (k j : Known) (t : BranchState) (lost : Bool) → t ≡ doubt_of s
    → (s ≡ S5 → j.outcome ≡ k.outcome) → IsSaid (doubt_of s) k t j lost
whole_said S0 k j t lost e f = inl e
whole_said S1 k j t lost e f = inl e
whole_said S2 k j t lost e f = inl e
whole_said S3 k j t lost e f = e
whole_said S4 k j t lost e f = inl e
whole_said S5 k j t lost e f = (e, f refl)

-- a crash may bring back more
pub more_recorded : (m : KvSight) (l l' : Xid → Bool) → ((x : Xid) → l x ≡ true → l' x ≡ true)
    → IsRecorded m l
    → IsRecorded m l'
more_recorded m l l' f r = record {
  works = r.works;
  begun = r.begun;
  now = r.now;
  decided = r.decided;
  left = λ keep x. more_said (doubt_of (state_of m.store x)) (known_of m.store x)
      (decided_in (left_by m.log.sight keep) x)
      (marked_state (mark_at (left_by m.log.sight keep) x)) (l x) (l' x) (f x) (r.left keep x);
}

-- A log that is forced as a whole.

pub within_none : (k : ℕ) → whole_within k [] ≡ []
unfolding whole_within
within_none k = refl

pub forced_left : (s : LogSight) (ls : List LogRecord) (keep : ℕ) → s.kept.forced ≡ ls → s.kept.unforced ≡ []
    → left_by s keep ≡ ls
forced_left s ls keep one none = ap (λ us. s.kept.forced ++ whole_within (s.behind + keep) us) none
    ∙ ap (λ us. s.kept.forced ++ us) (within_none (s.behind + keep)) ∙ append-nil s.kept.forced ∙ one

pub forced_all : (s : LogSight) (ls : List LogRecord) → s.kept.forced ≡ ls → s.kept.unforced ≡ []
    → records_of s.kept ≡ ls
forced_all s ls one none = ap (λ us. s.kept.forced ++ us) none ∙ append-nil s.kept.forced ∙ one

pub forced_recorded : (m : KvSight) (l : Xid → Bool) (ls : List LogRecord) → m.log.sight.failed ≡ false
    → m.log.sight.kept.forced ≡ ls → m.log.sight.kept.unforced ≡ [] → has_records ls ≡ true
    → ((x : Xid) → marked_state (mark_at ls x) ≡ doubt_of (state_of m.store x))
    → ((x : Xid) → state_of m.store x ≡ S5 → (decided_in ls x).outcome ≡ (known_of m.store x).outcome)
    → IsRecorded m l
forced_recorded m l ls works one none some now decided =
    let all = forced_all m.log.sight ls one none in
    record {
      works = works;
      begun = ap has_records all ∙ some;
      now = λ x. ap (λ ks. marked_state (mark_at ks x)) all ∙ now x;
      decided = λ x e. ap (λ ks. (decided_in ks x).outcome) all ∙ decided x e;
      left = λ keep x. subst (λ (ks : List LogRecord). SaysOf m l ks x)
          (sym (forced_left m.log.sight ls keep one none))
          (whole_said (state_of m.store x) (known_of m.store x) (decided_in ls x)
          (marked_state (mark_at ls x)) (l x) (now x)
          (decided x));
    }

-- A call that writes no record.

pub stays_recorded : (old new : KvSight) (l : Xid → Bool) → IsRecorded old l → new.log.sight ≡ old.log.sight
    → SameDoubts old.store.tables new.store.tables → ((y : Xid) → known_of new.store y ≡ known_of old.store y)
    → IsRecorded new l
stays_recorded old new l r log doubts known = record {
  works = ap (λ (k : LogSight). k.failed) log ∙ r.works;
  begun = ap (λ (k : LogSight). has_records (records_of k.kept)) log ∙ r.begun;
  now = λ x. ap (λ (k : LogSight). marked_state (mark_at (records_of k.kept) x)) log ∙ r.now x
      ∙ sym (doubts x);
  decided = λ x e. ap (λ (k : LogSight). (decided_in (records_of k.kept) x).outcome) log
      ∙ r.decided x (five_is (state_of old.store x) (sym (doubts x) ∙ ap doubt_of e))
      ∙ ap (λ (k : Known). k.outcome) (sym (known x));
  left = λ keep x. subst (λ (k : LogSight). SaysOf new l (left_by k keep) x) (sym log)
      (subst (λ (s : BranchState). IsSaid s (known_of new.store x)
      (marked_state (mark_at (left_by old.log.sight keep) x))
      (decided_in (left_by old.log.sight keep) x) (l x)) (sym (doubts x))
      (subst (λ (k : Known). IsSaid (doubt_of (state_of old.store x)) k
      (marked_state (mark_at (left_by old.log.sight keep) x))
      (decided_in (left_by old.log.sight keep) x) (l x)) (sym (known x)) (r.left keep x)));
}

-- What one record more says.

other_marks : (m : Mark) (e : BranchRecord) (x y : Xid) (ws : List Write) → same x y ≡ false
    → mark_after (Foreign y) m (entry_of e (Foreign x) ws) ≡ m
other_marks m e x y ws apart = by_entry e (branch_same x y ∙ apart)
  where
    by_entry : (e : BranchRecord) → same_branch (Foreign x) (Foreign y) ≡ false
        → mark_after (Foreign y) m (entry_of e (Foreign x) ws) ≡ m
    by_entry Prepared t = ap (λ b. cond b Promised m) t
    by_entry Committed t = ap (λ b. cond b Finished m) t
    by_entry RolledBack t = ap (λ b. cond b Finished m) t
    by_entry Direct t = ap (λ b. cond b Finished m) t
    by_entry HeurCommit t = ap (λ b. cond b Decided m) t
    by_entry HeurRollback t = ap (λ b. cond b Decided m) t
    by_entry (Told o) t = ap (λ b. cond b (ToldOf o) m) t
    by_entry Forgot t = ap (λ b. cond b Finished m) t

own_marks : (m : Mark) (e : BranchRecord) (x : Xid) (ws : List Write)
    → marked_state (mark_after (Foreign x) m (entry_of e (Foreign x) ws)) ≡ doubt_of (leads e)
unfolding same_branch
own_marks m Prepared x ws = ap (λ b. marked_state (cond b Promised m)) (same_xid_refl x)
own_marks m Committed x ws = ap (λ b. marked_state (cond b Finished m)) (same_xid_refl x)
own_marks m RolledBack x ws = ap (λ b. marked_state (cond b Finished m)) (same_xid_refl x)
own_marks m Direct x ws = ap (λ b. marked_state (cond b Finished m)) (same_xid_refl x)
own_marks m HeurCommit x ws = ap (λ b. marked_state (cond b Decided m)) (same_xid_refl x)
own_marks m HeurRollback x ws = ap (λ b. marked_state (cond b Decided m)) (same_xid_refl x)
own_marks m (Told o) x ws = ap (λ b. marked_state (cond b (ToldOf o) m)) (same_xid_refl x)
own_marks m Forgot x ws = ap (λ b. marked_state (cond b Finished m)) (same_xid_refl x)

other_decides : (d : Known) (e : BranchRecord) (x y : Xid) (ws : List Write) → same x y ≡ false
    → decision_after (Foreign y) d (entry_of e (Foreign x) ws) ≡ d
other_decides d e x y ws apart = by_entry e (branch_same x y ∙ apart)
  where
    by_entry : (e : BranchRecord) → same_branch (Foreign x) (Foreign y) ≡ false
        → decision_after (Foreign y) d (entry_of e (Foreign x) ws) ≡ d
    by_entry Prepared t = ap (λ b. cond b (decided_as outcome.Aborted) d) t
    by_entry Committed t = refl
    by_entry RolledBack t = refl
    by_entry Direct t = refl
    by_entry HeurCommit t = ap (λ b. cond b (decided_as outcome.Committed) d) t
    by_entry HeurRollback t = ap (λ b. cond b (decided_as outcome.Aborted) d) t
    by_entry (Told o) t = ap (λ b. cond b (record { outcome = d.outcome; told = Some o }) d) t
    by_entry Forgot t = ap (λ b. cond b (decided_as outcome.Aborted) d) t

-- a record that leads to S5 says how the branch was decided, as it is known then
own_decides : (d : Known) (known : Option Known) (e : BranchRecord) (x : Xid) (ws : List Write) → leads e ≡ S5
    → (comes_from e ≡ S5 → d.outcome ≡ (decision_or known).outcome)
    → (decision_after (Foreign x) d (entry_of e (Foreign x) ws)).outcome
    ≡ (decision_or (known_behind (Some e) known)).outcome
unfolding same_branch
own_decides d known Prepared x ws h was = absurd cc
own_decides d known Committed x ws h was = absurd cc
own_decides d known RolledBack x ws h was = absurd cc
own_decides d known Direct x ws h was = absurd cc
own_decides d known Forgot x ws h was = absurd cc
own_decides d known HeurCommit x ws h was =
    ap (λ b. (cond b (decided_as outcome.Committed) d).outcome) (same_xid_refl x)
own_decides d known HeurRollback x ws h was =
    ap (λ b. (cond b (decided_as outcome.Aborted) d).outcome) (same_xid_refl x)
own_decides d known (Told o) x ws h was =
    ap (λ b. (cond b (record { outcome = d.outcome; told = Some o }) d).outcome) (same_xid_refl x) ∙ was refl

-- what a crash leaves of one record more: what it leaves without it, or all
pub within_more : (k : ℕ) (us : List LogRecord) (u : LogRecord)
    → (whole_within k (us ++ u ∷ []) ≡ whole_within k us) ⊎ (whole_within k (us ++ u ∷ []) ≡ us ++ u ∷ [])
unfolding whole_within
within_more k [] u = by (nat_le (record_size u) k) where
  by : (b : Bool) → (cond b (u ∷ whole_within (k - record_size u) []) [] ≡ [])
      ⊎ (cond b (u ∷ whole_within (k - record_size u) []) [] ≡ u ∷ [])
  by true = inr (ap (λ ls. u ∷ ls) (within_none (k - record_size u)))
  by false = inl refl
within_more k (v ∷ us) u = by (nat_le (record_size v) k) (within_more (k - record_size v) us u) where
  by : (b : Bool) → (whole_within (k - record_size v) (us ++ u ∷ []) ≡ whole_within (k - record_size v) us)
      ⊎ (whole_within (k - record_size v) (us ++ u ∷ []) ≡ us ++ u ∷ [])
      → (cond b (v ∷ whole_within (k - record_size v) (us ++ u ∷ [])) []
      ≡ cond b (v ∷ whole_within (k - record_size v) us) [])
      ⊎ (cond b (v ∷ whole_within (k - record_size v) (us ++ u ∷ [])) [] ≡ v ∷ (us ++ u ∷ []))
  by true h = elim h [
    | inl front ↦ inl (ap (λ ls. v ∷ ls) front)
    | inr all ↦ inr (ap (λ ls. v ∷ ls) all)
  ]
  by false h = inl refl

-- A record of a branch is written.

-- the records that need not be forced
abbrev pub IsLoose : BranchRecord → Type 0
IsLoose Committed = Unit {0}
IsLoose RolledBack = Unit {0}
IsLoose (Told o) = Unit {0}
IsLoose _ = ⊥

module _ (old new : KvSight) (l l' : Xid → Bool) (x : Xid) (e : BranchRecord) (ws : List Write)
    (is_forced : Bool)
    (r : IsRecorded old l) (log : new.log.sight ≡ with_record old.log.sight (entry_record e x ws) is_forced)
    (was : state_of old.store x ≡ comes_from e) (own : state_of new.store x ≡ leads e)
    (others : (y : Xid) → same x y ≡ false → state_of new.store y ≡ state_of old.store y)
    (known : decision_in new.store.decisions x ≡ known_behind (Some e) (decision_in old.store.decisions x))
    (others_known : (y : Xid) → same x y ≡ false → known_of new.store y ≡ known_of old.store y)
    (loose : is_forced ≡ false → IsLoose e) (more : (y : Xid) → l y ≡ true → l' y ≡ true)
    (loses : state_of old.store x ≡ S3 → state_of new.store x ≡ S0 → l' x ≡ true) where
  abbrev ls : List LogRecord
  ls = records_of old.log.sight.kept

  abbrev u : LogRecord
  u = entry_record e x ws

  said_other : (ks : List LogRecord) (y : Xid) → same x y ≡ false → mark_at (ks ++ u ∷ []) y ≡ mark_at ks y
  said_other ks y apart = mark_behind ks u y ∙ ap (mark_after (Foreign y) (mark_at ks y))
      (entry_by_xid e x ws)
      ∙ other_marks (mark_at ks y) e x y ws apart

  decided_other : (ks : List LogRecord) (y : Xid) → same x y ≡ false
      → decided_in (ks ++ u ∷ []) y ≡ decided_in ks y
  decided_other ks y apart = decided_behind ks u y ∙ ap (decision_after (Foreign y) (decided_in ks y))
      (entry_by_xid e x ws)
      ∙ other_decides (decided_in ks y) e x y ws apart

  said_own : marked_state (mark_at (ls ++ u ∷ []) x) ≡ doubt_of (state_of new.store x)
  said_own = ap marked_state (mark_behind ls u x ∙ ap (mark_after (Foreign x) (mark_at ls x))
      (entry_by_xid e x ws))
      ∙ own_marks (mark_at ls x) e x ws ∙ ap doubt_of (sym own)

  decided_own : state_of new.store x ≡ S5 → (decided_in (ls ++ u ∷ []) x).outcome
      ≡ (known_of new.store x).outcome
  decided_own q = ap (λ (k : Known). k.outcome)
      (decided_behind ls u x ∙ ap (decision_after (Foreign x) (decided_in ls x)) (entry_by_xid e x ws))
      ∙ own_decides (decided_in ls x) (decision_in old.store.decisions x) e x ws (sym own ∙ q)
      (λ five. r.decided x (was ∙ five))
      ∙ ap (λ o. (decision_or o).outcome) (sym known)

  now_all : (y : Xid) → marked_state (mark_at (ls ++ u ∷ []) y) ≡ doubt_of (state_of new.store y)
  now_all y = by (same x y) refl where
    by : (b : Bool) → same x y ≡ b → marked_state (mark_at (ls ++ u ∷ []) y) ≡ doubt_of (state_of new.store y)
    by true p = subst (λ (z : Xid). marked_state (mark_at (ls ++ u ∷ []) z) ≡ doubt_of (state_of new.store z))
        (same_is x y p) said_own
    by false p = ap marked_state (said_other ls y p) ∙ r.now y ∙ ap doubt_of (sym (others y p))

  decided_all : (y : Xid) → state_of new.store y ≡ S5
      → (decided_in (ls ++ u ∷ []) y).outcome ≡ (known_of new.store y).outcome
  decided_all y = by (same x y) refl where
    by : (b : Bool) → same x y ≡ b → state_of new.store y ≡ S5
        → (decided_in (ls ++ u ∷ []) y).outcome ≡ (known_of new.store y).outcome
    by true p q = subst (λ (z : Xid). state_of new.store z ≡ S5
        → (decided_in (ls ++ u ∷ []) z).outcome ≡ (known_of new.store z).outcome)
        (same_is x y p) decided_own q
    by false p q = ap (λ (k : Known). k.outcome) (decided_other ls y p) ∙ r.decided y (sym (others y p) ∙ q)
        ∙ ap (λ (k : Known). k.outcome) (sym (others_known y p))

  -- all records say it
  whole_so : (y : Xid) → SaysOf new l' (ls ++ u ∷ []) y
  whole_so y = whole_said (state_of new.store y) (known_of new.store y) (decided_in (ls ++ u ∷ []) y)
      (marked_state (mark_at (ls ++ u ∷ []) y)) (l' y) (now_all y) (decided_all y)

  -- those that a crash leaves without this one
  front_own : IsLoose e → (keep : ℕ) → SaysOf new l' (left_by old.log.sight keep) x
  front_own ok keep = by e refl ok where
    t : BranchState
    t = marked_state (mark_at (left_by old.log.sight keep) x)

    j : Known
    j = decided_in (left_by old.log.sight keep) x

    ended : comes_from e ≡ S3 → leads e ≡ S0 → SaysOf new l' (left_by old.log.sight keep) x
    ended p q =
        let three : t ≡ S3 = subst (λ (s : BranchState). IsSaid (doubt_of s) (known_of old.store x) t j (l x))
        (was ∙ p)
        (r.left keep x) in
        subst (λ (s : BranchState). IsSaid (doubt_of s) (known_of new.store x) t j (l' x)) (sym (own ∙ q))
        (inr (three, loses (was ∙ p) (own ∙ q)))

    by : (f : BranchRecord) → e ≡ f → IsLoose f → SaysOf new l' (left_by old.log.sight keep) x
    by Committed is k = ended (ap comes_from is) (ap leads is)
    by RolledBack is k = ended (ap comes_from is) (ap leads is)
    by (Told o) is k =
        let five : (t ≡ S5) × (j.outcome ≡ (known_of old.store x).outcome) =
        subst (λ (s : BranchState). IsSaid (doubt_of s) (known_of old.store x) t j (l x))
        (was ∙ ap comes_from is)
        (r.left keep x) in
        subst (λ (s : BranchState). IsSaid (doubt_of s) (known_of new.store x) t j (l' x))
        (sym (own ∙ ap leads is)) (
          five.0,
          five.1 ∙ sym (ap (λ o. (decision_or o).outcome) known
              ∙ ap (λ (f : BranchRecord). (decision_or
              (known_behind (Some f) (decision_in old.store.decisions x))).outcome) is),
        )
    by Prepared is k = absurd k
    by Direct is k = absurd k
    by HeurCommit is k = absurd k
    by HeurRollback is k = absurd k
    by Forgot is k = absurd k

  front_so : IsLoose e → (keep : ℕ) (y : Xid) → SaysOf new l' (left_by old.log.sight keep) y
  front_so ok keep y = by (same x y) refl where
    t : BranchState
    t = marked_state (mark_at (left_by old.log.sight keep) y)

    j : Known
    j = decided_in (left_by old.log.sight keep) y

    by : (b : Bool) → same x y ≡ b → SaysOf new l' (left_by old.log.sight keep) y
    by true p = subst (λ (z : Xid). SaysOf new l' (left_by old.log.sight keep) z) (same_is x y p)
        (front_own ok keep)
    by false p = more_said (doubt_of (state_of new.store y)) (known_of new.store y) j t (l y) (l' y) (more y)
        (subst (λ (s : BranchState). IsSaid (doubt_of s) (known_of new.store y) t j (l y)) (sym (others y p))
        (subst (λ (k : Known). IsSaid (doubt_of (state_of old.store y)) k t j (l y)) (sym (others_known y p))
        (r.left keep y)))

  pub written_recorded : IsRecorded new l'
  written_recorded = by is_forced refl where
    at_force : (b : Bool) → is_forced ≡ b → new.log.sight ≡ with_record old.log.sight u b
    at_force b q = log ∙ ap (λ c. with_record old.log.sight u c) q

    by : (b : Bool) → is_forced ≡ b → IsRecorded new l'
    by true q =
        let one = at_force true q in
        forced_recorded new l' (ls ++ u ∷ []) (ap (λ (k : LogSight). k.failed) one ∙ r.works)
        (ap (λ (k : LogSight). k.kept.forced) one) (ap (λ (k : LogSight). k.kept.unforced) one)
        (has_more ls u) now_all
        decided_all
    by false q =
        let one = at_force false q in
        let all : records_of new.log.sight.kept ≡ ls ++ u ∷ [] = ap (λ (k : LogSight). records_of k.kept) one
        ∙ sym (append_assoc old.log.sight.kept.forced old.log.sight.kept.unforced (u ∷ [])) in
        record {
          works = ap (λ (k : LogSight). k.failed) one ∙ r.works;
          begun = ap has_records all ∙ has_more ls u;
          now = λ y. ap (λ ks. marked_state (mark_at ks y)) all ∙ now_all y;
          decided = λ y five. ap (λ ks. (decided_in ks y).outcome) all ∙ decided_all y five;
          left = λ keep y. subst (λ (k : LogSight). SaysOf new l' (left_by k keep) y) (sym one)
              (elim (within_more (old.log.sight.behind + keep) old.log.sight.kept.unforced u) [
                | inl front ↦ subst (λ (ks : List LogRecord). SaysOf new l'
                    (old.log.sight.kept.forced ++ ks) y) (sym front)
                    (front_so (loose q) keep y)
                | inr whole ↦ subst (λ (ks : List LogRecord). SaysOf new l'
                    (old.log.sight.kept.forced ++ ks) y) (sym whole)
                    (subst (λ (ks : List LogRecord). SaysOf new l' ks y)
                    (append_assoc old.log.sight.kept.forced old.log.sight.kept.unforced (u ∷ []))
                    (whole_so y))
              ]);
        }

-- A turn.

some_is : (e f : BranchRecord) → Some e ≡ Some f → e ≡ f
some_is e f h = cc

told_loose : (b : BranchName) (o : Outcome) (d : Known) (told : Option Outcome) (e : BranchRecord)
    → (tell_turn b o d told).entry ≡ Some e → IsLoose e
told_loose b o d None e h = subst IsLoose (some_is (Told o) e h) tt
told_loose b o d (Some t) e h = absurd cc

pub loose_call : (s : BranchState) (c : Call) (wrote : Bool) (b : BranchName) (d : Known) (e : BranchRecord)
    → (turn_of s c wrote b d).entry ≡ Some e → (turn_of s c wrote b d).is_forced ≡ false → IsLoose e
loose_call s call.Prepare true b d e h f = absurd cc
loose_call s call.Prepare false b d e h f = absurd cc
loose_call S0 call.Commit wrote b d e h f = subst IsLoose (some_is Committed e h) tt
loose_call S1 call.Commit wrote b d e h f = subst IsLoose (some_is Committed e h) tt
loose_call S2 call.Commit wrote b d e h f = subst IsLoose (some_is Committed e h) tt
loose_call S3 call.Commit wrote b d e h f = subst IsLoose (some_is Committed e h) tt
loose_call S4 call.Commit wrote b d e h f = subst IsLoose (some_is Committed e h) tt
loose_call S5 call.Commit wrote b d e h f = told_loose b outcome.Committed d d.told e h
loose_call s call.CommitOnePhase true b d e h f = absurd cc
loose_call s call.CommitOnePhase false b d e h f = absurd cc
loose_call S0 call.Rollback wrote b d e h f = absurd cc
loose_call S1 call.Rollback wrote b d e h f = absurd cc
loose_call S2 call.Rollback wrote b d e h f = absurd cc
loose_call S3 call.Rollback wrote b d e h f = subst IsLoose (some_is RolledBack e h) tt
loose_call S4 call.Rollback wrote b d e h f = absurd cc
loose_call S5 call.Rollback wrote b d e h f = told_loose b outcome.Aborted d d.told e h
loose_call s _ wrote b d e h f = absurd cc

loose_decision : (o : Outcome) (e : BranchRecord) → (decide_turn o).is_forced ≡ false → IsLoose e
loose_decision o e f = absurd cc

pub due_loose : (s : KvSight) (x : Xid) (c : Call) (turn : CallRow) (e : BranchRecord) → IsDueTurn s x c turn
    → turn.entry ≡ Some e
    → turn.is_forced ≡ false → IsLoose e
due_loose s x c turn e due is f = by due.due where
  by : IsTurn s.store x c turn → IsLoose e
  by (OfCall one) = loose_call (state_of s.store x) c _ _ _ e (ap (λ (t : CallRow). t.entry) (sym one) ∙ is)
      (ap (λ (t : CallRow). t.is_forced) (sym one) ∙ f)
  by (OfOperator o here room one) = loose_decision o e (ap (λ (t : CallRow). t.is_forced) (sym one) ∙ f)

-- a branch is known no longer that was prepared
abbrev is_three : BranchState → Bool
is_three S3 = true
is_three _ = false

abbrev is_zero : BranchState → Bool
is_zero S0 = true
is_zero _ = false

-- a crash may bring back those before, and those that are known no longer and were prepared
abbrev pub lost_after : (Xid → Bool) → KvSight → KvSight → Xid → Bool
lost_after l old new y = l y || (is_three (state_of old.store y) && is_zero (state_of new.store y))

three_is : (s : BranchState) → is_three s ≡ true → s ≡ S3
three_is S3 h = refl
three_is S0 h = absurd (false≢true h)
three_is S1 h = absurd (false≢true h)
three_is S2 h = absurd (false≢true h)
three_is S4 h = absurd (false≢true h)
three_is S5 h = absurd (false≢true h)

zero_is : (s : BranchState) → is_zero s ≡ true → s ≡ S0
zero_is S0 h = refl
zero_is S1 h = absurd (false≢true h)
zero_is S2 h = absurd (false≢true h)
zero_is S3 h = absurd (false≢true h)
zero_is S4 h = absurd (false≢true h)
zero_is S5 h = absurd (false≢true h)

pub lost_before : (l : Xid → Bool) (old new : KvSight) (y : Xid) → l y ≡ true → lost_after l old new y ≡ true
lost_before l old new y h = or_left (l y)
    (is_three (state_of old.store y) && is_zero (state_of new.store y)) h

pub lost_now : (l : Xid → Bool) (old new : KvSight) (y : Xid) → state_of old.store y ≡ S3
    → state_of new.store y ≡ S0
    → lost_after l old new y ≡ true
lost_now l old new y p q = or_right (l y) (is_three (state_of old.store y) && is_zero (state_of new.store y))
    (and_from (is_three (state_of old.store y)) (is_zero (state_of new.store y))
    (ap is_three p) (ap is_zero q))

pub lost_cases : (l : Xid → Bool) (old new : KvSight) (y : Xid) → lost_after l old new y ≡ true
    → (l y ≡ true) ⊎ ((state_of old.store y ≡ S3) × (state_of new.store y ≡ S0))
lost_cases l old new y h =
    elim (or_cases (l y) (is_three (state_of old.store y) && is_zero (state_of new.store y)) h) [
      | inl was ↦ inl was
      | inr both ↦ (let parts = and_parts (is_three (state_of old.store y))
          (is_zero (state_of new.store y)) both in
          inr (three_is (state_of old.store y) parts.0, zero_is (state_of new.store y) parts.1))
    ]

-- a branch took a turn
pub turn_recorded : (old new : KvSight) (l : Xid → Bool) (x : Xid) (c : Call) (turn : CallRow)
    → IsRecorded old l
    → IsDueTurn old x c turn → KvMakes old new x turn → IsRecorded new (lost_after l old new)
turn_recorded old new l x c turn r due makes = by turn.entry refl where
  known_by : (y : Xid) → same x y ≡ false → known_of new.store y ≡ known_of old.store y
  known_by y apart = ap decision_or (makes.decisions.others y apart)

  log_by : (o : Option BranchRecord) → turn.entry ≡ o → LogsTurn old new x turn.is_forced o
  log_by o is = subst (λ (p : Option BranchRecord). LogsTurn old new x turn.is_forced p) is makes.log

  by : (o : Option BranchRecord) → turn.entry ≡ o → IsRecorded new (lost_after l old new)
  by None is = more_recorded new l (lost_after l old new) (lost_before l old new)
      (stays_recorded old new l r (log_by None is)
      (moves_doubts old.store.tables new.store.tables x turn.to (silent_doubt old x c turn due is)
      makes.tables.branch)
      (λ y. at_known y (same x y) refl))
    where
      at_known : (y : Xid) (b : Bool) → same x y ≡ b → known_of new.store y ≡ known_of old.store y
      at_known y true p = subst (λ (z : Xid). known_of new.store z ≡ known_of old.store z) (same_is x y p)
          (ap decision_or (makes.decisions.own ∙ ap
          (λ o. known_behind o (decision_in old.store.decisions x)) is))
      at_known y false p = known_by y p
  by (Some e) is = written_recorded old new l (lost_after l old new) x e (writes_of old.store.writes x)
      turn.is_forced r
      (log_by (Some e) is) (due_from old x c turn e due is)
      (makes.tables.branch.own ∙ due_leads old x c turn e due is)
      makes.tables.branch.others
      (makes.decisions.own ∙ ap (λ o. known_behind o (decision_in old.store.decisions x)) is) known_by
      (due_loose old x c turn e due is) (lost_before l old new) (lost_now l old new x)

-- A trim.

of_manager : (q : Option ProcessId) (r : Record) → IsSoundEntry Manager q r → is_managers r ≡ true
of_manager q (record_of.Collecting c ts) h = absurd h.1
of_manager q (record_of.Prepare c ts) h = absurd h.1
of_manager q (record_of.Commit c ts) h = absurd h.1
of_manager q (record_of.Abort c ts) h = absurd h.1
of_manager q (record_of.End c rep) h = absurd h.1
of_manager q (record_of.Cleared c) h = absurd h.1
of_manager q (record_of.Opened n) h = refl
of_manager q (record_of.Prepared b ws) h = refl
of_manager q (record_of.Committed b) h = refl
of_manager q (record_of.RolledBack b) h = refl
of_manager q (record_of.Direct b ws) h = refl
of_manager q (record_of.HeurCommit b) h = refl
of_manager q (record_of.HeurRollback b) h = refl
of_manager q (record_of.Told b o) h = refl
of_manager q (record_of.Forgot b) h = refl
of_manager q (record_of.Base n) h = refl
of_manager q (record_of.Pair k v) h = refl

all_of_manager : (ls : List LogRecord) → AllByRecursion (IsSound Manager) ls
    → AllByRecursion (λ l. is_managers l.entry ≡ true) ls
all_of_manager [] h = tt
all_of_manager (l ∷ ls) h = (of_manager l.parent l.entry h.0, all_of_manager ls h.1)

some_trimmed : (ls : List LogRecord) → has_records (trim_of ls) ≡ true
some_trimmed ls = some_behind (front_of_trim ls)
  where
    some_behind : (ks : List LogRecord) → has_records (ks ++ map unnamed (base_records (data_of ls))) ≡ true
    some_behind [] = refl
    some_behind (k ∷ ks) = refl

pub shut_state : (m : Mark) → is_open m ≡ false → marked_state m ≡ S0
shut_state Unmarked h = refl
shut_state Promised h = absurd (false≢true (sym h))
shut_state Decided h = absurd (false≢true (sym h))
shut_state (ToldOf o) h = absurd (false≢true (sym h))
shut_state Finished h = refl

five_open : (m : Mark) → marked_state m ≡ S5 → is_open m ≡ true
five_open Unmarked h = absurd cc
five_open Promised h = refl
five_open Decided h = refl
five_open (ToldOf o) h = refl
five_open Finished h = absurd cc

none_state : (o : Option Promise) → is_some o ≡ false → state_by o ≡ S0
none_state None h = refl
none_state (Some p) h = absurd (false≢true (sym h))

module _ (ls : List LogRecord) (sound : AllByRecursion (IsSound Manager) ls) (ordered : are_ordered ls ≡ true)
    (begun : has_records ls ≡ true) where
  seen : (u : SeenLog) × (seen_of ls ≡ Some u)
  seen = seen_where ls ordered

  follows : TrimFollows ls seen.0
  follows = trim_follows ls seen.0 (all_of_manager ls sound) begun seen.1

  pub keeps : KeepsData ls (trim_of ls)
  keeps = trims_keep_data ls (all_of_manager ls sound) (lawful_of ls seen.0 seen.1).tied.rise

  trim_marks : (x : Xid) → marked_state (mark_at (trim_of ls) x) ≡ marked_state (mark_at ls x)
  trim_marks x = by (is_open (mark_at ls x)) refl where
    by : (b : Bool) → is_open (mark_at ls x) ≡ b → marked_state (mark_at (trim_of ls) x)
        ≡ marked_state (mark_at ls x)
    by true stays = ap marked_state (keeps.marks x stays)
    by false gone =
        let before : marked_state (mark_at ls x) ≡ S0 = shut_state (mark_at ls x) gone in
        let off = off_by (found seen.0 x) ((agrees_of ls seen.0 seen.1).states x ∙ before) in
        sym ((agrees_of (trim_of ls) follows.seen follows.read).states x)
        ∙ none_state (found follows.seen x) (follows.known x off) ∙ sym before

  trim_decides : (x : Xid) → marked_state (mark_at ls x) ≡ S5 → decided_in (trim_of ls) x ≡ decided_in ls x
  trim_decides x five = keeps.decisions x (five_open (mark_at ls x) five)

pub trim_recorded : (old new : KvSight) (l : Xid → Bool) → IsRecorded old l → HasSoundLog old
    → new.log.sight ≡ forced_sight old.log.sight.form (trim_of (records_of old.log.sight.kept))
    old.log.sight.failures
    → SameDoubts old.store.tables new.store.tables → ((y : Xid) → known_of new.store y ≡ known_of old.store y)
    → IsRecorded new l
trim_recorded old new l r log is doubts known =
    let ls = records_of old.log.sight.kept in
    forced_recorded new l (trim_of ls) (ap (λ (k : LogSight). k.failed) is)
    (ap (λ (k : LogSight). k.kept.forced) is)
    (ap (λ (k : LogSight). k.kept.unforced) is) (some_trimmed ls)
    (λ x. trim_marks ls log.sound log.ordered r.begun x ∙ r.now x ∙ sym (doubts x))
    (λ x e. let five = five_is (state_of old.store x) (sym (doubts x) ∙ ap doubt_of e) in
    ap (λ (k : Known). k.outcome) (trim_decides ls log.sound log.ordered r.begun x
    (r.now x ∙ ap doubt_of five))
    ∙ r.decided x five ∙ ap (λ (k : Known). k.outcome) (sym (known x)))

-- A restart.

marked_doubt : (m : Mark) → doubt_of (marked_state m) ≡ marked_state m
marked_doubt Unmarked = refl
marked_doubt Promised = refl
marked_doubt Decided = refl
marked_doubt (ToldOf o) = refl
marked_doubt Finished = refl

pub boot_recorded : (new : KvSight) (ls : List LogRecord) (b : ℕ) → new.log.sight.failed ≡ false
    → new.log.sight.kept.forced ≡ ls ++ boot_record b ∷ [] → new.log.sight.kept.unforced ≡ []
    → ((x : Xid) → state_of new.store x ≡ marked_state (mark_at ls x))
    → ((x : Xid) → state_of new.store x ≡ S5 → known_of new.store x ≡ decided_in ls x)
    → IsRecorded new none_lost
boot_recorded new ls b works one none states decided =
    forced_recorded new none_lost (ls ++ boot_record b ∷ []) works one none (has_more ls (boot_record b))
    (λ x. ap marked_state (mark_behind ls (boot_record b) x) ∙ sym (marked_doubt (mark_at ls x))
    ∙ ap doubt_of (sym (states x)))
    (λ x e. ap (λ (k : Known). k.outcome) (decided_behind ls (boot_record b) x)
    ∙ ap (λ (k : Known). k.outcome) (sym (decided x e)))

-- A crash that keeps enough keeps all.

within_all : (us : List LogRecord) (a b : ℕ) → a ≤ b → whole_within a us ≡ us → whole_within b us ≡ us
unfolding whole_within
within_all [] a b le h = refl
within_all (u ∷ us) a b le h = by (nat_le (record_size u) a) refl h
    (λ q. within_all us (a - record_size u) (b - record_size u)
    (omega arith) q) where
      by : (c : Bool) → nat_le (record_size u) a ≡ c → cond c (u ∷ whole_within (a - record_size u) us) []
          ≡ u ∷ us
          → (whole_within (a - record_size u) us ≡ us → whole_within (b - record_size u) us ≡ us)
          → cond (nat_le (record_size u) b) (u ∷ whole_within (b - record_size u) us) [] ≡ u ∷ us
      by true q e rest =
          let tail : whole_within (a - record_size u) us ≡ us = cc in
          let fits : nat_le (record_size u) b ≡ true = grind (arith, nat_tests, q, le) in
          ap (λ t. cond t (u ∷ whole_within (b - record_size u) us) []) fits ∙ ap (λ ks. u ∷ ks) (rest tail)
      by false q e rest = absurd cc

pub all_left : (m : KvSight) → HasSoundLog m → left_by m.log.sight (2 ^ 64 - 1) ≡ records_of m.log.sight.kept
all_left m log =
    let s = m.log.sight in
    let whole : whole_within (s.behind + log.size) s.kept.unforced ≡ s.kept.unforced =
    append_cancel_left s.kept.forced (whole_within (s.behind + log.size) s.kept.unforced)
    s.kept.unforced log.whole in
    let fits = log.fits in
    let le : s.behind + log.size ≤ s.behind + (2 ^ 64 - 1) = omega arith in
    ap (λ us. s.kept.forced ++ us) (within_all s.kept.unforced (s.behind + log.size)
    (s.behind + (2 ^ 64 - 1)) le whole)
