-- The keys of a branch's writes are locked one by one.
use Rattle.std.proofs.Common.{◌≡◌, ◌<◌, ◌⊎◌, ⊎_elim, inl, inr, ℕ, ◌+◌, Bool, true, false, not, ◌&&◌, ◌||◌, cond, Option, Some, None, option_map, List, [], ◌∷◌, length, get_or, drop, map, refl, sym, ap, subst, ◌∙◌, arith}
use Rattle.std.proofs.Math.Numerals.{add-one}
use Rattle.std.proofs.Math.Seq.{drop-cons}
use Rattle.std.specs.Map.{lookup}
use Rattle.xa_xid.specs.declared.xid.Xid.{Xid}
use Rattle.protocol.specs.declared.records.Write.{Write}
use Rattle.protocol.specs.Records.{same_bytes}
use Rattle.key_lists.specs.declared.holders.Holder.{Holder}
use Rattle.key_lists.specs.declared.holders.Mode.TheVariants.{Exclusive}
use Rattle.kv_locks.specs.declared.locks.LockError.{LockError}
use Rattle.kv_locks.specs.declared.locks.LockError.TheVariants.{Held}
use Rattle.key_lists.specs.Holders.{blocked_by}
use Rattle.kv_locks.specs.Locks.{GivesLock, LockTable, RefusesLock, holders_of}
use Rattle.kv_store.proofs.Order.{bytes_are_same, same_is as key_is, same_itself as key_itself}
use Rattle.kv_store.specs.writes.Writes.{LeavesWrites, WriteTable, writes_of}
use Rattle.protocol.specs.declared.records.LogRecord.{LogRecord}
use Rattle.log_rules.specs.declared.order.seen.Promise.{Promise}
use Rattle.log_rules.specs.order.Orders.{SeenLog, found, is_open, in_doubt_by, names_key, opens, promised, promised_by, same}
use Rattle.kv_state.specs.declared.fault.ReplayError.{ReplayError}
use Rattle.kv_state.specs.declared.fault.ReplayError.TheVariants.{Memory, Malformed, Exhausted}
use Rattle.kv_state.specs.Replays.{AreFree, ReplayFails, HoldFails, IsOrderly, LocksKeys, RestoreFails, Restores, seen_of}
use Rattle.kv_state.proofs.Lookups.{Live, apart_turns, same_is, same_itself, true_is_false}

-- the holders of a key that one branch has to itself
abbrev pub held_by : Xid → List Holder
held_by x = record { xid = x; mode = Exclusive } ∷ []

-- a branch is not in its own way
pub own_free : (x : Xid) → blocked_by (held_by x) x Exclusive ≡ None
own_free x = ap (λ b. option_map (λ (h : Holder). h.xid)
    (cond (not b && true) (Some (record { xid = x; mode = Exclusive })) None)) (same_itself x)

-- the keys of some writes are still free, and once they are locked all are
pub record IsLocking (old now : LockTable) (x : Xid) (ws rest : List Write) : Type 0 where
  pub free : AreFree now x rest
  pub ends : (new : LockTable) → LocksKeys now new x rest → LocksKeys old new x ws

pub locking_begins : (t : LockTable) (x : Xid) (ws : List Write) → AreFree t x ws → IsLocking t t x ws ws
locking_begins t x ws free = record { free = free; ends = λ new locks. locks }

pub locking_ends : (old now : LockTable) (x : Xid) (ws : List Write) → IsLocking old now x ws []
    → LocksKeys old now x ws
unfolding names_key
locking_ends old now x ws locking = locking.ends now (record {
  own = λ k names. true_is_false (sym names);
  others = λ k names. refl;
})

names_first : (w : Write) (ws : List Write) (k : List ℕ) (b : Bool) → same_bytes w.key k ≡ b
    → names_key (w ∷ ws) k ≡ (b || names_key ws k)
unfolding names_key
names_first w ws k b e = ap (λ t. t || names_key ws k) e

pub locking_goes_on : (old now next : LockTable) (x : Xid) (ws : List Write) (w : Write) (rest : List Write)
    → IsLocking old now x ws (w ∷ rest) → GivesLock now next x w.key Exclusive → IsLocking old next x ws rest
locking_goes_on old now next x ws w rest locking gives = record {
  free = λ k names. free_by k names (same_bytes w.key k) refl;
  ends = λ new locks. locking.ends new (record {
    own = λ k names. own_by new locks k names (same_bytes w.key k) refl (names_key rest k) refl;
    others = λ k names. others_by new locks k names (same_bytes w.key k) refl;
  });
}
  where
    apart : (k : List ℕ) → same_bytes w.key k ≡ false → holders_of next k ≡ holders_of now k
    apart k e = gives.made.others k (bytes_are_same w.key k ∙ e)

    here : (k : List ℕ) → same_bytes w.key k ≡ true → holders_of next k ≡ held_by x
    here k e = ap (holders_of next) (sym (key_is w.key k e)) ∙ gives.made.own

    free_by : (k : List ℕ) → names_key rest k ≡ true → (b : Bool) → same_bytes w.key k ≡ b
        → blocked_by (holders_of next k) x Exclusive ≡ None
    free_by k names true e = ap (λ hs. blocked_by hs x Exclusive) (here k e) ∙ own_free x
    free_by k names false e = ap (λ hs. blocked_by hs x Exclusive) (apart k e)
        ∙ locking.free k (names_first w rest k false e ∙ names)

    own_by : (new : LockTable) → LocksKeys next new x rest → (k : List ℕ) → names_key (w ∷ rest) k ≡ true
        → (b : Bool) → same_bytes w.key k ≡ b → (c : Bool) → names_key rest k ≡ c
        → holders_of new k ≡ held_by x
    own_by new locks k names b e true f = locks.own k f
    own_by new locks k names true e false f = locks.others k f ∙ here k e
    own_by new locks k names false e false f = true_is_false (sym names ∙ names_first w rest k false e ∙ f)

    others_by : (new : LockTable) → LocksKeys next new x rest → (k : List ℕ) → names_key (w ∷ rest) k ≡ false
        → (b : Bool) → same_bytes w.key k ≡ b → holders_of new k ≡ holders_of now k
    others_by new locks k names true e = true_is_false (sym (names_first w rest k true e) ∙ names)
    others_by new locks k names false e = locks.others k (sym (names_first w rest k false e) ∙ names)
        ∙ apart k e

pub locking_is_over : (old now : LockTable) (x : Xid) (ws rest : List Write) → length rest < 1
    → IsLocking old now x ws rest
    → LocksKeys old now x ws
locking_is_over old now x ws [] few locking = locking_ends old now x ws locking
locking_is_over old now x ws (w ∷ rest) few locking = absurd (omega arith)

-- no other branch is in the way
pub never_held : (old now new : LockTable) (x : Xid) (ws : List Write) (w : Write) (rest : List Write)
    → IsLocking old now x ws (w ∷ rest) → (e : LockError) (y : Xid) → e ≡ Held y
    → RefusesLock now new x w.key Exclusive e → ⊥
never_held old now new x ws w rest locking e y is refuses =
    let held : (blocked_by (holders_of now w.key) x Exclusive ≡ Some y) × (new ≡ now) =
    subst (RefusesLock now new x w.key Exclusive) is refuses in
    let free : blocked_by (holders_of now w.key) x Exclusive ≡ None =
    locking.free w.key (names_first w rest w.key true (key_itself w.key)) in
    absurd (cc)

-- The branches that are left are given back one by one.

-- the item that a loop is at, and those after it
pub item_and_rest : {A : Type 0} (xs : List A) (i : ℕ) (x : A) → i < length xs → x ≡ get_or xs i x
    → drop i xs ≡ x ∷ drop (i + 1) xs
item_and_rest xs i x within is =
    let first : drop i xs ≡ get_or xs i x ∷ drop (i + 1) xs = rw (add-one, drop-cons xs i x) refl in
    first ∙ ap (λ y. y ∷ drop (i + 1) xs) (sym is)

-- a branch is among these
abbrev pub is_among : Xid → List (Xid × Bool) → Bool
is_among x [] = false
is_among x (e ∷ es) = same x e.0 || is_among x es

-- a front of the branches that are left has been given back
pub record IsRestoring (s : SeenLog) (rest : List (Xid × Bool)) (t : WriteTable)
    (locks : LockTable) : Type 0 where
  pub each : (x : Xid) → (writes_of t x ≡ promised s x) ⊎ (writes_of t x ≡ [])
  pub done : (x : Xid) → is_among x rest ≡ false → writes_of t x ≡ promised s x
  pub held : (x : Xid) (k : List ℕ) → names_key (writes_of t x) k ≡ true → holders_of locks k ≡ held_by x
  pub free : (k : List ℕ) → ((x : Xid) → names_key (writes_of t x) k ≡ false) → holders_of locks k ≡ []

not_left : (es : Live) (x : Xid) → is_among x (map (λ (e : Xid × Promise).
    (e.0, not (opens e.1.mark))) es) ≡ false
    → promised_by (lookup (same x) es) ≡ []
not_left [] x h = refl
not_left (e ∷ es) x h = by_test (same x e.0) h (not_left es x)
  where
    by_test : (b : Bool) → (b || is_among x (map (λ (e : Xid × Promise).
        (e.0, not (opens e.1.mark))) es)) ≡ false
        → (is_among x (map (λ (e : Xid × Promise). (e.0, not (opens e.1.mark))) es) ≡ false
        → promised_by (lookup (same x) es) ≡ [])
        → promised_by (cond b (Some e.1) (lookup (same x) es)) ≡ []
    by_test true h more = true_is_false h
    by_test false h more = more h

pub restoring_begins : (s : SeenLog) → IsRestoring s (in_doubt_by s) [] []
unfolding names_key
restoring_begins s = record {
  each = λ x. inr refl;
  done = λ x none. sym (not_left s.live x none);
  held = λ x k names. true_is_false (sym names);
  free = λ k none. refl;
}

pub restoring_ends : (s : SeenLog) (t : WriteTable) (locks : LockTable) → IsRestoring s [] t locks
    → Restores s t locks
restoring_ends s t locks r = record {
  promises = λ x. r.done x refl;
  locks_held = record {
    held = λ x k names. r.held x k (ap (λ ws. names_key ws k) (r.done x refl) ∙ names);
    free = λ k none. r.free k (λ x. ap (λ ws. names_key ws k) (r.done x refl) ∙ none x);
  };
}

names_nothing : (ws vs : List Write) (k : List ℕ) → (vs ≡ ws) ⊎ (vs ≡ []) → names_key ws k ≡ false
    → names_key vs k ≡ false
unfolding names_key
names_nothing ws vs k either none = ⊎_elim (λ h. ap (λ us. names_key us k) h ∙ none)
    (λ h. ap (λ us. names_key us k) h) either

names_something : (ws vs : List Write) (k : List ℕ) → (vs ≡ ws) ⊎ (vs ≡ []) → names_key vs k ≡ true
    → names_key ws k ≡ true
unfolding names_key
names_something ws vs k either some = ⊎_elim (λ h. ap (λ us. names_key us k) (sym h) ∙ some)
    (λ h. true_is_false (sym some ∙ ap (λ us. names_key us k) h)) either

module _ (s : SeenLog) (orderly : IsOrderly s) (e : Xid × Bool) (rest : List (Xid × Bool)) (t : WriteTable)
    (locks : LockTable)
    (restoring : IsRestoring s (e ∷ rest) t locks) where
  -- a key of another branch's writes is none of this branch
  not_other : (x : Xid) (k : List ℕ) → same e.0 x ≡ false → names_key (promised s e.0) k ≡ true
      → names_key (writes_of t x) k ≡ false
  not_other x k other names = names_nothing (promised s x) (writes_of t x) k (restoring.each x)
      (orderly.apart e.0 x k other names)

  pub restoring_is_free : AreFree locks e.0 (promised s e.0)
  restoring_is_free k names = by_test (names_key (writes_of t e.0) k) refl
    where
      none : names_key (writes_of t e.0) k ≡ false → (x : Xid) (b : Bool) → same e.0 x ≡ b
          → names_key (writes_of t x) k ≡ false
      none h x true is = ap (λ y. names_key (writes_of t y) k) (sym (same_is e.0 x is)) ∙ h
      none h x false is = not_other x k is names

      by_test : (b : Bool) → names_key (writes_of t e.0) k ≡ b
          → blocked_by (holders_of locks k) e.0 Exclusive ≡ None
      by_test true h = ap (λ hs. blocked_by hs e.0 Exclusive) (restoring.held e.0 k h) ∙ own_free e.0
      by_test false h = ap (λ hs. blocked_by hs e.0 Exclusive)
          (restoring.free k (λ x. none h x (same e.0 x) refl))

  pub restoring_goes_on : (u : WriteTable) (next : LockTable) → LeavesWrites t u e.0 (promised s e.0)
      → LocksKeys locks next e.0 (promised s e.0) → IsRestoring s rest u next
  restoring_goes_on u next leaves keys = record {
    each = λ x. each_by x (same e.0 x) refl;
    done = λ x none. done_by x none (same e.0 x) refl;
    held = λ x k names. held_by_test x k names (same e.0 x) refl (names_key (promised s e.0) k) refl;
    free = λ k none.
        let own : names_key (promised s e.0) k ≡ false = ap (λ ws. names_key ws k) (sym leaves.own)
        ∙ none e.0 in
        keys.others k own ∙ restoring.free k (λ x. free_by k none own x (same e.0 x) refl);
  }
    where
      each_by : (x : Xid) (b : Bool) → same e.0 x ≡ b → (writes_of u x ≡ promised s x) ⊎ (writes_of u x ≡ [])
      each_by x true is = inl (subst (λ y. writes_of u y ≡ promised s y) (same_is e.0 x is) leaves.own)
      each_by x false is = subst (λ ws. (ws ≡ promised s x) ⊎ (ws ≡ [])) (sym (leaves.others x is))
          (restoring.each x)

      done_by : (x : Xid) → is_among x rest ≡ false → (b : Bool) → same e.0 x ≡ b
          → writes_of u x ≡ promised s x
      done_by x none true is = subst (λ y. writes_of u y ≡ promised s y) (same_is e.0 x is) leaves.own
      done_by x none false is = leaves.others x is
          ∙ restoring.done x (ap (λ b. b || is_among x rest) (apart_turns e.0 x is) ∙ none)

      held_by_test : (x : Xid) (k : List ℕ) → names_key (writes_of u x) k ≡ true → (b : Bool) → same e.0 x ≡ b
          → (c : Bool) → names_key (promised s e.0) k ≡ c → holders_of next k ≡ held_by x
      held_by_test x k names true is c own =
          let here : e.0 ≡ x = same_is e.0 x is in
          let named : names_key (promised s e.0) k ≡ true = ap (λ ws. names_key ws k) (sym leaves.own)
          ∙ ap (λ y. names_key (writes_of u y) k) here ∙ names in
          keys.own k named ∙ ap held_by here
      held_by_test x k names false is true own =
          true_is_false (sym names ∙ ap (λ ws. names_key ws k) (leaves.others x is) ∙ not_other x k is own)
      held_by_test x k names false is false own =
          keys.others k own ∙ restoring.held x k (ap (λ ws. names_key ws k) (sym (leaves.others x is))
          ∙ names)

      free_by : (k : List ℕ) → ((x : Xid) → names_key (writes_of u x) k ≡ false)
          → names_key (promised s e.0) k ≡ false
          → (x : Xid) (b : Bool) → same e.0 x ≡ b → names_key (writes_of t x) k ≡ false
      free_by k none own x true is = names_nothing (promised s x) (writes_of t x) k (restoring.each x)
          (ap (λ y. names_key (promised s y) k) (sym (same_is e.0 x is)) ∙ own)
      free_by k none own x false is = ap (λ ws. names_key ws k) (sym (leaves.others x is)) ∙ none x

  pub restoring_passes : is_open (found s e.0) ≡ false → IsRestoring s rest t locks
  restoring_passes closed = record {
    each = restoring.each;
    done = λ x none. done_by x none (same e.0 x) refl;
    held = restoring.held;
    free = restoring.free;
  }
    where
      nothing : (o : Option Promise) → is_open o ≡ false → promised_by o ≡ []
      nothing None h = refl
      nothing (Some p) h = ap (λ b. cond b p.writes []) h

      both_nothing : (x : Xid) → promised s x ≡ [] → (writes_of t x ≡ promised s x) ⊎ (writes_of t x ≡ [])
          → writes_of t x ≡ promised s x
      both_nothing x h either = ⊎_elim (λ g. g) (λ g. g ∙ sym h) either

      done_by : (x : Xid) → is_among x rest ≡ false → (b : Bool) → same e.0 x ≡ b
          → writes_of t x ≡ promised s x
      done_by x none true is =
          both_nothing x (subst (λ y. promised s y ≡ []) (same_is e.0 x is) (nothing (found s e.0) closed))
          (restoring.each x)
      done_by x none false is = restoring.done x (ap (λ b. b || is_among x rest) (apart_turns e.0 x is)
          ∙ none)

pub restoring_fails : (s : SeenLog) (x : Xid) (e : ReplayError) → HoldFails (promised s x) e
    → RestoreFails s e
restoring_fails s x Memory fails = tt
restoring_fails s x Malformed fails = record { branch = x; breaks = fails }
restoring_fails s x Exhausted fails = fails

-- what the open branches cannot hold leaves nothing
pub restore_fails : (ls : List LogRecord) (s : SeenLog) → seen_of ls ≡ Some s → (e : ReplayError)
    → RestoreFails s e → ReplayFails ls e
restore_fails ls s read Memory fails = tt
restore_fails ls s read Malformed fails = inr (s, read, fails)
restore_fails ls s read Exhausted fails = absurd fails
