-- What a key store writes of a branch may follow what its records have said.
use Rattle.std.proofs.Common.{◌≡◌, ◌≤◌, ℕ, Bool, true, false, not, ◌&&◌, ◌||◌, cond, List, [], ◌∷◌, Option, Some, None, refl, sym, ap, ◌∙◌, is_some, nat_lt, length, arith}
use Rattle.std.specs.Prelude.{unwrap_or}
use Rattle.std.proofs.lemmas.Bool.Decides.{nat_tests}
use Rattle.std.specs.List.{IsDistinct}
use Rattle.std.specs.Map.{keys_of, lookup}
use Rattle.xa_tables.specs.declared.states.BranchState.{BranchState}
use Rattle.xa_tables.specs.declared.states.BranchState.TheVariants.{S0, S2, S3, S5}
use Rattle.xa_xid.specs.declared.xid.Xid.{Xid}
use Rattle.xa_assoc.specs.Restored.{state_left}
use Rattle.protocol.specs.Records.{is_opened}
use Rattle.log_text.specs.Parts.{name_in}
use Rattle.log_rules.specs.declared.order.seen.DoubtMark.{DoubtMark}
use Rattle.log_rules.specs.declared.order.seen.DoubtMark.TheVariants.{Open, Decided, Told as ToldMark}
use Rattle.log_rules.specs.declared.order.seen.Promise.{Promise}
use Rattle.log_rules.specs.order.Orders.{SeenLog, after, decided, direct, followed, forgot, found, is_heuristic, is_open, is_untold, key_open, keys_free, keys_once, names_key, opens, prepared, promised, promises, same, settled, told}
use Rattle.log_text.proofs.NameReading.{name_again}
use Rattle.key_lists.specs.declared.holders.Holder.{Holder}
use Rattle.key_lists.specs.declared.holders.Mode.TheVariants.{Exclusive}
use Rattle.kv_store.specs.writes.Writes.{AreWrites, writes_of}
use Rattle.kv_calls.specs.declared.entries.BranchRecord.{BranchRecord}
use Rattle.kv_calls.specs.declared.entries.BranchRecord.TheVariants.{Prepared, Committed, RolledBack, Direct, HeurCommit, HeurRollback, Told, Forgot}
use Rattle.kv_calls.specs.Turns.{entry_of, entry_record}
use Rattle.kv_state.specs.Stores.{IsTidy, KeySight, state_of}
use Rattle.kv_state.specs.Ends.{known_of}
use Rattle.kv_state.proofs.Lookups.{true_is_false}
use Rattle.kv_manager.specs.Sights.{doubt_of}
use Rattle.kv_manager.proofs.Marks.{state_by}
use Rattle.kv_manager.proofs.Turns.{IsUntold}
use Rattle.kv_manager.proofs.Told.{is_told, told_mark}
use Rattle.kv_manager.proofs.Free.{fewer, free_where, open_key}
use Rattle.kv_manager.proofs.From.{comes_from}

-- what was seen stands with a store: each branch is open that is prepared, with what it wrote, and heuristic
-- that an operator decided, and told if it was told; and a boot was seen
pub record StandsWith (t : SeenLog) (s : KeySight) : Type 0 where
  pub states : (x : Xid) → state_by (found t x) ≡ doubt_of (state_of s x)
  pub writes : (x : Xid) → is_open (found t x) ≡ true → writes_of s.writes x ≡ promised t x
  pub told : (x : Xid) → is_told (found t x) ≡ true → is_some (known_of s x).told ≡ true
  pub opened : is_some t.boot ≡ true

-- What a state says.

mark_state : (b : Bool) → state_left (not b) ≡ cond b S3 S5
mark_state true = refl
mark_state false = refl

pub off_by : (o : Option Promise) → state_by o ≡ S0 → is_some o ≡ false
off_by None h = refl
off_by (Some p) h = by_mark (opens p.mark) h
  where
    by_mark : (b : Bool) → state_left (not b) ≡ S0 → true ≡ false
    by_mark true e = absurd (cc)
    by_mark false e = absurd (cc)

open_by : (o : Option Promise) → state_by o ≡ S3 → is_open o ≡ true
open_by None h = absurd (cc)
open_by (Some p) h = by_mark (opens p.mark) h
  where
    by_mark : (b : Bool) → state_left (not b) ≡ S3 → b ≡ true
    by_mark true e = refl
    by_mark false e = absurd (cc)

decided_by : (o : Option Promise) → state_by o ≡ S5 → is_heuristic o ≡ true
decided_by None h = absurd (cc)
decided_by (Some p) h = by_mark (opens p.mark) h
  where
    by_mark : (b : Bool) → state_left (not b) ≡ S5 → not b ≡ true
    by_mark true e = absurd (cc)
    by_mark false e = refl

untold_by : (o : Option Promise) → state_by o ≡ S5 → (is_told o ≡ true → ⊥) → is_untold o ≡ true
untold_by None h never = absurd (cc)
untold_by (Some p) h never = by_mark p.mark h never
  where
    by_mark : (m : DoubtMark) → state_left (not (opens m)) ≡ S5 → (told_mark m ≡ true → ⊥)
        → is_untold (Some (record { mark = m; writes = p.writes })) ≡ true
    by_mark Open e n = absurd (cc)
    by_mark Decided e n = refl
    by_mark ToldMark e n = absurd (n refl)

open_some : (o : Option Promise) → is_open o ≡ true → is_some o ≡ true
open_some None h = absurd (cc)
open_some (Some p) h = refl

known_doubt : (p : Option Promise) (o : Option BranchState) → is_some p ≡ true
    → state_by p ≡ doubt_of (unwrap_or o S0) → is_some o ≡ true
known_doubt p (Some b) there is = refl
known_doubt p None there is = true_is_false (sym there ∙ off_by p is)

known_work : (o : Option BranchState) → unwrap_or o S0 ≡ S2 → is_some o ≡ true
known_work None h = absurd (cc)
known_work (Some b) h = refl

some_if : {A : Type 0} (b : Bool) (u : A) → b ≡ true → is_some (cond b (Some u) None) ≡ true
some_if b u h = ap (λ c. is_some (cond c (Some u) None)) h

some_unless : {A : Type 0} (b : Bool) (u : A) → b ≡ false → is_some (cond b None (Some u)) ≡ true
some_unless b u h = ap (λ c. is_some (cond c None (Some u))) h

four : (a b c e : Bool) → a ≡ false → b ≡ true → c ≡ true → e ≡ true → (not a && b && c && e) ≡ true
four a b c e p q r u = λ i. not (p i) && q i && r i && u i

abbrev holds_all : Xid → List Holder
holds_all x = record { xid = x; mode = Exclusive } ∷ []

first_of : Xid → List Holder → Xid
first_of z [] = z
first_of z (h ∷ hs) = h.xid

one_holder : (y x : Xid) → holds_all y ≡ holds_all x → y ≡ x
unfolding first_of
one_holder y x h = ap (first_of y) h

module _ (t : SeenLog) (s : KeySight) (x : Xid) (stands : StandsWith t s)
    (distinct : IsDistinct same (keys_of t.live)) (tidy : IsTidy s) where
  at : (b : BranchState) → state_of s x ≡ b → state_by (found t x) ≡ doubt_of b
  at b is = stands.states x ∙ ap doubt_of is

  -- no key of its writes is of an open branch, while it is not one of them
  shut : (k : List ℕ) → is_some (found t x) ≡ false → names_key (writes_of s.writes x) k ≡ true
      → (b : Bool) → key_open (promises t) k ≡ b → b ≡ false
  shut k off named false e = refl
  shut k off named true e =
      let of = open_key t.live k distinct e in
      let theirs = tidy.held of.branch k
      (ap (λ ws. names_key ws k) (stands.writes of.branch of.opened) ∙ of.named) in
      let one : of.branch ≡ x = one_holder of.branch x (sym theirs ∙ tidy.held x k named) in
      true_is_false (sym (open_some (found t of.branch) of.opened) ∙ ap (λ y. is_some (found t y)) one ∙ off)

  promises_follow : state_of s x ≡ S2 → AreWrites (writes_of s.writes x)
      → length s.tables.branches.branches ≤ 1024
      → is_some (prepared t x (writes_of s.writes x)) ≡ true
  promises_follow is limits few =
      let off = off_by (found t x) (at S2 is) in
      let below = fewer t.live x s.tables.branches.branches distinct off
      (known_work (lookup (same x) s.tables.branches.branches) is)
      (λ y there. known_doubt (found t y) (lookup (same y) s.tables.branches.branches) there
      (stands.states y)) in
      some_if _ _ (four (is_some (found t x)) (nat_lt (length t.live) 1024)
      (keys_once (writes_of s.writes x)) (keys_free (promises t) (writes_of s.writes x)) off
      (grind (arith, nat_tests, below, few)) limits.once
      (free_where (promises t) (writes_of s.writes x)
      (λ k named. shut k off named (key_open (promises t) k) refl)))

  by_entry : (e : BranchRecord) → state_of s x ≡ comes_from e → IsUntold (state_of s x) (known_of s x) e
      → AreWrites (writes_of s.writes x) → length s.tables.branches.branches ≤ 1024
      → is_some (followed t (name_in x).0 (entry_of e (name_in x).1 (writes_of s.writes x))) ≡ true
  by_entry Prepared is n limits few =
      ap (λ y. is_some (prepared t y (writes_of s.writes x))) (name_again x) ∙ promises_follow is limits few
  by_entry Direct is n limits few =
      ap (λ y. is_some (direct t y)) (name_again x) ∙ some_unless _ _ (off_by (found t x) (at S2 is))
  by_entry Committed is n limits few =
      ap (λ y. is_some (settled t y)) (name_again x) ∙ some_if _ _ (open_by (found t x) (at S3 is))
  by_entry RolledBack is n limits few =
      ap (λ y. is_some (settled t y)) (name_again x) ∙ some_if _ _ (open_by (found t x) (at S3 is))
  by_entry HeurCommit is n limits few =
      ap (λ y. is_some (decided t y)) (name_again x) ∙ some_if _ _ (open_by (found t x) (at S3 is))
  by_entry HeurRollback is n limits few =
      ap (λ y. is_some (decided t y)) (name_again x) ∙ some_if _ _ (open_by (found t x) (at S3 is))
  by_entry (Told o) is n limits few =
      ap (λ y. is_some (told t y)) (name_again x) ∙ some_if _ _ (untold_by (found t x) (at S5 is)
      (λ was. true_is_false (sym (stands.told x was) ∙ ap is_some n.1)))
  by_entry Forgot is n limits few =
      ap (λ y. is_some (forgot t y)) (name_again x) ∙ some_if _ _ (decided_by (found t x) (at S5 is))

  -- the record of a branch may follow
  pub follows : (e : BranchRecord) → state_of s x ≡ comes_from e → IsUntold (state_of s x) (known_of s x) e
      → AreWrites (writes_of s.writes x) → length s.tables.branches.branches ≤ 1024
      → is_some (after t (entry_record e x (writes_of s.writes x))) ≡ true
  unfolding after
  follows e is n limits few =
      ap (λ b. is_some (cond (b || is_opened (entry_record e x (writes_of s.writes x)).entry)
      (followed t (name_in x).0 (entry_of e (name_in x).1 (writes_of s.writes x))) None)) stands.opened
      ∙ by_entry e is n limits few
