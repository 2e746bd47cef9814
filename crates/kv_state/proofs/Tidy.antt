-- What keeps a key store tidy.
use Rattle.std.proofs.Common.{◌≡◌, ℕ, Bool, true, false, Option, None, List, [], ◌∷◌, refl, ap, sym, ◌∙◌, arith, rules, inl, inr}
use Rattle.std.specs.Prelude.{MatchBool, is_some}
use Rattle.std.proofs.lemmas.Grind.{common_steps}
use Rattle.xa_tables.specs.declared.states.BranchState.{BranchState}
use Rattle.xa_xid.specs.declared.xid.Xid.{Xid}
use Rattle.xa_assoc.specs.Answers.{TakesTableRow}
use Rattle.log_rules.specs.order.Orders.{names_key}
use Rattle.protocol.specs.declared.records.Write.{Write}
use Rattle.protocol.specs.Records.{same_bytes}
use Rattle.protocol.specs.Plays.{with_write}
use Rattle.key_lists.specs.Tables.{same_key}
use Rattle.kv_store.proofs.Order.{same_is}
use Rattle.key_lists.specs.declared.holders.Holder.{Holder}
use Rattle.key_lists.specs.declared.holders.Mode.{Mode}
use Rattle.key_lists.specs.declared.holders.Mode.TheVariants.{Exclusive, Shared}
use Rattle.key_lists.specs.Holders.{blocked_by, given, holds, same, without}
use Rattle.kv_locks.specs.Locks.{LockTable, ReleasesLocks, TakesKey, holders_of}
use Rattle.key_lists.proofs.Holding.{holds_given, holds_without, same_is as locks_same, without_itself}
use Rattle.kv_store.specs.writes.Writes.{LeavesWrites, SameWrites, WriteTable, writes_of}
use Rattle.kv_store.proofs.writes.Lists.{with_write_names}
use Rattle.kv_calls.specs.declared.turns.CallRow.{CallRow}
use Rattle.xa_branch.specs.Cases.{decision_in}
use Rattle.kv_state.specs.Ends.{TakesTurn, known_behind}
use Rattle.kv_state.specs.Stores.{IsTidy, KeySight, is_decided, is_let_go, state_of}
use Rattle.kv_state.proofs.Moves.{KeepsTest, moves_keep}

-- of each branch that an operator decided it is known how
abbrev pub KnowsEach : KeySight → Type 0
KnowsEach s = (x : Xid) → is_decided (state_of s x) ≡ true → is_some (decision_in s.decisions x) ≡ true

-- where the tables change, and what operators decided
pub tidy_moved : (s s' : KeySight) → IsTidy s → s'.writes ≡ s.writes → s'.locks ≡ s.locks
    → KeepsTest is_let_go s.tables s'.tables
    → KnowsEach s' → IsTidy s'
tidy_moved s s' tidy writes locks keeps knows = record {
  held = λ x k named. ap (λ l. holders_of l k) locks
      ∙ tidy.held x k (ap (λ w. names_key (writes_of w x) k) (sym writes) ∙ named);
  written = λ x gone. ap (λ w. writes_of w x) writes ∙ tidy.written x (keeps x gone);
  free = λ x k gone. ap (λ l. holds (holders_of l k) x) locks ∙ tidy.free x k (keeps x gone);
  decided = knows;
}

-- where the tables alone change
pub tidy_called : (s s' : KeySight) → IsTidy s → s'.writes ≡ s.writes → s'.locks ≡ s.locks
    → s'.decisions ≡ s.decisions
    → KeepsTest is_let_go s.tables s'.tables → KeepsTest is_decided s.tables s'.tables → IsTidy s'
tidy_called s s' tidy writes locks decisions keeps stays =
    tidy_moved s s' tidy writes locks keeps (λ x is. ap (λ t. is_some (decision_in t x)) decisions
    ∙ tidy.decided x (stays x is))

-- A lock that nobody is in the way of.

one_held : (y x : Xid) (m : Mode) → blocked_by (record { xid = y; mode = Exclusive } ∷ [])
    x m ≡ None → same y x ≡ true
one_held y x m none = by_test (same y x) refl
  where
    by_test : (b : Bool) → same y x ≡ b → same y x ≡ true
    by_test true e = e
    by_test false e = absurd (grind (arith, common_steps))

given_own : (y x : Xid) (m : Mode) → same y x ≡ true
    → given (record { xid = y; mode = Exclusive } ∷ []) x m ≡ record { xid = y; mode = Exclusive } ∷ []
given_own y x Exclusive e = ap (λ z. record { xid = z; mode = Exclusive } ∷ []) (sym (locks_same y x e))
given_own y x Shared e = grind (arith, common_steps)

-- a branch's key stays its own
held_took : (s : KeySight) (locks : LockTable) (x : Xid) (k : List ℕ) (m : Mode) → IsTidy s
    → blocked_by (holders_of s.locks k) x m ≡ None → TakesKey s.locks locks x k m
    → (y : Xid) (l : List ℕ) → names_key (writes_of s.writes y) l ≡ true
    → holders_of locks l ≡ record { xid = y; mode = Exclusive } ∷ []
held_took s locks x k m tidy clear took y l named = by_test (same_key k l) refl
  where
    had : holders_of s.locks l ≡ record { xid = y; mode = Exclusive } ∷ []
    had = tidy.held y l named

    by_test : (b : Bool) → same_key k l ≡ b → holders_of locks l ≡ record { xid = y; mode = Exclusive } ∷ []
    by_test true e =
        let one : k ≡ l = search rules in
        let had_here : holders_of s.locks k ≡ record { xid = y; mode = Exclusive } ∷ [] =
        ap (holders_of s.locks) one ∙ had in
        let own : same y x ≡ true = one_held y x m (ap (λ hs. blocked_by hs x m) (sym had_here) ∙ clear) in
        ap (holders_of locks) (sym one) ∙ took.own ∙ ap (λ hs. given hs x m) had_here ∙ given_own y x m own
    by_test false e = took.others l e ∙ had

-- a branch that is let go holds no key that another takes
free_took : (s : KeySight) (locks : LockTable) (x : Xid) (k : List ℕ) (m : Mode) → IsTidy s
    → is_let_go (state_of s x) ≡ false
    → TakesKey s.locks locks x k m
    → (y : Xid) (l : List ℕ) → is_let_go (state_of s y) ≡ true → holds (holders_of locks l) y ≡ false
free_took s locks x k m tidy works took y l gone = by_test (same_key k l) refl
  where
    none : (b : Bool) → holds (given (holders_of s.locks k) x m) y ≡ b
        → holds (given (holders_of s.locks k) x m) y ≡ false
    none false e = e
    none true e = elim (holds_given (holders_of s.locks k) x y m e) [
      | inl before ↦ absurd (let never : true ≡ false = sym before ∙ tidy.free y k gone in cc)
      | inr this ↦ absurd (let never : true ≡ false = sym gone
          ∙ ap (λ z. is_let_go (state_of s z)) (sym (locks_same x y this)) ∙ works in cc)
    ]

    by_test : (b : Bool) → same_key k l ≡ b → holds (holders_of locks l) y ≡ false
    by_test true e =
        let one : k ≡ l = search rules in
        ap (λ j. holds (holders_of locks j) y) (sym one) ∙ ap (λ hs. holds hs y) took.own
        ∙ none (holds (given (holders_of s.locks k) x m) y) refl
    by_test false e = ap (λ hs. holds hs y) (took.others l e) ∙ tidy.free y l gone

pub tidy_read : (s : KeySight) (locks : LockTable) (x : Xid) (k : List ℕ) (m : Mode) → IsTidy s
    → is_let_go (state_of s x) ≡ false
    → blocked_by (holders_of s.locks k) x m ≡ None → TakesKey s.locks locks x k m
    → IsTidy (record s { locks = locks })
tidy_read s locks x k m tidy works clear took = record {
  held = held_took s locks x k m tidy clear took;
  written = tidy.written;
  free = free_took s locks x k m tidy works took;
  decided = tidy.decided;
}

-- a key that is written is the one of the write, or was written before
named_before : (ws : List Write) (k l : List ℕ) (v : Option (List ℕ)) → names_key (with_write ws k v) l ≡ true
    → same_bytes k l ≡ false → names_key ws l ≡ true
named_before ws k l v named other = by_test (names_key ws l) refl
  where
    by_test : (b : Bool) → names_key ws l ≡ b → names_key ws l ≡ true
    by_test true e = e
    by_test false e = absurd (let never : true ≡ false = sym named ∙ with_write_names ws k l v e other in cc)

pub tidy_wrote : (s : KeySight) (writes : WriteTable) (locks : LockTable) (x : Xid) (k : List ℕ)
    (v : Option (List ℕ)) → IsTidy s
    → is_let_go (state_of s x) ≡ false → blocked_by (holders_of s.locks k) x Exclusive ≡ None
    → TakesKey s.locks locks x k Exclusive → LeavesWrites s.writes writes x
    (with_write (writes_of s.writes x) k v)
    → IsTidy (record s { writes = writes; locks = locks })
tidy_wrote s writes locks x k v tidy works clear took left = record {
  held = λ y l named. held y l named (same x y) refl;
  written = λ y gone. written y gone (same x y) refl;
  free = free_took s locks x k Exclusive tidy works took;
  decided = tidy.decided;
}
  where
    own_key : (l : List ℕ) → names_key (with_write (writes_of s.writes x) k v) l ≡ true
        → (b : Bool) → same_bytes k l ≡ b
        → holders_of locks l ≡ record { xid = x; mode = Exclusive } ∷ []
    own_key l named true e = ap (holders_of locks) (sym (same_is k l e)) ∙ took.own
    own_key l named false e = held_took s locks x k Exclusive tidy clear took x l
        (named_before (writes_of s.writes x) k l v named e)

    held : (y : Xid) (l : List ℕ) → names_key (writes_of writes y) l ≡ true → (b : Bool) → same x y ≡ b
        → holders_of locks l ≡ record { xid = y; mode = Exclusive } ∷ []
    held y l named true e =
        let one : x ≡ y = locks_same x y e in
        let mine : names_key (with_write (writes_of s.writes x) k v) l ≡ true = ap (λ ws. names_key ws l)
        (sym left.own) ∙ ap (λ z. names_key (writes_of writes z) l) one ∙ named in
        own_key l mine (same_bytes k l) refl ∙ ap (λ z. record { xid = z; mode = Exclusive } ∷ []) one
    held y l named false e = held_took s locks x k Exclusive tidy clear took y l
        (ap (λ ws. names_key ws l) (sym (left.others y e)) ∙ named)

    written : (y : Xid) → is_let_go (state_of s y) ≡ true → (b : Bool)
        → same x y ≡ b → writes_of writes y ≡ []
    written y gone true e =
        let one : x ≡ y = locks_same x y e in
        absurd (let never : true ≡ false = sym gone
        ∙ ap (λ z. is_let_go (state_of s z)) (sym one) ∙ works in cc)
    written y gone false e = left.others y e ∙ tidy.written y gone

-- room was made for the writes before
pub left_behind : (t u v : WriteTable) (x : Xid) (k : List ℕ) (w : Option (List ℕ)) → SameWrites t u
    → LeavesWrites u v x (with_write (writes_of u x) k w)
    → LeavesWrites t v x (with_write (writes_of t x) k w)
left_behind t u v x k w stays left = record {
  own = left.own ∙ ap (λ ws. with_write ws k w) (stays x);
  others = λ y apart. left.others y apart ∙ stays y;
}

-- A branch takes its turn.

without_other : (y x : Xid) → same y x ≡ false
    → without (record { xid = y; mode = Exclusive } ∷ []) x ≡ record { xid = y; mode = Exclusive } ∷ []
without_other y x other = grind (arith, common_steps)

still_free : (hs : List Holder) (x y : Xid) → holds hs y ≡ false → holds (without hs x) y ≡ false
still_free hs x y none = by_test (holds (without hs x) y) refl
  where
    by_test : (b : Bool) → holds (without hs x) y ≡ b → holds (without hs x) y ≡ false
    by_test false e = e
    by_test true e = absurd (let never : true ≡ false = sym (holds_without hs x y e) ∙ none in cc)

other_way : (x y : Xid) → same x y ≡ false → same y x ≡ false
other_way x y apart = by_test (same y x) refl
  where
    by_test : (b : Bool) → same y x ≡ b → same y x ≡ false
    by_test false e = e
    by_test true e =
        let one : y ≡ x = locks_same y x e in
        absurd (let never : true ≡ false = sym
        (ap (λ z. same z y) (sym one) ∙ ap (same y) one ∙ e) ∙ apart in cc)

tidy_ended : (s s' : KeySight) (x : Xid) (to : BranchState) → IsTidy s → TakesTableRow s.tables s'.tables x to
    → LeavesWrites s.writes s'.writes x [] → ReleasesLocks s.locks s'.locks x → KnowsEach s' → IsTidy s'
unfolding names_key
tidy_ended s s' x to tidy row left released knows = record {
  held = λ y l named. held y l named (same x y) refl;
  written = λ y gone. written y gone (same x y) refl;
  free = λ y l gone. ap (λ hs. holds hs y) (released.each l) ∙ free y l gone (same x y) refl;
  decided = knows;
}
  where
    held : (y : Xid) (l : List ℕ) → names_key (writes_of s'.writes y) l ≡ true → (b : Bool) → same x y ≡ b
        → holders_of s'.locks l ≡ record { xid = y; mode = Exclusive } ∷ []
    held y l named true e =
        let nothing : writes_of s'.writes y ≡ [] =
        ap (writes_of s'.writes) (sym (locks_same x y e)) ∙ left.own in
        absurd (let never : true ≡ false = sym named ∙ ap (λ ws. names_key ws l) nothing in cc)
    held y l named false e =
        released.each l ∙ ap (λ hs. without hs x)
        (tidy.held y l (ap (λ ws. names_key ws l) (sym (left.others y e)) ∙ named))
        ∙ without_other y x (other_way x y e)

    before : (y : Xid) → is_let_go (state_of s' y) ≡ true → same x y ≡ false → is_let_go (state_of s y) ≡ true
    before y gone e = ap is_let_go (sym (row.branch.others y e)) ∙ gone

    written : (y : Xid) → is_let_go (state_of s' y) ≡ true → (b : Bool) → same x y ≡ b
        → writes_of s'.writes y ≡ []
    written y gone true e = ap (writes_of s'.writes) (sym (locks_same x y e)) ∙ left.own
    written y gone false e = left.others y e ∙ tidy.written y (before y gone e)

    free : (y : Xid) (l : List ℕ) → is_let_go (state_of s' y) ≡ true → (b : Bool) → same x y ≡ b
        → holds (without (holders_of s.locks l) x) y ≡ false
    free y l gone true e = ap (holds (without (holders_of s.locks l) x)) (sym (locks_same x y e))
        ∙ without_itself (holders_of s.locks l) x
    free y l gone false e = still_free (holders_of s.locks l) x y (tidy.free y l (before y gone e))

-- a branch that took a turn leaves the store tidy, where it is known how an operator decided it
pub tidy_turned : (s s' : KeySight) (x : Xid) (turn : CallRow) → IsTidy s → TakesTurn s s' x turn
    → (is_decided turn.to ≡ true → is_some (known_behind turn.entry (decision_in s.decisions x)) ≡ true)
    → IsTidy s'
tidy_turned s s' x turn tidy took known = by_end (is_let_go turn.to) refl took.keeps
  where
    decided : (y : Xid) → is_decided (state_of s' y) ≡ true → (b : Bool) → same x y ≡ b
        → is_some (decision_in s'.decisions y) ≡ true
    decided y is true e =
        let one : x ≡ y = locks_same x y e in
        ap (λ z. is_some (decision_in s'.decisions z)) (sym one) ∙ ap is_some took.decisions.own
        ∙ known (ap is_decided (sym took.tables.branch.own) ∙ ap (λ z. is_decided (state_of s' z)) one ∙ is)
    decided y is false e =
        ap is_some (took.decisions.others y e)
        ∙ tidy.decided y (ap is_decided (sym (took.tables.branch.others y e)) ∙ is)

    by_end : (b : Bool) → is_let_go turn.to ≡ b
        → MatchBool b (LeavesWrites s.writes s'.writes x [] × ReleasesLocks s.locks s'.locks x)
        ((s'.writes ≡ s.writes) × (s'.locks ≡ s.locks))
        → IsTidy s'
    by_end true e h = tidy_ended s s' x turn.to tidy took.tables h.0 h.1
        (λ y is. decided y is (same x y) refl)
    by_end false e h =
        tidy_moved s s' tidy h.0 h.1 (moves_keep is_let_go s.tables s'.tables x turn.to e took.tables.branch)
        (λ y is. decided y is (same x y) refl)
