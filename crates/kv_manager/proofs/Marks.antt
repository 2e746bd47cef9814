-- What the records have said of each branch, and the mark that its last record leaves, go together.
use Rattle.std.proofs.Common.{◌≡◌, ◌≤◌, ◌+◌, ◌-◌, ◌^◌, arith, ℕ, Bool, true, false, not, ◌&&◌, ◌||◌, cond, List, [], ◌∷◌, Option, Some, None, map, fold, refl, sym, ap, subst, ◌∙◌, is_some, nat_lt, length}
use Rattle.std.proofs.lemmas.Bool.Decides.{nat_tests}
use Rattle.std.specs.List.{IsDistinct}
use Rattle.std.specs.Map.{keys_of}
use Rattle.xa_tables.specs.declared.states.BranchState.{BranchState}
use Rattle.xa_tables.specs.declared.states.BranchState.TheVariants.{S0, S3}
use Rattle.xa_assoc.specs.Restored.{state_left}
use Rattle.xa_xid.specs.declared.xid.Xid.{Xid}
use Rattle.protocol.specs.declared.names.ProcessId.{ProcessId}
use Rattle.protocol.specs.declared.records.BranchName.TheVariants.{Foreign}
use Rattle.protocol_words.specs.Variants.{BaseRecord, CaseBranch, PairRecord, ToldRecord}
use Rattle.protocol.specs.declared.records.LogRecord.{LogRecord}
use Rattle.protocol.specs.declared.records.Record.{Record}
use Rattle.protocol.specs.declared.records.Record.TheVariants.{Opened, Collecting, Prepare, Commit, Abort, End, Prepared, Committed, RolledBack, Direct, HeurCommit, HeurRollback, Forgot, Cleared}
use Rattle.protocol.specs.LogNames.{name_xid, renamed_by, by_xid}
use Rattle.protocol.specs.Records.{boot_after, boot_of, record_branch, same_branch, same_xid, is_opened}
use Rattle.protocol.specs.Standings.{Mark, Unmarked, Promised, Decided as DecidedMark, ToldOf, Finished, mark_after, mark_of, mark_at}
use Rattle.protocol.specs.Store.{Data, no_data, stored, stored_after, writes_of, data_of}
use Rattle.log_text.proofs.NameReading.{same_xid_is, same_xid_refl}
use Rattle.log_rules.specs.declared.order.seen.DoubtMark.TheVariants.{Open, Decided, Told}
use Rattle.log_rules.specs.declared.order.seen.Promise.{Promise}
use Rattle.log_rules.specs.order.Orders.{SeenLog, after, boot_rises, followed, found, is_heuristic, is_open, is_untold, is_within, keys_free, keys_once, nothing_seen, opens, promised, promised_by, promises, rises, same, with_promise, without_promise}
use Rattle.kv_state.specs.Replays.{seen_after, seen_of}
use Rattle.kv_state.proofs.Lawful.{IsLawful, lawful_after, lawful_of, never_seen}
use Rattle.kv_state.proofs.Lookups.{found_out, found_put, same_is, same_itself, true_is_false}
use Rattle.resource_manager.specs.Restarting.{marked_state, marked_writes, next_boot as boot_behind, writes_left}
use Rattle.kv_manager.specs.Restarts.{next_boot}

-- Tests of names.

same_turns : (a b : Xid) → same a b ≡ same b a
same_turns a b = by_test (same b a) refl
  where
    by_test : (t : Bool) → same b a ≡ t → same a b ≡ t
    by_test true e = ap (same a) (same_is b a e) ∙ same_itself a
    by_test false e = other (same a b) refl
      where
        other : (t : Bool) → same a b ≡ t → t ≡ false
        other false f = refl
        other true f = true_is_false (sym (same_itself b) ∙ ap (same b) (sym (same_is a b f)) ∙ e)

pub branch_same : (k x : Xid) → same_branch (Foreign k) (Foreign x) ≡ same k x
unfolding same_branch
branch_same k x = by_test (same k x) refl
  where
    by_test : (t : Bool) → same k x ≡ t → same_xid k x ≡ t
    by_test true e = ap (same_xid k) (sym (same_is k x e)) ∙ same_xid_refl k
    by_test false e = other (same_xid k x) refl
      where
        other : (t : Bool) → same_xid k x ≡ t → t ≡ false
        other false f = refl
        other true f = true_is_false (sym (same_itself k) ∙ ap (same k) (same_xid_is k x f) ∙ e)

taken : {A : Type 0} (b : Bool) (u t : A) → cond b (Some u) None ≡ Some t → (b ≡ true) × (u ≡ t)
taken true u t h = (refl, cc)
taken false u t h = absurd (cc)

refused : {A : Type 0} (b : Bool) (u t : A) → cond b None (Some u) ≡ Some t → (b ≡ false) × (u ≡ t)
refused false u t h = (refl, cc)
refused true u t h = absurd (cc)

some_is : {A : Type 0} (a b : A) → Some a ≡ Some b → a ≡ b
some_is a b h = cc

-- The tie.

-- the state in which a restart finds a branch
abbrev pub state_by : Option Promise → BranchState
state_by None = S0
state_by (Some p) = state_left (not (opens p.mark))

-- the boot that was seen last, or 0
abbrev pub boot_is : Option ℕ → ℕ
boot_is None = 0
boot_is (Some n) = n

-- each branch is in the state of its mark, and the boot is this one
pub record Agrees (s : SeenLog) (m : Xid → Mark) (boot : ℕ) : Type 0 where
  pub states : (x : Xid) → state_by (found s x) ≡ marked_state (m x)
  pub last : boot_is s.boot ≡ boot

agrees_stays : (s t : SeenLog) (m : Xid → Mark) (n k : ℕ) → t.live ≡ s.live → boot_is t.boot ≡ k
    → Agrees s m n → Agrees t m k
agrees_stays s t m n k live boot a =
    record {
      states = λ x. subst (λ (es : List (Xid × Promise)). state_by (found (record t { live = es }) x)
          ≡ marked_state (m x)) (sym live) (a.states x);
      last = boot;
    }

-- the marks after a record of one branch
abbrev set_at : Xid → Mark → (Xid → Mark) → Xid → Mark
set_at k v m x = cond (same_branch (Foreign k) (Foreign x)) v (m x)

agrees_put : (s : SeenLog) (m : Xid → Mark) (n : ℕ) (k : Xid) (p : Promise) (v : Mark)
    → state_by (Some p) ≡ marked_state v → Agrees s m n
    → Agrees (with_promise s k p) (set_at k v m) n
agrees_put s m n k p v is a = record {
  states = λ x. ap state_by (found_put k x p s.live) ∙ by_test x (same x k)
      ∙ ap (λ t. marked_state (cond t v (m x))) (same_turns x k ∙ sym (branch_same k x));
  last = a.last;
}
  where
    by_test : (x : Xid) (t : Bool) → state_by (cond t (Some p) (found s x)) ≡ marked_state (cond t v (m x))
    by_test x true = is
    by_test x false = a.states x

agrees_out : (s : SeenLog) (m : Xid → Mark) (n : ℕ) (k : Xid) (v : Mark) → IsDistinct same (keys_of s.live)
    → marked_state v ≡ S0 → Agrees s m n
    → Agrees (without_promise s k) (set_at k v m) n
agrees_out s m n k v distinct is a = record {
  states = λ x. ap state_by (found_out k x s.live distinct) ∙ by_test x (same k x)
      ∙ ap (λ t. marked_state (cond t v (m x))) (sym (branch_same k x));
  last = a.last;
}
  where
    by_test : (x : Xid) (t : Bool) → state_by (cond t None (found s x)) ≡ marked_state (cond t v (m x))
    by_test x true = sym is
    by_test x false = a.states x

-- a branch that is not known is marked as finished
agrees_off : (s : SeenLog) (m : Xid → Mark) (n : ℕ) (k : Xid) → is_some (found s k) ≡ false → Agrees s m n
    → Agrees s (set_at k Finished m) n
agrees_off s m n k off a = record {
  states = λ x. by_test x (same k x) refl
      ∙ ap (λ t. marked_state (cond t Finished (m x))) (sym (branch_same k x));
  last = a.last;
}
  where
    none : (o : Option Promise) → is_some o ≡ false → state_by o ≡ S0
    none None e = refl
    none (Some p) e = absurd (cc)

    by_test : (x : Xid) (t : Bool) → same k x ≡ t
        → state_by (found s x) ≡ marked_state (cond t Finished (m x))
    by_test x true e = none (found s x) (ap (λ y. is_some (found s y)) (sym (same_is k x e)) ∙ off)
    by_test x false e = a.states x

-- One record more.

-- the marks after a record
abbrev next_marks : Option ProcessId → Record → (Xid → Mark) → Xid → Mark
next_marks q r m x = mark_after (Foreign x) (m x) (renamed_by q (record_branch r) r)

module _ (s t : SeenLog) (m : Xid → Mark) (n : ℕ) (q : Option ProcessId)
    (distinct : IsDistinct same (keys_of s.live)) (a : Agrees s m n) where
  by_record : (r : Record) → followed s q r ≡ Some t → Agrees t (next_marks q r m) (boot_after n r)
  by_record (Opened b) h =
      let is = (taken (boot_rises s.boot b) _ t h).1 in
      agrees_stays s t m n b (ap (λ u. u.live) (sym is)) (ap (λ u. boot_is u.boot) (sym is)) a
  by_record (Collecting c ts) h =
      let is = (taken (is_within s (name_xid q (CaseBranch c)) 0 0) _ t h).1 in
      agrees_stays s t m n n (ap (λ u. u.live) (sym is)) (ap (λ u. boot_is u.boot) (sym is) ∙ a.last) a
  by_record (Prepare c ts) h =
      let is = (taken (is_within s (name_xid q (CaseBranch c)) 0 1) _ t h).1 in
      agrees_stays s t m n n (ap (λ u. u.live) (sym is)) (ap (λ u. boot_is u.boot) (sym is) ∙ a.last) a
  by_record (Commit c ts) h =
      let is = (taken (is_within s (name_xid q (CaseBranch c)) 0 2) _ t h).1 in
      agrees_stays s t m n n (ap (λ u. u.live) (sym is)) (ap (λ u. boot_is u.boot) (sym is) ∙ a.last) a
  by_record (Abort c ts) h =
      let is = (taken (is_within s (name_xid q (CaseBranch c)) 0 2) _ t h).1 in
      agrees_stays s t m n n (ap (λ u. u.live) (sym is)) (ap (λ u. boot_is u.boot) (sym is) ∙ a.last) a
  by_record (End c None) h =
      let is = (taken (is_within s (name_xid q (CaseBranch c)) 0 3) _ t h).1 in
      agrees_stays s t m n n (ap (λ u. u.live) (sym is)) (ap (λ u. boot_is u.boot) (sym is) ∙ a.last) a
  by_record (End c (Some r)) h =
      let is = (taken (is_within s (name_xid q (CaseBranch c)) 0 3) _ t h).1 in
      agrees_stays s t m n n (ap (λ u. u.live) (sym is)) (ap (λ u. boot_is u.boot) (sym is) ∙ a.last) a
  by_record (Cleared c) h =
      let is = (taken (is_within s (name_xid q (CaseBranch c)) 5 5) _ t h).1 in
      agrees_stays s t m n n (ap (λ u. u.live) (sym is)) (ap (λ u. boot_is u.boot) (sym is) ∙ a.last) a
  by_record (Prepared b ws) h =
      let k = name_xid q b in
      let is = (taken (not (is_some (found s k)) && nat_lt (length s.live) 1024 && keys_once ws
      && keys_free (promises s) ws) _ t h).1 in
      subst (λ u. Agrees u (next_marks q (Prepared b ws) m) n) is
      (agrees_put s m n k (record { mark = Open; writes = ws }) Promised refl a)
  by_record (Committed b) h =
      let k = name_xid q b in
      let is = (taken (is_open (found s k)) _ t h).1 in
      subst (λ u. Agrees u (next_marks q (Committed b) m) n) is (agrees_out s m n k Finished distinct refl a)
  by_record (RolledBack b) h =
      let k = name_xid q b in
      let is = (taken (is_open (found s k)) _ t h).1 in
      subst (λ u. Agrees u (next_marks q (RolledBack b) m) n) is (agrees_out s m n k Finished distinct refl a)
  by_record (Direct b ws) h =
      let k = name_xid q b in
      let made = refused (is_some (found s k)) _ t h in
      agrees_stays s t (set_at k Finished m) n n (ap (λ u. u.live) (sym made.1))
      (ap (λ u. boot_is u.boot) (sym made.1) ∙ a.last)
      (agrees_off s m n k made.0 a)
  by_record (HeurCommit b) h =
      let k = name_xid q b in
      let is = (taken (is_open (found s k)) _ t h).1 in
      subst (λ u. Agrees u (next_marks q (HeurCommit b) m) n) is
      (agrees_put s m n k (record { mark = Decided; writes = [] }) DecidedMark refl a)
  by_record (HeurRollback b) h =
      let k = name_xid q b in
      let is = (taken (is_open (found s k)) _ t h).1 in
      subst (λ u. Agrees u (next_marks q (HeurRollback b) m) n) is
      (agrees_put s m n k (record { mark = Decided; writes = [] }) DecidedMark refl a)
  by_record (ToldRecord b o) h =
      let k = name_xid q b in
      let is = (taken (is_untold (found s k)) _ t h).1 in
      subst (λ u. Agrees u (next_marks q (ToldRecord b o) m) n) is
      (agrees_put s m n k (record { mark = Told; writes = [] }) (ToldOf o) refl a)
  by_record (Forgot b) h =
      let k = name_xid q b in
      let is = (taken (is_heuristic (found s k)) _ t h).1 in
      subst (λ u. Agrees u (next_marks q (Forgot b) m) n) is (agrees_out s m n k Finished distinct refl a)
  by_record (BaseRecord c) h =
      let is = some_is _ t h in
      agrees_stays s t m n n (ap (λ u. u.live) (sym is)) (ap (λ u. boot_is u.boot) (sym is) ∙ a.last) a
  by_record (PairRecord k v) h =
      let is = (taken (rises s.before k) _ t h).1 in
      agrees_stays s t m n n (ap (λ u. u.live) (sym is)) (ap (λ u. boot_is u.boot) (sym is) ∙ a.last) a

agrees_after : (s t : SeenLog) (m : Xid → Mark) (n : ℕ) (l : LogRecord) → IsDistinct same (keys_of s.live)
    → Agrees s m n → after s l ≡ Some t
    → Agrees t (next_marks l.parent l.entry m) (boot_after n l.entry)
unfolding after
agrees_after s t m n l distinct a h = by_test (is_some s.boot) (is_opened l.entry) h
  where
    by_test : (b c : Bool) → cond (b || c) (followed s l.parent l.entry) None ≡ Some t
        → Agrees t (next_marks l.parent l.entry m) (boot_after n l.entry)
    by_test true c h = by_record s t m n l.parent distinct a l.entry h
    by_test false true h = by_record s t m n l.parent distinct a l.entry h
    by_test false false h = absurd (cc)

agrees_from : (ls : List LogRecord) (s t : SeenLog) (d : Data) (m : Xid → Mark) (n : ℕ)
    → IsLawful s d → Agrees s m n
    → seen_after (Some s) ls ≡ Some t
    → Agrees t (λ x. fold (mark_after (Foreign x)) (m x) (map by_xid ls))
    (fold boot_after n (map (λ l. l.entry) ls))
unfolding seen_after
agrees_from [] s t d m n l a h = subst (λ u. Agrees u m n) (some_is s t h) a
agrees_from (r ∷ ls) s t d m n l a h = by_after (after s r) refl h (λ u e g. agrees_from ls u t
    (stored_after d (by_xid r)) (next_marks r.parent r.entry m) (boot_after n r.entry) e g)
  where
    by_after : (o : Option SeenLog) → after s r ≡ o → seen_after o ls ≡ Some t
        → ((u : SeenLog) → IsLawful u (stored_after d (by_xid r))
        → Agrees u (next_marks r.parent r.entry m) (boot_after n r.entry)
        → seen_after (Some u) ls ≡ Some t
        → Agrees t (λ x. fold (mark_after (Foreign x)) (next_marks r.parent r.entry m x) (map by_xid ls))
        (fold boot_after (boot_after n r.entry) (map (λ l. l.entry) ls)))
        → Agrees t (λ x. fold (mark_after (Foreign x)) (next_marks r.parent r.entry m x) (map by_xid ls))
        (fold boot_after (boot_after n r.entry) (map (λ l. l.entry) ls))
    by_after None e g more = absurd (never_seen ls t g)
    by_after (Some u) e g more = more u (lawful_after s u r d l e)
        (agrees_after s u m n r l.orderly.distinct a e) g

-- nothing was seen of an empty log
nothing : IsLawful nothing_seen no_data → Agrees nothing_seen (λ x. Unmarked) 0
nothing l = record { states = λ x. refl; last = refl }

seen_nothing : seen_of [] ≡ Some nothing_seen
unfolding seen_after
seen_nothing = refl

lawful_nothing : IsLawful nothing_seen no_data
unfolding stored
lawful_nothing = lawful_of [] nothing_seen seen_nothing

-- each branch is in the state that its last record says, and the boot is the last one
pub agrees_of : (ls : List LogRecord) (t : SeenLog) → seen_of ls ≡ Some t
    → Agrees t (mark_at ls) (boot_of (map (λ l. l.entry) ls))
unfolding mark_of boot_of
agrees_of ls t h = agrees_from ls nothing_seen t no_data (λ x. Unmarked) 0
    lawful_nothing (nothing lawful_nothing) h

-- a branch that is prepared promised last
pub prepared_mark : (m : Mark) → marked_state m ≡ S3 → m ≡ Promised
prepared_mark Promised e = refl
prepared_mark Unmarked e = absurd (cc)
prepared_mark DecidedMark e = absurd (cc)
prepared_mark (ToldOf o) e = absurd (cc)
prepared_mark Finished e = absurd (cc)

-- the next boot
pub boot_next : (ls : List LogRecord) (t : SeenLog) (b : ℕ) → seen_of ls ≡ Some t
    → next_boot t.boot ≡ Some b → b ≡ boot_behind ls
boot_next ls t b h is = sym (by_boot t.boot is) ∙ ap (λ n. n + 1) (agrees_of ls t h).last
  where
    by_boot : (o : Option ℕ) → next_boot o ≡ Some b → boot_is o + 1 ≡ b
    by_boot None e = cc
    by_boot (Some n) e = (taken (nat_lt n (2 ^ 63 - 1)) (n + 1) b e).1

-- no boot comes after the last one
pub boot_last : (ls : List LogRecord) (t : SeenLog) → seen_of ls ≡ Some t → next_boot t.boot ≡ None
    → 2 ^ 63 ≤ boot_behind ls
boot_last ls t h spent = subst (λ n. 2 ^ 63 ≤ n + 1) (agrees_of ls t h).last (by_boot t.boot spent)
  where
    by_boot : (o : Option ℕ) → next_boot o ≡ None → 2 ^ 63 ≤ boot_is o + 1
    by_boot None e = absurd (cc)
    by_boot (Some n) e = by_test (nat_lt n (2 ^ 63 - 1)) refl e
      where
        by_test : (b : Bool) → nat_lt n (2 ^ 63 - 1) ≡ b → cond b (Some (n + 1)) None ≡ None → 2 ^ 63 ≤ n + 1
        by_test true is f = absurd (cc)
        by_test false is f = grind (arith, nat_tests, is)

-- what each branch has written
pub writes_as : (ls : List LogRecord) (t : SeenLog) (x : Xid) → seen_of ls ≡ Some t
    → promised t x ≡ writes_left ls x
writes_as ls t x h =
    by_found (found t x) (mark_at ls x) ((agrees_of ls t h).states x) ((lawful_of ls t h).tied.tied x)
  where
    by_mark : (p : Promise) (b : Bool) (v : Mark) → state_left (not b) ≡ marked_state v
        → (b ≡ true → writes_of (Foreign x) (data_of ls).promised ≡ cond b p.writes [])
        → cond b p.writes [] ≡ marked_writes v (writes_of (Foreign x) (data_of ls).promised)
    by_mark p true Unmarked e tied = absurd (cc)
    by_mark p true Promised e tied = sym (tied refl)
    by_mark p true DecidedMark e tied = absurd (cc)
    by_mark p true (ToldOf o) e tied = absurd (cc)
    by_mark p true Finished e tied = absurd (cc)
    by_mark p false Unmarked e tied = refl
    by_mark p false Promised e tied = absurd (cc)
    by_mark p false DecidedMark e tied = refl
    by_mark p false (ToldOf o) e tied = refl
    by_mark p false Finished e tied = refl

    none : (v : Mark) → S0 ≡ marked_state v → []
        ≡ marked_writes v (writes_of (Foreign x) (data_of ls).promised)
    none Unmarked e = refl
    none Promised e = absurd (cc)
    none DecidedMark e = refl
    none (ToldOf o) e = refl
    none Finished e = refl

    by_found : (o : Option Promise) (v : Mark) → state_by o ≡ marked_state v
        → (is_open o ≡ true → writes_of (Foreign x) (data_of ls).promised ≡ promised_by o)
        → promised_by o ≡ marked_writes v (writes_of (Foreign x) (data_of ls).promised)
    by_found None v e tied = none v e
    by_found (Some p) v e tied = by_mark p (opens p.mark) v e tied
