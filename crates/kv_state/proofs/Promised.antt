-- What a trim keeps of the promises of a manager's branches, and of their marks.
use Rattle.std.proofs.Common.{◌≡◌, ◌∙◌, Bool, true, false, not, ◌&&◌, ◌||◌, cond, Option, Some, None, List, [], ◌∷◌, map, fold, refl, sym, ap}
use Rattle.std.specs.Prelude.{option_map}
use Rattle.std.specs.List.{AllByRecursion, list_any}
use Rattle.xa_xid.specs.declared.xid.Xid.{Xid}
use Rattle.protocol.specs.declared.names.ProcessId.{ProcessId}
use Rattle.protocol.specs.declared.records.BranchName.{BranchName}
use Rattle.protocol.specs.declared.records.BranchName.TheVariants.{Foreign}
use Rattle.protocol_words.specs.Variants.{CaseBranch}
use Rattle.protocol.specs.declared.records.LogRecord.{LogRecord}
use Rattle.protocol.specs.declared.records.Record.{Record}
use Rattle.protocol.specs.declared.records.Record.TheVariants.{Opened, Collecting, Prepare, Commit, Abort, End, Prepared, Committed, RolledBack, Direct, HeurCommit, HeurRollback, Told, Forgot, Base, Pair, Cleared}
use Rattle.protocol.specs.declared.records.Write.{Write}
use Rattle.protocol.specs.LogNames.{name_by, name_xid, by_xid}
use Rattle.protocol.specs.Records.{branch_case, record_branch, record_case, same_branch, same_xid}
use Rattle.protocol.specs.Restarts.{is_open}
use Rattle.protocol.specs.Standings.{Decided, Finished, Mark, Promised, ToldOf, Unmarked, mark_after, mark_of, mark_at}
use Rattle.protocol.specs.Store.{Data, stored_after, writes_of}
use Rattle.log_text.proofs.NameReading.{same_xid_is, same_xid_refl}
use Rattle.log_rules.specs.declared.trim.lives.Said.{Said}
use Rattle.log_rules.specs.declared.trim.lives.Said.TheVariants.{Nothing, Over, Waits}
use Rattle.log_rules.specs.trim.Tables.{is_live, is_prepared, log_name, said_after, same}
use Rattle.log_rules.specs.trim.Trims.{is_name, is_of, prepares, said_behind, said_of, staying, stays, stays_by}
use Rattle.kv_state.proofs.Lookups.{same_is, same_itself, true_is_false}
use Rattle.kv_state.specs.Keeping.{is_managers}

-- Names.

pub branch_same : (k x : Xid) → same_branch (Foreign k) (Foreign x) ≡ same x k
unfolding same_branch
branch_same k x = by_test (same x k) refl
  where
    by_test : (t : Bool) → same x k ≡ t → same_xid k x ≡ t
    by_test true e = ap (same_xid k) (same_is x k e) ∙ same_xid_refl k
    by_test false e = other (same_xid k x) refl
      where
        other : (t : Bool) → same_xid k x ≡ t → t ≡ false
        other false f = refl
        other true f = true_is_false (sym (same_itself x) ∙ ap (same x) (sym (same_xid_is k x f)) ∙ e)

-- the name of a record of a branch
named : (r : BranchName → Record) (q : Option ProcessId) (b : BranchName)
    → ((c : BranchName) → record_case (r c) ≡ branch_case c)
    → ((c : BranchName) → record_branch (r c) ≡ Some c)
    → log_name (record { entry = r b; parent = q }) ≡ Some (name_xid q b)
named r q (CaseBranch d) case branch = ap (λ o. option_map (name_xid q)
    (name_by o (record_branch (r (CaseBranch d))))) (case (CaseBranch d))
named r q (Foreign y) case branch =
    ap (λ o. option_map (name_xid q) (name_by o (record_branch (r (Foreign y))))) (case (Foreign y))
    ∙ ap (option_map (name_xid q)) (branch (Foreign y))

-- What is said, and the mark.

abbrev said_so : Mark → Said
said_so Unmarked = Nothing
said_so Promised = Waits
said_so Decided = Waits
said_so (ToldOf o) = Waits
said_so Finished = Over

live_is_open : (m : Mark) → is_live (said_so m) ≡ is_open m
live_is_open Unmarked = refl
live_is_open Promised = refl
live_is_open Decided = refl
live_is_open (ToldOf o) = refl
live_is_open Finished = refl

-- one record of a manager's log, as it is read by XIDs: what it says of a branch, which mark it sets where
-- it is of the branch, and what it makes of its promise
pub record One (x : Xid) (l : LogRecord) : Type 0 where
  pub sets_mark : Mark
  pub marks : (m : Mark) → mark_after (Foreign x) m (by_xid l) ≡ cond (is_of x l) sets_mark m
  pub says : (m : Mark) → said_behind x (said_so m) l ≡ said_so (mark_after (Foreign x) m (by_xid l))
  pub promises : (d : Data) → prepares x l ≡ false
      → writes_of (Foreign x) (stored_after d (by_xid l)).promised ≡ writes_of (Foreign x) d.promised
  pub sets : (d e : Data) → prepares x l ≡ true
      → writes_of (Foreign x) (stored_after d (by_xid l)).promised
      ≡ writes_of (Foreign x) (stored_after e (by_xid l)).promised

marked : (t u : Bool) (v m : Mark) (s : Said) → t ≡ u → said_so v ≡ s
    → cond t s (said_so m) ≡ said_so (cond u v m)
marked t true v m s e f = ap (λ b. cond b s (said_so m)) e ∙ sym f
marked t false v m s e f = ap (λ b. cond b s (said_so m)) e

module _ (x : Xid) where
  pub of_name : (q : Option ProcessId) (r : BranchName → Record) (b : BranchName)
      → ((c : BranchName) → record_case (r c) ≡ branch_case c)
      → ((c : BranchName) → record_branch (r c) ≡ Some c)
      → is_of x (record { entry = r b; parent = q }) ≡ same x (name_xid q b)
  of_name q r b case branch = ap (is_name x) (named r q b case branch)

  -- a record that is no promise
  one_mark : (q : Option ProcessId) (r : BranchName → Record) (b : BranchName) (v : Mark) (s : Said)
      → ((c : BranchName) → record_case (r c) ≡ branch_case c)
      → ((c : BranchName) → record_branch (r c) ≡ Some c)
      → by_xid (record { entry = r b; parent = q }) ≡ r (Foreign (name_xid q b))
      → ((c : BranchName) (m : Mark) → mark_after (Foreign x) m (r c) ≡ cond (same_branch c (Foreign x)) v m)
      → ((m : Mark) → said_after (said_so m) (r b) ≡ s) → said_so v ≡ s → is_prepared (r b) ≡ false
      → ((d : Data) (c : BranchName) → (stored_after d (r c)).promised ≡ d.promised)
      → One x (record { entry = r b; parent = q })
  one_mark q r b v s case branch read mark said is plain keeps = record {
    sets_mark = v;
    marks = λ m. ap (mark_after (Foreign x) m) read ∙ mark (Foreign (name_xid q b)) m
        ∙ ap (λ t. cond t v m) (branch_same (name_xid q b) x ∙ sym (of_name q r b case branch));
    says = λ m. ap (λ z. cond (is_of x (record { entry = r b; parent = q })) z (said_so m)) (said m)
        ∙ marked (is_of x (record { entry = r b; parent = q }))
        (same_branch (Foreign (name_xid q b)) (Foreign x)) v m s
        (of_name q r b case branch ∙ sym (branch_same (name_xid q b) x)) is
        ∙ ap said_so (sym (mark (Foreign (name_xid q b)) m))
        ∙ ap (λ k. said_so (mark_after (Foreign x) m k)) (sym read);
    promises = λ d none. ap (λ k. writes_of (Foreign x) (stored_after d k).promised) read
        ∙ ap (writes_of (Foreign x)) (keeps d (Foreign (name_xid q b)));
    sets = λ d e some. true_is_false (sym some
        ∙ both (is_of x (record { entry = r b; parent = q })) (is_prepared (r b)) plain);
  }
    where
      both : (s t : Bool) → t ≡ false → (s && t) ≡ false
      both true t h = h
      both false t h = refl

  -- a promise
  one_promise : (q : Option ProcessId) (b : BranchName) (ws : List Write)
      → One x (record { entry = Prepared b ws; parent = q })
  unfolding writes_of
  one_promise q b ws =
      let t : is_of x (record { entry = Prepared b ws; parent = q })
      ≡ same_branch (Foreign (name_xid q b)) (Foreign x) =
      of_name q (λ c. Prepared c ws) b (λ c. refl) (λ c. refl) ∙ sym (branch_same (name_xid q b) x) in
      record {
        sets_mark = Promised;
        marks = λ m. ap (λ k. cond k Promised m) (sym t);
        says = λ m. marked (is_of x (record { entry = Prepared b ws; parent = q }))
            (same_branch (Foreign (name_xid q b)) (Foreign x)) Promised m Waits t refl;
        promises = λ d none. ap (λ k. cond k ws (writes_of (Foreign x) d.promised))
            (sym t ∙ only (is_of x (record { entry = Prepared b ws; parent = q })) none);
        sets = λ d e some. ap (λ k. cond k ws (writes_of (Foreign x) d.promised))
            (sym t ∙ first (is_of x (record { entry = Prepared b ws; parent = q })) some)
            ∙ sym (ap (λ k. cond k ws (writes_of (Foreign x) e.promised))
            (sym t ∙ first (is_of x (record { entry = Prepared b ws; parent = q })) some));
      }
    where
      only : (s : Bool) → (s && true) ≡ false → s ≡ false
      only false h = refl
      only true h = absurd (cc)

      first : (s : Bool) → (s && true) ≡ true → s ≡ true
      first true h = refl
      first false h = absurd (cc)

  -- a record of no branch
  one_plain : (q : Option ProcessId) (r : Record) → log_name (record { entry = r; parent = q }) ≡ None
      → by_xid (record { entry = r; parent = q }) ≡ r → ((m : Mark) → mark_after (Foreign x) m r ≡ m)
      → ((d : Data) → (stored_after d r).promised ≡ d.promised) → One x (record { entry = r; parent = q })
  one_plain q r none read mark keeps = record {
    sets_mark = Unmarked;
    marks = λ m. ap (mark_after (Foreign x) m) read ∙ mark m
        ∙ ap (λ o. cond (is_name x o) Unmarked m) (sym none);
    says = λ m. ap (λ o. cond (is_name x o) (said_after (said_so m) r) (said_so m)) none
        ∙ ap said_so (sym (mark m)) ∙ ap (λ k. said_so (mark_after (Foreign x) m k)) (sym read);
    promises = λ d no. ap (λ k. writes_of (Foreign x) (stored_after d k).promised) read
        ∙ ap (writes_of (Foreign x)) (keeps d);
    sets = λ d e some. true_is_false (sym some ∙ ap (λ o. is_name x o && is_prepared r) none);
  }

  pub one : (r : Record) (q : Option ProcessId) → is_managers r ≡ true
      → One x (record { entry = r; parent = q })
  one (Opened n) q h = one_plain q (Opened n) refl refl (λ m. refl) (λ d. refl)
  one (Base n) q h = one_plain q (Base n) refl refl (λ m. refl) (λ d. refl)
  one (Pair k v) q h = one_plain q (Pair k v) refl refl (λ m. refl) (λ d. refl)
  one (Prepared b ws) q h = one_promise q b ws
  one (Committed b) q h = one_mark q Committed b Finished Over (λ c. refl) (λ c. refl) refl (λ c m. refl)
      (λ m. refl) refl refl (λ d c. refl)
  one (RolledBack b) q h = one_mark q RolledBack b Finished Over (λ c. refl) (λ c. refl) refl (λ c m. refl)
      (λ m. refl) refl refl (λ d c. refl)
  one (Direct b ws) q h = one_mark q (λ c. Direct c ws) b Finished Over (λ c. refl) (λ c. refl) refl
      (λ c m. refl) (λ m. refl) refl refl (λ d c. refl)
  one (HeurCommit b) q h = one_mark q HeurCommit b Decided Waits (λ c. refl) (λ c. refl) refl (λ c m. refl)
      (λ m. refl) refl refl (λ d c. refl)
  one (HeurRollback b) q h = one_mark q HeurRollback b Decided Waits (λ c. refl) (λ c. refl) refl
      (λ c m. refl) (λ m. refl) refl refl (λ d c. refl)
  one (Told b o) q h = one_mark q (λ c. Told c o) b (ToldOf o) Waits (λ c. refl) (λ c. refl) refl
      (λ c m. refl) (λ m. refl) refl refl (λ d c. refl)
  one (Forgot b) q h = one_mark q Forgot b Finished Over (λ c. refl) (λ c. refl) refl (λ c m. refl)
      (λ m. refl) refl refl (λ d c. refl)
  one (Collecting c ts) q h = absurd (cc)
  one (Prepare c ts) q h = absurd (cc)
  one (Commit c ts) q h = absurd (cc)
  one (Abort c ts) q h = absurd (cc)
  one (End c rep) q h = absurd (cc)
  one (Cleared c) q h = absurd (cc)

  -- the records of a log

  says_from : (ls : List LogRecord) (m : Mark) → AllByRecursion (λ l. is_managers l.entry ≡ true) ls
      → fold (said_behind x) (said_so m) ls ≡ said_so (fold (mark_after (Foreign x)) m (map by_xid ls))
  says_from [] m h = refl
  says_from (l ∷ ls) m h =
      ap (λ s. fold (said_behind x) s ls) ((one l.entry l.parent h.0).says m)
      ∙ says_from ls (mark_after (Foreign x) m (by_xid l)) h.1

  -- a branch is live where it is open
  pub lives : (ls : List LogRecord) → AllByRecursion (λ l. is_managers l.entry ≡ true) ls
      → is_live (said_of x ls) ≡ is_open (mark_at ls x)
  unfolding said_of mark_of
  lives ls h = ap is_live (says_from ls Unmarked h) ∙ live_is_open (mark_of (Foreign x) (map by_xid ls))

  pub live : (ls : List LogRecord) → AllByRecursion (λ l. is_managers l.entry ≡ true) ls
      → is_open (mark_at ls x) ≡ true → is_live (said_of x ls) ≡ true
  live ls h stands = lives ls h ∙ stands

  -- the data after more records
  abbrev pub data_from : Data → List LogRecord → Data
  data_from d ls = fold stored_after d (map by_xid ls)

  abbrev pub promise_in : Data → List Write
  promise_in d = writes_of (Foreign x) d.promised

  -- one of the records is a promise of the branch
  abbrev is_prepared_in : List LogRecord → Bool
  is_prepared_in ls = list_any (prepares x) ls

  both_true : (s t : Bool) → (s && t) ≡ true → (s ≡ true) × (t ≡ true)
  both_true true true h = (refl, refl)
  both_true true false h = absurd (cc)
  both_true false t h = absurd (cc)

  neither : (s t : Bool) → (s || t) ≡ false → (s ≡ false) × (t ≡ false)
  neither false false h = (refl, refl)
  neither false true h = absurd (cc)
  neither true t h = absurd (cc)

  module _ (ls : List LogRecord) (stands : is_live (said_of x ls) ≡ true) where
    -- the last promise stays
    last_stays : (l : LogRecord) (behind : List LogRecord) → prepares x l ≡ true
        → is_prepared_in behind ≡ false → stays ls behind l ≡ true
    last_stays l behind of last = by_name (log_name l) of
      where
        by_name : (o : Option Xid) → (is_name x o && is_prepared l.entry) ≡ true → stays_by ls behind o ≡ true
        by_name None f = absurd (cc)
        by_name (Some y) f =
            let is : x ≡ y = same_is x y (both_true (same x y) (is_prepared l.entry) f).0 in
            ap (λ z. is_live (said_of z ls) && not (list_any (prepares z) behind)) (sym is)
            ∙ ap (λ b. b && not (list_any (prepares x) behind)) stands ∙ ap not last

    -- what one record makes of two data, where none after it is a promise of the branch
    both_take : (l : LogRecord) (d e : Data) → is_managers l.entry ≡ true
        → (prepares x l ≡ false → promise_in d ≡ promise_in e)
        → promise_in (stored_after d (by_xid l)) ≡ promise_in (stored_after e (by_xid l))
    both_take l d e h same = by_test (prepares x l) refl
      where
        by_test : (t : Bool) → prepares x l ≡ t
            → promise_in (stored_after d (by_xid l)) ≡ promise_in (stored_after e (by_xid l))
        by_test true f = (one l.entry l.parent h).sets d e f
        by_test false f = (one l.entry l.parent h).promises d f ∙ same f
            ∙ sym ((one l.entry l.parent h).promises e f)

    one_takes : (l : LogRecord) (behind : List LogRecord) (d e : Data)
        → is_managers l.entry ≡ true → stays ls behind l ≡ false
        → is_prepared_in behind ≡ false → (prepares x l ≡ false → promise_in d ≡ promise_in e)
        → promise_in d ≡ promise_in (stored_after e (by_xid l))
    one_takes l behind d e h gone last same = by_test (prepares x l) refl
      where
        by_test : (t : Bool) → prepares x l ≡ t → promise_in d ≡ promise_in (stored_after e (by_xid l))
        by_test true f = true_is_false (sym (last_stays l behind f last) ∙ gone)
        by_test false f = same f ∙ sym ((one l.entry l.parent h).promises e f)

    pub kept_from : (rest : List LogRecord) → AllByRecursion
        (λ l. is_managers l.entry ≡ true) rest → (d e : Data)
        → (is_prepared_in rest ≡ false → promise_in d ≡ promise_in e)
        → promise_in (data_from d (staying ls rest)) ≡ promise_in (data_from e rest)
    unfolding staying
    kept_from [] h d e same = same refl
    kept_from (l ∷ rest) h d e same = by_stay (stays ls rest l) refl (kept_from rest h.1)
      where
        by_stay : (t : Bool) → stays ls rest l ≡ t
            → ((d e : Data) → (is_prepared_in rest ≡ false → promise_in d ≡ promise_in e)
            → promise_in (data_from d (staying ls rest)) ≡ promise_in (data_from e rest))
            → promise_in (data_from d (cond t (l ∷ staying ls rest) (staying ls rest)))
            ≡ promise_in (data_from (stored_after e (by_xid l)) rest)
        by_stay true f more =
            more (stored_after d (by_xid l)) (stored_after e (by_xid l))
            (λ none. both_take l d e h.0 (λ g. same (ap (λ b. b || is_prepared_in rest) g ∙ none)))
        by_stay false f more =
            more d (stored_after e (by_xid l))
            (λ none. one_takes l rest d e h.0 f none
            (λ g. same (ap (λ b. b || is_prepared_in rest) g ∙ none)))

    -- The mark.

    abbrev marks_in : Mark → List LogRecord → Mark
    marks_in m ls = fold (mark_after (Foreign x)) m (map by_xid ls)

    -- one of the records is of the branch
    abbrev is_named_in : List LogRecord → Bool
    is_named_in ls = list_any (is_of x) ls

    none_prepared : (behind : List LogRecord) → is_named_in behind ≡ false → is_prepared_in behind ≡ false
    none_prepared [] h = refl
    none_prepared (l ∷ behind) h =
        let parts = neither (is_of x l) (is_named_in behind) h in
        ap (λ b. (b && is_prepared l.entry) || is_prepared_in behind) parts.0 ∙ none_prepared behind parts.1

    -- the last record of the branch stays
    last_of_stays : (l : LogRecord) (behind : List LogRecord) → is_of x l ≡ true
        → is_named_in behind ≡ false → stays ls behind l ≡ true
    last_of_stays l behind of last = by_name (log_name l) of
      where
        by_name : (o : Option Xid) → is_name x o ≡ true → stays_by ls behind o ≡ true
        by_name None f = absurd (cc)
        by_name (Some y) f =
            ap (λ z. is_live (said_of z ls) && not (list_any (prepares z) behind)) (sym (same_is x y f))
            ∙ ap (λ b. b && not (list_any (prepares x) behind)) stands ∙ ap not (none_prepared behind last)

    -- the marks after one record of two, which are one if no record is of the branch
    both_marked : (l : LogRecord) (m n : Mark) → is_managers l.entry ≡ true → (is_of x l ≡ false → m ≡ n)
        → mark_after (Foreign x) m (by_xid l) ≡ mark_after (Foreign x) n (by_xid l)
    both_marked l m n h same = (one l.entry l.parent h).marks m ∙ by_test (is_of x l) refl
        ∙ sym ((one l.entry l.parent h).marks n)
      where
        by_test : (t : Bool) → is_of x l ≡ t
            → cond (is_of x l) (one l.entry l.parent h).sets_mark m
            ≡ cond (is_of x l) (one l.entry l.parent h).sets_mark n
        by_test true f = ap (λ t. cond t (one l.entry l.parent h).sets_mark m) f
            ∙ sym (ap (λ t. cond t (one l.entry l.parent h).sets_mark n) f)
        by_test false f = ap (λ t. cond t (one l.entry l.parent h).sets_mark m) f ∙ same f
            ∙ sym (ap (λ t. cond t (one l.entry l.parent h).sets_mark n) f)

    one_marked : (l : LogRecord) (behind : List LogRecord) (m n : Mark)
        → is_managers l.entry ≡ true → stays ls behind l ≡ false
        → is_named_in behind ≡ false → (is_of x l ≡ false → m ≡ n) → m ≡ mark_after (Foreign x) n (by_xid l)
    one_marked l behind m n h gone last same = by_test (is_of x l) refl
      where
        by_test : (t : Bool) → is_of x l ≡ t → m ≡ mark_after (Foreign x) n (by_xid l)
        by_test true f = true_is_false (sym (last_of_stays l behind f last) ∙ gone)
        by_test false f = same f ∙ sym ((one l.entry l.parent h).marks n
            ∙ ap (λ t. cond t (one l.entry l.parent h).sets_mark n) f)

    pub marks_from : (rest : List LogRecord) → AllByRecursion
        (λ l. is_managers l.entry ≡ true) rest → (m n : Mark)
        → (is_named_in rest ≡ false → m ≡ n) → marks_in m (staying ls rest) ≡ marks_in n rest
    unfolding staying
    marks_from [] h m n same = same refl
    marks_from (l ∷ rest) h m n same = by_stay (stays ls rest l) refl (marks_from rest h.1)
      where
        by_stay : (t : Bool) → stays ls rest l ≡ t
            → ((m n : Mark) → (is_named_in rest ≡ false → m ≡ n)
            → marks_in m (staying ls rest) ≡ marks_in n rest)
            → marks_in m (cond t (l ∷ staying ls rest) (staying ls rest))
            ≡ marks_in (mark_after (Foreign x) n (by_xid l)) rest
        by_stay true f more =
            more (mark_after (Foreign x) m (by_xid l)) (mark_after (Foreign x) n (by_xid l))
            (λ none. both_marked l m n h.0 (λ g. same (ap (λ b. b || is_named_in rest) g ∙ none)))
        by_stay false f more =
            more m (mark_after (Foreign x) n (by_xid l))
            (λ none. one_marked l rest m n h.0 f none (λ g. same (ap (λ b. b || is_named_in rest) g ∙ none)))
