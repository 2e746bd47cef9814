-- What the records have said and the fold over them go together, record by record.
use Rattle.std.proofs.Common.{◌≡◌, ℕ, Bool, true, false, not, ◌&&◌, ◌||◌, cond, List, [], ◌∷◌, Option, Some, None, map, fold, refl, sym, ap, subst, ◌∙◌, is_some, nat_lt, length}
use Rattle.std.specs.List.{IsDistinct}
use Rattle.std.specs.Map.{lookup}
use Rattle.xa_xid.specs.declared.xid.Xid.{Xid}
use Rattle.protocol.specs.declared.names.ProcessId.{ProcessId}
use Rattle.protocol.specs.declared.records.BranchName.{BranchName}
use Rattle.protocol.specs.declared.records.BranchName.TheVariants.{Foreign}
use Rattle.protocol_words.specs.Variants.{BaseRecord, CaseBranch, PairRecord, ToldRecord}
use Rattle.protocol.specs.declared.records.LogRecord.{LogRecord}
use Rattle.protocol.specs.declared.records.Record.{Record}
use Rattle.protocol.specs.declared.records.Record.TheVariants.{Opened, Collecting, Prepare, Commit, Abort, End, Prepared, Committed, RolledBack, Direct, HeurCommit, HeurRollback, Forgot, Cleared}
use Rattle.protocol.specs.declared.records.Write.{Write}
use Rattle.protocol.specs.LogNames.{name_xid, renamed_by, by_xid}
use Rattle.protocol.specs.Records.{record_branch, same_branch, same_xid, is_opened}
use Rattle.protocol.specs.Store.{Data, applied, commits, no_data, stored, stored_after, writes_of, data_of}
use Rattle.log_text.proofs.NameReading.{same_xid_is, same_xid_refl}
use Rattle.log_rules.specs.declared.order.seen.DoubtMark.{DoubtMark}
use Rattle.log_rules.specs.declared.order.seen.DoubtMark.TheVariants.{Open, Decided, Told}
use Rattle.log_rules.specs.declared.order.seen.Promise.{Promise}
use Rattle.log_rules.specs.order.Orders.{SeenLog, after, boot_rises, followed, found, is_heuristic, is_open, is_untold, is_within, keys_free, keys_once, names_key, nothing_seen, opens, promised, promised_by, promises, rises, same, with_promise, without_promise}
use Rattle.kv_store.specs.Pairs.{keys_rise}
use Rattle.kv_store.specs.Versions.{pair_write}
use Rattle.kv_store.proofs.Pairs.{writes_pairs}
use Rattle.kv_state.specs.Replays.{IsOrderly, IsTied, seen_after, seen_of}
use Rattle.kv_state.proofs.Lookups.{found_out, found_put, same_is, same_itself, true_is_false}
use Rattle.kv_state.proofs.Orderly.{apart_where_free, orderly_mark, orderly_out, orderly_put, orderly_stays}

-- what the records have said is orderly, and the fold has its promises
pub record IsLawful (s : SeenLog) (d : Data) : Type 0 where
  pub orderly : IsOrderly s
  pub tied : IsTied s d

-- A row of the order lets a record in.

taken : {A : Type 0} (b : Bool) (u t : A) → cond b (Some u) None ≡ Some t → (b ≡ true) × (u ≡ t)
taken true u t h = (refl, cc)
taken false u t h = absurd (cc)

refused : {A : Type 0} (b : Bool) (u t : A) → cond b None (Some u) ≡ Some t → (b ≡ false) × (u ≡ t)
refused false u t h = (refl, cc)
refused true u t h = absurd (cc)

some_is : {A : Type 0} (a b : A) → Some a ≡ Some b → a ≡ b
some_is a b h = cc

-- No branch changes.

lawful_stays : (s t : SeenLog) (d e : Data) → t.live ≡ s.live → e.promised ≡ d.promised
    → keys_rise e.pairs ≡ true
    → IsLawful s d → IsLawful t e
lawful_stays s t d e live fold rise l = record {
  orderly = orderly_stays s t live l.orderly;
  tied = record {
    rise = rise;
    tied = λ x. subst (λ es. is_open (lookup (same x) es) ≡ true
        → writes_of (Foreign x) e.promised ≡ promised_by (lookup (same x) es)) (sym live)
        (subst (λ ps. is_open (found s x) ≡ true → writes_of (Foreign x) ps ≡ promised s x) (sym fold)
        (l.tied.tied x));
  };
}

-- A branch is gone.

tied_out : (s : SeenLog) (x : Xid) (d e : Data) → e.promised ≡ d.promised → keys_rise e.pairs ≡ true
    → IsLawful s d → IsLawful (without_promise s x) e
tied_out s x d e fold rise l = record {
  orderly = orderly_out s x l.orderly;
  tied = record {
    rise = rise;
    tied = λ y. subst (λ q. is_open q ≡ true → writes_of (Foreign y) e.promised ≡ promised_by q)
        (sym (found_out x y s.live l.orderly.distinct))
        (subst (λ ps. is_open (cond (same x y) None (found s y)) ≡ true
        → writes_of (Foreign y) ps ≡ promised_by (cond (same x y) None (found s y))) (sym fold)
        (tied_by y (same x y)));
  };
}
  where
    tied_by : (y : Xid) (b : Bool) → is_open (cond b None (found s y)) ≡ true
        → writes_of (Foreign y) d.promised ≡ promised_by (cond b None (found s y))
    tied_by y true is_so = true_is_false (sym is_so)
    tied_by y false is_so = l.tied.tied y is_so

-- A branch is open no longer.

tied_mark : (s : SeenLog) (x : Xid) (m : DoubtMark) (d e : Data) → opens m ≡ false → e.promised ≡ d.promised
    → keys_rise e.pairs ≡ true → IsLawful s d → IsLawful
    (with_promise s x (record { mark = m; writes = [] })) e
tied_mark s x m d e closed fold rise l = record {
  orderly = orderly_mark s x m closed l.orderly;
  tied = record {
    rise = rise;
    tied = λ y. subst (λ q. is_open q ≡ true → writes_of (Foreign y) e.promised ≡ promised_by q)
        (sym (found_put x y p s.live))
        (subst (λ ps. is_open (cond (same y x) (Some p) (found s y)) ≡ true
        → writes_of (Foreign y) ps ≡ promised_by (cond (same y x) (Some p) (found s y))) (sym fold)
        (tied_by y (same y x)));
  };
}
  where
    p : Promise
    p = record { mark = m; writes = [] }

    tied_by : (y : Xid) (b : Bool) → is_open (cond b (Some p) (found s y)) ≡ true
        → writes_of (Foreign y) d.promised ≡ promised_by (cond b (Some p) (found s y))
    tied_by y true is_so = true_is_false (sym is_so ∙ closed)
    tied_by y false is_so = l.tied.tied y is_so

-- A branch promises.

one_branch : (x y : Xid) → same y x ≡ true → same_branch (Foreign x) (Foreign y) ≡ true
unfolding same_branch
one_branch x y h = ap (same_xid x) (same_is y x h) ∙ same_xid_refl x

two_branches : (x y : Xid) → same y x ≡ false → same_branch (Foreign x) (Foreign y) ≡ false
unfolding same_branch
two_branches x y h = by_test (same_xid x y) refl
  where
    by_test : (b : Bool) → same_xid x y ≡ b → b ≡ false
    by_test false e = refl
    by_test true e = true_is_false (sym (same_itself y) ∙ ap (same y) (sym (same_xid_is x y e)) ∙ h)

promised_first : (x y : Xid) (ws : List Write) (ps : List (BranchName × List Write)) (b : Bool)
    → same_branch (Foreign x) (Foreign y) ≡ b
    → writes_of (Foreign y) ((Foreign x, ws) ∷ ps) ≡ cond b ws (writes_of (Foreign y) ps)
unfolding writes_of
promised_first x y ws ps b e = ap (λ t. cond t ws (writes_of (Foreign y) ps)) e

lawful_promise : (s : SeenLog) (x : Xid) (ws : List Write) (d : Data) → keys_once ws ≡ true
    → keys_free (promises s) ws ≡ true → IsLawful s d
    → IsLawful (with_promise s x (record { mark = Open; writes = ws }))
    (record d { promised = (Foreign x, ws) ∷ d.promised })
lawful_promise s x ws d once free l = record {
  orderly = orderly_put s x p once (apart_where_free s x ws free) l.orderly;
  tied = record {
    rise = l.tied.rise;
    tied = λ y. subst (λ q. is_open q ≡ true → writes_of (Foreign y)
        ((Foreign x, ws) ∷ d.promised) ≡ promised_by q) (sym (found_put x y p s.live))
        (tied_by y (same y x) refl);
  };
}
  where
    p : Promise
    p = record { mark = Open; writes = ws }

    tied_by : (y : Xid) (b : Bool) → same y x ≡ b → is_open (cond b (Some p) (found s y)) ≡ true
        → writes_of (Foreign y) ((Foreign x, ws) ∷ d.promised) ≡ promised_by
        (cond b (Some p) (found s y))
    tied_by y true e is_so = promised_first x y ws d.promised true (one_branch x y e)
    tied_by y false e is_so = promised_first x y ws d.promised false (two_branches x y e)
        ∙ l.tied.tied y is_so

-- The data.

rise_written : (d : Data) (ws : List Write) → keys_rise d.pairs ≡ true → keys_rise (applied ws d.pairs) ≡ true
rise_written d ws rise = (writes_pairs d.pairs ws rise).rise

rise_paired : (d : Data) (k v : List ℕ) → keys_rise d.pairs ≡ true
    → keys_rise (applied (pair_write (k, v) ∷ []) d.pairs) ≡ true
rise_paired d k v rise = (writes_pairs d.pairs (pair_write (k, v) ∷ []) rise).rise

rise_nothing : keys_rise [] ≡ true
unfolding keys_rise
rise_nothing = refl

-- One record more.

three : (a b c e : Bool) → (a && b && c && e) ≡ true → (c ≡ true) × (e ≡ true)
three a b true true h = (refl, refl)
three true true true false h = absurd (cc)
three true true false e h = absurd (cc)
three true false c e h = absurd (cc)
three false b c e h = absurd (cc)

pub lawful_followed : (s t : SeenLog) (q : Option ProcessId) (r : Record) (d : Data) → IsLawful s d
    → followed s q r ≡ Some t → IsLawful t (stored_after d (renamed_by q (record_branch r) r))
unfolding applied
lawful_followed s t q (Opened n) d l h =
    let is = (taken (boot_rises s.boot n) _ t h).1 in
    lawful_stays s t d d (ap (λ u. u.live) (sym is)) refl l.tied.rise l
lawful_followed s t q (Collecting c ts) d l h =
    let is = (taken (is_within s (name_xid q (CaseBranch c)) 0 0) _ t h).1 in
    lawful_stays s t d d (ap (λ u. u.live) (sym is)) refl l.tied.rise l
lawful_followed s t q (Prepare c ts) d l h =
    let is = (taken (is_within s (name_xid q (CaseBranch c)) 0 1) _ t h).1 in
    lawful_stays s t d d (ap (λ u. u.live) (sym is)) refl l.tied.rise l
lawful_followed s t q (Commit c ts) d l h =
    let is = (taken (is_within s (name_xid q (CaseBranch c)) 0 2) _ t h).1 in
    lawful_stays s t d d (ap (λ u. u.live) (sym is)) refl l.tied.rise l
lawful_followed s t q (Abort c ts) d l h =
    let is = (taken (is_within s (name_xid q (CaseBranch c)) 0 2) _ t h).1 in
    lawful_stays s t d d (ap (λ u. u.live) (sym is)) refl l.tied.rise l
lawful_followed s t q (End c None) d l h =
    let is = (taken (is_within s (name_xid q (CaseBranch c)) 0 3) _ t h).1 in
    lawful_stays s t d d (ap (λ u. u.live) (sym is)) refl l.tied.rise l
lawful_followed s t q (End c (Some r)) d l h =
    let is = (taken (is_within s (name_xid q (CaseBranch c)) 0 3) _ t h).1 in
    lawful_stays s t d d (ap (λ u. u.live) (sym is)) refl l.tied.rise l
lawful_followed s t q (Cleared c) d l h =
    let is = (taken (is_within s (name_xid q (CaseBranch c)) 5 5) _ t h).1 in
    lawful_stays s t d d (ap (λ u. u.live) (sym is)) refl l.tied.rise l
lawful_followed s t q (Prepared b ws) d l h =
    let x = name_xid q b in
    let made = taken (not (is_some (found s x)) && nat_lt (length s.live) 1024 && keys_once ws && keys_free
    (promises s) ws) _ t h in
    let parts = three (not (is_some (found s x))) (nat_lt (length s.live) 1024) (keys_once ws)
    (keys_free (promises s) ws) made.0 in
    subst (λ u. IsLawful u (record d { promised = (Foreign x, ws) ∷ d.promised })) made.1
    (lawful_promise s x ws d parts.0 parts.1 l)
lawful_followed s t q (Committed b) d l h =
    let x = name_xid q b in
    let ws = writes_of (Foreign x) d.promised in
    subst (λ u. IsLawful u (commits ws d)) (taken (is_open (found s x)) _ t h).1
    (tied_out s x d (commits ws d) refl (rise_written d ws l.tied.rise) l)
lawful_followed s t q (RolledBack b) d l h =
    let x = name_xid q b in
    subst (λ u. IsLawful u d) (taken (is_open (found s x)) _ t h).1 (tied_out s x d d refl l.tied.rise l)
lawful_followed s t q (Direct b ws) d l h =
    let is = (refused (is_some (found s (name_xid q b))) _ t h).1 in
    lawful_stays s t d (commits ws d) (ap (λ u. u.live) (sym is)) refl (rise_written d ws l.tied.rise) l
lawful_followed s t q (HeurCommit b) d l h =
    let x = name_xid q b in
    let ws = writes_of (Foreign x) d.promised in
    subst (λ u. IsLawful u (commits ws d)) (taken (is_open (found s x)) _ t h).1
    (tied_mark s x Decided d (commits ws d) refl refl (rise_written d ws l.tied.rise) l)
lawful_followed s t q (HeurRollback b) d l h =
    let x = name_xid q b in
    subst (λ u. IsLawful u d) (taken (is_open (found s x)) _ t h).1
    (tied_mark s x Decided d d refl refl l.tied.rise l)
lawful_followed s t q (ToldRecord b o) d l h =
    let x = name_xid q b in
    subst (λ u. IsLawful u d) (taken (is_untold (found s x)) _ t h).1
    (tied_mark s x Told d d refl refl l.tied.rise l)
lawful_followed s t q (Forgot b) d l h =
    let x = name_xid q b in
    subst (λ u. IsLawful u d) (taken (is_heuristic (found s x)) _ t h).1 (tied_out s x d d refl l.tied.rise l)
lawful_followed s t q (BaseRecord n) d l h =
    lawful_stays s t d (record d { count = n; pairs = [] })
    (ap (λ u. u.live) (sym (some_is _ t h))) refl rise_nothing l
lawful_followed s t q (PairRecord k v) d l h =
    let is = (taken (rises s.before k) _ t h).1 in
    lawful_stays s t d (stored_after d (PairRecord k v)) (ap (λ u. u.live) (sym is)) refl
    (rise_paired d k v l.tied.rise) l

pub lawful_after : (s t : SeenLog) (l : LogRecord) (d : Data) → IsLawful s d → after s l ≡ Some t
    → IsLawful t (stored_after d (by_xid l))
unfolding after
lawful_after s t l d lawful h = by_test (is_some s.boot) (is_opened l.entry) h
  where
    by_test : (a b : Bool) → cond (a || b) (followed s l.parent l.entry) None ≡ Some t
        → IsLawful t (stored_after d (by_xid l))
    by_test true b h = lawful_followed s t l.parent l.entry d lawful h
    by_test false true h = lawful_followed s t l.parent l.entry d lawful h
    by_test false false h = absurd (cc)

-- after a record that may not follow nothing has been seen
pub never_seen : (ls : List LogRecord) (t : SeenLog) → seen_after None ls ≡ Some t → ⊥
unfolding seen_after
never_seen [] t e = absurd (cc)
never_seen (k ∷ ks) t e = absurd (cc)

lawful_from : (ls : List LogRecord) (s t : SeenLog) (d : Data) → IsLawful s d
    → seen_after (Some s) ls ≡ Some t
    → IsLawful t (fold stored_after d (map by_xid ls))
unfolding seen_after
lawful_from [] s t d l h = subst (λ u. IsLawful u d) (some_is s t h) l
lawful_from (r ∷ ls) s t d l h = by_after (after s r) refl h (λ u e. lawful_from ls u t e)
  where
    by_after : (o : Option SeenLog) → after s r ≡ o → seen_after o ls ≡ Some t
        → ((u : SeenLog) (e : Data) → IsLawful u e → seen_after (Some u) ls ≡ Some t
        → IsLawful t (fold stored_after e (map by_xid ls)))
        → IsLawful t (fold stored_after (stored_after d (by_xid r)) (map by_xid ls))
    by_after None e g more = absurd (never_seen ls t g)
    by_after (Some u) e g more = more u (stored_after d (by_xid r)) (lawful_after s u r d l e) g

lawful_nothing : IsLawful nothing_seen no_data
unfolding IsDistinct keys_once names_key writes_of
lawful_nothing = record {
  orderly = record { distinct = tt; once = λ x. refl; apart = λ x y k other names. refl };
  tied = record { rise = rise_nothing; tied = λ x is_so. true_is_false (sym is_so) };
}

-- where the records may follow one another, what they have said is orderly, and the fold has its promises
pub lawful_of : (ls : List LogRecord) (t : SeenLog) → seen_of ls ≡ Some t → IsLawful t (data_of ls)
unfolding stored
lawful_of ls t h = lawful_from ls nothing_seen t no_data lawful_nothing h
