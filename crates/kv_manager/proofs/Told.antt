-- A branch that an operator decided and that was told, by what was seen, was told by its records.
use Rattle.std.proofs.Common.{◌≡◌, Bool, true, false, not, ◌&&◌, cond, fold, List, [], ◌∷◌, Option, Some, None, map, refl, sym, ap, subst, ◌∙◌, is_some, nat_lt, length}
use Rattle.std.specs.List.{IsDistinct}
use Rattle.std.specs.Map.{keys_of, lookup}
use Rattle.xa_xid.specs.declared.xid.Xid.{Xid}
use Rattle.xa_branch.specs.declared.decision.Decision.{Decision}
use Rattle.xa_branch.specs.Decisions.{decided_as, decision_after, decision_of, decided_in}
use Rattle.protocol.specs.declared.names.Outcome.TheVariants as outcome
use Rattle.protocol.specs.declared.names.ProcessId.{ProcessId}
use Rattle.protocol.specs.declared.records.BranchName.TheVariants.{Foreign}
use Rattle.protocol_words.specs.Variants.{BaseRecord, CaseBranch, PairRecord, ToldRecord}
use Rattle.protocol.specs.declared.records.LogRecord.{LogRecord}
use Rattle.protocol.specs.declared.records.Record.{Record}
use Rattle.protocol.specs.declared.records.Record.TheVariants.{Opened, Collecting, Prepare, Commit, Abort, End, Prepared, Committed, RolledBack, Direct, HeurCommit, HeurRollback, Forgot, Cleared}
use Rattle.protocol.specs.LogNames.{by_xid, name_xid, renamed_by}
use Rattle.protocol.specs.Records.{record_branch, same_branch}
use Rattle.protocol.specs.Store.{Data, data_of, stored_after}
use Rattle.log_rules.specs.declared.order.seen.DoubtMark.{DoubtMark}
use Rattle.log_rules.specs.declared.order.seen.DoubtMark.TheVariants.{Open, Decided, Told}
use Rattle.log_rules.specs.declared.order.seen.Promise.{Promise}
use Rattle.log_rules.specs.order.Orders.{SeenLog, after, boot_rises, followed, found, is_heuristic, is_open, is_untold, is_within, keys_free, keys_once, nothing_seen, promises, rises, same, with_promise, without_promise}
use Rattle.kv_state.specs.Replays.{seen_after, seen_of}
use Rattle.kv_state.proofs.Lawful.{IsLawful, lawful_after, lawful_of, never_seen}
use Rattle.kv_state.proofs.Lookups.{found_out, found_put, same_laws}
use Rattle.kv_manager.proofs.Marks.{branch_same}
use Rattle.kv_manager.proofs.Steps.{followed_by, refused, some_is, taken}

abbrev pub told_mark : DoubtMark → Bool
told_mark Told = true
told_mark _ = false

-- there is a branch that an operator decided, and it was told
abbrev pub is_told : Option Promise → Bool
is_told None = false
is_told (Some p) = told_mark p.mark

-- each branch that was told was told something
abbrev pub AreTold : SeenLog → (Xid → Decision) → Type 0
AreTold s ds = (x : Xid) → is_told (found s x) ≡ true → is_some (ds x).told ≡ true

-- what is known of a branch after a record of one
abbrev set_at : Xid → (Decision → Decision) → (Xid → Decision) → Xid → Decision
set_at k v ds x = cond (same_branch (Foreign k) (Foreign x)) (v (ds x)) (ds x)

told_stays : (s t : SeenLog) (ds : Xid → Decision) → t.live ≡ s.live → AreTold s ds → AreTold t ds
told_stays s t ds live a x h = a x (ap (λ (es : List (Xid × Promise)). is_told (lookup (same x) es))
    (sym live) ∙ h)

same_turns : (a b : Xid) → same a b ≡ same b a
same_turns a b = same_laws.symm a b

told_put : (s : SeenLog) (ds : Xid → Decision) (k : Xid) (p : Promise) (v : Decision → Decision)
    → ((d : Decision) → told_mark p.mark ≡ true → is_some (v d).told ≡ true) → AreTold s ds
    → AreTold (with_promise s k p) (set_at k v ds)
told_put s ds k p v own a x h =
    ap (λ t. is_some (cond t (v (ds x)) (ds x)).told) (branch_same k x ∙ same_turns k x)
    ∙ by_test (same x k) (ap is_told (sym (found_put k x p s.live)) ∙ h)
  where
    by_test : (t : Bool) → is_told (cond t (Some p) (found s x)) ≡ true
        → is_some (cond t (v (ds x)) (ds x)).told ≡ true
    by_test true g = own (ds x) g
    by_test false g = a x g

told_out : (s : SeenLog) (ds : Xid → Decision) (k : Xid) (v : Decision → Decision)
    → IsDistinct same (keys_of s.live) → AreTold s ds → AreTold (without_promise s k) (set_at k v ds)
told_out s ds k v distinct a x h =
    ap (λ t. is_some (cond t (v (ds x)) (ds x)).told) (branch_same k x)
    ∙ by_test (same k x) (ap is_told (sym (found_out k x s.live distinct)) ∙ h)
  where
    by_test : (t : Bool) → is_told (cond t None (found s x)) ≡ true
        → is_some (cond t (v (ds x)) (ds x)).told ≡ true
    by_test true g = absurd (cc)
    by_test false g = a x g

told_gone : (s : SeenLog) (ds : Xid → Decision) (k : Xid)
    → IsDistinct same (keys_of s.live) → AreTold s ds → AreTold (without_promise s k) ds
told_gone s ds k distinct a x h =
    by_test (same k x) (ap is_told (sym (found_out k x s.live distinct)) ∙ h)
  where
    by_test : (t : Bool) → is_told (cond t None (found s x)) ≡ true → is_some (ds x).told ≡ true
    by_test true g = absurd (cc)
    by_test false g = a x g

-- what is known after a record
abbrev next_known : Option ProcessId → Record → (Xid → Decision) → Xid → Decision
next_known q r ds x = decision_after (Foreign x) (ds x) (renamed_by q (record_branch r) r)

live_of : (u t : SeenLog) → u ≡ t → t.live ≡ u.live
live_of u t h = ap (λ (v : SeenLog). v.live) (sym h)

module _ (s t : SeenLog) (ds : Xid → Decision) (q : Option ProcessId)
    (distinct : IsDistinct same (keys_of s.live)) (a : AreTold s ds) where
  by_record : (r : Record) → followed s q r ≡ Some t → AreTold t (next_known q r ds)
  by_record (Opened n) h = told_stays s t ds (live_of _ t (taken (boot_rises s.boot n) _ t h).1) a
  by_record (Collecting c ts) h =
      told_stays s t ds (live_of _ t (taken (is_within s (name_xid q (CaseBranch c)) 0 0) _ t h).1) a
  by_record (Prepare c ts) h =
      told_stays s t ds (live_of _ t (taken (is_within s (name_xid q (CaseBranch c)) 0 1) _ t h).1) a
  by_record (Commit c ts) h =
      told_stays s t ds (live_of _ t (taken (is_within s (name_xid q (CaseBranch c)) 0 2) _ t h).1) a
  by_record (Abort c ts) h =
      told_stays s t ds (live_of _ t (taken (is_within s (name_xid q (CaseBranch c)) 0 2) _ t h).1) a
  by_record (End c None) h =
      told_stays s t ds (live_of _ t (taken (is_within s (name_xid q (CaseBranch c)) 0 3) _ t h).1) a
  by_record (End c (Some r)) h =
      told_stays s t ds (live_of _ t (taken (is_within s (name_xid q (CaseBranch c)) 0 3) _ t h).1) a
  by_record (Cleared c) h =
      told_stays s t ds (live_of _ t (taken (is_within s (name_xid q (CaseBranch c)) 5 5) _ t h).1) a
  by_record (Prepared b ws) h =
      subst (λ u. AreTold u (next_known q (Prepared b ws) ds)) (taken (not (is_some (found s (name_xid q b)))
      && nat_lt (length s.live) 1024 && keys_once ws && keys_free (promises s) ws) _ t h).1
      (told_put s ds (name_xid q b) (record { mark = Open; writes = ws }) (λ d. decided_as outcome.Aborted)
      (λ d g. absurd (cc)) a)
  by_record (Committed b) h =
      subst (λ u. AreTold u ds) (taken (is_open (found s (name_xid q b))) _ t h).1
      (told_gone s ds (name_xid q b) distinct a)
  by_record (RolledBack b) h =
      subst (λ u. AreTold u ds) (taken (is_open (found s (name_xid q b))) _ t h).1
      (told_gone s ds (name_xid q b) distinct a)
  by_record (Direct b ws) h =
      told_stays s t ds (live_of _ t (refused (is_some (found s (name_xid q b))) _ t h).1) a
  by_record (HeurCommit b) h =
      subst (λ u. AreTold u (next_known q (HeurCommit b) ds))
      (taken (is_open (found s (name_xid q b))) _ t h).1
      (told_put s ds (name_xid q b) (record { mark = Decided; writes = [] })
      (λ d. decided_as outcome.Committed)
      (λ d g. absurd (cc)) a)
  by_record (HeurRollback b) h =
      subst (λ u. AreTold u (next_known q (HeurRollback b) ds))
      (taken (is_open (found s (name_xid q b))) _ t h).1
      (told_put s ds (name_xid q b) (record { mark = Decided; writes = [] }) (λ d. decided_as outcome.Aborted)
      (λ d g. absurd (cc)) a)
  by_record (ToldRecord b o) h =
      subst (λ u. AreTold u (next_known q (ToldRecord b o) ds))
      (taken (is_untold (found s (name_xid q b))) _ t h).1
      (told_put s ds (name_xid q b) (record { mark = Told; writes = [] })
      (λ d. record { outcome = d.outcome; told = Some o }) (λ d g. refl) a)
  by_record (Forgot b) h =
      subst (λ u. AreTold u (next_known q (Forgot b) ds))
      (taken (is_heuristic (found s (name_xid q b))) _ t h).1
      (told_out s ds (name_xid q b) (λ d. decided_as outcome.Aborted) distinct a)
  by_record (BaseRecord n) h = told_stays s t ds (live_of _ t (some_is _ t h)) a
  by_record (PairRecord k v) h = told_stays s t ds (live_of _ t (taken (rises s.before k) _ t h).1) a

told_from : (ls : List LogRecord) (s t : SeenLog) (d : Data) (ds : Xid → Decision) → IsLawful s d
    → AreTold s ds → seen_after (Some s) ls ≡ Some t
    → AreTold t (λ x. fold (decision_after (Foreign x)) (ds x) (map by_xid ls))
unfolding seen_after
told_from [] s t d ds l a h = subst (λ u. AreTold u ds) (some_is s t h) a
told_from (r ∷ ls) s t d ds l a h = by_after (after s r) refl h (λ u e g. told_from ls u t
    (stored_after d (by_xid r)) (next_known r.parent r.entry ds) e g)
  where
    by_after : (o : Option SeenLog) → after s r ≡ o → seen_after o ls ≡ Some t
        → ((u : SeenLog) → IsLawful u (stored_after d (by_xid r)) → AreTold u (next_known r.parent r.entry ds)
        → seen_after (Some u) ls ≡ Some t
        → AreTold t (λ x. fold (decision_after (Foreign x)) (next_known r.parent r.entry ds x)
        (map by_xid ls)))
        → AreTold t (λ x. fold (decision_after (Foreign x)) (next_known r.parent r.entry ds x)
        (map by_xid ls))
    by_after None e g more = absurd (never_seen ls t g)
    by_after (Some u) e g more = more u (lawful_after s u r d l e)
        (by_record s u ds r.parent l.orderly.distinct a r.entry (followed_by s u r e).1) g

seen_nothing : seen_of [] ≡ Some nothing_seen
unfolding seen_after
seen_nothing = refl

lawful_nothing : IsLawful nothing_seen (data_of [])
lawful_nothing = lawful_of [] nothing_seen seen_nothing

-- a branch that was told, by what was seen, was told by its records
pub told_of : (ls : List LogRecord) (t : SeenLog) → seen_of ls ≡ Some t
    → (x : Xid) → is_told (found t x) ≡ true → is_some (decided_in ls x).told ≡ true
unfolding decision_of
told_of ls t h = told_from ls nothing_seen t (data_of []) (λ x. decided_as outcome.Aborted) lawful_nothing
    (λ x g. absurd (cc)) h
