-- What one record more leaves.
use Rattle.std.proofs.Common.{◌≡◌, ◌∙◌, ◌≤◌, ℕ, Bool, true, false, cond, Option, Some, None, List, [], ◌∷◌, ◌++◌, refl, sym, ap, subst, arith}
use Rattle.std.proofs.lemmas.Grind.{common_steps, fold-append}
use Rattle.std.specs.List.{AllByRecursion}
use Rattle.protocol.specs.declared.names.Case.{Case}
use Rattle.protocol.specs.declared.names.Outcome.{Outcome}
use Rattle.protocol.specs.declared.names.ProcessId.{ProcessId}
use Rattle.protocol.specs.declared.records.BranchName.{BranchName}
use Rattle.protocol.specs.declared.records.BranchName.TheVariants.{Foreign}
use Rattle.protocol_words.specs.Variants.{AbortedOutcome, CaseBranch, CommittedOutcome, PreparedRecord}
use Rattle.protocol.specs.declared.records.LogRecord.{LogRecord}
use Rattle.protocol.specs.declared.records.Record.{Record}
use Rattle.protocol.specs.declared.records.Record.TheVariants.{Opened, Collecting, Prepare, Commit, Abort, End, Committed, RolledBack, Direct, HeurCommit, HeurRollback, Told, Forgot, Base, Pair, Cleared}
use Rattle.protocol.specs.declared.trees.TreeProcess.{TreeProcess}
use Rattle.protocol.specs.LogNames.{is_own, name_xid, own_records, same_parent}
use Rattle.protocol.specs.Names.{same_case}
use Rattle.protocol.proofs.NameTests.{case_tells, process_tells}
use Rattle.protocol.specs.Nodes.{Place}
use Rattle.protocol.specs.Records.{boot_after, boot_of, cases_in, decision_after as case_decision_after, decision_of as case_decision, is_branch, same_branch, with_case, with_record}
use Rattle.xa_branch.specs.declared.decision.Decision.{Decision}
use Rattle.xa_branch.specs.Decisions.{decided_as, decision_after, decision_of}
use Rattle.protocol.specs.Standings.{Decided, Finished, Mark, Promised, ToldOf, Unmarked, mark_after, mark_of}
use Rattle.case_table.specs.Tables.{live_value}
use Rattle.sub_branches.specs.declared.branch.LiveBranch.{LiveBranch}
use Rattle.sub_branches.specs.declared.branch.BranchStage.TheVariants.{Heuristic, Prepared}
use Rattle.sub_branches.specs.Tables.{branch_in, ticket_in}
use Rattle.sub_branches.specs.declared.cases.ReplayedCases.{ReplayedCases}
use Rattle.sub_branches.specs.Rebuilt.{DecidesBy, DecidesCase, FinishesCase, EndsBy, IsGivenBy, IsGivenWhere, IsOwn, IsReached, RecordsLeave, NameReads, Promises, PromisesBy, ReachesBy, ReadsBack, Recalls, RecallsCase, ReadsRecord, branch_left, fits_told, kept_at, own_case, saying_of}
use Rattle.protocol.specs.Views.{leaf_place}
use Rattle.sub_branches.proofs.Reading.{FitsTold, IsDecidedMark, MayFollow, One, is_it, one_base, one_committed, one_committed_so, one_direct, one_forgot, one_opened, one_pair, one_prepared, one_rolled_back, one_rolled_back_so, one_told, own_append}

one : (c d : Case) → same_case c d ≡ true → c ≡ d
one c d e = (case_tells c d).0 e

some_same : {A : Type 0} (a b : A) → Some a ≡ Some b → a ≡ b
some_same a b e = cc

all_more : {A : Type 0} (P : A → Type 0) (xs : List A) (x : A) → AllByRecursion P xs → P x
    → AllByRecursion P (xs ++ x ∷ [])
all_more P [] x all own = (own, tt)
all_more P (y ∷ ys) x all own = (all.0, all_more P ys x all.1 own)

-- the others, and the last
all_but_last : {A : Type 0} (P : A → Type 0) (xs : List A) (x : A) → AllByRecursion P (xs ++ x ∷ [])
    → AllByRecursion P xs × P x
all_but_last P [] x all = (tt, all.0)
all_but_last P (y ∷ ys) x all = let rest = all_but_last P ys x all.1 in ((all.0, rest.0), rest.1)

-- a boot that is reached later is at least as high
given_later : (m n : ℕ) (o : Option Case) → m ≤ n → IsGivenWhere m o → IsGivenWhere n o
given_later m n None le h = tt
given_later m n (Some c) le h =
    record { ticket = h.ticket; has = h.has; within = let w = h.within in omega (arith, w, le) }

reached_one : (place : Place) (m n : ℕ) (q : Option ProcessId) (r : Record) → m ≤ n
    → ReachesBy place m q (saying_of r) → ReachesBy place n q (saying_of r)
reached_one place m n q (PreparedRecord b ws) le h = given_later m n (own_case place q b) le h
reached_one place m n q _ le h = tt

pub reached_later : (place : Place) (m n : ℕ) (ls : List LogRecord) → m ≤ n
    → AllByRecursion (IsReached place m) ls → AllByRecursion (IsReached place n) ls
reached_later place m n [] le h = tt
reached_later place m n (l ∷ ls) le h =
    (reached_one place m n l.parent l.entry le h.0, reached_later place m n ls le h.1)

not_above : (a b n : ℕ) → b ≡ a → a ≤ n → b ≤ n
not_above a b n is h = subst (λ k. k ≤ n) (sym is) h

no_lower : (a b : ℕ) → b ≡ a → a ≤ b
no_lower a b is = subst (λ k. a ≤ k) (sym is) (omega arith)

-- Lists with one record more.

mark_more : (b : BranchName) (rs : List Record) (r : Record)
    → mark_of b (rs ++ r ∷ []) ≡ mark_after b (mark_of b rs) r
unfolding mark_of
mark_more b rs r = fold-append _ _ rs (r ∷ [])

boot_more : (rs : List Record) (r : Record) → boot_of (rs ++ r ∷ []) ≡ boot_after (boot_of rs) r
unfolding boot_of
boot_more rs r = fold-append _ _ rs (r ∷ [])

cases_more : (rs : List Record) (r : Record) → cases_in (rs ++ r ∷ []) ≡ with_record (cases_in rs) r
unfolding cases_in
cases_more rs r = fold-append _ _ rs (r ∷ [])

-- What an operator decided.

recalls_if : (t u : Bool) → t ≡ u → (m n : Mark) (o k : Option Outcome) (d e : Decision) → Recalls m o d
    → Recalls n k e → Recalls (cond t m n) (cond u o k) (cond t d e)
recalls_if true u is m n o k d e h g = subst (λ w. Recalls m (cond w o k) d) is h
recalls_if false u is m n o k d e h g = subst (λ w. Recalls n (cond w o k) e) is g

-- a record that says nothing of a decision leaves a mark after which nothing is known of it
recalls_quiet : (t : Bool) (m n : Mark) (o : Option Outcome) (d : Decision) → Recalls m o d → Recalls n o d
    → Recalls (cond t m n) o d
recalls_quiet true m n o d h g = h
recalls_quiet false m n o d h g = g

recalls_decided : (m : Mark) (o : Option Outcome) (d : Decision) → IsDecidedMark m → Recalls m o d
    → o ≡ Some d.outcome
recalls_decided Unmarked o d at h = absurd at
recalls_decided Promised o d at h = absurd at
recalls_decided Decided o d at h = h
recalls_decided (ToldOf told) o d at h = h
recalls_decided Finished o d at h = absurd at

same_is : (c : Case) (a : BranchName) → same_branch a (CaseBranch c) ≡ is_branch c a
unfolding same_branch
same_is c (CaseBranch d) = refl
same_is c (Foreign x) = refl

recalls_told : (c : Case) (a : BranchName) (told : Outcome) (t : Bool) → same_branch a (CaseBranch c) ≡ t
    → (m : Mark) (o : Option Outcome) (d : Decision)
    → (same_branch a (CaseBranch c) ≡ true → IsDecidedMark m) → Recalls m o d
    → Recalls (cond t (ToldOf told) m) o (cond t (record { outcome = d.outcome; told = Some told }) d)
recalls_told c a told true e m o d at h = recalls_decided m o d (at e) h
recalls_told c a told false e m o d at h = h

recalls_after : (c : Case) (m : Mark) (o : Option Outcome) (d : Decision) (r : Record)
    → FitsTold m (CaseBranch c) r
    → Recalls m o d
    → Recalls (mark_after (CaseBranch c) m r) (case_decision_after c o r) (decision_after (CaseBranch c) d r)
recalls_after c m o d (PreparedRecord a ws) f h =
    recalls_if (same_branch a (CaseBranch c)) (is_branch c a) (same_is c a) Promised m None o
    (decided_as AbortedOutcome) d tt h
recalls_after c m o d (Committed a) f h = recalls_quiet (same_branch a (CaseBranch c)) Finished m o d tt h
recalls_after c m o d (RolledBack a) f h = recalls_quiet (same_branch a (CaseBranch c)) Finished m o d tt h
recalls_after c m o d (Direct a ws) f h = recalls_quiet (same_branch a (CaseBranch c)) Finished m o d tt h
recalls_after c m o d (Forgot a) f h = by_test (same_branch a (CaseBranch c))
  where
    by_test : (t : Bool) → Recalls (cond t Finished m) o (cond t (decided_as AbortedOutcome) d)
    by_test true = tt
    by_test false = h
recalls_after c m o d (HeurCommit a) f h =
    recalls_if (same_branch a (CaseBranch c)) (is_branch c a) (same_is c a) Decided m
    (Some CommittedOutcome) o
    (decided_as CommittedOutcome) d refl h
recalls_after c m o d (HeurRollback a) f h =
    recalls_if (same_branch a (CaseBranch c)) (is_branch c a) (same_is c a) Decided m (Some AbortedOutcome) o
    (decided_as AbortedOutcome) d refl h
recalls_after c m o d (Told a told) f h =
    recalls_told c a told (same_branch a (CaseBranch c)) refl m o d f h
recalls_after c m o d (Opened n) f h = h
recalls_after c m o d (Collecting e ts) f h = h
recalls_after c m o d (Prepare e ts) f h = h
recalls_after c m o d (Commit e ts) f h = h
recalls_after c m o d (Abort e ts) f h = h
recalls_after c m o d (End e rep) f h = h
recalls_after c m o d (Cleared e) f h = h
recalls_after c m o d (Base n) f h = h
recalls_after c m o d (Pair k v) f h = h

recalls_more : (c : Case) (ks : List Record) (r : Record) → RecallsCase ks c
    → FitsTold (mark_of (CaseBranch c) ks) (CaseBranch c) r → RecallsCase (ks ++ r ∷ []) c
unfolding case_decision decision_of
recalls_more c ks r h f =
    subst (λ m. Recalls m (case_decision (ks ++ r ∷ []) c) (decision_of (CaseBranch c) (ks ++ r ∷ [])))
    (sym (mark_more (CaseBranch c) ks r))
    (subst (λ o. Recalls (mark_after (CaseBranch c) (mark_of (CaseBranch c) ks) r) o
    (decision_of (CaseBranch c) (ks ++ r ∷ []))) (sym (fold-append (case_decision_after c) None ks (r ∷ [])))
    (subst (λ d. Recalls (mark_after (CaseBranch c) (mark_of (CaseBranch c) ks) r)
    (case_decision_after c (case_decision ks c) r) d)
    (sym (fold-append (decision_after (CaseBranch c)) (decided_as AbortedOutcome) ks (r ∷ [])))
    (recalls_after c (mark_of (CaseBranch c) ks) (case_decision ks c) (decision_of (CaseBranch c) ks) r f h)))

module _ (place : Place) (p : ProcessId) (ls : List LogRecord) (l : LogRecord) (o : Option Case)
    (x : Mark → Mark) (reads : One place l o x) where
  rs : List Record
  rs = own_records place ls

  behind : own_records place (ls ++ l ∷ []) ≡ own_records place ls ++ reads.read ∷ []
  behind = own_append place ls (l ∷ []) ∙ ap (λ t. own_records place ls ++ t) reads.is

  marked : (c : Case) → mark_of (CaseBranch c) (own_records place (ls ++ l ∷ []))
      ≡ cond (is_it o c) (x (mark_of (CaseBranch c) (own_records place ls)))
      (mark_of (CaseBranch c) (own_records place ls))
  marked c = ap (mark_of (CaseBranch c)) behind ∙ mark_more (CaseBranch c) (own_records place ls) reads.read
      ∙ reads.marks c (mark_of (CaseBranch c) (own_records place ls))

  recalled : (c : Case) → RecallsCase (own_records place ls) c
      → (is_it o c ≡ true → MayFollow (x (mark_of (CaseBranch c) (own_records place ls)))
      (mark_of (CaseBranch c) (own_records place ls))) → RecallsCase (own_records place (ls ++ l ∷ [])) c
  recalled c h may = subst (λ ks. RecallsCase ks c) (sym behind)
      (recalls_more c (own_records place ls) reads.read h
      (reads.fits c (mark_of (CaseBranch c) (own_records place ls)) may))

  pub leaves_more : (old new : ReplayedCases) → RecordsLeave place p ls old → ReadsBack l
      → new.boot ≡ boot_after old.boot l.entry
      → new.order.keys ≡ with_case old.order.keys o → ((d : Case) → ticket_in new.branches d ≡ None)
      → ((c : Case) → branch_in new.branches c
      ≡ cond (is_it o c) (branch_left p c (x (mark_of (CaseBranch c) (own_records place ls))))
      (branch_in old.branches c))
      → ((c : Case) (b : LiveBranch) → branch_in new.branches c ≡ Some b → IsOwn place p new.newest c)
      → ((c : Case) → is_it o c ≡ true → MayFollow (x (mark_of (CaseBranch c) (own_records place ls)))
      (mark_of (CaseBranch c) (own_records place ls)))
      → ((n : ℕ) → old.newest ≤ n → IsReached place n l → new.newest ≤ n)
      → old.newest ≤ new.newest → IsReached place new.newest l
      → RecordsLeave place p (ls ++ l ∷ []) new
  leaves_more old new left back boot order tickets branches live may least grows reaches = record {
    reads = all_more ReadsBack ls l left.reads back;
    boot = boot ∙ ap (λ n. boot_after n l.entry) left.boot ∙ sym (reads.boot (boot_of (own_records place ls)))
        ∙ sym (boot_more (own_records place ls) reads.read) ∙ ap boot_of (sym behind);
    order = order ∙ ap (λ cs. with_case cs o) left.order
        ∙ ap (with_case (cases_in (own_records place ls))) (sym reads.case)
        ∙ sym (cases_more (own_records place ls) reads.read) ∙ ap cases_in (sym behind);
    tickets = tickets;
    branches = λ c. branches c ∙ by_branch c (is_it o c) ∙ ap (branch_left p c) (sym (marked c));
    recalls = λ c. recalled c (left.recalls c) (may c);
    live = live;
    reached = all_more (IsReached place new.newest) ls l
        (reached_later place old.newest new.newest ls grows left.reached) reaches;
    newest = λ n all. let parts = all_but_last (IsReached place n) ls l all in
        least n (left.newest n parts.0) parts.1;
  }
    where
      by_branch : (c : Case) (t : Bool)
          → cond t (branch_left p c (x (mark_of (CaseBranch c) (own_records place ls))))
          (branch_in old.branches c)
          ≡ branch_left p c (cond t (x (mark_of (CaseBranch c) (own_records place ls)))
          (mark_of (CaseBranch c) (own_records place ls)))
      by_branch c true = refl
      by_branch c false = left.branches c

-- the mark of a case that was told this since
abbrev pub mark_told : Option Outcome → Mark
mark_told None = Decided
mark_told (Some o) = ToldOf o

left_told : (p : ProcessId) (c : Case) (told : Option Outcome)
    → Some (kept_at p c (Heuristic told)) ≡ branch_left p c (mark_told told)
left_told p c None = refl
left_told p c (Some o) = refl

-- what is kept of a case that is told an outcome
may_tell : (p : ProcessId) (c : Case) (m : Mark) (told : Option Outcome) (was : Option LiveBranch)
    (b : LiveBranch)
    → was ≡ Some b → was ≡ branch_left p c m → fits_told told b.stage ≡ true → MayFollow (mark_told told) m
may_tell p c m None was b at left fits = tt
may_tell p c Unmarked (Some o) was b at left fits = absurd (let none : None ≡ Some b = sym left ∙ at in cc)
may_tell p c Finished (Some o) was b at left fits = absurd (let none : None ≡ Some b = sym left ∙ at in cc)
may_tell p c Promised (Some o) was b at left fits =
    let is : kept_at p c Prepared ≡ b = some_same (kept_at p c Prepared) b (sym left ∙ at) in
    absurd (let no : fits_told (Some o) Prepared ≡ true =
    subst (λ (v : LiveBranch). fits_told (Some o) v.stage ≡ true)
    (sym is) fits in cc)
may_tell p c Decided (Some o) was b at left fits = tt
may_tell p c (ToldOf q) (Some o) was b at left fits = tt

-- a case is kept under its own XID
pub left_xid : (p : ProcessId) (c : Case) (b : LiveBranch) (m : Mark) → branch_left p c m ≡ Some b
    → b.xid ≡ name_xid (Some p) (CaseBranch c)
left_xid p c b Unmarked e = absurd (cc)
left_xid p c b Finished e = absurd (cc)
left_xid p c b Promised e = ap (λ (v : LiveBranch). v.xid) (sym (some_same (kept_at p c Prepared) b e))
left_xid p c b Decided e = ap (λ (v : LiveBranch). v.xid) (sym (some_same (kept_at p c (Heuristic None)) b e))
left_xid p c b (ToldOf o) e = ap (λ (v : LiveBranch). v.xid)
    (sym (some_same (kept_at p c (Heuristic (Some o))) b e))

-- What is live.

more_given : (a b : ℕ) (c : Case) → a ≤ b → IsGivenBy a c → IsGivenBy b c
more_given a b c grows g = let within = g.within
    in record { ticket = g.ticket; has = g.has; within = omega arith }

pub more_own : (place : Place) (p : ProcessId) (a b : ℕ) (c : Case) → a ≤ b
    → IsOwn place p a c → IsOwn place p b c
more_own place p a b c grows o = record {
  own = o.own;
  reads = o.reads;
  given = more_given a b c grows o.given;
}

-- a case of the process's own
pub own_is : (place : Place) (q : Option ProcessId) (b : BranchName) (c : Case) → own_case place q b ≡ Some c
    → (b ≡ CaseBranch c) × (is_own place q c ≡ true)
own_is place q (Foreign x) c e = absurd (cc)
own_is place q (CaseBranch d) c e = by_test (is_own place q d) refl e
  where
    by_test : (t : Bool) → is_own place q d ≡ t → cond t (Some d) None ≡ Some c
        → (CaseBranch d ≡ CaseBranch c) × (is_own place q c ≡ true)
    by_test true is e = let same : d ≡ c = some_same d c e
        in (ap CaseBranch same, ap (is_own place q) (sym same) ∙ is)
    by_test false is e = absurd (cc)

-- its name has this parent
parent_is : (q : Option ProcessId) (p : ProcessId) → same_parent q (Some p) ≡ true → q ≡ Some p
parent_is None p h = absurd (cc)
parent_is (Some r) p h = ap Some ((process_tells r p).0 h)

module _ (me p : ProcessId) (tree : List TreeProcess) (ls : List LogRecord) (old : ReplayedCases)
    (left : RecordsLeave (leaf_place me p tree) p ls old) where
  pub own_parent : (q : Option ProcessId) (c : Case) → is_own (leaf_place me p tree) q c ≡ true → q ≡ Some p
  own_parent q c is = parent_is q p (below_is is)
    where
      below_is : is_own (leaf_place me p tree) q c ≡ true → same_parent q (Some p) ≡ true
      below_is h = grind (arith, common_steps)

  -- a record that says nothing of a case of the process's own
  stays : (l : LogRecord) (new : ReplayedCases) (x : Mark → Mark) → One (leaf_place me p tree) l None x
      → ReadsBack l
      → new.branches ≡ old.branches → new.order ≡ old.order → new.newest ≡ old.newest
      → new.boot ≡ boot_after old.boot l.entry → ((n : ℕ) → IsReached (leaf_place me p tree) n l)
      → RecordsLeave (leaf_place me p tree) p (ls ++ l ∷ []) new
  stays l new x reads back branches order newest boot reach =
      leaves_more (leaf_place me p tree) p ls l None x reads old new left back boot (ap (λ s. s.keys) order)
      (λ d. ap (λ t. ticket_in t d) branches ∙ left.tickets d) (λ c. ap (λ t. branch_in t c) branches)
      (λ c b e. subst (λ n. IsOwn (leaf_place me p tree) p n c) (sym newest)
      (left.live c b (ap (λ t. branch_in t c) (sym branches) ∙ e)))
      (λ c e. absurd (cc)) (λ n low h. not_above old.newest new.newest n newest low)
      (no_lower old.newest new.newest newest) (reach new.newest)

  quiet : (l : LogRecord) (new : ReplayedCases) (x : Mark → Mark) → One (leaf_place me p tree) l None x
      → ReadsBack l
      → boot_after old.boot l.entry ≡ old.boot → ((n : ℕ) → IsReached (leaf_place me p tree) n l) → new ≡ old
      → RecordsLeave (leaf_place me p tree) p (ls ++ l ∷ []) new
  quiet l new x reads back boot reach is =
      stays l new x reads back (ap (λ s. s.branches) is) (ap (λ s. s.order) is) (ap (λ s. s.newest) is)
      (ap (λ s. s.boot) is ∙ sym boot) reach

  -- a record of a case of the process's own that promised
  promised : (l : LogRecord) (mid new : ReplayedCases) (q : Option ProcessId) (b : BranchName)
      (o : Option Case)
      → own_case (leaf_place me p tree) q b ≡ o
      → One (leaf_place me p tree) l o (λ m. Promised) → NameReads q b → ReadsBack l
      → boot_after old.boot l.entry ≡ old.boot
      → ((n : ℕ) → IsReached (leaf_place me p tree) n l → IsGivenWhere n o)
      → ((n : ℕ) → IsGivenWhere n o → IsReached (leaf_place me p tree) n l)
      → PromisesBy old new p o → RecordsLeave (leaf_place me p tree) p (ls ++ l ∷ []) new
  promised l mid new q b None is reads name back boot reaches reach made =
      quiet l new (λ m. Promised) reads back boot (λ n. reach n tt) made
  promised l mid new q b (Some c) is reads name back boot reaches reach made =
      let adds = made.1 in
      let makes = made.2 in
      let own = own_is (leaf_place me p tree) q b c is in
      let under : q ≡ Some p = own_parent q c own.1 in
      let named : NameReads (Some p) (CaseBranch c) =
      subst (λ r. NameReads r (CaseBranch c)) under (subst (NameReads q) own.0 name) in
      let mine : is_own (leaf_place me p tree) (Some p) c ≡ true =
      ap (λ r. is_own (leaf_place me p tree) r c) (sym under) ∙ own.1 in
      leaves_more (leaf_place me p tree) p ls l (Some c) (λ m. Promised) reads old new left back
      (makes.boot ∙ ap (λ s. s.boot) adds.0 ∙ sym boot) (ap (λ s. s.keys) makes.order ∙ adds.1)
      (λ d. ap (λ ts. ticket_in (record { tickets = ts; branches = new.branches.branches }) d) makes.tickets
      ∙ ap (λ s. ticket_in s.branches d) adds.0 ∙ left.tickets d)
      (λ d. by_case d (same_case c d) refl adds.0 makes)
      (λ d v e. by_live d v (same_case c d) refl adds.0 makes mine named e) (λ d e. tt)
      (λ n low h. makes.least n (not_above old.newest made.0.newest n (ap (λ s. s.newest) adds.0) low)
      (reaches n h)) (subst (λ n. n ≤ new.newest) (ap (λ s. s.newest) adds.0) makes.grows)
      (reach new.newest makes.given)
    where
      by_case : (d : Case) (t : Bool) → same_case c d ≡ t
          → made.0 ≡ record old { order = made.0.order } → Promises made.0 new p c
          → branch_in new.branches d ≡ cond t (Some (kept_at p d Prepared)) (branch_in old.branches d)
      by_case d true e adds makes = ap (branch_in new.branches) (sym (one c d e)) ∙ makes.branches.own
          ∙ ap (λ k. Some (kept_at p k Prepared)) (one c d e)
      by_case d false e adds makes = makes.branches.others d e ∙ ap (λ s. branch_in s.branches d) adds

      by_live : (d : Case) (v : LiveBranch) (t : Bool) → same_case c d ≡ t
          → made.0 ≡ record old { order = made.0.order } → Promises made.0 new p c
          → is_own (leaf_place me p tree) (Some p) c ≡ true → NameReads (Some p) (CaseBranch c)
          → branch_in new.branches d ≡ Some v
          → IsOwn (leaf_place me p tree) p new.newest d
      by_live d v true e adds makes mine named at =
          subst (λ k. IsOwn (leaf_place me p tree) p new.newest k) (one c d e)
          (record { own = mine; reads = named; given = makes.given })
      by_live d v false e adds makes mine named at =
          let grows : old.newest ≤ new.newest =
          subst (λ n. n ≤ new.newest) (ap (λ s. s.newest) adds) makes.grows in
          more_own (leaf_place me p tree) p old.newest new.newest d grows
          (left.live d v (sym (makes.branches.others d e ∙ ap (λ s. branch_in s.branches d) adds) ∙ at))

  -- a record of a case of the process's own that is finished
  ended : (l : LogRecord) (mid new : ReplayedCases) (o : Option Case)
      → One (leaf_place me p tree) l o (λ m. Finished) → ReadsBack l
      → boot_after old.boot l.entry ≡ old.boot → ((n : ℕ) → IsReached (leaf_place me p tree) n l)
      → EndsBy old new o
      → RecordsLeave (leaf_place me p tree) p (ls ++ l ∷ []) new
  ended l mid new None reads back boot reach made = quiet l new (λ m. Finished) reads back boot reach made
  ended l mid new (Some c) reads back boot reach made =
      let adds = made.1 in
      let makes = made.2 in
      leaves_more (leaf_place me p tree) p ls l (Some c) (λ m. Finished) reads old new left back
      (makes.boot ∙ ap (λ s. s.boot) adds.0 ∙ sym boot) (ap (λ s. s.keys) makes.order ∙ adds.1)
      (makes.tickets (λ d. ap (λ s. ticket_in s.branches d) adds.0 ∙ left.tickets d))
      (λ d. by_case d (same_case c d) refl adds.0 makes)
      (λ d v e. by_live d v (same_case c d) refl adds.0 makes e) (λ d e. tt)
      (λ n low h. not_above old.newest new.newest n (makes.newest ∙ ap (λ s. s.newest) adds.0) low)
      (no_lower old.newest new.newest (makes.newest ∙ ap (λ s. s.newest) adds.0)) (reach new.newest)
    where
      by_case : (d : Case) (t : Bool) → same_case c d ≡ t
          → made.0 ≡ record old { order = made.0.order } → FinishesCase made.0 new c
          → branch_in new.branches d ≡ cond t None (branch_in old.branches d)
      by_case d true e adds makes = ap (branch_in new.branches) (sym (one c d e)) ∙ makes.branches.own
      by_case d false e adds makes = makes.branches.others d e ∙ ap (λ s. branch_in s.branches d) adds

      by_live : (d : Case) (v : LiveBranch) (t : Bool) → same_case c d ≡ t
          → made.0 ≡ record old { order = made.0.order } → FinishesCase made.0 new c
          → branch_in new.branches d ≡ Some v → IsOwn (leaf_place me p tree) p new.newest d
      by_live d v true e adds makes at = absurd
          (let none = ap (branch_in new.branches) (sym (one c d e)) ∙ makes.branches.own in cc)
      by_live d v false e adds makes at =
          subst (λ n. IsOwn (leaf_place me p tree) p n d) (ap (λ s. s.newest) (sym adds) ∙ sym makes.newest)
          (left.live d v (sym (makes.branches.others d e ∙ ap (λ s. branch_in s.branches d) adds) ∙ at))

  -- a record of a case of the process's own that an operator decided
  decided : (l : LogRecord) (new : ReplayedCases) (told : Option Outcome) (o : Option Case)
      → One (leaf_place me p tree) l o (λ m. mark_told told)
      → ReadsBack l → boot_after old.boot l.entry ≡ old.boot
      → ((n : ℕ) → IsReached (leaf_place me p tree) n l) → DecidesBy old new told o
      → RecordsLeave (leaf_place me p tree) p (ls ++ l ∷ []) new
  decided l new told None reads back boot reach made =
      quiet l new (λ m. mark_told told) reads back boot reach made
  decided l new told (Some c) reads back boot reach made =
      let adds = made.1 in
      let makes = made.2 in
      leaves_more (leaf_place me p tree) p ls l (Some c) (λ m. mark_told told) reads old new left back
      (makes.boot ∙ ap (λ s. s.boot) adds.0 ∙ sym boot) (ap (λ s. s.keys) makes.order ∙ adds.1)
      (λ d. ap (λ ts. ticket_in (record { tickets = ts; branches = new.branches.branches }) d) makes.tickets
      ∙ ap (λ s. ticket_in s.branches d) adds.0 ∙ left.tickets d)
      (λ d. by_case d (same_case c d) refl adds.0 makes)
      (λ d v e. by_live d v (same_case c d) refl adds.0 makes e)
      (λ d e. may_tell p d (mark_of (CaseBranch d) (own_records (leaf_place me p tree) ls)) told
      (branch_in old.branches d) makes.branch
      (subst (λ k. branch_in old.branches k ≡ Some makes.branch) (one c d e) (stood adds.0 makes))
      (left.branches d) makes.fits)
      (λ n low h. not_above old.newest new.newest n (makes.newest ∙ ap (λ s. s.newest) adds.0) low)
      (no_lower old.newest new.newest (makes.newest ∙ ap (λ s. s.newest) adds.0)) (reach new.newest)
    where
      stood : made.0 ≡ record old { order = made.0.order } → (m : DecidesCase made.0 new c told)
          → branch_in old.branches c ≡ Some m.branch
      stood adds m = ap (λ s. branch_in s.branches c) (sym adds) ∙ m.was

      xid_is : made.0 ≡ record old { order = made.0.order } → (m : DecidesCase made.0 new c told)
          → m.branch.xid ≡ name_xid (Some p) (CaseBranch c)
      xid_is adds m = left_xid p c m.branch (mark_of (CaseBranch c) (own_records (leaf_place me p tree) ls))
          (sym (left.branches c) ∙ stood adds m)

      by_case : (d : Case) (t : Bool) → same_case c d ≡ t → made.0 ≡ record old { order = made.0.order }
          → DecidesCase made.0 new c told
          → branch_in new.branches d ≡ cond t (branch_left p d (mark_told told)) (branch_in old.branches d)
      by_case d true e adds makes =
          ap (branch_in new.branches) (sym (one c d e)) ∙ makes.branches.own
          ∙ ap (λ y. Some (record { xid = y; stage = Heuristic told })) (xid_is adds makes)
          ∙ ap (λ k. Some (kept_at p k (Heuristic told))) (one c d e) ∙ left_told p d told
      by_case d false e adds makes = makes.branches.others d e ∙ ap (λ s. branch_in s.branches d) adds

      by_live : (d : Case) (v : LiveBranch) (t : Bool) → same_case c d ≡ t
          → made.0 ≡ record old { order = made.0.order } → DecidesCase made.0 new c told
          → branch_in new.branches d ≡ Some v → IsOwn (leaf_place me p tree) p new.newest d
      by_live d v true e adds makes at =
          subst (λ k. IsOwn (leaf_place me p tree) p new.newest k) (one c d e)
          (subst (λ n. IsOwn (leaf_place me p tree) p n c) (ap (λ s. s.newest) (sym adds) ∙ sym makes.newest)
          (left.live c makes.branch (stood adds makes)))
      by_live d v false e adds makes at =
          subst (λ n. IsOwn (leaf_place me p tree) p n d) (ap (λ s. s.newest) (sym adds) ∙ sym makes.newest)
          (left.live d v (sym (makes.branches.others d e ∙ ap (λ s. branch_in s.branches d) adds) ∙ at))

  by_entry : (new : ReplayedCases) (q : Option ProcessId) (r : Record)
      → ReadsRecord (leaf_place me p tree) p old new (record { entry = r; parent = q })
      → RecordsLeave (leaf_place me p tree) p (ls ++ record { entry = r; parent = q } ∷ []) new
  by_entry new q (Opened n) made =
      stays (record { entry = Opened n; parent = q }) new (λ m. m) (one_opened me p tree q n) tt
      (ap (λ s. s.branches) made) (ap (λ s. s.order) made) (ap (λ s. s.newest) made)
      (ap (λ s. s.boot) made) (λ k. tt)
  by_entry new q (Base n) made = quiet _ new (λ m. m) (one_base me p tree q n) tt refl (λ k. tt) made
  by_entry new q (Pair k v) made = quiet _ new (λ m. m) (one_pair me p tree q k v) tt refl (λ n. tt) made
  by_entry new q (PreparedRecord b ws) made =
      promised _ new new q b (own_case (leaf_place me p tree) q b) refl
      (one_prepared me p tree q b ws) made.0 made.0 refl (λ n h. h) (λ n h. h) made.1
  by_entry new q (Committed b) made = ended _ new new (own_case (leaf_place me p tree) q b)
      (one_committed me p tree q b) made.0 refl (λ n. tt) made.1
  by_entry new q (RolledBack b) made = ended _ new new (own_case (leaf_place me p tree) q b)
      (one_rolled_back me p tree q b) made.0 refl (λ n. tt) made.1
  by_entry new q (Direct b ws) made = ended _ new new (own_case (leaf_place me p tree) q b)
      (one_direct me p tree q b ws) made.0 refl (λ n. tt) made.1
  by_entry new q (Forgot b) made = ended _ new new (own_case (leaf_place me p tree) q b)
      (one_forgot me p tree q b) made.0 refl (λ n. tt) made.1
  by_entry new q (HeurCommit b) made =
      decided _ new None (own_case (leaf_place me p tree) q b) (one_committed_so me p tree q b) made.0 refl
      (λ n. tt) made.1
  by_entry new q (HeurRollback b) made =
      decided _ new None (own_case (leaf_place me p tree) q b) (one_rolled_back_so me p tree q b) made.0 refl
      (λ n. tt) made.1
  by_entry new q (Told b o) made =
      decided _ new (Some o) (own_case (leaf_place me p tree) q b) (one_told me p tree q b o) made.0 refl
      (λ n. tt) made.1
  by_entry new q (Collecting c ts) made = absurd made
  by_entry new q (Prepare c ts) made = absurd made
  by_entry new q (Commit c ts) made = absurd made
  by_entry new q (Abort c ts) made = absurd made
  by_entry new q (End c rep) made = absurd made
  by_entry new q (Cleared c) made = absurd made

  pub taken : (new : ReplayedCases) (l : LogRecord) → ReadsRecord (leaf_place me p tree) p old new l
      → RecordsLeave (leaf_place me p tree) p (ls ++ l ∷ []) new
  taken new l made = by_entry new l.parent l.entry made

-- no record leaves nothing
pub nothing_left : (place : Place) (p : ProcessId) (s : ReplayedCases) → s.order.keys ≡ []
    → s.branches.tickets ≡ [] → s.branches.branches ≡ []
    → s.boot ≡ 0 → s.newest ≡ 0 → RecordsLeave place p [] s
unfolding own_records mark_of boot_of cases_in live_value case_decision decision_of
nothing_left place p s order tickets branches boot newest = record {
  reads = tt;
  boot = boot;
  order = order;
  tickets = λ d. ap (λ ts. live_value ts d) tickets;
  branches = λ c. ap (λ bs. live_value bs c) branches;
  recalls = λ c. tt;
  live = λ c b e. absurd (let none = ap (λ bs. live_value bs c) branches in cc);
  reached = tt;
  newest = λ n all. subst (λ k. k ≤ n) (sym newest) (omega arith);
}
