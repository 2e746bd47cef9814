-- A case of the process's own is marked in its log as it reads it.
use Rattle.std.proofs.Common.{◌≡◌, ◌∙◌, ℕ, Bool, true, false, cond, Option, Some, None, List, [], ◌∷◌, ◌++◌, map, fold, refl, sym, ap, arith}
use Rattle.std.proofs.lemmas.Grind.{common_steps, fold-append}
use Rattle.std.specs.List.{AllByRecursion}
use Rattle.xa_xid.specs.declared.xid.Xid.{Xid}
use Rattle.protocol.specs.declared.names.Case.{Case}
use Rattle.protocol.specs.declared.names.ProcessId.{ProcessId}
use Rattle.protocol.specs.declared.records.BranchName.{BranchName}
use Rattle.protocol.specs.declared.records.BranchName.TheVariants.{Foreign}
use Rattle.protocol_words.specs.Variants.{AbortedOutcome, CaseBranch, CommittedOutcome}
use Rattle.protocol.specs.declared.records.LogRecord.{LogRecord}
use Rattle.protocol.specs.declared.records.Record.{Record}
use Rattle.protocol.specs.declared.records.Record.TheVariants.{Opened, Collecting, Prepare, Commit, Abort, End, Prepared, Committed, RolledBack, Direct, HeurCommit, HeurRollback, Told, Forgot, Base, Pair, Cleared}
use Rattle.protocol.specs.declared.trees.TreeProcess.{TreeProcess}
use Rattle.protocol.specs.LogNames.{by_xid, foreign_to, is_own, name_xid, own_records, renamed, renamed_by, same_parent}
use Rattle.protocol.specs.Names.{same_case}
use Rattle.protocol.specs.Nodes.{AtLeaf}
use Rattle.protocol.specs.Records.{boot_after, boot_of, branch_case, record_branch, record_case, same_branch, same_xid}
use Rattle.protocol.specs.Standings.{Decided, Finished, Mark, Promised, ToldOf, Unmarked, mark_after, mark_of}
use Rattle.protocol.proofs.NameTests.{case_tells, process_tells}
use Rattle.xa_branch.specs.declared.decision.Decision.{Decision}
use Rattle.xa_branch.specs.Decisions.{decided_as, decision_after, decision_of}
use Rattle.log_text.specs.Parts.{Name, name_in}
use Rattle.log_text.proofs.NameReading.{same_xid_is, same_xid_refl}
use Rattle.sub_branches.specs.Rebuilt.{NameReads, ReadsBack, own_case}
use Rattle.protocol.specs.Views.{leaf_place}
use Rattle.sub_branches.proofs.Reading.{is_it, own_append, read_as, read_is, read_name}

case_is_one : (c d : Case) → CaseBranch c ≡ CaseBranch d → c ≡ d
case_is_one c d e = cc

module _ (me p : ProcessId) (tree : List TreeProcess) (c : Case)
    (own : is_own (leaf_place me p tree) (Some p) c ≡ true) (reads : NameReads (Some p) (CaseBranch c)) where
  abbrev x : Xid
  x = name_xid (Some p) (CaseBranch c)

  under : (q : Option ProcessId) (d : Case) → is_own (leaf_place me p tree) q d ≡ true → q ≡ Some p
  under None d h = absurd (let f = below h in cc)
    where
      below : is_own (leaf_place me p tree) None d ≡ true → false ≡ true
      below h = grind (arith, common_steps)
  under (Some r) d h = ap Some ((process_tells r p).0 (below h))
    where
      below : is_own (leaf_place me p tree) (Some r) d ≡ true → same_parent (Some r) (Some p) ≡ true
      below h = grind (arith, common_steps)

  -- a name that is not the case's has another XID
  apart : (q : Option ProcessId) (b : BranchName) → NameReads q b
      → (◌≡◌ {A = Name} (q, b) (Some p, CaseBranch c) → ⊥) → same_xid (name_xid q b) x ≡ false
  apart q b h differs = by_test (same_xid (name_xid q b) x) refl
    where
      by_test : (t : Bool) → same_xid (name_xid q b) x ≡ t → t ≡ false
      by_test false e = refl
      by_test true e = absurd (differs (sym h ∙ ap name_in (same_xid_is (name_xid q b) x e) ∙ reads))

  itself : (q : Option ProcessId) (b : BranchName) → ◌≡◌ {A = Name} (q, b) (Some p, CaseBranch c)
      → same_xid (name_xid q b) x ≡ true
  itself q b e = ap (λ (n : Name). same_xid (name_xid n.0 n.1) x) e ∙ same_xid_refl x

  alike : (q : Option ProcessId) (b : BranchName) → NameReads q b
      → same_xid (name_xid q b) x ≡ is_it (own_case (leaf_place me p tree) q b) c
  alike q (Foreign y) h = apart q (Foreign y) h (λ e. other (ap (λ (n : Name). n.1) e))
    where
      other : Foreign y ≡ CaseBranch c → ⊥
      other e = absurd (cc)
  alike q (CaseBranch d) h = by_own (is_own (leaf_place me p tree) q d) refl
    where
      by_case : is_own (leaf_place me p tree) q d ≡ true → (t : Bool) → same_case d c ≡ t
          → same_xid (name_xid q (CaseBranch d)) x ≡ t
      by_case is true e = itself q (CaseBranch d) (λ i. (under q d is i, CaseBranch ((case_tells d c).0 e i)))
      by_case is false e = apart q (CaseBranch d) h
          (λ f. differs (case_is_one d c (ap (λ (n : Name). n.1) f)))
        where
          differs : d ≡ c → ⊥
          differs f = absurd (let g : same_case d c ≡ true = (case_tells d c).1 f in cc)

      by_own : (t : Bool) → is_own (leaf_place me p tree) q d ≡ t
          → same_xid (name_xid q (CaseBranch d)) x ≡ is_it (cond t (Some d) None) c
      by_own true is = by_case is (same_case d c) refl
      by_own false is = apart q (CaseBranch d) h (λ f. differs f)
        where
          differs : ◌≡◌ {A = Name} (q, CaseBranch d) (Some p, CaseBranch c) → ⊥
          differs f = absurd (let g : is_own (leaf_place me p tree) q d
              ≡ true = ap (λ r. is_own (leaf_place me p tree) r d) (ap (λ (n : Name). n.0) f)
              ∙ ap (is_own (leaf_place me p tree) (Some p))
              (case_is_one d c (ap (λ (n : Name). n.1) f)) ∙ own in cc)

  branch_alike : (q : Option ProcessId) (b : BranchName) → NameReads q b
      → same_branch (read_name (leaf_place me p tree) q b) (CaseBranch c)
      ≡ same_branch (Foreign (name_xid q b)) (Foreign x)
  unfolding same_branch
  branch_alike q b h = read_is (leaf_place me p tree) q b c ∙ sym (alike q b h)

  -- what one record of a branch makes of what is read off a branch's own records
  followed : {A : Type 0} (after : BranchName → A → Record → A) (r : BranchName → Record)
      (q : Option ProcessId) (b : BranchName)
      (v : A → A) (m : A) → NameReads q b
      → ((c d : BranchName) → renamed d (r c) ≡ r d)
      → ((c : BranchName) → record_case (r c) ≡ branch_case c)
      → ((c d : BranchName) (m : A) → after d m (r c) ≡ cond (same_branch c d) (v m) m)
      → fold (after (CaseBranch c)) m (own_records (leaf_place me p tree)
      (record { entry = r b; parent = q } ∷ []))
      ≡ after (Foreign x) m (renamed (Foreign (name_xid q b)) (r b))
  followed after r q b v m h names case marks =
      ap (fold (after (CaseBranch c)) m) (read_as me p tree r q b names case)
      ∙ marks (read_name (leaf_place me p tree) q b) (CaseBranch c) m
      ∙ ap (λ t. cond t (v m) m) (branch_alike q b h)
      ∙ sym (marks (Foreign (name_xid q b)) (Foreign x) m)
      ∙ ap (after (Foreign x) m) (sym (names b (Foreign (name_xid q b))))

  marked : (r : BranchName → Record) (q : Option ProcessId) (b : BranchName) (v m : Mark) → NameReads q b
      → ((c d : BranchName) → renamed d (r c) ≡ r d)
      → ((c : BranchName) → record_case (r c) ≡ branch_case c)
      → ((c d : BranchName) (m : Mark) → mark_after d m (r c) ≡ cond (same_branch c d) v m)
      → fold (mark_after (CaseBranch c)) m (own_records (leaf_place me p tree)
      (record { entry = r b; parent = q } ∷ []))
      ≡ mark_after (Foreign x) m (renamed (Foreign (name_xid q b)) (r b))
  marked r q b v m h names case marks = followed mark_after r q b (λ k. v) m h names case marks

  one_marked : (r : Record) (q : Option ProcessId) (m : Mark) → ReadsBack (record { entry = r; parent = q })
      → fold (mark_after (CaseBranch c)) m (own_records (leaf_place me p tree)
      (record { entry = r; parent = q } ∷ []))
      ≡ mark_after (Foreign x) m (renamed_by q (record_branch r) r)
  unfolding own_records
  one_marked (Opened n) q m h = refl
  one_marked (Base n) q m h = refl
  one_marked (Pair k v) q m h = refl
  one_marked (Collecting d ts) q m h = by_own (is_own (leaf_place me p tree) q d)
    where
      by_own : (t : Bool) → fold (mark_after (CaseBranch c)) m
          (cond t (Collecting d ts ∷ []) (foreign_to (AtLeaf p) q d (Collecting d ts)) ++ []) ≡ m
      by_own true = refl
      by_own false = refl
  one_marked (Prepare d ts) q m h = by_own (is_own (leaf_place me p tree) q d)
    where
      by_own : (t : Bool) → fold (mark_after (CaseBranch c)) m
          (cond t (Prepare d ts ∷ []) (foreign_to (AtLeaf p) q d (Prepare d ts)) ++ []) ≡ m
      by_own true = refl
      by_own false = refl
  one_marked (Commit d ts) q m h = by_own (is_own (leaf_place me p tree) q d)
    where
      by_own : (t : Bool) → fold (mark_after (CaseBranch c)) m
          (cond t (Commit d ts ∷ []) (foreign_to (AtLeaf p) q d (Commit d ts)) ++ []) ≡ m
      by_own true = refl
      by_own false = refl
  one_marked (Abort d ts) q m h = by_own (is_own (leaf_place me p tree) q d)
    where
      by_own : (t : Bool) → fold (mark_after (CaseBranch c)) m
          (cond t (Abort d ts ∷ []) (foreign_to (AtLeaf p) q d (Abort d ts)) ++ []) ≡ m
      by_own true = refl
      by_own false = refl
  one_marked (End d rep) q m h = by_own (is_own (leaf_place me p tree) q d)
    where
      by_own : (t : Bool) → fold (mark_after (CaseBranch c)) m
          (cond t (End d rep ∷ []) (foreign_to (AtLeaf p) q d (End d rep)) ++ []) ≡ m
      by_own true = refl
      by_own false = refl
  one_marked (Cleared d) q m h = by_own (is_own (leaf_place me p tree) q d)
    where
      by_own : (t : Bool) → fold (mark_after (CaseBranch c)) m
          (cond t (Cleared d ∷ []) (foreign_to (AtLeaf p) q d (Cleared d)) ++ []) ≡ m
      by_own true = refl
      by_own false = refl
  one_marked (Prepared b ws) q m h = marked (λ c. Prepared c ws) q b Promised m h
      (λ c d. refl) (λ c. refl) (λ c d m. refl)
  one_marked (Committed b) q m h = marked Committed q b Finished m h (λ c d. refl) (λ c. refl) (λ c d m. refl)
  one_marked (RolledBack b) q m h = marked RolledBack q b Finished m h
      (λ c d. refl) (λ c. refl) (λ c d m. refl)
  one_marked (Direct b ws) q m h = marked (λ c. Direct c ws) q b Finished m h
      (λ c d. refl) (λ c. refl) (λ c d m. refl)
  one_marked (HeurCommit b) q m h = marked HeurCommit q b Decided m h
      (λ c d. refl) (λ c. refl) (λ c d m. refl)
  one_marked (HeurRollback b) q m h = marked HeurRollback q b Decided m h
      (λ c d. refl) (λ c. refl) (λ c d m. refl)
  one_marked (Told b o) q m h = marked (λ c. Told c o) q b (ToldOf o) m h
      (λ c d. refl) (λ c. refl) (λ c d m. refl)
  one_marked (Forgot b) q m h = marked Forgot q b Finished m h (λ c d. refl) (λ c. refl) (λ c d m. refl)

  marks_from : (ls : List LogRecord) (m : Mark) → AllByRecursion ReadsBack ls
      → fold (mark_after (CaseBranch c)) m (own_records (leaf_place me p tree) ls)
      ≡ fold (mark_after (Foreign x)) m (map by_xid ls)
  unfolding own_records
  marks_from [] m h = refl
  marks_from (l ∷ ls) m h =
      ap (fold (mark_after (CaseBranch c)) m) (own_append (leaf_place me p tree) (l ∷ []) ls)
      ∙ fold-append (mark_after (CaseBranch c)) m (own_records (leaf_place me p tree) (l ∷ []))
      (own_records (leaf_place me p tree) ls)
      ∙ ap (λ v. fold (mark_after (CaseBranch c)) v (own_records (leaf_place me p tree) ls))
      (one_marked l.entry l.parent m h.0)
      ∙ marks_from ls (mark_after (Foreign x) m (by_xid l)) h.1

  -- what the records say of the case is what they say of its XID
  pub marks_alike : (ls : List LogRecord) → AllByRecursion ReadsBack ls
      → mark_of (Foreign (name_xid (Some p) (CaseBranch c))) (map by_xid ls)
      ≡ mark_of (CaseBranch c) (own_records (leaf_place me p tree) ls)
  unfolding mark_of
  marks_alike ls h = sym (marks_from ls Unmarked h)

  -- what an operator decided

  same_either : {A : Type 0} (t : Bool) (m : A) → m ≡ cond t m m
  same_either true m = refl
  same_either false m = refl

  one_decided : (r : Record) (q : Option ProcessId) (k : Decision)
      → ReadsBack (record { entry = r; parent = q })
      → fold (decision_after (CaseBranch c)) k (own_records (leaf_place me p tree)
      (record { entry = r; parent = q } ∷ []))
      ≡ decision_after (Foreign x) k (renamed_by q (record_branch r) r)
  unfolding own_records
  one_decided (Opened n) q k h = refl
  one_decided (Base n) q k h = refl
  one_decided (Pair key v) q k h = refl
  one_decided (Collecting d ts) q k h = by_own (is_own (leaf_place me p tree) q d)
    where
      by_own : (t : Bool) → fold (decision_after (CaseBranch c)) k
          (cond t (Collecting d ts ∷ []) (foreign_to (AtLeaf p) q d (Collecting d ts)) ++ []) ≡ k
      by_own true = refl
      by_own false = refl
  one_decided (Prepare d ts) q k h = by_own (is_own (leaf_place me p tree) q d)
    where
      by_own : (t : Bool) → fold (decision_after (CaseBranch c)) k
          (cond t (Prepare d ts ∷ []) (foreign_to (AtLeaf p) q d (Prepare d ts)) ++ []) ≡ k
      by_own true = refl
      by_own false = refl
  one_decided (Commit d ts) q k h = by_own (is_own (leaf_place me p tree) q d)
    where
      by_own : (t : Bool) → fold (decision_after (CaseBranch c)) k
          (cond t (Commit d ts ∷ []) (foreign_to (AtLeaf p) q d (Commit d ts)) ++ []) ≡ k
      by_own true = refl
      by_own false = refl
  one_decided (Abort d ts) q k h = by_own (is_own (leaf_place me p tree) q d)
    where
      by_own : (t : Bool) → fold (decision_after (CaseBranch c)) k
          (cond t (Abort d ts ∷ []) (foreign_to (AtLeaf p) q d (Abort d ts)) ++ []) ≡ k
      by_own true = refl
      by_own false = refl
  one_decided (End d rep) q k h = by_own (is_own (leaf_place me p tree) q d)
    where
      by_own : (t : Bool) → fold (decision_after (CaseBranch c)) k
          (cond t (End d rep ∷ []) (foreign_to (AtLeaf p) q d (End d rep)) ++ []) ≡ k
      by_own true = refl
      by_own false = refl
  one_decided (Cleared d) q k h = by_own (is_own (leaf_place me p tree) q d)
    where
      by_own : (t : Bool) → fold (decision_after (CaseBranch c)) k
          (cond t (Cleared d ∷ []) (foreign_to (AtLeaf p) q d (Cleared d)) ++ []) ≡ k
      by_own true = refl
      by_own false = refl
  one_decided (Prepared b ws) q k h = followed decision_after (λ c. Prepared c ws) q b
      (λ d. decided_as AbortedOutcome) k h
      (λ c d. refl) (λ c. refl) (λ c d m. refl)
  one_decided (Committed b) q k h = followed decision_after Committed q b (λ d. d) k h
      (λ c d. refl) (λ c. refl) (λ c d m. same_either (same_branch c d) m)
  one_decided (RolledBack b) q k h = followed decision_after RolledBack q b (λ d. d) k h
      (λ c d. refl) (λ c. refl) (λ c d m. same_either (same_branch c d) m)
  one_decided (Direct b ws) q k h = followed decision_after (λ c. Direct c ws) q b (λ d. d) k h
      (λ c d. refl) (λ c. refl) (λ c d m. same_either (same_branch c d) m)
  one_decided (HeurCommit b) q k h = followed decision_after HeurCommit q b
      (λ d. decided_as CommittedOutcome) k h
      (λ c d. refl) (λ c. refl) (λ c d m. refl)
  one_decided (HeurRollback b) q k h = followed decision_after HeurRollback q b
      (λ d. decided_as AbortedOutcome) k h
      (λ c d. refl) (λ c. refl) (λ c d m. refl)
  one_decided (Told b o) q k h = followed decision_after (λ c. Told c o) q b
      (λ d. record { outcome = d.outcome; told = Some o }) k h (λ c d. refl) (λ c. refl) (λ c d m. refl)
  one_decided (Forgot b) q k h = followed decision_after Forgot q b (λ d. decided_as AbortedOutcome) k h
      (λ c d. refl) (λ c. refl) (λ c d m. refl)

  decisions_from : (ls : List LogRecord) (k : Decision) → AllByRecursion ReadsBack ls
      → fold (decision_after (CaseBranch c)) k (own_records (leaf_place me p tree) ls)
      ≡ fold (decision_after (Foreign x)) k (map by_xid ls)
  unfolding own_records
  decisions_from [] k h = refl
  decisions_from (l ∷ ls) k h =
      ap (fold (decision_after (CaseBranch c)) k) (own_append (leaf_place me p tree) (l ∷ []) ls)
      ∙ fold-append (decision_after (CaseBranch c)) k (own_records (leaf_place me p tree) (l ∷ []))
      (own_records (leaf_place me p tree) ls)
      ∙ ap (λ v. fold (decision_after (CaseBranch c)) v (own_records (leaf_place me p tree) ls))
      (one_decided l.entry l.parent k h.0)
      ∙ decisions_from ls (decision_after (Foreign x) k (by_xid l)) h.1

  -- what the records say that an operator decided of the case, they say of its XID
  pub decisions_alike : (ls : List LogRecord) → AllByRecursion ReadsBack ls
      → decision_of (Foreign (name_xid (Some p) (CaseBranch c))) (map by_xid ls)
      ≡ decision_of (CaseBranch c) (own_records (leaf_place me p tree) ls)
  unfolding decision_of
  decisions_alike ls h = sym (decisions_from ls (decided_as AbortedOutcome) h)

-- the boot is that of the records as the process reads them
module _ (me p : ProcessId) (tree : List TreeProcess) where
  named_boot : (r : BranchName → Record) (q : Option ProcessId) (b : BranchName) (n : ℕ)
      → ((c d : BranchName) → renamed d (r c) ≡ r d)
      → ((c : BranchName) → record_case (r c) ≡ branch_case c)
      → ((c : BranchName) (n : ℕ) → boot_after n (r c) ≡ n)
      → fold boot_after n (own_records (leaf_place me p tree)
      (record { entry = r b; parent = q } ∷ [])) ≡ boot_after n (r b)
  named_boot r q b n names case stays =
      ap (fold boot_after n) (read_as me p tree r q b names case)
      ∙ stays (read_name (leaf_place me p tree) q b) n ∙ sym (stays b n)

  one_boot : (r : Record) (q : Option ProcessId) (n : ℕ)
      → fold boot_after n (own_records (leaf_place me p tree)
      (record { entry = r; parent = q } ∷ [])) ≡ boot_after n r
  unfolding own_records
  one_boot (Opened k) q n = refl
  one_boot (Base k) q n = refl
  one_boot (Pair k v) q n = refl
  one_boot (Collecting d ts) q n = by_own (is_own (leaf_place me p tree) q d)
    where
      by_own : (t : Bool) → fold boot_after n
          (cond t (Collecting d ts ∷ []) (foreign_to (AtLeaf p) q d (Collecting d ts)) ++ []) ≡ n
      by_own true = refl
      by_own false = refl
  one_boot (Prepare d ts) q n = by_own (is_own (leaf_place me p tree) q d)
    where
      by_own : (t : Bool) → fold boot_after n
          (cond t (Prepare d ts ∷ []) (foreign_to (AtLeaf p) q d (Prepare d ts)) ++ []) ≡ n
      by_own true = refl
      by_own false = refl
  one_boot (Commit d ts) q n = by_own (is_own (leaf_place me p tree) q d)
    where
      by_own : (t : Bool) → fold boot_after n
          (cond t (Commit d ts ∷ []) (foreign_to (AtLeaf p) q d (Commit d ts)) ++ []) ≡ n
      by_own true = refl
      by_own false = refl
  one_boot (Abort d ts) q n = by_own (is_own (leaf_place me p tree) q d)
    where
      by_own : (t : Bool) → fold boot_after n
          (cond t (Abort d ts ∷ []) (foreign_to (AtLeaf p) q d (Abort d ts)) ++ []) ≡ n
      by_own true = refl
      by_own false = refl
  one_boot (End d rep) q n = by_own (is_own (leaf_place me p tree) q d)
    where
      by_own : (t : Bool) → fold boot_after n
          (cond t (End d rep ∷ []) (foreign_to (AtLeaf p) q d (End d rep)) ++ []) ≡ n
      by_own true = refl
      by_own false = refl
  one_boot (Cleared d) q n = by_own (is_own (leaf_place me p tree) q d)
    where
      by_own : (t : Bool) → fold boot_after n
          (cond t (Cleared d ∷ []) (foreign_to (AtLeaf p) q d (Cleared d)) ++ []) ≡ n
      by_own true = refl
      by_own false = refl
  one_boot (Prepared b ws) q n = named_boot (λ c. Prepared c ws) q b n (λ c d. refl) (λ c. refl) (λ c n. refl)
  one_boot (Committed b) q n = named_boot Committed q b n (λ c d. refl) (λ c. refl) (λ c n. refl)
  one_boot (RolledBack b) q n = named_boot RolledBack q b n (λ c d. refl) (λ c. refl) (λ c n. refl)
  one_boot (Direct b ws) q n = named_boot (λ c. Direct c ws) q b n (λ c d. refl) (λ c. refl) (λ c n. refl)
  one_boot (HeurCommit b) q n = named_boot HeurCommit q b n (λ c d. refl) (λ c. refl) (λ c n. refl)
  one_boot (HeurRollback b) q n = named_boot HeurRollback q b n (λ c d. refl) (λ c. refl) (λ c n. refl)
  one_boot (Told b o) q n = named_boot (λ c. Told c o) q b n (λ c d. refl) (λ c. refl) (λ c n. refl)
  one_boot (Forgot b) q n = named_boot Forgot q b n (λ c d. refl) (λ c. refl) (λ c n. refl)

  boots_from : (ls : List LogRecord) (n : ℕ) → fold boot_after n (own_records (leaf_place me p tree) ls)
      ≡ fold boot_after n (map (λ l. l.entry) ls)
  unfolding own_records
  boots_from [] n = refl
  boots_from (l ∷ ls) n =
      ap (fold boot_after n) (own_append (leaf_place me p tree) (l ∷ []) ls)
      ∙ fold-append boot_after n (own_records (leaf_place me p tree) (l ∷ []))
      (own_records (leaf_place me p tree) ls)
      ∙ ap (λ k. fold boot_after k (own_records (leaf_place me p tree) ls)) (one_boot l.entry l.parent n)
      ∙ boots_from ls (boot_after n l.entry)

  pub boots_alike : (ls : List LogRecord) → boot_of (own_records (leaf_place me p tree) ls)
      ≡ boot_of (map (λ l. l.entry) ls)
  unfolding boot_of
  boots_alike ls = boots_from ls 0
