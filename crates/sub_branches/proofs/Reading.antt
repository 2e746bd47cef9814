-- How a subordinate reads one record of its log.
use Rattle.std.proofs.Common.{◌≡◌, ◌∙◌, ℕ, Bool, true, false, cond, if◌then◌else◌, Option, Some, None, List, [], ◌∷◌, ◌++◌, refl, sym, ap}
use Rattle.std.proofs.lemmas.Grind.{flat_map-append}
use Rattle.protocol.specs.declared.names.Case.{Case}
use Rattle.protocol.specs.declared.names.ProcessId.{ProcessId}
use Rattle.protocol.specs.declared.records.BranchName.{BranchName}
use Rattle.protocol.specs.declared.records.BranchName.TheVariants.{Foreign}
use Rattle.protocol_words.specs.Variants.{CaseBranch, PreparedRecord}
use Rattle.protocol.specs.declared.records.LogRecord.{LogRecord}
use Rattle.protocol.specs.declared.records.Record.{Record}
use Rattle.protocol.specs.declared.records.Record.TheVariants.{Opened, Committed, RolledBack, Direct, HeurCommit, HeurRollback, Told, Forgot, Base, Pair}
use Rattle.protocol.specs.declared.records.Write.{Write}
use Rattle.protocol.specs.declared.names.Outcome.{Outcome}
use Rattle.protocol.specs.declared.trees.TreeProcess.{TreeProcess}
use Rattle.protocol.specs.LogNames.{foreign_to, is_own, name_xid, own_by, own_records, renamed}
use Rattle.protocol.specs.Names.{same_case}
use Rattle.protocol.specs.Nodes.{AtLeaf, Place}
use Rattle.protocol.specs.Records.{boot_after, branch_case, record_case, same_branch}
use Rattle.protocol.specs.Standings.{Decided, Finished, Mark, Promised, ToldOf, mark_after}
use Rattle.sub_branches.specs.Rebuilt.{own_case}
use Rattle.protocol.specs.Views.{leaf_place}

pub own_append : (place : Place) (xs ys : List LogRecord)
    → own_records place (xs ++ ys) ≡ own_records place xs ++ own_records place ys
unfolding own_records
own_append place xs ys = flat_map-append (λ (l : LogRecord). own_by place l (record_case l.entry)) xs ys

-- the branch that a process reads in a name
abbrev pub read_name : Place → Option ProcessId → BranchName → BranchName
read_name place q (CaseBranch c) = if is_own place q c then CaseBranch c
    else Foreign (name_xid q (CaseBranch c))
read_name place q (Foreign x) = Foreign x

-- a case is this one, if there is one
abbrev pub is_it : Option Case → Case → Bool
is_it None c = false
is_it (Some d) c = same_case d c

pub read_is : (place : Place) (q : Option ProcessId) (b : BranchName) (c : Case)
    → same_branch (read_name place q b) (CaseBranch c) ≡ is_it (own_case place q b) c
unfolding same_branch
read_is place q (Foreign x) c = refl
read_is place q (CaseBranch d) c = by_test (is_own place q d)
  where
    by_test : (t : Bool)
        → same_branch (cond t (CaseBranch d) (Foreign (name_xid q (CaseBranch d)))) (CaseBranch c)
        ≡ is_it (cond t (Some d) None) c
    by_test true = refl
    by_test false = refl

pub case_is : (place : Place) (q : Option ProcessId) (b : BranchName)
    → branch_case (read_name place q b) ≡ own_case place q b
case_is place q (Foreign x) = refl
case_is place q (CaseBranch d) = by_test (is_own place q d)
  where
    by_test : (t : Bool)
        → branch_case (cond t (CaseBranch d) (Foreign (name_xid q (CaseBranch d)))) ≡ cond t (Some d) None
    by_test true = refl
    by_test false = refl

-- after this mark an operator decided
abbrev pub IsDecidedMark : Mark → Type 0
IsDecidedMark Decided = Unit {0}
IsDecidedMark (ToldOf o) = Unit {0}
IsDecidedMark _ = ⊥

-- an outcome that is told comes after an operator's decision
abbrev pub MayFollow : Mark → Mark → Type 0
MayFollow (ToldOf o) m = IsDecidedMark m
MayFollow _ m = Unit {0}

-- the same of a record that tells the case an outcome
abbrev pub FitsTold : Mark → BranchName → Record → Type 0
FitsTold m b (Told a o) = same_branch a b ≡ true → IsDecidedMark m
FitsTold m b _ = Unit {0}

-- one record as it is read: of which case, and what becomes of its mark
pub record One (place : Place) (l : LogRecord) (o : Option Case) (x : Mark → Mark) : Type 0 where
  pub read : Record
  pub is : own_records place (l ∷ []) ≡ read ∷ []
  pub marks : (c : Case) (m : Mark) → mark_after (CaseBranch c) m read ≡ cond (is_it o c) (x m) m
  pub fits : (c : Case) (m : Mark) → (is_it o c ≡ true → MayFollow (x m) m) → FitsTold m (CaseBranch c) read
  pub case : record_case read ≡ o
  pub boot : (n : ℕ) → boot_after n read ≡ boot_after n l.entry

module _ (me p : ProcessId) (tree : List TreeProcess) where
  -- a record of a branch is read under the branch's name
  pub read_as : (r : BranchName → Record) (q : Option ProcessId) (b : BranchName)
      → ((c d : BranchName) → renamed d (r c) ≡ r d)
      → ((c : BranchName) → record_case (r c) ≡ branch_case c)
      → own_records (leaf_place me p tree) (record { entry = r b; parent = q } ∷ [])
      ≡ r (read_name (leaf_place me p tree) q b) ∷ []
  unfolding own_records
  read_as r q (Foreign y) names case =
      ap (λ o. own_by (leaf_place me p tree) (record { entry = r (Foreign y); parent = q }) o ++ [])
      (case (Foreign y))
  read_as r q (CaseBranch d) names case =
      ap (λ o. own_by (leaf_place me p tree) (record { entry = r (CaseBranch d); parent = q }) o
      ++ []) (case (CaseBranch d))
      ∙ by_test (is_own (leaf_place me p tree) q d)
    where
      by_test : (t : Bool) → cond t (r (CaseBranch d) ∷ [])
          (foreign_to (AtLeaf p) q d (r (CaseBranch d))) ++ []
          ≡ r (cond t (CaseBranch d) (Foreign (name_xid q (CaseBranch d)))) ∷ []
      by_test true = refl
      by_test false = ap (λ z. z ∷ []) (names (CaseBranch d) (Foreign (name_xid q (CaseBranch d))))

  one_branch : (r : BranchName → Record) (q : Option ProcessId) (b : BranchName) (x : Mark)
      → ((c d : BranchName) → renamed d (r c) ≡ r d)
      → ((c : BranchName) → record_case (r c) ≡ branch_case c)
      → ((c d : BranchName) (m : Mark) → mark_after d m (r c) ≡ cond (same_branch c d) x m)
      → ((c : BranchName) (n : ℕ) → boot_after n (r c) ≡ n)
      → ((c d : BranchName) (m : Mark) → (same_branch c d ≡ true → MayFollow x m) → FitsTold m d (r c))
      → One (leaf_place me p tree) (record { entry = r b; parent = q })
      (own_case (leaf_place me p tree) q b) (λ m. x)
  one_branch r q b x names case marks boots fits = record {
    read = r (read_name (leaf_place me p tree) q b);
    is = read_as r q b names case;
    marks = λ c m. marks (read_name (leaf_place me p tree) q b) (CaseBranch c) m
        ∙ ap (λ t. cond t x m) (read_is (leaf_place me p tree) q b c);
    fits = λ c m h. fits (read_name (leaf_place me p tree) q b) (CaseBranch c) m
        (λ e. h (sym (read_is (leaf_place me p tree) q b c) ∙ e));
    case = case (read_name (leaf_place me p tree) q b) ∙ case_is (leaf_place me p tree) q b;
    boot = λ n. boots (read_name (leaf_place me p tree) q b) n ∙ sym (boots b n);
  }

  pub one_prepared : (q : Option ProcessId) (b : BranchName) (ws : List Write)
      → One (leaf_place me p tree) (record { entry = PreparedRecord b ws; parent = q })
      (own_case (leaf_place me p tree) q b) (λ m. Promised)
  one_prepared q b ws = one_branch (λ c. PreparedRecord c ws) q b Promised (λ c d. refl) (λ c. refl)
      (λ c d m. refl) (λ c n. refl) (λ c d m h. tt)

  pub one_committed : (q : Option ProcessId) (b : BranchName)
      → One (leaf_place me p tree) (record { entry = Committed b; parent = q })
      (own_case (leaf_place me p tree) q b) (λ m. Finished)
  one_committed q b = one_branch Committed q b Finished (λ c d. refl) (λ c. refl)
      (λ c d m. refl) (λ c n. refl) (λ c d m h. tt)

  pub one_rolled_back : (q : Option ProcessId) (b : BranchName)
      → One (leaf_place me p tree) (record { entry = RolledBack b; parent = q })
      (own_case (leaf_place me p tree) q b) (λ m. Finished)
  one_rolled_back q b = one_branch RolledBack q b Finished (λ c d. refl) (λ c. refl)
      (λ c d m. refl) (λ c n. refl) (λ c d m h. tt)

  pub one_direct : (q : Option ProcessId) (b : BranchName) (ws : List Write)
      → One (leaf_place me p tree) (record { entry = Direct b ws; parent = q })
      (own_case (leaf_place me p tree) q b) (λ m. Finished)
  one_direct q b ws = one_branch (λ c. Direct c ws) q b Finished (λ c d. refl) (λ c. refl)
      (λ c d m. refl) (λ c n. refl) (λ c d m h. tt)

  pub one_forgot : (q : Option ProcessId) (b : BranchName)
      → One (leaf_place me p tree) (record { entry = Forgot b; parent = q })
      (own_case (leaf_place me p tree) q b) (λ m. Finished)
  one_forgot q b = one_branch Forgot q b Finished (λ c d. refl) (λ c. refl) (λ c d m. refl)
      (λ c n. refl) (λ c d m h. tt)

  pub one_committed_so : (q : Option ProcessId) (b : BranchName)
      → One (leaf_place me p tree) (record { entry = HeurCommit b; parent = q })
      (own_case (leaf_place me p tree) q b) (λ m. Decided)
  one_committed_so q b = one_branch HeurCommit q b Decided (λ c d. refl) (λ c. refl)
      (λ c d m. refl) (λ c n. refl) (λ c d m h. tt)

  pub one_rolled_back_so : (q : Option ProcessId) (b : BranchName)
      → One (leaf_place me p tree) (record { entry = HeurRollback b; parent = q })
      (own_case (leaf_place me p tree) q b) (λ m. Decided)
  one_rolled_back_so q b = one_branch HeurRollback q b Decided (λ c d. refl) (λ c. refl)
      (λ c d m. refl) (λ c n. refl) (λ c d m h. tt)

  pub one_told : (q : Option ProcessId) (b : BranchName) (o : Outcome)
      → One (leaf_place me p tree) (record { entry = Told b o; parent = q })
      (own_case (leaf_place me p tree) q b) (λ m. ToldOf o)
  one_told q b o = one_branch (λ c. Told c o) q b (ToldOf o) (λ c d. refl) (λ c. refl)
      (λ c d m. refl) (λ c n. refl) (λ c d m h. h)

  -- a record of no branch
  pub one_opened : (q : Option ProcessId) (n : ℕ)
      → One (leaf_place me p tree) (record { entry = Opened n; parent = q }) None (λ m. m)
  unfolding own_records
  one_opened q n = record {
    read = Opened n;
    is = refl;
    marks = λ c m. refl;
    fits = λ c m h. tt;
    case = refl;
    boot = λ k. refl;
  }

  pub one_base : (q : Option ProcessId) (n : ℕ)
      → One (leaf_place me p tree) (record { entry = Base n; parent = q }) None (λ m. m)
  unfolding own_records
  one_base q n = record {
    read = Base n;
    is = refl;
    marks = λ c m. refl;
    fits = λ c m h. tt;
    case = refl;
    boot = λ k. refl;
  }

  pub one_pair : (q : Option ProcessId) (k v : List ℕ)
      → One (leaf_place me p tree) (record { entry = Pair k v; parent = q }) None (λ m. m)
  unfolding own_records
  one_pair q k v = record {
    read = Pair k v;
    is = refl;
    marks = λ c m. refl;
    fits = λ c m h. tt;
    case = refl;
    boot = λ n. refl;
  }
