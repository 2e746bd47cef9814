-- Which records of a log are those of a manager's branch, by its whole name and as the process reads it.
use Rattle.std.proofs.Common.{◌≡◌, Bool, true, false, ◌&&◌, ◌||◌, if◌then◌else◌, List, [], ◌∷◌, ◌++◌, Option, Some, None, fold, refl, sym, ap, subst, ◌∙◌, arith}
use Rattle.std.proofs.lemmas.List.Folds.{list_any-append}
use Rattle.std.specs.List.{AllByRecursion, list_any}
use Rattle.std.specs.Prelude.{option_map}
use Rattle.xa_xid.specs.Xids.{XidParts}
use Rattle.protocol.specs.declared.names.Kind.TheVariants.{Manager}
use Rattle.protocol.specs.declared.names.ProcessId.{ProcessId}
use Rattle.protocol.specs.declared.records.BranchName.{BranchName}
use Rattle.protocol.specs.declared.records.BranchName.TheVariants.{Foreign}
use Rattle.protocol_words.specs.Variants.{CaseBranch}
use Rattle.protocol.specs.declared.records.LogRecord.{LogRecord}
use Rattle.protocol.specs.declared.records.Record.{Record}
use Rattle.protocol.specs.declared.records.Record.TheVariants.{Opened, Collecting, Prepare, Commit, Abort, End, Prepared, Committed, RolledBack, Direct, HeurCommit, HeurRollback, Told, Forgot, Base, Pair, Cleared}
use Rattle.protocol.specs.declared.records.Write.{Write}
use Rattle.protocol.specs.LogNames.{foreign_to, is_own, name_by, name_xid, own_by, own_records, parent_of, renamed, same_parent}
use Rattle.protocol.specs.NameLaws.{same_case-refl, same_case_tells, same_process_tells}
use Rattle.protocol.specs.Nodes.{AtLeaf, Place}
use Rattle.protocol.specs.Records.{branch_case, has, prepares_branch, record_branch, record_case, same_branch}
use Rattle.protocol.specs.Restarts.{is_open}
use Rattle.protocol.specs.Standings.{Decided, Finished, Mark, Promised, ToldOf, Unmarked, mark_after}
use Rattle.log_text.proofs.NameReading.{same_xid_is, same_xid_refl}
use Rattle.log_rules.specs.declared.trim.lives.Said.{Said}
use Rattle.log_rules.specs.declared.trim.lives.Said.TheVariants.{Nothing, Over, Waits}
use Rattle.log_rules.specs.trim.Tables.{is_live, is_prepared, said_after, same}
use Rattle.log_rules.specs.trim.Trims.{is_name, is_of, prepares, said_behind}
use Rattle.log_rules.proofs.trim.Names.{same_by_parts, same_refl}
use Rattle.log_rules.specs.sound.Sound.{IsSound, IsSoundName}
use Rattle.log_rules.proofs.reads.OwnNames.{one_name, own_parent}

-- Names.

branch_itself : (b : BranchName) → same_branch b b ≡ true
unfolding same_branch
branch_itself (CaseBranch c) = same_case-refl c
branch_itself (Foreign x) = same_xid_refl x

branch_is : (a b : BranchName) → same_branch a b ≡ true → a ≡ b
unfolding same_branch
branch_is (CaseBranch c) (CaseBranch d) h = let one : c ≡ d = grind (arith, same_case_tells) in
    ap CaseBranch one
branch_is (CaseBranch c) (Foreign y) h = absurd (cc)
branch_is (Foreign x) (CaseBranch d) h = absurd (cc)
branch_is (Foreign x) (Foreign y) h = ap Foreign (same_xid_is x y h)

same_parent_itself : (p q : Option ProcessId) → same_parent p q ≡ true → p ≡ q
same_parent_itself None None h = refl
same_parent_itself (Some p) None h = absurd (cc)
same_parent_itself None (Some q) h = absurd (cc)
same_parent_itself (Some p) (Some q) h = ap Some (grind (arith, same_process_tells))

-- the branch that a process reads in a name
abbrev pub read_name : Place → Option ProcessId → BranchName → BranchName
read_name place q (CaseBranch d) =
    if is_own place q d then CaseBranch d else Foreign (name_xid q (CaseBranch d))
read_name place q (Foreign y) = Foreign y

-- the XID of a branch that a process read
abbrev xid_read : Place → BranchName → XidParts
xid_read place (CaseBranch d) = name_xid (parent_of place.role) (CaseBranch d)
xid_read place (Foreign y) = y

xid_kept : (place : Place) (q : Option ProcessId) (b : BranchName)
    → xid_read place (read_name place q b) ≡ name_xid q b
xid_kept place q (CaseBranch d) = by_test (is_own place q d) refl
  where
    by_test : (k : Bool) → is_own place q d ≡ k
        → xid_read place (if k then CaseBranch d else Foreign (name_xid q (CaseBranch d)))
        ≡ name_xid q (CaseBranch d)
    by_test true e = ap (λ r. name_xid r (CaseBranch d)) (sym (same_parent_itself q (parent_of place.role)
        (own_parent place q d e)))
    by_test false e = refl
xid_kept place q (Foreign y) = refl

-- two names have one XID exactly where they are read as one branch
pub alike : (place : Place) (p q : Option ProcessId) (a b : BranchName) → IsSoundName p a → IsSoundName q b
    → same (name_xid p a) (name_xid q b) ≡ same_branch (read_name place q b) (read_name place p a)
alike place p q a b h k = by_test (same_branch (read_name place q b) (read_name place p a)) refl
  where
    by_test : (t : Bool) → same_branch (read_name place q b) (read_name place p a) ≡ t
        → same (name_xid p a) (name_xid q b) ≡ t
    by_test true e =
        let one : name_xid p a ≡ name_xid q b = sym (xid_kept place p a)
        ∙ ap (xid_read place) (sym (branch_is _ _ e)) ∙ xid_kept place q b in
        ap (same (name_xid p a)) (sym one) ∙ same_refl (name_xid p a)
    by_test false e = other (same (name_xid p a) (name_xid q b)) refl
      where
        other : (t : Bool) → same (name_xid p a) (name_xid q b) ≡ t → t ≡ false
        other false f = refl
        other true f =
            let names = one_name p q a b h k ((same_by_parts (name_xid p a) (name_xid q b)).0 f) in
            let read : read_name place p a ≡ read_name place q b = ap (λ n. read_name place n.0 n.1) names in
            let itself : same_branch (read_name place q b) (read_name place p a) ≡ true =
            ap (same_branch (read_name place q b)) read ∙ branch_itself (read_name place q b) in
            absurd (cc)

-- What is said, and the mark.

abbrev pub said_so : Mark → Said
said_so Unmarked = Nothing
said_so Promised = Waits
said_so Decided = Waits
said_so (ToldOf o) = Waits
said_so Finished = Over

pub live_is_open : (m : Mark) → is_live (said_so m) ≡ is_open m
live_is_open Unmarked = refl
live_is_open Promised = refl
live_is_open Decided = refl
live_is_open (ToldOf o) = refl
live_is_open Finished = refl

-- what one record of a manager's log is, as it is read: of a branch, or of none
pub record IsRead (place : Place) (entry : Record) (q : Option ProcessId) (read : List Record) (p : Option
    ProcessId) (a : BranchName) : Type 0 where
  pub says : (m : Mark) → said_so (fold (mark_after (read_name place p a)) m read)
      ≡ (if is_of (name_xid p a) (record { entry = entry; parent = q }) then said_after (said_so m) entry
      else said_so m)
  pub promises : has (prepares_branch (read_name place p a)) read
      ≡ (is_of (name_xid p a) (record { entry = entry; parent = q }) && is_prepared entry)

marked : (t k : Bool) (m n : Mark) (s : Said) → t ≡ k → said_so n ≡ s → said_so (if k then n else m)
    ≡ (if t then s else said_so m)
marked t true m n s e f = f ∙ ap (λ b. if b then s else said_so m) (sym e)
marked t false m n s e f = ap (λ b. if b then s else said_so m) (sym e)

promise : (t k : Bool) → t ≡ k → (k || false) ≡ (t && true)
promise t true e = ap (λ b. b && true) (sym e)
promise t false e = ap (λ b. b && true) (sym e)

no_promise : (t : Bool) → false ≡ (t && false)
no_promise true = refl
no_promise false = refl

module _ (place : Place) (p : Option ProcessId) (a : BranchName) (sound : IsSoundName p a) where
  of_prepared : (q : Option ProcessId) (b : BranchName) (ws : List Write)
      → is_of (name_xid p a) (record { entry = Prepared b ws; parent = q })
      ≡ same (name_xid p a) (name_xid q b)
  of_prepared q (CaseBranch d) ws = refl
  of_prepared q (Foreign y) ws = refl

  one_prepared : (q : Option ProcessId) (b : BranchName) (ws : List Write) → IsSoundName q b
      → IsRead place (Prepared b ws) q (Prepared (read_name place q b) ws ∷ []) p a
  unfolding has
  one_prepared q b ws h =
      let t : is_of (name_xid p a) (record { entry = Prepared b ws; parent = q })
      ≡ same_branch (read_name place q b) (read_name place p a) =
      of_prepared q b ws ∙ alike place p q a b sound h in
      record {
        says = λ m. marked (is_of (name_xid p a) (record { entry = Prepared b ws; parent = q })) (same_branch
            (read_name place q b) (read_name place p a)) m Promised Waits t refl;
        promises = promise (is_of (name_xid p a) (record { entry = Prepared b ws; parent = q })) (same_branch
            (read_name place q b) (read_name place p a)) t;
      }

  one_other : (q : Option ProcessId) (b : BranchName) (r : BranchName → Record) (n : Mark) (s : Said)
      → IsSoundName q b
      → ((c : BranchName) (m : Mark) → mark_after (read_name place p a) m (r c)
      ≡ (if same_branch c (read_name place p a) then n else m))
      → ((c d : BranchName) → prepares_branch d (r c) ≡ false)
      → ((m : Mark) → said_after (said_so m) (r b) ≡ s) → said_so n ≡ s → is_prepared (r b) ≡ false
      → (is_of (name_xid p a) (record { entry = r b; parent = q }) ≡ same (name_xid p a) (name_xid q b))
      → IsRead place (r b) q (r (read_name place q b) ∷ []) p a
  unfolding has
  one_other q b r n s h mark none said is plain of =
      let t : is_of (name_xid p a) (record { entry = r b; parent = q })
      ≡ same_branch (read_name place q b) (read_name place p a) = of ∙ alike place p q a b sound h in
      record {
        says = λ m. ap said_so (mark (read_name place q b) m) ∙ marked _ _ m n s t is
            ∙ ap (λ z. if is_of (name_xid p a) (record { entry = r b; parent = q }) then z else said_so m)
            (sym (said m));
        promises = ap (λ k. k || false) (none (read_name place q b) (read_name place p a)) ∙ no_promise _
            ∙ ap (λ k. is_of (name_xid p a) (record { entry = r b; parent = q }) && k) (sym plain);
      }

  none_named : (r : Record) (q : Option ProcessId) → ((m : Mark) → mark_after (read_name place p a) m r
      ≡ m) → prepares_branch (read_name place p a) r ≡ false
      → is_of (name_xid p a) (record { entry = r; parent = q }) ≡ false → IsRead place r q (r ∷ []) p a
  unfolding has
  none_named r q mark none of = record {
    says = λ m. ap said_so (mark m) ∙ ap (λ t. if t then said_after (said_so m) r else said_so m) (sym of);
    promises = ap (λ k. k || false) none ∙ ap (λ t. t && is_prepared r) (sym of);
  }

-- a manager's record as its process reads it
pub read_as : (place : Place) (s : ProcessId) → place.role ≡ AtLeaf s → (r : BranchName
    → Record) (q : Option ProcessId) (b : BranchName)
    → ((c d : BranchName) → renamed d (r c) ≡ r d) → ((c : BranchName) → record_case (r c) ≡ branch_case c)
    → own_by place (record { entry = r b; parent = q }) (record_case (r b)) ≡ r (read_name place q b) ∷ []
read_as place s role r q (Foreign y) name case = ap (own_by place (record {
  entry = r (Foreign y);
  parent = q;
})) (case (Foreign y))
read_as place s role r q (CaseBranch d) name case =
    ap (own_by place (record { entry = r (CaseBranch d); parent = q })) (case (CaseBranch d))
    ∙ by_test (is_own place q d)
  where
    by_test : (k : Bool) → (if k then r (CaseBranch d) ∷ [] else foreign_to place.role q d (r (CaseBranch d)))
        ≡ r (if k then CaseBranch d else Foreign (name_xid q (CaseBranch d))) ∷ []
    by_test true = refl
    by_test false = ap (λ z. foreign_to z q d (r (CaseBranch d))) role
        ∙ ap (λ z. z ∷ []) (name (CaseBranch d) (Foreign (name_xid q (CaseBranch d))))

module _ (place : Place) (s : ProcessId) (role : place.role
    ≡ AtLeaf s) (p : Option ProcessId) (a : BranchName) (sound : IsSoundName p a) where
  -- a record of a branch as it is read
  read_branch : (r : BranchName → Record) (q : Option ProcessId) (b : BranchName)
      → ((c d : BranchName) → renamed d (r c) ≡ r d) → ((c : BranchName) → record_case (r c) ≡ branch_case c)
      → IsRead place (r b) q (r (read_name place q b) ∷ []) p a
      → IsRead place (r b) q (own_by place (record { entry = r b; parent = q }) (record_case (r b))) p a
  read_branch r q b name case is = subst (λ rs. IsRead place (r b) q rs p a) (sym (read_as place s role r q b
      name case)) is

  of_branch : (r : BranchName → Record) (q : Option ProcessId) (b : BranchName)
      → ((c : BranchName) → record_case (r c)
      ≡ branch_case c) → ((c : BranchName) → record_branch (r c) ≡ Some c)
      → is_of (name_xid p a) (record { entry = r b; parent = q }) ≡ same (name_xid p a) (name_xid q b)
  of_branch r q (CaseBranch d) case named = ap (λ o. is_name (name_xid p a) (option_map (name_xid q) (name_by
      o (record_branch (r (CaseBranch d)))))) (case (CaseBranch d))
  of_branch r q (Foreign y) case named =
      ap (λ o. is_name (name_xid p a) (option_map (name_xid q) (name_by o (record_branch (r (Foreign y))))))
      (case (Foreign y))
      ∙ ap (λ o. is_name (name_xid p a) (option_map (name_xid q) o)) (named (Foreign y))

  -- a record of a branch that sets this mark
  read_other : (r : BranchName → Record) (n : Mark) (t : Said) (q : Option ProcessId) (b : BranchName)
      → IsSoundName q b
      → ((c d : BranchName) → renamed d (r c) ≡ r d) → ((c : BranchName) → record_case (r c) ≡ branch_case c)
      → ((c : BranchName) → record_branch (r c) ≡ Some c)
      → ((c : BranchName) (m : Mark) → mark_after (read_name place p a) m (r c)
      ≡ (if same_branch c (read_name place p a) then n else m))
      → ((c d : BranchName) → prepares_branch d (r c) ≡ false) → ((m : Mark) → said_after (said_so m) (r b)
      ≡ t) → said_so n ≡ t → is_prepared (r b) ≡ false
      → IsRead place (r b) q (own_by place (record { entry = r b; parent = q }) (record_case (r b))) p a
  read_other r n t q b h name case named mark none said is plain =
      read_branch r q b name case (one_other place p a sound q b r n t h mark none said is plain (of_branch r
      q b case named))

  pub record_read : (r : Record) (q : Option ProcessId) → IsSound Manager (record { entry = r; parent = q })
      → IsRead place r q (own_by place (record { entry = r; parent = q }) (record_case r)) p a
  record_read (Opened n) q h = none_named place p a sound (Opened n) q (λ m. refl) refl refl
  record_read (Base n) q h = none_named place p a sound (Base n) q (λ m. refl) refl refl
  record_read (Pair k v) q h = none_named place p a sound (Pair k v) q (λ m. refl) refl refl
  record_read (Prepared b ws) q h = read_branch (λ c. Prepared c ws) q b (λ c d. refl) (λ c. refl)
      (one_prepared place p a sound q b ws h.0)
  record_read (Committed b) q h = read_other Committed Finished Over q b h (λ c d. refl) (λ c. refl) (λ c.
      refl) (λ c m. refl) (λ c d. refl) (λ m. refl) refl refl
  record_read (RolledBack b) q h = read_other RolledBack Finished Over q b h (λ c d. refl) (λ c. refl) (λ c.
      refl) (λ c m. refl) (λ c d. refl) (λ m. refl) refl refl
  record_read (Direct b ws) q h = read_other (λ c. Direct c ws) Finished Over q b h.0 (λ c d. refl) (λ c.
      refl) (λ c. refl) (λ c m. refl) (λ c d. refl) (λ m. refl) refl refl
  record_read (HeurCommit b) q h = read_other HeurCommit Decided Waits q b h (λ c d. refl) (λ c. refl) (λ c.
      refl) (λ c m. refl) (λ c d. refl) (λ m. refl) refl refl
  record_read (HeurRollback b) q h = read_other HeurRollback Decided Waits q b h (λ c d. refl) (λ c. refl) (λ
      c. refl) (λ c m. refl) (λ c d. refl) (λ m. refl) refl refl
  record_read (Told b o) q h = read_other (λ c. Told c o) (ToldOf o) Waits q b h (λ c d. refl) (λ c. refl) (λ
      c. refl) (λ c m. refl) (λ c d. refl) (λ m. refl) refl refl
  record_read (Forgot b) q h = read_other Forgot Finished Over q b h (λ c d. refl) (λ c. refl) (λ c. refl) (λ
      c m. refl) (λ c d. refl) (λ m. refl) refl refl
  record_read (Collecting d ts) q h = absurd h.1
  record_read (Prepare d ts) q h = absurd h.1
  record_read (Commit d ts) q h = absurd h.1
  record_read (Abort d ts) q h = absurd h.1
  record_read (End d rep) q h = absurd h.1
  record_read (Cleared d) q h = absurd h.1

  -- Whole logs.

  fold_marks : (m : Mark) (xs ys : List Record) → fold (mark_after (read_name place p a)) m (xs ++ ys)
      ≡ fold (mark_after (read_name place p a)) (fold (mark_after (read_name place p a)) m xs) ys
  fold_marks m [] ys = refl
  fold_marks m (x ∷ xs) ys = fold_marks (mark_after (read_name place p a) m x) xs ys

  -- what the records of the name say is the mark of the branch that the process reads
  pub says_mark : (ls : List LogRecord) (m : Mark) → AllByRecursion (IsSound Manager) ls
      → fold (said_behind (name_xid p a)) (said_so m) ls
      ≡ said_so (fold (mark_after (read_name place p a)) m (own_records place ls))
  unfolding own_records
  says_mark [] m h = refl
  says_mark (l ∷ ls) m h =
      let here = record_read l.entry l.parent h.0 in
      let own = own_by place l (record_case l.entry) in
      ap (λ z. fold (said_behind (name_xid p a)) z ls) (sym (here.says m))
      ∙ says_mark ls (fold (mark_after (read_name place p a)) m own) h.1
      ∙ ap said_so (sym (fold_marks m own (own_records place ls)))

  pub promises_alike : (ls : List LogRecord) → AllByRecursion (IsSound Manager) ls
      → list_any (prepares (name_xid p a)) ls
      ≡ has (prepares_branch (read_name place p a)) (own_records place ls)
  unfolding own_records has
  promises_alike [] h = refl
  promises_alike (l ∷ ls) h =
      let here = record_read l.entry l.parent h.0 in
      ap (λ b. b || list_any (prepares (name_xid p a)) ls) (sym here.promises)
      ∙ ap (λ b. has (prepares_branch (read_name place p a)) (own_by place l (record_case l.entry)) || b)
      (promises_alike ls h.1)
      ∙ sym (list_any-append (prepares_branch (read_name place p a)) (own_by place l (record_case l.entry))
      (own_records place ls))
