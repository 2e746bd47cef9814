-- Records that a subordinate can have written are taken, one after another.
use Rattle.std.proofs.Common.{◌≡◌, ◌∙◌, ◌≤◌, true, Option, Some, None, List, [], ◌∷◌, ◌++◌, refl, sym, ap, subst, is_some, arith}
use Rattle.std.proofs.lemmas.Grind.{common_steps}
use Rattle.std.specs.Prelude.{Result, Ok, Err, IfErr, IsErrAnd}
use Rattle.std.specs.List.{AllByRecursion}
use Rattle.protocol.specs.declared.names.Case.{Case}
use Rattle.protocol.specs.declared.names.Kind.TheVariants.{Manager}
use Rattle.protocol.specs.declared.names.Outcome.{Outcome}
use Rattle.protocol.specs.declared.names.ProcessId.{ProcessId}
use Rattle.protocol.specs.declared.records.BranchName.{BranchName}
use Rattle.protocol_words.specs.Variants.{CaseBranch, PreparedRecord}
use Rattle.protocol.specs.declared.records.LogRecord.{LogRecord}
use Rattle.protocol.specs.declared.records.Record.{Record}
use Rattle.protocol.specs.declared.records.Record.TheVariants.{Opened, Collecting, Prepare, Commit, Abort, End, Committed, RolledBack, Direct, HeurCommit, HeurRollback, Told, Forgot, Base, Pair, Cleared}
use Rattle.protocol.specs.declared.trees.TreeProcess.{TreeProcess}
use Rattle.protocol.specs.LogNames.{is_own, name_xid, own_records}
use Rattle.protocol.specs.Records.{boot_of}
use Rattle.protocol.specs.Standings.{Decided, Finished, Mark, Promised, ToldOf, Unmarked, mark_at}
use Rattle.protocol.specs.Views.{leaf_place}
use Rattle.xa_tables.specs.declared.states.BranchState.TheVariants.{S0, S3, S5}
use Rattle.log_rules.specs.sound.Sound.{IsSound, IsSoundEntry}
use Rattle.log_rules.proofs.sound.Names.{names_read_back}
use Rattle.resource_manager.specs.Orders.{MayFollow}
use Rattle.resource_manager.specs.Restarting.{marked_state}
use Rattle.sub_branches.specs.declared.branch.BranchStage.TheVariants.{Heuristic, Prepared}
use Rattle.sub_branches.specs.Tables.{branch_in}
use Rattle.sub_branches.specs.declared.cases.ReplayedCases.{ReplayedCases}
use Rattle.sub_branches.specs.declared.names.RebuildError.{RebuildError}
use Rattle.sub_branches.specs.declared.names.RebuildError.TheVariants.{Exhausted, Memory, Unfit}
use Rattle.sub_branches.specs.Rebuilt.{AreFit, CanCome, CanComeBy, CanDecide, DecidesWhere, IsRefusal, RecordsLeave, NameReads, PromisesWhere, branch_left, kept_at, own_case, saying_of}
use Rattle.sub_branches.proofs.Marks.{marks_alike}
use Rattle.sub_branches.proofs.Steps.{own_is, own_parent}

all_at : {A : Type 0} (P : A → Type 0) (xs : List A) (x : A) (ys : List A)
    → AllByRecursion P (xs ++ x ∷ ys) → P x
all_at P [] x ys all = all.0
all_at P (z ∷ xs) x ys all = all_at P xs x ys all.1

not_live : (p : ProcessId) (c : Case) (m : Mark) → marked_state m ≡ S0 → branch_left p c m ≡ None
not_live p c Unmarked e = refl
not_live p c Finished e = refl
not_live p c Promised e = absurd (cc)
not_live p c Decided e = absurd (cc)
not_live p c (ToldOf o) e = absurd (cc)

module _ (me p : ProcessId) (tree : List TreeProcess) (ls rest : List LogRecord) (s : ReplayedCases)
    (left : RecordsLeave (leaf_place me p tree) p ls s) where
  has_ticket : (q : Option ProcessId) (c : Case) → is_own (leaf_place me p tree) q c ≡ true
      → is_some c.ticket ≡ true
  has_ticket q c own = grind (arith, common_steps)

  -- a case of the process's own is kept as its name is marked
  kept_is : (q : Option ProcessId) (b : BranchName) (c : Case) → own_case (leaf_place me p tree) q b ≡ Some c
      → NameReads q b
      → branch_in s.branches c ≡ branch_left p c (mark_at ls (name_xid q b))
  kept_is q b c is name =
      let own = own_is (leaf_place me p tree) q b c is in
      let under : q ≡ Some p = own_parent me p tree ls s left q c own.1 in
      let mine : is_own (leaf_place me p tree) (Some p) c ≡ true =
      ap (λ r. is_own (leaf_place me p tree) r c) (sym under) ∙ own.1 in
      let named : NameReads (Some p) (CaseBranch c) =
      subst (λ r. NameReads r (CaseBranch c)) under (subst (NameReads q) own.0 name) in
      left.branches c
      ∙ ap (branch_left p c) (sym (marks_alike me p tree c mine named ls left.reads))
      ∙ ap (λ (a : BranchName). branch_left p c (mark_at ls (name_xid (Some p) a))) (sym own.0)
      ∙ ap (λ (r : Option ProcessId). branch_left p c (mark_at ls (name_xid r b))) (sym under)

  promises : (q : Option ProcessId) (b : BranchName) (o : Option Case)
      → own_case (leaf_place me p tree) q b ≡ o → NameReads q b
      → marked_state (mark_at ls (name_xid q b)) ≡ S0 → PromisesWhere s o
  promises q b None is name m = tt
  promises q b (Some c) is name m = record {
    given = has_ticket q c (own_is (leaf_place me p tree) q b c is).1;
    fresh = kept_is q b c is name ∙ not_live p c (mark_at ls (name_xid q b)) m;
  }

  decides : (q : Option ProcessId) (b : BranchName) (o : Option Case)
      → own_case (leaf_place me p tree) q b ≡ o → NameReads q b
      → marked_state (mark_at ls (name_xid q b)) ≡ S3 → DecidesWhere s None o
  decides q b None is name m = tt
  decides q b (Some c) is name m = by_mark (mark_at ls (name_xid q b)) m (kept_is q b c is name)
    where
      by_mark : (k : Mark) → marked_state k ≡ S3 → branch_in s.branches c ≡ branch_left p c k
          → CanDecide s None c
      by_mark Promised e h = record { branch = kept_at p c Prepared; live = h; fits = refl }
      by_mark Unmarked e h = absurd (cc)
      by_mark Finished e h = absurd (cc)
      by_mark Decided e h = absurd (cc)
      by_mark (ToldOf o) e h = absurd (cc)

  tells : (q : Option ProcessId) (b : BranchName) (told : Outcome) (o : Option Case)
      → own_case (leaf_place me p tree) q b ≡ o → NameReads q b
      → marked_state (mark_at ls (name_xid q b)) ≡ S5 → DecidesWhere s (Some told) o
  tells q b told None is name m = tt
  tells q b told (Some c) is name m = by_mark (mark_at ls (name_xid q b)) m (kept_is q b c is name)
    where
      by_mark : (k : Mark) → marked_state k ≡ S5 → branch_in s.branches c ≡ branch_left p c k
          → CanDecide s (Some told) c
      by_mark Decided e h = record { branch = kept_at p c (Heuristic None); live = h; fits = refl }
      by_mark (ToldOf o) e h = record { branch = kept_at p c (Heuristic (Some o)); live = h; fits = refl }
      by_mark Unmarked e h = absurd (cc)
      by_mark Finished e h = absurd (cc)
      by_mark Promised e h = absurd (cc)

  by_entry : (q : Option ProcessId) (r : Record) → IsSoundEntry Manager q r
      → MayFollow ls (record { entry = r; parent = q })
      → CanComeBy (leaf_place me p tree) s q (saying_of r)
  by_entry q (Opened n) sound may = tt
  by_entry q (Base n) sound may = tt
  by_entry q (Pair k v) sound may = tt
  by_entry q (PreparedRecord b ws) sound may =
      let name = names_read_back q b sound.0 in
      (name, promises q b (own_case (leaf_place me p tree) q b) refl name may)
  by_entry q (Committed b) sound may = names_read_back q b sound
  by_entry q (RolledBack b) sound may = names_read_back q b sound
  by_entry q (Direct b ws) sound may = names_read_back q b sound.0
  by_entry q (Forgot b) sound may = names_read_back q b sound
  by_entry q (HeurCommit b) sound may =
      let name = names_read_back q b sound in
      (name, decides q b (own_case (leaf_place me p tree) q b) refl name may)
  by_entry q (HeurRollback b) sound may =
      let name = names_read_back q b sound in
      (name, decides q b (own_case (leaf_place me p tree) q b) refl name may)
  by_entry q (Told b o) sound may =
      let name = names_read_back q b sound in
      (name, tells q b o (own_case (leaf_place me p tree) q b) refl name may)
  by_entry q (Collecting c ts) sound may = absurd sound.1
  by_entry q (Prepare c ts) sound may = absurd sound.1
  by_entry q (Commit c ts) sound may = absurd sound.1
  by_entry q (Abort c ts) sound may = absurd sound.1
  by_entry q (End c rep) sound may = absurd sound.1
  by_entry q (Cleared c) sound may = absurd sound.1

  pub can_come : (l : LogRecord) → AreFit (leaf_place me p tree) (ls ++ l ∷ rest)
      → CanCome (leaf_place me p tree) s l
  can_come l fit = by_entry l.parent l.entry (all_at (IsSound Manager) ls l rest fit.sound)
      (fit.ordered ls l rest refl)

-- the newest boot of a ticket is one that was reached
pub newest_within : (me p : ProcessId) (tree : List TreeProcess) (ls : List LogRecord) (s : ReplayedCases)
    → RecordsLeave (leaf_place me p tree) p ls s → AreFit (leaf_place me p tree) ls → s.newest ≤ s.boot
newest_within me p tree ls s left fit =
    subst (λ n. s.newest ≤ n) (sym left.boot)
    (left.newest (boot_of (own_records (leaf_place me p tree) ls)) fit.reached)

-- what would be refused as none that fits is none that fits closer
pub refuses_more : (Close Fits : Type 0) → (Close → Fits) → (e : RebuildError) → IsRefusal Fits e
    → IsRefusal Close e
refuses_more Close Fits so Memory h = tt
refuses_more Close Fits so Unfit h = λ close. h (so close)
refuses_more Close Fits so Exhausted h = absurd h

-- an error that is passed on
pub passed_on : {T E : Type 0} (r : Result T E) (e : E) (P : E → Type 0) → IsErrAnd r (λ x. x ≡ e) → P e
    → IfErr r P
passed_on (Ok t) e P is h = tt
passed_on (Err x) e P is h = subst P (sym is) h
