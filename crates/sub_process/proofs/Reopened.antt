-- A subordinate over the log that an earlier one left.
use Rattle.std.proofs.Common.{◌≡◌, ◌≤◌, ◌∙◌, ◌+◌, ◌-◌, ◌^◌, ◌∷◌, ◌++◌, [], ℕ, false, List, length, take, ap, subst, arith, length-append}
use Rattle.std.proofs.lemmas.List.{append-nil, take_at}
use Rattle.std.specs.List.{AllByRecursion}
use Rattle.xa_codes.specs.declared.code.Code.{Code}
use Rattle.xa_assoc.specs.Answers.{OpensManager}
use Rattle.log_text.specs.Forms.{log_form}
use Rattle.log_text.specs.declared.form.LogForm.{LogForm}
use Rattle.protocol.specs.declared.names.Kind.TheVariants.{Manager}
use Rattle.protocol.specs.declared.names.ProcessId.{ProcessId}
use Rattle.protocol.specs.declared.records.LogRecord.{LogRecord}
use Rattle.protocol.specs.declared.trees.TreeProcess.{TreeProcess}
use Rattle.protocol.specs.LogNames.{own_records}
use Rattle.protocol.specs.Records.{boot_of}
use Rattle.protocol.specs.Views.{leaf_place}
use Rattle.log_rules.specs.sound.Sound.{IsSound}
use Rattle.log_records.specs.Sights.{LogSight, left_by, records_of, whole_within}
use Rattle.process_state.specs.States.{CoreState, forced_sight}
use Rattle.process_state.specs.Restarting.{LeftSo, ProcessRestarts}
use Rattle.process_state.proofs.Lefts.{left_alike}
use Rattle.resource_manager.specs.Restarting.{IsRestarted, RestartsManager, boot_record, next_boot, with_boot}
use Rattle.resource_manager.specs.Sights.{ManagerCalls, ManagerSight}
use Rattle.sub_branches.proofs.Marks.{boots_alike}
use Rattle.sub_branches.specs.declared.rebuilt.RebuiltBranches.{RebuiltBranches}
use Rattle.sub_branches.specs.declared.names.RebuildError.{RebuildError}
use Rattle.sub_branches.specs.declared.names.RebuildError.TheVariants.{Exhausted, Memory, Unfit}
use Rattle.sub_branches.specs.Rebuilt.{BranchesNotRebuilt, RebuildsBranches}
use Rattle.sub_process.specs.Steps.{NotReopenedOver, PromisesLeft, left_before}
use Rattle.sub_process.specs.Fronts.{IsHeader}
use Rattle.sub_process.specs.declared.subordinate.Front.{Front}
use Rattle.sub_process.specs.Subordinates.{IsTied, SubState, core_of, place_of}
use Rattle.sub_process.proofs.Reached.{header_front}
use Rattle.sub_process.proofs.Restarted.{promises_left, reopened_tied, restarted, shown_restart}

-- the records before the last
before_last : (ls : List LogRecord) (l : LogRecord)
    → take (length (ls ++ l ∷ []) - 1) (ls ++ l ∷ []) ≡ ls
before_last ls l = take_at ls (l ∷ []) (length (ls ++ l ∷ []) - 1) (omega (arith, length-append ls (l ∷ [])))

-- all records that are forced are left
all_forced : (form : LogForm) (ls : List LogRecord) (failures : ℕ)
    → left_by (forced_sight form ls failures) 0 ≡ ls
unfolding whole_within
all_forced form ls failures = append-nil ls

-- the records that a manager restarted over
pub left_is : (before mid : ManagerSight) (all : ℕ) → RestartsManager before mid all
    → left_before mid ≡ left_by before.log all
left_is before mid all h =
    let ls = left_by before.log all in
    let log : left_by mid.log 0 ≡ with_boot ls =
    ap (λ (l : LogSight). left_by l 0) h.log ∙ all_forced before.log.form (with_boot ls) before.log.failures
    in
    ap (λ (rs : List LogRecord). take (length rs - 1) rs) log
    ∙ before_last ls (boot_record (next_boot ls))

-- what holds of all records holds of the last
of_last : {A : Type 0} (P : A → Type 0) (xs : List A) (x : A) → AllByRecursion P ((xs ++ x ∷ []) ++ []) → P x
of_last P [] x all = all.0
of_last P (y ∷ ys) x all = of_last P ys x all.1

-- a manager that restarted had a boot left
boot_left : (m : ManagerSight) (me p : ProcessId) (tree : List TreeProcess)
    → AllByRecursion (IsSound Manager) (records_of m.log.kept) → IsRestarted m
    → 2 ^ 63 ≤ boot_of (own_records (leaf_place me p tree) (left_before m)) + 1 → ⊥
boot_left m me p tree sound h used =
    let ls = left_by h.old.log h.keep in
    let last : IsSound Manager (boot_record (next_boot ls)) =
    of_last (IsSound Manager) ls (boot_record (next_boot ls))
    (subst (λ (l : LogSight). AllByRecursion (IsSound Manager) (records_of l.kept)) h.restarts.log sound) in
    let from : 2 ^ 63 ≤ boot_of (own_records (leaf_place me p tree) ls) + 1 =
    subst (λ ks. 2 ^ 63 ≤ boot_of (own_records (leaf_place me p tree) ks) + 1)
    (left_is h.old m h.keep h.restarts) used in
    absurd (omega (arith, last.1, from, boots_alike me p tree ls))

-- so it is never for want of a boot that no process goes on over its records
pub not_over : (m : ManagerSight) (me p : ProcessId) (tree : List TreeProcess)
    → AllByRecursion (IsSound Manager) (records_of m.log.kept) → IsRestarted m → (e : RebuildError)
    → BranchesNotRebuilt (leaf_place me p tree) (left_before m) e → NotReopenedOver (leaf_place me p tree) m e
not_over m me p tree sound h Memory why = tt
not_over m me p tree sound h Unfit why = why
not_over m me p tree sound h Exhausted why = absurd (boot_left m me p tree sound h why)

module _ (s : SubState) (all : ℕ) (r : RebuiltBranches) (mid m : ManagerSight)
    (refuses : Code → Type 0) (answer : Code)
    (made : RebuildsBranches (leaf_place s.me s.parent s.tree) s.parent (left_before mid) r)
    (restarts : RestartsManager s.manager mid all)
    (calls : ManagerCalls mid m (refuses answer) (λ old new. OpensManager old new 0 false answer))
    (own : s.manager.log.form ≡ log_form s.me Manager) where
  -- the subordinate over it
  abbrev pub over : SubState
  over = record {
    me = s.me;
    parent = s.parent;
    tree = s.tree;
    given = 0;
    table = r.branches;
    manager = m;
  }

  rebuilt : RebuildsBranches (leaf_place s.me s.parent s.tree) s.parent (left_by s.manager.log all) r
  rebuilt = subst (λ (ls : List LogRecord). RebuildsBranches (leaf_place s.me s.parent s.tree) s.parent ls r)
      (left_is s.manager mid all restarts) made

  pub over_tied : (f : Front) → IsHeader f → IsTied f over
  over_tied f header = reopened_tied s all r mid m refuses answer rebuilt restarts calls own f
      (header_front (place_of s) m.log f header)

  pub over_left : (old : CoreState) → LeftSo old (core_of s).place s.manager.log.failures
      → (keep : ℕ) → left_by old.log keep ≡ left_by s.manager.log all
      → ProcessRestarts old keep (core_of over) (shown_restart (r.boot + 1) r.messages)
  over_left old so keep left =
      left_alike (core_of s) old all keep (core_of over) (shown_restart (r.boot + 1) r.messages)
      so.place_is so.failures_are left
      (restarted s all r mid m refuses answer rebuilt restarts calls own)

  pub over_promises : PromisesLeft (left_by s.manager.log all) m
  over_promises = promises_left s.manager mid m all refuses answer restarts calls
