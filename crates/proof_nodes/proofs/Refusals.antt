-- No node is refused the file that the one before it left.
use Rattle.std.proofs.Common.{◌≡◌, ◌-◌, ◌∙◌, inl, inr, ℕ, true, false, List, [], length, refl, sym, ap, subst}
use Rattle.std.specs.List.{list_all}
use Rattle.protocol.specs.declared.records.LogRecord.{LogRecord}
use Rattle.protocol.specs.declared.trees.TreeProcess.{TreeProcess}
use Rattle.log_text.specs.declared.form.LogForm.{LogForm}
use Rattle.log_rules.specs.order.Logs.{Damaged as DamagedLog, Whole, read_log}
use Rattle.log_records.specs.Sights.{left_by, records_of}
use Rattle.proof_own_logs.specs.Fitting.{AreUsedUp}
use Rattle.proof_own_logs.proofs.Fitting.{new_logs_are_fit, own_logs_are_fit}
use Rattle.tree_process.specs.declared.reopening.ProcessReopenError.TheVariants.{Damaged, Device, Memory, OldFormat, Unfit}
use Rattle.tree_process.specs.Reopenings.{ProcessNotReopened, form_by, place_by}
use Rattle.node_engine.specs.declared.starting.StartError.{StartError}
use Rattle.node_engine.specs.declared.starting.StartError.TheVariants.{Reopen, Stranger}
use Rattle.node_engine.specs.Starts.{NamesOthers, NoStart, is_own_record}
use Rattle.node_engine.proofs.Homes.{not_old}
use Rattle.proof_nodes.specs.Files.{KeepsFile}
use Rattle.proof_nodes.specs.Refusals.{MayFail, NewFilesAreTakenUp, NodesAreNeverRefused, OwnFilesAreTakenUp}
use Rattle.proof_nodes.proofs.AtHome.{own_files_are_at_home}
use Rattle.proof_nodes.proofs.Files.{form_is}
use Rattle.proof_nodes.proofs.Finding.{finds_kept}
use Rattle.proof_nodes.proofs.Steps.{modelled_so}

-- why a start fails over bytes that read as records which are at home, and unfit only where numbers are used
-- up
module _ {L : Type 0} (bytes : L → List ℕ) (forced failures : L → ℕ) (tree : List TreeProcess)
    (e : TreeProcess)
    (store : L) (ls : List LogRecord) (torn : ℕ) (read : read_log (form_by e) (bytes store) ≡ Whole ls torn)
    (at_home : NamesOthers tree e (bytes store) → ⊥)
    (fit : ProcessNotReopened bytes forced failures (form_by e) (place_by tree e) store Unfit
    → AreUsedUp (form_by e).kind ls)
  where
    may_fail : (error : StartError) → NoStart bytes forced failures tree e store error
        → MayFail failures (form_by e).kind ls store error
    may_fail Stranger h = absurd (at_home h)
    may_fail (Reopen Memory) h = tt
    may_fail (Reopen Device) h = elim h [
      | inl fails ↦ fails
      | inr n ↦ absurd n.1
    ]
    may_fail (Reopen (Damaged place)) h = elim h [
      | inl d ↦ (let clash : DamagedLog place ≡ Whole ls torn = sym d ∙ read in cc)
      | inr n ↦ n.1
    ]
    may_fail (Reopen OldFormat) h = elim h [
      | inl old ↦ not_old (form_by e) (bytes store) refl old ls torn read
      | inr n ↦ n.1
    ]
    may_fail (Reopen Unfit) h = fit h

same_records : (a b : List LogRecord) (m n : ℕ) → Whole a m ≡ Whole b n → a ≡ b
same_records a b m n e = cc

pub new_files_are_taken_up : {L : Type 0} (bytes : L → List ℕ) (forced failures : L → ℕ)
    → NewFilesAreTakenUp bytes forced failures
new_files_are_taken_up bytes forced failures tree e store torn read =
    may_fail bytes forced failures tree e store [] torn read names_nobody
    (new_logs_are_fit bytes forced failures tree e store torn read)
  where
    names_nobody : NamesOthers tree e (bytes store) → ⊥
    names_nobody h =
        let are : records_of h.log.sight.kept ≡ [] =
        same_records _ _ h.opens.torn torn (sym h.opens.read ∙ read) in
        let clash : true ≡ false = sym (ap (list_all (is_own_record e.id e.parent tree)) are) ∙ h.others in
        cc

pub own_files_are_taken_up : {L : Type 0} (bytes : L → List ℕ) (forced failures : L → ℕ)
    → OwnFilesAreTakenUp bytes forced failures
own_files_are_taken_up bytes forced failures s es w is_tree f e listed c there store h =
    let keep = length (bytes store) - h.forced in
    let keeps : KeepsFile (form_by e) c (bytes store) keep =
    subst (λ (p : LogForm). KeepsFile p c (bytes store) keep) (form_is s es w f e listed c there)
    (finds_kept s es w is_tree f e.id c there (bytes store) h) in
    may_fail bytes forced failures s.tree e store (left_by c.log keep) keeps.torn keeps.read
    (own_files_are_at_home s es w is_tree f e listed c there (bytes store) h)
    (own_logs_are_fit bytes forced failures s es w is_tree f e listed c there
    h.leaves.is_log.stands keep keeps.torn
    store keeps.read)

-- Whichever nodes end and start.

pub nodes_are_never_refused : {L : Type 0} (bytes : L → List ℕ) (forced failures : L → ℕ)
    → NodesAreNeverRefused bytes forced failures
nodes_are_never_refused bytes forced failures tree s t is_tree opened steps e listed =
    let at = modelled_so tree s t is_tree opened steps in
    own_files_are_taken_up bytes forced failures t at.run.moves at.run.world at.is_tree
    at.run.follows e listed
