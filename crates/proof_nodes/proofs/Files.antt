-- A file that kept what was forced is read at the next start.
use Rattle.std.proofs.Common.{◌≡◌, ◌∙◌, ◌-◌, ℕ, Bool, true, false, List, Some, find, length, take, nat_lt, ◌≤◌, inl, inr, refl, sym, ap, subst, arith}
use Rattle.protocol.specs.declared.records.LogRecord.{LogRecord}
use Rattle.log_rules.specs.order.Logs.{Damaged as DamagedLog, Whole, read_log}
use Rattle.log_text.specs.declared.form.LogForm.{LogForm}
use Rattle.log_records.specs.Sights.{left_by}
use Rattle.node_engine.proofs.Homes.{not_old}
use Rattle.tree_process.specs.declared.reopening.ProcessReopenError.{ProcessReopenError}
use Rattle.tree_process.specs.declared.reopening.ProcessReopenError.TheVariants.{Memory, Device, Damaged, Unfit, OldFormat}
use Rattle.tree_process.specs.Reopenings.{form_by}
use Rattle.tree_process.specs.Reopenings.{ProcessNotReopened, place_by}
use Rattle.tree_state.specs.Worlds.{WorldState}
use Rattle.proof_runs.specs.worlds.Follows.{FollowsBehindFaults}
use Rattle.process_state.specs.States.{CoreState, form_of}
use Rattle.protocol.specs.declared.trees.TreeProcess.{TreeProcess}
use Rattle.protocol.specs.Names.{same_process}
use Rattle.protocol.specs.Trees.{IsTree}
use Rattle.protocol.specs.World.{Made, World}
use Rattle.proof_nodes.specs.Files.{FindsLog, KeepsFile}
use Rattle.proof_nodes.specs.Nodes.{CallsItRead, OwnFilesAreRead}
use Rattle.proof_nodes.proofs.Finding.{finds_kept}
use Rattle.proof_nodes.proofs.Starts.{listed_place, seat_form}

-- the form of the log of a listed process
pub form_is : (s : WorldState) (es : List Made) (w : World) → FollowsBehindFaults es w s → (e : TreeProcess)
    → find (λ x. same_process x.id e.id) s.tree ≡ Some e → (c : CoreState) → s.node_at e.id ≡ Some c
    → form_of c.place ≡ form_by e
form_is s es w f e listed c there =
    ap form_of ((f.follows.nodes e.id c there).place ∙ listed_place s.tree e listed) ∙ seat_form s.tree e

module _ {L : Type 0} (bytes : L → List ℕ) (forced failures : L → ℕ) (tree : List TreeProcess)
    (e : TreeProcess)
    (c : CoreState) (store : L) (keep : ℕ) (k : KeepsFile (form_by e) c (bytes store) keep) where
  read_so : (error : ProcessReopenError) → ProcessNotReopened bytes forced failures (form_by e)
      (place_by tree e) store error
      → CallsItRead error
  read_so (Damaged place) h = elim h [
    | inl d ↦ (let clash : DamagedLog place ≡ Whole (left_by c.log keep) k.torn = sym d ∙ k.read in cc)
    | inr n ↦ n.1
  ]
  read_so OldFormat h = elim h [
    | inl old ↦ not_old (form_by e) (bytes store) refl old (left_by c.log keep) k.torn k.read
    | inr n ↦ n.1
  ]
  read_so Memory h = tt
  read_so Device h = tt
  read_so Unfit h = tt

pub own_files_are_read : {L : Type 0} (bytes : L → List ℕ) (forced failures : L → ℕ)
    → OwnFilesAreRead bytes forced failures
own_files_are_read bytes forced failures s es w is_tree f e listed c there store h =
    let keep = length (bytes store) - h.forced in
    read_so bytes forced failures s.tree e c store keep
    (subst (λ (p : LogForm). KeepsFile p c (bytes store) keep) (form_is s es w f e listed c there)
    (finds_kept s es w is_tree f e.id c there (bytes store) h))
