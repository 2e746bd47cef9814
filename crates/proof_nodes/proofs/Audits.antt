-- The audit of the files that nodes left is true of their run.
use Rattle.std.proofs.Common.{◌≡◌, ◌-◌, ◌∙◌, ℕ, Some, List, find, sym, ap}
use Rattle.protocol.specs.declared.records.LogRecord.{LogRecord}
use Rattle.protocol.specs.declared.trees.TreeProcess.{TreeProcess}
use Rattle.protocol.specs.Names.{same_process}
use Rattle.protocol.specs.Trees.{IsTree}
use Rattle.protocol.specs.World.{Made, World}
use Rattle.log_text.specs.declared.form.LogForm.{LogForm}
use Rattle.log_text.specs.Forms.{log_form}
use Rattle.log_rules.specs.order.Logs.{Whole, read_log}
use Rattle.log_script.specs.Logs.{bytes_of}
use Rattle.log_script.proofs.Formats.{second_form}
use Rattle.process_state.specs.States.{form_of}
use Rattle.proof_runs.specs.worlds.Follows.{FollowsBehindFaults, entered_of}
use Rattle.tree_state.specs.Worlds.{WorldState}
use Rattle.proof_runs.proofs.worlds.Whole.{keeps_headline}
use Rattle.proof_audits.specs.Audits.{IsReadSo}
use Rattle.proof_audits.proofs.Audits.{audited_truly}
use Rattle.proof_nodes.specs.Audits.{IsFoundWhole, NodesAreAuditedTruly}
use Rattle.proof_nodes.proofs.Branches.{entry_log}
use Rattle.proof_nodes.proofs.Finding.{begins, finds_kept}
use Rattle.proof_nodes.proofs.Steps.{modelled_so}

-- a file that holds all that its process keeps reads as that
read_so : (s : WorldState) (es : List Made) (w : World) → IsTree s.tree → FollowsBehindFaults es w s
    → (e : TreeProcess)
    → find (λ x. same_process x.id e.id) s.tree ≡ Some e → (bytes : List ℕ) → IsFoundWhole s e bytes
    → IsReadSo s e bytes
read_so s es w t f e found bytes h =
    let c = h.process in
    let keeps = finds_kept s es w t f e.id c h.there bytes h.finds in
    let mine : form_of c.place ≡ log_form e.id e.kind =
    ap form_of (f.follows.nodes e.id c h.there).place ∙ ap (log_form e.id) (entry_log s.tree t e.id e found)
    in
    record {
      process = c;
      there = h.there;
      torn = keeps.torn;
      read = ap (λ (p : LogForm). read_log p bytes)
          (second_form bytes e.id e.kind (begins c bytes h.finds) ∙ sym mine)
          ∙ (keeps.read ∙ ap (λ (ls : List LogRecord). Whole ls keeps.torn) h.all);
    }

pub nodes_are_audited_truly : NodesAreAuditedTruly
nodes_are_audited_truly tree s t is_tree opened steps works =
    let at = modelled_so tree s t is_tree opened steps in
    let k = keeps_headline t at in (
      k,
      λ logs found. audited_truly entered_of t k.run.moves k.run.world at.is_tree k.run.follows works logs
          (λ e listed. read_so t k.run.moves k.run.world at.is_tree k.run.follows e listed
          (bytes_of logs e.id)
          (found e listed)),
    )
