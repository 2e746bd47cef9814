-- The audit of the logs that a run left is true of that run.
use Rattle.std.proofs.Common.{◌≡◌, ◌∙◌, ◌&&◌, ◌||◌, ℕ, Bool, true, false, if◌then◌else◌, is_none, is_some, Option, Some, None, List, find, refl, sym, ap, subst}
use Rattle.std.specs.List.{AllByRecursion}
use Rattle.protocol.specs.declared.events.Event.{Event}
use Rattle.protocol.specs.declared.names.Kind.{Kind}
use Rattle.protocol.specs.declared.names.Kind.TheVariants.{Coordinator, Manager}
use Rattle.protocol.specs.declared.names.ProcessId.{ProcessId}
use Rattle.protocol.specs.declared.trees.TreeProcess.{TreeProcess}
use Rattle.protocol.specs.LogNames.{own_records}
use Rattle.protocol.specs.Names.{same_process}
use Rattle.protocol.specs.Nodes.{Place, is_listed, kept, place_of, role_by, role_of}
use Rattle.protocol.specs.Trees.{IsTree, has_wrong_roots, is_manager_kind, is_top}
use Rattle.protocol.specs.World.{Made, World}
use Rattle.log_script.specs.declared.line.ProcessLog.{ProcessLog}
use Rattle.log_script.specs.Logs.{IsLogsText, bytes_of}
use Rattle.tree_script.specs.Inputs.{IsScript}
use Rattle.log_script.specs.Faults.{Damage, damage_text, first_damage}
use Rattle.log_text.specs.Forms.{form_in, log_form}
use Rattle.log_rules.specs.order.Logs.{read_as}
use Rattle.log_script.proofs.Formats.{second_form}
use Rattle.log_script.specs.spelling.Fits.{FitsEntry, FitsTree}
use Rattle.log_script.proofs.spelling.OneWay.{read_has_no_fault, read_in_one_way}
use Rattle.log_script.proofs.spelling.Read.{table_fits}
use Rattle.log_script.proofs.spelling.Written.{written_is_read}
use Rattle.log_records.specs.Sights.{body, records_of}
use Rattle.log_records.specs.Texts.{records_in}
use Rattle.report_io.specs.declared.status.Status.TheVariants.{Ended}
use Rattle.process_state.specs.States.{CoreState, form_of, kind_of_role}
use Rattle.tree_state.specs.Fits.{KeepsOwn}
use Rattle.proof_runs.proofs.worlds.Kept.{keeps_own}
use Rattle.proof_runs.specs.worlds.Refusals.{LeadsTo, Refusal}
use Rattle.tree_state.specs.Runs.{IsOpenedTree}
use Rattle.proof_runs.specs.worlds.Follows.{Follows}
use Rattle.tree_state.specs.Worlds.{WorldState}
use Rattle.tree_world.specs.Nodes.{SpellsLogBy}
use Rattle.tree_engine.specs.declared.tree.TreeOutput.TheVariants.{Logs}
use Rattle.tree_world.specs.LogsLeft.{AreLogs}
use Rattle.tree_engine.specs.Logs.{LeavesLogs}
use Rattle.tree_engine.specs.Trees.{Tells, ending}
use Rattle.audit_tree.specs.Reports.{entry_kind, kept_lists, mismatches_in, whole_records}
use Rattle.audit_tree.specs.Truths.{AreKeptBehind, AreTrue}
use Rattle.audit_tree.proofs.TreePlaces.{listed_entry, named_so, not_found, role_if}
use Rattle.audit_tree.proofs.Truths.{true_of_runs}
use Rattle.audit_engine.specs.Audits.{AuditsLogs, IsAudited, IsAuditReport, OfInput, OfLog, Reports, audit_lines, ending_by}
use Rattle.log_script.specs.Refusals.{TellsDamage}
use Rattle.audit_engine.specs.declared.detail.Detail.{Detail}
use Rattle.audit_engine.specs.declared.ending.AuditStatus.{AuditStatus}
use Rattle.audit_engine.specs.declared.ending.AuditStatus.TheVariants as ending
use Rattle.rstar.specs.Laws.{AuditsOfLeftLogsAreTrue, AuditsTruly}
use Rattle.proof_left_logs.proofs.Entries.{none_failed}
use Rattle.rstar.proofs.Kept.{own_kept}
use Rattle.proof_left_logs.proofs.Left.{logs_fit, spells_at}
use Rattle.resolve_engine.proofs.Sound.{IsSoundLog, sound_at, sound_records}
use Rattle.proof_left_logs.proofs.Undamaged.{entry_log, none_damaged, some_node}
use Rattle.proof_left_logs.proofs.Unfailed.{NoneFailed, all_up}

-- What a run left.

module _ (end : WorldState) (t : IsTree end.tree) (es : List Made) (w : World) (follows : Follows es w end)
    (logs : List ProcessLog) (left : AreLogs end end.tree logs)
    (none : first_damage end.tree logs ≡ None) where
  abbrev tree : List TreeProcess
  tree = end.tree

  module _ (q : ProcessId) (listed : is_listed end.tree q ≡ true) where
    kept_by : (e : TreeProcess) → find (λ x. same_process x.id q) end.tree ≡ Some e → e.id ≡ q
        → (c : CoreState)
        → end.node_at q ≡ Some c → kept_lists end.tree logs q ≡ kept (w.at q)
    unfolding kept_lists
    kept_by e found here c there =
        let at = follows.nodes q c there in
        let mine : form_of c.place ≡ log_form q e.kind =
        ap (λ (p : Place). log_form p.me (kind_of_role c.place.role)) at.place
        ∙ ap (log_form q) (ap (λ (p : Place). kind_of_role p.role) at.place ∙ entry_log end.tree t q e found)
        in
        let spells : SpellsLogBy (Some c) (bytes_of logs q) =
        subst (λ o. SpellsLogBy o (bytes_of logs q)) there
        (subst (λ p. SpellsLogBy (end.node_at p) (bytes_of logs q)) here
        (spells_at end end.tree logs q e left found)) in
        let sound = subst (λ p. IsSoundLog p e.kind (bytes_of logs p)) here
        (sound_at logs end.tree q e none found) in
        let second : form_in (bytes_of logs q) q e.kind ≡ log_form q e.kind =
        second_form (bytes_of logs q) q e.kind spells.begins in
        ap (λ o. own_records (place_of end.tree q)
        (whole_records (read_as q (entry_kind o) (bytes_of logs q)))) found
        ∙ ap (own_records (place_of end.tree q))
        (sound_records (form_in (bytes_of logs q) q e.kind) (bytes_of logs q) sound.records
        sound.torn sound.read
        ∙ ap (λ f. records_in f 0 (body (bytes_of logs q))) (second ∙ sym mine)
        ∙ spells.read)
        ∙ ap (λ p. own_records p (records_of c.log.kept)) (sym at.place)
        ∙ own_kept (w.at q) c at.stands
        (subst (λ p. KeepsOwn p (w.at q)) (sym at.place) (keeps_own end.tree es w t follows.is_run q listed))

    kept_there : kept_lists end.tree logs q ≡ kept (w.at q)
    kept_there =
        let found = listed_entry end.tree q listed in
        let node = some_node (end.node_at q) (follows.listed q ∙ listed) in
        kept_by found.0 found.1 (named_so end.tree q found.0 found.1) node.0 node.1

  left_behind : NoneFailed es → AreKeptBehind end.tree es w (kept_lists end.tree logs)
  left_behind whole = record {
    is_run = follows.is_run;
    all_up = λ q listed. all_up end.tree es w follows.is_run whole q;
    kept_there = kept_there;
  }

-- What is written of it.

no_damage : {A : Type 0} (d : Damage) (x : ProcessId × ℕ) → d ≡ None → d ≡ Some x → A
no_damage d x none some = absurd (let both = sym none ∙ some in cc)

module _ (d : Detail) (tree : List TreeProcess) (logs : List ProcessLog) (w : World) (text report : List ℕ)
    (says : IsLogsText text tree logs) (none : first_damage tree logs ≡ None)
    (lines : AreTrue w (audit_lines tree logs)) where
  reported : (e : AuditStatus) → e ≡ ending_by (mismatches_in (audit_lines tree logs))
      → Reports d tree logs report
      → AuditsTruly d tree w text e report
  reported e ends reports = record {
    logs = logs;
    says = says;
    undamaged = none;
    truly = record {
      lines = audit_lines tree logs;
      text = reports.report;
      ends = ends;
      lines_true = lines;
    };
  }

  told : (e : AuditStatus) → TellsDamage tree logs report → AuditsTruly d tree w text e report
  told e damage = no_damage (first_damage tree logs) (damage.0, damage.1) none damage.2

  audited : (e : AuditStatus) → IsAudited d e tree logs report → AuditsTruly d tree w text e report
  audited ending.Agrees (reports, ends) = reported ending.Agrees (ap
      (λ b. if b then ending.Agrees else ending.Differs) (sym ends)) reports
  audited ending.Differs (reports, ends) = reported ending.Differs (ap
      (λ b. if b then ending.Agrees else ending.Differs) (sym ends)) reports
  audited ending.Refused damage = told ending.Refused damage

  of_logs : (e : AuditStatus) → AuditsLogs d e text report → AuditsTruly d tree w text e report
  of_logs e a =
      let same = read_in_one_way text a.tree tree a.logs logs a.says says in
      audited e (subst (λ ms. IsAudited d e tree ms report) same.1 (subst
      (λ fs. IsAudited d e fs a.logs report) same.0 a.audits))

  of_report : (e : AuditStatus) → IsAuditReport d e text report → AuditsTruly d tree w text e report
  of_report ending.Agrees a = of_logs ending.Agrees a
  of_report ending.Differs a = of_logs ending.Differs a
  of_report ending.Refused (OfLog a) = of_logs ending.Refused a
  of_report ending.Refused (OfInput r) = absurd (read_has_no_fault text tree logs r.fault says r.there)

-- Scripts.

script_fits : (input : List ℕ) (tree : List TreeProcess) (events : List Event) → IsScript input tree events
    → AllByRecursion FitsEntry tree × IsTree tree
script_fits input tree events script =
    let parsed = script.2.tree_text in (table_fits parsed.0 tree parsed.2, script.3)

left_audit : (end : WorldState) → IsTree end.tree → AllByRecursion FitsEntry end.tree
    → (es : List Made) (w : World)
    → Follows es w end → NoneFailed es → (text report : List ℕ) (d : Detail) (e : AuditStatus)
    (left : LeavesLogs end text)
    → IsAuditReport d e text report → AuditsTruly d end.tree w text e report
left_audit end t fit es w follows whole text report d e left a =
    let fits : FitsTree end.tree = record { entries_fit = fit; is_tree = t } in
    let says = subst (λ x. IsLogsText x end.tree left.logs) (sym left.is)
    (written_is_read end.tree left.logs fits (logs_fit end end.tree left.logs t fit left.bytes left.are)) in
    let none = none_damaged end t es w follows whole left.logs left.are left.stand in
    of_report d end.tree left.logs w text report says none
    (true_of_runs end.tree t left.logs es w
    (left_behind end t es w follows left.logs left.are none whole)) e a

ended : (start end : WorldState) (tree : List TreeProcess) (events : List Event)
    → IsOpenedTree start tree → IsTree end.tree
    → AllByRecursion FitsEntry end.tree → (es : List Made) (w : World) → Follows es w end
    → (refusal : Refusal) → LeadsTo start events refusal end → Ended ≡ ending refusal
    → (text report : List ℕ) (d : Detail) (e : AuditStatus)
    → (tells : Tells false Logs events end refusal text) → IsAuditReport d e text report
    → AuditsTruly d end.tree w text e report
ended start end tree events opens t fit es w follows None leads status text report d e tells a =
    left_audit end t fit es w follows (none_failed tree start end events es opens leads
    follows.shown) text report d
    e tells a
ended start end tree events opens t fit es w follows (Some refused) leads status text
    report d e tells a = absurd (cc)

pub audits_true : AuditsOfLeftLogsAreTrue
audits_true input text report d e script a =
    let runs = script.runs in
    let fits = script_fits input script.tree script.events script.script in
    subst (λ tree. AuditsTruly d tree runs.world text e report) runs.tree_is
    (ended runs.start runs.end script.tree script.events runs.opens (subst IsTree (sym runs.tree_is) fits.1)
    (subst (AllByRecursion FitsEntry) (sym runs.tree_is) fits.0) runs.moves runs.world
    runs.follows runs.refusal runs.leads
    runs.status_is text report d e runs.tells a)
