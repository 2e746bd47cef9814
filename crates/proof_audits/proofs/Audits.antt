-- What an audit tells of logs that read as what the processes of a tree keep is true of the tree's run.
use Rattle.std.proofs.Common.{◌≡◌, ◌∙◌, ◌++◌, true, is_some, Option, Some, None, List, [], ◌∷◌, find, refl, sym, ap, subst}
use Rattle.std.proofs.lemmas.List.{map-append}
use Rattle.protocol.specs.declared.events.JournalEntry.{JournalEntry}
use Rattle.protocol.specs.declared.names.ProcessId.{ProcessId}
use Rattle.protocol.specs.declared.trees.TreeProcess.{TreeProcess}
use Rattle.protocol.specs.LogNames.{in_log, own_records, parent_of}
use Rattle.protocol.specs.Names.{same_process}
use Rattle.protocol.specs.Nodes.{Place, is_listed, kept, place_of}
use Rattle.protocol.specs.Trees.{IsTree}
use Rattle.protocol.specs.World.{Made, World}
use Rattle.protocol.proofs.LogNameLaws.{reads_back}
use Rattle.protocol.specs.Audits.{AllUp}
use Rattle.log_rules.specs.order.Logs.{LogReading, read_as}
use Rattle.log_records.specs.Sights.{records_of}
use Rattle.log_script.specs.declared.line.ProcessLog.{ProcessLog}
use Rattle.log_script.specs.Faults.{damage_or, first_damage}
use Rattle.log_script.specs.Logs.{bytes_of}
use Rattle.process_state.specs.States.{CoreState}
use Rattle.tree_state.specs.Fits.{KeepsOwn}
use Rattle.proof_runs.specs.worlds.Follows.{FollowsBy}
use Rattle.tree_state.specs.Worlds.{WorldState}
use Rattle.proof_runs.proofs.worlds.Kept.{keeps_own}
use Rattle.audit_tree.specs.Reports.{entry_kind, kept_lists, whole_records}
use Rattle.audit_tree.specs.Truths.{AreKeptBehind}
use Rattle.audit_tree.proofs.TreePlaces.{Each, IsFound, each_found, listed_entry, named_so}
use Rattle.audit_tree.proofs.Truths.{true_of_runs}
use Rattle.proof_audits.specs.Audits.{AllWork, AreReadSo, StatesAreAuditedTruly}

some_node : (o : Option CoreState) → is_some o ≡ true → (c : CoreState) × (o ≡ Some c)
some_node None h = absurd (cc)
some_node (Some c) h = (c, refl)

module _ (journal : List Made → List JournalEntry) (s : WorldState) (es : List Made) (w : World)
    (t : IsTree s.tree)
    (f : FollowsBy journal es w s) (works : AllWork s) (logs : List ProcessLog) (are : AreReadSo s logs) where
  -- what a process reads of its records is what the model's process keeps
  own_kept : (q : ProcessId) → is_listed s.tree q ≡ true → (c : CoreState) → s.node_at q ≡ Some c
      → own_records (place_of s.tree q) (records_of c.log.kept) ≡ kept (w.at q)
  own_kept q listed c there =
      let at = f.follows.nodes q c there in
      let own : KeepsOwn c.place (w.at q) =
      subst (λ (p : Place). KeepsOwn p (w.at q)) (sym at.place)
      (keeps_own s.tree es w t f.follows.is_run q listed) in
      ap (λ (p : Place). own_records p (records_of c.log.kept)) (sym at.place)
      ∙ (ap (own_records c.place)
      ((λ i. at.stands.forced i ++ at.stands.unforced i)
      ∙ sym (map-append (in_log (parent_of c.place.role)) (w.at q).forced (w.at q).unforced))
      ∙ reads_back c.place (kept (w.at q)) own)

  kept_there : (q : ProcessId) → is_listed s.tree q ≡ true → kept_lists s.tree logs q ≡ kept (w.at q)
  unfolding kept_lists
  kept_there q listed =
      let found = listed_entry s.tree q listed in
      let e = found.0 in
      let here : e.id ≡ q = named_so s.tree q e found.1 in
      let so = are e (subst (λ (p : ProcessId). find (λ x. same_process x.id p) s.tree ≡ Some e)
      (sym here) found.1) in
      let place = place_of s.tree q in
      ap (λ o. own_records place (whole_records (read_as q (entry_kind o) (bytes_of logs q)))) found.1
      ∙ (ap (λ (p : ProcessId). own_records place (whole_records (read_as p e.kind (bytes_of logs p))))
      (sym here)
      ∙ (ap (λ (r : LogReading). own_records place (whole_records r)) so.read
      ∙ own_kept q listed so.process (ap s.node_at (sym here) ∙ so.there)))

  all_up : AllUp s.tree w
  all_up q listed =
      let node = some_node (s.node_at q) (f.follows.listed q ∙ listed) in
      sym (f.follows.nodes q node.0 node.1).stands.failed ∙ works q node.0 node.1

  none_of : (fs : List TreeProcess) → Each (IsFound s.tree) fs → first_damage fs logs ≡ None
  unfolding first_damage Each
  none_of [] found = refl
  none_of (e ∷ fs) found =
      ap (λ (r : LogReading). damage_or e.id r (first_damage fs logs)) (are e found.0).read
      ∙ none_of fs found.1

  behind : AreKeptBehind s.tree es w (kept_lists s.tree logs)
  behind = record { is_run = f.follows.is_run; all_up = all_up; kept_there = kept_there }

pub audited_truly : StatesAreAuditedTruly
audited_truly journal s es w t f works logs are = record {
  undamaged = none_of journal s es w t f works logs are s.tree (each_found s.tree t);
  lines = true_of_runs s.tree t logs es w (behind journal s es w t f works logs are);
}
