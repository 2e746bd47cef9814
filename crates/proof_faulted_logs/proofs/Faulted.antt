-- The logs of a tree whose processes work read as what these keep.
use Rattle.std.proofs.Common.{◌≡◌, ◌∙◌, ◌++◌, ℕ, Bool, true, false, cond, is_some, Some, List, [], ◌∷◌, find, map, sym, ap, subst}
use Rattle.std.specs.List.{AllByRecursion}
use Rattle.std.proofs.lemmas.List.{map-append}
use Rattle.protocol.specs.declared.names.Kind.{Kind}
use Rattle.protocol.specs.declared.names.Kind.TheVariants.{Coordinator}
use Rattle.protocol.specs.declared.names.ProcessId.{ProcessId}
use Rattle.protocol.specs.declared.records.LogRecord.{LogRecord}
use Rattle.protocol.specs.declared.trees.TreeProcess.{TreeProcess}
use Rattle.protocol.specs.LogNames.{in_log, parent_of}
use Rattle.protocol.specs.Names.{same_process}
use Rattle.protocol.specs.Nodes.{AtLeaf, AtRoot, Below, IsCoordinator, Place, Role, is_listed, kept, role_of}
use Rattle.protocol.specs.Trees.{IsTree}
use Rattle.protocol.specs.World.{Made, World}
use Rattle.log_text.specs.declared.form.LogForm.{LogForm}
use Rattle.log_text.specs.Forms.{log_form}
use Rattle.log_rules.specs.order.Logs.{Whole, read_as, read_log}
use Rattle.log_rules.specs.sound.Sound.{IsSound}
use Rattle.kv_state.specs.Replays.{seen_of}
use Rattle.log_records.specs.Sights.{body, records_of}
use Rattle.log_records.specs.Texts.{records_in}
use Rattle.proof_log_grammar.proofs.Ordered.{ordered_log_is_read}
use Rattle.log_script.specs.declared.line.ProcessLog.{ProcessLog}
use Rattle.log_script.specs.Logs.{bytes_of}
use Rattle.log_script.proofs.Formats.{second_form}
use Rattle.process_state.specs.States.{CoreState, form_of, kind_of_role}
use Rattle.proof_runs.specs.worlds.Follows.{FollowsBehindFaults, StandsAt, entered_of}
use Rattle.tree_state.specs.Worlds.{WorldState}
use Rattle.proof_log_order.specs.Orders.{log_of}
use Rattle.proof_log_order.proofs.LogsRead.{follow_so, ordered_so}
use Rattle.tree_process.specs.Nodes.{FollowAt, LogStands, SpellsLog}
use Rattle.tree_world.specs.LogsLeft.{AreLogs, LogStandsBy, LogsStand}
use Rattle.tree_world.specs.Nodes.{SpellsLogBy}
use Rattle.audit_tree.proofs.TreePlaces.{listed_if}
use Rattle.proof_left_logs.proofs.Left.{spells_at}
use Rattle.proof_left_logs.proofs.Undamaged.{entry_log, some_node}
use Rattle.proof_audits.specs.Audits.{AllWork, AreReadSo}
use Rattle.proof_audits.proofs.Audits.{audited_truly}
use Rattle.proof_faulted_logs.specs.Faulted.{FaultedRunsAreAuditedTruly}

some_entry : (a b : TreeProcess) → Some a ≡ Some b → a ≡ b
some_entry a b e = cc

-- what each entry of a list has, the one has that is found
of_found : (P : TreeProcess → Type 0) (q : ProcessId) (es : List TreeProcess) (e : TreeProcess)
    → AllByRecursion P es
    → find (λ x. same_process x.id q) es ≡ Some e → P e
of_found P q [] e all found = absurd (cc)
of_found P q (x ∷ es) e all found = by_test (same_process x.id q) (of_found P q es e all.1) found
  where
    by_test : (b : Bool) → (find (λ y. same_process y.id q) es ≡ Some e → P e)
        → cond b (Some x) (find (λ y. same_process y.id q) es) ≡ Some e → P e
    by_test true rest is = subst P (some_entry x e is) all.0
    by_test false rest is = rest is

module _ (s : WorldState) (es : List Made) (w : World) (t : IsTree s.tree) (f : FollowsBehindFaults es w s)
    (works : AllWork s) where
  module _ (q : ProcessId) (listed : is_listed s.tree q ≡ true) (c : CoreState) (there : s.node_at q ≡ Some c)
      (stands : LogStands c) where
    at : StandsAt w s q c
    at = let h = f.follows.nodes q c there in record { place = h.place; stands = h.stands }

    role_is : c.place.role ≡ role_of s.tree q
    role_is = ap (λ (p : Place). p.role) at.place

    records_are : records_of c.log.kept ≡ log_of s.tree w q
    records_are =
        (λ i. at.stands.forced i ++ at.stands.unforced i)
        ∙ sym (map-append (in_log (parent_of c.place.role)) (w.at q).forced (w.at q).unforced)
        ∙ ap (λ (r : Role). map (in_log (parent_of r)) (kept (w.at q))) role_is

    of_coordinator : IsCoordinator (role_of s.tree q)
        → AllByRecursion (IsSound Coordinator) (records_of c.log.kept)
        → is_some (seen_of (records_of c.log.kept)) ≡ true
    of_coordinator i sound =
        ap (λ ls. is_some (seen_of ls)) records_are
        ∙ ordered_so s.tree es w t f.follows.is_run q listed i
        (subst (AllByRecursion (IsSound Coordinator)) records_are sound)

    by_role : (r : Role) → role_of s.tree q ≡ r → AllByRecursion (IsSound (kind_of_role r))
        (records_of c.log.kept)
        → FollowAt r (records_of c.log.kept) → is_some (seen_of (records_of c.log.kept)) ≡ true
    by_role AtRoot is sound follow = of_coordinator (subst IsCoordinator (sym is) tt) sound
    by_role (Below p) is sound follow = of_coordinator (subst IsCoordinator (sym is) tt) sound
    by_role (AtLeaf p) is sound follow = follow

    follow : is_some (seen_of (records_of c.log.kept)) ≡ true
    follow = by_role c.place.role (sym role_is) stands.sound stands.follow

    -- its bytes read as its records
    read_so : (k : Kind) → kind_of_role (role_of s.tree q) ≡ k → (bytes : List ℕ) → SpellsLog c bytes
        → read_as q k bytes ≡ Whole (records_of c.log.kept) 0
    read_so k is bytes spells =
        let mine : form_of c.place ≡ log_form q k = ap form_of at.place ∙ ap (log_form q) is in
        ap (λ (p : LogForm). read_log p bytes) (second_form bytes q k spells.begins ∙ sym mine)
        ∙ (ordered_log_is_read (form_of c.place) bytes spells.begins (spells.whole (works q c there))
        (follow_so (records_in (form_of c.place) 0 (body bytes))
        (subst (λ ls. is_some (seen_of ls) ≡ true) (sym spells.read) follow))
        ∙ ap (λ (ls : List LogRecord). Whole ls 0) spells.read)

  are_read : (logs : List ProcessLog) → AreLogs s s.tree logs → LogsStand s s.tree → AreReadSo s logs
  are_read logs are stand e found =
      let listed = listed_if s.tree e.id e found in
      let node = some_node (s.node_at e.id) (f.follows.listed e.id ∙ listed) in
      let stands : LogStands node.0 =
      subst LogStandsBy node.1 (of_found (λ x. LogStandsBy (s.node_at x.id)) e.id s.tree e stand found) in
      let spells : SpellsLog node.0 (bytes_of logs e.id) =
      subst (λ o. SpellsLogBy o (bytes_of logs e.id)) node.1 (spells_at s s.tree logs e.id e are found) in
      record {
        process = node.0;
        there = node.1;
        torn = 0;
        read = read_so e.id listed node.0 node.1 stands e.kind (entry_log s.tree t e.id e found)
            (bytes_of logs e.id) spells;
      }

pub faulted_truly : FaultedRunsAreAuditedTruly
faulted_truly s es w t f works logs are stand =
    audited_truly entered_of s es w t f works logs (are_read s es w t f works logs are stand)
