-- No log that a run left is damaged.
use Rattle.std.proofs.Common.{◌≡◌, ◌∙◌, ◌&&◌, ◌||◌, ℕ, true, false, is_none, is_some, Bool, Option, Some, None, List, [], ◌∷◌, ◌++◌, find, map, refl, sym, ap, subst}
use Rattle.std.specs.List.{AllByRecursion}
use Rattle.std.proofs.lemmas.List.{map-append}
use Rattle.protocol.specs.declared.names.Kind.{Kind}
use Rattle.protocol.specs.declared.names.Kind.TheVariants.{Coordinator, Manager}
use Rattle.protocol.specs.declared.names.ProcessId.{ProcessId}
use Rattle.protocol.specs.declared.trees.TreeProcess.{TreeProcess}
use Rattle.protocol.specs.LogNames.{in_log, parent_of}
use Rattle.protocol.specs.Names.{same_process}
use Rattle.protocol.specs.Nodes.{AtLeaf, AtRoot, Below, IsCoordinator, Place, Role, is_listed, kept, role_by, role_of}
use Rattle.protocol.specs.Trees.{IsTree, has_wrong_roots, is_manager_kind, is_top}
use Rattle.protocol.specs.World.{Made, World}
use Rattle.log_text.specs.Forms.{log_form}
use Rattle.log_rules.specs.order.Logs.{Whole, read_as, read_log}
use Rattle.log_rules.specs.sound.Sound.{IsSound}
use Rattle.kv_state.specs.Replays.{seen_of}
use Rattle.log_script.specs.declared.line.ProcessLog.{ProcessLog}
use Rattle.log_script.specs.Faults.{damage_or, first_damage}
use Rattle.log_script.specs.Logs.{bytes_of}
use Rattle.log_script.proofs.Formats.{second_form}
use Rattle.log_records.specs.Sights.{body, records_of}
use Rattle.log_records.specs.Texts.{records_in}
use Rattle.proof_log_grammar.proofs.Ordered.{ordered_log_is_read}
use Rattle.process_state.specs.States.{CoreState, form_of, kind_of_role}
use Rattle.proof_runs.specs.worlds.Follows.{Follows, StandsAt}
use Rattle.tree_state.specs.Worlds.{WorldState}
use Rattle.proof_log_order.specs.Orders.{log_of}
use Rattle.proof_log_order.proofs.LogsRead.{follow_so, ordered_so}
use Rattle.tree_process.specs.Nodes.{FollowAt, LogStands, SpellsLog}
use Rattle.tree_world.specs.LogsLeft.{AreLogs, LogStandsBy, LogsStand}
use Rattle.tree_world.specs.Nodes.{SpellsLogBy}
use Rattle.audit_tree.proofs.TreePlaces.{Each, IsFound, each_found, listed_if, not_found, role_if}
use Rattle.proof_left_logs.proofs.Left.{spells_at}
use Rattle.proof_left_logs.proofs.Unfailed.{NoneFailed, all_up}

kind_again : (k : Kind) (o : Option ProcessId) → (is_none o && is_manager_kind k) ≡ false
    → kind_of_role (role_by k o) ≡ k
kind_again Coordinator None h = refl
kind_again Coordinator (Some p) h = refl
kind_again Manager (Some p) h = refl
kind_again Manager None h = absurd (cc)

second_false : (a b : Bool) → (a || b) ≡ false → b ≡ false
second_false true b h = absurd (cc)
second_false false b h = h

-- the kind of a listed process's log is its entry's
pub entry_log : (tree : List TreeProcess) → IsTree tree → (q : ProcessId) (e : TreeProcess)
    → find (λ x. same_process x.id q) tree ≡ Some e → kind_of_role (role_of tree q) ≡ e.kind
unfolding has_wrong_roots
entry_log tree t q e found =
    ap kind_of_role (role_if tree q e found)
    ∙ kind_again e.kind e.parent
    (not_found (λ x. is_top x && is_manager_kind x.kind) (λ x. same_process x.id q) tree e
    (second_false _ _ t.one_coordinator_on_top) found)

-- a process that is there
pub some_node : (o : Option CoreState) → is_some o ≡ true → (c : CoreState) × (o ≡ Some c)
some_node None h = absurd (cc)
some_node (Some c) h = (c, refl)

-- What is read of one log.

module _ (end : WorldState) (t : IsTree end.tree) (es : List Made) (w : World) (follows : Follows es w end)
    (whole : NoneFailed es) where
  module _ (q : ProcessId) (listed : is_listed end.tree q ≡ true) (c : CoreState)
      (there : end.node_at q ≡ Some c) (stands : LogStands c) where
    abbrev at : StandsAt w end q c
    at = follows.nodes q c there

    role_is : c.place.role ≡ role_of end.tree q
    role_is = ap (λ (p : Place). p.role) at.place

    -- its log holds what the model's process keeps
    records_are : records_of c.log.kept ≡ log_of end.tree w q
    records_are =
        (λ i. at.stands.forced i ++ at.stands.unforced i)
        ∙ sym (map-append (in_log (parent_of c.place.role)) (w.at q).forced (w.at q).unforced)
        ∙ ap (λ (r : Role). map (in_log (parent_of r)) (kept (w.at q))) role_is

    of_coordinator : IsCoordinator (role_of end.tree q)
        → AllByRecursion (IsSound Coordinator) (records_of c.log.kept)
        → is_some (seen_of (records_of c.log.kept)) ≡ true
    of_coordinator i sound =
        ap (λ ls. is_some (seen_of ls)) records_are
        ∙ ordered_so end.tree es w t follows.is_run q listed i
        (subst (AllByRecursion (IsSound Coordinator)) records_are sound)

    by_role : (r : Role) → role_of end.tree q ≡ r
        → AllByRecursion (IsSound (kind_of_role r)) (records_of c.log.kept)
        → FollowAt r (records_of c.log.kept) → is_some (seen_of (records_of c.log.kept)) ≡ true
    by_role AtRoot is sound follow = of_coordinator (subst IsCoordinator (sym is) tt) sound
    by_role (Below p) is sound follow = of_coordinator (subst IsCoordinator (sym is) tt) sound
    by_role (AtLeaf p) is sound follow = follow

    -- its records may follow one another
    follow : is_some (seen_of (records_of c.log.kept)) ≡ true
    follow = by_role c.place.role (sym role_is) stands.sound stands.follow

    -- its bytes are read as its records
    read_so : (k : Kind) → kind_of_role c.place.role ≡ k → (bytes : List ℕ) → SpellsLog c bytes
        → read_as q k bytes ≡ Whole (records_in (log_form q k) 0 (body bytes)) 0
    read_so k is bytes spells =
        let mine : form_of c.place ≡ log_form q k =
        ap (λ (p : Place). log_form p.me (kind_of_role c.place.role)) at.place ∙ ap (log_form q) is in
        ap (λ f. read_log f bytes) (second_form bytes q k spells.begins)
        ∙ subst (λ f. read_log f bytes ≡ Whole (records_in f 0 (body bytes)) 0) mine
        (ordered_log_is_read (form_of c.place) bytes spells.begins
        (spells.whole (at.stands.failed ∙ all_up end.tree es w follows.is_run whole q))
        (follow_so (records_in (form_of c.place) 0 (body bytes))
        (subst (λ ls. is_some (seen_of ls) ≡ true) (sym spells.read) follow)))

  module _ (logs : List ProcessLog) (left : AreLogs end end.tree logs) where
    read_at : (e : TreeProcess) → IsFound end.tree e → LogStandsBy (end.node_at e.id)
        → read_as e.id e.kind (bytes_of logs e.id)
        ≡ Whole (records_in (log_form e.id e.kind) 0 (body (bytes_of logs e.id))) 0
    read_at e found stands =
        let listed = listed_if end.tree e.id e found in
        let node = some_node (end.node_at e.id) (follows.listed e.id ∙ listed) in
        read_so e.id listed node.0 node.1 (subst LogStandsBy node.1 stands) e.kind
        (ap kind_of_role (role_is e.id listed node.0 node.1 (subst LogStandsBy node.1 stands))
        ∙ entry_log end.tree t e.id e found) (bytes_of logs e.id)
        (subst (λ o. SpellsLogBy o (bytes_of logs e.id)) node.1
        (spells_at end end.tree logs e.id e left found))

    none_of : (fs : List TreeProcess) → Each (IsFound end.tree) fs → LogsStand end fs
        → first_damage fs logs ≡ None
    unfolding first_damage Each
    none_of [] found stand = refl
    none_of (e ∷ fs) found stand =
        ap (λ r. damage_or e.id r (first_damage fs logs)) (read_at e found.0 stand.0)
        ∙ none_of fs found.1 stand.1

    -- none of the logs is damaged
    pub none_damaged : LogsStand end end.tree → first_damage end.tree logs ≡ None
    none_damaged stand = none_of end.tree (each_found end.tree t) stand
