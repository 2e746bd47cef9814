-- The state in which a closed cluster leaves its processes is one whose logs are audited truly.
use Rattle.std.proofs.Common.{◌≡◌, ◌∙◌, Bool, true, false, cond, ℕ, is_some, Option, Some, None, List, [], ◌∷◌, find, map, refl, sym, ap, subst}
use Rattle.protocol.specs.declared.events.JournalEntry.{JournalEntry}
use Rattle.protocol.specs.declared.events.Event.{Event}
use Rattle.protocol.specs.declared.names.ProcessId.{ProcessId}
use Rattle.protocol.specs.declared.records.LogRecord.{LogRecord}
use Rattle.protocol.specs.declared.trees.TreeProcess.{TreeProcess}
use Rattle.protocol.specs.Names.{same_process}
use Rattle.protocol.specs.Nodes.{is_listed}
use Rattle.protocol.specs.Trees.{IsTree}
use Rattle.protocol.specs.World.{Made, World, journal_of}
use Rattle.log_rules.specs.order.Logs.{Whole}
use Rattle.log_script.specs.declared.line.ProcessLog.{ProcessLog}
use Rattle.log_script.specs.Logs.{bytes_of}
use Rattle.process_state.specs.States.{CoreState}
use Rattle.proof_runs.specs.worlds.Follows.{Follows, FollowsBy}
use Rattle.tree_state.specs.Worlds.{Applies, WorldState}
use Rattle.proof_cuts.specs.Alone.{EventsLeadOn}
use Rattle.audit_tree.proofs.TreePlaces.{listed_if}
use Rattle.proof_left_logs.proofs.Entries.{IsWhole, WholeSteps, applied, moves_whole, opened}
use Rattle.proof_left_logs.proofs.Unfailed.{NoneFailed, all_up}
use Rattle.proof_left_logs.proofs.Undamaged.{some_node}
use Rattle.proof_audits.specs.Audits.{AllWork, AreAuditedTruly, AreReadSo, IsReadSo}
use Rattle.proof_audits.proofs.Audits.{audited_truly}
use Rattle.cluster_tree.specs.Closing.{IsClosed, log_by, logs_in}
use Rattle.proof_closed_logs.specs.Audits.{AreReadAs, ClosedClustersAreAuditedTruly, IsReadAs}

-- in no step that the events led to a device failed
led_on : (old new : WorldState) (events : List Event) → IsWhole old → EventsLeadOn old events new
    → IsWhole new
led_on old new [] h same = subst WholeSteps (sym same.entries) h
led_on old new (e ∷ events) h made =
    let before : IsWhole made.0 = subst WholeSteps (sym made.2.entries) h in
    led_on made.1 new events (applied made.0 made.1 e before made.3) made.4

some_entry : (a b : TreeProcess) → Some a ≡ Some b → a ≡ b
some_entry a b e = cc

-- the log of the process of an entry that is found is read
read_at : (texts : List ProcessLog) (s : WorldState) (q : ProcessId) (es : List TreeProcess) (e : TreeProcess)
    → AreReadAs texts es (logs_in s es) → find (λ x. same_process x.id q) es ≡ Some e
    → IsReadAs e (bytes_of texts e.id) (log_by (s.node_at e.id))
read_at texts s q [] e are found = absurd (cc)
read_at texts s q (x ∷ es) e are found = by_test (same_process x.id q) (read_at texts s q es e are.1) found
  where
    by_test : (b : Bool) → (find (λ y. same_process y.id q) es ≡ Some e
        → IsReadAs e (bytes_of texts e.id) (log_by (s.node_at e.id)))
        → cond b (Some x) (find (λ y. same_process y.id q) es) ≡ Some e
        → IsReadAs e (bytes_of texts e.id) (log_by (s.node_at e.id))
    by_test true rest is =
        subst (λ (y : TreeProcess). IsReadAs y (bytes_of texts y.id) (log_by (s.node_at y.id)))
        (some_entry x e is) are.0
    by_test false rest is = rest is

module _ (tree : List TreeProcess) (t : IsTree tree) (journal : List (ℕ × JournalEntry))
    (logs : List (List LogRecord))
    (c : IsClosed tree journal logs) (texts : List ProcessLog) (are : AreReadAs texts tree logs) where
  abbrev s : WorldState
  s = c.state

  abbrev es : List Made
  es = c.modelled.moves

  abbrev w : World
  w = c.modelled.world

  abbrev f : Follows es w s
  f = c.modelled.follows

  by_all : FollowsBy journal_of es w s
  by_all = record {
    follows = record {
      is_run = f.is_run;
      by_this = f.by_this;
      shown = refl;
      net = f.net;
      nodes = λ q k there. let at = f.nodes q k there in record { place = at.place; stands = at.stands };
      listed = f.listed;
    };
    shown = f.shown;
  }

  none : NoneFailed es
  none = moves_whole es (subst WholeSteps (sym f.shown)
      (led_on c.start s c.events (opened tree c.start c.opens) c.leads))

  works : AllWork s
  works q k there = (f.nodes q k there).stands.failed ∙ all_up s.tree es w f.is_run none q

  are_so : AreReadSo s texts
  are_so e found =
      let listed = listed_if s.tree e.id e found in
      let node = some_node (s.node_at e.id) (f.listed e.id ∙ listed) in
      let all : AreReadAs texts s.tree (logs_in s s.tree) =
      subst (λ x. AreReadAs texts x (logs_in s x)) (sym c.tree_is)
      (subst (AreReadAs texts tree) c.logs_are are) in
      let it = read_at texts s e.id s.tree e all found in
      record {
        process = node.0;
        there = node.1;
        torn = it.torn;
        read = it.read ∙ ap (λ o. Whole (log_by o) it.torn) node.1;
      }

  truly : AreAuditedTruly s.tree w texts
  truly = audited_truly journal_of s es w (subst IsTree (sym c.tree_is) t) by_all works texts are_so

pub closed_truly : ClosedClustersAreAuditedTruly
closed_truly tree t journal logs c texts are =
    subst (λ x. AreAuditedTruly x c.modelled.world texts) c.tree_is (truly tree t journal logs c texts are)
