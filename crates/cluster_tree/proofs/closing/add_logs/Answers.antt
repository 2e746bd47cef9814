use Rattle.std.proofs.Common.{◌≡◌, ◌∙◌, ◌∷◌, [], Global, Vec, ap, get_or, map, subst}
use Rattle.std.proofs.lemmas.List.{map-append}
use Rattle.cluster_journal.specs.Journals.{ClusterState}
use Rattle.protocol.specs.declared.records.LogRecord.{LogRecord}
use Rattle.cluster_ties.specs.Views.{entries_in}
use Rattle.cluster_process.specs.Locked.{LeavesLog}
use Rattle.cluster_tree.proofs.Leaving.{leave_at}
use Rattle.cluster_tree.proofs.closing.add_logs.Goals as goal

pub loop-place-preserved : goal.loop-place-preserved
loop-place-preserved g c =
    let inv = c.loop-place.invariant in
    let i = c.loop-place.place in
    let d = c.index-tree-place.result in
    let e = get_or c.args.tree.now i d in
    let log = c.in_ok-log.log in
    let old = c.loop-place.logs.items in
    let f = λ (l : Vec LogRecord Global). l.items in
    let is : e ≡ get_or c.args.tree.now i e = ap (get_or c.args.tree.now i) c.index-tree-place.is in
    record {
      ledger = c.in_ok-log.ensures.same ∙ inv.ledger;
      logs = leave_at g.N.Seats.tree (entries_in c.args.ledger.now.entries) c.args.tree.now (map f old)
          (map f c.push.new.self.items) i e log.items c.loop-place-test.true is
          (ap (map f) c.in_ok-push.ensures.items ∙ map-append f old (log ∷ []))
          (subst (λ (s : ClusterState). LeavesLog g.N.Seats.tree (entries_in s.entries) e.id log.items)
          inv.ledger
          c.in_ok-log.ensures.left)
          inv.logs;
    }
