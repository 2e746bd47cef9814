use Rattle.std.proofs.Common.{◌∙◌, Global, Vec, ap, map, subst, sym}
use Rattle.cluster_journal.specs.Journals.{ClusterState}
use Rattle.protocol.specs.declared.records.LogRecord.{LogRecord}
use Rattle.cluster_ties.specs.Views.{AreBelow}
use Rattle.cluster_tree.proofs.Leaving.{closed}
use Rattle.cluster_tree.proofs.cluster.Cluster.close.Goals as goal

pub returns-in-Ok : goal.returns-in-Ok
returns-in-Ok g c =
    let same = ap (λ (s : ClusterState). s.entries) c.callers_are_known.ensures.same in
    let both = closed g.N.Seats.tree c.entries.result.now c.into_inner-ledger.result.entries
    c.callers_are_known.new.self.entries c.left_logs.new.ledger.entries c.into_journal.result
    (map (λ (l : Vec LogRecord Global). l.items) c.in-Ok.logs.items) c.args.passes.now c.args.self.is_tree
    (c.entries.ensures ∙ c.args.self.tree_is)
    (same ∙ ap (λ (s : ClusterState). s.entries) c.meet_all.ensures.same.0) c.in-Ok.ensures.entries
    c.into_journal.ensures.same c.into_journal.ensures.run c.in-Ok.ensures.logs c.meet_all.ensures.met in
    record {
      ok = (
        both.0,
        both.1,
        subst (λ xs. AreBelow g.N.Seats.callers xs)
            (sym (c.into_journal.ensures.same ∙ c.in-Ok.ensures.entries ∙ same))
            c.callers_are_known.ensures.known,
      );
    }
