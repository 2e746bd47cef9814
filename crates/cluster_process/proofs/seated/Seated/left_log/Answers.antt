use Rattle.std.proofs.Common.{◌≡◌, ◌∙◌, IfOk, ap, subst}
use Rattle.std.proofs.lemmas.Result.{IfOk-weaker}
use Rattle.cluster_journal.specs.Journals.{ClusterState}
use Rattle.log_records.specs.Sights.{records_of}
use Rattle.protocol.specs.World.{entries_of}
use Rattle.proof_cuts.specs.Alone.{RunsAlone}
use Rattle.proof_cuts.specs.Owns.{OwnRun}
use Rattle.tree_process.specs.Nodes.{core_of, data_of}
use Rattle.cluster_ties.specs.Views.{entries_in, own_of}
use Rattle.cluster_process.specs.Locked.{LeavesLog, SeatedState}
use Rattle.cluster_process.proofs.seated.Seated.left_log.Goals as goal

pub returns-clause-left : goal.returns-clause-left
returns-clause-left g c =
    let tree = g.N.Seats.tree in
    let me = c.self.inside.me in
    let core = core_of c.self.inside.node in
    let held = data_of c.self.inside.node in
    let xs = entries_in c.ledger.inside.journal.entries in
    let named = c.self.invariant.2.1 in
    let all = ap (λ m. m.0.journal.all) c.ledger.invariant.1 in
    let own = c.compare.ensures.tied
    ∙ ap (λ n. own_of n (entries_in c.ledger.inside.seat.me.0.journal.all)) named
    ∙ ap (λ l. entries_of me (entries_in l)) all in
    let run : OwnRun tree me (entries_of me xs) core =
    subst (λ l. OwnRun tree me l core) own c.self.invariant.5 in
    let alone : RunsAlone tree me (entries_of me xs) core held =
    subst (λ l. RunsAlone tree me l core held) own c.self.invariant.6 in
    let left : IfOk c.records.result (λ log. LeavesLog tree xs me log.items) =
    IfOk-weaker c.records.result (λ log. log.items ≡ records_of core.log.kept)
    (λ log. LeavesLog tree xs me log.items)
    (λ log is. record { core = core; held = held; own = run; alone = alone; log_is = is }) c.records.ensures
    in
    subst (λ (s : SeatedState). IfOk c.records.result
    (λ log. LeavesLog tree (entries_in c.args.ledger.now.entries) s.me log.items))
    c.self.view_is
    (subst (λ (j : ClusterState). IfOk c.records.result
    (λ log. LeavesLog tree (entries_in j.entries) me log.items))
    c.ledger.view_is left)
