use Rattle.std.proofs.Common.{◌∙◌, All, arith, get_or, subst}
use Rattle.std.proofs.lemmas.List.{take_all}
use Rattle.cluster_journal.specs.Journals.{ClusterState}
use Rattle.cluster_tree.specs.Closing.{IsMet}
use Rattle.cluster_tree.proofs.Leaving.{met_more, same_put}
use Rattle.cluster_tree.proofs.closing.meet_all.Goals as goal

pub loop-pass-preserved : goal.loop-pass-preserved
loop-pass-preserved g c =
    let inv = c.loop-pass.invariant in
    let i = c.loop-pass.pass-index in
    let p = c.pass-item.result in
    record {
      ledger = c.meets.ensures.same.0 ∙ inv.ledger;
      passes = same_put c.loop-pass.passes i p c.meets.new.pass c.meets.ensures.same.1 ∙ inv.passes;
      met = met_more c.args.ledger.now.entries c.args.passes.now i p (omega arith) inv.met
          (subst (λ ps. IsMet c.args.ledger.now.entries (get_or ps i p)) inv.passes
          (subst (λ (s : ClusterState). IsMet s.entries (get_or c.loop-pass.passes i p)) inv.ledger
          c.meets.ensures.met));
    }

pub returns-clause-met : goal.returns-clause-met
returns-clause-met g c =
    subst (λ ps. All (IsMet c.args.ledger.now.entries) ps)
    (take_all c.loop-pass.pass-index c.args.passes.now (omega arith)) c.loop-pass.invariant.met
