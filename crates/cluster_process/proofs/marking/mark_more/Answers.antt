use Rattle.std.proofs.Common.{◌∙◌, [], ◌++◌, ◌∷◌, ap, arith, if◌then◌else◌, length, length-append, subst, sym}
use Rattle.tree_state.specs.Cuts.{net_of}
use Rattle.cluster_ties.specs.Views.{entries_in}
use Rattle.cluster_process.proofs.Turning.{NextSoFar, none_yet, one_next}
use Rattle.cluster_process.proofs.marking.mark_more.Goals as goal

pub loop-init : goal.loop-init
loop-init g c =
    let net = net_of (entries_in c.args.ledger.now.entries) in
    let none = c.new-more.ensures in
    let long = ap length none in
    record {
      far = subst (λ l. NextSoFar net c.args.me c.args.ledger.now.marks c.args.number l c.args.number)
          (sym none)
          (none_yet net c.args.me c.args.ledger.now.marks c.args.number);
      few = omega (arith, long);
    }

pub loop-preserved : goal.loop-preserved
loop-preserved g c =
    let m = c.in-Some-mark_next.wanted in
    let added = c.is_added.ensures ∙ ap (λ b. if b then c.loop.more ++ m ∷ [] else c.loop.more)
    c.if-not-is_added.false in
    let long = ap length added ∙ length-append c.loop.more (m ∷ []) in
    let few = c.loop.invariant.few in
    record {
      far = one_next _ _ _ _ c.loop.last c.in-Some.next c.loop.more c.is_added.new.more m c.loop.invariant.far
          c.in-Some.ensures c.in-Some-mark_next.ensures added;
      few = omega (arith, long, few);
    }
