use Rattle.std.proofs.Common.{◌≡◌, ap, arith, false, get_or, subst}
use Rattle.std.proofs.lemmas.List.{take_all}
use Rattle.protocol.specs.Nodes.{is_listed}
use Rattle.cluster_tree.proofs.Listed.{none_listed, not_true, unlisted_next}
use Rattle.cluster_tree.proofs.cluster.place_of.Goals as goal

pub loop-place-init : goal.loop-place-init
loop-place-init c = none_listed c.args.process

pub loop-place-preserved : goal.loop-place-preserved
loop-place-preserved c =
    let es = c.args.entries.now in
    let i = c.loop-place.place in
    let e = get_or es i c.index-entries-place.result in
    let is : e ≡ get_or es i e = ap (get_or es i) c.index-entries-place.is in
    unlisted_next es i e c.args.process c.loop-place-test.true is
    (λ same. not_true (c.if-is_same.ensures.no same))
    c.loop-place.invariant

pub returns : goal.returns
returns c =
    subst (λ es. is_listed es c.args.process ≡ false)
    (take_all c.loop-place.place c.args.entries.now (omega arith))
    c.loop-place.invariant
