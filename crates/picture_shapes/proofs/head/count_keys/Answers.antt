use Rattle.std.proofs.Common.{◌≡◌, ◌∙◌, ◌+◌, ◌<◌, ap, sym, arith, length}
use Rattle.picture_shapes.proofs.Keys.{all, no_more, one_longer, one_more}
use Rattle.picture_shapes.proofs.head.count_keys.Goals as goal
use Rattle.picture_shapes.proofs.head.count_keys.Goals.{then-has, else-has}

pub loop-sign-preserved : goal.loop-sign-preserved
loop-sign-preserved c =
    let there : c.loop-sign.sign-index < length c.args.keys.now =
    omega (arith, c.told-keys, c.loop-sign-test.true) in
    elim c.if-has.branch [
      | then-has w ↦
          let more = one_more c.args.signs.now c.args.keys.now c.loop-sign.sign-index _ there
          (sym c.has.ensures ∙ w.if-has.true) in
          let next : c.if-has.count ≡ c.loop-sign.count + 1 =
          omega (
            arith,
            w.count-is,
            w.saturating_add-count.ensures,
            c.loop-sign.invariant.few,
            c.loop-sign-test.true,
          ) in
          record {
            counted = one_longer _ _ _ c.loop-sign.count c.if-has.count
                c.loop-sign.invariant.counted next more;
            few = omega (arith, next, c.loop-sign.invariant.few);
          }
      | else-has w ↦
          let same = no_more c.args.signs.now c.args.keys.now c.loop-sign.sign-index _ there
          (sym c.has.ensures ∙ w.if-has.false) in
          record {
            counted = w.count-is ∙ c.loop-sign.invariant.counted ∙ ap (λ ks. length ks) (sym same);
            few = omega (arith, w.count-is, c.loop-sign.invariant.few);
          }
    ]

pub returns : goal.returns
returns c =
    c.loop-sign.invariant.counted
    ∙ ap (λ ks. length ks)
    (all c.args.signs.now c.args.keys.now c.loop-sign.sign-index
    (omega (arith, c.told-keys, c.loop-sign-test.false)))
