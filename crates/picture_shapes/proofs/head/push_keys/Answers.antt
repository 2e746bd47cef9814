use Rattle.std.proofs.Common.{◌≡◌, ◌∙◌, ◌++◌, ◌+◌, ◌<◌, ap, sym, refl, arith, ℕ, length}
use Rattle.std.specs.Global.{Vec}
use Rattle.picture_shapes.specs.Head.{keys_text}
use Rattle.picture_shapes.proofs.Keys.{added, all, no_more, none, one_longer, one_more}
use Rattle.picture_shapes.proofs.head.push_keys.Goals as goal
use Rattle.picture_shapes.proofs.head.push_keys.Goals.{then-has+in_ok-push_key, else-has}

pub loop-sign-init : goal.loop-sign-init
loop-sign-init c = record {
  text = none c.args.frame c.args.out.now.items;
  counted = refl;
  few = omega arith;
}

pub loop-sign-preserved : goal.loop-sign-preserved
loop-sign-preserved c =
    let there : c.loop-sign.sign-index < length c.args.keys.now =
    omega (arith, c.told-keys, c.loop-sign-test.true) in
    elim c.if-has.branch [
      | then-has+in_ok-push_key w ↦
          let more = one_more c.args.signs.now c.args.keys.now c.loop-sign.sign-index _ there
          (sym c.has.ensures ∙ w.if-has.true) in
          let next : c.if-has.entry ≡ c.loop-sign.entry + 1 =
          omega (
            arith,
            w.entry-is,
            w.saturating_add-entry.ensures,
            c.loop-sign.invariant.few,
            c.loop-sign-test.true,
          ) in
          record {
            text = added c.args.frame c.args.out.now.items c.loop-sign.out.items c.if-has.out.items _ _ _
                c.loop-sign.entry
                c.loop-sign.invariant.text c.loop-sign.invariant.counted
                (ap (λ (v : Vec ℕ). v.items) w.out-is ∙ w.in_ok-push_key.ensures) more;
            counted = one_longer _ _ _ c.loop-sign.entry c.if-has.entry
                c.loop-sign.invariant.counted next more;
            few = omega (arith, next, c.loop-sign.invariant.few);
          }
      | else-has w ↦
          let same = no_more c.args.signs.now c.args.keys.now c.loop-sign.sign-index _ there
          (sym c.has.ensures ∙ w.if-has.false) in
          record {
            text = ap (λ (v : Vec ℕ). v.items) w.out-is ∙ c.loop-sign.invariant.text
                ∙ ap (λ ks. c.args.out.now.items ++ keys_text c.args.frame 0 ks) (sym same);
            counted = w.entry-is ∙ c.loop-sign.invariant.counted ∙ ap (λ ks. length ks) (sym same);
            few = omega (arith, w.entry-is, c.loop-sign.invariant.few);
          }
    ]

pub returns : goal.returns
returns c =
    c.loop-sign.invariant.text
    ∙ ap (λ ks. c.args.out.now.items ++ keys_text c.args.frame 0 ks)
    (all c.args.signs.now c.args.keys.now c.loop-sign.sign-index
    (omega (arith, c.told-keys, c.loop-sign-test.false)))
