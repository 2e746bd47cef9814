use Rattle.std.proofs.Common.{◌≡◌, ◌∙◌, ◌+◌, ◌<◌, ◌++◌, ◌∷◌, [], List, ap, arith, length, subst, sym, take}
use Rattle.std.proofs.lemmas.List.{take_more}
use Rattle.xa_xid.specs.declared.xid.Xid.{Xid}
use Rattle.judge_script.specs.Numbers.{ArePlaces}
use Rattle.judge_script.proofs.Places.{more_trans, places_more, places_push}
use Rattle.judge_script.proofs.names.number_xids.Goals as goal

pub loop-xid-preserved : goal.loop-xid-preserved
loop-xid-preserved c =
    let all = c.args.named.now in
    let i = c.loop-xid.xid-index in
    let x = c.xid-item.result in
    let made = c.in_ok-number_xid.ensures in
    let within : i < length all = omega arith in
    let front : take (i + 1) all ≡ take i all ++ x ∷ [] =
    take_more all i x within ∙ ap (λ (q : Xid). take i all ++ q ∷ []) (sym c.xid-item.is) in
    record {
      placed = rw c.in_ok-push.ensures.items (subst (λ (q : List Xid). ArePlaces c.number_xid.new.xids.items
          (c.loop-xid.numbers.items ++ c.in_ok-number_xid.field-0 ∷ []) q) (sym front)
          (places_push c.number_xid.new.xids.items c.loop-xid.numbers.items (take i all)
          c.in_ok-number_xid.field-0 x
          (places_more c.loop-xid.xids.items c.number_xid.new.xids.items c.loop-xid.numbers.items (take i all)
          made.more c.loop-xid.invariant.placed) made.placed));
      more = more_trans c.args.xids.now.items c.loop-xid.xids.items c.number_xid.new.xids.items
          c.loop-xid.invariant.more made.more;
      apart = λ h. made.apart (c.loop-xid.invariant.apart h);
    }
