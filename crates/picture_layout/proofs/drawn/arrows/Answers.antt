use Rattle.std.proofs.Common.{◌∙◌, ◌++◌, ap, sym, length, map, option_map, option_to_list, take}
use Rattle.picture_layout.specs.declared.drawn.Arrow.{Arrow}
use Rattle.picture_layout.specs.declared.fates.Fate.{Fate}
use Rattle.picture_layout.specs.Whole.{deliveries}
use Rattle.picture_layout.proofs.Ways.{arrows_more, deliveries_more}
use Rattle.picture_layout.proofs.drawn.arrows.Goals as goal

pub loop-step-preserved : goal.loop-step-preserved
loop-step-preserved c =
    let es = c.args.entries.now in
    let k = c.loop-step.step in
    let e = c.index-entries-step.result in
    let count = length c.args.fates.now in
    let there = c.loop-step-test.true in
    let at = c.index-entries-step.is in
    record {
      numbers = c.in_ok-push_arrow.ensures.number
          ∙ ap (λ xs. xs ++ option_to_list (option_map (λ (a : Arrow). a.number) c.arrow_of-found.result))
          c.loop-step.invariant.numbers
          ∙ ap (λ o. deliveries count (take k es) ++ option_to_list o) c.arrow_of-found.ensures.number
          ∙ sym (deliveries_more count es k e there at);
      ways = arrows_more c.args.seats.now c.args.rows.now (map (λ (f : Fate). f.sent) c.args.fates.now) es k e
          c.loop-step.arrows.items c.push_arrow.new.arrows.items c.arrow_of-found.result there at
          c.loop-step.invariant.ways c.in_ok-push_arrow.ensures.way c.arrow_of-found.ensures.way;
    }
