use Rattle.std.proofs.Common.{◌∙◌, ap, sym, refl, ◌∷◌, [], ◌++◌, take}
use Rattle.std.proofs.lemmas.List.{take_more}
use Rattle.picture_parts.proofs.Tailing.{drawn_more, no_tails, tails_more}
use Rattle.picture_parts.proofs.cutting.drawn_from.Goals as goal

pub loop-marked-init : goal.loop-marked-init
loop-marked-init c = record {
  before = refl;
  entries = sym c.new-drawn.ensures.items;
  tails = no_tails c.args.only c.new-tails.result.tails.entries c.new-tails.ensures;
}

pub loop-marked-preserved : goal.loop-marked-preserved
loop-marked-preserved c =
    let all =
    take_more c.args.marks.now c.loop-marked.marked-index c.marked-item.result c.loop-marked-test.true
    ∙ ap (λ x. take c.loop-marked.marked-index c.args.marks.now ++ x ∷ []) (sym c.marked-item.is) in
    let drawn =
    drawn_more c.args.only c.in_ok-numbers.numbers.items c.deref-in-loop-marked.result.now c.args.marks.now
    c.loop-marked.marked-index c.marked-item.result c.loop-marked.drawn.items c.push_entry.new.drawn.items
    c.loop-marked.tails.tails.entries all c.deref-in-loop-marked.ensures.value c.loop-marked.invariant.before
    c.loop-marked.invariant.entries c.loop-marked.invariant.tails c.in_ok-push_entry.ensures in
    record {
      before = drawn.0;
      entries = drawn.1;
      tails =
          tails_more c.args.only c.args.marks.now c.loop-marked.marked-index c.marked-item.result
          c.loop-marked.tails.tails.entries c.add.new.self.tails.entries all c.loop-marked.invariant.tails
          c.in_ok-add.ensures;
    }
