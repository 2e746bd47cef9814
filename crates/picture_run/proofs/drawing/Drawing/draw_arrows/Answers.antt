use Rattle.std.proofs.Common.{◌≡◌, ◌∙◌, ◌++◌, ◌∷◌, [], Some, ap, subst, false, get_or, map}
use Rattle.std.proofs.lemmas.List.{get_or_default}
use Rattle.picture_layout.specs.declared.drawn.Arrow.{Arrow}
use Rattle.picture_shapes.specs.declared.frame.PictureFrame.{PictureFrame}
use Rattle.picture_run.specs.Along.{RunsAlong}
use Rattle.picture_run.specs.Captions.{caption_along, caption_of}
use Rattle.picture_run.proofs.Along.{along_more, titles_more, words_more}
use Rattle.picture_run.proofs.drawing.Drawing.draw_arrows.Goals as goal

pub loop-arrow-preserved : goal.loop-arrow-preserved
loop-arrow-preserved c =
    let drawn = c.args.arrows.now in
    let k = c.loop-arrow.arrow-index in
    let there = c.loop-arrow-test.true in
    let none : Arrow = record {
      number = 0;
      way = record { from = 0; left = 0; to = 0; row = 0; far = false };
      again = false;
    } in
    let a : Arrow = get_or drawn k none in
    let at : a ≡ get_or drawn k a = get_or_default drawn k none a there in
    let stroke = c.in_ok-draw_arrow.field-0 in
    let same = ap (λ (f : PictureFrame). f.grid) c.loop-arrow.invariant.frame in
    record {
      titles = titles_more c.args.messages.now drawn k a c.loop-arrow.strokes.items
          c.push.new.self.items stroke there
          at c.in_ok-push.ensures.items c.in_ok-draw_arrow.ensures.title
          c.loop-arrow.invariant.titles;
      along = along_more c.args.self.now.frame.grid drawn k a c.loop-arrow.strokes.items
          c.push.new.self.items stroke there
          at c.in_ok-push.ensures.items
          (subst (λ g. RunsAlong g a.way stroke) same c.in_ok-draw_arrow.ensures.along)
          c.loop-arrow.invariant.along;
      words = words_more
          (λ (b : Arrow). Some (caption_along c.args.self.now.frame.grid c.args.self.now.frame.room.messages
          c.args.messages.now
          b.way b.number)) drawn k a (map caption_of c.args.self.now.sheet.words.items)
          (map caption_of c.loop-arrow.self.sheet.words.items)
          (map caption_of c.draw_arrow.new.self.sheet.words.items) there at
          c.loop-arrow.invariant.words
          (c.in_ok-draw_arrow.ensures.words
          ∙ ap (λ (f : PictureFrame). map caption_of c.loop-arrow.self.sheet.words.items
          ++ Some (caption_along f.grid f.room.messages c.args.messages.now a.way a.number) ∷ [])
          c.loop-arrow.invariant.frame);
      frame = c.draw_arrow.ensures.frame ∙ c.loop-arrow.invariant.frame;
    }
