use Rattle.std.proofs.Common.{◌≡◌, ◌∙◌, ◌++◌, ◌∷◌, [], ap, subst, false, get_or, map}
use Rattle.std.proofs.lemmas.List.{get_or_default}
use Rattle.picture_layout.specs.declared.drawn.Stub.{Stub}
use Rattle.picture_layout.specs.Fates.{leaving_in}
use Rattle.picture_shapes.specs.declared.frame.PictureFrame.{PictureFrame}
use Rattle.picture_run.specs.Along.{Departs}
use Rattle.picture_run.specs.Captions.{said_of, says_of}
use Rattle.picture_run.proofs.Along.{depart_more, stubs_more, words_more}
use Rattle.picture_run.proofs.drawing.Drawing.draw_stubs.Goals as goal

pub loop-stub-preserved : goal.loop-stub-preserved
loop-stub-preserved c =
    let stubs = c.args.stubs.now in
    let k = c.loop-stub.stub-index in
    let there = c.loop-stub-test.true in
    let none : Stub = record { number = 0; from = 0; left = 0; to = 0; row = 0; crossed = false } in
    let t : Stub = get_or stubs k none in
    let at : t ≡ get_or stubs k t = get_or_default stubs k none t there in
    let stroke = c.in_ok-draw_stub.field-0 in
    let same = ap (λ (f : PictureFrame). f.grid) c.loop-stub.invariant.frame in
    record {
      titles = stubs_more c.args.messages.now stubs k t c.loop-stub.lines.items
          c.push.new.self.items stroke there at
          c.in_ok-push.ensures.items c.in_ok-draw_stub.ensures.title c.loop-stub.invariant.titles;
      depart = depart_more c.args.self.now.frame.grid stubs k t c.loop-stub.lines.items
          c.push.new.self.items stroke there at
          c.in_ok-push.ensures.items (subst (λ g. Departs g (leaving_in t) stroke) same
          c.in_ok-draw_stub.ensures.departs)
          c.loop-stub.invariant.depart;
      words = words_more (λ (s : Stub). says_of c.args.self.now.frame.room.messages c.args.messages.now
          s.number) stubs k t
          (map said_of c.args.self.now.sheet.words.items) (map said_of c.loop-stub.self.sheet.words.items)
          (map said_of c.draw_stub.new.self.sheet.words.items) there at c.loop-stub.invariant.words
          (c.in_ok-draw_stub.ensures.words
          ∙ ap (λ (f : PictureFrame). map said_of c.loop-stub.self.sheet.words.items
          ++ says_of f.room.messages c.args.messages.now t.number ∷ []) c.loop-stub.invariant.frame);
      frame = c.draw_stub.ensures.frame ∙ c.loop-stub.invariant.frame;
    }
