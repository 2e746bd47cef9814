use Rattle.std.proofs.Common.{◌≡◌, ◌++◌, Some, map, take}
use Rattle.picture_layout.specs.declared.drawn.Arrow.{Arrow}
use Rattle.picture_shapes.specs.declared.shapes.Stroke.{Stroke}
use Rattle.picture_words.specs.Labels.{title_in}
use Rattle.picture_run.specs.Along.{RunAlong}
use Rattle.picture_run.specs.Captions.{caption_along, caption_of}
use Rattle.picture_run.proofs.drawing.Drawing.draw_arrows.Given as goal

abbrev pub invariant-loop-arrow : goal.invariant-loop-arrow
invariant-loop-arrow l = record {
  titles : map (λ (s : Stroke). s.title.items) l.strokes.items
      ≡ map (λ (a : Arrow). title_in l.messages a.number) (take l.arrow-index l.arrows);
  along : RunAlong l.initial.self.frame.grid (map (λ (a : Arrow). a.way) (take l.arrow-index l.arrows))
      l.strokes.items;
  words : map caption_of l.self.sheet.words.items ≡ map caption_of l.initial.self.sheet.words.items
      ++ map (λ (a : Arrow). Some (caption_along l.initial.self.frame.grid
      l.initial.self.frame.room.messages l.messages
      a.way a.number)) (take l.arrow-index l.arrows);
  frame : l.self.frame ≡ l.initial.self.frame;
}
