use Rattle.std.proofs.Common.{◌≡◌, ◌++◌, map, take}
use Rattle.picture_layout.specs.declared.drawn.Stub.{Stub}
use Rattle.picture_layout.specs.Fates.{leaving_in}
use Rattle.picture_words.specs.Labels.{title_in}
use Rattle.picture_run.specs.Along.{DepartAll}
use Rattle.picture_run.specs.Captions.{said_of, says_of}
use Rattle.picture_run.specs.Pictures.{titles_of}
use Rattle.picture_run.proofs.drawing.Drawing.draw_stubs.Given as goal

abbrev pub invariant-loop-stub : goal.invariant-loop-stub
invariant-loop-stub l = record {
  titles : titles_of l.lines.items ≡ map (λ (s : Stub). title_in l.messages s.number)
      (take l.stub-index l.stubs);
  depart : DepartAll l.initial.self.frame.grid (map leaving_in (take l.stub-index l.stubs)) l.lines.items;
  words : map said_of l.self.sheet.words.items ≡ map said_of l.initial.self.sheet.words.items
      ++ map (λ (s : Stub). says_of l.initial.self.frame.room.messages l.messages s.number)
      (take l.stub-index l.stubs);
  frame : l.self.frame ≡ l.initial.self.frame;
}
