-- What a picture tells of its run.
use Rattle.std.specs.Prelude.{◌≡◌, ℕ, ◌<◌, ◌+◌, ◌-◌, Bool, true, Option, All, List, ◌++◌, codes, length, map}
use Rattle.protocol.specs.declared.events.JournalEntry.{JournalEntry}
use Rattle.protocol.specs.declared.events.Event.{Event}
use Rattle.protocol.specs.declared.trees.TreeProcess.{TreeProcess}
use Rattle.protocol.specs.declared.records.RecordKind.TheVariants.{Opened}
use Rattle.protocol.specs.declared.records.Subject.TheVariants.{Boot}
use Rattle.picture_layout.specs.declared.rows.StepRows.{StepRows}
use Rattle.picture_layout.specs.declared.seats.Column.{Column}
use Rattle.picture_layout.specs.declared.fates.Fate.{Fate}
use Rattle.picture_layout.specs.Fates.{AreFates, Leaving, leavings}
use Rattle.picture_layout.specs.Rising.{RiseTo}
use Rattle.picture_layout.specs.Ways.{HasSeat, SitFrom, Spot, senders, spots_in, ways_in}
use Rattle.picture_layout.specs.Whole.{deliveries, sent_in}
use Rattle.picture_shapes.specs.declared.frame.PictureFrame.{PictureFrame}
use Rattle.picture_shapes.specs.declared.frame.Grid.{Grid}
use Rattle.picture_shapes.specs.declared.shapes.Shape.{Shape}
use Rattle.picture_shapes.specs.declared.shapes.Square.{Square}
use Rattle.picture_shapes.specs.declared.shapes.Stroke.{Stroke}
use Rattle.picture_shapes.specs.declared.signs.Signs.{Signs}
use Rattle.picture_shapes.specs.Grids.{line_at, row_at}
use Rattle.picture_shapes.specs.Head.{head_text, keys_of}
use Rattle.picture_words.specs.Labels.{record_name, title_in}
use Rattle.picture_shapes.specs.Svg.{shapes_text, squares_text, strokes_text}
use Rattle.picture_run.specs.Along.{DepartAll, RunAlong}
use Rattle.picture_run.specs.Captions.{caption_of, captions_along, said_of, says_of}
use Rattle.picture_run.specs.Lines.{refused_lines, steps_lines}
use Rattle.picture_run.specs.Sums.{summary_of}

-- what a mark tells: a record's name, whether it is filled, and where its corner is
abbrev pub square_key : Square → (List ℕ × Bool) × (ℕ × ℕ)
square_key s = ((s.name.items, s.forced), (s.x, s.y))

-- what a record has of that: its name, whether it was forced, and the corner 5 pixels left of its line and
-- above its row
abbrev pub spot_key : Grid → Spot → (List ℕ × Bool) × (ℕ × ℕ)
spot_key g p = ((record_name p.logged, p.logged.forced), (line_at g p.place - 5, row_at g p.row - 5))

-- the words that strokes show where the pointer rests
abbrev pub titles_of : List Stroke → List (List ℕ)
titles_of strokes = map (λ s. s.title.items) strokes

-- where the Opened with which a process began is drawn: at its line, above the first step
abbrev pub opening_of : Column → Spot
opening_of s = record {
  place = s.place;
  row = 0;
  logged = record { subject = Boot 1; kind = Opened; forced = true };
}

-- The text is a picture of these steps of a tree, of a run of N events. It has an arrow for each
-- delivery, with all of its message, from the line of its sender and the row of the step that sent it to the
-- line of its receiver and the row of the step that it made; of one that left long before, only where it ends
-- is said. It has a mark for each record, filled where it was forced, at the line of its process and the row
-- of its step. Both are in the order of the steps. Above the end of each arrow stand its message's number and
-- words, within the room of a column. Each process of the tree has a line of its own, and each step has rows
-- of its own, below those of the step before it. The other strokes are those of the messages that no step
-- delivers, or only one more than 24 steps later, where they were sent, with their words; of what each step
-- was asked and told the application, in the order of the steps; and of the event that was refused, if one
-- was. Where the strokes of these last two kinds are is not said. The other marks are those of each process's
-- Opened. All other shapes are no strokes and no marks of records, and nothing else is said of them. Before
-- the shapes stands just the head, with the numbers of events, processes, messages, messages that no step
-- delivers, and crashes. Which signs its legend explains is not said. After the shapes stands just the end of
-- the file.
pub record IsPicture (tree : List TreeProcess) (events : ℕ) (entries : List JournalEntry)
    (refused : Option Event)
    (text : List ℕ) : Type 0 where
  -- the lines of processes and the rows, and the room beside them
  pub frame : PictureFrame
  pub apart : 0 < frame.grid.gap
  pub seats : List Column
  pub wide : frame.processes ≡ length seats
  pub in_order : SitFrom 0 seats
  pub seated : All (HasSeat seats) tree
  pub rows : List StepRows
  pub end : ℕ
  pub rise : RiseTo 1 rows end
  pub each : length rows ≡ length entries
  -- the signs that the legend explains
  pub legend : Signs
  pub keys : frame.keys ≡ length (keys_of legend)
  pub below : List Shape
  pub strokes : List Stroke
  pub departures : List Stroke
  pub lines : List Stroke
  pub boxes : List Shape
  pub openings : List Square
  pub signs : List Shape
  pub squares : List Square
  -- words of the Opened marks, of arrows, of other marks, of messages where they were sent, and all others
  pub names : List Shape
  pub captions : List Shape
  pub records : List Shape
  pub apart_words : List Shape
  pub words : List Shape
  pub arrows : titles_of strokes ≡ map (title_in (sent_in entries))
      (deliveries (length (sent_in entries)) entries)
  pub ways : RunAlong frame.grid (ways_in seats rows (senders entries) entries) strokes
  pub marks : map square_key squares ≡ map (spot_key frame.grid) (spots_in seats rows entries)
  pub said : map caption_of captions ≡ captions_along frame.grid frame.room.messages (sent_in entries)
      (ways_in seats rows (senders entries) entries) (deliveries (length (sent_in entries)) entries)
  -- what becomes of each message, and so which are drawn where they were sent
  pub fates : List Fate
  pub fated : AreFates entries fates
  pub leaving : titles_of departures
      ≡ map (λ (l : Leaving). title_in (sent_in entries) l.number) (leavings seats rows entries fates)
  pub depart : DepartAll frame.grid (leavings seats rows entries fates) departures
  pub named : map said_of apart_words
      ≡ map (λ (l : Leaving). says_of frame.room.messages (sent_in entries) l.number)
      (leavings seats rows entries fates)
  pub others : titles_of lines ≡ steps_lines entries ++ refused_lines refused
  pub opened : map square_key openings ≡ map (λ s. spot_key frame.grid (opening_of s)) seats
  pub layers : text ≡ (((((((((head_text frame (row_at frame.grid end + 30)
      (summary_of events seats entries (leavings seats rows entries fates)) legend ++ shapes_text below)
      ++ strokes_text strokes) ++ strokes_text departures) ++ strokes_text lines) ++ shapes_text boxes)
      ++ squares_text openings) ++ shapes_text signs) ++ squares_text squares)
      ++ shapes_text ((((names ++ captions) ++ records) ++ apart_words) ++ words))
      ++ codes "</svg>\n"
