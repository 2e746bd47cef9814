-- The words beside arrows.
use Rattle.std.specs.Prelude.{ℕ, ◌+◌, ◌-◌, ◌^◌, Bool, not, if◌then◌else◌, min, nat_lt, Option, None, Some, option_map, List, [], ◌∷◌}
use Rattle.protocol.specs.declared.messages.Envelope.{Envelope}
use Rattle.picture_layout.specs.declared.drawn.Way.{Way}
use Rattle.picture_shapes.specs.declared.frame.Grid.{Grid}
use Rattle.picture_shapes.specs.declared.shapes.Shape.{Shape}
use Rattle.picture_shapes.specs.declared.shapes.Shape.TheVariants as shape
use Rattle.picture_shapes.specs.Grids.{line_at, row_at}
use Rattle.picture_words.specs.Labels.{label_in, number_text}
use Rattle.picture_run.specs.Along.{tip_of}
use Rattle.picture_run.specs.declared.sheet.Draft.{Draft}

-- words beside an arrow: a number, what follows it, and where they begin, or end if they are at the left
pub record Caption : Type 0 where
  pub number : List ℕ
  pub words : List ℕ
  pub x : ℕ
  pub y : ℕ
  pub right : Bool

-- the words of a shape; no other shape has a caption's
abbrev pub caption_of : Shape → Option Caption
caption_of (shape.Label l) =
    Some (record { number = l.number.items; words = l.body.items; x = l.x; y = l.y; right = l.right })
caption_of other = None

-- 10 pixels before the tip of an arrow that goes to the right or to the left
abbrev pub before_tip : ℕ → Bool → ℕ
before_tip tip right = if right then tip - 10 else min (tip + 10) (2 ^ 64 - 1)

-- words above the end of an arrow between these lines, which ends at this height: they reach to its tip
abbrev pub caption_at : ℕ → ℕ → ℕ → List ℕ → List ℕ → Caption
caption_at x to_x to_y number words = record {
  number = number;
  words = words;
  x = before_tip (tip_of to_x (nat_lt x to_x)) (nat_lt x to_x);
  y = to_y - 5;
  right = not (nat_lt x to_x);
}

-- those of a draft
abbrev pub caption_by : Draft → Caption
caption_by d = caption_at d.x d.to_x d.to_y d.number.items d.label.items

-- those of a message that was delivered: its number and its words, above the end of its arrow
abbrev pub caption_along : Grid → ℕ → List Envelope → Way → ℕ → Caption
caption_along g room messages w n =
    caption_at (line_at g w.from) (line_at g w.to) (row_at g w.row) (number_text n) (label_in room messages n)

-- those of messages that were delivered along these ways
unfoldable pub captions_along : Grid → ℕ → List Envelope → List Way → List ℕ → List (Option Caption)
captions_along g room messages (w ∷ ws) (n ∷ ns) =
    Some (caption_along g room messages w n) ∷ captions_along g room messages ws ns
captions_along g room messages ws ns = []

-- what a caption says
abbrev pub said_of : Shape → Option (List ℕ × List ℕ)
said_of s = option_map (λ (c : Caption). (c.number, c.words)) (caption_of s)

-- what the captions of messages say that are drawn where they were sent
abbrev pub says_of : ℕ → List Envelope → ℕ → Option (List ℕ × List ℕ)
says_of room messages n = Some (number_text n, label_in room messages n)
