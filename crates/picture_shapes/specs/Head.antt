-- The text before the shapes of a picture: its size, its title, its style, its ground and its legend.
use Rattle.std.specs.Borrow.{Bor}
use Rattle.std.specs.Prelude.{ℕ, ◌+◌, ◌-◌, ◌*◌, ◌/◌, ◌%◌, Bool, min, max, List, [], ◌∷◌, ◌++◌, codes, filter, map}
use Rattle.picture_shapes.specs.declared.fixed.TheConstants.{LEGEND, STYLE}
use Rattle.picture_shapes.specs.declared.frame.PictureFrame.{PictureFrame}
use Rattle.picture_shapes.specs.declared.head.Summary.{Summary}
use Rattle.picture_shapes.specs.declared.signs.Sign.{Sign}
use Rattle.picture_shapes.specs.declared.signs.Sign.TheVariants as sign
use Rattle.picture_shapes.specs.declared.signs.Signs.{Signs}
use Rattle.picture_shapes.specs.Grids.{line_at}
use Rattle.picture_shapes.specs.Words.{pair_text, word_text}

-- Where its parts are.

-- a picture reaches one gap beyond its last line
abbrev pub width_of : PictureFrame → ℕ
width_of f = line_at f.grid f.processes

-- as many entries of the legend as have room are in a line: 236 pixels each, at least one, and at most 19
unfoldable pub keys_in_line : PictureFrame → ℕ
keys_in_line f = max (min ((width_of f - 20) / 236) 19) 1

-- the left of the entry with a number, from 0
abbrev pub key_x : PictureFrame → ℕ → ℕ
key_x f entry = 20 + 236 * (entry % keys_in_line f)

-- the line of the entry: lines are 22 pixels high
abbrev pub key_y : PictureFrame → ℕ → ℕ
key_y f entry = 64 + 22 * (entry / keys_in_line f)

-- Size, title and ground.

-- the size of a picture
unfoldable pub size_text : ℕ → ℕ → List ℕ
size_text width height =
    word_text (codes "<svg xmlns=\"http://www.w3.org/2000/svg\" width=\"") width
    ++ word_text (codes "\" height=\"") height ++ pair_text (codes "\" viewBox=\"0 0 ") width height
    ++ codes "\" class=\"ink\" role=\"graphics-document\" aria-labelledby=\"title desc\">\n"

-- of how many events and processes it is
unfoldable pub title_words : Summary → List ℕ
title_words s =
    word_text (codes "A run of ") s.events ++ word_text (codes " events on ") s.processes
    ++ codes " processes"

-- this as its title, and what is read aloud of it: how many messages there are, how many of them are never
-- delivered, and how many crashes
unfoldable pub summary_text : Summary → List ℕ
summary_text s =
    codes "<title id=\"title\">" ++ title_words s
    ++ word_text
    (codes
    "</title>\n<desc id=\"desc\">Time runs downward. Each process is a line, each message an arrow. ")
    s.messages
    ++ word_text (codes " messages, ") s.open ++ word_text (codes " of them never delivered; ") s.crashes
    ++ codes " crashes.</desc>\n"

-- the ground of all of it, with the title on it
unfoldable pub ground_text : ℕ → ℕ → Summary → List ℕ
ground_text width height s =
    word_text (codes "<rect class=\"bg\" width=\"") width ++ word_text (codes "\" height=\"") height
    ++ codes "\"/><text x=\"20\" y=\"36\" class=\"big b\">" ++ title_words s ++ codes "</text>\n"

-- The legend.

-- the picture has a sign
abbrev pub has : Signs → Sign → Bool
has s sign.Forced = s.forced
has s sign.Unforced = s.unforced
has s sign.Lost = s.lost
has s sign.Crash = s.crash
has s sign.Message = s.message
has s sign.Again = s.again
has s sign.Undelivered = s.undelivered
has s sign.Far = s.far
has s sign.Vote = s.vote
has s sign.Commit = s.commit
has s sign.Abort = s.abort
has s sign.Inquiry = s.inquiry
has s sign.Doubt = s.doubt
has s sign.Operator = s.operator
has s sign.Warning = s.warning
has s sign.Application = s.application
has s sign.Several = s.several
has s sign.Handled = s.handled
has s sign.Trim = s.trim
has s sign.Note = s.note

-- an entry of the legend: a sign, how it is drawn there, and what it means
pub record Key : Type 0 where
  pub sign : Sign
  pub drawn : List ℕ
  pub meaning : List ℕ

-- an entry, by the words that a function is passed
abbrev pub key_of : Sign × Bor (List ℕ) × Bor (List ℕ) → Key
key_of k = record { sign = k.0; drawn = k.1.now; meaning = k.2.now }

-- all entries that a legend may have, in their order
abbrev pub all_keys : List Key
all_keys = map (λ k. record { sign = k.0; drawn = k.1.now; meaning = k.2.now }) LEGEND

-- of these entries those whose signs the picture has
abbrev pub keys_among : Signs → List Key → List Key
keys_among s keys = filter (λ (k : Key). has s k.sign) keys

-- the entries of its legend: each explains a sign that the picture has, and none is left out
abbrev pub keys_of : Signs → List Key
keys_of s = keys_among s all_keys

-- an entry: the sign as it is drawn, and what it means
unfoldable pub key_text : PictureFrame → ℕ → List ℕ → List ℕ → List ℕ
key_text f entry drawn meaning =
    pair_text (codes "<g transform=\"translate(") (key_x f entry) (key_y f entry) ++ codes ")\">" ++ drawn
    ++ codes "<text x=\"50\" y=\"4\" class=\"dim\">" ++ meaning ++ codes "</text></g>\n"

-- entries, the first of which has this number
unfoldable pub keys_text : PictureFrame → ℕ → List Key → List ℕ
keys_text f entry [] = []
keys_text f entry (k ∷ ks) = key_text f entry k.drawn k.meaning ++ keys_text f (entry + 1) ks

-- the legend
abbrev pub legend_text : PictureFrame → Signs → List ℕ
legend_text f s = keys_text f 0 (keys_of s)

-- All that is before the shapes: the size, the title, the style, the ground and the legend. Its words and
-- drawings are those that are written here and in the constants `STYLE` and `LEGEND`, and nothing else is
-- among it.
unfoldable pub head_text : PictureFrame → ℕ → Summary → Signs → List ℕ
head_text f height summary s =
    size_text (width_of f) height ++ summary_text summary ++ STYLE.now
    ++ ground_text (width_of f) height summary
    ++ legend_text f s
