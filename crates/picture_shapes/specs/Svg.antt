-- The text of each shape.
use Rattle.std.specs.Prelude.{ℕ, ◌-◌, Bool, true, false, if◌then◌else◌, List, [], ◌∷◌, ◌++◌, codes}
use Rattle.std.specs.List.{flat_map}
use Rattle.picture_layout.specs.declared.stretches.Band.{Band}
use Rattle.picture_layout.specs.declared.stretches.Band.TheVariants.{Doubt, Operator as ByOperator}
use Rattle.picture_shapes.specs.declared.shapes.Tone.{Tone}
use Rattle.picture_shapes.specs.declared.shapes.Tone.TheVariants.{Ink, Dim, Vote, Yes, No, Ask, Operator}
use Rattle.picture_shapes.specs.declared.shapes.Look.{Look}
use Rattle.picture_shapes.specs.declared.shapes.Look.TheVariants.{Plain, Bold, Lost}
use Rattle.picture_shapes.specs.declared.shapes.Tip.{Tip}
use Rattle.picture_shapes.specs.declared.shapes.Tip.TheVariants.{Head, Ring as RingTip, Cross}
use Rattle.picture_shapes.specs.declared.shapes.Label.{Label}
use Rattle.picture_shapes.specs.declared.shapes.Path.{Path}
use Rattle.picture_shapes.specs.declared.shapes.Stroke.{Stroke}
use Rattle.picture_shapes.specs.declared.shapes.EventRule.{EventRule}
use Rattle.picture_shapes.specs.declared.shapes.PictureLife.{PictureLife}
use Rattle.picture_shapes.specs.declared.shapes.Joint.{Joint}
use Rattle.picture_shapes.specs.declared.shapes.Plate.{Plate}
use Rattle.picture_shapes.specs.declared.shapes.Patch.{Patch}
use Rattle.picture_shapes.specs.declared.shapes.Bar.{Bar}
use Rattle.picture_shapes.specs.declared.shapes.Dot.{Dot}
use Rattle.picture_shapes.specs.declared.shapes.Ring.{Ring}
use Rattle.picture_shapes.specs.declared.shapes.Square.{Square}
use Rattle.picture_shapes.specs.declared.shapes.Torn.{Torn}
use Rattle.picture_shapes.specs.declared.shapes.Note.{Note}
use Rattle.picture_shapes.specs.declared.shapes.Spot.{Spot}
use Rattle.picture_shapes.specs.declared.shapes.Shape.{Shape}
use Rattle.picture_shapes.specs.declared.shapes.Shape.TheVariants as shape
use Rattle.picture_shapes.specs.Words.{escaped, pair_text, word_text}

-- Classes.

-- the class of a tone
abbrev pub tone_word : Tone → List ℕ
tone_word Ink = codes "ink"
tone_word Dim = codes "dim"
tone_word Vote = codes "vote"
tone_word Yes = codes "yes"
tone_word No = codes "no"
tone_word Ask = codes "ask"
tone_word Operator = codes "op"

-- the class of a look, after a tone's
abbrev pub look_word : Look → List ℕ
look_word Plain = []
look_word Bold = codes " b"
look_word Lost = codes " lost"

-- Parts of shapes.

-- a title, which a browser shows under the pointer
unfoldable pub title_text : List ℕ → List ℕ
title_text title = codes "<title>" ++ escaped title ++ codes "</title>"

-- where a shape begins
unfoldable pub place_text : ℕ → ℕ → List ℕ
place_text x y = word_text (codes " x=\"") x ++ word_text (codes "\" y=\"") y ++ codes "\""

-- how large it is
unfoldable pub size_text : ℕ → ℕ → List ℕ
size_text width height =
    word_text (codes " width=\"") width ++ word_text (codes "\" height=\"") height ++ codes "\""

-- the middle and the radius of a circle, and its end
unfoldable pub circle_text : ℕ → ℕ → ℕ → List ℕ
circle_text x y radius =
    word_text (codes " cx=\"") x ++ word_text (codes "\" cy=\"") y ++ word_text (codes "\" r=\"") radius
    ++ codes "\"/>"

-- Rules, lines and boxes.

-- a rule with an event's number and its line
unfoldable pub rule_text : EventRule → List ℕ
rule_text r =
    word_text (codes "<path class=\"l rule\" d=\"M0 ") r.y ++ word_text (codes "H") r.width
    ++ word_text (codes "\"/><text class=\"dim b\" x=\"34\" y=\"") r.words_y
    ++ word_text (codes "\" text-anchor=\"end\">") r.event
    ++ word_text (codes "</text><text class=\"dim\" x=\"44\" y=\"") r.words_y ++ codes "\">"
    ++ escaped r.line.items ++ codes "</text>"

-- a part of a process's line
unfoldable pub life_text : PictureLife → List ℕ
life_text l =
    pair_text (codes "<path class=\"l life\" d=\"M") l.x l.y ++ word_text (codes "V") l.end ++ codes "\"/>"

-- a line from a parent's box to a child's
unfoldable pub joint_text : Joint → List ℕ
joint_text j =
    pair_text (codes "<path class=\"l life\" d=\"M") j.x j.y ++ word_text (codes "H") j.to_x
    ++ word_text (codes "V") j.to_y ++ codes "\"/>"

-- the corners of a box
abbrev pub corner_text : Bool → List ℕ
corner_text true = codes "15"
corner_text false = codes "4"

-- the box of a process
unfoldable pub frame_text : Plate → List ℕ
frame_text p =
    word_text (codes "<rect class=\"box ink\" x=\"") p.x ++ word_text (codes "\" y=\"") p.y
    ++ word_text (codes "\" width=\"") p.width ++ codes "\" height=\"30\" rx=\"" ++ corner_text p.is_round
    ++ codes "\"/>"

-- the words in it
unfoldable pub plate_words : Plate → List ℕ
plate_words p =
    word_text (codes "<text class=\"b\" x=\"") p.middle ++ word_text (codes "\" y=\"") p.words_y
    ++ codes "\" text-anchor=\"middle\">" ++ escaped p.body.items ++ codes "</text>"

-- Stretches and bars.

-- how a stretch begins
abbrev pub band_begin : Band → List ℕ
band_begin Doubt = codes "<g class=\"ask\">"
band_begin ByOperator = codes "<g class=\"op\">"

-- what its cases are
abbrev pub band_words : Band → List ℕ
band_words Doubt = codes " in doubt</title><rect class=\"doubt\""
band_words ByOperator = codes " decided by an operator</title><rect class=\"oper\""

-- a stretch
unfoldable pub patch_text : Patch → List ℕ
patch_text p =
    band_begin p.band ++ word_text (codes "<title>") p.process ++ word_text (codes ": ") p.count
    ++ band_words p.band ++ place_text p.x p.y ++ size_text p.width p.height ++ codes " rx=\"3\"/></g>"

-- a bar
unfoldable pub bar_text : Bar → List ℕ
bar_text b =
    codes "<rect class=\"bar life\"" ++ place_text b.x b.y ++ size_text 8 b.height ++ codes " rx=\"4\"/>"

-- Arrows.

-- how the line of an arrow begins
abbrev pub path_begin : Bool → List ℕ
path_begin true = codes "<path class=\"l again\" d=\""
path_begin false = codes "<path class=\"l\" d=\""

-- the line of an arrow
unfoldable pub path_text : Bool → Path → List ℕ
path_text again p =
    path_begin again ++ pair_text (codes "M") p.x p.y ++ pair_text (codes "L") p.turn_x p.turn_y
    ++ pair_text (codes "Q") p.corner p.level ++ pair_text (codes " ") p.straight p.level
    ++ word_text (codes "H") p.tip ++ codes "\"/>"

-- a head that points to the right, or to the left
abbrev pub head_end : Bool → List ℕ
head_end true = codes "l-10 -5v10z\"/>"
head_end false = codes "l10 -5v10z\"/>"

-- a head
unfoldable pub head_text : Bool → ℕ → ℕ → List ℕ
head_text right x y = pair_text (codes "<path class=\"f\" d=\"M") x y ++ head_end right

-- a ring: the arrow goes on elsewhere
unfoldable pub open_text : ℕ → ℕ → List ℕ
open_text x y = codes "<circle class=\"bar\"" ++ circle_text x y 4

-- a cross: the arrow ends here
unfoldable pub cross_text : ℕ → ℕ → List ℕ
cross_text left top = pair_text (codes "<path class=\"l\" d=\"M") left top ++ codes "l10 10m0 -10l-10 10\"/>"

-- the tip of an arrow
abbrev pub tip_text : Tip → Bool → ℕ → ℕ → List ℕ
tip_text Head right x y = head_text right x y
tip_text RingTip right x y = open_text x y
tip_text Cross right x y = cross_text (x - 5) (y - 5)

-- an arrow
unfoldable pub stroke_text : Stroke → List ℕ
stroke_text s =
    codes "<g class=\"" ++ tone_word s.tone ++ codes "\">" ++ title_text s.title.items
    ++ path_text s.again s.path ++ tip_text s.tip s.right s.path.tip s.path.level ++ codes "</g>"

-- Marks.

-- a ring
unfoldable pub ring_text : Ring → List ℕ
ring_text r = codes "<circle class=\"bar " ++ tone_word r.tone ++ codes "\"" ++ circle_text r.x r.y 4

-- a disc
unfoldable pub dot_text : Dot → List ℕ
dot_text d = codes "<circle class=\"f " ++ tone_word d.tone ++ codes "\"" ++ circle_text d.x d.y d.radius

-- what the title of a record says of it
abbrev pub force_words : Bool → Bool → List ℕ
force_words true false = codes ", forced</title>"
force_words true true = codes ", forced, lost</title>"
force_words false false = codes ", not forced</title>"
force_words false true = codes ", not forced, lost</title>"

-- a mark filled, or hollow
abbrev pub square_begin : Bool → List ℕ
square_begin true = codes "<rect class=\"f\""
square_begin false = codes "<rect class=\"o\""

-- the name of a record, which a browser shows under the pointer
unfoldable pub record_title : Square → List ℕ
record_title s =
    codes "<g class=\"" ++ tone_word s.tone ++ codes "\"><title>" ++ escaped s.name.items
    ++ force_words s.forced s.lost

-- the mark of a record
unfoldable pub square_text : Square → List ℕ
square_text s =
    record_title s ++ square_begin s.forced ++ place_text s.x s.y ++ codes " width=\"10\" height=\"10\"/></g>"

-- torn edges
unfoldable pub torn_text : Torn → List ℕ
torn_text t =
    codes "<g>" ++ title_text t.title.items ++ pair_text (codes "<path class=\"bg\" d=\"M") t.x t.y
    ++ pair_text (codes "h44v14h-44z\"/><path class=\"l no\" d=\"M") t.edge t.y
    ++ codes "l5 -4 10 8 10 -8 10 8 5 -4m0 14l-5 4 -10 -8 -10 8 -10 -8 -5 4\"/></g>"

-- a ring around a step, with what is told of it
unfoldable pub note_text : Note → List ℕ
note_text n =
    codes "<g>" ++ title_text n.title.items ++ codes "<circle class=\"l dim\" pointer-events=\"all\""
    ++ circle_text n.x n.y 8 ++ codes "</g>"

-- two bars across a line
unfoldable pub trim_text : Spot → List ℕ
trim_text s = pair_text (codes "<path class=\"l dim\" d=\"M") s.x s.y ++ codes "h20m-20 6h20\"/>"

-- a triangle
unfoldable pub warning_text : Spot → List ℕ
warning_text s =
    pair_text (codes "<path class=\"f op\" fill-rule=\"evenodd\" d=\"M") s.x s.y
    ++ codes "l10 18h-20zm-1 6h2v6h-2zm0 8h2v2h-2z\"/>"

-- Words.

-- the ground that words lie on
unfoldable pub ground_text : ℕ → ℕ → ℕ → List ℕ
ground_text x y size = codes "<rect class=\"bg\"" ++ place_text x y ++ size_text size 13 ++ codes "/>"

-- that of a label
abbrev pub ground_of : Label → List ℕ
ground_of l = ground_text (if l.right then l.x else l.x - l.size) (l.y - 11) l.size

-- words of a class of their own, if there are any
unfoldable pub span_text : List ℕ → List ℕ → List ℕ
span_text begin [] = []
span_text begin (b ∷ bs) = begin ++ escaped (b ∷ bs) ++ codes "</tspan>"

-- whether the words begin or end at their place
abbrev pub anchor_text : Bool → List ℕ
anchor_text true = codes ">"
anchor_text false = codes " text-anchor=\"end\">"

-- how the words of a label begin
unfoldable pub label_begin : Label → List ℕ
label_begin l =
    codes "<text class=\"" ++ tone_word l.tone ++ look_word l.look ++ codes "\"" ++ place_text l.x l.y
    ++ anchor_text l.right

-- a label
unfoldable pub label_text : Label → List ℕ
label_text l =
    ground_of l ++ label_begin l ++ span_text (codes "<tspan class=\"dim\">") l.number.items
    ++ escaped l.body.items ++ span_text (codes "<tspan class=\"lost\">") l.gone.items ++ codes "</text>"

-- Shapes.

-- the text of a shape: none is an arrow or the mark of a record
unfoldable pub shape_text : Shape → List ℕ
shape_text (shape.Rule r) = rule_text r
shape_text (shape.Life l) = life_text l
shape_text (shape.Joint j) = joint_text j
shape_text (shape.Plate p) = frame_text p ++ plate_words p
shape_text (shape.Patch p) = patch_text p
shape_text (shape.Bar b) = bar_text b
shape_text (shape.Ring r) = ring_text r
shape_text (shape.Dot d) = dot_text d
shape_text (shape.Torn t) = torn_text t
shape_text (shape.Note n) = note_text n
shape_text (shape.Trim s) = trim_text s
shape_text (shape.Warning s) = warning_text s
shape_text (shape.Label l) = label_text l

-- shapes, a line each
abbrev pub shapes_text : List Shape → List ℕ
shapes_text shapes = flat_map (λ s. shape_text s ++ 10 ∷ []) shapes

-- marks, a line each
abbrev pub squares_text : List Square → List ℕ
squares_text squares = flat_map (λ s. square_text s ++ 10 ∷ []) squares

-- arrows, a line each
abbrev pub strokes_text : List Stroke → List ℕ
strokes_text strokes = flat_map (λ s. stroke_text s ++ 10 ∷ []) strokes
