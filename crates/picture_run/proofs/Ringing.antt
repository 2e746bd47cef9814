-- The rings of a picture, one after another.
use Rattle.std.proofs.Common.{◌≡◌, ◌∙◌, ap, sym, refl, arith, false, ℕ, ◌+◌, ◌<◌, ◌==◌, if◌then◌else◌, Some, List, [], ◌∷◌, ◌++◌, get_or, length, map, take}
use Rattle.std.proofs.lemmas.Grind.{flat_map-append}
use Rattle.std.proofs.lemmas.List.{append-nil, append_assoc, map-append, take_more}
use Rattle.std.specs.Global.{Vec}
use Rattle.picture_shapes.specs.declared.shapes.Note.{Note}
use Rattle.picture_shapes.specs.declared.shapes.Shape.{Shape}
use Rattle.picture_shapes.specs.declared.shapes.Square.{Square}
use Rattle.picture_shapes.specs.declared.shapes.Stroke.{Stroke}
use Rattle.picture_shapes.specs.declared.shapes.Shape.TheVariants as shape
use Rattle.picture_shapes.specs.Svg.{shape_text, shapes_text, squares_text, strokes_text}
use Rattle.picture_run.specs.Rings.{HasRings, ring_words, told, told_of}

-- the line of a shape
line_of : Shape → List ℕ
line_of s = shape_text s ++ 10 ∷ []

-- a step of which nothing is told
pub no_ring : (rs : List Shape) (ws : List ℕ) → length ws ≡ 0
    → map ring_words rs ≡ map ring_words rs ++ map Some (told_of ws)
no_ring rs ws none = grind (arith, none, append-nil (map ring_words rs))

-- a step of which something is told
pub a_ring : (old new : List Shape) (n : Note) (ws : List ℕ) → (length ws == 0) ≡ false
    → new ≡ old ++ shape.Note n ∷ [] → n.title.items ≡ ws
    → map ring_words new ≡ map ring_words old ++ map Some (told_of ws)
a_ring old new n ws some push title =
    ap (λ rs. map ring_words rs) push ∙ map-append ring_words old (shape.Note n ∷ [])
    ∙ ap (λ w. map ring_words old ++ Some w ∷ []) title
    ∙ sym (ap (λ b. map ring_words old ++ map Some (if b then [] else ws ∷ [])) some)

-- the rings of one more step
pub rings_more : (notes : List (Vec ℕ)) (k : ℕ) (v : Vec ℕ) (old new : List Shape) → k < length notes
    → v ≡ get_or notes k v → map ring_words old ≡ map Some (told (take k notes))
    → map ring_words new ≡ map ring_words old ++ map Some (told_of v.items)
    → map ring_words new ≡ map Some (told (take (k + 1) notes))
rings_more notes k v old new there at were is =
    let all : take (k + 1) notes ≡ take k notes ++ v ∷ [] =
    take_more notes k v there ∙ ap (λ x. take k notes ++ x ∷ []) (sym at) in
    let said : told (take (k + 1) notes) ≡ told (take k notes) ++ told (v ∷ []) =
    ap (λ xs. told xs) all ∙ flat_map-append (λ (w : Vec ℕ). told_of w.items) (take k notes) (v ∷ []) in
    let one : told (v ∷ []) ≡ told_of v.items = append-nil (told_of v.items) in
    is ∙ ap (λ xs. xs ++ map Some (told_of v.items)) were
    ∙ ap (λ xs. map Some (told (take k notes)) ++ map Some xs) (sym one)
    ∙ sym (map-append Some (told (take k notes)) (told (v ∷ []))) ∙ ap (λ xs. map Some xs) (sym said)

joined : (h b s t l x o a r d q w e : List ℕ)
    → (((((((((h ++ b) ++ s) ++ t) ++ l) ++ x) ++ o) ++ (a ++ r ++ d)) ++ q) ++ w) ++ e
    ≡ (((((((h ++ b) ++ s) ++ t) ++ l) ++ x) ++ o) ++ a) ++ r ++ (((d ++ q) ++ w) ++ e)
joined h b s t l x o a r d q w e = simp append_assoc refl

-- a text whose small marks are these, with the rings among them, has the rings
pub ringed : (notes : List (Vec ℕ)) (rings before after below boxes words : List Shape)
    (strokes departures lines : List Stroke)
    (openings squares : List Square) (h e text : List ℕ) → map ring_words rings ≡ map Some (told notes)
    → text ≡ (((((((((h ++ shapes_text below) ++ strokes_text strokes) ++ strokes_text departures)
    ++ strokes_text lines)
    ++ shapes_text boxes)
    ++ squares_text openings) ++ shapes_text (before ++ rings ++ after)) ++ squares_text squares)
    ++ shapes_text words) ++ e
    → HasRings notes text
unfolding line_of
ringed notes rings before after below boxes words strokes departures lines openings squares h e
    text told_are is =
    let b = shapes_text below in
    let s = strokes_text strokes in
    let t = strokes_text departures in
    let l = strokes_text lines in
    let x = shapes_text boxes in
    let o = squares_text openings in
    let q = squares_text squares in
    let w = shapes_text words in
    let parts : shapes_text (before ++ rings ++ after)
    ≡ shapes_text before ++ shapes_text rings ++ shapes_text after =
    flat_map-append line_of (before ++ rings) after
    ∙ ap (λ xs. xs ++ shapes_text after) (flat_map-append line_of before rings) in
    record {
      front = ((((((h ++ b) ++ s) ++ t) ++ l) ++ x) ++ o) ++ shapes_text before;
      rings = rings;
      rest = ((shapes_text after ++ q) ++ w) ++ e;
      words = told_are;
      layer = is
          ∙ ap (λ xs. ((((((((((h ++ b) ++ s) ++ t) ++ l) ++ x) ++ o) ++ xs) ++ q) ++ w) ++ e)) parts
          ∙ joined h b s t l x o (shapes_text before) (shapes_text rings) (shapes_text after) q w e;
    }
