-- The rings of a picture.
use Rattle.std.specs.Prelude.{◌≡◌, ℕ, ◌==◌, if◌then◌else◌, Option, Some, None, List, [], ◌∷◌, ◌++◌, length, map}
use Rattle.std.specs.Global.{Vec}
use Rattle.std.specs.List.{flat_map}
use Rattle.picture_shapes.specs.declared.shapes.Shape.{Shape}
use Rattle.picture_shapes.specs.declared.shapes.Shape.TheVariants as shape
use Rattle.picture_shapes.specs.Svg.{shapes_text}

-- what is told of a step, if something is
abbrev pub told_of : List ℕ → List (List ℕ)
told_of ws = if length ws == 0 then [] else ws ∷ []

-- what is told of steps, in their order: of one of which nothing is, there are no words
abbrev pub told : List (Vec ℕ) → List (List ℕ)
told notes = flat_map (λ words. told_of words.items) notes

-- the words that a ring shows where the pointer rests; no other shape is a ring
abbrev pub ring_words : Shape → Option (List ℕ)
ring_words (shape.Note n) = Some n.title.items
ring_words other = None

-- a part of the text is a ring for each step of which something is told, with its words as title, in the
-- order of the steps
pub record HasRings (notes : List (Vec ℕ)) (text : List ℕ) : Type 0 where
  pub front : List ℕ
  pub rings : List Shape
  pub rest : List ℕ
  pub words : map ring_words rings ≡ map Some (told notes)
  pub layer : text ≡ front ++ shapes_text rings ++ rest
