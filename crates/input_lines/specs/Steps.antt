-- How far a read on in a line comes.
use Rattle.std.specs.Prelude.{◌≡◌, ◌≢◌, ℕ, List, [], ◌∷◌, ◌++◌, All, take, Option, OnSome}
use Rattle.std.specs.Io.KnownBytes.{Consumes, IsAtEnd}
use Rattle.input_lines.specs.declared.reading.Reach.{Reach}
use Rattle.input_lines.specs.declared.reading.Reach.TheVariants.{Feed, End}

-- the line feed that ended the line, if one did
abbrev pub ending : Reach → List ℕ
ending Feed = 10 ∷ []
ending _ = []

-- The reader lost these bytes, none of which is a line feed, and the line feed that ended the line, if one
-- did. Of them as many are kept, after what was kept before, as there is room for. At the end of the input
-- none is left.
pub record ReadsOn (old new : Option (List ℕ)) (before after : List ℕ) (room : ℕ)
    (reach : Reach) : Type 0 where
  pub part : List ℕ
  pub no_feed : All (λ x. x ≢ 10) part
  pub took : Consumes old new (part ++ ending reach)
  pub keeps : after ≡ before ++ take room part
  pub end : reach ≡ End → OnSome old (IsAtEnd new)
