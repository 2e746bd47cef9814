-- The lines of an input.
use Rattle.std.specs.Prelude.{◌≡◌, ◌≢◌, ◌+◌, ◌&&◌, ◌==◌, ℕ, Bool, true, false, not, nat_lt, List, [], ◌∷◌, ◌++◌, All, length, take, Option, OnSome}
use Rattle.std.specs.Io.KnownBytes.{Consumes, IsAtEnd}

-- how many bytes a line has at most, before its line feed
abbrev pub longest : ℕ
longest = 4096

-- these bytes are too many for a line
abbrev pub beyond : List ℕ → Bool
beyond front = nat_lt longest (length front)

-- a piece of an input: what comes before a line feed, and whether a line feed comes after it
pub record Piece : Type 0 where
  pub front : List ℕ
  pub fed : Bool

-- the line feed, if there is one
abbrev pub feed : Bool → List ℕ
feed true = 10 ∷ []
feed false = []

-- the bytes of a piece
abbrev pub bytes_of : Piece → List ℕ
bytes_of p = p.front ++ feed p.fed

-- there is nothing: no byte, and no line feed
abbrev pub is_none_left : List ℕ → Bool → Bool
is_none_left front fed = (length front == 0) && not fed

-- The piece is the next line of a reader, which loses its bytes, if it says what it has: no byte before its
-- line feed is one, and one without a line feed is the last.
pub record IsNext (old new : Option (List ℕ)) (p : Piece) : Type 0 where
  pub no_feed : All (λ x. x ≢ 10) p.front
  pub took : Consumes old new (bytes_of p)
  pub last : p.fed ≡ false → OnSome old (IsAtEnd new)

-- of a line this is kept: what comes before its line feed, but no more than one byte beyond the longest line
pub record Keeps (kept : List ℕ) (is_fed : Bool) (p : Piece) : Type 0 where
  pub front : kept ≡ take (longest + 1) p.front
  pub fed : is_fed ≡ p.fed

-- this is kept of the next line of a reader
pub record ReadsLine (old new : Option (List ℕ)) (kept : List ℕ) (is_fed : Bool) : Type 0 where
  pub piece : Piece
  pub next : IsNext old new piece
  pub keeps : Keeps kept is_fed piece
