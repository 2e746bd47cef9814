-- How an arrow is drawn along its way.
use Rattle.std.specs.Prelude.{◌≡◌, ⊤, ℕ, ◌+◌, ◌-◌, ◌^◌, Bool, false, if◌then◌else◌, min, nat_lt, List, [], ◌∷◌}
use Rattle.picture_layout.specs.declared.drawn.Way.{Way}
use Rattle.picture_layout.specs.Fates.{Leaving}
use Rattle.picture_shapes.specs.declared.frame.Grid.{Grid}
use Rattle.picture_shapes.specs.declared.shapes.Stroke.{Stroke}
use Rattle.picture_shapes.specs.declared.shapes.Tip.TheVariants.{Cross, Ring}
use Rattle.picture_shapes.specs.Grids.{line_at, row_at}
use Rattle.picture_run.specs.declared.sheet.Draft.{Draft}

-- where the tip of an arrow to this line begins, which comes from the left or from the right: 9 pixels before
-- the line
abbrev pub tip_of : ℕ → Bool → ℕ
tip_of x right = if right then x - 9 else min (x + 9) (2 ^ 64 - 1)

-- a stroke goes from one point to another, but its beginning is left out if it is far
pub record Goes (x y to_x to_y : ℕ) (far : Bool) (s : Stroke) : Type 0 where
  pub right : s.right ≡ nat_lt x to_x
  pub tip : s.path.tip ≡ tip_of to_x (nat_lt x to_x)
  pub lands : s.path.level ≡ to_y
  pub begins : far ≡ false → (s.path.x ≡ x) × (s.path.y ≡ y)

-- a stroke is drawn as a draft says
abbrev pub IsDrawn : Draft → Stroke → Type 0
IsDrawn d = Goes d.x d.y d.to_x d.to_y d.far

-- a stroke is drawn along a way, from line to line and from row to row
abbrev pub RunsAlong : Grid → Way → Stroke → Type 0
RunsAlong g w = Goes (line_at g w.from) (row_at g w.left) (line_at g w.to) (row_at g w.row) w.far

-- a stroke leaves where a message was sent that is drawn apart, and ends in a cross if that is never
-- delivered, else in a ring
pub record Departs (g : Grid) (l : Leaving) (s : Stroke) : Type 0 where
  pub x : s.path.x ≡ line_at g l.place
  pub y : s.path.y ≡ row_at g l.row
  pub tip : s.tip ≡ (if l.never then Cross else Ring)

-- strokes leave where these messages were sent, one of each
abbrev pub DepartAll : Grid → List Leaving → List Stroke → Type 0
DepartAll g [] [] = ⊤
DepartAll g (l ∷ ls) (s ∷ ss) = Departs g l s × DepartAll g ls ss
DepartAll g ls ss = ⊥

-- strokes are drawn along these ways, one along each
abbrev pub RunAlong : Grid → List Way → List Stroke → Type 0
RunAlong g [] [] = ⊤
RunAlong g (w ∷ ws) (s ∷ ss) = RunsAlong g w s × RunAlong g ws ss
RunAlong g ws ss = ⊥
