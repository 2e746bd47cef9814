-- What a handle owns: a box, or nothing.
use Rattle.std.specs.Prelude.{Option, Some, None}
use base.Fml.{Fml, ftrue}
use denote.RattleType.{RattleType}
use denote.RawPtr.{Ptr}
use Rattle.held.specs.Boxes.{global_box}

-- the box at p whose value is x, or nothing
abbrev pub handle_owns : (R : RattleType) → Ptr → Option R.Denot → Fml
handle_owns R p None = ftrue
handle_owns R p (Some x) = global_box R p x
