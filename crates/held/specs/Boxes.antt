-- What a box of the C library's heap owns.
use base.Fml.{Fml}
use denote.RattleType.{RattleType}
use denote.RawPtr.{Ptr}
use Rattle.std.specs.declared.alloc.Global.{Global}
use Rattle.std.specs.contracts.impls.GlobalAllocator.TheImpl.{ghosts}
use Rattle.std_alloc.specs.Box.Ownership.{box_owns}

-- the allocator, of which there is one
abbrev pub heap : Global
heap = record { memory = record { seal = tt } }

-- the value x at p, and the right to free its block
abbrev pub global_box : (R : RattleType) → Ptr → R.Denot → Fml
global_box R p x = box_owns (ghosts.dealloc_token heap) R p x
