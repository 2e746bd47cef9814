-- How long the file of a log may become.
use Rattle.std.specs.Prelude.{ℕ, ◌*◌, ◌-◌, ◌^◌, Bool, nat_lt, max, min}
use Rattle.node_desk.specs.declared.growth.Growth.{Growth}

-- as it was asked for
abbrev pub limit_first : ℕ → Growth
limit_first at = record { at = at; limit = at }

-- a file of this length is trimmed
abbrev pub is_longer : Growth → ℕ → Bool
is_longer g size = nat_lt g.limit size

-- after a trim that left a file of this length: not before the file has doubled
abbrev pub limit_after : Growth → ℕ → Growth
limit_after g size = record { at = g.at; limit = max g.at (min (size * 2) (2 ^ 64 - 1)) }
