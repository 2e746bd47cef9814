-- What the cases end as, where a `&mut` to a live case is returned.
use Rattle.std.specs.Prelude.{ℕ, Option, Some, None, slice_set}
use Rattle.std.specs.Borrow.{LendsIf, Fml, MutBor}
use Rattle.protocol.specs.declared.names.Case.{Case}
use Rattle.protocol.specs.Standings.{CoordinatorView}
use Rattle.case_table.specs.Tables.{entry_at}
use Rattle.coord_case.specs.contracts.live.Live.{the_row as live_row}
use Rattle.coord_cases.specs.contracts.cases.LiveCases.{the_row as cases_row}
use Rattle.coord_cases.specs.declared.held.Held.{Held}
use Rattle.coord_cases.specs.Cases.{Slots}

-- the entry with another live case
abbrev pub relived : Option (Case × Held) → CoordinatorView → Option (Case × Held)
relived None v = None
relived (Some p) v = Some (p.0, record p.1 { live = v })

-- the slots with another live case at the key
abbrev pub with_live : Slots → ℕ → CoordinatorView → Slots
with_live slots key v = slice_set slots key (relived (entry_at slots key) v)

-- the key has the live case that was last written through r, and at `None` the cases stay as they are
abbrev pub lends_live : MutBor Slots → ℕ → Option (MutBor CoordinatorView) → Fml
lends_live t key r = LendsIf cases_row live_row t r (with_live t.now key) t.now
