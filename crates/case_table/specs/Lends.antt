-- What a table ends as, where a `&mut` to one of its values is returned.
use Rattle.std.specs.Prelude.{ℕ, Option, Some, None, List, slice_set}
use Rattle.std.specs.Borrow.{LendsIf, Fml, RattleType, MutBor}
use Rattle.protocol.specs.declared.names.Case.{Case}
use Rattle.case_table.specs.Tables.{entry_at}
use Rattle.case_table.specs.contracts.table.LiveTable.{the_row}

-- the entry with another value
abbrev pub rewritten : {V : Type 0} → Option (Case × V) → V → Option (Case × V)
rewritten None w = None
rewritten (Some p) w = Some (p.0, w)

-- the table with another value at the key
abbrev pub with_value : {V : Type 0} → List (Option (Case × V)) → ℕ → V → List (Option (Case × V))
with_value slots key w = slice_set slots key (rewritten (entry_at slots key) w)

-- the key has the last value written through r, and at `None` the table stays as it is
abbrev pub lends_get : (V : RattleType) → MutBor (List (Option (Case × V.Denot))) → ℕ
    → Option (MutBor V.Denot) → Fml
lends_get V t key r = LendsIf (the_row V) V t r (with_value t.now key) t.now
