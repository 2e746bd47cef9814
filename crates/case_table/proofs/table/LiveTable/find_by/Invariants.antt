use Rattle.std.proofs.Common.{◌≡◌, ℕ, false, true, Some, take}
use Rattle.std.specs.Fn.{FnReturnsAt}
use Rattle.protocol.specs.declared.names.Case.{Case}
use Rattle.case_table.specs.Tables.{entry_at, is_key}
use Rattle.case_table.proofs.table.LiveTable.find_by.Given as goal

abbrev pub invariant-loop-key : goal.invariant-loop-key
invariant-loop-key g l =
    (k : ℕ) (p : Case × _) → is_key (take l.key-index l.key-items) k ≡ true → entry_at l.fn.self k ≡ Some p
    → FnReturnsAt g.F.Fn l.test p.1 false
