-- The records of a coordinator's case: their order, and whom they name.
use Rattle.std.specs.Prelude.{◌≡◌, true, false, List}
use Rattle.protocol.specs.declared.names.Case.{Case}
use Rattle.protocol.specs.declared.records.Record.{Record}
use Rattle.protocol.specs.Records.{has, none_of, is_prepare, promised_by}
use Rattle.proof_processes.specs.WorldHolds.{InOrder, NamesBy}

-- the records of the case are in the order in which they are written, decisions name whom they should by
-- the presumption, and a promise names somebody
pub record CaseInOrder (c : Case) (rs : List Record) : Type 0 where
  pub in_order : InOrder c rs
  pub names : NamesBy c.txn.presumption c rs
  pub promise_names : has (is_prepare c) rs ≡ true → none_of (promised_by c rs) ≡ false
