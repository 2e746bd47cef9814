-- What a fault left of the model's process, by how many records it is.
use Rattle.std.proofs.Common.{◌≡◌, ◌∙◌, ◌+◌, ◌-◌, ℕ, true, List, ◌++◌, take, drop, reverse, ap, arith}
use Rattle.std.specs.Prelude.{length}
use Rattle.protocol.specs.declared.events.Fault.{Fault}
use Rattle.protocol.specs.declared.records.Record.{Record}
use Rattle.protocol.specs.LogNames.{in_log}
use Rattle.protocol.specs.Nodes.{Node, fails_with}
use Rattle.log_records.specs.Sights.{records_of}
use Rattle.process_state.specs.States.{CoreState, logged, parent}
use Rattle.tree_state.specs.Faults.{fault_of}
use Rattle.proof_failures.proofs.Fronts.{drop_as_many, length_append, length_map, length_parts, take_as_many}

module _ (n : Node) (rs : List Record) (appended forced : ℕ) where
  abbrev left : List Record
  left = take appended rs

  abbrev behind : List Record
  behind = n.unforced ++ left

  -- how many of the records stand, and how many of those after the forced front are forced
  abbrev pub counted : Fault
  counted = record { appended = length left; forced = length (take forced behind) }

  abbrev shape : List Record → List Record → List Record → Node
  shape l front rest =
      record n {
        forced = n.forced ++ front;
        unforced = rest;
        failed = true;
        life = reverse l ++ n.life;
        durable = front ++ n.durable;
      }

  pub counted_left : fails_with n rs counted.appended counted.forced ≡ fails_with n rs appended forced
  counted_left =
      ap (λ l. shape l (take counted.forced (n.unforced ++ l)) (drop counted.forced (n.unforced ++ l)))
      (take_as_many appended rs)
      ∙ (λ j. shape left (take_as_many forced behind j) (drop_as_many forced behind j))

  -- so many they are by the process's log
  pub counts : (old new : CoreState) (stood : ℕ) → length old.log.kept.forced ≡ length n.forced
      → stood ≡ length n.forced + length n.unforced
      → new.log.kept.forced ≡ logged new (n.forced ++ take forced behind)
      → new.log.kept.unforced ≡ logged new (drop forced behind)
      → fault_of stood old.log new.log ≡ counted
  counts old new stood before all front rest =
      let f : length new.log.kept.forced ≡ length n.forced + counted.forced =
      ap length front ∙ length_map (in_log (parent new)) (n.forced ++ take forced behind)
      ∙ length_append n.forced (take forced behind) in
      let r : length new.log.kept.unforced ≡ length (drop forced behind) =
      ap length rest ∙ length_map (in_log (parent new)) (drop forced behind) in
      let p : counted.forced + length (drop forced behind) ≡ length behind = length_parts forced behind in
      let b : length behind ≡ length n.unforced + counted.appended = length_append n.unforced left in
      let t : length (records_of new.log.kept) ≡ length new.log.kept.forced + length new.log.kept.unforced =
      length_append new.log.kept.forced new.log.kept.unforced in
      let stands : length (records_of new.log.kept) - stood ≡ counted.appended =
      omega (arith, f, r, p, b, t, all) in
      let more : length new.log.kept.forced - length old.log.kept.forced ≡ counted.forced =
      omega (arith, f, before) in
      (λ j. record { appended = stands j; forced = more j })
