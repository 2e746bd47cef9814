use Rattle.std.proofs.Common.{◌≡◌, drop, reverse}
use Rattle.audit_cases.specs.Notes.{last_places}
use Rattle.audit_cases.proofs.notes.last_places.Given as goal

abbrev pub invariant-loop-index : goal.invariant-loop-index
invariant-loop-index l =
    (l.listed.items ≡ l.seen.keys) × (l.seen.keys ≡ reverse (last_places (drop l.index l.cases)))
