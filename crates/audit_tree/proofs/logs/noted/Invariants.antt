use Rattle.std.proofs.Common.{◌≡◌, ◌≤◌, ◌+◌, ◌-◌, length, map, fold}
use Rattle.protocol.specs.LogNames.{own_records}
use Rattle.log_script.specs.Places.{placed_in}
use Rattle.audit_cases.specs.Notes.{no_notes, noted, place_at}
use Rattle.audit_tree.proofs.logs.noted.Given as goal

abbrev pub invariant-loop-kind : goal.invariant-loop-kind
invariant-loop-kind l =
    (fold noted l.notes (own_records (place_at l.tree l.entry)
    (map (λ x. x.read) (placed_in l.form (5 + (length l.frames - length l.rest)) 0 l.rest)))
    ≡ fold noted no_notes (own_records (place_at l.tree l.entry)
    (map (λ x. x.read) (placed_in l.form 5 0 l.frames))))
    × (length l.rest ≤ length l.frames)

abbrev pub decreases-loop-kind : goal.decreases-loop-kind
decreases-loop-kind l = length l.rest
