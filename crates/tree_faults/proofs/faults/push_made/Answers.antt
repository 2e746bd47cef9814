use Rattle.std.proofs.Common.{rules, ◌≡◌, ◌∙◌, ◌++◌, ◌∷◌, [], ap, sym, arith, append_assoc, drop, take, ◌-◌, ◌≤◌, ◌<◌, length, None, Some}
use Rattle.std.specs.Prelude.{slice_get}
use Rattle.std.specs.Global.{Vec}
use Rattle.protocol.specs.declared.events.JournalEntry.{JournalEntry}
use Rattle.tree_faults.proofs.Weaving.{is_there, told_more}
use Rattle.tree_faults.proofs.faults.push_made.Goals.{in-Some+in_ok-push, in_default}
use Rattle.tree_faults.proofs.faults.push_made.Goals as goal

pub loop-place-preserved : goal.loop-place-preserved
loop-place-preserved c =
    let es = c.args.journal.now.entries in
    let first = c.args.trace.now.items in
    let place = c.loop-place.place in
    let start = c.args.start in
    let from : start ≤ place = search rules in
    let within : place < length es = omega (arith, c.loop-place-test.true, c.requires.within) in
    elim c.match-branch-2.branch [
      | in-Some+in_ok-push w ↦
          let found : slice_get es place ≡ Some w.in-Some.entry = sym c.in_ok-entry.ensures ∙ w.in-Some.is in
          ap (λ (v : Vec JournalEntry). v.items) w.trace-is
          ∙ w.in_ok-push.ensures.items
          ∙ ap (λ xs. xs ++ w.in-Some.entry ∷ []) c.loop-place.invariant
          ∙ append_assoc first (take (place - start) (drop start es)) (w.in-Some.entry ∷ [])
          ∙ ap (λ xs. first ++ xs) (told_more es start place w.in-Some.entry from found)
      | in_default w ↦
          let none : slice_get es place ≡ None = sym c.in_ok-entry.ensures ∙ search rules in
          absurd (is_there es place within none)
    ]
