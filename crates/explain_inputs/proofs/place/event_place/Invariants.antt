-- N of the lines that were looked at ask for something.
use Rattle.std.proofs.Common.{◌≡◌, ◌≤◌, count_by, not, take}
use Rattle.script_words.specs.Lines.{is_skipped}
use Rattle.explain_inputs.proofs.place.event_place.Given as goal

abbrev pub invariant-loop-place : goal.invariant-loop-place
invariant-loop-place l = record {
  few : l.asked ≤ l.place;
  counted : count_by (λ s. not (is_skipped s.now)) (take l.place l.lines) ≡ l.asked;
}
