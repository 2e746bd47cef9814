use Rattle.std.proofs.Common.{List, length, subst, ℕ}
use Rattle.picture_parts.specs.Captions.{Surrounds}
use Rattle.picture_parts.proofs.drawing.draw_turns.Goals as goal

pub returns : goal.returns
returns c = record {
  events = length c.deref-2.result.now;
  refused = c.in_ok-text.ensures.0;
  inner = c.in_ok-text.text.items;
  picture = c.in_ok-text.ensures.1;
  captioned = subst (λ (xs : List ℕ). Surrounds xs c.in_ok-captioned.field-0.items) c.deref-5.ensures.value
      c.in_ok-captioned.ensures;
}
