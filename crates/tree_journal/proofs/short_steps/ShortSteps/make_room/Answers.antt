use Rattle.std.proofs.Common.{◌≡◌, ◌∙◌, ap, sym, ◌++◌, ◌∷◌, [], rules}
use Rattle.tree_journal.specs.Kept.{StepsState, parts_of}
use Rattle.tree_journal.specs.Steps.{ends_after, ends_of, entries_of, first_starts, parts_placed, placed_steps, short_step}
use Rattle.tree_journal.proofs.Placed.{ends_behind, kept}
use Rattle.tree_journal.proofs.short_steps.ShortSteps.make_room.Goals as goal

pub invariant_of-self-in-Some-take : goal.invariant_of-self-in-Some-take
invariant_of-self-in-Some-take c =
    let old : parts_of c.reserve_for.new.self ≡ parts_of c.self.inside.parts =
    c.reserve_for.ensures.keeps ∙ c.reserve_one.ensures.keeps in
    let parts : parts_of c.place-step.new.self ≡ parts_placed (parts_of c.self.inside.parts)
    c.in-Some-take.last =
    c.place-step.ensures.parts ∙ ap (λ ps. parts_placed ps c.in-Some-take.last) old in
    let steps : c.push_reserved.new.self.items
    ≡ c.self.inside.steps.items ++ short_step (parts_of c.self.inside.parts) c.in-Some-take.last ∷ [] =
    search (rules, old) in
    record {
      whole = rw (parts, steps, c.take.ensures.after)
          (kept (parts_of c.self.inside.parts) c.self.inside.steps.items c.self.inside.last
          c.in-Some-take.last (search rules) c.self.invariant.ends c.self.invariant.whole).1;
      ends = ap (ends_after first_starts) steps
          ∙ ends_behind first_starts c.self.inside.steps.items
          (short_step (parts_of c.self.inside.parts) c.in-Some-take.last)
          ∙ sym (ap ends_of parts);
    }

pub returns-in-Some-take-clause-ok : goal.returns-in-Some-take-clause-ok
returns-in-Some-take-clause-ok c =
    let old : parts_of c.reserve_for.new.self ≡ parts_of c.self.inside.parts =
    c.reserve_for.ensures.keeps ∙ c.reserve_one.ensures.keeps in
    let parts : parts_of c.place-step.new.self ≡ parts_placed (parts_of c.self.inside.parts)
    c.in-Some-take.last =
    c.place-step.ensures.parts ∙ ap (λ ps. parts_placed ps c.in-Some-take.last) old in
    let steps : c.push_reserved.new.self.items
    ≡ c.self.inside.steps.items ++ short_step (parts_of c.self.inside.parts) c.in-Some-take.last ∷ [] =
    search (rules, old) in
    let entries : entries_of (parts_of c.place-step.new.self) (placed_steps c.push_reserved.new.self.items)
    c.take.new.self
    ≡ entries_of (parts_of c.self.inside.parts) (placed_steps c.self.inside.steps.items) c.self.inside.last =
    rw (parts, steps, c.take.ensures.after)
    (kept (parts_of c.self.inside.parts) c.self.inside.steps.items c.self.inside.last
    c.in-Some-take.last (search rules) c.self.invariant.ends c.self.invariant.whole).0 in
    record {
      sent = search (rules, parts);
      waiting = search rules;
      entries = entries ∙ ap (λ (j : StepsState). j.entries) c.self.view_is;
      room = record { placed = search rules; acts = search rules; asides = search rules };
    }
