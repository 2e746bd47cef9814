use Rattle.std.proofs.Common.{◌≡◌, ◌∙◌, IfErr, OnOk, [], ◌∷◌, ◌+◌, ap, drop, refl, subst, sym}
use Rattle.std.proofs.lemmas.List.{at_drop_more}
use Rattle.tree_state.specs.Worlds.{Applies, Stops}
use Rattle.tree_engine.specs.Runs.{IsOwn}
use Rattle.tree_world.specs.Worlds.{state}
use Rattle.picture_parts.specs.Counted.{Counts, CountsUntil, nothing}
use Rattle.picture_parts.proofs.Telling.{counted_more, counted_until}
use Rattle.picture_parts.proofs.events.make_events.Goals as goal

pub loop-event-init : goal.loop-event-init
loop-event-init c = (
  subst (λ ns. Counts (state c.args.world.now) [] (state c.args.world.now) ns)
      (sym c.requires) nothing,
  refl,
)

pub loop-event-preserved : goal.loop-event-preserved
loop-event-preserved c =
    let events = c.args.events.now in
    let k = c.loop-event.event-index in
    let rest = drop (k + 1) events in
    let next : drop k events ≡ c.in_ok-copied.field-0 ∷ rest =
    at_drop_more (λ es. es) events k c.event-item.result c.loop-event-test.true
    ∙ ap (λ e. e ∷ rest) (sym c.event-item.is) ∙ ap (λ e. e ∷ rest) (sym c.in_ok-copied.ensures) in (
      counted_more (state c.args.world.now) events k c.in_ok-copied.field-0 rest next
          (state c.loop-event.world) c.loop-event.counts.items c.loop-event.invariant.0
          (state c.make_event.new.world) c.make_event.new.counts.items c.in_ok-make_event.ensures.counts
          (subst (λ r. OnOk r (Applies (state c.loop-event.world) c.in_ok-copied.field-0
          (state c.make_event.new.world)))
          c.in-Ok.is c.in_ok-make_event.ensures.made),
      c.in-Some.ensures.1 ∙ ap (λ n. n + 1) c.loop-event.invariant.1,
    )

pub returns-in-Err : goal.returns-in-Err
returns-in-Err c =
    let events = c.args.events.now in
    let k = c.loop-event.event-index in
    let rest = drop (k + 1) events in
    let next : drop k events ≡ c.in_ok-copied.field-0 ∷ rest =
    at_drop_more (λ es. es) events k c.event-item.result c.loop-event-test.true
    ∙ ap (λ e. e ∷ rest) (sym c.event-item.is) ∙ ap (λ e. e ∷ rest) (sym c.in_ok-copied.ensures) in
    subst (λ m. CountsUntil (state c.args.world.now) events m c.in-Err.refusal (state c.make_event.new.world)
    c.make_event.new.counts.items) (sym c.loop-event.invariant.1)
    (counted_until (state c.args.world.now) events k c.in_ok-copied.field-0 rest next
    (state c.loop-event.world) c.loop-event.counts.items c.loop-event.invariant.0
    (state c.make_event.new.world) c.make_event.new.counts.items c.in_ok-make_event.ensures.counts
    c.in-Err.refusal
    (subst (λ r. IfErr r (λ why. Stops (state c.loop-event.world) c.in_ok-copied.field-0 why
    (state c.make_event.new.world))) c.in-Err.is c.in_ok-make_event.ensures.refused)
    (subst (λ r. IfErr r IsOwn) c.in-Err.is c.in_ok-make_event.ensures.own))
