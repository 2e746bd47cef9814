use Rattle.std.proofs.Common.{◌≡◌, ◌∙◌, IfErr, IfOk, OnOk, ◌∷◌, ◌+◌, ap, drop, length, refl, subst, sym}
use Rattle.std.proofs.lemmas.List.{at_drop_more}
use Rattle.tree_state.specs.Worlds.{Applies, Stops}
use Rattle.tree_engine.specs.Runs.{IsOwn}
use Rattle.tree_world.specs.Worlds.{state}
use Rattle.event_trace.specs.Numbered.{sent_after}
use Rattle.event_trace.specs.Told.{TellsUntil, nothing}
use Rattle.event_trace.proofs.Telling.{told_more, told_until}
use Rattle.event_trace.proofs.events.make_events.Goals as goal

pub loop-event-init : goal.loop-event-init
loop-event-init c = (nothing, refl)

pub loop-event-preserved : goal.loop-event-preserved
loop-event-preserved c =
    let events = c.args.events.now in
    let k = c.loop-event.event-index in
    let rest = drop (k + 1) events in
    let next : drop k events ≡ c.in_ok-copied.field-0 ∷ rest =
    at_drop_more (λ es. es) events k c.event-item.result c.loop-event-test.true
    ∙ ap (λ e. e ∷ rest) (sym c.event-item.is) ∙ ap (λ e. e ∷ rest) (sym c.in_ok-copied.ensures) in
    let counted : c.in-Some.number ≡ k + 1 = c.in-Some.ensures.1 ∙ ap (λ n. n + 1) c.loop-event.invariant.1
    in (
      told_more (state c.args.world.now) c.args.sent c.args.out.now.items events k
          c.in_ok-copied.field-0 rest next
          (state c.loop-event.world) c.loop-event.total c.loop-event.out.items c.loop-event.invariant.0
          c.in-Some.number
          counted (state c.make_event.new.world) c.make_event.new.out.items c.in_ok-next.ensures.text
          (subst (λ r. OnOk r (Applies (state c.loop-event.world) c.in_ok-copied.field-0
          (state c.make_event.new.world)))
          c.in-Ok.is c.in_ok-next.ensures.made)
          c.in-Ok.next
          (subst (λ r. IfOk r (λ n. n ≡ sent_after c.loop-event.total
          (drop (length (state c.loop-event.world).entries) (state c.make_event.new.world).entries)))
          c.in-Ok.is c.in_ok-next.ensures.sent),
      counted,
    )

pub returns-in-Err : goal.returns-in-Err
returns-in-Err c =
    let events = c.args.events.now in
    let k = c.loop-event.event-index in
    let rest = drop (k + 1) events in
    let next : drop k events ≡ c.in_ok-copied.field-0 ∷ rest =
    at_drop_more (λ es. es) events k c.event-item.result c.loop-event-test.true
    ∙ ap (λ e. e ∷ rest) (sym c.event-item.is) ∙ ap (λ e. e ∷ rest) (sym c.in_ok-copied.ensures) in
    let counted : c.in-Some.number ≡ k + 1 = c.in-Some.ensures.1 ∙ ap (λ n. n + 1) c.loop-event.invariant.1 in
    subst (λ m. TellsUntil (state c.args.world.now) c.args.sent c.args.out.now.items events m c.in-Err.refusal
    (state c.make_event.new.world) c.make_event.new.out.items) (sym c.loop-event.invariant.1)
    (told_until (state c.args.world.now) c.args.sent c.args.out.now.items events k
    c.in_ok-copied.field-0 rest next
    (state c.loop-event.world) c.loop-event.total c.loop-event.out.items c.loop-event.invariant.0
    c.in-Some.number
    counted (state c.make_event.new.world) c.make_event.new.out.items c.in_ok-next.ensures.text
    c.in-Err.refusal
    (subst (λ r. IfErr r (λ why. Stops (state c.loop-event.world) c.in_ok-copied.field-0 why
    (state c.make_event.new.world))) c.in-Err.is c.in_ok-next.ensures.refused)
    (subst (λ r. IfErr r IsOwn) c.in-Err.is c.in_ok-next.ensures.own))
