use Rattle.std.proofs.Common.{◌≡◌, ◌∙◌, ◌+◌, [], suc, inr, is_some, true, false, ap, arith, drop, length, rules, subst, sym, take}
use Rattle.tree_world.specs.Worlds.{state}
use Rattle.tree_engine.specs.Runs.{HasCome}
use Rattle.proof_runs.specs.worlds.Refusals.{Refusal}
use Rattle.crash_engine.specs.Settles.{deliveries_in}
use Rattle.crash_engine.specs.Trials.{GoesOn, after_event, known_by}
use Rattle.crash_engine.proofs.Failing.{handed_on}
use Rattle.crash_engine.proofs.Going.{event_breaks, event_refused, front_breaks, front_refused, gone_on, has_delivered, one_taken, within_breaks}
use Rattle.crash_engine.proofs.Trying.{begun}
use Rattle.crash_engine.proofs.trials.try_last.Goals as goal

pub returns-in_err-make_all-clause-err : goal.returns-in_err-make_all-clause-err
returns-in_err-make_all-clause-err c =
    let first = c.args.run.now in
    let why = c.in_err-make_all.field-0.0 in
    handed_on _ c.from_residual.result why c.from_residual.ensures.1 c.in_err-make_all.ensures.err
    (λ cannot. front_breaks c.args.origin.now c.args.events.now c.args.made first why c.requires.opens
    (cannot (state first.world) [] (begun c.args.origin.now first c.requires.opens)))

pub returns-then-is_some-clause-goes : goal.returns-then-is_some-clause-goes
returns-then-is_some-clause-goes c =
    let first = c.args.run.now in
    let run = c.make_all.new.self in
    let come = c.in_ok-make_all.ensures.goes_on (state first.world) []
    (begun c.args.origin.now first c.requires.opens) in
    let some : is_some c.refusal.result ≡ true = search rules in
    let refused : is_some run.refusal ≡ true = ap (λ (r : Refusal). is_some r) (sym c.refusal.ensures) ∙ some
    in
    subst (λ r. GoesOn c.args.origin.now (known_by c.args.known.now) c.args.events.now c.args.made r
    c.args.trials.now.items
    c.args.trials.now.items) (sym c.refusal-then-is_some.ensures)
    (front_refused c.args.origin.now (known_by c.args.known.now) c.args.events.now c.args.made first run
    c.args.trials.now.items
    c.requires.opens come refused)

pub returns-in_err-make-clause-err : goal.returns-in_err-make-clause-err
returns-in_err-make-clause-err c =
    let first = c.args.run.now in
    let come = c.in_ok-make_all.ensures.goes_on (state first.world) []
    (begun c.args.origin.now first c.requires.opens) in
    let why = c.in_err-make.field-0.0 in
    handed_on _ c.from_residual-in_err-make.result why c.from_residual-in_err-make.ensures.1
    (inr c.in_err-make.ensures.err)
    (λ cannot. event_breaks c.args.origin.now c.args.events.now c.args.made c.in_ok-copied.field-0
    c.index-events-made.result
    first why c.requires.within c.in_ok-copied.ensures c.index-events-made.is c.requires.opens
    (cannot (state first.world) (take c.args.made c.args.events.now) come))

pub returns-then-is_some-2-clause-goes : goal.returns-then-is_some-2-clause-goes
returns-then-is_some-2-clause-goes c =
    let first = c.args.run.now in
    let run = c.make.new.self in
    let come = c.in_ok-make_all.ensures.goes_on (state first.world) []
    (begun c.args.origin.now first c.requires.opens) in
    let came = c.in_ok-make.ensures.goes_on (state first.world) (take c.args.made c.args.events.now) come in
    let some : is_some c.refusal-2.result ≡ true = search rules in
    let refused : is_some run.refusal ≡ true = ap (λ (r : Refusal). is_some r) (sym c.refusal-2.ensures)
    ∙ some in
    subst (λ r. GoesOn c.args.origin.now (known_by c.args.known.now) c.args.events.now c.args.made r
    c.args.trials.now.items
    c.args.trials.now.items) (sym c.refusal-then-is_some-2.ensures)
    (event_refused c.args.origin.now (known_by c.args.known.now) c.args.events.now c.args.made
    c.in_ok-copied.field-0
    c.index-events-made.result first run c.args.trials.now.items c.requires.within c.in_ok-copied.ensures
    c.index-events-made.is
    c.requires.opens came refused)

pub returns-in_err-try_within-clause-err : goal.returns-in_err-try_within-clause-err
returns-in_err-try_within-clause-err c =
    let first = c.args.run.now in
    let come = c.in_ok-make_all.ensures.goes_on (state first.world) []
    (begun c.args.origin.now first c.requires.opens) in
    let came = c.in_ok-make.ensures.goes_on (state first.world) (take c.args.made c.args.events.now) come in
    let none : is_some c.refusal.result ≡ false = search rules in
    let none_then : is_some c.refusal-2.result ≡ false = search rules in
    let why = c.in_err-try_within.field-0.0 in
    let has = has_delivered c.args.origin.now (take c.args.made c.args.events.now) c.deref.result.now
    c.in_ok-copied.field-0
    c.index-events-made.result first c.make_all.new.self c.make.new.self c.requires.opens come
    (ap (λ (r : Refusal). is_some r) (sym c.refusal.ensures) ∙ none) came
    (ap (λ (r : Refusal). is_some r) (sym c.refusal-2.ensures) ∙ none_then) c.in_ok-copied.ensures
    (λ is. c.deref.ensures.value ∙ c.in_ok-deliveries.ensures.settle is
    ∙ ap (λ k. deliveries_in (drop k (state c.make.new.self.world).entries))
    (c.made-steps.ensures ∙ ap (λ w. length (state w).entries) c.world.ensures))
    (λ not. c.deref.ensures.value ∙ c.in_ok-deliveries.ensures.other not) in
    handed_on _ c.from_residual-in_err-try_within.result why c.from_residual-in_err-try_within.ensures.1
    c.in_err-try_within.ensures.err
    (λ down. within_breaks c.args.origin.now c.args.events.now c.deref.result.now c.args.made
    c.index-events-made.result why has down)

pub try_here-requires : goal.try_here-requires
try_here-requires c =
    let first = c.args.run.now in
    let come = c.in_ok-make_all.ensures.goes_on (state first.world) []
    (begun c.args.origin.now first c.requires.opens) in
    let came = c.in_ok-make.ensures.goes_on (state first.world) (take c.args.made c.args.events.now) come in (
      first,
      c.requires.opens,
      subst (λ es. HasCome (state first.world) es c.make.new.self)
          (one_taken c.args.events.now c.args.made c.in_ok-copied.field-0 c.index-events-made.result
          c.requires.within
          c.in_ok-copied.ensures c.index-events-made.is) came,
    )

pub returns-clause-goes : goal.returns-clause-goes
returns-clause-goes c =
    let first = c.args.run.now in
    let made = c.args.made in
    let more : made + 1 ≡ suc made = omega arith in
    let come = c.in_ok-make_all.ensures.goes_on (state first.world) []
    (begun c.args.origin.now first c.requires.opens) in
    let came = c.in_ok-make.ensures.goes_on (state first.world) (take made c.args.events.now) come in
    let none : is_some c.refusal.result ≡ false = search rules in
    let none_then : is_some c.refusal-2.result ≡ false = search rules in
    let has = has_delivered c.args.origin.now (take c.args.made c.args.events.now) c.deref.result.now
    c.in_ok-copied.field-0
    c.index-events-made.result first c.make_all.new.self c.make.new.self c.requires.opens come
    (ap (λ (r : Refusal). is_some r) (sym c.refusal.ensures) ∙ none) came
    (ap (λ (r : Refusal). is_some r) (sym c.refusal-2.ensures) ∙ none_then) c.in_ok-copied.ensures
    (λ is. c.deref.ensures.value ∙ c.in_ok-deliveries.ensures.settle is
    ∙ ap (λ k. deliveries_in (drop k (state c.make.new.self.world).entries))
    (c.made-steps.ensures ∙ ap (λ w. length (state w).entries) c.world.ensures))
    (λ not. c.deref.ensures.value ∙ c.in_ok-deliveries.ensures.other not) in
    gone_on c.args.origin.now (known_by c.args.known.now) c.args.events.now c.deref.result.now made (made + 1)
    c.index-events-made.result _ _ c.make.new.self c.try_here.result c.args.trials.now.items
    c.try_within.new.trials.items
    c.try_here.new.trials.items c.requires.within c.index-events-made.is more (ap after_event more)
    (ap (λ k. take k c.args.events.now) more) has c.in_ok-try_within.ensures.goes
    (ap (λ (r : Refusal). is_some r) (sym c.refusal-2.ensures) ∙ none_then) c.try_here.ensures.adds
    c.try_here.ensures.is
