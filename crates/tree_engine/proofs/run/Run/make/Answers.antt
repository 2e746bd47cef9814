use Rattle.std.proofs.Common.{◌≡◌, List, [], ◌∷◌, ◌++◌, is_some, true, false, arith, rules, subst, sym}
use Rattle.protocol.specs.declared.events.Event.{Event}
use Rattle.tree_state.specs.Worlds.{Stops, WorldState}
use Rattle.tree_world.specs.Worlds.{state}
use Rattle.tree_engine.specs.Failures.{CannotMake}
use Rattle.tree_engine.specs.Runs.{HasCome}
use Rattle.tree_world.proofs.Handling.{passed_on}
use Rattle.tree_engine.proofs.Going.{all_more, none_more, one_fails, one_led, one_refused, one_stopped}
use Rattle.tree_engine.proofs.run.Run.make.Goals as goal

pub returns-then-is_some-clause-goes_on : goal.returns-then-is_some-clause-goes_on
returns-then-is_some-clause-goes_on c =
    let old = c.args.self.now in
    let is : is_some old.refusal ≡ true = search rules in
    λ start given h. none_more start (state old.world) given (c.args.event ∷ []) old.refusal old.made is h

pub returns-in-Ok-clause-goes_on : goal.returns-in-Ok-clause-goes_on
returns-in-Ok-clause-goes_on c =
    let old = c.args.self.now in
    let is : is_some old.refusal ≡ false = search rules in
    λ start given h. all_more start (state old.world) (state c.apply.new.self) given (c.args.event ∷ [])
    old.refusal old.made c.in-Some.made is h
    (one_led (state old.world) (state c.apply.new.self) c.args.event c.in-Ok.ensures.ok)
    (search rules)

pub returns-in_ok-own_refusal-in-Err-clause-goes_on : goal.returns-in_ok-own_refusal-in-Err-clause-goes_on
returns-in_ok-own_refusal-in-Err-clause-goes_on c =
    let old = c.args.self.now in
    let new = state c.apply.new.self in
    let (same, own) = c.in_ok-own_refusal-in-Err.ensures.own in
    let is : is_some old.refusal ≡ false = search rules in
    let stops = subst (λ e. Stops (state old.world) c.args.event e new) (sym same) c.in-Err.ensures.err in
    λ start given h. one_refused start (state old.world) new given (c.args.event ∷ [])
    old.refusal old.made 0 old.made c.in_ok-own_refusal-in-Err.field-0 is h
    (one_stopped (state old.world) new c.args.event c.in_ok-own_refusal-in-Err.field-0 stops)
    (omega arith) (search rules) own.0 own.1 own.2

pub returns-in_err-own_refusal-in-Err-clause-err : goal.returns-in_err-own_refusal-in-Err-clause-err
returns-in_err-own_refusal-in-Err-clause-err c =
    let old = c.args.self.now in
    let is : is_some old.refusal ≡ false = search rules in
    let why = c.in_err-own_refusal-in-Err.field-0.0 in
    passed_on c.from_residual.result why
    (λ why. (start : WorldState) (given : List Event) → HasCome start given old
    → CannotMake start (given ++ c.args.event ∷ []) why)
    c.from_residual.ensures.1
    (λ start given h. one_fails start (state old.world) (state c.apply.new.self) given old.refusal old.made
    c.args.event c.in-Err.refusal why is h c.in-Err.ensures.err c.in_err-own_refusal-in-Err.ensures.err)
