use Rattle.std.proofs.Common.{◌≡◌, ◌∙◌, ap, is_some, false, true, rules, subst, sym, inl, inr}
use Rattle.tree_world.specs.Worlds.{state}
use Rattle.proof_runs.specs.worlds.Refusals.{Refusal}
use Rattle.report_io.specs.declared.streams.Failure.TheVariants.{Exhausted}
use Rattle.crash_engine.specs.Failures.{PointBreaksOff}
use Rattle.crash_engine.specs.Points.{AreTooLong, points_in}
use Rattle.crash_engine.specs.Trials.{Adds, known_by}
use Rattle.crash_engine.proofs.Trying.{all_tried, comes_to, refused_adds}
use Rattle.crash_engine.proofs.Failing.{handed_on, points_break}
use Rattle.crash_engine.proofs.trials.try_here.Goals as goal

pub returns-then-is_some-clause-adds : goal.returns-then-is_some-clause-adds
returns-then-is_some-clause-adds c =
    let run = c.args.run.now in
    let origin = c.args.origin.now in
    let events = c.args.events.now in
    let old = c.args.trials.now.items in
    let some : is_some c.refusal-refusal.result ≡ true = search rules in
    let same : c.refusal-refusal.result ≡ run.refusal = c.refusal-refusal.ensures in
    let refused : is_some run.refusal ≡ true = ap (λ (r : Refusal). is_some r) (sym same) ∙ some in
    subst (λ r. Adds origin (known_by c.args.known.now) c.args.place events r old old) (sym same)
    (refused_adds origin (known_by c.args.known.now) c.args.place events (state run.world)
    run.refusal old refused
    (comes_to origin c.requires.0 run events c.requires.1 c.requires.2))

pub returns-clause-adds : goal.returns-clause-adds
returns-clause-adds c =
    let run = c.args.run.now in
    let origin = c.args.origin.now in
    let events = c.args.events.now in
    let none : is_some c.refusal-refusal.result ≡ false = search rules in
    let same : c.refusal-refusal.result ≡ run.refusal = c.refusal-refusal.ensures in
    let made : is_some run.refusal ≡ false = ap (λ (r : Refusal). is_some r) (sym same) ∙ none in
    let points : c.deref.result.now ≡ points_in (state run.world) =
    c.deref.ensures.value ∙ c.in_ok-points.ensures.ok ∙ ap (λ w. points_in (state w)) c.world.ensures in
    all_tried origin (known_by c.args.known.now) c.args.place events (state run.world) run.refusal
    c.deref.result.now
    c.args.trials.now.items c.try_points.new.trials.items made
    (comes_to origin c.requires.0 run events c.requires.1 c.requires.2) points
    c.in_ok-try_points.ensures.tried

pub returns-in_err-points-clause-err : goal.returns-in_err-points-clause-err
returns-in_err-points-clause-err c =
    let run = c.args.run.now in
    let none : is_some c.refusal-refusal.result ≡ false = search rules in
    let made : is_some run.refusal ≡ false =
    ap (λ (r : Refusal). is_some r) (sym c.refusal-refusal.ensures) ∙ none in
    let why = c.in_err-points.field-0.0 in
    handed_on _ c.from_residual.result why c.from_residual.ensures.1 c.in_err-points.ensures.err
    (λ long. points_break c.args.origin.now c.args.events.now c.requires.0 run why c.requires.1
    c.requires.2 made (inr (subst (λ w. (why ≡ Exhausted) × AreTooLong (state w)) c.world.ensures long)))

pub returns-in_err-try_points-clause-err : goal.returns-in_err-try_points-clause-err
returns-in_err-try_points-clause-err c =
    let run = c.args.run.now in
    let none : is_some c.refusal-refusal.result ≡ false = search rules in
    let made : is_some run.refusal ≡ false =
    ap (λ (r : Refusal). is_some r) (sym c.refusal-refusal.ensures) ∙ none in
    let points : c.deref.result.now ≡ points_in (state run.world) =
    c.deref.ensures.value ∙ c.in_ok-points.ensures.ok ∙ ap (λ w. points_in (state w)) c.world.ensures in
    let why = c.in_err-try_points.field-0.0 in
    handed_on _ c.from_residual-in_err-try_points.result why c.from_residual-in_err-try_points.ensures.1
    c.in_err-try_points.ensures.err
    (λ breaks. points_break c.args.origin.now c.args.events.now c.requires.0 run why c.requires.1
    c.requires.2 made
    (inl (subst (λ ps. PointBreaksOff c.args.origin.now c.args.events.now ps why) points breaks)))
