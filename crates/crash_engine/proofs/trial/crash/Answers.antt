use Rattle.std.proofs.Common.{◌≡◌, ◌∙◌, ◌++◌, None, [], arith, subst, sym}
use Rattle.std.proofs.lemmas.Result.{IfOk-weaker}
use Rattle.protocol.specs.Trees.{IsTree}
use Rattle.tree_world.specs.Worlds.{state}
use Rattle.tree_engine.specs.Trees.{IsNumberedRefusal}
use Rattle.crash_engine.specs.Audits.{Audits, IsDamagedThen}
use Rattle.crash_engine.specs.Trials.{known_by}
use Rattle.crash_engine.proofs.Trying.{begun, no_run, still_tree, stopped_damaged, stopped_early, tried_so}
use Rattle.crash_engine.proofs.Failing.{crash_breaks, events_break, handed_on, questions_break, settle_breaks}
use Rattle.crash_engine.proofs.trial.crash.Goals as goal

-- The run as far as it goes.

pub returns-in-Some-clause-tries : goal.returns-in-Some-clause-tries
returns-in-Some-clause-tries c =
    let first = c.args.run.now in
    let events = c.args.events.now in
    λ o opens.
    let made = c.in_ok-make_all.ensures.goes_on (state first.world) [] (begun o first opens) in
    let crashed = c.in_ok-make_all-2.ensures.goes_on (state first.world) events made in
    stopped_early o (known_by c.args.known.now) events c.args.point c.deref.result.now first
    c.make_all-2.new.self (c.in-Some.made, c.in-Some.refusal) opens crashed
    (c.deref.ensures.value ∙ c.in_ok-crash_events.ensures) (sym c.refusal.ensures ∙ c.in-Some.is)

pub audit_of-requires : goal.audit_of-requires
audit_of-requires c =
    let first = c.args.run.now in
    let o = c.requires.0 in
    let opens = c.requires.1 in
    let made = c.in_ok-make_all.ensures.goes_on (state first.world) [] (begun o first opens) in
    let crashed = c.in_ok-make_all-2.ensures.goes_on (state first.world) c.args.events.now made in
    subst (λ w. IsTree w.tree) (sym c.world.ensures)
    (still_tree o first c.make_all-2.new.self (c.args.events.now ++ c.deref.result.now) opens crashed)

pub overflow_add-result : goal.overflow_add-result
overflow_add-result c =
    let first = c.args.run.now in
    let made = c.in_ok-make_all.ensures.goes_on (state first.world) [] (begun c.requires.0 first c.requires.1)
    in
    let crashed = c.in_ok-make_all-2.ensures.goes_on (state first.world) c.args.events.now made in
    let few = subst IsNumberedRefusal (sym c.refusal.ensures ∙ c.in-Some.is) crashed.numbered in
    omega (arith, few)

pub returns-in-Err-clause-tries : goal.returns-in-Err-clause-tries
returns-in-Err-clause-tries c =
    let first = c.args.run.now in
    let events = c.args.events.now in
    let crash = c.deref.result.now in
    let made = c.in_ok-make_all.ensures.goes_on (state first.world) [] (begun c.requires.0 first c.requires.1)
    in
    let crashed = c.in_ok-make_all-2.ensures.goes_on (state first.world) events made in
    let none : c.make_all-2.new.self.refusal ≡ None = sym c.refusal.ensures ∙ c.in_default.is in
    let damage = subst (λ w. IsDamagedThen (state w) c.in-Err.process c.in-Err.place) c.world.ensures
    (rw c.in-Err.is at c.in_ok-report.ensures.damaged) in
    let never = rw c.in-Err.is at c.in_ok-report.ensures.never in
    λ o opens. stopped_damaged o (known_by c.args.known.now) events c.args.point crash first
    c.make_all-2.new.self
    c.in-Err.process c.in-Err.place opens
    (c.in_ok-make_all-2.ensures.goes_on (state first.world) events
    (c.in_ok-make_all.ensures.goes_on (state first.world) [] (begun o first opens)))
    (c.deref.ensures.value ∙ c.in_ok-crash_events.ensures) none damage (no_run c.world.ensures never)

pub found_of-requires-clause-is_tree : goal.found_of-requires-clause-is_tree
found_of-requires-clause-is_tree c =
    let first = c.args.run.now in
    let events = c.args.events.now in
    let crash = c.deref.result.now in
    let asks = c.deref-2.result.now in
    let made = c.in_ok-make_all.ensures.goes_on (state first.world) [] (begun c.requires.0 first c.requires.1)
    in
    let crashed = c.in_ok-make_all-2.ensures.goes_on (state first.world) events made in
    let asked = c.in_ok-make_all-3.ensures.goes_on (state first.world) (events ++ crash) crashed in
    let ended = c.in_ok-make_all-4.ensures.goes_on (state first.world) ((events ++ crash) ++ asks) asked in
    still_tree c.requires.0 first c.make_all-4.new.self _ c.requires.1 ended

pub found_of-requires-clause-numbered : goal.found_of-requires-clause-numbered
found_of-requires-clause-numbered c =
    let first = c.args.run.now in
    let events = c.args.events.now in
    let crash = c.deref.result.now in
    let asks = c.deref-2.result.now in
    let made = c.in_ok-make_all.ensures.goes_on (state first.world) [] (begun c.requires.0 first c.requires.1)
    in
    let crashed = c.in_ok-make_all-2.ensures.goes_on (state first.world) events made in
    let asked = c.in_ok-make_all-3.ensures.goes_on (state first.world) (events ++ crash) crashed in
    let ended = c.in_ok-make_all-4.ensures.goes_on (state first.world) ((events ++ crash) ++ asks) asked in
    ended.numbered

pub returns-clause-tries : goal.returns-clause-tries
returns-clause-tries c =
    let first = c.args.run.now in
    let events = c.args.events.now in
    let crash = c.deref.result.now in
    let asks = c.deref-2.result.now in
    let made = c.in_ok-make_all.ensures.goes_on (state first.world) [] (begun c.requires.0 first c.requires.1)
    in
    let crashed = c.in_ok-make_all-2.ensures.goes_on (state first.world) events made in
    let asked = c.in_ok-make_all-3.ensures.goes_on (state first.world) (events ++ crash) crashed in
    let ended = c.in_ok-make_all-4.ensures.goes_on (state first.world) ((events ++ crash) ++ asks) asked in
    let none : c.make_all-2.new.self.refusal ≡ None = sym c.refusal.ensures ∙ c.in_default.is in
    let report = c.in-Ok.report in
    let audits = subst (λ w. Audits (state w) report) c.world.ensures
    (rw c.in-Ok.is at c.in_ok-report.ensures.audits) in
    IfOk-weaker c.found_of.result _ _ (λ f h. λ o opens.
    tried_so o (known_by c.args.known.now) events c.args.point
    report crash asks first c.make_all-2.new.self c.make_all-4.new.self f opens
    (c.in_ok-make_all-2.ensures.goes_on (state first.world) events
    (c.in_ok-make_all.ensures.goes_on (state first.world) [] (begun o first opens)))
    (c.deref.ensures.value ∙ c.in_ok-crash_events.ensures) none audits
    (c.deref-2.ensures.value ∙ c.in_ok-asks_of.ensures) ended (λ given ran. h o given ran))
    c.found_of.ensures.ends

pub returns-in_err-make_all-clause-err : goal.returns-in_err-make_all-clause-err
returns-in_err-make_all-clause-err c =
    let first = c.args.run.now in
    let why = c.in_err-make_all.field-0.0 in
    handed_on _ c.from_residual.result why c.from_residual.ensures.1 c.in_err-make_all.ensures.err
    (λ cannot. λ o opens. events_break o c.args.events.now c.args.point first why opens
    (cannot (state first.world) [] (begun o first opens)))

pub returns-in_err-make_all-2-clause-err : goal.returns-in_err-make_all-2-clause-err
returns-in_err-make_all-2-clause-err c =
    let first = c.args.run.now in
    let events = c.args.events.now in
    let crash = c.deref.result.now in
    let why = c.in_err-make_all-2.field-0.0 in
    handed_on _ c.from_residual-in_err-make_all-2.result why c.from_residual-in_err-make_all-2.ensures.1
    c.in_err-make_all-2.ensures.err
    (λ cannot. λ o opens. crash_breaks o events crash c.args.point first why opens
    (c.deref.ensures.value ∙ c.in_ok-crash_events.ensures)
    (cannot (state first.world) events
    (c.in_ok-make_all.ensures.goes_on (state first.world) [] (begun o first opens))))

pub returns-in_err-make_all-3-clause-err : goal.returns-in_err-make_all-3-clause-err
returns-in_err-make_all-3-clause-err c =
    let first = c.args.run.now in
    let events = c.args.events.now in
    let crash = c.deref.result.now in
    let asks = c.deref-2.result.now in
    let run = c.make_all-2.new.self in
    let made = c.in_ok-make_all.ensures.goes_on (state first.world) [] (begun c.requires.0 first c.requires.1)
    in
    let crashed = c.in_ok-make_all-2.ensures.goes_on (state first.world) events made in
    let none : c.make_all-2.new.self.refusal ≡ None = sym c.refusal.ensures ∙ c.in_default.is in
    let report = c.in-Ok.report in
    let audits = subst (λ w. Audits (state w) report) c.world.ensures
    (rw c.in-Ok.is at c.in_ok-report.ensures.audits) in
    let why = c.in_err-make_all-3.field-0.0 in
    handed_on _ c.from_residual-in_err-make_all-3.result why c.from_residual-in_err-make_all-3.ensures.1
    c.in_err-make_all-3.ensures.err
    (λ cannot. λ o opens. questions_break o events crash asks c.args.point report first (state run.world)
    run.refusal run.made why opens crashed (c.deref.ensures.value ∙ c.in_ok-crash_events.ensures)
    none audits (c.deref-2.ensures.value ∙ c.in_ok-asks_of.ensures)
    (cannot (state first.world) (events ++ crash) crashed))

pub returns-in_err-make_all-4-clause-err : goal.returns-in_err-make_all-4-clause-err
returns-in_err-make_all-4-clause-err c =
    let first = c.args.run.now in
    let events = c.args.events.now in
    let crash = c.deref.result.now in
    let run = c.make_all-2.new.self in
    let asks = c.deref-2.result.now in
    let made = c.in_ok-make_all.ensures.goes_on (state first.world) [] (begun c.requires.0 first c.requires.1)
    in
    let crashed = c.in_ok-make_all-2.ensures.goes_on (state first.world) events made in
    let asked = c.in_ok-make_all-3.ensures.goes_on (state first.world) (events ++ crash) crashed in
    let none : c.make_all-2.new.self.refusal ≡ None = sym c.refusal.ensures ∙ c.in_default.is in
    let report = c.in-Ok.report in
    let audits = subst (λ w. Audits (state w) report) c.world.ensures
    (rw c.in-Ok.is at c.in_ok-report.ensures.audits) in
    let why = c.in_err-make_all-4.field-0.0 in
    handed_on _ c.from_residual-in_err-make_all-4.result why c.from_residual-in_err-make_all-4.ensures.1
    c.in_err-make_all-4.ensures.err
    (λ cannot. λ o opens. settle_breaks o events crash asks c.args.point report first (state run.world)
    run.refusal run.made why opens crashed (c.deref.ensures.value ∙ c.in_ok-crash_events.ensures)
    none audits (c.deref-2.ensures.value ∙ c.in_ok-asks_of.ensures)
    (cannot (state first.world) ((events ++ crash) ++ asks) asked))
