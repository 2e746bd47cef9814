use Rattle.std.proofs.Common.{◌≡◌, ◌∙◌, ◌⊎◌, ◌+◌, ◌<◌, ◌^◌, ℕ, List, [], ◌∷◌, ◌++◌, inr, length, length-append, arith, refl, rules, subst}
use Rattle.protocol.specs.declared.events.Event.{Event}
use Rattle.tree_script.specs.Inputs.{AsksFirst, IsLineError, asked_by}
use Rattle.report_io.specs.declared.streams.Failure.TheVariants.{Memory}
use Rattle.tree_world.specs.Worlds.{state}
use Rattle.tree_script.proofs.Fronts.{asks_no_more, asks_none, asks_one_more}
use Rattle.tree_script.proofs.Reading.{reads_all, reads_event, reads_fault, reads_nothing}
use Rattle.tree_engine.specs.Failures.{BreaksOff}
use Rattle.tree_world.proofs.Handling.{passed_on}
use Rattle.tree_engine.proofs.Going.{breaks_off}
use Rattle.tree_engine.proofs.TreeReports.{reads_start}
use Rattle.tree_engine.proofs.tree.make_lines.Goals as goal

pub loop-place-init : goal.loop-place-init
loop-place-init c = (
  [],
  reads_start c.args.lines.now,
  c.requires,
  asks_none c.args.lines.now,
  omega arith,
  refl,
)

pub returns-in-Err-clause-fault : goal.returns-in-Err-clause-fault
returns-in-Err-clause-fault c =
    let h = c.loop-place.invariant in
    subst (λ e. IsLineError e (asked_by c.args.lines.now)) c.in_ok-fault_of-in-Err.ensures.fault
    (reads_fault c.args.lines.now c.loop-place.place c.in-Err.error h.0 (omega arith) c.in-Err.ensures h.1)

pub loop-place-preserved-in-Ok-None : goal.loop-place-preserved-in-Ok-None
loop-place-preserved-in-Ok-None c =
    let h = c.loop-place.invariant in
    let few = h.4 in (
      h.0,
      reads_nothing c.args.lines.now c.loop-place.place _ h.0 (omega arith) c.in-Ok-None.ensures
          (search rules) h.1,
      h.2,
      asks_no_more c.args.lines.now c.loop-place.place _ h.0 (omega arith) c.in-Ok-None.ensures
          (search rules) h.3,
      omega (arith, few),
      h.5,
    )

pub loop-place-preserved : goal.loop-place-preserved
loop-place-preserved c =
    let h = c.loop-place.invariant in
    let few = h.4 in
    let size = length-append h.0 (c.in-Ok-Some.event ∷ []) in (
      h.0 ++ c.in-Ok-Some.event ∷ [],
      reads_event c.args.lines.now c.loop-place.place _ c.in-Ok-Some.event h.0 (omega arith)
          c.in-Ok-Some.ensures (search rules) h.1,
      c.in_ok-make-in-Ok-Some.ensures.goes_on (state c.args.run.now.world) h.0 h.2,
      asks_one_more c.args.lines.now c.loop-place.place _ c.in-Ok-Some.event h.0 (omega arith)
          c.in-Ok-Some.ensures (search rules) h.3,
      omega (arith, few, size),
      c.in_ok-make-in-Ok-Some.ensures.over ∙ h.5,
    )

pub returns-in_err-make-in-Ok-Some-clause-err : goal.returns-in_err-make-in-Ok-Some-clause-err
returns-in_err-make-in-Ok-Some-clause-err c =
    let h = c.loop-place.invariant in
    let few = h.4 in
    let start = state c.args.run.now.world in
    let all = h.0 ++ c.in-Ok-Some.event ∷ [] in
    let size = length-append h.0 (c.in-Ok-Some.event ∷ []) in
    let short : length all < 2 ^ 64 = omega (arith, few, size) in
    let why = c.in_err-make-in-Ok-Some.field-0.0 in
    passed_on c.from_residual-in_err-make-in-Ok-Some.result why
    (λ why. (why ≡ Memory) ⊎ ((count : ℕ) × (events : List Event)
    × AsksFirst c.args.lines.now count events × BreaksOff start events why))
    c.from_residual-in_err-make-in-Ok-Some.ensures.1
    (inr (
      c.loop-place.place + 1,
      all,
      asks_one_more c.args.lines.now c.loop-place.place _ c.in-Ok-Some.event h.0 (omega arith)
          c.in-Ok-Some.ensures
          (search rules) h.3,
      breaks_off start all why short (c.in_err-make-in-Ok-Some.ensures.err start h.0 h.2),
    ))

pub returns-clause-made : goal.returns-clause-made
returns-clause-made c =
    let h = c.loop-place.invariant in (
      h.0,
      reads_all c.args.lines.now c.loop-place.place h.0 (omega (arith, c.loop-place-test.false)) h.1,
      h.2,
    )
