use Rattle.std.proofs.Common.{◌≡◌, ◌<◌, length, map, arith}
use Rattle.std.proofs.lemmas.List.{get_or_default}
use Rattle.std.proofs.lemmas.List.Edits.{map_over_more}
use Rattle.report_io.specs.declared.streams.Failure.TheVariants.{Exhausted}
use Rattle.tree_engine.specs.Counts.{AllFit, row_behind}
use Rattle.tree_world.proofs.Handling.{passed_on}
use Rattle.tree_engine.proofs.Fits.{row_fits}
use Rattle.tree_engine.proofs.rows.add_entry.Goals as goal

pub loop-row-preserved : goal.loop-row-preserved
loop-row-preserved c =
    let i = c.loop-row.row-index in
    let within : i < length c.args.rows.now = omega arith in
    let inside : i < length c.loop-row.rows = omega arith in
    rw c.in_ok-row.ensures.ok (map_over_more (row_behind c.args.entry.now)
    c.args.rows.now c.loop-row.rows i _ within
    c.loop-row.invariant (get_or_default c.loop-row.rows i _ _ inside))

pub returns-in_err-row-clause-err : goal.returns-in_err-row-clause-err
returns-in_err-row-clause-err c =
    let i = c.loop-row.row-index in
    let within : i < length c.args.rows.now = omega arith in
    let said = c.in_err-row.ensures.err in
    passed_on c.from_residual.result c.in_err-row.field-0.0
    (λ why. (why ≡ Exhausted) × (AllFit (map (row_behind c.args.entry.now) c.args.rows.now) → ⊥))
    c.from_residual.ensures.1 (
      said.0,
      λ fit. said.1 (row_fits (row_behind c.args.entry.now) c.args.rows.now
          c.loop-row.rows i _ within c.loop-row.invariant fit),
    )
