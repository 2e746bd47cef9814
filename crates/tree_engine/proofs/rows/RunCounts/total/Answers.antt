use Rattle.std.proofs.Common.{◌∙◌, ◌<◌, [], ap, refl, sym, subst, length, take, arith}
use Rattle.std.specs.List.{fold}
use Rattle.tree_engine.specs.Counts.{Fit, counts_of, together, total_of}
use Rattle.tree_engine.proofs.Fits.{next_fits, no_row}
use Rattle.tree_engine.proofs.rows.RunCounts.total.Goals as goal

pub returns-in_default-clause-err : goal.returns-in_default-clause-err
returns-in_default-clause-err c =
    let rows = c.rows-row-items.result.now in
    let k = c.loop-row.row-index in
    let same = c.rows-row-items.ensures in
    let within : k < length rows = omega arith in
    let summed = c.loop-row.invariant
    ∙ ap (λ rs. fold (λ sum r. together sum r.counts) (counts_of [] []) (take k rs)) (sym same) in (
      refl,
      λ fit. c.in_default.ensures.none (rw summed
          (next_fits rows k no_row within (subst (λ rs. Fit (total_of rs)) (sym same) fit))),
    )
