use Rattle.std.proofs.Common.{◌≡◌, ◌≤◌, ◌∙◌, suc, length, List, [], ◌∷◌, fold, map, refl, sym, ap, arith}
use Rattle.protocol.specs.declared.records.LogRecord.{LogRecord}
use Rattle.coord_records.specs.Progress.{progress_after, standing_by}
use Rattle.coord_records.proofs.Progress.{standing_noted}
use Rattle.coord_records.proofs.standings.standing.Goals as goal

none_left : (ls : List LogRecord) → suc (length ls) ≤ 1 → ls ≡ []
none_left [] h = refl
none_left (l ∷ ls) h = absurd (omega (arith, h))

pub returns : goal.returns
returns c =
    let done : c.loop-rest.rest.now ≡ [] = none_left _ c.in_default.len_below in
    c.standing.ensures
    ∙ ap standing_by (sym (c.loop-rest.invariant
    ∙ ap (λ ls. fold (progress_after c.args.case.now) c.loop-rest.progress (map (λ r. r.entry) ls)) done))
    ∙ standing_noted (map (λ r. r.entry) c.args.records.now) c.args.case.now
