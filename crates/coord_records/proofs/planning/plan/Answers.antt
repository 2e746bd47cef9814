use Rattle.std.proofs.Common.{◌∙◌, ap, subst, sym}
use Rattle.std.specs.List.{fold}
use Rattle.coord_records.specs.Readings.{noted}
use Rattle.coord_records.specs.Remembered.{LogMemory, RemembersCases}
use Rattle.coord_records.proofs.Remembering.{planned}
use Rattle.coord_records.proofs.planning.plan.Goals as goal

pub returns-clause-ok : goal.returns-clause-ok
returns-clause-ok c = λ rs k.
    let m : LogMemory = record { said = c.remembered.inside.reading; reached = c.remembered.inside.reached }
    in
    let both =
    planned rs c.in_ok-appended.appended.items m c.note_all.new.self
    (subst (RemembersCases rs) (sym c.remembered.view_is) k)
    (c.in_ok-appended.ensures {u = tt}) (c.in_ok-note_all.ensures {u = tt}
    ∙ ap (fold noted m.said) c.deref.ensures.value) in
    record { appended = both.0; remembered = both.1 }
