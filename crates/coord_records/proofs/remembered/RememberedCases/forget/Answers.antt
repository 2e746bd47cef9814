use Rattle.std.proofs.Common.{arith, filter, refl, subst, sym}
use Rattle.coord_records.specs.Readings.{ReadLog}
use Rattle.coord_records.specs.Remembered.{LogMemory, RemembersCases, is_needed}
use Rattle.coord_records.proofs.Remembering.{still_remembers}
use Rattle.coord_records.proofs.remembered.RememberedCases.forget.Goals as goal

pub returns : goal.returns
returns c = λ rs k.
    let m : LogMemory = record { said = c.self.inside.reading; reached = c.self.inside.reached } in
    let boot = c.boot-boot.result in
    subst (λ (s : ReadLog). RemembersCases rs (record { said = s; reached = c.max-self-inside.result }))
    (sym c.forget.ensures)
    (still_remembers rs m c.max-self-inside.result boot (filter (is_needed boot) m.said.table)
    (subst (RemembersCases rs) (sym c.self.view_is) k) refl (omega (arith, c.max-self-inside.ensures))
    (omega (arith, c.max-self-inside.ensures)))
