use Rattle.std.proofs.Common.{subst, sym}
use Rattle.protocol.specs.Records.{record_case}
use Rattle.coord_records.specs.Remembered.{LogMemory, MayFollow, RemembersCases}
use Rattle.coord_records.proofs.Remembering.{noted_next}
use Rattle.coord_records.proofs.remembered.RememberedCases.note.Goals as goal

pub returns : goal.returns
returns c = λ yes rs k.
    let m : LogMemory = record { said = c.self.inside.reading; reached = c.self.inside.reached } in
    let may : MayFollow c.args.self.now (record_case c.args.record.now) =
    subst (MayFollow c.args.self.now) c.case.ensures (c.may_be_out.ensures c.if-may_be_out.false) in
    noted_next rs c.args.record.now m c.note.new.self (subst (RemembersCases rs) (sym c.self.view_is) k)
    (subst (λ (z : LogMemory). MayFollow z (record_case c.args.record.now)) (sym c.self.view_is) may)
    (c.in_ok-note.ensures {u = tt})
