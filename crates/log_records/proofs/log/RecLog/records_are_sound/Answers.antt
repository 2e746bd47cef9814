use Rattle.std.proofs.Common.{◌∙◌, ap, subst, sym}
use Rattle.std.specs.List.{AllByRecursion}
use Rattle.log_rules.specs.sound.Sound.{IsSound}
use Rattle.log_records.specs.Texts.{records_in}
use Rattle.log_records.specs.Sights.{body, records_of}
use Rattle.log_records.proofs.Turns.{records_stand}
use Rattle.log_records.proofs.log.RecLog.records_are_sound.Goals as goal

pub returns : goal.returns
returns g c =
    let is = ap (records_in c.self.inside.form 0) (c.body.ensures ∙ ap body c.bytes.ensures)
    ∙ sym (records_stand c.self.inside.form (g.L.LogStore.bytes c.self.inside.store)
    (g.L.LogStore.forced c.self.inside.store)) in
    subst (λ s. AllByRecursion (IsSound s.sight.form.kind) (records_of s.sight.kept)) c.self.view_is
    (subst (AllByRecursion (IsSound c.self.inside.form.kind)) is c.are_sound.ensures)
