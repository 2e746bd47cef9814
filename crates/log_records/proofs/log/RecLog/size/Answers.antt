use Rattle.std.proofs.Common.{◌≡◌, ◌≤◌, ◌∙◌, ◌+◌, ap, arith, false, length, refl, sym}
use Rattle.std.proofs.lemmas.List.{take_all}
use Rattle.log_records.specs.Texts.{records_in}
use Rattle.log_records.specs.Sights.{body, records_of}
use Rattle.log_records.proofs.Known.{log_is_long}
use Rattle.log_records.proofs.Trims.{kept_is}
use Rattle.log_records.proofs.Turns.{records_stand}
use Rattle.log_records.proofs.Within.{left_of_view, log_long}
use Rattle.log_records.proofs.log.RecLog.size.Goals as goal

pub returns-clause-keeps : goal.returns-clause-keeps
returns-clause-keeps g c =
    let p = c.self.inside.form in
    let text = g.L.LogStore.bytes c.self.inside.store in
    let forced = g.L.LogStore.forced c.self.inside.store in
    let keep = length c.bytes.result.now in
    let all : length text ≤ forced + keep = let e = ap length c.bytes.ensures in omega (arith, e) in
    sym (left_of_view p text forced keep _ _ _ _ _ c.self.view_is c.self.invariant.0.second
    c.self.invariant.0.header_forced
    (g.met.L.LogStore.front c.self.inside.store)
    (sym (ap (λ s. records_of s.sight.kept) c.self.view_is) ∙ records_stand p text forced
    ∙ ap (λ t. records_in p 0 (body t)) (sym (take_all (forced + keep) text all))))

pub returns-clause-whole : goal.returns-clause-whole
returns-clause-whole g c = λ works.
    let p = c.self.inside.form in
    let text = g.L.LogStore.bytes c.self.inside.store in
    let no : c.self.inside.failed ≡ false = ap (λ s. s.sight.failed) c.self.view_is ∙ works in
    ap length c.bytes.ensures ∙ log_long p text _ _ _ _ _ c.self.view_is c.self.invariant.0.second
    (log_is_long p text _ _ c.self.invariant.0) (c.self.invariant.0.whole no)
    (kept_is p text (body text) _ _ _ _ _ c.self.view_is refl)
