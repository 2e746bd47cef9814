use Rattle.std.proofs.Common.{◌∙◌, ap, arith, length, refl, sym}
use Rattle.log_records.specs.Sights.{body}
use Rattle.log_records.specs.Texts.{is_whole}
use Rattle.log_records.proofs.Turns.{by_device}
use Rattle.log_records.proofs.Known.{known_all, known_header, log_is_long}
use Rattle.log_records.proofs.Rewriting.{came_of, rewrite_breaks, rewritten, spells_inside, text_alone, text_either}
use Rattle.log_records.proofs.log.RecLog.put.Goals as goal

pub returns-in-Err-replace-clause-err : goal.returns-in-Err-replace-clause-err
returns-in-Err-replace-clause-err g c =
    let spells = spells_inside _ _ c.args.text.now _ _ _ _ _ c.self.view_is c.requires.sound in
    let stays = c.in_default.ensures.stays in
    let b = by_device c.in-Err-replace.field-0 _ _ c.in-Err-replace.ensures.memory
    (λ m. omega (arith, m.small, c.in_default.ensures.room)) c.in-Err-replace.ensures.device in
    let came = came_of (g.L.LogStore.bytes c.self.inside.store) _ _ c.args.text.now
    (g.L.LogStore.forced c.self.inside.store) _ _ b.either stays.bytes_stay stays.forced_stays in
    rewrite_breaks _ _ _ c.args.text.now _ _ _ _ (g.L.LogStore.room c.self.inside.store)
    (g.L.LogStore.room c.replace.new.self) _ _ _ c.self.view_is spells came
    (omega (arith, b.cause, stays.failures_stay))

pub invariant_of-self-in-Err-replace : goal.invariant_of-self-in-Err-replace
invariant_of-self-in-Err-replace g c =
    let spells = spells_inside _ _ c.args.text.now _ _ _ _ _ c.self.view_is c.requires.sound in
    let stays = c.in_default.ensures.stays in
    let b = by_device c.in-Err-replace.field-0 _ _ c.in-Err-replace.ensures.memory
    (λ m. omega (arith, m.small, c.in_default.ensures.room)) c.in-Err-replace.ensures.device in
    let came = came_of (g.L.LogStore.bytes c.self.inside.store) _ _ c.args.text.now
    (g.L.LogStore.forced c.self.inside.store) _ _ b.either stays.bytes_stay stays.forced_stays in
    let text = text_either _ _ _ c.args.text.now _ _ _ _ c.self.invariant.0 spells came in (
      text,
      known_header _ _ _ _ text.header_forced refl,
      tt,
    )

pub invariant_of-self-2 : goal.invariant_of-self-2
invariant_of-self-2 g c =
    let spells = spells_inside _ _ c.args.text.now _ _ _ _ _ c.self.view_is c.requires.sound in
    let works = ap (λ s. s.sight.failed) c.self.view_is ∙ c.requires.works in
    let ok = c.in_default-replace.ensures.ok in
    let log = text_alone _ _ _ _ _ _ c.self.invariant.0.second spells ok.text_stands ok.all in (
      log,
      known_all _ _ _ _ (log_is_long _ _ _ _ log)
          (ap (λ t. is_whole c.self.inside.form 0 (body t)) ok.text_stands ∙ spells.holds.whole)
          (ap length (sym ok.text_stands)) (omega (arith, ok.all, ap length ok.text_stands)),
      tt,
    )

pub returns-clause-ok : goal.returns-clause-ok
returns-clause-ok g c =
    let spells = spells_inside _ _ c.args.text.now _ _ _ _ _ c.self.view_is c.requires.sound in
    let works = ap (λ s. s.sight.failed) c.self.view_is ∙ c.requires.works in
    let ok = c.in_default-replace.ensures.ok in
    rewritten _ _ c.args.text.now _ _ _ _ _ (g.L.LogStore.room c.self.inside.store)
    (g.L.LogStore.room c.replace.new.self) _ _ _ c.self.view_is works spells ok.text_stands ok.all
    (ok.failures_stay ∙ c.in_default.ensures.stays.failures_stay)
