use Rattle.std.proofs.Common.{◌≡◌, ◌∙◌, false, refl, sym, ap, subst, arith}
use Rattle.log_text.specs.Made.{frame_record}
use Rattle.log_records.specs.Sights.{IsRecord, CanStandInForm}
use Rattle.log_records.proofs.Known.{known_more}
use Rattle.log_records.proofs.Turns.{append_breaks, appended, appended_of, breaks_of, by_device, record_long, text_goes_on}
use Rattle.log_records.proofs.Within.{frame_size}
use Rattle.log_records.proofs.log.RecLog.append.Goals as goal

pub returns-in-Err-clause-err : goal.returns-in-Err-clause-err
returns-in-Err-clause-err g c =
    let works : c.self.inside.failed ≡ false = ap (λ s. s.sight.failed) c.self.view_is ∙ c.requires.works in
    let room = ap (λ s. s.room) c.self.view_is in
    let size = frame_size c.self.inside.form c.self.invariant.0.second (frame_record c.args.frame.now) in
    let b = by_device c.in-Err.field-0 _ _ c.in-Err.ensures.memory
    (λ m. omega (
      arith,
      record_long c.self.inside.form (frame_record c.args.frame.now),
      m.small,
      room,
      size,
      c.requires.room,
    )) c.in-Err.ensures.device in (
      refl,
      breaks_of _ _ _ _ c.self.view_is
          (append_breaks _ _ _ _ _ _ _ (g.L.LogStore.room c.self.inside.store)
          (g.L.LogStore.room c.append_frame.new.store) b.came _ _ works
          (subst (λ k. IsRecord k (frame_record c.args.frame.now))
          (sym (ap (λ s. s.sight.form.kind) c.self.view_is)) c.requires.sound c.self.inside.form refl)
          c.self.invariant.0
          (g.met.L.LogStore.front c.self.inside.store)
          b.text b.forced_stays b.cause),
    )

pub invariant_of-self-in_default : goal.invariant_of-self-in_default
invariant_of-self-in_default g c =
    let works : c.self.inside.failed ≡ false = ap (λ s. s.sight.failed) c.self.view_is ∙ c.requires.works in
    let a = c.in_default.ensures.ok in
    let text = a.text in
    let is_record : CanStandInForm c.self.inside.form (frame_record c.args.frame.now) =
    subst (λ k. IsRecord k (frame_record c.args.frame.now)) (sym (ap (λ s. s.sight.form.kind) c.self.view_is))
    c.requires.sound c.self.inside.form refl in
    let within = g.met.L.LogStore.front c.self.inside.store in (
      text_goes_on _ _ _ _ _ _ _ works is_record c.self.invariant.0 within text
          a.forced_stays,
      known_more _ _ _ _ _ _ _ c.self.invariant.1 within text (omega (arith, a.forced_stays)),
      tt,
    )

pub returns-clause-ok : goal.returns-clause-ok
returns-clause-ok g c =
    let works : c.self.inside.failed ≡ false = ap (λ s. s.sight.failed) c.self.view_is ∙ c.requires.works in
    let a = c.in_default.ensures.ok in
    appended_of _ _ _ _ c.self.view_is
    (appended _ _ _ _ _ _ _ (g.L.LogStore.room c.self.inside.store)
    (g.L.LogStore.room c.append_frame.new.store) _ _ works
    (subst (λ k. IsRecord k (frame_record c.args.frame.now))
    (sym (ap (λ s. s.sight.form.kind) c.self.view_is)) c.requires.sound c.self.inside.form refl)
    c.self.invariant.0
    (g.met.L.LogStore.front c.self.inside.store)
    a.text a.forced_stays
    a.failures_stay c.in_default.ensures.room)
