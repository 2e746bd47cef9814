use Rattle.std.proofs.Common.{◌≡◌, ◌∙◌, false, refl, ap}
use Rattle.log_records.proofs.Turns.{breaks_of, force_breaks, forced_all, forced_of}
use Rattle.log_records.proofs.log.RecLog.force.Goals as goal

pub returns-in-Err-clause-err : goal.returns-in-Err-clause-err
returns-in-Err-clause-err g c =
    let b = c.in-Err.ensures.err.1 in (
      refl,
      breaks_of _ _ _ _ c.self.view_is
          (force_breaks _ _ _ _ _ _ _ (g.L.LogStore.room c.self.inside.store)
          (g.L.LogStore.room c.force.new.self) _
          c.self.invariant.0.second c.self.invariant.0.header_forced
          (g.met.L.LogStore.front c.self.inside.store)
          (g.met.L.LogStore.front c.force.new.self) b.text b.no_less b.cause),
    )

pub returns-clause-ok : goal.returns-clause-ok
returns-clause-ok g c =
    let works : c.self.inside.failed ≡ false = ap (λ s. s.sight.failed) c.self.view_is ∙ c.requires in
    let f = c.in_default.ensures.ok in
    forced_of _ _ _ c.self.view_is
    (forced_all _ _ _ _ _ _ _ (g.L.LogStore.room c.self.inside.store)
    (g.L.LogStore.room c.force.new.self) _ works
    (c.self.invariant.0.whole works) f.text f.all f.failures_stay c.in_default.ensures.room)
