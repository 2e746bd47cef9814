use Rattle.std.proofs.Common.{◌≡◌, ◌∙◌, ◌+◌, ◌++◌, ap, arith, if◌then◌else◌, length, length-take, map, refl, subst, sym, take}
use Rattle.log_text.specs.Made.{frame_record}
use Rattle.log_records.specs.Restarting.{LeavesText, WritesLeft}
use Rattle.log_records.specs.Sights.{AreRecords}
use Rattle.log_records.proofs.Known.{known_all, known_header, log_is_long}
use Rattle.log_records.proofs.Turns.{by_device}
use Rattle.log_records.proofs.Restarting.{Broken, breaks_restart, broken, front_begins, leaves_text, restart_breaks, restarted, text_broken, text_settled}
use Rattle.log_records.proofs.log.RecLog.restart.Goals as goal

pub invariant_of-self-in-Ok-write_left : goal.invariant_of-self-in-Ok-write_left
invariant_of-self-in-Ok-write_left g c =
    let form = c.self.inside.form in
    let text = g.L.LogStore.bytes c.self.inside.store in
    let forced = g.L.LogStore.forced c.self.inside.store in
    let rs = map frame_record c.args.new.now in
    let are : AreRecords form.kind rs =
    subst (λ k. AreRecords k rs) (sym (ap (λ s. s.sight.form.kind) c.self.view_is)) c.requires in
    let is_left : c.left_by-left.result.now ≡ take (forced + c.args.keep) text =
    c.left_by-left.ensures.left ∙ ap (λ n. take (n + c.args.keep) c.bytes.result.now) c.forced-forced.ensures
    ∙ ap (take (forced + c.args.keep)) c.bytes.ensures in
    let writes : WritesLeft form (take (forced + c.args.keep) text) rs c.in-Ok.left.is_torn
    c.deref.result.now =
    subst (λ t. WritesLeft form (take (forced + c.args.keep) text) rs c.in-Ok.left.is_torn t)
    (sym c.deref.ensures.value)
    (subst (λ t. WritesLeft form t rs c.in-Ok.left.is_torn c.in-Ok.left.text.items) is_left c.in-Ok.ensures)
    in
    let stays = c.in_default.ensures.stays in
    let crash = c.crash.ensures.left in
    let old_is : g.L.LogStore.bytes c.crash.new.self ≡ take (forced + c.args.keep) text =
    crash.text ∙ ap (λ n. take (n + c.args.keep) (g.L.LogStore.bytes c.reserve.new.self)) stays.forced_stays
    ∙ ap (take (forced + c.args.keep)) stays.bytes_stay in
    let ok = c.in-Ok-write_left.ensures.ok in
    let leaves : LeavesText form (take (forced + c.args.keep) text) rs
    (g.L.LogStore.bytes c.write_left.new.store) =
    leaves_text _ _ c.deref.result.now _ _ c.in-Ok.left.is_torn writes (ok.text_stands
    ∙ ap (λ o. if c.in-Ok.left.is_torn then c.deref.result.now else o ++ c.deref.result.now) old_is) in
    let settled = text_settled _ _ _ rs _ c.self.invariant.0.second are
    (front_begins (forced + c.args.keep) text _
    (omega (arith, c.self.invariant.0.header_forced)) c.self.invariant.0.begins) leaves ok.all in (
      settled,
      known_all _ _ _ _ (log_is_long _ _ _ _ settled) (settled.whole refl)
          (ap length c.bytes-in-Ok-write_left.ensures) (omega (arith, ok.all)),
      tt,
    )

pub returns-in-Ok-write_left-clause-ok : goal.returns-in-Ok-write_left-clause-ok
returns-in-Ok-write_left-clause-ok g c =
    let form = c.self.inside.form in
    let text = g.L.LogStore.bytes c.self.inside.store in
    let forced = g.L.LogStore.forced c.self.inside.store in
    let rs = map frame_record c.args.new.now in
    let are : AreRecords form.kind rs =
    subst (λ k. AreRecords k rs) (sym (ap (λ s. s.sight.form.kind) c.self.view_is)) c.requires in
    let is_left : c.left_by-left.result.now ≡ take (forced + c.args.keep) text =
    c.left_by-left.ensures.left ∙ ap (λ n. take (n + c.args.keep) c.bytes.result.now) c.forced-forced.ensures
    ∙ ap (take (forced + c.args.keep)) c.bytes.ensures in
    let writes : WritesLeft form (take (forced + c.args.keep) text) rs c.in-Ok.left.is_torn
    c.deref.result.now =
    subst (λ t. WritesLeft form (take (forced + c.args.keep) text) rs c.in-Ok.left.is_torn t)
    (sym c.deref.ensures.value)
    (subst (λ t. WritesLeft form t rs c.in-Ok.left.is_torn c.in-Ok.left.text.items) is_left c.in-Ok.ensures)
    in
    let stays = c.in_default.ensures.stays in
    let crash = c.crash.ensures.left in
    let old_is : g.L.LogStore.bytes c.crash.new.self ≡ take (forced + c.args.keep) text =
    crash.text ∙ ap (λ n. take (n + c.args.keep) (g.L.LogStore.bytes c.reserve.new.self)) stays.forced_stays
    ∙ ap (take (forced + c.args.keep)) stays.bytes_stay in
    let ok = c.in-Ok-write_left.ensures.ok in
    let leaves : LeavesText form (take (forced + c.args.keep) text) rs
    (g.L.LogStore.bytes c.write_left.new.store) =
    leaves_text _ _ c.deref.result.now _ _ c.in-Ok.left.is_torn writes (ok.text_stands
    ∙ ap (λ o. if c.in-Ok.left.is_torn then c.deref.result.now else o ++ c.deref.result.now) old_is) in
    restarted _ text _ forced _ c.args.keep _ _ _
    (g.L.LogStore.room c.write_left.new.store) rs _ _ c.self.view_is are c.self.invariant.0
    (g.met.L.LogStore.front c.self.inside.store) leaves ok.all
    (ok.failures_stay ∙ crash.failures_stay ∙ stays.failures_stay)

pub invariant_of-self-in-Err-write_left : goal.invariant_of-self-in-Err-write_left
invariant_of-self-in-Err-write_left g c =
    let form = c.self.inside.form in
    let text = g.L.LogStore.bytes c.self.inside.store in
    let forced = g.L.LogStore.forced c.self.inside.store in
    let rs = map frame_record c.args.new.now in
    let are : AreRecords form.kind rs =
    subst (λ k. AreRecords k rs) (sym (ap (λ s. s.sight.form.kind) c.self.view_is)) c.requires in
    let is_left : c.left_by-left.result.now ≡ take (forced + c.args.keep) text =
    c.left_by-left.ensures.left ∙ ap (λ n. take (n + c.args.keep) c.bytes.result.now) c.forced-forced.ensures
    ∙ ap (take (forced + c.args.keep)) c.bytes.ensures in
    let writes : WritesLeft form (take (forced + c.args.keep) text) rs c.in-Ok.left.is_torn
    c.deref.result.now =
    subst (λ t. WritesLeft form (take (forced + c.args.keep) text) rs c.in-Ok.left.is_torn t)
    (sym c.deref.ensures.value)
    (subst (λ t. WritesLeft form t rs c.in-Ok.left.is_torn c.in-Ok.left.text.items) is_left c.in-Ok.ensures)
    in
    let stays = c.in_default.ensures.stays in
    let crash = c.crash.ensures.left in
    let old_is : g.L.LogStore.bytes c.crash.new.self ≡ take (forced + c.args.keep) text =
    crash.text ∙ ap (λ n. take (n + c.args.keep) (g.L.LogStore.bytes c.reserve.new.self)) stays.forced_stays
    ∙ ap (take (forced + c.args.keep)) stays.bytes_stay in
    let b = by_device c.in-Err-write_left.field-0 _ _ c.in-Err-write_left.ensures.memory
    (λ m. omega (
      arith,
      m,
      c.in_default.ensures.room,
      c.crash.ensures.room,
      c.deref.ensures.len,
      c.len.ensures,
      ap length c.deref.ensures.value,
      ap length old_is,
      length-take (forced + c.args.keep) text,
    )) c.in-Err-write_left.ensures.device in
    let broke : Broken form (take (forced + c.args.keep) text) rs forced
    (g.L.LogStore.bytes c.write_left.new.store) (g.L.LogStore.forced c.write_left.new.store) =
    broken _ _ c.deref.result.now _ _ _ forced _ _ c.in-Ok.left.is_torn writes old_is
    (crash.front ∙ stays.forced_stays) b.stands in
    let t = text_broken form text forced c.args.keep 0 0 c.self.inside.failed c.self.invariant.0
    (g.met.L.LogStore.front c.self.inside.store) rs _ _ are broke in (
      t,
      known_header _ _ _ _ t.header_forced refl,
      tt,
    )

pub returns-clause-err : goal.returns-clause-err
returns-clause-err g c =
    let form = c.self.inside.form in
    let text = g.L.LogStore.bytes c.self.inside.store in
    let forced = g.L.LogStore.forced c.self.inside.store in
    let rs = map frame_record c.args.new.now in
    let are : AreRecords form.kind rs =
    subst (λ k. AreRecords k rs) (sym (ap (λ s. s.sight.form.kind) c.self.view_is)) c.requires in
    let is_left : c.left_by-left.result.now ≡ take (forced + c.args.keep) text =
    c.left_by-left.ensures.left ∙ ap (λ n. take (n + c.args.keep) c.bytes.result.now) c.forced-forced.ensures
    ∙ ap (take (forced + c.args.keep)) c.bytes.ensures in
    let writes : WritesLeft form (take (forced + c.args.keep) text) rs c.in-Ok.left.is_torn
    c.deref.result.now =
    subst (λ t. WritesLeft form (take (forced + c.args.keep) text) rs c.in-Ok.left.is_torn t)
    (sym c.deref.ensures.value)
    (subst (λ t. WritesLeft form t rs c.in-Ok.left.is_torn c.in-Ok.left.text.items) is_left c.in-Ok.ensures)
    in
    let stays = c.in_default.ensures.stays in
    let crash = c.crash.ensures.left in
    let old_is : g.L.LogStore.bytes c.crash.new.self ≡ take (forced + c.args.keep) text =
    crash.text ∙ ap (λ n. take (n + c.args.keep) (g.L.LogStore.bytes c.reserve.new.self)) stays.forced_stays
    ∙ ap (take (forced + c.args.keep)) stays.bytes_stay in
    let b = by_device c.in-Err-write_left.field-0 _ _ c.in-Err-write_left.ensures.memory
    (λ m. omega (
      arith,
      m,
      c.in_default.ensures.room,
      c.crash.ensures.room,
      c.deref.ensures.len,
      c.len.ensures,
      ap length c.deref.ensures.value,
      ap length old_is,
      length-take (forced + c.args.keep) text,
    )) c.in-Err-write_left.ensures.device in
    let broke : Broken form (take (forced + c.args.keep) text) rs forced
    (g.L.LogStore.bytes c.write_left.new.store) (g.L.LogStore.forced c.write_left.new.store) =
    broken _ _ c.deref.result.now _ _ _ forced _ _ c.in-Ok.left.is_torn writes old_is
    (crash.front ∙ stays.forced_stays) b.stands in
    restart_breaks _ _ _ _ _ c.self.view_is
    (breaks_restart form text forced c.args.keep _ _ _ c.self.invariant.0
    (g.met.L.LogStore.front c.self.inside.store) rs _ _ _ (g.L.LogStore.room c.write_left.new.store) are broke
    (omega (arith, b.cause, crash.failures_stay, stays.failures_stay)))
