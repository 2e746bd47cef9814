use Rattle.std.proofs.Common.{◌≡◌, ◌≤◌, ◌+◌, ◌∷◌, [], map, subst, sym, arith}
use Rattle.log_text.specs.Made.{frame_record}
use Rattle.log_text.specs.Payloads.{record_size}
use Rattle.log_records.specs.Sights.{AreRecords, IsRecord, LogState, LogNotRestarted, LogRestarts, frames_size, left_by}
use Rattle.log_records.specs.declared.log.LogError.TheVariants.{Device, Memory}
use Rattle.resource_manager.specs.declared.errors.RestartError.TheVariants as restarts
use Rattle.kv_state.specs.Remembered.{RemembersData}
use Rattle.kv_manager.proofs.Remembering.{front_unstarted, restarted_front, restarted_size}
use Rattle.kv_manager.proofs.remembered.FrontedLog.restart.Goals as goal

pub restart-requires : goal.restart-requires
restart-requires g c =
    subst (λ fs. AreRecords c.self.inside.log.sight.form.kind (map frame_record fs))
    (sym c.from_ref.ensures.value) (
      subst (λ (l : LogState). IsRecord l.sight.form.kind (frame_record c.args.opened.now))
          (sym c.self.view_is)
          c.requires.sound,
      tt,
    )

pub overflow_sub-size : goal.overflow_sub-size
overflow_sub-size g c =
    let restarted : LogRestarts c.self.inside.log c.restart.new.self c.args.keep
    (frame_record c.args.opened.now ∷ []) =
    subst (λ fs. LogRestarts c.self.inside.log c.restart.new.self c.args.keep (map frame_record fs))
    c.from_ref.ensures.value c.in-Ok.ensures.ok in
    let whole = restarted_size c.self.inside.log c.restart.new.self c.args.keep c.size-all.result
    (frame_record c.args.opened.now) restarted (c.size-all.ensures.whole restarted.works) in
    omega (arith, whole, c.size-last.ensures)

pub invariant_of-self : goal.invariant_of-self
invariant_of-self g c =
    let restarted : LogRestarts c.self.inside.log c.restart.new.self c.args.keep
    (frame_record c.args.opened.now ∷ []) =
    subst (λ fs. LogRestarts c.self.inside.log c.restart.new.self c.args.keep (map frame_record fs))
    c.from_ref.ensures.value c.in-Ok.ensures.ok in
    let whole = restarted_size c.self.inside.log c.restart.new.self c.args.keep c.size-all.result
    (frame_record c.args.opened.now) restarted (c.size-all.ensures.whole restarted.works) in
    restarted_front c.self.inside.log c.restart.new.self c.args.keep
    (frame_record c.args.opened.now) _ restarted
    (omega (arith, whole, c.size-last.ensures))
    (subst (λ l. RemembersData (left_by l.sight c.args.keep) c.args.remembered) (sym c.self.view_is)
    c.requires.says)

pub invariant_of-self-in-Err-Memory : goal.invariant_of-self-in-Err-Memory
invariant_of-self-in-Err-Memory g c =
    front_unstarted c.self.inside.log c.restart.new.self c.args.keep (frame_record c.args.opened.now)
    c.self.inside.front restarts.Memory
    (subst (λ e. LogNotRestarted c.self.inside.log c.restart.new.self c.args.keep
    (frame_record c.args.opened.now ∷ []) e)
    c.in-Err-Memory.field-0-is
    (subst (λ fs. LogNotRestarted c.self.inside.log c.restart.new.self c.args.keep (map frame_record fs)
    c.in-Err-Memory.field-0) c.from_ref.ensures.value c.in-Err-Memory.ensures.err)) c.self.invariant

pub invariant_of-self-in-Err-Device : goal.invariant_of-self-in-Err-Device
invariant_of-self-in-Err-Device g c =
    front_unstarted c.self.inside.log c.restart.new.self c.args.keep (frame_record c.args.opened.now)
    c.self.inside.front restarts.Device
    (subst (λ e. LogNotRestarted c.self.inside.log c.restart.new.self c.args.keep
    (frame_record c.args.opened.now ∷ []) e)
    c.in-Err-Device.field-0-is
    (subst (λ fs. LogNotRestarted c.self.inside.log c.restart.new.self c.args.keep (map frame_record fs)
    c.in-Err-Device.field-0) c.from_ref.ensures.value c.in-Err-Device.ensures.err)) c.self.invariant
