use Rattle.std.proofs.Common.{◌≡◌, [], ◌∷◌}
use Rattle.log_text.specs.Made.{frame_record}
use Rattle.log_records.specs.Sights.{Appended, Breaks}
use Rattle.log_records.specs.declared.log.LogError.{LogError}
use Rattle.log_records.specs.declared.log.LogError.TheVariants.{Device}
use Rattle.log_writing.proofs.Forces.{broken_force, if_err}
use Rattle.log_writing.proofs.writing.write.Goals as goal

pub returns-then-forced-clause-err : goal.returns-then-forced-clause-err
returns-then-forced-clause-err g c =
    let appended : Appended c.args.log.now c.append.new.self (frame_record c.args.frame.now) =
    c.in_ok-append.ensures.ok in
    if_err (λ (e : LogError). (e ≡ Device) × Breaks c.append.new.self c.force.new.self [])
    (λ (e : LogError). (e ≡ Device) × Breaks c.args.log.now c.force.new.self
    (frame_record c.args.frame.now ∷ []))
    (λ e is. (
      is.0,
      broken_force c.args.log.now c.append.new.self c.force.new.self
          (frame_record c.args.frame.now) appended is.1,
    )) c.force.result c.force.ensures.err
