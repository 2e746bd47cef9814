use Rattle.std.proofs.Common.{◌≡◌, ◌∙◌, ◌++◌, ap, map, subst}
use Rattle.log_text.specs.Forms.{header}
use Rattle.log_text.specs.Made.{frame_record}
use Rattle.log_text.specs.Payloads.{records_text}
use Rattle.log_records.proofs.Rewriting.{alone, not_rewritten_as, rewritten_as, spells_own}
use Rattle.log_records.proofs.log.RecLog.rewrite.Goals as goal

pub put-requires-clause-sound : goal.put-requires-clause-sound
put-requires-clause-sound g c = spells_own _ _ _
    (alone _ _ _ c.requires.sound (subst (λ f. c.deref.result.now
    ≡ header f.format ++ records_text f (map frame_record c.args.new.now))
    (ap (λ s. s.sight.form) c.self.view_is) (c.deref.ensures.value ∙ c.in-Ok.ensures)))

pub returns-in-Ok-clause-ok : goal.returns-in-Ok-clause-ok
returns-in-Ok-clause-ok g c =
    let s = alone _ _ _ c.requires.sound (subst
    (λ f. c.deref.result.now ≡ header f.format ++ records_text f (map frame_record c.args.new.now))
    (ap (λ s. s.sight.form) c.self.view_is) (c.deref.ensures.value ∙ c.in-Ok.ensures)) in
    rewritten_as _ _ _ _ _ s.holds.read c.put.ensures.ok

pub returns-in-Ok-clause-err : goal.returns-in-Ok-clause-err
returns-in-Ok-clause-err g c =
    let s = alone _ _ _ c.requires.sound (subst
    (λ f. c.deref.result.now ≡ header f.format ++ records_text f (map frame_record c.args.new.now))
    (ap (λ s. s.sight.form) c.self.view_is) (c.deref.ensures.value ∙ c.in-Ok.ensures)) in
    not_rewritten_as _ _ _ _ _ s.holds.read c.put.ensures.err
