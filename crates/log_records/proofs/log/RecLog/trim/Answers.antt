use Rattle.std.proofs.Common.{◌≡◌, ◌∙◌, ap, map, refl, subst, sym}
use Rattle.log_text.specs.Made.{frame_record}
use Rattle.log_records.specs.Sights.{Rewritten, body}
use Rattle.log_records.specs.Texts.{records_in}
use Rattle.log_records.specs.Trimming.{LogTrimmed, trim_of}
use Rattle.log_records.proofs.Trims.{count_stands, not_trimmed, trim_counts, trim_read, trimmed}
use Rattle.log_records.proofs.log.RecLog.trim.Goals as goal

pub invariant_of-self : goal.invariant_of-self
invariant_of-self g c =
    let p = c.self.inside.form in
    let text = g.L.LogStore.bytes c.self.inside.store in
    let old = c.args.self.now in
    let rs = map frame_record c.args.behind.now in
    let asked = c.deref-2.result.now in
    let bytes = c.body.ensures ∙ ap body c.bytes-bytes.ensures in
    let read : records_in p 0 (body asked) ≡ trim_of old rs =
    trim_read _ _ _ _ asked _ _ _ _ _ _ c.self.view_is bytes c.deref-2.ensures.value c.in-Ok.ensures.text in
    let form : c.self-2.inside.form ≡ p =
    ap (λ s. s.sight.form) c.self-2.view_is ∙ c.put.ensures.form ∙ sym (ap (λ s. s.sight.form) c.self.view_is)
    in
    let made : Rewritten old c.put.new.self (records_in p 0 (body asked)) =
    subst (λ f. Rewritten old c.put.new.self (records_in f 0 (body asked)))
    (sym (ap (λ s. s.sight.form) c.self.view_is)) c.in-Ok-put.ensures.ok in (
      c.self-2.invariant.0,
      c.self-2.invariant.1,
      trim_counts p _ text _ c.deref.result.now c.bytes-bytes.result.now asked _ _ _ _ _ _
          c.in-Ok.trimmed.count _ _
          c.settled_count-settled.result old c.put.new.self rs c.self.view_is c.self-2.view_is form
          (c.deref-2.ensures.value ∙ sym c.deref.ensures.value) c.bytes-bytes.ensures c.requires.own read
          (count_stands _ _ _ _ _ _ _ _ _ _ c.self.view_is bytes c.in-Ok.ensures.count) made
          c.settled_count-settled.ensures,
    )

pub returns-clause-err : goal.returns-clause-err
returns-clause-err g c =
    let read = ap (λ s. records_in s.sight.form 0 (body c.deref-2.result.now)) (sym c.self.view_is)
    ∙ trim_read _ _ _ _ c.deref-2.result.now _ _ _ _ _ _ c.self.view_is
    (c.body.ensures ∙ ap body c.bytes-bytes.ensures) c.deref-2.ensures.value c.in-Ok.ensures.text in
    not_trimmed _ _ _ _ _ _ refl read c.in-Err-put.ensures.err

pub returns-in-Ok-put-clause-ok : goal.returns-in-Ok-put-clause-ok
returns-in-Ok-put-clause-ok g c =
    let rs = map frame_record c.args.behind.now in
    let bytes = c.body.ensures ∙ ap body c.bytes-bytes.ensures in
    let read = ap (λ s. records_in s.sight.form 0 (body c.deref-2.result.now)) (sym c.self.view_is)
    ∙ trim_read _ _ _ _ c.deref-2.result.now _ _ _ _ _ _ c.self.view_is bytes c.deref-2.ensures.value
    c.in-Ok.ensures.text in
    let made : LogTrimmed c.args.self.now c.put.new.self rs c.in-Ok.trimmed.count =
    trimmed _ _ _ _ _ _ refl read c.in-Ok-put.ensures.ok
    (count_stands _ _ _ _ _ _ _ _ _ _ c.self.view_is bytes c.in-Ok.ensures.count) in
    subst (λ new. LogTrimmed c.args.self.now new rs c.in-Ok.trimmed.count) (sym c.self-2.view_is) made
