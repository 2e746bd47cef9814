use Rattle.std.proofs.Common.{◌≡◌, ◌∙◌, ap, false, subst, sym}
use Rattle.log_records.specs.Sights.{NotRewritten, Rewritten, body, records_of}
use Rattle.log_records.specs.Texts.{records_in}
use Rattle.log_records.specs.Trimming.{Spells}
use Rattle.log_records.proofs.Trims.{kept_is, own_text, trimmed_again}
use Rattle.log_records.proofs.log.RecLog.put_again.Goals as goal

pub put-requires-clause-sound : goal.put-requires-clause-sound
put-requires-clause-sound g c =
    let works : c.self.inside.failed ≡ false = ap (λ s. s.sight.failed) c.self.view_is ∙ c.requires.works in
    subst (λ f. Spells f c.deref.result.now (records_in f 0 (body c.deref.result.now)))
    (ap (λ s. s.sight.form) c.self.view_is)
    (own_text c.self.inside.form _ c.deref.result.now _ _ c.self.invariant.0 works
    (c.deref.ensures.value ∙ c.in-Ok.ensures.items ∙ c.bytes.ensures))

pub invariant_of-self : goal.invariant_of-self
invariant_of-self g c =
    let p = c.self.inside.form in
    let text = g.L.LogStore.bytes c.self.inside.store in
    let old = c.args.self.now in
    let asked = c.deref.result.now in
    let same : asked ≡ text = c.deref.ensures.value ∙ c.in-Ok.ensures.items ∙ c.bytes.ensures in
    let form : c.self-2.inside.form ≡ p =
    ap (λ s. s.sight.form) c.self-2.view_is ∙ c.put.ensures.form ∙ sym (ap (λ s. s.sight.form) c.self.view_is)
    in
    let made : Rewritten old c.put.new.self (records_in p 0 (body asked)) =
    subst (λ f. Rewritten old c.put.new.self (records_in f 0 (body asked)))
    (sym (ap (λ s. s.sight.form) c.self.view_is)) c.in-Ok-put.ensures.ok in (
      c.self-2.invariant.0,
      c.self-2.invariant.1,
      trimmed_again p _ text _ asked _ _ _ _ c.self.inside.trimmed old c.put.new.self
          c.self-2.view_is form same made
          c.self.invariant.2,
    )

pub returns-in-Ok-put-clause-ok : goal.returns-in-Ok-put-clause-ok
returns-in-Ok-put-clause-ok g c =
    let asked = c.deref.result.now in
    let same : asked ≡ g.L.LogStore.bytes c.self.inside.store =
    c.deref.ensures.value ∙ c.in-Ok.ensures.items ∙ c.bytes.ensures in
    let stood : Rewritten c.args.self.now c.put.new.self (records_of c.args.self.now.sight.kept) =
    subst (Rewritten c.args.self.now c.put.new.self)
    (ap (λ s. records_in s.sight.form 0 (body asked)) (sym c.self.view_is)
    ∙ kept_is c.self.inside.form _ (body asked) _ _ _ _ _ c.self.view_is (ap body same))
    c.in-Ok-put.ensures.ok in
    subst (λ new. Rewritten c.args.self.now new (records_of c.args.self.now.sight.kept))
    (sym c.self-2.view_is) stood

pub returns-clause-err : goal.returns-clause-err
returns-clause-err g c =
    let asked = c.deref.result.now in
    let same : asked ≡ g.L.LogStore.bytes c.self.inside.store =
    c.deref.ensures.value ∙ c.in-Ok.ensures.items ∙ c.bytes.ensures in
    subst (λ ls. NotRewritten c.args.self.now c.put.new.self ls c.in-Err.error)
    (ap (λ s. records_in s.sight.form 0 (body asked)) (sym c.self.view_is)
    ∙ kept_is c.self.inside.form _ (body asked) _ _ _ _ _ c.self.view_is (ap body same)) c.in-Err.ensures.err
