use Rattle.std.proofs.Common.{◌≡◌, ◌∙◌, ◌++◌, ap, drop, subst, sym}
use Rattle.std.specs.Int.{w8}
use Rattle.std.specs.List.{AllByRecursion}
use Rattle.std.proofs.Math.Facts.{Fits-lt-pow}
use Rattle.std.proofs.lemmas.List.Elements.{All-from_recursion}
use Rattle.log_text.specs.declared.form.LogForm.{LogForm}
use Rattle.log_text.specs.Forms.{old_form}
use Rattle.log_text.specs.Payloads.{FitsFrame, records_text}
use Rattle.log_rules.specs.sound.Sound.{IsSound}
use Rattle.log_rules.proofs.sound.Cuts.{bytes_behind}
use Rattle.log_records.specs.Openings.{IsLogFound}
use Rattle.log_records.specs.Texts.{records_in}
use Rattle.log_records.proofs.SoundRecords.{sound_in}
use Rattle.log_records.proofs.Carrying.{all_fit, carries, found_whole, old_long}
use Rattle.log_records.proofs.migrating.carried_text.Goals as goal

pub body-requires : goal.body-requires
body-requires c = old_long c.args.bytes.now c.requires.old

pub push_records-requires-clause-fit : goal.push_records-requires-clause-fit
push_records-requires-clause-fit c =
    let are : c.deref.result.now ≡ records_in (old_form c.args.form) 0 (drop 5 c.args.bytes.now) =
    c.deref.ensures.value ∙ c.in_ok-records.ensures
    ∙ (λ i. records_in (c.old-2.ensures i) 0 (c.body.ensures i)) in
    let sound : AllByRecursion (IsSound c.args.form.kind) c.deref.result.now =
    subst (AllByRecursion (IsSound c.args.form.kind)) (sym are)
    (sound_in (old_form c.args.form) 0 (drop 5 c.args.bytes.now)
    (bytes_behind 5 c.args.bytes.now (λ k. Fits-lt-pow {w = w8} (c.type_inv.bytes k)))) in
    All-from_recursion FitsFrame c.deref.result.now (all_fit c.args.form.kind c.deref.result.now sound)

pub returns-clause-ok : goal.returns-clause-ok
returns-clause-ok c =
    let are : c.deref.result.now ≡ records_in (old_form c.args.form) 0 (drop 5 c.args.bytes.now) =
    c.deref.ensures.value ∙ c.in_ok-records.ensures
    ∙ (λ i. records_in (c.old-2.ensures i) 0 (c.body.ensures i)) in
    let sound : AllByRecursion (IsSound c.args.form.kind) c.deref.result.now =
    subst (AllByRecursion (IsSound c.args.form.kind)) (sym are)
    (sound_in (old_form c.args.form) 0 (drop 5 c.args.bytes.now)
    (bytes_behind 5 c.args.bytes.now (λ k. Fits-lt-pow {w = w8} (c.type_inv.bytes k)))) in
    let found : IsLogFound (old_form c.args.form) c.args.bytes.now c.in_ok-find.field-0 =
    subst (λ (f : LogForm). IsLogFound f c.args.bytes.now c.in_ok-find.field-0) c.old.ensures
    c.in_ok-find.ensures.ok in
    let whole = found_whole (old_form c.args.form) c.args.bytes.now c.in_ok-find.field-0
    (old_long c.args.bytes.now c.requires.old) found in
    carries c.args.form c.args.bytes.now c.push_records.new.text.items c.deref.result.now
    whole.1 whole.2 whole.0
    whole.3 are sound
    (c.in_ok-push_records.ensures
    ∙ ap (λ t. t ++ records_text c.args.form c.deref.result.now)
    (c.in_ok-text.ensures.items ∙ c.header.ensures))
