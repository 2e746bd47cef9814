use Rattle.std.proofs.Common.{◌∷◌, ◌∙◌, ◌++◌, ◌+◌, ap, sym, arith, drop, append-nil}
use Rattle.std.proofs.lemmas.List.{at_drop_more, drop_all}
use Rattle.log_text.specs.Forms.{form_in}
use Rattle.log_rules.specs.order.Logs.{read_as, read_log}
use Rattle.log_lines.specs.Held.{held_text}
use Rattle.audit_engine.specs.logs.Reports.{shown_text}
use Rattle.log_script.specs.Faults.{damage_text, first_damage}
use Rattle.audit_engine.proofs.logs.Shown.{damaged_here, no_log, none_damaged, shown_none, sound_found, sound_more, text_more}
use Rattle.audit_engine.proofs.logs.engine.shown.Goals as goal

pub returns : goal.returns
returns c =
    let end = drop_all c.loop-entry.entry-index c.args.entries.now
    (omega (arith, c.loop-entry-test.false)) in (
      sym c.loop-entry.invariant.1 ∙ ap (λ es. first_damage es c.args.logs.now) end
          ∙ none_damaged c.args.logs.now,
      sym (append-nil c.loop-entry.out.items)
          ∙ sym (ap (λ t. c.loop-entry.out.items ++ t)
          (ap (λ es. shown_text es c.args.logs.now) end ∙ shown_none c.args.logs.now))
          ∙ c.loop-entry.invariant.0,
    )

pub loop-entry-preserved : goal.loop-entry-preserved
loop-entry-preserved c =
    let e = c.entry-item.result in
    let rest = at_drop_more (λ xs. xs) c.args.entries.now c.loop-entry.entry-index e c.loop-entry-test.true
    ∙ ap (λ x. x ∷ drop (c.loop-entry.entry-index + 1) c.args.entries.now) (sym c.entry-item.is) in
    let found = sound_found c.of_bytes-form.result c.bytes_of-bytes.result.now c.in-Ok.found
    c.in-Ok.ensures.ok in (
      text_more c.loop-entry.out.items c.push_held.new.out.items _ e
          (drop (c.loop-entry.entry-index + 1) c.args.entries.now) _ c.args.logs.now
          (c.in_ok-push_held-in-Ok.ensures
          ∙ ap (λ f. c.loop-entry.out.items ++ held_text f c.bytes_of-bytes.result.now)
          c.of_bytes-form.ensures
          ∙ ap (λ t. c.loop-entry.out.items ++ held_text (form_in t e.id e.kind) t) c.bytes_of-bytes.ensures)
          rest
          c.loop-entry.invariant.0,
      sym (ap (λ es. first_damage es c.args.logs.now) rest
          ∙ sound_more e (drop (c.loop-entry.entry-index + 1) c.args.entries.now) c.args.logs.now found.0
          found.1
          (ap (λ t. read_as e.id e.kind t) (sym c.bytes_of-bytes.ensures)
          ∙ ap (λ f. read_log f c.bytes_of-bytes.result.now) (sym c.of_bytes-form.ensures) ∙ found.2))
          ∙ c.loop-entry.invariant.1,
    )

pub returns-in-Err-Damaged : goal.returns-in-Err-Damaged
returns-in-Err-Damaged c =
    let e = c.entry-item.result in
    let rest = at_drop_more (λ xs. xs) c.args.entries.now c.loop-entry.entry-index e c.loop-entry-test.true
    ∙ ap (λ x. x ∷ drop (c.loop-entry.entry-index + 1) c.args.entries.now) (sym c.entry-item.is) in
    let is = no_log c.of_bytes-form.result c.bytes_of-bytes.result.now c.in-Err-Damaged.field-0
    c.in-Err-Damaged.place
    c.in-Err-Damaged.ensures.err c.in-Err-Damaged.field-0-is in (
      e.id,
      c.in-Err-Damaged.place,
      sym c.loop-entry.invariant.1 ∙ ap (λ es. first_damage es c.args.logs.now) rest
          ∙ damaged_here e (drop (c.loop-entry.entry-index + 1) c.args.entries.now) c.args.logs.now
          c.in-Err-Damaged.place
          (ap (λ t. read_as e.id e.kind t) (sym c.bytes_of-bytes.ensures)
          ∙ ap (λ f. read_log f c.bytes_of-bytes.result.now) (sym c.of_bytes-form.ensures) ∙ is),
      c.in_ok-damaged-in-Err-Damaged.ensures ∙ ap (λ n. damage_text e.id n) c.in-Err-Damaged.place-is,
    )
