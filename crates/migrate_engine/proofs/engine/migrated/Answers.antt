use Rattle.std.proofs.Common.{◌∷◌, ◌∙◌, ◌+◌, ap, sym, arith, drop}
use Rattle.std.proofs.lemmas.List.{at_drop_more, drop_all}
use Rattle.log_rules.specs.order.Logs.{read_as}
use Rattle.log_script.specs.Faults.{damage_text, first_damage}
use Rattle.log_script.specs.Trees.{logs_text}
use Rattle.migrate_engine.specs.Migrations.{migrated_log}
use Rattle.migrate_engine.proofs.Migrated.{all_migrated, damaged_here, is_damage, logs_more, none_damaged, sound_more}
use Rattle.migrate_engine.proofs.engine.migrated.Goals as goal

pub returns : goal.returns
returns c =
    let end = drop_all c.loop-entry.entry-index c.args.entries.now
    (omega (arith, c.loop-entry-test.false)) in (
      sym c.loop-entry.invariant.1 ∙ ap (λ es. first_damage es c.args.logs.now) end
          ∙ none_damaged c.args.logs.now,
      c.in_ok-logs_text.ensures
          ∙ ap (logs_text c.args.entries.now) (c.deref.ensures.value
          ∙ sym (all_migrated c.loop-entry.new.items _ c.args.logs.now end)
          ∙ c.loop-entry.invariant.0),
    )

pub loop-entry-preserved : goal.loop-entry-preserved
loop-entry-preserved c =
    let e = c.entry-item.result in
    let rest = at_drop_more (λ xs. xs) c.args.entries.now c.loop-entry.entry-index e c.loop-entry-test.true
    ∙ ap (λ x. x ∷ drop (c.loop-entry.entry-index + 1) c.args.entries.now) (sym c.entry-item.is) in
    let made = c.in-Ok.ensures.ok in (
      logs_more c.loop-entry.new.items c.push.new.self.items _ e
          (drop (c.loop-entry.entry-index + 1) c.args.entries.now) _ c.args.logs.now c.in-Ok.log
          c.in_ok-push-in-Ok.ensures.items
          (made.log_is ∙ ap (migrated_log e) c.bytes_of.ensures) rest c.loop-entry.invariant.0,
      sym (ap (λ es. first_damage es c.args.logs.now) rest
          ∙ sound_more e (drop (c.loop-entry.entry-index + 1) c.args.entries.now) c.args.logs.now
          made.records made.torn (ap (read_as e.id e.kind) (sym c.bytes_of.ensures) ∙ made.read))
          ∙ c.loop-entry.invariant.1,
    )

pub returns-in-Err-Damaged : goal.returns-in-Err-Damaged
returns-in-Err-Damaged c =
    let e = c.entry-item.result in
    let rest = at_drop_more (λ xs. xs) c.args.entries.now c.loop-entry.entry-index e c.loop-entry-test.true
    ∙ ap (λ x. x ∷ drop (c.loop-entry.entry-index + 1) c.args.entries.now) (sym c.entry-item.is) in (
      e.id,
      c.in-Err-Damaged.place,
      sym c.loop-entry.invariant.1 ∙ ap (λ es. first_damage es c.args.logs.now) rest
          ∙ damaged_here e (drop (c.loop-entry.entry-index + 1) c.args.entries.now) c.args.logs.now
          c.in-Err-Damaged.place
          (ap (read_as e.id e.kind) (sym c.bytes_of.ensures)
          ∙ is_damage e c.bytes_of.result.now c.in-Err-Damaged.field-0 c.in-Err-Damaged.place
          c.in-Err-Damaged.ensures.err c.in-Err-Damaged.field-0-is),
      c.in_ok-damaged-in-Err-Damaged.ensures ∙ ap (λ n. damage_text e.id n) c.in-Err-Damaged.place-is,
    )
