use Rattle.std.proofs.Common.{◌∙◌, ◌∷◌, ◌+◌, ap, sym, subst, refl, arith, drop}
use Rattle.std.proofs.lemmas.List.{at_drop_more, drop_all}
use Rattle.log_script.specs.Logs.{bytes_of}
use Rattle.log_script.specs.Faults.{first_damage}
use Rattle.audit_tree.specs.Tables.{IsDamage, NotesLog}
use Rattle.audit_tree.proofs.Passes.{first_damaged, none_damaged, none_noted, noted_all_of, noted_next, sound_more}
use Rattle.audit_tree.proofs.logs.all_notes.Goals as goal

pub loop-entry-init : goal.loop-entry-init
loop-entry-init c = (refl, none_noted c.args.tree.now c.args.logs.now _)

pub returns-in-Err-clause-err : goal.returns-in-Err-clause-err
returns-in-Err-clause-err c =
    let es = c.entries-entries.result.now in
    let e = c.entry-item.result in
    let rest = at_drop_more (λ xs. xs) es c.loop-entry.entry-index e c.loop-entry-test.true
    ∙ ap (λ x. x ∷ drop (c.loop-entry.entry-index + 1) es) (sym c.entry-item.is) in
    first_damaged c.args.tree.now c.args.logs.now e (drop (c.loop-entry.entry-index + 1) es) _ c.in-Err.error
    (subst (λ bytes. IsDamage e bytes c.in-Err.error) c.bytes_of.ensures c.in-Err.ensures.err) rest
    (c.loop-entry.invariant.0 ∙ ap (λ xs. first_damage xs c.args.logs.now) c.entries-entries.ensures)

pub loop-entry-preserved : goal.loop-entry-preserved
loop-entry-preserved c =
    let es = c.entries-entries.result.now in
    let e = c.entry-item.result in
    let rest = at_drop_more (λ xs. xs) es c.loop-entry.entry-index e c.loop-entry-test.true
    ∙ ap (λ x. x ∷ drop (c.loop-entry.entry-index + 1) es) (sym c.entry-item.is) in
    let noted : NotesLog c.args.tree.now e (bytes_of c.args.logs.now e.id) c.in-Ok.new =
    subst (λ bytes. NotesLog c.args.tree.now e bytes c.in-Ok.new) c.bytes_of.ensures c.in-Ok.ensures.ok in (
      sym (ap (λ xs. first_damage xs c.args.logs.now) rest
          ∙ sound_more e (drop (c.loop-entry.entry-index + 1) es) c.args.logs.now
          noted.records noted.torn noted.read)
          ∙ c.loop-entry.invariant.0,
      noted_next c.args.tree.now c.args.logs.now c.requires es
          c.loop-entry.entry-index c.loop-entry.notes.entries
          c.put.new.notes.entries e c.in-Ok.new c.entries-entries.ensures
          c.loop-entry-test.true c.entry-item.is noted
          c.in_ok-put-in-Ok.ensures c.loop-entry.invariant.1,
    )

pub returns-clause-sound : goal.returns-clause-sound
returns-clause-sound c =
    let end = drop_all c.loop-entry.entry-index c.entries-entries.result.now
    (omega (arith, c.loop-entry-test.false)) in
    ap (λ es. first_damage es c.args.logs.now) (sym c.entries-entries.ensures)
    ∙ sym c.loop-entry.invariant.0
    ∙ ap (λ es. first_damage es c.args.logs.now) end
    ∙ none_damaged c.args.logs.now

pub returns-clause-ok : goal.returns-clause-ok
returns-clause-ok c =
    noted_all_of c.args.tree.now c.args.logs.now c.requires
    c.entries-entries.result.now c.loop-entry.entry-index _
    c.entries-entries.ensures (omega (arith, c.loop-entry-test.false)) c.loop-entry.invariant.1
