use Rattle.std.proofs.Common.{◌≡◌, ◌∙◌, ◌+◌, ap, sym, arith}
use Rattle.protocol.specs.declared.events.JournalEntry.{JournalEntry}
use Rattle.picture_run.specs.Sums.{is_restart}
use Rattle.picture_run.proofs.Counting.{no_crash, one_crash}
use Rattle.picture_run.proofs.page.crashes_of.Goals as goal
use Rattle.picture_run.proofs.page.crashes_of.Goals.{then-is_restart, else-is_restart}

pub loop-entry-preserved : goal.loop-entry-preserved
loop-entry-preserved c =
    let at = sym (ap (λ (e : JournalEntry). is_restart e.step.happening) c.entry-item.is)
    ∙ sym c.is_restart.ensures in
    elim c.if-is_restart.branch [
      | then-is_restart w ↦
          let next : c.if-is_restart.crashes ≡ c.loop-entry.crashes + 1 =
          omega (
            arith,
            w.crashes-is,
            w.saturating_add-crashes.ensures,
            c.loop-entry.invariant.few,
            c.loop-entry-test.true,
          ) in
          record {
            counted = one_crash c.args.entries.now c.loop-entry.entry-index c.loop-entry.crashes
                c.if-is_restart.crashes
                c.entry-item.result c.loop-entry-test.true (at ∙ w.if-is_restart.true)
                c.loop-entry.invariant.counted next;
            few = omega (arith, next, c.loop-entry.invariant.few);
          }
      | else-is_restart w ↦
          record {
            counted = w.crashes-is ∙ no_crash c.args.entries.now c.loop-entry.entry-index c.loop-entry.crashes
                c.entry-item.result c.loop-entry-test.true (at ∙ w.if-is_restart.false)
                c.loop-entry.invariant.counted;
            few = omega (arith, w.crashes-is, c.loop-entry.invariant.few);
          }
    ]
