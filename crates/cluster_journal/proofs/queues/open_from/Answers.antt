use Rattle.std.proofs.Common.{◌≡◌, ◌<◌, ◌≤◌, arith, false, get_or, length, subst, sym, ◌∙◌}
use Rattle.std.proofs.lemmas.Option.{slice_get-get_or}
use Rattle.cluster_journal.specs.Marks.{IsNextTo, is_open_to}
use Rattle.cluster_journal.specs.declared.marks.Delivery.TheVariants.{Open}
use Rattle.cluster_journal.specs.declared.marks.MarkedMessage.{MarkedMessage}
use Rattle.cluster_journal.proofs.Chains.{IsReached, fewer, left, passes, within}
use Rattle.cluster_journal.proofs.queues.open_from.Goals as goal
use Rattle.cluster_journal.proofs.queues.open_from.Goals.{else-lowest-place-via-then-lowest-place+else-is_open_to, else-lowest-place-via-else-lowest-place}

pub loop-next-smaller : goal.loop-next-smaller
loop-next-smaller c =
    let ms = c.args.marks.now in
    let p = c.in-Some.place in
    let at = subst (λ o. IsReached c.args.to ms c.args.lowest o) c.in-Some.is c.loop-next.invariant in
    let lt = within c.args.to ms p at.0 in
    let d : MarkedMessage = record { to = c.args.to; mark = Open } in
    subst (λ o. left (length ms) c.index.result.now.next < left (length ms) o) (sym c.in-Some.is)
    (fewer (get_or ms p d).to ms p c.index.result.now.next lt
    (subst (λ l. IsNextTo (get_or ms p d).to ms p l.next) (sym c.index.ensures)
    (c.requires.queued.linked p d _ lt).next))

pub loop-next-preserved : goal.loop-next-preserved
loop-next-preserved c =
    let ms = c.args.marks.now in
    let p = c.in-Some.place in
    let at = subst (λ o. IsReached c.args.to ms c.args.lowest o) c.in-Some.is c.loop-next.invariant in
    let lt = within c.args.to ms p at.0 in
    let d : MarkedMessage = record { to = record { 0 = 0 }; mark = Open } in
    let closed : c.args.lowest ≤ p → is_open_to c.args.to (get_or ms p d) ≡ false =
    elim c.else-lowest-place.branch [
      | else-lowest-place-via-then-lowest-place+else-is_open_to w ↦ λ low. sym w.is_open_to.ensures
          ∙ w.if-is_open_to.false
      | else-lowest-place-via-else-lowest-place w ↦ λ low.
          absurd (let not_so = w.if-lowest-place.false in omega (arith, low, not_so))
    ] in
    passes c.args.to ms c.args.lowest p (get_or ms p d) c.index.result.now.next (slice_get-get_or ms p d lt)
    at.0 at.1 closed
    (subst (λ l. IsNextTo (get_or ms p d).to ms p l.next) (sym c.index.ensures)
    (c.requires.queued.linked p d _ lt).next)
