use Rattle.std.proofs.Common.{◌≡◌, ◌∙◌, ◌++◌, ◌≤◌, ap, arith, length, map, replicate, subst, sym, take, []}
use Rattle.std.proofs.lemmas.Grind.{common_steps}
use Rattle.std.proofs.lemmas.List.{length-take-le, map-append}
use Rattle.picture_layout.specs.declared.fates.Fate.{Fate}
use Rattle.picture_layout.specs.Fates.{HeardFrom, unheard}
use Rattle.picture_layout.proofs.Hearing.{each_more, none_heard, sent_all}
use Rattle.picture_layout.proofs.Ways.{all_fates, fates_more, no_senders}
use Rattle.picture_layout.proofs.fates.fates_of.Goals as goal

pub loop-step-init : goal.loop-step-init
loop-step-init c = record {
  sent = ap (λ fs. map (λ (f : Fate). f.sent) fs) c.new-fates.ensures.items ∙ no_senders;
  heard = subst (λ fs. HeardFrom 1 [] fs) (sym c.new-fates.ensures.items) none_heard;
}

pub loop-step-preserved : goal.loop-step-preserved
loop-step-preserved c =
    let es = c.args.entries.now in
    let k = c.loop-step.step in
    let e = c.index-entries-step.result in
    let there = c.loop-step-test.true in
    let at = c.index-entries-step.is in
    let heard = c.hear_step.new.fates.items in
    let within : k ≤ length es = omega (arith, there) in
    let taken : length (take k es) ≡ k = length-take-le k es within in
    let sent = ap (λ fs. map (λ (f : Fate). f.sent) fs) c.in_ok-send.ensures
    ∙ map-append (λ (f : Fate). f.sent) heard (replicate c.len.result (unheard k))
    ∙ ap (λ ns. map (λ (f : Fate). f.sent) heard ++ ns) (sent_all c.len.result k)
    ∙ ap (λ n. map (λ (f : Fate). f.sent) heard ++ replicate n k) c.len.ensures in
    record {
      sent = fates_more es k e c.loop-step.fates.items heard c.send.new.fates.items there at
          c.loop-step.invariant.sent
          c.hear_step.ensures.sent sent;
      heard = each_more es k c.len.result e heard c.send.new.fates.items there at
          (c.hear_step.ensures.heard (take k es) taken c.loop-step.invariant.heard) c.in_ok-send.ensures;
    }

pub returns-clause-all : goal.returns-clause-all
returns-clause-all c =
    all_fates c.args.entries.now c.loop-step.fates.items
    (grind (arith, common_steps, c.loop-step.invariant.sent))

pub returns-clause-each : goal.returns-clause-each
returns-clause-each c = record {
  sent = grind (arith, common_steps, c.loop-step.invariant.sent);
  heard = grind (arith, common_steps, c.loop-step.invariant.heard);
}
