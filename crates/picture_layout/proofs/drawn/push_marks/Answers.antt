use Rattle.std.proofs.Common.{◌∙◌, ◌+◌, ◌++◌, ap, arith, drop, map, rules, refl}
use Rattle.std.proofs.lemmas.Grind.{common_steps}
use Rattle.std.proofs.lemmas.List.{get_or_default}
use Rattle.picture_layout.specs.Ways.{spot_of, spots_from}
use Rattle.picture_layout.proofs.Ways.{marks_end, marks_more}
use Rattle.picture_layout.proofs.drawn.push_marks.Goals as goal

pub loop-logged-preserved : goal.loop-logged-preserved
loop-logged-preserved c =
    let ws = c.args.written.now in
    let i = c.loop-logged.logged-index in
    let there = c.loop-logged-test.true in
    record {
      logged = grind (arith, common_steps);
      spots = ap (λ r. map spot_of c.push.new.self.items ++ spots_from c.args.place r (drop (i + 1) ws))
          c.saturating_add-row.ensures
          ∙ marks_more c.args.place c.loop-logged.row ws i _ c.loop-logged.marks.items
          c.push.new.self.items _ there
          (get_or_default ws i _ _ there) c.in_ok-push.ensures.items refl ∙ c.loop-logged.invariant.spots;
    }

pub returns-clause-spots : goal.returns-clause-spots
returns-clause-spots c =
    marks_end c.args.place c.loop-logged.row c.args.written.now c.loop-logged.logged-index
    (map spot_of c.loop-logged.marks.items)
    (map spot_of c.args.marks.now.items ++ spots_from c.args.place c.args.row c.args.written.now)
    (search rules)
    c.loop-logged.invariant.spots
