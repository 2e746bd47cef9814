use Rattle.std.proofs.Common.{rules, ◌≡◌, subst, sym}
use Rattle.protocol.specs.declared.events.Act.{Act}
use Rattle.protocol.specs.declared.events.Act.TheVariants.{Decide}
use Rattle.protocol_words.specs.Variants.{ActInput}
use Rattle.coord_process.specs.Meets.{MeetsAct}
use Rattle.coord_process.proofs.coordinator.Coordinator.meet_act.Goals as goal

pub returns-in-Decide : goal.returns-in-Decide
returns-in-Decide g c =
    let is : c.args.act.now ≡ Decide c.in-Decide.case c.in-Decide.field-1 = search rules in
    subst (λ (a : Act). MeetsAct c.args.self.now a c.meet_operator.result) (sym is) (record {
      is = c.meet_operator.ensures.is;
      may = c.meet_operator.ensures.may (ActInput (Decide c.in-Decide.case c.in-Decide.field-1));
    })
