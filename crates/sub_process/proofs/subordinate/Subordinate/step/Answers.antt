use Rattle.std.proofs.Common.{◌≡◌, ap, true, false, refl, sym, subst, rules, IfOk, IfErr}
use Rattle.protocol.specs.declared.events.Input.{Input}
use Rattle.protocol_words.specs.Variants.{ActInput}
use Rattle.protocol.specs.declared.events.StepError.TheVariants.{Failed, NoSuch}
use Rattle.protocol.specs.Reactions.{act_is_listed}
use Rattle.process_state.specs.Inputs.{input_of}
use Rattle.process_state.specs.Turns.{Refuses}
use Rattle.process_state.specs.Makes.{ProcessMakes, NotMade}
use Rattle.sub_process.specs.Subordinates.{SubState, core_of, seen}
use Rattle.std.specs.Prelude.{OnOk}
use Rattle.sub_process.specs.Steps.{InputLeaves, data_answer}
use Rattle.sub_process.proofs.Joins.{stays}
use Rattle.sub_process.proofs.Steps.{act_err, act_kept, act_ok, act_writes, has_failed, hear_err, hear_kept, hear_ok, not_made, unlisted}
use Rattle.sub_process.proofs.subordinate.Subordinate.step.Goals as goal

pub returns-then-not-is_listed-clause-err : goal.returns-then-not-is_listed-clause-err
returns-then-not-is_listed-clause-err g c =
    let s : SubState = seen g.M.ResourceManager.sight c.args.self.now in
    let i : Input = input_of c.args.input in
    let unknown : act_is_listed s.tree i ≡ false = search rules in
    not_made s s (data_answer s i) i (Refuses NoSuch) NoSuch
    (unlisted s (data_answer s i) i unknown) (stays s, refl)

pub returns-then-failed-clause-err : goal.returns-then-failed-clause-err
returns-then-failed-clause-err g c =
    let s : SubState = seen g.M.ResourceManager.sight c.args.self.now in
    let i : Input = input_of c.args.input in
    let listed : act_is_listed s.tree i ≡ true = search rules in
    let failed : s.manager.log.failed ≡ true = search rules in
    not_made s s (data_answer s i) i (Refuses Failed) Failed
    (has_failed s (data_answer s i) i listed failed) (stays s, refl)

pub returns-in-Act-clause-ok : goal.returns-in-Act-clause-ok
returns-in-Act-clause-ok g c =
    let s : SubState = seen g.M.ResourceManager.sight c.args.self.now in
    let t : SubState = seen g.M.ResourceManager.sight c.act.new.self in
    let listed : act_is_listed s.tree (ActInput c.in-Act.act.now) ≡ true = search rules in
    let works : s.manager.log.failed ≡ false = search rules in
    subst (λ (i : Input). IfOk c.act.result (ProcessMakes (core_of s) (core_of t) (data_answer s i) i))
    (ap input_of (sym c.in-Act.is))
    (act_ok s t c.in-Act.act.now c.act.result listed works c.act.ensures.ok)

pub returns-in-Act-clause-writes : goal.returns-in-Act-clause-writes
returns-in-Act-clause-writes g c =
    let s : SubState = seen g.M.ResourceManager.sight c.args.self.now in
    let t : SubState = seen g.M.ResourceManager.sight c.act.new.self in
    subst (λ (i : Input). OnOk c.act.result (InputLeaves i s t)) (ap input_of (sym c.in-Act.is))
    (act_writes s t c.in-Act.act.now c.act.result c.act.ensures.ok)

pub returns-in-Act-clause-err : goal.returns-in-Act-clause-err
returns-in-Act-clause-err g c =
    let s : SubState = seen g.M.ResourceManager.sight c.args.self.now in
    let t : SubState = seen g.M.ResourceManager.sight c.act.new.self in
    let listed : act_is_listed s.tree (ActInput c.in-Act.act.now) ≡ true = search rules in
    let works : s.manager.log.failed ≡ false = search rules in
    subst (λ (i : Input). IfErr c.act.result (NotMade (core_of s) (core_of t) (data_answer s i) i))
    (ap input_of (sym c.in-Act.is))
    (act_err s t c.in-Act.act.now c.act.result listed works c.act.ensures.err)

pub returns-in-Message-clause-ok : goal.returns-in-Message-clause-ok
returns-in-Message-clause-ok g c =
    let s : SubState = seen g.M.ResourceManager.sight c.args.self.now in
    let t : SubState = seen g.M.ResourceManager.sight c.hear.new.self in
    let works : s.manager.log.failed ≡ false = search rules in
    subst (λ (i : Input). IfOk c.hear.result (ProcessMakes (core_of s) (core_of t) (data_answer s i) i))
    (ap input_of (sym c.in-Message.is))
    (hear_ok s t c.in-Message.field-0 c.in-Message.message.now c.hear.result works c.hear.ensures.ok)

pub returns-in-Message-clause-err : goal.returns-in-Message-clause-err
returns-in-Message-clause-err g c =
    let s : SubState = seen g.M.ResourceManager.sight c.args.self.now in
    let t : SubState = seen g.M.ResourceManager.sight c.hear.new.self in
    let works : s.manager.log.failed ≡ false = search rules in
    subst (λ (i : Input). IfErr c.hear.result
    (NotMade (core_of s) (core_of t) (data_answer s i) i)) (ap input_of (sym c.in-Message.is))
    (hear_err s t c.in-Message.field-0 c.in-Message.message.now c.hear.result works c.hear.ensures.err)

pub returns-in-Act-clause-kept : goal.returns-in-Act-clause-kept
returns-in-Act-clause-kept g c =
    act_kept (seen g.M.ResourceManager.sight c.args.self.now) (seen g.M.ResourceManager.sight c.act.new.self)
    c.in-Act.act.now c.act.result c.act.ensures.err

pub returns-in-Message-clause-kept : goal.returns-in-Message-clause-kept
returns-in-Message-clause-kept g c =
    hear_kept (seen g.M.ResourceManager.sight c.args.self.now)
    (seen g.M.ResourceManager.sight c.hear.new.self)
    c.in-Message.message.now c.hear.result c.hear.ensures.err
