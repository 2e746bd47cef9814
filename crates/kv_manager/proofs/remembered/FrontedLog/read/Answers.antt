use Rattle.std.proofs.Common.{◌≡◌, ◌∙◌, ◌++◌, [], ap, subst, sym}
use Rattle.std.proofs.lemmas.Result.{IfErr-weaker, IfOk-weaker}
use Rattle.log_records.specs.Sights.{left_by}
use Rattle.kv_state.specs.Remembered.{LeavesNow, RemembersData}
use Rattle.kv_state.specs.Replays.{ReplayFails}
use Rattle.kv_manager.specs.Remembered.{IsFrontOf}
use Rattle.kv_manager.specs.declared.remembered.Front.{Front}
use Rattle.kv_manager.proofs.Remembering.{header_front}
use Rattle.kv_manager.proofs.remembered.FrontedLog.read.Goals as goal

pub invariant_of-self : goal.invariant_of-self
invariant_of-self g c =
    header_front c.self.inside.log c.replace-size.new.dest
    (ap (λ (f : Front). f.size) c.replace-size.ensures.after ∙ c.header.ensures.size)
    (subst (λ (f : Front). RemembersData [] f.remembered) (sym c.replace-size.ensures.after)
    c.header.ensures.says)

pub invariant_of-self-2 : goal.invariant_of-self-2
invariant_of-self-2 g c =
    header_front c.self.inside.log c.replace-size.new.dest
    (ap (λ (f : Front). f.size) c.replace-size.ensures.after ∙ c.header.ensures.size)
    (subst (λ (f : Front). RemembersData [] f.remembered) (sym c.replace-size.ensures.after)
    c.header.ensures.says)

pub read_on-requires : goal.read_on-requires
read_on-requires g c =
    let front : IsFrontOf c.self.inside.log c.replace-size.result =
    subst (IsFrontOf c.self.inside.log) (sym c.replace-size.ensures.value) c.self.invariant in
    (front.first, front.says)

pub returns-clause-leaves : goal.returns-clause-leaves
returns-clause-leaves g c =
    let front : IsFrontOf c.self.inside.log c.replace-size.result =
    subst (IsFrontOf c.self.inside.log) (sym c.replace-size.ensures.value) c.self.invariant in
    let left : front.first ++ c.in_ok-records.records.items ≡ left_by c.self.inside.log.sight c.args.keep =
    c.in_ok-records.ensures {u = tt} front.first front.stands in
    IfOk-weaker c.read_on.result _ (λ r. LeavesNow (left_by c.args.self.now.sight c.args.keep) r.0)
    (λ r leaves. subst (λ l. LeavesNow (left_by l.sight c.args.keep) r.0) c.self.view_is
    (subst (λ ls. LeavesNow ls r.0) left (leaves front.first front.says))) c.read_on.ensures.leaves

pub returns-clause-remembered : goal.returns-clause-remembered
returns-clause-remembered g c =
    let front : IsFrontOf c.self.inside.log c.replace-size.result =
    subst (IsFrontOf c.self.inside.log) (sym c.replace-size.ensures.value) c.self.invariant in
    let left : front.first ++ c.in_ok-records.records.items ≡ left_by c.self.inside.log.sight c.args.keep =
    c.in_ok-records.ensures {u = tt} front.first front.stands in
    IfOk-weaker c.read_on.result _ (λ r. RemembersData (left_by c.args.self.now.sight c.args.keep) r.1)
    (λ r is. subst (λ l. RemembersData (left_by l.sight c.args.keep) r.1) c.self.view_is
    (subst (λ ls. RemembersData ls r.1) left (is front.first front.says))) c.read_on.ensures.remembers

pub returns-clause-err : goal.returns-clause-err
returns-clause-err g c =
    let front : IsFrontOf c.self.inside.log c.replace-size.result =
    subst (IsFrontOf c.self.inside.log) (sym c.replace-size.ensures.value) c.self.invariant in
    let left : front.first ++ c.in_ok-records.records.items ≡ left_by c.self.inside.log.sight c.args.keep =
    c.in_ok-records.ensures {u = tt} front.first front.stands in
    IfErr-weaker c.read_on.result _ (ReplayFails (left_by c.args.self.now.sight c.args.keep))
    (λ e why. subst (λ l. ReplayFails (left_by l.sight c.args.keep) e) c.self.view_is
    (subst (λ ls. ReplayFails ls e) left (why front.first front.says))) c.read_on.ensures.err
