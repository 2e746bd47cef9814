use Rattle.std.proofs.Common.{rules, ◌≡◌, ◌≤◌, ◌∙◌, false, IfErr, OnOk, refl, sym, ap, subst}
use Rattle.xa_tables.specs.declared.call.Call.TheVariants.{Commit}
use Rattle.xa_tables.specs.declared.states.BranchState.TheVariants.{S3}
use Rattle.xa_assoc.specs.Answers.{state_at}
use Rattle.resource_manager.specs.Deciding.{ManagerDecides, ManagerNotDecided}
use Rattle.xa_codes.specs.Codes.{is_own}
use Rattle.kv_state.specs.Stores.{state_of}
use Rattle.kv_state.specs.Ends.{Reserves}
use Rattle.kv_manager.specs.Resources.{IsRefusal, sight_of}
use Rattle.kv_manager.specs.Sights.{KvSight}
use Rattle.kv_manager.specs.Turns.{IsDueTurn, KvTakes}
use Rattle.kv_manager.proofs.Deciding.{can_decide, map_err, map_on, was_decided, was_not}
use Rattle.kv_manager.proofs.manager.KvManager.decide.Goals as goal

pub take-requires : goal.take-requires
take-requires g c =
    let s : KvSight = record {
      store = c.self.inside.store;
      log = c.self.inside.log;
      boot = c.self.inside.boot;
    } in
    let mid : KvSight = record {
      store = c.reserve_decision.new.self;
      log = c.self.inside.log;
      boot = c.self.inside.boot;
    } in
    let works : c.args.self.now.log.sight.failed ≡ false = search rules in
    let here : state_of c.args.self.now.store c.args.xid.now ≡ S3 = search rules in
    let stays : Reserves s.store mid.store = search rules in
    let room : 1 ≤ mid.store.decisions.room = search rules in
    record {
      due = (
        Commit,
        subst (IsDueTurn mid c.args.xid.now Commit) (sym c.decide.ensures)
            (can_decide mid c.args.xid.now c.args.outcome
            (ap (λ (v : KvSight). v.log.sight.failed) c.self.view_is ∙ works)
            (ap (λ t. state_at t c.args.xid.now) stays.tables
            ∙ ap (λ (v : KvSight). state_of v.store c.args.xid.now) c.self.view_is ∙ here) room),
      );
      stands = search rules;
      written = search rules;
    }

pub returns-clause-ok : goal.returns-clause-ok
returns-clause-ok g c =
    let s : KvSight = record {
      store = c.self.inside.store;
      log = c.self.inside.log;
      boot = c.self.inside.boot;
    } in
    let mid : KvSight = record {
      store = c.reserve_decision.new.self;
      log = c.self.inside.log;
      boot = c.self.inside.boot;
    } in
    let works : c.args.self.now.log.sight.failed ≡ false = search rules in
    let here : state_of c.args.self.now.store c.args.xid.now ≡ S3 = search rules in
    let stays : Reserves s.store mid.store = search rules in
    let taken : KvTakes mid c.take.new.self c.args.xid.now c.decide.result
    c.in_ok-answer.answer = search rules in
    subst (λ (v : KvSight). OnOk c.decided.result
    (ManagerDecides (sight_of v) (sight_of c.take.new.self) c.args.xid.now c.args.outcome)) c.self.view_is
    (map_on (is_own c.in_ok-answer.answer ≡ false)
    (ManagerDecides (sight_of s) (sight_of c.take.new.self) c.args.xid.now c.args.outcome) c.decided.result
    (was_decided s mid c.take.new.self c.args.xid.now c.args.outcome
    (ap (λ (v : KvSight). v.log.sight.failed) c.self.view_is ∙ works)
    (ap (λ (v : KvSight). state_of v.store c.args.xid.now) c.self.view_is ∙ here) stays
    refl refl c.in_ok-answer.answer
    (subst (λ t. KvTakes mid c.take.new.self c.args.xid.now t c.in_ok-answer.answer) c.decide.ensures taken))
    c.decided.ensures.ok)

pub returns-clause-err : goal.returns-clause-err
returns-clause-err g c =
    let s : KvSight = record {
      store = c.self.inside.store;
      log = c.self.inside.log;
      boot = c.self.inside.boot;
    } in
    let mid : KvSight = record {
      store = c.reserve_decision.new.self;
      log = c.self.inside.log;
      boot = c.self.inside.boot;
    } in
    let works : c.args.self.now.log.sight.failed ≡ false = search rules in
    let here : state_of c.args.self.now.store c.args.xid.now ≡ S3 = search rules in
    let stays : Reserves s.store mid.store = search rules in
    let taken : KvTakes mid c.take.new.self c.args.xid.now c.decide.result
    c.in_ok-answer.answer = search rules in
    subst (λ (v : KvSight). IfErr c.decided.result
    (ManagerNotDecided (sight_of v) (sight_of c.take.new.self) c.args.xid.now c.args.outcome)) c.self.view_is
    (map_err (IsRefusal c.in_ok-answer.answer)
    (ManagerNotDecided (sight_of s) (sight_of c.take.new.self) c.args.xid.now c.args.outcome) c.decided.result
    (was_not s mid c.take.new.self c.args.xid.now c.args.outcome
    (ap (λ (v : KvSight). v.log.sight.failed) c.self.view_is ∙ works)
    (ap (λ (v : KvSight). state_of v.store c.args.xid.now) c.self.view_is ∙ here) stays
    refl refl c.in_ok-answer.answer
    (subst (λ t. KvTakes mid c.take.new.self c.args.xid.now t c.in_ok-answer.answer) c.decide.ensures taken))
    c.decided.ensures.err)
