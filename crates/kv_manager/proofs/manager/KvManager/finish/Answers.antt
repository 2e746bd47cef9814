use Rattle.std.proofs.Common.{rules, ◌≡◌, false, subst}
use Rattle.kv_state.specs.Ends.{IsDue, IsOff}
use Rattle.kv_manager.specs.Sights.{KvSight}
use Rattle.kv_manager.specs.Turns.{KvFinishes, Refused, Taken, KvTakes}
use Rattle.kv_manager.proofs.Keeping.{map_ok}
use Rattle.kv_manager.proofs.Turns.{due_turn, same_self}
use Rattle.kv_manager.proofs.manager.KvManager.finish.Goals as goal

pub take-requires : goal.take-requires
take-requires g c =
    let given = c.in-Ok.ensures.ok in
    let works : c.args.self.now.log.sight.failed ≡ false = search rules in
    let due : IsDue c.args.self.now.store c.args.verb c.args.xid.now c.args.flags.0 (given.0, c.in-Ok.turn) =
    subst (λ (v : KvSight). IsDue v.store c.args.verb c.args.xid.now c.args.flags.0 (given.0, c.in-Ok.turn))
    c.self.view_is given.1 in
    record {
      due = (
        given.0,
        due_turn c.args.self.now c.args.verb c.args.xid.now c.args.flags.0 given.0 c.in-Ok.turn
            works due,
      );
      stands = search rules;
      written = search rules;
    }

pub returns-in-Ok-clause-answer : goal.returns-in-Ok-clause-answer
returns-in-Ok-clause-answer g c =
    let given = c.in-Ok.ensures.ok in
    let works : c.args.self.now.log.sight.failed ≡ false = search rules in
    let due : IsDue c.args.self.now.store c.args.verb c.args.xid.now c.args.flags.0 (given.0, c.in-Ok.turn) =
    subst (λ (v : KvSight). IsDue v.store c.args.verb c.args.xid.now c.args.flags.0 (given.0, c.in-Ok.turn))
    c.self.view_is given.1 in
    map_ok (λ answer. KvTakes c.args.self.now c.take.new.self c.args.xid.now c.in-Ok.turn answer)
    (λ answer. KvFinishes c.args.self.now c.take.new.self c.args.verb c.args.xid.now c.args.flags.0 answer)
    c.take.result c.take.ensures.answer
    (λ answer taken. Taken works (given.0, c.in-Ok.turn) due taken)

pub returns-in-Err-clause-answer : goal.returns-in-Err-clause-answer
returns-in-Err-clause-answer g c =
    let works : c.args.self.now.log.sight.failed ≡ false = search rules in
    let off : IsOff c.self.inside.store c.args.verb c.args.xid.now c.args.flags.0
    c.in-Err.refusal = c.in-Err.ensures.err in
    Refused works (subst (λ (v : KvSight). IsOff v.store c.args.verb c.args.xid.now c.args.flags.0
    c.in-Err.refusal) c.self.view_is off) (same_self c.args.self.now)
