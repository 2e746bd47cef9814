use Rattle.std.proofs.Common.{rules, ◌≡◌, None, sym, subst}
use Rattle.kv_state.specs.Ends.{TakesTurn}
use Rattle.kv_manager.specs.Sights.{KvSight}
use Rattle.kv_manager.specs.Turns.{IsDueTurn}
use Rattle.kv_manager.proofs.From.{silent_doubt}
use Rattle.kv_manager.proofs.Keeping.{kept_by}
use Rattle.kv_manager.proofs.Turns.{due_ends, silent_promises}
use Rattle.kv_manager.proofs.manager.KvManager.take.Goals as goal

pub invariant_of-self : goal.invariant_of-self
invariant_of-self g c =
    let s : KvSight = record {
      store = c.self.inside.store;
      log = c.self.inside.log;
      boot = c.self.inside.boot;
    } in
    let due : IsDueTurn s c.args.xid.now c.requires.due.0 c.args.turn =
    subst (λ v. IsDueTurn v c.args.xid.now c.requires.due.0 c.args.turn) (sym c.self.view_is)
    c.requires.due.1 in
    let silent : c.args.turn.entry ≡ None = search rules in
    let takes : TakesTurn s.store c.finish.new.self c.args.xid.now c.args.turn = search rules in
    kept_by s c.finish.new.self c.self.invariant (silent_promises s.store c.finish.new.self c.args.xid.now
    c.args.turn takes silent (due_ends s c.args.xid.now c.requires.due.0 c.args.turn due silent)
    (silent_doubt s c.args.xid.now c.requires.due.0 c.args.turn due silent))
