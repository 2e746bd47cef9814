use Rattle.std.proofs.Common.{rules, ◌≡◌, ◌∷◌, ◌∙◌, [], true, false, refl, sym, subst}
use Rattle.log_records.specs.Sights.{Breaks}
use Rattle.kv_calls.specs.Turns.{entry_record}
use Rattle.kv_store.specs.writes.Writes.{writes_of}
use Rattle.log_writing.specs.Writes.{WritesRecord}
use Rattle.kv_state.specs.Ends.{TakesTurn}
use Rattle.kv_manager.specs.Sights.{KvSight}
use Rattle.kv_manager.specs.Turns.{Broke, OnlyRoom}
use Rattle.kv_manager.proofs.Ordered.{record_follows}
use Rattle.kv_manager.proofs.Turns.{due_has, due_same, fails_by, kept_broken, kept_noted}
use Rattle.kv_manager.proofs.manager.KvManager.take_noted.Goals as goal

pub frame-requires-clause-some : goal.frame-requires-clause-some
frame-requires-clause-some g c = due_has c.args.self.now c.args.xid.now c.requires.due.0
    c.args.turn c.args.entry
    c.requires.due.1 c.requires.entry

pub finish-requires-clause-turn : goal.finish-requires-clause-turn
finish-requires-clause-turn g c =
    let s : KvSight = record {
      store = c.self.inside.store;
      log = c.self.inside.log;
      boot = c.self.inside.boot;
    } in
    let room : OnlyRoom c.args.self.now s = subst (OnlyRoom c.args.self.now)
    (sym c.self.view_is) c.frame.ensures.stays in (
      c.requires.due.0,
      (due_same c.args.self.now s c.args.xid.now c.requires.due.0 c.args.turn room c.requires.due.1).due,
    )

pub invariant_of-self : goal.invariant_of-self
invariant_of-self g c =
    let s : KvSight = record {
      store = c.self.inside.store;
      log = c.self.inside.log;
      boot = c.self.inside.boot;
    } in
    let room : OnlyRoom c.args.self.now s = subst (OnlyRoom c.args.self.now)
    (sym c.self.view_is) c.frame.ensures.stays in
    let takes : TakesTurn s.store c.finish.new.self c.args.xid.now c.args.turn = search rules in
    let made : WritesRecord s.log c.write.new.self (entry_record c.args.entry c.args.xid.now
    (writes_of s.store.writes c.args.xid.now)) c.args.turn.is_forced = search rules in
    kept_noted s _ c.args.xid.now c.requires.due.0 c.args.turn c.args.entry c.self.invariant
    (record_follows s c.args.xid.now c.requires.due.0 c.args.turn c.args.entry c.self.invariant
    c.is_tidy.ensures.tidy c.is_tidy.ensures.limits c.is_tidy.ensures.few
    (due_same c.args.self.now s c.args.xid.now c.requires.due.0 c.args.turn room c.requires.due.1)
    c.requires.entry (λ commits. absurd (let never : true ≡ false = sym commits ∙ c.requires.data in cc)))
    (due_same c.args.self.now s c.args.xid.now c.requires.due.0 c.args.turn room c.requires.due.1)
    c.requires.entry c.requires.data takes made

pub returns-clause-answer : goal.returns-clause-answer
returns-clause-answer g c =
    let s : KvSight = record {
      store = c.self.inside.store;
      log = c.self.inside.log;
      boot = c.self.inside.boot;
    } in
    let room : OnlyRoom c.args.self.now s = subst (OnlyRoom c.args.self.now)
    (sym c.self.view_is) c.frame.ensures.stays in
    let broke : Breaks s.log c.write.new.self (entry_record c.args.entry c.args.xid.now
    (writes_of s.store.writes c.args.xid.now) ∷ []) = search rules in
    Broke refl (fails_by c.args.self.now s _ c.args.xid.now c.args.turn c.args.entry room c.requires.entry
    broke refl refl refl refl refl)

pub invariant_of-self-in-Err : goal.invariant_of-self-in-Err
invariant_of-self-in-Err g c =
    let s : KvSight = record {
      store = c.self.inside.store;
      log = c.self.inside.log;
      boot = c.self.inside.boot;
    } in
    let broken : KvSight = record {
      store = c.self.inside.store;
      log = c.write.new.self;
      boot = c.self.inside.boot;
    } in
    let room : OnlyRoom c.args.self.now s = subst (OnlyRoom c.args.self.now)
    (sym c.self.view_is) c.frame.ensures.stays in
    let broke : Breaks s.log c.write.new.self (entry_record c.args.entry c.args.xid.now
    (writes_of s.store.writes c.args.xid.now) ∷ []) = search rules in
    kept_broken s broken (entry_record c.args.entry c.args.xid.now
    (writes_of s.store.writes c.args.xid.now) ∷ []) c.self.invariant
    (record_follows s c.args.xid.now c.requires.due.0 c.args.turn c.args.entry c.self.invariant
    c.is_tidy.ensures.tidy c.is_tidy.ensures.limits c.is_tidy.ensures.few
    (due_same c.args.self.now s c.args.xid.now c.requires.due.0 c.args.turn room c.requires.due.1)
    c.requires.entry (λ commits. absurd (let never : true ≡ false = sym commits ∙ c.requires.data in cc)))
    broke

pub write-requires-clause-sound : goal.write-requires-clause-sound
write-requires-clause-sound g c = λ p own. c.in_ok-frame.ensures.sound p (own ∙ c.self.invariant.kind)
