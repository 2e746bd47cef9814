use Rattle.std.proofs.Common.{rules, ◌∷◌, ◌∙◌, ◌<◌, ◌+◌, ◌^◌, [], refl, sym, subst}
use Rattle.log_records.specs.Sights.{Breaks}
use Rattle.kv_calls.specs.Turns.{entry_record}
use Rattle.kv_store.specs.writes.Writes.{writes_of}
use Rattle.log_writing.specs.Writes.{WritesRecord}
use Rattle.kv_state.specs.Ends.{PublishesWrites, SameButData, StagesWrites, TakesTurn}
use Rattle.kv_state.specs.Stores.{KeySight}
use Rattle.kv_manager.specs.Sights.{KvSight}
use Rattle.kv_manager.specs.Turns.{Broke, Made, OnlyRoom}
use Rattle.kv_manager.proofs.Keeping.{data_only, kept_by}
use Rattle.kv_manager.proofs.Ordered.{record_follows}
use Rattle.kv_manager.proofs.Turns.{commits_by, due_has, due_same, fails_by, kept_broken, kept_committed, made_committed, turn_same}
use Rattle.kv_manager.proofs.manager.KvManager.take_committed.Goals as goal

pub frame-requires-clause-some : goal.frame-requires-clause-some
frame-requires-clause-some g c = due_has c.args.self.now c.args.xid.now c.requires.due.0
    c.args.turn c.args.entry
    c.requires.due.1 c.requires.entry

pub finish-requires-clause-turn : goal.finish-requires-clause-turn
finish-requires-clause-turn g c =
    let s : KvSight = record {
      store = c.self.inside.store;
      log = c.self.inside.log;
      boot = c.self.inside.boot;
    } in
    let room : OnlyRoom c.args.self.now s = subst (OnlyRoom c.args.self.now)
    (sym c.self.view_is) c.frame.ensures.stays in
    let staged : StagesWrites s.store c.stage.new.self c.args.xid.now = search rules in
    let published : PublishesWrites c.stage.new.self c.publish.new.self = search rules in
    let turned = turn_same s.store c.publish.new.self c.args.xid.now c.requires.due.0 c.args.turn
    (published.tables ∙ staged.tables) (published.writes ∙ staged.writes)
    (published.decisions ∙ staged.decisions)
    (due_same c.args.self.now s c.args.xid.now c.requires.due.0 c.args.turn room c.requires.due.1).due in
    (c.requires.due.0, turned)

pub invariant_of-self : goal.invariant_of-self
invariant_of-self g c =
    let s : KvSight = record {
      store = c.self.inside.store;
      log = c.self.inside.log;
      boot = c.self.inside.boot;
    } in
    let stays : SameButData c.self.inside.store c.stage.new.self = search rules in
    kept_by s c.stage.new.self c.self.invariant (data_only c.self.inside.store c.stage.new.self stays)

pub invariant_of-self-in-Ok : goal.invariant_of-self-in-Ok
invariant_of-self-in-Ok g c =
    let s : KvSight = record {
      store = c.self.inside.store;
      log = c.self.inside.log;
      boot = c.self.inside.boot;
    } in
    let room : OnlyRoom c.args.self.now s = subst (OnlyRoom c.args.self.now)
    (sym c.self.view_is) c.frame.ensures.stays in
    let staged : StagesWrites s.store c.stage.new.self c.args.xid.now = search rules in
    let published : PublishesWrites c.stage.new.self c.publish.new.self = search rules in
    let takes : TakesTurn c.publish.new.self c.finish.new.self c.args.xid.now c.args.turn = search rules in
    let made : WritesRecord s.log c.write.new.self (entry_record c.args.entry c.args.xid.now
    (writes_of s.store.writes c.args.xid.now)) c.args.turn.is_forced = search rules in
    let fits : s.store.versions.count + 1 < 2 ^ 63 =
    subst (λ (k : KeySight). k.versions.count + 1 < 2 ^ 63) (sym room.store) c.requires.fits in
    kept_committed s _ c.args.xid.now c.requires.due.0 c.args.turn c.args.entry c.self.invariant
    (record_follows s c.args.xid.now c.requires.due.0 c.args.turn c.args.entry c.self.invariant
    c.is_tidy.ensures.tidy c.is_tidy.ensures.limits c.is_tidy.ensures.few
    (due_same c.args.self.now s c.args.xid.now c.requires.due.0 c.args.turn room c.requires.due.1)
    c.requires.entry (λ commits. fits))
    (due_same c.args.self.now s c.args.xid.now c.requires.due.0 c.args.turn room c.requires.due.1)
    c.requires.entry c.requires.data
    (commits_by s.store c.stage.new.self c.publish.new.self c.finish.new.self c.args.xid.now c.args.turn
    staged published takes) made

pub returns-in-Ok-clause-answer : goal.returns-in-Ok-clause-answer
returns-in-Ok-clause-answer g c =
    let s : KvSight = record {
      store = c.self.inside.store;
      log = c.self.inside.log;
      boot = c.self.inside.boot;
    } in
    let room : OnlyRoom c.args.self.now s = subst (OnlyRoom c.args.self.now)
    (sym c.self.view_is) c.frame.ensures.stays in
    let staged : StagesWrites s.store c.stage.new.self c.args.xid.now = search rules in
    let published : PublishesWrites c.stage.new.self c.publish.new.self = search rules in
    let takes : TakesTurn c.publish.new.self c.finish.new.self c.args.xid.now c.args.turn = search rules in
    let made : WritesRecord s.log c.write.new.self (entry_record c.args.entry c.args.xid.now
    (writes_of s.store.writes c.args.xid.now)) c.args.turn.is_forced = search rules in
    Made refl (made_committed c.args.self.now s _ c.args.xid.now c.args.turn c.args.entry room
    c.requires.entry c.requires.data
    (commits_by s.store c.stage.new.self c.publish.new.self c.finish.new.self c.args.xid.now c.args.turn
    staged published takes) made refl)

pub returns-clause-answer : goal.returns-clause-answer
returns-clause-answer g c =
    let s : KvSight = record {
      store = c.self.inside.store;
      log = c.self.inside.log;
      boot = c.self.inside.boot;
    } in
    let room : OnlyRoom c.args.self.now s = subst (OnlyRoom c.args.self.now)
    (sym c.self.view_is) c.frame.ensures.stays in
    let staged : StagesWrites s.store c.stage.new.self c.args.xid.now = search rules in
    let broke : Breaks s.log c.write.new.self (entry_record c.args.entry c.args.xid.now
    (writes_of s.store.writes c.args.xid.now) ∷ []) = search rules in
    Broke refl (fails_by c.args.self.now s _ c.args.xid.now c.args.turn c.args.entry room c.requires.entry
    broke staged.tables staged.writes staged.locks staged.decisions refl)

pub invariant_of-self-in-Err : goal.invariant_of-self-in-Err
invariant_of-self-in-Err g c =
    let s : KvSight = record {
      store = c.self.inside.store;
      log = c.self.inside.log;
      boot = c.self.inside.boot;
    } in
    let broken : KvSight = record {
      store = c.stage.new.self;
      log = c.write.new.self;
      boot = c.self.inside.boot;
    } in
    let room : OnlyRoom c.args.self.now s = subst (OnlyRoom c.args.self.now)
    (sym c.self.view_is) c.frame.ensures.stays in
    let broke : Breaks s.log c.write.new.self (entry_record c.args.entry c.args.xid.now
    (writes_of s.store.writes c.args.xid.now) ∷ []) = search rules in
    let fits : s.store.versions.count + 1 < 2 ^ 63 =
    subst (λ (k : KeySight). k.versions.count + 1 < 2 ^ 63) (sym room.store) c.requires.fits in
    kept_broken s broken (entry_record c.args.entry c.args.xid.now
    (writes_of s.store.writes c.args.xid.now) ∷ []) c.self.invariant
    (record_follows s c.args.xid.now c.requires.due.0 c.args.turn c.args.entry c.self.invariant
    c.is_tidy.ensures.tidy c.is_tidy.ensures.limits c.is_tidy.ensures.few
    (due_same c.args.self.now s c.args.xid.now c.requires.due.0 c.args.turn room c.requires.due.1)
    c.requires.entry (λ commits. fits))
    broke

pub write-requires-clause-sound : goal.write-requires-clause-sound
write-requires-clause-sound g c = λ p own. c.in_ok-frame.ensures.sound p (own ∙ c.self.invariant.kind)
