use Rattle.std.proofs.Common.{rules, ◌≡◌, false, subst, sym}
use Rattle.key_lists.specs.declared.holders.Mode.TheVariants.{Shared}
use Rattle.kv_locks.specs.Locks.{GivesLock}
use Rattle.kv_state.specs.Stores.{IsTidy, KeySight, is_let_go, state_of}
use Rattle.kv_state.proofs.Tidy.{tidy_read}
use Rattle.kv_state.proofs.store.KeyStore.try_read.Goals.{in-Ok, in-Err+in-None-1, in-Err+in-Some+in-Short-1, in-Err+in-Some+in-Long-1}
use Rattle.kv_state.proofs.store.KeyStore.try_read.Goals as goal

pub invariant_of-self : goal.invariant_of-self
invariant_of-self c =
    let s : KeySight = record {
      tables = c.self.inside.states;
      writes = c.self.inside.writes;
      locks = c.self.inside.locks;
      versions = c.self.inside.versions;
      decisions = c.self.inside.heuristics;
    } in
    let works : is_let_go (state_of s c.args.xid.now) ≡ false = search rules in
    let kept : c.shared.new.self ≡ c.self.inside.locks → IsTidy (record s { locks = c.shared.new.self }) =
    λ stays. subst (λ l. IsTidy (record s { locks = l })) (sym stays) c.self.invariant in
    elim c.match-shared.branch [
      | in-Ok w ↦ (let gave : GivesLock s.locks c.shared.new.self c.args.xid.now
          c.args.key.now Shared = search rules in
          tidy_read s c.shared.new.self c.args.xid.now c.args.key.now Shared c.self.invariant works
          gave.free gave.made)
      | in-Err+in-Some+in-Short-1 w ↦ kept (search rules)
      | in-Err+in-Some+in-Long-1 w ↦ kept (search rules)
      | in-Err+in-None-1 w ↦ kept (search rules)
    ]
