-- A manager forgets what its data were before the last commit.
use Rattle.std.proofs.Common.{◌≡◌, ◌∙◌, true, false, refl, sym, ap, subst}
use Rattle.std.specs.Prelude.{not}
use Rattle.protocol.specs.Store.{Data}
use Rattle.kv_store.specs.Versions.{Rebases, VersionTable}
use Rattle.kv_store.specs.writes.Writes.{writes_of}
use Rattle.kv_locks.specs.Locks.{holders_of}
use Rattle.kv_state.specs.Ends.{known_of}
use Rattle.kv_state.specs.Folds.{AreData}
use Rattle.kv_state.specs.Stores.{KeySight, RebasesStore, has_numbers}
use Rattle.resource_manager.specs.Sights.{ManagerSight}
use Rattle.kv_manager.specs.Resources.{sight_of}
use Rattle.kv_manager.specs.Sights.{IsKvManager, KvSight}

-- the data stay
pub rebased_data : (old new : VersionTable) (d : Data) → Rebases old new → AreData old d → AreData new d
rebased_data old new d rebases are = record {
  count = rebases.count ∙ are.count;
  unstaged = rebases.is_staged;
  values = λ k. rebases.values k ∙ are.values k;
}

-- but for the data it is the store that it was
store_is : (old new : KeySight) → RebasesStore old new → new ≡ record old { versions = new.versions }
store_is old new rebases = λ i. record {
  tables = rebases.tables i;
  writes = rebases.writes i;
  locks = rebases.locks i;
  versions = new.versions;
  decisions = rebases.decisions i;
}

-- what a manager keeps stands
pub kept_forgetting : (s : KvSight) (store : KeySight) → RebasesStore s.store store
    → s.log.sight.failed ≡ false
    → IsKvManager s → IsKvManager (record s { store = store })
kept_forgetting s store rebases works kept =
    subst (λ (t : KeySight). IsKvManager (record s { store = t }))
    (sym (store_is s.store store rebases)) (record {
      kind = kept.kind;
      ordered = kept.ordered;
      counted = kept.counted;
      stands = λ up.
          let stands = kept.stands works in
          record {
            are_data = rebased_data s.store.versions store.versions _ rebases.versions stands.are_data;
            rise = stands.rise;
            promises = stands.promises;
            marked = stands.marked;
            decided = stands.decided;
            doubts = stands.doubts;
            begun = stands.begun;
          };
    })

-- a process sees no difference
pub sight_stays : (old new : KvSight) → RebasesStore old.store new.store → new.log ≡ old.log
    → new.boot ≡ old.boot
    → sight_of new ≡ sight_of old
sight_stays old new rebases log boot = λ i. record {
  tables = rebases.tables i;
  log = (log i).sight;
  boot = boot i;
  spent = not (has_numbers
      (record old.store { versions = record old.store.versions { count = rebases.versions.count i } }));
  writes = λ x. writes_of (rebases.writes i) x;
  holders = λ k. holders_of (rebases.locks i) k;
  decided = λ x. known_of (record old.store { decisions = rebases.decisions i }) x;
}
