-- A key store after a restart is what a resource manager is then.
use Rattle.std.proofs.Common.{◌≡◌, ◌∙◌, ℕ, List, [], ◌∷◌, ◌++◌, refl, sym, ap, subst}
use Rattle.xa_xid.specs.declared.xid.Xid.{Xid}
use Rattle.xa_assoc.specs.declared.states.States.{States}
use Rattle.xa_assoc.specs.Answers.{SameStates}
use Rattle.xa_assoc.proofs.Reactions.{stays}
use Rattle.protocol.specs.declared.records.LogRecord.{LogRecord}
use Rattle.log_rules.specs.order.Orders.{names_key}
use Rattle.log_records.specs.Sights.{LogState, LogRestartBreaks, LogRestarts, left_by}
use Rattle.process_state.specs.States.{forced_sight}
use Rattle.resource_manager.specs.Ends.{state_of}
use Rattle.resource_manager.specs.Restarting.{ManagerNotRestarted, ManagerRestartFails, RestartsManager, boot_record, next_boot}
use Rattle.resource_manager.specs.declared.errors.RestartError.{RestartError}
use Rattle.resource_manager.specs.declared.errors.RestartError.TheVariants.{Device, Exhausted, Memory}
use Rattle.kv_manager.specs.Resources.{sight_of}
use Rattle.kv_manager.specs.Restarts.{KvNotRestarted, KvRestartFails, Restarted, opened}
use Rattle.kv_state.specs.Stores.{KeySight}
use Rattle.kv_state.specs.Ends.{known_of}
use Rattle.kv_manager.specs.Sights.{KvSight}
use Rattle.kv_manager.proofs.Marks.{agrees_of, boot_last, boot_next, writes_as}
use Rattle.kv_manager.proofs.Resources.{same_sight}
use Rattle.kv_manager.proofs.Restoring.{restored_state}

-- a log that restarted, all of it forced
log_of : (old new : LogState) (keep : ℕ) (rs : List LogRecord) → LogRestarts old new keep rs
    → new.sight ≡ forced_sight old.sight.form (left_by old.sight keep ++ rs) old.sight.failures
log_of old new keep rs made = λ i. record {
  form = made.form i;
  kept = record { forced = made.forced i; unforced = made.unforced i };
  behind = made.behind i;
  failed = made.works i;
  failures = made.failures i;
}

pub restarted : (old new : KvSight) (keep : ℕ) (given : List Xid) → Restarted old new keep given
    → RestartsManager (sight_of old) (sight_of new) keep
restarted old new keep given made =
    let left = made.left in
    let ls = left_by old.log.sight keep in
    let boot : new.boot ≡ next_boot ls = boot_next ls left.seen new.boot left.read left.next in
    record {
      closed = left.tables.init;
      states = λ x. restored_state left.seen new.store.tables x left.tables
          ∙ (agrees_of ls left.seen left.read).states x;
      scans = left.tables.scans;
      associations = left.tables.associations;
      seats = left.tables.seats;
      writes = λ x. left.promises x ∙ writes_as ls left.seen x left.read;
      held = record {
        held = λ x k named. left.locks_held.held x k
            (ap (λ ws. names_key ws k) (writes_as ls left.seen x left.read) ∙ named);
        free = λ k none. left.locks_held.free k
            (λ x. ap (λ ws. names_key ws k) (writes_as ls left.seen x left.read) ∙ none x);
      };
      decided = λ x here. left.decided.each x;
      boot = boot;
      log = log_of old.log new.log keep (opened new.boot ∷ []) made.log
          ∙ ap (λ n. forced_sight old.log.sight.form (ls ++ boot_record n ∷ []) old.log.sight.failures) boot;
    }

same_tables : (a b : States) → b ≡ a → SameStates a b
same_tables a b is = subst (SameStates a) (sym is)
    (record { init = refl; branches = stays a.branches a.branches refl; associations = refl })

broken : (old new : LogState) (keep : ℕ) (rs : List LogRecord) → LogRestartBreaks old new keep rs
    → LogRestartBreaks (state_of old.sight) (state_of new.sight) keep rs
broken old new keep rs b = record {
  form = b.form;
  appended = b.appended;
  stand = b.stand;
  no_less = b.no_less;
  failed = b.failed;
  cause = b.cause;
}

fails : (old new : KvSight) (keep : ℕ) → KvRestartFails old new keep
    → ManagerRestartFails (sight_of old) (sight_of new) keep
fails old new keep made =
    let ls = left_by old.log.sight keep in
    let boot : made.next ≡ next_boot ls = boot_next ls made.comes.seen made.next
    made.comes.read made.comes.next in
    record {
      log = subst (λ n. LogRestartBreaks (state_of old.log.sight) (state_of new.log.sight)
          keep (boot_record n ∷ [])) boot
          (broken old.log new.log keep (opened made.next ∷ []) made.log);
      tables = same_tables old.store.tables new.store.tables (ap (λ s. s.tables) made.store);
      boot = made.boot;
      decided = λ x. ap (λ (s : KeySight). known_of s x) made.store;
    }

pub not_restarted : (old new : KvSight) (keep : ℕ) (e : RestartError) → KvNotRestarted old new keep e
    → ManagerNotRestarted (sight_of old) (sight_of new) keep e
not_restarted old new keep Device made = fails old new keep made
not_restarted old new keep Memory made = same_sight old new made
not_restarted old new keep Exhausted made =
    let last = made.0 in
    (same_sight old new made.1, boot_last (left_by old.log.sight keep) last.seen last.read last.spent)
