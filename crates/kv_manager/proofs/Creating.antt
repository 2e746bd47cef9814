-- A manager over an empty store.
use Rattle.std.proofs.Common.{◌≡◌, ◌∙◌, ◌∷◌, [], ◌++◌, ℕ, false, List, Some, Result, Ok, Err, IfOk, refl, sym, subst, ap}
use Rattle.xa_xid.specs.declared.xid.Xid.{Xid}
use Rattle.protocol.specs.declared.names.Kind.TheVariants.{Manager}
use Rattle.protocol.specs.declared.names.ProcessId.{ProcessId}
use Rattle.log_text.specs.Forms.{log_form}
use Rattle.protocol.specs.declared.records.LogRecord.{LogRecord}
use Rattle.protocol.specs.Records.{same_bytes}
use Rattle.log_rules.specs.order.Logs.{Whole, read_log}
use Rattle.xa_assoc.specs.Restored.{states_left}
use Rattle.log_rules.specs.order.Orders.{SeenLog, in_doubt_by, names_key, nothing_seen, promised}
use Rattle.log_records.specs.Sights.{records_of}
use Rattle.kv_state.specs.Replays.{seen_after, seen_of}
use Rattle.process_state.specs.Opening.{first_opened}
use Rattle.resource_manager.specs.Opening.{IsNewManager}
use Rattle.kv_manager.specs.Resources.{sight_of}
use Rattle.kv_manager.specs.Restarts.{LeavesStore, RestoredFrom, next_boot, opened}
use Rattle.kv_manager.specs.Sights.{KvSight}

nothing_read : (q : ProcessId) → read_log (log_form q Manager) [] ≡ Whole [] 0
unfolding read_log same_bytes
nothing_read q = refl

same_records : (a b : List LogRecord) (m n : ℕ) → Whole a m ≡ Whole b n → a ≡ b
same_records a b m n e = cc

nothing_said : (s : SeenLog) → seen_of [] ≡ Some s → nothing_seen ≡ s
unfolding seen_after
nothing_said s e = cc

one : (b : ℕ) → Some 1 ≡ Some b → b ≡ 1
one b e = cc

first_boot : (s : SeenLog) (b : ℕ) → nothing_seen ≡ s → next_boot s.boot ≡ Some b → b ≡ 1
first_boot s b is e = one b (ap (λ (t : SeenLog). next_boot t.boot) is ∙ e)

none_promised : (s : SeenLog) (x : Xid) (k : List ℕ) → nothing_seen ≡ s → names_key (promised s x) k ≡ false
unfolding names_key
none_promised s x k is = ap (λ t. names_key (promised t x) k) (sym is)

pub created : (process : ProcessId) (forced failures : ℕ) (s : KvSight)
    → RestoredFrom process [] forced failures s
    → IsNewManager (sight_of s)
created process forced failures s r =
    let none : records_of r.log.sight.kept ≡ [] = sym
    (same_records [] (records_of r.log.sight.kept) 0 r.opens.torn (sym (nothing_read process) ∙ r.opens.read))
    in
    let left : LeavesStore [] s.store s.boot =
    subst (λ ls. LeavesStore ls s.store s.boot) none r.starts.left in
    let boot : s.boot ≡ 1 = first_boot left.seen s.boot (nothing_said left.seen left.read) left.next in
    let kept : s.log.sight.kept.forced ≡ first_opened ∷ [] =
    r.starts.forced ∙ ap (λ ls. ls ++ opened s.boot ∷ []) none ∙ ap (λ b. opened b ∷ []) boot in
    record {
      closed = left.tables.init;
      boot = boot;
      branches = left.tables.branches
          ∙ ap (λ t. states_left (in_doubt_by t)) (sym (nothing_said left.seen left.read));
      writes = λ x. left.promises x ∙ ap (λ t. promised t x) (sym (nothing_said left.seen left.read));
      holders = λ k. left.locks_held.free k (λ x. none_promised left.seen x k
          (nothing_said left.seen left.read));
      log = λ i. record {
        form = s.log.sight.form;
        kept = record { forced = kept i; unforced = r.starts.unforced i };
        behind = r.starts.behind i;
        failed = r.starts.works i;
        failures = s.log.sight.failures;
      };
    }

pub each_new : {E : Type 0} (process : ProcessId) (bytes : List ℕ) (forced failures : ℕ)
    (r : Result KvSight E) → bytes ≡ []
    → IfOk r (RestoredFrom process bytes forced failures)
    → IfOk r (λ m. IsNewManager (sight_of m))
each_new process bytes forced failures (Ok m) empty r =
    created process forced failures m (subst (λ bs. RestoredFrom process bs forced failures m) empty r)
each_new process bytes forced failures (Err e) empty r = r
