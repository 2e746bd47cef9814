-- Trims and restarts leave the judge's data those of the store.
use Rattle.std.proofs.Common.{◌≡◌, ℕ, Bool, true, false, not, Option, Some, None, List, [], ◌∷◌, ◌++◌, ◌&&◌, refl, ap, sym, subst, ◌∙◌, inl, inr}
use Rattle.std.specs.Prelude.{if◌then◌else◌}
use Rattle.std.proofs.lemmas.Bool.{and_from, and_parts, false≢true, not-true, not_from_false}
use Rattle.xa_tables.specs.Tables.{is_in_doubt}
use Rattle.xa_tables.specs.declared.states.BranchState.{BranchState}
use Rattle.xa_tables.specs.declared.states.BranchState.TheVariants.{S0, S1, S2, S3, S4, S5}
use Rattle.xa_xid.specs.declared.xid.Xid.{Xid}
use Rattle.xa_branch.specs.Branches.{state_in}
use Rattle.xa_assoc.specs.declared.states.States.{States}
use Rattle.xa_assoc.specs.Answers.{state_at}
use Rattle.xa_assoc.specs.Restored.{state_left}
use Rattle.xa_branch.specs.declared.decision.Decision.{Decision as Known}
use Rattle.xa_branch.specs.Decisions.{decided_in}
use Rattle.protocol.specs.declared.records.BranchName.TheVariants.{Foreign}
use Rattle.protocol.specs.declared.records.LogRecord.{LogRecord}
use Rattle.protocol.specs.declared.records.Write.{Write}
use Rattle.protocol.specs.Restarts.{is_open as open_mark}
use Rattle.protocol.specs.Standings.{Mark, Unmarked, Promised, Decided, ToldOf, Finished, mark_at}
use Rattle.protocol.specs.Store.{Data, data_of, writes_of as promised_of}
use Rattle.log_rules.specs.declared.order.seen.Promise.{Promise}
use Rattle.log_rules.specs.order.Orders.{found, is_open, keys_once, opens, promised, promised_by}
use Rattle.log_rules.specs.trim.Trims.{trim_of}
use Rattle.process_state.specs.States.{forced_sight}
use Rattle.log_records.specs.Sights.{LogSight, left_by, records_of}
use Rattle.kv_store.specs.Pairs.{found_in, keys_rise}
use Rattle.kv_store.specs.writes.Writes.{WriteTable, writes_of}
use Rattle.kv_state.specs.Ends.{known_of}
use Rattle.kv_state.specs.Folds.{AreData}
use Rattle.kv_state.specs.Keeping.{KeepsData}
use Rattle.kv_state.specs.Stores.{RebasesStore, state_of}
use Rattle.kv_state.proofs.Lawful.{IsLawful, lawful_of}
use Rattle.kv_manager.specs.Restarts.{Restarted}
use Rattle.kv_manager.specs.Sights.{KvSight, doubt_of, logged}
use Rattle.kv_manager.proofs.Forgetting.{rebased_data}
use Rattle.kv_manager.proofs.Marks.{state_by}
use Rattle.kv_manager.proofs.Restarted.{restarted}
use Rattle.kv_manager.proofs.Restoring.{restored_state}
use Rattle.kv_manager.proofs.Turns.{data_behind, same_data}
use Rattle.resource_manager.specs.Restarting.{boot_record, marked_state}
use Rattle.xa_engine.specs.Runs.{HasSoundLog}
use Rattle.judge_state.specs.Sights.{Sight}
use Rattle.proof_judged_deeds.specs.Data.{IsHeard}
use Rattle.proof_judged_deeds.specs.Names.{NameNumbers}
use Rattle.proof_judged_deeds.proofs.Hearing.{same_heard}
use Rattle.proof_judged_deeds.proofs.Ledgers.{IsReturned, ledger}
use Rattle.proof_judged_deeds.proofs.Returned.{restart_heard}
use Rattle.proof_judged_runs.proofs.Judging.{IsJudged, comes_back, forced_judged, is_three, promised_left, three_is, value_left}
use Rattle.proof_judged_runs.proofs.Recorded.{IsRecorded, IsSaid, forced_all, forced_left, keeps}
use Rattle.proof_judged_runs.proofs.Stored.{IsStored, value_of, written_by}

-- Trims.

three_open : (m : Mark) → marked_state m ≡ S3 → open_mark m ≡ true
three_open Unmarked h = absurd cc
three_open Promised h = refl
three_open Decided h = refl
three_open (ToldOf o) h = refl
three_open Finished h = absurd cc

pub trim_judged : (n : NameNumbers) (old new : KvSight) (l l' : Xid → Bool) (s u : Sight) → IsJudged n old s
    → IsRecorded old l
    → IsRecorded new l' → HasSoundLog old
    → new.log.sight ≡ forced_sight old.log.sight.form (trim_of (records_of old.log.sight.kept))
    old.log.sight.failures
    → RebasesStore old.store new.store → ledger u ≡ ledger s → IsJudged n new u
trim_judged n old new l l' s u j r r' log is store books = forced_judged n new l' u r' stored
    (same_heard n (value_of old) (value_of new) (written_by old) (written_by new) s u books
    (λ k. store.versions.values k) written j.heard)
    (λ keep. forced_left new.log.sight (trim_of ls) keep (ap (λ (k : LogSight). k.kept.forced) is)
    (ap (λ (k : LogSight). k.kept.unforced) is) ∙ sym all)
  where
    ls : List LogRecord
    ls = records_of old.log.sight.kept

    all : records_of new.log.sight.kept ≡ trim_of ls
    all = forced_all new.log.sight (trim_of ls) (ap (λ (k : LogSight). k.kept.forced) is)
        (ap (λ (k : LogSight). k.kept.unforced) is)

    same : KeepsData ls (trim_of ls)
    same = keeps ls log.sound log.ordered r.begun

    written : (x : Xid) → written_by new x ≡ written_by old x
    written x = ap (λ (t : WriteTable). writes_of t x) store.writes

    state : (x : Xid) → state_of new.store x ≡ state_of old.store x
    state x = ap (λ (t : States). state_at t x) store.tables

    stored : IsStored new
    stored = record {
      are = rebased_data old.store.versions new.store.versions (logged new) store.versions
          (subst (λ (ks : List LogRecord). AreData old.store.versions (data_of ks)) (sym all)
          (same_data old.store.versions (data_of ls) (data_of (trim_of ls)) same.count
          same.pairs j.stored.are));
      rise = ap (λ ks. keys_rise (data_of ks).pairs) all ∙ ap keys_rise same.pairs ∙ j.stored.rise;
      prepared = λ x e.
          let was : state_of old.store x ≡ S3 = sym (state x) ∙ e in
          written x
          ∙ j.stored.prepared x was
          ∙ sym (same.promises x (three_open (mark_at ls x) (r.now x ∙ ap doubt_of was)))
          ∙ sym (ap (λ ks. promised_of (Foreign x) (data_of ks).promised) all);
      decided = λ x e. written x ∙ j.stored.decided x (sym (state x) ∙ e);
      once = λ x. ap keys_once (written x) ∙ j.stored.once x;
    }

-- Restarts.

open_by : (o : Option Promise) → state_by o ≡ S3 → is_open o ≡ true
open_by None h = absurd cc
open_by (Some p) h = by (opens p.mark) h where
  by : (b : Bool) → state_left (not b) ≡ S3 → b ≡ true
  by true e = refl
  by false e = absurd cc

shut_by : (o : Option Promise) → (state_by o ≡ S3 → ⊥) → promised_by o ≡ []
shut_by None h = refl
shut_by (Some p) h = by (opens p.mark) h where
  by : (b : Bool) → (state_left (not b) ≡ S3 → ⊥) → (if b then p.writes else []) ≡ []
  by true e = absurd (e refl)
  by false e = refl

pub restart_judged : (n : NameNumbers) (old new : KvSight) (l l' : Xid → Bool) (s u : Sight) (keep : ℕ)
    (given : List Xid)
    → IsJudged n old s → IsRecorded old l → IsRecorded new l' → Restarted old new keep given
    → IsReturned n s u (state_in old.store.tables.branches.branches)
    (state_in new.store.tables.branches.branches)
    → IsJudged n new u
restart_judged n old new l l' s u keep given j r r' made returned = forced_judged n new l' u r' stored heard
    (λ k. forced_left new.log.sight (ls ++ boot_record new.boot ∷ []) k made.log.forced made.log.unforced
    ∙ sym all)
  where
    ls : List LogRecord
    ls = left_by old.log.sight keep

    all : records_of new.log.sight.kept ≡ ls ++ boot_record new.boot ∷ []
    all = forced_all new.log.sight (ls ++ boot_record new.boot ∷ []) made.log.forced made.log.unforced

    books : logged new ≡ data_of ls
    books = ap data_of all ∙ data_behind ls (boot_record new.boot)

    lawful : IsLawful made.left.seen (data_of ls)
    lawful = lawful_of ls made.left.seen made.left.read

    found_state : (x : Xid) → state_of new.store x ≡ state_by (found made.left.seen x)
    found_state x = restored_state made.left.seen new.store.tables x made.left.tables

    promises : (x : Xid) → state_of new.store x ≡ S3 → written_by new x ≡ promised_left old keep x
    promises x e = made.left.promises x
        ∙ sym (lawful.tied.tied x (open_by (found made.left.seen x) (sym (found_state x) ∙ e)))

    nothing : (x : Xid) → (state_of new.store x ≡ S3 → ⊥) → written_by new x ≡ []
    nothing x h = made.left.promises x ∙ shut_by (found made.left.seen x) (λ e. h (found_state x ∙ e))

    stored : IsStored new
    stored = record {
      are = subst (AreData new.store.versions) (sym books) made.left.stored;
      rise = ap (λ (d : Data). keys_rise d.pairs) books ∙ lawful.tied.rise;
      prepared = λ x e. promises x e ∙ sym (ap (λ (d : Data). promised_of (Foreign x) d.promised) books);
      decided = λ x e. nothing x (λ f. absurd (let g : S5 ≡ S3 = sym e ∙ f in cc));
      once = λ x. ap keys_once (made.left.promises x) ∙ lawful.orderly.once x;
    }

    said : (x : Xid) → state_of new.store x ≡ marked_state (mark_at ls x)
    said x = (restarted old new keep given made).states x

    stays : (x : Xid) → is_in_doubt (state_of old.store x) ≡ true
        → state_of new.store x ≡ state_of old.store x
    stays x h = said x ∙ by (state_of old.store x) h (known_of old.store x) (decided_in ls x) (l x)
        (r.left keep x) where
          by : (st : BranchState) → is_in_doubt st ≡ true
              → (k k' : Known) (b : Bool) → IsSaid (doubt_of st) k (marked_state (mark_at ls x)) k' b
              → marked_state (mark_at ls x) ≡ st
          by S3 e k k' b q = q
          by S5 e k k' b q = q.0
          by S0 e k k' b q = absurd (false≢true e)
          by S1 e k k' b q = absurd (false≢true e)
          by S2 e k k' b q = absurd (false≢true e)
          by S4 e k k' b q = absurd (false≢true e)

    heard : IsHeard n (value_of new) (written_by new) u
    heard = restart_heard n (value_left old keep) (value_of new) (written_by old) (promised_left old keep)
        (written_by new)
        (comes_back old keep) s u (state_in old.store.tables.branches.branches)
        (state_in new.store.tables.branches.branches)
        returned (j.leave keep) j.heard.works
        (λ x e.
        let parts = and_parts (is_three (marked_state (mark_at ls x)))
        (not (is_in_doubt (state_of old.store x))) e in (
          not-true (is_in_doubt (state_of old.store x)) parts.1,
          said x
              ∙ three_is (marked_state (mark_at ls x)) parts.0,
        ))
        (λ x off three. and_from (is_three (marked_state (mark_at ls x)))
        (not (is_in_doubt (state_of old.store x)))
        (ap is_three (sym (said x) ∙ three)) (not_from_false (is_in_doubt (state_of old.store x)) off))
        stays (j.promised keep) j.stored.decided (λ k. made.left.stored.values k) promises nothing
