-- The record that a branch writes may follow those of the log.
use Rattle.std.proofs.Common.{◌≡◌, ◌≤◌, ◌<◌, ◌+◌, ◌^◌, true, not, Option, Some, None, refl, sym, ap, ◌∙◌, is_some, length}
use Rattle.xa_tables.specs.declared.call.Call.{Call}
use Rattle.xa_tables.specs.declared.states.BranchState.{BranchState}
use Rattle.xa_tables.specs.declared.states.BranchState.TheVariants.{S0, S1, S2, S3, S4, S5}
use Rattle.xa_xid.specs.declared.xid.Xid.{Xid}
use Rattle.xa_assoc.specs.Restored.{state_left}
use Rattle.xa_branch.specs.declared.decision.Decision.{Decision}
use Rattle.log_rules.specs.declared.order.seen.DoubtMark.{DoubtMark}
use Rattle.log_rules.specs.declared.order.seen.DoubtMark.TheVariants.{Open, Decided, Told}
use Rattle.log_rules.specs.declared.order.seen.Promise.{Promise}
use Rattle.log_rules.specs.order.Orders.{SeenLog, found, is_open}
use Rattle.log_records.specs.Sights.{records_of}
use Rattle.kv_store.specs.writes.Writes.{AreWrites, writes_of}
use Rattle.kv_calls.specs.declared.entries.BranchRecord.{BranchRecord}
use Rattle.kv_calls.specs.declared.turns.CallRow.{CallRow}
use Rattle.kv_calls.specs.Turns.{applies, entry_record}
use Rattle.kv_state.specs.Stores.{IsTidy, state_of}
use Rattle.kv_state.specs.Replays.{seen_of}
use Rattle.kv_state.proofs.Lawful.{lawful_of}
use Rattle.kv_manager.specs.Sights.{IsKvManager, IsLogged, KvSight, doubt_of}
use Rattle.kv_manager.specs.Turns.{IsDueTurn}
use Rattle.kv_manager.proofs.Marks.{agrees_of, state_by}
use Rattle.kv_manager.proofs.Turns.{IsFollowed, due_untold, record_counts}
use Rattle.kv_manager.proofs.Fronts.{seen_one, seen_where}
use Rattle.kv_manager.proofs.Steps.{boots_of}
use Rattle.kv_manager.proofs.Told.{is_told, told_mark, told_of}
use Rattle.kv_manager.proofs.From.{due_from}
use Rattle.kv_manager.proofs.Follows.{StandsWith, follows}

pub open_three : (o : Option Promise) → is_open o ≡ true → state_by o ≡ S3
open_three None h = absurd (cc)
open_three (Some p) h = ap (λ b. state_left (not b)) h

told_five : (o : Option Promise) → is_told o ≡ true → state_by o ≡ S5
told_five None h = absurd (cc)
told_five (Some p) h = by_mark p.mark h
  where
    by_mark : (m : DoubtMark) → told_mark m ≡ true → state_by (Some (record { mark = m; writes = p.writes }))
        ≡ S5
    by_mark Open e = absurd (cc)
    by_mark Decided e = absurd (cc)
    by_mark Told e = refl

three_of : (b : BranchState) → doubt_of b ≡ S3 → b ≡ S3
three_of S3 h = refl
three_of S0 h = absurd (cc)
three_of S1 h = absurd (cc)
three_of S2 h = absurd (cc)
three_of S4 h = absurd (cc)
three_of S5 h = absurd (cc)

five_of : (b : BranchState) → doubt_of b ≡ S5 → b ≡ S5
five_of S5 h = refl
five_of S0 h = absurd (cc)
five_of S1 h = absurd (cc)
five_of S2 h = absurd (cc)
five_of S3 h = absurd (cc)
five_of S4 h = absurd (cc)

-- what was seen of the records of a manager that stands with them
pub stands_with : (s : KvSight) (t : SeenLog) → IsLogged s → seen_of (records_of s.log.sight.kept) ≡ Some t
    → StandsWith t s.store
stands_with s t stands h = record {
  states = states;
  writes = λ x opened. stands.promises x
      (three_of (state_of s.store x) (sym (states x) ∙ open_three (found t x) opened))
      ∙ (lawful_of (records_of s.log.sight.kept) t h).tied.tied x opened;
  told = λ x was.
      let before = stands.decided x (five_of (state_of s.store x)
      (sym (states x) ∙ told_five (found t x) was)) in
      ap (λ (d : Decision). is_some d.told) before.how ∙ told_of (records_of s.log.sight.kept) t h x was;
  opened = boots_of (records_of s.log.sight.kept) t stands.begun h;
}
  where
    states : (x : Xid) → state_by (found t x) ≡ doubt_of (state_of s.store x)
    states x = (agrees_of (records_of s.log.sight.kept) t h).states x ∙ sym (stands.doubts x)

-- the record of a turn that is due
pub record_follows : (s : KvSight) (x : Xid) (c : Call) (turn : CallRow) (e : BranchRecord) → IsKvManager s
    → IsTidy s.store → AreWrites (writes_of s.store.writes x)
    → length s.store.tables.branches.branches ≤ 1024 → IsDueTurn s x c turn → turn.entry ≡ Some e
    → (applies e ≡ true → s.store.versions.count + 1 < 2 ^ 63) → IsFollowed s e x
record_follows s x c turn e kept tidy limits few due is fits =
    let ls = records_of s.log.sight.kept in
    let seen = seen_where ls kept.ordered in
    record {
      ordered = ap is_some (seen_one ls seen.0 (entry_record e x (writes_of s.store.writes x)) seen.1)
          ∙ follows seen.0 s.store x (stands_with s seen.0 (kept.stands due.works) seen.1)
          (lawful_of ls seen.0 seen.1).orderly.distinct tidy e (due_from s x c turn e due is)
          (due_untold s x c turn e due is) limits few;
      counted = record_counts s e x (writes_of s.store.writes x) kept due.works fits;
    }
