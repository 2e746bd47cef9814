-- The record of the next boot may follow, and what a crash leaves may follow one another.
use Rattle.std.proofs.Common.{◌≡◌, ◌<◌, ◌+◌, ◌^◌, ◌-◌, ℕ, Bool, true, false, ◌||◌, cond, List, [], ◌∷◌, ◌++◌, Option, Some, None, refl, sym, ap, subst, ◌∙◌, is_some, nat_lt, arith, inl, inr}
use Rattle.std.proofs.lemmas.Bool.Decides.{nat_tests}
use Rattle.protocol.specs.declared.records.LogRecord.{LogRecord}
use Rattle.log_rules.specs.order.Orders.{SeenLog, after, boot_rises, opened as opens_log}
use Rattle.log_text.specs.Made.{frame_record}
use Rattle.log_records.specs.Sights.{LogSight, left_by, records_of}
use Rattle.protocol.specs.Store.{Data}
use Rattle.protocol.specs.declared.names.Kind.TheVariants.{Manager}
use Rattle.log_rules.specs.sound.Sound.{IsSound}
use Rattle.std.specs.List.{AllByRecursion}
use Rattle.kv_state.specs.Replays.{AreCountedCommits, seen_of}
use Rattle.kv_state.proofs.Counting.{counted_front, counted_next, counted_whole, never_far}
use Rattle.kv_manager.specs.declared.restart.Ready.{Ready}
use Rattle.kv_manager.specs.declared.restart.RecordsError.TheVariants.{Exhausted, Unfit}
use Rattle.kv_manager.specs.Restarts.{AreLastBoots, IsReady, KvNotRebuilt, next_boot, opened}
use Rattle.kv_manager.specs.Sights.{IsKvManager, KvSight, are_ordered}
use Rattle.kv_manager.proofs.Bounds.{never_unfit}
use Rattle.resource_manager.proofs.Lefts.{each_left, left_rest}
use Rattle.kv_manager.proofs.Fronts.{ordered_front, seen_one}
use Rattle.kv_manager.proofs.Turns.{data_behind}

rises_next : (o : Option ℕ) (b : ℕ) → next_boot o ≡ Some b → boot_rises o b ≡ true
rises_next None b h = refl
rises_next (Some a) b h = by_test (nat_lt a (2 ^ 63 - 1)) h
  where
    by_test : (t : Bool) → cond t (Some (a + 1)) None ≡ Some b → nat_lt a b ≡ true
    by_test true e =
        let next : a + 1 ≡ b = cc in
        grind (arith, nat_tests, next)
    by_test false e = absurd (cc)

or_true : (b : Bool) → (b || true) ≡ true
or_true true = refl
or_true false = refl

some_if : {A : Type 0} (b : Bool) (u : A) → b ≡ true → is_some (cond b (Some u) None) ≡ true
some_if b u h = ap (λ c. is_some (cond c (Some u) None)) h

boot_after : (s : SeenLog) (b : ℕ) → next_boot s.boot ≡ Some b → is_some (after s (opened b)) ≡ true
unfolding after
boot_after s b next =
    ap (λ t. is_some (cond t (opens_log s b) None)) (or_true (is_some s.boot))
    ∙ some_if _ _ (rises_next s.boot b next)

-- the record of a boot counts nothing
pub opened_counted : (ls : List LogRecord) (b : ℕ) → AreCountedCommits ls
    → AreCountedCommits (ls ++ opened b ∷ [])
opened_counted ls b h =
    counted_next ls (opened b) h
    (subst (λ (d : Data). d.count < 2 ^ 63) (sym (data_behind ls (opened b))) (counted_whole ls h))

pub ready_counted : (ls : List LogRecord) (r : Ready) → IsReady ls r
    → AreCountedCommits (ls ++ frame_record r.opened ∷ [])
ready_counted ls r ready =
    subst (λ l. AreCountedCommits (ls ++ l ∷ [])) (sym ready.spells)
    (opened_counted ls r.boot ready.left.counted)

-- the next boot
pub opened_ordered : (ls : List LogRecord) (s : SeenLog) (b : ℕ) → seen_of ls ≡ Some s
    → next_boot s.boot ≡ Some b → are_ordered (ls ++ opened b ∷ []) ≡ true
opened_ordered ls s b read next = ap is_some (seen_one ls s (opened b) read) ∙ boot_after s b next

pub ready_ordered : (ls : List LogRecord) (r : Ready) → IsReady ls r
    → are_ordered (ls ++ frame_record r.opened ∷ []) ≡ true
ready_ordered ls r ready =
    ap (λ l. are_ordered (ls ++ l ∷ [])) ready.spells
    ∙ opened_ordered ls ready.left.seen r.boot ready.left.read ready.left.next

-- What a crash leaves is a front.

pub left_ordered : (s : LogSight) (keep : ℕ) → are_ordered (records_of s.kept) ≡ true
    → are_ordered (left_by s keep) ≡ true
left_ordered s keep h =
    let rest = left_rest s keep in
    ordered_front (left_by s keep) rest.0 (ap are_ordered rest.1 ∙ h)

pub left_counted : (s : LogSight) (keep : ℕ) → AreCountedCommits (records_of s.kept)
    → AreCountedCommits (left_by s keep)
left_counted s keep h =
    let rest = left_rest s keep in
    counted_front (left_by s keep) rest.0 (subst AreCountedCommits (sym rest.1) h)

-- what a crash leaves of its own records is a manager's, and no boot alone can be what is missing
pub left_fits : (s : KvSight) (keep : ℕ) → IsKvManager s
    → AllByRecursion (IsSound Manager) (records_of s.log.sight.kept)
    → KvNotRebuilt (left_by s.log.sight keep) Unfit → ⊥
left_fits s keep kept sound why =
    never_unfit (left_by s.log.sight keep) (left_ordered s.log.sight keep kept.ordered)
    (each_left (IsSound Manager) s.log.sight keep sound) why

pub left_spent : (s : KvSight) (keep : ℕ) → IsKvManager s → KvNotRebuilt (left_by s.log.sight keep) Exhausted
    → AreLastBoots (left_by s.log.sight keep)
left_spent s keep kept (inl far) =
    absurd (never_far (left_by s.log.sight keep) (left_counted s.log.sight keep kept.counted) far)
left_spent s keep kept (inr last) = last
