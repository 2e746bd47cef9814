-- Of what may follow one another at most 1,024 branches are open or heuristic, and each wrote what a branch
-- can.
use Rattle.std.proofs.Common.{◌≡◌, ◌≤◌, ◌<◌, ℕ, Bool, true, false, not, ◌||◌, cond, suc, List, [], ◌∷◌, Option, Some, None, map, refl, sym, ap, subst, ◌∙◌, is_some, nat_lt, length, arith, inl, inr}
use Rattle.std.proofs.lemmas.Bool.Decides.{nat_tests}
use Rattle.std.specs.List.{AllByRecursion, IsDistinct, list_any}
use Rattle.std.specs.Map.{keys_of, lookup, remove_entry}
use Rattle.indexmap.specs.IndexMap.{insert_entry}
use Rattle.xa_xid.specs.declared.xid.Xid.{Xid}
use Rattle.xa_words.specs.code
use Rattle.xa_assoc.specs.Restored.{has_twice, restore_refusal}
use Rattle.protocol.specs.declared.names.Kind.TheVariants.{Manager}
use Rattle.protocol.specs.declared.names.ProcessId.{ProcessId}
use Rattle.protocol.specs.declared.records.BranchName.{BranchName}
use Rattle.protocol.specs.declared.records.LogRecord.{LogRecord}
use Rattle.protocol.specs.declared.records.Record.{Record}
use Rattle.protocol.specs.declared.records.Record.TheVariants.{Prepared}
use Rattle.protocol.specs.declared.records.Write.{Write}
use Rattle.protocol.specs.LogNames.{name_xid}
use Rattle.log_rules.specs.declared.order.seen.Promise.{Promise}
use Rattle.log_rules.specs.order.Orders.{SeenLog, after, in_doubt_by, nothing_seen, opens, promised_by, same}
use Rattle.log_rules.specs.sound.Sound.{IsSound, IsSoundEntry, IsSoundWrite, AreSoundWrites}
use Rattle.kv_state.specs.Replays.{AreMalformed, seen_of}
use Rattle.kv_state.proofs.Lawful.{lawful_of}
use Rattle.kv_state.proofs.Lookups.{Live, apart_turns}
use Rattle.kv_manager.specs.Restarts.{AreTooManyBranches, KvNotRebuilt}
use Rattle.kv_manager.specs.declared.restart.RecordsError.TheVariants.{Unfit}
use Rattle.kv_manager.specs.Sights.{are_ordered}
use Rattle.kv_manager.proofs.Steps.{Steps, Stays, Puts, Marks, Leaves, each_step, steps_after}

-- How many there are.

suc_cond : (b : Bool) (m n : ℕ) → suc (cond b m n) ≡ cond b (suc m) (suc n)
suc_cond true m n = refl
suc_cond false m n = refl

length_put : (x : Xid) (p : Promise) (es : Live)
    → length (insert_entry same es x p) ≡ cond (is_some (lookup (same x) es)) (length es) (suc (length es))
length_put x p [] = refl
length_put x p (e ∷ es) = by_test (same x e.0) (length_put x p es)
  where
    by_test : (b : Bool)
        → length (insert_entry same es x p) ≡ cond (is_some (lookup (same x) es)) (length es)
        (suc (length es))
        → length (cond b ((e.0, p) ∷ es) (e ∷ insert_entry same es x p))
        ≡ cond (is_some (cond b (Some e.1) (lookup (same x) es))) (suc (length es)) (suc (suc (length es)))
    by_test true h = refl
    by_test false h = ap suc h ∙ suc_cond (is_some (lookup (same x) es)) (length es) (suc (length es))

length_out : (x : Xid) (es : Live) → length (remove_entry (same x) es) ≤ length es
length_out x [] = omega arith
length_out x (e ∷ es) = by_test (same x e.0) (length_out x es)
  where
    by_test : (b : Bool) → length (remove_entry (same x) es) ≤ length es
        → length (cond b es (e ∷ remove_entry (same x) es)) ≤ suc (length es)
    by_test true h = omega arith
    by_test false h = omega (arith, h)

abbrev pub AreFew : SeenLog → Type 0
AreFew s = length s.live ≤ 1024

pub few_after : (s t : SeenLog) (l : LogRecord) → AreFew s → after s l ≡ Some t → AreFew t
few_after s t l few h = by_step (steps_after s t l h)
  where
    by_step : Steps s t l.parent l.entry → AreFew t
    by_step (Stays is) = subst (λ (es : Live). length es ≤ 1024) (sym is) few
    by_step (Puts b ws r off room is) =
        let long = ap length is ∙ length_put (name_xid l.parent b) _ s.live
        ∙ ap (λ c. cond c (length s.live) (suc (length s.live))) off in
        let below : length s.live < 1024 = grind (arith, nat_tests, room) in
        omega (arith, long, below)
    by_step (Marks x m known shut is) =
        let long = ap length is ∙ length_put x _ s.live
        ∙ ap (λ c. cond c (length s.live) (suc (length s.live))) known in
        omega (arith, long, few)
    by_step (Leaves x is) =
        let long = length_out x s.live in
        let one = ap length is in
        omega (arith, one, long, few)

no_claims : (ls : List LogRecord) → AllByRecursion (λ l. Unit {0}) ls
no_claims [] = tt
no_claims (l ∷ ls) = (tt, no_claims ls)

pub few_of : (ls : List LogRecord) (t : SeenLog) → seen_of ls ≡ Some t → length t.live ≤ 1024
few_of ls t h = each_step AreFew (λ l. Unit {0}) (λ s u l q few e. few_after s u l few e) ls (no_claims ls)
    nothing_seen t (omega arith) h

-- So none are refused after a restart.

none_twice : (es : Live) → IsDistinct same (keys_of es)
    → has_twice (map (λ e. (e.0, not (opens e.1.mark))) es) ≡ false
unfolding IsDistinct
none_twice [] d = refl
none_twice (e ∷ es) d = both_false _ _ (none_again es d.0) (none_twice es d.1)
  where
    both_false : (a b : Bool) → a ≡ false → b ≡ false → (a || b) ≡ false
    both_false a b p q = ap (λ c. c || b) p ∙ q

    none_again : (fs : Live) → AllByRecursion (λ y. same e.0 y ≡ false) (keys_of fs)
        → list_any (λ (f : Xid × Bool). same f.0 e.0) (map (λ f. (f.0, not (opens f.1.mark))) fs) ≡ false
    none_again [] all = refl
    none_again (f ∷ fs) all = both_false _ _ (apart_turns e.0 f.0 all.0) (none_again fs all.1)

length_left : (es : Live) → length {A = Xid × Bool} (map (λ e. (e.0, not (opens e.1.mark))) es) ≡ length es
length_left [] = refl
length_left (e ∷ es) = ap suc (length_left es)

pub none_refused : (ls : List LogRecord) (t : SeenLog) → seen_of ls ≡ Some t
    → restore_refusal (in_doubt_by t) ≡ None
none_refused ls t h =
    let few = few_of ls t h in
    let long = length_left t.live in
    by_tests (nat_lt 1024 (length (in_doubt_by t))) (has_twice (in_doubt_by t))
    (grind (arith, nat_tests, few, long)) (none_twice t.live (lawful_of ls t h).orderly.distinct)
  where
    by_tests : (a b : Bool) → a ≡ false → b ≡ false
        → cond a (Some code.RmErr) (cond b (Some code.DupId) None) ≡ None
    by_tests false false p q = refl
    by_tests true b p q = absurd (cc)
    by_tests false true p q = absurd (cc)

-- What each wrote.

-- a branch can have written this much
abbrev pub CanWrite : Promise → Type 0
CanWrite p = (length p.writes ≤ 64) × AllByRecursion IsSoundWrite p.writes

abbrev pub AllWrite : SeenLog → Type 0
AllWrite s = AllByRecursion (λ e. CanWrite e.1) s.live

all_put : (x : Xid) (p : Promise) (es : Live) → CanWrite p → AllByRecursion (λ e. CanWrite e.1) es
    → AllByRecursion (λ e. CanWrite e.1) (insert_entry same es x p)
all_put x p [] own all = (own, tt)
all_put x p (e ∷ es) own all = by_test (same x e.0) (all_put x p es own all.1)
  where
    by_test : (b : Bool) → AllByRecursion (λ e. CanWrite e.1) (insert_entry same es x p)
        → AllByRecursion (λ e. CanWrite e.1) (cond b ((e.0, p) ∷ es) (e ∷ insert_entry same es x p))
    by_test true h = (own, all.1)
    by_test false h = (all.0, h)

all_out : (x : Xid) (es : Live) → AllByRecursion (λ e. CanWrite e.1) es
    → AllByRecursion (λ e. CanWrite e.1) (remove_entry (same x) es)
all_out x [] all = tt
all_out x (e ∷ es) all = by_test (same x e.0) (all_out x es all.1)
  where
    by_test : (b : Bool) → AllByRecursion (λ e. CanWrite e.1) (remove_entry (same x) es)
        → AllByRecursion (λ e. CanWrite e.1) (cond b es (e ∷ remove_entry (same x) es))
    by_test true h = all.1
    by_test false h = (all.0, h)

of_prepared : (q : Option ProcessId) (r : Record) (b : BranchName) (ws : List Write) → r ≡ Prepared b ws
    → IsSoundEntry Manager q r → AreSoundWrites ws
of_prepared q r b ws is sound = (subst (IsSoundEntry Manager q) is sound).1

write_after : (s t : SeenLog) (l : LogRecord) → IsSound Manager l → AllWrite s → after s l ≡ Some t
    → AllWrite t
write_after s t l sound all h = by_step (steps_after s t l h)
  where
    on : (es : Live) → t.live ≡ es → AllByRecursion (λ e. CanWrite e.1) es → AllWrite t
    on es is a = subst (λ (fs : Live). AllByRecursion (λ e. CanWrite e.1) fs) (sym is) a

    by_step : Steps s t l.parent l.entry → AllWrite t
    by_step (Stays is) = on s.live is all
    by_step (Puts b ws r off room is) =
        let writes = of_prepared l.parent l.entry b ws r sound in
        on _ is (all_put (name_xid l.parent b) _ s.live (writes.few, writes.each) all)
    by_step (Marks x m known shut is) = on _ is (all_put x _ s.live (omega arith, tt) all)
    by_step (Leaves x is) = on _ is (all_out x s.live all)

write_of : (ls : List LogRecord) (t : SeenLog) → AllByRecursion (IsSound Manager) ls → seen_of ls ≡ Some t
    → AllWrite t
write_of ls t sound h = each_step AllWrite (IsSound Manager) write_after ls sound nothing_seen t tt h

found_write : (es : Live) (x : Xid) → AllByRecursion (λ e. CanWrite e.1) es
    → (length (promised_by (lookup (same x) es)) ≤ 64)
    × AllByRecursion IsSoundWrite (promised_by (lookup (same x) es))
found_write [] x all = (omega arith, tt)
found_write (e ∷ es) x all = by_test (same x e.0) (found_write es x all.1)
  where
    by_mark : (b : Bool) → (length (cond b e.1.writes []) ≤ 64)
        × AllByRecursion IsSoundWrite (cond b e.1.writes [])
    by_mark true = all.0
    by_mark false = (omega arith, tt)

    by_test : (b : Bool) → (length (promised_by (lookup (same x) es)) ≤ 64)
        × AllByRecursion IsSoundWrite (promised_by (lookup (same x) es))
        → (length (promised_by (cond b (Some e.1) (lookup (same x) es))) ≤ 64)
        × AllByRecursion IsSoundWrite (promised_by (cond b (Some e.1) (lookup (same x) es)))
    by_test true h = by_mark (opens e.1.mark)
    by_test false h = h

-- sound records that may follow one another are those of a key store
pub never_malformed : (ls : List LogRecord) → are_ordered ls ≡ true → AllByRecursion (IsSound Manager) ls
    → AreMalformed ls → ⊥
never_malformed ls ordered sound (inl none) =
    absurd (let never : true ≡ false = sym ordered ∙ ap is_some none in cc)
never_malformed ls ordered sound (inr h) =
    let parts = found_write h.0.live h.2.branch (write_of ls h.0 sound h.1) in
    h.2.breaks (record {
      few = parts.0;
      each = parts.1;
      once = (lawful_of ls h.0 h.1).orderly.once h.2.branch;
    })

-- Records that may follow one another are never too many.

never_too_many : (ls : List LogRecord) → AreTooManyBranches ls → ⊥
never_too_many ls h =
    absurd (let never : None ≡ Some h.refusal = sym (none_refused ls h.seen h.read) ∙ h.refused in cc)

-- what sound records leave that may follow one another is a manager
pub never_unfit : (ls : List LogRecord) → are_ordered ls ≡ true → AllByRecursion (IsSound Manager) ls
    → KvNotRebuilt ls Unfit → ⊥
never_unfit ls ordered sound (inl malformed) = never_malformed ls ordered sound malformed
never_unfit ls ordered sound (inr many) = never_too_many ls many
