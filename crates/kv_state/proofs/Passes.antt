-- The pass over the records.
use Rattle.std.proofs.Common.{◌≡◌, ◌≤◌, ◌<◌, ◌^◌, inl, ℕ, Bool, true, false, cond, nat_le, arith, List, [], ◌∷◌, ◌++◌, Option, Some, None, Result, Ok, Err, IfErr, IfOk, map, fold, refl, sym, ap, subst, ◌∙◌, append_assoc, append-nil}
use Rattle.std.proofs.lemmas.Bool.Decides.{nat_tests}
use Rattle.std.specs.Result.{IsErrAnd}
use Rattle.log_text.specs.declared.records.ReadFault.{ReadFault}
use Rattle.log_text.specs.declared.records.ReadFault.TheVariants as fault
use Rattle.protocol.specs.declared.records.LogRecord.{LogRecord}
use Rattle.protocol.specs.Store.{Data, no_data, stored, stored_after, data_of}
use Rattle.log_rules.specs.order.Orders.{SeenLog, after, nothing_seen}
use Rattle.kv_store.specs.Versions.{VersionTable, value_at, value_by}
use Rattle.kv_store.specs.Pairs.{found_in}
use Rattle.kv_state.specs.declared.fault.ReplayError.{ReplayError}
use Rattle.kv_state.specs.declared.fault.ReplayError.TheVariants.{Memory, Malformed, Exhausted}
use Rattle.kv_state.specs.Folds.{AreData, GoBack, base_after, data_behind, last_within, latest}
use Rattle.protocol.specs.LogNames.{by_xid}
use Rattle.kv_state.specs.Replays.{AreCountedCommits, CountTooFar, ReplayFails, KeepsBefore, Reads, TakeFails, DataTake, error_of, seen_after, seen_of}
use Rattle.kv_state.specs.Remembered.{HasRead, ReadsNow}
use Rattle.kv_state.specs.declared.replayed.ReplayState.{ReplayState}
use Rattle.kv_state.proofs.Counting.{counted_next, counted_whole}
use Rattle.kv_state.proofs.Lawful.{lawful_of}

seen_nothing : (ls : List LogRecord) → seen_after None ls ≡ None
unfolding seen_after
seen_nothing [] = refl
seen_nothing (l ∷ ls) = refl

seen_more : (o : Option SeenLog) (ls ks : List LogRecord)
    → seen_after o (ls ++ ks) ≡ seen_after (seen_after o ls) ks
unfolding seen_after
seen_more o [] ks = refl
seen_more None (l ∷ ls) ks = sym (seen_nothing ks)
seen_more (Some s) (l ∷ ls) ks = seen_more (after s l) ls ks

seen_next : (ls : List LogRecord) (s : SeenLog) (l : LogRecord) (rest : List LogRecord) → seen_of ls ≡ Some s
    → seen_of (ls ++ l ∷ rest) ≡ seen_after (after s l) rest
unfolding seen_after
seen_next ls s l rest h = seen_more (Some nothing_seen) ls (l ∷ rest) ∙ ap (λ o. seen_after o (l ∷ rest)) h

fold_next : (d : Data) (ls : List LogRecord) (l : LogRecord)
    → fold stored_after d (map by_xid (ls ++ l ∷ [])) ≡ stored_after (fold stored_after d (map by_xid ls))
    (by_xid l)
fold_next d [] l = refl
fold_next d (k ∷ ls) l = fold_next (stored_after d (by_xid k)) ls l

data_next : (ls : List LogRecord) (l : LogRecord) → data_of (ls ++ l ∷ []) ≡ stored_after (data_of ls)
    (by_xid l)
unfolding stored
data_next ls l = fold_next no_data ls l

base_next : (b : ℕ) (ls : List LogRecord) (l : LogRecord)
    → fold base_after b (map (λ k. k.entry) (ls ++ l ∷ [])) ≡ base_after
    (fold base_after b (map (λ k. k.entry) ls)) l.entry
base_next b [] l = refl
base_next b (k ∷ ls) l = base_next (base_after b k.entry) ls l

behind_next : (n : ℕ) (b d : Data) (ls : List LogRecord) (l : LogRecord)
    → last_within n b d (map by_xid (ls ++ l ∷ []))
    ≡ latest n (last_within n b d (map by_xid ls)) (fold stored_after d (map by_xid (ls ++ l ∷ [])))
unfolding last_within
behind_next n b d [] l = refl
behind_next n b d (k ∷ ls) l = behind_next n (latest n b (stored_after d (by_xid k)))
    (stored_after d (by_xid k)) ls l

data_behind_next : (n : ℕ) (ls : List LogRecord) (l : LogRecord)
    → data_behind n (ls ++ l ∷ []) ≡ latest n (data_behind n ls) (data_of (ls ++ l ∷ []))
unfolding stored
data_behind_next n ls l = behind_next n no_data no_data ls l

-- a key's value after N commits, where the last record counts no more of them, and where it does
module _ (ls : List LogRecord) (l : LogRecord) (v w : VersionTable) (back : GoBack v ls)
    (are : AreData w (data_of (ls ++ l ∷ []))) (keeps : KeepsBefore v w l.entry) where
  here : (n : ℕ) (k : List ℕ) → n ≤ w.count → nat_le (data_of (ls ++ l ∷ [])).count n ≡ true
      → value_at w n k ≡ found_in (data_of (ls ++ l ∷ [])).pairs k
  here n k high e =
      let count = are.count in
      let is : n ≡ w.count = grind (arith, nat_tests) in
      ap (λ m. value_at w m k) is ∙ are.values k

  earlier : (n : ℕ) (k : List ℕ) → w.base ≤ n → nat_le (data_of (ls ++ l ∷ [])).count n ≡ false
      → value_at w n k ≡ found_in (data_behind n ls).pairs k
  earlier n k low e =
      let count = are.count in
      let below : n < w.count = grind (arith, nat_tests) in
      let stays = keeps.before n low below in
      stays.2 k ∙ back.values n k stays.0 stays.1

  history_goes_on : GoBack w (ls ++ l ∷ [])
  history_goes_on = record {
    base = keeps.base ∙ ap (λ b. base_after b l.entry) back.base ∙ sym (base_next 0 ls l);
    values = λ n k low high. by_test n k low high (nat_le (data_of (ls ++ l ∷ [])).count n) refl
        ∙ ap (λ (d : Data). found_in d.pairs k) (sym (data_behind_next n ls l));
  }
    where
      by_test : (n : ℕ) (k : List ℕ) → w.base ≤ n → n ≤ w.count → (b : Bool)
          → nat_le (data_of (ls ++ l ∷ [])).count n ≡ b
          → value_at w n k ≡ found_in (cond (nat_le (data_of (ls ++ l ∷ [])).count n)
          (data_of (ls ++ l ∷ [])) (data_behind n ls)).pairs k
      by_test n k low high true e = here n k high e
          ∙ ap (λ b. found_in (cond b (data_of (ls ++ l ∷ [])) (data_behind n ls)).pairs k) (sym e)
      by_test n k low high false e = earlier n k low e
          ∙ ap (λ b. found_in (cond b (data_of (ls ++ l ∷ [])) (data_behind n ls)).pairs k) (sym e)

-- Before any record.

-- no records say nothing, and make no data
pub nothing_read : (s : SeenLog) (v : VersionTable) → s ≡ nothing_seen
    → v ≡ record { base = 0; count = 0; is_staged = false; versions = [] } → ReadsNow [] s v
unfolding seen_after stored value_by
nothing_read s v seen none = subst (λ w. ReadsNow [] s w) (sym none)
    (subst (λ t. ReadsNow [] t (record { base = 0; count = 0; is_staged = false; versions = [] })) (sym seen)
    (record {
      read = refl;
      stored = record { count = refl; unstaged = refl; values = λ k. refl };
      counted = omega arith;
    }))

-- and they go back to where they begin
pub nothing_before : (v : VersionTable) → v ≡ record { base = 0; count = 0; is_staged = false; versions = [] }
    → GoBack v []
unfolding value_by last_within
nothing_before v none = subst (λ w. GoBack w []) (sym none)
    (record { base = refl; values = λ n k low high. refl })

-- One record more.

pub read_next : (ls : List LogRecord) (l : LogRecord) (s t : SeenLog) (v w : VersionTable) → ReadsNow ls s v
    → after s l ≡ Some t → DataTake s l v w → w.count < 2 ^ 63 → ReadsNow (ls ++ l ∷ []) t w
unfolding seen_after
read_next ls l s t v w reads may takes fits =
    let are : AreData w (data_of (ls ++ l ∷ [])) =
    subst (AreData w) (sym (data_next ls l))
    (takes (data_of ls) (lawful_of ls s reads.read).tied reads.stored) in
    record {
      read = seen_next ls s l [] reads.read ∙ may;
      stored = are;
      counted = counted_next ls l reads.counted (subst (λ n. n < 2 ^ 63) are.count fits);
    }

-- why one is not taken is why all records leave nothing
take_fails : (ls : List LogRecord) (l : LogRecord) (rest : List LogRecord) (s : SeenLog) (v : VersionTable)
    (e : ReplayError) → ReadsNow ls s v → TakeFails s l v e → ReplayFails (ls ++ l ∷ rest) e
take_fails ls l rest s v Memory reads fails = tt
take_fails ls l rest s v Malformed reads fails =
    inl (seen_next ls s l rest reads.read ∙ ap (λ o. seen_after o rest) fails ∙ seen_nothing rest)
take_fails ls l rest s v Exhausted reads fails = record {
  front = ls ++ l ∷ [];
  behind = rest;
  parts = sym (append_assoc ls (l ∷ []) rest);
  far = subst (λ d. 2 ^ 63 ≤ d.count) (sym (data_next ls l)) (fails (data_of ls) reads.stored);
}

-- Reading on.

-- of these records, which come after some that were read, a front has been read
pub record ReadsOn (old : SeenLog) (before : VersionTable) (all rest : List LogRecord) (s : SeenLog)
    (v : VersionTable) : Type 0 where
  pub some : List LogRecord
  pub begun : ReadsNow some old before
  pub done : List LogRecord
  pub parts : all ≡ done ++ rest
  pub reads : (ls : List LogRecord) → ReadsNow ls old before → ReadsNow (ls ++ done) s v
  pub history : (ls : List LogRecord) → ReadsNow ls old before → GoBack before ls → GoBack v (ls ++ done)
  pub unstaged : v.is_staged ≡ false
  pub fits : v.count < 2 ^ 63

pub reading_on_begins : (old : SeenLog) (before : VersionTable) (all rest : List LogRecord) → rest ≡ all
    → HasRead old before → ReadsOn old before all rest old before
reading_on_begins old before all rest whole h = record {
  some = h.0;
  begun = h.1;
  done = [];
  parts = sym whole;
  reads = λ ls reads. subst (λ ks. ReadsNow ks old before) (sym (append-nil ls)) reads;
  history = λ ls reads back. subst (λ ks. GoBack before ks) (sym (append-nil ls)) back;
  unstaged = h.1.stored.unstaged;
  fits = subst (λ n. n < 2 ^ 63) (sym h.1.stored.count) (counted_whole h.0 h.1.counted);
}

module _ (old : SeenLog) (before : VersionTable) (all : List LogRecord) (l : LogRecord)
    (rest : List LogRecord)
    (s : SeenLog) (v : VersionTable) (reading : ReadsOn old before all (l ∷ rest) s v) where
  pub reading_on_goes_on : (t : SeenLog) (w : VersionTable) → after s l ≡ Some t → DataTake s l v w
      → KeepsBefore v w l.entry → w.count < 2 ^ 63 → ReadsOn old before all rest t w
  reading_on_goes_on t w may takes keeps fits = record {
    some = reading.some;
    begun = reading.begun;
    done = reading.done ++ l ∷ [];
    parts = reading.parts ∙ sym (append_assoc reading.done (l ∷ []) rest);
    reads = λ ls reads. subst (λ ks. ReadsNow ks t w) (append_assoc ls reading.done (l ∷ [])) (next ls reads);
    history = λ ls reads back. subst (GoBack w) (append_assoc ls reading.done (l ∷ []))
        (history_goes_on (ls ++ reading.done) l v w (reading.history ls reads back)
        (next ls reads).stored keeps);
    unstaged = (next reading.some reading.begun).stored.unstaged;
    fits = fits;
  }
    where
      next : (ls : List LogRecord) → ReadsNow ls old before → ReadsNow ((ls ++ reading.done) ++ l ∷ []) t w
      next ls reads = read_next (ls ++ reading.done) l s t v w (reading.reads ls reads) may takes fits

  pub reading_on_fails : (e : ReplayError) → TakeFails s l v e → (ls : List LogRecord)
      → ReadsNow ls old before
      → ReplayFails (ls ++ all) e
  reading_on_fails e fails ls reads =
      subst (λ ks. ReplayFails ks e)
      (append_assoc ls reading.done (l ∷ rest) ∙ ap (λ ks. ls ++ ks) (sym reading.parts))
      (take_fails (ls ++ reading.done) l rest s v e (reading.reads ls reads) fails)

module _ (old : SeenLog) (before : VersionTable) (all : List LogRecord) (s : SeenLog) (v : VersionTable)
    (reading : ReadsOn old before all [] s v) where
  is_done : reading.done ≡ all
  is_done = sym (reading.parts ∙ append-nil reading.done)

  pub reading_on_ends : (ls : List LogRecord) → ReadsNow ls old before → ReadsNow (ls ++ all) s v
  reading_on_ends ls reads = subst (λ ks. ReadsNow (ls ++ ks) s v) is_done (reading.reads ls reads)

  pub history_on_ends : (ls : List LogRecord) → ReadsNow ls old before → GoBack before ls
      → GoBack v (ls ++ all)
  history_on_ends ls reads back = subst (λ ks. GoBack v (ls ++ ks)) is_done (reading.history ls reads back)

-- all records are read on from none
pub read_all : (ls : List LogRecord) (old : SeenLog) (before : VersionTable) (r : Result ReplayState ReplayError)
    → ReadsNow [] old before → GoBack before []
    → IfOk r (λ all. (ks : List LogRecord) → ReadsNow ks old before → ReadsNow (ks ++ ls) all.seen all.data)
    → IfOk r (λ all. (ks : List LogRecord) → ReadsNow ks old before → GoBack before ks
    → GoBack all.data (ks ++ ls))
    → IfOk r (λ all. Reads ls all.seen all.data)
read_all ls old before (Ok all) begun back reads history =
    let now : ReadsNow ls all.seen all.data = reads [] begun in
    record { read = now.read; stored = now.stored; history = history [] begun back; counted = now.counted }
read_all ls old before (Err e) begun back reads history = tt

-- a record that may not follow is not taken
pub refused_take : (s : SeenLog) (l : LogRecord) (v : VersionTable) (f : ReadFault)
    → (f ≡ fault.Malformed → after s l ≡ None)
    → TakeFails s l v (error_of f)
refused_take s l v fault.Memory never = tt
refused_take s l v fault.Malformed never = never refl

-- an error that is passed on
pub passed_on : {T E : Type 0} (r : Result T E) (e : E) (P : E → Type 0) → IsErrAnd r (λ x. x ≡ e) → P e
    → IfErr r P
passed_on (Ok t) e P is h = tt
passed_on (Err x) e P is h = subst P (sym is) h
