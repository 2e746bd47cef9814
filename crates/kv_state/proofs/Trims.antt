-- After a trim a manager's log makes the data that it made before, and says the same of its open branches.
use Rattle.std.proofs.Common.{◌≡◌, ◌∙◌, ℕ, Bool, true, false, cond, Option, List, [], ◌∷◌, ◌++◌, map, fold, refl, ap}
use Rattle.std.proofs.lemmas.List.{map-append}
use Rattle.std.proofs.lemmas.Grind.{fold-append}
use Rattle.std.specs.List.{AllByRecursion}
use Rattle.xa_xid.specs.declared.xid.Xid.{Xid}
use Rattle.xa_branch.specs.declared.decision.Decision.{Decision}
use Rattle.xa_branch.specs.Decisions.{decided_as, decision_after, decision_of, decided_in}
use Rattle.protocol.specs.declared.names.Outcome.TheVariants.{Aborted}
use Rattle.protocol.specs.declared.names.ProcessId.{ProcessId}
use Rattle.protocol.specs.declared.records.BranchName.TheVariants.{Foreign}
use Rattle.protocol.specs.declared.records.LogRecord.{LogRecord}
use Rattle.protocol.specs.declared.records.Record.{Record}
use Rattle.protocol.specs.declared.records.Record.TheVariants.{Base, Opened}
use Rattle.protocol.specs.Records.{is_opened, record_branch}
use Rattle.protocol.specs.Restarts.{is_open}
use Rattle.protocol.specs.Standings.{Mark, Unmarked, mark_after, mark_of, mark_at}
use Rattle.protocol.specs.Store.{Data, base_records, no_data, pair_record, stored, stored_after, writes_of, data_of}
use Rattle.log_rules.specs.trim.Trims.{front_of_trim, last_opened, opened_after, staying, trim_of}
use Rattle.kv_store.specs.Pairs.{keys_rise}
use Rattle.protocol.specs.LogNames.{renamed_by, by_xid, unnamed}
use Rattle.kv_state.specs.Keeping.{TrimsKeepData, is_managers}
use Rattle.kv_state.proofs.Deciding.{decisions_from}
use Rattle.kv_state.proofs.Promised.{kept_from, live, marks_from}
use Rattle.kv_state.proofs.Rebasing.{bases_read, rebased}

-- the data after more records
abbrev behind : Data → List LogRecord → Data
behind d ls = fold stored_after d (map by_xid ls)

both_parts : (d : Data) (xs ys : List LogRecord) → behind d (xs ++ ys) ≡ behind (behind d xs) ys
both_parts d xs ys = ap (fold stored_after d) (map-append by_xid xs ys)
    ∙ fold-append stored_after d (map by_xid xs) (map by_xid ys)

-- the last Opened makes no data

opened_makes : (d : Data) (q : Option ProcessId) (r : Record) → is_opened r ≡ true
    → stored_after d (renamed_by q (record_branch r) r) ≡ d
opened_makes d q (Opened n) h = refl
opened_makes d q r h = absurd (cc)

all_opened : (ls os : List LogRecord) → AllByRecursion (λ l. is_opened l.entry ≡ true) os
    → AllByRecursion (λ l. is_opened l.entry ≡ true) (fold opened_after os ls)
all_opened [] os h = h
all_opened (l ∷ ls) os h = all_opened ls (opened_after os l) (by_test (is_opened l.entry) refl)
  where
    by_test : (t : Bool) → is_opened l.entry ≡ t
        → AllByRecursion (λ l. is_opened l.entry ≡ true) (cond t (l ∷ []) os)
    by_test true e = (e, tt)
    by_test false e = h

they_make : (os : List LogRecord) (d : Data) → AllByRecursion
    (λ l. is_opened l.entry ≡ true) os → behind d os ≡ d
they_make [] d h = refl
they_make (l ∷ os) d h = ap (λ e. behind e os) (opened_makes d l.parent l.entry h.0) ∙ they_make os d h.1

none_made : (ls : List LogRecord) → behind no_data (last_opened ls) ≡ no_data
unfolding last_opened
none_made ls = they_make (fold opened_after [] ls) no_data (all_opened ls [] tt)

-- what the records that stay make
front_made : (ls : List LogRecord) → behind no_data (front_of_trim ls) ≡ behind no_data (staying ls ls)
unfolding front_of_trim
front_made ls = both_parts no_data (last_opened ls) (staying ls ls)
    ∙ ap (λ d. behind d (staying ls ls)) (none_made ls)

trimmed_data : (ls : List LogRecord) → keys_rise (data_of ls).pairs ≡ true
    → data_of (trim_of ls) ≡ record {
      count = (data_of ls).count;
      pairs = (data_of ls).pairs;
      promised = (behind no_data (staying ls ls)).promised;
    }
unfolding stored
trimmed_data ls rise =
    both_parts no_data (front_of_trim ls) (map unnamed (base_records (data_of ls)))
    ∙ ap (fold stored_after (behind no_data (front_of_trim ls))) (bases_read (data_of ls))
    ∙ rebased (data_of ls) (behind no_data (front_of_trim ls)) rise
    ∙ ap (λ (d : Data). record {
      count = (data_of ls).count;
      pairs = (data_of ls).pairs;
      promised = d.promised;
    }) (front_made ls)

-- what the records say of a branch

module _ {S : Type 0} (step : S → Record → S)
    (opened : (s : S) (q : Option ProcessId) (r : Record) → is_opened r ≡ true
    → step s (renamed_by q (record_branch r) r) ≡ s)
    (base : (s : S) (n : ℕ) → step s (Base n) ≡ s)
    (pair : (s : S) (p : List ℕ × List ℕ) → step s (pair_record p) ≡ s) where
  abbrev said : S → List LogRecord → S
  said s ls = fold step s (map by_xid ls)

  said_parts : (s : S) (xs ys : List LogRecord) → said s (xs ++ ys) ≡ said (said s xs) ys
  said_parts s xs ys = ap (fold step s) (map-append by_xid xs ys)
      ∙ fold-append step s (map by_xid xs) (map by_xid ys)

  they_say : (os : List LogRecord) (s : S) → AllByRecursion (λ l. is_opened l.entry ≡ true) os → said s os ≡ s
  they_say [] s h = refl
  they_say (l ∷ os) s h = ap (λ n. said n os) (opened s l.parent l.entry h.0) ∙ they_say os s h.1

  pairs_say : (ps : List (List ℕ × List ℕ)) (s : S) → fold step s (map pair_record ps) ≡ s
  pairs_say [] s = refl
  pairs_say (p ∷ ps) s = ap (λ n. fold step n (map pair_record ps)) (pair s p) ∙ pairs_say ps s

  bases_say : (d : Data) (s : S) → said s (map unnamed (base_records d)) ≡ s
  bases_say d s =
      ap (fold step s) (bases_read d) ∙ ap (λ n. fold step n (map pair_record d.pairs))
      (base s d.count) ∙ pairs_say d.pairs s

  front_says : (ls : List LogRecord) (s : S) → said s (front_of_trim ls) ≡ said s (staying ls ls)
  unfolding front_of_trim last_opened
  front_says ls s =
      said_parts s (last_opened ls) (staying ls ls)
      ∙ ap (λ m. said m (staying ls ls)) (they_say (fold opened_after [] ls) s (all_opened ls [] tt))

  -- a trimmed log says what stays
  trimmed_says : (ls : List LogRecord) (s : S) → said s (trim_of ls) ≡ said s (staying ls ls)
  trimmed_says ls s =
      said_parts s (front_of_trim ls) (map unnamed (base_records (data_of ls)))
      ∙ bases_say (data_of ls) (said s (front_of_trim ls)) ∙ front_says ls s

module _ (x : Xid) where
  opened_marks : (m : Mark) (q : Option ProcessId) (r : Record) → is_opened r ≡ true
      → mark_after (Foreign x) m (renamed_by q (record_branch r) r) ≡ m
  opened_marks m q (Opened n) h = refl
  opened_marks m q r h = absurd (cc)

  opened_decides : (d : Decision) (q : Option ProcessId) (r : Record) → is_opened r ≡ true
      → decision_after (Foreign x) d (renamed_by q (record_branch r) r) ≡ d
  opened_decides d q (Opened n) h = refl
  opened_decides d q r h = absurd (cc)

  trimmed_marks : (ls : List LogRecord) → AllByRecursion (λ l. is_managers l.entry ≡ true) ls
      → is_open (mark_at ls x) ≡ true
      → mark_at (trim_of ls) x ≡ mark_at ls x
  unfolding mark_of
  trimmed_marks ls managers stands =
      trimmed_says (mark_after (Foreign x)) opened_marks (λ m n. refl) (λ m p. refl) ls Unmarked
      ∙ marks_from x ls (live x ls managers stands) ls managers Unmarked Unmarked (λ none. refl)

  trimmed_decides : (ls : List LogRecord) → AllByRecursion (λ l. is_managers l.entry ≡ true) ls
      → is_open (mark_at ls x) ≡ true
      → decided_in (trim_of ls) x ≡ decided_in ls x
  unfolding decision_of
  trimmed_decides ls managers stands =
      trimmed_says (decision_after (Foreign x)) opened_decides (λ d n. refl)
      (λ d p. refl) ls (decided_as Aborted)
      ∙ decisions_from x ls (live x ls managers stands) ls (decided_as Aborted)
      (decided_as Aborted) (λ none. refl)

pub trims_keep_data : TrimsKeepData
unfolding stored
trims_keep_data ls managers rise = record {
  count = ap (λ d. d.count) (trimmed_data ls rise);
  pairs = ap (λ d. d.pairs) (trimmed_data ls rise);
  promises = λ x stands. ap (λ d. writes_of (Foreign x) d.promised) (trimmed_data ls rise)
      ∙ kept_from x ls (live x ls managers stands) ls managers no_data no_data (λ none. refl);
  marks = λ x stands. trimmed_marks x ls managers stands;
  decisions = λ x stands. trimmed_decides x ls managers stands;
}
