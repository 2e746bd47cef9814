-- What a restart remembers of its log, read on and forgotten.
use Rattle.std.proofs.Common.{◌≡◌, ◌≤◌, ◌<◌, ◌+◌, ◌-◌, ◌⊎◌, inl, inr, ℕ, Bool, true, false, ◌&&◌, ◌||◌, if◌then◌else◌, cond, nat_le, List, [], ◌∷◌, ◌++◌, length, take, drop, slice_index_or, Option, Some, None, map, fold, filter, is_some, not, unwrap_or, refl, sym, ap, subst, ◌∙◌, arith}
use Rattle.std.proofs.lemmas.Bool.Decides.{nat_tests}
use Rattle.std.proofs.lemmas.List.{append-nil, append_assoc}
use Rattle.std.proofs.Math.Seq.{take-length}
use Rattle.std.specs.List.{AllByRecursion, flat_map}
use Rattle.std.specs.Map.{lookup}
use Rattle.indexmap.specs.IndexMap.{insert_entry}
use Rattle.protocol.specs.declared.names.Case.{Case}
use Rattle.protocol.specs.declared.names.ProcessId.{ProcessId}
use Rattle.protocol.specs.declared.trees.TreeProcess.{TreeProcess}
use Rattle.protocol.specs.declared.records.LogRecord.{LogRecord}
use Rattle.protocol.specs.declared.records.Record.{Record}
use Rattle.protocol.specs.LogNames.{foreign_to, is_own, own_by, own_records}
use Rattle.protocol.specs.Nodes.{AtRoot, Below, Place}
use Rattle.protocol.specs.declared.records.Record.TheVariants.{Opened}
use Rattle.protocol.specs.declared.standings.Standing.{Standing}
use Rattle.protocol.specs.declared.standings.Standing.TheVariants.{Unknown, Active, Collecting, Prepared, Committing, Aborting, Heuristic}
use Rattle.protocol.specs.Names.{same_case}
use Rattle.protocol.specs.Records.{boot_after, boot_of, cases_in, record_case}
use Rattle.protocol.specs.Restarts.{coordinator_reopens, recorded_view}
use Rattle.protocol.specs.Standings.{known_view, unknown_view}
use Rattle.coord_records.specs.Numbered.{numbered_in}
use Rattle.coord_records.specs.Summaries.{Summary, no_records, restored_view, standing_of, summary_after, summary_of, view_of}
use Rattle.coord_records.specs.Readings.{ReadLog, SummaryTable, abort_by, abort_of, noted, noted_by, place_below, reading_of, reopened_by, same, summary_in}
use Rattle.coord_records.specs.Remembered.{LogMemory, MayFollow, RemembersCases, entries_of, is_known, is_needed}
use Rattle.coord_records.proofs.CaseTables.{apart_of, entry_by, is_same, one_then, same_is, true_not_false}
use Rattle.coord_records.proofs.Readings.{boot_more, reopens_so, says, table_more}
use Rattle.coord_records.proofs.Summaries.{is_case, view_recorded}
use Rattle.coord_records.proofs.CaseTables.{other_stays}

-- The entries of cases that pass a test.

module _ (keeps : Case → Bool) where
  -- what is found of a case that passes
  pub found_kept : (c : Case) → keeps c ≡ true → (t : SummaryTable)
      → lookup (same c) (entries_of keeps t) ≡ lookup (same c) t
  found_kept c kept [] = refl
  found_kept c kept (e ∷ t) = by_test (keeps e.0) refl (same c e.0) refl (found_kept c kept t)
    where
      by_test : (k : Bool) → keeps e.0 ≡ k → (b : Bool) → same c e.0 ≡ b
          → lookup (same c) (entries_of keeps t) ≡ lookup (same c) t
          → lookup (same c) (cond k (e ∷ entries_of keeps t) (entries_of keeps t))
          ≡ (if b then Some e.1 else lookup (same c) t)
      by_test true k b is rest = ap (λ d. if d then Some e.1 else lookup (same c) (entries_of keeps t)) is
          ∙ either b
        where
          either : (d : Bool) → (if d then Some e.1 else lookup (same c) (entries_of keeps t))
              ≡ (if d then Some e.1 else lookup (same c) t)
          either true = refl
          either false = rest
      by_test false k true is rest = absurd (true_not_false (sym kept ∙ ap keeps (same_is c e.0 is) ∙ k))
      by_test false k false is rest = rest

  -- a case that does not pass is not found
  pub found_out : (c : Case) → keeps c ≡ false → (t : SummaryTable)
      → lookup (same c) (entries_of keeps t) ≡ None
  found_out c out [] = refl
  found_out c out (e ∷ t) = by_test (keeps e.0) refl (found_out c out t)
    where
      by_same : keeps e.0 ≡ true → (b : Bool) → same c e.0 ≡ b → lookup (same c) (entries_of keeps t) ≡ None
          → (if b then Some e.1 else lookup (same c) (entries_of keeps t)) ≡ None
      by_same k true is rest = absurd (true_not_false (sym k ∙ sym (ap keeps (same_is c e.0 is)) ∙ out))
      by_same k false is rest = rest

      by_test : (k : Bool) → keeps e.0 ≡ k → lookup (same c) (entries_of keeps t) ≡ None
          → lookup (same c) (cond k (e ∷ entries_of keeps t) (entries_of keeps t)) ≡ None
      by_test true k rest = by_same k (same c e.0) refl rest
      by_test false k rest = rest

  -- a case that is found passes
  pub passes : (c : Case) (t : SummaryTable) → is_some (lookup (same c) (entries_of keeps t)) ≡ true
      → keeps c ≡ true
  passes c t there = by_test (keeps c) refl
    where
      by_test : (b : Bool) → keeps c ≡ b → b ≡ true
      by_test true is = refl
      by_test false is = absurd (true_not_false (sym there ∙ ap is_some (found_out c is t)))

  -- an entry is written of a case that passes
  pub written_kept : (c : Case) (s : Summary) → keeps c ≡ true → (t : SummaryTable)
      → insert_entry same (entries_of keeps t) c s ≡ entries_of keeps (insert_entry same t c s)
  written_kept c s kept [] = sym (ap (λ k. cond k ((c, s) ∷ []) []) kept)
  written_kept c s kept (e ∷ t) = by_test (keeps e.0) refl (same c e.0) refl (written_kept c s kept t)
    where
      by_test : (k : Bool) → keeps e.0 ≡ k → (b : Bool) → same c e.0 ≡ b
          → insert_entry same (entries_of keeps t) c s ≡ entries_of keeps (insert_entry same t c s)
          → insert_entry same (cond k (e ∷ entries_of keeps t) (entries_of keeps t)) c s
          ≡ entries_of keeps (if b then (e.0, s) ∷ t else e ∷ insert_entry same t c s)
      by_test true k b is rest =
          ap (λ d. if d then (e.0, s) ∷ entries_of keeps t else e ∷ insert_entry same (entries_of keeps t) c
          s) is
          ∙ either b
        where
          either : (d : Bool)
              → (if d then (e.0, s) ∷ entries_of keeps t else e ∷ insert_entry same (entries_of keeps t) c s)
              ≡ entries_of keeps (if d then (e.0, s) ∷ t else e ∷ insert_entry same t c s)
          either true = sym (ap (λ m. cond m ((e.0, s) ∷ entries_of keeps t) (entries_of keeps t)) k)
          either false = ap (λ es. e ∷ es) rest
              ∙ sym (ap (λ m. cond m (e ∷ entries_of keeps (insert_entry same t c s))
              (entries_of keeps (insert_entry same t c s))) k)
      by_test false k true is rest = absurd (true_not_false (sym kept ∙ ap keeps (same_is c e.0 is) ∙ k))
      by_test false k false is rest = rest
          ∙ sym (ap (λ m. cond m (e ∷ entries_of keeps (insert_entry same t c s))
          (entries_of keeps (insert_entry same t c s))) k)

  -- the case of a record, if it has one, passes
  abbrev pub passes_by : Option Case → Bool
  passes_by None = true
  passes_by (Some c) = keeps c

  table_kept : (t : SummaryTable) (r : Record) (o : Option Case) → passes_by o ≡ true
      → noted_by (entries_of keeps t) r o ≡ entries_of keeps (noted_by t r o)
  table_kept t r None kept = refl
  table_kept t r (Some c) kept =
      ap (λ f. insert_entry same (entries_of keeps t) c (summary_after (unwrap_or f no_records) r))
      (found_kept c kept t)
      ∙ written_kept c (summary_after (summary_in t c) r) kept t

  apart_from : (o : Option Case) (d : Case) → passes_by o ≡ true → keeps d ≡ false → is_case d o ≡ false
  apart_from None d kept out = refl
  apart_from (Some c) d kept out = apart_of (same_case c d)
      (λ one. true_not_false (sym kept ∙ ap keeps (is_same c d one) ∙ out))

-- One record more.

pub noted_more : (rs : List Record) (r : Record) (m : LogMemory) (k : RemembersCases rs m)
    → passes_by k.keeps (record_case r) ≡ true
    → RemembersCases (rs ++ r ∷ []) (record { said = noted m.said r; reached = m.reached })
noted_more rs r m k kept =
    record {
      keeps = k.keeps;
      boot = ap (λ b. boot_after b r) k.boot ∙ sym (boot_more rs r);
      table = ap (λ t. noted_by t r (record_case r)) k.table
          ∙ table_kept k.keeps (reading_of rs).table r (record_case r) kept
          ∙ ap (entries_of k.keeps) (table_more rs r (record_case r) refl);
      unknown = λ c out. ap standing_of (other_stays no_records summary_after summary_of says rs r
          (record_case r) c refl
          (apart_from k.keeps (record_case r) c kept out)) ∙ k.unknown c out;
      early = k.early;
    }

-- the case of a record that may follow passes
pub may_follow : (rs : List Record) (m : LogMemory) (k : RemembersCases rs m) (o : Option Case)
    → MayFollow m o
    → passes_by k.keeps o ≡ true
may_follow rs m k None may = refl
may_follow rs m k (Some c) (inl there) =
    passes k.keeps c (reading_of rs).table (sym (ap (λ t. is_some (lookup (same c) t)) k.table) ∙ there)
may_follow rs m k (Some c) (inr late) = by_test (k.keeps c) refl
  where
    by_test : (b : Bool) → k.keeps c ≡ b → b ≡ true
    by_test true is = refl
    by_test false is = absurd (omega (arith, k.early c is, late))

pub noted_next : (rs : List Record) (r : Record) (m : LogMemory) (said : ReadLog) → RemembersCases rs m
    → MayFollow m (record_case r) → said ≡ noted m.said r
    → RemembersCases (rs ++ r ∷ []) (record { said = said; reached = m.reached })
noted_next rs r m said k may is =
    subst (λ s. RemembersCases (rs ++ r ∷ []) (record { said = s; reached = m.reached })) (sym is)
    (noted_more rs r m k (may_follow rs m k (record_case r) may))

-- More records.

module _ (keeps : Case → Bool) where
  -- the case of each record, if it has one, passes
  abbrev pub AllPass : List Record → Type 0
  AllPass rs = AllByRecursion (λ r. passes_by keeps (record_case r) ≡ true) rs

  all_more : (rs qs : List Record) → AllPass rs → AllPass qs → AllPass (rs ++ qs)
  all_more [] qs h k = k
  all_more (r ∷ rs) qs h k = (h.0, all_more rs qs h.1 k)

-- what is remembered after records of cases that pass
pub noted_all : (new rs : List Record) (m : LogMemory) (k : RemembersCases rs m) → AllPass k.keeps new
    → RemembersCases (rs ++ new) (record { said = fold noted m.said new; reached = m.reached })
unfolding noted_more
noted_all [] rs m k all = subst (λ ns. RemembersCases ns m) (sym (append-nil rs)) k
noted_all (r ∷ new) rs m k all =
    let next = noted_more rs r m k all.0 in
    subst (λ ns. RemembersCases ns (record { said = fold noted m.said (r ∷ new); reached = m.reached }))
    (one_then rs r new)
    (noted_all new (rs ++ r ∷ []) (record { said = noted m.said r; reached = m.reached }) next all.1)

-- What a restart appends.

module _ {A : Type 0} (f : Case × Summary → List A) (keeps : Case → Bool) (g : Case → Summary)
    (none : (c : Case) → keeps c ≡ false → f (c, g c) ≡ []) where
  -- entries that are left out give nothing
  pub nothing_lost : (cs : List Case)
      → flat_map f (entries_of keeps (map (entry_by g) cs)) ≡ flat_map f (map (entry_by g) cs)
  nothing_lost [] = refl
  nothing_lost (c ∷ cs) = by_test (keeps c) refl (nothing_lost cs)
    where
      by_test : (b : Bool) → keeps c ≡ b
          → flat_map f (entries_of keeps (map (entry_by g) cs)) ≡ flat_map f (map (entry_by g) cs)
          → flat_map f (cond b ((c, g c) ∷ entries_of keeps (map (entry_by g) cs))
          (entries_of keeps (map (entry_by g) cs)))
          ≡ f (c, g c) ++ flat_map f (map (entry_by g) cs)
      by_test true is rest = ap (λ more. f (c, g c) ++ more) rest
      by_test false is rest = rest ∙ ap (λ more. more ++ flat_map f (map (entry_by g) cs)) (sym (none c is))

pub no_abort : (rs : List Record) (m : LogMemory) (k : RemembersCases rs m) (c : Case) → k.keeps c ≡ false
    → abort_of (c, summary_of rs c) ≡ []
no_abort rs m k c out = ap (abort_by c (summary_of rs c).named) (k.unknown c out)

-- it is what a restart with all these records appends
pub appends : (rs : List Record) (m : LogMemory) → RemembersCases rs m
    → reopened_by m.said ≡ coordinator_reopens rs
appends rs m k =
    ap reopened_by (λ i. record { boot = k.boot i; table = k.table i })
    ∙ ap (λ more. Opened (boot_of rs + 1) ∷ more)
    (nothing_lost abort_of k.keeps (summary_of rs) (no_abort rs m k) (cases_in rs))
    ∙ reopens_so rs

abort_passes : (keeps : Case → Bool) (c : Case) (s : Summary) (st : Standing) → keeps c ≡ true
    → AllPass keeps (abort_by c s.named st)
abort_passes keeps c s Collecting kept = (kept, tt)
abort_passes keeps c s Unknown kept = tt
abort_passes keeps c s Active kept = tt
abort_passes keeps c s Prepared kept = tt
abort_passes keeps c s Committing kept = tt
abort_passes keeps c s Aborting kept = tt
abort_passes keeps c s Heuristic kept = tt

aborts_pass : (keeps : Case → Bool) (t : SummaryTable)
    → AllPass keeps (flat_map abort_of (entries_of keeps t))
aborts_pass keeps [] = tt
aborts_pass keeps (e ∷ t) = by_test (keeps e.0) refl (aborts_pass keeps t)
  where
    by_test : (b : Bool) → keeps e.0 ≡ b → AllPass keeps (flat_map abort_of (entries_of keeps t))
        → AllPass keeps (flat_map abort_of (cond b (e ∷ entries_of keeps t) (entries_of keeps t)))
    by_test true is rest = all_more keeps (abort_of e) (flat_map abort_of (entries_of keeps t))
        (abort_passes keeps e.0 e.1 (standing_of e.1) is) rest
    by_test false is rest = rest

-- what is remembered after what a restart appends
pub planned : (rs new : List Record) (m : LogMemory) (said : ReadLog) → RemembersCases rs m
    → new ≡ reopened_by m.said
    → said ≡ fold noted m.said new
    → (new ≡ coordinator_reopens rs)
    × RemembersCases (rs ++ coordinator_reopens rs) (record { said = said; reached = m.reached })
planned rs new m said k opens notes =
    let appended : new ≡ coordinator_reopens rs = opens ∙ appends rs m k in
    let all : AllPass k.keeps new =
    subst (AllPass k.keeps) (sym (opens ∙ ap (λ t. Opened (m.said.boot + 1) ∷ flat_map abort_of t) k.table))
    (refl, aborts_pass k.keeps (reading_of rs).table) in (
      appended,
      subst (λ more. RemembersCases (rs ++ more) (record { said = said; reached = m.reached })) appended
          (subst (λ s. RemembersCases (rs ++ new) (record { said = s; reached = m.reached })) (sym notes)
          (noted_all new rs m k all)),
    )

-- What is remembered says of each case what the records do.

unknown_view_of : (s : Summary) → standing_of s ≡ Unknown → view_of s ≡ unknown_view
unknown_view_of s is = ap (λ st. known_view st (restored_view st s)) is

-- a case that is left out has no view
pub no_view : (rs : List Record) (m : LogMemory) (k : RemembersCases rs m) (c : Case) → k.keeps c ≡ false
    → recorded_view rs c ≡ unknown_view
no_view rs m k c out = view_recorded rs c ∙ unknown_view_of (summary_of rs c) (k.unknown c out)

-- Cases are forgotten.

not_known : (st : Standing) → is_known st ≡ false → st ≡ Unknown
not_known Unknown is = refl
not_known Active is = absurd (cc)
not_known Collecting is = absurd (cc)
not_known Prepared is = absurd (cc)
not_known Committing is = absurd (cc)
not_known Aborting is = absurd (cc)
not_known Heuristic is = absurd (cc)

not_needed : (boot : ℕ) (e : Case × Summary) (b : Bool) → is_known (standing_of e.1) ≡ b
    → (b || nat_le boot (numbered_in e.0)) ≡ false
    → (standing_of e.1 ≡ Unknown) × (numbered_in e.0 < boot)
not_needed boot e true is none = absurd (true_not_false none)
not_needed boot e false is none = (not_known (standing_of e.1) is, grind (arith, nat_tests))

and_out : (a b : Bool) → (a && b) ≡ false → (a ≡ false) ⊎ (b ≡ false)
and_out true b h = inr h
and_out false b h = inl refl

module _ (keeps : Case → Bool) (needed : Case × Summary → Bool) (g : Case → Summary) where
  -- the case passes, and its entry does
  abbrev pub still_keeps : Case → Bool
  still_keeps c = keeps c && needed (c, g c)

  pub forgotten : (cs : List Case)
      → filter needed (entries_of keeps (map (entry_by g) cs)) ≡ entries_of still_keeps (map (entry_by g) cs)
  forgotten [] = refl
  forgotten (c ∷ cs) = by_test (keeps c) (forgotten cs)
    where
      by_test : (b : Bool)
          → filter needed (entries_of keeps (map (entry_by g) cs))
          ≡ entries_of still_keeps (map (entry_by g) cs)
          → filter needed (cond b ((c, g c) ∷ entries_of keeps (map (entry_by g) cs))
          (entries_of keeps (map (entry_by g) cs)))
          ≡ cond (b && needed (c, g c)) ((c, g c) ∷ entries_of still_keeps (map (entry_by g) cs))
          (entries_of still_keeps (map (entry_by g) cs))
      by_test true rest = ap (λ es. cond (needed (c, g c)) ((c, g c) ∷ es) es) rest
      by_test false rest = rest

pub still_remembers : (rs : List Record) (m : LogMemory) (reached boot : ℕ) (t : SummaryTable)
    → RemembersCases rs m
    → t ≡ filter (is_needed boot) m.said.table → m.reached ≤ reached → boot ≤ reached
    → RemembersCases rs (record { said = record { boot = m.said.boot; table = t }; reached = reached })
still_remembers rs m reached boot t k is more less =
    let keeps : Case → Bool = still_keeps k.keeps (is_needed boot) (summary_of rs) in
    record {
      keeps = keeps;
      boot = k.boot;
      table = is ∙ ap (filter (is_needed boot)) k.table
          ∙ forgotten k.keeps (is_needed boot) (summary_of rs) (cases_in rs);
      unknown = λ c out. elim (and_out (k.keeps c) (is_needed boot (c, summary_of rs c)) out) [
        | inl was ↦ k.unknown c was
        | inr none ↦ (not_needed boot (c, summary_of rs c)
            (is_known (standing_of (summary_of rs c))) refl none).0
      ];
      early = λ c out. elim (and_out (k.keeps c) (is_needed boot (c, summary_of rs c)) out) [
        | inl was ↦ omega (arith, k.early c was, more)
        | inr none ↦ omega (
          arith,
          (not_needed boot (c, summary_of rs c)
              (is_known (standing_of (summary_of rs c))) refl none).1,
          less,
        )
      ];
    }

-- All that records say is remembered.

pub all_kept : (t : SummaryTable) → entries_of (λ c. true) t ≡ t
all_kept [] = refl
all_kept (e ∷ t) = ap (λ es. e ∷ es) (all_kept t)

pub remembers_all : (rs : List Record) (said : ReadLog) → said ≡ reading_of rs
    → RemembersCases rs (record { said = said; reached = 0 })
remembers_all rs said is =
    record {
      keeps = λ c. true;
      boot = ap (λ (s : ReadLog). s.boot) is;
      table = ap (λ (s : ReadLog). s.table) is ∙ sym (all_kept (reading_of rs).table);
      unknown = λ c out. absurd (true_not_false out);
      early = λ c out. absurd (true_not_false out);
    }

-- Reading on.

-- a list that a loop over slices is at: its first element, and those that the next turn is at
pub first_and_rest : {A : Type 0} (xs : List A) (x : A) → 1 ≤ length xs → slice_index_or xs 0 x ≡ x
    → xs ≡ x ∷ take (length xs - 1) (drop 1 xs)
first_and_rest [] x some first = absurd (omega arith)
first_and_rest (y ∷ ys) x some first =
    let one_less : length (y ∷ ys) - 1 ≡ length ys = omega arith in
    ap (λ z. z ∷ ys) first ∙ ap (λ zs. x ∷ zs) (sym (ap (λ n. take n ys) one_less ∙ take-length ys))

-- it is over
pub none_left : {A : Type 0} (xs : List A) → length xs < 1 → xs ≡ []
none_left [] few = refl
none_left (x ∷ xs) few = absurd (omega arith)

-- what was remembered of any records is remembered of them and of those in front of the rest
pub record ReadsFrom (place : Place) (now : LogMemory) (all rest : List LogRecord)
    (rs : List Record) : Type 0 where
  pub read : List Record
  pub remembers : RemembersCases read now
  pub split : read ++ own_records place rest ≡ rs ++ own_records place all

abbrev pub ReadsOn : Place → LogMemory → LogMemory → List LogRecord → List LogRecord → Type 0
ReadsOn place old now all rest = (rs : List Record) → RemembersCases rs old → ReadsFrom place now all rest rs

pub reading_begins : (place : Place) (old : LogMemory) (all : List LogRecord) → ReadsOn place old old all all
reading_begins place old all rs k = record { read = rs; remembers = k; split = refl }

pub reading_goes_on : (place : Place) (old now next : LogMemory) (all rest : List LogRecord) (l : LogRecord)
    → ReadsOn place old now all (l ∷ rest)
    → ((rs : List Record) → RemembersCases rs now → RemembersCases
    (rs ++ own_by place l (record_case l.entry)) next)
    → ReadsOn place old next all rest
unfolding own_records
reading_goes_on place old now next all rest l so_far step rs k =
    let from = so_far rs k in
    record {
      read = from.read ++ own_by place l (record_case l.entry);
      remembers = step from.read from.remembers;
      split = append_assoc from.read (own_by place l (record_case l.entry)) (own_records place rest)
          ∙ from.split;
    }

pub reading_ends : (place : Place) (old now : LogMemory) (all : List LogRecord) → ReadsOn place old now all []
    → (rs : List Record) → RemembersCases rs old → RemembersCases (rs ++ own_records place all) now
unfolding own_records
reading_ends place old now all so_far rs k =
    let from = so_far rs k in
    subst (λ ns. RemembersCases ns now) (sym (append-nil from.read) ∙ from.split) from.remembers

-- One record more of the log.

own_of : (b : Bool) (me : ProcessId) (parent : Option ProcessId) (tree : List TreeProcess)
    (l : LogRecord) (c : Case)
    → is_own (place_below me parent tree) l.parent c ≡ b
    → own_by (place_below me parent tree) l (Some c) ≡ (if b then l.entry ∷ [] else [])
own_of b me None tree l c is =
    ap (λ k. if k then l.entry ∷ [] else foreign_to AtRoot l.parent c l.entry) is
own_of b me (Some p) tree l c is =
    ap (λ k. if k then l.entry ∷ [] else foreign_to (Below p) l.parent c l.entry) is

-- a record of a case that is not its own the process leaves out
pub foreign_is : (b : Bool) (me : ProcessId) (parent : Option ProcessId)
    (tree : List TreeProcess) (l : LogRecord)
    (c : Case) → record_case l.entry ≡ Some c → is_own (place_below me parent tree) l.parent c ≡ b
    → not b ≡ true
    → own_by (place_below me parent tree) l (record_case l.entry) ≡ []
foreign_is true me parent tree l c is own not_own = absurd (cc)
foreign_is false me parent tree l c is own not_own =
    ap (own_by (place_below me parent tree) l) is ∙ own_of false me parent tree l c own

-- a record of its own it reads
pub own_is : (b : Bool) (me : ProcessId) (parent : Option ProcessId) (tree : List TreeProcess) (l : LogRecord)
    (c : Case) → record_case l.entry ≡ Some c → is_own (place_below me parent tree) l.parent c ≡ b
    → not b ≡ false
    → own_by (place_below me parent tree) l (record_case l.entry) ≡ l.entry ∷ []
own_is true me parent tree l c is own not_own =
    ap (own_by (place_below me parent tree) l) is ∙ own_of true me parent tree l c own
own_is false me parent tree l c is own not_own = absurd (cc)

pub none_is : (place : Place) (l : LogRecord) → record_case l.entry ≡ None
    → own_by place l (record_case l.entry) ≡ l.entry ∷ []
none_is place l is = ap (own_by place l) is

-- a record that is left out
pub left_out : (rs more : List Record) (m : LogMemory) → more ≡ [] → RemembersCases rs m
    → RemembersCases (rs ++ more) m
left_out rs more m is k =
    subst (λ ms. RemembersCases (rs ++ ms) m) (sym is)
    (subst (λ ns. RemembersCases ns m) (sym (append-nil rs)) k)
