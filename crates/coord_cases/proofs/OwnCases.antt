-- What a restart appends is of the process's own cases, so it is read again.
use Rattle.std.proofs.Common.{◌≡◌, ◌∙◌, Bool, true, false, ◌&&◌, if◌then◌else◌, List, [], ◌∷◌, ◌++◌, Option, Some, None, fold, refl, ap}
use Rattle.std.proofs.lemmas.Bool.{and_parts}
use Rattle.std.proofs.lemmas.Grind.{flat_map-append}
use Rattle.std.proofs.lemmas.List.Folds.{list_all-append}
use Rattle.std.specs.List.{flat_map, list_all}
use Rattle.protocol.specs.declared.names.Case.{Case}
use Rattle.protocol.specs.declared.names.ProcessId.{ProcessId}
use Rattle.protocol.specs.declared.records.LogRecord.{LogRecord}
use Rattle.protocol.specs.declared.records.Record.{Record}
use Rattle.protocol.specs.declared.standings.Standing.{Standing}
use Rattle.protocol.specs.declared.standings.Standing.TheVariants.{Unknown, Active, Collecting, Prepared, Committing, Aborting, Heuristic}
use Rattle.protocol.specs.declared.trees.TreeProcess.{TreeProcess}
use Rattle.protocol.specs.LogNames.{foreign_to, is_own, is_own_by, is_own_record, is_ticketed, own_by, own_records, parent_of, same_parent}
use Rattle.protocol.specs.Names.{process_of, same_process}
use Rattle.protocol.specs.Nodes.{Place}
use Rattle.protocol.specs.Trees.{root_of}
use Rattle.protocol.specs.Records.{cases_in, has_case, record_case, with_case, with_record}
use Rattle.protocol.specs.Restarts.{aborts_collecting, coordinator_reopens, recorded_view, reopens, restart_abort}
use Rattle.protocol.specs.Standings.{CoordinatorView}
use Rattle.protocol.proofs.LogNameLaws.{reads_back}
use Rattle.protocol.proofs.NameTests.{process_tells}
use Rattle.coord_records.specs.Readings.{place_below, role_below}
use Rattle.coord_cases.specs.Restores.{appended_to, read_again}

pub reopens_role : (parent : Option ProcessId) (rs : List Record)
    → reopens (role_below parent) rs ≡ coordinator_reopens rs
reopens_role None rs = refl
reopens_role (Some p) rs = refl

pub parent_again : (parent : Option ProcessId) → parent_of (role_below parent) ≡ parent
parent_again None = refl
parent_again (Some p) = refl

none_foreign : (parent p : Option ProcessId) (c : Case) (r : Record)
    → foreign_to (role_below parent) p c r ≡ []
none_foreign None p c r = refl
none_foreign (Some q) p c r = refl

parent_itself : (p : Option ProcessId) → same_parent p p ≡ true
parent_itself None = refl
parent_itself (Some p) = (process_tells p p).1 refl

last_of_four : (a b t s u : Bool) → u ≡ true → (a && (b && (t && s))) ≡ true → (a && (b && (t && u))) ≡ true
last_of_four true true true s u is h = is
last_of_four true true false s u is h = absurd (cc)
last_of_four true false t s u is h = absurd (cc)
last_of_four false b t s u is h = absurd (cc)

both : (a b : Bool) → a ≡ true → b ≡ true → (a && b) ≡ true
both true b h k = k
both false b h k = absurd (cc)

and_true : (b : Bool) → (b && true) ≡ b
and_true true = refl
and_true false = refl

all_more : {X : Type 0} (q : X → Bool) (xs ys : List X) → list_all q xs ≡ true → list_all q ys ≡ true
    → list_all q (xs ++ ys) ≡ true
all_more q xs ys h k = list_all-append q xs ys ∙ both (list_all q xs) (list_all q ys) h k

module _ (me : ProcessId) (parent : Option ProcessId) (tree : List TreeProcess) where
  -- where the process sits
  abbrev here : Place
  here = place_below me parent tree

  own_here : (p : Option ProcessId) (c : Case) → is_own here p c ≡ true
      → is_own here (parent_of (role_below parent)) c ≡ true
  own_here p c is =
      last_of_four (same_process c.txn.root (root_of tree)) (same_process (process_of c) me)
      (is_ticketed (role_below parent) c.ticket)
      (same_parent p (parent_of (role_below parent)))
      (same_parent (parent_of (role_below parent)) (parent_of (role_below parent)))
      (parent_itself (parent_of (role_below parent))) is

  own_one : (l : LogRecord) (o : Option Case) → record_case l.entry ≡ o
      → list_all (is_own_record here) (own_by here l o) ≡ true
  own_one l None is = and_true (is_own_record here l.entry) ∙ ap (is_own_by here) is
  own_one l (Some c) is = by_test (is_own here l.parent c) refl
    where
      by_test : (b : Bool) → is_own here l.parent c ≡ b
          → list_all (is_own_record here) (if b then l.entry
          ∷ [] else foreign_to (role_below parent) l.parent c l.entry) ≡ true
      by_test true own = and_true (is_own_record here l.entry)
          ∙ ap (is_own_by here) is ∙ own_here l.parent c own
      by_test false own = ap (list_all (is_own_record here)) (none_foreign parent l.parent c l.entry)

  own_all : (ls : List LogRecord) → list_all (is_own_record here) (own_records here ls) ≡ true
  unfolding own_records
  own_all [] = refl
  own_all (l ∷ ls) = all_more (is_own_record here) (own_by here l (record_case l.entry)) (own_records here ls)
      (own_one l (record_case l.entry) refl) (own_all ls)

  -- the case is the process's own
  abbrev own_case : Case → Bool
  own_case c = is_own here (parent_of (role_below parent)) c

  own_with : (cs : List Case) (o : Option Case) → is_own_by here o ≡ true → list_all own_case cs ≡ true
      → list_all own_case (with_case cs o) ≡ true
  own_with cs None own all = all
  own_with cs (Some c) own all = by_test (has_case cs c)
    where
      by_test : (b : Bool) → list_all own_case (if b then cs else cs ++ c ∷ []) ≡ true
      by_test true = all
      by_test false = all_more own_case cs (c ∷ []) all (and_true (own_case c) ∙ own)

  own_cases : (rs : List Record) (cs : List Case) → list_all (is_own_record here) rs ≡ true
      → list_all own_case cs ≡ true → list_all own_case (fold with_record cs rs) ≡ true
  own_cases [] cs own all = all
  own_cases (r ∷ rs) cs own all =
      let parts = and_parts (is_own_record here r) (list_all (is_own_record here) rs) own in
      own_cases rs (with_record cs r) parts.1 (own_with cs (record_case r) parts.0 all)

  own_cases_in : (rs : List Record) → list_all (is_own_record here) rs ≡ true
      → list_all own_case (cases_in rs) ≡ true
  unfolding cases_in
  own_cases_in rs own = own_cases rs [] own refl

  own_abort : (c : Case) (v : CoordinatorView) (st : Standing) → own_case c ≡ true
      → list_all (is_own_record here) (restart_abort c v st) ≡ true
  own_abort c v Collecting own = and_true (own_case c) ∙ own
  own_abort c v Unknown own = refl
  own_abort c v Active own = refl
  own_abort c v Prepared own = refl
  own_abort c v Committing own = refl
  own_abort c v Aborting own = refl
  own_abort c v Heuristic own = refl

  own_aborts : (rs : List Record) (cs : List Case) → list_all own_case cs ≡ true
      → list_all (is_own_record here) (flat_map (aborts_collecting rs) cs) ≡ true
  own_aborts rs [] own = refl
  own_aborts rs (c ∷ cs) own =
      let parts = and_parts (own_case c) (list_all own_case cs) own in
      all_more (is_own_record here) (aborts_collecting rs c) (flat_map (aborts_collecting rs) cs)
      (own_abort c (recorded_view rs c) (recorded_view rs c).standing parts.0) (own_aborts rs cs parts.1)

  own_reopens : (rs : List Record) → list_all (is_own_record here) rs ≡ true
      → list_all (is_own_record here) (reopens (role_below parent) rs) ≡ true
  own_reopens rs own = ap (list_all (is_own_record here)) (reopens_role parent rs)
      ∙ own_aborts rs (cases_in rs) (own_cases_in rs own)

  pub own_append : (ls ks : List LogRecord) → own_records here (ls ++ ks)
      ≡ own_records here ls ++ own_records here ks
  unfolding own_records
  own_append ls ks = flat_map-append (λ l. own_by here l (record_case l.entry)) ls ks

  -- the log of a restart is read as what was left and what was appended
  pub read_again_is : (ls : List LogRecord) → read_again here ls ≡ own_records here ls
      ++ reopens (role_below parent) (own_records here ls)
  read_again_is ls =
      own_append ls (appended_to here ls)
      ∙ ap (λ rs. own_records here ls ++ rs)
      (reads_back here (reopens (role_below parent) (own_records here ls))
      (own_reopens (own_records here ls) (own_all ls)))
