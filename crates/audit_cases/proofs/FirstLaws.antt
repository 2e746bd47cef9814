-- What is kept of a child's case is what the first case says that names it.
use Rattle.std.proofs.Common.{◌≡◌, ◌∙◌, Bool, true, false, ◌||◌, ◌&&◌, if◌then◌else◌, is_some, List, [], ◌∷◌, Option, Some, None, option_map, find, fold, refl, sym, ap}
use Rattle.std.specs.Map.{lookup}
use Rattle.indexmap.specs.IndexMap.{insert_entry}
use Rattle.protocol.specs.declared.names.Case.{Case}
use Rattle.protocol.specs.declared.names.Ticket.{Ticket}
use Rattle.protocol.specs.declared.names.Txn.{Txn}
use Rattle.protocol.specs.Names.{child_case, same_case, same_owner, same_ticket, same_txn}
use Rattle.protocol.specs.Records.{in_list}
use Rattle.protocol.proofs.Equality.{case_equality}
use Rattle.coord_records.specs.Readings.{same}
use Rattle.coord_records.proofs.CaseTables.{apart_back, same_is}
use Rattle.audit_cases.specs.Firsts.{firsts_of, with_entry, with_first, with_named}
use Rattle.audit_cases.specs.Notes.{CaseNote, NoteTable}
use Rattle.audit_cases.specs.Sayings.{first_naming, names}

-- the first of two that is there
abbrev or_else : {A : Type 0} → Option A → Option A → Option A
or_else (Some a) b = Some a
or_else None b = b

or_nothing : {A : Type 0} (a : Option A) → or_else a None ≡ a
or_nothing None = refl
or_nothing (Some a) = refl

or_assoc : {A : Type 0} (a b c : Option A) → or_else (or_else a b) c ≡ or_else a (or_else b c)
or_assoc None b c = refl
or_assoc (Some a) b c = refl

-- a value, where the test passes
abbrev only : {A : Type 0} → Bool → A → Option A
only b v = if b then Some v else None

-- where two tests lead to one value, either does
either_one : {A : Type 0} (a b : Bool) (v : A) → or_else (only a v) (only b v) ≡ only (a || b) v
either_one true b v = refl
either_one false b v = refl

-- One more.

found_behind : {A : Type 0} (s : List (Case × A)) (c d : Case) (v : A) → lookup (same c) s ≡ None
    → lookup (same d) (insert_entry same s c v) ≡ or_else (lookup (same d) s) (only (same d c) v)
found_behind [] c d v none = refl
found_behind (e ∷ s) c d v none = by_test (same c e.0) none (λ h. found_behind s c d v h)
  where
    by_found : (b : Bool) → lookup (same d) (insert_entry same s c v)
        ≡ or_else (lookup (same d) s) (only (same d c) v)
        → (if b then Some e.1 else lookup (same d) (insert_entry same s c v))
        ≡ or_else (if b then Some e.1 else lookup (same d) s) (only (same d c) v)
    by_found true rest = refl
    by_found false rest = rest

    by_test : (b : Bool) → (if b then Some e.1 else lookup (same c) s) ≡ None
        → (lookup (same c) s ≡ None → lookup (same d) (insert_entry same s c v)
        ≡ or_else (lookup (same d) s) (only (same d c) v))
        → lookup (same d) (if b then (e.0, v) ∷ s else e ∷ insert_entry same s c v)
        ≡ or_else (if same d e.0 then Some e.1 else lookup (same d) s) (only (same d c) v)
    by_test true h rest = absurd (cc)
    by_test false h rest = by_found (same d e.0) (rest h)

-- what is found there already stays
found_same : {A : Type 0} (s : List (Case × A)) (c d : Case) (v w : A) → lookup (same c) s ≡ Some w
    → lookup (same d) s ≡ or_else (lookup (same d) s) (only (same d c) v)
found_same s c d v w there = by_test (same d c) refl
  where
    by_test : (b : Bool) → same d c ≡ b → lookup (same d) s ≡ or_else (lookup (same d) s) (only b v)
    by_test false is = sym (or_nothing (lookup (same d) s))
    by_test true is =
        let here : lookup (same d) s ≡ Some w = ap (λ e. lookup (same e) s) (same_is d c is) ∙ there in
        here ∙ ap (λ a. or_else a (Some v)) (sym here)

first_found : {A : Type 0} (s : List (Case × A)) (c d : Case) (v : A)
    → lookup (same d) (with_first s c v) ≡ or_else (lookup (same d) s) (only (same d c) v)
first_found {A = A} s c d v = by_found (lookup (same c) s) refl
  where
    by_found : (a : Option A) → lookup (same c) s ≡ a
        → lookup (same d) (if is_some a then s else insert_entry same s c v)
        ≡ or_else (lookup (same d) s) (only (same d c) v)
    by_found None is = found_behind s c d v is
    by_found (Some w) is = found_same s c d v w is

-- The tickets of a case.

-- a child's case is this one where the transaction and the ticket are
child_is : (y x : Txn) (u t : Ticket) → same (child_case x t) (child_case y u)
    ≡ (same_txn y x && same_ticket u t)
unfolding same_case same_owner
child_is y x u t = case_equality (child_case x t) (child_case y u) ∙ turned (child_case x t) (child_case y u)
  where
    turned : (c d : Case) → same_case c d ≡ same_case d c
    turned c d = by_test (same_case c d) (same_case d c) refl refl
      where
        by_test : (a b : Bool) → same_case c d ≡ a → same_case d c ≡ b → a ≡ b
        by_test true true e f = refl
        by_test false false e f = refl
        by_test true false e f = sym e ∙ apart_back d c f
        by_test false true e f = sym (apart_back c d e) ∙ f

named_found : {A : Type 0} (y : Txn) (v : A) (s : List (Case × A)) (us : List Ticket) (x : Txn) (t : Ticket)
    → lookup (same (child_case x t)) (with_named y v s us)
    ≡ or_else (lookup (same (child_case x t)) s) (only (same_txn y x && in_list us t) v)
unfolding in_list
named_found y v s [] x t =
    sym (or_nothing (lookup (same (child_case x t)) s))
    ∙ ap (λ b. or_else (lookup (same (child_case x t)) s) (only b v)) (sym (never (same_txn y x)))
  where
    never : (b : Bool) → (b && false) ≡ false
    never true = refl
    never false = refl
named_found y v s (u ∷ us) x t =
    named_found y v (with_first s (child_case y u) v) us x t
    ∙ ap (λ a. or_else a (only (same_txn y x && in_list us t) v))
    (first_found s (child_case y u) (child_case x t) v)
    ∙ or_assoc (lookup (same (child_case x t)) s) (only (same (child_case x t) (child_case y u)) v)
    (only (same_txn y x && in_list us t) v)
    ∙ ap (or_else (lookup (same (child_case x t)) s))
    (ap (λ b. or_else (only b v) (only (same_txn y x && in_list us t) v)) (child_is y x u t)
    ∙ either_one (same_txn y x && same_ticket u t) (same_txn y x && in_list us t) v
    ∙ ap (λ b. only b v) (both (same_txn y x) (same_ticket u t) (in_list us t)))
  where
    both : (a b c : Bool) → ((a && b) || (a && c)) ≡ (a && (b || c))
    both true b c = refl
    both false b c = refl

-- The cases.

module _ {A : Type 0} (kept : Case × CaseNote → A) (x : Txn) (t : Ticket) where
  all_found : (s : List (Case × A)) (notes : NoteTable) → lookup (same (child_case x t))
      (fold (with_entry kept) s notes)
      ≡ or_else (lookup (same (child_case x t)) s) (option_map kept (first_naming notes x t))
  all_found s [] = sym (or_nothing (lookup (same (child_case x t)) s))
  all_found s (e ∷ notes) =
      all_found (with_entry kept s e) notes
      ∙ ap (λ a. or_else a (option_map kept (first_naming notes x t)))
      (named_found e.0.txn (kept e) s e.1.named x t)
      ∙ or_assoc (lookup (same (child_case x t)) s) (only (names x t e) (kept e))
      (option_map kept (first_naming notes x t))
      ∙ ap (or_else (lookup (same (child_case x t)) s)) (by_test (names x t e))
    where
      by_test : (b : Bool) → or_else (only b (kept e)) (option_map kept (first_naming notes x t))
          ≡ option_map kept (if b then Some e else find (names x t) notes)
      by_test true = refl
      by_test false = refl

  -- what a pass over all cases keeps
  pub first_kept : (notes : NoteTable) → lookup (same (child_case x t)) (firsts_of kept notes)
      ≡ option_map kept (first_naming notes x t)
  first_kept notes = all_found [] notes
