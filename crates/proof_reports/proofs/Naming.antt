-- Records of a case that leave out a ticket, and those that name it.
use Rattle.std.proofs.Common.{◌≡◌, ◌∙◌, ◌&&◌, ◌||◌, ◌⊎◌, inl, inr, Bool, true, false, List, [], ◌∷◌, ◌++◌, refl, sym, ap, subst, arith, if◌then◌else◌}
use Rattle.std.specs.Prelude.{not}
use Rattle.std.specs.List.{flat_map}
use Rattle.protocol.specs.declared.names.Case.{Case}
use Rattle.protocol.specs.declared.names.Ticket.{Ticket}
use Rattle.protocol.specs.declared.records.Record.{Record}
use Rattle.protocol.specs.declared.records.Record.TheVariants.{Collecting, Prepare, Commit, Abort}
use Rattle.protocol.specs.Names.{same_case}
use Rattle.protocol.specs.Records.{has, in_list, is_abort, is_collecting, is_commit, is_prepare, named_by, named_in, none_of, owing_by, owing_in, promised_by, promised_in}
use Rattle.protocol.specs.Audits.{is_collecting_naming, is_decision_naming, is_prepare_naming}
use Rattle.proof_processes.proofs.CaseOrders.{AllFit, Fits, none_later}
use Rattle.proof_processes.proofs.Tests.{both, case_is, either, first_false, has-cons, has-nil, in_second, left, neither, right, second_false}
use Rattle.proof_processes.proofs.Worlds.{has_other}
use Rattle.proof_reports.specs.SinceOpened.{is_decision}
use Rattle.proof_reports.proofs.Found.{in_list_both}

-- Tests.

-- a Collecting of the case that does not name the ticket
abbrev pub collecting_without : Case → Ticket → Record → Bool
collecting_without c t (Collecting d ts) = same_case d c && not (in_list ts t)
collecting_without c t _ = false

-- a Prepare of the case that does not
abbrev pub prepare_without : Case → Ticket → Record → Bool
prepare_without c t (Prepare d ts) = same_case d c && not (in_list ts t)
prepare_without c t _ = false

-- a decision of the case that names somebody, and not the ticket
abbrev pub decision_without : Case → Ticket → Record → Bool
decision_without c t (Commit d ts) = same_case d c && (not (none_of ts) && not (in_list ts t))
decision_without c t (Abort d ts) = same_case d c && (not (none_of ts) && not (in_list ts t))
decision_without c t _ = false

-- one of these
abbrev pub leaves_out : Case → Ticket → Record → Bool
leaves_out c t r = collecting_without c t r || (prepare_without c t r || decision_without c t r)

pub none_if : (q : Record → Bool) (rs : List Record) → (has q rs ≡ true → ⊥) → has q rs ≡ false
none_if q rs f = by_test (has q rs) refl
  where
    by_test : (b : Bool) → has q rs ≡ b → has q rs ≡ false
    by_test true e = absurd (f e)
    by_test false e = e

pub never : (b : Bool) → b ≡ true → b ≡ false → ⊥
never b e f = absurd (let g = sym e ∙ f in cc)

pub none_of_them : (q r : Record → Bool) (rs : List Record) → ((x : Record) → q x ≡ true → r x ≡ true)
    → has r rs ≡ false → has q rs ≡ false
none_of_them q r rs f e = none_if q rs (λ g. never (has r rs) (has_other q r rs f g) e)

pub has_or : (p q : Record → Bool) (rs : List Record) → has (λ r. p r || q r) rs ≡ (has p rs || has q rs)
unfolding has
has_or p q [] = refl
has_or p q (r ∷ rs) = ap (λ b. (p r || q r) || b) (has_or p q rs) ∙ four (p r) (q r) (has p rs) (has q rs)
  where
    four : (a b x y : Bool) → ((a || b) || (x || y)) ≡ ((a || x) || (b || y))
    four a b x y = grind arith

-- nothing leaves the ticket out where none of the three does
pub leaves_none : (c : Case) (t : Ticket) (rs : List Record) → has (collecting_without c t) rs ≡ false
    → has (prepare_without c t) rs ≡ false → has (decision_without c t) rs ≡ false
    → has (leaves_out c t) rs ≡ false
leaves_none c t rs a b d =
    has_or (collecting_without c t) (λ r. prepare_without c t r || decision_without c t r) rs
    ∙ neither _ _ a (has_or (prepare_without c t) (decision_without c t) rs ∙ neither _ _ b d)

collecting_is : (c : Case) (t : Ticket) (r : Record) → collecting_without c t r ≡ true
    → is_collecting c r ≡ true
collecting_is c t (Collecting d ts) e = (both (same_case d c) _ e).0
collecting_is c t r e = absurd (cc)

prepare_is : (c : Case) (t : Ticket) (r : Record) → prepare_without c t r ≡ true → is_prepare c r ≡ true
prepare_is c t (Prepare d ts) e = (both (same_case d c) _ e).0
prepare_is c t r e = absurd (cc)

decision_is : (c : Case) (t : Ticket) (r : Record) → decision_without c t r ≡ true → is_decision c r ≡ true
decision_is c t (Commit d ts) e = left (same_case d c) false (both (same_case d c) _ e).0
decision_is c t (Abort d ts) e = (both (same_case d c) _ e).0
decision_is c t r e = absurd (cc)

pub naming_is : (c : Case) (t : Ticket) (r : Record) → is_decision_naming c t r ≡ true
    → is_decision c r ≡ true
naming_is c t (Commit d ts) e = left (same_case d c) false (both (same_case d c) _ e).0
naming_is c t (Abort d ts) e = (both (same_case d c) _ e).0
naming_is c t r e = absurd (cc)

pub no_decisions : (c : Case) (rs : List Record) → has (is_commit c) rs ≡ false → has (is_abort c) rs ≡ false
    → has (is_decision c) rs ≡ false
no_decisions c rs e f = has_or (is_commit c) (is_abort c) rs ∙ neither _ _ e f

pub some_decision : (c : Case) (rs : List Record) → has (is_decision c) rs ≡ true
    → (has (is_commit c) rs ≡ true) ⊎ (has (is_abort c) rs ≡ true)
some_decision c rs e = either _ _ (sym (has_or (is_commit c) (is_abort c) rs) ∙ e)

pub no_collecting_without : (c : Case) (t : Ticket) (rs : List Record) → has (is_collecting c) rs ≡ false
    → has (collecting_without c t) rs ≡ false
no_collecting_without c t rs e = none_of_them (collecting_without c t) (is_collecting c) rs
    (collecting_is c t) e

pub no_prepare_without : (c : Case) (t : Ticket) (rs : List Record) → has (is_prepare c) rs ≡ false
    → has (prepare_without c t) rs ≡ false
no_prepare_without c t rs e = none_of_them (prepare_without c t) (is_prepare c) rs (prepare_is c t) e

pub no_decision_without : (c : Case) (t : Ticket) (rs : List Record) → has (is_decision c) rs ≡ false
    → has (decision_without c t) rs ≡ false
no_decision_without c t rs e = none_of_them (decision_without c t) (is_decision c) rs (decision_is c t) e

pub no_decision_naming : (c : Case) (t : Ticket) (rs : List Record) → has (is_decision c) rs ≡ false
    → has (is_decision_naming c t) rs ≡ false
no_decision_naming c t rs e = none_of_them (is_decision_naming c t) (is_decision c) rs (naming_is c t) e

pub collecting_stays_named : (c : Case) (t : Ticket) (rs : List Record) → has (leaves_out c t) rs ≡ false
    → has (collecting_without c t) rs ≡ false
collecting_stays_named c t rs e =
    none_of_them (collecting_without c t) (leaves_out c t) rs (λ r f. left _ _ f) e

pub prepare_stays_named : (c : Case) (t : Ticket) (rs : List Record) → has (leaves_out c t) rs ≡ false
    → has (prepare_without c t) rs ≡ false
prepare_stays_named c t rs e =
    none_of_them (prepare_without c t) (leaves_out c t) rs
    (λ r f. right (collecting_without c t r) _ (left _ _ f)) e

pub decision_stays_named : (c : Case) (t : Ticket) (rs : List Record) → has (leaves_out c t) rs ≡ false
    → has (decision_without c t) rs ≡ false
decision_stays_named c t rs e =
    none_of_them (decision_without c t) (leaves_out c t) rs
    (λ r f. right (collecting_without c t r) _ (right (prepare_without c t r) _ f)) e

-- There is one of each kind.

module _ (q naming without : Record → Bool)
    (bars : (rs : List Record) (x : Record) → Fits rs x → q x ≡ true → has q rs ≡ false)
    (names_it : (r : Record) → naming r ≡ true → q r ≡ true)
    (lacks_it : (r : Record) → without r ≡ true → q r ≡ true)
    (apart : (r : Record) → naming r ≡ true → without r ≡ false)
  where
    last_one : (pre : List Record) (r : Record) → q r ≡ true → has q (pre ++ r ∷ []) ≡ true
    last_one pre r e = in_second q pre (r ∷ []) (has-cons q r [] ∙ left (q r) (has q []) e)

    pub one_alone : (pre rs : List Record) → AllFit pre rs → has naming rs ≡ true → has without rs ≡ false
    one_alone pre [] f e = has-nil without
    one_alone pre (r ∷ rs) f e = elim (either (naming r) (has naming rs) (sym (has-cons naming r rs) ∙ e)) [
      | inl now ↦ has-cons without r rs ∙ neither _ _ (apart r now)
          (none_of_them without q rs lacks_it
          (none_later q q bars (pre ++ r ∷ []) rs f.1 (last_one pre r (names_it r now))))
      | inr rest ↦ has-cons without r rs ∙ neither _ _ (not_here (without r) refl rest)
          (one_alone (pre ++ r ∷ []) rs f.1 rest)
    ]
      where
        not_here : (b : Bool) → without r ≡ b → has naming rs ≡ true → without r ≡ false
        not_here false g k = g
        not_here true g k = absurd (never (has q rs) (has_other naming q rs names_it k)
            (none_later q q bars (pre ++ r ∷ []) rs f.1 (last_one pre r (lacks_it r g))))

nobody : (t : Ticket) → in_list [] t ≡ true → ⊥
unfolding in_list
nobody t f = cc

rest_of : (xs ys : List Ticket) → none_of xs ≡ true → none_of (xs ++ ys) ≡ false → none_of ys ≡ false
unfolding none_of
rest_of [] ys a b = b
rest_of (x ∷ xs) ys a b = absurd (cc)

some_if : (b : Bool) (ts : List Ticket) → none_of (if b then ts else []) ≡ false → (b ≡ true)
    × (none_of ts ≡ false)
unfolding none_of
some_if true ts g = (refl, g)
some_if false ts g = absurd (cc)

module _ (c : Case) (t : Ticket) where
  apart_in : (s b : Bool) → (s && b) ≡ true → (s && not b) ≡ false
  apart_in s b e = grind arith

  collecting_bars : (rs : List Record) (x : Record) → Fits rs x → is_collecting c x ≡ true
      → has (is_collecting c) rs ≡ false
  collecting_bars rs (Collecting d ts) f e =
      subst (λ (y : Case). has (is_collecting y) rs ≡ false) (case_is d c e) f.1.1.1
  collecting_bars rs x f e = absurd (cc)

  prepare_bars : (rs : List Record) (x : Record) → Fits rs x → is_prepare c x ≡ true
      → has (is_prepare c) rs ≡ false
  prepare_bars rs (Prepare d ts) f e =
      subst (λ (y : Case). has (is_prepare y) rs ≡ false) (case_is d c e) f.1.1
  prepare_bars rs x f e = absurd (cc)

  collecting_apart : (r : Record) → is_collecting_naming c t r ≡ true → collecting_without c t r ≡ false
  collecting_apart (Collecting d ts) e = apart_in (same_case d c) (in_list ts t) e
  collecting_apart r e = absurd (cc)

  collecting_names : (r : Record) → is_collecting_naming c t r ≡ true → is_collecting c r ≡ true
  collecting_names (Collecting d ts) e = (both (same_case d c) _ e).0
  collecting_names r e = absurd (cc)

  prepare_apart : (r : Record) → is_prepare_naming c t r ≡ true → prepare_without c t r ≡ false
  prepare_apart (Prepare d ts) e = apart_in (same_case d c) (in_list ts t) e
  prepare_apart r e = absurd (cc)

  prepare_names : (r : Record) → is_prepare_naming c t r ≡ true → is_prepare c r ≡ true
  prepare_names (Prepare d ts) e = (both (same_case d c) _ e).0
  prepare_names r e = absurd (cc)

  -- where a Collecting names the ticket, none leaves it out
  pub one_collecting : (rs : List Record) → AllFit [] rs → has (is_collecting_naming c t) rs ≡ true
      → has (collecting_without c t) rs ≡ false
  one_collecting rs f e =
      one_alone (is_collecting c) (is_collecting_naming c t) (collecting_without c t) collecting_bars
      collecting_names
      (collecting_is c t) collecting_apart [] rs f e

  pub one_prepare : (rs : List Record) → AllFit [] rs → has (is_prepare_naming c t) rs ≡ true
      → has (prepare_without c t) rs ≡ false
  one_prepare rs f e =
      one_alone (is_prepare c) (is_prepare_naming c t) (prepare_without c t) prepare_bars prepare_names
      (prepare_is c t) prepare_apart [] rs f e

  -- Who is named.

  if_named : (b : Bool) (ts : List Ticket) → in_list (if b then ts else []) t ≡ true
      → (b && in_list ts t) ≡ true
  if_named true ts e = e
  if_named false ts e = absurd (nobody t e)

  -- whom the promises name, a Prepare names
  pub promised_named : (rs : List Record) → in_list (promised_by c rs) t ≡ true
      → has (is_prepare_naming c t) rs ≡ true
  unfolding promised_by has in_list
  promised_named [] e = absurd (cc)
  promised_named (r ∷ rs) e =
      elim (either _ _ (sym (in_list_both (promised_in c r) (flat_map (promised_in c) rs) t) ∙ e)) [
        | inl now ↦ left _ _ (one r now)
        | inr rest ↦ right (is_prepare_naming c t r) _ (promised_named rs rest)
      ]
    where
      one : (x : Record) → in_list (promised_in c x) t ≡ true → is_prepare_naming c t x ≡ true
      one (Prepare d ts) f = if_named (same_case d c) ts f
      one x f = absurd (cc)

  in_second_list : (xs ys : List Ticket) → in_list ys t ≡ true → in_list (xs ++ ys) t ≡ true
  in_second_list xs ys e = in_list_both xs ys t ∙ right (in_list xs t) _ e

  in_first_list : (xs ys : List Ticket) → in_list xs t ≡ true → in_list (xs ++ ys) t ≡ true
  in_first_list xs ys e = in_list_both xs ys t ∙ left _ _ e

  named_if : (b : Bool) (ts : List Ticket) → b ≡ true → (b && not (in_list ts t)) ≡ false
      → in_list (if b then ts else []) t ≡ true
  named_if true ts e f = sure (in_list ts t) f
    where
      sure : (b : Bool) → (true && not b) ≡ false → b ≡ true
      sure true g = refl
      sure false g = absurd (cc)
  named_if false ts e f = absurd (cc)

  -- a promise that leaves nobody out names the ticket
  pub prepare_promises : (rs : List Record) → has (is_prepare c) rs ≡ true
      → has (prepare_without c t) rs ≡ false
      → in_list (promised_by c rs) t ≡ true
  unfolding promised_by has
  prepare_promises [] e f = absurd (cc)
  prepare_promises (r ∷ rs) e f = elim (either (is_prepare c r) _ e) [
    | inl now ↦ in_first_list (promised_in c r) (flat_map (promised_in c) rs)
        (one r now (first_false (prepare_without c t r) _ f))
    | inr rest ↦ in_second_list (promised_in c r) (flat_map (promised_in c) rs)
        (prepare_promises rs rest (second_false (prepare_without c t r) _ f))
  ]
    where
      one : (x : Record) → is_prepare c x ≡ true → prepare_without c t x ≡ false
          → in_list (promised_in c x) t ≡ true
      one (Prepare d ts) g k = named_if (same_case d c) ts g k
      one x g k = absurd (cc)

  -- a Collecting that leaves it not out names it
  pub collecting_names_it : (rs : List Record) → has (is_collecting c) rs ≡ true
      → has (collecting_without c t) rs ≡ false → in_list (named_by c rs) t ≡ true
  unfolding named_by has
  collecting_names_it [] e f = absurd (cc)
  collecting_names_it (r ∷ rs) e f = elim (either (is_collecting c r) _ e) [
    | inl now ↦ in_first_list (named_in c r) (flat_map (named_in c) rs)
        (one r now (first_false (collecting_without c t r) _ f))
    | inr rest ↦ in_second_list (named_in c r) (flat_map (named_in c) rs)
        (collecting_names_it rs rest (second_false (collecting_without c t r) _ f))
  ]
    where
      one : (x : Record) → is_collecting c x ≡ true → collecting_without c t x ≡ false
          → in_list (named_in c x) t ≡ true
      one (Collecting d ts) g k = named_if (same_case d c) ts g k
      one x g k = absurd (cc)

  -- a decision that names somebody, and leaves it not out, owes it
  pub decision_owes : (rs : List Record) → none_of (owing_by c rs) ≡ false
      → has (decision_without c t) rs ≡ false
      → in_list (owing_by c rs) t ≡ true
  unfolding owing_by has none_of
  decision_owes [] e f = absurd (cc)
  decision_owes (r ∷ rs) e f =
      by_first (decision_owes rs) (none_of (owing_in c r)) refl
    where
      sure : (s z b : Bool) (ts : List Ticket) → (s && (not z && not b)) ≡ false → s ≡ true → z ≡ false
          → b ≡ true
      sure true false true ts g k j = refl
      sure true false false ts g k j = absurd (cc)
      sure true true b ts g k j = absurd (cc)
      sure false z b ts g k j = absurd (cc)

      in_if : (b : Bool) (ts : List Ticket) → b ≡ true → in_list ts t ≡ true
          → in_list (if b then ts else []) t ≡ true
      in_if true ts g k = k
      in_if false ts g k = absurd (cc)

      one : (x : Record) → none_of (owing_in c x) ≡ false → decision_without c t x ≡ false
          → in_list (owing_in c x) t ≡ true
      one (Commit d ts) g k =
          let s = some_if (same_case d c) ts g in
          in_if (same_case d c) ts s.0 (sure (same_case d c) (none_of ts) (in_list ts t) ts k s.0 s.1)
      one (Abort d ts) g k =
          let s = some_if (same_case d c) ts g in
          in_if (same_case d c) ts s.0 (sure (same_case d c) (none_of ts) (in_list ts t) ts k s.0 s.1)
      one x g k = absurd (cc)

      by_first : (none_of (owing_by c rs) ≡ false → has (decision_without c t) rs ≡ false
          → in_list (owing_by c rs) t ≡ true) → (b : Bool) → none_of (owing_in c r) ≡ b
          → in_list (owing_in c r ++ flat_map (owing_in c) rs) t ≡ true
      by_first again false g = in_first_list (owing_in c r) (flat_map (owing_in c) rs)
          (one r g (first_false (decision_without c t r) _ f))
      by_first again true g = in_second_list (owing_in c r) (flat_map (owing_in c) rs)
          (again (rest_of (owing_in c r) _ g e) (second_false (decision_without c t r) _ f))
