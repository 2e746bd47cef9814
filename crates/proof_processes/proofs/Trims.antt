-- What a trim leaves of a manager's log: of each branch all records or none, so the order stays, and what
-- an operator
-- decided stays until it is forgotten.
use Rattle.std.proofs.Common.{◌≡◌, ◌∙◌, ◌||◌, ◌&&◌, ◌⊎◌, inl, inr, ℕ, Bool, true, false, Option, Some, None, List, [], ◌∷◌, map, refl, sym, ap, if◌then◌else◌}
use Rattle.std.specs.Prelude.{not}
use Rattle.protocol.specs.declared.names.Case.{Case}
use Rattle.protocol.specs.declared.names.ProcessId.{ProcessId}
use Rattle.protocol.specs.declared.names.Outcome.{Outcome}
use Rattle.protocol.specs.declared.records.BranchName.{BranchName}
use Rattle.protocol_words.specs.Variants.{CaseBranch}
use Rattle.protocol.specs.declared.records.Record.{Record}
use Rattle.protocol.specs.declared.records.Record.TheVariants.{Opened, Base, Pair}
use Rattle.protocol.specs.Records.{has, is_decided, is_forgot, prepares_branch, record_branch, boot_of}
use Rattle.protocol.specs.Nodes.{Role, AtRoot, Below, AtLeaf}
use Rattle.protocol.specs.Standings.{Mark, Unmarked, mark_of, mark_after}
use Rattle.protocol.specs.Store.{pair_record, stored}
use Rattle.protocol.specs.Restarts.{is_open, branch_stays, stays, staying, data_records, trimmed}
use Rattle.proof_processes.specs.Marks.{branch_is, is_branch_record, may_follow, in_order_from}
use Rattle.proof_processes.proofs.Tests.{either, left, right, both, and, neither, not_both, has-cons, in_first, in_either}
use Rattle.proof_processes.proofs.Orders.{marks, mark_is, branch_tells, other_leaves, none_promised, order_of_others, order_then_others, open_if_decided, decided_is_of}

-- a list with a record in front of it, or without
abbrev with_if : Bool → Record → List Record → List Record
with_if b r rs = if b then r ∷ rs else rs

was_there : (q : Record → Bool) (b : Bool) (r : Record) (ls rs : List Record)
    → has q (with_if b r ls) ≡ true
    → (has q ls ≡ true → has q rs ≡ true) → has q (r ∷ rs) ≡ true
was_there q true r ls rs e k = elim (either (q r) (has q ls) (sym (has-cons q r ls) ∙ e)) [
  | inl now ↦ has-cons q r rs ∙ left (q r) (has q rs) now
  | inr rest ↦ has-cons q r rs ∙ right (q r) (has q rs) (k rest)
]
was_there q false r ls rs e k = has-cons q r rs ∙ right (q r) (has q rs) (k e)

-- what stays stood there
pub stayed : (q : Record → Bool) (role : Role) (whole rs : List Record)
    → has q (staying role whole rs) ≡ true → has q rs ≡ true
unfolding has
stayed q role whole [] e = e
stayed q role whole (r ∷ rs) e =
    was_there q (stays role whole rs r) r (staying role whole rs) rs e (stayed q role whole rs)

none_if : (q : Record → Bool) (b : Bool) (r : Record) (ls : List Record) → q r ≡ false → has q ls ≡ false
    → has q (with_if b r ls) ≡ false
none_if q true r ls e f = has-cons q r ls ∙ neither _ _ e f
none_if q false r ls e f = f

pub there_if : (q : Record → Bool) (b : Bool) (r : Record) (ls : List Record) → has q ls ≡ true
    → has q (with_if b r ls) ≡ true
there_if q true r ls e = has-cons q r ls ∙ right _ _ e
there_if q false r ls e = e

none_without : (q : Record → Bool) (b c : Bool) (r : Record) (ls : List Record) → b ≡ (false && c)
    → has q ls ≡ false → has q (with_if b r ls) ≡ false
none_without q b c r ls e f = rw e f

order_if : (d : Case) (m : Mark) (b : Bool) (r : Record) (ls : List Record) → is_branch_record d r ≡ false
    → in_order_from d m ls ≡ true → in_order_from d m (with_if b r ls) ≡ true
unfolding in_order_from
order_if d m true r ls e f = other_first _ (may_follow m r) _ e
    (ap (λ k. in_order_from d k ls) (other_leaves d m r e) ∙ f)
  where
    other_first : (a b c : Bool) → a ≡ false → c ≡ true → ((not a || b) && c) ≡ true
    other_first a b c e f = rw (e, f) refl
order_if d m false r ls e f = f

order_with : (d : Case) (m : Mark) (b : Bool) (r : Record) (ls : List Record) → b ≡ true
    → (not (is_branch_record d r) || may_follow m r) ≡ true
    → in_order_from d (mark_after (CaseBranch d) m r) ls ≡ true
    → in_order_from d m (with_if b r ls) ≡ true
unfolding in_order_from
order_with d m b r ls e f g = rw e (and _ _ f g)

module _ (p : ProcessId) (whole : List Record) (d : Case) where
  abbrev left_of : List Record → List Record
  left_of rs = staying (AtLeaf p) whole rs

  by_branch : (rs : List Record) (o : Option BranchName) → branch_is d o ≡ true
      → branch_stays whole rs o ≡
      (is_open (mark_of (CaseBranch d) whole) && not (has (prepares_branch (CaseBranch d)) rs))
  by_branch rs None e = absurd (cc)
  by_branch rs (Some b) e = rw (branch_tells d b e) refl

  pub own_stays : (r : Record) (rs : List Record) → is_branch_record d r ≡ true
      → stays (AtLeaf p) whole rs r
      ≡ (is_open (mark_of (CaseBranch d) whole) && not (has (prepares_branch (CaseBranch d)) rs))
  own_stays r rs e = by_branch rs (record_branch r) e

  -- A branch that is over leaves nothing.

  module _ (over : is_open (mark_of (CaseBranch d) whole) ≡ false) where
    drops : (r : Record) (rs ls : List Record) (b : Bool) → is_branch_record d r ≡ b
        → has (is_branch_record d) ls ≡ false
        → has (is_branch_record d) (with_if (stays (AtLeaf p) whole rs r) r ls) ≡ false
    drops r rs ls true e f = none_without (is_branch_record d) _
        (not (has (prepares_branch (CaseBranch d)) rs)) r ls
        (own_stays r rs e ∙ ap (λ b. b && not (has (prepares_branch (CaseBranch d)) rs)) over) f
    drops r rs ls false e f = none_if (is_branch_record d) (stays (AtLeaf p) whole rs r) r ls e f

    pub dropped : (rs : List Record) → has (is_branch_record d) (left_of rs) ≡ false
    unfolding has
    dropped [] = refl
    dropped (r ∷ rs) = drops r rs (left_of rs) (is_branch_record d r) refl (dropped rs)

  -- One that is open keeps all of its records.

  module _ (is_there : is_open (mark_of (CaseBranch d) whole) ≡ true) where
    keeps : (m : Mark) (r : Record) (rs : List Record) → is_branch_record d r ≡ true
        → in_order_from d (mark_after (CaseBranch d) m r) rs ≡ true → stays (AtLeaf p) whole rs r ≡ true
    keeps m r rs e f =
        own_stays r rs e ∙ all_true _ _ is_there
        (none_promised d (mark_after (CaseBranch d) m r) rs (marks d m r e) f)
      where
        all_true : (a b : Bool) → a ≡ true → b ≡ false → (a && not b) ≡ true
        all_true a b e f = rw (e, f) refl

    order_one : (m : Mark) (r : Record) (rs ls : List Record) (b : Bool) → is_branch_record d r ≡ b
        → (not (is_branch_record d r) || may_follow m r) ≡ true
        → in_order_from d (mark_after (CaseBranch d) m r) rs ≡ true
        → in_order_from d (mark_after (CaseBranch d) m r) ls ≡ true
        → in_order_from d m (with_if (stays (AtLeaf p) whole rs r) r ls) ≡ true
    order_one m r rs ls true e f g h = order_with d m (stays (AtLeaf p) whole rs r) r ls (keeps m r rs e g)
        f h
    order_one m r rs ls false e f g h = order_if d m (stays (AtLeaf p) whole rs r) r ls e
        (ap (λ k. in_order_from d k ls) (sym (other_leaves d m r e)) ∙ h)

    ordered : (m : Mark) (rs : List Record) → in_order_from d m rs ≡ true
        → in_order_from d m (left_of rs) ≡ true
    unfolding in_order_from
    ordered m [] e = refl
    ordered m (r ∷ rs) e =
        let b = both _ _ e in
        order_one m r rs (left_of rs) (is_branch_record d r) refl b.0 b.1
        (ordered (mark_after (CaseBranch d) m r) rs b.1)

    decided_one : (o : Outcome) (b : Bool) (r : Record) (ls : List Record) → b ≡ true
        → is_decided d o r ≡ true
        → has (is_decided d o) (with_if b r ls) ≡ true
    decided_one o b r ls e f = rw e (has-cons (is_decided d o) r ls ∙ left _ _ f)

    decision : (o : Outcome) (m : Mark) (rs : List Record) → in_order_from d m rs ≡ true
        → has (is_decided d o) rs ≡ true
        → has (is_decided d o) (left_of rs) ≡ true
    unfolding in_order_from has
    decision o m [] e f = absurd (cc)
    decision o m (r ∷ rs) e f =
        let b = both _ _ e in
        elim (either _ _ f) [
          | inl now ↦ decided_one o (stays (AtLeaf p) whole rs r) r (left_of rs)
              (keeps m r rs (decided_is_of d o r now) b.1) now
          | inr rest ↦ there_if (is_decided d o) (stays (AtLeaf p) whole rs r) r (left_of rs)
              (decision o (mark_after (CaseBranch d) m r) rs b.1 rest)
        ]

  stays_ordered : in_order_from d Unmarked whole ≡ true → in_order_from d Unmarked (left_of whole) ≡ true
  stays_ordered e = by_open (is_open (mark_of (CaseBranch d) whole)) refl
    where
      by_open : (b : Bool) → is_open (mark_of (CaseBranch d) whole) ≡ b
          → in_order_from d Unmarked (left_of whole) ≡ true
      by_open true f = ordered f Unmarked whole e
      by_open false f = order_of_others d Unmarked (left_of whole) (dropped f whole)

-- The data's records are of no branch.

pairs_are_others : (q : Record → Bool) → ((k v : List ℕ) → q (Pair k v) ≡ false)
    → (ps : List (List ℕ × List ℕ))
    → has q (map pair_record ps) ≡ false
unfolding has
pairs_are_others q e [] = refl
pairs_are_others q e (x ∷ ps) = neither _ _ (e x.0 x.1) (pairs_are_others q e ps)

pub data_is_other : (q : Record → Bool) → ((k v : List ℕ) → q (Pair k v) ≡ false)
    → ((k : ℕ) → q (Base k) ≡ false)
    → (role : Role) (rs : List Record) → has q (data_records role rs) ≡ false
unfolding has
data_is_other q e f (AtLeaf p) rs = neither _ _ (f _) (pairs_are_others q e (stored rs).pairs)
data_is_other q e f AtRoot rs = refl
data_is_other q e f (Below p) rs = refl

-- What a trim leaves.

pub trim_order : (p : ProcessId) (d : Case) (rs : List Record) → in_order_from d Unmarked rs ≡ true
    → in_order_from d Unmarked (trimmed (AtLeaf p) rs) ≡ true
unfolding trimmed in_order_from
trim_order p d rs e =
    order_then_others d Unmarked (staying (AtLeaf p) rs rs) (data_records (AtLeaf p) rs)
    (stays_ordered p rs d e)
    (data_is_other (is_branch_record d) (λ k v. refl) (λ k. refl) (AtLeaf p) rs)

pub trim_decision : (p : ProcessId) (d : Case) (o : Outcome) (rs : List Record)
    → in_order_from d Unmarked rs ≡ true
    → has (is_decided d o) rs ≡ true → has (is_forgot d) rs ≡ false
    → has (is_decided d o) (trimmed (AtLeaf p) rs) ≡ true
unfolding trimmed
trim_decision p d o rs e f g =
    let is_there : is_open (mark_of (CaseBranch d) rs) ≡ true =
    ap is_open (mark_is d rs) ∙ open_if_decided d o Unmarked rs e f g in
    in_first (is_decided d o) (Opened (boot_of rs) ∷ staying (AtLeaf p) rs rs) (data_records (AtLeaf p) rs)
    (has-cons (is_decided d o) (Opened (boot_of rs)) (staying (AtLeaf p) rs rs)
    ∙ right _ _ (decision p rs d is_there o Unmarked rs e f))

-- what is left stood there, or is of the data, or Opened
pub trim_left : (q : Record → Bool) → ((k : ℕ) → q (Opened k) ≡ false) → (role : Role) (rs : List Record)
    → has q (trimmed role rs) ≡ true → (has q rs ≡ true) ⊎ (has q (data_records role rs) ≡ true)
unfolding trimmed
trim_left q none role rs e = elim
    (in_either q (Opened (boot_of rs) ∷ staying role rs rs) (data_records role rs) e) [
      | inl first ↦ inl (stayed q role rs rs (rest first))
      | inr last ↦ inr last
    ]
  where
    rest : has q (Opened (boot_of rs) ∷ staying role rs rs) ≡ true → has q (staying role rs rs) ≡ true
    rest f = elim (either (q (Opened (boot_of rs))) (has q (staying role rs rs)) (sym (has-cons q _ _) ∙ f)) [
      | inl now ↦ not_both q (q (Opened (boot_of rs))) now (none (boot_of rs))
      | inr r ↦ r
    ]
