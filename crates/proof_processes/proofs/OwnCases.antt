-- To which case of a coordinator a child's ticket belongs.
use Rattle.std.proofs.Common.{◌≡◌, ◌∙◌, inl, inr, Bool, true, false, Option, Some, None, List, [], ◌∷◌, ◌++◌, refl, sym, ap, subst, if◌then◌else◌}
use Rattle.std.specs.Prelude.{filter, find}
use Rattle.std.proofs.lemmas.List.Folds.{list_any-append}
use Rattle.protocol.specs.declared.names.Case.{Case}
use Rattle.protocol.specs.declared.names.ProcessId.{ProcessId}
use Rattle.protocol.specs.declared.names.Ticket.{Ticket}
use Rattle.protocol.specs.declared.names.Txn.{Txn}
use Rattle.protocol.specs.declared.trees.TreeProcess.{TreeProcess}
use Rattle.protocol.specs.Names.{same_txn, same_case, root_case}
use Rattle.protocol.specs.NameLaws.{same_txn_tells, same_case-refl}
use Rattle.protocol.specs.Records.{has_case, cases_in}
use Rattle.protocol.specs.Nodes.{Node, kept}
use Rattle.protocol.specs.Memory.{memory_of}
use Rattle.protocol.specs.Standings.{belongs, case_of_child, own_cases, some_case}
use Rattle.proof_processes.proofs.Remembering.{role_below, coordinator_place}
use Rattle.proof_processes.proofs.Tests.{either, left, right, case_is}

-- What a search finds passes its test, and what it does not find passes it nowhere.

found_passes : (f : Case → Bool) (cs : List Case) (c : Case) → find f cs ≡ Some c → f c ≡ true
found_passes f [] c e = absurd (cc)
found_passes f (d ∷ cs) c e = by_test (f d) refl e (found_passes f cs c)
  where
    by_test : (b : Bool) → f d ≡ b → (if b then Some d else find f cs) ≡ Some c
        → (find f cs ≡ Some c → f c ≡ true)
        → f c ≡ true
    by_test true g h k = subst (λ (x : Case). f x ≡ true) (let z : d ≡ c = cc in z) g
    by_test false g h k = k h

found_among : (P : Case → Type 0) (f : Case → Bool) (cs : List Case) (c : Case)
    → ((d : Case) → has_case cs d ≡ true → P d)
    → find f cs ≡ Some c → P c
unfolding has_case
found_among P f [] c all e = absurd (cc)
found_among P f (d ∷ cs) c all e =
    by_test (f d) e (found_among P f cs c (λ x g. all x (right (same_case d x) (has_case cs x) g)))
  where
    by_test : (b : Bool) → (if b then Some d else find f cs) ≡ Some c → (find f cs ≡ Some c → P c) → P c
    by_test true h k =
        subst P (let z : d ≡ c = cc in z) (all d (left (same_case d d) (has_case cs d) (same_case-refl d)))
    by_test false h k = k h

found_none : (f : Case → Bool) (cs : List Case) (c : Case) → find f cs ≡ None → has_case cs c ≡ true → f c
    ≡ false
unfolding has_case
found_none f [] c e g = absurd (cc)
found_none f (d ∷ cs) c e g = by_test (f d) refl e (found_none f cs c)
  where
    by_test : (b : Bool) → f d ≡ b → (if b then Some d else find f cs) ≡ None
        → (find f cs ≡ None → has_case cs c ≡ true → f c ≡ false) → f c ≡ false
    by_test true h k r = absurd (cc)
    by_test false h k r = elim (either (same_case d c) (has_case cs c) g) [
      | inl now ↦ subst (λ (x : Case). f x ≡ false) (case_is d c now) h
      | inr rest ↦ r k rest
    ]

filtered_passes : (f : Case → Bool) (cs : List Case) (c : Case) → has_case (filter f cs) c ≡ true → f c ≡ true
unfolding has_case
filtered_passes f [] c e = absurd (cc)
filtered_passes f (d ∷ cs) c e = by_test (f d) refl e (filtered_passes f cs c)
  where
    by_test : (b : Bool) → f d ≡ b → has_case (if b then d ∷ filter f cs else filter f cs) c ≡ true
        → (has_case (filter f cs) c ≡ true → f c ≡ true) → f c ≡ true
    by_test true h k r = elim (either (same_case d c) (has_case (filter f cs) c) k) [
      | inl now ↦ subst (λ (x : Case). f x ≡ true) (case_is d c now) h
      | inr rest ↦ r rest
    ]
    by_test false h k r = r k

filtered_has : (f : Case → Bool) (cs : List Case) (c : Case) → has_case cs c ≡ true → f c ≡ true
    → has_case (filter f cs) c ≡ true
unfolding has_case
filtered_has f [] c e g = absurd (cc)
filtered_has f (d ∷ cs) c e g = by_test (f d) refl (filtered_has f cs c)
  where
    by_test : (b : Bool) → f d ≡ b → (has_case cs c ≡ true → f c ≡ true → has_case (filter f cs) c ≡ true)
        → has_case (if b then d ∷ filter f cs else filter f cs) c ≡ true
    by_test true h r = elim (either (same_case d c) (has_case cs c) e) [
      | inl now ↦ left (same_case d c) (has_case (filter f cs) c) now
      | inr rest ↦ right (same_case d c) (has_case (filter f cs) c) (r rest g)
    ]
    by_test false h r = elim (either (same_case d c) (has_case cs c) e) [
      | inl now ↦ absurd (let k = subst (λ (x : Case). f x ≡ false) (case_is d c now) h in let l = sym k
          ∙ g in cc)
      | inr rest ↦ r rest g
    ]

one_case : (c d : Case) → has_case (c ∷ []) d ≡ true → c ≡ d
unfolding has_case
one_case c d e = elim (either (same_case c d) false e) [
  | inl now ↦ case_is c d now
  | inr rest ↦ absurd (cc)
]

txn_is : (x y : Txn) → same_txn x y ≡ true → x ≡ y
txn_is x y e = elim (same_txn_tells x y) [ inl t ↦ t.1 | inr f ↦ absurd (let g = f.0 in cc) ]

-- the coordinator's cases of a transaction are of it
own_txn : (me : ProcessId) (parent : Option ProcessId) (tree : List TreeProcess) (n : Node)
    (y : Txn) (c : Case)
    → has_case (own_cases (role_below parent) (coordinator_place me parent tree) n y) c ≡ true → c.txn ≡ y
own_txn me None tree n y c e = ap (λ (x : Case). x.txn) (sym (one_case (root_case y) c e))
own_txn me (Some p) tree n y c e = txn_is c.txn y (filtered_passes (λ d. same_txn d.txn y) _ c e)

module _ (me : ProcessId) (parent : Option ProcessId) (tree : List TreeProcess) (n : Node) where
  -- the case to which a child's ticket belongs is of the transaction
  pub child_txn : (y : Txn) (t : Ticket) (c : Case) → case_of_child (coordinator_place me parent tree) n y t
      ≡ Some c
      → c.txn ≡ y
  child_txn y t c e = found_among (λ (d : Case). d.txn ≡ y) _ _ c (own_txn me parent tree n y) e

  pub child_belongs : (y : Txn) (t : Ticket) (c : Case)
      → case_of_child (coordinator_place me parent tree) n y t ≡ Some c
      → belongs (memory_of (coordinator_place me parent tree) n c) (kept n) c t ≡ true
  child_belongs y t c e =
      found_passes (λ d. belongs (memory_of (coordinator_place me parent tree) n d) (kept n) d t)
      (own_cases (role_below parent) (coordinator_place me parent tree) n y) c e

  -- a ticket that belongs to no case belongs to none of the coordinator's cases
  pub child_nowhere : (y : Txn) (t : Ticket) (c : Case)
      → case_of_child (coordinator_place me parent tree) n y t ≡ None
      → has_case (own_cases (role_below parent) (coordinator_place me parent tree) n y) c ≡ true
      → belongs (memory_of (coordinator_place me parent tree) n c) (kept n) c t ≡ false
  child_nowhere y t c e g =
      found_none (λ d. belongs (memory_of (coordinator_place me parent tree) n d) (kept n) d t)
      (own_cases (role_below parent) (coordinator_place me parent tree) n y) c e g

in_last : (xs ys : List Case) (c : Case) → has_case ys c ≡ true → has_case (xs ++ ys) c ≡ true
unfolding has_case
in_last xs ys c f = list_any-append _ xs ys ∙ right _ _ f

-- below the root a case whose ticket was given is the coordinator's
pub issued_is_own : (me p : ProcessId) (tree : List TreeProcess) (n : Node) (c : Case)
    → has_case (memory_of (coordinator_place me (Some p) tree) n
    (some_case (coordinator_place me (Some p) tree))).issued c
    ≡ true
    → has_case (own_cases (role_below (Some p)) (coordinator_place me (Some p) tree) n c.txn) c ≡ true
issued_is_own me p tree n c e =
    filtered_has (λ d. same_txn d.txn c.txn) _ c (in_last (cases_in (kept n)) _ c e) itself
  where
    itself : same_txn c.txn c.txn ≡ true
    itself = elim (same_txn_tells c.txn c.txn) [ inl t ↦ t.0 | inr f ↦ absurd (f.1 refl) ]

-- and the root's case of a transaction is its own
pub root_is_own : (me : ProcessId) (tree : List TreeProcess) (n : Node) (x : Txn)
    → has_case (own_cases (role_below None) (coordinator_place me None tree) n x) (root_case x) ≡ true
unfolding has_case
root_is_own me tree n x = left _ _ (same_case-refl (root_case x))
