-- A child's case, found by the lists and by the live cases.
use Rattle.std.proofs.Common.{◌≡◌, Bool, true, false, ◌&&◌, ◌||◌, cond, Option, None, Some, List, [], ◌∷◌, filter, find, refl, sym, ap, ◌∙◌}
use Rattle.protocol.specs.declared.names.Case.{Case}
use Rattle.protocol.specs.declared.names.Ticket.{Ticket}
use Rattle.protocol.specs.declared.names.Txn.{Txn}
use Rattle.protocol.specs.declared.records.Record.{Record}
use Rattle.protocol.specs.declared.standings.Standing.{Standing}
use Rattle.protocol.specs.declared.standings.Standing.TheVariants.{Unknown, Active, Collecting, Prepared, Committing, Aborting, Heuristic}
use Rattle.protocol.specs.Names.{root_case, same_case, same_txn}
use Rattle.protocol.specs.Records.{has_case, in_list}
use Rattle.protocol.specs.Nodes.{AtLeaf, AtRoot, Below, Node, Place, Role, kept}
use Rattle.protocol.specs.Memory.{Memory, memory_of}
use Rattle.protocol.specs.Standings.{belongs, case_of_child, coordinator_standing, coordinator_view, own_cases, unknown_view, view_at}
use Rattle.protocol.specs.Restarts.{is_known}
use Rattle.protocol.proofs.NameTests.{case_tells, txn_tells}
use Rattle.process_state.specs.States.{CoreState}
use Rattle.process_state.specs.Turns.{FindsChildCase, is_case_of}
use Rattle.tree_state.specs.StandsFor.{ChildrenFit}

found_in : (test : Case → Bool) (cs : List Case) (c : Case) → find test cs ≡ Some c
    → (test c ≡ true) × (has_case cs c ≡ true)
unfolding has_case
found_in test [] c e = absurd (cc)
found_in test (d ∷ cs) c e = by_test (test d) refl e (found_in test cs c)
  where
    either : (a b : Bool) → b ≡ true → (a || b) ≡ true
    either true b h = refl
    either false b h = h

    by_test : (b : Bool) → test d ≡ b → cond b (Some d) (find test cs) ≡ Some c
        → (find test cs ≡ Some c → (test c ≡ true) × (has_case cs c ≡ true)) → (test c ≡ true)
        × ((same_case d c || has_case cs c) ≡ true)
    by_test true is e rest =
        let one : d ≡ c = cc in
        (ap test (sym one) ∙ is, ap (λ b. b || has_case cs c) ((case_tells d c).1 one))
    by_test false is e rest = let later = rest e in (later.0, either (same_case d c) (has_case cs c) later.1)

found_if : (test : Case → Bool) (cs : List Case) (c : Case) → has_case cs c ≡ true → test c ≡ true
    → (d : Case) × (find test cs ≡ Some d)
unfolding has_case
found_if test [] c there is = absurd (cc)
found_if test (d ∷ cs) c there is = by_test (test d) refl (found_if test cs c)
  where
    by_same : (b : Bool) → same_case d c ≡ b → (b || has_case cs c) ≡ true
        → test d ≡ false → has_case cs c ≡ true
    by_same true same there fails = let fits : test d ≡ true =
        ap test ((case_tells d c).0 same) ∙ is in absurd (cc)
    by_same false same there fails = there

    by_test : (b : Bool) → test d ≡ b → (has_case cs c ≡ true → test c ≡ true → (e : Case)
        × (find test cs ≡ Some e)) → (e : Case) × (cond b (Some d) (find test cs) ≡ Some e)
    by_test true fits rest = (d, refl)
    by_test false fails rest = rest (by_same (same_case d c) refl there fails) is

of_filter : (x : Txn) (cs : List Case) (c : Case)
    → has_case (filter (λ d. same_txn d.txn x) cs) c ≡ true → same_txn c.txn x ≡ true
unfolding has_case
of_filter x [] c there = absurd (cc)
of_filter x (d ∷ cs) c there = by_test (same_txn d.txn x) refl there (of_filter x cs c)
  where
    by_same : (b : Bool) → same_case d c ≡ b → same_txn d.txn x ≡ true
        → (b || has_case (filter (λ d. same_txn d.txn x) cs) c) ≡ true
        → (has_case (filter (λ d. same_txn d.txn x) cs) c ≡ true
        → same_txn c.txn x ≡ true) → same_txn c.txn x ≡ true
    by_same true same of there rest = ap (λ e. same_txn e.txn x) (sym ((case_tells d c).0 same)) ∙ of
    by_same false same of there rest = rest there

    by_test : (b : Bool) → same_txn d.txn x ≡ b → has_case
        (cond b (d ∷ filter (λ d. same_txn d.txn x) cs) (filter (λ d. same_txn d.txn x) cs)) c ≡ true
        → (has_case (filter (λ d. same_txn d.txn x) cs) c ≡ true
        → same_txn c.txn x ≡ true) → same_txn c.txn x ≡ true
    by_test true of there rest = by_same (same_case d c) refl of there rest
    by_test false of there rest = rest there

of_root : (x : Txn) (c : Case) → has_case (root_case x ∷ []) c ≡ true → same_txn c.txn x ≡ true
unfolding has_case
of_root x c there = by_same (same_case (root_case x) c) refl there
  where
    by_same : (b : Bool) → same_case (root_case x) c ≡ b → (b || false) ≡ true → same_txn c.txn x ≡ true
    by_same true same there = let one : root_case x ≡ c =
        (case_tells (root_case x) c).0 same in ap (λ e. same_txn e.txn x) (sym one) ∙ (txn_tells x x).1 refl
    by_same false same there = absurd (cc)

-- a case in which a child of the transaction is looked for is of the transaction
own_of : (role : Role) (place : Place) (n : Node) (x : Txn) (c : Case)
    → has_case (own_cases role place n x) c ≡ true → same_txn c.txn x ≡ true
own_of AtRoot place n x c there = of_root x c there
own_of (Below p) place n x c there = of_filter x _ c there
own_of (AtLeaf p) place n x c there = of_filter x _ c there

-- a live view has the tickets that belong to the case; one that is Unknown has nothing
known_lists : (s : Standing) (rs : List Record) (c : Case) (m : Memory) (t : Ticket)
    → is_known (view_at s rs c m).standing ≡ true
    → (in_list (view_at s rs c m).accepted t || in_list (view_at s rs c m).named t) ≡ belongs m rs c t
known_lists Unknown rs c m t known = absurd (cc)
known_lists Active rs c m t known = refl
known_lists Collecting rs c m t known = refl
known_lists Prepared rs c m t known = refl
known_lists Committing rs c m t known = refl
known_lists Aborting rs c m t known = refl
known_lists Heuristic rs c m t known = refl

unknown_is : (s : Standing) (rs : List Record) (c : Case) (m : Memory)
    → is_known (view_at s rs c m).standing ≡ false → view_at s rs c m ≡ unknown_view
unknown_is Unknown rs c m dead = refl
unknown_is Active rs c m dead = absurd (cc)
unknown_is Collecting rs c m dead = absurd (cc)
unknown_is Prepared rs c m dead = absurd (cc)
unknown_is Committing rs c m dead = absurd (cc)
unknown_is Aborting rs c m dead = absurd (cc)
unknown_is Heuristic rs c m dead = absurd (cc)

-- what lists find is what live cases find; or they find a case that is not live
pub data FoundAs (place : Place) (n : Node) (x : Txn) : Option Case → Option Case → Type 0 where
  alike : (found : Option Case) → FoundAs place n x found found
  dead : (c : Case) → c.txn ≡ x → coordinator_view place n c ≡ unknown_view → FoundAs place n x (Some c) None

module _ (place : Place) (n : Node) (fit : ChildrenFit place n) where
  belongs_to : Ticket → Case → Bool
  belongs_to t c = belongs (memory_of place n c) (kept n) c t

  pub and_all : (a b c : Bool) → (a && (b && c)) ≡ true → (a ≡ true) × (b ≡ true) × (c ≡ true)
  and_all true true true h = (refl, refl, refl)
  and_all true true false h = absurd (cc)
  and_all true false c h = absurd (cc)
  and_all false b c h = absurd (cc)

  pub lists : (c : Case) (t : Ticket) → is_known (coordinator_view place n c).standing ≡ true
      → (in_list (coordinator_view place n c).accepted t || in_list (coordinator_view place n c).named t)
      ≡ belongs (memory_of place n c) (kept n) c t
  unfolding coordinator_view
  lists c t known = known_lists (coordinator_standing (kept n) c (memory_of place n c)) (kept n) c
      (memory_of place n c) t known

  nothing : (c : Case) → is_known (coordinator_view place n c).standing ≡ false
      → coordinator_view place n c ≡ unknown_view
  unfolding coordinator_view
  nothing c gone = unknown_is (coordinator_standing (kept n) c (memory_of place n c)) (kept n)
      c (memory_of place n c) gone

  -- the case to which the child belongs is found
  pub found_case : (x : Txn) (t : Ticket) (c : Case) → has_case (own_cases place.role place n x) c ≡ true
      → belongs (memory_of place n c) (kept n) c t ≡ true → case_of_child place n x t ≡ Some c
  found_case x t c there its =
      let found = found_if (λ d. belongs (memory_of place n d) (kept n) d t)
      (own_cases place.role place n x) c there its in
      let is_there = found_in (λ d. belongs (memory_of place n d) (kept n) d t)
      (own_cases place.role place n x) found.0 found.1 in
      found.1 ∙ ap (λ d. Some d) (fit.one x t found.0 c is_there.1 is_there.0 there its)

  module _ (s : CoreState) (views : (c : Case) → s.view_of c ≡ coordinator_view place n c)
      (x : Txn) (t : Ticket) where
    is_case-at : (c : Case) → is_case_of s x t c
        ≡ (same_txn c.txn x && (is_known (coordinator_view place n c).standing && (in_list
        (coordinator_view place n c).accepted t || in_list (coordinator_view place n c).named t)))
    is_case-at c = ap (λ v. same_txn c.txn x && (is_known v.standing
        && (in_list v.accepted t || in_list v.named t))) (views c)

    found_live : (c : Case) → is_case_of s x t c ≡ true → case_of_child place n x t ≡ Some c
    found_live c is =
        let parts = and_all _ _ _ (sym (is_case-at c) ∙ is) in
        let of_txn : c.txn ≡ x = (txn_tells c.txn x).0 parts.0 in
        let there : has_case (own_cases place.role place n x) c ≡ true =
        ap (λ y. has_case (own_cases place.role place n y) c) (sym of_txn) ∙ fit.listed c parts.1 in
        let its : belongs (memory_of place n c) (kept n) c t ≡ true = sym (lists c t parts.1) ∙ parts.2 in
        found_case x t c there its

    found_dead : ((c : Case) → is_case_of s x t c ≡ false) → (found : Option Case)
        → case_of_child place n x t ≡ found → FoundAs place n x found None
    found_dead none None e = alike None
    found_dead none (Some c) e =
        let is_there = found_in (λ d. belongs (memory_of place n d) (kept n) d t)
        (own_cases place.role place n x) c e in
        let of_txn : same_txn c.txn x ≡ true = own_of place.role place n x c is_there.1 in
        dead c ((txn_tells c.txn x).0 of_txn)
        (nothing c (by_known (is_known (coordinator_view place n c).standing) refl of_txn is_there.0))
      where
        by_known : (b : Bool) → is_known (coordinator_view place n c).standing ≡ b → same_txn c.txn x ≡ true
            → belongs (memory_of place n c) (kept n) c t ≡ true → b ≡ false
        by_known false known of_txn its = refl
        by_known true known of_txn its =
            let yes : is_case_of s x t c ≡ true = is_case-at c
            ∙ rw (of_txn, known, lists c t known, its) refl in
            let no : is_case_of s x t c ≡ false = none c in
            cc

    pub found_as : (found : Option Case) → FindsChildCase s (Some (x, t)) found
        → FoundAs place n x (case_of_child place n x t) found
    found_as None finds = found_dead finds (case_of_child place n x t) refl
    found_as (Some c) finds = rw (found_live c finds) (alike (Some c))
