-- To which case a ticket belongs, and that it is one case.
use Rattle.std.proofs.Common.{◌≡◌, ◌∙◌, ◌⊎◌, inl, inr, Bool, true, false, not, ◌||◌, ◌&&◌, Some, None, List, [], ◌∷◌, ◌++◌, refl, sym, subst, if◌then◌else◌}
use Rattle.std.specs.Prelude.{find}
use Rattle.std.specs.List.{list_any, flat_map}
use Rattle.std.proofs.lemmas.List.Folds.{list_any-append}
use Rattle.protocol.specs.declared.names.Case.{Case}
use Rattle.protocol.specs.declared.names.Ticket.{Ticket}
use Rattle.protocol.specs.declared.names.Txn.{Txn}
use Rattle.protocol.specs.declared.messages.Message.{Message}
use Rattle.protocol.specs.declared.messages.Message.TheVariants.{Joined}
use Rattle.protocol.specs.declared.messages.Envelope.{Envelope}
use Rattle.protocol.specs.declared.records.Record.{Record}
use Rattle.protocol_words.specs.Variants.{AbortRecord, CollectingRecord, CommitRecord, PrepareRecord}
use Rattle.protocol.specs.Names.{same_case, same_ticket}
use Rattle.protocol.specs.NameLaws.{same_case_tells}
use Rattle.protocol.specs.Records.{has, in_list, named_in, named_by}
use Rattle.protocol.specs.Nodes.{kept}
use Rattle.protocol.specs.Memory.{memory_of}
use Rattle.protocol.specs.Outcomes.{has_accepted, sent, is_joined_message}
use Rattle.protocol.specs.Standings.{belongs, case_of_child, own_cases}
use Rattle.protocol.specs.Audits.{is_naming}
use Rattle.proof_processes.specs.WorldHolds.{gives_other}
use Rattle.proof_processes.proofs.Tests.{either, left, right, both, has-cons}
use Rattle.proof_steps.proofs.parents.Turns.{Turn}

-- Whom records name.

in_nobody : {A : Type 0} (t : Ticket) → in_list [] t ≡ true → A
unfolding in_list
in_nobody t e = absurd (cc)

named_if : (b : Bool) (ts : List Ticket) (t : Ticket) → in_list (if b then ts else []) t ≡ true
    → (b && in_list ts t) ≡ true
named_if true ts t e = e
named_if false ts t e = in_nobody t e

in_one : (xs ys : List Ticket) (t : Ticket) → in_list (xs ++ ys) t ≡ true
    → (in_list xs t ≡ true) ⊎ (in_list ys t ≡ true)
unfolding in_list
in_one xs ys t e = either _ _ (sym (list_any-append _ xs ys) ∙ e)

record_names : (c : Case) (t : Ticket) (r : Record) → in_list (named_in c r) t ≡ true → is_naming c t r ≡ true
record_names c t (CollectingRecord d ts) e =
    let x = same_case d c && in_list ts t in left (x || false) false
    (left x false (named_if (same_case d c) ts t e))
record_names c t (PrepareRecord d ts) e =
    left (same_case d c && in_list ts t) false (named_if (same_case d c) ts t e)
record_names c t (CommitRecord d ts) e = named_if (same_case d c) ts t e
record_names c t (AbortRecord d ts) e = named_if (same_case d c) ts t e
record_names c t r e = in_nobody t e

pub records_name : (c : Case) (t : Ticket) (rs : List Record) → in_list (named_by c rs) t ≡ true
    → has (is_naming c t) rs ≡ true
unfolding named_by
records_name c t [] e = in_nobody t e
records_name c t (r ∷ rs) e =
    by_either (in_one (named_in c r) (flat_map (named_in c) rs) t e) (records_name c t rs)
  where
    by_either : (in_list (named_in c r) t ≡ true) ⊎ (in_list (flat_map (named_in c) rs) t ≡ true)
        → (in_list (flat_map (named_in c) rs) t ≡ true → has (is_naming c t) rs ≡ true)
        → has (is_naming c t) (r ∷ rs) ≡ true
    by_either (inl now) g = has-cons (is_naming c t) r rs ∙ left _ _ (record_names c t r now)
    by_either (inr rest) g = has-cons (is_naming c t) r rs ∙ right _ _ (g rest)

-- Finding in a list.

pub clash : {A : Type 0} (b : Bool) → b ≡ true → b ≡ false → A
clash b e f = absurd (let g = sym e ∙ f in cc)

found_passes : (f : Case → Bool) (cs : List Case) (d : Case) → find f cs ≡ Some d → f d ≡ true
found_passes f [] d e = absurd (cc)
found_passes f (x ∷ cs) d e = by_test (f x) refl e (found_passes f cs d)
  where
    by_test : (b : Bool) → f x ≡ b → (if b then Some x else find f cs) ≡ Some d
        → (find f cs ≡ Some d → f d ≡ true)
        → f d ≡ true
    by_test true g h k = subst (λ (y : Case). f y ≡ true) (let q : x ≡ d = cc in q) g
    by_test false g h k = k h

pub none_passes : (f : Case → Bool) (cs : List Case) (d : Case) → find f cs ≡ None
    → list_any (λ x. same_case x d) cs ≡ true
    → f d ≡ false
none_passes f [] d e i = absurd (cc)
none_passes f (x ∷ cs) d e i = by_test (f x) refl e (none_passes f cs d)
  where
    here : f x ≡ false → (same_case x d ≡ true) ⊎ (list_any (λ y. same_case y d) cs ≡ true) → find f cs ≡ None
        → (find f cs ≡ None → list_any (λ y. same_case y d) cs ≡ true → f d ≡ false)
        → f d ≡ false
    here g (inl s) h k = elim (same_case_tells x d) [
      | inl t ↦ subst (λ (y : Case). f y ≡ false) t.1 g
      | inr o ↦ clash (same_case x d) s o.0
    ]
    here g (inr s) h k = k h s

    by_test : (b : Bool) → f x ≡ b → (if b then Some x else find f cs) ≡ None
        → (find f cs ≡ None → list_any (λ y. same_case y d) cs ≡ true → f d ≡ false)
        → f d ≡ false
    by_test true g h k = absurd (cc)
    by_test false g h k = here g (either _ _ i) h k

-- what JOINED gave to one case is not given to another
free_of : (net : List Envelope) (c d : Case) (t : Ticket) → sent (gives_other c t) net ≡ false
    → sent (is_joined_message d t) net ≡ true → same_case d c ≡ true
unfolding sent
free_of [] c d t free joined = absurd (cc)
free_of (l ∷ ls) c d t free joined =
    elim (either _ _ joined) [
      | inl now ↦ here l.message now (first_false _ _ free)
      | inr rest ↦ free_of ls c d t (second_false _ _ free) rest
    ]
  where
    first_false : (a b : Bool) → (a || b) ≡ false → a ≡ false
    first_false true b e = absurd (cc)
    first_false false b e = refl

    second_false : (a b : Bool) → (a || b) ≡ false → b ≡ false
    second_false true b e = absurd (cc)
    second_false false b e = e

    of_test : (b : Bool) → (true && not b) ≡ false → b ≡ true
    of_test true e = refl
    of_test false e = absurd (cc)

    here : (m : Message) → is_joined_message d t m ≡ true → gives_other c t m ≡ false → same_case d c ≡ true
    here (Joined x u) j g =
        let both_so = both (same_case x d) (same_ticket u t) j in
        elim (same_case_tells x d) [
          | inl same ↦ subst (λ (y : Case). same_case y c ≡ true) same.1
              (of_test (same_case x c) (subst (λ b. (b && not (same_case x c)) ≡ false) both_so.1 g))
          | inr other ↦ clash (same_case x d) both_so.0 other.0
        ]
    here m j g = absurd (cc)

module _ (turn : Turn) where
  open turn use {place, n, net, c, t, nested, holds, joined_once, free}

  -- a case accepted the ticket that it remembers, or that a record of it names
  pub belongs_accepted : (d : Case) (u : Ticket) → belongs (memory_of place n d) (kept n) d u ≡ true
      → has_accepted n d u ≡ true
  belongs_accepted d u e = elim (either _ _ e) [
    | inl remembered ↦ holds.remembered_accepted d u remembered
    | inr named ↦ holds.named_accepted d u
        (nested.kept_was_written (is_naming d u) (λ k. refl) (records_name d u (kept n) named))
  ]

  pub found_accepted : (x : Txn) (u : Ticket) (d : Case) → case_of_child place n x u ≡ Some d
      → has_accepted n d u ≡ true
  found_accepted x u d e =
      belongs_accepted d u (found_passes (λ y. belongs (memory_of place n y) (kept n) y u)
      (own_cases place.role place n x) d e)

  -- one case accepted it
  pub one_case : (d e : Case) (u : Ticket) → has_accepted n d u ≡ true → has_accepted n e u ≡ true
      → same_case d e ≡ true
  one_case d e u a b =
      joined_once d e u (holds.accepted_was_joined d u a).1 (holds.accepted_was_joined e u b).1

  -- and the pair's ticket only the pair's case
  pub pairs_case : (d : Case) → has_accepted n d t ≡ true → same_case d c ≡ true
  pairs_case d a = free_of net c d t free (holds.accepted_was_joined d t a).1
