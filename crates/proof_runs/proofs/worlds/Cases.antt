-- Cases of which there is a record, or none.
use Rattle.std.proofs.Common.{◌≡◌, ◌≢◌, ◌∙◌, inl, inr, ℕ, ◌+◌, Bool, true, false, Option, Some, None, List, [], ◌∷◌, ◌++◌, filter, refl, sym, ap, subst, arith, if◌then◌else◌}
use Rattle.std.specs.Prelude.{fold}
use Rattle.std.specs.List.{flat_map}
use Rattle.std.proofs.lemmas.List.Folds.{list_any-append}
use Rattle.protocol.specs.declared.names.Case.{Case}
use Rattle.protocol.specs.declared.names.Ticket.{Ticket}
use Rattle.protocol.specs.declared.records.Record.{Record}
use Rattle.protocol.specs.declared.records.Record.TheVariants.{Collecting, Prepare, Commit, Abort}
use Rattle.protocol.specs.declared.standings.Standing.{Standing}
use Rattle.protocol_words.specs.standing
use Rattle.protocol.specs.Names.{same_case, same_txn}
use Rattle.protocol.specs.NameLaws.{same_case-refl, same_txn-refl}
use Rattle.protocol.specs.Records.{cases_in, has, has_case, named_by, named_in, owing_by, owing_in, promised_by, promised_in, record_case, with_case, with_record}
use Rattle.protocol.specs.Restarts.{is_known}
use Rattle.protocol.specs.Views.{IsUnrecorded}
use Rattle.proof_processes.specs.WorldHolds.{IsGivenOut, is_of, is_record_of}
use Rattle.proof_processes.proofs.RootKnown.{no_abort, no_collecting, no_commit, no_end, no_prepare}
use Rattle.proof_processes.proofs.Tests.{case_is, either, first_false, left, right, second_false}

pub known_not : (st : Standing) → is_known st ≡ true → st ≢ standing.Unknown
known_not standing.Unknown known e = absurd (cc)
known_not standing.Active known e = cc
known_not standing.Collecting known e = cc
known_not standing.Prepared known e = cc
known_not standing.Committing known e = cc
known_not standing.Aborting known e = cc
known_not standing.Heuristic known e = cc

-- Where there is no record of a case, none names a ticket.

module _ (c : Case) where
  none_named : (r : Record) → is_record_of c r ≡ false → named_in c r ≡ []
  none_named (Collecting d ts) e = ap (λ b. if b then ts else []) e
  none_named (Prepare d ts) e = ap (λ b. if b then ts else []) e
  none_named (Commit d ts) e = ap (λ b. if b then ts else []) e
  none_named (Abort d ts) e = ap (λ b. if b then ts else []) e
  none_named r e = refl

  none_promised : (r : Record) → is_record_of c r ≡ false → promised_in c r ≡ []
  none_promised (Prepare d ts) e = ap (λ b. if b then ts else []) e
  none_promised r e = refl

  none_owing : (r : Record) → is_record_of c r ≡ false → owing_in c r ≡ []
  none_owing (Commit d ts) e = ap (λ b. if b then ts else []) e
  none_owing (Abort d ts) e = ap (λ b. if b then ts else []) e
  none_owing r e = refl

  nobody : (f : Record → List Ticket) → ((r : Record) → is_record_of c r ≡ false
      → f r ≡ []) → (rs : List Record)
      → has (is_record_of c) rs ≡ false → flat_map f rs ≡ []
  unfolding has
  nobody f none [] e = refl
  nobody f none (r ∷ rs) e =
      rw (none r (first_false (is_record_of c r) (has (is_record_of c) rs) e))
      (nobody f none rs (second_false (is_record_of c r) (has (is_record_of c) rs) e))

  pub unrecorded : (rs : List Record) → has (is_record_of c) rs ≡ false → IsUnrecorded rs c
  unfolding named_by promised_by owing_by
  unrecorded rs none =
      record {
        no_end = no_end c rs none;
        no_commit = no_commit c rs none;
        no_abort = no_abort c rs none;
        no_prepare = no_prepare c rs none;
        no_collecting = no_collecting c rs none;
        promised = nobody (promised_in c) none_promised rs none;
        named = nobody (named_in c) none_named rs none;
        owing = nobody (owing_in c) none_owing rs none;
      }

-- A case of which there is a record is in the list of the log's cases.

in_more : (cs ds : List Case) (c : Case) → has_case cs c ≡ true → has_case (cs ++ ds) c ≡ true
unfolding has_case
in_more cs ds c e = list_any-append _ cs ds ∙ left _ _ e

in_last : (cs ds : List Case) (c : Case) → has_case ds c ≡ true → has_case (cs ++ ds) c ≡ true
unfolding has_case
in_last cs ds c e = list_any-append _ cs ds ∙ right _ _ e

alone : (c : Case) → has_case (c ∷ []) c ≡ true
unfolding has_case
alone c = rw (same_case-refl c) refl

still_with : (cs : List Case) (o : Option Case) (c : Case) → has_case cs c ≡ true
    → has_case (with_case cs o) c ≡ true
still_with cs None c e = e
still_with cs (Some d) c e = by_test (has_case cs d)
  where
    by_test : (b : Bool) → has_case (if b then cs else cs ++ d ∷ []) c ≡ true
    by_test true = e
    by_test false = in_more cs (d ∷ []) c e

now_with : (cs : List Case) (o : Option Case) (c : Case) → is_of c o ≡ true
    → has_case (with_case cs o) c ≡ true
now_with cs None c e = absurd (cc)
now_with cs (Some d) c e =
    subst (λ (x : Case). has_case (with_case cs (Some d)) x ≡ true) (case_is d c e)
    (by_test (has_case cs d) refl)
  where
    by_test : (b : Bool) → has_case cs d ≡ b → has_case (if b then cs else cs ++ d ∷ []) d ≡ true
    by_test true there = there
    by_test false there = in_last cs (d ∷ []) d (alone d)

still_listed : (cs : List Case) (rs : List Record) (c : Case) → has_case cs c ≡ true
    → has_case (fold with_record cs rs) c ≡ true
still_listed cs [] c e = e
still_listed cs (r ∷ rs) c e = still_listed (with_record cs r) rs c (still_with cs (record_case r) c e)

listed_from : (cs : List Case) (rs : List Record) (c : Case) → has (is_record_of c) rs ≡ true
    → has_case (fold with_record cs rs) c ≡ true
unfolding has
listed_from cs [] c e = absurd (cc)
listed_from cs (r ∷ rs) c e = elim (either (is_record_of c r) (has (is_record_of c) rs) e) [
  | inl now ↦ still_listed (with_record cs r) rs c (now_with cs (record_case r) c now)
  | inr rest ↦ listed_from (with_record cs r) rs c rest
]

pub recorded_listed : (rs : List Record) (c : Case) → has (is_record_of c) rs ≡ true
    → has_case (cases_in rs) c ≡ true
unfolding cases_in
recorded_listed rs c e = listed_from [] rs c e

filtered : (f : Case → Bool) (cs : List Case) (c : Case) → has_case cs c ≡ true → f c ≡ true
    → has_case (filter f cs) c ≡ true
unfolding has_case
filtered f [] c e g = absurd (cc)
filtered f (d ∷ cs) c e g = by_test (f d) refl (filtered f cs c)
  where
    by_test : (b : Bool) → f d ≡ b → (has_case cs c ≡ true → f c ≡ true → has_case (filter f cs) c ≡ true)
        → has_case (if b then d ∷ filter f cs else filter f cs) c ≡ true
    by_test true h r = elim (either (same_case d c) (has_case cs c) e) [
      | inl now ↦ left (same_case d c) (has_case (filter f cs) c) now
      | inr rest ↦ right (same_case d c) (has_case (filter f cs) c) (r rest g)
    ]
    by_test false h r = elim (either (same_case d c) (has_case cs c) e) [
      | inl now ↦ absurd (let k = subst (λ (x : Case). f x ≡ false) (case_is d c now)
          h in let l = sym k ∙ g in cc)
      | inr rest ↦ r rest g
    ]

-- a case that is recorded or was issued is among those in which a child of its transaction is looked for
pub own_recorded : (rs : List Record) (issued : List Case) (c : Case) → has (is_record_of c) rs ≡ true
    → has_case (filter (λ d. same_txn d.txn c.txn) (cases_in rs ++ issued)) c ≡ true
own_recorded rs issued c e = filtered (λ d. same_txn d.txn c.txn) _ c
    (in_more (cases_in rs) issued c (recorded_listed rs c e)) (same_txn-refl c.txn)

pub own_issued : (rs : List Record) (issued : List Case) (c : Case) → has_case issued c ≡ true
    → has_case (filter (λ d. same_txn d.txn c.txn) (cases_in rs ++ issued)) c ≡ true
own_issued rs issued c e =
    filtered (λ d. same_txn d.txn c.txn) _ c (in_last (cases_in rs) issued c e) (same_txn-refl c.txn)

-- what is given out next was not given out
pub not_given : {A : Type 0} (boot given number : ℕ) → number ≡ given + 1
    → IsGivenOut boot number boot given → A
not_given boot given number e (inl f) = absurd (omega (arith, f))
not_given boot given number e (inr f) = absurd (omega (arith, e, f.1))

pub either_is : {A : Type 0} (b : Bool) → b ≡ true → b ≡ false → A
either_is b e f = absurd (cc)

pub one_of : (c d : Case) → has_case (c ∷ []) d ≡ true → d ≡ c
unfolding has_case
one_of c d there =
    elim (either (same_case c d) false there) [ inl now ↦ sym (case_is c d now) | inr rest ↦ absurd (cc) ]
