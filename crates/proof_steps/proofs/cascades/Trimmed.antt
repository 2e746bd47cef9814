-- What a trim of a coordinator's log leaves of a case: all its records, or none.
use Rattle.std.proofs.Common.{◌≡◌, ◌∙◌, ◌||◌, ◌&&◌, ℕ, Bool, true, false, Some, List, [], ◌∷◌, refl, sym, ap, arith, if◌then◌else◌}
use Rattle.protocol.specs.declared.names.Case.{Case}
use Rattle.protocol.specs.declared.names.ProcessId.{ProcessId}
use Rattle.protocol.specs.declared.records.Record.{Record}
use Rattle.protocol.specs.declared.records.Record.TheVariants.{Opened}
use Rattle.protocol_words.specs.Variants.{AbortRecord, CollectingRecord, CommitRecord, EndRecord, PrepareRecord}
use Rattle.protocol.specs.Records.{boot_of, has, is_abort, is_collecting, is_commit, is_end, is_prepare, record_case}
use Rattle.protocol.specs.Nodes.{Below}
use Rattle.protocol.specs.Restarts.{case_stays, staying, trimmed}
use Rattle.proof_processes.proofs.GivenCases.{same_of}
use Rattle.proof_processes.proofs.Tests.{has-append, has-cons, has-nil}

and-false : (a : Bool) → (a && false) ≡ false
and-false a = grind arith

or-false : (a : Bool) → (a || false) ≡ a
or-false a = grind arith

-- a test that only records of the case pass
abbrev pub IsOf : Case → (Record → Bool) → Type 0
IsOf c q = (r : Record) → q r ≡ true → record_case r ≡ Some c

pub of_prepare : (c : Case) → IsOf c (is_prepare c)
of_prepare c (PrepareRecord d ts) e = ap Some (same_of d c e)
of_prepare c r e = absurd (cc)

pub of_commit : (c : Case) → IsOf c (is_commit c)
of_commit c (CommitRecord d ts) e = ap Some (same_of d c e)
of_commit c r e = absurd (cc)

pub of_abort : (c : Case) → IsOf c (is_abort c)
of_abort c (AbortRecord d ts) e = ap Some (same_of d c e)
of_abort c r e = absurd (cc)

pub of_collecting : (c : Case) → IsOf c (is_collecting c)
of_collecting c (CollectingRecord d ts) e = ap Some (same_of d c e)
of_collecting c r e = absurd (cc)

pub of_end : (c : Case) → IsOf c (is_end c)
of_end c (EndRecord d rep) e = ap Some (same_of d c e)
of_end c r e = absurd (cc)

module _ (p : ProcessId) (c : Case) (q : Record → Bool) (of : IsOf c q) (whole : List Record) where
  abbrev stays : Bool
  stays = case_stays whole (Some c)

  one_more : (r : Record) (l rest : List Record) (b k : Bool) → q r ≡ b → case_stays whole (record_case r) ≡ k
      → has q l ≡ (stays && has q rest)
      → has q (if k then r ∷ l else l) ≡ (stays && has q (r ∷ rest))
  one_more r l rest true true e f g =
      has-cons q r l ∙ (ap (λ y. y || has q l) e
      ∙ sym (ap (λ y. y && has q (r ∷ rest)) (sym (ap (case_stays whole) (of r e)) ∙ f)
      ∙ (has-cons q r rest ∙ ap (λ y. y || has q rest) e)))
  one_more r l rest true false e f g =
      let gone = sym (ap (case_stays whole) (of r e)) ∙ f in
      g ∙ (ap (λ y. y && has q rest) gone ∙ sym (ap (λ y. y && has q (r ∷ rest)) gone))
  one_more r l rest false true e f g = has-cons q r l ∙ (ap (λ y. y || has q l) e
      ∙ (g ∙ sym (ap (λ y. stays && y) (has-cons q r rest ∙ ap (λ y. y || has q rest) e))))
  one_more r l rest false false e f g = g ∙ sym (ap (λ y. stays && y)
      (has-cons q r rest ∙ ap (λ y. y || has q rest) e))

  staying_has : (rs : List Record) → has q (staying (Below p) whole rs) ≡ (stays && has q rs)
  staying_has [] = has-nil q ∙ sym (ap (λ y. stays && y) (has-nil q) ∙ and-false stays)
  staying_has (r ∷ rs) =
      one_more r (staying (Below p) whole rs) rs (q r) (case_stays whole (record_case r)) refl refl
      (staying_has rs)

  pub trimmed_has : ((k : ℕ) → q (Opened k) ≡ false)
      → has q (trimmed (Below p) whole) ≡ (case_stays whole (Some c) && has q whole)
  unfolding trimmed
  trimmed_has none =
      has-append q (Opened (boot_of whole) ∷ staying (Below p) whole whole) []
      ∙ (ap (λ y. has q (Opened (boot_of whole) ∷ staying (Below p) whole whole) || y) (has-nil q)
      ∙ (or-false (has q (Opened (boot_of whole) ∷ staying (Below p) whole whole))
      ∙ (has-cons q (Opened (boot_of whole)) (staying (Below p) whole whole)
      ∙ (ap (λ y. y || has q (staying (Below p) whole whole)) (none (boot_of whole)) ∙ staying_has whole))))
