-- Which records of a log are those of a coordinator's own case.
use Rattle.std.proofs.Common.{◌≡◌, Bool, true, false, Option, Some, None, refl, sym, ap, subst, ◌∙◌, arith}
use Rattle.std.proofs.lemmas.Grind.{common_steps}
use Rattle.xa_xid.specs.declared.xid.Xid.{Xid}
use Rattle.protocol.specs.declared.names.Case.{Case}
use Rattle.protocol.specs.declared.names.ProcessId.{ProcessId}
use Rattle.protocol.specs.declared.records.BranchName.{BranchName}
use Rattle.protocol_words.specs.Variants.{CaseBranch}
use Rattle.protocol.specs.LogNames.{is_own, name_xid, parent_of, same_parent}
use Rattle.protocol.specs.NameLaws.{same_case-refl, same_case_tells, same_process_tells}
use Rattle.protocol.specs.Names.{same_case}
use Rattle.protocol.specs.Nodes.{Place}
use Rattle.log_text.specs.Parts.{name_in}
use Rattle.log_rules.specs.trim.Tables.{same}
use Rattle.log_rules.proofs.trim.Names.{same_by_parts, same_refl}
use Rattle.log_rules.specs.sound.Sound.{IsSoundName}
use Rattle.log_rules.proofs.sound.Names.{names_read_back}

-- Names.

-- two whole names with one XID are one
pub one_name : (p q : Option ProcessId) (a b : BranchName) → IsSoundName p a → IsSoundName q b
    → name_xid p a ≡ name_xid q b
    → ◌≡◌ {A = Option ProcessId × BranchName} (p, a) (q, b)
one_name p q a b h k e = sym (names_read_back p a h) ∙ ap name_in e ∙ names_read_back q b k

abbrev case_in : Case → BranchName → Case
case_in d (CaseBranch c) = c
case_in d b = d

same_parent_is : (p q r : Option ProcessId) → same_parent p r ≡ true → same_parent q r ≡ true → p ≡ q
same_parent_is None None None h k = refl
same_parent_is None (Some q) None h k = absurd (cc)
same_parent_is (Some p) q None h k = absurd (cc)
same_parent_is None q (Some r) h k = absurd (cc)
same_parent_is (Some p) None (Some r) h k = absurd (cc)
same_parent_is (Some p) (Some q) (Some r) h k = ap Some (grind (arith, same_process_tells))

-- the parent of an own name is the process's own
pub own_parent : (place : Place) (p : Option ProcessId) (c : Case) → is_own place p c ≡ true
    → same_parent p (parent_of place.role) ≡ true
own_parent place p c h = grind (arith, common_steps)

-- A record of a case that is the process's own is of this name exactly where it is of this case; another one
-- is not.

module _ (place : Place) (p : Option ProcessId) (c : Case) (own : is_own place p c
    ≡ true) (sound : IsSoundName p (CaseBranch c)) where
  abbrev pub name : Xid
  name = name_xid p (CaseBranch c)

  pub own_is : (q : Option ProcessId) (d : Case) → IsSoundName q (CaseBranch d) → is_own place q d ≡ true
      → same name (name_xid q (CaseBranch d)) ≡ same_case d c
  own_is q d h is = by_test (same_case d c) refl
    where
      parents : q ≡ p
      parents = same_parent_is q p (parent_of place.role) (own_parent place q d is) (own_parent place p c own)

      by_test : (b : Bool) → same_case d c ≡ b → same name (name_xid q (CaseBranch d)) ≡ b
      by_test true e =
          let one : d ≡ c = grind (arith, same_case_tells) in
          ap (same name) (ap (λ r. name_xid r (CaseBranch d)) parents
          ∙ ap (λ k. name_xid p (CaseBranch k)) one) ∙ same_refl name
      by_test false e = other (same name (name_xid q (CaseBranch d))) refl
        where
          other : (b : Bool) → same name (name_xid q (CaseBranch d)) ≡ b → b ≡ false
          other false f = refl
          other true f =
              let names = one_name q p (CaseBranch d) (CaseBranch c) h sound (sym ((same_by_parts name
              (name_xid q (CaseBranch d))).0 f)) in
              let cases : d ≡ c = ap (λ n. case_in d n.1) names in
              absurd (let itself = same_case-refl c in let differs : same_case c c
              ≡ false = subst (λ k. same_case k c ≡ false) cases e in cc)

  pub other_is : (q : Option ProcessId) (d : Case) → IsSoundName q (CaseBranch d) → is_own place q d ≡ false
      → same name (name_xid q (CaseBranch d)) ≡ false
  other_is q d h not_own = by_test (same name (name_xid q (CaseBranch d))) refl
    where
      by_test : (b : Bool) → same name (name_xid q (CaseBranch d)) ≡ b → b ≡ false
      by_test false f = refl
      by_test true f =
          let names = one_name q p (CaseBranch d) (CaseBranch c) h sound (sym ((same_by_parts name (name_xid
          q (CaseBranch d))).0 f)) in
          let is : is_own place q d ≡ true = ap (λ n. is_own place n.0 (case_in d n.1)) names ∙ own in
          absurd (cc)
