-- What a manager's records say of a branch, one by one, they say after a trim: what is said again from each
-- promise on, and what other records leave.
use Rattle.std.proofs.Common.{◌≡◌, ◌∙◌, ◌&&◌, ◌||◌, not, Bool, true, false, if◌then◌else◌, List, [], ◌∷◌, ◌++◌, fold, refl, sym, ap, subst, arith}
use Rattle.protocol.specs.declared.names.Case.{Case}
use Rattle.protocol.specs.declared.names.ProcessId.{ProcessId}
use Rattle.protocol_words.specs.Variants.{CaseBranch}
use Rattle.protocol.specs.declared.records.Record.{Record}
use Rattle.protocol.specs.declared.records.Record.TheVariants.{Opened, Prepared}
use Rattle.protocol.specs.Nodes.{AtLeaf}
use Rattle.protocol.specs.Records.{boot_of, has, prepares_branch}
use Rattle.protocol.specs.Restarts.{data_records, is_open, stays, staying, trimmed}
use Rattle.protocol.specs.Standings.{mark_of}
use Rattle.proof_processes.specs.Marks.{is_branch_record}
use Rattle.proof_processes.proofs.Orders.{same_is}
use Rattle.proof_processes.proofs.Tests.{first_false, second_false}
use Rattle.proof_processes.proofs.Trims.{data_is_other, own_stays}

prepared_of : (d : Case) (r : Record) → prepares_branch (CaseBranch d) r ≡ true → is_branch_record d r ≡ true
prepared_of d (Prepared b ws) e = sym (same_is d b) ∙ e
prepared_of d r e = absurd (cc)

fold_append : {X : Type 0} (after : X → Record → X) (x : X) (rs new : List Record)
    → fold after x (rs ++ new) ≡ fold after (fold after x rs) new
fold_append after x [] new = refl
fold_append after x (r ∷ rs) new = fold_append after (after x r) rs new

-- what stays of a branch says the same, and from its last promise on whatever was said before
record SaysAlike {X : Type 0} (after : X → Record → X) (d : Case) (ls rs : List Record) : Type 0 where
  same : (x : X) → fold after x ls ≡ fold after x rs
  anew : has (prepares_branch (CaseBranch d)) rs ≡ true → (x y : X) → fold after x ls ≡ fold after y rs

module _ {X : Type 0} (p : ProcessId) (whole : List Record) (d : Case) (after : X → Record → X)
    (leaves : (r : Record) → is_branch_record d r ≡ false → (x : X) → after x r ≡ x) where
  -- records of other branches leave it
  pub others_leave : (x : X) (rs : List Record) → has (is_branch_record d) rs ≡ false → fold after x rs ≡ x
  unfolding has
  others_leave x [] e = refl
  others_leave x (r ∷ rs) e =
      ap (λ y. fold after y rs) (leaves r (first_false _ _ e) x) ∙ others_leave x rs (second_false _ _ e)

module _ {X : Type 0} (p : ProcessId) (whole : List Record) (d : Case)
    (is_there : is_open (mark_of (CaseBranch d) whole) ≡ true) (after : X → Record → X) (start : X)
    (resets : (r : Record) → prepares_branch (CaseBranch d) r ≡ true → (x : X) → after x r ≡ start)
    (leaves : (r : Record) → is_branch_record d r ≡ false → (x : X) → after x r ≡ x) where
  abbrev left : List Record → List Record
  left rs = staying (AtLeaf p) whole rs

  -- after it the branch promises again
  again : (r : Record) (rs : List Record) (s : Bool) → has (prepares_branch (CaseBranch d)) rs ≡ true
      → SaysAlike after d (left rs) rs → SaysAlike after d (if s then r ∷ left rs else left rs) (r ∷ rs)
  again r rs true e rest = record {
    same = λ x. rest.anew e (after x r) (after x r);
    anew = λ f x y. rest.anew e (after x r) (after y r);
  }
  again r rs false e rest = record {
    same = λ x. rest.anew e x (after x r);
    anew = λ f x y. rest.anew e x (after y r);
  }

  -- it is the last promise, or follows it
  last : (r : Record) (rs : List Record) → has (prepares_branch (CaseBranch d)) rs ≡ false
      → SaysAlike after d (left rs) rs → SaysAlike after d (r ∷ left rs) (r ∷ rs)
  unfolding has
  last r rs none rest = record {
    same = λ x. rest.same (after x r);
    anew = λ f x y. rest.same (after x r)
        ∙ ap (λ z. fold after z rs) (resets r (now f) x ∙ sym (resets r (now f) y));
  }
    where
      first_true : (a b : Bool) → (a || b) ≡ true → b ≡ false → a ≡ true
      first_true a b e f = grind arith

      now : (prepares_branch (CaseBranch d) r || has (prepares_branch (CaseBranch d)) rs) ≡ true
          → prepares_branch (CaseBranch d) r ≡ true
      now f = first_true _ _ f none

  -- it is of another branch
  other : (r : Record) (rs : List Record) (s : Bool) → is_branch_record d r ≡ false
      → has (prepares_branch (CaseBranch d)) rs ≡ false
      → SaysAlike after d (left rs) rs → SaysAlike after d (if s then r ∷ left rs else left rs) (r ∷ rs)
  unfolding has
  other r rs s away none rest = record {
    same = λ x. whichever s x ∙ (rest.same x ∙ ap (λ y. fold after y rs) (sym (leaves r away x)));
    anew = λ f x y. not_now f;
  }
    where
      whichever : (s : Bool) (x : X) → fold after x
          (if s then r ∷ left rs else left rs) ≡ fold after x (left rs)
      whichever true x = ap (λ y. fold after y (left rs)) (leaves r away x)
      whichever false x = refl

      first_true : (a b : Bool) → (a || b) ≡ true → b ≡ false → a ≡ true
      first_true a b e f = grind arith

      not_now : {A : Type 0} → (prepares_branch (CaseBranch d) r
          || has (prepares_branch (CaseBranch d)) rs) ≡ true → A
      not_now f = absurd (let is : is_branch_record d r
          ≡ true = prepared_of d r (first_true _ _ f none) in cc)

  stays_own : (r : Record) (rs : List Record) → is_branch_record d r ≡ true
      → has (prepares_branch (CaseBranch d)) rs ≡ false → stays (AtLeaf p) whole rs r ≡ true
  stays_own r rs of none = own_stays p whole d r rs of ∙ both _ _ is_there none
    where
      both : (a b : Bool) → a ≡ true → b ≡ false → (a && not b) ≡ true
      both a b e f = rw (e, f) refl

  says_alike : (rs : List Record) → SaysAlike after d (left rs) rs
  unfolding has
  says_alike [] = record { same = λ x. refl; anew = λ f x y. absurd (cc) }
  says_alike (r ∷ rs) =
      by_test (has (prepares_branch (CaseBranch d)) rs) refl (is_branch_record d r) refl (says_alike rs)
    where
      by_test : (b : Bool) → has (prepares_branch (CaseBranch d)) rs ≡ b
          → (o : Bool) → is_branch_record d r ≡ o
          → SaysAlike after d (left rs) rs
          → SaysAlike after d (if stays (AtLeaf p) whole rs r then r ∷ left rs else left rs) (r ∷ rs)
      by_test true more o is rest = again r rs (stays (AtLeaf p) whole rs r) more rest
      by_test false none true is rest =
          subst (λ s. SaysAlike after d (if s then r ∷ left rs else left rs) (r ∷ rs))
          (sym (stays_own r rs is none))
          (last r rs none rest)
      by_test false none false is rest = other r rs (stays (AtLeaf p) whole rs r) is none rest

-- so it is said after a trim of an open branch
pub trims_alike : {X : Type 0} (p : ProcessId) (rs : List Record) (d : Case)
    → is_open (mark_of (CaseBranch d) rs) ≡ true → (after : X → Record → X) (start : X)
    → ((r : Record) → prepares_branch (CaseBranch d) r ≡ true → (x : X) → after x r ≡ start)
    → ((r : Record) → is_branch_record d r ≡ false → (x : X) → after x r ≡ x)
    → (x : X) → fold after x (trimmed (AtLeaf p) rs) ≡ fold after x rs
unfolding trimmed
trims_alike p rs d is_there after start resets leaves x =
    fold_append after x (Opened (boot_of rs) ∷ staying (AtLeaf p) rs rs) (data_records (AtLeaf p) rs)
    ∙ others_leave p rs d after leaves _ (data_records (AtLeaf p) rs)
    (data_is_other (is_branch_record d) (λ k v. refl) (λ k. refl) (AtLeaf p) rs)
    ∙ ap (λ y. fold after y (staying (AtLeaf p) rs rs)) (leaves (Opened (boot_of rs)) refl x)
    ∙ (says_alike p rs d is_there after start resets leaves rs).same x
