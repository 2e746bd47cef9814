-- What the last record of a branch says of those before it: what is there.
use Rattle.std.proofs.Common.{◌≡◌, ◌∙◌, ◌||◌, ◌⊎◌, inl, inr, Bool, true, false, List, [], ◌∷◌, refl, sym, ap, subst, if◌then◌else◌, arith}
use Rattle.std.specs.Prelude.{not}
use Rattle.protocol.specs.declared.names.Case.{Case}
use Rattle.protocol.specs.declared.names.Outcome.{Outcome}
use Rattle.protocol_words.specs.Variants.{AbortedOutcome, CommittedOutcome}
use Rattle.protocol.specs.declared.records.Record.{Record}
use Rattle.protocol.specs.declared.records.Record.TheVariants.{Prepared, Committed, RolledBack, HeurCommit, HeurRollback, Told, Forgot}
use Rattle.protocol.specs.Records.{has, is_branch, is_committed, is_rolled_back, is_heuristic, is_forgot}
use Rattle.protocol.specs.Standings.{Mark, Unmarked, Promised, Decided, ToldOf, Finished}
use Rattle.protocol.specs.Audits.{is_told_of}
use Rattle.proof_processes.specs.Marks.{is_branch_record, may_follow, in_order_from}
use Rattle.proof_processes.proofs.Tests.{left, right, both, neither}
use Rattle.proof_processes.proofs.Orders.{IsDecidedMark, mark_behind, other_leaves, same_is}
use Rattle.proof_steps.proofs.children.Tables.{after, MayStand, follows_so}

module _ (d : Case) where
  own_decides : (m : Mark) (r : Record) → is_branch_record d r ≡ true → may_follow m r ≡ true
      → IsDecidedMark (after d m r)
      → IsDecidedMark m ⊎ (is_heuristic d r ≡ true)
  own_decides Promised (HeurCommit b) e f k = inr e
  own_decides Promised (HeurRollback b) e f k = inr e
  own_decides Promised (Committed b) e f k = absurd
      (subst IsDecidedMark (ap (λ x. if x then Finished else Promised) (same_is d b ∙ e)) k)
  own_decides Promised (RolledBack b) e f k = absurd
      (subst IsDecidedMark (ap (λ x. if x then Finished else Promised) (same_is d b ∙ e)) k)
  own_decides Unmarked (Prepared b ws) e f k = absurd
      (subst IsDecidedMark (ap (λ x. if x then Promised else Unmarked) (same_is d b ∙ e)) k)
  own_decides Decided r e f k = inl tt
  own_decides (ToldOf o) r e f k = inl tt
  own_decides Promised r e f k = absurd (cc)
  own_decides Unmarked r e f k = absurd (cc)
  own_decides Finished r e f k = absurd (cc)

  pub decided_one : (m : Mark) (r : Record) → MayStand d m r → IsDecidedMark (after d m r)
      → IsDecidedMark m ⊎ (is_heuristic d r ≡ true)
  decided_one m r f k = by_record (is_branch_record d r) refl
    where
      by_record : (b : Bool) → is_branch_record d r ≡ b → IsDecidedMark m ⊎ (is_heuristic d r ≡ true)
      by_record true e = own_decides m r e (follows_so (is_branch_record d r) _ f e) k
      by_record false e = inl (subst IsDecidedMark (other_leaves d m r e) k)

  has_decided : (m : Mark) (rs : List Record) → in_order_from d m rs ≡ true
      → IsDecidedMark (mark_behind d m rs)
      → IsDecidedMark m ⊎ (has (is_heuristic d) rs ≡ true)
  unfolding in_order_from has
  has_decided m [] e k = inl k
  has_decided m (r ∷ rs) e k =
      let b = both _ _ e in
      elim (has_decided (after d m r) rs b.1 k) [
        | inl here ↦ elim (decided_one m r b.0 here) [
          | inl before ↦ inl before
          | inr now ↦ inr
              (left _ _ now)
        ]
        | inr rest ↦ inr (right _ _ rest)
      ]

  pub has_heuristic : (rs : List Record) → in_order_from d Unmarked rs ≡ true
      → IsDecidedMark (mark_behind d Unmarked rs)
      → has (is_heuristic d) rs ≡ true
  has_heuristic rs e k = elim (has_decided Unmarked rs e k) [ inl none ↦ absurd none | inr there ↦ there ]

  -- A finished branch was forgotten, or obeyed an outcome with no operator's decision before it.

  pub none_behind : (rs : List Record) → in_order_from d Finished rs ≡ true → has (is_heuristic d) rs ≡ false
  unfolding in_order_from has
  none_behind [] e = refl
  none_behind (r ∷ rs) e =
      let b = both _ _ e in neither _ _ (none_now r b.0)
      (none_behind rs (ap (λ m. in_order_from d m rs) (sym (still r b.0)) ∙ b.1))
    where
      none_now : (r : Record) → MayStand d Finished r → is_heuristic d r ≡ false
      none_now (HeurCommit b) f = not_own (is_branch d b) f
        where
          not_own : (a : Bool) → (not a || false) ≡ true → a ≡ false
          not_own true e = absurd (cc)
          not_own false e = refl
      none_now (HeurRollback b) f = not_own (is_branch d b) f
        where
          not_own : (a : Bool) → (not a || false) ≡ true → a ≡ false
          not_own true e = absurd (cc)
          not_own false e = refl
      none_now r f = refl

      still : (r : Record) → MayStand d Finished r → after d Finished r ≡ Finished
      still r f = by_record (is_branch_record d r) refl
        where
          by_record : (b : Bool) → is_branch_record d r ≡ b → after d Finished r ≡ Finished
          by_record true e = absurd
              (let g = follows_so (is_branch_record d r) (may_follow Finished r) f e in cc)
          by_record false e = other_leaves d Finished r e

  decided_next : (m : Mark) (r : Record) → IsDecidedMark m → is_branch_record d r ≡ true
      → may_follow m r ≡ true
      → IsDecidedMark (after d m r) ⊎ (is_forgot d r ≡ true)
  decided_next Decided (Told b o) k e f = inl (rw (same_is d b ∙ e) tt)
  decided_next Decided (Forgot b) k e f = inr e
  decided_next (ToldOf o) (Forgot b) k e f = inr e
  decided_next Decided r k e f = absurd (cc)
  decided_next (ToldOf o) r k e f = absurd (cc)
  decided_next Unmarked r k e f = absurd k
  decided_next Promised r k e f = absurd k
  decided_next Finished r k e f = absurd k

  decided_then : (m : Mark) (r : Record) → IsDecidedMark m → MayStand d m r
      → IsDecidedMark (after d m r) ⊎ (is_forgot d r ≡ true)
  decided_then m r k f = by_record (is_branch_record d r) refl
    where
      by_record : (b : Bool) → is_branch_record d r ≡ b → IsDecidedMark (after d m r) ⊎ (is_forgot d r ≡ true)
      by_record true e = decided_next m r k e (follows_so (is_branch_record d r) _ f e)
      by_record false e = inl (subst IsDecidedMark (sym (other_leaves d m r e)) k)

  forgotten : (m : Mark) (rs : List Record) → IsDecidedMark m → in_order_from d m rs ≡ true
      → mark_behind d m rs ≡ Finished
      → has (is_forgot d) rs ≡ true
  unfolding in_order_from has
  forgotten m [] k e f = absurd (subst IsDecidedMark f k)
  forgotten m (r ∷ rs) k e f =
      let b = both _ _ e in
      elim (decided_then m r k b.0) [
        | inl still ↦ right _ _ (forgotten (after d m r) rs still b.1 f)
        | inr now ↦ left _ _ now
      ]

  abbrev IsEarly : Mark → Type 0
  IsEarly Unmarked = Unit {0}
  IsEarly Promised = Unit {0}
  IsEarly _ = ⊥

  pub record Obeys (r : Record) : Type 0 where
    pub finishes : (m : Mark) → after d m r ≡ Finished
    pub plain : is_heuristic d r ≡ false
    pub obeyed : (is_committed d r ≡ true) ⊎ (is_rolled_back d r ≡ true)

  record Goes (m : Mark) (r : Record) : Type 0 where
    early : IsEarly (after d m r)
    plain : is_heuristic d r ≡ false

  early_next : (m : Mark) (r : Record) → IsEarly m → is_branch_record d r ≡ true → may_follow m r ≡ true
      → Goes m r ⊎ (IsDecidedMark (after d m r) ⊎ Obeys r)
  early_next Unmarked (Prepared b ws) k e f = inl (record { early = rw (same_is d b ∙ e) tt; plain = refl })
  early_next Promised (Committed b) k e f =
      inr (inr (record { finishes = λ m. rw (same_is d b ∙ e) refl; plain = refl; obeyed = inl e }))
  early_next Promised (RolledBack b) k e f =
      inr (inr (record { finishes = λ m. rw (same_is d b ∙ e) refl; plain = refl; obeyed = inr e }))
  early_next Promised (HeurCommit b) k e f = inr (inl (rw (same_is d b ∙ e) tt))
  early_next Promised (HeurRollback b) k e f = inr (inl (rw (same_is d b ∙ e) tt))
  early_next Unmarked r k e f = absurd (cc)
  early_next Promised r k e f = absurd (cc)
  early_next Decided r k e f = absurd k
  early_next (ToldOf o) r k e f = absurd k
  early_next Finished r k e f = absurd k

  not_heuristic : (r : Record) → is_branch_record d r ≡ false → is_heuristic d r ≡ false
  not_heuristic r e = grind arith

  early_then : (m : Mark) (r : Record) → IsEarly m → MayStand d m r
      → Goes m r ⊎ (IsDecidedMark (after d m r) ⊎ Obeys r)
  early_then m r k f = by_record (is_branch_record d r) refl
    where
      by_record : (b : Bool) → is_branch_record d r ≡ b → Goes m r ⊎ (IsDecidedMark (after d m r) ⊎ Obeys r)
      by_record true e = early_next m r k e (follows_so (is_branch_record d r) _ f e)
      by_record false e = inl
          (record { early = subst IsEarly (sym (other_leaves d m r e)) k; plain = not_heuristic r e })

  -- the branch was forgotten, or obeyed an outcome
  abbrev pub IsOver : List Record → Type 0
  IsOver rs = (has (is_forgot d) rs ≡ true)
      ⊎ ((has (is_heuristic d) rs ≡ false) ×
      ((has (is_committed d) rs ≡ true) ⊎ (has (is_rolled_back d) rs ≡ true)))

  over_more : (r : Record) (rs : List Record) → is_heuristic d r ≡ false → IsOver rs → IsOver (r ∷ rs)
  unfolding has
  over_more r rs e (inl f) = inl (right _ _ f)
  over_more r rs e (inr (h, inl c)) = inr (neither _ _ e h, inl (right _ _ c))
  over_more r rs e (inr (h, inr c)) = inr (neither _ _ e h, inr (right _ _ c))

  over_now : (r : Record) (rs : List Record) → Obeys r → has (is_heuristic d) rs ≡ false → IsOver (r ∷ rs)
  unfolding has
  over_now r rs o h = inr
      (neither _ _ o.plain h, elim o.obeyed [ inl c ↦ inl (left _ _ c) | inr a ↦ inr (left _ _ a) ])

  finished_from : (m : Mark) (rs : List Record) → IsEarly m → in_order_from d m rs ≡ true
      → mark_behind d m rs ≡ Finished → IsOver rs
  unfolding in_order_from has
  finished_from m [] k e f = absurd (subst IsEarly f k)
  finished_from m (r ∷ rs) k e f =
      let b = both _ _ e in
      elim (early_then m r k b.0) [
        | inl goes ↦ over_more r rs goes.plain (finished_from (after d m r) rs goes.early b.1 f)
        | inr (inl decided) ↦ inl (right _ _ (forgotten (after d m r) rs decided b.1 f))
        | inr (inr obeys) ↦ over_now r rs obeys
            (none_behind rs (ap (λ x. in_order_from d x rs) (sym (obeys.finishes m)) ∙ b.1))
      ]

  pub finished : (rs : List Record) → in_order_from d Unmarked rs ≡ true
      → mark_behind d Unmarked rs ≡ Finished → IsOver rs
  finished rs e f = finished_from Unmarked rs tt e f

  -- What it was told stands.

  own_told : (o : Outcome) (m : Mark) (r : Record) → is_branch_record d r ≡ true → may_follow m r ≡ true
      → after d m r ≡ ToldOf o
      → (m ≡ ToldOf o) ⊎ (is_told_of d o r ≡ true)
  own_told CommittedOutcome Decided (Told b CommittedOutcome) e f g = inr e
  own_told AbortedOutcome Decided (Told b AbortedOutcome) e f g = inr e
  own_told CommittedOutcome Decided (Told b AbortedOutcome) e f g =
      absurd (let x = sym (ap (λ y. if y then ToldOf AbortedOutcome else Decided) (same_is d b ∙ e)) ∙ g in
      cc)
  own_told AbortedOutcome Decided (Told b CommittedOutcome) e f g =
      absurd (let x = sym (ap (λ y. if y then ToldOf CommittedOutcome else Decided) (same_is d b ∙ e)) ∙ g
      in cc)
  own_told o Decided (Forgot b) e f g = absurd
      (let x = sym (ap (λ y. if y then Finished else Decided) (same_is d b ∙ e)) ∙ g in cc)
  own_told o (ToldOf u) (Forgot b) e f g = absurd
      (let x = sym (ap (λ y. if y then Finished else ToldOf u) (same_is d b ∙ e)) ∙ g in cc)
  own_told o Unmarked (Prepared b ws) e f g =
      absurd (let x = sym (ap (λ y. if y then Promised else Unmarked) (same_is d b ∙ e)) ∙ g in cc)
  own_told o Promised (Committed b) e f g = absurd
      (let x = sym (ap (λ y. if y then Finished else Promised) (same_is d b ∙ e)) ∙ g in cc)
  own_told o Promised (RolledBack b) e f g = absurd
      (let x = sym (ap (λ y. if y then Finished else Promised) (same_is d b ∙ e)) ∙ g in cc)
  own_told o Promised (HeurCommit b) e f g = absurd
      (let x = sym (ap (λ y. if y then Decided else Promised) (same_is d b ∙ e)) ∙ g in cc)
  own_told o Promised (HeurRollback b) e f g = absurd
      (let x = sym (ap (λ y. if y then Decided else Promised) (same_is d b ∙ e)) ∙ g in cc)
  own_told o Unmarked r e f g = absurd (cc)
  own_told o Promised r e f g = absurd (cc)
  own_told CommittedOutcome Decided r e f g = absurd (cc)
  own_told AbortedOutcome Decided r e f g = absurd (cc)
  own_told o (ToldOf u) r e f g = absurd (cc)
  own_told o Finished r e f g = absurd (cc)

  told_one : (o : Outcome) (m : Mark) (r : Record) → MayStand d m r → after d m r ≡ ToldOf o
      → (m ≡ ToldOf o) ⊎ (is_told_of d o r ≡ true)
  told_one o m r f k = by_record (is_branch_record d r) refl
    where
      by_record : (b : Bool) → is_branch_record d r ≡ b → (m ≡ ToldOf o) ⊎ (is_told_of d o r ≡ true)
      by_record true e = own_told o m r e (follows_so (is_branch_record d r) _ f e) k
      by_record false e = inl (sym (other_leaves d m r e) ∙ k)

  told_from : (o : Outcome) (m : Mark) (rs : List Record) → in_order_from d m rs ≡ true
      → mark_behind d m rs ≡ ToldOf o
      → (m ≡ ToldOf o) ⊎ (has (is_told_of d o) rs ≡ true)
  unfolding in_order_from has
  told_from o m [] e k = inl k
  told_from o m (r ∷ rs) e k =
      let b = both _ _ e in
      elim (told_from o (after d m r) rs b.1 k) [
        | inl here ↦ elim (told_one o m r b.0 here) [
          | inl before ↦ inl before
          | inr now ↦ inr (left _ _ now)
        ]
        | inr rest ↦ inr (right _ _ rest)
      ]

  pub has_told : (o : Outcome) (rs : List Record) → in_order_from d Unmarked rs ≡ true
      → mark_behind d Unmarked rs ≡ ToldOf o
      → has (is_told_of d o) rs ≡ true
  has_told o rs e k = elim (told_from o Unmarked rs e k) [ inl none ↦ absurd (cc) | inr there ↦ there ]
