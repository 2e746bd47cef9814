-- Which branches the judge remembers that left S3, as a crash may bring them back.
use Rattle.std.proofs.Common.{◌≡◌, Bool, true, false, not, Some, List, ◌++◌, ◌&&◌, ◌||◌, refl, ap, sym, subst, ◌∙◌, inl, inr}
use Rattle.std.specs.Prelude.{◌==◌, if◌then◌else◌}
use Rattle.std.specs.List.{list_any, AllByRecursion}
use Rattle.std.proofs.lemmas.Bool.{and_from, and_parts, eqb-true, false≢true, false_from_ne_true, ne_eqb, not_from_false, or_left, or_right}
use Rattle.std.proofs.lemmas.List.Folds.{list_any-append}
use Rattle.xa_tables.specs.declared.states.BranchState.{BranchState}
use Rattle.xa_tables.specs.declared.states.BranchState.TheVariants.{S0, S1, S2, S3, S4, S5}
use Rattle.xa_xid.specs.declared.xid.Xid.{Xid}
use Rattle.xa_branch.specs.Names.{same}
use Rattle.xa_branch.proofs.Names.{same_is}
use Rattle.xa_branch.specs.Branches.{state_in}
use Rattle.xa_assoc.specs.declared.states.States.{States}
use Rattle.xa_assoc.specs.Answers.{SameStates}
use Rattle.judge_state.specs.declared.parts.JudgedBranch.{JudgedBranch}
use Rattle.judge_state.specs.declared.parts.JudgedDecision.{JudgedDecision}
use Rattle.judge_state.specs.declared.parts.Stand.{Stand}
use Rattle.judge_words.specs.stand
use Rattle.judge_state.specs.Moves.{is_prepared, is_prepared_at, others, remembered, was_prepared, works_of, works_without}
use Rattle.judge_state.specs.Parts.{is_named}
use Rattle.judge_state.specs.Sights.{Sight}
use Rattle.judge_rules.specs.declared.calls.BranchVerb.{BranchVerb}
use Rattle.judge_words.specs.verb
use Rattle.proof_judged_deeds.specs.Deeds.{Loses, NoMore}
use Rattle.proof_judged_deeds.specs.Names.{NameNumbers}
use Rattle.proof_judged_deeds.proofs.Branches.{not_one}
use Rattle.proof_judged_deeds.proofs.Lists.{all_append, all_where, any_filter, any_implied, any_kept, any_pick, any_where}
use Rattle.proof_judged_deeds.proofs.Mirrors.{IsBranch, Mirrors, is_begun, stand_as}

-- a branch that is remembered was prepared
pub record IsLost (n : NameNumbers) (b : JudgedBranch) : Type 0 where
  pub xid : Xid
  pub is : b.name ≡ n.xid xid
  pub prepared : b.stand ≡ stand.Prepared

-- each of these branches is remembered
pub record AreLost (n : NameNumbers) (l : Xid → Bool) (bs : List JudgedBranch) : Type 0 where
  pub each : AllByRecursion (IsLost n) bs
  pub here : (x : Xid) → l x ≡ true → list_any (is_named (n.xid x)) bs ≡ true

-- what is remembered after a call that ends a branch: what was, if the branch is still known or was not
-- prepared; or this one besides
pub data Ends (n : NameNumbers) (s u : Sight) (x : Xid) (new : States) : Type 0 where
  Kept : u.lost ≡ s.lost → (state_in new.branches.branches x ≡ S0 → is_prepared_at (n.xid x) s ≡ false)
      → Ends n s u x new
  Added : u.lost ≡ (remembered (n.xid x) s).lost → Ends n s u x new

-- what is remembered after a call on a branch
abbrev pub Remembers : BranchVerb → NameNumbers → Sight → Sight → Xid → States → Type 0
Remembers verb.Start n s u x new = u.lost ≡ s.lost
Remembers verb.End n s u x new = u.lost ≡ s.lost
Remembers verb.Prepare n s u x new = Ends n s u x new
Remembers verb.Commit n s u x new = Ends n s u x new
Remembers verb.Rollback n s u x new = Ends n s u x new
Remembers verb.Forget n s u x new = Ends n s u x new

-- Which branches are prepared.

prepared_stand : (k : Stand) → Some stand.Prepared ≡ Some k → is_prepared k ≡ true
prepared_stand k h = let is : stand.Prepared ≡ k = cc in subst (λ (j : Stand). is_prepared j ≡ true) is refl

-- a branch in S3 is prepared to the judge
pub prepared_same : (n : NameNumbers) (m : States) (d : Xid → JudgedDecision) (s : Sight) (x : Xid)
    → Mirrors n m d s
    → state_in m.branches.branches x ≡ S3 → is_prepared_at (n.xid x) s ≡ true
prepared_same n m d s x mirrors q =
    (any_pick (IsBranch n (state_in m.branches.branches) d) (is_named (n.xid x))
    (λ (c : Bool) (b : JudgedBranch). b.name == n.xid x && is_prepared b.stand)
    (λ b is named. (
      true,
      and_from (b.name == n.xid x) (is_prepared b.stand) named
          (prepared_stand b.stand (sym (ap (λ st. stand_as st (d x)) q)
          ∙ subst (λ (y : Xid). stand_as (state_in m.branches.branches y) (d y) ≡ Some b.stand)
          (n.xids_apart is.xid x (sym is.is ∙ eqb-true b.name (n.xid x) named)) is.stands)),
    ))
    s.branches mirrors.branches.each (mirrors.branches.known x ∙ ap is_begun q)).1

stands_not : (j k : Stand) → is_prepared j ≡ false → Some j ≡ Some k → is_prepared k ≡ true → ⊥
stands_not j k off e h = let is : j ≡ k = cc in
    false≢true (sym off ∙ subst (λ (i : Stand). is_prepared i ≡ true) (sym is) h)

three_by : (s : BranchState) (d : JudgedDecision) (k : Stand) → stand_as s d ≡ Some k → is_prepared k ≡ true
    → s ≡ S3
three_by S0 d k e h = absurd cc
three_by S1 d k e h = absurd (stands_not stand.Active k refl e h)
three_by S2 d k e h = absurd (stands_not stand.Active k refl e h)
three_by S3 d k e h = refl
three_by S4 d k e h = absurd (stands_not stand.RollbackOnly k refl e h)
three_by S5 d k e h = absurd (stands_not (stand.Heuristic d) k refl e h)

-- and one that is not in S3 is not
pub unprepared : (n : NameNumbers) (m : States) (d : Xid → JudgedDecision) (s : Sight) (x : Xid)
    → Mirrors n m d s
    → (state_in m.branches.branches x ≡ S3 → ⊥) → is_prepared_at (n.xid x) s ≡ false
unprepared n m d s x mirrors h = false_from_ne_true (is_prepared_at (n.xid x) s) (λ e.
    let w = any_where (IsBranch n (state_in m.branches.branches) d)
    (λ b. b.name == n.xid x && is_prepared b.stand)
    s.branches e mirrors.branches.each in
    let parts = and_parts (w.0.name == n.xid x) (is_prepared w.0.stand) w.1 in
    let one : w.2.xid ≡ x = n.xids_apart w.2.xid x (sym w.2.is ∙ eqb-true w.0.name (n.xid x) parts.0) in
    h (subst (λ (y : Xid). state_in m.branches.branches y ≡ S3) one
    (three_by (state_in m.branches.branches w.2.xid) (d w.2.xid) w.0.stand w.2.stands parts.1)))

-- where nothing changes the same is remembered
still : (n : NameNumbers) (old new : States) (d : Xid → JudgedDecision) (s : Sight) (x : Xid)
    → Mirrors n old d s → SameStates old new
    → Ends n s s x new
still n old new d s x mirrors same = Kept refl (λ e. unprepared n old d s x mirrors (λ q.
    let f : S3 ≡ S0 = sym q ∙ ap (λ (bs : List (Xid × BranchState)). state_in bs x)
    (sym same.branches.branches) ∙ e in cc))

pub unchanged : (v : BranchVerb) (n : NameNumbers) (old new : States) (d : Xid → JudgedDecision)
    (s : Sight) (x : Xid)
    → Mirrors n old d s → SameStates old new → Remembers v n s s x new
unchanged verb.Start n old new d s x mirrors same = refl
unchanged verb.End n old new d s x mirrors same = refl
unchanged verb.Prepare n old new d s x mirrors same = still n old new d s x mirrors same
unchanged verb.Commit n old new d s x mirrors same = still n old new d s x mirrors same
unchanged verb.Rollback n old new d s x mirrors same = still n old new d s x mirrors same
unchanged verb.Forget n old new d s x mirrors same = still n old new d s x mirrors same

-- What is remembered after a step.

pub lost_stays : (n : NameNumbers) (l l' : Xid → Bool) (bs cs : List JudgedBranch) → cs ≡ bs → NoMore l l'
    → AreLost n l bs
    → AreLost n l' cs
lost_stays n l l' bs cs is less lost = subst (λ (ks : List JudgedBranch). AreLost n l' ks) (sym is)
    (record { each = lost.each; here = λ x h. lost.here x (less x h) })

prepared_is : (k : Stand) → is_prepared k ≡ true → k ≡ stand.Prepared
prepared_is stand.Prepared h = refl
prepared_is stand.Active h = absurd (false≢true h)
prepared_is stand.RollbackOnly h = absurd (false≢true h)
prepared_is (stand.Heuristic d) h = absurd (false≢true h)

module _ (n : NameNumbers) (old new : States) (d : Xid → JudgedDecision) (s : Sight) (x : Xid)
    (l l' : Xid → Bool)
    (mirrors : Mirrors n old d s) (lost : AreLost n l s.lost) (loses : Loses old new x l l') where
  abbrev kept : List JudgedBranch
  kept = others (n.xid x) s.lost

  abbrev more : List JudgedBranch
  more = was_prepared (n.xid x) s.branches

  -- the branch itself
  own_here : is_prepared_at (n.xid x) s ≡ true → list_any (is_named (n.xid x)) more ≡ true
  own_here e = any_filter (is_named (n.xid x)) (λ b. b.name == n.xid x && is_prepared b.stand) s.branches
      ∙ any_implied (λ b. b.name == n.xid x && is_prepared b.stand)
      (λ b. (b.name == n.xid x && is_prepared b.stand) && is_named (n.xid x) b)
      (λ b h. and_from (b.name == n.xid x && is_prepared b.stand) (b.name == n.xid x) h
      (and_parts (b.name == n.xid x) (is_prepared b.stand) h).0) s.branches e

  -- another
  other_here : (y : Xid) → same x y ≡ false → l y ≡ true → list_any (is_named (n.xid y)) kept ≡ true
  other_here y apart was = any_kept (is_named (n.xid y)) (λ b. not (b.name == n.xid x))
      (λ b e. not_from_false (b.name == n.xid x) (ne_eqb b.name (n.xid x)
      (λ f. not_one n x y apart (sym f ∙ eqb-true b.name (n.xid y) e)))) s.lost ∙ lost.here y was

  added : is_prepared_at (n.xid x) s ≡ true → AreLost n l' (kept ++ more)
  added e = record {
    each = all_append (IsLost n) kept more
        (all_where (IsLost n) (IsLost n) (λ b. not (b.name == n.xid x)) (λ b passes is. is) s.lost lost.each)
        (all_where (IsBranch n (state_in old.branches.branches) d) (IsLost n)
        (λ b. b.name == n.xid x && is_prepared b.stand)
        (λ b passes is. record {
          xid = is.xid;
          is = is.is;
          prepared = prepared_is b.stand (and_parts (b.name == n.xid x) (is_prepared b.stand) passes).1;
        }) s.branches mirrors.branches.each);
    here = λ y h. list_any-append (is_named (n.xid y)) kept more ∙ by y h (same x y) refl;
  } where
    by : (y : Xid) → l' y ≡ true → (b : Bool) → same x y ≡ b
        → (list_any (is_named (n.xid y)) kept || list_any (is_named (n.xid y)) more) ≡ true
    by y h true q = or_right (list_any (is_named (n.xid y)) kept) (list_any (is_named (n.xid y)) more)
        (subst (λ (z : Xid). list_any (is_named (n.xid z)) more ≡ true) (same_is x y q) (own_here e))
    by y h false q = or_left (list_any (is_named (n.xid y)) kept) (list_any (is_named (n.xid y)) more)
        (elim (loses y h) [
          | inl was ↦ other_here y q was
          | inr left ↦ absurd (false≢true (sym q ∙ left.0))
        ])

  pub lost_ends : (u : Sight) → Ends n s u x new → AreLost n l' u.lost
  lost_ends u (Kept is none) = subst (λ (bs : List JudgedBranch). AreLost n l' bs) (sym is) (record {
    each = lost.each;
    here = λ y h. elim (loses y h) [
      | inl was ↦ lost.here y was
      | inr left ↦ absurd (false≢true (sym (none left.2) ∙ prepared_same n old d s x mirrors left.1))
    ];
  })
  lost_ends u (Added is) = subst (λ (bs : List JudgedBranch). AreLost n l' bs) (sym is)
      (by (is_prepared_at (n.xid x) s) refl) where
        by : (b : Bool) → is_prepared_at (n.xid x) s ≡ b → AreLost n l' (if b then record s {
          lost = others (n.xid x) s.lost ++ was_prepared (n.xid x) s.branches;
          lost_works = works_without (n.xid x) s.lost_works ++ works_of (n.xid x) s.works;
        } else s).lost
        by true e = added e
        by false e = record {
          each = lost.each;
          here = λ y h. elim (loses y h) [
            | inl was ↦ lost.here y was
            | inr left ↦ absurd (false≢true (sym e ∙ prepared_same n old d s x mirrors left.1))
          ];
        }
