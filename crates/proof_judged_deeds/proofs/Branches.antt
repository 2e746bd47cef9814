-- What becomes of the judge's branches where one of the manager's reaches a state.
use Rattle.std.proofs.Common.{◌≡◌, ℕ, Bool, true, false, not, Some, List, [], ◌∷◌, ◌++◌, ◌||◌, refl, ap, sym, subst, ◌∙◌}
use Rattle.std.specs.Prelude.{◌==◌, if◌then◌else◌}
use Rattle.std.specs.List.{list_any}
use Rattle.std.proofs.lemmas.Bool.{eqb-true, eq-eqb, ne_eqb, false≢true, false_from_ne_true, not-true, not_from_true, not_from_false}
use Rattle.xa_xid.specs.declared.xid.Xid.{Xid}
use Rattle.xa_tables.specs.declared.states.BranchState.{BranchState}
use Rattle.xa_tables.specs.declared.states.BranchState.TheVariants.{S0, S1, S2, S3, S4, S5}
use Rattle.xa_branch.specs.Names.{same}
use Rattle.xa_branch.proofs.Names.{same_is, same_refl}
use Rattle.judge_state.specs.declared.parts.JudgedBranch.{JudgedBranch}
use Rattle.judge_state.specs.declared.parts.JudgedDecision.{JudgedDecision}
use Rattle.judge_state.specs.declared.parts.Stand.{Stand}
use Rattle.judge_state.specs.Parts.{is_named}
use Rattle.judge_state.specs.Moves.{others, standing, with_stand}
use Rattle.proof_judged_deeds.specs.Names.{NameNumbers}
use Rattle.proof_judged_deeds.proofs.Lists.{all_append, all_map, all_weaker, all_where, any_agree, any_gone, any_kept, any_map, any_pushed, or_false}
use Rattle.proof_judged_deeds.proofs.Mirrors.{AreBranches, IsBranch, is_begun, stand_as}

-- one branch reaches a state, with a decision, and the others stay
pub record Comes (st st' : Xid → BranchState) (d d' : Xid → JudgedDecision) (x : Xid)
    (to : BranchState) : Type 0 where
  pub own : st' x ≡ to
  pub others : (y : Xid) → same x y ≡ false → st' y ≡ st y
  pub decided : (y : Xid) → same x y ≡ false → d' y ≡ d y

pub not_one : (n : NameNumbers) (x y : Xid) → same x y ≡ false → n.xid x ≡ n.xid y → ⊥
not_one n x y h q =
    false≢true (sym h ∙ subst (λ (z : Xid). same x z ≡ true) (n.xids_apart x y q) (same_refl x))

-- a branch of another name is as it was
other_branch : (n : NameNumbers) (st st' : Xid → BranchState) (d d' : Xid → JudgedDecision) (x : Xid)
    (to : BranchState) (b : JudgedBranch)
    → Comes st st' d d' x to → (b.name ≡ n.xid x → ⊥) → IsBranch n st d b → IsBranch n st' d' b
other_branch n st st' d d' x to b comes apart is =
    let differs : same x is.xid ≡ false = false_from_ne_true (same x is.xid) (λ e.
    apart (is.is ∙ ap n.xid (sym (same_is x is.xid e)))) in
    record {
      xid = is.xid;
      is = is.is;
      stands = ap (λ s. stand_as s (d' is.xid)) (comes.others is.xid differs)
          ∙ ap (λ c. stand_as (st is.xid) c) (comes.decided is.xid differs) ∙ is.stands;
    }

-- at each name: this one, or another
pub at_name : (n : NameNumbers) (x : Xid) (P : Xid → Type 0) → P x → ((y : Xid) → same x y ≡ false → P y)
    → (y : Xid) → P y
at_name n x P own others y = by (same x y) refl where
  by : (b : Bool) → same x y ≡ b → P y
  by true e = subst P (same_is x y e) own
  by false e = others y e

-- a branch is known no longer
pub gone_branches : (n : NameNumbers) (st st' : Xid → BranchState) (d d' : Xid → JudgedDecision) (x : Xid)
    (to : BranchState)
    (bs : List JudgedBranch) → Comes st st' d d' x to → is_begun to ≡ false → AreBranches n st d bs
    → AreBranches n st' d' (others (n.xid x) bs)
gone_branches n st st' d d' x to bs comes gone are = record {
  each = all_where (IsBranch n st d) (IsBranch n st' d') (λ b. not (b.name == n.xid x))
      (λ b passes is. other_branch n st st' d d' x to b comes
      (λ e. false≢true (sym (not-true (b.name == n.xid x) passes) ∙ eq-eqb b.name (n.xid x) e)) is) bs
      are.each;
  known = at_name n x (λ y. list_any (is_named (n.xid y)) (others (n.xid x) bs) ≡ is_begun (st' y))
      (any_gone (is_named (n.xid x)) (λ b. not (b.name == n.xid x))
      (λ b e. not_from_true (b.name == n.xid x) e) bs ∙ sym (ap is_begun comes.own ∙ gone))
      (λ y differs. any_kept (is_named (n.xid y)) (λ b. not (b.name == n.xid x))
      (λ b e. not_from_false (b.name == n.xid x) (ne_eqb b.name (n.xid x)
      (λ f. not_one n x y differs (sym f ∙ eqb-true b.name (n.xid y) e)))) bs
      ∙ are.known y ∙ sym (ap is_begun (comes.others y differs)));
}

stood_name : (x : ℕ) (k : Stand) (b : JudgedBranch)
    → (if b.name == x then with_stand k b else b).name ≡ b.name
stood_name x k b = by (b.name == x) where
  by : (c : Bool) → (if c then with_stand k b else b).name ≡ b.name
  by true = refl
  by false = refl

-- a known branch stands so
pub stood_branches : (n : NameNumbers) (st st' : Xid → BranchState) (d d' : Xid → JudgedDecision) (x : Xid)
    (to : BranchState)
    (k : Stand) (bs : List JudgedBranch) → Comes st st' d d' x to → stand_as to (d' x) ≡ Some k
    → is_begun (st x) ≡ true
    → is_begun to ≡ true → AreBranches n st d bs → AreBranches n st' d' (standing (n.xid x) k bs)
stood_branches n st st' d d' x to k bs comes stands was begun are = record {
  each = all_map (IsBranch n st d) (IsBranch n st' d') (λ b. if b.name == n.xid x then with_stand k b else b)
      each_by bs are.each;
  known = at_name n x (λ y. list_any (is_named (n.xid y)) (standing (n.xid x) k bs) ≡ is_begun (st' y))
      (named x ∙ are.known x ∙ was ∙ sym (ap is_begun comes.own ∙ begun))
      (λ y differs. named y ∙ are.known y ∙ sym (ap is_begun (comes.others y differs)));
} where
  named : (y : Xid) → list_any (is_named (n.xid y)) (standing (n.xid x) k bs)
      ≡ list_any (is_named (n.xid y)) bs
  named y = any_map (is_named (n.xid y)) (λ b. if b.name == n.xid x then with_stand k b else b) bs
      ∙ any_agree (λ b. is_named (n.xid y) (if b.name == n.xid x then with_stand k b else b))
      (is_named (n.xid y))
      (λ b. ap (λ m. m == n.xid y) (stood_name (n.xid x) k b)) bs

  each_by : (b : JudgedBranch) → IsBranch n st d b → IsBranch n st' d'
      (if b.name == n.xid x then with_stand k b else b)
  each_by b is = by (b.name == n.xid x) refl where
    by : (c : Bool) → (b.name == n.xid x) ≡ c → IsBranch n st' d' (if c then with_stand k b else b)
    by true e = record {
      xid = x;
      is = eqb-true b.name (n.xid x) e;
      stands = ap (λ s. stand_as s (d' x)) comes.own ∙ stands;
    }
    by false e = other_branch n st st' d d' x to b comes
        (λ q. false≢true (sym e ∙ eq-eqb b.name (n.xid x) q)) is

none_stands : (s : BranchState) (d : JudgedDecision) (k : Stand) → is_begun s ≡ false → stand_as s d ≡ Some k
    → ⊥
none_stands S0 d k h e = cc
none_stands S1 d k h e = cc
none_stands S2 d k h e = cc
none_stands S3 d k h e = cc
none_stands S4 d k h e = cc
none_stands S5 d k h e = cc

-- a branch begins
pub begun_branches : (n : NameNumbers) (st st' : Xid → BranchState) (d d' : Xid → JudgedDecision) (x : Xid)
    (to : BranchState)
    (b : JudgedBranch) (bs : List JudgedBranch) → Comes st st' d d' x to → b.name ≡ n.xid x
    → stand_as to (d' x) ≡ Some b.stand
    → is_begun (st x) ≡ false → is_begun to ≡ true → AreBranches n st d bs
    → AreBranches n st' d' (bs ++ b ∷ [])
begun_branches n st st' d d' x to b bs comes name stands was begun are = record {
  each = all_append (IsBranch n st' d') bs (b ∷ [])
      (all_weaker (IsBranch n st d) (IsBranch n st' d') old bs are.each)
      (record { xid = x; is = name; stands = ap (λ s. stand_as s (d' x)) comes.own ∙ stands }, tt);
  known = at_name n x (λ y. list_any (is_named (n.xid y)) (bs ++ b ∷ []) ≡ is_begun (st' y))
      (any_pushed (is_named (n.xid x)) bs b ∙ ap (λ c. list_any (is_named (n.xid x)) bs || c)
      (eq-eqb b.name (n.xid x) name)
      ∙ or_true (list_any (is_named (n.xid x)) bs) ∙ sym (ap is_begun comes.own ∙ begun))
      (λ y differs. any_pushed (is_named (n.xid y)) bs b
      ∙ ap (λ c. list_any (is_named (n.xid y)) bs || c)
      (ne_eqb b.name (n.xid y) (λ e. not_one n x y differs (sym name ∙ e)))
      ∙ or_false (list_any (is_named (n.xid y)) bs) ∙ are.known y
      ∙ sym (ap is_begun (comes.others y differs)));
} where
  or_true : (c : Bool) → (c || true) ≡ true
  or_true true = refl
  or_true false = refl

  old : (c : JudgedBranch) → IsBranch n st d c → IsBranch n st' d' c
  old c is = other_branch n st st' d d' x to c comes (λ e.
      let one : is.xid ≡ x = n.xids_apart is.xid x (sym is.is ∙ e) in
      none_stands (st x) (d x) c.stand was (subst (λ (z : Xid). stand_as (st z) (d z) ≡ Some c.stand)
      one is.stands)) is

-- a branch reaches a state in which it stands as before
pub kept_branches : (n : NameNumbers) (st st' : Xid → BranchState) (d d' : Xid → JudgedDecision) (x : Xid)
    (to : BranchState)
    (bs : List JudgedBranch) → Comes st st' d d' x to → stand_as to (d' x) ≡ stand_as (st x) (d x)
    → is_begun to ≡ is_begun (st x) → AreBranches n st d bs → AreBranches n st' d' bs
kept_branches n st st' d d' x to bs comes stands begun are = record {
  each = all_weaker (IsBranch n st d) (IsBranch n st' d') each_by bs are.each;
  known = at_name n x (λ y. list_any (is_named (n.xid y)) bs ≡ is_begun (st' y))
      (are.known x ∙ sym (ap is_begun comes.own ∙ begun))
      (λ y differs. are.known y ∙ sym (ap is_begun (comes.others y differs)));
} where
  each_by : (b : JudgedBranch) → IsBranch n st d b → IsBranch n st' d' b
  each_by b is = by (same x is.xid) refl where
    by : (c : Bool) → same x is.xid ≡ c → IsBranch n st' d' b
    by true e = record {
      xid = is.xid;
      is = is.is;
      stands = subst (λ (y : Xid). stand_as (st' y) (d' y) ≡ stand_as (st y) (d y)) (same_is x is.xid e)
          (ap (λ s. stand_as s (d' x)) comes.own ∙ stands) ∙ is.stands;
    }
    by false e = record {
      xid = is.xid;
      is = is.is;
      stands = ap (λ s. stand_as s (d' is.xid)) (comes.others is.xid e)
          ∙ ap (λ c. stand_as (st is.xid) c) (comes.decided is.xid e) ∙ is.stands;
    }
