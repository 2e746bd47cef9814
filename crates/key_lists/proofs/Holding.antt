-- The holders of a key after a lock and after a release.
use Rattle.std.proofs.Common.{◌≡◌, Bool, true, false, not, ◌||◌, cond, None, List, [], ◌∷◌, ◌++◌, filter, refl, arith, rules, ◌⊎◌, inl, inr}
use Rattle.std.proofs.lemmas.Grind.{common_steps}
use Rattle.std.proofs.lemmas.List.Folds.{list_any-append}
use Rattle.std.specs.List.{list_all}
use Rattle.xa_xid.specs.declared.xid.Xid.{Xid}
use Rattle.key_lists.specs.declared.holders.Holder.{Holder}
use Rattle.key_lists.specs.declared.holders.Mode.{Mode}
use Rattle.key_lists.specs.declared.holders.Mode.TheVariants.{Shared, Exclusive}
use Rattle.key_lists.specs.Holders.{are_shared, blocked_by, given, holds, is_exclusive, keeps_rule, same, without}

pub same_is : (a b : Xid) → same a b ≡ true → a ≡ b
same_is a b h = search rules

all_filter : {X : Type 0} (p q : X → Bool) (xs : List X) → list_all p xs ≡ true
    → list_all p (filter q xs) ≡ true
all_filter p q [] h = refl
all_filter p q (x ∷ xs) h = grind (arith, common_steps, all_filter p q xs)

pub rule_without : (hs : List Holder) (x : Xid) → keeps_rule hs ≡ true → keeps_rule (without hs x) ≡ true
unfolding keeps_rule
rule_without [] x h = refl
rule_without (g ∷ hs) x h = grind (
  arith,
  common_steps,
  rule_without hs x,
  all_filter (are_shared g)
      (λ h. not (same h.xid x)) hs,
)

pub holds_without : (hs : List Holder) (x y : Xid) → holds (without hs x) y ≡ true → holds hs y ≡ true
holds_without [] x y h = h
holds_without (g ∷ hs) x y h = grind (arith, common_steps, holds_without hs x y)

pub without_itself : (hs : List Holder) (x : Xid) → holds (without hs x) x ≡ false
without_itself [] x = refl
without_itself (g ∷ hs) x = grind (arith, common_steps, without_itself hs x)

pub without_idle : (hs : List Holder) (x : Xid) → holds hs x ≡ false → without hs x ≡ hs
without_idle [] x h = refl
without_idle (g ∷ hs) x h = grind (arith, common_steps, without_idle hs x)

pub without_twice : (hs : List Holder) (x : Xid) → without (without hs x) x ≡ without hs x
without_twice hs x = without_idle (without hs x) x (without_itself hs x)

-- of holders of which none is in the way of a shared lock and none is the branch, each is shared and another
-- one
all_apart : (g : Holder) (hs : List Holder) (x : Xid) → list_all (are_shared g) hs ≡ true
    → not (same g.xid x) ≡ true → is_exclusive g.mode ≡ false
    → list_all (are_shared g) (hs ++ record { xid = x; mode = Shared } ∷ []) ≡ true
all_apart g [] x all other shared = grind (arith, common_steps)
all_apart g (h ∷ hs) x all other shared = grind (arith, common_steps, all_apart g hs x)

rule_push : (hs : List Holder) (x : Xid) → keeps_rule hs ≡ true → holds hs x ≡ false
    → blocked_by hs x Shared ≡ None
    → keeps_rule (hs ++ record { xid = x; mode = Shared } ∷ []) ≡ true
unfolding keeps_rule
rule_push [] x rule held free = refl
rule_push (g ∷ hs) x rule held free = grind (arith, common_steps, rule_push hs x, all_apart g hs x)

pub rule_given : (hs : List Holder) (x : Xid) (m : Mode) → keeps_rule hs ≡ true → blocked_by hs x m ≡ None
    → keeps_rule (given hs x m) ≡ true
unfolding keeps_rule
rule_given hs x Exclusive rule free = refl
rule_given hs x Shared rule free = by_test (holds hs x) refl
  where
    by_test : (b : Bool) → holds hs x ≡ b → keeps_rule
        (cond b hs (hs ++ record { xid = x; mode = Shared } ∷ [])) ≡ true
    by_test true e = rule
    by_test false e = rule_push hs x rule e free

pub holds_given : (hs : List Holder) (x y : Xid) (m : Mode) → holds (given hs x m) y ≡ true
    → (holds hs y ≡ true) ⊎ (same x y ≡ true)
holds_given hs x y Exclusive h = inr (grind (arith, common_steps))
holds_given hs x y Shared h = by_test (holds hs x) h
  where
    either : (b c : Bool) → (b || (c || false)) ≡ true → (b ≡ true) ⊎ (c ≡ true)
    either true c e = inl refl
    either false true e = inr refl
    either false false e = absurd (cc)

    by_test : (b : Bool) → holds (cond b hs (hs ++ record { xid = x; mode = Shared } ∷ [])) y ≡ true
        → (holds hs y ≡ true) ⊎ (same x y ≡ true)
    by_test true e = inl e
    by_test false e = either (holds hs y) (same x y) (grind (arith, common_steps, list_any-append))
