-- When an answer of a call on a branch is admitted: refused for a defect, failed, or passed.
use Rattle.std.proofs.Common.{◌≡◌, Bool, true, false, List, [], ◌∷◌, ◌++◌, refl, sym, subst, arith}
use Rattle.std.specs.Prelude.{◌||◌, Contains, if◌then◌else◌}
use Rattle.std.proofs.lemmas.List.Elements.{Contains-append_left, Contains-append_right}
use Rattle.judge_state.specs.Sights.{Sight}
use Rattle.judge_rules.specs.declared.calls.BranchVerb.{BranchVerb}
use Rattle.judge_rules.specs.declared.calls.On.{On}
use Rattle.judge_rules.specs.declared.defects.Refusals.{Refusals}
use Rattle.judge_rules.specs.declared.replies.Reply.{Reply}
use Rattle.judge_words.specs.reply
use Rattle.judge_rules.specs.Replies.{is_among, is_defective}
use Rattle.judge_rules.specs.Defects.{branch_defects, branch_excuses}
use Rattle.judge_rules.specs.Falls.{effects, failed, failed_rows}
use Rattle.judge_rules.specs.Passes.{branch_passes, one_if}
use Rattle.judge_rules.specs.Steps.{branch_rows, by_defects}
use Rattle.proof_judged_deeds.specs.Names.{lacks_forced}

pub first_in : (s : Sight) (ss : List Sight) → Contains (s ∷ ss) s
first_in s ss = (0, omega arith, refl)

pub in_if : (b : Bool) (s : Sight) → b ≡ true → Contains (one_if b s) s
in_if b s h = subst (λ (q : Bool). Contains (one_if q s) s) (sym h) (first_in s [])

pub in_then : (b : Bool) (xs ys : List Sight) (t : Sight) → b ≡ true → Contains xs t
    → Contains (if b then xs else ys) t
in_then b xs ys t h c = subst (λ (q : Bool). Contains (if q then xs else ys) t) (sym h) c

pub in_else : (b : Bool) (xs ys : List Sight) (t : Sight) → b ≡ false → Contains ys t
    → Contains (if b then xs else ys) t
in_else b xs ys t h c = subst (λ (q : Bool). Contains (if q then xs else ys) t) (sym h) c

-- which code a defect has
pub data IsDefect (d : Refusals) : Reply → Type 0 where
  Inval : d.inval ≡ true → IsDefect d reply.Inval
  Async : d.asynchronous ≡ true → IsDefect d reply.Async
  Proto : d.proto ≡ true → IsDefect d reply.Proto
  DupId : d.dup_id ≡ true → IsDefect d reply.DupId
  NotA : d.not_a ≡ true → IsDefect d reply.NotA

any_one : (a b c d e : Bool) → a ≡ true → (a || b || c || d || e) ≡ true
any_one a b c d e h = rw h refl

any_two : (a b c d e : Bool) → b ≡ true → (a || b || c || d || e) ≡ true
any_two true b c d e h = refl
any_two false b c d e h = rw h refl

any_three : (a b c d e : Bool) → c ≡ true → (a || b || c || d || e) ≡ true
any_three true b c d e h = refl
any_three false true c d e h = refl
any_three false false c d e h = rw h refl

any_four : (a b c d e : Bool) → d ≡ true → (a || b || c || d || e) ≡ true
any_four true b c d e h = refl
any_four false true c d e h = refl
any_four false false true d e h = refl
any_four false false false d e h = rw h refl

any_five : (a b c d e : Bool) → e ≡ true → (a || b || c || d || e) ≡ true
any_five true b c d e h = refl
any_five false true c d e h = refl
any_five false false true d e h = refl
any_five false false false true e h = refl
any_five false false false false e h = rw h refl

pub is_defect : (d : Refusals) (a : Reply) → IsDefect d a → is_defective d ≡ true
is_defect d a (Inval h) = any_one d.inval d.asynchronous d.proto d.dup_id d.not_a h
is_defect d a (Async h) = any_two d.inval d.asynchronous d.proto d.dup_id d.not_a h
is_defect d a (Proto h) = any_three d.inval d.asynchronous d.proto d.dup_id d.not_a h
is_defect d a (DupId h) = any_four d.inval d.asynchronous d.proto d.dup_id d.not_a h
is_defect d a (NotA h) = any_five d.inval d.asynchronous d.proto d.dup_id d.not_a h

pub has_code : (d : Refusals) (a : Reply) → IsDefect d a → is_among d a ≡ true
has_code d a (Inval h) = h
has_code d a (Async h) = h
has_code d a (Proto h) = h
has_code d a (DupId h) = h
has_code d a (NotA h) = h

-- there is no defect
pub record IsClean (d : Refusals) : Type 0 where
  pub inval : d.inval ≡ false
  pub asynchronous : d.asynchronous ≡ false
  pub proto : d.proto ≡ false
  pub dup_id : d.dup_id ≡ false
  pub not_a : d.not_a ≡ false

none_of : (a b c d e : Bool) → a ≡ false → b ≡ false → c ≡ false → d ≡ false → e ≡ false
    → (a || b || c || d || e) ≡ false
none_of a b c d e p q r s t = rw (p, q, r, s, t) refl

pub is_clean : (d : Refusals) → IsClean d → is_defective d ≡ false
is_clean d h = none_of d.inval d.asynchronous d.proto d.dup_id d.not_a h.inval h.asynchronous h.proto
    h.dup_id h.not_a

-- a call is refused by the code of a defect, and nothing changed
pub refused : (v : BranchVerb) (s : Sight) (o : On) (a : Reply)
    → IsDefect (branch_defects lacks_forced v s o) a
    → Contains (branch_rows lacks_forced v s o a) s
refused v s o a h =
    let d = branch_defects lacks_forced v s o in
    Contains-append_right (one_if (is_among (branch_excuses lacks_forced v s o) a) s
    ++ failed lacks_forced s a)
    (by_defects lacks_forced v s o a) s
    (in_then (is_defective d) (one_if (is_among d a) s)
    (branch_passes lacks_forced v s o a ++ effects lacks_forced v s o a) s (is_defect d a h)
    (in_if (is_among d a) s (has_code d a h)))

-- a failure that changes nothing
pub failing : (v : BranchVerb) (s : Sight) (o : On) (a : Reply) → Contains (failed_rows s a) s
    → Contains (branch_rows lacks_forced v s o a) s
failing v s o a h =
    Contains-append_left (one_if (is_among (branch_excuses lacks_forced v s o) a) s
    ++ failed lacks_forced s a)
    (by_defects lacks_forced v s o a) s
    (Contains-append_right (one_if (is_among (branch_excuses lacks_forced v s o) a) s) (failed_rows s a) s h)

-- a call passes that has no defect
pub passed : (v : BranchVerb) (s : Sight) (o : On) (a : Reply) (t : Sight)
    → IsClean (branch_defects lacks_forced v s o)
    → Contains (branch_passes lacks_forced v s o a) t → Contains (branch_rows lacks_forced v s o a) t
passed v s o a t clean h =
    let d = branch_defects lacks_forced v s o in
    Contains-append_right (one_if (is_among (branch_excuses lacks_forced v s o) a) s
    ++ failed lacks_forced s a)
    (by_defects lacks_forced v s o a) t
    (in_else (is_defective d) (one_if (is_among d a) s)
    (branch_passes lacks_forced v s o a ++ effects lacks_forced v s o a) t (is_clean d clean)
    (Contains-append_left (branch_passes lacks_forced v s o a) (effects lacks_forced v s o a) t h))
