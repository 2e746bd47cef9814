-- The branches that a restart takes up, one after the other.
use Rattle.std.proofs.Common.{◌≡◌, ◌≢◌, ℕ, ◌+◌, ◌<◌, ◌≤◌, Bool, true, false, cond, List, [], ◌∷◌, ◌++◌, length, take, drop, Option, Some, None, refl, ap, sym, subst, ◌∙◌, arith}
use Rattle.std.specs.Prelude.{◌||◌, is_some, nat_lt, if◌then◌else◌}
use Rattle.std.specs.List.{list_any}
use Rattle.std.specs.Map.{lookup}
use Rattle.std.proofs.lemmas.Bool.{lt-ltb, ltb-true}
use Rattle.std.proofs.lemmas.List.{length-map, length-take-le, map-append, take-append-drop}
use Rattle.std.proofs.lemmas.List.Folds.{list_any-append}
use Rattle.xa_codes.specs.declared.code.Code.{Code}
use Rattle.xa_words.specs.code
use Rattle.xa_tables.specs.declared.states.BranchState.{BranchState}
use Rattle.xa_tables.specs.declared.states.BranchState.TheVariants.{S3, S5}
use Rattle.xa_xid.specs.declared.xid.Xid.{Xid}
use Rattle.xa_branch.specs.Branches.{BeginsState, BranchList, is_known, placed}
use Rattle.xa_branch.specs.Names.{same}
use Rattle.xa_branch.proofs.Placed.{placed_last}
use Rattle.xa_assoc.specs.Restored.{has_twice, restore_refusal, state_left, states_left}

placed_left : (bs : List (Xid × BranchState)) (x : Xid) (d : Bool) → is_known bs x ≡ false
    → placed bs x (state_left d) ≡ bs ++ (x, state_left d) ∷ []
placed_left bs x true h = placed_last bs x S5 (λ e. absurd cc) h
placed_left bs x false h = placed_last bs x S3 (λ e. absurd cc) h

-- the next branch in doubt goes after those before it
pub next_placed : (front : List (Xid × Bool)) (e : Xid × Bool) → is_known (states_left front) e.0 ≡ false
    → placed (states_left front) e.0 (state_left e.1) ≡ states_left (front ++ e ∷ [])
next_placed front e h = placed_left (states_left front) e.0 e.1 h
    ∙ sym (map-append (λ (f : Xid × Bool). (f.0, state_left f.1)) front (e ∷ []))

or_true : (a : Bool) → (a || true) ≡ true
or_true true = refl
or_true false = refl

twice_by : (b rest later : Bool) (o : Option BranchState) (s : BranchState)
    → is_some (cond b (Some s) o) ≡ true → (is_some o ≡ true → later ≡ true)
    → ((rest || (b || false)) || later) ≡ true
twice_by true true later o s h k = refl
twice_by true false later o s h k = refl
twice_by false rest later o s h k = ap (λ l. (rest || false) || l) (k h) ∙ or_true (rest || false)

any_more : (p : (Xid × Bool) → Bool) (front : List (Xid × Bool)) (e : Xid × Bool)
    → list_any p (front ++ e ∷ []) ≡ (list_any p front || (p e || false))
any_more p front e = list_any-append p front (e ∷ [])

-- a branch that is known already stands twice
pub known_twice : (front : List (Xid × Bool)) (e : Xid × Bool) → is_known (states_left front) e.0 ≡ true
    → has_twice (front ++ e ∷ []) ≡ true
known_twice [] e h = absurd cc
known_twice (f ∷ front) e h =
    ap (λ b. b || has_twice (front ++ e ∷ [])) (any_more (λ g. same g.0 f.0) front e)
    ∙ twice_by (same e.0 f.0) (list_any (λ g. same g.0 f.0) front) (has_twice (front ++ e ∷ []))
    (lookup (same e.0) (states_left front)) (state_left f.1) h (known_twice front e)

once_by : (b rest tail later : Bool) (o : Option BranchState) (s : BranchState)
    → is_some (cond b (Some s) o) ≡ false → (rest || tail) ≡ false
    → (tail ≡ false → is_some o ≡ false → later ≡ false) → ((rest || (b || false)) || later) ≡ false
once_by true rest tail later o s h t k = absurd cc
once_by false true tail later o s h t k = absurd cc
once_by false false tail later o s h t k = k t h

-- a branch that is not known is there once
pub unknown_once : (front : List (Xid × Bool)) (e : Xid × Bool) → has_twice front ≡ false
    → is_known (states_left front) e.0 ≡ false → has_twice (front ++ e ∷ []) ≡ false
unknown_once [] e t h = refl
unknown_once (f ∷ front) e t h =
    ap (λ b. b || has_twice (front ++ e ∷ [])) (any_more (λ g. same g.0 f.0) front e)
    ∙ once_by (same e.0 f.0) (list_any (λ g. same g.0 f.0) front) (has_twice front)
    (has_twice (front ++ e ∷ [])) (lookup (same e.0) (states_left front)) (state_left f.1) h t
    (unknown_once front e)

either : (a b : Bool) → a ≡ true → (a || b) ≡ true
either true b h = refl
either false b h = absurd cc

-- what stands twice in a front stands twice
pub twice_more : (front rest : List (Xid × Bool)) → has_twice front ≡ true → has_twice (front ++ rest) ≡ true
twice_more [] rest h = absurd cc
twice_more (f ∷ front) rest h = more (list_any (λ g. same g.0 f.0) front) (has_twice front) h
    (twice_more front rest) refl where
      more : (a b : Bool) → (a || b) ≡ true → (b ≡ true → has_twice (front ++ rest) ≡ true)
          → list_any (λ g. same g.0 f.0) front ≡ a
          → has_twice (f ∷ front ++ rest) ≡ true
      more true b h k is = either _ _ (list_any-append (λ g. same g.0 f.0) front rest ∙ either _ _ is)
      more false b h k is = ap (λ l. list_any (λ g. same g.0 f.0) (front ++ rest) || l) (k h) ∙ or_true _

abbrev begun : Bool → Bool → Code
begun known fits = if known then code.DupId else if fits then code.Ok else code.RmErr

begun_twice : (known fits : Bool) (c : Code) → c ≡ begun known fits → fits ≡ true → c ≢ code.Ok
    → (known ≡ true) × (c ≡ code.DupId)
begun_twice true fits c e f n = (refl, e)
begun_twice false true c e f n = absurd (n e)
begun_twice false false c e f n = absurd cc

begun_once : (known fits : Bool) (c : Code) → c ≡ begun known fits → c ≡ code.Ok → known ≡ false
begun_once true fits c e is = absurd (let f : code.DupId ≡ code.Ok = sym e ∙ is in cc)
begun_once false fits c e is = refl

fits_in : (left : List (Xid × Bool)) (i : ℕ) → i < length left → length left ≤ 1024
    → nat_lt (length (states_left (take i left))) 1024 ≡ true
fits_in left i within short =
    let n : length (states_left (take i left)) ≡ i =
    length-map (take i left) (λ (e : Xid × Bool). (e.0, state_left e.1))
    ∙ length-take-le i left (omega arith) in
    lt-ltb (length (states_left (take i left))) 1024 (omega arith)

refusal_is : (many twice : Bool) → many ≡ false → twice ≡ true
    → (if many then Some code.RmErr else if twice then Some code.DupId else None) ≡ Some code.DupId
refusal_is false true h k = refl
refusal_is true twice h k = absurd cc
refusal_is false false h k = absurd cc

few : (n : ℕ) → n ≤ 1024 → nat_lt 1024 n ≡ false
few n h = few_by (nat_lt 1024 n) refl where
  few_by : (b : Bool) → nat_lt 1024 n ≡ b → b ≡ false
  few_by false e = refl
  few_by true e = absurd (let over : 1024 < n = ltb-true 1024 n e in omega arith)

-- what is known where the next branch in doubt is taken up
pub record Taken (left : List (Xid × Bool)) (i : ℕ) (old new : BranchList) (e : Xid × Bool)
    (c : Code) : Type 0 where
  pub within : i < length left
  pub short : length left ≤ 1024
  pub front : old.branches ≡ states_left (take i left)
  pub next : take (i + 1) left ≡ take i left ++ e ∷ []
  pub begins : BeginsState old new e.0 (state_left e.1) c

known_front : (left : List (Xid × Bool)) (i : ℕ) (old new : BranchList) (e : Xid × Bool) (c : Code)
    → Taken left i old new e c
    → c ≡ begun (is_known (states_left (take i left)) e.0) (nat_lt (length (states_left (take i left))) 1024)
known_front left i old new e c h =
    subst (λ (bs : List (Xid × BranchState)). c ≡ begun (is_known bs e.0) (nat_lt (length bs) 1024)) h.front
    h.begins.first

-- one that is refused stands twice
pub is_refused : (left : List (Xid × Bool)) (i : ℕ) (old new : BranchList) (e : Xid × Bool) (c : Code)
    → Taken left i old new e c → c ≢ code.Ok
    → restore_refusal left ≡ Some c
is_refused left i old new e c h bad =
    let front = take i left in
    let both = begun_twice _ _ c (known_front left i old new e c h) (fits_in left i h.within h.short) bad in
    let here : has_twice (take (i + 1) left) ≡ true = ap has_twice h.next ∙ known_twice front e both.0 in
    let there : has_twice left ≡ true = ap has_twice (sym (take-append-drop (i + 1) left))
    ∙ twice_more (take (i + 1) left) (drop (i + 1) left) here in
    refusal_is (nat_lt 1024 (length left)) (has_twice left) (few (length left) h.short) there
    ∙ ap (λ (k : Code). Some k) (sym both.1)

-- one that is taken up goes last, and is there once
pub is_taken : (left : List (Xid × Bool)) (i : ℕ) (old new : BranchList) (e : Xid × Bool) (c : Code)
    → Taken left i old new e c → c ≡ code.Ok
    → has_twice (take i left) ≡ false → old.scans ≡ []
    → (new.branches ≡ states_left (take (i + 1) left)) × (new.scans ≡ [])
    × (has_twice (take (i + 1) left) ≡ false)
is_taken left i old new e c h good once scans =
    let front = take i left in
    let unknown = begun_once _ _ c (known_front left i old new e c h) good in
    let moves = h.begins.made good in (
      moves.order ∙ ap (λ bs. placed bs e.0 (state_left e.1)) h.front ∙ next_placed front e unknown
          ∙ sym (ap states_left h.next),
      moves.scans ∙ scans,
      ap has_twice h.next ∙ unknown_once front e once unknown,
    )
