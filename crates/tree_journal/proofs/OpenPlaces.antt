-- The first mark that is not set.
use Rattle.std.proofs.Common.{◌≡◌, ℕ, zero, suc, ◌+◌, ◌<◌, Bool, true, false, Some, None, List, [], ◌∷◌, length, get_or, take, replicate, refl, arith}
use Rattle.tree_state.specs.Worlds.{least_open}

-- the first of a list that begins with set marks is set
head_set : (b : Bool) (bs : List Bool) (p : ℕ) → take (suc p) (b ∷ bs) ≡ replicate (suc p) true → b ≡ true
head_set true bs p h = refl
head_set false bs p h = absurd cc

-- the others are set too
tail_set : (b : Bool) (bs : List Bool) (p : ℕ) → take (suc p) (b ∷ bs) ≡ replicate (suc p) true
    → take p bs ≡ replicate p true
tail_set b bs p h = cc

-- an open mark after set ones is the first open one
pub opens : (k : ℕ) (bs : List Bool) (p : ℕ) → p < length bs
    → take p bs ≡ replicate p true → get_or bs p false ≡ false
    → least_open k bs ≡ Some (p + k)
opens k [] p lt front unset = absurd (omega arith)
opens k (false ∷ bs) zero lt front unset = let none : zero + k ≡ k = omega arith in rw none refl
opens k (true ∷ bs) zero lt front unset = absurd cc
opens k (false ∷ bs) (suc p) lt front unset = absurd (let no : false ≡ true = head_set false bs p front in cc)
opens k (true ∷ bs) (suc p) lt front unset =
    let count : suc p + k ≡ p + (k + 1) = omega arith in
    rw count (opens (k + 1) bs p (omega arith) (tail_set true bs p front) unset)

-- where all are set none is open
pub closed : (k : ℕ) (bs : List Bool) → take (length bs) bs
    ≡ replicate (length bs) true → least_open k bs ≡ None
closed k [] h = refl
closed k (true ∷ bs) h = closed (k + 1) bs (tail_set true bs (length bs) h)
closed k (false ∷ bs) h = absurd (let no : false ≡ true = head_set false bs (length bs) h in cc)
