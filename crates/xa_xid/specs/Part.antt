-- A part of an XID in an array of 64 bytes.
use Rattle.std.specs.Prelude.{◌≡◌, ℕ, ◌≤◌, ◌-◌, List, ◌++◌, length, take, replicate}
use Rattle.std.proofs.Common.{ap, sym, ◌∙◌, arith, length-take}
use Rattle.xa_xid.specs.declared.part.XidPart.TheInside.{Inside}

-- a part, and zeros after it up to 64 bytes
abbrev pub filled : List ℕ → List ℕ
filled part = part ++ replicate (64 - length part) 0

-- an array whose first bytes are a part, with zeros after it
pub record IsPart (len : ℕ) (bytes : List ℕ) : Type 0 where
  pub fits : len ≤ 64
  pub size : length bytes ≡ 64
  pub zeros : bytes ≡ filled (take len bytes)

-- the array and the number of its bytes are those of the part
pub filled_again : (len : ℕ) (bytes : List ℕ) → IsPart len bytes
    → ◌≡◌ {A = Inside} (record { len = length (take len bytes); bytes = filled (take len bytes) })
    (record { len = len; bytes = bytes })
filled_again len bytes h =
    let fits = h.fits in
    let size = h.size in
    let n : length (take len bytes) ≡ len = omega (arith, length-take len bytes) in
    ap (λ (k : ℕ). let p : Inside = record { len = k; bytes = filled (take len bytes) } in p) n
    ∙ ap (λ (bs : List ℕ). let p : Inside = record { len = len; bytes = bs } in p) (sym h.zeros)
