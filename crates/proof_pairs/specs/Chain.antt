-- How the pairs of a tree hang together: the child of one pair is the parent of the next.
use Rattle.std.specs.Prelude.{◌≡◌, true, false, ◌⊎◌, ◌&&◌, List, [], ◌∷◌}
use Rattle.proof_pairs.specs.Reading.{Reading, is_live}
use Rattle.proof_pairs.specs.Standing.{Consents, IsInDoubt}
use Rattle.proof_pairs.specs.RootMoves.{MayDecide}
use Rattle.proof_pairs.specs.CascadedMoves.{MayCommitAbove}

-- One cascaded coordinator, seen from the pair above as a child and from the pair below as a parent: the same
-- process, the same case, the same records.
pub record IsBelow (above below : Reading) : Type 0 where
  pub coordinator : above.child_is_manager ≡ false
  pub cascaded : below.parent_is_root ≡ false
  pub outcome : below.outcome ≡ above.outcome
  pub failed : below.failed ≡ above.child_failed
  pub born : below.born ≡ above.issued
  pub live : is_live below.phase ≡ above.ticket_open
  pub takes_part : below.took_part_up ≡ (above.took_part && above.took_part_up)
  pub refused : below.refused ≡ above.child_refused
  pub read : below.read_up ≡ above.sent_read
  pub promise_kept : below.own_prepare_kept ≡ above.prepared_kept
  pub promise_forced : below.own_prepare_forced ≡ above.prepared_forced
  pub promise_ever : below.own_prepare_ever ≡ above.prepared_ever
  pub commit_kept : below.commit_kept ≡ above.learnt_commit_kept
  pub commit_forced : below.commit_forced ≡ above.learnt_commit_forced
  pub abort_kept : (below.abort_kept && below.own_prepare_kept) ≡ above.learnt_abort_kept
  pub no_heuristic : above.heuristic_kept ≡ false
  pub no_forgot : above.forgot_kept ≡ false

-- The pairs from one case downward, each below the one before.
abbrev pub IsPath : Reading → List Reading → Type 0
IsPath above [] = Unit {0}
IsPath above (below ∷ rest) = IsBelow above below × IsPath below rest

-- Each pair of a list has the invariant.
abbrev pub AllHave : (Reading → Type 0) → List Reading → Type 0
AllHave Inv [] = Unit {0}
AllHave Inv (r ∷ rest) = Inv r × AllHave Inv rest

-- The parent's case, if it takes part, has consented to a commit and has not ended otherwise.
abbrev pub HasConsented : Reading → Type 0
HasConsented r = r.took_part_up ≡ true → (r.refused ≡ false) × Consents r

-- The ticket, if it takes part, has consented: it promised, or it is read-only and settled.
abbrev pub ChildHasConsented : Reading → Type 0
ChildHasConsented r = r.took_part_up ≡ true → r.took_part ≡ true → (r.child_refused ≡ false)
    × ((r.prepared_ever ≡ true) ⊎ (r.sent_read ≡ true))

-- The root's Commit reaches the forced front: the root decides, or a Commit that a fault left unforced is
-- forced later.
abbrev pub RootCommits : Reading → Type 0
RootCommits r = MayDecide r ⊎ ((r.parent_is_root ≡ true) × (r.commit_kept ≡ true))

-- Every pair of a list may learn that the root has committed.
abbrev pub AllMayCommit : List Reading → Type 0
AllMayCommit [] = Unit {0}
AllMayCommit (r ∷ rest) = MayCommitAbove r × AllMayCommit rest

-- Every ticket of a list that takes part has consented.
abbrev pub AllConsent : List Reading → Type 0
AllConsent [] = Unit {0}
AllConsent (r ∷ rest) = ChildHasConsented r × AllConsent rest

-- The chain, under one presumption.
pub record Chain (Inv : Reading → Type 0) : Type 0 where
  -- A case that consented has children that consented.
  pub consent_goes_down : (r : Reading) → Inv r → HasConsented r
      → (r.parent_is_root ≡ true → r.outcome ≡ true) → ChildHasConsented r
  -- Where the outcome is commit, every ticket down the tree that takes part has consented.
  pub all_consented : (r : Reading) (rest : List Reading) → IsPath r rest → Inv r → AllHave Inv rest
      → r.outcome ≡ true → AllConsent (r ∷ rest)
  -- As the root commits, every pair below may make the move that this makes there.
  pub all_may_commit : (r : Reading) (rest : List Reading) → IsPath r rest → Inv r → AllHave Inv rest
      → RootCommits r → AllMayCommit rest

-- What the pair above tells the pair below: the guards of its moves that speak of what is above.
pub record ToldFromAbove (Inv : Reading → Type 0) : Type 0 where
  -- PREPARE came: the case takes part.
  pub asked_takes_part : (above below : Reading) → Inv above → IsBelow above below
      → above.sent_prepare ≡ true → below.took_part_up ≡ true
  -- The case above is Active and takes part: the transaction is undecided.
  pub accepting_is_undecided : (above : Reading) → Inv above → is_live above.phase ≡ true
      → above.took_part_up ≡ true → above.outcome ≡ false
  -- COMMIT, or ABORT, found the case in doubt.
  pub commit_is_true : (above below : Reading) → Inv above → IsBelow above below → above.sent_commit ≡ true
      → IsInDoubt above → below.outcome ≡ true
  pub abort_is_true : (above below : Reading) → Inv above → IsBelow above below → above.sent_abort ≡ true
      → IsInDoubt above → below.outcome ≡ false
  -- Prepared below is in doubt above.
  pub waiting_is_in_doubt : (above below : Reading) → Inv above → IsBelow above below
      → below.own_prepare_kept ≡ true → below.commit_kept ≡ false → below.abort_kept ≡ false
      → IsInDoubt above
