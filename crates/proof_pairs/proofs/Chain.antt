-- The chain from the root down, by induction over the pairs of a path.
use Rattle.std.proofs.Common.{◌≡◌, ◌⊎◌, ◌∙◌, true, false, List, [], ◌∷◌, arith}
use Rattle.proof_pairs.specs.Reading.{Reading, is_live}
use Rattle.proof_pairs.specs.Standing.{Consents, IsInDoubt}
use Rattle.proof_pairs.specs.Invariant.{PresumedAbort, PresumedCommit, Common}
use Rattle.proof_pairs.specs.Chain.{IsBelow, IsPath, AllHave, HasConsented, ChildHasConsented, RootCommits, AllMayCommit, AllConsent, Chain, ToldFromAbove}
use Rattle.proof_pairs.proofs.Promises.{true_commit, abort_refuses, refused_parent}

pub consented : (r : Reading) → Common r → r.outcome ≡ true → r.took_part_up ≡ true → (r.refused ≡ false)
    × Consents r
consented r h o u = h.participant_consented o u

pub down : (r : Reading) → Common r → r.refused ≡ false → Consents r
    → (r.parent_is_root ≡ true → r.outcome ≡ true) → r.took_part_up ≡ true → r.took_part ≡ true
    → (r.child_refused ≡ false) × ((r.prepared_ever ≡ true) ⊎ (r.sent_read ≡ true))
down r h f c o u t = grind arith

pub next : (above below : Reading) → Common above → IsBelow above below → HasConsented above
    → (above.parent_is_root ≡ true → above.outcome ≡ true) → below.took_part_up ≡ true
    → (below.refused ≡ false) × Consents below
next above below h b c o u = grind arith

pub decided : (above below : Reading) → Common above → IsBelow above below → RootCommits above
    → below.took_part_up ≡ true → (below.refused ≡ false) × Consents below
decided above below h b c u = grind arith

pub not_root : (r : Reading) → r.parent_is_root ≡ false → r.parent_is_root ≡ true → r.outcome ≡ true
not_root r f t = cc

pub asked : (above below : Reading) → Common above → IsBelow above below → above.sent_prepare ≡ true
    → below.took_part_up ≡ true
asked above below h b e = grind arith

pub undecided : (r : Reading) → Common r → is_live r.phase ≡ true → r.took_part_up ≡ true
    → r.outcome ≡ false
undecided r h l u = grind arith

pub waits : (above below : Reading) → Common above → IsBelow above below → below.own_prepare_kept ≡ true
    → below.commit_kept ≡ false → below.abort_kept ≡ false → IsInDoubt above
waits above below h b p c a = grind arith

-- PresumedAbort.

pub abort_down : (r : Reading) → PresumedAbort r → HasConsented r
    → (r.parent_is_root ≡ true → r.outcome ≡ true) → ChildHasConsented r
abort_down r h c o u t = down r h.common (c u).0 (c u).1 o u t

pub abort_next : (above below : Reading) → PresumedAbort above → IsBelow above below → HasConsented above
    → (above.parent_is_root ≡ true → above.outcome ≡ true) → HasConsented below
abort_next above below h b c o u = next above below h.common b c o u

pub abort_all_consented : (r : Reading) (rest : List Reading) → IsPath r rest → PresumedAbort r
    → AllHave PresumedAbort rest → r.outcome ≡ true → AllConsent (r ∷ rest)
abort_all_consented r [] p h a o = (abort_down r h (λ u. consented r h.common o u) (λ _. o), tt)
abort_all_consented r (s ∷ rest) p h a o = (
  abort_down r h (λ u. consented r h.common o u) (λ _. o),
  abort_all_consented s rest p.1 a.0 a.1
      (p.0.outcome ∙ o),
)

pub abort_may_commit_below : (r : Reading) (rest : List Reading) → IsPath r rest → PresumedAbort r
    → AllHave PresumedAbort rest → HasConsented r → (r.parent_is_root ≡ true → r.outcome ≡ true)
    → AllMayCommit rest
abort_may_commit_below r [] p h a c o = tt
abort_may_commit_below r (s ∷ rest) p h a c o =
    let below = abort_next r s h p.0 c o in (
      record {
        cascaded = p.0.cascaded;
        consented = below;
      },
      abort_may_commit_below s rest p.1 a.0 a.1 below (not_root s p.0.cascaded),
    )

pub abort_all_may_commit : (r : Reading) (rest : List Reading) → IsPath r rest → PresumedAbort r
    → AllHave PresumedAbort rest → RootCommits r → AllMayCommit rest
abort_all_may_commit r [] p h a c = tt
abort_all_may_commit r (s ∷ rest) p h a c =
    let below = decided r s h.common p.0 c in (
      record {
        cascaded = p.0.cascaded;
        consented = below;
      },
      abort_may_commit_below s rest p.1 a.0 a.1 below (not_root s p.0.cascaded),
    )

pub abort_chain : Chain PresumedAbort
abort_chain = record {
  consent_goes_down = abort_down;
  all_consented = abort_all_consented;
  all_may_commit = abort_all_may_commit;
}

pub abort_told : ToldFromAbove PresumedAbort
abort_told = record {
  asked_takes_part = λ above below h b e. asked above below h.common b e;
  accepting_is_undecided = λ above h l u. undecided above h.common l u;
  commit_is_true = λ above below h b c d. b.outcome ∙ true_commit above h.common c d;
  abort_is_true = λ above below h b a d. let both = abort_refuses above h.common a d in b.outcome ∙
      refused_parent above h.common both.0 both.1;
  waiting_is_in_doubt = λ above below h b p c a. waits above below h.common b p c a;
}

-- PresumedCommit.

pub commit_down : (r : Reading) → PresumedCommit r → HasConsented r
    → (r.parent_is_root ≡ true → r.outcome ≡ true) → ChildHasConsented r
commit_down r h c o u t = down r h.common (c u).0 (c u).1 o u t

pub commit_next : (above below : Reading) → PresumedCommit above → IsBelow above below → HasConsented above
    → (above.parent_is_root ≡ true → above.outcome ≡ true) → HasConsented below
commit_next above below h b c o u = next above below h.common b c o u

pub commit_all_consented : (r : Reading) (rest : List Reading) → IsPath r rest → PresumedCommit r
    → AllHave PresumedCommit rest → r.outcome ≡ true → AllConsent (r ∷ rest)
commit_all_consented r [] p h a o = (commit_down r h (λ u. consented r h.common o u) (λ _. o), tt)
commit_all_consented r (s ∷ rest) p h a o = (
  commit_down r h (λ u. consented r h.common o u) (λ _. o),
  commit_all_consented s rest p.1 a.0 a.1
      (p.0.outcome ∙ o),
)

pub commit_may_commit_below : (r : Reading) (rest : List Reading) → IsPath r rest → PresumedCommit r
    → AllHave PresumedCommit rest → HasConsented r → (r.parent_is_root ≡ true → r.outcome ≡ true)
    → AllMayCommit rest
commit_may_commit_below r [] p h a c o = tt
commit_may_commit_below r (s ∷ rest) p h a c o =
    let below = commit_next r s h p.0 c o in (
      record {
        cascaded = p.0.cascaded;
        consented = below;
      },
      commit_may_commit_below s rest p.1 a.0 a.1 below (not_root s p.0.cascaded),
    )

pub commit_all_may_commit : (r : Reading) (rest : List Reading) → IsPath r rest → PresumedCommit r
    → AllHave PresumedCommit rest → RootCommits r → AllMayCommit rest
commit_all_may_commit r [] p h a c = tt
commit_all_may_commit r (s ∷ rest) p h a c =
    let below = decided r s h.common p.0 c in (
      record {
        cascaded = p.0.cascaded;
        consented = below;
      },
      commit_may_commit_below s rest p.1 a.0 a.1 below (not_root s p.0.cascaded),
    )

pub commit_chain : Chain PresumedCommit
commit_chain = record {
  consent_goes_down = commit_down;
  all_consented = commit_all_consented;
  all_may_commit = commit_all_may_commit;
}

pub commit_told : ToldFromAbove PresumedCommit
commit_told = record {
  asked_takes_part = λ above below h b e. asked above below h.common b e;
  accepting_is_undecided = λ above h l u. undecided above h.common l u;
  commit_is_true = λ above below h b c d. b.outcome ∙ true_commit above h.common c d;
  abort_is_true = λ above below h b a d. let both = abort_refuses above h.common a d in b.outcome ∙
      refused_parent above h.common both.0 both.1;
  waiting_is_in_doubt = λ above below h b p c a. waits above below h.common b p c a;
}
