-- A known branch moves by its index: its state is written there, or it is taken out.
use Rattle.std.proofs.Common.{◌≡◌, ◌≢◌, ℕ, Option, false, List, [], ◌∷◌, Some, None, refl, ap, sym, ◌∙◌, arith, position, slice_get, remove}
use Rattle.std.specs.Prelude.{unwrap_or, IfSome}
use Rattle.std.specs.Map.{keys_of, lookup, remove_entry}
use Rattle.indexmap.specs.IndexMap.{IndexMap, Updates, insert_entry, set_value_at}
use Rattle.indexmap.proofs.MapLemmas.{Found-position, insert_entry-first, remove_entry-first}
use Rattle.xa_tables.specs.declared.states.BranchState.{BranchState}
use Rattle.xa_tables.specs.declared.states.BranchState.TheVariants.{S0, S1, S2, S3, S4, S5}
use Rattle.xa_xid.specs.declared.xid.Xid.{Xid}
use Rattle.xa_branch.specs.Branches.{BranchList, BranchMoves, placed}
use Rattle.xa_branch.specs.Names.{same}
use Rattle.few_keys.proofs.Places.{taken_at}
use Rattle.xa_branch.proofs.Names.{same_is, same_refl, same_flips}

placed_kept : (bs : List (Xid × BranchState)) (x : Xid) (s : BranchState) → s ≢ S0
    → placed bs x s ≡ insert_entry same bs x s
placed_kept bs x S0 n = absurd (n refl)
placed_kept bs x S1 n = refl
placed_kept bs x S2 n = refl
placed_kept bs x S3 n = refl
placed_kept bs x S4 n = refl
placed_kept bs x S5 n = refl

own : (bs : List (Xid × BranchState)) (x : Xid) (s : BranchState)
    → lookup (same x) (insert_entry same bs x s) ≡ Some s
own [] x s = grind (arith, same_refl x)
own (e ∷ bs) x s = grind (arith, own bs x s)

others : (bs : List (Xid × BranchState)) (x y : Xid) (s : BranchState) → same x y ≡ false
    → lookup (same y) (insert_entry same bs x s) ≡ lookup (same y) bs
others [] x y s apart = grind (arith, same_flips x y apart)
others (e ∷ bs) x y s apart = grind (arith, others bs x y s apart, same_is x e.0, same_flips x y apart)

-- a state is written at the index of a branch: the branch moves
pub moves_at : (old new : BranchList) (x : Xid) (i : ℕ) (s : BranchState) → s ≢ S0
    → position (same x) (keys_of old.branches) ≡ Some i → new.branches ≡ set_value_at old.branches i s
    → new.scans ≡ old.scans → BranchMoves old new x s
moves_at old new x i s stays at written scans =
    let put : new.branches ≡ insert_entry same old.branches x s = written
    ∙ sym (insert_entry-first same x s old.branches i (Found-position (same x) old.branches i at).first) in
    record {
      order = put ∙ sym (placed_kept old.branches x s stays);
      own = ap (λ bs. unwrap_or (lookup (same x) bs) S0) put
          ∙ ap (λ o. unwrap_or o S0) (own old.branches x s);
      others = λ y apart. ap (λ bs. unwrap_or (lookup (same y) bs) S0) put
          ∙ ap (λ o. unwrap_or o S0) (others old.branches x y s apart);
      scans = scans;
    }

-- the entry at the index of a branch is taken out: the branch is no longer known
pub goes_at : {H : Type 0} (m n : IndexMap Xid BranchState H) (old new : BranchList) (x : Xid) (i : ℕ)
    (r : Option (Xid × BranchState)) → old.branches ≡ m.entries → new.branches ≡ n.entries
    → position (same x) (keys_of old.branches) ≡ Some i → r ≡ slice_get m.entries i
    → n.entries ≡ remove m.entries i → IfSome r (λ e. Updates same m n e.0 None) → new.scans ≡ old.scans
    → BranchMoves old new x S0
goes_at m n old new x i r before behind at is removed out scans =
    let place : position (same x) (keys_of m.entries) ≡ Some i = rw (← before) at in
    let gone = taken_at same same_is m n x i r place is out in
    record {
      order = behind ∙ removed
          ∙ sym (remove_entry-first (same x) m.entries i (Found-position (same x) m.entries i place).first)
          ∙ ap (remove_entry (same x)) (sym before);
      own = ap (λ bs. unwrap_or (lookup (same x) bs) S0) behind ∙ ap (λ o. unwrap_or o S0) gone.1;
      others = λ y apart. ap (λ bs. unwrap_or (lookup (same y) bs) S0) behind
          ∙ ap (λ o. unwrap_or o S0) (gone.2 y apart)
          ∙ ap (λ bs. unwrap_or (lookup (same y) bs) S0) (sym before);
      scans = scans;
    }
