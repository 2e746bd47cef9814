-- How a `Loose` lies in a local: its pointer and its handle, which are taken apart and put together.
-- Assumes `Logic`.
use Rattle.std.proofs.Common.{◌≡◌, ℕ, List, [], ◌∷◌, ◌++◌, refl, subst}
use mathlib.Core.Bool.{true, ◌&&◌}
use lib.Dec.{T}
use seplogic.Ra.Ura.{Ura}
use mir.Syntax.{impl, tnil, dnil}
use mir.Raw.{raw as bare}
use mir.Val.{Val, vptr, vstruct, vcons, vnil, of_list, has_ty, WT}
use base.Logic.{never, fst∗}
use types.Logic.{Logic, sem}
use types.Kit.{Item, Goal, Seq, Step, step, ‵, ◌$◌, move, drop, fsplit, fjoin, fpick, fpack, feq_i, feq_l}
use denote.RattleType.{RattleType, Valss}
use denote.Builtin.{RawPtr}
use denote.Memory.{lone}
use denote.RawPtr.{Ptr, block_ptr, null_ptr, ptr_val, in_a_block}
use denote.Steps.{nothing}
use denote.Param.{layout}
use denote.Param.Laws.{Laws}
use denote.Struct.Struct.{within}
use denote.Struct.Owning.{shape}
use Rattle.core.specs.declared.alloc.Allocator.{Ghosts}
use Rattle.core.proofs.alloc.Calls.{Al, handle_tells}
use Rattle.core.proofs.cell.Inside.{Good}
use Rattle.std_alloc.specs.Box.Ownership.{box_owns}
use Rattle.std_alloc.proofs.ResultValues.{and_tt}
use Rattle.held.specs.contracts.loose.Loose as loose

-- a pointer beside a handle of the allocator
abbrev pub laid : Ptr → Val → Val
laid p handle = vstruct (vcons (ptr_val p) (vcons handle vnil))

module _ (R A : RattleType) (LA : Laws A) (g : Ghosts A.Denot) where
  abbrev pub HeldRow : RattleType
  HeldRow = loose.the_row R A g

  abbrev pub heap : Al
  heap = record { row = A; laws = LA; g = g; d = impl [] tnil dnil; drops = impl [] tnil dnil }

  -- it is of its type if the handle is
  pub laid_fits : (b o : ℕ) (handle : Val) → Good (layout A) handle
      → T (has_ty (layout A) handle && true) × WT (laid (block_ptr b o) handle)
  laid_fits b o handle good = (and_tt (has_ty (layout A) handle) good.0, (tt, (good.1, tt)))

  module _ {M : Type 1} {𝓤 : Ura M} {𝓛 : Logic 𝓤} {K : Type 0} {Γ : List (Item 𝓤)} {G : Goal 𝓤 𝓛.H} where
    -- what the holder of a `Loose` has: what a box at its pointer owns, which is not null, and the handle
    pub take_apart : K → (l : HeldRow.Denot) (vs : List Val)
        → ((b o : ℕ) (handle : Val) → l.at ≡ block_ptr b o → vs ≡ laid (block_ptr b o) handle ∷ []
        → Good (layout A) handle
        → Seq K 𝓛 (‵ (box_owns (g.dealloc_token l.alloc) R (block_ptr b o) l.value) ∷ ‵ (A.own_val l.alloc
        (handle ∷ [])) ∷ Γ) G)
        → Seq K 𝓛 (‵ (HeldRow.own_val l vs) ∷ Γ) G
    take_apart t l vs goes =
        fsplit t $ fpick t (λ parts. fsplit t $ feq_l t (λ whole. fsplit t $ feq_l t (λ at_is. fsplit t $
        handle_tells heap t l.alloc parts.1.0 (λ handle handle_is good. move t (1 ∷ []) $ drop t $
        move t (1 ∷ []) $
        in_a_block t l.at (λ p. box_owns (g.dealloc_token l.alloc) R p l.value)
        (fst∗ 𝓤 (never 𝓤) (sem 𝓛 (g.dealloc_token l.alloc (bare (lone R.mir)) null_ptr))) (λ b o is_block.
        let of_handle = λ (ws : List Val). vs ≡ vstruct (of_list (ptr_val l.at ∷ (ws ++ []))) ∷ [] in
        let of_place = λ (ws : List Val). vs ≡ vstruct (of_list (ws ++ (parts.1.0 ++ []))) ∷ [] in
        let of_block = λ (p : Ptr). vs ≡ laid p handle ∷ [] in
        goes b o handle is_block
        (subst of_block is_block (subst of_handle handle_is (subst of_place at_is whole))) good)))))

    -- and the way back
    pub put_together : K → (b o : ℕ) (handle : Val) (a : A.Denot) (x : R.Denot)
        → Step K 𝓛 (‵ (HeldRow.own_val (record { at = block_ptr b o; alloc = a; value = x })
        (laid (block_ptr b
        o) handle ∷ [])) ∷ Γ) G
        (‵ (box_owns (g.dealloc_token a) R (block_ptr b o) x) ∷ ‵ (A.own_val a (handle ∷ [])) ∷ Γ) G
    put_together t b o handle a x = step (λ rest.
        let p : Ptr = block_ptr b o in let whole : Val = laid p handle in
        nothing t $ move t (2 ∷ 0 ∷ []) $ fjoin t $
        feq_i t (List Val) (ptr_val p ∷ []) (ptr_val p ∷ []) refl $ fjoin t $
        feq_i t (List Val) (whole ∷ []) (whole ∷ []) refl $ fjoin t $
        fpack t (Valss (RawPtr ∷ A ∷ [])) (within (shape (loose.the_type R A g)) (p, (a, tt)) (whole ∷ []))
        (ptr_val p ∷ [], (handle ∷ [], tt)) $
        fjoin t $ rest)
