-- `unseal` moves what the handle owns into a loose box.
use Rattle.std.proofs.Common.{◌≡◌, List, [], ◌∷◌, ◌++◌, refl, sym, subst, ap, ◌∙◌, Option, Some, None}
use mir.Raw.{raw as bare}
use Rattle.std.proofs.lemmas.Bool.{false≢true}
use mir.Val.{Val, vptr}
use base.Logic.{SProp, ent, emp, id⊢, never, fst∗}
use types.Logic.{sem}
use prog.Wp.{WpFn}
use types.Kit.{‵, raw, ◌⊛◌, ◌$◌, ◌∵◌, !, qed, by, move, keep, drop, split, fsplit, fjoin, suffices, use0, rewrite}
use types.Run.{stop, fld, of_opd, no_more, and_then, returns, enter}
use types.ByLocal.{alloc_all, pass_all, free_all, look_at, get, get_in, sets}
use types.Part.{agg, sub, whole}
use contract.Monad.{fact, fact_i}
use contract.Running.{tables}
use denote.RattleType.{owns}
use denote.Signature.{types_at, plain}
use denote.Memory.{lone}
use denote.RawPtr.{Ptr, block_ptr, null_ptr, ptr_val, in_a_block}
use denote.Steps.{nothing, heard}
use denote.Triple.Entry.{alive}
use denote.Triple.Walked.{Stays, stay_dropped, walk_of}
use Rattle.std.proofs.alloc.Calls.{Goes-blank, handle_tells}
use Rattle.std.proofs.raw_atomic.Walks.{proved_at, leaves}
use Rattle.std.specs.contracts.alloc.Global as global
use Rattle.std.proofs.alloc.Global.TheLaws as global_laws
use Rattle.std.specs.contracts.impls.GlobalAllocator.TheImpl.{ghosts}
use Rattle.held.proofs.Laid.{HeldRow, laid, heap as heap_al, laid_fits, put_together}
use Rattle.rstar_c.specs.Handles.{handle_owns}
use Rattle.std.specs.Option.{IsSome}
use Rattle.held.specs.Boxes.{heap}
use Rattle.linked_node.specs.contracts.kept.Kept as kept
use Rattle.rstar_c.specs.contracts.handle.Core as handle
use Rattle.rstar_c.proofs.CoreValues.{handle_val, handle_out}
use Rattle.rstar_c.specs.contracts.handle.Core.unseal.{ended, clauses}
use Rattle.rstar_c.specs.contracts.handle.Core.unseal.Key.{name as #self}
use Rattle.rstar_c.proofs.handle.Core.unseal.Statement.{statement}
use Rattle.rstar_c.proofs.handle.Core.unseal.Code as code

-- what is there
some_of : (A : Type 0) (m : Option A) → IsSome m → (x : A) × (m ≡ Some x)
some_of A (Some x) is = (x, refl)
some_of A None is = absurd (false≢true is)

pub unseal_spec : {M : Type 1} → statement M
unseal_spec 𝓤 𝓛 𝓜 𝓡 wired =
    let H = 𝓛.H
    in let 𝓣 = tables 𝓤 H 𝓜 𝓡 𝓡.env in let R = kept.the_row in let Z = global.the_row in let LZ = global_laws.the_row_laws in let En = ended in let c = clauses 𝓛 𝓜.mem 𝓡.returns in let fn = code.function in
    let hs : Stays En.signature.params En.kept = (
      stay_dropped (plain (λ _. handle.the_row)) En.kept.0,
      (stay_dropped (plain (λ _. Z)) En.kept.1.0, tt),
    ) in
    proved_at 𝓛 En hs c 𝓜 𝓡 (
      Goes-blank 𝓛 0 (plain (λ _. handle.the_row)) En.kept.0 (λ κs x f. tt),
      (Goes-blank 𝓛 0 (plain (λ _. Z)) En.kept.1.0 (λ κs x f. tt), tt),
    ) #self fn
    (code.unfolded 𝓤 H 𝓜 𝓡 wired) (λ z are.
    let v = z.0.3.0
    in let a = z.0.3.1.0 in let Post : Val → SProp 𝓤 = (walk_of 𝓛 En hs c).post z in let Run : List Val → SProp 𝓤 = λ ws. WpFn 𝓤 H 𝓣.C 𝓣.Λ fn ws Post in
    qed 𝓛 ((raw (alive 𝓛 En.signature z.0.0 z.0.1) ⊛ ‵
    (owns (types_at En.signature.params z.0.0) z.0.3 z.0.4)) ∷ raw (fact 𝓤 (IsSome v.node)) ∷ []) ∵ split
    ! $ move ! (2 ∷ []) $ heard ! (IsSome v.node) (λ is. move ! (1 ∷ []) $ fsplit ! $
    let found = some_of kept.the_row.Denot v.node is
    in let x = found.0 in let known : v.node ≡ Some x = found.1 in
    handle_out ! v z.0.4.0 (λ ev. rewrite ! 0
    (λ (m : Option kept.the_row.Denot). ‵ (handle_owns kept.the_row v.at m)) known refl $
    in_a_block ! v.at (λ (p : Ptr). handle_owns kept.the_row p (Some x))
    (fst∗ 𝓤 (never 𝓤) (sem 𝓛 (ghosts.dealloc_token heap (bare (lone R.mir)) null_ptr)))
    (λ b o e. move ! (1 ∷ []) $ fsplit ! $ handle_tells (heap_al R Z LZ ghosts) ! a
    z.0.4.1.0 (λ h eh fits.
    let ws : z.0.4.0 ≡ handle_val (block_ptr b o) ∷ [] = ev ∙ ap (λ (p : Ptr). handle_val p ∷ []) e
    in let made = laid_fits R Z LZ ghosts b o h fits in
    keep ! (0 ∷ 2 ∷ 3 ∷ []) $
    suffices ! (Run (handle_val (block_ptr b o) ∷ h ∷ []))
    (subst (λ (us : List Val). ent 𝓤 (Run (handle_val (block_ptr b o) ∷ h ∷ [])) (Run us))
    (sym (λ i. ws i ++ (eh i ++ []))) (id⊢ 𝓤 (Run (handle_val (block_ptr b o) ∷ h ∷ [])))) $
    enter ! 𝓣.C 𝓣.Λ fn (handle_val (block_ptr b o) ∷ h ∷ []) Post $ alloc_all !
    (λ l. pass_all ! refl ((tt, (tt, tt)), (fits, tt)) $
    sets ! (of_opd ! (get_in ! (fld ! refl (stop !)) (sub ! 0 refl (whole !)))) refl (tt, tt) $ sets !
    (of_opd ! (get ! refl)) refl (tt, tt) $
    sets ! (agg ! (and_then ! (get ! refl) (and_then ! (get ! refl) (no_more !)))) refl made $
    move ! (1 ∷ 0 ∷ []) $ put_together R Z LZ ghosts ! b o h a x $ use0 𝓛 (raw (fact 𝓤 (v.node ≡ Some x)))
    (fact_i 𝓤 (v.node ≡ Some x) (emp 𝓤) known) $ nothing ! $ nothing ! $ fjoin ! $ nothing ! $ fjoin ! $
    returns ! (look_at ! 0 refl) $ free_all ! refl $ keep ! (3 ∷ 0 ∷ 2 ∷ 1 ∷ []) $ by !
    (leaves 𝓛 En hs c z (laid (block_ptr b o) h) (record { at = block_ptr b o; alloc = a; value = x })
    (tt, (tt, tt)) (tt, (tt, tt)))))))))
