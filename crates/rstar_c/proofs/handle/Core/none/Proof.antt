-- `none` owns nothing.
use Rattle.std.proofs.Common.{◌≡◌, List, [], ◌∷◌, refl, lit<}
use Rattle.std.proofs.Common.{Option, None}
use mir.Val.{Val}
use base.Logic.{SProp, emp}
use prog.Wp.{WpFn}
use types.Kit.{‵, raw, ◌⊛◌, ◌$◌, ◌∵◌, !, qed, by, keep, split, use0}
use types.Run.{lit, no_more, and_then, returns, enter}
use types.ByLocal.{alloc_all, pass_all, free_all, look_at, sets}
use types.Part.{agg}
use contract.Monad.{fact, fact_i}
use contract.Running.{tables}
use denote.RattleType.{owns}
use denote.Signature.{types_at}
use denote.RawPtr.{null_ptr}
use denote.Steps.{nothing}
use denote.Triple.Entry.{alive}
use denote.Triple.Walked.{walk_of}
use Rattle.std.proofs.raw_atomic.Walks.{proved_at, leaves}
use Rattle.linked_node.specs.contracts.kept.Kept as kept
use Rattle.rstar_c.proofs.CoreValues.{handle_val, handle_in}
use Rattle.rstar_c.specs.contracts.handle.Core.none.{ended, clauses}
use Rattle.rstar_c.specs.contracts.handle.Core.none.Key.{name as #self}
use Rattle.rstar_c.proofs.handle.Core.none.Statement.{statement}
use Rattle.rstar_c.proofs.handle.Core.none.Code as code

pub none_spec : {M : Type 1} → statement M
none_spec 𝓤 𝓛 𝓜 𝓡 wired =
    let H = 𝓛.H
    in let 𝓣 = tables 𝓤 H 𝓜 𝓡 𝓡.env in let En = ended in let c = clauses 𝓛 𝓜.mem 𝓡.returns in let fn = code.function in
    proved_at 𝓛 En tt c 𝓜 𝓡 tt #self fn (code.unfolded 𝓤 H 𝓜 𝓡 wired) (λ z are.
    let Post : Val → SProp 𝓤 = (walk_of 𝓛 En tt c).post z in let N : Option kept.the_row.Denot = None in
    qed 𝓛 ((raw (alive 𝓛 En.signature z.0.0 z.0.1) ⊛ ‵
    (owns (types_at En.signature.params z.0.0) z.0.3 z.0.4)) ∷ raw ((c z.0.0 z.0.3).requires z.1) ∷ []) ∵
    split ! $ keep ! (0 ∷ []) $
    enter ! 𝓣.C 𝓣.Λ fn [] Post $ alloc_all ! (λ l. pass_all ! refl tt $
    sets ! (agg ! (and_then ! (lit ! tt) (no_more !))) refl (tt, (record { fits = lit< tt }, tt)) $
    nothing ! $ handle_in ! null_ptr N $ use0 𝓛 (raw (fact 𝓤 (N ≡ N)))
    (fact_i 𝓤 (N ≡ N) (emp 𝓤) refl) $ nothing ! $
    returns ! (look_at ! 0 refl) $ free_all ! refl $ keep ! (3 ∷ 0 ∷ 2 ∷ 1 ∷ []) $ by !
    (leaves 𝓛 En tt c z (handle_val null_ptr) (record { at = null_ptr; node = N }) tt tt)))
