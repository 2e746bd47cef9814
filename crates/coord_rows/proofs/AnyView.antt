-- A row that is the same for each view.
use Rattle.std.proofs.Common.{◌≡◌, Result, Ok, Err, IfOk, subst, sym}
use Rattle.protocol.specs.Standings.{CoordinatorView}
use Rattle.protocol.specs.CoordinatorRows.{Row}
use Rattle.coord_effects.specs.declared.seat.OwnCase.{OwnCase}
use Rattle.coord_effects.specs.declared.effect.RowEffect.{RowEffect}
use Rattle.coord_effects.specs.Rows.{DoesRow}

-- what does a row whatever the view, does it in this view
pub at_view : {E : Type 0} (s : OwnCase) (row : CoordinatorView → Row) (met : Row) (v : CoordinatorView)
    (made : Result RowEffect E) → met ≡ row v
    → IfOk made (λ effect. (view : CoordinatorView) → DoesRow s (row view) effect view)
    → IfOk made (λ effect. DoesRow s met effect v)
at_view s row met v (Ok effect) same does = subst (λ r. DoesRow s r effect v) (sym same) (does v)
at_view s row met v (Err e) same does = does
