-- A row that was taken through a `&mut` to the live case.
use Rattle.std.proofs.Common.{◌≡◌, ℕ, Option, None, Some, Result, Ok, Err, IfOk, OnErr, refl, subst, sym, ap, ◌∙◌}
use Rattle.protocol.specs.declared.names.Case.{Case}
use Rattle.protocol.specs.Standings.{CoordinatorView}
use Rattle.protocol.specs.SameViews.{SameView}
use Rattle.case_table.specs.Tables.{AreApart, case_of, entry_at}
use Rattle.case_table.proofs.Writes.{live_at as value_of_case, same_case-itself}
use Rattle.coord_cases.specs.declared.held.Held.{Held}
use Rattle.coord_cases.specs.Cases.{FitsGiven, Slots, held_view, live_at, live_of, view_in}
use Rattle.coord_cases.specs.Lends.{with_live}
use Rattle.coord_cases.proofs.Changing.{Relives-with_live}
use Rattle.coord_effects.specs.declared.seat.OwnCase.{OwnCase}
use Rattle.coord_effects.specs.declared.effect.RowEffect.{RowEffect}
use Rattle.coord_effects.specs.Rows.{DoesRow, seat_meant}
use Rattle.coord_rows.specs.declared.asked.CaseInput.{CaseInput}
use Rattle.coord_rows.specs.Asks.{asked_row}
use Rattle.coord_cases.specs.Takes.{IsLiveAt, SameCases, TakesLive}
use Rattle.coord_cases.proofs.Taken.{refused}

-- what is held under the key
pub record HeldAt (slots : Slots) (key : ℕ) (c : Case) (v : CoordinatorView) : Type 0 where
  pub held : Held
  pub was : entry_at slots key ≡ Some (c, held)
  pub live : held.live ≡ v

entry_held : (slots : Slots) (key : ℕ) (c : Case) (v : CoordinatorView)
    (slot : Option (Case × Held)) → entry_at slots key ≡ slot
    → case_of slot ≡ Some c → live_of slot ≡ Some v → HeldAt slots key c v
entry_held slots key c v None at of is = absurd (cc)
entry_held slots key c v (Some p) at of is =
    let owner : p.0 ≡ c = cc in
    let live : p.1.live ≡ v = cc in
    record { held = p.1; was = at ∙ ap (λ d. Some (d, p.1)) owner; live = live }

pub held_at : (slots : Slots) (key : ℕ) (c : Case) (v : CoordinatorView) → IsLiveAt slots key c
    → live_at slots key ≡ Some v → HeldAt slots key c v
held_at slots key c v of is = entry_held slots key c v (entry_at slots key) refl of is

-- the case of a key stands as what is live there
pub view_here : (slots : Slots) (key : ℕ) (c : Case) (v : CoordinatorView) → AreApart slots
    → IsLiveAt slots key c
    → live_at slots key ≡ Some v → view_in slots c ≡ v
view_here slots key c v apart of is =
    let at = held_at slots key c v of is in
    ap held_view (value_of_case slots c key (c, at.held) apart at.was (same_case-itself c)) ∙ at.live

module _ (slots : Slots) (key : ℕ) (s : OwnCase) (asked : CaseInput) (v : CoordinatorView)
    (fits : FitsGiven slots)
    (apart : AreApart slots) (at : HeldAt slots key s.case v) where
  pub view_at : view_in slots s.case ≡ v
  view_at = ap held_view (value_of_case slots s.case key (s.case, at.held) apart at.was
      (same_case-itself s.case)) ∙ at.live

  pub takes_live : {E : Type 0} (behind : CoordinatorView) (made : Result RowEffect E)
      → IfOk made (λ effect. DoesRow s (asked_row (seat_meant s) asked v) effect behind)
      → IfOk made (λ effect. TakesLive slots (with_live slots key behind) key s asked effect)
  takes_live behind (Ok effect) does =
      record {
        held = at.held;
        was = at.was;
        fits = fits;
        apart = apart;
        behind = behind;
        relives = Relives-with_live slots key s.case at.held behind fits apart at.was;
        does = subst (λ w. DoesRow s (asked_row (seat_meant s) asked w) effect behind) (sym at.live) does;
      }
  takes_live behind (Err e) does = does

  pub refuses_live : {E : Type 0} (behind : CoordinatorView) (made : Result RowEffect E)
      → OnErr made (SameView behind v) → OnErr made (SameCases slots (with_live slots key behind))
  refuses_live behind (Ok effect) same = same
  refuses_live behind (Err e) same =
      refused slots (with_live slots key behind) key s.case at.held behind at.was
      (Relives-with_live slots key s.case at.held behind fits apart at.was)
      (subst (SameView behind) (sym at.live) same)
