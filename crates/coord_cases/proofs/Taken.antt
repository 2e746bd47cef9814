-- A row that a case of the table took, its ticket, and whether the case leaves the table.
use Rattle.std.proofs.Common.{◌≡◌, ◌≢◌, ◌⊎◌, ℕ, Bool, true, false, Option, None, Some, is_some, refl, subst, sym, ap, ◌∙◌, inl, inr, if◌then◌else◌}
use Rattle.std.proofs.lemmas.Bool.{cases_eq}
use Rattle.protocol.specs.declared.names.Case.{Case}
use Rattle.protocol.specs.declared.standings.Standing.TheVariants.{Active, Unknown}
use Rattle.protocol.specs.Names.{same_case}
use Rattle.protocol.specs.Restarts.{is_known}
use Rattle.protocol.specs.Standings.{CoordinatorView, unknown_view}
use Rattle.protocol.specs.SameViews.{SameView}
use Rattle.protocol.proofs.NameTests.{case_tells}
use Rattle.case_table.specs.Tables.{case_of, entry_at, is_of_case, live_value}
use Rattle.case_table.proofs.Writes.{live_found, same_case-itself}
use Rattle.process_state.proofs.Alike.{same_view}
use Rattle.coord_cases.specs.declared.held.Held.{Held}
use Rattle.coord_cases.specs.Cases.{EndsCase, Relives, Retires, Slots, is_for, live_at, live_of, ticket_in, view_in}
use Rattle.coord_effects.specs.declared.seat.OwnCase.{OwnCase}
use Rattle.coord_effects.specs.declared.effect.RowEffect.{RowEffect}
use Rattle.coord_effects.specs.Rows.{DoesRow, seat_meant}
use Rattle.coord_rows.specs.declared.asked.CaseInput.{CaseInput}
use Rattle.coord_rows.specs.Asks.{asked_row, is_of_root, is_retiring}
use Rattle.coord_cases.specs.Takes.{AreKnown, GivenAreActive, LetsCaseGo, RetiresIf, SameCases, TakesLive, TakesRowOf, retired_if}
use Rattle.coord_cases.proofs.Given.{given_retires, others_keep, unretired}
use Rattle.coord_cases.proofs.Standings.{stays_active}
use Rattle.coord_cases.proofs.Unknowns.{IsKnownOrGone, known_or_gone, nothing_known}

same_of : (v w : CoordinatorView) → v ≡ w → SameView v w
same_of v w same = subst (λ u. SameView v u) same (same_view v)

-- one entry is another
entry_is : (p q : Case × Held) → Some p ≡ Some q → p ≡ q
entry_is p q same = cc

view_is : (v w : CoordinatorView) → Some v ≡ Some w → v ≡ w
view_is v w same = cc

-- what is given after a row
abbrev given_if : Bool → Held → Option Case
given_if b h = if b then None else h.given_for

-- the case of the key stands so after a row; it is there, or it left the table
record Left (old new : Slots) (key : ℕ) (c : Case) (b : Bool) (h : Held)
    (behind : CoordinatorView) : Type 0 where
  pub held : Held
  pub live : held.live ≡ behind
  pub given : held.given_for ≡ given_if b h
  pub own : view_in new c ≡ behind
  pub others : (d : Case) → same_case c d ≡ false → view_in new d ≡ view_in old d
  pub tickets : (d : Case) → ticket_in new d ≡ retired_if b c d (ticket_in old d)
  pub elsewhere : (k : ℕ) → k ≢ key → entry_at new k ≡ entry_at old k
  pub here : (entry_at new key ≡ Some (c, held)) ⊎ (entry_at new key ≡ None)

-- the same, and it is there
record Stands (old new : Slots) (key : ℕ) (c : Case) (b : Bool) (h : Held)
    (behind : CoordinatorView) : Type 0 where
  pub left : Left old new key c b h behind
  pub at : entry_at new key ≡ Some (c, left.held)

module _ (old new : Slots) (key : ℕ) (c : Case) (h : Held) (behind : CoordinatorView)
    (was : entry_at old key ≡ Some (c, h)) (relives : Relives old new key h.live behind) where
  owner_is : relives.owner ≡ c
  owner_is = ap (λ (p : Case × Held). p.0) (entry_is (relives.owner, relives.held)
      (c, h) (sym relives.was ∙ was))

  held_is : relives.held ≡ h
  held_is = ap (λ (p : Case × Held). p.1) (entry_is (relives.owner, relives.held)
      (c, h) (sym relives.was ∙ was))

  relived_at : entry_at new key ≡ Some (c, record h { live = behind })
  relived_at = relives.updates.changed ∙ (λ i. Some (owner_is i, record (held_is i) { live = behind }))

  pub stood : view_in old c ≡ h.live
  stood = sym (ap (view_in old) owner_is) ∙ relives.stood

  relived : Stands old new key c false h behind
  relived =
      record {
        left = record {
          held = record h { live = behind };
          live = refl;
          given = refl;
          own = sym (ap (view_in new) owner_is) ∙ relives.moves.own;
          others = λ d differs. relives.moves.others d (ap (λ e. same_case e d) owner_is ∙ differs);
          tickets = λ d. relives.tickets d ∙ sym (unretired c d (ticket_in old d));
          elsewhere = relives.updates.others;
          here = inl relived_at;
        };
        at = relived_at;
      }

  relived_others : (d : Case) → same_case c d ≡ false → view_in new d ≡ view_in old d
  relived_others d differs = relives.moves.others d (ap (λ e. same_case e d) owner_is ∙ differs)

  same_views : SameView behind h.live → (d : Case) (b : Bool) → same_case c d ≡ b
      → SameView (view_in new d) (view_in old d)
  same_views same d true is =
      let one : c ≡ d = (case_tells c d).0 is in
      let before : view_in old d ≡ h.live = sym (ap (view_in old) one) ∙ stood in
      let later : view_in new d ≡ behind = sym (ap (view_in new) one)
      ∙ sym (ap (view_in new) owner_is) ∙ relives.moves.own in
      subst (λ v. SameView (view_in new d) v) (sym before) (subst (λ v. SameView v h.live) (sym later) same)
  same_views same d false is = same_of (view_in new d) (view_in old d) (relived_others d is)

  -- a refused row leaves a view that says the same
  pub refused : SameView behind h.live → SameCases old new
  refused same =
      record {
        views = λ d. same_views same d (same_case c d) refl;
        tickets = relives.tickets;
        given = λ active k d p at is.
            elim (cases_eq k key) [
              | inl here ↦
                  let one = entry_is (c, record h { live = behind }) p
                  (sym relived_at ∙ sym (ap (entry_at new) here) ∙ at) in
                  sym (ap (λ (q : Case × Held). q.1.live.standing) one) ∙ same.standing
                  ∙ active key d (c, h) was (ap (λ (q : Case × Held). is_for d q.1.given_for) one ∙ is)
              | inr differs ↦ active k d p (sym (relives.updates.others k differs) ∙ at) is
            ];
        known = λ known k p at.
            elim (cases_eq k key) [
              | inl here ↦
                  let one = entry_is (c, record h { live = behind }) p
                  (sym relived_at ∙ sym (ap (entry_at new) here) ∙ at) in
                  sym (ap (λ (q : Case × Held). is_known q.1.live.standing) one) ∙ ap is_known same.standing
                  ∙ known key (c, h) was
              | inr differs ↦ known k p (sym (relives.updates.others k differs) ∙ at)
            ];
        cases = λ k p at.
            elim (cases_eq k key) [
              | inl here ↦
                  let one = entry_is (c, record h { live = behind }) p
                  (sym relived_at ∙ sym (ap (entry_at new) here) ∙ at) in
                  ap (λ k. case_of (entry_at old k)) here ∙ ap case_of was
                  ∙ ap (λ (q : Case × Held). Some q.0) one
              | inr differs ↦ ap case_of (sym (relives.updates.others k differs) ∙ at)
            ];
      }

module _ (old mid new : Slots) (key : ℕ) (s : OwnCase) (asked : CaseInput) (effect : RowEffect)
    (live : TakesLive old mid key s asked effect) where
  stands_first : Stands old mid key s.case false live.held live.behind
  stands_first = relived old mid key s.case live.held live.behind live.was live.relives

  retired_first : Retires mid new key → Stands old new key s.case true live.held live.behind
  retired_first retires =
      let stands = stands_first in
      let one = entry_is (retires.owner, retires.held) (s.case, stands.left.held)
      (sym retires.was ∙ stands.at) in
      let owner : retires.owner ≡ s.case = ap (λ (p : Case × Held). p.0) one in
      let held : retires.held ≡ stands.left.held = ap (λ (p : Case × Held). p.1) one in
      let at : entry_at new key ≡ Some (s.case, record stands.left.held { given_for = None }) =
      retires.updates.changed ∙ (λ i. Some (owner i, record (held i) { given_for = None })) in
      let same : retires.held.given_for ≡ live.held.given_for =
      ap (λ (h : Held). h.given_for) held ∙ stands.left.given in
      record {
        left = record {
          held = record stands.left.held { given_for = None };
          live = stands.left.live;
          given = refl;
          own = retires.views s.case ∙ stands.left.own;
          others = λ d differs. retires.views d ∙ stands.left.others d differs;
          tickets = λ d. by_given retires same d (is_for d live.held.given_for) refl;
          elsewhere = λ k differs. retires.updates.others k differs ∙ stands.left.elsewhere k differs;
          here = inl at;
        };
        at = at;
      }
    where
      by_given : (retires : Retires mid new key) → retires.held.given_for ≡ live.held.given_for
          → (d : Case) (b : Bool) → is_for d live.held.given_for ≡ b
          → ticket_in new d ≡ retired_if true s.case d (ticket_in old d)
      by_given retires same d true is =
          retires.retired d (ap (is_for d) same ∙ is)
          ∙ sym (given_retires old live.fits live.apart key s.case live.held live.was d is)
      by_given retires same d false is =
          retires.tickets d (ap (is_for d) same ∙ is) ∙ live.relives.tickets d
          ∙ sym (others_keep old live.fits live.apart key s.case live.held live.was d is)

  stands_if : (b : Bool) → RetiresIf b mid new key → Stands old new key s.case b live.held live.behind
  stands_if true retires = retired_first retires
  stands_if false same = subst (λ slots. Stands old slots key s.case false live.held
      live.behind) (sym same) stands_first

module _ (old mid later new : Slots) (key : ℕ) (s : OwnCase) (asked : CaseInput) (effect : RowEffect)
    (live : TakesLive old mid key s asked effect)
    (active : GivenAreActive old) (root : is_of_root asked ≡ true → s.case.ticket ≡ None) where
  not_of_root : (d : Case) → is_for d live.held.given_for ≡ true → (b : Bool)
      → is_of_root asked ≡ b → b ≡ false
  not_of_root d is false of = refl
  not_of_root d is true of =
      let some : is_some s.case.ticket ≡ true = live.fits.ticketed key d (s.case, live.held) live.was is in
      sym (sym (ap is_some (root of)) ∙ some)

  -- a case whose ticket stays active stands Active
  still_active : is_retiring asked ≡ false → (d : Case) → is_for d live.held.given_for ≡ true
      → live.behind.standing ≡ Active
  still_active kept d is =
      live.does.view_is.standing
      ∙ stays_active (seat_meant s) asked live.held.live (active key d (s.case, live.held) live.was is) kept
      (not_of_root d is (is_of_root asked) refl)

  given_active : (b : Bool) → is_retiring asked ≡ b → (given : Option Case) → given ≡ given_if b live.held
      → (d : Case) → is_for d given ≡ true → live.behind.standing ≡ Active
  given_active true kept given e d is = let none : is_for d given ≡ false = ap (is_for d) e in absurd (cc)
  given_active false kept given e d is = still_active kept d (sym (ap (is_for d) e) ∙ is)

  ungiven : (given : Option Case) → given ≡ given_if (is_retiring asked) live.held
      → live.behind ≡ unknown_view → (d : Case) (b : Bool) → is_for d given ≡ b → b ≡ false
  ungiven given e gone d false is = refl
  ungiven given e gone d true is =
      let clash : Active ≡ Unknown = sym (given_active (is_retiring asked) refl given e d is)
      ∙ ap (λ (v : CoordinatorView). v.standing) gone in
      absurd (cc)

  ended : Stands old later key s.case (is_retiring asked) live.held live.behind → EndsCase later new key
      → live_at later key ≡ Some unknown_view
      → Left old new key s.case (is_retiring asked) live.held live.behind
  ended stands ends forgotten =
      let one = entry_is (ends.owner, ends.held) (s.case, stands.left.held) (sym ends.was ∙ stands.at) in
      let owner : ends.owner ≡ s.case = ap (λ (p : Case × Held). p.0) one in
      let held : ends.held ≡ stands.left.held = ap (λ (p : Case × Held). p.1) one in
      let view = view_is stands.left.held.live unknown_view (sym (ap live_of stands.at) ∙ forgotten) in
      let gone : live.behind ≡ unknown_view = sym stands.left.live ∙ view in
      let given : ends.held.given_for ≡ given_if (is_retiring asked) live.held =
      ap (λ (h : Held). h.given_for) held ∙ stands.left.given in
      record {
        held = stands.left.held;
        live = stands.left.live;
        given = stands.left.given;
        own = sym (ap (view_in new) owner) ∙ ends.moves.own ∙ sym gone;
        others = λ d differs. ends.moves.others d (ap (λ e. same_case e d) owner ∙ differs)
            ∙ stands.left.others d differs;
        tickets = λ d. ends.tickets d (ungiven ends.held.given_for given gone d (is_for d ends.held.given_for)
            refl) ∙ stands.left.tickets d;
        elsewhere = λ k differs. ends.updates.others k differs ∙ stands.left.elsewhere k differs;
        here = inr ends.updates.changed;
      }

  left_so : RetiresIf (is_retiring asked) mid later key → LetsCaseGo later new key
      → Left old new key s.case (is_retiring asked) live.held live.behind
  left_so retires (inl gone) = ended (stands_if old mid later key s asked effect live
      (is_retiring asked) retires) gone.0 gone.1
  left_so retires (inr stays) =
      subst (λ slots. Left old slots key s.case (is_retiring asked) live.held live.behind) (sym stays.0)
      (stands_if old mid later key s asked effect live (is_retiring asked) retires).left

  entry_left : (left : Left old new key s.case (is_retiring asked) live.held live.behind) (p : Case × Held)
      → entry_at new key ≡ Some p → (s.case, left.held) ≡ p
  entry_left left p at = by_here left.here
    where
      by_here : (entry_at new key ≡ Some (s.case, left.held)) ⊎
          (entry_at new key ≡ None) → (s.case, left.held) ≡ p
      by_here (inl there) = entry_is (s.case, left.held) p (sym there ∙ at)
      by_here (inr none) = let entry : None ≡ Some p = sym none ∙ at in absurd (cc)

  -- the case that the row leaves is known, or nothing is left of it
  left_known : AreKnown old → IsKnownOrGone live.behind
  left_known known =
      elim (known_or_gone (seat_meant s) asked live.held.live (known key (s.case, live.held) live.was)) [
        | inl is ↦ inl (ap is_known live.does.view_is.standing ∙ is)
        | inr gone ↦ inr (nothing_known live.behind (subst (SameView live.behind) gone live.does.view_is))
      ]

  -- where it is still there, it is known
  known_here : RetiresIf (is_retiring asked) mid later key → LetsCaseGo later new key → AreKnown old
      → (p : Case × Held) → entry_at new key ≡ Some p → is_known p.1.live.standing ≡ true
  known_here retires (inl ends) known p at =
      let clash : None ≡ Some p = sym ends.0.updates.changed ∙ at in absurd (cc)
  known_here retires (inr stays) known p at =
      let stands = stands_if old mid later key s asked effect live (is_retiring asked) retires in
      let one = entry_is (s.case, stands.left.held) p
      (sym stands.at ∙ sym (ap (λ slots. entry_at slots key) stays.0) ∙ at) in
      let is : p.1.live ≡ live.behind = sym (ap (λ (q : Case × Held). q.1.live) one) ∙ stands.left.live in
      ap (λ (v : CoordinatorView). is_known v.standing) is
      ∙ elim (left_known known) [
        | inl here ↦ here
        | inr gone ↦ absurd (stays.1 (ap live_of stands.at ∙ ap (λ v. Some v) (stands.left.live ∙ gone)))
      ]

  taken : Left old new key s.case (is_retiring asked) live.held live.behind
      → (view_in new s.case ≡ unknown_view → live_value new s.case ≡ None)
      → (AreKnown old → (p : Case × Held) → entry_at new key ≡ Some p → is_known p.1.live.standing ≡ true)
      → TakesRowOf old new s asked effect
  taken left gone here_known =
      record {
        does =
            subst (λ v. DoesRow s (asked_row (seat_meant s) asked (view_in old s.case)) effect v)
            (sym left.own)
            (subst (λ v. DoesRow s (asked_row (seat_meant s) asked v) effect live.behind)
            (sym (stood old mid key s.case live.held live.behind live.was live.relives)) live.does);
        others = left.others;
        tickets = left.tickets;
        gone = gone;
        given = λ k d p at is.
            elim (cases_eq k key) [
              | inl here ↦
                  let one = entry_left left p (sym (ap (entry_at new) here) ∙ at) in
                  sym (ap (λ (q : Case × Held). q.1.live.standing) one)
                  ∙ ap (λ (v : CoordinatorView). v.standing) left.live
                  ∙ given_active (is_retiring asked) refl left.held.given_for left.given d
                  (ap (λ (q : Case × Held). is_for d q.1.given_for) one ∙ is)
              | inr differs ↦ active k d p (sym (left.elsewhere k differs) ∙ at) is
            ];
        known = λ known k p at.
            elim (cases_eq k key) [
              | inl here ↦ here_known known p (sym (ap (entry_at new) here) ∙ at)
              | inr differs ↦ known k p (sym (left.elsewhere k differs) ∙ at)
            ];
        cases = λ k p at.
            elim (cases_eq k key) [
              | inl here ↦
                  let one = entry_left left p (sym (ap (entry_at new) here) ∙ at) in
                  ap (λ k. case_of (entry_at old k)) here ∙ ap case_of live.was
                  ∙ ap (λ (q : Case × Held). Some q.0) one
              | inr differs ↦ ap case_of (sym (left.elsewhere k differs) ∙ at)
            ];
      }

  -- a case whose key is empty is not live
  none_left : Left old new key s.case (is_retiring asked) live.held live.behind → entry_at new key ≡ None
      → (value : Option Held) → live_value new s.case ≡ value
      → value ≡ None
  none_left left empty None e = refl
  none_left left empty (Some h) e =
      let there = live_found new s.case h e in
      elim (cases_eq there.0 key) [
        | inl here ↦ let clash : None ≡ Some (there.1, h) = sym empty
            ∙ sym (ap (entry_at new) here) ∙ there.2 in absurd (cc)
        | inr differs ↦
            let stood : entry_at old there.0 ≡ Some (there.1, h) =
            sym (left.elsewhere there.0 differs) ∙ there.2 in
            absurd (differs (live.apart s.case there.0 key (ap (is_of_case s.case) stood ∙ there.3)
            (ap (is_of_case s.case) live.was ∙ same_case-itself s.case)))
      ]

  gone_so : RetiresIf (is_retiring asked) mid later key → LetsCaseGo later new key
      → Left old new key s.case (is_retiring asked) live.held live.behind
      → view_in new s.case ≡ unknown_view → live_value new s.case ≡ None
  gone_so retires (inl ends) left is = none_left left ends.0.updates.changed (live_value new s.case) refl
  gone_so retires (inr stays) left is =
      let stands = stands_if old mid later key s asked effect live (is_retiring asked) retires in
      absurd (stays.1 (ap live_of stands.at ∙ ap (λ v. Some v) (stands.left.live ∙ sym left.own ∙ is)))

  pub takes : RetiresIf (is_retiring asked) mid later key → LetsCaseGo later new key
      → TakesRowOf old new s asked effect
  takes retires goes =
      let left = left_so retires goes in
      taken left (gone_so retires goes left) (known_here retires goes)
