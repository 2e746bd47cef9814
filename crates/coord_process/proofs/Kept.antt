-- What a coordinator keeps, whatever it did.
use Rattle.std.proofs.Common.{◌≡◌, ◌≤◌, ◌∙◌, ◌+◌, ◌&&◌, if◌then◌else◌, inl, inr, ℕ, Bool, true, false, Option, Some, None, is_some, List, [], refl, sym, ap, arith}
use Rattle.std.proofs.lemmas.Bool.{cases_eq}
use Rattle.protocol.specs.declared.names.Case.{Case}
use Rattle.protocol.specs.declared.names.Kind.TheVariants.{Coordinator}
use Rattle.protocol.specs.declared.names.ProcessId.{ProcessId}
use Rattle.protocol.specs.declared.names.Ticket.{Ticket}
use Rattle.protocol.specs.declared.trees.TreeProcess.{TreeProcess}
use Rattle.protocol.specs.Names.{child_case, same_case}
use Rattle.protocol.specs.Restarts.{is_known}
use Rattle.protocol.specs.SameViews.{open_view}
use Rattle.protocol.proofs.NameTests.{case_tells}
use Rattle.case_table.specs.Known.{KnowsCases}
use Rattle.case_table.specs.Tables.{AreApart, entry_at, live_count, live_value}
use Rattle.case_table.proofs.Known.{knows}
use Rattle.case_table.proofs.Writes.{live_found}
use Rattle.log_records.specs.Sights.{LogSight, LogState}
use Rattle.log_text.specs.Forms.{log_form}
use Rattle.process_state.proofs.Wrote.{wrote_form}
use Rattle.coord_effects.specs.declared.effect.RowFrame.{RowFrame}
use Rattle.coord_effects.specs.Rows.{written_of}
use Rattle.coord_cases.specs.declared.held.Held.{Held}
use Rattle.coord_cases.specs.Cases.{GivesTicket, IsFreshTicket, Slots, held_view, ticket_in, view_in}
use Rattle.coord_cases.specs.Takes.{AreKnown, GivenAreActive, retired_if}
use Rattle.coord_process.specs.States.{CoordinatorValue, IsCoordinator, WritesOpened, own_ticket}
use Rattle.coord_process.specs.Turned.{WritesDown, framed_of}
use Rattle.coord_process.proofs.Opened.{none_given}

-- Active tickets.

-- the ticket that is given next is active for no case
pub fresh_ticket : (v : CoordinatorValue) → IsCoordinator v
    → IsFreshTicket v.slots (own_ticket v (v.given + 1))
fresh_ticket v kept d is =
    let clash : v.given + 1 ≤ v.given = kept.given d (v.given + 1) is in absurd (omega (arith, clash))

-- a ticket that is active after a row was active before it
pub active_before : (old new : Slots) (b : Bool) (c d : Case) (t : Ticket)
    → ticket_in new d ≡ retired_if b c d (ticket_in old d) → ticket_in new d ≡ Some t
    → ticket_in old d ≡ Some t
active_before old new b c d t retires is = by_ticket (ticket_in old d) (sym retires ∙ is)
  where
    by_ticket : (o : Option Ticket) → retired_if b c d o ≡ Some t → o ≡ Some t
    by_ticket None at = at
    by_ticket (Some u) at = by_test (b && same_case (child_case d.txn u) c) at
      where
        by_test : (k : Bool) → (if k then None else Some u) ≡ Some t → Some u ≡ Some t
        by_test true at = absurd (cc)
        by_test false at = at

-- the ticket that was given is the last one
pub given_after : (v : CoordinatorValue) (slots : Slots) (parent : Case) → IsCoordinator v
    → ticket_in slots parent ≡ Some (own_ticket v (v.given + 1))
    → ((d : Case) → same_case parent d ≡ false → ticket_in slots d ≡ ticket_in v.slots d)
    → (d : Case) (n : ℕ) → ticket_in slots d ≡ Some (own_ticket v n) → n ≤ v.given + 1
given_after v slots parent kept own others d n is = by_test (same_case parent d) refl
  where
    by_test : (b : Bool) → same_case parent d ≡ b → n ≤ v.given + 1
    by_test true same =
        let one : parent ≡ d = (case_tells parent d).0 same in
        let here : Some (own_ticket v (v.given + 1)) ≡ Some (own_ticket v n) =
        sym own ∙ ap (ticket_in slots) one ∙ is in
        let tickets : own_ticket v (v.given + 1) ≡ own_ticket v n = cc in
        let number : v.given + 1 ≡ n = ap (λ (t : Ticket). t.number) tickets in
        omega (arith, number)
    by_test false differs =
        let before : n ≤ v.given = kept.given d n (sym (others d differs) ∙ is) in omega (arith, before)

-- A row's record leaves the log of the same process.

pub written_form : (old new : LogState) (written : Option RowFrame) → WritesDown old new written
    → new.sight.form ≡ old.sight.form
written_form old new written writes =
    ap (λ (s : LogSight). s.form) writes.sight ∙ wrote_form old.sight (written_of written) (framed_of written)

-- A coordinator without cases.

-- a coordinator with its own log and no case keeps what it is to keep
pub none_given_yet : (v : CoordinatorValue) → v.log.sight.form ≡ log_form v.me Coordinator → v.slots ≡ []
    → IsCoordinator v
none_given_yet v form bare =
    record {
      form = form;
      active = λ k d p at is.
          let none : None ≡ Some p = sym (ap (λ (s : Slots). entry_at s k) bare) ∙ at in absurd (cc);
      known = λ k p at.
          let none : None ≡ Some p = sym (ap (λ (s : Slots). entry_at s k) bare) ∙ at in absurd (cc);
      given = λ d n is.
          let none : None ≡ Some (own_ticket v n) = sym (none_given d) ∙ sym (ap (λ s. ticket_in s d) bare)
          ∙ is in
          absurd (cc);
    }

pub opened_keeps : (me : ProcessId) (parent : Option ProcessId) (tree : List TreeProcess) (old new : LogState)
    (slots : Slots) → old.sight.form ≡ log_form me Coordinator → WritesOpened old new → slots ≡ []
    → IsCoordinator (record {
      me = me;
      parent = parent;
      tree = tree;
      log = new;
      boot = 1;
      begun = 0;
      given = 0;
      slots = slots;
    })
opened_keeps me parent tree old new slots form writes bare =
    none_given_yet (record {
      me = me;
      parent = parent;
      tree = tree;
      log = new;
      boot = 1;
      begun = 0;
      given = 0;
      slots = slots;
    }) (ap (λ (s : LogSight). s.form) writes.sight ∙ form) bare

-- A ticket that is given.

-- the case of a ticket that was given is active
pub given_active : (old new : Slots) (parent : Case) (t : Ticket) → GivenAreActive old
    → GivesTicket old new parent t
    → GivenAreActive new
given_active old new parent t active gives k d p at is =
    elim (cases_eq k gives.key) [
      | inl same ↦
          let entry : Some (child_case parent.txn t, record { given_for = Some parent; live = open_view })
          ≡ Some p =
          sym gives.updates.changed ∙ sym (ap (entry_at new) same) ∙ at in
          let held : (child_case parent.txn t, record { given_for = Some parent; live = open_view }) ≡ p = cc
          in
          ap (λ (q : Case × Held). q.1.live.standing) (sym held)
      | inr differs ↦ active k d p (sym (gives.updates.others k differs) ∙ at) is
    ]

-- of the case of a ticket that was given something is known
pub given_known : (old new : Slots) (parent : Case) (t : Ticket) → AreKnown old → GivesTicket old new parent t
    → AreKnown new
given_known old new parent t known gives k p at =
    elim (cases_eq k gives.key) [
      | inl same ↦
          let entry : Some (child_case parent.txn t, record { given_for = Some parent; live = open_view })
          ≡ Some p =
          sym gives.updates.changed ∙ sym (ap (entry_at new) same) ∙ at in
          let held : (child_case parent.txn t, record { given_for = Some parent; live = open_view }) ≡ p = cc
          in
          ap (λ (q : Case × Held). is_known q.1.live.standing) (sym held)
      | inr differs ↦ known k p (sym (gives.updates.others k differs) ∙ at)
    ]

-- How many cases are live.

-- where something is known of each live case, as many are known as are live
pub known_counted : (slots : Slots) → AreKnown slots → AreApart slots
    → KnowsCases (λ c. (view_in slots c).standing) (live_count slots)
known_counted slots known apart =
    knows slots (λ c. (view_in slots c).standing) apart (λ c. by_value c (live_value slots c) refl)
  where
    by_value : (c : Case) (o : Option Held) → live_value slots c ≡ o
        → is_known (held_view o).standing ≡ is_some o
    by_value c None e = refl
    by_value c (Some h) e = let there = live_found slots c h e in known there.0 (there.1, h) there.2
