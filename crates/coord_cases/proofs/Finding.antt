-- What is found among the live cases.
use Rattle.std.proofs.Common.{◌≡◌, Bool, true, false, Option, None, Some, refl, sym, ap, ◌∙◌, ℕ}
use Rattle.std.specs.Fn.{FnReturnsAt, Shared}
use Rattle.std.specs.Borrow.{Bor}
use Rattle.protocol.specs.declared.names.Case.{Case}
use Rattle.protocol.specs.declared.names.Ticket.{Ticket}
use Rattle.protocol.specs.declared.names.Txn.{Txn}
use Rattle.protocol.specs.Names.{same_txn}
use Rattle.case_table.specs.Tables.{AreApart, FindsBy, entry_at, live_value}
use Rattle.case_table.proofs.Writes.{live_at, same_case-itself}
use Rattle.coord_cases.specs.declared.held.Held.{Held}
use Rattle.coord_cases.specs.Cases.{FindsChild, FitsGiven, Slots, entry_ticket, has_child, held_view, is_for, is_given, ticket_in}
use Rattle.coord_cases.proofs.Tickets.{ticket_is, ticket_none}

-- a live value of the transaction has the child, or none has
found : (slots : Slots) (x : Txn) (t : Ticket) (key : Option ℕ) (answers : Held → Bool → Type 0)
    → ((h : Held) (b : Bool) → answers h b → b ≡ has_child h.live t)
    → FindsBy answers slots x key → FindsChild slots x t key
found slots x t None answers says finds = λ c of. by_value c of (live_value slots c) refl
  where
    by_value : (c : Case) → same_txn c.txn x ≡ true → (held : Option Held) → live_value slots c ≡ held
        → has_child (held_view held) t ≡ false
    by_value c of None e = refl
    by_value c of (Some h) e = sym (says h false (finds.key c h e of))
found slots x t (Some k) answers says finds =
    let at = finds.key in
    (at.0.0, at.0.1, record { entry = at.1; view = ap held_view at.2 }, at.3, sym (says at.0.1 true at.4))

pub FindsChild-found : {F : Type 0} (g : Shared F (Bor Held × Unit {0}) Bool) (test : F) (slots : Slots)
    (x : Txn) (t : Ticket) (key : Option ℕ)
    → FindsBy (λ h b. FnReturnsAt g test h b) slots x key
    → ((shown : Bor Held) (b : Bool) → g.post test (shown, tt) b
    → b ≡ has_child shown.now.live t) → FindsChild slots x t key
FindsChild-found g test slots x t key finds says =
    found slots x t key (λ h b. FnReturnsAt g test h b)
    (λ h b returns. says returns.shown b returns.says.met
    ∙ ap (λ (held : Held). has_child held.live t) returns.shows) finds

module _ (slots : Slots) (fits : FitsGiven slots) (apart : AreApart slots) (d : Case) where
  -- what was given for the parent's case is live, of its transaction
  given_live : (k : ℕ) (p : Case × Held) → entry_at slots k ≡ Some p → is_for d p.1.given_for ≡ true
      → (live_value slots p.0 ≡ Some p.1) × (same_txn p.0.txn d.txn ≡ true)
  given_live k p at is = (live_at slots p.0 k p apart at (same_case-itself p.0), fits.txns k d p at is)

  none_given : (answers : Held → Bool → Type 0)
      → ((h : Held) (b : Bool) → answers h b → b ≡ is_for d h.given_for)
      → FindsBy answers slots d.txn None → ticket_in slots d ≡ None
  none_given answers says finds = ticket_none slots d (λ k. by_entry k (entry_at slots k) refl)
    where
      by_entry : (k : ℕ) (slot : Option (Case × Held)) → entry_at slots k ≡ slot → is_given d slot ≡ false
      by_entry k None at = refl
      by_entry k (Some p) at = by_test (is_for d p.1.given_for) refl
        where
          by_test : (b : Bool) → is_for d p.1.given_for ≡ b → b ≡ false
          by_test false is = refl
          by_test true is =
              let live = given_live k p at is in
              let not_for : false ≡ is_for d p.1.given_for =
              says p.1 false (finds.key p.0 p.1 live.0 live.1) in
              sym (not_for ∙ is)

  some_given : (answers : Held → Bool → Type 0)
      → ((h : Held) (b : Bool) → answers h b → b ≡ is_for d h.given_for)
      → (k : ℕ) → FindsBy answers slots d.txn (Some k) → entry_ticket (entry_at slots k) ≡ ticket_in slots d
  some_given answers says k finds =
      let at = finds.key in
      let is : is_given d (entry_at slots k) ≡ true = ap (is_given d) at.1 ∙ sym (says at.0.1 true at.4) in
      sym (ticket_is slots d k (fits.one d) is)

pub ticket-none : {F : Type 0} (g : Shared F (Bor Held × Unit {0}) Bool) (test : F) (slots : Slots) (d : Case)
    → FitsGiven slots → AreApart slots
    → FindsBy (λ h b. FnReturnsAt g test h b) slots d.txn None
    → ((shown : Bor Held) (b : Bool) → g.post test (shown, tt) b
    → b ≡ is_for d shown.now.given_for) → ticket_in slots d ≡ None
ticket-none g test slots d fits apart finds says =
    none_given slots fits apart d (λ h b. FnReturnsAt g test h b)
    (λ h b returns. says returns.shown b returns.says.met
    ∙ ap (λ (held : Held). is_for d held.given_for) returns.shows) finds

pub ticket-some : {F : Type 0} (g : Shared F (Bor Held × Unit {0}) Bool) (test : F) (slots : Slots) (d : Case)
    (k : ℕ) → FitsGiven slots → AreApart slots
    → FindsBy (λ h b. FnReturnsAt g test h b) slots d.txn (Some k)
    → ((shown : Bor Held) (b : Bool) → g.post test (shown, tt) b → b ≡ is_for d shown.now.given_for)
    → entry_ticket (entry_at slots k) ≡ ticket_in slots d
ticket-some g test slots d k fits apart finds says =
    some_given slots fits apart d (λ h b. FnReturnsAt g test h b)
    (λ h b returns. says returns.shown b returns.says.met
    ∙ ap (λ (held : Held). is_for d held.given_for) returns.shows) k finds
