-- Whose ticket is active, and which input retires it.
use Rattle.std.proofs.Common.{◌≡◌, ℕ, Bool, true, false, Option, None, Some, is_some, refl, sym, ap, ◌∙◌, inl, inr}
use Rattle.protocol.specs.declared.names.Case.{Case}
use Rattle.protocol.specs.declared.names.Ticket.{Ticket}
use Rattle.protocol.specs.declared.names.Txn.{Txn}
use Rattle.protocol.specs.Names.{child_case, same_case}
use Rattle.protocol.proofs.NameTests.{case_tells, txn_tells}
use Rattle.case_table.specs.Tables.{AreApart, entry_at, is_of_case, live_value}
use Rattle.case_table.proofs.Writes.{live_at, same_case-itself}
use Rattle.coord_cases.specs.declared.held.Held.{Held}
use Rattle.coord_cases.specs.Cases.{FitsGiven, Slots, entry_ticket, is_for, is_given, ticket_in}
use Rattle.coord_cases.proofs.Tickets.{given_or_none, ticket_is, ticket_none}
use Rattle.coord_cases.specs.Takes.{retired_if}

-- a case of a transaction with a ticket is the child's case
named_so : (c : Case) (x : Txn) (t : Ticket) → c.txn ≡ x → c.ticket ≡ Some t → c ≡ child_case x t
named_so c x t of has = λ i. record { txn = of i; ticket = has i }

-- the entry of an active ticket
pub record GivenAt (slots : Slots) (d : Case) (t : Ticket) : Type 0 where
  pub key : ℕ
  pub entry : Case × Held
  pub at : entry_at slots key ≡ Some entry
  pub given : is_for d entry.1.given_for ≡ true
  pub owner : entry.0 ≡ child_case d.txn t

module _ (slots : Slots) (fits : FitsGiven slots) (d : Case) (t : Ticket) where
  given_at : (k : ℕ) (slot : Option (Case × Held)) → entry_at slots k ≡ slot → is_given d slot ≡ true
      → entry_ticket slot ≡ Some t → GivenAt slots d t
  given_at k None at is has = absurd (cc)
  given_at k (Some p) at is has =
      record {
        key = k;
        entry = p;
        at = at;
        given = is;
        owner = named_so p.0 d.txn t ((txn_tells p.0.txn d.txn).0 (fits.txns k d p at is)) has;
      }

  -- an active ticket is at some key, whose case is the child's
  pub active_at : ticket_in slots d ≡ Some t → GivenAt slots d t
  active_at active =
      elim (given_or_none slots d) [
        | inl there ↦ given_at there.0 (entry_at slots there.0) refl there.1
            (sym (ticket_is slots d there.0 (fits.one d) there.1) ∙ active)
        | inr none ↦ let missing : ticket_in slots d ≡ None = ticket_none slots d none in absurd (cc)
      ]

some_ticket : (c d : Case) (o : Option Ticket) → c.ticket ≡ o → is_some o ≡ true → c.txn ≡ d.txn
    → (t : Ticket) × (c.ticket ≡ Some t) × (same_case (child_case d.txn t) c ≡ true)
some_ticket c d None has some of = absurd (cc)
some_ticket c d (Some t) has some of = (
  t,
  has,
  (case_tells (child_case d.txn t) c).1
      (sym (named_so c d.txn t of has)),
)

module _ (slots : Slots) (fits : FitsGiven slots) (apart : AreApart slots) (key : ℕ) (c : Case) (h : Held)
    (was : entry_at slots key ≡ Some (c, h)) where
  -- what the key was given for has the key's ticket, which its case ends
  pub given_retires : (d : Case) → is_for d h.given_for ≡ true
      → retired_if true c d (ticket_in slots d) ≡ None
  given_retires d is =
      let of : c.txn ≡ d.txn = (txn_tells c.txn d.txn).0 (fits.txns key d (c, h) was is) in
      let its = some_ticket c d c.ticket refl (fits.ticketed key d (c, h) was is) of in
      let active : ticket_in slots d ≡ Some its.0 =
      ticket_is slots d key (fits.one d) (ap (is_given d) was ∙ is) ∙ ap entry_ticket was ∙ its.1 in
      ap (retired_if true c d) active ∙ rw its.2 refl

  not_its : (d : Case) (t : Ticket) → is_for d h.given_for ≡ false → GivenAt slots d t → (b : Bool)
      → same_case (child_case d.txn t) c ≡ b → b ≡ false
  not_its d t not_for there false is = refl
  not_its d t not_for there true is =
      let its : same_case there.entry.0 c ≡ true = ap (λ e. same_case e c) there.owner ∙ is in
      let same : there.key ≡ key = apart c there.key key (ap (is_of_case c) there.at ∙ its)
      (ap (is_of_case c) was ∙ same_case-itself c) in
      let entry : Some there.entry ≡ Some (c, h) = sym there.at ∙ ap (entry_at slots) same ∙ was in
      let one : there.entry ≡ (c, h) = cc in
      sym (sym (ap (λ (p : Case × Held). is_for d p.1.given_for) one) ∙ there.given) ∙ not_for

  kept_ticket : (d : Case) → is_for d h.given_for ≡ false → (o : Option Ticket)
      → ticket_in slots d ≡ o → retired_if true c d o ≡ o
  kept_ticket d not_for None active = refl
  kept_ticket d not_for (Some t) active = rw (not_its d t not_for (active_at slots fits d t active)
      (same_case (child_case d.txn t) c) refl) refl

  -- what the key was not given for keeps its ticket
  pub others_keep : (d : Case) → is_for d h.given_for ≡ false
      → retired_if true c d (ticket_in slots d) ≡ ticket_in slots d
  others_keep d not_for = kept_ticket d not_for (ticket_in slots d) refl

-- an input that ends no ticket's time leaves each
pub unretired : (c d : Case) (o : Option Ticket) → retired_if false c d o ≡ o
unretired c d None = refl
unretired c d (Some t) = refl

module _ (slots : Slots) (fits : FitsGiven slots) (apart : AreApart slots) (c : Case)
    (gone : live_value slots c ≡ None) where
  not_gone : (d : Case) (t : Ticket) → GivenAt slots d t → (b : Bool)
      → same_case (child_case d.txn t) c ≡ b → b ≡ false
  not_gone d t there false is = refl
  not_gone d t there true is =
      let its : same_case there.entry.0 c ≡ true = ap (λ e. same_case e c) there.owner ∙ is in
      let live : live_value slots c ≡ Some there.entry.1 =
      live_at slots c there.key there.entry apart there.at its in
      absurd (cc)

  kept_all : (d : Case) (o : Option Ticket) → ticket_in slots d ≡ o → retired_if true c d o ≡ o
  kept_all d None active = refl
  kept_all d (Some t) active = rw (not_gone d t (active_at slots fits d t active)
      (same_case (child_case d.txn t) c) refl) refl

  -- a case that is not live ends no ticket's time
  pub gone_keeps : (b : Bool) (d : Case) → retired_if b c d (ticket_in slots d) ≡ ticket_in slots d
  gone_keeps true d = kept_all d (ticket_in slots d) refl
  gone_keeps false d = unretired c d (ticket_in slots d)
