-- What becomes of cases and tickets where one key changes.
use Rattle.std.proofs.Common.{◌≡◌, ◌+◌, if◌then◌else◌, arith, ℕ, Bool, true, false, Option, None, Some, is_some, refl, subst, sym, ap, ◌∙◌, ◌⊎◌, inl, inr}
use Rattle.std.proofs.lemmas.Bool.{cases_eq}
use Rattle.protocol.specs.declared.names.Case.{Case}
use Rattle.protocol.specs.declared.names.Ticket.{Ticket}
use Rattle.protocol.specs.declared.names.Txn.{Txn}
use Rattle.protocol.specs.Names.{child_case, root_case, same_case, same_txn}
use Rattle.protocol.specs.Standings.{CoordinatorView}
use Rattle.protocol.specs.SameViews.{open_view}
use Rattle.protocol.proofs.NameTests.{case_tells, txn_tells}
use Rattle.case_table.specs.Tables.{AreApart, Inserts, MovesValue, Removes, Updates, entry_at, live_count, live_value}
use Rattle.case_table.proofs.Writes.{Moves-changed, Updates-set, live_at, live_count-changed, live_found, same_case-itself}
use Rattle.coord_cases.specs.declared.held.Held.{Held}
use Rattle.coord_cases.specs.Cases.{BeginsCase, EndsCase, FitsGiven, GivesTicket, IsFreshTicket, IsUngiven, MovesCase, Puts, Relives, Restores, Retires, Slots, WasHeld, entry_ticket, held_view, is_for, is_given, ticket_in, view_in}
use Rattle.coord_cases.specs.Lends.{relived, with_live}
use Rattle.coord_cases.proofs.Tickets.{One, given_or_none, one_given, one_stays, ticket_is, ticket_none, ticket_stays}

moves_view : (old new : Slots) (c : Case) (value : Option Held) → MovesValue old new c value
    → MovesCase old new c (held_view value)
moves_view old new c value moves = record {
  own = ap held_view moves.own;
  others = λ d differs. ap
      held_view (moves.others d differs);
}

-- tickets that fit still fit with another entry that fits
fits_with : (old new : Slots) (key : ℕ) (slot : Option (Case × Held))
    → FitsGiven old → Updates old new key slot
    → ((d : Case) (p : Case × Held) → slot ≡ Some p → is_for d p.1.given_for ≡ true
    → same_txn p.0.txn d.txn ≡ true)
    → ((d : Case) (p : Case × Held) → slot ≡ Some p → is_for d p.1.given_for ≡ true
    → is_some p.0.ticket ≡ true)
    → ((d : Case) → One new d) → FitsGiven new
fits_with old new key slot fits updates its has one =
    record {
      ticketed = λ k d p at is.
          elim (cases_eq k key) [
            | inl same ↦ has d p (sym updates.changed ∙ sym (ap (entry_at new) same) ∙ at) is
            | inr differs ↦ fits.ticketed k d p (sym (updates.others k differs) ∙ at) is
          ];
      txns = λ k d p at is.
          elim (cases_eq k key) [
            | inl same ↦ its d p (sym updates.changed ∙ sym (ap (entry_at new) same) ∙ at) is
            | inr differs ↦ fits.txns k d p (sym (updates.others k differs) ∙ at) is
          ];
      one = one;
    }

nothing_more : (n : ℕ) (o : Option Held) → is_some o ≡ true → n + (if is_some o then 0 else 1) ≡ n
nothing_more n None is = absurd (cc)
nothing_more n (Some h) is = omega arith

one_more : (n : ℕ) (o : Option Held) → is_some o ≡ false → n + (if is_some o then 0 else 1) ≡ n + 1
one_more n None is = refl
one_more n (Some h) is = absurd (cc)

-- a case is held in place of what was held of it
pub puts_again : (old new : Slots) (c : Case) (before h : Held) (key : ℕ) → AreApart old
    → entry_at old key ≡ Some (c, before) → Updates old new key (Some (c, h)) → Puts old new c h
puts_again old new c before h key apart was updates =
    let live : live_value old c ≡ Some before = live_at old c key (c, before) apart was (same_case-itself c)
    in
    record {
      key = key;
      was = inr (before, was, live);
      updates = updates;
      moves = Moves-changed old new key c before h was updates apart;
      counts =
          live_count-changed old new key c before h was updates
          ∙ sym (nothing_more (live_count old) (live_value old c) (ap is_some live));
    }

-- a case that was not live is held
pub puts_first : (old new : Slots) (c : Case) (h : Held) (key : ℕ) → live_value old c ≡ None
    → Inserts old new c h key → Puts old new c h
puts_first old new c h key none inserts =
    record {
      key = key;
      was = inl inserts.vacant;
      updates = inserts.updates;
      moves = inserts.moves;
      counts = inserts.counts ∙ sym (one_more (live_count old) (live_value old c) (ap is_some none));
    }

-- what was held under the key of a case of which nothing was given for anybody, was given for nobody
not_given : (old : Slots) (c : Case) (key : ℕ) → IsUngiven old c → WasHeld old c key → (d : Case)
    → is_given d (entry_at old key) ≡ false
not_given old c key ungiven (inl free) d = ap (is_given d) free
not_given old c key ungiven (inr was) d = ap (is_given d) was.1 ∙ ap (is_for d) (ungiven was.0 was.2)

-- a case without a ticket was given for nobody
pub root_ungiven : (slots : Slots) (x : Txn) → FitsGiven slots → IsUngiven slots (root_case x)
root_ungiven slots x fits h live = by_given h.given_for refl
  where
    by_given : (o : Option Case) → h.given_for ≡ o → h.given_for ≡ None
    by_given None is = is
    by_given (Some e) is =
        let there = live_found slots (root_case x) h live in
        let one : there.1 ≡ root_case x = (case_tells there.1 (root_case x)).0 there.3 in
        let ticketed : is_some there.1.ticket ≡ true =
        fits.ticketed there.0 e (there.1, h) there.2 (ap (is_for e) is ∙ same_case-itself e) in
        let none : is_some there.1.ticket ≡ false = ap (λ (d : Case). is_some d.ticket) one in
        let clash : true ≡ false = sym ticketed ∙ none in absurd (cc)

-- a case whose ticket is active for nobody was given for nobody
pub fresh_ungiven : (slots : Slots) (c : Case) (t : Ticket) → FitsGiven slots → c.ticket ≡ Some t
    → IsFreshTicket slots t → IsUngiven slots c
fresh_ungiven slots c t fits has fresh h live = by_given h.given_for refl
  where
    by_given : (o : Option Case) → h.given_for ≡ o → h.given_for ≡ None
    by_given None is = is
    by_given (Some e) is =
        let there = live_found slots c h live in
        let one : there.1 ≡ c = (case_tells there.1 c).0 there.3 in
        let given : is_given e (entry_at slots there.0) ≡ true =
        ap (is_given e) there.2 ∙ ap (is_for e) is ∙ same_case-itself e in
        absurd (fresh e (ticket_is slots e there.0 (fits.one e) given ∙ ap entry_ticket there.2
        ∙ ap (λ (d : Case). d.ticket) one ∙ has))

-- an entry that was given for nobody
pub begins : (old new : Slots) (c : Case) (h : Held) → FitsGiven old → h.given_for ≡ None
    → h.live ≡ open_view → IsUngiven old c → Puts old new c h → BeginsCase old new c
begins old new c h fits ungiven opened free puts =
    record {
      moves = rw (← opened) (moves_view old new c (Some h) puts.moves);
      tickets = λ d.
          let behind : is_given d (Some (c, h)) ≡ false = ap (is_for d) ungiven in
          ticket_stays old new puts.key (Some (c, h)) d (fits.one d)
          (one_stays old new puts.key (Some (c, h)) d (fits.one d) puts.updates behind) puts.updates
          (not_given old c puts.key free puts.was d) behind;
      key = puts.key;
      updates = subst (λ e. Updates old new puts.key (Some (c, e)))
          (λ i. record { given_for = ungiven i; live = opened i }) puts.updates;
      counts = puts.counts;
    }

-- tickets that fit still fit where a case begins
pub fits_begun : (old new : Slots) (c : Case) (h : Held) → FitsGiven old → h.given_for ≡ None
    → Puts old new c h → FitsGiven new
fits_begun old new c h fits ungiven puts = fits_with old new puts.key (Some (c, h)) fits puts.updates
    (λ d p at is. absurd (nobody d p at is)) (λ d p at is. absurd (nobody d p at is))
    (λ d. one_stays old new puts.key (Some (c, h)) d (fits.one d) puts.updates (ap (is_for d) ungiven))
  where
    nobody : (d : Case) (p : Case × Held) → Some (c, h) ≡ Some p → is_for d p.1.given_for ≡ true → ⊥
    nobody d p at is =
        let entry : (c, h) ≡ p = cc in
        let no : false ≡ true =
        sym (ap (is_for d) ungiven) ∙ ap (λ (q : Case × Held). is_for d q.1.given_for) entry ∙ is
        in absurd (cc)

-- an entry that was given for nobody, and whose case is in some way
pub restores : (old new : Slots) (c : Case) (v : CoordinatorView) (key : ℕ) → FitsGiven old
    → Inserts old new c (record { given_for = None; live = v }) key → Restores old new c v
restores old new c v key fits inserts =
    let h : Held = record { given_for = None; live = v } in
    record {
      moves = moves_view old new c (Some h) inserts.moves;
      only = λ d differs none. inserts.moves.others d differs ∙ none;
      tickets = λ d.
          ticket_stays old new key (Some (c, h)) d (fits.one d)
          (one_stays old new key (Some (c, h)) d (fits.one d) inserts.updates refl) inserts.updates
          (ap (is_given d) inserts.vacant) refl;
      key = key;
      updates = inserts.updates;
    }

-- if there is no active ticket no key was given for it
pub ungiven_of : (slots : Slots) (d : Case) → FitsGiven slots → ticket_in slots d ≡ None → (k : ℕ)
    → is_given d (entry_at slots k) ≡ false
ungiven_of slots d fits none k = by_entry (entry_at slots k) refl
  where
    by_entry : (slot : Option (Case × Held)) → entry_at slots k ≡ slot → is_given d slot ≡ false
    by_entry None at = refl
    by_entry (Some p) at = by_test (is_for d p.1.given_for) refl
      where
        by_test : (b : Bool) → is_for d p.1.given_for ≡ b → b ≡ false
        by_test false is = refl
        by_test true is =
            let active : ticket_in slots d ≡ p.0.ticket =
            ticket_is slots d k (fits.one d) (ap (is_given d) at ∙ is) ∙ ap entry_ticket at in
            let some : is_some p.0.ticket ≡ true = fits.ticketed k d p at is in
            let missing : is_some p.0.ticket ≡ false = ap is_some (sym active ∙ none) in
            sym some ∙ missing

-- an entry whose ticket was given for this case of the parent
module _ (old new : Slots) (t : Ticket) (h : Held) (parent : Case) (fits : FitsGiven old)
    (given : h.given_for ≡ Some parent) (opened : h.live ≡ open_view)
    (none : ticket_in old parent ≡ None) (free : IsUngiven old (child_case parent.txn t))
    (puts : Puts old new (child_case parent.txn t) h) where
  abbrev key : ℕ
  key = puts.key

  shown : (d : Case) → is_given d (Some (child_case parent.txn t, h)) ≡ same_case parent d
  shown d = ap (is_for d) given

  one_behind : (d : Case) → One new d
  one_behind d = by_test (same_case parent d) refl
    where
      by_test : (b : Bool) → same_case parent d ≡ b → One new d
      by_test true is =
          let same : parent ≡ d = (case_tells parent d).0 is in
          one_given old new key (Some (child_case parent.txn t, h)) d (λ k. ap (λ e. is_given e
          (entry_at old k)) (sym same) ∙ ungiven_of old parent fits none k) puts.updates
      by_test false is = one_stays old new key (Some (child_case parent.txn t, h)) d (fits.one d)
          puts.updates (shown d ∙ is)

  pub gives : GivesTicket old new parent t
  gives =
      record {
        moves = rw (← opened) (moves_view old new (child_case parent.txn t) (Some h) puts.moves);
        ticket =
            ticket_is new parent key (one_behind parent) (ap (is_given parent) puts.updates.changed
            ∙ shown parent ∙ (case_tells parent parent).1 refl)
            ∙ ap entry_ticket puts.updates.changed;
        tickets = λ d differs.
            ticket_stays old new key (Some (child_case parent.txn t, h)) d (fits.one d) (one_behind d)
            puts.updates (not_given old (child_case parent.txn t) key free puts.was d) (shown d ∙ differs);
        key = key;
        updates = subst (λ e. Updates old new key (Some (child_case parent.txn t, e)))
            (λ i. record { given_for = given i; live = opened i }) puts.updates;
        counts = puts.counts;
      }

  pub fits_given : FitsGiven new
  fits_given = fits_with old new key (Some (child_case parent.txn t, h)) fits puts.updates (λ d p at is.
      let entry : (child_case parent.txn t, h) ≡ p = cc in
      let for_d : same_case parent d ≡ true = sym (shown d) ∙ ap (is_given d) at ∙ is in
      let same : parent ≡ d = (case_tells parent d).0 for_d in
      sym (ap (λ (q : Case × Held). same_txn q.0.txn d.txn) entry) ∙ sym
      (ap (λ (e : Case). same_txn parent.txn e.txn) same) ∙ (txn_tells parent.txn parent.txn).1 refl)
      (λ d p at is. let entry : (child_case parent.txn t, h)
      ≡ p = cc in sym (ap (λ (q : Case × Held). is_some q.0.ticket) entry)) one_behind

-- an entry whose ticket is active no longer
module _ (old new : Slots) (key : ℕ) (c : Case) (h : Held) (fits : FitsGiven old)
    (was : entry_at old key ≡ Some (c, h))
    (updates : Updates old new key (Some (c, record h { given_for = None }))) where
  one_retired : (d : Case) → One new d
  one_retired d = one_stays old new key (Some (c, record h { given_for = None })) d (fits.one d) updates refl

  pub fits_retired : FitsGiven new
  fits_retired = fits_with old new key (Some (c, record h { given_for = None })) fits updates
      (λ d p at is. let entry : (c, record h { given_for = None }) ≡ p = cc in
      let no : false ≡ true = ap (λ (q : Case × Held). is_for d q.1.given_for) entry ∙ is in absurd (cc))
      (λ d p at is. let entry : (c, record h { given_for = None }) ≡ p = cc in
      let no : false ≡ true = ap (λ (q : Case × Held). is_for d q.1.given_for) entry ∙ is in absurd (cc))
      one_retired

  pub retires : AreApart old → Retires old new key
  retires apart =
      let moves = Moves-changed old new key c h (record h { given_for = None }) was updates apart in
      record {
        owner = c;
        held = h;
        was = was;
        updates = updates;
        views = λ d. same_or d (same_case c d) refl moves;
        retired = λ d is. ticket_none new d (λ k. gone d is k (is_given d (entry_at new k)) refl);
        tickets = λ d not_for.
            ticket_stays old new key (Some (c, record h { given_for = None })) d (fits.one d) (one_retired d)
            updates (ap (is_given d) was ∙ not_for) refl;
      }
    where
      same_or : (d : Case) (b : Bool) → same_case c d ≡ b
          → MovesValue old new c (Some (record h { given_for = None })) → view_in new d ≡ view_in old d
      same_or d true is moves =
          let one : c ≡ d = (case_tells c d).0 is in
          sym (ap (view_in new) one) ∙ ap held_view moves.own ∙ sym
          (ap held_view (live_at old c key (c, h) apart was (same_case-itself c))) ∙ ap (view_in old) one
      same_or d false is moves = ap held_view (moves.others d is)

      gone : (d : Case) → is_for d h.given_for ≡ true → (k : ℕ) (b : Bool)
          → is_given d (entry_at new k) ≡ b → b ≡ false
      gone d is k false e = refl
      gone d is k true e =
          elim (cases_eq k key) [
            | inl same ↦ let none : is_given d (entry_at new k) ≡ false =
                ap (λ j. is_given d (entry_at new j)) same ∙ ap (is_given d) updates.changed in cc
            | inr differs ↦
                let there : is_given d (entry_at old k) ≡ true =
                sym (ap (is_given d) (updates.others k differs)) ∙ e in
                let here : is_given d (entry_at old key) ≡ true = ap (is_given d) was ∙ is in
                absurd (differs (fits.one d k key there here))
          ]

-- an entry whose live case is another
one_same : (old new : Slots) (d : Case) → ((k : ℕ)
    → is_given d (entry_at new k) ≡ is_given d (entry_at old k)) → One old d → One new d
one_same old new d same one j k here there = one j k (sym (same j) ∙ here) (sym (same k) ∙ there)

module _ (old new : Slots) (key : ℕ) (c : Case) (h : Held) (v : CoordinatorView) (fits : FitsGiven old)
    (was : entry_at old key ≡ Some (c, h))
    (updates : Updates old new key (Some (c, record h { live = v }))) where
  given_same : (d : Case) (k : ℕ) → is_given d (entry_at new k) ≡ is_given d (entry_at old k)
  given_same d k =
      elim (cases_eq k key) [
        | inl same ↦
            ap (λ j. is_given d (entry_at new j)) same
            ∙ ap (is_given d) updates.changed ∙ sym (ap (is_given d) was)
            ∙ sym (ap (λ j. is_given d (entry_at old j)) same)
        | inr differs ↦ ap (is_given d) (updates.others k differs)
      ]

  one_relived : (d : Case) → One new d
  one_relived d = one_same old new d (given_same d) (fits.one d)

  pub fits_relived : FitsGiven new
  fits_relived = fits_with old new key (Some (c, record h { live = v })) fits updates
      (λ d p at is. let entry : (c, record h { live = v }) ≡ p = cc in
      ap (λ (q : Case × Held). same_txn q.0.txn d.txn) (sym entry)
      ∙ fits.txns key d (c, h) was (ap (λ (q : Case × Held). is_for d q.1.given_for) entry ∙ is))
      (λ d p at is. let entry : (c, record h { live = v }) ≡ p = cc in
      ap (λ (q : Case × Held). is_some q.0.ticket) (sym entry)
      ∙ fits.ticketed key d (c, h) was (ap (λ (q : Case × Held). is_for d q.1.given_for) entry ∙ is))
      one_relived

  pub relives : AreApart old → Relives old new key h.live v
  relives apart =
      record {
        owner = c;
        stood = ap held_view (live_at old c key (c, h) apart was (same_case-itself c));
        moves = moves_view old new c (Some (record h { live = v }))
            (Moves-changed old new key c h (record h { live = v }) was updates apart);
        tickets = λ d. by_given d (given_or_none old d);
        held = h;
        was = was;
        updates = updates;
      }
    where
      ticket_same : (k : ℕ) → entry_ticket (entry_at new k) ≡ entry_ticket (entry_at old k)
      ticket_same k =
          elim (cases_eq k key) [
            | inl same ↦
                ap (λ j. entry_ticket (entry_at new j)) same
                ∙ ap entry_ticket updates.changed ∙ sym (ap entry_ticket was)
                ∙ sym (ap (λ j. entry_ticket (entry_at old j)) same)
            | inr differs ↦ ap entry_ticket (updates.others k differs)
          ]

      by_given : (d : Case) → ((k : ℕ) × (is_given d (entry_at old k) ≡ true)) ⊎
          ((k : ℕ) → is_given d (entry_at old k) ≡ false) → ticket_in new d ≡ ticket_in old d
      by_given d (inl there) =
          ticket_is new d there.0 (one_relived d) (given_same d there.0 ∙ there.1) ∙ ticket_same there.0
          ∙ sym (ticket_is old d there.0 (fits.one d) there.1)
      by_given d (inr none) = ticket_none new d (λ k. given_same d k ∙ none k) ∙ sym (ticket_none old d none)

-- the write through a `&mut` to the live case of a key
updates_live : (slots : Slots) (key : ℕ) (c : Case) (h : Held) (v : CoordinatorView)
    → entry_at slots key ≡ Some (c, h)
    → Updates slots (with_live slots key v) key (Some (c, record h { live = v }))
updates_live slots key c h v was =
    subst (λ e. Updates slots (with_live slots key v) key (relived e v)) was
    (Updates-set slots key (relived (entry_at slots key) v) (rw was refl))

pub fits_lent : (slots : Slots) (key : ℕ) (c : Case) (h : Held) (v : CoordinatorView) → FitsGiven slots
    → entry_at slots key ≡ Some (c, h)
    → FitsGiven (with_live slots key v)
fits_lent slots key c h v fits was = fits_relived slots (with_live slots key v) key c h v fits was
    (updates_live slots key c h v was)

pub Relives-with_live : (slots : Slots) (key : ℕ) (c : Case) (h : Held) (v : CoordinatorView)
    → FitsGiven slots → AreApart slots
    → entry_at slots key ≡ Some (c, h) → Relives slots (with_live slots key v) key h.live v
Relives-with_live slots key c h v fits apart was =
    relives slots (with_live slots key v) key c h v fits was (updates_live slots key c h v was) apart

-- an entry that goes
pub ends : (old new : Slots) (key : ℕ) (h : Held) → FitsGiven old → Removes old new key h
    → EndsCase old new key
ends old new key h fits removes =
    record {
      owner = removes.owner;
      held = h;
      was = removes.was;
      updates = removes.updates;
      moves = moves_view old new removes.owner None removes.moves;
      retired = λ d is. ticket_none new d (λ k. gone d is k (is_given d (entry_at new k)) refl);
      tickets = λ d not_for.
          ticket_stays old new key None d (fits.one d)
          (one_stays old new key None d (fits.one d) removes.updates refl) removes.updates
          (ap (is_given d) removes.was ∙ not_for) refl;
      counts = removes.counts;
    }
  where
    gone : (d : Case) → is_for d h.given_for ≡ true → (k : ℕ) (b : Bool)
        → is_given d (entry_at new k) ≡ b → b ≡ false
    gone d is k false e = refl
    gone d is k true e =
        elim (cases_eq k key) [
          | inl same ↦ let none : is_given d (entry_at new k) ≡ false =
              ap (λ j. is_given d (entry_at new j)) same ∙ ap (is_given d) removes.updates.changed in cc
          | inr differs ↦
              let there : is_given d (entry_at old k) ≡ true =
              sym (ap (is_given d) (removes.updates.others k differs)) ∙ e in
              let here : is_given d (entry_at old key) ≡ true = ap (is_given d) removes.was ∙ is in
              absurd (differs (fits.one d k key there here))
        ]
