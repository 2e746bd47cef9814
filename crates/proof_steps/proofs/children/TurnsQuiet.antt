-- An input of a manager that writes nothing keeps the invariant of its pairs: votes but YES, and repeated
-- ones.
use Rattle.std.proofs.Common.{◌≡◌, ◌∙◌, ◌&&◌, ◌⊎◌, inl, inr, ℕ, Bool, true, false, List, [], ◌∷◌, ◌++◌, refl, sym, ap, subst}
use Rattle.protocol.specs.declared.names.Case.{Case}
use Rattle.protocol.specs.declared.names.Presumption.{Presumption}
use Rattle.protocol.specs.declared.messages.Message.TheVariants.{Prepare, Yes, No, Read}
use Rattle.protocol.specs.declared.messages.Envelope.{Envelope}
use Rattle.protocol_words.specs.Variants.{CaseBranch, MessageInput}
use Rattle.protocol.specs.NameLaws.{same_case-refl}
use Rattle.protocol.specs.Nodes.{Place, after}
use Rattle.protocol.specs.CoordinatorRows.{post}
use Rattle.protocol.specs.Standings.{manager_view}
use Rattle.proof_pairs.specs.Reading.{Reading}
use Rattle.proof_pairs.specs.ChildMoves
use Rattle.proof_pairs.specs.Standing.{IsForgotten}
use Rattle.proof_pairs.specs.readings.ReadingOf.{reading_from, ParentHalf, ChildHalf, Wire, wire, is_prepare_message}
use Rattle.proof_pairs.proofs.readings.Lists.{mark_of-nil_behind}
use Rattle.proof_pairs.proofs.readings.Memories.{memory_of-nothing}
use Rattle.proof_pairs.specs.turns.LeafTurns.{mark_at, IsActive, IsUnknown, IsOpenBranch, writes_and_sends}
use Rattle.proof_processes.specs.WorldHolds.{InvariantOf}
use Rattle.proof_processes.proofs.Deliveries.{was_sent}
use Rattle.proof_processes.proofs.Orders.{IsMarked}
use Rattle.proof_steps.proofs.children.LeafWrites.{stands_so, half_silent}
use Rattle.proof_steps.proofs.children.Moves
use Rattle.proof_steps.proofs.children.Moves.{Fits}
use Rattle.proof_steps.proofs.children.Opens.{fall, closes_prepared, closed_where_marked, closed_where_unknown, open_where_active}
use Rattle.proof_steps.proofs.children.Doubts.{promised_so, nothing_known}
use Rattle.proof_steps.proofs.children.Readings
use Rattle.proof_steps.proofs.children.Wires
use Rattle.proof_steps.proofs.children.Turns.{Turn, branch, place_in, half_in, wire_in, R, r0, O, Fine}

-- A branch that is closed without a word is dropped, if it was open.

module _ (pr : Presumption) (root outcome above : Bool) (half : ParentHalf) (k : ChildHalf) (v : Wire)
    (inv : InvariantOf pr (reading_from root true outcome above half k v)) where
  abbrev R0 : ChildHalf → Reading
  R0 x = reading_from root true outcome above half x v

  same : (x : ChildHalf) → R0 x ≡ R0 k → Fits pr (R0 k) (R0 x)
  same x e = subst (λ (z : Reading). Fits pr (R0 k) z) (sym e) (Moves.unmoved pr (R0 k) inv)

  may_fall : (o b i : Bool) → k.is_open ≡ b → v.issued ≡ i → o ≡ false → Fits pr (R0 k) (R0 (stands_so o k))
  may_fall o true true e i f =
      let silent = (Moves.common_of pr (R0 k) inv).not_voted (rw (i, e) refl) in
      subst (λ (z : Reading). Fits pr (R0 k) z)
      (sym (ap (λ b. R0 (stands_so b k)) f
      ∙ Readings.reading-dropped root outcome above half k v e i silent.no_prepared.0 silent.no_prepared.1
      silent.said_nothing.0))
      (Moves.drops pr (R0 k) inv (record { is_open = rw (i, e) refl }))
  may_fall o true false e i f = same (stands_so o k)
      (Readings.reading-unissued root outcome above half k v o i)
  may_fall o false b e i f =
      same (stands_so o k) (ap (λ x. R0 (stands_so x k)) f ∙ Readings.reading-closed root outcome above half
      k v e)

  pub falls_so : (o : Bool) → (o ≡ k.is_open) ⊎ (o ≡ false) → Fits pr (R0 k) (R0 (stands_so o k))
  falls_so o (inl e) = same (stands_so o k) (ap (λ b. R0 (stands_so b k)) e)
  falls_so o (inr f) = may_fall o k.is_open v.issued refl refl f

module _ (turn : Turn) where
  open turn use {
    c,
    t,
    p,
    tree,
    n,
    h,
    net,
    up,
    nested,
    m,
    stands,
    row,
    own,
    pr,
    of,
    root,
    outcome,
    above,
    half,
    inv,
  }

  abbrev d : Case
  d = branch turn

  abbrev place : Place
  place = place_in turn

  abbrev k : ChildHalf
  k = half_in turn

  abbrev v : Wire
  v = wire_in turn

  prepared_sent : (j x : ℕ) → h.input ≡ MessageInput j (Prepare d x) → v.prepare ≡ true
  prepared_sent j x i = was_sent (is_prepare_message d) net t.child h.input j (Prepare d x) stands i
      (same_case-refl d)

  -- Nothing was written.

  quiet_falls : (ls : List Envelope)
      → (O turn (writes_and_sends [] ls) ≡ k.is_open) ⊎ (O turn (writes_and_sends [] ls) ≡ false)
  quiet_falls ls =
      let e = writes_and_sends [] ls in
      fall t.child p tree n h e d (memory_of-nothing place n h e d refl) row
      (mark_of-nil_behind (CaseBranch d) n.forced n.unforced)

  pub quiet : (ls : List Envelope) (w : Wire) (o : Bool) → wire c t (net ++ ls) ≡ w
      → O turn (writes_and_sends [] ls) ≡ o
      → Fits pr (r0 turn) (R turn (stands_so o k) w) → Fine turn [] ls
  quiet ls w o e f g =
      let x = writes_and_sends [] ls in
      subst (λ (z : ChildHalf). Fits pr (r0 turn) (R turn z (wire c t (net ++ ls))))
      (sym (half_silent (manager_view place n d).standing (manager_view place (after n h x) d).standing n
      h x d refl))
      (subst (λ (b : Bool). Fits pr (r0 turn) (R turn (stands_so b k) (wire c t (net ++ ls)))) (sym f)
      (subst (λ (z : Wire). Fits pr (r0 turn) (R turn (stands_so o k) z)) (sym e) g))

  -- and nothing was said of this ticket
  pub nothing_said : (ls : List Envelope) → wire c t (net ++ ls) ≡ v → Fine turn [] ls
  nothing_said ls e =
      quiet ls v (O turn (writes_and_sends [] ls)) e refl
      (falls_so pr root outcome above half k v inv (O turn (writes_and_sends [] ls)) (quiet_falls ls))

  -- a closed branch stays closed
  stays_closed : (ls : List Envelope) → k.is_open ≡ false → O turn (writes_and_sends [] ls) ≡ false
  stays_closed ls e = elim (quiet_falls ls) [ inl f ↦ f ∙ e | inr f ↦ f ]

  pub closed_says : (ls : List Envelope) (w : Wire) (s : Reading) → k.is_open ≡ false
      → wire c t (net ++ ls) ≡ w → R turn k w ≡ s
      → Fits pr (r0 turn) s → Fine turn [] ls
  closed_says ls w s e f g x =
      quiet ls w false f (stays_closed ls e)
      (subst (λ (z : Reading). Fits pr (r0 turn) z)
      (sym (ap (λ b. (R turn) (stands_so b k) w) (sym e) ∙ g)) x)

  pub yes_again : (x j : ℕ) → h.input ≡ MessageInput j (Prepare d x) → IsOpenBranch (mark_at n d)
      → IsMarked (mark_at n d)
      → Fine turn [] (post t.child p (Yes d) ∷ [])
  yes_again x j i o mk =
      closed_says (post t.child p (Yes d) ∷ []) (record v { yes = true }) (ChildMoves.repeats_yes (r0 turn))
      (closed_where_marked place n d mk)
      (Wires.wire-yes c t t.child p net) refl
      (Moves.repeats_yes pr (r0 turn) inv
      (record { asked = prepared_sent j x i; up = up; promised = promised_so n nested m d o }))

  pub forgets_it : IsUnknown place n d → IsForgotten (r0 turn)
  forgets_it u = record {
    closed = rw (closed_where_unknown place n d u) (and_false v.issued);
    nothing = nothing_known n
        nested m d place u;
  }
    where
      and_false : (a : Bool) → (a && false) ≡ false
      and_false true = refl
      and_false false = refl

  pub no_again : (x j : ℕ) → h.input ≡ MessageInput j (Prepare d x) → IsUnknown place n d
      → Fine turn [] (post t.child p (No d) ∷ [])
  no_again x j i u =
      closed_says (post t.child p (No d) ∷ []) (record v { no = true }) (ChildMoves.refuses (r0 turn))
      (closed_where_unknown place n d u)
      (Wires.wire-no c t t.child p net) refl
      (Moves.refuses pr (r0 turn) inv
      (record { asked = prepared_sent j x i; up = up; forgotten = forgets_it u }))

  -- PREPARE finds the branch open.

  pub active_open : IsActive place n d → k.is_open ≡ true
  active_open a = open_where_active place n d up a.unmarked a.is_open

  pub may_vote : (x j : ℕ) → h.input ≡ MessageInput j (Prepare d x) → IsActive place n d
      → ChildMoves.MayVote (r0 turn)
  may_vote x j i a =
      let asked = prepared_sent j x i in
      record {
        asked = asked;
        is_open = rw
            (Moves.asked_is_issued (r0 turn) (Moves.common_of pr (r0 turn) inv) asked, active_open a) refl;
      }

  closes : (x j : ℕ) (ls : List Envelope) → h.input ≡ MessageInput j (Prepare d x) → IsActive place n d
      → O turn (writes_and_sends [] ls) ≡ false
  closes x j ls i a =
      let e = writes_and_sends [] ls in
      closes_prepared t.child p tree n h e d (memory_of-nothing place n h e d refl) x j i a.is_open

  pub says_read : (x j : ℕ) → h.input ≡ MessageInput j (Prepare d x) → IsActive place n d
      → Fine turn [] (post t.child p (Read d) ∷ [])
  says_read x j i a =
      let ls = post t.child p (Read d) ∷ [] in
      quiet ls (record v { read = true }) false (Wires.wire-read c t t.child p net (own d j x i))
      (closes x j ls i a)
      (subst (λ (z : Reading). Fits pr (r0 turn) z)
      (sym (Readings.reading-read root outcome above half k v (active_open a)))
      (Moves.votes_read pr (r0 turn) inv (may_vote x j i a)))

  pub says_no : (x j : ℕ) → h.input ≡ MessageInput j (Prepare d x) → IsActive place n d
      → Fine turn [] (post t.child p (No d) ∷ [])
  says_no x j i a =
      let ls = post t.child p (No d) ∷ [] in
      let may = may_vote x j i a in
      let silent = (Moves.common_of pr (r0 turn) inv).not_voted may.is_open in
      quiet ls (record v { no = true }) false (Wires.wire-no c t t.child p net) (closes x j ls i a)
      (subst (λ (z : Reading). Fits pr (r0 turn) z)
      (sym (Readings.reading-no root outcome above half k v (active_open a) silent.issued
      silent.no_prepared.0 silent.no_prepared.1
      silent.said_nothing.0))
      (Moves.votes_no pr (r0 turn) inv may))
