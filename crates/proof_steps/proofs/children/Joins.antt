-- JOIN at a manager keeps the invariant of its pairs: the ticket that it gives is of one pair alone.
use Rattle.std.proofs.Common.{◌≡◌, ◌∙◌, ◌+◌, ◌||◌, ◌&&◌, ◌⊎◌, inl, inr, ℕ, Bool, true, false, Option, Some, None, List, [], ◌∷◌, ◌++◌, refl, sym, ap, subst, if◌then◌else◌, arith}
use Rattle.protocol.specs.declared.names.Case.{Case}
use Rattle.protocol.specs.declared.names.ProcessId.{ProcessId}
use Rattle.protocol.specs.declared.names.Ticket.{Ticket}
use Rattle.protocol.specs.declared.names.Outcome.{Outcome}
use Rattle.protocol_words.specs.Variants.{AbortedOutcome, CaseBranch, CommittedOutcome, MessageInput}
use Rattle.protocol.specs.declared.names.Presumption.{Presumption}
use Rattle.protocol.specs.declared.messages.Message.TheVariants.{Join, Joined}
use Rattle.protocol.specs.declared.messages.Envelope.{Envelope}
use Rattle.protocol.specs.declared.events.Input.{Input}
use Rattle.protocol.specs.declared.trees.TreeProcess.{TreeProcess}
use Rattle.protocol.specs.Names.{child_case, process_of, same_case, same_process, same_ticket}
use Rattle.protocol.specs.NameLaws.{same_case_tells, same_process_tells, same_case-refl, names}
use Rattle.protocol.specs.Records.{boot_of}
use Rattle.protocol.specs.Nodes.{Place, AtLeaf, Node, Heard, Effect, no_effect, kept, after}
use Rattle.protocol.specs.Memory.{Memory, Open, memory_of, manager_remembers, joins, next_ticket, active_ticket}
use Rattle.protocol.specs.CoordinatorRows.{post, tells_outcome}
use Rattle.protocol.specs.Outcomes.{sent, is_joined_message}
use Rattle.protocol.specs.Reactions.{reacts, Does}
use Rattle.protocol.specs.Standings.{some_case, Mark, Unmarked, manager_view, mark_of, marked_branch}
use Rattle.proof_pairs.specs.Reading.{Reading}
use Rattle.proof_pairs.specs.readings.ReadingOf.{reading_from, ParentHalf, ChildHalf, Wire, child_half, wire}
use Rattle.proof_pairs.proofs.readings.Lists.{sent-push, mark_of-nil_behind}
use Rattle.proof_pairs.proofs.readings.Memories.{memory_of-nothing}
use Rattle.proof_pairs.specs.turns.LeafTurns.{LeafTurn, Hears, writes_and_sends, does_nothing, gives_again, gives_fresh, votes_yes, votes_read, votes_no, repeats_yes, refuses, obeys, notes, acknowledges_told, acknowledges, drops, asks, decides, forgets}
use Rattle.proof_pairs.proofs.turns.LeafInputs.{viewed}
use Rattle.proof_processes.specs.WorldHolds.{InvariantOf}
use Rattle.proof_processes.proofs.Issuing.{Issued, next_is_new, self_at}
use Rattle.proof_processes.proofs.Selves.{Self, self_same}
use Rattle.proof_processes.proofs.ManagerPhases.{Wakes, join_left}
use Rattle.proof_processes.proofs.Tickets.{active_found, active_is_own, join_said}
use Rattle.proof_steps.proofs.children.LeafWrites.{stands_so, half_silent}
use Rattle.proof_steps.proofs.children.Moves
use Rattle.proof_steps.proofs.children.Moves.{Fits}
use Rattle.proof_steps.proofs.children.Opens.{opens, alike, open_where_active}
use Rattle.proof_steps.proofs.children.Readings
use Rattle.proof_steps.proofs.children.Wires

same_of : (d c : Case) → same_case d c ≡ true → d ≡ c
same_of d c e = elim (same_case_tells d c) [ inl t ↦ t.1 | inr g ↦ absurd (let k = g.0 in cc) ]

ticket_itself : (t : Ticket) → same_ticket t t ≡ true
ticket_itself t = grind (arith, names)

some_ticket : (u v : Ticket) → Some u ≡ Some v → u ≡ v
some_ticket u v e = cc

-- JOIN that gives the branch its ticket opens it
opens_now : (me : ProcessId) (boot : ℕ) (d x : Case) (m : Memory) (b : Bool) (o : Option Ticket) → b
    ≡ true → o ≡ None
    → same_case d (child_case x.txn (next_ticket me boot m)) ≡ true
    → (if b then joins me boot d x m o else m).phase ≡ Open
opens_now me boot d x m true None e f g = rw g refl
opens_now me boot d x m true (Some t) e f g = absurd (cc)
opens_now me boot d x m false o e f g = absurd (cc)

ticket_is : (u v : Ticket) → same_ticket u v ≡ true → u ≡ v
ticket_is u v e = grind (arith, names)

module _ (c : Case) (t : Ticket) (p : ProcessId) (tree : List TreeProcess) (n : Node) (h : Heard)
    (net : List Envelope) (apart : same_process t.child (process_of c) ≡ false)
    (issued : Issued (record { me = t.child; role = AtLeaf p; tree = tree }) net n) (up : n.failed ≡ false)
    (pr : Presumption) (root outcome above : Bool) (half : ParentHalf) where
  abbrev d : Case
  d = child_case c.txn t

  abbrev place : Place
  place = record { me = t.child; role = AtLeaf p; tree = tree }

  abbrev k : ChildHalf
  k = child_half place n d

  abbrev v : Wire
  v = wire c t net

  abbrev R : ChildHalf → Wire → Reading
  R x w = reading_from root true outcome above half x w

  abbrev r0 : Reading
  r0 = R k v

  -- The net.

  abbrev said : Case → Ticket → List Envelope
  said x u = post t.child p (Joined x u) ∷ []

  -- the parent's case is none of the manager's
  not_given : (x : Case) (u : Ticket) → u.child ≡ t.child → same_case (child_case x.txn u) c ≡ false
  not_given x u own = by_test (same_case (child_case x.txn u) c) refl
    where
      by_test : (b : Bool) → same_case (child_case x.txn u) c ≡ b → same_case (child_case x.txn u) c ≡ false
      by_test false e = e
      by_test true e = absurd
          (elim (same_process_tells t.child (process_of c)) [
            | inl same ↦ (let f = same.0 in cc)
            | inr other ↦ other.1 (sym own ∙ ap process_of (same_of (child_case x.txn u) c e))
          ])

  wire-joined : (x : Case) (u : Ticket) → u.child ≡ t.child
      → wire c t (net ++ said x u) ≡ record v { issued = (same_case x c && same_ticket u t) || v.issued }
  wire-joined x u own = simp (sent-push, not_given x u own)

  -- The half.

  module _ (e : Effect) (silent : e.written ≡ []) where
    abbrev O : Bool
    O = opens n.failed (manager_view place (after n h e) d)

    half_then : child_half place (after n h e) d ≡ stands_so O k
    half_then = half_silent (manager_view place n d).standing
        (manager_view place (after n h e) d).standing n h e d silent

    memory_then : memory_of place (after n h e) d
        ≡ manager_remembers t.child (boot_of (kept n)) d (memory_of place n d) h.data_answer h.input
    memory_then = memory_of-nothing place n h e d silent

    mark_then : mark_of (CaseBranch d) (kept (after n h e)) ≡ mark_of (CaseBranch d) (kept n)
    mark_then = rw silent (mark_of-nil_behind (CaseBranch d) n.forced n.unforced)

    seen : (x : Node) → manager_view place x d
        ≡ marked_branch (memory_of place x d) (mark_of (CaseBranch d) (kept x))
    seen x = viewed place x d

    -- a phase that stays leaves the branch as open as it was
    still_open : (manager_remembers t.child (boot_of (kept n)) d (memory_of place n d) h.data_answer
        h.input).phase
        ≡ (memory_of place n d).phase → O ≡ k.is_open
    still_open f =
        ap (opens n.failed) (seen (after n h e))
        ∙ (ap (λ (x : Mark). opens n.failed (marked_branch (memory_of place (after n h e) d) x)) mark_then
        ∙ (alike n.failed (memory_of place n d) (memory_of place (after n h e) d)
        (mark_of (CaseBranch d) (kept n))
        (ap (λ (m : Memory). m.phase) memory_then ∙ f)
        ∙ ap (opens n.failed) (sym (seen n))))

  abbrev Fine : List Envelope → Type 0
  Fine ls = Fits pr r0 (R (child_half place (after n h (writes_and_sends [] ls)) d) (wire c t (net ++ ls)))

  module _ (inv : InvariantOf pr r0) where
    -- nothing was said that is new, and the phase stays
    stays : (ls : List Envelope) → wire c t (net ++ ls) ≡ v
        → (manager_remembers t.child (boot_of (kept n)) d (memory_of place n d) h.data_answer h.input).phase
        ≡ (memory_of place n d).phase → Fine ls
    stays ls w f =
        let e = writes_and_sends [] ls in
        subst (λ (z : ChildHalf). Fits pr r0 (R z (wire c t (net ++ ls))))
        (sym (half_then e refl ∙ ap (λ b. stands_so b k) (still_open e refl f)))
        (subst (λ (z : Wire). Fits pr r0 (R k z)) (sym w) (Moves.unmoved pr r0 inv))

    -- JOIN came.
    module _ (j : ℕ) (x : Case) (i : h.input ≡ MessageInput j (Join x)) where
      abbrev Then : Memory
      Then = manager_remembers t.child (boot_of (kept n)) d (memory_of place n d) h.data_answer h.input

      abbrev next : Ticket
      next = next_ticket t.child (boot_of (kept n)) (memory_of place n d)

      abbrev Woken : Type 0
      Woken = Wakes t.child (boot_of (kept n)) d (memory_of place n d) h.data_answer (MessageInput j (Join x))

      moves_so : (Then.phase ≡ (memory_of place n d).phase) ⊎ Woken
      moves_so =
          subst (λ (y : Input). ((manager_remembers t.child (boot_of (kept n)) d (memory_of place n d)
          h.data_answer y).phase
          ≡ (memory_of place n d).phase) ⊎ Woken) (sym i)
          (join_left t.child (boot_of (kept n)) d (memory_of place n d) h.data_answer j x)

      parents_is : (w : Woken) → x ≡ w.parents
      parents_is w = of_input j w.number x w.parents w.hears
        where
          of_input : (a b : ℕ) (y z : Case) → MessageInput a (Join y) ≡ MessageInput b (Join z) → y ≡ z
          of_input a b y z e = cc

      none_active : (w : Woken) → active_ticket (memory_of place n x).active x ≡ None
      none_active w =
          ap (λ (s : Self). active_ticket s.active x) (self_same place n x d)
          ∙ (ap (λ (y : Case). active_ticket (memory_of place n d).active y) (parents_is w) ∙ w.none_active)

      next_same : next_ticket t.child (boot_of (kept n)) (memory_of place n x) ≡ next
      next_same = ap (λ (s : Self). record { child = t.child; boot = boot_of (kept n); number = s.given + 1 })
          (self_same place n x d)

      nothing_said : {A : Type 0} (y : Case) (u : Ticket) → sent (is_joined_message y u) [] ≡ true → A
      unfolding sent
      nothing_said y u e = absurd (cc)

      joined_is : {y : Case} → Hears h (Join y) → x ≡ y
      joined_is {y} g = of_input j g.0 x y (sym i ∙ g.1)
        where
          of_input : (a b : ℕ) (y z : Case) → MessageInput a (Join y) ≡ MessageInput b (Join z) → y ≡ z
          of_input a b y z e = cc

      told_no_join : {A : Type 0} (y : Case) (o : Outcome) → Hears h (tells_outcome o y) → A
      told_no_join y CommittedOutcome g = absurd (let z = sym i ∙ g.1 in cc)
      told_no_join y AbortedOutcome g = absurd (let z = sym i ∙ g.1 in cc)

      -- An active ticket is given again.

      again : (u : Ticket) → active_ticket (memory_of place n x).active x ≡ Some u → Fine (said x u)
      again u a = elim moves_so [
        | inl same ↦ stays (said x u) (wire-joined x u own ∙ ap (λ b. record v { issued = b }) known) same
        | inr w ↦ absurd (let f = sym (none_active w) ∙ a in cc)
      ]
        where
          own : u.child ≡ t.child
          own = active_is_own place n x x u a

          sent_before : sent (is_joined_message x u) net ≡ true
          sent_before =
              active_found (λ y z. sent (is_joined_message y z) net ≡ true) (self_at place n).active x u
              (issued.active_was_sent up)
              (ap (λ (s : Self). active_ticket s.active x) (self_same place n (some_case place) x) ∙ a)

          by_names : (a b : Bool) → same_case x c ≡ a → same_ticket u t ≡ b
              → ((same_case x c && same_ticket u t) || v.issued) ≡ v.issued
          by_names true true e f = rw (e, f)
              (sym (subst (λ (y : Case). sent (is_joined_message y t) net ≡ true) (same_of x c e)
              (subst (λ (z : Ticket). sent (is_joined_message x z) net ≡ true) (ticket_is u t f)
              sent_before)))
          by_names true false e f = rw (e, f) refl
          by_names false b e f = rw e refl

          known : ((same_case x c && same_ticket u t) || v.issued) ≡ v.issued
          known = by_names (same_case x c) (same_ticket u t) refl refl

      -- The next one is given.

      abbrev new : Ticket
      new = next_ticket t.child (boot_of (kept n)) (memory_of place n x)

      fresh : active_ticket (memory_of place n x).active x ≡ None → h.data_answer.starts ≡ true
          → ((memory_of place (after n h (writes_and_sends [] (said x new))) d).phase ≡ Open
          → mark_of (CaseBranch d) (kept (after n h (writes_and_sends [] (said x new)))) ≡ Unmarked)
          → Fine (said x new)
      fresh none starts unmarked = by_case (same_case d (child_case x.txn next)) refl
        where
          -- the ticket is of another branch
          other : same_case d (child_case x.txn next) ≡ false
              → ((same_case x c && same_ticket new t) || v.issued) ≡ v.issued
          other e = by_names (same_case x c) (same_ticket new t) refl refl
            where
              by_names : (a b : Bool) → same_case x c ≡ a → same_ticket new t ≡ b
                  → ((same_case x c && same_ticket new t) || v.issued) ≡ v.issued
              by_names true false f g = rw (f, g) refl
              by_names false b f g = rw f refl
              by_names true true f g =
                  absurd (let z = sym e
                  ∙ (ap (λ (y : Case). same_case d (child_case y.txn next)) (same_of x c f)
                  ∙ (ap (λ (u : Ticket). same_case d (child_case c.txn u)) (sym next_same ∙ ticket_is new t g)
                  ∙ same_case-refl d)) in cc)

          stays_closed : same_case d (child_case x.txn next) ≡ false → Fine (said x new)
          stays_closed e = elim moves_so [
            | inl same ↦ stays (said x new)
                (wire-joined x new refl ∙ ap (λ b. record v { issued = b }) (other e)) same
            | inr w ↦ absurd (let z = sym e
                ∙ (ap (λ (y : Case). same_case d (child_case y.txn next)) (parents_is w) ∙ w.is_next) in cc)
          ]

          -- the ticket is this one
          this : same_case d (child_case x.txn next) ≡ true → t ≡ new
          this e = some_ticket t next (ap (λ (y : Case). y.ticket) (same_of d (child_case x.txn next) e))
              ∙ sym next_same

          opened : same_case d (child_case x.txn next) ≡ true
              → (memory_of place (after n h (writes_and_sends [] (said x new))) d).phase ≡ Open
          opened e =
              ap (λ (m : Memory). m.phase) (memory_then (writes_and_sends [] (said x new)) refl)
              ∙ (ap (λ (y : Input). (manager_remembers t.child (boot_of (kept n)) d (memory_of place n d)
              h.data_answer y).phase) i
              ∙ opens_now t.child (boot_of (kept n)) d x (memory_of place n d) h.data_answer.starts
              (active_ticket (memory_of place n d).active x) starts
              (ap (λ (s : Self). active_ticket s.active x) (self_same place n d x) ∙ none) e)

          is_open : same_case d (child_case x.txn next) ≡ true → O (writes_and_sends [] (said x new)) refl
              ≡ true
          is_open e =
              open_where_active place (after n h (writes_and_sends [] (said x new))) d up
              (unmarked (opened e)) (opened e)

          not_issued : same_case d (child_case x.txn next) ≡ true → v.issued ≡ false
          not_issued e = by_test v.issued refl
            where
              by_test : (b : Bool) → v.issued ≡ b → v.issued ≡ false
              by_test true f = next_is_new place net n issued up c x
                  (subst (λ (u : Ticket). sent (is_joined_message c u) net ≡ true) (this e) f)
              by_test false f = f

          now_issued : same_case d (child_case x.txn next) ≡ true → same_case x c ≡ true
              → ((same_case x c && same_ticket new t) || v.issued) ≡ true
          now_issued e f = rw (f, ap (λ (u : Ticket). same_ticket u t) (sym (this e)) ∙ ticket_itself t) refl

          -- given to the pair's case, or to another case of its transaction
          gives_it : same_case d (child_case x.txn next) ≡ true → (b : Bool) → same_case x c ≡ b
              → Fits pr r0 (R (stands_so true k)
              (record v { issued = (same_case x c && same_ticket new t) || v.issued }))
          gives_it e true f =
              subst (λ (b : Bool). Fits pr r0 (R (stands_so true k) (record v { issued = b })))
              (sym (now_issued e f))
              (subst (λ (z : Reading). Fits pr r0 z)
              (sym (Readings.reading-issued root outcome above half k v (not_issued e)))
              (Moves.issues pr r0 inv (record { fresh = not_issued e; up = up })))
          gives_it e false f =
              subst (λ (b : Bool). Fits pr r0 (R (stands_so true k) (record v { issued = b || v.issued })))
              (sym (ap (λ (b : Bool). b && same_ticket new t) f))
              (subst (λ (z : Reading). Fits pr r0 z)
              (sym (Readings.reading-unissued root outcome above half k v true (not_issued e)))
              (Moves.unmoved pr r0 inv))

          by_case : (b : Bool) → same_case d (child_case x.txn next) ≡ b → Fine (said x new)
          by_case false e = stays_closed e
          by_case true e =
              subst (λ (z : ChildHalf). Fits pr r0 (R z (wire c t (net ++ said x new))))
              (sym (half_then (writes_and_sends [] (said x new)) refl ∙ ap (λ b. stands_so b k) (is_open e)))
              (subst (λ (z : Wire). Fits pr r0 (R (stands_so true k) z)) (sym (wire-joined x new refl))
              (gives_it e (same_case x c) refl))

      abbrev Gives : Case → Effect
      Gives z = writes_and_sends [] (said z (next_ticket t.child (boot_of (kept n)) (memory_of place n z)))

      pub join_fits : (e : Effect) → reacts place n h ≡ Does e → LeafTurn place p n h e
          → ((memory_of place (after n h e) d).phase ≡ Open
          → mark_of (CaseBranch d) (kept (after n h e)) ≡ Unmarked)
          → Fits pr r0 (R (child_half place (after n h e) d) (wire c t (net ++ e.messages)))
      join_fits _ r does_nothing unmarked = elim moves_so [
        | inl same ↦ stays [] (Wires.wire-none c t t.child p net) same
        | inr w ↦ nothing_said x new
            (join_said place n h no_effect x j tt i up r (none_active w) w.starts)
      ]
      join_fits _ r (gives_again y u g a) unmarked =
          subst (λ (z : Case). active_ticket (memory_of place n z).active z ≡ Some u → Fine (said z u))
          (joined_is g)
          (again u) a
      join_fits _ r (gives_fresh y g a s) unmarked =
          subst (λ (z : Case). active_ticket (memory_of place n z).active z ≡ None
          → ((memory_of place (after n h (Gives z)) d).phase ≡ Open
          → mark_of (CaseBranch d) (kept (after n h (Gives z))) ≡ Unmarked) → Fine (Gives z).messages)
          (joined_is g) (λ a' u. fresh a' s u) a unmarked
      join_fits _ r (votes_yes y k' ws g a) unmarked = absurd (let z = sym i ∙ g.1 in cc)
      join_fits _ r (votes_read y k' g a) unmarked = absurd (let z = sym i ∙ g.1 in cc)
      join_fits _ r (votes_no y k' g a) unmarked = absurd (let z = sym i ∙ g.1 in cc)
      join_fits _ r (repeats_yes y k' g a) unmarked = absurd (let z = sym i ∙ g.1 in cc)
      join_fits _ r (refuses y k' g a) unmarked = absurd (let z = sym i ∙ g.1 in cc)
      join_fits _ r (obeys y o g a) unmarked = told_no_join y o g
      join_fits _ r (notes y o g a) unmarked = told_no_join y o g
      join_fits _ r (acknowledges_told y o g a) unmarked = told_no_join y o g
      join_fits _ r (acknowledges y o g a) unmarked = told_no_join y o g
      join_fits _ r (drops y g a) unmarked = absurd (let z = sym i ∙ g.1 in cc)
      join_fits _ r (asks y g a) unmarked = absurd (let z = sym i ∙ g in cc)
      join_fits _ r (decides y o g a) unmarked = absurd (let z = sym i ∙ g in cc)
      join_fits _ r (forgets y g a) unmarked = absurd (let z = sym i ∙ g in cc)
