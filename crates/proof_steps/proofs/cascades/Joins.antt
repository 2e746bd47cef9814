-- JOIN at a cascaded coordinator keeps the invariant of its pairs: it gives an active ticket again, or the
-- next one.
use Rattle.std.proofs.Common.{◌≡◌, ◌∙◌, ◌+◌, ◌||◌, ◌&&◌, inl, inr, ℕ, Bool, true, false, Option, Some, None, List, [], ◌∷◌, ◌++◌, refl, sym, ap, subst, arith}
use Rattle.protocol.specs.declared.names.Case.{Case}
use Rattle.protocol.specs.declared.names.Presumption.{Presumption}
use Rattle.protocol.specs.declared.names.ProcessId.{ProcessId}
use Rattle.protocol.specs.declared.names.Ticket.{Ticket}
use Rattle.protocol.specs.declared.messages.Envelope.{Envelope}
use Rattle.protocol.specs.declared.messages.Message.TheVariants.{Join, Joined}
use Rattle.protocol.specs.declared.events.Input.{Input}
use Rattle.protocol_words.specs.Variants.{MessageInput}
use Rattle.protocol.specs.declared.trees.TreeProcess.{TreeProcess}
use Rattle.protocol.specs.Names.{child_case, same_case, same_ticket}
use Rattle.protocol.specs.NameLaws.{same_case-refl, same_ticket_tells, names}
use Rattle.protocol.specs.Records.{boot_of}
use Rattle.protocol.specs.CoordinatorRows.{post}
use Rattle.protocol.specs.Memory.{Memory, active_ticket, cascaded_remembers, joins, memory_of, next_ticket}
use Rattle.protocol.specs.Nodes.{Below, Effect, Heard, Node, Place, after, kept, role_of}
use Rattle.protocol.specs.Outcomes.{is_joined_message, sent}
use Rattle.protocol.specs.Reactions.{Does, joins_with, reacts, sends_only}
use Rattle.protocol.specs.Standings.{some_case}
use Rattle.protocol.specs.Views.{IsOpenAlike}
use Rattle.proof_pairs.specs.Reading.{Reading}
use Rattle.proof_pairs.specs.readings.ReadingOf.{ParentHalf, Wire, reading_from, wire}
use Rattle.proof_pairs.proofs.readings.Memories.{memory_of-nothing}
use Rattle.proof_processes.specs.Numbers.{TicketNumbers}
use Rattle.proof_processes.specs.WorldHolds.{AllGo, InvariantOf, IsGivenOut, IsPair}
use Rattle.proof_processes.proofs.GivenCases.{same_of}
use Rattle.proof_processes.proofs.Selves.{Self, self_same}
use Rattle.proof_steps.proofs.children.Moves
use Rattle.proof_steps.proofs.children.Moves.{Fits}
use Rattle.proof_steps.specs.cascades.Messages.{AllSentBy}
use Rattle.proof_steps.proofs.cascades.Halves.{OwnHalf, as_child, own_half_at, own_silent, stands_so}
use Rattle.proof_steps.proofs.cascades.Messages
use Rattle.proof_steps.proofs.cascades.Messages.{hears, nothing, said_by, wire_behind}
use Rattle.proof_steps.proofs.cascades.Opens.{live, open_by_phase}
use Rattle.proof_steps.proofs.cascades.Readings
use Rattle.proof_steps.proofs.cascades.Turns.{opens}

ticket_is : (t u : Ticket) → same_ticket t u ≡ true → t ≡ u
ticket_is t u e = elim (same_ticket_tells t u) [ inl s ↦ s.1 | inr g ↦ absurd (let k = g.0 in cc) ]

ticket_itself : (t : Ticket) → same_ticket t t ≡ true
ticket_itself t = grind (arith, names)

some_ticket : (t u : Ticket) → Some t ≡ Some u → t ≡ u
some_ticket t u e = cc

-- a number that is next was not given out
pub not_again : {A : Type 0} (boot given number : ℕ) → number ≡ given + 1
    → IsGivenOut boot number boot given → A
not_again boot given number e (inl f) = absurd (omega (arith, f))
not_again boot given number e (inr f) = absurd (omega (arith, e, f.1))

-- JOIN leaves the phase, but for the case of the next ticket, which it opens.

pub joins_phase : (me : ProcessId) (boot : ℕ) (c d : Case) (m : Memory) (o : Option Ticket)
    → same_case c (child_case d.txn (next_ticket me boot m)) ≡ false → (joins me boot c d m o).phase ≡ m.phase
joins_phase me boot c d m (Some t) e = refl
joins_phase me boot c d m None e = rw e refl

again_phase : (me : ProcessId) (boot : ℕ) (c d : Case) (m : Memory) (o : Option Ticket) (u : Ticket) → o
    ≡ Some u
    → (joins me boot c d m o).phase ≡ m.phase
again_phase me boot c d m (Some t) u e = refl
again_phase me boot c d m None u e = absurd (cc)

opens_next : (me : ProcessId) (boot : ℕ) (c d : Case) (m : Memory) (o : Option Ticket) → o ≡ None
    → same_case c (child_case d.txn (next_ticket me boot m)) ≡ true → live (joins me boot c d m o).phase
    ≡ true
opens_next me boot c d m (Some t) e f = absurd (cc)
opens_next me boot c d m None e f = rw f refl

-- what JOIN does
pub joined_by : (me p : ProcessId) (tree : List TreeProcess) (n : Node) (h : Heard) → n.failed ≡ false
    → (j : ℕ) (x : Case)
    → h.input ≡ MessageInput j (Join x) → (e : Effect)
    → (let place : Place = record { me = me; role = Below p; tree = tree } in
    reacts place n h ≡ Does e
    → e ≡ joins_with place p n x (memory_of place n x) (active_ticket (memory_of place n x).active x))
unfolding reacts
joined_by me p tree n h up j x i e r = does_is e _ (sym r ∙ rw (i, up) refl)
  where
    does_is : (e g : Effect) → Does e ≡ Does g → e ≡ g
    does_is e g f = cc

-- it writes nothing
pub joined_silent : (me p : ProcessId) (tree : List TreeProcess) (n : Node) (h : Heard) → n.failed ≡ false
    → (j : ℕ) (x : Case)
    → h.input ≡ MessageInput j (Join x) → (e : Effect)
    → reacts (record { me = me; role = Below p; tree = tree }) n h ≡ Does e → e.written ≡ []
joined_silent me p tree n h up j x i e r =
    let place : Place = record { me = me; role = Below p; tree = tree } in
    ap (λ (z : Effect). z.written) (joined_by me p tree n h up j x i e r)
    ∙ none (active_ticket (memory_of place n x).active x)
  where
    none : (o : Option Ticket)
        → (let place : Place = record { me = me; role = Below p; tree = tree } in
        (joins_with place p n x (memory_of place n x) o).written ≡ [])
    none (Some u) = refl
    none None = refl

module _ (c : Case) (t : Ticket) (p : ProcessId) (tree : List TreeProcess) (n : Node) (h : Heard)
    (net : List Envelope) (below : role_of tree t.child ≡ Below p) (apart : p ≡ t.child → ⊥)
    (pair : IsPair tree c t) (up : n.failed ≡ false)
    (alike : IsOpenAlike (record { me = t.child; role = Below p; tree = tree }) n (child_case c.txn t))
    (numbers : TicketNumbers (record { me = t.child; role = Below p; tree = tree }) net n)
    (pr : Presumption) (root outcome above : Bool) (half : ParentHalf) where
  abbrev d : Case
  d = child_case c.txn t

  abbrev place : Place
  place = record { me = t.child; role = Below p; tree = tree }

  abbrev q : OwnHalf
  q = own_half_at (opens place n d) n d

  abbrev v : Wire
  v = wire c t net

  abbrev R : OwnHalf → Wire → Reading
  R x w = reading_from root false outcome above half (as_child x) w

  abbrev r0 : Reading
  r0 = R q v

  abbrev boot : ℕ
  boot = boot_of (kept n)

  abbrev m : Memory
  m = memory_of place n d

  abbrev Fine : Effect → Type 0
  Fine e = Fits pr r0 (R (own_half_at (opens place (after n h e) d) (after n h e) d)
      (wire c t (net ++ e.messages)))

  abbrev says : Case → Ticket → Effect
  says x u = sends_only (post t.child p (Joined x u) ∷ [])

  was_open : opens place n d ≡ live m.phase
  was_open = open_by_phase place n d up alike

  module _ (inv : InvariantOf pr r0) (j : ℕ) (x : Case) (i : h.input ≡ MessageInput j (Join x)) where
    abbrev Then : Memory
    Then = joins t.child boot d x m (active_ticket m.active x)

    -- what this message says
    said : (u : Ticket) → wire c t (net ++ post t.child p (Joined x u) ∷ [])
        ≡ hears (said_by c t (post t.child p (Joined x u) ∷ [])) v
        → wire c t (net ++ post t.child p (Joined x u) ∷ [])
        ≡ record v { issued = (same_case x c && same_ticket u t) || v.issued }
    said u e = e ∙ ap (λ s. hears s v) (Messages.said_first c t (post t.child p (Joined x u)) []
        (Messages.none_silent c t))

    record Known (e : Effect) : Type 0 where
      alike_then : IsOpenAlike place (after n h e) d
      heard : wire c t (net ++ e.messages) ≡ hears (said_by c t e.messages) v

    remembered : (e : Effect) → e.written ≡ [] → memory_of place (after n h e) d ≡ Then
    remembered e none = memory_of-nothing place n h e d none
        ∙ ap (λ (y : Input). cascaded_remembers t.child boot d m y) i

    opens_then : (u : Ticket) → Known (says x u) → opens place (after n h (says x u)) d ≡ live Then.phase
    opens_then u k = open_by_phase place (after n h (says x u)) d up k.alike_then
        ∙ ap (λ (y : Memory). live y.phase) (remembered (says x u) refl)

    -- the half as it is then, and the net's part
    fine : (u : Ticket) → Known (says x u) → (o b : Bool) → live Then.phase ≡ o
        → ((same_case x c && same_ticket u t) || v.issued) ≡ b
        → Fits pr r0 (R (stands_so o q) (record v { issued = b })) → Fine (says x u)
    fine u k o b a e f =
        subst (λ (z : OwnHalf). Fits pr r0 (R z (wire c t (net ++ (says x u).messages))))
        (sym (own_silent (opens place n d) (opens place (after n h (says x u)) d) n h (says x u) d refl
        ∙ ap (λ y. stands_so y q) (opens_then u k ∙ a)))
        (subst (λ (z : Wire). Fits pr r0 (R (stands_so o q) z))
        (sym (said u k.heard ∙ ap (λ y. record v { issued = y }) e)) f)

    -- nothing is new
    stays : (u : Ticket) → Known (says x u) → Then.phase ≡ m.phase
        → ((same_case x c && same_ticket u t) || v.issued) ≡ v.issued → Fine (says x u)
    stays u k same e =
        fine u k (opens place n d) v.issued (ap live same ∙ sym was_open) e (Moves.unmoved pr r0 inv)

    -- what it remembers of itself is the same in each of its cases
    active_same : (memory_of place n x).active ≡ m.active
    active_same = ap (λ (s : Self). s.active) (self_same place n x d)

    given_same : (memory_of place n x).given ≡ m.given
    given_same = ap (λ (s : Self). s.given) (self_same place n x d)

    -- An active ticket is given again.
    again : (u : Ticket) → active_ticket (memory_of place n x).active x ≡ Some u → Known (says x u)
        → Fine (says x u)
    again u a k =
        stays u k
        (again_phase t.child boot d x m (active_ticket m.active x) u
        (ap (λ z. active_ticket z x) (sym active_same) ∙ a))
        (by_names (same_case x c) (same_ticket u t) refl refl)
      where
        by_names : (a b : Bool) → same_case x c ≡ a → same_ticket u t ≡ b
            → ((same_case x c && same_ticket u t) || v.issued) ≡ v.issued
        by_names true true e f =
            rw (e, f) (sym (subst (λ (y : Case). sent (is_joined_message y t) net ≡ true) (same_of x c e)
            (subst (λ (z : Ticket). sent (is_joined_message x z) net ≡ true) (ticket_is u t f)
            (numbers.active_was_joined up x x u a).1)))
        by_names true false e f = rw (e, f) refl
        by_names false b e f = rw e refl

    -- The next one is given.

    abbrev new : Ticket
    new = next_ticket t.child (boot_of (kept n)) (memory_of place n x)

    abbrev next : Ticket
    next = next_ticket t.child (boot_of (kept n)) (memory_of place n d)

    next_same : new ≡ next
    next_same = ap (λ (k : ℕ). record { child = t.child; boot = boot; number = k + 1 }) given_same

    fresh : active_ticket (memory_of place n x).active x ≡ None → Known (says x new) → Fine (says x new)
    fresh none k = by_case (same_case d (child_case x.txn next)) refl
      where
        -- the ticket is of another case
        other : same_case d (child_case x.txn next) ≡ false
            → ((same_case x c && same_ticket new t) || v.issued) ≡ v.issued
        other e = by_names (same_case x c) (same_ticket new t) refl refl
          where
            by_names : (a b : Bool) → same_case x c ≡ a → same_ticket new t ≡ b
                → ((same_case x c && same_ticket new t) || v.issued) ≡ v.issued
            by_names true false f g = rw (f, g) refl
            by_names false b f g = rw f refl
            by_names true true f g =
                absurd (let z = sym e
                ∙ (ap (λ (y : Case). same_case d (child_case y.txn next)) (same_of x c f)
                ∙ (ap (λ (u : Ticket). same_case d (child_case c.txn u)) (sym next_same ∙ ticket_is new t g)
                ∙ same_case-refl d)) in cc)

        -- the ticket is this one
        this : same_case d (child_case x.txn next) ≡ true → t ≡ new
        this e = some_ticket t next (ap (λ (y : Case). y.ticket) (same_of d (child_case x.txn next) e))
            ∙ sym next_same

        opened : same_case d (child_case x.txn next) ≡ true → live Then.phase ≡ true
        opened e = opens_next t.child boot d x m (active_ticket m.active x)
            (ap (λ z. active_ticket z x) (sym active_same) ∙ none) e

        never : {A : Type 0} → sent (is_joined_message c new) net ≡ true → A
        never f = not_again boot (memory_of place n (some_case place)).given (new).number
            (ap (λ (s : Self). s.given + 1) (self_same place n x (some_case place)))
            (numbers.given_once up c new refl f)

        not_issued : same_case d (child_case x.txn next) ≡ true → v.issued ≡ false
        not_issued e = by_test v.issued refl
          where
            by_test : (b : Bool) → v.issued ≡ b → v.issued ≡ false
            by_test true f = never (subst (λ (u : Ticket). sent (is_joined_message c u) net ≡ true)
                (this e) f)
            by_test false f = f

        -- given to the pair's case, or to another case of its transaction
        gives_it : same_case d (child_case x.txn next) ≡ true → (b : Bool) → same_case x c ≡ b
            → Fine (says x new)
        gives_it e true f =
            fine new k true true (opened e)
            (rw (f, ap (λ (u : Ticket). same_ticket u t) (sym (this e)) ∙ ticket_itself t) refl)
            (subst (λ (z : Reading). Fits pr r0 z)
            (sym (Readings.reading-issued root outcome above half q v (not_issued e)))
            (Moves.issues pr r0 inv (record { fresh = not_issued e; up = up })))
        gives_it e false f =
            fine new k true v.issued (opened e) (ap (λ (b : Bool). (b && same_ticket new t) || v.issued) f)
            (subst (λ (z : Reading). Fits pr r0 z)
            (sym (Readings.reading-unissued root outcome above half q v true (not_issued e)))
            (Moves.unmoved pr r0 inv))

        by_case : (b : Bool) → same_case d (child_case x.txn next) ≡ b → Fine (says x new)
        by_case false e = stays new k (joins_phase t.child boot d x m (active_ticket m.active x) e) (other e)
        by_case true e = gives_it e (same_case x c) refl

    by_active : (o : Option Ticket) → active_ticket (memory_of place n x).active x ≡ o
        → Known (joins_with place p n x (memory_of place n x) o)
        → Fine (joins_with place p n x (memory_of place n x) o)
    by_active (Some u) a k = again u a k
    by_active None a k = fresh a k

    pub join_fits : (e : Effect) → reacts place n h ≡ Does e → IsOpenAlike place (after n h e) d
        → AllSentBy t.child e.messages → AllGo tree e.messages → Fine e
    join_fits e r a s g =
        let same = joined_by t.child p tree n h up j x i e r in
        let k : Known e = record {
          alike_then = a;
          heard = wire_behind tree t.child p below apart c t pair refl net e.messages s g;
        } in
        subst (λ (z : Effect). Fine z) (sym same)
        (by_active (active_ticket (memory_of place n x).active x) refl
        (subst (λ (z : Effect). Known z) same k))
