-- A case is born: the root begins it, or JOIN makes it; on the pair.
use Rattle.std.proofs.Common.{◌≡◌, ◌+◌, ◌∙◌, inl, inr, ℕ, Bool, true, false, ◌||◌, Some, None, [], ◌∷◌, ◌++◌, refl, sym, ap, subst, arith, if◌then◌else◌}
use Rattle.protocol.specs.declared.names.Case.{Case}
use Rattle.protocol.specs.declared.names.ProcessId.{ProcessId}
use Rattle.protocol.specs.declared.names.Ticket.{Ticket}
use Rattle.protocol.specs.declared.names.Txn.{Txn}
use Rattle.protocol.specs.declared.names.Outcome.{Outcome}
use Rattle.protocol.specs.declared.names.Presumption.{Presumption}
use Rattle.protocol.specs.declared.messages.Message.TheVariants.{Join, Joined}
use Rattle.protocol.specs.declared.events.Act.TheVariants.{Begin}
use Rattle.protocol_words.specs.Variants.{ActInput}
use Rattle.protocol.specs.Names.{same_case, same_ticket, child_case, root_case}
use Rattle.protocol.specs.NameLaws.{same_case_tells, same_ticket_tells, names}
use Rattle.protocol.specs.Records.{boot_of, in_list}
use Rattle.protocol.specs.Nodes.{Effect, after, kept}
use Rattle.protocol.specs.Memory.{Memory, Open, memory_of, active_ticket, next_ticket, opens_case, gives, joins, has_acked}
use Rattle.protocol.specs.CoordinatorRows.{post}
use Rattle.protocol.specs.Outcomes.{sent, is_joined_message}
use Rattle.protocol.specs.Reactions.{sends_only}
use Rattle.protocol.specs.Standings.{some_case}
use Rattle.protocol.specs.Views.{IsOpenAlike, begin_effect, next_begun}
use Rattle.proof_pairs.specs.Invariant.{Common}
use Rattle.proof_pairs.specs.RootMoves
use Rattle.proof_pairs.specs.CascadedMoves
use Rattle.proof_pairs.specs.readings.ReadingOf.{ParentHalf, Wire, wire, gives_case, is_refused}
use Rattle.proof_pairs.proofs.readings.Named.{in_list-none}
use Rattle.proof_pairs.specs.turns.LeafTurns.{Hears}
use Rattle.proof_processes.specs.WorldHolds.{RootHolds, Issues, IsGivenOut, RoleHolds}
use Rattle.proof_processes.proofs.GivenCases.{sent_other, joined_gives}
use Rattle.proof_processes.proofs.PairOf.{given}
use Rattle.proof_steps.proofs.children.Moves.{unmoved}
use Rattle.proof_steps.proofs.parents.Halves.{acked_of, remembered_half}
use Rattle.proof_steps.proofs.parents.Known.{clash}
use Rattle.proof_steps.proofs.parents.Memories
use Rattle.proof_steps.proofs.parents.Memories.{Alike, below_is, itself, stays, top_is}
use Rattle.proof_steps.proofs.parents.Moves
use Rattle.proof_steps.proofs.parents.Own
use Rattle.proof_steps.proofs.parents.OwnMoves.{read_as}
use Rattle.proof_steps.proofs.parents.OwnPromised.{is_below}
use Rattle.proof_steps.proofs.parents.Quiet.{DoesNothing, did_nothing, begun_silent, shown}
use Rattle.proof_steps.proofs.parents.Readings
use Rattle.proof_steps.proofs.parents.Turns.{Turn, Says, Fine, Fits_in, seen, remembered, then_remembered, half, net_part, told_outcome, reading, at_root, fine_silent}
use Rattle.proof_steps.proofs.parents.Wires
use Rattle.proof_steps.proofs.parents.Writes.{stands_so, begun_after}

no_acks : (o : Outcome) (t : Ticket) → has_acked [] o t ≡ false
unfolding has_acked
no_acks o t = refl

not_obeyed : (r x o d : Bool) → r ≡ false → is_refused r x o d ≡ false → o ≡ false
not_obeyed true x o d e f = absurd (cc)
not_obeyed false x true d e f = absurd (cc)
not_obeyed false x false d e f = refl

module _ (turn : Turn) where
  open turn use {
    place,
    parent,
    seat,
    n,
    h,
    net,
    c,
    t,
    manager,
    above,
    k,
    up,
    inv,
    holds,
    self,
    apart,
    by_role,
    joined_is_born,
    rooted,
  }

  abbrev m : Memory
  m = remembered turn

  abbrev p0 : ParentHalf
  p0 = half turn

  abbrev v0 : Wire
  v0 = net_part turn

  abbrev root : Bool
  root = at_root turn

  abbrev boot : ℕ
  boot = boot_of (kept n)

  -- What only sends, and leaves the half.

  only_sends : (e : Effect) → e.written ≡ [] → DoesNothing turn e → IsOpenAlike place (after n h e) c
      → Says turn m.phase p0.accepted p0.acked
      → wire c t (net ++ e.messages) ≡ v0 → Fine turn e
  only_sends e none d later says w =
      fine_silent turn e later m.phase p0.accepted p0.acked says v0 w none
      (subst (λ (x : ParentHalf). Fits_in turn
      (seen turn (told_outcome turn)
      (stands_so false m.phase p0.accepted p0.acked (begun_after m.phase (after n h e) c) x) v0))
      (sym (did_nothing turn e p0 d))
      (subst (λ (y : Bool). Fits_in turn
      (seen turn (told_outcome turn) (stands_so false m.phase p0.accepted p0.acked y p0) v0))
      (sym (begun_silent turn e none d))
      (subst (λ (y : ParentHalf). Fits_in turn (seen turn (told_outcome turn) y v0))
      (sym (shown turn p0.acked))
      (unmoved c.txn.presumption (reading turn) inv))))

  -- An unborn case has nothing.

  unborn_half : (reading turn).born ≡ false → (p0.accepted ≡ false) × (p0.acked ≡ false)
  unborn_half e = (by_accepted p0.accepted refl, by_acked p0.acked refl)
    where
      common : Common (reading turn)
      common = Own.common turn

      by_accepted : (b : Bool) → p0.accepted ≡ b → p0.accepted ≡ false
      by_accepted false f = f
      by_accepted true f = clash p0.took_part (common.accepted_took_part f) (common.unborn e).not_accepted

      by_acked : (b : Bool) → p0.acked ≡ b → p0.acked ≡ false
      by_acked false f = f
      by_acked true f = clash (reading turn).born
          (joined_is_born (common.ack_means (common.ack_was_sent f)).issued) e

  -- The ticket that answers JOIN.

  issues : (p : ProcessId) → parent ≡ Some p → Issues place net n
  issues p s =
      below_is place.role parent seat (λ r. RoleHolds r place net n → Issues place net n) p s (λ x. x.1.1)
      by_role

  not_childs_ticket : (u : Ticket) → u.child ≡ place.me → same_ticket u t ≡ false
  not_childs_ticket u e = elim (same_ticket_tells u t) [
    | inl same ↦ absurd (apart (ap (λ (x : Ticket). x.child) (sym same.1) ∙ e))
    | inr f ↦ f.0
  ]

  joined_case : (d : Case) (u : Ticket) → sent (is_joined_message d u) net ≡ true
      → same_case (child_case d.txn u) c ≡ true → v0.given ≡ true
  joined_case d u s e = elim (same_case_tells (child_case d.txn u) c) [
    | inl z ↦ subst (λ (x : Case). sent (gives_case x) net ≡ true) z.1
        (sent_other (is_joined_message d u) (gives_case (child_case d.txn u)) net (joined_gives d u) s)
    | inr z ↦ clash (same_case (child_case d.txn u) c) e z.0
  ]

  abbrev pub answer : ProcessId → Case → Ticket → Effect
  answer p d u = sends_only (post place.me p (Joined d u) ∷ [])

  nothing_done : (p : ProcessId) (d : Case) (u : Ticket) → DoesNothing turn (answer p d u)
  nothing_done p d u =
      record {
        accepts = refl;
        yes_votes = refl;
        no_votes = refl;
        read_votes = refl;
        committed = refl;
        aborted = refl;
        told = refl;
      }

  pub again_says : (p : ProcessId) (d : Case) (u : Ticket) → parent ≡ Some p → Hears h (Join d)
      → active_ticket (memory_of place n d).active d ≡ Some u → Says turn m.phase p0.accepted p0.acked
  again_says p d u s i e =
      let here : active_ticket m.active d ≡ Some u = ap (λ as'. active_ticket as' d) (self d c).active ∙ e in
      stays turn m (Memories.join_comes turn d i.0 p s i.1 ∙ ap (λ o. joins place.me boot c d m o) here)
      (itself turn)

  pub gives_again : (p : ProcessId) (d : Case) (u : Ticket) → parent ≡ Some p → Hears h (Join d)
      → active_ticket (memory_of place n d).active d ≡ Some u → IsOpenAlike place (after n h (answer p d u)) c
      → Fine turn (answer p d u)
  gives_again p d u s i e later =
      only_sends (answer p d u) refl (nothing_done p d u) later (again_says p d u s i e)
      (by_test ((issues p s).active_was_joined up d d u e) (same_case (child_case d.txn u) c) refl)
    where
      by_test : (u.child ≡ place.me) × (sent (is_joined_message d u) net ≡ true) → (b : Bool)
          → same_case (child_case d.txn u) c ≡ b
          → wire c t (net ++ post place.me p (Joined d u) ∷ []) ≡ v0
      by_test o false f = Wires.wire-joined c t net place.me p d u false (not_childs_ticket u o.0) f
      by_test o true f =
          Wires.wire-joined c t net place.me p d u true (not_childs_ticket u o.0) f
          ∙ ap (λ b. record v0 { given = b }) (sym (joined_case d u o.1 f))

  abbrev pub fresh : Case → Ticket
  fresh d = next_ticket place.me boot (memory_of place n d)

  not_again : {A : Type 0} (now given number : ℕ) → number ≡ given + 1 → IsGivenOut now number now given → A
  not_again now given number e (inl f) = absurd (omega (arith, f))
  not_again now given number e (inr f) = absurd (omega (arith, e, f.1))

  -- the fresh ticket's case
  abbrev pub IsFresh : Case → Bool → Type 0
  IsFresh d b = same_case c (child_case d.txn (fresh d)) ≡ b

  -- was not given before
  not_given : (p : ProcessId) → parent ≡ Some p → (d : Case) → IsFresh d true → v0.given ≡ false
  not_given p s d e = by_test v0.given refl
    where
      is_it : c ≡ child_case d.txn (fresh d)
      is_it = elim (same_case_tells c (child_case d.txn (fresh d))) [
        | inl z ↦ z.1
        | inr z ↦ clash (same_case c (child_case d.txn (fresh d))) e z.0
      ]

      by_test : (b : Bool) → v0.given ≡ b → v0.given ≡ false
      by_test false f = f
      by_test true f =
          let g = given net d.txn (fresh d) (subst (λ (x : Case). sent (gives_case x) net ≡ true) is_it f) in
          not_again boot (memory_of place n (some_case place)).given (fresh d).number
          (ap (λ x. x + 1) (self (some_case place) d).given)
          ((issues p s).given_once up g.of (fresh d) refl g.joined)

  abbrev next_by : ℕ → Ticket
  next_by x = record { child = place.me; boot = boot; number = x + 1 }

  abbrev is_as : (b : Bool) (d : Case) → Memory
  is_as b d = if b then opens_case (gives m d (fresh d)) else gives m d (fresh d)

  module _ (p : ProcessId) (d : Case) (s : parent ≡ Some p) (i : Hears h (Join d))
      (e : active_ticket (memory_of place n d).active d ≡ None) where
    fresh_now : (b : Bool) → IsFresh d b → then_remembered turn ≡ is_as b d
    fresh_now b f =
        Memories.join_comes turn d i.0 p s i.1
        ∙ (ap (λ o. joins place.me boot c d m o) (ap (λ as'. active_ticket as' d) (self d c).active ∙ e)
        ∙ (ap (λ (u : Ticket). if same_case c (child_case d.txn u) then opens_case (gives m d u) else
        gives m d u)
        (ap next_by (self d c).given)
        ∙ ap (λ b. is_as b d) f))

    pub fresh_elsewhere : IsFresh d false → Says turn m.phase p0.accepted p0.acked
    fresh_elsewhere f =
        stays turn (is_as false d) (fresh_now false f) (record { phase = refl; accepted = refl; acks = refl })

    pub fresh_unborn : IsFresh d true → (reading turn).born ≡ false
    fresh_unborn f =
        let b = is_below turn p s in
        let none = not_given p s d f in
        rw (b, none) refl

    pub fresh_says : IsFresh d true → Says turn Open p0.accepted p0.acked
    fresh_says f =
        let has = unborn_half (fresh_unborn f) in
        record {
          phase = ap (λ (y : Memory). y.phase) (fresh_now true f);
          accepted_so = ap (λ (y : Memory). in_list y.accepted t) (fresh_now true f)
              ∙ (in_list-none t ∙ sym has.0);
          acked_so = ap (λ (y : Memory). acked_of y c t) (fresh_now true f) ∙ (no_acks _ t ∙ sym has.1);
        }

    reversed : (b : Bool) → IsFresh d b → same_case (child_case d.txn (fresh d)) c ≡ b
    reversed b f = swapped (child_case d.txn (fresh d)) c ∙ f
      where
        swapped : (x y : Case) → same_case x y ≡ same_case y x
        swapped x y = grind (arith, names)

    sent_wire : (b : Bool) → IsFresh d b
        → wire c t (net ++ post place.me p (Joined d (fresh d)) ∷ []) ≡ record v0 { given = b || v0.given }
    sent_wire b f = Wires.wire-joined c t net place.me p d (fresh d) b (not_childs_ticket (fresh d) refl)
        (reversed b f)

    by_fresh : IsOpenAlike place (after n h (answer p d (fresh d))) c → (b : Bool) → IsFresh d b
        → Fine turn (answer p d (fresh d))
    by_fresh later false f =
        only_sends (answer p d (fresh d)) refl (nothing_done p d (fresh d)) later (fresh_elsewhere f)
        (sent_wire false f)
    by_fresh later true f =
        let b = is_below turn p s in
        let none = not_given p s d f in
        let unborn = fresh_unborn f in
        let u = (Own.common turn).unborn unborn in
        let w : Wire = record v0 { given = true } in
        fine_silent turn (answer p d (fresh d)) later Open p0.accepted p0.acked (fresh_says f) w
        (sent_wire true f) refl
        (read_as turn _ _
        (subst (λ y. Readings.R manager above k c t y (told_outcome turn)
        (stands_so false Open p0.accepted p0.acked true p0) w
        ≡ CascadedMoves.is_born (Readings.R manager above k c t y (told_outcome turn) p0 v0)) (sym b)
        (Readings.reading-born manager above k c t (told_outcome turn) p0 v0 none
        (not_obeyed root _ p0.obeyed_abort _ b u.not_refused)))
        (Moves.is_born c.txn.presumption (reading turn) inv
        (record { cascaded = b; fresh = unborn; up = up })))

    pub gives_fresh : IsOpenAlike place (after n h (answer p d (fresh d))) c
        → Fine turn (answer p d (fresh d))
    gives_fresh later = by_fresh later (same_case c (child_case d.txn (fresh d))) refl

  -- The root begins.

  abbrev pub begun_txn : Presumption → Txn
  begun_txn q = next_begun place n q

  begins_nothing : (q : Presumption) → DoesNothing turn (begin_effect (begun_txn q))
  begins_nothing q =
      record {
        accepts = refl;
        yes_votes = refl;
        no_votes = refl;
        read_votes = refl;
        committed = refl;
        aborted = refl;
        told = refl;
      }

  abbrev opened_as : (b : Bool) → Memory
  opened_as b = if b then opens_case (record m { begun = m.begun + 1 }) else record m { begun = m.begun + 1 }

  abbrev txn_by : Presumption → ℕ → Txn
  txn_by q x = record { root = place.me; boot = boot; sequence = x + 1; presumption = q }

  root_begins : parent ≡ None → RootHolds place n
  root_begins s = top_is place.role parent seat (λ r. RoleHolds r place net n → RootHolds place n) s
      (λ x. x.1) by_role

  -- the transaction that begins is the case's
  abbrev pub IsNew : Presumption → Bool → Type 0
  IsNew q b = same_case (root_case (begun_txn q)) c ≡ b

  module _ (q : Presumption) (s : parent ≡ None) (i : h.input ≡ ActInput (Begin q)) where
    begin_now : (b : Bool) → IsNew q b → then_remembered turn ≡ opened_as b
    begin_now b f =
        Memories.begin_act turn q s i
        ∙ (ap (λ x. if same_case (root_case (txn_by q x)) c then opens_case
        (record m { begun = m.begun + 1 }) else record m { begun = m.begun + 1 })
        (self (some_case place) c).begun
        ∙ ap opened_as f)

    pub begin_elsewhere : IsNew q false → Says turn m.phase p0.accepted p0.acked
    begin_elsewhere f =
        stays turn (opened_as false) (begin_now false f)
        (record { phase = refl; accepted = refl; acks = refl })

    pub at_the_root : root ≡ true
    at_the_root = Own.seat_is turn (λ s' e. e) (λ p s' e. absurd (let z = sym s ∙ s' in cc))

    pub not_begun : IsNew q true → p0.begun ≡ false
    not_begun f = by_begun p0.begun refl
      where
        is_it : root_case (begun_txn q) ≡ c
        is_it = elim (same_case_tells (root_case (begun_txn q)) c) [
          | inl z ↦ z.1
          | inr z ↦ clash (same_case (root_case (begun_txn q)) c) f z.0
        ]

        by_begun : (b : Bool) → p0.begun ≡ b → p0.begun ≡ false
        by_begun false g = g
        by_begun true g =
            not_again boot (memory_of place n (some_case place)).begun (begun_txn q).sequence refl
            (((root_begins s).begun_once up (begun_txn q)
            (subst (λ (x : Case). (remembered_half (memory_of place n x) n x t).begun ≡ true) (sym is_it)
            g)).1)

    pub begin_unborn : IsNew q true → (reading turn).born ≡ false
    begin_unborn f = rw (at_the_root) (not_begun f)

    pub begin_says : IsNew q true → Says turn Open p0.accepted p0.acked
    begin_says f =
        let has = unborn_half (begin_unborn f) in
        record {
          phase = ap (λ (y : Memory). y.phase) (begin_now true f);
          accepted_so = ap (λ (y : Memory). in_list y.accepted t) (begin_now true f)
              ∙ (in_list-none t ∙ sym has.0);
          acked_so = ap (λ (y : Memory). acked_of y c t) (begin_now true f) ∙ (no_acks _ t ∙ sym has.1);
        }

    pub begin_fits : IsNew q true → Fits_in turn (RootMoves.begins (reading turn))
    begin_fits f =
        Moves.begins c.txn.presumption (reading turn) inv
        (record { root = at_the_root; fresh = begin_unborn f; up = up })

    by_new : IsOpenAlike place (after n h (begin_effect (begun_txn q))) c → (b : Bool) → IsNew q b
        → Fine turn (begin_effect (begun_txn q))
    by_new later false f =
        only_sends (begin_effect (begun_txn q)) refl (begins_nothing q) later (begin_elsewhere f)
        (Wires.wire-nothing c t net)
    by_new later true f =
        fine_silent turn (begin_effect (begun_txn q)) later Open p0.accepted p0.acked (begin_says f) v0
        (Wires.wire-nothing c t net) refl
        (read_as turn _ _
        (subst (λ y. Readings.R manager above k c t y (told_outcome turn)
        (stands_so false Open p0.accepted p0.acked true p0) v0
        ≡ RootMoves.begins (Readings.R manager above k c t y (told_outcome turn) p0 v0)) (sym at_the_root)
        (Readings.reading-begins manager above k c t (told_outcome turn) p0 v0 (not_begun f)))
        (begin_fits f))

    pub begins : IsOpenAlike place (after n h (begin_effect (begun_txn q))) c
        → Fine turn (begin_effect (begun_txn q))
    begins later = by_new later (same_case (root_case (begun_txn q)) c) refl
