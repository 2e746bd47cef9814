-- Turns of the pair's own case while it is Active, on the pair.
use Rattle.std.proofs.Common.{◌≡◌, ◌∙◌, inl, Bool, true, false, ◌||◌, List, [], ◌∷◌, ◌++◌, refl, sym, ap, subst, arith, if◌then◌else◌}
use Rattle.std.proofs.lemmas.List.Folds.{list_any-append}
use Rattle.protocol.specs.declared.names.Ticket.{Ticket}
use Rattle.protocol_words.specs.Variants.{AbortedOutcome, CollectingRecord}
use Rattle.protocol.specs.declared.names.Presumption.{Presumption}
use Rattle.protocol.specs.declared.names.Presumption.TheVariants.{PresumeAbort, PresumeCommit}
use Rattle.protocol.specs.declared.messages.Message.TheVariants.{Joined, Read, Abort}
use Rattle.protocol.specs.declared.standings.Standing.TheVariants.{Active}
use Rattle.protocol.specs.Names.{same_ticket}
use Rattle.protocol.specs.NameLaws.{same_case-refl, same_txn-refl}
use Rattle.protocol.specs.Records.{has, in_list, none_of, is_prepare}
use Rattle.protocol.specs.Memory.{Memory, Phase, Idle, Open, Asked, Over, has_child, accepts_ticket}
use Rattle.protocol.specs.CoordinatorRows.{Row, Reason, quiet, each, posted_up, prepares, active_commit_alone, active_commit_with, active_abort, acknowledges_abort}
use Rattle.protocol.specs.Outcomes.{is_joined_message}
use Rattle.protocol.specs.Reactions.{row_effect, seat_of}
use Rattle.protocol.specs.Standings.{CoordinatorView}
use Rattle.proof_pairs.specs.Reading as pair
use Rattle.proof_pairs.specs.Reading.{Reading}
use Rattle.proof_pairs.specs.ParentMoves
use Rattle.proof_pairs.specs.RootMoves
use Rattle.proof_pairs.specs.CascadedMoves
use Rattle.proof_pairs.specs.readings.ReadingOf.{ParentHalf, Wire, wire}
use Rattle.proof_pairs.specs.turns.CoordinatorTurns.{IsToCommit, IsToAbort}
use Rattle.proof_pairs.specs.turns.LeafTurns.{Hears}
use Rattle.proof_processes.specs.WorldHolds.{InvariantOf}
use Rattle.proof_processes.proofs.Deliveries.{was_sent}
use Rattle.proof_steps.proofs.children.Moves.{unmoved}
use Rattle.proof_steps.proofs.parents.Halves.{acked_of}
use Rattle.proof_steps.proofs.parents.Memories
use Rattle.proof_steps.proofs.parents.Moves
use Rattle.proof_steps.proofs.parents.Own
use Rattle.proof_steps.proofs.parents.Own.{Goes, told_so}
use Rattle.proof_steps.proofs.parents.OwnMoves.{own_silent, own_forced, forced_first, and_then, read_as, asked_above, up_part}
use Rattle.proof_steps.proofs.parents.OwnQuiet.{After, not_childs}
use Rattle.proof_steps.proofs.parents.Readings
use Rattle.proof_steps.proofs.parents.Readings.{Live}
use Rattle.proof_steps.proofs.parents.Tables.{none_in}
use Rattle.proof_steps.proofs.parents.Turns.{Turn, Says, Fine, Fits_in, seen, remembered, half, net_part, told_outcome, reading, at_root, fine_silent}
use Rattle.proof_steps.proofs.parents.Wires
use Rattle.proof_steps.proofs.parents.Wires.{Silent, silent_before}
use Rattle.proof_steps.proofs.parents.Writes.{did, stands_so}

or-false : (a : Bool) → (a || false) ≡ a
or-false a = grind arith

in_list-push : (ts : List Ticket) (u t : Ticket) → in_list (ts ++ u ∷ []) t
    ≡ (in_list ts t || same_ticket u t)
unfolding in_list
in_list-push ts u t = grind (arith, list_any-append)

module _ (turn : Turn) where
  open turn use {place, parent, n, h, net, c, t, manager, above, k, up, inv, stands}

  abbrev m : Memory
  m = remembered turn

  abbrev p0 : ParentHalf
  p0 = half turn

  abbrev v0 : Wire
  v0 = net_part turn

  abbrev o0 : Bool
  o0 = told_outcome turn

  abbrev root : Bool
  root = at_root turn

  abbrev v : CoordinatorView
  v = Own.v turn

  abbrev R : Bool → ParentHalf → Wire → Reading
  R o p w = seen turn o p w

  abbrev F : Reading → Type 0
  F r = Fits_in turn r

  pub active_phase : v.standing ≡ Active → p0.phase ≡ pair.Active
  active_phase e = Own.phase_is turn Open pair.Active (Own.active_open turn e) refl

  pub alive : v.standing ≡ Active → Live root o0 p0 v0
  alive e = Own.live turn (inl (Own.active_open turn e))

  pub accepted_in_view : v.standing ≡ Active → in_list v.accepted t ≡ p0.accepted
  accepted_in_view e = ap (λ ts. in_list ts t) (Own.active_accepted turn e)

  -- JOINED is accepted.

  joined_memory : (u : Ticket) (ph : Phase) → ph ≡ Open → has_child m.accepted u.child ≡ false
      → accepts_ticket m u ph ≡ record m { accepted = m.accepted ++ u ∷ [] }
  joined_memory u Open e f = rw f refl
  joined_memory u Idle e f = absurd (cc)
  joined_memory u Asked e f = absurd (cc)
  joined_memory u Over e f = absurd (cc)

  pub joined_says : (u : Ticket) → Hears h (Joined c u) → v.standing ≡ Active
      → has_child v.accepted u.child ≡ false
      → Says turn Open (p0.accepted || same_ticket u t) p0.acked
  joined_says u i e f =
      let o = Own.active_open turn e in
      let g : has_child m.accepted u.child ≡ false =
      ap (λ ts. has_child ts u.child) (sym (Own.active_accepted turn e)) ∙ f in
      let x = Memories.joined_comes turn c u i.0 i.1
      ∙ (rw (same_case-refl c) refl ∙ joined_memory u m.phase o g) in
      record {
        phase = ap (λ (y : Memory). y.phase) x ∙ o;
        accepted_so = ap (λ (y : Memory). in_list y.accepted t) x ∙ in_list-push m.accepted u t;
        acked_so = ap (λ (y : Memory). acked_of y c t) x;
      }

  pub accepts_fits : (u : Ticket) → Hears h (Joined c u) → v.standing ≡ Active → (b : Bool)
      → same_ticket u t ≡ b
      → F (if b then ParentMoves.accepts (reading turn) else reading turn)
  accepts_fits u i e false f = unmoved c.txn.presumption (reading turn) inv
  accepts_fits u i e true f =
      Moves.accepts c.txn.presumption (reading turn) inv (record {
        active = active_phase e;
        joined = was_sent (is_joined_message c t) net place.me h.input i.0 (Joined c u) stands i.1
            (rw (same_case-refl c, f) refl);
      })

  pub accepts : (u : Ticket) → Hears h (Joined c u) → v.standing ≡ Active → has_child v.accepted u.child
      ≡ false
      → (row : Row)
      → row ≡ record (quiet (record v { accepted = v.accepted ++ u ∷ [] })) { accepts = u ∷ [] }
      → After turn row → Fine turn (row_effect c row)
  accepts u i e f row is later =
      let b = same_ticket u t in
      let did_so : did (row_effect c row) c t p0 ≡ record p0 { took_part = b || p0.took_part } =
      rw is (simp (same_case-refl, or-false)) in
      fine_silent turn (row_effect c row) later.alike Open (p0.accepted || b) p0.acked
      (joined_says u i e f) v0
      (rw is (Wires.wire-nothing c t net)) (rw is refl)
      (subst (λ (x : ParentHalf). F (R o0 (stands_so false Open (p0.accepted || b) p0.acked true x) v0))
      (sym did_so)
      (read_as turn _ _ (Readings.reading-accepts manager above k c t root o0 b p0 v0 (active_phase e)
      (alive e).begun)
      (accepts_fits u i e b refl)))

  -- It is to commit, and finds nobody.

  pub nobody_says : IsToCommit parent h c → v.standing ≡ Active → none_of v.accepted ≡ true → Goes turn Over
  nobody_says i e f =
      let g : none_of m.accepted ≡ true = ap none_of (sym (Own.active_accepted turn e)) ∙ f in
      subst (λ b. Goes turn (if b then Over else Asked)) g (Own.to_commit turn i (Own.active_open turn e))

  pub finds_nobody : IsToCommit parent h c → v.standing ≡ Active → none_of v.accepted ≡ true
      → After turn (active_commit_alone (seat_of place parent c))
      → Fine turn (row_effect c (active_commit_alone (seat_of place parent c)))
  finds_nobody i e f later =
      Own.seat_is turn
      (λ s is_root. own_silent turn row later Over (nobody_says i e f) v0
      (ap (λ o. wire c t (net ++ posted_up place.me o (Read c))) s ∙ Wires.wire-nothing c t net) p0 told refl
      (read_as turn _ _
      (subst (λ b. Live b o0 p0 v0 → Readings.R manager above k c t b o0
      (stands_so false Over p0.accepted p0.acked true p0) v0
      ≡ RootMoves.ends_empty (Readings.R manager above k c t b o0 p0 v0)) (sym is_root)
      (λ l. Readings.reading-ends manager above k c t o0 p0 v0 l) (alive e))
      (Moves.ends_empty c.txn.presumption (reading turn) inv
      (record { root = is_root; active = active_phase e; empty = nobody }))))
      (λ p s is_below. own_silent turn row later Over (nobody_says i e f) (record v0 { read_up = true })
      (ap (λ o. wire c t (net ++ posted_up place.me o (Read c))) s
      ∙ Wires.wire-read_up c t net place.me p (not_childs turn)) p0 told refl
      (read_as turn _ _
      (subst (λ b. Live b o0 p0 v0 → Readings.R manager above k c t b o0
      (stands_so false Over p0.accepted p0.acked true p0) (record v0 { read_up = true })
      ≡ CascadedMoves.reads_empty (Readings.R manager above k c t b o0 p0 v0)) (sym is_below)
      (λ l. Readings.reading-reads manager above k c t o0 p0 v0 l) (alive e))
      (Moves.reads_empty c.txn.presumption (reading turn) inv
      (record {
        cascaded = is_below;
        active = active_phase e;
        takes_part = up_part turn is_below
            (asked_above turn i is_below);
        empty = nobody;
      }))))
    where
      row : Row
      row = active_commit_alone (seat_of place parent c)

      nobody : p0.accepted ≡ false
      nobody = sym (accepted_in_view e) ∙ none_in v.accepted t f

      told : did (row_effect c row) c t p0 ≡ p0
      told = Own.did_tell turn (row_effect c row) false false p0 refl refl (Own.read_no_commit turn)
          (Own.read_no_abort turn)

  -- It asks for votes.

  pub asks_says : IsToCommit parent h c → v.standing ≡ Active → none_of v.accepted ≡ false → Goes turn Asked
  asks_says i e f =
      let g : none_of m.accepted ≡ false = ap none_of (sym (Own.active_accepted turn e)) ∙ f in
      subst (λ b. Goes turn (if b then Over else Asked)) g (Own.to_commit turn i (Own.active_open turn e))

  prepares_to : v.standing ≡ Active
      → wire c t (net ++ prepares (seat_of place parent c) v)
      ≡ record v0 { prepare = p0.accepted || v0.prepare }
  prepares_to e =
      Wires.wire-prepares c t net (seat_of place parent c) v v.accepted p0.accepted
      (rw (same_txn-refl c.txn) (accepted_in_view e))

  pub no_collects : v.standing ≡ Active → c.txn.presumption ≡ PresumeCommit → p0.collects ≡ false
  no_collects e q =
      by_test p0.collects refl
    where
      stands_for : (pr : Presumption) → pr ≡ PresumeCommit
          → InvariantOf pr (reading turn) → p0.collects ≡ true → p0.collecting_kept ≡ true
      stands_for PresumeCommit q i x = (i.collects_stands x).0
      stands_for PresumeAbort q i x = absurd (cc)

      by_test : (b : Bool) → p0.collects ≡ b → p0.collects ≡ false
      by_test false x = x
      by_test true x = absurd (let y = stands_for c.txn.presumption q inv x in let z =
          ((Own.common turn).not_asked (active_phase e)).no_collecting in
          let w = sym y ∙ z in cc)

  pub asks_for_votes : (p : Presumption) → IsToCommit parent h c → v.standing ≡ Active
      → none_of v.accepted ≡ false
      → c.txn.presumption ≡ p → After turn (active_commit_with (seat_of place parent c) v p)
      → Fine turn (row_effect c (active_commit_with (seat_of place parent c) v p))
  asks_for_votes PresumeAbort i e f q later =
      own_silent turn (active_commit_with (seat_of place parent c) v PresumeAbort) later Asked
      (asks_says i e f)
      (record v0 { prepare = p0.accepted || v0.prepare }) (prepares_to e) p0 refl refl
      (read_as turn _ _ (Readings.reading-asks manager above k c t root o0 p0 v0 (active_phase e)
      (alive e).begun)
      (Moves.asks_for_votes c.txn.presumption q (reading turn) inv
      (record { active = active_phase e; asked_above = λ x. up_part turn x (asked_above turn i x) })))
  asks_for_votes PresumeCommit i e f q later =
      own_forced turn (active_commit_with (seat_of place parent c) v PresumeCommit) later Asked
      (asks_says i e f)
      (record v0 { prepare = p0.accepted || v0.prepare }) (prepares_to e) p0 refl
      (CollectingRecord c v.accepted) (λ x. refl) refl
      (read_as turn _ _
      (Readings.reading-collects manager above k c t root o0 (has (is_prepare c) n.life) v.accepted p0 v0
      (active_phase e) (alive e).begun
      (accepted_in_view e) (no_collects e q))
      (let first = forced_first turn in
      and_then turn (ParentMoves.hardens_parent (reading turn)) _ first
      (Moves.collects_votes c.txn.presumption q (ParentMoves.hardens_parent (reading turn)) first.invariant
      (record { active = active_phase e; asked_above = λ x. up_part turn x (asked_above turn i x) }))))

  -- It gives up.

  pub acknowledged_up : (p : Presumption) → Silent c t net (acknowledges_abort (seat_of place parent c) p)
  acknowledged_up PresumeAbort = simp (Wires.sent-none)
  acknowledged_up PresumeCommit = Wires.silent-ack c t net place.me parent c (not_childs turn)
      AbortedOutcome []

  pub gives_up : (why : Reason) (p : Presumption) → IsToAbort parent h c why → v.standing ≡ Active
      → (row : Row)
      → row ≡ record (active_abort (seat_of place parent c) v) {
        messages = acknowledges_abort (seat_of place parent c) p ++ each (seat_of place parent c) Abort
            v.accepted;
      }
      → After turn row → Fine turn (row_effect c row)
  gives_up why p i e row is later =
      own_silent turn row later Over (Own.to_abort turn why i (inl (Own.active_open turn e)))
      (record v0 { abort = p0.accepted || v0.abort })
      (ap (λ (x : Row). wire c t (net ++ x.messages)) is
      ∙ (silent_before c t net (acknowledges_abort (seat_of place parent c) p)
      (each (seat_of place parent c) Abort v.accepted) (acknowledged_up p)
      ∙ Wires.wire-aborts c t net (seat_of place parent c) v.accepted p0.accepted
      (rw (same_txn-refl c.txn) (accepted_in_view e))))
      (told_so false root p0)
      (Own.did_tell turn (row_effect c row) false root p0 (rw is refl) (rw is refl)
      (rw is (Own.abort_no_commit turn))
      (rw is (Own.told_aborted turn)))
      (rw is refl)
      (read_as turn _ _ (Readings.reading-gives_up manager above k c t root o0 p0 v0 (alive e))
      (Moves.gives_up c.txn.presumption (reading turn) inv (record { active = active_phase e })))
