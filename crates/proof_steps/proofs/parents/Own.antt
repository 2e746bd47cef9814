-- A turn of the pair's own case: what it finds, and what is remembered after it.
use Rattle.std.proofs.Common.{◌≡◌, ◌∙◌, ◌⊎◌, inl, inr, Bool, true, false, ◌||◌, ◌&&◌, Option, Some, None, List, [], ◌∷◌, refl, sym, ap, subst, arith, if◌then◌else◌}
use Rattle.std.specs.Prelude.{find, filter}
use Rattle.std.specs.List.{list_any}
use Rattle.protocol.specs.declared.names.Case.{Case}
use Rattle.protocol.specs.declared.names.ProcessId.{ProcessId}
use Rattle.protocol.specs.declared.names.Ticket.{Ticket}
use Rattle.protocol.specs.declared.names.Txn.{Txn}
use Rattle.protocol.specs.declared.standings.Standing.TheVariants.{Active, Collecting}
use Rattle.protocol.specs.declared.standings.Vote.{Vote}
use Rattle.protocol_words.specs.Variants.{ConcludedAborted, VoteNo, VoteRead, VoteYes}
use Rattle.protocol.specs.declared.events.Conclusion.{Conclusion}
use Rattle.protocol.specs.declared.events.Conclusion.TheVariants.{ReadOnly}
use Rattle.protocol.specs.declared.events.Told.{Told}
use Rattle.protocol.specs.Names.{same_case, same_ticket, same_txn, root_case}
use Rattle.protocol.specs.NameLaws.{same_case-refl, same_txn-refl, names}
use Rattle.protocol.specs.Records.{has, in_list, is_commit, none_of}
use Rattle.protocol.specs.Nodes.{Role, Effect, kept}
use Rattle.protocol.specs.Memory.{Memory, Phase, Idle, Open, Asked, Over, memory_of, asks_votes, closes, retires, same_vote}
use Rattle.protocol.specs.CoordinatorRows.{Reason, told_by}
use Rattle.protocol.specs.Outcomes.{is_told_aborted}
use Rattle.protocol.specs.Reactions.{told_of}
use Rattle.protocol.specs.Standings.{CoordinatorView, coordinator_view, case_of_child, belongs, own_cases}
use Rattle.proof_pairs.specs.Reading
use Rattle.proof_pairs.specs.Invariant.{Common}
use Rattle.proof_pairs.specs.readings.ReadingOf.{ParentHalf, is_root_ticket, is_told_committed, is_told_of_txn, is_begun}
use Rattle.proof_pairs.specs.turns.CoordinatorTurns.{IsToCommit, IsToAbort, HearsChild, CountsVote, voted}
use Rattle.proof_pairs.specs.turns.CoordinatorTurns
use Rattle.proof_steps.proofs.children.Moves.{common_of}
use Rattle.proof_steps.proofs.parents.Halves.{active_is_open, acked_of, live_phase, phase_of}
use Rattle.proof_steps.proofs.parents.Known.{clash}
use Rattle.proof_steps.proofs.parents.Memories
use Rattle.proof_steps.proofs.parents.Readings.{Live}
use Rattle.proof_steps.proofs.parents.Rested.{view_so}
use Rattle.proof_steps.proofs.parents.Turns.{Turn, IsSeat, is_top, top, under, Says, remembered, then_remembered, half, net_part, told_outcome, reading, at_root}
use Rattle.proof_steps.proofs.parents.Writes.{did, is_told_so}

and-false : (a : Bool) → (a && false) ≡ false
and-false a = grind arith

and-true : (a : Bool) → (a && true) ≡ a
and-true a = grind arith

or-false : (a : Bool) → (a || false) ≡ a
or-false a = grind arith

-- the ticket's first vote was heard
abbrev pub heard : Vote → Bool → ParentHalf → ParentHalf
heard w b p = record p {
  first_yes = (b && same_vote VoteYes w) || p.first_yes;
  first_no = (b && same_vote VoteNo w) || p.first_no;
  first_read = (b && same_vote VoteRead w) || p.first_read;
}

abbrev pub told_so : Bool → Bool → ParentHalf → ParentHalf
told_so committed aborted p = record p {
  told_committed = committed || p.told_committed;
  told_aborted = aborted || p.told_aborted;
}

module _ (turn : Turn) where
  open turn use {place, parent, seat, n, h, net, c, t, up, rooted, inv, holds, stands}

  abbrev m : Memory
  m = remembered turn

  abbrev m' : Memory
  m' = then_remembered turn

  abbrev p0 : ParentHalf
  p0 = half turn

  abbrev pub v : CoordinatorView
  v = coordinator_view place n c

  pub common : Common (reading turn)
  common = common_of c.txn.presumption (reading turn) inv

  -- The root, or below it.

  pub seat_is : {A : Type 0} → (parent ≡ None → at_root turn ≡ true → A)
      → ((p : ProcessId) → parent ≡ Some p → at_root turn ≡ false → A) → A
  seat_is {A = A} f g = by_seat place.role parent seat rooted refl
    where
      by_seat : (r : Role) (o : Option ProcessId) → IsSeat r o → at_root turn ≡ is_top r → parent ≡ o → A
      by_seat _ _ top e s = f s e
      by_seat _ _ (under p) e s = g p s e

  -- a case of the root's transaction act is the root's
  pub act_is_roots : (x : Txn) → c ≡ root_case x → at_root turn ≡ true
  act_is_roots x e = ap (λ (y : Case). is_root_ticket y.ticket) e

  pub act_is_at_root : (x : Txn) → c ≡ root_case x → parent ≡ None
  act_is_at_root x e = seat_is (λ s f. s) (λ p s f. clash (at_root turn) (act_is_roots x e) f)

  -- What is at Active or Collecting.

  pub active_open : v.standing ≡ Active → m.phase ≡ Open
  active_open e = active_is_open place n c e

  pub collecting_asked : v.standing ≡ Collecting → m.phase ≡ Asked
  collecting_asked e = (holds.alike up c).collecting_is_asked e

  pub active_accepted : v.standing ≡ Active → v.accepted ≡ m.accepted
  active_accepted e = ap (λ (x : CoordinatorView). x.accepted) (view_so place n c Active e)

  pub collecting_accepted : v.standing ≡ Collecting → v.accepted ≡ m.accepted
  collecting_accepted e = ap (λ (x : CoordinatorView). x.accepted) (view_so place n c Collecting e)

  pub collecting_votes : v.standing ≡ Collecting → v.votes ≡ m.votes
  collecting_votes e = ap (λ (x : CoordinatorView). x.votes) (view_so place n c Collecting e)

  pub phase_is : (ph : Phase) (q : Reading.HeldPhase) → m.phase ≡ ph → live_phase ph ≡ q → p0.phase ≡ q
  phase_is ph q e f = ap (λ b. phase_of b m.phase) up ∙ (ap live_phase e ∙ f)

  pub begun_by : {ph : Phase} → m.phase ≡ ph → is_begun ph ≡ true → p0.begun ≡ true
  begun_by f g =
      ap (λ b. b || list_any (is_told_of_txn c.txn) n.told || list_any (λ y. same_txn y c.txn)
      n.found_undecided ||
      has (is_commit c) n.life)
      (ap is_begun f ∙ g)

  lives : (ph : Phase) → (ph ≡ Open) ⊎ (ph ≡ Asked) → m.phase ≡ ph → (Reading.is_live p0.phase ≡ true)
      × (p0.begun ≡ true)
  lives Open e f = (ap Reading.is_live (phase_is Open Reading.Active f refl), begun_by f refl)
  lives Asked e f = (ap Reading.is_live (phase_is Asked Reading.Collecting f refl), begun_by f refl)
  lives Idle (inl e) f = absurd (cc)
  lives Idle (inr e) f = absurd (cc)
  lives Over (inl e) f = absurd (cc)
  lives Over (inr e) f = absurd (cc)

  pub live : (m.phase ≡ Open) ⊎ (m.phase ≡ Asked) → Live (at_root turn) (told_outcome turn) p0 (net_part turn)
  live e =
      let l = lives m.phase e refl in
      let u = common.undecided l.0 in
      record {
        begun = l.1;
        live = l.0;
        given = given l.0;
        no_commit = u.no_commit;
        undecided = u.root_undecided;
        no_prepare = u.no_prepare.0;
        never_promised = u.no_prepare.1;
        no_read = u.no_read;
      }
    where
      given : Reading.is_live p0.phase ≡ true → at_root turn ≡ false → (net_part turn).given ≡ true
      given l f = by_test (net_part turn).given refl
        where
          by_test : (b : Bool) → (net_part turn).given ≡ b → (net_part turn).given ≡ true
          by_test true g = g
          by_test false g = clash (Reading.is_live p0.phase) l (common.unborn (rw (f, g) refl)).closed

  -- What is told.

  pub told_aborted : is_told_so (is_told_aborted c.txn) (told_of c.txn (told_by parent ConcludedAborted))
      ≡ at_root turn
  told_aborted = seat_is
      (λ s e. ap (λ o. is_told_so (is_told_aborted c.txn) (told_of c.txn (told_by o ConcludedAborted))) s
      ∙ (rw (same_txn-refl c.txn) refl ∙ sym e))
      (λ p s e. ap (λ o. is_told_so (is_told_aborted c.txn) (told_of c.txn (told_by o ConcludedAborted)))
      s ∙ sym e)

  told_nothing : (q : Told → Bool) (a : Conclusion)
      → q (record { txn = c.txn; conclusion = a }) ≡ false
      → is_told_so q (told_of c.txn (told_by parent a)) ≡ false
  told_nothing q a e = by_parent parent
    where
      by_parent : (o : Option ProcessId) → is_told_so q (told_of c.txn (told_by o a)) ≡ false
      by_parent None = e
      by_parent (Some p) = refl

  pub abort_no_commit : is_told_so (is_told_committed c.txn)
      (told_of c.txn (told_by parent ConcludedAborted)) ≡ false
  abort_no_commit = told_nothing (is_told_committed c.txn) ConcludedAborted (and-false (same_txn c.txn c.txn))

  pub read_no_commit : is_told_so (is_told_committed c.txn) (told_of c.txn (told_by parent ReadOnly)) ≡ false
  read_no_commit = told_nothing (is_told_committed c.txn) ReadOnly (and-false (same_txn c.txn c.txn))

  pub read_no_abort : is_told_so (is_told_aborted c.txn) (told_of c.txn (told_by parent ReadOnly)) ≡ false
  read_no_abort = told_nothing (is_told_aborted c.txn) ReadOnly (and-false (same_txn c.txn c.txn))

  pub did_tell : (e : Effect) (a b : Bool) (p : ParentHalf) → e.accepts ≡ [] → e.counts ≡ []
      → is_told_so (is_told_committed c.txn) e.told ≡ a → is_told_so (is_told_aborted c.txn) e.told ≡ b
      → did e c t p ≡ told_so a b p
  did_tell e a b p none_accepted none_counted f g = rw (none_accepted, none_counted, f, g) refl

  pub did_vote : (e : Effect) (u : Ticket) (w : Vote) (a b : Bool) (p : ParentHalf) → e.accepts ≡ []
      → e.counts ≡ (c, (u, w)) ∷ []
      → is_told_so (is_told_committed c.txn) e.told ≡ a → is_told_so (is_told_aborted c.txn) e.told ≡ b
      → did e c t p ≡ told_so a b (heard w (same_ticket u t) p)
  did_vote e u w a b p none one f g = rw (none, one, f, g) (simp (same_case-refl, or-false))

  -- What is remembered.

  abbrev pub Goes : Phase → Type 0
  Goes ph = Says turn ph p0.accepted p0.acked

  says_of : (x : Memory) (ph : Phase) → m' ≡ x → x.phase ≡ ph → x.accepted ≡ m.accepted → x.acks ≡ m.acks
      → Goes ph
  says_of x ph e f a b = record {
    phase = ap (λ (y : Memory). y.phase) e ∙ f;
    accepted_so = ap (λ (y : Memory). in_list y.accepted t) e ∙ ap (λ ts. in_list ts t) a;
    acked_so = ap (λ (y : Memory). acked_of y c t) e ∙ rw b refl;
  }

  asked_says : (x : Memory) (ph : Phase) → ph ≡ Open → x.accepted ≡ m.accepted → x.acks ≡ m.acks
      → m' ≡ asks_votes x ph → Goes (if none_of m.accepted then Over else Asked)
  asked_says x Open e a b f = says_of _ _ f (rw a refl) a b
  asked_says x Idle e a b f = absurd (cc)
  asked_says x Asked e a b f = absurd (cc)
  asked_says x Over e a b f = absurd (cc)

  pub to_commit : IsToCommit parent h c → m.phase ≡ Open → Goes (if none_of m.accepted then Over else Asked)
  to_commit (CoordinatorTurns.commit_act x e i) o =
      let same : same_case (root_case x) c
      ≡ true = subst (λ (y : Case). same_case y c ≡ true) e (same_case-refl c) in
      asked_says m m.phase o refl refl (Memories.commit_act turn x (act_is_at_root x e) i ∙ rw same refl)
  to_commit (CoordinatorTurns.prepare_comes p k e i) o =
      asked_says (retires m c) m.phase o refl refl
      (Memories.prepare_comes turn c i.0 k p e i.1 ∙ rw (same_case-refl c) refl)

  closed_says : (x : Memory) (ph : Phase) → (ph ≡ Open) ⊎ (ph ≡ Asked) → x.accepted ≡ m.accepted → x.acks
      ≡ m.acks
      → m' ≡ closes x ph → Goes Over
  closed_says x Open e a b f = says_of _ _ f refl a b
  closed_says x Asked e a b f = says_of _ _ f refl a b
  closed_says x Idle (inl e) a b f = absurd (cc)
  closed_says x Idle (inr e) a b f = absurd (cc)
  closed_says x Over (inl e) a b f = absurd (cc)
  closed_says x Over (inr e) a b f = absurd (cc)

  pub to_abort : (why : Reason) → IsToAbort parent h c why → (m.phase ≡ Open) ⊎ (m.phase ≡ Asked) → Goes Over
  to_abort _ (CoordinatorTurns.abort_act x e i) o =
      let same : same_case (root_case x) c
      ≡ true = subst (λ (y : Case). same_case y c ≡ true) e (same_case-refl c) in
      closed_says m m.phase o refl refl (Memories.abort_act turn x (act_is_at_root x e) i ∙ rw same refl)
  to_abort _ (CoordinatorTurns.abort_comes p e i) o =
      closed_says (retires m c) m.phase o refl refl
      (Memories.abort_comes turn c i.0 p e i.1 ∙ rw (same_case-refl c) refl)

  -- the transaction of the case to which a child's ticket belongs
  same_txn_if : (r : Role) (o : Option ProcessId) → IsSeat r o → (x : Txn) (u : Ticket)
      → find (λ y. belongs (memory_of place n y) (kept n) y u)
      (own_cases r place n x) ≡ Some c
      → same_txn x c.txn ≡ true
  same_txn_if _ _ top x u e = by_test _ e
    where
      by_test : (b : Bool) → (if b then Some (root_case x) else None) ≡ Some c → same_txn x c.txn ≡ true
      by_test true f = subst (λ (y : Case). same_txn x y.txn ≡ true) (let g : root_case x ≡ c = cc in g)
          (same_txn-refl x)
      by_test false f = absurd (cc)
  same_txn_if _ _ (under p) x u e = in_filtered _ _ e
    where
      in_filtered : (f : Case → Bool) (cs : List Case)
          → find f (filter (λ y. same_txn y.txn x) cs) ≡ Some c
          → same_txn x c.txn ≡ true
      in_filtered f [] g = absurd (cc)
      in_filtered f (y ∷ ys) g = by_test (same_txn y.txn x) refl g (in_filtered f ys)
        where
          turned : (a b : Txn) → same_txn a b ≡ true → same_txn b a ≡ true
          turned a b q = grind (arith, names, q)

          found : (b : Bool) → same_txn y.txn x ≡ true
              → (if b then Some y else find f (filter (λ z. same_txn z.txn x) ys)) ≡ Some c
              → (find f (filter (λ z. same_txn z.txn x) ys) ≡ Some c → same_txn x c.txn ≡ true)
              → same_txn x c.txn ≡ true
          found true q k l = subst (λ (z : Case). same_txn x z.txn ≡ true) (let d : y ≡ c = cc in d)
              (turned y.txn x q)
          found false q k l = l k

          by_test : (b : Bool) → same_txn y.txn x ≡ b
              → find f (if b then y ∷ filter (λ z. same_txn z.txn x) ys else filter
              (λ z. same_txn z.txn x) ys) ≡ Some c
              → (find f (filter (λ z. same_txn z.txn x) ys) ≡ Some c → same_txn x c.txn ≡ true)
              → same_txn x c.txn ≡ true
          by_test true q k l = found (f y) q k l
          by_test false q k l = l k

  pub of_txn : (x : Txn) (u : Ticket) → case_of_child place n x u ≡ Some c → same_txn x c.txn ≡ true
  of_txn x u e = same_txn_if place.role parent seat x u e
