-- An input that a coordinator handles, as one of the pairs below it sees it.
use Rattle.std.proofs.Common.{◌≡◌, ◌∙◌, ℕ, Bool, true, false, ◌||◌, ◌&&◌, Option, Some, None, List, [], ◌++◌, refl, sym, ap, subst, arith}
use Rattle.protocol.specs.declared.names.Case.{Case}
use Rattle.protocol.specs.declared.names.ProcessId.{ProcessId}
use Rattle.protocol.specs.declared.names.Ticket.{Ticket}
use Rattle.protocol.specs.declared.messages.Envelope.{Envelope}
use Rattle.protocol.specs.declared.records.Record.{Record}
use Rattle.protocol.specs.Names.{process_of}
use Rattle.protocol.specs.Records.{has, in_list, is_commit, is_prepare, boot_of, boot_after}
use Rattle.protocol.specs.Nodes.{Place, Role, AtRoot, Below, AtLeaf, Node, Heard, Effect, after, kept, entries_written, is_any_forced, IsCoordinator}
use Rattle.protocol.specs.Memory.{Memory, Phase, memory_of, remembers}
use Rattle.protocol.specs.CoordinatorRows.{forced, plain}
use Rattle.protocol.specs.Outcomes.{is_joined_message, sent as ever_sent}
use Rattle.protocol.specs.Standings.{coordinator_view}
use Rattle.protocol.specs.Views.{IsOpenAlike}
use Rattle.protocol.specs.World.{InputStands}
use Rattle.proof_pairs.specs.Reading.{Reading}
use Rattle.proof_pairs.specs.readings.ReadingOf.{reading_from, is_root_ticket, is_born, gives_case, ChildHalf, ParentHalf, Wire, parent_half, wire}
use Rattle.proof_pairs.proofs.readings.Lists.{has-cons, has-history}
use Rattle.proof_pairs.proofs.readings.Memories.{memory_of-nothing, memory_of-forced, memory_of-plain}
use Rattle.proof_processes.specs.Lasts.{Logs, logs_of, Nested}
use Rattle.proof_processes.specs.Owns.{AllGoToOwners}
use Rattle.proof_processes.specs.ProcessSteps.{Above, outcome_in}
use Rattle.proof_processes.specs.WorldHolds.{Coordinates, InvariantOf, IsFree, IsPair, JoinedOnce, RoleHolds, SameSelf}
use Rattle.proof_processes.proofs.Appends.{either_logs}
use Rattle.proof_steps.proofs.children.Moves.{Fits}
use Rattle.proof_steps.proofs.parents.Halves.{half_of, half_is, remembered_half, acked_of}
use Rattle.proof_steps.proofs.parents.Writes.{wrote, hardens, did, stands_so, begun_after, half_silent, half_forced, half_plain}

-- a coordinator with its parent, if it has one
pub data IsSeat : Role → Option ProcessId → Type 0 where
  top : IsSeat AtRoot None
  under : (p : ProcessId) → IsSeat (Below p) (Some p)

abbrev pub is_top : Role → Bool
is_top AtRoot = true
is_top _ = false

-- The coordinator, what it was and heard, and the net after it; the pair's case and ticket, with the
-- child's half; and
-- what is known of them.
pub record Turn : Type 0 where
  pub place : Place
  pub parent : Option ProcessId
  pub seat : IsSeat place.role parent
  pub n : Node
  pub h : Heard
  pub net : List Envelope
  pub c : Case
  pub t : Ticket
  pub manager : Bool
  pub outcome : Bool
  pub above : Bool
  pub k : ChildHalf
  pub up : n.failed ≡ false
  pub nested : Nested (logs_of n)
  pub holds : Coordinates place net n
  pub by_role : RoleHolds place.role place net n
  pub joined_once : JoinedOnce net
  pub goes : AllGoToOwners net
  pub self : (x y : Case) → SameSelf (memory_of place n x) (memory_of place n y)
  pub stands : InputStands net place.me h.input
  pub pair : IsPair place.tree c t
  pub mine : process_of c ≡ place.me
  pub free : IsFree net c t
  pub apart : t.child ≡ place.me → ⊥
  pub rooted : is_root_ticket c.ticket ≡ is_top place.role
  -- a case to which JOINED gave a ticket is known
  pub joined_is_born : ever_sent (is_joined_message c t) net ≡ true
      → is_born (is_root_ticket c.ticket) (remembered_half (memory_of place n c) n c t).begun
      (ever_sent (gives_case c) net) ≡ true
  pub from_above : Above place.role net c (coordinator_view place n c).standing outcome above
  pub inv : InvariantOf c.txn.presumption (reading_from (is_root_ticket c.ticket) manager
      (outcome_in place.role n c outcome) above (remembered_half (memory_of place n c) n c t) k
      (wire c t net))

is_coordinator : (role : Role) (parent : Option ProcessId) → IsSeat role parent → IsCoordinator role
is_coordinator _ _ top = tt
is_coordinator _ _ (under p) = tt

module _ (turn : Turn) where
  open turn use {place, parent, seat, n, h, net, c, t, manager, outcome, above, k, up, rooted, inv}

  -- what is remembered of the pair's case, the parent's half, and the net's part
  abbrev pub remembered : Memory
  remembered = memory_of place n c

  abbrev pub half : ParentHalf
  half = remembered_half remembered n c t

  abbrev pub net_part : Wire
  net_part = wire c t net

  abbrev pub at_root : Bool
  at_root = is_root_ticket c.ticket

  abbrev pub told_outcome : Bool
  told_outcome = outcome_in place.role n c outcome

  abbrev pub seen : Bool → ParentHalf → Wire → Reading
  seen o p v = reading_from at_root manager o above p k v

  abbrev pub reading : Reading
  reading = seen told_outcome half net_part

  -- what is remembered after the input
  abbrev pub then_remembered : Memory
  then_remembered = remembers place.me place.role (boot_of (kept n)) c remembered h

  -- an effect keeps the invariant
  abbrev pub Fine : Effect → Type 0
  Fine e = Fits c.txn.presumption reading
      (seen (outcome_in place.role (after n h e) c outcome) (parent_half place (after n h e) c t)
      (wire c t (net ++ e.messages)))

  abbrev pub Fits_in : Reading → Type 0
  Fits_in r = Fits c.txn.presumption reading r

  -- what memory says of the pair after the input
  pub record Says (ph : Phase) (accepted acked : Bool) : Type 0 where
    pub phase : then_remembered.phase ≡ ph
    pub accepted_so : in_list then_remembered.accepted t ≡ accepted
    pub acked_so : acked_of then_remembered c t ≡ acked

  -- The outcome after an event.

  outcome_stays : (role : Role) (e : Effect) → is_any_forced e.written ≡ false
      → outcome_in role (after n h e) c outcome ≡ outcome_in role n c outcome
  outcome_stays AtRoot e f = rw f refl
  outcome_stays (Below p) e f = refl
  outcome_stays (AtLeaf p) e f = refl

  regroup : (a b d : Bool) → (a || (b || d)) ≡ ((a || b) || d)
  regroup a b d = grind arith

  outcome_forced : (role : Role) (b : Bool) (e : Effect) (r : Record) → e.written ≡ forced r → b ≡ is_top role
      → outcome_in role (after n h e) c outcome
      ≡ ((b && (is_commit c r || has (is_commit c) (kept n))) || outcome_in role n c outcome)
  outcome_forced AtRoot b e r one up_there = rw (one, up_there) (simp (has-cons, has-history, regroup))
  outcome_forced (Below p) b e r one up_there = rw up_there refl
  outcome_forced (AtLeaf p) b e r one up_there = rw up_there refl

  -- The half after an event.

  still_up : (e : Effect) → (after n h e).failed ≡ false
  still_up e = either_logs n (entries_written e.written) (is_any_forced e.written)
      (λ (l : Logs). l.failed ≡ false)
      (λ b. up) (λ b. up)

  module _ (e : Effect) (later : IsOpenAlike place (after n h e) c) (ph : Phase) (a b : Bool)
      (s : Says ph a b)
      (v : Wire) (sent : wire c t (net ++ e.messages) ≡ v) where
    abbrev now : Bool
    now = begun_after ph (after n h e) c

    half_then : memory_of place (after n h e) c ≡ then_remembered
        → parent_half place (after n h e) c t ≡ half_of ph a b (after n h e) c t
    half_then f =
        half_is place (after n h e) c t (still_up e) (is_coordinator place.role parent seat) later
        ∙ (ap (λ (x : Memory). remembered_half x (after n h e) c t) f
        ∙ rw (s.phase, s.accepted_so, s.acked_so) refl)

    assemble : (o : Bool) (p : ParentHalf) → outcome_in place.role (after n h e) c outcome ≡ o
        → memory_of place (after n h e) c ≡ then_remembered
        → half_of ph a b (after n h e) c t ≡ stands_so n.failed ph a b now p
        → Fits_in (seen o (stands_so false ph a b now p) v) → Fine e
    assemble o p f g q fits =
        subst (λ (x : Wire). Fits_in (seen (outcome_in place.role (after n h e) c outcome)
        (parent_half place (after n h e) c t) x))
        (sym sent)
        (subst (λ (x : ParentHalf). Fits_in (seen (outcome_in place.role (after n h e) c outcome) x v))
        (sym (half_then g ∙ (q ∙ ap (λ (u : Bool). stands_so u ph a b now p) up)))
        (subst (λ (x : Bool). Fits_in (seen x (stands_so false ph a b now p) v)) (sym f) fits))

    pub fine_silent : e.written ≡ []
        → Fits_in (seen told_outcome (stands_so false ph a b now (did e c t half)) v) → Fine e
    fine_silent none fits =
        assemble told_outcome (did e c t half) (outcome_stays place.role e (rw none refl))
        (memory_of-nothing place n h e c none)
        (half_silent remembered.phase ph (in_list remembered.accepted t) a (acked_of remembered c t) b n h
        e c t none) fits

    pub fine_forced : (r : Record) → ((x : ℕ) → boot_after x r ≡ x) → e.written ≡ forced r
        → Fits_in (seen ((at_root && (is_commit c r || half.commit_kept)) || told_outcome)
        (stands_so false ph a b now (hardens (wrote r c t (has (is_prepare c) n.life) (did e c t half)))) v)
        → Fine e
    fine_forced r stays one fits =
        assemble ((at_root && (is_commit c r || half.commit_kept)) || told_outcome)
        (hardens (wrote r c t (has (is_prepare c) n.life) (did e c t half)))
        (outcome_forced place.role at_root e r one rooted) (memory_of-forced place n h e c r one stays)
        (half_forced remembered.phase ph (in_list remembered.accepted t) a (acked_of remembered c t) b n h
        e c t r one) fits

    pub fine_plain : (r : Record) → ((x : ℕ) → boot_after x r ≡ x) → e.written ≡ plain r
        → Fits_in (seen told_outcome (stands_so false ph a b now
        (wrote r c t (has (is_prepare c) n.life) (did e c t half))) v)
        → Fine e
    fine_plain r stays one fits =
        assemble told_outcome (wrote r c t (has (is_prepare c) n.life) (did e c t half))
        (outcome_stays place.role e (rw one refl)) (memory_of-plain place n h e c r one stays)
        (half_plain remembered.phase ph (in_list remembered.accepted t) a (acked_of remembered c t) b n h
        e c t r one) fits
