-- Turns of the pair's own case that leave the pair, but that an ACK may be heard.
use Rattle.std.proofs.Common.{◌≡◌, ◌∙◌, inl, inr, ℕ, false, None, [], refl, sym, ap}
use Rattle.protocol.specs.declared.names.Ticket.{Ticket}
use Rattle.protocol.specs.declared.messages.Message.TheVariants.{Prepare, Commit, Abort}
use Rattle.protocol.specs.declared.names.Outcome.{Outcome}
use Rattle.protocol_words.specs.Variants.{AbortedOutcome, CommittedOutcome}
use Rattle.protocol.specs.declared.records.Record.{Record}
use Rattle.protocol.specs.declared.standings.Standing.TheVariants.{Active, Collecting}
use Rattle.protocol.specs.Names.{same_case, child_case, process_of}
use Rattle.protocol.specs.NameLaws.{same_case_tells}
use Rattle.protocol.specs.Nodes.{after}
use Rattle.protocol.specs.Memory.{Memory, Open, Asked, has_child, is_counted}
use Rattle.protocol.specs.CoordinatorRows.{Row, forced, tells_outcome}
use Rattle.protocol.specs.Reactions.{row_effect}
use Rattle.protocol.specs.Standings.{CoordinatorView}
use Rattle.protocol.specs.Views.{IsOpenAlike}
use Rattle.proof_pairs.specs.turns.CoordinatorTurns.{RestsBy, HearsChild, HearsParent}
use Rattle.proof_pairs.specs.turns.CoordinatorTurns
use Rattle.proof_steps.proofs.parents.Memories
use Rattle.proof_steps.proofs.parents.Own.{v as view, active_accepted, collecting_accepted, collecting_votes}
use Rattle.proof_steps.proofs.parents.Quiet.{DoesNothing, Rests, Unrelated, forced_elsewhere, quiet_fine}
use Rattle.proof_steps.proofs.parents.Rested
use Rattle.proof_steps.proofs.parents.Turns.{Turn, Fine, remembered}
use Rattle.proof_steps.proofs.parents.Wires.{Silent}

module _ (turn : Turn) where
  open turn use {place, parent, n, h, net, c, t, up, holds, mine, apart}

  abbrev m : Memory
  m = remembered turn

  abbrev v : CoordinatorView
  v = view turn

  -- what the pair's case has on its lists after the row
  pub record After (row : Row) : Type 0 where
    pub alike : IsOpenAlike place (after n h (row_effect c row)) c

  -- the case is not its child's
  pub not_childs : same_case c (child_case c.txn t) ≡ false
  not_childs = elim (same_case_tells c (child_case c.txn t)) [
    | inl same ↦ absurd (apart (ap process_of (sym same.1) ∙ mine))
    | inr f ↦ f.0
  ]

  says_nothing : (row : Row) → row.told ≡ None → row.accepts ≡ [] → row.counts ≡ []
      → DoesNothing turn (row_effect c row)
  says_nothing row no_told none_accepted none_counted = record {
    accepts = rw none_accepted refl;
    yes_votes = rw none_counted refl;
    no_votes = rw none_counted refl;
    read_votes = rw none_counted refl;
    committed = rw no_told refl;
    aborted = rw no_told refl;
    told = rw no_told refl;
  }

  pub quiet_row : (row : Row) → After row → row.written ≡ [] → row.told ≡ None → row.accepts ≡ []
      → row.counts ≡ []
      → Rests turn
      → Silent c t net row.messages → Fine turn (row_effect c row)
  quiet_row row later none no_told none_accepted none_counted r silent =
      quiet_fine turn (row_effect c row) later.alike
      (says_nothing row no_told none_accepted none_counted) r silent
      none

  -- a row that forces a record of which the pair sees nothing
  pub aside_row : (row : Row) → After row → (s : Record) → row.written ≡ forced s → Unrelated turn s
      → row.told ≡ None → row.accepts ≡ [] → row.counts ≡ [] → Rests turn → Silent c t net row.messages
      → Fine turn (row_effect c row)
  aside_row row later s one u no_told none_accepted none_counted r silent =
      forced_elsewhere turn (row_effect c row) later.alike
      (says_nothing row no_told none_accepted none_counted) r
      silent s one u

  open_is_active : m.phase ≡ Open → v.standing ≡ Active
  open_is_active e = (holds.alike up c).open_is_active e

  asked_is_collecting : m.phase ≡ Asked → v.standing ≡ Collecting
  asked_is_collecting e = (holds.alike up c).asked_is_collecting e

  pub rest_prepare : (k : ℕ) → HearsParent parent h (Prepare c k) → (m.phase ≡ Open → ⊥) → Rests turn
  rest_prepare k i f = Rested.rest_prepare turn c i.hears.0 k i.from i.is_parent i.hears.1 (λ g o. f o)

  pub rest_commit : HearsParent parent h (Commit c) → Rests turn
  rest_commit i = Rested.rest_same turn (Memories.commit_comes turn c i.hears.0 i.hears.1)

  pub rest_abort : HearsParent parent h (Abort c) → (m.phase ≡ Open → ⊥) → (m.phase ≡ Asked → ⊥) → Rests turn
  rest_abort i f g =
      Rested.rest_abort turn c i.hears.0 i.from i.is_parent i.hears.1 (λ x o. f o) (λ x o. g o)

  pub rest_outcome : (o : Outcome) → HearsParent parent h (tells_outcome o c) → (m.phase ≡ Open → ⊥)
      → (m.phase ≡ Asked → ⊥) → Rests turn
  rest_outcome CommittedOutcome i f g = rest_commit i
  rest_outcome AbortedOutcome i f g = rest_abort i f g

  counted_not : (u : Ticket) → v.standing ≡ Collecting → is_counted v.accepted v.votes u ≡ false
      → is_counted m.accepted m.votes u ≡ false
  counted_not u s e =
      ap (λ ts. is_counted ts m.votes u) (sym (collecting_accepted turn s))
      ∙ (ap (λ vs. is_counted v.accepted vs u) (sym (collecting_votes turn s)) ∙ e)

  pub rest_nothing : RestsBy place parent n h c → Rests turn
  rest_nothing (CoordinatorTurns.invited_already q i) = Rested.rest_same turn (Memories.join_act turn c q i)
  rest_nothing (CoordinatorTurns.takes_nobody u i f) =
      Rested.rest_joined turn c u i.0 i.1
      (λ g o. ap (λ ts. has_child ts u.child) (sym (active_accepted turn (open_is_active o)))
      ∙ f (open_is_active o))
  rest_nothing (CoordinatorTurns.counts_nothing u w i f) =
      Rested.rest_vote turn w i.txn u i.hears.0 i.hears.1
      (λ g o. counted_not u (asked_is_collecting o) (f (asked_is_collecting o)))
  rest_nothing (CoordinatorTurns.owes_nothing u o fs i f) =
      Rested.rest_ack turn o fs i.txn u i.hears.0 i.hears.1
  rest_nothing (CoordinatorTurns.knows_nothing u i) =
      Rested.rest_same turn (Memories.inquires turn (child_case i.txn u) i.hears.0 i.hears.1)
  rest_nothing (CoordinatorTurns.prepares_nothing k i f) = rest_prepare k i (λ o. f (open_is_active o))
  rest_nothing (CoordinatorTurns.commits_nothing i) = rest_commit i
  rest_nothing (CoordinatorTurns.aborts_nothing i f g) =
      rest_abort i (λ o. f (open_is_active o)) (λ o. g (asked_is_collecting o))
