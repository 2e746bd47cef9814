-- A turn of another case of the process: the pair sees nothing of it but an ACK, or that its log was forced.
use Rattle.std.proofs.Common.{◌≡◌, ◌∙◌, ◌⊎◌, inl, inr, Bool, true, false, ◌||◌, ◌&&◌, Option, Some, None, List, [], ◌∷◌, map, filter, refl, sym, ap, arith, if◌then◌else◌, is_some}
use Rattle.std.specs.List.{list_any}
use Rattle.protocol.specs.declared.names.Case.{Case}
use Rattle.protocol.specs.declared.names.ProcessId.{ProcessId}
use Rattle.protocol.specs.declared.names.Ticket.{Ticket}
use Rattle.protocol.specs.declared.names.Txn.{Txn}
use Rattle.protocol.specs.declared.records.Record.{Record}
use Rattle.protocol_words.specs.Variants.{AbortRecord, CollectingRecord, CommitRecord, EndRecord, PrepareRecord, VoteYes}
use Rattle.protocol.specs.declared.standings.Standing.TheVariants.{Active, Collecting, Prepared}
use Rattle.protocol.specs.declared.standings.Vote.{Vote}
use Rattle.protocol.specs.declared.events.Conclusion.{Conclusion}
use Rattle.protocol.specs.Names.{same_case, same_ticket, same_txn, child_case, root_case, process_of}
use Rattle.protocol.specs.NameLaws.{same_case_tells, names}
use Rattle.protocol.specs.Records.{in_list, promised_by}
use Rattle.protocol.specs.Nodes.{Role, kept, after, Written}
use Rattle.protocol.specs.Memory.{memory_of, yes_of, undecided_of, voted_so}
use Rattle.protocol.specs.CoordinatorRows.{Row, forced, plain}
use Rattle.protocol.specs.Reactions.{row_effect, told_of}
use Rattle.protocol.specs.Outcomes.{has_accepted, is_told_aborted}
use Rattle.protocol.specs.Standings.{CoordinatorView, coordinator_view, case_of_child}
use Rattle.protocol.specs.Views.{IsOpenAlike}
use Rattle.proof_pairs.specs.readings.ReadingOf.{is_root_ticket, is_told_committed, is_told_of_txn}
use Rattle.protocol.specs.Audits.{is_prepare_naming}
use Rattle.proof_pairs.proofs.readings.Named.{promised_by-naming}
use Rattle.proof_processes.proofs.Worlds.{has_other}
use Rattle.protocol.specs.Audits.{is_naming}
use Rattle.proof_steps.proofs.parents.Known.{clash, found_accepted, pairs_case}
use Rattle.proof_steps.proofs.parents.Quiet.{DoesNothing, Rests, Unrelated, quiet_fine, plain_elsewhere, forced_elsewhere}
use Rattle.proof_steps.proofs.parents.Rested.{view_so}
use Rattle.proof_steps.proofs.parents.Turns.{Turn, IsSeat, is_top, top, under, Fine}
use Rattle.proof_steps.proofs.parents.Wires.{Silent}
use Rattle.proof_steps.proofs.parents.Writes.{is_told_so}
use Rattle.protocol.specs.declared.records.Reports.{Reports}

-- Lists of another case's.

pub other_accepts : (c d : Case) (t : Ticket) (us : List Ticket) → same_case d c ≡ false
    → list_any (λ (a : Case × Ticket). same_case a.0 c && same_ticket a.1 t) (map (λ u. (d, u)) us) ≡ false
other_accepts c d t [] e = refl
other_accepts c d t (u ∷ us) e = rw e (other_accepts c d t us e)

pub other_counts : (c d : Case) (t : Ticket) (f : Vote → Bool) (vs : List (Ticket × Vote)) → same_case d c
    ≡ false
    → list_any (λ (a : Case × (Ticket × Vote)). same_case a.0 c && (same_ticket a.1.0 t && f a.1.1))
    (map (λ v. (d, v)) vs) ≡ false
other_counts c d t f [] e = refl
other_counts c d t f (v ∷ vs) e = rw e (other_counts c d t f vs e)

-- a part of a list has no more
in_part : (f : Ticket → Bool) (ts : List Ticket) (t : Ticket) → in_list ts t ≡ false
    → in_list (filter f ts) t ≡ false
unfolding in_list
in_part f [] t e = refl
in_part f (u ∷ us) t e = by_test (f u) (in_part f us t (second _ _ e)) (first _ _ e)
  where
    first : (a b : Bool) → (a || b) ≡ false → a ≡ false
    first true b g = absurd (cc)
    first false b g = refl

    second : (a b : Bool) → (a || b) ≡ false → b ≡ false
    second true b g = absurd (cc)
    second false b g = g

    by_test : (b : Bool) → in_list (filter f us) t ≡ false → same_ticket u t ≡ false
        → in_list (if b then u ∷ filter f us else filter f us) t ≡ false
    by_test true g k = rw k g
    by_test false g k = g

pub in_yes : (ts : List Ticket) (vs : List (Ticket × Vote)) (t : Ticket) → in_list ts t ≡ false
    → in_list (yes_of ts vs) t ≡ false
unfolding yes_of
in_yes ts vs t e = in_part (voted_so VoteYes vs) ts t e

pub in_undecided : (ts : List Ticket) (vs : List (Ticket × Vote)) (t : Ticket) → in_list ts t ≡ false
    → in_list (undecided_of ts vs) t ≡ false
unfolding undecided_of
in_undecided ts vs t e = in_part _ ts t e

pub and-false : (b : Bool) → (b && false) ≡ false
and-false true = refl
and-false false = refl

module _ (turn : Turn) (d : Case) (other : same_case d turn.c ≡ false) where
  open turn use {place, parent, seat, n, h, net, c, t, stands, holds, nested, mine, apart, rooted, goes}

  -- Whose case it is.

  pub unticketed_apart : parent ≡ None → d.ticket ≡ None → same_txn d.txn c.txn ≡ false
  unticketed_apart s e = both_none (d.ticket) (c.ticket) e
      (at_top place.role parent seat s c.ticket rooted) other
    where
      at_top : (r : Role) (o : Option ProcessId) → IsSeat r o → o ≡ None → (u : Option Ticket)
          → is_root_ticket u ≡ is_top r → u ≡ None
      at_top _ _ top f None g = refl
      at_top _ _ top f (Some u) g = absurd (cc)
      at_top _ _ (under p) f u g = absurd (cc)

      both_none : (a b : Option Ticket) → a ≡ None → b ≡ None
          → same_case (record { txn = d.txn; ticket = a }) (record { txn = c.txn; ticket = b }) ≡ false
          → same_txn d.txn c.txn ≡ false
      both_none None None f g k = both_cases k
        where
          both_cases : same_case (root_case d.txn) (root_case c.txn) ≡ false → same_txn d.txn c.txn ≡ false
          both_cases q = grind (arith, names, q)
      both_none (Some u) b f g k = absurd (cc)
      both_none None (Some u) f g k = absurd (cc)

  -- the children of the other case are not the pair's
  not_accepted : has_accepted n d t ≡ false
  not_accepted = by_test (has_accepted n d t) refl
    where
      by_test : (b : Bool) → has_accepted n d t ≡ b → has_accepted n d t ≡ false
      by_test false e = e
      by_test true e = clash (same_case d c) (pairs_case turn d e) other

  unless_accepted : (b : Bool) → (b ≡ true → has_accepted n d t ≡ true) → b ≡ false
  unless_accepted false f = refl
  unless_accepted true f = clash (has_accepted n d t) (f refl) not_accepted

  not_remembered : in_list (memory_of place n d).accepted t ≡ false
  not_remembered = unless_accepted _ (holds.remembered_accepted d t)

  pub active_apart : (coordinator_view place n d).standing ≡ Active
      → in_list (coordinator_view place n d).accepted t ≡ false
  active_apart e = ap (λ (v : CoordinatorView). in_list v.accepted t) (view_so place n d Active e)
      ∙ not_remembered

  pub collecting_apart : (coordinator_view place n d).standing ≡ Collecting
      → in_list (coordinator_view place n d).accepted t ≡ false
  collecting_apart e =
      ap (λ (v : CoordinatorView). in_list v.accepted t) (view_so place n d Collecting e) ∙ not_remembered

  not_promised : in_list (promised_by d (kept n)) t ≡ false
  not_promised = unless_accepted _ (λ e. holds.named_accepted d t
      (nested.kept_was_written _ (λ k. refl)
      (has_other _ (is_naming d t) (kept n) (λ r f. is_named r f)
      (sym (promised_by-naming d t (kept n)) ∙ e))))
    where
      is_named : (r : Record) → is_prepare_naming d t r ≡ true
          → is_naming d t r ≡ true
      is_named (PrepareRecord x ts) e = rw e refl
      is_named r e = absurd (cc)

  pub prepared_apart : (coordinator_view place n d).standing ≡ Prepared
      → in_list (coordinator_view place n d).promised t ≡ false
  prepared_apart e =
      ap (λ (v : CoordinatorView). in_list v.promised t) (view_so place n d Prepared e) ∙ not_promised

  -- the process's own cases are not its children's
  pub not_childs : process_of d ≡ place.me → same_case d (child_case c.txn t) ≡ false
  not_childs e = elim (same_case_tells d (child_case c.txn t)) [
    | inl same ↦ absurd (apart (ap process_of (sym same.1) ∙ e))
    | inr f ↦ f.0
  ]

  -- a case that hears its child is of the process
  pub of_child : (x : Txn) (u : Ticket) → case_of_child place n x u ≡ Some d → process_of d ≡ place.me
  of_child x u e = (holds.accepted_was_joined d u (found_accepted turn x u d e)).0

  -- What its rows do.

  -- nothing is told, or of another transaction
  abbrev pub ToldElsewhere : Option Conclusion → Type 0
  ToldElsewhere o = (o ≡ None) ⊎ (same_txn d.txn c.txn ≡ false)

  pub data WroteElsewhere (ws : List Written) : Type 0 where
    none_written : ws ≡ [] → WroteElsewhere ws
    one_plain : (r : Record) → ws ≡ plain r → Unrelated turn r → WroteElsewhere ws
    one_forced : (r : Record) → ws ≡ forced r → Unrelated turn r → WroteElsewhere ws

  told_nothing : (o : Option Conclusion) → ToldElsewhere o
      → is_told_so (is_told_of_txn c.txn) (told_of d.txn o) ≡ false
  told_nothing None e = refl
  told_nothing (Some a) (inl e) = absurd (cc)
  told_nothing (Some a) (inr e) = e

  told_no_commit : (o : Option Conclusion) → ToldElsewhere o
      → is_told_so (is_told_committed c.txn) (told_of d.txn o) ≡ false
  told_no_commit None e = refl
  told_no_commit (Some a) (inl e) = absurd (cc)
  told_no_commit (Some a) (inr e) = rw e refl

  told_no_abort : (o : Option Conclusion) → ToldElsewhere o
      → is_told_so (is_told_aborted c.txn) (told_of d.txn o) ≡ false
  told_no_abort None e = refl
  told_no_abort (Some a) (inl e) = absurd (cc)
  told_no_abort (Some a) (inr e) = rw e refl

  nothing_done : (row : Row) → ToldElsewhere row.told → DoesNothing turn (row_effect d row)
  nothing_done row told = record {
    accepts = other_accepts c d t row.accepts other;
    yes_votes = other_counts c d t _ row.counts other;
    no_votes = other_counts c d t _ row.counts other;
    read_votes = other_counts c d t _ row.counts other;
    committed = told_no_commit row.told told;
    aborted = told_no_abort row.told told;
    told = told_nothing row.told told;
  }

  pub row_fine : (row : Row) → IsOpenAlike place (after n h (row_effect d row)) c → Rests turn
      → Silent c t net row.messages → ToldElsewhere row.told → WroteElsewhere row.written
      → Fine turn (row_effect d row)
  row_fine row later rests silent told (none_written e) =
      quiet_fine turn (row_effect d row) later (nothing_done row told) rests silent e
  row_fine row later rests silent told (one_plain r e u) =
      plain_elsewhere turn (row_effect d row) later (nothing_done row told) rests silent r e u
  row_fine row later rests silent told (one_forced r e u) =
      forced_elsewhere turn (row_effect d row) later (nothing_done row told) rests silent r e u

  pub other_collecting : (ts : List Ticket) → Unrelated turn (CollectingRecord d ts)
  other_collecting ts = record { same = λ b p. rw other refl; commits = refl; boot = λ x. refl }

  pub other_prepare : (ts : List Ticket) → Unrelated turn (PrepareRecord d ts)
  other_prepare ts = record { same = λ b p. rw other refl; commits = refl; boot = λ x. refl }

  pub other_commit : (ts : List Ticket) → Unrelated turn (CommitRecord d ts)
  other_commit ts = record { same = λ b p. rw other refl; commits = other; boot = λ x. refl }

  pub other_abort : (ts : List Ticket) → Unrelated turn (AbortRecord d ts)
  other_abort ts = record { same = λ b p. rw other refl; commits = refl; boot = λ x. refl }

  pub other_end : (rep : Option Reports) → Unrelated turn (EndRecord d rep)
  other_end rep = record { same = λ b p. rw other refl; commits = refl; boot = λ x. refl }

  -- an End, with what was found or without
  pub ended_by : (rep : Option Reports)
      → WroteElsewhere (record { entry = EndRecord d rep; is_forced = is_some rep } ∷ [])
  ended_by None = one_plain (EndRecord d None) refl (other_end None)
  ended_by (Some r) = one_forced (EndRecord d (Some r)) refl (other_end (Some r))
