-- What a manager records and remembers is of cases that it gave, and a branch that takes work has no record.
use Rattle.std.proofs.Common.{◌≡◌, ◌∙◌, ◌⊎◌, inl, inr, ◌+◌, ℕ, zero, suc, Bool, true, false, ◌≢◌, Option, Some, List, [], ◌∷◌, ◌++◌, take, refl, sym, ap, subst}
use Rattle.std.specs.Prelude.{reverse, length}
use Rattle.std.proofs.lemmas.List.{append-nil}
use Rattle.protocol.specs.declared.names.Case.{Case}
use Rattle.protocol.specs.declared.names.ProcessId.{ProcessId}
use Rattle.protocol.specs.declared.names.Ticket.{Ticket}
use Rattle.protocol.specs.declared.messages.Message.TheVariants.{Prepare}
use Rattle.protocol.specs.declared.messages.Envelope.{Envelope}
use Rattle.protocol_words.specs.Variants.{CaseBranch, MessageInput, PreparedRecord}
use Rattle.protocol.specs.declared.records.Record.{Record}
use Rattle.protocol.specs.declared.records.Write.{Write}
use Rattle.protocol.specs.declared.events.Happening.{Happening}
use Rattle.protocol.specs.declared.trees.TreeProcess.{TreeProcess}
use Rattle.protocol.specs.Names.{same_case, child_case}
use Rattle.protocol.specs.NameLaws.{same_case-refl}
use Rattle.protocol.specs.Records.{has, boot_of, is_prepared, record_case}
use Rattle.protocol.specs.Nodes.{Place, AtLeaf, Node, Heard, Effect, kept, entries_written, is_any_forced, after, fails_in}
use Rattle.protocol.specs.Memory.{Memory, Phase, Idle, Open, Over, memory_of, manager_remembers, next_ticket, active_ticket}
use Rattle.protocol.specs.Standings.{Mark, Unmarked, mark_of}
use Rattle.protocol.specs.Reactions.{reacts, Does}
use Rattle.protocol.specs.Restarts.{is_open, left_of, reopens, restarted, restart_fails, data_records, trimmed, trims, trim_fails}
use Rattle.protocol.specs.Outcomes.{sent, is_joined_message}
use Rattle.protocol.specs.World.{Move, MayHappen, InputStands}
use Rattle.proof_pairs.specs.readings.ReadingOf.{gives_case, is_prepare_message}
use Rattle.protocol.specs.Audits.{is_promise}
use Rattle.proof_pairs.proofs.readings.Lists.{sent-append}
use Rattle.proof_pairs.proofs.readings.Memories.{memory_of-heard}
use Rattle.proof_pairs.specs.turns.LeafTurns.{mark_at}
use Rattle.proof_pairs.specs.turns.Steps.{StepOf, heard_in, handled, failed_in, passed, failed_passing, reopened, failed_reopening, trims_log, failed_trimming, TurnOf}
use Rattle.proof_pairs.proofs.turns.Steps.{turn_of}
use Rattle.proof_processes.specs.Lasts.{Logs, logs_of, Lasts}
use Rattle.proof_processes.specs.Marks.{branch_is, is_branch_record}
use Rattle.proof_processes.specs.WorldHolds.{is_record_of, is_of}
use Rattle.proof_processes.proofs.Tests.{either, left, right, in_either, in_front, has-reverse, not_both, front_none}
use Rattle.proof_processes.proofs.Orders.{mark_is, other_leaves}
use Rattle.proof_processes.proofs.Appends.{either_logs}
use Rattle.proof_processes.proofs.Boots.{turn_none, trims_memory, boot_written}
use Rattle.proof_processes.proofs.Deliveries.{was_sent}
use Rattle.proof_processes.proofs.Issuing.{Issued, next_is_new}
use Rattle.proof_processes.proofs.ManagerPhases.{Wakes, phase_moves, prepare_ends}
use Rattle.proof_processes.proofs.ManagerWrites.{Wrote, nothing, promise, ending, leaf_wrote, leaf_accepts, kept_after}
use Rattle.proof_processes.proofs.PairOf.{Given, given}
use Rattle.proof_processes.proofs.Promises.{open_promised}
use Rattle.proof_processes.proofs.Selves.{Self, self_same}
use Rattle.proof_processes.proofs.Tickets.{join_said}
use Rattle.proof_processes.proofs.Trims.{data_is_other}
use Rattle.proof_processes.proofs.TrimmedBranches.{trim_forgets}
use Rattle.proof_processes.proofs.Worlds.{has_other}
use Rattle.proof_processes.proofs.GivenCases.{Remembered, IsGiven, given_still, sent_other, joined_gives, same_of, branch_record, prepared_record, case_of, mark_push, unmarked_so}

open_not_idle : (x : Phase) → x ≡ Open → x ≢ Idle
open_not_idle x e f = absurd (let g = sym e ∙ f in cc)

over_not_open : {A : Type 0} (x : Phase) → x ≡ Over → x ≡ Open → A
over_not_open x e f = absurd (let g = sym e ∙ f in cc)

-- A step of its own.
module _ (me p : ProcessId) (tree : List TreeProcess) (net : List Envelope) (n : Node)
    (last : Lasts (AtLeaf p) (logs_of n))
    (issued : Issued (record { me = me; role = AtLeaf p; tree = tree }) net n)
    (known : Remembered (record { me = me; role = AtLeaf p; tree = tree }) net n) where
  abbrev place : Place
  place = record { me = me; role = AtLeaf p; tree = tree }

  -- Records.

  -- an open branch has its promise in the log
  open_is_given : (d : Case) → is_open (mark_at n d) ≡ true → IsGiven me net d
  open_is_given d e =
      known.recorded_is_given d
      (last.nested.kept_was_written (is_record_of d) (λ k. refl)
      (has_other (is_prepared d) (is_record_of d) (kept n) (prepared_record d)
      (open_promised d (kept n) (last.by_role.in_order d) (ap is_open (sym (mark_is d (kept n))) ∙ e))))

  module _ (h : Heard) (up : n.failed ≡ false) (stands : InputStands net me h.input) where
    record_given : (d x : Case) (o : Option Case) → o ≡ Some x → IsGiven me net x → is_of d o ≡ true
        → IsGiven me net d
    record_given d x o e g f = subst (λ (z : Case). IsGiven me net z)
        (same_of x d (sym (ap (is_of d) e) ∙ f)) g

    one_of : (q : Record → Bool) (r : Record) → has q (r ∷ []) ≡ true → q r ≡ true
    unfolding has
    one_of q r e = elim (either (q r) false e) [ inl now ↦ now | inr rest ↦ absurd (cc) ]

    none_of : {A : Type 0} (q : Record → Bool) → has q [] ≡ true → A
    unfolding has
    none_of q e = absurd (cc)

    written_given : (rs : List Record) → Wrote place n h rs → (d : Case) → has (is_record_of d) rs ≡ true
        → IsGiven me net d
    written_given _ nothing d e = none_of (is_record_of d) e
    written_given _ (promise x k ws i a) d e =
        record_given d x (Some x) refl
        (known.remembered_is_given up x (open_not_idle _ a.is_open))
        (one_of (is_record_of d) (PreparedRecord (CaseBranch x) ws) e)
    written_given _ (ending x r f) d e =
        record_given d x (record_case r) (case_of r x f.of) (open_is_given x f.is_open)
        (one_of (is_record_of d) r e)

    written_asked : (rs : List Record) → Wrote place n h rs → (d : Case) → has (is_promise d) rs ≡ true
        → sent (is_prepare_message d) net ≡ true
    written_asked _ nothing d e = none_of (is_promise d) e
    written_asked _ (promise x k ws i a) d e =
        subst (λ (z : Case). sent (is_prepare_message z) net ≡ true)
        (promised_case x d ws (one_of (is_promise d) (PreparedRecord (CaseBranch x) ws) e))
        (was_sent (is_prepare_message x) net me h.input i.0 (Prepare x k) stands i.1 (same_case-refl x))
      where
        promised_case : (x d : Case) (ws : List Write)
            → is_promise d (PreparedRecord (CaseBranch x) ws) ≡ true → x ≡ d
        promised_case x d ws e = elim (either (same_case x d) false e)
            [ inl now ↦ same_of x d now | inr rest ↦ absurd (cc) ]
    written_asked _ (ending x r f) d e = not_both (is_promise d) (is_promise d r) (one_of (is_promise d) r e)
        (f.no_promise d)

    -- what was written goes into the life list, newest first
    life_given : (rs : List Record) → Wrote place n h rs → (a : ℕ) (d : Case)
        → has (is_record_of d) (reverse (take a rs) ++ n.life) ≡ true → IsGiven me net d
    life_given rs w a d e = elim (in_either (is_record_of d) (reverse (take a rs)) n.life e) [
      | inl now ↦ written_given rs w d
          (in_front (is_record_of d) a rs (sym (has-reverse (is_record_of d) (take a rs)) ∙ now))
      | inr old ↦ known.recorded_is_given d old
    ]

    life_asked : (rs : List Record) → Wrote place n h rs → (a : ℕ) (d : Case)
        → has (is_promise d) (reverse (take a rs) ++ n.life) ≡ true → sent (is_prepare_message d) net ≡ true
    life_asked rs w a d e = elim (in_either (is_promise d) (reverse (take a rs)) n.life e) [
      | inl now ↦ written_asked rs w d
          (in_front (is_promise d) a rs (sym (has-reverse (is_promise d) (take a rs)) ∙ now))
      | inr old ↦ known.promised_was_asked d old
    ]

    -- An input that is handled.

    module _ (e : Effect) (r : reacts place n h ≡ Does e) (turn : TurnOf place n h e) where
      abbrev k : Node
      k = after n h e

      abbrev new : List Record
      new = entries_written e.written

      wrote : Wrote place n h new
      wrote = leaf_wrote place p n h e turn.turn

      memory_then : (d : Case) → memory_of place k d
          ≡ manager_remembers me (boot_of (kept n)) d (memory_of place n d) h.data_answer h.input
      memory_then d = memory_of-heard place n h e d
          (boot_written n h e (turn_none (AtLeaf p) place n h e turn.turn))

      abbrev Woken : Case → Type 0
      Woken d = Wakes me (boot_of (kept n)) d (memory_of place n d) h.data_answer h.input

      -- JOIN gave it
      woken_given : (d : Case) → Woken d → IsGiven me (net ++ e.messages) d
      woken_given d w =
          let t = next_ticket me (boot_of (kept n)) (memory_of place n d) in
          let there : d ≡ child_case w.parents.txn t = same_of d (child_case w.parents.txn t) w.is_next in
          subst (λ (z : Case). IsGiven me (net ++ e.messages) z) (sym there) (
            refl,
            sent-append (gives_case (child_case w.parents.txn t)) net e.messages
                ∙ left _ _ (sent_other (is_joined_message w.parents t)
                (gives_case (child_case w.parents.txn t)) e.messages
                (joined_gives w.parents t) (said w t (next_same w))),
          )
        where
          next_same : (w : Woken d) → next_ticket me (boot_of (kept n)) (memory_of place n w.parents)
              ≡ next_ticket me (boot_of (kept n)) (memory_of place n d)
          next_same w = ap (λ (s : Self). record {
            child = me;
            boot = boot_of (kept n);
            number = s.given + 1;
          })
              (self_same place n w.parents d)

          said : (w : Woken d) (t : Ticket) → next_ticket me (boot_of (kept n)) (memory_of place n w.parents)
              ≡ t
              → sent (is_joined_message w.parents t) e.messages ≡ true
          said w t same =
              subst (λ (u : Ticket). sent (is_joined_message w.parents u) e.messages ≡ true) same
              (join_said place n h e w.parents w.number tt w.hears up r
              (ap (λ (s : Self). active_ticket s.active w.parents) (self_same place n w.parents d)
              ∙ w.none_active)
              w.starts)

      remembered_then : (d : Case) → (memory_of place k d).phase ≢ Idle → IsGiven me (net ++ e.messages) d
      remembered_then d e' = elim (phase_moves me (boot_of (kept n)) d
          (memory_of place n d) h.data_answer h.input) [
            | inl same ↦ given_still me net e.messages d (known.remembered_is_given up d
                (λ idle. e' (ap (λ (m : Memory). m.phase) (memory_then d) ∙ (same ∙ idle))))
            | inr moved ↦ ended_or_woken d moved e'
          ]
        where
          ended_or_woken : (d : Case) → (((memory_of place n d).phase ≢ Idle)
              × ((manager_remembers me (boot_of (kept n)) d (memory_of place n d) h.data_answer h.input).phase
              ≡ Over))
              ⊎ Woken d → (memory_of place k d).phase ≢ Idle → IsGiven me (net ++ e.messages) d
          ended_or_woken d (inr w) f = woken_given d w
          ended_or_woken d (inl ended) f = given_still me net e.messages d
              (known.remembered_is_given up d ended.0)

      -- The last record.

      -- no case was given with the next ticket before
      fresh : {A : Type 0} (d : Case) → Woken d → sent (gives_case d) net ≡ true → A
      fresh {A} d w e' =
          let t = next_ticket me (boot_of (kept n)) (memory_of place n d) in
          let there : d ≡ child_case w.parents.txn t = same_of d (child_case w.parents.txn t) w.is_next in
          let g : Given net w.parents.txn t =
          given net w.parents.txn t (subst (λ (z : Case). sent (gives_case z) net ≡ true) there e') in
          next_is_new place net n issued up g.of d g.joined

      abbrev Mark' : Case → List Record → Mark
      Mark' d rs = mark_of (CaseBranch d) rs

      -- JOIN writes nothing
      woken_wrote : (rs : List Record) → Wrote place n h rs → (d : Case) → Woken d → rs ≡ []
      woken_wrote _ nothing d w = refl
      woken_wrote _ (promise x j ws i a) d w = absurd (let f = sym i.1 ∙ w.hears in cc)
      woken_wrote _ (ending x r' f) d w = absurd (f.no_join w.number w.parents w.hears)

      woken_unmarked : (d : Case) → Woken d → Mark' d (kept n ++ new) ≡ Unmarked
      woken_unmarked d w =
          ap (λ (rs : List Record). Mark' d (kept n ++ rs)) (woken_wrote new wrote d w)
          ∙ (ap (Mark' d) (append-nil (kept n))
          ∙ unmarked_so d (kept n) (by_test (has (is_branch_record d) (kept n)) refl))
        where
          by_test : (b : Bool) → has (is_branch_record d) (kept n) ≡ b
              → has (is_branch_record d) (kept n) ≡ false
          by_test true f = fresh d w
              (known.recorded_is_given d
              (last.nested.kept_was_written (is_record_of d) (λ x. refl)
              (has_other (is_branch_record d) (is_record_of d) (kept n) (branch_record d) f))).1
          by_test false f = f

      -- a branch that takes work on keeps to have no record
      still_unmarked : (rs : List Record) → Wrote place n h rs → (d : Case)
          → (memory_of place n d).phase ≡ Open
          → (manager_remembers me (boot_of (kept n)) d (memory_of place n d) h.data_answer h.input).phase
          ≡ Open
          → Mark' d (kept n ++ rs) ≡ Unmarked
      still_unmarked _ nothing d e' f = ap (Mark' d) (append-nil (kept n)) ∙ known.open_is_unmarked up d e'
      still_unmarked _ (promise x j ws i a) d e' f =
          mark_push d (kept n) (PreparedRecord (CaseBranch x) ws)
          ∙ (other_leaves d (Mark' d (kept n)) (PreparedRecord (CaseBranch x) ws)
          (by_test (same_case x d) refl) ∙ known.open_is_unmarked up d e')
        where
          by_test : (b : Bool) → same_case x d ≡ b → same_case x d ≡ false
          by_test true g =
              over_not_open _ (prepare_ends me (boot_of (kept n)) d
              (memory_of place n d) h.data_answer i.0 j h.input
              (subst (λ (z : Case). h.input ≡ MessageInput i.0 (Prepare z j)) (same_of x d g) i.1) e') f
          by_test false g = g
      still_unmarked _ (ending x r' g) d e' f =
          mark_push d (kept n) r'
          ∙ (other_leaves d (Mark' d (kept n)) r' (ap (branch_is d) g.of ∙ by_test (same_case x d) refl)
          ∙ known.open_is_unmarked up d e')
        where
          closed : {A : Type 0} (m : Mark) → m ≡ Unmarked → is_open m ≡ true → A
          closed m u v = absurd (let y = ap is_open u in cc)

          by_test : (b : Bool) → same_case x d ≡ b → same_case x d ≡ false
          by_test true s =
              closed (mark_at n d) (known.open_is_unmarked up d e')
              (subst (λ (z : Case). is_open (mark_at n z) ≡ true) (same_of x d s) g.is_open)
          by_test false s = s

      unmarked_then : (d : Case) → (memory_of place k d).phase ≡ Open → Mark' d (kept k) ≡ Unmarked
      unmarked_then d f =
          let opened = sym (ap (λ (m : Memory). m.phase) (memory_then d)) ∙ f in
          ap (Mark' d) (kept_after n h e)
          ∙ elim (phase_moves me (boot_of (kept n)) d (memory_of place n d) h.data_answer h.input) [
            | inl same ↦ still_unmarked new wrote d (sym same ∙ opened) opened
            | inr moved ↦ elim moved [
              | inl ended ↦ over_not_open _ ended.1 opened
              | inr w ↦ woken_unmarked d w
            ]
          ]

      whole_life : (rs : List Record) → take (length rs) rs ≡ rs
      whole_life [] = refl
      whole_life (x ∷ rs) = ap (λ y. x ∷ y) (whole_life rs)

      life_then : k.life ≡ reverse (take (length new) new) ++ n.life
      life_then =
          either_logs n new (is_any_forced e.written) (λ (l : Logs). l.life ≡ reverse new ++ n.life)
          (λ b. refl) (λ b. refl)
          ∙ ap (λ y. reverse y ++ n.life) (sym (whole_life new))

      handles_so : Remembered place (net ++ e.messages) k
      handles_so = record {
        recorded_is_given = λ d f. given_still me net e.messages d
            (life_given new wrote (length new) d (sym (ap (has (is_record_of d)) life_then) ∙ f));
        remembered_is_given = λ still d f. remembered_then d f;
        promised_was_asked = λ d f. sent-append (is_prepare_message d) net e.messages ∙ right _ _
            (life_asked new wrote (length new) d (sym (ap (has (is_promise d)) life_then) ∙ f));
        open_is_unmarked = λ still d f. unmarked_then d f;
        accepts_none = ap (λ l. l ++ n.accepted) (leaf_accepts place p n h e turn.turn) ∙ known.accepts_none;
      }

      -- Its device fails in it.
      fails_so : (a f : ℕ) → Remembered place (net ++ []) (fails_in n h e a f)
      fails_so a f = record {
        recorded_is_given = λ d g. given_still me net [] d (life_given new wrote a d g);
        remembered_is_given = λ still. absurd (cc);
        promised_was_asked = λ d g. sent-append (is_prepare_message d) net []
            ∙ right _ _ (life_asked new wrote a d g);
        open_is_unmarked = λ still. absurd (cc);
        accepts_none = ap (λ l. l ++ n.accepted) (leaf_accepts place p n h e turn.turn) ∙ known.accepts_none;
      }

  -- A step that appends no case's record.

  silent_given : (ls : List Envelope) (rs : List Record) (d : Case) → has (is_record_of d) rs ≡ false
      → has (is_record_of d) (reverse rs ++ n.life) ≡ true → IsGiven me (net ++ ls) d
  silent_given ls rs d none e = given_still me net ls d
      (elim (in_either (is_record_of d) (reverse rs) n.life e) [
        | inl now ↦ not_both (is_record_of d) (has (is_record_of d) rs)
            (sym (has-reverse (is_record_of d) rs) ∙ now) none
        | inr old ↦ known.recorded_is_given d old
      ])

  silent_asked : (ls : List Envelope) (rs : List Record) (d : Case) → has (is_promise d) rs ≡ false
      → has (is_promise d) (reverse rs ++ n.life) ≡ true → sent (is_prepare_message d) (net ++ ls) ≡ true
  silent_asked ls rs d none e = sent-append (is_prepare_message d) net ls
      ∙ right (sent (is_prepare_message d) ls) (sent (is_prepare_message d) net)
      (elim (in_either (is_promise d) (reverse rs) n.life e) [
        | inl now ↦ not_both (is_promise d) (has (is_promise d) rs)
            (sym (has-reverse (is_promise d) rs) ∙ now) none
        | inr old ↦ known.promised_was_asked d old
      ])

  one_none : (q : Record → Bool) (r : Record) → q r ≡ false → has q (r ∷ []) ≡ false
  unfolding has
  one_none q r e = rw e refl

  no_more : (q : Record → Bool) (a : ℕ) (rs : List Record) → has q rs ≡ false → has q (take a rs) ≡ false
  no_more q a rs e = front_none q a rs e

  fresh_phase : (x : Node) (d : Case) → x.heard ≡ [] → (memory_of place x d).phase ≡ Idle
  unfolding memory_of
  fresh_phase x d e = rw e refl

  restarts_so : (j : ℕ) (ls : List Envelope) → Remembered place (net ++ ls) (restarted place n j)
  restarts_so j ls = record {
    recorded_is_given = λ d. silent_given ls (reopens (AtLeaf p) (left_of n j)) d
        (one_none (is_record_of d) _ refl);
    remembered_is_given = λ up d f. absurd (f (fresh_phase (restarted place n j) d refl));
    promised_was_asked = λ d. silent_asked ls (reopens (AtLeaf p) (left_of n j)) d
        (one_none (is_promise d) _ refl);
    open_is_unmarked = λ up d f. absurd (let x = sym (fresh_phase (restarted place n j) d refl) ∙ f in cc);
    accepts_none = known.accepts_none;
  }

  restart_fails_so : (j a f : ℕ) → Remembered place (net ++ []) (restart_fails place n j a f)
  restart_fails_so j a f = record {
    recorded_is_given = λ d. silent_given [] (take a (reopens (AtLeaf p) (left_of n j))) d
        (no_more (is_record_of d) a _ (one_none (is_record_of d) _ refl));
    remembered_is_given = λ up. absurd (cc);
    promised_was_asked = λ d. silent_asked [] (take a (reopens (AtLeaf p) (left_of n j))) d
        (no_more (is_promise d) a _ (one_none (is_promise d) _ refl));
    open_is_unmarked = λ up. absurd (cc);
    accepts_none = known.accepts_none;
  }

  -- A trim.

  abbrev of_data : List Record
  of_data = data_records (AtLeaf p) (kept n)

  trimmed_unmarked : (d : Case) → mark_at n d ≡ Unmarked
      → mark_of (CaseBranch d) (kept (trims place n)) ≡ Unmarked
  trimmed_unmarked d e =
      ap (mark_of (CaseBranch d)) (append-nil (trimmed (AtLeaf p) (kept n)))
      ∙ unmarked_so d (trimmed (AtLeaf p) (kept n)) (trim_forgets p d (kept n) (ap is_open e))

  trims_so : n.failed ≡ false → Remembered place (net ++ []) (trims place n)
  trims_so up = record {
    recorded_is_given = λ d. silent_given [] of_data d
        (data_is_other (is_record_of d) (λ k v. refl) (λ k. refl) (AtLeaf p) (kept n));
    remembered_is_given = λ still d f. given_still me net [] d (known.remembered_is_given up d
        (λ idle. f (ap (λ (m : Memory). m.phase) (trims_memory place n d) ∙ idle)));
    promised_was_asked = λ d. silent_asked [] of_data d
        (data_is_other (is_promise d) (λ k v. refl) (λ k. refl) (AtLeaf p) (kept n));
    open_is_unmarked = λ still d f. trimmed_unmarked d
        (known.open_is_unmarked up d (sym (ap (λ (m : Memory). m.phase) (trims_memory place n d)) ∙ f));
    accepts_none = known.accepts_none;
  }

  fallen : (x : Node) → x.failed ≡ true → x.life ≡ n.life → x.accepted ≡ n.accepted
      → Remembered place (net ++ []) x
  fallen x down life accepted = record {
    recorded_is_given = λ d e. given_still me net [] d
        (known.recorded_is_given d (sym (ap (has (is_record_of d)) life) ∙ e));
    remembered_is_given = λ up. absurd (let y = sym down ∙ up in cc);
    promised_was_asked = λ d e. sent-append (is_prepare_message d) net [] ∙ right _ _
        (known.promised_was_asked d (sym (ap (has (is_promise d)) life) ∙ e));
    open_is_unmarked = λ up. absurd (let y = sym down ∙ up in cc);
    accepts_none = accepted ∙ known.accepts_none;
  }

  trim_fails_so : n.failed ≡ false → (a : ℕ) → Remembered place (net ++ []) (trim_fails place n a)
  trim_fails_so up zero = fallen _ refl refl refl
  trim_fails_so up (suc a) = let t = trims_so up in record {
    recorded_is_given = t.recorded_is_given;
    remembered_is_given = λ still. absurd (cc);
    promised_was_asked = t.promised_was_asked;
    open_is_unmarked = λ still. absurd (cc);
    accepts_none = t.accepts_none;
  }

  pub still_remembered : (m : Move) → MayHappen net me m.step.happening → (e : Effect) (k : Node)
      → StepOf place n m e k → Remembered place (net ++ e.messages) k
  still_remembered m stands _ _ (handled i g hp np r) =
      let turn = turn_of place n (heard_in m i) g r in
      handles_so (heard_in m i) turn.up (subst (λ (x : Happening). MayHappen net me x) hp stands) g r turn
  still_remembered m stands _ _ (failed_in i f g fl hp np r) =
      let turn = turn_of place n (heard_in m i) g r in
      fails_so (heard_in m i) turn.up (subst (λ (x : Happening). MayHappen net me x) hp stands) g r turn
      f.appended f.forced
  still_remembered m stands _ _ (passed i hp r) = absurd (cc)
  still_remembered m stands _ _ (failed_passing i f fl hp r) = absurd (cc)
  still_remembered m stands _ _ (reopened j hp) = restarts_so j _
  still_remembered m stands _ _ (failed_reopening j f fl hp) = restart_fails_so j f.appended f.forced
  still_remembered m stands _ _ (trims_log hp up) = trims_so up
  still_remembered m stands _ _ (failed_trimming f fl hp up) = trim_fails_so up f.appended
