-- In every run of every tree a cascaded coordinator that said READ of a case never promised it.
use Rattle.std.proofs.Common.{◌≡◌, ◌∙◌, ◌⊎◌, inl, inr, ◌&&◌, ℕ, zero, suc, Bool, true, false, Some, List, [], ◌++◌, refl, sym, ap, subst}
use Rattle.std.proofs.lemmas.List.{append-nil}
use Rattle.protocol.specs.declared.names.Case.{Case}
use Rattle.protocol.specs.declared.names.ProcessId.{ProcessId}
use Rattle.protocol.specs.declared.messages.Envelope.{Envelope}
use Rattle.protocol.specs.declared.records.Record.{Record}
use Rattle.protocol.specs.declared.trees.TreeProcess.{TreeProcess}
use Rattle.protocol.specs.NameLaws.{same_process_tells}
use Rattle.protocol.specs.Records.{has, is_collecting, is_prepare}
use Rattle.protocol.specs.Memory.{Memory, memory_of}
use Rattle.protocol.specs.Nodes.{Below, Effect, Node, Place, Role, kept, opened_node, place_of, role_of}
use Rattle.protocol.specs.Restarts.{case_stays, trim_fails, trimmed, trims}
use Rattle.protocol.specs.World.{IsRun, Made, Move, World, makes, opens}
use Rattle.protocol.proofs.RunLaws.{makes_at}
use Rattle.proof_pairs.specs.readings.ReadingOf.{gives_case}
use Rattle.proof_pairs.proofs.readings.Lists.{sent-append}
use Rattle.proof_pairs.specs.turns.Steps.{StepOf, failed_in, failed_passing, failed_reopening, failed_trimming, handled, heard_in, passed, reopened, trims_log}
use Rattle.proof_pairs.proofs.turns.Steps.{step_of}
use Rattle.proof_processes.specs.WorldHolds.{RoleHolds}
use Rattle.proof_processes.proofs.Boots.{trims_memory}
use Rattle.proof_processes.proofs.CoordinatorsHold.{cascaded_nodes_hold}
use Rattle.proof_processes.proofs.Tests.{both, in_first, in_none, right}
use Rattle.proof_steps.specs.cascades.Messages.{AllSentBy}
use Rattle.proof_steps.proofs.cascades.Opens.{live}
use Rattle.proof_steps.proofs.cascades.ReadCases.{Reads, first_or, none_read, others_unread, said_read}
use Rattle.proof_steps.proofs.cascades.ReadSteps.{Keeps, handled_reads}
use Rattle.proof_steps.proofs.cascades.ReadsHold.{broken_reads, fallen, reopened_reads, reopening_reads, silent}
use Rattle.proof_steps.proofs.cascades.Senders.{step_sent}
use Rattle.proof_steps.proofs.cascades.Trimmed.{of_collecting, of_prepare, trimmed_has}

module _ (me p : ProcessId) (tree : List TreeProcess) (net : List Envelope) (n : Node)
    (keeps : Keeps me p tree net n) (old : Reads (record
    { me = me; role = Below p; tree = tree }) net n) where
  abbrev place : Place
  place = record { me = me; role = Below p; tree = tree }

  -- A trim.

  abbrev rs : List Record
  rs = kept n

  abbrev less : List Record
  less = trimmed (Below p) (kept n)

  promise_left : (c : Case) → has (is_prepare c) (trimmed (Below p) (kept n))
      ≡ (case_stays (kept n) (Some c) && has (is_prepare c) (kept n))
  promise_left c = trimmed_has p c (is_prepare c) (of_prepare c) rs (λ k. refl)

  collecting_left : (c : Case) → has (is_collecting c) (trimmed (Below p) (kept n))
      ≡ (case_stays (kept n) (Some c) && has (is_collecting c) (kept n))
  collecting_left c = trimmed_has p c (is_collecting c) (of_collecting c) rs (λ k. refl)

  still_open : (c : Case) → live (memory_of place (trims place n) c).phase ≡ live (memory_of place n c).phase
  still_open c = ap (λ (m : Memory). live m.phase) (trims_memory place n c)

  collected : (c : Case) → has (is_prepare c) n.life ≡ true
      → has (is_collecting c) (trimmed (Below p) (kept n)) ≡ true
      → (has (is_prepare c) (trimmed (Below p) (kept n)) ≡ true)
      ⊎ (has (is_prepare c) (trimmed (Below p) (kept n) ++ n.durable) ≡ false)
  collected c e f = by_stay (both (case_stays rs (Some c)) (has (is_collecting c) rs)
      (sym (collecting_left c) ∙ f))
    where
      by_less : (b : Bool) → has (is_prepare c) less ≡ b → has (is_prepare c) n.durable ≡ false
          → (has (is_prepare c) less ≡ true) ⊎ (has (is_prepare c) (less ++ n.durable) ≡ false)
      by_less true x y = inl x
      by_less false x y = inr (in_none (is_prepare c) less n.durable x y)

      by_stay : (case_stays rs (Some c) ≡ true) × (has (is_collecting c) rs ≡ true)
          → (has (is_prepare c) less ≡ true) ⊎ (has (is_prepare c) (less ++ n.durable) ≡ false)
      by_stay k = elim (old.collected_promise c e k.1) [
        | inl x ↦ inl (promise_left c ∙ (ap (λ b. b && has (is_prepare c) rs) k.0 ∙ x))
        | inr x ↦ by_less (has (is_prepare c) less) refl x
      ]

  in_less : (q : Record → Bool) → has q (trimmed (Below p) (kept n) ++ []) ≡ true
      → has q (trimmed (Below p) (kept n)) ≡ true
  in_less q e = ap (has q) (sym (append-nil less)) ∙ e

  in_kept : (q : Record → Bool) → has q (trimmed (Below p) (kept n)) ≡ true
      → has q (trimmed (Below p) (kept n) ++ []) ≡ true
  in_kept q e = in_first q less [] e

  collected_kept : (c : Case) → has (is_prepare c) n.life ≡ true
      → has (is_collecting c) (trimmed (Below p) (kept n) ++ []) ≡ true
      → (has (is_prepare c) (trimmed (Below p) (kept n) ++ []) ≡ true)
      ⊎ (has (is_prepare c) (trimmed (Below p) (kept n) ++ n.durable) ≡ false)
  collected_kept c e f = elim (collected c e (in_less (is_collecting c) f)) [
    | inl x ↦ inl (in_kept (is_prepare c) x)
    | inr x ↦ inr x
  ]

  trimmed_reads : Reads place net (trims place n)
  trimmed_reads = record {
    read_promised_nothing = old.read_promised_nothing;
    open_read_nothing = λ up c e. old.open_read_nothing up c (sym (still_open c) ∙ e);
    read_is_given = old.read_is_given;
    open_promised_nothing = λ up c e. old.open_promised_nothing up c (sym (still_open c) ∙ e);
    promise_is_once = λ c e f. in_less (is_prepare c) e;
    collected_promise = collected_kept;
  }

  trim_failed : (a : ℕ) → Reads place net (trim_fails place n a)
  trim_failed zero = fallen me p tree net n keeps old
  trim_failed (suc a) = record {
    read_promised_nothing = old.read_promised_nothing;
    open_read_nothing = λ up. absurd (cc);
    read_is_given = old.read_is_given;
    open_promised_nothing = λ up. absurd (cc);
    promise_is_once = λ c e f. in_less (is_prepare c) e;
    collected_promise = collected_kept;
  }

  -- Each step.
  read_step : (m : Move) (e : Effect) (k : Node) → StepOf place n m e k → Reads place (net ++ e.messages) k
  read_step m _ _ (handled i g hp np r) = handled_reads me p tree net n keeps old (heard_in m i) g r
  read_step m _ _ (failed_in i f g fl hp np r) =
      silent me p tree net n keeps old _ (broken_reads me p tree net n keeps old
      (heard_in m i) g r f.appended f.forced)
  read_step m _ _ (passed i hp r) = silent me p tree net n keeps old n old
  read_step m _ _ (failed_passing i f fl hp r) =
      silent me p tree net n keeps old (record n { failed = true }) (fallen me p tree net n keeps old)
  read_step m _ _ (reopened j hp) = reopened_reads me p tree net n keeps old j
  read_step m _ _ (failed_reopening j f fl hp) =
      silent me p tree net n keeps old _ (reopening_reads me p tree net n keeps old j f.appended f.forced)
  read_step m _ _ (trims_log hp up) = silent me p tree net n keeps old (trims place n) trimmed_reads
  read_step m _ _ (failed_trimming f fl hp up) =
      silent me p tree net n keeps old (trim_fails place n f.appended) (trim_failed f.appended)

-- Another process's step.
others_read : (place : Place) (net ls : List Envelope) (n : Node) (q : ProcessId) → (q ≡ place.me → ⊥)
    → AllSentBy q ls → Reads place net n → Reads place (net ++ ls) n
others_read place net ls n q apart from old = record {
  read_promised_nothing = λ c e. first_or place.me c net ls e (old.read_promised_nothing c) (λ x. none c x);
  open_read_nothing = λ up c e. none_read place.me c net ls (old.open_read_nothing up c e)
      (others_unread place.me q c ls apart from);
  read_is_given = λ c e. sent-append (gives_case c) net ls ∙ right _ _
      (first_or place.me c net ls e (old.read_is_given c) (λ x. none c x));
  open_promised_nothing = old.open_promised_nothing;
  promise_is_once = old.promise_is_once;
  collected_promise = old.collected_promise;
}
  where
    none : {A : Type 0} (c : Case) → said_read place.me c ls ≡ true → A
    none c x = absurd (let y = sym (others_unread place.me q c ls apart from) ∙ x in cc)

no_promise_opened : (c : Case) → has (is_prepare c) opened_node.life ≡ false
unfolding has
no_promise_opened c = refl

no_collecting_opened : (c : Case) → has (is_collecting c) (kept opened_node) ≡ true → ⊥
unfolding has
no_collecting_opened c e = cc

no_kept_opened : (c : Case) → has (is_prepare c) (kept opened_node) ≡ true → ⊥
unfolding has
no_kept_opened c e = cc

opened_reads : (place : Place) → Reads place [] opened_node
opened_reads place = record {
  read_promised_nothing = λ c e. no_promise_opened c;
  open_read_nothing = λ up c e. refl;
  read_is_given = λ c e. absurd (cc);
  open_promised_nothing = λ up c e. no_promise_opened c;
  promise_is_once = λ c e f. absurd (no_kept_opened c e);
  collected_promise = λ c e f. absurd (no_collecting_opened c f);
}

at : (tree : List TreeProcess) (q p : ProcessId) → Place
at tree q p = record { me = q; role = Below p; tree = tree }

keeps_at : (tree : List TreeProcess) (es : List Made) (w : World) → IsRun tree es w → (q p : ProcessId)
    → role_of tree q ≡ Below p → Keeps q p tree w.net (w.at q)
keeps_at tree es w run q p below =
    let place : (r : Role) → Place = λ r. record { me = q; role = r; tree = tree } in
    let holds = cascaded_nodes_hold tree es w run q p below in
    let parts : RoleHolds (Below p) (place (Below p)) w.net (w.at q) =
    subst (λ (r : Role). RoleHolds r (place r) w.net (w.at q)) below holds.role in
    record { nested = holds.lasts.nested; alike = parts.0.alike; issues = parts.1.1 }

pub all_read : (tree : List TreeProcess) (es : List Made) (w : World) → IsRun tree es w → (q p : ProcessId)
    → role_of tree q ≡ Below p → Reads (record { me = q; role = Below p; tree = tree }) w.net (w.at q)
all_read tree _ _ opens q p below = opened_reads (record { me = q; role = Below p; tree = tree })
all_read tree _ _ (makes es w m e w' run stands step) q p below =
    let here = makes_at tree w m e w' step in
    let x = m.step.process in
    let s = step_of (place_of tree x) (w.at x) m e here.node here.made in
    subst (λ (z : World). Reads (record { me = q; role = Below p; tree = tree }) z.net (z.at q))
    (sym here.world)
    (elim (same_process_tells x q) [
      | inl same ↦ rw same.0 (subst (λ (y : ProcessId). role_of tree y ≡ Below p
          → StepOf (place_of tree y) (w.at y) m e here.node
          → Reads (record { me = y; role = Below p; tree = tree }) (w.net ++ e.messages) here.node) same.1
          (λ b s'. read_step x p tree w.net (w.at x) (keeps_at tree es w run x p b)
          (all_read tree es w run x p b) m e
          here.node (subst (λ (r : Role). StepOf (record { me = x; role = r; tree = tree })
          (w.at x) m e here.node) b s'))
          below (subst (λ (y : ProcessId). StepOf (place_of tree y) (w.at y) m e here.node) same.1 s))
      | inr other ↦ rw other.0 (others_read (record
          { me = q; role = Below p; tree = tree }) w.net e.messages (w.at q) x
          other.1 (step_sent (place_of tree x) (w.at x) m e here.node s) (all_read tree es w run q p below))
    ])
