-- What a cascaded coordinator keeps of READ and of its promises lasts through each of its steps.
use Rattle.std.proofs.Common.{◌≡◌, ◌∙◌, ◌⊎◌, inl, inr, ◌+◌, ◌||◌, Bool, true, false, List, [], ◌∷◌, ◌++◌, append_assoc, refl, sym, ap, subst, arith}
use Rattle.std.specs.Prelude.{reverse}
use Rattle.std.proofs.lemmas.List.{append-nil}
use Rattle.protocol.specs.declared.names.Case.{Case}
use Rattle.protocol.specs.declared.names.ProcessId.{ProcessId}
use Rattle.protocol.specs.declared.messages.Envelope.{Envelope}
use Rattle.protocol.specs.declared.records.Record.{Record}
use Rattle.protocol.specs.declared.events.Input.{Input}
use Rattle.protocol.specs.declared.trees.TreeProcess.{TreeProcess}
use Rattle.protocol.specs.Names.{child_case, same_case}
use Rattle.protocol.specs.Records.{boot_of, has, is_collecting, is_prepare}
use Rattle.protocol.specs.Memory.{Idle, Memory, Phase, active_ticket, cascaded_remembers, memory_of, next_ticket}
use Rattle.protocol.specs.Nodes.{Below, Effect, Heard, Node, Place, after, entries_written, is_any_forced, kept}
use Rattle.protocol.specs.Outcomes.{sent}
use Rattle.protocol.specs.Reactions.{Does, reacts}
use Rattle.protocol.specs.Standings.{some_case}
use Rattle.protocol.specs.Views.{IsOpenAlike}
use Rattle.protocol.proofs.ListLaws.{kept-after}
use Rattle.proof_pairs.specs.readings.ReadingOf.{gives_case}
use Rattle.proof_pairs.proofs.readings.Lists.{sent-append}
use Rattle.proof_pairs.proofs.readings.Memories.{memory_of-heard}
use Rattle.proof_pairs.proofs.turns.CoordinatorReactions.{coordinator_turn_of}
use Rattle.proof_pairs.proofs.turns.Steps.{turn_of}
use Rattle.proof_processes.specs.Lasts.{Logs, Nested, logs_of, standing}
use Rattle.proof_processes.specs.WorldHolds.{Issues, is_record_of}
use Rattle.proof_processes.proofs.Appends.{either_logs}
use Rattle.proof_processes.proofs.Boots.{boot_written, turn_none}
use Rattle.proof_processes.proofs.GivenCases.{same_of}
use Rattle.proof_processes.proofs.PairOf.{given}
use Rattle.proof_processes.proofs.Selves.{Self, self_same}
use Rattle.proof_processes.proofs.Tests.{has-cons, has-nil, has-reverse, in_either, in_first, in_none, in_second, not_both, right}
use Rattle.proof_processes.proofs.Worlds.{has_other}
use Rattle.proof_steps.proofs.cascades.Joins.{joins_phase, not_again}
use Rattle.proof_steps.proofs.cascades.Opens.{falls, input_is, IsJoin, live}
use Rattle.proof_steps.proofs.cascades.ReadCases.{Appended, Reads, collected_then, first_or, life_of, none_read, read_sent, said_read}
use Rattle.proof_steps.proofs.cascades.RowWords.{Words, collects_now, plainly, promises_now, reads_now, turn_words}

promise_of : (c : Case) (r : Record) → is_prepare c r ≡ true → is_record_of c r ≡ true
promise_of c r e = grind arith

one_is : (q : Record → Bool) (r : Record) (b : Bool) → q r ≡ b → has q (r ∷ []) ≡ b
one_is q r b e = has-cons q r [] ∙ (ap (λ x. x || has q []) e ∙ (ap (λ x. b || x) (has-nil q) ∙ last b))
  where
    last : (b : Bool) → (b || false) ≡ b
    last b = grind arith

-- What the process keeps besides.
pub record Keeps (me p : ProcessId) (tree : List TreeProcess) (net : List Envelope) (n : Node) : Type 0 where
  pub nested : Nested (logs_of n)
  pub alike : n.failed ≡ false → (c : Case) → IsOpenAlike
      (record { me = me; role = Below p; tree = tree }) n c
  pub issues : Issues (record { me = me; role = Below p; tree = tree }) net n

module _ (me p : ProcessId) (tree : List TreeProcess) (net : List Envelope) (n : Node)
    (keeps : Keeps me p tree net n) (old : Reads (record
    { me = me; role = Below p; tree = tree }) net n) where
  abbrev place : Place
  place = record { me = me; role = Below p; tree = tree }

  -- An input.

  module _ (h : Heard) (e : Effect) (r : reacts (record { me = me; role = Below p; tree = tree }) n h
      ≡ Does e)
      (c : Case) where
    up : n.failed ≡ false
    up = (turn_of place n h e r).up

    abbrev m : Memory
    m = memory_of place n c

    abbrev Then : Memory
    Then = cascaded_remembers me (boot_of (kept n)) c (memory_of place n c) h.input

    abbrev new : List Record
    new = entries_written e.written

    idle_closed : (ph : Phase) → ph ≡ Idle → live ph ≡ false
    idle_closed ph f = ap live f

    -- an open case was given
    open_given : (x : Case) → live (memory_of place n x).phase ≡ true → sent (gives_case x) net ≡ true
    open_given x f = (keeps.issues.remembered_is_given up x
        (λ g. let k = sym f ∙ idle_closed (memory_of place n x).phase g in cc)).1

    words : Words c e (live m.phase) (live Then.phase)
    words =
        turn_words me p tree n h net (keeps.alike up) (λ x f. (keeps.issues.remembered_is_given up x f).1) c e
        (coordinator_turn_of place n h e r)

    -- A case that is open was open, or was given by nobody.

    not_given : (x : Case) → same_case c (child_case x.txn (next_ticket me (boot_of (kept n)) m)) ≡ true
        → sent (gives_case c) net ≡ true → ⊥
    not_given x f g =
        let t = next_ticket me (boot_of (kept n)) m in
        let y = given net x.txn t (subst (λ (z : Case). sent (gives_case z) net ≡ true)
        (same_of c (child_case x.txn t) f) g) in
        not_again (boot_of (kept n)) (memory_of place n (some_case place)).given t.number
        (ap (λ (s : Self). s.given + 1) (self_same place n c (some_case place)))
        (keeps.issues.given_once up y.of t refl y.joined)

    opened : live Then.phase ≡ true → (live m.phase ≡ true) ⊎ (sent (gives_case c) net ≡ true → ⊥)
    opened f = elim (input_is h.input) [
      | inl join ↦ by_case join (same_case c (child_case join.parents.txn
          (next_ticket me (boot_of (kept n)) m))) refl
      | inr row ↦ elim (falls me (boot_of (kept n)) c m h.input row) [
        | inl same ↦ inl (sym same ∙ f)
        | inr closed ↦ absurd (let k = sym f ∙ closed in cc)
      ]
    ]
      where
        by_case : (j : IsJoin h.input) (b : Bool)
            → same_case c (child_case j.parents.txn (next_ticket me (boot_of (kept n)) m)) ≡ b
            → (live m.phase ≡ true) ⊎ (sent (gives_case c) net ≡ true → ⊥)
        by_case j true g = inr (not_given j.parents g)
        by_case j false g =
            inl (sym (ap live (ap (λ (x : Input). (cascaded_remembers me (boot_of (kept n)) c m x).phase) j.is
            ∙ joins_phase me (boot_of (kept n)) c j.parents m (active_ticket m.active j.parents) g)) ∙ f)

    -- The records.

    pub promise_open : has (is_prepare c) new ≡ true → live m.phase ≡ true
    promise_open f = by_words words
      where
        by_words : Words c e (live m.phase) (live Then.phase) → live m.phase ≡ true
        by_words (plainly x) = not_both (is_prepare c) (has (is_prepare c) new) f x.no_promise
        by_words (reads_now w i x y) = w
        by_words (promises_now ts w i x y) = w
        by_words (collects_now w x y) = w

    pub collecting_open : has (is_collecting c) new ≡ true → live m.phase ≡ true
    collecting_open f = by_words words
      where
        by_words : Words c e (live m.phase) (live Then.phase) → live m.phase ≡ true
        by_words (plainly x) = not_both (is_collecting c) (has (is_collecting c) new) f x.no_collecting
        by_words (reads_now w i x y) = w
        by_words (promises_now ts w i x y) = w
        by_words (collects_now w x y) = w

    pub open_none : live m.phase ≡ true → has (is_prepare c) n.life ≡ false
    open_none f = old.open_promised_nothing up c f

    -- What is said.

    read_open : said_read me c e.messages ≡ true → (live m.phase ≡ true)
        × ((live Then.phase ≡ false) × (has (is_prepare c) (entries_written e.written) ≡ false))
    read_open f = by_words words
      where
        by_words : Words c e (live m.phase) (live Then.phase) → (live m.phase ≡ true)
            × ((live Then.phase ≡ false) × (has (is_prepare c) (entries_written e.written) ≡ false))
        by_words (reads_now w i x y) = (w, (i, x))
        by_words (plainly x) = absurd (let k = sym (read_sent me c e.messages f) ∙ x.no_read in cc)
        by_words (promises_now ts w i x y) = absurd (let k = sym (read_sent me c e.messages f) ∙ x in cc)
        by_words (collects_now w x y) = absurd (let k = sym (read_sent me c e.messages f) ∙ x in cc)

    -- after a front of what was written
    pub promised_nothing : (xs : List Record) → (has (is_prepare c) xs ≡ true → has (is_prepare c) new ≡ true)
        → (k : Node) → k.life ≡ reverse xs ++ n.life → said_read me c net ≡ true → has (is_prepare c) k.life
        ≡ false
    promised_nothing xs sub k life f =
        ap (has (is_prepare c)) life
        ∙ in_none (is_prepare c) (reverse xs) n.life
        (has-reverse (is_prepare c) xs ∙ none (has (is_prepare c) xs) refl)
        (old.read_promised_nothing c f)
      where
        none : (b : Bool) → has (is_prepare c) xs ≡ b → has (is_prepare c) xs ≡ false
        none false g = g
        none true g = absurd (let x = sym f ∙ old.open_read_nothing up c (promise_open (sub g)) in cc)

    said_nothing : (k : Node) → k.life ≡ reverse new ++ n.life → said_read me c e.messages ≡ true
        → has (is_prepare c) k.life ≡ false
    said_nothing k life f =
        let o = read_open f in
        ap (has (is_prepare c)) life
        ∙ in_none (is_prepare c) (reverse new) n.life (has-reverse (is_prepare c) new ∙ o.1.1) (open_none o.0)

    pub given_still : said_read me c (net ++ e.messages) ≡ true → sent (gives_case c) (net ++ e.messages)
        ≡ true
    given_still f =
        sent-append (gives_case c) net e.messages ∙ right _ _
        (first_or me c net e.messages f (old.read_is_given c) (λ g. open_given c (read_open g).0))

    -- The process is up.

    life_after : (after n h e).life ≡ reverse (entries_written e.written) ++ n.life
    life_after =
        either_logs n new (is_any_forced e.written) (λ (l : Logs). l.life ≡ reverse new ++ n.life) (λ b. refl)
        (λ b. refl)

    phase_after : live (memory_of place (after n h e) c).phase ≡ live Then.phase
    phase_after =
        ap (λ (x : Memory). live x.phase)
        (memory_of-heard place n h e c (boot_written n h e
        (turn_none place.role place n h e (turn_of place n h e r).turn)))

    recorded_given : has (is_prepare c) n.life ≡ true → sent (gives_case c) net ≡ true
    recorded_given f =
        (keeps.issues.recorded_is_given c (has_other (is_prepare c) (is_record_of c) n.life
        (promise_of c) f)).1

    unforced_none : is_any_forced e.written ≡ false → has (is_prepare c) new ≡ false
    unforced_none f = by_words words
      where
        by_words : Words c e (live m.phase) (live Then.phase) → has (is_prepare c) new ≡ false
        by_words (plainly x) = x.no_promise
        by_words (reads_now w i x y) = x
        by_words (collects_now w x y) = y
        by_words (promises_now ts w i x y) =
            absurd (let k : true ≡ false = ap is_any_forced (sym y) ∙ f in cc)

    durable_after : has (is_prepare c) (after n h e).durable ≡ true
        → (has (is_prepare c) (kept (after n h e)) ≡ true) ⊎ (has (is_prepare c) n.durable ≡ true)
    durable_after =
        either_logs n new (is_any_forced e.written)
        (λ (l : Logs). has (is_prepare c) l.durable ≡ true
        → (has (is_prepare c) (standing l) ≡ true) ⊎ (has (is_prepare c) n.durable ≡ true))
        (λ b f. elim (in_either (is_prepare c) new (kept n ++ n.durable) f) [
          | inl now ↦ inl (in_first (is_prepare c) (kept n ++ new) []
              (in_second (is_prepare c) (kept n) new now))
          | inr rest ↦ elim (in_either (is_prepare c) (kept n) n.durable rest) [
            | inl before ↦ inl (in_first (is_prepare c) (kept n ++ new) []
                (in_first (is_prepare c) (kept n) new before))
            | inr ever ↦ inr ever
          ]
        ]) (λ b f. inr f)

    once_after : has (is_prepare c) (kept (after n h e)) ≡ true → has (is_prepare c) (after n h e).durable
        ≡ true
        → has (is_prepare c) (after n h e).forced ≡ true
    once_after =
        either_logs n new (is_any_forced e.written)
        (λ (l : Logs). has (is_prepare c) (standing l) ≡ true → has (is_prepare c) l.durable ≡ true
        → has (is_prepare c) l.forced ≡ true)
        (λ b f g. ap (has (is_prepare c)) (sym (append-nil (kept n ++ new))) ∙ f)
        (λ b f g. elim (in_either (is_prepare c) (kept n) new
        (ap (has (is_prepare c)) (append_assoc n.forced n.unforced new) ∙ f)) [
          | inl before ↦ old.promise_is_once c before g
          | inr now ↦ not_both (is_prepare c) (has (is_prepare c) new) now (unforced_none b)
        ])

    pub appended_after : Appended n (after n h e) c (entries_written e.written)
        (live (memory_of place n c).phase)
    appended_after = record {
      kept_then = kept-after n h e;
      life_then = life_after;
      durable_from = durable_after;
      promise_was_open = promise_open;
      collecting_was_open = collecting_open;
    }

    open_promised : live (memory_of place (after n h e) c).phase ≡ true
        → has (is_prepare c) (after n h e).life ≡ false
    open_promised f =
        let o = sym phase_after ∙ f in
        by_life (has (is_prepare c) (after n h e).life) refl o
      where
        closes : has (is_prepare c) new ≡ true → live Then.phase ≡ false
        closes g = by_words words
          where
            by_words : Words c e (live m.phase) (live Then.phase) → live Then.phase ≡ false
            by_words (plainly x) = not_both (is_prepare c) (has (is_prepare c) new) g x.no_promise
            by_words (reads_now w i x y) = i
            by_words (promises_now ts w i x y) = i
            by_words (collects_now w x y) = not_both (is_prepare c) (has (is_prepare c) new) g y

        by_life : (b : Bool) → has (is_prepare c) (after n h e).life ≡ b → live Then.phase ≡ true
            → has (is_prepare c) (after n h e).life ≡ false
        by_life false g o = g
        by_life true g o = elim (life_of n (after n h e) c new (live m.phase) appended_after
            (old.collected_promise c)
            open_none g) [
              | inl now ↦ absurd (let k = sym o ∙ closes now in cc)
              | inr before ↦ elim (opened o) [
                | inl was ↦ not_both (is_prepare c) (has (is_prepare c) n.life) before (open_none was)
                | inr fresh ↦ absurd (fresh (recorded_given before))
              ]
            ]

    open_read : live (memory_of place (after n h e) c).phase ≡ true → said_read me c (net ++ e.messages)
        ≡ false
    open_read f =
        let o = sym phase_after ∙ f in
        none_read me c net e.messages (by_net (said_read me c net) refl (opened o))
        (by_messages (said_read me c e.messages) refl o)
      where
        by_net : (b : Bool) → said_read me c net ≡ b → (live m.phase ≡ true)
            ⊎ (sent (gives_case c) net ≡ true → ⊥)
            → said_read me c net ≡ false
        by_net false g o = g
        by_net true g (inl was) = old.open_read_nothing up c was
        by_net true g (inr fresh) = absurd (fresh (old.read_is_given c g))

        by_messages : (b : Bool) → said_read me c e.messages ≡ b → live Then.phase ≡ true
            → said_read me c e.messages ≡ false
        by_messages false g o = g
        by_messages true g o = absurd (let k = sym o ∙ (read_open g).1.0 in cc)

  -- what an input that is handled leaves
  pub handled_reads : (h : Heard) (e : Effect) → reacts place n h ≡ Does e
      → Reads place (net ++ e.messages) (after n h e)
  handled_reads h e r = record {
    read_promised_nothing = λ c f. first_or me c net e.messages f
        (promised_nothing h e r c (entries_written e.written) (λ x. x) (after n h e) (life_after h e r c))
        (said_nothing h e r c (after n h e) (life_after h e r c));
    open_read_nothing = λ u c f. open_read h e r c f;
    read_is_given = λ c f. given_still h e r c f;
    open_promised_nothing = λ u c f. open_promised h e r c f;
    promise_is_once = λ c f g. once_after h e r c f g;
    collected_promise = λ c f g. collected_then n (after n h e) c (entries_written e.written)
        (live (memory_of place n c).phase) (appended_after h e r c) (old.collected_promise c)
        (open_none h e r c) f g;
  }
