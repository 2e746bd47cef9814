-- In every run a cascaded coordinator that said READ of a case never promised it.
use Rattle.std.proofs.Common.{◌≡◌, ◌∙◌, ◌⊎◌, inl, inr, ◌&&◌, ◌||◌, ℕ, Bool, true, false, Some, List, [], ◌∷◌, ◌++◌, take, drop, append_assoc, refl, sym, ap, subst, arith}
use Rattle.std.specs.Prelude.{reverse}
use Rattle.std.specs.List.{flat_map}
use Rattle.std.proofs.lemmas.List.{append-nil, take-append-drop}
use Rattle.protocol.specs.declared.names.Case.{Case}
use Rattle.protocol_words.specs.Variants.{AbortedOutcome, CommittedOutcome}
use Rattle.protocol.specs.declared.names.ProcessId.{ProcessId}
use Rattle.protocol.specs.declared.messages.Envelope.{Envelope}
use Rattle.protocol.specs.declared.records.Record.{Record}
use Rattle.protocol.specs.declared.standings.Standing.{Standing}
use Rattle.protocol.specs.declared.standings.Standing.TheVariants.{Unknown, Active, Collecting, Prepared, Committing, Aborting, Heuristic}
use Rattle.protocol.specs.declared.trees.TreeProcess.{TreeProcess}
use Rattle.protocol.specs.Records.{cases_in, has, is_collecting, is_prepare}
use Rattle.protocol.specs.Memory.{Memory, memory_of}
use Rattle.protocol.specs.Nodes.{Below, Effect, Heard, Node, Place, entries_written, fails_in, kept}
use Rattle.protocol.specs.Outcomes.{is_read_message, sent}
use Rattle.protocol.specs.Reactions.{Does, reacts}
use Rattle.protocol.specs.Restarts.{coordinator_reopens, coordinator_resumes, left_of, recorded_view, restart_fails, restarted, resumes, resumes_by}
use Rattle.protocol.specs.Standings.{CoordinatorView}
use Rattle.proof_pairs.specs.readings.ReadingOf.{gives_case}
use Rattle.proof_pairs.proofs.readings.Lists.{sent-append}
use Rattle.proof_processes.specs.Lasts.{logs_of}
use Rattle.proof_processes.proofs.Appends.{breaks_keeps, loses}
use Rattle.proof_processes.proofs.CoordinatorKept.{memory_empty}
use Rattle.proof_processes.proofs.Tests.{has-reverse, in_either, in_first, in_front, in_none, in_second, not_both, right}
use Rattle.proof_steps.proofs.cascades.Ends.{none_reopens, none_taken}
use Rattle.proof_steps.proofs.cascades.Opens.{live}
use Rattle.proof_steps.proofs.cascades.ReadCases.{Reads, collected_then, first_or, said_read, unread}
use Rattle.proof_steps.proofs.cascades.ReadSteps.{Keeps, collecting_open, open_none, promise_open, promised_nothing}
use Rattle.proof_steps.proofs.cascades.RowWords.{each_unread}

and-both : (a b : Bool) → a ≡ true → b ≡ true → (a && b) ≡ true
and-both a b e f = grind arith

-- a restart says READ of nothing
resumed_unread : (c : Case) (me p : ProcessId) (d : Case) (v : CoordinatorView) (s : Standing)
    → sent (is_read_message c) (resumes_by (record { me = me; parent = Some p; own = d }) v s) ≡ false
unfolding sent
resumed_unread c me p d v Committing = each_unread c
    (record { me = me; parent = Some p; own = d }) CommittedOutcome v.owed
resumed_unread c me p d v Aborting = each_unread c
    (record { me = me; parent = Some p; own = d }) AbortedOutcome v.owed
resumed_unread c me p d v Prepared = refl
resumed_unread c me p d v Unknown = refl
resumed_unread c me p d v Active = refl
resumed_unread c me p d v Collecting = refl
resumed_unread c me p d v Heuristic = refl

or-none : (a b : Bool) → a ≡ false → b ≡ false → (a || b) ≡ false
or-none a b e f = grind arith

resumes_unread : (c : Case) (me p : ProcessId) (rs : List Record) (cs : List Case)
    → sent (is_read_message c) (flat_map (coordinator_resumes me (Some p) rs) cs) ≡ false
unfolding sent
resumes_unread c me p rs [] = refl
resumes_unread c me p rs (d ∷ cs) =
    sent-append (is_read_message c) (coordinator_resumes me (Some p) rs d)
    (flat_map (coordinator_resumes me (Some p) rs) cs)
    ∙ or-none _ _ (resumes_unread c me p rs cs)
    (resumed_unread c me p d (recorded_view rs d) (recorded_view rs d).standing)

module _ (me p : ProcessId) (tree : List TreeProcess) (net : List Envelope) (n : Node)
    (keeps : Keeps me p tree net n) (old : Reads (record
    { me = me; role = Below p; tree = tree }) net n) where
  abbrev place : Place
  place = record { me = me; role = Below p; tree = tree }

  -- a step that sends nothing
  pub silent : (k : Node) → Reads place net k → Reads place (net ++ []) k
  silent k h = subst (λ (ls : List Envelope). Reads place ls k) (sym (append-nil net)) h

  -- where the device failed, and nothing was written
  pub fallen : Reads place net (record n { failed = true })
  fallen = record {
    read_promised_nothing = old.read_promised_nothing;
    open_read_nothing = λ up. absurd (cc);
    read_is_given = old.read_is_given;
    open_promised_nothing = λ up. absurd (cc);
    promise_is_once = old.promise_is_once;
    collected_promise = old.collected_promise;
  }

  -- An input in which the device fails.

  pub broken_reads : (h : Heard) (e : Effect) → reacts place n h ≡ Does e → (a f : ℕ)
      → Reads place net (fails_in n h e a f)
  broken_reads h e r a f =
      let k = fails_in n h e a f in
      let xs = take a (entries_written e.written) in
      let behind = n.unforced ++ xs in
      record {
        read_promised_nothing = λ c x. promised_nothing me p tree net n keeps old h e r c xs
            (λ y. in_front (is_prepare c) a (entries_written e.written) y) k refl x;
        open_read_nothing = λ up. absurd (cc);
        read_is_given = old.read_is_given;
        open_promised_nothing = λ up. absurd (cc);
        promise_is_once = λ c x y. once c (in_either (is_prepare c) (take f behind) n.durable y)
            (in_either (is_prepare c) (kept n) xs
            (ap (has (is_prepare c)) (sym (breaks_keeps (logs_of n) (entries_written e.written) a f)) ∙ x));
        collected_promise = λ c x y. collected_then n k c xs (live (memory_of place n c).phase) (record {
          kept_then = breaks_keeps (logs_of n) (entries_written e.written) a f;
          life_then = refl;
          durable_from = λ z. from c (in_either (is_prepare c) (take f behind) n.durable z);
          promise_was_open = λ z. promise_open me p tree net n keeps old h e r c
              (in_front (is_prepare c) a (entries_written e.written) z);
          collecting_was_open = λ z. collecting_open me p tree net n keeps old h e r c
              (in_front (is_collecting c) a (entries_written e.written) z);
        }) (old.collected_promise c) (open_none me p tree net n keeps old h e r c) x y;
      }
    where
      from : (c : Case)
          → (has (is_prepare c) (take f (n.unforced ++ take a (entries_written e.written))) ≡ true)
          ⊎ (has (is_prepare c) n.durable ≡ true)
          → (has (is_prepare c) (kept (fails_in n h e a f)) ≡ true) ⊎ (has (is_prepare c) n.durable ≡ true)
      from c (inl x) =
          let b = n.unforced ++ take a (entries_written e.written) in
          inl (in_first (is_prepare c) (n.forced ++ take f b) (drop f b)
          (in_second (is_prepare c) n.forced (take f b) x))
      from c (inr x) = inr x

      once : (c : Case)
          → (has (is_prepare c) (take f (n.unforced ++ take a (entries_written e.written))) ≡ true)
          ⊎ (has (is_prepare c) n.durable ≡ true)
          → (has (is_prepare c) (kept n) ≡ true) ⊎
          (has (is_prepare c) (take a (entries_written e.written)) ≡ true)
          → has (is_prepare c) (fails_in n h e a f).forced ≡ true
      once c (inl x) y = in_second (is_prepare c) n.forced
          (take f (n.unforced ++ take a (entries_written e.written))) x
      once c (inr x) (inl y) =
          in_first (is_prepare c) n.forced (take f (n.unforced ++ take a (entries_written e.written)))
          (old.promise_is_once c y x)
      once c (inr x) (inr y) =
          not_both (is_prepare c) (has (is_prepare c) n.life)
          (keeps.nested.old_was_written (is_prepare c) (λ j. refl) x)
          (open_none me p tree net n keeps old h e r c (promise_open me p tree net n keeps old h e r c
          (in_front (is_prepare c) a (entries_written e.written) y)))

  -- A restart.

  module _ (j : ℕ) where
    abbrev left : List Record
    left = left_of n j

    abbrev new : List Record
    new = coordinator_reopens left

    pub whole : (left_of n j ++ drop j n.unforced) ≡ kept n
    whole = append_assoc n.forced (take j n.unforced) (drop j n.unforced)
        ∙ ap (λ l. n.forced ++ l) (take-append-drop j n.unforced)

    pub had : (q : Record → Bool) → has q (left_of n j) ≡ true → has q (kept n) ≡ true
    had q e = ap (has q) (sym whole) ∙ in_first q left (drop j n.unforced) e

    -- records that a restart appends neither promise nor collect
    no_promise : (c : Case) → has (is_prepare c) (coordinator_reopens (left_of n j)) ≡ false
    no_promise c = none_reopens (is_prepare c) (λ i. refl) (λ d ts. refl) left

    none_first : (c : Case) (a : ℕ) → has (is_prepare c) (take a (coordinator_reopens (left_of n j))) ≡ false
    none_first c a = none_taken (is_prepare c) (λ i. refl) (λ d ts. refl) a left

    none_collects : (c : Case) (a : ℕ) → has (is_collecting c) (take a (coordinator_reopens (left_of n j)))
        ≡ false
    none_collects c a = none_taken (is_collecting c) (λ i. refl) (λ d ts. refl) a left

    only_left : (q : Record → Bool) (ys : List Record) → has q ys ≡ false → has q (left_of n j ++ ys) ≡ true
        → has q (left_of n j) ≡ true
    only_left q ys none e = elim (in_either q left ys e) [ inl x ↦ x | inr x ↦ not_both q (has q ys) x none ]

    -- a promise that is lost was never forced
    pub lost : (c : Case) → has (is_prepare c) n.life ≡ true → has (is_collecting c) (left_of n j) ≡ true
        → has (is_prepare c) (left_of n j) ≡ false → has (is_prepare c) n.durable ≡ false
    lost c e f g = by_ever (has (is_prepare c) n.durable) refl
        (old.collected_promise c e (had (is_collecting c) f))
      where
        by_ever : (b : Bool) → has (is_prepare c) n.durable ≡ b
            → (has (is_prepare c) (kept n) ≡ true) ⊎ (has (is_prepare c) n.durable ≡ false)
            → has (is_prepare c) n.durable ≡ false
        by_ever false x o = x
        by_ever true x (inr o) = o
        by_ever true x (inl o) =
            not_both (is_prepare c) (has (is_prepare c) left)
            (in_first (is_prepare c) n.forced (take j n.unforced) (old.promise_is_once c o x)) g

    life_of : (c : Case) (ys : List Record) → has (is_prepare c) ys ≡ false
        → has (is_prepare c) (reverse ys ++ n.life) ≡ true → has (is_prepare c) n.life ≡ true
    life_of c ys none e = elim (in_either (is_prepare c) (reverse ys) n.life e) [
      | inl x ↦ not_both (is_prepare c) (has (is_prepare c) ys) (sym (has-reverse (is_prepare c) ys) ∙ x) none
      | inr x ↦ x
    ]

    life_none : (c : Case) (ys : List Record) → has (is_prepare c) ys ≡ false → has (is_prepare c) n.life
        ≡ false
        → has (is_prepare c) (reverse ys ++ n.life) ≡ false
    life_none c ys none e = in_none (is_prepare c) (reverse ys) n.life
        (has-reverse (is_prepare c) ys ∙ none) e

    never_open : {A : Type 0} (k : Node) → k.heard ≡ [] → (c : Case) → live (memory_of place k c).phase
        ≡ true → A
    never_open k e c f = absurd (let x = sym (ap (λ (m : Memory). live m.phase) (memory_empty place k c e))
        ∙ f in cc)

    -- by what is kept then
    by_promise : (c : Case) (k : Node) (b : Bool) → has (is_prepare c) (kept k) ≡ b
        → (has (is_prepare c) (kept k) ≡ false → has (is_prepare c) k.durable ≡ false)
        → (has (is_prepare c) (kept k) ≡ true) ⊎ (has (is_prepare c) k.durable ≡ false)
    by_promise c k true e f = inl e
    by_promise c k false e f = inr (f e)

    first_none : (q : Record → Bool) (xs ys : List Record) → has q (xs ++ ys) ≡ false → has q xs ≡ false
    first_none q xs ys e = by_test (has q xs) refl
      where
        by_test : (b : Bool) → has q xs ≡ b → has q xs ≡ false
        by_test true f = not_both q (has q (xs ++ ys)) (in_first q xs ys f) e
        by_test false f = f

    pub reopened_reads : Reads place (net ++ resumes (Below p) me
        (left_of n j ++ coordinator_reopens (left_of n j)))
        (restarted place n j)
    reopened_reads =
        let k = restarted place n j in
        let rs = left ++ new in
        let ls = resumes (Below p) me rs in
        record {
          read_promised_nothing = λ c e. life_none c new (no_promise c)
              (first_or me c net ls e (old.read_promised_nothing c) (λ x. quiet c rs x));
          open_read_nothing = λ up c e. never_open k refl c e;
          read_is_given = λ c e. sent-append (gives_case c) net ls ∙ right _ _
              (first_or me c net ls e (old.read_is_given c) (λ x. quiet c rs x));
          open_promised_nothing = λ up c e. never_open k refl c e;
          promise_is_once = λ c e f. ap (has (is_prepare c)) (sym (append-nil rs)) ∙ e;
          collected_promise = λ c e f. by_promise c k (has (is_prepare c) (kept k)) refl
              (λ g. let h = first_none (is_prepare c) left new (first_none (is_prepare c) rs [] g) in
              in_none (is_prepare c) new (left ++ n.durable) (no_promise c)
              (in_none (is_prepare c) left n.durable h
              (lost c (life_of c new (no_promise c) e)
              (only_left (is_collecting c) new
              (none_reopens (is_collecting c) (λ i. refl) (λ d ts. refl) left)
              (ap (has (is_collecting c)) (sym (append-nil rs)) ∙ f)) h)));
        }
      where
        quiet : {A : Type 0} (c : Case) (rs : List Record) → said_read me c (resumes (Below p) me rs) ≡ true
            → A
        quiet c rs x = absurd (let y = sym (unread me c (resumes (Below p) me rs)
            (resumes_unread c me p rs (cases_in rs))) ∙ x in cc)

    pub reopening_reads : (a f : ℕ) → Reads place net (restart_fails place n j a f)
    reopening_reads a f =
        let k = restart_fails place n j a f in
        let xs = take a new in
        let b = take j n.unforced ++ xs in
        let kept_then : kept k ≡ left ++ xs = breaks_keeps (loses (logs_of n) j) new a f in
        record {
          read_promised_nothing = λ c e. life_none c xs (none_first c a) (old.read_promised_nothing c e);
          open_read_nothing = λ up. absurd (cc);
          read_is_given = old.read_is_given;
          open_promised_nothing = λ up. absurd (cc);
          promise_is_once = λ c e g. once c (in_either (is_prepare c) (take f b) n.durable g)
              (had (is_prepare c) (only_left (is_prepare c) xs (none_first c a)
              (ap (has (is_prepare c)) (sym kept_then) ∙ e)));
          collected_promise = λ c e g. by_promise c k (has (is_prepare c) (kept k)) refl
              (λ h. let l = first_none (is_prepare c) left xs (ap (has (is_prepare c)) (sym kept_then) ∙ h) in
              in_none (is_prepare c) (take f b) n.durable (not_taken c h)
              (lost c (life_of c xs (none_first c a) e)
              (only_left (is_collecting c) xs (none_collects c a)
              (ap (has (is_collecting c)) (sym kept_then) ∙ g)) l));
        }
      where
        once : (c : Case)
            → (has (is_prepare c) (take f (take j n.unforced ++ take a (coordinator_reopens (left_of n j))))
            ≡ true)
            ⊎ (has (is_prepare c) n.durable ≡ true)
            → has (is_prepare c) (kept n) ≡ true → has (is_prepare c) (restart_fails place n j a f).forced
            ≡ true
        once c (inl x) y = in_second (is_prepare c) n.forced
            (take f (take j n.unforced ++ take a (coordinator_reopens (left_of n j)))) x
        once c (inr x) y = in_first (is_prepare c) n.forced
            (take f (take j n.unforced ++ take a (coordinator_reopens (left_of n j))))
            (old.promise_is_once c y x)

        not_taken : (c : Case) → has (is_prepare c) (kept (restart_fails place n j a f)) ≡ false
            → has (is_prepare c) (take f (take j n.unforced ++ take a (coordinator_reopens (left_of n j))))
            ≡ false
        not_taken c h = by_test (has (is_prepare c)
            (take f (take j n.unforced ++ take a (coordinator_reopens (left_of n j))))) refl
          where
            by_test : (x : Bool)
                → has (is_prepare c) (take f (take j n.unforced ++ take a
                (coordinator_reopens (left_of n j)))) ≡ x
                → has (is_prepare c) (take f (take j n.unforced ++ take a
                (coordinator_reopens (left_of n j)))) ≡ false
            by_test false e = e
            by_test true e = not_both (is_prepare c) (has (is_prepare c) (kept (restart_fails place n j a f)))
                (in_first (is_prepare c) (restart_fails place n j a f).forced
                (restart_fails place n j a f).unforced
                (in_second (is_prepare c) n.forced
                (take f (take j n.unforced ++ take a (coordinator_reopens (left_of n j)))) e)) h
