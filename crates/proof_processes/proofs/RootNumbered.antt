-- What a root appended is of its own cases, over every run.
use Rattle.std.proofs.Common.{◌≡◌, ◌∙◌, ◌≤◌, ◌<◌, ◌+◌, ◌⊎◌, inl, inr, ℕ, zero, suc, true, false, List, [], ◌++◌, take, drop, refl, sym, ap, subst, arith}
use Rattle.std.specs.Prelude.{fold, reverse}
use Rattle.std.proofs.lemmas.List.{append-nil}
use Rattle.protocol.specs.declared.names.Case.{Case}
use Rattle.protocol.specs.declared.names.ProcessId.{ProcessId}
use Rattle.protocol.specs.declared.records.Record.{Record}
use Rattle.protocol.specs.declared.events.Act.TheVariants.{Begin, Join, Work, Commit, Abort, Ask, Decide, Forget}
use Rattle.protocol.specs.declared.events.Input.{Input}
use Rattle.protocol_words.specs.Variants.{ActInput, MessageInput}
use Rattle.protocol.specs.declared.trees.TreeProcess.{TreeProcess}
use Rattle.protocol.specs.Records.{boot_of, has}
use Rattle.protocol.specs.Nodes.{Role, AtRoot, Place, place_of, role_of, Node, kept, Heard, Effect, opened_node, entries_written, is_any_forced, after, fails_in}
use Rattle.protocol.specs.Memory.{memory_of, remembers, fresh_memory}
use Rattle.protocol.specs.Standings.{some_case}
use Rattle.protocol.specs.Restarts.{reopens, restarted, restart_fails, trims, trim_fails, trimmed}
use Rattle.protocol.specs.Views.{root_place}
use Rattle.protocol.specs.Reactions.{Does, reacts}
use Rattle.protocol.specs.World.{World, Move, Made, IsRun, opens, makes}
use Rattle.proof_model.proofs.BeginLaws.{begun_step, begun_next}
use Rattle.protocol.proofs.ListLaws.{kept-after, memory_of-after}
use Rattle.protocol.proofs.RunLaws.{makes_at}
use Rattle.proof_pairs.specs.turns.Steps.{StepOf, heard_in, handled, failed_in, passed, failed_passing, reopened, failed_reopening, trims_log, failed_trimming, TurnOf}
use Rattle.proof_pairs.proofs.turns.Steps.{step_of, turn_of}
use Rattle.proof_pairs.proofs.turns.CoordinatorReactions.{coordinator_turn_of}
use Rattle.proof_processes.specs.Lasts.{Logs, logs_of, Nested}
use Rattle.proof_processes.specs.WorldHolds.{is_record_of}
use Rattle.proof_processes.proofs.Tests.{not_both, has-nil, has-reverse, in_first, in_second, in_either, in_front}
use Rattle.proof_processes.proofs.RootCases.{IsRoots, InHistory, recorded, accepted, begun, told, found_undecided, RootCases}
use Rattle.proof_processes.proofs.Appends.{either_logs}
use Rattle.proof_processes.proofs.Boots.{Booted, Rises, others_boot, rise_front, boot_append, front_below, lost_rises, still_booted, reopened_boot, trimmed_boot, turn_none}
use Rattle.proof_processes.proofs.BootsHold.{all_booted, boots_of}
use Rattle.proof_processes.proofs.RootKnown.{known_roots}
use Rattle.proof_processes.proofs.Reported.{reported_recorded}
use Rattle.proof_processes.proofs.RootHistories.{NewIn, effect_new, after_history, fails_history, reopened_history, reopening_history, same_history}
use Rattle.proof_processes.proofs.RootNumbers.{case_later, roots_each, roots_case, roots_reopens}
use Rattle.proof_processes.proofs.Worlds.{all_last, put}

-- Numbers.

at_most : (x y z : ℕ) → x ≤ y → y ≤ z → x ≤ z
at_most x y z e f = omega (arith, e, f)

same_is_most : (x y : ℕ) → x ≡ y → x ≤ y
same_is_most x y e = omega (arith, e)

below_next : (x y : ℕ) → x ≤ y → x < y + 1
below_next x y e = omega (arith, e)

one_more : (x y : ℕ) → x + 1 ≡ y + 1 → suc x + 1 ≡ suc y + 1
one_more x y e = omega (arith, e)

less_or_same : (x y : ℕ) → x ≤ y → (x + 1 < y + 1) ⊎ ((x + 1 ≡ y + 1) × (0 ≤ 0))
less_or_same zero zero e = inr (refl, omega arith)
less_or_same zero (suc y) e = inl (omega arith)
less_or_same (suc x) zero e = absurd (omega (arith, e))
less_or_same (suc x) (suc y) e = elim (less_or_same x y (omega (arith, e))) [
  | inl l ↦ inl (omega (arith, l))
  | inr s ↦ inr (one_more x y s.0, omega arith)
]

begun_more : (k : ℕ) (i : Input) → k ≤ begun_next k i
begun_more k (ActInput (Begin p)) = omega arith
begun_more k (ActInput (Join c q)) = omega arith
begun_more k (ActInput (Work c q op)) = omega arith
begun_more k (ActInput (Commit x)) = omega arith
begun_more k (ActInput (Abort x)) = omega arith
begun_more k (ActInput (Ask c)) = omega arith
begun_more k (ActInput (Decide c o)) = omega arith
begun_more k (ActInput (Forget c)) = omega arith
begun_more k (MessageInput j m) = omega arith

-- A case begun before a boot was begun before a later one.
raised : (me : ProcessId) (b b' : ℕ) (c : Case) → b ≤ b' → IsRoots me (b + 1) 0 c → IsRoots me (b' + 1) 0 c
raised me b b' c e a = case_later me (b + 1) 0 (b' + 1) 0 (less_or_same b b' e) c a

-- and one begun in it, before the next
passed_by : (me : ProcessId) (b k b' : ℕ) (c : Case) → b ≤ b' → IsRoots me b k c → IsRoots me (b' + 1) 0 c
passed_by me b k b' c e a = case_later me b k (b' + 1) 0 (inl (below_next b b' e)) c a

-- the forced front only grows
forced_grows : (front more rest : List Record) → Rises ((front ++ more) ++ rest)
    → boot_of front ≤ boot_of (front ++ more)
forced_grows front more rest a = front_below front more (rise_front 0 (front ++ more) rest a)

after_up : (n : Node) (h : Heard) (e : Effect) → (after n h e).failed ≡ n.failed
after_up n h e =
    either_logs n (entries_written e.written) (is_any_forced e.written) (λ (l : Logs). l.failed ≡ n.failed)
    (λ b. refl) (λ b. refl)

module _ (me : ProcessId) (tree : List TreeProcess) where
  abbrev place : Place
  place = root_place me tree

  abbrev count : Node → ℕ
  count n = (memory_of (root_place me tree) n (some_case (root_place me tree))).begun

  abbrev Holds : Node → Type 0
  Holds n = RootCases (root_place me tree) n

  -- each case in the histories is the root's
  abbrev Each : ℕ → ℕ → Node → Type 0
  Each b k n = (c : Case) → InHistory n c → IsRoots me b k c

  -- a process that is up keeps both by what was begun now
  by_now : (n : Node) → Booted (logs_of n) → n.failed ≡ false → Each (boot_of (kept n)) (count n) n → Holds n
  by_now n boots up a = record {
    begun_before = λ c e.
        passed_by me (boot_of (kept n)) (count n) (boot_of n.forced) c
        (same_is_most _ _ ((boots_of n boots).boot_is_forced up)) (a c e);
    begun_now = λ u. a;
  }

  -- one that has failed by what was begun before
  by_before : (n : Node) → n.failed ≡ true → Each (boot_of n.forced + 1) 0 n → Holds n
  by_before n down a = record { begun_before = a; begun_now = λ e. absurd (cc) }

  module _ (n : Node) (boots : Booted (logs_of n)) (nested : Nested (logs_of n)) (h : Holds n) where
    module _ (i : Heard) (e : Effect) (t : TurnOf (root_place me tree) n i e)
        (r : reacts (root_place me tree) n i ≡ Does e)
      where
        abbrev new : List Record
        new = entries_written e.written

        leaves_boot : boot_of (kept n ++ new) ≡ boot_of (kept n)
        leaves_boot = boot_append (kept n) new
            ∙ others_boot (boot_of (kept n)) new (turn_none AtRoot place n i e t.turn)

        count_then : count (after n i e) ≡ begun_next (count n) i.input
        count_then =
            ap (λ m. m.begun) (memory_of-after place n i e (some_case place) leaves_boot)
            ∙ begun_step me (boot_of (kept n)) (some_case place) (memory_of place n (some_case place)) i.input

        abbrev next : ℕ
        next = begun_next (count n) i.input

        old_now : (c : Case) → IsRoots me (boot_of (kept n)) (count n) c
            → IsRoots me (boot_of (kept n)) next c
        old_now c a =
            case_later me (boot_of (kept n)) (count n) (boot_of (kept n)) next
            (inr (refl, begun_more (count n) i.input)) c a

        -- what is added is of a case that is known, or begins now
        added_now : (c : Case) → NewIn e c → IsRoots me (boot_of (kept n)) next c
        added_now c x =
            effect_new me tree n i (λ d known. old_now d (known_roots me tree n t.up nested h d known))
            (λ d reported. old_now d (h.begun_now t.up d (recorded
            (nested.kept_was_written (is_record_of d) (λ k. refl) (reported_recorded (kept n) d reported)))))
            e
            (coordinator_turn_of place n i e r) c x

        appended : Booted (logs_of (after n i e)) → Holds (after n i e)
        appended boots' =
            by_now (after n i e) boots' (after_up n i e ∙ t.up)
            (subst (λ (k : ℕ). Each (boot_of (kept (after n i e))) k (after n i e)) (sym count_then)
            (subst (λ (b : ℕ). Each b next (after n i e)) (sym (ap boot_of (kept-after n i e) ∙ leaves_boot))
            (λ c x. elim (after_history n i e c x) [
              | inl before ↦ old_now c (h.begun_now t.up c before)
              | inr now ↦ added_now c now
            ])))

        broken : (a f : ℕ) → Booted (logs_of (fails_in n i e a f)) → Holds (fails_in n i e a f)
        broken a f boots' =
            let behind = n.unforced ++ take a new in
            let b = boot_of n.forced in
            let same = same_is_most _ _ ((boots_of n boots).boot_is_forced t.up) in
            by_before (fails_in n i e a f) refl
            (λ c x. raised me b (boot_of (n.forced ++ take f behind)) c
            (forced_grows n.forced (take f behind) (drop f behind) boots'.rises)
            (elim (fails_history n i e c a f x) [
              | inl before ↦ h.begun_before c before
              | inr now ↦ passed_by me (boot_of (kept n)) next b c same (added_now c now)
            ]))

    falls : (m : Node) → m.failed ≡ true → m.forced ≡ n.forced → ((c : Case) → InHistory m c → InHistory n c)
        → Holds m
    falls m down e f = by_before m down
        (subst (λ (xs : List Record). Each (boot_of xs + 1) 0 m) (sym e) (λ c x. h.begun_before c (f c x)))

    -- A restart.

    abbrev left : ℕ → List Record
    left k = n.forced ++ take k n.unforced

    left_rises : (k : ℕ) → boot_of n.forced ≤ boot_of (left k)
    left_rises k =
        front_below n.forced (take k n.unforced) (lost_rises (logs_of n) k boots.rises)

    left_each : (k : ℕ) (c : Case) → has (is_record_of c) (left k) ≡ true
        → IsRoots me (boot_of n.forced + 1) 0 c
    left_each k c e =
        h.begun_before c (recorded (nested.kept_was_written (is_record_of c) (λ j. refl)
        (was_kept (in_either (is_record_of c) n.forced (take k n.unforced) e))))
      where
        was_kept : (has (is_record_of c) n.forced ≡ true) ⊎ (has (is_record_of c) (take k n.unforced) ≡ true)
            → has (is_record_of c) (kept n) ≡ true
        was_kept (inl front) = in_first (is_record_of c) n.forced n.unforced front
        was_kept (inr rest) =
            in_second (is_record_of c) n.forced n.unforced (in_front (is_record_of c) k n.unforced rest)

    reopens_each : (k : ℕ) (c : Case) → has (is_record_of c) (reopens AtRoot (left k)) ≡ true
        → IsRoots me (boot_of n.forced + 1) 0 c
    reopens_each k c e =
        let b = boot_of n.forced + 1 in
        roots_case me b 0 c (reopens AtRoot (left k)) e
        (roots_reopens me b 0 (left k) (roots_each me b 0 (left k) (left_each k)))

    reopened_by : (k : ℕ) (c : Case) → InHistory n c ⊎ (has (is_record_of c) (reopens AtRoot (left k)) ≡ true)
        → IsRoots me (boot_of n.forced + 1) 0 c
    reopened_by k c (inl before) = h.begun_before c before
    reopened_by k c (inr now) = reopens_each k c now

    reopened_roots : (k : ℕ) → Booted (logs_of (restarted place n k)) → Holds (restarted place n k)
    unfolding memory_of
    reopened_roots k boots' =
        let rs = left k in
        by_now (restarted place n k) boots' refl
        (subst (λ (xs : List Record). Each (boot_of xs) 0 (restarted place n k))
        (sym (append-nil (rs ++ reopens AtRoot rs)))
        (subst (λ (b : ℕ). Each b 0 (restarted place n k)) (sym (reopened_boot AtRoot rs))
        (λ c x. raised me (boot_of n.forced) (boot_of rs) c (left_rises k)
        (reopened_by k c (reopened_history me tree n k c x)))))

    reopening_failed : (k a f : ℕ) → Booted (logs_of (restart_fails place n k a f))
        → Holds (restart_fails place n k a f)
    reopening_failed k a f boots' =
        let rs = left k in
        let b = boot_of n.forced in
        let behind = take k n.unforced ++ take a (reopens AtRoot rs) in
        by_before (restart_fails place n k a f) refl
        (λ c x. raised me b (boot_of (n.forced ++ take f behind)) c
        (forced_grows n.forced (take f behind) (drop f behind) boots'.rises)
        (reopened_by k c (reopening_history me tree n k c a f x)))

    -- A trim.

    same_count : count (trims place n) ≡ count n
    unfolding memory_of
    same_count =
        ap (λ (b : ℕ). (fold (remembers me AtRoot b (some_case place)) fresh_memory n.heard).begun)
        (ap boot_of (append-nil (trimmed AtRoot (kept n))) ∙ trimmed_boot AtRoot (kept n))

    -- its histories are the same
    trim_history : (m : Node) → m.life ≡ reverse [] ++ n.life → m.accepted ≡ n.accepted → m.begun ≡ n.begun
        → m.told ≡ n.told → m.found_undecided ≡ n.found_undecided → (c : Case) → InHistory m c → InHistory n c
    trim_history m l a b t u c x =
        same_history n m c (λ e. in_rest c (ap (has (is_record_of c)) (sym l) ∙ e)) a b t u x
      where
        in_rest : (c : Case) → has (is_record_of c) (reverse [] ++ n.life) ≡ true
            → has (is_record_of c) n.life ≡ true
        in_rest c e = elim (in_either (is_record_of c) (reverse []) n.life e) [
          | inl now ↦ not_both (is_record_of c) (has (is_record_of c) [])
              (sym (has-reverse (is_record_of c) []) ∙ now) (has-nil (is_record_of c))
          | inr before ↦ before
        ]

    trimmed_roots : n.failed ≡ false → Booted (logs_of (trims place n)) → Holds (trims place n)
    trimmed_roots up boots' =
        let rs = kept n in
        let new = trimmed AtRoot rs in
        by_now (trims place n) boots' up
        (subst (λ (xs : List Record). Each (boot_of xs) (count (trims place n)) (trims place n))
        (sym (append-nil new))
        (subst (λ (k : ℕ). Each (boot_of new) k (trims place n)) (sym same_count)
        (subst (λ (b : ℕ). Each b (count n) (trims place n)) (sym (trimmed_boot AtRoot rs))
        (λ c x. h.begun_now up c (trim_history (trims place n) refl refl refl refl refl c x)))))

    trimming_failed : (a : ℕ) → Holds (trim_fails place n a)
    trimming_failed zero = falls (trim_fails place n 0) refl refl
        (λ c x. same_history n (trim_fails place n 0) c (λ e. e) refl refl refl refl x)
    trimming_failed (suc a) =
        let rs = kept n in
        let m = trim_fails place n (suc a) in
        by_before m refl
        (subst (λ (b : ℕ). Each (b + 1) 0 m) (sym (trimmed_boot AtRoot rs))
        (λ c x. raised me (boot_of n.forced) (boot_of rs) c (boots_of n boots).boot_only_rises
        (h.begun_before c (trim_history m refl refl refl refl refl c x))))

    pub root_cases_last : (m : Move) (e : Effect) (k : Node) → StepOf (root_place me tree) n m e k
        → Booted (logs_of k) → RootCases (root_place me tree) k
    root_cases_last m _ _ (handled i g hp np r) b =
        appended (heard_in m i) g (turn_of place n (heard_in m i) g r) r b
    root_cases_last m _ _ (failed_in i f g fl hp np r) b =
        broken (heard_in m i) g (turn_of place n (heard_in m i) g r) r f.appended f.forced b
    root_cases_last m _ _ (passed i hp r) b = h
    root_cases_last m _ _ (failed_passing i f fl hp r) b =
        falls (record n { failed = true }) refl refl
        (λ c x. same_history n (record n { failed = true }) c (λ e. e) refl refl refl refl x)
    root_cases_last m _ _ (reopened k hp) b = reopened_roots k b
    root_cases_last m _ _ (failed_reopening k f fl hp) b = reopening_failed k f.appended f.forced b
    root_cases_last m _ _ (trims_log hp up) b = trimmed_roots up b
    root_cases_last m _ _ (failed_trimming f fl hp up) b = trimming_failed f.appended

-- Runs.

pub none_opened : {A : Type 0} (c : Case) → InHistory opened_node c → A
unfolding has
none_opened c (recorded e) = absurd (cc)
none_opened c (accepted t e) = absurd (cc)
none_opened c (begun x i e) = absurd (cc)
none_opened c (told x i e) = absurd (cc)
none_opened c (found_undecided x i e) = absurd (cc)

opened_root : (place : Place) → RootCases place opened_node
opened_root place = record { begun_before = λ c x. none_opened c x; begun_now = λ up c x. none_opened c x }

pub at_root : (tree : List TreeProcess) (q : ProcessId) → role_of tree q ≡ AtRoot
    → place_of tree q ≡ root_place q tree
at_root tree q e = ap (λ (r : Role). record { me = q; role = r; tree = tree }) e

pub all_root_cases : (tree : List TreeProcess) (es : List Made) (w : World) → IsRun tree es w
    → (p : ProcessId)
    → role_of tree p ≡ AtRoot → RootCases (root_place p tree) (w.at p)
all_root_cases tree _ _ opens p role = opened_root (root_place p tree)
all_root_cases tree _ _ (makes es w m e w' run stands step) p at_top =
    let at = makes_at tree w m e w' step in
    let q = m.step.process in
    let s = step_of (place_of tree q) (w.at q) m e at.node at.made in
    let P : ProcessId → Node → Type 0 = λ x k. role_of tree x ≡ AtRoot → RootCases (root_place x tree) k in
    subst (λ (x : World). P p (x.at p)) (sym at.world)
    (put P q p at.node w.at
    (λ role. root_cases_last q tree (w.at q) (all_booted tree es w run q) (all_last tree es w run q).nested
    (all_root_cases tree es w run q role) m e
    at.node
    (subst (λ (x : Place). StepOf x (w.at q) m e at.node) (at_root tree q role) s)
    (still_booted (place_of tree q) (w.at q) (all_booted tree es w run q) m e at.node s))
    (all_root_cases tree es w run p)) at_top

pub root_cases_hold : (tree : List TreeProcess) (es : List Made) (w : World) → IsRun tree es w
    → (p : ProcessId)
    → role_of tree p ≡ AtRoot → RootCases (place_of tree p) (w.at p)
root_cases_hold tree es w run p e =
    subst (λ (x : Place). RootCases x (w.at p)) (sym (at_root tree p e)) (all_root_cases tree es w run p e)
