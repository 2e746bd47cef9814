-- A transaction that the root ended by an abort never commits: through each step.
use Rattle.std.proofs.Common.{◌≡◌, ◌∙◌, ◌||◌, ◌&&◌, ◌⊎◌, ◌+◌, inl, inr, ℕ, zero, suc, Bool, true, false, not, Some, None, List, [], ◌∷◌, ◌++◌, take, refl, sym, ap, subst, arith, if◌then◌else◌}
use Rattle.std.specs.Prelude.{reverse, length, filter}
use Rattle.std.specs.List.{list_any, flat_map}
use Rattle.std.proofs.lemmas.List.{append-nil}
use Rattle.std.proofs.lemmas.List.Folds.{list_any-append}
use Rattle.protocol.specs.declared.names.Case.{Case}
use Rattle.protocol.specs.declared.names.ProcessId.{ProcessId}
use Rattle.protocol.specs.declared.names.Ticket.{Ticket}
use Rattle.protocol.specs.declared.names.Txn.{Txn}
use Rattle.protocol.specs.declared.records.Record.{Record}
use Rattle.protocol.specs.declared.records.Record.TheVariants.{Opened}
use Rattle.protocol_words.specs.Variants.{AbortRecord}
use Rattle.protocol.specs.declared.standings.Standing.{Standing}
use Rattle.protocol.specs.declared.standings.Standing.TheVariants.{Unknown, Active, Collecting, Prepared, Committing, Aborting, Heuristic}
use Rattle.protocol.specs.declared.trees.TreeProcess.{TreeProcess}
use Rattle.protocol.specs.Names.{root_case, same_txn}
use Rattle.protocol.specs.NameLaws.{same_txn_tells}
use Rattle.protocol.specs.Records.{has, is_commit, is_abort, is_collecting, cases_in, boot_of}
use Rattle.protocol.specs.Nodes.{AtRoot, Place, Effect, Node, kept}
use Rattle.protocol.specs.Memory.{Memory, Idle, memory_of}
use Rattle.protocol.specs.Outcomes.{is_told_aborted}
use Rattle.protocol.specs.Restarts.{recorded_view, restart_abort, aborts_collecting, is_concluded, is_undecided, case_stays, reopens, restarted, restart_fails, trims, trim_fails, trimmed, is_known}
use Rattle.protocol.specs.World.{Move}
use Rattle.proof_pairs.proofs.readings.Trimmed.{gone}
use Rattle.proof_pairs.specs.turns.Steps.{StepOf, heard_in, handled, failed_in, passed, failed_passing, reopened, failed_reopening, trims_log, failed_trimming}
use Rattle.proof_pairs.proofs.turns.Operators.{reopens_none}
use Rattle.proof_pairs.proofs.turns.Steps.{turn_of}
use Rattle.proof_processes.specs.Lasts.{logs_of, Nested}
use Rattle.proof_processes.proofs.Appends.{loses, breaks_keeps}
use Rattle.proof_processes.proofs.Boots.{trims_memory}
use Rattle.proof_processes.proofs.CoordinatorKept.{Coordinated, IsLive, memory_empty}
use Rattle.proof_processes.proofs.Phases.{standing_at, collecting_undecided}
use Rattle.proof_processes.proofs.Remembering.{coordinator_place}
use Rattle.proof_processes.proofs.RootCases.{RootCases}
use Rattle.proof_processes.proofs.RootHistories.{among}
use Rattle.proof_processes.proofs.RootLogs.{recorded_stands, idle_standing, known_stays}
use Rattle.proof_processes.proofs.Ended.{IsEnded, by_telling, by_abort, by_finding, Never}
use Rattle.proof_processes.proofs.RootNever.{after_never, failing_never}
use Rattle.proof_processes.proofs.Tests.{either, in_either, in_first, in_second, in_front, in_none, front_none, has-reverse, has-cons, has-nil, not_both, case_is}
use Rattle.proof_processes.proofs.Trims.{trim_left}

-- What a restart aborts collects by its records.

module _ (c : Case) (rs : List Record) where
  none_here : {A : Type 0} → has (is_abort c) [] ≡ true → A
  unfolding has
  none_here e = absurd (cc)

  of_it : (d : Case) (ts : List Ticket) → has (is_abort c) (AbortRecord d ts ∷ []) ≡ true → d ≡ c
  unfolding has
  of_it d ts e = case_is d c (or_nothing _ e)
    where
      or_nothing : (x : Bool) → (x || false) ≡ true → x ≡ true
      or_nothing x y = grind arith

  one_collects : (d : Case) (st : Standing) → (recorded_view rs d).standing ≡ st
      → has (is_abort c) (restart_abort d (recorded_view rs d) st) ≡ true → standing_at rs c Idle ≡ Collecting
  one_collects d Collecting e k =
      subst (λ (x : Case). standing_at rs x Idle ≡ Collecting) (of_it d _ k) (sym (recorded_stands d rs) ∙ e)
  one_collects d Unknown e k = none_here k
  one_collects d Active e k = none_here k
  one_collects d Prepared e k = none_here k
  one_collects d Committing e k = none_here k
  one_collects d Aborting e k = none_here k
  one_collects d Heuristic e k = none_here k

  aborts_collect : (cs : List Case) → has (is_abort c) (flat_map (aborts_collecting rs) cs) ≡ true
      → standing_at rs c Idle ≡ Collecting
  aborts_collect [] k = none_here k
  aborts_collect (d ∷ cs) k =
      elim (in_either (is_abort c) (aborts_collecting rs d) (flat_map (aborts_collecting rs) cs) k) [
        | inl now ↦ one_collects d (recorded_view rs d).standing refl now
        | inr rest ↦ aborts_collect cs rest
      ]

  reopens_collect : has (is_abort c) (reopens AtRoot rs) ≡ true → standing_at rs c Idle ≡ Collecting
  reopens_collect k =
      aborts_collect (cases_in rs)
      (sym (has-cons (is_abort c) (Opened (boot_of rs + 1)) (flat_map (aborts_collecting rs) (cases_in rs)))
      ∙ k)

-- A transaction that a restart finds undecided has no Commit left, nor had one in the forced front.

among_filtered : (x : Txn) (f : Txn → Bool) (ys : List Txn) → among x (filter f ys) ≡ true → f x ≡ true
among_filtered x f [] e = absurd (cc)
among_filtered x f (y ∷ ys) e = by_test (f y) refl e (among_filtered x f ys)
  where
    txn_is : same_txn y x ≡ true → y ≡ x
    txn_is g = elim (same_txn_tells y x) [ inl t ↦ t.1 | inr k ↦ absurd (let z = k.0 in cc) ]

    by_test : (b : Bool) → f y ≡ b → among x (if b then y ∷ filter f ys else filter f ys) ≡ true
        → (among x (filter f ys) ≡ true → f x ≡ true) → f x ≡ true
    by_test false g k r = r k
    by_test true g k r = elim (either (same_txn y x) (among x (filter f ys)) k) [
      | inl now ↦ subst (λ (z : Txn). f z ≡ true) (txn_is now) g
      | inr rest ↦ r rest
    ]

neither_commit : (a b c : Bool) → (not a && (not b && not c)) ≡ true → (b ≡ false) × (c ≡ false)
neither_commit false false false e = (refl, refl)
neither_commit true b c e = absurd (cc)
neither_commit false true c e = absurd (cc)
neither_commit false false true e = absurd (cc)

module _ (me : ProcessId) (tree : List TreeProcess) (n : Node) (nested : Nested (logs_of n))
    (cases : RootCases (coordinator_place me None tree) n)
    (kept_so : Coordinated (coordinator_place me None tree) n)
    (old : Never (coordinator_place me None tree) n)
  where
    abbrev place : Place
    place = coordinator_place me None tree

    abbrev left : ℕ → List Record
    left j = n.forced ++ take j n.unforced

    was_kept : (q : Record → Bool) (j : ℕ) → has q (n.forced ++ take j n.unforced) ≡ true → has q (kept n)
        ≡ true
    was_kept q j e = elim (in_either q n.forced (take j n.unforced) e) [
      | inl front ↦ in_first q n.forced n.unforced front
      | inr rest ↦ in_second q n.forced n.unforced (in_front q j n.unforced rest)
    ]

    none_left : (q : Record → Bool) (j : ℕ) → has q (kept n) ≡ false → has q (n.forced ++ take j n.unforced)
        ≡ false
    none_left q j e = by_test (has q (left j)) refl
      where
        by_test : (b : Bool) → has q (left j) ≡ b → has q (left j) ≡ false
        by_test true f = not_both q (has q (kept n)) (was_kept q j f) e
        by_test false f = f

    -- A restart.

    record NoneLeft (j : ℕ) (c : Case) : Type 0 where
      left : has (is_commit c) (n.forced ++ take j n.unforced) ≡ false
      ever : has (is_commit c) n.durable ≡ false

    dead_left : (j : ℕ) (c : Case) → IsEnded n c → NoneLeft j c
    dead_left j c d = record {
      left = none_left (is_commit c) j (old.dead c d).none_kept;
      ever = (old.dead c d).none_ever;
    }

    collecting_left : (j : ℕ) (c : Case) → standing_at (n.forced ++ take j n.unforced) c Idle ≡ Collecting
        → NoneLeft j c
    collecting_left j c e = record {
      left = (collecting_undecided (left j) c Idle e).no_commit;
      ever = by_test (has (is_commit c) n.durable) refl;
    }
      where
        by_test : (b : Bool) → has (is_commit c) n.durable ≡ b → has (is_commit c) n.durable ≡ false
        by_test false f = f
        by_test true f = elim (old.stand c f) [
          | inl g ↦ not_both (is_commit c) (has (is_commit c) (left j))
              (in_first (is_commit c) n.forced (take j n.unforced) g)
              (collecting_undecided (left j) c Idle e).no_commit
          | inr g ↦ not_both (is_collecting c) (has (is_collecting c) (kept n))
              (was_kept (is_collecting c) j (idle_standing c (left j) e)) g
        ]

    undecided_left : (j : ℕ) (x : Txn) → is_undecided n (n.forced ++ take j n.unforced) x ≡ true
        → NoneLeft j (root_case x)
    undecided_left j x e =
        let f = neither_commit (is_concluded n.told x) (has (is_commit (root_case x)) n.durable)
        (has (is_commit (root_case x)) (left j)) e in
        record { left = f.1; ever = f.0 }

    -- what a restart ends, or was ended before it
    ended_left : (k : Node) (j a : ℕ) → k.told ≡ n.told
        → k.life ≡ reverse (take a (reopens AtRoot (n.forced ++ take j n.unforced))) ++ n.life
        → k.found_undecided ≡ filter (is_undecided n
        (n.forced ++ take j n.unforced)) n.begun ++ n.found_undecided
        → (c : Case) → IsEnded k c → NoneLeft j c
    ended_left k j a s l u c (by_telling x f e) =
        dead_left j c (by_telling x f (ap (list_any (is_told_aborted x)) (sym s) ∙ e))
    ended_left k j a s l u c (by_abort e) =
        let new = reopens AtRoot (left j) in
        elim (in_either (is_abort c) (reverse (take a new)) n.life (ap (has (is_abort c)) (sym l) ∙ e)) [
          | inl now ↦ collecting_left j c (reopens_collect c (left j)
              (in_front (is_abort c) a new (sym (has-reverse (is_abort c) (take a new)) ∙ now)))
          | inr before ↦ dead_left j c (by_abort before)
        ]
    ended_left k j a s l u c (by_finding x f e) =
        elim (either _ _ (sym (list_any-append _ (filter (is_undecided n (left j)) n.begun) n.found_undecided)
        ∙ (ap (among x) (sym u) ∙ e))) [
          | inl now ↦ subst (λ (y : Case). NoneLeft j y) (sym f)
              (undecided_left j x (among_filtered x (is_undecided n (left j)) n.begun now))
          | inr before ↦ dead_left j c (by_finding x f before)
        ]

    no_commit_reopened : (c : Case) (j : ℕ)
        → has (is_commit c) (reopens AtRoot (n.forced ++ take j n.unforced)) ≡ false
    no_commit_reopened c j = reopens_none (is_commit c) (λ d ts. refl) (λ k. refl) AtRoot (left j)

    no_collecting_reopened : (c : Case) (j : ℕ)
        → has (is_collecting c) (reopens AtRoot (n.forced ++ take j n.unforced)) ≡ false
    no_collecting_reopened c j = reopens_none (is_collecting c) (λ d ts. refl) (λ k. refl) AtRoot (left j)

    asleep : (k : Node) → k.heard ≡ [] → (c : Case)
        → IsLive (memory_of (coordinator_place me None tree) k c).phase → ⊥
    asleep k e c live = subst (λ (y : Memory). IsLive y.phase) (memory_empty place k c e) live

    whole_list : (rs : List Record) → take (length rs) rs ≡ rs
    whole_list [] = refl
    whole_list (x ∷ rs) = ap (λ y. x ∷ y) (whole_list rs)

    reopened_never : (j : ℕ)
        → Never (coordinator_place me None tree) (restarted (coordinator_place me None tree) n j)
    reopened_never j =
        let k = restarted place n j in
        let rs = left j in
        let new = reopens AtRoot rs in
        record {
          stand = λ c f. elim (in_either (is_commit c) new (rs ++ n.durable) f) [
            | inl g ↦ inl (in_second (is_commit c) rs new g)
            | inr g ↦ elim (in_either (is_commit c) rs n.durable g) [
              | inl y ↦ inl (in_first (is_commit c) rs new y)
              | inr y ↦ elim (old.stand c y) [
                | inl z ↦ inl (in_first (is_commit c) rs new
                    (in_first (is_commit c) n.forced (take j n.unforced) z))
                | inr z ↦ inr (ap (has (is_collecting c)) (append-nil (rs ++ new))
                    ∙ in_none (is_collecting c) rs new (none_left (is_collecting c) j z)
                    (no_collecting_reopened c j))
              ]
            ]
          ];
          dead = λ c d.
              let s = ended_left k j (length new) refl (ap (λ ys. reverse ys ++ n.life)
              (sym (whole_list new))) refl c d in
              record {
                closed = λ up live. asleep k refl c live;
                none_kept = ap (has (is_commit c)) (append-nil (rs ++ new))
                    ∙ in_none (is_commit c) rs new s.left (no_commit_reopened c j);
                none_ever = in_none (is_commit c) new (rs ++ n.durable) (no_commit_reopened c j)
                    (in_none (is_commit c) rs n.durable s.left s.ever);
              };
        }

    in_front_none : (q : Record → Bool) (j a f : ℕ) → has q (n.forced ++ take j n.unforced) ≡ false
        → has q (reopens AtRoot (n.forced ++ take j n.unforced)) ≡ false
        → has q (take f (take j n.unforced ++ take a (reopens AtRoot (n.forced ++ take j n.unforced))))
        ≡ false
    in_front_none q j a f e g =
        let new = reopens AtRoot (left j) in
        front_none q f (take j n.unforced ++ take a new)
        (in_none q (take j n.unforced) (take a new) (last_none n.forced (take j n.unforced) e)
        (front_none q a new g))
      where
        last_none : (xs ys : List Record) → has q (xs ++ ys) ≡ false → has q ys ≡ false
        last_none xs ys y = by_test (has q ys) refl
          where
            by_test : (b : Bool) → has q ys ≡ b → has q ys ≡ false
            by_test true z = not_both q (has q (xs ++ ys)) (in_second q xs ys z) y
            by_test false z = z

    reopening_never : (j a f : ℕ)
        → Never (coordinator_place me None tree) (restart_fails (coordinator_place me None tree) n j a f)
    reopening_never j a f =
        let k = restart_fails place n j a f in
        let rs = left j in
        let new = reopens AtRoot rs in
        let front = take f (take j n.unforced ++ take a new) in
        record {
          stand = λ c g. elim (in_either (is_commit c) front n.durable g) [
            | inl y ↦ inl (in_second (is_commit c) n.forced front y)
            | inr y ↦ elim (old.stand c y) [
              | inl z ↦ inl (in_first (is_commit c) n.forced front z)
              | inr z ↦ inr (ap (has (is_collecting c)) (breaks_keeps (loses (logs_of n) j) new a f)
                  ∙ in_none (is_collecting c) rs (take a new) (none_left (is_collecting c) j z)
                  (front_none (is_collecting c) a new (no_collecting_reopened c j)))
            ]
          ];
          dead = λ c d. let s = ended_left k j a refl refl refl c d in record {
            closed = λ up. absurd (cc);
            none_kept = ap (has (is_commit c)) (breaks_keeps (loses (logs_of n) j) new a f)
                ∙ in_none (is_commit c) rs (take a new) s.left
                (front_none (is_commit c) a new (no_commit_reopened c j));
            none_ever = in_none (is_commit c) front n.durable
                (in_front_none (is_commit c) j a f s.left (no_commit_reopened c j)) s.ever;
          };
        }

    -- A trim.

    abbrev short : List Record
    short = trimmed AtRoot (kept n)

    none_short : (q : Record → Bool) → ((j : ℕ) → q (Opened j) ≡ false) → has q (kept n) ≡ false
        → has q (trimmed AtRoot (kept n)) ≡ false
    none_short q first e = by_test (has q short) refl
      where
        was : (has q (kept n) ≡ true) ⊎ (has q [] ≡ true) → has q short ≡ false
        was (inl before) = not_both q (has q (kept n)) before e
        was (inr none) = not_both q (has q []) none (has-nil q)

        by_test : (b : Bool) → has q short ≡ b → has q short ≡ false
        by_test true f = was (trim_left q first AtRoot (kept n) f)
        by_test false f = f

    stands_short : (c : Case) → has (is_commit c) n.durable ≡ true
        → (has (is_commit c) (trimmed AtRoot (kept n)) ≡ true)
        ⊎ (has (is_collecting c) (trimmed AtRoot (kept n) ++ []) ≡ false)
    stands_short c e = elim (old.stand c e) [
      | inl f ↦ by_known (case_stays (kept n) (Some c)) refl
          (in_first (is_commit c) n.forced n.unforced f)
      | inr f ↦ inr (ap (has (is_collecting c)) (append-nil short)
          ∙ none_short (is_collecting c) (λ j. refl) f)
    ]
      where
        any : Ticket
        any = record { child = c.txn.root; boot = 0; number = 0 }

        by_known : (b : Bool) → case_stays (kept n) (Some c) ≡ b
            → has (is_commit c) (kept n) ≡ true
            → (has (is_commit c) (trimmed AtRoot (kept n)) ≡ true)
            ⊎ (has (is_collecting c) (trimmed AtRoot (kept n) ++ []) ≡ false)
        by_known true g k = inl (known_stays c (is_commit c) (λ r y. grind arith) (kept n) g k)
        by_known false g k = inr (ap (has (is_collecting c)) (append-nil short)
            ∙ (gone (kept n) c any g).collecting)

    -- what appended nothing, and trimmed the log
    trimmed_never : (k : Node) → k.told ≡ n.told → k.life ≡ n.life → k.found_undecided ≡ n.found_undecided
        → k.forced ≡ trimmed AtRoot (kept n) → k.unforced ≡ []
        → k.durable ≡ trimmed AtRoot (kept n) ++ n.durable
        → ((c : Case) → k.failed ≡ false → IsLive (memory_of (coordinator_place me None tree) k c).phase
        → (n.failed ≡ false) × IsLive (memory_of (coordinator_place me None tree) n c).phase)
        → Never (coordinator_place me None tree) k
    trimmed_never k s l u f v d live_so = record {
      stand = λ c g. by_both c (in_either (is_commit c) short n.durable (ap (has (is_commit c)) (sym d) ∙ g));
      dead = λ c x. let y = old.dead c (as_before c x) in record {
        closed = λ up live. let z = live_so c up live in y.closed z.0 z.1;
        none_kept = ap (has (is_commit c)) (logs ∙ append-nil short)
            ∙ none_short (is_commit c) (λ j. refl) y.none_kept;
        none_ever = ap (has (is_commit c)) d
            ∙ in_none (is_commit c) short n.durable (none_short (is_commit c)
            (λ j. refl) y.none_kept) y.none_ever;
      };
    }
      where
        logs : kept k ≡ trimmed AtRoot (kept n) ++ []
        logs = ap (λ xs. xs ++ k.unforced) f ∙ ap (λ xs. trimmed AtRoot (kept n) ++ xs) v

        as_before : (c : Case) → IsEnded k c → IsEnded n c
        as_before c (by_telling x e g) = by_telling x e (ap (list_any (is_told_aborted x)) (sym s) ∙ g)
        as_before c (by_abort g) = by_abort (ap (has (is_abort c)) (sym l) ∙ g)
        as_before c (by_finding x e g) = by_finding x e (ap (among x) (sym u) ∙ g)

        now_so : (c : Case) → (has (is_commit c) (trimmed AtRoot (kept n)) ≡ true)
            ⊎ (has (is_collecting c) (trimmed AtRoot (kept n) ++ []) ≡ false)
            → (has (is_commit c) k.forced ≡ true) ⊎ (has (is_collecting c) (k.forced ++ k.unforced) ≡ false)
        now_so c (inl y) = inl (ap (has (is_commit c)) f ∙ y)
        now_so c (inr y) = inr (ap (has (is_collecting c)) logs ∙ y)

        by_both : (c : Case) → (has (is_commit c) (trimmed AtRoot (kept n)) ≡ true)
            ⊎ (has (is_commit c) n.durable ≡ true)
            → (has (is_commit c) k.forced ≡ true) ⊎ (has (is_collecting c) (k.forced ++ k.unforced) ≡ false)
        by_both c (inl y) = now_so c (inl y)
        by_both c (inr y) = now_so c (stands_short c y)

    -- its device failed, and nothing else
    falls : Never (coordinator_place me None tree) (record n { failed = true })
    falls = record {
      stand = old.stand;
      dead = λ c d. let y = old.dead c (as_before c d) in record {
        closed = λ up. absurd (cc);
        none_kept = y.none_kept;
        none_ever = y.none_ever;
      };
    }
      where
        as_before : (c : Case) → IsEnded (record n { failed = true }) c → IsEnded n c
        as_before c (by_telling x e g) = by_telling x e g
        as_before c (by_abort g) = by_abort g
        as_before c (by_finding x e g) = by_finding x e g

    trim_failed : (a : ℕ)
        → Never (coordinator_place me None tree) (trim_fails (coordinator_place me None tree) n a)
    trim_failed zero = falls
    trim_failed (suc a) =
        trimmed_never _ refl refl refl refl refl refl (λ c up. absurd (cc))

    -- Each step.
    pub never_last : (m : Move) (e : Effect) (k : Node) → StepOf (coordinator_place me None tree) n m e k
        → Coordinated (coordinator_place me None tree) k → Never (coordinator_place me None tree) k
    never_last m _ _ (handled i g hp np r) next =
        let h = heard_in m i in
        after_never me tree n nested cases kept_so old h g (turn_of place n h g r) r next
    never_last m _ _ (failed_in i f g fl hp np r) next =
        let h = heard_in m i in
        failing_never me tree n nested cases kept_so old h g (turn_of place n h g r) r f.appended f.forced
    never_last m _ _ (passed i hp r) next = old
    never_last m _ _ (failed_passing i f fl hp r) next = falls
    never_last m _ _ (reopened j hp) next = reopened_never j
    never_last m _ _ (failed_reopening j f fl hp) next = reopening_never j f.appended f.forced
    never_last m _ _ (trims_log hp up) next =
        trimmed_never (trims place n) refl refl refl refl refl refl
        (λ c u live. (up, subst (λ (y : Memory). IsLive y.phase) (trims_memory place n c) live))
    never_last m _ _ (failed_trimming f fl hp up) next = trim_failed f.appended
