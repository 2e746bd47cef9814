-- All in a root's memory and histories is of transactions that it began, and those leave a trace: over every
-- run.
use Rattle.std.proofs.Common.{◌≡◌, ◌∙◌, ◌⊎◌, inl, inr, ℕ, zero, suc, Bool, true, false, List, [], ◌++◌, take, refl, sym, ap}
use Rattle.std.specs.Prelude.{filter, reverse, fold}
use Rattle.std.specs.List.{list_any}
use Rattle.std.proofs.lemmas.List.{append-nil}
use Rattle.std.proofs.lemmas.List.Folds.{list_any-append}
use Rattle.protocol.specs.declared.names.Case.{Case}
use Rattle.protocol.specs.declared.names.ProcessId.{ProcessId}
use Rattle.protocol.specs.declared.names.Txn.{Txn}
use Rattle.protocol.specs.declared.records.Record.{Record}
use Rattle.protocol.specs.declared.trees.TreeProcess.{TreeProcess}
use Rattle.protocol.specs.Names.{root_case}
use Rattle.protocol.specs.Records.{has, is_commit, is_opened, boot_of}
use Rattle.protocol.specs.Nodes.{AtRoot, Place, Node, kept, Heard, Effect, entries_written, after, fails_in}
use Rattle.protocol.specs.Memory.{Memory, memory_of, remembers, fresh_memory}
use Rattle.protocol.specs.Reactions.{Does, reacts}
use Rattle.protocol.specs.Restarts.{is_undecided, reopens, restarted, restart_fails, trims, trim_fails, trimmed}
use Rattle.protocol.specs.Views.{root_place}
use Rattle.protocol.specs.World.{Move}
use Rattle.protocol.proofs.ListLaws.{kept-after}
use Rattle.proof_pairs.specs.readings.ReadingOf.{is_begun, is_told_of_txn}
use Rattle.proof_pairs.specs.turns.Steps.{StepOf, heard_in, handled, failed_in, passed, failed_passing, reopened, failed_reopening, trims_log, failed_trimming, TurnOf}
use Rattle.proof_pairs.proofs.turns.Steps.{turn_of}
use Rattle.proof_processes.specs.Lasts.{logs_of, Nested}
use Rattle.proof_processes.proofs.RootCases.{InHistory, recorded, RootCases}
use Rattle.proof_processes.specs.WorldHolds.{is_record_of, has_begun}
use Rattle.proof_processes.proofs.Tests.{has-nil, has-reverse, in_first, in_second, in_either, in_front, not_both, front_none}
use Rattle.proof_processes.proofs.Appends.{breaks_keeps}
use Rattle.proof_processes.proofs.Boots.{others_boot, boot_append, turn_none, trimmed_boot}
use Rattle.proof_processes.proofs.RootHistories.{among, after_life, after_found, after_history, fails_history, reopened_history, reopening_history, same_history}
use Rattle.proof_processes.proofs.RootLogs.{reopened_record}
use Rattle.proof_processes.proofs.RootMemories.{same_memory}
use Rattle.proof_processes.proofs.RootTraces.{BegunSo, traces, if_remembered, if_told, if_found, if_committed, told_more, among_kept, heard_holds, born}

-- nothing is remembered if nothing was heard
pub forgotten : (me : ProcessId) (tree : List TreeProcess) (k : Node) (c : Case) → k.heard ≡ []
    → is_begun (memory_of (root_place me tree) k c).phase ≡ false
unfolding memory_of
forgotten me tree k c e =
    ap (λ hs. is_begun (fold (remembers me AtRoot (boot_of (kept k)) c) fresh_memory hs).phase) e

module _ (me : ProcessId) (tree : List TreeProcess) (n : Node) (nested : Nested (logs_of n))
    (cases : RootCases (root_place me tree) n) (old : BegunSo me tree n)
  where
    abbrev place : Place
    place = root_place me tree

    -- Steps.

    longer : (new : List Record) (q : Record → Bool) → has q n.life ≡ true
        → has q (reverse new ++ n.life) ≡ true
    longer new q g = in_second q (reverse new) n.life g

    module _ (h : Heard) (e : Effect) (t : TurnOf (root_place me tree) n h e)
        (r : reacts (root_place me tree) n h ≡ Does e)
      where
        abbrev new : List Record
        new = entries_written e.written

        leaves_boot : boot_of (kept n ++ new) ≡ boot_of (kept n)
        leaves_boot =
            boot_append (kept n) new ∙ others_boot (boot_of (kept n)) new
            (turn_none AtRoot place n h e t.turn)

        appended : BegunSo me tree (after n h e)
        appended =
            heard_holds me tree n nested cases old h e t.up r (after n h e) refl
            (ap boot_of (kept-after n h e) ∙ leaves_boot) refl
            (λ x g. told_more x e.told n.told g)
            (after_found n h e) (λ q g. ap (has q) (after_life n h e) ∙ longer new q g)
            (λ c x. after_history n h e c x) (born me tree n nested cases old h e t.up r)

        broken : (a f : ℕ) → BegunSo me tree (fails_in n h e a f)
        broken a f =
            heard_holds me tree n nested cases old h e t.up r (fails_in n h e a f) refl
            (ap boot_of (breaks_keeps (logs_of n) new a f)
            ∙ (boot_append (kept n) (take a new) ∙ others_boot (boot_of (kept n)) (take a new)
            (front_none is_opened a new (turn_none AtRoot place n h e t.turn))))
            refl (λ x g. g) refl (λ q g. longer (take a new) q g)
            (λ c x. fails_history n h e c a f x) (born me tree n nested cases old h e t.up r)

    -- one that heard nothing, in the same boot
    quiet_holds : (k : Node) → k.heard ≡ n.heard → boot_of (kept k) ≡ boot_of (kept n) → k.begun ≡ n.begun
        → k.told ≡ n.told → k.found_undecided ≡ n.found_undecided
        → ((q : Record → Bool) → has q n.life ≡ true → has q k.life ≡ true)
        → ((c : Case) → InHistory k c → InHistory n c) → BegunSo me tree k
    quiet_holds k i b g t u l hist = record {
      remembered = λ c x. ap (among c.txn) g
          ∙ old.remembered c (ap (λ (m : Memory). is_begun m.phase) (sym (same_memory me tree n k c i b))
          ∙ x);
      in_histories = λ c x. ap (among c.txn) g ∙ old.in_histories c (hist c x);
      known = λ x y. by_trace x (traces place n x (old.known x (ap (among x) (sym g) ∙ y)));
    }
      where
        by_trace : (x : Txn) → (is_begun (memory_of place n (root_case x)).phase ≡ true)
            ⊎ ((list_any (is_told_of_txn x) n.told ≡ true)
            ⊎ ((among x n.found_undecided ≡ true) ⊎ (has (is_commit (root_case x)) n.life ≡ true)))
            → has_begun place k x ≡ true
        by_trace x (inl y) = if_remembered place k x
            (ap (λ (m : Memory). is_begun m.phase) (same_memory me tree n k (root_case x) i b) ∙ y)
        by_trace x (inr (inl y)) = if_told place k x (ap (list_any (is_told_of_txn x)) t ∙ y)
        by_trace x (inr (inr (inl y))) = if_found place k x (ap (among x) u ∙ y)
        by_trace x (inr (inr (inr y))) = if_committed place k x (l (is_commit (root_case x)) y)

    abbrev left_by : ℕ → List Record
    left_by j = n.forced ++ take j n.unforced

    -- a restart forgets, and finds undecided what was not told and has no Commit
    restarted_holds : (j : ℕ) (k : Node) (new : List Record) → k.heard ≡ [] → k.begun ≡ n.begun
        → k.told ≡ n.told
        → k.found_undecided ≡ filter (is_undecided n (left_by j)) n.begun ++ n.found_undecided
        → k.life ≡ reverse new ++ n.life
        → ((c : Case) → InHistory k c
        → InHistory n c ⊎ (has (is_record_of c) (reopens AtRoot (left_by j)) ≡ true))
        → BegunSo me tree k
    restarted_holds j k new i g t u l hist = record {
      remembered = λ c x. absurd (asleep c x);
      in_histories = λ c x. ap (among c.txn) g ∙ by_history c (hist c x);
      known = λ x y. by_test x (ap (among x) (sym g) ∙ y) (list_any (is_told_of_txn x) n.told)
          (has (is_commit (root_case x)) n.durable)
          (has (is_commit (root_case x)) (left_by j)) refl refl refl;
    }
      where
        asleep : (c : Case) → is_begun (memory_of place k c).phase ≡ true → ⊥
        asleep c x = idle_not (sym (forgotten me tree k c i) ∙ x)
          where
            idle_not : false ≡ true → ⊥
            idle_not z = cc

        was_kept : (q : Record → Bool) → has q (left_by j) ≡ true → has q (kept n) ≡ true
        was_kept q x = elim (in_either q n.forced (take j n.unforced) x) [
          | inl front ↦ in_first q n.forced n.unforced front
          | inr rest ↦ in_second q n.forced n.unforced (in_front q j n.unforced rest)
        ]

        by_history : (c : Case) → InHistory n c ⊎ (has (is_record_of c) (reopens AtRoot (left_by j)) ≡ true)
            → among c.txn n.begun ≡ true
        by_history c (inl before) = old.in_histories c before
        by_history c (inr now) =
            old.in_histories c (recorded (nested.kept_was_written (is_record_of c) (λ z. refl)
            (was_kept (is_record_of c) (reopened_record c (left_by j) now))))

        in_life : (x : Txn) → has (is_commit (root_case x)) n.life ≡ true
            → has (is_commit (root_case x)) k.life ≡ true
        in_life x y = ap (has (is_commit (root_case x))) l ∙ longer new (is_commit (root_case x)) y

        by_test : (x : Txn) → among x n.begun ≡ true → (a b c : Bool) → list_any (is_told_of_txn x) n.told ≡ a
            → has (is_commit (root_case x)) n.durable ≡ b → has (is_commit (root_case x)) (left_by j) ≡ c
            → has_begun place k x ≡ true
        by_test x y true b c p q r = if_told place k x (ap (list_any (is_told_of_txn x)) t ∙ p)
        by_test x y false true c p q r =
            if_committed place k x (in_life x
            (nested.old_was_written (is_commit (root_case x)) (λ z. refl) q))
        by_test x y false false true p q r =
            if_committed place k x (in_life x
            (nested.kept_was_written (is_commit (root_case x)) (λ z. refl)
            (was_kept (is_commit (root_case x)) r)))
        by_test x y false false false p q r =
            if_found place k x
            (ap (among x) u
            ∙ (list_any-append _ (filter (is_undecided n (left_by j)) n.begun) n.found_undecided
            ∙ rw (among_kept x (is_undecided n (left_by j)) n.begun (rw (p, q, r) refl) y) refl))

    -- a trim

    in_rest : (q : Record → Bool) → has q (reverse [] ++ n.life) ≡ true → has q n.life ≡ true
    in_rest q x = elim (in_either q (reverse []) n.life x) [
      | inl now ↦ not_both q (has q []) (sym (has-reverse q []) ∙ now) (has-nil q)
      | inr before ↦ before
    ]

    trims_boot : boot_of (trimmed AtRoot (kept n) ++ []) ≡ boot_of (kept n)
    trims_boot = ap boot_of (append-nil (trimmed AtRoot (kept n))) ∙ trimmed_boot AtRoot (kept n)

    trimmed_begun : (k : Node) → k.heard ≡ n.heard → boot_of (kept k) ≡ boot_of (kept n) → k.begun ≡ n.begun
        → k.told ≡ n.told → k.found_undecided ≡ n.found_undecided → k.life ≡ reverse [] ++ n.life
        → k.accepted ≡ n.accepted → BegunSo me tree k
    trimmed_begun k i b g t u l a =
        quiet_holds k i b g t u (λ q x. ap (has q) l ∙ longer [] q x)
        (λ c x. same_history n k c (λ y. in_rest (is_record_of c) (ap (has (is_record_of c)) (sym l) ∙ y)) a g
        t u x)

    falls : BegunSo me tree (record n { failed = true })
    falls =
        let k : Node = record n { failed = true } in
        quiet_holds k refl refl refl refl refl (λ q x. x)
        (λ c x. same_history n k c (λ y. y) refl refl refl refl x)

    trim_failed : (a : ℕ) → BegunSo me tree (trim_fails place n a)
    trim_failed zero = falls
    trim_failed (suc a) = trimmed_begun (trim_fails place n (suc a)) refl trims_boot refl refl refl refl refl

    pub begun_last : (m : Move) (e : Effect) (k : Node) → StepOf (root_place me tree) n m e k
        → BegunSo me tree k
    begun_last m _ _ (handled i g hp np r) = appended (heard_in m i) g (turn_of place n (heard_in m i) g r) r
    begun_last m _ _ (failed_in i f g fl hp np r) =
        broken (heard_in m i) g (turn_of place n (heard_in m i) g r) r f.appended f.forced
    begun_last m _ _ (passed i hp r) = old
    begun_last m _ _ (failed_passing i f fl hp r) = falls
    begun_last m _ _ (reopened k hp) =
        restarted_holds k (restarted place n k)
        (reopens AtRoot (n.forced ++ take k n.unforced)) refl refl refl refl
        refl (λ c x. reopened_history me tree n k c x)
    begun_last m _ _ (failed_reopening k f fl hp) =
        restarted_holds k (restart_fails place n k f.appended f.forced)
        (take f.appended (reopens AtRoot (n.forced ++ take k n.unforced))) refl refl refl refl refl
        (λ c x. reopening_history me tree n k c f.appended f.forced x)
    begun_last m _ _ (trims_log hp up) = trimmed_begun
        (trims place n) refl trims_boot refl refl refl refl refl
    begun_last m _ _ (failed_trimming f fl hp up) = trim_failed f.appended
