-- A case that is known at the root is its own, and only such a case is written of.
use Rattle.std.proofs.Common.{◌+◌, ◌≡◌, ◌≢◌, ◌∙◌, ◌⊎◌, inl, inr, ℕ, Bool, true, false, None, List, refl, sym, subst, arith}
use Rattle.protocol.specs.declared.names.Case.{Case}
use Rattle.protocol.specs.declared.names.ProcessId.{ProcessId}
use Rattle.protocol.specs.declared.names.Txn.{Txn}
use Rattle.protocol.specs.Names.{root_case}
use Rattle.protocol.specs.declared.names.Outcome.{Outcome}
use Rattle.protocol.specs.declared.names.Presumption.{Presumption}
use Rattle.protocol.specs.declared.names.Presumption.TheVariants.{PresumeAbort, PresumeCommit}
use Rattle.protocol.specs.declared.records.Record.{Record}
use Rattle.protocol.specs.declared.standings.Standing.{Standing}
use Rattle.protocol.specs.declared.standings.Standing.TheVariants.{Unknown, Active, Collecting}
use Rattle.protocol.specs.declared.trees.TreeProcess.{TreeProcess}
use Rattle.protocol.specs.Records.{has, is_end, is_commit, is_abort, is_prepare, is_collecting, boot_of, is_reported}
use Rattle.protocol.specs.Nodes.{Place, Node, Heard, Effect, kept, entries_written}
use Rattle.protocol.specs.Memory.{Memory, Phase, Idle, memory_of, next_txn}
use Rattle.protocol.specs.Standings.{coordinator_view, coordinator_standing, phase_standing, some_case}
use Rattle.protocol.specs.CoordinatorRows.{Row}
use Rattle.protocol.specs.Views.{root_place}
use Rattle.proof_model.proofs.BeginLaws.{same_begun}
use Rattle.proof_pairs.specs.turns.CoordinatorTurns.{HasDecided, by_commit, by_abort, CaseTurn, rests, invites, accepts, sends_work, finds_nobody, asks_for_votes, gives_up, counts_vote, reads_only, commits, promises, hears_no, aborts, passes_commit, passes_abort, repeats_yes, asks, refuses, acknowledges, waits_for_acks, ends, clears, answers, CoordinatorTurn, does_nothing, of_case, begins, gives_again, gives_fresh, presumes}
use Rattle.proof_processes.specs.Lasts.{logs_of, Nested}
use Rattle.proof_processes.specs.WorldHolds.{IsGivenOut, is_record_of}
use Rattle.proof_processes.proofs.RootCases.{IsRoots, AllRoots, InHistory, recorded, RootCases}
use Rattle.proof_processes.proofs.Tests.{not_both}
use Rattle.proof_processes.proofs.Worlds.{has_other}
use Rattle.proof_processes.proofs.Cases.{viewed}
use Rattle.proof_processes.proofs.RootMemories.{remembered_is_begun}

-- A case with no record and no memory is unknown.

idle_is_unknown : (p : Presumption) (ph : Phase) → ph ≡ Idle → phase_standing p ph ≡ Unknown
idle_is_unknown PresumeAbort ph e = rw e refl
idle_is_unknown PresumeCommit ph e = rw e refl

module _ (c : Case) (rs : List Record) (none : has (is_record_of c) rs ≡ false) where
  pub none_such : (q : Record → Bool) → ((r : Record) → q r ≡ true → is_record_of c r ≡ true)
      → has q rs ≡ false
  none_such q f = by_test (has q rs) refl
    where
      by_test : (b : Bool) → has q rs ≡ b → has q rs ≡ false
      by_test true e = not_both q (has (is_record_of c) rs) (has_other q (is_record_of c) rs f e) none
      by_test false e = e

  pub no_end : has (is_end c) rs ≡ false
  no_end = none_such (is_end c) (λ r e. grind arith)

  pub no_commit : has (is_commit c) rs ≡ false
  no_commit = none_such (is_commit c) (λ r e. grind arith)

  pub no_abort : has (is_abort c) rs ≡ false
  no_abort = none_such (is_abort c) (λ r e. grind arith)

  pub no_prepare : has (is_prepare c) rs ≡ false
  no_prepare = none_such (is_prepare c) (λ r e. grind arith)

  pub no_collecting : has (is_collecting c) rs ≡ false
  no_collecting = none_such (is_collecting c) (λ r e. grind arith)

  -- if there is no record, the phase says where the case stands
  pub stands_by_phase : (m : Memory) → coordinator_standing rs c m ≡ phase_standing c.txn.presumption m.phase
  stands_by_phase m = rw (no_end, no_commit, no_abort, no_prepare, no_collecting) refl

pub known_by : (place : Place) (n : Node) (c : Case) → (coordinator_view place n c).standing ≢ Unknown
    → ((memory_of place n c).phase ≢ Idle) ⊎ (has (is_record_of c) (kept n) ≡ true)
known_by place n c known = by_records (has (is_record_of c) (kept n)) refl
  where
    by_records : (b : Bool) → has (is_record_of c) (kept n) ≡ b
        → ((memory_of place n c).phase ≢ Idle) ⊎ (has (is_record_of c) (kept n) ≡ true)
    by_records true e = inr e
    by_records false e = inl (λ idle. known
        (viewed place n c ∙ (stands_by_phase c (kept n) e (memory_of place n c)
        ∙ idle_is_unknown c.txn.presumption (memory_of place n c).phase idle)))

module _ (me : ProcessId) (tree : List TreeProcess) (n : Node) where
  abbrev place : Place
  place = root_place me tree

  abbrev boot : ℕ
  boot = boot_of (kept n)

  abbrev count : ℕ
  count = (memory_of (root_place me tree) n (some_case (root_place me tree))).begun

  remembered_roots : (c : Case) → (memory_of place n c).phase ≢ Idle → IsRoots me boot count c
  remembered_roots c awake = elim (remembered_is_begun place refl n c) [
    | inl idle ↦ absurd (awake idle)
    | inr b ↦ subst (λ (k : ℕ). IsRoots me boot k c) (same_begun me tree n c (some_case place))
        (record {
          no_ticket = b.no_ticket;
          own = b.own;
          counted = b.counted;
          number = inr (b.in_boot, b.number);
        })
  ]

  -- a case that is known is the root's
  pub known_roots : n.failed ≡ false → Nested (logs_of n) → RootCases (root_place me tree) n → (c : Case)
      → (coordinator_view (root_place me tree) n c).standing ≢ Unknown
      → IsRoots me (boot_of (kept n))
      (memory_of (root_place me tree) n (some_case (root_place me tree))).begun c
  known_roots up nested h c known = elim (known_by place n c known) [
    | inl awake ↦ remembered_roots c awake
    | inr stands ↦ h.begun_now up c
        (recorded (nested.kept_was_written (is_record_of c) (λ k. refl) stands))
  ]

  -- no history has the transaction that begins next
  pub fresh_ever : n.failed ≡ false → RootCases (root_place me tree) n → (x : Txn) (p : Presumption)
      → next_txn me (boot_of (kept n)) (memory_of (root_place me tree) n (root_case x)) p ≡ x
      → InHistory n (root_case x) → ⊥
  fresh_ever up cases x p e f = given (cases.begun_now up (root_case x) f)
    where
      not_given : (b k : ℕ) → IsGivenOut b (k + 1) b k → ⊥
      not_given b k (inl f) = omega (arith, f)
      not_given b k (inr f) = absurd (let g = f.1 in omega (arith, g))

      counted : (memory_of place n (root_case x)).begun ≡ count
      counted = same_begun me tree n (root_case x) (some_case (root_place me tree))

      given : IsRoots me boot count (root_case x) → ⊥
      given r =
          not_given boot count
          (subst (λ (k : ℕ). IsGivenOut boot (k + 1) boot count) counted
          (subst (λ (z : Txn). IsGivenOut z.boot z.sequence boot count) (sym e) r.number))

  -- no record was ever written of it
  pub fresh_unrecorded : n.failed ≡ false → RootCases (root_place me tree) n → (x : Txn) (p : Presumption)
      → next_txn me (boot_of (kept n)) (memory_of (root_place me tree) n (root_case x)) p ≡ x
      → has (is_record_of (root_case x)) n.life ≡ false
  fresh_unrecorded up cases x p e = by_test (has (is_record_of (root_case x)) n.life) refl
    where
      by_test : (b : Bool) → has (is_record_of (root_case x)) n.life ≡ b
          → has (is_record_of (root_case x)) n.life ≡ false
      by_test true f = absurd (fresh_ever up cases x p e (recorded f))
      by_test false f = f

-- What a turn writes is of a case that is known, or whose report stands.

decided_known : (o : Outcome) (st : Standing) → HasDecided o st → st ≡ Unknown → ⊥
decided_known _ _ by_commit e = cc
decided_known _ _ by_abort e = cc

module _ (place : Place) (n : Node) (h : Heard) (c : Case) (me : ProcessId) (b k : ℕ)
    (own : (coordinator_view place n c).standing ≢ Unknown → IsRoots me b k c)
    (reported : is_reported (kept n) c ≡ true → IsRoots me b k c) where
  abbrev pub Wrote : Row → Type 0
  Wrote row = AllRoots me b k (entries_written row.written)

  abbrev s : Standing
  s = (coordinator_view place n c).standing

  as_known : (st : Standing) → s ≡ st → (st ≡ Unknown → ⊥) → IsRoots me b k c
  as_known st e f = own (λ g. f (sym e ∙ g))

  decided : (o : Outcome) (st : Standing) → s ≡ st → HasDecided o st → IsRoots me b k c
  decided o st e d = own (λ g. decided_known o st d (sym e ∙ g))

  pub turn_roots : (row : Row) → CaseTurn place None n h c row → Wrote row
  turn_roots _ (rests r) = tt
  turn_roots _ (invites q i e f g) = tt
  turn_roots _ (accepts t i e f) = tt
  turn_roots _ (sends_work q t op i e f g) = tt
  turn_roots _ (finds_nobody i e f) = tt
  turn_roots _ (asks_for_votes PresumeAbort i e f g) = tt
  turn_roots _ (asks_for_votes PresumeCommit i e f g) = (as_known Active e (λ x. cc), tt)
  turn_roots _ (gives_up why p i e f) = tt
  turn_roots _ (counts_vote t w i f e) = tt
  turn_roots _ (reads_only t w ys PresumeAbort i e f) = tt
  turn_roots _ (reads_only t w ys PresumeCommit i e f) = (as_known Collecting i.vote.stands (λ x. cc), tt)
  turn_roots _ (commits t w ys PresumeAbort i e f g) = (as_known Collecting i.vote.stands (λ x. cc), tt)
  turn_roots _ (commits t w ys PresumeCommit i e f g) = (as_known Collecting i.vote.stands (λ x. cc), tt)
  turn_roots _ (promises t w ys p i e f) = absurd (cc)
  turn_roots _ (hears_no t us PresumeAbort i e f) = (as_known Collecting i.stands (λ x. cc), tt)
  turn_roots _ (hears_no t us PresumeCommit i e f) = (as_known Collecting i.stands (λ x. cc), tt)
  turn_roots _ (aborts why us PresumeAbort i e f g) = (as_known Collecting e (λ x. cc), tt)
  turn_roots _ (aborts why us PresumeCommit i e f g) = (as_known Collecting e (λ x. cc), tt)
  turn_roots _ (passes_commit p i e f) = absurd (let g = i.is_parent in cc)
  turn_roots _ (passes_abort p i e f) = absurd (let g = i.is_parent in cc)
  turn_roots _ (repeats_yes j i e) = absurd (let g = i.is_parent in cc)
  turn_roots _ (asks i e) = tt
  turn_roots _ (refuses j i e) = absurd (let g = i.is_parent in cc)
  turn_roots _ (acknowledges o fs i e) = absurd (let g = i.is_parent in cc)
  turn_roots _ (waits_for_acks t o fs i e f g) = tt
  turn_roots _ (ends t o fs i e f g) = (decided o s refl e, tt)
  turn_roots _ (clears i e f g) = (reported g, tt)
  turn_roots _ (answers t o i e) = tt

pub effect_roots : (place : Place) (n : Node) (h : Heard) (me : ProcessId) (b k : ℕ)
    → ((c : Case) → (coordinator_view place n c).standing ≢ Unknown → IsRoots me b k c)
    → ((c : Case) → is_reported (kept n) c ≡ true → IsRoots me b k c)
    → (e : Effect) → CoordinatorTurn place None n h e → AllRoots me b k (entries_written e.written)
effect_roots place n h me b k own reported _ (does_nothing i) = tt
effect_roots place n h me b k own reported _ (of_case c row t) =
    turn_roots place n h c me b k (own c) (reported c) row t
effect_roots place n h me b k own reported _ (begins p e i) = tt
effect_roots place n h me b k own reported _ (gives_again p d t e i a) = tt
effect_roots place n h me b k own reported _ (gives_fresh p d e i a) = tt
effect_roots place n h me b k own reported _ (presumes x t i e) = tt
