-- What an input adds to a root's memory and histories is of transactions that it began, and those leave a
-- trace.
use Rattle.std.proofs.Common.{◌≡◌, ◌≢◌, ◌∙◌, ◌||◌, ◌⊎◌, ◌+◌, inl, inr, ℕ, Bool, true, false, Option, Some, None, List, [], ◌∷◌, ◌++◌, refl, sym, ap, subst, arith, if◌then◌else◌}
use Rattle.std.specs.Prelude.{filter}
use Rattle.std.specs.List.{list_any}
use Rattle.protocol.specs.declared.names.Case.{Case}
use Rattle.protocol.specs.declared.names.ProcessId.{ProcessId}
use Rattle.protocol.specs.declared.names.Presumption.{Presumption}
use Rattle.protocol.specs.declared.names.Txn.{Txn}
use Rattle.protocol.specs.declared.records.Record.{Record}
use Rattle.protocol.specs.declared.standings.Standing.TheVariants.{Unknown}
use Rattle.protocol.specs.declared.events.Act.TheVariants.{Begin}
use Rattle.protocol.specs.declared.events.Input.{Input}
use Rattle.protocol_words.specs.Variants.{ActInput}
use Rattle.protocol.specs.declared.events.StepError.TheVariants.{NoSuch}
use Rattle.protocol.specs.declared.events.Told.{Told}
use Rattle.protocol.specs.declared.trees.TreeProcess.{TreeProcess}
use Rattle.protocol.specs.Names.{root_case, same_txn}
use Rattle.protocol.specs.NameLaws.{same_txn_tells, same_txn-refl}
use Rattle.protocol.specs.Records.{has, is_commit, boot_of, is_reported}
use Rattle.protocol.specs.Nodes.{Place, Node, kept, Heard, Effect, begun_first, told_first}
use Rattle.protocol.specs.Memory.{Memory, Phase, Idle, Open, Asked, Over, memory_of, next_txn, root_remembers}
use Rattle.protocol.specs.Standings.{coordinator_view, some_case}
use Rattle.protocol.specs.Reactions.{Refused, Does, reacts, handles, act_is_listed}
use Rattle.protocol.specs.Views.{root_place, next_begun, begin_effect}
use Rattle.proof_model.proofs.BeginLaws.{same_begun}
use Rattle.proof_pairs.specs.readings.ReadingOf.{is_begun, is_told_of_txn}
use Rattle.proof_pairs.specs.turns.CoordinatorTurns.{CoordinatorTurn, does_nothing, of_case, begins, gives_again, gives_fresh, presumes}
use Rattle.proof_pairs.proofs.turns.CoordinatorReactions.{coordinator_turn_of}
use Rattle.proof_processes.specs.Lasts.{logs_of, Nested}
use Rattle.proof_processes.proofs.RootCases.{InHistory, recorded, RootCases}
use Rattle.proof_processes.specs.WorldHolds.{is_record_of, has_begun}
use Rattle.proof_processes.proofs.Tests.{either, right}
use Rattle.proof_processes.proofs.RootAwake.{awake_by, begins_open}
use Rattle.proof_processes.proofs.RootHistories.{among, NewIn, writes_of, accepts_into, begins_it, tells_of, effect_accepts, effect_tells}
use Rattle.proof_processes.proofs.RootKnown.{known_by, known_roots}
use Rattle.proof_processes.proofs.RootAwake.{IsNext}
use Rattle.proof_processes.proofs.RootMemories.{memory_heard}
use Rattle.proof_processes.proofs.Reported.{reported_recorded}
use Rattle.proof_processes.proofs.RowWrites.{effect_writes}

-- Tests.

one_of : (a b c d : Bool) → (a || b || c || d) ≡ true
    → (a ≡ true) ⊎ ((b ≡ true) ⊎ ((c ≡ true) ⊎ (d ≡ true)))
one_of true b c d e = inl refl
one_of false true c d e = inr (inl refl)
one_of false false true d e = inr (inr (inl refl))
one_of false false false true e = inr (inr (inr refl))
one_of false false false false e = absurd (cc)

first : (a b c d : Bool) → a ≡ true → (a || b || c || d) ≡ true
first a b c d e = grind arith

second : (a b c d : Bool) → b ≡ true → (a || b || c || d) ≡ true
second a b c d e = grind arith

third : (a b c d : Bool) → c ≡ true → (a || b || c || d) ≡ true
third a b c d e = grind arith

fourth : (a b c d : Bool) → d ≡ true → (a || b || c || d) ≡ true
fourth a b c d e = grind arith

module _ (place : Place) (n : Node) (x : Txn) where
  abbrev in_memory : Bool
  in_memory = is_begun (memory_of place n (root_case x)).phase

  abbrev was_told : Bool
  was_told = list_any (is_told_of_txn x) n.told

  abbrev was_found : Bool
  was_found = among x n.found_undecided

  abbrev was_committed : Bool
  was_committed = has (is_commit (root_case x)) n.life

  -- what shows that a transaction was begun
  pub traces : has_begun place n x ≡ true → (is_begun (memory_of place n (root_case x)).phase ≡ true)
      ⊎ ((list_any (is_told_of_txn x) n.told ≡ true)
      ⊎ ((among x n.found_undecided ≡ true) ⊎ (has (is_commit (root_case x)) n.life ≡ true)))
  traces e = one_of in_memory was_told was_found was_committed e

  pub if_remembered : is_begun (memory_of place n (root_case x)).phase ≡ true → has_begun place n x ≡ true
  if_remembered e = first in_memory was_told was_found was_committed e

  pub if_told : list_any (is_told_of_txn x) n.told ≡ true → has_begun place n x ≡ true
  if_told e = second in_memory was_told was_found was_committed e

  pub if_found : among x n.found_undecided ≡ true → has_begun place n x ≡ true
  if_found e = third in_memory was_told was_found was_committed e

  pub if_committed : has (is_commit (root_case x)) n.life ≡ true → has_begun place n x ≡ true
  if_committed e = fourth in_memory was_told was_found was_committed e

awake : (ph : Phase) → ph ≢ Idle → is_begun ph ≡ true
awake Idle f = absurd (f refl)
awake Open f = refl
awake Asked f = refl
awake Over f = refl

txn_is : (y z : Txn) → same_txn y z ≡ true → y ≡ z
txn_is y z f = elim (same_txn_tells y z) [ inl t ↦ t.1 | inr g ↦ absurd (let k = g.0 in cc) ]

begun_more : (x : Txn) (o : Option Txn) (ys : List Txn) → among x ys ≡ true
    → among x (begun_first o ys) ≡ true
begun_more x None ys e = e
begun_more x (Some y) ys e = right (same_txn y x) (among x ys) e

pub told_more : (x : Txn) (o : Option Told) (ts : List Told) → list_any (is_told_of_txn x) ts ≡ true
    → list_any (is_told_of_txn x) (told_first o ts) ≡ true
told_more x None ts e = e
told_more x (Some y) ts e = right (is_told_of_txn x y) (list_any (is_told_of_txn x) ts) e

pub among_kept : (x : Txn) (f : Txn → Bool) (ys : List Txn) → f x ≡ true → among x ys ≡ true
    → among x (filter f ys) ≡ true
among_kept x f [] e g = g
among_kept x f (y ∷ ys) e g = by_first (either (same_txn y x) (among x ys) g) (among_kept x f ys e)
  where
    with_rest : (b : Bool) → among x (filter f ys) ≡ true
        → among x (if b then y ∷ filter f ys else filter f ys) ≡ true
    with_rest true k = right (same_txn y x) (among x (filter f ys)) k
    with_rest false k = k

    by_first : (same_txn y x ≡ true) ⊎ (among x ys ≡ true)
        → (among x ys ≡ true → among x (filter f ys) ≡ true)
        → among x (if f y then y ∷ filter f ys else filter f ys) ≡ true
    by_first (inl now) k = rw (ap f (txn_is y x now) ∙ e) (rw now refl)
    by_first (inr rest) k = with_rest (f y) (k rest)

-- What holds at each root.
pub record BegunSo (me : ProcessId) (tree : List TreeProcess) (n : Node) : Type 0 where
  pub remembered : (c : Case) → is_begun (memory_of (root_place me tree) n c).phase ≡ true
      → among c.txn n.begun ≡ true
  pub in_histories : (c : Case) → InHistory n c → among c.txn n.begun ≡ true
  pub known : (x : Txn) → among x n.begun ≡ true → has_begun (root_place me tree) n x ≡ true

module _ (me : ProcessId) (tree : List TreeProcess) (n : Node) (nested : Nested (logs_of n))
    (cases : RootCases (root_place me tree) n) (old : BegunSo me tree n)
  where
    abbrev place : Place
    place = root_place me tree

    abbrev boot : ℕ
    boot = boot_of (kept n)

    module _ (h : Heard) (e : Effect) (up : n.failed ≡ false)
        (r : reacts (root_place me tree) n h ≡ Does e) where
      turn : CoordinatorTurn (root_place me tree) None n h e
      turn = coordinator_turn_of place n h e r

      abbrev pub now : List Txn
      now = begun_first e.begun n.begun

      abbrev pub memory_then : Case → Memory
      memory_then c = root_remembers me (boot_of (kept n)) c (memory_of (root_place me tree) n c) h.input

      known_among : (c : Case) → (coordinator_view place n c).standing ≢ Unknown → among c.txn n.begun ≡ true
      known_among c f = elim (known_by place n c f) [
        | inl active ↦ old.remembered c (awake (memory_of place n c).phase active)
        | inr stands ↦ old.in_histories c (recorded
            (nested.kept_was_written (is_record_of c) (λ k. refl) stands))
      ]

      reported_among : (c : Case) → is_reported (kept n) c ≡ true → among c.txn n.begun ≡ true
      reported_among c g = old.in_histories c
          (recorded (nested.kept_was_written (is_record_of c) (λ k. refl) (reported_recorded (kept n) c g)))

      unticketed : (c : Case) → (coordinator_view place n c).standing ≢ Unknown → c.ticket ≡ None
      unticketed c f = (known_roots me tree n up nested cases c f).no_ticket

      -- the transaction that begins

      reacts_begin : (p : Presumption) → h.input ≡ ActInput (Begin p)
          → reacts place n h ≡ Does (begin_effect (next_begun place n p))
      unfolding reacts
      reacts_begin p i =
          subst (λ (x : Input). (if act_is_listed tree x then handles place n h x else Refused NoSuch)
          ≡ Does (begin_effect (next_begun place n p))) (sym i) (rw up refl)

      begins_so : (p : Presumption) → h.input ≡ ActInput (Begin p) → e.begun ≡ Some (next_begun place n p)
      begins_so p i =
          ap (λ (g : Effect). g.begun)
          (sym (does_so (begin_effect (next_begun place n p)) (sym (reacts_begin p i) ∙ r)))
        where
          does_so : (g : Effect) → Does g ≡ Does e → g ≡ e
          does_so g q = cc

      next_is : (c : Case) (p : Presumption) → next_txn me boot (memory_of place n c) p ≡ next_begun place n p
      next_is c p =
          ap (λ (k : ℕ). record { root = me; boot = boot; sequence = k + 1; presumption = p })
          (same_begun me tree n c (some_case place))

      of_next : (c : Case) → IsNext me boot c (memory_of place n c) h.input → among c.txn now ≡ true
      of_next c x =
          let y : next_begun place n x.0 ≡ c.txn = sym (next_is c x.0) ∙ ap (λ (d : Case). d.txn) x.1.1 in
          ap (λ (o : Option Txn). among c.txn (begun_first o n.begun)) (begins_so x.0 x.1.0)
          ∙ subst (λ (z : Txn). (same_txn z c.txn || among c.txn n.begun) ≡ true) (sym y)
          (rw (same_txn-refl c.txn) refl)

      remembered_then : (c : Case) → is_begun (memory_then c).phase ≡ true → among c.txn now ≡ true
      remembered_then c g = elim (awake_by me boot c (memory_of place n c) h.input) [
        | inl same ↦ begun_more c.txn e.begun n.begun (old.remembered c (sym same ∙ g))
        | inr next ↦ of_next c next
      ]

      abbrev IsAmong : Case → Type 0
      IsAmong c = among c.txn n.begun ≡ true

      first_of : (x : Txn) (o : Option Txn) → among x (begun_first o []) ≡ true
          → among x (begun_first o n.begun) ≡ true
      first_of x None f = absurd (cc)
      first_of x (Some y) f = widen (same_txn y x) f
        where
          widen : (b : Bool) → (b || false) ≡ true → (b || among x n.begun) ≡ true
          widen true g = refl
          widen false g = absurd (cc)

      histories_then : (c : Case) → InHistory n c ⊎ NewIn e c → among c.txn now ≡ true
      histories_then c (inl before) = begun_more c.txn e.begun n.begun (old.in_histories c before)
      histories_then c (inr (writes_of g)) =
          begun_more c.txn e.begun n.begun
          (effect_writes place None n h IsAmong known_among (λ c f g. reported_among c g) e turn c g)
      histories_then c (inr (accepts_into t g)) =
          begun_more c.txn e.begun n.begun (effect_accepts place n h IsAmong known_among unticketed e turn c t
          g)
      histories_then c (inr (begins_it x i g)) =
          ap (λ (d : Case). among d.txn now) i ∙ first_of x e.begun g
      histories_then c (inr (tells_of x i g)) =
          ap (λ (d : Case). among d.txn now) i
          ∙ begun_more x e.begun n.begun (effect_tells place n h IsAmong known_among unticketed e turn x g)

      -- the memory of a transaction that was begun, or begins
      memory_begun : (x : Txn) → is_begun (memory_of place n (root_case x)).phase ≡ true
          → is_begun (memory_then (root_case x)).phase ≡ true
      memory_begun x g = elim (awake_by me boot (root_case x) (memory_of place n (root_case x)) h.input) [
        | inl same ↦ same ∙ g
        | inr next ↦ begins_open me boot (root_case x) (memory_of place n (root_case x)) h.input next
      ]

      -- a node after the input
      pub heard_holds : (k : Node) → k.heard ≡ n.heard ++ h ∷ [] → boot_of (kept k) ≡ boot_of (kept n)
          → k.begun ≡ now
          → ((x : Txn) → list_any (is_told_of_txn x) n.told ≡ true
          → list_any (is_told_of_txn x) k.told ≡ true)
          → k.found_undecided ≡ n.found_undecided
          → ((q : Record → Bool) → has q n.life ≡ true → has q k.life ≡ true)
          → ((c : Case) → InHistory k c → InHistory n c ⊎ NewIn e c)
          → ((x : Txn) → among x now ≡ true
          → (among x n.begun ≡ true) ⊎ (is_begun (memory_then (root_case x)).phase ≡ true))
          → BegunSo me tree k
      heard_holds k i b g t u l hist born =
          let same : (c : Case) → memory_of place k c ≡ memory_then c =
          λ c. memory_heard me tree n h k c i b in
          record {
            remembered = λ c x. ap (among c.txn) g
                ∙ remembered_then c (ap (λ (m : Memory). is_begun m.phase) (sym (same c)) ∙ x);
            in_histories = λ c x. ap (among c.txn) g ∙ histories_then c (hist c x);
            known = λ x y. known_then x (born x (ap (among x) (sym g) ∙ y));
          }
        where
          phase_so : (x : Txn) → is_begun (memory_then (root_case x)).phase ≡ true
              → is_begun (memory_of place k (root_case x)).phase ≡ true
          phase_so x y = ap (λ (m : Memory). is_begun m.phase) (memory_heard me tree n h k (root_case x) i b)
              ∙ y

          by_trace : (x : Txn) → (is_begun (memory_of place n (root_case x)).phase ≡ true)
              ⊎ ((list_any (is_told_of_txn x) n.told ≡ true)
              ⊎ ((among x n.found_undecided ≡ true) ⊎ (has (is_commit (root_case x)) n.life ≡ true)))
              → has_begun place k x ≡ true
          by_trace x (inl y) = if_remembered place k x (phase_so x (memory_begun x y))
          by_trace x (inr (inl y)) = if_told place k x (t x y)
          by_trace x (inr (inr (inl y))) = if_found place k x (ap (among x) u ∙ y)
          by_trace x (inr (inr (inr y))) = if_committed place k x (l (is_commit (root_case x)) y)

          known_then : (x : Txn) → (among x n.begun ≡ true)
              ⊎ (is_begun (memory_then (root_case x)).phase ≡ true)
              → has_begun place k x ≡ true
          known_then x (inl before) = by_trace x (traces place n x (old.known x before))
          known_then x (inr next) = if_remembered place k x (phase_so x next)

      pub born : (x : Txn) → among x now ≡ true
          → (among x n.begun ≡ true) ⊎ (is_begun (memory_then (root_case x)).phase ≡ true)
      born x = by_turn e turn
        where
          new : (p : Presumption) → h.input ≡ ActInput (Begin p) → same_txn (next_begun place n p) x ≡ true
              → is_begun (memory_then (root_case x)).phase ≡ true
          new p i f =
              begins_open me boot (root_case x) (memory_of place n (root_case x)) h.input
              (p, (i, ap root_case (next_is (root_case x) p ∙ txn_is (next_begun place n p) x f)))

          by_turn : (g : Effect) → CoordinatorTurn (root_place me tree) None n h g
              → among x (begun_first g.begun n.begun) ≡ true
              → (among x n.begun ≡ true) ⊎ (is_begun (memory_then (root_case x)).phase ≡ true)
          by_turn _ (begins p q i) f = elim (either (same_txn (next_begun place n p) x) (among x n.begun) f) [
            | inl now ↦ inr (new p i now)
            | inr before ↦ inl before
          ]
          by_turn _ (of_case c row k) f = inl f
          by_turn _ (does_nothing i) f = inl f
          by_turn _ (gives_again p d t q i a) f = inl f
          by_turn _ (gives_fresh p d q i a) f = inl f
          by_turn _ (presumes y t i q) f = inl f
