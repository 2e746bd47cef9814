-- What an input, a restart and a trim add to the histories of a root.
use Rattle.std.proofs.Common.{◌≡◌, ◌≢◌, ◌∙◌, ◌||◌, ◌&&◌, ◌⊎◌, ◌≤◌, ◌+◌, inl, inr, ℕ, Bool, true, false, Option, Some, None, List, [], ◌∷◌, ◌++◌, refl, sym, ap, subst, arith, if◌then◌else◌}
use Rattle.std.specs.Prelude.{filter, reverse, take}
use Rattle.std.specs.List.{list_any}
use Rattle.std.proofs.lemmas.List.Folds.{list_any-append}
use Rattle.protocol.specs.declared.names.Case.{Case}
use Rattle.protocol.specs.declared.names.ProcessId.{ProcessId}
use Rattle.protocol.specs.declared.names.Ticket.{Ticket}
use Rattle.protocol.specs.declared.names.Txn.{Txn}
use Rattle.protocol.specs.declared.names.Presumption.TheVariants.{PresumeAbort, PresumeCommit}
use Rattle.protocol.specs.declared.records.Record.{Record}
use Rattle.protocol.specs.declared.standings.Standing.{Standing}
use Rattle.protocol.specs.declared.standings.Standing.TheVariants.{Unknown, Active, Collecting}
use Rattle.protocol.specs.declared.events.Conclusion.{Conclusion}
use Rattle.protocol.specs.declared.events.Conclusion.TheVariants.{ReadOnly}
use Rattle.protocol_words.specs.Variants.{ActInput, ConcludedAborted, ConcludedCommitted}
use Rattle.protocol.specs.declared.events.Told.{Told}
use Rattle.protocol.specs.declared.trees.TreeProcess.{TreeProcess}
use Rattle.protocol.specs.Names.{root_case, same_case, same_txn, same_ticket}
use Rattle.protocol.specs.NameLaws.{same_txn_tells}
use Rattle.protocol.specs.Records.{has, boot_of, is_reported}
use Rattle.protocol.specs.Nodes.{AtRoot, Place, Node, kept, Heard, Effect, entries_written, is_any_forced, after, fails_in, begun_first, told_first}
use Rattle.protocol.specs.Standings.{coordinator_view}
use Rattle.protocol.specs.CoordinatorRows.{Row}
use Rattle.protocol.specs.Reactions.{row_effect, told_of}
use Rattle.protocol.specs.Restarts.{is_undecided, reopens, restarted, restart_fails}
use Rattle.protocol.specs.Views.{root_place, next_begun}
use Rattle.proof_pairs.specs.readings.ReadingOf.{is_told_of_txn}
use Rattle.proof_pairs.specs.turns.CoordinatorTurns.{CaseTurn, rests, invites, accepts, sends_work, finds_nobody, asks_for_votes, gives_up, counts_vote, reads_only, commits, promises, hears_no, aborts, passes_commit, passes_abort, repeats_yes, asks, refuses, acknowledges, waits_for_acks, ends, clears, answers, CoordinatorTurn, does_nothing, of_case, begins, gives_again, gives_fresh, presumes}
use Rattle.proof_processes.specs.Lasts.{Logs}
use Rattle.proof_processes.proofs.RootCases.{IsRoots, InHistory, recorded, accepted, begun, told, found_undecided}
use Rattle.proof_processes.specs.WorldHolds.{is_record_of}
use Rattle.proof_processes.proofs.Tests.{either, both, right, has-reverse, in_either, in_front, case_is}
use Rattle.proof_processes.proofs.Appends.{either_logs}
use Rattle.proof_processes.proofs.RootKnown.{effect_roots}
use Rattle.proof_processes.proofs.RootNumbers.{roots_case}
use Rattle.proof_model.proofs.BeginLaws.{begun_next}
use Rattle.protocol.specs.Memory.{memory_of}
use Rattle.protocol.specs.Standings.{some_case}
use Rattle.protocol.specs.declared.names.Presumption.{Presumption}
use Rattle.protocol.specs.declared.events.Act.TheVariants.{Begin}
use Rattle.protocol.specs.declared.events.Input.{Input}

abbrev pub took : Case → Ticket → List (Case × Ticket) → Bool
took c t as' = list_any (λ a. same_case a.0 c && same_ticket a.1 t) as'

abbrev pub among : Txn → List Txn → Bool
among x ys = list_any (λ y. same_txn y x) ys

-- What an input adds.
pub data NewIn (e : Effect) (c : Case) : Type 0 where
  writes_of : has (is_record_of c) (entries_written e.written) ≡ true → NewIn e c
  accepts_into : (t : Ticket) → took c t e.accepts ≡ true → NewIn e c
  begins_it : (x : Txn) → c ≡ root_case x → among x (begun_first e.begun []) ≡ true → NewIn e c
  tells_of : (x : Txn) → c ≡ root_case x → list_any (is_told_of_txn x) (told_first e.told []) ≡ true
      → NewIn e c

pub after_life : (n : Node) (h : Heard) (e : Effect)
    → (after n h e).life ≡ reverse (entries_written e.written) ++ n.life
after_life n h e =
    let new = entries_written e.written in
    either_logs n new (is_any_forced e.written) (λ (l : Logs). l.life ≡ reverse new ++ n.life) (λ b. refl)
    (λ b. refl)

pub after_found : (n : Node) (h : Heard) (e : Effect) → (after n h e).found_undecided ≡ n.found_undecided
after_found n h e = by_force (is_any_forced e.written)
  where
    by_force : (b : Bool)
        → (if b
        then record n {
          forced = kept n ++ entries_written e.written;
          unforced = [];
          life = reverse (entries_written e.written) ++ n.life;
          durable = entries_written e.written ++ (kept n ++ n.durable);
        }
        else record n {
          unforced = n.unforced ++ entries_written e.written;
          life = reverse (entries_written e.written) ++ n.life;
        }).found_undecided
        ≡ n.found_undecided
    by_force true = refl
    by_force false = refl

module _ (n : Node) (h : Heard) (e : Effect) (c : Case) where
  begun_in : (x : Txn) (o : Option Txn) → among x (begun_first o n.begun) ≡ true
      → (among x (begun_first o []) ≡ true) ⊎ (among x n.begun ≡ true)
  begun_in x None f = inr f
  begun_in x (Some y) f = elim (either (same_txn y x) (among x n.begun) f) [
    | inl now ↦ inl (rw now refl)
    | inr before ↦ inr before
  ]

  told_in : (x : Txn) (o : Option Told) → list_any (is_told_of_txn x) (told_first o n.told) ≡ true
      → (list_any (is_told_of_txn x) (told_first o []) ≡ true) ⊎ (list_any (is_told_of_txn x) n.told ≡ true)
  told_in x None f = inr f
  told_in x (Some y) f = elim (either (is_told_of_txn x y) (list_any (is_told_of_txn x) n.told) f) [
    | inl now ↦ inl (rw now refl)
    | inr before ↦ inr before
  ]

  life_in : (new : List Record) → has (is_record_of c) (reverse new ++ n.life) ≡ true
      → (has (is_record_of c) new ≡ true) ⊎ (has (is_record_of c) n.life ≡ true)
  life_in new f = elim (in_either (is_record_of c) (reverse new) n.life f) [
    | inl now ↦ inl (sym (has-reverse (is_record_of c) new) ∙ now)
    | inr before ↦ inr before
  ]

  accepted_in : (t : Ticket) → took c t (e.accepts ++ n.accepted) ≡ true
      → (took c t e.accepts ≡ true) ⊎ (took c t n.accepted ≡ true)
  accepted_in t f = either _ _ (sym (list_any-append _ e.accepts n.accepted) ∙ f)

  or_new : (new : List Record) → ((r : has (is_record_of c) new ≡ true) → NewIn e c) → (k : Node)
      → k.life ≡ reverse new ++ n.life → k.accepted ≡ e.accepts ++ n.accepted
      → k.begun ≡ begun_first e.begun n.begun
      → ((x : Txn) → list_any (is_told_of_txn x) k.told ≡ true
      → (list_any (is_told_of_txn x) (told_first e.told []) ≡ true)
      ⊎ (list_any (is_told_of_txn x) n.told ≡ true))
      → k.found_undecided ≡ n.found_undecided → InHistory k c → InHistory n c ⊎ NewIn e c
  or_new new f k l a b t u (recorded g) = elim (life_in new (ap (has (is_record_of c)) (sym l) ∙ g)) [
    | inl now ↦ inr (f now)
    | inr before ↦ inl (recorded before)
  ]
  or_new new f k l a b t u (accepted s g) = elim (accepted_in s (ap (took c s) (sym a) ∙ g)) [
    | inl now ↦ inr (accepts_into s now)
    | inr before ↦ inl (accepted s before)
  ]
  or_new new f k l a b t u (begun x i g) = elim (begun_in x e.begun (ap (among x) (sym b) ∙ g)) [
    | inl now ↦ inr (begins_it x i now)
    | inr before ↦ inl (begun x i before)
  ]
  or_new new f k l a b t u (told x i g) = elim (t x g) [
    | inl now ↦ inr (tells_of x i now)
    | inr before ↦ inl (told x i before)
  ]
  or_new new f k l a b t u (found_undecided x i g) = inl (found_undecided x i (ap (among x) (sym u) ∙ g))

  pub after_history : InHistory (after n h e) c → InHistory n c ⊎ NewIn e c
  after_history =
      or_new (entries_written e.written) (λ r. writes_of r) (after n h e) (after_life n h e) refl refl
      (λ x g. told_in x e.told g) (after_found n h e)

  pub fails_history : (a f : ℕ) → InHistory (fails_in n h e a f) c → InHistory n c ⊎ NewIn e c
  fails_history a f =
      let new = entries_written e.written in
      or_new (take a new) (λ r. writes_of (in_front (is_record_of c) a new r))
      (fails_in n h e a f) refl refl refl
      (λ x g. inr g) refl

-- A restart adds what it appends; it finds undecided what was begun.

among_filtered : (x : Txn) (f : Txn → Bool) (ys : List Txn) → among x (filter f ys) ≡ true → among x ys ≡ true
among_filtered x f [] e = e
among_filtered x f (y ∷ ys) e = by_test (f y) e (among_filtered x f ys)
  where
    by_test : (b : Bool) → among x (if b then y ∷ filter f ys else filter f ys) ≡ true
        → (among x (filter f ys) ≡ true → among x ys ≡ true) → (same_txn y x || among x ys) ≡ true
    by_test true g k = elim (either (same_txn y x) (among x (filter f ys)) g) [
      | inl now ↦ rw now refl
      | inr rest ↦ right (same_txn y x) (among x ys) (k rest)
    ]
    by_test false g k = right (same_txn y x) (among x ys) (k g)

module _ (me : ProcessId) (tree : List TreeProcess) (n : Node) (k : ℕ) (c : Case) where
  abbrev place : Place
  place = root_place me tree

  abbrev left : List Record
  left = n.forced ++ take k n.unforced

  or_reopened : (new : List Record) (m : Node) → m.life ≡ reverse new ++ n.life → m.accepted ≡ n.accepted
      → m.begun ≡ n.begun → m.told ≡ n.told
      → m.found_undecided ≡ filter (is_undecided n left) n.begun ++ n.found_undecided
      → InHistory m c → InHistory n c ⊎ (has (is_record_of c) new ≡ true)
  or_reopened new m l a b t u (recorded g) =
      elim (in_either (is_record_of c) (reverse new) n.life (ap (has (is_record_of c)) (sym l) ∙ g)) [
        | inl now ↦ inr (sym (has-reverse (is_record_of c) new) ∙ now)
        | inr before ↦ inl (recorded before)
      ]
  or_reopened new m l a b t u (accepted s g) = inl (accepted s (ap (took c s) (sym a) ∙ g))
  or_reopened new m l a b t u (begun x i g) = inl (begun x i (ap (among x) (sym b) ∙ g))
  or_reopened new m l a b t u (told x i g) = inl (told x i (ap (list_any (is_told_of_txn x)) (sym t) ∙ g))
  or_reopened new m l a b t u (found_undecided x i g) =
      elim (either _ _ (sym (list_any-append _ (filter (is_undecided n left) n.begun) n.found_undecided)
      ∙ (ap (among x) (sym u) ∙ g))) [
        | inl now ↦ inl (begun x i (among_filtered x (is_undecided n left) n.begun now))
        | inr before ↦ inl (found_undecided x i before)
      ]

  pub reopened_history : InHistory (restarted (root_place me tree) n k) c
      → InHistory n c ⊎ (has (is_record_of c) (reopens AtRoot (n.forced ++ take k n.unforced)) ≡ true)
  reopened_history = or_reopened (reopens AtRoot left) (restarted place n k) refl refl refl refl refl

  pub reopening_history : (a f : ℕ) → InHistory (restart_fails (root_place me tree) n k a f) c
      → InHistory n c ⊎ (has (is_record_of c) (reopens AtRoot (n.forced ++ take k n.unforced)) ≡ true)
  reopening_history a f g =
      elim (or_reopened (take a (reopens AtRoot left))
      (restart_fails place n k a f) refl refl refl refl refl g) [
        | inl before ↦ inl before
        | inr now ↦ inr (in_front (is_record_of c) a (reopens AtRoot left) now)
      ]

-- the histories are the same but for the life list, which has no more records of cases
pub same_history : (n m : Node) (c : Case) → (has (is_record_of c) m.life ≡ true
    → has (is_record_of c) n.life ≡ true)
    → m.accepted ≡ n.accepted → m.begun ≡ n.begun → m.told ≡ n.told → m.found_undecided ≡ n.found_undecided
    → InHistory m c → InHistory n c
same_history n m c l a b t u (recorded g) = recorded (l g)
same_history n m c l a b t u (accepted s g) = accepted s (ap (took c s) (sym a) ∙ g)
same_history n m c l a b t u (begun x i g) = begun x i (ap (among x) (sym b) ∙ g)
same_history n m c l a b t u (told x i g) = told x i (ap (list_any (is_told_of_txn x)) (sym t) ∙ g)
same_history n m c l a b t u (found_undecided x i g) = found_undecided x i (ap (among x) (sym u) ∙ g)

-- What a turn adds is of a case that is known, or of the transaction that begins.

module _ (place : Place) (n : Node) (h : Heard) (A : Case → Type 0)
    (own : (c : Case) → (coordinator_view place n c).standing ≢ Unknown → A c)
    (unticketed : (c : Case) → (coordinator_view place n c).standing ≢ Unknown → c.ticket ≡ None)
  where
    as_known : (c : Case) (st : Standing) → (coordinator_view place n c).standing ≡ st → (st ≡ Unknown → ⊥)
        → A c
    as_known c st e f = own c (λ g. f (sym e ∙ g))

    or_nothing : (x : Bool) → (x || false) ≡ true → x ≡ true
    or_nothing x f = grind arith

    row_accepts : (c d : Case) (t : Ticket) (row : Row) → CaseTurn place None n h c row
        → took d t (row_effect c row).accepts ≡ true
        → A d
    row_accepts c d t _ (accepts u i e f) g =
        subst A
        (case_is c d (both (same_case c d) (same_ticket u t) (or_nothing _ g)).0)
        (as_known c Active e (λ x. cc))
    row_accepts c d t _ (rests r) g = absurd (cc)
    row_accepts c d t _ (invites q i e f a) g = absurd (cc)
    row_accepts c d t _ (sends_work q u op i e f a) g = absurd (cc)
    row_accepts c d t _ (finds_nobody i e f) g = absurd (cc)
    row_accepts c d t _ (asks_for_votes PresumeAbort i e f a) g = absurd (cc)
    row_accepts c d t _ (asks_for_votes PresumeCommit i e f a) g = absurd (cc)
    row_accepts c d t _ (gives_up why p i e f) g = absurd (cc)
    row_accepts c d t _ (counts_vote u w i f e) g = absurd (cc)
    row_accepts c d t _ (reads_only u w ys p i e f) g = absurd (cc)
    row_accepts c d t _ (commits u w ys PresumeAbort i e f a) g = absurd (cc)
    row_accepts c d t _ (commits u w ys PresumeCommit i e f a) g = absurd (cc)
    row_accepts c d t _ (promises u w ys p i e f) g = absurd (cc)
    row_accepts c d t _ (hears_no u us PresumeAbort i e f) g = absurd (cc)
    row_accepts c d t _ (hears_no u us PresumeCommit i e f) g = absurd (cc)
    row_accepts c d t _ (aborts why us PresumeAbort i e f a) g = absurd (cc)
    row_accepts c d t _ (aborts why us PresumeCommit i e f a) g = absurd (cc)
    row_accepts c d t _ (passes_commit p i e f) g = absurd (let x = i.is_parent in cc)
    row_accepts c d t _ (passes_abort p i e f) g = absurd (let x = i.is_parent in cc)
    row_accepts c d t _ (repeats_yes j i e) g = absurd (cc)
    row_accepts c d t _ (asks i e) g = absurd (cc)
    row_accepts c d t _ (refuses j i e) g = absurd (cc)
    row_accepts c d t _ (acknowledges o fs i e) g = absurd (cc)
    row_accepts c d t _ (waits_for_acks u o fs i e f a) g = absurd (cc)
    row_accepts c d t _ (ends u o fs i e f a) g = absurd (cc)
    row_accepts c d t _ (clears i e f a) g = absurd (cc)
    row_accepts c d t _ (answers u o i e) g = absurd (cc)

    abbrev Tells : Txn → Effect → Type 0
    Tells x e = list_any (is_told_of_txn x) (told_first e.told []) ≡ true

    -- what is told of the case, if anything is
    told_so : (c : Case) (x : Txn) (a : Conclusion) (st : Standing)
        → (coordinator_view place n c).standing ≡ st
        → (st ≡ Unknown → ⊥) → list_any (is_told_of_txn x) (told_first (told_of c.txn (Some a)) []) ≡ true
        → A (root_case x)
    told_so c x a st e f g =
        subst (λ (o : Option Ticket). A (record { txn = x; ticket = o })) (unticketed c (λ y. f (sym e ∙ y)))
        (subst (λ (y : Txn). A (record { txn = y; ticket = c.ticket })) (txn_is c.txn x (or_nothing _ g))
        (as_known c st e f))
      where
        txn_is : (y z : Txn) → same_txn y z ≡ true → y ≡ z
        txn_is y z f = elim (same_txn_tells y z) [ inl t ↦ t.1 | inr u ↦ absurd (let v = u.0 in cc) ]

    row_tells : (c : Case) (x : Txn) (row : Row) → CaseTurn place None n h c row → Tells x (row_effect c row)
        → A (root_case x)
    row_tells c x _ (finds_nobody i e f) g = told_so c x ReadOnly Active e (λ y. cc) g
    row_tells c x _ (gives_up why p i e f) g = told_so c x ConcludedAborted Active e (λ y. cc) g
    row_tells c x _ (reads_only u w ys p i e f) g = told_so c x ReadOnly Collecting i.vote.stands (λ y. cc) g
    row_tells c x _ (commits u w ys PresumeAbort i e f a) g =
        told_so c x ConcludedCommitted Collecting i.vote.stands (λ y. cc) g
    row_tells c x _ (commits u w ys PresumeCommit i e f a) g =
        told_so c x ConcludedCommitted Collecting i.vote.stands (λ y. cc) g
    row_tells c x _ (hears_no u us PresumeAbort i e f) g =
        told_so c x ConcludedAborted Collecting i.stands (λ y. cc) g
    row_tells c x _ (hears_no u us PresumeCommit i e f) g =
        told_so c x ConcludedAborted Collecting i.stands (λ y. cc) g
    row_tells c x _ (aborts why us PresumeAbort i e f a) g =
        told_so c x ConcludedAborted Collecting e (λ y. cc) g
    row_tells c x _ (aborts why us PresumeCommit i e f a) g =
        told_so c x ConcludedAborted Collecting e (λ y. cc) g
    row_tells c x _ (accepts u i e f) g = absurd (cc)
    row_tells c x _ (rests r) g = absurd (cc)
    row_tells c x _ (invites q i e f a) g = absurd (cc)
    row_tells c x _ (sends_work q u op i e f a) g = absurd (cc)
    row_tells c x _ (asks_for_votes PresumeAbort i e f a) g = absurd (cc)
    row_tells c x _ (asks_for_votes PresumeCommit i e f a) g = absurd (cc)
    row_tells c x _ (counts_vote u w i f e) g = absurd (cc)
    row_tells c x _ (promises u w ys p i e f) g = absurd (cc)
    row_tells c x _ (passes_commit p i e f) g = absurd (let y = i.is_parent in cc)
    row_tells c x _ (passes_abort p i e f) g = absurd (let y = i.is_parent in cc)
    row_tells c x _ (repeats_yes j i e) g = absurd (cc)
    row_tells c x _ (asks i e) g = absurd (cc)
    row_tells c x _ (refuses j i e) g = absurd (cc)
    row_tells c x _ (acknowledges o fs i e) g = absurd (cc)
    row_tells c x _ (waits_for_acks u o fs i e f a) g = absurd (cc)
    row_tells c x _ (ends u o fs i e f a) g = absurd (cc)
    row_tells c x _ (clears i e f a) g = absurd (cc)
    row_tells c x _ (answers u o i e) g = absurd (cc)

    pub effect_accepts : (e : Effect) → CoordinatorTurn place None n h e → (d : Case) (t : Ticket)
        → took d t e.accepts ≡ true → A d
    effect_accepts _ (of_case c row r) d t g = row_accepts c d t row r g
    effect_accepts _ (does_nothing i) d t g = absurd (cc)
    effect_accepts _ (begins p e i) d t g = absurd (cc)
    effect_accepts _ (gives_again p y u e i a) d t g = absurd (cc)
    effect_accepts _ (gives_fresh p y e i a) d t g = absurd (cc)
    effect_accepts _ (presumes y u i e) d t g = absurd (cc)

    pub effect_tells : (e : Effect) → CoordinatorTurn place None n h e → (x : Txn) → Tells x e
        → A (root_case x)
    effect_tells _ (of_case c row r) x g = row_tells c x row r g
    effect_tells _ (does_nothing i) x g = absurd (cc)
    effect_tells _ (begins p e i) x g = absurd (cc)
    effect_tells _ (gives_again p y u e i a) x g = absurd (cc)
    effect_tells _ (gives_fresh p y e i a) x g = absurd (cc)
    effect_tells _ (presumes y u i e) x g = absurd (cc)

-- the transaction that begins has the next number
begins_next : (me : ProcessId) (tree : List TreeProcess) (n : Node) (h : Heard) (p : Presumption) (x : Txn)
    → h.input ≡ ActInput (Begin p) → among x (next_begun (root_place me tree) n p ∷ []) ≡ true
    → IsRoots me (boot_of (kept n))
    (begun_next (memory_of (root_place me tree) n (some_case (root_place me tree))).begun h.input)
    (root_case x)
begins_next me tree n h p x i g =
    let count = (memory_of (root_place me tree) n (some_case (root_place me tree))).begun in
    subst (λ (j : Input). IsRoots me (boot_of (kept n)) (begun_next count j) (root_case x)) (sym i)
    (subst (λ (y : Txn). IsRoots me (boot_of (kept n)) (count + 1) (root_case y))
    (txn_is (next_begun (root_place me tree) n p) x (or_nothing _ g))
    (record {
      no_ticket = refl;
      own = refl;
      counted = one_at_least count;
      number = inr (refl, whole (count + 1));
    }))
  where
    or_nothing : (b : Bool) → (b || false) ≡ true → b ≡ true
    or_nothing b f = grind arith

    whole : (k : ℕ) → k ≤ k
    whole k = omega arith

    one_at_least : (k : ℕ) → 1 ≤ k + 1
    one_at_least k = omega arith

    txn_is : (y z : Txn) → same_txn y z ≡ true → y ≡ z
    txn_is y z f = elim (same_txn_tells y z) [ inl t ↦ t.1 | inr u ↦ absurd (let v = u.0 in cc) ]

-- so all that an input adds is of the root's cases
module _ (me : ProcessId) (tree : List TreeProcess) (n : Node) (h : Heard) where
  abbrev next : ℕ
  next = begun_next (memory_of (root_place me tree) n (some_case (root_place me tree))).begun h.input

  begun_new : (e : Effect) → CoordinatorTurn (root_place me tree) None n h e → (x : Txn)
      → among x (begun_first e.begun []) ≡ true → IsRoots me (boot_of (kept n)) next (root_case x)
  begun_new _ (begins p e i) x g = begins_next me tree n h p x i g
  begun_new _ (of_case c row r) x g = absurd (cc)
  begun_new _ (does_nothing i) x g = absurd (cc)
  begun_new _ (gives_again p y u e i a) x g = absurd (cc)
  begun_new _ (gives_fresh p y e i a) x g = absurd (cc)
  begun_new _ (presumes y u i e) x g = absurd (cc)

  pub effect_new : ((c : Case) → (coordinator_view (root_place me tree) n c).standing ≢ Unknown
      → IsRoots me (boot_of (kept n))
      (begun_next (memory_of (root_place me tree) n (some_case (root_place me tree))).begun h.input) c)
      → ((c : Case) → is_reported (kept n) c ≡ true → IsRoots me (boot_of (kept n))
      (begun_next (memory_of (root_place me tree) n (some_case (root_place me tree))).begun h.input) c)
      → (e : Effect) → CoordinatorTurn (root_place me tree) None n h e → (c : Case) → NewIn e c
      → IsRoots me (boot_of (kept n))
      (begun_next (memory_of (root_place me tree) n (some_case (root_place me tree))).begun h.input) c
  effect_new own reported e t c (writes_of g) =
      let b = boot_of (kept n) in
      roots_case me b next c (entries_written e.written) g
      (effect_roots (root_place me tree) n h me b next own reported e t)
  effect_new own reported e t c (accepts_into u g) =
      effect_accepts (root_place me tree) n h (IsRoots me (boot_of (kept n)) next) own
      (λ d k. (own d k).no_ticket) e t
      c u g
  effect_new own reported e t c (begins_it x i g) =
      subst (λ (d : Case). IsRoots me (boot_of (kept n)) next d) (sym i) (begun_new e t x g)
  effect_new own reported e t c (tells_of x i g) =
      subst (λ (d : Case). IsRoots me (boot_of (kept n)) next d) (sym i)
      (effect_tells (root_place me tree) n h (IsRoots me (boot_of (kept n)) next) own
      (λ d k. (own d k).no_ticket) e t
      x g)
