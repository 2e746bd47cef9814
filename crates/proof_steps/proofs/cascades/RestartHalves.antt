-- What a restart makes of a cascaded coordinator's half, and the readings: the log is cut to a front, and a
-- case that was
-- collecting votes is aborted.
use Rattle.std.proofs.Common.{◌≡◌, ◌∙◌, inl, inr, ◌||◌, ◌&&◌, ◌+◌, ℕ, Bool, true, false, List, [], ◌∷◌, ◌++◌, take, drop, append_assoc, refl, sym, ap, subst, arith}
use Rattle.std.specs.Prelude.{not, reverse}
use Rattle.std.specs.List.{flat_map}
use Rattle.std.proofs.lemmas.List.{take-append-drop}
use Rattle.protocol.specs.declared.names.Case.{Case}
use Rattle.protocol.specs.declared.names.ProcessId.{ProcessId}
use Rattle.protocol.specs.declared.records.Record.{Record}
use Rattle.protocol.specs.declared.records.Record.TheVariants.{Opened}
use Rattle.protocol.specs.declared.standings.Standing.{Standing}
use Rattle.protocol.specs.declared.standings.Standing.TheVariants.{Unknown, Active, Collecting, Prepared, Committing, Aborting, Heuristic}
use Rattle.protocol.specs.declared.trees.TreeProcess.{TreeProcess}
use Rattle.protocol.specs.Names.{same_case}
use Rattle.protocol.specs.Records.{boot_of, cases_in, has, is_abort, is_commit, is_prepare}
use Rattle.protocol.specs.Nodes.{Below, Node, Place, kept}
use Rattle.protocol.specs.Outcomes.{follows}
use Rattle.protocol.specs.Restarts.{aborts_collecting, coordinator_reopens, left_of, recorded_view, restart_abort, restart_fails, restarted}
use Rattle.protocol.specs.Standings.{CoordinatorView}
use Rattle.proof_pairs.specs.ChildCrash
use Rattle.proof_pairs.specs.Reading.{Reading}
use Rattle.proof_pairs.specs.readings.ReadingOf.{ParentHalf, Wire, is_dead, reading_from}
use Rattle.proof_pairs.proofs.readings.LeafCrash.{QuietWhileOpen}
use Rattle.proof_processes.proofs.Appends.{breaks_keeps, loses}
use Rattle.proof_processes.specs.Lasts.{logs_of}
use Rattle.proof_processes.proofs.GivenCases.{same_of}
use Rattle.proof_processes.proofs.Tests.{has-append, has-cons, has-nil, has-reverse, in_either, not_both}
use Rattle.proof_steps.proofs.cascades.Ends.{none_reopens, none_taken}
use Rattle.proof_steps.proofs.cascades.Fails.{OwnFront, as_front, front_of}
use Rattle.proof_steps.proofs.cascades.Halves.{OwnHalf, as_child, own_half_at}

or-false : (a : Bool) → (a || false) ≡ a
or-false a = grind arith

and-false : (a : Bool) → (a && false) ≡ false
and-false a = grind arith

or_swap : (a b : Bool) → (a || b) ≡ (b || a)
or_swap a b = grind arith

-- what was appended in front of a history, where none of it passes the second test
follows_more : (q r : Record → Bool) (xs l : List Record) → has r xs ≡ false
    → follows q r (xs ++ l) ≡ ((has q xs && has r l) || follows q r l)
unfolding has
follows_more q r [] l e = refl
follows_more q r (x ∷ xs) l e =
    step (q x) (has q xs) (has r (xs ++ l)) (has r l) (follows q r (xs ++ l)) (follows q r l)
    (has-append r xs l ∙ ap (λ b. b || has r l) (second_false (r x) (has r xs) e))
    (follows_more q r xs l (second_false (r x) (has r xs) e))
  where
    second_false : (a b : Bool) → (a || b) ≡ false → b ≡ false
    second_false a b e = grind arith

    step : (a b c d f g : Bool) → c ≡ d → f ≡ ((b && d) || g) → ((a && c) || f) ≡ (((a || b) && d) || g)
    step a b c d f g e h = grind arith

-- The process restarted, or its device failed in the restart: this front was left, that one is forced;
-- perhaps an Abort
-- was appended, in a case that had promised or not.
abbrev pub restarted_own : Bool → OwnFront → OwnFront → Bool → Bool → OwnHalf → OwnHalf
restarted_own failed left forced aborted promised q = record q {
  failed = failed;
  is_open = false;
  obeyed_abort = (aborted && promised) || q.obeyed_abort;
  prepare_kept = left.prepare;
  prepare_forced = forced.prepare;
  prepare_ever = forced.prepare || q.prepare_ever;
  commit_kept = left.commit;
  commit_forced = forced.commit;
  abort_kept = left.abort || aborted;
  abort_forced = forced.abort;
}

module _ (me p : ProcessId) (tree : List TreeProcess) (n : Node) (j : ℕ) (d : Case) where
  abbrev place : Place
  place = record { me = me; role = Below p; tree = tree }

  abbrev left : List Record
  left = left_of n j

  abbrev new : List Record
  new = coordinator_reopens left

  no_promise : has (is_prepare d) (coordinator_reopens (left_of n j)) ≡ false
  no_promise = none_reopens (is_prepare d) (λ i. refl) (λ x ts. refl) left

  no_commit : has (is_commit d) (coordinator_reopens (left_of n j)) ≡ false
  no_commit = none_reopens (is_commit d) (λ i. refl) (λ x ts. refl) left

  no_promise_in : (a : ℕ) → has (is_prepare d) (take a (coordinator_reopens (left_of n j))) ≡ false
  no_promise_in a = none_taken (is_prepare d) (λ i. refl) (λ x ts. refl) a left

  no_commit_in : (a : ℕ) → has (is_commit d) (take a (coordinator_reopens (left_of n j))) ≡ false
  no_commit_in a = none_taken (is_commit d) (λ i. refl) (λ x ts. refl) a left

  with_nil : (q : Record → Bool) (xs : List Record) → has q (xs ++ []) ≡ has q xs
  with_nil q xs = has-append q xs [] ∙ (ap (λ b. has q xs || b) (has-nil q) ∙ or-false (has q xs))

  -- what stands then
  all_kept : (q : Record → Bool) (ys : List Record) → has q ys ≡ false → has q (left_of n j ++ ys)
      ≡ has q (left_of n j)
  all_kept q ys none = has-append q left ys ∙ (ap (λ b. has q left || b) none ∙ or-false (has q left))

  before_life : (q : Record → Bool) (ys : List Record) → has q ys ≡ false
      → has q (reverse ys ++ n.life) ≡ has q n.life
  before_life q ys none = has-append q (reverse ys) n.life
      ∙ ap (λ b. b || has q n.life) (has-reverse q ys ∙ none)

  life_follows : (ys : List Record) → has (is_prepare d) ys ≡ false
      → follows (is_abort d) (is_prepare d) (reverse ys ++ n.life)
      ≡ ((has (is_abort d) ys && has (is_prepare d) n.life) || follows (is_abort d) (is_prepare d) n.life)
  life_follows ys none =
      follows_more (is_abort d) (is_prepare d) (reverse ys) n.life (has-reverse (is_prepare d) ys ∙ none)
      ∙ ap (λ b. (b && has (is_prepare d) n.life) || follows (is_abort d) (is_prepare d) n.life)
      (has-reverse (is_abort d) ys)

  ever_then : has (is_prepare d) (coordinator_reopens (left_of n j) ++ (left_of n j ++ n.durable))
      ≡ (has (is_prepare d) (left_of n j) || has (is_prepare d) n.durable)
  ever_then = has-append (is_prepare d) new (left ++ n.durable)
      ∙ (ap (λ b. b || has (is_prepare d) (left ++ n.durable)) no_promise
      ∙ has-append (is_prepare d) left n.durable)

  pub half_restarts : (o : Bool) → own_half_at false (restarted place n j) d
      ≡ restarted_own false (front_of d (left_of n j))
      (record {
        prepare = has (is_prepare d) (left_of n j);
        commit = has (is_commit d) (left_of n j);
        abort = has (is_abort d) (left_of n j) || has (is_abort d) (coordinator_reopens (left_of n j));
      })
      (has (is_abort d) (coordinator_reopens (left_of n j))) (has (is_prepare d) n.life) (own_half_at o n d)
  half_restarts o =
      rw (
        life_follows new no_promise,
        before_life (is_commit d) new no_commit,
        with_nil (is_prepare d) (left ++ new),
        with_nil (is_commit d) (left ++ new),
        with_nil (is_abort d) (left ++ new),
        all_kept (is_prepare d) new no_promise,
        all_kept (is_commit d) new no_commit,
        has-append (is_abort d) left new,
        ever_then,
      ) refl

  pub left_whole : (left_of n j ++ drop j n.unforced) ≡ kept n
  left_whole = append_assoc n.forced (take j n.unforced) (drop j n.unforced)
      ∙ ap (λ l. n.forced ++ l) (take-append-drop j n.unforced)

  known : (a b e : Bool) → (a ≡ true → e ≡ true) → (b || e) ≡ ((a || b) || e)
  known a b e f = grind arith

  module _ (a f : ℕ) where
    abbrev broken : Node
    broken = restart_fails (record { me = me; role = Below p; tree = tree }) n j a f

    abbrev behind : List Record
    behind = take j n.unforced ++ take a (coordinator_reopens (left_of n j))

    kept_broken : kept broken ≡ left_of n j ++ take a (coordinator_reopens (left_of n j))
    kept_broken = breaks_keeps (loses (logs_of n) j) new a f

    pub half_breaks : (o : Bool) → (has (is_prepare d) n.forced ≡ true → has (is_prepare d) n.durable ≡ true)
        → own_half_at false (restart_fails place n j a f) d
        ≡ restarted_own true (front_of d (left_of n j)) (front_of d (restart_fails place n j a f).forced)
        (has (is_abort d) (take a (coordinator_reopens (left_of n j)))) (has (is_prepare d) n.life)
        (own_half_at o n d)
    half_breaks o old =
        rw (
          kept_broken,
          life_follows (take a new) (no_promise_in a),
          before_life (is_commit d) (take a new) (no_commit_in a),
          all_kept (is_prepare d) (take a new) (no_promise_in a),
          all_kept (is_commit d) (take a new) (no_commit_in a),
          has-append (is_abort d) left (take a new),
          has-append (is_prepare d) (take f behind) n.durable
              ∙ (known (has (is_prepare d) n.forced) (has (is_prepare d) (take f behind))
              (has (is_prepare d) n.durable) old
              ∙ ap (λ b. b || has (is_prepare d) n.durable)
              (sym (has-append (is_prepare d) n.forced (take f behind)))),
        ) refl

-- The Abort of a restart.

module _ (d : Case) (rs : List Record) where
  one_aborted : (x : Case) (v : CoordinatorView) (s : Standing) → (recorded_view rs x).standing ≡ s
      → has (is_abort d) (restart_abort x v s) ≡ true → (recorded_view rs d).standing ≡ Collecting
  unfolding has
  one_aborted x v Collecting e f =
      subst (λ (z : Case). (recorded_view rs z).standing ≡ Collecting)
      (same_of x d (last (same_case x d) f)) e
    where
      last : (b : Bool) → (b || false) ≡ true → b ≡ true
      last b e = grind arith
  one_aborted x v Unknown e f = absurd (cc)
  one_aborted x v Active e f = absurd (cc)
  one_aborted x v Prepared e f = absurd (cc)
  one_aborted x v Committing e f = absurd (cc)
  one_aborted x v Aborting e f = absurd (cc)
  one_aborted x v Heuristic e f = absurd (cc)

  aborted_by : (cs : List Case) → has (is_abort d) (flat_map (aborts_collecting rs) cs) ≡ true
      → (recorded_view rs d).standing ≡ Collecting
  aborted_by [] e = not_both (is_abort d) (has (is_abort d) []) e (has-nil (is_abort d))
  aborted_by (x ∷ cs) e = elim (in_either (is_abort d) (aborts_collecting rs x)
      (flat_map (aborts_collecting rs) cs) e) [
        | inl now ↦ one_aborted x (recorded_view rs x) (recorded_view rs x).standing refl now
        | inr rest ↦ aborted_by cs rest
      ]

  -- it aborts a case that was collecting votes
  pub aborted_collects : has (is_abort d) (coordinator_reopens rs) ≡ true → (recorded_view rs d).standing
      ≡ Collecting
  aborted_collects e =
      aborted_by (cases_in rs)
      (sym (has-cons (is_abort d) (Opened (boot_of rs + 1)) (flat_map (aborts_collecting rs) (cases_in rs)))
      ∙ e)

-- Readings.

-- an Abort after a promise is of a promise that was lost
abbrev pub IsLost : (aborted promised left ever issued read : Bool) → Type 0
IsLost aborted promised left ever issued read = (aborted && promised) ≡ true
    → (left ≡ false) × ((ever ≡ false) × ((issued ≡ true) × (read ≡ false)))

refused-loses : (a b o p e f g n i r : Bool) → QuietWhileOpen n i p e r → (f ≡ true → p ≡ true)
    → (p ≡ true → e ≡ true → f ≡ true) → (p ≡ true → (i ≡ true) × (r ≡ false)) → (g ≡ true → f ≡ true)
    → IsLost a b f e i r
    → (((a && b) || o) || is_dead (f || (g || e)) false i r)
    ≡ (((i && n) || (p && not f)) || (o || is_dead (p || e) n i r))
unfolding is_dead
refused-loses a b o p e f g n i r quiet sub once asked within lost = grind arith

aborted_apart : (l a f : Bool) → (a ≡ true → f ≡ false) → ((l || a) && f) ≡ (l && f)
aborted_apart l a f e = grind arith

module _ (root outcome above : Bool) (h : ParentHalf) (q : OwnHalf) (v : Wire) (left forced : OwnFront)
    (aborted promised : Bool)
    (quiet : QuietWhileOpen q.is_open v.issued q.prepare_kept q.prepare_ever v.read)
    (sub : left.prepare ≡ true → q.prepare_kept ≡ true)
    (once : q.prepare_kept ≡ true → q.prepare_ever ≡ true → left.prepare ≡ true)
    (asked : q.prepare_kept ≡ true → (v.issued ≡ true) × (v.read ≡ false))
    (lost : IsLost aborted promised left.prepare q.prepare_ever v.issued v.read)
    (apart : aborted ≡ true → left.prepare ≡ false) where
  abbrev R : OwnHalf → Wire → Reading
  R x w = reading_from root false outcome above h (as_child x) w

  pub reading-restarts : R (restarted_own false left
      (record { prepare = left.prepare; commit = left.commit; abort = left.abort || aborted }) aborted
      promised q)
      (record v {
        inquire = (left.prepare && not left.commit && not
            (left.abort && left.prepare) && not false) || v.inquire;
      })
      ≡ ChildCrash.child_restarts (as_front left) (R q v)
  reading-restarts =
      rw (
        and-false v.issued,
        refused-loses aborted promised q.obeyed_abort q.prepare_kept q.prepare_ever left.prepare
            left.prepare q.is_open
            v.issued v.read quiet sub once asked (λ e. e) lost,
        aborted_apart left.abort aborted left.prepare apart,
      )

  pub reading-loses : (forced.prepare ≡ true → left.prepare ≡ true)
      → R (restarted_own true left forced aborted promised q) v
      ≡ ChildCrash.hardens_failed_child (as_front forced) (ChildCrash.child_loses (as_front left) (R q v))
  reading-loses within =
      rw (
        and-false v.issued,
        refused-loses aborted promised q.obeyed_abort q.prepare_kept q.prepare_ever left.prepare
            forced.prepare q.is_open
            v.issued v.read quiet sub once asked within lost,
        aborted_apart left.abort aborted left.prepare apart,
      )
