-- A cascaded coordinator's rows on readings of its pairs above: halves and wires as variables.
use Rattle.std.proofs.Common.{◌≡◌, Bool, true, false, ◌||◌, ◌&&◌, refl, arith}
use Rattle.proof_pairs.specs.Reading.{Reading}
use Rattle.proof_pairs.specs.ChildMoves
use Rattle.proof_pairs.specs.readings.ReadingOf.{reading_from, ParentHalf, Wire, is_dead}
use Rattle.proof_steps.proofs.cascades.Halves.{OwnHalf, aborts, as_child, commits, hardens, promises, stands_so}

and-false : (a : Bool) → (a && false) ≡ false
and-false a = grind arith

or-false : (a : Bool) → (a || false) ≡ a
or-false a = grind arith

or-true : (a : Bool) → (a || true) ≡ true
or-true a = grind arith

or_twice : (a b : Bool) → (a || (a || b)) ≡ (a || b)
or_twice a b = grind arith

dead-live : (a b c : Bool) → is_dead a true b c ≡ false
unfolding is_dead
dead-live true b c = refl
dead-live false b c = refl

dead-promised : (a b c : Bool) → is_dead true a b c ≡ false
unfolding is_dead
dead-promised a b c = refl

dead-read : (a b : Bool) → is_dead a false b true ≡ false
unfolding is_dead
dead-read true b = refl
dead-read false true = refl
dead-read false false = refl

dead-now : is_dead false false true false ≡ true
unfolding is_dead
dead-now = refl

dead-unissued : (a b c : Bool) → is_dead a b false c ≡ false
unfolding is_dead
dead-unissued true b c = refl
dead-unissued false true c = refl
dead-unissued false false c = refl

module _ (root outcome above : Bool) (p : ParentHalf) (q : OwnHalf) (v : Wire) where
  abbrev R : OwnHalf → Wire → Reading
  R h w = reading_from root false outcome above p (as_child h) w

  pub reading-hardened : R (hardens q) v ≡ ChildMoves.hardens_child (R q v)
  reading-hardened = simp (or_twice)

  pub reading-closed : q.is_open ≡ false → R (stands_so false q) v ≡ R q v
  reading-closed e = rw e refl

  pub reading-unissued : (o : Bool) → v.issued ≡ false → R (stands_so o q) v ≡ R q v
  reading-unissued o e = rw e (simp (dead-unissued))

  pub reading-issued : v.issued ≡ false
      → R (stands_so true q) (record v { issued = true }) ≡ ChildMoves.issues (R q v)
  reading-issued e = rw e (simp (dead-unissued, dead-live))

  -- The case is open and has said and promised nothing.
  module _ (is_open : q.is_open ≡ true) (issued : v.issued ≡ true) (none_kept : q.prepare_kept ≡ false)
      (none_ever : q.prepare_ever ≡ false) (no_read : v.read ≡ false) where
    pub reading-dropped : R (stands_so false q) v ≡ ChildMoves.drops (R q v)
    reading-dropped = rw (none_kept, none_ever, issued, no_read, dead-now) (simp (and-false, or-true))

    pub reading-dropped_acknowledged : R (stands_so false q) (record v { ack = true })
        ≡ ChildMoves.drops_and_acknowledges (R q v)
    reading-dropped_acknowledged = rw (none_kept, none_ever, issued, no_read, dead-now)
        (simp (and-false, or-true))

    -- it aborts, with a record
    pub reading-aborted : (b : Bool) → R (stands_so false (aborts b q)) v ≡ ChildMoves.drops (R q v)
    reading-aborted b = rw (none_kept, none_ever, issued, no_read, dead-now) (simp (and-false, or-true))

    pub reading-aborted_acknowledged : (b : Bool)
        → R (stands_so false (hardens (aborts b q))) (record v { ack = true })
        ≡ ChildMoves.drops_and_acknowledges (ChildMoves.hardens_child (R q v))
    reading-aborted_acknowledged b = rw (none_kept, none_ever, issued, no_read, dead-now)
        (simp (and-false, or-true))

    pub reading-aborted_waits : (b : Bool) → R (stands_so false (hardens (aborts b q))) v
        ≡ ChildMoves.drops (ChildMoves.hardens_child (R q v))
    reading-aborted_waits b = rw (none_kept, none_ever, issued, no_read, dead-now) (simp (and-false, or-true))

    pub reading-no : (b : Bool) → R (stands_so false (aborts b q)) (record v { no = true })
        ≡ ChildMoves.votes_no (R q v)
    reading-no b = rw (none_kept, none_ever, issued, no_read, dead-now) (simp (and-false, or-true))

    pub reading-no_forced : (b : Bool) → R (stands_so false (hardens (aborts b q))) (record v { no = true })
        ≡ ChildMoves.votes_no (ChildMoves.hardens_child (R q v))
    reading-no_forced b = rw (none_kept, none_ever, issued, no_read, dead-now) (simp (and-false, or-true))

  pub reading-read : q.is_open ≡ true
      → R (stands_so false q) (record v { read = true }) ≡ ChildMoves.votes_read (R q v)
  reading-read e = rw e (simp (and-false, dead-live, dead-read))

  pub reading-yes : q.is_open ≡ true → q.abort_kept ≡ false
      → R (stands_so false (hardens (promises q))) (record v { yes = true })
      ≡ ChildMoves.votes_yes (ChildMoves.hardens_child (R q v))
  reading-yes e f = rw (e, f) (simp (or_twice, and-false, dead-live, dead-promised))

  -- The case is after its promise.
  module _ (closed : q.is_open ≡ false) (kept : q.prepare_kept ≡ true) where
    pub reading-commit_forced : R (stands_so false (hardens (commits q))) (record v { ack = true })
        ≡ ChildMoves.commits_forced (ChildMoves.hardens_child (R q v))
    reading-commit_forced = rw (closed, kept) (simp (or_twice, and-false, dead-promised))

    pub reading-commit_waits : R (stands_so false (hardens (commits q))) v
        ≡ ChildMoves.learns_commit_forced (ChildMoves.hardens_child (R q v))
    reading-commit_waits = rw (closed, kept) (simp (or_twice, and-false, dead-promised))

    pub reading-abort_waits : R (stands_so false (hardens (aborts true q))) v
        ≡ ChildMoves.learns_abort_forced (ChildMoves.hardens_child (R q v))
    reading-abort_waits = rw (closed, kept) (simp (and-false))

    pub reading-commit_plain : R (stands_so false (commits q)) v ≡ ChildMoves.commits (R q v)
    reading-commit_plain = rw (closed, kept) (simp (and-false, dead-promised))

    pub reading-abort_plain : R (stands_so false (aborts true q)) v ≡ ChildMoves.rolls_back (R q v)
    reading-abort_plain = rw (closed, kept) (simp (and-false))

    pub reading-abort_forced : R (stands_so false (hardens (aborts true q))) (record v { ack = true })
        ≡ ChildMoves.rolls_back_forced (ChildMoves.hardens_child (R q v))
    reading-abort_forced = rw (closed, kept) (simp (and-false))
