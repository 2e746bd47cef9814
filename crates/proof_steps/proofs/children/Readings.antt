-- A manager's rows on readings: halves and wires as variables.
use Rattle.std.proofs.Common.{◌≡◌, Bool, true, false, not, ◌||◌, ◌&&◌, refl, arith}
use Rattle.protocol.specs.declared.names.Case.{Case}
use Rattle.protocol_words.specs.Variants.{CommittedOutcome}
use Rattle.protocol.specs.declared.records.Record.{Record}
use Rattle.protocol.specs.Records.{is_heuristic, is_decided, is_forgot}
use Rattle.proof_pairs.specs.Reading.{Reading}
use Rattle.proof_pairs.specs.ChildMoves
use Rattle.proof_pairs.specs.readings.ReadingOf.{reading_from, ParentHalf, ChildHalf, Wire, is_dead}
use Rattle.protocol.specs.Audits.{is_promise, is_learnt_commit, is_learnt_abort, is_committing}
use Rattle.proof_steps.proofs.children.LeafWrites.{wrote, hardens, stands_so}

and-false : (a : Bool) → (a && false) ≡ false
and-false a = grind arith

or-false : (a : Bool) → (a || false) ≡ a
or-false a = grind arith

or-true : (a : Bool) → (a || true) ≡ true
or-true a = grind arith

or_twice : (a b : Bool) → (a || (a || b)) ≡ (a || b)
or_twice a b = grind arith

dead-live : (a b c : Bool) → is_dead a true b c ≡ false
unfolding is_dead
dead-live true b c = refl
dead-live false b c = refl

dead-promised : (a b c : Bool) → is_dead true a b c ≡ false
unfolding is_dead
dead-promised a b c = refl

dead-read : (a b : Bool) → is_dead a false b true ≡ false
unfolding is_dead
dead-read true b = refl
dead-read false true = refl
dead-read false false = refl

dead-now : is_dead false false true false ≡ true
unfolding is_dead
dead-now = refl

module _ (root outcome above : Bool) (p : ParentHalf) (k : ChildHalf) (v : Wire) where
  abbrev R : ChildHalf → Wire → Reading
  R h w = reading_from root true outcome above p h w

  pub reading-read : k.is_open ≡ true
      → R (stands_so false k) (record v { read = true }) ≡ ChildMoves.votes_read (R k v)
  reading-read e = rw e (simp (and-false, dead-live, dead-read))

  -- the branch is open and has said and promised nothing
  record Silent : Type 0 where
    is_open : k.is_open ≡ true
    issued : v.issued ≡ true
    none_kept : k.prepared_kept ≡ false
    none_ever : k.prepared_ever ≡ false
    no_read : v.read ≡ false

  pub reading-no : k.is_open ≡ true → v.issued ≡ true → k.prepared_kept ≡ false → k.prepared_ever ≡ false
      → v.read ≡ false
      → R (stands_so false k) (record v { no = true }) ≡ ChildMoves.votes_no (R k v)
  reading-no a b c d e = rw (c, d, b, e, dead-now) (simp (and-false, or-true))

  pub reading-dropped : k.is_open ≡ true → v.issued ≡ true → k.prepared_kept ≡ false
      → k.prepared_ever ≡ false → v.read ≡ false
      → R (stands_so false k) v ≡ ChildMoves.drops (R k v)
  reading-dropped a b c d e = rw (c, d, b, e, dead-now) (simp (and-false, or-true))

  pub reading-dropped_acknowledged : k.is_open ≡ true → v.issued ≡ true → k.prepared_kept ≡ false
      → k.prepared_ever ≡ false
      → v.read ≡ false → R (stands_so false k) (record v { ack = true }) ≡ ChildMoves.drops_and_acknowledges
      (R k v)
  reading-dropped_acknowledged a b c d e = rw (c, d, b, e, dead-now) (simp (and-false, or-true))

  pub reading-closed : k.is_open ≡ false → R (stands_so false k) v ≡ R k v
  reading-closed e = rw e refl

  pub reading-same_open : R (stands_so k.is_open k) v ≡ R k v
  reading-same_open = refl

  pub reading-hardened : R (stands_so k.is_open (hardens k)) v ≡ ChildMoves.hardens_child (R k v)
  reading-hardened = simp (or_twice)

  -- a record of the branch after the promise
  module _ (d : Case) (r : Record) (closed : k.is_open ≡ false) (kept : k.prepared_kept ≡ true)
      (plain : is_promise d r ≡ false) where
    module _ (commit : is_learnt_commit d r ≡ true) (abort : is_learnt_abort d r ≡ false)
        (h : is_heuristic d r ≡ false)
        (x : is_decided d CommittedOutcome r ≡ false) (f : is_forgot d r ≡ false)
        (b : is_committing d r ≡ not k.heuristic_kept) where
      pub reading-commit_forced : R (stands_so false (hardens (wrote r d k))) (record v { ack = true })
          ≡ ChildMoves.commits_forced (ChildMoves.hardens_child (R k v))
      reading-commit_forced = rw (closed, kept, plain, commit, abort, h, x, f, b)
          (simp (or_twice, and-false, dead-promised))

      pub reading-commit_plain : R (stands_so false (wrote r d k)) v ≡ ChildMoves.commits (R k v)
      reading-commit_plain = rw (closed, kept, plain, commit, abort, h, x, f, b)
          (simp (or_twice, and-false, dead-promised))

    module _ (commit : is_learnt_commit d r ≡ false) (abort : is_learnt_abort d r ≡ true)
        (h : is_heuristic d r ≡ false)
        (x : is_decided d CommittedOutcome r ≡ false) (f : is_forgot d r ≡ false)
        (b : is_committing d r ≡ false) where
      pub reading-abort_plain : R (stands_so false (wrote r d k)) v ≡ ChildMoves.rolls_back (R k v)
      reading-abort_plain = rw (closed, kept, plain, commit, abort, h, x, f, b)
          (simp (or_twice, and-false, dead-promised))

      pub reading-abort_forced : R (stands_so false (hardens (wrote r d k))) (record v { ack = true })
          ≡ ChildMoves.rolls_back_forced (ChildMoves.hardens_child (R k v))
      reading-abort_forced = rw (closed, kept, plain, commit, abort, h, x, f, b)
          (simp (or_twice, and-false, dead-promised))

    pub reading-decided : (o : Bool) → is_learnt_commit d r ≡ false → is_learnt_abort d r ≡ false
        → is_heuristic d r ≡ true
        → is_decided d CommittedOutcome r ≡ o → is_forgot d r ≡ false → is_committing d r ≡ false
        → k.heuristic_commits ≡ false
        → R (stands_so false (hardens (wrote r d k))) v ≡ ChildMoves.decides_alone o
        (ChildMoves.hardens_child (R k v))
    reading-decided o a b h x f g e = rw (closed, kept, plain, a, b, h, x, f, g, e)
        (simp (or_twice, or-false, and-false, dead-promised))

    pub reading-forgotten : is_learnt_commit d r ≡ false → is_learnt_abort d r ≡ false
        → is_heuristic d r ≡ false
        → is_decided d CommittedOutcome r ≡ false → is_forgot d r ≡ true → is_committing d r ≡ false
        → R (stands_so false (hardens (wrote r d k))) v ≡ ChildMoves.forgets
        (ChildMoves.hardens_child (R k v))
    reading-forgotten a b h x f g = rw (closed, kept, plain, a, b, h, x, f, g)
        (simp (or_twice, and-false, dead-promised))

-- a ticket that was never given is not open
dead-unissued : (a b c : Bool) → is_dead a b false c ≡ false
unfolding is_dead
dead-unissued true b c = refl
dead-unissued false true c = refl
dead-unissued false false c = refl

pub reading-unissued : (root outcome above : Bool) (p : ParentHalf) (k : ChildHalf) (v : Wire) (o : Bool)
    → v.issued ≡ false
    → reading_from root true outcome above p (stands_so o k) v ≡ reading_from root true outcome above p k v
reading-unissued root outcome above p k v o e = rw e (simp (dead-unissued))

pub reading-yes : (root outcome above : Bool) (p : ParentHalf) (k : ChildHalf) (v : Wire) (d : Case)
    (r : Record) → k.is_open ≡ true
    → is_promise d r ≡ true → is_learnt_commit d r ≡ false → is_learnt_abort d r ≡ false
    → is_heuristic d r ≡ false
    → is_decided d CommittedOutcome r ≡ false → is_forgot d r ≡ false → is_committing d r ≡ false
    → reading_from root true outcome above p (stands_so false (hardens (wrote r d k)))
    (record v { yes = true })
    ≡ ChildMoves.votes_yes (ChildMoves.hardens_child (reading_from root true outcome above p k v))
reading-yes root outcome above p k v d r o a b c e f g h =
    rw (o, a, b, c, e, f, g, h) (simp (or_twice, and-false, dead-live, dead-promised))

pub reading-issued : (root outcome above : Bool) (p : ParentHalf) (k : ChildHalf) (v : Wire) → v.issued
    ≡ false
    → reading_from root true outcome above p (stands_so true k) (record v { issued = true })
    ≡ ChildMoves.issues (reading_from root true outcome above p k v)
reading-issued root outcome above p k v e = rw e (simp (dead-unissued, dead-live))
