-- What a fault makes of a cascaded coordinator's half, by the record that was appended; and the readings.
use Rattle.std.proofs.Common.{◌≡◌, ◌∙◌, ℕ, zero, suc, Bool, true, false, ◌||◌, ◌&&◌, List, [], ◌∷◌, ◌++◌, take, drop, append_assoc, refl, ap, arith}
use Rattle.std.proofs.lemmas.List.{take-append-drop}
use Rattle.std.proofs.Math.Seq.{take-nil}
use Rattle.protocol.specs.declared.names.Case.{Case}
use Rattle.protocol.specs.declared.records.Record.{Record}
use Rattle.protocol.specs.Records.{has, is_abort, is_commit, is_prepare}
use Rattle.protocol.specs.Nodes.{Effect, Heard, Node, fails_in}
use Rattle.proof_pairs.specs.ChildCrash
use Rattle.proof_pairs.specs.ChildCrash.{ChildFront}
use Rattle.proof_pairs.specs.Reading.{Reading}
use Rattle.proof_pairs.specs.readings.ReadingOf.{ParentHalf, Wire, is_dead, reading_from}
use Rattle.proof_pairs.proofs.readings.LeafCrash.{QuietWhileOpen}
use Rattle.proof_pairs.proofs.readings.LeafRows.{and-false, dead-live, dead-promised}
use Rattle.proof_pairs.proofs.readings.Lists.{has-cons, has-nil_behind, has-push_behind}
use Rattle.proof_processes.proofs.Tests.{has-append}
use Rattle.proof_steps.proofs.cascades.Halves.{OwnHalf, aborts, as_child, commits, own_half_at, promises, wrote}

-- which of the case's records a front holds
pub record OwnFront : Type 0 where
  pub prepare : Bool
  pub commit : Bool
  pub abort : Bool

abbrev pub front_of : Case → List Record → OwnFront
front_of d rs = record {
  prepare = has (is_prepare d) rs;
  commit = has (is_commit d) rs;
  abort = has
      (is_abort d) rs;
}

-- so a child's front has it
abbrev pub as_front : OwnFront → ChildFront
as_front f = record {
  prepared = f.prepare;
  learnt_commit = f.commit;
  learnt_abort = f.abort && f.prepare;
  heuristic = false;
  heuristic_commits = false;
  forgot = false;
}

-- The device failed, and the forced front moved on to this one.
abbrev pub failed_own : OwnFront → OwnHalf → OwnHalf
failed_own f q = record q {
  failed = true;
  is_open = false;
  prepare_forced = f.prepare;
  prepare_ever = f.prepare || q.prepare_ever;
  commit_forced = f.commit;
  abort_forced = f.abort;
}

has-cut : (q : Record → Bool) (fo : List Record) (f : ℕ) (b : List Record)
    → has q ((fo ++ take f b) ++ drop f b) ≡ has q (fo ++ b)
has-cut q fo f b = ap (has q) (append_assoc fo (take f b) (drop f b)
    ∙ ap (λ l. fo ++ l) (take-append-drop f b))

-- what was forced was ever forced
abbrev pub IsOld : (Record → Bool) → Node → Type 0
IsOld q n = has q n.forced ≡ true → has q n.durable ≡ true

known : (a b c : Bool) → (a ≡ true → c ≡ true) → (b || c) ≡ ((a || b) || c)
known a b c f = grind arith

ever-cut : (q : Record → Bool) (fo : List Record) (f : ℕ) (b dur : List Record)
    → (has q fo ≡ true → has q dur ≡ true)
    → has q (take f b ++ dur) ≡ (has q (fo ++ take f b) || has q dur)
ever-cut q fo f b dur old =
    rw (has-append q (take f b) dur, has-append q fo (take f b))
    (known (has q fo) (has q (take f b)) (has q dur) old)

pub own_fails : (o : Bool) (n : Node) (h : Heard) (e : Effect) (f : ℕ) (d : Case) → IsOld (is_prepare d) n
    → own_half_at false (fails_in n h e zero f) d
    ≡ failed_own (front_of d (fails_in n h e zero f).forced) (own_half_at o n d)
own_fails o n h e f d old =
    let b = n.unforced ++ [] in
    simp (ever-cut (is_prepare d) n.forced f b n.durable old, has-cut, has-nil_behind)

pub own_fails_behind : (o : Bool) (n : Node) (h : Heard) (e : Effect) (a f : ℕ) (d : Case) (r : Record)
    (b : Bool)
    → e.written ≡ record { entry = r; is_forced = b } ∷ [] → IsOld (is_prepare d) n
    → own_half_at false (fails_in n h e (suc a) f) d
    ≡ failed_own (front_of d (fails_in n h e (suc a) f).forced)
    (wrote r (has (is_prepare d) n.life) d (own_half_at o n d))
own_fails_behind o n h e a f d r b one old =
    let u = n.unforced ++ r ∷ [] in
    rw (one, take-nil {A = Record} a)
    (simp (ever-cut (is_prepare d) n.forced f u n.durable old, has-cut, has-push_behind, has-cons))

-- no record to append
pub fails_none : (n : Node) (h : Heard) (e : Effect) (a f : ℕ) → e.written ≡ []
    → fails_in n h e a f ≡ fails_in n h e zero f
fails_none n h e a f none = rw (none, take-nil {A = Record} a) refl

-- nothing but the device's failure
pub own_breaks : (o : Bool) (n : Node) (d : Case) → IsOld (is_prepare d) n
    → own_half_at false (record n { failed = true }) d ≡ failed_own (front_of d n.forced) (own_half_at o n d)
own_breaks o n d old = rw (absorbed (has (is_prepare d) n.forced) (has (is_prepare d) n.durable) old) refl
  where
    absorbed : (a b : Bool) → (a ≡ true → b ≡ true) → (a || b) ≡ b
    absorbed a b f = grind arith

-- Readings.

refused-fails : (o p e f n i r : Bool) → QuietWhileOpen n i p e r → (f ≡ true → p ≡ true)
    → (o || is_dead (p || (f || e)) false i r) ≡ ((i && n) || (o || is_dead (p || e) n i r))
unfolding is_dead
refused-fails o p e f n i r quiet sub = grind arith

refused-aborts : (b o p e f n i r : Bool) → n ≡ true → i ≡ true → p ≡ false → e ≡ false → r ≡ false
    → (f ≡ true → p ≡ true)
    → ((b || o) || is_dead (p || (f || e)) false i r) ≡ ((i && n) || (o || is_dead (p || e) n i r))
unfolding is_dead
refused-aborts b o p e f n i r g h j k l sub = grind arith

module _ (root outcome above : Bool) (p : ParentHalf) (q : OwnHalf) (v : Wire) (front : OwnFront) where
  abbrev R : OwnHalf → Reading
  R h = reading_from root false outcome above p (as_child h) v

  pub reading-fails : QuietWhileOpen q.is_open v.issued q.prepare_kept q.prepare_ever v.read
      → (front.prepare ≡ true → q.prepare_kept ≡ true)
      → R (failed_own front q) ≡ ChildCrash.hardens_failed_child (as_front front)
      (ChildCrash.child_fails (R q))
  reading-fails quiet sub =
      rw (
        and-false v.issued,
        refused-fails q.obeyed_abort q.prepare_kept q.prepare_ever front.prepare q.is_open v.issued
            v.read quiet sub,
      )

  pub reading-fails_to_promise : q.is_open ≡ true → q.abort_kept ≡ false
      → R (failed_own front (promises q))
      ≡ ChildCrash.hardens_failed_child (as_front front) (ChildCrash.fails_to_promise (R q))
  reading-fails_to_promise e f = rw (e, f) (simp (and-false, dead-live, dead-promised))

  pub reading-fails_aborting : (b : Bool) → q.is_open ≡ true → v.issued ≡ true → q.prepare_kept ≡ false
      → q.prepare_ever ≡ false → v.read ≡ false → (front.prepare ≡ true → q.prepare_kept ≡ true)
      → R (failed_own front (aborts b q))
      ≡ ChildCrash.hardens_failed_child (as_front front) (ChildCrash.child_fails (R q))
  reading-fails_aborting b g h j k l sub =
      rw (
        and-false v.issued,
        refused-aborts b q.obeyed_abort q.prepare_kept q.prepare_ever front.prepare q.is_open v.issued
            v.read g h j k l
            sub,
        j,
      ) (simp (and-false))

  module _ (closed : q.is_open ≡ false) (kept : q.prepare_kept ≡ true) where
    pub reading-fails_to_commit : R (failed_own front (commits q))
        ≡ ChildCrash.hardens_failed_child (as_front front) (ChildCrash.fails_to_commit (R q))
    reading-fails_to_commit = rw (closed, kept) (simp (and-false, dead-promised))

    pub reading-fails_to_roll_back : R (failed_own front (aborts true q))
        ≡ ChildCrash.hardens_failed_child (as_front front) (ChildCrash.fails_to_roll_back (R q))
    reading-fails_to_roll_back = rw (closed, kept) (simp (and-false))
