-- What a fault in an event of a manager does to its half of a reading, by the record that was appended.
use Rattle.std.proofs.Common.{◌≡◌, ◌∙◌, ℕ, zero, suc, Bool, true, false, not, ◌||◌, ◌&&◌, List, [], ◌∷◌, ◌++◌, take, drop, append_assoc, refl, sym, ap, arith}
use Rattle.std.proofs.lemmas.List.{take-append-drop}
use Rattle.std.proofs.Math.Seq.{take-nil}
use Rattle.protocol.specs.declared.names.Case.{Case}
use Rattle.protocol_words.specs.Variants.{CommittedOutcome}
use Rattle.protocol.specs.declared.records.Record.{Record}
use Rattle.protocol.specs.declared.standings.Standing.{Standing}
use Rattle.protocol.specs.Records.{has, is_abort, is_prepare, is_heuristic, is_decided, is_forgot}
use Rattle.protocol.specs.Nodes.{Node, Heard, Effect, fails_in}
use Rattle.proof_pairs.specs.Reading.{Reading}
use Rattle.proof_pairs.specs.ChildCrash
use Rattle.proof_pairs.specs.ChildCrash.{ChildFront}
use Rattle.proof_pairs.specs.readings.ReadingOf.{child_half_at, reading_from, ParentHalf, ChildHalf, Wire}
use Rattle.protocol.specs.Audits.{is_promise, is_learnt_commit, is_learnt_abort, is_committing}
use Rattle.proof_pairs.specs.readings.Halves.{failed_half}
use Rattle.proof_pairs.proofs.readings.Lists.{has-push_behind, has-cons, has-none}
use Rattle.proof_pairs.proofs.readings.LeafRows.{and-false, dead-live, dead-promised}
use Rattle.proof_processes.proofs.Tests.{has-append, in_front}
use Rattle.proof_steps.proofs.children.LeafWrites.{wrote, IsBranchs}

-- what a list of records holds of the branch, and which way an operator decided
abbrev pub front_of : Case → Bool → List Record → ChildFront
front_of d o rs = record {
  prepared = has (is_promise d) rs;
  learnt_commit = has (is_learnt_commit d) rs;
  learnt_abort = has (is_learnt_abort d) rs || (has (is_abort d) rs && has (is_prepare d) rs);
  heuristic = has (is_heuristic d) rs;
  heuristic_commits = o;
  forgot = has (is_forgot d) rs;
}

or-false : (a : Bool) → (a || false) ≡ a
or-false a = grind arith

has-cut : (q : Record → Bool) (fo : List Record) (f : ℕ) (b : List Record)
    → has q ((fo ++ take f b) ++ drop f b) ≡ has q (fo ++ b)
has-cut q fo f b = ap (has q) (append_assoc fo (take f b) (drop f b)
    ∙ ap (λ l. fo ++ l) (take-append-drop f b))

-- what was forced was ever forced
abbrev pub IsOld : (Record → Bool) → Node → Type 0
IsOld q n = has q n.forced ≡ true → has q n.durable ≡ true

known : (a b c : Bool) → (a ≡ true → c ≡ true) → (b || c) ≡ ((a || b) || c)
known a b c f = grind arith

ever-cut : (q : Record → Bool) (fo : List Record) (f : ℕ) (b dur : List Record)
    → (has q fo ≡ true → has q dur ≡ true)
    → has q (take f b ++ dur) ≡ (has q (fo ++ take f b) || has q dur)
ever-cut q fo f b dur old =
    rw (has-append q (take f b) dur, has-append q fo (take f b))
    (known (has q fo) (has q (take f b)) (has q dur) old)

within : (x a b t u : Bool) → (t ≡ true → (x || (a || b)) ≡ true)
    → ((x || (a || b)) || (t || u)) ≡ (x || ((a || b) || u))
within x a b t u f = grind arith

there : (q : Record → Bool) (fo l : List Record) (r : Record) → has q (l ++ r ∷ []) ≡ true
    → (q r || (has q fo || has q l)) ≡ true
there q fo l r e =
    one (q r) (has q fo) (has q l) (sym (has-append q l (r ∷ []) ∙ ap (λ x. has q l || x) (alone q r)) ∙ e)
  where
    one : (a b c : Bool) → (c || a) ≡ true → (a || (b || c)) ≡ true
    one a b c e = grind arith

    alone : (q : Record → Bool) (r : Record) → has q (r ∷ []) ≡ q r
    alone q r = has-cons q r [] ∙ (ap (λ x. q r || x) (has-none q) ∙ or-false (q r))

-- an operator's decision is kept, or was ever forced: the new front adds nothing
decided-behind : (q : Record → Bool) (fo l : List Record) (r : Record) (f : ℕ) (dur : List Record)
    → ((q r || has q (fo ++ l)) || has q (take f (l ++ r ∷ []) ++ dur))
    ≡ (q r || (has q (fo ++ l) || has q dur))
decided-behind q fo l r f dur =
    rw (has-append q (take f (l ++ r ∷ [])) dur, has-append q fo l)
    (within (q r) (has q fo) (has q l) (has q (take f (l ++ r ∷ []))) (has q dur)
    (λ e. there q fo l r (in_front q f (l ++ r ∷ []) e)))

middle : (q a b : Bool) → ((q || a) || b) ≡ (q || (a || b))
middle q a b = grind arith

pub half_fails_behind : (s s' : Standing) (n : Node) (h : Heard) (e : Effect) (a f : ℕ) (d : Case) (o : Bool)
    (r : Record) (b : Bool) → e.written ≡ record { entry = r; is_forced = b } ∷ [] → IsBranchs d r
    → IsOld (is_promise d) n → IsOld (is_heuristic d) n → IsOld (is_forgot d) n
    → child_half_at s' (fails_in n h e (suc a) f) d
    ≡ failed_half (front_of d o (fails_in n h e (suc a) f).forced) (wrote r d (child_half_at s n d))
half_fails_behind s s' n h e a f d o r b one own o1 o2 o3 =
    let u = n.unforced ++ r ∷ [] in
    rw (one, take-nil {A = Record} a)
    (simp (
      ever-cut (is_promise d) n.forced f u n.durable o1,
      ever-cut (is_heuristic d) n.forced f u n.durable o2,
      ever-cut (is_forgot d) n.forced f u n.durable o3,
      decided-behind (is_decided d CommittedOutcome) n.forced n.unforced r f n.durable,
      has-cut,
      has-push_behind,
      has-cons,
      own.no_abort,
      own.no_prepare,
      middle (is_learnt_abort d r),
    ))

-- no record to append
pub fails_none : (n : Node) (h : Heard) (e : Effect) (a f : ℕ) → e.written ≡ []
    → fails_in n h e a f ≡ fails_in n h e zero f
fails_none n h e a f none = rw (none, take-nil {A = Record} a) refl

-- Readings.

module _ (root outcome above : Bool) (p : ParentHalf) (k : ChildHalf) (v : Wire) (front : ChildFront)
    (d : Case) (r : Record) where
  abbrev R : ChildHalf → Reading
  R h = reading_from root true outcome above p h v

  pub reading-fails_to_promise : k.is_open ≡ true → is_promise d r ≡ true → is_learnt_commit d r ≡ false
      → is_learnt_abort d r ≡ false → is_heuristic d r ≡ false
      → is_decided d CommittedOutcome r ≡ false → is_forgot d r ≡ false → is_committing d r ≡ false
      → R (failed_half front (wrote r d k))
      ≡ ChildCrash.hardens_failed_child front (ChildCrash.fails_to_promise (R k))
  reading-fails_to_promise o a b c e f g h = rw (o, a, b, c, e, f, g, h)
      (simp (and-false, dead-live, dead-promised))

  module _ (closed : k.is_open ≡ false) (kept : k.prepared_kept ≡ true) (plain : is_promise d r ≡ false) where
    pub reading-fails_to_commit : is_learnt_commit d r ≡ true → is_learnt_abort d r ≡ false
        → is_heuristic d r ≡ false
        → is_decided d CommittedOutcome r ≡ false → is_forgot d r ≡ false
        → is_committing d r ≡ not k.heuristic_kept
        → R (failed_half front (wrote r d k))
        ≡ ChildCrash.hardens_failed_child front (ChildCrash.fails_to_commit (R k))
    reading-fails_to_commit commit abort h x f b = rw (closed, kept, plain, commit, abort, h, x, f, b)
        (simp (and-false, dead-promised))

    pub reading-fails_to_roll_back : is_learnt_commit d r ≡ false → is_learnt_abort d r ≡ true
        → is_heuristic d r ≡ false
        → is_decided d CommittedOutcome r ≡ false → is_forgot d r ≡ false → is_committing d r ≡ false
        → R (failed_half front (wrote r d k))
        ≡ ChildCrash.hardens_failed_child front (ChildCrash.fails_to_roll_back (R k))
    reading-fails_to_roll_back commit abort h x f b = rw (closed, kept, plain, commit, abort, h, x, f, b)
        (simp (and-false, dead-promised))

    pub reading-fails_to_decide : (o : Bool) → is_learnt_commit d r ≡ false → is_learnt_abort d r ≡ false
        → is_heuristic d r ≡ true
        → is_decided d CommittedOutcome r ≡ o → is_forgot d r ≡ false → is_committing d r ≡ false
        → k.heuristic_commits ≡ false
        → R (failed_half front (wrote r d k))
        ≡ ChildCrash.hardens_failed_child front (ChildCrash.fails_to_decide_alone o (R k))
    reading-fails_to_decide o a b h x f g e = rw (closed, kept, plain, a, b, h, x, f, g, e)
        (simp (or-false, and-false, dead-promised))

    pub reading-fails_to_forget : is_learnt_commit d r ≡ false → is_learnt_abort d r ≡ false
        → is_heuristic d r ≡ false
        → is_decided d CommittedOutcome r ≡ false → is_forgot d r ≡ true → is_committing d r ≡ false
        → R (failed_half front (wrote r d k))
        ≡ ChildCrash.hardens_failed_child front (ChildCrash.fails_to_forget (R k))
    reading-fails_to_forget a b h x f g = rw (closed, kept, plain, a, b, h, x, f, g)
        (simp (and-false, dead-promised))
