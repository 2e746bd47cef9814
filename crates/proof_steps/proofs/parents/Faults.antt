-- A fault in an event of a coordinator, on the pair: the half that it leaves, and the forced front that
-- stands then.
use Rattle.std.proofs.Common.{◌≡◌, ◌∙◌, ◌⊎◌, inl, inr, ℕ, Bool, true, false, ◌||◌, ◌&&◌, List, [], ◌∷◌, ◌++◌, take, drop, refl, sym, ap, subst, arith}
use Rattle.std.proofs.lemmas.List.{append_assoc, take-append-drop}
use Rattle.std.proofs.lemmas.List.Folds.{list_any-append}
use Rattle.protocol.specs.declared.names.Case.{Case}
use Rattle.protocol.specs.declared.names.Ticket.{Ticket}
use Rattle.protocol.specs.declared.records.Record.{Record}
use Rattle.protocol_words.specs.Variants.{VoteNo, VoteRead, VoteYes}
use Rattle.protocol.specs.Records.{has, is_collecting, is_prepare, is_commit, is_abort, is_end}
use Rattle.protocol.specs.Nodes.{Role, AtRoot, Below, AtLeaf, Node, Heard, Effect, fails_in, entries_written, kept}
use Rattle.protocol.specs.Memory.{Phase}
use Rattle.proof_pairs.specs.Reading.{Reading, Closed}
use Rattle.proof_pairs.specs.ParentCrash
use Rattle.proof_pairs.specs.ParentCrash.{ParentFront, IsParentFront}
use Rattle.proof_pairs.specs.readings.ReadingOf.{ParentHalf, ChildHalf, Wire, parent_half, reading_from}
use Rattle.proof_pairs.proofs.readings.Lists.{has-push_behind, has-nil_behind}
use Rattle.proof_processes.specs.ProcessSteps.{outcome_in}
use Rattle.proof_processes.specs.WorldHolds.{InOrder, stands_behind}
use Rattle.proof_processes.proofs.Tests.{has-cons, in_first, either, left, right}
use Rattle.proof_steps.proofs.children.Moves.{Fits, onward}
use Rattle.proof_steps.proofs.parents.Halves.{half_of}
use Rattle.proof_steps.proofs.parents.Known.{clash}
use Rattle.proof_steps.proofs.parents.Moves
use Rattle.proof_steps.proofs.parents.Turns.{Turn, is_top, Fits_in, seen, half, net_part, told_outcome, reading, at_root}
use Rattle.proof_steps.proofs.parents.Writes.{wrote, counts_so, accepts_so, begun_after}

has-cut : (q : Record → Bool) (fo : List Record) (f : ℕ) (b : List Record)
    → has q ((fo ++ take f b) ++ drop f b) ≡ has q (fo ++ b)
has-cut q fo f b = ap (has q) (append_assoc fo (take f b) (drop f b)
    ∙ ap (λ l. fo ++ l) (take-append-drop f b))

-- what was forced was ever forced
abbrev pub IsOld : (Record → Bool) → Node → Type 0
IsOld q n = has q n.forced ≡ true → has q n.durable ≡ true

ever-cut : (q : Record → Bool) (fo : List Record) (f : ℕ) (b dur : List Record)
    → (has q fo ≡ true → has q dur ≡ true)
    → has q (take f b ++ dur) ≡ (has q (fo ++ take f b) || has q dur)
unfolding has
ever-cut q fo f b dur old = grind (arith, list_any-append)

-- which records of the case a list holds
abbrev pub parent_front : Case → List Record → ParentFront
parent_front c rs = record {
  collecting = has (is_collecting c) rs;
  own_prepare = has (is_prepare c) rs;
  commit = has (is_commit c) rs;
  abort = has (is_abort c) rs;
  end = has (is_end c) rs;
}

-- what was accepted and counted counts even so; nothing is told
abbrev pub heard_so : Effect → Case → Ticket → ParentHalf → ParentHalf
heard_so e c t p = record p {
  took_part = accepts_so c t e || p.took_part;
  first_yes = counts_so c t VoteYes e || p.first_yes;
  first_no = counts_so c t VoteNo e || p.first_no;
  first_read = counts_so c t VoteRead e || p.first_read;
}

-- the process is down
abbrev pub down : Bool → Bool → Bool → ParentHalf → ParentHalf
down accepted acked begun p = record p {
  failed = true;
  phase = Closed;
  accepted = accepted;
  acked = acked;
  begun = begun;
}

-- and the forced front has moved on to this one
abbrev pub cut : ParentFront → ParentHalf → ParentHalf
cut front p = record p {
  collecting_forced = front.collecting;
  own_prepare_forced = front.own_prepare;
  own_prepare_ever = front.own_prepare || p.own_prepare_ever;
  commit_forced = front.commit;
}

module _ (ph ph' : Phase) (a a' k k' : Bool) (n : Node) (h : Heard) (e : Effect) (x f : ℕ) (c : Case)
    (t : Ticket)
    (old : IsOld (is_prepare c) n) where
  abbrev after_fault : Node
  after_fault = fails_in n h e x f

  abbrev now : Bool
  now = begun_after ph' after_fault c

  pub half_fails : take x (entries_written e.written) ≡ []
      → half_of ph' a' k' after_fault c t
      ≡ cut (parent_front c after_fault.forced) (down a' k' now (heard_so e c t (half_of ph a k n c t)))
  half_fails none =
      rw none
      (simp (
        ever-cut (is_prepare c) n.forced f (n.unforced ++ []) n.durable old,
        has-cut,
        has-nil_behind,
        list_any-append,
      ))

  pub half_fails_behind : (r : Record) → take x (entries_written e.written) ≡ r ∷ []
      → half_of ph' a' k' after_fault c t
      ≡ cut (parent_front c after_fault.forced)
      (down a' k' now (wrote r c t (has (is_prepare c) n.life) (heard_so e c t (half_of ph a k n c t))))
  half_fails_behind r one =
      rw one
      (simp (
        ever-cut (is_prepare c) n.forced f (n.unforced ++ r ∷ []) n.durable old,
        has-cut,
        has-push_behind,
        has-cons,
        list_any-append,
      ))

-- A front of a list in order.

and_so : (a b : Bool) → a ≡ true → b ≡ true → (a && b) ≡ true
and_so a b e f = rw (e, f) refl

behind_front : (q r : Record → Bool) (xs ys : List Record) → stands_behind q r (xs ++ ys) ≡ false
    → has r xs ≡ true → has q (xs ++ ys) ≡ true → has q xs ≡ true
unfolding has
behind_front q r [] ys none e g = absurd (cc)
behind_front q r (z ∷ xs) ys none e g =
    by_either (either _ _ g) (either _ _ e) (second _ _ none) (first _ _ none) (behind_front q r xs ys)
  where
    first : (a b : Bool) → (a || b) ≡ false → a ≡ false
    first true b i = absurd (cc)
    first false b i = refl

    second : (a b : Bool) → (a || b) ≡ false → b ≡ false
    second true b i = absurd (cc)
    second false b i = i

    by_either : (q z ≡ true) ⊎ (has q (xs ++ ys) ≡ true) → (r z ≡ true) ⊎ (has r xs ≡ true)
        → stands_behind q r (xs ++ ys) ≡ false → (r z && has q (xs ++ ys)) ≡ false
        → (stands_behind q r (xs ++ ys) ≡ false → has r xs ≡ true → has q (xs ++ ys) ≡ true → has q xs ≡ true)
        → (q z || has q xs) ≡ true
    by_either (inl now) j s w k = left _ _ now
    by_either (inr rest) (inr later) s w k = right _ _ (k s later rest)
    by_either (inr rest) (inl here) s w k = clash (r z && has q (xs ++ ys))
        (and_so (r z) (has q (xs ++ ys)) here rest) w

-- Readings.

implied : (a b x : Bool) → (a ≡ true → b ≡ true) → (b || (a || x)) ≡ (b || x)
implied true b x f = rw (f refl) refl
implied false b x f = refl

implied_root : (a b x : Bool) → (a ≡ true → b ≡ true) → (b || ((true && a) || x)) ≡ (b || x)
implied_root true b x f = rw (f refl) refl
implied_root false b x f = refl

pub reading-cut : (root manager above o : Bool) (k : ChildHalf) (front : ParentFront) (p : ParentHalf)
    (v : Wire)
    → (front.commit ≡ true → p.commit_kept ≡ true) → (front.own_prepare ≡ true → p.own_prepare_kept ≡ true)
    → reading_from root manager ((root && front.commit) || o) above (cut front p) k v
    ≡ ParentCrash.hardens_failed_parent front (reading_from root manager o above p k v)
reading-cut true manager above o k front p v f g = simp (implied_root front.commit p.commit_kept o f)
reading-cut false manager above o k front p v f g = simp
    (implied front.own_prepare p.own_prepare_kept p.own_prepare_ever g)

module _ (turn : Turn) where
  open turn use {place, n, h, net, c, t, manager, outcome, above, k, rooted, nested}

  abbrev p0 : ParentHalf
  p0 = half turn

  abbrev v0 : Wire
  v0 = net_part turn

  -- the fault keeps the invariant
  abbrev pub Fault_fine : Effect → ℕ → ℕ → Type 0
  Fault_fine e x f = Fits c.txn.presumption (reading turn)
      (seen turn (outcome_in place.role (fails_in n h e x f) c outcome)
      (parent_half place (fails_in n h e x f) c t) v0)

  old_is : (q : Record → Bool) → IsOld q n
  old_is q e = nested.forced_is_old q e

  outcome_then : (role : Role) (b : Bool) (e : Effect) (x f : ℕ) → b ≡ is_top role
      → outcome_in role (fails_in n h e x f) c outcome
      ≡ ((b && has (is_commit c) (fails_in n h e x f).forced) || outcome_in role n c outcome)
  outcome_then AtRoot b e x f i =
      rw i (ever-cut (is_commit c) n.forced f (n.unforced ++ take x (entries_written e.written)) n.durable
      (old_is (is_commit c)))
  outcome_then (Below p) b e x f i = rw i refl
  outcome_then (AtLeaf p) b e x f i = rw i refl

  module _ (e : Effect) (x f : ℕ) (order : InOrder c (kept (fails_in n h e x f))) (q : ParentHalf)
      (is : parent_half place (fails_in n h e x f) c t ≡ cut (parent_front c (fails_in n h e x f).forced) q)
      (down_so : q.failed ≡ true) (collecting_so : q.collecting_forced ≡ p0.collecting_forced)
      (prepare_so : q.own_prepare_forced ≡ p0.own_prepare_forced)
      (commit_so : q.commit_forced ≡ p0.commit_forced) where
    abbrev k' : Node
    k' = fails_in n h e x f

    abbrev front : ParentFront
    front = parent_front c k'.forced

    shows : (g : ParentHalf → Bool) → g (parent_half place k' c t) ≡ g (cut front q)
    shows g = ap g is

    in_kept : (r : Record → Bool) → has r k'.forced ≡ true → has r (kept k') ≡ true
    in_kept r i = in_first r k'.forced k'.unforced i

    in_front : (r : Record → Bool) → has r n.forced ≡ true → has r k'.forced ≡ true
    in_front r i = in_first r n.forced (take f (n.unforced ++ take x (entries_written e.written))) i

    collecting_is : has (is_collecting c) (kept k') ≡ q.collecting_kept
    collecting_is = shows (λ (p : ParentHalf). p.collecting_kept)

    prepare_is : has (is_prepare c) (kept k') ≡ q.own_prepare_kept
    prepare_is = shows (λ (p : ParentHalf). p.own_prepare_kept)

    commit_is : has (is_commit c) (kept k') ≡ q.commit_kept
    commit_is = shows (λ (p : ParentHalf). p.commit_kept)

    abort_is : has (is_abort c) (kept k') ≡ q.abort_kept
    abort_is = shows (λ (p : ParentHalf). p.abort_kept)

    end_is : has (is_end c) (kept k') ≡ q.end_kept
    end_is = shows (λ (p : ParentHalf). p.end_kept)

    stands_so : (a b : Record → Bool) → stands_behind a b (kept k') ≡ false → has b k'.forced ≡ true
        → has a (kept k') ≡ true → has a k'.forced ≡ true
    stands_so a b s i j = behind_front a b k'.forced k'.unforced s i j

    is_front : IsParentFront front (seen turn (told_outcome turn) q v0)
    is_front = record {
      holds_collecting = λ i. in_front (is_collecting c) (sym collecting_so ∙ i);
      holds_own_prepare = λ i. in_front (is_prepare c) (sym prepare_so ∙ i);
      holds_commit = λ i. in_front (is_commit c) (sym commit_so ∙ i);
      had_collecting = λ i. sym collecting_is ∙ in_kept (is_collecting c) i;
      had_own_prepare = λ i. sym prepare_is ∙ in_kept (is_prepare c) i;
      had_commit = λ i. sym commit_is ∙ in_kept (is_commit c) i;
      had_abort = λ i. sym abort_is ∙ in_kept (is_abort c) i;
      had_end = λ i. sym end_is ∙ in_kept (is_end c) i;
      promise_behind_collecting = λ i j. stands_so (is_collecting c) (is_prepare c)
          order.collecting_promise i (collecting_is ∙ j);
      commit_behind_collecting = λ i j. stands_so (is_collecting c) (is_commit c) order.collecting_commit
          i (collecting_is ∙ j);
      commit_behind_promise = λ i j. stands_so (is_prepare c) (is_commit c) order.promise_commit i
          (prepare_is ∙ j);
      abort_behind_collecting = λ i j. stands_so (is_collecting c) (is_abort c) order.collecting_abort i
          (collecting_is ∙ j);
      abort_behind_promise = λ i j. stands_so (is_prepare c) (is_abort c) order.promise_abort i
          (prepare_is ∙ j);
      end_behind_collecting = λ i j. stands_so (is_collecting c) (is_end c) order.collecting_end i
          (collecting_is ∙ j);
      end_behind_commit = λ i j. stands_so (is_commit c) (is_end c) order.commit_end i (commit_is ∙ j);
      end_behind_abort = λ i j. stands_so (is_abort c) (is_end c) order.abort_end i (abort_is ∙ j);
    }

    pub fault_fits : Fits_in turn (seen turn (told_outcome turn) q v0) → Fault_fine e x f
    fault_fits fits =
        let r = seen turn (told_outcome turn) q v0 in
        let o' = (at_root turn && front.commit) || told_outcome turn in
        subst (λ (b : Bool). Fits_in turn (seen turn b (parent_half place k' c t) v0))
        (sym (outcome_then place.role (at_root turn) e x f rooted))
        (subst (λ (p : ParentHalf). Fits_in turn (seen turn o' p v0)) (sym is)
        (subst (λ (y : Reading). Fits_in turn y)
        (sym (reading-cut (at_root turn) manager above (told_outcome turn) k front q v0
        (λ i. sym commit_is ∙ in_kept (is_commit c) i) (λ i. sym prepare_is ∙ in_kept (is_prepare c) i)))
        (onward c.txn.presumption (reading turn) r (ParentCrash.hardens_failed_parent front r) fits
        (Moves.hardens_failed c.txn.presumption front r fits.invariant
        (record { failed = down_so; front_of = is_front })))))
