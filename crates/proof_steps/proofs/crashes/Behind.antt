-- What a crash makes of a case's refusal, from the invariant of the pair before it.
use Rattle.std.proofs.Common.{◌≡◌, ◌∙◌, ◌||◌, ◌&&◌, ℕ, Bool, true, false, List, [], ◌∷◌, ◌++◌, drop, refl, sym, ap, subst, arith}
use Rattle.std.specs.Prelude.{reverse}
use Rattle.protocol.specs.declared.names.Case.{Case}
use Rattle.protocol.specs.declared.names.Presumption.{Presumption}
use Rattle.protocol.specs.declared.names.Presumption.TheVariants.{PresumeAbort, PresumeCommit}
use Rattle.protocol.specs.declared.names.Ticket.{Ticket}
use Rattle.protocol.specs.declared.records.Record.{Record}
use Rattle.protocol.specs.declared.standings.Standing.{Standing}
use Rattle.protocol.specs.Records.{has, is_collecting, is_prepare, is_commit, is_abort, is_end}
use Rattle.protocol.specs.Nodes.{Node, kept}
use Rattle.protocol.specs.Memory.{Memory, fresh_memory}
use Rattle.protocol.specs.Outcomes.{follows}
use Rattle.protocol.specs.Restarts.{left_of}
use Rattle.proof_pairs.specs.Reading.{Reading, Closed, is_live}
use Rattle.proof_pairs.specs.Invariant.{Common, PresumedCommit}
use Rattle.proof_pairs.specs.ParentCrash.{ParentFront, IsParentFront}
use Rattle.proof_pairs.specs.readings.ReadingOf.{ParentHalf, ChildHalf, Wire, reading_from, parent_half_at, phase_by}
use Rattle.proof_processes.specs.WorldHolds.{InvariantOf}
use Rattle.proof_processes.proofs.Tests.{has-reverse, in_first}
use Rattle.proof_processes.proofs.CaseOrders.{AllFit}
use Rattle.proof_steps.proofs.children.Moves.{common_of}
use Rattle.proof_steps.proofs.crashes.Fronts.{parent_front, is_front}
use Rattle.proof_steps.proofs.crashes.Losing.{Lost, refused_by, refused_lost, refused-below, refused-root}
use Rattle.proof_steps.proofs.crashes.LostHalves.{Crashed, whole, lost}
use Rattle.proof_steps.proofs.crashes.Reopened.{collects_alone, is_alone}

-- Histories.

-- of records newly appended, none of which passes the second test, those that pass the first are after
-- what passed it
-- before
follows-new : (q p : Record → Bool) (xs ys : List Record) → has p xs ≡ false
    → follows q p (xs ++ ys) ≡ ((has q xs && has p ys) || follows q p ys)
unfolding has
follows-new q p [] ys e = refl
follows-new q p (x ∷ xs) ys e =
    step (q x) (p x) (has p xs) (has p (xs ++ ys)) (has p ys) (has q xs) (follows q p (xs ++ ys))
    (follows q p ys) e
    (none_first xs ys) (follows-new q p xs ys)
  where
    none_first : (l m : List Record) → has p l ≡ false → has p (l ++ m) ≡ has p m
    none_first [] m f = refl
    none_first (z ∷ l) m f = two (p z) (has p l) (has p (l ++ m)) (has p m) f (none_first l m)
      where
        two : (a b c d : Bool) → (a || b) ≡ false → (b ≡ false → c ≡ d) → (a || c) ≡ d
        two a b c d g h = grind arith

    step : (a b r s y h w z : Bool) → (b || r) ≡ false → (r ≡ false → s ≡ y)
        → (r ≡ false → w ≡ ((h && y) || z)) → ((a && s) || w) ≡ (((a || h) && y) || z)
    step a b r s y h w z f g i = grind arith

-- What the invariant says before the crash.

record BelowSays (r : Reading) (front : ParentFront) : Type 0 where
  live : is_live r.phase ≡ true → (r.born ≡ true) × ((r.read_up ≡ false)
      × ((r.own_prepare_kept ≡ false) × (r.own_prepare_ever ≡ false)))
  once : r.own_prepare_kept ≡ true → r.own_prepare_ever ≡ true → front.own_prepare ≡ true
  asked : r.own_prepare_kept ≡ true → (r.born ≡ true) × (r.read_up ≡ false)

below_says : (r : Reading) (front : ParentFront) → Common r → IsParentFront front r → BelowSays r front
below_says r front h f =
    grind (arith, h.unborn, h.undecided, h.promise_is_once, h.promise_or_read, f.holds_own_prepare)

record RootSays (r : Reading) (front : ParentFront) : Type 0 where
  live : is_live r.phase ≡ true → (r.born ≡ true) × ((r.outcome ≡ false) × (r.commit_kept ≡ false))
  begun : r.commit_kept ≡ true → r.born ≡ true
  once : r.commit_kept ≡ true → r.outcome ≡ true → front.commit ≡ true
  none : r.own_prepare_kept ≡ false

root_says : (r : Reading) (front : ParentFront) → r.parent_is_root ≡ true → Common r → IsParentFront front r
    → RootSays r front
root_says r front root h f =
    grind (arith, root, h.unborn, h.undecided, h.root_commit_is_once, h.root_promises_nobody, f.holds_commit)

-- a case below the root that collects alone, after its crash, had promised or refused
abandoned_so : (r : Reading) → PresumedCommit r → r.parent_is_root ≡ false → r.collecting_kept ≡ true
    → r.read_up ≡ false → (is_live r.phase || (r.own_prepare_kept || r.refused)) ≡ true
abandoned_so r h root e f = grind (arith, root, e, f, h.collected_is_decided, h.common.cascaded_commit_obeys)

module _ (pr : Presumption) (root manager outcome above : Bool) (k : ChildHalf) (v : Wire) (c : Case)
    (t : Ticket)
    (n n' : Node) (j : ℕ) (new : List Record) (s s' : Standing) (m : Memory) (fit : AllFit [] (kept n))
    (now : Crashed c t n n' j new) (closed : phase_by n'.failed s' ≡ Closed)
    (life_so : n'.life ≡ reverse new ++ n.life)
    (alone : has (is_abort c) new ≡ true → collects_alone c (left_of n j) ≡ true)
    (inv : InvariantOf pr (reading_from root manager outcome above (parent_half_at s m n c t) k v))
  where
    abbrev p : ParentHalf
    p = parent_half_at s m n c t

    abbrev p' : ParentHalf
    p' = parent_half_at s' fresh_memory n' c t

    abbrev r0 : Reading
    r0 = reading_from root manager outcome above p k v

    abbrev left : List Record
    left = left_of n j

    abbrev rest : List Record
    rest = drop j n.unforced

    abbrev front : ParentFront
    front = parent_front c left

    abbrev forced : ParentFront
    forced = parent_front c n'.forced

    abbrev l : Lost (parent_front c (left_of n j)) (parent_front c n'.forced) (has (is_abort c) new)
        (parent_half_at s m n c t) (parent_half_at s' fresh_memory n' c t)
    l = lost c t n n' j new s s' m fit now closed

    common : Common r0
    common = common_of pr r0 inv

    in_whole : (q : Record → Bool) → has q (kept n) ≡ has q (left ++ rest)
    in_whole q = ap (has q) (sym (whole n j))

    pub fronts : IsParentFront (parent_front c (left_of n j)) r0
    fronts =
        is_front c left rest n.forced (subst (AllFit []) (sym (whole n j)) fit)
        (λ q e. in_first q n.forced _ e) r0
        (record {
          collecting = in_whole (is_collecting c);
          own_prepare = in_whole (is_prepare c);
          commit = in_whole (is_commit c);
          abort = in_whole (is_abort c);
          end = in_whole (is_end c);
          collecting_before = λ e. e;
          own_prepare_before = λ e. e;
          commit_before = λ e. e;
        })

    promise_within : has (is_prepare c) n'.forced ≡ true → has (is_prepare c) left ≡ true
    promise_within e = sym l.own_prepare_kept ∙ in_first (is_prepare c) n'.forced n'.unforced e

    commit_within : has (is_commit c) n'.forced ≡ true → has (is_commit c) left ≡ true
    commit_within e = sym l.commit_kept ∙ in_first (is_commit c) n'.forced n'.unforced e

    none_promised : has (is_abort c) new ≡ true → has (is_prepare c) left ≡ false
    none_promised e = (is_alone c left _ _ _ _ _ (alone e)).no_prepare

    collecting_then : has (is_abort c) new ≡ true → has (is_collecting c) (kept n) ≡ true
    collecting_then e = fronts.had_collecting (is_alone c left _ _ _ _ _ (alone e)).collects

    abandoned_by : (q : Presumption) → pr ≡ q → root ≡ false → has (is_abort c) new ≡ true → v.read_up ≡ false
        → (is_live p.phase || (p.own_prepare_kept || r0.refused)) ≡ true
    abandoned_by PresumeAbort e f g h =
        absurd (ends (sym (collecting_then g) ∙ (subst (λ x. InvariantOf x r0) e inv).never_collects))
      where
        ends : true ≡ false → ⊥
        ends x = cc
    abandoned_by PresumeCommit e f g h =
        abandoned_so r0 (subst (λ x. InvariantOf x r0) e inv) f (collecting_then g) h

    obeyed : p'.obeyed_abort
        ≡ ((has (is_abort c) new && has (is_prepare c) n.life) || p.obeyed_abort)
    obeyed =
        ap (follows (is_abort c) (is_prepare c)) life_so
        ∙ (follows-new (is_abort c) (is_prepare c) (reverse new) n.life
        (has-reverse (is_prepare c) new ∙ now.none_new (is_prepare c) (λ d ts. refl) (λ b. refl))
        ∙ ap (λ b. (b && has (is_prepare c) n.life) || p.obeyed_abort) (has-reverse (is_abort c) new))

    -- Below the root: what was heard up has no promise.

    pub refused_below : root ≡ false → (v.read_up ≡ true → has (is_prepare c) n.life ≡ false)
        → refused_by false outcome p' v ≡ refused_lost false outcome front p v
    refused_below below quiet =
        rw (obeyed, l.own_prepare_kept, l.own_prepare_ever, closed)
        (refused-below p.obeyed_abort p.own_prepare_kept p.own_prepare_ever (is_live p.phase) v.given
        v.read_up
        front.own_prepare forced.own_prepare (has (is_abort c) new) (has (is_prepare c) n.life) live
        fronts.had_own_prepare promise_within says.once asked none_promised abandoned)
      where
        rb : Reading
        rb = reading_from false manager outcome above p k v

        same : rb ≡ r0
        same = ap (λ x. reading_from x manager outcome above p k v) (sym below)

        says : BelowSays rb front
        says = subst (λ (x : Reading). BelowSays x front) (sym same) (below_says r0 front common fronts)

        live : is_live p.phase ≡ true → (v.given ≡ true) × ((v.read_up ≡ false)
            × ((p.own_prepare_kept ≡ false) × (p.own_prepare_ever ≡ false)))
        live e = says.live e

        asked : p.own_prepare_kept ≡ true → (v.given ≡ true) × (v.read_up ≡ false)
        asked e = says.asked e

        abandoned : has (is_abort c) new ≡ true → has (is_prepare c) n.life ≡ true
            → (is_live p.phase || (p.own_prepare_kept || rb.refused)) ≡ true
        abandoned e f =
            ap (λ (x : Reading). is_live p.phase || (p.own_prepare_kept || x.refused)) same
            ∙ abandoned_by pr refl below e (unless v.read_up f quiet)
          where
            unless : (b : Bool) → has (is_prepare c) n.life ≡ true
                → (b ≡ true → has (is_prepare c) n.life ≡ false) → b ≡ false
            unless true g h = absurd (ends (sym g ∙ h refl))
              where
                ends : true ≡ false → ⊥
                ends x = cc
            unless false g h = refl

    -- At the root.

    pub refused_root : root ≡ true → p'.begun ≡ p.begun
        → refused_by true (forced.commit || outcome) p' v ≡ refused_lost true outcome front p v
    refused_root at_top same_begun =
        rw (same_begun, l.commit_kept, closed)
        (refused-root p.commit_kept front.commit forced.commit outcome p.begun (is_live p.phase)
        p.own_prepare_kept front.own_prepare live begun says.once fronts.had_commit commit_within says.none)
      where
        rt : Reading
        rt = reading_from true manager outcome above p k v

        same : rt ≡ r0
        same = ap (λ x. reading_from x manager outcome above p k v) (sym at_top)

        says : RootSays rt front
        says = subst (λ (x : Reading). RootSays x front) (sym same) (root_says r0 front at_top common fronts)

        live : is_live p.phase ≡ true → (p.begun ≡ true) × ((outcome ≡ false) × (p.commit_kept ≡ false))
        live e = says.live e

        begun : p.commit_kept ≡ true → p.begun ≡ true
        begun e = says.begun e
