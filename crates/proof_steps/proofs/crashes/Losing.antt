-- The parent's half of a pair after a crash: what is left of the log, what was appended for the case, and
-- the reading.
use Rattle.std.proofs.Common.{◌≡◌, ◌∙◌, ◌||◌, ◌&&◌, Bool, true, false, refl, arith}
use Rattle.std.specs.Prelude.{not}
use Rattle.proof_pairs.specs.Reading.{Reading, Closed, is_live}
use Rattle.proof_pairs.specs.ParentCrash
use Rattle.proof_pairs.specs.ParentCrash.{ParentFront, IsParentFront}
use Rattle.proof_pairs.specs.readings.ReadingOf.{ParentHalf, ChildHalf, Wire, reading_from, is_born, is_dead, is_refused}

-- a parent's half after a crash that left this front, whether an Abort of the case was appended, and what
-- is forced then
pub record Lost (front forced : ParentFront) (aborted : Bool) (p p' : ParentHalf) : Type 0 where
  pub phase : p'.phase ≡ Closed
  pub accepted : p'.accepted ≡ false
  pub acked : p'.acked ≡ false
  pub took_part : p'.took_part ≡ p.took_part
  pub first_yes : p'.first_yes ≡ p.first_yes
  pub first_no : p'.first_no ≡ p.first_no
  pub first_read : p'.first_read ≡ p.first_read
  pub told_committed : p'.told_committed ≡ p.told_committed
  pub told_aborted : p'.told_aborted ≡ p.told_aborted
  pub collecting_kept : p'.collecting_kept ≡ front.collecting
  pub own_prepare_kept : p'.own_prepare_kept ≡ front.own_prepare
  pub commit_kept : p'.commit_kept ≡ front.commit
  pub abort_kept : p'.abort_kept ≡ (aborted || front.abort)
  pub end_kept : p'.end_kept ≡ front.end
  pub collects : p'.collects ≡ (front.collecting && p.collects)
  pub names : p'.names ≡ (front.own_prepare && p.names)
  pub owed : p'.owed
      ≡ ((aborted && (front.collecting && p.collects)) || ((front.commit || front.abort) && p.owed))
  pub collecting_forced : p'.collecting_forced ≡ forced.collecting
  pub own_prepare_forced : p'.own_prepare_forced ≡ forced.own_prepare
  pub own_prepare_ever : p'.own_prepare_ever ≡ (forced.own_prepare || p.own_prepare_ever)
  pub commit_forced : p'.commit_forced ≡ forced.commit

-- whether the case has refused, by the half
abbrev pub refused_by : Bool → Bool → ParentHalf → Wire → Bool
refused_by root outcome p v =
    is_refused root (is_dead (p.commit_kept || outcome) (is_live p.phase) p.begun false)
    p.obeyed_abort (is_dead (p.own_prepare_kept || p.own_prepare_ever) (is_live p.phase) v.given v.read_up)

-- what a crash makes of it
abbrev pub refused_lost : Bool → Bool → ParentFront → ParentHalf → Wire → Bool
refused_lost root outcome front p v =
    is_live p.phase || (root && p.commit_kept && not front.commit) ||
    (p.own_prepare_kept && not front.own_prepare)
    || refused_by root outcome p v

module _ (root manager outcome above : Bool) (p p' : ParentHalf) (k : ChildHalf) (v : Wire)
    (front forced : ParentFront)
  where
    abbrev r : Reading
    r = reading_from root manager outcome above p k v

    abbrev outcome' : Bool
    outcome' = (root && forced.commit) || outcome

    -- the device failed, and nothing was appended for the case
    pub reading_broken : Lost front forced false p p' → p'.failed ≡ true
        → is_born root p'.begun v.given ≡ is_born root p.begun v.given
        → refused_by root outcome' p' v ≡ refused_lost root outcome front p v
        → reading_from root manager outcome' above p' k v
        ≡ ParentCrash.hardens_failed_parent forced (ParentCrash.parent_loses front r)
    reading_broken l failed born refused = rw (
      refused,
      born,
      failed,
      l.phase,
      l.accepted,
      l.acked,
      l.took_part,
      l.first_yes,
      l.first_no,
      l.first_read,
      l.told_committed,
      l.told_aborted,
      l.collecting_kept,
      l.own_prepare_kept,
      l.commit_kept,
      l.abort_kept,
      l.end_kept,
      l.collects,
      l.names,
      l.owed,
      l.collecting_forced,
      l.own_prepare_forced,
      l.own_prepare_ever,
      l.commit_forced,
    ) refl

    -- it failed, and an Abort of the case was appended
    pub reading_broken_aborting : Lost front forced true p p' → p'.failed ≡ true
        → p'.owed ≡ (front.collecting && p.collects)
        → is_born root p'.begun v.given ≡ is_born root p.begun v.given
        → refused_by root outcome' p' v ≡ refused_lost root outcome front p v
        → reading_from root manager outcome' above p' k v
        ≡ ParentCrash.hardens_failed_parent forced
        (ParentCrash.fails_to_abort_at_restart (ParentCrash.parent_loses front r))
    reading_broken_aborting l failed owed born refused = rw (
      refused,
      born,
      failed,
      l.phase,
      l.accepted,
      l.acked,
      l.took_part,
      l.first_yes,
      l.first_no,
      l.first_read,
      l.told_committed,
      l.told_aborted,
      l.collecting_kept,
      l.own_prepare_kept,
      l.commit_kept,
      l.abort_kept,
      l.end_kept,
      l.collects,
      l.names,
      owed,
      l.collecting_forced,
      l.own_prepare_forced,
      l.own_prepare_ever,
      l.commit_forced,
    ) refl

module _ (root manager outcome above : Bool) (p p' : ParentHalf) (k : ChildHalf) (v : Wire)
    (front : ParentFront) where
  abbrev old : Reading
  old = reading_from root manager outcome above p k v

  abbrev then : Bool
  then = (root && front.commit) || outcome

  -- the restart, under Presumed Abort: a commit that is owed goes out again
  pub reading_reopened_naming : Lost front front false p p' → p'.failed ≡ false
      → front.collecting ≡ p.collecting_forced
      → is_born root p'.begun v.given ≡ is_born root p.begun v.given
      → refused_by root then p' v ≡ refused_lost root outcome front p v
      → reading_from root manager then above p' k
      (record v {
        commit = (front.commit && not front.end && ((front.commit || front.abort) && p.owed)) || v.commit;
      })
      ≡ ParentCrash.parent_reopens_naming (ParentCrash.parent_loses front old)
  reading_reopened_naming l failed never born refused = rw (
    refused,
    born,
    failed,
    l.phase,
    l.accepted,
    l.acked,
    l.took_part,
    l.first_yes,
    l.first_no,
    l.first_read,
    l.told_committed,
    l.told_aborted,
    l.collecting_kept,
    l.own_prepare_kept,
    l.commit_kept,
    l.abort_kept,
    l.end_kept,
    l.collects,
    l.names,
    l.owed,
    l.collecting_forced ∙ never,
    l.own_prepare_forced,
    l.own_prepare_ever,
    l.commit_forced,
  ) refl

  -- what the front leaves is undecided
  abbrev pub left_undecided : Bool
  left_undecided =
      front.collecting && not front.own_prepare && not front.commit && not front.abort && not front.end

  -- the restart, under Presumed Commit: what is undecided aborts, and an abort that is owed goes out again
  pub reading_reopened : Lost front front left_undecided p p' → p'.failed ≡ false
      → is_born root p'.begun v.given ≡ is_born root p.begun v.given
      → refused_by root then p' v ≡ refused_lost root outcome front p v
      → reading_from root manager then above p' k
      (record v {
        abort = (left_undecided && (front.collecting && p.collects)) ||
            (front.abort && not front.end && ((front.commit || front.abort) && p.owed)) || v.abort;
      })
      ≡ ParentCrash.parent_reopens (ParentCrash.parent_loses front old)
  reading_reopened l failed born refused = rw (
    refused,
    born,
    failed,
    l.phase,
    l.accepted,
    l.acked,
    l.took_part,
    l.first_yes,
    l.first_no,
    l.first_read,
    l.told_committed,
    l.told_aborted,
    l.collecting_kept,
    l.own_prepare_kept,
    l.commit_kept,
    l.abort_kept,
    l.end_kept,
    l.collects,
    l.names,
    l.owed,
    l.collecting_forced,
    l.own_prepare_forced,
    l.own_prepare_ever,
    l.commit_forced,
  ) refl

-- What a crash makes of a case's refusal.

-- a case below the root
pub refused-below : (ob op ev li gi rd fp fo ab said : Bool)
    → (li ≡ true → (gi ≡ true) × ((rd ≡ false) × ((op ≡ false) × (ev ≡ false))))
    → (fp ≡ true → op ≡ true) → (fo ≡ true → fp ≡ true) → (op ≡ true → ev ≡ true → fp ≡ true)
    → (op ≡ true → (gi ≡ true) × (rd ≡ false)) → (ab ≡ true → fp ≡ false)
    → (ab ≡ true → said ≡ true → (li || (op || (ob || is_dead (op || ev) li gi rd))) ≡ true)
    → (((ab && said) || ob) || is_dead (fp || (fo || ev)) false gi rd)
    ≡ (((li || false) || (op && not fp)) || (ob || is_dead (op || ev) li gi rd))
unfolding is_dead
refused-below ob op ev li gi rd fp fo ab said live sub within once asked none abandoned = grind arith

-- the root's case
pub refused-root : (ck fc fo o be li op fp : Bool)
    → (li ≡ true → (be ≡ true) × ((o ≡ false) × (ck ≡ false))) → (ck ≡ true → be ≡ true)
    → (ck ≡ true → o ≡ true → fc ≡ true) → (fc ≡ true → ck ≡ true) → (fo ≡ true → fc ≡ true) → op ≡ false
    → is_dead (fc || (fo || o)) false be false
    ≡ (((li || (ck && not fc)) || (op && not fp)) || is_dead (ck || o) li be false)
unfolding is_dead
refused-root ck fc fo o be li op fp live begun once sub within none = grind arith
