-- A fault after which nothing of the pair's case was appended: nothing at all, or a record of another case.
use Rattle.std.proofs.Common.{◌≡◌, ◌∙◌, ℕ, Bool, true, ◌||◌, List, [], ◌∷◌, take, refl, sym, ap}
use Rattle.std.specs.Prelude.{fold}
use Rattle.std.specs.List.{list_any}
use Rattle.std.proofs.lemmas.Grind.{fold-append}
use Rattle.protocol.specs.declared.records.Record.{Record}
use Rattle.protocol.specs.Names.{same_txn}
use Rattle.protocol.specs.Records.{boot_of, boot_after, has, in_list, is_commit, is_prepare}
use Rattle.protocol.specs.Nodes.{Node, Effect, fails_in, entries_written, kept}
use Rattle.protocol.specs.Memory.{Memory, Phase, fresh_memory, memory_of, remembers}
use Rattle.proof_pairs.specs.readings.ReadingOf.{ParentHalf, parent_half, is_begun, is_told_of_txn}
use Rattle.proof_pairs.proofs.readings.Lists.{has-cons}
use Rattle.proof_processes.specs.Lasts.{logs_of}
use Rattle.proof_processes.specs.WorldHolds.{InOrder}
use Rattle.proof_processes.proofs.Appends.{breaks_keeps}
use Rattle.proof_processes.proofs.Boots.{boot_append}
use Rattle.proof_steps.proofs.parents.FaultHears.{Hears, failing}
use Rattle.proof_steps.proofs.parents.Faults.{Fault_fine, cut, down, fault_fits, half_fails, half_fails_behind, heard_so, parent_front}
use Rattle.proof_steps.proofs.parents.Halves.{half_is_down, half_of, remembered_half, acked_of}
use Rattle.proof_steps.proofs.parents.Quiet.{Unrelated}
use Rattle.proof_steps.proofs.parents.Turns.{Turn, Says, remembered, then_remembered, half}
use Rattle.proof_steps.proofs.parents.Writes.{begun_after}

module _ (turn : Turn) where
  open turn use {place, n, h, net, c, t, up, nested}

  abbrev m : Memory
  m = remembered turn

  abbrev m' : Memory
  m' = then_remembered turn

  abbrev p0 : ParentHalf
  p0 = half turn

  module _ (e : Effect) (x f : ℕ) where
    abbrev pub then : Node
    then = fails_in n h e x f

    abbrev left : List Record
    left = take x (entries_written e.written)

    same_boot : fold boot_after (boot_of (kept n)) left ≡ boot_of (kept n) → boot_of (kept then)
        ≡ boot_of (kept n)
    same_boot g =
        ap boot_of (breaks_keeps (logs_of n) (entries_written e.written) x f)
        ∙ (boot_append (kept n) left ∙ g)

    remembers_so : fold boot_after (boot_of (kept n)) left ≡ boot_of (kept n) → memory_of place then c ≡ m'
    unfolding memory_of
    remembers_so g =
        ap (λ (j : ℕ). fold (remembers place.me place.role j c) fresh_memory then.heard) (same_boot g)
        ∙ fold-append _ _ n.heard (h ∷ [])

    -- the half by what is remembered then
    pub half_so : (ph : Phase) (a k : Bool) → Says turn ph a k → fold boot_after (boot_of (kept n)) left
        ≡ boot_of (kept n)
        → parent_half place then c t ≡ half_of ph a k then c t
    half_so ph a k s g =
        half_is_down place then c t refl
        ∙ (ap (λ (y : Memory). remembered_half y then c t) (remembers_so g)
        ∙ rw (s.phase, s.accepted_so, s.acked_so) refl)

    begun_if : (ph : Phase) → is_begun ph ≡ true → begun_after ph then c ≡ true
    begun_if ph e =
        ap (λ b. b || list_any (is_told_of_txn c.txn) n.told || list_any (λ y. same_txn y c.txn)
        n.found_undecided ||
        has (is_commit c) then.life) e

    pub begun_still : (ph : Phase) → has (is_commit c) then.life ≡ has (is_commit c) n.life → is_begun ph
        ≡ is_begun m.phase
        → begun_after ph then c ≡ p0.begun
    begun_still ph g e =
        ap (λ b. b || list_any (is_told_of_txn c.txn) n.told || list_any (λ y. same_txn y c.txn)
        n.found_undecided ||
        has (is_commit c) then.life) e
        ∙ ap (λ b. is_begun m.phase || list_any (is_told_of_txn c.txn) n.told || list_any
        (λ y. same_txn y c.txn) n.found_undecided || b) g

    module _ (order : InOrder c (kept then)) (y : Hears turn e) where
      abbrev now : Bool
      now = begun_after y.phase then c

      forced_as : (g : ParentHalf → Bool) → g (heard_so e c t p0) ≡ g p0 → g y.half_then ≡ g p0
      forced_as g i = ap g (sym y.is) ∙ i

      fails_so : fold boot_after (boot_of (kept n)) left ≡ boot_of (kept n)
          → has (is_commit c) then.life ≡ has (is_commit c) n.life
          → half_of y.phase y.accepted y.acked then c t
          ≡ cut (parent_front c then.forced) (down y.accepted y.acked now (heard_so e c t p0))
          → Fault_fine turn e x f
      fails_so g i half_is =
          fault_fits turn e x f order (down y.accepted y.acked now y.half_then)
          (half_so y.phase y.accepted y.acked y.says g
          ∙ (half_is ∙ ap (λ (p : ParentHalf). cut (parent_front c then.forced)
          (down y.accepted y.acked now p)) y.is))
          refl (forced_as (λ p. p.collecting_forced) refl) (forced_as (λ p. p.own_prepare_forced) refl)
          (forced_as (λ p. p.commit_forced) refl)
          (failing turn e y now (begun_if y.phase) (begun_still y.phase i))

      pub nothing_appended : left ≡ [] → Fault_fine turn e x f
      nothing_appended none =
          fails_so (rw none refl) (rw none refl)
          (half_fails m.phase y.phase (in_list m.accepted t) y.accepted (acked_of m c t) y.acked n h e x f c t
          (nested.forced_is_old (is_prepare c)) none)

      pub appended_elsewhere : (r : Record) → left ≡ r ∷ [] → Unrelated turn r → Fault_fine turn e x f
      appended_elsewhere r one u =
          fails_so (rw one (u.boot (boot_of (kept n))))
          (rw one (has-cons (is_commit c) r n.life ∙ rw (u.commits) refl))
          (half_fails_behind m.phase y.phase (in_list m.accepted t) y.accepted (acked_of m c t) y.acked n
          h e x f c t
          (nested.forced_is_old (is_prepare c)) r one
          ∙ ap (λ (p : ParentHalf). cut (parent_front c then.forced) (down y.accepted y.acked now p))
          (u.same (has (is_prepare c) n.life) (heard_so e c t p0)))
