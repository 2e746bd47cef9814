-- A fault in a turn of the pair's own case, by what was appended.
use Rattle.std.proofs.Common.{◌≡◌, ◌∙◌, ◌⊎◌, inl, inr, ℕ, zero, suc, Bool, List, [], ◌∷◌, take, refl, sym, ap}
use Rattle.std.proofs.Math.Seq.{take-nil}
use Rattle.protocol.specs.declared.records.Record.{Record}
use Rattle.protocol.specs.Records.{boot_after, boot_of, has, in_list, is_prepare}
use Rattle.protocol.specs.Nodes.{Effect, entries_written, fails_in, kept}
use Rattle.protocol.specs.Memory.{Memory, Phase}
use Rattle.proof_pairs.specs.readings.ReadingOf.{ParentHalf, Wire}
use Rattle.proof_processes.specs.WorldHolds.{InOrder}
use Rattle.proof_steps.proofs.parents.FaultHears.{Hears}
use Rattle.proof_steps.proofs.parents.FaultNothing.{half_so, nothing_appended}
use Rattle.proof_steps.proofs.parents.Faults.{Fault_fine, cut, down, fault_fits, half_fails, half_fails_behind, heard_so, parent_front}
use Rattle.proof_steps.proofs.parents.Halves.{acked_of}
use Rattle.proof_steps.proofs.parents.Turns.{Turn, Says, Fits_in, seen, remembered, half, net_part, told_outcome, at_root}
use Rattle.proof_steps.proofs.parents.Writes.{begun_after, wrote}

-- what was appended of one record, or of none
pub left_one : (x : ℕ) (r : Record) → (take x (r ∷ []) ≡ []) ⊎ (take x (r ∷ []) ≡ r ∷ [])
left_one zero r = inl refl
left_one (suc x) r = inr (ap (λ l. r ∷ l) (take-nil {A = Record} x))

module _ (turn : Turn) where
  open turn use {place, parent, n, h, net, c, t, manager, above, k, up, inv, nested}

  abbrev m : Memory
  m = remembered turn

  abbrev p0 : ParentHalf
  p0 = half turn

  abbrev v0 : Wire
  v0 = net_part turn

  abbrev o0 : Bool
  o0 = told_outcome turn

  abbrev root : Bool
  root = at_root turn

  abbrev promised : Bool
  promised = has (is_prepare c) n.life

  module _ (e : Effect) (x f : ℕ) (order : InOrder c (kept (fails_in n h e x f))) where
    abbrev left : List Record
    left = take x (entries_written e.written)

    -- nothing was written
    pub none_written : e.written ≡ [] → Hears turn e → Fault_fine turn e x f
    none_written none y =
        nothing_appended turn e x f order y
        (ap (λ ws. take x (entries_written ws)) none ∙ take-nil {A = Record} x)

    -- a record of the case was appended
    pub record_appended : (r : Record) → left ≡ r ∷ [] → ((j : ℕ) → boot_after j r ≡ j)
        → (ph : Phase) (a b : Bool)
        → Says turn ph a b
        → (q : ParentHalf) → heard_so e c t p0 ≡ q
        → Fits_in turn (seen turn o0 (down a b (begun_after ph (fails_in n h e x f) c)
        (wrote r c t promised q)) v0)
        → Fault_fine turn e x f
    record_appended r one stays ph a b s q is fits =
        let now = begun_after ph (fails_in n h e x f) c in
        fault_fits turn e x f order (down a b now (wrote r c t promised q))
        (half_so turn e x f ph a b s (rw one (stays (boot_of (kept n))))
        ∙ (half_fails_behind m.phase ph (in_list m.accepted t) a (acked_of m c t) b n h e x f c t
        (nested.forced_is_old (is_prepare c)) r one
        ∙ ap (λ (p : ParentHalf). cut (parent_front c (fails_in n h e x f).forced)
        (down a b now (wrote r c t promised p))) is))
        refl (ap (λ (p : ParentHalf). p.collecting_forced) (sym is))
        (ap (λ (p : ParentHalf). p.own_prepare_forced) (sym is))
        (ap (λ (p : ParentHalf). p.commit_forced) (sym is)) fits

    -- nothing was appended
    pub nothing_as : left ≡ [] → (ph : Phase) (a b : Bool) → Says turn ph a b → (q : ParentHalf)
        → heard_so e c t p0 ≡ q
        → Fits_in turn (seen turn o0 (down a b (begun_after ph (fails_in n h e x f) c) q) v0)
        → Fault_fine turn e x f
    nothing_as none ph a b s q is fits =
        let now = begun_after ph (fails_in n h e x f) c in
        fault_fits turn e x f order (down a b now q)
        (half_so turn e x f ph a b s (rw none refl)
        ∙ (half_fails m.phase ph (in_list m.accepted t) a (acked_of m c t) b n h e x f c t
        (nested.forced_is_old (is_prepare c)) none
        ∙ ap (λ (p : ParentHalf). cut (parent_front c (fails_in n h e x f).forced) (down a b now p)) is))
        refl (ap (λ (p : ParentHalf). p.collecting_forced) (sym is))
        (ap (λ (p : ParentHalf). p.own_prepare_forced) (sym is))
        (ap (λ (p : ParentHalf). p.commit_forced) (sym is)) fits

    -- the record was appended, or not
    pub one_written : (r : Record) → entries_written e.written ≡ r ∷ [] → Hears turn e
        → (left ≡ r ∷ [] → Fault_fine turn e x f) → Fault_fine turn e x f
    one_written r one y g = elim (left_one x r) [
      | inl none ↦ nothing_appended turn e x f order y (ap (λ l. take x l) one ∙ none)
      | inr all ↦ g (ap (λ l. take x l) one ∙ all)
    ]
