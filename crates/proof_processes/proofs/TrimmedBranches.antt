-- What a trim leaves of a manager's branch: all of its records where it is open, and none where it is over.
use Rattle.std.proofs.Common.{◌≡◌, ◌∙◌, ◌&&◌, inl, inr, Bool, true, false, List, [], ◌∷◌, refl, if◌then◌else◌}
use Rattle.std.specs.Prelude.{not}
use Rattle.protocol.specs.declared.names.Case.{Case}
use Rattle.protocol.specs.declared.names.ProcessId.{ProcessId}
use Rattle.protocol_words.specs.Variants.{CaseBranch}
use Rattle.protocol.specs.declared.records.Record.{Record}
use Rattle.protocol.specs.declared.records.Record.TheVariants.{Opened}
use Rattle.protocol.specs.Records.{has, boot_of}
use Rattle.protocol.specs.Nodes.{AtLeaf}
use Rattle.protocol.specs.Standings.{Mark, Unmarked, mark_of, mark_after}
use Rattle.protocol.specs.Restarts.{is_open, stays, staying, data_records, trimmed}
use Rattle.proof_processes.specs.Marks.{is_branch_record, in_order_from}
use Rattle.proof_processes.proofs.Tests.{either, left, right, both, neither, has-cons, in_first, in_none}
use Rattle.proof_processes.proofs.Orders.{marks, none_promised}
use Rattle.proof_processes.proofs.Trims.{there_if, own_stays, dropped, data_is_other}

abbrev with_if : Bool → Record → List Record → List Record
with_if b r rs = if b then r ∷ rs else rs

there_now : (q : Record → Bool) (b : Bool) (r : Record) (ls : List Record) → b ≡ true → q r ≡ true
    → has q (with_if b r ls) ≡ true
there_now q b r ls e f = rw e (has-cons q r ls ∙ left _ _ f)

module _ (p : ProcessId) (whole : List Record) (d : Case) where
  all_true : (a b : Bool) → a ≡ true → b ≡ false → (a && not b) ≡ true
  all_true a b e f = rw (e, f) refl

  -- a branch that is open keeps each of its records
  stays_there : is_open (mark_of (CaseBranch d) whole) ≡ true → (q : Record → Bool)
      → ((r : Record) → q r ≡ true → is_branch_record d r ≡ true)
      → (m : Mark) (rs : List Record) → in_order_from d m rs ≡ true → has q rs ≡ true
      → has q (staying (AtLeaf p) whole rs) ≡ true
  unfolding in_order_from has
  stays_there opened q own m [] e f = absurd (cc)
  stays_there opened q own m (r ∷ rs) e f =
      let b = both _ _ e in
      elim (either _ _ f) [
        | inl now ↦ there_now q (stays (AtLeaf p) whole rs r) r (staying (AtLeaf p) whole rs)
            (own_stays p whole d r rs (own r now)
            ∙ all_true _ _ opened
            (none_promised d (mark_after (CaseBranch d) m r) rs (marks d m r (own r now)) b.1)) now
        | inr rest ↦ there_if q (stays (AtLeaf p) whole rs r) r (staying (AtLeaf p) whole rs)
            (stays_there opened q own (mark_after (CaseBranch d) m r) rs b.1 rest)
      ]

-- The log that a trim leaves has what stood there of an open branch.
pub trim_keeps : (p : ProcessId) (d : Case) (rs : List Record) → in_order_from d Unmarked rs ≡ true
    → is_open (mark_of (CaseBranch d) rs) ≡ true → (q : Record → Bool)
    → ((r : Record) → q r ≡ true → is_branch_record d r ≡ true)
    → has q rs ≡ true → has q (trimmed (AtLeaf p) rs) ≡ true
unfolding trimmed
trim_keeps p d rs order opened q own e =
    in_first q (Opened (boot_of rs) ∷ staying (AtLeaf p) rs rs) (data_records (AtLeaf p) rs)
    (has-cons q (Opened (boot_of rs)) (staying (AtLeaf p) rs rs)
    ∙ right _ _ (stays_there p rs d opened q own Unmarked rs order e))

-- It has nothing of a branch that is over.
pub trim_forgets : (p : ProcessId) (d : Case) (rs : List Record)
    → is_open (mark_of (CaseBranch d) rs) ≡ false → has (is_branch_record d) (trimmed (AtLeaf p) rs) ≡ false
unfolding trimmed
trim_forgets p d rs over =
    in_none (is_branch_record d) (Opened (boot_of rs) ∷ staying (AtLeaf p) rs rs)
    (data_records (AtLeaf p) rs)
    (has-cons (is_branch_record d) (Opened (boot_of rs)) (staying (AtLeaf p) rs rs)
    ∙ neither _ _ refl (dropped p rs d over rs))
    (data_is_other (is_branch_record d) (λ k v. refl) (λ k. refl) (AtLeaf p) rs)
