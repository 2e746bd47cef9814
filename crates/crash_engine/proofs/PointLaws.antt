-- Records that a crash may take, and that take too many bytes.
use Rattle.std.proofs.Common.{◌≡◌, ◌∙◌, ◌⊎◌, ap, sym, subst, ℕ, ◌<◌, ◌≤◌, ◌^◌, List, length, get_or, inl, inr}
use Rattle.std.specs.Prelude.{sum}
use Rattle.protocol.specs.declared.trees.TreeProcess.{TreeProcess}
use Rattle.tree_state.specs.Worlds.{WorldState}
use Rattle.report_io.specs.declared.streams.Failure.{Failure}
use Rattle.report_io.specs.declared.streams.Failure.TheVariants.{Memory, Exhausted}
use Rattle.crash_engine.specs.Points.{AreTooLong, sizes_at}

-- the records of the process at a place take too many bytes
pub too_long : (w : WorldState) (i : ℕ) (e : TreeProcess) (entries : List TreeProcess) (sizes : List ℕ)
    (why : Failure) → entries ≡ w.tree → i < length entries → e ≡ get_or entries i e → sizes ≡ sizes_at w e.id
    → (why ≡ Memory) ⊎ ((why ≡ Exhausted) × (2 ^ 64 ≤ sum sizes))
    → (why ≡ Memory) ⊎ ((why ≡ Exhausted) × AreTooLong w)
too_long w i e entries sizes why all within is of_sizes (inl memory) = inl memory
too_long w i e entries sizes why all within is of_sizes (inr h) = inr (
  h.0,
  record {
    entry = e;
    listed = (
      i,
      subst (λ (es : List TreeProcess). i < length es) all within,
      sym (is ∙ ap (λ (es : List TreeProcess). get_or es i e) all),
    );
    long = subst (λ ns. 2 ^ 64 ≤ sum ns) of_sizes h.1;
  },
)
