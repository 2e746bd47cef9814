-- A process over an empty store whose device does not fail is refused for memory alone.
use Rattle.std.proofs.Common.{◌≡◌, ℕ, Some, List, [], refl, arith}
use Rattle.protocol.specs.declared.names.ProcessId.{ProcessId}
use Rattle.tree_process.specs.declared.opening.ProcessOpenError.{ProcessOpenError}
use Rattle.tree_process.specs.declared.opening.ProcessOpenError.TheVariants.{Memory, Device, Store}
use Rattle.tree_process.specs.Openings.{ProcessNotOpened}

pub memory_alone : {L : Type 0} (bytes : L → List ℕ) (failures : L → ℕ) (p : ProcessId) (store : L)
    (e : ProcessOpenError) → ((s : L) → failures s ≡ 0) → bytes store ≡ []
    → ProcessNotOpened bytes failures p (Some store) e → e ≡ Memory
memory_alone bytes failures p store Memory never empty h = refl
memory_alone bytes failures p store (Device q) never empty h =
    absurd (omega (arith, never store, never h.1.left, h.1.more))
memory_alone bytes failures p store (Store q) never empty h = absurd (h.1 empty)
