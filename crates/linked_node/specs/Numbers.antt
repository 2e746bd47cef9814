-- The numbers that calls answer.
use Rattle.std.specs.Prelude.{◌≡◌, ◌⊎◌, ℕ}
use Rattle.node_engine.specs.declared.failure.NodeFailure.{NodeFailure}
use Rattle.node_engine.specs.declared.failure.NodeFailure.TheVariants.{Read, Memory, Write, Device, Exhausted}

-- of a node that no longer answers a line
abbrev pub failure_number : NodeFailure → ℕ
failure_number Read = 20
failure_number Memory = 21
failure_number Write = 22
failure_number Device = 23
failure_number Exhausted = 24

-- of an answer: it is there, or it waits for calls of the log's file
abbrev pub IsAnswerNumber : ℕ → Type 0
IsAnswerNumber n = (n ≡ 0) ⊎ (n ≡ 27)

-- of what is refused
pub record IsRefusalNumber (n : ℕ) : Type 0 where
  pub not_told : n ≡ 0 → ⊥
  pub not_waiting : n ≡ 27 → ⊥
