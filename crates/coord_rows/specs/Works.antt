-- Works that are not sent.
use Rattle.std.specs.Prelude.{◌≤◌, ◌^◌, ⊤, ℕ}
use Rattle.protocol.specs.declared.events.StepError.{StepError}
use Rattle.protocol.specs.declared.events.StepError.TheVariants.{Exhausted, Memory}

-- why a work with this number is not sent: memory was refused, or works are not counted so far
abbrev pub NotSent : ℕ → StepError → Type 0
NotSent n Memory = ⊤
NotSent n Exhausted = 2 ^ 64 ≤ n
NotSent n e = ⊥
