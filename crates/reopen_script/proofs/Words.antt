-- A line whose first word is `log` is not an event.
use Rattle.std.proofs.Common.{◌≡◌, ◌∙◌, ap, refl, ℕ, true, codes, Option, Some, None, List}
use Rattle.spellings.specs.Words.{cut_at}
use Rattle.protocol.specs.declared.names.ProcessId.{ProcessId}
use Rattle.tree_script.specs.Events.{event_at, event_parts, plain_at}
use Rattle.tree_script.proofs.Misses.{same_tells}
use Rattle.reopen_script.specs.Ahead.{is_log, log_word}

plain_log : (root : ProcessId) (rest : List ℕ) → plain_at root (codes "log") rest ≡ None
unfolding plain_at
plain_log root rest = refl

parts_log : (root : ProcessId) (line : List ℕ) (o : Option (List ℕ × List ℕ)) → log_word line o ≡ true
    → event_parts root line o ≡ None
parts_log root line None h =
    ap (λ (w : List ℕ). event_parts root w None) (same_tells line (codes "log") h)
parts_log root line (Some p) h =
    ap (λ (w : List ℕ). event_parts root line (Some (w, p.1))) (same_tells p.0 (codes "log") h)
    ∙ plain_log root p.1

pub no_event : (root : ProcessId) (line : List ℕ) → is_log line ≡ true → event_at root line ≡ None
unfolding is_log event_at
no_event root line h = parts_log root line (cut_at 32 line) h
