-- The logs of the processes, one after another.
use Rattle.std.specs.List.{All}
use Rattle.std.proofs.Common.{◌≡◌, sym, subst, ℕ, ◌+◌, ◌<◌, List, [], ◌∷◌, ◌++◌, length, get_or, take}
use Rattle.std.proofs.lemmas.List.{take_more}
use Rattle.protocol.specs.declared.trees.TreeProcess.{TreeProcess}
use Rattle.log_script.specs.declared.line.ProcessLog.{ProcessLog}
use Rattle.tree_state.specs.Worlds.{WorldState}
use Rattle.tree_world.specs.Nodes.{SpellsLogBy}
use Rattle.tree_world.specs.LogsLeft.{AreByteLogs, AreLogs, LogStandsBy, LogsStand}

one_more : (w : WorldState) (es : List TreeProcess) (ls : List ProcessLog) (e : TreeProcess)
    (l : ProcessLog) → AreLogs w es ls
    → l.process ≡ e.id → SpellsLogBy (w.node_at e.id) l.bytes → AreLogs w (es ++ e ∷ []) (ls ++ l ∷ [])
one_more w [] [] e l are name spells = (name, spells, tt)
one_more w [] (m ∷ ls) e l are name spells = absurd are
one_more w (f ∷ es) [] e l are name spells = absurd are
one_more w (f ∷ es) (m ∷ ls) e l are name spells = (are.0, are.1, one_more w es ls e l are.2 name spells)

-- one log more
pub tell_more : (w : WorldState) (es : List TreeProcess) (ls more : List ProcessLog) (i : ℕ)
    (e : TreeProcess) (l : ProcessLog)
    → i < length es → e ≡ get_or es i e → more ≡ ls ++ l ∷ [] → l.process ≡ e.id
    → SpellsLogBy (w.node_at e.id) l.bytes
    → AreLogs w (take i es) ls → AreLogs w (take (i + 1) es) more
tell_more w es ls more i e l lt is pushed name spells are =
    rw (take_more es i e lt, ← is) (subst (λ xs. AreLogs w (take i es ++ e ∷ []) xs) (sym pushed)
    (one_more w (take i es) ls e l are name spells))

-- one log more of bytes
pub bytes_more : (ls more : List ProcessLog) (l : ProcessLog) → more ≡ ls ++ l ∷ []
    → All (λ b. b < 256) l.bytes
    → AreByteLogs ls → AreByteLogs more
bytes_more ls more l is bytes all = subst AreByteLogs (sym is) (behind ls all)
  where
    behind : (ls : List ProcessLog) → AreByteLogs ls → AreByteLogs (ls ++ l ∷ [])
    behind [] h = (bytes, tt)
    behind (m ∷ ls) h = (h.0, behind ls h.1)

-- one log more that stands
pub stands_more : (w : WorldState) (es : List TreeProcess) (i : ℕ) (e : TreeProcess) → i < length es
    → e ≡ get_or es i e
    → LogStandsBy (w.node_at e.id) → LogsStand w (take i es) → LogsStand w (take (i + 1) es)
stands_more w es i e lt is stands h = rw (take_more es i e lt, ← is) (behind (take i es) h)
  where
    behind : (fs : List TreeProcess) → LogsStand w fs → LogsStand w (fs ++ e ∷ [])
    behind [] h = (stands, tt)
    behind (f ∷ fs) h = (h.0, behind fs h.1)
