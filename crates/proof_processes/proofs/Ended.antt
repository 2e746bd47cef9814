-- A case that its root ended by an abort, and what then holds of it.
use Rattle.std.proofs.Common.{◌≡◌, ◌||◌, ◌⊎◌, Bool, true, false, List, [], ◌∷◌, refl, arith, ◌&&◌}
use Rattle.std.specs.List.{list_any}
use Rattle.protocol.specs.declared.names.Case.{Case}
use Rattle.protocol.specs.declared.names.Txn.{Txn}
use Rattle.protocol.specs.declared.events.Told.{Told}
use Rattle.protocol.specs.Names.{root_case}
use Rattle.protocol.specs.Records.{has, is_commit, is_abort, is_collecting}
use Rattle.protocol.specs.Nodes.{Place, Node, kept}
use Rattle.protocol.specs.Memory.{memory_of}
use Rattle.protocol.specs.Outcomes.{is_told_aborted}
use Rattle.proof_pairs.specs.readings.ReadingOf.{is_told_of_txn}
use Rattle.proof_processes.specs.Lasts.{Logs, logs_of, standing}
use Rattle.proof_processes.specs.WorldHolds.{is_record_of}
use Rattle.proof_processes.proofs.CoordinatorKept.{IsLive}
use Rattle.proof_processes.proofs.RootCases.{InHistory, recorded, told, found_undecided}
use Rattle.proof_processes.proofs.RootHistories.{among}
use Rattle.proof_processes.proofs.Worlds.{has_other}

-- The case was ended by an abort: `aborted` was told of it, an Abort of it was appended, or a restart found
-- it undecided.
pub data IsEnded (n : Node) (c : Case) : Type 0 where
  by_telling : (x : Txn) → c ≡ root_case x → list_any (is_told_aborted x) n.told ≡ true → IsEnded n c
  by_abort : has (is_abort c) n.life ≡ true → IsEnded n c
  by_finding : (x : Txn) → c ≡ root_case x → among x n.found_undecided ≡ true → IsEnded n c

-- it takes no votes any more, and has no Commit, nor had one in the forced front
pub record Dead (place : Place) (n : Node) (c : Case) : Type 0 where
  pub closed : n.failed ≡ false → IsLive (memory_of place n c).phase → ⊥
  pub none_kept : has (is_commit c) (kept n) ≡ false
  pub none_ever : has (is_commit c) n.durable ≡ false

-- a Commit that was in the forced front is there, or no record says that the case collects
abbrev pub CommitStands : Logs → Type 0
CommitStands l = (c : Case) → has (is_commit c) l.durable ≡ true
    → (has (is_commit c) l.forced ≡ true) ⊎ (has (is_collecting c) (standing l) ≡ false)

pub record Never (place : Place) (n : Node) : Type 0 where
  pub stand : CommitStands (logs_of n)
  pub dead : (c : Case) → IsEnded n c → Dead place n c

-- what was ended is in the histories
told_any : (x : Txn) (ts : List Told) → list_any (is_told_aborted x) ts ≡ true
    → list_any (is_told_of_txn x) ts ≡ true
told_any x [] e = absurd (cc)
told_any x (t ∷ ts) e = more _ _ _ _ (first_of _ _) (told_any x ts) e
  where
    first_of : (a b : Bool) → (a && b) ≡ true → a ≡ true
    first_of a b f = grind arith

    more : (a b c d : Bool) → (a ≡ true → b ≡ true) → (c ≡ true → d ≡ true) → (a || c) ≡ true
        → (b || d) ≡ true
    more true b c d f g h = rw (f refl) refl
    more false b c d f g h = later b d (g h)
      where
        later : (b d : Bool) → d ≡ true → (b || d) ≡ true
        later b d e = grind arith

pub ended_history : (n : Node) (c : Case) → IsEnded n c → InHistory n c
ended_history n c (by_telling x e f) = told x e (told_any x n.told f)
ended_history n c (by_abort e) =
    recorded (has_other (is_abort c) (is_record_of c) n.life (λ r f. grind arith) e)
ended_history n c (by_finding x e f) = found_undecided x e f
