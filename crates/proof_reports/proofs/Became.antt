-- What a step of a coordinator makes of its log and its life list.
use Rattle.std.proofs.Common.{◌≡◌, ◌∙◌, inl, inr, ℕ, zero, suc, Bool, true, false, Option, Some, None, List, [], ◌∷◌, ◌++◌, take, refl, sym, ap, if◌then◌else◌}
use Rattle.std.specs.Prelude.{reverse}
use Rattle.std.proofs.lemmas.List.{append-nil}
use Rattle.protocol.specs.declared.names.ProcessId.{ProcessId}
use Rattle.protocol.specs.declared.records.Record.{Record}
use Rattle.protocol.specs.declared.records.Record.TheVariants.{Opened}
use Rattle.protocol.specs.declared.trees.TreeProcess.{TreeProcess}
use Rattle.protocol.specs.Records.{boot_of, has, record_case}
use Rattle.protocol.specs.Nodes.{AtRoot, Effect, Heard, Node, Place, Written, appends, entries_written, is_any_forced, kept}
use Rattle.protocol.specs.Restarts.{case_stays, data_records, left_of, reopens, staying, trim_fails, trimmed, trims}
use Rattle.protocol.specs.World.{Move}
use Rattle.protocol.proofs.ListLaws.{kept-after}
use Rattle.proof_pairs.specs.turns.CoordinatorTurns.{CoordinatorTurn}
use Rattle.proof_pairs.specs.turns.Steps.{StepOf, heard_in, handled, failed_in, passed, failed_passing, reopened, failed_reopening, trims_log, failed_trimming}
use Rattle.proof_pairs.proofs.turns.Steps.{turn_of}
use Rattle.proof_processes.specs.Lasts.{logs_of}
use Rattle.proof_processes.proofs.Appends.{breaks_keeps, loses}
use Rattle.proof_processes.proofs.CoordinatorAccepts.{turn_here}
use Rattle.proof_processes.proofs.CoordinatorRestarts.{reopens_same}
use Rattle.proof_processes.proofs.Remembering.{coordinator_place, role_below}
use Rattle.proof_processes.proofs.Tests.{has-nil, in_either, in_first, in_front, in_second, not_both}
use Rattle.proof_processes.proofs.Trims.{trim_left}

-- A trim is the same at each coordinator.

staying_same : (parent : Option ProcessId) (whole rs : List Record)
    → staying (role_below parent) whole rs ≡ staying AtRoot whole rs
staying_same None whole rs = refl
staying_same (Some p) whole [] = refl
staying_same (Some p) whole (r ∷ rs) =
    ap (λ xs. if case_stays whole (record_case r) then r ∷ xs else xs) (staying_same (Some p) whole rs)

pub data_same : (parent : Option ProcessId) (rs : List Record) → data_records (role_below parent) rs ≡ []
data_same None rs = refl
data_same (Some p) rs = refl

trimmed_same : (parent : Option ProcessId) (rs : List Record)
    → trimmed (role_below parent) rs ≡ trimmed AtRoot rs
unfolding trimmed
trimmed_same parent rs =
    ap (λ xs. (Opened (boot_of rs) ∷ xs) ++ data_records (role_below parent) rs) (staying_same parent rs rs)
    ∙ ap (λ xs. (Opened (boot_of rs) ∷ staying AtRoot rs rs) ++ xs) (data_same parent rs)

-- what is in the first list is in the second
abbrev pub Grows : List Record → List Record → Type 0
Grows xs ys = (q : Record → Bool) → has q xs ≡ true → has q ys ≡ true

-- the node after a step: by an input's records, or at rest, or restarted, or trimmed
pub data Became (me : ProcessId) (parent : Option ProcessId) (tree : List TreeProcess)
    (n k : Node) : Type 0 where
  by_turn : (h : Heard) (g : Effect) (new : List Record) → n.failed ≡ false
      → CoordinatorTurn (coordinator_place me parent tree) parent n h g
      → Grows new (entries_written g.written)
      → kept k ≡ kept n ++ new → k.life ≡ reverse new ++ n.life → Grows n.forced k.forced
      → Became me parent tree n k
  at_rest : kept k ≡ kept n → k.life ≡ n.life → Grows n.forced k.forced → Became me parent tree n k
  by_restart : (j : ℕ) (new : List Record) → Grows new (reopens AtRoot (left_of n j))
      → kept k ≡ left_of n j ++ new → k.life ≡ reverse new ++ n.life → Grows n.forced k.forced
      → Became me parent tree n k
  by_trim : kept k ≡ trimmed AtRoot (kept n) → k.life ≡ n.life → k.forced ≡ trimmed AtRoot (kept n)
      → Became me parent tree n k

-- what is left of a log was kept
pub left_kept : (n : Node) (j : ℕ) → Grows (left_of n j) (kept n)
left_kept n j q e = elim (in_either q n.forced (take j n.unforced) e) [
  | inl front ↦ in_first q n.forced n.unforced front
  | inr rest ↦ in_second q n.forced n.unforced (in_front q j n.unforced rest)
]

-- what a trim leaves was kept, but for Opened
pub trim_kept : (rs : List Record) (q : Record → Bool) → ((k : ℕ) → q (Opened k) ≡ false)
    → has q (trimmed AtRoot rs) ≡ true → has q rs ≡ true
trim_kept rs q none e = elim (trim_left q none AtRoot rs e) [
  | inl old ↦ old
  | inr new ↦ not_both q (has q []) new (has-nil q)
]

pub life_after : (n : Node) (ws : List Written) → (appends n ws).life ≡ reverse (entries_written ws) ++ n.life
life_after n ws = by_force (is_any_forced ws) refl
  where
    by_force : (b : Bool) → is_any_forced ws ≡ b → (appends n ws).life
        ≡ reverse (entries_written ws) ++ n.life
    by_force true f = rw f refl
    by_force false f = rw f refl

pub forced_after : (n : Node) (ws : List Written) → Grows n.forced (appends n ws).forced
forced_after n ws q e = by_force (is_any_forced ws) refl
  where
    by_force : (b : Bool) → is_any_forced ws ≡ b → has q (appends n ws).forced ≡ true
    by_force true f = rw f (in_first q (kept n) (entries_written ws) (in_first q n.forced n.unforced e))
    by_force false f = rw f e

pub forced_whole : (n : Node) (ws : List Written) → is_any_forced ws ≡ true
    → (appends n ws).forced ≡ kept n ++ entries_written ws
forced_whole n ws f = rw f refl

module _ (me : ProcessId) (parent : Option ProcessId) (tree : List TreeProcess) (m : Move) (n : Node) where
  abbrev place : Place
  place = coordinator_place me parent tree

  trims_so : (k : Node) → kept k ≡ kept (trims place n) → k.life ≡ (trims place n).life
      → k.forced ≡ (trims place n).forced → Became me parent tree n k
  trims_so k e f g =
      by_trim (e ∙ (append-nil (trimmed (role_below parent) (kept n)) ∙ trimmed_same parent (kept n)))
      (f ∙ ap (λ rs. reverse rs ++ n.life) (data_same parent (kept n))) (g ∙ trimmed_same parent (kept n))

  trim_failed : (j : ℕ) → Became me parent tree n (trim_fails place n j)
  trim_failed zero = at_rest refl refl (λ q e. e)
  trim_failed (suc j) = trims_so (trim_fails place n (suc j)) refl refl refl

  pub became : (e : Effect) (k : Node) → StepOf (coordinator_place me parent tree) n m e k
      → Became me parent tree n k
  became _ _ (handled i g hp np r) =
      by_turn (heard_in m i) g (entries_written g.written) (turn_of place n (heard_in m i) g r).up
      (turn_here me parent tree n (heard_in m i) g r) (λ q e. e) (kept-after n (heard_in m i) g)
      (life_after n g.written) (forced_after n g.written)
  became _ _ (failed_in i f g fl hp np r) =
      by_turn (heard_in m i) g (take f.appended (entries_written g.written))
      (turn_of place n (heard_in m i) g r).up (turn_here me parent tree n (heard_in m i) g r)
      (λ q e. in_front q f.appended (entries_written g.written) e)
      (breaks_keeps (logs_of n) (entries_written g.written) f.appended f.forced) refl
      (λ q e. in_first q n.forced _ e)
  became _ _ (passed i hp r) = at_rest refl refl (λ q e. e)
  became _ _ (failed_passing i f fl hp r) = at_rest refl refl (λ q e. e)
  became _ _ (reopened j hp) =
      by_restart j (reopens AtRoot (left_of n j)) (λ q e. e)
      (append-nil (left_of n j ++ reopens (role_below parent) (left_of n j))
      ∙ ap (λ rs. left_of n j ++ rs) (reopens_same parent (left_of n j)))
      (ap (λ rs. reverse rs ++ n.life) (reopens_same parent (left_of n j)))
      (λ q e. in_first q (left_of n j) _ (in_first q n.forced _ e))
  became _ _ (failed_reopening j f fl hp) =
      by_restart j (take f.appended (reopens (role_below parent) (left_of n j)))
      (λ q e. ap (has q) (sym (reopens_same parent (left_of n j)))
      ∙ in_front q f.appended (reopens (role_below parent) (left_of n j)) e)
      (breaks_keeps (loses (logs_of n) j) (reopens (role_below parent) (left_of n j)) f.appended f.forced)
      refl
      (λ q e. in_first q n.forced _ e)
  became _ _ (trims_log hp up) = trims_so (trims place n) refl refl refl
  became _ _ (failed_trimming f fl hp up) = trim_failed f.appended
