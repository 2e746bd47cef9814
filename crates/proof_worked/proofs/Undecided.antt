-- What restarts found undecided is in the history of such transactions, and nothing else.
use Rattle.std.proofs.Common.{◌≡◌, ◌∙◌, ◌&&◌, ◌||◌, inl, inr, ℕ, zero, suc, Bool, true, false, List, [], ◌∷◌, ◌++◌, refl, sym, ap, arith}
use Rattle.std.proofs.lemmas.List.Folds.{list_any-append}
use Rattle.std.proofs.lemmas.Map.Views.{any-filter_same}
use Rattle.protocol.specs.declared.names.Txn.{Txn}
use Rattle.protocol.specs.declared.events.Happening.{Happening}
use Rattle.protocol.specs.declared.events.Happening.TheVariants.{Restart, Trim}
use Rattle.protocol_words.specs.Variants.{Handles}
use Rattle.protocol.specs.declared.names.ProcessId.{ProcessId}
use Rattle.protocol.specs.declared.trees.TreeProcess.{TreeProcess}
use Rattle.protocol.specs.Names.{same_txn}
use Rattle.protocol.specs.NameLaws.{same_txn_tells}
use Rattle.protocol.specs.Nodes.{after, fails_in, Role, AtRoot, Below, AtLeaf, Effect, Node, Place, Written, appends, is_any_forced, place_of, role_of}
use Rattle.protocol.specs.Restarts.{is_undecided, left_of, restart_fails, restarted, trim_fails, trims, undecided_at}
use Rattle.protocol.specs.World.{IsRun, Made, Move, World, made_by, node_by}
use Rattle.proof_pairs.specs.turns.Steps.{StepOf, heard_in, handled, failed_in, passed, failed_passing, reopened, failed_reopening, trims_log, failed_trimming}
use Rattle.proof_worked.proofs.OverRuns.{over_run}
use Rattle.proof_worked.specs.Histories.{finds_undecided, has_txn, was_found_undecided}

txn_is : (y x : Txn) → same_txn y x ≡ true → y ≡ x
txn_is y x e = elim (same_txn_tells y x) [ inl t ↦ t.1 | inr f ↦ absurd (let g = f.0 in cc) ]

found_at : (role : Role) (n : Node) (k : ℕ) (x : Txn)
    → has_txn x (undecided_at role n (left_of n k)) ≡ finds_undecided role n (Restart k) x
found_at AtRoot n k x =
    any-filter_same (λ y. same_txn y x) (is_undecided n (left_of n k)) (is_undecided n (left_of n k) x)
    (λ y e. ap (is_undecided n (left_of n k)) (txn_is y x e)) n.begun
    ∙ turned (is_undecided n (left_of n k) x) (has_txn x n.begun)
  where
    turned : (a b : Bool) → (a && b) ≡ (b && a)
    turned a b = grind arith
found_at (Below p) n k x = refl
found_at (AtLeaf p) n k x = refl

no_restart : (role : Role) (n : Node) (h : Happening) (x : Txn) → ((k : ℕ) → h ≡ Restart k → ⊥)
    → finds_undecided role n h x ≡ false
no_restart AtRoot n (Restart k) x f = absurd (f k refl)
no_restart AtRoot n (Handles i) x f = refl
no_restart AtRoot n Trim x f = refl
no_restart (Below p) n h x f = refl
no_restart (AtLeaf p) n h x f = refl

module _ (x : Txn) (place : Place) (n : Node) (m : Move) where
  -- it is found after the move just where this was a restart that found it, or it was found before
  abbrev Adds : Node → Type 0
  Adds k = has_txn x k.found_undecided
      ≡ (finds_undecided place.role n m.step.happening x || has_txn x n.found_undecided)

  stays : (k : Node) → k.found_undecided ≡ n.found_undecided
      → ((j : ℕ) → m.step.happening ≡ Restart j → ⊥) → Adds k
  stays k e f =
      ap (has_txn x) e
      ∙ ap (λ b. b || has_txn x n.found_undecided) (sym (no_restart place.role n m.step.happening x f))

  restarts : (k : Node) (j : ℕ) → m.step.happening ≡ Restart j
      → k.found_undecided ≡ undecided_at place.role n (left_of n j) ++ n.found_undecided → Adds k
  restarts k j h e =
      ap (has_txn x) e
      ∙ (list_any-append _ (undecided_at place.role n (left_of n j)) n.found_undecided
      ∙ ap (λ b. b || has_txn x n.found_undecided)
      (found_at place.role n j x ∙ ap (λ y. finds_undecided place.role n y x) (sym h)))

  appended : (ws : List Written) → (appends n ws).found_undecided ≡ n.found_undecided
  appended ws = by_force (is_any_forced ws) refl
    where
      by_force : (b : Bool) → is_any_forced ws ≡ b → (appends n ws).found_undecided ≡ n.found_undecided
      by_force true f = rw f refl
      by_force false f = rw f refl

  step_adds : (e : Effect) (k : Node) → StepOf place n m e k → Adds k
  step_adds _ _ (handled i g hp np r) =
      stays (after n (heard_in m i) g) (appended g.written) (λ j f. absurd (let h = sym hp ∙ f in cc))
  step_adds _ _ (failed_in i f g fl hp np r) =
      stays (fails_in n (heard_in m i) g f.appended f.forced) refl (λ j f. absurd (let h = sym hp ∙ f in cc))
  step_adds _ _ (passed i hp r) = stays n refl (λ j f. absurd (let h = sym hp ∙ f in cc))
  step_adds _ _ (failed_passing i f fl hp r) =
      stays (record n { failed = true }) refl (λ j f. absurd (let h = sym hp ∙ f in cc))
  step_adds _ _ (reopened j hp) = restarts (restarted place n j) j hp refl
  step_adds _ _ (failed_reopening j f fl hp) =
      restarts (restart_fails place n j f.appended f.forced) j hp refl
  step_adds _ _ (trims_log hp up) = stays (trims place n) refl (λ j f. absurd (let h = sym hp ∙ f in cc))
  step_adds _ _ (failed_trimming f fl hp up) =
      stays (trim_fails place n f.appended) (by_front f.appended) (λ j f. absurd (let h = sym hp ∙ f in cc))
    where
      by_front : (a : ℕ) → (trim_fails place n a).found_undecided ≡ n.found_undecided
      by_front zero = refl
      by_front (suc a) = refl

pub undecided_by : (tree : List TreeProcess) (es : List Made) (w : World) → IsRun tree es w
    → (p : ProcessId) (x : Txn)
    → has_txn x (w.at p).found_undecided ≡ was_found_undecided (place_of tree p) x (made_by p es)
unfolding was_found_undecided
undecided_by tree es w run p x =
    over_run tree
    (λ q n ms. has_txn x n.found_undecided ≡ was_found_undecided (place_of tree q) x ms)
    (λ q. nothing q)
    (λ gs v r q m e k same s old. more q (v.at q) (made_by q gs) m e k same s old)
    es w run p
  where
    nothing : (q : ProcessId) → false ≡ was_found_undecided (place_of tree q) x []
    nothing q = refl

    more : (q : ProcessId) (n : Node) (ms : List Made) (m : Move) (e : Effect) (k : Node)
        → n ≡ node_by (place_of tree q) ms → StepOf (place_of tree q) n m e k
        → has_txn x n.found_undecided ≡ was_found_undecided (place_of tree q) x ms
        → has_txn x k.found_undecided
        ≡ was_found_undecided (place_of tree q) x (record { move = m; effect = e } ∷ ms)
    more q n ms m e k same s old =
        step_adds x (place_of tree q) n m e k s
        ∙ (ap (λ b. finds_undecided (role_of tree q) n m.step.happening x || b) old
        ∙ ap (λ (y : Node). finds_undecided (role_of tree q) y m.step.happening x
        || was_found_undecided (place_of tree q) x ms) same)
