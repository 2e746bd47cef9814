-- After any run every process of a tree can go down by a crash, which leaves of each log what a restart would
-- find.
use Rattle.std.proofs.Common.{◌≡◌, ◌∙◌, ◌||◌, ap, sym, subst, refl, ℕ, zero, suc, Bool, true, false, inl, inr, Some, List, [], ◌∷◌, ◌++◌, take, drop}
use Rattle.std.proofs.Math.Seq.{take-nil}
use Rattle.std.proofs.lemmas.List.{append-nil}
use Rattle.protocol.specs.declared.names.ProcessId.{ProcessId}
use Rattle.protocol.specs.declared.events.Fault.{Fault}
use Rattle.protocol.specs.declared.events.Happening.TheVariants.{Restart}
use Rattle.protocol.specs.declared.records.Record.{Record}
use Rattle.protocol.specs.declared.trees.TreeProcess.{TreeProcess}
use Rattle.protocol.specs.Names.{same_process}
use Rattle.protocol.specs.NameLaws.{same_process_tells}
use Rattle.protocol.specs.Nodes.{Effect, Node, Place, is_listed, place_of}
use Rattle.protocol.specs.Restarts.{left_of, restart_effect, restart_fails}
use Rattle.protocol.specs.World.{Continues, IsRun, Made, Move, World, fault_effect, goes_on, makes, node_makes, stays, world_makes}
use Rattle.process_state.specs.Turns.{no_answer}
use Rattle.proof_runs.proofs.worlds.Steps.{made_at, move_with, world_after}
use Rattle.proof_reopened.proofs.Moves.{put_here, put_there}

-- it is down, and all of its log is forced, which is this
pub record IsDownWith (n : Node) (left : List Record) : Type 0 where
  pub forced : n.forced ≡ left
  pub unforced : n.unforced ≡ []
  pub failed : n.failed ≡ true

taken_twice : (k : ℕ) (xs : List Record) → take k (take k xs ++ []) ≡ take k xs
taken_twice zero xs = refl
taken_twice (suc k) [] = refl
taken_twice (suc k) (x ∷ xs) = ap (λ ys. x ∷ ys) (taken_twice k xs)

none_dropped : (k : ℕ) (xs : List Record) → drop k (take k xs ++ []) ≡ []
none_dropped zero xs = refl
none_dropped (suc k) [] = refl
none_dropped (suc k) (x ∷ xs) = none_dropped k xs

-- A crash in which a device fails before it writes, and which forces all that it keeps.

abbrev pub crash_fault : ℕ → Fault
crash_fault k = record { appended = 0; forced = k }

abbrev pub crash_move : ProcessId → ℕ → Move
crash_move q k = move_with q (Restart k) (Some (crash_fault k)) no_answer

abbrev pub crash_node : Place → Node → ℕ → Node
crash_node place n k = restart_fails place n k 0 k

abbrev pub crash_effect : Place → Node → ℕ → Effect
crash_effect place n k = fault_effect (restart_effect place n k) 0

no_front : (ys : List Record) → take 0 ys ≡ []
no_front ys = refl

crash_downs : (place : Place) (n : Node) (k : ℕ) → IsDownWith (crash_node place n k) (left_of n k)
crash_downs place n k = record {
  forced = ap (λ xs. n.forced ++ xs) (taken_twice k n.unforced);
  unforced = none_dropped k n.unforced;
  failed = refl;
}

down_again : (place : Place) (n : Node) (left : List Record) (k : ℕ) → IsDownWith n left
    → IsDownWith (crash_node place n k) left
down_again place n left k d =
    let c = crash_downs place n k in
    record {
      forced = c.forced
          ∙ (ap (λ xs. n.forced ++ take k xs) d.unforced ∙ (ap (λ xs. n.forced ++ xs) (take-nil k)
          ∙ (append-nil n.forced ∙ d.forced)));
      unforced = c.unforced;
      failed = c.failed;
    }

crash_makes : (tree : List TreeProcess) (w : World) (q : ProcessId) (k : ℕ) → is_listed tree q ≡ true
    → world_makes tree w (crash_move q k)
    ≡ Some (
      crash_effect (place_of tree q) (w.at q) k,
      world_after w q (crash_node (place_of tree q) (w.at q) k) (crash_effect (place_of tree q) (w.at q) k),
    )
unfolding node_makes
crash_makes tree w q k listed =
    made_at tree w (crash_move q k) (crash_effect (place_of tree q) (w.at q) k)
    (crash_node (place_of tree q) (w.at q) k) listed refl

-- All of these processes are down, and the others as they were.

pub record AllDown (tree : List TreeProcess) (es : List Made) (w : World) (keep : ProcessId → ℕ)
    (done : List TreeProcess) : Type 0 where
  pub moves : List Made
  pub world : World
  pub leads : Continues tree w moves world
  pub is_run : IsRun tree (moves ++ es) world
  pub down : (q : ProcessId) → is_listed done q ≡ true → IsDownWith (world.at q) (left_of (w.at q) (keep q))
  pub rest : (q : ProcessId) → is_listed done q ≡ false → world.at q ≡ w.at q

listed_first : (e : TreeProcess) (done : List TreeProcess) (q : ProcessId)
    → is_listed (e ∷ done) q ≡ (same_process e.id q || is_listed done q)
unfolding is_listed
listed_first e done q = refl

listed_none : (q : ProcessId) → is_listed [] q ≡ false
unfolding is_listed
listed_none q = refl

either_true : (a b : Bool) → a ≡ false → (a || b) ≡ true → b ≡ true
either_true false b is h = h
either_true true b is h = absurd (cc)

neither_first : (a b : Bool) → (a || b) ≡ false → a ≡ false
neither_first false b h = refl
neither_first true b h = absurd (cc)

neither_second : (a b : Bool) → (a || b) ≡ false → b ≡ false
neither_second false b h = h
neither_second true b h = absurd (cc)

module _ (tree : List TreeProcess) (es : List Made) (w : World) (run : IsRun tree es w)
    (keep : ProcessId → ℕ) where
  none_down : AllDown tree es w keep []
  none_down = record {
    moves = [];
    world = w;
    leads = stays;
    is_run = run;
    down = λ q h. absurd (let clash : false ≡ true = sym (listed_none q) ∙ h in cc);
    rest = λ q h. refl;
  }

  one_down : (e : TreeProcess) (done : List TreeProcess) → is_listed tree e.id ≡ true
      → AllDown tree es w keep done
      → AllDown tree es w keep (e ∷ done)
  one_down e done listed d =
      let q = e.id in
      let k = keep q in
      let place = place_of tree q in
      let n = crash_node place (d.world.at q) k in
      let g = crash_effect place (d.world.at q) k in
      let step = crash_makes tree d.world q k listed in
      record {
        moves = record { move = crash_move q k; effect = g } ∷ d.moves;
        world = world_after d.world q n g;
        leads = goes_on d.moves d.world (crash_move q k) g (world_after d.world q n g) d.leads tt step;
        is_run = makes (d.moves ++ es) d.world (crash_move q k) g (world_after d.world q n g)
            d.is_run tt step;
        down = λ p h. elim (same_process_tells e.id p) [
          | inl t ↦ subst (λ (r : ProcessId). IsDownWith ((world_after d.world q n g).at r)
              (left_of (w.at r) (keep r))) t.1
              (subst (λ (m : Node). IsDownWith m (left_of (w.at q) k)) (sym (put_here q n d.world.at))
              (here (is_listed done e.id) refl))
          | inr z ↦ subst (λ (m : Node). IsDownWith m (left_of (w.at p) (keep p)))
              (sym (put_there q p n d.world.at z.0))
              (d.down p (either_true (same_process e.id p) (is_listed done p) z.0
              (sym (listed_first e done p) ∙ h)))
        ];
        rest = λ p h.
            let both = sym (listed_first e done p) ∙ h in
            put_there q p n d.world.at (neither_first (same_process e.id p) (is_listed done p) both)
            ∙ d.rest p (neither_second (same_process e.id p) (is_listed done p) both);
      }
    where
      here : (b : Bool) → is_listed done e.id ≡ b
          → IsDownWith (crash_node (place_of tree e.id) (d.world.at e.id) (keep e.id))
          (left_of (w.at e.id) (keep e.id))
      here true is = down_again (place_of tree e.id) (d.world.at e.id) (left_of (w.at e.id) (keep e.id))
          (keep e.id) (d.down e.id is)
      here false is = subst
          (λ (m : Node). IsDownWith (crash_node (place_of tree e.id) (d.world.at e.id) (keep e.id))
          (left_of m (keep e.id)))
          (d.rest e.id is) (crash_downs (place_of tree e.id) (d.world.at e.id) (keep e.id))

  all_down : (done : List TreeProcess) → ((q : ProcessId) → is_listed done q ≡ true → is_listed tree q ≡ true)
      → AllDown tree es w keep done
  all_down [] within = none_down
  all_down (e ∷ done) within =
      one_down e done (within e.id (listed_first e done e.id
      ∙ first (same_process e.id e.id) (is_listed done e.id) (itself e.id)))
      (all_down done (λ q h. within q (listed_first e done q
      ∙ second (same_process e.id q) (is_listed done q) h)))
    where
      first : (a b : Bool) → a ≡ true → (a || b) ≡ true
      first true b h = refl
      first false b h = absurd (cc)

      second : (a b : Bool) → b ≡ true → (a || b) ≡ true
      second true b h = refl
      second false b h = h

      itself : (q : ProcessId) → same_process q q ≡ true
      itself q = elim (same_process_tells q q) [ inl t ↦ t.0 | inr z ↦ absurd (z.1 refl) ]

  -- every process of the tree
  pub every_one_down : AllDown tree es w keep tree
  every_one_down = all_down tree (λ q h. h)
