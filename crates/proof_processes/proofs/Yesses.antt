-- Over every run each manager's YES is sent with its promise in the forced front.
use Rattle.std.proofs.Common.{◌≡◌, ◌∙◌, inl, inr, ℕ, zero, suc, Bool, true, false, Option, Some, None, List, [], ◌∷◌, ◌++◌, take, refl, sym, ap, subst}
use Rattle.std.specs.Prelude.{reverse}
use Rattle.protocol.specs.declared.names.Case.{Case}
use Rattle.protocol.specs.declared.names.ProcessId.{ProcessId}
use Rattle.protocol.specs.declared.names.Ticket.{Ticket}
use Rattle.protocol.specs.declared.names.Txn.{Txn}
use Rattle.protocol.specs.declared.messages.Envelope.{Envelope}
use Rattle.protocol.specs.declared.records.Record.{Record}
use Rattle.protocol.specs.declared.events.Happening.{Happening}
use Rattle.protocol_words.specs.Variants.{Handles}
use Rattle.protocol.specs.declared.events.Input.{Input}
use Rattle.protocol.specs.declared.trees.TreeProcess.{TreeProcess}
use Rattle.protocol.specs.Names.{process_of, owner_of}
use Rattle.protocol.specs.NameLaws.{same_process_tells}
use Rattle.protocol.specs.Records.{has, is_prepared}
use Rattle.protocol.specs.Nodes.{Role, AtRoot, Below, AtLeaf, Place, place_of, role_of, Node, Heard, Effect, kept, opened_node, entries_written, is_any_forced, after}
use Rattle.protocol.specs.Outcomes.{sent, is_yes_message, promise_is_forced, YesIsForced}
use Rattle.protocol.specs.Restarts.{left_of, reopens, data_records, trim_fails}
use Rattle.protocol.specs.World.{World, Move, Made, IsRun, opens, makes, put_at, MayHappen, InputStands}
use Rattle.protocol.proofs.RunLaws.{makes_at, node_by_run}
use Rattle.proof_pairs.specs.turns.Steps.{StepOf, heard_in, handled, failed_in, passed, failed_passing, reopened, failed_reopening, trims_log, failed_trimming, TurnAt, TurnOf}
use Rattle.proof_pairs.proofs.turns.Steps.{step_of, turn_of}
use Rattle.proof_processes.specs.Lasts.{Logs, logs_of, RoleLasts, Lasts}
use Rattle.proof_processes.specs.Owns.{is_given_by, is_own_case, is_foreign, Owns, AllGoToOwners}
use Rattle.proof_processes.proofs.Tests.{not_both, in_first, in_second, in_either, in_front, front_none, in_none, has-reverse}
use Rattle.proof_processes.proofs.Memories.{same_self}
use Rattle.proof_processes.proofs.Trims.{data_is_other}
use Rattle.proof_processes.proofs.Appends.{either_logs}
use Rattle.proof_processes.proofs.Owning.{goes_both, own_written, own_reopens}
use Rattle.proof_processes.proofs.Addresses.{written_goes, leaf_goes, resumes_goes, not_so}
use Rattle.proof_processes.proofs.Promises.{PromisedYes, leaf_yes, root_yes, cascaded_yes, quiet_resumes}
use Rattle.proof_processes.proofs.Worlds.{all_last, put}

-- what a step says YES to
abbrev YesFine : Role → ProcessId → Node → Case → Type 0
YesFine AtRoot me n c = ⊥
YesFine (Below p) me n c = is_own_case me c ≡ true
YesFine (AtLeaf p) me n c = PromisedYes me n c

none_by : (q : Record → Bool) (xs ys : List Record) → (has q xs ≡ true → has q ys ≡ true)
    → has q ys ≡ false → has q xs ≡ false
none_by q xs ys f e = by_test (has q xs) refl
  where
    by_test : (b : Bool) → has q xs ≡ b → has q xs ≡ false
    by_test true g = not_both q (has q ys) (f g) e
    by_test false g = g

module _ (place : Place) (n : Node) (h : Lasts place.role (logs_of n)) (net : List Envelope)
    (goes : AllGoToOwners net)
    (m : Move) (stands : MayHappen net place.me m.step.happening) where
  input_stands : (i : Input) → m.step.happening ≡ Handles i → InputStands net place.me i
  input_stands i e = subst (λ (x : Happening). MayHappen net place.me x) e stands

  turn_at : (role : Role) → place.role ≡ role → (i : Heard) (e : Effect) → TurnOf place n i e
      → TurnAt role place n i e
  turn_at role e i g t = subst (λ (r : Role). TurnAt r place n i g) e t.turn

  -- Records.

  module _ (p : ProcessId) (role : place.role ≡ Below p) (own : has (is_foreign place.me) n.life ≡ false)
    where
      abbrev q : Record → Bool
      q = is_foreign place.me

      kept_own : has q (kept n) ≡ false
      kept_own = none_by q (kept n) n.life (h.nested.kept_was_written q (λ k. refl)) own

      left_own : (k : ℕ) → has q (left_of n k) ≡ false
      left_own k = none_by q (left_of n k) (kept n) in_kept kept_own
        where
          in_kept : has q (left_of n k) ≡ true → has q (kept n) ≡ true
          in_kept e = elim (in_either q n.forced (take k n.unforced) e) [
            | inl front ↦ in_first q n.forced n.unforced front
            | inr rest ↦ in_second q n.forced n.unforced (in_front q k n.unforced rest)
          ]

      grown : (new : List Record) → has q new ≡ false → has q (reverse new ++ n.life) ≡ false
      grown new e = in_none q (reverse new) n.life (has-reverse q new ∙ e) own

      written : (i : Input) (g : Effect) → m.step.happening ≡ Handles i → TurnOf place n (heard_in m i) g
          → has q (entries_written g.written) ≡ false
      written i g hp t = own_written place p role n kept_own net goes i g.written g.messages
          (input_stands i hp)
          (turn_at (Below p) role (heard_in m i) g t)

      again : (k : ℕ) → has q (reopens place.role (left_of n k)) ≡ false
      again k = subst (λ (r : Role). has q (reopens r (left_of n k)) ≡ false) (sym role)
          (own_reopens place.me (left_of n k) p (left_own k))

      replaced : has q (reverse (data_records place.role (kept n)) ++ n.life) ≡ false
      replaced = grown (data_records place.role (kept n))
          (data_is_other q (λ k v. refl) (λ k. refl) place.role (kept n))

      trim_failed : (a : ℕ) → has q (trim_fails place n a).life ≡ false
      trim_failed zero = own
      trim_failed (suc k) = replaced

      own_life : (e : Effect) (k : Node) → StepOf place n m e k → has q k.life ≡ false
      own_life _ _ (handled i g hp np r) =
          let new = entries_written g.written in
          let none = written i g hp (turn_of place n (heard_in m i) g r) in
          either_logs n new (is_any_forced g.written) (λ (l : Logs). has q l.life ≡ false)
          (λ b. grown new none) (λ b. grown new none)
      own_life _ _ (failed_in i f g fl hp np r) =
          let new = entries_written g.written in
          grown (take f.appended new)
          (front_none q f.appended new (written i g hp (turn_of place n (heard_in m i) g r)))
      own_life _ _ (passed i hp r) = own
      own_life _ _ (failed_passing i f fl hp r) = own
      own_life _ _ (reopened k hp) = grown (reopens place.role (left_of n k)) (again k)
      own_life _ _ (failed_reopening k f fl hp) =
          grown (take f.appended (reopens place.role (left_of n k)))
          (front_none q f.appended (reopens place.role (left_of n k)) (again k))
      own_life _ _ (trims_log hp up) = replaced
      own_life _ _ (failed_trimming f fl hp up) = trim_failed f.appended

  owns_by : (role : Role) → place.role ≡ role → Owns role place.me (logs_of n) → (e : Effect) (k : Node)
      → StepOf place n m e k
      → Owns role place.me (logs_of k)
  owns_by AtRoot r o e k s = tt
  owns_by (AtLeaf p) r o e k s = tt
  owns_by (Below p) r o e k s = own_life p r o e k s

  pub still_owns : Owns place.role place.me (logs_of n) → (e : Effect) (k : Node) → StepOf place n m e k
      → Owns place.role place.me (logs_of k)
  still_owns o e k s = owns_by place.role refl o e k s

  -- Messages.

  turn_goes : (role : Role) → place.role ≡ role → (i : Heard) (e : Effect) → TurnOf place n i e
      → AllGoToOwners e.messages
  turn_goes AtRoot r i e t = written_goes place None n i.input e.written e.messages (turn_at AtRoot r i e t)
  turn_goes (Below p) r i e t = written_goes place (Some p) n i.input e.written e.messages
      (turn_at (Below p) r i e t)
  turn_goes (AtLeaf p) r i e t = leaf_goes place p n i e (turn_at (AtLeaf p) r i e t)

  pub step_goes : (e : Effect) (k : Node) → StepOf place n m e k → AllGoToOwners e.messages
  step_goes _ _ (handled i g hp np r) = turn_goes place.role refl (heard_in m i) g
      (turn_of place n (heard_in m i) g r)
  step_goes _ _ (failed_in i f g fl hp np r) = tt
  step_goes _ _ (passed i hp r) = tt
  step_goes _ _ (failed_passing i f fl hp r) = tt
  step_goes _ _ (reopened k hp) =
      resumes_goes place.role place.me (left_of n k ++ reopens place.role (left_of n k))
  step_goes _ _ (failed_reopening k f fl hp) = tt
  step_goes _ _ (trims_log hp up) = tt
  step_goes _ _ (failed_trimming f fl hp up) = tt

  turn_yes : (role : Role) → place.role ≡ role → Owns role place.me (logs_of n) → (i : Input) (g : Effect)
      → m.step.happening ≡ Handles i → TurnOf place n (heard_in m i) g
      → (c : Case) → sent (is_yes_message c) g.messages ≡ true
      → YesFine role place.me (after n (heard_in m i) g) c
  turn_yes AtRoot r o i g hp t c e = root_yes place n i g.written g.messages
      (turn_at AtRoot r (heard_in m i) g t) c e
  turn_yes (Below p) r o i g hp t c e =
      cascaded_yes place p r n (kept_own p r o) net goes i g.written g.messages (input_stands i hp)
      (turn_at (Below p) r (heard_in m i) g t) c e
  turn_yes (AtLeaf p) r o i g hp t c e =
      leaf_yes place p n (heard_in m i) net goes (input_stands i hp)
      (subst (λ (x : Role). RoleLasts x (logs_of n)) r h.by_role) t.up c g
      (turn_at (AtLeaf p) r (heard_in m i) g t) e

  none_sent : {A : Type 0} (c : Case) → sent (is_yes_message c) [] ≡ true → A
  unfolding sent
  none_sent c e = absurd (cc)

  pub step_yes : Owns place.role place.me (logs_of n) → (e : Effect) (k : Node) → StepOf place n m e k
      → (c : Case) → sent (is_yes_message c) e.messages ≡ true → YesFine place.role place.me k c
  step_yes o _ _ (handled i g hp np r) c e = turn_yes place.role refl o i g hp
      (turn_of place n (heard_in m i) g r) c e
  step_yes o _ _ (failed_in i f g fl hp np r) c e = none_sent c e
  step_yes o _ _ (passed i hp r) c e = none_sent c e
  step_yes o _ _ (failed_passing i f fl hp r) c e = none_sent c e
  step_yes o _ _ (reopened k hp) c e =
      not_so _ (quiet_resumes (is_yes_message c) (λ d. refl) (λ d. refl) (λ d. refl) place.role place.me
      (left_of n k ++ reopens place.role (left_of n k))) e
  step_yes o _ _ (failed_reopening k f fl hp) c e = none_sent c e
  step_yes o _ _ (trims_log hp up) c e = none_sent c e
  step_yes o _ _ (failed_trimming f fl hp up) c e = none_sent c e

-- Runs.

record Holds (tree : List TreeProcess) (w : World) : Type 0 where
  owns : (p : ProcessId) → Owns (role_of tree p) p (logs_of (w.at p))
  goes : AllGoToOwners w.net

opened_owns : (role : Role) (p : ProcessId) → Owns role p (logs_of opened_node)
unfolding has
opened_owns AtRoot p = tt
opened_owns (AtLeaf q) p = tt
opened_owns (Below q) p = refl

holds : (tree : List TreeProcess) (es : List Made) (w : World) → IsRun tree es w → Holds tree w
holds tree _ _ opens = record { owns = λ p. opened_owns (role_of tree p) p; goes = tt }
holds tree _ _ (makes es w m e w' run stands step) =
    let at = makes_at tree w m e w' step in
    let q = m.step.process in
    let before = holds tree es w run in
    let s = step_of (place_of tree q) (w.at q) m e at.node at.made in
    let last = all_last tree es w run q in
    let P : ProcessId → Node → Type 0 = λ x k. Owns (role_of tree x) x (logs_of k) in
    record {
      owns = λ p. subst (λ (x : World). P p (x.at p)) (sym at.world)
          (put P q p at.node w.at
          (still_owns (place_of tree q) (w.at q) last w.net before.goes m stands (before.owns q) e at.node
          s) (before.owns p));
      goes = subst (λ (x : World). AllGoToOwners x.net) (sym at.world)
          (goes_both w.net e.messages before.goes
          (step_goes (place_of tree q) (w.at q) last w.net before.goes m stands e at.node s));
    }

-- in every run a parent's messages go to their cases' owners
pub nets_go : (tree : List TreeProcess) (es : List Made) (w : World) → IsRun tree es w → AllGoToOwners w.net
nets_go tree es w run = (holds tree es w run).goes

pub own_process : (me : ProcessId) (x : Txn) (t : Option Ticket) → is_given_by me t ≡ true
    → owner_of t x ≡ me
own_process me x None e = absurd (cc)
own_process me x (Some t) e = elim (same_process_tells t.child me) [
  | inl k ↦ k.1
  | inr f ↦ absurd
      (let g = f.0 in cc)
]

put_self : (q : ProcessId) (k : Node) (at : ProcessId → Node) → put_at q k at q ≡ k
put_self q k at = rw (same_self q) refl

apart : {A : Type 0} (tree : List TreeProcess) (q r p s : ProcessId) → q ≡ r → role_of tree q ≡ AtLeaf p
    → role_of tree r ≡ Below s → A
apart tree q r p s e f g = let h = ap (role_of tree) e in absurd (cc)

said : (tree : List TreeProcess) (q : ProcessId) (k : Node) (c : Case) (p : ProcessId)
    → role_of tree (process_of c) ≡ AtLeaf p
    → (role : Role) → role_of tree q ≡ role → YesFine role q k c
    → (process_of c ≡ q) × (has (is_prepared c) k.forced ≡ true)
said tree q k c p leaf AtRoot r y = absurd y
said tree q k c p leaf (Below s) r y = apart tree (process_of c) q p s (own_process q c.txn c.ticket y) leaf
    r
said tree q k c p leaf (AtLeaf s) r y = (own_process q c.txn c.ticket y.own, y.promised)

pub yes_is_forced : (tree : List TreeProcess) (es : List Made) (w : World) → IsRun tree es w
    → YesIsForced tree es
yes_is_forced tree _ _ opens = tt
yes_is_forced tree _ _ (makes es w m e w' run stands step) = (now, yes_is_forced tree es w run)
  where
    now : (c : Case) (p : ProcessId) → role_of tree (process_of c) ≡ AtLeaf p
        → sent (is_yes_message c) e.messages ≡ true
        → promise_is_forced tree (record { move = m; effect = e } ∷ es) c ≡ true
    now c p leaf said_so =
        let at = makes_at tree w m e w' step in
        let q = m.step.process in
        let before = holds tree es w run in
        let s = step_of (place_of tree q) (w.at q) m e at.node at.made in
        let last = all_last tree es w run q in
        let fine = step_yes (place_of tree q) (w.at q) last w.net before.goes m stands (before.owns q) e
        at.node s c said_so in
        let both = said tree q at.node c p leaf (role_of tree q) refl fine in
        let there : w'.at (process_of c) ≡ at.node =
        ap (λ (x : World). x.at (process_of c)) at.world ∙
        (ap (put_at q at.node w.at) both.0 ∙ put_self q at.node w.at) in
        ap (λ (k : Node). has (is_prepared c) k.forced)
        (sym (node_by_run tree (record { move = m; effect = e } ∷ es) w' (makes es w m e w' run stands step)
        (process_of c)) ∙ there)
        ∙ both.1
