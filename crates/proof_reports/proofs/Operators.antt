-- What a step of a manager adds to all that its log ever had; and no branch is decided in both ways.
use Rattle.std.proofs.Common.{◌≡◌, ◌∙◌, ◌+◌, ◌⊎◌, inl, inr, ℕ, zero, suc, Bool, true, false, List, [], ◌∷◌, ◌++◌, take, refl, sym, ap, subst, arith}
use Rattle.std.proofs.lemmas.List.{append-nil}
use Rattle.protocol.specs.declared.names.Case.{Case}
use Rattle.protocol.specs.declared.names.ProcessId.{ProcessId}
use Rattle.protocol.specs.declared.names.Outcome.{Outcome}
use Rattle.protocol_words.specs.Variants.{AbortedOutcome, ActInput, CommittedOutcome, Handles}
use Rattle.protocol.specs.declared.records.Record.{Record}
use Rattle.protocol.specs.declared.records.Record.TheVariants.{Base, Opened, Pair}
use Rattle.protocol.specs.declared.events.Act.TheVariants.{Decide}
use Rattle.protocol.specs.declared.events.Input.{Input}
use Rattle.protocol.specs.declared.trees.TreeProcess.{TreeProcess}
use Rattle.protocol.specs.Records.{boot_of, has, is_decided, is_heuristic}
use Rattle.protocol.specs.Nodes.{AtLeaf, Effect, Heard, Node, Place, Written, after, appends, entries_written, is_any_forced, kept}
use Rattle.protocol.specs.ManagerRows.{decides_record}
use Rattle.protocol.specs.Reactions.{Does, leaf_of, reacts}
use Rattle.protocol.specs.Restarts.{left_of, trim_fails, trimmed}
use Rattle.protocol.specs.Standings.{Promised, other_outcome}
use Rattle.protocol.specs.World.{Move}
use Rattle.protocol.proofs.ListLaws.{kept-after}
use Rattle.proof_pairs.specs.turns.LeafTurns.{LeafTurn, acknowledges, acknowledges_told, asks, decides, does_nothing, drops, forgets, gives_again, gives_fresh, mark_at, notes, obeys, refuses, repeats_yes, votes_no, votes_read, votes_yes}
use Rattle.proof_pairs.specs.turns.Steps.{StepOf, heard_in, handled, failed_in, passed, failed_passing, reopened, failed_reopening, trims_log, failed_trimming}
use Rattle.proof_pairs.proofs.turns.Steps.{turn_of}
use Rattle.proof_processes.specs.Lasts.{logs_of}
use Rattle.proof_processes.proofs.Appends.{breaks_keeps, loses}
use Rattle.proof_processes.proofs.Tests.{case_is, has-cons, has-nil, in_either, in_first, in_front, in_second, neither}
use Rattle.proof_processes.proofs.Trims.{data_is_other, trim_left}
use Rattle.proof_processes.proofs.Worlds.{has_other}
use Rattle.proof_reports.specs.SinceOpened.{ever}
use Rattle.proof_reports.proofs.Became.{left_kept}
use Rattle.proof_reports.proofs.ManagerAcks.{OneDecision, decided_heuristic}
use Rattle.proof_reports.proofs.Naming.{never}
use Rattle.proof_reports.proofs.Stays.{one_has}

one_lacks : (q : Record → Bool) (r : Record) → q r ≡ false → has q (r ∷ []) ≡ false
one_lacks q r e = has-cons q r [] ∙ neither (q r) (has q []) e (has-nil q)

both_false : (f : Outcome → Bool) → f CommittedOutcome ≡ false → f AbortedOutcome ≡ false → (o : Outcome)
    → f o ≡ false
both_false f a b CommittedOutcome = a
both_false f a b AbortedOutcome = b

-- A decision is written for an operator, of a branch that has promised.

module _ (place : Place) (p : ProcessId) (n : Node) (h : Heard) (d : Case) (o : Outcome) where
  pub record ByAct : Type 0 where
    pub act : h.input ≡ ActInput (Decide d o)
    pub mark : mark_at n d ≡ Promised

  nothing_here : {A : Type 0} → has (is_decided d o) [] ≡ true → A
  nothing_here e = absurd (never _ e (has-nil (is_decided d o)))

  other_here : {A : Type 0} (r : Record) → ((u : Outcome) → is_decided d u r ≡ false)
      → has (is_decided d o) (r ∷ []) ≡ true → A
  other_here r f e = absurd (never _ e (one_lacks (is_decided d o) r (f o)))

  decides_it : (c : Case) (u u' : Outcome) → is_decided c u' (decides_record (leaf_of place p d) u) ≡ true
      → (d ≡ c) × (u ≡ u')
  decides_it c CommittedOutcome CommittedOutcome e = (case_is d c e, refl)
  decides_it c AbortedOutcome AbortedOutcome e = (case_is d c e, refl)
  decides_it c CommittedOutcome AbortedOutcome e = absurd (cc)
  decides_it c AbortedOutcome CommittedOutcome e = absurd (cc)

module _ (place : Place) (p : ProcessId) (n : Node) (h : Heard) (d : Case) (o : Outcome) where
  pub decision_by_act : (g : Effect) → LeafTurn place p n h g
      → has (is_decided d o) (entries_written g.written) ≡ true → ByAct place p n h d o
  decision_by_act _ (decides c u i e) k =
      let s = decides_it place p n h c u d u o
      (one_has (is_decided d o) (decides_record (leaf_of place p c) u) k) in
      subst (λ (x : Case). ByAct place p n h x o) s.0
      (subst (λ (x : Outcome). ByAct place p n h c x) s.1 (record { act = i; mark = e }))
  decision_by_act _ (votes_yes c j ws i a) k = other_here place p n h d o _ (both_false _ refl refl) k
  decision_by_act _ (obeys c CommittedOutcome i e) k = other_here place p n h d o _ (both_false _ refl refl) k
  decision_by_act _ (obeys c AbortedOutcome i e) k = other_here place p n h d o _ (both_false _ refl refl) k
  decision_by_act _ (notes c u i e) k = other_here place p n h d o _ (both_false _ refl refl) k
  decision_by_act _ (forgets c i e) k = other_here place p n h d o _ (both_false _ refl refl) k
  decision_by_act _ does_nothing k = nothing_here place p n h d o k
  decision_by_act _ (gives_again c t i a) k = nothing_here place p n h d o k
  decision_by_act _ (gives_fresh c i a s) k = nothing_here place p n h d o k
  decision_by_act _ (votes_read c j i a) k = nothing_here place p n h d o k
  decision_by_act _ (votes_no c j i a) k = nothing_here place p n h d o k
  decision_by_act _ (repeats_yes c j i a) k = nothing_here place p n h d o k
  decision_by_act _ (refuses c j i a) k = nothing_here place p n h d o k
  decision_by_act _ (acknowledges_told c u i e) k = nothing_here place p n h d o k
  decision_by_act _ (acknowledges c u i e) k = nothing_here place p n h d o k
  decision_by_act _ (drops c i a) k = nothing_here place p n h d o k
  decision_by_act _ (asks c i e) k = nothing_here place p n h d o k

-- A step.

durable_after : (n : Node) (ws : List Written) (q : Record → Bool) → has q (appends n ws).durable ≡ true
    → has q (entries_written ws ++ (kept n ++ n.durable)) ≡ true
durable_after n ws q e = by_force (is_any_forced ws) refl
  where
    forced_so : is_any_forced ws ≡ true → (appends n ws).durable ≡ entries_written ws ++ (kept n ++ n.durable)
    forced_so f = rw f refl

    plain_so : is_any_forced ws ≡ false → (appends n ws).durable ≡ n.durable
    plain_so f = rw f refl

    by_force : (b : Bool) → is_any_forced ws ≡ b → has q (entries_written ws ++ (kept n ++ n.durable)) ≡ true
    by_force true f = ap (has q) (sym (forced_so f)) ∙ e
    by_force false f =
        in_second q (entries_written ws) (kept n ++ n.durable)
        (in_second q (kept n) n.durable (ap (has q) (sym (plain_so f)) ∙ e))

module _ (me p : ProcessId) (tree : List TreeProcess) (m : Move) (n : Node) where
  abbrev place : Place
  place = record { me = me; role = AtLeaf p; tree = tree }

  pub record ByTurn (q : Record → Bool) : Type 0 where
    pub input : Input
    pub effect : Effect
    pub happens : m.step.happening ≡ Handles input
    pub up : n.failed ≡ false
    pub turn : LeafTurn (record { me = me; role = AtLeaf p; tree = tree }) p n (heard_in m input) effect
    pub written : has q (entries_written effect.written) ≡ true

  abbrev pub Came : (Record → Bool) → Type 0
  Came q = (has q (ever n) ≡ true) ⊎ ByTurn q

  module _ (q : Record → Bool) (no_opened : (j : ℕ) → q (Opened j) ≡ false)
      (no_pair : (a b : List ℕ) → q (Pair a b) ≡ false) (no_base : (j : ℕ) → q (Base j) ≡ false)
    where
      stood : has q (kept n) ≡ true → Came q
      stood e = inl (in_first q (kept n) n.durable e)

      lasted : has q n.durable ≡ true → Came q
      lasted e = inl (in_second q (kept n) n.durable e)

      by_input : (i : Input) (g : Effect) → m.step.happening ≡ Handles i
          → reacts place n (heard_in m i) ≡ Does g
          → has q (entries_written g.written) ≡ true → Came q
      by_input i g hp r e =
          let t = turn_of place n (heard_in m i) g r in
          inr (record { input = i; effect = g; happens = hp; up = t.up; turn = t.turn; written = e })

      of_kept : (new : List Record) → (has q new ≡ true → Came q) → has q (kept n ++ new) ≡ true → Came q
      of_kept new f e = elim (in_either q (kept n) new e) [ inl old ↦ stood old | inr now ↦ f now ]

      of_left : (j : ℕ) → has q (left_of n j) ≡ true → Came q
      of_left j e = stood (left_kept n j q e)

      only_opened : (j : ℕ) → has q (Opened j ∷ []) ≡ true → Came q
      only_opened j e = absurd (never _ e (one_lacks q (Opened j) (no_opened j)))

      of_trimmed : has q (trimmed (AtLeaf p) (kept n)) ≡ true → Came q
      of_trimmed e = elim (trim_left q no_opened (AtLeaf p) (kept n) e) [
        | inl old ↦ stood old
        | inr new ↦ absurd (never _ new (data_is_other q no_pair no_base (AtLeaf p) (kept n)))
      ]

      of_unforced : (xs : List Record) → (has q xs ≡ true → Came q) → (f : ℕ)
          → has q (take f (n.unforced ++ xs)) ≡ true → Came q
      of_unforced xs k f e = elim (in_either q n.unforced xs (in_front q f (n.unforced ++ xs) e)) [
        | inl old ↦ stood (in_second q n.forced n.unforced old)
        | inr new ↦ k new
      ]

      after_input : (i : Input) (g : Effect) → (has q (entries_written g.written) ≡ true → Came q)
          → has q (kept (after n (heard_in m i) g) ++ (after n (heard_in m i) g).durable) ≡ true → Came q
      after_input i g now e =
          elim (in_either q (kept (after n (heard_in m i) g)) (after n (heard_in m i) g).durable e) [
            | inl here ↦ of_kept (entries_written g.written) now
                (ap (has q) (sym (kept-after n (heard_in m i) g)) ∙ here)
            | inr long ↦ elim (in_either q (entries_written g.written) (kept n ++ n.durable)
                (durable_after n g.written q long)) [
                  | inl a ↦ now a
                  | inr b ↦ inl b
                ]
          ]

      pub came : (e : Effect) (k : Node) → StepOf place n m e k → has q (ever k) ≡ true → Came q
      came _ _ (handled i g hp np r) e = after_input i g (by_input i g hp r) e
      came _ _ (failed_in i f g fl hp np r) e =
          elim (in_either q _ _ e) [
            | inl here ↦ of_kept (take f.appended (entries_written g.written))
                (λ x. by_input i g hp r (in_front q f.appended (entries_written g.written) x))
                (ap (has q) (sym (breaks_keeps (logs_of n) (entries_written g.written) f.appended f.forced))
                ∙ here)
            | inr long ↦ elim (in_either q (take f.forced
                (n.unforced ++ take f.appended (entries_written g.written)))
                n.durable long) [
                  | inl a ↦ of_unforced (take f.appended (entries_written g.written))
                      (λ x. by_input i g hp r (in_front q f.appended (entries_written g.written) x)) f.forced
                      a
                  | inr b ↦ lasted b
                ]
          ]
      came _ _ (passed i hp r) e = inl e
      came _ _ (failed_passing i f fl hp r) e = inl e
      came _ _ (reopened j hp) e =
          let new : List Record = Opened (boot_of (left_of n j) + 1) ∷ [] in
          elim (in_either q ((left_of n j ++ new) ++ []) (new ++ (left_of n j ++ n.durable)) e) [
            | inl here ↦ elim (in_either q (left_of n j) new
                (ap (has q) (sym (append-nil (left_of n j ++ new))) ∙ here)) [
                  | inl a ↦ of_left j a
                  | inr b ↦ only_opened _ b
                ]
            | inr long ↦ elim (in_either q new (left_of n j ++ n.durable) long) [
              | inl a ↦ only_opened _ a
              | inr rest ↦ elim (in_either q (left_of n j) n.durable rest) [
                | inl b ↦ of_left j b
                | inr c ↦ lasted c
              ]
            ]
          ]
      came _ _ (failed_reopening j f fl hp) e =
          let new : List Record = Opened (boot_of (left_of n j) + 1) ∷ [] in
          elim (in_either q _ _ e) [
            | inl here ↦ elim (in_either q (left_of n j) (take f.appended new)
                (ap (has q) (sym (breaks_keeps (loses (logs_of n) j) new f.appended f.forced)) ∙ here)) [
                  | inl a ↦ of_left j a
                  | inr b ↦ only_opened _ (in_front q f.appended new b)
                ]
            | inr long ↦ elim (in_either q (take f.forced (take j n.unforced ++ take f.appended new))
                n.durable long) [
                  | inl a ↦ elim (in_either q (take j n.unforced) (take f.appended new)
                      (in_front q f.forced (take j n.unforced ++ take f.appended new) a)) [
                        | inl x ↦ stood (in_second q n.forced n.unforced (in_front q j n.unforced x))
                        | inr y ↦ only_opened _ (in_front q f.appended new y)
                      ]
                  | inr b ↦ lasted b
                ]
          ]
      came _ _ (trims_log hp up) e =
          elim (in_either q (trimmed (AtLeaf p) (kept n) ++ []) (trimmed (AtLeaf p) (kept n) ++ n.durable) e) [
            | inl here ↦ of_trimmed (ap (has q) (sym (append-nil (trimmed (AtLeaf p) (kept n)))) ∙ here)
            | inr long ↦ elim (in_either q (trimmed (AtLeaf p) (kept n)) n.durable long) [
              | inl a ↦ of_trimmed a
              | inr b ↦ lasted b
            ]
          ]
      came _ _ (failed_trimming f fl hp up) e = by_front f.appended e
        where
          by_front : (j : ℕ) → has q (ever (trim_fails place n j)) ≡ true → Came q
          by_front zero x = inl x
          by_front (suc j) x =
              elim (in_either q (trimmed (AtLeaf p) (kept n) ++ [])
              (trimmed (AtLeaf p) (kept n) ++ n.durable) x) [
                | inl here ↦ of_trimmed (ap (has q) (sym (append-nil (trimmed (AtLeaf p) (kept n)))) ∙ here)
                | inr long ↦ elim (in_either q (trimmed (AtLeaf p) (kept n)) n.durable long) [
                  | inl a ↦ of_trimmed a
                  | inr b ↦ lasted b
                ]
              ]

  no_opened_so : (d : Case) (o : Outcome) (j : ℕ) → is_decided d o (Opened j) ≡ false
  no_opened_so d CommittedOutcome j = refl
  no_opened_so d AbortedOutcome j = refl

  no_pair_so : (d : Case) (o : Outcome) (a b : List ℕ) → is_decided d o (Pair a b) ≡ false
  no_pair_so d CommittedOutcome a b = refl
  no_pair_so d AbortedOutcome a b = refl

  no_base_so : (d : Case) (o : Outcome) (j : ℕ) → is_decided d o (Base j) ≡ false
  no_base_so d CommittedOutcome j = refl
  no_base_so d AbortedOutcome j = refl

  pub decided_came : (d : Case) (o : Outcome) (e : Effect) (k : Node) → StepOf place n m e k
      → has (is_decided d o) (ever k) ≡ true → Came (is_decided d o)
  decided_came d o = came (is_decided d o) (no_opened_so d o) (no_pair_so d o) (no_base_so d o)

  -- So no branch is decided in both ways.

  module _ (old : OneDecision n)
      (never_decided : (d : Case) → mark_at n d ≡ Promised → has (is_heuristic d) (ever n) ≡ false)
    where
      acts : (d : Case) (o : Outcome) → (t : ByTurn (is_decided d o))
          → ByAct place p n (heard_in m t.input) d o
      acts d o t = decision_by_act place p n (heard_in m t.input) d o t.effect t.turn t.written

      not_before : (d : Case) (o u : Outcome) → has (is_decided d u) (ever n) ≡ true → ByTurn (is_decided d o)
          → ⊥
      not_before d o u e t =
          never _ (has_other (is_decided d u) (is_heuristic d) (ever n) (decided_heuristic d u) e)
          (never_decided d (acts d o t).mark)

      other_act : (d : Case) (o : Outcome) → Handles (ActInput (Decide d o))
          ≡ Handles (ActInput (Decide d (other_outcome o)))
          → ⊥
      other_act d CommittedOutcome e = cc
      other_act d AbortedOutcome e = cc

      not_both_now : (d : Case) (o : Outcome) → ByTurn (is_decided d o)
          → ByTurn (is_decided d (other_outcome o)) → ⊥
      not_both_now d o t u =
          other_act d o
          (ap (λ (i : Input). Handles i) (sym (acts d o t).act)
          ∙ (sym t.happens ∙ (u.happens ∙ ap (λ (i : Input). Handles i) (acts d (other_outcome o) u).act)))

      other_twice : (o : Outcome) → other_outcome (other_outcome o) ≡ o
      other_twice CommittedOutcome = refl
      other_twice AbortedOutcome = refl

      pub still_one : (e : Effect) (k : Node) → StepOf place n m e k → OneDecision k
      still_one e k s d o a b = by_both (decided_came d o e k s a) (decided_came d (other_outcome o) e k s b)
        where
          by_both : Came (is_decided d o) → Came (is_decided d (other_outcome o)) → ⊥
          by_both (inl x) (inl y) = old d o x y
          by_both (inl x) (inr t) = not_before d (other_outcome o) o x t
          by_both (inr t) (inl y) = not_before d o (other_outcome o) y t
          by_both (inr t) (inr u) = not_both_now d o t u
