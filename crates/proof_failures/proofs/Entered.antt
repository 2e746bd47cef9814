-- A run goes on by a move in which a device fails, and the trace by the entry of it.
use Rattle.std.proofs.Common.{◌≡◌, ◌∙◌, ap, sym, subst, refl, Bool, true, false, Some, List, [], ◌∷◌, ◌++◌, append-nil, if◌then◌else◌}
use Rattle.protocol.specs.declared.names.ProcessId.{ProcessId}
use Rattle.protocol.specs.declared.events.JournalEntry.{JournalEntry}
use Rattle.protocol.specs.declared.events.Fault.{Fault}
use Rattle.protocol.specs.declared.events.Happening.{Happening}
use Rattle.protocol_words.specs.Variants.{Handles, Restarting, Trimming}
use Rattle.protocol.specs.declared.events.Input.{Input}
use Rattle.protocol.specs.declared.events.StepError.TheVariants.{Failed}
use Rattle.protocol.specs.Nodes.{DataAnswer, Effect, Node, Place, is_listed, no_effect, place_of}
use Rattle.protocol.specs.Reactions.{Does, Reacts, Refused, is_passed_over, reacts}
use Rattle.protocol.specs.Restarts.{restart_effect, trim_effect}
use Rattle.protocol.specs.World.{Made, World, fault_effect, input_makes, journal_of, node_makes, passes_over, trim_makes}
use Rattle.protocol.specs.World.{Makes, Refuses}
use Rattle.protocol.specs.World.{MayHappen}
use Rattle.process_state.specs.States.{CoreState}
use Rattle.process_state.specs.Turns.{heard_now}
use Rattle.tree_state.specs.StandsFor.{StandsFor}
use Rattle.proof_runs.specs.worlds.Follows.{Follows, GoesOn}
use Rattle.tree_state.specs.Worlds.{MovesNode, WorldState}
use Rattle.proof_runs.proofs.worlds.Journals.{by_whole, whole_goes_on}
use Rattle.proof_runs.proofs.worlds.Steps.{listed_at, made_at, move_goes_on, move_with}
use Rattle.tree_state.specs.Faults.{fault_entry}
use Rattle.proof_failures.specs.Traces.{TraceGoesOn, with_trace}

-- Nothing is sent in a move in which a device fails.

same_effect : (a b : Effect) (m n : Node) → Makes a m ≡ Makes b n → a ≡ b
same_effect a b m n h = cc

unsent : (d e : Effect) (m n : Node) → Makes d m ≡ Makes e n → d.messages ≡ [] → e.messages ≡ []
unsent d e m n same none = ap (λ (x : Effect). x.messages) (sym (same_effect d e m n same)) ∙ none

module _ (place : Place) (n : Node) (q : ProcessId) (f : Fault) (a : DataAnswer) (e : Effect)
    (left : Node) where
  input_unsent : (i : Input) (b : Bool) (r : Reacts)
      → (if b then passes_over n (Some f) else input_makes n (heard_now a i) (Some f) r) ≡ Makes e left
      → e.messages ≡ []
  input_unsent i true r h = unsent no_effect e _ left h refl
  input_unsent i false (Refused x) h = absurd (cc)
  input_unsent i false (Does d) h = unsent (fault_effect d f.appended) e _ left h refl

  trim_unsent : (b : Bool) → (if b then Refuses Failed else trim_makes place n (Some f)) ≡ Makes e left
      → e.messages ≡ []
  trim_unsent true h = absurd (cc)
  trim_unsent false h = unsent (fault_effect (trim_effect place n) 0) e _ left h refl

  nothing_sent : (h : Happening) → node_makes place n (move_with q h (Some f) a) ≡ Makes e left
      → e.messages ≡ []
  unfolding node_makes
  nothing_sent (Handles i) made = input_unsent i (is_passed_over place n i)
      (reacts place n (heard_now a i)) made
  nothing_sent (Restarting k) made = unsent (fault_effect (restart_effect place n k) f.appended) e
      _ left made refl
  nothing_sent Trimming made = trim_unsent n.failed made

-- where a process moves, it moves whatever the traces are
pub moves_with : (s t : WorldState) (xs ys : List JournalEntry) (q : ProcessId) (before behind : CoreState)
    → MovesNode s t q before behind → MovesNode (with_trace s xs) (with_trace t ys) q before behind
moves_with s t xs ys q before behind h = record {
  tree = h.tree;
  stood = h.stood;
  stands = h.stands;
  others = h.others;
  others_data = h.others_data;
}

module _ (es : List Made) (w : World) (s t : WorldState) (q : ProcessId) (trace : List JournalEntry)
    (f : Follows es w (with_trace s trace)) where
  pub fault_on : (h : Happening) (a : DataAnswer) (before behind : CoreState) → MayHappen w.net q h
      → MovesNode s t q before behind → t.net ≡ s.net → t.entries ≡ s.entries → behind.place ≡ before.place
      → (fault : Fault) (e : Effect) (n : Node)
      → node_makes (place_of s.tree q) (w.at q) (move_with q h (Some fault) a) ≡ Makes e n
      → StandsFor n behind → TraceGoesOn es w s trace t (fault_entry q h fault ∷ [])
  unfolding journal_of
  fault_on h a before behind happens moves net entries place fault e n made stands =
      let x = fault_entry q h fault in
      let S = with_trace s trace in
      let T = with_trace t (trace ++ x ∷ []) in
      let listed : is_listed s.tree q ≡ true = listed_at es w S q before f moves.stood in
      let none = nothing_sent (place_of s.tree q) (w.at q) q fault a e n h made in
      record {
        entered = [];
        grown = entries ∙ sym (append-nil s.entries);
        goes_on = subst (λ xs. GoesOn es w (with_trace t (xs ++ x ∷ []))) (sym (append-nil trace))
            (whole_goes_on es w T
            (move_goes_on journal_of es w S T (by_whole es w S f) q h a before behind happens
            (moves_with s t trace (trace ++ x ∷ []) q before behind moves) (Some fault) e n
            (made_at s.tree w (move_with q h (Some fault) a) e n listed made)
            (net ∙ f.net ∙ sym (ap (λ xs. w.net ++ xs) none ∙ append-nil w.net))
            (ap (λ xs. xs ++ x ∷ []) f.shown)
            (place ∙ (f.nodes q before moves.stood).place) stands));
      }
