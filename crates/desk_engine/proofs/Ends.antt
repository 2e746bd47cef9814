-- A node whose input is empty ends as it stood.
use Rattle.std.proofs.Common.{◌≡◌, ◌∙◌, inl, inr, IfOk, ℕ, Bool, Result, Ok, Err, true, false, Some, None, List, [], ◌∷◌, ◌++◌, refl, sym, ap, subst, true≢false}
use Rattle.std.specs.List.{flat_map}
use Rattle.std.specs.Io.KnownBytes.{Consumes}
use Rattle.protocol.specs.declared.events.Reaction.{Reaction}
use Rattle.protocol.specs.declared.names.ProcessId.{ProcessId}
use Rattle.protocol.specs.Trees.{root_of}
use Rattle.process_state.specs.States.{CoreState}
use Rattle.node_lines.specs.declared.asked.NodeLine.{NodeLine}
use Rattle.node_lines.specs.declared.asked.NodeLine.TheVariants as asked
use Rattle.node_lines.specs.Asked.{asked_at}
use Rattle.node_engine.specs.declared.failure.NodeFailure.{NodeFailure}
use Rattle.node_engine.specs.declared.run.Ended.{Ended}
use Rattle.node_engine.specs.declared.run.Ended.TheVariants.{Input, Asked as EndAsked}
use Rattle.node_engine.specs.Answers.{AnswersAsked, AnswersLine, AsksLine, NodeState}
use Rattle.node_engine.specs.Runs.{ClosesLog, EndsBy, EndsInOrder, Known, Served, Serves, Stand, line_of, stand}

abbrev is_nil : List ℕ → Bool
is_nil [] = true
is_nil (x ∷ xs) = false

both_nil : (xs ys : List ℕ) → xs ++ ys ≡ [] → (xs ≡ []) × (ys ≡ [])
both_nil [] ys h = (refl, h)
both_nil (x ∷ xs) ys h = absurd (true≢false (sym (ap is_nil h)))

-- of nothing, nothing is read
nothing_taken : (new : Known) (xs : List ℕ) → Consumes (Some []) new xs → xs ≡ []
nothing_taken None xs h = absurd h
nothing_taken (Some ys) xs h = (both_nil xs ys (sym h)).0

empty_asks : (root : ProcessId) → asked_at root [] ≡ asked.Nothing
unfolding asked_at
empty_asks root = refl

-- a line without bytes changes nothing, whether it is text or not
stays_by : (root : ProcessId) (old new : NodeState) (text : List ℕ) (a : NodeLine) → AsksLine root [] a
    → AnswersAsked a old new text
    → new ≡ old
stays_by root old new text a (inl (is, e)) h =
    (subst (λ (b : NodeLine). AnswersAsked b old new text) (e ∙ empty_asks root) h).0
stays_by root old new text a (inr (is, e)) h = (subst (λ (b : NodeLine). AnswersAsked b old new text) e h).0

stays : (old new : NodeState) (text : List ℕ) → AnswersLine [] old new text → new ≡ old
stays old new text h = stays_by (root_of old.tree) old new text h.asked h.asks h.answers

-- lines of nothing change nothing
serves_nothing : (old new : NodeState) (pieces : List (List ℕ)) (text : List ℕ)
    → flat_map (λ p. p) pieces ≡ []
    → Serves old pieces new text → new ≡ old
serves_nothing old new [] text none h = h.0
serves_nothing old new (piece ∷ pieces) text none (mid, first, rest, answers, serves, is) =
    let parts = both_nil piece (flat_map (λ p. p) pieces) none in
    serves_nothing mid new pieces rest parts.1 serves
    ∙ stays old mid first (subst (λ (l : List ℕ). AnswersLine (line_of l) old mid first) parts.0 answers)

served_nothing : (start : Stand) (opening : Reaction) (now : Stand) → start.left ≡ Some []
    → Served start opening now
    → now.state.core ≡ start.state.core
served_nothing start opening now none h =
    let taken = subst (λ (k : Known). Consumes k now.left (flat_map (λ p. p) h.pieces)) none h.took in
    let nothing = nothing_taken now.left (flat_map (λ p. p) h.pieces) taken in
    ap (λ (s : NodeState). s.core) (serves_nothing h.opened now.state h.pieces h.rest nothing h.serves)
    ∙ ap (λ (s : NodeState). s.core) h.shows.after

ends_core : (by : Ended) (start : Stand) (opening : Reaction) (now : Stand) → start.left ≡ Some []
    → EndsBy by start opening now → now.state.core ≡ start.state.core
ends_core Input start opening now none h = served_nothing start opening now none h.0
ends_core EndAsked start opening now none h =
    ap (λ (s : NodeState). s.core) h.state ∙ served_nothing start opening h.before none h.served

-- what is closed is the log of the process as it stood
pub ends_closes : {L : Type 0} (bytes : L → List ℕ) (forced failures : L → ℕ) (start : Stand)
    (opening : Reaction)
    (left held : Known) (store : L) → start.left ≡ Some []
    → EndsInOrder bytes forced failures start opening left held store
    → ClosesLog bytes forced failures start.state.core store
ends_closes bytes forced failures start opening left held store none h =
    subst (λ (c : CoreState). ClosesLog bytes forced failures c store)
    (ends_core h.by start opening h.last none h.ends)
    h.closes

-- the store of a node that was given no line has its log, as it was
pub all_closed : {L : Type 0} (bytes : L → List ℕ) (forced failures : L → ℕ)
    (r : Result L NodeFailure) (s : NodeState)
    (from held : Known) (opening : Reaction) (left now : Known) → from ≡ Some []
    → IfOk r (EndsInOrder bytes forced failures (stand from held s) opening left now)
    → IfOk r (ClosesLog bytes forced failures s.core)
all_closed bytes forced failures (Ok store) s from held opening left now none h =
    ends_closes bytes forced failures (stand from held s) opening left now store none h
all_closed bytes forced failures (Err e) s from held opening left now none h = tt
