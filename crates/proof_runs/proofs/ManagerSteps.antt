-- A manager's input, by whether it names listed processes and whether its device has failed.
use Rattle.std.proofs.Common.{◌≡◌, Bool, true, false, if◌then◌else◌, Option, List, refl, sym, subst, ◌∙◌}
use Rattle.protocol.specs.declared.names.Case.{Case}
use Rattle.protocol.specs.declared.names.ProcessId.{ProcessId}
use Rattle.protocol.specs.declared.events.Input.{Input}
use Rattle.protocol_words.specs.Variants.{ActInput, MessageInput}
use Rattle.protocol.specs.declared.events.Reaction.{Reaction}
use Rattle.protocol.specs.declared.events.StepError.TheVariants.{Failed, NoSuch}
use Rattle.protocol.specs.declared.trees.TreeProcess.{TreeProcess}
use Rattle.protocol.specs.Nodes.{AtLeaf, DataAnswer, Node, Place, after}
use Rattle.protocol.specs.Reactions.{Does, act_is_listed}
use Rattle.protocol.specs.Views.{leaf_place}
use Rattle.process_state.specs.States.{CoreState}
use Rattle.process_state.specs.Makes.{ProcessMakes, ProcessMoves}
use Rattle.process_state.specs.Turns.{Begins, Handles, Issues, Refuses, Says, Takes, Turn, reacted, turn_of, up_turn, heard_now}
use Rattle.tree_state.specs.Fits.{FreshIsUnmarked}
use Rattle.proof_runs.specs.Laws.{MadeAs}
use Rattle.tree_state.specs.StandsFor.{ChildrenFit, StandsFor}
use Rattle.proof_runs.proofs.Managers.{Follows, acted, heard_so}
use Rattle.proof_runs.proofs.Turns.{meets_as}

module _ (n : Node) (s s' : CoreState) (me p : ProcessId) (tree : List TreeProcess) (a : DataAnswer)
    (i : Input) (found : Option Case) where
  abbrev old : CoreState
  old = record s { place = leaf_place me p tree }

  abbrev new : CoreState
  new = record s' { place = leaf_place me p tree }

  up_follows : n.failed ≡ false → StandsFor n old → FreshIsUnmarked (leaf_place me p tree) n
      → (i : Input) → Follows n (heard_now a i) old new i (up_turn old a found i)
  up_follows runs stands fresh (ActInput x) = acted n s s' me p tree runs a stands x
  up_follows runs stands fresh (MessageInput k m) = heard_so n s s' me p tree runs a stands k m fresh

  follows : StandsFor n old → FreshIsUnmarked (leaf_place me p tree) n
      → Follows n (heard_now a i) old new i (turn_of old a found i)
  unfolding turn_of
  follows stands fresh = by_tests (act_is_listed tree i) n.failed refl
    where
      by_tests : (b f : Bool) → n.failed ≡ f
          → Follows n (heard_now a i) old new i
          (if b then (if s.log.failed then Refuses Failed else up_turn old a found i) else Refuses NoSuch)
      by_tests false f failed = λ e is made. absurd made
      by_tests true true failed =
          subst (λ z. Follows n (heard_now a i) old new i
          (if z then Refuses Failed else up_turn old a found i))
          (sym (stands.failed ∙ failed)) (λ e is made. absurd made)
      by_tests true false failed =
          subst (λ z. Follows n (heard_now a i) old new i
          (if z then Refuses Failed else up_turn old a found i))
          (sym (stands.failed ∙ failed)) (up_follows failed stands fresh i)

-- the place of a process is that of a manager
is_leaf_place : (q : Place) (p : ProcessId) → q.role ≡ AtLeaf p → q ≡ leaf_place q.me p q.tree
is_leaf_place q p is = λ i. record { me = q.me; role = is i; tree = q.tree }

-- in any turn that is made the place stays
pub place_stays : (old new : CoreState) (i : Input) (turn : Turn)
    → ProcessMoves old new i turn → new.place ≡ old.place
place_stays old new i (Refuses e) made = absurd made
place_stays old new i (Begins x) made = made.stays.place
place_stays old new i (Issues d t l) made = made.place
place_stays old new i (Takes c row) made = made.stays.place
place_stays old new i (Handles c row) made = made.stays.place
place_stays old new i (Says ls) made = made.rest.place

pub managers_make : (n : Node) (old new : CoreState) (p : ProcessId) (a : DataAnswer)
    (i : Input) (reaction : Reaction)
    → old.place.role ≡ AtLeaf p → StandsFor n old → ChildrenFit old.place n → FreshIsUnmarked old.place n
    → ProcessMakes old new a i reaction → MadeAs n (heard_now a i) old new reaction
managers_make n old new p a i reaction role stands fit fresh made =
    record {
      effect = made.effect;
      does = meets_as n old a made.found i (λ _. fit) made.finds stands ∙ made.does;
      shown = made.shown;
      stands = at_place old.place new.place (is_leaf_place old.place p role)
          (place_stays old new i (turn_of old a made.found i) made.moves) stands fresh made.does made.moves;
    }
  where
    at_place : (q r : Place) → q ≡ leaf_place old.place.me p old.place.tree → r ≡ q
        → StandsFor n (record old { place = q }) → FreshIsUnmarked q n
        → reacted (turn_of (record old { place = q }) a made.found i) ≡ Does made.effect
        → ProcessMoves (record old { place = q }) (record new { place = r }) i
        (turn_of (record old { place = q }) a made.found i)
        → StandsFor (after n (heard_now a i) made.effect) (record new { place = r })
    at_place q r is_q is_r =
        subst (λ r. StandsFor n (record old { place = q }) → FreshIsUnmarked q n
        → reacted (turn_of (record old { place = q }) a made.found i) ≡ Does made.effect
        → ProcessMoves (record old { place = q }) (record new { place = r }) i
        (turn_of (record old { place = q }) a made.found i)
        → StandsFor (after n (heard_now a i) made.effect)
        (record new { place = r })) (sym is_r)
        (subst (λ q. StandsFor n (record old { place = q }) → FreshIsUnmarked q n
        → reacted (turn_of (record old { place = q }) a made.found i) ≡ Does made.effect
        → ProcessMoves (record old { place = q }) (record new { place = q }) i
        (turn_of (record old { place = q }) a made.found i)
        → StandsFor (after n (heard_now a i) made.effect)
        (record new { place = q })) (sym is_q)
        (λ s f d m. follows n old new old.place.me p old.place.tree a i made.found s f made.effect d m))
