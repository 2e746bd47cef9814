-- An input at a coordinator below the root, by whether it names listed processes and whether its device has
-- failed.
use Rattle.std.proofs.Common.{◌≡◌, Bool, true, false, if◌then◌else◌, List, Option, refl, sym, subst, ◌∙◌}
use Rattle.protocol.specs.declared.names.Case.{Case}
use Rattle.protocol.specs.declared.names.ProcessId.{ProcessId}
use Rattle.protocol.specs.declared.events.Input.{Input}
use Rattle.protocol_words.specs.Variants.{ActInput, MessageInput}
use Rattle.protocol.specs.declared.events.Reaction.{Reaction}
use Rattle.protocol.specs.declared.events.StepError.TheVariants.{Failed, NoSuch}
use Rattle.protocol.specs.declared.trees.TreeProcess.{TreeProcess}
use Rattle.protocol.specs.Nodes.{Below, DataAnswer, Node, Place, after}
use Rattle.protocol.specs.Reactions.{Does, act_is_listed, is_passed_over}
use Rattle.process_state.specs.States.{CoreState}
use Rattle.process_state.specs.Makes.{ProcessMakes, ProcessMoves}
use Rattle.process_state.specs.Turns.{FindsChildCase, Refuses, Turn, asked_by, reacted, turn_of, up_turn, heard_now}
use Rattle.tree_state.specs.Fits.{CascadeFits}
use Rattle.proof_runs.specs.Laws.{MadeAs}
use Rattle.tree_state.specs.StandsFor.{StandsFor}
use Rattle.proof_runs.proofs.CascadeQuiet.{cascaded_place}
use Rattle.proof_runs.proofs.Cascades.{acted, heard_so}
use Rattle.proof_runs.proofs.Managers.{Follows}
use Rattle.proof_runs.proofs.ManagerSteps.{place_stays}
use Rattle.proof_runs.proofs.RootSteps.{failed_makes}
use Rattle.proof_runs.proofs.Turns.{meets_as}

module _ (n : Node) (s s' : CoreState) (me p : ProcessId) (tree : List TreeProcess)
    (a : DataAnswer) (i : Input)
    (found : Option Case) where
  abbrev old : CoreState
  old = record s { place = cascaded_place me p tree }

  abbrev new : CoreState
  new = record s' { place = cascaded_place me p tree }

  abbrev Leads : Input → Turn → Type 0
  Leads i turn = Follows n (heard_now a i) old new i turn

  up_follows : n.failed ≡ false → StandsFor n old → CascadeFits (cascaded_place me p tree) n → (i : Input)
      → FindsChildCase old (asked_by i) found
      → is_passed_over (cascaded_place me p tree) n i ≡ false → Leads i (up_turn old a found i)
  up_follows runs stands fits (ActInput x) finds late = acted n s s' me p tree a fits runs stands x
  up_follows runs stands fits (MessageInput k m) finds late =
      heard_so n s s' me p tree a fits runs stands k found m finds late

  follows : n.failed ≡ false → StandsFor n old → CascadeFits (cascaded_place me p tree) n
      → FindsChildCase old (asked_by i) found
      → is_passed_over (cascaded_place me p tree) n i ≡ false → Leads i (turn_of old a found i)
  unfolding turn_of
  follows runs stands fits finds late = by_test (act_is_listed tree i)
    where
      by_test : (b : Bool)
          → Leads i
          (if b then (if s.log.failed then Refuses Failed else up_turn old a found i) else Refuses NoSuch)
      by_test false = λ e is made. absurd made
      by_test true =
          subst (λ z. Leads i (if z then Refuses Failed else up_turn old a found i))
          (sym (stands.failed ∙ runs))
          (up_follows runs stands fits i finds late)

-- the place of a process is that of a coordinator below the root
pub is_cascaded_place : (q : Place) (p : ProcessId) → q.role ≡ Below p → q ≡ cascaded_place q.me p q.tree
is_cascaded_place q p is = λ i. record { me = q.me; role = is i; tree = q.tree }

module _ (n : Node) (old new : CoreState) (p : ProcessId) (a : DataAnswer) (i : Input) (reaction : Reaction)
    (role : old.place.role ≡ Below p)
    (stands : StandsFor n old) (made : ProcessMakes old new a i reaction) where
  abbrev at_place : Place → Place → Type 0
  at_place q r =
      StandsFor n (record old { place = q }) → CascadeFits q n
      → FindsChildCase (record old { place = q }) (asked_by i) made.found
      → is_passed_over q n i ≡ false → reacted
      (turn_of (record old { place = q }) a made.found i) ≡ Does made.effect
      → ProcessMoves (record old { place = q }) (record new { place = r }) i
      (turn_of (record old { place = q }) a made.found i)
      → StandsFor (after n (heard_now a i) made.effect) (record new { place = r })

  placed : n.failed ≡ false → (q r : Place) → q
      ≡ cascaded_place old.place.me p old.place.tree → r ≡ q → at_place q r
  placed runs q r is_q is_r =
      subst (at_place q) (sym is_r)
      (subst (λ q. at_place q q) (sym is_q)
      (λ s f g l d m. follows n old new old.place.me p old.place.tree a i made.found
      runs s f g l made.effect d m))

  made_so : n.failed ≡ false → CascadeFits old.place n → is_passed_over old.place n i ≡ false
      → MadeAs n (heard_now a i) old new reaction
  made_so runs fits late =
      record {
        effect = made.effect;
        does = meets_as n old a made.found i (λ _. fits.children) made.finds stands ∙ made.does;
        shown = made.shown;
        stands = placed runs old.place new.place (is_cascaded_place old.place p role)
            (place_stays old new i (turn_of old a made.found i) made.moves)
            stands fits made.finds late made.does made.moves;
      }

  pub cascade_makes : (n.failed ≡ false → CascadeFits old.place n) → is_passed_over old.place n i ≡ false
      → MadeAs n (heard_now a i) old new reaction
  cascade_makes fits late = by_failed n.failed refl
    where
      by_failed : (f : Bool) → n.failed ≡ f → MadeAs n
          (heard_now a i) old new reaction
      by_failed false runs = made_so runs (fits runs) late
      by_failed true failed = failed_makes old new a made.found i (stands.failed ∙ failed) made.moves
