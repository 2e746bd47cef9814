-- A root's input, by whether it names listed processes and whether its device has failed.
use Rattle.std.proofs.Common.{◌≡◌, Bool, true, false, if◌then◌else◌, List, Option, refl, sym, subst, ◌∙◌}
use Rattle.protocol.specs.declared.names.Case.{Case}
use Rattle.protocol.specs.declared.names.ProcessId.{ProcessId}
use Rattle.protocol.specs.declared.events.Input.{Input}
use Rattle.protocol_words.specs.Variants.{ActInput, MessageInput}
use Rattle.protocol.specs.declared.events.Reaction.{Reaction}
use Rattle.protocol.specs.declared.events.StepError.TheVariants.{Failed, NoSuch}
use Rattle.protocol.specs.declared.trees.TreeProcess.{TreeProcess}
use Rattle.protocol.specs.Nodes.{AtRoot, DataAnswer, Node, Place, after}
use Rattle.protocol.specs.Reactions.{Does, act_is_listed}
use Rattle.protocol.specs.Views.{root_place}
use Rattle.process_state.specs.States.{CoreState}
use Rattle.process_state.specs.Makes.{ProcessMakes, ProcessMoves}
use Rattle.process_state.specs.Turns.{FindsChildCase, Refuses, Turn, asked_by, reacted, turn_of, up_turn, heard_now}
use Rattle.tree_state.specs.Fits.{RootFits}
use Rattle.proof_runs.specs.Laws.{MadeAs}
use Rattle.tree_state.specs.StandsFor.{StandsFor}
use Rattle.proof_runs.proofs.Managers.{Follows}
use Rattle.proof_runs.proofs.ManagerSteps.{place_stays}
use Rattle.proof_runs.proofs.Roots.{acted, heard_so}
use Rattle.proof_runs.proofs.Turns.{meets_as}

-- a process whose device failed makes nothing
pub failed_makes : {A : Type 0} (old new : CoreState) (a : DataAnswer) (found : Option Case) (i : Input)
    → old.log.failed ≡ true
    → ProcessMoves old new i (turn_of old a found i) → A
unfolding turn_of
failed_makes old new a found i failed = by_test (act_is_listed old.place.tree i)
  where
    by_test : {A : Type 0} (b : Bool)
        → ProcessMoves old new i
        (if b then (if old.log.failed then Refuses Failed else up_turn old a found i) else Refuses NoSuch) → A
    by_test false made = absurd made
    by_test true made =
        absurd
        (subst (λ b. ProcessMoves old new i (if b then Refuses Failed else up_turn old a found i)) failed
        made)

module _ (n : Node) (s s' : CoreState) (me : ProcessId) (tree : List TreeProcess) (a : DataAnswer) (i : Input)
    (found : Option Case) where
  abbrev old : CoreState
  old = record s { place = root_place me tree }

  abbrev new : CoreState
  new = record s' { place = root_place me tree }

  abbrev Leads : Input → Turn → Type 0
  Leads i turn = Follows n (heard_now a i) old new i turn

  up_follows : n.failed ≡ false → StandsFor n old → RootFits (root_place me tree) n → (i : Input)
      → FindsChildCase old (asked_by i) found
      → Leads i (up_turn old a found i)
  up_follows runs stands fits (ActInput x) finds = acted n s s' me tree a fits runs stands x
  up_follows runs stands fits (MessageInput k m) finds =
      heard_so n s s' me tree a fits runs stands k found m finds

  follows : n.failed ≡ false → StandsFor n old → RootFits (root_place me tree) n
      → FindsChildCase old (asked_by i) found
      → Leads i (turn_of old a found i)
  unfolding turn_of
  follows runs stands fits finds = by_test (act_is_listed tree i)
    where
      by_test : (b : Bool)
          → Leads i
          (if b then (if s.log.failed then Refuses Failed else up_turn old a found i) else Refuses NoSuch)
      by_test false = λ e is made. absurd made
      by_test true =
          subst (λ z. Leads i (if z then Refuses Failed else up_turn old a found i))
          (sym (stands.failed ∙ runs))
          (up_follows runs stands fits i finds)

-- the place of a process is that of a root
is_root_place : (q : Place) → q.role ≡ AtRoot → q ≡ root_place q.me q.tree
is_root_place q is = λ i. record { me = q.me; role = is i; tree = q.tree }

module _ (n : Node) (old new : CoreState) (a : DataAnswer) (i : Input) (reaction : Reaction)
    (role : old.place.role ≡ AtRoot) (stands : StandsFor n old)
    (made : ProcessMakes old new a i reaction) where
  abbrev at_place : Place → Place → Type 0
  at_place q r =
      StandsFor n (record old { place = q }) → RootFits q n
      → FindsChildCase (record old { place = q }) (asked_by i) made.found
      → reacted (turn_of (record old { place = q }) a made.found i) ≡ Does made.effect
      → ProcessMoves (record old { place = q }) (record new { place = r }) i
      (turn_of (record old { place = q }) a made.found i)
      → StandsFor (after n (heard_now a i) made.effect) (record new { place = r })

  placed : n.failed ≡ false → (q r : Place) → q
      ≡ root_place old.place.me old.place.tree → r ≡ q → at_place q r
  placed runs q r is_q is_r =
      subst (at_place q) (sym is_r)
      (subst (λ q. at_place q q) (sym is_q)
      (λ s f g d m. follows n old new old.place.me old.place.tree a i made.found runs s f g made.effect d m))

  made_so : n.failed ≡ false → RootFits old.place n
      → MadeAs n (heard_now a i) old new reaction
  made_so runs fits =
      record {
        effect = made.effect;
        does = meets_as n old a made.found i (λ _. fits.children) made.finds stands ∙ made.does;
        shown = made.shown;
        stands = placed runs old.place new.place (is_root_place old.place role)
            (place_stays old new i (turn_of old a made.found i) made.moves)
            stands fits made.finds made.does made.moves;
      }

  pub root_makes : (n.failed ≡ false → RootFits old.place n)
      → MadeAs n (heard_now a i) old new reaction
  root_makes fits = by_failed n.failed refl
    where
      by_failed : (f : Bool) → n.failed ≡ f → MadeAs n
          (heard_now a i) old new reaction
      by_failed false runs = made_so runs (fits runs)
      by_failed true failed = failed_makes old new a made.found i (stands.failed ∙ failed) made.moves
