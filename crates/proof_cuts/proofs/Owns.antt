-- What each process makes alone comes to one run of all.
use Rattle.std.proofs.Common.{◌≡◌, ◌∙◌, ap, sym, subst, refl, inl, inr, false, Option, None, Some, List, [], ◌∷◌, ◌++◌}
use Rattle.protocol.specs.declared.names.ProcessId.{ProcessId}
use Rattle.protocol.specs.declared.events.JournalEntry.{JournalEntry}
use Rattle.protocol.specs.declared.events.Happening.{Happening}
use Rattle.protocol.specs.declared.events.Happening.TheVariants.{Trim}
use Rattle.protocol_words.specs.Variants.{Handles}
use Rattle.protocol.specs.declared.events.Reaction.{Reaction}
use Rattle.protocol.specs.declared.trees.TreeProcess.{TreeProcess}
use Rattle.protocol.specs.NameLaws.{same_process_tells}
use Rattle.protocol.specs.Nodes.{DataAnswer, Effect, Node, place_of}
use Rattle.protocol.specs.World.{Made, Makes, Move, World, entries_of, journal_of, made_by, opened_world, opens, put_at}
use Rattle.protocol.proofs.RunLaws.{makes_at}
use Rattle.proof_headline.proofs.runs.Headline
use Rattle.process_state.specs.States.{CoreState}
use Rattle.process_state.specs.Turns.{no_answer, this_version, turn_of}
use Rattle.protocol.specs.World.{AllBy}
use Rattle.proof_reports.proofs.SecondRuns.{second_runs_report}
use Rattle.tree_state.specs.StandsFor.{StandsFor}
use Rattle.tree_state.specs.Steps.{restart_of, trim_reaction}
use Rattle.proof_runs.specs.worlds.Laws.{MovesWorld}
use Rattle.tree_state.specs.Worlds.{step_entry}
use Rattle.proof_runs.specs.worlds.Follows.{Follows}
use Rattle.proof_runs.proofs.Faults.{same_stands}
use Rattle.proof_runs.proofs.ManagerSteps.{place_stays}
use Rattle.proof_runs.proofs.worlds.Kept.{all_opened, keeps_own, open_fits}
use Rattle.proof_runs.proofs.worlds.Moves.{inputs_move}
use Rattle.proof_runs.proofs.worlds.Openings.{opened_stands}
use Rattle.proof_runs.proofs.worlds.RunRestarts.{restarts_move, trims_move}
use Rattle.proof_runs.proofs.worlds.Whole.{modelled}
use Rattle.tree_state.specs.Cuts.{IsCut, IsNodeRun}
use Rattle.proof_cuts.specs.Owns.{CutsHold, EndsModelled, EntersOwn, InputsAreMade, OneStands, OpensOwn, OwnMakes, OwnRun, RestartsAreMade, SameStays, TrimsAreMade}
use Rattle.proof_cuts.proofs.Cuts.{at_one, cuts_are_runs, here_one, made_by_all, node_run, own_entries, self}

-- A move of the world at a process, seen from it alone.

at_of : (q : ProcessId) (w w' : World) (left : Node) (e : Effect)
    → record { at = put_at q left w.at; net = w.net ++ e.messages } ≡ w' → w'.at q ≡ left
at_of q w w' left e same = ap (λ (v : World). v.at q) (sym same) ∙ (rw (self q) refl)

module _ (tree : List TreeProcess) (q : ProcessId) (own : List JournalEntry) (old new : CoreState)
    (run : OwnRun tree q own old) where
  -- what it shows is the journal's entry
  abbrev pub move_with : Happening → DataAnswer → Move
  move_with h a =
      record {
        step = record { process = q; happening = h; fault = None };
        data_answer = a;
        version = this_version;
      }

  pub own_makes : (h : Happening) (a : DataAnswer) (reaction : Reaction) → new.place ≡ place_of tree q
      → MovesWorld tree run.world q new (move_with h a) reaction
      → OwnMakes tree q own new (step_entry q h reaction)
  own_makes h a reaction place moves =
      let m = move_with h a in
      let w' : World = record {
        at = put_at q moves.left run.world.at;
        net = run.world.net ++ moves.effect.messages;
      } in
      let at = makes_at tree run.world m moves.effect w' moves.makes in
      let same : at.node ≡ moves.left =
      sym (at_of q run.world w' at.node moves.effect (sym at.world)) ∙ (rw (self q) refl) in
      record {
        node = moves.left;
        makes = record {
          moves = made_by q run.moves;
          node = run.world.at q;
          move = m;
          effect = moves.effect;
          made = node_run tree run.moves run.world run.is_run q;
          shown = run.shown;
          mine = refl;
          by_this = (refl, made_by_all this_version run.moves run.by_this q);
          makes = at.made ∙ ap (λ n. Makes moves.effect n) same;
          is = ap (λ y. step_entry q h y) (sym moves.shown);
        };
        place = place;
        stands = moves.stands;
      }

nothing_shown : (q : ProcessId) → journal_of (made_by q []) ≡ []
unfolding journal_of made_by
nothing_shown q = refl

pub opens_own : OpensOwn
opens_own tree q s failures opened =
    record {
      moves = [];
      world = opened_world;
      is_run = opens;
      by_this = tt;
      shown = nothing_shown q;
      place = opened.place_is;
      stands = opened_stands s (place_of tree q) failures opened;
    }

pub inputs_are_made : InputsAreMade
inputs_are_made tree q own old new before behind i reaction listed run made =
    own_makes tree q own old new run (Handles i) made.answer reaction
    (place_stays old new i (turn_of old made.answer made.makes.found i) made.makes.moves ∙ run.place)
    (inputs_move tree run.moves run.world run.is_run q old new made.answer i run.place run.stands
    listed reaction made.makes)

pub restarts_are_made : RestartsAreMade
restarts_are_made tree q own old new keep reaction is_tree listed run made =
    own_makes tree q own old new run (restart_of old keep) no_answer reaction (made.place ∙ run.place)
    (restarts_move tree run.world q old new run.place run.stands listed
    (keeps_own tree run.moves run.world is_tree run.is_run q listed) keep reaction made)

pub trims_are_made : TrimsAreMade
trims_are_made tree q own old new remain is_tree listed run works sound made =
    let up : (run.world.at q).failed ≡ false = sym run.stands.failed ∙ works in
    own_makes tree q own old new run Trim no_answer
    (trim_reaction remain) (made.rest.place ∙ run.place)
    (trims_move tree run.world q old new run.place run.stands listed
    (keeps_own tree run.moves run.world is_tree run.is_run q listed) up
    (all_opened tree run.moves run.world run.is_run q) sound
    (open_fits tree run.moves run.world run.is_run q up) remain made)

pub same_stays : SameStays
same_stays tree q own old new run same = record {
  moves = run.moves;
  world = run.world;
  is_run = run.is_run;
  by_this = run.by_this;
  shown = run.shown;
  place = same.rest.place ∙ run.place;
  stands = same_stands (run.world.at q) old new same run.stands;
}

pub enters_own : EntersOwn
enters_own tree xs x q s left node cut at place stands =
    let one = cuts_are_runs tree (xs ++ x ∷ []) left cut in
    record {
      moves = one.moves;
      world = one.world;
      is_run = one.is_run;
      by_this = one.by_this;
      shown = own_entries one.moves q ∙ ap (λ l. entries_of q l) one.are_entries;
      place = place;
      stands = subst (λ n. StandsFor n s) (sym (one.nodes q ∙ at)) stands;
    }

pub cuts_hold : CutsHold
cuts_hold tree xs left is_tree cut =
    let one = cuts_are_runs tree xs left cut in
    record {
      moves = one.moves;
      world = one.world;
      is_run = one.is_run;
      by_this = one.by_this;
      are_entries = one.are_entries;
      given = cut.given;
      headline = Headline.headline tree is_tree one.moves one.world one.is_run;
      mismatches_are_reported = second_runs_report tree is_tree one.moves one.world one.is_run one.by_this;
    }

-- One process in the run of all.

pub one_stands : OneStands
one_stands tree xs left q s is_tree cut own =
    let node = own.world.at q in
    let moves = made_by q own.moves in
    let others : IsCut tree xs (at_one q node left) = record {
      moves = at_one q moves cut.moves;
      made = λ r. elim (same_process_tells q r) [
        | inl t ↦ rw t.0 (subst (λ p. IsNodeRun (place_of tree p) moves node) t.1
            (node_run tree own.moves own.world own.is_run q))
        | inr z ↦ rw z.0 (cut.made r)
      ];
      by_this = λ r. elim (same_process_tells q r) [
        | inl t ↦ rw t.0 (made_by_all this_version own.moves own.by_this q)
        | inr z ↦ rw z.0 (cut.by_this r)
      ];
      shown = λ r. elim (same_process_tells q r) [
        | inl t ↦ rw t.0 (own.shown ∙ ap (λ p. entries_of p xs) t.1)
        | inr z ↦ rw z.0 (cut.shown r)
      ];
      given = cut.given;
    } in
    let one = cuts_are_runs tree xs (at_one q node left) others in
    record {
      moves = one.moves;
      world = one.world;
      is_run = one.is_run;
      are_entries = one.are_entries;
      headline = Headline.headline tree is_tree one.moves one.world one.is_run;
      mismatches_are_reported = second_runs_report tree is_tree one.moves one.world one.is_run one.by_this;
      place = own.place;
      stands = subst (λ n. StandsFor n s) (sym (one.nodes q ∙ here_one q node left)) own.stands;
    }

-- The end.

-- the node of a process, by its own run if there is one
record Picked (tree : List TreeProcess) (xs : List JournalEntry) (q : ProcessId)
    (o : Option CoreState) : Type 0 where
  pub node : Node
  pub moves : List Made
  pub made : IsNodeRun (place_of tree q) moves node
  pub by_this : AllBy this_version moves
  pub shown : journal_of moves ≡ entries_of q xs
  pub stands : (c : CoreState) → o ≡ Some c → (c.place ≡ place_of tree q) × StandsFor node c

some_one : (a b : CoreState) → Some a ≡ Some b → a ≡ b
some_one a b h = cc

picked : (tree : List TreeProcess) (xs : List JournalEntry) (left : ProcessId → Node) → IsCut tree xs left
    → (q : ProcessId) (o : Option CoreState)
    → ((c : CoreState) → o ≡ Some c → OwnRun tree q (entries_of q xs) c) → Picked tree xs q o
picked tree xs left cut q None own = record {
  node = left q;
  moves = cut.moves q;
  made = cut.made q;
  by_this = cut.by_this q;
  shown = cut.shown q;
  stands = λ c h. absurd (cc);
}
picked tree xs left cut q (Some d) own =
    let run = own d refl in
    record {
      node = run.world.at q;
      moves = made_by q run.moves;
      made = node_run tree run.moves run.world run.is_run q;
      by_this = made_by_all this_version run.moves run.by_this q;
      shown = run.shown;
      stands = λ c h. subst (λ k. (k.place ≡ place_of tree q) × StandsFor (run.world.at q) k) (some_one d c h)
          (run.place, run.stands);
    }

pub ends_modelled : EndsModelled
ends_modelled s left is_tree end =
    let pick : (q : ProcessId) → Picked s.tree s.entries q (s.node_at q) =
    λ q. picked s.tree s.entries left end.cut q (s.node_at q) (end.own q) in
    let cut : IsCut s.tree s.entries (λ q. (pick q).node) = record {
      moves = λ q. (pick q).moves;
      made = λ q. (pick q).made;
      by_this = λ q. (pick q).by_this;
      shown = λ q. (pick q).shown;
      given = end.cut.given;
    } in
    let one = cuts_are_runs s.tree s.entries (λ q. (pick q).node) cut in
    let f : Follows one.moves one.world s = record {
      is_run = one.is_run;
      by_this = one.by_this;
      shown = one.are_entries;
      net = end.net ∙ sym one.net;
      nodes = λ q c there.
          let is = (pick q).stands c there in
          record { place = is.0; stands = subst (λ n. StandsFor n c) (sym (one.nodes q)) is.1 };
      listed = end.listed;
    } in
    modelled s one.moves one.world is_tree f
