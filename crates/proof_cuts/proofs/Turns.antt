-- Several steps in one turn.
use Rattle.std.proofs.Common.{◌≡◌, ◌∙◌, ◌+◌, ◌-◌, ap, sym, subst, refl, ℕ, zero, suc, inl, inr, true, false, Some, None, List, [], ◌∷◌, ◌++◌}
use Rattle.std.specs.Prelude.{slice_get}
use Rattle.std.proofs.lemmas.List.{append-nil, append_assoc}
use Rattle.protocol.specs.declared.names.ProcessId.{ProcessId}
use Rattle.protocol.specs.declared.messages.Envelope.{Envelope}
use Rattle.protocol.specs.declared.events.JournalEntry.{JournalEntry}
use Rattle.protocol.specs.declared.events.Happening.{Happening}
use Rattle.protocol.specs.declared.events.Happening.TheVariants.{Restart, Trim}
use Rattle.protocol_words.specs.Variants.{ActInput, Handles, MessageInput}
use Rattle.protocol.specs.declared.events.Reaction.{Reaction}
use Rattle.protocol.specs.declared.trees.TreeProcess.{TreeProcess}
use Rattle.protocol.specs.Names.{same_process}
use Rattle.protocol.specs.NameLaws.{same_process_tells}
use Rattle.protocol.specs.Nodes.{DataAnswer, is_listed, place_of}
use Rattle.protocol.specs.Trees.{IsTree}
use Rattle.protocol.specs.World.{Made, Move, MayHappen, World, entries_of, entry_of, journal_of, made_by, makes, put_at}
use Rattle.process_state.specs.States.{CoreState, SameCore}
use Rattle.process_state.specs.Turns.{no_answer, this_version, turn_of}
use Rattle.resource_manager.specs.Data.{ManagerData}
use Rattle.tree_state.specs.StandsFor.{StandsFor}
use Rattle.tree_state.specs.Steps.{restart_of, trim_reaction}
use Rattle.proof_runs.specs.worlds.Laws.{MovesWorld}
use Rattle.tree_state.specs.Worlds.{step_entry}
use Rattle.proof_runs.proofs.Faults.{same_stands}
use Rattle.proof_runs.proofs.ManagerSteps.{place_stays}
use Rattle.proof_runs.proofs.worlds.Kept.{all_opened, keeps_own, open_fits}
use Rattle.proof_runs.proofs.worlds.Moves.{inputs_move}
use Rattle.proof_runs.proofs.worlds.RunRestarts.{restarts_move, trims_move}
use Rattle.proof_cuts.specs.Alone.{MakesAlone, RunsAlone, StepAlone, stays_alone, steps_alone}
use Rattle.tree_state.specs.Cuts.{AreGiven, FindsMessage, IsCut, IsGivenEntry, IsNodeRun, net_of, one_more}
use Rattle.proof_cuts.specs.Turns.{AllGiven, GoesAlone, OwnRunOver, StandsOver, TurnsEnter, TurnsGoOn, begins_alone, goes_alone, rests_alone}
use Rattle.proof_cuts.proofs.Cuts.{at_one, cuts_are_runs, found_stands, here_one, journal_step, made_by_all, made_own, net_more, node_run, none_more, own_entries, own_more, self}

-- The net grows.

get_longer : {A : Type 0} (l m : List A) (i : ℕ) (a : A) → slice_get l i ≡ Some a
    → slice_get (l ++ m) i ≡ Some a
get_longer [] m i a e = absurd (cc)
get_longer (x ∷ xs) m zero a e = e
get_longer (x ∷ xs) m (suc i) a e = get_longer xs m i a e

pub finds_longer : (net more : List Envelope) (q : ProcessId) (h : Happening) → FindsMessage net q h
    → FindsMessage (net ++ more) q h
finds_longer net more q (Handles (ActInput a)) s = tt
finds_longer net more q (Handles (MessageInput k m)) s = record {
  sender = s.sender;
  counted = s.counted;
  stands = get_longer net more (0 + (k - 1)) _ s.stands;
}
finds_longer net more q (Restart k) s = tt
finds_longer net more q Trim s = tt

given_longer : (tree : List TreeProcess) (net more : List Envelope) (x : JournalEntry)
    → IsGivenEntry tree net x
    → IsGivenEntry tree (net ++ more) x
given_longer tree net more x is = record {
  listed = is.listed;
  finds = finds_longer net more x.step.process x.step.happening is.finds;
  unfailed = is.unfailed;
}

pub all_longer : (tree : List TreeProcess) (net more : List Envelope) (q : ProcessId) (zs : List JournalEntry)
    → AllGiven tree net q zs → AllGiven tree (net ++ more) q zs
all_longer tree net more q [] all = tt
all_longer tree net more q (z ∷ zs) all =
    (all.0, given_longer tree net more z all.1, all_longer tree net more q zs all.2)

-- After a mark.

pub stands_over : StandsOver
stands_over tree xs left q s cut own =
    let node = own.world.at q in
    let moves = made_by q own.moves in
    let others : IsCut tree xs (at_one q node left) = record {
      moves = at_one q moves cut.moves;
      made = λ r. elim (same_process_tells q r) [
        | inl t ↦ rw t.0 (subst (λ p. IsNodeRun (place_of tree p) moves node) t.1
            (node_run tree own.moves own.world own.is_run q))
        | inr z ↦ rw z.0 (cut.made r)
      ];
      by_this = λ r. elim (same_process_tells q r) [
        | inl t ↦ rw t.0 (made_by_all this_version own.moves own.by_this q)
        | inr z ↦ rw z.0 (cut.by_this r)
      ];
      shown = λ r. elim (same_process_tells q r) [
        | inl t ↦ rw t.0 (own.shown ∙ ap (λ p. entries_of p xs) t.1)
        | inr z ↦ rw z.0 (cut.shown r)
      ];
      given = cut.given;
    } in
    let one = cuts_are_runs tree xs (at_one q node left) others in
    record {
      run = record {
        moves = one.moves;
        world = one.world;
        is_run = one.is_run;
        by_this = one.by_this;
        shown = own_entries one.moves q ∙ ap (λ l. entries_of q l) one.are_entries;
        place = own.place;
        stands = subst (λ n. StandsFor n s) (sym (one.nodes q ∙ here_one q node left)) own.stands;
      };
      more = [];
      sent = one.net ∙ sym (append-nil (net_of xs));
    }

-- Between two steps.

module _ (tree : List TreeProcess) (net : List Envelope) (q : ProcessId) (own : List JournalEntry)
    (old new : CoreState)
    (over : OwnRunOver tree net q own old) where
  abbrev pub move_by : Happening → DataAnswer → Move
  move_by h a =
      record {
        step = record { process = q; happening = h; fault = None };
        data_answer = a;
        version = this_version;
      }

  pub goes_on : (h : Happening) (a : DataAnswer) (reaction : Reaction) → new.place ≡ place_of tree q
      → FindsMessage net q h → MovesWorld tree over.run.world q new (move_by h a) reaction
      → OwnRunOver tree net q (own ++ step_entry q h reaction ∷ []) new
  goes_on h a reaction place finds moves =
      let run = over.run in
      let m = move_by h a in
      let made : Made = record { move = m; effect = moves.effect } in
      let w' : World = record {
        at = put_at q moves.left run.world.at;
        net = run.world.net ++ moves.effect.messages;
      } in
      let found : MayHappen run.world.net q h =
      found_stands run.world.net q h (subst (λ l. FindsMessage l q h) (sym over.sent)
      (finds_longer net over.more q h finds)) in
      let here : w'.at q ≡ moves.left = rw (self q) refl in
      record {
        run = record {
          moves = made ∷ run.moves;
          world = w';
          is_run = makes run.moves run.world m moves.effect w' run.is_run found moves.makes;
          by_this = (refl, run.by_this);
          shown = ap journal_of (made_own q made run.moves (self q))
              ∙ (journal_step made (made_by q run.moves)
              ∙ (ap (λ l. l ++ entry_of made ∷ []) run.shown
              ∙ ap (λ y. own ++ step_entry q h y ∷ []) (sym moves.shown)));
          place = place;
          stands = subst (λ n. StandsFor n new) (sym here) moves.stands;
        };
        more = over.more ++ moves.effect.messages;
        sent = ap (λ l. l ++ moves.effect.messages) over.sent
            ∙ append_assoc net over.more moves.effect.messages;
      }

  -- by what happens
  go_by : (d e : ManagerData) (keep : ℕ) (h : Happening) (r : Reaction) → IsTree tree
      → is_listed tree q ≡ true
      → FindsMessage net q h → MakesAlone old new d e keep h r
      → OwnRunOver tree net q (own ++ step_entry q h r ∷ []) new
  go_by d e keep (Handles i) r is_tree listed finds made =
      let run = over.run in
      goes_on (Handles i) made.answer r
      (place_stays old new i (turn_of old made.answer made.makes.found i) made.makes.moves ∙ run.place)
      finds
      (inputs_move tree run.moves run.world run.is_run q old new made.answer i run.place run.stands
      listed r made.makes)
  go_by d e keep (Restart k) r is_tree listed finds made =
      let run = over.run in
      subst (λ n. OwnRunOver tree net q (own ++ step_entry q (Restart n) r ∷ []) new) (sym made.kept)
      (goes_on (restart_of old keep) no_answer r (made.restarts.place ∙ run.place) tt
      (restarts_move tree run.world q old new run.place run.stands listed
      (keeps_own tree run.moves run.world is_tree run.is_run q listed) keep r made.restarts))
  go_by d e keep Trim r is_tree listed finds made =
      let run = over.run in
      let one = made.1 in
      let up : (run.world.at q).failed ≡ false = sym run.stands.failed ∙ one.works in
      subst (λ x. OwnRunOver tree net q (own ++ step_entry q Trim x ∷ []) new) (sym made.2)
      (goes_on Trim no_answer (trim_reaction made.0) (one.trims.rest.place ∙ run.place) tt
      (trims_move tree run.world q old new run.place run.stands listed
      (keeps_own tree run.moves run.world is_tree run.is_run q listed) up
      (all_opened tree run.moves run.world run.is_run q) one.sound
      (open_fits tree run.moves run.world run.is_run q up) made.0 one.trims))

  -- a step of the process
  pub go_one : (d e : ManagerData) (z : JournalEntry) → IsTree tree → is_listed tree q ≡ true
      → FindsMessage net z.step.process z.step.happening → StepAlone tree q old new d e z
      → OwnRunOver tree net q (own ++ z ∷ []) new
  go_one d e z is_tree listed finds step =
      let finds' = subst (λ p. FindsMessage net p z.step.happening) step.process finds in
      let one = go_by d e step.keep z.step.happening z.reaction is_tree listed finds' step.makes in
      subst (λ y. OwnRunOver tree net q (own ++ y ∷ []) new)
      (λ k. record {
        step = record {
          process = sym step.process k;
          happening = z.step.happening;
          fault = sym step.unfailed k;
        };
        reaction = z.reaction;
      }) one

-- if nothing is otherwise it stands as before
over_rests : (tree : List TreeProcess) (net : List Envelope) (q : ProcessId) (own : List JournalEntry)
    (s t : CoreState)
    → OwnRunOver tree net q own s → SameCore s t → OwnRunOver tree net q own t
over_rests tree net q own s t over same = record {
  run = record {
    moves = over.run.moves;
    world = over.run.world;
    is_run = over.run.is_run;
    by_this = over.run.by_this;
    shown = over.run.shown;
    place = same.rest.place ∙ over.run.place;
    stands = same_stands (over.run.world.at q) s t same over.run.stands;
  };
  more = over.more;
  sent = over.sent;
}

-- the front of a list, and its last
record Ends (tree : List TreeProcess) (net : List Envelope) (q : ProcessId) (zs : List JournalEntry)
    (z : JournalEntry) : Type 0 where
  front : AllGiven tree net q zs
  last : IsGivenEntry tree net z

ends_of : (tree : List TreeProcess) (net : List Envelope) (q : ProcessId) (zs : List JournalEntry)
    (z : JournalEntry)
    → AllGiven tree net q (zs ++ z ∷ []) → Ends tree net q zs z
ends_of tree net q [] z all = record { front = tt; last = all.1 }
ends_of tree net q (y ∷ zs) z all =
    let rest = ends_of tree net q zs z all.2 in
    record { front = (all.0, all.1, rest.front); last = rest.last }

pub turns_go_on : TurnsGoOn
turns_go_on tree net q own s d _ _ _ is_tree listed over begins_alone all =
    subst (λ l. OwnRunOver tree net q l s) (sym (append-nil own)) over
turns_go_on tree net q own s d _ _ _ is_tree listed over (rests_alone zs t u e f goes same rests) all =
    over_rests tree net q (own ++ zs) t u
    (turns_go_on tree net q own s d zs t e is_tree listed over goes all) same
turns_go_on tree net q own s d _ _ _ is_tree listed over (goes_alone zs z t u e f goes step) all =
    let ends = ends_of tree net q zs z all in
    let mid = turns_go_on tree net q own s d zs t e is_tree listed over goes ends.front in
    subst (λ l. OwnRunOver tree net q l u) (append_assoc own zs (z ∷ []))
    (go_one tree net q (own ++ zs) t u mid e f z is_tree listed ends.last.finds step)

-- with what it made before, it made them by itself
pub runs_on : (tree : List TreeProcess) (q : ProcessId) (own : List JournalEntry) (s : CoreState)
    (d : ManagerData)
    (zs : List JournalEntry) (t : CoreState) (e : ManagerData) → RunsAlone tree q own s d
    → GoesAlone tree q s d zs t e
    → RunsAlone tree q (own ++ zs) t e
runs_on tree q own s d _ _ _ ran begins_alone = subst (λ l. RunsAlone tree q l s d) (sym (append-nil own)) ran
runs_on tree q own s d _ _ _ ran (rests_alone zs t u e f goes same rests) =
    stays_alone (own ++ zs) t u e f (runs_on tree q own s d zs t e ran goes) same rests
runs_on tree q own s d _ _ _ ran (goes_alone zs z t u e f goes step) =
    subst (λ l. RunsAlone tree q l u f) (append_assoc own zs (z ∷ []))
    (steps_alone (own ++ zs) z t u e f (runs_on tree q own s d zs t e ran goes) step)

-- At the entry.

pub own_many : (tree : List TreeProcess) (net : List Envelope) (q : ProcessId) (xs zs : List JournalEntry)
    → AllGiven tree net q zs → entries_of q (xs ++ zs) ≡ entries_of q xs ++ zs
own_many tree net q xs [] all =
    ap (λ l. entries_of q l) (append-nil xs) ∙ sym (append-nil (entries_of q xs))
own_many tree net q xs (z ∷ zs) all =
    ap (λ l. entries_of q l) (sym (append_assoc xs (z ∷ []) zs))
    ∙ (own_many tree net q (xs ++ z ∷ []) zs all.2
    ∙ (ap (λ l. l ++ zs) (own_more q xs z (ap (λ p. same_process p q) all.0 ∙ self q))
    ∙ append_assoc (entries_of q xs) (z ∷ []) zs))

none_many : (tree : List TreeProcess) (net : List Envelope) (q r : ProcessId) (xs zs : List JournalEntry)
    → AllGiven tree net q zs → same_process q r ≡ false → entries_of r (xs ++ zs) ≡ entries_of r xs
none_many tree net q r xs [] all away = ap (λ l. entries_of r l) (append-nil xs)
none_many tree net q r xs (z ∷ zs) all away =
    ap (λ l. entries_of r l) (sym (append_assoc xs (z ∷ []) zs))
    ∙ (none_many tree net q r (xs ++ z ∷ []) zs all.2 away
    ∙ none_more r xs z (ap (λ p. same_process p r) all.0 ∙ away))

given_many : (tree : List TreeProcess) (q : ProcessId) (xs zs : List JournalEntry) → AreGiven tree xs
    → AllGiven tree (net_of xs) q zs → AreGiven tree (xs ++ zs)
given_many tree q xs [] given all = subst (AreGiven tree) (sym (append-nil xs)) given
given_many tree q xs (z ∷ zs) given all =
    subst (AreGiven tree) (append_assoc xs (z ∷ []) zs)
    (given_many tree q (xs ++ z ∷ []) zs (one_more xs z given all.1)
    (subst (λ l. AllGiven tree l q zs) (sym (net_more xs z))
    (all_longer tree (net_of xs) z.reaction.messages q zs all.2)))

pub turns_enter : TurnsEnter
turns_enter tree xs zs left q s t d e is_tree listed cut own goes all =
    let over = turns_go_on tree (net_of xs) q (entries_of q xs) s d zs t e is_tree listed
    (stands_over tree xs left q s cut own) goes all in
    let run = over.run in
    let node = run.world.at q in
    let moves = made_by q run.moves in
    let shown : journal_of moves ≡ entries_of q (xs ++ zs) =
    run.shown ∙ sym (own_many tree (net_of xs) q xs zs all) in
    record {
      left = at_one q node left;
      cut = record {
        moves = at_one q moves cut.moves;
        made = λ r. elim (same_process_tells q r) [
          | inl t ↦ rw t.0 (subst (λ p. IsNodeRun (place_of tree p) moves node) t.1
              (node_run tree run.moves run.world run.is_run q))
          | inr z ↦ rw z.0 (cut.made r)
        ];
        by_this = λ r. elim (same_process_tells q r) [
          | inl t ↦ rw t.0 (made_by_all this_version run.moves run.by_this q)
          | inr z ↦ rw z.0 (cut.by_this r)
        ];
        shown = λ r. elim (same_process_tells q r) [
          | inl t ↦ rw t.0 (shown ∙ ap (λ p. entries_of p (xs ++ zs)) t.1)
          | inr z ↦ rw z.0 (cut.shown r ∙ sym (none_many tree (net_of xs) q r xs zs all z.0))
        ];
        given = given_many tree q xs zs cut.given all;
      };
      own = record {
        moves = run.moves;
        world = run.world;
        is_run = run.is_run;
        by_this = run.by_this;
        shown = shown;
        place = run.place;
        stands = run.stands;
      };
    }
