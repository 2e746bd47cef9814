-- A process's trim is a move of the model's process.
use Rattle.std.proofs.Common.{◌≡◌, ◌∙◌, inl, inr, ℕ, suc, true, false, Bool, Option, None, Some, List, [], ◌∷◌, ◌++◌, append-nil, map, refl, sym, ap, subst, if◌then◌else◌}
use Rattle.std.specs.Prelude.{length}
use Rattle.protocol.specs.declared.names.Case.{Case}
use Rattle.protocol.specs.declared.names.ProcessId.{ProcessId}
use Rattle.protocol.specs.declared.events.Fault.{Fault}
use Rattle.protocol.specs.declared.events.Happening.TheVariants.{Trim}
use Rattle.protocol.specs.declared.events.StepError.TheVariants.{Device, Failed}
use Rattle.protocol.specs.LogNames.{in_log}
use Rattle.protocol_words.specs.Variants.{CaseBranch}
use Rattle.protocol.specs.declared.standings.Standing.TheVariants.{Heuristic}
use Rattle.protocol.specs.Memory.{Asked, Idle, Memory, Open, Over, Phase, active_ticket, memory_of}
use Rattle.protocol.specs.Nodes.{AtLeaf, AtRoot, Below, Node, Place, Role, kept, IsCoordinator}
use Rattle.protocol.specs.Records.{boot_of, decision_of}
use Rattle.protocol.specs.Standings.{Decided, Finished, ManagerView, Mark, Promised, ToldOf, Unmarked, heard_branch, manager_view, mark_of, marked_branch}
use Rattle.protocol.specs.Restarts.{is_open, trim_effect, trim_fails, trimmed, trims}
use Rattle.protocol.specs.World.{Refuses, fault_effect, node_makes, trim_makes}
use Rattle.protocol.specs.SameViews.{SameView}
use Rattle.proof_processes.proofs.Boots.{trimmed_boot, trims_memory}
use Rattle.log_records.specs.Sights.{Kept, LogSight, records_of}
use Rattle.process_state.specs.Restarting.{ProcessNotTrimmed, ProcessTrims, trimmed_log}
use Rattle.process_state.specs.States.{CoreState, logged, parent}
use Rattle.tree_state.specs.Fits.{HasOpened, KeepsOwn, OpenFits}
use Rattle.tree_state.specs.Steps.{BreaksAs, KeepsSoundLog, StepsAs, quiet_move, trim_reaction}
use Rattle.tree_state.specs.StandsFor.{StandsFor, StandsUp, branch_at, view_at}
use Rattle.proof_runs.proofs.Decisions.{trims_decided}
use Rattle.proof_runs.proofs.Faults.{same_stands}
use Rattle.proof_runs.proofs.Managers.{same_view-trans}
use Rattle.proof_runs.proofs.Records.{map_append}
use Rattle.proof_runs.proofs.TrimmedLogs.{trimmed_is}
use Rattle.proof_runs.proofs.TrimmedViews.{trimmed_branch, trimmed_view}

-- The views.

view_stays : (role : Role) (place : Place) (n : Node) (c : Case) → place.role ≡ role → OpenFits role place n
    → view_at role place n c ≡ view_at role place (trims place n) c
view_stays AtRoot place n c is fits =
    sym (trimmed_view c place n (fits c) (subst IsCoordinator (sym is) tt))
view_stays (Below p) place n c is fits =
    sym (trimmed_view c place n (fits c) (subst IsCoordinator (sym is) tt))
view_stays (AtLeaf p) place n c is fits = refl

branch_stays : (role : Role) (place : Place) (n : Node) (c : Case) → place.role ≡ role → OpenFits role place n
    → branch_at role place n c ≡ branch_at role place (trims place n) c
branch_stays AtRoot place n c is fits = refl
branch_stays (Below p) place n c is fits = refl
branch_stays (AtLeaf p) place n c is fits = sym (trimmed_branch place p is n c (fits c))

-- a decided branch is open
decided_open : (m : Memory) (k : Mark) → (marked_branch m k).standing ≡ Heuristic → is_open k ≡ true
decided_open m Decided is = refl
decided_open m (ToldOf o) is = refl
decided_open m Promised is = absurd (cc)
decided_open m Finished is = absurd (cc)
decided_open m Unmarked is = by_phase m.phase is
  where
    by_phase : (ph : Phase) → (heard_branch m ph).standing ≡ Heuristic → false ≡ true
    by_phase Idle is = absurd (cc)
    by_phase Open is = absurd (cc)
    by_phase Asked is = absurd (cc)
    by_phase Over is = absurd (cc)

-- a trim leaves what was decided of a decided branch
decision_stays : (role : Role) (place : Place) (n : Node) (c : Case) → place.role ≡ role
    → (branch_at role place n c).standing ≡ Heuristic
    → decision_of (kept n) c ≡ decision_of (kept (trims place n)) c
unfolding manager_view
decision_stays AtRoot place n c role is = absurd (cc)
decision_stays (Below p) place n c role is = absurd (cc)
decision_stays (AtLeaf p) place n c role is =
    sym (trims_decided p (kept n) c (decided_open (memory_of place n c) (mark_of (CaseBranch c) (kept n)) is))
    ∙ ap (λ k. decision_of (trimmed k (kept n)) c) (sym role)
    ∙ ap (λ rs. decision_of rs c) (sym (append-nil (trimmed place.role (kept n))))

length_map : {X Y : Type 0} (f : X → Y) (xs : List X) → length (map f xs) ≡ length xs
length_map f [] = refl
length_map f (x ∷ xs) = ap suc (length_map f xs)

-- a move of a process that is up, and of one that is not
pub trim_done : (place : Place) (n : Node) (fault : Option Fault) (b : Bool) → n.failed ≡ b
    → node_makes place n (quiet_move place.me Trim fault)
    ≡ (if b then Refuses Failed else trim_makes place n fault)
unfolding node_makes
trim_done place n fault b is = ap (λ k. if k then Refuses Failed else trim_makes place n fault) is

module _ (n : Node) (old new : CoreState) (stands : StandsFor n old) where
  abbrev place : Place
  place = old.place

  abbrev q : Option ProcessId
  q = parent old

  pub trim_refused : ProcessNotTrimmed old new Failed
      → (node_makes place n (quiet_move place.me Trim None) ≡ Refuses Failed) × StandsFor n new
  trim_refused refused =
      (trim_done place n None true (sym stands.failed ∙ refused.1), same_stands n old new refused.0 stands)

  module _ (runs : n.failed ≡ false) (own : KeepsOwn place n) (opened : HasOpened n)
      (sound : KeepsSoundLog old) where
    log_is : records_of old.log.kept ≡ map (in_log q) (kept n)
    log_is = (λ j. stands.forced j ++ stands.unforced j) ∙ sym (map_append (in_log q) n.forced n.unforced)

    left_is : trimmed_log old ≡ logged old (trimmed place.role (kept n))
    left_is = trimmed_is place (kept n) (records_of old.log.kept) log_is own opened sound

    module _ (fits : OpenFits place.role place n) (remain : ℕ) (made : ProcessTrims old new remain) where
      up_trimmed : StandsUp n old → StandsUp (trims place n) (record new { place = place })
      up_trimmed up =
          record {
            boot = made.rest.boot ∙ up.boot ∙ sym (trimmed_boot place.role (kept n))
                ∙ ap boot_of (sym (append-nil (trimmed place.role (kept n))));
            begun = λ c. made.rest.begun ∙ up.begun c
                ∙ ap (λ (m : Memory). m.begun) (sym (trims_memory place n c));
            given = λ c. made.rest.given ∙ up.given c
                ∙ ap (λ (m : Memory). m.given) (sym (trims_memory place n c));
            tickets = λ d. made.rest.tickets d ∙ up.tickets d
                ∙ ap (λ (m : Memory). active_ticket m.active d) (sym (trims_memory place n d));
            views = λ c. subst (λ v. SameView (new.view_of c) v) (view_stays place.role place n c refl fits)
                (same_view-trans (new.view_of c) (old.view_of c) (view_at place.role place n c)
                (made.rest.views c) (up.views c));
            branches = λ c. made.rest.branches c ∙ up.branches c
                ∙ branch_stays place.role place n c refl fits;
            decided = λ c is. made.rest.decided c
                ∙ up.decided c (ap (λ (v : ManagerView). v.standing) (sym (made.rest.branches c)) ∙ is)
                ∙ decision_stays place.role place n c refl
                (ap (λ (v : ManagerView). v.standing) (sym (made.rest.branches c ∙ up.branches c)) ∙ is);
          }

      stands_trimmed : StandsFor (trims place n) (record new { place = place })
      stands_trimmed =
          record {
            forced = ap (λ (l : LogSight). l.kept.forced) made.log ∙ left_is;
            unforced = ap (λ (l : LogSight). l.kept.unforced) made.log;
            failed = ap (λ (l : LogSight). l.failed) made.log ∙ sym runs;
            up = λ still. up_trimmed (stands.up runs);
          }

      count_is : remain ≡ length (trimmed place.role (kept n))
      count_is = made.counts ∙ ap length left_is ∙ length_map (in_log q) (trimmed place.role (kept n))

      pub trims_so : StepsAs n old new (quiet_move place.me Trim None) (trim_reaction remain)
      trims_so =
          record {
            effect = trim_effect place n;
            left = trims place n;
            makes = trim_done place n None false runs;
            shown = ap trim_reaction count_is;
            stands = subst (λ p. StandsFor (trims place n) (record new { place = p })) (sym made.rest.place)
                stands_trimmed;
          }

    -- The device fails: the old log stands, or the trimmed one, forced.

    broken : (appended : ℕ) → new.log.failed ≡ true → new.place ≡ place
        → new.log.kept.forced ≡ logged old (trim_fails place n appended).forced
        → new.log.kept.unforced ≡ logged old (trim_fails place n appended).unforced
        → (trim_fails place n appended).failed ≡ true → BreaksAs n old new Trim
    broken appended failed same forced unforced fails =
        record {
          fault = record { appended = appended; forced = 0 };
          effect = fault_effect (trim_effect place n) 0;
          left = trim_fails place n appended;
          makes = trim_done place n (Some (record { appended = appended; forced = 0 })) false runs;
          stands = subst (λ p. StandsFor (trim_fails place n appended) (record new { place = p })) (sym same)
              (record {
                forced = forced;
                unforced = unforced;
                failed = failed ∙ sym fails;
                up = λ up. absurd (let clash : true ≡ false = sym fails ∙ up in cc);
              });
        }

    pub trim_faults_so : ProcessNotTrimmed old new Device → BreaksAs n old new Trim
    trim_faults_so breaks = elim breaks.either [
      | inl before ↦ broken 0 breaks.failed breaks.place (ap (λ (k : Kept). k.forced) before ∙ stands.forced)
          (ap (λ (k : Kept). k.unforced) before ∙ stands.unforced) refl
      | inr after ↦ broken 1 breaks.failed breaks.place (ap (λ (k : Kept). k.forced) after ∙ left_is)
          (ap (λ (k : Kept). k.unforced) after) refl
    ]
