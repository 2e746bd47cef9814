-- A coordinator that opened an empty log.
use Rattle.std.proofs.Common.{◌≡◌, ◌++◌, ◌∷◌, [], false, Option, None, List, refl, sym, subst, ap, ◌∙◌, arith}
use Rattle.protocol.specs.declared.names.Kind.TheVariants.{Coordinator}
use Rattle.protocol.specs.declared.names.Case.{Case}
use Rattle.protocol.specs.declared.names.ProcessId.{ProcessId}
use Rattle.protocol.specs.declared.trees.TreeProcess.{TreeProcess}
use Rattle.protocol.specs.declared.records.Record.TheVariants.{Opened}
use Rattle.protocol.specs.declared.events.StepError.{StepError}
use Rattle.protocol_words.specs.step_error
use Rattle.protocol.specs.Nodes.{Place}
use Rattle.protocol.specs.Standings.{CoordinatorView, unknown_view}
use Rattle.protocol.specs.SameViews.{SameView}
use Rattle.case_table.specs.Tables.{live_value}
use Rattle.log_records.specs.Sights.{LogState, records_of}
use Rattle.log_text.specs.Forms.{log_form}
use Rattle.log_writing.specs.Writes.{NotFramed}
use Rattle.process_state.specs.Restarting.{recorded_view_at}
use Rattle.process_state.proofs.Opened.{opened_is_read}
use Rattle.coord_cases.specs.Cases.{Slots, ticket_in, view_in}
use Rattle.process_state.specs.Opening.{IsOpenedProcess, first_opened}
use Rattle.coord_process.proofs.Restarted.{coordinator_kind}
use Rattle.coord_process.specs.States.{CoordinatorNotOpened, WritesOpened, role_below, state}

pub none_given : (d : Case) → ticket_in [] d ≡ None
unfolding ticket_in
none_given d = refl

none_live : (c : Case) → view_in [] c ≡ unknown_view
unfolding live_value
none_live c = refl

pub opened : (me : ProcessId) (parent : Option ProcessId) (tree : List TreeProcess) (old new : LogState)
    (slots : Slots) → old.sight.form ≡ log_form me Coordinator → records_of old.sight.kept ≡ []
    → old.sight.failed ≡ false
    → WritesOpened old new → slots ≡ []
    → IsOpenedProcess (state (record {
      me = me;
      parent = parent;
      tree = tree;
      log = new;
      boot = 1;
      begun = 0;
      given = 0;
      slots = slots;
    }))
    (record { me = me; role = role_below parent; tree = tree }) old.sight.failures
opened me parent tree old new slots form empty works writes bare =
    let place : Place = record { me = me; role = role_below parent; tree = tree } in
    let read = opened_is_read place in
    record {
      place_is = refl;
      log = writes.sight ∙ (λ i. record {
        form = (form ∙ ap (log_form me) (sym (coordinator_kind parent))) i;
        kept = record {
          forced = empty i ++ first_opened
              ∷ [];
          unforced = [];
        };
        behind = 0;
        failed = works i;
        failures = old.sight.failures;
      });
      read = record {
        boot = read.boot;
        begun = refl;
        given = refl;
        tickets = λ d. ap (λ s. ticket_in s d) bare ∙ none_given d;
        views = λ c. subst (λ (v : CoordinatorView). SameView v (recorded_view_at (role_below parent)
            (Opened 1 ∷ []) c)) (sym (ap (λ s. view_in s c) bare ∙ none_live c)) (read.views c);
        branches = read.branches;
        decided = read.decided;
      };
    }

-- the first record has a frame
pub first_unframed : (old new : LogState) (e : StepError) → new.sight ≡ old.sight
    → NotFramed None (Opened 1 ∷ []) e → CoordinatorNotOpened old new e
first_unframed old new step_error.Memory same h = same
first_unframed old new step_error.Exhausted same h = absurd (h ((refl, omega arith), tt))
first_unframed old new e same h = absurd h
