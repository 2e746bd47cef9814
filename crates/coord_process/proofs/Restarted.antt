-- A coordinator that restarted, or was trimmed, or was not.
use Rattle.std.proofs.Common.{◌≡◌, ◌++◌, [], ℕ, true, false, Option, None, Some, List, map, length, refl, subst, sym, take, ap, ◌∙◌, ◌⊎◌}
use Rattle.std.specs.List.{AllByRecursion}
use Rattle.protocol.specs.declared.names.Case.{Case}
use Rattle.protocol.specs.declared.names.Kind.TheVariants.{Coordinator}
use Rattle.protocol.specs.declared.names.ProcessId.{ProcessId}
use Rattle.protocol.specs.declared.records.LogRecord.{LogRecord}
use Rattle.protocol.specs.declared.records.Record.{Record}
use Rattle.protocol.specs.Restarts.{data_records}
use Rattle.protocol.specs.Standings.{CoordinatorView, unknown_branch}
use Rattle.protocol.specs.SameViews.{SameView}
use Rattle.log_text.specs.Made.{frame_record}
use Rattle.log_rules.specs.sound.Sound.{IsSound}
use Rattle.log_rules.specs.trim.Trims.{front_of_trim}
use Rattle.log_records.specs.Sights.{LogSight, LogState, LogNotRestarted, NotRewritten, LogRestarts, Rewritten, left_by, records_of}
use Rattle.log_records.proofs.Trims.{settled_trimmed, settled_untrimmed}
use Rattle.log_records.specs.Trimming.{StaysTrimmed, LogTrimmed, data_by, own_data, trim_of}
use Rattle.log_records.specs.declared.log.LogError.{LogError}
use Rattle.log_records.specs.declared.log.LogError.TheVariants as log_error
use Rattle.log_text.specs.Forms.{log_form}
use Rattle.process_state.specs.States.{SameButLog, SameCore, kind_of_role, logged}
use Rattle.process_state.specs.Restarting.{ProcessNotRestarted, ProcessNotTrimmed, ProcessRestarts, ProcessTrims, read_of, recorded_branch_at, recorded_view_at, restarted_log, trimmed_log}
use Rattle.process_state.proofs.Alike.{same_view}
use Rattle.coord_cases.specs.Cases.{is_for}
use Rattle.coord_records.specs.Readings.{role_below}
use Rattle.coord_cases.specs.Restores.{CasesNotRebuilt, RebuildsCases, appended_to}
use Rattle.coord_cases.specs.declared.rebuilding.RebuiltCases.{RebuiltCases}
use Rattle.coord_process.proofs.Made.{never_decided}
use Rattle.protocol.specs.declared.events.StepError.{StepError}
use Rattle.protocol_words.specs.step_error
use Rattle.coord_process.specs.Reopened.{CoordinatorNotReopened, error_of_restart}
use Rattle.coord_process.specs.States.{CoordinatorValue, IsCoordinator, error_of, own_ticket, place_of, state}

-- but for its log nothing is otherwise
pub same_but_log : (v : CoordinatorValue) (log : LogState)
    → SameButLog (state v) (state (record v { log = log }))
same_but_log v log =
    record {
      place = refl;
      boot = refl;
      begun = refl;
      given = refl;
      tickets = λ d. refl;
      views = λ c. same_view _;
      branches = λ c. refl;
      decided = λ c. refl;
      spent = refl;
    }

-- a log that is seen as it was
pub same_log : (v : CoordinatorValue) (log : LogState) → log.sight ≡ v.log.sight
    → SameCore (state v) (state (record v { log = log }))
same_log v log same = record { log = same; rest = same_but_log v log }

pub same_itself : (v : CoordinatorValue) → SameCore (state v) (state v)
same_itself v = same_log v v.log refl

-- A restart.

-- the coordinator after its restart
abbrev pub rebuilt_as : CoordinatorValue → LogState → RebuiltCases → CoordinatorValue
rebuilt_as v log r = record v { log = log; boot = r.boot; begun = 0; given = 0; slots = r.cases }

no_branches : (parent : Option ProcessId) (rs : List Record) (c : Case)
    → unknown_branch ≡ recorded_branch_at (role_below parent) rs c
no_branches None rs c = refl
no_branches (Some p) rs c = refl

-- a coordinator's log is a coordinator's
pub coordinator_kind : (p : Option ProcessId) → kind_of_role (role_below p) ≡ Coordinator
coordinator_kind None = refl
coordinator_kind (Some p) = refl

module _ (v : CoordinatorValue) (keep : ℕ) (ls : List LogRecord) (r : RebuiltCases) (log : LogState)
    (left : ls ≡ left_by v.log.sight keep) (rebuilds : RebuildsCases (place_of v) ls r)
    (own : v.log.sight.form ≡ log_form v.me Coordinator) where
  of_left : RebuildsCases (place_of v) (left_by v.log.sight keep) r
  of_left = subst (λ ks. RebuildsCases (place_of v) ks r) left rebuilds

  pub restarts : LogRestarts v.log log keep (map frame_record r.frames.items)
      → ProcessRestarts (state v) keep (state (rebuilt_as v log r)) r.reaction
  restarts restarted =
      record {
        place = refl;
        log = λ i. record {
          form = (restarted.form ∙ own ∙ ap (log_form v.me) (sym (coordinator_kind v.parent))) i;
          kept = record {
            forced = (restarted.forced ∙ ap (λ ks. left_by v.log.sight keep ++ ks) of_left.frames) i;
            unforced = restarted.unforced i;
          };
          behind = restarted.behind i;
          failed = restarted.works i;
          failures = restarted.failures i;
        };
        read = record {
          boot = of_left.boot;
          begun = refl;
          given = refl;
          tickets = of_left.tickets;
          views = λ c. subst (λ (w : CoordinatorView). SameView w
              (recorded_view_at (role_below v.parent) (read_of (state v) (restarted_log (state v) keep)) c))
              (sym (of_left.views c)) (same_view _);
          branches = λ c. no_branches v.parent (read_of (state v) (restarted_log (state v) keep)) c;
          decided = λ c is. never_decided is;
        };
        shown = of_left.shown;
      }

  pub not_restarted : (e : LogError) → LogNotRestarted v.log log keep (map frame_record r.frames.items) e
      → ProcessNotRestarted (state v) keep (state (record v { log = log })) (error_of e)
  not_restarted log_error.Memory same = same_log v log same
  not_restarted log_error.Device breaks = (
    record {
      form = breaks.form;
      appended = breaks.appended;
      stand = subst (λ ks. records_of log.sight.kept ≡ left_by v.log.sight keep ++ take breaks.appended ks)
          of_left.frames breaks.stand;
      no_less = breaks.no_less;
      failed = breaks.failed;
      cause = breaks.cause;
    },
    refl,
  )

-- nothing was rebuilt: so it did not restart
pub not_rebuilt : (v : CoordinatorValue) (keep : ℕ) (ls : List LogRecord) (e : StepError)
    → ls ≡ left_by v.log.sight keep → CasesNotRebuilt (place_of v) ls e
    → ProcessNotRestarted (state v) keep (state v) e
not_rebuilt v keep ls step_error.Memory left h = same_itself v
not_rebuilt v keep ls step_error.Exhausted left h = (
  same_itself v,
  λ held. h (subst (λ ks. AllByRecursion (IsSound Coordinator) (appended_to (place_of v) ks)) (sym left)
      (subst (λ k. AllByRecursion (IsSound k) (appended_to (place_of v) (left_by v.log.sight keep)))
      (coordinator_kind v.parent) held)),
)
not_rebuilt v keep ls e left h = absurd h

-- among the cases that were rebuilt no ticket is active, and something is known of each
pub is_coordinator : (v : CoordinatorValue) (ls : List LogRecord) (r : RebuiltCases) (log : LogState)
    → RebuildsCases (place_of v) ls r → log.sight.form ≡ log_form v.me Coordinator
    → IsCoordinator (rebuilt_as v log r)
is_coordinator v ls r log rebuilds form =
    record {
      form = form;
      active = λ k d p at is.
          let no : false ≡ true = sym (ap (is_for d) (rebuilds.entries k p at).0) ∙ is in
          absurd (cc);
      known = λ k p at. (rebuilds.entries k p at).1;
      given = λ d n is.
          let clash : None ≡ Some (own_ticket (rebuilt_as v log r) n) = sym (rebuilds.tickets d) ∙ is in
          absurd (cc);
    }

-- over a log that an earlier one left
pub not_reopened : (v w : CoordinatorValue) (keep : ℕ) (e : StepError) (left : LogState)
    → left_by v.log.sight keep ≡ records_of v.log.sight.kept → left ≡ w.log
    → ProcessNotRestarted (state v) keep (state w) e
    → CoordinatorNotReopened (place_of v) v.log.sight left.sight (error_of_restart e)
not_reopened v w keep step_error.Memory left all is same = ap (λ (l : LogState). l.sight) is ∙ same.log
not_reopened v w keep step_error.Device left all is broke =
    record {
      before = state v;
      place_is = refl;
      log_is = refl;
      keep = keep;
      left = all;
      behind = state w;
      log_left = ap (λ (l : LogState). l.sight) (sym is);
      broke = broke;
    }
not_reopened v w keep step_error.Exhausted left all is refused = (
  ap (λ (l : LogState). l.sight) is ∙ refused.0.log,
  record { before = state v; place_is = refl; log_is = refl; keep = keep; left = all; beyond = refused.1 },
)
not_reopened v w keep e left all is refused = absurd refused

-- A trim.

no_data_records : (parent : Option ProcessId) (rs : List Record) → data_records (role_below parent) rs ≡ []
no_data_records None rs = refl
no_data_records (Some p) rs = refl

-- what stays in a trim of a coordinator's log
trimmed_as : (v : CoordinatorValue) → trim_of v.log [] ≡ trimmed_log (state v)
trimmed_as v =
    ap (λ rs. front_of_trim (records_of v.log.sight.kept) ++ logged (state v) rs)
    (sym (no_data_records v.parent (read_of (state v) (records_of v.log.sight.kept))))

pub trims : (v : CoordinatorValue) (log : LogState) (count : ℕ) → v.log.sight.form ≡ log_form v.me Coordinator
    → LogTrimmed v.log log [] count
    → ProcessTrims (state v) (state (record v { log = log })) count
trims v log count own trimmed =
    record {
      log = λ i. record {
        form = (trimmed.log.form ∙ own ∙ ap (log_form v.me) (sym (coordinator_kind v.parent))) i;
        kept = record { forced = (trimmed.log.forced ∙ trimmed_as v) i; unforced = trimmed.log.unforced i };
        behind = trimmed.log.behind i;
        failed = trimmed.log.works i;
        failures = trimmed.log.failures i;
      };
      counts = trimmed.counted ∙ ap length (trimmed_as v);
      rest = same_but_log v log;
    }

pub not_trimmed : (v : CoordinatorValue) (log : LogState) (e : LogError)
    → NotRewritten v.log log (trim_of v.log []) e
    → ProcessNotTrimmed (state v) (state (record v { log = log })) (error_of e)
not_trimmed v log log_error.Memory same = same_log v log same
not_trimmed v log log_error.Device breaks =
    record {
      either = subst (λ ls. (log.sight.kept ≡ v.log.sight.kept) ⊎
          (log.sight.kept ≡ record { forced = ls; unforced = [] })) (trimmed_as v) breaks.either;
      failed = breaks.failed;
      cause = breaks.cause;
      place = refl;
    }

-- A trim that leaves the log as it is.

-- the log of a coordinator has no data
pub no_own_data : (s : LogSight) → s.form.kind ≡ Coordinator → own_data s ≡ []
no_own_data s kind = ap (λ k. data_by k (records_of s.kept)) kind

pub trimmed_again : (old new : LogState) (count : ℕ) → old.sight.form.kind ≡ Coordinator
    → StaysTrimmed old count
    → Rewritten old new (records_of old.sight.kept) → LogTrimmed old new [] count
trimmed_again old new count kind s r =
    subst (λ rs. LogTrimmed old new rs count) (no_own_data old.sight kind) (settled_trimmed old new count s r)

pub untrimmed_again : (old new : LogState) (count : ℕ) (e : LogError) → old.sight.form.kind ≡ Coordinator
    → StaysTrimmed old count → NotRewritten old new (records_of old.sight.kept) e
    → NotRewritten old new (trim_of old []) e
untrimmed_again old new count e kind s r =
    subst (λ rs. NotRewritten old new (trim_of old rs) e) (no_own_data old.sight kind)
    (settled_untrimmed old new count e s r)
