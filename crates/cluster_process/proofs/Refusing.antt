-- A process over a store in memory is refused for memory or for numbers that are used up, or by the table of
-- reactions.
use Rattle.std.proofs.Common.{◌≡◌, ℕ, Result, Ok, Err, IfErr, IfOk, OnOk, arith}
use Rattle.protocol.specs.declared.events.Input.{Input}
use Rattle.protocol.specs.declared.events.Happening.TheVariants.{Restart, Trim}
use Rattle.protocol_words.specs.Variants.{Handles}
use Rattle.protocol.specs.declared.events.Reaction.{Reaction}
use Rattle.protocol.specs.declared.events.StepError.{StepError}
use Rattle.protocol_words.specs.step_error
use Rattle.log_records.specs.Sights.{left_by}
use Rattle.process_state.specs.States.{CoreState}
use Rattle.process_state.specs.Restarting.{ProcessNotRestarted, ProcessRestarts}
use Rattle.tree_state.specs.Steps.{records_kept}
use Rattle.tree_state.specs.Worlds.{RestartsData}
use Rattle.resource_manager.specs.Data.{ManagerData}
use Rattle.proof_cuts.specs.Alone.{RestartsAlone, TrimsAlone}
use Rattle.tree_process.specs.Nodes.{KeepsDataUnlessFailed, NotHandled}
use Rattle.tree_process.specs.Restarts.{NoTrim, TrimsNode}
use Rattle.cluster_process.specs.Makes.{NotMadeIt}

one_refused : (old new : CoreState) (before behind : ManagerData) (i : Input) (e : StepError)
    → new.log.failures ≡ 0 → NotHandled old new before behind i e
    → NotMadeIt old new before behind (Handles i) e
one_refused old new before behind i step_error.Memory to h = record {
  same = h.not_made;
  rests = h.keeps (λ d. absurd (cc));
  why = record { answer = h.answer; answers = h.answers; why = h.not_made; no_device = λ d. absurd (cc) };
}
one_refused old new before behind i step_error.Device to h =
    absurd (omega (arith, to, h.not_made.breaks.2.log.cause))
one_refused old new before behind i step_error.UnknownTxn to h = record {
  same = h.not_made.same;
  rests = h.keeps (λ d. absurd (cc));
  why = record { answer = h.answer; answers = h.answers; why = h.not_made; no_device = λ d. absurd (cc) };
}
one_refused old new before behind i step_error.NotAChild to h = record {
  same = h.not_made.same;
  rests = h.keeps (λ d. absurd (cc));
  why = record { answer = h.answer; answers = h.answers; why = h.not_made; no_device = λ d. absurd (cc) };
}
one_refused old new before behind i step_error.Closed to h = record {
  same = h.not_made.same;
  rests = h.keeps (λ d. absurd (cc));
  why = record { answer = h.answer; answers = h.answers; why = h.not_made; no_device = λ d. absurd (cc) };
}
one_refused old new before behind i step_error.Failed to h = record {
  same = h.not_made.same;
  rests = h.keeps (λ d. absurd (cc));
  why = record { answer = h.answer; answers = h.answers; why = h.not_made; no_device = λ d. absurd (cc) };
}
one_refused old new before behind i step_error.NotInDoubt to h = record {
  same = h.not_made.same;
  rests = h.keeps (λ d. absurd (cc));
  why = record { answer = h.answer; answers = h.answers; why = h.not_made; no_device = λ d. absurd (cc) };
}
one_refused old new before behind i step_error.NothingToForget to h = record {
  same = h.not_made.same;
  rests = h.keeps (λ d. absurd (cc));
  why = record { answer = h.answer; answers = h.answers; why = h.not_made; no_device = λ d. absurd (cc) };
}
one_refused old new before behind i step_error.NoSuch to h = record {
  same = h.not_made.same;
  rests = h.keeps (λ d. absurd (cc));
  why = record { answer = h.answer; answers = h.answers; why = h.not_made; no_device = λ d. absurd (cc) };
}
one_refused old new before behind i step_error.Exhausted to h = record {
  same = h.not_made.same;
  rests = h.keeps (λ d. absurd (cc));
  why = record { answer = h.answer; answers = h.answers; why = h.not_made; no_device = λ d. absurd (cc) };
}

pub input_refused : (r : Result Reaction StepError) (old new : CoreState)
    (before behind : ManagerData) (i : Input)
    → new.log.failures ≡ 0 → IfErr r (NotHandled old new before behind i)
    → IfErr r (NotMadeIt old new before behind (Handles i))
input_refused (Ok x) old new before behind i to h = h
input_refused (Err e) old new before behind i to h = one_refused old new before behind i e to h

pub restarted : (r : Result Reaction StepError) (old new : CoreState) (behind : ManagerData) (keep k : ℕ)
    → k ≡ records_kept old keep → IfOk r (ProcessRestarts old keep new)
    → OnOk r (RestartsData old.place.role (left_by old.log keep) behind)
    → IfOk r (RestartsAlone old new behind keep k)
restarted (Ok x) old new behind keep k kept h holds = record { restarts = h; holdings = holds; kept = kept }
restarted (Err e) old new behind keep k kept h holds = h

pub restart_refused : (r : Result Reaction StepError) (old new : CoreState)
    (before behind : ManagerData) (keep k : ℕ)
    → new.log.failures ≡ 0 → IfErr r (ProcessNotRestarted old keep new)
    → IfErr r (KeepsDataUnlessFailed before behind)
    → IfErr r (NotMadeIt old new before behind (Restart k))
restart_refused (Ok x) old new before behind keep k to h holds = h
restart_refused (Err step_error.Memory) old new before behind keep k to h holds =
    record { same = h; rests = holds (λ d. absurd (cc)); why = tt }
restart_refused (Err step_error.Device) old new before behind keep k to h holds =
    absurd (omega (arith, to, h.0.cause))
restart_refused (Err step_error.Exhausted) old new before behind keep k to h holds =
    record { same = h.0; rests = holds (λ d. absurd (cc)); why = (keep, h.1) }
restart_refused (Err e) old new before behind keep k to h holds = absurd h

pub trimmed : (r : Result ℕ StepError) (old new : CoreState) (before behind : ManagerData)
    → IfOk r (TrimsNode old new before behind) → IfOk r (TrimsAlone old new before behind)
trimmed (Ok n) old new before behind h = record {
  works = h.works;
  sound = h.sound;
  trims = h.trims;
  holdings = h.holdings;
}
trimmed (Err e) old new before behind h = h

pub trim_refused : (r : Result ℕ StepError) (old new : CoreState) (before behind : ManagerData)
    → new.log.failures ≡ 0 → IfErr r (NoTrim old new before behind)
    → IfErr r (NotMadeIt old new before behind Trim)
trim_refused (Ok n) old new before behind to h = h
trim_refused (Err step_error.Memory) old new before behind to h = record { same = h.0; rests = h.1; why = tt }
trim_refused (Err step_error.Device) old new before behind to h = absurd (omega (arith, to, h.broken.cause))
trim_refused (Err step_error.Failed) old new before behind to h =
    record { same = h.0; rests = h.1; why = h.2 }
trim_refused (Err e) old new before behind to h = absurd h
