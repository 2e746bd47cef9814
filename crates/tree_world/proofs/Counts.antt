-- The count of a log that is known, as its process moves.
use Rattle.std.proofs.Common.{◌≡◌, ◌≢◌, ◌∙◌, sym, ap, subst, refl, ℕ, List, Option, Some, None, Result, Ok, Err, IfErr, IfOk, OnErr, ◌+◌, [], ◌∷◌}
use Rattle.std.specs.Prelude.{All, IfSome, length}
use Rattle.std.specs.List.{AllByRecursion}
use Rattle.std.proofs.lemmas.List.Elements.{All-from_recursion}
use Rattle.protocol.specs.declared.names.Kind.{Kind}
use Rattle.protocol.specs.declared.records.LogRecord.{LogRecord}
use Rattle.protocol.specs.declared.events.Input.{Input}
use Rattle.protocol.specs.declared.events.Reaction.{Reaction}
use Rattle.protocol.specs.declared.events.StepError.{StepError}
use Rattle.protocol.specs.declared.events.StepError.TheVariants.{Memory, Device, UnknownTxn, NotAChild, Closed, Failed, NotInDoubt, NothingToForget, NoSuch, Exhausted}
use Rattle.log_text.specs.Payloads.{FitsFrame}
use Rattle.log_rules.specs.sound.Sound.{IsSound}
use Rattle.log_rules.proofs.sound.Sizes.{sound_fits}
use Rattle.process_state.specs.States.{CoreState, SameCore}
use Rattle.tree_state.specs.Worlds.{HandlesInput}
use Rattle.resource_manager.specs.Data.{ManagerData}
use Rattle.tree_faults.specs.declared.count.Count.{Count}
use Rattle.tree_faults.specs.Counts.{after_written, all_forced, count_in}
use Rattle.tree_faults.proofs.Counting.{count_of, made_count, restarted_count, trimmed_count}
use Rattle.tree_process.specs.Nodes.{NotHandled}
use Rattle.tree_process.specs.Restarts.{NoRestart, NoTrim, RestartsNode, TrimsNode}

module _ (s t : CoreState) (d e : ManagerData) (c : Count) (is : c ≡ count_in s) where
  -- the process is the same
  same_count : SameCore s t → c ≡ count_in t
  same_count same = is ∙ sym (ap count_of same.log)

  not_made_count : (i : Input) (x : StepError) → x ≢ Device → NotHandled s t d e i x → c ≡ count_in t
  not_made_count i Memory works h = same_count h.not_made
  not_made_count i Device works h = absurd (works refl)
  not_made_count i UnknownTxn works h = same_count h.not_made.same
  not_made_count i NotAChild works h = same_count h.not_made.same
  not_made_count i Closed works h = same_count h.not_made.same
  not_made_count i Failed works h = same_count h.not_made.same
  not_made_count i NotInDoubt works h = same_count h.not_made.same
  not_made_count i NothingToForget works h = same_count h.not_made.same
  not_made_count i NoSuch works h = same_count h.not_made.same
  not_made_count i Exhausted works h = same_count h.not_made.same

  -- after an input
  pub handled_count : (i : Input) (made : Result Reaction StepError) (known : Option Count)
      → IfOk made (HandlesInput s t d e i) → IfErr made (NotHandled s t d e i)
      → IfOk made (λ r. IfSome known (λ k. k ≡ after_written c r.written))
      → IfErr made (λ x. IfSome known (λ k. (k ≡ c) × (x ≢ Device)))
      → IfSome known (λ k. k ≡ count_in t)
  handled_count i made None ok err counts stays = tt
  handled_count i (Ok r) (Some k) ok err counts stays =
      counts ∙ ap (λ (n : Count). after_written n r.written) is
      ∙ sym (made_count s t ok.answer i r ok.makes)
  handled_count i (Err x) (Some k) ok err counts stays = stays.0 ∙ not_made_count i x stays.1 err

  -- after a restart
  pub restarted_so : (bytes : Option ℕ) (made : Result (ℕ × Reaction) StepError) (known : Option Count)
      → IfOk made (RestartsNode s t e bytes)
      → IfOk made (λ r. IfSome known (λ k. k ≡ all_forced ((c.forced + r.0) + length r.1.written)))
      → OnErr made (known ≡ None)
      → IfSome known (λ k. k ≡ count_in t)
  restarted_so bytes made None ok counts none = tt
  restarted_so bytes (Err x) (Some k) ok counts none = absurd (let wrong : Some k ≡ None = none in cc)
  restarted_so bytes (Ok r) (Some k) ok counts none =
      counts
      ∙ (λ j. all_forced (((is j).forced + ok.count j) + length r.1.written))
      ∙ sym (restarted_count s t ok.keep r.1 ok.restarts)

-- after a trim
pub trimmed_so : (s t : CoreState) (d e : ManagerData) (made : Result ℕ StepError) (known : Option Count)
    → IfOk made (TrimsNode s t d e) → IfOk made (λ n. known ≡ Some (all_forced n)) → OnErr made (known ≡ None)
    → IfSome known (λ k. k ≡ count_in t)
trimmed_so s t d e made None ok counts none = tt
trimmed_so s t d e (Err x) (Some k) ok counts none = absurd (let wrong : Some k ≡ None = none in cc)
trimmed_so s t d e (Ok n) (Some k) ok counts none =
    subst (λ (o : Option Count). IfSome o (λ x. x ≡ count_in t)) (sym counts)
    (sym (trimmed_count s t n ok.trims))

-- each record that can be in a log fits a frame
pub sound_fit : (k : Kind) (ls : List LogRecord) → AllByRecursion (IsSound k) ls → All FitsFrame ls
sound_fit k ls sound = All-from_recursion FitsFrame ls (fits ls sound)
  where
    fits : (ls : List LogRecord) → AllByRecursion (IsSound k) ls → AllByRecursion FitsFrame ls
    fits [] sound = tt
    fits (l ∷ ls) sound = (sound_fits k l sound.0, fits ls sound.1)
