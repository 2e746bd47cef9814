-- A call on a branch, as a step of the judge.
use Rattle.std.proofs.Common.{◌≡◌, ℕ, Bool, true, false, [], Result, refl, ap, sym, subst, ◌∙◌}
use Rattle.std.specs.Prelude.{Contains, MatchResult, if◌then◌else◌}
use Rattle.xa_codes.specs.declared.code.Code.{Code}
use Rattle.xa_words.specs.code
use Rattle.xa_codes.specs.declared.flags.Flags.{Flags}
use Rattle.xa_xid.specs.declared.xid.Xid.{Xid}
use Rattle.xa_assoc.specs.declared.states.States.{States}
use Rattle.xa_assoc.specs.Answers.{SameStates}
use Rattle.judge_state.specs.declared.parts.JudgedDecision.{JudgedDecision}
use Rattle.judge_state.specs.Sights.{Sight}
use Rattle.judge_rules.specs.declared.calls.BranchVerb.{BranchVerb}
use Rattle.judge_words.specs.reply
use Rattle.judge_rules.specs.Defects.{branch_defects}
use Rattle.judge_rules.specs.Passes.{branch_passes}
use Rattle.judge_rules.specs.Replies.{reply_of}
use Rattle.judge_rules.specs.Steps.{branch_rows}
use Rattle.proof_judged_deeds.specs.Deeds.{on}
use Rattle.proof_judged_deeds.specs.Names.{NameNumbers, lacks_forced}
use Rattle.proof_judged_deeds.proofs.Ledgers.{defect_keeps, effect, ledger}
use Rattle.proof_judged_deeds.proofs.Losing.{Remembers, unchanged}
use Rattle.proof_judged_deeds.proofs.Mirrors.{Mirrors, same_mirrors}
use Rattle.proof_judged_deeds.proofs.Rows.{IsClean, IsDefect, failing, first_in, passed, refused}

-- the judge goes on to a state that is that of the tables after the call
pub record Goes (n : NameNumbers) (v : BranchVerb) (s : Sight) (t : ℕ) (x : Xid)
    (flags : Flags) (answer : Code)
    (new : States) (d : Xid → JudgedDecision) : Type 0 where
  pub sight : Sight
  pub row : Contains (branch_rows lacks_forced v s (on n t x flags) (reply_of answer)) sight
  pub mirrors : Mirrors n new d sight
  pub lost : Remembers v n s sight x new
  pub books : ledger sight ≡ ledger (effect (reply_of answer) v (n.xid x) s)

-- a call is refused by the code of a defect
pub goes_refused : (n : NameNumbers) (v : BranchVerb) (s : Sight) (t : ℕ) (x : Xid) (flags : Flags)
    (answer c : Code)
    (old new : States) (d : Xid → JudgedDecision) → Mirrors n old d s
    → IsDefect (branch_defects lacks_forced v s (on n t x flags)) (reply_of c) → (answer ≡ c)
    × SameStates old new
    → Goes n v s t x flags answer new d
goes_refused n v s t x flags answer c old new d mirrors defect h = record {
  sight = s;
  row = refused v s (on n t x flags) (reply_of answer)
      (subst (λ (k : Code). IsDefect (branch_defects lacks_forced v s (on n t x flags)) (reply_of k))
      (sym h.0) defect);
  mirrors = same_mirrors n old new d s h.1 mirrors;
  lost = unchanged v n old new d s x mirrors h.1;
  books = sym (ap (λ (k : Code). ledger (effect (reply_of k) v (n.xid x) s)) h.0
      ∙ ap ledger (defect_keeps (branch_defects lacks_forced v s (on n t x flags)) (reply_of c) v
      (n.xid x) s defect));
}

-- a limit of the manager's own is met
pub goes_failed : (n : NameNumbers) (v : BranchVerb) (s : Sight) (t : ℕ) (x : Xid)
    (flags : Flags) (answer : Code)
    (old new : States) (d : Xid → JudgedDecision) → Mirrors n old d s → (answer ≡ code.RmErr)
    × SameStates old new
    → Goes n v s t x flags answer new d
goes_failed n v s t x flags answer old new d mirrors h = record {
  sight = s;
  row = subst (λ (k : Code). Contains (branch_rows lacks_forced v s (on n t x flags) (reply_of k)) s)
      (sym h.0)
      (failing v s (on n t x flags) reply.RmErr (first_in s []));
  mirrors = same_mirrors n old new d s h.1 mirrors;
  lost = unchanged v n old new d s x mirrors h.1;
  books = sym (ap (λ (k : Code). ledger (effect (reply_of k) v (n.xid x) s)) h.0);
}

-- a call passes
pub goes_passed : (n : NameNumbers) (v : BranchVerb) (s : Sight) (t : ℕ) (x : Xid) (flags : Flags)
    (answer c : Code)
    (new : States) (d : Xid → JudgedDecision) (u : Sight) → Remembers v n s u x new
    → ledger u ≡ ledger (effect (reply_of c) v (n.xid x) s) → answer ≡ c
    → IsClean (branch_defects lacks_forced v s (on n t x flags))
    → Contains (branch_passes lacks_forced v s (on n t x flags) (reply_of c)) u → Mirrors n new d u
    → Goes n v s t x flags answer new d
goes_passed n v s t x flags answer c new d u lost books is clean row mirrors = record {
  sight = u;
  row = passed v s (on n t x flags) (reply_of answer) u clean
      (subst (λ (k : Code). Contains (branch_passes lacks_forced v s (on n t x flags) (reply_of k)) u)
      (sym is) row);
  mirrors = mirrors;
  lost = lost;
  books = books ∙ sym (ap (λ (k : Code). ledger (effect (reply_of k) v (n.xid x) s)) is);
}

-- what a plan makes, by a test
pub at_true : {A E : Type 0} (F : A → Type 0) (G : E → Type 0) (b : Bool) (p q : Result A E) → b ≡ true
    → MatchResult (if b then p else q) F G → MatchResult p F G
at_true F G b p q e h = subst (λ (c : Bool). MatchResult (if c then p else q) F G) e h

pub at_false : {A E : Type 0} (F : A → Type 0) (G : E → Type 0) (b : Bool) (p q : Result A E) → b ≡ false
    → MatchResult (if b then p else q) F G → MatchResult q F G
at_false F G b p q e h = subst (λ (c : Bool). MatchResult (if c then p else q) F G) e h

pub by_test : (P : Type 0) (b : Bool) → (b ≡ true → P) → (b ≡ false → P) → P
by_test P true f g = f refl
by_test P false f g = g refl
