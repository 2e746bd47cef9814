-- A call on a branch is a legal step.
use Rattle.std.proofs.Common.{◌≡◌, ◌≢◌, ℕ, Bool, true, false, ◌∷◌, Option, None, Result, Ok, Err, inl, inr, refl, ap, sym, subst, ◌∙◌, arith, rules}
use Rattle.std.specs.Prelude.{◌⊎◌, ◌&&◌, nat_eq, Contains, IsOkAnd, MatchResult}
use Rattle.std.proofs.lemmas.Bool.{eqb-true}
use Rattle.std.proofs.lemmas.Bool.Decides.{nat_tests}
use Rattle.xa_codes.specs.declared.code.Code.{Code}
use Rattle.xa_words.specs.code
use Rattle.xa_tables.specs.Calls.{legal}
use Rattle.xa_tables.specs.Tables.{branch_rows}
use Rattle.xa_tables.specs.declared.call.Call.{Call}
use Rattle.xa_tables.specs.declared.call.Verb.{Verb}
use Rattle.xa_tables.specs.declared.states.InitState.{InitState}
use Rattle.xa_tables.specs.declared.states.InitState.TheVariants.{R0, R1}
use Rattle.xa_tables.specs.declared.states.BranchState.{BranchState}
use Rattle.xa_xid.specs.declared.xid.Xid.{Xid}
use Rattle.xa_xid.specs.Xids.{null_xid}
use Rattle.xa_assoc.specs.Names.{same, same_seat}
use Rattle.xa_assoc.specs.Associations.{AssocList, moved_of, own_state}
use Rattle.xa_branch.proofs.Names.{same_is, same_refl}
use Rattle.xa_assoc.specs.declared.states.States.{States}
use Rattle.xa_assoc.specs.Answers.{Checked, SameStates, Wanted, state_at}
use Rattle.proof_xa.specs.Moves.{FitsRows, Branch}
use Rattle.proof_xa.specs.Refusals.{Made, behind_flags, branch_checks, first_of, first_refusal, is_refusal, state_checks}
use Rattle.proof_xa.specs.Histories.{HasBranchRow, HasOwnRow, HasMigrationRow, MigrationRow, OwnRow, is_work_call, is_work_on}
use Rattle.xa_assoc.specs.Ready.{is_closed}
use Rattle.proof_xa.proofs.Reached.{AreThreadsListed, IsReached, moved_kept, moved_states, names_apart, seats_apart}
use Rattle.proof_xa.proofs.Refused.{Steps, legal_refuses, moves_on, refused_step}
use Rattle.proof_xa.proofs.Outcomes.{Finished, Outcome, Works, comes}

-- A call that works on an association.

all_by : (w s n : Bool) → ((w && s) && n) ≡ true → (s ≡ true) × (n ≡ true)
all_by true true true h = (refl, refl)
all_by true true false h = absurd cc
all_by true false n h = absurd cc
all_by false s n h = absurd cc

apart_by : (w s n : Bool) → w ≡ true → ((w && s) && n) ≡ false → (s ≡ false) ⊎ (n ≡ false)
apart_by true true n e h = inr h
apart_by true false n e h = inl refl
apart_by false s n e h = absurd cc

not_one : (u t : ℕ) → nat_eq u t ≡ false → u ≢ t
not_one u t e is = absurd (let f : nat_eq u t
    ≡ true = grind (arith, nat_tests) in let g : true ≡ false = sym f ∙ e in cc)

is_one : (u t : ℕ) → nat_eq u t ≡ true → u ≡ t
is_one u t e = eqb-true u t e

flipped : (x y : Xid) → same x y ≡ false → same y x ≡ false
flipped x y h = flips (same y x) refl where
  flips : (r : Bool) → same y x ≡ r → r ≡ false
  flips false e = refl
  flips true e = absurd (let w : same x x ≡ false = subst (λ z. same x z ≡ false) (same_is y x e) h
      in let r : same x x ≡ true = search rules in cc)

pair_apart : (u t : ℕ) (y x : Xid) → (same x y ≡ false) ⊎ (nat_eq u t ≡ false)
    → same_seat (record { thread = u; xid = y }) (record { thread = t; xid = x }) ≡ false
pair_apart u t y x (inl names) = names_apart u t y x (flipped x y names)
pair_apart u t y x (inr threads) = seats_apart u t y x (not_one u t threads)

works_step : (old new : States) (v : Verb) (t : ℕ) (x : Xid) (flags : ℕ) (c : Call) (answer : Code)
    → IsReached old → old.init ≡ R1
    → legal v flags ≡ Ok c → first_refusal old (Branch v t x flags answer) ≡ None → Works old new t x c answer
    → Steps old (Branch v t x flags answer) new
works_step old new v t x flags c answer ok opened is first w =
    let call_works : is_work_call (legal v flags) ≡ true = ap is_work_call is ∙ w.work in (
      record {
        answers = Made first w.answers;
        manager = w.init;
        branch = λ y. moves_on (same x y) (is_refusal answer) _ _ w.answers
            (λ e. subst (λ (z : Xid). HasBranchRow (state_at old z) v flags answer
            (state_at new z)) (same_is x y e)
            (subst (λ (q : Result Call Code). IsOkAnd q
            (λ d. Contains (branch_rows (state_at old x) d) (answer, state_at new x))) (sym is)
            (subst (λ (s : BranchState). Contains (branch_rows (state_at old x) c) (answer, s))
            (sym w.branch.own) w.listed)))
            (λ e. w.branch.others y e);
        association = λ u y. moves_on (is_work_on y v flags x && nat_eq u t) (is_refusal answer) _ _ w.answers
            (λ e. let both = all_by (is_work_call (legal v flags)) (same x y) (nat_eq u t) e in
            subst (λ (z : Xid). HasOwnRow (own_state old.associations u z) v flags answer
            (own_state new.associations u z)) (same_is x y both.0)
            (subst (λ (m : ℕ). HasOwnRow (own_state old.associations m x) v flags answer
            (own_state new.associations m x)) (sym (is_one u t both.1))
            (subst (λ (q : Result Call Code). IsOkAnd q (λ d. OwnRow (own_state old.associations t x) d answer
            (own_state new.associations t x))) (sym is)
            (record {
              from = w.from;
              to = w.to;
              listed = w.row;
              leaves = w.leaves;
              leads = sym
                  w.association.turns.own;
            }))))
            (λ e. w.association.turns.others u y (pair_apart u t y x
            (apart_by (is_work_call (legal v flags)) (same x y) (nat_eq u t) call_works e)));
        migration = λ y. moves_on (is_work_on y v flags x) (is_refusal answer) _ _ w.answers
            (λ e. let named : same x y ≡ true = rw call_works at e in
            subst (λ (z : Xid). HasMigrationRow (moved_of old.associations z) v flags answer
            (moved_of new.associations z)) (same_is x y named)
            (subst (λ (q : Result Call Code). IsOkAnd q (λ d. MigrationRow (moved_of old.associations x) d
            answer (moved_of new.associations x))) (sym is)
            (record { from = w.from; to = w.to; listed = w.row; counted = w.association.turns.moved })))
            (λ e. let apart : same x y ≡ false = rw call_works at e
            in w.association.turns.moved_others y apart);
      },
      record {
        closed = λ e. absurd (let f : R1 ≡ R0 = sym opened ∙ sym w.init ∙ e in cc);
        kept = moved_kept old.associations new.associations t x w.from w.to w.association ok.kept;
        states = moved_states old new x w.state w.branch ok.states;
      },
    )

none_by : (w s n : Bool) → w ≡ false → ((w && s) && n) ≡ true → ⊥
none_by false s n e h = absurd cc
none_by true s n e h = absurd cc

finish_step : (old new : States) (v : Verb) (t : ℕ) (x : Xid) (flags : ℕ) (c : Call) (answer : Code)
    → IsReached old → old.init ≡ R1
    → legal v flags ≡ Ok c → first_refusal old (Branch v t x flags answer) ≡ None
    → Finished old new t x c answer → Steps old (Branch v t x flags answer) new
finish_step old new v t x flags c answer ok opened is first w =
    let no_work : is_work_call (legal v flags) ≡ false = ap is_work_call is ∙ w.work in (
      record {
        answers = Made first w.answers;
        manager = w.init;
        branch = λ y. moves_on (same x y) (is_refusal answer) _ _ w.answers
            (λ e. subst (λ (z : Xid). HasBranchRow (state_at old z) v flags answer
            (state_at new z)) (same_is x y e)
            (subst (λ (q : Result Call Code). IsOkAnd q
            (λ d. Contains (branch_rows (state_at old x) d) (answer, state_at new x))) (sym is)
            (subst (λ (s : BranchState). Contains (branch_rows (state_at old x) c) (answer, s))
            (sym w.branch.own) w.listed)))
            (λ e. w.branch.others y e);
        association = λ u y. moves_on (is_work_on y v flags x && nat_eq u t) (is_refusal answer) _ _ w.answers
            (λ e. absurd (none_by (is_work_call (legal v flags)) (same x y) (nat_eq u t) no_work e))
            (λ e. ap (λ (a : AssocList). own_state a u y) w.associations);
        migration = λ y. moves_on (is_work_on y v flags x) (is_refusal answer) _ _ w.answers
            (λ e. absurd (let f : false ≡ true = rw no_work at e in cc))
            (λ e. ap (λ (a : AssocList). moved_of a y) w.associations);
      },
      record {
        closed = λ e. absurd (let f : R1 ≡ R0 = sym opened ∙ sym w.init ∙ e in cc);
        kept = subst (λ (a : AssocList). AreThreadsListed a) (sym w.associations) ok.kept;
        states = moved_states old new x w.state w.branch ok.states;
      },
    )

outcome_step : (old new : States) (v : Verb) (t : ℕ) (x : Xid) (flags : ℕ) (c : Call) (answer : Code)
    → IsReached old → old.init ≡ R1
    → legal v flags ≡ Ok c → first_refusal old (Branch v t x flags answer) ≡ first_of (state_checks old c t x)
    → Outcome old new t x c answer → Steps old (Branch v t x flags answer) new
outcome_step old new v t x flags c answer ok opened is first (inl s) =
    subst (λ (a : Code). Steps old (Branch v t x flags a) new) (sym s.answers)
    (refused_step old new (Branch v t x flags s.code) s.code ok refl (first ∙ s.first) s.refuses s.same)
outcome_step old new v t x flags c answer ok opened is first (inr (inl w)) =
    works_step old new v t x flags c answer ok opened is (first ∙ w.first) w
outcome_step old new v t x flags c answer ok opened is first (inr (inr w)) =
    finish_step old new v t x flags c answer ok opened is (first ∙ w.first) w

-- The other checks of a call on a branch.

at_branch : (old : States) (v : Verb) (t : ℕ) (x : Xid) (flags : ℕ) (c : Call) (answer : Code) → legal v flags
    ≡ Ok c → first_refusal old (Branch v t x flags answer) ≡ first_of (branch_checks old c t x)
at_branch old v t x flags c answer is = ap (λ q. behind_flags (λ d. branch_checks old d t x) q) is

abbrev checks_at : States → Call → ℕ → Xid → InitState → Bool → Option Code
checks_at m c t x i null = first_of ((is_closed i, code.Proto) ∷ (null, code.Inval) ∷ state_checks m c t x)

named_step : (wanted : Wanted) (old new : States) (v : Verb) (t : ℕ) (x : Xid) (flags : ℕ) (c : Call)
    (answer : Code) (null : Bool) → IsReached old → old.init ≡ R1 → same x null_xid ≡ null
    → legal v flags ≡ Ok c → FitsRows wanted (state_at old x) → Checked wanted old new c t x answer
    → Steps old (Branch v t x flags answer) new
named_step wanted old new v t x flags c answer true ok opened named is fits h =
    let refused = h.null opened (same_is x null_xid named) in
    subst (λ (a : Code). Steps old (Branch v t x flags a) new) (sym refused.0)
    (refused_step old new (Branch v t x flags code.Inval) code.Inval ok refl
    (at_branch old v t x flags c answer is ∙ ap (λ i. checks_at old c t x i (same x null_xid)) opened
    ∙ ap (λ b. checks_at old c t x R1 b) named) refl refused.1)
named_step wanted old new v t x flags c answer false ok opened named is fits h =
    let other : (x ≡ null_xid → ⊥) = λ e. absurd
    (let f : true ≡ false = sym (same_refl null_xid) ∙ subst (λ z. same z null_xid ≡ false) e named in cc) in
    outcome_step old new v t x flags c answer ok opened is
    (at_branch old v t x flags c answer is ∙ ap (λ i. checks_at old c t x i (same x null_xid)) opened
    ∙ ap (λ b. checks_at old c t x R1 b) named)
    (comes wanted old new c t x answer ok fits (h.does opened other))

opened_step : (wanted : Wanted) (old new : States) (v : Verb) (t : ℕ) (x : Xid) (flags : ℕ) (c : Call)
    (answer : Code) (i : InitState) → IsReached old → old.init ≡ i
    → legal v flags ≡ Ok c → FitsRows wanted (state_at old x) → Checked wanted old new c t x answer
    → Steps old (Branch v t x flags answer) new
opened_step wanted old new v t x flags c answer R0 ok opened is fits h =
    let refused = h.closed opened in
    subst (λ (a : Code). Steps old (Branch v t x flags a) new) (sym refused.0)
    (refused_step old new (Branch v t x flags code.Proto) code.Proto ok refl
    (at_branch old v t x flags c answer is ∙ ap
    (λ i. checks_at old c t x i (same x null_xid)) opened) refl refused.1)
opened_step wanted old new v t x flags c answer R1 ok opened is fits h =
    named_step wanted old new v t x flags c answer (same x null_xid) ok opened refl is fits h

pub branch_step : (wanted : Wanted) (old new : States) (v : Verb) (t : ℕ) (x : Xid) (flags : ℕ)
    (answer : Code) (l : Result Call Code) → IsReached old → legal v flags ≡ l
    → FitsRows wanted (state_at old x) → MatchResult l (λ c. Checked wanted old new c t x answer)
    (λ refusal. (answer ≡ refusal) × SameStates old new) → Steps old (Branch v t x flags answer) new
branch_step wanted old new v t x flags answer (Ok c) ok is fits h =
    opened_step wanted old new v t x flags c answer old.init ok refl is fits h
branch_step wanted old new v t x flags answer (Err e) ok is fits h =
    subst (λ (a : Code). Steps old (Branch v t x flags a) new) (sym h.0)
    (refused_step old new (Branch v t x flags e) e ok refl
    (ap (λ q. behind_flags (λ d. branch_checks old d t x) q) is) (legal_refuses v flags e is) h.1)
