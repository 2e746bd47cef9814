-- Each move is a legal step, and so a list of moves a legal history.
use Rattle.std.proofs.Common.{◌≡◌, ℕ, ◌-◌, Bool, true, false, not, List, [], ◌∷◌, length, Option, Some, None, Result, Ok, Err, inl, inr, refl, ap, sym, subst, ◌∙◌, arith}
use Rattle.std.specs.Prelude.{◌||◌, ◌&&◌, ◌==◌, nat_le, nat_lt, Contains, IsOkAnd, IsErrAnd, MatchResult, if◌then◌else◌}
use Rattle.std.specs.Option.{option_map_or}
use Rattle.std.proofs.lemmas.Bool.{eqb-true}
use Rattle.xa_codes.specs.declared.code.Code.{Code}
use Rattle.xa_words.specs.code
use Rattle.xa_tables.specs.Calls.{legal, call_of, call_or, refused, refused_async, async}
use Rattle.xa_tables.specs.Tables.{init_rows}
use Rattle.xa_tables.specs.declared.call.Call.{Call}
use Rattle.xa_words.specs.call
use Rattle.xa_tables.specs.declared.call.Verb.{Verb}
use Rattle.xa_words.specs.verb
use Rattle.xa_tables.specs.declared.states.InitState.{InitState}
use Rattle.xa_tables.specs.declared.states.InitState.TheVariants.{R0, R1}
use Rattle.xa_tables.specs.declared.states.AssocState.TheVariants.{T1}
use Rattle.xa_tables.specs.declared.states.BranchState.{BranchState}
use Rattle.xa_tables.specs.declared.states.BranchState.TheVariants.{S3, S5}
use Rattle.xa_xid.specs.declared.xid.Xid.{Xid}
use Rattle.xa_assoc.specs.Names.{same}
use Rattle.xa_assoc.specs.Associations.{AssocList, IsBare, active_of, moved_of, own_state}
use Rattle.xa_branch.proofs.Names.{same_is}
use Rattle.xa_assoc.proofs.Sound.{is_active-T1}
use Rattle.xa_branch.specs.Branches.{ScansBranches, scan_refusal, starts_scan, state_in}
use Rattle.xa_branch.specs.Scans.{has_scan}
use Rattle.xa_assoc.specs.declared.states.States.{States}
use Rattle.xa_assoc.specs.Answers.{Closed, AreNewStates, Opened, SameStates, Scanned, TakesTableRow, state_at}
use Rattle.xa_assoc.specs.Restored.{Restored}
use Rattle.proof_xa.specs.Moves.{Answered, Declines, MovesLead, MakesMove, XaMove, Open, Close, Branch, Recover, Work, Decide, Restart}
use Rattle.proof_xa.specs.Refusals.{AnswersFirst, Made, behind_flags, first_of, first_refusal, has_associations, is_refusal, scan_checks}
use Rattle.proof_xa.specs.Histories.{BranchStep, InitStep, IsLegalHistory, MigrationStep, OwnStep, WalksBy}
use Rattle.xa_assoc.specs.Ready.{is_closed}
use Rattle.proof_xa.proofs.Reached.{AllHere, AreThreadsListed, IsReached, bare_moved, bare_states, empty_states, moved_states, new_reached, restored_reached, same_reached}
use Rattle.proof_xa.proofs.Refused.{IsLegalStep, Steps, decides_on, declined_step, kept_branch, kept_moved, kept_own, legal_refuses, refused_step}
use Rattle.proof_xa.proofs.Branches.{branch_step}

-- An open, a close and a recover.

same_of : (old new : States) → new ≡ old → SameStates old new
same_of old new e = subst (λ (m : States). SameStates old m) (sym e) (record {
  init = refl;
  branches = record { branches = refl; scans = refl; room = omega arith };
  associations = refl;
})

either_refused : (b : Bool) (o : Option Call) (c : Call)
    → (if b then Err code.Inval else refused_async o) ≡ Ok c → ⊥
either_refused true o c h = absurd cc
either_refused false None c h = absurd cc
either_refused false (Some d) c h = absurd cc

plain_call : (b : Bool) (k : Call) (r : Result Call Code) (c : Call) → (r ≡ Ok c → ⊥)
    → call_or (if b then Some k else None) r ≡ Ok c → c ≡ k
plain_call true k r c none h = cc
plain_call false k r c none h = absurd (none h)

open_call : (flags : ℕ) (c : Call) → legal verb.Open flags ≡ Ok c → c ≡ call.Open
open_call flags c h =
    plain_call (flags == 0) call.Open (refused verb.Open flags) c
    (either_refused (nat_lt flags async) (call_of verb.Open (flags - async)) c) h

close_call : (flags : ℕ) (c : Call) → legal verb.Close flags ≡ Ok c → c ≡ call.Close
close_call flags c h =
    plain_call (flags == 0) call.Close (refused verb.Close flags) c
    (either_refused (nat_lt flags async) (call_of verb.Close (flags - async)) c) h

open_row : (i : InitState) → Contains (init_rows i call.Open) (code.Ok, R1)
open_row R0 = (0, omega arith, refl)
open_row R1 = (0, omega arith, refl)

close_row : (i : InitState) → Contains (init_rows i call.Close) (code.Ok, R0)
close_row R0 = (0, omega arith, refl)
close_row R1 = (0, omega arith, refl)

-- an open leaves each association as it is: there is none, where the manager was closed
own_kept : (old new : States) (migrates : Bool) (answer : Code) (i : InitState) → old.init ≡ i → IsReached old
    → Opened old new migrates answer
    → (t : ℕ) (x : Xid) → own_state new.associations t x ≡ own_state old.associations t x
own_kept old new migrates answer R0 is ok h t x =
    let anew = h.anew is in
    empty_states new.associations anew.0 anew.1 t x
    ∙ sym (bare_states old.associations (ok.closed is) ok.kept t x)
own_kept old new migrates answer R1 is ok h t x =
    ap (λ (m : States). own_state m.associations t x) (h.again is)

moved_stays : (old new : States) (migrates : Bool) (answer : Code) (i : InitState) → old.init ≡ i
    → IsReached old → Opened old new migrates answer
    → (x : Xid) → moved_of new.associations x ≡ moved_of old.associations x
moved_stays old new migrates answer R0 is ok h x =
    let anew = h.anew is in
    bare_moved new.associations anew.0 x ∙ sym (bare_moved old.associations (ok.closed is) x)
moved_stays old new migrates answer R1 is ok h x = ap (λ (m : States). moved_of m.associations x) (h.again is)

kept_again : (old new : States) (migrates : Bool) (answer : Code) (i : InitState) → old.init ≡ i
    → IsReached old → Opened old new migrates answer → AreThreadsListed new.associations
kept_again old new migrates answer R0 is ok h = let anew =
    h.anew is in λ t x. inl (empty_states new.associations anew.0 anew.1 t x)
kept_again old new migrates answer R1 is ok h =
    subst (λ (m : States). AreThreadsListed m.associations) (sym (h.again is)) ok.kept

opens : (old new : States) (flags : ℕ) (migrates : Bool) (c : Call) → IsReached old
    → legal verb.Open flags ≡ Ok c → Opened old new migrates code.Ok
    → Steps old (Open flags migrates code.Ok) new
opens old new flags migrates c ok is h = (
  record {
    answers = Made (ap (λ q. behind_flags (λ d. []) q) is) refl;
    manager = subst (λ (q : Result Call Code). IsOkAnd q
        (λ d. Contains (init_rows old.init d) (code.Ok, new.init))) (sym is)
        (subst (λ (i : InitState). Contains (init_rows old.init c) (code.Ok, i)) (sym h.init)
        (subst (λ (k : Call). Contains (init_rows old.init k) (code.Ok, R1))
        (sym (open_call flags c is)) (open_row old.init)));
    branch = λ x. ap (λ b. state_in b.branches x) h.branches;
    association = own_kept old new migrates code.Ok old.init refl ok h;
    migration = moved_stays old new migrates code.Ok old.init refl ok h;
  },
  record {
    closed = λ e. absurd (let f : R1 ≡ R0 = sym h.init ∙ e in cc);
    kept = kept_again old new migrates code.Ok old.init refl ok h;
    states = subst (λ b. AllHere b.branches) (sym h.branches) ok.states;
  },
)

open_step : (old new : States) (flags : ℕ) (migrates : Bool) (answer : Code) (l : Result Call Code)
    → IsReached old → legal verb.Open flags ≡ l
    → MatchResult l (λ c. Opened old new migrates answer) (λ refusal. (answer ≡ refusal) × (new ≡ old))
    → Steps old (Open flags migrates answer) new
open_step old new flags migrates answer (Ok c) ok is h =
    subst (λ (a : Code). Steps old (Open flags migrates a) new) (sym h.answers)
    (opens old new flags migrates c ok is (subst (λ (a : Code). Opened old new migrates a) h.answers h))
open_step old new flags migrates answer (Err e) ok is h =
    subst (λ (a : Code). Steps old (Open flags migrates a) new) (sym h.0)
    (refused_step old new (Open flags migrates e) e ok refl (ap (λ q. behind_flags (λ d. []) q) is)
    (legal_refuses verb.Open flags e is) (same_of old new h.1))

abbrev close_checks : Bool → Bool → Call → List (Bool × Code)
close_checks holders moved c = (not holders || not moved, code.Proto) ∷ []

at_close : (old : States) (flags : ℕ) (holders moved : Bool) (c : Call) → (length old.associations.holders ==
    0) ≡ holders → (length old.associations.moved == 0) ≡ moved → legal verb.Close flags ≡ Ok c
    → first_refusal old (Close flags code.Ok) ≡ first_of (close_checks holders moved c)
at_close old flags holders moved c h m is =
    ap (λ q. behind_flags (λ d. (has_associations old.associations, code.Proto) ∷ []) q) is
    ∙ ap (λ b. first_of (close_checks b (length old.associations.moved == 0) c)) h
    ∙ ap (λ b. first_of (close_checks holders b c)) m

close_refused : (old new : States) (flags : ℕ) (c : Call) (answer : Code) → IsReached old → first_refusal old
    (Close flags code.Ok) ≡ Some code.Proto → (IsBare old.associations → ⊥) → Closed old new answer
    → Steps old (Close flags answer) new
close_refused old new flags c answer ok first held h =
    let refused = h.held held in
    subst (λ (a : Code). Steps old (Close flags a) new) (sym refused.0)
    (refused_step old new (Close flags code.Proto) code.Proto ok refl first refl (same_of old new refused.1))

closes : (old new : States) (flags : ℕ) (c : Call) → IsReached old → legal verb.Close flags ≡ Ok c
    → first_refusal old (Close flags code.Ok) ≡ None → IsBare old.associations
    → (new.init ≡ R0) × (new.branches ≡ old.branches) × (new.associations ≡ old.associations)
    → Steps old (Close flags code.Ok) new
closes old new flags c ok is first bare h = (
  record {
    answers = Made first refl;
    manager = subst (λ (q : Result Call Code). IsOkAnd q
        (λ d. Contains (init_rows old.init d) (code.Ok, new.init))) (sym is)
        (subst (λ (i : InitState). Contains (init_rows old.init c) (code.Ok, i)) (sym h.0)
        (subst (λ (k : Call). Contains (init_rows old.init k) (code.Ok, R0))
        (sym (close_call flags c is)) (close_row old.init)));
    branch = λ x. ap (λ b. state_in b.branches x) h.1;
    association = λ t x. ap (λ (a : AssocList). own_state a t x) h.2;
    migration = λ x. ap (λ (a : AssocList). moved_of a x) h.2;
  },
  record {
    closed = λ e. subst (λ (a : AssocList). IsBare a) (sym h.2) bare;
    kept = subst (λ (a : AssocList). AreThreadsListed a) (sym h.2) ok.kept;
    states = subst (λ b. AllHere b.branches) (sym h.1) ok.states;
  },
)

is_zero : (n : ℕ) → (n == 0) ≡ false → n ≡ 0 → ⊥
is_zero n e z = absurd (let f : (0 == 0) ≡ false = subst (λ (k : ℕ). (k == 0) ≡ false) z e in cc)

close_by : (old new : States) (flags : ℕ) (c : Call) (answer : Code) (holders moved : Bool) → IsReached old
    → legal verb.Close flags ≡ Ok c
    → (length old.associations.holders == 0) ≡ holders → (length old.associations.moved == 0) ≡ moved
    → Closed old new answer → Steps old (Close flags answer) new
close_by old new flags c answer true true ok is e f h =
    let bare : IsBare old.associations = record {
      holders = eqb-true (length old.associations.holders) 0 e;
      moved = eqb-true (length old.associations.moved) 0 f;
    } in
    let done = h.done bare in
    subst (λ (a : Code). Steps old (Close flags a) new) (sym done.0)
    (closes old new flags c ok is (at_close old flags true true c e f is) bare (done.1, done.2, done.3))
close_by old new flags c answer true false ok is e f h =
    close_refused old new flags c answer ok (at_close old flags true false c e f is)
    (λ bare. is_zero (length old.associations.moved) f bare.moved) h
close_by old new flags c answer false moved ok is e f h =
    close_refused old new flags c answer ok (at_close old flags false moved c e f is)
    (λ bare. is_zero (length old.associations.holders) e bare.holders) h

close_step : (old new : States) (flags : ℕ) (answer : Code) (l : Result Call Code) → IsReached old
    → legal verb.Close flags ≡ l
    → MatchResult l (λ c. Closed old new answer) (λ refusal. (answer ≡ refusal) × (new ≡ old))
    → Steps old (Close flags answer) new
close_step old new flags answer (Ok c) ok is h =
    close_by old new flags c answer (length old.associations.holders == 0)
    (length old.associations.moved == 0) ok is refl refl h
close_step old new flags answer (Err e) ok is h =
    subst (λ (a : Code). Steps old (Close flags a) new) (sym h.0)
    (refused_step old new (Close flags e) e ok
    refl (ap (λ q. behind_flags (λ d. (has_associations old.associations, code.Proto) ∷ []) q) is)
    (legal_refuses verb.Close flags e is) (same_of old new h.1))

abbrev scan_by : Bool → Bool → Bool → Option Code
scan_by has starts full = if has then None else if not starts then Some code.Inval else if full
    then Some code.RmErr else None

scan_agrees : (has starts full : Bool) → first_of
    ((not has && not starts, code.Inval) ∷ (not has && full, code.RmErr) ∷ []) ≡ scan_by has starts full
scan_agrees true starts full = refl
scan_agrees false false full = refl
scan_agrees false true true = refl
scan_agrees false true false = refl

scan_refuses : (has starts full : Bool) (e : Code) → scan_by has starts full ≡ Some e → is_refusal e ≡ true
scan_refuses true starts full e h = absurd cc
scan_refuses false false full e h = let is : e ≡ code.Inval = cc in rw is refl
scan_refuses false true true e h = let is : e ≡ code.RmErr = cc in rw is refl
scan_refuses false true false e h = absurd cc

at_scan : (old : States) (t count : ℕ) (flags : ℕ) (c : Call)
    → legal verb.Recover flags ≡ Ok c → old.init ≡ R1
    → first_refusal old (Recover t count flags (Ok [])) ≡ scan_refusal old.branches.scans t c
at_scan old t count flags c is opened =
    ap (λ q. behind_flags (λ d. scan_checks old d t) q) is
    ∙ ap (λ i. first_of ((is_closed i, code.Proto)
    ∷ (not (has_scan old.branches.scans t) && not (starts_scan c), code.Inval) ∷ (
      not
          (has_scan old.branches.scans t) && nat_le 256 (length old.branches.scans),
      code.RmErr,
    ) ∷ [])) opened
    ∙ scan_agrees (has_scan old.branches.scans t) (starts_scan c) (nat_le 256 (length old.branches.scans))

scans : (old new : States) (t count : ℕ) (flags : ℕ) (c : Call) (given : List Xid) → IsReached old
    → first_refusal old (Recover t count flags (Ok [])) ≡ None
    → ScansBranches old.branches new.branches t count c given × (new.associations ≡ old.associations)
    × (new.init ≡ old.init) → Steps old (Recover t count flags (Ok given)) new
scans old new t count flags c given ok first h = (
  record {
    answers = Made first refl;
    manager = h.2;
    branch = λ x. let s = h.0 in ap (λ bs. state_in bs x) s.branches;
    association = λ u x. ap (λ (a : AssocList). own_state a u x) h.1;
    migration = λ x. ap (λ (a : AssocList). moved_of a x) h.1;
  },
  record {
    closed = λ e. subst (λ (a : AssocList). IsBare a) (sym h.1) (ok.closed (sym h.2 ∙ e));
    kept = subst (λ (a : AssocList). AreThreadsListed a) (sym h.1) ok.kept;
    states = let s = h.0 in subst (λ bs. AllHere bs) (sym s.branches) ok.states;
  },
)

scan_by_state : (old new : States) (t count : ℕ) (flags : ℕ) (c : Call) (answer : Result (List Xid) Code)
    (i : InitState) → IsReached old → old.init ≡ i → legal verb.Recover flags ≡ Ok c
    → Scanned old new t count c answer → Steps old (Recover t count flags answer) new
scan_by_state old new t count flags c answer R0 ok opened is h =
    let refused = h.closed opened in
    subst (λ (a : Result (List Xid) Code). Steps old (Recover t count flags a) new) (sym refused.0)
    (refused_step old new (Recover t count flags (Err code.Proto)) code.Proto ok refl
    (ap (λ q. behind_flags (λ d. scan_checks old d t) q) is ∙ ap (λ i. first_of ((is_closed i, code.Proto)
    ∷ (not (has_scan old.branches.scans t) && not (starts_scan c), code.Inval) ∷ (
      not
          (has_scan old.branches.scans t) && nat_le 256 (length old.branches.scans),
      code.RmErr,
    ) ∷ [])) opened)
    refl refused.1)
scan_by_state old new t count flags c (Ok given) R1 ok opened is h =
    let done = h.given opened in
    let s = done.0 in
    scans old new t count flags c given ok (at_scan old t count flags c is opened ∙ s.made) done
scan_by_state old new t count flags c (Err e) R1 ok opened is h =
    let refused = h.given opened in
    refused_step old new (Recover t count flags (Err e)) e ok refl
    (at_scan old t count flags c is opened ∙ refused.0)
    (scan_refuses (has_scan old.branches.scans t) (starts_scan c)
    (nat_le 256 (length old.branches.scans)) e refused.0) refused.1

recover_step : (old new : States) (t count : ℕ) (flags : ℕ) (answer : Result (List Xid) Code)
    (l : Result Call Code) → IsReached old → legal verb.Recover flags ≡ l
    → MatchResult l (λ c. Scanned old new t count c answer)
    (λ refusal. (answer ≡ Err refusal) × SameStates old new)
    → Steps old (Recover t count flags answer) new
recover_step old new t count flags answer (Ok c) ok is h =
    scan_by_state old new t count flags c answer old.init ok refl is h
recover_step old new t count flags answer (Err e) ok is h =
    subst (λ (a : Result (List Xid) Code). Steps old (Recover t count flags a) new) (sym h.0)
    (refused_step old new (Recover t count flags (Err e)) e ok refl
    (ap (λ q. behind_flags (λ d. scan_checks old d t) q) is) (legal_refuses verb.Recover flags e is) h.1)

-- The moves without a call.

work_step : (old new : States) → IsReached old → SameStates old new → Steps old Work new
work_step old new ok stays = (
  record {
    answers = Made refl refl;
    manager = stays.init;
    branch = λ x. kept_branch old new x stays;
    association = λ t x. kept_own old new t x stays;
    migration = λ x. kept_moved old new x stays;
  },
  same_reached old new stays ok,
)

decide_step : (old new : States) (x : Xid) → IsReached old → state_at old x ≡ S3
    → TakesTableRow old new x S5 → Steps old (Decide x) new
decide_step old new x ok prepared takes = (
  record {
    answers = Made refl refl;
    manager = takes.init;
    branch = λ y. decides_on (same x y) _ _
        (λ e. let one = same_is x y e in (
          ap (λ (z : Xid). state_at old z) (sym one)
              ∙ prepared,
          ap (λ (z : Xid). state_at new z) (sym one) ∙ takes.branch.own,
        ))
        (λ e. takes.branch.others y e);
    association = λ t y. ap (λ (a : AssocList). own_state a t y) takes.associations;
    migration = λ y. ap (λ (a : AssocList). moved_of a y) takes.associations;
  },
  record {
    closed = λ e. subst (λ (a : AssocList). IsBare a) (sym takes.associations)
        (ok.closed (sym takes.init ∙ e));
    kept = subst (λ (a : AssocList). AreThreadsListed a) (sym takes.associations) ok.kept;
    states = moved_states old new x S5 takes.branch ok.states;
  },
)

restart_step : (old new : States) (left : List (Xid × Bool)) → Restored left new
    → Steps old (Restart left) new
restart_step old new left h = (
  record {
    answers = Made refl refl;
    manager = h.init;
    branch = λ x. ap (λ (bs : List (Xid × BranchState)). state_in bs x) h.branches;
    association = λ t x. empty_states new.associations h.associations h.seats t x;
    migration = λ x. bare_moved new.associations h.associations x;
  },
  restored_reached left new h,
)

answered_step : (old new : States) (v : Verb) (t : ℕ) (x : Xid) (flags : ℕ) (answer : Code) → IsReached old
    → Answered old new v t x flags answer → Steps old (Branch v t x flags answer) new
answered_step old new v t x flags answer ok h =
    branch_step h.0 old new v t x flags answer (legal v flags) ok refl h.1 h.2

declined_scan : (old new : States) (t count : ℕ) (flags : ℕ) (answer : Result (List Xid) Code) → IsReached old
    → IsErrAnd answer (Declines old new) → Steps old (Recover t count flags answer) new
declined_scan old new t count flags (Ok given) ok h = absurd h
declined_scan old new t count flags (Err e) ok h =
    declined_step old new (Recover t count flags (Err e)) e ok refl h

-- any move is a legal step
makes_step : (old new : States) (m : XaMove) → IsReached old → MakesMove old new m → Steps old m new
makes_step old new (Open flags migrates answer) ok (inl h) =
    declined_step old new (Open flags migrates answer) answer ok refl h
makes_step old new (Open flags migrates answer) ok (inr h) =
    open_step old new flags migrates answer (legal verb.Open flags) ok refl h
makes_step old new (Close flags answer) ok (inl h) =
    declined_step old new (Close flags answer) answer ok refl h
makes_step old new (Close flags answer) ok (inr h) =
    close_step old new flags answer (legal verb.Close flags) ok refl h
makes_step old new (Branch v t x flags answer) ok (inl h) =
    declined_step old new (Branch v t x flags answer) answer ok refl h
makes_step old new (Branch v t x flags answer) ok (inr h) = answered_step old new v t x flags answer ok h
makes_step old new (Recover t count flags answer) ok (inl h) = declined_scan old new t count flags answer ok h
makes_step old new (Recover t count flags answer) ok (inr h) =
    recover_step old new t count flags answer (legal verb.Recover flags) ok refl h
makes_step old new Work ok h = work_step old new ok h
makes_step old new (Decide x) ok h = decide_step old new x ok h.0 h.1
makes_step old new (Restart left) ok h = restart_step old new left h

-- what each step does to a part of the manager, a list of moves does to it
project : {S : Type 0} (step : S → XaMove → S → Type 0) (f : States → S)
    → ((old new : States) (move : XaMove) → IsLegalStep old move new → step (f old) move (f new))
    → (m n : States) (moves : List XaMove) → IsReached m → MovesLead m moves n
    → WalksBy step (f m) moves (f n)
project step f by m n [] ok e = ap f e
project step f by m n (move ∷ moves) ok e =
    let s = makes_step m e.0 move ok e.1 in
    (f e.0, by m e.0 move s.0, project step f by e.0 n moves s.1 e.2)

one_branch : (o : Option Xid) (x y : Xid) → option_map_or (λ z. same z x) o false ≡ true
    → option_map_or (λ z. same z y) o false ≡ true → x ≡ y
one_branch None x y h k = absurd cc
one_branch (Some z) x y h k = sym (same_is z x h) ∙ same_is z y k

-- a thread is active in one branch at most
one_active : (a : AssocList) (t : ℕ) (x y : Xid) → own_state a t x ≡ T1 → own_state a t y ≡ T1 → x ≡ y
one_active a t x y h k = one_branch (active_of a t) x y (is_active-T1 a t x h) (is_active-T1 a t y k)

pub legal_history : (m n : States) (moves : List XaMove) → AreNewStates m → MovesLead m moves n
    → IsLegalHistory m moves n
legal_history m n moves new leads =
    let ok = new_reached m new in
    record {
      manager = project InitStep (λ k. k.init) (λ old k move s. s.manager) m n moves ok leads;
      branches = λ x. project (BranchStep x) (λ k. state_at k x)
          (λ old k move s. s.branch x) m n moves ok leads;
      associations = λ t x. project (OwnStep t x) (λ k. own_state k.associations t x)
          (λ old k move s. s.association t x) m n moves ok leads;
      migrations = λ x. project (MigrationStep x) (λ k. moved_of k.associations x)
          (λ old k move s. s.migration x) m n moves ok leads;
      one_active = λ t x y h k. one_active n.associations t x y h k;
      answers_first = project AnswersFirst (λ k. k) (λ old k move s. s.answers) m n moves ok leads;
    }
