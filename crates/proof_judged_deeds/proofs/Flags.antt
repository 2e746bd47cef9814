-- Which flags are legal is the same to the tables and to the judge.
use Rattle.std.proofs.Common.{◌≡◌, ℕ, ◌+◌, ◌-◌, ◌*◌, ◌/◌, ◌%◌, ◌^◌, ◌<◌, ◌≤◌, Bool, true, false, not, List, [], ◌∷◌, Option, Some, None, Result, Ok, Err, refl, ap, inl, inr, sym, subst, ◌∙◌, arith}
use Rattle.std.specs.Prelude.{bit_and, ◌⊎◌, ◌==◌, ◌&&◌, ◌||◌, nat_lt, if◌then◌else◌}
use Rattle.std.specs.List.{list_any, AllByRecursion}
use Rattle.std.proofs.lemmas.Bool.{eqb-true, agree_below, agree_below_at, ltb-false, false≢true, or_cases, or_parts, not-false}
use Rattle.std.proofs.lemmas.Nat.{and_le_r, and_mod}
use Rattle.std.specs.Int.Bits.{and_zero_r}
use Rattle.xa_codes.specs.declared.code.Code.{Code}
use Rattle.xa_words.specs.code
use Rattle.xa_tables.specs.Calls.{async, one_phase, fail, no_wait, resume, success, suspend, start_scan, end_scan, join, migrate, legal, call_or, refused, refused_async, start_of, end_of, commit_of, recover_of, plain_of}
use Rattle.xa_tables.specs.declared.call.Call.{Call}
use Rattle.xa_words.specs.call
use Rattle.xa_branch.specs.Branches.{ends_scan, starts_scan}
use Rattle.xa_tables.specs.declared.call.Verb.{Verb}
use Rattle.xa_words.specs.verb
use Rattle.judge_rules.specs.Flags.{has, only, wrong_at_start, wrong_at_end, wrong_at_commit, wrong_elsewhere, wrong_at_recover, is_one_of}

-- flags that are only these, none of which is below 2 ^ 20, are one of 4,096 multiples of 2 ^ 20
pub record IsMultiple (f : ℕ) : Type 0 where
  pub by : ℕ
  pub small : by < 4096
  pub is : f ≡ by * 2 ^ 20

low_none : (f m : ℕ) → m % 2 ^ 20 ≡ 0 → bit_and f m ≡ f → f % 2 ^ 20 ≡ 0
low_none f m z h =
    ap (λ n. n % 2 ^ 20) (sym h) ∙ and_mod f m 20 ∙ ap (λ n. bit_and (f % 2 ^ 20) n) z
    ∙ and_zero_r (f % 2 ^ 20)

multiple : (f m : ℕ) → m % 2 ^ 20 ≡ 0 → m < 2 ^ 32 → only f m ≡ true → IsMultiple f
multiple f m z small h =
    let e = eqb-true (bit_and f m) f h in
    let low = low_none f m z e in
    let le : f ≤ m = subst (λ (n : ℕ). n ≤ m) e (and_le_r f m) in
    record { by = f / 2 ^ 20; small = omega arith; is = omega arith }

abbrev at : ℕ → ℕ
at g = g * 2 ^ 20

-- flags are among some
abbrev among : ℕ → List ℕ → Bool
among f fs = list_any (λ g. f == g) fs

-- what holds of flags holds of each that is right at a verb
pub among_from : (wrong : ℕ → Bool) (fs : List ℕ) (f : ℕ) → IsMultiple f
    → agree_below (λ g. wrong (at g) || among (at g) fs) (λ g. true) 4096 ≡ true
    → wrong f ≡ false → among f fs ≡ true
among_from wrong fs f m agree right =
    let both : (wrong (at m.by) || among (at m.by) fs) ≡ true =
    agree_below_at (λ g. wrong (at g) || among (at g) fs) (λ g. true) 4096 m.by agree m.small in
    let here : (wrong f || among f fs) ≡ true = subst (λ (n : ℕ). (wrong n || among n fs) ≡ true)
    (sym m.is) both in
    elim (or_cases (wrong f) (among f fs) here) [
      | inl w ↦ absurd (false≢true (sym right ∙ w))
      | inr a ↦ a
    ]

-- what holds of each of some flags holds of flags that are among them
pub of_all : (P : ℕ → Type 0) (f : ℕ) (fs : List ℕ) → AllByRecursion P fs → among f fs ≡ true → P f
of_all P f [] all h = absurd (false≢true h)
of_all P f (g ∷ gs) all h = elim (or_cases (f == g) (among f gs) h) [
  | inl e ↦ subst P (sym (eqb-true f g e)) all.0
  | inr m ↦ of_all P f gs all.1 m
]

if_some : {C : Type 0} (b : Bool) (k c : C) (rest : Option C) → (if b then Some k else rest) ≡ Some c
    → (b ≡ true) ⊎ (rest ≡ Some c)
if_some true k c rest h = inl refl
if_some false k c rest h = inr h

pick : (P : ℕ → Type 0) (f g h : ℕ) → (f == g || f == h) ≡ true → P g → P h → P f
pick P f g h e p q = elim (or_cases (f == g) (f == h) e) [
  | inl i ↦ subst P (sym (eqb-true f g i)) p
  | inr i ↦ subst P (sym (eqb-true f h i)) q
]

ok_is : (o : Option Call) (r : Result Call Code) (c : Call) → (r ≡ Ok c → ⊥) → call_or o r ≡ Ok c → o ≡ Some c
ok_is None r c never h = absurd (never h)
ok_is (Some k) r c never h = cc

err_is : (o : Option Call) (r : Result Call Code) (e : Code) → call_or o r ≡ Err e → (o ≡ None) × (r ≡ Err e)
err_is None r e h = (refl, h)
err_is (Some k) r e h = absurd cc

never_ok : (b : Bool) (o : Option Call) (c : Call) → (if b then Err code.Inval else refused_async o) ≡ Ok c
    → ⊥
never_ok true o c h = absurd cc
never_ok false None c h = absurd cc
never_ok false (Some k) c h = absurd cc

async_is : (b : Bool) (o : Option Call) → (if b then Err code.Inval else refused_async o) ≡ Err code.Async
    → (b ≡ false) × ((c : Call) × (o ≡ Some c))
async_is true o h = absurd cc
async_is false None h = absurd cc
async_is false (Some k) h = (refl, (k, refl))

-- flags are right to the judge, and TMASYNC is not among them
pub record AreRight (wrong : ℕ → Bool) (f : ℕ) : Type 0 where
  pub right : wrong f ≡ false
  pub sync : has f async ≡ false

-- Starts.

abbrev pub starts : List ℕ
starts = 0 ∷ no_wait ∷ join ∷ (join + no_wait) ∷ resume ∷ (resume + no_wait)
    ∷ async ∷ (async + no_wait) ∷ (async + join) ∷ (async + (join + no_wait)) ∷ (async + resume)
    ∷ (async + (resume + no_wait)) ∷ []

starts_agree : agree_below (λ g. wrong_at_start (at g) || among (at g) starts) (λ g. true) 4096 ≡ true
starts_agree = refl

starts_right : (f : ℕ) → wrong_at_start f ≡ false → among f starts ≡ true
starts_right f h =
    let parts = or_parts (not (only f (join + resume + no_wait + async))) (has f join && has f resume) h in
    among_from wrong_at_start starts f
    (multiple f (join + resume + no_wait + async) refl (omega arith)
    (not-false (only f (join + resume + no_wait + async)) parts.0))
    starts_agree h

start_inv : (P : ℕ → Type 0) (f : ℕ) (c : Call) → start_of f ≡ Some c → P 0 → P no_wait → P join
    → P (join + no_wait)
    → P resume → P (resume + no_wait) → P f
start_inv P f c h a b d e g i =
    elim (if_some (f == 0 || f == no_wait) call.Start c
    (if f == join || f == join + no_wait then Some call.StartJoin
    else if f == resume || f == resume + no_wait then Some call.StartResume else None) h) [
      | inl p ↦ pick P f 0 no_wait p a b
      | inr r ↦ (elim (if_some (f == join || f == join + no_wait) call.StartJoin c
          (if f == resume || f == resume + no_wait then Some call.StartResume else None) r) [
            | inl p ↦ pick P f join (join + no_wait) p d e
            | inr q ↦ (elim (if_some (f == resume || f == resume + no_wait) call.StartResume c None q) [
              | inl p ↦ pick P f resume (resume + no_wait) p g i
              | inr n ↦ absurd cc
            ])
          ])
    ]

-- what the judge sees of the flags of a start
abbrev pub StartMarks : Call → ℕ → Type 0
StartMarks call.Start f = (has f join ≡ false) × (has f resume ≡ false)
StartMarks call.StartJoin f = (has f join ≡ true) × (has f resume ≡ false)
StartMarks call.StartResume f = (has f join ≡ false) × (has f resume ≡ true)
StartMarks _ f = ⊥

abbrev ReadsStart : ℕ → Type 0
ReadsStart f = (c : Call) → start_of f ≡ Some c → AreRight wrong_at_start f × StartMarks c f

marked : (c k : Call) (f : ℕ) → Some k ≡ Some c → AreRight wrong_at_start f × StartMarks k f
    → AreRight wrong_at_start f × StartMarks c f
marked c k f h m =
    let is : k ≡ c = cc in subst (λ (d : Call). AreRight wrong_at_start f × StartMarks d f) is m

pub start_reads : (f : ℕ) (c : Call) → legal verb.Start f ≡ Ok c → AreRight wrong_at_start f × StartMarks c f
start_reads f c h =
    let is = ok_is (start_of f) (refused verb.Start f) c
    (never_ok (nat_lt f async) (start_of (f - async)) c) h in
    start_inv ReadsStart f c is
    (λ d e. marked d call.Start 0 e (record { right = refl; sync = refl }, (refl, refl)))
    (λ d e. marked d call.Start no_wait e (record { right = refl; sync = refl }, (refl, refl)))
    (λ d e. marked d call.StartJoin join e (record { right = refl; sync = refl }, (refl, refl)))
    (λ d e. marked d call.StartJoin (join + no_wait) e (record { right = refl; sync = refl }, (refl, refl)))
    (λ d e. marked d call.StartResume resume e (record { right = refl; sync = refl }, (refl, refl)))
    (λ d e. marked d call.StartResume (resume + no_wait) e
    (record { right = refl; sync = refl }, (refl, refl)))
    c is

abbrev NotInval : Verb → ℕ → Type 0
NotInval v f = legal v f ≡ Err code.Inval → ⊥

pub start_wrong : (f : ℕ) → legal verb.Start f ≡ Err code.Inval → wrong_at_start f ≡ true
start_wrong f h = by (wrong_at_start f) refl where
  never : among f starts ≡ true → NotInval verb.Start f
  never m = of_all (NotInval verb.Start) f starts (
    λ e. absurd cc,
    (
      λ e. absurd cc,
      (
        λ e. absurd cc,
        (
          λ e. absurd cc,
          (
            λ e. absurd cc,
            (
              λ e. absurd cc,
              (
                λ e. absurd cc,
                (
                  λ e. absurd cc,
                  (
                    λ e. absurd cc,
                    (
                      λ e. absurd cc,
                      (λ e. absurd cc, (λ e. absurd cc, tt)),
                    ),
                  ),
                ),
              ),
            ),
          ),
        ),
      ),
    ),
  ) m

  by : (b : Bool) → wrong_at_start f ≡ b → wrong_at_start f ≡ true
  by true e = e
  by false e = absurd (never (starts_right f e) h)

abbrev HasAsync : ℕ → Type 0
HasAsync g = has (async + g) async ≡ true

with_async : (f : ℕ) → nat_lt f async ≡ false → f ≡ async + (f - async)
with_async f h = let le : async ≤ f = ltb-false f async h in omega arith

pub start_async : (f : ℕ) → legal verb.Start f ≡ Err code.Async → has f async ≡ true
start_async f h =
    let r = err_is (start_of f) (refused verb.Start f) code.Async h in
    let a = async_is (nat_lt f async) (start_of (f - async)) r.1 in
    subst (λ (g : ℕ). has g async ≡ true) (sym (with_async f a.0))
    (start_inv HasAsync (f - async) a.1.0 a.1.1 refl refl refl refl refl refl)

-- Why flags are refused.

err_by : (b : Bool) (o : Option Call) (e : Code) → (if b then Err code.Inval else refused_async o) ≡ Err e
    → (e ≡ code.Inval) ⊎ (e ≡ code.Async)
err_by true o e h = inl cc
err_by false None e h = inl cc
err_by false (Some k) e h = inr cc

-- Calls that take no flag.

abbrev pub plain_legal : Call → ℕ → Result Call Code
plain_legal k f = call_or (plain_of k f)
    (if nat_lt f async then Err code.Inval else refused_async (plain_of k (f - async)))

plain_inv : (P : ℕ → Type 0) (k c : Call) (f : ℕ) → plain_of k f ≡ Some c → P 0 → P f
plain_inv P k c f h p = elim (if_some (f == 0) k c None h) [
  | inl e ↦ subst P (sym (eqb-true f 0 e)) p
  | inr n ↦ absurd cc
]

plain_call : (k c : Call) (f : ℕ) → plain_of k f ≡ Some c → c ≡ k
plain_call k c f h = by (f == 0) h where
  by : (b : Bool) → (if b then Some k else None) ≡ Some c → c ≡ k
  by true e = cc
  by false e = absurd cc

pub plain_reads : (k c : Call) (f : ℕ) → plain_legal k f ≡ Ok c → AreRight wrong_elsewhere f × (c ≡ k)
plain_reads k c f h =
    let is = ok_is (plain_of k f) (if nat_lt f async then Err code.Inval
    else refused_async (plain_of k (f - async))) c
    (never_ok (nat_lt f async) (plain_of k (f - async)) c) h in (
      plain_inv (λ g. AreRight wrong_elsewhere g) k c f is (record { right = refl; sync = refl }),
      plain_call k c f is,
    )

pub plain_errs : (k : Call) (f : ℕ) (e : Code) → plain_legal k f ≡ Err e → (e ≡ code.Inval) ⊎ (e ≡ code.Async)
plain_errs k f e h = err_by (nat_lt f async) (plain_of k (f - async)) e
    (err_is (plain_of k f) (if nat_lt f async then Err code.Inval else refused_async (plain_of k (f - async)))
    e h).1

pub plain_async : (k : Call) (f : ℕ) → plain_legal k f ≡ Err code.Async → has f async ≡ true
plain_async k f h =
    let r = err_is (plain_of k f) (if nat_lt f async then Err code.Inval
    else refused_async (plain_of k (f - async))) code.Async h in
    let a = async_is (nat_lt f async) (plain_of k (f - async)) r.1 in
    subst (λ (g : ℕ). has g async ≡ true) (sym (with_async f a.0))
    (plain_inv HasAsync k a.1.0 (f - async) a.1.1 refl)

elsewhere_agree : agree_below (λ g. wrong_elsewhere (at g) || among (at g) (0 ∷ async ∷ []))
    (λ g. true) 4096 ≡ true
elsewhere_agree = refl

elsewhere_right : (f : ℕ) → wrong_elsewhere f ≡ false → among f (0 ∷ async ∷ []) ≡ true
elsewhere_right f h = among_from wrong_elsewhere (0 ∷ async ∷ []) f
    (multiple f async refl (omega arith) (not-false (only f async) h)) elsewhere_agree h

pub plain_wrong : (k : Call) (f : ℕ) → plain_legal k f ≡ Err code.Inval → wrong_elsewhere f ≡ true
plain_wrong k f h = by (wrong_elsewhere f) refl where
  by : (b : Bool) → wrong_elsewhere f ≡ b → wrong_elsewhere f ≡ true
  by true e = e
  by false e = absurd (of_all (λ g. plain_legal k g ≡ Err code.Inval → ⊥) f (0 ∷ async ∷ [])
      (λ q. absurd cc, (λ q. absurd cc, tt)) (elsewhere_right f e) h)

-- Commits.

abbrev commits : List ℕ
commits = 0 ∷ no_wait ∷ one_phase ∷ (one_phase + no_wait) ∷ async ∷ (async + no_wait) ∷ (async + one_phase)
    ∷ (async + (one_phase + no_wait)) ∷ []

commits_agree : agree_below (λ g. wrong_at_commit (at g) || among (at g) commits) (λ g. true) 4096 ≡ true
commits_agree = refl

commits_right : (f : ℕ) → wrong_at_commit f ≡ false → among f commits ≡ true
commits_right f h = among_from wrong_at_commit commits f
    (multiple f (one_phase + no_wait + async) refl (omega arith)
    (not-false (only f (one_phase + no_wait + async)) h))
    commits_agree h

commit_inv : (P : ℕ → Type 0) (f : ℕ) (c : Call) → commit_of f ≡ Some c → P 0 → P no_wait → P one_phase
    → P (one_phase + no_wait) → P f
commit_inv P f c h a b d e =
    elim (if_some (f == 0 || f == no_wait) call.Commit c (if f == one_phase || f == one_phase + no_wait
    then Some call.CommitOnePhase else None) h) [
      | inl p ↦ pick P f 0 no_wait p a b
      | inr r ↦ (elim (if_some (f == one_phase || f == one_phase + no_wait) call.CommitOnePhase c None r) [
        | inl p ↦ pick P f one_phase (one_phase + no_wait) p d e
        | inr n ↦ absurd cc
      ])
    ]

-- what the judge sees of the flags of a commit
abbrev pub CommitMarks : Call → ℕ → Type 0
CommitMarks call.Commit f = has f one_phase ≡ false
CommitMarks call.CommitOnePhase f = has f one_phase ≡ true
CommitMarks _ f = ⊥

commit_marked : (c k : Call) (f : ℕ) → Some k ≡ Some c → AreRight wrong_at_commit f × CommitMarks k f
    → AreRight wrong_at_commit f × CommitMarks c f
commit_marked c k f h m =
    let is : k ≡ c = cc in subst (λ (d : Call). AreRight wrong_at_commit f × CommitMarks d f) is m

pub commit_reads : (f : ℕ) (c : Call) → legal verb.Commit f ≡ Ok c → AreRight wrong_at_commit f
    × CommitMarks c f
commit_reads f c h =
    let is = ok_is (commit_of f) (refused verb.Commit f) c
    (never_ok (nat_lt f async) (commit_of (f - async)) c) h in
    commit_inv (λ g. (k : Call) → commit_of g ≡ Some k → AreRight wrong_at_commit g × CommitMarks k g) f c is
    (λ k e. commit_marked k call.Commit 0 e (record { right = refl; sync = refl }, refl))
    (λ k e. commit_marked k call.Commit no_wait e (record { right = refl; sync = refl }, refl))
    (λ k e. commit_marked k call.CommitOnePhase one_phase e (record { right = refl; sync = refl }, refl))
    (λ k e. commit_marked k call.CommitOnePhase (one_phase + no_wait) e
    (record { right = refl; sync = refl }, refl))
    c is

pub commit_errs : (f : ℕ) (e : Code) → legal verb.Commit f ≡ Err e → (e ≡ code.Inval) ⊎ (e ≡ code.Async)
commit_errs f e h = err_by (nat_lt f async) (commit_of (f - async)) e
    (err_is (commit_of f) (refused verb.Commit f) e h).1

pub commit_async : (f : ℕ) → legal verb.Commit f ≡ Err code.Async → has f async ≡ true
commit_async f h =
    let r = err_is (commit_of f) (refused verb.Commit f) code.Async h in
    let a = async_is (nat_lt f async) (commit_of (f - async)) r.1 in
    subst (λ (g : ℕ). has g async ≡ true) (sym (with_async f a.0))
    (commit_inv HasAsync (f - async) a.1.0 a.1.1 refl refl refl refl)

pub commit_wrong : (f : ℕ) → legal verb.Commit f ≡ Err code.Inval → wrong_at_commit f ≡ true
commit_wrong f h = by (wrong_at_commit f) refl where
  by : (b : Bool) → wrong_at_commit f ≡ b → wrong_at_commit f ≡ true
  by true e = e
  by false e = absurd (of_all (NotInval verb.Commit) f commits (
    λ q. absurd cc,
    (
      λ q. absurd cc,
      (
        λ q. absurd cc,
        (λ q. absurd cc, (λ q. absurd cc, (λ q. absurd cc, (λ q. absurd cc, (λ q. absurd cc, tt))))),
      ),
    ),
  )
      (commits_right f e) h)

-- Ends.

abbrev ends : List ℕ
ends = suspend ∷ (suspend + migrate) ∷ success ∷ fail ∷ (async + suspend) ∷ (async + (suspend + migrate))
    ∷ (async + success)
    ∷ (async + fail) ∷ []

ends_agree : agree_below (λ g. wrong_at_end (at g) || among (at g) ends) (λ g. true) 4096 ≡ true
ends_agree = refl

first_off : (a b c : Bool) → (a || b || c) ≡ false → a ≡ false
first_off true b c h = absurd cc
first_off false b c h = refl

ends_right : (f : ℕ) → wrong_at_end f ≡ false → among f ends ≡ true
ends_right f h = among_from wrong_at_end ends f
    (multiple f (suspend + success + fail + migrate + async) refl (omega arith)
    (not-false (only f (suspend + success + fail + migrate + async))
    (first_off (not (only f (suspend + success + fail + migrate + async)))
    (not (is_one_of (has f suspend) (has f success) (has f fail))) (has f migrate && not (has f suspend)) h)))
    ends_agree h

end_inv : (P : ℕ → Type 0) (f : ℕ) (c : Call) → end_of f ≡ Some c → P suspend → P (suspend + migrate)
    → P success → P fail
    → P f
end_inv P f c h a b d e =
    elim (if_some (f == suspend) call.EndSuspend c (if f == suspend + migrate then Some call.EndMigrate
    else if f == success then Some call.EndSuccess else if f == fail then Some call.EndFail else None) h) [
      | inl p ↦ subst P (sym (eqb-true f suspend p)) a
      | inr r ↦ (elim (if_some (f == suspend + migrate) call.EndMigrate c
          (if f == success then Some call.EndSuccess
          else if f == fail then Some call.EndFail else None) r) [
            | inl p ↦ subst P (sym (eqb-true f (suspend + migrate) p)) b
            | inr q ↦ (elim (if_some (f == success) call.EndSuccess c
                (if f == fail then Some call.EndFail else None) q) [
                  | inl p ↦ subst P (sym (eqb-true f success p)) d
                  | inr z ↦ (elim (if_some (f == fail) call.EndFail c None z) [
                    | inl p ↦ subst P (sym (eqb-true f fail p)) e
                    | inr n ↦ absurd cc
                  ])
                ])
          ])
    ]

-- what the judge sees of the flags of an end
abbrev pub EndMarks : Call → ℕ → Type 0
EndMarks call.EndSuspend f = (has f suspend ≡ true) × (has f migrate ≡ false)
EndMarks call.EndMigrate f = (has f suspend ≡ true) × (has f migrate ≡ true)
EndMarks call.EndSuccess f = (has f suspend ≡ false) × (has f migrate ≡ false)
EndMarks call.EndFail f = (has f suspend ≡ false) × (has f migrate ≡ false)
EndMarks _ f = ⊥

end_marked : (c k : Call) (f : ℕ) → Some k ≡ Some c → AreRight wrong_at_end f × EndMarks k f
    → AreRight wrong_at_end f × EndMarks c f
end_marked c k f h m =
    let is : k ≡ c = cc in subst (λ (d : Call). AreRight wrong_at_end f × EndMarks d f) is m

pub end_reads : (f : ℕ) (c : Call) → legal verb.End f ≡ Ok c → AreRight wrong_at_end f × EndMarks c f
end_reads f c h =
    let is = ok_is (end_of f) (refused verb.End f) c (never_ok (nat_lt f async) (end_of (f - async)) c) h in
    end_inv (λ g. (k : Call) → end_of g ≡ Some k → AreRight wrong_at_end g × EndMarks k g) f c is
    (λ k e. end_marked k call.EndSuspend suspend e (record { right = refl; sync = refl }, (refl, refl)))
    (λ k e. end_marked k call.EndMigrate (suspend + migrate) e
    (record { right = refl; sync = refl }, (refl, refl)))
    (λ k e. end_marked k call.EndSuccess success e (record { right = refl; sync = refl }, (refl, refl)))
    (λ k e. end_marked k call.EndFail fail e (record { right = refl; sync = refl }, (refl, refl)))
    c is

pub end_errs : (f : ℕ) (e : Code) → legal verb.End f ≡ Err e → (e ≡ code.Inval) ⊎ (e ≡ code.Async)
end_errs f e h = err_by (nat_lt f async) (end_of (f - async)) e (err_is (end_of f) (refused verb.End f) e h).1

pub end_async : (f : ℕ) → legal verb.End f ≡ Err code.Async → has f async ≡ true
end_async f h =
    let r = err_is (end_of f) (refused verb.End f) code.Async h in
    let a = async_is (nat_lt f async) (end_of (f - async)) r.1 in
    subst (λ (g : ℕ). has g async ≡ true) (sym (with_async f a.0))
    (end_inv HasAsync (f - async) a.1.0 a.1.1 refl refl refl refl)

pub end_wrong : (f : ℕ) → legal verb.End f ≡ Err code.Inval → wrong_at_end f ≡ true
end_wrong f h = by (wrong_at_end f) refl where
  by : (b : Bool) → wrong_at_end f ≡ b → wrong_at_end f ≡ true
  by true e = e
  by false e = absurd (of_all (NotInval verb.End) f ends (
    λ q. absurd cc,
    (
      λ q. absurd cc,
      (
        λ q. absurd cc,
        (λ q. absurd cc, (λ q. absurd cc, (λ q. absurd cc, (λ q. absurd cc, (λ q. absurd cc, tt))))),
      ),
    ),
  )
      (ends_right f e) h)

pub start_errs : (f : ℕ) (e : Code) → legal verb.Start f ≡ Err e → (e ≡ code.Inval) ⊎ (e ≡ code.Async)
start_errs f e h = err_by (nat_lt f async) (start_of (f - async)) e
    (err_is (start_of f) (refused verb.Start f) e h).1

-- Recovers.

abbrev recovers : List ℕ
recovers = 0 ∷ start_scan ∷ end_scan ∷ (start_scan + end_scan) ∷ []

recovers_agree : agree_below (λ g. wrong_at_recover (at g) || among (at g) recovers) (λ g. true) 4096 ≡ true
recovers_agree = refl

recovers_right : (f : ℕ) → wrong_at_recover f ≡ false → among f recovers ≡ true
recovers_right f h = among_from wrong_at_recover recovers f
    (multiple f (start_scan + end_scan) refl (omega arith) (not-false (only f (start_scan + end_scan)) h))
    recovers_agree h

recover_inv : (P : ℕ → Type 0) (f : ℕ) (c : Call) → recover_of f ≡ Some c → P 0 → P start_scan → P end_scan
    → P (start_scan + end_scan) → P f
recover_inv P f c h a b d e =
    elim (if_some (f == 0) call.Recover c (if f == start_scan then Some call.RecoverStart
    else if f == end_scan then Some call.RecoverEnd else if f == start_scan + end_scan
    then Some call.RecoverWhole else None) h) [
      | inl p ↦ subst P (sym (eqb-true f 0 p)) a
      | inr r ↦ (elim (if_some (f == start_scan) call.RecoverStart c
          (if f == end_scan then Some call.RecoverEnd
          else if f == start_scan + end_scan then Some call.RecoverWhole else None) r) [
            | inl p ↦ subst P (sym (eqb-true f start_scan p)) b
            | inr q ↦ (elim (if_some (f == end_scan) call.RecoverEnd c (if f == start_scan + end_scan
                then Some call.RecoverWhole else None) q) [
                  | inl p ↦ subst P (sym (eqb-true f end_scan p)) d
                  | inr z ↦ (elim (if_some (f == start_scan + end_scan) call.RecoverWhole c None z) [
                    | inl p ↦ subst P (sym (eqb-true f (start_scan + end_scan) p)) e
                    | inr n ↦ absurd cc
                  ])
                ])
          ])
    ]

-- the judge sees which recover starts a scan, and which ends one
pub record ReadsScan (f : ℕ) (c : Call) : Type 0 where
  pub right : wrong_at_recover f ≡ false
  pub starts : has f start_scan ≡ starts_scan c
  pub ends : has f end_scan ≡ ends_scan c

scan_marked : (c k : Call) (f : ℕ) → Some k ≡ Some c → ReadsScan f k → ReadsScan f c
scan_marked c k f h m = let is : k ≡ c = cc in subst (λ (d : Call). ReadsScan f d) is m

recover_never : (c : Call) → Err code.Inval ≡ Ok c → ⊥
recover_never c h = absurd cc

pub recover_reads : (f : ℕ) (c : Call) → legal verb.Recover f ≡ Ok c → ReadsScan f c
recover_reads f c h =
    let is = ok_is (recover_of f) (Err code.Inval) c (recover_never c) h in
    recover_inv (λ g. (k : Call) → recover_of g ≡ Some k → ReadsScan g k) f c is
    (λ k e. scan_marked k call.Recover 0 e (record { right = refl; starts = refl; ends = refl }))
    (λ k e. scan_marked k call.RecoverStart start_scan e
    (record { right = refl; starts = refl; ends = refl }))
    (λ k e. scan_marked k call.RecoverEnd end_scan e (record { right = refl; starts = refl; ends = refl }))
    (λ k e. scan_marked k call.RecoverWhole (start_scan + end_scan) e
    (record { right = refl; starts = refl; ends = refl }))
    c is

-- flags that are refused are wrong
pub recover_errs : (f : ℕ) (e : Code) → legal verb.Recover f ≡ Err e → (e ≡ code.Inval)
    × (wrong_at_recover f ≡ true)
recover_errs f e h = (inval, by (wrong_at_recover f) refl) where
  inval : e ≡ code.Inval
  inval = let r : Err code.Inval ≡ Err e = (err_is (recover_of f) (Err code.Inval) e h).1 in cc

  by : (b : Bool) → wrong_at_recover f ≡ b → wrong_at_recover f ≡ true
  by true q = q
  by false q = absurd (of_all (NotInval verb.Recover) f recovers (
    λ z. absurd cc,
    (
      λ z. absurd cc,
      (
        λ z. absurd cc,
        (λ z. absurd cc, tt),
      ),
    ),
  ) (recovers_right f q) (h ∙ ap (λ z. Err z) inval))
