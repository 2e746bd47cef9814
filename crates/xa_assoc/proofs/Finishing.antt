-- What a manager answers that refuses as `ready` does, and else takes its row.
use Rattle.std.proofs.Common.{◌≡◌, ◌≢◌, ℕ, ◌+◌, ◌-◌, Bool, true, false, not, List, [], ◌∷◌, Option, Some, None, Result, Ok, Err, refl, ap, sym, subst, ◌∙◌, arith}
use Rattle.std.specs.Prelude.{◌||◌, ◌==◌, nat_lt, Contains, MatchResult, if◌then◌else◌}
use Rattle.xa_codes.specs.declared.code.Code.{Code}
use Rattle.xa_words.specs.code
use Rattle.xa_tables.specs.Calls.{async, call_of, call_or, fail, join, legal, migrate, no_wait, none, one_phase, refused, refused_async, resume, start_scan, end_scan, success, suspend}
use Rattle.xa_tables.specs.Tables.{branch_rows}
use Rattle.xa_tables.specs.declared.call.Call.{Call}
use Rattle.xa_words.specs.call
use Rattle.xa_tables.specs.declared.call.Verb.{Verb}
use Rattle.xa_words.specs.verb
use Rattle.xa_tables.specs.declared.states.InitState.{InitState}
use Rattle.xa_tables.specs.declared.states.InitState.TheVariants.{R0, R1}
use Rattle.xa_tables.specs.declared.states.BranchState.{BranchState}
use Rattle.xa_xid.specs.declared.xid.Xid.{Xid}
use Rattle.xa_xid.specs.Xids.{null_xid}
use Rattle.xa_branch.proofs.Names.{same_is, same_refl}
use Rattle.xa_branch.specs.Branches.{is_known, off_row}
use Rattle.xa_branch.specs.Names.{same}
use Rattle.xa_assoc.specs.declared.states.States.{States}
use Rattle.xa_assoc.specs.Answers.{AnswersCall, Checked, DoesCall, EndsWork, TablesFinish, RefusesCall, SameStates, TakesTableRow, Wanted, is_held, state_at}
use Rattle.xa_assoc.specs.Ready.{finish_refusal, has_rows, is_closed, is_work, is_work_verb, judged, ready, unless_refused}

-- Which calls a verb makes.

none_refused : (b : Bool) (o : Option Call) (c : Call)
    → (if b then Err code.Inval else refused_async o) ≡ Ok c → ⊥
none_refused true o c h = absurd cc
none_refused false None c h = absurd cc
none_refused false (Some d) c h = absurd cc

refused_none : (v : Verb) (flags : ℕ) (c : Call) → refused v flags ≡ Ok c → ⊥
refused_none verb.Recover flags c h = absurd cc
refused_none verb.Open flags c h = none_refused (nat_lt flags async) (call_of verb.Open (flags - async)) c h
refused_none verb.Close flags c h = none_refused (nat_lt flags async) (call_of verb.Close (flags - async)) c h
refused_none verb.Start flags c h = none_refused (nat_lt flags async) (call_of verb.Start (flags - async)) c h
refused_none verb.End flags c h = none_refused (nat_lt flags async) (call_of verb.End (flags - async)) c h
refused_none verb.Prepare flags c h = none_refused (nat_lt flags async)
    (call_of verb.Prepare (flags - async)) c h
refused_none verb.Commit flags c h = none_refused (nat_lt flags async)
    (call_of verb.Commit (flags - async)) c h
refused_none verb.Rollback flags c h = none_refused (nat_lt flags async)
    (call_of verb.Rollback (flags - async)) c h
refused_none verb.Forget flags c h = none_refused (nat_lt flags async)
    (call_of verb.Forget (flags - async)) c h

ok_is : (d c : Call) (r : Result Call Code) → call_or (Some d) r ≡ Ok c → d ≡ c
ok_is d c r h = cc

one_call : (b : Bool) (d c : Call) (o : Option Call) (r : Result Call Code) (w : Bool) → is_work d ≡ w
    → (call_or o r ≡ Ok c → is_work c ≡ w)
    → call_or (if b then Some d else o) r ≡ Ok c → is_work c ≡ w
one_call true d c o r w is rest h = ap is_work (sym (ok_is d c r h)) ∙ is
one_call false d c o r w is rest h = rest h

last : (c : Call) (v : Verb) (flags : ℕ) (w : Bool) → call_or None (refused v flags) ≡ Ok c → is_work c ≡ w
last c v flags w h = absurd (refused_none v flags c h)

-- a verb and its flags make a start or an end exactly where the verb is one
pub works_as : (v : Verb) (flags : ℕ) (c : Call) → legal v flags ≡ Ok c → is_work c ≡ is_work_verb v
works_as verb.Open flags c h = one_call (flags == none) call.Open c None (refused verb.Open flags) false refl
    (last c verb.Open flags false) h
works_as verb.Close flags c h = one_call (flags == none) call.Close c None
    (refused verb.Close flags) false refl (last c verb.Close flags false) h
works_as verb.Prepare flags c h = one_call (flags == none) call.Prepare c None
    (refused verb.Prepare flags) false refl (last c verb.Prepare flags false) h
works_as verb.Rollback flags c h = one_call (flags == none) call.Rollback c None
    (refused verb.Rollback flags) false refl (last c verb.Rollback flags false) h
works_as verb.Forget flags c h = one_call (flags == none) call.Forget c None
    (refused verb.Forget flags) false refl (last c verb.Forget flags false) h
works_as verb.Start flags c h =
    let r = refused verb.Start flags in
    one_call (flags == none || flags == no_wait) call.Start c _ r true refl
    (one_call (flags == join || flags == join + no_wait) call.StartJoin c _ r true refl
    (one_call (flags == resume || flags == resume + no_wait) call.StartResume c None r true refl
    (last c verb.Start flags true))) h
works_as verb.End flags c h =
    let r = refused verb.End flags in
    one_call (flags == suspend) call.EndSuspend c _ r true refl
    (one_call (flags == suspend + migrate) call.EndMigrate c _ r true refl
    (one_call (flags == success) call.EndSuccess c _ r true refl
    (one_call (flags == fail) call.EndFail c None r true refl (last c verb.End flags true)))) h
works_as verb.Commit flags c h =
    let r = refused verb.Commit flags in
    one_call (flags == none || flags == no_wait) call.Commit c _ r false refl
    (one_call (flags == one_phase || flags == one_phase + no_wait) call.CommitOnePhase c None r false refl
    (last c verb.Commit flags false)) h
works_as verb.Recover flags c h =
    let r = refused verb.Recover flags in
    one_call (flags == none) call.Recover c _ r false refl
    (one_call (flags == start_scan) call.RecoverStart c _ r false refl
    (one_call (flags == end_scan) call.RecoverEnd c _ r false refl
    (one_call (flags == start_scan + end_scan) call.RecoverWhole c None r false refl
    (last c verb.Recover flags false)))) h

-- legal flags, and the checks after them
pub answered : (wanted : Wanted) (old new : States) (v : Verb) (t : ℕ) (x : Xid) (flags : ℕ) (c : Call)
    (answer : Code) → legal v flags ≡ Ok c
    → Checked wanted old new c t x answer → AnswersCall wanted old new v t x flags answer
answered wanted old new v t x flags c answer e checked =
    subst (λ (r : Result Call Code). MatchResult r (λ d. Checked wanted old new d t x answer)
    (λ refusal. RefusesCall old new answer refusal)) (sym e) checked

-- a start or an end that is none of these six is an end TMFAIL
pub fails : (wanted : Wanted) (old new : States) (c : Call) (t : ℕ) (x : Xid) (answer : Code)
    → is_work c ≡ true
    → c ≢ call.Start → c ≢ call.StartJoin → c ≢ call.StartResume → c ≢ call.EndSuspend → c ≢ call.EndMigrate
    → c ≢ call.EndSuccess
    → EndsWork old new t x false answer → DoesCall wanted old new c t x answer
fails wanted old new call.Start t x answer w s1 s2 s3 s4 s5 s6 f = absurd (s1 refl)
fails wanted old new call.StartJoin t x answer w s1 s2 s3 s4 s5 s6 f = absurd (s2 refl)
fails wanted old new call.StartResume t x answer w s1 s2 s3 s4 s5 s6 f = absurd (s3 refl)
fails wanted old new call.EndSuspend t x answer w s1 s2 s3 s4 s5 s6 f = absurd (s4 refl)
fails wanted old new call.EndMigrate t x answer w s1 s2 s3 s4 s5 s6 f = absurd (s5 refl)
fails wanted old new call.EndSuccess t x answer w s1 s2 s3 s4 s5 s6 f = absurd (s6 refl)
fails wanted old new call.EndFail t x answer w s1 s2 s3 s4 s5 s6 f = f
fails wanted old new _ t x answer w s1 s2 s3 s4 s5 s6 f = absurd cc

-- a call that is neither a start nor an end
finishes : (wanted : Wanted) (old new : States) (c : Call) (t : ℕ) (x : Xid) (answer : Code)
    → is_work c ≡ false
    → TablesFinish old new x c (wanted c) answer → DoesCall wanted old new c t x answer
finishes wanted old new call.Start t x answer w f = absurd cc
finishes wanted old new call.StartJoin t x answer w f = absurd cc
finishes wanted old new call.StartResume t x answer w f = absurd cc
finishes wanted old new call.EndSuspend t x answer w f = absurd cc
finishes wanted old new call.EndMigrate t x answer w f = absurd cc
finishes wanted old new call.EndSuccess t x answer w f = absurd cc
finishes wanted old new call.EndFail t x answer w f = absurd cc
finishes wanted old new _ t x answer w f = f

pub off_is : (c : Call) → is_work c ≡ false → off_row c ≡ code.Proto
off_is call.Start w = absurd cc
off_is _ w = refl

-- The four checks.

abbrev by_checks : Bool → Bool → Bool → Bool → Option Code
by_checks closed null known out =
    if closed then Some code.Proto else if null then Some code.Inval else if not known then Some code.NotA
    else if out then Some code.Proto else None

-- no check applies
pub record Passes (closed null listed out : Bool) : Type 0 where
  pub opened : closed ≡ false
  pub named : null ≡ false
  pub known : listed ≡ true
  pub free : out ≡ false

passes : (closed null known out : Bool) → by_checks closed null known out ≡ None
    → Passes closed null known out
passes true null known out h = absurd cc
passes false true known out h = absurd cc
passes false false false out h = absurd cc
passes false false true true h = absurd cc
passes false false true false h = record { opened = refl; named = refl; known = refl; free = refl }

by_closed : (closed null known out : Bool) (e : Code) → closed ≡ true
    → by_checks closed null known out ≡ Some e → e ≡ code.Proto
by_closed true null known out e c h = cc
by_closed false null known out e c h = absurd cc

by_null : (closed null known out : Bool) (e : Code) → closed ≡ false → null ≡ true
    → by_checks closed null known out ≡ Some e → e ≡ code.Inval
by_null false true known out e c n h = cc
by_null true null known out e c n h = absurd cc
by_null false false known out e c n h = absurd cc

by_unknown : (closed null known out : Bool) (e : Code) → closed ≡ false → null ≡ false → known ≡ false
    → by_checks closed null known out ≡ Some e → e ≡ code.NotA
by_unknown false false false out e c n k h = cc
by_unknown true null known out e c n k h = absurd cc
by_unknown false true known out e c n k h = absurd cc
by_unknown false false true out e c n k h = absurd cc

by_out : (closed null known out : Bool) (e : Code) → closed ≡ false → null ≡ false → known ≡ true
    → by_checks closed null known out ≡ Some e → (e ≡ code.Proto) × (out ≡ true)
by_out false false true true e c n k h = (cc, refl)
by_out false false true false e c n k h = absurd cc
by_out true null known out e c n k h = absurd cc
by_out false true known out e c n k h = absurd cc
by_out false false false out e c n k h = absurd cc

opened_is : (i : InitState) → is_closed i ≡ false → i ≡ R1
opened_is R1 h = refl
opened_is R0 h = absurd cc

named_by : (x : Xid) (b : Bool) → same x null_xid ≡ b → (x ≡ null_xid → ⊥) → b ≡ false
named_by x true e h = absurd (h (same_is x null_xid e))
named_by x false e h = refl

other_name : (x : Xid) → same x null_xid ≡ false → x ≡ null_xid → ⊥
other_name x h e =
    let f : same null_xid null_xid ≡ false = subst (λ z. same z null_xid ≡ false) e h in
    absurd (true_is_not_false (sym (same_refl null_xid) ∙ f))
  where
    true_is_not_false : true ≡ false → ⊥
    true_is_not_false h = cc

null_name : (x : Xid) → x ≡ null_xid → same x null_xid ≡ true
null_name x e = subst (λ z. same z null_xid ≡ true) (sym e) (same_refl null_xid)

contains_has : (rows : List (Code × BranchState)) (row : Code × BranchState) → Contains rows row
    → has_rows rows ≡ true
contains_has [] row h = absurd (let lt = h.1 in omega arith)
contains_has (r ∷ rows) row h = refl

held_out : (held has : Bool) → (held || not has) ≡ false → held ≡ false
held_out false has h = refl
held_out true has h = absurd cc

none_out : (held has : Bool) → held ≡ false → has ≡ true → (held || not has) ≡ true → ⊥
none_out false true h k l = absurd cc
none_out true has h k l = absurd cc
none_out false false h k l = absurd cc

-- what `ready` lets through
pub record Passed (m : States) (v : Verb) (x : Xid) (flags : ℕ) (c : Call) : Type 0 where
  pub by_flags : legal v flags ≡ Ok c
  pub passes : Passes (is_closed m.init) (same x null_xid) (is_known m.branches.branches x)
      (is_held m.associations x || not (has_rows (branch_rows (state_at m x) c)))

passed_by : (m : States) (v : Verb) (x : Xid) (flags : ℕ) (c d : Call) (o : Option Code)
    → legal v flags ≡ Ok d → finish_refusal m d x ≡ o
    → unless_refused o d ≡ Ok c → Passed m v x flags c
passed_by m v x flags c d (Some e) l is h = absurd cc
passed_by m v x flags c d None l is h =
    let same_call : d ≡ c = cc in
    subst (λ (k : Call). Passed m v x flags k) same_call (record { by_flags = l; passes = passes _ _ _ _ is })

judged_ok : (m : States) (v : Verb) (x : Xid) (flags : ℕ) (c : Call) (l : Result Call Code)
    → legal v flags ≡ l → judged m x l ≡ Ok c → Passed m v x flags c
judged_ok m v x flags c (Ok d) is h = passed_by m v x flags c d (finish_refusal m d x) is refl h
judged_ok m v x flags c (Err e) is h = absurd cc

pub passed : (m : States) (v : Verb) (x : Xid) (flags : ℕ) (c : Call) → ready m v x flags ≡ Ok c
    → Passed m v x flags c
passed m v x flags c h = judged_ok m v x flags c (legal v flags) refl h

-- a call that `ready` lets through answers by the row that its manager wants, where the table has it
pub finishing : (wanted : Wanted) (old new : States) (v : Verb) (t : ℕ) (x : Xid) (flags : ℕ) (c : Call)
    (answer : Code) → is_work_verb v ≡ false → ready old v x flags ≡ Ok c
    → (Contains (branch_rows (state_at old x) c) (wanted c)
    → (answer ≡ (wanted c).0) × TakesTableRow old new x (wanted c).1)
    → ((Contains (branch_rows (state_at old x) c) (wanted c) → ⊥) → RefusesCall old new answer (off_row c))
    → AnswersCall wanted old new v t x flags answer
finishing wanted old new v t x flags c answer w is made off =
    let p = passed old v x flags c is in
    let q = p.passes in
    answered wanted old new v t x flags c answer p.by_flags (record {
      closed = λ r. absurd (let f : true ≡ false = sym (ap is_closed r) ∙ q.opened in cc);
      null = λ r e. absurd (other_name x q.named e);
      does = λ r e. finishes wanted old new c t x answer (works_as v flags c p.by_flags ∙ w) (record {
        unknown = λ k. absurd (let f : true ≡ false = sym q.known ∙ k in cc);
        held = λ k h. absurd (let f : true ≡ false = sym h ∙ held_out _ _ q.free in cc);
        row = λ k h r. made r;
        off = λ k h n. off n;
      });
    })

-- a call that takes its manager's row, which the table has
pub finished : (wanted : Wanted) (old new : States) (v : Verb) (t : ℕ) (x : Xid) (flags : ℕ) (c : Call)
    → is_work_verb v ≡ false → ready old v x flags ≡ Ok c
    → Contains (branch_rows (state_at old x) c) (wanted c) → TakesTableRow old new x (wanted c).1
    → AnswersCall wanted old new v t x flags (wanted c).0
finished wanted old new v t x flags c w is listed takes =
    finishing wanted old new v t x flags c (wanted c).0 w is (λ r. (refl, takes)) (λ n. absurd (n listed))

checked : (wanted : Wanted) (old new : States) (t : ℕ) (x : Xid) (c : Call) (e : Code) → is_work c ≡ false
    → finish_refusal old c x ≡ Some e → SameStates old new
    → Checked wanted old new c t x e
checked wanted old new t x c e w is stays = record {
  closed = λ r. (by_closed _ _ _ _ e (ap is_closed r) is, stays);
  null = λ r n. (by_null _ _ _ _ e (ap is_closed r) (null_name x n) is, stays);
  does = λ r n. let named = named_by x (same x null_xid) refl n in
      let opened = ap is_closed r in
      finishes wanted old new c t x e w (record {
        unknown = λ k. (by_unknown _ _ _ _ e opened named k is, stays);
        held = λ k h. let out = by_out _ _ _ _ e opened named k is in (out.0, stays);
        row = λ k h l. absurd
            (let out = by_out _ _ _ _ e opened named k is in none_out _ _ h
            (contains_has _ (wanted c) l) out.1);
        off = λ k h l. let out = by_out _ _ _ _ e opened named k is in (out.0 ∙ sym (off_is c w), stays);
      });
}

refused_by : (wanted : Wanted) (old new : States) (v : Verb) (t : ℕ) (x : Xid) (flags : ℕ) (c : Call)
    (e : Code) (o : Option Code) → is_work_verb v ≡ false → legal v flags ≡ Ok c
    → finish_refusal old c x ≡ o → unless_refused o c ≡ Err e → SameStates old new
    → AnswersCall wanted old new v t x flags e
refused_by wanted old new v t x flags c e None w l is h stays = absurd cc
refused_by wanted old new v t x flags c e (Some d) w l is h stays =
    let one : d ≡ e = cc in
    answered wanted old new v t x flags c e l
    (checked wanted old new t x c e (works_as v flags c l ∙ w) (is ∙ ap (λ (k : Code). Some k) one) stays)

judged_err : (wanted : Wanted) (old new : States) (v : Verb) (t : ℕ) (x : Xid) (flags : ℕ) (e : Code)
    (l : Result Call Code) → is_work_verb v ≡ false → legal v flags ≡ l
    → judged old x l ≡ Err e → SameStates old new → AnswersCall wanted old new v t x flags e
judged_err wanted old new v t x flags e (Ok c) w is h stays =
    refused_by wanted old new v t x flags c e (finish_refusal old c x) w is refl h stays
judged_err wanted old new v t x flags e (Err d) w is h stays =
    let one : e ≡ d = cc in
    subst (λ (r : Result Call Code). MatchResult r (λ c. Checked wanted old new c t x e)
    (λ refusal. RefusesCall old new e refusal)) (sym is) (one, stays)

-- a call that `ready` refuses answers so, and changes nothing
pub refused_call : (wanted : Wanted) (old new : States) (v : Verb) (t : ℕ) (x : Xid) (flags : ℕ) (e : Code)
    → is_work_verb v ≡ false → ready old v x flags ≡ Err e
    → SameStates old new → AnswersCall wanted old new v t x flags e
refused_call wanted old new v t x flags e w h stays =
    judged_err wanted old new v t x flags e (legal v flags) w refl h stays
