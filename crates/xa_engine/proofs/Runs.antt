-- One request more.
use Rattle.std.proofs.Common.{◌≡◌, ℕ, List, [], ◌∷◌, ◌++◌, Result, Ok, Err, refl, ap, sym, ◌∙◌, subst, append_assoc}
use Rattle.std.specs.Prelude.{IfOk, MatchResult}
use Rattle.std.specs.List.{flat_map}
use Rattle.std.proofs.lemmas.List.{append-nil}
use Rattle.xa_codes.specs.declared.code.Code.{Code}
use Rattle.xa_words.specs.verb
use Rattle.xa_xid.specs.declared.xid.Xid.{Xid}
use Rattle.kv_manager.specs.Sights.{KvSight}
use Rattle.xa_engine.specs.declared.script.request.BranchCall.{BranchCall}
use Rattle.xa_engine.specs.declared.script.request.BranchCall.TheVariants.{Start, End}
use Rattle.xa_engine.specs.declared.script.request.Request.{Request}
use Rattle.xa_engine.specs.declared.answer.RequestAnswer.{RequestAnswer}
use Rattle.xa_engine.specs.Answers.{answer_text}
use Rattle.xa_engine.specs.Makes.{CallsBranch, RequestJoins, RequestMakes}
use Rattle.xa_engine.specs.Runs.{IsFreshManager, IsSoundManager, RequestsLead, Reports, Runs}
use Rattle.xa_engine.specs.script.Scripts.{IsFirstBadLine, SpellEach, call_lines}

pub leads_more : (m k n : KvSight) (rs : List Request) (r : Request) (given : List RequestAnswer)
    (a : RequestAnswer)
    → RequestsLead m rs given k → RequestMakes k n r a → IsSoundManager n
    → RequestsLead m (rs ++ r ∷ []) (given ++ a ∷ []) n
leads_more m k n [] r [] a e makes sound =
    (n, e.1, subst (λ (j : KvSight). RequestMakes j n r a) (sym e.0) makes, (refl, sound))
leads_more m k n [] r (b ∷ given) a e makes sound = absurd e
leads_more m k n (s ∷ rs) r [] a e makes sound = absurd e
leads_more m k n (s ∷ rs) r (b ∷ given) a e makes sound =
    (e.0, e.1, e.2, leads_more e.0 k n rs r given a e.3 makes sound)

pub text_more : (given : List RequestAnswer) (a : RequestAnswer)
    → flat_map answer_text (given ++ a ∷ []) ≡ flat_map answer_text given ++ answer_text a
text_more [] a = append-nil (answer_text a)
text_more (b ∷ given) a = ap (λ t. answer_text b ++ t) (text_more given a)
    ∙ sym (append_assoc (answer_text b) (flat_map answer_text given) (answer_text a))

-- a run from a new manager on is a report
pub reports : {A E : Type 0} (m n : KvSight) (ls : List (List ℕ)) (text : A → List ℕ)
    (r : Result (Result A ℕ) E)
    → IsFreshManager m
    → IfOk r (λ read. MatchResult read
    (λ a. (rs : List Request) × SpellEach (call_lines ls) rs × Runs m n rs (text a))
    (λ k. IsFirstBadLine ls k))
    → IfOk r (λ read. MatchResult read
    (λ a. (rs : List Request) × SpellEach (call_lines ls) rs × Reports rs (text a))
    (λ k. IsFirstBadLine ls k))
reports m n ls text (Ok (Ok a)) fresh h =
    (h.0, h.1, record { old = m; new = n; fresh = fresh; runs = h.2 })
reports m n ls text (Ok (Err k)) fresh h = h
reports m n ls text (Err e) fresh h = tt

-- a start and an end are calls on a branch
pub calls_start : {E : Type 0} (f : BranchCall) (old new : KvSight) (t : ℕ)
    (x : Xid) (flags : ℕ) (r : Result Code E) → f ≡ Start
    → IfOk r (λ c. RequestJoins verb.Start old new t x flags c)
    → IfOk r (λ c. CallsBranch f old new t x flags c)
calls_start f old new t x flags (Ok c) is h =
    subst (λ (g : BranchCall). CallsBranch g old new t x flags c) (sym is) h
calls_start f old new t x flags (Err e) is h = tt

pub calls_end : {E : Type 0} (f : BranchCall) (old new : KvSight) (t : ℕ) (x : Xid) (flags : ℕ)
    (r : Result Code E) → f ≡ End → IfOk r (λ c. RequestJoins verb.End old new t x flags c)
    → IfOk r (λ c. CallsBranch f old new t x flags c)
calls_end f old new t x flags (Ok c) is h = subst
    (λ (g : BranchCall). CallsBranch g old new t x flags c) (sym is) h
calls_end f old new t x flags (Err e) is h = tt
