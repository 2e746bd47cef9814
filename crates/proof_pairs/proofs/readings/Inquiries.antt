-- Which inquiries a manager's restart sends.
use Rattle.std.proofs.Common.{◌≡◌, ◌⊎◌, inl, inr, ◌∙◌, Bool, true, false, ◌||◌, ◌&&◌, if◌then◌else◌, Option, Some, None, List, [], ◌∷◌, ◌++◌, fold, refl, sym, ap, arith}
use Rattle.std.specs.List.{list_any, flat_map}
use Rattle.std.proofs.lemmas.List.Folds.{list_any-append}
use Rattle.protocol.specs.declared.names.Case.{Case}
use Rattle.protocol.specs.declared.names.ProcessId.{ProcessId}
use Rattle.protocol.specs.declared.messages.Message.{Message}
use Rattle.protocol.specs.declared.messages.Message.TheVariants.{Inquire}
use Rattle.protocol.specs.declared.messages.Envelope.{Envelope}
use Rattle.protocol.specs.declared.records.Record.{Record}
use Rattle.protocol.specs.declared.records.Record.TheVariants.{Opened, Collecting, Prepare, Commit, Abort, End, Prepared, Committed, RolledBack, Direct, HeurCommit, HeurRollback, Told, Forgot, Base, Pair, Cleared}
use Rattle.protocol.specs.declared.records.BranchName.TheVariants.{Foreign}
use Rattle.protocol_words.specs.Variants.{CaseBranch}
use Rattle.protocol.specs.Names.{same_case}
use Rattle.protocol.specs.NameLaws.{names}
use Rattle.protocol.specs.Records.{has, has_case, with_case, with_record, cases_in, record_case}
use Rattle.protocol.specs.Memory.{fresh_memory}
use Rattle.protocol.specs.Standings.{Mark, Unmarked, Promised, Decided, ToldOf, Finished, mark_of, marked_branch}
use Rattle.protocol.specs.Restarts.{recorded_branch, manager_resumes, inquires_by}
use Rattle.protocol.specs.Outcomes.{sent}
use Rattle.protocol.specs.Audits.{is_promise}
use Rattle.proof_pairs.specs.readings.ReadingOf.{is_inquiry_message}
use Rattle.proof_pairs.specs.readings.Steps.{asks_by}

-- A promise's case is among the cases of the log.

pushed : (cs : List Case) (c d : Case) (b : Bool) → has_case cs d ≡ true
    → has_case (if b then cs else cs ++ c ∷ []) d ≡ true
unfolding has_case
pushed cs c d true e = e
pushed cs c d false e = grind (arith, list_any-append)

pub has_case-more : (cs : List Case) (o : Option Case) (d : Case) → has_case cs d ≡ true
    → has_case (with_case cs o) d ≡ true
has_case-more cs None d e = e
has_case-more cs (Some c) d e = pushed cs c d (has_case cs c) e

pub found : (cs : List Case) (c d : Case) (b : Bool) → has_case cs c ≡ b → c ≡ d
    → has_case (if b then cs else cs ++ c ∷ []) d ≡ true
unfolding has_case
found cs c d true e same = ap (λ x. list_any (λ a. same_case a x) cs) (sym same) ∙ e
found cs c d false e same = grind (arith, list_any-append, names)

case_same : (c d : Case) → same_case c d ≡ true → c ≡ d
case_same c d e = grind (arith, names)

or-end : (a : Bool) → (a || false) ≡ true → a ≡ true
or-end a e = grind arith

promise_adds : (cs : List Case) (r : Record) (d : Case) → is_promise d r ≡ true
    → has_case (with_record cs r) d ≡ true
promise_adds cs (Prepared (CaseBranch c) ws) d e = found cs c d (has_case cs c) refl
    (case_same c d (or-end (same_case c d) e))
promise_adds cs (Prepared (Foreign x) ws) d e = absurd (cc)
promise_adds cs (Prepare c ts) d e = found cs c d (has_case cs c) refl (case_same c d e)
promise_adds cs (Opened n) d e = absurd (cc)
promise_adds cs (Collecting c ts) d e = absurd (cc)
promise_adds cs (Commit c ts) d e = absurd (cc)
promise_adds cs (Abort c ts) d e = absurd (cc)
promise_adds cs (End c r) d e = absurd (cc)
promise_adds cs (Cleared c) d e = absurd (cc)
promise_adds cs (Committed b) d e = absurd (cc)
promise_adds cs (RolledBack b) d e = absurd (cc)
promise_adds cs (Direct b ws) d e = absurd (cc)
promise_adds cs (HeurCommit b) d e = absurd (cc)
promise_adds cs (HeurRollback b) d e = absurd (cc)
promise_adds cs (Told b o) d e = absurd (cc)
promise_adds cs (Forgot b) d e = absurd (cc)
promise_adds cs (Base n) d e = absurd (cc)
promise_adds cs (Pair k v) d e = absurd (cc)

or-split : (a b : Bool) → (a || b) ≡ true → (a ≡ true) ⊎ (b ≡ true)
or-split a b e = grind arith

cases_hold : (rs : List Record) (cs : List Case) (d : Case)
    → (has_case cs d ≡ true) ⊎ (has (is_promise d) rs ≡ true) → has_case (fold with_record cs rs) d ≡ true
unfolding has
cases_hold [] cs d (inl e) = e
cases_hold [] cs d (inr e) = absurd (cc)
cases_hold (r ∷ rs) cs d (inl e) = cases_hold rs (with_record cs r) d
    (inl (has_case-more cs (record_case r) d e))
cases_hold (r ∷ rs) cs d (inr e) =
    elim (or-split (is_promise d r) (list_any (is_promise d) rs) e) [
      | inl h ↦ cases_hold rs (with_record cs r) d (inl (promise_adds cs r d h))
      | inr h ↦ cases_hold rs
          (with_record cs r) d (inr h)
    ]

pub promised_case : (rs : List Record) (d : Case) → has (is_promise d) rs ≡ true
    → has_case (cases_in rs) d ≡ true
unfolding cases_in
promised_case rs d e = cases_hold rs [] d (inr e)

-- What is sent for each case.

sent-flat : (q : Message → Bool) (f : Case → List Envelope) (cs : List Case)
    → sent q (flat_map f cs) ≡ list_any (λ c. sent q (f c)) cs
unfolding sent
sent-flat q f [] = refl
sent-flat q f (c ∷ cs) = list_any-append (λ (e : Envelope). q e.message) (f c) (flat_map f cs)
    ∙ ap (λ b. sent q (f c) || b) (sent-flat q f cs)

and-end : (a : Bool) → false ≡ (a && false)
and-end a = grind arith

both-ends : (a : Bool) → (a || false) ≡ (a && true)
both-ends a = grind arith

asked_by : (me p : ProcessId) (c d : Case) (m : Mark)
    → sent (is_inquiry_message d) (inquires_by me p c (marked_branch fresh_memory m)
    (marked_branch fresh_memory m).standing) ≡ (same_case c d && asks_by m)
unfolding sent
asked_by me p c d Unmarked = and-end (same_case c d)
asked_by me p c d Promised = both-ends (same_case c d)
asked_by me p c d Decided = both-ends (same_case c d)
asked_by me p c d (ToldOf o) = and-end (same_case c d)
asked_by me p c d Finished = and-end (same_case c d)

quiet_by : (me p : ProcessId) (c : Case) (q : Message → Bool) (m : Mark) → q (Inquire c) ≡ false
    → sent q (inquires_by me p c (marked_branch fresh_memory m) (marked_branch fresh_memory m).standing) ≡
    false
unfolding sent
quiet_by me p c q Unmarked e = refl
quiet_by me p c q Promised e = ap (λ b. b || false) e
quiet_by me p c q Decided e = ap (λ b. b || false) e
quiet_by me p c q (ToldOf o) e = refl
quiet_by me p c q Finished e = refl

asked_case : (me p : ProcessId) (rs : List Record) (c d : Case)
    → sent (is_inquiry_message d) (manager_resumes me p rs c) ≡
    (same_case c d && asks_by (mark_of (CaseBranch c) rs))
unfolding recorded_branch
asked_case me p rs c d = asked_by me p c d (mark_of (CaseBranch c) rs)

quiet_case : (me p : ProcessId) (rs : List Record) (c : Case) (q : Message → Bool) → q (Inquire c) ≡ false
    → sent q (manager_resumes me p rs c) ≡ false
unfolding recorded_branch
quiet_case me p rs c q e = quiet_by me p c q (mark_of (CaseBranch c) rs) e

-- no other test finds an inquiry
pub quiet_restart : (me p : ProcessId) (rs : List Record) (cs : List Case) (q : Message → Bool)
    → ((c : Case) → q (Inquire c) ≡ false) → sent q (flat_map (manager_resumes me p rs) cs) ≡ false
unfolding sent
quiet_restart me p rs [] q f = refl
quiet_restart me p rs (c ∷ cs) q f = list_any-append (λ (e : Envelope). q e.message)
    (manager_resumes me p rs c) (flat_map (manager_resumes me p rs) cs)
    ∙ (ap (λ b. b || list_any (λ (e : Envelope). q e.message) (flat_map (manager_resumes me p rs) cs))
    (quiet_case me p rs c q (f c)) ∙ quiet_restart me p rs cs q f)

one_case : (b q r : Bool) (c d : Case) (rs : List Record) → same_case c d ≡ q
    → b ≡ asks_by (mark_of (CaseBranch d) rs)
    → ((q && asks_by (mark_of (CaseBranch c) rs)) || (r && b)) ≡ ((q || r) && b)
one_case b q r c d rs e f = grind (arith, names)

asked_cases : (me p : ProcessId) (rs : List Record) (cs : List Case) (d : Case)
    → list_any (λ c. sent (is_inquiry_message d) (manager_resumes me p rs c)) cs ≡
    (has_case cs d && asks_by (mark_of (CaseBranch d) rs))
unfolding has_case
asked_cases me p rs [] d = refl
asked_cases me p rs (c ∷ cs) d =
    ap (λ b. b || list_any (λ a. sent (is_inquiry_message d) (manager_resumes me p rs a)) cs)
    (asked_case me p rs c d)
    ∙ (ap (λ b. (same_case c d && asks_by (mark_of (CaseBranch c) rs)) || b) (asked_cases me p rs cs d)
    ∙ one_case (asks_by (mark_of (CaseBranch d) rs)) (same_case c d) (list_any (λ a. same_case a d) cs) c d
    rs refl refl)

-- the inquiry of the case is sent exactly where its last record asks
pub asked_restart : (me p : ProcessId) (rs : List Record) (d : Case)
    → sent (is_inquiry_message d) (flat_map (manager_resumes me p rs) (cases_in rs)) ≡
    (has_case (cases_in rs) d && asks_by (mark_of (CaseBranch d) rs))
asked_restart me p rs d = sent-flat (is_inquiry_message d) (manager_resumes me p rs) (cases_in rs)
    ∙ asked_cases me p rs (cases_in rs) d
