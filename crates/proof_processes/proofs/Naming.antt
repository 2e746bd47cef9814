-- Whom a coordinator's records name was accepted.
use Rattle.std.proofs.Common.{◌≡◌, ◌∙◌, ◌&&◌, ◌||◌, ◌⊎◌, inl, inr, ◌+◌, Bool, true, false, Option, List, [], ◌∷◌, ◌++◌, refl, sym, ap, subst, arith, if◌then◌else◌}
use Rattle.std.specs.Prelude.{filter}
use Rattle.std.specs.List.{flat_map}
use Rattle.std.proofs.lemmas.List.Folds.{list_any-append}
use Rattle.protocol.specs.declared.names.Case.{Case}
use Rattle.protocol.specs.declared.names.ProcessId.{ProcessId}
use Rattle.protocol.specs.declared.names.Ticket.{Ticket}
use Rattle.protocol.specs.declared.names.Presumption.TheVariants.{PresumeAbort, PresumeCommit}
use Rattle.protocol.specs.declared.records.Record.{Record}
use Rattle.protocol.specs.declared.records.Record.TheVariants.{Opened}
use Rattle.protocol_words.specs.Variants.{AbortRecord, CollectingRecord, CommitRecord, PrepareRecord}
use Rattle.protocol.specs.declared.standings.Standing.{Standing}
use Rattle.protocol.specs.declared.standings.Standing.TheVariants.{Unknown, Active, Collecting, Prepared, Committing, Aborting, Heuristic}
use Rattle.protocol.specs.declared.standings.Vote.{Vote}
use Rattle.protocol.specs.declared.trees.TreeProcess.{TreeProcess}
use Rattle.protocol.specs.Names.{same_case, same_ticket}
use Rattle.protocol.specs.Records.{has, in_list, named_in, named_by, promised_in, promised_by, cases_in, boot_of}
use Rattle.protocol.specs.Nodes.{AtRoot, Place, Node, kept, Heard, Effect, entries_written}
use Rattle.protocol.specs.Memory.{memory_of, yes_of, undecided_of}
use Rattle.protocol.specs.Standings.{CoordinatorView, coordinator_view, coordinator_standing, view_at}
use Rattle.protocol.specs.Memory.{fresh_memory}
use Rattle.protocol.specs.CoordinatorRows.{Row}
use Rattle.protocol.specs.Outcomes.{has_accepted}
use Rattle.protocol.specs.Restarts.{recorded_view, restart_abort, aborts_collecting, reopens}
use Rattle.proof_model.proofs.StandingLaws.{view_standing}
use Rattle.proof_pairs.specs.turns.CoordinatorTurns.{CaseTurn, rests, invites, accepts, sends_work, finds_nobody, asks_for_votes, gives_up, counts_vote, reads_only, commits, promises, hears_no, aborts, passes_commit, passes_abort, repeats_yes, asks, refuses, acknowledges, waits_for_acks, ends, clears, answers, CoordinatorTurn, does_nothing, of_case, begins, gives_again, gives_fresh, presumes}
use Rattle.protocol.specs.Audits.{is_naming}
use Rattle.proof_processes.proofs.Tests.{either, left, right, both, has-cons, in_either, case_is}
use Rattle.proof_processes.proofs.CoordinatorPhases.{active_accepted, collecting_accepted, prepared_promised}
use Rattle.proof_processes.proofs.Remembering.{coordinator_place}

-- Lists of tickets.

pub in_filtered : (f : Ticket → Bool) (ts : List Ticket) (t : Ticket) → in_list (filter f ts) t ≡ true
    → in_list ts t ≡ true
unfolding in_list
in_filtered f [] t e = e
in_filtered f (u ∷ ts) t e = by_test (f u) refl e (in_filtered f ts t)
  where
    by_test : (b : Bool) → f u ≡ b → in_list (filter f (u ∷ ts)) t ≡ true
        → (in_list (filter f ts) t ≡ true → in_list ts t ≡ true)
        → in_list (u ∷ ts) t ≡ true
    by_test true k g r = elim (either (same_ticket u t) (in_list (filter f ts) t) (kept_one k g)) [
      | inl now ↦ left (same_ticket u t) (in_list ts t) now
      | inr rest ↦ right (same_ticket u t) (in_list ts t) (r rest)
    ]
      where
        kept_one : f u ≡ true → in_list (filter f (u ∷ ts)) t ≡ true
            → (same_ticket u t || in_list (filter f ts) t) ≡ true
        kept_one j x = ap (λ b. in_list (if b then u ∷ filter f ts else filter f ts) t) (sym j) ∙ x
    by_test false k g r =
        right (same_ticket u t) (in_list ts t)
        (r (ap (λ b. in_list (if b then u ∷ filter f ts else filter f ts) t) (sym k) ∙ g))

pub in_yesses : (ts : List Ticket) (vs : List (Ticket × Vote)) (t : Ticket) → in_list (yes_of ts vs) t ≡ true
    → in_list ts t ≡ true
unfolding yes_of
in_yesses ts vs t e = in_filtered _ ts t e

pub in_undecided : (ts : List Ticket) (vs : List (Ticket × Vote)) (t : Ticket)
    → in_list (undecided_of ts vs) t ≡ true
    → in_list ts t ≡ true
unfolding undecided_of
in_undecided ts vs t e = in_filtered _ ts t e

pub in_nobody : {A : Type 0} → (t : Ticket) → in_list [] t ≡ true → A
unfolding in_list
in_nobody t e = absurd (cc)

-- What one record names.

module _ (c d : Case) (t : Ticket) (ts : List Ticket) where
  abbrev Tells : Type 0
  Tells = (same_case d c ≡ true) × (in_list ts t ≡ true)

  alone : (a : Bool) → (a || false) ≡ true → a ≡ true
  alone a e = grind arith

  collecting_tells : has (is_naming c t) (CollectingRecord d ts ∷ []) ≡ true → Tells
  unfolding has
  collecting_tells e = both (same_case d c) (in_list ts t) (alone _ (alone _ (alone _ e)))

  prepare_tells : has (is_naming c t) (PrepareRecord d ts ∷ []) ≡ true → Tells
  unfolding has
  prepare_tells e = both (same_case d c) (in_list ts t) (alone _ (alone _ e))

  commit_tells : has (is_naming c t) (CommitRecord d ts ∷ []) ≡ true → Tells
  unfolding has
  commit_tells e = both (same_case d c) (in_list ts t) (alone _ e)

  abort_tells : has (is_naming c t) (AbortRecord d ts ∷ []) ≡ true → Tells
  unfolding has
  abort_tells e = both (same_case d c) (in_list ts t) (alone _ e)

-- What a promise names.

named_so : (b : Bool) (ts : List Ticket) (t : Ticket) → in_list (if b then ts else []) t ≡ true
    → (b && in_list ts t) ≡ true
named_so true ts t e = e
named_so false ts t e = in_nobody t e

promise_names : (c : Case) (t : Ticket) (r : Record) → in_list (promised_in c r) t ≡ true → is_naming c t r
    ≡ true
promise_names c t (PrepareRecord d ts) e =
    left (same_case d c && in_list ts t) false (named_so (same_case d c) ts t e)
promise_names c t r e = in_nobody t e

in_both : (xs ys : List Ticket) (t : Ticket) → in_list (xs ++ ys) t ≡ true
    → (in_list xs t ≡ true) ⊎ (in_list ys t ≡ true)
unfolding in_list
in_both xs ys t e = either _ _ (sym (list_any-append _ xs ys) ∙ e)

pub promises_name : (c : Case) (t : Ticket) (rs : List Record) → in_list (promised_by c rs) t ≡ true
    → has (is_naming c t) rs ≡ true
unfolding promised_by
promises_name c t [] e = in_nobody t e
promises_name c t (r ∷ rs) e = elim (in_both (promised_in c r) (flat_map (promised_in c) rs) t e) [
  | inl now ↦ has-cons (is_naming c t) r rs ∙ left _ _ (promise_names c t r now)
  | inr rest ↦ has-cons (is_naming c t) r rs ∙ right _ _ (promises_name c t rs rest)
]

-- What a row's record names.

module _ (me : ProcessId) (parent : Option ProcessId) (tree : List TreeProcess) (n : Node) (h : Heard)
    (c : Case) (t : Ticket)
    (remembered : (d : Case) (u : Ticket)
    → in_list (memory_of (coordinator_place me parent tree) n d).accepted u ≡ true
    → has_accepted n d u ≡ true)
    (named : (d : Case) (u : Ticket) → has (is_naming d u) (kept n) ≡ true → has_accepted n d u ≡ true)
  where
    abbrev place : Place
    place = coordinator_place me parent tree

    -- who is promised, a record names
    promised_accepted : (d : Case) → (coordinator_view place n d).standing ≡ Prepared → same_case d c ≡ true
        → in_list (coordinator_view place n d).promised t ≡ true → has_accepted n c t ≡ true
    promised_accepted d s e g =
        subst (λ (x : Case). has_accepted n x t ≡ true) (case_is d c e)
        (named d t (promises_name d t (kept n)
        (ap (λ ts. in_list ts t) (sym (prepared_promised me parent tree n h d s)) ∙ g)))

    -- who is in the view of a case that takes votes, or children, was accepted
    viewed_accepted : (d : Case) (ts : List Ticket)
        → (coordinator_view place n d).accepted ≡ (memory_of place n d).accepted
        → same_case d c ≡ true → (in_list ts t ≡ true
        → in_list (coordinator_view place n d).accepted t ≡ true)
        → in_list ts t ≡ true → has_accepted n c t ≡ true
    viewed_accepted d ts a s f e =
        subst (λ (x : Case). has_accepted n x t ≡ true) (case_is d c s)
        (remembered d t (ap (λ us. in_list us t) (sym a) ∙ f e))

    abbrev Named : Row → Type 0
    Named row = has (is_naming c t) (entries_written row.written) ≡ true

    row_names : (d : Case) (row : Row) → CaseTurn (coordinator_place me parent tree) parent n h d row
        → Named row
        → has_accepted n c t ≡ true
    unfolding has
    row_names d _ (asks_for_votes PresumeCommit i e f g) k =
        let v = coordinator_view place n d in
        let s = collecting_tells c d t v.accepted k in
        viewed_accepted d v.accepted (active_accepted me parent tree n h d e) s.0 (λ x. x) s.1
    row_names d _ (commits u w ys PresumeAbort i e f g) k =
        let v = coordinator_view place n d in
        let s = commit_tells c d t ys k in
        viewed_accepted d ys (collecting_accepted me parent tree n h d i.vote.stands) s.0
        (λ x. in_yesses v.accepted _ t (ap (λ us. in_list us t) i.yes ∙ x)) s.1
    row_names d _ (commits u w ys PresumeCommit i e f g) k = in_nobody t (commit_tells c d t [] k).1
    row_names d _ (hears_no u us PresumeAbort i e f) k = in_nobody t (abort_tells c d t [] k).1
    row_names d _ (hears_no u us PresumeCommit i e f) k =
        let v = coordinator_view place n d in
        let s = abort_tells c d t us k in
        viewed_accepted d us (collecting_accepted me parent tree n h d i.stands) s.0
        (λ x. in_undecided v.accepted _ t (ap (λ ts. in_list ts t) e ∙ x)) s.1
    row_names d _ (aborts why us PresumeAbort i e f g) k = in_nobody t (abort_tells c d t [] k).1
    row_names d _ (aborts why us PresumeCommit i e f g) k =
        let v = coordinator_view place n d in
        let s = abort_tells c d t us k in
        viewed_accepted d us (collecting_accepted me parent tree n h d e) s.0
        (λ x. in_undecided v.accepted _ t (ap (λ ts. in_list ts t) f ∙ x)) s.1
    row_names d _ (rests r) k = absurd (cc)
    row_names d _ (invites p i e f g) k = absurd (cc)
    row_names d _ (accepts u i e f) k = absurd (cc)
    row_names d _ (sends_work p u op i e f g) k = absurd (cc)
    row_names d _ (finds_nobody i e f) k = absurd (cc)
    row_names d _ (asks_for_votes PresumeAbort i e f g) k = absurd (cc)
    row_names d _ (gives_up why p i e f) k = absurd (cc)
    row_names d _ (counts_vote u w i e f) k = absurd (cc)
    row_names d _ (reads_only u w ys PresumeAbort i e f) k = absurd (cc)
    row_names d _ (reads_only u w ys PresumeCommit i e f) k = absurd (cc)
    row_names d _ (promises u w ys p i e f) k =
        let v = coordinator_view place n d in
        let s = prepare_tells c d t ys k in
        viewed_accepted d ys (collecting_accepted me parent tree n h d i.vote.stands) s.0
        (λ x. in_yesses v.accepted _ t (ap (λ us. in_list us t) i.yes ∙ x)) s.1
    row_names d _ (passes_commit PresumeAbort i e f) k =
        let s = commit_tells c d t (coordinator_view place n d).promised k in promised_accepted d e s.0 s.1
    row_names d _ (passes_commit PresumeCommit i e f) k = in_nobody t (commit_tells c d t [] k).1
    row_names d _ (passes_abort PresumeAbort i e f) k = in_nobody t (abort_tells c d t [] k).1
    row_names d _ (passes_abort PresumeCommit i e f) k =
        let s = abort_tells c d t (coordinator_view place n d).promised k in promised_accepted d e s.0 s.1
    row_names d _ (repeats_yes j i e) k = absurd (cc)
    row_names d _ (asks i e) k = absurd (cc)
    row_names d _ (refuses j i e) k = absurd (cc)
    row_names d _ (acknowledges o fs i e) k = absurd (cc)
    row_names d _ (waits_for_acks u o fs i e f g) k = absurd (cc)
    row_names d _ (ends u o fs i e f g) k = absurd (cc)
    row_names d _ (clears i e f a) k = absurd (cc)
    row_names d _ (answers u o i e) k = absurd (cc)

    pub effect_names : (e : Effect) → CoordinatorTurn (coordinator_place me parent tree) parent n h e
        → has (is_naming c t) (entries_written e.written) ≡ true → has_accepted n c t ≡ true
    unfolding has
    effect_names _ (does_nothing i) k = absurd (cc)
    effect_names _ (of_case d row j) k = row_names d row j k
    effect_names _ (begins p e i) k = absurd (cc)
    effect_names _ (gives_again p d u e i a) k = absurd (cc)
    effect_names _ (gives_fresh p d e i a) k = absurd (cc)
    effect_names _ (presumes x u i e) k = absurd (cc)

-- What a restart's Aborts name, records of the case named before.

named_if : (b : Bool) (ts : List Ticket) (t : Ticket) → in_list (if b then ts else []) t ≡ true
    → (b && in_list ts t) ≡ true
named_if true ts t e = e
named_if false ts t e = in_nobody t e

in_one : (xs ys : List Ticket) (t : Ticket) → in_list (xs ++ ys) t ≡ true
    → (in_list xs t ≡ true) ⊎ (in_list ys t ≡ true)
unfolding in_list
in_one xs ys t e = either _ _ (sym (list_any-append _ xs ys) ∙ e)

-- a case that collects by its records has all that they name in its view
pub view_names : (rs : List Record) (d : Case) (v : CoordinatorView) → v ≡ recorded_view rs d → v.standing
    ≡ Collecting
    → v.named ≡ named_by d rs
unfolding recorded_view
view_names rs d v e s =
    ap (λ (x : CoordinatorView). x.named) e
    ∙ ap (λ (q : Standing). (view_at q rs d fresh_memory).named)
    (sym (view_standing (coordinator_standing rs d fresh_memory) rs d fresh_memory)
    ∙ (ap (λ (x : CoordinatorView). x.standing) (sym e) ∙ s))

module _ (c : Case) (t : Ticket) where
  no_name : {A : Type 0} → has (is_naming c t) [] ≡ true → A
  unfolding has
  no_name k = absurd (cc)

  record_names : (r : Record) → in_list (named_in c r) t ≡ true → is_naming c t r ≡ true
  record_names (CollectingRecord d ts) e =
      let x = same_case d c && in_list ts t in left (x || false) false
      (left x false (named_if (same_case d c) ts t e))
  record_names (PrepareRecord d ts) e =
      left (same_case d c && in_list ts t) false (named_if (same_case d c) ts t e)
  record_names (CommitRecord d ts) e = named_if (same_case d c) ts t e
  record_names (AbortRecord d ts) e = named_if (same_case d c) ts t e
  record_names r e = in_nobody t e

  pub records_name : (rs : List Record) → in_list (named_by c rs) t ≡ true → has (is_naming c t) rs ≡ true
  unfolding named_by
  records_name [] e = in_nobody t e
  records_name (r ∷ rs) e =
      by_either (in_both (named_in c r) (flat_map (named_in c) rs) e) (records_name rs)
    where
      in_both : (xs ys : List Ticket) → in_list (xs ++ ys) t ≡ true
          → (in_list xs t ≡ true) ⊎ (in_list ys t ≡ true)
      in_both xs ys f = in_one xs ys t f

      by_either : (in_list (named_in c r) t ≡ true) ⊎ (in_list (flat_map (named_in c) rs) t ≡ true)
          → (in_list (flat_map (named_in c) rs) t ≡ true → has (is_naming c t) rs ≡ true)
          → has (is_naming c t) (r ∷ rs) ≡ true
      by_either (inl now) g = has-cons (is_naming c t) r rs ∙ left _ _ (record_names r now)
      by_either (inr rest) g = has-cons (is_naming c t) r rs ∙ right _ _ (g rest)

  abort_names : (rs : List Record) (d : Case) (v : CoordinatorView) (st : Standing) → v ≡ recorded_view rs d
      → v.standing ≡ st
      → has (is_naming c t) (restart_abort d v st) ≡ true → has (is_naming c t) rs ≡ true
  abort_names rs d v Collecting e s k =
      let f = abort_tells c d t v.named k in
      records_name rs
      (subst (λ (x : Case). in_list (named_by x rs) t ≡ true) (case_is d c f.0)
      (ap (λ ts. in_list ts t) (sym (view_names rs d v e s)) ∙ f.1))
  abort_names rs d v Unknown e s k = no_name k
  abort_names rs d v Active e s k = no_name k
  abort_names rs d v Prepared e s k = no_name k
  abort_names rs d v Committing e s k = no_name k
  abort_names rs d v Aborting e s k = no_name k
  abort_names rs d v Heuristic e s k = no_name k

  aborts_name : (rs : List Record) (cs : List Case)
      → has (is_naming c t) (flat_map (aborts_collecting rs) cs) ≡ true → has (is_naming c t) rs ≡ true
  aborts_name rs [] k = no_name k
  aborts_name rs (d ∷ cs) k =
      elim (in_either (is_naming c t) (aborts_collecting rs d) (flat_map (aborts_collecting rs) cs) k) [
        | inl now ↦ let v = recorded_view rs d in abort_names rs d v v.standing refl refl now
        | inr rest ↦ aborts_name rs cs rest
      ]

  pub reopens_name : (rs : List Record) → has (is_naming c t) (reopens AtRoot rs) ≡ true
      → has (is_naming c t) rs ≡ true
  reopens_name rs k =
      aborts_name rs (cases_in rs)
      (sym (has-cons (is_naming c t) (Opened (boot_of rs + 1))
      (flat_map (aborts_collecting rs) (cases_in rs))) ∙ k)
