-- A close of the manager is a step of the judge.
use Rattle.std.proofs.Common.{◌≡◌, ℕ, Bool, true, false, not, Option, Some, List, [], ◌∷◌, length, Result, Ok, Err, ◌&&◌, refl, ap, sym, subst, ◌∙◌, inl, inr, arith}
use Rattle.std.specs.Prelude.{◌⊎◌, ◌==◌, nat_eq, nat_lt, is_some, unwrap_or, Contains, MatchResult, if◌then◌else◌}
use Rattle.std.specs.List.{list_any, AllByRecursion}
use Rattle.std.specs.Map.{lookup}
use Rattle.std.proofs.lemmas.Bool.{and_from, and_parts, cond-true, eq-eqb, eqb-true, false≢true, not_from_false, not_from_true, or_left}
use Rattle.std.proofs.lemmas.List.Elements.{Contains-append_right}
use Rattle.xa_codes.specs.declared.code.Code.{Code}
use Rattle.xa_words.specs.code
use Rattle.xa_codes.specs.declared.flags.Flags.{Flags}
use Rattle.xa_tables.specs.declared.call.Call.{Call}
use Rattle.xa_words.specs.call
use Rattle.xa_tables.specs.declared.states.AssocState.{AssocState}
use Rattle.xa_tables.specs.declared.states.AssocState.TheVariants.{T0, T1, T2, M}
use Rattle.xa_xid.specs.declared.xid.Xid.{Xid}
use Rattle.xa_branch.specs.Names.{same}
use Rattle.xa_branch.proofs.Names.{same_refl}
use Rattle.xa_branch.specs.Branches.{BranchList, state_in}
use Rattle.xa_assoc.specs.declared.states.States.{States}
use Rattle.xa_assoc.specs.Associations.{ArePositiveCounts, AssocList, IsBare, is_holder, moved_of, own_state}
use Rattle.xa_assoc.specs.Answers.{Closed, Closes}
use Rattle.xa_assoc.specs.Ready.{is_closed}
use Rattle.proof_xa.proofs.Reached.{bare_moved, bare_states}
use Rattle.judge_state.specs.declared.parts.JudgedDecision.{JudgedDecision}
use Rattle.judge_state.specs.declared.parts.Link.{Link}
use Rattle.judge_state.specs.Moves.{opened}
use Rattle.judge_state.specs.Questions.{is_bare}
use Rattle.judge_state.specs.Sights.{Sight}
use Rattle.judge_rules.specs.declared.replies.Reply.{Reply}
use Rattle.judge_words.specs.reply
use Rattle.judge_rules.specs.Defects.{close_defects}
use Rattle.judge_rules.specs.Falls.{failed}
use Rattle.judge_rules.specs.Flags.{wrong_elsewhere}
use Rattle.judge_rules.specs.Passes.{one, one_if}
use Rattle.judge_rules.specs.Replies.{is_among, is_defective, reply_of}
use Rattle.judge_rules.specs.Steps.{may_fail, open_passes, open_rows}
use Rattle.proof_judged_deeds.specs.Names.{NameNumbers, lacks_forced}
use Rattle.proof_judged_deeds.proofs.Flags.{AreRight, plain_async, plain_errs, plain_legal, plain_reads, plain_wrong}
use Rattle.proof_judged_deeds.proofs.Ledgers.{ledger}
use Rattle.proof_judged_deeds.proofs.Links.{IsNamed, Tied, is_one, is_two, one_at, times, two_at}
use Rattle.proof_judged_deeds.proofs.Mirrors.{AreBranches, IsFree, IsOrderly, Mirrors}
use Rattle.proof_judged_deeds.proofs.Rows.{IsDefect, Inval, Async, Proto, first_in, has_code, in_else, in_if, in_then, is_clean, is_defect}
use Rattle.proof_judged_deeds.proofs.Checks.{own_never}
use Rattle.proof_judged_deeds.proofs.Scanning.{AreScans}
use Rattle.proof_judged_deeds.proofs.Sights.{some_times}
use Rattle.proof_judged_deeds.proofs.Steps.{by_test}

-- No association, to the tables and to the judge.

here_by : (a b : Bool) → a ≡ true → b ≡ true → (a && b && true) ≡ true
here_by a b h k = rw (h, k) refl

own_t0 : (s : AssocState) → s ≡ T0 → is_one s ≡ true → ⊥
own_t0 s p q = false≢true (sym (ap is_one p) ∙ q)

own_not_two : (s : AssocState) → s ≡ T0 → is_two s ≡ true → ⊥
own_not_two s p q = false≢true (sym (ap is_two p) ∙ q)

-- if no thread has an association the judge has none
no_links : (n : NameNumbers) (a : AssocList) (ls : List Link) (ms : List ℕ)
    → ((t : ℕ) (x : Xid) → own_state a t x ≡ T0)
    → Tied n a ls ms → ls ≡ []
no_links n a [] ms none tied = refl
no_links n a (l ∷ ls) ms none tied = absurd (by l.suspended refl) where
  by : (b : Bool) → l.suspended ≡ b → ⊥
  by true e = own_not_two (own_state a l.thread tied.named.0.0) (none l.thread tied.named.0.0)
      (sym (tied.two l.thread tied.named.0.0)
      ∙ or_left (l.thread == l.thread && l.branch == n.xid tied.named.0.0 && l.suspended)
      (two_at l.thread (n.xid tied.named.0.0) ls)
      (ap (λ b. l.thread == l.thread && l.branch == n.xid tied.named.0.0 && b) e
      ∙ here_by (l.thread == l.thread) (l.branch == n.xid tied.named.0.0) (eq-eqb l.thread l.thread refl)
      (eq-eqb l.branch (n.xid tied.named.0.0) tied.named.0.1)))
  by false e = own_t0 (own_state a l.thread tied.named.0.0) (none l.thread tied.named.0.0)
      (sym (tied.one l.thread tied.named.0.0)
      ∙ or_left (l.thread == l.thread && l.branch == n.xid tied.named.0.0 && not l.suspended)
      (one_at l.thread (n.xid tied.named.0.0) ls)
      (ap (λ b. l.thread == l.thread && l.branch == n.xid tied.named.0.0 && not b) e
      ∙ here_by (l.thread == l.thread) (l.branch == n.xid tied.named.0.0) (eq-eqb l.thread l.thread refl)
      (eq-eqb l.branch (n.xid tied.named.0.0) tied.named.0.1)))

no_moved : (n : NameNumbers) (a : AssocList) (ms : List ℕ) → ((x : Xid) → moved_of a x ≡ 0)
    → ((x : Xid) → times (n.xid x) ms ≡ moved_of a x) → AllByRecursion (IsNamed n) ms → ms ≡ []
no_moved n a [] none moved named = refl
no_moved n a (m ∷ ms) none moved named = absurd (false≢true
    (sym (some_times (n.xid named.0.0) (m ∷ ms) ∙ ap (λ k. nat_lt 0 k) (moved named.0.0 ∙ none named.0.0))
    ∙ or_left (m == n.xid named.0.0) (list_any (λ k. k == n.xid named.0.0) ms)
    (eq-eqb m (n.xid named.0.0) named.0.1)))

zero_length : {X : Type 0} (xs : List X) → xs ≡ [] → (length xs == 0) ≡ true
zero_length xs h = ap (λ ys. length ys == 0) h

free_bare : (n : NameNumbers) (m : States) (d : Xid → JudgedDecision) (s : Sight) → Mirrors n m d s
    → IsFree m.associations
    → is_bare s ≡ true
free_bare n m d s mirrors free = and_from (length s.links == 0) (length s.migrated == 0)
    (zero_length s.links (no_links n m.associations s.links s.migrated free.0 mirrors.tied))
    (zero_length s.migrated (no_moved n m.associations s.migrated free.1 mirrors.tied.moved
    mirrors.tied.moved_named))

empty_by : {X : Type 0} (xs : List X) → (length xs == 0) ≡ true → xs ≡ []
empty_by [] h = refl
empty_by (x ∷ xs) h = absurd (let z = eqb-true (length (x ∷ xs)) 0 h in omega arith)

has_state : (s : AssocState) → (s ≡ M → ⊥) → (s ≡ T0 → ⊥) → (is_one s ≡ true) ⊎ (is_two s ≡ true)
has_state T0 m h = absurd (h refl)
has_state T1 m h = inl refl
has_state T2 m h = inr refl
has_state M m h = absurd (m refl)

-- where the judge has no association no thread is listed
no_holder : (n : NameNumbers) (m : States) (d : Xid → JudgedDecision) (s : Sight) → Mirrors n m d s
    → s.links ≡ []
    → (es : List (ℕ × Option Xid)) → m.associations.holders ≡ es → length m.associations.holders ≡ 0
no_holder n m d s mirrors none [] e = ap length e
no_holder n m d s mirrors none (f ∷ es) e =
    let listed : is_holder m.associations f.0 ≡ true =
    ap (λ (zs : List (ℕ × Option Xid)). is_some (lookup (nat_eq f.0) zs)) e
    ∙ ap is_some (cond-true (nat_eq f.0 f.0) (Some f.1) (lookup (nat_eq f.0) es) (eq-eqb f.0 f.0 refl)) in
    let w = mirrors.orderly.holding f.0 listed in
    absurd (elim (has_state (own_state m.associations f.0 w.0) (own_never m.associations f.0 w.0) w.1) [
      | inl one ↦ false≢true (sym (ap (λ (ls : List Link). one_at f.0 (n.xid w.0) ls) none)
          ∙ mirrors.tied.one f.0 w.0 ∙ one)
      | inr two ↦ false≢true (sym (ap (λ (ls : List Link). two_at f.0 (n.xid w.0) ls) none)
          ∙ mirrors.tied.two f.0 w.0 ∙ two)
    ])

no_counted : (n : NameNumbers) (m : States) (d : Xid → JudgedDecision) (s : Sight) → Mirrors n m d s
    → s.migrated ≡ []
    → (es : List (Xid × ℕ)) → m.associations.moved ≡ es → ArePositiveCounts es
    → length m.associations.moved ≡ 0
no_counted n m d s mirrors none [] e counted = ap length e
no_counted n m d s mirrors none (f ∷ es) e counted =
    let much : moved_of m.associations f.0 ≡ f.1 =
    ap (λ (zs : List (Xid × ℕ)). unwrap_or (lookup (same f.0) zs) 0) e
    ∙ ap (λ o. unwrap_or o 0) (cond-true (same f.0 f.0) (Some f.1) (lookup (same f.0) es) (same_refl f.0)) in
    let zero : 0 ≡ moved_of m.associations f.0 = sym (ap (λ (ms : List ℕ). times (n.xid f.0) ms) none)
    ∙ mirrors.tied.moved f.0 in
    let some = counted.0 in absurd (omega arith)

bare_free : (n : NameNumbers) (m : States) (d : Xid → JudgedDecision) (s : Sight) → Mirrors n m d s
    → ArePositiveCounts m.associations.moved
    → is_bare s ≡ true → IsBare m.associations
bare_free n m d s mirrors counted h =
    let parts = and_parts (length s.links == 0) (length s.migrated == 0) h in
    record {
      holders = no_holder n m d s mirrors (empty_by s.links parts.0) m.associations.holders refl;
      moved = no_counted n m d s mirrors (empty_by s.migrated parts.1) m.associations.moved refl counted;
    }

bare_all : (m : States) → IsOrderly m.branches.branches m.associations → IsBare m.associations
    → IsFree m.associations
bare_all m orderly bare = (
  λ t x. bare_states m.associations bare orderly.kept t x,
  λ x. bare_moved m.associations bare x,
)

-- The step.

close_told : (s : Sight) (f : ℕ) (a : Reply) → IsDefect (close_defects s f) a
    → Contains (open_rows lacks_forced (close_defects s f) false s a) s
close_told s f a h = Contains-append_right (if may_fail a then failed lacks_forced s a else [])
    (if is_defective (close_defects s f) then one_if (is_among (close_defects s f) a) s
    else open_passes false s a) s
    (in_then (is_defective (close_defects s f)) (one_if (is_among (close_defects s f) a) s)
    (open_passes false s a) s
    (is_defect (close_defects s f) a h) (in_if (is_among (close_defects s f) a) s
    (has_code (close_defects s f) a h)))

close_made : (s : Sight) (f : ℕ) → AreRight wrong_elsewhere f → is_bare s ≡ true
    → Contains (open_rows lacks_forced (close_defects s f) false s reply.Ok) (opened false s)
close_made s f right bare = Contains-append_right
    (if may_fail reply.Ok then failed lacks_forced s reply.Ok else [])
    (if is_defective (close_defects s f) then one_if (is_among (close_defects s f) reply.Ok) s
    else open_passes false s reply.Ok)
    (opened false s)
    (in_else (is_defective (close_defects s f)) (one_if (is_among (close_defects s f) reply.Ok) s)
    (open_passes false s reply.Ok) (opened false s)
    (is_clean (close_defects s f) (record {
      inval = right.right;
      asynchronous = right.sync;
      proto = not_from_true (is_bare s) bare;
      dup_id = refl;
      not_a = refl;
    })) (first_in (opened false s) []))

module _ (n : NameNumbers) (old new : States) (d : Xid → JudgedDecision) (s : Sight)
    (flags : Flags) (c : Code)
    (mirrors : Mirrors n old d s) (counted : ArePositiveCounts old.associations.moved) where
  abbrev Closes_so : Type 0
  Closes_so = (u : Sight) × Contains (open_rows lacks_forced (close_defects s flags.0) false s (reply_of c)) u
      × Mirrors n new d u × (ledger u ≡ ledger s)

  stays : (k : Code) → c ≡ k → IsDefect (close_defects s flags.0) (reply_of k) → new ≡ old → Closes_so
  stays k is defect e = (
    s,
    subst (λ (z : Code). Contains (open_rows lacks_forced (close_defects s flags.0) false s (reply_of z)) s)
        (sym is)
        (close_told s flags.0 (reply_of k) defect),
    subst (λ (m : States). Mirrors n m d s) (sym e) mirrors,
    refl,
  )

  made : AreRight wrong_elsewhere flags.0 → IsBare old.associations → Closed old new c → Closes_so
  made right bare h =
      let done = h.done bare in
      let free = bare_all old mirrors.orderly bare in (
        opened false s,
        subst (λ (z : Code). Contains (open_rows lacks_forced (close_defects s flags.0) false s (reply_of z))
            (opened false s))
            (sym done.0) (close_made s flags.0 right (free_bare n old d s mirrors free)),
        record {
          opened = sym (ap (λ i. not (is_closed i)) done.1);
          waits = mirrors.waits;
          tied = subst (λ (a : AssocList). Tied n a s.links s.migrated) (sym done.3) mirrors.tied;
          branches = subst (λ (b : BranchList). AreBranches n (state_in b.branches) d s.branches) (sym done.2)
              mirrors.branches;
          orderly = subst (λ (b : BranchList). IsOrderly b.branches new.associations) (sym done.2)
              (subst (λ (a : AssocList). IsOrderly old.branches.branches a) (sym done.3) mirrors.orderly);
          shut = λ e. subst IsFree (sym done.3) free;
          scans = subst (λ (b : BranchList). AreScans n b.scans s.scans s.listed) (sym done.2) mirrors.scans;
        },
        refl,
      )

  close_by : (l : Result Call Code) → plain_legal call.Close flags.0 ≡ l
      → MatchResult l (λ k. Closed old new c) (λ e. (c ≡ e) × (new ≡ old)) → Closes_so
  close_by (Ok k) e h =
      let right = (plain_reads call.Close k flags.0 e).0 in
      by_test Closes_so (is_bare s)
      (λ b. made right (bare_free n old d s mirrors counted b) h)
      (λ b.
      let held = h.held (λ bare. false≢true (sym b ∙ free_bare n old d s mirrors
      (bare_all old mirrors.orderly bare))) in
      stays code.Proto held.0 (Proto (not_from_false (is_bare s) b)) held.1)
  close_by (Err k) e h = told (plain_errs call.Close flags.0 k e) where
    told : (k ≡ code.Inval) ⊎ (k ≡ code.Async) → Closes_so
    told (inl is) = stays code.Inval (h.0 ∙ is)
        (Inval (plain_wrong call.Close flags.0 (e ∙ ap (λ z. Err z) is))) h.1
    told (inr is) = stays code.Async (h.0 ∙ is)
        (Async (plain_async call.Close flags.0 (e ∙ ap (λ z. Err z) is))) h.1

  pub close_goes : Closes old new flags.0 c → Closes_so
  close_goes h = close_by (plain_legal call.Close flags.0) refl h
