-- A recover is a step of the judge.
use Rattle.std.proofs.Common.{◌≡◌, ◌≢◌, ℕ, Bool, true, false, not, Option, Some, None, List, [], ◌∷◌, ◌++◌, length, map, filter, take, drop, Result, Ok, Err, ◌&&◌, ◌||◌, refl, ap, sym, subst, ◌∙◌, inl, inr}
use Rattle.std.specs.Prelude.{◌⊎◌, ◌==◌, nat_le, is_some, unwrap_or, Contains, MatchResult, if◌then◌else◌}
use Rattle.std.specs.Global.{Vec}
use Rattle.std.specs.List.{list_all, list_any, AllByRecursion}
use Rattle.std.proofs.lemmas.Bool.{and_from, and_left, and_parts, and_right, cases_eq, eq-eqb, eqb-true, false≢true, ne_eqb, not-true, not_from_false, not_from_true, or_from, or_left, or_right}
use Rattle.std.proofs.lemmas.List.Elements.{Contains-append_left, Contains-append_right}
use Rattle.std.proofs.lemmas.List.Folds.{list_all-append, list_all-map, list_any-append}
use Rattle.xa_codes.specs.declared.code.Code.{Code}
use Rattle.xa_words.specs.code
use Rattle.xa_tables.specs.Calls.{end_scan, legal, start_scan}
use Rattle.xa_tables.specs.Tables.{is_in_doubt as in_doubt_state}
use Rattle.xa_tables.specs.declared.call.Call.{Call}
use Rattle.xa_words.specs.verb
use Rattle.xa_tables.specs.declared.states.InitState.{InitState}
use Rattle.xa_tables.specs.declared.states.InitState.TheVariants.{R0, R1}
use Rattle.xa_tables.specs.declared.states.BranchState.{BranchState}
use Rattle.xa_tables.specs.declared.states.BranchState.TheVariants.{S0, S1, S2, S3, S4, S5}
use Rattle.xa_xid.specs.declared.xid.Xid.{Xid}
use Rattle.xa_branch.specs.Branches.{ScansBranches, ends_scan, in_doubt, scan_refusal, scanned, starts_scan, state_in}
use Rattle.xa_branch.specs.Scans.{has_scan, scan_of}
use Rattle.xa_assoc.specs.declared.states.States.{States}
use Rattle.xa_assoc.specs.Associations.{AssocList}
use Rattle.xa_assoc.specs.Answers.{Recovers, SameStates, Scanned}
use Rattle.xa_assoc.specs.Ready.{is_closed}
use Rattle.judge_state.specs.declared.parts.JudgedBranch.{JudgedBranch}
use Rattle.judge_state.specs.declared.parts.JudgedDecision.{JudgedDecision}
use Rattle.judge_state.specs.declared.parts.Link.{Link}
use Rattle.judge_state.specs.declared.parts.Listed.{Listed}
use Rattle.judge_state.specs.declared.parts.Stand.{Stand}
use Rattle.judge_words.specs.stand
use Rattle.judge_state.specs.Parts.{is_in_doubt, is_named, waits}
use Rattle.judge_state.specs.Scans.{are_distinct, due_lines, given_lines, has, may_give, scan_closed, scan_given, scan_opened, with_given}
use Rattle.judge_state.specs.Questions.{is_scanning}
use Rattle.judge_state.specs.Sights.{Sight}
use Rattle.judge_rules.specs.declared.calls.JudgedAnswer.{JudgedAnswer}
use Rattle.judge_words.specs.answer
use Rattle.judge_rules.specs.declared.defects.Refusals.{Refusals}
use Rattle.judge_words.specs.reply
use Rattle.judge_rules.specs.Defects.{is_unscanned, recover_defects, recover_excuses}
use Rattle.judge_rules.specs.Falls.{failed}
use Rattle.judge_rules.specs.Flags.{has as has_flag, wrong_at_recover}
use Rattle.judge_rules.specs.Passes.{one, one_if}
use Rattle.judge_rules.specs.Replies.{is_among, is_defective, reply_of}
use Rattle.judge_rules.specs.Scans.{given_rows, may_give_all, scan_after, scan_in}
use Rattle.judge_rules.specs.Steps.{recover_next, recover_rows}
use Rattle.proof_judged_deeds.specs.Names.{NameNumbers, lacks_forced}
use Rattle.proof_judged_deeds.proofs.Checks.{closed_same}
use Rattle.proof_judged_deeds.proofs.Doubting.{doubt_apart, doubt_has, doubt_states}
use Rattle.proof_judged_deeds.proofs.Flags.{ReadsScan, recover_errs, recover_reads}
use Rattle.proof_judged_deeds.proofs.Giving.{gives, list_all_from}
use Rattle.proof_judged_deeds.proofs.Links.{Tied}
use Rattle.proof_judged_deeds.proofs.Lists.{all_where, any_filter, any_gone, any_implied, any_kept, any_map, any_pick, any_pushed}
use Rattle.proof_judged_deeds.proofs.Ledgers.{ledger}
use Rattle.proof_judged_deeds.proofs.Mirrors.{AreBranches, IsBranch, IsFree, IsOrderly, Mirrors, is_begun, same_mirrors, stand_as}
use Rattle.proof_judged_deeds.proofs.Rows.{IsClean, IsDefect, Inval, Proto, first_in, has_code, in_else, in_if, is_clean}
use Rattle.proof_judged_deeds.proofs.Scanning.{AreScans, IsScan, all_implied, all_true, is_line, is_paid}

-- Branches in doubt, to the judge.

waits_of : (s : BranchState) (c : JudgedDecision) (k : Stand) → in_doubt_state s ≡ true
    → stand_as s c ≡ Some k → waits k ≡ true
waits_of S0 c k h e = absurd (false≢true h)
waits_of S1 c k h e = absurd (false≢true h)
waits_of S2 c k h e = absurd (false≢true h)
waits_of S3 c k h e = let is : stand.Prepared ≡ k = cc in subst (λ (j : Stand). waits j ≡ true) is refl
waits_of S4 c k h e = absurd (false≢true h)
waits_of S5 c k h e = let is : stand.Heuristic c ≡ k = cc in subst (λ (j : Stand). waits j ≡ true) is refl

doubt_of_waits : (s : BranchState) (c : JudgedDecision) (k : Stand) → waits k ≡ true → stand_as s c ≡ Some k
    → in_doubt_state s ≡ true
doubt_of_waits S0 c k h e = absurd cc
doubt_of_waits S1 c k h e = let is : stand.Active ≡ k = cc in
    absurd (false≢true (subst (λ (j : Stand). waits j ≡ true) (sym is) h))
doubt_of_waits S2 c k h e = let is : stand.Active ≡ k = cc in
    absurd (false≢true (subst (λ (j : Stand). waits j ≡ true) (sym is) h))
doubt_of_waits S3 c k h e = refl
doubt_of_waits S4 c k h e = let is : stand.RollbackOnly ≡ k = cc in
    absurd (false≢true (subst (λ (j : Stand). waits j ≡ true) (sym is) h))
doubt_of_waits S5 c k h e = refl

begun_in_doubt : (s : BranchState) → in_doubt_state s ≡ true → is_begun s ≡ true
begun_in_doubt S0 h = absurd (false≢true h)
begun_in_doubt S1 h = refl
begun_in_doubt S2 h = refl
begun_in_doubt S3 h = refl
begun_in_doubt S4 h = refl
begun_in_doubt S5 h = refl

all_trivial : {X : Type 0} (xs : List X) → AllByRecursion (λ (_ : X). Unit {0}) xs
all_trivial [] = tt
all_trivial (x ∷ xs) = (tt, all_trivial xs)

all_filtered_by : {X : Type 0} (p : X → Bool) (x : X) (ys : List X) (b : Bool) → p x ≡ true
    → list_all p ys ≡ true
    → list_all p (if b then x ∷ ys else ys) ≡ true
all_filtered_by p x ys true h k = and_from (p x) (list_all p ys) h k
all_filtered_by p x ys false h k = k

-- The lines of one thread, after another opens, closes or goes on with a scan.

-- what scans of a thread find is found still
pub record Passes (u : ℕ) (ls ks : List Listed) : Type 0 where
  pub line : (x : ℕ) → list_any (is_line u x) ls ≡ true → list_any (is_line u x) ks ≡ true
  pub paid : (xs : List ℕ) → list_all (is_paid u xs) ls ≡ true → list_all (is_paid u xs) ks ≡ true

still_lines : (n : NameNumbers) (u : ℕ) (ls ks : List Listed) → Passes u ls ks → (xs : List Xid)
    → AllByRecursion (λ x. list_any (is_line u (n.xid x)) ls ≡ true) xs
    → AllByRecursion (λ x. list_any (is_line u (n.xid x)) ks ≡ true) xs
still_lines n u ls ks passes [] all = tt
still_lines n u ls ks passes (x ∷ xs) all =
    (passes.line (n.xid x) all.0, still_lines n u ls ks passes xs all.1)

still_scan : (n : NameNumbers) (u : ℕ) (rest : List Xid) (ls ks : List Listed) → Passes u ls ks
    → IsScan n u rest ls
    → IsScan n u rest ks
still_scan n u rest ls ks passes scan = record {
  apart = scan.apart;
  may = still_lines n u ls ks passes rest scan.may;
  owes = passes.paid (map n.xid rest) scan.owes;
}

line_thread : (a b c : Bool) → (a && b && c) ≡ true → a ≡ true
line_thread true b c h = refl
line_thread false b c h = h

-- lines of another thread are not those of this one
others_line : (t u x : ℕ) → (u ≡ t → ⊥) → (l : Listed) → is_line u x l ≡ true → not (l.thread == t) ≡ true
others_line t u x apart l h = not_from_false (l.thread == t) (ne_eqb l.thread t (λ e. apart
    (sym (eqb-true l.thread u (line_thread (l.thread == u) (l.branch == x) (not l.given) h)) ∙ e)))

filter_all : {X : Type 0} (p q : X → Bool) (xs : List X) → list_all p xs ≡ true
    → list_all p (filter q xs) ≡ true
filter_all p q [] h = refl
filter_all p q (x ∷ xs) h =
    let parts = and_parts (p x) (list_all p xs) h in
    all_filtered_by p x (filter q xs) (q x) parts.0 (filter_all p q xs parts.1)

pub passes_closed : (t u : ℕ) (ls : List Listed) → (u ≡ t → ⊥)
    → Passes u ls (filter (λ l. not (l.thread == t)) ls)
passes_closed t u ls apart = record {
  line = λ x h. any_kept (is_line u x) (λ l. not (l.thread == t)) (λ l e. others_line t u x apart l e) ls ∙ h;
  paid = λ xs h. filter_all (is_paid u xs) (λ l. not (l.thread == t)) ls h;
}

paid_other : (a b c d : Bool) → a ≡ false → (not (a && b && c) || d) ≡ true
paid_other a b c d h = rw h refl

due_line : ℕ → JudgedBranch → Listed
due_line t b = record { thread = t; branch = b.name; given = false; due = true }

pub passes_opened : (t u : ℕ) (ls : List Listed) (bs : List JudgedBranch) → (u ≡ t → ⊥)
    → Passes u ls (filter (λ l. not (l.thread == t)) ls ++ due_lines t bs)
passes_opened t u ls bs apart = record {
  line = λ x h. list_any-append (is_line u x) (filter (λ l. not (l.thread == t)) ls) (due_lines t bs)
      ∙ or_left (list_any (is_line u x) (filter (λ l. not (l.thread == t)) ls))
      (list_any (is_line u x) (due_lines t bs))
      ((passes_closed t u ls apart).line x h);
  paid = λ xs h. list_all-append (is_paid u xs) (filter (λ l. not (l.thread == t)) ls) (due_lines t bs)
      ∙ and_from (list_all (is_paid u xs) (filter (λ l. not (l.thread == t)) ls))
      (list_all (is_paid u xs) (due_lines t bs))
      ((passes_closed t u ls apart).paid xs h)
      (list_all-map (is_paid u xs) (λ (b : JudgedBranch).
      record { thread = t; branch = b.name; given = false; due = true })
      (filter is_in_doubt bs)
      ∙ all_true (λ (b : JudgedBranch). is_paid u xs
      (record { thread = t; branch = b.name; given = false; due = true }))
      (λ b. paid_other (t == u) true true (has xs b.name) (ne_eqb t u (λ e. apart (sym e))))
      (filter is_in_doubt bs));
}

given_line : (t u x : ℕ) (ks : List ℕ) → (u ≡ t → ⊥) → (l : Listed) → is_line u x l ≡ true
    → is_line u x (if l.thread == t && has ks l.branch then with_given l else l) ≡ true
given_line t u x ks apart l h =
    subst (λ (b : Bool). is_line u x (if b then with_given l else l) ≡ true)
    (sym (and_left (l.thread == t) (has ks l.branch) (ne_eqb l.thread t (λ e. apart
    (sym (eqb-true l.thread u (line_thread (l.thread == u) (l.branch == x) (not l.given) h)) ∙ e))))) h

paid_marked : (u : ℕ) (xs : List ℕ) (b : Bool) (l : Listed) → is_paid u xs l ≡ true
    → is_paid u xs (if b then with_given l else l) ≡ true
paid_marked u xs true l h = given_paid (l.thread == u) l.due (has xs l.branch) where
  given_paid : (a b c : Bool) → (not (a && b && not true) || c) ≡ true
  given_paid true true c = refl
  given_paid true false c = refl
  given_paid false b c = refl
paid_marked u xs false l h = h

pub passes_given : (t u : ℕ) (ks : List ℕ) (ls : List Listed) → (u ≡ t → ⊥)
    → Passes u ls (given_lines t ks ls)
passes_given t u ks ls apart = record {
  line = λ x h. any_map (is_line u x) (λ (l : Listed). if l.thread == t && has ks l.branch then with_given l
      else l) ls
      ∙ any_implied (is_line u x) (λ (l : Listed).
      is_line u x (if l.thread == t && has ks l.branch then with_given l else l))
      (λ l e. given_line t u x ks apart l e) ls h;
  paid = λ xs h. list_all-map (is_paid u xs)
      (λ (l : Listed). if l.thread == t && has ks l.branch then with_given l else l) ls
      ∙ all_implied (is_paid u xs) (λ (l : Listed).
      is_paid u xs (if l.thread == t && has ks l.branch then with_given l else l))
      (λ l e. paid_marked u xs (l.thread == t && has ks l.branch) l e) ls h;
}

-- A new scan.

this_line : (t x : ℕ) (a b : Bool) → a ≡ true → b ≡ true → (a && b && true) ≡ true
this_line t x a b p q = rw (p, q) refl

opened_line : (n : NameNumbers) (m : States) (d : Xid → JudgedDecision) (s : Sight) (t : ℕ) (x : Xid)
    → Mirrors n m d s
    → in_doubt_state (state_in m.branches.branches x) ≡ true
    → list_any (is_line t (n.xid x)) (due_lines t s.branches) ≡ true
opened_line n m d s t x mirrors h =
    any_map (is_line t (n.xid x)) (λ (b : JudgedBranch).
    record { thread = t; branch = b.name; given = false; due = true })
    (filter is_in_doubt s.branches)
    ∙ any_filter (λ (b : JudgedBranch). is_line t (n.xid x)
    (record { thread = t; branch = b.name; given = false; due = true }))
    is_in_doubt s.branches
    ∙ (any_pick (IsBranch n (state_in m.branches.branches) d) (is_named (n.xid x))
    (λ (c : Bool) (b : JudgedBranch). is_in_doubt b && is_line t (n.xid x)
    (record { thread = t; branch = b.name; given = false; due = true }))
    (λ b is named. (
      true,
      and_from (is_in_doubt b) (is_line t (n.xid x)
          (record { thread = t; branch = b.name; given = false; due = true }))
          (waits_of (state_in m.branches.branches x) (d x) b.stand h
          (subst (λ (y : Xid). stand_as (state_in m.branches.branches y) (d y) ≡ Some b.stand)
          (n.xids_apart is.xid x (sym is.is ∙ eqb-true b.name (n.xid x) named)) is.stands))
          (this_line t (n.xid x) (t == t) (b.name == n.xid x) (eq-eqb t t refl) named),
    ))
    s.branches mirrors.branches.each
    (mirrors.branches.known x ∙ begun_in_doubt (state_in m.branches.branches x) h)).1

opened_lines : (n : NameNumbers) (m : States) (d : Xid → JudgedDecision) (s : Sight) (t : ℕ)
    (ls : List Listed) → Mirrors n m d s
    → (xs : List Xid) → AllByRecursion (λ x. in_doubt_state (state_in m.branches.branches x) ≡ true) xs
    → AllByRecursion (λ x. list_any (is_line t (n.xid x)) (ls ++ due_lines t s.branches) ≡ true) xs
opened_lines n m d s t ls mirrors [] all = tt
opened_lines n m d s t ls mirrors (x ∷ xs) all = (
  list_any-append (is_line t (n.xid x)) ls (due_lines t s.branches)
      ∙ or_right (list_any (is_line t (n.xid x)) ls) (list_any (is_line t (n.xid x)) (due_lines t s.branches))
      (opened_line n m d s t x mirrors all.0),
  opened_lines n m d s t ls mirrors xs all.1,
)

pub opened_scan : (n : NameNumbers) (m : States) (d : Xid → JudgedDecision) (s : Sight) (t : ℕ)
    → Mirrors n m d s
    → IsScan n t (in_doubt m.branches.branches)
    (filter (λ l. not (l.thread == t)) s.listed ++ due_lines t s.branches)
opened_scan n m d s t mirrors =
    let bs = m.branches.branches in
    let nums = map n.xid (in_doubt m.branches.branches) in
    let others = filter (λ (l : Listed). not (l.thread == t)) s.listed in
    record {
      apart = doubt_apart n m.branches.branches mirrors.orderly.named;
      may = opened_lines n m d s t (filter (λ l. not (l.thread == t)) s.listed) mirrors
          (in_doubt m.branches.branches)
          (doubt_states m.branches.branches mirrors.orderly.named);
      owes = list_all-append (is_paid t (map n.xid (in_doubt m.branches.branches)))
          (filter (λ l. not (l.thread == t)) s.listed) (due_lines t s.branches)
          ∙ and_from (list_all (is_paid t (map n.xid (in_doubt m.branches.branches)))
          (filter (λ l. not (l.thread == t)) s.listed))
          (list_all (is_paid t (map n.xid (in_doubt m.branches.branches))) (due_lines t s.branches))
          (list_all_from (is_paid t (map n.xid (in_doubt m.branches.branches)))
          (filter (λ l. not (l.thread == t)) s.listed)
          (all_where (λ (_ : Listed). Unit {0})
          (λ l. is_paid t (map n.xid (in_doubt m.branches.branches)) l ≡ true) (λ l. not (l.thread == t))
          (λ l q _. paid_other (l.thread == t) l.due (not l.given)
          (has (map n.xid (in_doubt m.branches.branches)) l.branch)
          (not-true (l.thread == t) q)) s.listed (all_trivial s.listed)))
          (list_all-map (is_paid t (map n.xid (in_doubt m.branches.branches)))
          (λ (b : JudgedBranch). record { thread = t; branch = b.name; given = false; due = true })
          (filter is_in_doubt s.branches)
          ∙ list_all_from (λ (b : JudgedBranch). is_paid t (map n.xid (in_doubt m.branches.branches))
          (record { thread = t; branch = b.name; given = false; due = true })) (filter is_in_doubt s.branches)
          (all_where (IsBranch n (state_in m.branches.branches) d)
          (λ b. is_paid t (map n.xid (in_doubt m.branches.branches))
          (record { thread = t; branch = b.name; given = false; due = true }) ≡ true) is_in_doubt
          (λ b q is. or_right (not (t == t && true && not false))
          (has (map n.xid (in_doubt m.branches.branches)) b.name)
          (ap (λ k. has (map n.xid (in_doubt m.branches.branches)) k) is.is
          ∙ doubt_has n m.branches.branches is.xid
          (doubt_of_waits (state_in m.branches.branches is.xid) (d is.xid) b.stand q is.stands)))
          s.branches mirrors.branches.each));
    }

-- The step.

-- two states have the same tables, whatever their scans
pub record SameTables (u s : Sight) : Type 0 where
  pub opened : u.opened ≡ s.opened
  pub waits : u.hung ≡ s.hung
  pub links : u.links ≡ s.links
  pub migrated : u.migrated ≡ s.migrated
  pub branches : u.branches ≡ s.branches

-- the scan that a recover goes on with
pub record Base (n : NameNumbers) (t f : ℕ) (s u : Sight) (rest : List Xid) : Type 0 where
  pub is : scan_in t f s ≡ u
  pub tables : SameTables u s
  pub scan : IsScan n t rest u.listed
  pub here : list_any (λ v. v == t) u.scans ≡ true
  pub others_open : (v : ℕ) → (v ≡ t → ⊥) → list_any (λ w. w == v) u.scans ≡ list_any (λ w. w == v) s.scans
  pub others : (v : ℕ) → (v ≡ t → ⊥) → Passes v s.listed u.listed

not_here : (t v : ℕ) → (v ≡ t → ⊥) → (w : ℕ) → (w == v) ≡ true → not (w == t) ≡ true
not_here t v apart w h = not_from_false (w == t) (ne_eqb w t (λ e. apart (sym (eqb-true w v h) ∙ e)))

opened_base : (n : NameNumbers) (m : States) (d : Xid → JudgedDecision) (s : Sight) (t f : ℕ)
    → Mirrors n m d s
    → has_flag f start_scan ≡ true → Base n t f s (scan_opened t s) (in_doubt m.branches.branches)
opened_base n m d s t f mirrors starts = record {
  is = first_is (has_flag f start_scan) (scan_opened t s) s starts;
  tables = record { opened = refl; waits = refl; links = refl; migrated = refl; branches = refl };
  scan = opened_scan n m d s t mirrors;
  here = any_pushed (λ v. v == t) (filter (λ u. not (u == t)) s.scans) t
      ∙ or_right (list_any (λ v. v == t) (filter (λ u. not (u == t)) s.scans)) (t == t) (eq-eqb t t refl);
  others_open = λ v apart. any_pushed (λ w. w == v) (filter (λ u. not (u == t)) s.scans) t
      ∙ or_last (list_any (λ w. w == v) (filter (λ u. not (u == t)) s.scans)) (t == v)
      (ne_eqb t v (λ e. apart (sym e)))
      ∙ any_kept (λ w. w == v) (λ u. not (u == t)) (λ w e. not_here t v apart w e) s.scans;
  others = λ v apart. passes_opened t v s.listed s.branches apart;
} where
  first_is : (b : Bool) (u v : Sight) → b ≡ true → (if b then u else v) ≡ u
  first_is b u v h = rw h refl

  or_last : (a b : Bool) → b ≡ false → (a || b) ≡ a
  or_last true b h = refl
  or_last false b h = h

passes_self : (v : ℕ) (ls : List Listed) → Passes v ls ls
passes_self v ls = record { line = λ x h. h; paid = λ xs h. h }

passes_on : (v : ℕ) (a b c : List Listed) → Passes v a b → Passes v b c → Passes v a c
passes_on v a b c p q = record { line = λ x h. q.line x (p.line x h); paid = λ xs h. q.paid xs (p.paid xs h) }

going_base : (n : NameNumbers) (m : States) (d : Xid → JudgedDecision) (s : Sight) (t f : ℕ) (rest : List Xid)
    → Mirrors n m d s
    → has_flag f start_scan ≡ false → scan_of m.branches.scans t ≡ Some rest → Base n t f s s rest
going_base n m d s t f rest mirrors starts has_one = record {
  is = second_is (has_flag f start_scan) (scan_opened t s) s starts;
  tables = record { opened = refl; waits = refl; links = refl; migrated = refl; branches = refl };
  scan = mirrors.scans.each t rest has_one;
  here = mirrors.scans.open_so t ∙ ap is_some has_one;
  others_open = λ v apart. refl;
  others = λ v apart. passes_self v s.listed;
} where
  second_is : (b : Bool) (u v : Sight) → b ≡ false → (if b then u else v) ≡ v
  second_is b u v h = rw h refl

all_four : (a b c d : Bool) → a ≡ true → b ≡ true → c ≡ true → d ≡ true → (a && b && c && d) ≡ true
all_four a b c d p q r s = rw (p, q, r, s) refl

module _ (n : NameNumbers) (old new : States) (d : Xid → JudgedDecision) (s : Sight) (t count : ℕ) (f : ℕ)
    (mirrors : Mirrors n old d s)
  where
    abbrev defects : Refusals
    defects = recover_defects lacks_forced s t f

    abbrev Steps_by : JudgedAnswer → Type 0
    Steps_by a = (u : Sight) × Contains (recover_next lacks_forced s t count f a) u × Mirrors n new d u
        × (ledger u ≡ ledger s)

    told : (c k : Code) → c ≡ k → IsDefect (recover_defects lacks_forced s t f) (reply_of k)
        → SameStates old new
        → Steps_by (answer.Code c)
    told c k is defect same = (
      s,
      subst (λ (z : Code). Contains (recover_rows lacks_forced s t f (reply_of z)) s) (sym is)
          (Contains-append_right (one_if (is_among (recover_excuses lacks_forced s t f) (reply_of k)) s
          ++ failed lacks_forced s (reply_of k))
          (one_if (is_among (recover_defects lacks_forced s t f) (reply_of k)) s) s
          (in_if (is_among (recover_defects lacks_forced s t f) (reply_of k)) s
          (has_code (recover_defects lacks_forced s t f) (reply_of k) defect))),
      same_mirrors n old new d s same mirrors,
      refl,
    )

    limited : (c : Code) → c ≡ code.RmErr → SameStates old new → Steps_by (answer.Code c)
    limited c is same = (
      s,
      subst (λ (z : Code). Contains (recover_rows lacks_forced s t f (reply_of z)) s) (sym is)
          (Contains-append_left (one_if (is_among (recover_excuses lacks_forced s t f) reply.RmErr) s
          ++ failed lacks_forced s reply.RmErr)
          (one_if (is_among (recover_defects lacks_forced s t f) reply.RmErr) s) s
          (Contains-append_right (one_if (is_among (recover_excuses lacks_forced s t f) reply.RmErr) s)
          (failed lacks_forced s reply.RmErr) s (first_in s []))),
      same_mirrors n old new d s same mirrors,
      refl,
    )

    -- a scan that is refused
    refused : (k : Call) (c : Code) → ReadsScan f k → scan_refusal old.branches.scans t k ≡ Some c
        → SameStates old new
        → Steps_by (answer.Code c)
    refused k c reads h same = by (has_scan old.branches.scans t) (starts_scan k)
        (nat_le 256 (length old.branches.scans)) refl refl h
      where
        by : (has starts full : Bool) → has_scan old.branches.scans t ≡ has → starts_scan k ≡ starts
            → (if has then None else if not starts then Some code.Inval else if full then Some code.RmErr
            else None) ≡ Some c
            → Steps_by (answer.Code c)
        by true starts full p q e = absurd cc
        by false false full p q e = let is : c ≡ code.Inval = cc in
            told c code.Inval is (Inval (or_right (wrong_at_recover f) (is_unscanned s t f && not false)
            (and_from (is_unscanned s t f) (not false)
            (and_from (not (has_flag f start_scan)) (not (is_scanning t s))
            (not_from_false (has_flag f start_scan) (reads.starts ∙ q))
            (not_from_false (is_scanning t s) (mirrors.scans.open_so t ∙ p))) refl))) same
        by false true true p q e = let is : c ≡ code.RmErr = cc in limited c is same
        by false true false p q e = absurd cc

    -- nothing refuses a recover with a scan
    clean : is_closed old.init ≡ false → (k : Call) → ReadsScan f k
        → (starts_scan k ≡ true) ⊎ (has_scan old.branches.scans t ≡ true)
        → IsClean (recover_defects lacks_forced s t f) × (is_unscanned s t f ≡ false)
    clean opened k reads (inl starts) =
        let scanned_so : is_unscanned s t f ≡ false = and_left (not (has_flag f start_scan))
        (not (is_scanning t s))
        (not_from_true (has_flag f start_scan) (reads.starts ∙ starts)) in (
          record {
            inval = or_from (wrong_at_recover f) (is_unscanned s t f && not false) reads.right
                (and_left (is_unscanned s t f) (not false) scanned_so);
            asynchronous = refl;
            proto = closed_same n old d s mirrors ∙ opened;
            dup_id = refl;
            not_a = refl;
          },
          scanned_so,
        )
    clean opened k reads (inr has_one) =
        let scanned_so : is_unscanned s t f ≡ false = and_right (not (has_flag f start_scan))
        (not (is_scanning t s))
        (not_from_true (is_scanning t s) (mirrors.scans.open_so t ∙ has_one)) in (
          record {
            inval = or_from (wrong_at_recover f) (is_unscanned s t f && not false) reads.right
                (and_left (is_unscanned s t f) (not false) scanned_so);
            asynchronous = refl;
            proto = closed_same n old d s mirrors ∙ opened;
            dup_id = refl;
            not_a = refl;
          },
          scanned_so,
        )

    -- the tables after a scan
    after : (u : Sight) → SameTables u s → new.branches.branches ≡ old.branches.branches
        → new.associations ≡ old.associations → new.init ≡ old.init
        → AreScans n new.branches.scans u.scans u.listed
        → Mirrors n new d u
    after u same bs held init scans = record {
      opened = same.opened ∙ mirrors.opened ∙ ap (λ i. not (is_closed i)) (sym init);
      waits = same.waits ∙ mirrors.waits;
      tied = subst (λ (a : AssocList). Tied n a u.links u.migrated) (sym held)
          (subst (λ (ls : List Link). Tied n old.associations ls u.migrated) (sym same.links)
          (subst (λ (ms : List ℕ). Tied n old.associations s.links ms) (sym same.migrated) mirrors.tied));
      branches = subst (λ (b : List (Xid × BranchState)). AreBranches n (state_in b) d u.branches) (sym bs)
          (subst (λ (us : List JudgedBranch). AreBranches n (state_in old.branches.branches) d us)
          (sym same.branches)
          mirrors.branches);
      orderly = subst (λ (b : List (Xid × BranchState)). IsOrderly b new.associations) (sym bs)
          (subst (λ (a : AssocList). IsOrderly old.branches.branches a) (sym held) mirrors.orderly);
      shut = λ e. subst IsFree (sym held) (mirrors.shut (sym init ∙ e));
      scans = scans;
    }

    abbrev given_numbers : List Xid → List ℕ
    given_numbers rest = map n.xid (take count rest)

    -- the scan ends
    ended : (u : Sight) (rest : List Xid) → Base n t f s u rest
        → scan_of new.branches.scans t ≡ None
        → ((v : ℕ) → v ≢ t → scan_of new.branches.scans v ≡ scan_of old.branches.scans v)
        → AreScans n new.branches.scans (filter (λ w. not (w == t)) u.scans)
        (filter (λ l. not (l.thread == t)) u.listed)
    ended u rest base own others = record {
      open_so = λ v. elim (cases_eq v t) [
        | inl e ↦ subst (λ (w : ℕ). list_any (λ z. z == w) (filter (λ z. not (z == t)) u.scans)
            ≡ has_scan new.branches.scans w)
            (sym e) (any_gone (λ z. z == t) (λ z. not (z == t)) (λ z h. not_from_true (z == t) h) u.scans
            ∙ sym (ap is_some own))
        | inr apart ↦ any_kept (λ z. z == v) (λ z. not (z == t)) (λ z h. not_here t v apart z h) u.scans
            ∙ base.others_open v apart ∙ mirrors.scans.open_so v ∙ sym (ap is_some (others v apart))
      ];
      each = λ v left e. elim (cases_eq v t) [
        | inl is ↦ absurd (let f2 : None ≡ Some left = sym own
            ∙ subst (λ (w : ℕ). scan_of new.branches.scans w ≡ Some left) is e in cc)
        | inr apart ↦ still_scan n v left s.listed (filter (λ l. not (l.thread == t)) u.listed)
            (passes_on v s.listed u.listed (filter (λ l. not (l.thread == t)) u.listed) (base.others v apart)
            (passes_closed t v u.listed apart))
            (mirrors.scans.each v left (sym (others v apart) ∙ e))
      ];
    }

    -- it goes on
    goes_on : (u : Sight) (rest : List Xid) → Base n t f s u rest
        → scan_of new.branches.scans t ≡ Some (drop count rest)
        → ((v : ℕ) → v ≢ t → scan_of new.branches.scans v ≡ scan_of old.branches.scans v)
        → AreScans n new.branches.scans u.scans (given_lines t (map n.xid (take count rest)) u.listed)
    goes_on u rest base own others = record {
      open_so = λ v. elim (cases_eq v t) [
        | inl e ↦ subst (λ (w : ℕ). list_any (λ z. z == w) u.scans ≡ has_scan new.branches.scans w) (sym e)
            (base.here ∙ sym (ap is_some own))
        | inr apart ↦ base.others_open v apart ∙ mirrors.scans.open_so v ∙ sym (ap is_some (others v apart))
      ];
      each = λ v left e. elim (cases_eq v t) [
        | inl is ↦ (let f2 : Some (drop count rest) ≡ Some left = sym own
            ∙ subst (λ (w : ℕ). scan_of new.branches.scans w ≡ Some left) is e in
            let one : drop count rest ≡ left = cc in
            subst (λ (w : ℕ). IsScan n w left (given_lines t (map n.xid (take count rest)) u.listed)) (sym is)
            (subst (λ (xs : List Xid). IsScan n t xs (given_lines t (map n.xid (take count rest)) u.listed))
            one
            (gives n t count rest u.listed base.scan).left))
        | inr apart ↦ still_scan n v left s.listed (given_lines t (map n.xid (take count rest)) u.listed)
            (passes_on v s.listed u.listed (given_lines t (map n.xid (take count rest)) u.listed)
            (base.others v apart)
            (passes_given t v (map n.xid (take count rest)) u.listed apart))
            (mirrors.scans.each v left (sym (others v apart) ∙ e))
      ];
    }

    -- the judge's row: whatever comes after, the branches may be given
    row : (u w : Sight) (rest : List Xid) (ks : List ℕ) → Base n t f s u rest → is_unscanned s t f ≡ false
        → ks ≡ map n.xid (take count rest) → scan_after t f ks u ≡ w
        → Contains (given_rows lacks_forced s t count f ks) w
    row u w rest ks base unscanned is comes =
        let g = gives n t count rest u.listed base.scan in
        in_else (is_unscanned s t f) (one s) (one_if (may_give_all lacks_forced t count ks (scan_in t f s))
        (scan_after t f ks (scan_in t f s))) w unscanned
        (subst (λ (z : Sight). Contains (one_if (may_give_all lacks_forced t count ks z)
        (scan_after t f ks z)) w) (sym base.is)
        (subst (λ (z : Sight). Contains (one_if (may_give_all lacks_forced t count ks u) z) w) (sym comes)
        (in_if (may_give_all lacks_forced t count ks u) w
        (subst (λ (zs : List ℕ). may_give_all lacks_forced t count zs u ≡ true) (sym is)
        (all_four (are_distinct (map n.xid (take count rest)))
        (list_all (may_give t u) (map n.xid (take count rest)))
        (false || nat_le (length (map n.xid (take count rest))) count)
        (not (false || not (nat_le count (length (map n.xid (take count rest)))))
        || list_all (is_paid t (map n.xid (take count rest))) u.listed) g.apart g.may g.few g.owes)))))

    -- a scan leaves what is known of data
    begun_ledger : (b : Bool) → ledger (if b then scan_opened t s else s) ≡ ledger s
    begun_ledger true = refl
    begun_ledger false = refl

    same_ledger : (u : Sight) → scan_in t f s ≡ u → ledger u ≡ ledger s
    same_ledger u is = ap ledger (sym is) ∙ begun_ledger (has_flag f start_scan)

    first_of_two : (b : Bool) (u v : Sight) → b ≡ true → (if b then u else v) ≡ u
    first_of_two b u v h = rw h refl

    second_of_two : (b : Bool) (u v : Sight) → b ≡ false → (if b then u else v) ≡ v
    second_of_two b u v h = rw h refl

    -- branches are given
    gave : (u : Sight) (rest given : List Xid) (ks : Vec ℕ) (k : Call) → is_closed old.init ≡ false
        → ReadsScan f k
        → (starts_scan k ≡ true) ⊎ (has_scan old.branches.scans t ≡ true) → Base n t f s u rest
        → scanned old.branches t k ≡ rest → ScansBranches old.branches new.branches t count k given
        → new.associations ≡ old.associations → new.init ≡ old.init → ks.items ≡ map n.xid given
        → Steps_by (answer.Given ks)
    gave u rest given ks k opened reads why base from sc held init is =
        by (ends_scan k) refl
      where
        ready : IsClean (recover_defects lacks_forced s t f) × (is_unscanned s t f ≡ false)
        ready = clean opened k reads why

        numbers_are : ks.items ≡ map n.xid (take count rest)
        numbers_are = is ∙ ap (map n.xid) (sc.next ∙ ap (take count) from)

        put : (w : Sight) → scan_after t f ks.items u ≡ w
            → Contains (recover_next lacks_forced s t count f (answer.Given ks)) w
        put w comes = in_else (is_defective (recover_defects lacks_forced s t f)) []
            (given_rows lacks_forced s t count f ks.items)
            w (is_clean (recover_defects lacks_forced s t f) ready.0)
            (row u w rest ks.items base ready.1 numbers_are comes)

        own : (b : Bool) → ends_scan k ≡ b
            → scan_of new.branches.scans t ≡ (if b then None else Some (drop count rest))
        own b e = sc.left.own ∙ ap (λ z. if z then None else Some (drop count (scanned old.branches t k))) e
            ∙ ap (λ (xs : List Xid). if b then None else Some (drop count xs)) from

        by : (b : Bool) → ends_scan k ≡ b → Steps_by (answer.Given ks)
        by true e = (
          scan_closed t u,
          put (scan_closed t u) (first_of_two (has_flag f end_scan) (scan_closed t u)
              (scan_given t ks.items u) (reads.ends ∙ e)),
          after (scan_closed t u) (record {
            opened = base.tables.opened;
            waits = base.tables.waits;
            links = base.tables.links;
            migrated = base.tables.migrated;
            branches = base.tables.branches;
          }) sc.branches held init (ended u rest base (own true e) sc.left.others),
          same_ledger u base.is,
        )
        by false e = (
          scan_given t ks.items u,
          put (scan_given t ks.items u) (second_of_two (has_flag f end_scan) (scan_closed t u)
              (scan_given t ks.items u)
              (reads.ends ∙ e)),
          after (scan_given t ks.items u) (record {
            opened = base.tables.opened;
            waits = base.tables.waits;
            links = base.tables.links;
            migrated = base.tables.migrated;
            branches = base.tables.branches;
          }) sc.branches held init
              (subst (λ (zs : List ℕ). AreScans n new.branches.scans u.scans (given_lines t zs u.listed))
              (sym numbers_are)
              (goes_on u rest base (own false e) sc.left.others)),
          same_ledger u base.is,
        )

    scans_given : (given : List Xid) (ks : Vec ℕ) (k : Call) → is_closed old.init ≡ false → ReadsScan f k
        → ScansBranches old.branches new.branches t count k given
        → new.associations ≡ old.associations → new.init ≡ old.init → ks.items ≡ map n.xid given
        → Steps_by (answer.Given ks)
    scans_given given ks k opened reads sc held init is =
        by (starts_scan k) (scan_of old.branches.scans t) refl refl where
          by : (starts : Bool) (o : Option (List Xid)) → starts_scan k ≡ starts
              → scan_of old.branches.scans t ≡ o
              → Steps_by (answer.Given ks)
          by true o p q = gave (scan_opened t s) (in_doubt old.branches.branches) given ks k
              opened reads (inl p)
              (opened_base n old d s t f mirrors (reads.starts ∙ p))
              (ap (λ b. if b then in_doubt old.branches.branches
              else unwrap_or (scan_of old.branches.scans t) [])
              p)
              sc held init is
          by false None p q = absurd (let r : Some code.Inval ≡ None =
              sym (ap (λ (o : Option (List Xid)). if is_some o then None else if not (starts_scan k)
              then Some code.Inval
              else if nat_le 256 (length old.branches.scans) then Some code.RmErr else None) q
              ∙ ap (λ b. if not b then Some code.Inval
              else if nat_le 256 (length old.branches.scans) then Some code.RmErr else None) p) ∙ sc.made
              in cc)
          by false (Some rest) p q = gave s rest given ks k opened reads (inr (ap is_some q))
              (going_base n old d s t f rest mirrors (reads.starts ∙ p) q)
              (ap (λ b. if b then in_doubt old.branches.branches
              else unwrap_or (scan_of old.branches.scans t) [])
              p
              ∙ ap (λ (o : Option (List Xid)). unwrap_or o []) q) sc held init is

    by_init : (X : Type 0) (i : InitState) → old.init ≡ i → (old.init ≡ R0 → X) → (old.init ≡ R1 → X) → X
    by_init X R0 e a b = a e
    by_init X R1 e a b = b e

    -- a recover that is answered by a code
    code_by : (c : Code) (l : Result Call Code) → legal verb.Recover f ≡ l
        → MatchResult l (λ k. Scanned old new t count k (Err c))
        (λ e. (◌≡◌ {A = Result (List Xid) Code} (Err c) (Err e)) × SameStates old new)
        → Steps_by (answer.Code c)
    code_by c (Ok k) e h = by_init (Steps_by (answer.Code c)) old.init refl
        (λ i.
        let r = h.closed i
        in let q : ◌≡◌ {A = Result (List Xid) Code} (Err c) (Err code.Proto) = r.0 in let is : c ≡ code.Proto = cc in
        told c code.Proto is (Proto (closed_same n old d s mirrors ∙ ap is_closed i)) r.1)
        (λ i. let r = h.given i in refused k c (recover_reads f k e) r.0 r.1)
    code_by c (Err z) e h =
        let wrong = recover_errs f z e in
        let q : ◌≡◌ {A = Result (List Xid) Code} (Err c) (Err z) = h.0 in let is : c ≡ z = cc in
        told c code.Inval (is ∙ wrong.0) (Inval
        (or_left (wrong_at_recover f) (is_unscanned s t f && not false) wrong.1)) h.1

    pub code_goes : (c : Code) → Recovers old new t count f (Err c) → Steps_by (answer.Code c)
    code_goes c h = code_by c (legal verb.Recover f) refl h

    given_by_flags : (given : List Xid) (ks : Vec ℕ) (l : Result Call Code) → ks.items ≡ map n.xid given
        → legal verb.Recover f ≡ l
        → MatchResult l (λ k. Scanned old new t count k (Ok given))
        (λ e. (Ok given ≡ Err e) × SameStates old new)
        → Steps_by (answer.Given ks)
    given_by_flags given ks (Ok k) is e h = by_init (Steps_by (answer.Given ks)) old.init refl
        (λ i. absurd (let r = h.closed i in let q : Ok given ≡ Err code.Proto = r.0 in cc))
        (λ i.
        let r = h.given i in scans_given given ks k (ap is_closed i) (recover_reads f k e) r.0 r.1 r.2 is)
    given_by_flags given ks (Err z) is e h = absurd (let q : Ok given ≡ Err z = h.0 in cc)

    pub given_goes : (given : List Xid) (ks : Vec ℕ) → ks.items ≡ map n.xid given
        → Recovers old new t count f (Ok given)
        → Steps_by (answer.Given ks)
    given_goes given ks is h = given_by_flags given ks (legal verb.Recover f) is refl h
