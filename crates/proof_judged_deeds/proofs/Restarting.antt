-- What a restart leaves is what the judge admits after it.
use Rattle.std.proofs.Common.{◌≡◌, ◌<◌, ℕ, Bool, true, false, not, Option, Some, None, List, [], ◌∷◌, ◌++◌, append_assoc, filter, map, fold, length, ◌&&◌, ◌||◌, refl, ap, sym, subst, ◌∙◌, inl, inr, arith}
use Rattle.std.specs.Prelude.{Contains, ◌==◌, is_some, if◌then◌else◌}
use Rattle.std.specs.List.{list_any, AllByRecursion}
use Rattle.std.proofs.lemmas.Bool.{and_from, eqb-true, false≢true, false_from_ne_true, not-true, not_from_false, or_cases, or_left, or_right}
use Rattle.std.proofs.lemmas.List.{append-nil, get_or-map, length-map}
use Rattle.std.proofs.lemmas.List.Elements.{Contains-append_left, Contains-append_right}
use Rattle.std.proofs.lemmas.List.Folds.{list_any-append}
use Rattle.xa_tables.specs.Tables.{is_in_doubt as is_doubt}
use Rattle.xa_tables.specs.declared.states.BranchState.{BranchState}
use Rattle.xa_tables.specs.declared.states.BranchState.TheVariants.{S0, S1, S2, S3, S4, S5}
use Rattle.xa_xid.specs.declared.xid.Xid.{Xid}
use Rattle.xa_branch.specs.Names.{same}
use Rattle.xa_branch.specs.Branches.{state_in}
use Rattle.xa_branch.specs.Scans.{ScanList, has_scan, scan_of}
use Rattle.xa_branch.proofs.Placed.{AllIn}
use Rattle.xa_assoc.specs.Associations.{AreThreadsListedOnce}
use Rattle.xa_assoc.specs.declared.states.States.{States}
use Rattle.xa_assoc.specs.Ready.{is_closed}
use Rattle.xa_assoc.specs.Restored.{has_twice, state_left, states_left}
use Rattle.proof_xa.proofs.Reached.{bare_moved, empty_states}
use Rattle.judge_state.specs.declared.parts.JudgedBranch.{JudgedBranch}
use Rattle.judge_state.specs.declared.parts.JudgedDecision.{JudgedDecision}
use Rattle.judge_state.specs.declared.parts.Link.{Link}
use Rattle.judge_state.specs.declared.parts.Listed.{Listed}
use Rattle.judge_state.specs.declared.parts.Stand.{Stand}
use Rattle.judge_words.specs.stand
use Rattle.judge_state.specs.declared.parts.Work.{Work}
use Rattle.judge_state.specs.declared.parts.JudgedWrite.{JudgedWrite}
use Rattle.judge_state.specs.Moves.{brought_back, doubted as unsettled, restarted, works_of}
use Rattle.judge_state.specs.Parts.{is_in_doubt, is_named, waits}
use Rattle.judge_state.specs.Questions.{branch_at}
use Rattle.judge_state.specs.Sights.{Sight}
use Rattle.judge_words.specs.answer
use Rattle.judge_rules.specs.Falls.{may_return, maybe_back}
use Rattle.judge_rules.specs.Passes.{one}
use Rattle.judge_rules.specs.Steps.{restart_next}
use Rattle.proof_judged_deeds.specs.Deeds.{DeedRestarts, Returns}
use Rattle.proof_judged_deeds.specs.Names.{NameNumbers, lacks_forced}
use Rattle.proof_judged_deeds.proofs.Doubting.{AreNamedOnce}
use Rattle.proof_judged_deeds.proofs.Links.{Tied, is_one, is_two}
use Rattle.proof_judged_deeds.proofs.Lists.{all_append, all_filter, all_where, any_filter, any_kept, any_pick, any_where, bool_same, find_any}
use Rattle.proof_judged_deeds.proofs.Ledgers.{IsBack, IsReturned}
use Rattle.proof_judged_deeds.proofs.Losing.{AreLost, IsLost}
use Rattle.proof_judged_deeds.proofs.Mirrors.{AreBranches, IsBegun, IsBranch, IsFree, IsOrderly, Mirrors, is_begun, is_quiet, stand_as}
use Rattle.proof_judged_deeds.proofs.Opening.{no_holders}
use Rattle.proof_judged_deeds.proofs.Rows.{first_in}
use Rattle.proof_judged_deeds.proofs.Scanning.{AreScans}

-- What each state becomes.

returned_quiet : (s t : BranchState) (b : Bool) → Returns s t b → is_quiet t ≡ true
returned_quiet S0 t b h = elim h [ inl gone ↦ ap is_quiet gone | inr back ↦ ap is_quiet back.0 ]
returned_quiet S1 t b h = elim h [ inl gone ↦ ap is_quiet gone | inr back ↦ ap is_quiet back.0 ]
returned_quiet S2 t b h = elim h [ inl gone ↦ ap is_quiet gone | inr back ↦ ap is_quiet back.0 ]
returned_quiet S3 t b h = ap is_quiet h
returned_quiet S4 t b h = elim h [ inl gone ↦ ap is_quiet gone | inr back ↦ ap is_quiet back.0 ]
returned_quiet S5 t b h = ap is_quiet h

not_waiting : (i j : Stand) → waits i ≡ false → Some i ≡ Some j → waits j ≡ true → ⊥
not_waiting i j off e h = let is : i ≡ j = cc in
    false≢true (sym off ∙ subst (λ (k : Stand). waits k ≡ true) (sym is) h)

is_waiting : (i j : Stand) → waits i ≡ true → Some i ≡ Some j → waits j ≡ true
is_waiting i j on e = let is : i ≡ j = cc in subst (λ (k : Stand). waits k ≡ true) is on

doubt_stays : (s t : BranchState) (c k : JudgedDecision) (j : Stand) (b : Bool) → stand_as s c ≡ Some j
    → waits j ≡ true
    → Returns s t b → (s ≡ S5 → k ≡ c) → stand_as t k ≡ Some j
doubt_stays S0 t c k j b e w r q = absurd cc
doubt_stays S1 t c k j b e w r q = absurd (not_waiting stand.Active j refl e w)
doubt_stays S2 t c k j b e w r q = absurd (not_waiting stand.Active j refl e w)
doubt_stays S3 t c k j b e w r q = ap (λ z. stand_as z k) r ∙ e
doubt_stays S4 t c k j b e w r q = absurd (not_waiting stand.RollbackOnly j refl e w)
doubt_stays S5 t c k j b e w r q = ap (λ z. stand_as z k) r ∙ ap (λ z. Some (stand.Heuristic z)) (q refl) ∙ e

doubt_waits : (s : BranchState) (c : JudgedDecision) (j : Stand) → is_doubt s ≡ true → stand_as s c ≡ Some j
    → waits j ≡ true
doubt_waits S0 c j d e = absurd (false≢true d)
doubt_waits S1 c j d e = absurd (false≢true d)
doubt_waits S2 c j d e = absurd (false≢true d)
doubt_waits S3 c j d e = is_waiting stand.Prepared j refl e
doubt_waits S4 c j d e = absurd (false≢true d)
doubt_waits S5 c j d e = is_waiting (stand.Heuristic c) j refl e

doubt_state : (s : BranchState) (c : JudgedDecision) (j : Stand) → stand_as s c ≡ Some j → waits j ≡ true
    → is_doubt s ≡ true
doubt_state S0 c j e w = absurd cc
doubt_state S1 c j e w = absurd (not_waiting stand.Active j refl e w)
doubt_state S2 c j e w = absurd (not_waiting stand.Active j refl e w)
doubt_state S3 c j e w = refl
doubt_state S4 c j e w = absurd (not_waiting stand.RollbackOnly j refl e w)
doubt_state S5 c j e w = refl

begun_stand : (s : BranchState) (c : JudgedDecision) (j : Stand) → stand_as s c ≡ Some j → is_begun s ≡ true
begun_stand S0 c j e = absurd cc
begun_stand S1 c j e = refl
begun_stand S2 c j e = refl
begun_stand S3 c j e = refl
begun_stand S4 c j e = refl
begun_stand S5 c j e = refl

-- a branch is in doubt, or returns only where a crash brings it back
by_doubt : (X : Type 0) (s t : BranchState) (b : Bool) → Returns s t b → is_begun t ≡ true
    → (is_doubt s ≡ true → X)
    → (is_doubt s ≡ false → t ≡ S3 → b ≡ true → X) → X
by_doubt X S3 t b h k keeps brings = keeps refl
by_doubt X S5 t b h k keeps brings = keeps refl
by_doubt X S0 t b h k keeps brings = elim h [
  | inl gone ↦ absurd (false≢true (sym (ap is_begun gone) ∙ k))
  | inr back ↦ brings refl back.0 back.1
]
by_doubt X S1 t b h k keeps brings = elim h [
  | inl gone ↦ absurd (false≢true (sym (ap is_begun gone) ∙ k))
  | inr back ↦ brings refl back.0 back.1
]
by_doubt X S2 t b h k keeps brings = elim h [
  | inl gone ↦ absurd (false≢true (sym (ap is_begun gone) ∙ k))
  | inr back ↦ brings refl back.0 back.1
]
by_doubt X S4 t b h k keeps brings = elim h [
  | inl gone ↦ absurd (false≢true (sym (ap is_begun gone) ∙ k))
  | inr back ↦ brings refl back.0 back.1
]

-- a branch is prepared
abbrev is_three : BranchState → Bool
is_three S3 = true
is_three _ = false

three_is : (s : BranchState) → is_three s ≡ true → s ≡ S3
three_is S3 h = refl
three_is S0 h = absurd (false≢true h)
three_is S1 h = absurd (false≢true h)
three_is S2 h = absurd (false≢true h)
three_is S4 h = absurd (false≢true h)
three_is S5 h = absurd (false≢true h)

-- What the tables list.

begun_left : (b : Bool) → is_begun (state_left b) ≡ true
begun_left true = refl
begun_left false = refl

left_here : (ls : List (Xid × Bool)) → AllIn IsBegun (states_left ls)
left_here [] = tt
left_here (e ∷ es) = (begun_left e.1, left_here es)

both_off : (a b : Bool) → (a || b) ≡ false → (a ≡ false) × (b ≡ false)
both_off false b h = (refl, h)
both_off true b h = absurd cc

left_apart : (x : Xid) (es : List (Xid × Bool)) → list_any (λ f. same f.0 x) es ≡ false
    → AllByRecursion (λ f. same f.0 x ≡ false) (states_left es)
left_apart x [] h = tt
left_apart x (e ∷ es) h =
    let parts = both_off (same e.0 x) (list_any (λ f. same f.0 x) es) h in
    (parts.0, left_apart x es parts.1)

left_named : (ls : List (Xid × Bool)) → has_twice ls ≡ false → AreNamedOnce (states_left ls)
left_named [] h = tt
left_named (e ∷ es) h =
    let parts = both_off (list_any (λ f. same f.0 e.0) es) (has_twice es) h in
    (left_apart e.0 es parts.0, left_named es parts.1)

pub none_listed : (es : List (ℕ × Option Xid)) → length es ≡ 0 → AreThreadsListedOnce es
none_listed [] h = tt
none_listed (e ∷ es) h = absurd (omega arith)

-- What the judge brings back.

-- a state after the restart, with these branches brought back
record IsShut (u s : Sight) (bs : List JudgedBranch) : Type 0 where
  opened : u.opened ≡ false
  waits : u.hung ≡ s.hung
  links : u.links ≡ []
  migrated : u.migrated ≡ []
  scans : u.scans ≡ []
  listed : u.listed ≡ []
  lost : u.lost ≡ []
  branches : u.branches ≡ filter is_in_doubt s.branches ++ bs

contains_map : (f : Sight → Sight) (us : List Sight) (u : Sight) → Contains us u → Contains (map f us) (f u)
contains_map f us u h = (
  h.0,
  subst (λ k. h.0 < k) (sym (length-map us f)) h.1,
  get_or-map f us h.0 u (f u) h.1 ∙ ap f h.2,
)

one_more : (ws : List Work) (us : List Sight) (u : Sight) (b : JudgedBranch) (c : Bool) → Contains us u
    → Contains (maybe_back ws us b) (if c then brought_back b ws u else u)
one_more ws us u b true h = Contains-append_right us (map (brought_back b ws) us) (brought_back b ws u)
    (contains_map (brought_back b ws) us u h)
one_more ws us u b false h = Contains-append_left us (map (brought_back b ws) us) u h

module _ (n : NameNumbers) (to : Xid → BranchState) where
  -- those of the remembered branches that are prepared then
  abbrev chosen : (bs : List JudgedBranch) → AllByRecursion (IsLost n) bs → List JudgedBranch
  chosen [] a = []
  chosen (b ∷ bs) a = if is_three (to a.0.xid) then b ∷ chosen bs a.1 else chosen bs a.1

  abbrev back_to : List Work → Sight → (bs : List JudgedBranch) → AllByRecursion (IsLost n) bs → Sight
  back_to ws u [] a = u
  back_to ws u (b ∷ bs) a = back_to ws (if is_three (to a.0.xid) then brought_back b ws u else u) bs a.1

  in_fold : (ws : List Work) (us : List Sight) (u : Sight) (bs : List JudgedBranch)
      (a : AllByRecursion (IsLost n) bs)
      → Contains us u → Contains (fold (maybe_back ws) us bs) (back_to ws u bs a)
  in_fold ws us u [] a h = h
  in_fold ws us u (b ∷ bs) a h =
      in_fold ws (maybe_back ws us b) (if is_three (to a.0.xid) then brought_back b ws u else u) bs a.1
      (one_more ws us u b (is_three (to a.0.xid)) h)

  shut_back : (ws : List Work) (u s : Sight) (bs before : List JudgedBranch)
      (a : AllByRecursion (IsLost n) bs)
      → IsShut u s before → IsShut (back_to ws u bs a) s (before ++ chosen bs a)
  shut_back ws u s [] before a h = subst (λ (cs : List JudgedBranch). IsShut u s cs)
      (sym (append-nil before)) h
  shut_back ws u s (b ∷ bs) before a h =
      by (λ v cs k. shut_back ws v s bs cs a.1 k) (is_three (to a.0.xid))
    where
      by : ((v : Sight) (cs : List JudgedBranch) → IsShut v s cs
          → IsShut (back_to ws v bs a.1) s (cs ++ chosen bs a.1))
          → (c : Bool) → IsShut (back_to ws (if c then brought_back b ws u else u) bs a.1) s
          (before ++ (if c then b ∷ chosen bs a.1 else chosen bs a.1))
      by rest true = subst (λ (cs : List JudgedBranch). IsShut (back_to ws (brought_back b ws u) bs a.1) s cs)
          (append_assoc before (b ∷ []) (chosen bs a.1))
          (rest (brought_back b ws u) (before ++ b ∷ []) (record {
            opened = h.opened;
            waits = h.waits;
            links = h.links;
            migrated = h.migrated;
            scans = h.scans;
            listed = h.listed;
            lost = h.lost;
            branches = ap (λ (cs : List JudgedBranch). cs ++ b ∷ []) h.branches
                ∙ append_assoc (filter is_in_doubt s.branches) before (b ∷ []);
          }))
      by rest false = rest u before h

  chosen_each : (f : Xid → JudgedDecision) (bs : List JudgedBranch) (a : AllByRecursion (IsLost n) bs)
      → AllByRecursion (IsBranch n to f) (chosen bs a)
  chosen_each f [] a = tt
  chosen_each f (b ∷ bs) a = by (chosen_each f bs a.1) (is_three (to a.0.xid)) refl where
    by : AllByRecursion (IsBranch n to f) (chosen bs a.1) → (c : Bool) → is_three (to a.0.xid) ≡ c
        → AllByRecursion (IsBranch n to f) (if c then b ∷ chosen bs a.1 else chosen bs a.1)
    by rest true e = (
      record {
        xid = a.0.xid;
        is = a.0.is;
        stands = ap (λ z. stand_as z (f a.0.xid)) (three_is (to a.0.xid) e)
            ∙ ap (λ k. Some k) (sym a.0.prepared);
      },
      rest,
    )
    by rest false e = rest

  -- what the judge knows of data then
  back_works : (ws : List Work) (u : Sight) (bs : List JudgedBranch) (a : AllByRecursion (IsLost n) bs)
      → (back_to ws u bs a).works
      ≡ fold (λ (js : List Work) (b : JudgedBranch). js ++ works_of b.name ws) u.works (chosen bs a)
  back_works ws u [] a = refl
  back_works ws u (b ∷ bs) a = by (λ v. back_works ws v bs a.1) (is_three (to a.0.xid)) where
    by : ((v : Sight) → (back_to ws v bs a.1).works
        ≡ fold (λ (js : List Work) (b : JudgedBranch). js ++ works_of b.name ws) v.works (chosen bs a.1))
        → (c : Bool) → (back_to ws (if c then brought_back b ws u else u) bs a.1).works
        ≡ fold (λ (js : List Work) (b : JudgedBranch). js ++ works_of b.name ws) u.works
        (if c then b ∷ chosen bs a.1 else chosen bs a.1)
    by rest true = rest (brought_back b ws u)
    by rest false = rest u

  back_values : (ws : List Work) (u : Sight) (bs : List JudgedBranch) (a : AllByRecursion (IsLost n) bs)
      → (back_to ws u bs a).values ≡ fold (λ (vs : List JudgedWrite) (b : JudgedBranch). unsettled b.name vs)
      u.values (chosen bs a)
  back_values ws u [] a = refl
  back_values ws u (b ∷ bs) a = by (λ v. back_values ws v bs a.1) (is_three (to a.0.xid)) where
    by : ((v : Sight) → (back_to ws v bs a.1).values
        ≡ fold (λ (vs : List JudgedWrite) (b : JudgedBranch). unsettled b.name vs) v.values (chosen bs a.1))
        → (c : Bool) → (back_to ws (if c then brought_back b ws u else u) bs a.1).values
        ≡ fold (λ (vs : List JudgedWrite) (b : JudgedBranch). unsettled b.name vs) u.values
        (if c then b ∷ chosen bs a.1 else chosen bs a.1)
    by rest true = rest (brought_back b ws u)
    by rest false = rest u

  back_lost : (ws : List Work) (u : Sight) (bs : List JudgedBranch) (a : AllByRecursion (IsLost n) bs)
      → (back_to ws u bs a).lost_works ≡ u.lost_works
  back_lost ws u [] a = refl
  back_lost ws u (b ∷ bs) a = by (λ v. back_lost ws v bs a.1) (is_three (to a.0.xid)) where
    by : ((v : Sight) → (back_to ws v bs a.1).lost_works ≡ v.lost_works)
        → (c : Bool) → (back_to ws (if c then brought_back b ws u else u) bs a.1).lost_works ≡ u.lost_works
    by rest true = rest (brought_back b ws u)
    by rest false = rest u

  chosen_back : (s : Sight) (bs : List JudgedBranch) (a : AllByRecursion (IsLost n) bs)
      → AllByRecursion (λ b. is_some (branch_at b.name (restarted s)) ≡ false) bs
      → AllByRecursion (IsBack n s to) (chosen bs a)
  chosen_back s [] a free = tt
  chosen_back s (b ∷ bs) a free = by (chosen_back s bs a.1 free.1) (is_three (to a.0.xid)) refl where
    by : AllByRecursion (IsBack n s to) (chosen bs a.1) → (c : Bool) → is_three (to a.0.xid) ≡ c
        → AllByRecursion (IsBack n s to) (if c then b ∷ chosen bs a.1 else chosen bs a.1)
    by rest true e = (
      record { xid = a.0.xid; is = a.0.is; three = three_is (to a.0.xid) e; free = free.0 },
      rest,
    )
    by rest false e = rest

  chosen_has : (x : Xid) → to x ≡ S3 → (bs : List JudgedBranch) (a : AllByRecursion (IsLost n) bs)
      → list_any (is_named (n.xid x)) bs ≡ true → list_any (is_named (n.xid x)) (chosen bs a) ≡ true
  chosen_has x q [] a h = h
  chosen_has x q (b ∷ bs) a h = by (λ k. chosen_has x q bs a.1 k) (is_three (to a.0.xid)) refl where
    by : (list_any (is_named (n.xid x)) bs ≡ true → list_any (is_named (n.xid x)) (chosen bs a.1) ≡ true)
        → (c : Bool) → is_three (to a.0.xid) ≡ c
        → list_any (is_named (n.xid x)) (if c then b ∷ chosen bs a.1 else chosen bs a.1) ≡ true
    by rest true e = elim (or_cases (is_named (n.xid x) b) (list_any (is_named (n.xid x)) bs) h) [
      | inl here ↦ or_left (is_named (n.xid x) b) (list_any (is_named (n.xid x)) (chosen bs a.1)) here
      | inr more ↦ or_right (is_named (n.xid x) b) (list_any (is_named (n.xid x)) (chosen bs a.1)) (rest more)
    ]
    by rest false e = elim (or_cases (is_named (n.xid x) b) (list_any (is_named (n.xid x)) bs) h) [
      | inl here ↦ (let own : a.0.xid ≡ x = n.xids_apart a.0.xid x
          (sym a.0.is ∙ eqb-true b.name (n.xid x) here) in
          absurd (false≢true (sym e ∙ ap (λ y. is_three (to y)) own ∙ ap is_three q)))
      | inr more ↦ rest more
    ]

-- The step.

module _ (n : NameNumbers) (old new : States) (d f : Xid → JudgedDecision) (l l' : Xid → Bool)
    (s : Sight) (cut : Bool)
    (mirrors : Mirrors n old d s) (lost : AreLost n l s.lost) (h : DeedRestarts old new d f l l' cut) where
  abbrev from : Xid → BranchState
  from = state_in old.branches.branches

  abbrev to_state : Xid → BranchState
  to_state = state_in new.branches.branches

  abbrev doubted : List JudgedBranch
  doubted = filter is_in_doubt s.branches

  quiet_all : (x : Xid) → is_quiet (to_state x) ≡ true
  quiet_all x = returned_quiet (from x) (to_state x) (cut && l x) (h.states x)

  doubted_each : AllByRecursion (IsBranch n to_state f) doubted
  doubted_each = all_where (IsBranch n from d) (IsBranch n to_state f) is_in_doubt (λ b passes is. record {
    xid = is.xid;
    is = is.is;
    stands = doubt_stays (from is.xid) (to_state is.xid) (d is.xid) (f is.xid) b.stand (cut && l is.xid)
        is.stands passes
        (h.states is.xid) (h.known is.xid);
  }) s.branches mirrors.branches.each

  -- the branch of a name, at its own state
  own_stand : (x : Xid) (b : JudgedBranch) → (is : IsBranch n from d b) → is_named (n.xid x) b ≡ true
      → stand_as (from x) (d x) ≡ Some b.stand
  own_stand x b is named = subst (λ (y : Xid). stand_as (from y) (d y) ≡ Some b.stand)
      (n.xids_apart is.xid x (sym is.is ∙ eqb-true b.name (n.xid x) named)) is.stands

  doubted_here : (x : Xid) → is_doubt (from x) ≡ true → list_any (is_named (n.xid x)) doubted ≡ true
  doubted_here x q = any_filter (is_named (n.xid x)) is_in_doubt s.branches
      ∙ (any_pick (IsBranch n from d) (is_named (n.xid x))
      (λ (c : Bool) (b : JudgedBranch). is_in_doubt b && is_named (n.xid x) b)
      (λ b is named. (
        true,
        and_from (is_in_doubt b) (is_named (n.xid x) b)
            (doubt_waits (from x) (d x) b.stand q (own_stand x b is named)) named,
      )) s.branches mirrors.branches.each (mirrors.branches.known x ∙ doubt_begun (from x) q)).1
    where
      doubt_begun : (z : BranchState) → is_doubt z ≡ true → is_begun z ≡ true
      doubt_begun S0 e = absurd (false≢true e)
      doubt_begun S1 e = refl
      doubt_begun S2 e = refl
      doubt_begun S3 e = refl
      doubt_begun S4 e = refl
      doubt_begun S5 e = refl

  -- a branch that is not in doubt is not among those that stay
  doubted_none : (x : Xid) → is_doubt (from x) ≡ false → list_any (is_named (n.xid x)) doubted ≡ false
  doubted_none x q = false_from_ne_true (list_any (is_named (n.xid x)) doubted) (λ e.
      let w = any_where (λ b. IsBranch n from d b × (is_in_doubt b ≡ true)) (is_named (n.xid x)) doubted e
      (all_where (IsBranch n from d) (λ b. IsBranch n from d b × (is_in_doubt b ≡ true)) is_in_doubt
      (λ b passes is. (is, passes)) s.branches mirrors.branches.each) in
      false≢true (sym q ∙ doubt_state (from x) (d x) w.0.stand (own_stand x w.0 w.2.0 w.1) w.2.1))

  -- the tables are those of a state with such branches
  module _ (u : Sight) (more : List JudgedBranch) (shut : IsShut u s more)
      (more_each : AllByRecursion (IsBranch n to_state f) more)
      (more_here : (x : Xid) → is_doubt (from x) ≡ false → to_state x ≡ S3 → (cut && l x) ≡ true
      → list_any (is_named (n.xid x)) more ≡ true) where
    all_each : AllByRecursion (IsBranch n to_state f) (doubted ++ more)
    all_each = all_append (IsBranch n to_state f) doubted more doubted_each more_each

    known_by : (x : Xid) → list_any (is_named (n.xid x)) (doubted ++ more) ≡ is_begun (to_state x)
    known_by x = bool_same (list_any (is_named (n.xid x)) (doubted ++ more)) (is_begun (to_state x))
        there back where
          there : list_any (is_named (n.xid x)) (doubted ++ more) ≡ true → is_begun (to_state x) ≡ true
          there e =
              let w = any_where (IsBranch n to_state f) (is_named (n.xid x)) (doubted ++ more) e all_each in
              let own : w.2.xid ≡ x = n.xids_apart w.2.xid x (sym w.2.is ∙ eqb-true w.0.name (n.xid x) w.1) in
              begun_stand (to_state x) (f x) w.0.stand
              (subst (λ (y : Xid). stand_as (to_state y) (f y) ≡ Some w.0.stand) own w.2.stands)

          back : is_begun (to_state x) ≡ true → list_any (is_named (n.xid x)) (doubted ++ more) ≡ true
          back e = list_any-append (is_named (n.xid x)) doubted more
              ∙ by_doubt ((list_any (is_named (n.xid x)) doubted || list_any (is_named (n.xid x)) more)
              ≡ true)
              (from x) (to_state x) (cut && l x) (h.states x) e
              (λ q. or_left (list_any (is_named (n.xid x)) doubted) (list_any (is_named (n.xid x)) more)
              (doubted_here x q))
              (λ q p b. or_right (list_any (is_named (n.xid x)) doubted) (list_any (is_named (n.xid x)) more)
              (more_here x q p b))

    free : IsFree new.associations
    free = (
      λ t x. empty_states new.associations h.tables.associations h.tables.seats t x,
      λ x. bare_moved new.associations h.tables.associations x,
    )

    unlinked : Tied n new.associations [] []
    unlinked = record {
      one = λ t x. sym (ap is_one (free.0 t x));
      two = λ t x. sym (ap is_two (free.0 t x));
      named = tt;
      moved = λ x. sym (free.1 x);
      moved_named = tt;
    }

    orderly : IsOrderly new.branches.branches new.associations
    orderly = record {
      once = none_listed new.associations.holders h.tables.associations.holders;
      here = subst (λ (bs : List (Xid × BranchState)). AllIn IsBegun bs) (sym h.tables.branches)
          (left_here h.left);
      named = subst (λ (bs : List (Xid × BranchState)). AreNamedOnce bs) (sym h.tables.branches)
          (left_named h.left h.once);
      busy = λ x e. absurd (false≢true (sym (ap is_quiet e) ∙ quiet_all x));
      quiet = λ t x e. free.0 t x;
      unmoved = λ x e. free.1 x;
      kept = λ t x. inl (free.0 t x);
      holding = λ t e. absurd (no_holders new.associations.holders t h.tables.associations.holders e);
    }

    unscanned : AreScans n new.branches.scans [] []
    unscanned = record {
      open_so = λ t. sym (ap (λ (z : ScanList). has_scan z t) h.tables.scans);
      each = λ t rest e. absurd (let g : None ≡ Some rest =
          sym (ap (λ (z : ScanList). scan_of z t) h.tables.scans) ∙ e in cc);
    }

    shut_mirrors : Mirrors n new f u
    shut_mirrors = record {
      opened = shut.opened ∙ sym (ap (λ i. not (is_closed i)) h.tables.init);
      waits = shut.waits ∙ mirrors.waits;
      tied = subst (λ (ls : List Link). Tied n new.associations ls u.migrated) (sym shut.links)
          (subst (λ (ms : List ℕ). Tied n new.associations [] ms) (sym shut.migrated) unlinked);
      branches = subst (λ (bs : List JudgedBranch). AreBranches n to_state f bs) (sym shut.branches)
          (record { each = all_each; known = known_by });
      orderly = orderly;
      shut = λ e. free;
      scans = subst (λ (ts : List ℕ). AreScans n new.branches.scans ts u.listed) (sym shut.scans)
          (subst (λ (ls : List Listed). AreScans n new.branches.scans [] ls) (sym shut.listed) unscanned);
    }

    none_remembered : AreLost n l' u.lost
    none_remembered = subst (λ (bs : List JudgedBranch). AreLost n l' bs) (sym shut.lost)
        (record { each = tt; here = λ x e. absurd (h.forgets x e) })

  base : IsShut (restarted s) s []
  base = record {
    opened = refl;
    waits = refl;
    links = refl;
    migrated = refl;
    scans = refl;
    listed = refl;
    lost = refl;
    branches = sym (append-nil doubted);
  }

  abbrev Restarts_so : Bool → Type 0
  Restarts_so c = (u : Sight) × Contains (restart_next lacks_forced c s answer.Told) u × Mirrors n new f u
      × AreLost n l' u.lost
      × IsReturned n s u from to_state

  -- the judge keeps the branches in doubt
  kept_doubts : (x : Xid) → list_any (λ b. is_in_doubt b && b.name == n.xid x) s.branches ≡ is_doubt (from x)
  kept_doubts x = sym (any_filter (is_named (n.xid x)) is_in_doubt s.branches)
      ∙ by (is_doubt (from x)) refl where
        by : (b : Bool) → is_doubt (from x) ≡ b → list_any (is_named (n.xid x)) doubted ≡ is_doubt (from x)
        by true q = doubted_here x q ∙ sym q
        by false q = doubted_none x q ∙ sym q

  -- a branch that was not in doubt is back only if a crash may bring it back
  brought : (x : Xid) → is_doubt (from x) ≡ false → to_state x ≡ S3 → (cut && l x) ≡ true
  brought x q p = by_doubt ((cut && l x) ≡ true) (from x) (to_state x) (cut && l x)
      (h.states x) (ap is_begun p)
      (λ e. absurd (false≢true (sym q ∙ e))) (λ e t b. b)

-- all bytes are kept
whole_goes : (n : NameNumbers) (old new : States) (d f : Xid → JudgedDecision) (l l' : Xid → Bool) (s : Sight)
    (mirrors : Mirrors n old d s) (lost : AreLost n l s.lost) (h : DeedRestarts old new d f l l' false)
    → Restarts_so n old new d f l l' s false mirrors lost h false
whole_goes n old new d f l l' s mirrors lost h = (
  restarted s,
  first_in (restarted s) [],
  shut_mirrors n old new d f l l' s false mirrors lost h (restarted s) []
      (base n old new d f l l' s false mirrors lost h) tt
      (λ x q p e. absurd (false≢true e)),
  none_remembered n old new d f l l' s false mirrors lost h (restarted s) []
      (base n old new d f l l' s false mirrors lost h) tt
      (λ x q p e. absurd (false≢true e)),
  record {
    back = [];
    works = refl;
    values = refl;
    lost_works = refl;
    each = tt;
    here = λ x q p. absurd (false≢true (brought n old new d f l l' s false mirrors lost h x q p));
    kept = kept_doubts n old new d f l l' s false mirrors lost h;
  },
)

-- some may be cut off
cut_goes : (n : NameNumbers) (old new : States) (d f : Xid → JudgedDecision) (l l' : Xid → Bool) (s : Sight)
    (mirrors : Mirrors n old d s) (lost : AreLost n l s.lost) (h : DeedRestarts old new d f l l' true)
    → Restarts_so n old new d f l l' s true mirrors lost h true
cut_goes n old new d f l l' s mirrors lost h = (
  u,
  in_fold n to s.lost_works (one (restarted s)) (restarted s) back all (first_in (restarted s) []),
  shut_mirrors n old new d f l l' s true mirrors lost h u (chosen n to back all) shut
      (chosen_each n to f back all) here,
  none_remembered n old new d f l l' s true mirrors lost h u (chosen n to back all) shut
      (chosen_each n to f back all) here,
  record {
    back = chosen n to back all;
    works = back_works n to s.lost_works (restarted s) back all;
    values = back_values n to s.lost_works (restarted s) back all;
    lost_works = back_lost n to s.lost_works (restarted s) back all;
    each = chosen_back n to s back all (all_where (IsLost n)
        (λ b. is_some (branch_at b.name (restarted s)) ≡ false)
        (λ b. not (is_some (branch_at b.name (restarted s))))
        (λ b passes is. not-true (is_some (branch_at b.name (restarted s))) passes) s.lost lost.each);
    here = λ x q p. here x q p (brought n old new d f l l' s true mirrors lost h x q p);
    kept = kept_doubts n old new d f l l' s true mirrors lost h;
  },
) where
  to : Xid → BranchState
  to = state_in new.branches.branches

  back : List JudgedBranch
  back = may_return (restarted s) s.lost

  all : AllByRecursion (IsLost n) back
  all = all_filter (IsLost n) (λ b. not (is_some (branch_at b.name (restarted s)))) s.lost lost.each

  u : Sight
  u = back_to n to s.lost_works (restarted s) back all

  shut : IsShut u s (chosen n to back all)
  shut = shut_back n to s.lost_works (restarted s) s back [] all
      (base n old new d f l l' s true mirrors lost h)

  here : (x : Xid) → is_doubt (state_in old.branches.branches x) ≡ false → to x ≡ S3 → (true && l x) ≡ true
      → list_any (is_named (n.xid x)) (chosen n to back all) ≡ true
  here x q p e = chosen_has n to x p back all
      (any_kept (is_named (n.xid x)) (λ b. not (is_some (branch_at b.name (restarted s))))
      (λ b named. not_from_false (is_some (branch_at b.name (restarted s)))
      (ap (λ y. is_some (branch_at y (restarted s))) (eqb-true b.name (n.xid x) named)
      ∙ find_any (is_named (n.xid x)) (filter is_in_doubt s.branches)
      ∙ doubted_none n old new d f l l' s true mirrors lost h x q)) s.lost
      ∙ lost.here x e)

pub restart_goes : (n : NameNumbers) (old new : States) (d f : Xid → JudgedDecision) (l l' : Xid → Bool)
    (s : Sight) (cut : Bool)
    → Mirrors n old d s → AreLost n l s.lost → DeedRestarts old new d f l l' cut
    → (u : Sight) × Contains (restart_next lacks_forced cut s answer.Told) u × Mirrors n new f u
    × AreLost n l' u.lost
    × IsReturned n s u (state_in old.branches.branches) (state_in new.branches.branches)
restart_goes n old new d f l l' s true mirrors lost h = cut_goes n old new d f l l' s mirrors lost h
restart_goes n old new d f l l' s false mirrors lost h = whole_goes n old new d f l l' s mirrors lost h
