-- The open scans of threads, as a key store has them and as the judge has them.
use Rattle.std.proofs.Common.{◌≡◌, ℕ, Bool, true, false, not, Some, List, [], ◌∷◌, ◌++◌, map, ◌&&◌, ◌||◌, refl, sym, subst, ◌∙◌}
use Rattle.std.specs.Prelude.{◌==◌, if◌then◌else◌}
use Rattle.std.specs.List.{list_all, list_any, AllByRecursion}
use Rattle.std.proofs.lemmas.Bool.{and_from, and_parts, or_left}
use Rattle.std.proofs.lemmas.List.Folds.{list_all-append, list_all-map, list_any-append}
use Rattle.xa_xid.specs.declared.xid.Xid.{Xid}
use Rattle.xa_branch.specs.Scans.{ScanList, has_scan, scan_of}
use Rattle.judge_state.specs.declared.parts.Listed.{Listed}
use Rattle.judge_state.specs.Moves.{new_lines, not_due, without_due}
use Rattle.judge_state.specs.Scans.{are_distinct, has}
use Rattle.proof_judged_deeds.specs.Names.{NameNumbers}
use Rattle.proof_judged_deeds.proofs.Lists.{all_weaker, any_agree, any_map}

-- a scan of a thread may give a branch
abbrev pub is_line : ℕ → ℕ → Listed → Bool
is_line t x l = l.thread == t && l.branch == x && not l.given

-- a line of a scan of a thread that is due is of one of these
abbrev pub is_paid : ℕ → List ℕ → Listed → Bool
is_paid t xs l = not (l.thread == t && l.due && not l.given) || has xs l.branch

-- what a scan of a thread has left to give: none twice, each of them may be given, and it owes no others
pub record IsScan (n : NameNumbers) (t : ℕ) (rest : List Xid) (ls : List Listed) : Type 0 where
  pub apart : are_distinct (map n.xid rest) ≡ true
  pub may : AllByRecursion (λ x. list_any (is_line t (n.xid x)) ls ≡ true) rest
  pub owes : list_all (is_paid t (map n.xid rest)) ls ≡ true

-- the scans of a manager are those of the judge
pub record AreScans (n : NameNumbers) (scans : ScanList) (ts : List ℕ) (ls : List Listed) : Type 0 where
  pub open_so : (t : ℕ) → list_any (λ u. u == t) ts ≡ has_scan scans t
  pub each : (t : ℕ) (rest : List Xid) → scan_of scans t ≡ Some rest → IsScan n t rest ls

pub all_true : {X : Type 0} (p : X → Bool) → ((x : X) → p x ≡ true) → (xs : List X) → list_all p xs ≡ true
all_true p h [] = refl
all_true p h (x ∷ xs) = and_from (p x) (list_all p xs) (h x) (all_true p h xs)

pub all_implied : {X : Type 0} (p q : X → Bool) → ((x : X) → p x ≡ true → q x ≡ true) → (xs : List X)
    → list_all p xs ≡ true → list_all q xs ≡ true
all_implied p q h [] e = refl
all_implied p q h (x ∷ xs) e =
    let parts = and_parts (p x) (list_all p xs) e in
    and_from (q x) (list_all q xs) (h x parts.0) (all_implied p q h xs parts.1)

paid_new : (b c : Bool) → (not (b && false && not false) || c) ≡ true
paid_new true c = refl
paid_new false c = refl

paid_less : (b g c : Bool) → (not (b && false && not g) || c) ≡ true
paid_less true g c = refl
paid_less false g c = refl

-- lines that are not due may be added to any scans
pub scan_more : (n : NameNumbers) (t x : ℕ) (ts : List ℕ) (rest : List Xid) (ls : List Listed)
    → IsScan n t rest ls
    → IsScan n t rest (ls ++ new_lines x ts)
scan_more n t x ts rest ls scan = record {
  apart = scan.apart;
  may = all_weaker (λ y. list_any (is_line t (n.xid y)) ls ≡ true)
      (λ y. list_any (is_line t (n.xid y)) (ls ++ new_lines x ts) ≡ true)
      (λ y h. list_any-append (is_line t (n.xid y)) ls (new_lines x ts)
      ∙ or_left (list_any (is_line t (n.xid y)) ls) (list_any (is_line t (n.xid y)) (new_lines x ts)) h) rest
      scan.may;
  owes = list_all-append (is_paid t (map n.xid rest)) ls (new_lines x ts)
      ∙ and_from (list_all (is_paid t (map n.xid rest)) ls)
      (list_all (is_paid t (map n.xid rest)) (new_lines x ts)) scan.owes
      (list_all-map (is_paid t (map n.xid rest))
      (λ (u : ℕ). record { thread = u; branch = x; given = false; due = false }) ts
      ∙ all_true (λ u. is_paid t (map n.xid rest)
      (record { thread = u; branch = x; given = false; due = false }))
      (λ u. paid_new (u == t) (has (map n.xid rest) x)) ts);
}

pub scans_more : (n : NameNumbers) (x : ℕ) (us : List ℕ) (scans : ScanList) (ts : List ℕ) (ls : List Listed)
    → AreScans n scans ts ls → AreScans n scans ts (ls ++ new_lines x us)
scans_more n x us scans ts ls are = record {
  open_so = are.open_so;
  each = λ t rest e. scan_more n t x us rest ls (are.each t rest e);
}

line_by : (t x : ℕ) (b : Bool) (l : Listed) → is_line t x (if b then without_due l else l) ≡ is_line t x l
line_by t x true l = refl
line_by t x false l = refl

paid_by : (t : ℕ) (xs : List ℕ) (b : Bool) (l : Listed) → is_paid t xs l ≡ true
    → is_paid t xs (if b then without_due l else l) ≡ true
paid_by t xs true l h = paid_less (l.thread == t) l.given (has xs l.branch)
paid_by t xs false l h = h

-- no scan owes a branch any more
pub scan_less : (n : NameNumbers) (t x : ℕ) (rest : List Xid) (ls : List Listed) → IsScan n t rest ls
    → IsScan n t rest (not_due x ls)
scan_less n t x rest ls scan = record {
  apart = scan.apart;
  may = all_weaker (λ y. list_any (is_line t (n.xid y)) ls ≡ true)
      (λ y. list_any (is_line t (n.xid y)) (not_due x ls) ≡ true)
      (λ y h. any_map (is_line t (n.xid y)) (λ (l : Listed). if l.branch == x then without_due l else l) ls
      ∙ any_agree (λ (l : Listed). is_line t (n.xid y) (if l.branch == x then without_due l else l))
      (is_line t (n.xid y))
      (λ l. line_by t (n.xid y) (l.branch == x) l) ls ∙ h) rest scan.may;
  owes = list_all-map (is_paid t (map n.xid rest))
      (λ (l : Listed). if l.branch == x then without_due l else l) ls
      ∙ all_implied (is_paid t (map n.xid rest))
      (λ (l : Listed). is_paid t (map n.xid rest) (if l.branch == x then without_due l else l))
      (λ l h. paid_by t (map n.xid rest) (l.branch == x) l h) ls scan.owes;
}

pub scans_less : (n : NameNumbers) (x : ℕ) (scans : ScanList) (ts : List ℕ) (ls : List Listed)
    → AreScans n scans ts ls → AreScans n scans ts (not_due x ls)
scans_less n x scans ts ls are = record {
  open_so = are.open_so;
  each = λ t rest e. scan_less n t x rest ls (are.each t rest e);
}

-- a manager whose scans stay has those of the judge still
pub scans_stay : (n : NameNumbers) (old new : ScanList) (ts : List ℕ) (ls : List Listed) → new ≡ old
    → AreScans n old ts ls
    → AreScans n new ts ls
scans_stay n old new ts ls e are = subst (λ (s : ScanList). AreScans n s ts ls) (sym e) are
