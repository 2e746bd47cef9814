-- The scans of a recover, and what a thread may read.
use Rattle.std.specs.Prelude.{ℕ, Bool, true, false, ◌&&◌, ◌||◌, not, ◌==◌, List, [], ◌∷◌, ◌++◌, length, map, filter, take, drop, Option, Some, None, if◌then◌else◌, fold}
use Rattle.std.specs.List.{list_any, list_all}
use Rattle.judge_state.specs.declared.parts.JudgedBranch.{JudgedBranch}
use Rattle.judge_state.specs.declared.parts.Listed.{Listed}
use Rattle.judge_state.specs.declared.parts.Work.{Work}
use Rattle.judge_state.specs.declared.parts.JudgedWrite.{JudgedWrite}
use Rattle.judge_state.specs.Parts.{is_in_doubt}
use Rattle.judge_state.specs.Sights.{Sight}

-- a list of numbers has this one
abbrev pub has : List ℕ → ℕ → Bool
has xs x = list_any (λ y. y == x) xs

-- no number is twice in a list
abbrev pub are_distinct : List ℕ → Bool
are_distinct [] = true
are_distinct (x ∷ xs) = not (has xs x) && are_distinct xs

-- the scan of a thread is closed
abbrev pub scan_closed : ℕ → Sight → Sight
scan_closed t s = record s {
  scans = filter (λ u. not (u == t)) s.scans;
  listed = filter (λ l. not (l.thread == t)) s.listed;
}

-- the list of a new scan: each branch that is in doubt may be given, and is due
abbrev pub due_lines : ℕ → List JudgedBranch → List Listed
due_lines t bs = map (λ b. record { thread = t; branch = b.name; given = false; due = true })
    (filter is_in_doubt bs)

-- a line of a list that was given
abbrev pub with_given : Listed → Listed
with_given l = record l { given = true }

-- the lists of scans, on which the scan of a thread gave these branches
abbrev pub given_lines : ℕ → List ℕ → List Listed → List Listed
given_lines t xs ls = map (λ l. if l.thread == t && has xs l.branch then with_given l else l) ls

-- a thread opens a scan
abbrev pub scan_opened : ℕ → Sight → Sight
scan_opened t s = record s {
  scans = filter (λ u. not (u == t)) s.scans ++ t ∷ [];
  listed = filter (λ l. not (l.thread == t)) s.listed ++ due_lines t s.branches;
}

-- the scan of a thread gives these branches
abbrev pub scan_given : ℕ → List ℕ → Sight → Sight
scan_given t xs s = record s {
  listed = given_lines t xs s.listed;
}

-- the scan of a thread may give a branch
abbrev pub may_give : ℕ → Sight → ℕ → Bool
may_give t s x = list_any (λ l. l.thread == t && l.branch == x && not l.given) s.listed

-- the scan of a thread may not end without a branch
abbrev pub owes : ℕ → ℕ → Sight → Bool
owes t x s = list_any (λ l. l.thread == t && l.branch == x && l.due && not l.given) s.listed

-- what the scan of a thread owes is among these branches
abbrev pub owes_only : ℕ → List ℕ → Sight → Bool
owes_only t xs s = list_all (λ l. not (l.thread == t && l.due && not l.given) || has xs l.branch) s.listed

-- what is committed under a key after one more value: this one, if it is of the key; where it is not sure,
-- what was may still be
abbrev pub held_after : ℕ → ℕ → Bool → JudgedWrite → Bool
held_after k v held w = if w.key == k then w.value == v || (not w.sure && held) else held

-- after these commits a value may be the one under a key
abbrev pub may_hold : ℕ → ℕ → List JudgedWrite → Bool
may_hold k v ws = fold (held_after k v) (v == 0) ws

-- a value was committed under a key
abbrev pub is_written : ℕ → ℕ → List JudgedWrite → Bool
is_written k v ws = list_any (λ w. w.key == k && w.value == v) ws

-- a value was the committed one under a key when this many of these were committed, or later
abbrev pub may_read_in : ℕ → ℕ → ℕ → List JudgedWrite → Bool
may_read_in since k v ws = may_hold k v (take since ws) || is_written k v (drop since ws)

-- a value was the committed one under a key when this many were committed, or later
abbrev pub may_read : ℕ → ℕ → ℕ → Sight → Bool
may_read since k v s = may_read_in since k v s.values

-- some branch has written a value under a key
abbrev pub is_worked : ℕ → ℕ → Sight → Bool
is_worked k v s = list_any (λ w. w.key == k && w.value == v) s.works

-- a branch has written some value under a key
abbrev pub has_worked : ℕ → ℕ → Sight → Bool
has_worked x k s = list_any (λ w. w.branch == x && w.key == k) s.works

-- a branch has written this value under a key
abbrev pub has_value : ℕ → ℕ → ℕ → Sight → Bool
has_value x k v s = list_any (λ w. w.branch == x && w.key == k && w.value == v) s.works
