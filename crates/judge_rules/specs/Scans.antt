-- What a recover may give, and what a thread may read and write.
use Rattle.std.specs.Prelude.{ℕ, Bool, ◌&&◌, ◌||◌, not, List, length, Option, Some, None, nat_le, if◌then◌else◌}
use Rattle.std.specs.List.{list_all}
use Rattle.xa_tables.specs.Calls.{start_scan, end_scan}
use Rattle.judge_state.specs.declared.parts.JudgedBranch.{JudgedBranch}
use Rattle.judge_state.specs.Sights.{Sight}
use Rattle.judge_state.specs.Questions.{branch_at}
use Rattle.judge_state.specs.Moves.{outside, worked, written}
use Rattle.judge_state.specs.Scans.{are_distinct, has_value, has_worked, is_worked, may_give, may_read, owes_only, scan_closed, scan_given, scan_opened}
use Rattle.judge_rules.specs.declared.words.Rules.{Rules}
use Rattle.judge_rules.specs.Flags.{has}
use Rattle.judge_rules.specs.Defects.{is_unscanned}
use Rattle.judge_rules.specs.Passes.{one, one_if}

-- the scan that a recover goes on with
abbrev pub scan_in : ℕ → ℕ → Sight → Sight
scan_in t f s = if has f start_scan then scan_opened t s else s

-- this number of branches leaves none out: fewer than are asked for; or the manager counts not
abbrev pub is_short : Rules → ℕ → List ℕ → Bool
is_short r count xs = r.lacks.count || not (nat_le count (length xs))

-- a scan may give these branches: none twice, none that was given or is not eligible, no more than are asked
-- for; and where they are fewer, nothing that is due is left out
abbrev pub may_give_all : Rules → ℕ → ℕ → List ℕ → Sight → Bool
may_give_all r t count xs u =
    are_distinct xs && list_all (may_give t u) xs && (r.lacks.count || nat_le (length xs) count)
    && (not (is_short r count xs) || owes_only t xs u)

-- the scan after it gave these
abbrev pub scan_after : ℕ → ℕ → List ℕ → Sight → Sight
scan_after t f xs u = if has f end_scan then scan_closed t u else scan_given t xs u

-- a recover gives these branches: any, where the manager has no scans and none was started
abbrev pub given_rows : Rules → Sight → ℕ → ℕ → ℕ → List ℕ → List Sight
given_rows r s t count f xs =
    if is_unscanned s t f then one s
    else one_if (may_give_all r t count xs (scan_in t f s)) (scan_after t f xs (scan_in t f s))

-- the number of commits when a branch began; of one that is not known, now
abbrev pub since_of : Option JudgedBranch → Sight → ℕ
since_of None s = length s.values
since_of (Some b) s = b.since

-- what others have committed since, and, if nothing is isolated, what they have not
abbrev pub may_see : Rules → ℕ → ℕ → ℕ → Sight → Bool
may_see r since k v s = may_read since k v s || (r.lacks.isolation && is_worked k v s)

-- a branch reads its own write, if it has one under the key
abbrev pub reads_in : Rules → ℕ → ℕ → ℕ → Sight → Bool
reads_in r x k v s =
    if has_worked x k s then has_value x k v s else may_see r (since_of (branch_at x s) s) k v s

-- a thread reads a value: in its branch, or outside of any the last one that was committed
abbrev pub read_rows : Rules → Option ℕ → ℕ → ℕ → ℕ → Sight → List Sight
read_rows r (Some x) t k v s = one_if (reads_in r x k v s) s
read_rows r None t k v s = one_if (may_see r (length s.values) k v s) (outside t s)

-- a thread writes a value: in its branch, or outside of any
abbrev pub write_row : Option ℕ → ℕ → ℕ → ℕ → Sight → Sight
write_row (Some x) t k v s = worked x k v s
write_row None t k v s = written t k v s
