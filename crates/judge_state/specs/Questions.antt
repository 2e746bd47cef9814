-- What is asked of a state.
use Rattle.std.specs.Prelude.{ℕ, Bool, ◌&&◌, ◌||◌, not, ◌==◌, List, length, Option, Some, None, find, option_map}
use Rattle.std.specs.List.{list_any}
use Rattle.judge_state.specs.declared.parts.JudgedBranch.{JudgedBranch}
use Rattle.judge_state.specs.declared.parts.Link.{Link}
use Rattle.judge_state.specs.Parts.{is_at_work, is_named}
use Rattle.judge_state.specs.Sights.{Sight}

-- the branch of a name, where it is known
abbrev pub branch_at : ℕ → Sight → Option JudgedBranch
branch_at x s = find (is_named x) s.branches

-- an association T1 of a thread
abbrev pub is_active_link : ℕ → Link → Bool
is_active_link t l = l.thread == t && not l.suspended

-- a thread is active in some branch
abbrev pub is_active : ℕ → Sight → Bool
is_active t s = list_any (is_active_link t) s.links

-- the branch that a thread is active in
abbrev pub active_of : ℕ → Sight → Option ℕ
active_of t s = option_map (λ l. l.branch) (find (is_active_link t) s.links)

-- T1: a thread is active in a branch
abbrev pub has_active : ℕ → ℕ → Sight → Bool
has_active t x s = list_any (λ l. l.thread == t && l.branch == x && not l.suspended) s.links

-- some thread is active in a branch
abbrev pub is_entered : ℕ → Sight → Bool
is_entered x s = list_any (λ l. l.branch == x && not l.suspended) s.links

-- T2: a thread has suspended a branch
abbrev pub has_suspended : ℕ → ℕ → Sight → Bool
has_suspended t x s = list_any (λ l. l.thread == t && l.branch == x && l.suspended) s.links

-- T1 or T2: a thread is associated with a branch
abbrev pub has_link : ℕ → ℕ → Sight → Bool
has_link t x s = list_any (λ l. l.thread == t && l.branch == x) s.links

-- an association with a branch is suspended for migration
abbrev pub is_migrated : ℕ → Sight → Bool
is_migrated x s = list_any (λ m. m == x) s.migrated

-- a branch has an association of any kind
abbrev pub is_associated : ℕ → Sight → Bool
is_associated x s = list_any (λ l. l.branch == x) s.links || is_migrated x s

-- there is no association at all
abbrev pub is_bare : Sight → Bool
is_bare s = (length s.links == 0) && (length s.migrated == 0)

-- a thread began a branch that is at work
abbrev pub is_busy : ℕ → Sight → Bool
is_busy t s = list_any (λ b. is_at_work b && b.owner == t) s.branches

-- a thread began another branch that is at work
abbrev pub is_busy_elsewhere : ℕ → ℕ → Sight → Bool
is_busy_elsewhere t x s = list_any (λ b. is_at_work b && b.owner == t && not (b.name == x)) s.branches

-- a thread worked outside of any branch
abbrev pub is_outside : ℕ → Sight → Bool
is_outside t s = list_any (λ u. u == t) s.outside

-- a thread has a scan open
abbrev pub is_scanning : ℕ → Sight → Bool
is_scanning t s = list_any (λ u. u == t) s.scans
