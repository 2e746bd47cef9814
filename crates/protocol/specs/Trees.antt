-- When a list of processes is a tree.
use Rattle.std.specs.Prelude.{◌≡◌, ◌+◌, ℕ, zero, suc, Bool, true, false, not, ◌==◌, ◌&&◌, ◌||◌, nat_lt, Option, Some, None, is_none, List, [], ◌∷◌, length, find, count_by}
use Rattle.std.specs.List.{list_any}
use Rattle.protocol.specs.declared.names.ProcessId.{ProcessId}
use Rattle.protocol.specs.declared.names.Kind.{Kind}
use Rattle.protocol.specs.declared.names.Kind.TheVariants.{Coordinator, Manager}
use Rattle.protocol.specs.declared.trees.TreeProcess.{TreeProcess}
use Rattle.protocol.specs.declared.trees.TreeError.{TreeError}
use Rattle.protocol.specs.declared.trees.TreeError.TheVariants.{Empty, TooMany, TooDeep, TwoParents, Cycle, ManagerWithChildren, Unknown, Roots}
use Rattle.protocol.specs.Names.{same_process}
use Rattle.protocol.specs.Nodes.{is_listed}

-- the number that is printed
abbrev pub tree_error_number : TreeError → ℕ
tree_error_number Empty = 1
tree_error_number TooMany = 2
tree_error_number TooDeep = 3
tree_error_number TwoParents = 4
tree_error_number Cycle = 5
tree_error_number ManagerWithChildren = 6
tree_error_number Unknown = 7
tree_error_number Roots = 8

-- how many entries have this id
unfoldable pub times_listed : List TreeProcess → ProcessId → ℕ
times_listed es q = count_by (λ e. same_process e.id q) es

-- an id is listed twice
unfoldable pub lists_twice : List TreeProcess → Bool
lists_twice es = list_any (λ e. nat_lt 1 (times_listed es e.id)) es

-- there is a parent, and it is not listed
abbrev pub is_unlisted : List TreeProcess → Option ProcessId → Bool
is_unlisted es None = false
is_unlisted es (Some p) = not (is_listed es p)

-- a parent is not listed
unfoldable pub has_unknown_parent : List TreeProcess → Bool
has_unknown_parent es = list_any (λ e. is_unlisted es e.parent) es

-- the parent of an entry, if there are both
abbrev pub entry_parent : Option TreeProcess → Option ProcessId
entry_parent None = None
entry_parent (Some e) = e.parent

-- the parent of a process, if it is listed and has one
unfoldable pub parent_of : List TreeProcess → ProcessId → Option ProcessId
parent_of es q = entry_parent (find (λ e. same_process e.id q) es)

-- one more, if there is a number
abbrev pub one_more : Option ℕ → Option ℕ
one_more None = None
one_more (Some n) = Some (n + 1)

-- one more than the climb from the parent gives; 1 if there is no parent
abbrev pub levels_above : (ProcessId → Option ℕ) → Option ProcessId → Option ℕ
levels_above climb None = Some 1
levels_above climb (Some p) = one_more (climb p)

-- the level of a process, the root's being 1: how many processes a climb to the parents meets, if it ends
-- within N steps
abbrev pub level_within : ℕ → List TreeProcess → ProcessId → Option ℕ
level_within zero es q = None
level_within (suc k) es q = levels_above (level_within k es) (parent_of es q)

-- the climb from a process does not end within as many steps as there are entries
unfoldable pub has_cycle : List TreeProcess → Bool
has_cycle es = list_any (λ e. is_none (level_within (length es) es e.id)) es

-- an entry has no parent
abbrev pub is_top : TreeProcess → Bool
is_top e = is_none e.parent

-- the id of an entry; 0 if there is none
abbrev pub entry_id : Option TreeProcess → ProcessId
entry_id None = record { 0 = 0 }
entry_id (Some e) = e.id

-- the first process without a parent; process 0 where every one has a parent
unfoldable pub root_of : List TreeProcess → ProcessId
root_of es = entry_id (find is_top es)

-- the kind is a manager's
abbrev pub is_manager_kind : Kind → Bool
is_manager_kind Manager = true
is_manager_kind Coordinator = false

-- more than one entry has no parent, or one that has none is a manager
unfoldable pub has_wrong_roots : List TreeProcess → Bool
has_wrong_roots es = nat_lt 1 (count_by is_top es) || list_any (λ e. is_top e && is_manager_kind e.kind) es

-- the process is listed as a manager
unfoldable pub is_listed_manager : List TreeProcess → ProcessId → Bool
is_listed_manager es q = list_any (λ e. same_process e.id q && is_manager_kind e.kind) es

-- there is a parent, and it is listed as a manager
abbrev pub is_managed : List TreeProcess → Option ProcessId → Bool
is_managed es None = false
is_managed es (Some p) = is_listed_manager es p

-- a manager is a parent
unfoldable pub has_managed_child : List TreeProcess → Bool
has_managed_child es = list_any (λ e. is_managed es e.parent) es

-- there is a level, and it is below this one
abbrev pub is_below_level : ℕ → Option ℕ → Bool
is_below_level most None = false
is_below_level most (Some n) = nat_lt most n

-- a process has a level below the eighth
unfoldable pub is_too_deep : List TreeProcess → Bool
is_too_deep es = list_any (λ e. is_below_level 8 (level_within (length es) es e.id)) es

-- the fault of an error is there
abbrev pub has_fault : List TreeProcess → TreeError → Bool
has_fault es Empty = length es == 0
has_fault es TooMany = nat_lt 64 (length es)
has_fault es TwoParents = lists_twice es
has_fault es Unknown = has_unknown_parent es
has_fault es Cycle = has_cycle es
has_fault es Roots = has_wrong_roots es
has_fault es ManagerWithChildren = has_managed_child es
has_fault es TooDeep = is_too_deep es

-- the faults that are looked for before this one
abbrev pub faults_before : TreeError → List TreeError
faults_before Empty = []
faults_before TooMany = Empty ∷ []
faults_before TwoParents = Empty ∷ TooMany ∷ []
faults_before Unknown = Empty ∷ TooMany ∷ TwoParents ∷ []
faults_before Cycle = Empty ∷ TooMany ∷ TwoParents ∷ Unknown ∷ []
faults_before Roots = Empty ∷ TooMany ∷ TwoParents ∷ Unknown ∷ Cycle ∷ []
faults_before ManagerWithChildren = Empty ∷ TooMany ∷ TwoParents ∷ Unknown ∷ Cycle ∷ Roots ∷ []
faults_before TooDeep = Empty ∷ TooMany ∷ TwoParents ∷ Unknown ∷ Cycle ∷ Roots ∷ ManagerWithChildren ∷ []

-- a list of processes is a tree
pub record IsTree (es : List TreeProcess) : Type 0 where
  pub not_empty : has_fault es Empty ≡ false
  pub not_too_many : has_fault es TooMany ≡ false
  pub listed_once : has_fault es TwoParents ≡ false
  pub parents_listed : has_fault es Unknown ≡ false
  pub climbs_end : has_fault es Cycle ≡ false
  pub one_coordinator_on_top : has_fault es Roots ≡ false
  pub managers_are_leaves : has_fault es ManagerWithChildren ≡ false
  pub not_too_deep : has_fault es TooDeep ≡ false

-- none of the faults is there
abbrev pub HasNone : List TreeProcess → List TreeError → Type 0
HasNone es [] = Unit {0}
HasNone es (f ∷ fs) = (has_fault es f ≡ false) × HasNone es fs

-- the error's fault is there, and none before it
pub record IsFirstFault (es : List TreeProcess) (error : TreeError) : Type 0 where
  pub is_there : has_fault es error ≡ true
  pub none_before : HasNone es (faults_before error)
