-- How a state changes.
use Rattle.std.specs.Prelude.{ℕ, Bool, true, false, ◌&&◌, not, ◌==◌, List, [], ◌∷◌, ◌++◌, length, map, filter, position, remove, Option, Some, None, if◌then◌else◌}
use Rattle.std.specs.List.{list_any}
use Rattle.judge_state.specs.declared.parts.JudgedBranch.{JudgedBranch}
use Rattle.judge_state.specs.declared.parts.JudgedDecision.{JudgedDecision}
use Rattle.judge_state.specs.declared.parts.JudgedDecision.TheVariants as decision
use Rattle.judge_state.specs.declared.parts.Link.{Link}
use Rattle.judge_state.specs.declared.parts.Listed.{Listed}
use Rattle.judge_state.specs.declared.parts.Stand.{Stand}
use Rattle.judge_state.specs.declared.parts.Stand.TheVariants.{Active, Prepared, RollbackOnly, Heuristic}
use Rattle.judge_state.specs.declared.parts.Work.{Work}
use Rattle.judge_state.specs.declared.parts.JudgedWrite.{JudgedWrite}
use Rattle.judge_state.specs.Parts.{is_in_doubt}
use Rattle.judge_state.specs.Sights.{Sight}
use Rattle.judge_state.specs.Questions.{is_active_link}

-- a branch stands prepared
abbrev pub is_prepared : Stand → Bool
is_prepared Active = false
is_prepared RollbackOnly = false
is_prepared Prepared = true
is_prepared (Heuristic d) = false

-- the branch of a name is prepared
abbrev pub is_prepared_at : ℕ → Sight → Bool
is_prepared_at x s = list_any (λ b. b.name == x && is_prepared b.stand) s.branches

-- a number is that of this branch
abbrev pub is_of : ℕ → Option ℕ → Bool
is_of x None = false
is_of x (Some y) = y == x

-- the branches of other names
abbrev pub others : ℕ → List JudgedBranch → List JudgedBranch
others x bs = filter (λ b. not (b.name == x)) bs

-- a branch that stands so
abbrev pub with_stand : Stand → JudgedBranch → JudgedBranch
with_stand to b = record b { stand = to }

-- the branches, with this one standing so
abbrev pub standing : ℕ → Stand → List JudgedBranch → List JudgedBranch
standing x to bs = map (λ b. if b.name == x then with_stand to b else b) bs

-- what a branch has written
abbrev pub works_of : ℕ → List Work → List Work
works_of x ws = filter (λ w. w.branch == x) ws

-- what other branches have written
abbrev pub works_without : ℕ → List Work → List Work
works_without x ws = filter (λ w. not (w.branch == x)) ws

-- what was written, committed by this branch
abbrev pub committed_works : ℕ → Bool → List Work → List JudgedWrite
committed_works x sure ws =
    map (λ w. record { branch = Some x; key = w.key; value = w.value; sure = sure }) (works_of x ws)

-- the associations, without that of a thread with a branch
abbrev pub links_without : ℕ → ℕ → List Link → List Link
links_without t x ls = filter (λ l. not (l.thread == t && l.branch == x)) ls

-- where a number stands first
abbrev pub first_place : ℕ → List ℕ → Option ℕ
first_place x xs = position (λ y. y == x) xs

-- numbers without the one at a place
abbrev pub without_place : List ℕ → Option ℕ → List ℕ
without_place xs None = xs
without_place xs (Some i) = remove xs i

-- numbers without the first that is this one
abbrev pub without_first : ℕ → List ℕ → List ℕ
without_first x xs = without_place xs (first_place x xs)

-- a line of a list, no longer due
abbrev pub without_due : Listed → Listed
without_due l = record l { due = false }

-- no scan owes a branch
abbrev pub not_due : ℕ → List Listed → List Listed
not_due x ls = map (λ l. if l.branch == x then without_due l else l) ls

-- a scan of a thread has a branch on its list
abbrev pub lists : ℕ → ℕ → List Listed → Bool
lists t x ls = list_any (λ l. l.thread == t && l.branch == x) ls

-- the scans whose list wants a branch
abbrev pub scans_without : ℕ → List Listed → List ℕ → List ℕ
scans_without x ls ts = filter (λ t. not (lists t x ls)) ts

-- a branch on the lists of these scans: it may be given, and is not due
abbrev pub new_lines : ℕ → List ℕ → List Listed
new_lines x ts = map (λ t. record { thread = t; branch = x; given = false; due = false }) ts

-- a branch comes to be in doubt: each open scan may give it
abbrev pub enlisted : ℕ → Sight → Sight
enlisted x s = record s { listed = s.listed ++ new_lines x (scans_without x s.listed s.scans) }

-- the manager is open, or not
abbrev pub opened : Bool → Sight → Sight
opened o s = record s { opened = o }

-- a call got no answer
abbrev pub hung : Sight → Sight
hung s = record s { hung = true }

-- a thread begins a branch
abbrev pub begun : ℕ → ℕ → Sight → Sight
begun t x s = record s {
  branches = s.branches ++ record { name = x; stand = Active; owner = t; since = length s.values } ∷ [];
}

-- a thread is associated with a branch: T2 if suspended, else T1
abbrev pub linked : ℕ → ℕ → Bool → Sight → Sight
linked t x suspended s = record s {
  links = s.links ++ record { thread = t; branch = x; suspended = suspended } ∷ [];
}

-- the association of a thread with a branch is gone
abbrev pub unlinked : ℕ → ℕ → Sight → Sight
unlinked t x s = record s { links = links_without t x s.links }

-- a thread is active in no branch
abbrev pub inactive : ℕ → Sight → Sight
inactive t s = record s { links = filter (λ l. not (is_active_link t l)) s.links }

-- a branch has no association
abbrev pub dissociated : ℕ → Sight → Sight
dissociated x s = record s {
  links = filter (λ l. not (l.branch == x)) s.links;
  migrated = filter (λ u. not (u == x)) s.migrated;
}

-- one more association is suspended for migration
abbrev pub migrating : ℕ → Sight → Sight
migrating x s = record s { migrated = s.migrated ++ x ∷ [] }

-- one that was suspended for migration is picked up
abbrev pub picked : ℕ → Sight → Sight
picked x s = record s { migrated = without_first x s.migrated }

-- a branch stands so
abbrev pub stands : ℕ → Stand → Sight → Sight
stands x to s = record s { branches = standing x to s.branches }

-- a branch can only be rolled back
abbrev pub marked : ℕ → Sight → Sight
marked x s = stands x RollbackOnly s

-- a branch is prepared
abbrev pub prepared : ℕ → Sight → Sight
prepared x s = enlisted x (stands x Prepared s)

-- a branch is known no longer, and what it has written is gone
abbrev pub gone : ℕ → Sight → Sight
gone x s = record s {
  branches = others x s.branches;
  works = works_without x s.works;
  listed = not_due x s.listed;
}

-- the branch of a name, if it is prepared
abbrev pub was_prepared : ℕ → List JudgedBranch → List JudgedBranch
was_prepared x bs = filter (λ b. b.name == x && is_prepared b.stand) bs

-- a branch that leaves S3: a crash may bring it back
abbrev pub remembered : ℕ → Sight → Sight
remembered x s =
    if is_prepared_at x s then record s {
      lost = others x s.lost ++ was_prepared x s.branches;
      lost_works = works_without x s.lost_works ++ works_of x s.works;
    } else s

-- what a branch has written is committed, for sure or maybe
abbrev pub published : ℕ → Bool → Sight → Sight
published x sure s = record s {
  values = s.values ++ committed_works x sure s.works;
  works = works_without x s.works;
}

-- a branch is rolled back, and known no longer
abbrev pub rolled : ℕ → Sight → Sight
rolled x s = gone x (remembered x s)

-- a branch is committed, and known no longer
abbrev pub committed : ℕ → Sight → Sight
committed x s = gone x (published x true (remembered x s))

-- what a branch has written is gone
abbrev pub unworked : ℕ → Sight → Sight
unworked x s = record s { works = works_without x s.works }

-- what a decision makes of what a branch has written: of a mixed or unknown one each value may be committed
abbrev pub settled : ℕ → JudgedDecision → Sight → Sight
settled x decision.Commit s = published x true s
settled x decision.Rollback s = unworked x s
settled x decision.Mixed s = published x false s
settled x decision.Unknown s = published x false s

-- a branch is decided heuristically
abbrev pub decided : ℕ → JudgedDecision → Sight → Sight
decided x d s = enlisted x (settled x d (stands x (Heuristic d) s))

-- a branch that is in doubt has this name
abbrev pub keeps_name : List JudgedBranch → ℕ → Bool
keeps_name bs x = list_any (λ b. is_in_doubt b && b.name == x) bs

-- the manager fell: what is in doubt stays, and nothing else of what is not committed
abbrev pub fallen : Sight → Sight
fallen s = record s {
  links = [];
  migrated = [];
  branches = filter is_in_doubt s.branches;
  works = filter (λ w. keeps_name s.branches w.branch) s.works;
  scans = [];
  listed = [];
  outside = [];
}

-- the manager is not open, and what was lost before is past
abbrev pub forgotten : Sight → Sight
forgotten s = record s { opened = false; lost = []; lost_works = [] }

-- the manager fell, and was not opened again
abbrev pub restarted : Sight → Sight
restarted s = forgotten (fallen s)

-- a value that is not committed for sure
abbrev pub without_surety : JudgedWrite → JudgedWrite
without_surety w = record w { sure = false }

-- what this branch committed may not be there
abbrev pub doubted : ℕ → List JudgedWrite → List JudgedWrite
doubted x ws = map (λ w. if is_of x w.branch then without_surety w else w) ws

-- a branch that had left S3 is back in it, with what it had written
abbrev pub brought_back : JudgedBranch → List Work → Sight → Sight
brought_back b ws s = record s {
  branches = s.branches ++ b ∷ [];
  works = s.works ++ works_of b.name ws;
  values = doubted b.name s.values;
}

-- the connection of a thread is gone
abbrev pub cut_off : ℕ → Sight → Sight
cut_off t s = record s {
  links = filter (λ l. not (l.thread == t)) s.links;
  scans = filter (λ u. not (u == t)) s.scans;
  listed = filter (λ l. not (l.thread == t)) s.listed;
  outside = filter (λ u. not (u == t)) s.outside;
}

-- a branch writes a value
abbrev pub worked : ℕ → ℕ → ℕ → Sight → Sight
worked x k v s = record s {
  works = filter (λ w. not (w.branch == x && w.key == k)) s.works
      ++ record { branch = x; key = k; value = v } ∷ [];
}

-- a thread works outside of any branch
abbrev pub outside : ℕ → Sight → Sight
outside t s = record s { outside = filter (λ u. not (u == t)) s.outside ++ t ∷ [] }

-- a value is committed by itself
abbrev pub stored : ℕ → ℕ → Sight → Sight
stored k v s = record s {
  values = s.values ++ record { branch = None; key = k; value = v; sure = true } ∷ [];
}

-- a thread writes a value outside of any branch
abbrev pub written : ℕ → ℕ → ℕ → Sight → Sight
written t k v s = stored k v (outside t s)
