-- When what the judge knows of data is what a key store has.
use Rattle.std.specs.Prelude.{◌≡◌, ℕ, Bool, true, false, ◌&&◌, ◌==◌, List, map, find, Option, Some, None, if◌then◌else◌}
use Rattle.std.specs.List.{list_any, AllByRecursion}
use Rattle.xa_xid.specs.declared.xid.Xid.{Xid}
use Rattle.protocol.specs.declared.records.Write.{Write}
use Rattle.kv_store.specs.writes.Writes.{is_of}
use Rattle.judge_state.specs.declared.parts.Work.{Work}
use Rattle.judge_state.specs.declared.parts.JudgedWrite.{JudgedWrite}
use Rattle.judge_state.specs.Moves.{without_surety}
use Rattle.judge_state.specs.Scans.{may_hold}
use Rattle.judge_state.specs.Sights.{Sight}
use Rattle.proof_judged_deeds.specs.Names.{NameNumbers, value_number}

-- a value that was written is of this branch and key
abbrev pub is_at : ℕ → ℕ → Work → Bool
is_at x k j = j.branch == x && j.key == k

-- of a branch and a key the judge has what was written under it: nothing, or this and no other value
abbrev pub JudgeHolds : NameNumbers → Option Write → ℕ → ℕ → List Work → Type 0
JudgeHolds n None x k js = list_any (is_at x k) js ≡ false
JudgeHolds n (Some w) x k js = (list_any (is_at x k) js ≡ true)
    × AllByRecursion (λ j. is_at x k j ≡ true → j.value ≡ value_number n w.value) js

-- of a branch the judge has what it has written
abbrev pub HasWritten : NameNumbers → List Write → Xid → List Work → Type 0
HasWritten n ws x js = (k : List ℕ) → JudgeHolds n (find (is_of k) ws) (n.xid x) (n.word k) js

-- the judge's data are those of a key store that has these values and in which branches have written this:
-- each value may be the committed one, and of each branch it has what the branch has written
pub record IsHeard (n : NameNumbers) (value : List ℕ → Option (List ℕ)) (written : Xid → List Write)
    (s : Sight) : Type 0 where
  pub committed : (k : List ℕ) → may_hold (n.word k) (value_number n (value k)) s.values ≡ true
  pub works : (x : Xid) → HasWritten n (written x) x s.works

-- a number is that of one of these branches
abbrev pub is_one_of : (ℕ → Bool) → Option ℕ → Bool
is_one_of g None = false
is_one_of g (Some x) = g x

-- values, where no commit of these branches is sure
abbrev pub unsure : (ℕ → Bool) → List JudgedWrite → List JudgedWrite
unsure g vs = map (λ v. if is_one_of g v.branch then without_surety v else v) vs

-- the judge admits what a crash leaves, by which branches are back in S3 that had left it: each value may be
-- the committed one if no commit of these branches is sure; and it remembers what these branches had written
pub record MayLeave (n : NameNumbers) (value : List ℕ → Option (List ℕ)) (promised : Xid → List Write)
    (back : Xid → Bool) (s : Sight)
    : Type 0 where
  pub committed : (g : ℕ → Bool) → ((x : Xid) → back x ≡ true → g (n.xid x) ≡ true) → (k : List ℕ)
      → may_hold (n.word k) (value_number n (value k)) (unsure g s.values) ≡ true
  pub works : (x : Xid) → back x ≡ true → HasWritten n (promised x) x s.lost_works
