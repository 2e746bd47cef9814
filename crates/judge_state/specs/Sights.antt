-- One state that a resource manager may be in.
use Rattle.std.specs.Prelude.{ℕ, Bool, false, List, []}
use Rattle.judge_state.specs.declared.parts.JudgedBranch.{JudgedBranch}
use Rattle.judge_state.specs.declared.parts.Link.{Link}
use Rattle.judge_state.specs.declared.parts.Listed.{Listed}
use Rattle.judge_state.specs.declared.parts.Work.{Work}
use Rattle.judge_state.specs.declared.parts.JudgedWrite.{JudgedWrite}

-- a state: whether the manager is open (R1, else R0), and whether a call got no answer, after which nothing
-- is judged; the associations T1 and T2, and a branch as often as it is suspended for migration; the known
-- branches; what they have written; the threads with an open scan, and the branches that these may give; what
-- was committed, oldest first; the threads that worked outside of any branch; and the branches that left S3
-- since the last restart, with what they had written
pub record Sight : Type 0 where
  pub opened : Bool
  pub hung : Bool
  pub links : List Link
  pub migrated : List ℕ
  pub branches : List JudgedBranch
  pub works : List Work
  pub scans : List ℕ
  pub listed : List Listed
  pub values : List JudgedWrite
  pub outside : List ℕ
  pub lost : List JudgedBranch
  pub lost_works : List Work

-- the first state: not open, and nothing is known
abbrev pub first_sight : Sight
first_sight = record {
  opened = false;
  hung = false;
  links = [];
  migrated = [];
  branches = [];
  works = [];
  scans = [];
  listed = [];
  values = [];
  outside = [];
  lost = [];
  lost_works = [];
}
