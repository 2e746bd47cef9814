-- Two states with the same parts are one.
use Rattle.std.proofs.Common.{◌≡◌, ℕ, Bool, List}
use Rattle.judge_state.specs.declared.parts.JudgedBranch.{JudgedBranch}
use Rattle.judge_state.specs.declared.parts.Link.{Link}
use Rattle.judge_state.specs.declared.parts.Listed.{Listed}
use Rattle.judge_state.specs.declared.parts.Work.{Work}
use Rattle.judge_state.specs.declared.parts.JudgedWrite.{JudgedWrite}
use Rattle.judge_state.specs.Sights.{Sight}

sight_of : Bool → Bool → List Link → List ℕ → List JudgedBranch → List Work → List ℕ → List Listed
    → List JudgedWrite
    → List ℕ → List JudgedBranch → List Work → Sight
sight_of o h l m b w s d v u k z = record {
  opened = o;
  hung = h;
  links = l;
  migrated = m;
  branches = b;
  works = w;
  scans = s;
  listed = d;
  values = v;
  outside = u;
  lost = k;
  lost_works = z;
}

pub one_sight : (a b : Sight) → (a.opened ≡ b.opened) × (a.hung ≡ b.hung)
    → (a.links ≡ b.links) × (a.migrated ≡ b.migrated) × (a.branches ≡ b.branches)
    → (a.scans ≡ b.scans) × (a.listed ≡ b.listed) × (a.outside ≡ b.outside)
    → (a.works ≡ b.works) × (a.values ≡ b.values) → (a.lost ≡ b.lost) × (a.lost_works ≡ b.lost_works) → a ≡ b
unfolding sight_of
one_sight a b o t s d p =
    let e : sight_of a.opened a.hung a.links a.migrated a.branches a.works a.scans a.listed a.values a.outside
    a.lost a.lost_works
    ≡ sight_of b.opened b.hung b.links b.migrated b.branches b.works b.scans b.listed b.values b.outside
    b.lost b.lost_works =
    cc in e
