-- The scans of the branches in doubt (C193, xa_recover).
use Rattle.std.specs.Prelude.{◌≡◌, ◌≢◌, ℕ, Bool, List, Option, is_some, map, nat_eq}
use Rattle.std.specs.Global.{Vec}
use Rattle.std.specs.Map.{lookup}
use Rattle.xa_xid.specs.declared.xid.Xid.{Xid}

-- the threads with an open scan, each with what it has still to be given
abbrev pub ScanList : Type 0
ScanList = List (ℕ × List Xid)

-- what each open scan has still to give, by thread
abbrev pub left_of : List (ℕ × Vec Xid) → ScanList
left_of es = map (λ e. (e.0, e.1.items)) es

-- what a thread's open scan has still to give
abbrev pub scan_of : ScanList → ℕ → Option (List Xid)
scan_of scans thread = lookup (nat_eq thread) scans

-- a thread has an open scan
abbrev pub has_scan : ScanList → ℕ → Bool
has_scan scans thread = is_some (scan_of scans thread)

-- one thread's scan becomes this, and the others stay
pub record SetsScan (old new : ScanList) (thread : ℕ) (rest : Option (List Xid)) : Type 0 where
  pub own : scan_of new thread ≡ rest
  pub others : (other : ℕ) → other ≢ thread → scan_of new other ≡ scan_of old other
