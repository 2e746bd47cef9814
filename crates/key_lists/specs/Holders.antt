-- Who holds a key, and who is in the way of a lock.
use Rattle.std.specs.Prelude.{Bool, true, false, not, ◌&&◌, ◌||◌, if◌then◌else◌, Option, option_map, List, [], ◌∷◌, ◌++◌, filter, find}
use Rattle.std.specs.List.{list_any, list_all}
use Rattle.xa_xid.specs.declared.xid.Xid.{Xid}
use Rattle.xa_xid.specs.contracts.xid.XidPartialEq.TheImpl as names
use Rattle.key_lists.specs.declared.holders.Holder.{Holder}
use Rattle.key_lists.specs.declared.holders.Mode.{Mode}
use Rattle.key_lists.specs.declared.holders.Mode.TheVariants.{Shared, Exclusive}

-- two names of branches are one
abbrev pub same : Xid → Xid → Bool
same = names.ghosts.eq

-- a branch is among the holders
abbrev pub holds : List Holder → Xid → Bool
holds hs x = list_any (λ h. same h.xid x) hs

-- a lock that suffers no other beside it
abbrev pub is_exclusive : Mode → Bool
is_exclusive Shared = false
is_exclusive Exclusive = true

-- a holder is in the way of a lock: it is another branch, and the two would not both be shared
abbrev pub is_in_way : Xid → Mode → Holder → Bool
is_in_way x m h = not (same h.xid x) && (is_exclusive h.mode || is_exclusive m)

-- the first holder in the way of a branch's lock
abbrev pub blocked_by : List Holder → Xid → Mode → Option Xid
blocked_by hs x m = option_map (λ h. h.xid) (find (is_in_way x m) hs)

-- the holders once the branch has the key in this mode: it goes last, but where it holds the key already
abbrev pub given : List Holder → Xid → Mode → List Holder
given hs x Exclusive = record { xid = x; mode = Exclusive } ∷ []
given hs x Shared = if holds hs x then hs else hs ++ record { xid = x; mode = Shared } ∷ []

-- the holders without the branch
abbrev pub without : List Holder → Xid → List Holder
without hs x = filter (λ h. not (same h.xid x)) hs

-- two holders: they are two branches, and both are shared
abbrev pub are_shared : Holder → Holder → Bool
are_shared g h = not (same g.xid h.xid) && (not (is_exclusive g.mode) && not (is_exclusive h.mode))

-- the lock rule: each branch holds the key once, and any two holders of it are both shared
unfoldable pub keeps_rule : List Holder → Bool
keeps_rule [] = true
keeps_rule (h ∷ hs) = list_all (are_shared h) hs && keeps_rule hs
