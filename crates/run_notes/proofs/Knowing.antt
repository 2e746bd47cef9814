-- Which managers the notes know.
use Rattle.std.proofs.Common.{◌≡◌, ◌∙◌, ap, sym, refl, arith, ℕ, ◌+◌, Bool, true, false, ◌&&◌, ◌||◌, if◌then◌else◌, List, [], ◌∷◌, ◌++◌, ◌<◌, get_or, length, take}
use Rattle.std.specs.Map.{keys_of}
use Rattle.std.proofs.lemmas.List.{take_more}
use Rattle.std.proofs.lemmas.List.Folds.{list_any-append}
use Rattle.indexmap.specs.IndexMap.{insert_entry}
use Rattle.protocol.specs.declared.names.Kind.TheVariants.{Manager as ManagerKind}
use Rattle.protocol.specs.declared.names.ProcessId.{ProcessId}
use Rattle.protocol.specs.declared.trees.TreeProcess.{TreeProcess}
use Rattle.run_notes.specs.declared.manager.Manager.{Manager}
use Rattle.run_notes.specs.Told.{AddsManager, AreManagers, is_among, is_manager_entry, is_manager_kind, same_id}

-- two processes that are one have one name
alike : (a b p : ProcessId) → same_id a b ≡ true → same_id p a ≡ same_id p b
alike a b p e = grind arith

-- one process more is known
pub known_more : (es : List (ProcessId × Manager)) (q p : ProcessId) (m : Manager)
    → is_among p (keys_of (insert_entry same_id es q m)) ≡ (is_among p (keys_of es) || same_id p q)
known_more [] q p m = grind arith
known_more (e ∷ es) q p m = by (same_id q e.0) refl (known_more es q p m)
  where
    by : (b : Bool) → same_id q e.0 ≡ b
        → is_among p (keys_of (insert_entry same_id es q m)) ≡ (is_among p (keys_of es) || same_id p q)
        → is_among p (keys_of (if b then (e.0, m) ∷ es else e ∷ insert_entry same_id es q m))
        ≡ ((same_id p e.0 || is_among p (keys_of es)) || same_id p q)
    by true is more = grind (arith, alike q e.0 p is)
    by false is more = grind (arith, more)

-- one more entry of the tree
pub managers_more : (tree : List TreeProcess) (k : ℕ) (e : TreeProcess) (old new : List ProcessId)
    → k < length tree → e ≡ get_or tree k e → AreManagers (take k tree) old → AddsManager e old new
    → AreManagers (take (k + 1) tree) new
managers_more tree k e old new there at were adds p =
    let all : take (k + 1) tree ≡ take k tree ++ e ∷ [] =
    take_more tree k e there ∙ ap (λ x. take k tree ++ x ∷ []) (sym at) in
    grind (arith, all, were p, adds p, list_any-append (is_manager_entry p) (take k tree) (e ∷ []))

-- the manager of an entry that is one
pub manager_added : (e : TreeProcess) (es fs : List (ProcessId × Manager)) (m : Manager)
    → e.kind ≡ ManagerKind
    → fs ≡ insert_entry same_id es e.id m → AddsManager e (keys_of es) (keys_of fs)
manager_added e es fs m is made p =
    ap (λ xs. is_among p (keys_of xs)) made ∙ known_more es e.id p m
    ∙ ap (λ k. is_among p (keys_of es) || (is_manager_kind k && same_id p e.id)) (sym is)

-- a step leaves the managers that are known
pub managers_stay : (tree : List TreeProcess) (old new : List ProcessId) → new ≡ old → AreManagers tree old
    → AreManagers tree new
managers_stay tree old new is were p = ap (λ ps. is_among p ps) is ∙ were p
