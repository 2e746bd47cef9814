-- The logs that a run leaves: one for each process of the tree, whose bytes read as what the process keeps.
use Rattle.std.proofs.Common.{◌≡◌, ◌∙◌, ◌&&◌, ◌||◌, ◌<◌, ◌+◌, ◌^◌, not, nat_lt, Bool, true, false, if◌then◌else◌, Some, List, [], ◌∷◌, ◌++◌, find, refl, sym, ap, subst, append_assoc, arith}
use Rattle.std.specs.List.{AllByRecursion, list_all, list_any}
use Rattle.protocol.specs.declared.names.ProcessId.{ProcessId}
use Rattle.protocol.specs.declared.trees.TreeProcess.{TreeProcess}
use Rattle.protocol.specs.Names.{same_process}
use Rattle.protocol.specs.Nodes.{is_listed}
use Rattle.protocol.specs.Trees.{IsTree, lists_twice, times_listed}
use Rattle.log_script.specs.declared.line.ProcessLog.{ProcessLog}
use Rattle.log_script.specs.Laws.{AreFirst}
use Rattle.log_script.specs.Logs.{bytes_of, each_has_log, has_log}
use Rattle.log_script.specs.spelling.Fits.{FitsEntry, FitsLogs}
use Rattle.tree_state.specs.Worlds.{WorldState}
use Rattle.tree_world.specs.Nodes.{SpellsLogBy}
use Rattle.tree_world.specs.LogsLeft.{AreByteLogs, AreLogs}
use Rattle.audit_tree.proofs.TreePlaces.{counted, here_once, how_many, itself, no_more, times_both}

some_entry : (a b : TreeProcess) → Some a ≡ Some b → a ≡ b
some_entry a b e = cc

-- What a process's log spells.

-- the log of a listed process spells what it keeps
pub spells_at : (w : WorldState) (es : List TreeProcess) (ls : List ProcessLog) (q : ProcessId)
    (e : TreeProcess)
    → AreLogs w es ls → find (λ x. same_process x.id q) es ≡ Some e
    → SpellsLogBy (w.node_at e.id) (bytes_of ls q)
unfolding bytes_of
spells_at w [] [] q e are found = absurd (cc)
spells_at w [] (l ∷ ls) q e are found = absurd are
spells_at w (x ∷ es) [] q e are found = absurd are
spells_at w (x ∷ es) (l ∷ ls) q e are found =
    subst (λ b. SpellsLogBy (w.node_at e.id) (if b then l.bytes else bytes_of ls q))
    (ap (λ p. same_process p q) (sym are.0))
    (by_name (same_process x.id q) found (spells_at w es ls q e are.2))
  where
    by_name : (b : Bool) → (if b then Some x else find (λ x. same_process x.id q) es) ≡ Some e
        → (find (λ x. same_process x.id q) es ≡ Some e → SpellsLogBy (w.node_at e.id) (bytes_of ls q))
        → SpellsLogBy (w.node_at e.id) (if b then l.bytes else bytes_of ls q)
    by_name true is rest = subst (λ (y : TreeProcess). SpellsLogBy (w.node_at y.id)
        l.bytes) (some_entry x e is) are.1
    by_name false is rest = rest is

-- Each process once.

-- none of these entries is of a process before it
unfoldable NewBehind : List TreeProcess → List TreeProcess → Type 0
NewBehind fs [] = Unit {0}
NewBehind fs (e ∷ es) = (is_listed fs e.id ≡ false) × NewBehind (fs ++ e ∷ []) es

none_listed : (fs : List TreeProcess) (q : ProcessId)
    → how_many (λ x. same_process x.id q) fs ≡ 0 → is_listed fs q ≡ false
unfolding how_many is_listed
none_listed [] q h = refl
none_listed (x ∷ fs) q h = by_test (same_process x.id q) h (none_listed fs q)
  where
    by_test : (b : Bool) → (if b then 1 + how_many (λ x. same_process x.id q) fs else how_many
        (λ x. same_process x.id q) fs) ≡ 0
        → (how_many (λ x. same_process x.id q) fs ≡ 0 → list_any (λ x. same_process x.id q) fs ≡ false)
        → (b || list_any (λ x. same_process x.id q) fs) ≡ false
    by_test true z rest = absurd (omega (arith, z))
    by_test false z rest = rest z

first_false : (a b : Bool) → (a || b) ≡ false → a ≡ false
first_false true b h = h
first_false false b h = refl

second_false : (a b : Bool) → (a || b) ≡ false → b ≡ false
second_false true b h = absurd (cc)
second_false false b h = h

new_from : (fs es : List TreeProcess) → list_any (λ e. nat_lt 1 (times_listed (fs ++ es) e.id)) es ≡ false
    → NewBehind fs es
unfolding NewBehind times_listed
new_from fs [] h = tt
new_from fs (e ∷ es) h = (
  none_listed fs e.id
      (no_more (how_many (λ x. same_process x.id e.id) fs) (how_many (λ x. same_process x.id e.id) es) _ _
      (ap (nat_lt 1) (counted (λ x. same_process x.id e.id) (fs ++ e ∷ es)) ∙ first_false _ _ h)
      (times_both (λ x. same_process x.id e.id) fs (e ∷ es)) (here_once e es)),
  new_from (fs ++ e ∷ []) es
      (subst (λ tree. list_any (λ x. nat_lt 1 (times_listed tree x.id)) es ≡ false)
      (sym (append_assoc fs (e ∷ []) es))
      (second_false _ _ h)),
)

new_all : (tree : List TreeProcess) → IsTree tree → NewBehind [] tree
unfolding lists_twice
new_all tree t = new_from [] tree t.listed_once

-- The logs can be written.

-- these logs are of the processes of these entries, in order
unfoldable Names : List TreeProcess → List ProcessLog → Type 0
Names [] [] = Unit {0}
Names [] (l ∷ ls) = ⊥
Names (e ∷ es) [] = ⊥
Names (e ∷ es) (l ∷ ls) = (l.process ≡ e.id) × Names es ls

has_named : (es : List TreeProcess) (ls : List ProcessLog) (q : ProcessId) → Names es ls
    → has_log ls q ≡ is_listed es q
unfolding Names has_log is_listed
has_named [] [] q are = refl
has_named [] (l ∷ ls) q are = absurd are
has_named (e ∷ es) [] q are = absurd are
has_named (e ∷ es) (l ∷ ls) q are =
    ap (λ p. same_process p q || list_any (λ m. same_process m.process q) ls) are.0
    ∙ ap (λ b. same_process e.id q || b) (has_named es ls q are.1)

one_named : (es : List TreeProcess) (ls : List ProcessLog) (e : TreeProcess) (l : ProcessLog) → Names es ls
    → l.process ≡ e.id → Names (es ++ e ∷ []) (ls ++ l ∷ [])
unfolding Names
one_named [] [] e l are is = (is, tt)
one_named [] (m ∷ ls) e l are is = absurd are
one_named (f ∷ es) [] e l are is = absurd are
one_named (f ∷ es) (m ∷ ls) e l are is = (are.0, one_named es ls e l are.1 is)

listed_behind : (fs es : List TreeProcess) (e : TreeProcess) → is_listed (fs ++ e ∷ es) e.id ≡ true
unfolding is_listed
listed_behind [] es e = ap (λ b. b || list_any (λ x. same_process x.id e.id) es) (itself e.id)
listed_behind (x ∷ fs) es e = later (same_process x.id e.id)
    (list_any (λ y. same_process y.id e.id) (fs ++ e ∷ es))
    (listed_behind fs es e)
  where
    later : (a b : Bool) → b ≡ true → (a || b) ≡ true
    later true b h = refl
    later false b h = h

both_so : (a b : Bool) → a ≡ true → b ≡ false → (a && not b) ≡ true
both_so true false h k = refl
both_so true true h k = absurd (cc)
both_so false b h k = absurd (cc)

module _ (w : WorldState) where
  first_each : (fs es : List TreeProcess) (seen ls : List ProcessLog) → NewBehind fs es
      → AllByRecursion FitsEntry es
      → AreByteLogs ls → Names fs seen → AreLogs w es ls → AreFirst (fs ++ es) seen ls
  unfolding NewBehind
  first_each fs [] seen [] new fit bytes names are = tt
  first_each fs [] seen (l ∷ ls) new fit bytes names are = absurd are
  first_each fs (e ∷ es) seen [] new fit bytes names are = absurd are
  first_each fs (e ∷ es) seen (l ∷ ls) new fit bytes names are = (
    record {
      process_fits = subst (λ (p : ProcessId). p.0 < 2 ^ 32) (sym are.0) fit.0.id_fits.1;
      bytes_fit = bytes.0;
    },
    subst (λ p. (is_listed (fs ++ e ∷ es) p && not (has_log seen p)) ≡ true) (sym are.0)
        (both_so _ _ (listed_behind fs es e) (has_named fs seen e.id names ∙ new.0)),
    subst (λ tree. AreFirst tree (seen ++ l ∷ []) ls) (append_assoc fs (e ∷ []) es)
        (first_each (fs ++ e ∷ []) es (seen ++ l ∷ []) ls new.1 fit.1 bytes.1
        (one_named fs seen e l names are.0) are.2),
  )

  all_named : (es : List TreeProcess) (ls : List ProcessLog) → AreLogs w es ls → Names es ls
  unfolding Names
  all_named [] [] are = tt
  all_named [] (l ∷ ls) are = absurd are
  all_named (e ∷ es) [] are = absurd are
  all_named (e ∷ es) (l ∷ ls) are = (are.0, all_named es ls are.2)

each_listed : (fs es : List TreeProcess) → list_all (λ e. is_listed (fs ++ es) e.id) es ≡ true
each_listed fs [] = refl
each_listed fs (e ∷ es) =
    both_true (is_listed (fs ++ e ∷ es) e.id) _ (listed_behind fs es e)
    (subst (λ tree. list_all (λ x. is_listed tree x.id) es ≡ true) (append_assoc fs (e ∷ []) es)
    (each_listed (fs ++ e ∷ []) es))
  where
    both_true : (a b : Bool) → a ≡ true → b ≡ true → (a && b) ≡ true
    both_true true b h k = k
    both_true false b h k = absurd (cc)

logged_each : (ls : List ProcessLog) (tree es : List TreeProcess)
    → ((q : ProcessId) → has_log ls q ≡ is_listed tree q)
    → list_all (λ e. is_listed tree e.id) es ≡ true → list_all (λ e. has_log ls e.id) es ≡ true
logged_each ls tree [] same h = refl
logged_each ls tree (e ∷ es) same h =
    ap (λ b. b && list_all (λ x. has_log ls x.id) es) (same e.id)
    ∙ by_test (is_listed tree e.id) h (logged_each ls tree es same)
  where
    by_test : (b : Bool) → (b && list_all (λ x. is_listed tree x.id) es) ≡ true
        → (list_all (λ x. is_listed tree x.id) es ≡ true → list_all (λ x. has_log ls x.id) es ≡ true)
        → (b && list_all (λ x. has_log ls x.id) es) ≡ true
    by_test true k rest = rest k
    by_test false k rest = absurd (cc)

pub logs_fit : (w : WorldState) (tree : List TreeProcess) (ls : List ProcessLog) → IsTree tree
    → AllByRecursion FitsEntry tree → AreByteLogs ls → AreLogs w tree ls → FitsLogs tree ls
unfolding Names each_has_log
logs_fit w tree ls t fit bytes are = record {
  are_first = first_each w [] tree [] ls (new_all tree t) fit bytes tt are;
  each_has_one = logged_each ls tree tree (λ q. has_named tree ls q
      (all_named w tree ls are)) (each_listed [] tree);
}
