-- The processes of a list of values, and the one member of a table.
use Rattle.std.proofs.Common.{◌≡◌, ℕ, zero, suc, ◌+◌, ◌<◌, List, [], ◌∷◌, ◌++◌, length, get_or, take, Option, Some, None, String, Global, string_bytes, nat_cmp, refl, sym, ap, ◌∙◌, arith, codes, Less, Equal, Greater, Ordering, true}
use Rattle.std.specs.Ordering.{match_ordering}
use Rattle.std.proofs.lemmas.List.{take_more}
use Rattle.std.specs.Cmp.Lexicographic.{slice_cmp}
use Rattle.std.specs.Prelude.{IfSome, IfNone, option_map}
use Rattle.std.proofs.Common.{Bor}
use Rattle.std.specs.Ordering.{is_eq}
use Rattle.std.specs.Bool.{Decides}
use Rattle.std.specs.Str.{bytes_eq}
use Rattle.std.proofs.lemmas.Map.Text.{is_eq-slice_cmp}
use Rattle.std.proofs.lemmas.Slice.Eq.{slice_eq-Decides}
use Rattle.std.proofs.lemmas.Bool.Decides.{Decides-eqb}
use Rattle.toml.specs.declared.value.Value.{Value}
use Rattle.toml.specs.Data.{Data, Members, no_members, member, get_member, array}
use Rattle.toml.specs.View.{view, items_view, members_view}
use Rattle.protocol.specs.declared.trees.TreeProcess.{TreeProcess}
use Rattle.tree_script.specs.Documents.{DescribesProcess, AreProcesses, IsTable}

are_push : (vs : List Value) (es : List TreeProcess) (v : Value) (e : TreeProcess)
    → AreProcesses (items_view vs) es → DescribesProcess (view v) e
    → AreProcesses (items_view (vs ++ v ∷ [])) (es ++ e ∷ [])
are_push [] [] v e h p = (p, tt)
are_push [] (x ∷ es) v e h p = absurd h
are_push (w ∷ vs) [] v e h p = absurd h
are_push (w ∷ vs) (x ∷ es) v e h p = (h.0, are_push vs es v e h.1 p)

-- one more value is one more process
pub are_more : (vs : List Value) (ps qs : List TreeProcess) (i : ℕ) (v : Value) (p : TreeProcess)
    → i < length vs → v ≡ get_or vs i v → qs ≡ ps ++ p ∷ [] → AreProcesses (items_view (take i vs)) ps
    → DescribesProcess (view v) p → AreProcesses (items_view (take (i + 1) vs)) qs
are_more vs ps qs i v p lt is made h here =
    rw (made, take_more vs i v lt, ← is) (are_push (take i vs) ps v p h here)

-- a value that is no process spoils the list
pub none_at : (vs : List Value) (i : ℕ) (v : Value) → i < length vs → v ≡ get_or vs i v
    → ((p : TreeProcess) → DescribesProcess (view v) p → ⊥) → (es : List TreeProcess)
    → AreProcesses (items_view vs) es → ⊥
none_at [] i v lt is none es h = absurd (omega arith)
none_at (w ∷ vs) i v lt is none [] h = h
none_at (w ∷ vs) zero v lt is none (e ∷ es) h = none e (rw is h.0)
none_at (w ∷ vs) (suc i) v lt is none (e ∷ es) h = none_at vs i v (omega arith) is none es h.1

same_keys : (k l : List ℕ) → slice_cmp nat_cmp k l ≡ Equal → k ≡ l
same_keys k l e =
    let decides : Decides (bytes_eq k l) (k ≡ l) = slice_eq-Decides Decides-eqb k l (bytes_eq k l) refl in
    let yes : bytes_eq k l ≡ true = sym (is_eq-slice_cmp k l) ∙ ap is_eq e in
    decides.0 yes

abbrev single : List ℕ → Data → Members
single k d = member k d no_members

found_in : (o : Ordering) (k l : List ℕ) (c d : Data) → o ≡ slice_cmp nat_cmp k l
    → match_ordering o None (Some c) None ≡ Some d → single l c ≡ single k d
found_in Less k l c d is e = absurd cc
found_in Greater k l c d is e = absurd cc
found_in Equal k l c d is e =
    let same : k ≡ l = same_keys k l (sym is) in
    let value : c ≡ d = cc in
    rw (same, value) refl

-- the one member, by its key
pub one_member : (k : List ℕ) (es : List (String Global × Value)) (d : Data) → length es ≡ 1
    → get_member k (members_view es) ≡ Some d → members_view es ≡ single k d
one_member k [] d len e = absurd cc
one_member k (m ∷ n ∷ es) d len e = absurd (omega arith)
one_member k (m ∷ []) d len e = found_in (slice_cmp nat_cmp k (string_bytes m.0)) k (string_bytes m.0)
    (view m.1) d refl e

-- one member is found at its key
pub found_again : (k : List ℕ) (es : List (String Global × Value)) (d : Data) → slice_cmp nat_cmp k k ≡ Equal
    → members_view es ≡ single k d → get_member k (members_view es) ≡ Some d
found_again k es d self e = ap (get_member k) e
    ∙ ap (λ (o : Ordering). match_ordering o None (Some d) None) self

pub one_long : (k : List ℕ) (es : List (String Global × Value)) (d : Data) → members_view es ≡ single k d
    → length es ≡ 1
one_long k [] d e = absurd cc
one_long k (m ∷ []) d e = refl
one_long k (m ∷ n ∷ es) d e = absurd cc

pub only_found : (k : List ℕ) (r : Option (Bor Value)) (es : List (String Global × Value))
    → option_map (λ x. view x.now) r ≡ get_member k (members_view es) → length es ≡ 1
    → IfSome r (λ v. members_view es ≡ single k (view v.now))
only_found k None es e len = tt
only_found k (Some v) es e len = one_member k es (view v.now) len (sym e)

pub only_none : (k : List ℕ) (r : Option (Bor Value)) (es : List (String Global × Value))
    → option_map (λ x. view x.now) r ≡ get_member k (members_view es) → slice_cmp nat_cmp k k ≡ Equal
    → IfNone r ((d : Data) → members_view es ≡ single k d → ⊥)
only_none k None es e self = λ d is. absurd (let found : None ≡ Some d = e ∙ found_again k es d self is in cc)
only_none k (Some v) es e self = tt

pub spoiled : (es : List (String Global × Value)) → (length es ≡ 0 → ⊥)
    → ((d : Data) → members_view es ≡ single (codes "process") d → ⊥) → (xs : List TreeProcess)
    → IsTable (members_view es) xs → ⊥
spoiled [] some none xs h = some refl
spoiled (m ∷ es) some none xs h = none (array h.0) h.1
