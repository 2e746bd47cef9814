-- An input is read in one way, and one that is read has no fault.
use Rattle.std.proofs.Common.{◌≡◌, ℕ, ◌+◌, pos, true, false, List, [], ◌∷◌, length, codes, Option, Some, None, Ok, Err, refl, sym, ap, subst, ◌∙◌}
use Rattle.spellings.proofs.Cuts.{some_is}
use Rattle.toml.specs.Data.{Data, string, integer, Items, no_items, item, Members, no_members, member, get}
use Rattle.protocol.specs.declared.names.ProcessId.{ProcessId}
use Rattle.protocol.specs.declared.names.Kind.{Kind}
use Rattle.protocol.specs.declared.names.Kind.TheVariants.{Coordinator, Manager}
use Rattle.protocol.specs.declared.trees.TreeProcess.{TreeProcess}
use Rattle.protocol.specs.declared.trees.TreeError.{TreeError}
use Rattle.protocol.specs.declared.trees.TreeError.TheVariants.{Empty, TooMany, TooDeep, TwoParents, Cycle, ManagerWithChildren, Unknown, Roots}
use Rattle.protocol.specs.Trees.{IsTree, has_fault}
use Rattle.tree_script.specs.declared.script.ScriptFault.TheVariants.{Utf8, TreeText, Tree, TooLong, Line}
use Rattle.tree_script.specs.Documents.{At, May, IsId, IsInfo, DescribesProcess, AreProcesses, IsTable, IsTreeText, kind_text}
use Rattle.tree_script.specs.Inputs.{HasTreeText, IsTreeFront}
use Rattle.trace_lines.specs.Trace.{lines_text}
use Rattle.std.specs.Str.Lines.{lines_of_parts}
use Rattle.log_script.specs.Logs.{logs_of}
use Rattle.log_script.specs.spelling.Laws.{ReadHasNoFault, ReadInOneWay}

-- A value is one process.

one_number : (d : Data) (p q : ProcessId) → d ≡ integer (pos p.0) → d ≡ integer (pos q.0) → p ≡ q
one_number d p q a b =
    let same : integer (pos p.0) ≡ integer (pos q.0) = sym a ∙ b in
    let number : p.0 ≡ q.0 = cc in
    ap (λ (n : ℕ). record { 0 = n }) number

one_word : (d : Data) (v w : List ℕ) → d ≡ string v → d ≡ string w → v ≡ w
one_word d v w a b = let same : string v ≡ string w = sym a ∙ b in cc

one_id : (o : Option Data) (p q : ProcessId) → At IsId o p → At IsId o q → p ≡ q
one_id None p q a b = absurd a
one_id (Some d) p q (is, _, _) (also, _, _) = one_number d p q is also

one_parent : (o : Option Data) (p q : Option ProcessId) → May IsId o p → May IsId o q → p ≡ q
one_parent None None None a b = refl
one_parent None None (Some q) a b = absurd b
one_parent None (Some p) q a b = absurd a
one_parent (Some d) None q a b = absurd a
one_parent (Some d) (Some p) None a b = absurd b
one_parent (Some d) (Some p) (Some q) (is, _, _) (also, _, _) =
    ap (λ (x : ProcessId). Some x) (one_number d p q is also)

one_info : (o : Option Data) (v w : Option (List ℕ)) → May IsInfo o v → May IsInfo o w → v ≡ w
one_info None None None a b = refl
one_info None None (Some w) a b = absurd b
one_info None (Some v) w a b = absurd a
one_info (Some d) None w a b = absurd a
one_info (Some d) (Some v) None a b = absurd b
one_info (Some d) (Some v) (Some w) (is, _, _) (also, _, _) =
    ap (λ (x : List ℕ). Some x) (one_word d v w is also)

kinds_differ : (k l : Kind) → kind_text k ≡ kind_text l → k ≡ l
kinds_differ Coordinator Coordinator e = refl
kinds_differ Coordinator Manager e = absurd (let no : 11 ≡ 7 = ap length e in cc)
kinds_differ Manager Coordinator e = absurd (let no : 7 ≡ 11 = ap length e in cc)
kinds_differ Manager Manager e = refl

one_kind : (o : Option Data) (k l : Kind) → o ≡ Some (string (kind_text k)) → o ≡ Some (string (kind_text l))
    → k ≡ l
one_kind o k l a b =
    let same : Some (string (kind_text k)) ≡ Some (string (kind_text l)) = sym a ∙ b in
    kinds_differ k l (let word : kind_text k ≡ kind_text l = cc in word)

one_process : (d : Data) (e f : TreeProcess) → DescribesProcess d e → DescribesProcess d f → e ≡ f
one_process d e f a b =
    rw (
      one_id (get (codes "id") d) e.id f.id a.id b.id,
      one_kind (get (codes "kind") d) e.kind f.kind a.kind b.kind,
      one_parent (get (codes "parent") d) e.parent f.parent a.parent b.parent,
      one_info (get (codes "info") d) e.info f.info a.info b.info,
    ) refl

one_list : (ds : Items) (es fs : List TreeProcess) → AreProcesses ds es → AreProcesses ds fs
    → es ≡ fs
one_list no_items [] [] a b = refl
one_list no_items [] (f ∷ fs) a b = absurd b
one_list no_items (e ∷ es) fs a b = absurd a
one_list (item d ds) [] fs a b = absurd a
one_list (item d ds) (e ∷ es) [] a b = absurd b
one_list (item d ds) (e ∷ es) (f ∷ fs) a b = rw (one_process d e f a.0 b.0, one_list ds es fs a.1 b.1) refl

one_table : (ms : Members) (es fs : List TreeProcess) → IsTable ms es → IsTable ms fs → es ≡ fs
one_table no_members es fs a b = a ∙ sym b
one_table (member k d ms) es fs (ds, is, are) (ds', also, are') =
    let same : ds ≡ ds' = cc in
    one_list ds' es fs (subst (λ (x : Items). AreProcesses x es) same are) are'

one_tree : (text : List ℕ) (es fs : List TreeProcess) → IsTreeText text es → IsTreeText text fs
    → es ≡ fs
one_tree text es fs (ms, parsed, is) (ms', parsed', also) =
    let same : ms ≡ ms' = some_is ms ms' (sym parsed ∙ parsed') in
    one_table ms' es fs (subst (λ (x : Members). IsTable x es) same is) also

-- An input has one front.

abbrev cut : Type 0
cut = List (List ℕ) × List (List ℕ)

-- two fronts of one input are one
record SameFront (es fs : List TreeProcess) (m n : ℕ) (ls ks : List (List ℕ)) : Type 0 where
  trees : es ≡ fs
  rules : m ≡ n
  lines : ls ≡ ks

-- bytes have one tree text, and the same is before and after it
pub text_is_one : (bytes : List ℕ) (fronts behind fronts' behind' : List (List ℕ)) (es fs : List TreeProcess)
    → HasTreeText bytes fronts behind es
    → HasTreeText bytes fronts' behind' fs → (fronts ≡ fronts') × (behind ≡ behind') × (es ≡ fs)
text_is_one bytes fronts behind fronts' behind' es fs a b =
    let same : (fronts, behind) ≡ (fronts', behind') =
    some_is (fronts, behind) (fronts', behind') (sym a.rule ∙ b.rule) in
    let first : fronts ≡ fronts' = ap (λ (p : cut). p.0) same in (
      first,
      ap (λ (p : cut). p.1) same,
      one_tree (lines_text fronts') es fs (subst
          (λ (x : List (List ℕ)). IsTreeText (lines_text x) es) first a.tree_text) b.tree_text,
    )

front_is_one : (input : List ℕ) (es fs : List TreeProcess) (m n : ℕ) (ls ks : List (List ℕ))
    → IsTreeFront input es m ls → IsTreeFront input fs n ks
    → SameFront es fs m n ls ks
front_is_one input es fs m n ls ks a b =
    let (fronts, behind, tree) = text_is_one input a.fronts a.behind b.fronts b.behind es fs a.has_text
    b.has_text in
    record {
      trees = tree;
      rules = a.rule_is ∙ ap (λ (x : List (List ℕ)). length x + 1) fronts ∙ sym b.rule_is;
      lines = a.lines_are ∙ ap lines_of_parts behind ∙ sym b.lines_are;
    }

-- what is read after two fronts of one input
read_alike : (es fs : List TreeProcess) (m n : ℕ) (ls ks : List (List ℕ)) → SameFront es fs m n ls ks
    → logs_of es m ls ≡ logs_of fs n ks
read_alike es fs m n ls ks same = rw (same.trees, same.rules, same.lines) refl

pub read_in_one_way : ReadInOneWay
read_in_one_way input es fs ls ms (m, lines, front, read) (n, lines', front', read') =
    let same = front_is_one input es fs m n lines lines' front front' in
    let is : Ok ls ≡ Ok ms = sym read ∙ read_alike es fs m n lines lines' same ∙ read' in
    (same.trees, let logs : ls ≡ ms = cc in logs)

pub no_tree_fault : (es : List TreeProcess) (cause : TreeError) → IsTree es → has_fault es cause ≡ false
no_tree_fault es Empty h = h.not_empty
no_tree_fault es TooMany h = h.not_too_many
no_tree_fault es TwoParents h = h.listed_once
no_tree_fault es Unknown h = h.parents_listed
no_tree_fault es Cycle h = h.climbs_end
no_tree_fault es Roots h = h.one_coordinator_on_top
no_tree_fault es ManagerWithChildren h = h.managers_are_leaves
no_tree_fault es TooDeep h = h.not_too_deep

pub read_has_no_fault : ReadHasNoFault
read_has_no_fault input es ls Utf8 (m, lines, front, read) fault = fault front.has_text.text
read_has_no_fault input es ls TreeText (m, lines, front, read) (text, none) =
    none front.fronts front.behind es front.has_text
read_has_no_fault input es ls (Tree cause) (m, lines, front, read)
    (fronts, behind, fs, has_text, first) =
    let (_, _, same) = text_is_one input front.fronts front.behind fronts behind es fs front.has_text has_text
    in
    absurd (
    let no : has_fault es cause ≡ false = no_tree_fault es cause front.is_tree in
    let yes : has_fault es cause ≡ true = subst (λ (x : List TreeProcess). has_fault x cause ≡ true)
    (sym same) first.is_there in
    let both : false ≡ true = sym no ∙ yes in
    cc)
read_has_no_fault input es ls TooLong (m, lines, front, read) fault = fault
read_has_no_fault input es ls (Line k) (m, lines, front, read) (fs, n, lines', front', wrong) =
    let same = front_is_one input es fs m n lines lines' front front' in
    absurd (let both : Ok ls ≡ Err k = sym read ∙ read_alike es fs m n lines lines' same ∙ wrong in cc)
