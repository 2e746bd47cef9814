-- The text of a tree is the TOML document of its processes.
use Rattle.std.proofs.Common.{◌≡◌, ℕ, suc, ◌<◌, ◌^◌, pos, false, ◌==◌, List, [], ◌∷◌, ◌++◌, length, codes, decimal, Option, Some, None, option_and_then, flat_map, rules, refl, sym, ap, subst, ◌∙◌, inl, inr, arith, append_assoc, append-nil}
use Rattle.std.specs.List.{AllByRecursion}
use Rattle.toml_parser.specs.Lexical.{first}
use Rattle.toml_writer.specs.Text.{key_text}
use Rattle.toml.specs.Data.{Data, string, integer, array, table, Items, no_items, item, Members, no_members, member, push_item}
use Rattle.toml.specs.Tables.{Nodes, no_nodes, node, value, open_array, close, Expression, Document, key_value, array_table, define, along_header, along_dots, at_key}
use Rattle.toml.specs.Parse.{skip_bom, parse_document}
use Rattle.toml.proofs.Turns.{document_some}
use Rattle.toml.proofs.ReadLines.{run, AllPrinted}
use Rattle.toml.proofs.ReadValues.{item_join, item_join-none, item_join-push}
use Rattle.protocol.specs.declared.names.ProcessId.{ProcessId}
use Rattle.protocol.specs.declared.names.Kind.{Kind}
use Rattle.protocol.specs.declared.names.Kind.TheVariants.{Coordinator, Manager}
use Rattle.protocol.specs.declared.trees.TreeProcess.{TreeProcess}
use Rattle.tree_script.specs.Documents.{kind_text, AreProcesses, DescribesProcess, IsTable, IsTreeText}
use Rattle.log_script.specs.Trees.{head_lines, info_line, parent_line, process_table, tree_text}
use Rattle.log_script.specs.spelling.Fits.{FitsEntry, FitsInfo, FitsParent}
use Rattle.log_script.proofs.spelling.Expressions.{AllPlain, AreLines, all_plain, lines_append, printed_append, quoted_word, read_all}

-- The expressions of a process.

abbrev pair : List ℕ → Data → Expression
pair k d = (([], k), key_value d)

abbrev number : ProcessId → Data
number p = integer (pos p.0)

abbrev parent_pairs : Option ProcessId → List Expression
parent_pairs None = []
parent_pairs (Some p) = pair (codes "parent") (number p) ∷ []

abbrev info_pairs : Option (List ℕ) → List Expression
info_pairs None = []
info_pairs (Some info) = pair (codes "info") (string info) ∷ []

abbrev head_pairs : ProcessId → Kind → List Expression
head_pairs p kind = (([], codes "process"), array_table) ∷ pair (codes "id") (number p)
    ∷ pair (codes "kind") (string (kind_text kind)) ∷ []

abbrev expressions_of : TreeProcess → List Expression
expressions_of e = head_pairs e.id e.kind ++ (parent_pairs e.parent ++ info_pairs e.info)

abbrev expressions : List TreeProcess → List Expression
expressions es = flat_map expressions_of es

-- Their lines.

number_line : (k : List ℕ) (p : ProcessId) → key_text k ≡ k → p.0 < 2 ^ 32
    → AreLines (pair k (number p) ∷ []) (k ++ codes " = " ++ decimal p.0 ++ 10 ∷ [])
number_line k p bare small = (
  k ++ codes " = " ++ decimal p.0 ++ 10 ∷ [],
  [],
  sym (append-nil _),
  (decimal p.0, rw bare (simp append_assoc), (refl, omega arith)),
  refl,
)

key_process : key_text (codes "process") ≡ codes "process"
unfolding key_text
key_process = refl

key_id : key_text (codes "id") ≡ codes "id"
unfolding key_text
key_id = refl

key_kind : key_text (codes "kind") ≡ codes "kind"
unfolding key_text
key_kind = refl

key_parent : key_text (codes "parent") ≡ codes "parent"
unfolding key_text
key_parent = refl

key_info : key_text (codes "info") ≡ codes "info"
unfolding key_text
key_info = refl

parent_lines : (parent : Option ProcessId) → FitsParent parent
    → AreLines (parent_pairs parent) (parent_line parent)
parent_lines None fits = refl
parent_lines (Some p) fits = number_line (codes "parent") p key_parent fits.1

word_line : (k s : List ℕ) → key_text k ≡ k → AllPlain s
    → AreLines (pair k (string s) ∷ []) (k ++ codes " = \"" ++ s ++ codes "\"\n")
word_line k s bare plain = (
  k ++ codes " = \"" ++ s ++ codes "\"\n",
  [],
  sym (append-nil _),
  (codes "\"" ++ s ++ codes "\"", rw bare (simp append_assoc refl), sym (quoted_word s plain)),
  refl,
)

info_lines : (info : Option (List ℕ)) → FitsInfo info → AreLines (info_pairs info) (info_line info)
info_lines None fits = refl
info_lines (Some info) fits = word_line (codes "info") info key_info (all_plain info fits.1)

kind_plain : (kind : Kind) → AllPlain (kind_text kind)
kind_plain Coordinator = all_plain (codes "coordinator") (search rules)
kind_plain Manager = all_plain (codes "manager") (search rules)

abbrev head_of : ProcessId → Kind → List ℕ
head_of p kind = codes "[[process]]\nid = " ++ decimal p.0 ++ codes "\nkind = \"" ++ kind_text kind
    ++ codes "\"\n"

regroup : (a d b k c : List ℕ) → a ++ d ++ 10 ∷ b ++ k ++ c ≡ a ++ ((d ++ 10 ∷ []) ++ (b ++ k ++ c))
regroup a d b k c = simp append_assoc

head_are : (p : ProcessId) (kind : Kind) → p.0 < 2 ^ 32 → AreLines (head_pairs p kind) (head_of p kind)
head_are p kind small =
    let numbered = codes "id = " ++ decimal p.0 ++ 10 ∷ [] in
    let named = codes "kind = \"" ++ kind_text kind ++ codes "\"\n" in
    let whole : head_of p kind ≡ codes "[[process]]\n" ++ (numbered ++ named) =
    regroup (codes "[[process]]\nid = ") (decimal p.0) (codes "kind = \"") (kind_text kind) (codes "\"\n") in
    rw whole (
      codes "[[process]]\n",
      numbered ++ named,
      refl,
      rw key_process refl,
      lines_append (pair (codes "id") (number p) ∷ [])
          (pair (codes "kind") (string (kind_text kind)) ∷ []) numbered named
          (number_line (codes "id") p key_id small)
          (word_line (codes "kind") (kind_text kind) key_kind (kind_plain kind)),
    )

process_lines : (e : TreeProcess) → FitsEntry e → AreLines (expressions_of e) (process_table e)
unfolding process_table
process_lines e fits =
    subst (AreLines (expressions_of e)) (sym (append_assoc (head_lines e) (parent_line e.parent)
    (info_line e.info)))
    (lines_append (head_pairs e.id e.kind) (parent_pairs e.parent ++ info_pairs e.info) (head_lines e)
    (parent_line e.parent ++ info_line e.info)
    (head_are e.id e.kind fits.id_fits.1)
    (lines_append (parent_pairs e.parent) (info_pairs e.info) (parent_line e.parent) (info_line e.info)
    (parent_lines e.parent fits.parent_fits) (info_lines e.info fits.info_fits)))

tree_lines : (es : List TreeProcess) → AllByRecursion FitsEntry es → AreLines (expressions es) (tree_text es)
tree_lines [] fits = refl
tree_lines (e ∷ es) fits =
    lines_append (expressions_of e) (expressions es) (process_table e) (tree_text es) (process_lines e fits.0)
    (tree_lines es fits.1)

-- They are expressions as the crate toml prints them.

parent_printed : (parent : Option ProcessId) → AllPrinted (parent_pairs parent)
parent_printed None = tt
parent_printed (Some p) = ((refl, omega arith, refl), tt)

info_printed : (info : Option (List ℕ)) → AllPrinted (info_pairs info)
info_printed None = tt
info_printed (Some info) = ((refl, omega arith, refl), tt)

process_printed : (e : TreeProcess) → AllPrinted (expressions_of e)
process_printed e = (
  omega arith,
  (
    (refl, omega arith, refl),
    (
      (refl, omega arith, refl),
      printed_append (parent_pairs e.parent) (info_pairs e.info)
          (parent_printed e.parent) (info_printed e.info),
    ),
  ),
)

tree_printed : (es : List TreeProcess) → AllPrinted (expressions es)
tree_printed [] = tt
tree_printed (e ∷ es) = printed_append (expressions_of e) (expressions es) (process_printed e)
    (tree_printed es)

-- What a document holds after them.

abbrev with_parent : Option ProcessId → Nodes
with_parent None = no_nodes
with_parent (Some p) = node (codes "parent") (value (number p)) no_nodes

abbrev with_info : Option (List ℕ) → Nodes → Nodes
with_info None more = more
with_info (Some info) more = node (codes "info") (value (string info)) more

-- the table of a process
abbrev nodes_of : ProcessId → Kind → Option ProcessId → Option (List ℕ) → Nodes
nodes_of p kind parent info =
    node (codes "id") (value (number p)) (with_info info
    (node (codes "kind") (value (string (kind_text kind))) (with_parent parent)))

abbrev table_of : TreeProcess → Data
table_of e = table (close (nodes_of e.id e.kind e.parent e.info))

abbrev tables_of : List TreeProcess → Items
tables_of [] = no_items
tables_of (e ∷ es) = item (table_of e) (tables_of es)

-- in the table of a process, after those that are complete
abbrev inside : Items → Nodes → Document
inside done last = (node (codes "process") (open_array done last) no_nodes, codes "process" ∷ [])

run_append : (doc next : Document) (es fs : List Expression) → run doc es ≡ Some next
    → run doc (es ++ fs) ≡ run next fs
run_append doc next [] fs h = let same : doc ≡ next = cc in rw same refl
run_append doc next (e ∷ es) fs h = each (define doc e) h (λ d k. run_append d next es fs k)
  where
    each : (o : Option Document) → option_and_then (λ d. run d es) o ≡ Some next
        → ((d : Document) → run d es ≡ Some next → run d (es ++ fs) ≡ run next fs)
        → option_and_then (λ d. run d (es ++ fs)) o ≡ run next fs
    each None h more = absurd cc
    each (Some d) h more = more d h

process_first : (p : ProcessId) (kind : Kind) (parent : Option ProcessId) (info : Option (List ℕ))
    → run (no_nodes, []) (head_pairs p kind ++ (parent_pairs parent ++ info_pairs info))
    ≡ Some (inside no_items (nodes_of p kind parent info))
unfolding define along_header along_dots at_key
process_first p kind None None = refl
process_first p kind None (Some info) = refl
process_first p kind (Some q) None = refl
process_first p kind (Some q) (Some info) = refl

process_next : (done : Items) (last : Nodes) (p : ProcessId) (kind : Kind) (parent : Option ProcessId)
    (info : Option (List ℕ))
    → run (inside done last) (head_pairs p kind ++ (parent_pairs parent ++ info_pairs info))
    ≡ Some (inside (push_item done (table (close last))) (nodes_of p kind parent info))
unfolding define along_header along_dots at_key
process_next done last p kind None None = refl
process_next done last p kind None (Some info) = refl
process_next done last p kind (Some q) None = refl
process_next done last p kind (Some q) (Some info) = refl

-- these processes are after those that are complete
abbrev Behind : Items → Nodes → List TreeProcess → Type 0
Behind done last es = (doc : Document) × (run (inside done last) (expressions es) ≡ Some doc)
    × (close doc.0 ≡ member (codes "process")
    (array (item_join (push_item done (table (close last))) (tables_of es))) no_members)

behind : (done : Items) (last : Nodes) (es : List TreeProcess) → Behind done last es
behind done last [] = (
  inside done last,
  refl,
  ap (λ (ds : Items). member (codes "process") (array ds) no_members)
      (sym (item_join-none (push_item done (table (close last))))),
)
behind done last (e ∷ es) =
    let next = push_item done (table (close last)) in
    let last_now = nodes_of e.id e.kind e.parent e.info in
    let (doc, ran, closed) = behind next last_now es in (
      doc,
      run_append (inside done last) (inside next last_now) (expressions_of e) (expressions es)
          (process_next done last e.id e.kind e.parent e.info) ∙ ran,
      closed ∙ ap (λ (ds : Items). member (codes "process") (array ds) no_members)
          (item_join-push next (table (close last_now)) (tables_of es)),
    )

-- the table of a tree's text
abbrev document_of : List TreeProcess → Members
document_of [] = no_members
document_of (e ∷ es) = member (codes "process") (array (tables_of (e ∷ es))) no_members

ran : (es : List TreeProcess) → (doc : Document) × (run (no_nodes, []) (expressions es) ≡ Some doc)
    × (close doc.0 ≡ document_of es)
ran [] = ((no_nodes, []), refl, refl)
ran (e ∷ es) =
    let last = nodes_of e.id e.kind e.parent e.info in
    let (doc, more, closed) = behind no_items last es in (
      doc,
      run_append (no_nodes, []) (inside no_items last) (expressions_of e) (expressions es)
          (process_first e.id e.kind e.parent e.info) ∙ more,
      closed,
    )

no_mark : (es : List TreeProcess) → (first (tree_text es) == 239) ≡ false
unfolding process_table
no_mark [] = refl
no_mark (e ∷ es) = refl

not_skipped : (text : List ℕ) → (first text == 239) ≡ false → skip_bom text ≡ text
unfolding skip_bom
not_skipped text h = rw h

parsed : (es : List TreeProcess) → AllByRecursion FitsEntry es
    → parse_document (tree_text es) ≡ Some (document_of es)
parsed es fits =
    let text = tree_text es in
    let (doc, more, closed) = ran es in
    let read = read_all (expressions es) text text (no_nodes, []) (suc (length text)) (tree_lines es fits)
    (tree_printed es) refl (omega arith) in
    document_some text doc (rw (not_skipped text (no_mark es)) (read ∙ more)) ∙ rw closed

-- The tables are those of the processes.

is_process : (p : ProcessId) (kind : Kind) (parent : Option ProcessId) (info : Option (List ℕ))
    → FitsEntry (record { id = p; kind = kind; parent = parent; info = info })
    → DescribesProcess (table (close (nodes_of p kind parent info)))
    (record { id = p; kind = kind; parent = parent; info = info })
is_process p kind None None fits =
    record {
      known = (inl refl, (inr (inl refl), tt));
      id = (refl, fits.id_fits.0, fits.id_fits.1);
      kind = refl;
      parent = tt;
      info = tt;
      info_kind = fits.info_kind;
    }
is_process p kind None (Some info) fits =
    record {
      known = (inl refl, (inr (inr (inr refl)), (inr (inl refl), tt)));
      id = (refl, fits.id_fits.0, fits.id_fits.1);
      kind = refl;
      parent = tt;
      info = (refl, fits.info_fits.0, fits.info_fits.1);
      info_kind = fits.info_kind;
    }
is_process p kind (Some q) None fits =
    record {
      known = (inl refl, (inr (inl refl), (inr (inr (inl refl)), tt)));
      id = (refl, fits.id_fits.0, fits.id_fits.1);
      kind = refl;
      parent = (refl, fits.parent_fits.0, fits.parent_fits.1);
      info = tt;
      info_kind = fits.info_kind;
    }
is_process p kind (Some q) (Some info) fits =
    record {
      known = (inl refl, (inr (inr (inr refl)), (inr (inl refl), (inr (inr (inl refl)), tt))));
      id = (refl, fits.id_fits.0, fits.id_fits.1);
      kind = refl;
      parent = (refl, fits.parent_fits.0, fits.parent_fits.1);
      info = (refl, fits.info_fits.0, fits.info_fits.1);
      info_kind = fits.info_kind;
    }

are_processes : (es : List TreeProcess) → AllByRecursion FitsEntry es → AreProcesses (tables_of es) es
are_processes [] fits = tt
are_processes (e ∷ es) fits = (is_process e.id e.kind e.parent e.info fits.0, are_processes es fits.1)

is_table : (es : List TreeProcess) → AllByRecursion FitsEntry es → IsTable (document_of es) es
is_table [] fits = refl
is_table (e ∷ es) fits = (tables_of (e ∷ es), refl, are_processes (e ∷ es) fits)

-- the text of a tree reads as its processes
pub tree_text_reads : (es : List TreeProcess) → AllByRecursion FitsEntry es → IsTreeText (tree_text es) es
tree_text_reads es fits = (document_of es, parsed es fits, is_table es fits)
