-- How a tree and its logs are spelled.
use Rattle.std.specs.Prelude.{ℕ, List, [], ◌∷◌, ◌++◌, codes, Option, Some, None}
use Rattle.std.specs.List.{flat_map}
use Rattle.std.specs.Fmt.{decimal}
use Rattle.protocol.specs.declared.names.ProcessId.{ProcessId}
use Rattle.protocol.specs.declared.trees.TreeProcess.{TreeProcess}
use Rattle.tree_script.specs.Documents.{kind_text}
use Rattle.log_script.specs.declared.line.ProcessLog.{ProcessLog}
use Rattle.log_script.specs.Lines.{log_lines}

-- the line of a parent, if there is one
abbrev pub parent_line : Option ProcessId → List ℕ
parent_line None = []
parent_line (Some p) = codes "parent = " ++ decimal p.0 ++ 10 ∷ []

-- the line of an info, if there is one
abbrev pub info_line : Option (List ℕ) → List ℕ
info_line None = []
info_line (Some info) = codes "info = \"" ++ info ++ codes "\"\n"

-- the lines of a process and its kind
abbrev pub head_lines : TreeProcess → List ℕ
head_lines e = codes "[[process]]\nid = " ++ decimal e.id.0 ++ codes "\nkind = \"" ++ kind_text e.kind
    ++ codes "\"\n"

-- the table of a process
unfoldable pub process_table : TreeProcess → List ℕ
process_table e = head_lines e ++ parent_line e.parent ++ info_line e.info

-- the text of a tree, its processes in order
abbrev pub tree_text : List TreeProcess → List ℕ
tree_text es = flat_map process_table es

-- the text of a tree and of these logs
abbrev pub logs_text : List TreeProcess → List ProcessLog → List ℕ
logs_text es ls = tree_text es ++ codes "---\n" ++ log_lines ls
