-- What is written of a tree and its logs reads as this tree and these logs.
use Rattle.std.proofs.Common.{◌≡◌, ℕ, ◌+◌, ◌<◌, false, List, [], ◌∷◌, ◌++◌, length, map, All, codes, decimal, Option, Some, None, flat_map, refl, sym, ap, subst, ◌∙◌, arith, append_assoc, append-nil, IsUtf8}
use Rattle.std.proofs.lemmas.Grind.{flat_map-append}
use Rattle.std.specs.List.{AllByRecursion}
use Rattle.hex.specs.Hex.{encode_lower}
use Rattle.spellings.specs.HexText.{Spells}
use Rattle.spellings.proofs.HexText.{spelled_lower}
use Rattle.protocol.specs.declared.names.ProcessId.{ProcessId}
use Rattle.protocol.specs.declared.names.Kind.{Kind}
use Rattle.protocol.specs.declared.names.Kind.TheVariants.{Coordinator, Manager}
use Rattle.protocol.specs.declared.trees.TreeProcess.{TreeProcess}
use Rattle.trace_lines.specs.Trace.{line_text, lines_text}
use Rattle.tree_script.specs.Documents.{kind_text, IsTreeText}
use Rattle.tree_script.specs.Rules.{pieces, is_rule, around_rule}
use Rattle.tree_script.specs.Spellings.{process_text}
use Rattle.log_script.specs.declared.line.ProcessLog.{ProcessLog}
use Rattle.log_script.specs.Lines.{FitsLog, bytes_part, log_line, log_lines}
use Rattle.log_script.specs.Laws.{AreFirst}
use Rattle.log_script.specs.Trees.{info_line, logs_text, parent_line, process_table, tree_text}
use Rattle.log_script.proofs.LogLaws.{lines_again as logs_again}
use Rattle.log_script.specs.spelling.Fits.{FitsEntry, FitsInfo, FitsParent, IsNumbered}
use Rattle.log_script.specs.spelling.Laws.{WrittenIsRead}
use Rattle.log_script.proofs.spelling.Printed.{ArePrinted, ArePrintedLines, decimal_printed, digits_printed, ended, is_printed, letters_printed, lines_again, lines_append, printed_append, rule_found, text_is_utf8, text_pieces, word_printed}
use Rattle.log_script.proofs.spelling.TreeText.{tree_text_reads}

-- The lines of a process.

abbrev head_table : ProcessId → Kind → List (List ℕ)
head_table p kind = codes "[[process]]" ∷ (codes "id = " ++ decimal p.0)
    ∷ (codes "kind = \"" ++ kind_text kind ++ codes "\"") ∷ []

abbrev parent_table : Option ProcessId → List (List ℕ)
parent_table None = []
parent_table (Some p) = (codes "parent = " ++ decimal p.0) ∷ []

abbrev info_table : Option (List ℕ) → List (List ℕ)
info_table None = []
info_table (Some info) = (codes "info = \"" ++ info ++ codes "\"") ∷ []

abbrev table_lines : TreeProcess → List (List ℕ)
table_lines e = head_table e.id e.kind ++ (parent_table e.parent ++ info_table e.info)

abbrev front_lines : List TreeProcess → List (List ℕ)
front_lines es = flat_map table_lines es

head_form : (f n i d b k c : List ℕ)
    → (f ++ (n ++ i)) ++ d ++ (n ++ b) ++ k ++ (c ++ n) ≡ (f ++ n)
    ++ (((i ++ d) ++ n) ++ (((b ++ k ++ c) ++ n) ++ []))
head_form f n i d b k c = simp (append_assoc, append-nil)

head_text : (p : ProcessId) (kind : Kind)
    → codes "[[process]]\nid = " ++ decimal p.0 ++ codes "\nkind = \"" ++ kind_text kind ++ codes "\"\n"
    ≡ lines_text (head_table p kind)
head_text p kind = head_form (codes "[[process]]") (10 ∷ []) (codes "id = ") (decimal p.0) (codes "kind = \"")
    (kind_text kind) (codes "\"")

parent_text : (parent : Option ProcessId) → parent_line parent ≡ lines_text (parent_table parent)
parent_text None = refl
parent_text (Some p) = sym (append-nil _)

info_text : (info : Option (List ℕ)) → info_line info ≡ lines_text (info_table info)
info_text None = refl
info_text (Some info) = simp append_assoc

table_text : (e : TreeProcess) → process_table e ≡ lines_text (table_lines e)
unfolding process_table
table_text e =
    ap (λ (t : List ℕ). t ++ parent_line e.parent ++ info_line e.info) (head_text e.id e.kind)
    ∙ rw (parent_text e.parent, info_text e.info) (append_assoc (lines_text (head_table e.id e.kind)) _ _)
    ∙ ap (λ (t : List ℕ). lines_text (head_table e.id e.kind) ++ t)
    (sym (flat_map-append line_text (parent_table e.parent) (info_table e.info)))
    ∙ sym (flat_map-append line_text (head_table e.id e.kind) (parent_table e.parent ++ info_table e.info))

front_text : (es : List TreeProcess) → tree_text es ≡ lines_text (front_lines es)
front_text [] = refl
front_text (e ∷ es) = rw (table_text e, front_text es)
    (sym (flat_map-append line_text (table_lines e) (front_lines es)))

behind_text : (ls : List ProcessLog) → log_lines ls ≡ lines_text (map log_line ls)
behind_text [] = refl
behind_text (l ∷ ls) = ap (λ (t : List ℕ). line_text (log_line l) ++ t) (behind_text ls)

abbrev all_lines : List TreeProcess → List ProcessLog → List (List ℕ)
all_lines es ls = front_lines es ++ codes "---" ∷ map log_line ls

whole_text : (es : List TreeProcess) (ls : List ProcessLog) → logs_text es ls ≡ lines_text (all_lines es ls)
whole_text es ls =
    rw (front_text es, behind_text ls) (append_assoc (lines_text (front_lines es)) (codes "---\n")
    (lines_text (map log_line ls)))
    ∙ sym (flat_map-append line_text (front_lines es) (codes "---" ∷ map log_line ls))

-- They are printed, and none before the line of three dashes is one.

number_printed : (p : ProcessId) → IsNumbered p → ArePrinted (decimal p.0)
number_printed p h = decimal_printed p.0 (omega (arith, h.1))

kind_printed : (kind : Kind) → ArePrinted (kind_text kind)
kind_printed Coordinator = word_printed (codes "coordinator") refl
kind_printed Manager = word_printed (codes "manager") refl

quoted_printed : (front word : List ℕ) → ArePrinted front → ArePrinted word
    → ArePrinted (front ++ word ++ codes "\"")
quoted_printed front word a b =
    printed_append (front ++ word) (codes "\"") (printed_append front word a b)
    (word_printed (codes "\"") refl)

-- a line before the line of three dashes
record IsFrontLine (line : List ℕ) : Type 0 where
  printed : ArePrinted line
  no_rule : is_rule line ≡ false

abbrev AreFrontLines : List (List ℕ) → Type 0
AreFrontLines lines = AllByRecursion IsFrontLine lines

fronts_append : (a b : List (List ℕ)) → AreFrontLines a → AreFrontLines b → AreFrontLines (a ++ b)
fronts_append [] b h k = k
fronts_append (x ∷ a) b h k = (h.0, fronts_append a b h.1 k)

head_front : (p : ProcessId) (kind : Kind) → IsNumbered p → AreFrontLines (head_table p kind)
head_front p kind fits = (
  record { printed = word_printed (codes "[[process]]") refl; no_rule = refl },
  (
    record {
      printed = printed_append (codes "id = ") (decimal p.0) (word_printed (codes "id = ") refl)
          (number_printed p fits);
      no_rule = refl;
    },
    (
      record {
        printed = quoted_printed (codes "kind = \"") (kind_text kind)
            (word_printed (codes "kind = \"") refl) (kind_printed kind);
        no_rule = refl;
      },
      tt,
    ),
  ),
)

parent_front : (parent : Option ProcessId) → FitsParent parent → AreFrontLines (parent_table parent)
parent_front None fits = tt
parent_front (Some p) fits = (
  record {
    printed = printed_append (codes "parent = ") (decimal p.0)
        (word_printed (codes "parent = ") refl) (number_printed p fits);
    no_rule = refl;
  },
  tt,
)

info_front : (info : Option (List ℕ)) → FitsInfo info → AreFrontLines (info_table info)
info_front None fits = tt
info_front (Some info) fits = (
  record {
    printed = quoted_printed (codes "info = \"") info (word_printed (codes "info = \"") refl)
        (letters_printed info fits.1);
    no_rule = refl;
  },
  tt,
)

fronts_fit : (es : List TreeProcess) → AllByRecursion FitsEntry es → AreFrontLines (front_lines es)
fronts_fit [] fits = tt
fronts_fit (e ∷ es) fits =
    let this = fits.0 in
    fronts_append (table_lines e) (front_lines es)
    (fronts_append (head_table e.id e.kind) (parent_table e.parent ++ info_table e.info)
    (head_front e.id e.kind this.id_fits)
    (fronts_append (parent_table e.parent) (info_table e.info) (parent_front e.parent this.parent_fits)
    (info_front e.info this.info_fits)))
    (fronts_fit es fits.1)

all_printed : (lines : List (List ℕ)) → AreFrontLines lines → ArePrintedLines lines
all_printed [] h = tt
all_printed (line ∷ lines) h = (h.0.printed, all_printed lines h.1)

no_rules : (lines : List (List ℕ)) → AreFrontLines lines → AllByRecursion (λ line. is_rule line ≡ false) lines
no_rules [] h = tt
no_rules (line ∷ lines) h = (h.0.no_rule, no_rules lines h.1)

bytes_printed : (bytes : List ℕ) → All (λ b. b < 256) bytes → ArePrinted (bytes_part bytes)
bytes_printed [] fit = tt
bytes_printed (b ∷ bs) fit =
    let spelled : Spells (encode_lower (b ∷ bs)) (b ∷ bs) = record { fits = fit; spelled = refl } in (
      is_printed 32 (omega arith) (omega arith),
      digits_printed (encode_lower (b ∷ bs)) (spelled_lower (encode_lower (b ∷ bs)) (b ∷ bs, spelled)),
    )

log_printed : (l : ProcessLog) → FitsLog l → ArePrinted (log_line l)
log_printed l fits =
    printed_append (codes "log " ++ process_text l.process) (bytes_part l.bytes)
    (printed_append (codes "log ") (process_text l.process) (word_printed (codes "log ") refl)
    (decimal_printed l.process.0 (omega (arith, fits.process_fits))))
    (bytes_printed l.bytes fits.bytes_fit)

logs_printed : (es : List TreeProcess) (seen ls : List ProcessLog) → AreFirst es seen ls
    → ArePrintedLines (map log_line ls)
logs_printed es seen [] h = tt
logs_printed es seen (l ∷ ls) (fits, may, more) =
    (log_printed l fits, logs_printed es (seen ++ l ∷ []) ls more)

pub written_is_read : WrittenIsRead
written_is_read es ls tree logs =
    let fronts = front_lines es in
    let behind = map log_line ls in
    let front = fronts_fit es tree.entries_fit in
    let printed_behind = logs_printed es [] ls logs.are_first in
    let printed = lines_append fronts (codes "---" ∷ behind) (all_printed fronts front)
    (word_printed (codes "---") refl, printed_behind) in
    let text = whole_text es ls in
    let cut : pieces (logs_text es ls) ≡ fronts ++ codes "---" ∷ ended behind =
    ap pieces text ∙ text_pieces (all_lines es ls) printed
    ∙ append_assoc fronts (codes "---" ∷ behind) ([] ∷ []) in (
      length fronts + 1,
      behind,
      record {
        fronts = fronts;
        behind = ended behind;
        has_text = record {
          text = subst IsUtf8 (sym text) (text_is_utf8 (all_lines es ls) printed);
          rule = ap around_rule cut ∙ rule_found fronts behind (no_rules fronts front);
          tree_text = subst (λ (t : List ℕ). IsTreeText t es) (front_text es)
              (tree_text_reads es tree.entries_fit);
        };
        is_tree = tree.is_tree;
        rule_is = refl;
        lines_are = sym (lines_again behind printed_behind);
      },
      logs_again es ls (length fronts + 1) logs.are_first logs.each_has_one,
    )
