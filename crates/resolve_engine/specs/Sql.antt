-- The statement that ends a branch.
use Rattle.std.specs.Prelude.{ℕ, ℤ, pos, negsuc, suc, Bool, true, false, ◌==◌, if◌then◌else◌, nat_lt, ◌+◌, ◌-◌, Option, Some, None, List, [], ◌∷◌, ◌++◌, codes}
use Rattle.std.specs.List.{flat_map}
use Rattle.std.specs.Fmt.{decimal}
use Rattle.hex.specs.Hex.{encode_upper}
use Rattle.xa_xid.specs.Xids.{XidParts}
use Rattle.branch_names.specs.Forms.{IsXidOf}
use Rattle.resolve_engine.specs.declared.answer.BranchAnswer.{BranchAnswer}
use Rattle.resolve_engine.specs.declared.answer.AnswerWord.{AnswerWord}
use Rattle.resolve_engine.specs.declared.answer.AnswerWord.TheVariants as word
use Rattle.resolve_engine.specs.declared.asked.Database.{Database}
use Rattle.resolve_engine.specs.declared.asked.Database.TheVariants.{PostgreSql, MariaDb}
use Rattle.resolve_engine.specs.Texts.{answer_text, why_text}

-- a branch is to be committed, or rolled back, or neither is to be done now
abbrev pub commits : AnswerWord → Option Bool
commits word.Commit = Some true
commits word.Rollback = Some false
commits _ = None

-- a byte in a string of SQL: a quote is there twice
abbrev pub quoted_byte : ℕ → List ℕ
quoted_byte b = if b == 39 then codes "''" else b ∷ []

-- a text as a string of SQL
abbrev pub string_text : List ℕ → List ℕ
string_text text = codes "'" ++ flat_map quoted_byte text ++ codes "'"

-- bytes as a string of SQL in hexadecimal
abbrev pub bytes_text : List ℕ → List ℕ
bytes_text bs = codes "X'" ++ encode_upper bs ++ codes "'"

-- the statement of PostgreSQL
abbrev pub postgresql_text : List ℕ → Bool → List ℕ
postgresql_text name true = codes "COMMIT PREPARED " ++ string_text name
postgresql_text name false = codes "ROLLBACK PREPARED " ++ string_text name

-- the verb of MariaDB
abbrev pub verb_text : Bool → List ℕ
verb_text true = codes "XA COMMIT "
verb_text false = codes "XA ROLLBACK "

-- how large a format's number is, without its sign
abbrev pub format_size : ℤ → ℕ
format_size (pos n) = n
format_size (negsuc n) = suc n

-- the statement of MariaDB
abbrev pub mariadb_text : XidParts → Bool → List ℕ
mariadb_text x c = verb_text c ++ bytes_text x.gtrid ++ codes "," ++ bytes_text x.bqual ++ codes ","
    ++ decimal (format_size x.format)

-- the statement for a name by the XID that it is, if the database has one for it
abbrev pub statement_by : Database → List ℕ → Option XidParts → Bool → List ℕ
statement_by PostgreSql name x c = postgresql_text name c ++ codes "; "
statement_by MariaDb name None c = []
statement_by MariaDb name (Some x) c = mariadb_text x c ++ codes "; "

-- the statement for an answer, if there is one to be made now
abbrev pub statement_text : Database → List ℕ → Option XidParts → Option Bool → List ℕ
statement_text d name x None = []
statement_text d name x (Some c) = statement_by d name x c

-- the comment of an answer: the answer, and the reason
abbrev pub comment_text : List ℕ → BranchAnswer → List ℕ
comment_text name a = codes "-- " ++ answer_text name a.word ++ codes ": " ++ why_text a ++ codes "\n"

-- the line of an answer: its statement, and the reason as a comment
abbrev pub sql_text : Database → List ℕ → Option XidParts → BranchAnswer → List ℕ
sql_text d name x a = statement_text d name x (commits a.word) ++ comment_text name a
