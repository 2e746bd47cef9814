-- Reading an operation on data from left to right.
use Rattle.std.specs.Prelude.{ℕ, List, length, codes, Bool, ◌&&◌, not, nat_le, ◌==◌, Option, Some, None, if◌then◌else◌}
use Rattle.std.specs.List.{list_all}
use Rattle.spellings.specs.Words.{cut_at}
use Rattle.protocol.specs.declared.messages.Op.{Op}
use Rattle.protocol.specs.declared.messages.Op.TheVariants.{Put, Get, Delete}
use Rattle.script_words.specs.declared.operation.Task.{Task}
use Rattle.script_words.specs.declared.operation.Task.TheVariants.{Put as PutTask, Get as GetTask, Delete as DeleteTask}
use Rattle.script_words.specs.Steps.{◌>>=◌, same}

-- a byte from `!` to `~`
abbrev pub is_visible : ℕ → Bool
is_visible b = nat_le 33 b && nat_le b 126

-- 1 to N visible bytes
abbrev pub is_visible_word : ℕ → List ℕ → Bool
is_visible_word most w = not (length w == 0) && nat_le (length w) most && list_all is_visible w

-- a key of 1 to 64 bytes
abbrev pub key_at : List ℕ → Option (List ℕ)
key_at w = if is_visible_word 64 w then Some w else None

-- a value of 1 to 256 bytes
abbrev pub value_at : List ℕ → Option (List ℕ)
value_at w = if is_visible_word 256 w then Some w else None

-- `put`: a key and the value to be stored under it
unfoldable pub put_at : List ℕ → Option Op
put_at rest = do
  p ← cut_at 32 rest
  key ← key_at p.0
  value ← value_at p.1
  Some (Put key value)

-- `get`: the key to be read
abbrev pub get_at : List ℕ → Option Op
get_at rest = key_at rest >>= λ key. Some (Get key)

-- `del`: the key to be deleted
abbrev pub delete_at : List ℕ → Option Op
delete_at rest = key_at rest >>= λ key. Some (Delete key)

-- an operation on data, by its verb and what is after it
abbrev pub op_by : List ℕ → List ℕ → Option Op
op_by verb rest =
    if same verb (codes "put") then put_at rest
    else if same verb (codes "get") then get_at rest
    else if same verb (codes "del") then delete_at rest
    else None

-- an operation on data: `put`, a key and a value; `get` or `del` and a key
unfoldable pub op_at : List ℕ → Option Op
op_at words = cut_at 32 words >>= λ p. op_by p.0 p.1

-- a task without where its texts lie
abbrev pub op_view : Task → Op
op_view (PutTask key value) = Put key.now value.now
op_view (GetTask key) = Get key.now
op_view (DeleteTask key) = Delete key.now
