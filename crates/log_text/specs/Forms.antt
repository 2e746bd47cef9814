-- The form of a log: its format, and whose it is.
use Rattle.std.specs.Prelude.{ℕ, ◌^◌, ◌==◌, if◌then◌else◌, Option, Some, None, List, [], ◌∷◌, slice_get}
use Rattle.protocol.specs.declared.names.ProcessId.{ProcessId}
use Rattle.protocol.specs.declared.names.Kind.{Kind}
use Rattle.protocol.specs.declared.names.Kind.TheVariants.{Coordinator, Manager}
use Rattle.log_text.specs.declared.form.LogForm.{LogForm}
use Rattle.log_text.specs.declared.form.LogFormat.{LogFormat}
use Rattle.log_text.specs.declared.form.LogFormat.TheVariants.{First, Second}

-- what a log of a format begins with: "RLOG" and the format's number
abbrev pub header : LogFormat → List ℕ
header First = 82 ∷ 76 ∷ 79 ∷ 71 ∷ 1 ∷ []
header Second = 82 ∷ 76 ∷ 79 ∷ 71 ∷ 2 ∷ []

-- in how many bytes a frame says the length of its payload
abbrev pub size_bytes : LogFormat → ℕ
size_bytes First = 2
size_bytes Second = 4

-- a payload is shorter than this
abbrev pub size_limit : LogFormat → ℕ
size_limit First = 65536
size_limit Second = 2 ^ 32

-- the format that a fifth byte names: the first by 1, and else the second
abbrev pub format_by : Option ℕ → LogFormat
format_by None = Second
format_by (Some n) = if n == 1 then First else Second

-- the format by which bytes are read as a log
abbrev pub format_in : List ℕ → LogFormat
format_in bytes = format_by (slice_get bytes 4)

-- the number of a sort of process
abbrev pub kind_number : Kind → ℕ
kind_number Coordinator = 0
kind_number Manager = 1

-- the form of the log that this process writes
abbrev pub log_form : ProcessId → Kind → LogForm
log_form p k = record { format = Second; process = p; kind = k }

-- the log of the same process by the first format
abbrev pub old_form : LogForm → LogForm
old_form f = record { format = First; process = f.process; kind = f.kind }

-- the form by which these bytes are read as the log of this process
abbrev pub form_in : List ℕ → ProcessId → Kind → LogForm
form_in bytes p k = record { format = format_in bytes; process = p; kind = k }

-- a form of the second format, for what hangs on neither process nor sort
abbrev pub unowned : LogForm
unowned = log_form (record { 0 = 0 }) Coordinator
