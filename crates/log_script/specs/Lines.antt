-- The line of a process's log: how it is spelled, and how it is read from left to right.
use Rattle.std.specs.Prelude.{ℕ, ◌<◌, ◌%◌, ◌/◌, ◌==◌, ◌&&◌, not, List, [], ◌∷◌, ◌++◌, length, codes, Option, Some, None, Result, Ok, Err, if◌then◌else◌, Bool}
use Rattle.std.specs.List.{All, list_all, flat_map}
use Rattle.hex.specs.Hex.{encode_lower, decode_sized}
use Rattle.hex.specs.declared.error.FromHexError.{FromHexError}
use Rattle.spellings.specs.HexText.{is_lower_digit}
use Rattle.spellings.specs.Words.{cut_at}
use Rattle.protocol.specs.declared.names.ProcessId.{ProcessId}
use Rattle.trace_lines.specs.Trace.{line_text}
use Rattle.script_words.specs.Steps.{◌>>=◌}
use Rattle.tree_script.specs.Names.{process_at}
use Rattle.script_words.specs.Steps.{same}
use Rattle.tree_script.specs.Spellings.{process_text, FitsProcess}
use Rattle.log_script.specs.declared.line.ProcessLog.{ProcessLog}

-- a space and the bytes in lower-case hexadecimal, if there are any
abbrev pub bytes_part : List ℕ → List ℕ
bytes_part [] = []
bytes_part (b ∷ bs) = codes " " ++ encode_lower (b ∷ bs)

-- the line of a log: `log`, the process, and the bytes
abbrev pub log_line : ProcessLog → List ℕ
log_line l = codes "log " ++ process_text l.process ++ bytes_part l.bytes

-- the lines of logs, each with its end
abbrev pub log_lines : List ProcessLog → List ℕ
log_lines ls = flat_map (λ l. line_text (log_line l)) ls

-- the process has a number below 2^32, and the bytes are bytes
pub record FitsLog (l : ProcessLog) : Type 0 where
  pub process_fits : FitsProcess l.process
  pub bytes_fit : All (λ b. b < 256) l.bytes

-- the log of these bytes
abbrev pub process_log : ProcessId → List ℕ → ProcessLog
process_log p bytes = record { process = p; bytes = bytes }

-- what was decoded
abbrev pub decoded : Result (List ℕ) FromHexError → Option (List ℕ)
decoded (Ok bytes) = Some bytes
decoded (Err e) = None

-- an even number of lower-case digits, at least two
abbrev pub are_digits : List ℕ → Bool
are_digits w = not (length w == 0) && (length w % 2 == 0 && list_all is_lower_digit w)

-- the bytes that such digits spell
unfoldable pub bytes_at : List ℕ → Option (List ℕ)
bytes_at w = if are_digits w then decoded (decode_sized w (length w / 2)) else None

-- a process alone, or with the bytes of its log
abbrev pub log_parts : List ℕ → Option (List ℕ × List ℕ) → Option ProcessLog
log_parts rest None = process_at rest >>= λ p. Some (process_log p [])
log_parts rest (Some q) = process_at q.0 >>= λ p. bytes_at q.1 >>= λ bytes. Some (process_log p bytes)

-- the word `log`, and what is after it
abbrev pub log_words : Option (List ℕ × List ℕ) → Option ProcessLog
log_words None = None
log_words (Some p) = if same p.0 (codes "log") then log_parts p.1 (cut_at 32 p.1) else None

-- the log of a line
unfoldable pub log_at : List ℕ → Option ProcessLog
log_at line = log_words (cut_at 32 line)
