-- What an opening makes of what is under a log's name.
use Rattle.std.specs.Prelude.{ℕ, List, Option, Some, None, ⊤, option_map}
use Rattle.std.specs.Borrow.{Bor}
use Rattle.file_blocks.specs.declared.file.FileText.{FileText}
use Rattle.file_blocks.specs.Files.{Holds, IsDamaged, file_number}
use Rattle.log_file.specs.declared.found.FileOpenError.{FileOpenError}
use Rattle.log_file.specs.declared.found.FileOpenError.TheVariants.{Memory, Missing, Damaged}

-- the bytes of the file with the name, if there is one
abbrev pub text_of : Option (Bor (List ℕ)) → Option (List ℕ)
text_of held = option_map (λ b. b.now) held

-- what was found is what such a file holds
abbrev pub IsFound : Option (List ℕ) → FileText → Type 0
IsFound None found = ⊥
IsFound (Some bytes) found = Holds bytes found.number found.bytes.items

-- why nothing was found: there is no file, or it is damaged, or memory was refused
abbrev pub IsRefused : Option (List ℕ) → FileOpenError → Type 0
IsRefused None Missing = ⊤
IsRefused (Some bytes) Damaged = IsDamaged bytes (file_number bytes)
IsRefused (Some bytes) Memory = ⊤
IsRefused held e = ⊥
