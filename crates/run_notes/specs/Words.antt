-- What is told of a step.
use Rattle.std.specs.Prelude.{◌≡◌, ℕ, Bool, not, ◌&&◌, ◌==◌, nat_le, if◌then◌else◌, List, [], ◌∷◌, ◌++◌, codes, Option, Some, None}
use Rattle.std.specs.Fmt.{decimal}
use Rattle.std.specs.List.{flat_map}
use Rattle.hex.specs.Hex.{encode_lower}
use Rattle.protocol.specs.declared.names.Case.{Case}
use Rattle.protocol.specs.declared.messages.Op.{Op}
use Rattle.protocol.specs.declared.messages.Op.TheVariants.{Put, Get, Delete}
use Rattle.protocol.specs.declared.records.BranchName.{BranchName}
use Rattle.protocol.specs.declared.records.BranchName.TheVariants.{Foreign}
use Rattle.protocol_words.specs.Variants.{CaseBranch}
use Rattle.protocol.specs.Texts.{case_text}
use Rattle.run_notes.specs.declared.branch.Spoiled.{Spoiled}
use Rattle.run_notes.specs.declared.branch.Spoiled.TheVariants.{Held, TooLong, TooMany}

-- a byte stands as it is: a visible character of ASCII, and no backslash
abbrev pub is_plain : ℕ → Bool
is_plain b = nat_le 33 b && nat_le b 126 && not (b == 92)

-- a byte as it is, or as a backslash, an `x` and its two digits
abbrev pub byte_text : ℕ → List ℕ
byte_text b = if is_plain b then b ∷ [] else (codes "\\x" ++ encode_lower (b ∷ []))

-- the bytes of a key or a value
abbrev pub bytes_text : List ℕ → List ℕ
bytes_text bs = flat_map byte_text bs

-- a value that was read, or that none is there
abbrev pub value_text : Option (List ℕ) → List ℕ
value_text None = codes "nothing is there"
value_text (Some v) = bytes_text v

-- what a case read at a key
abbrev pub read_text : Case → List ℕ → Option (List ℕ) → List ℕ
read_text c k v = case_text c ++ codes " reads " ++ bytes_text k ++ codes ": " ++ value_text v

-- why a case votes NO
abbrev pub no_text : Case → List ℕ → List ℕ
no_text c reason = case_text c ++ codes " votes NO: " ++ reason

-- why a case votes NO of which no branch is known
abbrev pub unknown_text : Case → List ℕ
unknown_text c = no_text c (codes "it does not know the branch, which was lost in a crash or has ended")

-- why a case votes NO that did M of N works
abbrev pub count_text : Case → ℕ → ℕ → List ℕ
count_text c works done = no_text c (codes "of " ++ decimal works ++ codes " works " ++ decimal done
    ++ codes " came in order")

-- which key which branch holds
abbrev pub held_text : List ℕ → BranchName → List ℕ
held_text k (CaseBranch c) = codes "key " ++ bytes_text k ++ codes " is held by " ++ case_text c
held_text k (Foreign x) = codes "key " ++ bytes_text k ++ codes " is held by a branch that is no case"

-- why a work was refused
abbrev pub spoiled_text : Spoiled → List ℕ
spoiled_text (Held k b) = held_text k.items b
spoiled_text TooLong = codes "a key or a value has too many bytes, or a key none"
spoiled_text TooMany = codes "it would have written more than 64 keys"

-- these words say what a case read by an operation
abbrev pub IsRead : Case → Op → List ℕ → Type 0
IsRead c (Get k) w = (v : Option (List ℕ)) × (w ≡ read_text c k v)
IsRead c (Put _ _) w = ⊥
IsRead c (Delete _) w = ⊥

-- these words say why a case votes NO
abbrev pub IsNo : Case → List ℕ → Type 0
IsNo c w = (reason : List ℕ) × (w ≡ no_text c reason)
