-- Reading what an acknowledgement found from left to right.
use Rattle.std.specs.Prelude.{ℕ, List, [], ◌∷◌, ◌++◌, Bool, codes, drop, map, Option, Some, None, ◌==◌, if◌then◌else◌}
use Rattle.std.specs.List.{before_first, position_or_len, slice_split}
use Rattle.protocol.specs.declared.names.Ticket.{Ticket}
use Rattle.protocol.specs.declared.messages.Finding.{Finding}
use Rattle.protocol.specs.declared.messages.Finding.TheVariants.{Mixed, Unreported}
use Rattle.script_words.specs.Steps.{◌>>=◌, same}
use Rattle.tree_script.specs.Names.{ticket_at}

-- the words of a text, with one blank between any two
abbrev pub words_in : List ℕ → List (List ℕ)
words_in text = slice_split (λ b. b == 32) text

-- words of which each is a ticket
abbrev pub tickets_at : List (List ℕ) → Option (List Ticket)
tickets_at [] = Some []
tickets_at (w ∷ ws) = ticket_at w >>= λ t. tickets_at ws >>= λ ts. Some (t ∷ ts)

-- one such word or more
abbrev pub some_tickets_at : List (List ℕ) → Option (List Ticket)
some_tickets_at [] = None
some_tickets_at (w ∷ ws) = tickets_at (w ∷ ws)

-- a part: its name, and after it one ticket or more; or nothing
abbrev pub part_at : List ℕ → List (List ℕ) → Option (List Ticket)
part_at name [] = Some []
part_at name (w ∷ ws) = if same w name then some_tickets_at ws else None

-- the word that the unreported tickets are after
abbrev pub begins_unreported : List ℕ → Bool
begins_unreported w = same w (codes "unreported")

-- the part of the mixed tickets, and then that of the unreported ones
abbrev pub parts_at : List (List ℕ) → Option (List Finding)
parts_at ws =
    part_at (codes "mixed") (before_first begins_unreported ws)
    >>= λ mixed. part_at (codes "unreported") (drop (position_or_len begins_unreported ws) ws)
    >>= λ unreported. Some (map (λ t. Mixed t) mixed ++ map (λ t. Unreported t) unreported)

-- what a text says was found
unfoldable pub findings_at : List ℕ → Option (List Finding)
findings_at text = parts_at (words_in text)

-- what was found, by the text after an outcome; if there is none, nothing was
abbrev pub found_at : Option (List ℕ) → Option (List Finding)
found_at None = Some []
found_at (Some text) = findings_at text
