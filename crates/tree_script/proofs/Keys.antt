-- The keys of a table, and of the members that it stands for.
use Rattle.std.proofs.Common.{◌≡◌, Some, List, [], ◌∷◌, All, String, Global, string_bytes}
use Rattle.std.specs.Map.{keys_of}
use Rattle.std.proofs.lemmas.List.Elements.{All-nil, All-cons, All-head, All-tail}
use Rattle.toml.specs.declared.value.Value.{Value}
use Rattle.toml.specs.Data.{Data, Members, string, integer, float, boolean, datetime, array, table, as_table}
use Rattle.toml.specs.View.{members_view}
use Rattle.tree_script.specs.Documents.{IsKnownKey, KeysAreKnown}

abbrev named : String Global → Type 0
named k = IsKnownKey (string_bytes k)

pub to_members : (ms : List (String Global × Value)) → All (λ k. IsKnownKey (string_bytes k)) (keys_of ms)
    → KeysAreKnown (members_view ms)
to_members [] h = tt
to_members (m ∷ ms) h = (All-head named m.0 (keys_of ms) h, to_members ms (All-tail named m.0 (keys_of ms) h))

pub from_members : (ms : List (String Global × Value)) → KeysAreKnown (members_view ms)
    → All (λ k. IsKnownKey (string_bytes k)) (keys_of ms)
from_members [] h = All-nil named
from_members (m ∷ ms) h = All-cons named m.0 (keys_of ms) h.0 (from_members ms h.1)

pub is_table : (d : Data) (ms : Members) → Some ms ≡ as_table d → d ≡ table ms
is_table (string s) ms e = absurd cc
is_table (integer z) ms e = absurd cc
is_table (float x) ms e = absurd cc
is_table (boolean b) ms e = absurd cc
is_table (datetime dt) ms e = absurd cc
is_table (array ds) ms e = absurd cc
is_table (table ts) ms e = cc
