-- Texts of findings: what is read is spelled so, and what is spelled so is read.
use Rattle.std.proofs.Common.{◌≡◌, ◌<◌, ◌≤◌, ℕ, zero, suc, Bool, true, false, cond, if◌then◌else◌, eqb, Option, Some, None, List, [], ◌∷◌, ◌++◌, length, get_or, drop, refl, ap, sym, subst, ◌∙◌, arith, inl, inr, codes, append_assoc}
use Rattle.std.specs.Prelude.{map, nat_lt, not, ◌+◌}
use Rattle.std.specs.Borrow.{Bor}
use Rattle.std.specs.List.{All, before_first, flat_map, join_with_byte, list_any, position, position_or_len}
use Rattle.std.proofs.lemmas.Bool.{cases_eq}
use Rattle.std.proofs.lemmas.Bool.Decides.{nat_tests}
use Rattle.std.proofs.lemmas.List.{append-nil, get_or_append_left, length-append, take-append-drop}
use Rattle.std.proofs.lemmas.List.Elements.{All-cons, All-nil}
use Rattle.std.proofs.lemmas.List.Splits.{join_with_byte-slice_split, length-slice_split, slice_split_at, slice_split_none}
use Rattle.std.proofs.lemmas.List.Sums.{position_or_len_is}
use Rattle.std.proofs.Math.Seq.{drop-append_seam, get_or-append_seam, take-append_seam}
use Rattle.spellings.proofs.Cuts.{some_is}
use Rattle.protocol.specs.declared.names.Ticket.{Ticket}
use Rattle.protocol.specs.declared.messages.Finding.{Finding}
use Rattle.protocol.specs.declared.messages.Finding.TheVariants.{Mixed, Unreported}
use Rattle.protocol.specs.Records.{in_order, mixed_of, unreported_of}
use Rattle.protocol.specs.Texts.{findings_text, is_mixed, is_unreported, mixed_word, ticket_text, unreported_word}
use Rattle.script_words.specs.Steps.{same}
use Rattle.tree_script.specs.Names.{ticket_at}
use Rattle.tree_script.specs.Spellings.{FitsTicket}
use Rattle.tree_script.proofs.LineLaws.{chosen}
use Rattle.tree_script.proofs.Misses.{bind_some, blank, misses, not_at, same_tells}
use Rattle.tree_script.proofs.NameLaws.{ticket_again, ticket_misses, ticket_takes}
use Rattle.node_lines.specs.Findings.{begins_unreported, findings_at, found_at, part_at, parts_at, some_tickets_at, tickets_at, words_in}
use Rattle.node_lines.specs.Spellings.{FitsFindings}

-- Words.

-- the text of words, a blank before each
abbrev pub behind : List (List ℕ) → List ℕ
behind [] = []
behind (w ∷ ws) = 32 ∷ w ++ behind ws

behind_both : (ws vs : List (List ℕ)) → behind (ws ++ vs) ≡ behind ws ++ behind vs
behind_both [] vs = refl
behind_both (w ∷ ws) vs = ap (λ t. 32 ∷ w ++ t) (behind_both ws vs)
    ∙ sym (append_assoc (32 ∷ w) (behind ws) (behind vs))

joined_behind : (w : List ℕ) (ws : List (List ℕ)) → 32 ∷ join_with_byte 32 (w ∷ ws) ≡ behind (w ∷ ws)
joined_behind w [] = ap (λ t. 32 ∷ t) (sym (append-nil w))
joined_behind w (v ∷ ws) = ap (λ t. 32 ∷ w ++ t) (joined_behind v ws)

some_behind : (ws : List (List ℕ)) → 0 < length ws → 32 ∷ join_with_byte 32 ws ≡ behind ws
some_behind [] h = absurd (omega arith)
some_behind (w ∷ ws) h = joined_behind w ws

-- a text with a blank before it is the text of its words
pub words_take : (text : List ℕ) → 32 ∷ text ≡ behind (words_in text)
words_take text =
    ap (λ t. 32 ∷ t) (sym (join_with_byte-slice_split 32 text))
    ∙ some_behind (words_in text) (omega (arith, length-slice_split (λ b. eqb b 32) text))

-- words without a blank
abbrev pub HaveNoBlank : List (List ℕ) → Type 0
HaveNoBlank [] = Unit {0}
HaveNoBlank (w ∷ ws) = (misses 32 w ≡ true) × HaveNoBlank ws

other_bytes : (w : List ℕ) → misses 32 w ≡ true → All (λ b. eqb b 32 ≡ false) w
other_bytes [] h = All-nil (λ b. eqb b 32 ≡ false)
other_bytes (b ∷ w) h =
    elim (cases_eq b 32) [
      | inl e ↦ absurd (let yes : eqb b 32 ≡ true = grind (arith, nat_tests) in
          let no : false ≡ true = rw yes at h in cc)
      | inr e ↦ All-cons (λ x. eqb x 32 ≡ false) b w (not_at 32 b e)
          (other_bytes w (let rest : misses 32 w ≡ true = rw (not_at 32 b e) at h in rest))
    ]

pub words_again : (w : List ℕ) (ws : List (List ℕ)) → HaveNoBlank (w ∷ ws)
    → words_in (w ++ behind ws) ≡ w ∷ ws
words_again w [] h = ap words_in (append-nil w) ∙ slice_split_none (λ b. eqb b 32) w (other_bytes w h.0)
words_again w (v ∷ ws) h =
    slice_split_at (λ b. eqb b 32) w 32 (v ++ behind ws) (other_bytes w h.0) refl
    ∙ ap (λ vs. w ∷ vs) (words_again v ws h.1)

-- where the unreported tickets begin among words that are in a text

mapped : (ws : List (Bor (List ℕ))) → position_or_len (λ w. begins_unreported w.now) ws
    ≡ position_or_len begins_unreported (map (λ w. w.now) ws)
mapped [] = refl
mapped (w ∷ ws) = ap (λ n. cond (not (begins_unreported w.now)) (1 + n) 0) (mapped ws)

within_more : (b : Bool) (n m : ℕ) → n ≤ m → cond b (1 + n) 0 ≤ suc m
within_more true n m h = omega arith
within_more false n m h = omega arith

within : (ws : List (Bor (List ℕ))) → position_or_len (λ w. begins_unreported w.now) ws ≤ length ws
within [] = omega arith
within (w ∷ ws) = within_more (not (begins_unreported w.now))
    (position_or_len (λ v. begins_unreported v.now) ws)
    (length ws) (within ws)

abbrev place : List (Bor (List ℕ)) → ℕ
place ws = position_or_len (λ w. begins_unreported w.now) ws

found_place : (ws : List (Bor (List ℕ))) (b : Bool) → nat_lt (place ws) (length ws) ≡ b → (n : ℕ)
    → Some n ≡ cond b (Some (place ws)) None → n ≡ place ws
found_place ws true e n h = some_is n (place ws) h
found_place ws false e n h = absurd (cc)

no_place : (ws : List (Bor (List ℕ))) (b : Bool) → nat_lt (place ws) (length ws) ≡ b
    → None ≡ cond b (Some (place ws)) None → length ws ≡ place ws
no_place ws true e h = absurd (cc)
no_place ws false e h = let low = within ws in grind (arith, nat_tests)

pub some_there : (ws : List (Bor (List ℕ))) (n : ℕ) → Some n ≡ position (λ w. begins_unreported w.now) ws
    → n ≡ position_or_len begins_unreported (map (λ w. w.now) ws)
some_there ws n h = found_place ws (nat_lt (place ws) (length ws)) refl n h ∙ mapped ws

pub some_within : (ws : List (Bor (List ℕ))) (n : ℕ) → Some n ≡ position (λ w. begins_unreported w.now) ws
    → n ≤ length ws
some_within ws n h = subst (λ k. k ≤ length ws)
    (sym (found_place ws (nat_lt (place ws) (length ws)) refl n h)) (within ws)

pub none_there : (ws : List (Bor (List ℕ))) → None ≡ position (λ w. begins_unreported w.now) ws
    → length ws ≡ position_or_len begins_unreported (map (λ w. w.now) ws)
none_there ws h = no_place ws (nat_lt (place ws) (length ws)) refl h ∙ mapped ws

-- Tickets.

abbrev pub FitsTickets : List Ticket → Type 0
FitsTickets [] = Unit {0}
FitsTickets (t ∷ ts) = FitsTicket t × FitsTickets ts

tickets_take : (ws : List (List ℕ)) (ts : List Ticket) → tickets_at ws ≡ Some ts
    → (ws ≡ map ticket_text ts) × FitsTickets ts
tickets_take [] ts h = subst (λ (us : List Ticket). ([] ≡ map ticket_text us) × FitsTickets us)
    (some_is [] ts h) (refl, tt)
tickets_take (w ∷ ws) ts h =
    let a = bind_some (ticket_at w) _ ts h in
    let b = bind_some (tickets_at ws) _ ts a.2 in
    let one = ticket_takes w a.0 a.1 in
    let more = tickets_take ws b.0 b.1 in
    subst (λ (us : List Ticket). (w ∷ ws ≡ map ticket_text us) × FitsTickets us)
    (some_is (a.0 ∷ b.0) ts b.2) (
      ap (λ v. v ∷ ws) one.0 ∙ ap (λ vs. ticket_text a.0 ∷ vs) more.0,
      (one.1, more.1),
    )

tickets_again : (ts : List Ticket) → FitsTickets ts → tickets_at (map ticket_text ts) ≡ Some ts
tickets_again [] f = refl
tickets_again (t ∷ ts) f = rw (ticket_again t f.0, tickets_again ts f.1) refl

-- Parts.

-- the words of a part
abbrev pub part_words : List ℕ → List Ticket → List (List ℕ)
part_words name [] = []
part_words name (t ∷ ts) = name ∷ map ticket_text (t ∷ ts)

named_take : (name w : List ℕ) (ws : List (List ℕ)) (ts : List Ticket) → w ≡ name
    → some_tickets_at ws ≡ Some ts → (w ∷ ws ≡ part_words name ts) × FitsTickets ts
named_take name w [] ts e h = absurd cc
named_take name w (v ∷ ws) [] e h =
    let more = tickets_take (v ∷ ws) [] h in
    absurd (let none : v ∷ ws ≡ [] = more.0 in cc)
named_take name w (v ∷ ws) (t ∷ ts) e h =
    let more = tickets_take (v ∷ ws) (t ∷ ts) h in
    (ap (λ x. x ∷ v ∷ ws) e ∙ ap (λ vs. name ∷ vs) more.0, more.1)

part_takes : (name : List ℕ) (ws : List (List ℕ)) (ts : List Ticket) → part_at name ws ≡ Some ts
    → (ws ≡ part_words name ts) × FitsTickets ts
part_takes name [] ts h = subst (λ (us : List Ticket). ([] ≡ part_words name us) × FitsTickets us)
    (some_is [] ts h) (refl, tt)
part_takes name (w ∷ ws) ts h =
    chosen ((w ∷ ws ≡ part_words name ts) × FitsTickets ts) (same w name) _ _ ts h
    (λ is here. named_take name w ws ts (same_tells w name is) here)
    (λ _ none. absurd cc)

part_again : (name : List ℕ) (ts : List Ticket) → same name name ≡ true → FitsTickets ts
    → part_at name (part_words name ts) ≡ Some ts
part_again name [] is f = refl
part_again name (t ∷ ts) is f = rw is (tickets_again (t ∷ ts) f)

-- Both parts.

abbrev pub mixed_first : List Ticket → List Ticket → List Finding
mixed_first ms us = map (λ t. Mixed t) ms ++ map (λ t. Unreported t) us

abbrev pub both_words : List Ticket → List Ticket → List (List ℕ)
both_words ms us = part_words (codes "mixed") ms ++ part_words (codes "unreported") us

record Parts (ws : List (List ℕ)) (fs : List Finding) : Type 0 where
  pub mixed : List Ticket
  pub unreported : List Ticket
  pub words : ws ≡ both_words mixed unreported
  pub found : fs ≡ mixed_first mixed unreported
  pub mixed_fit : FitsTickets mixed
  pub unreported_fit : FitsTickets unreported

parts_take : (ws : List (List ℕ)) (fs : List Finding) → parts_at ws ≡ Some fs → Parts ws fs
parts_take ws fs h =
    let a = bind_some (part_at (codes "mixed") (before_first begins_unreported ws)) _ fs h in
    let b = bind_some (part_at (codes "unreported") (drop (position_or_len begins_unreported ws) ws)) _ fs a.2
    in
    let ms = part_takes (codes "mixed") (before_first begins_unreported ws) a.0 a.1 in
    let us = part_takes (codes "unreported") (drop (position_or_len begins_unreported ws) ws) b.0 b.1 in
    record {
      mixed = a.0;
      unreported = b.0;
      words = sym (take-append-drop (position_or_len begins_unreported ws) ws)
          ∙ ap (λ vs. vs ++ drop (position_or_len begins_unreported ws) ws) ms.0
          ∙ ap (λ vs. part_words (codes "mixed") a.0 ++ vs) us.0;
      found = sym (some_is (mixed_first a.0 b.0) fs b.2);
      mixed_fit = ms.1;
      unreported_fit = us.1;
    }

-- none of these begins the unreported ones
abbrev BeginNone : List (List ℕ) → Type 0
BeginNone [] = Unit {0}
BeginNone (w ∷ ws) = (begins_unreported w ≡ false) × BeginNone ws

begins_none_at : (ws : List (List ℕ)) → BeginNone ws → (k : ℕ) → k < length ws
    → begins_unreported (get_or ws k []) ≡ false
begins_none_at [] h k lt = absurd (omega arith)
begins_none_at (w ∷ ws) h zero lt = h.0
begins_none_at (w ∷ ws) h (suc k) lt = begins_none_at ws h.1 k (omega arith)

no_name : (t : Ticket) → FitsTicket t → (b : Bool) → begins_unreported (ticket_text t) ≡ b → b ≡ false
unfolding ticket_at
no_name t f false e = refl
no_name t f true e = absurd (
    let is : ticket_text t ≡ codes "unreported" = same_tells (ticket_text t) (codes "unreported") e in
    let read : ticket_at (codes "unreported") ≡ Some t = subst (λ (w : List ℕ). ticket_at w ≡ Some t) is
    (ticket_again t f) in
    let none : ticket_at (codes "unreported") ≡ None = refl in cc)

tickets_begin_none : (ts : List Ticket) → FitsTickets ts → BeginNone (map ticket_text ts)
tickets_begin_none [] f = tt
tickets_begin_none (t ∷ ts) f = (
  no_name t f.0 (begins_unreported (ticket_text t)) refl,
  tickets_begin_none ts f.1,
)

mixed_begin_none : (ts : List Ticket) → FitsTickets ts → BeginNone (part_words (codes "mixed") ts)
mixed_begin_none [] f = tt
mixed_begin_none (t ∷ ts) f = (refl, tickets_begin_none (t ∷ ts) f)

front : (ws : List (List ℕ)) → BeginNone ws → (us : List Ticket)
    → position_or_len begins_unreported (ws ++ part_words (codes "unreported") us) ≡ length ws
front ws h us = position_or_len_is begins_unreported (ws ++ part_words (codes "unreported") us) (length ws) []
    (omega (arith, length-append ws (part_words (codes "unreported") us)))
    (λ k lt. ap begins_unreported (get_or_append_left ws (part_words (codes "unreported") us) [] k lt)
    ∙ begins_none_at ws h k lt)
    (λ lt. at_seam us lt)
  where
    at_seam : (us : List Ticket) → length ws < length (ws ++ part_words (codes "unreported") us)
        → begins_unreported (get_or (ws ++ part_words (codes "unreported") us) (length ws) []) ≡ true
    at_seam [] lt = absurd (omega (arith, length-append ws []))
    at_seam (u ∷ us) lt = ap begins_unreported
        (get_or-append_seam ws (codes "unreported") (map ticket_text (u ∷ us)) [])

parts_again : (ms us : List Ticket) → FitsTickets ms → FitsTickets us
    → parts_at (both_words ms us) ≡ Some (mixed_first ms us)
parts_again ms us f g =
    let ws = part_words (codes "mixed") ms in
    let vs = part_words (codes "unreported") us in
    rw (
      front ws (mixed_begin_none ms f) us,
      take-append_seam ws vs,
      drop-append_seam ws vs,
      part_again (codes "mixed") ms refl f,
      part_again (codes "unreported") us refl g,
    ) refl

-- The text.

none_mixed : (us : List Ticket) → list_any is_mixed (map (λ t. Unreported t) us) ≡ false
none_mixed [] = refl
none_mixed (u ∷ us) = none_mixed us

none_unreported : (ms us : List Ticket)
    → list_any is_unreported (mixed_first ms us) ≡ list_any is_unreported (map (λ t. Unreported t) us)
none_unreported [] us = refl
none_unreported (m ∷ ms) us = none_unreported ms us

no_mixed_words : (us : List Ticket) → flat_map mixed_word (map (λ t. Unreported t) us) ≡ []
no_mixed_words [] = refl
no_mixed_words (u ∷ us) = no_mixed_words us

mixed_words : (ms us : List Ticket) → flat_map mixed_word (mixed_first ms us) ≡ behind (map ticket_text ms)
mixed_words [] us = no_mixed_words us
mixed_words (m ∷ ms) us = ap (λ t. 32 ∷ ticket_text m ++ t) (mixed_words ms us)

unreported_words : (ms us : List Ticket)
    → flat_map unreported_word (mixed_first ms us) ≡ behind (map ticket_text us)
unreported_words [] [] = refl
unreported_words [] (u ∷ us) = ap (λ t. 32 ∷ ticket_text u ++ t) (unreported_words [] us)
unreported_words (m ∷ ms) us = unreported_words ms us

mixed_part : (ms us : List Ticket) → (if list_any is_mixed (mixed_first ms us) then codes " mixed" else [])
    ++ behind (map ticket_text ms) ≡ behind (part_words (codes "mixed") ms)
mixed_part [] us = rw (none_mixed us) refl
mixed_part (m ∷ ms) us = refl

unreported_part : (us : List Ticket) → (if list_any is_unreported (map (λ t. Unreported t) us)
    then codes " unreported" else [])
    ++ behind (map ticket_text us) ≡ behind (part_words (codes "unreported") us)
unreported_part [] = refl
unreported_part (u ∷ us) = refl

pub both_text : (ms us : List Ticket) → findings_text (mixed_first ms us) ≡ behind (both_words ms us)
unfolding findings_text
both_text ms us =
    let head = if list_any is_mixed (mixed_first ms us) then codes " mixed" else [] in
    let tail = if list_any is_unreported (map (λ t. Unreported t) us) then codes " unreported" else [] in
    rw (mixed_words ms us, unreported_words ms us, none_unreported ms us) (
    sym (append_assoc head (behind (map ticket_text ms)) (tail ++ behind (map ticket_text us)))
    ∙ ap (λ t. t ++ (tail ++ behind (map ticket_text us))) (mixed_part ms us)
    ∙ ap (λ t. behind (part_words (codes "mixed") ms) ++ t) (unreported_part us)
    ∙ sym (behind_both (part_words (codes "mixed") ms) (part_words (codes "unreported") us))
    )

-- The order.

mixed_are : (ms us : List Ticket) → mixed_of (mixed_first ms us) ≡ ms
unfolding mixed_of
mixed_are [] [] = refl
mixed_are [] (u ∷ us) = mixed_are [] us
mixed_are (m ∷ ms) us = ap (λ ts. m ∷ ts) (mixed_are ms us)

unreported_are : (ms us : List Ticket) → unreported_of (mixed_first ms us) ≡ us
unfolding unreported_of
unreported_are [] [] = refl
unreported_are [] (u ∷ us) = ap (λ ts. u ∷ ts) (unreported_are [] us)
unreported_are (m ∷ ms) us = unreported_are ms us

first_in_order : (ms us : List Ticket) → in_order (mixed_first ms us) ≡ mixed_first ms us
first_in_order ms us = rw (mixed_are ms us, unreported_are ms us) refl

first_fit : (ms us : List Ticket) → FitsTickets ms → FitsTickets us → FitsFindings (mixed_first ms us)
first_fit [] [] f g = tt
first_fit [] (u ∷ us) f g = (g.0, first_fit [] us f g.1)
first_fit (m ∷ ms) us f g = (f.0, first_fit ms us f.1 g)

mixed_fit : (fs : List Finding) → FitsFindings fs → FitsTickets (mixed_of fs)
unfolding mixed_of
mixed_fit [] f = tt
mixed_fit (Mixed t ∷ fs) f = (f.0, mixed_fit fs f.1)
mixed_fit (Unreported t ∷ fs) f = mixed_fit fs f.1

unreported_fit : (fs : List Finding) → FitsFindings fs → FitsTickets (unreported_of fs)
unfolding unreported_of
unreported_fit [] f = tt
unreported_fit (Mixed t ∷ fs) f = unreported_fit fs f.1
unreported_fit (Unreported t ∷ fs) f = (f.0, unreported_fit fs f.1)

-- After an outcome.

-- the text after an outcome, if there is one, with the blank before it
abbrev pub behind_text : Option (List ℕ) → List ℕ
behind_text None = []
behind_text (Some text) = 32 ∷ text

-- the text of words after an outcome
abbrev pub text_of : List (List ℕ) → Option (List ℕ)
text_of [] = None
text_of (w ∷ ws) = Some (w ++ behind ws)

pub record IsFound (text : List ℕ) (fs : List Finding) : Type 0 where
  pub spelled : text ≡ findings_text fs
  pub fit : FitsFindings fs
  pub ordered : in_order fs ≡ fs

nothing_found : [] ≡ findings_text []
unfolding findings_text
nothing_found = refl

is_found : (ms us : List Ticket) → FitsTickets ms → FitsTickets us → (text : List ℕ)
    → text ≡ behind (both_words ms us)
    → IsFound text (mixed_first ms us)
is_found ms us f g text e = record {
  spelled = e ∙ sym (both_text ms us);
  fit = first_fit ms us f g;
  ordered = first_in_order ms us;
}

pub found_takes : (text : Option (List ℕ)) (fs : List Finding) → found_at text ≡ Some fs
    → IsFound (behind_text text) fs
unfolding findings_at
found_takes None fs h = subst (λ (gs : List Finding). IsFound [] gs) (some_is [] fs h)
    (is_found [] [] tt tt [] refl)
found_takes (Some text) fs h =
    let p = parts_take (words_in text) fs h in
    subst (λ (gs : List Finding). IsFound (32 ∷ text) gs) (sym p.found)
    (is_found p.mixed p.unreported p.mixed_fit p.unreported_fit (32 ∷ text)
    (words_take text ∙ ap behind p.words))

ticket_words : (ts : List Ticket) → FitsTickets ts → HaveNoBlank (map ticket_text ts)
ticket_words [] f = tt
ticket_words (t ∷ ts) f = (ticket_misses 32 blank refl t f.0, ticket_words ts f.1)

part_no_blank : (name : List ℕ) (ts : List Ticket) → misses 32 name ≡ true → FitsTickets ts
    → HaveNoBlank (part_words name ts)
part_no_blank name [] h f = tt
part_no_blank name (t ∷ ts) h f = (h, ticket_words (t ∷ ts) f)

both_no_blank : (ws vs : List (List ℕ)) → HaveNoBlank ws → HaveNoBlank vs → HaveNoBlank (ws ++ vs)
both_no_blank [] vs f g = g
both_no_blank (w ∷ ws) vs f g = (f.0, both_no_blank ws vs f.1 g)

pub words_no_blank : (ms us : List Ticket) → FitsTickets ms → FitsTickets us → HaveNoBlank (both_words ms us)
words_no_blank ms us f g = both_no_blank (part_words (codes "mixed") ms) (part_words (codes "unreported") us)
    (part_no_blank (codes "mixed") ms refl f) (part_no_blank (codes "unreported") us refl g)

words_found : (w : List ℕ) (ws : List (List ℕ)) (fs : List Finding) → HaveNoBlank (w ∷ ws)
    → parts_at (w ∷ ws) ≡ Some fs → findings_at (w ++ behind ws) ≡ Some fs
unfolding findings_at
words_found w ws fs h e = ap parts_at (words_again w ws h) ∙ e

pub found_again : (ms us : List Ticket) → FitsTickets ms → FitsTickets us
    → found_at (text_of (both_words ms us)) ≡ Some (mixed_first ms us)
found_again [] [] f g = refl
found_again [] (u ∷ us) f g = words_found (codes "unreported") (map ticket_text (u ∷ us))
    (mixed_first [] (u ∷ us))
    (words_no_blank [] (u ∷ us) f g) (parts_again [] (u ∷ us) f g)
found_again (m ∷ ms) us f g = words_found (codes "mixed")
    (map ticket_text (m ∷ ms) ++ part_words (codes "unreported") us) (mixed_first (m ∷ ms) us)
    (words_no_blank (m ∷ ms) us f g) (parts_again (m ∷ ms) us f g)

-- findings in their order are those of two parts
pub in_parts : (P : List Finding → Type 0) (fs : List Finding) → FitsFindings fs → in_order fs ≡ fs
    → ((ms us : List Ticket) → FitsTickets ms → FitsTickets us → P (mixed_first ms us)) → P fs
in_parts P fs f ordered p = subst P ordered
    (p (mixed_of fs) (unreported_of fs) (mixed_fit fs f) (unreported_fit fs f))
