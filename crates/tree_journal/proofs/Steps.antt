-- Steps are read back as they were kept.
use Rattle.std.proofs.Common.{◌≡◌, ◌∙◌, sym, ap, refl, is_some, ℕ, zero, suc, ◌+◌, ◌≤◌, Option, Some, None, List, [], ◌∷◌, ◌++◌, length, map, option_map, true, arith}
use Rattle.std.proofs.lemmas.List.{append-nil, length-append, length-map, map_push}
use Rattle.std.proofs.lemmas.Option.{slice_get_past}
use Rattle.std.specs.Prelude.{slice_get}
use Rattle.protocol.specs.declared.names.ProcessId.{ProcessId}
use Rattle.protocol.specs.declared.names.Txn.{Txn}
use Rattle.protocol.specs.declared.messages.Envelope.{Envelope}
use Rattle.protocol.specs.declared.events.JournalEntry.{JournalEntry}
use Rattle.protocol.specs.declared.events.Happening.{Happening}
use Rattle.protocol_words.specs.Variants.{ActInput, Handles, MessageInput, Restarting, Trimming}
use Rattle.protocol.specs.declared.events.Reaction.{Reaction}
use Rattle.protocol.specs.declared.events.Told.{Told}
use Rattle.protocol.specs.declared.records.ShownRecord.{ShownRecord}
use Rattle.protocol.specs.Plays.{sent_as}
use Rattle.tree_state.specs.Worlds.{step_entry}
use Rattle.tree_journal.specs.declared.short_step.Aside.{Aside}
use Rattle.tree_journal.specs.declared.short_step.Cause.{Cause}
use Rattle.tree_journal.specs.declared.short_step.Cause.TheVariants.{Act as ActCause, Message as MessageCause, Restart as RestartCause, Trim as TrimCause}
use Rattle.tree_journal.specs.declared.short_step.LastStep.{LastStep}
use Rattle.tree_journal.specs.declared.placed_step.PlacedStep.{PlacedStep}
use Rattle.tree_journal.specs.Shown.{entry_part}
use Rattle.tree_journal.specs.Spans.{part_in}
use Rattle.tree_journal.specs.Kept.{is_placed}
use Rattle.tree_journal.specs.Steps.{HandlesSent, IsWhole, Parts, act_by, all_entries, aside_by, aside_in, aside_of, asides_by, cause_by, ends_of, entries_of, entry_in, entry_of_part, happening_in, last_entries, last_entry, last_reaction, last_step, parts_begun, parts_placed, placed_step, process_of, reaction_by, reaction_in, reaction_with, short_step, somes}
use Rattle.tree_journal.proofs.Spans.{Finds, finds_mapped, part_behind, part_more}

-- What is found in the parts is found in more of them.

found_more : {A : Type 0} (xs ys : List A) (k : ℕ) → Finds (slice_get xs k) (slice_get (xs ++ ys) k)
found_more [] ys k x h = absurd (cc)
found_more (z ∷ xs) ys zero x h = h
found_more (z ∷ xs) ys (suc k) x h = found_more xs ys k x h

sent_more : (ls ms : List Envelope) (k : ℕ) → Finds (sent_as ls k) (sent_as (ls ++ ms) k)
sent_more ls ms zero l h = h
sent_more ls ms (suc k) l h = found_more ls ms k l h

finds_aside : (bs cs : List Aside) (n : ℕ) → Finds (aside_in bs n) (aside_in (bs ++ cs) n)
finds_aside bs cs zero a is = is
finds_aside bs cs (suc k) a is = found_more bs cs k a is

-- parts that grew
pub record Grows (ps qs : Parts) : Type 0 where
  pub acts : (k : ℕ) → Finds (slice_get ps.acts k) (slice_get qs.acts k)
  pub asides : (n : ℕ) → Finds (aside_in ps.asides n) (aside_in qs.asides n)
  pub records : (k n : ℕ) → Finds (part_in ps.records k n) (part_in qs.records k n)
  pub parts : (k n : ℕ) → Finds (part_in ps.sent k n) (part_in qs.sent k n)
  pub sent : (k : ℕ) → Finds (sent_as ps.sent k) (sent_as qs.sent k)

finds_happening : (ps qs : Parts) → Grows ps qs → (c : Cause)
    → Finds (happening_in ps c) (happening_in qs c)
finds_happening ps qs g (ActCause q k) =
    finds_mapped (λ a. Handles (ActInput a)) (slice_get ps.acts k) (slice_get qs.acts k) (g.acts k)
finds_happening ps qs g (MessageCause q k) =
    finds_mapped (λ (l : Envelope). Handles (MessageInput k l.message)) (sent_as ps.sent k)
    (sent_as qs.sent k) (g.sent k)
finds_happening ps qs g (RestartCause q k) = λ h is. is
finds_happening ps qs g (TrimCause q) = λ h is. is

finds_with : (o p : Option (List ShownRecord)) (l m : Option (List Envelope)) (a b : Option Aside)
    → Finds o p → Finds l m → Finds a b → Finds (reaction_with o l a) (reaction_with p m b)
finds_with None p l m a b f g h r is = absurd (cc)
finds_with (Some ws) p None m a b f g h r is = absurd (cc)
finds_with (Some ws) p (Some ls) m a b f g h r is =
    rw (f ws refl, g ls refl) (finds_mapped (reaction_by ws ls) a b h r is)

finds_reaction : (ps qs : Parts) → Grows ps qs → (y : PlacedStep)
    → Finds (reaction_in ps y) (reaction_in qs y)
finds_reaction ps qs g y =
    finds_with (part_in ps.records y.written.start y.written.end) _
    (part_in ps.sent y.messages.start y.messages.end) _
    (aside_in ps.asides y.aside) _
    (g.records y.written.start y.written.end) (g.parts y.messages.start y.messages.end) (g.asides y.aside)

finds_entry_of : (h i : Option Happening) (p q : Option (ProcessId × Reaction)) → Finds h i → Finds p q
    → Finds (entry_of_part h p) (entry_of_part i q)
finds_entry_of None i p q f g e is = absurd (cc)
finds_entry_of (Some h) i p q f g e is =
    rw (f h refl) (finds_mapped (λ (p : ProcessId × Reaction). step_entry p.0 h p.1) p q g e is)

finds_entry : (ps qs : Parts) → Grows ps qs → (y : PlacedStep) → Finds (entry_in ps y) (entry_in qs y)
finds_entry ps qs g y =
    finds_entry_of (happening_in ps y.cause) _
    (option_map (λ r. (process_of y.cause, r)) (reaction_in ps y)) _
    (finds_happening ps qs g y.cause)
    (finds_mapped (λ r. (process_of y.cause, r)) (reaction_in ps y) (reaction_in qs y)
    (finds_reaction ps qs g y))

finds_all : {A B : Type 0} (f g : A → Option B) (xs : List A) (ys : List B) → ((x : A) → Finds (f x) (g x))
    → map f xs ≡ map Some ys → map g xs ≡ map Some ys
finds_all f g [] ys h is = is
finds_all f g (x ∷ xs) [] h is = absurd (cc)
finds_all f g (x ∷ xs) (y ∷ ys) h is =
    let first : f x ≡ Some y = cc in
    let others : map f xs ≡ map Some ys = cc in
    let same = h x y first in
    let rest = finds_all f g xs ys h others in cc

-- A step begins.

begun_grows : (ps : Parts) (h : Happening) (r : Reaction) → Grows ps (parts_begun ps h r)
begun_grows ps h r = record {
  acts = λ k. found_more ps.acts (act_by h) k;
  asides = finds_aside ps.asides (asides_by (aside_of r));
  records = λ k n a is. is;
  parts = λ k n a is. is;
  sent = λ k a is. is;
}

last_found : {A : Type 0} (xs : List A) (x : A) → slice_get (xs ++ x ∷ []) (length xs) ≡ Some x
last_found [] x = refl
last_found (y ∷ xs) x = last_found xs x

mapped_twice : {A B C : Type 0} (f : B → C) (g : A → B) (o : Option A)
    → option_map (λ a. f (g a)) o ≡ option_map f (option_map g o)
mapped_twice f g None = refl
mapped_twice f g (Some a) = refl

-- what happened is read back from its cause
cause_back : (ps : Parts) (q : ProcessId) (h : Happening) (r : Reaction) → HandlesSent ps.sent h
    → happening_in (parts_begun ps h r) (cause_by (length ps.acts) q h) ≡ Some h
cause_back ps q (Handles (ActInput a)) r sent =
    ap (λ o. option_map (λ b. Handles (ActInput b)) o) (last_found ps.acts a)
cause_back ps q (Handles (MessageInput k m)) r sent =
    mapped_twice (λ n. Handles (MessageInput k n)) (λ (l : Envelope). l.message) (sent_as ps.sent k)
    ∙ ap (λ o. option_map (λ n. Handles (MessageInput k n)) o) sent
cause_back ps q (Restarting k) r sent = refl
cause_back ps q Trimming r sent = refl

-- and the process
process_back : (n : ℕ) (q : ProcessId) (h : Happening) → process_of (cause_by n q h) ≡ q
process_back n q (Handles (ActInput a)) = refl
process_back n q (Handles (MessageInput k m)) = refl
process_back n q (Restarting k) = refl
process_back n q Trimming = refl

-- what few reactions have is read back from its number
aside_back_of : (asides : List Aside) (b : Option Txn) (t : Option Told) (k : Option ℕ)
    → let a : Aside = record { begun = b; told = t; kept = k } in
    aside_in (asides ++ asides_by a) (aside_by (length asides) a) ≡ Some a
aside_back_of asides None None None = refl
aside_back_of asides None None (Some k) = last_found asides _
aside_back_of asides None (Some t) k = last_found asides _
aside_back_of asides (Some b) t k = last_found asides _

aside_back : (asides : List Aside) (a : Aside)
    → aside_in (asides ++ asides_by a) (aside_by (length asides) a) ≡ Some a
aside_back asides a = aside_back_of asides a.begun a.told a.kept

-- the entry of a step that begins
begun_entry : (ps : Parts) (q : ProcessId) (h : Happening) (r : Reaction) → HandlesSent ps.sent h
    → last_entry (parts_begun ps h r) (last_step ps q h r) ≡ Some (step_entry q h r)
begun_entry ps q h r sent =
    rw (cause_back ps q h r sent, process_back (length ps.acts) q h, aside_back ps.asides (aside_of r)) refl

-- The entries of all steps.

-- what is read is what is there
somes_all : {A : Type 0} (xs : List A) → somes (map Some xs) ≡ xs
somes_all [] = refl
somes_all (x ∷ xs) = ap (λ ys. x ∷ ys) (somes_all xs)

entries_are : (ps : Parts) (xs : List PlacedStep) (l : Option LastStep) (w : IsWhole ps xs l)
    → entries_of ps xs l ≡ w.entries
entries_are ps xs l w = ap somes w.read ∙ somes_all w.entries

-- with one step more there is one entry more
pub begun : (ps : Parts) (xs : List PlacedStep) (q : ProcessId) (h : Happening) (r : Reaction)
    → IsWhole ps xs None → HandlesSent ps.sent h
    → (entries_of (parts_begun ps h r) xs (Some (last_step ps q h r))
    ≡ entries_of ps xs None ++ step_entry q h r ∷ [])
    × IsWhole (parts_begun ps h r) xs (Some (last_step ps q h r))
begun ps xs q h r w sent =
    let steps : map (entry_in ps) xs ≡ map Some w.entries = sym (append-nil (map (entry_in ps) xs)) ∙ w.read
    in
    let whole : IsWhole (parts_begun ps h r) xs (Some (last_step ps q h r)) = record {
      entries = w.entries ++ step_entry q h r ∷ [];
      read = ap (λ o. map (entry_in (parts_begun ps h r)) xs ++ o ∷ []) (begun_entry ps q h r sent)
          ∙ ap (λ os. os ++ Some (step_entry q h r) ∷ [])
          (finds_all (entry_in ps) (entry_in (parts_begun ps h r)) xs w.entries
          (finds_entry ps (parts_begun ps h r) (begun_grows ps h r)) steps)
          ∙ sym (map_push Some w.entries (step_entry q h r));
    } in (
      entries_are (parts_begun ps h r) xs (Some (last_step ps q h r)) whole
          ∙ ap (λ es. es ++ step_entry q h r ∷ []) (sym (entries_are ps xs None w)),
      whole,
    )

-- likewise, if there is no last step
pub begun_behind : (ps : Parts) (xs : List PlacedStep) (l : Option LastStep) (q : ProcessId) (h : Happening)
    (r : Reaction) → is_placed l ≡ true → IsWhole ps xs l → HandlesSent ps.sent h
    → (entries_of (parts_begun ps h r) xs (Some (last_step ps q h r))
    ≡ entries_of ps xs l ++ step_entry q h r ∷ [])
    × IsWhole (parts_begun ps h r) xs (Some (last_step ps q h r))
begun_behind ps xs None q h r is w sent = begun ps xs q h r w sent
begun_behind ps xs (Some l) q h r is w sent = absurd (cc)

-- the message with this number, if there is one, which was sent with it
pub message_sent : (sent : List Envelope) (k : ℕ) → is_some (sent_as sent k) ≡ true
    → (l : Envelope) × (sent_as sent k ≡ Some l) × HandlesSent sent (Handles (MessageInput k l.message))
message_sent sent k there = of (sent_as sent k) refl there where
  of : (o : Option Envelope) → sent_as sent k ≡ o → is_some o ≡ true
      → (l : Envelope) × (sent_as sent k ≡ Some l) × HandlesSent sent (Handles (MessageInput k l.message))
  of None is there = absurd (cc)
  of (Some l) is there = (l, is, ap (option_map (λ (m : Envelope). m.message)) is)

-- The last step is placed.

placed_grows : (ps : Parts) (l : LastStep) → Grows ps (parts_placed ps l)
placed_grows ps l = record {
  acts = λ k a is. is;
  asides = λ o a is. is;
  records = part_more ps.records l.written;
  parts = part_more ps.sent l.messages;
  sent = sent_more ps.sent l.messages;
}

-- the step that is kept, with the places of its parts
abbrev pub step_of : Parts → LastStep → PlacedStep
step_of ps l = placed_step (ends_of ps) (short_step ps l)

-- the step shows what it showed before
placed_reaction : (ps : Parts) (l : LastStep)
    → reaction_in (parts_placed ps l) (step_of ps l) ≡ last_reaction ps l
placed_reaction ps l = rw (part_behind ps.records l.written, part_behind ps.sent l.messages) refl

placed_entry : (ps : Parts) (l : LastStep) (e : JournalEntry) → last_entry ps l ≡ Some e
    → entry_in (parts_placed ps l) (step_of ps l) ≡ Some e
placed_entry ps l e is =
    rw (placed_reaction ps l)
    (finds_entry_of (happening_in ps l.cause) (happening_in (parts_placed ps l) l.cause)
    (option_map (λ r. (process_of l.cause, r)) (last_reaction ps l)) _
    (finds_happening ps (parts_placed ps l) (placed_grows ps l) l.cause) (λ p h. h) e is)

-- what is read of the steps, and of the last one
split_last : (os : List (Option JournalEntry)) (o : Option JournalEntry) (es : List JournalEntry)
    → os ++ o ∷ [] ≡ map Some es
    → (fs : List JournalEntry) × (f : JournalEntry) × (os ≡ map Some fs) × (o ≡ Some f) × (es ≡ fs ++ f ∷ [])
split_last [] o [] is = absurd (cc)
split_last [] o (e ∷ []) is = let same : o ≡ Some e = cc in ([], e, refl, same, refl)
split_last [] o (e ∷ f ∷ es) is = absurd (cc)
split_last (p ∷ os) o [] is = absurd (cc)
split_last (p ∷ os) o (e ∷ es) is =
    let first : p ≡ Some e = cc in
    let others : os ++ o ∷ [] ≡ map Some es = cc in
    let rest = split_last os o es others in (
      e ∷ rest.0,
      rest.1,
      ap (λ (q : Option JournalEntry). q ∷ os) first ∙ ap (λ qs. Some e ∷ qs) rest.2,
      rest.3,
      ap (λ fs. e ∷ fs) rest.4,
    )

-- the entries stay
pub placed : (ps : Parts) (xs : List PlacedStep) (l : LastStep) → IsWhole ps xs (Some l)
    → (entries_of (parts_placed ps l) (xs ++ step_of ps l ∷ []) None ≡ entries_of ps xs (Some l))
    × IsWhole (parts_placed ps l) (xs ++ step_of ps l ∷ []) None
placed ps xs l w =
    let parts = split_last (map (entry_in ps) xs) (last_entry ps l) w.entries w.read in
    let whole : IsWhole (parts_placed ps l) (xs ++ step_of ps l ∷ []) None = record {
      entries = w.entries;
      read = append-nil (map (entry_in (parts_placed ps l)) (xs ++ step_of ps l ∷ []))
          ∙ map_push (entry_in (parts_placed ps l)) xs (step_of ps l)
          ∙ ap (λ o. map (entry_in (parts_placed ps l)) xs ++ o ∷ []) (placed_entry ps l parts.1 parts.3)
          ∙ ap (λ os. os ++ Some parts.1 ∷ [])
          (finds_all (entry_in ps) (entry_in (parts_placed ps l)) xs parts.0
          (finds_entry ps (parts_placed ps l) (placed_grows ps l)) parts.2)
          ∙ sym (map_push Some parts.0 parts.1) ∙ ap (map Some) (sym parts.4);
    } in (
      entries_are (parts_placed ps l) (xs ++ step_of ps l ∷ []) None whole
          ∙ sym (entries_are ps xs (Some l) w),
      whole,
    )

-- likewise, of the step that is the last
pub placed_last : (ps : Parts) (xs : List PlacedStep) (l : Option LastStep) (y : LastStep) → l ≡ Some y
    → IsWhole ps xs l
    → (entries_of (parts_placed ps y) (xs ++ step_of ps y ∷ []) None ≡ entries_of ps xs l)
    × IsWhole (parts_placed ps y) (xs ++ step_of ps y ∷ []) None
placed_last ps xs None y is w = absurd (cc)
placed_last ps xs (Some l) y is w = let same : l ≡ y = cc in rw (sym same) (placed ps xs l w)

-- The entry at a place.

read_length : (os : List (Option JournalEntry)) (es : List JournalEntry) → os ≡ map Some es
    → length es ≡ length os
read_length os [] is = rw is refl
read_length os (e ∷ es) is = rw is (ap (λ n. suc n) (read_length (map Some es) es refl))

-- there are as many entries as steps
pub as_many : (ps : Parts) (xs : List PlacedStep) (l : Option LastStep) → IsWhole ps xs l
    → length (entries_of ps xs l) ≡ length xs + length (last_entries ps l)
as_many ps xs l w =
    ap length (entries_are ps xs l w) ∙ read_length (all_entries ps xs l) w.entries w.read
    ∙ length-append (map (entry_in ps) xs) (last_entries ps l)
    ∙ ap (λ n. n + length (last_entries ps l)) (length-map xs (entry_in ps))

-- after the steps comes the last, if there is one
pub as_many_placed : (ps : Parts) (xs : List PlacedStep) (l : Option LastStep) → IsWhole ps xs l → l ≡ None
    → length (entries_of ps xs l) ≡ length xs
as_many_placed ps xs None w is = omega (arith, as_many ps xs None w)
as_many_placed ps xs (Some l) w is = absurd (cc)

pub as_many_last : (ps : Parts) (xs : List PlacedStep) (l : Option LastStep) (y : LastStep) → IsWhole ps xs l
    → l ≡ Some y → length (entries_of ps xs l) ≡ length xs + 1
as_many_last ps xs None y w is = absurd (cc)
as_many_last ps xs (Some l) y w is = omega (arith, as_many ps xs (Some l) w)

read_at : (os : List (Option JournalEntry)) (es : List JournalEntry) (k : ℕ) (o : Option JournalEntry)
    → os ≡ map Some es
    → slice_get os k ≡ Some o → o ≡ slice_get es k
read_at [] es k o read is = absurd (cc)
read_at (p ∷ os) [] k o read is = absurd (cc)
read_at (p ∷ os) (e ∷ es) zero o read is =
    let first : p ≡ Some e = cc in let same : p ≡ o = cc in sym same ∙ first
read_at (p ∷ os) (e ∷ es) (suc k) o read is =
    let others : os ≡ map Some es = cc in read_at os es k o others is

step_at : (xs : List PlacedStep) (ps : Parts) (os : List (Option JournalEntry)) (k : ℕ) (x : PlacedStep)
    → slice_get xs k ≡ Some x → slice_get (map (entry_in ps) xs ++ os) k ≡ Some (entry_in ps x)
step_at [] ps os k x is = absurd (cc)
step_at (y ∷ xs) ps os zero x is = let same : y ≡ x = cc in rw same refl
step_at (y ∷ xs) ps os (suc k) x is = step_at xs ps os k x is

-- the entry of a step is in its place
pub entry_found : (ps : Parts) (xs : List PlacedStep) (l : Option LastStep) (k : ℕ) (x : PlacedStep)
    → IsWhole ps xs l → slice_get xs k ≡ Some x → entry_in ps x ≡ slice_get (entries_of ps xs l) k
entry_found ps xs l k x w is =
    read_at (all_entries ps xs l) w.entries k (entry_in ps x) w.read
    (step_at xs ps (last_entries ps l) k x is)
    ∙ ap (λ es. slice_get es k) (sym (entries_are ps xs l w))

last_at : (xs : List PlacedStep) (ps : Parts) (o : Option JournalEntry)
    → slice_get (map (entry_in ps) xs ++ o ∷ []) (length xs) ≡ Some o
last_at [] ps o = refl
last_at (y ∷ xs) ps o = last_at xs ps o

-- that of the last step is after them
pub last_entry_found : (ps : Parts) (xs : List PlacedStep) (l : Option LastStep) (y : LastStep) (k : ℕ)
    → IsWhole ps xs l → l ≡ Some y → k ≡ length xs → last_entry ps y ≡ slice_get (entries_of ps xs l) k
last_entry_found ps xs None y k w is at = absurd (cc)
last_entry_found ps xs (Some l) y k w is at =
    let same : l ≡ y = cc in
    rw (at, sym same) (read_at (all_entries ps xs (Some l)) w.entries (length xs) (last_entry ps l) w.read
    (last_at xs ps (last_entry ps l))
    ∙ ap (λ es. slice_get es (length xs)) (sym (entries_are ps xs (Some l) w)))

-- after that there is none
pub entry_past : (ps : Parts) (xs : List PlacedStep) (l : Option LastStep) (k : ℕ) → IsWhole ps xs l
    → l ≡ None → length xs ≤ k → slice_get (entries_of ps xs l) k ≡ None
entry_past ps xs l k w is past =
    slice_get_past (entries_of ps xs l) k (omega (arith, past, as_many_placed ps xs l w is))

pub entry_past_last : (ps : Parts) (xs : List PlacedStep) (l : Option LastStep) (y : LastStep) (k : ℕ)
    → IsWhole ps xs l → l ≡ Some y → length xs ≤ k → (k ≡ length xs → ⊥)
    → slice_get (entries_of ps xs l) k ≡ None
entry_past_last ps xs l y k w is past other =
    slice_get_past (entries_of ps xs l) k (omega (arith, past, other, as_many_last ps xs l y w is))

-- What a step shows.

part_of_entry : (h : Option Happening) (p : Option (ProcessId × Reaction))
    (o : Option JournalEntry) (e : JournalEntry) → entry_of_part h p ≡ o → o ≡ Some e
    → p ≡ option_map entry_part o
part_of_entry None p o e is some = absurd (cc)
part_of_entry (Some h) None o e is some = absurd (cc)
part_of_entry (Some h) (Some p) o e is some = ap (option_map entry_part) is

read_some : (os : List (Option JournalEntry)) (es : List JournalEntry) (k : ℕ) (o : Option JournalEntry)
    → os ≡ map Some es
    → slice_get os k ≡ Some o → (e : JournalEntry) × (o ≡ Some e)
read_some [] es k o read is = absurd (cc)
read_some (p ∷ os) [] k o read is = absurd (cc)
read_some (p ∷ os) (e ∷ es) zero o read is = let first : p ≡ Some e = cc in let same : p ≡ o = cc in
    (e, sym same ∙ first)
read_some (p ∷ os) (e ∷ es) (suc k) o read is =
    let others : os ≡ map Some es = cc in read_some os es k o others is

-- the part of the entry in its place
pub part_found : (ps : Parts) (xs : List PlacedStep) (l : Option LastStep) (k : ℕ) (x : PlacedStep)
    → IsWhole ps xs l → slice_get xs k ≡ Some x
    → option_map (λ r. (process_of x.cause, r)) (reaction_in ps x)
    ≡ option_map entry_part (slice_get (entries_of ps xs l) k)
part_found ps xs l k x w is =
    let some = read_some (all_entries ps xs l) w.entries k (entry_in ps x) w.read
    (step_at xs ps (last_entries ps l) k x is) in
    part_of_entry (happening_in ps x.cause) (option_map (λ r. (process_of x.cause, r)) (reaction_in ps x))
    (slice_get (entries_of ps xs l) k) some.0 (entry_found ps xs l k x w is)
    (sym (entry_found ps xs l k x w is) ∙ some.1)

pub last_part_found : (ps : Parts) (xs : List PlacedStep) (l : Option LastStep) (y : LastStep) (k : ℕ)
    → IsWhole ps xs l → l ≡ Some y → k ≡ length xs
    → option_map (λ r. (process_of y.cause, r)) (last_reaction ps y)
    ≡ option_map entry_part (slice_get (entries_of ps xs l) k)
last_part_found ps xs None y k w is at = absurd (cc)
last_part_found ps xs (Some l) y k w is at =
    let same : l ≡ y = cc in
    let some = read_some (all_entries ps xs (Some l)) w.entries (length xs) (last_entry ps l) w.read
    (last_at xs ps (last_entry ps l)) in
    let found : last_entry ps l ≡ slice_get (entries_of ps xs (Some l)) k =
    last_entry_found ps xs (Some l) l k w refl at in
    rw (sym same) (part_of_entry (happening_in ps l.cause)
    (option_map (λ r. (process_of l.cause, r)) (last_reaction ps l))
    (slice_get (entries_of ps xs (Some l)) k) some.0 found (sym found ∙ some.1))
