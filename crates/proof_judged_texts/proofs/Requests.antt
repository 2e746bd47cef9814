-- The words of a script's line, and what they ask for.
use Rattle.std.proofs.Common.{◌≡◌, ℕ, ◌+◌, ◌<◌, ◌^◌, ◌⊎◌, Bool, true, false, cond, List, [], ◌∷◌, ◌++◌, length, All, Bor, Option, Some, None, refl, sym, ap, ◌∙◌, subst, inl, inr, arith, codes}
use Rattle.std.specs.Prelude.{◌||◌, ◌&&◌, IsSome, IsSomeAnd, is_some, nat_le}
use Rattle.std.specs.Cmp.Lexicographic.{bytes_decides}
use Rattle.std.specs.Char.{IsAsciiAlphabetic}
use Rattle.std.specs.List.{list_all}
use Rattle.std.proofs.lemmas.List.Elements.{All-head}
use Rattle.std.proofs.lemmas.Bool.{and_parts}
use Rattle.spellings.specs.Numerals.{number_at}
use Rattle.spellings.specs.Words.{cut_at}
use Rattle.spellings.proofs.Cuts.{cut_takes}
use Rattle.script_words.specs.Steps.{◌>>=◌, same}
use Rattle.script_words.specs.Operations.{delete_at, get_at, is_visible_word, key_at, op_by, put_at, value_at}
use Rattle.script_words.specs.Outcomes.{outcome_at}
use Rattle.protocol.specs.declared.messages.Op.{Op}
use Rattle.protocol.specs.declared.messages.Op.TheVariants.{Put, Get, Delete}
use Rattle.protocol.specs.declared.names.Outcome.{Outcome}
use Rattle.protocol.specs.declared.names.Outcome.TheVariants.{Committed, Aborted}
use Rattle.xa_codes.specs.FlagNames.{IsFlagText}
use Rattle.xa_codes.specs.declared.flags.Flags.{Flags}
use Rattle.xa_xid.specs.declared.xid.Xid.{Xid}
use Rattle.judge_script.specs.declared.asking.TranscriptCall.{TranscriptCall}
use Rattle.judge_script.specs.declared.asking.TranscriptCall.TheVariants as asked
use Rattle.judge_script.specs.declared.asking.CallWord.{CallWord}
use Rattle.judge_script.specs.declared.asking.CallWord.TheVariants as word
use Rattle.judge_script.specs.Askings.{AsksBy, outcome_at as judged_outcome, word_at as judged_word}
use Rattle.xa_engine.specs.declared.script.request.BranchCall.{BranchCall}
use Rattle.xa_engine.specs.declared.script.request.BranchCall.TheVariants.{Start, End, Prepare, Commit, Rollback, Forget}
use Rattle.xa_engine.specs.declared.script.request.RequestCall.{RequestCall}
use Rattle.xa_engine.specs.declared.script.request.RequestCall.TheVariants as call
use Rattle.xa_engine.specs.declared.script.request.RequestWord.{RequestWord}
use Rattle.xa_engine.specs.declared.script.request.RequestWord.TheVariants as asking
use Rattle.xa_engine.specs.declared.script.request.Request.{Request}
use Rattle.xa_engine.specs.declared.script.request.Request.TheVariants.{Open, Close, Branch, Recover, Work, Restart, Trim, Decide}
use Rattle.xa_engine.specs.script.Requests.{IsInfoText, IsName, IsNumber, IsOpenOf, SpellsRequest, SpellsBy, SpellsCall, SpellsCut, SpellsTask, alone_by, first_of_three, last_two, three_at, word_at}
use Rattle.proof_judged_deeds.specs.Deeds.{is_commit}
use Rattle.proof_judged_runs.specs.Events.{verb_of}
use Rattle.proof_judged_texts.proofs.Words.{AreWords, IsWord, letters_word, line_of, word_is}
use Rattle.proof_judged_texts.proofs.Flags.{flags_word, number_word, one_flags, one_name, one_number, xid_word}
use Rattle.proof_judged_texts.proofs.Numbers.{append_one}

-- what a line of a transcript asks for is a request of a script
abbrev pub Same : TranscriptCall → Request → Type 0
Same (asked.Open f) (Open g m) = f ≡ g
Same (asked.Close f) (Close g) = f ≡ g
Same (asked.Branch v t x f) (Branch b u y g) = (v ≡ verb_of b) × (t ≡ u) × (x ≡ y) × (f ≡ g)
Same (asked.Recover t c f) (Recover u d g) = (t ≡ u) × (c ≡ d) × (f ≡ g)
Same (asked.Get t k) (Work u (Get j)) = (t ≡ u) × (k.now ≡ j)
Same (asked.Put t k v) (Work u (Put j w)) = (t ≡ u) × (k.now ≡ j) × (v.now ≡ w)
Same (asked.Put t k v) (Work u (Delete j)) = (t ≡ u) × (k.now ≡ j) × (v.now ≡ codes "none")
Same (asked.Decide x c) (Decide y o) = (x ≡ y) × (c ≡ is_commit o)
Same (asked.Restart c) (Restart keep) = c ≡ is_some keep
Same asked.Trim Trim = Unit {0}
Same _ _ = ⊥

abbrev NoArrow : List (List ℕ) → Type 0
NoArrow answer = (q : List (List ℕ)) → answer ≡ codes "->" ∷ q → ⊥

-- the line of a request, by its words: they ask for it and for nothing else, wherever the arrow is thought to
-- be
pub record IsWorded (l : List ℕ) (r : Request) : Type 0 where
  pub first : List ℕ
  pub rest : List (List ℕ)
  pub word : CallWord
  pub line : l ≡ line_of (first ∷ rest)
  pub words : AreWords (first ∷ rest)
  pub named : judged_word first ≡ Some word
  pub asked : TranscriptCall
  pub asks : AsksBy word rest asked
  pub only : (a : TranscriptCall) → AsksBy word rest a → Same a r
  pub place : (other later answer : List (List ℕ)) (a : TranscriptCall) → AsksBy word other a → NoArrow answer
      → rest ++ codes "->" ∷ answer ≡ other ++ codes "->" ∷ later → rest ≡ other

-- how many words are after the first

abbrev is_fixed : CallWord → Bool
is_fixed word.Open = false
is_fixed word.Restart = false
is_fixed _ = true

abbrev arity : CallWord → ℕ
arity word.Open = 1
arity word.Close = 1
arity (word.Branch v) = 3
arity word.Recover = 3
arity word.Get = 2
arity word.Put = 3
arity word.Delete = 2
arity word.Decide = 2
arity word.Restart = 0
arity word.Disconnect = 1
arity word.Trim = 0

has_arity : (w : CallWord) (ws : List (List ℕ)) (a : TranscriptCall) → is_fixed w ≡ true → AsksBy w ws a
    → length ws ≡ arity w
has_arity word.Open ws a fixed h = absurd (let none : false ≡ true = fixed in cc)
has_arity word.Close [] a fixed h = absurd h
has_arity word.Close (x ∷ []) a fixed h = refl
has_arity word.Close (x ∷ y ∷ []) a fixed h = absurd h
has_arity word.Close (x ∷ y ∷ z ∷ []) a fixed h = absurd h
has_arity word.Close (x ∷ y ∷ z ∷ t ∷ more) a fixed h = absurd h
has_arity (word.Branch v) [] a fixed h = absurd h
has_arity (word.Branch v) (x ∷ []) a fixed h = absurd h
has_arity (word.Branch v) (x ∷ y ∷ []) a fixed h = absurd h
has_arity (word.Branch v) (x ∷ y ∷ z ∷ []) a fixed h = refl
has_arity (word.Branch v) (x ∷ y ∷ z ∷ t ∷ more) a fixed h = absurd h
has_arity word.Recover [] a fixed h = absurd h
has_arity word.Recover (x ∷ []) a fixed h = absurd h
has_arity word.Recover (x ∷ y ∷ []) a fixed h = absurd h
has_arity word.Recover (x ∷ y ∷ z ∷ []) a fixed h = refl
has_arity word.Recover (x ∷ y ∷ z ∷ t ∷ more) a fixed h = absurd h
has_arity word.Get [] a fixed h = absurd h
has_arity word.Get (x ∷ []) a fixed h = absurd h
has_arity word.Get (x ∷ y ∷ []) a fixed h = refl
has_arity word.Get (x ∷ y ∷ z ∷ []) a fixed h = absurd h
has_arity word.Get (x ∷ y ∷ z ∷ t ∷ more) a fixed h = absurd h
has_arity word.Put [] a fixed h = absurd h
has_arity word.Put (x ∷ []) a fixed h = absurd h
has_arity word.Put (x ∷ y ∷ []) a fixed h = absurd h
has_arity word.Put (x ∷ y ∷ z ∷ []) a fixed h = refl
has_arity word.Put (x ∷ y ∷ z ∷ t ∷ more) a fixed h = absurd h
has_arity word.Delete [] a fixed h = absurd h
has_arity word.Delete (x ∷ []) a fixed h = absurd h
has_arity word.Delete (x ∷ y ∷ []) a fixed h = refl
has_arity word.Delete (x ∷ y ∷ z ∷ []) a fixed h = absurd h
has_arity word.Delete (x ∷ y ∷ z ∷ t ∷ more) a fixed h = absurd h
has_arity word.Decide [] a fixed h = absurd h
has_arity word.Decide (x ∷ []) a fixed h = absurd h
has_arity word.Decide (x ∷ y ∷ []) a fixed h = refl
has_arity word.Decide (x ∷ y ∷ z ∷ []) a fixed h = absurd h
has_arity word.Decide (x ∷ y ∷ z ∷ t ∷ more) a fixed h = absurd h
has_arity word.Restart ws a fixed h = absurd (let none : false ≡ true = fixed in cc)
has_arity word.Disconnect [] a fixed h = absurd h
has_arity word.Disconnect (x ∷ []) a fixed h = refl
has_arity word.Disconnect (x ∷ y ∷ []) a fixed h = absurd h
has_arity word.Disconnect (x ∷ y ∷ z ∷ []) a fixed h = absurd h
has_arity word.Disconnect (x ∷ y ∷ z ∷ t ∷ more) a fixed h = absurd h
has_arity word.Trim [] a fixed h = refl
has_arity word.Trim (x ∷ []) a fixed h = absurd h
has_arity word.Trim (x ∷ y ∷ []) a fixed h = absurd h
has_arity word.Trim (x ∷ y ∷ z ∷ []) a fixed h = absurd h
has_arity word.Trim (x ∷ y ∷ z ∷ t ∷ more) a fixed h = absurd h

fixed_place : (w : CallWord) (rest other later answer : List (List ℕ)) (a b : TranscriptCall)
    → is_fixed w ≡ true → AsksBy w rest a
    → AsksBy w other b → rest ++ codes "->" ∷ answer ≡ other ++ codes "->" ∷ later → rest ≡ other
fixed_place w rest other later answer a b fixed h k e =
    (append_one rest (codes "->" ∷ answer) other (codes "->" ∷ later)
    (has_arity w rest a fixed h ∙ sym (has_arity w other b fixed k)) e).0

fixed_worded : (l f : List ℕ) (rest : List (List ℕ)) (w : CallWord) (r : Request) → l ≡ line_of (f ∷ rest)
    → AreWords (f ∷ rest) → judged_word f ≡ Some w → is_fixed w ≡ true → (a : TranscriptCall)
    → AsksBy w rest a
    → ((b : TranscriptCall) → AsksBy w rest b → Same b r) → IsWorded l r
fixed_worded l f rest w r line words named fixed a asks only = record {
  first = f;
  rest = rest;
  word = w;
  line = line;
  words = words;
  named = named;
  asked = a;
  asks = asks;
  only = only;
  place = λ other later answer b k lone e. fixed_place w rest other later answer a b fixed asks k e;
}

bor : List ℕ → Bor (List ℕ)
bor w = record { ref_ptr = (0, 0); now = w }

flags_of : ℕ → Flags
flags_of n = record { 0 = n }

same_flags : (z : List ℕ) (f g : Flags) → IsFlagText z f.0 → IsFlagText z g.0 → f ≡ g
unfolding flags_of
same_flags z f g h k = ap flags_of (one_flags z f.0 g.0 h k)

-- Calls on a branch.

abbrev branch_word : BranchCall → List ℕ
branch_word Start = codes "start"
branch_word End = codes "end"
branch_word Prepare = codes "prepare"
branch_word Commit = codes "commit"
branch_word Rollback = codes "rollback"
branch_word Forget = codes "forget"

branch_named : (b : BranchCall) → judged_word (branch_word b) ≡ Some (word.Branch (verb_of b))
branch_named Start = refl
branch_named End = refl
branch_named Prepare = refl
branch_named Commit = refl
branch_named Rollback = refl
branch_named Forget = refl

branch_is_word : (b : BranchCall) → IsWord (branch_word b)
branch_is_word Start = word_is (codes "start") refl
branch_is_word End = word_is (codes "end") refl
branch_is_word Prepare = word_is (codes "prepare") refl
branch_is_word Commit = word_is (codes "commit") refl
branch_is_word Rollback = word_is (codes "rollback") refl
branch_is_word Forget = word_is (codes "forget") refl

thread_word : (x : List ℕ) (t : ℕ) → IsNumber x t → IsWord x
thread_word x t h = number_word x t h.0

name_word : (y : List ℕ) (x : Xid) → IsName y x → IsWord y
name_word y x h = subst (λ (w : List ℕ). IsWord w) (sym h.1) (xid_word x)

same_name : (y : List ℕ) (x z : Xid) → IsName y x → IsName y z → x ≡ z
same_name y x z h k = one_name y x z h.0 h.1 k.0 k.1

same_number : (y : List ℕ) (m n : ℕ) → IsNumber y m → IsNumber y n → m ≡ n
same_number y m n h k = one_number y m n h.0 k.0

branch_only : (b : BranchCall) (x y z : List ℕ) (t : ℕ) (xid : Xid) (f : Flags) → IsNumber x t → IsName y xid
    → IsFlagText z f.0 → (a : TranscriptCall) → AsksBy (word.Branch (verb_of b)) (x ∷ y ∷ z ∷ []) a
    → Same a (Branch b t xid f)
branch_only b x y z t xid f n m k (asked.Branch v u o g) (e, p, q, s) =
    (e, same_number x u t p n, same_name y o xid q m, same_flags z g f s k)
branch_only b x y z t xid f n m k a h = absurd h

branch_worded : (l x y z : List ℕ) (b : BranchCall) (t : ℕ) (xid : Xid) (f : Flags)
    → l ≡ branch_word b ++ 32 ∷ (x ++ 32 ∷ (y ++ 32 ∷ z)) → IsNumber x t → IsName y xid → IsFlagText z f.0
    → IsWorded l (Branch b t xid f)
branch_worded l x y z b t xid f is n m k =
    fixed_worded l (branch_word b) (x ∷ y ∷ z ∷ []) (word.Branch (verb_of b)) (Branch b t xid f) is
    (branch_is_word b, (thread_word x t n, (name_word y xid m, (flags_word z f.0 k, tt))))
    (branch_named b) refl (asked.Branch (verb_of b) t xid f) (refl, n, m, k)
    (branch_only b x y z t xid f n m k)

recover_only : (x y z : List ℕ) (t c : ℕ) (f : Flags) → IsNumber x t → IsNumber y c → IsFlagText z f.0
    → (a : TranscriptCall) → AsksBy word.Recover (x ∷ y ∷ z ∷ []) a → Same a (Recover t c f)
recover_only x y z t c f n m k (asked.Recover u d g) (p, q, s) =
    (same_number x u t p n, same_number y d c q m, same_flags z g f s k)
recover_only x y z t c f n m k a h = absurd h

recover_worded : (l x y z : List ℕ) (t c : ℕ) (f : Flags)
    → l ≡ codes "recover" ++ 32 ∷ (x ++ 32 ∷ (y ++ 32 ∷ z))
    → IsNumber x t → IsNumber y c → IsFlagText z f.0 → IsWorded l (Recover t c f)
recover_worded l x y z t c f is n m k =
    fixed_worded l (codes "recover") (x ∷ y ∷ z ∷ []) word.Recover (Recover t c f) is
    (word_is (codes "recover") refl, (thread_word x t n, (thread_word y c m, (flags_word z f.0 k, tt))))
    refl refl (asked.Recover t c f) (n, m, k) (recover_only x y z t c f n m k)

close_only : (x : List ℕ) (f : Flags) → IsFlagText x f.0 → (a : TranscriptCall) → AsksBy word.Close (x ∷ []) a
    → Same a (Close f)
close_only x f k (asked.Close g) h = same_flags x g f h k
close_only x f k a h = absurd h

close_worded : (l x : List ℕ) (f : Flags) → l ≡ codes "close" ++ 32 ∷ x → IsFlagText x f.0
    → IsWorded l (Close f)
close_worded l x f is k =
    fixed_worded l (codes "close") (x ∷ []) word.Close (Close f) is
    (word_is (codes "close") refl, (flags_word x f.0 k, tt)) refl refl (asked.Close f) k (close_only x f k)

-- Opens and restarts: one word more or less.

open_place : (rest other later answer : List (List ℕ)) (a b : TranscriptCall) → AsksBy word.Open rest a
    → AsksBy word.Open other b
    → NoArrow answer → ((x y : List ℕ) → rest ≡ x ∷ y ∷ [] → y ≡ codes "->" → ⊥)
    → rest ++ codes "->" ∷ answer ≡ other ++ codes "->" ∷ later → rest ≡ other
open_place [] other later answer a b h k lone text e = absurd h
open_place (x ∷ []) [] later answer a b h k lone text e = absurd k
open_place (x ∷ []) (u ∷ []) later answer a b h k lone text e =
    let first : x ≡ u = cc in ap (λ (w : List ℕ). w ∷ []) first
open_place (x ∷ []) (u ∷ v ∷ []) later answer a b h k lone text e =
    let past : answer ≡ codes "->" ∷ later = cc in absurd (lone later past)
open_place (x ∷ []) (u ∷ v ∷ w ∷ []) later answer a b h k lone text e = absurd k
open_place (x ∷ []) (u ∷ v ∷ w ∷ z ∷ more) later answer a b h k lone text e = absurd k
open_place (x ∷ y ∷ []) [] later answer a b h k lone text e = absurd k
open_place (x ∷ y ∷ []) (u ∷ []) later answer a b h k lone text e =
    let here : y ≡ codes "->" = cc in absurd (text x y refl here)
open_place (x ∷ y ∷ []) (u ∷ v ∷ []) later answer a b h k lone text e =
    let first : x ≡ u = cc in
    let second : y ≡ v = cc in
    ap (λ (w : List ℕ). w ∷ y ∷ []) first ∙ ap (λ (w : List ℕ). u ∷ w ∷ []) second
open_place (x ∷ y ∷ []) (u ∷ v ∷ w ∷ []) later answer a b h k lone text e = absurd k
open_place (x ∷ y ∷ []) (u ∷ v ∷ w ∷ z ∷ more) later answer a b h k lone text e = absurd k
open_place (x ∷ y ∷ z ∷ []) other later answer a b h k lone text e = absurd h
open_place (x ∷ y ∷ z ∷ t ∷ more) other later answer a b h k lone text e = absurd h

open_one : (x : List ℕ) (f : Flags) (m : Bool) → IsFlagText x f.0 → (a : TranscriptCall)
    → AsksBy word.Open (x ∷ []) a
    → Same a (Open f m)
open_one x f m k (asked.Open g) h = same_flags x g f h k
open_one x f m k a h = absurd h

open_two : (x y : List ℕ) (f : Flags) (m : Bool) → IsFlagText x f.0 → (a : TranscriptCall)
    → AsksBy word.Open (x ∷ y ∷ []) a
    → Same a (Open f m)
open_two x y f m k (asked.Open g) h = same_flags x g f h k
open_two x y f m k a h = absurd h

no_second : (x u v : List ℕ) → x ∷ [] ≡ u ∷ v ∷ [] → ⊥
no_second x u v e = cc

open_worded : (l x : List ℕ) (f : Flags) (m : Bool) → l ≡ codes "open" ++ 32 ∷ x → IsFlagText x f.0
    → IsWorded l (Open f m)
open_worded l x f m is k = record {
  first = codes "open";
  rest = x ∷ [];
  word = word.Open;
  line = is;
  words = (word_is (codes "open") refl, (flags_word x f.0 k, tt));
  named = refl;
  asked = asked.Open f;
  asks = k;
  only = open_one x f m k;
  place = λ other later answer a h lone e. open_place (x ∷ []) other later answer (asked.Open f) a k h lone
      (λ u v i j. no_second x u v i) e;
}

no_dash : IsAsciiAlphabetic 45 → ⊥
no_dash (inl h) = omega arith
no_dash (inr h) = omega arith

arrow_no_letters : (w : List ℕ) → All IsAsciiAlphabetic w → w ≡ codes "->" → ⊥
arrow_no_letters w h e =
    let all : All IsAsciiAlphabetic (codes "->") = subst (λ (q : List ℕ). All IsAsciiAlphabetic q) e h in
    no_dash (All-head IsAsciiAlphabetic 45 (codes ">") all)

second_is : (x y u v : List ℕ) → x ∷ y ∷ [] ≡ u ∷ v ∷ [] → y ≡ v
second_is x y u v e = cc

told_worded : (l x y : List ℕ) (f : Flags) (m : Bool) → l ≡ codes "open" ++ 32 ∷ (x ++ 32 ∷ y)
    → IsFlagText x f.0
    → IsInfoText y → IsWorded l (Open f m)
told_worded l x y f m is k info = record {
  first = codes "open";
  rest = x ∷ y ∷ [];
  word = word.Open;
  line = is;
  words = (word_is (codes "open") refl, (flags_word x f.0 k, (letters_word y info.letters, tt)));
  named = refl;
  asked = asked.Open f;
  asks = k;
  only = open_two x y f m k;
  place = λ other later answer a h lone e. open_place (x ∷ y ∷ []) other later answer
      (asked.Open f) a k h lone
      (λ u v i j. arrow_no_letters y info.letters (second_is x y u v i ∙ j)) e;
}

restart_place : (rest other later answer : List (List ℕ)) (a b : TranscriptCall) → AsksBy word.Restart rest a
    → AsksBy word.Restart other b → NoArrow answer → ((x : List ℕ) → rest ≡ x ∷ [] → x ≡ codes "->" → ⊥)
    → rest ++ codes "->" ∷ answer ≡ other ++ codes "->" ∷ later → rest ≡ other
restart_place [] [] later answer a b h k lone text e = refl
restart_place [] (u ∷ []) later answer a b h k lone text e =
    let past : answer ≡ codes "->" ∷ later = cc in absurd (lone later past)
restart_place [] (u ∷ v ∷ []) later answer a b h k lone text e = absurd k
restart_place [] (u ∷ v ∷ w ∷ []) later answer a b h k lone text e = absurd k
restart_place [] (u ∷ v ∷ w ∷ z ∷ more) later answer a b h k lone text e = absurd k
restart_place (x ∷ []) [] later answer a b h k lone text e =
    let here : x ≡ codes "->" = cc in absurd (text x refl here)
restart_place (x ∷ []) (u ∷ []) later answer a b h k lone text e =
    let first : x ≡ u = cc in ap (λ (w : List ℕ). w ∷ []) first
restart_place (x ∷ []) (u ∷ v ∷ []) later answer a b h k lone text e = absurd k
restart_place (x ∷ []) (u ∷ v ∷ w ∷ []) later answer a b h k lone text e = absurd k
restart_place (x ∷ []) (u ∷ v ∷ w ∷ z ∷ more) later answer a b h k lone text e = absurd k
restart_place (x ∷ y ∷ []) other later answer a b h k lone text e = absurd h
restart_place (x ∷ y ∷ z ∷ []) other later answer a b h k lone text e = absurd h
restart_place (x ∷ y ∷ z ∷ t ∷ more) other later answer a b h k lone text e = absurd h

restart_all : (a : TranscriptCall) → AsksBy word.Restart [] a → Same a (Restart None)
restart_all (asked.Restart cut) h = h
restart_all a h = absurd h

restart_some : (x : List ℕ) (n : ℕ) (a : TranscriptCall) → AsksBy word.Restart (x ∷ []) a
    → Same a (Restart (Some n))
restart_some x n (asked.Restart cut) h = h.1
restart_some x n a h = absurd h

no_first : (x : List ℕ) → ◌≡◌ {A = List (List ℕ)} [] (x ∷ []) → ⊥
no_first x e = cc

restart_worded : (l : List ℕ) → l ≡ codes "restart" → IsWorded l (Restart None)
restart_worded l is = record {
  first = codes "restart";
  rest = [];
  word = word.Restart;
  line = is;
  words = (word_is (codes "restart") refl, tt);
  named = refl;
  asked = asked.Restart false;
  asks = refl;
  only = restart_all;
  place = λ other later answer a h lone e. restart_place [] other later answer
      (asked.Restart false) a refl h lone
      (λ x i j. no_first x i) e;
}

is_told : (o : Option ℕ) (n : ℕ) → o ≡ Some n → IsSome o
is_told None n e = cc
is_told (Some m) n e = refl

one_only : (x y : List ℕ) → x ∷ [] ≡ y ∷ [] → x ≡ y
one_only x y e = cc

arrow_no_number : (x : List ℕ) (n : ℕ) → number_at x ≡ Some n → x ≡ codes "->" → ⊥
unfolding number_at
arrow_no_number x n e is = let none : number_at (codes "->") ≡ Some n = ap number_at (sym is) ∙ e in
    (let gone : None ≡ Some n = none in cc)

cut_worded : (l x : List ℕ) (n : ℕ) → l ≡ codes "restart" ++ 32 ∷ x → number_at x ≡ Some n
    → IsWorded l (Restart (Some n))
cut_worded l x n is num = record {
  first = codes "restart";
  rest = x ∷ [];
  word = word.Restart;
  line = is;
  words = (word_is (codes "restart") refl, (number_word x n num, tt));
  named = refl;
  asked = asked.Restart true;
  asks = (is_told (number_at x) n num, refl);
  only = restart_some x n;
  place = λ other later answer a h lone e. restart_place (x ∷ []) other later answer (asked.Restart true) a
      (is_told (number_at x) n num, refl) h lone (λ u i j. arrow_no_number x n num (one_only x u i ∙ j)) e;
}

trim_only : (a : TranscriptCall) → AsksBy word.Trim [] a → Same a Trim
trim_only asked.Trim h = tt
trim_only a h = absurd h

trim_worded : (l : List ℕ) → l ≡ codes "trim" → IsWorded l Trim
trim_worded l is = fixed_worded l (codes "trim") [] word.Trim Trim is
    (word_is (codes "trim") refl, tt) refl refl
    asked.Trim tt trim_only

-- Decisions.

outcome_by : (b c : Bool) (o : Outcome) → cond b (Some Committed) (cond c (Some Aborted) None) ≡ Some o
    → cond b (Some true) (cond c (Some false) None) ≡ Some (is_commit o)
outcome_by true c o e = let is : Committed ≡ o = cc in rw (← is) refl
outcome_by false true o e = let is : Aborted ≡ o = cc in rw (← is) refl
outcome_by false false o e = cc

outcome_same : (w : List ℕ) (o : Outcome) → outcome_at w ≡ Some o → judged_outcome w ≡ Some (is_commit o)
outcome_same w o e = outcome_by (same w (codes "commit")) (same w (codes "rollback")) o e

outcome_word : (w : List ℕ) (b c : Bool) (o : Outcome) → b ≡ same w (codes "commit")
    → c ≡ same w (codes "rollback")
    → cond b (Some Committed) (cond c (Some Aborted) None) ≡ Some o → IsWord w
outcome_word w true c o p q e = let is : w ≡ codes "commit" = (bytes_decides w (codes "commit")).0 (sym p) in
    subst (λ (v : List ℕ). IsWord v) (sym is) (word_is (codes "commit") refl)
outcome_word w false true o p q e =
    let is : w ≡ codes "rollback" = (bytes_decides w (codes "rollback")).0 (sym q) in
    subst (λ (v : List ℕ). IsWord v) (sym is) (word_is (codes "rollback") refl)
outcome_word w false false o p q e = absurd (let none : None ≡ Some o = e in cc)

decide_only : (x y : List ℕ) (xid : Xid) (o : Outcome) → IsName x xid → outcome_at y ≡ Some o
    → (a : TranscriptCall)
    → AsksBy word.Decide (x ∷ y ∷ []) a → Same a (Decide xid o)
decide_only x y xid o m k (asked.Decide z c) (p, q) =
    (same_name x z xid p m, let both : Some c ≡ Some (is_commit o) = sym q ∙ outcome_same y o k in cc)
decide_only x y xid o m k a h = absurd h

decide_worded : (l x y : List ℕ) (xid : Xid) (o : Outcome) → l ≡ codes "heur" ++ 32 ∷ (x ++ 32 ∷ y)
    → IsName x xid
    → outcome_at y ≡ Some o → IsWorded l (Decide xid o)
decide_worded l x y xid o is m k =
    fixed_worded l (codes "heur") (x ∷ y ∷ []) word.Decide (Decide xid o) is (
      word_is (codes "heur") refl,
      (
        name_word x xid m,
        (
          outcome_word y (same y (codes "commit")) (same y (codes "rollback")) o refl refl k,
          tt,
        ),
      ),
    )
    refl refl (asked.Decide xid (is_commit o)) (m, outcome_same y o k) (decide_only x y xid o m k)

-- Operations on data.

get_only : (x k : List ℕ) (t : ℕ) → IsNumber x t → (a : TranscriptCall) → AsksBy word.Get (x ∷ k ∷ []) a
    → Same a (Work t (Get k))
get_only x k t n (asked.Get u j) (p, q) = (same_number x u t p n, sym q)
get_only x k t n a h = absurd h

get_worded : (l x k : List ℕ) (t : ℕ) → l ≡ codes "get" ++ 32 ∷ (x ++ 32 ∷ k) → IsNumber x t → IsWord k
    → IsWorded l (Work t (Get k))
unfolding bor
get_worded l x k t is n w =
    fixed_worded l (codes "get") (x ∷ k ∷ []) word.Get (Work t (Get k)) is
    (word_is (codes "get") refl, (thread_word x t n, (w, tt))) refl refl (asked.Get t (bor k)) (n, refl)
    (get_only x k t n)

delete_only : (x k : List ℕ) (t : ℕ) → IsNumber x t → (a : TranscriptCall) → AsksBy word.Delete (x ∷ k ∷ []) a
    → Same a (Work t (Delete k))
delete_only x k t n (asked.Put u j v) (p, q, s) = (same_number x u t p n, sym q, s)
delete_only x k t n a h = absurd h

delete_worded : (l x k : List ℕ) (t : ℕ) → l ≡ codes "del" ++ 32 ∷ (x ++ 32 ∷ k) → IsNumber x t → IsWord k
    → IsWorded l (Work t (Delete k))
unfolding bor
delete_worded l x k t is n w =
    fixed_worded l (codes "del") (x ∷ k ∷ []) word.Delete (Work t (Delete k)) is
    (word_is (codes "del") refl, (thread_word x t n, (w, tt))) refl refl
    (asked.Put t (bor k) (bor (codes "none")))
    (n, refl, refl) (delete_only x k t n)

put_only : (x k v : List ℕ) (t : ℕ) → IsNumber x t → (a : TranscriptCall) → AsksBy word.Put (x ∷ k ∷ v ∷ []) a
    → Same a (Work t (Put k v))
put_only x k v t n (asked.Put u j w) (p, q, s) = (same_number x u t p n, sym q, sym s)
put_only x k v t n a h = absurd h

put_worded : (l x k v : List ℕ) (t : ℕ) → l ≡ codes "put" ++ 32 ∷ (x ++ 32 ∷ (k ++ 32 ∷ v)) → IsNumber x t
    → IsWord k
    → IsWord v → IsWorded l (Work t (Put k v))
unfolding bor
put_worded l x k v t is n w z =
    fixed_worded l (codes "put") (x ∷ k ∷ v ∷ []) word.Put (Work t (Put k v)) is
    (word_is (codes "put") refl, (thread_word x t n, (w, (z, tt)))) refl refl (asked.Put t (bor k) (bor v))
    (n, refl, refl) (put_only x k v t n)

pub bind_some : {A B : Type 0} (o : Option A) (f : A → Option B) (y : B) → (o >>= f) ≡ Some y
    → (x : A) × (o ≡ Some x) × (f x ≡ Some y)
bind_some None f y e = absurd (let none : None ≡ Some y = e in cc)
bind_some (Some x) f y e = (x, refl, e)

pub visible_by : (b : Bool) (w k : List ℕ) → cond b (Some w) None ≡ Some k → (w ≡ k) × (b ≡ true)
visible_by true w k e = (cc, refl)
visible_by false w k e = absurd (let none : None ≡ Some k = e in cc)

pub visible_word : (most : ℕ) (w : List ℕ) → is_visible_word most w ≡ true → IsWord w
visible_word most w h = word_is w (and_parts _ (list_all (λ b. nat_le 33 b && nat_le b 126) w) h).1

key_takes : (w k : List ℕ) → key_at w ≡ Some k → (w ≡ k) × IsWord w
key_takes w k e = let (is, seen) = visible_by (is_visible_word 64 w) w k e in (is, visible_word 64 w seen)

value_takes : (w k : List ℕ) → value_at w ≡ Some k → (w ≡ k) × IsWord w
value_takes w k e = let (is, seen) = visible_by (is_visible_word 256 w) w k e in (is, visible_word 256 w seen)

get_task : (l x q : List ℕ) (t : ℕ) (op : Op) → l ≡ codes "get" ++ 32 ∷ (x ++ 32 ∷ q) → IsNumber x t
    → get_at q ≡ Some op → IsWorded l (Work t op)
get_task l x q t op is n e =
    let (k, found, same) = bind_some (key_at q) (λ key. Some (Get key)) op e in
    let (there, w) = key_takes q k found in
    let it : Get q ≡ op = ap (λ (j : List ℕ). Get j) there ∙ (let s : Some (Get k) ≡ Some op = same in cc) in
    subst (λ (o : Op). IsWorded l (Work t o)) it (get_worded l x q t is n w)

delete_task : (l x q : List ℕ) (t : ℕ) (op : Op) → l ≡ codes "del" ++ 32 ∷ (x ++ 32 ∷ q) → IsNumber x t
    → delete_at q ≡ Some op → IsWorded l (Work t op)
delete_task l x q t op is n e =
    let (k, found, same) = bind_some (key_at q) (λ key. Some (Delete key)) op e in
    let (there, w) = key_takes q k found in
    let it : Delete q ≡ op = ap (λ (j : List ℕ). Delete j) there
    ∙ (let s : Some (Delete k) ≡ Some op = same in cc) in
    subst (λ (o : Op). IsWorded l (Work t o)) it (delete_worded l x q t is n w)

put_task : (l x q : List ℕ) (t : ℕ) (op : Op) → l ≡ codes "put" ++ 32 ∷ (x ++ 32 ∷ q) → IsNumber x t
    → put_at q ≡ Some op → IsWorded l (Work t op)
unfolding put_at
put_task l x q t op is n e =
    let (p, cut, e1) = bind_some (cut_at 32 q)
    (λ p. key_at p.0 >>= λ key. value_at p.1 >>= λ value. Some (Put key value)) op e in
    let (k, key, e2) = bind_some (key_at p.0) (λ key. value_at p.1 >>= λ value. Some (Put key value)) op e1 in
    let (v, value, e3) = bind_some (value_at p.1) (λ value. Some (Put k value)) op e2 in
    let (is_k, w) = key_takes p.0 k key in
    let (is_v, z) = value_takes p.1 v value in
    let it : Put p.0 p.1 ≡ op = ap (λ (j : List ℕ). Put j p.1) is_k ∙ ap (λ (j : List ℕ). Put k j) is_v
    ∙ (let s : Some (Put k v) ≡ Some op = e3 in cc) in
    let line : l ≡ codes "put" ++ 32 ∷ (x ++ 32 ∷ (p.0 ++ 32 ∷ p.1)) =
    is ∙ ap (λ (r : List ℕ). codes "put" ++ 32 ∷ (x ++ 32 ∷ r)) (cut_takes 32 q p cut) in
    subst (λ (o : Op). IsWorded l (Work t o)) it (put_worded l x p.0 p.1 t line n w z)

-- The first word.

abbrev call_word : RequestCall → List ℕ
call_word call.Open = codes "open"
call_word call.Close = codes "close"
call_word call.Recover = codes "recover"
call_word call.Restart = codes "restart"
call_word call.Trim = codes "trim"
call_word call.Decide = codes "heur"
call_word (call.Branch b) = branch_word b

abbrev Named : List ℕ → RequestWord → Type 0
Named w (asking.Call c) = w ≡ call_word c
Named w asking.Work = (w ≡ codes "get") ⊎ ((w ≡ codes "put") ⊎ (w ≡ codes "del"))

at_word : (w v : List ℕ) (n k : RequestWord) (rest : Option RequestWord) (b : Bool) → b ≡ same w v
    → (w ≡ v → Named w n)
    → (rest ≡ Some k → Named w k) → cond b (Some n) rest ≡ Some k → Named w k
at_word w v n k rest true is here more e =
    let it : n ≡ k = cc in subst (λ (q : RequestWord). Named w q) it (here ((bytes_decides w v).0 (sym is)))
at_word w v n k rest false is here more e = more e

at_work : (w : List ℕ) (k : RequestWord) (b c d : Bool) → b ≡ same w (codes "get") → c ≡ same w (codes "put")
    → d ≡ same w (codes "del") → cond (b || c || d) (Some asking.Work) None ≡ Some k → Named w k
at_work w k true c d p q s e = let it : asking.Work ≡ k = cc in
    subst (λ (r : RequestWord). Named w r) it (inl ((bytes_decides w (codes "get")).0 (sym p)))
at_work w k false true d p q s e = let it : asking.Work ≡ k = cc in
    subst (λ (r : RequestWord). Named w r) it (inr (inl ((bytes_decides w (codes "put")).0 (sym q))))
at_work w k false false true p q s e = let it : asking.Work ≡ k = cc in
    subst (λ (r : RequestWord). Named w r) it (inr (inr ((bytes_decides w (codes "del")).0 (sym s))))
at_work w k false false false p q s e = absurd (let none : None ≡ Some k = e in cc)

word_named : (w : List ℕ) (k : RequestWord) → word_at w ≡ Some k → Named w k
word_named w k e =
    at_word w (codes "open") (asking.Call call.Open) k _ _ refl (λ i. i) (
    at_word w (codes "close") (asking.Call call.Close) k _ _ refl (λ i. i) (
    at_word w (codes "recover") (asking.Call call.Recover) k _ _ refl (λ i. i) (
    at_word w (codes "restart") (asking.Call call.Restart) k _ _ refl (λ i. i) (
    at_word w (codes "trim") (asking.Call call.Trim) k _ _ refl (λ i. i) (
    at_word w (codes "heur") (asking.Call call.Decide) k _ _ refl (λ i. i) (
    at_word w (codes "start") (asking.Call (call.Branch Start)) k _ _ refl (λ i. i) (
    at_word w (codes "end") (asking.Call (call.Branch End)) k _ _ refl (λ i. i) (
    at_word w (codes "prepare") (asking.Call (call.Branch Prepare)) k _ _ refl (λ i. i) (
    at_word w (codes "commit") (asking.Call (call.Branch Commit)) k _ _ refl (λ i. i) (
    at_word w (codes "rollback") (asking.Call (call.Branch Rollback)) k _ _ refl (λ i. i) (
    at_word w (codes "forget") (asking.Call (call.Branch Forget)) k _ _ refl (λ i. i)
    (at_work w k (same w (codes "get")) (same w (codes "put")) (same w (codes "del")) refl refl
    refl)))))))))))) e

-- Whole lines.

pub some_and : {A : Type 0} (o : Option A) (P : A → Type 0) → IsSomeAnd o P → (x : A) × (o ≡ Some x) × P x
some_and None P h = absurd h
some_and (Some x) P h = (x, refl, h)

last_takes : (first rest : List ℕ) (o : Option (List ℕ × List ℕ)) (p : List ℕ × List ℕ × List ℕ)
    → cut_at 32 rest ≡ o
    → last_two first o ≡ Some p → (first ≡ p.0) × (rest ≡ p.1 ++ 32 ∷ p.2)
last_takes first rest None p cut e = absurd (let none : None ≡ Some p = e in cc)
last_takes first rest (Some q) p cut e =
    let whole : (first, q.0, q.1) ≡ p = (let s : Some (first, q.0, q.1) ≡ Some p = e in cc) in (
      ap (λ (r : List ℕ × List ℕ × List ℕ). r.0) whole,
      cut_takes 32 rest q cut ∙ ap (λ (r : List ℕ × List ℕ × List ℕ). r.1 ++ 32 ∷ r.2) whole,
    )

first_takes : (rest : List ℕ) (o : Option (List ℕ × List ℕ)) (p : List ℕ × List ℕ × List ℕ)
    → cut_at 32 rest ≡ o
    → first_of_three o ≡ Some p → rest ≡ p.0 ++ 32 ∷ (p.1 ++ 32 ∷ p.2)
first_takes rest None p cut e = absurd (let none : None ≡ Some p = e in cc)
first_takes rest (Some q) p cut e =
    let (one, two) = last_takes q.0 q.1 (cut_at 32 q.1) p refl e in
    cut_takes 32 rest q cut ∙ ap (λ (r : List ℕ). r ++ 32 ∷ q.1) one ∙ ap (λ (r : List ℕ). p.0 ++ 32 ∷ r) two

three_takes : (rest : List ℕ) (p : List ℕ × List ℕ × List ℕ) → three_at rest ≡ Some p
    → rest ≡ p.0 ++ 32 ∷ (p.1 ++ 32 ∷ p.2)
unfolding three_at
three_takes rest p e = first_takes rest (cut_at 32 rest) p refl e

-- a line after its first word
after : (l f rest w more : List ℕ) → l ≡ f ++ 32 ∷ rest → f ≡ w → rest ≡ more → l ≡ w ++ 32 ∷ more
after l f rest w more is same_f same_r =
    is ∙ ap (λ (g : List ℕ). g ++ 32 ∷ rest) same_f ∙ ap (λ (r : List ℕ). w ++ 32 ∷ r) same_r

opened : (l rest : List ℕ) (o : Option (List ℕ × List ℕ)) (f : Flags) (m : Bool) → cut_at 32 rest ≡ o
    → l ≡ codes "open" ++ 32 ∷ rest → IsOpenOf rest o f.0 m → IsWorded l (Open f m)
opened l rest None f m cut is h = open_worded l rest f m is h.0
opened l rest (Some p) f m cut is h =
    told_worded l p.0 p.1 f m (after l (codes "open") rest (codes "open") (p.0 ++ 32 ∷ p.1) is refl
    (cut_takes 32 rest p cut))
    h.0 h.1

called : (l f rest : List ℕ) (c : RequestCall) → l ≡ f ++ 32 ∷ rest → f ≡ call_word c → (r : Request)
    → SpellsCall c rest r
    → IsWorded l r
called l f rest c is named (Open flags migrates) (ec, h) =
    opened l rest (cut_at 32 rest) flags migrates refl
    (after l f rest (codes "open") rest is (named ∙ ap call_word ec) refl) h
called l f rest c is named (Close flags) (ec, h) =
    close_worded l rest flags (after l f rest (codes "close") rest is (named ∙ ap call_word ec) refl) h
called l f rest c is named (Branch b t xid flags) (ec, h) =
    let (p, three, (n, m, k)) = some_and (three_at rest)
    (λ p. IsNumber p.0 t × IsName p.1 xid × IsFlagText p.2 flags.0) h in
    branch_worded l p.0 p.1 p.2 b t xid flags
    (after l f rest (branch_word b) (p.0 ++ 32 ∷ (p.1 ++ 32 ∷ p.2)) is (named ∙ ap call_word ec)
    (three_takes rest p three))
    n m k
called l f rest c is named (Recover t count flags) (ec, h) =
    let (p, three, (n, m, k)) = some_and (three_at rest)
    (λ p. IsNumber p.0 t × IsNumber p.1 count × IsFlagText p.2 flags.0) h in
    recover_worded l p.0 p.1 p.2 t count flags
    (after l f rest (codes "recover") (p.0 ++ 32 ∷ (p.1 ++ 32 ∷ p.2)) is (named ∙ ap call_word ec)
    (three_takes rest p three))
    n m k
called l f rest c is named (Work t op) h = absurd h
called l f rest c is named (Restart None) (ec, h) = absurd h
called l f rest c is named (Restart (Some n)) (ec, h) =
    cut_worded l rest n (after l f rest (codes "restart") rest is (named ∙ ap call_word ec) refl) h
called l f rest c is named Trim h = absurd h
called l f rest c is named (Decide xid o) (ec, h) =
    let (p, cut, (m, k)) = some_and (cut_at 32 rest) (λ p. IsName p.0 xid × (outcome_at p.1 ≡ Some o)) h in
    decide_worded l p.0 p.1 xid o
    (after l f rest (codes "heur") (p.0 ++ 32 ∷ p.1) is (named ∙ ap call_word ec) (cut_takes 32 rest p cut)) m
    k

worked : (l f rest : List ℕ) → l ≡ f ++ 32 ∷ rest → Named f asking.Work → (t : ℕ) (op : Op)
    → SpellsTask f rest t op
    → IsWorded l (Work t op)
worked l f rest is (inl v) t op h =
    let (p, cut, (n, k)) = some_and (cut_at 32 rest) (λ p. IsNumber p.0 t × (op_by f p.1 ≡ Some op)) h in
    let task : op_by (codes "get") p.1 ≡ Some op = ap (λ (w : List ℕ). op_by w p.1) (sym v) ∙ k in
    get_task l p.0 p.1 t op (after l f rest (codes "get") (p.0 ++ 32 ∷ p.1) is v (cut_takes 32 rest p cut)) n
    task
worked l f rest is (inr (inl v)) t op h =
    let (p, cut, (n, k)) = some_and (cut_at 32 rest) (λ p. IsNumber p.0 t × (op_by f p.1 ≡ Some op)) h in
    let task : op_by (codes "put") p.1 ≡ Some op = ap (λ (w : List ℕ). op_by w p.1) (sym v) ∙ k in
    put_task l p.0 p.1 t op (after l f rest (codes "put") (p.0 ++ 32 ∷ p.1) is v (cut_takes 32 rest p cut)) n
    task
worked l f rest is (inr (inr v)) t op h =
    let (p, cut, (n, k)) = some_and (cut_at 32 rest) (λ p. IsNumber p.0 t × (op_by f p.1 ≡ Some op)) h in
    let task : op_by (codes "del") p.1 ≡ Some op = ap (λ (w : List ℕ). op_by w p.1) (sym v) ∙ k in
    delete_task l p.0 p.1 t op (after l f rest (codes "del") (p.0 ++ 32 ∷ p.1) is v (cut_takes 32 rest p cut))
    n task

by_word : (l f rest : List ℕ) → l ≡ f ++ 32 ∷ rest → (k : Option RequestWord) → word_at f ≡ k → (r : Request)
    → SpellsBy k f rest r → IsWorded l r
by_word l f rest is None e r h = absurd h
by_word l f rest is (Some (asking.Call c)) e r h = called l f rest c is (word_named f (asking.Call c) e) r h
by_word l f rest is (Some asking.Work) e (Work t op) h =
    worked l f rest is (word_named f asking.Work e) t op h
by_word l f rest is (Some asking.Work) e r h = absurd h

alone : (l : List ℕ) (k : Option RequestWord) → word_at l ≡ k → (r : Request) → alone_by k ≡ Some r
    → IsWorded l r
alone l (Some (asking.Call call.Restart)) e r h =
    let it : Restart None ≡ r = (let s : Some (Restart None) ≡ Some r = h in cc) in
    subst (λ (q : Request). IsWorded l q) it (restart_worded l (word_named l (asking.Call call.Restart) e))
alone l (Some (asking.Call call.Trim)) e r h =
    let it : Trim ≡ r = (let s : Some Trim ≡ Some r = h in cc) in
    subst (λ (q : Request). IsWorded l q) it (trim_worded l (word_named l (asking.Call call.Trim) e))
alone l k e r h = absurd (let none : None ≡ Some r = h in cc)

spelled : (l : List ℕ) (o : Option (List ℕ × List ℕ)) → cut_at 32 l ≡ o → (r : Request) → SpellsCut l o r
    → IsWorded l r
spelled l None cut r h = alone l (word_at l) refl r h
spelled l (Some p) cut r h = by_word l p.0 p.1 (cut_takes 32 l p cut) (word_at p.0) refl r h

-- the line of a request has such words
pub worded : (l : List ℕ) (r : Request) → SpellsRequest l r → IsWorded l r
worded l r h = spelled l (cut_at 32 l) refl r h
