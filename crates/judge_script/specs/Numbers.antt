-- The numbers of names: no number two names, and no name two numbers.
use Rattle.std.specs.Prelude.{◌≡◌, ◌≢◌, ℕ, ◌<◌, List, [], ◌∷◌, ◌++◌, ◌+◌, drop, length, map, slice_index_or, take, codes}
use Rattle.xa_xid.specs.Xids.{null_xid}
use Rattle.xa_xid.specs.declared.xid.Xid.{Xid}
use Rattle.judge_rules.specs.declared.calls.JudgedAnswer.{JudgedAnswer}
use Rattle.judge_words.specs.answer
use Rattle.judge_rules.specs.declared.calls.JudgedCall.{JudgedCall}
use Rattle.judge_words.specs.call
use Rattle.judge_rules.specs.declared.calls.HistoryEvent.{HistoryEvent}
use Rattle.judge_words.specs.function
use Rattle.judge_rules.specs.declared.calls.XidSort.{XidSort}
use Rattle.judge_words.specs.sort
use Rattle.judge_script.specs.declared.asking.TranscriptCall.{TranscriptCall}
use Rattle.judge_script.specs.declared.asking.TranscriptCall.TheVariants as asked
use Rattle.judge_script.specs.declared.names.Names.{Names}
use Rattle.judge_script.specs.Askings.{AsksCall}
use Rattle.judge_script.specs.Answers.{SaysAnswer}
use Rattle.judge_script.specs.declared.answers.SaidAnswer.{SaidAnswer}
use Rattle.judge_script.specs.declared.answers.SaidAnswer.TheVariants as said

-- the XIDs of a transcript, and its keys and values
pub record NameTable : Type 0 where
  pub xids : List Xid
  pub words : List (List ℕ)

-- a number is that of a name: its place
abbrev pub IsPlace : {A : Type 0} → List A → ℕ → A → Type 0
IsPlace names k x = (k < length names) × (slice_index_or names k x ≡ x)

-- no name is twice in a list
abbrev pub AreApartNames : {A : Type 0} → List A → Type 0
AreApartNames {A} names = (i j : ℕ) (d : A) → i < j → j < length names
    → slice_index_or names i d ≢ slice_index_or names j d

-- names that have these and maybe more
abbrev pub HasMore : {A : Type 0} → List A → List A → Type 0
HasMore {A} old new = (more : List A) × (new ≡ old ++ more)

-- what an XID is
abbrev pub IsSort : Xid → XidSort → Type 0
IsSort x sort.Null = x ≡ null_xid
IsSort x sort.Bare = (x ≢ null_xid) × (x.bqual ≡ [])
IsSort x sort.Full = (x ≢ null_xid) × (x.bqual ≢ [])

-- a call is what a line asks for, its names numbered
abbrev pub IsCall : NameTable → TranscriptCall → JudgedCall → Type 0
IsCall n (asked.Open f) (call.Function (function.Open g)) = g ≡ f
IsCall n (asked.Close f) (call.Function (function.Close g)) = g ≡ f
IsCall n (asked.Branch v t x f) (call.Function (function.Branch w o)) =
    (w ≡ v) × (o.thread ≡ t) × (o.flags ≡ f) × IsPlace n.xids o.xid.number x × IsSort x o.xid.sort
IsCall n (asked.Recover t c f) (call.Function (function.Recover u d g)) = (u ≡ t) × (d ≡ c) × (g ≡ f)
IsCall n (asked.Get t k) (call.Get u j) = (u ≡ t) × IsPlace n.words j k.now
IsCall n (asked.Put t k v) (call.Put u j i) = (u ≡ t) × IsPlace n.words j k.now × IsPlace n.words i v.now
IsCall n (asked.Decide x c) (call.Decide k d) = (d ≡ c) × IsPlace n.xids k x
IsCall n (asked.Restart c) (call.Restart d) = d ≡ c
IsCall n (asked.Disconnect t) (call.Disconnect u) = u ≡ t
IsCall n asked.Trim call.Trim = Unit {0}
IsCall n _ _ = ⊥

-- numbers are those of XIDs, each one
abbrev pub ArePlaces : List Xid → List ℕ → List Xid → Type 0
ArePlaces names [] [] = Unit {0}
ArePlaces names (k ∷ ks) (x ∷ xs) = IsPlace names k x × ArePlaces names ks xs
ArePlaces names _ _ = ⊥

-- an answer is what a line says, its names numbered
abbrev pub IsLineAnswer : NameTable → SaidAnswer → JudgedAnswer → Type 0
IsLineAnswer n (said.Code c) (answer.Code d) = d ≡ c
IsLineAnswer n (said.Given xs) (answer.Given ks) = ArePlaces n.xids ks.items xs.items
IsLineAnswer n (said.Found v) (answer.Found k) = IsPlace n.words k v.now
IsLineAnswer n said.Done answer.Done = Unit {0}
IsLineAnswer n said.Refused answer.Refused = Unit {0}
IsLineAnswer n said.Told answer.Told = Unit {0}
IsLineAnswer n said.Hung answer.Hung = Unit {0}
IsLineAnswer n _ _ = ⊥

-- the names that are numbered
abbrev pub table_of : Names → NameTable
table_of n = record { xids = n.xids.items; words = map (λ s. s.now) n.words.items }

-- a table has the names of another and maybe more, in the same places, and none twice if the other has none
-- twice
pub record Grows (old new : NameTable) : Type 0 where
  pub xids : HasMore old.xids new.xids
  pub words : HasMore old.words new.words
  pub apart_xids : AreApartNames old.xids → AreApartNames new.xids
  pub apart_words : AreApartNames old.words → AreApartNames new.words

-- words spell a call and an answer, with an arrow between them at this place
pub record AreParted (ws : List (List ℕ)) (place : ℕ) (asked : TranscriptCall)
    (said : SaidAnswer) : Type 0 where
  pub arrow : slice_index_or ws place [] ≡ codes "->"
  pub asks : AsksCall (take place ws) asked
  pub says : SaysAnswer (drop (place + 1) ws) said

-- an event is the call and the answer of a line, their names numbered
pub record IsLineEvent (n : NameTable) (ws : List (List ℕ)) (e : HistoryEvent) : Type 0 where
  pub call : List (List ℕ)
  pub answer : List (List ℕ)
  pub parts : ws ≡ call ++ codes "->" ∷ answer
  pub asked : TranscriptCall
  pub said : SaidAnswer
  pub asks : AsksCall call asked
  pub says : SaysAnswer answer said
  pub is_call : IsCall n asked e.call
  pub is_answer : IsLineAnswer n said e.answer

-- words spell no event, whatever the names are
abbrev pub SpellsNoEvent : List (List ℕ) → Type 0
SpellsNoEvent ws = (n : NameTable) (e : HistoryEvent) → IsLineEvent n ws e → ⊥
