-- One more line of a script.
use Rattle.std.proofs.Common.{◌≡◌, ℕ, ◌+◌, ◌≤◌, ◌<◌, true, false, not, List, [], ◌∷◌, ◌++◌, length, get_or, take, Bor, Option, Some, None, Result, Ok, Err, refl, ap, sym, subst, ◌∙◌}
use Rattle.std.specs.Prelude.{IfNone, IfSome, MatchResult}
use Rattle.std.proofs.lemmas.List.{append-nil, take_all, take_more}
use Rattle.std.proofs.lemmas.List.Elements.{filter-append}
use Rattle.script_words.specs.Lines.{is_skipped}
use Rattle.script_words.proofs.Texts.{blank, text_at, texts}
use Rattle.xa_engine.specs.declared.script.request.Request.{Request}
use Rattle.xa_engine.specs.script.Requests.{SpellsRequest}
use Rattle.xa_engine.specs.declared.script.reading.XaScriptError.{XaScriptError}
use Rattle.xa_engine.specs.script.Scripts.{HasLines, IsFirstBadLine, IsScriptFault, call_lines, SpellEach}

-- what was read of a line is spelled there, and where nothing was read nothing is
pub spelled : (lines : List (Bor (List ℕ))) (i : ℕ) (o : Option Request) (r : Request) → o ≡ Some r
    → IfSome o (λ q. SpellsRequest (get_or lines i blank).now q) → SpellsRequest (get_or (texts lines) i []) r
spelled lines i o r is h =
    subst (λ (l : List ℕ). SpellsRequest l r) (sym (text_at lines i))
    (subst (λ (p : Option Request). IfSome p (λ q. SpellsRequest (get_or lines i blank).now q)) is h)

pub unspelled : (lines : List (Bor (List ℕ))) (i : ℕ) (o : Option Request) → o ≡ None
    → IfNone o ((q : Request) → SpellsRequest (get_or lines i blank).now q → ⊥) → (q : Request)
    → SpellsRequest (get_or (texts lines) i []) q → ⊥
unspelled lines i o is h =
    subst (λ (l : List ℕ). (q : Request) → SpellsRequest l q → ⊥) (sym (text_at lines i))
    (subst (λ (p : Option Request). IfNone p ((q : Request) → SpellsRequest (get_or lines i blank).now q → ⊥))
    is h)

each_more : (ls : List (List ℕ)) (rs : List Request) (l : List ℕ) (r : Request) → SpellEach ls rs
    → SpellsRequest l r
    → SpellEach (ls ++ l ∷ []) (rs ++ r ∷ [])
each_more [] [] l r h s = (s, tt)
each_more [] (q ∷ rs) l r h s = absurd h
each_more (k ∷ ls) [] l r h s = absurd h
each_more (k ∷ ls) (q ∷ rs) l r h s = (h.0, each_more ls rs l r h.1 s)

one_kept : (l : List ℕ) → is_skipped l ≡ false → call_lines (l ∷ []) ≡ l ∷ []
one_kept l e = rw e refl

one_skipped : (l : List ℕ) → is_skipped l ≡ true → call_lines (l ∷ []) ≡ []
one_skipped l e = rw e refl

one_line : (ls : List (List ℕ)) (i : ℕ) → i < length ls
    → call_lines (take (i + 1) ls) ≡ call_lines (take i ls) ++ call_lines (get_or ls i [] ∷ [])
one_line ls i lt = ap call_lines (take_more ls i [] lt)
    ∙ filter-append (λ line. not (is_skipped line)) (take i ls) (get_or ls i [] ∷ [])

-- one more line is skipped
pub skips : (ls : List (List ℕ)) (i : ℕ) (rs : List Request) → i < length ls → is_skipped (get_or ls i [])
    ≡ true → SpellEach (call_lines (take i ls)) rs → SpellEach (call_lines (take (i + 1) ls)) rs
skips ls i rs lt skip h =
    let e = one_line ls i lt ∙ ap (λ (q : List (List ℕ)). call_lines (take i ls) ++ q)
    (one_skipped (get_or ls i []) skip) ∙ append-nil (call_lines (take i ls)) in
    subst (λ (q : List (List ℕ)). SpellEach q rs) (sym e) h

-- one more line spells a request
pub goes_on : (ls : List (List ℕ)) (i : ℕ) (rs : List Request) (r : Request) → i < length ls
    → is_skipped (get_or ls i []) ≡ false → SpellsRequest (get_or ls i []) r
    → SpellEach (call_lines (take i ls)) rs
    → SpellEach (call_lines (take (i + 1) ls)) (rs ++ r ∷ [])
goes_on ls i rs r lt kept s h =
    let e = one_line ls i lt ∙ ap (λ (q : List (List ℕ)). call_lines (take i ls) ++ q)
    (one_kept (get_or ls i []) kept) in
    subst (λ (q : List (List ℕ)). SpellEach q (rs ++ r ∷ [])) (sym e)
    (each_more (call_lines (take i ls)) rs (get_or ls i []) r h s)

-- there is no line more
pub ends : (ls : List (List ℕ)) (i : ℕ) (rs : List Request) → length ls ≤ i
    → SpellEach (call_lines (take i ls)) rs → SpellEach (call_lines ls) rs
ends ls i rs past h = subst (λ (q : List (List ℕ)). SpellEach (call_lines q) rs) (take_all i ls past) h

-- the lines that were read are those of the input
pub lines_of : {A : Type 0} (input : List ℕ) (read : A → List (List ℕ)) (r : Result A XaScriptError) (a : A)
    → r ≡ Ok a → MatchResult r (λ v. HasLines input (read v)) (λ e. IsScriptFault input e)
    → HasLines input (read a)
lines_of input read r a is h =
    subst (λ (q : Result _ XaScriptError). MatchResult q (λ v. HasLines input (read v))
    (λ e. IsScriptFault input e)) is h

-- the line that was told is the first that spells no request
pub bad_of : {A : Type 0} (ls : List (List ℕ)) (P : A → Type 0) (r : Result A ℕ) (n : ℕ) → r ≡ Err n
    → MatchResult r P (λ k. IsFirstBadLine ls k) → IsFirstBadLine ls n
bad_of ls P r n is h = subst (λ (q : Result _ ℕ). MatchResult q P (λ k. IsFirstBadLine ls k)) is h
