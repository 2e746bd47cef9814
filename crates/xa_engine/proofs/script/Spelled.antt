-- Lines that spell no request.
use Rattle.std.proofs.Common.{◌≡◌, ℕ, Bool, List, Option, Some, None, sym, subst}
use Rattle.std.specs.Prelude.{IsSomeAnd, IfNone}
use Rattle.xa_codes.specs.FlagNames.{IsFlagText}
use Rattle.spellings.specs.Words.{cut_at}
use Rattle.xa_xid.specs.declared.xid.Xid.{Xid}
use Rattle.xa_engine.specs.declared.script.request.RequestCall.{RequestCall}
use Rattle.xa_engine.specs.declared.script.request.RequestCall.TheVariants as call
use Rattle.xa_engine.specs.declared.script.request.Request.{Request}
use Rattle.xa_engine.specs.declared.script.request.Request.TheVariants.{Open, Close, Branch, Recover, Work, Restart, Trim, Decide}
use Rattle.xa_engine.specs.script.Requests.{IsNumber, IsName, IsOpenOf, SpellsOpen, three_at, SpellsBranch, SpellsCall, SpellsRecover}

-- what holds anyway holds where there is nothing
pub if_none : {A : Type 0} (r : Option A) (P : Type 0) → P → IfNone r P
if_none None P h = h
if_none (Some x) P h = tt

-- a text that names no flags
abbrev pub NamesNone : List ℕ → Type 0
NamesNone text = (bits : ℕ) → IsFlagText text bits → ⊥

pub no_flags_alone : (rest : List ℕ) → None ≡ cut_at 32 rest → NamesNone rest → (flags : ℕ) (migrates : Bool)
    → SpellsOpen rest flags migrates → ⊥
no_flags_alone rest is none flags migrates s =
    let t : IsOpenOf rest None flags migrates =
    subst (λ (o : Option (List ℕ × List ℕ)). IsOpenOf rest o flags migrates) (sym is) s in none flags t.0

pub no_flags_before : (rest : List ℕ) (p : List ℕ × List ℕ) → Some p ≡ cut_at 32 rest → NamesNone p.0
    → (flags : ℕ) (migrates : Bool) → SpellsOpen rest flags migrates → ⊥
no_flags_before rest p is none flags migrates s =
    let t : IsOpenOf rest (Some p) flags migrates =
    subst (λ (o : Option (List ℕ × List ℕ)). IsOpenOf rest o flags migrates) (sym is) s in none flags t.0

pub no_flags_recover : (rest : List ℕ) (p : List ℕ × List ℕ × List ℕ) → Some p ≡ three_at rest → NamesNone p.2
    → (thread count flags : ℕ) → SpellsRecover rest thread count flags → ⊥
no_flags_recover rest p is none thread count flags s =
    let t : IsNumber p.0 thread × IsNumber p.1 count × IsFlagText p.2 flags =
    subst (λ (o : Option (List ℕ × List ℕ × List ℕ)). IsSomeAnd o
    (λ q. IsNumber q.0 thread × IsNumber q.1 count × IsFlagText q.2 flags)) (sym is) s in
    none flags t.2

pub no_flags_branch : (rest : List ℕ) (p : List ℕ × List ℕ × List ℕ) → Some p ≡ three_at rest → NamesNone p.2
    → (thread : ℕ) (xid : Xid) (flags : ℕ) → SpellsBranch rest thread xid flags → ⊥
no_flags_branch rest p is none thread xid flags s =
    let t : IsNumber p.0 thread × IsName p.1 xid × IsFlagText p.2 flags =
    subst (λ (o : Option (List ℕ × List ℕ × List ℕ)). IsSomeAnd o
    (λ q. IsNumber q.0 thread × IsName q.1 xid × IsFlagText q.2 flags)) (sym is) s in
    none flags t.2

pub no_flags_close : (c : RequestCall) (rest : List ℕ) → c ≡ call.Close → NamesNone rest
    → (r : Request) → SpellsCall c rest r → ⊥
no_flags_close c rest is none (Open flags migrates) s = absurd (let e = s.0 in cc)
no_flags_close c rest is none (Close flags) s = none flags.0 s.1
no_flags_close c rest is none (Branch f thread xid flags) s = absurd (let e = s.0 in cc)
no_flags_close c rest is none (Recover thread count flags) s = absurd (let e = s.0 in cc)
no_flags_close c rest is none (Work thread op) s = absurd s
no_flags_close c rest is none (Restart keep) s = absurd (let e = s.0 in cc)
no_flags_close c rest is none Trim s = absurd s
no_flags_close c rest is none (Decide xid o) s = absurd (let e = s.0 in cc)
