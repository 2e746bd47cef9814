-- How far a settle has come.
use Rattle.std.proofs.Common.{◌≡◌, ◌∙◌, sym, ap, subst, refl, ℕ, zero, suc, ◌+◌, ◌<◌, ◌≤◌, Option, Some, None, arith}
use Rattle.protocol.specs.declared.events.Event.{Event}
use Rattle.protocol.specs.declared.events.Event.TheVariants.{Deliver, Settle, Restart, Trim}
use Rattle.protocol_words.specs.Variants.{ActOf}
use Rattle.protocol.specs.declared.events.StepError.{StepError}
use Rattle.protocol.specs.declared.events.StepError.TheVariants.{Memory}
use Rattle.tree_state.specs.Worlds.{Delivers, NoneDelivered, SameTree, Settles, SettleStops, Stops, WorldState, least_open, settles_by}
use Rattle.tree_world.proofs.Handling.{same_as_before}

-- one delivery more, after N
more_by : (n : ℕ) (first now mid : WorldState) (k : ℕ) (o : Option ℕ)
    → ((w : WorldState) → Settles n w now → Settles (suc n) w mid)
    → least_open 1 first.delivered ≡ o → settles_by first now (λ w. Settles n w now) o
    → least_open 1 now.delivered ≡ Some k → settles_by first mid (λ w. Settles (suc n) w mid) o
more_by n first now mid k None again at same is =
    absurd (let wrong : Some k ≡ None = sym is
    ∙ ap (λ (w : WorldState). least_open 1 w.delivered) same ∙ at in cc)
more_by n first now mid k (Some j) again at made is = (made.0, made.1, again made.0 made.2)

settles_more : (n : ℕ) (first now mid : WorldState) (k : ℕ) → Settles n first now
    → least_open 1 now.delivered ≡ Some k → Delivers now mid k → Settles (suc n) first mid
settles_more zero first now mid k same is d =
    subst (λ w. Settles (suc zero) w mid) same
    (subst (λ o. settles_by now mid (λ w. Settles zero w mid) o) (sym is) (mid, d, refl))
settles_more (suc n) first now mid k made is d =
    more_by n first now mid k (least_open 1 first.delivered)
    (λ w h. settles_more n w now mid k h is d) refl made is

pub settles_one_more : (i : ℕ) (first before now mid : WorldState) (k : ℕ)
    → before ≡ now → Settles i first now
    → Some k ≡ least_open 1 now.delivered → Delivers before mid k → Settles (i + 1) first mid
settles_one_more i first before now mid k same made is d =
    let next : suc i ≡ i + 1 = omega arith in
    subst (λ n. Settles n first mid) next
    (settles_more i first now mid k made (sym is) (subst (λ w. Delivers w mid k) same d))

-- if no message is left, it may go on as often as it likes
idle_by : (n m : ℕ) (first now : WorldState) (o : Option ℕ)
    → ((w : WorldState) → Settles n w now → Settles m w now)
    → settles_by first now (λ w. Settles n w now) o → settles_by first now (λ w. Settles m w now) o
idle_by n m first now None again same = same
idle_by n m first now (Some k) again made = (made.0, made.1, again made.0 made.2)

idle : (n m : ℕ) (first now : WorldState) → n ≤ m → least_open 1 now.delivered ≡ None
    → Settles n first now → Settles m first now
idle zero zero first now h none made = made
idle zero (suc m) first now h none same =
    subst (λ w. Settles (suc m) w now) same
    (subst (λ o. settles_by now now (λ w. Settles m w now) o) (sym none) refl)
idle (suc n) zero first now h none made = absurd (omega (arith, h))
idle (suc n) (suc m) first now h none made =
    idle_by n m first now (least_open 1 first.delivered)
    (λ w s. idle n m w now (omega (arith, h)) none s) made

pub settled : (limit i : ℕ) (first now new : WorldState) → i < limit → Settles i first now
    → None ≡ least_open 1 now.delivered
    → new ≡ now → Settles limit first new
settled limit i first now new within made none same =
    subst (λ w. Settles limit first w) (sym same)
    (idle i limit first now (omega (arith, within)) (sym none) made)

pub settled_all : (limit i : ℕ) (first now : WorldState) → i ≡ limit
    → Settles i first now → Settles limit first now
settled_all limit i first now is made = subst (λ n. Settles n first now) is made

-- one is not delivered
pub stops_here : (limit i : ℕ) (first before now new : WorldState) (k : ℕ) (e : StepError) → i < limit
    → before ≡ now → Settles i first now
    → Some k ≡ least_open 1 now.delivered → Stops before (Deliver k) e new → SettleStops limit first new e
stops_here limit i first before now new k e within same made is stops =
    record {
      count = i;
      within = within;
      before = now;
      settles = made;
      stops = subst (λ o. NoneDelivered now new e o) is (subst (λ w. Stops w (Deliver k) e new) same stops);
    }

-- memory ran out as the next message was looked for
none_by : (old new : WorldState) (o : Option ℕ) → SameTree old new → NoneDelivered old new Memory o
none_by old new None same = (refl, same)
none_by old new (Some k) same = same

pub short : (limit i : ℕ) (first now new : WorldState) → i < limit → Settles i first now → new ≡ now
    → SettleStops limit first new Memory
short limit i first now new within made same =
    record {
      count = i;
      within = within;
      before = now;
      settles = made;
      stops = none_by now new (least_open 1 now.delivered) (same_as_before now new same);
    }

-- memory ran out before an event was made
pub not_begun : (w : WorldState) (e : Event) → Stops w e Memory w
not_begun w (ActOf a) = same_as_before w w refl
not_begun w (Deliver k) = same_as_before w w refl
not_begun w Settle = short 10000 0 w w w (omega arith) refl refl
not_begun w (Restart q bytes) = same_as_before w w refl
not_begun w (Trim q) = same_as_before w w refl
