-- Which inputs are votes.
use Rattle.std.specs.Prelude.{◌≡◌, ℕ, Bool, true, false}
use Rattle.std.proofs.Common.{refl}
use Rattle.protocol.specs.declared.names.Case.{Case}
use Rattle.protocol.specs.declared.messages.Message.{Message}
use Rattle.protocol.specs.declared.messages.Message.TheVariants.{Yes, No, Read}
use Rattle.protocol.specs.declared.standings.Vote.{Vote}
use Rattle.protocol_words.specs.Variants.{ActInput, MessageInput, VoteNo, VoteRead, VoteYes}
use Rattle.protocol.specs.declared.events.Input.{Input}
use Rattle.protocol.specs.Views.{vote_message}

abbrev pub is_vote_message : Message → Bool
is_vote_message (Yes d) = true
is_vote_message (No d) = true
is_vote_message (Read d) = true
is_vote_message m = false

abbrev pub is_vote_input : Input → Bool
is_vote_input (MessageInput k m) = is_vote_message m
is_vote_input (ActInput a) = false

pub vote_is_one : (k : ℕ) (w : Vote) (d : Case) → is_vote_input (MessageInput k (vote_message w d)) ≡ true
vote_is_one k VoteYes d = refl
vote_is_one k VoteNo d = refl
vote_is_one k VoteRead d = refl

pub vote_case : (k j : ℕ) (w v : Vote) (d e : Case) → MessageInput k (vote_message w d)
    ≡ MessageInput j (vote_message v e)
    → d ≡ e
vote_case k j VoteYes VoteYes d e f = cc
vote_case k j VoteNo VoteNo d e f = cc
vote_case k j VoteRead VoteRead d e f = cc
vote_case k j VoteYes VoteNo d e f = absurd (cc)
vote_case k j VoteYes VoteRead d e f = absurd (cc)
vote_case k j VoteNo VoteYes d e f = absurd (cc)
vote_case k j VoteNo VoteRead d e f = absurd (cc)
vote_case k j VoteRead VoteYes d e f = absurd (cc)
vote_case k j VoteRead VoteNo d e f = absurd (cc)
