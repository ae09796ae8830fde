-- The exchange whose answer a request may wait for is the law's.
use Rattle.std.proofs.Common.{◌≡◌, inl, inr, refl, sym, ap, ◌∙◌, ℕ, false, is_ok, min, ◌++◌, Option, Some, None, option_map, Result, Ok, Err, List}
use Rattle.std.specs.List.{filter_map, find, reduce}
use Rattle.pp_turns_law.proofs.Shared.{shared_asks}
use Rattle.pp_flow.specs.Changes.{Exchanges}
use Rattle.pp_flow_law.specs.Tables.{Leaving}
use Rattle.pp_law.specs.Lists.{Bytes}
use Rattle.pp_law.specs.Requests.{Front, NoHeadYet, NoHead, IsRequest, Parsed, key_in as key_of_front}
use Rattle.pp_law.specs.Sharing.{is_shared, shared_ask as shared_by_law}
use Rattle.pp_law.specs.State.{State, Client}
use Rattle.pp_peers.specs.declared.peers.Peer.{Peer}
use Rattle.pp_seats.specs.declared.front.Front.{Front as SeatFront}
use Rattle.pp_seats.specs.declared.front.Front.TheVariants.{NoHeadYet as NoneYet, NoHead as NoneThere, Request as IsThere}
use Rattle.pp_seats.specs.declared.key.Key.{Key as OwnedKey}
use Rattle.pp_seats.specs.declared.seat.Seat.{Seat}
use Rattle.pp_seats.specs.Dues.{refused_for, refused_in}
use Rattle.pp_seats.specs.Heads.{asked_in, owned_in}
use Rattle.pp_seats_law.specs.Fronts.{ShowsFront, ShowsKey}
use Rattle.pp_target.specs.Key.{Key, text_of}
use Rattle.pp_target.specs.declared.target.TargetFault.{TargetFault}
use Rattle.pp_decide.specs.Sharing.{shared_ask, shared_for, shared_number}
use Rattle.pp_state.specs.Ends.{parts}
use Rattle.pp_state.specs.declared.state.State.{State as Turn}
use Rattle.pp_turns_law.specs.Turns.{ShowsTurn}

-- ---- the text of its key

abbrev key_by : Result Key TargetFault → Option Key
key_by key = elim key [ Ok k ↦ Some k | Err fault ↦ None ]

no_key : (key : Result Key TargetFault) → is_ok key ≡ false → None ≡ option_map text_of (key_by key)
no_key (Err fault) isnt = refl
no_key (Ok key) isnt = absurd (cc isnt)

text_by : (key : Option OwnedKey) (refusal : Option ℕ) (r : Parsed) → ShowsKey key refusal r → (refused_for refusal key ≡ Some 500 → ⊥) → option_map (λ (k : OwnedKey). k.text.items) key ≡ option_map text_of (key_by r.key)
text_by (Some key) refusal r shows not_memory = ap (λ (text : Bytes). Some text) key.within.spelled ∙ sym (ap (λ (k : Result Key TargetFault). option_map text_of (key_by k)) shows.0)
text_by None refusal r (inl none) not_memory = no_key r.key none.0
text_by None refusal r (inr memory) not_memory = absurd (not_memory (ap (λ (o : Option ℕ). refused_for o None) memory))

text_same : (front : SeatFront) (f : Front) → ShowsFront front f → (refused_in front ≡ Some 500 → ⊥) → option_map (λ (k : OwnedKey). k.text.items) (owned_in (asked_in front)) ≡ option_map text_of (key_of_front f)
text_same NoneYet NoHeadYet shows not_memory = refl
text_same (NoneThere status) (NoHead other) shows not_memory = refl
text_same (IsThere a) (IsRequest r) shows not_memory = text_by a.key a.refusal r shows.key not_memory
text_same front f shows not_memory = absurd shows

-- ---- of them all, the one that began first

abbrev shared_text : Exchanges → Option Bytes → Option ℕ
shared_text f o = elim o [ None ↦ None | Some text ↦ reduce min (filter_map (shared_number text) (f.waiting ++ f.placed)) ]

abbrev known_text : State → Option Bytes → Option ℕ
known_text s o = elim o [ None ↦ None | Some text ↦ option_map (λ e. e.number) (find (is_shared text) s.exchanges) ]

by_text : (key : Option OwnedKey) (f : Exchanges) → shared_for key f ≡ shared_text f (option_map (λ (k : OwnedKey). k.text.items) key)
by_text None f = refl
by_text (Some key) f = refl

by_key : (s : State) (key : Option Key) → known_text s (option_map text_of key) ≡ (elim key as (λ c. Option ℕ) [ None ↦ None | Some k ↦ option_map (λ e. e.number) (find (is_shared (text_of k)) s.exchanges) ])
by_key s None = refl
by_key s (Some key) = refl

texts_same : (number : ℕ → ℕ) (l : Leaving) (peers : List Peer) (p : Turn) (s : State) (o : Option Bytes) → ShowsTurn number l peers p s → shared_text p.flow o ≡ known_text s o
texts_same number l peers p s None shows = refl
texts_same number l peers p s (Some text) shows = shared_asks number p.name.items l peers (parts p) s shows.steps text

pub shared_same : (number : ℕ → ℕ) (l : Leaving) (peers : List Peer) (p : Turn) (s : State) (name : Bytes) (seat : Seat) (c : Client) → ShowsTurn number l peers p s → ShowsFront seat.front c.front → (refused_in seat.front ≡ Some 500 → ⊥) → shared_ask seat p.flow ≡ shared_by_law s c
shared_same number l peers p s name seat c shows front not_memory =
    by_text (owned_in (asked_in seat.front)) p.flow ∙ ap (λ (o : Option Bytes). shared_text p.flow o) (text_same seat.front c.front front not_memory)
    ∙ texts_same number l peers p s (option_map text_of (key_of_front c.front)) shows ∙ by_key s (key_of_front c.front)
