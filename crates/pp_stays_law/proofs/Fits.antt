-- What holds behind each step: memory is refused for nobody, what is to be said first has room, names are among those that may be noted, and
-- bodies are as they were.
use Rattle.std.proofs.Common.{◌≡◌, ◌≤◌, ◌<◌, ◌+◌, ◌∙◌, inl, inr, sym, subst, ap, ℕ, true, false, length, List, [], ◌∷◌}
use Rattle.std.specs.Prelude.{count_by}
use Rattle.pp_cache.specs.Memory.{Memory}
use Rattle.pp_flow.specs.Changes.{Exchanges}
use Rattle.pp_flow.specs.Entries.{asking, nobodys}
use Rattle.pp_flow.specs.declared.entry.Entry.{Entry}
use Rattle.pp_seats.specs.Dues.{is_refused_in}
use Rattle.pp_seats.specs.Heads.{asked_in, owned_in}
use Rattle.pp_seats.specs.declared.front.Front.{Front}
use Rattle.pp_seats.specs.declared.seat.Seat.{Seat}
use Rattle.pp_target.specs.Name.{name_of}
use Rattle.pp_stays_law.proofs.Counted.{IsAsBefore, NothingCame}
use Rattle.pp_stays_law.proofs.Names.{retired_room}
use Rattle.pp_stays_law.proofs.Rested.{SuitsPlaces}
use Rattle.pp_stays_law.proofs.Walk.{AllOf, Suits}
use Rattle.pp_stays_law.specs.Names.{AllAskAmong, AsksAmong, HasRoomFor, is_among, is_unnoted}

abbrev pub AnySeat : Seat → Type 0
AnySeat seat = Unit {0}

abbrev pub AnyEntry : Entry → Type 0
AnyEntry x = Unit {0}

abbrev pub AnyMemory : Memory → Type 0
AnyMemory m = Unit {0}

pub any_entries : (xs : List Entry) → AllOf AnyEntry xs
any_entries [] = tt
any_entries (x ∷ xs) = (tt, any_entries xs)

-- ---- of each client alone

abbrev pub IsGiven : Seat → Type 0
IsGiven seat = is_refused_in seat.brought ≡ false

abbrev pub IsShort : Seat → Type 0
IsShort seat = length seat.client.reply.text ≤ 20480

pub given_suits : Suits IsGiven AnyEntry AnyEntry AnyMemory
given_suits = record {
  seat = λ a b on its. on.given its;
  left_waiting = λ x its. tt;
  left_placed = λ x its. tt;
  anew_waiting = λ x its. tt;
  anew_placed = λ x its. tt;
  begins = λ seat key n aim errand text its owned pending. tt;
  memory = λ m k same its. tt;
}

pub short_suits : Suits IsShort AnyEntry AnyEntry AnyMemory
short_suits = record {
  seat = λ a b on its. on.short its;
  left_waiting = λ x its. tt;
  left_placed = λ x its. tt;
  anew_waiting = λ x its. tt;
  anew_placed = λ x its. tt;
  begins = λ seat key n aim errand text its owned pending. tt;
  memory = λ m k same its. tt;
}

pub any_places : SuitsPlaces AnyEntry AnyEntry AnyMemory
any_places = record { put = λ k x its. tt; clears = λ x m its all. tt; clears_placed = λ x m its all. tt }

-- ---- of names

abbrev pub HasNameAmong : List (List ℕ) → Entry → Type 0
HasNameAmong names x = is_among names (name_of x.key.items) ≡ true

pub named_suits : (names : List (List ℕ)) → Suits (AsksAmong names) (HasNameAmong names) (HasNameAmong names) (HasRoomFor names)
named_suits names = record {
  seat = λ a b on its key owned. its key (sym (ap (λ (f : Front). owned_in (asked_in f)) on.front) ∙ owned);
  left_waiting = λ x its. its;
  left_placed = λ x its. its;
  anew_waiting = λ x its. its;
  anew_placed = λ x its. its;
  begins = λ seat key n aim errand text its owned pending. its key owned;
  memory = λ m k same room. subst (λ (noted : List (List ℕ)). length noted + count_by (is_unnoted noted) names < 2048) (sym same) room;
}

pub named_places : (names : List (List ℕ)) → SuitsPlaces (HasNameAmong names) (HasNameAmong names) (HasRoomFor names)
named_places names = record {
  put = λ k x its. its;
  clears = λ x m its room. retired_room names x.key.items m its room;
  clears_placed = λ x m its room. retired_room names x.key.items m its room;
}

pub all_named : (names : List (List ℕ)) (xs : List Entry) → AllAskAmong names xs → AllOf (HasNameAmong names) xs
all_named names [] all = tt
all_named names (x ∷ xs) all = (all.0, all_named names xs all.1)

pub are_named : (names : List (List ℕ)) (xs : List Entry) → AllOf (HasNameAmong names) xs → AllAskAmong names xs
are_named names [] all = tt
are_named names (x ∷ xs) all = (all.0, are_named names xs all.1)

-- ---- of bodies

left_before : (f : Exchanges) (x : Entry) → IsAsBefore f x → IsAsBefore f (nobodys x)
left_before f x (inl nothing) = inl nothing
left_before f x (inr was) = inr (record { before = was.before; there = was.there; place = was.place; body = was.body })

anew_before : (f : Exchanges) (x : Entry) → IsAsBefore f x → IsAsBefore f (asking (record x.errand { asked = 0 }) x)
anew_before f x (inl nothing) = inl nothing
anew_before f x (inr was) = inr (record { before = was.before; there = was.there; place = was.place; body = was.body })

pub bodies_suit : (f : Exchanges) → Suits AnySeat AnyEntry (IsAsBefore f) AnyMemory
bodies_suit f = record {
  seat = λ a b on its. tt;
  left_waiting = λ x its. tt;
  left_placed = left_before f;
  anew_waiting = λ x its. tt;
  anew_placed = anew_before f;
  begins = λ seat key n aim errand text its owned pending. tt;
  memory = λ m k same its. tt;
}

-- where places come, nothing came of those without one
pub waiting_suit : (f : Exchanges) → Suits AnySeat NothingCame (IsAsBefore f) AnyMemory
waiting_suit f = record {
  seat = λ a b on its. tt;
  left_waiting = λ x its. its;
  left_placed = left_before f;
  anew_waiting = λ x its. its;
  anew_placed = anew_before f;
  begins = λ seat key n aim errand text its owned pending. pending;
  memory = λ m k same its. tt;
}

pub bodies_placed : (f : Exchanges) → SuitsPlaces NothingCame (IsAsBefore f) AnyMemory
bodies_placed f = record { put = λ k x nothing. inl nothing; clears = λ x m its all. tt; clears_placed = λ x m its all. tt }

-- ---- of what is noted

abbrev pub IsNoting : List (List ℕ) → Memory → Type 0
IsNoting names m = m.outdated ≡ names

pub noting_suits : (names : List (List ℕ)) → Suits AnySeat AnyEntry AnyEntry (IsNoting names)
noting_suits names = record {
  seat = λ a b on its. tt;
  left_waiting = λ x its. tt;
  left_placed = λ x its. tt;
  anew_waiting = λ x its. tt;
  anew_placed = λ x its. tt;
  begins = λ seat key n aim errand text its owned pending. tt;
  memory = λ m k same its. same ∙ its;
}
