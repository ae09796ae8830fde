-- What is due of a seat whose row is in memory, if it has one, is what is due of its client.
use Rattle.std.proofs.Common.{◌≡◌, refl, sym, subst, ap, ap₂, ◌∙◌, ℕ, Bool, true, false, ◌&&◌, ◌||◌, ◌==◌, List, [], ◌∷◌, Option, Some, None, option_map}
use Rattle.std.specs.Prelude.{bytes_eq, slice_get}
use Rattle.std.specs.List.{list_any}
use Rattle.std.proofs.lemmas.Slice.Eq.{bytes_eq-Decides}
use Rattle.pp_cache.specs.Memory.{Memory}
use Rattle.pp_cache_law.proofs.Alike.{rows_of}
use Rattle.pp_cache_law.proofs.Numbers.{is_same, same_test}
use Rattle.pp_cache_law.specs.Pairs.{AreBoth}
use Rattle.pp_cache_law.specs.Tables.{ShowsInstance, ShowsTable}
use Rattle.pp_turns_law.proofs.AllDue.{all_dues}
use Rattle.pp_turns_law.specs.Turns.{IsDecidable, IsFollowing, ShowsTurn}
use Rattle.pp_flow_law.specs.Tables.{Leaving}
use Rattle.pp_law.specs.Decisions.{decide, decide_head}
use Rattle.pp_law.specs.Due.{due_of as due_by_law}
use Rattle.pp_law.specs.Lists.{Bytes}
use Rattle.pp_law.specs.Requests.{Front, NoHeadYet, NoHead, IsRequest}
use Rattle.pp_law.specs.State.{State, Client, Entry, Instance as Known}
use Rattle.pp_law.specs.Table.{kept_row, row, row_on_disk}
use Rattle.pp_objects.specs.Instances.{Instance, id_of, is_life, is_same_id, is_there, row_of}
use Rattle.pp_objects.specs.declared.id.ObjectId.{ObjectId}
use Rattle.pp_peers.specs.declared.peers.Peer.{Peer}
use Rattle.pp_seats.specs.Dues.{is_refused_in}
use Rattle.pp_seats.specs.Heads.{asked_in, is_there_in, owned_in}
use Rattle.pp_seats.specs.declared.front.Front.{Front as SeatFront}
use Rattle.pp_seats.specs.declared.front.Front.TheVariants.{NoHeadYet as NoneYet, NoHead as NoneThere, Request as IsThere}
use Rattle.pp_seats.specs.declared.key.Key.{Key as OwnedKey}
use Rattle.pp_seats.specs.declared.seat.Seat.{Seat}
use Rattle.pp_seats_law.specs.Dues.{AreApart, due_as}
use Rattle.pp_seats_law.specs.Fronts.{ShowsFront}
use Rattle.pp_seats_law.specs.Seats.{ShowsSeat}
use Rattle.pp_states_law.proofs.Framed.{states}
use Rattle.pp_due.specs.Due.{due_of}
use Rattle.pp_state.specs.declared.state.State.{State as Turn}
use Rattle.pp_states_law.specs.Told.{IsTold}
use Rattle.pp_store.specs.Kept.{KeptMap}
use Rattle.pp_world.specs.declared.note.Decision.{Decision}
use Rattle.pp_world.specs.declared.note.Decision.TheVariants.{Refuse}
use Rattle.pp_turns_law.specs.Rows.{IsReady, ShowsDisk}

none_some : {A : Type 0} {x : A} → None ≡ Some x → ⊥
none_some e = absurd (cc e)

-- its row is in memory, if it has one
abbrev pub HasItsRow : State → Seat → Type 0
HasItsRow s seat = (key : OwnedKey) → owned_in (asked_in seat.front) ≡ Some key → row s key.text.items ≡ None → row_on_disk s key.text.items ≡ None

-- ---- what its exchange joins is told apart from the row of its key

id_by : (a b : ObjectId) (t u : Bool) → (a.slot == b.slot) ≡ t → (a.life == b.life) ≡ u → (t && u) ≡ true → a ≡ b
id_by a b true true slot life is = ap₂ (λ (s l : ℕ). record { slot = s; life = l }) (is_same a.slot b.slot slot) (is_same a.life b.life life)
id_by a b true false slot life is = absurd (cc is)
id_by a b false u slot life is = absurd (cc is)

pub same_id : (a b : ObjectId) → is_same_id a b ≡ true → a ≡ b
same_id a b is = id_by a b (a.slot == b.slot) (a.life == b.life) refl refl is

row_id : (number : ℕ → ℕ) (m : Memory) (s : State) (key : Bytes) (id : ObjectId) (o : Option Instance) (q : Option Known) → option_map id_of o ≡ Some id → AreBoth (ShowsInstance number m s) o q → is_there id m.instances ≡ true
row_id number m s key id None q is both = absurd (none_some is)
row_id number m s key id (Some i) None is both = absurd both
row_id number m s key id (Some i) (Some x) is both =
    let same : id_of i ≡ id = cc is in
    subst (λ (other : ObjectId). is_there other m.instances ≡ true) same (ap (λ (o : Option Instance). is_life i.life o) both.there ∙ same_test i.life i.life refl)

apart_from : (number : ℕ → ℕ) (m : Memory) (s : State) (key : Bytes) (seat : Seat) → ShowsTable number m s → IsReady number m s.next_instance seat → AreApart number (option_map id_of (row_of key m.instances)) seat.brought
apart_from number m s key seat table ready id joined plain at brought same =
    let one : IsTold number m s.next_instance joined = ready.joined joined plain brought in
    let there : is_there id m.instances ≡ true = row_id number m s key id (row_of key m.instances) (row s key) at (rows_of number m s table key) in
    sym (same_id joined id (one.apart id there ∙ same_test (number joined.life) (number id.life) (sym same)))

pub decidable : (number : ℕ → ℕ) (p : Turn) (s t : State) (seat : Seat) (c : Client) → ShowsTable number p.cache s → IsReady number p.cache s.next_instance seat → is_refused_in seat.brought ≡ false
    → ((key : OwnedKey) → owned_in (asked_in seat.front) ≡ Some key → row t key.text.items ≡ None → row_on_disk t key.text.items ≡ None) → IsDecidable number p t seat c
decidable number p s t seat c table ready isnt kept = record {
  key = ready.key;
  brought = isnt;
  kept = kept;
  apart = λ key is. apart_from number p.cache s key.text.items seat table ready;
}

-- ---- as if nothing were kept of a key

unfoldable pub hidden : Bytes → State → State
hidden key s = record s { displaced = key ∷ s.displaced }

pub none_hidden : (key : Bytes) (s : State) → row_on_disk (hidden key s) key ≡ None
unfolding hidden
none_hidden key s = ap (λ (b : Bool). elim (b || list_any (λ t. bytes_eq t key) s.displaced) as (λ c. Option Entry) [ true ↦ None | false ↦ kept_row s key ]) ((bytes_eq-Decides key key).1 refl)

pub turn_hidden : (number : ℕ → ℕ) (l : Leaving) (peers : List Peer) (p : Turn) (s : State) (key : Bytes) → ShowsTurn number l peers p s → ShowsTurn number l peers p (hidden key s)
unfolding hidden
turn_hidden number l peers p s key shows = record {
  steps = record {
    shows = states number p.name.items [] l _ s shows.steps.shows (hidden key s) (record { clients = refl; conns = refl; exchanges = refl; next_exchange = refl; instances = refl; next_instance = refl; chunks = refl; kept = λ x. refl });
    order = shows.steps.order;
    told = shows.steps.told;
    refused = shows.steps.refused;
  };
  name = shows.name;
  shares = shows.shares;
  clock = shows.clock;
  ticked = shows.ticked;
  stopped = shows.stopped;
  bounded = shows.bounded;
}

-- ---- no request is there

pub front_none : (front : SeatFront) (f : Front) → is_there_in front ≡ false → ShowsFront front f → f ≡ NoHeadYet
front_none NoneYet NoHeadYet is shows = refl
front_none NoneYet f is shows = absurd shows
front_none (NoneThere status) f is shows = absurd (cc is)
front_none (IsThere a) f is shows = absurd (cc is)

pub decide_none : (s : State) (c : Client) → c.front ≡ NoHeadYet → decide s c ≡ None
decide_none s c is = ap (λ (f : Front). elim f as (λ x. Option Decision) [ NoHeadYet ↦ None | NoHead status ↦ Some (Refuse status) | IsRequest r ↦ Some (decide_head s c r) ]) is

-- ---- all

pub seat_due : (number : ℕ → ℕ) (l : Leaving) (peers : List Peer) (shelf : KeptMap) (p : Turn) (s : State) (i : ℕ) (seat : Seat) (c : Client) → ShowsDisk number l peers shelf p s → slice_get p.seats.items i ≡ Some seat → ShowsSeat number p.name.items [] seat c
    → HasItsRow s seat → option_map (due_as seat.client.id seat.index) (due_of p seat) ≡ due_by_law s c
seat_due number l peers shelf p s i seat c shows at seen has = all_dues number l peers p s p.name.items seat c shows.turn seen follows (λ going isnt. decidable number p s s seat c table (ready going) isnt has)
  where
    ready : c.is_closing ≡ false → IsReady number p.cache s.next_instance seat
    ready going = shows.ready i seat at (seen.closing ∙ going)

    table : ShowsTable number p.cache s
    table = shows.turn.steps.shows.table.table

    follows : c.is_closing ≡ false → IsFollowing p.cache seat
    follows going = let one : IsReady number p.cache s.next_instance seat = ready going in one.follows
