-- What is found is due in the law, to the client that the seat at its place shows.
use Rattle.std.proofs.Common.{◌≡◌, refl, sym, ap, ◌∙◌, ℕ, Bool, true, false, ◌||◌, find, List, [], Option, Some, None, option_map}
use Rattle.std.specs.Prelude.{option_and_then, slice_get}
use Rattle.pp_cache_law.specs.Tables.{ShowsTable}
use Rattle.pp_turns_law.proofs.Keyed.{keys_same}
use Rattle.pp_turns_law.proofs.Sitting.{is_at, shown_at}
use Rattle.pp_deciding_law.proofs.Disk.{shows_disk}
use Rattle.pp_deciding_law.proofs.Due.{IsUnbegun, due_by, its_due, not_begun, unbegun_by}
use Rattle.pp_deciding_law.proofs.Found.{IsButForMemory, first_keeps, found_due}
use Rattle.pp_deciding_law.proofs.Framed.{row_beside}
use Rattle.pp_deciding_law.specs.Stands.{StandsToDecide}
use Rattle.pp_deciding_law.specs.Takes.{IsNext}
use Rattle.pp_due.specs.Due.{due_of as due_of_seat}
use Rattle.pp_due.specs.Entering.{key_at, key_due}
use Rattle.pp_flow_law.specs.Tables.{ShowsFlow, none_leaves}
use Rattle.pp_law.specs.Connections.{client, is_client}
use Rattle.pp_law.specs.Due.{Decide, due_by_stage, due_cut, due_of, first_due}
use Rattle.pp_law.specs.Requests.{key_in}
use Rattle.pp_law.specs.Stages.{is_begun}
use Rattle.pp_law.specs.State.{State, Client}
use Rattle.pp_laws.proofs.Lists.{in_find}
use Rattle.pp_laws.specs.Runs.{IsIn}
use Rattle.pp_laws_turn.specs.SoundTurn.{IsSoundTurn}
use Rattle.pp_peers.specs.declared.peers.Peer.{Peer}
use Rattle.pp_seats.specs.Heads.{asked_in, owned_in}
use Rattle.pp_seats.specs.declared.due.Due.TheVariants.{Decide as IsDecidedDue}
use Rattle.pp_seats.specs.declared.key.Key.{Key as OwnedKey}
use Rattle.pp_seats.specs.declared.seat.Seat.{Seat}
use Rattle.pp_seats_law.specs.Dues.{due_as}
use Rattle.pp_seats_law.specs.Seats.{ShowsOpen, ShowsSeat}
use Rattle.pp_state.specs.declared.state.State.{State as Turn}
use Rattle.pp_store.specs.Kept.{KeptMap}
use Rattle.pp_target.specs.Key.{text_of}
use Rattle.pp_turns_law.proofs.First.{first_dues}
use Rattle.pp_turns_law.specs.Firsts.{IsFirst, with_row_if}
use Rattle.pp_turns_law.specs.Rows.{IsReady, ShowsDisk}
use Rattle.pp_world.specs.declared.note.Cause.{Cause}
use Rattle.pp_world.specs.declared.note.Decision.{Decision}

-- nothing is decided once all is to be closed
running_by : (s : State) (c : Client) (n i : ℕ) (d : Decision) → due_of s c ≡ Some (Decide n i d) → s.is_stopped ≡ false
running_by s c n i d = by c.is_closing s.is_stopped refl (due_cut s c)
  where
    by : (closing stopped : Bool) → s.is_stopped ≡ stopped → (o : Option Cause) → due_by c.number c.index o (elim (closing || stopped) as (λ t. Option Decision) [ true ↦ None | false ↦ due_by_stage s c ]) ≡ Some (Decide n i d) → s.is_stopped ≡ false
    by closing stopped is (Some cause) at = absurd (cc at)
    by true stopped is None at = absurd (cc at)
    by false true is None at = absurd (cc at)
    by false false is None at = is

-- what is found, in the words of both
pub record IsFound (i : ℕ) (due : Decision) (p q : Turn) (s : State) (seat : Seat) (c : Client) : Type 0 where
  pub number : ℕ → ℕ
  -- the client of the law: it goes on, as the law does, and no reply has begun
  pub there : IsIn c s.clients
  pub going : c.is_closing ≡ false
  pub running : s.is_stopped ≡ false
  pub is_due : due_by_stage s c ≡ Some due
  pub unbegun : is_begun c ≡ false
  -- the seat that shows it
  pub here : slice_get q.seats.items i ≡ Some seat
  pub own : ShowsOpen number q.name.items [] seat c
  pub ready : IsReady number q.cache (with_row_if (key_at i p) s).next_instance seat
  pub keyed : option_map text_of (key_in c.front) ≡ option_map (λ (k : OwnedKey). k.text.items) (owned_in (asked_in seat.front))
  pub its : due_of_seat q seat ≡ Some (IsDecidedDue due)
  pub text : key_at i p ≡ key_due p seat
  -- what the turn has of exchanges, and in memory
  pub flow : ShowsFlow number none_leaves q.flow (with_row_if (key_at i p) s)
  pub table : ShowsTable number q.cache (with_row_if (key_at i p) s)

module _ (number0 : ℕ → ℕ) (peers : List Peer) (shelf : KeptMap) (i : ℕ) (due : Decision) (p q : Turn) (s : State) (seat : Seat) (c : Client) (stands : StandsToDecide number0 peers shelf p s) (sound : IsSoundTurn s) (next : IsNext shelf i due p q s seat c) where
  abbrev n : ℕ
  n = seat.client.id

  first : IsFirst none_leaves peers shelf p q s (Some (i, IsDecidedDue due))
  first = first_dues number0 none_leaves peers shelf p q s (Some (i, IsDecidedDue due)) (shows_disk number0 peers shelf p s stands sound) stands.kept stands.awake next.first

  disk : ShowsDisk first.number none_leaves peers shelf q (with_row_if (key_at i p) s)
  disk = first.shows

  first_is : first_due s ≡ Some (Decide n seat.index due)
  first_is = sym first.due ∙ ap (λ (o : Option Seat). option_map (λ (x : Seat). due_as x.client.id x.index (IsDecidedDue due)) o) next.here

  own_due : due_of s c ≡ Some (Decide n seat.index due)
  own_due = its_due s s.clients (Decide n seat.index due) c first_is next.there (sound.apart.clients n)

  open_client : IsUnbegun s c due
  open_client = unbegun_by s c n seat.index due own_due

  there_row : client (with_row_if (key_at i p) s) n ≡ Some c
  there_row = ap (λ (cs : List Client). find (is_client n) cs) (row_beside (key_at i p) s).clients ∙ next.there

  seen : ShowsSeat first.number q.name.items [] seat c
  seen = shown_at first.number q.name.items [] q.seats.items (with_row_if (key_at i p) s).clients n i seat c disk.turn.steps.shows.clients (is_at i q.seats.items seat disk.turn.steps.order next.here) next.here there_row

  ready : IsReady first.number q.cache (with_row_if (key_at i p) s).next_instance seat
  ready = disk.ready i seat next.here (seen.closing ∙ open_client.going)

  own : ShowsOpen first.number q.name.items [] seat c
  own = seen.going open_client.going

  seats_same : slice_get p.seats.items i ≡ Some seat
  seats_same = let same : IsButForMemory p q = first_keeps shelf p.awake.items p q (Some (i, IsDecidedDue due)) next.first in ap (λ (r : Turn). slice_get r.seats.items i) (sym same) ∙ next.here

  pub is_found : IsFound i due p q s seat c
  is_found = record {
    number = first.number;
    there = (in_find (is_client n) c s.clients next.there).0;
    going = open_client.going;
    running = running_by s c n seat.index due own_due;
    is_due = open_client.due;
    unbegun = not_begun s c due open_client.due;
    here = next.here;
    own = own;
    ready = ready;
    keyed = keys_same seat.front c.front own.front ready.key;
    its = sym (ap (λ (o : Option Seat). option_and_then (due_of_seat q) o) next.here) ∙ found_due shelf p.awake.items p q i (IsDecidedDue due) next.first;
    text = ap (λ (o : Option Seat). option_and_then (key_due p) o) seats_same;
    flow = disk.turn.steps.shows.exchanges;
    table = disk.turn.steps.shows.table.table;
  }
