-- Bytes that are said to a client are what the law permits, and lead where the law leads.
use Rattle.std.proofs.Common.{◌≡◌, ◌+◌, ℕ, zero, suc, Bool, true, false, List, length, refl, sym, ◌∙◌, ap, subst, Option, Some, None}
use Rattle.std.specs.Prelude.{find, nat_lt, slice_get, slice_set}
use Rattle.pp_law.specs.After.{paid, said}
use Rattle.pp_law.specs.Chunks.{is_chunk, put_chunk, use_chunk}
use Rattle.pp_law.specs.Connections.{client, on_client}
use Rattle.pp_law.specs.Lists.{Bytes}
use Rattle.pp_law.specs.Replies.{end_replies, of_body, said_by, use_chunks, use_from, use_said}
use Rattle.pp_law.specs.State.{State, Chunk, Client}
use Rattle.pp_law.specs.Table.{Next, next_of}
use Rattle.pp_obeys.proofs.Happenings.{goes_said}
use Rattle.pp_seats.specs.declared.seat.Seat.{Seat}
use Rattle.pp_seats.specs.Seats.{told_by}
use Rattle.pp_seats_law.specs.Clients.{AreShown}
use Rattle.pp_seats_law.specs.Seats.{ShowsSeat}
use Rattle.pp_seats_law.proofs.AllSeats.{changes}
use Rattle.pp_seats_law.proofs.SaidOn.{sayings}
use Rattle.pp_clients_obey.specs.Hearing.{Sits}
use Rattle.pp_clients_obey.specs.Saying.{LeavesSome, WritesLead, told_to}
use Rattle.pp_clients_obey.proofs.Hears.{leads_on, same_seat}

-- ---- chunks that are used leave the clients as they are

abbrev pub seen : State → Bytes × List Client
seen s = (s.settings.name, s.clients)

seen_found : (id i : ℕ) (s : State) (o : Option Chunk) → seen (elim o as (λ x. State) [ None ↦ s | Some c ↦ record s { chunks = put_chunk id i c.bytes s.chunks } ]) ≡ seen s
seen_found id i s None = refl
seen_found id i s (Some c) = refl

seen_chunk : (id i : ℕ) (s : State) → seen (use_chunk id i s) ≡ seen s
unfolding use_chunk
seen_chunk id i s = seen_found id i s (find (is_chunk id i) s.chunks)

seen_chunks : (more id i : ℕ) (s : State) → seen (use_chunks more id i s) ≡ seen s
unfolding use_chunks
seen_chunks zero id i s = refl
seen_chunks (suc more) id i s = seen_chunks more id (i + 1) (use_chunk id i s) ∙ seen_chunk id i s

seen_from : (n : ℕ) (x : Next) (s : State) → seen (use_from n x s) ≡ seen s
unfolding use_from
seen_from n x s = seen_chunks _ _ _ s

seen_next : (n : ℕ) (s : State) (b : Bool) (o : Option Next) → seen (elim b as (λ x. State) [ false ↦ s | true ↦ elim o as (λ x. State) [ None ↦ s | Some x ↦ use_from n x s ] ]) ≡ seen s
seen_next n s false o = refl
seen_next n s true None = refl
seen_next n s true (Some x) = seen_from n x s

pub seen_said : (n : ℕ) (c : Client) (s : State) → seen (use_said n c s) ≡ seen s
unfolding use_said
seen_said n c s = seen_next (of_body n c) s (nat_lt 0 (of_body n c)) (next_of s c)

-- ---- the bytes

said_one : (number : ℕ → ℕ) (name : Bytes) (owed : List Bytes) (n i : ℕ) (seats : List Seat) (seat : Seat) (bytes : Bytes) → Sits n i seats seat → LeavesSome seat bytes
    → (other : Seat) (c : Client) → slice_get seats i ≡ Some other → ShowsSeat number name owed other c → ShowsSeat number name owed (told_by (length bytes) seat) (said_by (length bytes) c)
said_one number name owed n i seats seat bytes sits leaves other c at shows =
    let same : other ≡ seat = same_seat seat other (sym sits.there ∙ at) in
    let here : ShowsSeat number name owed seat c = subst (λ (x : Seat). ShowsSeat number name owed x c) same shows in
    sayings number (length bytes) name owed seat c here (sym here.closing ∙ sits.going) leaves.few leaves.more

shown_on : (number : ℕ → ℕ) (name : Bytes) (owed : List Bytes) (n i : ℕ) (seats : List Seat) (seat : Seat) (bytes : Bytes) (s : State) → Sits n i seats seat → LeavesSome seat bytes → AreShown number s.settings.name owed seats s.clients
    → AreShown number (on_client n (said_by (length bytes)) s).settings.name owed (slice_set seats i (told_by (length bytes) seat)) (on_client n (said_by (length bytes)) s).clients
unfolding on_client
shown_on number name owed n i seats seat bytes s sits leaves shown =
    changes number s.settings.name owed seats s.clients n i (told_by (length bytes) seat) (said_by (length bytes)) shown sits.at (said_one number s.settings.name owed n i seats seat bytes sits leaves)

pub said_is : (n k : ℕ) (x : Client) (s : State) → client s n ≡ Some x → paid (said n k s) ≡ paid (end_replies (on_client n (said_by k) (use_said k x s)))
unfolding said
said_is n k x s found = ap (λ (o : Option Client). paid (elim o as (λ y. State) [ None ↦ s | Some y ↦ end_replies (on_client n (said_by k) (use_said k y s)) ])) found

pub writes_lead : WritesLead
writes_lead number n i offered owed seats seat bytes c s there sits leaves owes = (
  leads_on refl (goes_said s n offered bytes c owes.none owes.writes there (owes.first c there)) (paid (end_replies (told_to (length bytes) n c s))) (said_is n (length bytes) c s there),
  shown_on number s.settings.name owed n i seats seat bytes (use_said (length bytes) c s) sits leaves
      (subst (λ (p : Bytes × List Client). AreShown number p.0 owed seats p.1) (sym (seen_said (length bytes) c s)) owes.shown),
)
