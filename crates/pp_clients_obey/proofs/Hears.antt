-- A read of a client is what the law permits, and leads where the law leads.
use Rattle.std.proofs.Common.{◌≡◌, ◌≤◌, ◌+◌, ◌-◌, ℕ, Bool, true, false, ◌==◌, ◌&&◌, ◌||◌, List, [], ◌∷◌, length, length-drop, drop, refl, sym, ◌∙◌, ap, subst, arith, Option, Some, Result, Ok, Err}
use Rattle.std.proofs.lemmas.Bool.Decides.{nat_tests}
use Rattle.std.specs.Prelude.{is_some, min, nat_le, slice_get, slice_set}
use Rattle.pp_framing.specs.declared.body.BodyRule.{BodyRule}
use Rattle.pp_framing.specs.declared.framing.FramingFault.{FramingFault}
use Rattle.pp_world.specs.declared.happening.Happening.{Happening}
use Rattle.pp_law.specs.After.{paid}
use Rattle.pp_law.specs.Asking.{fits_heard, hang_up, hear, is_read, is_reading, is_writing, read_limit}
use Rattle.pp_law.specs.Closing.{close_client}
use Rattle.pp_law.specs.Connections.{client, on_client}
use Rattle.pp_law.specs.Hearing.{heard_by, what_counts}
use Rattle.pp_law.specs.Lists.{Bytes, is_some_with}
use Rattle.pp_law.specs.Permits.{is_owed}
use Rattle.pp_law.specs.Replies.{end_replies}
use Rattle.pp_law.specs.Requests.{Front, NoHeadYet, NoHead, IsRequest}
use Rattle.pp_law.specs.State.{State, Client, Owed, ReadOf}
use Rattle.pp_obeys.specs.Failures.{wakes}
use Rattle.pp_obeys.specs.Moves.{Goes, Leads}
use Rattle.pp_obeys.proofs.Happenings.{goes_heard, goes_hung_up, goes_none_yet}
use Rattle.pp_seats.specs.declared.seat.Seat.{Seat}
use Rattle.pp_seats.specs.Seats.{IsRead}
use Rattle.pp_seats_law.specs.Clients.{AreShown, IsFound}
use Rattle.pp_seats_law.specs.Reads.{heard_on}
use Rattle.pp_seats_law.specs.Seats.{ShowsOpen, ShowsSeat}
use Rattle.pp_seats_law.proofs.AllSeats.{changes, places}
use Rattle.pp_seats_law.proofs.Hears.{hang_ups, reads}
use Rattle.pp_clients_obey.specs.Hearing.{HangUpsLead, HasCome, NonesLead, OwesRead, ReadsLead, Sits, hung_up}

-- ---- what came has room

counts_few_by : (rule : Result BodyRule FramingFault) (bytes : Bytes) → length (elim rule as (λ c. Bytes) [ Ok r ↦ bytes | Err fault ↦ [] ]) ≤ length bytes
counts_few_by (Ok rule) bytes = omega arith
counts_few_by (Err fault) bytes = omega arith

counts_few : (front : Front) (bytes : Bytes) → length (what_counts front bytes) ≤ length bytes
counts_few NoHeadYet bytes = omega arith
counts_few (NoHead status) bytes = omega arith
counts_few (IsRequest r) bytes = counts_few_by r.rule bytes

le_true : (m n : ℕ) → m ≤ n → nat_le m n ≡ true
le_true m n le = grind (arith, nat_tests)

both_true : (a b : Bool) → a ≡ true → b ≡ true → (a && b) ≡ true
both_true true true first second = refl
both_true true false first second = second
both_true false b first second = first

few_heard : (rest len counted room : ℕ) → counted ≤ len → 1 ≤ len → len ≤ 16384 - rest → nat_le (rest + counted) 16384 ≡ true
few_heard rest len counted room few some within = le_true (rest + counted) 16384 (omega (arith, few, some, within))

fits : (number : ℕ → ℕ) (name : Bytes) (owed : List Bytes) (seat : Seat) (c : Client) (bytes : Bytes) → ShowsOpen number name owed seat c → HasCome seat bytes → fits_heard bytes c ≡ true
fits number name owed seat c bytes shows come =
    let same : length seat.client.heard.rest ≡ length c.heard = ap (λ (b : Bytes). length b) shows.heard.behind in
    let counted = counts_few c.front (drop c.skip bytes) in
    let dropped : length (drop c.skip bytes) ≡ length bytes - c.skip = length-drop c.skip bytes in
    let some = come.some in
    let within : length bytes ≤ 16384 - length seat.client.heard.rest = come.within in
    le_true (length c.heard + length (what_counts c.front (drop c.skip bytes))) 16384 (omega (arith, same, counted, dropped, some, within))

is_read_now : (seat : Seat) (bytes : Bytes) → HasCome seat bytes → is_read read_limit bytes ≡ true
is_read_now seat bytes come =
    let some = come.some in
    let within : length bytes ≤ 16384 - length seat.client.heard.rest = come.within in
    both_true (nat_le 1 (length bytes)) (nat_le (length bytes) (min read_limit read_limit)) (le_true 1 (length bytes) some)
    (le_true (length bytes) (min read_limit read_limit) (omega (arith, within)))

-- ---- the client

-- the seat shows it, and it is not closing
record IsThere (number : ℕ → ℕ) (name : Bytes) (owed : List Bytes) (seat : Seat) (n : ℕ) (s : State) : Type 0 where
  here : Client
  found : client s n ≡ Some here
  shows : ShowsSeat number name owed seat here
  going : here.is_closing ≡ false

there : (number : ℕ → ℕ) (owed : List Bytes) (n i : ℕ) (seats : List Seat) (seat : Seat) (s : State) → OwesRead number owed n seats s → Sits n i seats seat → IsThere number s.settings.name owed seat n s
there number owed n i seats seat s owes sits =
    let found : IsFound number s.settings.name owed seat n s.clients = places number s.settings.name owed seats s.clients n i seat owes.shown sits.at sits.there in record {
      here = found.client;
      found = found.there;
      shows = found.shows;
      going = sym found.shows.closing ∙ sits.going;
    }

pub same_seat : (seat other : Seat) → Some seat ≡ Some other → other ≡ seat
same_seat seat other is = cc is

-- ---- bytes came

-- of each client that the seat shows
heard_one : (number : ℕ → ℕ) (name : Bytes) (owed : List Bytes) (n i : ℕ) (seats : List Seat) (seat after : Seat) (bytes : Bytes) → Sits n i seats seat → IsRead (heard_on bytes seat) after
    → (other : Seat) (c : Client) → slice_get seats i ≡ Some other → ShowsSeat number name owed other c → ShowsSeat number name owed after (heard_by bytes c)
heard_one number name owed n i seats seat after bytes sits is other c at shows =
    let same : other ≡ seat = same_seat seat other (sym sits.there ∙ at) in
    let here : ShowsSeat number name owed seat c = subst (λ (x : Seat). ShowsSeat number name owed x c) same shows in
    reads number name owed seat after c bytes here (sym here.closing ∙ sits.going) is

heard_all : (number : ℕ → ℕ) (owed : List Bytes) (n i : ℕ) (seats : List Seat) (seat after : Seat) (bytes : Bytes) (s : State) → OwesRead number owed n seats s → Sits n i seats seat → IsRead (heard_on bytes seat) after
    → AreShown number (on_client n (heard_by bytes) s).settings.name owed (slice_set seats i after) (on_client n (heard_by bytes) s).clients
unfolding on_client
heard_all number owed n i seats seat after bytes s owes sits is =
    changes number s.settings.name owed seats s.clients n i after (heard_by bytes) owes.shown sits.at (heard_one number s.settings.name owed n i seats seat after bytes sits is)

hear_is : (n : ℕ) (bytes : Bytes) (s : State) → paid (hear n bytes s) ≡ paid (end_replies (on_client n (heard_by bytes) s))
unfolding hear
hear_is n bytes s = refl

-- it may come, and leads there
pub leads_on : {s t : State} {h : Happening} → wakes h ≡ false → Goes s h t → (u : State) → t ≡ u → Leads (h ∷ []) s u
leads_on quiet goes u is = record { awake = quiet; may = goes.may; holds = goes.leads ∙ is }

pub reads_lead : ReadsLead
reads_lead number n i owed seats seat after bytes s sits come is owes =
    let who : IsThere number s.settings.name owed seat n s = there number owed n i seats seat s owes sits in (
      leads_on refl
          (goes_heard s n bytes owes.none owes.reads (is_read_now seat bytes come)
          (ap (λ (o : Option Client). is_some_with (fits_heard bytes) o) who.found ∙ fits number s.settings.name owed seat who.here bytes (who.shows.going who.going) come))
          (paid (end_replies (on_client n (heard_by bytes) s))) (hear_is n bytes s),
      heard_all number owed n i seats seat after bytes s owes sits is,
    )

-- ---- no more comes

hung_one : (number : ℕ → ℕ) (name : Bytes) (owed : List Bytes) (n i : ℕ) (seats : List Seat) (seat : Seat) → Sits n i seats seat → (other : Seat) (c : Client) → slice_get seats i ≡ Some other → ShowsSeat number name owed other c → ShowsSeat number name owed (record seat { has_hung_up = true }) (record c { has_hung_up = true })
hung_one number name owed n i seats seat sits other c at shows =
    let same : other ≡ seat = same_seat seat other (sym sits.there ∙ at) in
    hang_ups number name owed seat c (subst (λ (x : Seat). ShowsSeat number name owed x c) same shows)

hung_all : (number : ℕ → ℕ) (owed : List Bytes) (n i : ℕ) (seats : List Seat) (seat : Seat) (s : State) → OwesRead number owed n seats s → Sits n i seats seat
    → AreShown number (on_client n hung_up s).settings.name owed (slice_set seats i (record seat { has_hung_up = true })) (on_client n hung_up s).clients
unfolding on_client
hung_all number owed n i seats seat s owes sits =
    changes number s.settings.name owed seats s.clients n i (record seat { has_hung_up = true }) hung_up owes.shown sits.at (hung_one number s.settings.name owed n i seats seat sits)

hang_up_by : (n : ℕ) (s : State) (o : Owed) → o ≡ ReadOf n
    → (elim (is_writing o n) as (λ b. State) [ true ↦ close_client n false s | false ↦ end_replies (on_client n hung_up s) ]) ≡ end_replies (on_client n hung_up s)
hang_up_by n s o is = ap (λ (x : Owed). elim (is_writing x n) as (λ b. State) [ true ↦ close_client n false s | false ↦ end_replies (on_client n hung_up s) ]) is

hang_up_is : (n : ℕ) (s : State) → s.owed ≡ ReadOf n → hang_up n s ≡ end_replies (on_client n hung_up s)
unfolding hang_up
hang_up_is n s is = hang_up_by n s s.owed is

number_same : (n : ℕ) → (n == n) ≡ true
number_same n = grind (arith, nat_tests)

or_false : (b : Bool) → b ≡ true → (b || false) ≡ true
or_false true is = refl
or_false false is = absurd (cc is)

owes_it : (s : State) (n : ℕ) → s.owed ≡ ReadOf n → is_owed s n ≡ true
owes_it s n is = ap (λ (o : Owed). is_reading o n || is_writing o n) is ∙ or_false (n == n) (number_same n)

pub hang_ups_lead : HangUpsLead
hang_ups_lead number n i owed seats seat s sits owes =
    let who : IsThere number s.settings.name owed seat n s = there number owed n i seats seat s owes sits in (
      leads_on refl (goes_hung_up s n owes.none (owes_it s n owes.reads) (ap (λ (o : Option Client). is_some o) who.found)) (paid (end_replies (on_client n hung_up s))) (ap paid (hang_up_is n s owes.reads)),
      hung_all number owed n i seats seat s owes sits,
    )

-- ---- nothing came yet

pub nones_lead : NonesLead
nones_lead number n owed seats s owes = leads_on refl (goes_none_yet s n owes.none owes.reads) (paid s) refl
