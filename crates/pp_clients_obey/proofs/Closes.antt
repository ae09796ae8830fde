-- The closing of a client is what the law permits, and leads where the law leads.
use Rattle.std.proofs.Common.{◌≡◌, refl, sym, subst, ap, ◌∙◌, ℕ, Bool, true, false, not, cond, ◌==◌, ◌&&◌, ◌||◌, find, List, [], ◌∷◌, Option, Some, None, is_some}
use Rattle.std.specs.List.{list_any}
use Rattle.std.specs.Prelude.{slice_get, slice_set}
use Rattle.pp_law.specs.After.{paid, shut}
use Rattle.pp_law.specs.Asking.{hang_up, is_reading, is_writing}
use Rattle.pp_law.specs.Closing.{close_client, exchanges_of, forsake, leave_one, left_alone}
use Rattle.pp_law.specs.Connections.{each_exchange, end_exchange, exchange, is_client, on_client, on_exchange}
use Rattle.pp_law.specs.Lists.{Bytes, change, without}
use Rattle.pp_law.specs.Permits.{is_owed, may_shut}
use Rattle.pp_law.specs.Phases.{in_phase}
use Rattle.pp_law.specs.Replies.{end_replies}
use Rattle.pp_law.specs.State.{State, Client, Exchange, Owed, WriteTo, Deciding}
use Rattle.pp_law.specs.Table.{swept}
use Rattle.pp_laws.proofs.Tests.{number_same}
use Rattle.pp_obeys.proofs.Frames.{Frame, frame, frame_of, stays}
use Rattle.pp_obeys.proofs.Happenings.{goes_hung_up}
use Rattle.pp_obeys.proofs.StaysTable.{close_client-stays}
use Rattle.pp_obeys.proofs.StaysTurns.{shut-stays}
use Rattle.pp_obeys.proofs.TurnHappenings.{cuts_due, goes_cut, goes_shut}
use Rattle.pp_seats.specs.declared.seat.Seat.{Seat}
use Rattle.pp_seats_law.specs.Clients.{AreShown, IsAt, IsFound}
use Rattle.pp_seats_law.specs.Seats.{ShowsSeat}
use Rattle.pp_seats_law.proofs.AllSeats.{changes, places}
use Rattle.pp_clients_obey.specs.Closing.{CutsLead, IsClosed, LossesLead, ShutsLead, without_client}
use Rattle.pp_clients_obey.proofs.Hears.{leads_on, same_seat}
use Rattle.pp_clients_obey.proofs.Says.{seen}

-- ---- exchanges that are left, and what is swept, leave the clients as they are

abbrev pub closing_by : Bool → Client → Client
closing_by is_cut c = record c { is_closing = true; is_cut = c.is_cut || is_cut }

seen_when : (b : Bool) (s x y : State) → seen x ≡ seen s → seen y ≡ seen s → seen (elim b as (λ c. State) [ true ↦ x | false ↦ y ]) ≡ seen s
seen_when true s x y hx hy = hx
seen_when false s x y hx hy = hy

seen_left : (e : Exchange) (s : State) → seen (leave_one e s) ≡ seen s
unfolding leave_one end_exchange on_exchange
seen_left e s = seen_when (e.asked == 0) s (end_exchange e.number s) (on_exchange e.number left_alone s) refl refl

seen_found : (s : State) (o : Option Exchange) → seen (elim o as (λ c. State) [ None ↦ s | Some e ↦ leave_one e s ]) ≡ seen s
seen_found s None = refl
seen_found s (Some e) = seen_left e s

seen_each : (ns : List ℕ) (s : State) → seen (each_exchange leave_one ns s) ≡ seen s
unfolding each_exchange
seen_each [] s = refl
seen_each (n ∷ ns) s = seen_each ns (elim (exchange s n) as (λ c. State) [ None ↦ s | Some e ↦ leave_one e s ]) ∙ seen_found s (exchange s n)

pub seen_swept : (s : State) → seen (swept s) ≡ seen s
unfolding swept
seen_swept s = refl

pub seen_forsaken : (test : Exchange → Bool) (s : State) → seen (forsake test s) ≡ seen s
unfolding forsake
seen_forsaken test s = refl

pub seen_on : (n : ℕ) (f : Client → Client) (s : State) → seen (on_client n f s) ≡ (s.settings.name, change (is_client n) f s.clients)
unfolding on_client
seen_on n f s = refl

pub seen_closed : (n : ℕ) (is_cut : Bool) (s : State) → seen (close_client n is_cut s) ≡ (s.settings.name, change (is_client n) (closing_by is_cut) s.clients)
unfolding close_client
seen_closed n is_cut s =
    let closed : State = on_client n (λ c. record c { is_closing = true; is_cut = c.is_cut || is_cut }) s in
    seen_swept (each_exchange leave_one (exchanges_of n s) closed) ∙ seen_each (exchanges_of n s) closed ∙ seen_on n (closing_by is_cut) s

-- ---- a seat that counts as closed shows a client that does

pub closed_shows : (number : ℕ → ℕ) (name : Bytes) (owed : List Bytes) (seat new : Seat) (c d : Client) → ShowsSeat number name owed seat c → IsClosed seat new → d.number ≡ c.number → d.is_closing ≡ true → ShowsSeat number name owed new d
closed_shows number name owed seat new c d shows closed numbered closing = record {
  number = closed.number ∙ shows.number ∙ sym numbered;
  closing = closed.closing ∙ sym closing;
  going = λ going. let e : true ≡ false = sym closing ∙ going in absurd (cc e);
}

closed_one : (number : ℕ → ℕ) (name : Bytes) (owed : List Bytes) (i : ℕ) (seats : List Seat) (seat new : Seat) (is_cut : Bool) → slice_get seats i ≡ Some seat → IsClosed seat new
    → (other : Seat) (c : Client) → slice_get seats i ≡ Some other → ShowsSeat number name owed other c → ShowsSeat number name owed new (closing_by is_cut c)
closed_one number name owed i seats seat new is_cut there closed other c at shows =
    closed_shows number name owed seat new c (closing_by is_cut c) (subst (λ (x : Seat). ShowsSeat number name owed x c) (same_seat seat other (sym there ∙ at)) shows) closed refl refl

pub closed_all : (number : ℕ → ℕ) (owed : List Bytes) (n i : ℕ) (seats : List Seat) (seat new : Seat) (is_cut : Bool) (s : State) → AreShown number s.settings.name owed seats s.clients → IsAt n i seats → slice_get seats i ≡ Some seat → IsClosed seat new
    → AreShown number (close_client n is_cut s).settings.name owed (slice_set seats i new) (close_client n is_cut s).clients
closed_all number owed n i seats seat new is_cut s shown at there closed =
    subst (λ (p : Bytes × List Client). AreShown number p.0 owed (slice_set seats i new) p.1) (sym (seen_closed n is_cut s))
    (changes number s.settings.name owed seats s.clients n i new (closing_by is_cut) shown at (closed_one number s.settings.name owed i seats seat new is_cut there closed))

-- ---- a client whose writing fails

owes_write : (s : State) (n : ℕ) → s.owed ≡ WriteTo n → is_owed s n ≡ true
owes_write s n is = ap (λ (o : Owed). is_reading o n || is_writing o n) is ∙ number_same n

lost_is : (n : ℕ) (s : State) → s.owed ≡ WriteTo n → hang_up n s ≡ close_client n false s
unfolding hang_up
lost_is n s is =
    ap (λ (o : Owed). elim (is_writing o n) as (λ b. State) [ true ↦ close_client n false s | false ↦ end_replies (on_client n (λ c. record c { has_hung_up = true }) s) ]) is
    ∙ ap (λ (b : Bool). elim b as (λ x. State) [ true ↦ close_client n false s | false ↦ end_replies (on_client n (λ c. record c { has_hung_up = true }) s) ]) (number_same n)

pub losses_lead : LossesLead
losses_lead number n i owed seats seat after s at there closed may =
    let found : IsFound number s.settings.name owed seat n s.clients = places number s.settings.name owed seats s.clients n i seat may.shown at there in (
      leads_on refl (goes_hung_up s n may.none (owes_write s n may.writes) (ap (λ (o : Option Client). is_some o) found.there)) (paid (close_client n false s)) (ap paid (lost_is n s may.writes)),
      closed_all number owed n i seats seat after false s may.shown at there closed,
    )

-- ---- a cut

cut_frame : (n : ℕ) (s : State) → frame true (close_client n true (in_phase Deciding s)) ≡ frame true (in_phase Deciding s)
cut_frame n s = frame_of {all = true} (close_client-stays n true (in_phase Deciding s) (stays refl))

pub cuts_lead : CutsLead
cuts_lead number n i cause owed seats seat after s at there closed due = (
  leads_on refl (goes_cut s n cause due.none due.taking (cuts_due s n cause due.due)) (close_client n true (in_phase Deciding s)) refl,
  record {
    none = ap (λ (o : Frame). o.has_made_room) (cut_frame n s) ∙ due.none;
    at = ap (λ (o : Frame). o.phase) (cut_frame n s);
    shown = closed_all number owed n i seats seat after true (in_phase Deciding s) due.shown at there closed;
  },
)

-- ---- its connection is closed

shut_frame : (n : ℕ) (s : State) → frame true (shut n s) ≡ frame true s
shut_frame n s = frame_of {all = true} (shut-stays n s (stays refl))

seen_shut : (n : ℕ) (s : State) → seen (shut n s) ≡ (s.settings.name, without (is_client n) (change (is_client n) (closing_by false) s.clients))
unfolding shut
seen_shut n s = ap (λ (p : Bytes × List Client). (p.0, without (is_client n) p.1)) (seen_closed n false s)

gone_by : (number : ℕ → ℕ) (name : Bytes) (owed : List Bytes) (n : ℕ) (f : Client → Client) (seat : Seat) (seats : List Seat) (c : Client) (cs : List Client) → ((x : Client) → (f x).number ≡ x.number) → ShowsSeat number name owed seat c → AreShown number name owed (without_client n seats) cs
    → (b : Bool) → (seat.client.id == n) ≡ b
    → AreShown number name owed (cond (not (seat.client.id == n)) (seat ∷ without_client n seats) (without_client n seats))
    (cond (not (is_client n (elim (is_client n c) as (λ x. Client) [ true ↦ f c | false ↦ c ]))) ((elim (is_client n c) as (λ x. Client) [ true ↦ f c | false ↦ c ]) ∷ cs) cs)
gone_by number name owed n f seat seats c cs kept shows rest true is =
    let here : is_client n c ≡ true = ap (λ (k : ℕ). k == n) (sym shows.number) ∙ is in
    let test : is_client n (elim (is_client n c) as (λ x. Client) [ true ↦ f c | false ↦ c ]) ≡ true
    = ap (λ (b : Bool). is_client n (elim b as (λ x. Client) [ true ↦ f c | false ↦ c ])) here ∙ ap (λ (k : ℕ). k == n) (kept c) ∙ here in
    subst (λ (b : Bool). AreShown number name owed (cond (not b) (seat ∷ without_client n seats) (without_client n seats)) (cond (not (is_client n (elim (is_client n c) as (λ x. Client) [ true ↦ f c | false ↦ c ]))) ((elim (is_client n c) as (λ x. Client) [ true ↦ f c | false ↦ c ]) ∷ cs) cs)) (sym is)
    (subst (λ (b : Bool). AreShown number name owed (without_client n seats) (cond (not b) ((elim (is_client n c) as (λ x. Client) [ true ↦ f c | false ↦ c ]) ∷ cs) cs)) (sym test) rest)
gone_by number name owed n f seat seats c cs kept shows rest false isnt =
    let here : is_client n c ≡ false = ap (λ (k : ℕ). k == n) (sym shows.number) ∙ isnt in
    subst (λ (b : Bool). AreShown number name owed (cond (not b) (seat ∷ without_client n seats) (without_client n seats)) (cond (not (is_client n (elim (is_client n c) as (λ x. Client) [ true ↦ f c | false ↦ c ]))) ((elim (is_client n c) as (λ x. Client) [ true ↦ f c | false ↦ c ]) ∷ cs) cs)) (sym isnt)
    (subst (λ (b : Bool). AreShown number name owed (seat ∷ without_client n seats) (cond (not (is_client n (elim b as (λ x. Client) [ true ↦ f c | false ↦ c ]))) ((elim b as (λ x. Client) [ true ↦ f c | false ↦ c ]) ∷ cs) cs)) (sym here)
    (subst (λ (b : Bool). AreShown number name owed (seat ∷ without_client n seats) (cond (not b) (c ∷ cs) cs)) (sym here) (shows, rest)))

gone : (number : ℕ → ℕ) (name : Bytes) (owed : List Bytes) (n : ℕ) (f : Client → Client) → ((x : Client) → (f x).number ≡ x.number) → (seats : List Seat) (cs : List Client) → AreShown number name owed seats cs → AreShown number name owed (without_client n seats) (without (is_client n) (change (is_client n) f cs))
gone number name owed n f kept [] [] shown = tt
gone number name owed n f kept [] (c ∷ cs) shown = absurd shown
gone number name owed n f kept (seat ∷ seats) [] shown = absurd shown
gone number name owed n f kept (seat ∷ seats) (c ∷ cs) shown =
    gone_by number name owed n f seat seats c (without (is_client n) (change (is_client n) f cs)) kept shown.0 (gone number name owed n f kept seats cs shown.1) (seat.client.id == n) refl

-- of one that is found, and is to be closed
over_in : (s : State) (n : ℕ) (cs : List Client) (c : Client) → find (is_client n) cs ≡ Some c → (c.is_closing || s.is_stopped) ≡ true → list_any (may_shut s n) cs ≡ true
over_in s n [] c found over = absurd (cc found)
over_in s n (x ∷ cs) c found over = by (λ isnt. over_in s n cs c (sym (ap (λ (b : Bool). cond b (Some x) (find (is_client n) cs)) isnt) ∙ found) over) (is_client n x) refl
  where
    by : (is_client n x ≡ false → list_any (may_shut s n) cs ≡ true) → (b : Bool) → is_client n x ≡ b → (is_client n x && (x.is_closing || s.is_stopped) || list_any (may_shut s n) cs) ≡ true
    by more true is =
        let same : x ≡ c = let e : Some x ≡ Some c = sym (ap (λ (b : Bool). cond b (Some x) (find (is_client n) cs)) is) ∙ found in cc e in
        ap (λ (b : Bool). b && (x.is_closing || s.is_stopped) || list_any (may_shut s n) cs) is
        ∙ ap (λ (y : Client). (y.is_closing || s.is_stopped) || list_any (may_shut s n) cs) same
        ∙ ap (λ (b : Bool). b || list_any (may_shut s n) cs) over
    by more false isnt = ap (λ (b : Bool). b && (x.is_closing || s.is_stopped) || list_any (may_shut s n) cs) isnt ∙ more isnt

pub shuts_lead : ShutsLead
shuts_lead number n i owed seats seat s at there to =
    let found : IsFound number s.settings.name owed seat n s.clients = places number s.settings.name owed seats s.clients n i seat to.down.shown at there in (
      leads_on refl (goes_shut s n to.down.none to.down.at (over_in s n s.clients found.client found.there (ap (λ (b : Bool). b || s.is_stopped) (sym found.shows.closing) ∙ to.over))) (shut n s) refl,
      record {
        none = ap (λ (o : Frame). o.has_made_room) (shut_frame n s) ∙ to.down.none;
        at = ap (λ (o : Frame). o.phase) (shut_frame n s) ∙ to.down.at;
        shown = subst (λ (p : Bytes × List Client). AreShown number p.0 owed (without_client n seats) p.1) (sym (seen_shut n s)) (gone number s.settings.name owed n (closing_by false) (λ x. refl) seats s.clients to.down.shown);
      },
    )
