-- Nobody else is written to.
use Rattle.std.proofs.Common.{◌≡◌, refl, sym, ap, ap₂, ◌∙◌, ℕ, zero, suc, Bool, true, false, ◌&&◌, ◌||◌, ◌==◌, cond, nat_lt, length, List, [], ◌∷◌, ◌++◌, Option, Some, None}
use Rattle.std.specs.List.{fold, list_all, list_any}
use Rattle.std.specs.Prelude.{slice_get}
use Rattle.pp_cache_law.proofs.Numbers.{some_is}
use Rattle.pp_desk.specs.declared.desk.Desk.{Desk}
use Rattle.pp_due.specs.Waits.{all_written, is_written, with_written, with_written_by, with_written_of}
use Rattle.pp_endings_law.proofs.Asks.{origins_asked}
use Rattle.pp_endings_law.specs.Waits.{MayBeAsked}
use Rattle.pp_flow_law.specs.Tables.{none_leaves}
use Rattle.pp_law.specs.Connections.{is_client, is_conn}
use Rattle.pp_law.specs.Lists.{has_number}
use Rattle.pp_law.specs.Offers.{has_to_say}
use Rattle.pp_law.specs.Served.{has_to_ask, may_write}
use Rattle.pp_law.specs.State.{State, Client, Conn}
use Rattle.pp_peers.specs.declared.peers.Peer.{Peer}
use Rattle.pp_proxy.specs.Awaiting.{Awaits}
use Rattle.pp_seats.specs.declared.seat.Seat.{Seat}
use Rattle.pp_state.specs.Ends.{parts}
use Rattle.pp_states_law.proofs.Lines.{same_itself}
use Rattle.pp_turns_law.proofs.First.{IsShownAt, seat_shown}
use Rattle.pp_turns_law.proofs.Wanted.{writes}
use Rattle.pp_turns_law.specs.Wants.{numbers_with}
use Rattle.pp_waits_law.proofs.Says.{its_test}
use Rattle.pp_waits_law.proofs.Wanted.{HasConn, conn_at, end_d}
use Rattle.pp_waits_law.specs.Wanted.{MayWant, NoMoreIsWritten}
use Rattle.pp_wants.specs.Awaited.{all_asked, is_asked, with_asked}
use Rattle.pp_world.specs.declared.event.Wants.{Wants}

all_end : (P : ℕ → Bool) (m : ℕ) (ms : List ℕ) → list_all P ms ≡ true → P m ≡ true → list_all P (ms ++ m ∷ []) ≡ true
all_end P m [] all is = ap (λ (b : Bool). b && true) is
all_end P m (k ∷ ms) all is = by (P k) all (λ rest. all_end P m ms rest is)
  where
    by : (b : Bool) → (b && list_all P ms) ≡ true → (list_all P ms ≡ true → list_all P (ms ++ m ∷ []) ≡ true) → (b && list_all P (ms ++ m ∷ [])) ≡ true
    by true rest later = later rest
    by false rest later = absurd (cc rest)

pub one_more : (P : ℕ → Bool) (b : Bool) (m : ℕ) (ms : List ℕ) → list_all P ms ≡ true → (b ≡ true → P m ≡ true) → list_all P (with_written_by b m ms) ≡ true
one_more P false m ms all is = all
one_more P true m ms all is = by (nat_lt (length ms) 320)
  where
    by : (c : Bool) → list_all P (cond c (ms ++ m ∷ []) ms) ≡ true
    by true = all_end P m ms all (is refl)
    by false = all

pub any_at : {A : Type 0} (f : A → Bool) (xs : List A) (i : ℕ) (x : A) → slice_get xs i ≡ Some x → f x ≡ true → list_any f xs ≡ true
any_at f [] i x at is = absurd (cc at)
any_at f (y ∷ ys) zero x at is = ap (λ (b : Bool). b || list_any f ys) (ap f (some_is y x at) ∙ is)
any_at f (y ∷ ys) (suc i) x at is = ap (λ (b : Bool). f y || b) (any_at f ys i x at is) ∙ or_all (f y)
  where
    or_all : (a : Bool) → (a || true) ≡ true
    or_all true = refl
    or_all false = refl

pub or_last : (a b : Bool) → b ≡ true → (a || b) ≡ true
or_last true b is = refl
or_last false b is = is

three : (a b c : Bool) → a ≡ true → (b && c) ≡ true → (a && b && c) ≡ true
three true true true x y = refl
three true true false x y = absurd (cc y)
three true false c x y = absurd (cc y)
three false b c x y = absurd (cc x)

module _ (number : ℕ → ℕ) (before : List ℕ) (w : Wants) (clients : ℕ) (d e : Desk) (s : State) (may : MayWant number before d s) (awaits : Awaits before w clients d e) (asked : (i : ℕ) (k : Conn) → slice_get s.conns i ≡ Some k → MayBeAsked s k) where
  said_at : (i : ℕ) (seat : Seat) → slice_get d.state.seats.items i ≡ Some seat → is_written d.state seat ≡ true → may_write s seat.client.id ≡ true
  said_at i seat here is =
      ap (λ (b : Bool). b || list_any (λ (k : Conn). is_conn seat.client.id k && k.is_reached && has_to_ask s k) s.conns)
      (any_at (λ (c : Client). is_client seat.client.id c && has_to_say s c) s.clients i one.client one.there
      (ap₂ (λ (a b : Bool). a && b) (ap (λ (n : ℕ). n == seat.client.id) own ∙ same_itself seat.client.id) says))
    where
      one : IsShownAt number d.state.name.items d.state.seats.items s.clients i
      one = seat_shown number d.state.name.items d.state.seats.items s.clients i seat may.stands.turn.steps.shows.clients here

      own : one.client.number ≡ seat.client.id
      own = sym one.shows.number ∙ ap (λ (x : Seat). x.client.id) (some_is one.seat seat (sym one.here ∙ here))

      says : has_to_say s one.client ≡ true
      says =
          sym (writes number none_leaves d.peers d.state s (end_d number before w clients d e s may awaits) i one.client one.there)
          ∙ ap (λ (n : ℕ). has_number n (numbers_with (is_written d.state) d.state.seats.items)) own
          ∙ its_test (is_written d.state) d.state.seats.items i seat may.stands.turn.steps.order here
          ∙ is

  asked_at : (j : ℕ) (peer : Peer) → slice_get d.peers j ≡ Some peer → is_asked (parts d.state) peer ≡ true → may_write s peer.number ≡ true
  asked_at j peer here is =
      or_last (list_any (λ (c : Client). is_client peer.number c && has_to_say s c) s.clients) (list_any (λ (k : Conn). is_conn peer.number k && k.is_reached && has_to_ask s k) s.conns)
      (any_at (λ (k : Conn). is_conn peer.number k && k.is_reached && has_to_ask s k) s.conns j its.conn its.there
      (three (is_conn peer.number its.conn) its.conn.is_reached (has_to_ask s its.conn) (ap (λ (n : ℕ). n == peer.number) (sym its.shown.number) ∙ same_itself peer.number)
      (sym (origins_asked number d.peers d.state s j peer its.conn (end_d number before w clients d e s may awaits) may.alone here its.there (asked j its.conn its.there)) ∙ is)))
    where
      its : HasConn s s.conns j peer
      its = conn_at s d.peers s.conns j peer may.stands.turn.steps.shows.conns here

  all_said : (is : List ℕ) (ms : List ℕ) → list_all (may_write s) ms ≡ true → list_all (may_write s) (fold (with_written d.state) ms is) ≡ true
  all_said [] ms all = all
  all_said (i ∷ is) ms all = all_said is (with_written d.state ms i) (by (slice_get d.state.seats.items i) refl)
    where
      by : (o : Option Seat) → slice_get d.state.seats.items i ≡ o → list_all (may_write s) (with_written_of d.state o ms) ≡ true
      by None none = all
      by (Some seat) here = one_more (may_write s) (is_written d.state seat) seat.client.id ms all (λ is. said_at i seat here is)

  all_asked_of : (ps : List Peer) (ms : List ℕ) → ((j : ℕ) (peer : Peer) → slice_get ps j ≡ Some peer → is_asked (parts d.state) peer ≡ true → may_write s peer.number ≡ true) → list_all (may_write s) ms ≡ true → list_all (may_write s) (all_asked (parts d.state) ps ms) ≡ true
  all_asked_of [] ms each all = all
  all_asked_of (peer ∷ ps) ms each all =
      all_asked_of ps (with_asked (parts d.state) ms peer) (λ j x at is. each (suc j) x at is) (one_more (may_write s) (is_asked (parts d.state) peer) peer.number ms all (λ is. each 0 peer refl is))

  no_more : list_all (may_write s) w.write.items ≡ true
  no_more =
      ap (λ (ns : List ℕ). list_all (may_write s) ns) (awaits.write may.stands.turn.steps.order)
      ∙ all_asked_of d.peers (all_written d.state []) asked_at (all_said d.state.awake.items [] refl)

pub no_more_written : NoMoreIsWritten
no_more_written number before w clients d e s may awaits asked = no_more number before w clients d e s may awaits asked
