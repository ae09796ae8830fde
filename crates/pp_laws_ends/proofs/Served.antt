-- Who has something to say and who may send a request is served, and each connection whose full pipe is that of a reply that is passed.
use Rattle.std.proofs.Common.{◌≡◌, refl, ℕ, ◌-◌, Bool, true, false, not, ◌==◌, ◌&&◌, ◌||◌, List, [], ◌∷◌, ◌++◌, length, is_some, Option, Some, None, option_map, inl, inr, ap, ◌∙◌}
use Rattle.std.specs.List.{list_any}
use Rattle.pp_pass.specs.Pipe.{Pipe, coding_len, pipe_len, room_of}
use Rattle.pp_text.specs.Bytes.{is_empty}
use Rattle.pp_law.specs.Asking.{has_room}
use Rattle.pp_law.specs.Connections.{exchange, front_of_line, is_exchange, is_for, is_outstanding, place_for}
use Rattle.pp_law.specs.Lists.{Bytes, is_some_with, is_this}
use Rattle.pp_law.specs.Offers.{body_part, has_to_say, is_at_body, offer, passed_part, piece, reply_part}
use Rattle.pp_law.specs.Phases.{ending}
use Rattle.pp_law.specs.Requests.{has_request}
use Rattle.pp_law.specs.Served.{has_full_pipe, has_to_ask, is_far_ahead, is_furthest, is_held_back, is_nowhere, is_stopped, is_waiting, reads_first, reads_rightly, same, waits_for_body, wants_read, wants_write}
use Rattle.pp_law.specs.Stages.{is_passing, passed_of, reply_of}
use Rattle.pp_law.specs.State.{State, Client, Conn, Exchange, Passed, Reply}
use Rattle.pp_law.specs.Table.{is_next_held, next_of}
use Rattle.pp_law.specs.Turn.{waits_for_exchange}
use Rattle.pp_laws.specs.Runs.{IsIn}
use Rattle.pp_laws.proofs.Lists.{in_find}
use Rattle.pp_laws.proofs.Tests.{first_holds, same_number, second_holds}
use Rattle.pp_obeys.proofs.Silent.{both_hold}
use Rattle.pp_laws_ends.specs.Ends.{AllStand, AreAmid, AskersAreServed, ConnectionsAreServed, IsClientServed, IsConnServed, IsExchangeServed, IsHeldBackBy, PlacedAreServed, SpeakersAreServed, UnplacedAreServed, is_amid_passed, owes_body, reads_conn, wants_of}
use Rattle.pp_laws_ends.proofs.Ahead.{far_ahead, or_first, or_second}
use Rattle.pp_laws_ends.proofs.Nowhere.{no_place}
use Rattle.pp_laws_ends.proofs.Standing.{all_stand}
use Rattle.pp_laws_ends.proofs.Wanted.{any_of, same_self}

-- ---- lists

some_back : (xs ys : Bytes) → is_empty ys ≡ false → is_empty (xs ++ ys) ≡ false
some_back [] ys is = is
some_back (x ∷ xs) ys is = refl

in_any : {A : Type 0} (p : A → Bool) (xs : List A) → list_any p xs ≡ true → (x : A) × IsIn x xs × (p x ≡ true)
in_any p [] is = absurd (cc is)
in_any {A} p (x ∷ xs) is = by (p x) refl is (in_any p xs)
  where
    by : (t : Bool) → p x ≡ t → (t || list_any p xs) ≡ true → (list_any p xs ≡ true → (y : A) × IsIn y xs × (p y ≡ true)) → (y : A) × IsIn y (x ∷ xs) × (p y ≡ true)
    by true hit at rest = (x, inl refl, hit)
    by false miss at rest = let w = rest at in (w.0, inr w.1, w.2)

-- ---- clients

pub speaks : (u : State) → AllStand u → (c : Client) → IsIn c u.clients → has_to_say u c ≡ true → IsClientServed u c
speaks u h c i says =
    ap (λ b. elim b as (λ x. Bool) [ true ↦ wants_write (wants_of u) c.number | false ↦ not (wants_write (wants_of u) c.number) && is_waiting u (wants_of u) c ]) says
    ∙ (h.clients c i).1 ∙ says

pub speakers_served : SpeakersAreServed
speakers_served terms s log obeys c i says = speaks (ending s) (all_stand terms s log obeys) c i says

asks_next : (u : State) → AllStand u → (c : Client) → IsIn c u.clients → has_request c.front ≡ false → c.has_hung_up ≡ false → has_room c ≡ true → IsClientServed u c
asks_next u h c i none on room = by (has_to_say u c) refl
  where
    reads : wants_read (wants_of u) c.number ≡ true
    reads =
        (h.clients c i).0 ∙ both_hold (not c.has_hung_up && has_room c) (not (has_request c.front) || owes_body u c)
        (both_hold (not c.has_hung_up) (has_room c) (ap not on) room) (or_first (not (has_request c.front)) (owes_body u c) (ap not none))

    silent : has_to_say u c ≡ false → (not (wants_write (wants_of u) c.number) && is_waiting u (wants_of u) c) ≡ true
    silent isnt =
        both_hold (not (wants_write (wants_of u) c.number)) (is_waiting u (wants_of u) c) (ap not ((h.clients c i).1 ∙ isnt))
        (or_first (not (has_request c.front) && wants_read (wants_of u) c.number) (waits_for_exchange u c) (both_hold (not (has_request c.front)) (wants_read (wants_of u) c.number) (ap not none) reads))

    by : (t : Bool) → has_to_say u c ≡ t → IsClientServed u c
    by true says = speaks u h c i says
    by false isnt =
        ap (λ b. elim b as (λ x. Bool) [ true ↦ wants_write (wants_of u) c.number | false ↦ not (wants_write (wants_of u) c.number) && is_waiting u (wants_of u) c ]) isnt
        ∙ silent isnt

pub askers_served : AskersAreServed
askers_served terms s log obeys c i none on room = asks_next (ending s) (all_stand terms s log obeys) c i none on room

-- ---- a pipe without room

pub record Full (e : Exchange) (c : Client) : Type 0 where
  pub its : is_for e c ≡ true
  pub passed : Passed
  pub is : passed_of c ≡ Some passed
  pub full : (room_of passed.pipe == 0) ≡ true

pub full_of : (e : Exchange) (c : Client) → has_full_pipe e c ≡ true → Full e c
full_of e c is = by (is_for e c) refl is
  where
    has : is_for e c ≡ true → (o : Option Passed) → passed_of c ≡ o → is_some_with (λ n. n == 0) (option_map (λ (p : Passed). room_of p.pipe) o) ≡ true → Full e c
    has its None none at = absurd (cc at)
    has its (Some p) some at = record { its = its; passed = p; is = some; full = at }

    by : (t : Bool) → is_for e c ≡ t → is_some_with (λ n. n == 0) (elim t as (λ x. Option ℕ) [ false ↦ None | true ↦ option_map (λ (p : Passed). room_of p.pipe) (passed_of c) ]) ≡ true → Full e c
    by false isnt at = absurd (cc at)
    by true its at = has its (passed_of c) refl at

-- so it has bytes
some_bytes : (p : Pipe) → (room_of p == 0) ≡ true → is_empty p.bytes ≡ false
some_bytes p full = by p.bytes p.is_coded full
  where
    by : (bytes : List ℕ) (t : Bool) → ((elim t as (λ x. ℕ) [ true ↦ pipe_len - length bytes - coding_len | false ↦ pipe_len - length bytes ]) == 0) ≡ true → is_empty bytes ≡ false
    by [] true at = absurd (cc at)
    by [] false at = absurd (cc at)
    by (b ∷ bytes) t at = refl

record Amid (c : Client) : Type 0 where
  reply : Reply
  is : reply_of c ≡ Some reply
  begun : reply.has_begun ≡ true
  passes : is_passing reply.decision ≡ true

amid_of : (c : Client) → is_amid_passed c ≡ true → Amid c
amid_of c amid = by (reply_of c) refl amid
  where
    by : (o : Option Reply) → reply_of c ≡ o → is_some_with (λ (r : Reply). r.has_begun && is_passing r.decision) o ≡ true → Amid c
    by None none at = absurd (cc at)
    by (Some r) some at = record { reply = r; is = some; begun = first_holds r.has_begun (is_passing r.decision) at; passes = second_holds r.has_begun (is_passing r.decision) at }

part_says : (u : State) (e : Exchange) (c : Client) (a : Amid c) (f : Full e c) → is_empty (reply_part u c) ≡ false
part_says u e c a f =
    ap (λ o. is_empty (elim o as (λ y. Bytes) [ None ↦ [] | Some x ↦ elim x.has_begun as (λ y. Bytes) [ false ↦ [] | true ↦ x.head_left ++ body_part u c x ] ])) a.is
    ∙ ap (λ b. is_empty (elim b as (λ y. Bytes) [ false ↦ [] | true ↦ a.reply.head_left ++ body_part u c a.reply ])) a.begun
    ∙ some_back a.reply.head_left (body_part u c a.reply) body
  where
    body : is_empty (body_part u c a.reply) ≡ false
    body =
        ap (λ b. is_empty (elim b as (λ y. Bytes) [ true ↦ passed_part c | false ↦ elim (next_of u c) as (λ y. Bytes) [ None ↦ [] | Some n ↦ piece u n ] ])) a.passes
        ∙ ap (λ o. is_empty (elim o as (λ y. Bytes) [ None ↦ [] | Some p ↦ p.pipe.bytes ])) f.is
        ∙ some_bytes f.passed.pipe f.full

says_full : (u : State) (e : Exchange) (c : Client) → is_amid_passed c ≡ true → has_full_pipe e c ≡ true → has_to_say u c ≡ true
says_full u e c amid full = or_first (not (is_empty (offer u c))) (is_at_body c && is_some_with (is_next_held u) (next_of u c)) (by (is_empty c.interim_left) refl)
  where
    by : (t : Bool) → is_empty c.interim_left ≡ t → not (is_empty (elim t as (λ y. Bytes) [ false ↦ c.interim_left | true ↦ reply_part u c ])) ≡ true
    by false some = ap not some
    by true none = ap not (part_says u e c (amid_of c amid) (full_of e c full))

-- ---- connections

first_there : (u : State) (k : Conn) (e : Exchange) → front_of_line u k ≡ Some e → IsIn e u.exchanges
first_there u k e is = by k.line is
  where
    by : (line : List ℕ) → (elim line as (λ x. Option Exchange) [ [] ↦ None | n ∷ ns ↦ exchange u n ]) ≡ Some e → IsIn e u.exchanges
    by [] at = absurd (cc at)
    by (n ∷ ns) at = (in_find (is_exchange n) e u.exchanges at).0

module _ (u : State) (h : AllStand u) (ahead : (e : Exchange) → is_far_ahead u e ≡ true → IsHeldBackBy u e) (amid : AreAmid u) where
  held : (e : Exchange) → IsIn e u.exchanges → is_stopped u e ≡ true → is_held_back u (wants_of u) e ≡ true
  held e here stops = by (list_any (has_full_pipe e) u.clients) refl stops
    where
      written : (c : Client) → IsIn c u.clients → has_to_say u c ≡ true → (has_full_pipe e c || is_furthest u e c) ≡ true → is_held_back u (wants_of u) e ≡ true
      written c i says holds =
          any_of (λ d. wants_write (wants_of u) d.number && (has_full_pipe e d || is_furthest u e d)) c u.clients i
          (both_hold (wants_write (wants_of u) c.number) (has_full_pipe e c || is_furthest u e c) ((h.clients c i).1 ∙ says) holds)

      by : (t : Bool) → list_any (has_full_pipe e) u.clients ≡ t → (t || is_far_ahead u e) ≡ true → is_held_back u (wants_of u) e ≡ true
      by true full at =
          let w = in_any (has_full_pipe e) u.clients full in
          written w.0 w.1 (says_full u e w.0 (amid e w.0 here w.1 w.2) w.2) (or_first (has_full_pipe e w.0) (is_furthest u e w.0) w.2)
      by false none at =
          let b = ahead e at in
          written b.client b.there b.says (or_second (has_full_pipe e b.client) (is_furthest u e b.client) b.furthest)

  reads_so : (k : Conn) → IsIn k u.conns → k.is_reached ≡ true → reads_rightly u (wants_of u) k ≡ true
  reads_so k i reached = by (front_of_line u k) refl
    where
      wants : wants_read (wants_of u) k.number ≡ reads_conn u k
      wants = (h.conns k i).0

      reads : (o : Option Exchange) → front_of_line u k ≡ o → wants_read (wants_of u) k.number ≡ (elim o as (λ x. Bool) [ None ↦ true | Some e ↦ not (is_outstanding e && is_stopped u e) ])
      reads o is =
          wants ∙ ap (λ b. b && (elim (front_of_line u k) as (λ x. Bool) [ None ↦ true | Some e ↦ not (is_outstanding e && is_stopped u e) ])) reached
          ∙ ap (λ p. elim p as (λ x. Bool) [ None ↦ true | Some e ↦ not (is_outstanding e && is_stopped u e) ]) is

      stopped : (e : Exchange) → IsIn e u.exchanges → wants_read (wants_of u) k.number ≡ not (is_stopped u e) → (t : Bool) → is_stopped u e ≡ t
          → (elim t as (λ x. Bool) [ true ↦ not (wants_read (wants_of u) k.number) && is_held_back u (wants_of u) e | false ↦ wants_read (wants_of u) k.number ]) ≡ true
      stopped e here read true is = both_hold (not (wants_read (wants_of u) k.number)) (is_held_back u (wants_of u) e) (ap not (read ∙ ap not is)) (held e here is)
      stopped e here read false is = read ∙ ap not is

      first : (e : Exchange) → front_of_line u k ≡ Some e → (t : Bool) → is_outstanding e ≡ t → (not t || reads_first u (wants_of u) k e) ≡ true
      first e is false early = refl
      first e is true out = stopped e (first_there u k e is) (reads (Some e) is ∙ ap (λ b. not (b && is_stopped u e)) out) (is_stopped u e) refl

      by : (o : Option Exchange) → front_of_line u k ≡ o → (elim o as (λ x. Bool) [ None ↦ wants_read (wants_of u) k.number | Some e ↦ not (is_outstanding e) || reads_first u (wants_of u) k e ]) ≡ true
      by None none = reads None none
      by (Some e) some = first e some (is_outstanding e) refl

  conn_served : (k : Conn) → IsIn k u.conns → IsConnServed u k
  conn_served k i = by k.is_reached refl
    where
      asks : k.is_reached ≡ true → wants_write (wants_of u) k.number ≡ has_to_ask u k
      asks reached = (h.conns k i).1 ∙ ap (λ b. b && has_to_ask u k) reached

      by : (t : Bool) → k.is_reached ≡ t → (not t || (same (has_to_ask u k) (wants_write (wants_of u) k.number) && reads_rightly u (wants_of u) k)) ≡ true
      by false early = refl
      by true reached =
          both_hold (same (has_to_ask u k) (wants_write (wants_of u) k.number)) (reads_rightly u (wants_of u) k)
          (ap (λ b. same (has_to_ask u k) b) (asks reached) ∙ same_self (has_to_ask u k)) (reads_so k i reached)

pub conns_served : ConnectionsAreServed
conns_served terms s log obeys amid k i = conn_served (ending s) (all_stand terms s log obeys) (far_ahead terms s log obeys) amid k i

-- ---- exchanges

pub unplaced_served : UnplacedAreServed
unplaced_served terms s log obeys isnt may e i none =
    ap (λ o. elim o as (λ x. Bool) [ None ↦ is_nowhere (place_for (ending s) e) | Some k ↦ not (waits_for_body (ending s) e) || is_some_with (wants_read (wants_of (ending s))) e.asker ]) none
    ∙ ap is_nowhere (no_place terms s log obeys isnt may e i none)

pub asks_it : (e : Exchange) (c : Client) → is_for e c ≡ true → e.asker ≡ Some c.number
asks_it e c is = by e.asker is
  where
    by : (o : Option ℕ) → is_this c.number o ≡ true → o ≡ Some c.number
    by None at = absurd (cc at)
    by (Some m) at = ap (λ n. Some n) (same_number m c.number at)

placed : (u : State) → AllStand u → (e : Exchange) (c : Client) → IsIn e u.exchanges → IsIn c u.clients → is_some e.place ≡ true → is_for e c ≡ true → c.has_hung_up ≡ false → has_room c ≡ true → IsExchangeServed u e
placed u h e c i j has its on room = by e.place refl has
  where
    owes : waits_for_body u e ≡ true → owes_body u c ≡ true
    owes waits =
        any_of (λ d. is_some d.place && is_for d c && waits_for_body u d) e u.exchanges i
        (both_hold (is_some e.place && is_for e c) (waits_for_body u e) (both_hold (is_some e.place) (is_for e c) has its) waits)

    reads : waits_for_body u e ≡ true → wants_read (wants_of u) c.number ≡ true
    reads waits =
        (h.clients c j).0 ∙ both_hold (not c.has_hung_up && has_room c) (not (has_request c.front) || owes_body u c)
        (both_hold (not c.has_hung_up) (has_room c) (ap not on) room) (or_second (not (has_request c.front)) (owes_body u c) (owes waits))

    waiting : (t : Bool) → waits_for_body u e ≡ t → (not t || is_some_with (wants_read (wants_of u)) e.asker) ≡ true
    waiting false isnt = refl
    waiting true waits = ap (λ o. is_some_with (wants_read (wants_of u)) o) (asks_it e c its) ∙ reads waits

    by : (o : Option ℕ) → e.place ≡ o → is_some o ≡ true
        → (elim o as (λ x. Bool) [ None ↦ is_nowhere (place_for u e) | Some k ↦ not (waits_for_body u e) || is_some_with (wants_read (wants_of u)) e.asker ]) ≡ true
    by None none at = absurd (cc at)
    by (Some k) some at = waiting (waits_for_body u e) refl

pub placed_served : PlacedAreServed
placed_served terms s log obeys e c i j has its on room = placed (ending s) (all_stand terms s log obeys) e c i j has its on room
