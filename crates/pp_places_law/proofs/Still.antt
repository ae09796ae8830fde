-- Connections are placed still, as an attempt is lost, as an exchange is over, and as followers ask for what is missing.
use Rattle.std.proofs.Common.{◌≡◌, ◌≤◌, refl, sym, subst, ap, ap₂, ◌∙◌, ℕ, Bool, true, false, ◌||◌, find, map, List, [], ◌∷◌, Option, Some, None, Result, Ok, Err}
use Rattle.std.specs.List.{list_any}
use Rattle.std.specs.Prelude.{count_by}
use Rattle.pp_cache_law.proofs.Finds.{find_mapped}
use Rattle.pp_cache_law.proofs.PairLemmas.{count_mapped_same}
use Rattle.pp_law.specs.Closing.{forsake, leave}
use Rattle.pp_law.specs.Connections.{charge, client, conn, each_client, end_exchange, give_up_row, is_client, is_conn, is_for, is_trying, is_unfilled, lose_attempt, on_client, on_client_of, on_exchange, without_ask, without_row, anew, attempts_of, lost_one}
use Rattle.pp_law.specs.Deciding.{add_exchange, begin_exchange}
use Rattle.pp_law.specs.Decisions.{fits}
use Rattle.pp_law.specs.Followers.{fill, fill_for, fill_next, fill_span, fill_with, filling_exchange, need_of}
use Rattle.pp_law.specs.Lists.{Bytes, change}
use Rattle.pp_law.specs.Requests.{Front, Parsed, NoHeadYet, NoHead, IsRequest}
use Rattle.pp_law.specs.Stages.{is_begun}
use Rattle.pp_law.specs.State.{State, Client, Conn, Exchange, AskTooLong}
use Rattle.pp_law.specs.Table.{Next, clear, next_of, swept}
use Rattle.pp_obeys.proofs.Frames.{Frame, frame}
use Rattle.pp_places_law.proofs.Fits.{any_mapped, given_at}
use Rattle.pp_places_law.specs.Around.{MayPlace}
use Rattle.pp_target.specs.Key.{Key, text_of}
use Rattle.pp_target.specs.declared.target.TargetFault.{TargetFault}

-- ---- connections stay, and no client is closing

record Quiet (ks : List Conn) (s : State) : Type 0 where
  conns : s.conns ≡ ks
  clients : list_any (λ c. c.is_closing) s.clients ≡ false

quiet_if : {ks : List Conn} (b : Bool) {s t : State} → Quiet ks s → Quiet ks t → Quiet ks (elim b as (λ u. State) [ true ↦ s | false ↦ t ])
quiet_if true one two = one
quiet_if false one two = two

quiet_of : {A : Type 0} {ks : List Conn} (o : Option A) {s : State} {f : A → State} → Quiet ks s → ((a : A) → Quiet ks (f a)) → Quiet ks (elim o as (λ u. State) [ None ↦ s | Some a ↦ f a ])
quiet_of None one each = one
quiet_of (Some a) one each = each a

abbrev changed_if : (Client → Bool) → (Client → Client) → Client → Client
changed_if test f c = elim (test c) as (λ u. Client) [ true ↦ f c | false ↦ c ]

none_closes : (test : Client → Bool) (f : Client → Client) (cs : List Client) → ((c : Client) → (f c).is_closing ≡ c.is_closing) → list_any (λ (c : Client). c.is_closing) cs ≡ false → list_any (λ (c : Client). c.is_closing) (change test f cs) ≡ false
none_closes test f cs same none = any_mapped (λ (c : Client). c.is_closing) (changed_if test f) cs (λ c. by c (test c)) ∙ none
  where
    by : (c : Client) (b : Bool) → (elim b as (λ u. Client) [ true ↦ f c | false ↦ c ]).is_closing ≡ c.is_closing
    by c true = same c
    by c false = refl

on_client_quiet : {ks : List Conn} (n : ℕ) (f : Client → Client) (s : State) → ((c : Client) → (f c).is_closing ≡ c.is_closing) → Quiet ks s → Quiet ks (on_client n f s)
unfolding on_client
on_client_quiet n f s same quiet = record { conns = quiet.conns; clients = none_closes (is_client n) f s.clients same quiet.clients }

on_client_of_quiet : {ks : List Conn} (e : Exchange) (f : Client → Client) (s : State) → ((c : Client) → (f c).is_closing ≡ c.is_closing) → Quiet ks s → Quiet ks (on_client_of e f s)
unfolding on_client_of
on_client_of_quiet e f s same quiet = record { conns = quiet.conns; clients = none_closes (is_for e) f s.clients same quiet.clients }

on_exchange_quiet : {ks : List Conn} (n : ℕ) (f : Exchange → Exchange) (s : State) → Quiet ks s → Quiet ks (on_exchange n f s)
unfolding on_exchange
on_exchange_quiet n f s quiet = record { conns = quiet.conns; clients = quiet.clients }

clear_quiet : {ks : List Conn} (key : Bytes) (s : State) → Quiet ks s → Quiet ks (clear key s)
unfolding clear swept
clear_quiet key s quiet = record { conns = quiet.conns; clients = quiet.clients }

without_row_same : (c : Client) → (without_row c).is_closing ≡ c.is_closing
without_row_same c = by (is_begun c || c.has_given_up)
  where
    by : (b : Bool) → (elim b as (λ t. Client) [ true ↦ c | false ↦ record c { course = anew c.course; has_given_up = true } ]).is_closing ≡ c.is_closing
    by true = refl
    by false = refl

give_up_row_quiet : {ks : List Conn} (e : Exchange) (s : State) → Quiet ks s → Quiet ks (give_up_row e s)
unfolding give_up_row
give_up_row_quiet e s quiet = quiet_if (is_unfilled s e) (on_exchange_quiet e.number _ _ (on_client_of_quiet e without_row _ without_row_same (clear_quiet (text_of e.key) s quiet))) quiet

lose_attempt_quiet : {ks : List Conn} (e : Exchange) (s : State) → Quiet ks s → Quiet ks (lose_attempt e s)
unfolding lose_attempt charge
lose_attempt_quiet e s quiet = give_up_row_quiet e _ (on_client_of_quiet e (λ c. record c { course = lost_one (attempts_of e) c.course }) s (λ c. refl) quiet)

begin_quiet : {ks : List Conn} (e : Exchange) (s : State) → Quiet ks s → Quiet ks (begin_exchange e s)
unfolding begin_exchange add_exchange leave forsake
begin_quiet e s quiet = record { conns = quiet.conns; clients = quiet.clients }

fill_with_quiet : {ks : List Conn} (e : Exchange) (c : Client) (s : State) → Quiet ks s → Quiet ks (fill_with e c s)
unfolding fill_with
fill_with_quiet e c s quiet = quiet_if (fits e.text) (begin_quiet e s quiet) (on_client_quiet c.number (λ x. record x { course = AskTooLong }) s (λ x. refl) quiet)

fill_span_quiet : {ks : List Conn} (c : Client) (n : Next) (span : ℕ × ℕ) (s : State) → Quiet ks s → Quiet ks (fill_span c n span s)
unfolding fill_span
fill_span_quiet {ks} c n span s quiet = by c.front
  where
    named : (r : Parsed) → Quiet ks (elim r.key as (λ x. State) [ Ok key ↦ fill_with (filling_exchange s c r.head key n span) c s | Err fault ↦ s ])
    named r = at r.key
      where
        at : (o : Result Key TargetFault) → Quiet ks (elim o as (λ x. State) [ Ok key ↦ fill_with (filling_exchange s c r.head key n span) c s | Err fault ↦ s ])
        at (Ok key) = fill_with_quiet (filling_exchange s c r.head key n span) c s quiet
        at (Err fault) = quiet

    by : (front : Front) → Quiet ks (elim front as (λ x. State) [
      | NoHeadYet ↦ s
      | NoHead status ↦ s
      | IsRequest r ↦ elim r.key as (λ x. State) [ Ok key ↦ fill_with (filling_exchange s c r.head key n span) c s | Err fault ↦ s ]
    ])
    by NoHeadYet = quiet
    by (NoHead status) = quiet
    by (IsRequest r) = named r

fill_next_quiet : {ks : List Conn} (c : Client) (n : Next) (s : State) → Quiet ks s → Quiet ks (fill_next c n s)
unfolding fill_next
fill_next_quiet c n s quiet = quiet_of (need_of s n) quiet (λ span. fill_span_quiet c n span s quiet)

fill_for_quiet : {ks : List Conn} (c : Client) (s : State) → Quiet ks s → Quiet ks (fill_for c s)
unfolding fill_for
fill_for_quiet c s quiet = quiet_if (is_trying c.course) (quiet_of (next_of s c) quiet (λ n. fill_next_quiet c n s quiet)) quiet

each_quiet : {ks : List Conn} (ns : List ℕ) (s : State) → Quiet ks s → Quiet ks (each_client fill_for ns s)
unfolding each_client
each_quiet [] s quiet = quiet
each_quiet (n ∷ ns) s quiet = each_quiet ns _ (quiet_of (client s n) quiet (λ c. fill_for_quiet c s quiet))

fill_quiet : {ks : List Conn} (s : State) → Quiet ks s → Quiet ks (fill s)
unfolding fill
fill_quiet s quiet = quiet_if s.is_stopped quiet (each_quiet (map (λ (c : Client). c.number) s.clients) s quiet)

-- ---- so they are placed still

second_none : (a b : Bool) → (a || b) ≡ false → (a ≡ false) × (b ≡ false)
second_none true b none = absurd (let bad : true ≡ false = none in cc bad)
second_none false b none = (refl, none)

quiet_now : (s : State) → MayPlace s → Quiet s.conns s
quiet_now s may = record { conns = refl; clients = (second_none (list_any (λ c. c.is_closing) s.clients) (list_any (λ k. k.is_closing) s.conns) may.closed).0 }

still_may : (s t : State) → MayPlace s → frame false t ≡ frame false s → Quiet s.conns t → MayPlace t
still_may s t may same quiet = record {
  connecting = record { at = ap (λ (f : Frame). f.phase) same ∙ may.connecting.at; none = ap (λ (f : Frame). f.made_room_for) same ∙ may.connecting.none };
  going = ap (λ (f : Frame). f.is_stopped) same ∙ may.going;
  closed =
      ap₂ (λ (a b : Bool). a || b) quiet.clients
      (ap (λ (ks : List Conn). list_any (λ k. k.is_closing) ks) quiet.conns ∙ (second_none (list_any (λ c. c.is_closing) s.clients) (list_any (λ k. k.is_closing) s.conns) may.closed).1);
  apart = λ m. subst (λ (ks : List Conn). count_by (is_conn m) ks ≤ 1) (sym quiet.conns) (may.apart m);
  given = λ m j there. subst (λ (top : ℕ). m ≤ top) (sym (ap (λ (f : Frame). f.top) same)) (may.given m j (ap (λ (ks : List Conn). find (is_conn m) ks) (sym quiet.conns) ∙ there));
}

pub lost_may : (e : Exchange) (s : State) → MayPlace s → frame false (lose_attempt e s) ≡ frame false s → MayPlace (lose_attempt e s)
lost_may e s may same = still_may s (lose_attempt e s) may same (lose_attempt_quiet e s (quiet_now s may))

pub fill_may : (s : State) → MayPlace s → frame false (fill s) ≡ frame false s → MayPlace (fill s)
fill_may s may same = still_may s (fill s) may same (fill_quiet s (quiet_now s may))

ended_same : (n : ℕ) (s : State) → ((end_exchange n s).clients ≡ s.clients) × ((end_exchange n s).conns ≡ map (without_ask n) s.conns)
unfolding end_exchange
ended_same n s = (refl, refl)

pub over_may : (n : ℕ) (s : State) → MayPlace s → frame false (end_exchange n s) ≡ frame false s → MayPlace (end_exchange n s)
over_may n s may same = record {
  connecting = record { at = ap (λ (f : Frame). f.phase) same ∙ may.connecting.at; none = ap (λ (f : Frame). f.made_room_for) same ∙ may.connecting.none };
  going = ap (λ (f : Frame). f.is_stopped) same ∙ may.going;
  closed =
      ap₂ (λ (cs : List Client) (ks : List Conn). list_any (λ c. c.is_closing) cs || list_any (λ k. k.is_closing) ks) (ended_same n s).0 (ended_same n s).1
      ∙ ap (λ (b : Bool). list_any (λ c. c.is_closing) s.clients || b) (any_mapped (λ (k : Conn). k.is_closing) (without_ask n) s.conns (λ k. refl))
      ∙ may.closed;
  apart = λ m. subst (λ (c : ℕ). c ≤ 1) (sym (ap (λ (ks : List Conn). count_by (is_conn m) ks) (ended_same n s).1 ∙ count_mapped_same (is_conn m) (without_ask n) s.conns (λ k. refl))) (may.apart m);
  given = λ m j there.
      subst (λ (top : ℕ). m ≤ top) (sym (ap (λ (f : Frame). f.top) same))
      (given_at s m (conn s m) (without_ask n) j may refl (sym (find_mapped (is_conn m) (without_ask n) s.conns (λ k. refl)) ∙ ap (λ (ks : List Conn). find (is_conn m) ks) (sym (ended_same n s).1) ∙ there));
}
