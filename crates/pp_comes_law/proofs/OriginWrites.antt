-- An origin can be written to, as it was waited for.
use Rattle.std.proofs.Common.{◌≡◌, ◌≤◌, refl, sym, subst, ap, ◌∙◌, ℕ, Bool, true, false, ◌&&◌, if◌then◌else◌, length, List, [], ◌∷◌, ◌++◌, find, Option, Some, None, arith}
use Rattle.std.specs.List.{list_all}
use Rattle.std.specs.Option.{option_and_then}
use Rattle.pp_cache_law.specs.Pairs.{AreBoth}
use Rattle.pp_comes_law.proofs.OriginAsked.{IsAloneIn, IsAskedFirst, asked_first, rested_asks}
use Rattle.pp_comes_law.proofs.OriginThere.{answers_first, goes_on, keys_given, shown}
use Rattle.pp_comes_law.proofs.OriginWanted.{IsWanted, first_of_three, may_be, wanted_one}
use Rattle.pp_comes_law.specs.Awaited.{HasComeTo, IsAwaited}
use Rattle.pp_comes_law.specs.Origins.{IsOfOrigin, OriginWritesCome}
use Rattle.pp_comes_law.proofs.SettledOnes.{settled_so}
use Rattle.pp_events_law.proofs.WriteWhole.{writes_whole}
use Rattle.pp_events_law.specs.Ready.{HasLedReadyBehind}
use Rattle.pp_events_law.specs.Writable.{MayBeAsked}
use Rattle.pp_flow.specs.Changes.{entry_of, first_of}
use Rattle.pp_flow.specs.Entries.{is_number}
use Rattle.pp_flow.specs.declared.entry.Entry.{Entry}
use Rattle.pp_law.specs.Asking.{asking, left_in}
use Rattle.pp_law.specs.Connections.{exchange, is_client, is_conn, is_exchange}
use Rattle.pp_law.specs.Lists.{Bytes, first_some}
use Rattle.pp_law.specs.Offers.{has_to_say}
use Rattle.pp_law.specs.Served.{has_to_ask, may_read, may_write}
use Rattle.pp_law.specs.State.{State, Conn, Exchange, Term}
use Rattle.pp_law.specs.Turn.{rest_with, rested_conn}
use Rattle.pp_laws.proofs.Lists.{in_find}
use Rattle.pp_laws.proofs.Tests.{first_holds, same_number, second_holds}
use Rattle.pp_laws.specs.Runs.{IsIn}
use Rattle.pp_laws_turn.proofs.Laws.{sound_turns}
use Rattle.pp_laws_turn.specs.SoundTurn.{IsSoundTurn}
use Rattle.pp_links.specs.Links.{AreOpen, IsLinked, Link}
use Rattle.pp_places_law.specs.Around.{AreAskable, IsAskable}
use Rattle.pp_proxy.specs.Moving.{Turning}
use Rattle.pp_seats_law.specs.Exchanges.{ShowsExchange}
use Rattle.pp_world.proofs.LogLemmas.{side_of-push}
use Rattle.pp_world.specs.Connections.{side_after}
use Rattle.pp_world.specs.Log.{Log}
use Rattle.pp_world.specs.declared.event.Event.TheVariants.{Writable}
use Rattle.pp_world.specs.declared.event.Side.{Side}
use Rattle.pp_world.specs.declared.happening.Happening.{Happening}
use Rattle.pp_world.specs.declared.happening.Happening.TheVariants.{CanWrite}
use Rattle.pp_world.specs.declared.event.Wants.{Wants}

-- ---- links, over an event that opens and closes nothing

pub linked_on : (log : Log) (h : Happening) (top : ℕ) (links : List Link) → ((id : ℕ) (side : Option Side) → side_after id side h ≡ side) → IsLinked (Some log) top links → IsLinked (Some (log ++ h ∷ [])) top links
linked_on log h top links neutral it = record { given = it.given; apart = it.apart; opened = record { at = λ l is. let e : log ++ h ∷ [] ≡ l = cc in subst (AreOpen links) e (λ k d within. side_of-push _ log h ∙ neutral _ _ ∙ it.opened.at log refl k d within) } }

-- ---- texts

askable_in : (p : Entry → Bool) (xs : List Entry) (x : Entry) → AreAskable xs → find p xs ≡ Some x → IsAskable x
askable_in p [] x all is = absurd (cc is)
askable_in p (y ∷ ys) x all is = by (p y) (λ more. askable_in p ys x all.1 more) is
  where
    by : (b : Bool) → (find p ys ≡ Some x → IsAskable x) → (if b then Some y else find p ys) ≡ Some x → IsAskable x
    by true rest is = let e : y ≡ x = cc in subst IsAskable e all.0
    by false rest is = rest is

text_in : (number : ℕ → ℕ) (p : Entry → Bool) (waiting placed : List Entry) (e : Exchange) → AreAskable waiting → AreAskable placed → AreBoth (ShowsExchange number) (first_of (find p waiting) (find p placed)) (Some e) → length e.text ≤ 16384
text_in number p waiting placed e one two shows = by (find p waiting) (find p placed) refl refl shows
  where
    of : (x : Entry) → IsAskable x → ShowsExchange number x e → length e.text ≤ 16384
    of x ok same = subst (λ (t : Bytes). length t ≤ 16384) same.text ok.short

    by : (a b : Option Entry) → find p waiting ≡ a → find p placed ≡ b → AreBoth (ShowsExchange number) (first_of a b) (Some e) → length e.text ≤ 16384
    by (Some x) b is at same = of x (askable_in p waiting x one is) same
    by None (Some x) is at same = of x (askable_in p placed x two at) same
    by None None is at same = absurd same

-- ---- it is asked

alone_in : (s : State) (j : Conn) → IsSoundTurn s → IsIn j s.conns → IsAloneIn s j.line
alone_in s j sound i m e within there body =
    let found = in_find (is_exchange m) e s.exchanges there in
    let here : IsIn e.number j.line = subst (λ n. IsIn n j.line) (sym (same_number e.number m found.1)) within in
    let one : j.line ≡ e.number ∷ [] = sound.by_itself j e i found.0 here (sound.bodies e found.0 body) in
    subst (λ (ns : List ℕ). length ns ≤ 1) (sym one) (omega arith)

module _ (terms : List Term) (log : Log) (number : ℕ → ℕ) (w : Wants) (x : Turning) (u : State) (it : IsAwaited terms log number w x u) (k : ℕ) (off : IsOfOrigin k x) (came : HasComeTo log w (Writable k) x) where
  abbrev s : State
  s = rest_with w u

  pub wanted : IsWanted w u k (λ j. is_conn k j && j.is_reached && has_to_ask u j)
  wanted =
      wanted_one terms log number w x u it k (λ c. is_client k c && has_to_say u c) (λ j. is_conn k j && j.is_reached && has_to_ask u j) off (λ c. first_holds (is_client k c) (has_to_say u c)) (λ j. first_of_three (is_conn k j) j.is_reached (has_to_ask u j))
      (may_be (may_write u) k w.write.items (second_holds (list_all (may_read u) w.read.items) (list_all (may_write u) w.write.items) it.good.no_more) came.wanted)

  abbrev its : Conn
  its = rested_conn u w wanted.was

  to_ask : has_to_ask s its ≡ true
  to_ask = rested_asks w u wanted.was ∙ second_holds (is_conn k wanted.was && wanted.was.is_reached) (has_to_ask u wanted.was) wanted.holds

  sound : IsSoundTurn s
  sound = sound_turns terms s log it.obeys

  pub first : IsAskedFirst s its.line
  first = let peer = shown terms log number w x u it its wanted.here in asked_first s its.line peer.0.pipe.asks (peer.1.pipe (goes_on terms log number w x u it its wanted.here)).line (alone_in s its sound wanted.here) to_ask

  next : asking s k ≡ Some first.asked
  next = ap (λ (o : Option Conn). elim o as (λ t. Option Exchange) [ None ↦ None | Some j ↦ first_some (λ m. option_and_then left_in (exchange s m)) j.line ]) wanted.there ∙ first.first

  short : length first.asked.text ≤ 16384
  short =
      text_in number (is_number first.number) x.moving.desk.state.flow.waiting x.moving.desk.state.flow.placed first.asked it.waiting it.placed
      (subst (λ (o : Option Exchange). AreBoth (ShowsExchange number) (entry_of first.number x.moving.desk.state.flow) o) first.there (it.stands.desk.turn.steps.shows.exchanges.each first.number))

  pub may_be_asked : MayBeAsked k x s its first.asked
  may_be_asked = record {
    there = wanted.there;
    going = goes_on terms log number w x u it its wanted.here;
    next = next;
    some = first.some;
    few = let few : length its.line ≤ 8 = sound.bounded.lines its wanted.here in omega (arith, few);
    short = short;
    answers = λ a is. answers_first terms log number w x u it its a wanted.here is;
    linked = subst (λ (o : Option Log). IsLinked o x.moving.top x.moving.links) (sym came.told) (linked_on log (CanWrite k) x.moving.top x.moving.links (λ id side. refl) it.linked);
    settled = settled_so terms log number w x u it;
  }

pub origin_writes_come : OriginWritesCome
origin_writes_come k terms log number w x y u off it came handles bounded straight =
    let led : HasLedReadyBehind number (CanWrite k) x y (rest_with w u) = writes_whole terms log number k x y (rest_with w u) _ _ it.obeys it.stands it.ready (may_be_asked terms log number w x u it k off came) bounded handles in
    record { led = led.led; ready = led.ready (keys_given terms log number w x y u (Writable k) it handles straight) }
