-- An ask that is given up and over, and what counts before asks are given up and behind that.
use Rattle.std.proofs.Common.{◌≡◌, refl, ℕ, Bool, true, false, not, ◌&&◌, ◌||◌, List, [], ◌∷◌, filter, is_some, Option, Some, None, inl, inr, sym, ap, ◌∙◌, le_refl}
use Rattle.std.specs.List.{list_any}
use Rattle.pp_valid.specs.declared.version.Version.{Version}
use Rattle.pp_law.specs.Closing.{left_alone}
use Rattle.pp_law.specs.Connections.{is_exchange}
use Rattle.pp_law.specs.Followers.{give_up_asks, is_useless_ask, is_wanted_by}
use Rattle.pp_law.specs.Lists.{change, is_some_with, is_this}
use Rattle.pp_law.specs.Stages.{filled_of}
use Rattle.pp_law.specs.State.{State, Client, Exchange, Instance}
use Rattle.pp_law.specs.Table.{brings, next_of}
use Rattle.pp_laws.specs.Runs.{IsIn}
use Rattle.pp_laws.proofs.Lists.{Changed, in_change, in_filter, other, same}
use Rattle.pp_laws_turn.proofs.View.{Holds, facts_of, holds}
use Rattle.pp_laws_coming.proofs.Alone.{apart_left, from_left}
use Rattle.pp_laws_coming.proofs.Asks.{FromAsk, fewer_come}
use Rattle.pp_laws_coming.proofs.Facts.{AreFollowers, Coming, Counts, Early, Facts}

-- ---- one that is given up is over

pub given_over : {late : Bool} (n : ℕ) (cs : List Client) (es : List Exchange) (next : ℕ) (xs : List Instance) (next_row : ℕ) → Facts late None cs es next xs next_row
    → Facts late None cs (filter (λ e. not (is_exchange n e)) (change (is_exchange n) left_alone es)) next xs next_row
given_over {late} n cs es next xs next_row h =
    fewer_come None cs es (filter (λ e. not (is_exchange n e)) (change (is_exchange n) left_alone es)) next xs next_row (λ e i. from_left (is_exchange n) es e (in_filter (λ x. not (is_exchange n x)) e (change (is_exchange n) left_alone es) i).0)
    (λ d e i j eq. apart_left (is_exchange n) es h.apart d e (in_filter (λ x. not (is_exchange n x)) d (change (is_exchange n) left_alone es) i).0 (in_filter (λ x. not (is_exchange n x)) e (change (is_exchange n) left_alone es) j).0 eq) followers h
  where
    followers : AreFollowers late (filter (λ e. not (is_exchange n e)) (change (is_exchange n) left_alone es))
    followers e i counts nowhere nobody = by (in_change (is_exchange n) left_alone e es at.0)
      where
        at : IsIn e (change (is_exchange n) left_alone es) × (not (is_exchange n e) ≡ true)
        at = in_filter (λ x. not (is_exchange n x)) e (change (is_exchange n) left_alone es) i

        by : Changed (is_exchange n) left_alone es e → ⊥
        by (same j isnt) = h.placeless e j counts nowhere nobody
        by (other x j hit eq) =
            let its : is_exchange n e ≡ true = ap (λ (y : Exchange). is_exchange n y) eq ∙ hit in
            let both : false ≡ true = sym (ap not its) ∙ at.1 in
            cc both

-- ---- before asks are given up, and behind that

-- fewer count
pub sooner : {late : Bool} (cs : List Client) (es : List Exchange) (next : ℕ) (xs : List Instance) (next_row : ℕ) → Facts late None cs es next xs next_row → Facts false None cs es next xs next_row
sooner {late} cs es next xs next_row h = record {
  callers = h.callers;
  apart = h.apart;
  given = h.given;
  one = h.one;
  fresh = h.fresh;
  headed = h.headed;
  placeless = λ e i counts nowhere nobody. h.placeless e i (by e counts) nowhere nobody;
  rowed = h.rowed;
  settled = h.settled;
  told = h.told;
}
  where
    by : (e : Exchange) → Counts false e → Counts late e
    by e (inl is) = absurd (cc is)
    by e (inr none) = inr none

-- where none is nobody's and nowhere, each counts
later : (cs : List Client) (es : List Exchange) (next : ℕ) (xs : List Instance) (next_row : ℕ) → AreFollowers true es → Facts false None cs es next xs next_row → Facts true None cs es next xs next_row
later cs es next xs next_row followers h = record {
  callers = h.callers;
  apart = h.apart;
  given = h.given;
  one = h.one;
  fresh = h.fresh;
  headed = h.headed;
  placeless = followers;
  rowed = h.rowed;
  settled = h.settled;
  told = h.told;
}

none_wants : (s : State) (e : Exchange) (cs : List Client) → e.asker ≡ None → list_any (is_wanted_by s e) cs ≡ false
none_wants s e [] nobody = refl
none_wants s e (c ∷ cs) nobody =
    ap (λ (o : Option ℕ). (is_this c.number o && is_some_with (λ n. brings s n.source n.at e) (next_of s c)) || list_any (is_wanted_by s e) cs) nobody ∙ none_wants s e cs nobody

-- who is nobody's and nowhere fills a hole, and brings nothing to a client of its own
useless_so : (s : State) (e : Exchange) (v : Version) → filled_of e ≡ Some v → e.place ≡ None → e.asker ≡ None → is_useless_ask s e ≡ true
useless_so s e v fills nowhere nobody =
    ap (λ (o : Option Version). is_some o && not (is_some e.place) && not (list_any (is_wanted_by s e) s.clients)) fills
    ∙ (ap (λ (o : Option ℕ). not (is_some o) && not (list_any (is_wanted_by s e) s.clients)) nowhere ∙ ap not (none_wants s e s.clients nobody))

pub give_up-late : (s : State) → Holds Early s → Holds (Coming true) (give_up_asks s)
unfolding give_up_asks
give_up-late s h =
    holds
    (later s.clients left s.next_exchange s.instances s.next_instance followers
    (fewer_come None s.clients s.exchanges left s.next_exchange s.instances s.next_instance from (λ d e i j eq. (facts_of h).apart d e (here d i) (here e j) eq) (λ e i. (facts_of h).placeless e (here e i)) (facts_of h)))
  where
    left : List Exchange
    left = filter (λ e. not (is_useless_ask s e)) s.exchanges

    here : (e : Exchange) → IsIn e (filter (λ x. not (is_useless_ask s x)) s.exchanges) → IsIn e s.exchanges
    here e i = (in_filter (λ x. not (is_useless_ask s x)) e s.exchanges i).0

    from : (e : Exchange) → IsIn e (filter (λ x. not (is_useless_ask s x)) s.exchanges) → FromAsk s.exchanges e
    from e i = record { was = e; there = here e i; number = refl; fills = refl; asker = λ n is. is; headed = refl; placed = λ is was. was; asked = λ was. was; key = refl; left = le_refl e.body_left; bound = λ to is. record { to = to; is = is; instance = refl } }

    followers : AreFollowers true (filter (λ x. not (is_useless_ask s x)) s.exchanges)
    followers e i counts nowhere nobody = by (filled_of e) refl
      where
        by : (o : Option Version) → filled_of e ≡ o → ⊥
        by None none = (facts_of h).placeless e (here e i) (inr none) nowhere nobody
        by (Some v) fills =
            let both : false ≡ true = sym (ap not (useless_so s e v fills nowhere nobody)) ∙ (in_filter (λ x. not (is_useless_ask s x)) e s.exchanges i).1 in
            cc both
