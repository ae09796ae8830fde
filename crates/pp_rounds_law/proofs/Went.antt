-- What decisions leave of a turn: connections that are open, by their numbers, and what is set.
use Rattle.std.proofs.Common.{◌≡◌, refl, sym, subst, ap, ◌∙◌, ℕ, suc, Bool, true, false, ◌==◌, cond, find, length, List, [], ◌∷◌, Option, Some, None}
use Rattle.std.specs.Prelude.{option_map}
use Rattle.pp_deciding_law.proofs.Found.{IsButForMemory}
use Rattle.pp_desk.specs.Closings.{Sides, closed_client, closing_at, left_at, left_by_errand, left_own, peer_numbers, place_on, sides, unasked, unasked_at, unasked_of, with_parts, withdrawn}
use Rattle.pp_desk.specs.declared.desk.Desk.{Desk}
use Rattle.pp_flow.specs.Changes.{Exchanges, entry_of}
use Rattle.pp_flow.specs.declared.entry.Entry.{Entry}
use Rattle.pp_flow.specs.declared.entry.Exchange.{Exchange}
use Rattle.pp_flow.specs.declared.errand.Errand.{Errand}
use Rattle.pp_peers.specs.Peers.{is_number}
use Rattle.pp_peers.specs.declared.peers.Peer.{Peer}
use Rattle.pp_places_law.proofs.Askable.{CanBeAsked}
use Rattle.pp_places_law.proofs.Links.{numbers_piped}
use Rattle.pp_places_law.specs.Around.{AreAskable}
use Rattle.pp_proxy.specs.Deciding.{TakesOne}
use Rattle.pp_proxy.specs.Moving.{Moving, with_state}
use Rattle.pp_proxy.specs.Taking.{TakesDueOf, who_at}
use Rattle.pp_seats.specs.declared.due.Due.{Due}
use Rattle.pp_seats.specs.declared.due.Due.TheVariants.{Decide, CutOff}
use Rattle.pp_state.specs.Ends.{Parts, exchange_of, forsaken, numbers_of, parts}
use Rattle.pp_state.specs.declared.state.State.{State as Turn}
use Rattle.pp_steps.specs.Evicting.{given_way as state_given_way}
use Rattle.pp_take.specs.Deciding.{afforded}
use Rattle.pp_world.specs.Log.{Log}
use Rattle.pp_rounds_law.proofs.Asked.{takes_can, way_can}
use Rattle.pp_rounds_law.proofs.Asking.{cut_can}

pub record Went (x y : Moving) : Type 0 where
  pub links : y.links ≡ x.links
  pub top : y.top ≡ x.top
  pub numbers : numbers_of y.desk.state.seats.items ≡ numbers_of x.desk.state.seats.items
  pub peers : peer_numbers y.desk.peers ≡ peer_numbers x.desk.peers
  pub limits : y.desk.state.limits ≡ x.desk.state.limits
  pub awake : y.desk.state.awake ≡ x.desk.state.awake
  pub stopped : y.desk.state.is_stopped ≡ x.desk.state.is_stopped
  pub away : y.desk.turned_away ≡ x.desk.turned_away
  pub asked : CanBeAsked (parts x.desk.state) → CanBeAsked (parts y.desk.state)

pub went_then : (x y z : Moving) → Went x y → Went y z → Went x z
went_then x y z one two = record {
  links = two.links ∙ one.links;
  top = two.top ∙ one.top;
  numbers = two.numbers ∙ one.numbers;
  peers = two.peers ∙ one.peers;
  limits = two.limits ∙ one.limits;
  awake = two.awake ∙ one.awake;
  stopped = two.stopped ∙ one.stopped;
  away = two.away ∙ one.away;
  asked = λ can. two.asked (one.asked can);
}

-- what is looked for changes what is in memory alone
pub went_found : (x : Moving) (found : Turn) → IsButForMemory x.desk.state found → Went x (with_state found x)
went_found x found same = record {
  links = refl;
  top = refl;
  numbers = ap (λ (r : Turn). numbers_of r.seats.items) same;
  peers = refl;
  limits = ap (λ (r : Turn). r.limits) same;
  awake = ap (λ (r : Turn). r.awake) same;
  stopped = ap (λ (r : Turn). r.is_stopped) same;
  away = refl;
  asked = λ can. subst (λ (f : Exchanges). AreAskable f.waiting × AreAskable f.placed) (sym (ap (λ (r : Turn). r.flow) same)) can;
}

-- ---- a client is closed: an ask may be taken out of a pipe

taken_out : (k place : ℕ) (o : Option Peer) (ps : List Peer) → peer_numbers (unasked_of k place o ps) ≡ peer_numbers ps
taken_out k place None ps = refl
taken_out k place (Some peer) ps = numbers_piped k (unasked place peer.pipe) ps

out_at : (k : ℕ) (o : Option ℕ) (ps : List Peer) → peer_numbers (unasked_at k o ps) ≡ peer_numbers ps
out_at k None ps = refl
out_at k (Some place) ps = taken_out k place (find (is_number k) ps) ps

own_numbers : (i : ℕ) (o : Option Exchange) (x : Sides) → peer_numbers (left_own i o x).peers ≡ peer_numbers x.peers
own_numbers i None x = refl
own_numbers i (Some e) x = by (option_map (λ (y : Entry). y.errand) (entry_of e.number x.parts.flow))
  where
    asked : (b : Bool) (k : ℕ) → peer_numbers (cond b (withdrawn e.number k x) (with_parts (forsaken i) x)).peers ≡ peer_numbers x.peers
    asked true k = out_at k (place_on k e.number x.parts.flow) x.peers
    asked false k = refl

    at : (errand : Errand) (o : Option ℕ) → peer_numbers (left_at i e.number errand o x).peers ≡ peer_numbers x.peers
    at errand None = refl
    at errand (Some k) = asked (errand.asked == 0) k

    by : (o : Option Errand) → peer_numbers (left_by_errand i e o x).peers ≡ peer_numbers x.peers
    by None = refl
    by (Some errand) = at errand e.place

cut_numbers : (i : ℕ) (x : Sides) → peer_numbers (closed_client i x).peers ≡ peer_numbers x.peers
cut_numbers i x = own_numbers i (exchange_of i (closing_at i x.parts)) (with_parts (closing_at i) x)

-- ---- one is taken

due_numbers : (o : Option (ℕ × ℕ)) (i : ℕ) (due : Due) (old new : Desk) → TakesDueOf o i due old new → peer_numbers new.peers ≡ peer_numbers old.peers
due_numbers None i due old new is = ap (λ (x : Sides). peer_numbers x.peers) is
due_numbers (Some who) i (Decide d) old new is = ap peer_numbers is.1
due_numbers (Some who) i (CutOff cause) old new is = ap (λ (x : Sides). peer_numbers x.peers) is ∙ cut_numbers i (sides old)

due_can : (o : Option (ℕ × ℕ)) (i : ℕ) (due : Due) (old new : Desk) → TakesDueOf o i due old new → CanBeAsked (parts old.state) → CanBeAsked (parts new.state)
due_can None i due old new is can = subst (λ (x : Sides). CanBeAsked x.parts) (sym is) can
due_can (Some who) i (Decide d) old new is can =
    subst (λ (p : Parts). CanBeAsked p) (sym is.0.is)
    (takes_can old.state.name.items i (afforded i d old.state) (parts (state_given_way (afforded i d old.state) i old.state)) is.0.between (way_can (afforded i d old.state) i old.state can) is.0.takes)
due_can (Some who) i (CutOff cause) old new is can = subst (λ (x : Sides). CanBeAsked x.parts) (sym is) (cut_can i (sides old) can)

pub went_one : (i : ℕ) (due : Due) (x : Moving) (log : Log) (y : Moving) → TakesOne i due x log y → Went x y
went_one i due x log y takes = record {
  links = takes.links;
  top = takes.top;
  numbers = takes.numbers;
  peers = due_numbers (who_at i x.desk.state) i due x.desk y.desk takes.is;
  limits = ap (λ (d : Desk). d.state.limits) takes.rest;
  awake = ap (λ (d : Desk). d.state.awake) takes.rest;
  stopped = ap (λ (d : Desk). d.state.is_stopped) takes.rest;
  away = ap (λ (d : Desk). d.turned_away) takes.rest;
  asked = λ can. due_can (who_at i x.desk.state) i due x.desk y.desk takes.is can;
}

-- ---- as many

pub as_many : (ps : List Peer) → length (peer_numbers ps) ≡ length ps
as_many [] = refl
as_many (p ∷ ps) = ap (λ (n : ℕ). suc n) (as_many ps)
