-- All clients are shut, and then all connections to origins are dropped: each may be, and behind the last the log may end.
use Rattle.std.proofs.Common.{◌≡◌, refl, sym, subst, ap, ap₂, ◌∙◌, ℕ, Bool, true, false, not, ◌||◌, ◌&&◌, ◌==◌, List, [], ◌∷◌, map, is_some, Option, Some, None, option_and_then}
use Rattle.std.specs.List.{list_any}
use Rattle.pp_turns_law.proofs.AllDropped.{at_it, stays}
use Rattle.pp_turns_law.specs.Log.{IsConnecting}
use Rattle.pp_law.specs.After.{after, changed, dropped, out, shut}
use Rattle.pp_law.specs.Closing.{close_client}
use Rattle.pp_law.specs.Connections.{AllPlaced, Placement, conn, exchange, if_unplaced, is_conn, place_each, placing}
use Rattle.pp_law.specs.Due.{due_of}
use Rattle.pp_law.specs.Lists.{first_some}
use Rattle.pp_law.specs.Opening.{is_at}
use Rattle.pp_law.specs.Permits.{IsPermitted, gives_way, is_over as may_be_over, is_permitted, may_drop, may_shut, permits, permits_behind_forgotten}
use Rattle.pp_law.specs.Phases.{behind, come_to, in_phase, is_done, is_done_with, is_placed, is_under_way, may_end, may_in, next, phases}
use Rattle.pp_law.specs.State.{State, Client, Conn, Exchange, Phase, Connecting, DecidingAgain}
use Rattle.pp_laws.proofs.Lists.{in_find}
use Rattle.pp_laws.proofs.Sound.{client_number, conn_number}
use Rattle.pp_laws.specs.Numbers.{AreRising}
use Rattle.pp_laws.specs.Runs.{IsIn}
use Rattle.pp_laws_turn.proofs.Clients.{close_client-keeps}
use Rattle.pp_laws_turn.proofs.View.{facts_of, holds, view}
use Rattle.pp_obeys.proofs.Come.{come-stopped, enters}
use Rattle.pp_obeys.proofs.Frames.{Frame, frame, frame_of, stays as frame_stays}
use Rattle.pp_obeys.proofs.StaysTable.{close_client-stays}
use Rattle.pp_obeys.specs.Moves.{Leads}
use Rattle.pp_text.specs.Bytes.{is_empty}
use Rattle.pp_world.specs.Log.{Log}
use Rattle.pp_world.specs.declared.happening.Happening.TheVariants.{Dropped, Shut}
use Rattle.pp_rounds_law.proofs.Nowhere.{AreGoing, are_going, close_client-going, going_of}
use Rattle.pp_rounds_law.proofs.Numbered.{any_first, find_first, first_out}
use Rattle.pp_rounds_law.proofs.There.{AreThere, there_walk}

pub record IsStopping (s : State) : Type 0 where
  pub connecting : IsConnecting s
  pub stopped : s.is_stopped ≡ true

stops_still : (s t : State) → frame false t ≡ frame false s → IsStopping s → IsStopping t
stops_still s t same is = record {
  connecting = record { at = ap (λ (f : Frame). f.phase) same ∙ is.connecting.at; none = ap (λ (f : Frame). f.made_room_for) same ∙ is.connecting.none };
  stopped = ap (λ (f : Frame). f.is_stopped) same ∙ is.stopped;
}

-- ---- a client

may_be_shut : (s : State) (n : ℕ) → IsConnecting s → list_any (may_shut s n) s.clients ≡ true → IsPermitted s (Shut n)
unfolding is_permitted permits
may_be_shut s n is any =
    ap (λ (o : Option ℕ). elim o as (λ t. Bool) [ Some who ↦ permits_behind_forgotten s (Shut n) | None ↦ may_in Connecting (λ t. list_any (may_shut t n) t.clients) s ]) is.none
    ∙ ap (λ (t : State). elim (is_at Connecting t) as (λ u. Bool) [ true ↦ list_any (may_shut t n) t.clients | false ↦ false ]) (stays s is)
    ∙ ap (λ (b : Bool). elim b as (λ u. Bool) [ true ↦ list_any (may_shut s n) s.clients | false ↦ false ]) (at_it s is)
    ∙ any

goes_shut : (s : State) (n : ℕ) → IsConnecting s → after s (Shut n) ≡ shut n s
unfolding changed
goes_shut s n is = ap (λ (t : State). shut n t) (stays s is)

shut_frame : (n : ℕ) (s : State) → frame false (shut n s) ≡ frame false s
unfolding shut
shut_frame n s = frame_of {all = false} (close_client-stays n false s (frame_stays refl))

shut_going : (n : ℕ) (s : State) → AreGoing s → AreGoing (shut n s)
unfolding shut
shut_going n s all = are_going (going_of (close_client-going n false s all))

shut_there : (n : ℕ) (ns ks : List ℕ) (s : State) → AreRising (n ∷ ns) → AreThere (n ∷ ns) ks (view s) → AreThere ns ks (view (shut n s))
unfolding shut
shut_there n ns ks s rise there =
    let closed : AreThere (n ∷ ns) ks (view (close_client n false s)) = facts_of (close_client-keeps (there_walk (n ∷ ns) ks) n false s (holds there)) in
    record { clients = first_out client_number n ns (close_client n false s).clients rise.0 closed.clients; conns = closed.conns }

abbrev pub shut_in : List ℕ → Log
shut_in ns = map (λ n. Shut n) ns

pub record AllShut (ns ks : List ℕ) (s : State) : Type 0 where
  pub state : State
  pub leads : Leads (shut_in ns) s state
  pub stopping : IsStopping state
  pub there : AreThere [] ks (view state)
  pub going : AreGoing state

pub each_shut : (ns ks : List ℕ) (s : State) → AreRising ns → IsStopping s → AreThere ns ks (view s) → AreGoing s → AllShut ns ks s
each_shut [] ks s rise is there all = record { state = s; leads = refl; stopping = is; there = there; going = all }
each_shut (n ∷ ns) ks s rise is there all =
    let rest : AllShut ns ks (shut n s) = each_shut ns ks (shut n s) rise.1 (stops_still s (shut n s) (shut_frame n s) is) (shut_there n ns ks s rise there) (shut_going n s all) in
    record {
      state = rest.state;
      leads = record {
        awake = refl;
        may = λ failed. may_be_shut s n is.connecting (any_first client_number (λ c. c.is_closing) s.is_stopped n ns s.clients is.stopped there.clients);
        holds = subst (λ (t : State). Leads (shut_in ns) t rest.state) (sym (goes_shut s n is.connecting)) rest.leads;
      };
      stopping = rest.stopping;
      there = rest.there;
      going = rest.going;
    }

-- ---- nobody is there any more, and each exchange has a place

pub record IsQuiet (s : State) : Type 0 where
  pub stopping : IsStopping s
  pub clients : s.clients ≡ []
  pub placed : (e : Exchange) → IsIn e s.exchanges → is_some e.place ≡ true

next_one : (x : Placement) (f : Exchange → Placement) (o : Option Exchange) → o ≡ None → (elim o as (λ t. Placement) [ None ↦ x | Some e ↦ f e ]) ≡ x
next_one x f None is = refl
next_one x f (Some e) is = absurd (cc is)

none_unplaced : (s : State) (n : ℕ) → ((e : Exchange) → IsIn e s.exchanges → is_some e.place ≡ true) → option_and_then if_unplaced (exchange s n) ≡ None
none_unplaced s n placed = by (exchange s n) refl
  where
    at : (e : Exchange) (o : Option ℕ) → is_some o ≡ true → (elim o as (λ t. Option Exchange) [ Some k ↦ None | None ↦ Some e ]) ≡ None
    at e (Some k) is = refl
    at e None is = absurd (cc is)

    by : (o : Option Exchange) → exchange s n ≡ o → option_and_then if_unplaced o ≡ None
    by None is = refl
    by (Some e) is = at e e.place (placed e (in_find (λ (d : Exchange). d.number == n) e s.exchanges is).0)

all_placed : (ns : List ℕ) (s : State) → ((e : Exchange) → IsIn e s.exchanges → is_some e.place ≡ true) → place_each ns s ≡ record { state = s; pause = AllPlaced }
all_placed [] s placed = refl
all_placed (n ∷ ns) s placed = next_one (place_each ns s) _ (option_and_then if_unplaced (exchange s n)) (none_unplaced s n placed) ∙ all_placed ns s placed

none_placing : (s : State) → ((e : Exchange) → IsIn e s.exchanges → is_some e.place ≡ true) → placing s ≡ record { state = s; pause = AllPlaced }
none_placing s placed = all_placed (map (λ e. e.number) s.exchanges) s placed

-- ---- a connection

may_be_dropped : (s : State) (n : ℕ) → IsConnecting s → list_any (λ k. is_conn n k && (k.is_closing || s.is_stopped)) s.conns ≡ true → IsPermitted s (Dropped n)
unfolding is_permitted permits
may_be_dropped s n is any =
    ap (λ (o : Option ℕ). elim o as (λ t. Bool) [ Some who ↦ permits_behind_forgotten s (Dropped n) | None ↦ may_in Connecting (λ t. may_drop t n) s ]) is.none
    ∙ ap (λ (t : State). elim (is_at Connecting t) as (λ u. Bool) [ true ↦ may_drop t n | false ↦ false ]) (stays s is)
    ∙ ap (λ (b : Bool). elim b as (λ u. Bool) [ true ↦ may_drop s n | false ↦ false ]) (at_it s is)
    ∙ ap (λ (b : Bool). b || gives_way s n) any

goes_out : (s : State) (n : ℕ) (k : Conn) → IsQuiet s → conn s n ≡ Some k → after s (Dropped n) ≡ out n s
unfolding changed dropped
goes_out s n k quiet there =
    ap (λ (t : State). dropped n t) (stays s quiet.stopping.connecting)
    ∙ ap (λ (o : Option Conn). elim o as (λ t. State) [ None ↦ s | Some j ↦ elim j.is_closing as (λ t. State) [ true ↦ out n s | false ↦ out n (placing s).state ] ]) there
    ∙ by k.is_closing
  where
    by : (b : Bool) → (elim b as (λ t. State) [ true ↦ out n s | false ↦ out n (placing s).state ]) ≡ out n s
    by true = refl
    by false = ap (λ (p : Placement). out n p.state) (none_placing s quiet.placed)

out_quiet : (n : ℕ) (s : State) → IsQuiet s → IsQuiet (out n s)
unfolding out
out_quiet n s quiet = record { stopping = stops_still s (out n s) refl quiet.stopping; clients = quiet.clients; placed = quiet.placed }

out_conns : (n : ℕ) (ns : List ℕ) (s : State) → AreRising (n ∷ ns) → map conn_number s.conns ≡ n ∷ ns → map conn_number (out n s).conns ≡ ns
unfolding out
out_conns n ns s rise there = first_out conn_number n ns s.conns rise.0 there

abbrev pub dropped_in : List ℕ → Log
dropped_in ns = map (λ n. Dropped n) ns

pub record AllOut (ns : List ℕ) (s : State) : Type 0 where
  pub state : State
  pub leads : Leads (dropped_in ns) s state
  pub quiet : IsQuiet state
  pub conns : map conn_number state.conns ≡ []

pub each_out : (ns : List ℕ) (s : State) → AreRising ns → IsQuiet s → map conn_number s.conns ≡ ns → AllOut ns s
each_out [] s rise quiet there = record { state = s; leads = refl; quiet = quiet; conns = there }
each_out (n ∷ ns) s rise quiet there =
    let rest : AllOut ns (out n s) = each_out ns (out n s) rise.1 (out_quiet n s quiet) (out_conns n ns s rise there) in
    let its : (k : Conn) × (conn s n ≡ Some k) = find_first conn_number n ns s.conns there in
    record {
      state = rest.state;
      leads = record {
        awake = refl;
        may = λ failed. may_be_dropped s n quiet.stopping.connecting (any_first conn_number (λ k. k.is_closing) s.is_stopped n ns s.conns quiet.stopping.stopped there);
        holds = subst (λ (t : State). Leads (dropped_in ns) t rest.state) (sym (goes_out s n its.0 quiet its.1)) rest.leads;
      };
      quiet = rest.quiet;
      conns = rest.conns;
    }

-- ---- the log may end

pub ends : (s : State) → IsQuiet s → s.conns ≡ [] → may_be_over s ≡ true
unfolding next come_to
ends s quiet none =
    ap (λ (b : Bool). (not (is_under_way s) || b) && (not s.is_stopped || (is_empty s.clients && is_empty s.conns))) may
    ∙ ap (λ (b : Bool). b && (not s.is_stopped || (is_empty s.clients && is_empty s.conns))) (or_true (not (is_under_way s)))
    ∙ ap₂ (λ (cs : List Client) (ks : List Conn). not s.is_stopped || (is_empty cs && is_empty ks)) quiet.clients none
    ∙ or_true (not s.is_stopped)
  where
    or_true : (b : Bool) → (b || true) ≡ true
    or_true true = refl
    or_true false = refl

    at : s.phase ≡ Connecting
    at = quiet.stopping.connecting.at

    done : is_done s ≡ true
    done =
        ap (λ (p : Phase). is_done_with p s) at
        ∙ ap₂ (λ (a : Bool) (p : Placement). not a && is_placed p.pause)
        (ap₂ (λ (cs : List Client) (ks : List Conn). list_any (λ c. c.is_closing) cs || list_any (λ k. k.is_closing) ks) quiet.clients none) (none_placing s quiet.placed)

    early : s.phase ≡ DecidingAgain → ⊥
    early is = let both : Connecting ≡ DecidingAgain = sym at ∙ is in cc both

    behind_is : next s ≡ in_phase DecidingAgain s
    behind_is = ap (λ (p : Phase). behind p s) at ∙ ap (λ (p : Placement). p.state) (none_placing (in_phase DecidingAgain s) quiet.placed)

    at_last : is_at DecidingAgain (next s) ≡ true
    at_last = ap (λ (t : State). is_at DecidingAgain t) behind_is

    comes : come_to DecidingAgain (next s) ≡ next s
    comes = come-stopped (is_at DecidingAgain) phases (next s) at_last

    nothing : is_done (next s) ≡ true
    nothing = ap (λ (t : State). is_done t) behind_is ∙ ap (λ (cs : List Client). not (is_some (first_some (due_of (in_phase DecidingAgain s)) cs))) quiet.clients

    last : may_in DecidingAgain is_done (next s) ≡ true
    last =
        ap (λ (t : State). elim (is_at DecidingAgain t) as (λ c. Bool) [ true ↦ is_done t | false ↦ false ]) comes
        ∙ ap (λ (b : Bool). elim b as (λ c. Bool) [ true ↦ is_done (next s) | false ↦ false ]) at_last
        ∙ nothing

    may : may_end s ≡ true
    may = (enters DecidingAgain is_done s (record { done = done; early = early }) last).may
